-- What the bounds and a turn of a loop put, step by step.
use Rattle.std.specs.Prelude.{◌≡◌, ℕ, ℤ, [], ◌∷◌, drop}
use Rattle.alma_base.specs.declared.number.Range.{Range}
use Rattle.alma_code.specs.declared.cell.SlotKind.TheVariants as slot
use Rattle.alma_code.specs.declared.instr.Instr.TheVariants as I
use Rattle.alma_ir.specs.Tree.{Stmts, Expr, Desig}
use Rattle.alma_ir.specs.Phrases.{desig_phrases, expr_phrases}
use Rattle.alma_ir.specs.Lines.{behind, desig_with, expr_with}
use Rattle.alma_lower_work.specs.declared.stand.Stand.{Stand}
use Rattle.alma_lower_work.specs.Front.{Around, Front, Adds, Codes, Takes, Turns}
use Rattle.alma_lower_work.specs.Puts.{PutsTarget, PutsStmts, stand_of, set_instr, value_slot}
use Rattle.alma_lower_parts.specs.Steps.{PutsSlot}
use Rattle.alma_lower_templates.specs.LineInstr.{own}
use Rattle.alma_lower_templates.specs.Slots.{bare, bare_desig, unless_bare, constant, ends_alone, expr_slots}
use Rattle.alma_lower_templates.specs.Pieces.{unless_constant, limit_code}
use Rattle.alma_lower_templates.specs.Templates as T

-- the first count, which has no code where it is a constant; its slot is the first
pub record PutsFirstCount (s : Around) (line : ℕ) (a b : Front) (e : Expr) : Type 0 where
  pub all : Adds a b (λ at lo ls. unless_constant (constant (expr_with e ls))
      (T.expr_code s.program s.tables s.routine line at lo (expr_with e ls)))
      (λ ls. expr_slots s.program s.routine (expr_with e ls)) (behind (expr_phrases e))

-- the limit, into its slot
pub record PutsLimit (s : Around) (line limit : ℕ) (a b : Front) (e : Expr) : Type 0 where
  pub all : Adds a b (λ at lo ls. limit_code (ends_alone (expr_with e ls)) line limit (value_slot s lo (expr_with e ls))
      (unless_bare (bare (expr_with e ls)) (T.expr_code s.program s.tables s.routine line at lo (expr_with e ls))))
      (λ ls. expr_slots s.program s.routine (expr_with e ls)) (behind (expr_phrases e))

-- the step, in a slot of its own, and then the first count and the limit
pub record PutsBounds (s : Around) (line : ℕ) (by : ℤ) (limit : ℕ) (a e : Front) (from to : Expr) (step first : ℕ) : Type 0 where
  pub b : Front
  pub c : Front
  pub d : Front
  pub takes : Takes a b slot.Number
  pub step_slot : step ≡ a.next
  pub codes : Codes b c (own line (I.Const step by ∷ []))
  pub from_put : PutsFirstCount s line c d from
  pub first_slot : first ≡ c.next
  pub to_put : PutsLimit s line limit d e to

-- the lines of the variable of a loop are passed, and its step is put into a slot of its own
pub record BeginsLoop (line : ℕ) (by : ℤ) (a c : Front) (x : Desig) (step : ℕ) : Type 0 where
  pub b : Front
  pub passed : Turns a b (behind (desig_phrases x) a.lines)
  pub step_slot : step ≡ b.next
  pub puts : PutsSlot b c slot.Number (own line (I.Const step by ∷ []))

-- the lines of the variable of a loop are passed, and then come its step and both bounds
pub record PassesAndBounds (s : Around) (line : ℕ) (by : ℤ) (limit : ℕ) (a e : Front) (x : Desig) (from to : Expr) (step first : ℕ)
    : Type 0 where
  pub b : Front
  pub passed : Turns a b (behind (desig_phrases x) a.lines)
  pub bounds : PutsBounds s line by limit b e from to step first

-- the count is checked, the variable is located and set, and the body follows with the lines behind so many of all
pub record PutsTurn (s : Around) (line after : ℕ) (range : Range) (counter : ℕ) (a f : Front) (x : Desig) (body : Stmts) : Type 0 where
  pub b : Front
  pub c : Front
  pub d : Front
  pub e : Front
  pub count : ℕ
  pub stand : Stand
  pub checked : Adds a b (λ at lo ls. own line
      (T.count_code s.program s.tables s.routine (bare_desig (desig_with x a.lines)) range counter lo))
      (λ ls. unless_bare (bare_desig (desig_with x a.lines)) (slot.Number ∷ [])) (λ ls. ls)
  pub count_slot : count ≡ T.count_at s.program s.tables s.routine (bare_desig (desig_with x a.lines)) counter a.next
  pub located : PutsTarget s line b c x
  pub stands : stand ≡ stand_of s b.next (desig_with x b.lines)
  pub set : Codes c d (own line (set_instr stand count ∷ []))
  pub code : e.code ≡ d.code
  pub kinds : e.kinds ≡ d.kinds
  pub next : e.next ≡ d.next
  pub lines : e.lines ≡ drop after d.all_lines
  pub whole : e.all_lines ≡ d.all_lines
  pub body_put : PutsStmts s e f body
