-- Code whose last instruction is changed, and code whose last instruction puts its number into another slot.
use Rattle.std.proofs.Common.{◌≡◌, ℕ, zero, suc, ◌+◌, ◌<◌, true, false, not, List, [], ◌∷◌, ◌++◌, length, Option, Some, None, refl, sym, ap}
use Rattle.std.proofs.Common.{◌∙◌, arith, append-nil, Bool}
use Rattle.std.proofs.lemmas.List.{length-append}
use Rattle.alma_code.specs.declared.instr.Instr.{Instr}
use Rattle.alma_ir.specs.declared.phrase.Op.{Op}
use Rattle.alma_ir.specs.declared.phrase.Op.TheVariants as op
use Rattle.alma_ir.specs.Tree.{Program, Expr, Links, Const, Load, Chain, Compare, Truth, Known, Chr, CallExpr, no_links, more_links, Desig}
use Rattle.alma_mean.specs.Store.{Store, Cell, put}
use Rattle.alma_lower_templates.specs.LineInstr.{LineInstr, own, in_row}
use Rattle.alma_lower_templates.specs.Tables.{Tables, is_whole}
use Rattle.alma_lower_templates.specs.Slots.{bare, bare_desig, is_given, ends_alone, unless_bare, behind_value, if_ready, straight_by}
use Rattle.alma_lower_templates.specs.Slots.{goes_straight}
use Rattle.alma_lower_templates.specs.Pieces.{op_code, aim, with_last, straight}
use Rattle.alma_lower_templates.specs.Templates.{expr_code, links_code, value_at}
use Rattle.std.specs.Prelude.{◌&&◌}
use Rattle.std.proofs.lemmas.Bool.{and_parts}
use Rattle.alma_base.specs.declared.number.Range.{Range}

-- ---- code with its last instruction changed

module _ (change : Instr → Instr) where
  pub last_long : (code : List LineInstr) → length (with_last change code) ≡ length code
  last_long [] = refl
  last_long (x ∷ []) = refl
  last_long (x ∷ (y ∷ rest)) = ap suc (last_long (y ∷ rest))

  last_rest : (a : List LineInstr) (x : LineInstr) (b : List LineInstr) → with_last change (a ++ (x ∷ b)) ≡ a ++ with_last change (x ∷ b)
  last_rest [] x b = refl
  last_rest (y ∷ []) x b = refl
  last_rest (y ∷ (z ∷ a)) x b = ap (λ c. y ∷ c) (last_rest (z ∷ a) x b)

  -- of two parts the second changes, where it has an instruction
  pub last_behind : (a b : List LineInstr) → 0 < length b → with_last change (a ++ b) ≡ a ++ with_last change b
  last_behind a [] some = absurd (omega (arith, some))
  last_behind a (x ∷ b) some = last_rest a x b

  pub last_is : (line : ℕ) (a : List LineInstr) (i : Instr) → with_last change (a ++ own line (i ∷ [])) ≡ a ++ own line (change i ∷ [])
  last_is line a i = last_rest a (record { line = line; instr = i }) []

-- ---- a number that goes into another slot

pub straight_long : (to : ℕ) (code : List LineInstr) → length (straight to code) ≡ length code
straight_long to code = last_long (aim to) code

pub straight_behind : (to : ℕ) (a b : List LineInstr) → 0 < length b → straight to (a ++ b) ≡ a ++ straight to b
straight_behind to a b some = last_behind (aim to) a b some

pub straight_last : (to line : ℕ) (a : List LineInstr) (i : Instr) → straight to (a ++ own line (i ∷ [])) ≡ a ++ own line (aim to i ∷ [])
straight_last to line a i = last_is (aim to) line a i

aim_op : (how : Op) (to old first operand : ℕ) → aim to (op_code how old first operand) ≡ op_code how to first operand
aim_op op.Add to old first operand = refl
aim_op op.Sub to old first operand = refl
aim_op op.Mul to old first operand = refl
aim_op op.Div to old first operand = refl
aim_op op.Mod to old first operand = refl

-- a value that goes straight is no variable of the routine
pub alone_bare : (x : Expr) → ends_alone x ≡ true → bare x ≡ None
alone_bare (Const n) e = refl
alone_bare (Load d) e = by (bare_desig d) e
  where
    by : (o : Option ℕ) → not (is_given o) ≡ true → o ≡ None
    by None h = refl
    by (Some from) h = absurd (let bad : false ≡ true = h in cc)
alone_bare (Chain negated x links) e = refl
alone_bare (Compare how x y) e = absurd (let bad : false ≡ true = e in cc)
alone_bare (Truth t) e = absurd (let bad : false ≡ true = e in cc)
alone_bare (Known d) e = absurd (let bad : false ≡ true = e in cc)
alone_bare (Chr x) e = absurd (let bad : false ≡ true = e in cc)
alone_bare (CallExpr q args up) e = absurd (let bad : false ≡ true = e in cc)

-- what goes straight: into a variable of the routine of all INTEGERs, by the last instruction alone
pub record GoesStraight (d : Desig) (x : Expr) (range : Range) (to : ℕ) : Type 0 where
  pub variable : bare_desig d ≡ Some to
  pub whole : is_whole range ≡ true
  pub alone : ends_alone x ≡ true

pub straight_is : (d : Desig) (x : Expr) (range : Range) (to : ℕ) → goes_straight d x range ≡ Some to → GoesStraight d x range to
straight_is d x range to e = by (bare_desig d) refl e
  where
    by_both : (n : ℕ) (z : Bool) → bare_desig d ≡ Some n → (is_whole range && ends_alone x) ≡ z → if_ready z n ≡ Some to
        → GoesStraight d x range to
    by_both n true is both h = let same : n ≡ to = cc in let z = and_parts (is_whole range) (ends_alone x) both in
        record { variable = is ∙ ap Some same; whole = z.0; alone = z.1 }
    by_both n false is both h = absurd (cc)

    by : (o : Option ℕ) → bare_desig d ≡ o → straight_by o (is_whole range && ends_alone x) ≡ Some to → GoesStraight d x range to
    by (Some n) is h = by_both n (is_whole range && ends_alone x) is refl h
    by None is h = absurd (cc)

pub straight_variable : (d : Desig) (x : Expr) (range : Range) (to : ℕ) → goes_straight d x range ≡ Some to → bare_desig d ≡ Some to
straight_variable d x range to e = (straight_is d x range to e).variable

-- a cell that is put leaves the number of frames
pub put_count : (v : Store) (f i : ℕ) (c : Cell) → length (put v f i c) ≡ length v
put_count [] f i c = refl
put_count (g ∷ v) zero i c = refl
put_count (g ∷ v) (suc f) i c = ap suc (put_count v f i c)

-- the slot of an operator: that of the end where no other stands behind it
abbrev pub put_by : Links → (to end : ℕ) → ℕ
put_by no_links to end = end
put_by (more_links how e rest) to end = to

module _ (p : Program) (tables : Tables) (r : ℕ) where
  -- the code of operators, of which the last puts its value into the slot `end`
  abbrev pub ends_code : (end line at first to lo : ℕ) → Links → List LineInstr
  ends_code end line at first to lo no_links = []
  ends_code end line at first to lo (more_links how e rest) =
      in_row at (unless_bare (bare e) (expr_code p tables r line at lo e)
      ++ own line (op_code how (put_by rest to end) first (value_at p tables r lo e) ∷ []))
      (λ next. ends_code end line next to to (behind_value p r lo e) rest)

  pub some_links : (line at first to lo : ℕ) (how : Op) (e : Expr) (rest : Links)
      → 0 < length (links_code p tables r line at first to lo (more_links how e rest))
  some_links line at first to lo how e rest =
      let inner : List LineInstr = unless_bare (bare e) (expr_code p tables r line at lo e) in
      let one : List LineInstr = inner ++ own line (op_code how to first (value_at p tables r lo e) ∷ []) in
      omega (
        arith,
        length-append one (links_code p tables r line (at + length one) to to (behind_value p r lo e) rest),
        length-append inner (own line (op_code how to first (value_at p tables r lo e) ∷ [])),
      )

  pub ends_same : (line at first to lo : ℕ) (links : Links)
      → links_code p tables r line at first to lo links ≡ ends_code to line at first to lo links
  ends_same line at first to lo no_links = refl
  ends_same line at first to lo (more_links how e no_links) = refl
  ends_same line at first to lo (more_links how e (more_links how2 e2 rest)) =
      let one : List LineInstr = unless_bare (bare e) (expr_code p tables r line at lo e)
      ++ own line (op_code how to first (value_at p tables r lo e) ∷ []) in
      ap (λ c. one ++ c) (ends_same line (at + length one) to to (behind_value p r lo e) (more_links how2 e2 rest))

  pub straight_ends : (end line at first to lo : ℕ) (how : Op) (e : Expr) (rest : Links)
      → straight end (links_code p tables r line at first to lo (more_links how e rest)) ≡ ends_code end line at first to lo
      (more_links how e rest)
  straight_ends end line at first to lo how e no_links =
      let inner : List LineInstr = unless_bare (bare e) (expr_code p tables r line at lo e) in
      let i : Instr = op_code how to first (value_at p tables r lo e) in
      let j : Instr = op_code how end first (value_at p tables r lo e) in
      ap (straight end) (append-nil (inner ++ own line (i ∷ []))) ∙ straight_last end line inner i
      ∙ ap (λ x. inner ++ own line (x ∷ [])) (aim_op how end to first (value_at p tables r lo e))
      ∙ sym (append-nil (inner ++ own line (j ∷ [])))
  straight_ends end line at first to lo how e (more_links how2 e2 rest) =
      let one : List LineInstr = unless_bare (bare e) (expr_code p tables r line at lo e)
      ++ own line (op_code how to first (value_at p tables r lo e) ∷ []) in
      let next : ℕ = at + length one in
      let lo2 : ℕ = behind_value p r lo e in
      straight_behind end one (links_code p tables r line next to to lo2 (more_links how2 e2 rest))
      (some_links line next to to lo2 how2 e2 rest)
      ∙ ap (λ c. one ++ c) (straight_ends end line next to to lo2 how2 e2 rest)
