-- A number that goes to the slot of an argument: it serves contracts between the crates of the emitter alone.
use Rattle.std.specs.Prelude.{ℕ, Bool, true, false, [], ◌∷◌}
use Rattle.alma_base.specs.declared.number.Range.{Range}
use Rattle.alma_code.specs.declared.instr.Instr.TheVariants as I
use Rattle.alma_ir.specs.Tree.{Expr}
use Rattle.alma_lower_work.specs.Front.{Around, Front, Changes}
use Rattle.alma_lower_parts.specs.Steps.{PutsTwo}
use Rattle.alma_lower_templates.specs.LineInstr.{own}
use Rattle.alma_lower_templates.specs.Slots.{is_straight}
use Rattle.alma_lower_templates.specs.Pieces.{fit_code, straight}

-- the last instruction changes, or a check and a move stand behind the value
abbrev pub PutsBy : (straightly : Bool) → Around → (line : ℕ) → Range → (to value : ℕ) → (a b : Front) → Type 0
PutsBy true s line range to value a b = Changes a b (λ xs. straight to xs)
PutsBy false s line range to value a b = PutsTwo a b (own line (fit_code s.tables range value)) (own line (I.Move to value ∷ []))

-- by whether the value goes straight
pub record PutsNumber (s : Around) (line : ℕ) (e : Expr) (range : Range) (to value : ℕ) (a b : Front) : Type 0 where
  pub all : PutsBy (is_straight e range) s line range to value a b
