-- What an instruction is that is none of those before it.
use Rattle.std.proofs.Common.{◌≡◌, ℕ, ℤ, refl}
use Rattle.std.specs.Prelude.{false}
use Rattle.alma_code.specs.declared.instr.Instr.{Instr}
use Rattle.alma_code.specs.declared.instr.Instr.TheVariants as I
use Rattle.alma_machine.specs.Needs.{is_first_form, is_control_form, is_place_form, is_cell_form, is_choice_form, is_call_form}
use Rattle.alma_machine.specs.Needs.{is_read_form, is_link_form, LeftToLinks}

-- an instruction that is left to the last room is of that room
pub form_is_some : (i : Instr) → LeftToLinks i → is_link_form i ≡ false → ⊥
unfolding is_first_form is_control_form is_place_form is_cell_form is_choice_form is_call_form is_read_form is_link_form
form_is_some (I.Const a v) h none = absurd (cc)
form_is_some (I.Move a b) h none = absurd (cc)
form_is_some (I.Add a b c) h none = absurd (cc)
form_is_some (I.Sub a b c) h none = absurd (cc)
form_is_some (I.Mul a b c) h none = absurd (cc)
form_is_some (I.Div a b c) h none = absurd (cc)
form_is_some (I.Mod a b c) h none = absurd (cc)
form_is_some (I.Neg a b) h none = absurd (cc)
form_is_some (I.Equal a b c) h none = absurd (cc)
form_is_some (I.Less a b c) h none = absurd (cc)
form_is_some (I.LessEq a b c) h none = absurd (cc)
form_is_some (I.Flip a b) h none = absurd (cc)
form_is_some (I.Load a b) h none = absurd (cc)
form_is_some (I.Known a b) h none = absurd (cc)
form_is_some (I.InRange value range) h none = absurd (cc)
form_is_some (I.Jump to) h none = absurd (cc)
form_is_some (I.JumpZero value to) h none = absurd (cc)
form_is_some (I.Check value) h none = absurd (cc)
form_is_some I.Fail h none = absurd (cc)
form_is_some (I.Fault number) h none = absurd (cc)
form_is_some (I.Step counter limit by out) h none = absurd (cc)
form_is_some (I.Local to first) h none = absurd (cc)
form_is_some (I.Global to first) h none = absurd (cc)
form_is_some (I.Same to from) h none = absurd (cc)
form_is_some (I.Field to from offset) h none = absurd (cc)
form_is_some (I.Index to from index range) h none = absurd (cc)
form_is_some (I.Store to from) h none = absurd (cc)
form_is_some (I.Bind to value range) h none = absurd (cc)
form_is_some (I.Unify left first right second) h none = absurd (cc)
form_is_some (I.CopyCells to from) h none = absurd (cc)
form_is_some (I.SameCells left right) h none = absurd (cc)
form_is_some (I.Mark to) h none = absurd (cc)
form_is_some (I.Cut mark) h none = absurd (cc)
form_is_some (I.Choose resume) h none = absurd (cc)
form_is_some (I.Forall mark resume) h none = absurd (cc)
form_is_some (I.Overlay mark resume) h none = absurd (cc)
form_is_some (I.Keep mark) h none = absurd (cc)
form_is_some I.Finish h none = absurd (cc)
form_is_some (I.Call routine first to) h none = absurd (cc)
form_is_some I.Return h none = absurd (cc)
form_is_some (I.ReturnValue value) h none = absurd (cc)
form_is_some (I.ReadInt place range) h none = absurd (cc)
form_is_some (I.ReadChar place range) h none = absurd (cc)
form_is_some (I.Own to) h none = absurd (cc)
form_is_some (I.Chain to link slot) h none = absurd (cc)
form_is_some (I.Outer to link first) h none = absurd (cc)
form_is_some (I.OuterSame to link slot) h none = absurd (cc)
form_is_some (I.WriteInt a) h none = absurd (cc)
form_is_some (I.WriteChar a) h none = absurd (cc)
form_is_some (I.WriteBool a) h none = absurd (cc)
form_is_some (I.WriteText a) h none = absurd (cc)
form_is_some I.WriteLine h none = absurd (cc)

-- an instruction that does not print, and is none of numbers
pub later_else : (i : Instr) → ((a : ℕ) → i ≡ I.WriteInt a → ⊥) → ((a : ℕ) → i ≡ I.WriteChar a → ⊥) → ((a : ℕ) → i ≡ I.WriteBool a → ⊥)
    → ((a : ℕ) → i ≡ I.WriteText a → ⊥) → (i ≡ I.WriteLine → ⊥) → ((a : ℕ) (v : ℤ) → i ≡ I.Const a v → ⊥) → ((a b : ℕ) → i ≡ I.Move a b → ⊥)
    → ((a b c : ℕ) → i ≡ I.Add a b c → ⊥) → ((a b c : ℕ) → i ≡ I.Sub a b c → ⊥) → ((a b c : ℕ) → i ≡ I.Mul a b c → ⊥)
    → ((a b c : ℕ) → i ≡ I.Div a b c → ⊥) → ((a b c : ℕ) → i ≡ I.Mod a b c → ⊥) → ((a b : ℕ) → i ≡ I.Neg a b → ⊥)
    → ((a b c : ℕ) → i ≡ I.Equal a b c → ⊥) → ((a b c : ℕ) → i ≡ I.Less a b c → ⊥) → ((a b c : ℕ) → i ≡ I.LessEq a b c → ⊥)
    → ((a b : ℕ) → i ≡ I.Flip a b → ⊥) → ((a b : ℕ) → i ≡ I.Load a b → ⊥) → ((a b : ℕ) → i ≡ I.Known a b → ⊥) → is_first_form i ≡ false
unfolding is_first_form
later_else (I.WriteInt a) not _ _ _ _ _ _ _ _ _ _ _ _ _ _ _ _ _ _ = absurd (not a refl)
later_else (I.WriteChar a) _ not _ _ _ _ _ _ _ _ _ _ _ _ _ _ _ _ _ = absurd (not a refl)
later_else (I.WriteBool a) _ _ not _ _ _ _ _ _ _ _ _ _ _ _ _ _ _ _ = absurd (not a refl)
later_else (I.WriteText a) _ _ _ not _ _ _ _ _ _ _ _ _ _ _ _ _ _ _ = absurd (not a refl)
later_else I.WriteLine _ _ _ _ not _ _ _ _ _ _ _ _ _ _ _ _ _ _ = absurd (not refl)
later_else (I.Const a v) _ _ _ _ _ not _ _ _ _ _ _ _ _ _ _ _ _ _ = absurd (not a v refl)
later_else (I.Move a b) _ _ _ _ _ _ not _ _ _ _ _ _ _ _ _ _ _ _ = absurd (not a b refl)
later_else (I.Add a b c) _ _ _ _ _ _ _ not _ _ _ _ _ _ _ _ _ _ _ = absurd (not a b c refl)
later_else (I.Sub a b c) _ _ _ _ _ _ _ _ not _ _ _ _ _ _ _ _ _ _ = absurd (not a b c refl)
later_else (I.Mul a b c) _ _ _ _ _ _ _ _ _ not _ _ _ _ _ _ _ _ _ = absurd (not a b c refl)
later_else (I.Div a b c) _ _ _ _ _ _ _ _ _ _ not _ _ _ _ _ _ _ _ = absurd (not a b c refl)
later_else (I.Mod a b c) _ _ _ _ _ _ _ _ _ _ _ not _ _ _ _ _ _ _ = absurd (not a b c refl)
later_else (I.Neg a b) _ _ _ _ _ _ _ _ _ _ _ _ not _ _ _ _ _ _ = absurd (not a b refl)
later_else (I.Equal a b c) _ _ _ _ _ _ _ _ _ _ _ _ _ not _ _ _ _ _ = absurd (not a b c refl)
later_else (I.Less a b c) _ _ _ _ _ _ _ _ _ _ _ _ _ _ not _ _ _ _ = absurd (not a b c refl)
later_else (I.LessEq a b c) _ _ _ _ _ _ _ _ _ _ _ _ _ _ _ not _ _ _ = absurd (not a b c refl)
later_else (I.Flip a b) _ _ _ _ _ _ _ _ _ _ _ _ _ _ _ _ not _ _ = absurd (not a b refl)
later_else (I.Load a b) _ _ _ _ _ _ _ _ _ _ _ _ _ _ _ _ _ not _ = absurd (not a b refl)
later_else (I.Known a b) _ _ _ _ _ _ _ _ _ _ _ _ _ _ _ _ _ _ not = absurd (not a b refl)
later_else i _ _ _ _ _ _ _ _ _ _ _ _ _ _ _ _ _ _ _ = refl

-- an instruction of no form of a room
pub control_else : (i : Instr) → ((value range : ℕ) → i ≡ I.InRange value range → ⊥) → ((to : ℕ) → i ≡ I.Jump to → ⊥)
    → ((value to : ℕ) → i ≡ I.JumpZero value to → ⊥) → ((value : ℕ) → i ≡ I.Check value → ⊥) → (i ≡ I.Fail → ⊥)
    → ((number : ℕ) → i ≡ I.Fault number → ⊥) → ((counter limit by out : ℕ) → i ≡ I.Step counter limit by out → ⊥)
    → is_control_form i ≡ false
unfolding is_control_form
control_else (I.InRange value range) not _ _ _ _ _ _ = absurd (not value range refl)
control_else (I.Jump to) _ not _ _ _ _ _ = absurd (not to refl)
control_else (I.JumpZero value to) _ _ not _ _ _ _ = absurd (not value to refl)
control_else (I.Check value) _ _ _ not _ _ _ = absurd (not value refl)
control_else I.Fail _ _ _ _ not _ _ = absurd (not refl)
control_else (I.Fault number) _ _ _ _ _ not _ = absurd (not number refl)
control_else (I.Step counter limit by out) _ _ _ _ _ _ not = absurd (not counter limit by out refl)
control_else i _ _ _ _ _ _ _ = refl

pub place_else : (i : Instr) → ((to first : ℕ) → i ≡ I.Local to first → ⊥) → ((to first : ℕ) → i ≡ I.Global to first → ⊥)
    → ((to from : ℕ) → i ≡ I.Same to from → ⊥) → ((to from offset : ℕ) → i ≡ I.Field to from offset → ⊥)
    → ((to from index range : ℕ) → i ≡ I.Index to from index range → ⊥) → is_place_form i ≡ false
unfolding is_place_form
place_else (I.Local to first) not _ _ _ _ = absurd (not to first refl)
place_else (I.Global to first) _ not _ _ _ = absurd (not to first refl)
place_else (I.Same to from) _ _ not _ _ = absurd (not to from refl)
place_else (I.Field to from offset) _ _ _ not _ = absurd (not to from offset refl)
place_else (I.Index to from index range) _ _ _ _ not = absurd (not to from index range refl)
place_else i _ _ _ _ _ = refl

pub cell_else : (i : Instr) → ((to from : ℕ) → i ≡ I.Store to from → ⊥) → ((to value range : ℕ) → i ≡ I.Bind to value range → ⊥)
    → ((left first right second : ℕ) → i ≡ I.Unify left first right second → ⊥) → ((to from : ℕ) → i ≡ I.CopyCells to from → ⊥)
    → ((left right : ℕ) → i ≡ I.SameCells left right → ⊥) → is_cell_form i ≡ false
unfolding is_cell_form
cell_else (I.Store to from) not _ _ _ _ = absurd (not to from refl)
cell_else (I.Bind to value range) _ not _ _ _ = absurd (not to value range refl)
cell_else (I.Unify left first right second) _ _ not _ _ = absurd (not left first right second refl)
cell_else (I.CopyCells to from) _ _ _ not _ = absurd (not to from refl)
cell_else (I.SameCells left right) _ _ _ _ not = absurd (not left right refl)
cell_else i _ _ _ _ _ = refl

pub choice_else : (i : Instr) → ((to : ℕ) → i ≡ I.Mark to → ⊥) → ((mark : ℕ) → i ≡ I.Cut mark → ⊥)
    → ((resume : ℕ) → i ≡ I.Choose resume → ⊥) → ((mark resume : ℕ) → i ≡ I.Forall mark resume → ⊥)
    → ((mark resume : ℕ) → i ≡ I.Overlay mark resume → ⊥) → ((mark : ℕ) → i ≡ I.Keep mark → ⊥) → (i ≡ I.Finish → ⊥)
    → is_choice_form i ≡ false
unfolding is_choice_form
choice_else (I.Mark to) not _ _ _ _ _ _ = absurd (not to refl)
choice_else (I.Cut mark) _ not _ _ _ _ _ = absurd (not mark refl)
choice_else (I.Choose resume) _ _ not _ _ _ _ = absurd (not resume refl)
choice_else (I.Forall mark resume) _ _ _ not _ _ _ = absurd (not mark resume refl)
choice_else (I.Overlay mark resume) _ _ _ _ not _ _ = absurd (not mark resume refl)
choice_else (I.Keep mark) _ _ _ _ _ not _ = absurd (not mark refl)
choice_else I.Finish _ _ _ _ _ _ not = absurd (not refl)
choice_else i _ _ _ _ _ _ _ = refl

pub call_else : (i : Instr) → ((routine first to : ℕ) → i ≡ I.Call routine first to → ⊥) → (i ≡ I.Return → ⊥)
    → ((value : ℕ) → i ≡ I.ReturnValue value → ⊥) → is_call_form i ≡ false
unfolding is_call_form
call_else (I.Call routine first to) not _ _ = absurd (not routine first to refl)
call_else I.Return _ not _ = absurd (not refl)
call_else (I.ReturnValue value) _ _ not = absurd (not value refl)
call_else i _ _ _ = refl

pub read_else : (i : Instr) → ((place range : ℕ) → i ≡ I.ReadInt place range → ⊥) → ((place range : ℕ) → i ≡ I.ReadChar place range → ⊥)
    → is_read_form i ≡ false
unfolding is_read_form
read_else (I.ReadInt place range) not _ = absurd (not place range refl)
read_else (I.ReadChar place range) _ not = absurd (not place range refl)
read_else i _ _ = refl

pub link_else : (i : Instr) → ((to : ℕ) → i ≡ I.Own to → ⊥) → ((to link slot : ℕ) → i ≡ I.Chain to link slot → ⊥)
    → ((to link first : ℕ) → i ≡ I.Outer to link first → ⊥) → ((to link slot : ℕ) → i ≡ I.OuterSame to link slot → ⊥)
    → is_link_form i ≡ false
unfolding is_link_form
link_else (I.Own to) not _ _ _ = absurd (not to refl)
link_else (I.Chain to link slot) _ not _ _ = absurd (not to link slot refl)
link_else (I.Outer to link first) _ _ not _ = absurd (not to link first refl)
link_else (I.OuterSame to link slot) _ _ _ not = absurd (not to link slot refl)
link_else i _ _ _ _ = refl
