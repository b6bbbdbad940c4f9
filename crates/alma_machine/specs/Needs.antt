-- What an instruction needs of the top frame and of the code.
use Rattle.std.specs.Prelude.{◌≡◌, ◌+◌, ◌^◌, ◌<◌, ◌≤◌, Bool, true, false, List, ℕ, length, slice_get}
use Rattle.alma_base.specs.Limits.{input_limit}
use Rattle.alma_code.specs.declared.instr.Instr.{Instr}
use Rattle.alma_code.specs.declared.instr.Instr.TheVariants as I
use Rattle.alma_code.specs.Layout.{IsHead}
use Rattle.alma_code.specs.Picture.{PlainFrame}
use Rattle.alma_code.specs.Plain.{PlainCode, head_at}
use Rattle.alma_code.specs.Rules.{has_room}
use Rattle.alma_machine_acts.specs.Calls.{HasArguments, CallsBack}
use Rattle.alma_machine_acts.specs.Inputs.{HasPosition}
use Rattle.alma_machine_acts.specs.Rows.{HasNumber, HasCells, HasOneCell, HasPlace, HasMark, HasLink, HasLinkTo, LeadsTo}
use Rattle.alma_machine_acts.specs.Rows.{IsFaultNumber, width}

-- the slots that an instruction of numbers reads and writes are of their kinds; other instructions are none
unfoldable pub Computes : List PlainFrame → Instr → Type 0
Computes f (I.Const to value) = HasNumber f to
Computes f (I.Move to from) = HasNumber f to × HasNumber f from
Computes f (I.Add to left right) = HasNumber f to × HasNumber f left × HasNumber f right
Computes f (I.Sub to left right) = HasNumber f to × HasNumber f left × HasNumber f right
Computes f (I.Mul to left right) = HasNumber f to × HasNumber f left × HasNumber f right
Computes f (I.Div to left right) = HasNumber f to × HasNumber f left × HasNumber f right
Computes f (I.Mod to left right) = HasNumber f to × HasNumber f left × HasNumber f right
Computes f (I.Neg to from) = HasNumber f to × HasNumber f from
Computes f (I.Equal to left right) = HasNumber f to × HasNumber f left × HasNumber f right
Computes f (I.Less to left right) = HasNumber f to × HasNumber f left × HasNumber f right
Computes f (I.LessEq to left right) = HasNumber f to × HasNumber f left × HasNumber f right
Computes f (I.Flip to from) = HasNumber f to × HasNumber f from
Computes f (I.Load to from) = HasNumber f to × HasOneCell f from
Computes f (I.Known to from) = HasNumber f to × HasOneCell f from
Computes f _ = ⊥

-- the slots that an instruction reads and writes are of their kinds, and what it names in the tables of the code is there
unfoldable pub Needs : PlainCode → List PlainFrame → Instr → Type 0
Needs code f (I.InRange value range) = HasNumber f value × (range < length code.ranges)
Needs code f (I.Local to first) = HasPlace f to
Needs code f (I.Global to first) = HasPlace f to
Needs code f (I.Same to from) = HasPlace f to × HasCells f from
Needs code f (I.Field to from offset) = HasPlace f to × HasCells f from × (offset ≤ width f from)
Needs code f (I.Index to from index range) =
    HasPlace f to × HasCells f from × HasNumber f index × (range < length code.ranges)
    × (has_room (slice_get code.ranges range) (width f to) (width f from) ≡ true)
Needs code f (I.Store to from) = HasOneCell f to × HasNumber f from
Needs code f (I.Bind to value range) = HasOneCell f to × HasNumber f value × (range < length code.ranges)
Needs code f (I.Unify left first right second) = HasOneCell f left × (first < length code.ranges) × HasOneCell f right
    × (second < length code.ranges)
Needs code f (I.SameCells left right) = HasCells f left × HasCells f right × (width f left ≡ width f right)
Needs code f (I.Jump to) = Unit {0}
Needs code f (I.JumpZero value to) = HasNumber f value
Needs code f (I.Check value) = HasNumber f value
Needs code f I.Fail = Unit {0}
Needs code f (I.Mark to) = HasMark f to
Needs code f (I.Cut mark) = HasMark f mark
Needs code f (I.Choose resume) = Unit {0}
Needs code f (I.Forall mark resume) = HasMark f mark
Needs code f (I.Overlay mark resume) = HasMark f mark
Needs code f (I.Keep mark) = HasMark f mark
Needs code f I.Finish = Unit {0}
Needs code f (I.Call routine first to) = (routine < length code.routines) × IsHead (head_at code routine)
    × HasArguments f (head_at code routine).params first
Needs code f I.Return = 1 ≤ length f
Needs code f (I.ReturnValue value) = HasNumber f value × CallsBack code f
Needs code f (I.ReadInt place range) = HasOneCell f place × (range < length code.ranges) × HasPosition f
Needs code f (I.ReadChar place range) = HasOneCell f place × (range < length code.ranges) × HasPosition f
Needs code f (I.WriteInt value) = HasNumber f value
Needs code f (I.WriteChar value) = HasNumber f value
Needs code f (I.WriteBool value) = HasNumber f value
Needs code f (I.WriteText text) = text < length code.texts
Needs code f I.WriteLine = Unit {0}
Needs code f (I.Fault number) = IsFaultNumber number
Needs code f (I.Step counter limit by out) = HasNumber f counter × HasNumber f limit × HasNumber f by
Needs code f (I.Own to) = HasLinkTo f to
Needs code f (I.Chain to link slot) = HasLinkTo f to × HasLink f link × LeadsTo f link slot
Needs code f (I.Outer to link first) = HasPlace f to × HasLink f link
Needs code f (I.OuterSame to link slot) = HasPlace f to × HasLink f link × LeadsTo f link slot
Needs code f (I.CopyCells to from) = HasCells f to × HasCells f from × (width f to ≡ width f from)
Needs code f i = Computes f i

-- an instruction that prints, or of the group of numbers
unfoldable pub is_first_form : Instr → Bool
is_first_form (I.WriteInt value) = true
is_first_form (I.WriteChar value) = true
is_first_form (I.WriteBool value) = true
is_first_form (I.WriteText text) = true
is_first_form I.WriteLine = true
is_first_form (I.Const to value) = true
is_first_form (I.Move to from) = true
is_first_form (I.Add to left right) = true
is_first_form (I.Sub to left right) = true
is_first_form (I.Mul to left right) = true
is_first_form (I.Div to left right) = true
is_first_form (I.Mod to left right) = true
is_first_form (I.Neg to from) = true
is_first_form (I.Equal to left right) = true
is_first_form (I.Less to left right) = true
is_first_form (I.LessEq to left right) = true
is_first_form (I.Flip to from) = true
is_first_form (I.Load to from) = true
is_first_form (I.Known to of) = true
is_first_form _ = false

-- an instruction of the group of jumps, tests and counted loops
unfoldable pub is_control_form : Instr → Bool
is_control_form (I.InRange value range) = true
is_control_form (I.Jump to) = true
is_control_form (I.JumpZero value to) = true
is_control_form (I.Check value) = true
is_control_form I.Fail = true
is_control_form (I.Fault number) = true
is_control_form (I.Step counter limit by out) = true
is_control_form _ = false

-- an instruction of the group of places
unfoldable pub is_place_form : Instr → Bool
is_place_form (I.Local to first) = true
is_place_form (I.Global to first) = true
is_place_form (I.Same to from) = true
is_place_form (I.Field to from offset) = true
is_place_form (I.Index to from index range) = true
is_place_form _ = false

-- an instruction of the group of cells at places: stores, bindings, equations and copies
unfoldable pub is_cell_form : Instr → Bool
is_cell_form (I.Store to from) = true
is_cell_form (I.Bind to value range) = true
is_cell_form (I.Unify left first right second) = true
is_cell_form (I.CopyCells to from) = true
is_cell_form (I.SameCells left right) = true
is_cell_form _ = false

-- an instruction of the group of choice entries
unfoldable pub is_choice_form : Instr → Bool
is_choice_form (I.Mark to) = true
is_choice_form (I.Cut mark) = true
is_choice_form (I.Choose resume) = true
is_choice_form (I.Forall mark resume) = true
is_choice_form (I.Overlay mark resume) = true
is_choice_form (I.Keep mark) = true
is_choice_form I.Finish = true
is_choice_form _ = false

-- an instruction of the group of calls and returns
unfoldable pub is_call_form : Instr → Bool
is_call_form (I.Call routine first to) = true
is_call_form I.Return = true
is_call_form (I.ReturnValue value) = true
is_call_form _ = false

-- an instruction of the group of reads of the input
unfoldable pub is_read_form : Instr → Bool
is_read_form (I.ReadInt place range) = true
is_read_form (I.ReadChar place range) = true
is_read_form _ = false

-- an instruction of the group of links
unfoldable pub is_link_form : Instr → Bool
is_link_form (I.Own to) = true
is_link_form (I.Chain to link slot) = true
is_link_form (I.Outer to link first) = true
is_link_form (I.OuterSame to link slot) = true
is_link_form _ = false

-- What is left to each group in turn: an instruction of none of the groups before it.

-- left to jumps, tests and counted loops
abbrev pub LeftToControl : Instr → Type 0
LeftToControl i = is_first_form i ≡ false

-- left to places
abbrev pub LeftToPlaces : Instr → Type 0
LeftToPlaces i = LeftToControl i × (is_control_form i ≡ false)

-- left to cells at places
abbrev pub LeftToCells : Instr → Type 0
LeftToCells i = LeftToPlaces i × (is_place_form i ≡ false)

-- left to choice entries
abbrev pub LeftToChoices : Instr → Type 0
LeftToChoices i = LeftToCells i × (is_cell_form i ≡ false)

-- left to calls and returns
abbrev pub LeftToCalls : Instr → Type 0
LeftToCalls i = LeftToChoices i × (is_choice_form i ≡ false)

-- left to reads of the input
abbrev pub LeftToInput : Instr → Type 0
LeftToInput i = LeftToCalls i × (is_call_form i ≡ false)

-- left to links
abbrev pub LeftToLinks : Instr → Type 0
LeftToLinks i = LeftToInput i × (is_read_form i ≡ false)

-- one more choice entry can be counted, and the input is no longer than the limit
abbrev pub WithinLimits : ℕ → List ℕ → Type 0
WithinLimits choices input = (choices + 1 < 2 ^ 63) × (length input ≤ input_limit)
