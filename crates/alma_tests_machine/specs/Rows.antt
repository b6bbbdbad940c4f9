-- The heads, frames and choice entries of the rows.
use Rattle.std.specs.Prelude.{ℕ, List, [], ◌∷◌, false, pos}
use Rattle.alma_code.specs.declared.cell.Cell.TheVariants as cell
use Rattle.alma_code.specs.declared.cell.ChoiceKind.{ChoiceKind}
use Rattle.alma_code.specs.declared.cell.ChoiceKind.TheVariants as choice
use Rattle.alma_code.specs.declared.cell.SlotKind.TheVariants as slot
use Rattle.alma_code.specs.declared.head.ParamKind.TheVariants as param
use Rattle.alma_code.specs.Head.{PlainHead}
use Rattle.alma_code.specs.Layout.{start_frame, frame_of_call}
use Rattle.alma_code.specs.Picture.{PlainFrame, PlainEntry}

-- a head of so many number slots
abbrev pub numbers : ℕ → PlainHead
numbers n = record { slots = n; declared = n; params = []; runs = (record { kind = slot.Number; end = n }) ∷ []; has_result = false }

-- a head of one parameter, the place of a number
abbrev pub one_place : PlainHead
one_place = record {
  slots = 1;
  declared = 0;
  params = (record { kind = param.Place; cells = 1 }) ∷ [];
  runs = (record { kind = slot.Place 1; end = 1 }) ∷ [];
  has_result = false;
}

-- a head of one parameter, a number, whose kinds change from run to run
abbrev pub striped : PlainHead
striped = record {
  slots = 8;
  declared = 5;
  params = (record { kind = param.Value; cells = 1 }) ∷ [];
  runs = record { kind = slot.Number; end = 1 } ∷ record { kind = slot.Place 1; end = 2 } ∷ record { kind = slot.Number; end = 3 }
      ∷ record { kind = slot.Mark; end = 4 } ∷ record { kind = slot.Number; end = 5 } ∷ record { kind = slot.Place 2; end = 6 }
      ∷ record { kind = slot.Number; end = 8 } ∷ [];
  has_result = false;
}

-- an entry that nothing was kept in
abbrev pub entry : ChoiceKind → ℕ → List PlainFrame → PlainEntry
entry kind resume frames = record { kind = kind; resume = resume; frames = frames; carry = [] }

-- a global frame of one number slot, and on it one of routine 1 with its place
abbrev pub frames_of_two : List PlainFrame
frames_of_two =
    let globals = start_frame (numbers 1) ∷ [] in
    start_frame (numbers 1) ∷ frame_of_call globals one_place 1 9 (cell.Place (record { frame = 0; slot = 0; len = 1 }) ∷ []) ∷ []

-- the entries in the body of a forall
abbrev pub in_body : List PlainFrame → List PlainEntry
in_body frames = entry choice.Forall 3 frames ∷ entry choice.Branch 5 frames ∷ entry choice.Body 4 frames ∷ []

-- the entries after the body wrote a 9 into the second of two number slots and was kept
abbrev pub body_kept : List PlainEntry
body_kept =
    let frames = start_frame (numbers 2) ∷ [] in
    (record { kind = choice.Forall; resume = 3; frames = frames; carry = (record { frame = 0; slot = 1; cell = cell.Int (pos 9) }) ∷ [] })
    ∷ entry choice.Branch 5 frames ∷ []

-- the entries after the body changed nothing and was kept
abbrev pub nothing_kept : List PlainEntry
nothing_kept = let frames = start_frame (numbers 2) ∷ [] in entry choice.Forall 3 frames ∷ entry choice.Branch 5 frames ∷ []
