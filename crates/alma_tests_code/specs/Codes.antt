-- Small codes whose runs and whose first broken rules are computed.
use Rattle.std.specs.Prelude.{◌≡◌, ℕ, Bool, true, false, ℤ, pos, negsuc, List, [], ◌∷◌, ◌++◌, length, codes, Some}
use Rattle.alma_code.specs.declared.cell.SlotKind.TheVariants as slot
use Rattle.alma_base.specs.Carry.{Change}
use Rattle.alma_base.specs.Numbers.{whole_range}
use Rattle.alma_code.specs.declared.cell.Cell.{Cell}
use Rattle.alma_code.specs.declared.cell.Cell.TheVariants as cell
use Rattle.alma_code.specs.declared.head.ParamKind.{ParamKind}
use Rattle.alma_code.specs.declared.head.ParamKind.TheVariants as param
use Rattle.alma_code.specs.declared.head.CodeParam.{CodeParam}
use Rattle.alma_code.specs.declared.head.Run.{Run}
use Rattle.alma_code.specs.declared.instr.Instr.{Instr}
use Rattle.alma_code.specs.declared.instr.Instr.TheVariants as I
use Rattle.alma_code.specs.declared.step.End.{End}
use Rattle.alma_code.specs.Plain.{PlainCode, PlainRoutine}
use Rattle.alma_code.specs.Machine.{State, Ended, after, prints, start}
use Rattle.alma_code.specs.Rules.{code_fault}

-- ---- what is said of a code

-- the run of n steps ends so
abbrev pub Ends : PlainCode → (input : List ℕ) → (n : ℕ) → End → Type 0
Ends code input n e = (after code input n (start code)).mode ≡ Ended e

-- these prints, one after another
abbrev pub all_prints : List (List ℕ) → List ℕ
all_prints [] = []
all_prints (bytes ∷ rest) = bytes ++ all_prints rest

-- the run of n steps makes these prints
abbrev pub Prints : PlainCode → (input : List ℕ) → (n : ℕ) → List (List ℕ) → Type 0
Prints code input n pieces = prints code input n (start code) ≡ all_prints pieces

-- the state after n steps from the start
abbrev pub state_after : PlainCode → (input : List ℕ) → (n : ℕ) → State
state_after code input n = after code input n (start code)

-- the first broken rule, and where
abbrev pub Breaks : PlainCode → (rule at : ℕ) → Type 0
Breaks code rule at = code_fault code ≡ Some (record { rule = rule; at = at })

-- ---- parts of codes

-- number slots up to an end
abbrev pub numbers_to : ℕ → Run
numbers_to end = record { kind = slot.Number; end = end }

-- place slots up to an end
abbrev pub places_to : (len end : ℕ) → Run
places_to len end = record { kind = slot.Place len; end = end }

-- mark slots up to an end
abbrev pub marks_to : ℕ → Run
marks_to end = record { kind = slot.Mark; end = end }

-- a parameter
abbrev pub param_of : ParamKind → (cells : ℕ) → CodeParam
param_of kind cells = record { kind = kind; cells = cells }

-- a change in a carry
abbrev pub change_of : (frame slot : ℕ) → ℤ → Change Cell
change_of frame slot v = record { frame = frame; slot = slot; cell = cell.Int v }

-- a routine that ends at an address
abbrev pub routine_to : (slots : ℕ) → List Run → List CodeParam → (has_result : Bool) → (code_end : ℕ) → PlainRoutine
routine_to slots runs params has_result code_end =
    record {
      name = codes "A";
      head = record { slots = slots; declared = 0; params = params; runs = runs; has_result = has_result };
      code_end = code_end;
    }

-- a code of these routines, with the ranges INTEGER and 1 to 2, and a text
abbrev pub code_with : List PlainRoutine → List Instr → PlainCode
code_with routines instrs = record {
  version = 1;
  routines = routines;
  globals = [];
  ranges = whole_range ∷ record { low = pos 1; high = pos 2 } ∷ [];
  texts = codes "Hi" ∷ [];
  instrs = instrs;
  lines = [];
}

-- a code of one routine
abbrev pub main_with : (slots : ℕ) → List Run → List Instr → PlainCode
main_with slots runs instrs = code_with (routine_to slots runs [] false (length instrs) ∷ []) instrs

-- four number slots, two place slots of one cell and a mark slot
abbrev pub plain_main : List Instr → PlainCode
plain_main instrs = main_with 7 (numbers_to 4 ∷ places_to 1 6 ∷ marks_to 7 ∷ []) instrs

-- ---- codes that run

-- the least code: it succeeds at once
abbrev pub least : PlainCode
least = record {
  version = 1;
  routines = routine_to 1 (numbers_to 1 ∷ []) [] false 1 ∷ [];
  globals = [];
  ranges = [];
  texts = [];
  instrs = I.Return ∷ [];
  lines = [];
}

-- EITHER x := 1; WRITE('Hi'); FALSE ORELSE END, with x in slot 1
abbrev pub branch_undone : PlainCode
branch_undone = plain_main (I.Choose 4 ∷ I.Const 1 (pos 1) ∷ I.WriteText 0 ∷ I.Fail ∷ I.Return ∷ [])

-- COMMIT EITHER x := 1 ORELSE x := 2 END END; WRITE(x); FALSE
abbrev pub choices_cut : PlainCode
choices_cut =
    plain_main (I.Mark 6 ∷ I.Choose 4 ∷ I.Const 1 (pos 1) ∷ I.Jump 5 ∷ I.Const 1 (pos 2) ∷ I.Cut 6 ∷ I.WriteInt 1 ∷ I.Fail ∷ I.Return ∷ [])

-- n := 0; FORALL EITHER i := 1 ORELSE i := 2 END DO n := n + i END; WRITE(n), with n in slot 1 and
-- i in slot 2
abbrev pub sum_carried : PlainCode
sum_carried =
    plain_main (I.Const 1 (pos 0) ∷ I.Forall 6 10 ∷ I.Choose 8 ∷ I.Const 2 (pos 1)
    ∷ I.Overlay 6 7 ∷ I.Add 1 1 2 ∷ I.Keep 6 ∷ I.Fail ∷ I.Const 2 (pos 2) ∷ I.Jump 4 ∷ I.Finish ∷ I.WriteInt 1 ∷ I.Return ∷ [])

-- FORALL EITHER i := 1 ORELSE i := 2 END DO x[i] := i END; WRITE(x[1], x[2]), with x in slots 1 and
-- 2, and i in slot 3
abbrev pub carry_grows : PlainCode
carry_grows =
    main_with 7 (numbers_to 4 ∷ places_to 2 5 ∷ places_to 1 6 ∷ marks_to 7 ∷ [])
    (I.Local 4 1 ∷ I.Forall 6 11 ∷ I.Choose 9 ∷ I.Const 3 (pos 1)
    ∷ I.Overlay 6 8 ∷ I.Index 5 4 3 1 ∷ I.Store 5 3 ∷ I.Keep 6 ∷ I.Fail ∷ I.Const 3 (pos 2) ∷ I.Jump 4
    ∷ I.Finish ∷ I.WriteInt 1 ∷ I.WriteInt 2 ∷ I.Return ∷ [])

-- y := 5; x = y; WRITE(x), with x in slot 1 and y in slot 2
abbrev pub left_unknown : PlainCode
left_unknown = plain_main (I.Const 2 (pos 5) ∷ I.Local 4 1 ∷ I.Local 5 2 ∷ I.Unify 4 0 5 0 ∷ I.WriteInt 1 ∷ I.Return ∷ [])

-- y := 5; y = x; WRITE(x)
abbrev pub right_unknown : PlainCode
right_unknown = plain_main (I.Const 2 (pos 5) ∷ I.Local 4 1 ∷ I.Local 5 2 ∷ I.Unify 5 0 4 0 ∷ I.WriteInt 1 ∷ I.Return ∷ [])

-- x = y with both unknown
abbrev pub both_unknown : PlainCode
both_unknown = plain_main (I.Local 4 1 ∷ I.Local 5 2 ∷ I.Unify 4 0 5 0 ∷ I.Return ∷ [])

-- y := 5; x = y, where x has the range 1 to 2
abbrev pub out_of_range : PlainCode
out_of_range = plain_main (I.Const 2 (pos 5) ∷ I.Local 4 1 ∷ I.Local 5 2 ∷ I.Unify 4 1 5 0 ∷ I.Return ∷ [])

-- a[1] = 1; b[2] = 2; a = b; WRITE(a[1], a[2], b[1], b[2]), with a in slots 1 and 2 and b in slots
-- 3 and 4
abbrev pub cells_equated : PlainCode
cells_equated =
    main_with 7 (numbers_to 5 ∷ places_to 2 7 ∷ [])
    (I.Const 1 (pos 1) ∷ I.Const 4 (pos 2) ∷ I.Local 5 1 ∷ I.Local 6 3 ∷ I.SameCells 5 6
    ∷ I.WriteInt 1 ∷ I.WriteInt 2 ∷ I.WriteInt 3 ∷ I.WriteInt 4 ∷ I.Return ∷ [])

-- PROCEDURE p(MIX a: INTEGER); BEGIN a = 7 END p, and p(x); WRITE(x); p(7); p(8)
abbrev pub mix_called : PlainCode
mix_called =
    code_with (routine_to 4 (numbers_to 3 ∷ places_to 1 4 ∷ []) [] false 8
    ∷ routine_to 3 (places_to 1 1 ∷ numbers_to 3 ∷ []) (param_of param.Mix 1 ∷ []) false 11 ∷ [])
    (I.Local 3 1 ∷ I.Call 1 3 0 ∷ I.WriteInt 1 ∷ I.Const 2 (pos 7) ∷ I.Call 1 2 0 ∷ I.Const 2 (pos 8) ∷ I.Call 1 2 0 ∷ I.Return
    ∷ I.Const 2 (pos 7) ∷ I.Bind 0 2 0 ∷ I.Return ∷ [])

-- PROCEDURE q(VAR a: INTEGER); BEGIN EITHER a := 1 ORELSE a := 2 END END q, and q(x); 1 < x;
-- WRITE(x)
abbrev pub frame_again : PlainCode
frame_again =
    code_with (routine_to 5 (numbers_to 4 ∷ places_to 1 5 ∷ []) [] false 7
    ∷ routine_to 2 (places_to 1 1 ∷ numbers_to 2 ∷ []) (param_of param.Place 1 ∷ []) false 13 ∷ [])
    (I.Local 4 1 ∷ I.Call 1 4 0 ∷ I.Const 2 (pos 1) ∷ I.Less 3 2 1 ∷ I.Check 3 ∷ I.WriteInt 1 ∷ I.Return
    ∷ I.Choose 10 ∷ I.Const 1 (pos 1) ∷ I.Jump 11 ∷ I.Const 1 (pos 2) ∷ I.Store 0 1 ∷ I.Return ∷ [])

-- PROCEDURE f(): INTEGER; BEGIN RETURN 4 END f, and WRITE(f())
abbrev pub function_called : PlainCode
function_called =
    code_with (routine_to 2 (numbers_to 2 ∷ []) [] false 3 ∷ routine_to 1 (numbers_to 1 ∷ []) [] true 5 ∷ [])
    (I.Call 1 0 1 ∷ I.WriteInt 1 ∷ I.Return ∷ I.Const 0 (pos 4) ∷ I.ReturnValue 0 ∷ [])

-- PROCEDURE p, with 1,048,577 declared cells, and p
abbrev pub frame_too_large : PlainCode
frame_too_large =
    code_with (routine_to 1 (numbers_to 1 ∷ []) [] false 2
    ∷ record {
      name = codes "P";
      head = record { slots = 1048577; declared = 1048577; params = []; runs = numbers_to 1048577 ∷ []; has_result = false };
      code_end = 3;
    } ∷ [])
    (I.Call 1 0 0 ∷ I.Return ∷ I.Return ∷ [])

-- EITHER READ(x); x = 6 ORELSE READ(x) END; WRITE(x)
abbrev pub input_again : PlainCode
input_again =
    plain_main (I.Local 4 1 ∷ I.Choose 6 ∷ I.ReadInt 4 0 ∷ I.Const 2 (pos 6) ∷ I.Bind 4 2 0 ∷ I.Jump 7 ∷ I.ReadInt 4 0 ∷ I.WriteInt 1
    ∷ I.Return ∷ [])

-- FOR x := 1 TO 3 DO WRITE(x) END
abbrev pub loop_counts : PlainCode
loop_counts =
    plain_main (I.Const 1 (pos 1) ∷ I.Const 2 (pos 3) ∷ I.Const 3 (pos 1) ∷ I.WriteInt 1 ∷ I.Step 1 2 3 6 ∷ I.Jump 3 ∷ I.Return ∷ [])

-- prints -1 as a number, a byte and a truth, and then LF
abbrev pub values_print : PlainCode
values_print = plain_main (I.Const 1 (negsuc 0) ∷ I.WriteInt 1 ∷ I.WriteChar 1 ∷ I.WriteBool 1 ∷ I.WriteLine ∷ I.Return ∷ [])

-- an operation on the slots 1 and 2, with these numbers
abbrev pub operation : Instr → ℤ → ℤ → PlainCode
operation i x y = plain_main (I.Const 1 x ∷ I.Const 2 y ∷ i ∷ I.WriteInt 3 ∷ I.Return ∷ [])

-- an index that is not in the range 1 to 2
abbrev pub index_outside : PlainCode
index_outside = main_with 6 (numbers_to 4 ∷ places_to 2 5 ∷ places_to 1 6 ∷ [])
    (I.Local 4 1 ∷ I.Const 3 (pos 3) ∷ I.Index 5 4 3 1 ∷ I.Return ∷ [])

-- READ(x); WRITE(x)
abbrev pub read_one : PlainCode
read_one = plain_main (I.Local 4 1 ∷ I.ReadInt 4 0 ∷ I.WriteInt 1 ∷ I.Return ∷ [])

-- ---- codes that show a choice of the machine

-- a record of three cells in slots 1 to 3, of which the last is read through its place
abbrev pub part_named : PlainCode
part_named =
    main_with 7 (numbers_to 4 ∷ places_to 3 6 ∷ places_to 1 7 ∷ [])
    (I.Const 3 (pos 9) ∷ I.Local 4 1 ∷ I.Same 5 4 ∷ I.Field 6 5 2 ∷ I.Load 1 6 ∷ I.Known 2 6 ∷ I.WriteInt 1 ∷ I.WriteInt 2
    ∷ I.Field 6 5 1 ∷ I.Store 6 1 ∷ I.WriteInt 2 ∷ I.Return ∷ [])

-- a procedure that writes slot 1 of the module
abbrev pub global_written : PlainCode
global_written =
    code_with (routine_to 2 (numbers_to 2 ∷ []) [] false 3 ∷ routine_to 2 (places_to 1 1 ∷ numbers_to 2 ∷ []) [] false 7 ∷ [])
    (I.Call 1 0 0 ∷ I.WriteInt 1 ∷ I.Return ∷ I.Global 0 1 ∷ I.Const 1 (pos 8) ∷ I.Store 0 1 ∷ I.Return ∷ [])

-- a procedure with an array of two cells by value, that writes its first cell
abbrev pub array_copied : PlainCode
array_copied =
    code_with (routine_to 4 (numbers_to 3 ∷ places_to 2 4 ∷ []) [] false 6
    ∷ routine_to 2 (numbers_to 2 ∷ []) (param_of param.Cells 2 ∷ []) false 9 ∷ [])
    (I.Const 1 (pos 5) ∷ I.Const 2 (pos 6) ∷ I.Local 3 1 ∷ I.Call 1 3 0 ∷ I.WriteInt 1 ∷ I.Return ∷ I.Const 0 (pos 9) ∷ I.WriteInt 1
    ∷ I.Return ∷ [])

-- the cells 2 and 3 := the cells 1 and 2, which are 1 and 2
abbrev pub copy_overlaps : PlainCode
copy_overlaps =
    main_with 6 (numbers_to 4 ∷ places_to 2 6 ∷ [])
    (I.Const 1 (pos 1) ∷ I.Const 2 (pos 2) ∷ I.Local 4 1 ∷ I.Local 5 2 ∷ I.CopyCells 5 4 ∷ I.WriteInt 1 ∷ I.WriteInt 2 ∷ I.WriteInt 3
    ∷ I.Return ∷ [])

-- the cells 1 and 2 = the cells 2 and 3, of which the first is 1 and the others are unknown
abbrev pub equation_overlaps : PlainCode
equation_overlaps =
    main_with 6 (numbers_to 4 ∷ places_to 2 6 ∷ [])
    (I.Const 1 (pos 1) ∷ I.Local 4 1 ∷ I.Local 5 2 ∷ I.SameCells 4 5 ∷ I.WriteInt 1 ∷ I.WriteInt 2 ∷ I.WriteInt 3 ∷ I.Return ∷ [])

-- the cells 1 and 2 = the cells 3 and 4, of which the first is 7 and the others are unknown
abbrev pub equation_stops : PlainCode
equation_stops = main_with 7 (numbers_to 5 ∷ places_to 2 7 ∷ [])
    (I.Const 1 (pos 7) ∷ I.Local 5 1 ∷ I.Local 6 3 ∷ I.SameCells 5 6 ∷ I.Return ∷ [])

-- a jump over a fault where the number is 0
abbrev pub jump_if_zero : ℤ → PlainCode
jump_if_zero v = plain_main (I.Const 1 v ∷ I.JumpZero 1 3 ∷ I.Fault 5 ∷ I.Return ∷ [])

-- x := 1, and then x = v, where x has the range 1 to 2
abbrev pub bound_to : ℤ → PlainCode
bound_to v = plain_main (I.Const 1 (pos 1) ∷ I.Const 2 v ∷ I.Local 4 1 ∷ I.Bind 4 2 1 ∷ I.Return ∷ [])

-- prints a byte of the input
abbrev pub byte_read : PlainCode
byte_read = plain_main (I.Local 4 1 ∷ I.ReadChar 4 0 ∷ I.WriteChar 1 ∷ I.Return ∷ [])

-- reads a number of the range 1 to 2
abbrev pub small_read : PlainCode
small_read = plain_main (I.Local 4 1 ∷ I.ReadInt 4 1 ∷ I.Return ∷ [])

-- a Finish, a Keep, a Cut and an Overlay where no entry is
abbrev pub nothing_held : PlainCode
nothing_held = plain_main (I.Mark 6 ∷ I.Finish ∷ I.Keep 6 ∷ I.Cut 6 ∷ I.Overlay 6 5 ∷ I.Return ∷ [])

-- two Foralls, and a Body of the second that is kept in the first
abbrev pub kept_below : PlainCode
kept_below = main_with 5 (numbers_to 3 ∷ marks_to 5 ∷ [])
    (I.Forall 3 5 ∷ I.Forall 4 5 ∷ I.Overlay 4 5 ∷ I.Const 1 (pos 7) ∷ I.Keep 3 ∷ I.Return ∷ [])

-- a call of a routine that has too many declared cells, with a place that was not set
abbrev pub unset_argument : PlainCode
unset_argument =
    code_with (routine_to 2 (numbers_to 1 ∷ places_to 1 2 ∷ []) [] false 2
    ∷ record {
      name = codes "P";
      head = record {
        slots = 1048577;
        declared = 1048577;
        params = param_of param.Place 1 ∷ [];
        runs = places_to 1 1 ∷ numbers_to 1048577
            ∷ [];
        has_result = false;
      };
      code_end = 3;
    } ∷ [])
    (I.Call 1 1 0 ∷ I.Return ∷ I.Return ∷ [])

-- a loop from a number to another by steps
abbrev pub loop_by : (first last by : ℤ) → PlainCode
loop_by first last by = plain_main (I.Const 1 first ∷ I.Const 2 last ∷ I.Const 3 by ∷ I.WriteInt 1 ∷ I.Step 1 2 3 6 ∷ I.Jump 3 ∷ I.Return
    ∷ [])
