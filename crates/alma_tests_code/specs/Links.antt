-- Small codes with links and lines, their texts, and which rules such codes break.
use Rattle.std.specs.Prelude.{◌≡◌, ℕ, false, pos, [], ◌∷◌, codes, Some, None}
use Rattle.std.specs.Fmt.{decimal}
use Rattle.alma_base.specs.declared.fault.RunFault.TheVariants as fault
use Rattle.alma_code.specs.declared.cell.Cell.TheVariants as cell
use Rattle.alma_code.specs.declared.cell.SlotKind.TheVariants as slot
use Rattle.alma_code.specs.declared.head.ParamKind.TheVariants as param
use Rattle.alma_code.specs.declared.head.Run.{Run}
use Rattle.alma_code.specs.declared.code.Line.{Line}
use Rattle.alma_code.specs.declared.instr.Instr.{Instr}
use Rattle.alma_code.specs.declared.instr.Instr.TheVariants as I
use Rattle.alma_code.specs.declared.step.End.TheVariants as end
use Rattle.alma_code.specs.Plain.{PlainCode, PlainRoutine}
use Rattle.alma_code.specs.Picture.{cell_at}
use Rattle.alma_code.specs.Machine.{link_to, start}
use Rattle.alma_code.specs.Rules.{code_fault}
use Rattle.alma_code.specs.Lines.{line_of}
use Rattle.alma_code.specs.ListText.{list_lines}
use Rattle.alma_code.specs.TraceText.{trace_lines}
use Rattle.alma_tests_code.specs.Codes.{Ends, Prints, Breaks, state_after, param_of, numbers_to, places_to, routine_to, code_with}
use Rattle.alma_tests_code.specs.Codes.{plain_main, least, branch_undone}

-- link slots up to an end
abbrev pub links_to : (routine end : ℕ) → Run
links_to routine end = record { kind = slot.Link routine; end = end }

-- from an address on, a line
abbrev pub at_line : (at line : ℕ) → Line
at_line at line = record { at = at; line = line }

-- a code of version 2
abbrev pub second : PlainCode → PlainCode
second code = record code { version = 2 }

-- the module, which calls routine 1
abbrev pub calls_1 : PlainRoutine
calls_1 = routine_to 1 (numbers_to 1 ∷ []) [] false 2

-- PROCEDURE p; VAR l: INTEGER; with its frame linked in slot 1
abbrev pub round : (code_end : ℕ) → PlainRoutine
round code_end = routine_to 2 (numbers_to 1 ∷ links_to 1 2 ∷ []) [] false code_end

-- a routine in p, with its link in slot 0, two number slots and a place slot
abbrev pub within : (code_end : ℕ) → PlainRoutine
within code_end = routine_to 4 (links_to 1 1 ∷ numbers_to 3 ∷ places_to 1 4 ∷ []) (param_of param.Link 1 ∷ []) false code_end

-- PROCEDURE p; VAR l: INTEGER; PROCEDURE q; BEGIN l := l + 1 END q; BEGIN l := 4; q; WRITE(l) END
-- p;  p
abbrev pub outer_counted : PlainCode
outer_counted =
    second (code_with (calls_1 ∷ round 7 ∷ within 13 ∷ [])
    (I.Call 1 0 0 ∷ I.Return ∷ I.Const 0 (pos 4) ∷ I.Own 1 ∷ I.Call 2 1 0 ∷ I.WriteInt 0 ∷ I.Return
    ∷ I.Outer 3 0 0 ∷ I.Load 1 3 ∷ I.Const 2 (pos 1) ∷ I.Add 1 1 2 ∷ I.Store 3 1 ∷ I.Return ∷ []))

-- the same with q called by r, which stands in q's place beside it: the link of q is that of r
abbrev pub link_handed_on : PlainCode
link_handed_on =
    second (code_with (calls_1 ∷ round 7 ∷ within 9 ∷ within 13 ∷ [])
    (I.Call 1 0 0 ∷ I.Return ∷ I.Const 0 (pos 4) ∷ I.Own 1 ∷ I.Call 2 1 0 ∷ I.WriteInt 0 ∷ I.Return
    ∷ I.Call 3 0 0 ∷ I.Return ∷ I.Outer 3 0 0 ∷ I.Const 1 (pos 8) ∷ I.Store 3 1 ∷ I.Return ∷ []))

-- PROCEDURE p; VAR l: INTEGER; PROCEDURE q; PROCEDURE r; BEGIN WRITE(l) END r; BEGIN r END q; BEGIN
-- l := 7; q END p;  p
abbrev pub two_links_up : PlainCode
two_links_up =
    second (code_with (calls_1 ∷ round 6
    ∷ routine_to 2 (links_to 1 1 ∷ links_to 2 2 ∷ []) (param_of param.Link 1 ∷ []) false 9
    ∷ routine_to 4 (links_to 2 1 ∷ links_to 1 2 ∷ numbers_to 3 ∷ places_to 1 4 ∷ []) (param_of param.Link 2 ∷ []) false 14 ∷ [])
    (I.Call 1 0 0 ∷ I.Return ∷ I.Const 0 (pos 7) ∷ I.Own 1 ∷ I.Call 2 1 0 ∷ I.Return
    ∷ I.Own 1 ∷ I.Call 3 1 0 ∷ I.Return ∷ I.Chain 1 0 0 ∷ I.Outer 3 1 0 ∷ I.Load 2 3 ∷ I.WriteInt 2 ∷ I.Return ∷ []))

-- PROCEDURE p(VAR a: INTEGER); PROCEDURE q; BEGIN a := 6 END q; BEGIN q END p;  p(x); WRITE(x)
abbrev pub parameter_reached : PlainCode
parameter_reached =
    second (code_with (routine_to 3 (numbers_to 2 ∷ places_to 1 3 ∷ []) [] false 4
    ∷ routine_to 2 (places_to 1 1 ∷ links_to 1 2 ∷ []) (param_of param.Place 1 ∷ []) false 7 ∷ within 11 ∷ [])
    (I.Local 2 1 ∷ I.Call 1 2 0 ∷ I.WriteInt 1 ∷ I.Return ∷ I.Own 1 ∷ I.Call 2 1 0 ∷ I.Return
    ∷ I.OuterSame 3 0 0 ∷ I.Const 1 (pos 6) ∷ I.Store 3 1 ∷ I.Return ∷ []))

-- a routine that begins with an instruction, with slots for a number, a link to its frames, a place
-- and a link to those of routine 2
abbrev pub begins_with : Instr → PlainCode
begins_with i =
    second (code_with (calls_1 ∷ routine_to 4 (numbers_to 1 ∷ links_to 1 2 ∷ places_to 1 3 ∷ links_to 2 4 ∷ []) [] false 4
    ∷ routine_to 2 (links_to 1 1 ∷ numbers_to 2 ∷ []) (param_of param.Link 1 ∷ []) false 5 ∷ [])
    (I.Call 1 0 0 ∷ I.Return ∷ i ∷ I.Return ∷ I.Return ∷ []))

-- a code whose main routine has one link slot more, for frames of a routine
abbrev pub main_links : (routine : ℕ) → PlainCode
main_links routine = second (code_with (routine_to 2 (numbers_to 1 ∷ links_to routine 2 ∷ []) [] false 1 ∷ []) (I.Return ∷ []))

-- what codes with links print, how they end, and that they are sound where they should be
pub record LinksRun : Type 0 where
  pub counted_sound : code_fault outer_counted ≡ None
  pub counted : Prints outer_counted [] 13 (decimal 5 ∷ [])
  pub counted_ends : Ends outer_counted [] 13 end.Succeeded
  -- the link of q is the frame of p, which is frame 1
  pub link_is_set : cell_at (state_after outer_counted [] 4).now 2 0 cell.Unset ≡ cell.Place (link_to 1)
  pub handed_on_sound : code_fault link_handed_on ≡ None
  pub handed_on : Prints link_handed_on [] 13 (decimal 8 ∷ [])
  pub two_up_sound : code_fault two_links_up ≡ None
  pub two_up : Prints two_links_up [] 14 (decimal 7 ∷ [])
  pub parameter_sound : code_fault parameter_reached ≡ None
  pub parameter : Prints parameter_reached [] 11 (decimal 6 ∷ [])
  -- a link that is not set, and a place that is not set in the frame that a link names
  pub unset_link : Ends (begins_with (I.Outer 2 3 1)) [] 2 (end.Fault fault.Unknown)
  pub unset_argument : Ends (begins_with (I.Call 2 1 0)) [] 2 (end.Fault fault.Unknown)
  pub unset_slot :
      Ends (second (code_with (calls_1 ∷ routine_to 3 (links_to 1 2 ∷ places_to 1 3 ∷ []) [] false 5 ∷ [])
      (I.Call 1 0 0 ∷ I.Return ∷ I.Own 0 ∷ I.Chain 1 0 1 ∷ I.Return ∷ []))) [] 3 (end.Fault fault.Unknown)

-- which rule a code with links breaks first, and where
pub record LinksRefused : Type 0 where
  pub begins_well : code_fault (begins_with (I.Own 1)) ≡ None
  -- rule 2: a link to the module's body, and to a routine that is not there
  pub link_to_main : Breaks (main_links 0) 2 0
  pub link_to_none : Breaks (main_links 1) 2 0
  -- rule 3: the link of another routine in front
  pub other_param : Breaks (code_with
      (calls_1 ∷ routine_to 1 (links_to 1 1 ∷ []) (param_of param.Link 2 ∷ []) false 3 ∷ routine_to 1 (numbers_to 1 ∷ []) [] false 4 ∷ [])
      (I.WriteLine ∷ I.Return ∷ I.Return ∷ I.Return ∷ [])) 3 1
  -- rule 4: a number slot, a place slot and a link slot in the wrong place
  pub own_of_number : Breaks (begins_with (I.Own 0)) 4 2
  pub chain_of_place : Breaks (begins_with (I.Chain 1 2 0)) 4 2
  pub outer_to_link : Breaks (begins_with (I.Outer 1 3 1)) 4 2
  pub position_is_no_link : Breaks (plain_main (I.Own 0 ∷ I.Return ∷ [])) 4 0
  -- rule 5: a link to frames of another routine, no number slots or place slot there
  pub own_of_another : Breaks (begins_with (I.Own 3)) 5 2
  pub chain_to_another : Breaks (begins_with (I.Chain 3 3 0)) 5 2
  pub outer_of_link : Breaks (begins_with (I.Outer 2 3 0)) 5 2
  pub outer_behind : Breaks (begins_with (I.Outer 2 3 2)) 5 2
  pub same_of_number : Breaks (begins_with (I.OuterSame 2 3 1)) 5 2
  -- rule 10: the link of another routine as an argument
  pub other_argument : Breaks (begins_with (I.Call 2 3 0)) 10 2

-- a code with lines: 5 at addresses 2 and 3, none at 4 and 5, and 9 from 6 on
abbrev pub code_with_lines : PlainCode
code_with_lines = record outer_counted { lines = at_line 2 5 ∷ at_line 4 0 ∷ at_line 6 9 ∷ [] }

-- which line an address has, and at which address a run ended
pub record LinesTell : Type 0 where
  pub before : line_of code_with_lines 1 ≡ None
  pub first : line_of code_with_lines 2 ≡ Some 5
  pub second : line_of code_with_lines 3 ≡ Some 5
  pub unknown : line_of code_with_lines 4 ≡ None
  pub last : line_of code_with_lines 12 ≡ Some 9
  -- a machine that ended in a fault tells the address of the instruction
  pub fault_at : (state_after (begins_with (I.Outer 2 3 1)) [] 2).last ≡ 2
  pub none_taken : (start least).last ≡ 0

-- the texts of some codes and of some runs
pub record TextsTell : Type 0 where
  pub list :
      list_lines least ≡
      (codes "object" ∷ decimal 1 ∷ []) ∷
      (codes "routine" ∷ decimal 0 ∷ codes "A" ∷ codes "slots" ∷ decimal 1 ∷ codes "declared" ∷ decimal 0 ∷ codes "params" ∷ decimal 0
      ∷ codes "result" ∷ codes "0" ∷ []) ∷
      (decimal 0 ∷ codes "Return" ∷ []) ∷ []
  pub list_of_lines :
      list_lines (record least { version = 2; lines = at_line 0 3 ∷ [] }) ≡
      (codes "object" ∷ decimal 2 ∷ []) ∷
      (codes "routine" ∷ decimal 0 ∷ codes "A" ∷ codes "slots" ∷ decimal 1 ∷ codes "declared" ∷ decimal 0 ∷ codes "params" ∷ decimal 0
      ∷ codes "result" ∷ codes "0" ∷ []) ∷
      (decimal 0 ∷ codes "Return" ∷ []) ∷
      (codes "line" ∷ decimal 0 ∷ decimal 3 ∷ []) ∷ []
  -- x is the global in slot 1, and y is none
  pub trace :
      trace_lines (record branch_undone { globals = record { name = codes "x"; slot = 1; cells = 1 } ∷ [] }) [] (codes "x" ∷ codes "y" ∷ [])
      6 (start branch_undone) ≡
      (codes "choice" ∷ decimal 1 ∷ codes "x=?" ∷ codes "y=-" ∷ []) ∷
      (codes "print" ∷ decimal 2 ∷ []) ∷
      (codes "fail" ∷ decimal 1 ∷ codes "x=?" ∷ codes "y=-" ∷ []) ∷
      (codes "end" ∷ codes "succeeded" ∷ []) ∷ []
  pub trace_of_calls :
      trace_lines outer_counted [] [] 5 (start outer_counted) ≡
      (codes "call" ∷ codes "A" ∷ decimal 2 ∷ []) ∷
      (codes "call" ∷ codes "A" ∷ decimal 3 ∷ []) ∷
      (codes "end" ∷ codes "steps" ∷ []) ∷ []
