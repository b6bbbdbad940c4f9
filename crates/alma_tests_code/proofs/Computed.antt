-- Small codes, run and judged by computing.
use Rattle.std.specs.Prelude.{◌≡◌, ◌-◌, ◌^◌, true, false, pos, negsuc, [], ◌∷◌, length, take, codes, None}
use Rattle.std.proofs.Common.{◌<◌, ◌≤◌, zero, suc, refl, arith, lit<, lit≤}
use Rattle.std.specs.Fmt.{decimal, signed_decimal}
use Rattle.alma_base.specs.declared.fault.RunFault.TheVariants as fault
use Rattle.alma_code.specs.declared.cell.Cell.TheVariants as cell
use Rattle.alma_code.specs.declared.head.ParamKind.TheVariants as param
use Rattle.alma_code.specs.declared.instr.Instr.TheVariants as I
use Rattle.alma_code.specs.declared.step.End.TheVariants as end
use Rattle.alma_code.specs.declared.step.Step.TheVariants as answer
use Rattle.alma_code.specs.Picture.{cell_at, last_frame, top_of, entry_at}
use Rattle.alma_code.specs.Machine.{step, start, act}
use Rattle.alma_code.specs.Layout.{RunsRise}
use Rattle.alma_code.specs.Plain.{head_at, start_at, end_at}
use Rattle.alma_code.specs.Records.{KeepsCounts, KeepsRecords}
use Rattle.alma_code.specs.Rules.{IsTable, last_end, code_fault, instr_fault, instrs_fault, routine_fault, routines_fault, rule_5, rule_6}
use Rattle.alma_code.specs.Rules.{rule_7, rule_10, rule_11, rule_12}
use Rattle.alma_tests_code.specs.Codes.{Ends, Prints, Breaks, state_after, change_of, param_of, numbers_to, places_to, marks_to}
use Rattle.alma_tests_code.specs.Codes.{routine_to, code_with, main_with, plain_main, least, branch_undone, choices_cut, sum_carried}
use Rattle.alma_tests_code.specs.Codes.{carry_grows, left_unknown, right_unknown, both_unknown, out_of_range, cells_equated, mix_called}
use Rattle.alma_tests_code.specs.Codes.{frame_again, function_called, frame_too_large, input_again, read_one, loop_counts, values_print}
use Rattle.alma_tests_code.specs.Codes.{operation, index_outside, part_named, global_written, array_copied, copy_overlaps}
use Rattle.alma_tests_code.specs.Codes.{equation_overlaps, equation_stops, jump_if_zero, bound_to, byte_read, small_read, nothing_held}
use Rattle.alma_tests_code.specs.Codes.{kept_below, unset_argument, loop_by}
use Rattle.alma_code.specs.Words.{words}

pub least_code_table : IsTable least
least_code_table = record {
  some = lit≤ tt;
  rise = λ r. elim r as (λ r. r < 1 → start_at least r ≤ end_at least r) [ zero ↦ λ _. lit≤ tt | suc k ↦ λ lt. absurd (omega arith) ];
  last = refl;
  runs = λ r. elim r as (λ r. r < 1 → RunsRise 0 (head_at least r).runs (last_end 0 (head_at least r).runs))
      [ zero ↦ λ _. (lit< tt, refl) | suc k ↦ λ lt. absurd (omega arith) ];
}

pub least_code_counts : KeepsCounts least
least_code_counts = record {
  routines = lit≤ tt;
  globals = lit≤ tt;
  params = lit≤ tt;
  runs = lit≤ tt;
  ranges = lit≤ tt;
  texts = lit≤ tt;
  names = lit≤ tt;
  text_bytes = lit≤ tt;
  instrs = lit≤ tt;
  lines = lit≤ tt;
}

pub least_code_records : KeepsRecords least
least_code_records = record { routines = refl; globals = refl; ranges = refl; lines = refl }

pub least_code_sound : code_fault least ≡ None
unfolding words instr_fault instrs_fault routine_fault routines_fault rule_5 rule_6 rule_7 rule_10 rule_11 rule_12
least_code_sound = refl

pub least_code_ends : Ends least [] 1 end.Succeeded
unfolding act
least_code_ends = refl

pub least_code_prints : Prints least [] 1 []
unfolding act
least_code_prints = refl

pub branch_comes_back_sound : code_fault branch_undone ≡ None
unfolding words instr_fault instrs_fault routine_fault routines_fault rule_5 rule_6 rule_7 rule_10 rule_11 rule_12
branch_comes_back_sound = refl

pub branch_comes_back_restores : (state_after branch_undone [] 5).now ≡ (start branch_undone).now
unfolding act
branch_comes_back_restores = refl

pub branch_comes_back_popped : (step branch_undone [] (state_after branch_undone [] 4)).answer ≡ answer.Popped 1
unfolding act
branch_comes_back_popped = refl

pub branch_comes_back_ends : Ends branch_undone [] 6 end.Succeeded
unfolding act
branch_comes_back_ends = refl

pub branch_comes_back_prints : Prints branch_undone [] 6 (codes "Hi" ∷ [])
unfolding act
branch_comes_back_prints = refl

pub cut_drops_choices_sound : code_fault choices_cut ≡ None
unfolding words instr_fault instrs_fault routine_fault routines_fault rule_5 rule_6 rule_7 rule_10 rule_11 rule_12
cut_drops_choices_sound = refl

pub cut_drops_choices_cut : (step choices_cut [] (state_after choices_cut [] 4)).answer ≡ answer.Cut 0
unfolding act
cut_drops_choices_cut = refl

pub cut_drops_choices_ends : Ends choices_cut [] 8 end.Failed
unfolding act
cut_drops_choices_ends = refl

pub cut_drops_choices_prints : Prints choices_cut [] 8 (decimal 1 ∷ [])
unfolding act
cut_drops_choices_prints = refl

pub cut_drops_choices_steps : (state_after choices_cut [] 8).steps ≡ 8
unfolding act
cut_drops_choices_steps = refl

pub cut_drops_choices_choices : (state_after choices_cut [] 8).choices ≡ 1
unfolding act
cut_drops_choices_choices = refl

pub cut_drops_choices_fails : (state_after choices_cut [] 8).fails ≡ 0
unfolding act
cut_drops_choices_fails = refl

pub forall_carries_a_sum_sound : code_fault sum_carried ≡ None
unfolding words instr_fault instrs_fault routine_fault routines_fault rule_5 rule_6 rule_7 rule_10 rule_11 rule_12
forall_carries_a_sum_sound = refl

pub forall_carries_a_sum_ends : Ends sum_carried [] 19 end.Succeeded
unfolding act
forall_carries_a_sum_ends = refl

pub forall_carries_a_sum_prints : Prints sum_carried [] 19 (decimal 3 ∷ [])
unfolding act
forall_carries_a_sum_prints = refl

pub forall_carries_a_sum_cells : take 3 (last_frame (state_after sum_carried [] 19).now).cells ≡ cell.Int (pos 0) ∷ cell.Int (pos 3)
    ∷ cell.Unknown ∷ []
unfolding act
forall_carries_a_sum_cells = refl

pub forall_carries_a_sum_choices : (state_after sum_carried [] 19).choices ≡ 4
unfolding act
forall_carries_a_sum_choices = refl

pub forall_carries_a_sum_fails : (state_after sum_carried [] 19).fails ≡ 2
unfolding act
forall_carries_a_sum_fails = refl

pub forall_carry_grows_sound : code_fault carry_grows ≡ None
unfolding words instr_fault instrs_fault routine_fault routines_fault rule_5 rule_6 rule_7 rule_10 rule_11 rule_12
forall_carry_grows_sound = refl

pub forall_carry_grows_first : (top_of (state_after carry_grows [] 9).held).carry ≡ []
unfolding act
forall_carry_grows_first = refl

pub forall_carry_grows_carry : (top_of (state_after carry_grows [] 18).held).carry ≡ change_of 0 1 (pos 1) ∷ change_of 0 2 (pos 2) ∷ []
unfolding act
forall_carry_grows_carry = refl

pub forall_carry_grows_ends : Ends carry_grows [] 22 end.Succeeded
unfolding act
forall_carry_grows_ends = refl

pub forall_carry_grows_prints : Prints carry_grows [] 22 (decimal 1 ∷ decimal 2 ∷ [])
unfolding act
forall_carry_grows_prints = refl

pub equation_binds_left_sound : code_fault left_unknown ≡ None
unfolding words instr_fault instrs_fault routine_fault routines_fault rule_5 rule_6 rule_7 rule_10 rule_11 rule_12
equation_binds_left_sound = refl

pub equation_binds_left_ends : Ends left_unknown [] 6 end.Succeeded
unfolding act
equation_binds_left_ends = refl

pub equation_binds_left_prints : Prints left_unknown [] 6 (decimal 5 ∷ [])
unfolding act
equation_binds_left_prints = refl

pub equation_binds_right_sound : code_fault right_unknown ≡ None
unfolding words instr_fault instrs_fault routine_fault routines_fault rule_5 rule_6 rule_7 rule_10 rule_11 rule_12
equation_binds_right_sound = refl

pub equation_binds_right_ends : Ends right_unknown [] 6 end.Succeeded
unfolding act
equation_binds_right_ends = refl

pub equation_binds_right_prints : Prints right_unknown [] 6 (decimal 5 ∷ [])
unfolding act
equation_binds_right_prints = refl

pub equation_faults_unknown : Ends both_unknown [] 3 (end.Fault fault.Unknown)
unfolding act
equation_faults_unknown = refl

pub equation_faults_range : Ends out_of_range [] 4 (end.Fault fault.Range)
unfolding act
equation_faults_range = refl

pub cells_are_equated_sound : code_fault cells_equated ≡ None
unfolding words instr_fault instrs_fault routine_fault routines_fault rule_5 rule_6 rule_7 rule_10 rule_11 rule_12
cells_are_equated_sound = refl

pub cells_are_equated_ends : Ends cells_equated [] 10 end.Succeeded
unfolding act
cells_are_equated_ends = refl

pub cells_are_equated_prints : Prints cells_equated [] 10 (decimal 1 ∷ decimal 2 ∷ decimal 1 ∷ decimal 2 ∷ [])
unfolding act
cells_are_equated_prints = refl

pub mix_takes_both_sound : code_fault mix_called ≡ None
unfolding words instr_fault instrs_fault routine_fault routines_fault rule_5 rule_6 rule_7 rule_10 rule_11 rule_12
mix_takes_both_sound = refl

pub mix_takes_both_called : (step mix_called [] (state_after mix_called [] 1)).answer ≡ answer.Called 1 2
unfolding act
mix_takes_both_called = refl

pub mix_takes_both_returned : (step mix_called [] (state_after mix_called [] 4)).answer ≡ answer.Returned 1
unfolding act
mix_takes_both_returned = refl

pub mix_takes_both_ends : Ends mix_called [] 16 end.Failed
unfolding act
mix_takes_both_ends = refl

pub mix_takes_both_prints : Prints mix_called [] 16 (decimal 7 ∷ [])
unfolding act
mix_takes_both_prints = refl

pub frame_lives_again_sound : code_fault frame_again ≡ None
unfolding words instr_fault instrs_fault routine_fault routines_fault rule_5 rule_6 rule_7 rule_10 rule_11 rule_12
frame_lives_again_sound = refl

pub frame_lives_again_left : length (state_after frame_again [] 10).now ≡ 1
unfolding act
frame_lives_again_left = refl

pub frame_lives_again_again : length (state_after frame_again [] 11).now ≡ 2
unfolding act
frame_lives_again_again = refl

pub frame_lives_again_ends : Ends frame_again [] 19 end.Succeeded
unfolding act
frame_lives_again_ends = refl

pub frame_lives_again_prints : Prints frame_again [] 19 (decimal 2 ∷ [])
unfolding act
frame_lives_again_prints = refl

pub function_gives_its_number_sound : code_fault function_called ≡ None
unfolding words instr_fault instrs_fault routine_fault routines_fault rule_5 rule_6 rule_7 rule_10 rule_11 rule_12
function_gives_its_number_sound = refl

pub function_gives_its_number_ends : Ends function_called [] 5 end.Succeeded
unfolding act
function_gives_its_number_ends = refl

pub function_gives_its_number_prints : Prints function_called [] 5 (decimal 4 ∷ [])
unfolding act
function_gives_its_number_prints = refl

pub too_many_cells_ends : Ends frame_too_large [] 1 (end.Fault fault.CellsFull)
unfolding act
too_many_cells_ends = refl

pub input_comes_back_sound : code_fault input_again ≡ None
unfolding words instr_fault instrs_fault routine_fault routines_fault rule_5 rule_6 rule_7 rule_10 rule_11 rule_12
input_comes_back_sound = refl

pub input_comes_back_ends : Ends input_again (codes "5 6") 9 end.Succeeded
unfolding act
input_comes_back_ends = refl

pub input_comes_back_prints : Prints input_again (codes "5 6") 9 (decimal 5 ∷ [])
unfolding act
input_comes_back_prints = refl

pub read_finds_nothing_none : Ends read_one (codes " x") 3 end.Failed
unfolding act
read_finds_nothing_none = refl

pub read_finds_nothing_fault : Ends read_one (codes "9223372036854775808") 2 (end.Fault fault.ReadRange)
unfolding act
read_finds_nothing_fault = refl

pub loop_goes_to_its_limit_sound : code_fault loop_counts ≡ None
unfolding words instr_fault instrs_fault routine_fault routines_fault rule_5 rule_6 rule_7 rule_10 rule_11 rule_12
loop_goes_to_its_limit_sound = refl

pub loop_goes_to_its_limit_ends : Ends loop_counts [] 12 end.Succeeded
unfolding act
loop_goes_to_its_limit_ends = refl

pub loop_goes_to_its_limit_prints : Prints loop_counts [] 12 (decimal 1 ∷ decimal 2 ∷ decimal 3 ∷ [])
unfolding act
loop_goes_to_its_limit_prints = refl

pub values_are_printed_sound : code_fault values_print ≡ None
unfolding words instr_fault instrs_fault routine_fault routines_fault rule_5 rule_6 rule_7 rule_10 rule_11 rule_12
values_are_printed_sound = refl

pub values_are_printed_prints : Prints values_print [] 6 (signed_decimal (negsuc 0) ∷ (255 ∷ []) ∷ codes "TRUE" ∷ (10 ∷ []) ∷ [])
unfolding act
values_are_printed_prints = refl

pub arithmetic_rounds_down_quotient : Prints (operation (I.Div 3 1 2) (negsuc 6) (pos 2)) [] 5 (signed_decimal (negsuc 3) ∷ [])
unfolding act
arithmetic_rounds_down_quotient = refl

pub arithmetic_rounds_down_remainder : Prints (operation (I.Mod 3 1 2) (negsuc 6) (pos 2)) [] 5 (decimal 1 ∷ [])
unfolding act
arithmetic_rounds_down_remainder = refl

pub arithmetic_rounds_down_negative : Prints (operation (I.Mod 3 1 2) (pos 7) (negsuc 1)) [] 5 (signed_decimal (negsuc 0) ∷ [])
unfolding act
arithmetic_rounds_down_negative = refl

pub arithmetic_rounds_down_least : Prints (operation (I.Mod 3 1 2) (negsuc (2 ^ 63 - 1)) (negsuc 0)) [] 5 (decimal 0 ∷ [])
unfolding act
arithmetic_rounds_down_least = refl

pub arithmetic_faults_sum : Ends (operation (I.Add 3 1 2) (pos (2 ^ 63 - 1)) (pos 1)) [] 3 (end.Fault fault.Overflow)
unfolding act
arithmetic_faults_sum = refl

pub arithmetic_faults_quotient : Ends (operation (I.Div 3 1 2) (negsuc (2 ^ 63 - 1)) (negsuc 0)) [] 3 (end.Fault fault.Overflow)
unfolding act
arithmetic_faults_quotient = refl

pub arithmetic_faults_divisor : Ends (operation (I.Mod 3 1 2) (pos 1) (pos 0)) [] 3 (end.Fault fault.ZeroDivide)
unfolding act
arithmetic_faults_divisor = refl

pub arithmetic_faults_index : Ends index_outside [] 3 (end.Fault fault.Index)
unfolding act
arithmetic_faults_index = refl

pub arithmetic_faults_unknown : Ends (plain_main (I.Check 1 ∷ I.Return ∷ [])) [] 1 (end.Fault fault.Unknown)
unfolding act
arithmetic_faults_unknown = refl

pub routines_are_refused_empty_code : Breaks
    (code_with (routine_to 1 (numbers_to 1 ∷ []) [] false 1 ∷ routine_to 1 (numbers_to 1 ∷ []) [] false 1 ∷ []) (I.Return ∷ [])) 1 1
unfolding words instr_fault instrs_fault routine_fault routines_fault rule_5 rule_6 rule_7 rule_10 rule_11 rule_12
routines_are_refused_empty_code = refl

pub routines_are_refused_main_result : Breaks (code_with (routine_to 1 (numbers_to 1 ∷ []) [] true 1 ∷ []) (I.ReturnValue 0 ∷ [])) 1 0
unfolding words instr_fault instrs_fault routine_fault routines_fault rule_5 rule_6 rule_7 rule_10 rule_11 rule_12
routines_are_refused_main_result = refl

pub routines_are_refused_slot_count : Breaks (main_with 2 (numbers_to 1 ∷ []) (I.Return ∷ [])) 2 0
unfolding words instr_fault instrs_fault routine_fault routines_fault rule_5 rule_6 rule_7 rule_10 rule_11 rule_12
routines_are_refused_slot_count = refl

pub routines_are_refused_position : Breaks (main_with 1 (marks_to 1 ∷ []) (I.Return ∷ [])) 3 0
unfolding words instr_fault instrs_fault routine_fault routines_fault rule_5 rule_6 rule_7 rule_10 rule_11 rule_12
routines_are_refused_position = refl

pub routines_are_refused_param_slots : Breaks
    (code_with (routine_to 1 (numbers_to 1 ∷ []) [] false 1 ∷ routine_to 1 (numbers_to 1 ∷ []) (param_of param.Mix 1 ∷ []) false 2 ∷ [])
    (I.Return ∷ I.Return ∷ [])) 3 1
unfolding words instr_fault instrs_fault routine_fault routines_fault rule_5 rule_6 rule_7 rule_10 rule_11 rule_12
routines_are_refused_param_slots = refl

pub slots_are_refused_wrong_kind : Breaks (plain_main (I.Const 4 (pos 1) ∷ I.Return ∷ [])) 4 0
unfolding words instr_fault instrs_fault routine_fault routines_fault rule_5 rule_6 rule_7 rule_10 rule_11 rule_12
slots_are_refused_wrong_kind = refl

pub slots_are_refused_input_position : Breaks (plain_main (I.Const 0 (pos 1) ∷ I.Return ∷ [])) 4 0
unfolding words instr_fault instrs_fault routine_fault routines_fault rule_5 rule_6 rule_7 rule_10 rule_11 rule_12
slots_are_refused_input_position = refl

pub slots_are_refused_place_of_place : Breaks (plain_main (I.Local 4 5 ∷ I.Return ∷ [])) 5 0
unfolding words instr_fault instrs_fault routine_fault routines_fault rule_5 rule_6 rule_7 rule_10 rule_11 rule_12
slots_are_refused_place_of_place = refl

pub slots_are_refused_part_outside : Breaks (plain_main (I.Local 4 1 ∷ I.Field 5 4 1 ∷ I.Return ∷ [])) 5 1
unfolding words instr_fault instrs_fault routine_fault routines_fault rule_5 rule_6 rule_7 rule_10 rule_11 rule_12
slots_are_refused_part_outside = refl

pub slots_are_refused_elements_outside : Breaks (plain_main (I.Local 4 1 ∷ I.Const 3 (pos 1) ∷ I.Index 5 4 3 1 ∷ I.Return ∷ [])) 6 2
unfolding words instr_fault instrs_fault routine_fault routines_fault rule_5 rule_6 rule_7 rule_10 rule_11 rule_12
slots_are_refused_elements_outside = refl

pub slots_are_refused_many_cells : Breaks (main_with 5 (numbers_to 4 ∷ places_to 2 5 ∷ []) (I.Local 4 1 ∷ I.Load 1 4 ∷ I.Return ∷ [])) 7 1
unfolding words instr_fault instrs_fault routine_fault routines_fault rule_5 rule_6 rule_7 rule_10 rule_11 rule_12
slots_are_refused_many_cells = refl

pub words_are_refused_no_range : Breaks (plain_main (I.InRange 1 2 ∷ I.Return ∷ [])) 8 0
unfolding words instr_fault instrs_fault routine_fault routines_fault rule_5 rule_6 rule_7 rule_10 rule_11 rule_12
words_are_refused_no_range = refl

pub words_are_refused_no_text : Breaks (plain_main (I.WriteText 1 ∷ I.Return ∷ [])) 8 0
unfolding words instr_fault instrs_fault routine_fault routines_fault rule_5 rule_6 rule_7 rule_10 rule_11 rule_12
words_are_refused_no_text = refl

pub words_are_refused_jump_out : Breaks (plain_main (I.Jump 2 ∷ I.Return ∷ [])) 9 0
unfolding words instr_fault instrs_fault routine_fault routines_fault rule_5 rule_6 rule_7 rule_10 rule_11 rule_12
words_are_refused_jump_out = refl

pub words_are_refused_call_of_main : Breaks (plain_main (I.Call 0 0 0 ∷ I.Return ∷ [])) 10 0
unfolding words instr_fault instrs_fault routine_fault routines_fault rule_5 rule_6 rule_7 rule_10 rule_11 rule_12
words_are_refused_call_of_main = refl

pub words_are_refused_call_last : Breaks
    (code_with (routine_to 1 (numbers_to 1 ∷ []) [] false 1 ∷ routine_to 1 (numbers_to 1 ∷ []) [] false 2 ∷ [])
    (I.Call 1 0 0 ∷ I.Return ∷ [])) 10 0
unfolding words instr_fault instrs_fault routine_fault routines_fault rule_5 rule_6 rule_7 rule_10 rule_11 rule_12
words_are_refused_call_last = refl

pub words_are_refused_no_end : Breaks (plain_main (I.WriteLine ∷ [])) 11 0
unfolding words instr_fault instrs_fault routine_fault routines_fault rule_5 rule_6 rule_7 rule_10 rule_11 rule_12
words_are_refused_no_end = refl

pub words_are_refused_other_fault : Breaks (plain_main (I.Fault 4 ∷ [])) 12 0
unfolding words instr_fault instrs_fault routine_fault routines_fault rule_5 rule_6 rule_7 rule_10 rule_11 rule_12
words_are_refused_other_fault = refl

pub words_are_refused_no_result : Breaks (plain_main (I.ReturnValue 1 ∷ [])) 12 0
unfolding words instr_fault instrs_fault routine_fault routines_fault rule_5 rule_6 rule_7 rule_10 rule_11 rule_12
words_are_refused_no_result = refl

pub operations_compute_copy : Prints (operation (I.Move 3 1) (pos 5) (pos 0)) [] 5 (decimal 5 ∷ [])
unfolding act
operations_compute_copy = refl

pub operations_compute_difference : Prints (operation (I.Sub 3 1 2) (pos 7) (pos 9)) [] 5 (signed_decimal (negsuc 1) ∷ [])
unfolding act
operations_compute_difference = refl

pub operations_compute_product : Prints (operation (I.Mul 3 1 2) (negsuc 2) (pos 4)) [] 5 (signed_decimal (negsuc 11) ∷ [])
unfolding act
operations_compute_product = refl

pub operations_compute_opposite : Prints (operation (I.Neg 3 1) (pos 5) (pos 0)) [] 5 (signed_decimal (negsuc 4) ∷ [])
unfolding act
operations_compute_opposite = refl

pub operations_compute_equal : Prints (operation (I.Equal 3 1 2) (pos 5) (pos 5)) [] 5 (decimal 1 ∷ [])
unfolding act
operations_compute_equal = refl

pub operations_compute_less : Prints (operation (I.Less 3 1 2) (pos 5) (pos 5)) [] 5 (decimal 0 ∷ [])
unfolding act
operations_compute_less = refl

pub operations_compute_less_or_equal : Prints (operation (I.LessEq 3 1 2) (pos 5) (pos 5)) [] 5 (decimal 1 ∷ [])
unfolding act
operations_compute_less_or_equal = refl

pub operations_compute_flip : Prints (operation (I.Flip 3 1) (pos 7) (pos 0)) [] 5 (decimal 0 ∷ [])
unfolding act
operations_compute_flip = refl

pub operations_compute_flip_zero : Prints (operation (I.Flip 3 1) (pos 0) (pos 0)) [] 5 (decimal 1 ∷ [])
unfolding act
operations_compute_flip_zero = refl

pub operations_compute_range : Ends (operation (I.InRange 1 1) (pos 3) (pos 0)) [] 3 (end.Fault fault.Range)
unfolding act
operations_compute_range = refl

pub places_name_parts_sound : code_fault part_named ≡ None
unfolding words instr_fault instrs_fault routine_fault routines_fault rule_5 rule_6 rule_7 rule_10 rule_11 rule_12
places_name_parts_sound = refl

pub places_name_parts_ends : Ends part_named [] 12 end.Succeeded
unfolding act
places_name_parts_ends = refl

pub places_name_parts_prints : Prints part_named [] 12 (decimal 9 ∷ decimal 1 ∷ decimal 9 ∷ [])
unfolding act
places_name_parts_prints = refl

pub globals_are_shared_sound : code_fault global_written ≡ None
unfolding words instr_fault instrs_fault routine_fault routines_fault rule_5 rule_6 rule_7 rule_10 rule_11 rule_12
globals_are_shared_sound = refl

pub globals_are_shared_ends : Ends global_written [] 7 end.Succeeded
unfolding act
globals_are_shared_ends = refl

pub globals_are_shared_prints : Prints global_written [] 7 (decimal 8 ∷ [])
unfolding act
globals_are_shared_prints = refl

pub arrays_go_by_value_sound : code_fault array_copied ≡ None
unfolding words instr_fault instrs_fault routine_fault routines_fault rule_5 rule_6 rule_7 rule_10 rule_11 rule_12
arrays_go_by_value_sound = refl

pub arrays_go_by_value_ends : Ends array_copied [] 9 end.Succeeded
unfolding act
arrays_go_by_value_ends = refl

pub arrays_go_by_value_prints : Prints array_copied [] 9 (decimal 6 ∷ decimal 5 ∷ [])
unfolding act
arrays_go_by_value_prints = refl

pub cells_overlap_copy : Prints copy_overlaps [] 9 (decimal 1 ∷ decimal 1 ∷ decimal 2 ∷ [])
unfolding act
cells_overlap_copy = refl

pub cells_overlap_equation : Prints equation_overlaps [] 8 (decimal 1 ∷ decimal 1 ∷ decimal 1 ∷ [])
unfolding act
cells_overlap_equation = refl

pub cells_overlap_fault : Ends equation_stops [] 4 (end.Fault fault.Unknown)
unfolding act
cells_overlap_fault = refl

pub cells_overlap_written : cell_at (state_after equation_stops [] 4).now 0 3 cell.Unset ≡ cell.Int (pos 7)
unfolding act
cells_overlap_written = refl

pub jumps_test_zero_sound : code_fault (jump_if_zero (pos 0)) ≡ None
unfolding words instr_fault instrs_fault routine_fault routines_fault rule_5 rule_6 rule_7 rule_10 rule_11 rule_12
jumps_test_zero_sound = refl

pub jumps_test_zero_zero : Ends (jump_if_zero (pos 0)) [] 3 end.Succeeded
unfolding act
jumps_test_zero_zero = refl

pub jumps_test_zero_other : Ends (jump_if_zero (pos 1)) [] 3 (end.Fault fault.NoCase)
unfolding act
jumps_test_zero_other = refl

pub known_cells_are_compared_same : Ends (bound_to (pos 1)) [] 5 end.Succeeded
unfolding act
known_cells_are_compared_same = refl

pub known_cells_are_compared_other : Ends (bound_to (pos 3)) [] 5 end.Failed
unfolding act
known_cells_are_compared_other = refl

pub bytes_are_read_sound : code_fault byte_read ≡ None
unfolding words instr_fault instrs_fault routine_fault routines_fault rule_5 rule_6 rule_7 rule_10 rule_11 rule_12
bytes_are_read_sound = refl

pub bytes_are_read_prints : Prints byte_read (codes "x") 4 (codes "x" ∷ [])
unfolding act
bytes_are_read_prints = refl

pub bytes_are_read_end : Ends byte_read [] 3 end.Failed
unfolding act
bytes_are_read_end = refl

pub range_leaves_input_fault : Ends small_read (codes "5") 2 (end.Fault fault.Range)
unfolding act
range_leaves_input_fault = refl

pub range_leaves_input_position : cell_at (state_after small_read (codes "5") 2).now 0 0 cell.Unset ≡ cell.Int (pos 0)
unfolding act
range_leaves_input_position = refl

pub range_leaves_input_moved : cell_at (state_after small_read (codes "2") 2).now 0 0 cell.Unset ≡ cell.Int (pos 1)
unfolding act
range_leaves_input_moved = refl

pub nothing_to_keep_sound : code_fault nothing_held ≡ None
unfolding words instr_fault instrs_fault routine_fault routines_fault rule_5 rule_6 rule_7 rule_10 rule_11 rule_12
nothing_to_keep_sound = refl

pub nothing_to_keep_finish : (step nothing_held [] (state_after nothing_held [] 1)).answer ≡ answer.Went
unfolding act
nothing_to_keep_finish = refl

pub nothing_to_keep_keep : (step nothing_held [] (state_after nothing_held [] 2)).answer ≡ answer.Went
unfolding act
nothing_to_keep_keep = refl

pub nothing_to_keep_cut : (step nothing_held [] (state_after nothing_held [] 3)).answer ≡ answer.Went
unfolding act
nothing_to_keep_cut = refl

pub nothing_to_keep_overlay : (step nothing_held [] (state_after nothing_held [] 4)).answer ≡ answer.Chose 1
unfolding act
nothing_to_keep_overlay = refl

pub body_kept_below_sound : code_fault kept_below ≡ None
unfolding words instr_fault instrs_fault routine_fault routines_fault rule_5 rule_6 rule_7 rule_10 rule_11 rule_12
body_kept_below_sound = refl

pub body_kept_below_answer : (step kept_below [] (state_after kept_below [] 4)).answer ≡ answer.Cut 2
unfolding act
body_kept_below_answer = refl

pub body_kept_below_first : (entry_at (state_after kept_below [] 5).held 1).carry ≡ change_of 0 1 (pos 7) ∷ []
unfolding act
body_kept_below_first = refl

pub body_kept_below_second : (entry_at (state_after kept_below [] 5).held 2).carry ≡ []
unfolding act
body_kept_below_second = refl

pub forall_copies_old_mark_copy : cell_at (entry_at (state_after sum_carried [] 2).held 1).frames 0 6 cell.Unknown ≡ cell.Unset
unfolding act
forall_copies_old_mark_copy = refl

pub forall_copies_old_mark_now : cell_at (state_after sum_carried [] 2).now 0 6 cell.Unknown ≡ cell.Mark 1
unfolding act
forall_copies_old_mark_now = refl

pub forall_copies_old_mark_popped : (step sum_carried [] (state_after sum_carried [] 15)).answer ≡ answer.Popped 1
unfolding act
forall_copies_old_mark_popped = refl

pub forall_copies_old_mark_height : length (state_after sum_carried [] 16).held ≡ 1
unfolding act
forall_copies_old_mark_height = refl

pub unset_words_fault_place : Ends (plain_main (I.Load 1 4 ∷ I.Return ∷ [])) [] 1 (end.Fault fault.Unknown)
unfolding act
unset_words_fault_place = refl

pub unset_words_fault_mark : Ends (plain_main (I.Cut 6 ∷ I.Return ∷ [])) [] 1 (end.Fault fault.Unknown)
unfolding act
unset_words_fault_mark = refl

pub unset_words_fault_argument : Ends unset_argument [] 1 (end.Fault fault.Unknown)
unfolding act
unset_words_fault_argument = refl

pub ended_machine_stays_address : (state_after both_unknown [] 3).at ≡ 3
unfolding act
ended_machine_stays_address = refl

pub ended_machine_stays_stays : (state_after both_unknown [] 9) ≡ (state_after both_unknown [] 3)
unfolding act
ended_machine_stays_stays = refl

pub loops_step_exactly_down : Prints (loop_by (pos 5) (pos 1) (negsuc 1)) [] 12 (decimal 5 ∷ decimal 3 ∷ decimal 1 ∷ [])
unfolding act
loops_step_exactly_down = refl

pub loops_step_exactly_edge : Ends (loop_by (pos (2 ^ 63 - 1)) (pos (2 ^ 63 - 1)) (pos 1)) [] 6 end.Succeeded
unfolding act
loops_step_exactly_edge = refl
