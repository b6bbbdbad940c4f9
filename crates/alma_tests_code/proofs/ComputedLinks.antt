-- What small codes with links and lines do, and which are refused, by computation.
use Rattle.std.proofs.Common.{refl}
use Rattle.alma_code.specs.Words.{words}
use Rattle.alma_code.specs.Rules.{instr_fault, instrs_fault, routine_fault, routines_fault, rule_5, rule_6, rule_7, rule_10, rule_11}
use Rattle.alma_code.specs.Rules.{rule_12}
use Rattle.alma_code.specs.Machine.{act}
use Rattle.alma_code.specs.ListText.{form_words}
use Rattle.alma_tests_code.specs.Links.{LinksRun, LinksRefused, LinesTell, TextsTell}

-- each side computes
pub links_run : LinksRun
unfolding words instr_fault instrs_fault routine_fault routines_fault rule_5 rule_6 rule_7 rule_10 rule_11 rule_12 act form_words
links_run = record {
  counted_sound = refl;
  counted = refl;
  counted_ends = refl;
  link_is_set = refl;
  handed_on_sound = refl;
  handed_on = refl;
  two_up_sound = refl;
  two_up = refl;
  parameter_sound = refl;
  parameter = refl;
  unset_link = refl;
  unset_argument = refl;
  unset_slot = refl;
}

-- each side computes
pub links_refused : LinksRefused
unfolding words instr_fault instrs_fault routine_fault routines_fault rule_5 rule_6 rule_7 rule_10 rule_11 rule_12 act form_words
links_refused = record {
  begins_well = refl;
  link_to_main = refl;
  link_to_none = refl;
  other_param = refl;
  own_of_number = refl;
  chain_of_place = refl;
  outer_to_link = refl;
  position_is_no_link = refl;
  own_of_another = refl;
  chain_to_another = refl;
  outer_of_link = refl;
  outer_behind = refl;
  same_of_number = refl;
  other_argument = refl;
}

-- each side computes
pub lines_tell : LinesTell
unfolding words instr_fault instrs_fault routine_fault routines_fault rule_5 rule_6 rule_7 rule_10 rule_11 rule_12 act form_words
lines_tell = record {
  before = refl;
  first = refl;
  second = refl;
  unknown = refl;
  last = refl;
  fault_at = refl;
  none_taken = refl;
}

-- each side computes
pub texts_tell : TextsTell
unfolding words instr_fault instrs_fault routine_fault routines_fault rule_5 rule_6 rule_7 rule_10 rule_11 rule_12 act form_words
texts_tell = record {
  list = refl;
  list_of_lines = refl;
  trace = refl;
  trace_of_calls = refl;
}
