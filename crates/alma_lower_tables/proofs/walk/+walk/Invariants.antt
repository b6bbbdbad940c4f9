-- The loops of the walk: what was passed so far.
use Rattle.std.proofs.Common.{take}
use Rattle.alma_ir.specs.View.{stmts_list, arms_list, cases_list, branches_list, tests_list, links_list, args_list, sels_list}
use Rattle.alma_ir.specs.Phrases.{stmts_phrases, arms_phrases, cases_phrases, branches_phrases, tests_phrases, links_phrases, args_phrases}
use Rattle.alma_ir.specs.Phrases.{sels_phrases}
use Rattle.alma_lower_tables.specs.Numbers.{tables_of}
use Rattle.alma_lower_tables.specs.AddsPhrases.{AddsPhrases}
use Rattle.alma_lower_tables.proofs.walk.+walk.Given as goal

abbrev pub invariant-walk_stmts-loop-stmt : goal.invariant-walk_stmts-loop-stmt
invariant-walk_stmts-loop-stmt l = AddsPhrases (tables_of l.fn.numbers) (tables_of l.numbers)
    (stmts_phrases (stmts_list (take l.stmt-index l.body)))

abbrev pub invariant-walk_arms-loop-arm : goal.invariant-walk_arms-loop-arm
invariant-walk_arms-loop-arm l = AddsPhrases (tables_of l.fn.numbers) (tables_of l.numbers)
    (arms_phrases (arms_list (take l.arm-index l.arms)))

abbrev pub invariant-walk_cases-loop-arm : goal.invariant-walk_cases-loop-arm
invariant-walk_cases-loop-arm l = AddsPhrases (tables_of l.fn.numbers) (tables_of l.numbers)
    (cases_phrases (cases_list (take l.arm-index l.arms)))

abbrev pub invariant-walk_branches-loop-branch : goal.invariant-walk_branches-loop-branch
invariant-walk_branches-loop-branch l = AddsPhrases (tables_of l.fn.numbers) (tables_of l.numbers)
    (branches_phrases (branches_list (take l.branch-index l.branches)))

abbrev pub invariant-walk_tests-loop-test : goal.invariant-walk_tests-loop-test
invariant-walk_tests-loop-test l = AddsPhrases (tables_of l.fn.numbers) (tables_of l.numbers)
    (tests_phrases (tests_list (take l.test-index l.tests)))

abbrev pub invariant-walk_links-loop-link : goal.invariant-walk_links-loop-link
invariant-walk_links-loop-link l = AddsPhrases (tables_of l.fn.numbers) (tables_of l.numbers)
    (links_phrases (links_list (take l.link-index l.links)))

abbrev pub invariant-walk_args-loop-arg : goal.invariant-walk_args-loop-arg
invariant-walk_args-loop-arg l = AddsPhrases (tables_of l.fn.numbers) (tables_of l.numbers)
    (args_phrases (args_list (take l.arg-index l.args)))

abbrev pub invariant-walk_sels-loop-sel : goal.invariant-walk_sels-loop-sel
invariant-walk_sels-loop-sel l = AddsPhrases (tables_of l.fn.numbers) (tables_of l.numbers)
    (sels_phrases (sels_list (take l.sel-index l.sels)))
