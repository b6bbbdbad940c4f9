use Rattle.std.proofs.Common.{◌∙◌, ap, refl}
use Rattle.alma_driver_words.specs.Words.{texts}
use Rattle.alma_all.specs.All.{with_options, with_steps}
use Rattle.alma_all.proofs.WordLemmas.{option_is, no_option}
use Rattle.alma_all.proofs.WordCourses.{no_word, some_word}
use Rattle.alma_all.proofs.words.steps_of.Goals as goal

pub returns-in_default-clause-steps : goal.returns-in_default-clause-steps
returns-in_default-clause-steps c = λ file. ap (with_options file) c.in_default.ensures

pub returns-in_default-steps_option-clause-steps : goal.returns-in_default-steps_option-clause-steps
returns-in_default-steps_option-clause-steps c = λ file.
    ap (with_options file) c.in-Some.ensures
    ∙ ap (λ steps. with_steps file steps (texts c.in-Some.more.now)) (no_option _ c.in_default-steps_option.ensures)

pub returns-then-is_empty-clause-steps : goal.returns-then-is_empty-clause-steps
returns-then-is_empty-clause-steps c = λ file.
    rw (c.in-Some.ensures, option_is _ _ c.in-Some-steps_option.ensures, no_word c.in-Some.more.now c.if-is_empty.ensures) refl

pub returns-else-is_empty-clause-steps : goal.returns-else-is_empty-clause-steps
returns-else-is_empty-clause-steps c = λ file.
    let more = some_word c.in-Some.more.now c.if-is_empty.ensures in
    rw (c.in-Some.ensures, option_is _ _ c.in-Some-steps_option.ensures, more.2) refl
