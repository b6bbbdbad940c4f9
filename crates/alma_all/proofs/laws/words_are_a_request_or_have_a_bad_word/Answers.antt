use Rattle.alma_all.proofs.Requests.{plan_is, bad_word_is, one_of_both}
use Rattle.alma_all.proofs.laws.words_are_a_request_or_have_a_bad_word.Goals as goal

pub returns-clause-request : goal.returns-clause-request
returns-clause-request c = plan_is

pub returns-clause-bad_word : goal.returns-clause-bad_word
returns-clause-bad_word c = bad_word_is

pub returns-clause-one_of_both : goal.returns-clause-one_of_both
returns-clause-one_of_both c = one_of_both
