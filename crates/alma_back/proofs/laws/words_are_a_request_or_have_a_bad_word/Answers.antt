use Rattle.alma_back.proofs.WordLemmas.{asked_or_bad, bad_plan, request_plan}
use Rattle.alma_back.proofs.laws.words_are_a_request_or_have_a_bad_word.Goals as goal

pub returns : goal.returns
returns c = record { request = request_plan; bad_word = bad_plan; one_of_both = asked_or_bad }
