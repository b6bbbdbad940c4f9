use Rattle.alma_pool.proofs.WordLemmas.{request_planned, bad_word_planned, request_or_bad}
use Rattle.alma_pool.proofs.laws.words_are_a_request_or_have_a_bad_word.Goals as goal

pub returns : goal.returns
returns c = record { request = request_planned; bad_word = bad_word_planned; one_of_both = request_or_bad }
