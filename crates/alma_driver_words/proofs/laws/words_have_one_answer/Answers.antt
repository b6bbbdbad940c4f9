use Rattle.alma_driver_words.specs.Words.{IsRequest}
use Rattle.alma_driver_words.proofs.BadWords.{one_bad_word}
use Rattle.alma_driver_words.proofs.WordLemmas.{one_request}
use Rattle.alma_driver_words.proofs.laws.words_have_one_answer.Goals as goal

pub returns-clause-request : goal.returns-clause-request
returns-clause-request c = one_request

pub returns-clause-bad_word : goal.returns-clause-bad_word
returns-clause-bad_word c = one_bad_word IsRequest

pub returns-clause-apart : goal.returns-clause-apart
returns-clause-apart c = λ words request k h bad. bad.none (request, h)
