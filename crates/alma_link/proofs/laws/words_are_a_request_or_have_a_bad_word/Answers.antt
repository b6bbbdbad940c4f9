use Rattle.std.proofs.Common.{ap}
use Rattle.alma_link.specs.Link.{request_plan}
use Rattle.alma_link.proofs.Requests.{request_is, bad_word_is, one_of_both}
use Rattle.alma_link.proofs.laws.words_are_a_request_or_have_a_bad_word.Goals as goal

pub returns-clause-request : goal.returns-clause-request
returns-clause-request c = λ words r asks. ap request_plan (request_is words r asks)

pub returns-clause-bad_word : goal.returns-clause-bad_word
returns-clause-bad_word c = λ words k bad. ap request_plan (bad_word_is words k bad)

pub returns-clause-one_of_both : goal.returns-clause-one_of_both
returns-clause-one_of_both c = one_of_both
