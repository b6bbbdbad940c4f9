use Rattle.alma_driver_outcome.proofs.CommandLemmas.{bad_word_told, sample_told}
use Rattle.alma_driver_outcome.proofs.laws.calls_without_a_file_tell_their_words.Goals as goal

pub returns-clause-bad_word : goal.returns-clause-bad_word
returns-clause-bad_word c = bad_word_told

pub returns-clause-sample : goal.returns-clause-sample
returns-clause-sample c = sample_told
