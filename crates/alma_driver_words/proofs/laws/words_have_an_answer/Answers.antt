use Rattle.alma_driver_words.proofs.Deciding.{answer}
use Rattle.alma_driver_words.proofs.laws.words_have_an_answer.Goals as goal

pub returns : goal.returns
returns c = record { some = answer }
