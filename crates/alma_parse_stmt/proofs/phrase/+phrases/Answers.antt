use Rattle.alma_parse_stmt.proofs.phrase.+phrases.Goals as goal

pub inside-returns : goal.inside-returns
inside-returns t c = record { read = record { ends = λ o. tt } }
