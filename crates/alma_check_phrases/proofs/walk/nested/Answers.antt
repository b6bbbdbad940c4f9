use Rattle.alma_check_phrases.proofs.walk.nested.Goals as goal

pub returns : goal.returns
returns g c = c.requires.judges.each_call _ _ _ _ _ _ _ c.inside.ensures
