use Rattle.std.proofs.Common.{map, sym, ap, refl, ◌∙◌, []}
use Rattle.alma_join.specs.declared.directory.Matches.TheVariants as answer
use Rattle.alma_join.specs.Directory.{plain_export, entries_in}
use Rattle.alma_join.proofs.Going.{matches_listed}
use Rattle.alma_join.proofs.directory.matches_of.Goals as goal

pub returns-in-Some : goal.returns-in-Some
returns-in-Some c = λ all h.
    matches_listed c.args.directory.now all c.args.unit c.args.routine.now.name _ _ h
    (ap entries_in (sym c.in-Some.ensures.value) ∙ ap (map plain_export) (sym c.deref.ensures.value)) c.matches_among.ensures

pub returns-in-None : goal.returns-in-None
returns-in-None c = λ all h. matches_listed c.args.directory.now all c.args.unit c.args.routine.now.name answer.None [] h
    (ap entries_in (sym c.in-None.ensures.value)) refl
