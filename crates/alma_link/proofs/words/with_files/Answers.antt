use Rattle.std.proofs.Common.{◌∙◌, refl, sym, arith}
use Rattle.alma_driver_words.specs.Words.{texts}
use Rattle.alma_link.proofs.WordLemmas.{files_within, same_count}
use Rattle.alma_link.proofs.words.with_files.Goals as goal

pub returns-in-None-clause-few : goal.returns-in-None-clause-few
returns-in-None-clause-few c =
    let h = files_within c.args.before c.args.before (texts c.args.files.now) (omega arith) (sym c.bad_file.ensures ∙ c.in-None.is) in
    omega (arith, h.1, same_count c.args.files.now (texts c.args.files.now) refl)

pub returns-in-None-clause-some : goal.returns-in-None-clause-some
returns-in-None-clause-some c =
    let h = files_within c.args.before c.args.before (texts c.args.files.now) (omega arith) (sym c.bad_file.ensures ∙ c.in-None.is) in
    omega (arith, h.0, same_count c.args.files.now (texts c.args.files.now) refl)
