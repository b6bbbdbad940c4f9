use Rattle.std.proofs.Common.{Some, ◌∙◌, ap, sym}
use Rattle.std.specs.Option.{option_map}
use Rattle.alma_io.proofs.NamedLemmas.{get-named_bytes}
use Rattle.alma_io.proofs.memory.disk.find_file.Goals as goal

pub returns-in-Some : goal.returns-in-Some
returns-in-Some c =
    get-named_bytes c.args.files.now c.args.name.now
    ∙ ap (option_map (λ v. v.items)) (sym c.in-Some.ensures.value)
    ∙ ap Some (sym c.deref.ensures.value)

pub returns-in-None : goal.returns-in-None
returns-in-None c = get-named_bytes c.args.files.now c.args.name.now ∙ ap (option_map (λ v. v.items)) (sym c.in-None.ensures.value)
