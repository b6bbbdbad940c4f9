use Rattle.std.proofs.Common.{◌≡◌, ◌∙◌, arith, length}
use Rattle.std.proofs.lemmas.List.{take_at}
use Rattle.alma_lower_slots.proofs.NewKinds.{kinds_found}
use Rattle.alma_lower_slots.proofs.heads.new_kinds.Goals as goal

pub returns-in-Some : goal.returns-in-Some
returns-in-Some c =
    let same : length c.name_kinds.new.named ≡ c.in_ok-named.named.len =
    omega (arith, c.name_kinds.auto.named, c.deref_mut.ensures.len) in
    kinds_found _ c.args.kinds.now c.args.stretches.now c.name_kinds.new.named _ c.in-Some.count
    (c.deref.ensures.value ∙ take_at c.name_kinds.new.named _ _ same) c.in-Some.ensures c.all_named.ensures
