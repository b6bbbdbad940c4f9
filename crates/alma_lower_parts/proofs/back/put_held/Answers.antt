use Rattle.std.proofs.Common.{rules, ◌≡◌, ◌∙◌, ap, sym, Some, to_z, of_z, w64}
use Rattle.std.proofs.lemmas.Int.{to_z-of_z}
use Rattle.alma_lower_parts.proofs.TurnedForms.{none_held, some_held}
use Rattle.alma_lower_parts.proofs.back.put_held.Goals as goal

pub returns-in_ok-put-in-Some : goal.returns-in_ok-put-in-Some
returns-in_ok-put-in-Some c =
    let same : to_z w64 (of_z w64 c.in-Some.value) ≡ c.in-Some.value = to_z-of_z w64 c.in-Some.value (search rules) in
    some_held c.args.line _ _ _ _ _ _ (ap Some same ∙ sym c.in-Some.is ∙ c.constant.ensures) c.in_ok-held-in-Some.ensures.slot
    c.in_ok-held-in-Some.ensures.takes c.in_ok-put-in-Some.ensures.codes

pub returns-in-None : goal.returns-in-None
returns-in-None c = none_held c.args.line _ _ (sym c.in-None.is ∙ c.constant.ensures)
