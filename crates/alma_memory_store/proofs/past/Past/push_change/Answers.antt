use Rattle.std.proofs.Common.{◌≡◌, ◌++◌, ◌∷◌, [], sym, ap, ◌∙◌}
use Rattle.std.specs.Prelude.{Some}
use Rattle.std.proofs.lemmas.List.{map-append}
use Rattle.alma_code.specs.declared.cell.Cell.{Cell}
use Rattle.alma_memory_store.specs.declared.carry.SlotPlace.{SlotPlace}
use Rattle.alma_memory_store.specs.Numbers.{number_of}
use Rattle.alma_memory_store.specs.Past.{change_between}
use Rattle.alma_memory_store.specs.Carries.{carry_of_entries, change_of}
use Rattle.alma_memory_store.proofs.Gains.{diff-changed, change_at}
use Rattle.alma_memory_store.proofs.past.Past.push_change.Goals as goal

pub returns-in_ok-push : goal.returns-in_ok-push
returns-in_ok-push c =
    let p = c.args.place in
    let before = c.args.self.now.before in
    let now = c.args.self.now.now in
    let here : Some c.in-Some.cell ≡ change_between (number_of before p.frame p.slot) (number_of now p.frame p.slot) =
    c.in-Some.ensures ∙ (ap (λ o. change_between o c.number.result) c.old_number.ensures
    ∙ ap (change_between (number_of before p.frame p.slot)) c.number.ensures) in
    ap carry_of_entries c.in_ok-push.ensures.items
    ∙ (map-append (λ (e : SlotPlace × Cell). change_of e.0 e.1) c.args.found.now.items ((p, c.in-Some.cell) ∷ [])
    ∙ ap (λ xs. carry_of_entries c.args.found.now.items ++ xs)
    (ap (change_at p.frame p.slot) here ∙ sym (diff-changed before now p.frame p.slot)))
