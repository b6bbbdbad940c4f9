use Rattle.std.proofs.Common.{◌≡◌, ◌∙◌, suc, ◌+◌, ◌-◌, ◌<◌, ◌≤◌, [], ◌∷◌, length, drop, get_or, refl, ap, sym, subst, arith}
use Rattle.std.proofs.Common.{length-drop, drop-cons, add-one}
use Rattle.std.proofs.Math.ListN.{drop_of_length-le}
use Rattle.alma_choice.specs.Emitted.{aim_jump}
use Rattle.alma_lower_work.specs.Front.{front, Holes}
use Rattle.alma_lower_work.specs.Puts.{all_labels, behind_all}
use Rattle.alma_lower_work.proofs.Joins.{holes_as}
use Rattle.alma_lower_parts.proofs.LabelForms.{more_labels, no_range}
use Rattle.alma_lower_parts.proofs.Said.{if_ok, some_elements}
use Rattle.alma_lower_parts.proofs.label.put_labels.Goals as goal
use Rattle.alma_lower_templates.specs.LineInstr.{own}

pub loop-i-preserved : goal.loop-i-preserved
unfolding no_range
loop-i-preserved c = λ test e aim h.
    let l = c.loop-i in
    let xs = c.args.ranges.now in
    let lt : l.i < length xs = omega (arith, c.loop-i-test.true) in
    let some : 0 < length (drop (l.i + 1) xs) = omega (arith, c.loop-i-test.true, length-drop (l.i + 1) xs) in
    let one : drop l.i xs ≡ get_or xs l.i no_range ∷ drop (l.i + 1) xs = drop-cons xs l.i no_range lt
    ∙ ap (λ n. get_or xs l.i no_range ∷ drop n xs) (sym (add-one l.i)) in
    l.invariant test e aim (subst
    (λ z. Holes (front l.work) e aim (λ none at lo ls. own c.args.line
    (all_labels c.args.labels.value c.args.labels.bound at c.in_ok-hit.hit none z)) (λ ls. []) (λ ls. ls)) (sym one)
    (more_labels _ _ _ c.args.line _ _ _ aim (get_or xs l.i no_range) (drop (l.i + 1) xs) some (c.in_ok-put_label.ensures test) h))

pub returns-clause-holes : goal.returns-clause-holes
unfolding no_range
returns-clause-holes c = λ test.
    let l = c.loop-i in
    let xs = c.args.ranges.now in
    let at : l.i ≡ length xs - 1 = omega (arith, c.loop-i-test.false, c.loop-i.auto.i-end) in
    let lt : length xs - 1 < length xs = omega (arith, some_elements _ c.if-is_empty.ensures) in
    let le : length xs ≤ suc (length xs - 1) = omega arith in
    let none : drop (suc (length xs - 1)) xs ≡ [] = drop_of_length-le xs le in
    let one : drop l.i xs ≡ get_or xs (length xs - 1) no_range ∷ [] = ap (λ n. drop n xs) at ∙ drop-cons xs (length xs - 1) no_range lt
    ∙ ap (λ ys. get_or xs (length xs - 1) no_range ∷ ys) none in
    if_ok c.put_label_test.result (λ miss h. holes_as _ _ _ _ _ _ (λ to xs. aim_jump (aim_jump xs miss.low to) miss.high to) _ _
    (l.invariant test _ (λ to xs. aim_jump (aim_jump xs miss.low to) miss.high to)
    (subst (λ z. Holes (front l.work) (front c.put_label_test.new.work) (λ to xs. aim_jump (aim_jump xs miss.low to) miss.high to)
    (λ none at lo ls. own c.args.line (all_labels c.args.labels.value c.args.labels.bound at c.in_ok-hit.hit none z)) (λ ls. [])
    (λ ls. ls)) (sym one) h))
    (λ to. ap (λ n. own c.args.line (all_labels c.args.labels.value c.args.labels.bound (length (front c.args.work.now).code) n to xs))
    (c.in_ok-hit.ensures (omega (arith, lt)) ∙ ap (λ n. behind_all n xs) c.in_ok-at.ensures.address)) refl refl)
    (c.put_label_test.ensures test)
