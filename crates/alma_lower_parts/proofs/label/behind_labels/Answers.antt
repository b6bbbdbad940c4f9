use Rattle.std.proofs.Common.{◌≡◌, ◌∙◌, suc, ◌+◌, ◌-◌, ◌<◌, ◌≤◌, [], ◌∷◌, length, drop, get_or, ap, sym, arith}
use Rattle.std.proofs.Common.{length-drop, drop-cons, add-one}
use Rattle.std.proofs.Math.ListN.{drop_of_length-le}
use Rattle.alma_lower_work.specs.Puts.{behind_all}
use Rattle.alma_lower_templates.specs.Pieces.{test_size}
use Rattle.alma_lower_parts.proofs.LabelForms.{more_behind, no_range}
use Rattle.alma_lower_parts.proofs.Said.{if_ok}
use Rattle.alma_lower_parts.proofs.label.behind_labels.Goals as goal

pub loop-i-preserved : goal.loop-i-preserved
unfolding no_range
loop-i-preserved c =
    let l = c.loop-i in
    let xs = c.args.ranges.now in
    let lt : l.i < length xs = omega (arith, c.loop-i-test.true) in
    let some : 0 < length (drop (l.i + 1) xs) = omega (arith, c.loop-i-test.true, length-drop (l.i + 1) xs) in
    let one : drop l.i xs ≡ get_or xs l.i no_range ∷ drop (l.i + 1) xs = drop-cons xs l.i no_range lt
    ∙ ap (λ n. get_or xs l.i no_range ∷ drop n xs) (sym (add-one l.i)) in
    let next : c.in_ok-next.next ≡ l.next + test_size (get_or xs l.i no_range) + 1 =
    omega (arith, c.in_ok-next.ensures, c.test_size.ensures.size) in
    ap (λ n. behind_all n (drop (l.i + 1) xs)) next
    ∙ sym (ap (behind_all l.next) one ∙ more_behind l.next (get_or xs l.i no_range) (drop (l.i + 1) xs) some) ∙ l.invariant

pub returns : goal.returns
unfolding no_range
returns c = λ some.
    let l = c.loop-i in
    let xs = c.args.ranges.now in
    let at : l.i ≡ length xs - 1 = omega (arith, c.loop-i-test.false, c.loop-i.auto.i-end) in
    let lt : length xs - 1 < length xs = omega (arith, some) in
    let le : length xs ≤ suc (length xs - 1) = omega arith in
    let none : drop (suc (length xs - 1)) xs ≡ [] = drop_of_length-le xs le in
    let one : drop l.i xs ≡ get_or xs (length xs - 1) no_range ∷ [] = ap (λ n. drop n xs) at ∙ drop-cons xs (length xs - 1) no_range lt
    ∙ ap (λ ys. get_or xs (length xs - 1) no_range ∷ ys) none in
    if_ok c.behind-2.result (λ hit h. h ∙ ap (λ n. l.next + n) c.test_size-2.ensures.size ∙ sym (ap (behind_all l.next) one) ∙ l.invariant)
    c.behind-2.ensures
