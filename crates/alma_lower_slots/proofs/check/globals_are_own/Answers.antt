use Rattle.std.proofs.Common.{arith, ℕ, ◌+◌, ◌≤◌, ◌∙◌, List, get_or, length, ap, sym}
use Rattle.std.specs.Prelude.{Bool, nat_le}
use Rattle.std.specs.List.{list_all}
use Rattle.std.proofs.lemmas.List.{take_all}
use Rattle.std.proofs.lemmas.List.Folds.{list_all-map}
use Rattle.alma_code.specs.declared.code.CodeGlobal.{CodeGlobal}
use Rattle.alma_code.specs.Plain.{PlainGlobal, global_of}
use Rattle.alma_lower_slots.proofs.check.globals_are_own.Goals as goal

pub returns : goal.returns
returns c = λ yes.
    let all : List CodeGlobal = c.args.code.now.globals.items in
    let p : PlainGlobal → Bool = λ g. nat_le (g.slot + g.cells) (get_or c.args.own.now 0 1) in
    let q : ℕ → CodeGlobal → Bool = λ n g. nat_le (g.slot + g.cells) n in
    let le : length all ≤ c.loop-global.global-index = omega (arith, c.deref-global-items.ensures.len, c.loop-global-test.false) in
    list_all-map p global_of all ∙ ap (λ n. list_all (q n) all) (sym c.own_of-count.ensures)
    ∙ ap (list_all (q c.own_of-count.result)) (sym (take_all c.loop-global.global-index all le)) ∙ c.loop-global.invariant
