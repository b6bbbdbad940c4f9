use Rattle.std.proofs.Common.{◌≡◌, ◌+◌, ◌∙◌, ℕ, List, ap, sym, drop}
use Rattle.std.specs.Prelude.{◌&&◌, true, false, nat_lt, slice_get}
use Rattle.alma_code.specs.declared.cell.SlotKind.{SlotKind}
use Rattle.alma_code.specs.declared.head.CodeParam.{CodeParam}
use Rattle.alma_code.specs.Layout.{kinds_of}
use Rattle.alma_verify.specs.Runs.{fit_slots, takes}
use Rattle.alma_verify.proofs.SlotRuns.{slots_more}
use Rattle.alma_verify.proofs.arguments.fit_all.Goals as goal

pub returns-then-not-fits_one : goal.returns-then-not-fits_one
returns-then-not-fits_one g c =
    let r = c.args.routine in
    let k = c.loop-k.k in
    let p : CodeParam = c.param.result in
    let slot : ℕ = c.args.first + c.loop-k.k in
    let kinds : List SlotKind = kinds_of 0 (g.H.Head.head c.args.caller.now).runs in
    let ps : List CodeParam = (g.K.Head.head c.args.called.now).params in
    let kind : c.kind_behind-kind.result ≡ slice_get kinds slot = c.kind_behind-kind.ensures slot c.loop-k.invariant.passes in
    let no : c.fits_one.result ≡ false = cc in
    let test : (nat_lt 0 (r + slot) && takes p.kind p.cells (slice_get kinds slot)) ≡ false =
    sym (ap (λ o. nat_lt 0 (r + slot) && takes p.kind p.cells o) kind) ∙ (sym c.fits_one.ensures ∙ no) in
    sym (c.loop-k.invariant.rest ∙ slots_more r kinds ps k c.args.first p c.param.ensures
    ∙ ap (λ b. b && fit_slots r kinds (drop (k + 1) ps) (c.args.first + (k + 1))) test)

pub loop-k-preserved : goal.loop-k-preserved
loop-k-preserved g c =
    let r = c.args.routine in
    let k = c.loop-k.k in
    let p : CodeParam = c.param.result in
    let slot : ℕ = c.args.first + c.loop-k.k in
    let kinds : List SlotKind = kinds_of 0 (g.H.Head.head c.args.caller.now).runs in
    let ps : List CodeParam = (g.K.Head.head c.args.called.now).params in
    let kind : c.kind_behind-kind.result ≡ slice_get kinds slot = c.kind_behind-kind.ensures slot c.loop-k.invariant.passes in
    let yes : c.fits_one.result ≡ true = cc in
    let test : (nat_lt 0 (r + slot) && takes p.kind p.cells (slice_get kinds slot)) ≡ true =
    sym (ap (λ o. nat_lt 0 (r + slot) && takes p.kind p.cells o) kind) ∙ (sym c.fits_one.ensures ∙ yes) in
    record {
      rest = c.loop-k.invariant.rest ∙ slots_more r kinds ps k c.args.first p c.param.ensures
          ∙ ap (λ b. b && fit_slots r kinds (drop (k + 1) ps) (c.args.first + (k + 1))) test;
      passes = c.next_passed-passed.ensures;
    }
