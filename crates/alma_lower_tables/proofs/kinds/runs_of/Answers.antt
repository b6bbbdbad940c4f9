use Rattle.std.proofs.Common.{rules, ◌≡◌, ◌<◌, [], ◌∷◌, take, length, sym, ap, ◌∙◌, subst, arith, get_or, refl, length-append}
use Rattle.std.proofs.Math.Seq.{take-length}
use Rattle.alma_code.specs.declared.cell.SlotKind.TheVariants as slot
use Rattle.std.specs.Prelude.{Vec}
use Rattle.std.specs.declared.alloc.Global.{Global}
use Rattle.alma_code.specs.declared.head.Run.{Run}
use Rattle.alma_lower_templates.specs.Runs.{NamesKinds}
use Rattle.alma_lower_tables.proofs.RunLemmas.{Opens, opens_start, opens_same, opens_other, opens_closed, moved, front_one}
use Rattle.alma_lower_tables.proofs.kinds.runs_of.Goals.{then-is_same, else-is_same+in_ok-push}
use Rattle.alma_lower_tables.proofs.kinds.runs_of.Goals as goal

pub loop-i-init : goal.loop-i-init
loop-i-init c = moved _ [] _ _ _ _ c.new-runs.ensures.items refl refl (opens_start c.args.kinds.now slot.Number (search rules))

pub loop-i-preserved : goal.loop-i-preserved
loop-i-preserved c =
    let l = c.loop-i in
    let lt : l.i < length c.args.kinds.now = omega (arith, c.loop-i-test.true) in
    let x = get_or c.args.kinds.now l.i slot.Number in
    let more = front_one [] c.args.kinds.now l.i slot.Number lt in
    elim c.if-is_same.branch [
      | then-is_same w ↦
          moved _ _ _ _ _ _ (ap (λ (v : Vec Run Global). v.items) w.runs-is) w.latest-is more
          (opens_same l.runs.items l.latest _ x l.invariant (c.is_same.ensures.same w.if-is_same.true))
      | else-is_same+in_ok-push w ↦
          moved _ _ _ _ _ _ (ap (λ (v : Vec Run Global). v.items) w.runs-is ∙ w.in_ok-push.ensures.items) w.latest-is more
          (opens_other l.runs.items l.latest _ x l.invariant (c.is_same.ensures.different w.if-is_same.false))
    ]

pub returns : goal.returns
returns c =
    let l = c.loop-i in
    let some : 0 < length c.args.kinds.now = search rules in
    let whole : l.i ≡ length c.args.kinds.now = omega (arith, c.loop-i-test.false, l.auto.i-end, some) in
    let closed = subst (Opens l.runs.items l.latest) (ap (λ n. take n c.args.kinds.now) whole ∙ take-length c.args.kinds.now) l.invariant in
    record {
      names = subst (λ r. NamesKinds r c.args.kinds.now) (sym c.in_ok-push-2.ensures.items) (opens_closed l.runs.items l.latest _ closed);
      few = omega (arith, closed.few, closed.ends, ap length c.in_ok-push-2.ensures.items, length-append l.runs.items (l.latest ∷ []));
    }
