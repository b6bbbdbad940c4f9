use Rattle.std.proofs.Common.{◌≡◌, ◌+◌, ◌∷◌, ◌++◌, [], drop, get_or, sym, ap, ◌∙◌, subst, add-one, pos}
use Rattle.std.proofs.Math.Seq.{drop-cons}
use Rattle.alma_code.specs.declared.instr.Instr.TheVariants as I
use Rattle.alma_lower_tables.proofs.TableLemmas.{Told, told_same, told_other, told_all}
use Rattle.alma_lower_tables.proofs.tables.lines_of.Goals.{then-line-before+in_ok-push, else-line-before}
use Rattle.alma_lower_tables.proofs.tables.lines_of.Goals as goal

pub loop-one-preserved : goal.loop-one-preserved
loop-one-preserved c =
    let l = c.loop-one in
    let placed = c.args.placed.now in
    let x = get_or placed l.one-index (I.Const 0 (pos 0), 0) in
    let one : drop l.one-index placed ≡ x ∷ drop (l.one-index + 1) placed =
    drop-cons placed l.one-index (I.Const 0 (pos 0), 0) c.loop-one-test.true ∙ ap (λ n. x ∷ drop n placed) (sym (add-one l.one-index)) in
    elim c.if-line-before.branch [
      | then-line-before+in_ok-push w ↦
          subst (λ v. Told v.items c.if-line-before.before (l.one-index + 1) (l.at + 1) placed) (sym w.lines-is)
          (subst (λ s. Told s c.if-line-before.before (l.one-index + 1) (l.at + 1) placed) (sym w.in_ok-push.ensures.items)
          (subst (λ n. Told (l.lines.items ++ record { at = l.at; line = x.1 } ∷ []) n (l.one-index + 1) (l.at + 1) placed)
          (sym w.before-is)
          (told_other l.lines.items l.before l.one-index l.at placed x one w.if-line-before.true l.invariant)))
      | else-line-before w ↦
          subst (λ v. Told v.items c.if-line-before.before (l.one-index + 1) (l.at + 1) placed) (sym w.lines-is)
          (subst (λ n. Told l.lines.items n (l.one-index + 1) (l.at + 1) placed) (sym w.before-is)
          (told_same l.lines.items l.before l.one-index l.at placed x one w.if-line-before.false l.invariant))
    ]

pub returns : goal.returns
returns c = told_all c.loop-one.lines.items c.loop-one.before c.loop-one.one-index c.loop-one.at c.args.placed.now c.loop-one-test.false
    c.loop-one.invariant
