use Rattle.std.proofs.Common.{arith, ◌≡◌, ◌++◌, ◌∙◌, List, length, take, drop, get_or, sym, ap, subst}
use Rattle.std.specs.Prelude.{Bool, true}
use Rattle.std.proofs.lemmas.List.{take_at}
use Rattle.alma_code.specs.declared.instr.Instr.{Instr}
use Rattle.alma_code.specs.declared.instr.Instr.TheVariants as I
use Rattle.alma_code.specs.Plain.{code_of}
use Rattle.alma_lower_slots.specs.Inner.Checks.{NotesMark, mark_of}
use Rattle.alma_lower_slots.proofs.CheckSteps.{marks_more}
use Rattle.alma_lower_slots.proofs.marks.marks_of.Goals as goal

pub loop-at-preserved : goal.loop-at-preserved
loop-at-preserved c =
    let instrs : List Instr = (code_of c.args.code.now).instrs in
    let old : List Bool = c.loop-at.marks.items in
    let new : List Bool = c.note_mark.new.marks in
    let slot : c.mark_of.result ≡ mark_of (get_or instrs c.loop-at.at I.Fail) = c.mark_of.ensures ∙ ap mark_of c.instr_at.ensures in
    let value : c.deref_mut.result.now ≡ old = c.deref_mut.ensures.value in
    let notes : NotesMark old new (mark_of (get_or instrs c.loop-at.at I.Fail)) =
    subst (λ o. NotesMark old new o) slot (subst (λ xs. NotesMark xs new c.mark_of.result) value c.note_mark.ensures) in
    let is : take c.loop-at.marks.len (new ++ drop (length new) old) ≡ new =
    take_at new (drop (length new) old) c.loop-at.marks.len (omega (arith, notes.count, c.loop-at.marks.ok)) in
    λ at a low high mark.
    subst (λ xs. get_or xs a true ≡ true) (sym is)
    (marks_more instrs c.start_of-start.result c.loop-at.at old new c.loop-at.invariant notes at a low high mark)
