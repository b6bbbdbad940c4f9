use Rattle.std.proofs.Common.{arith, ◌≡◌, ℕ, ◌++◌, ◌-◌, ◌∙◌, List, length, take, drop, get_or, sym, ap, subst}
use Rattle.std.proofs.lemmas.List.{take_at}
use Rattle.alma_code.specs.declared.instr.Instr.{Instr}
use Rattle.alma_code.specs.declared.instr.Instr.TheVariants as I
use Rattle.alma_code.specs.Plain.{code_of}
use Rattle.alma_lower_slots.specs.declared.sources.Sources.{Sources}
use Rattle.alma_lower_slots.specs.Inner.Checks.{IsAmong, no_sources, NotesJump}
use Rattle.alma_lower_slots.specs.Slots.{away}
use Rattle.alma_lower_slots.proofs.CheckSteps.{sources_more}
use Rattle.alma_lower_slots.proofs.sources.sources_of.Goals as goal

pub loop-at-preserved : goal.loop-at-preserved
loop-at-preserved c =
    let instrs : List Instr = (code_of c.args.code.now).instrs in
    let start : ℕ = c.start_of-start.result in
    let stop : ℕ = c.end_of-end.result in
    let old : List Sources = c.loop-at.sources.items in
    let new : List Sources = c.note_jump.new.sources in
    let to : c.away_of.result ≡ away (get_or instrs c.loop-at.at I.Fail) = c.away_of.ensures ∙ ap away c.instr_at.ensures in
    let value : c.deref_mut.result.now ≡ old = c.deref_mut.ensures.value in
    let notes : NotesJump old new start c.loop-at.at (away (get_or instrs c.loop-at.at I.Fail)) =
    subst (λ o. NotesJump old new start c.loop-at.at o) to
    (subst (λ xs. NotesJump xs new start c.loop-at.at c.away_of.result) value c.note_jump.ensures) in
    let same : length new ≡ c.loop-at.sources.len = omega (arith, notes.count, c.loop-at.sources.ok) in
    let is : take c.loop-at.sources.len (new ++ drop (length new) old) ≡ new =
    take_at new (drop (length new) old) c.loop-at.sources.len same in
    record {
      count = ap length is ∙ notes.count ∙ c.loop-at.invariant.count;
      all = λ at t low high leads from below.
          subst (λ xs. IsAmong (get_or xs (t - start) no_sources) at) (sym is)
          (sources_more instrs start stop c.loop-at.at old new c.loop-at.invariant.count c.loop-at.invariant.all notes
          at t low high leads from below);
    }
