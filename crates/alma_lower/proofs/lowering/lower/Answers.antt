use Rattle.std.proofs.Common.{ℕ, ◌*◌, ◌≤◌, arith, subst, sym}
use Rattle.alma_ir.specs.Count.{nodes}
use Rattle.alma_ir.specs.View.{program_of}
use Rattle.alma_lower_sound.proofs.Counts.{code_keeps_counts, code_keeps_version}
use Rattle.alma_lower_sound.proofs.ReadsAlike.{reads_alike}
use Rattle.alma_lower_sound.proofs.Records.{code_keeps_records}
use Rattle.alma_lower_sound.proofs.Sound.{code_is_sound}
use Rattle.alma_lower_templates.proofs.Law.{code_implements, code_keeps_values}
use Rattle.alma_lower_templates.proofs.Sizes.{code_is_short}
use Rattle.alma_lower.proofs.Naming.{keeps_names, version_is}
use Rattle.alma_lower.proofs.Sharing.{code_for_the_same}
use Rattle.alma_lower.proofs.lowering.lower.Goals as goal

pub share_slots-requires-clause-sound : goal.share_slots-requires-clause-sound
share_slots-requires-clause-sound c =
    let h = c.in_ok-code.ensures in
    code_is_sound _ _ c.requires.checked h.code h.runs (omega (arith, c.if-size-gt-SIZE_LIMIT.false, c.size-size.ensures))

pub share_slots-requires-clause-counts : goal.share_slots-requires-clause-counts
share_slots-requires-clause-counts c =
    let h = c.in_ok-code.ensures in
    code_keeps_counts _ _ c.requires.checked h.code h.runs h.once (omega (arith, c.if-size-gt-SIZE_LIMIT.false, c.size-size.ensures))

pub share_slots-requires-clause-records : goal.share_slots-requires-clause-records
share_slots-requires-clause-records c =
    let h = c.in_ok-code.ensures in
    code_keeps_records _ _ c.requires.checked h.code h.runs h.once

pub share_slots-requires-clause-version : goal.share_slots-requires-clause-version
share_slots-requires-clause-version c = code_keeps_version _ _ c.in_ok-code.ensures.code

pub returns-clause-code : goal.returns-clause-code
returns-clause-code c =
    let checked = c.requires.checked in
    let h = c.in_ok-code.ensures in
    let e = c.in_ok-share_slots.ensures in
    code_for_the_same _ _ _ e.same e.tables e.sound e.reads (record {
      sound = code_is_sound _ _ checked h.code h.runs (omega (arith, c.if-size-gt-SIZE_LIMIT.false, c.size-size.ensures));
      implements = code_implements _ _ checked h.integers h.code;
      values = code_keeps_values _ _ checked h.integers h.code;
      reads = reads_alike _ _ h.code;
      names = keeps_names _ _ h.code;
      version = version_is _ _ h.code;
    })

pub returns-clause-few : goal.returns-clause-few
returns-clause-few c =
    let most : ℕ = 16 * nodes (program_of c.args.program.now) in
    subst (λ n. n ≤ most) (sym c.in_ok-share_slots.ensures.tables.size) (code_is_short _ _ c.requires.checked c.in_ok-code.ensures.code)
