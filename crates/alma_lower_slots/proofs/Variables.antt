-- The variables of the module hold the same where the frames are alike.
use Rattle.std.proofs.Common.{◌≡◌, ℕ, ◌+◌, ◌<◌, List, [], ◌∷◌, refl, sym, ap, ◌∙◌, subst, arith}
use Rattle.std.specs.Prelude.{slice_get, true, not, ◌&&◌, nat_eq, nat_lt, nat_le, length, get_or}
use Rattle.std.specs.List.{list_all}
use Rattle.std.specs.Option.{unwrap_or}
use Rattle.std.proofs.lemmas.Bool.{and_parts, leb-true}
use Rattle.std.proofs.lemmas.Option.{slice_get_within, unwrap_or-slice_get}
use Rattle.alma_code.specs.declared.cell.Cell.TheVariants as cell
use Rattle.alma_code.specs.declared.cell.SlotKind.TheVariants as slot
use Rattle.alma_code.specs.Fits.{FitsFrames}
use Rattle.alma_code.specs.Picture.{PlainFrame, no_frame, cell_at}
use Rattle.alma_code.specs.Plain.{PlainCode, PlainGlobal, head_at, kinds_at, start_at, end_at}
use Rattle.alma_code.specs.Rules.{is_main, is_global}
use Rattle.alma_code_laws.proofs.Acts.{cells_of}
use Rattle.alma_lower_slots.specs.Same.{HoldTheSame}
use Rattle.alma_lower_slots.specs.Sharing.{Sharing}
use Rattle.alma_lower_slots.proofs.Alike.{is_kept, AlikeFrames}
use Rattle.alma_lower_slots.proofs.Settles.{Shared}

-- variables hold what they hold
pub hold_themselves : (globals : List PlainGlobal) (frames : List PlainFrame) → HoldTheSame globals frames frames
hold_themselves [] frames = tt
hold_themselves (g ∷ rest) frames = (λ k lt. refl, hold_themselves rest frames)

module _ (code new : PlainCode) (s : Sharing) (w : Shared code new s) where
  -- the variables are number slots of the first routine
  globals_there : list_all (is_global code) code.globals ≡ true
  globals_there =
      let one = (w.sound.heads 0 w.sound.table.some).0 in
      let x = (and_parts (nat_lt (start_at code 0) (end_at code 0)) (is_main code 0) one).1 in
      let y = (and_parts (nat_eq (length (head_at code 0).params) 0)
      (not (head_at code 0).has_result && list_all (is_global code) code.globals) x).1 in
      (and_parts (not (head_at code 0).has_result) (list_all (is_global code) code.globals) y).1

  module _ (at : ℕ) (frames frames' : List PlainFrame) (fits : FitsFrames code frames) (h : AlikeFrames code new s at frames frames') where
    -- an own slot of the first routine holds the same in the first frames
    own_alike : (n : ℕ) → n < s.own 0 → n < length (kinds_at code 0)
        → cell_at frames' 0 n cell.Unknown ≡ cell_at frames 0 n cell.Unknown
    own_alike n own there =
        let shares = w.shares.routines 0 w.sound.table.some in
        let frame = get_or frames 0 no_frame in
        let frame' = get_or frames' 0 no_frame in
        let first : frame.routine ≡ 0 = (fits.each 0 fits.some).main refl in
        let kept : s.kept frame.routine n ≡ true = ap (λ r. s.kept r n) first ∙ shares.kept n own in
        let slot : s.slot frame.routine n ≡ n = ap (λ r. s.slot r n) first ∙ shares.same n own in
        let cells = (h.each 0 fits.some).cells n (subst (λ r. n < length (kinds_at code r)) (sym first) there) (is_kept kept) in
        let same : slice_get frame'.cells n ≡ slice_get frame.cells n = ap (slice_get frame'.cells) (sym slot) ∙ cells in
        sym (unwrap_or-slice_get frame'.cells n cell.Unknown) ∙ ap (λ o. unwrap_or o cell.Unknown) same
        ∙ unwrap_or-slice_get frame.cells n cell.Unknown

    -- so do variables
    all_alike : (globals : List PlainGlobal) → list_all (is_global code) globals ≡ true
        → list_all (λ g. nat_le (g.slot + g.cells) (s.own 0)) globals ≡ true → HoldTheSame globals frames frames'
    all_alike [] there own = tt
    all_alike (g ∷ rest) there own =
        let x = and_parts (is_global code g) (list_all (is_global code) rest) there in
        let y = and_parts (nat_le (g.slot + g.cells) (s.own 0)) (list_all (λ g. nat_le (g.slot + g.cells) (s.own 0)) rest) own in
        let inside = leb-true (g.slot + g.cells) (s.own 0) y.0 in (
          λ k lt.
              let number = (cells_of code g.cells (0 ∷ []) 0 0 g.slot k refl (λ _. refl) x.0 lt).number in
              own_alike (g.slot + k) (omega (arith, inside, lt)) (slice_get_within (kinds_at code 0) (g.slot + k) slot.Number number),
          all_alike rest x.1 y.1,
        )

    -- and so all variables of the module
    pub variables_alike : HoldTheSame code.globals frames frames'
    variables_alike = all_alike code.globals globals_there w.shares.globals
