-- One cell of a place that changes in the store and in the frames that stand for it, whatever it becomes.
use Rattle.std.proofs.Common.{◌≡◌, ℕ, ◌+◌, ◌<◌, Bool, true, false, List, [], ◌∷◌, length, get_or, Some, None, refl, sym, ap, ◌∙◌, subst}
use Rattle.std.proofs.Common.{arith}
use Rattle.std.specs.Prelude.{if◌then◌else◌}
use Rattle.alma_base.specs.Carry.{Carry, is_same_place, carried_at}
use Rattle.alma_base.specs.Choice.{if_true}
use Rattle.alma_code.specs.declared.cell.Cell.{Cell}
use Rattle.alma_code.specs.declared.cell.SlotKind.TheVariants as slot
use Rattle.alma_code.specs.Carries.{number_at}
use Rattle.alma_code.specs.Picture.{PlainFrame, frames_with_cell}
use Rattle.alma_code.specs.Plain.{PlainCode}
use Rattle.alma_ir.specs.Tree.{Program}
use Rattle.alma_mean.specs.Store.{Store, put}
use Rattle.alma_mean.specs.Store as store
use Rattle.alma_lower_implements.proofs.Frames.{shift_in, own_end, SameContent, StandFor, Fits}
use Rattle.alma_lower_implements.proofs.CarryMaps.{same_place_is, same_itself}
use Rattle.alma_lower_implements.proofs.Carrying.{Alike, SameOption, kind_in, kind_number, laid_fits}
use Rattle.alma_lower_implements.proofs.FrameLemmas.{put_routine}
use Rattle.alma_lower_templates.proofs.Given.{given_after}
use Rattle.alma_lower_templates.proofs.Parts.{Begins, Left, put_position, sound_of}

-- two places that differ
not_same : (f i g j : ℕ) → (f ≡ g → i ≡ j → ⊥) → is_same_place f i g j ≡ false
not_same f i g j apart = by (is_same_place f i g j) refl
  where
    by : (t : Bool) → is_same_place f i g j ≡ t → t ≡ false
    by false e = refl
    by true e = let one = same_place_is f i g j e in absurd (apart one.0 one.1)

module _ (p : Program) (code : PlainCode) (input : List ℕ) where
  module _ (lo f i : ℕ) (a : store.Cell) (b : Cell) (v : Store) (now : List PlainFrame) (stand : StandFor p code v now)
      (live : f < length v) (there : i < length (get_or v f store.no_frame).cells) (kind : kind_in p code v now f i ≡ slot.Number)
      (content : SameContent p v slot.Number a b) where
    -- the cell as a carry
    abbrev store_carry : Carry store.Cell
    store_carry = record { frame = f; slot = i; cell = a } ∷ []

    abbrev frame_carry : Carry Cell
    frame_carry = record { frame = f; slot = shift_in p v f + i; cell = b } ∷ []

    -- elsewhere nothing is carried
    nothing_at : (g s : ℕ) → (f ≡ g → shift_in p v f + i ≡ s → ⊥) → carried_at g s frame_carry ≡ None
    nothing_at g s apart = ap (λ t. if_true t (λ _. Some b) (λ _. None)) (not_same f (shift_in p v f + i) g s apart)

    numbers_by : (g j : ℕ) (t : Bool) → is_same_place f i g j ≡ t
        → SameOption p code v (if_true t (λ _. Some a) (λ _. None)) (carried_at g (shift_in p v g + j) frame_carry)
    numbers_by g j true e =
        let one = same_place_is f i g j e in
        let same : is_same_place f (shift_in p v f + i) g (shift_in p v g + j) ≡ true =
        sym (ap (λ n. is_same_place f (shift_in p v f + i) n (shift_in p v n + i)) one.0
        ∙ ap (λ n. is_same_place f (shift_in p v f + i) g (shift_in p v g + n)) one.1) ∙ same_itself f (shift_in p v f + i) in
        subst (λ t. SameOption p code v (Some a) (if_true t (λ _. Some b) (λ _. None))) (sym same) content
    numbers_by g j false e =
        let apart : f ≡ g → shift_in p v f + i ≡ shift_in p v g + j → ⊥ = λ same_frame same_slot.
        (let sh : shift_in p v f ≡ shift_in p v g = ap (shift_in p v) same_frame in
        let same_i : i ≡ j = omega (arith, same_slot, sh) in
        let both : true ≡ false = sym (same_itself f i) ∙ ap (λ n. is_same_place f i n i) same_frame
        ∙ ap (λ n. is_same_place f i g n) same_i ∙ e in absurd (cc)) in
        subst (λ o. SameOption p code v None o) (sym (nothing_at g (shift_in p v g + j) apart)) tt

    one_alike : Alike p code lo v now frame_carry store_carry
    one_alike = record {
      rising = (tt, tt);
      carry_rising = (tt, tt);
      numbers = λ g j lt inside is. numbers_by g j (is_same_place f i g j) refl;
      places = λ g j l lt inside is.
          ap (λ t. if_true t (λ _. Some a) (λ _. None))
          (not_same f i g j (λ same_frame same_slot.
          (let bad : slot.Number ≡ slot.Place l = sym kind ∙ ap (λ n. kind_in p code v now n i) same_frame
          ∙ ap (kind_in p code v now g) same_slot ∙ is in absurd (cc))));
      links = λ g s lt small. nothing_at g s (λ same_frame same_slot.
          (let sh : shift_in p v f ≡ shift_in p v g = ap (shift_in p v) same_frame in absurd (omega (arith, sh, same_slot, small))));
      temps = λ g s lt behind where_. nothing_at g s (λ same_frame same_slot.
          (let ends : own_end p (get_or v f store.no_frame).routine ≡ own_end p (get_or v g store.no_frame).routine =
          ap (λ n. own_end p (get_or v n store.no_frame).routine) same_frame in
          absurd (omega (arith, ends, same_slot, behind, there, (stand.frames f live).slots))));
    }

    pub cell_fits : Fits p code lo now (put v f i a) (frames_with_cell now f (shift_in p v f + i) b)
    cell_fits =
        let is : number_at now f (shift_in p v f + i) ≡ true =
        kind_number p code lo v now frame_carry store_carry stand one_alike f i slot.Number live there kind in
        subst (λ t. Fits p code lo now (put v f i a) (if t then frames_with_cell now f (shift_in p v f + i) b else now)) is
        (laid_fits p code lo v now frame_carry store_carry stand one_alike lo (omega arith))

  -- the same in words of a phrase
  pub left_cell : (lo r f i : ℕ) (a : store.Cell) (b : Cell) (v : Store) (now : List PlainFrame) → Begins p code input r v now
      → f < length v → i < length (get_or v f store.no_frame).cells → kind_in p code v now f i ≡ slot.Number
      → SameContent p v slot.Number a b → (f ≡ 0 → 0 < i)
      → Left p code input lo r now (put v f i a) (frames_with_cell now f (shift_in p v f + i) b)
  left_cell lo r f i a b v now begun live there kind content free =
      let fit = cell_fits lo f i a b v now begun.stand live there kind content in
      record {
        fits = fit;
        routine = put_routine v f i a live ∙ begun.routine;
        sound =
            sound_of p code input (put v f i a) (frames_with_cell now f (shift_in p v f + i) b) fit.stand
            (put_position p code input v f i a free begun.sound.position)
            (given_after p code lo v (put v f i a) now (frames_with_cell now f (shift_in p v f + i) b) begun.stand fit begun.sound.given);
      }
