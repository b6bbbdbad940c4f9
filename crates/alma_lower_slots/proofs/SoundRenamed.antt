-- A sound code is sound behind the renaming of its slots.
use Rattle.std.proofs.Common.{◌≡◌, ℕ, suc, ◌<◌, ◌≤◌, length, get_or, refl, sym, ap, ◌∙◌, subst, arith, Option, Some, None}
use Rattle.std.specs.Prelude.{Bool, true, ◌&&◌, ◌||◌, nat_lt, nat_le, slice_get}
use Rattle.std.specs.List.{list_all}
use Rattle.std.proofs.lemmas.Bool.{and_parts, and_from, ltb-true, lt-ltb}
use Rattle.std.proofs.lemmas.Option.{slice_get_within, slice_get-get_or}
use Rattle.alma_code.specs.declared.cell.SlotKind.{SlotKind}
use Rattle.alma_code.specs.declared.cell.SlotKind.TheVariants as slot
use Rattle.alma_code.specs.declared.instr.Instr.{Instr}
use Rattle.alma_code.specs.declared.instr.Instr.TheVariants as I
use Rattle.alma_code.specs.declared.instr.Word.{Word}
use Rattle.alma_code.specs.declared.instr.Word.TheVariants as W
use Rattle.alma_code.specs.Kinds.{is_number, is_place, is_mark, is_link}
use Rattle.alma_code.specs.Plain.{PlainCode, head_at, start_at, end_at, kinds_at}
use Rattle.alma_code.specs.Rules.{IsSound, kind_in, is_free, names_slot, names_entry, names_address, ends_routine}
use Rattle.alma_base.proofs.FirstFault.{unless_holds}
use Rattle.alma_code.specs.Rules.{breach, rule_11, instr_fault}
use Rattle.alma_code.specs.Words.{words}
use Rattle.alma_code_laws.proofs.Acts.{Obeys, obeys}
use Rattle.alma_lower_slots.specs.Runs.{HasHeads}
use Rattle.alma_lower_slots.specs.Sharing.{Sharing, Shares, SharesAt, Renames}
use Rattle.alma_lower_slots.specs.Slots.{rename_slots}
use Rattle.alma_lower_slots.proofs.Kept.{kind_kept, free_kept, start_kept, end_kept}
use Rattle.alma_lower_slots.proofs.WordsRenamed.{renamed_word, keeps_form, all_words, both_words}
use Rattle.alma_lower_slots.proofs.RulesRenamed.{is_own, word_there, keeps_rules}
use Rattle.alma_lower_slots.proofs.HeadsRenamed.{new_full, new_table, new_heads}

-- an instruction that keeps each of its rules has no fault
pub no_fault : (code : PlainCode) (r at : ℕ) (i : Instr) → Obeys code r at i → instr_fault code r at i ≡ None
unfolding instr_fault
no_fault code r at i o =
    unless_holds (breach 4 at) _ o.r4
    ∙ (unless_holds (breach 5 at) _ o.r5
    ∙ (unless_holds (breach 6 at) _ o.r6
    ∙ (unless_holds (breach 7 at) _ o.r7
    ∙ (unless_holds (breach 8 at) _ o.r8
    ∙ (unless_holds (breach 9 at) _ o.r9
    ∙ (unless_holds (breach 10 at) _ o.r10
    ∙ (unless_holds (breach 11 at) _ o.r11
    ∙ unless_holds (breach 12 at) _ o.r12)))))))

module _ (code new : PlainCode) (s : Sharing) (sound : IsSound code) (shares : Shares code s) (renames : Renames code s new)
    (heads : HasHeads code new) where
  module _ (r : ℕ) (lt : r < length code.routines) where
    -- a slot that is there is there under its new number
    slot_there : (n : ℕ) → n < length (kinds_at code r) → s.slot r n < (head_at new r).slots
    slot_there n within =
        let kind : slice_get (kinds_at new r) (s.slot r n) ≡ Some (get_or (kinds_at code r) n slot.Mark) =
        kind_kept code new s sound shares renames r n lt within ∙ slice_get-get_or (kinds_at code r) n slot.Mark within in
        let there = slice_get_within (kinds_at new r) (s.slot r n) (get_or (kinds_at code r) n slot.Mark) kind in
        omega (arith, there, new_full code new s sound shares renames heads r lt)

    -- ---- words

    -- a word that names a slot of a kind, by the test of its kind
    kind_word : (test : Option SlotKind → Bool) (n : ℕ)
        → ((nat_lt n (head_at code r).slots && is_free code r n) && test (kind_in code r n)) ≡ true
        → ((nat_lt (s.slot r n) (head_at new r).slots && is_free new r (s.slot r n)) && test (kind_in new r (s.slot r n))) ≡ true
    kind_word test n e =
        let within = word_there code new s sound shares renames r lt n (test (kind_in code r n)) e in
        let x = and_parts (nat_lt n (head_at code r).slots && is_free code r n) (test (kind_in code r n)) e in
        let y = and_parts (nat_lt n (head_at code r).slots) (is_free code r n) x.0 in
        and_from _ _
        (and_from (nat_lt (s.slot r n) (head_at new r).slots) (is_free new r (s.slot r n))
        (lt-ltb (s.slot r n) (head_at new r).slots (slot_there n within))
        (free_kept code new s sound shares renames r n lt within y.1))
        (ap test (kind_kept code new s sound shares renames r n lt within) ∙ x.1)

    -- a word that names a slot names one under its new number
    slot_word : (w : Word) → (names_slot code r w && is_own (s.own r) w) ≡ true → names_slot new r (renamed_word (s.slot r) w) ≡ true
    slot_word (W.Number n) e = kind_word is_number n (and_parts (names_slot code r (W.Number n)) true e).0
    slot_word (W.Place n) e = kind_word is_place n (and_parts (names_slot code r (W.Place n)) true e).0
    slot_word (W.Mark n) e = kind_word is_mark n (and_parts (names_slot code r (W.Mark n)) true e).0
    slot_word (W.Link n) e = kind_word is_link n (and_parts (names_slot code r (W.Link n)) true e).0
    slot_word (W.Slot n) e =
        let x = and_parts (names_slot code r (W.Slot n)) (nat_lt n (s.own r)) e in
        let y = and_parts (nat_lt n (head_at code r).slots) (is_free code r n) x.0 in
        let all : (names_slot code r (W.Slot n) && true) ≡ true = and_from (names_slot code r (W.Slot n)) true x.0 refl in
        let within : n < length (kinds_at code r) = word_there code new s sound shares renames r lt n true all in
        let same : s.slot r n ≡ n = (shares.routines r lt).same n (ltb-true n (s.own r) x.1) in
        let there : n < (head_at new r).slots = omega (arith, same, slot_there n within) in
        and_from (nat_lt n (head_at new r).slots) (is_free new r n) (lt-ltb n (head_at new r).slots there) y.1
    slot_word (W.Range n) e = refl
    slot_word (W.Text n) e = refl
    slot_word (W.Address n) e = refl
    slot_word W.Free e = refl

    -- a word that names a range or a text names one that is there
    entry_word : (w : Word) → names_entry code w ≡ true → names_entry new (renamed_word (s.slot r) w) ≡ true
    entry_word (W.Range n) e = ap (λ ts. nat_lt n (length ts)) renames.ranges ∙ e
    entry_word (W.Text n) e = ap (λ ts. nat_lt n (length ts)) renames.texts ∙ e
    entry_word (W.Number n) e = refl
    entry_word (W.Place n) e = refl
    entry_word (W.Mark n) e = refl
    entry_word (W.Link n) e = refl
    entry_word (W.Slot n) e = refl
    entry_word (W.Address n) e = refl
    entry_word W.Free e = refl

    -- a word that names an address names one of the routine
    address_word : (w : Word) → names_address code r w ≡ true → names_address new r (renamed_word (s.slot r) w) ≡ true
    address_word (W.Address n) e =
        ap (λ low. nat_le low n && nat_lt n (end_at new r)) (start_kept code new s sound shares renames r (omega arith))
        ∙ ap (λ high. nat_le (start_at code r) n && nat_lt n high) (end_kept code new s sound shares renames r lt)
        ∙ e
    address_word (W.Number n) e = refl
    address_word (W.Place n) e = refl
    address_word (W.Mark n) e = refl
    address_word (W.Link n) e = refl
    address_word (W.Slot n) e = refl
    address_word (W.Range n) e = refl
    address_word (W.Text n) e = refl
    address_word W.Free e = refl

    -- ---- all rules of an instruction

    -- the last instruction is still one that may be the last
    last_kept : (at : ℕ) (i : Instr) → rule_11 code r at i ≡ true → rule_11 new r at (rename_slots (s.slot r) i) ≡ true
    unfolding rule_11
    last_kept at i e =
        ap (λ high. nat_lt (suc at) high || ends_routine (rename_slots (s.slot r) i)) (end_kept code new s sound shares renames r lt)
        ∙ ap (λ b. nat_lt (suc at) (end_at code r) || b) (keeps_form (s.slot r) i).ends
        ∙ e

    -- an instruction that keeps its rules keeps them where its slots are renamed
    pub new_obeys : (at : ℕ) (i : Instr) → Obeys code r at i → SharesAt code s r at i → Obeys new r at (rename_slots (s.slot r) i)
    new_obeys at i o h =
        let kept = keeps_rules code new s sound shares renames r lt at i o h in
        let same = sym (keeps_form (s.slot r) i).words in
        record {
          r4 = subst (λ ws. list_all (names_slot new r) ws ≡ true) same
              (all_words (λ w. names_slot code r w && is_own (s.own r) w) (names_slot new r) (renamed_word (s.slot r)) (words i) slot_word
              (both_words (names_slot code r) (is_own (s.own r)) (words i) o.r4 kept.own));
          r5 = kept.r5;
          r6 = kept.r6;
          r7 = kept.r7;
          r8 = subst (λ ws. list_all (names_entry new) ws ≡ true) same
              (all_words (names_entry code) (names_entry new) (renamed_word (s.slot r)) (words i) entry_word o.r8);
          r9 = subst (λ ws. list_all (names_address new r) ws ≡ true) same
              (all_words (names_address code r) (names_address new r) (renamed_word (s.slot r)) (words i) address_word o.r9);
          r10 = kept.r10;
          r11 = last_kept at i o.r11;
          r12 = kept.r12;
        }

    -- no instruction of the routine has a fault
    each_instr : (at : ℕ) → start_at code r ≤ at → at < end_at code r → instr_fault new r at (get_or new.instrs at I.Fail) ≡ None
    each_instr at low high =
        let old : Instr = get_or code.instrs at I.Fail in
        ap (instr_fault new r at) (renames.instrs r at lt low high)
        ∙ no_fault new r at (rename_slots (s.slot r) old)
        (new_obeys at old (obeys code r at old (sound.instrs r at lt low high)) (shares.instrs r at lt low high))

  -- all together
  new_sound : IsSound new
  new_sound = record {
    table = new_table code new s sound shares renames heads;
    heads = λ r lt. new_heads code new s sound shares renames heads r (omega (arith, lt, renames.count));
    instrs = λ r at lt low high.
        let old : r < length code.routines = omega (arith, lt, renames.count) in
        each_instr r old at
        (omega (arith, low, start_kept code new s sound shares renames r (omega arith)))
        (omega (arith, high, end_kept code new s sound shares renames r old));
  }

-- a sound code of which slots are shared is sound
pub renamed_is_sound : (code new : PlainCode) (s : Sharing) → IsSound code → Shares code s → Renames code s new → HasHeads code new
    → IsSound new
renamed_is_sound code new s sound shares renames heads = new_sound code new s sound shares renames heads
