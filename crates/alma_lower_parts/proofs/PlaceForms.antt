-- What designators add, and places that are used in the slot of a parameter.
use Rattle.std.proofs.Common.{◌≡◌, ℕ, ◌+◌, List, [], length, Some, None, refl, sym, ap, ◌∙◌, subst}
use Rattle.std.specs.Prelude.{Option, option_map}
use Rattle.alma_code.specs.declared.cell.SlotKind.TheVariants as slot
use Rattle.alma_ir.specs.declared.phrase.Root.{Root}
use Rattle.alma_ir.specs.declared.phrase.Root.TheVariants as root
use Rattle.alma_ir.specs.Tree.{Desig, Sels, a_desig, no_sels, more_sels}
use Rattle.alma_ir.specs.Phrases.{stmts_phrases}
use Rattle.alma_ir.specs.Lines.{stmts_with, desig_with, sels_with}
use Rattle.alma_lower_work.specs.Front.{Around, Front, Takes}
use Rattle.alma_lower_work.specs.Puts.{PutsDesig, PutsHeld, PutsSels}
use Rattle.alma_lower_work.proofs.Joins.{nothing, then_adds, adds_as, slot_adds}
use Rattle.alma_lower_work.proofs.DesigForms.{PutsRoot}
use Rattle.alma_lower_parts.specs.Steps.{BeginsPlace}
use Rattle.alma_lower_parts.proofs.With.{no_bare, place_with, root_with}
use Rattle.alma_lower_templates.specs.LineInstr.{LineInstr, own, in_row}
use Rattle.alma_lower_templates.specs.Slots.{own_place, own_root, unless_bare, root_slots}
use Rattle.alma_lower_templates.specs.Templates as T

module _ (s : Around) (line : ℕ) where
  -- ---- roots

  no_links : (r : Root) (sels : Sels) (from : ℕ) → own_root r sels ≡ Some from → [] ≡ root_slots s.program s.routine r
  no_links (root.Param x) sels from h = refl
  no_links (root.Local x) sels from h = absurd (cc)
  no_links (root.Global x) sels from h = absurd (cc)
  no_links (root.Outer links x) sels from h = absurd (cc)
  no_links (root.OuterParam links x) sels from h = absurd (cc)

  -- that of a parameter has no code, and takes its slot
  pub begins_own : (a b : Front) (cells : ℕ) (r : Root) (sels parts : Sels) (from : ℕ) → parts ≡ sels → Takes a b (slot.Place cells)
      → Some from ≡ option_map (T.own_slot s.program s.tables s.routine) (own_root r parts) → BeginsPlace s line a b cells r sels from
  begins_own a b cells r sels parts from same h some = by (own_root r sels) refl
      (some ∙ ap (λ x. option_map (T.own_slot s.program s.tables s.routine) (own_root r x)) same)
    where
      by : (o : Option ℕ) → own_root r sels ≡ o → Some from ≡ option_map (T.own_slot s.program s.tables s.routine) o
          → BeginsPlace s line a b cells r sels from
      by (Some n) e there =
          let is : from ≡ T.own_slot s.program s.tables s.routine n = cc in
          record {
            b = b;
            takes = h;
            to_slot = is ∙ sym (ap (λ o. T.slot_or s.program s.tables s.routine o a.next) e);
            root = adds_as b b _ _ _ _ _ _ (nothing b)
                (sym (ap (λ o. unless_bare o (own line (T.root_code s.program s.tables s.routine a.next r))) e))
                (no_links r sels n e) refl;
          }
      by None e there = absurd (cc)

  pub begins_made : (a b c : Front) (cells : ℕ) (r : Root) (sels parts : Sels) (to : ℕ) → parts ≡ sels → Takes a b (slot.Place cells)
      → to ≡ a.next
      → None ≡ option_map (T.own_slot s.program s.tables s.routine) (own_root r parts) → PutsRoot s line to b c r
      → BeginsPlace s line a c cells r sels to
  begins_made a b c cells r sels parts to same h is none j =
      let e : own_root r sels ≡ None = ap (own_root r) (sym same)
      ∙ no_bare (T.own_slot s.program s.tables s.routine) (own_root r parts) none in
      record {
        b = b;
        takes = h;
        to_slot = is ∙ sym (ap (λ o. T.slot_or s.program s.tables s.routine o a.next) e);
        root = adds_as b c _ _ _ _ _ _ j
            (ap (λ n. own line (T.root_code s.program s.tables s.routine n r)) is
            ∙ sym (ap (λ o. unless_bare o (own line (T.root_code s.program s.tables s.routine a.next r))) e)) refl refl;
      }

  -- ---- designators

  pub desig_put : (a c d : Front) (to : ℕ) (r : Root) (cells : ℕ) (sels parts : Sels) → parts ≡ sels
      → BeginsPlace s line a c cells r sels to → PutsSels s line to c d parts → PutsDesig s line a d (a_desig r cells sels)
  unfolding stmts_with stmts_phrases
  desig_put a c d to r cells sels parts same h k =
      let puts : PutsSels s line to c d sels = subst (λ x. PutsSels s line to c d x) same k in
      let all = slot_adds a h.b d _ _ _ _ h.takes (then_adds h.b c d _ _ _ _ _ _ h.root puts.all) in
      let at = length a.code in
      let lo = a.next + 1 + length (root_slots s.program s.routine r) in
      let code : Option ℕ → ℕ → List LineInstr = λ o n.
      in_row at (unless_bare o (own line (T.root_code s.program s.tables s.routine a.next r)))
      (λ next. T.sels_code s.program s.tables s.routine line next n lo (sels_with sels a.lines)) in
      record {
        all = adds_as a d _ _ _ _ _ _ all
            (ap (code (own_root r sels)) h.to_slot
            ∙ ap (λ o. code o (T.slot_or s.program s.tables s.routine o a.next)) (sym (root_with r sels a.lines))) refl refl;
      }

  -- the place of a part does not ask where that of the whole stands
  part_from : (lo at : ℕ) (r : Root) (sels : Sels)
      → T.part_at s.program s.tables s.routine (T.slot_or s.program s.tables s.routine (own_root r sels) lo) at sels
      ≡ T.part_at s.program s.tables s.routine lo at sels
  part_from lo at (root.Param from) no_sels = refl
  part_from lo at (root.Local from) no_sels = refl
  part_from lo at (root.Global from) no_sels = refl
  part_from lo at (root.Outer links from) no_sels = refl
  part_from lo at (root.OuterParam links from) no_sels = refl
  part_from lo at r (more_sels x rest) = refl

  pub desig_place : (a c : Front) (to place : ℕ) (r : Root) (cells : ℕ) (sels parts : Sels) → parts ≡ sels
      → BeginsPlace s line a c cells r sels to
      → place ≡ T.part_at s.program s.tables s.routine to c.next (sels_with parts c.lines)
      → place ≡ T.place_at s.program s.tables s.routine a.next (desig_with (a_desig r cells sels) a.lines)
  unfolding stmts_with
  desig_place a c to place r cells sels parts same h is =
      let behind_root = a.next + 1 + length (root_slots s.program s.routine r) in
      let there : to ≡ T.slot_or s.program s.tables s.routine (own_root r (sels_with sels a.lines)) a.next = h.to_slot
      ∙ ap (λ o. T.slot_or s.program s.tables s.routine o a.next) (sym (root_with r sels a.lines)) in
      is ∙ ap (λ x. T.part_at s.program s.tables s.routine to c.next (sels_with x c.lines)) same
      ∙ ap (λ n. T.part_at s.program s.tables s.routine to n (sels_with sels c.lines))
      (h.root.next_slot ∙ ap (λ n. n + length (root_slots s.program s.routine r)) h.takes.next_slot)
      ∙ ap (λ n. T.part_at s.program s.tables s.routine to behind_root (sels_with sels n)) (h.root.left ∙ h.takes.left)
      ∙ ap (λ n. T.part_at s.program s.tables s.routine n behind_root (sels_with sels a.lines)) there
      ∙ part_from a.next behind_root r (sels_with sels a.lines)

  -- ---- places that are read at once

  -- that of a parameter has no code, and takes its slot
  held_by : (a b : Front) (r : Root) (cells : ℕ) (sels : Sels) (from : ℕ) → own_place (a_desig r cells sels) ≡ Some from
      → Takes a b (slot.Place cells) → PutsHeld s line a b (a_desig r cells sels)
  unfolding stmts_with stmts_phrases
  held_by a b (root.Param x) cells no_sels from is h =
      record { all = adds_as a b _ _ _ _ _ _ (slot_adds a b b _ _ _ _ h (nothing b)) refl refl refl }
  held_by a b (root.Param x) cells (more_sels y rest) from is h = absurd (cc)
  held_by a b (root.Local x) cells sels from is h = absurd (cc)
  held_by a b (root.Global x) cells sels from is h = absurd (cc)
  held_by a b (root.Outer links x) cells sels from is h = absurd (cc)
  held_by a b (root.OuterParam links x) cells sels from is h = absurd (cc)

  pub own_held : (a b : Front) (r : Root) (cells : ℕ) (sels : Sels) (slot_at : ℕ)
      → Some slot_at ≡ option_map (T.own_slot s.program s.tables s.routine) (own_place (a_desig r cells sels))
      → Takes a b (slot.Place cells) → PutsHeld s line a b (a_desig r cells sels)
  own_held a b r cells sels slot_at h j = by (own_place (a_desig r cells sels)) refl h
    where
      by : (o : Option ℕ) → own_place (a_desig r cells sels) ≡ o → Some slot_at ≡ option_map (T.own_slot s.program s.tables s.routine) o
          → PutsHeld s line a b (a_desig r cells sels)
      by (Some from) e h = held_by a b r cells sels from e j
      by None e h = absurd (cc)

  pub own_held_at : (lo : ℕ) (ls : List ℕ) (d : Desig) (slot_at : ℕ)
      → Some slot_at ≡ option_map (T.own_slot s.program s.tables s.routine) (own_place d)
      → slot_at ≡ T.held_at s.program s.tables s.routine lo (desig_with d ls)
  own_held_at lo ls d slot_at h = by (own_place d) refl h
    where
      by : (o : Option ℕ) → own_place d ≡ o → Some slot_at ≡ option_map (T.own_slot s.program s.tables s.routine) o
          → slot_at ≡ T.held_at s.program s.tables s.routine lo (desig_with d ls)
      by (Some from) e h =
          let is : slot_at ≡ T.own_slot s.program s.tables s.routine from = cc in
          is ∙ sym (ap (λ o. T.slot_or s.program s.tables s.routine o (T.place_at s.program s.tables s.routine lo (desig_with d ls)))
          (place_with d ls ∙ e))
      by None e h = absurd (cc)

  pub made_held : (a b : Front) (d : Desig) → None ≡ option_map (T.own_slot s.program s.tables s.routine) (own_place d)
      → PutsDesig s line a b d → PutsHeld s line a b d
  made_held a b d h j = record {
    all = adds_as a b _ _ _ _ _ _ j.all
        (sym (ap (λ o. unless_bare o (T.desig_code s.program s.tables s.routine line (length a.code) a.next (desig_with d a.lines)))
        (place_with d a.lines ∙ no_bare (T.own_slot s.program s.tables s.routine) (own_place d) h))) refl refl;
  }

  pub made_held_at : (lo : ℕ) (ls : List ℕ) (d : Desig) (place : ℕ)
      → None ≡ option_map (T.own_slot s.program s.tables s.routine) (own_place d)
      → place ≡ T.place_at s.program s.tables s.routine lo (desig_with d ls)
      → place ≡ T.held_at s.program s.tables s.routine lo (desig_with d ls)
  made_held_at lo ls d place h is =
      is ∙ sym (ap (λ o. T.slot_or s.program s.tables s.routine o (T.place_at s.program s.tables s.routine lo (desig_with d ls)))
      (place_with d ls ∙ no_bare (T.own_slot s.program s.tables s.routine) (own_place d) h))
