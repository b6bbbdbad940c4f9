-- The place of a designator that is handed over: its last instruction puts the place into the slot of the argument, which is one for
-- such a place too, so the instruction has what it needs.
use Rattle.std.proofs.Common.{◌≡◌, ℕ, ◌+◌, List, [], ◌∷◌, ◌++◌, length, Option, Some, None, refl, sym, ap, ◌∙◌, subst, append-nil}
use Rattle.std.proofs.lemmas.List.{map-append}
use Rattle.alma_code.specs.declared.cell.SlotKind.TheVariants as slot
use Rattle.alma_code.specs.declared.instr.Instr.{Instr}
use Rattle.alma_code.specs.declared.instr.Instr.TheVariants as I
use Rattle.std.specs.Prelude.{slice_get}
use Rattle.alma_code.specs.Plain.{PlainCode, kinds_at}
use Rattle.alma_ir.specs.declared.phrase.Root.{Root}
use Rattle.alma_ir.specs.declared.phrase.Root.TheVariants as root
use Rattle.alma_ir.specs.Tree.{Program, Desig, Sels, Sel, a_desig, no_sels, more_sels, Field, Index}
use Rattle.alma_lower_templates.specs.LineInstr.{LineInstr, own}
use Rattle.alma_lower_templates.specs.Tables.{Tables, range_number}
use Rattle.alma_lower_templates.specs.Slots.{bare, own_root, unless_bare, behind_value}
use Rattle.alma_lower_templates.specs.Pieces.{link_code, aim_place, place_code}
use Rattle.alma_lower_templates.specs.Templates.{expr_code, desig_code, sels_code, sel_code, root_code, outer_slot, slot_or, value_at}
use Rattle.alma_lower_templates.specs.Templates.{part_slot, part_at, place_at, behind_root}
use Rattle.alma_lower_templates.proofs.Placed.{no_own, placed_long}
use Rattle.alma_lower_sound.proofs.Needs.{Needs, Place}
use Rattle.alma_lower_sound.proofs.Pieces.{AllNeed, Fits, Room}

-- the slot into which an instruction puts a place
abbrev pub target : Instr → Option ℕ
target (I.Local to first) = Some to
target (I.Global to first) = Some to
target (I.Same to from) = Some to
target (I.Outer to link first) = Some to
target (I.OuterSame to link from) = Some to
target (I.Field to from offset) = Some to
target (I.Index to from index range) = Some to
target i = None

-- the last instruction puts its place into that slot
abbrev pub EndsIn : ℕ → List LineInstr → Type 0
EndsIn n [] = ⊥
EndsIn n (x ∷ []) = target x.instr ≡ Some n
EndsIn n (x ∷ (y ∷ rest)) = EndsIn n (y ∷ rest)

ends_rest : (n : ℕ) (a : List LineInstr) (x : LineInstr) (b : List LineInstr) → EndsIn n (x ∷ b) → EndsIn n (a ++ (x ∷ b))
ends_rest n [] x b h = h
ends_rest n (y ∷ []) x b h = h
ends_rest n (y ∷ (z ∷ a)) x b h = ends_rest n (z ∷ a) x b h

ends_behind : (n : ℕ) (a b : List LineInstr) → EndsIn n b → EndsIn n (a ++ b)
ends_behind n a [] h = absurd h
ends_behind n a (x ∷ b) h = ends_rest n a x b h

ends_alone : (n : ℕ) (a : List LineInstr) → EndsIn n a → EndsIn n (a ++ [])
ends_alone n a h = subst (EndsIn n) (sym (append-nil a)) h

-- ---- a designator ends in the slot of its place

module _ (p : Program) (tables : Tables) (r : ℕ) where
  list_ends : (n line : ℕ) (a : List Instr) (i : Instr) → target i ≡ Some n → EndsIn n (own line (a ++ (i ∷ [])))
  list_ends n line a i h = subst (EndsIn n) (sym (map-append _ a (i ∷ []))) (ends_behind n (own line a) (own line (i ∷ [])) h)

  root_ends : (line lo : ℕ) (x : Root) → EndsIn lo (own line (root_code p tables r lo x))
  root_ends line lo (root.Local from) = refl
  root_ends line lo (root.Global from) = refl
  root_ends line lo (root.Param from) = refl
  root_ends line lo (root.Outer links from) =
      list_ends lo line (link_code (lo + 1) links) (I.Outer lo (lo + 1 + links) (outer_slot p tables r links from)) refl
  root_ends line lo (root.OuterParam links from) =
      list_ends lo line (link_code (lo + 1) links) (I.OuterSame lo (lo + 1 + links) (outer_slot p tables r links from)) refl

  sel_ends : (line at from lo : ℕ) (x : Sel) → EndsIn (part_slot p tables r lo x) (sel_code p tables r line at from lo x)
  sel_ends line at from lo (Field offset cells) = refl
  sel_ends line at from lo (Index e range cells) =
      let to : ℕ = behind_value p r lo e in
      ends_behind to (unless_bare (bare e) (expr_code p tables r line at lo e))
      (own line (I.Index to from (value_at p tables r lo e) (range_number tables range) ∷ [])) refl

  sels_ends : (line at from lo : ℕ) (x : Sel) (rest : Sels)
      → EndsIn (part_at p tables r from lo (more_sels x rest)) (sels_code p tables r line at from lo (more_sels x rest))
  sels_ends line at from lo x no_sels =
      ends_alone (part_slot p tables r lo x) (sel_code p tables r line at from lo x) (sel_ends line at from lo x)
  sels_ends line at from lo x (more_sels y rest) =
      let one : List LineInstr = sel_code p tables r line at from lo x in
      let part : ℕ = part_slot p tables r lo x in
      ends_behind (part_at p tables r part (part + 1) (more_sels y rest)) one
      (sels_code p tables r line (at + length one) part (part + 1) (more_sels y rest))
      (sels_ends line (at + length one) part (part + 1) y rest)

  pub desig_ends : (line at lo : ℕ) (d : Desig) → EndsIn (place_at p tables r lo d) (desig_code p tables r line at lo d)
  desig_ends line at lo (a_desig x cells no_sels) =
      subst (λ o. EndsIn lo (unless_bare o (own line (root_code p tables r lo x)) ++ [])) (sym (no_own p tables r x))
      (ends_alone lo (own line (root_code p tables r lo x)) (root_ends line lo x))
  desig_ends line at lo (a_desig x cells (more_sels y rest)) =
      let o : Option ℕ = own_root x (more_sels y rest) in
      let one : List LineInstr = unless_bare o (own line (root_code p tables r lo x)) in
      let from : ℕ = slot_or p tables r o lo in
      let lo2 : ℕ = behind_root p tables r lo x in
      ends_behind (part_at p tables r lo lo2 (more_sels y rest)) one
      (sels_code p tables r line (at + length one) from lo2 (more_sels y rest)) (sels_ends line (at + length one) from lo2 y rest)

-- ---- what it needs in another slot

module _ (code : PlainCode) (r : ℕ) where
  same_place : (to old n cells part : ℕ) → Some old ≡ Some n → Place code r n cells → Place code r to cells → Place code r old part
      → Place code r to part
  same_place to old n cells part e there other mine =
      let same : old ≡ n = cc in
      let both : Some (slot.Place part) ≡ Some (slot.Place cells) =
      sym mine.kind ∙ ap (λ m. slice_get (kinds_at code r) m) same ∙ there.kind in
      let long : cells ≡ part = cc in
      subst (Place code r to) long other

  aim_place_needs : (to n cells : ℕ) (i : Instr) → target i ≡ Some n → Place code r n cells → Place code r to cells → Needs code r i
      → Needs code r (aim_place to i)
  aim_place_needs to n cells (I.Local old first) e there other h =
      record { cells = h.cells; place = same_place to old n cells h.cells e there other h.place; first = h.first; numbers = h.numbers }
  aim_place_needs to n cells (I.Global old first) e there other h =
      record { cells = h.cells; place = same_place to old n cells h.cells e there other h.place; numbers = h.numbers }
  aim_place_needs to n cells (I.Same old from) e there other h =
      record { cells = h.cells; first = same_place to old n cells h.cells e there other h.first; second = h.second }
  aim_place_needs to n cells (I.Outer old link first) e there other h = record {
    cells = h.cells;
    routine = h.routine;
    place = same_place to old n cells h.cells e there other h.place;
    link = h.link;
    numbers = h.numbers;
  }
  aim_place_needs to n cells (I.OuterSame old link from) e there other h = record {
    cells = h.cells;
    routine = h.routine;
    place = same_place to old n cells h.cells e there other h.place;
    link = h.link;
    there = h.there;
  }
  aim_place_needs to n cells (I.Field old from offset) e there other h = record {
    part = h.part;
    cells = h.cells;
    place = same_place to old n cells h.part e there other h.place;
    whole = h.whole;
    fits = h.fits;
  }
  aim_place_needs to n cells (I.Index old from index range) e there other h = record {
    part = h.part;
    cells = h.cells;
    range = h.range;
    place = same_place to old n cells h.part e there other h.place;
    whole = h.whole;
    index = h.index;
    there = h.there;
    fits = h.fits;
  }
  aim_place_needs to n cells i e there other h = h

  place_need : (to n cells : ℕ) (c : List LineInstr) → EndsIn n c → Place code r n cells → Place code r to cells → AllNeed code r c
      → AllNeed code r (place_code to c)
  place_need to n cells [] ends there other h = tt
  place_need to n cells (x ∷ []) ends there other h = (aim_place_needs to n cells x.instr ends there other h.0, tt)
  place_need to n cells (x ∷ (y ∷ rest)) ends there other h = (h.0, place_need to n cells (y ∷ rest) ends there other h.1)

  pub placed_fits : (to n cells at : ℕ) (c : List LineInstr) → EndsIn n c → Place code r n cells → Place code r to cells
      → Fits code r 0 at c
      → Fits code r 0 at (place_code to c)
  placed_fits to n cells at c ends there other h room =
      place_need to n cells c ends there other (h (subst (λ m. Room code r at (m + 0)) (placed_long to c) room))
