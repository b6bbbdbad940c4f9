-- The code of a designator whose last instruction puts its place into any slot: that of a root where no selectors follow, else
-- that of the last selector.
use Rattle.std.proofs.Common.{◌≡◌, ℕ, ◌+◌, ◌<◌, List, [], ◌∷◌, ◌++◌, length, Option, None, refl, sym, ap, ◌∙◌, arith, append-nil}
use Rattle.std.proofs.lemmas.List.{length-append, map-append}
use Rattle.alma_code.specs.declared.instr.Instr.{Instr}
use Rattle.alma_code.specs.declared.instr.Instr.TheVariants as I
use Rattle.alma_ir.specs.declared.phrase.Root.{Root}
use Rattle.alma_ir.specs.declared.phrase.Root.TheVariants as root
use Rattle.alma_ir.specs.Tree.{Program, Desig, Sels, Sel, a_desig, no_sels, more_sels, Field, Index}
use Rattle.alma_lower_templates.specs.LineInstr.{LineInstr, own, in_row}
use Rattle.alma_lower_templates.specs.Tables.{Tables, range_number}
use Rattle.alma_lower_templates.specs.Slots.{bare, own_place, own_root, unless_bare, behind_value}
use Rattle.alma_lower_templates.specs.Pieces.{link_code, aim_place, place_code}
use Rattle.alma_lower_templates.specs.Templates.{expr_code, desig_code, sels_code, sel_code, root_code, own_slot, outer_slot, slot_or}
use Rattle.alma_lower_templates.specs.Templates.{value_at, part_slot, part_at, behind_root, handed_code}
use Rattle.alma_lower_templates.proofs.Straight.{last_long, last_behind, last_is}

-- the one where no selector is left, else the other
abbrev pub by_sels : {A : Type 0} → Sels → (none some : A) → A
by_sels no_sels none some = none
by_sels (more_sels x rest) none some = some

-- where a place stands behind selectors that end in a slot
pub ends_twice : (sels : Sels) (end part : ℕ) → by_sels sels (by_sels sels end part) end ≡ end
ends_twice no_sels end part = refl
ends_twice (more_sels x rest) end part = refl

pub placed_long : (to : ℕ) (code : List LineInstr) → length (place_code to code) ≡ length code
placed_long to code = last_long (aim_place to) code

module _ (p : Program) (tables : Tables) (r : ℕ) where
  -- ---- the code

  abbrev pub root_to : (end lo : ℕ) → Root → List Instr
  root_to end lo (root.Local from) = I.Local end (own_slot p tables r from) ∷ []
  root_to end lo (root.Global from) = I.Global end from ∷ []
  root_to end lo (root.Param from) = I.Same end (own_slot p tables r from) ∷ []
  root_to end lo (root.Outer links from) = link_code (lo + 1) links
      ++ (I.Outer end (lo + 1 + links) (outer_slot p tables r links from) ∷ [])
  root_to end lo (root.OuterParam links from) = link_code (lo + 1) links
      ++ (I.OuterSame end (lo + 1 + links) (outer_slot p tables r links from) ∷ [])

  abbrev pub sel_to : (end line at from lo : ℕ) → Sel → List LineInstr
  sel_to end line at from lo (Field offset cells) = own line (I.Field end from offset ∷ [])
  sel_to end line at from lo (Index e range cells) = unless_bare (bare e) (expr_code p tables r line at lo e)
      ++ own line (I.Index end from (value_at p tables r lo e) (range_number tables range) ∷ [])

  abbrev pub sels_to : (end line at from lo : ℕ) → Sels → List LineInstr
  sels_to end line at from lo no_sels = []
  sels_to end line at from lo (more_sels x rest) =
      in_row at (sel_to (by_sels rest end (part_slot p tables r lo x)) line at from lo x)
      (λ next. sels_to end line next (by_sels rest end (part_slot p tables r lo x)) (part_slot p tables r lo x + 1) rest)

  -- with the slot of a parameter of whose place the first selector takes a part, or none
  abbrev pub desig_to : (taken : Option ℕ) → (end line at lo : ℕ) → Root → Sels → List LineInstr
  desig_to taken end line at lo x sels =
      in_row at (unless_bare taken (own line (root_to (by_sels sels end lo) lo x)))
      (λ next. sels_to end line next (slot_or p tables r taken (by_sels sels end lo)) (behind_root p tables r lo x) sels)

  -- ---- a designator as it stands

  root_same : (lo : ℕ) (x : Root) → root_code p tables r lo x ≡ root_to lo lo x
  root_same lo (root.Local from) = refl
  root_same lo (root.Global from) = refl
  root_same lo (root.Param from) = refl
  root_same lo (root.Outer links from) = refl
  root_same lo (root.OuterParam links from) = refl

  sel_same : (line at from lo : ℕ) (x : Sel) → sel_code p tables r line at from lo x ≡ sel_to (part_slot p tables r lo x) line at from lo x
  sel_same line at from lo (Field offset cells) = refl
  sel_same line at from lo (Index e range cells) = refl

  -- what follows a selector that stands as it does
  then_same : (f : ℕ → List LineInstr) (g : ℕ → List LineInstr) (at : ℕ) (a b : List LineInstr) → a ≡ b → ((next : ℕ) → f next ≡ g next)
      → in_row at a f ≡ in_row at b g
  then_same f g at a b same rest = ap (λ c. c ++ f (at + length c)) same ∙ ap (λ c. b ++ c) (rest (at + length b))

  pub sels_same : (line at from lo : ℕ) (sels : Sels)
      → sels_code p tables r line at from lo sels ≡ sels_to (part_at p tables r from lo sels) line at from lo sels
  sels_same line at from lo no_sels = refl
  sels_same line at from lo (more_sels x no_sels) =
      then_same (λ next. []) (λ next. []) at (sel_code p tables r line at from lo x)
      (sel_to (part_slot p tables r lo x) line at from lo x) (sel_same line at from lo x) (λ next. refl)
  sels_same line at from lo (more_sels x (more_sels y rest)) =
      let part : ℕ = part_slot p tables r lo x in
      let end : ℕ = part_at p tables r part (part + 1) (more_sels y rest) in
      then_same (λ next. sels_code p tables r line next part (part + 1) (more_sels y rest))
      (λ next. sels_to end line next part (part + 1) (more_sels y rest)) at (sel_code p tables r line at from lo x)
      (sel_to part line at from lo x) (sel_same line at from lo x)
      (λ next. sels_same line next part (part + 1) (more_sels y rest))

  pub desig_same : (line at lo cells : ℕ) (x : Root) (sels : Sels) → desig_code p tables r line at lo (a_desig x cells sels)
      ≡ desig_to (own_root x sels) (part_at p tables r lo (behind_root p tables r lo x) sels) line at lo x sels
  desig_same line at lo cells x no_sels =
      ap (λ c. in_row at (unless_bare (own_root x no_sels) (own line c)) (λ next. [])) (root_same lo x)
  desig_same line at lo cells x (more_sels y rest) =
      let sels : Sels = more_sels y rest in
      let taken : Option ℕ = own_root x sels in
      let from : ℕ = slot_or p tables r taken lo in
      let lo2 : ℕ = behind_root p tables r lo x in
      then_same (λ next. sels_code p tables r line next from lo2 sels)
      (λ next. sels_to (part_at p tables r lo lo2 sels) line next from lo2 sels) at
      (unless_bare taken (own line (root_code p tables r lo x))) (unless_bare taken (own line (root_to lo lo x)))
      (ap (λ c. unless_bare taken (own line c)) (root_same lo x)) (λ next. sels_same line next from lo2 sels)

  -- ---- with its place put into another slot

  -- the last instruction of one list
  placed_end : (to line : ℕ) (a : List Instr) (i : Instr) → place_code to (own line (a ++ (i ∷ []))) ≡ own line (a ++ (aim_place to i ∷ []))
  placed_end to line a i =
      ap (place_code to) (map-append _ a (i ∷ [])) ∙ last_is (aim_place to) line (own line a) i ∙ sym (map-append _ a (aim_place to i ∷ []))

  placed_root : (to line lo : ℕ) (x : Root) → place_code to (own line (root_code p tables r lo x)) ≡ own line (root_to to lo x)
  placed_root to line lo (root.Local from) = refl
  placed_root to line lo (root.Global from) = refl
  placed_root to line lo (root.Param from) = refl
  placed_root to line lo (root.Outer links from) =
      placed_end to line (link_code (lo + 1) links) (I.Outer lo (lo + 1 + links) (outer_slot p tables r links from))
  placed_root to line lo (root.OuterParam links from) =
      placed_end to line (link_code (lo + 1) links) (I.OuterSame lo (lo + 1 + links) (outer_slot p tables r links from))

  placed_sel : (to line at from lo : ℕ) (x : Sel) → place_code to (sel_code p tables r line at from lo x) ≡ sel_to to line at from lo x
  placed_sel to line at from lo (Field offset cells) = refl
  placed_sel to line at from lo (Index e range cells) =
      last_is (aim_place to) line (unless_bare (bare e) (expr_code p tables r line at lo e))
      (I.Index (behind_value p r lo e) from (value_at p tables r lo e) (range_number tables range))

  some_sel : (line at from lo : ℕ) (x : Sel) → 0 < length (sel_code p tables r line at from lo x)
  some_sel line at from lo (Field offset cells) = omega arith
  some_sel line at from lo (Index e range cells) =
      let inner : List LineInstr = unless_bare (bare e) (expr_code p tables r line at lo e) in
      let last : List LineInstr =
      own line (I.Index (behind_value p r lo e) from (value_at p tables r lo e) (range_number tables range) ∷ []) in
      omega (arith, length-append inner last)

  some_sels : (line at from lo : ℕ) (x : Sel) (rest : Sels) → 0 < length (sels_code p tables r line at from lo (more_sels x rest))
  some_sels line at from lo x rest =
      let one : List LineInstr = sel_code p tables r line at from lo x in
      let part : ℕ = part_slot p tables r lo x in
      omega (
        arith,
        length-append one (sels_code p tables r line (at + length one) part (part + 1) rest),
        some_sel line at from lo x,
      )

  placed_sels : (to line at from lo : ℕ) (x : Sel) (rest : Sels)
      → place_code to (sels_code p tables r line at from lo (more_sels x rest)) ≡ sels_to to line at from lo (more_sels x rest)
  placed_sels to line at from lo x no_sels =
      let one : List LineInstr = sel_code p tables r line at from lo x in
      ap (place_code to) (append-nil one) ∙ placed_sel to line at from lo x ∙ sym (append-nil (sel_to to line at from lo x))
  placed_sels to line at from lo x (more_sels y rest) =
      let one : List LineInstr = sel_code p tables r line at from lo x in
      let part : ℕ = part_slot p tables r lo x in
      last_behind (aim_place to) one (sels_code p tables r line (at + length one) part (part + 1) (more_sels y rest))
      (some_sels line (at + length one) part (part + 1) y rest)
      ∙ then_same (λ next. place_code to (sels_code p tables r line next part (part + 1) (more_sels y rest)))
      (λ next. sels_to to line next part (part + 1) (more_sels y rest)) at one (sel_to part line at from lo x)
      (sel_same line at from lo x)
      (λ next. placed_sels to line next part (part + 1) y rest)

  pub no_own : (x : Root) → own_root x no_sels ≡ None
  no_own (root.Local from) = refl
  no_own (root.Global from) = refl
  no_own (root.Param from) = refl
  no_own (root.Outer links from) = refl
  no_own (root.OuterParam links from) = refl

  pub placed_desig : (to line at lo cells : ℕ) (x : Root) (sels : Sels)
      → place_code to (desig_code p tables r line at lo (a_desig x cells sels)) ≡ desig_to (own_root x sels) to line at lo x sels
  placed_desig to line at lo cells x no_sels =
      let made : List LineInstr = own line (root_code p tables r lo x) in
      ap (λ o. place_code to (unless_bare o made ++ [])) (no_own x) ∙ ap (place_code to) (append-nil made) ∙ placed_root to line lo x
      ∙ sym (append-nil (own line (root_to to lo x))) ∙ ap (λ o. unless_bare o (own line (root_to to lo x)) ++ []) (sym (no_own x))
  placed_desig to line at lo cells x (more_sels y rest) =
      let sels : Sels = more_sels y rest in
      let taken : Option ℕ = own_root x sels in
      let from : ℕ = slot_or p tables r taken lo in
      let lo2 : ℕ = behind_root p tables r lo x in
      let one : List LineInstr = unless_bare taken (own line (root_code p tables r lo x)) in
      last_behind (aim_place to) one (sels_code p tables r line (at + length one) from lo2 sels)
      (some_sels line (at + length one) from lo2 y rest)
      ∙ then_same (λ next. place_code to (sels_code p tables r line next from lo2 sels))
      (λ next. sels_to to line next from lo2 sels) at one (unless_bare taken (own line (root_to lo lo x)))
      (ap (λ c. unless_bare taken (own line c)) (root_same lo x))
      (λ next. placed_sels to line next from lo2 y rest)

  -- a place that is handed over, whatever designator it is
  pub handed_is : (to line at lo : ℕ) (d : Desig)
      → handed_code p tables r (own_place d) line to (desig_code p tables r line at lo d) ≡ place_code to
      (desig_code p tables r line at lo d)
  handed_is to line at lo (a_desig (root.Param from) cells no_sels) = refl
  handed_is to line at lo (a_desig (root.Param from) cells (more_sels x rest)) = refl
  handed_is to line at lo (a_desig (root.Local from) cells sels) = refl
  handed_is to line at lo (a_desig (root.Global from) cells sels) = refl
  handed_is to line at lo (a_desig (root.Outer links from) cells sels) = refl
  handed_is to line at lo (a_desig (root.OuterParam links from) cells sels) = refl
