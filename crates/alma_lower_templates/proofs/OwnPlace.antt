-- A whole parameter: its place is used in its own slot, where it always is. Any other designator has code that puts its place into
-- a slot. Both in one word: how the place is held that a phrase uses.
use Rattle.std.proofs.Common.{◌≡◌, ℕ, ◌+◌, ◌-◌, ◌<◌, ◌≤◌, List, [], length, get_or, Some, None, Option, refl, sym, ap, ◌∙◌, subst, arith}
use Rattle.std.specs.Prelude.{slice_get}
use Rattle.std.proofs.lemmas.Option.{get_or_from_slice_get}
use Rattle.alma_code.specs.declared.cell.Cell.TheVariants as cell
use Rattle.alma_code.specs.declared.cell.SlotKind.TheVariants as slot
use Rattle.alma_code.specs.Picture.{PlainFrame}
use Rattle.alma_code.specs.Picture as picture
use Rattle.alma_code.specs.Plain.{PlainCode, kinds_at}
use Rattle.alma_ir.specs.declared.phrase.Root.{Root}
use Rattle.alma_ir.specs.declared.phrase.Root.TheVariants as root
use Rattle.alma_ir.specs.Tree.{Program, Desig, Sels, a_desig, no_sels, more_sels, routine_at}
use Rattle.alma_ir.specs.Checked.{desig_cells}
use Rattle.alma_mean.specs.Store.{Store, Place, At, top, top_cell}
use Rattle.alma_mean.specs.Store as store
use Rattle.alma_mean.specs.Events.{Fail, one, join, bind, node}
use Rattle.alma_mean.specs.Rows.{place_held}
use Rattle.alma_mean.specs.Meaning.{Level, ev_desig}
use Rattle.alma_lower_implements.proofs.Frames.{shift, shift_in, own_end}
use Rattle.alma_lower_templates.specs.Tables.{Tables}
use Rattle.alma_lower_templates.specs.Slots.{own_place, own_root, unless_bare, desig_slots}
use Rattle.alma_lower_templates.specs.Templates.{desig_code, place_at, slot_or}
use Rattle.alma_lower_templates.proofs.Given.{GivenIn}
use Rattle.alma_lower_templates.proofs.Parts.{Begins, IsPlace, PlaceIn, NodeRuns, NodeFor, leaving, node_runs, alone_from, ends_here}
use Rattle.alma_lower_templates.proofs.RootForms.{HeldIs, a_place, no_place, held_is, IsParam}
use Rattle.alma_lower_templates.proofs.FormRuns.{DesigRuns, HeldRuns}
use Rattle.alma_lower_templates.proofs.Targets.{place_within}

-- the designator is the whole parameter
pub own_place_is : (d : Desig) (from : ℕ) → own_place d ≡ Some from → (cells : ℕ) × (d ≡ a_desig (root.Param from) cells no_sels)
own_place_is (a_desig (root.Param n) cells no_sels) from e =
    (cells, let same : n ≡ from = cc in ap (λ k. a_desig (root.Param k) cells no_sels) same)
own_place_is (a_desig (root.Param n) cells (more_sels x rest)) from e = absurd (cc)
own_place_is (a_desig (root.Local n) cells sels) from e = absurd (cc)
own_place_is (a_desig (root.Global n) cells sels) from e = absurd (cc)
own_place_is (a_desig (root.Outer links n) cells sels) from e = absurd (cc)
own_place_is (a_desig (root.OuterParam links n) cells sels) from e = absurd (cc)

-- the root of a designator whose first part is taken at the slot of a parameter
pub own_root_is : (x : Root) (sels : Sels) (n : ℕ) → own_root x sels ≡ Some n → x ≡ root.Param n
own_root_is (root.Param m) no_sels n e = absurd (cc)
own_root_is (root.Param m) (more_sels y rest) n e = let same : m ≡ n = cc in ap root.Param same
own_root_is (root.Local m) sels n e = absurd (cc)
own_root_is (root.Global m) sels n e = absurd (cc)
own_root_is (root.Outer links m) sels n e = absurd (cc)
own_root_is (root.OuterParam links m) sels n e = absurd (cc)

pub no_own_root : (x : Root) (n : ℕ) → own_root x no_sels ≡ Some n → ⊥
no_own_root (root.Param m) n e = absurd (cc)
no_own_root (root.Local m) n e = absurd (cc)
no_own_root (root.Global m) n e = absurd (cc)
no_own_root (root.Outer links m) n e = absurd (cc)
no_own_root (root.OuterParam links m) n e = absurd (cc)

module _ (p : Program) (code : PlainCode) (input : List ℕ) (r : ℕ) where
  -- what a parameter of the routine on top holds, in the store and in its slot
  pub record OwnHeld (from cells : ℕ) (v : Store) (now : List PlainFrame) : Type 0 where
    pub place : Place
    pub there : top_cell v from ≡ At place
    pub is : IsPlace p code input (shift p r + from) cells v place now

  pub own_is : (from cells : ℕ) (v : Store) (now : List PlainFrame) → IsParam p code input r from cells → Begins p code input r v now
      → OwnHeld from cells v now
  own_is from cells v now h b = by (held_is p code input (top v) r from cells v now b.stand live b.routine h)
    where
      live : top v < length v
      live = omega (arith, b.stand.some)

      at_top : top v ≡ length now - 1
      at_top = ap (λ n. n - 1) (sym b.stand.count)

      routine : (get_or now (top v) picture.no_frame).routine ≡ r
      routine = sym (b.stand.frames (top v) live).routine ∙ b.routine

      kinds : (get_or now (top v) picture.no_frame).kinds ≡ kinds_at code r
      kinds = (b.stand.frames (top v) live).kinds ∙ ap (kinds_at code) routine

      kind_there : slice_get (kinds_at code (get_or v (top v) store.no_frame).routine) (shift_in p v (top v) + from) ≡ Some
          (slot.Place cells)
      kind_there = subst (λ x. slice_get (kinds_at code x) (shift p x + from) ≡ Some (slot.Place cells)) (sym b.routine) h.kind

      kind_is : get_or (get_or now (top v) picture.no_frame).kinds (shift p r + from) slot.Mark ≡ slot.Place cells
      kind_is = ap (λ ks. get_or ks (shift p r + from) slot.Mark) kinds
          ∙ get_or_from_slice_get (kinds_at code r) (shift p r + from) (slot.Place cells) slot.Mark h.kind

      -- its slot is not unset
      never : slice_get (get_or now (top v) picture.no_frame).cells (shift p r + from) ≡ Some cell.Unset → ⊥
      never e =
          let unset : get_or (get_or now (top v) picture.no_frame).cells (shift p r + from) cell.Unset ≡ cell.Unset =
          get_or_from_slice_get (get_or now (top v) picture.no_frame).cells (shift p r + from) cell.Unset cell.Unset e in
          let slots : from < (routine_at p (get_or now (top v) picture.no_frame).routine).slots =
          subst (λ x. from < (routine_at p x).slots) (sym routine) h.exists in
          let given = b.sound.given (top v) from (omega (arith, live, b.stand.count)) slots in
          subst (GivenIn cell.Unset) kind_is
          (subst (λ c. GivenIn c (get_or (get_or now (top v) picture.no_frame).kinds (shift p r + from) slot.Mark)) unset
          (subst (λ x. GivenIn (get_or (get_or now (top v) picture.no_frame).cells (shift p x + from) cell.Unset)
          (get_or (get_or now (top v) picture.no_frame).kinds (shift p x + from) slot.Mark)) routine given))

      by : HeldIs p code input v now (top v) from (shift p r + from) → OwnHeld from cells v now
      by (a_place a c e there same) = record {
        place = a;
        there = e;
        is = record {
          numbers = b.sound.live (top v) from a live e;
          sized = b.sound.sized (top v) from cells a live kind_there e;
          place = c;
          same = same;
          holds = subst (λ n. slice_get (get_or now n picture.no_frame).cells (shift p r + from) ≡ Some (cell.Place c)) at_top there;
        };
      }
      by (no_place e there) = absurd (never there)

  -- the slot of a whole parameter, for a place of so many cells
  abbrev pub OwnFits : Option ℕ → (cells : ℕ) → Type 0
  OwnFits (Some from) cells = IsParam p code input r from cells
  OwnFits None cells = Unit {0}

module _ (p : Program) (tables : Tables) (code : PlainCode) (input : List ℕ) (below : Level) (r line q : ℕ) where
  -- a whole parameter takes no step
  own_runs : (at lo from cells : ℕ) → IsParam p code input r from cells
      → NodeFor p code input r line at lo [] (ev_desig p input below (a_desig (root.Param from) cells no_sels))
      (PlaceIn p code input (shift p r + from) cells) q
  unfolding ev_desig
  own_runs at lo from cells h stands v now b =
      let own = own_is p code input r from cells v now h b in
      let zero : at ≡ at + 0 = omega arith in
      let yields = PlaceIn p code input (shift p r + from) cells in
      let w = leaving p code input lo r now yields in
      subst (λ m. NodeRuns p code input line at m now w (ev_desig p input below (a_desig (root.Param from) cells no_sels) v) q) zero
      (subst (λ c. NodeRuns p code input line at at now w (node (bind (place_held v c) (λ t a. one t a))) q) (sym own.there)
      (node_runs p code input line 0 at at now w (join (one v own.place) Fail) q (omega arith)
      (alone_from p code input line 0 at at now w (one v own.place) q
      (ends_here p code input line 0 at lo r v now yields own.place q b own.is))))

  pub held_runs : (at lo : ℕ) (d : Desig) → own_end p r ≤ lo → OwnFits p code input r (own_place d) (desig_cells d)
      → DesigRuns p tables code input below r line q at lo d → HeldRuns p tables code input below r line q at lo d
  held_runs at lo d behind fits runs = record { within = near (own_place d) fits; runs = by (own_place d) refl fits }
    where
      inside : place_at p tables r lo d < lo + length (desig_slots p r d)
      inside = (place_within p tables code input below r line q lo d).1

      near : (o : Option ℕ) → OwnFits p code input r o (desig_cells d)
          → slot_or p tables r o (place_at p tables r lo d) < lo + length (desig_slots p r d)
      near None h = inside
      near (Some from) h = omega (arith, h.exists, behind)

      by : (o : Option ℕ) → own_place d ≡ o → OwnFits p code input r o (desig_cells d)
          → NodeFor p code input r line at lo (unless_bare o (desig_code p tables r line at lo d)) (ev_desig p input below d)
          (PlaceIn p code input (slot_or p tables r o (place_at p tables r lo d)) (desig_cells d)) q
      by None e h = runs
      by (Some from) e h =
          let z = own_place_is d from e in
          let cells : z.0 ≡ desig_cells d = ap desig_cells (sym z.1) in
          subst (λ y. NodeFor p code input r line at lo [] (ev_desig p input below y)
          (PlaceIn p code input (shift p r + from) (desig_cells d)) q) (sym z.1)
          (subst (λ k. NodeFor p code input r line at lo [] (ev_desig p input below (a_desig (root.Param from) z.0 no_sels))
          (PlaceIn p code input (shift p r + from) k) q) cells
          (own_runs at lo from z.0 (subst (IsParam p code input r from) (sym cells) h)))
