-- Selectors and designators, from template to run: each selector takes a part of the place before it.
use Rattle.std.proofs.Common.{◌≡◌, ℕ, ◌+◌, ◌*◌, ◌<◌, ◌≤◌, Bool, true, false, List, [], ◌∷◌, ◌++◌, length, get_or, Option, Some}
use Rattle.std.proofs.Common.{None, refl, sym, subst, arith, ℤ, ◌-ℤ◌}
use Rattle.std.specs.Prelude.{slice_get, nat_abs}
use Rattle.std.proofs.lemmas.List.{length-append}
use Rattle.alma_base.specs.declared.fault.RunFault.TheVariants as fault
use Rattle.alma_base.specs.declared.number.Range.{Range}
use Rattle.alma_base.specs.Numbers.{within, range_size}
use Rattle.alma_code.proofs.Ranges.{offset_within}
use Rattle.alma_code.specs.declared.cell.CellPlace.{CellPlace}
use Rattle.alma_code.specs.declared.cell.SlotKind.TheVariants as slot
use Rattle.alma_code.specs.declared.instr.Instr.TheVariants as I
use Rattle.alma_code.specs.Picture.{PlainFrame}
use Rattle.alma_code.specs.Picture as picture
use Rattle.alma_code.specs.Plain.{PlainCode, kinds_at}
use Rattle.alma_ir.specs.declared.phrase.Root.{Root}
use Rattle.alma_ir.specs.Tree.{Program, Expr, Sels, Sel, a_desig, no_sels, more_sels, Field, Index, routine_at}
use Rattle.alma_ir.specs.Checked.{IsNested, sel_cells, cells_after}
use Rattle.alma_mean.specs.Store.{Store, Place, part}
use Rattle.alma_mean.specs.Events.{Events, Fail, one, join, bind, node}
use Rattle.alma_mean.specs.Arithmetic.{fault_unless}
use Rattle.alma_mean.specs.Rows.{root_place, place_held, index_place}
use Rattle.alma_mean.specs.Meaning.{Level, ev_expr, ev_desig, ev_sels, ev_sel}
use Rattle.alma_lower_implements.proofs.Frames.{shift, shift_in, own_end, AreNumbers, SamePlace, HasSlots}
use Rattle.alma_lower_implements.proofs.ExprRows.{first_kind, slots_first, slots_behind}
use Rattle.alma_lower_implements.proofs.Steps.{InstrAt}
use Rattle.alma_lower_templates.specs.LineInstr.{LineInstr, own}
use Rattle.alma_lower_templates.specs.Tables.{Tables, range_number}
use Rattle.alma_lower_templates.specs.Slots.{bare, own_root, unless_bare, expr_slots, root_slots, sels_slots, sel_slots}
use Rattle.alma_lower_templates.specs.Slots.{desig_slots, behind_value}
use Rattle.alma_lower_templates.specs.Templates.{expr_code, value_at, part_slot, part_at, place_at}
use Rattle.alma_lower_templates.specs.Templates.{behind_root}
use Rattle.alma_lower_templates.specs.Stands.{Stands}
use Rattle.alma_lower_templates.proofs.Stands.{stands_front, stands_back}
use Rattle.alma_lower_templates.proofs.Parts.{Begins, begins, has_kind, place_after, IsPlace, IsValue, PlaceIn}
use Rattle.alma_lower_templates.proofs.Parts.{NodeRuns, NodeFor, From, leaving, from_more, node_runs, then_from, alone_from}
use Rattle.alma_lower_templates.proofs.Parts.{faults_here, ends_here, place_goes_on}
use Rattle.alma_lower_templates.proofs.AtOnce.{AtOnce, at_once}
use Rattle.alma_lower_templates.proofs.OwnPlace.{own_root_is, no_own_root, own_is}
use Rattle.alma_lower_templates.proofs.PlaceSteps.{field_step, index_reads, index_step, index_faults}
use Rattle.alma_lower_templates.proofs.RootForms.{RootFits, IsParam, root_from}
use Rattle.alma_lower_templates.proofs.FormRuns.{DesigRuns, PlacedRuns, HasRange}
use Rattle.alma_lower_templates.proofs.Placed.{by_sels, ends_twice, root_to, sel_to, sels_to, desig_to, desig_same, placed_desig}
use Rattle.alma_lower_templates.proofs.Targets.{place_within}

module _ (p : Program) (code : PlainCode) (input : List ℕ) where
  -- a part of a place
  pub part_numbers : (v : Store) (now : List PlainFrame) (a : Place) (offset n : ℕ) → ((k : ℕ) → k < n → offset + k < a.size)
      → AreNumbers p code v now a → AreNumbers p code v now (part a offset n)
  part_numbers v now a offset n room h = record {
    frame = h.frame;
    cells = λ k lt. omega (arith, h.cells (offset + k) (room k lt));
    kinds = λ k lt.
        let e : a.slot + (offset + k) ≡ a.slot + offset + k = omega arith in
        subst (λ i. get_or (get_or now a.frame picture.no_frame).kinds (shift_in p v a.frame + i) slot.Mark ≡ slot.Number) e
        (h.kinds (offset + k) (room k lt));
    free = λ e. omega (arith, h.free e);
  }

  pub part_same : (v : Store) (a : Place) (c : CellPlace) (offset n : ℕ) → SamePlace p v a c
      → SamePlace p v (part a offset n) (record { frame = c.frame; slot = c.slot + offset; len = n })
  part_same v a c offset n h = record { frame = h.frame; slot = omega (arith, h.slot); size = refl }

module _ (p : Program) (tables : Tables) (code : PlainCode) (input : List ℕ) (below : Level) (r line q : ℕ) where
  -- ---- one selector

  -- it takes a part of any place of so many cells that stands in the slot `from`, and puts it into the slot `end`; `low` is the first
  -- slot of the phrase
  abbrev pub SelRuns : (low end at from lo size : ℕ) → Sel → Type 0
  SelRuns low end at from lo size x =
      Stands code at (sel_to p tables r end line at from lo x) → (v : Store) (now : List PlainFrame) (a : Place)
      → Begins p code input r v now → IsPlace p code input from size v a now
      → NodeRuns p code input line at (at + length (sel_to p tables r end line at from lo x)) now
      (leaving p code input low r now (PlaceIn p code input end (sel_cells x))) (ev_sel p input below x a v) q

  -- the slot is one for a place of so many cells
  pub record EndFits (low end cells : ℕ) : Type 0 where
    pub behind : own_end p r ≤ low
    pub above : low ≤ end
    pub kind : slice_get (kinds_at code r) end ≡ Some (slot.Place cells)

  pub field_runs : (low end at from lo size offset cells : ℕ) → EndFits low end cells → offset + cells ≤ size
      → SelRuns low end at from lo size (Field offset cells)
  unfolding ev_expr
  field_runs low end at from lo size offset cells fits room stands v now a b place =
      let c : CellPlace = place.place in
      let m : CellPlace = record { frame = c.frame; slot = c.slot + offset; len = cells } in
      let yields = PlaceIn p code input end cells in
      node_runs p code input line 8 at (at + 1) now (leaving p code input low r now yields) (one v (part a offset cells)) q (omega arith)
      (place_goes_on p code input line 7 at (at + 1) low r end cells v now (part a offset cells) m yields
      (one v (part a offset cells)) q fits.behind fits.above fits.kind b
      (part_numbers p code input v now a offset cells (λ k lt. omega (arith, lt, room, place.sized)) place.numbers) refl
      (part_same p code input v a c offset cells place.same)
      (λ held s is. field_step code input line at now held s is end from offset cells c (record { instr = stands.0; on_line = stands.1 })
      (has_kind p code input r end v now (slot.Place cells) fits.kind b) place.holds)
      (λ t left there. ends_here p code input line 7 (at + 1) low r v t yields (part a offset cells) q
      (begins p code input low r now v t left) there))

  -- an element, by an instruction
  index_ends : (lo from size cells : ℕ) (range : Range) (m to operand n : ℕ) (k : ℤ) (u : Store) (t : List PlainFrame) (a : Place)
      → own_end p r ≤ lo → lo ≤ to → Begins p code input r u t → (there : IsPlace p code input from size u a t)
      → slice_get (kinds_at code r) to ≡ Some (slot.Place cells) → InstrAt code input line m (I.Index to from operand n)
      → slice_get code.ranges n ≡ Some range
      → range_size range * cells ≤ size → IsValue p code input operand k t → (z : Bool) → within range k ≡ z
      → From p code input line 8 m (m + 1) t (leaving p code input lo r t (PlaceIn p code input to cells))
      (fault_unless fault.Index z (λ _. one u (part a (nat_abs (k -ℤ range.low) * cells) cells))) q
  index_ends lo from size cells range m to operand n k u t a behind le b1 there kind i has room value false out =
      faults_here p code input line 7 m (m + 1) t (leaving p code input lo r t (PlaceIn p code input to cells)) fault.Index q
      (λ held s is. index_faults code input line m t held s is to from operand n cells there.place range k i has there.holds value.holds
      out)
  index_ends lo from size cells range m to operand n k u t a behind le b1 there kind i has room value true in_it =
      let offset : ℕ = nat_abs (k -ℤ range.low) * cells in
      let c : CellPlace = there.place in
      place_goes_on p code input line 7 m (m + 1) lo r to cells u t (part a offset cells)
      (record { frame = c.frame; slot = c.slot + offset; len = cells }) (PlaceIn p code input to cells) (one u (part a offset cells)) q
      behind le kind b1
      (part_numbers p code input u t a offset cells
      (λ j lt2. offset_within range.low k range.high cells j a.size in_it (omega (arith, room, there.sized)) lt2) there.numbers) refl
      (part_same p code input u a c offset cells there.same)
      (λ held s is. index_step code input line m t held s is to from operand n cells c range k i has there.holds value.holds
      (has_kind p code input r to u t (slot.Place cells) kind b1) in_it)
      (λ t2 left2 place2. ends_here p code input line 7 (m + 1) lo r u t2 (PlaceIn p code input to cells) (part a offset cells) q
      (begins p code input lo r t u t2 left2) place2)

  pub index_runs : (low end at from lo size cells : ℕ) (x : Expr) (range : Range) → EndFits low end cells → low ≤ lo → from < lo
      → HasRange p tables code input below r line q range → range_size range * cells ≤ size
      → AtOnce p tables code input below r line q at lo x → SelRuns low end at from lo size (Index x range cells)
  unfolding ev_expr
  index_runs low end at from lo size cells x range fits under lt has room once stands v now a b place =
      let inner : List LineInstr = unless_bare (bare x) (expr_code p tables r line at lo x) in
      let m : ℕ = at + length inner in
      let operand : ℕ = value_at p tables r lo x in
      let n : ℕ = range_number tables range in
      let last : List LineInstr = own line (I.Index end from operand n ∷ []) in
      let back = stands_back code at inner last stands in
      let i : InstrAt code input line m (I.Index end from operand n) = record { instr = back.0; on_line = back.1 } in
      let whole : length (inner ++ last) ≡ length inner + 1 = length-append inner last in
      let exit_is : m + 1 ≡ at + length (inner ++ last) = omega (arith, whole) in
      let yields = PlaceIn p code input end cells in
      subst (λ e. NodeRuns p code input line at e now (leaving p code input low r now yields)
      (ev_sel p input below (Index x range cells) a v) q) exit_is
      (node_runs p code input line 0 at (m + 1) now (leaving p code input low r now yields)
      (bind (ev_expr p input below x v) (λ t k. index_place t a k range cells)) q (omega arith)
      (at_once p tables code input below r line q (m + 1) low lo at v now yields (λ t k. index_place t a k range cells) under
      fits.behind b x once
      (stands_front code at inner last stands) i.on_line
      (λ held s is. (_, index_reads code input line m now held s is end from operand n place.place range i has place.holds))
      (λ u k t left value.
      let b1 = begins p code input lo r now u t left in
      let there : IsPlace p code input from size u a t =
      place_after p code input lo r from size a v u now t b (omega (arith, fits.behind, under)) lt left place in
      index_ends low from size cells range m end operand n k u t a fits.behind fits.above b1 there fits.kind i has room value
      (within range k) refl)))

  -- ---- selectors in order

  -- the last puts its part into the slot `end`
  abbrev pub SelsRun : (low end at from lo size : ℕ) → Sels → Type 0
  SelsRun low end at from lo size sels =
      Stands code at (sels_to p tables r end line at from lo sels) → (v : Store) (now : List PlainFrame) (a : Place)
      → Begins p code input r v now → IsPlace p code input from size v a now
      → From p code input line 0 at (at + length (sels_to p tables r end line at from lo sels)) now
      (leaving p code input low r now (PlaceIn p code input (by_sels sels from end) (cells_after sels size)))
      (ev_sels p input below sels a v) q

  pub no_sels_run : (low end at from lo size : ℕ) → SelsRun low end at from lo size no_sels
  unfolding ev_expr
  no_sels_run low end at from lo size stands v now a b place =
      let zero : at ≡ at + 0 = omega arith in
      subst (λ n. From p code input line 0 at n now (leaving p code input low r now (PlaceIn p code input from size)) (one v a) q) zero
      (ends_here p code input line 0 at low r v now (PlaceIn p code input from size) a q b place)

  pub more_sels_run : (low end at from lo size : ℕ) (x : Sel) (rest : Sels) → own_end p r ≤ low
      → SelRuns low (by_sels rest end (part_slot p tables r lo x)) at from lo size x
      → ((next : ℕ) → SelsRun low end next (by_sels rest end (part_slot p tables r lo x)) (part_slot p tables r lo x + 1) (sel_cells x)
      rest)
      → SelsRun low end at from lo size (more_sels x rest)
  unfolding ev_expr
  more_sels_run low end at from lo size x rest behind runs others stands v now a b place =
      let part : ℕ = part_slot p tables r lo x in
      let to : ℕ = by_sels rest end part in
      let inner : List LineInstr = sel_to p tables r to line at from lo x in
      let m : ℕ = at + length inner in
      let after : List LineInstr = sels_to p tables r end line m to (part + 1) rest in
      let whole : length (inner ++ after) ≡ length inner + length after = length-append inner after in
      let exit : ℕ = m + length after in
      let exit_is : exit ≡ at + length (inner ++ after) = omega (arith, whole) in
      let yields = PlaceIn p code input end (cells_after rest (sel_cells x)) in
      subst (λ n. From p code input line 0 at n now (leaving p code input low r now yields) (ev_sels p input below (more_sels x rest) a v)
      q) exit_is
      (then_from p code input line at m exit low low r now (PlaceIn p code input to (sel_cells x)) yields (ev_sel p input below x a v)
      (λ t c. ev_sels p input below rest c t) q (omega arith) behind
      (runs (stands_front code at inner after stands) v now a b place)
      (λ u c t left there.
      subst (λ e. From p code input line 8 m exit t (leaving p code input low r t (PlaceIn p code input e (cells_after rest (sel_cells x))))
      (ev_sels p input below rest c u) q) (ends_twice rest end part)
      (from_more p code input line 0 8 m exit t
      (leaving p code input low r t (PlaceIn p code input (by_sels rest to end) (cells_after rest (sel_cells x))))
      (ev_sels p input below rest c u) q (omega arith)
      (others m (stands_back code at inner after stands) u t c (begins p code input low r now u t left) there))))

  -- the slot of the last part is one for a place
  pub part_end : (lo : ℕ) (x : Sel) → lo + length (sel_slots p r x) ≡ part_slot p tables r lo x + 1
  part_end lo (Field offset cells) = refl
  part_end lo (Index e range cells) = omega (arith, length-append (unless_bare (bare e) (expr_slots p r e)) (slot.Place cells ∷ []))

  pub part_kind : (lo : ℕ) (x : Sel) → HasSlots p code r lo (sel_slots p r x)
      → slice_get (kinds_at code r) (part_slot p tables r lo x) ≡ Some (slot.Place (sel_cells x))
  part_kind lo (Field offset cells) slots = first_kind p code input r lo (slot.Place cells) [] slots
  part_kind lo (Index e range cells) slots =
      first_kind p code input r (behind_value p r lo e) (slot.Place cells) []
      (slots_behind p code input r lo (unless_bare (bare e) (expr_slots p r e)) (slot.Place cells ∷ []) slots)

  sels_kind : (from lo size : ℕ) (sels : Sels) → slice_get (kinds_at code r) from ≡ Some (slot.Place size)
      → HasSlots p code r lo (sels_slots p r sels)
      → slice_get (kinds_at code r) (part_at p tables r from lo sels) ≡ Some (slot.Place (cells_after sels size))
  sels_kind from lo size no_sels kind slots = kind
  sels_kind from lo size (more_sels x rest) kind slots =
      let part : ℕ = part_slot p tables r lo x in
      sels_kind part (part + 1) (sel_cells x) rest (part_kind lo x (slots_first p code input r lo (sel_slots p r x) (sels_slots p r rest)
      slots))
      (subst (λ k. HasSlots p code r k (sels_slots p r rest)) (part_end lo x)
      (slots_behind p code input r lo (sel_slots p r x) (sels_slots p r rest) slots))

  -- ---- the whole designator

  -- the code of a designator, where its first part is taken at a parameter's own slot or not
  abbrev DesigBy : Option ℕ → (low end at lo cells : ℕ) → Root → Sels → Type 0
  DesigBy o low end at lo cells root sels =
      NodeFor p code input r line at low (desig_to p tables r o end line at lo root sels) (ev_desig p input below (a_desig root cells sels))
      (PlaceIn p code input end (cells_after sels cells)) q

  own_desig_runs : (low end at lo cells : ℕ) (root : Root) (sels : Sels) (from : ℕ) → own_root root sels ≡ Some from
      → RootFits p code input r root cells
      → ((next : ℕ) → SelsRun low end next (shift p r + from) (behind_root p tables r lo root) cells sels)
      → DesigBy (Some from) low end at lo cells root sels
  unfolding ev_expr
  own_desig_runs low end at lo cells root no_sels from e fits others stands v now b = absurd (no_own_root root from e)
  own_desig_runs low end at lo cells root (more_sels x rest) from e fits others stands v now b =
      let sels : Sels = more_sels x rest in
      let is = own_root_is root sels from e in
      let param : IsParam p code input r from cells = subst (λ y. RootFits p code input r y cells) is fits in
      let own = own_is p code input r from cells v now param b in
      let next : ℕ = behind_root p tables r lo root in
      let made : List LineInstr = sels_to p tables r end line (at + 0) (shift p r + from) next sels in
      let exit : ℕ = at + length made in
      let zero : at + 0 ≡ at = omega arith in
      let w = leaving p code input low r now (PlaceIn p code input end (cells_after sels cells)) in
      let parts : Events Place = ev_sels p input below sels own.place v in
      let all : Stands code (at + 0) made = subst (λ m. Stands code m made) (sym zero) stands in
      let goes : From p code input line 0 at exit now w parts q =
      subst (λ m. From p code input line 0 m (m + length made) now w parts q) zero (others (at + 0) all v now own.place b own.is) in
      subst (λ y. NodeRuns p code input line at exit now w (node (bind (root_place v y cells) (λ t a. ev_sels p input below sels a t))) q)
      (sym is)
      (subst (λ c. NodeRuns p code input line at exit now w (node (bind (place_held v c) (λ t a. ev_sels p input below sels a t))) q)
      (sym own.there)
      (node_runs p code input line 0 at exit now w (join parts Fail) q (omega arith)
      (alone_from p code input line 0 at exit now w parts q goes)))

  placed_desig_runs : (low end at lo cells : ℕ) (root : Root) (sels : Sels) → EndFits low end (cells_after sels cells) → low ≤ lo
      → RootFits p code input r root cells
      → ((s : ℕ) → s < length p.routines → IsNested p s (routine_at p s))
      → HasSlots p code r lo (desig_slots p r (a_desig root cells sels))
      → ((next : ℕ) → SelsRun low end next (by_sels sels end lo) (behind_root p tables r lo root) cells sels)
      → DesigBy None low end at lo cells root sels
  unfolding ev_expr
  placed_desig_runs low end at lo cells root sels ends under fits nested slots others stands v now b =
      let to : ℕ = by_sels sels end lo in
      let first : List LineInstr = own line (root_to p tables r to lo root) in
      let m : ℕ = at + length first in
      let next : ℕ = behind_root p tables r lo root in
      let after : List LineInstr = sels_to p tables r end line m to next sels in
      let whole : length (first ++ after) ≡ length first + length after = length-append first after in
      let exit : ℕ = m + length after in
      let exit_is : exit ≡ at + length (first ++ after) = omega (arith, whole) in
      let yields = PlaceIn p code input end (cells_after sels cells) in
      let root_ends : EndFits low to cells = by_kind sels ends in
      subst (λ n. NodeRuns p code input line at n now (leaving p code input low r now yields)
      (ev_desig p input below (a_desig root cells sels) v) q) exit_is
      (node_runs p code input line 24 at exit now (leaving p code input low r now yields)
      (bind (root_place v root cells) (λ t a. ev_sels p input below sels a t)) q (omega arith)
      (root_from p code input tables line q at exit low to lo r cells root v now root_ends.behind root_ends.above under yields
      (λ t a. ev_sels p input below sels a t) fits nested root_ends.kind
      (slots_first p code input r (lo + 1) (root_slots p r root) (sels_slots p r sels)
      (slots_behind p code input r lo (slot.Place cells ∷ []) (root_slots p r root ++ sels_slots p r sels) slots))
      (stands_front code at first after stands) b
      (λ a t left place.
      subst (λ e. From p code input line 8 m exit t (leaving p code input low r t (PlaceIn p code input e (cells_after sels cells)))
      (ev_sels p input below sels a v) q) (ends_twice sels end lo)
      (from_more p code input line 0 8 m exit t
      (leaving p code input low r t (PlaceIn p code input (by_sels sels to end) (cells_after sels cells)))
      (ev_sels p input below sels a v) q (omega arith)
      (others m (stands_back code at first after stands) v t a (begins p code input low r now v t left) place)))))
    where
      by_kind : (sels : Sels) → EndFits low end (cells_after sels cells) → EndFits low (by_sels sels end lo) cells
      by_kind no_sels h = h
      by_kind (more_sels x rest) h = record {
        behind = h.behind;
        above = under;
        kind = slots_kind;
      }
        where
          slots_kind : slice_get (kinds_at code r) lo ≡ Some (slot.Place cells)
          slots_kind = first_kind p code input r lo (slot.Place cells) (root_slots p r root ++ sels_slots p r sels) slots

  -- what is needed of the selectors, for the slot in which the place ends
  pub record PartsRun (low end lo cells : ℕ) (root : Root) (sels : Sels) : Type 0 where
    pub placed : (next : ℕ) → SelsRun low end next (by_sels sels end lo) (behind_root p tables r lo root) cells sels
    pub owned : (from : ℕ) → own_root root sels ≡ Some from
        → (next : ℕ) → SelsRun low end next (shift p r + from) (behind_root p tables r lo root) cells sels

  desig_to_runs : (low end at lo cells : ℕ) (root : Root) (sels : Sels) → EndFits low end (cells_after sels cells) → low ≤ lo
      → RootFits p code input r root cells
      → ((s : ℕ) → s < length p.routines → IsNested p s (routine_at p s))
      → HasSlots p code r lo (desig_slots p r (a_desig root cells sels)) → PartsRun low end lo cells root sels
      → DesigBy (own_root root sels) low end at lo cells root sels
  desig_to_runs low end at lo cells root sels ends under fits nested slots parts = by (own_root root sels) refl
    where
      by : (o : Option ℕ) → own_root root sels ≡ o → DesigBy o low end at lo cells root sels
      by None e = placed_desig_runs low end at lo cells root sels ends under fits nested slots parts.placed
      by (Some from) e = own_desig_runs low end at lo cells root sels from e fits (parts.owned from e)

  -- the slot in which the place of a designator stands
  pub desig_ends : (lo cells : ℕ) (root : Root) (sels : Sels) → HasSlots p code r lo (desig_slots p r (a_desig root cells sels))
      → EndFits lo (place_at p tables r lo (a_desig root cells sels)) (cells_after sels cells)
  desig_ends lo cells root sels slots = record {
    behind = slots.behind;
    above = (place_within p tables code input below r line q lo (a_desig root cells sels)).0;
    kind = sels_kind lo (behind_root p tables r lo root) cells sels
        (first_kind p code input r lo (slot.Place cells) (root_slots p r root ++ sels_slots p r sels) slots)
        (slots_behind p code input r (lo + 1) (root_slots p r root) (sels_slots p r sels)
        (slots_behind p code input r lo (slot.Place cells ∷ []) (root_slots p r root ++ sels_slots p r sels) slots));
  }

  pub desig_runs : (at lo cells : ℕ) (root : Root) (sels : Sels) → RootFits p code input r root cells
      → ((s : ℕ) → s < length p.routines → IsNested p s (routine_at p s))
      → HasSlots p code r lo (desig_slots p r (a_desig root cells sels))
      → PartsRun lo (place_at p tables r lo (a_desig root cells sels)) lo cells root sels
      → DesigRuns p tables code input below r line q at lo (a_desig root cells sels)
  desig_runs at lo cells root sels fits nested slots parts =
      let end : ℕ = place_at p tables r lo (a_desig root cells sels) in
      subst (λ c. NodeFor p code input r line at lo c (ev_desig p input below (a_desig root cells sels))
      (PlaceIn p code input end (cells_after sels cells)) q) (sym (desig_same p tables r line at lo cells root sels))
      (desig_to_runs lo end at lo cells root sels (desig_ends lo cells root sels slots) (omega arith) fits nested slots parts)

  -- and with its place put into another slot, before its own
  pub placed_runs : (to at lo cells : ℕ) (root : Root) (sels : Sels) → EndFits to to (cells_after sels cells) → to ≤ lo
      → RootFits p code input r root cells → ((s : ℕ) → s < length p.routines → IsNested p s (routine_at p s))
      → HasSlots p code r lo (desig_slots p r (a_desig root cells sels)) → PartsRun to to lo cells root sels
      → PlacedRuns p tables code input below r line q to at lo (a_desig root cells sels)
  placed_runs to at lo cells root sels ends under fits nested slots parts =
      subst (λ c. NodeFor p code input r line at to c (ev_desig p input below (a_desig root cells sels))
      (PlaceIn p code input to (cells_after sels cells)) q) (sym (placed_desig p tables r to line at lo cells root sels))
      (desig_to_runs to to at lo cells root sels ends under fits nested slots parts)
