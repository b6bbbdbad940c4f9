-- What is at a place, and the phrases that end by looking there.
use Rattle.std.proofs.Common.{◌≡◌, ℕ, ◌+◌, ◌<◌, ◌≤◌, true, List, Some, refl, sym, ap, ◌∙◌, subst, arith, ℤ, pos}
use Rattle.std.specs.Prelude.{slice_get}
use Rattle.alma_base.specs.declared.fault.RunFault.TheVariants as fault
use Rattle.alma_base.specs.Numbers.{is_integer}
use Rattle.alma_code.specs.declared.cell.Cell.{Cell}
use Rattle.alma_code.specs.declared.cell.Cell.TheVariants as cell
use Rattle.alma_code.specs.declared.cell.CellPlace.{CellPlace}
use Rattle.alma_code.specs.declared.cell.SlotKind.TheVariants as slot
use Rattle.alma_code.specs.declared.instr.Instr.TheVariants as I
use Rattle.alma_code.specs.Carries.{number_at}
use Rattle.alma_code.specs.Picture.{PlainFrame, cell_at}
use Rattle.alma_code.specs.Plain.{PlainCode, kinds_at}
use Rattle.alma_ir.specs.Tree.{Program}
use Rattle.alma_mean.specs.Store.{Store, Place, Unknown, Number, At, cell_of}
use Rattle.alma_mean.specs.Store as store
use Rattle.alma_mean.specs.Events.{one}
use Rattle.alma_mean.specs.Rows.{read_cell, known_bit}
use Rattle.alma_lower_implements.proofs.Frames.{own_end, AreNumbers, SamePlace, SameContent, StandFor}
use Rattle.alma_lower_implements.proofs.FrameLemmas.{content_there}
use Rattle.alma_lower_implements.proofs.Steps.{InstrAt, load_step, load_unknown}
use Rattle.alma_lower_implements.proofs.Ways.{Ways}
use Rattle.alma_lower_templates.proofs.Parts.{Begins, has_kind, IsPlace, ValueIn, From, leaving, faults_here, value_ends}
use Rattle.alma_lower_templates.proofs.Destinations.{Destination}
use Rattle.alma_lower_templates.proofs.PlaceSteps.{known_step, not_known_step}

module _ (p : Program) (code : PlainCode) (input : List ℕ) where
  -- a cell of a place, in the store and in the machine
  pub data CellIs (v : Store) (a : Place) (now : List PlainFrame) (c : CellPlace) : Type 0 where
    is_number : (x : ℤ) → cell_of v a ≡ Number x → number_at now c.frame c.slot ≡ true → cell_at now c.frame c.slot cell.Unset ≡ cell.Int x
        → is_integer x ≡ true → CellIs v a now c
    is_unknown : cell_of v a ≡ Unknown → number_at now c.frame c.slot ≡ true → cell_at now c.frame c.slot cell.Unset ≡ cell.Unknown
        → CellIs v a now c

  pub cell_there : (v : Store) (a : Place) (now : List PlainFrame) (c : CellPlace) → StandFor p code v now → AreNumbers p code v now a
      → 0 < a.size → SamePlace p v a c → CellIs v a now c
  cell_there v a now c stand numbers some same =
      let there = content_there p code v now a c stand numbers some same in
      by (cell_of v a) (cell_at now c.frame c.slot cell.Unset) refl refl there.0 there.1
    where
      by : (x : store.Cell) (d : Cell) → cell_of v a ≡ x → cell_at now c.frame c.slot cell.Unset ≡ d → number_at now c.frame c.slot ≡ true
          → SameContent p v slot.Number x d → CellIs v a now c
      by (Number x) (cell.Int y) e f live same = is_number x e live (f ∙ ap cell.Int (sym same.0)) same.1
      by Unknown cell.Unknown e f live same = is_unknown e live f
      by Unknown (cell.Int y) e f live same = absurd same
      by Unknown cell.Unset e f live same = absurd same
      by Unknown (cell.Place y) e f live same = absurd same
      by Unknown (cell.Mark y) e f live same = absurd same
      by (Number x) cell.Unknown e f live same = absurd same
      by (Number x) cell.Unset e f live same = absurd same
      by (Number x) (cell.Place y) e f live same = absurd same
      by (Number x) (cell.Mark y) e f live same = absurd same
      by (At x) d e f live same = absurd same

  pub cell_is : (r n size : ℕ) (v : Store) (a : Place) (now : List PlainFrame) → 0 < size → Begins p code input r v now
      → (h : IsPlace p code input n size v a now) → CellIs v a now h.place
  cell_is r n size v a now some b h = cell_there v a now h.place b.stand h.numbers (omega (arith, some, h.sized)) h.same

  module _ (line q at lo r place_slot size : ℕ) (v : Store) (now : List PlainFrame) (a : Place) (some : 0 < size)
      (b : Begins p code input r v now) (h : IsPlace p code input place_slot size v a now) where
    -- the number there is loaded
    pub load_to : (to : ℕ) (w : List PlainFrame → Ways ℤ) → Destination p code input line q lo r to w
        → InstrAt code input line at (I.Load to place_slot)
        → From p code input line 8 at (at + 1) now (w now) (read_cell (cell_of v a) (λ x. one v x)) q
    load_to to w takes i = by (cell_is r place_slot size v a now some b h)
      where
        by : CellIs v a now h.place → From p code input line 8 at (at + 1) now (w now) (read_cell (cell_of v a) (λ x. one v x)) q
        by (is_number x e live is integer) =
            subst (λ c. From p code input line 8 at (at + 1) now (w now) (read_cell c (λ x. one v x)) q) (sym e)
            (takes.ends 7 at v now x b integer (λ held s there. load_step code input line at now held s there to place_slot h.place x i
            (takes.kind v now b) h.holds (live, is)))
        by (is_unknown e live is) =
            subst (λ c. From p code input line 8 at (at + 1) now (w now) (read_cell c (λ x. one v x)) q) (sym e)
            (faults_here p code input line 7 at (at + 1) now (w now) fault.Unknown q
            (λ held s there. load_unknown code input line at now held s there to place_slot h.place i h.holds (live, is)))

    -- whether a number is there
    pub known_ends : own_end p r ≤ lo → slice_get (kinds_at code r) lo ≡ Some slot.Number
        → InstrAt code input line at (I.Known lo place_slot)
        → From p code input line 8 at (at + 1) now (leaving p code input lo r now (ValueIn p code input lo))
        (one v (known_bit (cell_of v a))) q
    known_ends behind kind i = by (cell_is r place_slot size v a now some b h)
      where
        by : CellIs v a now h.place → From p code input line 8 at (at + 1) now (leaving p code input lo r now (ValueIn p code input lo))
            (one v (known_bit (cell_of v a))) q
        by (is_number x e live is integer) =
            subst (λ c. From p code input line 8 at (at + 1) now (leaving p code input lo r now (ValueIn p code input lo))
            (one v (known_bit c)) q) (sym e)
            (value_ends p code input line 7 at lo r v now (pos 1) q behind kind refl b
            (λ held s there. known_step code input line at now held s there lo place_slot h.place x i
            (has_kind p code input r lo v now slot.Number kind b) h.holds (live, is)))
        by (is_unknown e live is) =
            subst (λ c. From p code input line 8 at (at + 1) now (leaving p code input lo r now (ValueIn p code input lo))
            (one v (known_bit c)) q) (sym e)
            (value_ends p code input line 7 at lo r v now (pos 0) q behind kind refl b
            (λ held s there. not_known_step code input line at now held s there lo place_slot h.place i
            (has_kind p code input r lo v now slot.Number kind b) h.holds (live, is)))
