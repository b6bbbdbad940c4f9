-- One step of the machine at ranges, places and cells.
use Rattle.std.proofs.Common.{◌≡◌, ℕ, ◌+◌, ◌*◌, Bool, true, false, List, Option, Some, ap, ◌∙◌, ℤ, pos, ◌-ℤ◌}
use Rattle.std.specs.Prelude.{slice_get, nat_abs}
use Rattle.alma_base.specs.declared.fault.RunFault.TheVariants as fault
use Rattle.alma_base.specs.declared.number.Range.{Range}
use Rattle.alma_base.specs.Choice.{if_true}
use Rattle.alma_base.specs.Numbers.{within, bit}
use Rattle.alma_code.specs.declared.cell.Cell.{Cell}
use Rattle.alma_code.specs.declared.cell.Cell.TheVariants as cell
use Rattle.alma_code.specs.declared.cell.CellPlace.{CellPlace}
use Rattle.alma_code.specs.declared.cell.SlotKind.TheVariants as slot
use Rattle.alma_code.specs.declared.instr.Instr.TheVariants as I
use Rattle.alma_code.specs.Carries.{number_at}
use Rattle.alma_code.specs.Picture.{PlainFrame, PlainEntry, cell_at}
use Rattle.alma_code.specs.Plain.{PlainCode}
use Rattle.alma_code.specs.Machine.{State, StepResult, act, step, quiet_step, ends_in_fault, as_range, as_content, as_text, number, content}
use Rattle.alma_code.specs.Machine.{range_check, put_number, put_place, is_known}
use Rattle.alma_lower_implements.proofs.Frames.{IsAt}
use Rattle.alma_lower_implements.proofs.Steps.{Holds, HasKind, InstrAt, Writes, Faults, PrintsNow, passed, does, went_on, number_is}
use Rattle.alma_lower_implements.proofs.Steps.{place_is, written_from, puts, faults_now, place_put, here_too, prints_from, HasContent}
use Rattle.alma_lower_implements.proofs.ChoiceSteps.{GoesOn}

module _ (code : PlainCode) (input : List ℕ) (line at : ℕ) (now : List PlainFrame) (held : List PlainEntry) (s : State)
    (h : IsAt at now held s) where
  abbrev here : State
  here = passed code input s

  pub goes_past : step code input s ≡ quiet_step here → GoesOn code input (at + 1) now held s
  goes_past e = record {
    to = here;
    silently = went_on code input s here e;
    is =
        record { mode = h.mode; here = ap (λ n. n + 1) h.here; frames = h.frames; entries = h.entries };
  }

  -- ---- a number is in a range

  pub in_range_reads : (a n : ℕ) (range : Range) → InstrAt code input line at (I.InRange a n) → slice_get code.ranges n ≡ Some range
      → step code input s ≡ number here a (λ v. range_check range fault.Range here v (λ _. quiet_step here))
  unfolding act
  in_range_reads a n range i e =
      does code input line at now held s (I.InRange a n) h i
      ∙ ap (λ o. number here a (λ v. as_range o here (λ t. range_check t fault.Range here v (λ _. quiet_step here)))) e

  in_range_is : (a n : ℕ) (range : Range) (x : ℤ) (t : Bool) → InstrAt code input line at (I.InRange a n)
      → slice_get code.ranges n ≡ Some range → Holds now a (cell.Int x) → within range x ≡ t
      → step code input s ≡ if_true t (λ _. quiet_step here) (λ _. ends_in_fault fault.Range here)
  in_range_is a n range x t i e ha is =
      in_range_reads a n range i e ∙ number_is code input now here a x (λ v. range_check range fault.Range here v (λ _. quiet_step here))
      h.frames ha
      ∙ ap (λ b. if_true b (λ _. quiet_step here) (λ _. ends_in_fault fault.Range here)) is

  pub in_range_passes : (a n : ℕ) (range : Range) (x : ℤ) → InstrAt code input line at (I.InRange a n)
      → slice_get code.ranges n ≡ Some range → Holds now a (cell.Int x) → within range x ≡ true → GoesOn code input (at + 1) now held s
  in_range_passes a n range x i e ha is = goes_past (in_range_is a n range x true i e ha is)

  pub in_range_faults : (a n : ℕ) (range : Range) (x : ℤ) → InstrAt code input line at (I.InRange a n)
      → slice_get code.ranges n ≡ Some range → Holds now a (cell.Int x) → within range x ≡ false → Faults code input line s fault.Range
  in_range_faults a n range x i e ha is = faults_now code input line s fault.Range (here_too code input line at now held s h i.on_line)
      (in_range_is a n range x false i e ha is)

  -- ---- places

  abbrev pub the_place : (frame first len : ℕ) → Cell
  the_place frame first len = cell.Place (record { frame = frame; slot = first; len = len })

  place_written : (a l frame : ℕ) (first : ℕ → ℕ) → HasKind now a (slot.Place l) → step code input s ≡ put_place here a frame first
      → Writes code input at now held s a (the_place frame (first l) l)
  place_written a l frame first kind e = written_from code input at now held s a (the_place frame (first l) l) h
      (e ∙ place_put code input line at now held s h a l frame first kind)

  pub global_step : (a b l : ℕ) → InstrAt code input line at (I.Global a b) → HasKind now a (slot.Place l)
      → Writes code input at now held s a (the_place 0 b l)
  unfolding act
  global_step a b l i kind = place_written a l 0 (λ _. b) kind (does code input line at now held s (I.Global a b) h i)

  pub same_step : (a b l : ℕ) (q : CellPlace) → InstrAt code input line at (I.Same a b) → HasKind now a (slot.Place l)
      → Holds now b (cell.Place q) → Writes code input at now held s a (the_place q.frame q.slot l)
  unfolding act
  same_step a b l q i kind hb =
      place_written a l q.frame (λ _. q.slot) kind
      (does code input line at now held s (I.Same a b) h i
      ∙ place_is code input now here b q (λ p. put_place here a p.frame (λ _. p.slot)) h.frames hb)

  pub field_step : (a b c l : ℕ) (q : CellPlace) → InstrAt code input line at (I.Field a b c) → HasKind now a (slot.Place l)
      → Holds now b (cell.Place q) → Writes code input at now held s a (the_place q.frame (q.slot + c) l)
  unfolding act
  field_step a b c l q i kind hb =
      place_written a l q.frame (λ _. q.slot + c) kind
      (does code input line at now held s (I.Field a b c) h i
      ∙ place_is code input now here b q (λ p. put_place here a p.frame (λ _. p.slot + c)) h.frames hb)

  pub index_reads : (a b c d : ℕ) (q : CellPlace) (range : Range) → InstrAt code input line at (I.Index a b c d)
      → slice_get code.ranges d ≡ Some range → Holds now b (cell.Place q)
      → step code input s ≡ number here c (λ v. range_check range fault.Index here v
      (λ _. put_place here a q.frame (λ l. q.slot + nat_abs (v -ℤ range.low) * l)))
  unfolding act
  index_reads a b c d q range i e hb =
      does code input line at now held s (I.Index a b c d) h i
      ∙ place_is code input now here b q (λ p. number here c
      (λ v. as_range (slice_get code.ranges d) here
      (λ t. range_check t fault.Index here v (λ _. put_place here a p.frame (λ l. p.slot + nat_abs (v -ℤ t.low) * l))))) h.frames hb
      ∙ ap (λ o. number here c (λ v. as_range o here
      (λ t. range_check t fault.Index here v (λ _. put_place here a q.frame (λ l. q.slot + nat_abs (v -ℤ t.low) * l))))) e

  module _ (a b c d l : ℕ) (q : CellPlace) (range : Range) (n : ℤ) (i : InstrAt code input line at (I.Index a b c d))
      (e : slice_get code.ranges d ≡ Some range) (hb : Holds now b (cell.Place q)) (hc : Holds now c (cell.Int n)) where
    index_is : (t : Bool) → within range n ≡ t
        → step code input s ≡ if_true t (λ _. put_place here a q.frame (λ m. q.slot + nat_abs (n -ℤ range.low) * m))
        (λ _. ends_in_fault fault.Index here)
    index_is t is =
        index_reads a b c d q range i e hb
        ∙ number_is code input now here c n (λ v. range_check range fault.Index here v
        (λ _. put_place here a q.frame (λ m. q.slot + nat_abs (v -ℤ range.low) * m))) h.frames hc
        ∙ ap (λ z. if_true z (λ _. put_place here a q.frame (λ m. q.slot + nat_abs (n -ℤ range.low) * m))
        (λ _. ends_in_fault fault.Index here)) is

    pub index_step : HasKind now a (slot.Place l) → within range n ≡ true
        → Writes code input at now held s a (the_place q.frame (q.slot + nat_abs (n -ℤ range.low) * l) l)
    index_step kind is = place_written a l q.frame (λ m. q.slot + nat_abs (n -ℤ range.low) * m) kind (index_is true is)

    pub index_faults : within range n ≡ false → Faults code input line s fault.Index
    index_faults is = faults_now code input line s fault.Index (here_too code input line at now held s h i.on_line) (index_is false is)

  -- ---- cells

  pub content_is : (q : CellPlace) (c : Cell) (k : Option ℤ → StepResult) → HasContent code input line at now held s h q c
      → content here q.frame q.slot k ≡ as_content true c here k
  content_is q c k hc =
      ap (λ z. as_content (number_at z q.frame q.slot) (cell_at z q.frame q.slot cell.Unset) here k) h.frames
      ∙ ap (λ t. as_content t (cell_at now q.frame q.slot cell.Unset) here k) hc.0
      ∙ ap (λ x. as_content true x here k) hc.1

  known_is : (a b : ℕ) (q : CellPlace) (c : Cell) → InstrAt code input line at (I.Known a b) → Holds now b (cell.Place q)
      → HasContent code input line at now held s h q c
      → step code input s ≡ as_content true c here (λ o. put_number here a (bit (is_known o)))
  unfolding act
  known_is a b q c i hb hc =
      does code input line at now held s (I.Known a b) h i
      ∙ place_is code input now here b q (λ p. content here p.frame p.slot (λ o. put_number here a (bit (is_known o)))) h.frames hb
      ∙ content_is q c (λ o. put_number here a (bit (is_known o))) hc

  pub known_step : (a b : ℕ) (q : CellPlace) (x : ℤ) → InstrAt code input line at (I.Known a b) → HasKind now a slot.Number
      → Holds now b (cell.Place q) → HasContent code input line at now held s h q (cell.Int x)
      → Writes code input at now held s a (cell.Int (pos 1))
  known_step a b q x i kind hb hc = puts code input at now held s a (pos 1) h kind (known_is a b q (cell.Int x) i hb hc)

  pub not_known_step : (a b : ℕ) (q : CellPlace) → InstrAt code input line at (I.Known a b) → HasKind now a slot.Number
      → Holds now b (cell.Place q) → HasContent code input line at now held s h q cell.Unknown
      → Writes code input at now held s a (cell.Int (pos 0))
  not_known_step a b q i kind hb hc = puts code input at now held s a (pos 0) h kind (known_is a b q cell.Unknown i hb hc)

  -- ---- texts

  pub write_text_step : (a : ℕ) (text : List ℕ) → InstrAt code input line at (I.WriteText a) → slice_get code.texts a ≡ Some text
      → PrintsNow code input line at now held s h text
  unfolding act
  write_text_step a text i e = prints_from code input line at now held s h text
      (does code input line at now held s (I.WriteText a) h i ∙ ap (λ o. as_text o here) e)
