-- The steps of FOR: the counts, and the slots of a routine that are written and read by number.
use Rattle.std.proofs.Common.{◌≡◌, ◌≢◌, ℕ, ◌+◌, ◌-◌, ◌<◌, ◌≤◌, Bool, true, false, not, List, length, get_or, set, Some, refl, sym, ap, ◌∙◌}
use Rattle.std.proofs.Common.{subst, arith, ℤ, pos, negsuc, ◌+ℤ◌}
use Rattle.std.specs.Prelude.{slice_get, int_lt, int_le}
use Rattle.std.proofs.lemmas.Int.{ints}
use Rattle.std.proofs.lemmas.Bool.Decides.{nat_tests}
use Rattle.std.proofs.lemmas.List.{get_or-set_same, get_or-set_other, length-set}
use Rattle.std.proofs.lemmas.Option.{slice_get-get_or, get_or_from_slice_get}
use Rattle.alma_base.specs.declared.fault.RunFault.TheVariants as fault
use Rattle.alma_base.specs.Choice.{if_true}
use Rattle.alma_base.specs.Numbers.{is_integer, is_zero, is_beyond, bit}
use Rattle.alma_code.specs.declared.cell.Cell.{Cell}
use Rattle.alma_code.specs.declared.cell.Cell.TheVariants as cell
use Rattle.alma_code.specs.declared.cell.SlotKind.TheVariants as slot
use Rattle.alma_code.specs.declared.instr.Instr.TheVariants as I
use Rattle.alma_code.specs.Picture.{PlainFrame, PlainEntry, last_frame, frames_with_cell}
use Rattle.alma_code.specs.Picture as picture
use Rattle.alma_code.specs.Plain.{PlainCode, kinds_at}
use Rattle.alma_code.specs.Machine.{State, StepResult, step, act, number, as_number, put_number, goes_to, ends_in_fault}
use Rattle.alma_ir.specs.Tree.{Program, routine_at}
use Rattle.alma_mean.specs.Store.{Store, Unknown, Number, At, with_cell, put_top, top, top_frame, top_cell}
use Rattle.alma_mean.specs.Store as store
use Rattle.alma_lower_implements.proofs.Frames.{shift, shift_in, SameContent, StandFor, Fits, IsAt}
use Rattle.alma_lower_implements.proofs.FrameLemmas.{top_same, fits_put, put_is}
use Rattle.alma_lower_implements.proofs.Steps.{top_written, Holds, HasKind, InstrAt, passed, does, number_is, puts, Writes, Moves, moved_to}
use Rattle.alma_lower_implements.proofs.Steps.{Faults, faults_now}
use Rattle.alma_lower_implements.proofs.Numbers.{zero_bit}
use Rattle.alma_lower_implements.proofs.ExprRows.{AreVariables, kind_there}
use Rattle.alma_code.specs.Lines.{line_at}

-- ---- counts

-- what the instruction before the turns leaves: 0 where the first count is beyond the limit
abbrev pub entered : (by first limit : ℤ) → ℤ
entered (pos step) first limit = bit (int_le first limit)
entered (negsuc step) first limit = bit (int_le limit first)

not_at_most : (a b : ℤ) → not (int_le a b) ≡ int_lt b a
not_at_most a b = by (int_le a b) (int_lt b a) refl refl
  where
    by : (t u : Bool) → int_le a b ≡ t → int_lt b a ≡ u → not t ≡ u
    by true false e d = refl
    by false true e d = refl
    by true true e d = absurd (omega (arith, ints))
    by false false e d = absurd (omega (arith, ints))

pub entered_is : (by first limit : ℤ) → is_zero (entered by first limit) ≡ is_beyond first limit by
entered_is (pos step) first limit = zero_bit (int_le first limit) ∙ not_at_most first limit
entered_is (negsuc step) first limit = zero_bit (int_le limit first) ∙ not_at_most limit first

-- a count that is not beyond the limit is a number of INTEGER, since it lies between two of them
between : (by n l y : ℤ) → y ≡ n +ℤ by → is_integer n ≡ true → is_integer l ≡ true → is_beyond y l by ≡ false → is_integer y ≡ true
between (pos step) n l (pos y) e hn hl h = grind (arith, ints, nat_tests)
between (pos step) n l (negsuc y) e hn hl h = grind (arith, ints, nat_tests)
between (negsuc step) n l (pos y) e hn hl h = grind (arith, ints, nat_tests)
between (negsuc step) n l (negsuc y) e hn hl h = grind (arith, ints, nat_tests)

pub count_integer : (by n l : ℤ) → is_integer n ≡ true → is_integer l ≡ true → is_beyond (n +ℤ by) l by ≡ false
    → is_integer (n +ℤ by) ≡ true
count_integer by n l hn hl h = between by n l (n +ℤ by) refl hn hl h

-- ---- slots of the frame on top of the store

-- the number of a cell, 0 where there is none
abbrev number_in : store.Cell → ℤ
number_in (Number x) = x
number_in Unknown = pos 0
number_in (At q) = pos 0

top_there : (v : Store) (n : ℕ) (c : store.Cell) → 1 ≤ length v → n < length (top_frame v).cells
    → top_frame (put_top v n c) ≡ with_cell (top_frame v) n c
top_there v n c some there =
    let new = with_cell (top_frame v) n c in
    let is : put_top v n c ≡ set v (top v) new = put_is v (top v) n c (omega arith) in
    let last : length (set v (top v) new) - 1 ≡ top v = ap (λ k. k - 1) (length-set v (top v) new) in
    ap (λ z. top_frame z) is ∙ ap (λ k. get_or (set v (top v) new) k store.no_frame) last
    ∙ get_or-set_same v (top v) new store.no_frame (omega arith)

-- what is put is there, and another slot stays
pub top_put : (v : Store) (n : ℕ) (c : store.Cell) → 1 ≤ length v → n < length (top_frame v).cells → top_cell (put_top v n c) n ≡ c
top_put v n c some there = ap (λ f. get_or f.cells n Unknown) (top_there v n c some there)
    ∙ get_or-set_same (top_frame v).cells n c Unknown there

pub top_put_other : (v : Store) (m n : ℕ) (c : store.Cell) → 1 ≤ length v → m < length (top_frame v).cells → n ≢ m
    → top_cell (put_top v m c) n ≡ top_cell v n
top_put_other v m n c some there other = ap (λ f. get_or f.cells n Unknown) (top_there v m c some there)
    ∙ get_or-set_other (top_frame v).cells m n c Unknown other

module _ (p : Program) (code : PlainCode) (input : List ℕ) where
  -- ---- number slots of a routine

  -- a slot of the frame on top, in the store and in the machine
  pub data SlotThere (v : Store) (now : List PlainFrame) (n m : ℕ) : Type 0 where
    a_number : (x : ℤ) → top_cell v n ≡ Number x → Holds now m (cell.Int x) → is_integer x ≡ true → SlotThere v now n m
    not_known : top_cell v n ≡ Unknown → Holds now m cell.Unknown → SlotThere v now n m

  module _ (r n : ℕ) (variable : AreVariables p code input r n 1) (v : Store) (now : List PlainFrame) (stand : StandFor p code v now)
      (routine : (top_frame v).routine ≡ r) where
    -- the slot of the code
    abbrev at_slot : ℕ
    at_slot = shift p r + n

    pub slot_within : n < length (top_frame v).cells
    slot_within =
        let same = top_same p code v now stand in
        let is : (routine_at p (top_frame v).routine).slots ≡ (routine_at p r).slots = ap (λ x. (routine_at p x).slots) routine in
        omega (arith, same.slots, is, variable.exist)

    slot_kind : slice_get (kinds_at code r) at_slot ≡ Some slot.Number
    slot_kind = let at : shift p r + (n + 0) ≡ shift p r + n = omega arith in ap (slice_get (kinds_at code r)) (sym at)
        ∙ variable.numbers 0 (omega arith)

    pub slot_has_kind : HasKind now at_slot slot.Number
    slot_has_kind = kind_there p code input v now r stand routine at_slot slot.Number slot_kind

    shifts : shift p (top_frame v).routine + n ≡ shift p r + n
    shifts = ap (λ x. shift p x + n) routine

    pub slot_there : SlotThere v now n at_slot
    slot_there =
        let same = top_same p code v now stand in
        let kind : get_or (last_frame now).kinds at_slot slot.Mark ≡ slot.Number =
        get_or_from_slice_get (last_frame now).kinds at_slot slot.Number slot.Mark slot_has_kind in
        by (top_cell v n) (get_or (last_frame now).cells at_slot cell.Unset) refl refl
        (subst (λ k. SameContent p v k (top_cell v n) (get_or (last_frame now).cells at_slot cell.Unset)) kind
        (subst (λ m. SameContent p v (get_or (last_frame now).kinds m slot.Mark) (top_cell v n)
        (get_or (last_frame now).cells m cell.Unset)) shifts (same.cells n slot_within)))
      where
        holds : (c : Cell) → get_or (last_frame now).cells at_slot cell.Unset ≡ c → Holds now at_slot c
        holds c e =
            let same = top_same p code v now stand in
            slice_get-get_or (last_frame now).cells at_slot cell.Unset (omega (arith, slot_within, same.within, shifts)) ∙ ap Some e

        by : (a : store.Cell) (d : Cell) → top_cell v n ≡ a → get_or (last_frame now).cells at_slot cell.Unset ≡ d
            → SameContent p v slot.Number a d → SlotThere v now n at_slot
        by Unknown cell.Unknown e f content = not_known e (holds cell.Unknown f)
        by (Number x) (cell.Int y) e f content = a_number x e (holds (cell.Int x) (f ∙ ap cell.Int (sym content.0))) content.1
        by Unknown (cell.Int y) e f content = absurd content
        by Unknown cell.Unset e f content = absurd content
        by Unknown (cell.Place y) e f content = absurd content
        by Unknown (cell.Mark y) e f content = absurd content
        by (Number x) cell.Unknown e f content = absurd content
        by (Number x) cell.Unset e f content = absurd content
        by (Number x) (cell.Place y) e f content = absurd content
        by (Number x) (cell.Mark y) e f content = absurd content
        by (At x) d e f content = absurd content

    -- a slot whose number is known
    pub number_there : (x : ℤ) → top_cell v n ≡ Number x → Holds now at_slot (cell.Int x) × (is_integer x ≡ true)
    number_there x known = by slot_there
      where
        by : SlotThere v now n at_slot → Holds now at_slot (cell.Int x) × (is_integer x ≡ true)
        by (a_number y e h integer) =
            let same : y ≡ x = ap number_in (sym e ∙ known) in
            (subst (λ z. Holds now at_slot (cell.Int z)) same h, subst (λ z. is_integer z ≡ true) same integer)
        by (not_known e h) = absurd (let bad : Unknown ≡ Number x = sym e ∙ known in cc)

    -- a number that the store and the machine get
    pub fits_top : (lo : ℕ) (y : ℤ) → is_integer y ≡ true
        → Fits p code lo now (put_top v n (Number y)) (top_written now at_slot (cell.Int y))
    fits_top lo y integer =
        let at : top v ≡ length now - 1 = ap (λ k. k - 1) (sym stand.count) in
        let there : shift_in p v (top v) + n ≡ shift p r + n = shifts in
        let kind : get_or (last_frame now).kinds at_slot slot.Mark ≡ slot.Number =
        get_or_from_slice_get (last_frame now).kinds at_slot slot.Number slot.Mark slot_has_kind in
        let kind_there : get_or (get_or now (top v) picture.no_frame).kinds (shift_in p v (top v) + n) slot.Mark ≡ slot.Number =
        ap (λ f. get_or (get_or now f picture.no_frame).kinds (shift_in p v (top v) + n) slot.Mark) at ∙ ap
        (λ m. get_or (last_frame now).kinds m slot.Mark) there ∙ kind in
        subst (λ m. Fits p code lo now (put_top v n (Number y)) (frames_with_cell now (length now - 1) m (cell.Int y))) there
        (subst (λ f. Fits p code lo now (put_top v n (Number y)) (frames_with_cell now f (shift_in p v (top v) + n) (cell.Int y))) at
        (fits_put p code lo v now (top v) n y (omega (arith, stand.some)) slot_within kind_there integer stand))

module _ (code : PlainCode) (input : List ℕ) (line at : ℕ) (now : List PlainFrame) (held : List PlainEntry) (s : State)
    (h : IsAt at now held s) where
  -- ---- the instructions

  pub move_step : (a b : ℕ) (x : ℤ) → InstrAt code input line at (I.Move a b) → HasKind now a slot.Number → Holds now b (cell.Int x)
      → Writes code input at now held s a (cell.Int x)
  unfolding act
  move_step a b x i kind hb =
      puts code input at now held s a x h kind
      (does code input line at now held s (I.Move a b) h i
      ∙ number_is code input now (passed code input s) b x (λ v. put_number (passed code input s) a v) h.frames hb)

  -- a slot of which nothing is known
  unknown_is : (n : ℕ) (k : ℤ → StepResult) → Holds now n cell.Unknown
      → number (passed code input s) n k ≡ ends_in_fault fault.Unknown (passed code input s)
  unknown_is n k hn = ap (λ o. as_number o (passed code input s) k) (ap (λ z. slice_get (last_frame z).cells n) h.frames ∙ hn)

  module _ (counter limit by exit : ℕ) (i : InstrAt code input line at (I.Step counter limit by exit)) where
    -- what a step does with its three numbers
    abbrev stepped : ℤ → ℤ → ℤ → StepResult
    stepped x y z = if_true (is_beyond (x +ℤ z) y z) (λ _. goes_to exit (passed code input s))
        (λ _. put_number (passed code input s) counter (x +ℤ z))

    abbrev reads : ℕ → (ℤ → StepResult) → StepResult
    reads n k = number (passed code input s) n k

    step_is : step code input s ≡ reads counter (λ x. reads limit (λ y. reads by (λ z. stepped x y z)))
    unfolding act
    step_is = does code input line at now held s (I.Step counter limit by exit) h i

    pub no_counter : Holds now counter cell.Unknown → Faults code input line s fault.Unknown
    no_counter hc = faults_now code input line s fault.Unknown (ap (line_at code) h.here ∙ i.on_line) (step_is ∙ unknown_is counter _ hc)

    module _ (x : ℤ) (hx : Holds now counter (cell.Int x)) where
      counted : step code input s ≡ reads limit (λ y. reads by (λ z. stepped x y z))
      counted = step_is ∙ number_is code input now (passed code input s) counter x (λ u. reads limit (λ y. reads by (λ z. stepped u y z)))
          h.frames hx

      pub no_limit : Holds now limit cell.Unknown → Faults code input line s fault.Unknown
      no_limit hl = faults_now code input line s fault.Unknown (ap (line_at code) h.here ∙ i.on_line) (counted ∙ unknown_is limit _ hl)

      module _ (y z : ℤ) (hy : Holds now limit (cell.Int y)) (hz : Holds now by (cell.Int z)) where
        compared : step code input s ≡ if_true (is_beyond (x +ℤ z) y z) (λ _. goes_to exit (passed code input s))
            (λ _. put_number (passed code input s) counter (x +ℤ z))
        compared =
            counted
            ∙ number_is code input now (passed code input s) limit y (λ u. reads by (λ w. stepped x u w)) h.frames hy
            ∙ number_is code input now (passed code input s) by z (λ u. stepped x y u) h.frames hz

        pub loop_ends : is_beyond (x +ℤ z) y z ≡ true → Moves code input line at now held s h exit
        loop_ends e = moved_to code input line at now held s h exit
            (compared ∙ ap (λ b. if_true b (λ _. goes_to exit (passed code input s))
            (λ _. put_number (passed code input s) counter (x +ℤ z))) e)

        pub next_count : is_beyond (x +ℤ z) y z ≡ false → HasKind now counter slot.Number
            → Writes code input at now held s counter (cell.Int (x +ℤ z))
        next_count e kind =
            puts code input at now held s counter (x +ℤ z) h kind
            (compared ∙ ap (λ b. if_true b (λ _. goes_to exit (passed code input s))
            (λ _. put_number (passed code input s) counter (x +ℤ z))) e)
