-- The row of SOME: a turn, its choice entry, and the next turn from the frames in which this one began.
use Rattle.std.proofs.Common.{◌≡◌, ℕ, suc, ◌+◌, ◌-◌, ◌≤◌, List, [], ◌∷◌, ◌++◌, arith, ℤ, pos, ◌+ℤ◌, refl, sym, ap, ◌∙◌, subst, append-nil}
use Rattle.std.specs.Prelude.{Bool, true, false, not, int_lt}
use Rattle.std.proofs.lemmas.Int.{ints}
use Rattle.alma_base.specs.declared.number.Range.{Range}
use Rattle.alma_base.specs.Choice.{if_true}
use Rattle.alma_base.specs.Numbers.{is_beyond, is_integer, bit}
use Rattle.alma_code.specs.declared.cell.Cell.TheVariants as cell
use Rattle.alma_code.specs.declared.cell.SlotKind.TheVariants as slot
use Rattle.alma_code.specs.declared.instr.Instr.TheVariants as I
use Rattle.alma_code.specs.Picture.{PlainFrame, PlainEntry}
use Rattle.alma_code.specs.Plain.{PlainCode}
use Rattle.alma_code.specs.Machine.{State}
use Rattle.alma_mean.specs.Store.{Store, Place, Number, top_cell, put_top}
use Rattle.alma_mean.specs.Events.{Events, NoYield, Fail, join}
use Rattle.alma_mean.specs.Rows.{read_cell, next_turn, set_variable}
use Rattle.alma_lower_implements.proofs.Goes.{Goes, no_step, and_then, before, weaker, join_goes}
use Rattle.alma_lower_implements.proofs.Address.{at_address}
use Rattle.alma_lower_implements.proofs.Frames.{IsAt}
use Rattle.alma_lower_implements.proofs.Steps.{InstrAt, top_written, Holds, HasKind, less_step, zero_jumps, other_goes_on, add_does}
use Rattle.alma_lower_implements.proofs.Steps.{fits_step}
use Rattle.alma_lower_implements.proofs.ChoiceSteps.{branch_entry, choose_step, pop_step}
use Rattle.alma_lower_implements.proofs.Ways.{Ways, Leaves, Later, Visited}

-- a number is below another where the next one is not beyond it
pub beyond_by_one : (n l : ℤ) → is_beyond (n +ℤ pos 1) l (pos 1) ≡ not (int_lt n l)
beyond_by_one n l = by (int_lt l (n +ℤ pos 1)) (int_lt n l) refl refl
  where
    by : (t u : Bool) → int_lt l (n +ℤ pos 1) ≡ t → int_lt n l ≡ u → t ≡ not u
    by true false e d = refl
    by false true e d = refl
    by true true e d = absurd (omega (arith, ints))
    by false false e d = absurd (omega (arith, ints))

module _ (code : PlainCode) (input : List ℕ) where
  -- the slots of a loop: in frames that hold the count and the limit, also after `more` is written
  pub record HoldsTurn (counter limit step more : ℕ) (n l : ℤ) (now : List PlainFrame) : Type 0 where
    pub count : Holds now counter (cell.Int n)
    pub last : Holds now limit (cell.Int l)
    pub kind : HasKind now more slot.Number
    pub test : (b : ℤ) → Holds (top_written now more (cell.Int b)) more (cell.Int b)
    pub count' : (b : ℤ) → Holds (top_written now more (cell.Int b)) counter (cell.Int n)
    pub by_one : (b : ℤ) → Holds (top_written now more (cell.Int b)) step (cell.Int (pos 1))
    pub kind' : (b : ℤ) → HasKind (top_written now more (cell.Int b)) counter slot.Number

  pub some_row : (line top retry exit counter limit step more : ℕ) (n l : ℤ) (v : Store) (now : List PlainFrame) (w : Ways NoYield)
      (locate : Store → Events Place) (range : Range) (own_counter own_limit : ℕ) (body again : Store → Events NoYield) (q u : ℕ)
      → q ≤ suc u
      → InstrAt code input line top (I.Less more counter limit) → InstrAt code input line (top + 1) (I.JumpZero more (top + 3))
      → InstrAt code input line (top + 2) (I.Choose retry)
      → InstrAt code input line retry (I.Add counter counter step) → retry + 1 ≡ top
      → HoldsTurn counter limit step more n l now → (int_lt n l ≡ true → is_integer (n +ℤ pos 1) ≡ true)
      → top_cell v own_counter ≡ Number n → top_cell v own_limit ≡ Number l
      -- the variable is set, and the body runs
      → ((b : ℤ) (held : List PlainEntry) (s : State) → IsAt (top + 3) (top_written now more (cell.Int b)) held s
      → Goes code input line 0 24 (Leaves exit w) held (set_variable locate range v n body) s 16 q)
      -- the next turn, at the level below, from the frames in which this turn began
      → (int_lt n l ≡ true → Later code input line top exit
      (top_written (top_written now more (cell.Int (pos 1))) counter (cell.Int (n +ℤ pos 1))) w
      (again (put_top v own_counter (Number (n +ℤ pos 1)))) u)
      → Visited code input line top exit now w
      (read_cell (top_cell v own_counter) (λ x. join (set_variable locate range v x body)
      (next_turn own_counter own_limit (pos 1) again v Fail))) q
  some_row line top retry exit counter limit step more n l v now w locate range own_counter own_limit body again q u owes less zero choose
      add back holds fits is_n is_l attempt later held s is =
      subst (λ e. Goes code input line 0 24 (Leaves exit w) held e s 24 q)
      (sym (ap (λ c. read_cell c (λ x. join (set_variable locate range v x body)
      (next_turn own_counter own_limit (pos 1) again v Fail))) is_n ∙ ap (join tried) next_is))
      (by (int_lt n l) refl)
    where
      tried : Events NoYield
      tried = set_variable locate range v n body

      rest : Bool → Events NoYield
      rest b = if_true b (λ _. Fail) (λ _. again (put_top v own_counter (Number (n +ℤ pos 1))))

      next_is : next_turn own_counter own_limit (pos 1) again v Fail ≡ rest (not (int_lt n l))
      next_is = ap (λ c. read_cell c (λ x. read_cell (top_cell v own_limit)
          (λ y. if_true (is_beyond (x +ℤ pos 1) y (pos 1)) (λ _. Fail) (λ _. again (put_top v own_counter (Number (x +ℤ pos 1))))))) is_n
          ∙ ap (λ c. read_cell c (λ y. if_true (is_beyond (n +ℤ pos 1) y (pos 1)) (λ _. Fail)
          (λ _. again (put_top v own_counter (Number (n +ℤ pos 1)))))) is_l
          ∙ ap rest (beyond_by_one n l)

      by : (z : Bool) → int_lt n l ≡ z → Goes code input line 0 24 (Leaves exit w) held (join tried (rest (not (int_lt n l)))) s 24 q
      by true e =
          let now1 : List PlainFrame = top_written now more (cell.Int (pos 1)) in
          let a = less_step code input line top now held s is more counter limit n l less holds.kind holds.count holds.last in
          let a_is : IsAt (top + 1) now1 held a.to =
          record {
            mode = a.is.mode;
            here = a.is.here;
            frames = a.is.frames ∙ ap (λ x. top_written now more (cell.Int (bit x))) e;
            entries = a.is.entries;
          } in
          let b = other_goes_on code input line (top + 1) now1 held a.to a_is more (top + 3) (pos 1) zero (holds.test (pos 1)) refl in
          let c = choose_step code input line (top + 2) retry now1 held b.to
          (at_address (top + 1 + 1) (top + 2) now1 held b.to (omega arith) b.is) choose in
          subst (λ x. Goes code input line 0 24 (Leaves exit w) held (join tried (rest (not x))) s 24 q) (sym e)
          (before code input line 0 24 (Leaves exit w) held (join tried (rest false)) s c.to 3 24 16 q (q - 3)
          (and_then code input (and_then code input a.silently b.silently) c.silently) (omega arith) (omega arith)
          (join_goes code input line 0 24 (Leaves exit w) held (branch_entry retry now1 ∷ []) tried (rest false) c.to 16 (q - 3)
          (weaker code input line 0 24 (Leaves exit w) (held ++ branch_entry retry now1 ∷ []) tried c.to 16 16 (q - 3) q (omega arith)
          (omega arith)
          (attempt (pos 1) (held ++ branch_entry retry now1 ∷ []) c.to
          (at_address (top + 2 + 1) (top + 3) now1 (held ++ branch_entry retry now1 ∷ []) c.to (omega arith) c.is)))
          (λ base2 x like failing.
          let y = pop_step code input retry now1 base2 x failing in
          let z = fits_step code input line retry now1 base2 y.to y.is counter (n +ℤ pos 1) (holds.kind' (pos 1)) (fits e)
          (add_does code input line retry now1 base2 y.to y.is counter counter step n (pos 1) add (holds.count' (pos 1))
          (holds.by_one (pos 1))) in
          later e 2 (q - 3) (omega arith) (omega (arith, owes)) base2 x z.to (and_then code input y.silently z.silently)
          (at_address (retry + 1) top (top_written now1 counter (cell.Int (n +ℤ pos 1))) base2 z.to back z.is))))
      by false e =
          let now0 : List PlainFrame = top_written now more (cell.Int (pos 0)) in
          let a = less_step code input line top now held s is more counter limit n l less holds.kind holds.count holds.last in
          let a_is : IsAt (top + 1) now0 held a.to =
          record {
            mode = a.is.mode;
            here = a.is.here;
            frames = a.is.frames ∙ ap (λ x. top_written now more (cell.Int (bit x))) e;
            entries = a.is.entries;
          } in
          let b = zero_jumps code input line (top + 1) now0 held a.to a_is more (top + 3) (pos 0) zero (holds.test (pos 0)) refl in
          subst (λ x. Goes code input line 0 24 (Leaves exit w) held (join tried (rest (not x))) s 24 q) (sym e)
          (join_goes code input line 0 24 (Leaves exit w) held [] tried (rest true) s 24 q
          (before code input line 0 24 (Leaves exit w) (held ++ []) tried s b.to 2 24 16 q q (and_then code input a.silently b.silently)
          (omega arith) (omega arith)
          (attempt (pos 0) (held ++ []) b.to (record
          { mode = b.is.mode; here = b.is.here; frames = b.is.frames; entries = b.is.entries ∙ sym (append-nil held) })))
          (λ base2 x like failing. (
            0,
            x,
            omega arith,
            no_step code input x,
            record { mode = failing.mode; entries = failing.entries ∙ append-nil base2 },
          )))
