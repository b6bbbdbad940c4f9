-- One step of the machine: what an instruction at the address does to the state.
use Rattle.std.proofs.Common.{◌≡◌, ℕ, ◌+◌, ◌-◌, true, false, not, List, [], ◌∷◌, length, get_or, Option, Some, refl, sym, ap, ◌∙◌, subst}
use Rattle.std.proofs.Common.{append-nil, ℤ, pos, ◌+ℤ◌, ◌-ℤ◌, ◌*ℤ◌, neg_ℤ}
use Rattle.std.specs.Prelude.{slice_get, int_lt, int_le, nat_eq, nat_abs}
use Rattle.std.specs.Int.{int_rem_euclid}
use Rattle.alma_base.specs.declared.fault.RunFault.{RunFault}
use Rattle.alma_base.specs.declared.fault.RunFault.TheVariants as fault
use Rattle.alma_base.specs.Choice.{if_true}
use Rattle.alma_base.specs.Numbers.{is_integer, is_zero, int_eq, bit, div_down_of, mod_down_of}
use Rattle.alma_code.specs.declared.cell.Cell.{Cell}
use Rattle.alma_code.specs.declared.cell.Cell.TheVariants as cell
use Rattle.alma_code.specs.declared.cell.CellPlace.{CellPlace}
use Rattle.alma_code.specs.declared.cell.SlotKind.{SlotKind}
use Rattle.alma_code.specs.declared.cell.SlotKind.TheVariants as slot
use Rattle.alma_code.specs.declared.instr.Instr.{Instr}
use Rattle.alma_code.specs.declared.instr.Instr.TheVariants as I
use Rattle.alma_code.specs.declared.step.End.TheVariants as end
use Rattle.alma_base.specs.declared.value.Value.TheVariants as value
use Rattle.alma_base.specs.Value.{value_text}
use Rattle.alma_code.specs.Picture.{PlainFrame, PlainEntry, no_frame, last_frame, frames_with_cell, cell_at}
use Rattle.alma_code.specs.Carries.{number_at}
use Rattle.alma_code.specs.Plain.{PlainCode}
use Rattle.alma_code.specs.Lines.{line_at}
use Rattle.alma_lower_implements.specs.Implements.{line_in}
use Rattle.alma_code.specs.Machine.{Failing, Ended, State, StepResult, act, step, step_in, fetch_and_act, with_step_counted, quiet_step}
use Rattle.alma_code.specs.Machine.{ends_in_fault, fails_now, goes_to, prints_bytes, run_faults, as_fault, as_number, number, put_number}
use Rattle.alma_code.specs.Machine.{to_number, to_place, integer_result, with_slot, with_cell, place, as_place, link, link_to, slot_in}
use Rattle.alma_code.specs.Machine.{to_link, put_link, put_place, content, as_content, with_known_content, store, gets_stuck, ends_run}
use Rattle.alma_code.specs.Machine.{answers_return, state_after_leave}
use Rattle.alma_lower_implements.proofs.Goes.{Silently, Prints, IsOn, IsFailing}
use Rattle.alma_lower_implements.proofs.Frames.{IsAt}

-- the frames after a write to a slot of the top one
abbrev pub top_written : List PlainFrame → ℕ → Cell → List PlainFrame
top_written now n c = frames_with_cell now (length now - 1) n c

-- a slot of the top frame holds this cell, or is of this kind
abbrev pub Holds : List PlainFrame → ℕ → Cell → Type 0
Holds now n c = slice_get (last_frame now).cells n ≡ Some c

abbrev pub HasKind : List PlainFrame → ℕ → SlotKind → Type 0
HasKind now n kind = slice_get (last_frame now).kinds n ≡ Some kind

module _ (code : PlainCode) (input : List ℕ) where
  -- the state that an instruction finds, its step counted and its address passed
  abbrev pub passed : State → State
  passed s = record (with_step_counted code input s) { at = s.at + 1; last = s.at }

  -- the code has this instruction at an address, and this line
  pub record InstrAt (line at : ℕ) (i : Instr) : Type 0 where
    pub instr : slice_get code.instrs at ≡ Some i
    pub on_line : line_at code at ≡ line

  pub does : (line at : ℕ) (now : List PlainFrame) (held : List PlainEntry) (s : State) (i : Instr) → IsAt at now held s → InstrAt line at i
      → step code input s ≡ act code input i (passed s)
  does line at now held s i h e =
      ap (λ m. step_in code input m s) h.mode ∙ ap (λ o. fetch_and_act code input o s) (ap (slice_get code.instrs) h.here ∙ e.instr)

  -- a step that just goes on
  pub went_on : (s t : State) → step code input s ≡ quiet_step t → Silently code input 1 s t
  went_on s t e = record { steps = ap (λ x. x.state) e; silent = append-nil (step code input s).printed ∙ ap (λ x. x.printed) e }

  -- ---- words of the machine

  pub number_is : (now : List PlainFrame) (s : State) (n : ℕ) (x : ℤ) (k : ℤ → StepResult) → s.now ≡ now → Holds now n (cell.Int x)
      → number s n k ≡ k x
  number_is now s n x k frames h = ap (λ o. as_number o s k) (ap (λ z. slice_get (last_frame z).cells n) frames ∙ h)

  pub place_is : (now : List PlainFrame) (s : State) (n : ℕ) (p : CellPlace) (k : CellPlace → StepResult) → s.now ≡ now
      → Holds now n (cell.Place p) → place s n k ≡ k p
  place_is now s n p k frames h = ap (λ o. as_place o s k) (ap (λ z. slice_get (last_frame z).cells n) frames ∙ h)

  pub number_put : (now : List PlainFrame) (s : State) (n : ℕ) (x : ℤ) → s.now ≡ now → HasKind now n slot.Number
      → put_number s n x ≡ quiet_step (with_slot s n (cell.Int x))
  number_put now s n x frames h = ap (λ o. to_number o s (λ _. quiet_step (with_slot s n (cell.Int x))))
      (ap (λ z. slice_get (last_frame z).kinds n) frames ∙ h)

  -- ---- a step that writes a number into a slot

  pub record Writes (at : ℕ) (now : List PlainFrame) (held : List PlainEntry) (s : State) (n : ℕ) (c : Cell) : Type 0 where
    pub to : State
    pub silently : Silently code input 1 s to
    pub is : IsAt (at + 1) (top_written now n c) held to

  pub written_from : (at : ℕ) (now : List PlainFrame) (held : List PlainEntry) (s : State) (n : ℕ) (c : Cell) → IsAt at now held s
      → step code input s ≡ quiet_step (with_slot (passed s) n c) → Writes at now held s n c
  written_from at now held s n c h e = record {
    to = with_slot (passed s) n c;
    silently = went_on s (with_slot (passed s) n c) e;
    is = record { mode = h.mode; here = ap (λ a. a + 1) h.here; frames = ap (λ z. top_written z n c) h.frames; entries = h.entries };
  }

  pub puts : (at : ℕ) (now : List PlainFrame) (held : List PlainEntry) (s : State) (n : ℕ) (x : ℤ) → IsAt at now held s
      → HasKind now n slot.Number → step code input s ≡ put_number (passed s) n x → Writes at now held s n (cell.Int x)
  puts at now held s n x h kind e = written_from at now held s n (cell.Int x) h (e ∙ number_put now (passed s) n x h.frames kind)

  -- ---- a step that ends in a fault

  pub record Faults (line : ℕ) (s : State) (f : RunFault) : Type 0 where
    pub to : State
    pub silently : Silently code input 1 s to
    pub is : to.mode ≡ Ended (end.Fault f)
    pub on_line : line_in code to ≡ line

  pub faults_now : (line : ℕ) (s : State) (f : RunFault) → line_at code s.at ≡ line → step code input s ≡ ends_in_fault f (passed s)
      → Faults line s f
  faults_now line s f there e = record {
    to = (step code input s).state;
    silently = record { steps = refl; silent = append-nil (step code input s).printed ∙ ap (λ x. x.printed) e };
    is = ap (λ x. x.state.mode) e;
    on_line = ap (λ x. line_in code x.state) e ∙ there;
  }

  -- ---- the forms that compute

  module _ (line at : ℕ) (now : List PlainFrame) (held : List PlainEntry) (s : State) (h : IsAt at now held s) where
    -- the line of the address is that of the state
    pub here_too : line_at code at ≡ line → line_at code s.at ≡ line
    here_too there = ap (line_at code) h.here ∙ there

    pub const_step : (n : ℕ) (x : ℤ) → InstrAt line at (I.Const n x) → HasKind now n slot.Number → Writes at now held s n (cell.Int x)
    unfolding act
    const_step n x i kind = puts at now held s n x h kind (does line at now held s (I.Const n x) h i)

    pub flip_step : (a b : ℕ) (x : ℤ) → InstrAt line at (I.Flip a b) → HasKind now a slot.Number → Holds now b (cell.Int x)
        → Writes at now held s a (cell.Int (bit (is_zero x)))
    unfolding act
    flip_step a b x i kind hb =
        puts at now held s a (bit (is_zero x)) h kind
        (does line at now held s (I.Flip a b) h i
        ∙ number_is now (passed s) b x (λ v. put_number (passed s) a (bit (is_zero v))) h.frames hb)

    -- two numbers are read
    two : (b c : ℕ) (x y : ℤ) (k : ℤ → ℤ → StepResult) → Holds now b (cell.Int x) → Holds now c (cell.Int y)
        → number (passed s) b (λ u. number (passed s) c (λ v. k u v)) ≡ k x y
    two b c x y k hb hc =
        number_is now (passed s) b x (λ u. number (passed s) c (λ v. k u v)) h.frames hb
        ∙ number_is now (passed s) c y (λ v. k x v) h.frames hc

    pub equal_step : (a b c : ℕ) (x y : ℤ) → InstrAt line at (I.Equal a b c) → HasKind now a slot.Number → Holds now b (cell.Int x)
        → Holds now c (cell.Int y) → Writes at now held s a (cell.Int (bit (int_eq x y)))
    unfolding act
    equal_step a b c x y i kind hb hc =
        puts at now held s a (bit (int_eq x y)) h kind
        (does line at now held s (I.Equal a b c) h i ∙ two b c x y (λ u v. put_number (passed s) a (bit (int_eq u v))) hb hc)

    pub less_step : (a b c : ℕ) (x y : ℤ) → InstrAt line at (I.Less a b c) → HasKind now a slot.Number → Holds now b (cell.Int x)
        → Holds now c (cell.Int y) → Writes at now held s a (cell.Int (bit (int_lt x y)))
    unfolding act
    less_step a b c x y i kind hb hc =
        puts at now held s a (bit (int_lt x y)) h kind
        (does line at now held s (I.Less a b c) h i ∙ two b c x y (λ u v. put_number (passed s) a (bit (int_lt u v))) hb hc)

    pub less_eq_step : (a b c : ℕ) (x y : ℤ) → InstrAt line at (I.LessEq a b c) → HasKind now a slot.Number → Holds now b (cell.Int x)
        → Holds now c (cell.Int y) → Writes at now held s a (cell.Int (bit (int_le x y)))
    unfolding act
    less_eq_step a b c x y i kind hb hc =
        puts at now held s a (bit (int_le x y)) h kind
        (does line at now held s (I.LessEq a b c) h i ∙ two b c x y (λ u v. put_number (passed s) a (bit (int_le u v))) hb hc)

    -- a result that is in INTEGER is written, any other is a fault
    pub fits_step : (a : ℕ) (z : ℤ) → HasKind now a slot.Number → is_integer z ≡ true
        → step code input s ≡ integer_result (passed s) z (λ v. put_number (passed s) a v) → Writes at now held s a (cell.Int z)
    fits_step a z kind fits e =
        puts at now held s a z h kind
        (e ∙ ap (λ b. if_true b (λ _. put_number (passed s) a z) (λ _. ends_in_fault fault.Overflow (passed s))) fits)

    pub overflow_step : (a : ℕ) (z : ℤ) → line_at code at ≡ line → is_integer z ≡ false
        → step code input s ≡ integer_result (passed s) z (λ v. put_number (passed s) a v) → Faults line s fault.Overflow
    overflow_step a z there fits e =
        faults_now line s fault.Overflow (here_too there)
        (e ∙ ap (λ b. if_true b (λ _. put_number (passed s) a z) (λ _. ends_in_fault fault.Overflow (passed s))) fits)

    pub neg_does : (a b : ℕ) (x : ℤ) → InstrAt line at (I.Neg a b) → Holds now b (cell.Int x)
        → step code input s ≡ integer_result (passed s) (neg_ℤ x) (λ v. put_number (passed s) a v)
    unfolding act
    neg_does a b x i hb =
        does line at now held s (I.Neg a b) h i ∙ number_is now (passed s) b x
        (λ u. integer_result (passed s) (neg_ℤ u) (λ v. put_number (passed s) a v)) h.frames hb

    pub add_does : (a b c : ℕ) (x y : ℤ) → InstrAt line at (I.Add a b c) → Holds now b (cell.Int x) → Holds now c (cell.Int y)
        → step code input s ≡ integer_result (passed s) (x +ℤ y) (λ v. put_number (passed s) a v)
    unfolding act
    add_does a b c x y i hb hc = does line at now held s (I.Add a b c) h i
        ∙ two b c x y (λ u v. integer_result (passed s) (u +ℤ v) (λ z. put_number (passed s) a z)) hb hc

    pub sub_does : (a b c : ℕ) (x y : ℤ) → InstrAt line at (I.Sub a b c) → Holds now b (cell.Int x) → Holds now c (cell.Int y)
        → step code input s ≡ integer_result (passed s) (x -ℤ y) (λ v. put_number (passed s) a v)
    unfolding act
    sub_does a b c x y i hb hc = does line at now held s (I.Sub a b c) h i
        ∙ two b c x y (λ u v. integer_result (passed s) (u -ℤ v) (λ z. put_number (passed s) a z)) hb hc

    pub mul_does : (a b c : ℕ) (x y : ℤ) → InstrAt line at (I.Mul a b c) → Holds now b (cell.Int x) → Holds now c (cell.Int y)
        → step code input s ≡ integer_result (passed s) (x *ℤ y) (λ v. put_number (passed s) a v)
    unfolding act
    mul_does a b c x y i hb hc = does line at now held s (I.Mul a b c) h i
        ∙ two b c x y (λ u v. integer_result (passed s) (u *ℤ v) (λ z. put_number (passed s) a z)) hb hc

    -- a divisor of 0 is a fault, and any other divides
    abbrev pub divided : ℕ → ℤ → ℤ → StepResult
    divided a y z = if_true (is_zero y) (λ _. ends_in_fault fault.ZeroDivide (passed s))
        (λ _. integer_result (passed s) z (λ v. put_number (passed s) a v))

    pub div_does : (a b c : ℕ) (x y : ℤ) → InstrAt line at (I.Div a b c) → Holds now b (cell.Int x) → Holds now c (cell.Int y)
        → step code input s ≡ divided a y (div_down_of x y)
    unfolding act
    div_does a b c x y i hb hc = does line at now held s (I.Div a b c) h i ∙ two b c x y (λ u v. divided a v (div_down_of u v)) hb hc

    pub mod_does : (a b c : ℕ) (x y : ℤ) → InstrAt line at (I.Mod a b c) → Holds now b (cell.Int x) → Holds now c (cell.Int y)
        → step code input s ≡ divided a y (mod_down_of x y)
    unfolding act
    mod_does a b c x y i hb hc = does line at now held s (I.Mod a b c) h i ∙ two b c x y (λ u v. divided a v (mod_down_of u v)) hb hc

    -- ---- places

    pub local_step : (a b l : ℕ) → InstrAt line at (I.Local a b) → HasKind now a (slot.Place l)
        → Writes at now held s a (cell.Place (record { frame = length now - 1; slot = b; len = l }))
    unfolding act
    local_step a b l i kind =
        written_from at now held s a (cell.Place (record { frame = length now - 1; slot = b; len = l })) h
        (does line at now held s (I.Local a b) h i
        ∙ ap (λ o. to_place o (passed s) (λ m. quiet_step
        (with_slot (passed s) a (cell.Place (record { frame = length s.now - 1; slot = b; len = m })))))
        (ap (λ z. slice_get (last_frame z).kinds a) h.frames ∙ kind)
        ∙ ap (λ z. quiet_step (with_slot (passed s) a (cell.Place (record { frame = length z - 1; slot = b; len = l })))) h.frames)

    -- a slot of a frame holds this cell
    abbrev pub HoldsIn : (frame n : ℕ) → Cell → Type 0
    HoldsIn frame n c = slice_get (get_or now frame no_frame).cells n ≡ Some c

    link_is : (n f : ℕ) (k : ℕ → StepResult) → Holds now n (cell.Place (link_to f)) → link (passed s) n k ≡ k f
    link_is n f k hn = place_is now (passed s) n (link_to f) (λ p. k p.frame) h.frames hn

    held_is : (f n : ℕ) (q : CellPlace) (k : CellPlace → StepResult) → HoldsIn f n (cell.Place q)
        → as_place (slot_in (passed s) f n) (passed s) k ≡ k q
    held_is f n q k hn = ap (λ o. as_place o (passed s) k) (ap (λ z. slice_get (get_or z f no_frame).cells n) h.frames ∙ hn)

    link_put : (a q f : ℕ) → HasKind now a (slot.Link q)
        → put_link (passed s) a f ≡ quiet_step (with_slot (passed s) a (cell.Place (link_to f)))
    link_put a q f kind =
        ap (λ o. to_link o (passed s) (λ _. quiet_step (with_slot (passed s) a (cell.Place (link_to f)))))
        (ap (λ z. slice_get (last_frame z).kinds a) h.frames ∙ kind)

    pub place_put : (a l frame : ℕ) (first : ℕ → ℕ) → HasKind now a (slot.Place l)
        → put_place (passed s) a frame first ≡ quiet_step
        (with_slot (passed s) a (cell.Place (record { frame = frame; slot = first l; len = l })))
    place_put a l frame first kind =
        ap (λ o. to_place o (passed s) (λ m. quiet_step
        (with_slot (passed s) a (cell.Place (record { frame = frame; slot = first m; len = m })))))
        (ap (λ z. slice_get (last_frame z).kinds a) h.frames ∙ kind)

    -- a link to the frame itself, the link of another frame, its slots, and a place that it holds
    pub own_step : (a q : ℕ) → InstrAt line at (I.Own a) → HasKind now a (slot.Link q)
        → Writes at now held s a (cell.Place (link_to (length now - 1)))
    unfolding act
    own_step a q i kind =
        written_from at now held s a (cell.Place (link_to (length now - 1))) h
        (does line at now held s (I.Own a) h i ∙ link_put a q (length s.now - 1) kind
        ∙ ap (λ z. quiet_step (with_slot (passed s) a (cell.Place (link_to (length z - 1))))) h.frames)

    pub chain_step : (a b c f g q : ℕ) → InstrAt line at (I.Chain a b c) → HasKind now a (slot.Link q)
        → Holds now b (cell.Place (link_to f)) → HoldsIn f c (cell.Place (link_to g)) → Writes at now held s a (cell.Place (link_to g))
    unfolding act
    chain_step a b c f g q i kind hb hc =
        written_from at now held s a (cell.Place (link_to g)) h
        (does line at now held s (I.Chain a b c) h i
        ∙ link_is b f (λ x. as_place (slot_in (passed s) x c) (passed s) (λ p. put_link (passed s) a p.frame)) hb
        ∙ held_is f c (link_to g) (λ p. put_link (passed s) a p.frame) hc ∙ link_put a q g kind)

    pub outer_step : (a b c f l : ℕ) → InstrAt line at (I.Outer a b c) → HasKind now a (slot.Place l) → Holds now b (cell.Place (link_to f))
        → Writes at now held s a (cell.Place (record { frame = f; slot = c; len = l }))
    unfolding act
    outer_step a b c f l i kind hb =
        written_from at now held s a (cell.Place (record { frame = f; slot = c; len = l })) h
        (does line at now held s (I.Outer a b c) h i ∙ link_is b f (λ x. put_place (passed s) a x (λ _. c)) hb
        ∙ place_put a l f (λ _. c) kind)

    pub outer_same_step : (a b c f l : ℕ) (q : CellPlace) → InstrAt line at (I.OuterSame a b c) → HasKind now a (slot.Place l)
        → Holds now b (cell.Place (link_to f)) → HoldsIn f c (cell.Place q)
        → Writes at now held s a (cell.Place (record { frame = q.frame; slot = q.slot; len = l }))
    unfolding act
    outer_same_step a b c f l q i kind hb hc =
        written_from at now held s a (cell.Place (record { frame = q.frame; slot = q.slot; len = l })) h
        (does line at now held s (I.OuterSame a b c) h i
        ∙ link_is b f (λ x. as_place (slot_in (passed s) x c) (passed s) (λ p. put_place (passed s) a p.frame (λ _. p.slot))) hb
        ∙ held_is f c q (λ p. put_place (passed s) a p.frame (λ _. p.slot)) hc ∙ place_put a l q.frame (λ _. q.slot) kind)

    -- a cell of a live number slot
    abbrev pub HasContent : CellPlace → Cell → Type 0
    HasContent q c = (number_at now q.frame q.slot ≡ true) × (cell_at now q.frame q.slot cell.Unset ≡ c)

    pub loads : (a b : ℕ) (q : CellPlace) (c : Cell) → InstrAt line at (I.Load a b) → Holds now b (cell.Place q) → HasContent q c
        → step code input s ≡ as_content true c (passed s) (λ o. with_known_content (passed s) o (λ v. put_number (passed s) a v))
    unfolding act
    loads a b q c i hb hc =
        let k : Option ℤ → StepResult = λ o. with_known_content (passed s) o (λ v. put_number (passed s) a v) in
        does line at now held s (I.Load a b) h i
        ∙ place_is now (passed s) b q (λ p. content (passed s) p.frame p.slot k) h.frames hb
        ∙ ap (λ z. as_content (number_at z q.frame q.slot) (cell_at z q.frame q.slot cell.Unset) (passed s) k) h.frames
        ∙ ap (λ t. as_content t (cell_at now q.frame q.slot cell.Unset) (passed s) k) hc.0
        ∙ ap (λ x. as_content true x (passed s) k) hc.1

    pub load_step : (a b : ℕ) (q : CellPlace) (x : ℤ) → InstrAt line at (I.Load a b) → HasKind now a slot.Number
        → Holds now b (cell.Place q) → HasContent q (cell.Int x) → Writes at now held s a (cell.Int x)
    load_step a b q x i kind hb hc = puts at now held s a x h kind (loads a b q (cell.Int x) i hb hc)

    pub load_unknown : (a b : ℕ) (q : CellPlace) → InstrAt line at (I.Load a b) → Holds now b (cell.Place q) → HasContent q cell.Unknown
        → Faults line s fault.Unknown
    load_unknown a b q i hb hc = faults_now line s fault.Unknown (here_too i.on_line) (loads a b q cell.Unknown i hb hc)

    -- a number is stored at a place
    pub record Stores (q : CellPlace) (x : ℤ) : Type 0 where
      pub to : State
      pub silently : Silently code input 1 s to
      pub is : IsAt (at + 1) (frames_with_cell now q.frame q.slot (cell.Int x)) held to

    pub store_step : (a b : ℕ) (q : CellPlace) (x : ℤ) → InstrAt line at (I.Store a b) → Holds now a (cell.Place q)
        → Holds now b (cell.Int x) → number_at now q.frame q.slot ≡ true → Stores q x
    unfolding act
    store_step a b q x i ha hb live =
        let e : step code input s ≡ quiet_step (with_cell (passed s) q.frame q.slot (cell.Int x)) =
        does line at now held s (I.Store a b) h i
        ∙ place_is now (passed s) a q (λ p. number (passed s) b (λ v. store (passed s) p.frame p.slot v quiet_step)) h.frames ha
        ∙ number_is now (passed s) b x (λ v. store (passed s) q.frame q.slot v quiet_step) h.frames hb
        ∙ ap (λ z. if_true (number_at z q.frame q.slot) (λ _. quiet_step (with_cell (passed s) q.frame q.slot (cell.Int x)))
        (λ _. gets_stuck (passed s))) h.frames
        ∙ ap (λ t. if_true t (λ _. quiet_step (with_cell (passed s) q.frame q.slot (cell.Int x))) (λ _. gets_stuck (passed s))) live in
        record {
          to = with_cell (passed s) q.frame q.slot (cell.Int x);
          silently = went_on s (with_cell (passed s) q.frame q.slot (cell.Int x)) e;
          is = record {
            mode = h.mode;
            here = ap (λ n. n + 1) h.here;
            frames =
                ap (λ z. frames_with_cell z q.frame q.slot (cell.Int x)) h.frames;
            entries = h.entries;
          };
        }

    -- ---- jumps, failure, the end

    pub record Moves (to_at : ℕ) : Type 0 where
      pub to : State
      pub silently : Silently code input 1 s to
      pub is : IsAt to_at now held to

    pub moved_to : (to_at : ℕ) → step code input s ≡ quiet_step (record (passed s) { at = to_at }) → Moves to_at
    moved_to to_at e = record {
      to = record (passed s) { at = to_at };
      silently = went_on s (record (passed s) { at = to_at }) e;
      is = record { mode = h.mode; here = refl; frames = h.frames; entries = h.entries };
    }

    -- where the slot is 0 it jumps, and else it goes on
    pub zero_jumps : (a l : ℕ) (x : ℤ) → InstrAt line at (I.JumpZero a l) → Holds now a (cell.Int x) → is_zero x ≡ true → Moves l
    unfolding act
    zero_jumps a l x i ha zero_there =
        moved_to l
        (does line at now held s (I.JumpZero a l) h i
        ∙ number_is now (passed s) a x (λ v. if_true (is_zero v) (λ _. goes_to l (passed s)) (λ _. quiet_step (passed s))) h.frames ha
        ∙ ap (λ t. if_true t (λ _. goes_to l (passed s)) (λ _. quiet_step (passed s))) zero_there)

    pub other_goes_on : (a l : ℕ) (x : ℤ) → InstrAt line at (I.JumpZero a l) → Holds now a (cell.Int x) → is_zero x ≡ false → Moves (at + 1)
    unfolding act
    other_goes_on a l x i ha other =
        let e : step code input s ≡ quiet_step (passed s) =
        does line at now held s (I.JumpZero a l) h i
        ∙ number_is now (passed s) a x (λ v. if_true (is_zero v) (λ _. goes_to l (passed s)) (λ _. quiet_step (passed s))) h.frames ha
        ∙ ap (λ t. if_true t (λ _. goes_to l (passed s)) (λ _. quiet_step (passed s))) other in
        record {
          to = passed s;
          silently = went_on s (passed s) e;
          is =
              record { mode = h.mode; here = ap (λ n. n + 1) h.here; frames = h.frames; entries = h.entries };
        }

    pub record FailsNow : Type 0 where
      pub to : State
      pub silently : Silently code input 1 s to
      pub is : IsFailing held to

    pub fails_from : step code input s ≡ fails_now (passed s) → FailsNow
    fails_from e = record {
      to = record (passed s) { mode = Failing };
      silently = went_on s (record (passed s) { mode = Failing }) e;
      is = record { mode = refl; entries = h.entries };
    }

    pub check_fails : (a : ℕ) (x : ℤ) → InstrAt line at (I.Check a) → Holds now a (cell.Int x) → is_zero x ≡ true → FailsNow
    unfolding act
    check_fails a x i ha zero_there =
        fails_from
        (does line at now held s (I.Check a) h i
        ∙ number_is now (passed s) a x (λ v. if_true (is_zero v) (λ _. fails_now (passed s)) (λ _. quiet_step (passed s))) h.frames ha
        ∙ ap (λ t. if_true t (λ _. fails_now (passed s)) (λ _. quiet_step (passed s))) zero_there)

    pub check_passes : (a : ℕ) (x : ℤ) → InstrAt line at (I.Check a) → Holds now a (cell.Int x) → is_zero x ≡ false → Moves (at + 1)
    unfolding act
    check_passes a x i ha other =
        let e : step code input s ≡ quiet_step (passed s) =
        does line at now held s (I.Check a) h i
        ∙ number_is now (passed s) a x (λ v. if_true (is_zero v) (λ _. fails_now (passed s)) (λ _. quiet_step (passed s))) h.frames ha
        ∙ ap (λ t. if_true t (λ _. fails_now (passed s)) (λ _. quiet_step (passed s))) other in
        record {
          to = passed s;
          silently = went_on s (passed s) e;
          is =
              record { mode = h.mode; here = ap (λ n. n + 1) h.here; frames = h.frames; entries = h.entries };
        }

    pub fail_step : InstrAt line at I.Fail → FailsNow
    unfolding act
    fail_step i = fails_from (does line at now held s I.Fail h i)

    pub fault_step : (n : ℕ) (f : RunFault) → InstrAt line at (I.Fault n) → slice_get run_faults n ≡ Some f → Faults line s f
    unfolding act
    fault_step n f i e = faults_now line s f (here_too i.on_line)
        (does line at now held s (I.Fault n) h i ∙ ap (λ o. as_fault o (passed s)) e)

    -- with one frame a return ends the run in success
    pub return_ends : InstrAt line at I.Return → length now ≡ 1 → ((step code input s).state.mode ≡ Ended end.Succeeded)
        × ((step code input s).printed ≡ [])
    unfolding act
    return_ends i alone =
        let e : step code input s ≡ ends_run end.Succeeded (passed s) =
        does line at now held s I.Return h i
        ∙ ap (λ z. if_true (nat_eq (length z) 1) (λ _. ends_run end.Succeeded (passed s))
        (λ _. answers_return (state_after_leave (passed s)))) h.frames
        ∙ ap (λ n. if_true (nat_eq n 1) (λ _. ends_run end.Succeeded (passed s)) (λ _. answers_return (state_after_leave (passed s))))
        alone in
        (ap (λ x. x.state.mode) e, ap (λ x. x.printed) e)

    -- ---- prints

    pub record PrintsNow (bytes : List ℕ) : Type 0 where
      pub to : State
      pub prints : Prints code input bytes s to
      pub is : IsAt (at + 1) now held to

    pub prints_from : (bytes : List ℕ) → step code input s ≡ prints_bytes bytes (passed s) → PrintsNow bytes
    prints_from bytes e = record {
      to = passed s;
      prints = record { on = subst IsOn (sym h.mode) tt; leads = ap (λ x. x.state) e; printed = ap (λ x. x.printed) e };
      is = record { mode = h.mode; here = ap (λ n. n + 1) h.here; frames = h.frames; entries = h.entries };
    }

    pub write_int_step : (a : ℕ) (x : ℤ) → InstrAt line at (I.WriteInt a) → Holds now a (cell.Int x) → PrintsNow (value_text (value.Int x))
    unfolding act
    write_int_step a x i ha =
        prints_from (value_text (value.Int x))
        (does line at now held s (I.WriteInt a) h i
        ∙ number_is now (passed s) a x (λ v. prints_bytes (value_text (value.Int v)) (passed s)) h.frames ha)

    pub write_bool_step : (a : ℕ) (x : ℤ) → InstrAt line at (I.WriteBool a) → Holds now a (cell.Int x)
        → PrintsNow (value_text (value.Bool (not (is_zero x))))
    unfolding act
    write_bool_step a x i ha =
        prints_from (value_text (value.Bool (not (is_zero x))))
        (does line at now held s (I.WriteBool a) h i
        ∙ number_is now (passed s) a x (λ v. prints_bytes (value_text (value.Bool (not (is_zero v)))) (passed s)) h.frames ha)

    pub write_char_step : (a : ℕ) (x : ℤ) → InstrAt line at (I.WriteChar a) → Holds now a (cell.Int x)
        → PrintsNow (value_text (value.Char (nat_abs (int_rem_euclid x (pos 256)))))
    unfolding act
    write_char_step a x i ha =
        prints_from (value_text (value.Char (nat_abs (int_rem_euclid x (pos 256)))))
        (does line at now held s (I.WriteChar a) h i
        ∙ number_is now (passed s) a x (λ v. prints_bytes (value_text (value.Char (nat_abs (int_rem_euclid v (pos 256))))) (passed s))
        h.frames ha)

    pub write_line_step : InstrAt line at I.WriteLine → PrintsNow (10 ∷ [])
    unfolding act
    write_line_step i = prints_from (10 ∷ []) (does line at now held s I.WriteLine h i)
