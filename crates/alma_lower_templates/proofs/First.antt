-- A first operand that stays in its own slot: a variable of the routine, where the next operand is one too or a constant. It is
-- read by the instruction that takes both, and where it is unknown that instruction faults, whatever the next operand is.
use Rattle.std.proofs.Common.{◌≡◌, ℕ, suc, ◌+◌, ◌≤◌, Bool, true, false, List, ◌⊎◌, inl, inr, length, Option, Some, None, refl, sym, ap, ◌∙◌}
use Rattle.std.proofs.Common.{subst, arith, ℤ}
use Rattle.std.specs.Prelude.{slice_get}
use Rattle.alma_base.specs.declared.fault.RunFault.TheVariants as fault
use Rattle.alma_base.specs.Numbers.{is_integer}
use Rattle.alma_code.specs.declared.cell.Cell.TheVariants as cell
use Rattle.alma_code.specs.declared.cell.SlotKind.TheVariants as slot
use Rattle.alma_code.specs.declared.instr.Instr.TheVariants as I
use Rattle.alma_code.specs.Lines.{line_at}
use Rattle.alma_code.specs.Picture.{PlainFrame, PlainEntry}
use Rattle.alma_code.specs.Plain.{PlainCode, kinds_at}
use Rattle.alma_code.specs.Machine.{State}
use Rattle.alma_ir.specs.Tree.{Program, Expr, Links, Const, Load, Chain, Compare, Truth, Known, Chr, CallExpr, no_links, more_links}
use Rattle.alma_mean.specs.Store.{Store, Number, Unknown, top_cell}
use Rattle.alma_mean.specs.Events.{Events, Visit, Fail, Fault, one, join, bind, visit_each}
use Rattle.alma_mean.specs.Rows.{read_cell}
use Rattle.alma_mean.specs.Meaning.{Level, ev_expr}
use Rattle.alma_lower_implements.proofs.Goes.{weaker}
use Rattle.alma_lower_implements.proofs.Frames.{own_end, shift, IsAt}
use Rattle.alma_lower_implements.proofs.BareRow.{ReadsFirst, reads_unknown, bare_is}
use Rattle.alma_lower_implements.proofs.ExprRows.{AreVariables}
use Rattle.alma_lower_implements.proofs.ForSteps.{SlotThere, a_number, not_known, slot_there, number_there}
use Rattle.alma_lower_implements.proofs.Steps.{top_written, Holds, Faults, InstrAt, const_step}
use Rattle.alma_lower_implements.proofs.Ways.{Ways, Leaves}
use Rattle.alma_lower_templates.specs.Tables.{Tables}
use Rattle.alma_lower_templates.specs.Slots.{bare, bare_desig, is_given, is_ready, if_ready, stays_by, stays, stays_in, taken_from}
use Rattle.alma_lower_templates.specs.Slots.{unless_bare}
use Rattle.alma_lower_templates.specs.Templates.{slot_or, expr_code, value_at}
use Rattle.alma_lower_templates.specs.Stands.{Stands}
use Rattle.alma_lower_templates.proofs.Parts.{Begins, begins, Left, left_self, left_temp, holds_temp, has_kind, IsValue, From, Carries}
use Rattle.alma_lower_templates.proofs.Parts.{from_more, writes_take, step_ways, alone_from, faults_here}
use Rattle.alma_lower_templates.proofs.Fields.{load_from}
use Rattle.alma_lower_templates.proofs.AtOnce.{BareFits}

-- ---- what stays

-- an operand that is ready
pub data Ready (y : Expr) : Type 0 where
  constant : (n : ℤ) → y ≡ Const n → Ready y
  variable : (from : ℕ) → bare y ≡ Some from → Ready y

pub ready : (y : Expr) → is_ready y ≡ true → Ready y
ready (Const n) e = constant n refl
ready (Load d) e = by (bare_desig d) refl e
  where
    by : (o : Option ℕ) → bare_desig d ≡ o → is_given o ≡ true → Ready (Load d)
    by (Some from) is h = variable from is
    by None is h = absurd (let bad : false ≡ true = h in cc)
ready (Chain negated x links) e = absurd (let bad : false ≡ true = e in cc)
ready (Compare how x y) e = absurd (let bad : false ≡ true = e in cc)
ready (Truth t) e = absurd (let bad : false ≡ true = e in cc)
ready (Known d) e = absurd (let bad : false ≡ true = e in cc)
ready (Chr x) e = absurd (let bad : false ≡ true = e in cc)
ready (CallExpr q args up) e = absurd (let bad : false ≡ true = e in cc)

-- a first operand that stays is a variable, and the next one is ready
pub record Stays (x y : Expr) (from : ℕ) : Type 0 where
  pub first : bare x ≡ Some from
  pub next : Ready y

pub stays_is : (x y : Expr) (from : ℕ) → stays x y ≡ Some from → Stays x y from
stays_is x y from e = by (bare x) refl e
  where
    by_next : (n : ℕ) (z : Bool) → bare x ≡ Some n → is_ready y ≡ z → if_ready z n ≡ Some from → Stays x y from
    by_next n true is there h = let same : n ≡ from = cc in record { first = is ∙ ap Some same; next = ready y there }
    by_next n false is there h = absurd (cc)

    by : (o : Option ℕ) → bare x ≡ o → stays_by o y ≡ Some from → Stays x y from
    by (Some n) is h = by_next n (is_ready y) is refl h
    by None is h = absurd (cc)

-- what is so of no slot and of that of the first operand
pub as_stays : (P : Option ℕ → Type 0) (x y : Expr) → P None → P (bare x) → P (stays x y)
as_stays P x y none there = by (bare x) there
  where
    by_next : (z : Bool) (n : ℕ) → P (Some n) → P (if_ready z n)
    by_next true n h = h
    by_next false n h = none

    by : (o : Option ℕ) → P o → P (stays_by o y)
    by (Some n) h = by_next (is_ready y) n h
    by None h = none

pub as_stays_in : (P : Option ℕ → Type 0) (negated : Bool) (x : Expr) (links : Links) → P None → P (bare x) → P (stays_in negated x links)
as_stays_in P true x links none there = none
as_stays_in P false x no_links none there = none
as_stays_in P false x (more_links how y rest) none there = as_stays P x y none there

pub as_taken : (P : Option ℕ → Type 0) (negated : Bool) (x : Expr) (links : Links) → P None → P (bare x) → P (taken_from negated x links)
as_taken P true x links none there = there
as_taken P false x links none there = as_stays_in P false x links none there

-- ---- how it is read

module _ (code : PlainCode) (input : List ℕ) where
  -- an instruction reads two number slots, one after the other
  pub record ReadsPair (at a b : ℕ) (now : List PlainFrame) : Type 0 where
    pub one : ReadsFirst code input at a now
    pub other : (n : ℤ) → Holds now a (cell.Int n) → ReadsFirst code input at b now

  -- in this order or in the other
  abbrev pub ReadsBoth : (at a b : ℕ) → List PlainFrame → Type 0
  ReadsBoth at a b now = ReadsPair at a b now ⊎ ReadsPair at b a now

  pub second_reads : (at a b : ℕ) (now : List PlainFrame) (n : ℤ) → ReadsBoth at a b now → Holds now a (cell.Int n)
      → ReadsFirst code input at b now
  second_reads at a b now n (inl h) there = h.other n there
  second_reads at a b now n (inr h) there = h.one

  -- where the first is unknown it faults, whatever the second is
  pub first_known : (at a b : ℕ) (now : List PlainFrame) (n : ℤ) → ReadsBoth at a b now → Holds now b (cell.Int n)
      → ReadsFirst code input at a now
  first_known at a b now n (inl h) there = h.one
  first_known at a b now n (inr h) there = h.other n there

  pub both_unknown : (line at a b : ℕ) (now : List PlainFrame) → ReadsBoth at a b now → line_at code at ≡ line → Holds now a cell.Unknown
      → Holds now b cell.Unknown → (held : List PlainEntry) (s : State) → IsAt at now held s → Faults code input line s fault.Unknown
  both_unknown line at a b now (inl h) there first second held s is = reads_unknown code input line at a now held s h.one is there first
  both_unknown line at a b now (inr h) there first second held s is = reads_unknown code input line at b now held s h.one is there second

-- ---- how it goes

module _ (p : Program) (tables : Tables) (code : PlainCode) (input : List ℕ) (below : Level) (r line q : ℕ) where
  -- the number of a constant is one of INTEGER
  abbrev pub ConstantFits : Expr → Type 0
  ConstantFits y = (n : ℤ) → y ≡ Const n → is_integer n ≡ true

  -- a variable, in words of the store
  pub variable_from : {B : Type 0} (at exit from : ℕ) (x : Expr) (v : Store) (now : List PlainFrame) (w : Ways B) (k : Store → ℤ → Events B)
      → bare x ≡ Some from → AreVariables p code input r from 1 → Begins p code input r v now
      → (top_cell v from ≡ Unknown → From p code input line 8 at exit now w (Fault fault.Unknown 0) q)
      → ((n : ℤ) → top_cell v from ≡ Number n → From p code input line 8 at exit now w (k v n) q)
      → From p code input line 0 at exit now w (bind (ev_expr p input below x v) k) q
  variable_from at exit from x v now w k is variables b unknown known =
      load_from p code input line at exit now w below v from q x k is
      (λ size. subst (λ e. From p code input line 0 at exit now w (bind e k) q) (sym (bare_is code input p below from size v))
      (by (slot_there p code input r from variables v now b.stand b.routine)))
    where
      -- a number comes behind four visits, which pay for 128 steps; a fault behind three, which pay for 96
      by : SlotThere p code input v now from (shift p r + from)
          → From p code input line 0 at exit now w
          (bind (Visit (Visit (Visit (visit_each (join (read_cell (top_cell v from) (λ n. one v n)) Fail))))) k) q
      by (a_number x e hold integer) =
          subst (λ c. From p code input line 0 at exit now w
          (bind (Visit (Visit (Visit (visit_each (join (read_cell c (λ n. one v n)) Fail))))) k) q) (sym e)
          (λ held s is. weaker code input line 0 24 (Leaves exit w) held (join (k v x) Fail) s 128 8 q q (omega arith) (omega arith)
          (alone_from p code input line 8 at exit now w (k v x) q (known x e) held s is))
      by (not_known e hold) =
          subst (λ c. From p code input line 0 at exit now w
          (bind (Visit (Visit (Visit (visit_each (join (read_cell c (λ n. one v n)) Fail))))) k) q) (sym e)
          (λ held s is. weaker code input line 0 24 (Leaves exit w) held (Fault fault.Unknown 0) s 96 8 q q (omega arith) (omega arith)
          (unknown e held s is))

  -- a constant: its instruction, and what is behind it
  pub constant_from : {B : Type 0} (at exit : ℕ) (n : ℤ) (v : Store) (now : List PlainFrame) (w : Ways B) (k : Store → ℤ → Events B)
      → From p code input line 9 at exit now w (k v n) q
      → From p code input line 0 at exit now w (bind (ev_expr p input below (Const n) v) k) q
  unfolding ev_expr
  constant_from at exit n v now w k later held s is =
      weaker code input line 0 24 (Leaves exit w) held (join (k v n) Fail) s 64 9 q q (omega arith) (omega arith)
      (alone_from p code input line 9 at exit now w (k v n) q later held s is)

  -- a slot of the routine, in words of the store
  pub unknown_there : (from : ℕ) (v : Store) (t : List PlainFrame) → AreVariables p code input r from 1 → Begins p code input r v t
      → top_cell v from ≡ Unknown → Holds t (shift p r + from) cell.Unknown
  unknown_there from v t variables b e = by (slot_there p code input r from variables v t b.stand b.routine)
    where
      by : SlotThere p code input v t from (shift p r + from) → Holds t (shift p r + from) cell.Unknown
      by (not_known f hold) = hold
      by (a_number x f hold integer) = absurd (let bad : Unknown ≡ Number x = sym e ∙ f in cc)

  pub value_there : (from : ℕ) (v : Store) (n : ℤ) (t : List PlainFrame) → AreVariables p code input r from 1 → Begins p code input r v t
      → top_cell v from ≡ Number n → IsValue p code input (shift p r + from) n t
  value_there from v n t variables b e = let z = number_there p code input r from variables v t b.stand b.routine n e in
      record { holds = z.0; integer = z.1 }

  -- both operands, and the instruction that takes them
  module _ {B : Type 0} (exit lo la from : ℕ) (v : Store) (now : List PlainFrame) (w : List PlainFrame → Ways B)
      (k : Store → ℤ → ℤ → Events B) (le : lo ≤ la) (own : own_end p r ≤ lo) (carries : Carries p code input lo r w)
      (b : Begins p code input r v now) (first : AreVariables p code input r from 1) where
    -- behind both: the instruction at an address reads them, and with both known the phrase goes on
    pub record Behind (m operand : ℕ) : Type 0 where
      pub on_line : line_at code m ≡ line
      pub reads : (t : List PlainFrame) → ReadsBoth code input m (shift p r + from) operand t
      pub goes : (n z : ℤ) (t : List PlainFrame) → Left p code input lo r now v t → IsValue p code input (shift p r + from) n t
          → IsValue p code input operand z t
          → From p code input line 8 m exit t (w t) (k v n z) q

    -- how the phrase goes on behind the first is said in words of the next
    abbrev pub Follows : (at : ℕ) → (y : Expr) → (Store → ℤ → Events B) → Type 0
    Follows at y k1 = (n : ℤ) → From p code input line 8 at exit now (w now) (bind (ev_expr p input below y v) (λ u z. k u n z)) q
        → From p code input line 8 at exit now (w now) (k1 v n) q

    abbrev BothGo : (at : ℕ) → (x y : Expr) → Type 0
    BothGo at x y = (k1 : Store → ℤ → Events B) → Follows at y k1
        → From p code input line 0 at exit now (w now) (bind (ev_expr p input below x v) k1) q

    -- a constant goes into a slot, and the phrase goes on
    constant_then : (c at : ℕ) (z : ℤ) (e : Events B) → is_integer z ≡ true → slice_get (kinds_at code r) la ≡ Some slot.Number
        → InstrAt code input line at (I.Const la z)
        → ((t : List PlainFrame) → Left p code input lo r now v t → IsValue p code input la z t
        → From p code input line c (at + 1) exit t (w t) e q)
        → From p code input line (suc c) at exit now (w now) e q
    constant_then c at z e integer kind i later =
        let t : List PlainFrame = top_written now la (cell.Int z) in
        let left = left_temp p code input lo r la v now (cell.Int z) le (omega (arith, own, le)) b in
        step_ways p code input line c at (at + 1) exit lo r v now t w e q carries
        (writes_take p code input at la now (cell.Int z)
        (λ held s is. const_step code input line at now held s is la z i (has_kind p code input r la v now slot.Number kind b))) left
        (later t left (record { holds = holds_temp p code input r la v now (cell.Int z) slot.Number kind b; integer = integer }))

    both_constant : (at : ℕ) (x : Expr) (z : ℤ) → bare x ≡ Some from → is_integer z ≡ true
        → slice_get (kinds_at code r) la ≡ Some slot.Number
        → InstrAt code input line at (I.Const la z) → Behind (at + 1) la
        → BothGo at x (Const z)
    both_constant at x z is integer kind i behind k1 follows =
        variable_from at exit from x v now (w now) k1 is first b
        (λ none. constant_then 7 at z (Fault fault.Unknown 0) integer kind i
        (λ t left value. faults_here p code input line 6 (at + 1) exit t (w t) fault.Unknown q
        (λ held s is. reads_unknown code input line (at + 1) (shift p r + from) t held s
        (first_known code input (at + 1) (shift p r + from) la t z (behind.reads t) value.holds) is behind.on_line
        (unknown_there from v t first (begins p code input lo r now v t left) none))))
        (λ n known. follows n (from_more p code input line 0 8 at exit now (w now)
        (bind (ev_expr p input below (Const z) v) (λ u x. k u n x)) q (omega arith)
        (constant_from at exit z v now (w now) (λ u x. k u n x)
        (constant_then 8 at z (k v n z) integer kind i
        (λ t left value. behind.goes n z t left (value_there from v n t first (begins p code input lo r now v t left) known) value)))))

    both_variables : (at to : ℕ) (x y : Expr) → bare x ≡ Some from → bare y ≡ Some to → AreVariables p code input r to 1
        → Behind at (shift p r + to) → BothGo at x y
    both_variables at to x y x_is y_is second behind k1 follows =
        variable_from at exit from x v now (w now) k1 x_is first b
        (λ none. faults_here p code input line 7 at exit now (w now) fault.Unknown q
        (faults (unknown_there from v now first b none) (slot_there p code input r to second v now b.stand b.routine)))
        (λ n known. follows n (from_more p code input line 0 8 at exit now (w now)
        (bind (ev_expr p input below y v) (λ u z. k u n z)) q (omega arith)
        (let value = value_there from v n now first b known in
        variable_from at exit to y v now (w now) (λ u z. k u n z) y_is second b
        (λ none. faults_here p code input line 7 at exit now (w now) fault.Unknown q
        (λ held s is. reads_unknown code input line at (shift p r + to) now held s
        (second_reads code input at (shift p r + from) (shift p r + to) now n (behind.reads now) value.holds) is behind.on_line
        (unknown_there to v now second b none)))
        (λ z known2. behind.goes n z now (left_self p code input lo r v now b) value (value_there to v z now second b known2)))))
      where
        faults : Holds now (shift p r + from) cell.Unknown → SlotThere p code input v now to (shift p r + to)
            → (held : List PlainEntry) (s : State) → IsAt at now held s → Faults code input line s fault.Unknown
        faults hold (a_number z e there integer) held s is =
            reads_unknown code input line at (shift p r + from) now held s
            (first_known code input at (shift p r + from) (shift p r + to) now z (behind.reads now) there) is behind.on_line hold
        faults hold (not_known e there) held s is =
            both_unknown code input line at (shift p r + from) (shift p r + to) now (behind.reads now) behind.on_line hold there held s is

    -- the code of the next operand, and what is behind it
    pub both_from : (at : ℕ) (x y : Expr) → Stays x y from → BareFits p tables code input below r line q (bare y) → ConstantFits y
        → (bare y ≡ None → slice_get (kinds_at code r) la ≡ Some slot.Number)
        → Stands code at (unless_bare (bare y) (expr_code p tables r line at la y))
        → Behind (at + length (unless_bare (bare y) (expr_code p tables r line at la y))) (value_at p tables r la y) → BothGo at x y
    both_from at x y h fits constants kind stands behind =
        by h.next
      where
        zero_on : at + 0 ≡ at
        zero_on = omega arith

        by : Ready y → BothGo at x y
        by (constant n is) =
            let there = subst (λ e. Stands code at (unless_bare (bare e) (expr_code p tables r line at la e))) is stands in
            subst (λ e. BothGo at x e) (sym is)
            (both_constant at x n h.first (constants n is) (kind (ap bare is))
            (record { instr = there.0; on_line = there.1 })
            (subst (λ e. Behind (at + length (unless_bare (bare e) (expr_code p tables r line at la e))) (value_at p tables r la e)) is
            behind))
        by (variable to is) =
            both_variables at to x y h.first is (subst (BareFits p tables code input below r line q) is fits)
            (subst (λ m. Behind m (shift p r + to)) zero_on
            (subst (λ o. Behind (at + length (unless_bare o (expr_code p tables r line at la y))) (slot_or p tables r o la)) is behind))
