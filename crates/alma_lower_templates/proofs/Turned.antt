-- The condition of WHILE that stands behind the body: a simple comparison, whose opposite is tested by a jump back to the body.
use Rattle.std.proofs.Common.{◌≡◌, ℕ, ◌+◌, ◌<◌, ◌≤◌, Bool, true, false, not, ◌&&◌, List, [], ◌∷◌, ◌++◌, inl, inr, length, Option}
use Rattle.std.proofs.Common.{Some, None, refl, sym, ap, ◌∙◌, subst, arith, ℤ, append_assoc, append-nil}
use Rattle.std.specs.Prelude.{slice_get, int_lt, int_le}
use Rattle.std.proofs.lemmas.Bool.{and_parts}
use Rattle.std.proofs.lemmas.Int.{ints}
use Rattle.std.proofs.lemmas.List.{length-append}
use Rattle.alma_base.specs.Numbers.{is_zero, int_eq, bit}
use Rattle.alma_code.specs.declared.cell.Cell.TheVariants as cell
use Rattle.alma_code.specs.declared.cell.SlotKind.TheVariants as slot
use Rattle.alma_code.specs.declared.instr.Instr.TheVariants as I
use Rattle.alma_code.specs.Picture.{PlainFrame, PlainEntry}
use Rattle.alma_code.specs.Plain.{PlainCode, kinds_at}
use Rattle.alma_code.specs.Machine.{State}
use Rattle.alma_ir.specs.declared.phrase.Cmp.{Cmp}
use Rattle.alma_ir.specs.declared.phrase.Cmp.TheVariants as cmp
use Rattle.alma_ir.specs.Tree.{Program, Stmts, Expr, Test, Const, Load, Chain, Compare, Truth, Known, Chr, CallExpr, Value, Bind, Unify}
use Rattle.alma_ir.specs.Tree.{SameCells}
use Rattle.alma_ir.specs.Tree.{Seq, And, Or, Not, CallTest}
use Rattle.alma_mean.specs.Store.{Store}
use Rattle.alma_mean.specs.Events.{Events, NoYield, one, bind}
use Rattle.alma_mean.specs.Arithmetic.{compares}
use Rattle.alma_mean.specs.Meaning.{Level, ev_test, ev_expr}
use Rattle.alma_lower_implements.proofs.Frames.{own_end, HasSlots, IsAt}
use Rattle.alma_lower_implements.proofs.Numbers.{bit_integer, zero_bit}
use Rattle.alma_lower_implements.proofs.Steps.{Holds, Writes, InstrAt, equal_step, less_step, less_eq_step}
use Rattle.alma_lower_implements.proofs.TurnRow.{Decides, turned_decides}
use Rattle.alma_lower_templates.specs.LineInstr.{LineInstr, own, in_row}
use Rattle.alma_lower_templates.specs.Tables.{Tables}
use Rattle.alma_lower_templates.specs.Slots.{bare, stays, is_simple, is_simple_expr, is_turned, by_turn, has_opposite, expr_slots}
use Rattle.alma_lower_templates.specs.Slots.{behind_expr, behind_stmts, behind_condition, behind_held, held_constant, constant, unless_bare}
use Rattle.alma_lower_templates.specs.Slots.{stays_by}
use Rattle.alma_lower_templates.specs.Pieces.{condition, guard_code, turned_loop, opposite_code, unless_constant, held_code, held_or}
use Rattle.alma_lower_templates.specs.Templates.{stmts_code, test_code, jump_code, back_code, expr_code, slot_or, value_at}
use Rattle.alma_lower_templates.specs.Stands.{Stands}
use Rattle.alma_lower_templates.proofs.Stands.{stands_front, stands_back}
use Rattle.alma_lower_templates.proofs.Parts.{Begins, begins, Left, has_kind, holds_after, IsValue, From, leaving, as_runs, node_runs}
use Rattle.alma_lower_templates.proofs.Parts.{from_more, ends_here, value_goes_on}
use Rattle.alma_lower_templates.proofs.Tested.{compared_code}
use Rattle.alma_lower_templates.proofs.AtOnce.{BareFits, at_once}
use Rattle.alma_lower_templates.proofs.Bounds.{constant_is}
use Rattle.alma_lower_templates.proofs.First.{ReadsBoth, first_known, constant_from}
use Rattle.alma_lower_templates.proofs.OperatorParts.{equal_reads, less_reads, less_eq_reads}
use Rattle.alma_lower_templates.proofs.ExprForms.{NextRuns, ContraryIn, compared_by, first_slot}
use Rattle.alma_lower_templates.proofs.SimpleOne.{expr_one}
use Rattle.alma_lower_templates.proofs.FormRuns.{ExprRuns}

-- a condition that is tested behind the body, in its parts
pub data Turned (t : Test) : Type 0 where
  compares_two :
      (how : Cmp) (x y : Expr) → t ≡ Value (Compare how x y) → has_opposite how ≡ true → is_simple_expr (Compare how x y) ≡ true → Turned t

pub turned : (t : Test) → is_turned t ≡ true → Turned t
turned (Value (Compare how x y)) e =
    let z = and_parts (has_opposite how) (is_simple_expr x && is_simple_expr y) e in compares_two how x y refl z.0 z.1
turned (Value (Const n)) e = absurd (let bad : false ≡ true = e in cc)
turned (Value (Load d)) e = absurd (let bad : false ≡ true = e in cc)
turned (Value (Chain negated x links)) e = absurd (let bad : false ≡ true = e in cc)
turned (Value (Truth t)) e = absurd (let bad : false ≡ true = e in cc)
turned (Value (Known d)) e = absurd (let bad : false ≡ true = e in cc)
turned (Value (Chr x)) e = absurd (let bad : false ≡ true = e in cc)
turned (Value (CallExpr called args up)) e = absurd (let bad : false ≡ true = e in cc)
turned (Bind d x range left) e = absurd (let bad : false ≡ true = e in cc)
turned (Unify d range x range') e = absurd (let bad : false ≡ true = e in cc)
turned (SameCells d x) e = absurd (let bad : false ≡ true = e in cc)
turned (Seq x) e = absurd (let bad : false ≡ true = e in cc)
turned (And ts) e = absurd (let bad : false ≡ true = e in cc)
turned (Or ts) e = absurd (let bad : false ≡ true = e in cc)
turned (Not t) e = absurd (let bad : false ≡ true = e in cc)
turned (CallTest called args up) e = absurd (let bad : false ≡ true = e in cc)

module _ (p : Program) (tables : Tables) (r : ℕ) where
  -- the code of WHILE, by where its condition stands
  abbrev pub while_code : (behind : Bool) → (line at lo : ℕ) → Test → Stmts → List LineInstr
  while_code behind line at lo t body = by_turn behind
      (in_row at (own line (held_code (held_constant t) lo))
      (λ at. turned_loop line at (stmts_code p tables r (at + 1) (behind_held p r lo t) body)
      (λ next. back_code p tables r line next (behind_stmts p r (behind_held p r lo t) body) lo (at + 1) t)))
      (own line (I.Jump (at + 1) ∷ []) ++ (guard_code (at + 1) 1
      (λ none. condition (is_simple t) line (at + 1) lo none (λ at lo none. jump_code p tables r line at lo none t)
      (λ at lo. test_code p tables r line at lo t)) (λ next. stmts_code p tables r next (behind_condition p r lo t) body)
      ++ own line (I.Jump (at + 1) ∷ [])))

  -- ---- the comparison behind the body, by the constant that is held

  abbrev pub back_operands : (o : Option ℤ) → (line at lo : ℕ) → (x y : Expr) → List LineInstr
  back_operands o line at lo x y =
      in_row at (unless_bare (stays x y) (expr_code p tables r line at lo x))
      (λ next. unless_constant o (unless_bare (bare y) (expr_code p tables r line next (behind_expr p r lo x) y)))

  abbrev pub back_made : (o : Option ℤ) → (line at lo held top : ℕ) → Cmp → (x y : Expr) → List LineInstr
  back_made o line at lo held top how x y =
      back_operands o line at lo x y
      ++ own line (opposite_code how lo (slot_or p tables r (stays x y) lo) (held_or o held (value_at p tables r (behind_expr p r lo x) y))
      ∷ I.JumpZero lo top ∷ [])

  -- with a constant, what is left is the first operand and the comparison
  abbrev pub held_back : (line at lo held top : ℕ) → Cmp → (x : Expr) → List LineInstr
  held_back line at lo held top how x =
      unless_bare (bare x) (expr_code p tables r line at lo x)
      ++ own line (opposite_code how lo (value_at p tables r lo x) held ∷ I.JumpZero lo top ∷ [])

  pub held_is : (line at lo held top : ℕ) (how : Cmp) (x : Expr) (n : ℤ)
      → back_code p tables r line at lo held top (Value (Compare how x (Const n))) ≡ held_back line at lo held top how x
  held_is line at lo held top how x n =
      ap (λ o. (unless_bare o (expr_code p tables r line at lo x) ++ [])
      ++ own line (opposite_code how lo (slot_or p tables r o lo) held ∷ I.JumpZero lo top ∷ [])) (by (bare x))
      ∙ ap (λ made. made ++ own line (opposite_code how lo (value_at p tables r lo x) held ∷ I.JumpZero lo top ∷ []))
      (append-nil (unless_bare (bare x) (expr_code p tables r line at lo x)))
    where
      by : (o : Option ℕ) → stays_by o (Const n) ≡ o
      by (Some from) = refl
      by None = refl

-- ---- the opposite of a comparison

not_twice : (t : Bool) → not (not t) ≡ t
not_twice true = refl
not_twice false = refl

-- it is at most the other one where it is not below it
not_less : (a b : ℤ) → int_le b a ≡ not (int_lt a b)
not_less a b = by (int_le b a) (int_lt a b) refl refl
  where
    by : (t u : Bool) → int_le b a ≡ t → int_lt a b ≡ u → t ≡ not u
    by true false e d = refl
    by false true e d = refl
    by true true e d = absurd (omega (arith, ints))
    by false false e d = absurd (omega (arith, ints))

not_less_eq : (a b : ℤ) → int_lt b a ≡ not (int_le a b)
not_less_eq a b = sym (ap not (not_less b a) ∙ not_twice (int_lt b a))

module _ (code : PlainCode) (input : List ℕ) (line lo : ℕ) where
  -- both operands are read, one after the other
  opposite_reads : (how : Cmp) (at first operand : ℕ) (now : List PlainFrame)
      → Stands code at (own line (opposite_code how lo first operand ∷ [])) → ReadsBoth code input at first operand now
  opposite_reads cmp.Equal at a o now i = inl (equal_reads code input line lo at a o now (record { instr = i.0; on_line = i.1 }))
  opposite_reads cmp.Unequal at a o now i = inl (equal_reads code input line lo at a o now (record { instr = i.0; on_line = i.1 }))
  opposite_reads cmp.Less at a o now i = inr (less_eq_reads code input line lo at o a now (record { instr = i.0; on_line = i.1 }))
  opposite_reads cmp.LessEq at a o now i = inr (less_reads code input line lo at o a now (record { instr = i.0; on_line = i.1 }))
  opposite_reads cmp.Greater at a o now i = inl (less_eq_reads code input line lo at a o now (record { instr = i.0; on_line = i.1 }))
  opposite_reads cmp.GreaterEq at a o now i = inl (less_reads code input line lo at a o now (record { instr = i.0; on_line = i.1 }))

-- ---- the constant that is held before a loop

module _ (p : Program) (code : PlainCode) (input : List ℕ) (r : ℕ) where
  -- it stands in its slot, before those of the loop
  pub record HoldsBelow (held lo : ℕ) (n : ℤ) (now : List PlainFrame) : Type 0 where
    pub behind : own_end p r ≤ held
    pub under : held < lo
    pub holds : Holds now held (cell.Int n)

  abbrev pub IsHeld : Option ℤ → (held lo : ℕ) → List PlainFrame → Type 0
  IsHeld (Some n) held lo now = HoldsBelow held lo n now
  IsHeld None held lo now = Unit {0}

  -- what stands further behind keeps it too
  pub held_up : (o : Option ℤ) (held lo la : ℕ) (now : List PlainFrame) → lo ≤ la → IsHeld o held lo now → IsHeld o held la now
  held_up (Some n) held lo la now le h = record { behind = h.behind; under = omega (arith, h.under, le); holds = h.holds }
  held_up None held lo la now le h = tt

  pub held_after : (o : Option ℤ) (held lo : ℕ) (v w : Store) (now later : List PlainFrame) → Begins p code input r v now
      → Left p code input lo r now w later → IsHeld o held lo now → IsHeld o held lo later
  held_after (Some n) held lo v w now later b left h = record {
    behind = h.behind;
    under = h.under;
    holds = holds_after p code input lo r held (cell.Int n) v w now later b h.behind h.under left h.holds;
  }
  held_after None held lo v w now later b left h = tt

module _ (p : Program) (tables : Tables) (code : PlainCode) (input : List ℕ) (below : Level) (r line q : ℕ) where
  module _ (at lo : ℕ) (behind : own_end p r ≤ lo) (kind : slice_get (kinds_at code r) lo ≡ Some slot.Number) (v : Store)
      (now : List PlainFrame) (b : Begins p code input r v now) where
    -- the slot gets the number of what is not said
    contrary_ends : (z said : Bool) → z ≡ not said
        → ((held : List PlainEntry) (s : State) → IsAt at now held s → Writes code input at now held s lo (cell.Int (bit z)))
        → From p code input line 8 at (at + 1) now (leaving p code input lo r now (ContraryIn p tables code input below r line q lo))
        (one v (bit said)) q
    contrary_ends z said is writes =
        let same : bit z ≡ bit (is_zero (bit said)) = ap bit (is ∙ sym (zero_bit said)) in
        value_goes_on p code input line 7 at (at + 1) lo r v now (bit z) (ContraryIn p tables code input below r line q lo)
        (one v (bit said))
        q behind kind (bit_integer z) b writes
        (λ t left value. ends_here p code input line 7 (at + 1) lo r v t (ContraryIn p tables code input below r line q lo) (bit said) q
        (begins p code input lo r now v t left) (subst (λ c. IsValue p code input lo c t) same value))

    opposite_ends : (how : Cmp) (first operand : ℕ) (x y : ℤ) → has_opposite how ≡ true
        → Stands code at (own line (opposite_code how lo first operand ∷ [])) → Holds now first (cell.Int x)
        → Holds now operand (cell.Int y)
        → From p code input line 8 at (at + 1) now (leaving p code input lo r now (ContraryIn p tables code input below r line q lo))
        (one v (bit (compares how x y))) q
    opposite_ends cmp.Equal a o x y e i hx hy = absurd (let bad : false ≡ true = e in cc)
    opposite_ends cmp.Unequal a o x y e i hx hy =
        contrary_ends (int_eq x y) (not (int_eq x y)) (sym (not_twice (int_eq x y)))
        (λ held s is. equal_step code input line at now held s is lo a o x y (record { instr = i.0; on_line = i.1 })
        (has_kind p code input r lo v now slot.Number kind b) hx hy)
    opposite_ends cmp.Less a o x y e i hx hy =
        contrary_ends (int_le y x) (int_lt x y) (not_less x y)
        (λ held s is. less_eq_step code input line at now held s is lo o a y x (record { instr = i.0; on_line = i.1 })
        (has_kind p code input r lo v now slot.Number kind b) hy hx)
    opposite_ends cmp.LessEq a o x y e i hx hy =
        contrary_ends (int_lt y x) (int_le x y) (not_less_eq x y)
        (λ held s is. less_step code input line at now held s is lo o a y x (record { instr = i.0; on_line = i.1 })
        (has_kind p code input r lo v now slot.Number kind b) hy hx)
    opposite_ends cmp.Greater a o x y e i hx hy =
        contrary_ends (int_le x y) (int_lt y x) (not_less y x)
        (λ held s is. less_eq_step code input line at now held s is lo a o x y (record { instr = i.0; on_line = i.1 })
        (has_kind p code input r lo v now slot.Number kind b) hx hy)
    opposite_ends cmp.GreaterEq a o x y e i hx hy =
        contrary_ends (int_lt x y) (int_le y x) (not_less_eq y x)
        (λ held s is. less_step code input line at now held s is lo a o x y (record { instr = i.0; on_line = i.1 })
        (has_kind p code input r lo v now slot.Number kind b) hx hy)

  -- ---- what such a condition decides

  -- it goes back to `top` with what the test left, and behind its code in the store on entry
  abbrev pub GoesBack : (at lo held top : ℕ) → Test → (Store → Events NoYield) → (d : ℕ) → Type 1
  GoesBack at lo held top t cond d =
      (v : Store) (now : List PlainFrame) → Begins p code input r v now → IsHeld p code input r (held_constant t) held lo now
      → Stands code at (back_code p tables r line at lo held top t)
      → Decides code input line at top (at + length (back_code p tables r line at lo held top t)) now (cond v)
      (λ u t2. Left p code input lo r now u t2) (λ t2. Left p code input lo r now v t2) d

  -- with a constant that is held
  goes_held : (at lo held top : ℕ) (how : Cmp) (x : Expr) (n : ℤ) → has_opposite how ≡ true
      → HasSlots p code r lo (expr_slots p r (Compare how x (Const n))) → is_simple_expr (Compare how x (Const n)) ≡ true
      → ExprRuns p tables code input below r line q at lo x → BareFits p tables code input below r line q (bare x)
      → GoesBack at lo held top (Value (Compare how x (Const n))) (ev_test p input below (Value (Compare how x (Const n)))) q
  unfolding ev_expr
  goes_held at lo held top how x n opposite slots simple runs fits v now b is_held stands =
      let y : Expr = Compare how x (Const n) in
      let kind = first_slot p code input r lo y slots in
      let made : List LineInstr = unless_bare (bare x) (expr_code p tables r line at lo x) in
      let first : ℕ = value_at p tables r lo x in
      let last : List LineInstr = own line (opposite_code how lo first held ∷ I.JumpZero lo top ∷ []) in
      let is = held_is p tables r line at lo held top how x n in
      let there : Stands code at (made ++ last) = subst (Stands code at) is stands in
      let m : ℕ = at + length made in
      let back = stands_back code at made last there in
      let said : Stands code m (own line (opposite_code how lo first held ∷ [])) = (back.0, back.1, tt) in
      let whole : length (made ++ last) ≡ length made + 2 = length-append made last in
      let same = ap length is in
      let end : m + 1 + 1 ≡ at + length (back_code p tables r line at lo held top (Value y)) = omega (arith, whole, same) in
      let wv = leaving p code input lo r now (ContraryIn p tables code input below r line q lo) in
      subst (λ a. Decides code input line at top a now (ev_test p input below (Value y) v)
      (λ u t2. Left p code input lo r now u t2) (λ t2. Left p code input lo r now v t2) q) end
      (turned_decides code input line at (m + 1) top lo now v (ev_expr p input below y v) wv
      (λ u t2. Left p code input lo r now u t2) (λ t2. Left p code input lo r now v t2) q (expr_one p input below y v simple)
      (as_runs p code input line at (m + 1) now wv (ev_expr p input below y v) q
      (node_runs p code input line 0 at (m + 1) now wv
      (bind (ev_expr p input below x v) (λ t a. bind (ev_expr p input below (Const n) t) (λ u z. one u (bit (compares how a z))))) q
      (omega arith)
      (at_once p tables code input below r line q (m + 1) lo lo at v now (ContraryIn p tables code input below r line q lo)
      (λ t a. bind (ev_expr p input below (Const n) t) (λ u z. one u (bit (compares how a z)))) (omega arith) slots.behind b x
      (record { fits = fits; runs = λ none. runs }) (stands_front code at made last there) back.1
      (first_known code input m first held now n (opposite_reads code input line lo how m first held now said) is_held.holds)
      (λ u a t left value.
      let w = leaving p code input lo r t (ContraryIn p tables code input below r line q lo) in
      from_more p code input line 0 8 m (m + 1) t w
      (bind (ev_expr p input below (Const n) u) (λ u2 z. one u2 (bit (compares how a z)))) q (omega arith)
      (constant_from p tables code input below r line q m (m + 1) n u t w (λ u2 z. one u2 (bit (compares how a z)))
      (from_more p code input line 8 9 m (m + 1) t w (one u (bit (compares how a n))) q (omega arith)
      (opposite_ends m lo slots.behind kind u t (begins p code input lo r now u t left) how first held a n opposite said value.holds
      (holds_after p code input lo r held (cell.Int n) v u now t b is_held.behind is_held.under left is_held.holds))))))))
      (record { instr = back.2.0; on_line = back.2.1 }) (λ u a t left. left.1.holds) (λ a t left. left.0) (λ a t left. left.0))

  -- without one
  goes_compared : (at lo held top : ℕ) (how : Cmp) (x y : Expr) → has_opposite how ≡ true → is_simple_expr (Compare how x y) ≡ true
      → HasSlots p code r lo (expr_slots p r (Compare how x y)) → ExprRuns p tables code input below r line q at lo x
      → BareFits p tables code input below r line q (bare x) → NextRuns p tables code input below r line q (behind_expr p r lo x) y
      → (v : Store) (now : List PlainFrame) → Begins p code input r v now
      → Stands code at (back_made p tables r None line at lo held top how x y)
      → Decides code input line at top (at + length (back_made p tables r None line at lo held top how x y)) now
      (ev_test p input below (Value (Compare how x y)) v)
      (λ u t2. Left p code input lo r now u t2) (λ t2. Left p code input lo r now v t2) q
  unfolding ev_expr
  goes_compared at lo held top how x y opposite simple slots runs fits next v now b stands =
      let kind = first_slot p code input r lo (Compare how x y) slots in
      let operands : List LineInstr = compared_code p tables r line at lo x y in
      let first : ℕ = slot_or p tables r (stays x y) lo in
      let operand : ℕ = value_at p tables r (behind_expr p r lo x) y in
      let said : List LineInstr = own line (opposite_code how lo first operand ∷ []) in
      let last : List LineInstr = own line (I.JumpZero lo top ∷ []) in
      let there : Stands code at ((operands ++ said) ++ last) = subst (Stands code at) (sym (append_assoc operands said last)) stands in
      let m : ℕ = at + length (operands ++ said) in
      let back = stands_back code at (operands ++ said) last there in
      let i : InstrAt code input line m (I.JumpZero lo top) = record { instr = back.0; on_line = back.1 } in
      let long : length (operands ++ said) ≡ length operands + 1 = length-append operands said in
      let whole : length (operands ++ (said ++ last)) ≡ length operands + 2 = length-append operands (said ++ last) in
      let end : m + 1 ≡ at + length (operands ++ (said ++ last)) = omega (arith, long, whole) in
      let wv = leaving p code input lo r now (ContraryIn p tables code input below r line q lo) in
      subst (λ n. Decides code input line at top n now (ev_test p input below (Value (Compare how x y)) v)
      (λ u t2. Left p code input lo r now u t2) (λ t2. Left p code input lo r now v t2) q) end
      (turned_decides code input line at m top lo now v (ev_expr p input below (Compare how x y) v) wv
      (λ u t2. Left p code input lo r now u t2) (λ t2. Left p code input lo r now v t2) q
      (expr_one p input below (Compare how x y) v simple)
      (as_runs p code input line at m now wv (ev_expr p input below (Compare how x y) v) q
      (compared_by p tables code input below r line q at lo how x y (ContraryIn p tables code input below r line q lo)
      (λ a o. opposite_code how lo a o ∷ []) slots next (λ n a o i. i.1)
      (λ n a o t i. opposite_reads code input line lo how n a o t i)
      (λ n a o y2 z u t b2 i hx hy. opposite_ends n lo slots.behind kind u t b2 how a o y2 z opposite i hx hy) runs fits
      (stands_front code at (operands ++ said) last there) v now b))
      i (λ u n t left. left.1.holds) (λ n t left. left.0) (λ n t left. left.0))

  pub goes_back : (at lo held top : ℕ) (how : Cmp) (x y : Expr) → has_opposite how ≡ true → is_simple_expr (Compare how x y) ≡ true
      → HasSlots p code r lo (expr_slots p r (Compare how x y)) → ExprRuns p tables code input below r line q at lo x
      → BareFits p tables code input below r line q (bare x) → NextRuns p tables code input below r line q (behind_expr p r lo x) y
      → GoesBack at lo held top (Value (Compare how x y)) (ev_test p input below (Value (Compare how x y))) q
  goes_back at lo held top how x y opposite simple slots runs fits next = by (constant y) refl
    where
      by : (o : Option ℤ) → constant y ≡ o
          → GoesBack at lo held top (Value (Compare how x y)) (ev_test p input below (Value (Compare how x y))) q
      by (Some n) e =
          subst (λ z. HasSlots p code r lo (expr_slots p r (Compare how x z)) → is_simple_expr (Compare how x z) ≡ true
          → GoesBack at lo held top (Value (Compare how x z)) (ev_test p input below (Value (Compare how x z))) q)
          (sym (constant_is y n e))
          (λ has one. goes_held at lo held top how x n opposite has one runs fits) slots simple
      by None e = λ v now b is_held stands.
          subst (λ o. Decides code input line at top (at + length (back_made p tables r o line at lo held top how x y)) now
          (ev_test p input below (Value (Compare how x y)) v)
          (λ u t2. Left p code input lo r now u t2) (λ t2. Left p code input lo r now v t2) q) (sym e)
          (goes_compared at lo held top how x y opposite simple slots runs fits next v now b
          (subst (λ o. Stands code at (back_made p tables r o line at lo held top how x y)) e stands))
