-- Operators, signs and comparisons inside of an expression: the value goes into a slot of numbers, and an operand stands in
-- any slot.
use Rattle.std.proofs.Common.{◌≡◌, ℕ, ◌+◌, ◌≤◌, Bool, true, false, not, List, inl, inr, length, Some, refl, ap, ◌∙◌, subst, arith, ℤ, ◌+ℤ◌}
use Rattle.std.proofs.Common.{◌-ℤ◌, ◌*ℤ◌, neg_ℤ}
use Rattle.std.specs.Prelude.{slice_get, int_lt, int_le}
use Rattle.alma_base.specs.declared.fault.RunFault.TheVariants as fault
use Rattle.alma_base.specs.Choice.{if_true}
use Rattle.alma_base.specs.Numbers.{is_integer, is_zero, int_eq, bit, div_down_of, mod_down_of}
use Rattle.alma_base.proofs.Rests.{rounds_down}
use Rattle.alma_code.specs.declared.cell.Cell.TheVariants as cell
use Rattle.alma_code.specs.declared.cell.SlotKind.TheVariants as slot
use Rattle.alma_code.specs.declared.instr.Instr.TheVariants as I
use Rattle.alma_code.specs.Lines.{line_at}
use Rattle.alma_code.specs.Picture.{PlainFrame, PlainEntry}
use Rattle.alma_code.specs.Plain.{PlainCode, kinds_at}
use Rattle.alma_code.specs.Machine.{State, act, step, number, put_number, integer_result, ends_in_fault}
use Rattle.alma_ir.specs.declared.phrase.Op.{Op}
use Rattle.alma_ir.specs.declared.phrase.Op.TheVariants as op
use Rattle.alma_ir.specs.declared.phrase.Cmp.{Cmp}
use Rattle.alma_ir.specs.declared.phrase.Cmp.TheVariants as cmp
use Rattle.alma_ir.specs.Tree.{Program}
use Rattle.alma_mean.specs.Store.{Store}
use Rattle.alma_mean.specs.Events.{Events, one, bind}
use Rattle.alma_mean.specs.Arithmetic.{apply_op, apply_sign, check_integer, fault_unless, compares}
use Rattle.alma_lower_implements.proofs.BareRow.{ReadsFirst}
use Rattle.alma_lower_implements.proofs.Frames.{own_end, IsAt}
use Rattle.alma_lower_implements.proofs.Steps.{Holds, HasKind, Writes, InstrAt, passed, does, number_is, here_too, flip_step, equal_step}
use Rattle.alma_lower_implements.proofs.Steps.{less_step, less_eq_step, fits_step, overflow_step, neg_does, add_does, sub_does, mul_does}
use Rattle.alma_lower_implements.proofs.Steps.{div_does, mod_does, faults_now}
use Rattle.alma_lower_implements.proofs.Ways.{Ways}
use Rattle.alma_lower_implements.proofs.Numbers.{bit_integer, zero_bit, rest_integer, nonzero}
use Rattle.alma_lower_templates.specs.LineInstr.{own}
use Rattle.alma_lower_templates.specs.Pieces.{op_code, cmp_code}
use Rattle.alma_lower_templates.specs.Stands.{Stands}
use Rattle.alma_lower_templates.proofs.Parts.{Begins, begins, Left, has_kind, IsValue, ValueIn, From, Carries, leaving}
use Rattle.alma_lower_templates.proofs.Parts.{alone_from, faults_here, value_ends, value_then, value_goes_on}
use Rattle.alma_lower_templates.proofs.First.{ReadsPair, ReadsBoth}

module _ (code : PlainCode) (input : List ℕ) (line lo : ℕ) where
  -- ---- both operands are read, one after the other

  pub op_reads : (how : Op) (at first operand : ℕ) (now : List PlainFrame) → InstrAt code input line at (op_code how lo first operand)
      → ReadsPair code input at first operand now
  unfolding act
  op_reads op.Add at first operand now i = record {
    one = λ held s is. (_, does code input line at now held s (I.Add lo first operand) is i);
    other = λ a ha held s is. (
      _,
      does code input line at now held s (I.Add lo first operand) is i
          ∙ number_is code input now (passed code input s) first a
          (λ x. number (passed code input s) operand
          (λ y. integer_result (passed code input s) (x +ℤ y) (λ v. put_number (passed code input s) lo v))) is.frames ha,
    );
  }
  op_reads op.Sub at first operand now i = record {
    one = λ held s is. (_, does code input line at now held s (I.Sub lo first operand) is i);
    other = λ a ha held s is. (
      _,
      does code input line at now held s (I.Sub lo first operand) is i
          ∙ number_is code input now (passed code input s) first a
          (λ x. number (passed code input s) operand
          (λ y. integer_result (passed code input s) (x -ℤ y) (λ v. put_number (passed code input s) lo v))) is.frames ha,
    );
  }
  op_reads op.Mul at first operand now i = record {
    one = λ held s is. (_, does code input line at now held s (I.Mul lo first operand) is i);
    other = λ a ha held s is. (
      _,
      does code input line at now held s (I.Mul lo first operand) is i
          ∙ number_is code input now (passed code input s) first a
          (λ x. number (passed code input s) operand
          (λ y. integer_result (passed code input s) (x *ℤ y) (λ v. put_number (passed code input s) lo v))) is.frames ha,
    );
  }
  op_reads op.Div at first operand now i = record {
    one = λ held s is. (_, does code input line at now held s (I.Div lo first operand) is i);
    other = λ a ha held s is. (
      _,
      does code input line at now held s (I.Div lo first operand) is i
          ∙ number_is code input now (passed code input s) first a
          (λ x. number (passed code input s) operand
          (λ y. if_true (is_zero y) (λ _. ends_in_fault fault.ZeroDivide (passed code input s))
          (λ _. integer_result (passed code input s) (div_down_of x y) (λ v. put_number (passed code input s) lo v)))) is.frames ha,
    );
  }
  op_reads op.Mod at first operand now i = record {
    one = λ held s is. (_, does code input line at now held s (I.Mod lo first operand) is i);
    other = λ a ha held s is. (
      _,
      does code input line at now held s (I.Mod lo first operand) is i
          ∙ number_is code input now (passed code input s) first a
          (λ x. number (passed code input s) operand
          (λ y. if_true (is_zero y) (λ _. ends_in_fault fault.ZeroDivide (passed code input s))
          (λ _. integer_result (passed code input s) (mod_down_of x y) (λ v. put_number (passed code input s) lo v)))) is.frames ha,
    );
  }

  pub neg_reads : (at from : ℕ) (now : List PlainFrame) → InstrAt code input line at (I.Neg lo from) → ReadsFirst code input at from now
  unfolding act
  neg_reads at from now i held s is = (_, does code input line at now held s (I.Neg lo from) is i)

  pub equal_reads : (at one other : ℕ) (now : List PlainFrame) → InstrAt code input line at (I.Equal lo one other)
      → ReadsPair code input at one other now
  unfolding act
  equal_reads at one other now i = record {
    one = λ held s is. (_, does code input line at now held s (I.Equal lo one other) is i);
    other = λ a ha held s is. (
      _,
      does code input line at now held s (I.Equal lo one other) is i
          ∙ number_is code input now (passed code input s) one a
          (λ x. number (passed code input s) other (λ y. put_number (passed code input s) lo (bit (int_eq x y)))) is.frames ha,
    );
  }

  pub less_reads : (at one other : ℕ) (now : List PlainFrame) → InstrAt code input line at (I.Less lo one other)
      → ReadsPair code input at one other now
  unfolding act
  less_reads at one other now i = record {
    one = λ held s is. (_, does code input line at now held s (I.Less lo one other) is i);
    other = λ a ha held s is. (
      _,
      does code input line at now held s (I.Less lo one other) is i
          ∙ number_is code input now (passed code input s) one a
          (λ x. number (passed code input s) other (λ y. put_number (passed code input s) lo (bit (int_lt x y)))) is.frames ha,
    );
  }

  pub less_eq_reads : (at one other : ℕ) (now : List PlainFrame) → InstrAt code input line at (I.LessEq lo one other)
      → ReadsPair code input at one other now
  unfolding act
  less_eq_reads at one other now i = record {
    one = λ held s is. (_, does code input line at now held s (I.LessEq lo one other) is i);
    other = λ a ha held s is. (
      _,
      does code input line at now held s (I.LessEq lo one other) is i
          ∙ number_is code input now (passed code input s) one a
          (λ x. number (passed code input s) other (λ y. put_number (passed code input s) lo (bit (int_le x y)))) is.frames ha,
    );
  }

  pub cmp_reads : (how : Cmp) (at first operand : ℕ) (now : List PlainFrame) → Stands code at (own line (cmp_code how lo first operand))
      → ReadsBoth code input at first operand now
  cmp_reads cmp.Equal at first operand now i = inl (equal_reads at first operand now (record { instr = i.0; on_line = i.1 }))
  cmp_reads cmp.Unequal at first operand now i = inl (equal_reads at first operand now (record { instr = i.0; on_line = i.1 }))
  cmp_reads cmp.Less at first operand now i = inl (less_reads at first operand now (record { instr = i.0; on_line = i.1 }))
  cmp_reads cmp.LessEq at first operand now i = inl (less_eq_reads at first operand now (record { instr = i.0; on_line = i.1 }))
  cmp_reads cmp.Greater at first operand now i = inr (less_reads at operand first now (record { instr = i.0; on_line = i.1 }))
  cmp_reads cmp.GreaterEq at first operand now i = inr (less_eq_reads at operand first now (record { instr = i.0; on_line = i.1 }))

module _ (p : Program) (code : PlainCode) (input : List ℕ) (line q lo : ℕ) where
  module _ (v : Store) (now : List PlainFrame) (kind_now : HasKind now lo slot.Number) where
    -- ---- operators

    module _ {B : Type 0} (at exit : ℕ) (w : Ways B) (k : Store → ℤ → Events B) where
      -- how the phrase goes on with a value, given the step that puts it
      abbrev pub GoesOnWith : ℤ → Type 0
      GoesOnWith z = is_integer z ≡ true → ((held : List PlainEntry) (s : State) → IsAt at now held s
          → Writes code input at now held s lo (cell.Int z)) → From p code input line 8 at exit now w (k v z) q

      abbrev pub Applied : Events ℤ → Type 0
      Applied e = From p code input line 8 at exit now w (bind e k) q

      -- a result that must be one of INTEGER
      checked_from : (z : ℤ) → line_at code at ≡ line
          → ((held : List PlainEntry) (s : State) → IsAt at now held s
          → step code input s ≡ integer_result (passed code input s) z (λ x. put_number (passed code input s) lo x)) → GoesOnWith z
          → Applied (check_integer v z)
      checked_from z there e later = by (is_integer z) refl
        where
          by : (t : Bool) → is_integer z ≡ t → Applied (fault_unless fault.Overflow t (λ _. one v z))
          by true fits =
              alone_from p code input line 8 at exit now w (k v z) q
              (later fits (λ held s is. fits_step code input line at now held s is lo z kind_now fits (e held s is)))
          by false fits = faults_here p code input line 7 at exit now w fault.Overflow q
              (λ held s is. overflow_step code input line at now held s is lo z there fits (e held s is))

      -- past the test of a divisor
      divided_from : (y z : ℤ) (e : Events ℤ) → line_at code at ≡ line
          → ((held : List PlainEntry) (s : State) → IsAt at now held s
          → step code input s ≡ if_true (is_zero y) (λ _. ends_in_fault fault.ZeroDivide (passed code input s))
          (λ _. integer_result (passed code input s) z (λ x. put_number (passed code input s) lo x)))
          → (is_zero y ≡ false → ((held : List PlainEntry) (s : State) → IsAt at now held s
          → step code input s ≡ integer_result (passed code input s) z (λ x. put_number (passed code input s) lo x)) → Applied e)
          → Applied (fault_unless fault.ZeroDivide (not (is_zero y)) (λ _. e))
      divided_from y z e there does goes = by (is_zero y) refl
        where
          by : (t : Bool) → is_zero y ≡ t → Applied (fault_unless fault.ZeroDivide (not t) (λ _. e))
          by false other = goes other (λ held s is. does held s is
              ∙ ap (λ t. if_true t (λ _. ends_in_fault fault.ZeroDivide (passed code input s))
              (λ _. integer_result (passed code input s) z (λ x. put_number (passed code input s) lo x))) other)
          by true zero_there =
              faults_here p code input line 7 at exit now w fault.ZeroDivide q
              (λ held s is. faults_now code input line s fault.ZeroDivide (here_too code input line at now held s is there)
              (does held s is ∙ ap (λ t. if_true t (λ _. ends_in_fault fault.ZeroDivide (passed code input s))
              (λ _. integer_result (passed code input s) z (λ x. put_number (passed code input s) lo x))) zero_there))

      pub op_from : (how : Op) (first operand : ℕ) (x y : ℤ) → InstrAt code input line at (op_code how lo first operand)
          → Holds now first (cell.Int x) → IsValue p code input operand y now → ((z : ℤ) → GoesOnWith z) → Applied (apply_op v how x y)
      op_from op.Add first operand x y i hx hy later =
          checked_from (x +ℤ y) i.on_line (λ held s is. add_does code input line at now held s is lo first operand x y i hx hy.holds)
          (later (x +ℤ y))
      op_from op.Sub first operand x y i hx hy later =
          checked_from (x -ℤ y) i.on_line (λ held s is. sub_does code input line at now held s is lo first operand x y i hx hy.holds)
          (later (x -ℤ y))
      op_from op.Mul first operand x y i hx hy later =
          checked_from (x *ℤ y) i.on_line (λ held s is. mul_does code input line at now held s is lo first operand x y i hx hy.holds)
          (later (x *ℤ y))
      op_from op.Div first operand x y i hx hy later =
          divided_from y (div_down_of x y) (check_integer v (div_down_of x y)) i.on_line
          (λ held s is. div_does code input line at now held s is lo first operand x y i hx hy.holds)
          (λ other does. checked_from (div_down_of x y) i.on_line does (later (div_down_of x y)))
      op_from op.Mod first operand x y i hx hy later =
          divided_from y (mod_down_of x y) (one v (mod_down_of x y)) i.on_line
          (λ held s is. mod_does code input line at now held s is lo first operand x y i hx hy.holds)
          (λ other does.
          let fits = rest_integer y (mod_down_of x y) hy.integer (rounds_down x y (nonzero y other)) in
          alone_from p code input line 8 at exit now w (k v (mod_down_of x y)) q
          (later (mod_down_of x y) fits (λ held s is. fits_step code input line at now held s is lo (mod_down_of x y) kind_now fits
          (does held s is))))

      pub neg_from : (from : ℕ) (x : ℤ) → InstrAt code input line at (I.Neg lo from) → Holds now from (cell.Int x)
          → ((z : ℤ) → GoesOnWith z) → Applied (apply_sign true v x)
      neg_from from x i hx later =
          checked_from (neg_ℤ x) i.on_line (λ held s is. neg_does code input line at now held s is lo from x i hx)
          (later (neg_ℤ x))

module _ (p : Program) (code : PlainCode) (input : List ℕ) (line q lo r : ℕ) (behind : own_end p r ≤ lo)
    (kind : slice_get (kinds_at code r) lo ≡ Some slot.Number) where
  module _ (v : Store) (now : List PlainFrame) (b : Begins p code input r v now) where
    kind_now : HasKind now lo slot.Number
    kind_now = has_kind p code input r lo v now slot.Number kind b

    -- the sign of a first operand, which stands in any slot
    pub sign_from : {B : Type 0} (at exit from : ℕ) (w : List PlainFrame → Ways B) (k : Store → ℤ → Events B) (x : ℤ)
        → Carries p code input lo r w → InstrAt code input line at (I.Neg lo from) → IsValue p code input from x now
        → ((z : ℤ) (t : List PlainFrame) → Left p code input lo r now v t → IsValue p code input lo z t
        → From p code input line 7 (at + 1) exit t (w t) (k v z) q)
        → From p code input line 8 at exit now (w now) (bind (apply_sign true v x) k) q
    sign_from at exit from w k x carries i hx later =
        neg_from p code input line q lo v now kind_now at exit (w now) k from x i hx.holds
        (λ z integer writes. value_then p code input line 7 at exit lo r v now z w (k v z) q behind kind integer b carries writes (later z))

    -- ---- comparisons

    pub compare_ends : (how : Cmp) (at first operand : ℕ) (x y : ℤ) → Stands code at (own line (cmp_code how lo first operand))
        → Holds now first (cell.Int x) → Holds now operand (cell.Int y)
        → From p code input line 8 at (at + length (own line (cmp_code how lo first operand))) now
        (leaving p code input lo r now (ValueIn p code input lo)) (one v (bit (compares how x y))) q
    compare_ends cmp.Equal at first operand x y i hx hy =
        value_ends p code input line 7 at lo r v now (bit (int_eq x y)) q behind kind (bit_integer (int_eq x y)) b
        (λ held s is. equal_step code input line at now held s is lo first operand x y (record { instr = i.0; on_line = i.1 }) kind_now hx
        hy)
    compare_ends cmp.Less at first operand x y i hx hy =
        value_ends p code input line 7 at lo r v now (bit (int_lt x y)) q behind kind (bit_integer (int_lt x y)) b
        (λ held s is. less_step code input line at now held s is lo first operand x y (record { instr = i.0; on_line = i.1 }) kind_now hx
        hy)
    compare_ends cmp.LessEq at first operand x y i hx hy =
        value_ends p code input line 7 at lo r v now (bit (int_le x y)) q behind kind (bit_integer (int_le x y)) b
        (λ held s is. less_eq_step code input line at now held s is lo first operand x y (record { instr = i.0; on_line = i.1 }) kind_now hx
        hy)
    compare_ends cmp.Greater at first operand x y i hx hy =
        value_ends p code input line 7 at lo r v now (bit (int_lt y x)) q behind kind (bit_integer (int_lt y x)) b
        (λ held s is. less_step code input line at now held s is lo operand first y x (record { instr = i.0; on_line = i.1 }) kind_now hy
        hx)
    compare_ends cmp.GreaterEq at first operand x y i hx hy =
        value_ends p code input line 7 at lo r v now (bit (int_le y x)) q behind kind (bit_integer (int_le y x)) b
        (λ held s is. less_eq_step code input line at now held s is lo operand first y x (record { instr = i.0; on_line = i.1 }) kind_now hy
        hx)
    compare_ends cmp.Unequal at first operand x y i hx hy =
        let two : at + 1 + 1 ≡ at + 2 = omega arith in
        value_goes_on p code input line 7 at (at + 2) lo r v now (bit (int_eq x y)) (ValueIn p code input lo)
        (one v (bit (not (int_eq x y)))) q behind kind (bit_integer (int_eq x y)) b
        (λ held s is. equal_step code input line at now held s is lo first operand x y (record { instr = i.0; on_line = i.1 }) kind_now
        hx hy)
        (λ t left value.
        let b1 = begins p code input lo r now v t left in
        let said : bit (is_zero (bit (int_eq x y))) ≡ bit (not (int_eq x y)) = ap bit (zero_bit (int_eq x y)) in
        subst (λ z. From p code input line 7 (at + 1) (at + 2) t (leaving p code input lo r t (ValueIn p code input lo)) (one v z) q) said
        (subst (λ n. From p code input line 7 (at + 1) n t (leaving p code input lo r t (ValueIn p code input lo))
        (one v (bit (is_zero (bit (int_eq x y))))) q) two
        (value_ends p code input line 6 (at + 1) lo r v t (bit (is_zero (bit (int_eq x y)))) q behind kind
        (bit_integer (is_zero (bit (int_eq x y)))) b1
        (λ held s is. flip_step code input line (at + 1) t held s is lo lo (bit (int_eq x y)) (record { instr = i.2.0; on_line = i.2.1 })
        (has_kind p code input r lo v t slot.Number kind b1) value.holds))))
