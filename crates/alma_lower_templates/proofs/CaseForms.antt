-- CASE, from template to run: labels, arms and the ELSE part.
use Rattle.std.proofs.Common.{◌≡◌, ◌≢◌, ℕ, suc, ◌+◌, ◌<◌, ◌≤◌, Bool, true, false, List, [], ◌∷◌, ◌++◌, length, Some, refl, sym, ap}
use Rattle.std.proofs.Common.{◌∙◌, subst, arith, ℤ, pos, negsuc}
use Rattle.std.specs.Prelude.{slice_get, int_le, ◌&&◌, if◌then◌else◌}
use Rattle.std.proofs.lemmas.Bool.Decides.{nat_tests}
use Rattle.std.proofs.lemmas.Int.{ints}
use Rattle.std.proofs.lemmas.List.{length-append, length-map}
use Rattle.alma_base.specs.Choice.{if_true}
use Rattle.alma_base.specs.declared.fault.RunFault.TheVariants as fault
use Rattle.alma_base.specs.declared.number.Range.{Range}
use Rattle.alma_base.specs.Numbers.{within, bit, int_eq}
use Rattle.alma_code.specs.declared.cell.Cell.TheVariants as cell
use Rattle.alma_code.specs.declared.cell.SlotKind.TheVariants as slot
use Rattle.alma_code.specs.declared.instr.Instr.{Instr}
use Rattle.alma_code.specs.declared.instr.Instr.TheVariants as I
use Rattle.alma_code.specs.Picture.{PlainFrame, PlainEntry}
use Rattle.alma_code.specs.Plain.{PlainCode, kinds_at}
use Rattle.alma_code.specs.Machine.{State}
use Rattle.alma_ir.specs.Tree.{Program, Stmts, CaseArms, Else, Expr, Case, no_cases, more_cases, no_else, else_part}
use Rattle.alma_mean.specs.Store.{Store}
use Rattle.alma_mean.specs.Events.{Events, NoYield, bind, node, visit_each}
use Rattle.alma_mean.specs.Rows.{try_labels}
use Rattle.alma_mean.specs.Meaning.{Level, ev_stmts, ev_expr, ev_cases, ev_else}
use Rattle.alma_lower_implements.proofs.Goes.{before, weaker, credited}
use Rattle.alma_lower_implements.proofs.Frames.{own_end, IsAt}
use Rattle.alma_lower_implements.proofs.FrameLemmas.{holds_other}
use Rattle.alma_lower_implements.proofs.ChoiceSteps.{jumps}
use Rattle.alma_lower_implements.proofs.EitherRow.{inner_goes}
use Rattle.alma_lower_implements.proofs.ExprRows.{some_frames}
use Rattle.alma_lower_implements.proofs.Steps.{top_written, Holds, Writes, InstrAt, const_step, equal_step, less_eq_step, zero_jumps}
use Rattle.alma_lower_implements.proofs.Steps.{other_goes_on}
use Rattle.alma_lower_implements.proofs.Steps.{fault_step}
use Rattle.alma_lower_implements.proofs.Ways.{Ways, Leaves, LeadsTo, leads_nowhere, leads_by_jump, leads_then}
use Rattle.alma_lower_templates.specs.LineInstr.{LineInstr, own}
use Rattle.alma_lower_templates.specs.Tables.{Tables}
use Rattle.alma_lower_templates.specs.Slots.{behind_stmts, behind_expr, behind_dead}
use Rattle.alma_lower_templates.specs.Pieces.{labels_code, label_test, test_size, behind_labels, case_arm, passed_over, has_dead}
use Rattle.alma_lower_templates.specs.Templates.{stmts_code, expr_code, dead_code, case_code, cases_code, else_code}
use Rattle.alma_lower_templates.specs.Stands.{Stands}
use Rattle.alma_lower_templates.proofs.Stands.{stands_front, stands_back}
use Rattle.alma_lower_templates.proofs.Parts.{Begins, begins, Left, left_self, left_temp, has_kind, holds_temp, IsValue, ValueIn, From}
use Rattle.alma_lower_templates.proofs.Parts.{ending, from_more, from_ending, on_ending, then_ending, as_runs, node_runs, faults_here}
use Rattle.alma_lower_templates.proofs.Args.{own_both}
use Rattle.alma_lower_templates.proofs.Exists.{same_number}
use Rattle.alma_lower_templates.proofs.RangeChecks.{past_from}
use Rattle.alma_lower_templates.proofs.FormRuns.{ExprRuns, StatementRuns, ListRuns}

-- a number lies in a label of one number where it is that number
between_one : (a n : ℤ) → (int_le a n && int_le n a) ≡ int_eq a n
between_one (pos a) (pos n) = grind (arith, ints, nat_tests)
between_one (pos a) (negsuc n) = grind (arith, ints, nat_tests)
between_one (negsuc a) (pos n) = grind (arith, ints, nat_tests)
between_one (negsuc a) (negsuc n) = grind (arith, ints, nat_tests)

within_one : (label : Range) (n : ℤ) → int_eq label.low label.high ≡ true → within label n ≡ int_eq label.low n
within_one label n e = ap (λ k. int_le label.low n && int_le n k) (sym (same_number label.low label.high e)) ∙ between_one label.low n

-- the tests of a label of one number, and of one of two ends
abbrev pub one_test : (value bound miss : ℕ) → Range → List Instr
one_test value bound miss label =
    I.Const bound label.low ∷ I.Equal (bound + 1) bound value ∷ I.JumpZero (bound + 1) miss ∷ []

abbrev pub both_tests : (value bound miss : ℕ) → Range → List Instr
both_tests value bound miss label =
    I.Const bound label.low ∷ I.LessEq (bound + 1) bound value ∷ I.JumpZero (bound + 1) miss
    ∷ I.Const bound label.high ∷ I.LessEq (bound + 1) value bound ∷ I.JumpZero (bound + 1) miss ∷ []

pub test_long : (value bound miss : ℕ) (label : Range) → length (label_test value bound miss label) ≡ test_size label
test_long value bound miss label = by (int_eq label.low label.high)
  where
    by : (z : Bool) → length (if z then one_test value bound miss label else both_tests value bound miss label) ≡ (if z then 3 else 6)
    by true = refl
    by false = refl

-- the labels of an arm end at its body
pub labels_long : (value bound at hit miss : ℕ) (label : Range) (rest : List Range)
    → at + length (labels_code value bound at hit miss label rest) ≡ behind_labels at label rest
labels_long value bound at hit miss label [] = ap (λ n. at + n) (test_long value bound miss label)
labels_long value bound at hit miss label (label' ∷ rest) =
    let next : ℕ = at + test_size label + 1 in
    let test : List Instr = label_test value bound next label in
    let more : List Instr = labels_code value bound next hit miss label' rest in
    omega (
      arith,
      labels_long value bound next hit miss label' rest,
      test_long value bound next label,
      length-append (test ++ (I.Jump hit ∷ [])) more,
      length-append test (I.Jump hit ∷ []),
    )

own_long : (line : ℕ) (xs : List Instr) → length (own line xs) ≡ length xs
own_long line xs = length-map xs (λ i. record { line = line; instr = i })

module _ (p : Program) (tables : Tables) (code : PlainCode) (input : List ℕ) (below : Level) (r line q : ℕ) (may : Bool) where
  -- ---- one label; the number stands in the slot lo

  module _ (lo bound exit : ℕ) (v : Store) (n : ℤ) (apart : lo < bound) (behind : own_end p r ≤ lo)
      (kind : slice_get (kinds_at code r) bound ≡ Some slot.Number) (kind2 : slice_get (kinds_at code r) (bound + 1) ≡ Some slot.Number)
    where
      -- what goes on at an address, from any frames with the number in its slot
      abbrev pub GoesAt : (c at : ℕ) → Events NoYield → Type 0
      GoesAt c at e = (now : List PlainFrame) → Begins p code input r v now → IsValue p code input lo n now
          → From p code input line c at exit now (ending p code input may lo r now) e q

      -- a number goes into one of the two slots of the labels
      writes_go : (c at m : ℕ) (x : ℤ) (e : Events NoYield) (now : List PlainFrame) → lo < m
          → slice_get (kinds_at code r) m ≡ Some slot.Number → Begins p code input r v now → IsValue p code input lo n now
          → ((held : List PlainEntry) (s : State) → IsAt at now held s → Writes code input at now held s m (cell.Int x))
          → ((t : List PlainFrame) → Begins p code input r v t → IsValue p code input lo n t → Holds t m (cell.Int x)
          → ((k : ℕ) (y : ℤ) → k ≢ m → Holds now k (cell.Int y) → Holds t k (cell.Int y))
          → From p code input line c (at + 1) exit t (ending p code input may lo r t) e q)
          → From p code input line (suc c) at exit now (ending p code input may lo r now) e q
      writes_go c at m x e now lt k b value writes later held s is =
          let t : List PlainFrame = top_written now m (cell.Int x) in
          let left : Left p code input lo r now v t =
          left_temp p code input lo r m v now (cell.Int x) (omega (arith, lt)) (omega (arith, lt, behind)) b in
          let some = some_frames p code input v now r b.stand b.routine in
          let others : (j : ℕ) (y : ℤ) → j ≢ m → Holds now j (cell.Int y)
          → Holds t j (cell.Int y) = λ j y ne h. holds_other now m j (cell.Int x) (cell.Int y) some ne h in
          let w = writes held s is in
          before code input line 0 24 (Leaves exit (ending p code input may lo r now)) held e s w.to 1 (suc c) c q q w.silently
          (omega arith)
          (omega arith)
          (from_ending p code input may line c (at + 1) exit lo lo r v now t e q (omega arith) behind left
          (later t (begins p code input lo r now v t left)
          (record { holds = others lo n (λ same. omega (arith, lt, same)) value.holds; integer = value.integer })
          (holds_temp p code input r m v now (cell.Int x) slot.Number k b) others) held w.to w.is)

      -- with one step more
      with_one : (at : ℕ) (e : Events NoYield) → GoesAt 7 at e → GoesAt 8 at e
      with_one at e h now b value = from_more p code input line 7 8 at exit now (ending p code input may lo r now) e q (omega arith)
          (h now b value)

      -- a number of a label is compared with the number, and the slot is tested
      compared_go : (z : Bool) (at miss : ℕ) (x : ℤ) (e : Events NoYield) (now : List PlainFrame) → Begins p code input r v now
          → IsValue p code input lo n now → InstrAt code input line at (I.Const bound x)
          → ((t : List PlainFrame) → Begins p code input r v t → IsValue p code input lo n t → Holds t bound (cell.Int x)
          → (held : List PlainEntry) (s : State) → IsAt (at + 1) t held s
          → Writes code input (at + 1) t held s (bound + 1) (cell.Int (bit z)))
          → InstrAt code input line (at + 1 + 1) (I.JumpZero (bound + 1) miss) → (c : ℕ)
          → (z ≡ true → GoesAt c (at + 1 + 1 + 1) e) → (z ≡ false → GoesAt c miss e)
          → From p code input line (suc (suc (suc c))) at exit now (ending p code input may lo r now) e q
      compared_go z at miss x e now b value i compares k c on_true on_false =
          writes_go (suc (suc c)) at bound x e now apart kind b value
          (λ held s there. const_step code input line at now held s there bound x i
          (has_kind p code input r bound v now slot.Number kind b))
          (λ t b1 value1 hx others.
          writes_go (suc c) (at + 1) (bound + 1) (bit z) e t (omega (arith, apart)) kind2 b1 value1 (compares t b1 value1 hx)
          (λ t2 b2 value2 hb others2. tested z t2 b2 value2 hb on_true on_false))
        where
          tested : (z : Bool) (t : List PlainFrame) → Begins p code input r v t → IsValue p code input lo n t
              → Holds t (bound + 1) (cell.Int (bit z)) → (z ≡ true → GoesAt c (at + 1 + 1 + 1) e) → (z ≡ false → GoesAt c miss e)
              → From p code input line (suc c) (at + 1 + 1) exit t (ending p code input may lo r t) e q
          tested true t b2 value2 hb held_so other_so =
              past_from p tables code input below r line q c (at + 1 + 1) (at + 1 + 1 + 1) exit t (ending p code input may lo r t) e
              (λ held s there. let m = other_goes_on code input line (at + 1 + 1) t held s there (bound + 1) miss (bit true) k hb refl in
              record { to = m.to; silently = m.silently; is = m.is }) (held_so refl t b2 value2)
          tested false t b2 value2 hb held_so other_so =
              past_from p tables code input below r line q c (at + 1 + 1) miss exit t (ending p code input may lo r t) e
              (λ held s there. let m = zero_jumps code input line (at + 1 + 1) t held s there (bound + 1) miss (bit false) k hb refl in
              record { to = m.to; silently = m.silently; is = m.is }) (other_so refl t b2 value2)

      -- an end of a label
      end_goes : (z : Bool) (at a d miss : ℕ) (x y w : ℤ) (e : Events NoYield) (now : List PlainFrame) → Begins p code input r v now
          → IsValue p code input lo n now
          → InstrAt code input line at (I.Const bound x) → InstrAt code input line (at + 1) (I.LessEq (bound + 1) a d)
          → InstrAt code input line (at + 1 + 1) (I.JumpZero (bound + 1) miss)
          → ((t : List PlainFrame) → IsValue p code input lo n t → Holds t bound (cell.Int x) → Holds t a (cell.Int y)
          × Holds t d (cell.Int w)) → int_le y w ≡ z → (c : ℕ)
          → (z ≡ true → GoesAt c (at + 1 + 1 + 1) e) → (z ≡ false → GoesAt c miss e)
          → From p code input line (suc (suc (suc c))) at exit now (ending p code input may lo r now) e q
      end_goes z at a d miss x y w e now b value i j k pick is c on_true on_false =
          compared_go z at miss x e now b value i
          (λ t b1 value1 hx held s there.
          let z1 = pick t value1 hx in
          subst (λ u. Writes code input (at + 1) t held s (bound + 1) (cell.Int (bit u))) is
          (less_eq_step code input line (at + 1) t held s there (bound + 1) a d y w j
          (has_kind p code input r (bound + 1) v t slot.Number kind2 b1) z1.0 z1.1)) k c on_true on_false

      -- the number of a label of one
      one_goes : (at miss c : ℕ) (label : Range) (arm next : Events NoYield) → int_eq label.low label.high ≡ true
          → Stands code at (own line (one_test lo bound miss label)) → GoesAt c (at + 3) arm → GoesAt c miss next
          → GoesAt (suc (suc (suc c))) at (if_true (within label n) (λ _. arm) (λ _. next))
      one_goes at miss c label arm next same i on_hit on_miss now b value =
          subst (λ z. From p code input line (suc (suc (suc c))) at exit now (ending p code input may lo r now)
          (if_true z (λ _. arm) (λ _. next)) q) (sym (within_one label n same)) (by (int_eq label.low n) refl)
        where
          three : at + 1 + 1 + 1 ≡ at + 3
          three = omega arith

          compares : (z : Bool) → int_eq label.low n ≡ z → (t : List PlainFrame) → Begins p code input r v t
              → IsValue p code input lo n t → Holds t bound (cell.Int label.low) → (held : List PlainEntry) (s : State)
              → IsAt (at + 1) t held s → Writes code input (at + 1) t held s (bound + 1) (cell.Int (bit z))
          compares z is t b1 value1 hx held s there =
              subst (λ u. Writes code input (at + 1) t held s (bound + 1) (cell.Int (bit u))) is
              (equal_step code input line (at + 1) t held s there (bound + 1) bound lo label.low n
              (record { instr = i.2.0; on_line = i.2.1 }) (has_kind p code input r (bound + 1) v t slot.Number kind2 b1) hx
              value1.holds)

          by : (z : Bool) → int_eq label.low n ≡ z
              → From p code input line (suc (suc (suc c))) at exit now (ending p code input may lo r now)
              (if_true z (λ _. arm) (λ _. next)) q
          by true is =
              compared_go true at miss label.low arm now b value (record { instr = i.0; on_line = i.1 }) (compares true is)
              (record { instr = i.2.2.0; on_line = i.2.2.1 }) c (λ e. subst (λ m. GoesAt c m arm) (sym three) on_hit)
              (λ e. absurd (let bad : true ≡ false = e in cc))
          by false is =
              compared_go false at miss label.low next now b value (record { instr = i.0; on_line = i.1 }) (compares false is)
              (record { instr = i.2.2.0; on_line = i.2.2.1 }) c (λ e. absurd (let bad : false ≡ true = e in cc)) (λ e. on_miss)

      -- both ends
      ends_go : (at miss c : ℕ) (label : Range) (arm next : Events NoYield) → Stands code at (own line (both_tests lo bound miss label))
          → GoesAt c (at + 6) arm → GoesAt c miss next
          → GoesAt (suc (suc (suc (suc (suc (suc c)))))) at (if_true (within label n) (λ _. arm) (λ _. next))
      ends_go at miss c label arm next i on_hit on_miss now b value = low_end (int_le label.low n) refl
        where
          six : at + 1 + 1 + 1 + 1 + 1 + 1 ≡ at + 6
          six = omega arith

          high_end : (z : Bool) → int_le n label.high ≡ z → GoesAt (suc (suc (suc c))) (at + 1 + 1 + 1) (if_true z (λ _. arm) (λ _. next))
          high_end true is t b1 value1 =
              end_goes true (at + 1 + 1 + 1) lo bound miss label.high n label.high arm t b1 value1
              (record { instr = i.2.2.2.0; on_line = i.2.2.2.1 }) (record { instr = i.2.2.2.2.0; on_line = i.2.2.2.2.1 })
              (record { instr = i.2.2.2.2.2.0; on_line = i.2.2.2.2.2.1 })
              (λ t2 h hx. (h.holds, hx)) is c (λ e. subst (λ m. GoesAt c m arm) (sym six) on_hit)
              (λ e. absurd (let bad : true ≡ false = e in cc))
          high_end false is t b1 value1 =
              end_goes false (at + 1 + 1 + 1) lo bound miss label.high n label.high next t b1 value1
              (record { instr = i.2.2.2.0; on_line = i.2.2.2.1 }) (record { instr = i.2.2.2.2.0; on_line = i.2.2.2.2.1 })
              (record { instr = i.2.2.2.2.2.0; on_line = i.2.2.2.2.2.1 })
              (λ t2 h hx. (h.holds, hx)) is c (λ e. absurd (let bad : false ≡ true = e in cc)) (λ e. on_miss)

          low_end : (z : Bool) → int_le label.low n ≡ z
              → From p code input line (suc (suc (suc (suc (suc (suc c)))))) at exit now (ending p code input may lo r now)
              (if_true (int_le label.low n && int_le n label.high) (λ _. arm) (λ _. next)) q
          low_end true is =
              subst (λ z. From p code input line (suc (suc (suc (suc (suc (suc c)))))) at exit now (ending p code input may lo r now)
              (if_true (z && int_le n label.high) (λ _. arm) (λ _. next)) q) (sym is)
              (end_goes true at bound lo miss label.low label.low n (if_true (int_le n label.high) (λ _. arm) (λ _. next)) now b value
              (record { instr = i.0; on_line = i.1 }) (record { instr = i.2.0; on_line = i.2.1 })
              (record { instr = i.2.2.0; on_line = i.2.2.1 })
              (λ t2 h hx. (hx, h.holds)) is (suc (suc (suc c))) (λ e. high_end (int_le n label.high) refl)
              (λ e. absurd (let bad : true ≡ false = e in cc)))
          low_end false is =
              subst (λ z. From p code input line (suc (suc (suc (suc (suc (suc c)))))) at exit now (ending p code input may lo r now)
              (if_true (z && int_le n label.high) (λ _. arm) (λ _. next)) q) (sym is)
              (end_goes false at bound lo miss label.low label.low n next now b value (record { instr = i.0; on_line = i.1 })
              (record { instr = i.2.0; on_line = i.2.1 }) (record { instr = i.2.2.0; on_line = i.2.2.1 })
              (λ t2 h hx. (hx, h.holds)) is (suc (suc (suc c))) (λ e. absurd (let bad : false ≡ true = e in cc))
              (λ e t b1 value1. from_more p code input line c (suc (suc (suc c))) miss exit t (ending p code input may lo r t) next q
              (omega arith) (on_miss t b1 value1)))

      -- a label of either kind
      test_goes : (at miss c : ℕ) (label : Range) (arm next : Events NoYield) → Stands code at (own line (label_test lo bound miss label))
          → GoesAt c (at + test_size label) arm → GoesAt c miss next
          → GoesAt (suc (suc (suc (suc (suc (suc c)))))) at (if_true (within label n) (λ _. arm) (λ _. next))
      test_goes at miss c label arm next = by (int_eq label.low label.high) refl
        where
          by : (z : Bool) → int_eq label.low label.high ≡ z
              → Stands code at (own line (if z then one_test lo bound miss label else both_tests lo bound miss label))
              → GoesAt c (at + (if z then 3 else 6)) arm → GoesAt c miss next
              → GoesAt (suc (suc (suc (suc (suc (suc c)))))) at (if_true (within label n) (λ _. arm) (λ _. next))
          by false is i on_hit on_miss now b value = ends_go at miss c label arm next i on_hit on_miss now b value
          by true is i on_hit on_miss now b value =
              from_more p code input line (suc (suc (suc c))) (suc (suc (suc (suc (suc (suc c)))))) at exit now
              (ending p code input may lo r now) (if_true (within label n) (λ _. arm) (λ _. next)) q (omega arith)
              (one_goes at miss c label arm next is i on_hit on_miss now b value)

      -- the labels of an arm: the last falls into its body
      pub labels_go : (at hit miss : ℕ) (label : Range) (rest : List Range) (arm next : Unit {0} → Events NoYield)
          → hit ≡ behind_labels at label rest → Stands code at (own line (labels_code lo bound at hit miss label rest))
          → GoesAt 8 hit (arm tt) → GoesAt 8 miss (next tt) → GoesAt 0 at (try_labels (label ∷ rest) n arm next)
      labels_go at hit miss label [] arm next is i on_hit on_miss now b value held s there =
          weaker code input line 0 24 (Leaves exit (ending p code input may lo r now)) held
          (if_true (within label n) arm next) s 32 14 q q (omega arith) (omega arith)
          (test_goes at miss 8 label (arm tt) (next tt) i (subst (λ m. GoesAt 8 m (arm tt)) is on_hit) on_miss now b value held s there)
      labels_go at hit miss label (label' ∷ rest) arm next is i on_hit on_miss now b value held s there =
          let first : ℕ = at + test_size label in
          let test : List Instr = label_test lo bound (first + 1) label in
          let more : List Instr = labels_code lo bound (first + 1) hit miss label' rest in
          let long : length (own line test) ≡ test_size label = own_long line test ∙ test_long lo bound (first + 1) label in
          let parts : Stands code at ((own line test ++ own line (I.Jump hit ∷ [])) ++ own line more) =
          subst (Stands code at) (own_both line (test ++ (I.Jump hit ∷ [])) more
          ∙ ap (λ c. c ++ own line more) (own_both line test (I.Jump hit ∷ []))) i in
          let front = stands_front code at (own line test ++ own line (I.Jump hit ∷ [])) (own line more) parts in
          let back = stands_back code at (own line test ++ own line (I.Jump hit ∷ [])) (own line more) parts in
          let both : length (own line test ++ own line (I.Jump hit ∷ [])) ≡ length (own line test) + 1 =
          length-append (own line test) (own line (I.Jump hit ∷ [])) in
          let next_is : at + length (own line test ++ own line (I.Jump hit ∷ [])) ≡ first + 1 = omega (arith, both, long) in
          let jump_is : at + length (own line test) ≡ first = omega (arith, long) in
          let jump = stands_back code at (own line test) (own line (I.Jump hit ∷ [])) front in
          let jump_at : InstrAt code input line first (I.Jump hit) =
          subst (λ m. InstrAt code input line m (I.Jump hit)) jump_is (record { instr = jump.0; on_line = jump.1 }) in
          weaker code input line 0 24 (Leaves exit (ending p code input may lo r now)) held
          (if_true (within label n) arm (λ _. try_labels (label' ∷ rest) n arm next)) s 32 15 q q (omega arith) (omega arith)
          (test_goes at (first + 1) 9 label (arm tt) (try_labels (label' ∷ rest) n arm next)
          (stands_front code at (own line test) (own line (I.Jump hit ∷ [])) front)
          (λ t b1 value1. past_from p tables code input below r line q 8 first hit exit t (ending p code input may lo r t) (arm tt)
          (λ h s2 is2. jumps code input line first hit t h s2 is2 jump_at) (on_hit t b1 value1))
          (λ t b1 value1. from_more p code input line 0 9 (first + 1) exit t (ending p code input may lo r t)
          (try_labels (label' ∷ rest) n arm next) q (omega arith)
          (labels_go (first + 1) hit miss label' rest arm next is
          (subst (λ m. Stands code m (own line more)) next_is back) on_hit on_miss t b1 value1)) now b value held s there)

  -- ---- the arms behind the first that has a label

  module _ (lo bound : ℕ) (apart : lo < bound) (behind : own_end p r ≤ lo) (kind : slice_get (kinds_at code r) bound ≡ Some slot.Number)
      (kind2 : slice_get (kinds_at code r) (bound + 1) ≡ Some slot.Number) (els : Else) where
    abbrev otherwise : ℕ → ℕ → List LineInstr
    otherwise next la = else_code p tables r line next la els

    abbrev pub CasesRun : (jump at la : ℕ) → CaseArms → Type 0
    CasesRun jump at la arms =
        Stands code at (cases_code p tables r line lo bound jump at la arms otherwise) → (exit : ℕ)
        → exit ≡ at + length (cases_code p tables r line lo bound jump at la arms otherwise) → LeadsTo code input 7 jump exit
        → (v : Store) (n : ℤ) → GoesAt lo bound exit v n apart behind kind kind2 7
        at (ev_cases p input below arms n v (ev_else p input below els))

    pub unlabelled_run : (jump at la : ℕ) (body : Stmts) (rest : CaseArms) → CasesRun jump at la rest
        → CasesRun jump at la (more_cases [] body rest)
    unfolding ev_stmts
    unlabelled_run jump at la body rest h = h

    -- one arm; it leaves from behind its body
    arm_goes : (at la exit : ℕ) (label : Range) (labels : List Range) (body : Stmts) (rest : Store → ℤ → Events NoYield) (v : Store) (n : ℤ)
        → lo ≤ la → Stands code at (case_arm line lo bound at label labels (stmts_code p tables r (behind_labels at label labels) la body))
        → ListRuns p tables code input below r line q may (behind_labels at label labels) la body
        → LeadsTo code input 8 (behind_labels at label labels + length (stmts_code p tables r (behind_labels at label labels) la body)) exit
        → GoesAt lo bound exit v n apart behind kind kind2 8
        (behind_labels at label labels + length (stmts_code p tables r (behind_labels at label labels) la body) + 1) (rest v n)
        → GoesAt lo bound exit v n apart behind kind kind2 0
        at (try_labels (label ∷ labels) n (λ _. node (ev_stmts p input below body v)) (λ _. rest v n))
    arm_goes at la exit label labels body rest v n le stands runs leads later =
        let hit : ℕ = behind_labels at label labels in
        let made : List LineInstr = stmts_code p tables r hit la body in
        let miss : ℕ = hit + length made + 1 in
        let front : List LineInstr = own line (labels_code lo bound at hit miss label labels) in
        let here : at + length front ≡ hit =
        omega (arith, own_long line (labels_code lo bound at hit miss label labels), labels_long lo bound at hit miss label labels) in
        let body_at : Stands code hit made = subst (λ m. Stands code m made) here (stands_back code at front made stands) in
        labels_go lo bound exit v n apart behind kind kind2 at hit miss label labels (λ _. node (ev_stmts p input below body v))
        (λ _. rest v n) refl (stands_front code at front made stands)
        (λ t b value held s there.
        weaker code input line 0 24 (Leaves exit (ending p code input may lo r t)) held (visit_each (ev_stmts p input below body v)) s 40 8
        q q (omega arith) (omega arith)
        (inner_goes code input line hit (hit + length made) exit t (ending p code input may lo r t) (ev_stmts p input below body v) q leads
        (on_ending p code input may line hit (hit + length made) lo la r v t t (ev_stmts p input below body v) q le behind
        (left_self p code input lo r v t b) (runs body_at v t b)) held s there))
        later

    pub labelled_run : (jump at la : ℕ) (label : Range) (labels : List Range) (body : Stmts) (rest : CaseArms) → lo ≤ la
        → ((next : ℕ) → ListRuns p tables code input below r line q may next la body)
        → ((next : ℕ) → CasesRun jump next (behind_stmts p r la body) rest) → CasesRun jump at la (more_cases (label ∷ labels) body rest)
    unfolding ev_stmts
    labelled_run jump at la label labels body rest le runs others stands exit is leads v n now b value =
        let hit : ℕ = behind_labels at label labels in
        let made : List LineInstr = stmts_code p tables r hit la body in
        let head : List LineInstr = case_arm line lo bound at label labels made in
        let out : List LineInstr = own line (I.Jump jump ∷ []) in
        let next : ℕ = at + length (head ++ out) in
        let after : List LineInstr = cases_code p tables r line lo bound jump next (behind_stmts p r la body) rest otherwise in
        let front = stands_front code at (head ++ out) after stands in
        let back = stands_back code at head out front in
        let labels_part : List LineInstr = own line (labels_code lo bound at hit (hit + length made + 1) label labels) in
        let long : length head ≡ length labels_part + length made = length-append labels_part made in
        let y : ℕ = hit + length made in
        let tests : List Instr = labels_code lo bound at hit (hit + length made + 1) label labels in
        let ends : at + length head ≡ y =
        omega (arith, long, own_long line tests, labels_long lo bound at hit (hit + length made + 1) label labels) in
        let both : length (head ++ out) ≡ length head + 1 = length-append head out in
        let whole : length ((head ++ out) ++ after) ≡ length (head ++ out) + length after = length-append (head ++ out) after in
        let here : next ≡ y + 1 = omega (arith, both, ends) in
        let end : exit ≡ next + length after = omega (arith, is, whole) in
        let jump_at : InstrAt code input line y (I.Jump jump) =
        subst (λ m. InstrAt code input line m (I.Jump jump)) ends (record { instr = back.0; on_line = back.1 }) in
        from_more p code input line 0 7 at exit now (ending p code input may lo r now)
        (ev_cases p input below (more_cases (label ∷ labels) body rest) n v (ev_else p input below els)) q (omega arith)
        (arm_goes at la exit label labels body (λ u k. ev_cases p input below rest k u (ev_else p input below els)) v n le
        (stands_front code at head out front) (runs hit)
        (leads_then code input line 7 y jump exit jump_at leads)
        (with_one lo bound exit v n apart behind kind kind2 (y + 1) (ev_cases p input below rest n v (ev_else p input below els))
        (subst (λ m. GoesAt lo bound exit v n apart behind kind kind2 7 m (ev_cases p input below rest n v (ev_else p input below els)))
        here (others next (stands_back code at (head ++ out) after stands) exit end leads v n))) now b value)

  pub no_else_run : (lo bound jump at la : ℕ) (apart : lo < bound) (behind : own_end p r ≤ lo)
      (kind : slice_get (kinds_at code r) bound ≡ Some slot.Number) (kind2 : slice_get (kinds_at code r) (bound + 1) ≡ Some slot.Number)
      → CasesRun lo bound apart behind kind kind2 no_else jump at la no_cases
  unfolding ev_stmts
  no_else_run lo bound jump at la apart behind kind kind2 stands exit is leads v n now b value =
      faults_here p code input line 6 at exit now (ending p code input may lo r now) fault.NoCase q
      (λ held s there. fault_step code input line at now held s there 5 fault.NoCase (record { instr = stands.0; on_line = stands.1 })
      refl)

  pub else_run : (lo bound jump at la : ℕ) (apart : lo < bound) (behind : own_end p r ≤ lo)
      (kind : slice_get (kinds_at code r) bound ≡ Some slot.Number) (kind2 : slice_get (kinds_at code r) (bound + 1) ≡ Some slot.Number)
      (body : Stmts) → lo ≤ la
      → ListRuns p tables code input below r line q may at la body
      → CasesRun lo bound apart behind kind kind2 (else_part body) jump at la no_cases
  unfolding ev_stmts
  else_run lo bound jump at la apart behind kind kind2 body le runs stands exit is leads v n now b value =
      let there : ℕ = at + length (stmts_code p tables r at la body) in
      let w = ending p code input may la r now in
      let e : Events NoYield = ev_stmts p input below body v in
      subst (λ m. From p code input line 7 at m now (ending p code input may lo r now) e q) (sym is)
      (from_ending p code input may line 7 at there lo la r v now now e q le behind (left_self p code input lo r v now b)
      (λ held s here. credited code input line 7 0 0 24 (Leaves there w) held e s 7 q (omega arith)
      (runs stands v now b 7 (omega arith) held s here)))

  -- ---- the arms without labels: a jump leads over them

  over_goes : (z : Bool) (at exit : ℕ) (dead : List LineInstr) (now : List PlainFrame) (w : Ways NoYield) (e : Events NoYield)
      → Stands code at (passed_over z line at dead) → From p code input line 7 (at + length (passed_over z line at dead)) exit now w e q
      → From p code input line 8 at exit now w e q
  over_goes true at exit dead now w e i h =
      let here : at + suc (length dead) ≡ at + 1 + length dead = omega arith in
      past_from p tables code input below r line q 7 at (at + 1 + length dead) exit now w e
      (λ held s there. jumps code input line at (at + 1 + length dead) now held s there (record { instr = i.0; on_line = i.1 }))
      (subst (λ m. From p code input line 7 m exit now w e q) here h)
  over_goes false at exit dead now w e i h =
      let here : at + 0 ≡ at = omega arith in
      from_more p code input line 7 8 at exit now w e q (omega arith) (subst (λ m. From p code input line 7 m exit now w e q) here h)

  -- ---- the whole: the value, and the arms from the first on

  module _ (lo bound : ℕ) (apart : lo < bound) (behind : own_end p r ≤ lo) (kind : slice_get (kinds_at code r) bound ≡ Some slot.Number)
      (kind2 : slice_get (kinds_at code r) (bound + 1) ≡ Some slot.Number) (els : Else) where
    abbrev pub FirstRun : (at la : ℕ) → CaseArms → Type 0
    FirstRun at la arms =
        Stands code at (case_code p tables r line lo bound at la arms (λ next la. else_code p tables r line next la els)) → (exit : ℕ)
        → exit ≡ at + length (case_code p tables r line lo bound at la arms (λ next la. else_code p tables r line next la els))
        → (v : Store) (n : ℤ) → GoesAt lo bound exit v n apart behind kind kind2 7
        at (ev_cases p input below arms n v (ev_else p input below els))

    pub no_first_run : (at la : ℕ) → ((jump : ℕ) → CasesRun lo bound apart behind kind kind2 els jump at la no_cases)
        → FirstRun at la no_cases
    no_first_run at la h stands exit is v n = h exit stands exit is (leads_nowhere code input 7 exit) v n

    pub unlabelled_first_run : (at la : ℕ) (body : Stmts) (rest : CaseArms) → FirstRun at la rest → FirstRun at la (more_cases [] body rest)
    unfolding ev_stmts
    unlabelled_first_run at la body rest h = h

    pub labelled_first_run : (at la : ℕ) (label : Range) (labels : List Range) (body : Stmts) (rest : CaseArms) → lo ≤ la
        → ((next : ℕ) → ListRuns p tables code input below r line q may next la body)
        → ((jump next : ℕ) → CasesRun lo bound apart behind kind kind2 els jump next (behind_stmts p r la body) rest)
        → FirstRun at la (more_cases (label ∷ labels) body rest)
    unfolding ev_stmts
    labelled_first_run at la label labels body rest le runs others stands exit is v n now b value =
        let hit : ℕ = behind_labels at label labels in
        let made : List LineInstr = stmts_code p tables r hit la body in
        let head : List LineInstr = case_arm line lo bound at label labels made in
        let jump : ℕ = at + length head in
        let next : ℕ = at + length head + 1 in
        let after : List LineInstr = cases_code p tables r line lo bound jump next (behind_stmts p r la body) rest
        (λ next la. else_code p tables r line next la els) in
        let out : List LineInstr = own line (I.Jump (jump + 1 + length after) ∷ []) in
        let back = stands_back code at head (out ++ after) stands in
        let labels_part : List LineInstr = own line (labels_code lo bound at hit (hit + length made + 1) label labels) in
        let long : length head ≡ length labels_part + length made = length-append labels_part made in
        let y : ℕ = hit + length made in
        let tests : List Instr = labels_code lo bound at hit (hit + length made + 1) label labels in
        let ends : jump ≡ y =
        omega (arith, long, own_long line tests, labels_long lo bound at hit (hit + length made + 1) label labels) in
        let whole : length (head ++ (out ++ after)) ≡ length head + suc (length after) = length-append head (out ++ after) in
        let end : jump + 1 + length after ≡ exit = omega (arith, is, whole) in
        let here : next ≡ y + 1 = omega (arith, ends) in
        let last : exit ≡ next + length after = omega (arith, is, whole) in
        let i : InstrAt code input line jump (I.Jump exit) =
        subst (λ m. InstrAt code input line jump (I.Jump m)) end (record { instr = back.0; on_line = back.1 }) in
        from_more p code input line 0 7 at exit now (ending p code input may lo r now)
        (ev_cases p input below (more_cases (label ∷ labels) body rest) n v (ev_else p input below els)) q (omega arith)
        (arm_goes lo bound apart behind kind kind2 els at la exit label labels body
        (λ u k. ev_cases p input below rest k u (ev_else p input below els)) v n le (stands_front code at head (out ++ after) stands)
        (runs hit)
        (subst (λ m. LeadsTo code input 8 m exit) ends (leads_by_jump code input line 8 jump exit (omega arith) i))
        (with_one lo bound exit v n apart behind kind kind2 (y + 1) (ev_cases p input below rest n v (ev_else p input below els))
        (subst (λ m. GoesAt lo bound exit v n apart behind kind kind2 7 m (ev_cases p input below rest n v (ev_else p input below els)))
        here
        (others jump next back.2 exit last (leads_by_jump code input line 7 jump exit (omega arith) i) v n))) now b value)

    pub case_runs : (at la : ℕ) (x : Expr) (arms : CaseArms) → bound ≡ behind_dead p r (behind_expr p r lo x) arms → la ≡ bound + 2
        → ExprRuns p tables code input below r line q at lo x → ((next : ℕ) → FirstRun next la arms)
        → StatementRuns p tables code input below r line q may at lo (Case x arms els)
    unfolding ev_stmts
    case_runs at la x arms is_bound is_la runs first stands v now b =
        let inner : List LineInstr = expr_code p tables r line at lo x in
        let m : ℕ = at + length inner in
        let dead : List LineInstr = dead_code p tables r (m + 1) (behind_expr p r lo x) arms in
        let over : List LineInstr = passed_over (has_dead arms) line m dead in
        let next : ℕ = m + length over in
        let after = λ (d a : ℕ). case_code p tables r line lo d next a arms (λ next la. else_code p tables r line next la els) in
        let known : ℕ = behind_dead p r (behind_expr p r lo x) arms in
        let rest : List LineInstr = after known (known + 2) in
        let same : rest ≡ after bound la = ap (λ d. after d (d + 2)) (sym is_bound) ∙ ap (after bound) (sym is_la) in
        let whole : length (inner ++ (over ++ rest)) ≡ length inner + length (over ++ rest) = length-append inner (over ++ rest) in
        let second : length (over ++ rest) ≡ length over + length rest = length-append over rest in
        let exit : ℕ = at + length (inner ++ (over ++ rest)) in
        let end : exit ≡ next + length (after bound la) = omega (arith, whole, second, ap length same) in
        let w = ending p code input may lo r now in
        let behind_inner = stands_back code at inner (over ++ rest) stands in
        as_runs p code input line at exit now w (node
        (bind (ev_expr p input below x v) (λ t n. ev_cases p input below arms n t (ev_else p input below els)))) q
        (node_runs p code input line 0 at exit now w
        (bind (ev_expr p input below x v) (λ t n. ev_cases p input below arms n t (ev_else p input below els))) q (omega arith)
        (then_ending p code input may line at m exit lo lo r now (ValueIn p code input lo) (ev_expr p input below x v)
        (λ t n. ev_cases p input below arms n t (ev_else p input below els)) q (omega arith) behind
        (runs (stands_front code at inner (over ++ rest) stands) v now b)
        (λ u n t left value. over_goes (has_dead arms) m exit dead t (ending p code input may lo r t)
        (ev_cases p input below arms n u (ev_else p input below els)) (stands_front code m over rest behind_inner)
        (first next (subst (Stands code next) same (stands_back code m over rest behind_inner)) exit end u n t
        (begins p code input lo r now u t left) value))))
