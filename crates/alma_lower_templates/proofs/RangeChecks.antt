-- The check that a number is in a range, which has no code for a range of all numbers; and CHR.
use Rattle.std.proofs.Common.{◌≡◌, ℕ, suc, ◌+◌, Bool, true, false, List, [], ◌∷◌, ◌++◌, length, refl, sym, subst, arith, ℤ, pos, negsuc}
use Rattle.std.specs.Prelude.{int_le}
use Rattle.std.proofs.lemmas.List.{length-append}
use Rattle.std.proofs.lemmas.Bool.{and_parts, and_from}
use Rattle.std.proofs.lemmas.Bool.Decides.{nat_tests}
use Rattle.std.proofs.lemmas.Int.{ints}
use Rattle.alma_base.specs.declared.fault.RunFault.TheVariants as fault
use Rattle.alma_base.specs.declared.number.Range.{Range}
use Rattle.alma_base.specs.Numbers.{char_range, within, is_integer, whole_range}
use Rattle.alma_code.specs.declared.instr.Instr.{Instr}
use Rattle.alma_code.specs.declared.instr.Instr.TheVariants as I
use Rattle.alma_code.specs.Lines.{line_at}
use Rattle.alma_code.specs.Picture.{PlainFrame}
use Rattle.alma_code.specs.Plain.{PlainCode}
use Rattle.alma_ir.specs.Tree.{Program, Expr, Chr}
use Rattle.alma_mean.specs.Events.{Events, one, bind}
use Rattle.alma_mean.specs.Arithmetic.{check_range, fault_unless}
use Rattle.alma_mean.specs.Meaning.{Level, ev_expr}
use Rattle.alma_lower_implements.proofs.Goes.{before}
use Rattle.alma_lower_implements.proofs.Frames.{HasSlots}
use Rattle.alma_lower_implements.proofs.BareRow.{ReadsFirst}
use Rattle.alma_lower_implements.proofs.Steps.{InstrAt}
use Rattle.alma_lower_implements.proofs.Ways.{Ways, Leaves}
use Rattle.alma_lower_templates.specs.LineInstr.{LineInstr, own}
use Rattle.alma_lower_templates.specs.Tables.{Tables, range_number, is_whole}
use Rattle.alma_lower_templates.specs.Slots.{expr_slots}
use Rattle.alma_lower_templates.specs.Pieces.{unless_whole, fit_code}
use Rattle.alma_lower_templates.specs.Templates.{expr_code}
use Rattle.alma_lower_templates.specs.Stands.{Stands}
use Rattle.alma_lower_templates.proofs.Stands.{stands_front, stands_back}
use Rattle.alma_lower_templates.proofs.Parts.{begins, IsValue, ValueIn, NodeRuns, From, Takes, leaving, from_more, node_runs, then_from}
use Rattle.alma_lower_templates.proofs.Parts.{faults_here, ends_here}
use Rattle.alma_lower_templates.proofs.PlaceSteps.{in_range_reads, in_range_passes, in_range_faults}
use Rattle.alma_lower_templates.proofs.FormRuns.{ExprRuns, HasRange, FitsRange}

-- a number of INTEGER is in a range of all of them
in_whole : (low high n : ℤ) → int_le low whole_range.low ≡ true → int_le whole_range.high high ≡ true → is_integer n ≡ true
    → (int_le low n ≡ true) × (int_le n high ≡ true)
in_whole (pos low) (pos high) (pos n) a b h = grind (arith, ints, nat_tests)
in_whole (pos low) (pos high) (negsuc n) a b h = grind (arith, ints, nat_tests)
in_whole (pos low) (negsuc high) (pos n) a b h = grind (arith, ints, nat_tests)
in_whole (pos low) (negsuc high) (negsuc n) a b h = grind (arith, ints, nat_tests)
in_whole (negsuc low) (pos high) (pos n) a b h = grind (arith, ints, nat_tests)
in_whole (negsuc low) (pos high) (negsuc n) a b h = grind (arith, ints, nat_tests)
in_whole (negsuc low) (negsuc high) (pos n) a b h = grind (arith, ints, nat_tests)
in_whole (negsuc low) (negsuc high) (negsuc n) a b h = grind (arith, ints, nat_tests)

pub whole_within : (range : Range) (n : ℤ) → is_whole range ≡ true → is_integer n ≡ true → within range n ≡ true
whole_within range n whole h =
    let z = and_parts (int_le range.low whole_range.low) (int_le whole_range.high range.high) whole in
    let w = in_whole range.low range.high n z.0 z.1 h in
    and_from (int_le range.low n) (int_le n range.high) w.0 w.1

module _ (p : Program) (tables : Tables) (code : PlainCode) (input : List ℕ) (below : Level) (r line q : ℕ) where
  -- a step that leaves the frames as they are
  pub past_from : {A : Type 0} (c at m exit : ℕ) (now : List PlainFrame) (w : Ways A) (e : Events A) → Takes p code input at m now now
      → From p code input line c m exit now w e q → From p code input line (suc c) at exit now w e q
  past_from c at m exit now w e takes h held s is =
      let z = takes held s is in
      before code input line 0 24 (Leaves exit w) held e s z.to 1 (suc c) c q q z.silently (omega arith) (omega arith) (h held z.to z.is)

  -- a check by an instruction
  pub check_from : {A : Type 0} (at exit value : ℕ) (range : Range) (n : ℤ) (now : List PlainFrame) (w : Ways A) (e : Events A)
      → HasRange p tables code input below r line q range → InstrAt code input line at (I.InRange value (range_number tables range))
      → IsValue p code input value n now
      → (within range n ≡ true → From p code input line 7 (at + 1) exit now w e q)
      → From p code input line 8 at exit now w (check_range range n (λ _. e)) q
  check_from at exit value range n now w e has i h later = by (within range n) refl
    where
      by : (z : Bool) → within range n ≡ z → From p code input line 8 at exit now w (fault_unless fault.Range z (λ _. e)) q
      by true is = past_from 7 at (at + 1) exit now w e
          (λ held s there. in_range_passes code input line at now held s there value (range_number tables range) range n i has h.holds is)
          (later is)
      by false is = faults_here p code input line 7 at exit now w fault.Range q
          (λ held s there. in_range_faults code input line at now held s there value (range_number tables range) range n i has h.holds is)

  module _ (at value : ℕ) (range : Range) (i : Instr) where
    -- the check, and the instruction behind it
    abbrev checked : Bool → List LineInstr
    checked z = own line (unless_whole z (I.InRange value (range_number tables range) ∷ []) ++ (i ∷ []))

    abbrev behind_check : Bool → ℕ
    behind_check z = at + length (own line (unless_whole z (I.InRange value (range_number tables range) ∷ [])))

    fit_by : {A : Type 0} (z : Bool) (exit : ℕ) (n : ℤ) (now : List PlainFrame) (w : Ways A) (e : Events A) → is_whole range ≡ z
        → FitsRange p tables code input below r line q range → Stands code at (checked z) → IsValue p code input value n now
        → (InstrAt code input line (behind_check z) i → within range n ≡ true → From p code input line 7 (behind_check z) exit now w e q)
        → From p code input line 8 at exit now w (check_range range n (λ _. e)) q
    fit_by true exit n now w e is has stands h later =
        let zero : at + 0 ≡ at = omega arith in
        let in_it = whole_within range n is h.integer in
        subst (λ z. From p code input line 8 at exit now w (fault_unless fault.Range z (λ _. e)) q) (sym in_it)
        (from_more p code input line 7 8 at exit now w e q (omega arith)
        (subst (λ m. From p code input line 7 m exit now w e q) zero
        (later (subst (λ m. InstrAt code input line m i) (sym zero) (record { instr = stands.0; on_line = stands.1 })) in_it)))
    fit_by false exit n now w e is has stands h later =
        check_from at exit value range n now w e (has is) (record { instr = stands.0; on_line = stands.1 }) h
        (λ in_it. later (record { instr = stands.2.0; on_line = stands.2.1 }) in_it)

    line_by : (z : Bool) → Stands code at (checked z) → line_at code at ≡ line
    line_by true stands = stands.1
    line_by false stands = stands.1

    reads_by : (z : Bool) (now : List PlainFrame) → (z ≡ false → HasRange p tables code input below r line q range)
        → Stands code at (checked z) → (InstrAt code input line at i → ReadsFirst code input at value now)
        → ReadsFirst code input at value now
    reads_by true now has stands reads held s is = reads (record { instr = stands.0; on_line = stands.1 }) held s is
    reads_by false now has stands reads held s is = (
      _,
      in_range_reads code input line at now held s is value (range_number tables range) range
          (record { instr = stands.0; on_line = stands.1 }) (has refl),
    )

    long_by : (z : Bool) → length (checked z) ≡ length (own line (unless_whole z (I.InRange value (range_number tables range) ∷ []))) + 1
    long_by true = refl
    long_by false = refl

    abbrev pub Checked : Type 0
    Checked = Stands code at (own line (fit_code tables range value ++ (i ∷ [])))

    abbrev pub behind_fit : ℕ
    behind_fit = at + length (own line (fit_code tables range value))

    pub fit_from : {A : Type 0} (exit : ℕ) (n : ℤ) (now : List PlainFrame) (w : Ways A) (e : Events A)
        → FitsRange p tables code input below r line q range → Checked → IsValue p code input value n now
        → (InstrAt code input line behind_fit i → within range n ≡ true → From p code input line 7 behind_fit exit now w e q)
        → From p code input line 8 at exit now w (check_range range n (λ _. e)) q
    fit_from exit n now w e has stands h later = fit_by (is_whole range) exit n now w e refl has stands h later

    pub fit_line : Checked → line_at code at ≡ line
    fit_line stands = line_by (is_whole range) stands

    pub fit_reads : (now : List PlainFrame) → FitsRange p tables code input below r line q range → Checked
        → (InstrAt code input line at i → ReadsFirst code input at value now) → ReadsFirst code input at value now
    fit_reads now has stands reads = reads_by (is_whole range) now has stands reads

    pub fit_long : at + length (own line (fit_code tables range value ++ (i ∷ []))) ≡ behind_fit + 1
    fit_long = omega (arith, long_by (is_whole range))

  -- ---- CHR

  pub chr_runs : (at lo : ℕ) (x : Expr) → HasSlots p code r lo (expr_slots p r x) → HasRange p tables code input below r line q char_range
      → ExprRuns p tables code input below r line q at lo x → ExprRuns p tables code input below r line q at lo (Chr x)
  unfolding ev_expr
  chr_runs at lo x slots has runs stands v now b =
      let inner : List LineInstr = expr_code p tables r line at lo x in
      let m : ℕ = at + length inner in
      let last : List LineInstr = own line (I.InRange lo (range_number tables char_range) ∷ []) in
      let back = stands_back code at inner last stands in
      let whole : length (inner ++ last) ≡ length inner + 1 = length-append inner last in
      let end : m + 1 ≡ at + length (inner ++ last) = omega (arith, whole) in
      let w = leaving p code input lo r now (ValueIn p code input lo) in
      subst (λ n. NodeRuns p code input line at n now w (ev_expr p input below (Chr x) v) q) end
      (node_runs p code input line 0 at (m + 1) now w (bind (ev_expr p input below x v) (λ t n. check_range char_range n (λ _. one t n))) q
      (omega arith)
      (then_from p code input line at m (m + 1) lo lo r now (ValueIn p code input lo) (ValueIn p code input lo) (ev_expr p input below x v)
      (λ t n. check_range char_range n (λ _. one t n)) q (omega arith) slots.behind
      (runs (stands_front code at inner last stands) v now b)
      (λ u n t left value.
      check_from m (m + 1) lo char_range n t (leaving p code input lo r t (ValueIn p code input lo)) (one u n) has
      (record { instr = back.0; on_line = back.1 }) value
      (λ in_it. ends_here p code input line 7 (m + 1) lo r u t (ValueIn p code input lo) n q (begins p code input lo r now u t left)
      value))))
