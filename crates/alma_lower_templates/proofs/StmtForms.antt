-- Statements without parts that are statements, from template to run: assignment and WRITE; and the value of an expression
-- as a test.
use Rattle.std.proofs.Common.{◌≡◌, ℕ, suc, ◌+◌, ◌-◌, ◌≤◌, Bool, true, false, List, [], ◌∷◌, ◌++◌, length, Option, Some, None, refl, sym, ap}
use Rattle.std.proofs.Common.{◌∙◌, subst, arith, ℤ}
use Rattle.std.specs.Prelude.{slice_get}
use Rattle.std.proofs.lemmas.List.{length-append}
use Rattle.alma_base.specs.declared.fault.RunFault.TheVariants as fault
use Rattle.alma_base.specs.Choice.{if_true}
use Rattle.alma_base.specs.Numbers.{is_zero}
use Rattle.alma_base.specs.declared.number.Range.{Range}
use Rattle.alma_code.specs.declared.instr.Instr.{Instr}
use Rattle.alma_code.specs.declared.instr.Instr.TheVariants as I
use Rattle.alma_code.specs.Picture.{PlainFrame, PlainEntry}
use Rattle.alma_code.specs.Plain.{PlainCode}
use Rattle.alma_code.specs.Machine.{State, act}
use Rattle.alma_ir.specs.declared.phrase.WriteAs.{WriteAs}
use Rattle.alma_ir.specs.declared.phrase.WriteAs.TheVariants as write_as
use Rattle.alma_ir.specs.Tree.{Program, Expr, Desig, Test, Assign, WriteExpr, WriteText, WriteLine, TestStmt, Value}
use Rattle.alma_ir.specs.Checked.{desig_cells}
use Rattle.alma_mean.specs.Store.{Store, Place, Number, put, put_at, put_top, top}
use Rattle.alma_mean.specs.Events.{Events, NoYield, Print, Fail, one, bind}
use Rattle.alma_mean.specs.Arithmetic.{check_range, fault_unless, written_text}
use Rattle.alma_mean.specs.Meaning.{Level, ev_stmt, ev_test, ev_expr, ev_desig}
use Rattle.alma_lower_implements.proofs.Goes.{IsOn, no_step, one_goes}
use Rattle.alma_lower_implements.proofs.Frames.{shift, own_end, IsAt}
use Rattle.alma_lower_implements.proofs.ExprRows.{AreVariables}
use Rattle.alma_lower_implements.proofs.BareRow.{ReadsFirst}
use Rattle.alma_lower_implements.proofs.Steps.{InstrAt, PrintsNow, does, check_fails, check_passes, write_int_step, write_bool_step}
use Rattle.alma_lower_implements.proofs.Steps.{write_char_step, write_line_step}
use Rattle.alma_lower_implements.proofs.Ways.{Leaves}
use Rattle.alma_lower_templates.specs.LineInstr.{LineInstr, own, in_row}
use Rattle.alma_lower_templates.specs.Tables.{Tables, text_number, is_whole}
use Rattle.alma_lower_templates.specs.Slots.{bare, bare_desig, unless_bare, goes_straight, desig_slots}
use Rattle.alma_lower_templates.specs.Pieces.{fit_code, straight, write_code}
use Rattle.alma_lower_templates.specs.Templates.{test_code, expr_code, value_at, set_by, set_to}
use Rattle.alma_lower_templates.specs.Stands.{Stands}
use Rattle.alma_lower_templates.proofs.Stands.{stands_front, stands_back}
use Rattle.alma_lower_templates.proofs.Parts.{Begins, begins, Left, left_self, left_less, IsValue, Nothing, NodeRuns, NodeFor, From}
use Rattle.alma_lower_templates.proofs.Parts.{leaving, from_more, node_runs, node_from, fails_here, ends_here}
use Rattle.alma_lower_templates.proofs.AtOnce.{AtOnce, BareFits, at_once}
use Rattle.alma_lower_templates.proofs.Tested.{ChecksValue}
use Rattle.alma_lower_templates.proofs.RangeChecks.{past_from, fit_from, fit_line, fit_reads, fit_long, behind_fit, whole_within}
use Rattle.alma_lower_templates.proofs.Destinations.{into, then_into}
use Rattle.alma_lower_templates.proofs.ExprForms.{RunsTo}
use Rattle.alma_lower_templates.proofs.Straight.{alone_bare, put_count, GoesStraight, straight_is}
use Rattle.alma_lower_templates.proofs.Targets.{target_after, target_from, set_from, set_reads}
use Rattle.alma_lower_templates.proofs.PlaceSteps.{write_text_step}
use Rattle.alma_lower_templates.proofs.FormRuns.{held_code, HeldRuns, TestRuns, StmtRuns, FitsRange}

module _ (p : Program) (tables : Tables) (code : PlainCode) (input : List ℕ) (below : Level) (r line q : ℕ) where
  -- ---- assignment

  assign_of : (o : Option ℕ) (at lo : ℕ) (d : Desig) (x : Expr) (range : Range) → bare_desig d ≡ o
      → BareFits p tables code input below r line q o → desig_cells d ≡ 1 → own_end p r ≤ lo
      → FitsRange p tables code input below r line q range
      → (o ≡ None → HeldRuns p tables code input below r line q at lo d)
      → ((next : ℕ) → AtOnce p tables code input below r line q next (lo + length (unless_bare o (desig_slots p r d))) x)
      → (made : List LineInstr) → made ≡ in_row at (unless_bare o (held_code p tables r line at lo d))
      (λ next. unless_bare (bare x) (expr_code p tables r line next (lo + length (unless_bare o (desig_slots p r d))) x))
      ++ own line (fit_code tables range (value_at p tables r (lo + length (unless_bare o (desig_slots p r d))) x)
      ++ (set_by p tables r o lo (value_at p tables r (lo + length (unless_bare o (desig_slots p r d))) x) d ∷ []))
      → NodeFor p code input r line at lo made (ev_stmt p input below (Assign d x range)) (Nothing p code input) q
  unfolding ev_expr
  assign_of o at lo d x range e fits cells behind has runs once made is stands v now b =
      let lo2 : ℕ = lo + length (unless_bare o (desig_slots p r d)) in
      let first : List LineInstr = unless_bare o (held_code p tables r line at lo d) in
      let m : ℕ = at + length first in
      let second : List LineInstr = unless_bare (bare x) (expr_code p tables r line m lo2 x) in
      let operand : ℕ = value_at p tables r lo2 x in
      let set : Instr = set_by p tables r o lo operand d in
      let last : List LineInstr = own line (fit_code tables range operand ++ (set ∷ [])) in
      let there : Stands code at ((first ++ second) ++ last) = subst (Stands code at) is stands in
      let front = stands_front code at (first ++ second) last there in
      let both : length (first ++ second) ≡ length first + length second = length-append first second in
      let whole : length ((first ++ second) ++ last) ≡ length (first ++ second) + length last = length-append (first ++ second) last in
      let m2 : ℕ = m + length second in
      let here : at + length (first ++ second) ≡ m2 = omega (arith, both) in
      let sets_at : Stands code m2 last = subst (λ n. Stands code n last) here (stands_back code at (first ++ second) last there) in
      let out : ℕ = behind_fit p tables code input below r line q m2 operand range set in
      let exit : ℕ = out + 1 in
      let long : length made ≡ length ((first ++ second) ++ last) = ap length is in
      let end : exit ≡ at + length made = omega (arith, both, whole, long, fit_long p tables code input below r line q m2 operand range set)
      in
      let w = leaving p code input lo r now (Nothing p code input) in
      subst (λ n. NodeRuns p code input line at n now w (ev_stmt p input below (Assign d x range) v) q) end
      (node_runs p code input line 0 at exit now w
      (bind (ev_desig p input below d v) (λ t a. bind (ev_expr p input below x t)
      (λ u n. check_range range n (λ _. one (put_at u a (Number n)) tt)))) q (omega arith)
      (target_from p tables code input below r line q o at exit lo lo d v now (Nothing p code input)
      (λ t a. bind (ev_expr p input below x t) (λ u n. check_range range n (λ _. one (put_at u a (Number n)) tt))) e (omega arith)
      behind b runs (stands_front code at first second front)
      (λ u a t left target.
      let b1 = begins p code input lo r now u t left in
      from_more p code input line 0 8 m exit t (leaving p code input lo r t (Nothing p code input))
      (bind (ev_expr p input below x u) (λ u2 n. check_range range n (λ _. one (put_at u2 a (Number n)) tt))) q (omega arith)
      (at_once p tables code input below r line q exit lo lo2 m u t (Nothing p code input)
      (λ u2 n. check_range range n (λ _. one (put_at u2 a (Number n)) tt)) (omega arith) behind b1 x (once m)
      (stands_back code at first second front)
      (fit_line p tables code input below r line q m2 operand range set sets_at)
      (fit_reads p tables code input below r line q m2 operand range set t has sets_at
      (λ i. set_reads p tables code input below r line q o m2 lo operand d u a t target i))
      (λ u2 n t2 left2 value.
      let b2 = begins p code input lo2 r t u2 t2 left2 in
      fit_from p tables code input below r line q m2 operand range set exit n t2 (leaving p code input lo r t2 (Nothing p code input))
      (one (put_at u2 a (Number n)) tt) has sets_at value
      (λ i in_it.
      set_from p tables code input below r line q o 6 out exit lo lo operand d u2 t2 a n (Nothing p code input)
      (one (put_at u2 a (Number n)) tt) fits cells behind b2
      (target_after p tables code input below r line q o lo lo2 d a u u2 t t2 b1 behind (omega arith) left2 target) value i
      (λ t3 left3. ends_here p code input line 6 exit lo r (put_at u2 a (Number n)) t3 (Nothing p code input) tt q
      (begins p code input lo r t2 (put_at u2 a (Number n)) t3 left3) tt)))))))

  -- the value goes straight into the variable
  straight_runs : (at lo to : ℕ) (d : Desig) (x : Expr) (range : Range) → bare_desig d ≡ Some to → is_whole range ≡ true → bare x ≡ None
      → own_end p r ≤ lo → ((next la : ℕ) → la ≡ lo
      → RunsTo p tables code input below r line q (into p code input to la r) next
      (straight (shift p r + to) (expr_code p tables r line next la x)) x)
      → NodeFor p code input r line at lo (straight (shift p r + to)
      (in_row at (unless_bare (bare_desig d) (held_code p tables r line at lo d))
      (λ next. unless_bare (bare x) (expr_code p tables r line next (lo + length (unless_bare (bare_desig d) (desig_slots p r d))) x))))
      (ev_stmt p input below (Assign d x range)) (Nothing p code input) q
  unfolding ev_expr
  straight_runs at lo to d x range e whole none behind runs =
      subst (λ o. NodeFor p code input r line at lo
      (straight (shift p r + to) (in_row at (unless_bare o (held_code p tables r line at lo d))
      (λ next. unless_bare (bare x) (expr_code p tables r line next (lo + length (unless_bare o (desig_slots p r d))) x))))
      (ev_stmt p input below (Assign d x range)) (Nothing p code input) q) (sym e)
      (subst (λ o. NodeFor p code input r line at lo
      (straight (shift p r + to) (unless_bare o (expr_code p tables r line (at + 0) (lo + 0) x)))
      (ev_stmt p input below (Assign d x range)) (Nothing p code input) q) (sym none) goes)
    where
      goes : NodeFor p code input r line at lo (straight (shift p r + to) (expr_code p tables r line (at + 0) (lo + 0) x))
          (ev_stmt p input below (Assign d x range)) (Nothing p code input) q
      goes stands v now b =
          let la : ℕ = lo + 0 in
          let same : la ≡ lo = omega arith in
          let made : List LineInstr = straight (shift p r + to) (expr_code p tables r line (at + 0) la x) in
          let zero : at + 0 ≡ at = omega arith in
          let there : Stands code (at + 0) made = subst (λ m. Stands code m made) (sym zero) stands in
          let exit : ℕ = at + 0 + length made in
          let end : exit ≡ at + length made = omega arith in
          let w = leaving p code input lo r now (Nothing p code input) in
          let k : Place → Store → ℤ → Events NoYield = λ a u n. check_range range n (λ _. one (put_at u a (Number n)) tt) in
          subst (λ n. NodeRuns p code input line at n now w (ev_stmt p input below (Assign d x range) v) q) end
          (node_runs p code input line 0 at exit now w (bind (ev_desig p input below d v) (λ t a. bind (ev_expr p input below x t) (k a))) q
          (omega arith)
          (target_from p tables code input below r line q (Some to) at exit lo lo d v now (Nothing p code input)
          (λ t a. bind (ev_expr p input below x t) (k a)) e (omega arith) behind b (λ bad. absurd (cc)) tt
          (λ u a t left target.
          let b1 = begins p code input lo r now u t left in
          from_more p code input line 0 8 (at + 0) exit t (leaving p code input lo r t (Nothing p code input))
          (bind (ev_expr p input below x u) (k a)) q (omega arith)
          (then_into p code input line (at + 0) exit exit lo la to r t (Nothing p code input) (ev_expr p input below x u) (k a) q
          (omega arith) behind (runs (at + 0) la same there u t b1)
          (λ u2 n t2 left2 integer.
          let longs : length (put_top u2 to (Number n)) ≡ length u = sym left2.fits.stand.count ∙ left2.fits.same_count ∙ b1.stand.count in
          let long : length u2 ≡ length u = sym (put_count u2 (top u2) to (Number n)) ∙ longs in
          let frame : top u2 ≡ a.frame = ap (λ m. m - 1) long ∙ sym target.0 in
          let put_there : put_top u2 to (Number n) ≡ put_at u2 a (Number n) = ap (λ m. put u2 m to (Number n)) frame
          ∙ ap (λ m. put u2 a.frame m (Number n)) (sym target.1) in
          let left3 : Left p code input lo r t (put_at u2 a (Number n)) t2 =
          subst (λ z. Left p code input lo r t z t2) put_there
          (left_less p code input lo la r t (put_top u2 to (Number n)) t2 (omega arith) left2) in
          subst (λ z. From p code input line 8 exit exit t2 (leaving p code input lo r t2 (Nothing p code input))
          (fault_unless fault.Range z (λ _. one (put_at u2 a (Number n)) tt)) q) (sym (whole_within range n whole integer))
          (ends_here p code input line 8 exit lo r (put_at u2 a (Number n)) t2 (Nothing p code input) tt q
          (begins p code input lo r t (put_at u2 a (Number n)) t2 left3) tt))))))

  pub assign_runs : (at lo : ℕ) (d : Desig) (x : Expr) (range : Range) → BareFits p tables code input below r line q (bare_desig d)
      → desig_cells d ≡ 1 → own_end p r ≤ lo → FitsRange p tables code input below r line q range
      → (bare_desig d ≡ None → HeldRuns p tables code input below r line q at lo d)
      → ((next : ℕ) → AtOnce p tables code input below r line q next (lo + length (unless_bare (bare_desig d) (desig_slots p r d))) x)
      → ((to next : ℕ) → GoesStraight d x range to → AreVariables p code input r to 1
      → RunsTo p tables code input below r line q (into p code input to lo r) next
      (straight (shift p r + to) (expr_code p tables r line next lo x)) x)
      → StmtRuns p tables code input below r line q at lo (Assign d x range)
  assign_runs at lo d x range fits cells behind has runs once straightly = by (goes_straight d x range) refl
    where
      value : List LineInstr
      value = in_row at (unless_bare (bare_desig d) (held_code p tables r line at lo d))
          (λ next. unless_bare (bare x) (expr_code p tables r line next (lo + length (unless_bare (bare_desig d) (desig_slots p r d))) x))

      set : List Instr
      set = fit_code tables range (value_at p tables r (lo + length (unless_bare (bare_desig d) (desig_slots p r d))) x)
          ++ (set_by p tables r (bare_desig d) lo (value_at p tables r (lo + length (unless_bare (bare_desig d) (desig_slots p r d))) x) d
          ∷ [])

      by : (o : Option ℕ) → goes_straight d x range ≡ o
          → NodeFor p code input r line at lo (set_to p tables r o line value set) (ev_stmt p input below (Assign d x range))
          (Nothing p code input) q
      by None e = assign_of (bare_desig d) at lo d x range refl fits cells behind has runs once (value ++ own line set) refl
      by (Some to) e =
          let g = straight_is d x range to e in
          straight_runs at lo to d x range g.variable g.whole (alone_bare x g.alone) behind
          (λ next la same. subst (λ n. RunsTo p tables code input below r line q (into p code input to n r) next
          (straight (shift p r + to) (expr_code p tables r line next n x)) x) (sym same)
          (straightly to next g (subst (BareFits p tables code input below r line q) g.variable fits)))

  -- ---- WRITE

  -- a print, and the phrase ends
  print_ends : (c at lo : ℕ) (v : Store) (now : List PlainFrame) (bytes : List ℕ) → Begins p code input r v now
      → ((held : List PlainEntry) (s : State) → (is : IsAt at now held s) → PrintsNow code input line at now held s is bytes)
      → From p code input line (suc c) at (at + 1) now (leaving p code input lo r now (Nothing p code input)) (Print bytes (one v tt)) q
  print_ends c at lo v now bytes b prints held s is =
      let w = prints held s is in (
        0,
        s,
        omega arith,
        no_step code input s,
        w.to,
        w.prints,
        subst IsOn (sym w.is.mode) tt,
        one_goes code input line 0 24 (Leaves (at + 1) (leaving p code input lo r now (Nothing p code input))) held v tt w.to (suc c - 1)
            (q - 1) (omega arith) (record { mode = w.is.mode; entries = w.is.entries })
            (w.is.here, subst (λ t. Left p code input lo r now v t × Unit {0}) (sym w.is.frames) (left_self p code input lo r v now b, tt)),
      )

  write_reads : (how : WriteAs) (at from : ℕ) (now : List PlainFrame) → InstrAt code input line at (write_code how from)
      → ReadsFirst code input at from now
  unfolding act
  write_reads write_as.Int at from now i held s is = (_, does code input line at now held s (I.WriteInt from) is i)
  write_reads write_as.Bool at from now i held s is = (_, does code input line at now held s (I.WriteBool from) is i)
  write_reads write_as.Char at from now i held s is = (_, does code input line at now held s (I.WriteChar from) is i)

  written_ends : (how : WriteAs) (at lo from : ℕ) (v : Store) (now : List PlainFrame) (n : ℤ)
      → InstrAt code input line at (write_code how from) → IsValue p code input from n now → Begins p code input r v now
      → From p code input line 8 at (at + 1) now (leaving p code input lo r now (Nothing p code input))
      (Print (written_text how n) (one v tt)) q
  written_ends write_as.Int at lo from v now n i h b =
      print_ends 7 at lo v now (written_text write_as.Int n) b
      (λ held s is. write_int_step code input line at now held s is from n i h.holds)
  written_ends write_as.Bool at lo from v now n i h b =
      print_ends 7 at lo v now (written_text write_as.Bool n) b
      (λ held s is. write_bool_step code input line at now held s is from n i h.holds)
  written_ends write_as.Char at lo from v now n i h b =
      print_ends 7 at lo v now (written_text write_as.Char n) b
      (λ held s is. write_char_step code input line at now held s is from n i h.holds)

  pub write_runs : (at lo : ℕ) (x : Expr) (how : WriteAs) → own_end p r ≤ lo → AtOnce p tables code input below r line q at lo x
      → StmtRuns p tables code input below r line q at lo (WriteExpr x how)
  unfolding ev_expr
  write_runs at lo x how behind once stands v now b =
      let inner : List LineInstr = unless_bare (bare x) (expr_code p tables r line at lo x) in
      let from : ℕ = value_at p tables r lo x in
      let last : List LineInstr = own line (write_code how from ∷ []) in
      let m : ℕ = at + length inner in
      let back = stands_back code at inner last stands in
      let i : InstrAt code input line m (write_code how from) = record { instr = back.0; on_line = back.1 } in
      let whole : length (inner ++ last) ≡ length inner + 1 = length-append inner last in
      let end : m + 1 ≡ at + length (inner ++ last) = omega (arith, whole) in
      let w = leaving p code input lo r now (Nothing p code input) in
      subst (λ n. NodeRuns p code input line at n now w (ev_stmt p input below (WriteExpr x how) v) q) end
      (node_runs p code input line 0 at (m + 1) now w (bind (ev_expr p input below x v) (λ t n. Print (written_text how n) (one t tt))) q
      (omega arith)
      (at_once p tables code input below r line q (m + 1) lo lo at v now (Nothing p code input)
      (λ t n. Print (written_text how n) (one t tt)) (omega arith) behind b x once (stands_front code at inner last stands) i.on_line
      (write_reads how m from now i)
      (λ u n t left value. written_ends how m lo from u t n i value (begins p code input lo r now u t left))))

  pub text_runs : (at lo : ℕ) (text : List ℕ) → slice_get code.texts (text_number tables text) ≡ Some text
      → StmtRuns p tables code input below r line q at lo (WriteText text)
  unfolding ev_expr
  text_runs at lo text has stands v now b =
      node_runs p code input line 8 at (at + 1) now (leaving p code input lo r now (Nothing p code input)) (Print text (one v tt)) q
      (omega arith)
      (print_ends 7 at lo v now text b (λ held s is. write_text_step code input line at now held s is (text_number tables text) text
      (record { instr = stands.0; on_line = stands.1 }) has))

  pub line_runs : (at lo : ℕ) → StmtRuns p tables code input below r line q at lo WriteLine
  unfolding ev_expr
  line_runs at lo stands v now b =
      node_runs p code input line 8 at (at + 1) now (leaving p code input lo r now (Nothing p code input)) (Print (10 ∷ []) (one v tt)) q
      (omega arith)
      (print_ends 7 at lo v now (10 ∷ []) b (λ held s is. write_line_step code input line at now held s is
      (record { instr = stands.0; on_line = stands.1 })))

  -- ---- tests as statements, and values as tests

  pub test_stmt_runs : (at lo : ℕ) (t : Test) → TestRuns p tables code input below r line q at lo t
      → StmtRuns p tables code input below r line q at lo (TestStmt t)
  unfolding ev_expr
  test_stmt_runs at lo t runs stands v now b =
      let w = leaving p code input lo r now (Nothing p code input) in
      let exit : ℕ = at + length (test_code p tables r line at lo t) in
      node_runs p code input line 0 at exit now w (ev_test p input below t v) q (omega arith)
      (node_from p code input line at exit now w (ev_test p input below t v) q (runs stands v now b))

  check_reads : (at from : ℕ) (now : List PlainFrame) → InstrAt code input line at (I.Check from) → ReadsFirst code input at from now
  unfolding act
  check_reads at from now i held s is = (_, does code input line at now held s (I.Check from) is i)

  checked_ends : (z : Bool) (at lo from : ℕ) (v : Store) (now : List PlainFrame) (n : ℤ) → is_zero n ≡ z
      → InstrAt code input line at (I.Check from) → IsValue p code input from n now → Begins p code input r v now
      → From p code input line 8 at (at + 1) now (leaving p code input lo r now (Nothing p code input))
      (if_true z (λ _. Fail) (λ _. one v tt)) q
  checked_ends true at lo from v now n e i h b =
      fails_here p code input line 7 at (at + 1) now (leaving p code input lo r now (Nothing p code input)) q
      (λ held s is. let w = check_fails code input line at now held s is from n i h.holds e in (w.to, w.silently, w.is))
  checked_ends false at lo from v now n e i h b =
      past_from p tables code input below r line q 7 at (at + 1) (at + 1) now (leaving p code input lo r now (Nothing p code input))
      (one v tt)
      (λ held s is. let w = check_passes code input line at now held s is from n i h.holds e in
      record { to = w.to; silently = w.silently; is = w.is })
      (ends_here p code input line 7 (at + 1) lo r v now (Nothing p code input) tt q b tt)

  checked_runs : (at lo : ℕ) (x : Expr) → own_end p r ≤ lo → AtOnce p tables code input below r line q at lo x
      → NodeFor p code input r line at lo (unless_bare (bare x) (expr_code p tables r line at lo x)
      ++ own line (I.Check (value_at p tables r lo x) ∷ [])) (ev_test p input below (Value x)) (Nothing p code input) q
  unfolding ev_expr
  checked_runs at lo x behind once stands v now b =
      let inner : List LineInstr = unless_bare (bare x) (expr_code p tables r line at lo x) in
      let from : ℕ = value_at p tables r lo x in
      let last : List LineInstr = own line (I.Check from ∷ []) in
      let m : ℕ = at + length inner in
      let back = stands_back code at inner last stands in
      let i : InstrAt code input line m (I.Check from) = record { instr = back.0; on_line = back.1 } in
      let whole : length (inner ++ last) ≡ length inner + 1 = length-append inner last in
      let end : m + 1 ≡ at + length (inner ++ last) = omega (arith, whole) in
      let w = leaving p code input lo r now (Nothing p code input) in
      subst (λ n. NodeRuns p code input line at n now w (ev_test p input below (Value x) v) q) end
      (node_runs p code input line 0 at (m + 1) now w
      (bind (ev_expr p input below x v) (λ t n. if_true (is_zero n) (λ _. Fail) (λ _. one t tt))) q (omega arith)
      (at_once p tables code input below r line q (m + 1) lo lo at v now (Nothing p code input)
      (λ t n. if_true (is_zero n) (λ _. Fail) (λ _. one t tt)) (omega arith) behind b x once (stands_front code at inner last stands)
      i.on_line (check_reads m from now i)
      (λ u n t left value. checked_ends (is_zero n) m lo from u t n refl i value (begins p code input lo r now u t left))))

  pub value_runs : (at lo : ℕ) (x : Expr) → ChecksValue p tables r x → own_end p r ≤ lo → AtOnce p tables code input below r line q at lo x
      → TestRuns p tables code input below r line q at lo (Value x)
  value_runs at lo x is behind once = subst
      (λ made. NodeFor p code input r line at lo made (ev_test p input below (Value x)) (Nothing p code input) q) (sym (is line at lo))
      (checked_runs at lo x behind once)
