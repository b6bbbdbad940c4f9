-- Equations, from template to run: a cell against a number, and a cell against a cell.
use Rattle.std.proofs.Common.{◌≡◌, ℕ, ◌+◌, ◌<◌, ◌≤◌, Bool, true, false, List, [], ◌∷◌, ◌++◌, length, Option, Some, None, refl, sym, ap, ◌∙◌}
use Rattle.std.proofs.Common.{subst, arith, ℤ, pos, negsuc}
use Rattle.std.specs.Prelude.{slice_get, nat_eq}
use Rattle.std.proofs.lemmas.List.{length-append}
use Rattle.std.proofs.lemmas.Bool.Decides.{nat_tests}
use Rattle.alma_base.specs.Choice.{if_true}
use Rattle.alma_base.specs.declared.fault.RunFault.TheVariants as fault
use Rattle.alma_base.specs.declared.number.Range.{Range}
use Rattle.alma_base.specs.Numbers.{within, int_eq, is_integer}
use Rattle.alma_code.specs.declared.cell.Cell.{Cell}
use Rattle.alma_code.specs.declared.cell.Cell.TheVariants as cell
use Rattle.alma_code.specs.declared.cell.CellPlace.{CellPlace}
use Rattle.alma_code.specs.declared.instr.Instr.TheVariants as I
use Rattle.alma_code.specs.Carries.{number_at}
use Rattle.alma_code.specs.Picture.{PlainFrame, PlainEntry, frames_with_cell, cell_at}
use Rattle.alma_code.specs.Plain.{PlainCode}
use Rattle.alma_code.specs.Lines.{line_at}
use Rattle.alma_code.specs.Machine.{State, StepResult, Failing, act, step, quiet_step, ends_in_fault, fails_now, gets_stuck, with_cell}
use Rattle.alma_code.specs.Machine.{as_range, as_content, number, place, content, binds_content, store, equation_of_contents, equation}
use Rattle.alma_ir.specs.Tree.{Program, Expr, Desig, Bind, Unify}
use Rattle.alma_ir.specs.Checked.{desig_cells}
use Rattle.alma_mean.specs.Store.{Store, Place, Unknown, Number, cell_of, put_at}
use Rattle.alma_mean.specs.Store as store_of
use Rattle.alma_mean.specs.Events.{Fail, one, bind}
use Rattle.alma_mean.specs.Arithmetic.{check_range, fault_unless}
use Rattle.alma_mean.specs.Rows.{bind_cell, unify_cells, succeed_if}
use Rattle.alma_mean.specs.Meaning.{Level, ev_test, ev_expr, ev_desig}
use Rattle.alma_lower_implements.proofs.Frames.{own_end, IsAt}
use Rattle.alma_lower_implements.proofs.BareRow.{ReadsFirst}
use Rattle.alma_lower_implements.proofs.Steps.{Holds, InstrAt, passed, does, went_on, number_is, place_is, faults_now, here_too}
use Rattle.alma_lower_templates.specs.LineInstr.{LineInstr, own}
use Rattle.alma_lower_templates.specs.Tables.{Tables, range_number}
use Rattle.alma_lower_templates.specs.Slots.{bare, unless_bare, behind_desig, behind_expr}
use Rattle.alma_lower_templates.specs.Templates.{expr_code, held_at, value_at}
use Rattle.alma_lower_templates.proofs.Stands.{stands_front, stands_back}
use Rattle.alma_lower_templates.proofs.Parts.{Begins, begins, place_after, value_after, IsValue, IsPlace, ValueIn, PlaceIn, Nothing}
use Rattle.alma_lower_templates.proofs.Parts.{NodeRuns, From, leaving, from_more, node_runs, then_from, faults_here, fails_here, ends_here}
use Rattle.alma_lower_templates.proofs.AtOnce.{AtOnce, at_once}
use Rattle.alma_lower_templates.proofs.CellEnds.{CellIs, is_number, is_unknown, cell_is}
use Rattle.alma_lower_templates.proofs.ExprForms.{some_slots}
use Rattle.alma_lower_templates.proofs.PlaceSteps.{goes_past, content_is}
use Rattle.alma_lower_templates.proofs.RangeChecks.{past_from}
use Rattle.alma_lower_templates.proofs.Targets.{put_goes_on}
use Rattle.alma_lower_templates.proofs.FormRuns.{held_code, ExprRuns, HeldRuns, TestRuns, HasRange}

equal_naturals : (a b : ℕ) → nat_eq a b ≡ nat_eq b a
equal_naturals a b = by (nat_eq a b) (nat_eq b a) refl refl
  where
    by : (x y : Bool) → nat_eq a b ≡ x → nat_eq b a ≡ y → x ≡ y
    by true true e f = refl
    by false false e f = refl
    by true false e f = absurd (grind (arith, nat_tests))
    by false true e f = absurd (grind (arith, nat_tests))

equal_either_way : (a b : ℤ) → int_eq a b ≡ int_eq b a
equal_either_way (pos a) (pos b) = equal_naturals a b
equal_either_way (negsuc a) (negsuc b) = equal_naturals a b
equal_either_way (pos a) (negsuc b) = refl
equal_either_way (negsuc a) (pos b) = refl

module _ (p : Program) (tables : Tables) (code : PlainCode) (input : List ℕ) (below : Level) (r line q : ℕ) where
  -- ---- steps that fail, pass, fault or put

  -- the step that the machine takes at an address, in words of the state that has passed it
  abbrev pub Does : (at : ℕ) → List PlainFrame → (State → StepResult) → Type 0
  Does at now f = (held : List PlainEntry) (s : State) → IsAt at now held s → step code input s ≡ f (passed code input s)

  passes_ends : (at lo : ℕ) (v : Store) (now : List PlainFrame) → Begins p code input r v now → Does at now quiet_step
      → From p code input line 8 at (at + 1) now (leaving p code input lo r now (Nothing p code input)) (one v tt) q
  passes_ends at lo v now b does_it =
      past_from p tables code input below r line q 7 at (at + 1) (at + 1) now (leaving p code input lo r now (Nothing p code input))
      (one v tt) (λ held s is. goes_past code input line at now held s is (does_it held s is))
      (ends_here p code input line 7 (at + 1) lo r v now (Nothing p code input) tt q b tt)

  fails_ends : (at lo : ℕ) (now : List PlainFrame) → Does at now fails_now
      → From p code input line 8 at (at + 1) now (leaving p code input lo r now (Nothing p code input)) Fail q
  fails_ends at lo now does_it =
      fails_here p code input line 7 at (at + 1) now (leaving p code input lo r now (Nothing p code input)) q
      (λ held s is. (
        record (passed code input s) { mode = Failing },
        went_on code input s (record (passed code input s) { mode = Failing }) (does_it held s is),
        record { mode = refl; entries = is.entries },
      ))

  -- a test of two numbers
  equals_ends : (at lo : ℕ) (v : Store) (now : List PlainFrame) (z : Bool) → Begins p code input r v now
      → Does at now (λ s. if_true z (λ _. quiet_step s) (λ _. fails_now s))
      → From p code input line 8 at (at + 1) now (leaving p code input lo r now (Nothing p code input)) (succeed_if v z) q
  equals_ends at lo v now true b does_it = passes_ends at lo v now b does_it
  equals_ends at lo v now false b does_it = fails_ends at lo now does_it

  -- a number that goes into a cell where it is in the range
  puts_ends : (at lo n size : ℕ) (v : Store) (now : List PlainFrame) (a : Place) (range : Range) (x : ℤ) → own_end p r ≤ lo → 0 < size
      → Begins p code input r v now → (h : IsPlace p code input n size v a now) → is_integer x ≡ true
      → number_at now h.place.frame h.place.slot ≡ true → line_at code at ≡ line
      → Does at now (λ s. if_true (within range x) (λ _. store s h.place.frame h.place.slot x quiet_step)
      (λ _. ends_in_fault fault.Range s)) → From p code input line 8 at (at + 1) now
      (leaving p code input lo r now (Nothing p code input)) (check_range range x (λ _. one (put_at v a (Number x)) tt)) q
  puts_ends at lo n size v now a range x behind some b h integer live there does_it = by (within range x) refl
    where
      by : (z : Bool) → within range x ≡ z → From p code input line 8 at (at + 1) now (leaving p code input lo r now (Nothing p code input))
          (fault_unless fault.Range z (λ _. one (put_at v a (Number x)) tt)) q
      by false out =
          faults_here p code input line 7 at (at + 1) now (leaving p code input lo r now (Nothing p code input)) fault.Range q
          (λ held s is. faults_now code input line s fault.Range (here_too code input line at now held s is there)
          (does_it held s is ∙ ap (λ z. if_true z (λ _. store (passed code input s) h.place.frame h.place.slot x quiet_step)
          (λ _. ends_in_fault fault.Range (passed code input s))) out))
      by true in_it =
          put_goes_on p code input line 7 at (at + 1) lo r v now x (Nothing p code input) (one (put_at v a (Number x)) tt) q behind b n size
          a some h integer
          (λ held s is.
          let e : step code input s ≡ quiet_step (with_cell (passed code input s) h.place.frame h.place.slot (cell.Int x)) =
          does_it held s is ∙ ap (λ z. if_true z (λ _. store (passed code input s) h.place.frame h.place.slot x quiet_step)
          (λ _. ends_in_fault fault.Range (passed code input s))) in_it
          ∙ ap (λ z. if_true (number_at z h.place.frame h.place.slot)
          (λ _. quiet_step (with_cell (passed code input s) h.place.frame h.place.slot (cell.Int x)))
          (λ _. gets_stuck (passed code input s))) is.frames
          ∙ ap (λ t. if_true t (λ _. quiet_step (with_cell (passed code input s) h.place.frame h.place.slot (cell.Int x)))
          (λ _. gets_stuck (passed code input s))) live in
          record {
            to = with_cell (passed code input s) h.place.frame h.place.slot (cell.Int x);
            silently =
                went_on code input s (with_cell (passed code input s) h.place.frame h.place.slot (cell.Int x)) e;
            is =
                record {
                  mode = is.mode;
                  here = ap (λ m. m + 1) is.here;
                  frames =
                      ap (λ z. frames_with_cell z h.place.frame h.place.slot (cell.Int x)) is.frames;
                  entries = is.entries;
                };
          })
          (λ t left. ends_here p code input line 7 (at + 1) lo r (put_at v a (Number x)) t (Nothing p code input) tt q
          (begins p code input lo r now (put_at v a (Number x)) t left) tt)

  -- ---- a cell against a number

  bind_reads : (at a b n : ℕ) (c : CellPlace) (now : List PlainFrame) → InstrAt code input line at (I.Bind a b n)
      → Holds now a (cell.Place c) → ReadsFirst code input at b now
  unfolding act
  bind_reads at a b n c now i ha held s is = (
    _,
    does code input line at now held s (I.Bind a b n) is i
        ∙ place_is code input now (passed code input s) a c
        (λ m. number (passed code input s) b (λ x. as_range (slice_get code.ranges n) (passed code input s)
        (λ t. content (passed code input s) m.frame m.slot (λ u. binds_content (passed code input s) m t x u)))) is.frames ha,
  )

  bind_does : (at a b n : ℕ) (c : CellPlace) (range : Range) (x : ℤ) (d : Cell) (now : List PlainFrame)
      → InstrAt code input line at (I.Bind a b n) → slice_get code.ranges n ≡ Some range → Holds now a (cell.Place c)
      → Holds now b (cell.Int x) → number_at now c.frame c.slot ≡ true → cell_at now c.frame c.slot cell.Unset ≡ d
      → Does at now (λ s. as_content true d s (λ u. binds_content s c range x u))
  unfolding act
  bind_does at a b n c range x d now i has ha hb live is_d held s is =
      let here : State = passed code input s in
      does code input line at now held s (I.Bind a b n) is i
      ∙ place_is code input now here a c (λ m. number here b
      (λ y. as_range (slice_get code.ranges n) here (λ t. content here m.frame m.slot (λ u. binds_content here m t y u)))) is.frames ha
      ∙ number_is code input now here b x (λ y. as_range (slice_get code.ranges n) here
      (λ t. content here c.frame c.slot (λ u. binds_content here c t y u))) is.frames hb
      ∙ ap (λ o. as_range o here (λ t. content here c.frame c.slot (λ u. binds_content here c t x u))) has
      ∙ content_is code input line at now held s is c d (λ u. binds_content here c range x u) (live, is_d)

  bind_ends : (at lo a b size : ℕ) (v : Store) (now : List PlainFrame) (m : Place) (range : Range) (x : ℤ) → own_end p r ≤ lo → 0 < size
      → HasRange p tables code input below r line q range → Begins p code input r v now → IsPlace p code input a size v m now
      → IsValue p code input b x now
      → InstrAt code input line at (I.Bind a b (range_number tables range))
      → From p code input line 8 at (at + 1) now (leaving p code input lo r now (Nothing p code input))
      (bind_cell v m (cell_of v m) range x) q
  bind_ends at lo a b size v now m range x behind some has begun h hx i = by (cell_is p code input r a size v m now some begun h)
    where
      by : CellIs p code input v m now h.place
          → From p code input line 8 at (at + 1) now (leaving p code input lo r now (Nothing p code input))
          (bind_cell v m (cell_of v m) range x) q
      by (is_number y e live is integer) =
          subst (λ d. From p code input line 8 at (at + 1) now (leaving p code input lo r now (Nothing p code input))
          (bind_cell v m d range x) q) (sym e)
          (equals_ends at lo v now (int_eq y x) begun
          (bind_does at a b (range_number tables range) h.place range x (cell.Int y) now i has h.holds hx.holds live is))
      by (is_unknown e live is) =
          subst (λ d. From p code input line 8 at (at + 1) now (leaving p code input lo r now (Nothing p code input))
          (bind_cell v m d range x) q) (sym e)
          (puts_ends at lo a size v now m range x behind some begun h hx.integer live i.on_line
          (bind_does at a b (range_number tables range) h.place range x cell.Unknown now i has h.holds hx.holds live is))

  pub bind_runs : (at lo : ℕ) (d : Desig) (x : Expr) (range : Range) → own_end p r ≤ lo → desig_cells d ≡ 1
      → HasRange p tables code input below r line q range → HeldRuns p tables code input below r line q at lo d
      → ((next : ℕ) → AtOnce p tables code input below r line q next (behind_desig p r lo d) x)
      → TestRuns p tables code input below r line q at lo (Bind d x range true)
  unfolding ev_expr
  bind_runs at lo d x range behind cells has runs once stands v now b =
      let a : ℕ = held_at p tables r lo d in
      let la : ℕ = behind_desig p r lo d in
      let first : List LineInstr = held_code p tables r line at lo d in
      let m : ℕ = at + length first in
      let second : List LineInstr = unless_bare (bare x) (expr_code p tables r line m la x) in
      let operand : ℕ = value_at p tables r la x in
      let last : List LineInstr = own line (I.Bind a operand (range_number tables range) ∷ []) in
      let front = stands_front code at (first ++ second) last stands in
      let back = stands_back code at (first ++ second) last stands in
      let both : length (first ++ second) ≡ length first + length second = length-append first second in
      let whole : length ((first ++ second) ++ last) ≡ length (first ++ second) + 1 = length-append (first ++ second) last in
      let m2 : ℕ = m + length second in
      let here : at + length (first ++ second) ≡ m2 = omega (arith, both) in
      let i : InstrAt code input line m2 (I.Bind a operand (range_number tables range)) =
      subst (λ n. InstrAt code input line n (I.Bind a operand (range_number tables range))) here
      (record { instr = back.0; on_line = back.1 }) in
      let end : m2 + 1 ≡ at + length ((first ++ second) ++ last) = omega (arith, both, whole) in
      let w = leaving p code input lo r now (Nothing p code input) in
      subst (λ n. NodeRuns p code input line at n now w (ev_test p input below (Bind d x range true) v) q) end
      (node_runs p code input line 0 at (m2 + 1) now w
      (bind (ev_desig p input below d v) (λ t k. bind (ev_expr p input below x t) (λ u n. bind_cell u k (cell_of u k) range n))) q
      (omega arith)
      (then_from p code input line at m (m2 + 1) lo lo r now (PlaceIn p code input a (desig_cells d)) (Nothing p code input)
      (ev_desig p input below d v) (λ t k. bind (ev_expr p input below x t) (λ u n. bind_cell u k (cell_of u k) range n)) q
      (omega arith) behind
      (runs.runs (stands_front code at first second front) v now b)
      (λ u k t left place.
      let b1 = begins p code input lo r now u t left in
      from_more p code input line 0 8 m (m2 + 1) t (leaving p code input lo r t (Nothing p code input))
      (bind (ev_expr p input below x u) (λ u2 n. bind_cell u2 k (cell_of u2 k) range n)) q (omega arith)
      (at_once p tables code input below r line q (m2 + 1) lo la m u t (Nothing p code input)
      (λ u2 n. bind_cell u2 k (cell_of u2 k) range n) (omega arith) behind b1 x (once m) (stands_back code at first second front)
      i.on_line
      (bind_reads m2 a operand (range_number tables range) place.place t i place.holds)
      (λ u2 n t2 left2 value.
      bind_ends m2 lo a operand (desig_cells d) u2 t2 k range n behind (omega (arith, cells)) has (begins p code input la r t u2 t2 left2)
      (place_after p code input la r a (desig_cells d) k u u2 t t2 b1 (omega (arith, behind)) runs.within left2 place) value
      i)))))

  pub bind_value_runs : (at lo : ℕ) (d : Desig) (x : Expr) (range : Range) → own_end p r ≤ lo → desig_cells d ≡ 1
      → HasRange p tables code input below r line q range → ExprRuns p tables code input below r line q at lo x
      → ((next : ℕ) → HeldRuns p tables code input below r line q next (behind_expr p r lo x) d)
      → TestRuns p tables code input below r line q at lo (Bind d x range false)
  unfolding ev_expr
  bind_value_runs at lo d x range behind cells has runs others stands v now b =
      let la : ℕ = behind_expr p r lo x in
      let a : ℕ = held_at p tables r la d in
      let first : List LineInstr = expr_code p tables r line at lo x in
      let m : ℕ = at + length first in
      let second : List LineInstr = held_code p tables r line m la d in
      let last : List LineInstr = own line (I.Bind a lo (range_number tables range) ∷ []) in
      let front = stands_front code at (first ++ second) last stands in
      let back = stands_back code at (first ++ second) last stands in
      let both : length (first ++ second) ≡ length first + length second = length-append first second in
      let whole : length ((first ++ second) ++ last) ≡ length (first ++ second) + 1 = length-append (first ++ second) last in
      let m2 : ℕ = m + length second in
      let here : at + length (first ++ second) ≡ m2 = omega (arith, both) in
      let i : InstrAt code input line m2 (I.Bind a lo (range_number tables range)) =
      subst (λ n. InstrAt code input line n (I.Bind a lo (range_number tables range))) here
      (record { instr = back.0; on_line = back.1 }) in
      let end : m2 + 1 ≡ at + length ((first ++ second) ++ last) = omega (arith, both, whole) in
      let w = leaving p code input lo r now (Nothing p code input) in
      subst (λ n. NodeRuns p code input line at n now w (ev_test p input below (Bind d x range false) v) q) end
      (node_runs p code input line 0 at (m2 + 1) now w
      (bind (ev_expr p input below x v) (λ t n. bind (ev_desig p input below d t) (λ u k. bind_cell u k (cell_of u k) range n))) q
      (omega arith)
      (then_from p code input line at m (m2 + 1) lo lo r now (ValueIn p code input lo) (Nothing p code input) (ev_expr p input below x v)
      (λ t n. bind (ev_desig p input below d t) (λ u k. bind_cell u k (cell_of u k) range n)) q (omega arith) behind
      (runs (stands_front code at first second front) v now b)
      (λ u n t left value.
      let b1 = begins p code input lo r now u t left in
      from_more p code input line 0 8 m (m2 + 1) t (leaving p code input lo r t (Nothing p code input))
      (bind (ev_desig p input below d u) (λ u2 k. bind_cell u2 k (cell_of u2 k) range n)) q (omega arith)
      (then_from p code input line m m2 (m2 + 1) lo la r t (PlaceIn p code input a (desig_cells d)) (Nothing p code input)
      (ev_desig p input below d u) (λ u2 k. bind_cell u2 k (cell_of u2 k) range n) q (omega arith) behind
      ((others m).runs (stands_back code at first second front) u t b1)
      (λ u2 k t2 left2 place.
      bind_ends m2 lo a lo (desig_cells d) u2 t2 k range n behind (omega (arith, cells)) has (begins p code input la r t u2 t2 left2) place
      (value_after p code input la r lo n u u2 t t2 b1 behind (omega (arith, some_slots p code input r x)) left2 value) i)))))

  -- ---- a cell against a cell

  unify_does : (at a b m n : ℕ) (c e : CellPlace) (range range' : Range) (x y : Cell) (now : List PlainFrame)
      → InstrAt code input line at (I.Unify a m b n) → slice_get code.ranges m ≡ Some range → slice_get code.ranges n ≡ Some range'
      → Holds now a (cell.Place c) → Holds now b (cell.Place e)
      → number_at now c.frame c.slot ≡ true → cell_at now c.frame c.slot cell.Unset ≡ x → number_at now e.frame e.slot ≡ true
      → cell_at now e.frame e.slot cell.Unset ≡ y
      → Does at now (λ s. as_content true x s (λ u. as_content true y s
      (λ w. equation_of_contents s c.frame c.slot (Some range) u e.frame e.slot (Some range') w quiet_step)))
  unfolding act
  unify_does at a b m n c e range range' x y now i has has' ha hb live is_x live' is_y held s is =
      let here : State = passed code input s in
      does code input line at now held s (I.Unify a m b n) is i
      ∙ place_is code input now here a c (λ k. as_range (slice_get code.ranges m) here
      (λ t. place here b (λ l. as_range (slice_get code.ranges n) here
      (λ t2. equation here k.frame k.slot (Some t) l.frame l.slot (Some t2) quiet_step)))) is.frames ha
      ∙ ap (λ o. as_range o here (λ t. place here b
      (λ l. as_range (slice_get code.ranges n) here (λ t2. equation here c.frame c.slot (Some t) l.frame l.slot (Some t2) quiet_step))))
      has
      ∙ place_is code input now here b e (λ l. as_range (slice_get code.ranges n) here
      (λ t2. equation here c.frame c.slot (Some range) l.frame l.slot (Some t2) quiet_step)) is.frames hb
      ∙ ap (λ o. as_range o here (λ t2. equation here c.frame c.slot (Some range) e.frame e.slot (Some t2) quiet_step)) has'
      ∙ content_is code input line at now held s is c x
      (λ u. content here e.frame e.slot (λ w. equation_of_contents here c.frame c.slot (Some range) u e.frame e.slot (Some range') w
      quiet_step)) (live, is_x)
      ∙ second x (λ u w. equation_of_contents here c.frame c.slot (Some range) u e.frame e.slot (Some range') w quiet_step)
    where
      second : (z : Cell) (k : Option ℤ → Option ℤ → StepResult)
          → as_content true z (passed code input s) (λ u. content (passed code input s) e.frame e.slot (λ w. k u w)) ≡ as_content true z
          (passed code input s) (λ u. as_content true y (passed code input s) (λ w. k u w))
      second (cell.Int z) k = content_is code input line at now held s is e y (λ w. k (Some z) w) (live', is_y)
      second cell.Unknown k = content_is code input line at now held s is e y (λ w. k None w) (live', is_y)
      second cell.Unset k = refl
      second (cell.Place z) k = refl
      second (cell.Mark z) k = refl

  unify_ends : (at lo a b size size' : ℕ) (v : Store) (now : List PlainFrame) (m k : Place) (range range' : Range) → own_end p r ≤ lo
      → 0 < size → 0 < size' → HasRange p tables code input below r line q range → HasRange p tables code input below r line q range'
      → Begins p code input r v now
      → IsPlace p code input a size v m now → IsPlace p code input b size' v k now
      → InstrAt code input line at (I.Unify a (range_number tables range) b (range_number tables range'))
      → From p code input line 8 at (at + 1) now (leaving p code input lo r now (Nothing p code input))
      (unify_cells v m (cell_of v m) range k (cell_of v k) range') q
  unify_ends at lo a b size size' v now m k range range' behind some some' has has' begun h h' i =
      by (cell_is p code input r a size v m now some begun h) (cell_is p code input r b size' v k now some' begun h')
    where
      Goal : store_of.Cell → store_of.Cell → Type 0
      Goal x y = From p code input line 8 at (at + 1) now (leaving p code input lo r now (Nothing p code input))
          (unify_cells v m x range k y range') q

      steps : (x y : Cell) → number_at now h.place.frame h.place.slot ≡ true → cell_at now h.place.frame h.place.slot cell.Unset ≡ x
          → number_at now h'.place.frame h'.place.slot ≡ true → cell_at now h'.place.frame h'.place.slot cell.Unset ≡ y
          → Does at now (λ s. as_content true x s (λ u. as_content true y s
          (λ w. equation_of_contents s h.place.frame h.place.slot (Some range) u h'.place.frame h'.place.slot (Some range') w
          quiet_step)))
      steps x y live is live' is' = unify_does at a b (range_number tables range) (range_number tables range') h.place h'.place range range'
          x y now i has has' h.holds h'.holds live is live' is'

      by : CellIs p code input v m now h.place → CellIs p code input v k now h'.place → Goal (cell_of v m) (cell_of v k)
      by (is_number x e live is integer) (is_number y e' live' is' integer') =
          subst (λ c. Goal c (cell_of v k)) (sym e) (subst (λ c. Goal (Number x) c) (sym e')
          (subst (λ z. From p code input line 8 at (at + 1) now (leaving p code input lo r now (Nothing p code input)) (succeed_if v z) q)
          (equal_either_way x y)
          (equals_ends at lo v now (int_eq x y) begun (steps (cell.Int x) (cell.Int y) live is live' is'))))
      by (is_number x e live is integer) (is_unknown e' live' is') =
          subst (λ c. Goal c (cell_of v k)) (sym e) (subst (λ c. Goal (Number x) c) (sym e')
          (puts_ends at lo b size' v now k range' x behind some' begun h' integer live' i.on_line
          (steps (cell.Int x) cell.Unknown live is live' is')))
      by (is_unknown e live is) (is_number y e' live' is' integer') =
          subst (λ c. Goal c (cell_of v k)) (sym e) (subst (λ c. Goal Unknown c) (sym e')
          (puts_ends at lo a size v now m range y behind some begun h integer' live i.on_line
          (steps cell.Unknown (cell.Int y) live is live' is')))
      by (is_unknown e live is) (is_unknown e' live' is') =
          subst (λ c. Goal c (cell_of v k)) (sym e) (subst (λ c. Goal Unknown c) (sym e')
          (faults_here p code input line 7 at (at + 1) now (leaving p code input lo r now (Nothing p code input)) fault.Unknown q
          (λ held s there. faults_now code input line s fault.Unknown (here_too code input line at now held s there i.on_line)
          (steps cell.Unknown cell.Unknown live is live' is' held s there))))

  pub unify_runs : (at lo : ℕ) (d e : Desig) (range range' : Range) → own_end p r ≤ lo → desig_cells d ≡ 1 → desig_cells e ≡ 1
      → HasRange p tables code input below r line q range → HasRange p tables code input below r line q range'
      → HeldRuns p tables code input below r line q at lo d
      → ((next : ℕ) → HeldRuns p tables code input below r line q next (behind_desig p r lo d) e)
      → TestRuns p tables code input below r line q at lo (Unify d range e range')
  unfolding ev_expr
  unify_runs at lo d e range range' behind cells cells' has has' runs others stands v now b =
      let a : ℕ = held_at p tables r lo d in
      let la : ℕ = behind_desig p r lo d in
      let c : ℕ = held_at p tables r la e in
      let first : List LineInstr = held_code p tables r line at lo d in
      let m : ℕ = at + length first in
      let second : List LineInstr = held_code p tables r line m la e in
      let last : List LineInstr = own line (I.Unify a (range_number tables range) c (range_number tables range') ∷ []) in
      let front = stands_front code at (first ++ second) last stands in
      let back = stands_back code at (first ++ second) last stands in
      let both : length (first ++ second) ≡ length first + length second = length-append first second in
      let whole : length ((first ++ second) ++ last) ≡ length (first ++ second) + 1 = length-append (first ++ second) last in
      let m2 : ℕ = m + length second in
      let here : at + length (first ++ second) ≡ m2 = omega (arith, both) in
      let i : InstrAt code input line m2 (I.Unify a (range_number tables range) c (range_number tables range')) =
      subst (λ n. InstrAt code input line n (I.Unify a (range_number tables range) c (range_number tables range'))) here
      (record { instr = back.0; on_line = back.1 }) in
      let end : m2 + 1 ≡ at + length ((first ++ second) ++ last) = omega (arith, both, whole) in
      let w = leaving p code input lo r now (Nothing p code input) in
      subst (λ n. NodeRuns p code input line at n now w (ev_test p input below (Unify d range e range') v) q) end
      (node_runs p code input line 0 at (m2 + 1) now w
      (bind (ev_desig p input below d v) (λ t k. bind (ev_desig p input below e t)
      (λ u l. unify_cells u k (cell_of u k) range l (cell_of u l) range'))) q (omega arith)
      (then_from p code input line at m (m2 + 1) lo lo r now (PlaceIn p code input a (desig_cells d)) (Nothing p code input)
      (ev_desig p input below d v) (λ t k. bind (ev_desig p input below e t)
      (λ u l. unify_cells u k (cell_of u k) range l (cell_of u l) range')) q (omega arith) behind
      (runs.runs (stands_front code at first second front) v now b)
      (λ u k t left place.
      let b1 = begins p code input lo r now u t left in
      from_more p code input line 0 8 m (m2 + 1) t (leaving p code input lo r t (Nothing p code input))
      (bind (ev_desig p input below e u) (λ u2 l. unify_cells u2 k (cell_of u2 k) range l (cell_of u2 l) range')) q (omega arith)
      (then_from p code input line m m2 (m2 + 1) lo la r t (PlaceIn p code input c (desig_cells e)) (Nothing p code input)
      (ev_desig p input below e u) (λ u2 l. unify_cells u2 k (cell_of u2 k) range l (cell_of u2 l) range') q (omega arith) behind
      ((others m).runs (stands_back code at first second front) u t b1)
      (λ u2 l t2 left2 place2.
      unify_ends m2 lo a c (desig_cells d) (desig_cells e) u2 t2 k l range range' behind (omega (arith, cells)) (omega (arith, cells')) has
      has' (begins p code input la r t u2 t2 left2)
      (place_after p code input la r a (desig_cells d) k u u2 t t2 b1 (omega (arith, behind)) runs.within left2 place) place2 i)))))
