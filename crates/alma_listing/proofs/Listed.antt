-- The program that lists lists.
use Rattle.std.proofs.Common.{◌≡◌, inl, inr, ℕ, zero, suc, ◌+◌, ◌*◌, ◌-◌, ◌<◌, ◌≤◌, List, [], ◌∷◌, ◌++◌, length, get_or, refl, sym, ap, ◌∙◌}
use Rattle.std.proofs.Common.{subst, arith}
use Rattle.std.specs.Prelude.{true, false, pos, nat_lt, nat_le, sum_by, codes}
use Rattle.std.specs.List.{AllByRecursion}
use Rattle.std.proofs.lemmas.Bool.{le-leb, cases_lt}
use Rattle.std.proofs.lemmas.List.{get_or_append_left, get_or_past, append-nil}
use Rattle.std.proofs.Math.Seq.{get_or-append_seam}
use Rattle.std.proofs.lemmas.List.Sums.{sum_by-cons}
use Rattle.alma_base.specs.declared.fault.RunFault.TheVariants as fault
use Rattle.alma_ir.specs.Tree.{Stmts, Program, Routine, Global, routine_at, no_routine, no_stmts, more_stmts, TestStmt, Assign, CopyCells}
use Rattle.alma_ir.specs.Tree.{If, While, Repeat, ForTo, SomeOf, Case, Either, Forall, Commit, Return, Read, WriteExpr, WriteText}
use Rattle.alma_ir.specs.Tree.{WriteLine, Value, Bind, Unify, SameCells, Seq, And, Or, Not, CallTest, Const, Load, Chain, Compare, Truth}
use Rattle.alma_ir.specs.Tree.{Known, Chr, CallExpr, no_args}
use Rattle.alma_ir.specs.Count.{stmts_nodes, routine_nodes, routines_nodes}
use Rattle.alma_ir.specs.Lines.{stmt_count, body_with_lines, stmts_with}
use Rattle.alma_ir.specs.Phrases.{Phrase, StmtPhrase, TestPhrase, ExprPhrase, ArgPhrase, DesigPhrase, SelPhrase, stmts_phrases}
use Rattle.alma_ir.specs.Checked.{IsChecked, IsNoReturn, HaveNoReturn, CalleeExists}
use Rattle.alma_mean.specs.Store.{Store, Frame, Unknown}
use Rattle.alma_mean.specs.Events.{Events, NoYield, Visit, Print, Alt, Go, Fail, Fault, Cut, Failed, join, bind, node, visit_each}
use Rattle.alma_mean.specs.Events.{at_line, visit_count}
use Rattle.alma_mean.specs.Events as events
use Rattle.alma_mean.specs.Arithmetic.{fault_unless}
use Rattle.alma_mean.specs.Rows.{enter, frame_of, declared_cells}
use Rattle.alma_mean.specs.Meaning.{Level, level, ev_stmts, ev_stmt, ev_program, start}
use Rattle.alma_mean.specs.Laws.{ends_in_cut}
use Rattle.alma_mean.proofs.Results.{further, uncut_lists_stay}
use Rattle.alma_listing.specs.Alike.{Alike, HaveSame}
use Rattle.alma_rules.specs.Parts.{append_stmts}
use Rattle.alma_listing.specs.Lister.{list_procedure, list_and_fail, write_cells, write_globals, listing_of}
use Rattle.alma_listing.specs.Listing.{line_of_store, listing_text, closes, alternatives, global_cells, ListsAt, Lists, CostsFew}
use Rattle.alma_listing.specs.Listing.{EachIsListed}
use Rattle.alma_listing.proofs.AlikeLists.{under}
use Rattle.alma_listing.proofs.Alike.{mean_the_same}
use Rattle.alma_listing.proofs.Closes.{Closes, c_visit, c_fail, c_end, c_more, c_weaker, c_visited, lists, no_alternative, prints_front}
use Rattle.alma_listing.proofs.Closes.{prints_whole, visits_few, never_cut, cut_alike, node_listed, node_closes, node_alternatives}
use Rattle.alma_listing.proofs.Closes.{node_visits}
use Rattle.alma_listing.proofs.Writes.{Writes, w_cut, w_more, w_alone, w_noded, w_lined, w_left, w_closed}
use Rattle.alma_listing.proofs.Cells.{own}
use Rattle.alma_listing.proofs.Line.{Own, own_is, Stays, globals_visits, cells_sum, line_written}
use Rattle.alma_listing.proofs.LinesFront.{with_append}
use Rattle.alma_lower_sound.proofs.WithLines.{phrase_with, stmts_stay}

-- ---- what binds twice

join_fail : {A : Type 0} (e : Events A) → join e Fail ≡ e
join_fail (Visit e) = ap Visit (join_fail e)
join_fail (Print b e) = ap (Print b) (join_fail e)
join_fail (Alt s w e) = ap (Alt s w) (join_fail e)
join_fail Fail = refl
join_fail (Fault x l) = refl
join_fail Cut = refl

bind_join : {A B : Type 0} (e f : Events A) (k : Store → A → Events B) → bind (join e f) k ≡ join (bind e k) (bind f k)
bind_join (Visit e) f k = ap Visit (bind_join e f k)
bind_join (Print b e) f k = ap (Print b) (bind_join e f k)
bind_join (Alt s (Go y) e) f k = ap (join (k s y)) (bind_join e f k) ∙ sym (join_join (k s y) (bind e k) (bind f k))
  where
    join_join : {B : Type 0} (a b c : Events B) → join (join a b) c ≡ join a (join b c)
    join_join (Visit a) b c = ap Visit (join_join a b c)
    join_join (Print t a) b c = ap (Print t) (join_join a b c)
    join_join (Alt s w a) b c = ap (Alt s w) (join_join a b c)
    join_join Fail b c = refl
    join_join (Fault x l) b c = refl
    join_join Cut b c = refl
bind_join (Alt s (events.Return v) e) f k = ap (Alt s (events.Return v)) (bind_join e f k)
bind_join Fail f k = refl
bind_join (Fault x l) f k = refl
bind_join Cut f k = refl

bind_bind : {A B D : Type 0} (e : Events A) (f : Store → A → Events B) (k : Store → B → Events D) → bind (bind e f) k ≡ bind e
    (λ t y. bind (f t y) k)
bind_bind (Visit e) f k = ap Visit (bind_bind e f k)
bind_bind (Print b e) f k = ap (Print b) (bind_bind e f k)
bind_bind (Alt s (Go y) e) f k = bind_join (f s y) (bind e f) k ∙ ap (join (bind (f s y) k)) (bind_bind e f k)
bind_bind (Alt s (events.Return v) e) f k = ap (Alt s (events.Return v)) (bind_bind e f k)
bind_bind Fail f k = refl
bind_bind (Fault x l) f k = refl
bind_bind Cut f k = refl

-- statements and then others
module _ (p : Program) (input : List ℕ) (b : Level) where
  pub two_lists : (x y : Stmts) (s : Store) → ev_stmts p input b (append_stmts x y) s ≡ bind (ev_stmts p input b x s)
      (λ t _. ev_stmts p input b y t)
  unfolding ev_stmts
  two_lists no_stmts y s = sym (join_fail (ev_stmts p input b y s))
  two_lists (more_stmts line x rest) y s =
      let behind : (t : Store) → ev_stmts p input b (append_stmts rest y) t ≡ bind (ev_stmts p input b rest t)
      (λ u _. ev_stmts p input b y u) = λ t. two_lists rest y t in
      (λ i. bind (at_line line (ev_stmt p input b x s)) (λ t _. behind t i))
      ∙ sym (bind_bind (at_line line (ev_stmt p input b x s)) (λ t _. ev_stmts p input b rest t) (λ u _. ev_stmts p input b y u))

-- ---- the programs

-- facts that do not speak of lines
call_with : (p : Program) (x : Phrase) (ls : List ℕ) → CalleeExists p x → CalleeExists p (phrase_with x ls)
unfolding stmts_with
call_with p (StmtPhrase x) ls h = tt
call_with p (TestPhrase (Value e)) ls h = tt
call_with p (TestPhrase (Bind d e range true)) ls h = tt
call_with p (TestPhrase (Bind d e range false)) ls h = tt
call_with p (TestPhrase (Unify d range e range2)) ls h = tt
call_with p (TestPhrase (SameCells d e)) ls h = tt
call_with p (TestPhrase (Seq x)) ls h = tt
call_with p (TestPhrase (And ts)) ls h = tt
call_with p (TestPhrase (Or ts)) ls h = tt
call_with p (TestPhrase (Not t)) ls h = tt
call_with p (TestPhrase (CallTest r args up)) ls h = h
call_with p (ExprPhrase (Const v)) ls h = tt
call_with p (ExprPhrase (Load d)) ls h = tt
call_with p (ExprPhrase (Chain negated e links)) ls h = tt
call_with p (ExprPhrase (Compare how x y)) ls h = tt
call_with p (ExprPhrase (Truth t)) ls h = tt
call_with p (ExprPhrase (Known d)) ls h = tt
call_with p (ExprPhrase (Chr e)) ls h = tt
call_with p (ExprPhrase (CallExpr r args up)) ls h = h
call_with p (ArgPhrase a) ls h = tt
call_with p (DesigPhrase d) ls h = tt
call_with p (SelPhrase x) ls h = tt

no_return_with : (x : Phrase) (ls : List ℕ) → IsNoReturn x → IsNoReturn (phrase_with x ls)
unfolding stmts_with
no_return_with (StmtPhrase (TestStmt t)) ls h = tt
no_return_with (StmtPhrase (Assign d e range)) ls h = tt
no_return_with (StmtPhrase (CopyCells d e)) ls h = tt
no_return_with (StmtPhrase (If arms rest)) ls h = tt
no_return_with (StmtPhrase (While t body)) ls h = tt
no_return_with (StmtPhrase (Repeat body t)) ls h = tt
no_return_with (StmtPhrase (ForTo x)) ls h = tt
no_return_with (StmtPhrase (SomeOf x)) ls h = tt
no_return_with (StmtPhrase (Case e arms rest)) ls h = tt
no_return_with (StmtPhrase (Either x)) ls h = tt
no_return_with (StmtPhrase (Forall x y)) ls h = tt
no_return_with (StmtPhrase (Commit x)) ls h = tt
no_return_with (StmtPhrase (Read d how range)) ls h = tt
no_return_with (StmtPhrase (WriteExpr e how)) ls h = tt
no_return_with (StmtPhrase (WriteText text)) ls h = tt
no_return_with (StmtPhrase WriteLine) ls h = tt
no_return_with (StmtPhrase (Return e)) ls h = absurd h
no_return_with (TestPhrase t) ls h = tt
no_return_with (ExprPhrase e) ls h = tt
no_return_with (ArgPhrase a) ls h = tt
no_return_with (DesigPhrase d) ls h = tt
no_return_with (SelPhrase x) ls h = tt

mono : (a b c : ℕ) → a ≤ b → a * c ≤ b * c
mono a b c le = let e : a + (b - a) ≡ b = omega (arith, le) in subst (λ x. a * c ≤ x * c) e (omega arith)

visits_are : (gs : List Global) → globals_visits gs ≡ 8 * length gs + 43 * cells_sum gs
visits_are [] = refl
visits_are (g ∷ gs) = omega (arith, visits_are gs)

cells_are : (gs : List Global) → sum_by (λ g. g.cells) gs ≡ cells_sum gs
cells_are [] = refl
cells_are (g ∷ gs) = sum_by-cons (λ g. g.cells) g gs ∙ ap (λ n. g.cells + n) (cells_are gs)

module _ (name : List ℕ) (gs : List Global) (body : Routine) (rest : List Routine) where
  abbrev p : Program
  p = record { name = name; globals = gs; routines = body ∷ rest }

  abbrev q : Program
  q = listing_of p

  abbrev number : ℕ
  number = suc (length rest)

  list_procedure_is : routine_at q number ≡ list_procedure body.line gs
  list_procedure_is = get_or-append_seam rest (list_procedure body.line gs) [] no_routine

  -- a routine behind the body has the same result and declares the same in both
  same_result : (xs : List Routine) (j : ℕ) → (get_or (xs ++ (list_procedure body.line gs ∷ [])) j no_routine).result ≡
      (get_or xs j no_routine).result
  same_result [] zero = refl
  same_result [] (suc j) = refl
  same_result (x ∷ xs) zero = refl
  same_result (x ∷ xs) (suc j) = same_result xs j

  same_declared : (xs : List Routine) (j : ℕ) → (get_or (xs ++ (list_procedure body.line gs ∷ [])) j no_routine).declared ≡
      (get_or xs j no_routine).declared
  same_declared [] zero = refl
  same_declared [] (suc j) = refl
  same_declared (x ∷ xs) zero = refl
  same_declared (x ∷ xs) (suc j) = same_declared xs j

  module _ (calls : (r : ℕ) → r < number → AllByRecursion (λ x. CalleeExists p x) (stmts_phrases (routine_at p r).body))
      (counted : length body.lines ≡ stmt_count (stmts_phrases body.body))
      (few : (r : ℕ) → (routine_at p r).declared ≤ 1048576) (plain : HaveNoReturn body.body) where
    calls_lined : (r : ℕ) → r < number → AllByRecursion (λ x. CalleeExists p x) (stmts_phrases (body_with_lines (routine_at p r)))
    calls_lined r lt = stmts_stay (λ x. CalleeExists p x) (call_with p) (routine_at p r).body (routine_at p r).lines (calls r lt)

    all_same : HaveSame p q
    all_same = record {
      procedures = λ r low high. procedure_same r low high;
      calls = λ r low high. calls_lined r high;
      results = λ r. result_same r;
      declared = λ r. declared_same r;
    }
      where
        procedure_same : (r : ℕ) → 0 < r → r < number → routine_at q r ≡ routine_at p r
        procedure_same zero low high = absurd (omega (arith, low))
        procedure_same (suc j) low high = get_or_append_left rest (list_procedure body.line gs ∷ []) no_routine j (omega (arith, high))

        result_same : (r : ℕ) → (routine_at q r).result ≡ (routine_at p r).result
        result_same zero = refl
        result_same (suc j) = same_result rest j

        declared_same : (r : ℕ) → (routine_at q r).declared ≡ (routine_at p r).declared
        declared_same zero = refl
        declared_same (suc j) = same_declared rest j

    declared_few : (r : ℕ) → (routine_at q r).declared ≤ 1048576
    declared_few r = omega (arith, all_same.declared r, few r)

    module _ (input : List ℕ) where
      -- cut off below this level
      abbrev Below : ℕ → Type 0
      Below m = m < cells_sum gs + 2

      routine_written : (m : ℕ) (f : Frame) (t : Store) → Own f number t → Writes NoYield (Stays f number) (Below m)
          (4 + globals_visits gs) (line_of_store gs (f ∷ [])) ((level q input m).routine number t)
      routine_written zero f t here = w_cut (omega arith)
      routine_written (suc k) f t here =
          subst (λ routine. Writes NoYield (Stays f number) (Below (suc k)) (4 + globals_visits gs) (line_of_store gs (f ∷ []))
          (ev_stmts q input (level q input k) (body_with_lines routine) t)) (sym list_procedure_is)
          (line_written q input f number gs k (λ l. omega (arith, l)) _ t here)

      entered : (m : ℕ) (f : Frame) → Writes NoYield (Stays f number) (Below m) (4 + globals_visits gs) (line_of_store gs (f ∷ []))
          (enter q ((level q input m).routine number) number 0 (f ∷ []) [])
      entered m f =
          let s : Store = f ∷ [] in
          let body_at : Routine → Events NoYield = λ routine. (level q input m).routine number (s ++ frame_of s number 0 routine [] ∷ []) in
          let entry : Routine → Events NoYield =
          λ routine. fault_unless fault.DepthFull (nat_lt (length s) 10000) (λ _.
          fault_unless fault.CellsFull (nat_le (declared_cells q s + routine.declared) 1048576) (λ _. body_at routine)) in
          let sum : declared_cells q s ≡ (routine_at q f.routine).declared + 0 = sum_by-cons (λ g. (routine_at q g.routine).declared) f []
          in
          let fits : nat_le (declared_cells q s + 0) 1048576 ≡ true = le-leb (declared_cells q s + 0) 1048576
          (omega (arith, sum, declared_few f.routine)) in
          subst (λ routine. Writes NoYield (Stays f number) (Below m) (4 + globals_visits gs) (line_of_store gs s) (entry routine))
          (sym list_procedure_is)
          (subst (λ w. Writes NoYield (Stays f number) (Below m) (4 + globals_visits gs) (line_of_store gs s)
          (fault_unless fault.CellsFull w (λ _. body_at (list_procedure body.line gs)))) (sym fits)
          (routine_written m f (own f number Unknown Unknown Unknown) own_is))

      fails : (m line : ℕ) (s : Store) → Closes (Below m) 4 [] Failed
          (ev_stmts q input (level q input m) (more_stmts line (TestStmt (Value (Const (pos 0)))) no_stmts) s)
      unfolding ev_stmts
      fails m line s = c_visit (c_visit (c_visit (c_visit c_fail)))

      tail_closes : (m a c : ℕ) (f : Frame) → Closes (Below m) (12 + globals_visits gs) (line_of_store gs (f ∷ [])) Failed
          (ev_stmts q input (level q input m)
          (more_stmts a (TestStmt (CallTest number no_args 0)) (more_stmts c (TestStmt (Value (Const (pos 0)))) no_stmts)) (f ∷ []))
      unfolding ev_stmts
      tail_closes m a c f =
          let out : List ℕ = line_of_store gs (f ∷ []) in
          let then_fail : Store → Events NoYield = λ t. ev_stmts q input (level q input m)
          (more_stmts c (TestStmt (Value (Const (pos 0)))) no_stmts) t in
          let called : Writes NoYield (λ t y. Unit {0}) (Below m) (8 + globals_visits gs) out
          (at_line a (ev_stmt q input (level q input m) (TestStmt (CallTest number no_args 0)) (f ∷ []))) =
          w_more (8 + globals_visits gs) (w_lined a (w_noded (w_noded (w_alone (w_left (λ t h. tt) (entered m f)))))) (omega arith) in
          subst (λ o. Closes (Below m) (12 + globals_visits gs) o Failed
          (bind (at_line a (ev_stmt q input (level q input m) (TestStmt (CallTest number no_args 0)) (f ∷ []))) (λ t _. then_fail t)))
          (append-nil out)
          (c_more (12 + globals_visits gs) (w_closed 4 [] called (λ t y h. fails m c t)) (omega arith))

      -- what stands behind each alternative of the module's own statements
      tail_lists : (m : ℕ) (t : Store) → length t ≡ 1 → Closes (Below m) (12 + globals_visits gs) (line_of_store gs t) Failed
          (ev_stmts q input (level q input m) (stmts_with (list_and_fail number) (body.line ∷ body.line ∷ [])) t)
      unfolding stmts_with stmts_phrases
      tail_lists m [] l = absurd (omega (arith, l))
      tail_lists m (f ∷ []) l = tail_closes m body.line body.line f
      tail_lists m (f ∷ g ∷ t) l = absurd (omega (arith, l))

      -- the program that lists, at each level
      program_closes : (n : ℕ) → Closes (n < cells_sum gs + 3)
          (visit_count (ev_program n p input) + (12 + globals_visits gs) * alternatives (ev_program n p input))
          (listing_text gs (ev_program n p input)) (closes (ev_program n p input)) (ev_program n q input)
      program_closes zero = c_end
      program_closes (suc m) =
          let lined : Stmts = body_with_lines body in
          let s : Store = start p in
          let e : Events NoYield = ev_stmts p input (level p input m) lined s in
          let e2 : Events NoYield = ev_stmts q input (level q input m) lined s in
          let K : Store → Events NoYield = λ t. ev_stmts q input (level q input m)
          (stmts_with (list_and_fail number) (body.line ∷ body.line ∷ [])) t in
          let V : ℕ = 12 + globals_visits gs in
          let never : HaveNoReturn lined = stmts_stay IsNoReturn no_return_with body.body body.lines plain in
          let same_events : Alike NoYield 1 (Unit {0}) e2 e = under (λ _. never)
          (mean_the_same p q all_same input (suc m) lined s (calls_lined 0 (omega arith))) in
          let bound : Closes (Below m) (visit_count e + V * alternatives e) (listing_text gs e) (closes e) (bind e2 (λ t _. K t)) =
          lists V gs
          (tail_lists m) same_events in
          let noded : Closes (suc m < cells_sum gs + 3) (suc (visit_count e + V * alternatives e)) (listing_text gs e) (closes e)
          (node (bind e2 (λ t _. K t))) = c_visit (c_visited (c_weaker (λ l. omega (arith, l)) bound)) in
          let apart : ev_stmts q input (level q input m) (body_with_lines (routine_at q 0)) s ≡ bind e2 (λ t _. K t) =
          ap (λ x. ev_stmts q input (level q input m) x s)
          (with_append body.body (list_and_fail number) body.lines (body.line ∷ body.line ∷ []) counted)
          ∙ two_lists q input (level q input m) lined (stmts_with (list_and_fail number) (body.line ∷ body.line ∷ [])) s in
          let products : V * alternatives (visit_each e) ≡ V * alternatives e = ap (λ k. V * k) (node_alternatives e) in
          let more : suc (visit_count e + V * alternatives e) ≤ suc (visit_count (visit_each e)) + V * alternatives (visit_each e) = omega
          (arith, products, node_visits e) in
          subst (λ x. Closes (suc m < cells_sum gs + 3) (suc (visit_count (visit_each e)) + V * alternatives (visit_each e))
          (listing_text gs (visit_each e)) (closes (visit_each e)) (node x)) (sym apart)
          (subst (λ z. Closes (suc m < cells_sum gs + 3) (suc (visit_count (visit_each e)) + V * alternatives (visit_each e))
          (listing_text gs (visit_each e)) z (node (bind e2 (λ t _. K t)))) (sym (node_closes e))
          (subst (λ o. Closes (suc m < cells_sum gs + 3) (suc (visit_count (visit_each e)) + V * alternatives (visit_each e)) o (closes e)
          (node (bind e2 (λ t _. K t)))) (sym (node_listed gs e))
          (c_more (suc (visit_count (visit_each e)) + V * alternatives (visit_each e)) noded more)))

      at_level : (n : ℕ) → ListsAt q p n input
      at_level n = record {
        none = no_alternative (program_closes n);
        prefix = prints_front (program_closes n);
        whole = λ h. let r = prints_whole (program_closes n) h in λ i. (r.0 i, r.1 i);
        reached = λ h.
            let K : ℕ = 128 * (global_cells p + 1) in
            let turned : K + n ≡ n + K = omega arith in
            let higher : ev_program (n + K) p input ≡ ev_program n p input =
            ap (λ k. ev_program k p input) (sym turned) ∙ uncut_lists_stay.statements (ev_program n p input) (ev_program (K + n) p input)
            (further p input n K) h in
            never_cut (program_closes (n + K)) (λ lt. omega (arith, lt, cells_are gs))
            (cut_alike (ev_program (n + K) p input) ∙ ap ends_in_cut higher ∙ h);
        visits = λ h.
            let few_more : 12 + globals_visits gs ≤ 128 * (global_cells p + length gs + 1) = omega (arith, visits_are gs, cells_are gs) in
            omega (
              arith,
              visits_few (program_closes n),
              mono (12 + globals_visits gs) (128 * (global_cells p + length gs + 1))
                  (alternatives (ev_program n p input)) few_more,
            );
      }

-- ---- every checked program with no RETURN in the body of the module

declared_within : (p : Program) → IsChecked p → (r : ℕ) → (routine_at p r).declared ≤ 1048576
declared_within p h r = elim (cases_lt r (length p.routines)) [
  | inl lt ↦ (h.routine_limits r lt).declared
  | inr ge ↦ let none : (routine_at p r).declared ≡ 0 = ap (λ x. x.declared) (get_or_past p.routines r no_routine ge) in omega (arith, none)
]

by_routines : (name : List ℕ) (gs : List Global) (rs : List Routine) → IsChecked (record { name = name; globals = gs; routines = rs }) →
    HaveNoReturn (get_or rs 0 no_routine).body
    → Lists (listing_of (record { name = name; globals = gs; routines = rs })) (record { name = name; globals = gs; routines = rs })
by_routines name gs [] h plain = absurd (omega (arith, h.body.0))
by_routines name gs (body ∷ rest) h plain =
    λ n input. at_level name gs body rest (λ r lt. h.callees r lt) ((h.lines 0 h.body.0).count) (declared_within _ h) plain input n

lists_holds : (p : Program) → IsChecked p → HaveNoReturn (routine_at p 0).body → Lists (listing_of p) p
lists_holds p h plain = by_routines p.name p.globals p.routines h plain

-- ---- what it costs

append_nodes : (x y : Stmts) → stmts_nodes (append_stmts x y) ≡ stmts_nodes x + stmts_nodes y
append_nodes no_stmts y = omega arith
append_nodes (more_stmts line x rest) y = omega (arith, append_nodes rest y)

cells_nodes : (slot cells : ℕ) (rest : Stmts) → stmts_nodes (write_cells slot cells rest) ≤ 26 + stmts_nodes rest
cells_nodes slot zero rest = omega arith
cells_nodes slot (suc last) rest = omega arith

globals_nodes : (before : List ℕ) (gs : List Global) (rest : Stmts) → stmts_nodes (write_globals before gs rest) ≤ 27 * length gs +
    stmts_nodes rest
globals_nodes before [] rest = omega arith
globals_nodes before (g ∷ gs) rest =
    omega (arith, cells_nodes g.slot g.cells (write_globals (codes " ") gs rest), globals_nodes (codes " ") gs rest)

routines_more : (xs : List Routine) (r : Routine) → routines_nodes (xs ++ (r ∷ [])) ≡ routines_nodes xs + routine_nodes r
routines_more [] r = omega arith
routines_more (x ∷ xs) r = omega (arith, routines_more xs r)

costs_few : (name : List ℕ) (gs : List Global) (rs : List Routine) →
    CostsFew (listing_of (record { name = name; globals = gs; routines = rs })) (record { name = name; globals = gs; routines = rs })
costs_few name gs [] = omega arith
costs_few name gs (body ∷ rest) =
    omega (
      arith,
      append_nodes body.body (list_and_fail (suc (length rest))),
      routines_more rest (list_procedure body.line gs),
      globals_nodes []
          gs (more_stmts 0 (WriteText (125 ∷ 10 ∷ [])) no_stmts),
    )

pub each_is_listed : EachIsListed listing_of
each_is_listed p h plain = (lists_holds p h plain, costs_few p.name p.globals p.routines)
