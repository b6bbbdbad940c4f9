-- What the procedure that lists writes of one cell.
use Rattle.std.proofs.Common.{◌≡◌, ℕ, zero, suc, ◌+◌, ◌*◌, ◌≤◌, List, [], ◌∷◌, ◌++◌, get_or, refl, sym, ap, ◌∙◌, subst, arith}
use Rattle.std.specs.Prelude.{true, ℤ, pos, ◌-ℤ◌, nat_abs, codes}
use Rattle.std.specs.Fmt.{signed_decimal}
use Rattle.std.proofs.lemmas.Int.{ints}
use Rattle.std.proofs.lemmas.List.{append-nil}
use Rattle.std.proofs.lemmas.Bool.Decides.{nat_tests}
use Rattle.alma_base.specs.Choice.{if_true}
use Rattle.alma_base.specs.Numbers.{within, is_zero}
use Rattle.alma_base.specs.declared.fault.RunFault.TheVariants as fault
use Rattle.alma_ir.specs.declared.phrase.WriteAs.TheVariants as write_as
use Rattle.alma_ir.specs.Tree.{Stmt, Program, no_stmts, more_stmts, If, WriteExpr, WriteText, no_arms, more_arms, Value, Load, Known}
use Rattle.alma_mean.specs.Store.{Store, Frame, Place, Cell, Unknown, Number, At, cell_of, part}
use Rattle.alma_mean.specs.Events.{NoYield, Print, Flow, Go, Return, Fail, Failed, one, visit_each}
use Rattle.alma_mean.specs.Arithmetic.{fault_unless}
use Rattle.alma_mean.specs.Rows.{index_place, known_bit, read_cell}
use Rattle.alma_mean.specs.Meaning.{Level, ev_stmts, ev_stmt, ev_test, ev_expr, ev_desig}
use Rattle.alma_listing.specs.Listing.{cell_text}
use Rattle.alma_listing.specs.Lister.{index, cell_range, cell_of_global}
use Rattle.alma_listing.proofs.Closes.{Closes, c_visit, c_fail, c_more, c_visited}
use Rattle.alma_listing.proofs.Writes.{Writes, w_visit, w_print, w_done, w_more, w_alone, w_bound, w_visited, w_noded, w_lined, Taken}
use Rattle.alma_listing.proofs.Writes.{w_first, c_first, w_closed, w_says}

-- the store of a call from the body of the module: the global frame, and that of a procedure of three cells
abbrev pub own : Frame → (r : ℕ) → (x y z : Cell) → Store
own f r x y z = f ∷ record { routine = r; link = 0; cells = x ∷ y ∷ z ∷ [] } ∷ []

-- the store is this one
abbrev pub Is : {A : Type 0} → Store → Store → A → Type 0
Is s t y = t ≡ s

-- and the yield too
abbrev pub Gives : {A : Type 0} → Store → A → Store → A → Type 0
Gives s v t y = (t ≡ s) × (y ≡ v)

-- an alternative that was taken
taken_is : {A : Type 0} {s : Store} (t : Store) (g : Flow A) → Taken (Is s) t g → t ≡ s
taken_is t (Go y) h = h
taken_is t (Return n) h = absurd h

pub in_range : (k last : ℕ) → k ≤ last → within (cell_range last) (pos k) ≡ true
in_range k last le = grind (arith, ints, nat_tests)

offset : (k : ℕ) → nat_abs (pos k -ℤ pos 0) * 1 ≡ k
offset k = grind (arith, ints)

-- the statement that writes a cell, with the lines of those inside it
abbrev pub cell_if : (slot last a c : ℕ) → Stmt
cell_if slot last a c =
    If (more_arms (Value (Known (cell_of_global slot last)))
    (more_stmts a (WriteExpr (Load (cell_of_global slot last)) write_as.Int) no_stmts) no_arms)
    (more_stmts c (WriteText (codes "?")) no_stmts)

-- the comma before each cell but the first
abbrev pub comma : ℕ → List ℕ
comma zero = []
comma (suc n) = codes ","

abbrev pub comma_if : (a : ℕ) → Stmt
comma_if a = If (more_arms (Value index) (more_stmts a (WriteText (codes ",")) no_stmts) no_arms) no_stmts

-- ---- one cell, named by the number in the first slot

module _ (p : Program) (input : List ℕ) (b : Level) (f : Frame) (r k : ℕ) (y z : Cell) where
  abbrev here : Store
  here = own f r (Number (pos k)) y z

  pub index_gives : {C : Type 0} → Writes ℤ (Gives here (pos k)) C 4 [] (ev_expr p input b index here)
  unfolding ev_stmts
  index_gives = w_visit (w_visit (w_visit (w_visit (w_done (refl, refl)))))

  module _ (slot last : ℕ) (le : k ≤ last) where
    abbrev place : Place
    place = record { frame = 0; slot = slot + k; size = 1 }

    part_gives : {C : Type 0} (t : Store) (q : Place) → Writes Place (Gives t (part q k 1)) C 0 []
        (index_place t q (pos k) (cell_range last) 1)
    part_gives {C = C} t q =
        subst (λ w. Writes Place (Gives t (part q k 1)) C 0 []
        (fault_unless fault.Index w (λ _. one t (part q (nat_abs (pos k -ℤ pos 0) * 1) 1)))) (sym (in_range k last le))
        (w_done (refl, ap (λ o. part q o 1) (offset k)))

    whole : Place
    whole = record { frame = 0; slot = slot; size = suc last }

    pub desig_gives : {C : Type 0} → Writes Place (Gives here place) C 8 [] (ev_desig p input b (cell_of_global slot last) here)
    unfolding ev_stmts whole
    desig_gives {C = C} =
        let index_of : (t : Store) (v : ℤ) → Gives here (pos k) t v → Writes Place (Gives here place) C 0 []
        (index_place t whole v (cell_range last) 1) =
        λ t v h. subst (λ u. Writes Place (Gives here place) C 0 [] (index_place u whole v (cell_range last) 1)) (sym h.0)
        (subst (λ u. Writes Place (Gives here place) C 0 [] (index_place here whole u (cell_range last) 1)) (sym h.1)
        (part_gives here whole)) in
        w_noded (w_alone (w_bound 0 [] (w_noded (w_bound 0 [] index_gives index_of)) (λ t q h. w_done h)))

    -- what stands in the cell
    abbrev cell : Cell
    cell = get_or f.cells (slot + k) Unknown

    known_gives : {C : Type 0} → Writes ℤ (Gives here (known_bit cell)) C 10 [] (ev_expr p input b (Known (cell_of_global slot last)) here)
    unfolding ev_stmts
    known_gives =
        w_noded (w_bound 0 [] desig_gives (λ t q h. w_done (h.0, ap known_bit (ap (λ u. cell_of u q) h.0 ∙ ap (λ u. cell_of here u) h.1))))

    test_succeeds : {C : Type 0} → known_bit cell ≡ pos 1 → Writes NoYield (Is here) C 12 []
        (ev_test p input b (Value (Known (cell_of_global slot last))) here)
    unfolding ev_stmts
    test_succeeds {C = C} e = w_noded (w_bound 0 [] known_gives (λ t v h.
        subst (λ n. Writes NoYield (Is here) C 0 [] (if_true (is_zero n) (λ _. Fail) (λ _. one t tt))) (sym (h.1 ∙ e)) (w_done h.0)))

    test_fails : {C : Type 0} → known_bit cell ≡ pos 0 →
        Closes C 12 [] Failed (ev_test p input b (Value (Known (cell_of_global slot last))) here)
    unfolding ev_stmts
    test_fails {C = C} e = c_visit (c_visited (c_more 11 (w_closed 0 [] known_gives (λ t v h.
        subst (λ n. Closes C 0 [] Failed (if_true (is_zero n) (λ _. Fail) (λ _. one t tt))) (sym (h.1 ∙ e)) c_fail)) (omega arith)))

    load_gives : {C : Type 0} (v : ℤ) → cell ≡ Number v → Writes ℤ (Gives here v) C 10 []
        (ev_expr p input b (Load (cell_of_global slot last)) here)
    unfolding ev_stmts
    load_gives {C = C} v e = w_noded (w_bound 0 [] desig_gives (λ t q h.
        subst (λ c. Writes ℤ (Gives here v) C 0 [] (read_cell c (λ n. one t n)))
        (sym (ap (λ u. cell_of u q) h.0 ∙ ap (λ u. cell_of here u) h.1 ∙ e)) (w_done (h.0, refl))))

    number_written : {C : Type 0} (line : ℕ) (v : ℤ) → cell ≡ Number v → Writes NoYield (Is here) C 12 (signed_decimal v)
        (ev_stmts p input b (more_stmts line (WriteExpr (Load (cell_of_global slot last)) write_as.Int) no_stmts) here)
    unfolding ev_stmts
    number_written {C = C} line v e =
        w_says (append-nil _ ∙ append-nil _)
        (w_bound 0 [] (w_lined line (w_noded (w_bound 0 (signed_decimal v ++ []) (load_gives v e) (λ t n h.
        subst (λ m. Writes NoYield (Is here) C 0 (signed_decimal v ++ []) (Print (signed_decimal m) (one t tt))) (sym h.1)
        (w_print (w_done h.0)))))) (λ t _ h. w_done h))

    mark_written : {C : Type 0} (line : ℕ) → Writes NoYield (Is here) C 2 (codes "?")
        (ev_stmts p input b (more_stmts line (WriteText (codes "?")) no_stmts) here)
    unfolding ev_stmts
    mark_written line = w_visit (w_print (w_visit (w_done refl)))

    known_written : {C : Type 0} (a c : ℕ) (v : ℤ) → cell ≡ Number v → Writes NoYield (Is here) C 28 (signed_decimal v)
        (ev_stmt p input b (cell_if slot last a c) here)
    unfolding ev_stmts
    known_written {C = C} a c v e =
        let body_of : (t : Store) (g : Flow NoYield) → Taken (Is here) t g → Writes NoYield (Is here) C 13 (signed_decimal v)
        (visit_each (ev_stmts p input b (more_stmts a (WriteExpr (Load (cell_of_global slot last)) write_as.Int) no_stmts) t)) =
        λ t g h. subst (λ u. Writes NoYield (Is here) C 13 (signed_decimal v)
        (visit_each (ev_stmts p input b (more_stmts a (WriteExpr (Load (cell_of_global slot last)) write_as.Int) no_stmts) u)))
        (sym (taken_is t g h)) (w_visited (number_written a v e)) in
        w_noded (w_visit (w_first _ 13 (signed_decimal v) (test_succeeds (ap known_bit e)) body_of))

    unknown_written : {C : Type 0} (a c : ℕ) → known_bit cell ≡ pos 0 → Writes NoYield (Is here) C 28 (codes "?")
        (ev_stmt p input b (cell_if slot last a c) here)
    unfolding ev_stmts
    unknown_written a c e = w_more 28 (w_noded (w_visit (c_first _ 2 [] (codes "?") (test_fails e) (λ _. mark_written c)))) (omega arith)

    pub cell_written : {C : Type 0} (a c : ℕ) → Writes NoYield (Is here) C 28 (cell_text cell)
        (ev_stmt p input b (cell_if slot last a c) here)
    cell_written {C = C} a c = by_cell cell refl
      where
        by_cell : (x : Cell) → cell ≡ x → Writes NoYield (Is here) C 28 (cell_text cell) (ev_stmt p input b (cell_if slot last a c) here)
        by_cell (Number v) e = w_says (ap cell_text (sym e)) (known_written a c v e)
        by_cell Unknown e = w_says (ap cell_text (sym e)) (unknown_written a c (ap known_bit e))
        by_cell (At q) e = w_says (ap cell_text (sym e)) (unknown_written a c (ap known_bit e))

  index_succeeds : {C : Type 0} (n : ℕ) → k ≡ suc n → Writes NoYield (Is here) C 6 [] (ev_test p input b (Value index) here)
  unfolding ev_stmts
  index_succeeds {C = C} n e = w_noded (w_bound 0 [] index_gives (λ t v h.
      subst (λ m. Writes NoYield (Is here) C 0 [] (if_true (is_zero m) (λ _. Fail) (λ _. one t tt))) (sym (h.1 ∙ ap pos e)) (w_done h.0)))

  index_fails : {C : Type 0} → k ≡ 0 → Closes C 6 [] Failed (ev_test p input b (Value index) here)
  unfolding ev_stmts
  index_fails {C = C} e = c_visit (c_visited (c_more 5 (w_closed 0 [] index_gives (λ t v h.
      subst (λ m. Closes C 0 [] Failed (if_true (is_zero m) (λ _. Fail) (λ _. one t tt))) (sym (h.1 ∙ ap pos e)) c_fail)) (omega arith)))

  comma_text : {C : Type 0} (line : ℕ) → Writes NoYield (Is here) C 2 (codes ",")
      (ev_stmts p input b (more_stmts line (WriteText (codes ",")) no_stmts) here)
  unfolding ev_stmts
  comma_text line = w_visit (w_print (w_visit (w_done refl)))

  some_comma : {C : Type 0} (a n : ℕ) → k ≡ suc n → Writes NoYield (Is here) C 12 (codes ",") (ev_stmt p input b (comma_if a) here)
  unfolding ev_stmts
  some_comma {C = C} a n e =
      let body_of : (t : Store) (g : Flow NoYield) → Taken (Is here) t g → Writes NoYield (Is here) C 3 (codes ",")
      (visit_each (ev_stmts p input b (more_stmts a (WriteText (codes ",")) no_stmts) t)) =
      λ t g h. subst (λ u. Writes NoYield (Is here) C 3 (codes ",")
      (visit_each (ev_stmts p input b (more_stmts a (WriteText (codes ",")) no_stmts) u)))
      (sym (taken_is t g h)) (w_visited (comma_text a)) in
      w_noded (w_visit (w_first _ 3 (codes ",") (index_succeeds n e) body_of))

  no_comma : {C : Type 0} (a : ℕ) → k ≡ 0 → Writes NoYield (Is here) C 12 [] (ev_stmt p input b (comma_if a) here)
  unfolding ev_stmts
  no_comma a e = w_more 12 (w_noded (w_visit (c_first _ 0 [] [] (index_fails e) (λ _. w_done refl)))) (omega arith)

  pub comma_written : {C : Type 0} (a : ℕ) → Writes NoYield (Is here) C 12 (comma k) (ev_stmt p input b (comma_if a) here)
  comma_written {C = C} a = by_number k refl
    where
      by_number : (n : ℕ) → k ≡ n → Writes NoYield (Is here) C 12 (comma k) (ev_stmt p input b (comma_if a) here)
      by_number zero e = w_says (ap comma (sym e)) (no_comma a e)
      by_number (suc n) e = w_says (ap comma (sym e)) (some_comma a n e)
