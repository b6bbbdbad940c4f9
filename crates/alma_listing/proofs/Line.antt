-- What the procedure that lists writes: the cells of a global, all globals, and the line.
use Rattle.std.proofs.Common.{◌≡◌, ℕ, zero, suc, ◌+◌, ◌*◌, ◌<◌, ◌≤◌, List, [], ◌∷◌, ◌++◌, refl, sym, ap, ◌∙◌, subst, append_assoc, arith}
use Rattle.std.specs.Prelude.{true, false, pos, ◌+ℤ◌, codes}
use Rattle.std.proofs.lemmas.Int.{ints}
use Rattle.std.proofs.lemmas.List.{append-nil}
use Rattle.std.proofs.lemmas.Bool.Decides.{nat_tests}
use Rattle.alma_base.specs.Choice.{if_true}
use Rattle.alma_base.specs.Numbers.{is_beyond}
use Rattle.alma_base.specs.declared.fault.RunFault.TheVariants as fault
use Rattle.alma_ir.specs.declared.phrase.Root.TheVariants as root
use Rattle.alma_ir.specs.Tree.{Stmts, Loop, Global, Program, no_stmts, more_stmts, ForTo, WriteText, a_loop, Const, a_desig, no_sels}
use Rattle.alma_ir.specs.Lines.{stmts_with}
use Rattle.alma_ir.specs.Phrases.{stmts_phrases}
use Rattle.alma_mean.specs.Store.{Store, Frame, Cell, Number, cell_at, put_at}
use Rattle.alma_mean.specs.Events.{Events, NoYield, one, bind}
use Rattle.alma_mean.specs.Arithmetic.{fault_unless}
use Rattle.alma_mean.specs.Rows.{next_turn, for_turn}
use Rattle.alma_mean.specs.Meaning.{Level, level, ev_stmts, ev_stmt, ev_desig, turn_for}
use Rattle.alma_listing.specs.Listing.{cell_text, more_cells, cells_text, global_text, more_globals, globals_text, line_of_store}
use Rattle.alma_listing.specs.Lister.{cell_range, cells_loop, write_cells, write_globals, write_line}
use Rattle.alma_listing.proofs.Writes.{Writes, w_visit, w_print, w_done, w_cut, w_more, w_weaker, w_alone, w_bound, w_noded, w_lined}
use Rattle.alma_listing.proofs.Writes.{w_says}
use Rattle.alma_listing.proofs.Cells.{own, Is, in_range, cell_if, cell_written, comma, comma_if, comma_written}

-- the store of a call of a procedure of three cells from the body of the module
pub data Own (f : Frame) (r : ℕ) : Store → Type 0 where
  own_is : {x y z : Cell} → Own f r (own f r x y z)

-- and so it is behind what is written
abbrev pub Stays : (f : Frame) (r : ℕ) → Store → NoYield → Type 0
Stays f r t y = Own f r t

-- the cells of a global, with the lines of the loop's statements
abbrev pub lined_loop : (slot last a b c d e : ℕ) → Loop
lined_loop slot last a b c d e =
    a_loop (a_desig (root.Local 0) 1 no_sels) (cell_range last) 1 2 (Const (pos 0)) (Const (pos last)) (pos 1)
    (more_stmts a (comma_if b) (more_stmts c (cell_if slot last d e) no_stmts))

within_limit : (k last : ℕ) → suc k ≤ last → is_beyond (pos k +ℤ pos 1) (pos last) (pos 1) ≡ false
within_limit k last le = grind (arith, ints, nat_tests)

past_limit : (k : ℕ) → is_beyond (pos k +ℤ pos 1) (pos k) (pos 1) ≡ true
past_limit k = grind (arith, ints, nat_tests)

next : (k : ℕ) → pos k +ℤ pos 1 ≡ pos (suc k)
next k = grind (arith, ints)

-- the visits and the cells of some globals
abbrev pub globals_visits : List Global → ℕ
globals_visits [] = 0
globals_visits (g ∷ gs) = 8 + 43 * g.cells + globals_visits gs

abbrev pub cells_sum : List Global → ℕ
cells_sum [] = 0
cells_sum (g ∷ gs) = g.cells + cells_sum gs

module _ (p : Program) (input : List ℕ) (f : Frame) (r : ℕ) where
  abbrev globals_only : Store
  globals_only = f ∷ []

  module _ (slot last a b c d e : ℕ) where
    abbrev loop : Loop
    loop = lined_loop slot last a b c d e

    -- the body of a turn
    body_written : {C : Type 0} (below : Level) (k : ℕ) (y z : Cell) → k ≤ last → Writes NoYield (Is (own f r (Number (pos k)) y z)) C 40
        (comma k ++ cell_text (cell_at globals_only 0 (slot + k)))
        (ev_stmts p input below (more_stmts a (comma_if b) (more_stmts c (cell_if slot last d e) no_stmts)) (own f r (Number (pos k)) y z))
    unfolding ev_stmts
    body_written {C = C} below k y z le =
        let s : Store = own f r (Number (pos k)) y z in
        let text : List ℕ = cell_text (cell_at globals_only 0 (slot + k)) in
        w_bound 28 text (w_lined a (comma_written p input below f r k y z b)) (λ t _ h.
        subst (λ u. Writes NoYield (Is s) C 28 text (ev_stmts p input below (more_stmts c (cell_if slot last d e) no_stmts) u)) (sym h)
        (w_says (append-nil text) (w_bound 0 [] (w_lined c (cell_written p input below f r k y z slot last le d e)) (λ u _ g. w_done g))))

    -- the text of the cells from the one with a number on
    abbrev from : (k rest : ℕ) → List ℕ
    from k rest = comma k ++ (cell_text (cell_at globals_only 0 (slot + k)) ++ more_cells globals_only (suc (slot + k)) rest)

    -- the body at a level, or nothing at level 0
    body_at : (n k : ℕ) (y z : Cell) → k ≤ last → Writes NoYield (Is (own f r (Number (pos k)) y z)) (n < 1) 40
        (comma k ++ cell_text (cell_at globals_only 0 (slot + k)))
        ((level p input n).stmts (more_stmts a (comma_if b) (more_stmts c (cell_if slot last d e) no_stmts)) (own f r (Number (pos k)) y z))
    body_at zero k y z le = w_cut (omega arith)
    body_at (suc n) k y z le = body_written (level p input n) k y z le

    -- a turn, with what follows its body
    turn : {C : Type 0} (below : Level) (body again : Store → Events NoYield) (k : ℕ) (x : Cell) (v : ℕ) (out : List ℕ) → k ≤ last
        → Writes NoYield (Stays f r) C v out
        (bind (body (own f r (Number (pos k)) (Number (pos k)) (Number (pos last)))) (λ u _. next_turn 1 2 (pos 1) again u (one u tt)))
        → Writes NoYield (Stays f r) C (suc (v + 2)) out
        (for_turn (ev_desig p input below (a_desig (root.Local 0) 1 no_sels)) (cell_range last) 1 2 (pos 1) body again
        (own f r x (Number (pos k)) (Number (pos last))))
    unfolding ev_stmts
    turn {C = C} below body again k x v out le h =
        let set : Unit {0} → Events NoYield = λ _.
        bind (ev_desig p input below (a_desig (root.Local 0) 1 no_sels) (own f r x (Number (pos k)) (Number (pos last))))
        (λ t q. bind (body (put_at t q (Number (pos k)))) (λ u _. next_turn 1 2 (pos 1) again u (one u tt))) in
        w_visit (subst (λ w. Writes NoYield (Stays f r) C (v + 2) out (fault_unless fault.Range w set)) (sym (in_range k last le))
        (w_more (v + 2) (w_visit (w_visit (w_alone h))) (omega arith)))

    turns_written : (n rest k : ℕ) (x : Cell) → k + rest ≡ last → Writes NoYield (Stays f r) (n < rest + 2) (43 * suc rest) (from k rest)
        ((level p input n).for loop (own f r x (Number (pos k)) (Number (pos last))))
    turns_written zero rest k x sum = w_cut (omega arith)
    turns_written (suc n) zero k x sum =
        let C : Type 0 = suc n < 2 in
        let at_last : last ≡ k = omega (arith, sum) in
        w_says (ap (λ o. comma k ++ o) (sym (append-nil (cell_text (cell_at globals_only 0 (slot + k))))))
        (turn (level p input n) ((level p input n).stmts (more_stmts a (comma_if b) (more_stmts c (cell_if slot last d e) no_stmts)))
        ((level p input n).for loop) k x 40 (comma k ++ cell_text (cell_at globals_only 0 (slot + k))) (omega (arith, sum))
        (w_says (append-nil _)
        (w_bound 0 [] (w_weaker (λ l. omega (arith, l)) (body_at n k (Number (pos k)) (Number (pos last)) (omega (arith, sum))))
        (λ t _ h.
        subst (λ u. Writes NoYield (Stays f r) C 0 [] (next_turn 1 2 (pos 1) ((level p input n).for loop) u (one u tt))) (sym h)
        (subst (λ w. Writes NoYield (Stays f r) C 0 []
        (if_true w (λ _. one (own f r (Number (pos k)) (Number (pos k)) (Number (pos last))) tt)
        (λ _. (level p input n).for loop (own f r (Number (pos k)) (Number (pos k +ℤ pos 1)) (Number (pos last))))))
        (sym (ap (λ m. is_beyond (pos k +ℤ pos 1) (pos m) (pos 1)) at_last ∙ past_limit k)) (w_done own_is))))))
    turns_written (suc n) (suc rest) k x sum =
        let C : Type 0 = suc n < suc rest + 2 in
        let text : List ℕ = cell_text (cell_at globals_only 0 (slot + k)) in
        let same_slot : slot + suc k ≡ suc (slot + k) = omega arith in
        let more : List ℕ = from (suc k) rest in
        let same_text : more ≡ more_cells globals_only (suc (slot + k)) (suc rest) =
        ap (λ o. 44 ∷ (cell_text (cell_at globals_only 0 o) ++ more_cells globals_only (suc o) rest)) same_slot in
        w_says (append_assoc (comma k) text more ∙ ap (λ o. comma k ++ (text ++ o)) same_text)
        (w_more (43 * suc (suc rest))
        (turn (level p input n) ((level p input n).stmts (more_stmts a (comma_if b) (more_stmts c (cell_if slot last d e) no_stmts)))
        ((level p input n).for loop) k x (40 + 43 * suc rest) ((comma k ++ text) ++ more) (omega (arith, sum))
        (w_bound (43 * suc rest) more
        (w_weaker (λ l. omega (arith, l)) (body_at n k (Number (pos k)) (Number (pos last)) (omega (arith, sum)))) (λ t _ h.
        subst (λ u. Writes NoYield (Stays f r) C (43 * suc rest) more (next_turn 1 2 (pos 1) ((level p input n).for loop) u (one u tt)))
        (sym h)
        (subst (λ w. Writes NoYield (Stays f r) C (43 * suc rest) more
        (if_true w (λ _. one (own f r (Number (pos k)) (Number (pos k)) (Number (pos last))) tt)
        (λ _. (level p input n).for loop (own f r (Number (pos k)) (Number (pos k +ℤ pos 1)) (Number (pos last))))))
        (sym (within_limit k last (omega (arith, sum))))
        (subst (λ v. Writes NoYield (Stays f r) C (43 * suc rest) more
        ((level p input n).for loop (own f r (Number (pos k)) (Number v) (Number (pos last))))) (sym (next k))
        (w_weaker (λ l. omega (arith, l)) (turns_written n rest (suc k) (Number (pos k)) (omega (arith, sum))))))))) (omega arith))

    -- the whole loop, from any three cells
    pub loop_written : (n : ℕ) (x y z : Cell) → Writes NoYield (Stays f r) (n < last + 1) (43 * suc last + 6)
        (cells_text globals_only slot (suc last)) (ev_stmt p input (level p input n) (ForTo loop) (own f r x y z))
    unfolding ev_stmts
    loop_written n x y z =
        let none : is_beyond (pos 0) (pos last) (pos 1) ≡ false = grind (arith, ints, nat_tests) in
        let s : Store = own f r x (Number (pos 0)) (Number (pos last)) in
        let C : Type 0 = n < last + 1 in
        let text : List ℕ = cells_text globals_only slot (suc last) in
        let same_slot : slot + 0 ≡ slot = omega arith in
        let first_turn : Writes NoYield (Stays f r) C (43 * suc last) text (turn_for p input (level p input n) loop s) =
        w_says (ap (λ o. cell_text (cell_at globals_only 0 o) ++ more_cells globals_only (suc o) last) same_slot)
        (w_weaker (λ l. omega (arith, l)) (turns_written (suc n) last 0 x (omega arith))) in
        w_more (43 * suc last + 6) (w_noded (w_visit (w_visit (w_alone (w_visit (w_visit (w_alone
        (subst (λ w. Writes NoYield (Stays f r) C (43 * suc last) text
        (if_true w (λ _. one s tt) (λ _. turn_for p input (level p input n) loop s))) (sym none) first_turn)))))))) (omega arith)

    -- the statement that writes the cells of a global, and what follows
    more_cells_written : {C : Type 0} (n w : ℕ) (more : List ℕ) (rest : Stmts) (line : ℕ) → (n < last + 1 → C) →
        ((t : Store) → Own f r t → Writes NoYield (Stays f r) C w more (ev_stmts p input (level p input n) rest t))
        → (t : Store) → Own f r t → Writes NoYield (Stays f r) C (43 * suc last + 6 + w) (cells_text globals_only slot (suc last) ++ more)
        (ev_stmts p input (level p input n) (more_stmts line (ForTo loop) rest) t)
    unfolding ev_stmts
    more_cells_written n w more rest line up behind t (own_is {x = x} {y = y} {z = z}) =
        w_bound w more (w_lined line (w_weaker up (loop_written n x y z))) (λ u _ h. behind u h)

  -- the cells of a global, if any
  cells_written : {C : Type 0} (slot cells n w : ℕ) (more : List ℕ) (rest : Stmts) → (n < cells → C)
      → ((ls : List ℕ) (t : Store) → Own f r t → Writes NoYield (Stays f r) C w more
      (ev_stmts p input (level p input n) (stmts_with rest ls) t))
      → (ls : List ℕ) (t : Store) → Own f r t → Writes NoYield (Stays f r) C (43 * cells + 6 + w)
      (cells_text globals_only slot cells ++ more) (ev_stmts p input (level p input n) (stmts_with (write_cells slot cells rest) ls) t)
  unfolding stmts_with stmts_phrases
  cells_written slot zero n w more rest up behind ls t here = w_more (43 * 0 + 6 + w) (behind ls t here) (omega arith)
  cells_written {C = C} slot (suc last) n w more rest up behind ls t here = loop_then ls
    where
      loop_then : (ls : List ℕ) → Writes NoYield (Stays f r) C (43 * suc last + 6 + w) (cells_text globals_only slot (suc last) ++ more)
          (ev_stmts p input (level p input n) (stmts_with (more_stmts 0 (ForTo (cells_loop slot last)) rest) ls) t)
      loop_then ls = more_cells_written slot last _ _ _ _ _ n w more _ _ (λ l. up (omega (arith, l))) (λ u h. behind _ u h) t here

  -- the text of some globals
  abbrev pub globals_out : List ℕ → List Global → List ℕ
  globals_out before [] = []
  globals_out before (g ∷ gs) = (before ++ g.name ++ codes "=") ++ (cells_text globals_only g.slot g.cells ++ globals_out (codes " ") gs)

  text_then : {C : Type 0} (n w : ℕ) (text more : List ℕ) (rest : Stmts) (line : ℕ) →
      ((t : Store) → Own f r t → Writes NoYield (Stays f r) C w more (ev_stmts p input (level p input n) rest t))
      → (t : Store) → Own f r t → Writes NoYield (Stays f r) C (2 + w) (text ++ more)
      (ev_stmts p input (level p input n) (more_stmts line (WriteText text) rest) t)
  unfolding ev_stmts
  text_then n w text more rest line behind t here = w_more (2 + w) (w_visit (w_print (w_visit (w_alone (behind t here))))) (omega arith)

  globals_written : {C : Type 0} (gs : List Global) (before : List ℕ) (n w : ℕ) (more : List ℕ) (rest : Stmts) → (n < cells_sum gs → C)
      → ((ls : List ℕ) (t : Store) → Own f r t → Writes NoYield (Stays f r) C w more
      (ev_stmts p input (level p input n) (stmts_with rest ls) t))
      → (ls : List ℕ) (t : Store) → Own f r t → Writes NoYield (Stays f r) C (globals_visits gs + w) (globals_out before gs ++ more)
      (ev_stmts p input (level p input n) (stmts_with (write_globals before gs rest) ls) t)
  unfolding stmts_with stmts_phrases
  globals_written [] before n w more rest up behind ls t here = w_more (0 + w) (behind ls t here) (omega arith)
  globals_written {C = C} (g ∷ gs) before n w more rest up behind ls t here =
      let text : List ℕ = before ++ g.name ++ codes "=" in
      let cells : List ℕ = cells_text globals_only g.slot g.cells in
      let out : List ℕ = globals_out (codes " ") gs in
      let cells_then : (ks : List ℕ) (u : Store) → Own f r u → Writes NoYield (Stays f r) C (43 * g.cells + 6 + (globals_visits gs + w))
      (cells ++ (out ++ more))
      (ev_stmts p input (level p input n) (stmts_with (write_cells g.slot g.cells (write_globals (codes " ") gs rest)) ks) u) =
      cells_written g.slot g.cells n (globals_visits gs + w) (out ++ more) (write_globals (codes " ") gs rest) (λ l. up (omega (arith, l)))
      (globals_written gs (codes " ") n w more rest (λ l. up (omega (arith, l))) behind) in
      w_says (sym (append_assoc text (cells ++ out) more ∙ ap (λ o. text ++ o) (append_assoc cells out more)))
      (w_more (globals_visits (g ∷ gs) + w)
      (text_then n (43 * g.cells + 6 + (globals_visits gs + w)) text (cells ++ (out ++ more)) _ _ (λ u h. cells_then _ u h) t here)
      (omega arith))

  last_text : {C : Type 0} (n line : ℕ) (t : Store) → Own f r t → Writes NoYield (Stays f r) C 2 (125 ∷ 10 ∷ [])
      (ev_stmts p input (level p input n) (more_stmts line (WriteText (125 ∷ 10 ∷ [])) no_stmts) t)
  unfolding ev_stmts
  last_text n line t here = w_visit (w_print (w_visit (w_done here)))

  -- ---- the line

  one_out : (name cells out : List ℕ) → (name ++ (61 ∷ [])) ++ (cells ++ out) ≡ (name ++ (61 ∷ cells)) ++ out
  one_out name cells out = append_assoc name (61 ∷ []) (cells ++ out) ∙ sym (append_assoc name (61 ∷ cells) out)

  more_out : (gs : List Global) → globals_out (codes " ") gs ≡ more_globals globals_only gs
  more_out [] = refl
  more_out (g ∷ gs) =
      ap (λ o. 32 ∷ o) (one_out g.name (cells_text globals_only g.slot g.cells) (globals_out (codes " ") gs)
      ∙ ap (λ o. global_text globals_only g ++ o) (more_out gs))

  out_is : (gs : List Global) → globals_out [] gs ≡ globals_text globals_only gs
  out_is [] = refl
  out_is (g ∷ gs) =
      one_out g.name (cells_text globals_only g.slot g.cells) (globals_out (codes " ") gs) ∙ ap (λ o. global_text globals_only g ++ o)
      (more_out gs)

  -- the procedure's statements, from its own three cells, whatever they hold
  pub line_written : {C : Type 0} (gs : List Global) (n : ℕ) → (n < cells_sum gs + 1 → C) → (ls : List ℕ) (t : Store) → Own f r t
      → Writes NoYield (Stays f r) C (4 + globals_visits gs) (line_of_store gs globals_only)
      (ev_stmts p input (level p input n) (stmts_with (write_line gs) ls) t)
  unfolding stmts_with stmts_phrases
  line_written {C = C} gs n up ls t here =
      let closing : (ks : List ℕ) (u : Store) → Own f r u → Writes NoYield (Stays f r) C 2 (125 ∷ 10 ∷ [])
      (ev_stmts p input (level p input n) (stmts_with (more_stmts 0 (WriteText (125 ∷ 10 ∷ [])) no_stmts) ks) u) =
      λ ks u h. last_text n _ u h in
      let globals : (ks : List ℕ) (u : Store) → Own f r u → Writes NoYield (Stays f r) C (globals_visits gs + 2)
      (globals_out [] gs ++ (125 ∷ 10 ∷ []))
      (ev_stmts p input (level p input n) (stmts_with (write_globals [] gs (more_stmts 0 (WriteText (125 ∷ 10 ∷ [])) no_stmts)) ks) u) =
      globals_written gs [] n 2 (125 ∷ 10 ∷ []) (more_stmts 0 (WriteText (125 ∷ 10 ∷ [])) no_stmts) (λ l. up (omega (arith, l))) closing in
      w_says (ap (λ o. 123 ∷ (o ++ (125 ∷ 10 ∷ []))) (out_is gs))
      (w_more (4 + globals_visits gs)
      (text_then n (globals_visits gs + 2) (codes "{") (globals_out [] gs ++ (125 ∷ 10 ∷ [])) _ _ (λ u h. globals _ u h) t here)
      (omega arith))
