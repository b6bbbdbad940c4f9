-- What is pushed behind statements, and what a copy with the same numbers is.
use Rattle.std.proofs.Common.{◌≡◌, ℕ, zero, suc, ◌+◌, ◌<◌, ◌≤◌, List, [], ◌∷◌, ◌++◌, length, get_or, take, drop, map, refl, sym, ap}
use Rattle.std.proofs.Common.{subst, ◌∙◌, arith}
use Rattle.std.specs.Prelude.{sum_by, slice_index_or, codes}
use Rattle.std.specs.List.{AllByRecursion}
use Rattle.std.proofs.lemmas.List.{take_all, take_more, map-append, length-map}
use Rattle.std.proofs.lemmas.List.Sums.{sum_by-cons}
use Rattle.alma_ir.specs.declared.phrase.Stmt as S
use Rattle.alma_ir.specs.declared.program.Global.{Global as Variable}
use Rattle.alma_ir.specs.declared.program.Routine.{Routine as RoutineInMemory}
use Rattle.alma_ir.specs.declared.program.Program.{Program as InMemory}
use Rattle.alma_ir.specs.Tree.{Stmts, Stmt, Routine, Global, Program, no_routine, no_stmts, more_stmts, WriteText, ForTo}
use Rattle.alma_ir.specs.View.{program_of, routine_of, stmts_list, stmt_of, global_of}
use Rattle.alma_ir.specs.Checked.{IsChecked, IsName}
use Rattle.alma_resolved.specs.Room.{HasRoom}
use Rattle.alma_rules.specs.Parts.{append_stmts}
use Rattle.alma_copy.specs.declared.copy.Moves.{Moves as Numbers}
use Rattle.alma_copy.specs.Moved.{moved_routine, moved_global}
use Rattle.alma_copy.specs.Numbers.{slot_behind, number_in, moves_of}
use Rattle.alma_copy.proofs.Stays.{stmts_stay}
use Rattle.alma_listing.specs.Lister.{write_cells, write_globals, write_line, cells_loop, list_and_fail, listing_body}
use Rattle.alma_listing.specs.Inner.{space_before, write_global}

-- ---- pushes

pub pushed : (xs : List S.Stmt) (y : S.Stmt) (rest : Stmts) → append_stmts (stmts_list (xs ++ (y ∷ []))) rest ≡ append_stmts
    (stmts_list xs) (more_stmts 0 (stmt_of y) rest)
pushed [] y rest = refl
pushed (x ∷ xs) y rest = ap (more_stmts 0 (stmt_of x)) (pushed xs y rest)

append_none : (x : Stmts) → append_stmts x no_stmts ≡ x
append_none no_stmts = refl
append_none (more_stmts line x rest) = ap (more_stmts line x) (append_none rest)

-- one statement more
pub one_pushed : (xs : List S.Stmt) (y : S.Stmt) → stmts_list (xs ++ (y ∷ [])) ≡ append_stmts (stmts_list xs)
    (more_stmts 0 (stmt_of y) no_stmts)
one_pushed xs y = sym (append_none (stmts_list (xs ++ (y ∷ [])))) ∙ pushed xs y no_stmts

-- two more
pub two_pushed : (xs ys zs : List S.Stmt) (a b : S.Stmt) (x : Stmts) (v w : Stmt) → stmts_list xs ≡ x → ys ≡ xs ++ (a ∷ []) →
    zs ≡ ys ++ (b ∷ []) → stmt_of a ≡ v → stmt_of b ≡ w →
    stmts_list zs ≡ append_stmts x (more_stmts 0 v (more_stmts 0 w no_stmts))
two_pushed xs ys zs a b x v w is first second of_a of_b =
    ap stmts_list second ∙ one_pushed ys b ∙ ap (λ l. append_stmts (stmts_list l) (more_stmts 0 (stmt_of b) no_stmts)) first
    ∙ pushed xs a (more_stmts 0 (stmt_of b) no_stmts)
    ∙ (λ i. append_stmts (is i) (more_stmts 0 (of_a i) (more_stmts 0 (of_b i) no_stmts)))

-- ---- the statements of the line

-- a global of no cells
pub no_cells_written : (g : Variable) (before text : List ℕ) (old new : List S.Stmt) (x : S.Stmt) → g.cells ≡ 0 → new ≡ old ++ (x ∷ []) →
    stmt_of x ≡ WriteText text → text ≡ before ++ g.name.items ++ codes "=" →
    (rest : Stmts) → append_stmts (stmts_list new) rest ≡ append_stmts (stmts_list old) (write_global before (global_of g) rest)
no_cells_written g before text old new x none push is text_is rest =
    ap (λ l. append_stmts (stmts_list l) rest) push ∙ pushed old x rest
    ∙ (λ i. append_stmts (stmts_list old) (more_stmts 0 ((is ∙ ap WriteText text_is) i) (write_cells g.slot (sym none i) rest)))

-- one of some cells
pub cells_written : (g : Variable) (last : ℕ) (before text : List ℕ) (old new newer : List S.Stmt) (x y : S.Stmt) → g.cells ≡ suc last →
    new ≡ old ++ (x ∷ []) → newer ≡ new ++ (y ∷ []) → stmt_of x ≡ WriteText text →
    text ≡ before ++ g.name.items ++ codes "=" → stmt_of y ≡ ForTo (cells_loop g.slot last) → (rest : Stmts) →
    append_stmts (stmts_list newer) rest ≡ append_stmts (stmts_list old) (write_global before (global_of g) rest)
cells_written g last before text old new newer x y some push push_loop is text_is is_loop rest =
    ap (λ l. append_stmts (stmts_list l) rest) push_loop ∙ pushed new y rest
    ∙ ap (λ l. append_stmts (stmts_list l) (more_stmts 0 (stmt_of y) rest)) push ∙ pushed old x (more_stmts 0 (stmt_of y) rest)
    ∙ (λ i. append_stmts (stmts_list old) (more_stmts 0 ((is ∙ ap WriteText text_is) i) (more_stmts 0 (is_loop i) rest)))
    ∙ (λ i. append_stmts (stmts_list old)
    (more_stmts 0 (WriteText (before ++ g.name.items ++ codes "=")) (write_cells g.slot (sym some i) rest)))

-- what is left to write behind the first globals
abbrev pub IsLine : List Variable → (place : ℕ) → List S.Stmt → Type 0
IsLine gs place body =
    (rest : Stmts) → append_stmts (stmts_list body) (write_globals (space_before place) (drop place (map global_of gs)) rest) ≡ more_stmts
    0 (WriteText (123 ∷ [])) (write_globals [] (map global_of gs) rest)

drop_next : (gs : List Variable) (i : ℕ) (x : Variable) → i < length gs → x ≡ get_or gs i x → drop i (map global_of gs) ≡ global_of x ∷
    drop (suc i) (map global_of gs)
drop_next [] i x within is = absurd (omega (arith, within))
drop_next (g ∷ gs) zero x within is = ap (λ y. global_of y ∷ map global_of gs) (sym is)
drop_next (g ∷ gs) (suc i) x within is = drop_next gs i x (omega (arith, within)) is

drop_past : (gs : List Variable) (i : ℕ) → length gs ≤ i → drop i (map global_of gs) ≡ []
drop_past [] zero end = refl
drop_past [] (suc i) end = refl
drop_past (g ∷ gs) zero end = absurd (omega (arith, end))
drop_past (g ∷ gs) (suc i) end = drop_past gs i (omega (arith, end))

pub line_begun : (gs : List Variable) (old : List S.Stmt) (x : S.Stmt) → old ≡ x ∷ [] → stmt_of x ≡ WriteText (123 ∷ []) → IsLine gs 0 old
line_begun gs old x first is rest =
    ap (λ l. append_stmts (stmts_list l) (write_globals [] (map global_of gs) rest)) first
    ∙ ap (λ y. more_stmts 0 y (write_globals [] (map global_of gs) rest)) is

next_line : (gs : List Variable) (i : ℕ) (x : Variable) (before : List ℕ) (old new : List S.Stmt) → i < length gs → x ≡ get_or gs i x →
    before ≡ space_before i → IsLine gs i old →
    ((rest : Stmts) → append_stmts (stmts_list new) rest ≡ append_stmts (stmts_list old) (write_global before (global_of x) rest)) →
    IsLine gs (suc i) new
next_line gs i x before old new within is space h written rest =
    written (write_globals (space_before (suc i)) (drop (suc i) (map global_of gs)) rest)
    ∙ ap (λ b. append_stmts (stmts_list old) (write_globals b (global_of x ∷ drop (suc i) (map global_of gs)) rest)) space
    ∙ ap (λ l. append_stmts (stmts_list old) (write_globals (space_before i) l rest)) (sym (drop_next gs i x within is)) ∙ h rest

pub line_next : (gs : List Variable) (i : ℕ) (x : Variable) (before : List ℕ) (old new : List S.Stmt) → i < length gs →
    x ≡ get_or gs i x → before ≡ space_before i → IsLine gs i old →
    ((rest : Stmts) → append_stmts (stmts_list new) rest ≡ append_stmts (stmts_list old) (write_global before (global_of x) rest)) →
    IsLine gs (i + 1) new
line_next gs i x before old new within is space h written =
    let on : suc i ≡ i + 1 = omega arith in
    subst (λ n. IsLine gs n new) on (next_line gs i x before old new within is space h written)

pub line_ended : (gs : List Variable) (i : ℕ) (old new : List S.Stmt) (y : S.Stmt) → length gs ≤ i → IsLine gs i old →
    stmt_of y ≡ WriteText (125 ∷ 10 ∷ []) → new ≡ old ++ (y ∷ []) →
    stmts_list new ≡ write_line (map global_of gs)
line_ended gs i old new y end h is push =
    ap stmts_list push ∙ one_pushed old y ∙ (λ k. append_stmts (stmts_list old) (more_stmts 0 (is k) no_stmts))
    ∙ ap (λ l. append_stmts (stmts_list old) (write_globals (space_before i) l (more_stmts 0 (WriteText (125 ∷ 10 ∷ [])) no_stmts)))
    (sym (drop_past gs i end))
    ∙ h (more_stmts 0 (WriteText (125 ∷ 10 ∷ [])) no_stmts)

-- ---- the same numbers

slot_stays : (before slot : ℕ) → before ≡ 0 → slot_behind before slot ≡ slot
slot_stays before zero e = refl
slot_stays before (suc slot) e = omega (arith, e)

number_stays : (table : List ℕ) (r : ℕ) → table ≡ [] → number_in table r ≡ r
number_stays table r e = ap (λ t. number_in t r) e

pub routine_stays : (m : Numbers) → m.own ≡ 0 → m.global ≡ 0 → m.routines.now ≡ [] → (r : Routine) → moved_routine (moves_of m) r ≡ r
routine_stays m own global routines r =
    λ i. record r {
      body =
          stmts_stay (moves_of m) (λ n. slot_stays m.own n own) (λ n. slot_stays m.global n global)
          (λ n. number_stays m.routines.now n routines) r.body i;
      outer = number_stays m.routines.now r.outer routines i;
    }

pub global_stays : (m : Numbers) → m.global ≡ 0 → (g : Global) → moved_global (moves_of m) g ≡ g
global_stays m global g = λ i. record g { slot = slot_stays m.global g.slot global i }

-- the body of the module with more statements and lines
pub body_is : (r s : Routine) (number : ℕ) (body : Stmts) (lines : List ℕ) → r ≡ s → body ≡ append_stmts r.body (list_and_fail number) →
    lines ≡ r.lines ++ (s.line ∷ s.line ∷ []) →
    record r { body = body; lines = lines } ≡ listing_body s number
body_is r s number body lines same of_body of_lines =
    λ i. record (same i) {
      body = (of_body ∙ ap (λ x. append_stmts x.body (list_and_fail number)) same) i;
      lines = (of_lines ∙ ap (λ x. x.lines ++ (s.line ∷ s.line ∷ [])) same) i;
    }

-- ---- the routines

-- a turn of a loop behind a first element
pub next_behind : {X Y Z : Type 0} (f : Y → Z) (g : X → Z) (z : Z) (xs : List X) (i : ℕ) (x : X) (ys new : List Y) (y : Y) →
    i < length xs → x ≡ get_or xs i x →
    map f ys ≡ z ∷ map g (take i xs) → f y ≡ g x → new ≡ ys ++ (y ∷ []) → map f new ≡ z ∷ map g (take (i + 1) xs)
next_behind f g z xs i x ys new y within is before one push =
    ap (map f) push ∙ map-append f ys (y ∷ []) ∙ (λ k. before k ++ (one k ∷ []))
    ∙ ap (λ l. z ∷ l) (sym
    (ap (map g) (take_more xs i x within ∙ ap (λ z. take i xs ++ (z ∷ [])) (sym is)) ∙ map-append g (take i xs) (x ∷ [])))

-- all of them, and the last
pub routines_are : {X Y Z : Type 0} (f : Y → Z) (g : X → Z) (z w : Z) (xs : List X) (i : ℕ) (ys new : List Y) (y : Y) → length xs ≤ i →
    map f ys ≡ z ∷ map g (take i xs) → f y ≡ w → new ≡ ys ++ (y ∷ []) →
    map f new ≡ z ∷ (map g xs ++ (w ∷ []))
routines_are f g z w xs i ys new y end before last push =
    ap (map f) push ∙ map-append f ys (y ∷ []) ∙ (λ k. (before ∙ ap (λ l. z ∷ map g l) (take_all i xs end)) k ++ (last k ∷ []))

names_long : (rs : List Routine) → AllByRecursion (λ r. IsName r.name) rs → length rs ≤ sum_by (λ r. length r.name) rs
names_long [] h = omega arith
names_long (r ∷ rs) h = omega (arith, sum_by-cons (λ r. length r.name) r rs, names_long rs h.1, name_some r.name h.0)
  where
    name_some : (n : List ℕ) → IsName n → 0 < length n
    name_some [] h = absurd h
    name_some (c ∷ rest) h = omega arith

-- a program whose names have room has few routines
pub few_routines : (p : Program) → IsChecked p → HasRoom p → length p.routines ≤ 4194304
few_routines p h room = omega (arith, names_long p.routines h.names.routines, room)

-- a checked program in memory has a routine, and few
pub some_routine : (p : InMemory) → IsChecked (program_of p) → 0 < length p.routines.items
some_routine p h =
    let same : length (map routine_of p.routines.items) ≡ length p.routines.items = length-map p.routines.items routine_of in omega
    (arith, h.body.0, same)

pub few_in_memory : (p : InMemory) → IsChecked (program_of p) → HasRoom (program_of p) → length p.routines.items < 4294967295
few_in_memory p h room =
    let same : length (map routine_of p.routines.items) ≡ length p.routines.items = length-map p.routines.items routine_of in
    omega (arith, few_routines (program_of p) h room, same)

-- the statements of its first routine
pub first_body : (rs : List RoutineInMemory) (x : RoutineInMemory) (body : List S.Stmt) → 0 < length rs → x ≡ slice_index_or rs 0 x →
    body ≡ x.body.items → stmts_list body ≡ (get_or (map routine_of rs) 0 no_routine).body
first_body [] x body some is of_body = absurd (omega (arith, some))
first_body (y ∷ ys) x body some is of_body = ap stmts_list (of_body ∙ ap (λ r. r.body.items) is)
