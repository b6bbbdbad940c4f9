-- The routines of a code, one more at a time.
use Rattle.std.proofs.Common.{◌≡◌, ℕ, zero, suc, ◌+◌, ◌<◌, Bool, true, false, List, [], ◌∷◌, ◌++◌, length, get_or, refl, sym, ap, ◌∙◌}
use Rattle.std.proofs.Common.{subst, arith, append_assoc, length-append}
use Rattle.std.specs.Prelude.{map, nat_lt, Option, Some, None, Result, Ok, Err, IfOk, OnOk}
use Rattle.std.proofs.lemmas.Bool.{ltb-false, ltb-true}
use Rattle.std.proofs.lemmas.List.{append-nil, map-append}
use Rattle.alma_code.specs.declared.head.Run.{Run}
use Rattle.alma_code.specs.declared.cell.SlotKind.{SlotKind}
use Rattle.alma_code.specs.declared.code.RoutineHead.{RoutineHead}
use Rattle.alma_code.specs.Plain as plain
use Rattle.alma_code.specs.Plain.{PlainRoutine}
use Rattle.alma_base.specs.declared.number.Range.{Range}
use Rattle.alma_ir.specs.declared.program.Routine.{Routine as Here}
use Rattle.alma_ir.specs.declared.phrase.Stmt as S
use Rattle.alma_code.specs.declared.instr.Instr.{Instr}
use Rattle.alma_choice.specs.Emitted.{line_instr}
use Rattle.alma_ir.specs.View.{routine_of, stmts_list}
use Rattle.alma_ir.specs.Tree.{Program, Routine, routine_at, no_routine}
use Rattle.alma_ir.specs.Lines.{body_with_lines, stmts_with}
use Rattle.alma_lower_templates.specs.Runs.{NamesKinds}
use Rattle.alma_lower_work.specs.Front.{Around, Front, Codes}
use Rattle.alma_lower_work.specs.Puts.{PutsStmts}
use Rattle.alma_lower_templates.specs.Compiled.{head_for, routines_code, routines_named}
use Rattle.alma_lower_templates.specs.LineInstr.{LineInstr, own}
use Rattle.alma_lower_templates.specs.Slots.{own_kinds, routine_kinds, stmts_slots}
use Rattle.alma_lower_templates.specs.Tables.{Tables}
use Rattle.alma_lower_templates.specs.Templates.{routine_code, stmts_code, end_code}
use Rattle.alma_lower.specs.Routines.{around_at, end_instr, Begins, HeadFor, runs_in, AreHeads}

-- ---- one routine

-- a routine in memory, at its number
pub routine_there : (xs : List Here) (i : ℕ) (x : Here) → i < length xs → x ≡ get_or xs i x
    → get_or (map routine_of xs) i no_routine ≡ routine_of x
routine_there [] i x lt is = absurd (omega (arith, lt))
routine_there (y ∷ xs) zero x lt is = ap routine_of (sym is)
routine_there (y ∷ xs) (suc i) x lt is = routine_there xs i x (omega (arith, lt)) is

end_is : (p : Program) (t : Tables) (r : ℕ) (o : Option Range) → end_instr o ≡ end_code p t r o
end_is p t r (Some range) = refl
end_is p t r None = refl

module _ (s : Around) (x : Routine) (is : routine_at s.program s.routine ≡ x) (a b c d : Front) (n : ℕ)
    (long : n ≡ length (own_kinds x)) (begins : Begins a b n x.lines) (puts : PutsStmts s b c x.body)
    (ends : Codes c d (own x.line (end_instr x.result ∷ []))) where
  abbrev code_with : Routine → List LineInstr
  code_with y = stmts_code s.program s.tables s.routine (length a.code) (length (own_kinds y)) (body_with_lines y)
      ++ own y.line (end_code s.program s.tables s.routine y.result ∷ [])

  abbrev body : (at lo : ℕ) → List ℕ → List LineInstr
  body at lo ls = stmts_code s.program s.tables s.routine at lo (stmts_with x.body ls)

  -- its code
  pub routine_put : d.code ≡ a.code ++ routine_code s.program s.tables s.routine (length a.code)
  routine_put =
      ends.instrs ∙ ap (λ i. c.code ++ own x.line (i ∷ [])) (end_is s.program s.tables s.routine x.result)
      ∙ ap (λ l. l ++ own x.line (end_code s.program s.tables s.routine x.result ∷ []))
      (puts.all.instrs ∙ ap (λ l. l ++ body (length l) b.next b.lines) begins.code
      ∙ ap (λ k. a.code ++ body (length a.code) k b.lines) (begins.next ∙ long)
      ∙ ap (λ ls. a.code ++ body (length a.code) (length (own_kinds x)) ls) begins.left)
      ∙ append_assoc a.code (body (length a.code) (length (own_kinds x)) x.lines)
      (own x.line (end_code s.program s.tables s.routine x.result ∷ []))
      ∙ ap (λ y. a.code ++ code_with y) (sym is)

  -- the kinds of its slots
  pub routine_slots : (own_slots all : List SlotKind) → own_slots ≡ own_kinds x → all ≡ own_slots ++ d.kinds
      → all ≡ routine_kinds s.program s.routine
  routine_slots own_slots all e e2 =
      e2 ∙ ap (λ l. l ++ d.kinds) e
      ∙ ap (λ l. own_kinds x ++ l)
      (ends.taken ∙ puts.all.taken ∙ ap (λ l. l ++ stmts_slots s.program s.routine (stmts_with x.body b.lines)) begins.kinds
      ∙ ap (λ ls. stmts_slots s.program s.routine (stmts_with x.body ls)) begins.left)
      ∙ ap (λ y. own_kinds y ++ stmts_slots s.program s.routine (body_with_lines y)) (sym is)

-- ---- the routines in a row

code_last : (p : Program) (t : Tables) (r n at : ℕ)
    → routines_code p t r (suc n) at ≡ routines_code p t r n at ++ routine_code p t (r + n) (at + length (routines_code p t r n at))
code_last p t r zero at =
    let e : r ≡ r + 0 = omega arith in
    let e2 : at ≡ at + 0 = omega arith in
    append-nil (routine_code p t r at) ∙ ap (λ k. routine_code p t k at) e ∙ ap (λ k. routine_code p t (r + 0) k) e2
code_last p t r (suc m) at = step (routine_code p t r at) (at + length (routine_code p t r at)) refl
    (code_last p t (suc r) m (at + length (routine_code p t r at)))
  where
    step : (first : List LineInstr) (next : ℕ) → next ≡ at + length first
        → routines_code p t (suc r) (suc m) next ≡ routines_code p t (suc r) m next
        ++ routine_code p t (suc r + m) (next + length (routines_code p t (suc r) m next))
        → first ++ routines_code p t (suc r) (suc m) next ≡ (first ++ routines_code p t (suc r) m next)
        ++ routine_code p t (r + suc m) (at + length (first ++ routines_code p t (suc r) m next))
    step first next is later =
        let e : suc r + m ≡ r + suc m = omega arith in
        let e2 : next + length (routines_code p t (suc r) m next) ≡ at + length (first ++ routines_code p t (suc r) m next) =
        omega (arith, is, length-append first (routines_code p t (suc r) m next)) in
        ap (λ l. first ++ l) later
        ∙ sym (append_assoc first (routines_code p t (suc r) m next)
        (routine_code p t (suc r + m) (next + length (routines_code p t (suc r) m next))))
        ∙ ap (λ k. (first ++ routines_code p t (suc r) m next) ++ routine_code p t k (next + length (routines_code p t (suc r) m next))) e
        ∙ ap (λ k. (first ++ routines_code p t (suc r) m next) ++ routine_code p t (r + suc m) k) e2

-- a routine of the code that begins at an address
abbrev named_at : Program → Tables → (r at : ℕ) → List Run → PlainRoutine
named_at p t r at runs = record { name = (routine_at p r).name; head = head_for p r runs; code_end = at + length (routine_code p t r at) }

named_last : (p : Program) (t : Tables) (r at : ℕ) (all : List (List Run)) (runs : List Run)
    → routines_named p t r at (all ++ runs ∷ []) ≡ routines_named p t r at all
    ++ named_at p t (r + length all) (at + length (routines_code p t r (length all) at)) runs ∷ []
named_last p t r at [] runs =
    let e : r ≡ r + 0 = omega arith in
    let e2 : at ≡ at + 0 = omega arith in
    ap (λ k. named_at p t k at runs ∷ []) e ∙ ap (λ k. named_at p t (r + 0) k runs ∷ []) e2
named_last p t r at (x ∷ all) runs = step (routine_code p t r at) (at + length (routine_code p t r at)) refl
    (named_last p t (suc r) (at + length (routine_code p t r at)) all runs)
  where
    step : (first : List LineInstr) (next : ℕ) → next ≡ at + length first
        → routines_named p t (suc r) next (all ++ runs ∷ []) ≡ routines_named p t (suc r) next all
        ++ named_at p t (suc r + length all) (next + length (routines_code p t (suc r) (length all) next)) runs ∷ []
        → named_at p t r at x ∷ routines_named p t (suc r) next (all ++ runs ∷ [])
        ≡ named_at p t r at x ∷ (routines_named p t (suc r) next all
        ++ named_at p t (r + suc (length all)) (at + length (first ++ routines_code p t (suc r) (length all) next)) runs ∷ [])
    step first next is later =
        let e : suc r + length all ≡ r + suc (length all) = omega arith in
        let e2 : next + length (routines_code p t (suc r) (length all) next) ≡ at + length
        (first ++ routines_code p t (suc r) (length all) next) =
        omega (arith, is, length-append first (routines_code p t (suc r) (length all) next)) in
        ap (λ l. named_at p t r at x ∷ l) (later
        ∙ ap (λ k. routines_named p t (suc r) next all ++ named_at p t k (next + length (routines_code p t (suc r) (length all) next)) runs
        ∷ []) e
        ∙ ap (λ k. routines_named p t (suc r) next all ++ named_at p t (r + suc (length all)) k runs ∷ []) e2)

-- ---- the heads

get_last : {A : Type 0} (xs : List A) (x d : A) (i : ℕ) → i ≡ length xs → get_or (xs ++ x ∷ []) i d ≡ x
get_last [] x d zero e = refl
get_last [] x d (suc i) e = absurd (omega (arith, e))
get_last (y ∷ xs) x d zero e = absurd (omega (arith, e))
get_last (y ∷ xs) x d (suc i) e = get_last xs x d i (omega (arith, e))

get_front : {A : Type 0} (xs ys : List A) (d : A) (i : ℕ) → i < length xs → get_or (xs ++ ys) i d ≡ get_or xs i d
get_front [] ys d i lt = absurd (omega (arith, lt))
get_front (x ∷ xs) ys d zero lt = refl
get_front (x ∷ xs) ys d (suc i) lt = get_front xs ys d i (omega (arith, lt))

pub length_runs : (made : List PlainRoutine) → length (runs_in made) ≡ length made
length_runs [] = refl
length_runs (x ∷ made) = ap suc (length_runs made)

one_is : (p : Program) (t : Tables) (r at end : ℕ) (one : PlainRoutine) → HeadFor (routine_at p r) (routine_kinds p r) end one
    → end ≡ at + length (routine_code p t r at) → one ≡ named_at p t r at one.head.runs
one_is p t r at end one h is =
    let runs = one.head.runs in
    ap (λ x. record { name = x; head = one.head; code_end = one.code_end }) h.name
    ∙ ap (λ x. record { name = (routine_at p r).name; head = one.head; code_end = x }) (h.end ∙ is)
    ∙ ap (λ x. record {
      name = (routine_at p r).name;
      head =
          record { slots = x; declared = one.head.declared; params = one.head.params; runs = runs; has_result = one.head.has_result };
      code_end = at + length (routine_code p t r at);
    }) h.slots
    ∙ ap (λ x. record {
      name = (routine_at p r).name;
      head =
          record {
            slots = length (routine_kinds p r);
            declared = x;
            params = one.head.params;
            runs = runs;
            has_result =
                one.head.has_result;
          };
      code_end = at + length (routine_code p t r at);
    }) h.declared
    ∙ ap (λ x. record {
      name = (routine_at p r).name;
      head =
          record {
            slots = length (routine_kinds p r);
            declared = (routine_at p r).declared;
            params = x;
            runs = runs;
            has_result =
                one.head.has_result;
          };
      code_end = at + length (routine_code p t r at);
    }) h.params
    ∙ ap (λ x. record {
      name = (routine_at p r).name;
      head =
          record {
            slots = length (routine_kinds p r);
            declared = (routine_at p r).declared;
            params = (head_for p r runs).params;
            runs = runs;
            has_result = x;
          };
      code_end = at + length (routine_code p t r at);
    }) h.result

-- the code of the first n routines, and their heads
pub record Makes (p : Program) (t : Tables) (n : ℕ) (code : List LineInstr) (made : List PlainRoutine) : Type 0 where
  pub code_is : code ≡ routines_code p t 0 n 0
  pub heads : AreHeads p t n made

pub makes_none : (p : Program) (t : Tables) → Makes p t 0 [] []
makes_none p t = record { code_is = refl; heads = record { count = refl; are = refl; names = λ r lt. absurd (omega (arith, lt)) } }

pub makes_more : (p : Program) (t : Tables) (n : ℕ) (code grown : List LineInstr) (made : List PlainRoutine) (one : PlainRoutine)
    → Makes p t n code made
    → grown ≡ code ++ routine_code p t n (length code) → HeadFor (routine_at p n) (routine_kinds p n) (length grown) one
    → NamesKinds one.head.runs (routine_kinds p n) → Makes p t (n + 1) grown (made ++ one ∷ [])
makes_more p t n code grown made one h more head names =
    let none : ℕ = 0 in
    let next : n + 1 ≡ suc n = omega arith in
    let n0 : none + n ≡ n = omega arith in
    let behind : none + length (routines_code p t 0 n 0) ≡ length code = omega (arith, ap length h.code_is) in
    let grows : routines_code p t 0 (suc n) 0 ≡ grown =
    code_last p t 0 n 0 ∙ ap (λ k. routines_code p t 0 n 0 ++ routine_code p t k (none + length (routines_code p t 0 n 0))) n0
    ∙ ap (λ k. routines_code p t 0 n 0 ++ routine_code p t n k) behind ∙ ap (λ l. l ++ routine_code p t n (length code)) (sym h.code_is)
    ∙ sym more in
    let rs = runs_in made in
    let last : runs_in (made ++ one ∷ []) ≡ rs ++ one.head.runs ∷ [] = map-append (λ r. r.head.runs) made (one ∷ []) in
    let long : length rs ≡ n = length_runs made ∙ h.heads.count in
    let first : none + length rs ≡ n = omega (arith, long) in
    let place : none + length (routines_code p t 0 (length rs) 0) ≡ length code = ap (λ k. none + length (routines_code p t 0 k 0)) long
    ∙ behind in
    let end : length grown ≡ length code + length (routine_code p t n (length code)) = ap length more
    ∙ length-append code (routine_code p t n (length code)) in
    record {
      code_is = sym (ap (λ k. routines_code p t 0 k 0) next ∙ grows);
      heads = record {
        count = omega (arith, h.heads.count, length-append made (one ∷ []));
        are = ap (λ l. l ++ one ∷ []) h.heads.are
            ∙ ap (λ x. routines_named p t 0 0 rs ++ x ∷ []) (one_is p t n (length code) (length grown) one head end)
            ∙ ap (λ k. routines_named p t 0 0 rs ++ named_at p t k (length code) one.head.runs ∷ []) (sym first)
            ∙ ap (λ k. routines_named p t 0 0 rs ++ named_at p t (none + length rs) k one.head.runs ∷ []) (sym place)
            ∙ sym (named_last p t 0 0 rs one.head.runs)
            ∙ ap (routines_named p t 0 0) (sym last);
        names = λ r lt. subst (λ l. NamesKinds (get_or l r []) (routine_kinds p r)) (sym last)
            (by rs long r (nat_lt r n) refl lt h.heads.names);
      };
    }
  where
    by : (rs : List (List Run)) → length rs ≡ n → (r : ℕ) → (b : Bool) → nat_lt r n ≡ b → r < n + 1
        → ((k : ℕ) → k < n → NamesKinds (get_or rs k []) (routine_kinds p k))
        → NamesKinds (get_or (rs ++ one.head.runs ∷ []) r []) (routine_kinds p r)
    by rs long r true e lt all = subst (λ x. NamesKinds x (routine_kinds p r))
        (sym (get_front rs (one.head.runs ∷ []) [] r (omega (arith, ltb-true r n e, long)))) (all r (ltb-true r n e))
    by rs long r false e lt all =
        let same : r ≡ n = omega (arith, ltb-false r n e, lt) in
        subst (λ x. NamesKinds x (routine_kinds p r)) (sym (get_last rs one.head.runs [] r (omega (arith, same, long))))
        (subst (λ k. NamesKinds one.head.runs (routine_kinds p k)) (sym same) names)

pub routine_made : (s : Around) (p : Program) (t : Tables) (n : ℕ) (code grown : List LineInstr) (heads more : List RoutineHead)
    (head : RoutineHead) → s ≡ around_at p t n → more ≡ heads ++ head ∷ []
    → Makes p t n code (map plain.routine_of heads) → grown ≡ code ++ routine_code s.program s.tables s.routine (length code)
    → NamesKinds head.kinds.items (routine_kinds s.program s.routine)
    → HeadFor (routine_at s.program s.routine) (routine_kinds s.program s.routine) (length grown) (plain.routine_of head)
    → Makes p t (n + 1) grown (map plain.routine_of more)
routine_made s p t n code grown heads more head is grows h longer names there =
    let e : map plain.routine_of heads ++ plain.routine_of head ∷ [] ≡ map plain.routine_of more =
    sym (ap (map plain.routine_of) grows ∙ map-append plain.routine_of heads (head ∷ [])) in
    subst (Makes p t (n + 1) grown) e
    (makes_more p t n code grown (map plain.routine_of heads) (plain.routine_of head) h
    (longer ∙ ap (λ z. code ++ routine_code z.program z.tables z.routine (length code)) is)
    (subst (λ z. HeadFor (routine_at z.program z.routine) (routine_kinds z.program z.routine) (length grown) (plain.routine_of head)) is
    there)
    (subst (λ z. NamesKinds head.kinds.items (routine_kinds z.program z.routine)) is names))

-- a routine of the program is one of its scene
pub scene_exists : (s : Around) (p : Program) (t : Tables) (n : ℕ) → s ≡ around_at p t n → n < length p.routines
    → s.routine < length s.program.routines
scene_exists s p t n is lt = subst (λ z. z.routine < length z.program.routines) (sym is) lt

pub head_as : (x y : Routine) (ks ls : List SlotKind) (n m : ℕ) (made : PlainRoutine) → y ≡ x → ks ≡ ls → n ≡ m → HeadFor x ks n made
    → HeadFor y ls m made
head_as x y ks ls n m made e e2 e3 h = subst (λ z. HeadFor z ls m made) (sym e)
    (subst (λ l. HeadFor x l m made) e2 (subst (λ k. HeadFor x ks k made) e3 h))

-- what holds whatever the result is, and what follows from another clause
pub on_ok_all : {T E : Type 0} {X : Type 0} (r : Result T E) → X → OnOk r X
on_ok_all (Ok x) h = h
on_ok_all (Err e) h = tt

pub if_ok_then : {T E : Type 0} {X Y : T → Type 0} (r : Result T E) → ((x : T) → X x → Y x) → IfOk r X → IfOk r Y
if_ok_then (Ok x) f h = f x h
if_ok_then (Err e) f h = h

pub puts_at : (s : Around) (a b : Front) (l m : List S.Stmt) → l ≡ m → PutsStmts s a b (stmts_list l) → PutsStmts s a b (stmts_list m)
puts_at s a b l m is h = subst (λ y. PutsStmts s a b (stmts_list y)) is h

pub makes_first : (p : Program) (t : Tables) (pairs : List (Instr × ℕ)) (heads : List RoutineHead) → pairs ≡ [] → heads ≡ []
    → Makes p t 0 (map line_instr pairs) (map plain.routine_of heads)
makes_first p t pairs heads e e2 = subst (λ x. Makes p t 0 (map line_instr x) (map plain.routine_of heads)) (sym e)
    (subst (λ y. Makes p t 0 [] (map plain.routine_of y)) (sym e2) (makes_none p t))
