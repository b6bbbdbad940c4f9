-- What shares a name, and the matches among it.
use Rattle.std.proofs.Common.{◌≡◌, ℕ, suc, ◌+◌, ◌⊎◌, inl, inr, Bool, true, false, List, [], ◌∷◌, ◌++◌, length, refl, sym, ap, subst, ◌∙◌}
use Rattle.std.proofs.Common.{arith, Vec, Global, true≢false}
use Rattle.std.specs.Prelude.{nat_eq, ◌&&◌, not}
use Rattle.std.proofs.lemmas.Bool.{eq-eqb, cases_eq, cases_Bool}
use Rattle.std.proofs.lemmas.Bool.Decides.{nat_tests}
use Rattle.std.proofs.lemmas.List.{append-nil, append_assoc, length-append}
use Rattle.indexmap.specs.IndexMap.{get}
use Rattle.alma_base.specs.Choice.{if_true}
use Rattle.alma_ir.specs.Tree.{Routine}
use Rattle.alma_join.specs.Joined.{Kept, same_name, matches}
use Rattle.alma_join.specs.declared.directory.Directory.{Directory}
use Rattle.alma_join.specs.Directory.{PlainExport, exports_named, entries_in, alike, others, Lists, Holds, Enters, EntersOne}

-- ---- names

pub same_itself : (x : List ℕ) → same_name x x ≡ true
same_itself [] = refl
same_itself (a ∷ x) = ap (λ b. b && same_name x x) (eq-eqb a a refl) ∙ same_itself x

pub same_gives : (x y : List ℕ) → same_name x y ≡ true → x ≡ y
same_gives [] [] h = refl
same_gives [] (b ∷ y) h = absurd (true≢false (sym h))
same_gives (a ∷ x) [] h = absurd (true≢false (sym h))
same_gives (a ∷ x) (b ∷ y) h = elim (cases_eq a b) [
  | inl e ↦ let rest : x ≡ y = same_gives x y (ap (λ t. t && same_name x y) (sym (eq-eqb a b e)) ∙ h) in λ i. e i ∷ rest i
  | inr ne ↦ let differ : nat_eq a b ≡ false = grind (arith, nat_tests, ne) in absurd
      (true≢false (sym h ∙ ap (λ t. t && same_name x y) differ))
]

-- ---- lists

pub sharing_append : (xs ys : List Kept) (at : ℕ) (name : List ℕ)
    → exports_named (xs ++ ys) at name ≡ exports_named xs at name ++ exports_named ys (at + length xs) name
sharing_append [] ys at name = let e : at ≡ at + 0 = omega arith in ap (λ n. exports_named ys n name) e
sharing_append (k ∷ xs) ys at name =
    let e : suc at + length xs ≡ at + length (k ∷ xs) = omega arith in
    by _ _ _ _ (nat_eq k.routine.level 1 && same_name k.routine.name name)
    (sharing_append xs ys (suc at) name ∙ ap (λ n. exports_named xs (suc at) name ++ exports_named ys n name) e)
  where
    by : (x : PlainExport) (a b c : List PlainExport) (t : Bool) → a ≡ b ++ c
        → if_true t (λ _. x ∷ a) (λ _. a) ≡ if_true t (λ _. x ∷ b) (λ _. b) ++ c
    by x a b c true h = ap (λ l. x ∷ l) h
    by x a b c false h = h

pub matches_others : (xs : List Kept) (at unit : ℕ) (name : List ℕ) → matches xs at unit name ≡ others unit (exports_named xs at name)
matches_others [] at unit name = refl
matches_others (k ∷ xs) at unit name =
    by _ _ (nat_eq k.routine.level 1) (same_name k.routine.name name) (nat_eq k.unit unit) refl (matches_others xs (suc at) unit name)
  where
    by : (a : List (ℕ × Routine)) (b : List PlainExport) (level name same : Bool) → nat_eq k.unit unit ≡ same → a ≡ others unit b
        → if_true (level && (not same && name)) (λ _. (at, k.routine) ∷ a) (λ _. a)
        ≡ others unit (if_true (level && name) (λ _. record { unit = k.unit; number = at; routine = k.routine } ∷ b) (λ _. b))
    by a b false name same is h = h
    by a b true false true is h = h
    by a b true false false is h = h
    by a b true true true is h = h ∙ ap (λ t. if_true t (λ _. others unit b) (λ _. (at, k.routine) ∷ others unit b)) (sym is)
    by a b true true false is h = ap (λ l. (at, k.routine) ∷ l) h
        ∙ ap (λ t. if_true t (λ _. others unit b) (λ _. (at, k.routine) ∷ others unit b)) (sym is)

-- ---- one more routine

module _ (d d' : Directory) (unit : ℕ) (routine : Routine) (step : d'.next ≡ d.next + 1) where
  abbrev kept : ℕ → Kept
  kept r = record { unit = unit; number = r; routine = routine }

  counted : (all : List Kept) (k : Kept) → d.next ≡ 1 + length all → d'.next ≡ 1 + length (all ++ k ∷ [])
  counted all k h = omega (arith, step, h, length-append all (k ∷ []))

  by_lists : ((r : ℕ) (all : List Kept) → d.next ≡ 1 + length all → Lists d.entries all → Lists d'.entries (all ++ kept r ∷ []))
      → EntersOne d d' unit routine
  by_lists lists = record {
    enters = λ r. record {
      next = omega
          (arith, step);
      holds = λ all h. record { next = counted all (kept r) h.next; lists = lists r all h.next h.lists };
    };
  }

  -- a procedure of the module gets an entry
  pub entered : nat_eq routine.level 1 ≡ true
      → ((q : Vec ℕ Global) → q.items ≡ routine.name → entries_in (get alike d'.entries q)
      ≡ entries_in (get alike d.entries q) ++ record { unit = unit; number = d.next; routine = routine } ∷ [])
      → ((q : Vec ℕ Global) → (q.items ≡ routine.name → ⊥) → entries_in (get alike d'.entries q) ≡ entries_in (get alike d.entries q))
      → EntersOne d d' unit routine
  entered level own other = by_lists (λ r all next h. record {
    named = λ q. by r all next h q
        (cases_Bool (same_name routine.name q.items));
  })
    where
      by : (r : ℕ) (all : List Kept) → d.next ≡ 1 + length all → Lists d.entries all → (q : Vec ℕ Global)
          → ((same_name routine.name q.items ≡ true) ⊎ (same_name routine.name q.items ≡ false))
          → entries_in (get alike d'.entries q) ≡ exports_named (all ++ kept r ∷ []) 1 q.items
      by r all next h q (inl same) =
          own q (sym (same_gives routine.name q.items same))
          ∙ (λ i. h.named q i ++ record { unit = unit; number = next i; routine = routine } ∷ [])
          ∙ ap (λ t. exports_named all 1 q.items ++ if_true t (λ _. record { unit = unit; number = 1 + length all; routine = routine } ∷ [])
          (λ _. [])) (sym ((λ i. level i && same i)))
          ∙ sym (sharing_append all (kept r ∷ []) 1 q.items)
      by r all next h q (inr differ) =
          other q (λ e. true≢false (sym (same_itself routine.name) ∙ ap (same_name routine.name) (sym e) ∙ differ)) ∙ h.named q
          ∙ sym (append-nil _)
          ∙ ap (λ t. exports_named all 1 q.items ++ if_true t (λ _. record { unit = unit; number = 1 + length all; routine = routine } ∷ [])
          (λ _. [])) (sym ((λ i. level i && differ i)))
          ∙ sym (sharing_append all (kept r ∷ []) 1 q.items)

  -- another gets none
  pub passed : nat_eq routine.level 1 ≡ false → ((q : Vec ℕ Global)
      → entries_in (get alike d'.entries q) ≡ entries_in (get alike d.entries q)) → EntersOne d d' unit routine
  passed level same = by_lists (λ r all next h. record {
    named = λ q.
        same q ∙ h.named q ∙ sym (append-nil _)
        ∙ ap (λ t. exports_named all 1 q.items ++ if_true (t && same_name routine.name q.items)
        (λ _. record { unit = unit; number = 1 + length all; routine = routine } ∷ []) (λ _. [])) (sym level)
        ∙ sym (sharing_append all (kept r ∷ []) 1 q.items);
  })

pub enters_none : (d : Directory) → Enters d d []
enters_none d = record {
  next = omega arith;
  holds = λ all h. record {
    next = h.next
        ∙ ap (λ l. 1 + length l) (sym (append-nil all));
    lists = record {
      named = λ q. h.lists.named q
          ∙ ap (λ l. exports_named l 1 q.items) (sym (append-nil all));
    };
  };
}

pub enters_both : (a b c : Directory) (xs ys : List Kept) → Enters a b xs → Enters b c ys → Enters a c (xs ++ ys)
enters_both a b c xs ys h k = record {
  next = omega (arith, h.next, k.next, length-append xs ys);
  holds = λ all there. subst (Holds c) (append_assoc all xs ys) (k.holds (all ++ xs) (h.holds all there));
}
