-- The place of an unexpected token is exact, and what is read is a program.
use Rattle.std.proofs.Common.{◌≡◌, ℕ, Bool, true, false, List, [], ◌∷◌, ◌++◌, Option, None, Some, refl, ap, sym, ◌∙◌, subst, append-nil}
use Rattle.alma_tree.specs.declared.kind.Kind.{Kind}
use Rattle.alma_tree.specs.Tree.{Module}
use Rattle.alma_tree.specs.Spelling.{spelling}
use Rattle.alma_grammar.specs.Parts.{Part, whole, next, all_skip}
use Rattle.alma_grammar.specs.Reading.{reading, End, done, unexpected, at_end, goes_on, level}
use Rattle.alma_grammar.specs.Filling.{open_after, and_then, WhereSome, finish}
use Rattle.alma_grammar.specs.Laws.{Stops, Begins}
use Rattle.alma_grammar.proofs.ReadTrees.{whole_read}
use Rattle.alma_grammar.proofs.Finish.{each_front_is_finished, each_end_is_a_tree}

-- ---- where reading stops

abbrev Stuck : List Part → List Kind → Type 0
Stuck later [] = all_skip later ≡ false
Stuck later (k ∷ rest) = next later k ≡ None

record Found (ks : List Kind) (parts : List Part) (rest : List Kind) : Type 0 where
  front : List Kind
  later : List Part
  whole_list : ks ≡ front ++ rest
  opened : open_after front parts ≡ Some later
  stuck : Stuck later rest

found_end : (parts : List Part) (rest : List Kind) (b : Bool) → all_skip parts ≡ b → at_end b ≡ unexpected rest → Found [] parts rest
found_end parts rest true h e = absurd cc
found_end parts rest false h e =
    let x : [] ≡ rest = cc in
    subst (λ r. Found [] parts r) x (record { front = []; later = parts; whole_list = refl; opened = refl; stuck = h })

found_next : (k : Kind) (ks : List Kind) (parts : List Part) (rest : List Kind) (deep : Bool) (go : List Part → End)
    → ((later : List Part) → go later ≡ unexpected rest → Found ks later rest)
    → (n : Option (List Part)) → next parts k ≡ n → goes_on n deep (k ∷ ks) go ≡ unexpected rest → Found (k ∷ ks) parts rest
found_next k ks parts rest deep go ih None h e =
    let x : k ∷ ks ≡ rest = cc in
    subst (λ r. Found (k ∷ ks) parts r) x (record { front = []; later = parts; whole_list = refl; opened = refl; stuck = h })
found_next k ks parts rest true go ih (Some later) h e = absurd cc
found_next k ks parts rest false go ih (Some later) h e =
    let f = ih later e in
    record { front = k ∷ f.front; later = f.later; whole_list = ap (λ r. k ∷ r) f.whole_list; opened = rw h f.opened; stuck = f.stuck }

found : (checked : Bool) (ks : List Kind) (d : ℕ) (parts : List Part) (rest : List Kind)
    → reading checked ks d parts ≡ unexpected rest → Found ks parts rest
found checked [] d parts rest e = found_end parts rest (all_skip parts) refl e
found checked (k ∷ ks) d parts rest e =
    found_next k ks parts rest _ (reading checked ks (level d k)) (λ later. found checked ks (level d k) later rest) (next parts k) refl e

abbrev ReadOn : List Kind → List Kind → ℕ → List Part → List Part → Type 0
ReadOn front x d parts later = (e : ℕ) × (reading false (front ++ x) d parts ≡ reading false x e later)

read_next : (k : Kind) (front x : List Kind) (d : ℕ) (parts later : List Part) (n : Option (List Part)) → next parts k ≡ n
    → and_then n (open_after front) ≡ Some later
    → ((mid : List Part) → open_after front mid ≡ Some later → ReadOn front x (level d k) mid later) → ReadOn (k ∷ front) x d parts later
read_next k front x d parts later None h e ih = absurd cc
read_next k front x d parts later (Some mid) h e ih = let r = ih mid e in (r.0, rw h r.1)

read_on : (front x : List Kind) (d : ℕ) (parts later : List Part) → open_after front parts ≡ Some later → ReadOn front x d parts later
read_on [] x d parts later e = let y : parts ≡ later = cc in (d, ap (reading false x d) y)
read_on (k ∷ front) x d parts later e =
    read_next k front x d parts later (next parts k) refl e (λ mid. read_on front x (level d k) mid later)

stops : (front rest : List Kind) (later : List Part) → open_after front whole ≡ Some later → Stuck later rest → Stops front rest
stops front [] later e h = λ t s.
    let r = read_on front [] 0 whole later e in
    let a : reading false (spelling t) 0 whole ≡ at_end (all_skip later) = ap (λ l. reading false l 0 whole) (s ∙ sym (append-nil front))
    ∙ r.1 in
    let b : done ≡ at_end false = sym (whole_read t) ∙ a ∙ ap at_end h in absurd cc
stops front (k ∷ rest) later e h = λ t more s.
    let r = read_on front (k ∷ more) 0 whole later e in
    let a : reading false (spelling t) 0 whole ≡ reading false (k ∷ more) r.0 later = ap (λ l. reading false l 0 whole) s ∙ r.1 in
    let b : done ≡ goes_on None false (k ∷ more) (reading false more (level r.0 k))
    = sym (whole_read t) ∙ a ∙ ap (λ n. goes_on n false (k ∷ more) (reading false more (level r.0 k))) h in absurd cc

pub finished : (front : List Kind) (later : List Part) (n : Option (List Part)) → n ≡ Some later
    → WhereSome n (λ parts. (t : Module) × (spelling t ≡ front ++ finish parts)) → Begins front
finished front later None e h = absurd cc
finished front later (Some parts) e h = (h.0, finish parts, h.1)

pub exact_place : (ks rest : List Kind) → reading true ks 0 whole ≡ unexpected rest
    → (front : List Kind) × (ks ≡ front ++ rest) × Stops front rest × Begins front
exact_place ks rest e =
    let f = found true ks 0 whole rest e in (
      f.front,
      f.whole_list,
      stops f.front rest f.later f.opened f.stuck,
      finished f.front f.later (open_after f.front whole) f.opened (each_front_is_finished f.front),
    )

-- ---- where reading comes to the end

record Ended (ks : List Kind) (parts : List Part) : Type 0 where
  later : List Part
  opened : open_after ks parts ≡ Some later
  skipped : all_skip later ≡ true

ended_end : (parts : List Part) (b : Bool) → all_skip parts ≡ b → at_end b ≡ done → Ended [] parts
ended_end parts true h e = record { later = parts; opened = refl; skipped = h }
ended_end parts false h e = absurd cc

ended_next : (k : Kind) (ks : List Kind) (parts : List Part) (deep : Bool) (go : List Part → End)
    → ((later : List Part) → go later ≡ done → Ended ks later)
    → (n : Option (List Part)) → next parts k ≡ n → goes_on n deep (k ∷ ks) go ≡ done → Ended (k ∷ ks) parts
ended_next k ks parts deep go ih None h e = absurd cc
ended_next k ks parts true go ih (Some later) h e = absurd cc
ended_next k ks parts false go ih (Some later) h e =
    let f = ih later e in record { later = f.later; opened = rw h f.opened; skipped = f.skipped }

ended : (checked : Bool) (ks : List Kind) (d : ℕ) (parts : List Part) → reading checked ks d parts ≡ done → Ended ks parts
ended checked [] d parts e = ended_end parts (all_skip parts) refl e
ended checked (k ∷ ks) d parts e =
    ended_next k ks parts _ (reading checked ks (level d k)) (λ later. ended checked ks (level d k) later) (next parts k) refl e

a_tree : (ks : List Kind) (later : List Part) (n : Option (List Part)) → n ≡ Some later → all_skip later ≡ true
    → WhereSome n (λ parts. all_skip parts ≡ true → (t : Module) × (spelling t ≡ ks ++ [])) → (t : Module) × (spelling t ≡ ks)
a_tree ks later None e s h = absurd cc
a_tree ks later (Some parts) e s h =
    let x : parts ≡ later = cc in let y : all_skip parts ≡ true = ap all_skip x ∙ s in let r = h y in (r.0, r.1 ∙ append-nil ks)

pub what_is_read : (ks : List Kind) → reading true ks 0 whole ≡ done → (t : Module) × (spelling t ≡ ks)
what_is_read ks e =
    let f = ended true ks 0 whole e in a_tree ks f.later (open_after ks whole) f.opened f.skipped (each_end_is_a_tree ks)
