-- The place of a refused token, and what is said of the tokens before it.
use Rattle.std.proofs.Common.{◌≡◌, ◌≤◌, ◌-◌, ◌+◌, ℕ, suc, Bool, true, false, List, [], ◌∷◌, ◌++◌, take, length, Option, None, Some}
use Rattle.std.proofs.Common.{refl, ap, subst, sym, ◌∙◌, arith, length-append}
use Rattle.alma_base.specs.declared.fault.SyntaxFault.TheVariants as syntax
use Rattle.alma_tree.specs.declared.kind.Kind.{Kind}
use Rattle.alma_tree.specs.Depth.{depth}
use Rattle.alma_grammar.specs.Parts.{Part, whole, next, all_skip}
use Rattle.alma_grammar.specs.Reading.{reading, End, done, unexpected, too_deep, at_end, goes_on, level}
use Rattle.alma_grammar.specs.Filling.{open_after, WhereSome, finish}
use Rattle.alma_grammar.specs.Laws.{Begins, HasDepth}
use Rattle.alma_grammar.proofs.Exact.{exact_place}
use Rattle.alma_grammar.proofs.Finish.{each_front_is_finished}
use Rattle.alma_grammar.proofs.Programs.{exact_depth, each_program_is_read}
use Rattle.alma_tree.specs.Tree.{Module}
use Rattle.alma_tree.specs.Spelling.{spelling}
use Rattle.alma_scan.specs.declared.scanner.Token.{Token}
use Rattle.alma_parse.specs.declared.error.ParseError.TheVariants as errors
use Rattle.alma_parse_cursor.specs.Parsing.{kinds_of}
use Rattle.alma_parse.proofs.Modules.{as_many}
use Rattle.alma_parse.specs.Refusals.{Refuses}

-- ---- fronts of one list before one rest

cancel : (xs ys rest : List Kind) → xs ++ rest ≡ ys ++ rest → xs ≡ ys
cancel [] [] rest e = refl
cancel [] (y ∷ ys) rest e =
    let h : length rest ≡ suc (length ys + length rest) = ap length e ∙ ap suc (length-append ys rest) in absurd (omega arith)
cancel (x ∷ xs) [] rest e =
    let h : suc (length xs + length rest) ≡ length rest = sym (ap suc (length-append xs rest)) ∙ ap length e in absurd (omega arith)
cancel (x ∷ xs) (y ∷ ys) rest e =
    let h : xs ++ rest ≡ ys ++ rest = cc in let u = cancel xs ys rest h in let v : x ≡ y = cc in cc

front_length : (ks front rest : List Kind) (k : ℕ) → ks ≡ front ++ rest → k ≡ length ks - length rest → length front ≡ k
front_length ks front rest k e h = let x : length ks ≡ length front + length rest = ap length e ∙ length-append front rest in omega arith

rest_shorter : (ks front rest : List Kind) → ks ≡ front ++ rest → length rest ≤ length ks
rest_shorter ks front rest e = let x : length ks ≡ length front + length rest = ap length e ∙ length-append front rest in omega arith

-- ---- where the depth passes 100

record Deep (ks : List Kind) (parts : List Part) (rest : List Kind) : Type 0 where
  front : List Kind
  later : List Part
  whole_list : ks ≡ front ++ rest
  opened : open_after (front ++ take 1 rest) parts ≡ Some later

deep_end : (parts : List Part) (rest : List Kind) (b : Bool) → at_end b ≡ too_deep rest → Deep [] parts rest
deep_end parts rest true e = absurd cc
deep_end parts rest false e = absurd cc

deep_next : (k : Kind) (ks : List Kind) (parts : List Part) (rest : List Kind) (deep : Bool) (go : List Part → End)
    → ((later : List Part) → go later ≡ too_deep rest → Deep ks later rest)
    → (n : Option (List Part)) → next parts k ≡ n → goes_on n deep (k ∷ ks) go ≡ too_deep rest → Deep (k ∷ ks) parts rest
deep_next k ks parts rest deep go ih None h e = absurd cc
deep_next k ks parts rest true go ih (Some later) h e =
    let x : k ∷ ks ≡ rest = cc in
    subst (λ r. Deep (k ∷ ks) parts r) x (record { front = []; later = later; whole_list = refl; opened = rw h refl })
deep_next k ks parts rest false go ih (Some later) h e =
    let f = ih later e in
    record { front = k ∷ f.front; later = f.later; whole_list = ap (λ r. k ∷ r) f.whole_list; opened = rw h f.opened }

deep : (checked : Bool) (ks : List Kind) (d : ℕ) (parts : List Part) (rest : List Kind)
    → reading checked ks d parts ≡ too_deep rest → Deep ks parts rest
deep checked [] d parts rest e = deep_end parts rest (all_skip parts) e
deep checked (k ∷ ks) d parts rest e =
    deep_next k ks parts rest _ (reading checked ks (level d k)) (λ later. deep checked ks (level d k) later rest) (next parts k) refl e

begun : (front : List Kind) (later : List Part) (n : Option (List Part)) → n ≡ Some later
    → WhereSome n (λ parts. (t : Module) × (spelling t ≡ front ++ finish parts)) → Begins front
begun front later None e h = absurd cc
begun front later (Some parts) e h = (h.0, finish parts, h.1)

-- ---- what a refusal says

of_unexpected : (ks rest : List Kind) (k : ℕ) → reading true ks 0 whole ≡ unexpected rest → HasDepth ks (unexpected rest)
    → k ≡ length ks - length rest → Refuses (errors.Syntax syntax.Unexpected k) ks
of_unexpected ks rest k e h l =
    let x = exact_place ks rest e in
    let same : h.0 ≡ x.0 = cancel h.0 x.0 rest (sym h.1 ∙ x.1) in
    (x.0, rest, x.1, front_length ks x.0 rest k x.1 l, x.2, x.3, subst (λ f. depth f ≤ 100) same h.2)

of_deep : (ks rest : List Kind) (k : ℕ) → reading true ks 0 whole ≡ too_deep rest → HasDepth ks (too_deep rest)
    → k ≡ length ks - length rest → Refuses (errors.Syntax syntax.TooDeep k) ks
of_deep ks rest k e h l =
    let f = deep true ks 0 whole rest e in
    let same : f.front ≡ h.0 = cancel f.front h.0 rest (sym f.whole_list ∙ h.1) in
    let b = begun (f.front ++ take 1 rest) f.later (open_after (f.front ++ take 1 rest) whole) f.opened
    (each_front_is_finished (f.front ++ take 1 rest)) in
    (h.0, rest, h.1, front_length ks h.0 rest k h.1 l, h.2, h.3, subst (λ g. Begins (g ++ take 1 rest)) same b)

pub refuses_unexpected : (ks rest : List Kind) (k : ℕ) → reading true ks 0 whole ≡ unexpected rest → k ≡ length ks - length rest
    → Refuses (errors.Syntax syntax.Unexpected k) ks
refuses_unexpected ks rest k e l = of_unexpected ks rest k e (subst (HasDepth ks) e (exact_depth ks)) l

pub refuses_deep : (ks rest : List Kind) (k : ℕ) → reading true ks 0 whole ≡ too_deep rest → k ≡ length ks - length rest
    → Refuses (errors.Syntax syntax.TooDeep k) ks
refuses_deep ks rest k e l = of_deep ks rest k e (subst (HasDepth ks) e (exact_depth ks)) l

pub found_depth : (ks : List Kind) → reading true ks 0 whole ≡ done → depth ks ≤ 100
found_depth ks e = (each_program_is_read.what_is_read ks e).1

-- ---- tokens and kinds

in_kinds : (tokens rest : List Token) (k : ℕ) → k ≡ length tokens - length rest → k ≡ length (kinds_of tokens) - length (kinds_of rest)
in_kinds tokens rest k e = rw (as_many tokens, as_many rest) e

pub unexpected_at : (tokens rest : List Token) (k : ℕ) → reading true (kinds_of tokens) 0 whole ≡ unexpected (kinds_of rest)
    → k ≡ length tokens - length rest → Refuses (errors.Syntax syntax.Unexpected k) (kinds_of tokens)
unexpected_at tokens rest k e l = refuses_unexpected (kinds_of tokens) (kinds_of rest) k e (in_kinds tokens rest k l)

pub deep_at : (tokens rest : List Token) (k : ℕ) → reading true (kinds_of tokens) 0 whole ≡ too_deep (kinds_of rest)
    → k ≡ length tokens - length rest → Refuses (errors.Syntax syntax.TooDeep k) (kinds_of tokens)
deep_at tokens rest k e l = refuses_deep (kinds_of tokens) (kinds_of rest) k e (in_kinds tokens rest k l)

pub unexpected_within : (tokens rest : List Token) → reading true (kinds_of tokens) 0 whole ≡ unexpected (kinds_of rest)
    → length rest ≤ length tokens
unexpected_within tokens rest e =
    let x = exact_place (kinds_of tokens) (kinds_of rest) e in
    let y = rest_shorter (kinds_of tokens) x.0 (kinds_of rest) x.1 in omega (arith, as_many tokens, as_many rest)

pub deep_within : (tokens rest : List Token) → reading true (kinds_of tokens) 0 whole ≡ too_deep (kinds_of rest)
    → length rest ≤ length tokens
deep_within tokens rest e =
    let x = deep true (kinds_of tokens) 0 whole (kinds_of rest) e in
    let y = rest_shorter (kinds_of tokens) x.front (kinds_of rest) x.whole_list in omega (arith, as_many tokens, as_many rest)
