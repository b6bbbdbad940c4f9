-- A module that was read to the end of the tokens.
use Rattle.std.proofs.Common.{◌≡◌, ◌≤◌, ◌+◌, ℕ, suc, List, [], ◌∷◌, true, length, Some, refl, ap, subst, ◌∙◌, arith}
use Rattle.alma_tree.specs.declared.kind.Kind.{Kind}
use Rattle.alma_tree.specs.declared.module.Module.{Module}
use Rattle.alma_tree.specs.Numbers.{Cursor, Step, IsNumbered, number_module}
use Rattle.alma_tree.specs.declared.kind.Kind.TheVariants as kinds
use Rattle.alma_grammar.specs.Parts.{Part, one, block_parts, whole}
use Rattle.alma_grammar.specs.Reading.{reading, done}
use Rattle.alma_parse_cursor.specs.declared.fault.Fault.{Fault}
use Rattle.alma_scan.specs.declared.scanner.Token.{Token}
use Rattle.alma_parse_cursor.specs.Parsing.{At, Few, Reads, Fails, EndsIn, kinds_of}
use Rattle.alma_parse_cursor.proofs.Steps.{moved}
use Rattle.alma_parse.specs.End.{end_parts}

-- at the first of these tokens
abbrev pub beginning : List Kind → At
beginning ks = record { kinds = ks; place = record { token = 0; node = 0 } }

few : (ks : List Kind) (tokens : ℕ) → length ks ≡ tokens → tokens ≤ 1048576 → Few tokens (beginning ks)
few ks tokens e h = record { counted = omega arith; fits = omega arith }

at_end_of : (a : Cursor) (t : ℕ) → a.token ≡ t → a ≡ record { token = t; node = a.node }
at_end_of a t e = ap (λ n. record { token = n; node = a.node }) e

all_counted : (p : Cursor) (ks : List Kind) (tokens : ℕ) → p.token + length ks ≡ tokens → ks ≡ [] → p.token ≡ tokens
all_counted p [] tokens c e = omega arith
all_counted p (k ∷ ks) tokens c e = absurd cc

pub module_is_read : {s : List Kind → List Kind} {p : List Part → List Part} {ks : List Kind} {b : At} (m : Module) (tokens : ℕ)
    → Reads s (number_module m) p 0 0 (beginning ks) b → length ks ≡ tokens → tokens ≤ 1048576 → b.kinds ≡ []
    → (ks ≡ s []) × IsNumbered m tokens × (reading true ks 0 (p []) ≡ done)
module_is_read {s = s} {p = p} {ks = ks} {b = b} m tokens x l h e =
    let n = x.numbered_so tokens (few ks tokens l h) in
    let t : b.place.token ≡ tokens = all_counted b.place b.kinds tokens n.1.counted e in (
      x.spelled_so ∙ ap s e,
      (b.place.node, n.0 ∙ ap Some (at_end_of b.place tokens t)),
      x.reads [] ∙ ap (λ r. reading true r 0 []) e,
    )

-- ---- from the beginning

abbrev pub module_parts : List Part → List Part
module_parts o =
    one kinds.Module ∷ one kinds.Name ∷ one kinds.Semicolon ∷ block_parts (one kinds.End ∷ one kinds.Name ∷ one kinds.Dot ∷ o)

pub module_found : {s : List Kind → List Kind} {a b : At} (ks : List Kind) (m : Module) (tokens : ℕ)
    → a ≡ beginning ks → Reads s (number_module m) module_parts 0 0 a b → length ks ≡ tokens → tokens ≤ 1048576 → b.kinds ≡ []
    → (ks ≡ s []) × IsNumbered m tokens × (reading true ks 0 whole ≡ done)
module_found {s = s} {b = b} ks m tokens e x l h z =
    module_is_read m tokens (subst (λ y. Reads s (number_module m) module_parts 0 0 y b) e x) l h z

pub ends_at : {fault : Fault} {a : At} (ks : List Kind) → a ≡ beginning ks → Fails fault module_parts 0 a
    → EndsIn fault (reading true ks 0 whole)
ends_at {fault = fault} ks e f = subst (λ x. EndsIn fault (reading true x.kinds 0 whole)) e (f.ends [])

-- the module up to its END
abbrev pub front_parts : List Part → List Part
front_parts o = one kinds.Module ∷ one kinds.Name ∷ one kinds.Semicolon ∷ block_parts (one kinds.End ∷ o)

pub ends_behind : (fault : Fault) {s : List Kind → List Kind} {n : Step} {a b : At} (ks : List Kind) → a ≡ beginning ks
    → Reads s n front_parts 0 0 a b → EndsIn fault (reading true b.kinds 0 (end_parts []))
    → EndsIn fault (reading true ks 0 whole)
ends_behind fault ks e x h = subst (λ y. EndsIn fault (reading true y.kinds 0 whole)) e (moved fault _ _ (x.reads (end_parts [])) h)

-- ---- tokens and kinds

pub as_many : (tokens : List Token) → length (kinds_of tokens) ≡ length tokens
as_many [] = refl
as_many (t ∷ ts) = ap suc (as_many ts)
