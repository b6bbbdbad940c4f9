-- Where reading ends behind the END of a module.
use Rattle.std.proofs.Common.{◌≡◌, List, [], ◌∷◌, true, refl, sym, subst}
use Rattle.alma_tree.specs.declared.kind.Kind.{Kind}
use Rattle.alma_tree.specs.Numbers.{Step}
use Rattle.alma_grammar.specs.Reading.{reading, End, unexpected}
use Rattle.alma_parse_cursor.specs.declared.fault.Fault.{Fault}
use Rattle.alma_parse_cursor.specs.declared.fault.Fault.TheVariants as faults
use Rattle.alma_parse_cursor.specs.Parsing.{At, Reads, Fails, EndsIn}
use Rattle.alma_parse_cursor.proofs.Steps.{moved}
use Rattle.alma_parse.specs.End.{end_parts}

pub ends_there : {fault : Fault} {a : At} → Fails fault end_parts 0 a → EndsIn fault (reading true a.kinds 0 (end_parts []))
ends_there f = f.ends []

-- that memory ran out says nothing
pub memory_ends : {fault : Fault} (there : End) → fault ≡ faults.Memory → EndsIn fault there
memory_ends there e = subst (λ f. EndsIn f there) (sym e) tt

pub ends_behind : (fault : Fault) {s : List Kind → List Kind} {n : Step} {a b : At} → Reads s n end_parts 0 0 a b
    → EndsIn fault (reading true b.kinds 0 []) → EndsIn fault (reading true a.kinds 0 (end_parts []))
ends_behind fault x h = moved fault _ _ (x.reads []) h

pub some_left : (ks : List Kind) (k : Kind) (rest : List Kind) → ks ≡ k ∷ rest → reading true ks 0 [] ≡ unexpected ks
some_left [] k rest e = absurd cc
some_left (l ∷ ks) k rest e = refl
