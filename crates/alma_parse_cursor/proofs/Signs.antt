-- A sign and a mode that were passed.
use Rattle.std.proofs.Common.{◌≡◌, ℕ, true, List, ◌∷◌, Some, ap, sym, ◌∙◌, arith}
use Rattle.alma_tree.specs.declared.kind.Kind.{Kind}
use Rattle.alma_tree.specs.declared.leaf.Sign.{Sign}
use Rattle.alma_tree.specs.declared.leaf.Sign.TheVariants as signs
use Rattle.alma_tree.specs.declared.leaf.Mode.{Mode}
use Rattle.alma_tree.specs.declared.leaf.Mode.TheVariants as modes
use Rattle.alma_tree.specs.Spelling.{spell_sign, spell_mode}
use Rattle.alma_tree.specs.Numbers.{number_sign, number_mode}
use Rattle.alma_grammar.specs.Parts.{sign_part, mode_part}
use Rattle.alma_grammar.specs.Reading.{reading}
use Rattle.alma_parse_cursor.specs.Parsing.{At, Passes, Reads}

pub sign_read : (s : Sign) (k : Kind) (a b : At) (d : ℕ) → ((ks : List Kind) → spell_sign (Some s) ks ≡ k ∷ ks) → Passes k a b
    → Reads (spell_sign (Some s)) (number_sign (Some s)) (λ o. sign_part ∷ o) d d a b
sign_read signs.Plus k a b d h x = record {
  spelled_so = x.kinds_so ∙ sym (h b.kinds);
  numbered_so = x.place_so;
  reads = λ o. ap (λ ks. reading true ks d (sign_part ∷ o)) (x.kinds_so ∙ sym (h b.kinds));
  shorter = omega (arith, x.shorter);
}
sign_read signs.Minus k a b d h x = record {
  spelled_so = x.kinds_so ∙ sym (h b.kinds);
  numbered_so = x.place_so;
  reads = λ o. ap (λ ks. reading true ks d (sign_part ∷ o)) (x.kinds_so ∙ sym (h b.kinds));
  shorter = omega (arith, x.shorter);
}

pub mode_read : (s : Mode) (k : Kind) (a b : At) (d : ℕ) → ((ks : List Kind) → spell_mode (Some s) ks ≡ k ∷ ks) → Passes k a b
    → Reads (spell_mode (Some s)) (number_mode (Some s)) (λ o. mode_part ∷ o) d d a b
mode_read modes.Var k a b d h x = record {
  spelled_so = x.kinds_so ∙ sym (h b.kinds);
  numbered_so = x.place_so;
  reads = λ o. ap (λ ks. reading true ks d (mode_part ∷ o)) (x.kinds_so ∙ sym (h b.kinds));
  shorter = omega (arith, x.shorter);
}
mode_read modes.Mix k a b d h x = record {
  spelled_so = x.kinds_so ∙ sym (h b.kinds);
  numbered_so = x.place_so;
  reads = λ o. ap (λ ks. reading true ks d (mode_part ∷ o)) (x.kinds_so ∙ sym (h b.kinds));
  shorter = omega (arith, x.shorter);
}
