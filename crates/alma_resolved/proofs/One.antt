-- Trees that differ in no more than their numbers are one, where both are numbered as the parser numbers them.
use Rattle.std.proofs.Common.{◌≡◌, ℕ, ap, sym, ◌∙◌}
use Rattle.alma_tree.specs.declared.module.Module.{Module}
use Rattle.alma_tree.specs.Numbers.{Cursor, IsNumbered}
use Rattle.alma_tree.specs.Spelling.{spelling}
use Rattle.alma_tree.specs.Tree as tree
use Rattle.alma_tree.specs.View as plain
use Rattle.alma_grammar.proofs.Once.{one_spelling}
use Rattle.alma_rules.specs.View as view
use Rattle.alma_rules.specs.Numbered as numbered
use Rattle.alma_resolved.proofs.Recount.{count_module}
use Rattle.alma_resolved.proofs.Decls.{module_made}

-- the numbered tree of a plain one, counted from the first token and the first node on
abbrev counted : tree.Module → numbered.Module
counted t = (count_module t (record { token = 0; node = 0 })).0

-- a tree that is numbered is its plain tree, counted
numbered_is_counted : (m : Module) (tokens : ℕ) → IsNumbered m tokens → counted (plain.view_module m) ≡ view.view_module m
numbered_is_counted m tokens h =
    ap (λ (p : numbered.Module × Cursor). p.0)
    ((module_made m).so (record { token = 0; node = 0 }) (record { token = tokens; node = h.0 }) h.1)

pub one_numbered_tree : (m n : Module) (tokens : ℕ) → plain.view_module m ≡ plain.view_module n → IsNumbered m tokens → IsNumbered n tokens
    → view.view_module m ≡ view.view_module n
one_numbered_tree m n tokens e h i = sym (numbered_is_counted m tokens h) ∙ ap counted e ∙ numbered_is_counted n tokens i

pub one_tree_of_a_spelling : (m n : Module) (tokens : ℕ) → spelling (plain.view_module m) ≡ spelling (plain.view_module n)
    → IsNumbered m tokens → IsNumbered n tokens → view.view_module m ≡ view.view_module n
one_tree_of_a_spelling m n tokens e = one_numbered_tree m n tokens (one_spelling (plain.view_module m) (plain.view_module n) e)
