-- The phrases of statements that stand one behind another.
use Rattle.std.proofs.Common.{◌≡◌, ◌++◌, refl, ap, sym, ◌∙◌, append_assoc}
use Rattle.alma_ir.specs.Tree.{Stmts, no_stmts, more_stmts}
use Rattle.alma_ir.specs.Phrases.{stmt_phrases, stmts_phrases}
use Rattle.alma_rules.specs.Parts.{append_stmts}

-- the phrases of two lists of statements
pub append_phrases : (x y : Stmts) → stmts_phrases (append_stmts x y) ≡ stmts_phrases x ++ stmts_phrases y
unfolding stmts_phrases
append_phrases no_stmts y = refl
append_phrases (more_stmts line x rest) y =
    ap (λ o. stmt_phrases x ++ o) (append_phrases rest y) ∙ sym (append_assoc (stmt_phrases x) (stmts_phrases rest) (stmts_phrases y))
