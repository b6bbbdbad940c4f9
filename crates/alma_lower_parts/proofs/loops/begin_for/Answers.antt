use Rattle.std.proofs.Common.{rules, ◌≡◌, ap, refl, ◌∷◌, [], to_z, of_z, w64}
use Rattle.std.proofs.lemmas.Int.{to_z-of_z}
use Rattle.alma_code.specs.declared.instr.Instr.TheVariants as I
use Rattle.alma_lower_templates.specs.LineInstr.{own}
use Rattle.alma_lower_templates.specs.Pieces.{count_from, entry_code}
use Rattle.alma_lower_work.proofs.Joins.{code_holes, hole_put, holes_as}
use Rattle.alma_lower_parts.proofs.loops.begin_for.Goals as goal

pub returns-clause-holes : goal.returns-clause-holes
returns-clause-holes c =
    let line = c.args.line in
    let bounds = c.args.bounds in
    let same : to_z w64 (of_z w64 c.args.by) ≡ c.args.by = to_z-of_z w64 c.args.by (search rules) in
    holes_as _ _ _ _ _ _ _ _ _
    (code_holes _ _ _ _ _ _ _ _ c.in_ok-put_bounds.ensures
    (hole_put _ _ line c.in_ok-jump.jump (I.JumpZero bounds.first 0) c.in_ok-jump.ensures.address refl c.in_ok-jump.ensures.codes))
    (λ to. ap (λ b. own line (count_from bounds.constant bounds.counter bounds.first ∷ entry_code b bounds.first bounds.counter bounds.limit
    ∷ I.JumpZero bounds.first to ∷ [])) same) refl refl
