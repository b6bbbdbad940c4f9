use Rattle.std.proofs.Common.{rules, ◌≡◌, ◌∙◌, ap, ◌∷◌, [], to_z, of_z, w64}
use Rattle.std.proofs.lemmas.Int.{to_z-of_z}
use Rattle.alma_lower_templates.specs.Pieces.{count_from, entry_code}
use Rattle.alma_lower_templates.specs.LineInstr.{own}
use Rattle.alma_lower_work.proofs.Joins.{code_code, codes_as, on_ok_map}
use Rattle.alma_lower_parts.proofs.loops.put_bounds.Goals as goal

pub returns : goal.returns
returns c =
    let bounds = c.args.bounds in
    let same : to_z w64 (of_z w64 c.args.by) ≡ c.args.by = to_z-of_z w64 c.args.by (search rules) in
    on_ok_map c.add-2.result
    (λ h. codes_as _ _ _ _
    (ap (λ i. own c.args.line (i ∷ c.entry_instr.result ∷ [])) c.count_instr.ensures
    ∙ ap (λ i. own c.args.line (count_from bounds.constant bounds.counter bounds.first ∷ i ∷ []))
    (c.entry_instr.ensures ∙ ap (λ b. entry_code b bounds.first bounds.counter bounds.limit) same))
    (code_code _ _ _ _ _ c.in_ok-add.ensures h)) c.add-2.ensures
