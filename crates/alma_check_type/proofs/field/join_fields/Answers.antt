use Rattle.std.proofs.Common.{ℕ, ap, sym, subst, ◌≡◌, ◌∙◌}
use Rattle.alma_rules.specs.Scene.{Scene}
use Rattle.alma_rules.specs.View.{view_name, names_of}
use Rattle.alma_check_type.specs.Told.{Told, tells}
use Rattle.alma_check_type.specs.Inner.Fields.{Knows, told_fields, behind}
use Rattle.alma_check_type.proofs.FieldSteps.{opened, fields_by}
use Rattle.alma_check_type.proofs.field.join_fields.Goals as goal

pub returns : goal.returns
returns c before t k h =
    let is : t ≡ tells c.in_ok-shape.shape c.args.reader.now = opened (λ x. t ≡ tells x c.args.reader.now) _ _ c.in_ok-shape.was h in
    let sc : t.scene ≡ c.args.reader.now = ap (λ (u : Told ℕ). u.scene) is in
    let known = subst (λ (i : Scene). Knows i.tokens c.args.fields.names.entries before) sc k in
    let one = c.in_ok-first.ensures before (subst (λ es. Knows c.args.reader.now.tokens es before) (sym c.begin-begun.ensures.names) known)
    in
    let all = c.in_ok-all.ensures _ one.1 in
    fields_by c.args.reader.now before (view_name c.args.names.now.first) (names_of c.args.names.now.more.items) c.in_ok-shape.shape.value
    c.shape_or_zero-number.result (told_fields c.args.fields) (told_fields c.begin-begun.result)
    (told_fields c.in_ok-first.first) (told_fields c.in_ok-all.all) (told_fields c.behind.result) t _ _ sc
    c.shape_or_zero-number.ensures c.begin-begun.ensures.told one.0 (rw c.deref.ensures.value at all.0)
    (c.behind.ensures.told ∙ ap (λ (u : Told ℕ). behind (told_fields c.in_ok-all.all) u.fault) (sym is))
    (ap (λ (u : Told ℕ). u.value) (sym is)) c.behind.ensures.names (rw c.deref.ensures.value at all.1)
