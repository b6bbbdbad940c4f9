use Rattle.std.proofs.Common.{◌≡◌, ℕ, ◌+◌, ap, ◌∙◌}
use Rattle.alma_rules.specs.View as view
use Rattle.alma_rules.specs.Types as types
use Rattle.alma_rules.specs.Decls as rules
use Rattle.alma_check_rules.specs.Views.{scene_of, somewhere}
use Rattle.alma_check_type.specs.Told.{told, tells}
use Rattle.alma_check_block.specs.Shown.{told_frame}
use Rattle.alma_check_block.proofs.Frames.{scene_is, read_in, read_fault, read_value}
use Rattle.alma_check_block.proofs.formal.read_formal.Goals as goal

pub returns : goal.returns
returns c f h =
    let r : types.Reading ℕ = types.read_type_name f.scene (view.view_name c.args.formal.now.type_name) in
    let k : told r ≡ tells c.in_ok-reading.reading f.scene =
    read_in (λ i. told (types.read_type_name i (view.view_name c.args.formal.now.type_name))) c.in_ok-reading.reading
    (scene_of c.env.result.now somewhere) f.scene
    (c.env.ensures ∙ scene_is c.args.reader.now c.args.frame.now f h) c.in_ok-reading.ensures in
    c.add_fault.ensures c.declare_params.new.reader
    (rules.params_in f c.in_ok-from.from c.args.formal.now.mode c.in_ok-reading.reading.value
    (types.all_names (view.view_names c.args.formal.now.names))) r.faults
    (rw c.deref.ensures.value at (c.in_ok-declare_params.ensures
    (rules.param_in f c.in_ok-from.from c.args.formal.now.mode c.in_ok-reading.reading.value
    (view.view_name c.args.formal.now.names.first))
    (c.in_ok-declare_param.ensures f h)))
    (read_fault r c.in_ok-reading.reading f.scene k)
    ∙ ap (λ n. told_frame (rules.with_faults
    (rules.params_in f n c.args.formal.now.mode c.in_ok-reading.reading.value
    (types.all_names (view.view_names c.args.formal.now.names))) r.faults)) c.in_ok-from.ensures
    ∙ ap (λ o. told_frame (rules.with_faults
    (rules.params_in f (c.args.formal.now.type_name.token + 1) c.args.formal.now.mode o
    (types.all_names (view.view_names c.args.formal.now.names))) r.faults))
    (read_value r c.in_ok-reading.reading f.scene k)
