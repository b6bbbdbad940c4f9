use Rattle.std.proofs.Common.{◌≡◌, ℕ, ◌+◌, ap, ◌∙◌}
use Rattle.alma_rules.specs.View as view
use Rattle.alma_rules.specs.Types as types
use Rattle.alma_rules.specs.Places.{width, mark_type}
use Rattle.alma_rules.specs.Decls as rules
use Rattle.alma_check_type.specs.Told.{told, tells}
use Rattle.alma_check_block.specs.Shown.{told_frame}
use Rattle.alma_check_block.proofs.Frames.{scene_is, scene_in, read_moves, read_fault, read_value}
use Rattle.alma_check_block.proofs.variable.read_var.Goals as goal

pub returns : goal.returns
returns c f h =
    let r : types.Reading ℕ = types.read_type f.scene (view.view_type_node c.args.entry.now.type_node) in
    let k : told r ≡ tells c.in_ok-reading.reading c.read_type.new.reader =
    scene_in (λ i. told (types.read_type i (view.view_type_node c.args.entry.now.type_node))) c.args.reader.now f.scene
    (tells c.in_ok-reading.reading c.read_type.new.reader)
    (scene_is c.args.reader.now c.args.frame.now f h) c.in_ok-reading.ensures in
    let g : rules.Frame = rules.with_scene f r.scene in
    c.add_fault.ensures c.declare_variables.new.reader
    (rules.variables_in g c.in_ok-from.from c.in_ok-reading.reading.value (types.all_names (view.view_names c.args.entry.now.names)))
    r.faults
    (rw c.deref.ensures.value at (c.in_ok-declare_variables.ensures
    (rules.variable_in g c.in_ok-from.from c.in_ok-reading.reading.value (view.view_name c.args.entry.now.names.first))
    (c.in_ok-declare_variable.ensures g (read_moves c.args.reader.now c.read_type.new.reader c.args.frame.now f r c.in_ok-reading.reading h
    k))))
    (read_fault r c.in_ok-reading.reading c.read_type.new.reader k)
    ∙ ap (λ n. told_frame (rules.with_faults
    (rules.variables_in g n c.in_ok-reading.reading.value (types.all_names (view.view_names c.args.entry.now.names))) r.faults))
    (rw c.last_token-last.ensures at c.in_ok-from.ensures)
    ∙ ap (λ o. told_frame (rules.with_faults (rules.variables_in g
    (types.last_token (view.view_name c.args.entry.now.names.first) (view.names_of c.args.entry.now.names.more.items) + 3
    + width (mark_type (view.view_type_node c.args.entry.now.type_node))) o
    (types.all_names (view.view_names c.args.entry.now.names))) r.faults)) (read_value r c.in_ok-reading.reading c.read_type.new.reader k)
