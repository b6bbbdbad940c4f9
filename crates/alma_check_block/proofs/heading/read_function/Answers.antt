use Rattle.std.proofs.Common.{◌≡◌, ℕ, List, ◌++◌, ap, sym, ◌∙◌}
use Rattle.std.specs.Prelude.{option_and_then, option_map}
use Rattle.alma_rules.specs.View as view
use Rattle.alma_rules.specs.Judgement.{BrokenRule, broken_at}
use Rattle.alma_rules.specs.Scene.{a_value}
use Rattle.alma_rules.specs.Types as types
use Rattle.alma_rules.specs.Decls as rules
use Rattle.alma_check_rules.specs.Views.{scene_of, somewhere, heading_view}
use Rattle.alma_check_type.specs.declared.reading.Reading.{Reading as CodeReading}
use Rattle.alma_check_type.specs.Told.{told, tells}
use Rattle.alma_check_block.specs.Shown.{told_frame, frame_with_scene}
use Rattle.alma_check_block.proofs.Frames.{scene_is, read_in, read_fault, read_value}
use Rattle.alma_check_block.proofs.Headings.{result_at, function_frame, faults_joined, ok_known, ok_to}
use Rattle.alma_check_block.proofs.heading.read_function.Goals as goal

pub returns-in-None-clause-frame : goal.returns-in-None-clause-frame
returns-in-None-clause-frame c f h =
    let v : CodeReading ℕ = c.in_ok-reading.reading in
    let r : types.Reading ℕ = types.read_type_name f.scene (view.view_name c.args.name.now) in
    let k : told r ≡ tells v f.scene =
    read_in (λ i. told (types.read_type_name i (view.view_name c.args.name.now))) v (scene_of c.env.result.now somewhere) f.scene
    (c.env.ensures ∙ scene_is c.args.reader.now c.args.frame.now f h) c.in_ok-reading.ensures in
    let bs : List BrokenRule = broken_at c.args.name.now.node (rules.result_rules f.scene r.value) in
    let g : frame_with_scene c.args.reader.now c.add_fault-2.new.self ≡ told_frame (rules.with_faults (rules.with_faults f r.faults) bs) =
    c.add_fault-2.ensures c.args.reader.now (rules.with_faults f r.faults) bs
    (c.add_fault.ensures c.args.reader.now f r.faults h (read_fault r v f.scene k))
    (result_at c.args.reader.now f.scene c.args.name.now.node v.value r.value _ (scene_is c.args.reader.now c.args.frame.now f h)
    (read_value r v f.scene k) c.structured_result-structured.ensures) in
    function_frame c.args.reader.now c.set_returns.new.self c.add_fault-2.new.self f r.faults bs v.value g c.set_returns.ensures
    ∙ ap (λ o. told_frame (rules.with_returns (rules.with_faults f (r.faults ++ bs)) (a_value o))) (read_value r v f.scene k)

pub returns-in-None-clause-heading : goal.returns-in-None-clause-heading
returns-in-None-clause-heading c f h =
    let v : CodeReading ℕ = c.in_ok-reading.reading in
    let r : types.Reading ℕ = types.read_type_name f.scene (view.view_name c.args.name.now) in
    let k : told r ≡ tells v f.scene =
    read_in (λ i. told (types.read_type_name i (view.view_name c.args.name.now))) v (scene_of c.env.result.now somewhere) f.scene
    (c.env.ensures ∙ scene_is c.args.reader.now c.args.frame.now f h) c.in_ok-reading.ensures in
    let bs : List BrokenRule = broken_at c.args.name.now.node (rules.result_rules f.scene r.value) in
    let g : frame_with_scene c.args.reader.now c.add_fault-2.new.self ≡ told_frame (rules.with_faults (rules.with_faults f r.faults) bs) =
    c.add_fault-2.ensures c.args.reader.now (rules.with_faults f r.faults) bs
    (c.add_fault.ensures c.args.reader.now f r.faults h (read_fault r v f.scene k))
    (result_at c.args.reader.now f.scene c.args.name.now.node v.value r.value _ (scene_is c.args.reader.now c.args.frame.now f h)
    (read_value r v f.scene k) c.structured_result-structured.ensures) in
    ap (λ o. option_and_then (rules.function_heading (rules.with_faults f (r.faults ++ bs))) o)
    (sym c.in-None.is ∙ read_value r v f.scene k)

pub returns-in-Some-clause-frame : goal.returns-in-Some-clause-frame
returns-in-Some-clause-frame c f h =
    let v : CodeReading ℕ = c.in_ok-reading.reading in
    let r : types.Reading ℕ = types.read_type_name f.scene (view.view_name c.args.name.now) in
    let k : told r ≡ tells v f.scene =
    read_in (λ i. told (types.read_type_name i (view.view_name c.args.name.now))) v (scene_of c.env.result.now somewhere) f.scene
    (c.env.ensures ∙ scene_is c.args.reader.now c.args.frame.now f h) c.in_ok-reading.ensures in
    let bs : List BrokenRule = broken_at c.args.name.now.node (rules.result_rules f.scene r.value) in
    let g : frame_with_scene c.args.reader.now c.add_fault-2.new.self ≡ told_frame (rules.with_faults (rules.with_faults f r.faults) bs) =
    c.add_fault-2.ensures c.args.reader.now (rules.with_faults f r.faults) bs
    (c.add_fault.ensures c.args.reader.now f r.faults h (read_fault r v f.scene k))
    (result_at c.args.reader.now f.scene c.args.name.now.node v.value r.value _ (scene_is c.args.reader.now c.args.frame.now f h)
    (read_value r v f.scene k) c.structured_result-structured.ensures) in
    ok_known _ (function_frame c.args.reader.now c.set_returns.new.self c.add_fault-2.new.self f r.faults bs v.value g c.set_returns.ensures
    ∙ ap (λ o. told_frame (rules.with_returns (rules.with_faults f (r.faults ++ bs)) (a_value o))) (read_value r v f.scene k))

pub returns-in-Some-clause-heading : goal.returns-in-Some-clause-heading
returns-in-Some-clause-heading c f h =
    let v : CodeReading ℕ = c.in_ok-reading.reading in
    let r : types.Reading ℕ = types.read_type_name f.scene (view.view_name c.args.name.now) in
    let k : told r ≡ tells v f.scene =
    read_in (λ i. told (types.read_type_name i (view.view_name c.args.name.now))) v (scene_of c.env.result.now somewhere) f.scene
    (c.env.ensures ∙ scene_is c.args.reader.now c.args.frame.now f h) c.in_ok-reading.ensures in
    let bs : List BrokenRule = broken_at c.args.name.now.node (rules.result_rules f.scene r.value) in
    let g : frame_with_scene c.args.reader.now c.add_fault-2.new.self ≡ told_frame (rules.with_faults (rules.with_faults f r.faults) bs) =
    c.add_fault-2.ensures c.args.reader.now (rules.with_faults f r.faults) bs
    (c.add_fault.ensures c.args.reader.now f r.faults h (read_fault r v f.scene k))
    (result_at c.args.reader.now f.scene c.args.name.now.node v.value r.value _ (scene_is c.args.reader.now c.args.frame.now f h)
    (read_value r v f.scene k) c.structured_result-structured.ensures) in
    ok_to _ (λ x. option_map heading_view x) _ _
    (ap (λ o. option_and_then (rules.function_heading (rules.with_faults f (r.faults ++ bs))) o)
    (sym c.in-Some.is ∙ read_value r v f.scene k))
    (c.form_heading.ensures c.args.reader.now (rules.with_faults f (r.faults ++ bs))
    (faults_joined c.args.reader.now c.add_fault-2.new.self f r.faults bs g))
