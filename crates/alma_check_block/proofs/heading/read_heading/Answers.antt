use Rattle.std.proofs.Common.{◌≡◌, ap, ◌∙◌}
use Rattle.alma_rules.specs.View as view
use Rattle.alma_rules.specs.Scene.{Scene, nothing}
use Rattle.alma_rules.specs.Decls as rules
use Rattle.alma_check_block.specs.Shown.{told_frame, frame_with_scene}
use Rattle.alma_check_block.proofs.heading.read_heading.Goals as goal

pub returns : goal.returns
returns c =
    let b : Scene = rules.with_block c.args.reader.now c.args.routine nothing
    (rules.formal_names (rules.formals_of (view.params_of c.args.params.now))) (view.view_block c.args.block.now) in
    let r : rules.Frame = rules.read_formals (rules.new_frame b 0) (rules.formals_of (view.params_of c.args.params.now)) in
    let h : rules.FramedHeading = rules.heading_at r (view.result_of c.args.returns.now) in
    let p : frame_with_scene c.read_params.new.reader c.read_params.new.frame ≡ told_frame r =
    c.in_ok-read_params.ensures (rules.new_frame b 0)
    (c.new_frame-frame.ensures c.open_block.new.reader ∙ ap (λ i. told_frame (rules.new_frame i 0)) c.in_ok-around.ensures.opened) in
    record {
      frame = c.at_depth-heading.ensures.frame c.read_result.new.reader h (rules.too_deep c.args.reader.now) c.args.node
          (c.in_ok-read.ensures.frame r p) c.too_deep-deep.ensures;
      heading = c.at_depth-heading.ensures.heading h (rules.too_deep c.args.reader.now) c.args.node (c.in_ok-read.ensures.heading r p)
          c.too_deep-deep.ensures;
      around = c.in_ok-around.ensures.around;
    }
