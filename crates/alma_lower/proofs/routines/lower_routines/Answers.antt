use Rattle.std.proofs.Common.{◌≡◌, ◌∙◌, ◌<◌, ap, subst, length, arith}
use Rattle.std.proofs.lemmas.List.{length-map}
use Rattle.std.specs.Prelude.{map}
use Rattle.alma_ir.specs.View.{routine_of, program_of}
use Rattle.alma_code.specs.Plain as code
use Rattle.alma_lower_templates.specs.Compiled.{routines_code}
use Rattle.alma_lower.specs.Routines.{AreHeads}
use Rattle.alma_lower_work.specs.Front.{front}
use Rattle.alma_lower_tables.specs.Numbers.{tables_of}
use Rattle.alma_lower.proofs.Making.{makes_first, routine_made, scene_exists}
use Rattle.alma_lower.proofs.routines.lower_routines.Goals as goal

pub lower_routine-requires : goal.lower_routine-requires
lower_routine-requires c =
    let lt : c.loop-i.i < length (map routine_of c.args.program.now.routines.items) =
    omega (arith, c.loop-i-test.true, length-map c.args.program.now.routines.items routine_of) in
    record { exists = scene_exists _ (program_of c.args.program.now) (tables_of c.args.numbers.now) c.loop-i.i c.in_ok-scene.ensures lt }

pub loop-i-preserved : goal.loop-i-preserved
loop-i-preserved c =
    let one = c.in_ok-lower_routine.ensures in
    routine_made _ (program_of c.args.program.now) (tables_of c.args.numbers.now) c.loop-i.i _ _ _ _ _ c.in_ok-scene.ensures
    c.in_ok-push.ensures.items c.loop-i.invariant one.code one.names one.head

pub loop-i-init : goal.loop-i-init
unfolding front
loop-i-init c = makes_first _ _ _ _ c.new.ensures.code c.new-heads.ensures.items

pub returns-clause-code : goal.returns-clause-code
unfolding front
returns-clause-code c =
    let p = program_of c.args.program.now in
    let items = c.args.program.now.routines.items in
    let whole : c.loop-i.i ≡ length (map routine_of items) =
    omega (
      arith,
      c.loop-i-test.false,
      c.loop-i.auto.i-end,
      c.len-i-end.ensures,
      c.args.program.now.routines.ok.0,
      length-map items routine_of,
    ) in
    c.loop-i.invariant.code_is ∙ ap (λ n. routines_code p (tables_of c.args.numbers.now) 0 n 0) whole

pub returns-clause-heads : goal.returns-clause-heads
returns-clause-heads c =
    let items = c.args.program.now.routines.items in
    let whole : c.loop-i.i ≡ length (map routine_of items) =
    omega (
      arith,
      c.loop-i-test.false,
      c.loop-i.auto.i-end,
      c.len-i-end.ensures,
      c.args.program.now.routines.ok.0,
      length-map items routine_of,
    ) in
    subst (λ n. AreHeads (program_of c.args.program.now) (tables_of c.args.numbers.now) n (map code.routine_of c.loop-i.heads.items)) whole
    c.loop-i.invariant.heads
