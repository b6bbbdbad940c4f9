use Rattle.std.proofs.Common.{None, ap, sym, ◌∙◌}
use Rattle.alma_rules.specs.Scene.{Scene}
use Rattle.alma_check_type.specs.Told.{fault_of, a_told, pair_rules, first_rule}
use Rattle.alma_check_type.proofs.SubSteps.{sub_broken}
use Rattle.alma_check_type.proofs.subrange.read_between.Goals as goal

pub returns-in-Some : goal.returns-in-Some
returns-in-Some c =
    sym (ap (λ f. a_told f c.args.reader.now None) c.earlier.ensures
    ∙ sub_broken c.args.node c.args.reader.now (fault_of c.args.fault) (c.args.low, c.args.high) c.in-Some.rule
    (c.in-Some.ensures ∙ ap (λ (s : Scene). first_rule (pair_rules s (c.args.low, c.args.high))) c.env.ensures))
