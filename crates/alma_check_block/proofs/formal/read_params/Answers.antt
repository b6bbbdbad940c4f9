use Rattle.std.proofs.Common.{ap, sym}
use Rattle.alma_rules.specs.Decls as rules
use Rattle.alma_check_block.specs.Shown.{told_frame}
use Rattle.alma_check_block.proofs.Texts.{ok_eq, params_are}
use Rattle.alma_check_block.proofs.Frames.{formal_step}
use Rattle.alma_check_block.proofs.formal.read_params.Goals as goal

pub returns-in_ok-read_formal-in-Some-formals : goal.returns-in_ok-read_formal-in-Some-formals
returns-in_ok-read_formal-in-Some-formals c f h =
    ok_eq _ _ _ _ (ap (λ xs. told_frame (rules.read_formals f xs))
    (sym (params_are c.args.params.now c.in-Some.params c.in-Some-formals.formals c.in-Some.is c.in-Some-formals.is)))
    (rw c.deref.ensures.value at (c.read_formals.ensures (formal_step f c.in-Some-formals.formals.first)
    (c.in_ok-read_formal-in-Some-formals.ensures f h)))
