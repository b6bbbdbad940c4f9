use Rattle.std.proofs.Common.{◌+◌, ◌-◌, ◌++◌, ◌∙◌, ap, sym, map}
use Rattle.alma_copy.specs.Moved.{moved_stmts, moved_global}
use Rattle.alma_ir.specs.View.{global_of, routine_of, stmts_list}
use Rattle.alma_join.specs.Parts.{body_numbers}
use Rattle.alma_join.proofs.Marks.{routine_there}
use Rattle.alma_join.proofs.part.add_unit.Goals as goal
use Rattle.alma_rules.specs.Parts.{append_stmts}

pub returns : goal.returns
returns c =
    let parts = c.args.parts.now in
    let m = body_numbers c.args.numbers.now c.args.parts.now.slots in
    let adds = c.in_ok-add_body.ensures in
    let head = sym (routine_there c.args.program.now 0 c.index.result.now c.requires.body c.index.ensures) in
    record {
      globals = ap (λ v. map global_of v.items) adds.globals ∙ c.in_ok-add_globals.ensures
          ∙ ap (λ gs. map global_of parts.globals.items ++ map (moved_global m) (map global_of gs)) c.deref.ensures.value;
      body = adds.body ∙ ap (λ r. append_stmts (stmts_list parts.body.items) (moved_stmts m r.body)) head;
      lines = adds.lines ∙ ap (λ r. parts.lines.items ++ r.lines) head;
      procedures = λ unit. ap (λ v. map routine_of v.items) adds.procedures ∙ c.in_ok-add_procedures.ensures unit;
      declared = adds.declared ∙ ap (λ r. parts.declared + r.declared) head;
      slots = adds.slots ∙ ap (λ r. parts.slots + (r.slots - 1)) head;
    }
