use Rattle.std.proofs.Common.{rules, ◌∙◌, ap, refl, drop}
use Rattle.alma_ir.proofs.LinesBack.{drop_two}
use Rattle.alma_lower_work.specs.Front.{front}
use Rattle.alma_lower_work.proofs.work.Work.pass.Goals as goal

pub returns : goal.returns
unfolding front
returns c =
    let all = c.args.self.now.lines.items in
    record {
      instrs = refl;
      taken = refl;
      next_slot = refl;
      left = ap (λ n. drop n all) (search rules)
          ∙ drop_two c.args.self.now.handed c.args.count all;
      whole = refl;
    }
