use Rattle.std.proofs.Common.{rules, pos}
use Rattle.alma_code.specs.declared.instr.Instr.TheVariants as I
use Rattle.alma_code_list.proofs.Texts.{instrs_next}
use Rattle.alma_code_list.proofs.listing.push_instrs.Goals as goal

pub loop-index-preserved : goal.loop-index-preserved
loop-index-preserved c =
    instrs_next _ c.loop-index.text.items c.push_instr.new.text.items c.args.at c.loop-index.index (I.Const 0 (pos 0)) c.args.instrs.now
    c.loop-index-test.true
    c.loop-index.invariant (search rules)
