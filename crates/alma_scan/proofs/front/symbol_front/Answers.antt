use Rattle.std.proofs.Common.{subst, sym}
use Rattle.std.specs.Prelude.{Result}
use Rattle.alma_base.specs.declared.fault.LexFault.{LexFault}
use Rattle.alma_scan.specs.declared.front.Front.{Front}
use Rattle.alma_scan.specs.Inner.Fronts.{IsFront}
use Rattle.alma_scan.proofs.Standing.{last_symbol}
use Rattle.alma_scan.proofs.front.symbol_front.Goals as goal

pub returns : goal.returns
returns c =
    subst (λ (r : Result Front LexFault). IsFront c.args.bytes.now r) (sym c.ok_or.ensures.value)
    (last_symbol c.args.bytes.now c.symbol_of-2.result c.symbol_of-2.ensures c.requires.other c.requires.gap_end.no_blank
    c.in_default.ensures c.in_default-symbol_of.ensures)
