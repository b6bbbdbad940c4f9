use Rattle.std.proofs.Common.{◌≤◌, length, ap, ◌∙◌, length-append, arith}
use Rattle.alma_scan.proofs.Gaps.{gap_shorter}
use Rattle.alma_scan.proofs.scanner.Scanner.next.Goals as goal

pub invariant_of-self : goal.invariant_of-self
invariant_of-self c =
    let gap = gap_shorter c.skip_gap-bytes.ensures.gap in
    let whole = ap length c.in-Ok.ensures.whole ∙ length-append c.in-Ok.front.text.now c.in-Ok.front.rest.now in
    let size : length c.self.inside.rest.now ≤ c.self.inside.size = c.self.invariant in
    omega (arith, gap, whole, size)
