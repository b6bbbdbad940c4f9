use Rattle.std.proofs.Common.{◌≡◌, ◌+◌, drop}
use Rattle.alma_code.specs.Layout.{kinds_of}
use Rattle.alma_verify.specs.Runs.{Passes, fit_slots}
use Rattle.alma_verify.proofs.arguments.fit_all.Given as goal

abbrev pub invariant-loop-k : goal.invariant-loop-k
invariant-loop-k g l =
    record {
      rest :
          fit_slots l.routine (kinds_of 0 (g.H.Head.head l.caller).runs) (g.K.Head.head l.called).params l.first
          ≡ fit_slots l.routine (kinds_of 0 (g.H.Head.head l.caller).runs) (drop l.k (g.K.Head.head l.called).params) (l.first + l.k);
      passes : Passes (g.H.Head.head l.caller).runs (l.first + l.k) l.passed;
    }
