use Rattle.std.proofs.Common.{arith, ◌≡◌, ◌<◌, ◌≤◌, List, length, sym}
use Rattle.std.specs.Prelude.{Bool, true, false}
use Rattle.alma_code.specs.declared.head.Run.{Run}
use Rattle.alma_code.specs.Plain.{head_at}
use Rattle.alma_code.specs.Rules.{names_routine}
use Rattle.alma_verify.proofs.Starts.{runs_more, runs_fail, runs_all}
use Rattle.alma_verify.proofs.heads.name_routines.Goals as goal

pub returns-then-not-names_routine : goal.returns-then-not-names_routine
returns-then-not-names_routine g c =
    let runs : List Run = (head_at (g.R.CodeReader.code c.args.reader.now) c.args.routine).runs in
    let p : Run → Bool = λ run. names_routine (g.R.CodeReader.code c.args.reader.now) run.kind in
    let lt : c.loop-k.k < length runs = omega arith in
    let here : p c.run-run.result ≡ false = cc in
    sym (runs_fail p runs c.loop-k.k c.run-run.result lt c.run-run.ensures here)

pub loop-k-preserved : goal.loop-k-preserved
loop-k-preserved g c =
    let runs : List Run = (head_at (g.R.CodeReader.code c.args.reader.now) c.args.routine).runs in
    let p : Run → Bool = λ run. names_routine (g.R.CodeReader.code c.args.reader.now) run.kind in
    let lt : c.loop-k.k < length runs = omega arith in
    let here : p c.run-run.result ≡ true = cc in
    runs_more p runs c.loop-k.k c.run-run.result lt c.run-run.ensures c.loop-k.invariant here

pub returns : goal.returns
returns g c =
    let runs : List Run = (head_at (g.R.CodeReader.code c.args.reader.now) c.args.routine).runs in
    let p : Run → Bool = λ run. names_routine (g.R.CodeReader.code c.args.reader.now) run.kind in
    let le : length runs ≤ c.loop-k.k = omega arith in
    sym (runs_all p runs c.loop-k.k le c.loop-k.invariant)
