use Rattle.std.proofs.Common.{subst, sym, ◌∙◌}
use Rattle.alma_code.specs.Plain.{PlainCode, code_of}
use Rattle.alma_driver_outcome.specs.Parts.{Runs}
use Rattle.alma_driver_outcome.specs.Outcome.{InputOutcome}
use Rattle.alma_driver_outcome.specs.Showing.{shown_of}
use Rattle.alma_driver_outcome.proofs.CourseLemmas.{runs_starved}
use Rattle.alma_driver_serve.proofs.run.run_code.Goals as goal

pub open_encoded-verified-requires-clause-object : goal.open_encoded-verified-requires-clause-object
open_encoded-verified-requires-clause-object g c = record {
  version = c.requires.version;
  counts = c.requires.counts;
  records = c.requires.records;
  table = c.requires.sound.table;
  spelled = sym (c.deref.ensures.value ∙ c.in-Ok.ensures);
}

pub returns-in-Ok : goal.returns-in-Ok
returns-in-Ok g c =
    subst (λ (code : PlainCode). Runs (InputOutcome (g.I.Source.side c.args.input.now).left code c.args.steps (shown_of c.args.showing))
    (g.I.Source.side c.args.input.now)
    (g.I.Source.side c.run_verified.new.input) (g.O.Sink.side c.args.out.now)
    (g.O.Sink.side c.run_verified.new.out) c.run_verified.result) c.open_encoded-verified.ensures c.run_verified.ensures

pub returns-in-Err : goal.returns-in-Err
returns-in-Err g c =
    runs_starved (InputOutcome (g.I.Source.side c.args.input.now).left (code_of c.args.code.now) c.args.steps (shown_of c.args.showing))
    (g.I.Source.side c.args.input.now) (g.O.Sink.side c.args.out.now)
