use Rattle.alma_driver_words.specs.Words.{file_of, texts}
use Rattle.alma_io.specs.Outside.{outside_of}
use Rattle.alma_driver_outcome.specs.Ends.{ending_in}
use Rattle.alma_driver_outcome.specs.Scope.{Answers}
use Rattle.alma_driver_outcome.proofs.CauseLemmas.{causes_of}
use Rattle.alma_driver.proofs.driver.alma.Goals as goal

pub returns-clause-answer : goal.returns-clause-answer
returns-clause-answer g c = record {
  end = ending_in (file_of (texts c.args.words.now)) c.perform-end.result;
  course = c.perform-end.ensures (file_of (texts c.args.words.now));
  reported = rw c.file_word.ensures at c.report.ensures;
}

pub returns-clause-causes : goal.returns-clause-causes
returns-clause-causes g c =
    let words = texts c.args.words.now in
    let before = outside_of (g.F.Files.side c.args.files.now) (g.I.Source.side c.args.input.now) (g.O.Sink.side c.args.out.now)
    (g.E.Sink.side c.args.err.now) in
    let after = outside_of (g.F.Files.side c.perform-end.new.files) (g.I.Source.side c.perform-end.new.input)
    (g.O.Sink.side c.perform-end.new.out) (g.E.Sink.side c.report.new.err) in
    let answers : Answers words before after c.report.result.0 = record {
      end = ending_in (file_of words) c.perform-end.result;
      course = c.perform-end.ensures (file_of words);
      reported = rw c.file_word.ensures at c.report.ensures;
    } in
    causes_of words before after c.report.result.0 answers
