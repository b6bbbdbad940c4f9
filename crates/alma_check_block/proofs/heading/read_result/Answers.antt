use Rattle.alma_check_block.proofs.Headings.{ok_known, proper_frame}
use Rattle.alma_check_block.proofs.heading.read_result.Goals as goal

pub returns-in-None : goal.returns-in-None
returns-in-None c = rw c.in-None.is (record {
  frame = λ f h. ok_known _ (proper_frame c.args.reader.now c.set_returns.new.self c.args.frame.now f h c.set_returns.ensures);
  heading = λ f h. c.form_heading.ensures c.args.reader.now f h;
})

pub returns-in-Some : goal.returns-in-Some
returns-in-Some c = rw c.in-Some.is (record {
  frame = λ f h. c.read_function.ensures.frame f h;
  heading = λ f h. c.read_function.ensures.heading f h;
})
