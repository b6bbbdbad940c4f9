use Rattle.alma_code_list.proofs.Lines.{line_made}
use Rattle.alma_code_list.proofs.line.push_line_of_words.Goals as goal

pub returns : goal.returns
returns c =
    line_made (λ word. word.now) c.args.text.now.items c.push_word.new.text.items c.push_words.new.text.items c.push.new.self.items
    c.args.first.now
    c.args.words.now c.in_ok-push_word.ensures c.in_ok-push_words.ensures c.in_ok-push.ensures.items
