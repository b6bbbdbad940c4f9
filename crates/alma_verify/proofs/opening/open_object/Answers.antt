use Rattle.std.proofs.Common.{ap, sym, List, ℕ, ◌∙◌}
use Rattle.alma_object.specs.Header.{header_of}
use Rattle.alma_object.specs.Reading.{code_in}
use Rattle.alma_verify.proofs.opening.open_object.Goals as goal

pub returns-clause-code : goal.returns-clause-code
returns-clause-code c =
    let view = c.in_ok-view.view in
    let same = sym c.keeps_object.ensures.spelled ∙ c.in_ok-view.ensures.object.spelled in
    ap (code_in view.bytes.now) view.read ∙ ap (λ (b : List ℕ). code_in b (header_of b)) same
