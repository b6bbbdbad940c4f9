use Rattle.std.proofs.Common.{sym, ◌∙◌, true≢false}
use Rattle.alma_driver_words.proofs.NameLemmas.{name_token, other_token, name_no_end, name_no_fault}
use Rattle.alma_driver_words.proofs.setting.is_name.Goals as goal
use Rattle.alma_driver_words.proofs.setting.is_name.Goals.{in-Name, in_default}

pub returns-then-matches : goal.returns-then-matches
returns-then-matches c =
    let start = c.new-scanner.ensures in
    let token = rw c.in-Ok-Some.field-0-is at c.in-Ok-Some.ensures.token in
    elim c.match-matches.branch [
      | in-Name w ↦ name_token c.args.word.now c.new-scanner.result _ _ start token w.in-Name.is
      | in_default w ↦ absurd (true≢false (sym c.if-matches.true ∙ w.matches-is))
    ]

pub returns-else-matches : goal.returns-else-matches
returns-else-matches c =
    let start = c.new-scanner.ensures in
    let token = rw c.in-Ok-Some.field-0-is at c.in-Ok-Some.ensures.token in (
      λ e. absurd (true≢false (sym e ∙ c.if-matches.false)),
      λ n. elim c.match-matches.branch [
        | in-Name w ↦ w.matches-is
        | in_default w ↦ absurd (other_token c.args.word.now c.new-scanner.result _ _ start token w.in_default.not-Name n)
      ],
    )

pub returns-in-Ok-None : goal.returns-in-Ok-None
returns-in-Ok-None c =
    let start = c.new-scanner.ensures in (
      λ e. absurd (true≢false (sym e)),
      λ n. absurd (name_no_end c.args.word.now c.new-scanner.result start n
          (rw c.in-Ok-None.field-0-is at c.in-Ok-None.ensures.end)),
    )

pub returns-in-Err : goal.returns-in-Err
returns-in-Err c =
    let start = c.new-scanner.ensures in (
      λ e. absurd (true≢false (sym e)),
      λ n. absurd (name_no_fault c.args.word.now c.new-scanner.result c.in-Err.field-0.fault c.in-Err.field-0.at
          start n c.in-Err.ensures.fault),
    )
