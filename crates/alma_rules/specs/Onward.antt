-- What loops over phrases say.
use Rattle.std.specs.Prelude.{◌≡◌, Option, None, Some, Result, Ok, Err}
use Rattle.alma_rules.specs.declared.error.Stop.{Stop}
use Rattle.alma_rules.specs.Judgement.{Judgement, with}
use Rattle.alma_rules.specs.Answers.{Stops}

-- what is judged is what comes next; or its first broken rule is named
abbrev pub Continues : {A X : Type 0} → Judgement A → (X → Judgement A) → Result X Stop → Type 0
Continues j next (Ok x) = j ≡ next x
Continues j next (Err e) = Stops j.faults e

-- the parts so far in front of those that are still judged; Bad where one of them is
abbrev pub onward : {A B C : Type 0} → (A → B → C) → Option A → Judgement B → Judgement C
onward join None j = record { faults = j.faults; next = j.next; value = None }
onward join (Some x) j = with (join x) j
