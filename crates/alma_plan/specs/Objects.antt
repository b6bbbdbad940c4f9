-- The ends that an object brings about which is refused.
use Rattle.std.specs.Prelude.{List, ℕ, Option, None, Some}
use Rattle.alma_code.specs.Rules.{code_fault}
use Rattle.alma_code.specs.declared.step.VerifyFault.{VerifyFault}
use Rattle.alma_driver_words.specs.Exit as exit
use Rattle.alma_object_format.specs.Walk.{object_fault}
use Rattle.alma_object_format.specs.declared.fault.ObjectFault.{ObjectFault}
use Rattle.alma_verify.specs.Bytes.{object_code}
use Rattle.alma_plan.specs.Plan.{Ending, tells}
use Rattle.alma_plan.specs.Refusals.{object_fault_text, rule_fault_text}

-- of code that is not sound
abbrev pub rule_refusal : (program : List ℕ) → Option VerifyFault → Option Ending
rule_refusal program None = None
rule_refusal program (Some fault) = Some (tells program exit.bad_object (rule_fault_text fault))

-- of bytes that are no object, and else of their code
abbrev pub refusal_by : (program : List ℕ) → Option ObjectFault → Option VerifyFault → Option Ending
refusal_by program None rule = rule_refusal program rule
refusal_by program (Some fault) rule = Some (tells program exit.bad_object (object_fault_text fault))

-- of the bytes of an object, which is refused for the first of both
abbrev pub object_refusal : (program bytes : List ℕ) → Option Ending
object_refusal program bytes = refusal_by program (object_fault bytes) (code_fault (object_code bytes))
