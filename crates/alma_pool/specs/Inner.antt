-- Of contracts between the functions of this crate.
use Rattle.std.specs.Prelude.{◌≡◌, ◌⊎◌, ◌+◌, List, ℕ, [], ◌∷◌, ◌++◌, map, codes, Option, None, Some, Err}
use Rattle.std.specs.Global.{Vec}
use Rattle.alma_base.specs.Fault.{run_fault_text}
use Rattle.alma_code.specs.declared.step.End.{End}
use Rattle.alma_code.specs.declared.step.End.TheVariants as ended
use Rattle.alma_code.specs.Plain.{PlainCode}
use Rattle.alma_verify.specs.Verified.{code_of_verified}
use Rattle.alma_verify.specs.declared.verified.Verified.{Verified}
use Rattle.alma_plan.specs.declared.refusal.Refusal.TheVariants.{Stopped}
use Rattle.alma_plan.specs.declared.stop.Stop.TheVariants.{Memory}
use Rattle.alma_pool.specs.Due.{open_objects, program_text}
use Rattle.alma_pool.specs.Ends.{pool_end}
use Rattle.alma_pool.specs.declared.stop.PoolStop.{PoolStop}
use Rattle.alma_pool.specs.declared.stop.PoolStop.TheVariants.{Refused}
use Rattle.alma_pool.specs.Pool.{PlayerState, player_at_start, seen_of}

-- the bytes of files
abbrev pub all_bytes : List (Vec ℕ) → List (List ℕ)
all_bytes files = map (λ file. file.items) files

-- the codes of verified views
abbrev pub codes_of : List Verified → List PlainCode
codes_of verified = map code_of_verified verified

-- memory ran out, or it is the end that these objects bring about
abbrev pub IsRefused : (objects : List (List ℕ)) → PoolStop → Type 0
IsRefused objects stop = (stop ≡ Refused (Stopped Memory)) ⊎ (open_objects [] objects ≡ Err (pool_end stop))

-- codes before their first turn, on one input
abbrev pub players_at_start : List PlainCode → (input : List ℕ) → List PlayerState
players_at_start codes input = map (λ code. player_at_start code input) codes

-- the words for an end, but for the name of a fault
abbrev pub end_word : Option End → List ℕ
end_word None = codes "waiting"
end_word (Some ended.Succeeded) = codes "succeeded"
end_word (Some ended.Failed) = codes "failed"
end_word (Some (ended.Fault fault)) = codes "fault "

-- the name of its fault
abbrev pub fault_word : Option End → List ℕ
fault_word None = []
fault_word (Some ended.Succeeded) = []
fault_word (Some ended.Failed) = []
fault_word (Some (ended.Fault fault)) = run_fault_text fault

-- the lines of programs, which stand behind so many others
abbrev pub shown_text : (before : ℕ) → List PlayerState → List ℕ
shown_text before [] = []
shown_text before (p ∷ more) = program_text (before + 1) (seen_of p) ++ shown_text (before + 1) more
