-- Watches by the names of globals.
use Rattle.std.specs.Prelude.{◌≡◌, ℕ, List, [], ◌∷◌, map, Option, Some, None}
use Rattle.std.specs.List.{All}
use Rattle.alma_base.specs.Choice.{if_true}
use Rattle.alma_code.specs.Machine.{start}
use Rattle.alma_code.specs.Plain.{PlainCode, PlainGlobal}
use Rattle.alma_code.specs.Rules.{IsSound}
use Rattle.alma_code.specs.TraceText.{same_name, trace_text}
use Rattle.alma_trace.specs.declared.watch.Watch.{Watch}
use Rattle.alma_trace.specs.Places.{AreOfModule}
use Rattle.alma_trace.specs.Traced.{text_of_run}

-- the place of the first global with a name, where there is one
abbrev pub place_of_name : List PlainGlobal → (name : List ℕ) → Option (ℕ × ℕ)
place_of_name [] name = None
place_of_name (g ∷ rest) name =
    if_true (same_name g.name name) (λ _. Some (g.slot, g.cells)) (λ _. place_of_name rest name)

-- a watch has the place that the globals of the code say of its name
abbrev pub IsResolved : PlainCode → Watch → Type 0
IsResolved code watch = watch.at ≡ place_of_name code.globals watch.name.now

-- with such watches the text of a run from the start is the one that traces the code with their names
abbrev pub TracesAreTheTraceText : PlainCode → (input : List ℕ) → Type 0
TracesAreTheTraceText code input =
    (watches : List Watch) (steps : ℕ) → All (IsResolved code) watches
    → text_of_run code input watches steps (start code) ≡ trace_text code input (map (λ watch. watch.name.now) watches) steps

-- in a sound code such watches are of slots of the frame of the module
abbrev pub ResolvedAreOfModule : PlainCode → Type 0
ResolvedAreOfModule code = (watches : List Watch) → IsSound code → All (IsResolved code) watches → AreOfModule code watches
