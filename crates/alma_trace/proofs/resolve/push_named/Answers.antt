use Rattle.std.proofs.Common.{◌<◌, ◌≤◌, ◌≡◌, ◌+◌, ◌∙◌, ◌++◌, ℕ, List, length, sym, ap, subst, arith}
use Rattle.std.specs.Prelude.{Option, OnOk, MatchOption}
use Rattle.alma_code.specs.Plain.{kinds_at}
use Rattle.alma_machine.proofs.Counting.{few_kinds}
use Rattle.alma_object.specs.View.{code_of_view}
use Rattle.alma_trace.specs.Places.{main_slots, value_at}
use Rattle.alma_trace.specs.Resolved.{place_of_name}
use Rattle.alma_trace.proofs.Naming.{value_by_name}
use Rattle.alma_trace.proofs.Resolving.{place_within, globals_sound}
use Rattle.alma_trace.proofs.resolve.push_named.Goals as goal

pub push_value-requires-clause-within : goal.push_value-requires-clause-within
push_value-requires-clause-within g c =
    let code = code_of_view c.args.view.now in
    let slots = main_slots (g.M.MachineMemory.picture c.args.memory.now).now in
    subst (λ (at : Option (ℕ × ℕ)). MatchOption at (Unit {0}) (λ place. 0 < place.1 → place.0 + place.1 ≤ slots)) (sym c.place_of.ensures)
    (subst (λ (n : ℕ). MatchOption (place_of_name code.globals c.args.name.now) (Unit {0}) (λ place. 0 < place.1 → place.0 + place.1 ≤ n))
    (sym c.requires.slots)
    (place_within code code.globals c.args.name.now (globals_sound code c.requires.sound)))

pub push_value-requires-clause-few : goal.push_value-requires-clause-few
push_value-requires-clause-few g c =
    let code = code_of_view c.args.view.now in
    let few : length (kinds_at code 0) ≤ 8388608 = few_kinds code c.requires.sound 0 c.requires.sound.table.some in
    omega (arith, few, c.requires.slots)

pub returns : goal.returns
returns g c =
    let code = code_of_view c.args.view.now in
    let frames = (g.M.MachineMemory.picture c.args.memory.now).now in
    subst (λ (bytes : List ℕ). OnOk c.push_value.result (c.push_value.new.line.items ≡ c.args.line.now.items ++ bytes))
    (ap (value_at frames) c.place_of.ensures ∙ value_by_name frames code.globals c.args.name.now) c.push_value.ensures
