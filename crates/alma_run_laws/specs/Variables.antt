-- What a trace or a walk shows of the variables of a source.
use Rattle.std.specs.Prelude.{◌≡◌, ℕ, suc, List, [], ◌∷◌, ◌++◌, map, get_or, Some}
use Rattle.alma_ir.specs.Tree.{Program, Global}
use Rattle.alma_code.specs.Picture.{PlainFrame, no_frame}
use Rattle.alma_code.specs.TraceText.{value_of_name}
use Rattle.alma_lower.specs.Names.{global_named}
use Rattle.alma_lower_implements.specs.Values.{first_store, cell_of_value}
use Rattle.alma_mean.specs.Meaning.{ev_program}
use Rattle.alma_mean.specs.Store.{Store}
use Rattle.alma_mean.specs.Store as store

-- NAME=VALUE, with the value of the first variable with the name: its cells in the frame of the module; - where there is none
abbrev pub variable_word : List PlainFrame → List Global → (name : List ℕ) → List ℕ
variable_word frames globals name = name ++ 61 ∷ value_of_name frames (map global_named globals) name

-- the frame of the module in a store of the meaning, as the machine has it
abbrev pub frames_of_store : Store → List PlainFrame
frames_of_store s = record no_frame { cells = map cell_of_value (get_or s 0 store.no_frame).cells } ∷ []

-- the word is what the variable has in the store of the first alternative of the meaning, which so many steps come to
abbrev pub IsMeantWord : Program → (input : List ℕ) → (steps : ℕ) → (name word : List ℕ) → Type 0
IsMeantWord p input steps name word =
    (s : Store) × (first_store (ev_program (suc steps) p input) ≡ Some s) × (word ≡ variable_word (frames_of_store s) p.globals name)
