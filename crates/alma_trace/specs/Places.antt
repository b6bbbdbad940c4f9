-- Watched places and what is shown of them.
use Rattle.std.specs.Prelude.{ℕ, zero, suc, ◌+◌, ◌<◌, ◌≤◌, List, [], ◌∷◌, ◌++◌, map, length, get_or, codes, Option, Some, None, MatchOption}
use Rattle.std.specs.List.{All}
use Rattle.alma_code.specs.Picture.{PlainFrame, no_frame}
use Rattle.alma_code.specs.Plain.{PlainCode, kinds_at}
use Rattle.alma_code.specs.TraceText.{cells_text}
use Rattle.alma_trace.specs.declared.watch.Watch.{Watch}

-- the cells of a place of frame 0, and - where there is none
abbrev pub value_at : List PlainFrame → Option (ℕ × ℕ) → List ℕ
value_at frames None = codes "-"
value_at frames (Some place) = cells_text frames place.0 place.1

-- a watched name, an equals sign (61) and its value
abbrev pub watch_word : List PlainFrame → Watch → List ℕ
watch_word frames watch = watch.name.now ++ 61 ∷ value_at frames watch.at

-- each watched name with its value
abbrev pub watch_words : List PlainFrame → List Watch → List (List ℕ)
watch_words frames watches = map (watch_word frames) watches

-- a watched place is of so many slots; one of no cells may stand anywhere
abbrev pub IsWithin : (slots : ℕ) → Watch → Type 0
IsWithin slots watch = MatchOption watch.at (Unit {0}) (λ place. 0 < place.1 → place.0 + place.1 ≤ slots)

-- each watched place is of slots of the frame of the module
abbrev pub AreOfModule : PlainCode → List Watch → Type 0
AreOfModule code watches = All (IsWithin (length (kinds_at code 0))) watches

-- how many slots frame 0 has
abbrev pub main_slots : List PlainFrame → ℕ
main_slots frames = length (get_or frames 0 no_frame).cells

-- the comma (44) before a cell that is not the first
abbrev pub comma : (index : ℕ) → List ℕ
comma zero = []
comma (suc before) = 44 ∷ []
