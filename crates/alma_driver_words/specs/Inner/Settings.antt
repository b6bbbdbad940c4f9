-- What options come to, as they are read.
use Rattle.std.specs.Prelude.{◌≡◌, ◌<◌, ◌+◌, Bool, true, false, List, ℕ, zero, suc, [], ◌∷◌, length, take, map, Option, None, Some, Result}
use Rattle.std.specs.Prelude.{Ok, Err}
use Rattle.alma_driver_words.specs.declared.setting.Setting as read
use Rattle.alma_driver_words.specs.declared.setting.Setting.TheVariants as read_setting
use Rattle.alma_driver_words.specs.declared.options.Allowance.{Allowance}
use Rattle.alma_driver_words.specs.declared.options.Options as read_options
use Rattle.alma_driver_words.specs.declared.words.WordsError.{WordsError}
use Rattle.alma_driver_words.specs.declared.words.WordsError.TheVariants.{Bad, Memory}
use Rattle.alma_driver_words.specs.Words.{Setting, Steps, Stats, Watch, AreSettings, Allows, steps_named, stats_count, names_watched}

-- the setting that a read one is
abbrev pub setting_in : read.Setting → Setting
setting_in (read_setting.Steps steps) = Steps steps
setting_in read_setting.Stats = Stats
setting_in (read_setting.Watch name) = Watch name.now

-- the number that there is, or none
abbrev pub list_of : Option ℕ → List ℕ
list_of None = []
list_of (Some number) = number ∷ []

-- 1 where it is so, and else 0
abbrev pub one_if : Bool → ℕ
one_if false = zero
one_if true = suc zero

-- these settings come to these options
pub record Gathers (options : read_options.Options) (settings : List Setting) : Type 0 where
  pub steps : steps_named settings ≡ list_of options.steps
  pub stats : stats_count settings ≡ one_if options.stats
  pub watch : names_watched settings ≡ map (λ name. name.now) options.watch.items

-- there is none of this sort yet, of which there is one at most
abbrev pub IsFree : read_options.Options → Setting → Type 0
IsFree options (Steps steps) = options.steps ≡ None
IsFree options Stats = options.stats ≡ false
IsFree options (Watch name) = Unit {0}

-- a command with this allowance takes an option more
abbrev pub Takes : Allowance → read_options.Options → Setting → Type 0
Takes allowance options (Steps steps) = options.steps ≡ None
Takes allowance options Stats = (allowance.stats ≡ true) × (options.stats ≡ false)
Takes allowance options (Watch name) = length options.watch.items < allowance.watches

-- the words are options of a command that takes so many for statistics and so many names to watch
pub record AreOptions (stats watches : ℕ) (words : List (List ℕ)) : Type 0 where
  pub settings : List Setting
  pub are : AreSettings words settings
  pub allowed : Allows stats watches settings

-- the words are options of a command with this allowance, which come to these
pub record AreGathered (allowance : Allowance) (words : List (List ℕ)) (options : read_options.Options) : Type 0 where
  pub settings : List Setting
  pub are : AreSettings words settings
  pub allowed : Allows (one_if allowance.stats) allowance.watches settings
  pub gathers : Gathers options settings

-- the words before this one, from 0, are options of such a command, and with it they are not
pub record IsBadOption (stats watches : ℕ) (words : List (List ℕ)) (index : ℕ) : Type 0 where
  pub within : index < length words
  pub before : AreOptions stats watches (take index words)
  pub here : AreOptions stats watches (take (index + 1) words) → ⊥

-- What reading options may answer. The first of them is the third word of the call.
abbrev pub ReadsOptions : Allowance → List (List ℕ) → Result read_options.Options WordsError → Type 0
ReadsOptions allowance words (Ok options) = AreGathered allowance words options
ReadsOptions allowance words (Err (Bad k)) = (index : ℕ) × (k ≡ index + 3)
    × IsBadOption (one_if allowance.stats) allowance.watches words index
ReadsOptions allowance words (Err Memory) = Unit {0}
