-- Words are a request, or there is a first that cannot stand: this is decided word by word.
use Rattle.std.proofs.Common.{◌≡◌, ◌≢◌, ◌<◌, ◌≤◌, ◌+◌, ◌∙◌, ◌⊎◌, inl, inr, ℕ, zero, suc, List, [], ◌∷◌, ◌++◌, length, take, get_or, refl}
use Rattle.std.proofs.Common.{sym, ap, subst, arith}
use Rattle.std.proofs.lemmas.List.{take_all, take_more}
use Rattle.std.proofs.Math.Seq.{take-suc}
use Rattle.std.specs.Prelude.{codes}
use Rattle.alma_base.specs.Reading.{is_digit}
use Rattle.alma_scan.specs.Bytes.{AllIn, value_of}
use Rattle.alma_driver_words.specs.declared.command.Command as command
use Rattle.alma_driver_words.specs.declared.command.Command.TheVariants as commands
use Rattle.alma_driver_words.specs.Words.{IsFileName, IsNumeral, NamesSteps, NamesLines, IsName, is_file_name}
use Rattle.alma_driver_words.specs.Words.{greatest_steps, steps_digits, greatest_lines, lines_digits, greatest_watches}
use Rattle.alma_driver_words.specs.Words.{Setting, Steps, Stats, Watch, IsSetting}
use Rattle.alma_driver_words.specs.Words.{AreSettings, Allows, steps_named, stats_count, names_watched}
use Rattle.alma_driver_words.specs.Words.{Request, Check, Compile, Listing, Run, Exec, Trace, Sample, Asks, IsBadWord, steps_of}
use Rattle.alma_driver_words.specs.Words.{is_positive}
use Rattle.alma_driver_words.specs.Inner.Commands.{word_of}
use Rattle.alma_driver_words.specs.Inner.Settings.{AreOptions, IsBadOption}
use Rattle.alma_driver_words.proofs.Decidable.{Decidable, no_more, passed, same_text, all_in, has_front}
use Rattle.alma_driver_words.proofs.NameTests.{is_name}
use Rattle.alma_driver_words.proofs.SettingLemmas.{one_setting, are_more, last_setting, without_names, without_stats}
use Rattle.alma_driver_words.proofs.WordLemmas.{bad_none, bad_command, bad_name, bad_behind_check, bad_behind_list, bad_object}
use Rattle.alma_driver_words.proofs.WordLemmas.{bad_behind_object, bad_lines, bad_behind_lines, bad_run_option, bad_exec_option}
use Rattle.alma_driver_words.proofs.WordLemmas.{bad_trace_option}

-- ---- single words

-- whether a word may name a file
names_file : (word : List ℕ) → Decidable (IsFileName word)
names_file word = passed (is_file_name word)

-- whether a text is a numeral, which has its value
names_number : (most : ℕ) (text : List ℕ) → Decidable (IsNumeral most text (value_of text))
names_number most text = by (all_in is_digit text) (no_more 1 (length text)) (no_more (length text) most)
  where
    by : Decidable (AllIn is_digit text) → Decidable (1 ≤ length text) → Decidable (length text ≤ most)
        → Decidable (IsNumeral most text (value_of text))
    by (inl digits) (inl some) (inl short) = inl (record { digits = digits; some = some; short = short; value = refl })
    by (inl digits) (inl some) (inr never) = inr (λ h. never h.short)
    by (inl digits) (inr never) short = inr (λ h. never h.some)
    by (inr never) some short = inr (λ h. never h.digits)

-- a numeral of a number is one of its value
own_value : (most : ℕ) (text : List ℕ) (number : ℕ) → IsNumeral most text number → IsNumeral most text (value_of text)
own_value most text number h = subst (IsNumeral most text) (sym h.value) h

-- whether a text names a number of steps
names_steps : (text : List ℕ) → Decidable ((steps : ℕ) × NamesSteps text steps)
names_steps text = by (names_number steps_digits text) (no_more 1 (value_of text)) (no_more (value_of text) greatest_steps)
  where
    by : Decidable (IsNumeral steps_digits text (value_of text)) → Decidable (1 ≤ value_of text)
        → Decidable (value_of text ≤ greatest_steps) → Decidable ((steps : ℕ) × NamesSteps text steps)
    by (inl numeral) (inl least) (inl greatest) =
        inl (value_of text, record { numeral = numeral; least = least; greatest = greatest })
    by (inl numeral) (inl least) (inr never) =
        inr (λ h. never (subst (λ (n : ℕ). n ≤ greatest_steps) (sym h.1.numeral.value) h.1.greatest))
    by (inl numeral) (inr never) greatest = inr (λ h. never (subst (λ (n : ℕ). 1 ≤ n) (sym h.1.numeral.value) h.1.least))
    by (inr never) least greatest = inr (λ h. never (own_value steps_digits text h.0 h.1.numeral))

-- whether a text names a number of lines
names_lines : (text : List ℕ) → Decidable ((lines : ℕ) × NamesLines text lines)
names_lines text = by (names_number lines_digits text) (no_more (value_of text) greatest_lines)
  where
    by : Decidable (IsNumeral lines_digits text (value_of text)) → Decidable (value_of text ≤ greatest_lines)
        → Decidable ((lines : ℕ) × NamesLines text lines)
    by (inl numeral) (inl greatest) = inl (value_of text, record { numeral = numeral; greatest = greatest })
    by (inl numeral) (inr never) = inr (λ h. never (subst (λ (n : ℕ). n ≤ greatest_lines) (sym h.1.numeral.value) h.1.greatest))
    by (inr never) greatest = inr (λ h. never (own_value lines_digits text h.0 h.1.numeral))

-- ---- options

-- whether a word is an option for steps
is_steps : (word : List ℕ) → Decidable ((steps : ℕ) × IsSetting word (Steps steps))
is_steps word = by (has_front (codes "--steps=") word)
  where
    with_digits : (digits : List ℕ) → word ≡ codes "--steps=" ++ digits → Decidable ((steps : ℕ) × NamesSteps digits steps)
        → Decidable ((steps : ℕ) × IsSetting word (Steps steps))
    with_digits digits e (inl h) = inl (h.0, (digits, e, h.1))
    with_digits digits e (inr never) = inr (λ h.
        let same : h.1.0 ≡ digits = cc (h.1.1, e) in never (h.0, subst (λ (d : List ℕ). NamesSteps d h.0) same h.1.2))

    by : Decidable ((digits : List ℕ) × (word ≡ codes "--steps=" ++ digits)) → Decidable ((steps : ℕ) × IsSetting word (Steps steps))
    by (inl front) = with_digits front.0 front.1 (names_steps front.0)
    by (inr never) = inr (λ h. never (h.1.0, h.1.1))

-- whether a word is a name to watch
is_watch : (word : List ℕ) → Decidable ((name : List ℕ) × IsSetting word (Watch name))
is_watch word = by (has_front (codes "--watch=") word)
  where
    with_name : (name : List ℕ) → word ≡ codes "--watch=" ++ name → Decidable (IsName name)
        → Decidable ((watched : List ℕ) × IsSetting word (Watch watched))
    with_name name e (inl is) = inl (name, (e, is))
    with_name name e (inr never) = inr (λ h.
        let same : h.0 ≡ name = cc (h.1.0, e) in never (subst IsName same h.1.1))

    by : Decidable ((name : List ℕ) × (word ≡ codes "--watch=" ++ name)) → Decidable ((name : List ℕ) × IsSetting word (Watch name))
    by (inl front) = with_name front.0 front.1 (is_name front.0)
    by (inr never) = inr (λ h. never (h.0, h.1.0))

-- a word that is none of the three is no option
none_of_three : (word : List ℕ) → ((steps : ℕ) × IsSetting word (Steps steps) → ⊥) → (word ≡ codes "--stats" → ⊥)
    → ((name : List ℕ) × IsSetting word (Watch name) → ⊥) → (setting : Setting) → IsSetting word setting → ⊥
none_of_three word no_steps no_stats no_watch (Steps steps) h = no_steps (steps, h)
none_of_three word no_steps no_stats no_watch Stats h = no_stats h
none_of_three word no_steps no_stats no_watch (Watch name) h = no_watch (name, h)

-- whether a word is an option
is_setting : (word : List ℕ) → Decidable ((setting : Setting) × IsSetting word setting)
is_setting word = by (is_steps word) (same_text word (codes "--stats")) (is_watch word)
  where
    by : Decidable ((steps : ℕ) × IsSetting word (Steps steps)) → Decidable (word ≡ codes "--stats")
        → Decidable ((name : List ℕ) × IsSetting word (Watch name)) → Decidable ((setting : Setting) × IsSetting word setting)
    by (inl steps) stats watch = inl (Steps steps.0, steps.1)
    by (inr no_steps) (inl stats) watch = inl (Stats, stats)
    by (inr no_steps) (inr no_stats) (inl watch) = inl (Watch watch.0, watch.1)
    by (inr no_steps) (inr no_stats) (inr no_watch) = inr (λ h. none_of_three word no_steps no_stats no_watch h.0 h.1)

-- whether a command allows options
is_allowed : (stats watches : ℕ) (settings : List Setting) → Decidable (Allows stats watches settings)
is_allowed stats watches settings =
    by (no_more (length (steps_named settings)) 1) (no_more (stats_count settings) stats)
    (no_more (length (names_watched settings)) watches)
  where
    by : Decidable (length (steps_named settings) ≤ 1) → Decidable (stats_count settings ≤ stats)
        → Decidable (length (names_watched settings) ≤ watches) → Decidable (Allows stats watches settings)
    by (inl steps) (inl count) (inl names) = inl (record { few_steps = steps; few_stats = count; few_watches = names })
    by (inl steps) (inl count) (inr never) = inr (λ h. never h.few_watches)
    by (inl steps) (inr never) names = inr (λ h. never h.few_stats)
    by (inr never) count names = inr (λ h. never h.few_steps)

-- words in front are options of a command that takes so many, or a word is the first that is none
abbrev HasOptions : (stats watches : ℕ) (words front : List (List ℕ)) → Type 0
HasOptions stats watches words front = AreOptions stats watches front ⊎ ((index : ℕ) × IsBadOption stats watches words index)

-- with one word behind options
next_option : (stats watches : ℕ) (words : List (List ℕ)) (count : ℕ) → count < length words
    → AreOptions stats watches (take count words) → HasOptions stats watches words (take (suc count) words)
next_option stats watches words count within front = by (is_setting word)
  where
    word : List ℕ
    word = get_or words count []

    last : (more : AreOptions stats watches (take (count + 1) words))
        → (setting : Setting) × (more.settings ≡ front.settings ++ setting ∷ []) × IsSetting word setting
    last more =
        last_setting (take count words) word front.settings more.settings front.are
        (subst (λ (w : List (List ℕ)). AreSettings w more.settings) (take_more words count [] within) more.are)

    refuse : (AreOptions stats watches (take (count + 1) words) → ⊥) → HasOptions stats watches words (take (suc count) words)
    refuse here = inr (count, record { within = within; before = front; here = here })

    room : (setting : Setting) → IsSetting word setting → Decidable (Allows stats watches (front.settings ++ setting ∷ []))
        → HasOptions stats watches words (take (suc count) words)
    room setting is (inl allowed) = inl (record {
      settings = front.settings ++ setting ∷ [];
      are = subst (λ (w : List (List ℕ)). AreSettings w (front.settings ++ setting ∷ [])) (sym (take-suc words count [] within))
          (are_more (take count words) front.settings word setting front.are is);
      allowed = allowed;
    })
    room setting is (inr never) = refuse (λ more.
        let own = last more in
        let same : own.0 ≡ setting = one_setting word own.0 setting own.2 is in
        never (subst (Allows stats watches) (own.1 ∙ ap (λ (s : Setting). front.settings ++ s ∷ []) same) more.allowed))

    by : Decidable ((setting : Setting) × IsSetting word setting) → HasOptions stats watches words (take (suc count) words)
    by (inl found) = room found.0 found.1 (is_allowed stats watches (front.settings ++ found.0 ∷ []))
    by (inr never) = refuse (λ more. let own = last more in never (own.0, own.2))

-- so many words in front
front_options : (stats watches : ℕ) (words : List (List ℕ)) (count : ℕ) → count ≤ length words
    → HasOptions stats watches words (take count words)
front_options stats watches words zero h = inl (record {
  settings = [];
  are = tt;
  allowed = record { few_steps = omega arith; few_stats = omega arith; few_watches = omega arith };
})
front_options stats watches words (suc count) h = by (front_options stats watches words count (omega (arith, h)))
  where
    by : HasOptions stats watches words (take count words) → HasOptions stats watches words (take (suc count) words)
    by (inl front) = next_option stats watches words count (omega (arith, h)) front
    by (inr bad) = inr bad

-- all of them
all_options : (stats watches : ℕ) (words : List (List ℕ)) → HasOptions stats watches words words
all_options stats watches words =
    subst (HasOptions stats watches words) (take_all (length words) words (omega arith))
    (front_options stats watches words (length words) (omega arith))

-- ---- requests

-- words are a request, or one of them is the first that cannot stand
abbrev HasAnswer : List (List ℕ) → Type 0
HasAnswer words = ((request : Request) × Asks words request) ⊎ ((k : ℕ) × IsBadWord words k)

-- words behind `check`
check_words : (words : List (List ℕ)) → HasAnswer (codes "check" ∷ words)
check_words [] = inr (2, bad_name commands.Check [] tt tt)
check_words (name ∷ words) = by (names_file name) words
  where
    by : Decidable (IsFileName name) → (more : List (List ℕ)) → HasAnswer (codes "check" ∷ name ∷ more)
    by (inr never) more = inr (2, bad_name commands.Check (name ∷ more) tt never)
    by (inl is) [] = inl (Check name, (refl, is))
    by (inl is) (word ∷ more) = inr (3, bad_behind_check name word more is)

-- words behind `list`
list_words : (words : List (List ℕ)) → HasAnswer (codes "list" ∷ words)
list_words [] = inr (2, bad_name commands.List [] tt tt)
list_words (object ∷ words) = by (names_file object) words
  where
    by : Decidable (IsFileName object) → (more : List (List ℕ)) → HasAnswer (codes "list" ∷ object ∷ more)
    by (inr never) more = inr (2, bad_name commands.List (object ∷ more) tt never)
    by (inl is) [] = inl (Listing object, (refl, is))
    by (inl is) (word ∷ more) = inr (3, bad_behind_list object word more is)

-- words behind `compile` and a name
object_words : (name : List ℕ) → IsFileName name → (words : List (List ℕ)) → HasAnswer (codes "compile" ∷ name ∷ words)
object_words name named [] = inr (3, bad_object name [] named tt)
object_words name named (object ∷ words) = by (names_file object) words
  where
    by : Decidable (IsFileName object) → (more : List (List ℕ)) → HasAnswer (codes "compile" ∷ name ∷ object ∷ more)
    by (inr never) more = inr (3, bad_object name (object ∷ more) named never)
    by (inl is) [] = inl (Compile name object, (refl, named, is))
    by (inl is) (word ∷ more) = inr (4, bad_behind_object name object word more named is)

-- words behind `compile`
compile_words : (words : List (List ℕ)) → HasAnswer (codes "compile" ∷ words)
compile_words [] = inr (2, bad_name commands.Compile [] tt tt)
compile_words (name ∷ words) = by (names_file name)
  where
    by : Decidable (IsFileName name) → HasAnswer (codes "compile" ∷ name ∷ words)
    by (inr never) = inr (2, bad_name commands.Compile (name ∷ words) tt never)
    by (inl is) = object_words name is words

-- words behind `run`
run_words : (words : List (List ℕ)) → HasAnswer (codes "run" ∷ words)
run_words [] = inr (2, bad_name commands.Run [] tt tt)
run_words (name ∷ words) = by (names_file name) (all_options 1 0 words)
  where
    by : Decidable (IsFileName name) → HasOptions 1 0 words words → HasAnswer (codes "run" ∷ name ∷ words)
    by (inr never) options = inr (2, bad_name commands.Run (name ∷ words) tt never)
    by (inl is) (inl o) =
        inl (
          Run name (steps_of (steps_named o.settings)) (is_positive (stats_count o.settings)),
          (words, refl, is, without_names 1 words o),
        )
    by (inl is) (inr bad) = inr (bad.0 + 3, bad_run_option name words bad.0 is bad.1)

-- words behind `exec`
exec_words : (words : List (List ℕ)) → HasAnswer (codes "exec" ∷ words)
exec_words [] = inr (2, bad_name commands.Exec [] tt tt)
exec_words (object ∷ words) = by (names_file object) (all_options 1 0 words)
  where
    by : Decidable (IsFileName object) → HasOptions 1 0 words words → HasAnswer (codes "exec" ∷ object ∷ words)
    by (inr never) options = inr (2, bad_name commands.Exec (object ∷ words) tt never)
    by (inl is) (inl o) =
        inl (
          Exec object (steps_of (steps_named o.settings)) (is_positive (stats_count o.settings)),
          (words, refl, is, without_names 1 words o),
        )
    by (inl is) (inr bad) = inr (bad.0 + 3, bad_exec_option object words bad.0 is bad.1)

-- words behind `trace`
trace_words : (words : List (List ℕ)) → HasAnswer (codes "trace" ∷ words)
trace_words [] = inr (2, bad_name commands.Trace [] tt tt)
trace_words (name ∷ words) = by (names_file name) (all_options 0 greatest_watches words)
  where
    by : Decidable (IsFileName name) → HasOptions 0 greatest_watches words words → HasAnswer (codes "trace" ∷ name ∷ words)
    by (inr never) options = inr (2, bad_name commands.Trace (name ∷ words) tt never)
    by (inl is) (inl o) =
        inl (
          Trace name (steps_of (steps_named o.settings)) (names_watched o.settings),
          (words, refl, is, without_stats greatest_watches words o),
        )
    by (inl is) (inr bad) = inr (bad.0 + 3, bad_trace_option name words bad.0 is bad.1)

-- words behind `sample`
sample_words : (words : List (List ℕ)) → HasAnswer (codes "sample" ∷ words)
sample_words [] = inr (2, bad_lines [] tt)
sample_words (digits ∷ words) = by (names_lines digits) words
  where
    by : Decidable ((lines : ℕ) × NamesLines digits lines) → (more : List (List ℕ)) → HasAnswer (codes "sample" ∷ digits ∷ more)
    by (inr never) more = inr (2, bad_lines (digits ∷ more) (λ lines h. never (lines, h)))
    by (inl h) [] = inl (Sample h.0, (digits, refl, h.1))
    by (inl h) (word ∷ more) = inr (3, bad_behind_lines digits word more h.0 h.1)

-- words behind a command
behind_command : (c : command.Command) (words : List (List ℕ)) → HasAnswer (word_of c ∷ words)
behind_command commands.Check words = check_words words
behind_command commands.Compile words = compile_words words
behind_command commands.List words = list_words words
behind_command commands.Run words = run_words words
behind_command commands.Exec words = exec_words words
behind_command commands.Trace words = trace_words words
behind_command commands.Sample words = sample_words words

-- a word that is none of the seven is no command
none_of_seven : (word : List ℕ) → (word ≢ codes "check") → (word ≢ codes "compile") → (word ≢ codes "list") → (word ≢ codes "run")
    → (word ≢ codes "exec") → (word ≢ codes "trace") → (word ≢ codes "sample") → (c : command.Command) → word ≢ word_of c
none_of_seven word check compile list run exec trace sample commands.Check = check
none_of_seven word check compile list run exec trace sample commands.Compile = compile
none_of_seven word check compile list run exec trace sample commands.List = list
none_of_seven word check compile list run exec trace sample commands.Run = run
none_of_seven word check compile list run exec trace sample commands.Exec = exec
none_of_seven word check compile list run exec trace sample commands.Trace = trace
none_of_seven word check compile list run exec trace sample commands.Sample = sample

-- whether a word is a command
is_command : (word : List ℕ) → Decidable ((c : command.Command) × (word ≡ word_of c))
is_command word =
    by (same_text word (codes "check")) (same_text word (codes "compile")) (same_text word (codes "list")) (same_text word (codes "run"))
    (same_text word (codes "exec")) (same_text word (codes "trace")) (same_text word (codes "sample"))
  where
    by : Decidable (word ≡ codes "check") → Decidable (word ≡ codes "compile") → Decidable (word ≡ codes "list")
        → Decidable (word ≡ codes "run") → Decidable (word ≡ codes "exec") → Decidable (word ≡ codes "trace")
        → Decidable (word ≡ codes "sample") → Decidable ((c : command.Command) × (word ≡ word_of c))
    by (inl e) _ _ _ _ _ _ = inl (commands.Check, e)
    by (inr check) (inl e) _ _ _ _ _ = inl (commands.Compile, e)
    by (inr check) (inr compile) (inl e) _ _ _ _ = inl (commands.List, e)
    by (inr check) (inr compile) (inr list) (inl e) _ _ _ = inl (commands.Run, e)
    by (inr check) (inr compile) (inr list) (inr run) (inl e) _ _ = inl (commands.Exec, e)
    by (inr check) (inr compile) (inr list) (inr run) (inr exec) (inl e) _ = inl (commands.Trace, e)
    by (inr check) (inr compile) (inr list) (inr run) (inr exec) (inr trace) (inl e) = inl (commands.Sample, e)
    by (inr check) (inr compile) (inr list) (inr run) (inr exec) (inr trace) (inr sample) =
        inr (λ h. none_of_seven word check compile list run exec trace sample h.0 h.1)

-- any words
pub answer : (words : List (List ℕ)) → ((request : Request) × Asks words request) ⊎ ((k : ℕ) × IsBadWord words k)
answer [] = inr (1, bad_none)
answer (word ∷ words) = by (is_command word)
  where
    by : Decidable ((c : command.Command) × (word ≡ word_of c)) → HasAnswer (word ∷ words)
    by (inl h) = subst (λ (w : List ℕ). HasAnswer (w ∷ words)) (sym h.1) (behind_command h.0 words)
    by (inr never) = inr (1, bad_command word words (λ c e. never (c, e)))
