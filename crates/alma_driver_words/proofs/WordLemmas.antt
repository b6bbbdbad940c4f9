-- Which word is the first that cannot stand.
use Rattle.std.proofs.Common.{◌≡◌, ◌≢◌, ◌<◌, ◌≤◌, ◌+◌, ◌∙◌, ℕ, suc, List, [], ◌∷◌, ◌++◌, length, take, drop, get_or, refl, sym, ap, subst}
use Rattle.std.proofs.Common.{append-nil, arith, add-one, take-take, nat_eq, if◌then◌else◌}
use Rattle.std.proofs.lemmas.List.{take-append-drop}
use Rattle.std.specs.Prelude.{codes, Bool, true, false, Err}
use Rattle.alma_scan.specs.Bytes.{value_of}
use Rattle.alma_driver_words.specs.declared.command.Command as command
use Rattle.alma_driver_words.specs.declared.command.Command.TheVariants as commands
use Rattle.alma_driver_words.specs.declared.words.WordsError.{WordsError}
use Rattle.alma_driver_words.specs.declared.words.WordsError.TheVariants.{Bad, Memory}
use Rattle.alma_driver_words.specs.BadWords as form
use Rattle.alma_driver_words.specs.Words.{Request, Check, Compile, Listing, Run, Exec, Trace, Sample, Asks, IsRequest, IsBadWord, Reads}
use Rattle.alma_driver_words.specs.Words.{IsFileName, NamesLines, Options, default_steps, greatest_watches}
use Rattle.alma_driver_words.specs.Limits.{IsWithinLimits}
use Rattle.alma_driver_words.specs.Inner.Commands.{word_of}
use Rattle.alma_driver_words.specs.Inner.Settings.{AreOptions, IsBadOption, ReadsOptions}
use Rattle.alma_driver_words.specs.Inner.Names.{LacksName}
use Rattle.alma_driver_words.proofs.BadWords.{take_begins}
use Rattle.alma_driver_words.proofs.SettingLemmas.{no_options, options_front, without_names, without_stats, one_meaning, options_within}
use Rattle.alma_driver_words.proofs.SettingLemmas.{names_within}

-- ---- lists of words

first_of : (first second : List ℕ) (words others : List (List ℕ)) → first ∷ words ≡ second ∷ others → first ≡ second
first_of first second words others e = cc e

rest_of : (first second : List ℕ) (words others : List (List ℕ)) → first ∷ words ≡ second ∷ others → words ≡ others
rest_of first second words others e = cc e

-- a request begins with these words
abbrev Begins : List (List ℕ) → Type 0
Begins words = form.Begins IsRequest words

-- what begins a request does so in each front
begins_before : (words : List (List ℕ)) (k : ℕ) → Begins (take k words) → (j : ℕ) → j < k + 1 → Begins (take j words)
begins_before words k b j h =
    let front : take j (take k words) ≡ take j words = take-take j k words (omega arith) in
    subst Begins front (take_begins IsRequest j (take k words) b)

a_name : IsFileName (97 ∷ [])
a_name = refl

-- ---- commands

-- the command whose word has this second letter
by_letter : ℕ → command.Command
by_letter letter =
    if nat_eq letter 104 then commands.Check else if nat_eq letter 111 then commands.Compile else if nat_eq letter 105 then commands.List
    else if nat_eq letter 117 then commands.Run else if nat_eq letter 120 then commands.Exec else if nat_eq letter 114 then commands.Trace
    else commands.Sample

by_letter_is : (c : command.Command) → by_letter (get_or (word_of c) 1 0) ≡ c
unfolding by_letter
by_letter_is commands.Check = refl
by_letter_is commands.Compile = refl
by_letter_is commands.List = refl
by_letter_is commands.Run = refl
by_letter_is commands.Exec = refl
by_letter_is commands.Trace = refl
by_letter_is commands.Sample = refl

-- no word is two commands
one_command : (c d : command.Command) → word_of c ≡ word_of d → c ≡ d
one_command c d e = sym (by_letter_is c) ∙ ap (λ (w : List ℕ). by_letter (get_or w 1 0)) e ∙ by_letter_is d

-- the words behind a command, of this request
abbrev pub Behind : command.Command → List (List ℕ) → Request → Type 0
Behind commands.Check words request = (name : List ℕ) × (words ≡ name ∷ []) × IsFileName name × (request ≡ Check name)
Behind commands.Compile words request =
    (name : List ℕ) × (object : List ℕ) × (words ≡ name ∷ object ∷ []) × IsFileName name × IsFileName object
    × (request ≡ Compile name object)
Behind commands.List words request = (object : List ℕ) × (words ≡ object ∷ []) × IsFileName object × (request ≡ Listing object)
Behind commands.Run words request =
    (name : List ℕ) × (options : List (List ℕ)) × (steps : ℕ) × (stats : Bool) × (words ≡ name ∷ options) × IsFileName name
    × Options 1 0 options steps stats [] × (request ≡ Run name steps stats)
Behind commands.Exec words request =
    (object : List ℕ) × (options : List (List ℕ)) × (steps : ℕ) × (stats : Bool) × (words ≡ object ∷ options) × IsFileName object
    × Options 1 0 options steps stats [] × (request ≡ Exec object steps stats)
Behind commands.Trace words request =
    (name : List ℕ) × (options : List (List ℕ)) × (steps : ℕ) × (watch : List (List ℕ)) × (words ≡ name ∷ options) × IsFileName name
    × Options 0 greatest_watches options steps false watch × (request ≡ Trace name steps watch)
Behind commands.Sample words request =
    (digits : List ℕ) × (lines : ℕ) × (words ≡ digits ∷ []) × NamesLines digits lines × (request ≡ Sample lines)

-- a request begins with its command
asks_own : (words : List (List ℕ)) (request : Request) → Asks words request
    → (c : command.Command) × (rest : List (List ℕ)) × (words ≡ word_of c ∷ rest) × Behind c rest request
asks_own words (Check name) a = (commands.Check, name ∷ [], a.0, (name, refl, a.1, refl))
asks_own words (Compile name object) a = (commands.Compile, name ∷ object ∷ [], a.0, (name, object, refl, a.1, a.2, refl))
asks_own words (Listing object) a = (commands.List, object ∷ [], a.0, (object, refl, a.1, refl))
asks_own words (Run name steps stats) a = (commands.Run, name ∷ a.0, a.1, (name, a.0, steps, stats, refl, a.2, a.3, refl))
asks_own words (Exec object steps stats) a = (commands.Exec, object ∷ a.0, a.1, (object, a.0, steps, stats, refl, a.2, a.3, refl))
asks_own words (Trace name steps watch) a = (commands.Trace, name ∷ a.0, a.1, (name, a.0, steps, watch, refl, a.2, a.3, refl))
asks_own words (Sample lines) a = (commands.Sample, a.0 ∷ [], a.1, (a.0, lines, refl, a.2, refl))

-- what words behind a command ask for
asks_behind : (c : command.Command) (rest : List (List ℕ)) (request : Request) → Asks (word_of c ∷ rest) request → Behind c rest request
asks_behind c rest request a =
    let own = asks_own (word_of c ∷ rest) request a in
    let same : own.0 ≡ c = one_command own.0 c (sym (first_of (word_of c) (word_of own.0) rest own.1 own.2)) in
    let behind : own.1 ≡ rest = sym (rest_of (word_of c) (word_of own.0) rest own.1 own.2) in
    subst (λ (d : command.Command). Behind d rest request) same (subst (λ (w : List (List ℕ)). Behind own.0 w request) behind own.3)

behind_asks : (c : command.Command) (rest : List (List ℕ)) (request : Request) → Behind c rest request → Asks (word_of c ∷ rest) request
behind_asks commands.Check rest request b = rw (b.3, b.1) (refl, b.2)
behind_asks commands.Compile rest request b = rw (b.5, b.2) (refl, b.3, b.4)
behind_asks commands.List rest request b = rw (b.3, b.1) (refl, b.2)
behind_asks commands.Run rest request b = rw (b.7, b.4) (b.1, refl, b.5, b.6)
behind_asks commands.Exec rest request b = rw (b.7, b.4) (b.1, refl, b.5, b.6)
behind_asks commands.Trace rest request b = rw (b.7, b.4) (b.1, refl, b.5, b.6)
behind_asks commands.Sample rest request b = rw (b.4, b.2) (b.0, refl, b.3)

-- ---- the first bad word

-- a request goes on so behind a command
abbrev BeginsBehind : command.Command → List (List ℕ) → Type 0
BeginsBehind c words = (more : List (List ℕ)) × (request : Request) × Behind c (words ++ more) request

-- words behind a command up to the first that cannot stand
bad_behind : (c : command.Command) (rest : List (List ℕ)) (k : ℕ) → BeginsBehind c (take k rest)
    → (k < length rest → (more : List (List ℕ)) (request : Request) → Behind c (take (suc k) rest ++ more) request → ⊥)
    → k ≤ length rest → ((request : Request) → Behind c rest request → ⊥) → IsBadWord (word_of c ∷ rest) (k + 2)
bad_behind c rest k front here end none = record {
  before = λ j h. begins_before (word_of c ∷ rest) (suc k) (front.0, (front.1, behind_asks c (take k rest ++ front.0) front.1 front.2)) j
      (omega (arith, h));
  here = λ l b.
      let at : k + 2 ≡ suc (suc k) = omega arith in
      let moved : Begins (word_of c ∷ take (suc k) rest) = subst (λ (n : ℕ). Begins (take n (word_of c ∷ rest))) at b in
      here (omega (arith, l)) moved.0 moved.1.0 (asks_behind c (take (suc k) rest ++ moved.0) moved.1.0 moved.1.1);
  end = omega (arith, end);
  none = λ asks. none asks.0 (asks_behind c rest asks.0 asks.1);
}

begins_none : Begins []
begins_none = (word_of commands.Check ∷ (97 ∷ []) ∷ [], (Check (97 ∷ []), (refl, a_name)))

none_asked : (request : Request) → Asks [] request → ⊥
none_asked request a = let own = asks_own [] request a in absurd (omega (arith, ap length own.2))

pub bad_none : IsBadWord [] 1
bad_none = record {
  before = begins_before [] 0 begins_none;
  here = λ h b. absurd (omega arith);
  end = omega arith;
  none = λ asks. none_asked asks.0 asks.1;
}

not_command : (word : List ℕ) (words : List (List ℕ)) → ((c : command.Command) → word ≢ word_of c) → (request : Request)
    → Asks (word ∷ words) request → ⊥
not_command word words h request a = let own = asks_own (word ∷ words) request a in
    h own.0 (first_of word (word_of own.0) words own.1 own.2)

pub bad_command : (word : List ℕ) (words : List (List ℕ)) → ((c : command.Command) → word ≢ word_of c) → IsBadWord (word ∷ words) 1
bad_command word words h = record {
  before = begins_before (word ∷ words) 0 begins_none;
  here = λ _ b. not_command word b.0 h b.1.0 b.1.1;
  end = omega arith;
  none = λ asks. not_command word words h asks.0 asks.1;
}

-- ---- names of files

-- the command takes the name of a file
abbrev pub TakesName : command.Command → Type 0
TakesName commands.Check = Unit {0}
TakesName commands.Compile = Unit {0}
TakesName commands.List = Unit {0}
TakesName commands.Run = Unit {0}
TakesName commands.Exec = Unit {0}
TakesName commands.Trace = Unit {0}
TakesName commands.Sample = ⊥

has_name : (c : command.Command) (rest : List (List ℕ)) (request : Request) → TakesName c → Behind c rest request → LacksName rest → ⊥
has_name commands.Check rest request t b l = subst LacksName b.1 l b.2
has_name commands.Compile rest request t b l = subst LacksName b.2 l b.3
has_name commands.List rest request t b l = subst LacksName b.1 l b.2
has_name commands.Run rest request t b l = subst LacksName b.4 l b.5
has_name commands.Exec rest request t b l = subst LacksName b.4 l b.5
has_name commands.Trace rest request t b l = subst LacksName b.4 l b.5
has_name commands.Sample rest request t b l = absurd t

begins_named : (c : command.Command) → TakesName c → BeginsBehind c []
begins_named commands.Check t = ((97 ∷ []) ∷ [], Check (97 ∷ []), (97 ∷ [], refl, a_name, refl))
begins_named commands.Compile t = ((97 ∷ []) ∷ (97 ∷ []) ∷ [], Compile (97 ∷ []) (97 ∷ []), (97 ∷ [], 97 ∷ [], refl, a_name, a_name, refl))
begins_named commands.List t = ((97 ∷ []) ∷ [], Listing (97 ∷ []), (97 ∷ [], refl, a_name, refl))
begins_named commands.Run t = (
  (97 ∷ []) ∷ [],
  Run (97 ∷ []) default_steps false,
  (97 ∷ [], [], default_steps, false, refl, a_name, no_options 1 0, refl),
)
begins_named commands.Exec t = (
  (97 ∷ []) ∷ [],
  Exec (97 ∷ []) default_steps false,
  (97 ∷ [], [], default_steps, false, refl, a_name, no_options 1 0, refl),
)
begins_named commands.Trace t = (
  (97 ∷ []) ∷ [],
  Trace (97 ∷ []) default_steps [],
  (97 ∷ [], [], default_steps, [], refl, a_name, no_options 0 greatest_watches, refl),
)
begins_named commands.Sample t = absurd t

-- what lacks a name in front does so whatever stands behind the first word
lacks_front : (words more : List (List ℕ)) → 0 < length words → LacksName words → LacksName (take 1 words ++ more)
lacks_front [] more h l = absurd (omega (arith, h))
lacks_front (word ∷ words) more h l = l

pub bad_name : (c : command.Command) (words : List (List ℕ)) → TakesName c → LacksName words → IsBadWord (word_of c ∷ words) 2
bad_name c words t l =
    bad_behind c words 0 (begins_named c t) (λ lt more request b. has_name c (take 1 words ++ more) request t b
    (lacks_front words more lt l)) (omega arith)
    (λ request b. has_name c words request t b l)

pub bad_behind_check : (name word : List ℕ) (words : List (List ℕ)) → IsFileName name → IsBadWord (codes "check" ∷ name ∷ word ∷ words) 3
bad_behind_check name word words h =
    bad_behind commands.Check (name ∷ word ∷ words) 1 ([], Check name, (name, refl, h, refl))
    (λ lt more request b. absurd (omega (arith, ap length b.1)))
    (omega arith) (λ request b. absurd (omega (arith, ap length b.1)))

pub bad_behind_list : (object word : List ℕ) (words : List (List ℕ)) → IsFileName object
    → IsBadWord (codes "list" ∷ object ∷ word ∷ words) 3
bad_behind_list object word words h =
    bad_behind commands.List (object ∷ word ∷ words) 1 ([], Listing object, (object, refl, h, refl))
    (λ lt more request b. absurd (omega (arith, ap length b.1)))
    (omega arith) (λ request b. absurd (omega (arith, ap length b.1)))

has_object : (name : List ℕ) (words : List (List ℕ)) (request : Request) → LacksName words → Behind commands.Compile (name ∷ words) request
    → ⊥
has_object name words request l b = subst LacksName (rest_of name b.0 words (b.1 ∷ []) b.2) l b.4

pub bad_object : (name : List ℕ) (words : List (List ℕ)) → IsFileName name → LacksName words → IsBadWord (codes "compile" ∷ name ∷ words) 3
bad_object name words h l =
    bad_behind commands.Compile (name ∷ words) 1 ((97 ∷ []) ∷ [], Compile name (97 ∷ []), (name, 97 ∷ [], refl, h, a_name, refl))
    (λ lt more request b. has_object name (take 1 words ++ more) request (lacks_front words more (omega (arith, lt)) l) b) (omega arith)
    (λ request b. has_object name words request l b)

pub bad_behind_object : (name object word : List ℕ) (words : List (List ℕ)) → IsFileName name → IsFileName object
    → IsBadWord (codes "compile" ∷ name ∷ object ∷ word ∷ words) 4
bad_behind_object name object word words h k =
    bad_behind commands.Compile (name ∷ object ∷ word ∷ words) 2 ([], Compile name object, (name, object, refl, h, k, refl))
    (λ lt more request b. absurd (omega (arith, ap length b.2))) (omega arith) (λ request b. absurd (omega (arith, ap length b.2)))

-- ---- samples

-- no number of lines stands in front
abbrev pub LacksLines : List (List ℕ) → Type 0
LacksLines [] = Unit {0}
LacksLines (word ∷ words) = (lines : ℕ) → NamesLines word lines → ⊥

has_lines : (words : List (List ℕ)) (request : Request) → LacksLines words → Behind commands.Sample words request → ⊥
has_lines words request l b = subst LacksLines b.2 l b.1 b.3

lines_front : (words more : List (List ℕ)) → 0 < length words → LacksLines words → LacksLines (take 1 words ++ more)
lines_front [] more h l = absurd (omega (arith, h))
lines_front (word ∷ words) more h l = l

no_lines : NamesLines (48 ∷ []) 0
no_lines = record {
  numeral = record { digits = (refl, tt); some = omega arith; short = omega arith; value = refl };
  greatest =
      omega arith;
}

pub bad_lines : (words : List (List ℕ)) → LacksLines words → IsBadWord (codes "sample" ∷ words) 2
bad_lines words l =
    bad_behind commands.Sample words 0 ((48 ∷ []) ∷ [], Sample 0, (48 ∷ [], 0, refl, no_lines, refl))
    (λ lt more request b. has_lines (take 1 words ++ more) request (lines_front words more lt l) b) (omega arith)
    (λ request b. has_lines words request l b)

pub bad_behind_lines : (digits word : List ℕ) (words : List (List ℕ)) (lines : ℕ) → NamesLines digits lines
    → IsBadWord (codes "sample" ∷ digits ∷ word ∷ words) 3
bad_behind_lines digits word words lines h =
    bad_behind commands.Sample (digits ∷ word ∷ words) 1 ([], Sample lines, (digits, lines, refl, h, refl))
    (λ lt more request b. absurd (omega (arith, ap length b.2)))
    (omega arith) (λ request b. absurd (omega (arith, ap length b.2)))

-- ---- options

-- behind a command and a name options stand, for so many statistics and so many names to watch
record TakesOptions (c : command.Command) (stats watches : ℕ) (name : List ℕ) : Type 0 where
  pub begins : (words : List (List ℕ)) → AreOptions stats watches words → (request : Request) × Behind c (name ∷ words) request
  pub are : (words : List (List ℕ)) (request : Request) → Behind c (name ∷ words) request → AreOptions stats watches words

run_takes : (name : List ℕ) → IsFileName name → TakesOptions commands.Run 1 0 name
run_takes name h = record {
  begins = λ words o. (Run name _ _, (name, words, _, _, refl, h, without_names 1 words o, refl));
  are = λ words request b.
      let same : b.1 ≡ words = sym (rest_of name b.0 words b.1 b.4) in
      subst (AreOptions 1 0) same record { settings = b.6.settings; are = b.6.are; allowed = b.6.allowed };
}

exec_takes : (object : List ℕ) → IsFileName object → TakesOptions commands.Exec 1 0 object
exec_takes object h = record {
  begins = λ words o. (Exec object _ _, (object, words, _, _, refl, h, without_names 1 words o, refl));
  are = λ words request b.
      let same : b.1 ≡ words = sym (rest_of object b.0 words b.1 b.4) in
      subst (AreOptions 1 0) same record { settings = b.6.settings; are = b.6.are; allowed = b.6.allowed };
}

trace_takes : (name : List ℕ) → IsFileName name → TakesOptions commands.Trace 0 greatest_watches name
trace_takes name h = record {
  begins = λ words o. (Trace name _ _, (name, words, _, _, refl, h, without_stats greatest_watches words o, refl));
  are = λ words request b.
      let same : b.1 ≡ words = sym (rest_of name b.0 words b.1 b.4) in
      subst (AreOptions 0 greatest_watches) same record { settings = b.6.settings; are = b.6.are; allowed = b.6.allowed };
}

-- no options go on past a bad one
past_bad : (stats watches : ℕ) (words : List (List ℕ)) (index : ℕ) (more : List (List ℕ)) → IsBadOption stats watches words index
    → AreOptions stats watches (take (suc index) words ++ more) → ⊥
past_bad stats watches words index more bad h =
    bad.here (subst (λ (n : ℕ). AreOptions stats watches (take n words)) (sym (add-one index))
    (options_front stats watches (take (suc index) words) more h))

bad_option : (c : command.Command) (stats watches : ℕ) (name : List ℕ) (words : List (List ℕ)) (index : ℕ)
    → TakesOptions c stats watches name
    → IsBadOption stats watches words index → IsBadWord (word_of c ∷ name ∷ words) (index + 3)
bad_option c stats watches name words index takes bad =
    let before = takes.begins (take index words) bad.before in
    let front : BeginsBehind c (name ∷ take index words) =
    ([], before.0, subst (λ (w : List (List ℕ)). Behind c (name ∷ w) before.0) (sym (append-nil (take index words))) before.1) in
    let at : suc index + 2 ≡ index + 3 = omega arith in
    subst (IsBadWord (word_of c ∷ name ∷ words)) at
    (bad_behind c (name ∷ words) (suc index) front
    (λ lt more request b. past_bad stats watches words index more bad (takes.are (take (suc index) words ++ more) request b))
    (omega (arith, bad.within))
    (λ request b. past_bad stats watches words index (drop (suc index) words) bad
    (subst (AreOptions stats watches) (sym (take-append-drop (suc index) words)) (takes.are words request b))))

pub bad_run_option : (name : List ℕ) (words : List (List ℕ)) (index : ℕ) → IsFileName name → IsBadOption 1 0 words index
    → IsBadWord (codes "run" ∷ name ∷ words) (index + 3)
bad_run_option name words index h bad = bad_option commands.Run 1 0 name words index (run_takes name h) bad

pub bad_exec_option : (object : List ℕ) (words : List (List ℕ)) (index : ℕ) → IsFileName object → IsBadOption 1 0 words index
    → IsBadWord (codes "exec" ∷ object ∷ words) (index + 3)
bad_exec_option object words index h bad = bad_option commands.Exec 1 0 object words index (exec_takes object h) bad

pub bad_trace_option : (name : List ℕ) (words : List (List ℕ)) (index : ℕ) → IsFileName name → IsBadOption 0 greatest_watches words index
    → IsBadWord (codes "trace" ∷ name ∷ words) (index + 3)
bad_trace_option name words index h bad = bad_option commands.Trace 0 greatest_watches name words index (trace_takes name h) bad

-- ---- what a `?` hands on

pub run_error : (name : List ℕ) (words : List (List ℕ)) (e : WordsError) → IsFileName name
    → ReadsOptions (record { stats = true; watches = 0 }) words (Err e)
    → Reads (codes "run" ∷ name ∷ words) (Err e)
run_error name words (Bad k) n h = subst (IsBadWord (codes "run" ∷ name ∷ words)) (sym h.1) (bad_run_option name words h.0 n h.2)
run_error name words Memory n h = tt

pub exec_error : (object : List ℕ) (words : List (List ℕ)) (e : WordsError) → IsFileName object
    → ReadsOptions (record { stats = true; watches = 0 }) words (Err e)
    → Reads (codes "exec" ∷ object ∷ words) (Err e)
exec_error object words (Bad k) n h = subst (IsBadWord (codes "exec" ∷ object ∷ words)) (sym h.1) (bad_exec_option object words h.0 n h.2)
exec_error object words Memory n h = tt

pub trace_error : (name : List ℕ) (words : List (List ℕ)) (e : WordsError) → IsFileName name
    → ReadsOptions (record { stats = false; watches = greatest_watches }) words (Err e)
    → Reads (codes "trace" ∷ name ∷ words) (Err e)
trace_error name words (Bad k) n h = subst (IsBadWord (codes "trace" ∷ name ∷ words)) (sym h.1) (bad_trace_option name words h.0 n h.2)
trace_error name words Memory n h = tt

-- ---- limits

-- what words ask for is within the limits
pub within_limits : (words : List (List ℕ)) (request : Request) → Asks words request → IsWithinLimits request
within_limits words (Check name) a = tt
within_limits words (Compile name object) a = tt
within_limits words (Listing object) a = tt
within_limits words (Run name steps stats) a = options_within 1 0 a.0 steps stats [] a.3
within_limits words (Exec object steps stats) a = options_within 1 0 a.0 steps stats [] a.3
within_limits words (Trace name steps watch) a = (
  options_within 0 greatest_watches a.0 steps false watch a.3,
  names_within 0 greatest_watches a.0 steps false watch a.3,
)
within_limits words (Sample lines) a = a.2.greatest

-- ---- one answer

-- words behind a command are one request
one_behind : (c : command.Command) (words : List (List ℕ)) (first second : Request) → Behind c words first → Behind c words second
    → first ≡ second
one_behind commands.Check words first second h k =
    let same : h.0 ≡ k.0 = first_of h.0 k.0 [] [] (sym h.1 ∙ k.1) in h.3 ∙ ap Check same ∙ sym k.3
one_behind commands.Compile words first second h k =
    let same : h.0 ≡ k.0 = first_of h.0 k.0 (h.1 ∷ []) (k.1 ∷ []) (sym h.2 ∙ k.2) in
    let object : h.1 ≡ k.1 = first_of h.1 k.1 [] [] (rest_of h.0 k.0 (h.1 ∷ []) (k.1 ∷ []) (sym h.2 ∙ k.2)) in
    h.5 ∙ ap (λ (n : List ℕ). Compile n h.1) same ∙ ap (Compile k.0) object ∙ sym k.5
one_behind commands.List words first second h k =
    let same : h.0 ≡ k.0 = first_of h.0 k.0 [] [] (sym h.1 ∙ k.1) in h.3 ∙ ap Listing same ∙ sym k.3
one_behind commands.Run words first second h k =
    let whole : h.0 ∷ h.1 ≡ k.0 ∷ k.1 = sym h.4 ∙ k.4 in
    let same : h.0 ≡ k.0 = first_of h.0 k.0 h.1 k.1 whole in
    let options = subst (λ (o : List (List ℕ)). Options 1 0 o h.2 h.3 []) (rest_of h.0 k.0 h.1 k.1 whole) h.6 in
    let one = one_meaning 1 0 k.1 h.2 k.2 h.3 k.3 [] [] options k.6 in
    h.7 ∙ ap (λ (n : List ℕ). Run n h.2 h.3) same ∙ ap (λ (n : ℕ). Run k.0 n h.3) one.0 ∙ ap (Run k.0 k.2) one.1 ∙ sym k.7
one_behind commands.Exec words first second h k =
    let whole : h.0 ∷ h.1 ≡ k.0 ∷ k.1 = sym h.4 ∙ k.4 in
    let same : h.0 ≡ k.0 = first_of h.0 k.0 h.1 k.1 whole in
    let options = subst (λ (o : List (List ℕ)). Options 1 0 o h.2 h.3 []) (rest_of h.0 k.0 h.1 k.1 whole) h.6 in
    let one = one_meaning 1 0 k.1 h.2 k.2 h.3 k.3 [] [] options k.6 in
    h.7 ∙ ap (λ (n : List ℕ). Exec n h.2 h.3) same ∙ ap (λ (n : ℕ). Exec k.0 n h.3) one.0 ∙ ap (Exec k.0 k.2) one.1 ∙ sym k.7
one_behind commands.Trace words first second h k =
    let whole : h.0 ∷ h.1 ≡ k.0 ∷ k.1 = sym h.4 ∙ k.4 in
    let same : h.0 ≡ k.0 = first_of h.0 k.0 h.1 k.1 whole in
    let options = subst (λ (o : List (List ℕ)). Options 0 greatest_watches o h.2 false h.3) (rest_of h.0 k.0 h.1 k.1 whole) h.6 in
    let one = one_meaning 0 greatest_watches k.1 h.2 k.2 false false h.3 k.3 options k.6 in
    h.7 ∙ ap (λ (n : List ℕ). Trace n h.2 h.3) same ∙ ap (λ (n : ℕ). Trace k.0 n h.3) one.0 ∙ ap (Trace k.0 k.2) one.2 ∙ sym k.7
one_behind commands.Sample words first second h k =
    let same : h.0 ≡ k.0 = first_of h.0 k.0 [] [] (sym h.2 ∙ k.2) in
    let lines : h.1 ≡ k.1 = sym h.3.numeral.value ∙ ap value_of same ∙ k.3.numeral.value in
    h.4 ∙ ap Sample lines ∙ sym k.4

-- words are no two requests
pub one_request : (words : List (List ℕ)) (first second : Request) → Asks words first → Asks words second → first ≡ second
one_request words first second h k =
    let own = asks_own words first h in
    one_behind own.0 own.1 first second own.3 (asks_behind own.0 own.1 second (subst (λ (w : List (List ℕ)). Asks w second) own.2 k))
