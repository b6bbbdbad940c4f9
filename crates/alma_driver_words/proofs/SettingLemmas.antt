-- What options come to, and which words are options.
use Rattle.std.proofs.Common.{◌≡◌, ◌<◌, ◌≤◌, ◌+◌, ◌∙◌, ℕ, zero, suc, List, [], ◌∷◌, ◌++◌, length, take, map, get_or, refl, sym, ap, subst}
use Rattle.std.proofs.Common.{arith, append-nil, length-append, Option, Some, None}
use Rattle.std.specs.Str.{bytes_eq}
use Rattle.std.proofs.lemmas.Slice.Eq.{bytes_eq-Decides}
use Rattle.std.proofs.lemmas.List.{length-map, map-append, take_more}
use Rattle.std.specs.Prelude.{Bool, true, false, codes, String}
use Rattle.std.specs.declared.alloc.Global.{Global}
use Rattle.std.specs.String.{string_bytes}
use Rattle.std.specs.Borrow.{Bor}
use Rattle.alma_scan.specs.Bytes.{value_of}
use Rattle.alma_driver_words.specs.declared.options.Allowance.{Allowance}
use Rattle.alma_driver_words.specs.declared.options.Options as read
use Rattle.alma_driver_words.specs.Words.{Setting, Steps, Stats, Watch, IsSetting, AreSettings, Allows, Options, texts, steps_named}
use Rattle.alma_driver_words.specs.Words.{stats_count, names_watched, steps_of, default_steps, greatest_steps, is_positive}
use Rattle.alma_driver_words.specs.Inner.Settings.{list_of, one_if, Gathers, Takes, AreOptions, AreGathered, IsBadOption}

-- ---- one option

-- the byte by which the options differ
tag : Setting → ℕ
tag (Steps steps) = 101
tag Stats = 97
tag (Watch name) = 116

tag_of : (word : List ℕ) (setting : Setting) → IsSetting word setting → get_or word 4 0 ≡ tag setting
unfolding tag
tag_of word (Steps steps) h = ap (λ (w : List ℕ). get_or w 4 0) h.1
tag_of word Stats h = ap (λ (w : List ℕ). get_or w 4 0) h
tag_of word (Watch name) h = ap (λ (w : List ℕ). get_or w 4 0) h.0

one_tag : (word : List ℕ) (first second : Setting) → IsSetting word first → IsSetting word second → tag first ≡ tag second
one_tag word first second h k = sym (tag_of word first h) ∙ tag_of word second k

-- a word is one option
pub one_setting : (word : List ℕ) (first second : Setting) → IsSetting word first → IsSetting word second → first ≡ second
unfolding tag
one_setting word (Steps steps) (Steps others) h k =
    let same : h.0 ≡ k.0 = cc (h.1, k.1) in
    ap Steps (sym h.2.numeral.value ∙ ap value_of same ∙ k.2.numeral.value)
one_setting word (Steps steps) Stats h k = let e : 101 ≡ 97 = one_tag word (Steps steps) Stats h k in absurd (omega (arith, e))
one_setting word (Steps steps) (Watch name) h k = let e : 101 ≡ 116 = one_tag word (Steps steps) (Watch name) h k in
    absurd (omega (arith, e))
one_setting word Stats (Steps steps) h k = let e : 97 ≡ 101 = one_tag word Stats (Steps steps) h k in absurd (omega (arith, e))
one_setting word Stats Stats h k = refl
one_setting word Stats (Watch name) h k = let e : 97 ≡ 116 = one_tag word Stats (Watch name) h k in absurd (omega (arith, e))
one_setting word (Watch name) (Steps steps) h k = let e : 116 ≡ 101 = one_tag word (Watch name) (Steps steps) h k in
    absurd (omega (arith, e))
one_setting word (Watch name) Stats h k = let e : 116 ≡ 97 = one_tag word (Watch name) Stats h k in absurd (omega (arith, e))
one_setting word (Watch name) (Watch other) h k = let same : name ≡ other = cc (h.0, k.0) in ap Watch same

-- what is none of the three is no option
pub no_setting : (word : List ℕ) → ((steps : ℕ) → IsSetting word (Steps steps) → ⊥) → ((name : List ℕ) → IsSetting word (Watch name) → ⊥)
    → (r : Bool)
    → r ≡ bytes_eq word (codes "--stats") → r ≡ false → (setting : Setting) → IsSetting word setting → ⊥
no_setting word h k r e f (Steps steps) s = h steps s
no_setting word h k r e f Stats s = cc ((bytes_eq-Decides word (codes "--stats")).1 s, e, f)
no_setting word h k r e f (Watch name) s = k name s

-- ---- options in order

-- words are options in one way
are_once : (words : List (List ℕ)) (first second : List Setting) → AreSettings words first → AreSettings words second → first ≡ second
are_once [] [] [] h k = refl
are_once [] [] (setting ∷ settings) h k = absurd k
are_once [] (setting ∷ settings) second h k = absurd h
are_once (word ∷ words) [] second h k = absurd h
are_once (word ∷ words) (setting ∷ settings) [] h k = absurd k
are_once (word ∷ words) (setting ∷ settings) (other ∷ others) h k =
    ap (λ (s : Setting). s ∷ settings) (one_setting word setting other h.0 k.0)
    ∙ ap (λ (s : List Setting). other ∷ s) (are_once words settings others h.1 k.1)

-- one word more is one option more
pub are_more : (words : List (List ℕ)) (settings : List Setting) (word : List ℕ) (setting : Setting) → AreSettings words settings
    → IsSetting word setting
    → AreSettings (words ++ word ∷ []) (settings ++ setting ∷ [])
are_more [] [] word setting h k = (k, tt)
are_more [] (first ∷ settings) word setting h k = absurd h
are_more (first ∷ words) [] word setting h k = absurd h
are_more (first ∷ words) (other ∷ settings) word setting h k = (h.0, are_more words settings word setting h.1 k)

-- options in front, and the others
record Split (words more : List (List ℕ)) (settings : List Setting) : Type 0 where
  pub front : List Setting
  pub back : List Setting
  pub whole : settings ≡ front ++ back
  pub before : AreSettings words front
  pub behind : AreSettings more back

are_split : (words more : List (List ℕ)) (settings : List Setting) → AreSettings (words ++ more) settings → Split words more settings
are_split [] more settings h = record { front = []; back = settings; whole = refl; before = tt; behind = h }
are_split (word ∷ words) more [] h = absurd h
are_split (word ∷ words) more (setting ∷ settings) h =
    let s = are_split words more settings h.1 in
    record {
      front = setting ∷ s.front;
      back = s.back;
      whole = ap (λ (z : List Setting). setting ∷ z) s.whole;
      before = (h.0, s.before);
      behind = s.behind;
    }

steps_append : (front back : List Setting) → steps_named (front ++ back) ≡ steps_named front ++ steps_named back
steps_append [] back = refl
steps_append (Steps steps ∷ front) back = ap (λ (z : List ℕ). steps ∷ z) (steps_append front back)
steps_append (Stats ∷ front) back = steps_append front back
steps_append (Watch name ∷ front) back = steps_append front back

stats_append : (front back : List Setting) → stats_count (front ++ back) ≡ stats_count front + stats_count back
stats_append [] back = omega arith
stats_append (Steps steps ∷ front) back = stats_append front back
stats_append (Stats ∷ front) back = let e = stats_append front back in omega (arith, e)
stats_append (Watch name ∷ front) back = stats_append front back

names_append : (front back : List Setting) → names_watched (front ++ back) ≡ names_watched front ++ names_watched back
names_append [] back = refl
names_append (Steps steps ∷ front) back = names_append front back
names_append (Stats ∷ front) back = names_append front back
names_append (Watch name ∷ front) back = ap (λ (z : List (List ℕ)). name ∷ z) (names_append front back)

-- options that are allowed are so in front
allows_front : (stats watches : ℕ) (front back : List Setting) → Allows stats watches (front ++ back) → Allows stats watches front
allows_front stats watches front back h =
    let steps = ap length (steps_append front back) in
    let names = ap length (names_append front back) in
    record {
      few_steps = omega (arith, h.few_steps, steps, length-append (steps_named front) (steps_named back));
      few_stats = omega (arith, h.few_stats, stats_append front back);
      few_watches = omega (arith, h.few_watches, names, length-append (names_watched front) (names_watched back));
    }

-- words in front of options are options
pub options_front : (stats watches : ℕ) (words more : List (List ℕ)) → AreOptions stats watches (words ++ more)
    → AreOptions stats watches words
options_front stats watches words more h =
    let s = are_split words more h.settings h.are in
    record {
      settings = s.front;
      are = s.before;
      allowed = allows_front stats watches s.front s.back (subst (λ (z : List Setting). Allows stats watches z) s.whole h.allowed);
    }

-- ---- one option more

pub steps_more : (old new : read.Options) (steps : ℕ) → old.steps ≡ None → new.steps ≡ Some steps → new.stats ≡ old.stats
    → new.watch.items ≡ old.watch.items
    → (settings : List Setting) → Gathers old settings → Gathers new (settings ++ Steps steps ∷ [])
steps_more old new steps free now stats watch settings g = record {
  steps = steps_append settings (Steps steps ∷ []) ∙ ap (λ (z : List ℕ). z ++ steps ∷ []) (g.steps ∙ ap list_of free)
      ∙ sym (ap list_of now);
  stats = omega (arith, stats_append settings (Steps steps ∷ []), g.stats, ap one_if stats);
  watch = names_append settings (Steps steps ∷ []) ∙ append-nil (names_watched settings) ∙ g.watch
      ∙ sym (ap (map (λ name. name.now)) watch);
}

pub stats_more : (old new : read.Options) → old.stats ≡ false → new.stats ≡ true → new.steps ≡ old.steps → new.watch.items ≡ old.watch.items
    → (settings : List Setting) → Gathers old settings → Gathers new (settings ++ Stats ∷ [])
stats_more old new free now steps watch settings g = record {
  steps = steps_append settings (Stats ∷ []) ∙ append-nil (steps_named settings) ∙ g.steps ∙ sym (ap list_of steps);
  stats = omega (arith, stats_append settings (Stats ∷ []), g.stats, ap one_if free, ap one_if now);
  watch = names_append settings (Stats ∷ []) ∙ append-nil (names_watched settings) ∙ g.watch ∙ sym (ap (map (λ name. name.now)) watch);
}

pub watch_more : (old new : read.Options) (name : Bor (List ℕ)) → new.watch.items ≡ old.watch.items ++ name ∷ [] → new.steps ≡ old.steps
    → new.stats ≡ old.stats
    → (settings : List Setting) → Gathers old settings → Gathers new (settings ++ Watch name.now ∷ [])
watch_more old new name now steps stats settings g = record {
  steps = steps_append settings (Watch name.now ∷ []) ∙ append-nil (steps_named settings) ∙ g.steps ∙ sym (ap list_of steps);
  stats = omega (arith, stats_append settings (Watch name.now ∷ []), g.stats, ap one_if stats);
  watch = names_append settings (Watch name.now ∷ []) ∙ ap (λ (z : List (List ℕ)). z ++ name.now ∷ []) g.watch
      ∙ sym (map-append (λ name. name.now) old.watch.items (name ∷ [])) ∙ sym (ap (map (λ name. name.now)) now);
}

-- where there is room for an option, the command allows it
room_allows : (allowance : Allowance) (options : read.Options) (settings : List Setting) (setting : Setting) → Gathers options settings
    → Allows (one_if allowance.stats) allowance.watches settings → Takes allowance options setting
    → Allows (one_if allowance.stats) allowance.watches (settings ++ setting ∷ [])
room_allows allowance options settings (Steps steps) g a t =
    let named = ap length (steps_append settings (Steps steps ∷ [])) in
    let free = ap length (g.steps ∙ ap list_of t) in
    let names = ap length (names_append settings (Steps steps ∷ []) ∙ append-nil (names_watched settings)) in
    record {
      few_steps = omega (arith, named, free, length-append (steps_named settings) (steps ∷ []));
      few_stats = omega (arith, a.few_stats, stats_append settings (Steps steps ∷ []));
      few_watches = omega (arith, a.few_watches, names);
    }
room_allows allowance options settings Stats g a t =
    let named = ap length (steps_append settings (Stats ∷ []) ∙ append-nil (steps_named settings)) in
    let names = ap length (names_append settings (Stats ∷ []) ∙ append-nil (names_watched settings)) in
    record {
      few_steps = omega (arith, a.few_steps, named);
      few_stats = omega (arith, stats_append settings (Stats ∷ []), g.stats, ap one_if t.0, ap one_if t.1);
      few_watches = omega (arith, a.few_watches, names);
    }
room_allows allowance options settings (Watch name) g a t =
    let named = ap length (steps_append settings (Watch name ∷ []) ∙ append-nil (steps_named settings)) in
    let names = ap length (names_append settings (Watch name ∷ [])) in
    let held = ap length g.watch in
    record {
      few_steps = omega (arith, a.few_steps, named);
      few_stats = omega (arith, a.few_stats, stats_append settings (Watch name ∷ []));
      few_watches = omega (
        arith,
        t,
        names,
        held,
        length-append (names_watched settings) (name ∷ []),
        length-map options.watch.items (λ (n : Bor (List ℕ)). n.now),
      );
    }

list_of_none : (number : Option ℕ) → length (list_of number) ≤ 0 → number ≡ None
list_of_none None h = refl
list_of_none (Some number) h = absurd (omega (arith, h))

count_room : (allowed had : Bool) → one_if had + 1 ≤ one_if allowed → (allowed ≡ true) × (had ≡ false)
count_room true false h = (refl, refl)
count_room true true h = absurd (omega (arith, h))
count_room false false h = absurd (omega (arith, h))
count_room false true h = absurd (omega (arith, h))

-- where the command allows one more, there is room for it
allows_room : (allowance : Allowance) (options : read.Options) (settings : List Setting) (setting : Setting) → Gathers options settings
    → Allows (one_if allowance.stats) allowance.watches (settings ++ setting ∷ []) → Takes allowance options setting
allows_room allowance options settings (Steps steps) g a =
    let named = ap length (steps_append settings (Steps steps ∷ [])) in
    let held = ap length g.steps in
    list_of_none options.steps (omega (arith, a.few_steps, named, held, length-append (steps_named settings) (steps ∷ [])))
allows_room allowance options settings Stats g a =
    count_room allowance.stats options.stats (omega (arith, a.few_stats, stats_append settings (Stats ∷ []), g.stats))
allows_room allowance options settings (Watch name) g a =
    let names = ap length (names_append settings (Watch name ∷ [])) in
    let held = ap length g.watch in
    omega (
      arith,
      a.few_watches,
      names,
      held,
      length-append (names_watched settings) (name ∷ []),
      length-map options.watch.items (λ (n : Bor (List ℕ)). n.now),
    )

-- ---- the loop

-- the options with the next word
pub options_more : (allowance : Allowance) (words : List (List ℕ)) (index : ℕ) (old new : read.Options) (setting : Setting)
    → index < length words
    → AreGathered allowance (take index words) old → IsSetting (get_or words index []) setting → Takes allowance old setting
    → ((settings : List Setting) → Gathers old settings → Gathers new (settings ++ setting ∷ []))
    → AreGathered allowance (take (index + 1) words) new
options_more allowance words index old new setting lt g is room more = record {
  settings = g.settings ++ setting ∷ [];
  are = subst (λ (z : List (List ℕ)). AreSettings z (g.settings ++ setting ∷ [])) (sym (take_more words index [] lt))
      (are_more (take index words) g.settings (get_or words index []) setting g.are is);
  allowed = room_allows allowance old g.settings setting g.gathers g.allowed room;
  gathers = more g.settings g.gathers;
}

-- what the last of so many options is
pub last_setting : (words : List (List ℕ)) (word : List ℕ) (first second : List Setting) → AreSettings words first
    → AreSettings (words ++ word ∷ []) second
    → (setting : Setting) × (second ≡ first ++ setting ∷ []) × IsSetting word setting
last_setting words word first second h k =
    let s = are_split words (word ∷ []) second k in
    let same : s.front ≡ first = are_once words s.front first s.before h in
    let last = only_one s.back s.behind in
    (last.0, s.whole ∙ ap (λ (z : List Setting). z ++ s.back) same ∙ ap (λ (z : List Setting). first ++ z) last.1, last.2) where
      only_one : (back : List Setting) → AreSettings (word ∷ []) back → (setting : Setting) × (back ≡ setting ∷ []) × IsSetting word setting
      only_one [] b = absurd b
      only_one (setting ∷ []) b = (setting, refl, b.0)
      only_one (setting ∷ other ∷ back) b = absurd b.1

-- the bytes of a word
pub text_at : (words : List (String Global)) (index : ℕ) (word : String Global) → index < length words → word ≡ get_or words index word
    → string_bytes word ≡ get_or (texts words) index []
text_at [] index word lt e = absurd (omega (arith, lt))
text_at (first ∷ words) zero word lt e = ap string_bytes e
text_at (first ∷ words) (suc index) word lt e = text_at words index word (omega (arith, lt)) e

-- the next word is the first that is no option here
pub option_is_bad : (allowance : Allowance) (words : List (List ℕ)) (index : ℕ) (options : read.Options) → index < length words
    → AreGathered allowance (take index words) options
    → ((setting : Setting) → IsSetting (get_or words index []) setting → Takes allowance options setting → ⊥)
    → IsBadOption (one_if allowance.stats) allowance.watches words index
option_is_bad allowance words index options lt g bad = record {
  within = lt;
  before = record { settings = g.settings; are = g.are; allowed = g.allowed };
  here = λ more. refuse more;
} where
  refuse : AreOptions (one_if allowance.stats) allowance.watches (take (index + 1) words) → ⊥
  refuse more =
      let are = subst (λ (z : List (List ℕ)). AreSettings z more.settings) (take_more words index [] lt) more.are in
      let last = last_setting (take index words) (get_or words index []) g.settings more.settings g.are are in
      let allowed = subst (λ (z : List Setting). Allows (one_if allowance.stats) allowance.watches z) last.1 more.allowed in
      bad last.0 last.2 (allows_room allowance options g.settings last.0 g.gathers allowed)

-- ---- what options come to

-- there are none
pub no_options : (stats watches : ℕ) → Options stats watches [] default_steps false []
no_options stats watches = record {
  settings = [];
  are = tt;
  allowed = record { few_steps = omega arith; few_stats = omega arith; few_watches = omega arith };
  steps_are = refl;
  stats_are = refl;
  names_are = refl;
}

no_names : (names : List (List ℕ)) → length names ≤ 0 → [] ≡ names
no_names [] h = refl
no_names (name ∷ names) h = absurd (omega (arith, h))

no_stats : (count : ℕ) → count ≤ 0 → false ≡ is_positive count
no_stats zero h = refl
no_stats (suc count) h = absurd (omega (arith, h))

-- options of a command that watches no names
pub without_names : (stats : ℕ) (words : List (List ℕ)) (o : AreOptions stats 0 words)
    → Options stats 0 words (steps_of (steps_named o.settings)) (is_positive (stats_count o.settings)) []
without_names stats words o = record {
  settings = o.settings;
  are = o.are;
  allowed = o.allowed;
  steps_are = refl;
  stats_are = refl;
  names_are = no_names (names_watched o.settings) o.allowed.few_watches;
}

-- options of a command without statistics
pub without_stats : (watches : ℕ) (words : List (List ℕ)) (o : AreOptions 0 watches words)
    → Options 0 watches words (steps_of (steps_named o.settings)) false (names_watched o.settings)
without_stats watches words o = record {
  settings = o.settings;
  are = o.are;
  allowed = o.allowed;
  steps_are = refl;
  stats_are = no_stats (stats_count o.settings) o.allowed.few_stats;
  names_are = refl;
}

steps_within : (settings : List Setting) (words : List (List ℕ)) → AreSettings words settings
    → steps_of (steps_named settings) ≤ greatest_steps
steps_within [] words h = omega arith
steps_within (Steps steps ∷ settings) [] h = absurd h
steps_within (Steps steps ∷ settings) (word ∷ words) h = h.0.2.greatest
steps_within (Stats ∷ settings) [] h = absurd h
steps_within (Stats ∷ settings) (word ∷ words) h = steps_within settings words h.1
steps_within (Watch name ∷ settings) [] h = absurd h
steps_within (Watch name ∷ settings) (word ∷ words) h = steps_within settings words h.1

-- options name no more steps than the greatest number
pub options_within : (stats watches : ℕ) (words : List (List ℕ)) (steps : ℕ) (counted : Bool) (names : List (List ℕ))
    → Options stats watches words steps counted names → steps ≤ greatest_steps
options_within stats watches words steps counted names o =
    subst (λ (n : ℕ). n ≤ greatest_steps) (sym o.steps_are) (steps_within o.settings words o.are)

-- nor more names than the command watches
pub names_within : (stats watches : ℕ) (words : List (List ℕ)) (steps : ℕ) (counted : Bool) (names : List (List ℕ))
    → Options stats watches words steps counted names → length names ≤ watches
names_within stats watches words steps counted names o = let e = ap length o.names_are in omega (arith, e, o.allowed.few_watches)

-- options come to one thing
pub one_meaning : (stats watches : ℕ) (words : List (List ℕ)) (steps others : ℕ) (counted shown : Bool) (names watched : List (List ℕ))
    → Options stats watches words steps counted names → Options stats watches words others shown watched → (steps ≡ others)
    × (counted ≡ shown) × (names ≡ watched)
one_meaning stats watches words steps others counted shown names watched h k =
    let same : h.settings ≡ k.settings = are_once words h.settings k.settings h.are k.are in (
      h.steps_are ∙ ap (λ (s : List Setting). steps_of (steps_named s)) same ∙ sym k.steps_are,
      h.stats_are ∙ ap (λ (s : List Setting). is_positive (stats_count s)) same ∙ sym k.stats_are,
      h.names_are ∙ ap names_watched same ∙ sym k.names_are,
    )
