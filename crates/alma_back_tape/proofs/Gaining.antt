-- Lemmas on a body that is kept: the carry below it gains what differs, and the body is dropped.
use Rattle.std.proofs.Common.{◌≡◌, ◌≤◌, ◌<◌, ◌+◌, ◌-◌, ◌++◌, ℕ, suc, zero, List, [], ◌∷◌, length, take, drop, get_or, set, reverse, refl}
use Rattle.std.proofs.Common.{sym, subst, ap, ◌∙◌, arith}
use Rattle.std.proofs.lemmas.List.{take-map, map-set, get_or-map, get_or-set_same, length-map, length-set, length_push, set-set, set-get_or}
use Rattle.std.proofs.lemmas.List.{append-nil}
use Rattle.alma_base.specs.Carry.{Change, Carry, with_changes}
use Rattle.alma_code.specs.declared.cell.Cell.{Cell}
use Rattle.alma_code.specs.Picture.{PlainFrame, PlainEntry, no_entry as no_plain, top_of, entry_at}
use Rattle.alma_code.specs.Carries.{diffs, with_carry, held_after_keep}
use Rattle.alma_memory_store.specs.declared.carry.SlotPlace.{SlotPlace}
use Rattle.alma_memory_store.specs.Carries.{IsRising, all_put_back, carry_of_entries, cells_before_setting}
use Rattle.alma_memory_store.specs.Past.{SameGain}
use Rattle.alma_memory_store.proofs.Rising.{all-back}
use Rattle.alma_back_tape.specs.declared.change.Note.{Note}
use Rattle.alma_back_tape.specs.declared.change.Entry.{Entry}
use Rattle.alma_back_tape.specs.declared.change.Change.{Change as Made}
use Rattle.alma_back_tape.specs.declared.change.Change.TheVariants.{Kept}
use Rattle.alma_back_tape.specs.Inner.PlainGain.{PlainGain}
use Rattle.alma_back_tape.specs.Inner.Keeping.{entry_with_changes, entries_with_changes, gain_of}
use Rattle.alma_back_tape.specs.Inner.Reel.{Reel, entry_of, held_of, unwind, front, last_or, no_entry, no_gain, entries_without}
use Rattle.alma_back_tape.specs.Inner.Reel.{without_gain}
use Rattle.alma_back_tape.specs.Inner.Past.{IsGood, Rises, all_finishes, finishes}
use Rattle.alma_back_tape.proofs.Rooms.{same_reel}
use Rattle.alma_back_tape.proofs.Winding.{Moves, moved, good_wound, front-push, last-push}

-- a mark that stays leaves the marks rising
pub rises_set : (low top : ℕ) (es : List Entry) (i : ℕ) (e d : Entry) → e.mark ≡ (get_or es i d).mark → Rises low es top
    → Rises low (set es i e) top
rises_set low top [] i e d q r = r
rises_set low top (x ∷ es) zero e d q r = (rw q r.0, rw q r.1)
rises_set low top (x ∷ es) (suc i) e d q r = (r.0, rises_set x.mark top es i e d q r.1)

-- a kind that stays can be finished as often
pub finishes_set : (es : List Entry) (i : ℕ) (e d : Entry) → e.kind ≡ (get_or es i d).kind → all_finishes (set es i e) ≡ all_finishes es
finishes_set [] i e d q = refl
finishes_set (x ∷ es) zero e d q = ap (λ k. finishes k + all_finishes es) q
finishes_set (x ∷ es) (suc i) e d q = ap (λ n. finishes x.kind + n) (finishes_set es i e d q)

-- as many cells as places
pub had_length : (xs : List (SlotPlace × Cell)) (cs : Carry Cell) → length (cells_before_setting xs cs) ≡ length xs
had_length [] cs = refl
had_length (x ∷ xs) cs = ap suc (had_length xs _)

-- what a carry gained is taken from it
pub lost : (places : List (SlotPlace × Cell)) (cs : Carry Cell) → IsRising cs →
    all_put_back places (cells_before_setting places cs) (with_changes (carry_of_entries places) cs) ≡ cs
lost places cs rising =
    let whole : places ≡ places ++ [] = rw append-nil refl in
    ap (λ xs. all_put_back xs (cells_before_setting places cs) (with_changes (carry_of_entries places) cs)) whole
    ∙ all-back places [] cs rising

-- the entries before one of them gained
pub entries_lost : (at : ℕ) (places : List (SlotPlace × Cell)) (es : List Entry) → at < length es → IsRising (get_or es at no_entry).carry →
    entries_without (gain_of at places es) (entries_with_changes at (carry_of_entries places) es) ≡ es
entries_lost at places es lt rising =
    let e : Entry = get_or es at no_entry in
    let f : Entry = entry_with_changes e (carry_of_entries places) in
    let same : get_or (set es at f) at no_entry ≡ f = get_or-set_same es at f no_entry lt in
    let back : without_gain (gain_of at places es) f ≡ e = ap (λ cs. record e { carry = cs }) (lost places e.carry rising) in
    set-set es at f (without_gain (gain_of at places es) (get_or (set es at f) at no_entry))
    ∙ (ap (λ x. set es at (without_gain (gain_of at places es) x)) same ∙ (ap (set es at) back ∙ set-get_or es at no_entry))

-- a carry that gains
pub kept_one : (cs cs' : List Made) (r r' : Reel) (at : ℕ) (places : List (SlotPlace × Cell)) → IsGood (reverse cs) r
    → cs' ≡ cs ++ Kept ∷ []
    → at < length r.entries → IsRising (get_or r.entries at no_entry).carry
    → r' ≡ record r {
      entries = entries_with_changes at (carry_of_entries places) r.entries;
      kept = r.kept ++ gain_of at places r.entries ∷ [];
    } → Moves cs cs' r r'
kept_one cs cs' r r' at places good changes lt rising same =
    let old = good_wound (reverse cs) r good in
    let e : Entry = get_or r.entries at no_entry in
    let f : Entry = entry_with_changes e (carry_of_entries places) in
    let g : PlainGain = gain_of at places r.entries in
    let s : Reel = record r { entries = set r.entries at f; kept = r.kept ++ g ∷ [] } in
    let last : last_or s.kept no_gain ≡ g = last-push r.kept g no_gain in
    let wide : length s.entries ≡ length r.entries = length-set r.entries at f in
    let here : g.at < length s.entries = omega (arith, wide, lt) in
    let few : length g.had ≤ length g.places = omega (arith, had_length places e.carry) in
    let moves : Moves cs cs' r s = moved cs cs' r s Kept tt changes
    (record { fits = old.fits; rises = rises_set 0 (length r.trail) r.entries at f no_entry refl old.rises }) (
      omega (arith, length_push r.kept g),
      subst (λ (x : PlainGain). x.at < length s.entries) (sym last) here,
      subst (λ (x : PlainGain). length x.had ≤ length x.places) (sym last) few,
    )
    (same_reel refl refl (ap (λ x. entries_without x s.entries) last ∙ entries_lost at places r.entries lt rising) refl refl
    (front-push r.kept g)) good in
    subst (λ (q : Reel). Moves cs cs' r q) (sym same) moves

-- the entry below gains what differs from the copy of the top one, which is dropped
pub kept_held : (h : ℕ) (trail : List Note) (fs : List PlainFrame) (es es' : List Entry) (found : List (Change Cell)) (top : Entry) →
    es' ≡ front (entries_with_changes (h - 1) found es) →
    IsRising (get_or es (h - 1) no_entry).carry → SameGain found (diffs (unwind (drop top.mark trail) fs) fs) →
    top ≡ get_or es (length es - 1) top → 1 ≤ h → h < length es →
    held_of trail fs es' ≡ held_after_keep (held_of trail fs es) h fs
kept_held h trail fs es es' found top p r g t a b =
    let held : List PlainEntry = held_of trail fs es in
    let base : Entry = get_or es (h - 1) no_entry in
    let gains : Entry = entry_with_changes base found in
    let wide : length held ≡ length es = length-map es (entry_of trail fs) in
    let i : h - 1 < length es = omega arith in
    let j : length es - 1 < length es = omega arith in
    let old : entry_at held h ≡ entry_of trail fs base = get_or-map (entry_of trail fs) es (h - 1) no_entry no_plain i in
    let topmost : top_of held ≡ entry_of trail fs top =
    ap (λ n. get_or held (n - 1) no_plain) wide ∙ (get_or-map (entry_of trail fs) es (length es - 1) top no_plain j
    ∙ ap (entry_of trail fs) (sym t)) in
    let same : with_changes found base.carry ≡ with_changes (diffs (top_of held).frames fs) base.carry =
    g base.carry r ∙ ap (λ (x : PlainEntry). with_changes (diffs x.frames fs) base.carry) (sym topmost) in
    let new : entry_of trail fs gains ≡
    with_carry (entry_at held h) (with_changes (diffs (top_of held).frames fs) (entry_at held h).carry) =
    ap (λ cs. with_carry (entry_of trail fs base) cs) same
    ∙ ap (λ (x : PlainEntry). with_carry x (with_changes (diffs (top_of held).frames fs) x.carry)) (sym old) in
    let put : held_of trail fs (set es (h - 1) gains) ≡ set held (h - 1) (entry_of trail fs gains) =
    map-set (entry_of trail fs) es (h - 1) gains in
    let short : front (set es (h - 1) gains) ≡ take (length es - 1) (set es (h - 1) gains) =
    ap (λ n. take (n - 1) (set es (h - 1) gains)) (length-set es (h - 1) gains) in
    ap (held_of trail fs) (p ∙ short) ∙ (sym (take-map (entry_of trail fs) (length es - 1) (set es (h - 1) gains))
    ∙ (ap (take (length es - 1)) put ∙ (ap (λ x. take (length es - 1) (set held (h - 1) x)) new
    ∙ ap (λ n. take (n - 1) (set held (h - 1)
    (with_carry (entry_at held h) (with_changes (diffs (top_of held).frames fs) (entry_at held h).carry)))) (sym wide))))
