-- What the loops over the notes and over the entries keep.
use Rattle.std.proofs.Common.{◌≡◌, ◌≤◌, ◌<◌, ◌∙◌, ℕ, List, [], ◌∷◌, ◌++◌, length, take, drop, get_or, reverse, ◌-◌, sym, ap, subst, arith}
use Rattle.std.proofs.lemmas.List.{length-take-le, take_all, get_or_read}
use Rattle.alma_code.specs.Picture.{stack_after_pop}
use Rattle.alma_back_tape.specs.declared.change.Note.{Note}
use Rattle.alma_back_tape.specs.declared.change.Entry.{Entry}
use Rattle.alma_back_tape.specs.declared.journal.Journal.{Journal}
use Rattle.alma_back_tape.specs.Inner.Reel.{front, last_or, no_entry, no_note, undo, unwind, held_of, stays}
use Rattle.alma_back_tape.specs.Inner.Past.{IsTape, Rises, reel_of, scenes}
use Rattle.alma_back_tape.proofs.Trails.{Unwinds, unwinds-more, rises-more, rises-push, rises-pop, pops, cut-held}
use Rattle.alma_back_tape.proofs.Winding.{front-last, good_wound}

-- some of the notes above the mark are undone
pub record Unwound (mark : ℕ) (old now : Journal) : Type 0 where
  pub tape : IsTape now
  pub above : mark ≤ length now.trail.items
  pub same : unwind (drop mark now.trail.items) now.frames ≡ unwind (drop mark old.trail.items) old.frames
  pub below : take mark now.trail.items ≡ take mark old.trail.items
  pub entries : now.entries.items ≡ old.entries.items
  pub past : scenes now ≡ scenes old

-- some of the entries above the height are dropped
pub record Cuts (height : ℕ) (old now : Journal) : Type 0 where
  pub tape : IsTape now
  pub frames : now.frames ≡ old.frames
  pub trail : now.trail.items ≡ old.trail.items
  pub below : take height now.entries.items ≡ take height old.entries.items
  pub past : scenes now ≡ scenes old

-- one more note is undone
pub unwound_more : (mark : ℕ) (old now next : Journal) → mark < length now.trail.items
    → next.frames ≡ undo (last_or now.trail.items no_note) now.frames
    → next.trail.items ≡ front now.trail.items → next.entries.items ≡ now.entries.items → scenes next ≡ scenes now → IsTape next
    → Unwound mark old now → Unwound mark old next
unwound_more mark old now next more frames trail entries past tape u =
    let ns = front now.trail.items in
    let n = last_or now.trail.items no_note in
    let whole : ns ++ n ∷ [] ≡ now.trail.items = front-last now.trail.items no_note (omega arith) in
    let wound = good_wound (reverse now.changes.items) (reel_of now) u.tape.good in
    let all : Unwinds mark old.trail.items old.frames now.trail.items now.frames =
    record { fits = wound.fits; above = u.above; same = u.same; below = u.below } in
    let one = unwinds-more mark old.trail.items old.frames now.trail.items now.frames ns n next.frames (sym whole) frames more all in
    record {
      tape = tape;
      above = subst (λ (xs : List Note). mark ≤ length xs) (sym trail) one.above;
      same = ap (λ xs. unwind (drop mark xs) next.frames) trail ∙ one.same;
      below = ap (take mark) trail ∙ one.below;
      entries = entries ∙ u.entries;
      past = past ∙ u.past;
    }

-- the marks are still within the notes
pub unwound_rises : (mark : ℕ) (old now : Journal) → mark < length now.trail.items → Rises 0 old.entries.items mark → Unwound mark old now
    → Rises 0 now.entries.items (length (front now.trail.items))
unwound_rises mark old now more rises u =
    let short = length-take-le (length now.trail.items - 1) now.trail.items (omega arith) in
    subst (λ (es : List Entry). Rises 0 es (length (front now.trail.items))) (sym u.entries)
    (rises-more 0 mark (length (front now.trail.items)) old.entries.items rises (omega (arith, short)))

-- the marks of the entries lie below that of the top one
pub top_rises : (j : Journal) (mark : ℕ) → IsTape j → 1 ≤ length j.entries.items → mark ≡ (last_or j.entries.items no_entry).mark
    → Rises 0 j.entries.items mark × (mark ≤ length j.trail.items)
top_rises j mark tape some is =
    let es = front j.entries.items in
    let e = last_or j.entries.items no_entry in
    let whole : es ++ e ∷ [] ≡ j.entries.items = front-last j.entries.items no_entry some in
    let wound = good_wound (reverse j.changes.items) (reel_of j) tape.good in
    let parts = rises-pop 0 (length j.trail.items) es e (subst (λ (xs : List Entry). Rises 0 xs (length j.trail.items)) (sym whole)
    wound.rises) in
    (subst (λ (xs : List Entry). Rises 0 xs mark) whole (rises-push 0 mark es e parts.0 (omega (arith, is))), omega (arith, is, parts.1))

-- a failure gives the stack after a pop
pub fails : (j j1 j2 : Journal) (mark : ℕ) → IsTape j → 1 ≤ length j.entries.items → mark ≡ (last_or j.entries.items no_entry).mark
    → j1.frames ≡ unwind (drop mark j.trail.items) j.frames → j1.trail.items ≡ take mark j.trail.items → j1.entries.items ≡ j.entries.items
    → j2.frames ≡ j1.frames → j2.trail.items ≡ j1.trail.items
    → j2.entries.items ≡ front j1.entries.items ++ stays (last_or j1.entries.items no_entry)
    → held_of j2.trail.items j2.frames j2.entries.items ≡ stack_after_pop (held_of j.trail.items j.frames j.entries.items)
fails j j1 j2 mark tape some is frames trail entries frames' trail' entries' =
    let es = front j.entries.items in
    let e = last_or j.entries.items no_entry in
    let whole : es ++ e ∷ [] ≡ j.entries.items = front-last j.entries.items no_entry some in
    let wound = good_wound (reverse j.changes.items) (reel_of j) tape.good in
    let pop = pops es e j.trail.items j.frames (subst (λ (xs : List Entry). Rises 0 xs (length j.trail.items)) (sym whole) wound.rises) in
    let a : j2.trail.items ≡ take e.mark j.trail.items = trail' ∙ trail ∙ ap (λ m. take m j.trail.items) is in
    let b : j2.frames ≡ unwind (drop e.mark j.trail.items) j.frames =
    frames' ∙ frames ∙ ap (λ m. unwind (drop m j.trail.items) j.frames) is in
    let d : j2.entries.items ≡ es ++ stays e = entries' ∙ ap (λ xs. front xs ++ stays (last_or xs no_entry)) entries in
    ap (λ ns. held_of ns j2.frames j2.entries.items) a ∙ ap (λ fs. held_of (take e.mark j.trail.items) fs j2.entries.items) b
    ∙ ap (held_of (take e.mark j.trail.items) (unwind (drop e.mark j.trail.items) j.frames)) d ∙ pop.held
    ∙ ap (λ xs. stack_after_pop (held_of j.trail.items j.frames xs)) whole

-- where all entries above the height are dropped
pub cuts_held : (height : ℕ) (old now : Journal) → length now.entries.items ≤ height → Cuts height old now
    → held_of now.trail.items now.frames now.entries.items ≡ take height (held_of old.trail.items old.frames old.entries.items)
cuts_held height old now few cuts =
    let all : now.entries.items ≡ take height old.entries.items = sym (take_all height now.entries.items few) ∙ cuts.below in
    ap (λ ns. held_of ns now.frames now.entries.items) cuts.trail ∙ ap (λ fs. held_of old.trail.items fs now.entries.items) cuts.frames
    ∙ cut-held height old.trail.items old.frames old.entries.items now.entries.items all

-- the entry that is read at the top is the last one
pub top_is : (es : List Entry) (n : ℕ) (x : Entry) → n ≡ length es → 1 ≤ length es → x ≡ get_or es (n - 1) x → x ≡ last_or es no_entry
top_is es n x whole some read =
    let lt : n - 1 < length es = omega (arith, whole, some) in
    get_or_read es (n - 1) x lt read no_entry ∙ ap (λ k. get_or es (k - 1) no_entry) whole
