-- How many changes may be due.
use Rattle.std.proofs.Common.{◌≡◌, ◌≤◌, ◌+◌, List, [], ◌∷◌, ◌++◌, length, ap, ◌∙◌, arith, vec_capacity}
use Rattle.std.proofs.lemmas.List.{length_push}
use Rattle.alma_code.specs.declared.cell.ChoiceKind.{ChoiceKind}
use Rattle.alma_code.specs.declared.cell.ChoiceKind.TheVariants.{Branch, Forall, Body, Done}
use Rattle.alma_back_tape.specs.declared.change.Entry.{Entry}
use Rattle.alma_code.specs.Picture.{PlainFrame}
use Rattle.alma_back_tape.specs.declared.change.Note.{Note}
use Rattle.alma_back_tape.specs.Inner.PlainGain.{PlainGain}
use Rattle.alma_back_tape.specs.Inner.Reel.{Reel}
use Rattle.alma_back_tape.specs.Inner.Past.{finishes, all_finishes, HasRooms}
use Rattle.alma_back_tape.specs.declared.journal.Journal.{Journal}
use Rattle.alma_back_tape.specs.declared.change.Change.TheVariants.{Pushed}

-- a reel by its parts
abbrev pub reel : List PlainFrame → List Note → List Entry → List Note → List Entry → List PlainGain → Reel
reel frames trail entries redo dropped kept =
    record { frames = frames; trail = trail; entries = entries; redo = redo; dropped = dropped; kept = kept }

-- an entry is finished once at most
pub finishes_le : (kind : ChoiceKind) → finishes kind ≤ 1
finishes_le Branch = omega arith
finishes_le Forall = omega arith
finishes_le Body = omega arith
finishes_le Done = omega arith

pub all_finishes_le : (es : List Entry) → all_finishes es ≤ length es
all_finishes_le [] = omega arith
all_finishes_le (e ∷ es) = omega (arith, finishes_le e.kind, all_finishes_le es)

-- one more entry
pub all_finishes_push : (es : List Entry) (e : Entry) → all_finishes (es ++ e ∷ []) ≡ all_finishes es + finishes e.kind
all_finishes_push [] e = omega arith
all_finishes_push (x ∷ es) e = omega (arith, all_finishes_push es e)

pub all_finishes_is : (es ds : List Entry) (e : Entry) → es ≡ ds ++ e ∷ [] → all_finishes es ≡ all_finishes ds + finishes e.kind
all_finishes_is es ds e p = ap (λ (xs : List Entry). all_finishes xs) p ∙ all_finishes_push ds e

-- the rooms after an entry is pushed
pub pushed_rooms : (j j' : Journal) (e : Entry) → HasRooms 0 j → 1 ≤ j.choice_room → j'.trail ≡ j.trail → j'.redo ≡ j.redo
    → j'.dropped ≡ j.dropped
    → j'.choice_room + 1 ≡ j.choice_room → j'.trail_room ≡ j.trail_room → j'.entries.items ≡ j.entries.items ++ e ∷ []
    → j'.changes.items ≡ j.changes.items ++ Pushed ∷ []
    → vec_capacity j'.entries ≡ vec_capacity j.entries → vec_capacity j'.changes ≡ vec_capacity j.changes → HasRooms 0 j'
pushed_rooms j j' e rooms some trail redo dropped choice room entries changes wide long =
    let more = ap length entries ∙ length_push j.entries.items e in
    let done = ap length changes ∙ length_push j.changes.items Pushed in
    let finish = all_finishes_is j'.entries.items j.entries.items e entries in
    let one = finishes_le e.kind in
    record {
      trail = rw (trail, redo, room) rooms.trail;
      redo = rw (trail, redo, room) rooms.redo;
      entries = rw dropped (omega (arith, rooms.entries, more, choice, wide));
      dropped = rw dropped (omega (arith, rooms.dropped, more, choice));
      changes = rw (trail, dropped, room) (omega (arith, rooms.changes, more, done, finish, one, choice, long));
    }

-- reels with the same parts are the same
pub same_reel : {f f' : List PlainFrame} {t t' : List Note} {e e' : List Entry} {r r' : List Note} {d d' : List Entry}
    {k k' : List PlainGain}
    → f ≡ f' → t ≡ t' → e ≡ e' → r ≡ r' → d ≡ d' → k ≡ k' → reel f t e r d k ≡ reel f' t' e' r' d' k'
same_reel {f} {f'} {t} {t'} {e} {e'} {r} {r'} {d} {d'} {k} {k'} a b c x y z =
    ap (λ q. reel q t e r d k) a ∙ ap (λ q. reel f' q e r d k) b ∙ ap (λ q. reel f' t' q r d k) c ∙ ap (λ q. reel f' t' e' q d k) x
    ∙ ap (λ q. reel f' t' e' r' q k) y
    ∙ ap (reel f' t' e' r' d') z
