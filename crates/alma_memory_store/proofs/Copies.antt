-- Lemmas on the copies of a store.
use Rattle.std.proofs.Common.{◌≡◌, ℕ, suc, zero, ◌≤◌, ◌<◌, lit≤, ◌+◌, ◌-◌, List, [], ◌∷◌, ◌++◌, length, take, drop, get_or, refl, sym}
use Rattle.std.proofs.Common.{ap, ◌∙◌, arith, length-append}
use Rattle.std.proofs.lemmas.List.{take-take, length-take, length-take-le, take_all, take-map, length-map}
use Rattle.std.proofs.lemmas.List.{take-append-le, map-append}
use Rattle.std.proofs.Math.Seq.{drop-append_seam}
use Rattle.alma_base.specs.Limits.{cell_limit, frame_limit}
use Rattle.alma_code.specs.Picture.{PlainFrame, without_last}
use Rattle.alma_memory_rewind.specs.PlainRewind.{top_copy}
use Rattle.alma_memory_store.specs.declared.store.Region.{Region}
use Rattle.alma_memory_store.specs.declared.store.Slot.{Slot}
use Rattle.alma_memory_store.specs.Regions.{frame_of, frame_with_slots, frames_of, AreLaid, end_of, declared_in, AreTotaled}
use Rattle.alma_memory_store.specs.PlainStore.{copies_of, IsState, AreStates}
use Rattle.alma_memory_store.proofs.Frames.{laid-more, laid-end, laid-push, laid-take, frames-take, frames-agree}
use Rattle.alma_memory_store.proofs.Totals.{declared-push, declared-take, totaled-take, totaled-push}

-- ---- stacks of copies

pub states-length : (cs : List (List Slot)) (rs : List (List Region)) (ls : List ℕ) → AreStates cs rs ls → (length cs ≡ length ls)
    × (length rs ≡ length ls)
states-length [] [] [] h = (refl, refl)
states-length [] [] (n ∷ ls) h = absurd h
states-length [] (r ∷ rs) [] h = absurd h
states-length [] (r ∷ rs) (n ∷ ls) h = absurd h
states-length (c ∷ cs) [] [] h = absurd h
states-length (c ∷ cs) [] (n ∷ ls) h = absurd h
states-length (c ∷ cs) (r ∷ rs) [] h = absurd h
states-length (c ∷ cs) (r ∷ rs) (n ∷ ls) h = let i = states-length cs rs ls h.1 in (ap suc i.0, ap suc i.1)

pub states-push : (cs : List (List Slot)) (rs : List (List Region)) (ls : List ℕ) (c : List Slot) (r : List Region) (n : ℕ)
    → AreStates cs rs ls → IsState c r n →
    AreStates (cs ++ c ∷ []) (rs ++ r ∷ []) (ls ++ n ∷ [])
states-push [] [] [] c r n h s = (s, tt)
states-push [] [] (m ∷ ls) c r n h s = absurd h
states-push [] (q ∷ rs) [] c r n h s = absurd h
states-push [] (q ∷ rs) (m ∷ ls) c r n h s = absurd h
states-push (d ∷ cs) [] [] c r n h s = absurd h
states-push (d ∷ cs) [] (m ∷ ls) c r n h s = absurd h
states-push (d ∷ cs) (q ∷ rs) [] c r n h s = absurd h
states-push (d ∷ cs) (q ∷ rs) (m ∷ ls) c r n h s = (h.0, states-push cs rs ls c r n h.1 s)

pub copies-push : (cs : List (List Slot)) (rs : List (List Region)) (ls : List ℕ) (c : List Slot) (r : List Region) (n : ℕ)
    → length cs ≡ length ls → length rs ≡ length ls →
    copies_of (cs ++ c ∷ []) (rs ++ r ∷ []) (ls ++ n ∷ []) ≡ copies_of cs rs ls ++ frames_of c (take n r) ∷ []
copies-push [] [] [] c r n p q = refl
copies-push [] [] (m ∷ ls) c r n p q = absurd (omega (arith, p))
copies-push [] (d ∷ rs) ls c r n p q = absurd (omega (arith, p, q))
copies-push (d ∷ cs) [] ls c r n p q = absurd (omega (arith, p, q))
copies-push (d ∷ cs) (e ∷ rs) [] c r n p q = absurd (omega (arith, p))
copies-push (d ∷ cs) (e ∷ rs) (m ∷ ls) c r n p q =
    ap (λ xs. frames_of d (take m e) ∷ xs) (copies-push cs rs ls c r n (omega (arith, p)) (omega (arith, q)))

pub states-take : (h : ℕ) (cs : List (List Slot)) (rs : List (List Region)) (ls : List ℕ) → AreStates cs rs ls
    → AreStates (take h cs) (take h rs) (take h ls)
states-take zero cs rs ls s = tt
states-take (suc h) [] [] [] s = tt
states-take (suc h) [] [] (n ∷ ls) s = absurd s
states-take (suc h) [] (r ∷ rs) [] s = absurd s
states-take (suc h) [] (r ∷ rs) (n ∷ ls) s = absurd s
states-take (suc h) (c ∷ cs) [] [] s = absurd s
states-take (suc h) (c ∷ cs) [] (n ∷ ls) s = absurd s
states-take (suc h) (c ∷ cs) (r ∷ rs) [] s = absurd s
states-take (suc h) (c ∷ cs) (r ∷ rs) (n ∷ ls) s = (s.0, states-take h cs rs ls s.1)

pub copies-take : (h : ℕ) (cs : List (List Slot)) (rs : List (List Region)) (ls : List ℕ)
    → copies_of (take h cs) (take h rs) (take h ls) ≡ take h (copies_of cs rs ls)
copies-take zero cs rs ls = refl
copies-take (suc h) [] rs ls = refl
copies-take (suc h) (c ∷ cs) [] ls = refl
copies-take (suc h) (c ∷ cs) (r ∷ rs) [] = refl
copies-take (suc h) (c ∷ cs) (r ∷ rs) (n ∷ ls) = ap (λ xs. frames_of c (take n r) ∷ xs) (copies-take h cs rs ls)

pub copies-length : (cs : List (List Slot)) (rs : List (List Region)) (ls : List ℕ) → AreStates cs rs ls
    → length (copies_of cs rs ls) ≡ length ls
copies-length [] [] [] h = refl
copies-length [] [] (n ∷ ls) h = absurd h
copies-length [] (r ∷ rs) [] h = absurd h
copies-length [] (r ∷ rs) (n ∷ ls) h = absurd h
copies-length (c ∷ cs) [] [] h = absurd h
copies-length (c ∷ cs) [] (n ∷ ls) h = absurd h
copies-length (c ∷ cs) (r ∷ rs) [] h = absurd h
copies-length (c ∷ cs) (r ∷ rs) (n ∷ ls) h = ap suc (copies-length cs rs ls h.1)

-- one of the copies
pub record HasCopy (i : ℕ) (cs : List (List Slot)) (rs : List (List Region)) (ls : List ℕ) : Type 0 where
  pub state : IsState (get_or cs i []) (get_or rs i []) (get_or ls i 0)
  pub frames : get_or (copies_of cs rs ls) i [] ≡ frames_of (get_or cs i []) (take (get_or ls i 0) (get_or rs i []))

pub copy-at : (i : ℕ) (cs : List (List Slot)) (rs : List (List Region)) (ls : List ℕ) → AreStates cs rs ls → i < length ls
    → HasCopy i cs rs ls
copy-at i [] [] [] h l = absurd (omega (arith, l))
copy-at i [] [] (n ∷ ls) h l = absurd h
copy-at i [] (r ∷ rs) [] h l = absurd h
copy-at i [] (r ∷ rs) (n ∷ ls) h l = absurd h
copy-at i (c ∷ cs) [] [] h l = absurd h
copy-at i (c ∷ cs) [] (n ∷ ls) h l = absurd h
copy-at i (c ∷ cs) (r ∷ rs) [] h l = absurd h
copy-at zero (c ∷ cs) (r ∷ rs) (n ∷ ls) h l = record { state = h.0; frames = refl }
copy-at (suc i) (c ∷ cs) (r ∷ rs) (n ∷ ls) h l =
    let rest = copy-at i cs rs ls h.1 (omega (arith, l)) in
    record { state = rest.state; frames = rest.frames }

-- the top copy
pub record HasTop (cs : List (List Slot)) (rs : List (List Region)) (ls : List ℕ) (n : ℕ) : Type 0 where
  pub state : IsState (top_copy cs) (top_copy rs) n
  pub frames : top_copy (copies_of cs rs ls) ≡ frames_of (top_copy cs) (take n (top_copy rs))

pub top-at : (cs : List (List Slot)) (rs : List (List Region)) (ls : List ℕ) (n : ℕ) → AreStates cs rs ls → 1 ≤ length ls
    → n ≡ get_or ls (length ls - 1) 0 → HasTop cs rs ls n
top-at cs rs ls n h l e =
    let wide = states-length cs rs ls h in
    let long : length (copies_of cs rs ls) ≡ length ls = copies-length cs rs ls h in
    let one = copy-at (length ls - 1) cs rs ls h (omega (arith, l)) in
    let c : top_copy cs ≡ get_or cs (length ls - 1) [] = ap (λ k. get_or cs (k - 1) []) wide.0 in
    let r : top_copy rs ≡ get_or rs (length ls - 1) [] = ap (λ k. get_or rs (k - 1) []) wide.1 in
    let top : top_copy (copies_of cs rs ls) ≡ get_or (copies_of cs rs ls) (length ls - 1) [] =
    ap (λ k. get_or (copies_of cs rs ls) (k - 1) []) long in
    record {
      state = rw (c, r, e) one.state;
      frames = top
          ∙ (one.frames ∙ sym (ap (λ x. frames_of x (take n (top_copy rs))) c
          ∙ (ap (λ x. frames_of (get_or cs (length ls - 1) []) (take n x)) r
          ∙ ap (λ m. frames_of (get_or cs (length ls - 1) []) (take m (get_or rs (length ls - 1) []))) e)));
    }

-- ---- the state of a copy

pub record Chooses (slots : List Slot) (regions : List Region) (n top high : ℕ) : Type 0 where
  pub state : IsState (take top slots) (take high regions) n
  pub frames : frames_of (take top slots) (take n (take high regions)) ≡ frames_of slots (take n regions)

pub chooses : (slots : List Slot) (regions : List Region) (n top high : ℕ) → end_of 0 (take n regions) ≤ top → top ≤ length slots → n ≤ high
    → high ≤ length regions →
    IsState slots regions n → Chooses slots regions n top high
chooses slots regions n top high l k a b s =
    let same : take n (take high regions) ≡ take n regions = take-take n high regions a in
    let laid : AreLaid 0 (take n regions) top =
    laid-more 0 (take n regions) (end_of 0 (take n regions)) top (laid-end 0 (take n regions) (length slots) s.laid).0 l in
    let wide : length (take top slots) ≡ top = length-take-le top slots k in
    let long : length (take high regions) ≡ high = length-take-le high regions b in
    record {
      state = record {
        some = s.some;
        few = s.few;
        live = omega (arith, long, a);
        laid = rw (same, wide) laid;
        totals = rw same s.totals;
        limit = rw same s.limit;
      };
      frames = ap (frames_of (take top slots)) same ∙ frames-take 0 (take n regions) top slots laid;
    }

-- ---- back to a copy

pub record Backs (copy slots : List Slot) (records regions : List Region) (n : ℕ) : Type 0 where
  pub state : IsState slots regions n
  pub frames : frames_of slots (take n regions) ≡ frames_of copy (take n records)

pub backs-to : (copy slots : List Slot) (records regions : List Region) (n : ℕ) → take (length copy) slots ≡ copy
    → take (length records) regions ≡ records → IsState copy records n → Backs copy slots records regions n
backs-to copy slots records regions n c r s =
    let low : length records ≤ length regions = omega (arith, ap length r, length-take (length records) regions) in
    let deep : length copy ≤ length slots = omega (arith, ap length c, length-take (length copy) slots) in
    let same : take n regions ≡ take n records = sym (take-take n (length records) regions s.live) ∙ ap (take n) r in
    let laid : AreLaid 0 (take n regions) (length copy) = rw same s.laid in
    let agree : take (length copy) slots ≡ take (length copy) copy = c ∙ sym (take_all (length copy) copy (omega arith)) in
    record {
      state = record {
        some = s.some;
        few = s.few;
        live = omega (arith, s.live, low);
        laid =
            laid-more 0 (take n regions) (length copy) (length slots) laid deep;
        totals = rw same s.totals;
        limit = rw same s.limit;
      };
      frames = frames-agree 0 (take n regions) (length copy) slots copy laid agree ∙ ap (frames_of copy) same;
    }

-- ---- frames that are left

pub leaves : (slots : List Slot) (regions : List Region) (n : ℕ) → n ≤ length regions →
    frames_of slots (take (n - 1) regions) ≡ without_last (frames_of slots (take n regions))
leaves slots regions n l =
    let wide : length (frames_of slots (take n regions)) ≡ n = length-map (take n regions) (frame_of slots) ∙ length-take-le n regions l in
    let same : take (n - 1) (take n regions) ≡ take (n - 1) regions = take-take (n - 1) n regions (omega arith) in
    sym (ap (λ k. take (k - 1) (frames_of slots (take n regions))) wide
    ∙ (take-map (frame_of slots) (n - 1) (take n regions) ∙ ap (frames_of slots) same))

pub leaves-state : (slots : List Slot) (regions : List Region) (n : ℕ) → 2 ≤ n → IsState slots regions n → IsState slots regions (n - 1)
leaves-state slots regions n some s =
    let same : take (n - 1) (take n regions) ≡ take (n - 1) regions = take-take (n - 1) n regions (omega arith) in
    let less : declared_in (take (n - 1) (take n regions)) ≤ declared_in (take n regions) = declared-take (n - 1) (take n regions) in
    let fewer : declared_in (take (n - 1) regions) ≤ declared_in (take n regions) = rw (← same) less in
    record {
      some = omega (arith, some);
      few = omega (arith, s.few);
      live = omega (arith, s.live);
      laid = rw (← same) (laid-take (n - 1) 0 (take n regions) (length slots) s.laid);
      totals = rw (← same) (totaled-take (n - 1) (take n regions) s.totals);
      limit = omega (arith, fewer, s.limit);
    }

-- ---- a frame that is entered

-- the slots of the frames stay where those above them change
pub stays-state : (slots new : List Slot) (regions : List Region) (n base : ℕ) → end_of 0 (take n regions) ≤ base → base ≤ length new
    → IsState slots regions n → IsState new regions n
stays-state slots new regions n base l k s =
    let laid : AreLaid 0 (take n regions) base =
    laid-more 0 (take n regions) (end_of 0 (take n regions)) base (laid-end 0 (take n regions) (length slots) s.laid).0 l in
    record {
      some = s.some;
      few = s.few;
      live = s.live;
      laid = laid-more 0 (take n regions) base (length new) laid k;
      totals = s.totals;
      limit = s.limit;
    }

pub stays-frames : (slots new : List Slot) (regions : List Region) (n base : ℕ) → end_of 0 (take n regions) ≤ base
    → take base new ≡ take base slots → IsState slots regions n →
    frames_of new (take n regions) ≡ frames_of slots (take n regions)
stays-frames slots new regions n base l e s =
    let laid : AreLaid 0 (take n regions) base =
    laid-more 0 (take n regions) (end_of 0 (take n regions)) base (laid-end 0 (take n regions) (length slots) s.laid).0 l in
    frames-agree 0 (take n regions) base new slots laid e

pub record Enters (old new : List Slot) (regions regions' : List Region) (n : ℕ) (r : Region) (frame : PlainFrame) : Type 0 where
  pub state : IsState new regions' (n + 1)
  pub frames : frames_of new (take (n + 1) regions') ≡ frames_of old (take n regions) ++ frame ∷ []

pub enters : (slots new more : List Slot) (regions regions' : List Region) (n base : ℕ) (r : Region) → end_of 0 (take n regions) ≤ base
    → base ≤ length slots → IsState slots regions n →
    new ≡ take base slots ++ more → n < frame_limit → r.total ≡ declared_in (take n regions) + r.declared → r.total ≤ cell_limit →
    r.base ≡ base → r.slots ≡ length more → n + 1 ≤ length regions' → take (n + 1) regions' ≡ take n regions ++ r ∷ [] →
    Enters slots new regions regions' n r (frame_with_slots r more)
enters slots new more regions regions' n base r l k s p few t lim b w up e =
    let wide : length (take base slots) ≡ base = length-take-le base slots k in
    let all : length new ≡ base + length more = ap length p ∙ (length-append (take base slots) more ∙ ap (λ m. m + length more) wide) in
    let laid : AreLaid 0 (take n regions) base =
    laid-more 0 (take n regions) (end_of 0 (take n regions)) base (laid-end 0 (take n regions) (length slots) s.laid).0 l in
    let whole : AreLaid 0 (take n regions ++ r ∷ []) (length new) =
    laid-push 0 (take n regions) r (length new) (rw b laid) (omega (arith, all, b, w)) in
    let part : drop r.base new ≡ more = ap (drop r.base) p
    ∙ (ap (λ j. drop j (take base slots ++ more)) (b ∙ sym wide) ∙ drop-append_seam (take base slots) more) in
    let own : take r.slots (drop r.base new) ≡ more = ap (take r.slots) part ∙ take_all r.slots more (omega (arith, w)) in
    let agree : take base new ≡ take base slots = ap (take base) p
    ∙ (take-append-le base (take base slots) more (omega (arith, wide)) ∙ take-take base base slots (omega arith)) in
    let rest : frames_of new (take n regions) ≡ frames_of slots (take n regions) = stays-frames slots new regions n base l agree s in
    let sum : declared_in (take n regions ++ r ∷ []) ≡ declared_in (take n regions) + r.declared = declared-push (take n regions) r in
    let few_all : declared_in (take n regions ++ r ∷ []) ≤ cell_limit = omega (arith, sum, t, lim) in
    record {
      state = record {
        some = omega arith;
        few = omega (arith, few);
        live = up;
        laid = rw e whole;
        totals =
            rw e (totaled-push (take n regions) r s.totals t);
        limit = rw e few_all;
      };
      frames = ap (frames_of new) e ∙ (map-append (frame_of new) (take n regions) (r ∷ [])
          ∙ (ap (λ fs. fs ++ frame_of new r ∷ []) rest
          ∙ ap (λ part. frames_of slots (take n regions) ++ frame_with_slots r part ∷ []) own));
    }

-- the first frame
pub starts : (new more : List Slot) (regions : List Region) (r : Region) → new ≡ more → regions ≡ r ∷ [] → r.total ≡ r.declared
    → r.total ≤ cell_limit → r.base ≡ 0 → r.slots ≡ length more →
    Enters [] new [] regions 0 r (frame_with_slots r more)
starts new more regions r p e t lim b w =
    let part : drop r.base new ≡ more = ap (λ j. drop j new) b ∙ p in
    let own : take r.slots (drop r.base new) ≡ more = ap (take r.slots) part ∙ take_all r.slots more (omega (arith, w)) in
    let wide : length new ≡ length more = ap length p in
    let none : 0 ≤ r.base = omega arith in
    let top : r.base + r.slots ≤ length new = omega (arith, b, w, wide) in
    let zero_sum : declared_in [] ≡ 0 = refl in
    let sum : declared_in (r ∷ []) ≡ declared_in [] + r.declared = declared-push [] r in
    let totals : AreTotaled (r ∷ []) = totaled-push [] r (record { total = λ k l. absurd (omega (arith, l)) }) (omega (arith, t, zero_sum))
    in
    record {
      state = rw e (record {
        some = omega arith;
        few = lit≤ tt;
        live = omega arith;
        laid = (none, top);
        totals = totals;
        limit =
            omega (arith, sum, zero_sum, t, lim);
      });
      frames = ap (λ rs. frames_of new (take 1 rs)) e ∙ ap (λ part. frame_with_slots r part ∷ []) own;
    }
