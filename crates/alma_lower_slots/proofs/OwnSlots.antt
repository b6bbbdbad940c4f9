-- Own slots of live frames: they keep their numbers, and a write to one keeps two states alike.
use Rattle.std.proofs.Common.{◌≡◌, ℕ, ◌+◌, ◌<◌, ◌≤◌, inl, inr, List, length, get_or, refl, sym, ap, ◌∙◌, subst, arith, Option}
use Rattle.std.proofs.Common.{Some, None, length-set}
use Rattle.std.specs.Prelude.{ℤ, pos, negsuc, slice_get, Bool, true, false}
use Rattle.std.specs.Option.{unwrap_or}
use Rattle.std.proofs.lemmas.Bool.{cases_eq, cases_lt}
use Rattle.std.proofs.lemmas.Option.{slice_get_within, get_or_from_slice_get, unwrap_or-slice_get}
use Rattle.std.proofs.Math.ListN.{get_or-map}
use Rattle.alma_base.specs.Choice.{if_true}
use Rattle.alma_code.specs.declared.cell.Cell.{Cell}
use Rattle.alma_code.specs.declared.cell.Cell.TheVariants as cell
use Rattle.alma_code.specs.declared.cell.CellPlace.{CellPlace}
use Rattle.alma_code.specs.declared.cell.SlotKind.TheVariants as slot
use Rattle.alma_code.specs.declared.instr.Instr.{Instr}
use Rattle.alma_code.specs.Carries.{number_at}
use Rattle.alma_code.specs.Kinds.{is_number}
use Rattle.alma_code.specs.Picture.{PlainFrame, no_frame, frame_with, frames_with_cell, cell_at}
use Rattle.alma_code.specs.Plain.{PlainCode, kinds_at}
use Rattle.alma_code.specs.Rules.{kind_in}
use Rattle.alma_code.specs.Fits.{routines_of, IsContent, IsPosition, IsPlace, IsLink, FitsSlot}
use Rattle.alma_code.specs.Machine.{State, StepResult, gets_stuck, top, slot_of, slot_in, with_cell, as_place, as_content, content, store}
use Rattle.alma_code.specs.Machine.{as_position}
use Rattle.alma_code.specs.Machine.{position}
use Rattle.alma_code_laws.proofs.Writes.{written-routines}
use Rattle.alma_code_laws.proofs.Ready.{has_slot, cell_ready}
use Rattle.alma_code_laws.proofs.Acts.{first_is}
use Rattle.alma_lower_slots.specs.Sharing.{Sharing, Shares}
use Rattle.alma_lower_slots.proofs.Alike.{NamesOwn, OwnPlaces, is_kept, AlikeFrames, AlikeRest, AlikeStep, Doing}
use Rattle.alma_lower_slots.proofs.Bases.{based_cell}
use Rattle.alma_lower_slots.proofs.Frames.{cell_written, cell_beside, frame_written, frame_beside, frames_alike_written}
use Rattle.alma_lower_slots.proofs.Settles.{Shared, stuck_alike, if_alike, top_live, as_place_alike}

-- a number slot of frame f that is an own one of its routine, where rs are the routines of the frames
pub record OwnCell (code : PlainCode) (s : Sharing) (rs : List ℕ) (f n : ℕ) : Type 0 where
  pub number : slice_get (kinds_at code (get_or rs f 0)) n ≡ Some slot.Number
  pub own : n < s.own (get_or rs f 0)

-- the routine of a frame, among the routines of the frames
pub routine_among : (frames : List PlainFrame) (f : ℕ) → get_or (routines_of frames) f 0 ≡ (get_or frames f no_frame).routine
routine_among frames f = get_or-map (λ g. g.routine) frames f no_frame

-- where two lists have one element at two places, so they have with a word for what is not there
same_or : (xs ys : List Cell) (i j : ℕ) (d : Cell) → slice_get xs i ≡ slice_get ys j → get_or xs i d ≡ get_or ys j d
same_or xs ys i j d e = sym (unwrap_or-slice_get xs i d) ∙ ap (λ o. unwrap_or o d) e ∙ unwrap_or-slice_get ys j d

-- an own number slot is one of the routine
own_there : (code : PlainCode) (s : Sharing) (rs : List ℕ) (f n : ℕ) → OwnCell code s rs f n → n < length (kinds_at code (get_or rs f 0))
own_there code s rs f n c = slice_get_within (kinds_at code (get_or rs f 0)) n slot.Number c.number

-- no other slot gets the number of an own one
pub own_apart : (code : PlainCode) (s : Sharing) → Shares code s → (q n m : ℕ) → q < length code.routines → n < s.own q
    → m < length (kinds_at code q)
    → s.slot q m ≡ s.slot q n → m ≡ n
own_apart code s shares q n m lq own lm e =
    let rules = shares.routines q lq in
    let same = rules.same n own in
    elim (cases_lt m (s.own q)) [
      | inl lt ↦ sym (rules.same m lt) ∙ e ∙ same
      | inr le ↦ absurd (omega (arith, rules.above m le lm, own, e, same))
    ]

-- a write of a content keeps places at own slots
pub places_written : (s : Sharing) (frames : List PlainFrame) (f n : ℕ) (c : Cell) → OwnPlaces s frames → f < length frames
    → n < length (get_or frames f no_frame).cells → IsContent c → OwnPlaces s (frames_with_cell frames f n c)
places_written s frames f n c h lf ln is g i p lg e =
    let fr = get_or frames f no_frame in
    let len : length (frames_with_cell frames f n c) ≡ length frames = length-set frames f (frame_with fr n c) in
    let was : slice_get (get_or frames g no_frame).cells i ≡ Some (cell.Place p) = elim (cases_eq g f) [
      | inl same ↦
          let at_f : get_or (frames_with_cell frames f n c) g no_frame ≡ frame_with fr n c =
          ap (λ k. get_or (frames_with_cell frames f n c) k no_frame) same ∙ frame_written frames f n c lf in
          let e2 : slice_get (frame_with fr n c).cells i ≡ Some (cell.Place p) = ap (λ x. slice_get x.cells i) (sym at_f) ∙ e in
          elim (cases_eq i n) [
            | inl here ↦
                let e3 : slice_get (frame_with fr n c).cells i ≡ Some c =
                ap (slice_get (frame_with fr n c).cells) here ∙ cell_written fr.cells n c ln in
                let e4 : c ≡ cell.Place p = cc in
                absurd (subst IsContent e4 is)
            | inr there ↦
                ap (λ k. slice_get (get_or frames k no_frame).cells i) same ∙ sym (cell_beside fr.cells n i c there) ∙ e2
          ]
      | inr ne ↦ ap (λ x. slice_get x.cells i) (sym (frame_beside frames f g n c ne)) ∙ e
    ] in
    subst (λ rs. NamesOwn s rs p) (sym (written-routines frames f n c)) (h g i p (omega (arith, len, lg)) was)

-- the place in a place slot: its cells are own number slots of a live frame, and none is the input position
pub record IsOwn (code : PlainCode) (s : Sharing) (t : State) (p : CellPlace) : Type 0 where
  pub frame : p.frame ≤ top t
  pub live : p.frame < length t.now
  pub cells : (k : ℕ) → k < p.len → OwnCell code s (routines_of t.now) p.frame (p.slot + k)
  pub free : (k : ℕ) → k < p.len → 0 < p.frame + (p.slot + k)

-- the only cell of such a place
pub one_own : {code : PlainCode} {s : Sharing} {t : State} {p : CellPlace} → IsOwn code s t p → p.len ≡ 1
    → OwnCell code s (routines_of t.now) p.frame p.slot × (0 < p.frame + p.slot)
one_own {code} {s} {t} {p} own e =
    let z : p.slot + 0 ≡ p.slot = omega arith in (
      subst (λ i. OwnCell code s (routines_of t.now) p.frame i) z (own.cells 0 (omega arith)),
      subst (λ i. 0 < p.frame + i) z (own.free 0 (omega arith)),
    )

module _ {code new : PlainCode} {s : Sharing} where
  -- ---- in two states that are alike

  -- the routine of a live frame is one of the code
  pub live_routine : {r at : ℕ} {i : Instr} {t t' : State} → Doing code new s r at i t t' → (f : ℕ) → f < length t.now
      → (get_or t.now f no_frame).routine < length code.routines
  live_routine h f lf = (h.here.ready.frames.each f lf).routine

  -- an own slot of a live frame holds the same in both
  pub own_alike : {r at : ℕ} {i : Instr} {t t' : State} → Shared code new s → Doing code new s r at i t t' → (f n : ℕ)
      → f < length t.now → n < s.own (get_or (routines_of t.now) f 0) → n < length (kinds_at code (get_or (routines_of t.now) f 0))
      → slot_in t' f n ≡ slot_in t f n
  own_alike {r} {at} {i} {t} {t'} w h f n lf own ln =
      let q = (get_or t.now f no_frame).routine in
      let is = routine_among t.now f in
      let own2 : n < s.own q = subst (λ k. n < s.own k) is own in
      let rules = w.shares.routines q (live_routine h f lf) in
      let cells : slice_get (get_or t'.now f no_frame).cells (s.slot q n) ≡ slice_get (get_or t.now f no_frame).cells n =
      (h.taken.now.each f lf).cells n (subst (λ k. n < length (kinds_at code k)) is ln) (is_kept (rules.kept n own2)) in
      subst (λ m. slice_get (get_or t'.now f no_frame).cells m ≡ slice_get (get_or t.now f no_frame).cells n) (rules.same n own2) cells

  -- it is of the same kind in both
  pub own_kind_alike : {r at : ℕ} {i : Instr} {t t' : State} → Shared code new s → Doing code new s r at i t t' → (f n : ℕ)
      → f < length t.now → n < s.own (get_or (routines_of t.now) f 0) → n < length (kinds_at code (get_or (routines_of t.now) f 0))
      → slice_get (get_or t'.now f no_frame).kinds n ≡ slice_get (get_or t.now f no_frame).kinds n
  own_kind_alike {r} {at} {i} {t} {t'} w h f n lf own ln =
      let q = (get_or t.now f no_frame).routine in
      let is = routine_among t.now f in
      let lq = live_routine h f lf in
      let rules = w.shares.routines q lq in
      let same : s.slot q n ≡ n = rules.same n (subst (λ k. n < s.own k) is own) in
      let kinds : slice_get (kinds_at new q) n ≡ slice_get (kinds_at code q) n =
      subst (λ m. slice_get (kinds_at new q) m ≡ slice_get (kinds_at code q) n) same
      (w.renames.kinds q n lq (subst (λ k. n < length (kinds_at code k)) is ln)) in
      ap (λ ks. slice_get ks n) (h.taken.now.each f lf).kinds ∙ kinds
      ∙ ap (λ ks. slice_get ks n) (sym (h.here.ready.frames.each f lf).kinds)

  -- it is live in both or in none
  pub number_alike_at : {r at : ℕ} {i : Instr} {t t' : State} → Shared code new s → Doing code new s r at i t t' → (f n : ℕ)
      → f < length t.now → OwnCell code s (routines_of t.now) f n → number_at t'.now f n ≡ number_at t.now f n
  number_alike_at {r} {at} {i} {t} {t'} w h f n lf c =
      ap is_number (own_kind_alike w h f n lf c.own (own_there code s (routines_of t.now) f n c))

  -- its cell is the same in both
  pub cell_alike_at : {r at : ℕ} {i : Instr} {t t' : State} → Shared code new s → Doing code new s r at i t t' → (f n : ℕ) (d : Cell)
      → f < length t.now → OwnCell code s (routines_of t.now) f n → cell_at t'.now f n d ≡ cell_at t.now f n d
  cell_alike_at {r} {at} {i} {t} {t'} w h f n d lf c =
      same_or (get_or t'.now f no_frame).cells (get_or t.now f no_frame).cells n n d
      (own_alike w h f n lf c.own (own_there code s (routines_of t.now) f n c))

  -- a cell is looked at as a content
  as_content_alike : {t t' : State} → AlikeRest code new s t t' → (b : Bool) (c : Cell) (k k' : Option ℤ → StepResult)
      → ((o : Option ℤ) → AlikeStep code new s (k o) (k' o)) → AlikeStep code new s (as_content b c t k) (as_content b c t' k')
  as_content_alike h true (cell.Int v) k k' good = good (Some v)
  as_content_alike h true cell.Unknown k k' good = good None
  as_content_alike h true cell.Unset k k' good = stuck_alike h
  as_content_alike h true (cell.Place p) k k' good = stuck_alike h
  as_content_alike h true (cell.Mark m) k k' good = stuck_alike h
  as_content_alike h false c k k' good = stuck_alike h

  -- the content of an own number slot of a live frame is read
  pub content_alike : {r at : ℕ} {i : Instr} {t t' : State} → Shared code new s → Doing code new s r at i t t' → (f n : ℕ)
      → f < length t.now → OwnCell code s (routines_of t.now) f n → (k k' : Option ℤ → StepResult)
      → ((o : Option ℤ) → AlikeStep code new s (k o) (k' o)) → AlikeStep code new s (content t f n k) (content t' f n k')
  content_alike {r} {at} {i} {t} {t'} w h f n lf c k k' good =
      subst (λ b. AlikeStep code new s (content t f n k) (as_content b (cell_at t'.now f n cell.Unset) t' k'))
      (sym (number_alike_at w h f n lf c))
      (subst (λ x. AlikeStep code new s (content t f n k) (as_content (number_at t.now f n) x t' k'))
      (sym (cell_alike_at w h f n cell.Unset lf c))
      (as_content_alike h.taken.rest (number_at t.now f n) (cell_at t.now f n cell.Unset) k k' good))

  -- ---- writes

  -- a content is written to an own number slot of a live frame
  pub cell_doing : {r at : ℕ} {i : Instr} {t t' : State} → Shared code new s → Doing code new s r at i t t' → (f n : ℕ) (c : Cell)
      → f < length t.now → OwnCell code s (routines_of t.now) f n → IsContent c → (f + n ≡ 0 → IsPosition c)
      → Doing code new s r at i (with_cell t f n c) (with_cell t' f n c)
  cell_doing {r} {at} {i} {t} {t'} w h f n c lf own is position =
      let fr = get_or t.now f no_frame in
      let q = fr.routine in
      let fits = h.here.ready.frames.each f lf in
      let among = routine_among t.now f in
      let lq = live_routine h f lf in
      let ln : n < length (kinds_at code q) =
      subst (λ k. n < length (kinds_at code k)) among (own_there code s (routines_of t.now) f n own) in
      let own2 : n < s.own q = subst (λ k. n < s.own k) among own.own in
      let kinds : slice_get fr.kinds n ≡ Some slot.Number = ap (λ ks. slice_get ks n) (fits.kinds ∙ ap (kinds_at code) (sym among))
      ∙ own.number in
      let full : length fr.cells ≡ length (kinds_at code q) = fits.full ∙ ap length fits.kinds in
      let there : n < length fr.kinds = slice_get_within fr.kinds n slot.Number kinds in
      let got : get_or fr.kinds n slot.Mark ≡ slot.Number = get_or_from_slice_get fr.kinds n slot.Number slot.Mark kinds in
      let alike : AlikeFrames code new s at (frames_with_cell t.now f n c) (frames_with_cell t'.now f (s.slot q n) c) =
      frames_alike_written code new s w.renames at at t.now t'.now f q n c h.taken.now lf refl lq ln full
      (λ g m lg lm ne due. due) (λ m lm due e. own_apart code s w.shares q n m lq own2 lm e) in
      let rest = h.taken.rest in
      record {
        taken = record {
          rest = record {
            at = rest.at;
            last = rest.last;
            mode = rest.mode;
            steps = rest.steps;
            choices = rest.choices;
            fails = rest.fails;
            held = rest.held;
          };
          going = h.taken.going;
          behind = h.taken.behind;
          now = subst (λ m. AlikeFrames code new s at (frames_with_cell t.now f n c) (frames_with_cell t'.now f m c))
              ((w.shares.routines q lq).same n own2) alike;
        };
        here = record {
          ready = cell_ready code r t f n c h.here.ready lf there
              (subst (λ k. FitsSlot code (routines_of t.now) f k c) (sym got) is) position;
          at_is = h.here.at_is;
          low = h.here.low;
          first = h.here.first;
        };
        routine = h.routine;
        high = h.high;
        own = record { now = places_written s t.now f n c h.own.now lf (omega (arith, full, ln)) is; held = h.own.held };
        based = based_cell code at t f n c h.based lf (λ m e. subst IsContent e is);
        is = h.is;
        shares = h.shares;
        obeys = h.obeys;
      }

  -- a number is stored in an own number slot of a live frame
  pub store_alike : {r at : ℕ} {i : Instr} {t t' : State} → Shared code new s → Doing code new s r at i t t' → (f n : ℕ) (v : ℤ)
      → f < length t.now → OwnCell code s (routines_of t.now) f n → (f + n ≡ 0 → IsPosition (cell.Int v)) → (k k' : State → StepResult)
      → (Doing code new s r at i (with_cell t f n (cell.Int v)) (with_cell t' f n (cell.Int v))
      → routines_of (with_cell t f n (cell.Int v)).now ≡ routines_of t.now
      → AlikeStep code new s (k (with_cell t f n (cell.Int v))) (k' (with_cell t' f n (cell.Int v))))
      → AlikeStep code new s (store t f n v k) (store t' f n v k')
  store_alike {r} {at} {i} {t} {t'} w h f n v lf own position k k' good =
      subst (λ b. AlikeStep code new s (store t f n v k) (if_true b (λ _. k' (with_cell t' f n (cell.Int v))) (λ _. gets_stuck t')))
      (sym (number_alike_at w h f n lf own))
      (if_alike (number_at t.now f n) _ _ _ _
      (λ _. good (cell_doing w h f n (cell.Int v) lf own tt position) (written-routines t.now f n (cell.Int v)))
      (λ _. stuck_alike h.taken.rest))

  -- ---- places

  -- what a place slot of the top frame holds
  pub place_is_own : {r at : ℕ} {i : Instr} {t t' : State} → Doing code new s r at i t t' → (n l : ℕ) (p : CellPlace)
      → kind_in code r n ≡ Some (slot.Place l) → slot_of t n ≡ Some (cell.Place p) → (p.len ≡ l) × IsOwn code s t p
  place_is_own {r} {at} {i} {t} h n l p kind e =
      let has = has_slot code r t n (slot.Place l) h.here.ready kind in
      let is : slot_of t n ≡ Some has.cell = has.is in
      let same : has.cell ≡ cell.Place p = cc in
      let fits : (p.len ≡ l) × IsPlace code (routines_of t.now) (top t) p =
      subst (FitsSlot code (routines_of t.now) (top t) (slot.Place l)) same has.fits in
      let live = top_live h in
      let names = h.own.now (top t) n p live e in (
        fits.0,
        record {
          frame = fits.1.frame;
          live = omega (arith, fits.1.frame, live);
          cells = λ k lt. record { number = (fits.1.cells k lt).number; own = names k lt };
          free = λ k lt. (fits.1.cells k lt).free;
        },
      )

  -- what a link slot of the top frame holds
  pub link_leads : {r at : ℕ} {i : Instr} {t t' : State} → Doing code new s r at i t t' → (n q : ℕ) (p : CellPlace)
      → kind_in code r n ≡ Some (slot.Link q) → slot_of t n ≡ Some (cell.Place p)
      → (p.frame < length t.now) × (get_or (routines_of t.now) p.frame 0 ≡ q)
  link_leads {r} {at} {i} {t} h n q p kind e =
      let has = has_slot code r t n (slot.Link q) h.here.ready kind in
      let is : slot_of t n ≡ Some has.cell = has.is in
      let same : has.cell ≡ cell.Place p = cc in
      let fits : IsLink code (routines_of t.now) (top t) q p =
      subst (FitsSlot code (routines_of t.now) (top t) (slot.Link q)) same has.fits in
      let live = top_live h in
      (omega (arith, fits.frame, live), fits.routine)

  -- an own slot of a frame to which a link leads is read as a place
  pub place_in_alike : {r at : ℕ} {i : Instr} {t t' : State} → Shared code new s → Doing code new s r at i t t' → (f q n : ℕ)
      → f < length t.now → get_or (routines_of t.now) f 0 ≡ q → n < s.own q → n < length (kinds_at code q) → (k k' : CellPlace → StepResult)
      → ((p : CellPlace) → AlikeStep code new s (k p) (k' p))
      → AlikeStep code new s (as_place (slot_in t f n) t k) (as_place (slot_in t' f n) t' k')
  place_in_alike {r} {at} {i} {t} {t'} w h f q n lf is own ln k k' good =
      subst (λ o. AlikeStep code new s (as_place (slot_in t f n) t k) (as_place o t' k'))
      (sym (own_alike w h f n lf (subst (λ x. n < s.own x) (sym is) own) (subst (λ x. n < length (kinds_at code x)) (sym is) ln)))
      (as_place_alike h.taken.rest (slot_in t f n) k k' (λ p _. good p))

  -- ---- the input position

  -- a cell is read as the input position
  as_position_alike : {t t' : State} → AlikeRest code new s t t' → (o : Option Cell) (k k' : ℕ → StepResult)
      → ((n : ℕ) → AlikeStep code new s (k n) (k' n)) → AlikeStep code new s (as_position o t k) (as_position o t' k')
  as_position_alike h (Some (cell.Int (pos n))) k k' good = good n
  as_position_alike h (Some (cell.Int (negsuc n))) k k' good = stuck_alike h
  as_position_alike h (Some cell.Unknown) k k' good = stuck_alike h
  as_position_alike h (Some cell.Unset) k k' good = stuck_alike h
  as_position_alike h (Some (cell.Place p)) k k' good = stuck_alike h
  as_position_alike h (Some (cell.Mark m)) k k' good = stuck_alike h
  as_position_alike h None k k' good = stuck_alike h

  -- it is an own number slot of frame 0
  pub position_own : {r at : ℕ} {i : Instr} {t t' : State} → Shared code new s → Doing code new s r at i t t'
      → OwnCell code s (routines_of t.now) 0 0
  position_own {r} {at} {i} {t} w h =
      let main : get_or (routines_of t.now) 0 0 ≡ 0 = first_is code r t h.here.ready in
      let some : 0 < s.own 0 = (w.shares.routines 0 w.sound.table.some).some in
      record {
        number = ap (λ q. slice_get (kinds_at code q) 0) main ∙ h.here.first;
        own = subst (λ q. 0 < s.own q) (sym main) some;
      }

  -- it is read
  pub position_alike : {r at : ℕ} {i : Instr} {t t' : State} → Shared code new s → Doing code new s r at i t t' → (k k' : ℕ → StepResult)
      → ((n : ℕ) → AlikeStep code new s (k n) (k' n)) → AlikeStep code new s (position t k) (position t' k')
  position_alike {r} {at} {i} {t} {t'} w h k k' good =
      let own = position_own w h in
      let same : slot_in t' 0 0 ≡ slot_in t 0 0 =
      own_alike w h 0 0 h.here.ready.frames.some own.own (own_there code s (routines_of t.now) 0 0 own) in
      subst (λ o. AlikeStep code new s (position t k) (as_position o t' k')) (sym same)
      (as_position_alike h.taken.rest (slot_in t 0 0) k k' good)
