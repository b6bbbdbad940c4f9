-- What each part of a phrase keeps, and how one part follows another.
use Rattle.std.proofs.Common.{◌≡◌, ℕ, suc, ◌+◌, ◌<◌, ◌≤◌, Bool, true, false, List, [], ◌++◌, length, get_or, Some, None, Option, refl, sym}
use Rattle.std.proofs.Common.{◌⊎◌, inl, inr, ◌-◌}
use Rattle.std.proofs.Common.{ap, ◌∙◌, subst, arith, ℤ, pos, append-nil}
use Rattle.std.specs.Prelude.{slice_get}
use Rattle.std.proofs.lemmas.Bool.{cases_lt}
use Rattle.std.proofs.lemmas.Option.{slice_get-get_or, slice_get_within, get_or_from_slice_get}
use Rattle.alma_base.specs.declared.fault.RunFault.{RunFault}
use Rattle.alma_base.specs.declared.number.Range.{Range}
use Rattle.alma_base.specs.Numbers.{is_integer}
use Rattle.alma_code.specs.declared.cell.Cell.{Cell}
use Rattle.alma_code.specs.declared.cell.Cell.TheVariants as cell
use Rattle.alma_code.specs.declared.cell.CellPlace.{CellPlace}
use Rattle.alma_code.specs.declared.cell.SlotKind.{SlotKind}
use Rattle.alma_code.specs.declared.cell.SlotKind.TheVariants as slot
use Rattle.alma_code.specs.declared.instr.Instr.TheVariants as I
use Rattle.alma_code.specs.Picture.{PlainFrame, PlainEntry, last_frame}
use Rattle.alma_code.specs.Picture as picture
use Rattle.alma_code.specs.Plain.{PlainCode, kinds_at}
use Rattle.alma_code.specs.Machine.{State}
use Rattle.alma_ir.specs.Tree.{Program, routine_at}
use Rattle.alma_mean.specs.Store.{Store, Place, Unknown, Number, At, top_frame, cell_at}
use Rattle.alma_mean.specs.Store as store
use Rattle.alma_mean.specs.Events.{Events, Flow, Go, Return, NoYield, Fail, Fault, one, join, bind, node}
use Rattle.alma_lower_implements.proofs.Goes.{Silently, IsGoing, IsFailing, Goes, before, weaker, credited, join_goes, bind_goes, node_goes}
use Rattle.alma_lower_implements.proofs.Goes.{one_goes, no_step}
use Rattle.alma_lower_implements.proofs.Frames.{shift, shift_in, own_end, SameContent, SameFrame, StandFor, Fits, AreNumbers, SamePlace}
use Rattle.alma_lower_implements.proofs.Frames.{IsAt}
use Rattle.alma_lower_implements.proofs.FrameLemmas.{top_same, fits_self, fits_on, fits_less, fits_temp, frame_routine, numbers_kept}
use Rattle.alma_lower_implements.proofs.FrameLemmas.{place_kept, holds_written}
use Rattle.alma_lower_implements.proofs.ExprRows.{kind_there, within_frame, slots_behind_routine, some_frames}
use Rattle.alma_lower_implements.proofs.Steps.{top_written, Holds, HasKind, Writes, Faults}
use Rattle.alma_lower_implements.proofs.ChoiceSteps.{GoesOn}
use Rattle.alma_lower_implements.proofs.SeqRow.{runs_less}
use Rattle.alma_lower_implements.proofs.LaidOver.{put_apart}
use Rattle.alma_lower_implements.proofs.Leaving.{PlacesBelow}
use Rattle.alma_lower_implements.proofs.Ways.{Ways, Leaves, Runs, Later, then_up_to}
use Rattle.alma_lower_templates.specs.LineInstr.{LineInstr}
use Rattle.alma_lower_templates.specs.Stands.{Stands}
use Rattle.alma_lower_templates.proofs.Given.{Given, given_after}

module _ (p : Program) (code : PlainCode) (input : List ℕ) where
  -- ---- what is kept

  -- the input position is a number at or above 0
  pub record Positioned (v : Store) : Type 0 where
    pub at : ℕ
    pub is : cell_at v 0 0 ≡ Number (pos at)

  -- a write to another cell leaves it
  pub put_position : (v : Store) (f i : ℕ) (c : store.Cell) → (f ≡ 0 → 0 < i) → Positioned v → Positioned (store.put v f i c)
  put_position v f i c free h = record {
    at = h.at;
    is =
        put_apart v f i 0 0 c (λ same_frame same_slot. absurd (omega (arith, free same_frame, same_slot))) ∙ h.is;
  }

  -- of the frames of a store, beside that those of the machine stand for them
  pub record Sound (v : Store) (now : List PlainFrame) : Type 0 where
    pub position : Positioned v
    pub main : (get_or v 0 store.no_frame).routine ≡ 0
    pub routines : (k : ℕ) → k < length v → (get_or v k store.no_frame).routine < length p.routines
    pub below : PlacesBelow v
    pub live : (k i : ℕ) (q : Place) → k < length v → cell_at v k i ≡ At q → AreNumbers p code v now q
    pub sized : (k i l : ℕ) (q : Place) → k < length v
        → slice_get (kinds_at code (get_or v k store.no_frame).routine) (shift_in p v k + i) ≡ Some (slot.Place l) → cell_at v k i ≡ At q
        → q.size ≡ l
    pub given : Given p now

  -- frames that stand for a store are sound, where each parameter holds its place
  pub sound_of : (v : Store) (now : List PlainFrame) → StandFor p code v now → Positioned v → Given p now → Sound v now
  sound_of v now h position given = record {
    position = position;
    given = given;
    main = h.main;
    routines = h.routines;
    below = λ k i q lt e. (h.places k i q lt e).below;
    live = λ k i q lt e. (h.places k i q lt e).numbers;
    sized = λ k i l q lt kind e.
        let same = h.frames k lt in
        let kinds : (get_or now k picture.no_frame).kinds ≡ kinds_at code (get_or v k store.no_frame).routine = same.kinds
        ∙ ap (kinds_at code) (sym same.routine) in
        let there : get_or (get_or now k picture.no_frame).kinds (shift_in p v k + i) slot.Mark ≡ slot.Place l =
        ap (λ ks. get_or ks (shift_in p v k + i) slot.Mark) kinds
        ∙ get_or_from_slice_get (kinds_at code (get_or v k store.no_frame).routine) (shift_in p v k + i) (slot.Place l) slot.Mark
        kind in
        let both : slot.Place q.size ≡ slot.Place l = sym (h.places k i q lt e).size ∙ there in
        cc;
  }

  -- where a phrase of the routine r begins
  pub record Begins (r : ℕ) (v : Store) (now : List PlainFrame) : Type 0 where
    pub stand : StandFor p code v now
    pub routine : (top_frame v).routine ≡ r
    pub sound : Sound v now

  -- and where it leaves off; `lo` is the first slot of the phrase
  pub record Left (lo r : ℕ) (before : List PlainFrame) (v : Store) (now : List PlainFrame) : Type 0 where
    pub fits : Fits p code lo before v now
    pub routine : (top_frame v).routine ≡ r
    pub sound : Sound v now

  pub begins : (lo r : ℕ) (before : List PlainFrame) (v : Store) (now : List PlainFrame) → Left lo r before v now → Begins r v now
  begins lo r before v now h = record { stand = h.fits.stand; routine = h.routine; sound = h.sound }

  -- places that a store holds are those that it held
  abbrev pub NoNewPlaces : Store → Store → Type 0
  NoNewPlaces v w = (k i : ℕ) (q : Place) → cell_at w k i ≡ At q → cell_at v k i ≡ At q

  pub sound_after : (lo : ℕ) (v w : Store) (now later : List PlainFrame) → StandFor p code v now → Fits p code lo now w later
      → NoNewPlaces v w → (Positioned v → Positioned w) → Sound v now → Sound w later
  sound_after lo v w now later stand fit old kept h = record {
    position = kept h.position;
    given = given_after p code lo v w now later stand fit h.given;
    main = routine 0 stand.some ∙ h.main;
    routines = λ k lt. subst (λ x. x < length p.routines) (sym (routine k (omega (arith, lt, long))))
        (h.routines k (omega (arith, lt, long)));
    below = λ k i q lt e. h.below k i q (omega (arith, lt, long)) (old k i q e);
    live = λ k i q lt e. numbers_kept p code lo q v w now later stand fit (h.live k i q (omega (arith, lt, long)) (old k i q e));
    sized = λ k i l q lt kind e. h.sized k i l q (omega (arith, lt, long))
        (subst (λ x. slice_get (kinds_at code x) (shift p x + i) ≡ Some (slot.Place l)) (routine k (omega (arith, lt, long))) kind)
        (old k i q e);
  }
    where
      long : length w ≡ length v
      long = sym fit.stand.count ∙ fit.same_count ∙ stand.count

      routine : (k : ℕ) → k < length v → (get_or w k store.no_frame).routine ≡ (get_or v k store.no_frame).routine
      routine k lt = (fit.stand.frames k (omega (arith, lt, long))).routine ∙ frame_routine p code lo k v w now later lt stand fit
          ∙ sym (stand.frames k lt).routine

  pub left_self : (lo r : ℕ) (v : Store) (now : List PlainFrame) → Begins r v now → Left lo r now v now
  left_self lo r v now b = record { fits = fits_self p code lo v now b.stand; routine = b.routine; sound = b.sound }

  pub left_on : (lo la r : ℕ) (before : List PlainFrame) (v w : Store) (now later : List PlainFrame) → lo ≤ la → Left lo r before v now
      → Left la r now w later → Left lo r before w later
  left_on lo la r before v w now later le a b =
      record { fits = fits_on p code lo la v w before now later le a.fits b.fits; routine = b.routine; sound = b.sound }

  pub left_less : (lo la r : ℕ) (before : List PlainFrame) (v : Store) (now : List PlainFrame) → lo ≤ la → Left la r before v now
      → Left lo r before v now
  left_less lo la r before v now le h = record {
    fits = fits_less p code lo la v before now le h.fits;
    routine = h.routine;
    sound =
        h.sound;
  }

  -- a write to a slot of the phrase
  pub left_temp : (lo r n : ℕ) (v : Store) (now : List PlainFrame) (c : Cell) → lo ≤ n → own_end p r ≤ n → Begins r v now
      → Left lo r now v (top_written now n c)
  left_temp lo r n v now c le behind b =
      let fit : Fits p code lo now v (top_written now n c) =
      fits_temp p code lo v now n c le (slots_behind_routine p code input v now r b.stand b.routine n behind) b.stand in
      record {
        fits = fit;
        routine = b.routine;
        sound =
            sound_after lo v v now (top_written now n c) b.stand fit (λ k i q e. e) (λ x. x) b.sound;
      }

  pub holds_temp : (r n : ℕ) (v : Store) (now : List PlainFrame) (c : Cell) (k : SlotKind) → slice_get (kinds_at code r) n ≡ Some k
      → Begins r v now → Holds (top_written now n c) n c
  holds_temp r n v now c k kind b = holds_written now n c (some_frames p code input v now r b.stand b.routine)
      (within_frame p code input v now r b.stand b.routine n k kind)

  pub has_kind : (r n : ℕ) (v : Store) (now : List PlainFrame) (k : SlotKind) → slice_get (kinds_at code r) n ≡ Some k → Begins r v now
      → HasKind now n k
  has_kind r n v now k kind b = kind_there p code input v now r b.stand b.routine n k kind

  -- a slot of the phrases before keeps what it holds
  pub holds_after : (lo r n : ℕ) (c : Cell) (v w : Store) (now later : List PlainFrame) → Begins r v now → own_end p r ≤ n → n < lo
      → Left lo r now w later → Holds now n c → Holds later n c
  holds_after lo r n c v w now later b behind lt left h =
      let same = top_same p code v now b.stand in
      let is : own_end p (last_frame now).routine ≡ own_end p r = ap (own_end p) (sym same.routine ∙ b.routine) in
      let within : n < length (last_frame now).cells = slice_get_within (last_frame now).cells n c h in
      let there : n < length (last_frame later).cells = omega (arith, within, left.fits.top.long) in
      slice_get-get_or (last_frame later).cells n cell.Unset there
      ∙ ap Some (left.fits.top.cells n (omega (arith, is, behind)) lt ∙ get_or_from_slice_get (last_frame now).cells n c cell.Unset h)

  -- ---- values and places in slots

  pub record IsValue (slot : ℕ) (n : ℤ) (now : List PlainFrame) : Type 0 where
    pub holds : Holds now slot (cell.Int n)
    pub integer : is_integer n ≡ true

  pub record IsPlace (slot size : ℕ) (v : Store) (q : Place) (now : List PlainFrame) : Type 0 where
    pub numbers : AreNumbers p code v now q
    pub sized : q.size ≡ size
    pub place : CellPlace
    pub same : SamePlace p v q place
    pub holds : Holds now slot (cell.Place place)

  pub value_after : (lo r n : ℕ) (x : ℤ) (v w : Store) (now later : List PlainFrame) → Begins r v now → own_end p r ≤ n → n < lo
      → Left lo r now w later → IsValue n x now → IsValue n x later
  value_after lo r n x v w now later b behind lt left h =
      record { holds = holds_after lo r n (cell.Int x) v w now later b behind lt left h.holds; integer = h.integer }

  -- a slot of the routine that holds a place is for one
  content_place : (v : Store) (k : SlotKind) (a : store.Cell) (c : CellPlace) → SameContent p v k a (cell.Place c)
      → (l : ℕ) × (k ≡ slot.Place l)
  content_place v (slot.Place l) a c h = (l, refl)
  content_place v slot.Number Unknown c h = absurd h
  content_place v slot.Number (Number x) c h = absurd h
  content_place v slot.Number (At q) c h = absurd h
  content_place v slot.Mark a c h = absurd h
  content_place v (slot.Link s) a c h = absurd h

  -- each slot before those of a phrase keeps the place that it holds: the link, those of the routine, those of the phrases before
  kept_place : (lo r n : ℕ) (c : CellPlace) (v w : Store) (now later : List PlainFrame) → Begins r v now → own_end p r ≤ lo → n < lo
      → Left lo r now w later → Holds now n (cell.Place c) → Holds later n (cell.Place c)
  kept_place lo r n c v w now later b behind lt left h = by (cases_lt n (shift p r)) (cases_lt n (own_end p r))
    where
      same : SameFrame p code v (top_frame v) (last_frame now)
      same = top_same p code v now b.stand

      routine : (last_frame now).routine ≡ r
      routine = sym same.routine ∙ b.routine

      there : get_or (last_frame now).cells n cell.Unset ≡ cell.Place c
      there = get_or_from_slice_get (last_frame now).cells n (cell.Place c) cell.Unset h

      holds : get_or (last_frame later).cells n cell.Unset ≡ get_or (last_frame now).cells n cell.Unset → Holds later n (cell.Place c)
      holds e =
          let within : n < length (last_frame now).cells = slice_get_within (last_frame now).cells n (cell.Place c) h in
          slice_get-get_or (last_frame later).cells n cell.Unset (omega (arith, within, left.fits.top.long)) ∙ ap Some (e ∙ there)

      own : (i : ℕ) → shift p (top_frame v).routine + i ≡ n → i < length (top_frame v).cells → Holds later n (cell.Place c)
      own i e small =
          let content : SameContent p v (get_or (last_frame now).kinds n slot.Mark) (get_or (top_frame v).cells i Unknown)
          (cell.Place c) =
          subst (SameContent p v (get_or (last_frame now).kinds n slot.Mark) (get_or (top_frame v).cells i Unknown)) there
          (subst (λ m. SameContent p v (get_or (last_frame now).kinds m slot.Mark) (get_or (top_frame v).cells i Unknown)
          (get_or (last_frame now).cells m cell.Unset)) e (same.cells i small)) in
          let kind = content_place v (get_or (last_frame now).kinds n slot.Mark) (get_or (top_frame v).cells i Unknown) c content in
          holds (left.fits.top.places n kind.0 kind.1
          (omega (arith, e, small, same.slots, ap (own_end p) same.routine)))

      by : (n < shift p r) ⊎ (shift p r ≤ n) → (n < own_end p r) ⊎ (own_end p r ≤ n) → Holds later n (cell.Place c)
      by (inl low) z = holds (left.fits.top.link n (omega (arith, low, ap (shift p) routine)))
      by (inr high) (inr past) = holds_after lo r n (cell.Place c) v w now later b past lt left h
      by (inr high) (inl small) =
          own (n - shift p r) (omega (arith, high, ap (shift p) b.routine))
          (omega (arith, high, small, same.slots, ap (λ x. (routine_at p x).slots) b.routine))

  pub place_after : (lo r n size : ℕ) (q : Place) (v w : Store) (now later : List PlainFrame) → Begins r v now → own_end p r ≤ lo → n < lo
      → Left lo r now w later → IsPlace n size v q now → IsPlace n size w q later
  place_after lo r n size q v w now later b behind lt left h = record {
    numbers = numbers_kept p code lo q v w now later b.stand left.fits h.numbers;
    sized = h.sized;
    place = h.place;
    same = place_kept p code lo q h.place v w now later h.numbers.frame b.stand left.fits h.same;
    holds = kept_place lo r n h.place v w now later b behind lt left h.holds;
  }

  -- ---- where phrases leave off

  -- what has no RETURN inside of it
  abbrev pub leaving : {A : Type 0} → (lo r : ℕ) → List PlainFrame → (Store → A → List PlainFrame → Type 0) → Ways A
  leaving lo r before yields = record {
    goes = λ v y now. Left lo r before v now × yields v y now;
    returns = λ v n at now. ⊥;
  }

  -- before the Return of the routine, or before a ReturnValue of the number
  abbrev pub ReturnsAt : Option ℤ → (at : ℕ) → List PlainFrame → Type 0
  ReturnsAt None at now = slice_get code.instrs at ≡ Some I.Return
  ReturnsAt (Some n) at now = (a : ℕ) × (slice_get code.instrs at ≡ Some (I.ReturnValue a)) × Holds now a (cell.Int n)

  -- a number of INTEGER where the routine has a result, and none where it has none
  abbrev pub ResultIs : Option Range → Option ℤ → Type 0
  ResultIs None None = Unit {0}
  ResultIs None (Some n) = ⊥
  ResultIs (Some range) None = ⊥
  ResultIs (Some range) (Some n) = is_integer n ≡ true

  pub record ReturnsFrom (r : ℕ) (n : Option ℤ) (at : ℕ) (now : List PlainFrame) : Type 0 where
    pub there : ReturnsAt n at now
    pub result : ResultIs (routine_at p r).result n

  -- statements; `may` says whether a RETURN may stand inside
  abbrev pub ending : (may : Bool) → (lo r : ℕ) → List PlainFrame → Ways NoYield
  ending may lo r before = record {
    goes = λ v y now. Left lo r before v now;
    returns = λ v n at now. (may ≡ true) × Left (own_end p r) r before v now × ReturnsFrom r n at now;
  }

  abbrev pub Nothing : Store → NoYield → List PlainFrame → Type 0
  Nothing v y now = Unit {0}

  abbrev pub ValueIn : (slot : ℕ) → Store → ℤ → List PlainFrame → Type 0
  ValueIn slot v n now = IsValue slot n now

  abbrev pub PlaceIn : (slot size : ℕ) → Store → Place → List PlainFrame → Type 0
  PlaceIn slot size v q now = IsPlace slot size v q now

  -- how statements of the routine r run that stand somewhere; `f` is their events, `q` their debt
  abbrev pub RunsFor : (may : Bool) → (r line at lo : ℕ) → List LineInstr → (Store → Events NoYield) → (q : ℕ) → Type 0
  RunsFor may r line at lo made f q = Stands code at made → (v : Store) (now : List PlainFrame) → Begins r v now
      → Runs code input line at (at + length made) now (ending may lo r now) (f v) q

  -- a node leaves 8 steps, whatever it was given, and pays for up to 8 steps before it
  abbrev pub NodeRuns : {A : Type 0} → (line at exit : ℕ) → List PlainFrame → Ways A → Events A → (q : ℕ) → Type 0
  NodeRuns line at exit now w e q = (j : ℕ) → j ≤ 8 → (held : List PlainEntry) (s u : State) → Silently code input j s u
      → IsAt at now held u → Goes code input line 8 0 (Leaves exit w) held e s 0 q

  pub node_here : {A : Type 0} (line at exit : ℕ) (now : List PlainFrame) (w : Ways A) (e : Events A) (q : ℕ)
      → NodeRuns line at exit now w e q
      → (held : List PlainEntry) (s : State) → IsAt at now held s → Goes code input line 8 0 (Leaves exit w) held e s 0 q
  node_here line at exit now w e q h held s is = h 0 (omega arith) held s s (no_step code input s) is

  -- and how one runs that stands somewhere
  abbrev pub NodeFor : {A : Type 0} → (r line at lo : ℕ) → List LineInstr → (Store → Events A)
      → (yields : Store → A → List PlainFrame → Type 0)
      → (q : ℕ) → Type 0
  NodeFor r line at lo made f yields q = Stands code at made → (v : Store) (now : List PlainFrame) → Begins r v now
      → NodeRuns line at (at + length made) now (leaving lo r now yields) (f v) q

  pub as_runs : {A : Type 0} (line at exit : ℕ) (now : List PlainFrame) (w : Ways A) (e : Events A) (q : ℕ)
      → NodeRuns line at exit now w e q → Runs code input line at exit now w e q
  as_runs line at exit now w e q h c le held s is =
      weaker code input line c 0 (Leaves exit w) held e s c 0 q q (omega arith) (omega arith)
      (credited code input line 8 c 0 0 (Leaves exit w) held e s 0 q (omega arith) (node_here line at exit now w e q h held s is))

  -- ---- parts inside of a node, with so many steps left

  abbrev pub From : {A : Type 0} → (line c at exit : ℕ) → List PlainFrame → Ways A → Events A → (q : ℕ) → Type 0
  From line c at exit now w e q = (held : List PlainEntry) (s : State) → IsAt at now held s
      → Goes code input line 0 24 (Leaves exit w) held e s c q

  pub from_more : {A : Type 0} (line c d at exit : ℕ) (now : List PlainFrame) (w : Ways A) (e : Events A) (q : ℕ) → c ≤ d
      → From line c at exit now w e q → From line d at exit now w e q
  from_more line c d at exit now w e q le h held s is =
      weaker code input line 0 24 (Leaves exit w) held e s d c q q le (omega arith) (h held s is)

  -- a node
  pub node_runs : {A : Type 0} (line c at exit : ℕ) (now : List PlainFrame) (w : Ways A) (e : Events A) (q : ℕ) → c ≤ 24
      → From line c at exit now w e q → NodeRuns line at exit now w (node e) q
  node_runs line c at exit now w e q le h j few held s u silently is =
      node_goes code input line 0 8 24 (Leaves exit w) held e s 0 q (omega arith)
      (before code input line 0 24 (Leaves exit w) held e s u j 32 c q q silently (omega (arith, few, le)) (omega arith) (h held u is))

  -- a weaker way out
  pub from_less : {A : Type 0} (line c at exit : ℕ) (now : List PlainFrame) (w w2 : Ways A) (e : Events A) (q : ℕ)
      → ((v : Store) (y : A) (t : List PlainFrame) → w.goes v y t → w2.goes v y t)
      → ((v : Store) (n : Option ℤ) (a : ℕ) (t : List PlainFrame) → w.returns v n a t → w2.returns v n a t)
      → From line c at exit now w e q → From line c at exit now w2 e q
  from_less line c at exit now w w2 e q goes returns h held s is =
      then_up_to code input line 0 0 24 0 (Leaves exit w) (Leaves exit w2) held e s c q (omega arith) less (h held s is)
    where
      less : (v : Store) (f : Flow _) (t : State) (base : List PlainEntry) → IsGoing base t → Leaves exit w v f t → (i : ℕ) × (u : State)
          × (i ≤ 0) × Silently code input i t u × IsGoing base u × Leaves exit w2 v f u
      less v (Go y) t base going left = (0, t, omega arith, no_step code input t, going, (left.0, goes v y t.now left.1))
      less v (Return n) t base going left = (0, t, omega arith, no_step code input t, going, returns v n t.at t.now left)

  -- what is left in words of the frames of a part is left in words of those of the phrase
  pub on_from : {A : Type 0} (line c at exit lo la r : ℕ) (v : Store) (now t : List PlainFrame)
      (yields : Store → A → List PlainFrame → Type 0) (e : Events A) (q : ℕ) → lo ≤ la → own_end p r ≤ lo → Left lo r now v t
      → From line c at exit t (leaving la r t yields) e q → From line c at exit t (leaving lo r now yields) e q
  on_from line c at exit lo la r v now t yields e q le own left =
      from_less line c at exit t (leaving la r t yields) (leaving lo r now yields) e q
      (λ x y u h. (left_on lo la r now v x t u le left h.0, h.1))
      (λ x n a u h. h)

  pub on_runs : {A : Type 0} (line at exit lo la r : ℕ) (v : Store) (now t : List PlainFrame)
      (yields : Store → A → List PlainFrame → Type 0) (e : Events A) (q : ℕ) → lo ≤ la → own_end p r ≤ lo → Left lo r now v t
      → Runs code input line at exit t (leaving la r t yields) e q → Runs code input line at exit t (leaving lo r now yields) e q
  on_runs line at exit lo la r v now t yields e q le own left =
      runs_less code input line at exit t (leaving la r t yields) (leaving lo r now yields) e q
      (λ x y u h. (left_on lo la r now v x t u le left h.0, h.1))
      (λ x n a u h. h)

  -- ways out of a phrase that hold of the frames that it found where they hold of those that a part of it left
  pub record Carries {B : Type 0} (lo r : ℕ) (w : List PlainFrame → Ways B) : Type 0 where
    pub goes : (v : Store) (now t : List PlainFrame) → Left lo r now v t → (x : Store) (y : B) (u : List PlainFrame) → (w t).goes x y u
        → (w now).goes x y u
    pub returns : (v : Store) (now t : List PlainFrame) → Left lo r now v t → (x : Store) (n : Option ℤ) (a : ℕ) (u : List PlainFrame)
        → (w t).returns x n a u → (w now).returns x n a u

  pub leaving_carries : {B : Type 0} (lo r : ℕ) (yields : Store → B → List PlainFrame → Type 0) → Carries lo r (λ t. leaving lo r t yields)
  leaving_carries lo r yields = record {
    goes = λ v now t left x y u h. (left_on lo lo r now v x t u (omega arith) left h.0, h.1);
    returns =
        λ v now t left x n a u h. h;
  }

  pub carried : {B : Type 0} (line c at exit lo r : ℕ) (v : Store) (now t : List PlainFrame) (w : List PlainFrame → Ways B) (e : Events B)
      (q : ℕ) → Carries lo r w → Left lo r now v t → From line c at exit t (w t) e q → From line c at exit t (w now) e q
  carried line c at exit lo r v now t w e q carries left =
      from_less line c at exit t (w t) (w now) e q (carries.goes v now t left) (carries.returns v now t left)

  -- a part that is a node, and what is behind it
  pub then_ways : {A B : Type 0} (line at m exit lo la r : ℕ) (now : List PlainFrame) (ya : Store → A → List PlainFrame → Type 0)
      (w : List PlainFrame → Ways B) (e : Events A) (k : Store → A → Events B) (q : ℕ)
      → lo ≤ la → Carries lo r w → NodeRuns line at m now (leaving la r now ya) e q
      → ((v : Store) (y : A) (t : List PlainFrame) → Left la r now v t → ya v y t → From line 8 m exit t (w t) (k v y) q)
      → From line 0 at exit now (w now) (bind e k) q
  then_ways line at m exit lo la r now ya w e k q le carries runs later held s is =
      bind_goes code input line 8 0 24 (Leaves m (leaving la r now ya)) (Leaves exit (w now)) held e k s 0 q 8 (omega arith) (omega arith)
      (node_here line at m now (leaving la r now ya) e q runs held s is)
      (λ v y t base going left.
      carried line 8 m exit lo r v now t.now w (k v y) q carries (left_less lo la r now v t.now le left.1.0)
      (later v y t.now left.1.0 left.1.1) base t
      (record { mode = going.mode; here = left.0; frames = refl; entries = going.entries }))
      (λ v n t left. absurd left)

  -- one that leaves the slots before lo of the frames that it finds
  pub then_from : {A B : Type 0} (line at m exit lo la r : ℕ) (now : List PlainFrame) (ya : Store → A → List PlainFrame → Type 0)
      (yb : Store → B → List PlainFrame → Type 0) (e : Events A) (k : Store → A → Events B) (q : ℕ)
      → lo ≤ la → own_end p r ≤ lo → NodeRuns line at m now (leaving la r now ya) e q
      → ((v : Store) (y : A) (t : List PlainFrame) → Left la r now v t → ya v y t → From line 8 m exit t (leaving lo r t yb) (k v y) q)
      → From line 0 at exit now (leaving lo r now yb) (bind e k) q
  then_from line at m exit lo la r now ya yb e k q le own runs later =
      then_ways line at m exit lo la r now ya (λ t. leaving lo r t yb) e k q le (leaving_carries lo r yb) runs later

  -- ---- own steps

  -- one step of the machine
  abbrev pub Takes : (at to_at : ℕ) → (now t : List PlainFrame) → Type 0
  Takes at to_at now t = (held : List PlainEntry) (s : State) → IsAt at now held s → GoesOn code input to_at t held s

  pub writes_take : (at n : ℕ) (now : List PlainFrame) (c : Cell)
      → ((held : List PlainEntry) (s : State) → IsAt at now held s → Writes code input at now held s n c)
      → Takes at (at + 1) now (top_written now n c)
  writes_take at n now c w held s is = let z = w held s is in record { to = z.to; silently = z.silently; is = z.is }

  pub step_ways : {A : Type 0} (line c at m exit lo r : ℕ) (v : Store) (now t : List PlainFrame) (w : List PlainFrame → Ways A)
      (e : Events A) (q : ℕ) → Carries lo r w → Takes at m now t → Left lo r now v t
      → From line c m exit t (w t) e q → From line (suc c) at exit now (w now) e q
  step_ways line c at m exit lo r v now t w e q carries takes left h held s is =
      let z = takes held s is in
      before code input line 0 24 (Leaves exit (w now)) held e s z.to 1 (suc c) c q q z.silently (omega arith) (omega arith)
      (carried line c m exit lo r v now t w e q carries left h held z.to z.is)

  pub step_from : {A : Type 0} (line c at m exit lo r : ℕ) (v : Store) (now t : List PlainFrame)
      (yields : Store → A → List PlainFrame → Type 0) (e : Events A) (q : ℕ) → own_end p r ≤ lo → Takes at m now t → Left lo r now v t
      → From line c m exit t (leaving lo r t yields) e q → From line (suc c) at exit now (leaving lo r now yields) e q
  step_from line c at m exit lo r v now t yields e q own takes left h =
      step_ways line c at m exit lo r v now t (λ x. leaving lo r x yields) e q (leaving_carries lo r yields) takes left h

  -- the end of a phrase
  pub ends_here : {A : Type 0} (line c at lo r : ℕ) (v : Store) (now : List PlainFrame) (yields : Store → A → List PlainFrame → Type 0)
      (y : A) (q : ℕ) → Begins r v now → yields v y now → From line c at at now (leaving lo r now yields) (one v y) q
  ends_here line c at lo r v now yields y q b h held s is =
      one_goes code input line 0 24 (Leaves at (leaving lo r now yields)) held v y s c q (omega arith)
      (record { mode = is.mode; entries = is.entries })
      (is.here, subst (λ t. Left lo r now v t × yields v y t) (sym is.frames) (left_self lo r v now b, h))

  pub faults_here : {A : Type 0} (line c at exit : ℕ) (now : List PlainFrame) (w : Ways A) (f : RunFault) (q : ℕ)
      → ((held : List PlainEntry) (s : State) → IsAt at now held s → Faults code input line s f)
      → From line (suc c) at exit now w (Fault f 0) q
  faults_here line c at exit now w f q h held s is = let z = h held s is in (1, z.to, omega arith, z.silently, z.is, z.on_line)

  pub fails_here : {A : Type 0} (line c at exit : ℕ) (now : List PlainFrame) (w : Ways A) (q : ℕ)
      → ((held : List PlainEntry) (s : State) → IsAt at now held s → (t : State) × Silently code input 1 s t × IsFailing held t)
      → From line (suc c) at exit now w Fail q
  fails_here line c at exit now w q h held s is = let z = h held s is in (1, z.0, omega arith, z.1, z.2)

  -- the events of one alternative, with nothing behind them
  pub alone_from : {A : Type 0} (line c at exit : ℕ) (now : List PlainFrame) (w : Ways A) (e : Events A) (q : ℕ)
      → From line c at exit now w e q → From line c at exit now w (join e Fail) q
  alone_from line c at exit now w e q h held s is =
      join_goes code input line 0 24 (Leaves exit w) held [] e Fail s c q
      (h (held ++ []) s (record { mode = is.mode; here = is.here; frames = is.frames; entries = is.entries ∙ sym (append-nil held) }))
      (λ base2 x like failing. (
        0,
        x,
        omega arith,
        no_step code input x,
        record { mode = failing.mode; entries = failing.entries ∙ append-nil base2 },
      ))

  -- a value goes into a slot by one step, and the phrase ends
  pub value_ends : (line c at lo r : ℕ) (v : Store) (now : List PlainFrame) (x : ℤ) (q : ℕ) → own_end p r ≤ lo
      → slice_get (kinds_at code r) lo ≡ Some slot.Number → is_integer x ≡ true → Begins r v now
      → ((held : List PlainEntry) (s : State) → IsAt at now held s → Writes code input at now held s lo (cell.Int x))
      → From line (suc c) at (at + 1) now (leaving lo r now (ValueIn lo)) (one v x) q
  value_ends line c at lo r v now x q own kind integer b w =
      let left = left_temp lo r lo v now (cell.Int x) (omega arith) own b in
      step_from line c at (at + 1) (at + 1) lo r v now (top_written now lo (cell.Int x)) (ValueIn lo) (one v x) q own
      (writes_take at lo now (cell.Int x) w) left
      (ends_here line c (at + 1) lo r v (top_written now lo (cell.Int x)) (ValueIn lo) x q
      (begins lo r now v (top_written now lo (cell.Int x)) left)
      (record { holds = holds_temp r lo v now (cell.Int x) slot.Number kind b; integer = integer }))

  -- a value goes into a slot by one step, and the phrase goes on
  pub value_then : {B : Type 0} (line c at exit lo r : ℕ) (v : Store) (now : List PlainFrame) (x : ℤ) (w : List PlainFrame → Ways B)
      (e : Events B) (q : ℕ) → own_end p r ≤ lo → slice_get (kinds_at code r) lo ≡ Some slot.Number → is_integer x ≡ true → Begins r v now
      → Carries lo r w
      → ((held : List PlainEntry) (s : State) → IsAt at now held s → Writes code input at now held s lo (cell.Int x))
      → ((t : List PlainFrame) → Left lo r now v t → IsValue lo x t → From line c (at + 1) exit t (w t) e q)
      → From line (suc c) at exit now (w now) e q
  value_then line c at exit lo r v now x w e q own kind integer b carries writes later =
      let left = left_temp lo r lo v now (cell.Int x) (omega arith) own b in
      step_ways line c at (at + 1) exit lo r v now (top_written now lo (cell.Int x)) w e q carries
      (writes_take at lo now (cell.Int x) writes) left
      (later (top_written now lo (cell.Int x)) left
      (record { holds = holds_temp r lo v now (cell.Int x) slot.Number kind b; integer = integer }))

  pub value_goes_on : {B : Type 0} (line c at exit lo r : ℕ) (v : Store) (now : List PlainFrame) (x : ℤ)
      (yields : Store → B → List PlainFrame → Type 0) (e : Events B) (q : ℕ) → own_end p r ≤ lo
      → slice_get (kinds_at code r) lo ≡ Some slot.Number → is_integer x ≡ true → Begins r v now
      → ((held : List PlainEntry) (s : State) → IsAt at now held s → Writes code input at now held s lo (cell.Int x))
      → ((t : List PlainFrame) → Left lo r now v t → IsValue lo x t → From line c (at + 1) exit t (leaving lo r t yields) e q)
      → From line (suc c) at exit now (leaving lo r now yields) e q
  value_goes_on line c at exit lo r v now x yields e q own kind integer b w later =
      value_then line c at exit lo r v now x (λ t. leaving lo r t yields) e q own kind integer b (leaving_carries lo r yields) w later

  -- a place goes into a slot by one step, and the phrase goes on
  pub place_goes_on : {B : Type 0} (line c at exit lo r n size : ℕ) (v : Store) (now : List PlainFrame) (a : Place) (m : CellPlace)
      (yields : Store → B → List PlainFrame → Type 0) (e : Events B) (q : ℕ) → own_end p r ≤ lo → lo ≤ n
      → slice_get (kinds_at code r) n ≡ Some (slot.Place size) → Begins r v now
      → AreNumbers p code v now a → a.size ≡ size → SamePlace p v a m
      → ((held : List PlainEntry) (s : State) → IsAt at now held s → Writes code input at now held s n (cell.Place m))
      → ((t : List PlainFrame) → Left lo r now v t → IsPlace n size v a t → From line c (at + 1) exit t (leaving lo r t yields) e q)
      → From line (suc c) at exit now (leaving lo r now yields) e q
  place_goes_on line c at exit lo r n size v now a m yields e q own le kind b numbers sized same w later =
      let t = top_written now n (cell.Place m) in
      let left : Left lo r now v t = left_temp lo r n v now (cell.Place m) le (omega (arith, own, le)) b in
      step_from line c at (at + 1) exit lo r v now t yields e q own (writes_take at n now (cell.Place m) w) left
      (later t left (record {
        numbers = numbers_kept p code lo a v v now t b.stand left.fits numbers;
        sized = sized;
        place = m;
        same = same;
        holds = holds_temp r n v now (cell.Place m) (slot.Place size) kind b;
      }))

  -- ---- parts as they run

  -- a node inside of a node, and a part that leaves what it was given
  pub node_from : {A : Type 0} (line at exit : ℕ) (now : List PlainFrame) (w : Ways A) (e : Events A) (q : ℕ)
      → NodeRuns line at exit now w e q → From line 0 at exit now w e q
  node_from line at exit now w e q h held s is =
      credited code input line 8 0 0 24 (Leaves exit w) held e s 0 q (omega arith) (node_here line at exit now w e q h held s is)

  pub runs_from : {A : Type 0} (line at exit : ℕ) (now : List PlainFrame) (w : Ways A) (e : Events A) (q : ℕ)
      → Runs code input line at exit now w e q → From line 8 at exit now w e q
  runs_from line at exit now w e q h held s is =
      credited code input line 8 0 0 24 (Leaves exit w) held e s 8 q (omega arith) (h 8 (omega arith) held s is)

  -- statements behind what has left these frames
  pub on_ending : (may : Bool) (line at exit lo la r : ℕ) (v : Store) (now t : List PlainFrame) (e : Events NoYield) (q : ℕ) → lo ≤ la
      → own_end p r ≤ lo → Left lo r now v t
      → Runs code input line at exit t (ending may la r t) e q → Runs code input line at exit t (ending may lo r now) e q
  on_ending may line at exit lo la r v now t e q le own left =
      runs_less code input line at exit t (ending may la r t) (ending may lo r now) e q
      (λ x y u h. left_on lo la r now v x t u le left h)
      (λ x n a u h. (
        h.0,
        left_on (own_end p r) (own_end p r) r now v x t u (omega arith) (left_less (own_end p r) lo r now v t own left)
            h.1,
        h.2,
      ))

  -- a phrase without RETURN as a statement
  pub as_statement : (may : Bool) (line at exit lo r : ℕ) (now : List PlainFrame) (e : Events NoYield) (q : ℕ)
      → NodeRuns line at exit now (leaving lo r now Nothing) e q → Runs code input line at exit now (ending may lo r now) e q
  as_statement may line at exit lo r now e q h =
      runs_less code input line at exit now (leaving lo r now Nothing) (ending may lo r now) e q (λ x y u z. z.0) (λ x n a u z. absurd z)
      (as_runs line at exit now (leaving lo r now Nothing) e q h)

  -- and statements with none inside
  pub none_returns : (line at exit lo r : ℕ) (now : List PlainFrame) (e : Events NoYield) (q : ℕ)
      → Runs code input line at exit now (ending false lo r now) e q → Runs code input line at exit now (leaving lo r now Nothing) e q
  none_returns line at exit lo r now e q h =
      runs_less code input line at exit now (ending false lo r now) (leaving lo r now Nothing) e q (λ x y u z. (z, tt))
      (λ x n a u z. absurd (let bad : false ≡ true = z.0 in cc)) h

  pub from_ending : (may : Bool) (line c at exit lo la r : ℕ) (v : Store) (now t : List PlainFrame) (e : Events NoYield) (q : ℕ) → lo ≤ la
      → own_end p r ≤ lo → Left lo r now v t
      → From line c at exit t (ending may la r t) e q → From line c at exit t (ending may lo r now) e q
  from_ending may line c at exit lo la r v now t e q le own left h =
      from_less line c at exit t (ending may la r t) (ending may lo r now) e q
      (λ x y u h. left_on lo la r now v x t u le left h)
      (λ x n a u h. (
        h.0,
        left_on (own_end p r) (own_end p r) r now v x t u (omega arith) (left_less (own_end p r) lo r now v t own left)
            h.1,
        h.2,
      ))
      h

  -- the same from a state before
  pub on_later : (may : Bool) (line at exit lo la r : ℕ) (v : Store) (now t : List PlainFrame) (e : Events NoYield) (q : ℕ) → lo ≤ la
      → own_end p r ≤ lo → Left lo r now v t
      → Later code input line at exit t (ending may la r t) e q → Later code input line at exit t (ending may lo r now) e q
  on_later may line at exit lo la r v now t e q le own left h j d few owes held s u silently is =
      then_up_to code input line 0 0 24 0 (Leaves exit (ending may la r t)) (Leaves exit (ending may lo r now)) held e s 0 d (omega arith)
      less (h j d few owes held s u silently is)
    where
      less : (x : Store) (f : Flow NoYield) (y : State) (base : List PlainEntry) → IsGoing base y → Leaves exit (ending may la r t) x f y
          → (i : ℕ) × (z : State) × (i ≤ 0) × Silently code input i y z × IsGoing base z × Leaves exit (ending may lo r now) x f z
      less x (Go n) y base going out = (
        0,
        y,
        omega arith,
        no_step code input y,
        going,
        (out.0, left_on lo la r now v x t y.now le left out.1),
      )
      less x (Return n) y base going out = (
        0,
        y,
        omega arith,
        no_step code input y,
        going,
        (
          out.0,
          left_on (own_end p r) (own_end p r) r now v x t y.now (omega arith) (left_less (own_end p r) lo r now v t own left) out.1,
          out.2,
        ),
      )

  -- a part without RETURN, and statements behind it
  pub then_ending : {A : Type 0} (may : Bool) (line at m exit lo la r : ℕ) (now : List PlainFrame)
      (ya : Store → A → List PlainFrame → Type 0) (e : Events A) (k : Store → A → Events NoYield) (q : ℕ)
      → lo ≤ la → own_end p r ≤ lo → NodeRuns line at m now (leaving la r now ya) e q
      → ((v : Store) (y : A) (t : List PlainFrame) → Left la r now v t → ya v y t → From line 8 m exit t (ending may lo r t) (k v y) q)
      → From line 0 at exit now (ending may lo r now) (bind e k) q
  then_ending may line at m exit lo la r now ya e k q le own runs later held s is =
      bind_goes code input line 8 0 24 (Leaves m (leaving la r now ya)) (Leaves exit (ending may lo r now)) held e k s 0 q 8 (omega arith)
      (omega arith)
      (node_here line at m now (leaving la r now ya) e q runs held s is)
      (λ v y t base going left.
      from_ending may line 8 m exit lo lo r v now t.now (k v y) q (omega arith) own (left_less lo la r now v t.now le left.1.0)
      (later v y t.now left.1.0 left.1.1) base t
      (record { mode = going.mode; here = left.0; frames = refl; entries = going.entries }))
      (λ v n t left. absurd left)
