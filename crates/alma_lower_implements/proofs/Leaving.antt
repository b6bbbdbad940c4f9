-- The frames after a Return, and a mark that a part keeps.
use Rattle.std.proofs.Common.{◌≡◌, ℕ, ◌+◌, ◌-◌, ◌<◌, ◌≤◌, ◌⊎◌, inl, inr, List, [], ◌∷◌, ◌++◌, length, get_or, set, Some, refl, sym, ap, ◌∙◌}
use Rattle.std.proofs.Common.{subst, arith}
use Rattle.std.proofs.lemmas.Bool.{cases_lt}
use Rattle.std.proofs.lemmas.List.{get_or_past, get_or-set_same, length-set, length-append, length-take-le, get_or-take, get_or_append_left}
use Rattle.std.proofs.lemmas.Option.{slice_get-get_or}
use Rattle.alma_code.specs.declared.cell.Cell.{Cell}
use Rattle.alma_code.specs.declared.cell.Cell.TheVariants as cell
use Rattle.alma_code.specs.declared.cell.SlotKind.{SlotKind}
use Rattle.alma_code.specs.declared.cell.SlotKind.TheVariants as slot
use Rattle.alma_code.specs.Picture.{PlainFrame, last_frame, without_last, frame_with}
use Rattle.alma_code.specs.Picture as picture
use Rattle.alma_code.specs.Plain.{PlainCode}
use Rattle.alma_ir.specs.Tree.{Program, routine_at}
use Rattle.alma_mean.specs.Store.{Store, Place, Frame, Unknown, Number, At, without_top}
use Rattle.alma_mean.specs.Store as store
use Rattle.alma_lower_implements.proofs.Frames.{shift, shift_in, own_end, SameContent, HasLink, SameFrame, StandFor, KeptBelow, Fits}
use Rattle.alma_lower_implements.proofs.FrameLemmas.{top_is, held_moved}
use Rattle.alma_lower_implements.proofs.Steps.{top_written, Holds}

-- a place that a frame holds names a frame that is not above it
abbrev pub PlacesBelow : Store → Type 0
PlacesBelow v = (k i : ℕ) (q : Place) → k < length v → get_or (get_or v k store.no_frame).cells i Unknown ≡ At q → q.frame ≤ k

module _ (p : Program) where
  -- a cell stands for a cell of another store too, where the frame of its place has the shift that it had
  content_below : (v w : Store) (kind : SlotKind) (a : store.Cell) (b : Cell)
      → ((q : Place) → a ≡ At q → shift_in p w q.frame ≡ shift_in p v q.frame) → SameContent p v kind a b → SameContent p w kind a b
  content_below v w slot.Number Unknown cell.Unknown same h = h
  content_below v w slot.Number Unknown cell.Unset same h = absurd h
  content_below v w slot.Number Unknown (cell.Int x) same h = absurd h
  content_below v w slot.Number Unknown (cell.Place x) same h = absurd h
  content_below v w slot.Number Unknown (cell.Mark x) same h = absurd h
  content_below v w slot.Number (Number a) (cell.Int b) same h = h
  content_below v w slot.Number (Number a) cell.Unknown same h = absurd h
  content_below v w slot.Number (Number a) cell.Unset same h = absurd h
  content_below v w slot.Number (Number a) (cell.Place x) same h = absurd h
  content_below v w slot.Number (Number a) (cell.Mark x) same h = absurd h
  content_below v w slot.Number (At q) b same h = absurd h
  content_below v w (slot.Place l) Unknown cell.Unset same h = h
  content_below v w (slot.Place l) Unknown cell.Unknown same h = absurd h
  content_below v w (slot.Place l) Unknown (cell.Int x) same h = absurd h
  content_below v w (slot.Place l) Unknown (cell.Place x) same h = absurd h
  content_below v w (slot.Place l) Unknown (cell.Mark x) same h = absurd h
  content_below v w (slot.Place l) (Number a) b same h = absurd h
  content_below v w (slot.Place l) (At q) (cell.Place c) same h =
      record { frame = h.frame; slot = ap (λ n. n + q.slot) (same q refl) ∙ h.slot; size = h.size }
  content_below v w (slot.Place l) (At q) cell.Unknown same h = absurd h
  content_below v w (slot.Place l) (At q) cell.Unset same h = absurd h
  content_below v w (slot.Place l) (At q) (cell.Int x) same h = absurd h
  content_below v w (slot.Place l) (At q) (cell.Mark x) same h = absurd h
  content_below v w slot.Mark a b same h = absurd h
  content_below v w (slot.Link r) a b same h = absurd h

module _ (p : Program) (code : PlainCode) where
  pub same_below : (v w : Store) (f : Frame) (g : PlainFrame)
      → ((i : ℕ) (q : Place) → get_or f.cells i Unknown ≡ At q → shift_in p w q.frame ≡ shift_in p v q.frame) → SameFrame p code v f g
      → SameFrame p code w f g
  same_below v w f g same h = record {
    routine = h.routine;
    kinds = h.kinds;
    full = h.full;
    slots = h.slots;
    within = h.within;
    cells = λ i lt. content_below p v w (get_or g.kinds (shift p f.routine + i) slot.Mark) (get_or f.cells i Unknown)
        (get_or g.cells (shift p f.routine + i) cell.Unset) (λ q e. same i q e) (h.cells i lt);
    link = h.link;
  }

  -- without the top frames
  pub leave_stands : (v : Store) (now : List PlainFrame) → 2 ≤ length v → StandFor p code v now
      → StandFor p code (without_top v) (without_last now)
  leave_stands v now two h = record {
    count = length-take-le (length now - 1) now (omega arith) ∙ ap (λ n. n - 1) h.count ∙ sym long;
    some = omega (arith, long, two);
    frames = λ k lt. frame k (omega (arith, lt, long));
    links = λ k lt pos. link k (omega (arith, lt, long)) pos;
    declared = λ k lt. ap (λ g. g.declared) (kept_now k (omega (arith, lt, long))) ∙ h.declared k (omega (arith, lt, long))
        ∙ ap (λ f. (routine_at p f.routine).declared) (sym (kept k (omega (arith, lt, long))));
    places = λ k i q lt e. held_moved p code (length v - 1) v (without_top v) now (without_last now) k i q
        (record {
          live = omega (arith, long);
          routine = λ j a. ap (λ f. f.routine) (kept j a);
          long = λ j a. ap (λ f. length f.cells) (kept j a);
          kinds = λ j a. ap (λ g. g.kinds) (kept_now j a);
        }) (omega (arith, lt, long)) (h.places k i q (omega (arith, lt, long))
        (ap (λ f. get_or f.cells i Unknown) (sym (kept k (omega (arith, lt, long)))) ∙ e));
    routines = λ k lt. omega (arith, h.routines k (omega (arith, lt, long)), ap (λ f. f.routine) (kept k (omega (arith, lt, long))));
    main = ap (λ f. f.routine) (kept 0 (omega (arith, two))) ∙ h.main;
  }
    where
      long : length (without_top v) ≡ length v - 1
      long = length-take-le (length v - 1) v (omega arith)

      kept : (k : ℕ) → k < length v - 1 → get_or (without_top v) k store.no_frame ≡ get_or v k store.no_frame
      kept k lt = get_or-take (length v - 1) v k store.no_frame lt

      kept_now : (k : ℕ) → k < length v - 1 → get_or (without_last now) k picture.no_frame ≡ get_or now k picture.no_frame
      kept_now k lt = get_or-take (length now - 1) now k picture.no_frame (omega (arith, lt, h.count))

      frame : (k : ℕ) → k < length v - 1 → SameFrame p code (without_top v) (get_or (without_top v) k store.no_frame)
          (get_or (without_last now) k picture.no_frame)
      frame k lt =
          subst (λ f. SameFrame p code (without_top v) f (get_or (without_last now) k picture.no_frame)) (sym (kept k lt))
          (subst (λ g. SameFrame p code (without_top v) (get_or v k store.no_frame) g) (sym (kept_now k lt))
          (same_below v (without_top v) (get_or v k store.no_frame) (get_or now k picture.no_frame)
          (λ i q e. ap (λ f. shift p f.routine) (kept q.frame (omega (arith, lt, (h.places k i q (omega (arith, lt)) e).below))))
          (h.frames k (omega (arith, lt)))))

      link : (k : ℕ) → k < length v - 1 → 1 ≤ k → HasLink p (without_top v) k (get_or (without_top v) k store.no_frame)
      link k lt pos =
          let z = h.links k (omega (arith, lt)) pos in
          subst (HasLink p (without_top v) k) (sym (kept k lt))
          (record {
            below = z.below;
            outer = ap (λ f. f.routine) (kept (get_or v k store.no_frame).link (omega (arith, z.below, lt)))
                ∙ z.outer;
          })

  -- all slots of a frame are kept
  pub any_kept : (lo : ℕ) (g g' : PlainFrame) → KeptBelow p code (length g.cells) g g' → KeptBelow p code lo g g'
  any_kept lo g g' h = record {
    back = h.back;
    routine = h.routine;
    declared = h.declared;
    long = h.long;
    link = h.link;
    cells =
        λ i from to. by i from (cases_lt i (length g.cells));
    kinds = h.kinds;
    places = h.places;
  }
    where
      by : (i : ℕ) → own_end p g.routine ≤ i → (i < length g.cells) ⊎ (length g.cells ≤ i)
          → get_or g'.cells i cell.Unset ≡ get_or g.cells i cell.Unset
      by i from (inl lt) = h.cells i from lt
      by i from (inr past) = get_or_past g'.cells i cell.Unset (omega (arith, past, h.long)) ∙ sym (get_or_past g.cells i cell.Unset past)

  -- the frames of the caller, after a body that began with one frame more
  pub leave_fits : (lo lo2 : ℕ) (now : List PlainFrame) (g : PlainFrame) (v : Store) (later : List PlainFrame) → 1 ≤ length now
      → Fits p code lo2 (now ++ g ∷ []) v later → Fits p code lo now (without_top v) (without_last later)
  leave_fits lo lo2 now g v later some h = record {
    stand = leave_stands v later (omega (arith, h.stand.count, same, some)) h.stand;
    same_count = count;
    top = subst (KeptBelow p code lo (last_frame now)) (sym last_is)
        (any_kept lo (last_frame now) (get_or later (length now - 1) picture.no_frame) (other (length now - 1) (omega (arith, some))));
    others = λ k lt. subst (KeptBelow p code (length (get_or now k picture.no_frame).cells) (get_or now k picture.no_frame))
        (sym (get_or-take (length later - 1) later k picture.no_frame (omega (arith, lt, count, same))))
        (other k (omega (arith, lt, count)));
  }
    where
      same : length later ≡ length now + 1
      same = h.same_count ∙ length-append now (g ∷ [])

      count : length (without_last later) ≡ length now
      count = length-take-le (length later - 1) later (omega arith) ∙ (let e : length later - 1 ≡ length now = omega (arith, same) in e)

      last_is : last_frame (without_last later) ≡ get_or later (length now - 1) picture.no_frame
      last_is = ap (λ n. get_or (without_last later) (n - 1) picture.no_frame) count
          ∙ get_or-take (length later - 1) later (length now - 1) picture.no_frame (omega (arith, same, some))

      other : (k : ℕ) → k < length now → KeptBelow p code (length (get_or now k picture.no_frame).cells) (get_or now k picture.no_frame)
          (get_or later k picture.no_frame)
      other k lt = subst (λ f. KeptBelow p code (length f.cells) f (get_or later k picture.no_frame))
          (get_or_append_left now (g ∷ []) picture.no_frame k lt) (h.others k (omega (arith, lt, same)))

  -- ---- marks

  pub keeps_mark : (m height : ℕ) (now : List PlainFrame) (v : Store) (later : List PlainFrame) → 1 ≤ length now
      → m < length (last_frame now).cells → own_end p (last_frame now).routine ≤ m
      → Fits p code (m + 1) (top_written now m (cell.Mark height)) v later → Holds later m (cell.Mark height)
  keeps_mark m height now v later some within behind h =
      let marked : List PlainFrame = top_written now m (cell.Mark height) in
      let top : last_frame marked ≡ frame_with (last_frame now) m (cell.Mark height) = top_is now m (cell.Mark height) some in
      let long : length (last_frame later).cells ≡ length (set (last_frame now).cells m (cell.Mark height)) = h.top.long
      ∙ ap (λ f. length f.cells) top in
      let there : m < length (last_frame later).cells =
      omega (arith, long, length-set (last_frame now).cells m (cell.Mark height), within) in
      let own : own_end p (last_frame marked).routine ≤ m = subst (λ f. own_end p f.routine ≤ m) (sym top) behind in
      slice_get-get_or (last_frame later).cells m cell.Unset there
      ∙ ap Some (h.top.cells m own (omega arith) ∙ ap (λ f. get_or f.cells m cell.Unset) top
      ∙ get_or-set_same (last_frame now).cells m (cell.Mark height) cell.Unset within)
