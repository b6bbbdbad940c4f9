-- The carry of the machine and that of the meaning, and what they make of frames that stand for a store.
use Rattle.std.proofs.Common.{◌≡◌, ℕ, suc, ◌+◌, ◌-◌, ◌<◌, ◌≤◌, ◌⊎◌, inl, inr, Bool, true, false, List, [], length, get_or, Option, Some}
use Rattle.std.proofs.Common.{None, refl, sym, ap, ◌∙◌, subst, arith}
use Rattle.std.proofs.lemmas.Bool.{cases_lt}
use Rattle.std.proofs.lemmas.List.{get_or_past}
use Rattle.std.proofs.lemmas.Option.{slice_get-get_or}
use Rattle.alma_base.specs.Carry.{Carry, carried_at}
use Rattle.alma_code.specs.declared.cell.Cell.{Cell}
use Rattle.alma_code.specs.declared.cell.Cell.TheVariants as cell
use Rattle.alma_code.specs.declared.cell.SlotKind.{SlotKind}
use Rattle.alma_code.specs.declared.cell.SlotKind.TheVariants as slot
use Rattle.alma_code.specs.Carries.{number_at, frames_with_carry}
use Rattle.alma_code.specs.Kinds.{is_number}
use Rattle.alma_code.specs.Picture.{PlainFrame, last_frame, cell_at}
use Rattle.alma_code.specs.Picture as picture
use Rattle.alma_code.specs.Plain.{PlainCode, kinds_at}
use Rattle.alma_code.specs.Machine.{link_to}
use Rattle.alma_ir.specs.Tree.{Program, routine_at}
use Rattle.alma_mean.specs.Store.{Store, Place, Unknown, Number, At, over}
use Rattle.alma_mean.specs.Store as store
use Rattle.alma_lower_implements.proofs.Frames.{shift, shift_in, own_end, SameContent, SameFrame, StandFor, KeptBelow, Fits}
use Rattle.alma_lower_implements.proofs.FrameLemmas.{content_moved, HoldsPlace, FrontAlike, held_moved}
use Rattle.alma_lower_implements.proofs.CarryMaps.{IsRising}
use Rattle.alma_lower_implements.proofs.LaidOver.{or_else, over_count, over_routine, over_link, over_long, over_cell, AreFull}
use Rattle.alma_lower_implements.proofs.LaidOver.{overlaid_count, overlaid_form, overlaid_other, overlaid_cell}

module _ (p : Program) (code : PlainCode) where
  -- nothing, or a number, or an unknown cell in both
  abbrev pub SameOption : Store → Option store.Cell → Option Cell → Type 0
  SameOption v None None = Unit {0}
  SameOption v (Some a) (Some b) = SameContent p v slot.Number a b
  SameOption v None (Some b) = ⊥
  SameOption v (Some a) None = ⊥

  abbrev pub kind_in : Store → List PlainFrame → (f i : ℕ) → SlotKind
  kind_in v now f i = get_or (get_or now f picture.no_frame).kinds (shift_in p v f + i) slot.Mark

  -- the carry of the machine is that of the meaning on the slots of the routines, and has beside them slots of the phrases
  -- of the frame on top from `least` on. The store and its frames say which routines the frames have
  pub record Alike (least : ℕ) (v : Store) (now : List PlainFrame) (c : Carry Cell) (carry : Carry store.Cell) : Type 0 where
    pub rising : IsRising c
    pub carry_rising : IsRising carry
    pub numbers : (f i : ℕ) → f < length v → i < length (get_or v f store.no_frame).cells → kind_in v now f i ≡ slot.Number
        → SameOption v (carried_at f i carry) (carried_at f (shift_in p v f + i) c)
    pub places : (f i l : ℕ) → f < length v → i < length (get_or v f store.no_frame).cells → kind_in v now f i ≡ slot.Place l
        → carried_at f i carry ≡ None
    pub links : (f s : ℕ) → f < length v → s < shift_in p v f → carried_at f s c ≡ None
    pub temps : (f s : ℕ) → f < length v → own_end p (get_or v f store.no_frame).routine ≤ s → (suc f < length v) ⊎ (s < least)
        → carried_at f s c ≡ None

  pub nothing_alike : (least : ℕ) (v : Store) (now : List PlainFrame) → Alike least v now [] []
  nothing_alike least v now = record {
    rising = tt;
    carry_rising = tt;
    numbers = λ f i a b e. tt;
    places = λ f i l a b e. refl;
    links =
        λ f s a b. refl;
    temps = λ f s a b d. refl;
  }

  pub full_frames : (v : Store) (now : List PlainFrame) → StandFor p code v now → AreFull now
  full_frames v now stand k = elim (cases_lt k (length v)) [
    | inl lt ↦ (stand.frames k lt).full
    | inr past ↦ let is : get_or now k picture.no_frame ≡ picture.no_frame =
        get_or_past now k picture.no_frame (omega (arith, past, stand.count)) in ap (λ g. length g.cells) is
        ∙ ap (λ g. length g.kinds) (sym is)
  ]

  pub number_content : (v w : Store) (a : store.Cell) (b : Cell) → SameContent p v slot.Number a b → SameContent p w slot.Number a b
  number_content v w Unknown cell.Unknown h = h
  number_content v w Unknown cell.Unset h = absurd h
  number_content v w Unknown (cell.Int x) h = absurd h
  number_content v w Unknown (cell.Place x) h = absurd h
  number_content v w Unknown (cell.Mark x) h = absurd h
  number_content v w (Number a) (cell.Int b) h = h
  number_content v w (Number a) cell.Unknown h = absurd h
  number_content v w (Number a) cell.Unset h = absurd h
  number_content v w (Number a) (cell.Place x) h = absurd h
  number_content v w (Number a) (cell.Mark x) h = absurd h
  number_content v w (At q) b h = absurd h

  same_option : (v w : Store) (o : Option store.Cell) (x : Option Cell) → SameOption v o x → SameOption w o x
  same_option v w None None h = tt
  same_option v w (Some a) (Some b) h = number_content v w a b h
  same_option v w None (Some b) h = absurd h
  same_option v w (Some a) None h = absurd h

  chosen_content : (v : Store) (o : Option store.Cell) (x : Option Cell) (a : store.Cell) (b : Cell) → SameOption v o x
      → SameContent p v slot.Number a b → SameContent p v slot.Number (or_else o a) (or_else x b)
  chosen_content v None None a b h k = k
  chosen_content v (Some o) (Some x) a b h k = h
  chosen_content v None (Some x) a b h k = absurd h
  chosen_content v (Some o) None a b h k = absurd h

  -- the same of other frames of the same routines
  pub alike_moved : (least : ℕ) (v w : Store) (now later : List PlainFrame) (c : Carry Cell) (carry : Carry store.Cell)
      → length w ≡ length v → FrontAlike p code (length v) v w now later → Alike least v now c carry → Alike least w later c carry
  alike_moved least v w now later c carry long front h = record {
    rising = h.rising;
    carry_rising = h.carry_rising;
    numbers = λ f i lt there e.
        let lv : f < length v = omega (arith, lt, long) in
        let sh : shift_in p w f ≡ shift_in p v f = ap (shift p) (front.routine f lv) in
        subst (λ n. SameOption w (carried_at f i carry) (carried_at f (n + i) c)) (sym sh)
        (same_option v w (carried_at f i carry) (carried_at f (shift_in p v f + i) c)
        (h.numbers f i lv (omega (arith, there, front.long f lv)) (sym (same_kind f i lv) ∙ e)));
    places = λ f i l lt there e. let lv : f < length v = omega (arith, lt, long) in
        h.places f i l lv (omega (arith, there, front.long f lv)) (sym (same_kind f i lv) ∙ e);
    links = λ f s lt small. let lv : f < length v = omega (arith, lt, long) in
        h.links f s lv (omega (arith, small, ap (shift p) (front.routine f lv)));
    temps = λ f s lt behind where_. let lv : f < length v = omega (arith, lt, long) in
        h.temps f s lv (omega (arith, behind, ap (own_end p) (front.routine f lv))) (elim where_ [
          | inl below ↦ inl (omega (arith, below, long))
          | inr early ↦ inr early
        ]);
  }
    where
      same_kind : (f i : ℕ) → f < length v → kind_in w later f i ≡ kind_in v now f i
      same_kind f i lt = ap (λ r. get_or (get_or later f picture.no_frame).kinds (shift p r + i) slot.Mark) (front.routine f lt)
          ∙ ap (λ ks. get_or ks (shift_in p v f + i) slot.Mark) (front.kinds f lt)

  -- ---- a carry over frames that stand for a store

  module _ (least : ℕ) (v : Store) (now : List PlainFrame) (c : Carry Cell) (carry : Carry store.Cell) (stand : StandFor p code v now)
      (alike : Alike least v now c carry) where
    -- a slot that is not carried
    laid_kept : (f s : ℕ) → carried_at f s c ≡ None → cell_at (frames_with_carry now c) f s cell.Unset ≡ cell_at now f s cell.Unset
    laid_kept f s none = by (number_at now f s) refl
      where
        by : (b : Bool) → number_at now f s ≡ b → cell_at (frames_with_carry now c) f s cell.Unset ≡ cell_at now f s cell.Unset
        by true e = overlaid_cell now c f s alike.rising (full_frames v now stand) e ∙ ap (λ o. or_else o (cell_at now f s cell.Unset)) none
        by false e = overlaid_other now c f s e

    pub kind_number : (f i : ℕ) (k : SlotKind) → f < length v → i < length (get_or v f store.no_frame).cells → kind_in v now f i ≡ k
        → number_at now f (shift_in p v f + i) ≡ is_number (Some k)
    kind_number f i k lt there e =
        let frame = stand.frames f lt in
        ap is_number (slice_get-get_or (get_or now f picture.no_frame).kinds (shift_in p v f + i) slot.Mark
        (omega (arith, there, frame.within, frame.full)) ∙ ap Some e)

    -- a slot of a routine
    pub laid_content : (f i : ℕ) (k : SlotKind) → f < length v → i < length (get_or v f store.no_frame).cells → kind_in v now f i ≡ k
        → SameContent p v k (store.cell_at (over v carry) f i) (cell_at (frames_with_carry now c) f (shift_in p v f + i) cell.Unset)
    laid_content f i slot.Number lt there e =
        let was : SameContent p v slot.Number (store.cell_at v f i) (cell_at now f (shift_in p v f + i) cell.Unset) =
        subst (λ k. SameContent p v k (store.cell_at v f i) (cell_at now f (shift_in p v f + i) cell.Unset)) e
        ((stand.frames f lt).cells i there) in
        let a = over_cell v carry f i alike.carry_rising lt there in
        let b = overlaid_cell now c f (shift_in p v f + i) alike.rising (full_frames v now stand)
        (kind_number f i slot.Number lt there e) in
        subst (λ x. SameContent p v slot.Number x (cell_at (frames_with_carry now c) f (shift_in p v f + i) cell.Unset)) (sym a)
        (subst (SameContent p v slot.Number (or_else (carried_at f i carry) (store.cell_at v f i))) (sym b)
        (chosen_content v (carried_at f i carry) (carried_at f (shift_in p v f + i) c) (store.cell_at v f i)
        (cell_at now f (shift_in p v f + i) cell.Unset) (alike.numbers f i lt there e) was))
    laid_content f i (slot.Place l) lt there e =
        let was : SameContent p v (slot.Place l) (store.cell_at v f i) (cell_at now f (shift_in p v f + i) cell.Unset) =
        subst (λ k. SameContent p v k (store.cell_at v f i) (cell_at now f (shift_in p v f + i) cell.Unset)) e
        ((stand.frames f lt).cells i there) in
        let a = over_cell v carry f i alike.carry_rising lt there
        ∙ ap (λ o. or_else o (store.cell_at v f i)) (alike.places f i l lt there e) in
        let b = overlaid_other now c f (shift_in p v f + i) (kind_number f i (slot.Place l) lt there e) in
        subst (λ x. SameContent p v (slot.Place l) x (cell_at (frames_with_carry now c) f (shift_in p v f + i) cell.Unset)) (sym a)
        (subst (SameContent p v (slot.Place l) (store.cell_at v f i)) (sym b) was)
    laid_content f i slot.Mark lt there e = absurd
        (subst (λ k. SameContent p v k (store.cell_at v f i) (cell_at now f (shift_in p v f + i) cell.Unset)) e
        ((stand.frames f lt).cells i there))
    laid_content f i (slot.Link r) lt there e =
        absurd (subst (λ k. SameContent p v k (store.cell_at v f i) (cell_at now f (shift_in p v f + i) cell.Unset)) e
        ((stand.frames f lt).cells i there))

    same_shift : (k : ℕ) → shift_in p (over v carry) k ≡ shift_in p v k
    same_shift k = ap (shift p) (over_routine v carry k)

    pub laid_front : FrontAlike p code (length v) v (over v carry) now (frames_with_carry now c)
    laid_front = record {
      live = omega (arith, over_count v carry);
      routine = λ k lt. over_routine v carry k;
      long = λ k lt. over_long v carry k;
      kinds = λ k lt. (overlaid_form now c k).kinds;
    }

    laid_same : (k : ℕ) → k < length v → SameFrame p code (over v carry) (get_or (over v carry) k store.no_frame)
        (get_or (frames_with_carry now c) k picture.no_frame)
    laid_same k lt =
        let was = stand.frames k lt in
        let form = overlaid_form now c k in
        let sh = same_shift k in
        record {
          routine = over_routine v carry k ∙ was.routine ∙ sym form.routine;
          kinds = form.kinds ∙ was.kinds ∙ ap (kinds_at code) (sym form.routine);
          full = form.long ∙ was.full ∙ ap length (sym form.kinds);
          slots = over_long v carry k ∙ was.slots ∙ ap (λ r. (routine_at p r).slots) (sym (over_routine v carry k));
          within = omega (arith, was.within, sh, over_long v carry k, form.long);
          cells = λ i there.
              let inside : i < length (get_or v k store.no_frame).cells = omega (arith, there, over_long v carry k) in
              let x = store.cell_at (over v carry) k i in
              let y = cell_at (frames_with_carry now c) k (shift_in p v k + i) cell.Unset in
              let content = content_moved p v (over v carry) (kind_in v now k i) x y same_shift
              (laid_content k i (kind_in v now k i) lt inside refl) in
              subst (λ n. SameContent p (over v carry)
              (get_or (get_or (frames_with_carry now c) k picture.no_frame).kinds (n + i) slot.Mark) x
              (cell_at (frames_with_carry now c) k (n + i) cell.Unset)) (sym sh)
              (subst (λ ks. SameContent p (over v carry) (get_or ks (shift_in p v k + i) slot.Mark) x y) (sym form.kinds) content);
          link = λ some.
              let some_v : 1 ≤ shift_in p v k = omega (arith, some, sh) in
              laid_kept k 0 (alike.links k 0 lt (omega (arith, some_v))) ∙ was.link some_v
              ∙ ap (λ n. cell.Place (link_to n)) (sym (over_link v carry k));
        }

    pub laid_stands : StandFor p code (over v carry) (frames_with_carry now c)
    laid_stands = record {
      count = overlaid_count now c ∙ stand.count ∙ sym (over_count v carry);
      some = omega (arith, stand.some, over_count v carry);
      frames = λ k lt. laid_same k (omega (arith, lt, over_count v carry));
      links = λ k lt pos.
          let was = stand.links k (omega (arith, lt, over_count v carry)) pos in
          record {
            below = omega (arith, was.below, over_link v carry k);
            outer = ap (λ n. (get_or (over v carry) n store.no_frame).routine) (over_link v carry k)
                ∙ over_routine v carry (get_or v k store.no_frame).link ∙ was.outer
                ∙ ap (λ r. (routine_at p r).outer) (sym (over_routine v carry k));
          };
      declared = λ k lt. (overlaid_form now c k).declared ∙ stand.declared k (omega (arith, lt, over_count v carry))
          ∙ ap (λ r. (routine_at p r).declared) (sym (over_routine v carry k));
      places = λ k i q lt e.
          let lv : k < length v = omega (arith, lt, over_count v carry) in
          held_moved p code (length v) v (over v carry) now (frames_with_carry now c) k i q laid_front lv
          (stand.places k i q lv (place_was k i q lv e));
      routines = λ k lt. omega (arith, stand.routines k (omega (arith, lt, over_count v carry)), over_routine v carry k);
      main = over_routine v carry 0 ∙ stand.main;
    }
      where
        by_kind : (k i : ℕ) (q : Place) (s : SlotKind) → k < length v → i < length (get_or v k store.no_frame).cells → kind_in v now k i ≡ s
            → store.cell_at (over v carry) k i ≡ At q → store.cell_at v k i ≡ At q
        by_kind k i q slot.Number lt there is e =
            absurd (subst (λ x. SameContent p v slot.Number x (cell_at (frames_with_carry now c) k (shift_in p v k + i) cell.Unset)) e
            (laid_content k i slot.Number lt there is))
        by_kind k i q (slot.Place l) lt there is e =
            sym (over_cell v carry k i alike.carry_rising lt there
            ∙ ap (λ o. or_else o (store.cell_at v k i)) (alike.places k i l lt there is)) ∙ e
        by_kind k i q slot.Mark lt there is e = absurd (laid_content k i slot.Mark lt there is)
        by_kind k i q (slot.Link r) lt there is e = absurd (laid_content k i (slot.Link r) lt there is)

        place_was : (k i : ℕ) (q : Place) → k < length v → store.cell_at (over v carry) k i ≡ At q → store.cell_at v k i ≡ At q
        place_was k i q lt e = elim (cases_lt i (length (get_or v k store.no_frame).cells)) [
          | inl there ↦ by_kind k i q (kind_in v now k i) lt there refl e
          | inr past ↦ absurd (subst HoldsPlace
              (sym e ∙ get_or_past (get_or (over v carry) k store.no_frame).cells i Unknown (omega (arith, past, over_long v carry k))) tt)
        ]

    laid_frame : (k lo : ℕ) → k < length v → (suc k < length v) ⊎ (lo ≤ least)
        → KeptBelow p code lo (get_or now k picture.no_frame) (get_or (frames_with_carry now c) k picture.no_frame)
    laid_frame k lo lt where_ =
        let form = overlaid_form now c k in
        let was = stand.frames k lt in
        record {
          back = form.back;
          routine = form.routine;
          declared = form.declared;
          long = form.long;
          link = λ i small. laid_kept k i (alike.links k i lt (omega (arith, small, ap (shift p) was.routine)));
          cells = λ i behind early. laid_kept k i (alike.temps k i lt (omega (arith, behind, ap (own_end p) was.routine)) (elim where_ [
            | inl below ↦ inl below
            | inr le ↦ inr (omega (arith, early, le))
          ]));
          kinds = form.kinds;
          places = λ i l e small. overlaid_other now c k i (no_number k i l e);
        }
      where
        no_number : (k i l : ℕ) → get_or (get_or now k picture.no_frame).kinds i slot.Mark ≡ slot.Place l → number_at now k i ≡ false
        no_number k i l e = elim (cases_lt i (length (get_or now k picture.no_frame).kinds)) [
          | inl there ↦ ap is_number (slice_get-get_or (get_or now k picture.no_frame).kinds i slot.Mark there ∙ ap Some e)
          | inr past ↦ let z : slot.Mark ≡ slot.Place l = sym (get_or_past (get_or now k picture.no_frame).kinds i slot.Mark past) ∙ e in
              absurd (cc)
        ]

    -- the frames over which the carry was laid, where the phrase's own slots begin at `least` or before
    pub laid_fits : (lo : ℕ) → lo ≤ least → Fits p code lo now (over v carry) (frames_with_carry now c)
    laid_fits lo le = record {
      stand = laid_stands;
      same_count = overlaid_count now c;
      top =
          let last : length (frames_with_carry now c) - 1 ≡ length now - 1 = ap (λ n. n - 1) (overlaid_count now c) in
          subst (λ n. KeptBelow p code lo (last_frame now) (get_or (frames_with_carry now c) n picture.no_frame)) (sym last)
          (laid_frame (length now - 1) lo (omega (arith, stand.count, stand.some)) (inr le));
      others = λ k lt. laid_frame k (length (get_or now k picture.no_frame).cells) (omega (arith, lt, overlaid_count now c, stand.count))
          (inl (omega (arith, lt, overlaid_count now c, stand.count)));
    }
