-- What a carry makes of a store and of the frames of the machine, cell by cell.
use Rattle.std.proofs.Common.{◌≡◌, ℕ, zero, suc, ◌<◌, ◌≤◌, inl, inr, Bool, true, false, List, [], ◌∷◌, length, get_or, set, Option, Some}
use Rattle.std.proofs.Common.{None, refl, sym, ap, ◌∙◌, subst, arith}
use Rattle.std.specs.Prelude.{slice_get, if◌then◌else◌}
use Rattle.std.proofs.lemmas.Bool.{cases_eq, cases_lt}
use Rattle.std.proofs.lemmas.List.{get_or-set_same, get_or-set_other, get_or_past, length-set}
use Rattle.alma_base.specs.Carry.{Change, Carry, is_same_place, carried_at}
use Rattle.alma_base.specs.Choice.{if_true}
use Rattle.alma_code.specs.declared.cell.Cell.{Cell}
use Rattle.alma_code.specs.declared.cell.Cell.TheVariants as cell
use Rattle.alma_code.specs.declared.cell.SlotKind.{SlotKind}
use Rattle.alma_code.specs.Carries.{number_at, frames_with_change, frames_with_carry}
use Rattle.alma_code.specs.Kinds.{is_number}
use Rattle.alma_code.specs.Picture.{PlainFrame, frame_with, frames_with_cell, cell_at}
use Rattle.alma_code.specs.Picture as picture
use Rattle.alma_mean.specs.Store.{Store, Unknown, put, over}
use Rattle.alma_mean.specs.Store as store
use Rattle.alma_lower_implements.proofs.FrameLemmas.{put_is}
use Rattle.alma_lower_implements.proofs.CarryMaps.{same_place_is, same_itself, IsRising, absent_below}

-- what is carried, or else what was there
abbrev pub or_else : {A : Type 0} → Option A → A → A
or_else None a = a
or_else (Some b) a = b

-- ---- a store

put_past : (v : Store) (f n : ℕ) (c : store.Cell) → length v ≤ f → put v f n c ≡ v
put_past [] f n c past = refl
put_past (g ∷ v) zero n c past = absurd (omega (arith, past))
put_past (g ∷ v) (suc f) n c past = ap (λ z. g ∷ z) (put_past v f n c (omega (arith, past)))

-- what a write leaves of each frame
record SameShape (a b : store.Frame) : Type 0 where
  routine : a.routine ≡ b.routine
  link : a.link ≡ b.link
  long : length a.cells ≡ length b.cells

shape_self : (a : store.Frame) → SameShape a a
shape_self a = record { routine = refl; link = refl; long = refl }

put_shape : (v : Store) (f n k : ℕ) (c : store.Cell) → SameShape (get_or (put v f n c) k store.no_frame) (get_or v k store.no_frame)
put_shape v f n k c = elim (cases_lt f (length v)) [
  | inr past ↦ subst (λ z. SameShape (get_or z k store.no_frame) (get_or v k store.no_frame)) (sym (put_past v f n c past))
      (shape_self (get_or v k store.no_frame))
  | inl lt ↦
      subst (λ z. SameShape (get_or z k store.no_frame) (get_or v k store.no_frame)) (sym (put_is v f n c lt)) (elim (cases_eq k f) [
        | inl e ↦
            let is : get_or (set v f (store.with_cell (get_or v f store.no_frame) n c)) k store.no_frame ≡ store.with_cell
            (get_or v k store.no_frame) n c =
            ap (λ m. get_or (set v f (store.with_cell (get_or v f store.no_frame) n c)) m store.no_frame) e
            ∙ get_or-set_same v f (store.with_cell (get_or v f store.no_frame) n c) store.no_frame lt
            ∙ ap (λ m. store.with_cell (get_or v m store.no_frame) n c) (sym e) in
            subst (λ g. SameShape g (get_or v k store.no_frame)) (sym is)
            (record { routine = refl; link = refl; long = length-set (get_or v k store.no_frame).cells n c })
        | inr ne ↦ subst (λ g. SameShape g (get_or v k store.no_frame))
            (sym (get_or-set_other v f k (store.with_cell (get_or v f store.no_frame) n c) store.no_frame ne))
            (shape_self (get_or v k store.no_frame))
      ])
]

put_count : (v : Store) (f n : ℕ) (c : store.Cell) → length (put v f n c) ≡ length v
put_count [] f n c = refl
put_count (g ∷ v) zero n c = refl
put_count (g ∷ v) (suc f) n c = ap suc (put_count v f n c)

pub put_here : (v : Store) (f n : ℕ) (c : store.Cell) → f < length v → n < length (get_or v f store.no_frame).cells
    → store.cell_at (put v f n c) f n ≡ c
put_here v f n c lt there =
    ap (λ z. get_or (get_or z f store.no_frame).cells n Unknown) (put_is v f n c lt)
    ∙ ap (λ g. get_or g.cells n Unknown) (get_or-set_same v f (store.with_cell (get_or v f store.no_frame) n c) store.no_frame lt)
    ∙ get_or-set_same (get_or v f store.no_frame).cells n c Unknown there

pub put_apart : (v : Store) (g j f i : ℕ) (c : store.Cell) → (g ≡ f → j ≡ i → ⊥) → store.cell_at (put v g j c) f i ≡ store.cell_at v f i
put_apart v g j f i c apart = elim (cases_lt g (length v)) [
  | inr past ↦ ap (λ z. store.cell_at z f i) (put_past v g j c past)
  | inl lt ↦ ap (λ z. store.cell_at z f i) (put_is v g j c lt) ∙ elim (cases_eq f g) [
    | inl e ↦
        ap (λ m. get_or (get_or (set v g (store.with_cell (get_or v g store.no_frame) j c)) m store.no_frame).cells i Unknown) e
        ∙ ap (λ h. get_or h.cells i Unknown) (get_or-set_same v g (store.with_cell (get_or v g store.no_frame) j c) store.no_frame lt)
        ∙ get_or-set_other (get_or v g store.no_frame).cells j i c Unknown (λ z. apart (sym e) (sym z))
        ∙ ap (λ m. get_or (get_or v m store.no_frame).cells i Unknown) (sym e)
    | inr ne ↦ ap (λ h. get_or h.cells i Unknown)
        (get_or-set_other v g f (store.with_cell (get_or v g store.no_frame) j c) store.no_frame ne)
  ]
]

pub over_count : (v : Store) (carry : Carry store.Cell) → length (over v carry) ≡ length v
over_count v [] = refl
over_count v (x ∷ rest) = over_count (put v x.frame x.slot x.cell) rest ∙ put_count v x.frame x.slot x.cell

over_shape : (v : Store) (carry : Carry store.Cell) (k : ℕ) → SameShape (get_or (over v carry) k store.no_frame) (get_or v k store.no_frame)
over_shape v [] k = shape_self (get_or v k store.no_frame)
over_shape v (x ∷ rest) k =
    let a = over_shape (put v x.frame x.slot x.cell) rest k in
    let b = put_shape v x.frame x.slot k x.cell in
    record { routine = a.routine ∙ b.routine; link = a.link ∙ b.link; long = a.long ∙ b.long }

pub over_routine : (v : Store) (carry : Carry store.Cell) (k : ℕ)
    → (get_or (over v carry) k store.no_frame).routine ≡ (get_or v k store.no_frame).routine
over_routine v carry k = (over_shape v carry k).routine

pub over_link : (v : Store) (carry : Carry store.Cell) (k : ℕ)
    → (get_or (over v carry) k store.no_frame).link ≡ (get_or v k store.no_frame).link
over_link v carry k = (over_shape v carry k).link

pub over_long : (v : Store) (carry : Carry store.Cell) (k : ℕ)
    → length (get_or (over v carry) k store.no_frame).cells ≡ length (get_or v k store.no_frame).cells
over_long v carry k = (over_shape v carry k).long

pub over_cell : (v : Store) (carry : Carry store.Cell) (f i : ℕ) → IsRising carry → f < length v
    → i < length (get_or v f store.no_frame).cells → store.cell_at (over v carry) f i ≡ or_else (carried_at f i carry) (store.cell_at v f i)
over_cell v [] f i rising lt there = refl
over_cell v (x ∷ rest) f i rising lt there =
    over_cell (put v x.frame x.slot x.cell) rest f i rising.1 (omega (arith, lt, put_count v x.frame x.slot x.cell))
    (omega (arith, there, (put_shape v x.frame x.slot f x.cell).long)) ∙ by (is_same_place x.frame x.slot f i) refl
  where
    by : (b : Bool) → is_same_place x.frame x.slot f i ≡ b
        → or_else (carried_at f i rest) (store.cell_at (put v x.frame x.slot x.cell) f i) ≡ or_else
        (if_true b (λ _. Some x.cell) (λ _. carried_at f i rest)) (store.cell_at v f i)
    by true e =
        let one = same_place_is x.frame x.slot f i e in
        let none : carried_at f i rest ≡ None = ap (λ n. carried_at n i rest) (sym one.0) ∙ ap (λ n. carried_at x.frame n rest) (sym one.1)
        ∙ absent_below x.frame x.slot rest rising.0 in
        ap (λ o. or_else o (store.cell_at (put v x.frame x.slot x.cell) f i)) none
        ∙ ap (λ n. store.cell_at (put v n x.slot x.cell) f i) one.0 ∙ ap (λ n. store.cell_at (put v f n x.cell) f i) one.1
        ∙ put_here v f i x.cell lt there
    by false e = ap (or_else (carried_at f i rest))
        (put_apart v x.frame x.slot f i x.cell (λ a c. let z : true ≡ false =
        sym (ap (λ n. is_same_place n x.slot f i) a ∙ ap (λ n. is_same_place f n f i) c ∙ same_itself f i) ∙ e in absurd (cc)))

-- ---- the frames of the machine

pub record SameForm (a b : PlainFrame) : Type 0 where
  pub routine : a.routine ≡ b.routine
  pub back : a.back ≡ b.back
  pub declared : a.declared ≡ b.declared
  pub kinds : a.kinds ≡ b.kinds
  pub long : length a.cells ≡ length b.cells

form_self : (a : PlainFrame) → SameForm a a
form_self a = record { routine = refl; back = refl; declared = refl; kinds = refl; long = refl }

set_past : {A : Type 0} (l : List A) (n : ℕ) (a : A) → length l ≤ n → set l n a ≡ l
set_past [] n a past = refl
set_past (x ∷ l) zero a past = absurd (omega (arith, past))
set_past (x ∷ l) (suc n) a past = ap (λ z. x ∷ z) (set_past l n a (omega (arith, past)))

written_form : (now : List PlainFrame) (f n k : ℕ) (c : Cell)
    → SameForm (get_or (frames_with_cell now f n c) k picture.no_frame) (get_or now k picture.no_frame)
written_form now f n k c = elim (cases_lt f (length now)) [
  | inr past ↦ subst (λ z. SameForm (get_or z k picture.no_frame) (get_or now k picture.no_frame))
      (sym (set_past now f (frame_with (get_or now f picture.no_frame) n c) past)) (form_self (get_or now k picture.no_frame))
  | inl lt ↦ elim (cases_eq k f) [
    | inl e ↦
        let is : get_or (frames_with_cell now f n c) k picture.no_frame ≡ frame_with (get_or now k picture.no_frame) n c =
        ap (λ m. get_or (frames_with_cell now f n c) m picture.no_frame) e
        ∙ get_or-set_same now f (frame_with (get_or now f picture.no_frame) n c) picture.no_frame lt
        ∙ ap (λ m. frame_with (get_or now m picture.no_frame) n c) (sym e) in
        subst (λ g. SameForm g (get_or now k picture.no_frame)) (sym is)
        (record {
          routine = refl;
          back = refl;
          declared = refl;
          kinds = refl;
          long =
              length-set (get_or now k picture.no_frame).cells n c;
        })
    | inr ne ↦ subst (λ g. SameForm g (get_or now k picture.no_frame))
        (sym (get_or-set_other now f k (frame_with (get_or now f picture.no_frame) n c) picture.no_frame ne))
        (form_self (get_or now k picture.no_frame))
  ]
]

laid_form : (now : List PlainFrame) (x : Change Cell) (k : ℕ)
    → SameForm (get_or (frames_with_change now x) k picture.no_frame) (get_or now k picture.no_frame)
laid_form now x k = by (number_at now x.frame x.slot)
  where
    by : (b : Bool) → SameForm (get_or (if b then frames_with_cell now x.frame x.slot x.cell else now) k picture.no_frame)
        (get_or now k picture.no_frame)
    by true = written_form now x.frame x.slot k x.cell
    by false = form_self (get_or now k picture.no_frame)

laid_count : (now : List PlainFrame) (x : Change Cell) → length (frames_with_change now x) ≡ length now
laid_count now x = by (number_at now x.frame x.slot)
  where
    by : (b : Bool) → length (if b then frames_with_cell now x.frame x.slot x.cell else now) ≡ length now
    by true = length-set now x.frame (frame_with (get_or now x.frame picture.no_frame) x.slot x.cell)
    by false = refl

pub overlaid_count : (now : List PlainFrame) (c : Carry Cell) → length (frames_with_carry now c) ≡ length now
overlaid_count now [] = refl
overlaid_count now (x ∷ rest) = overlaid_count (frames_with_change now x) rest ∙ laid_count now x

pub overlaid_form : (now : List PlainFrame) (c : Carry Cell) (k : ℕ)
    → SameForm (get_or (frames_with_carry now c) k picture.no_frame) (get_or now k picture.no_frame)
overlaid_form now [] k = form_self (get_or now k picture.no_frame)
overlaid_form now (x ∷ rest) k =
    let a = overlaid_form (frames_with_change now x) rest k in
    let b = laid_form now x k in
    record {
      routine = a.routine ∙ b.routine;
      back = a.back ∙ b.back;
      declared = a.declared ∙ b.declared;
      kinds = a.kinds ∙ b.kinds;
      long =
          a.long ∙ b.long;
    }

-- each frame has a cell for each kind
abbrev pub AreFull : List PlainFrame → Type 0
AreFull now = (k : ℕ) → length (get_or now k picture.no_frame).cells ≡ length (get_or now k picture.no_frame).kinds

laid_full : (now : List PlainFrame) (x : Change Cell) → AreFull now → AreFull (frames_with_change now x)
laid_full now x full k = let b = laid_form now x k in b.long ∙ full k ∙ ap length (sym b.kinds)

pub number_within : (now : List PlainFrame) (f s : ℕ) → AreFull now → number_at now f s ≡ true → (f < length now)
    × (s < length (get_or now f picture.no_frame).cells)
number_within now f s full e = (
  elim (cases_lt f (length now)) [
    | inl lt ↦ lt
    | inr past ↦ let is : get_or now f picture.no_frame ≡ picture.no_frame = get_or_past now f picture.no_frame past in
        absurd (no_kind s (ap (λ g. is_number (slice_get g.kinds s)) (sym is) ∙ e))
  ],
  omega (arith, full f, kind_within (get_or now f picture.no_frame).kinds s e),
)
  where
    no_kind : (n : ℕ) → is_number (slice_get [] n) ≡ true → ⊥
    no_kind n h = absurd (cc)

    kind_within : (ks : List SlotKind) (n : ℕ) → is_number (slice_get ks n) ≡ true → n < length ks
    kind_within [] n h = absurd (no_kind n h)
    kind_within (k ∷ ks) zero h = omega arith
    kind_within (k ∷ ks) (suc n) h = omega (arith, kind_within ks n h)

pub number_overlaid : (now : List PlainFrame) (c : Carry Cell) (f s : ℕ) → number_at (frames_with_carry now c) f s ≡ number_at now f s
number_overlaid now c f s = ap (λ ks. is_number (slice_get ks s)) (overlaid_form now c f).kinds

number_laid : (now : List PlainFrame) (x : Change Cell) (f s : ℕ) → number_at (frames_with_change now x) f s ≡ number_at now f s
number_laid now x f s = ap (λ ks. is_number (slice_get ks s)) (laid_form now x f).kinds

written_here : (now : List PlainFrame) (f n : ℕ) (c : Cell) → f < length now → n < length (get_or now f picture.no_frame).cells
    → cell_at (frames_with_cell now f n c) f n cell.Unset ≡ c
written_here now f n c lt there =
    ap (λ g. get_or g.cells n cell.Unset) (get_or-set_same now f (frame_with (get_or now f picture.no_frame) n c) picture.no_frame lt)
    ∙ get_or-set_same (get_or now f picture.no_frame).cells n c cell.Unset there

laid_apart : (now : List PlainFrame) (x : Change Cell) (f s : ℕ) → (x.frame ≡ f → x.slot ≡ s → ⊥)
    → cell_at (frames_with_change now x) f s cell.Unset ≡ cell_at now f s cell.Unset
laid_apart now x f s apart = by (number_at now x.frame x.slot)
  where
    by : (b : Bool) → cell_at (if b then frames_with_cell now x.frame x.slot x.cell else now) f s cell.Unset ≡ cell_at now f s cell.Unset
    by false = refl
    by true = elim (cases_lt x.frame (length now)) [
      | inr past ↦ ap (λ z. cell_at z f s cell.Unset)
          (set_past now x.frame (frame_with (get_or now x.frame picture.no_frame) x.slot x.cell) past)
      | inl lt ↦ elim (cases_eq f x.frame) [
        | inl e ↦
            ap (λ m. get_or (get_or (frames_with_cell now x.frame x.slot x.cell) m picture.no_frame).cells s cell.Unset) e
            ∙ ap (λ h. get_or h.cells s cell.Unset) (get_or-set_same now x.frame
            (frame_with (get_or now x.frame picture.no_frame) x.slot x.cell) picture.no_frame lt)
            ∙ get_or-set_other (get_or now x.frame picture.no_frame).cells x.slot s x.cell cell.Unset (λ z. apart (sym e) (sym z))
            ∙ ap (λ m. get_or (get_or now m picture.no_frame).cells s cell.Unset) (sym e)
        | inr ne ↦ ap (λ h. get_or h.cells s cell.Unset)
            (get_or-set_other now x.frame f (frame_with (get_or now x.frame picture.no_frame) x.slot x.cell) picture.no_frame ne)
      ]
    ]

-- a slot that is not for a number stays as it is
pub overlaid_other : (now : List PlainFrame) (c : Carry Cell) (f s : ℕ) → number_at now f s ≡ false
    → cell_at (frames_with_carry now c) f s cell.Unset ≡ cell_at now f s cell.Unset
overlaid_other now [] f s none = refl
overlaid_other now (x ∷ rest) f s none = overlaid_other (frames_with_change now x) rest f s (number_laid now x f s ∙ none)
    ∙ by (is_same_place x.frame x.slot f s) refl
  where
    by : (b : Bool) → is_same_place x.frame x.slot f s ≡ b → cell_at (frames_with_change now x) f s cell.Unset ≡ cell_at now f s cell.Unset
    by true e =
        let one = same_place_is x.frame x.slot f s e in
        let no : number_at now x.frame x.slot ≡ false = ap (λ n. number_at now n x.slot) one.0 ∙ ap (λ n. number_at now f n) one.1 ∙ none in
        ap (λ b. cell_at (if b then frames_with_cell now x.frame x.slot x.cell else now) f s cell.Unset) no
    by false e = laid_apart now x f s (λ a b. let z : true ≡ false =
        sym (ap (λ n. is_same_place n x.slot f s) a ∙ ap (λ n. is_same_place f n f s) b ∙ same_itself f s) ∙ e in absurd (cc))

-- and one for a number has what is carried
pub overlaid_cell : (now : List PlainFrame) (c : Carry Cell) (f s : ℕ) → IsRising c → AreFull now → number_at now f s ≡ true
    → cell_at (frames_with_carry now c) f s cell.Unset ≡ or_else (carried_at f s c) (cell_at now f s cell.Unset)
overlaid_cell now [] f s rising full is = refl
overlaid_cell now (x ∷ rest) f s rising full is =
    overlaid_cell (frames_with_change now x) rest f s rising.1 (laid_full now x full) (number_laid now x f s ∙ is)
    ∙ by (is_same_place x.frame x.slot f s) refl
  where
    by : (b : Bool) → is_same_place x.frame x.slot f s ≡ b
        → or_else (carried_at f s rest) (cell_at (frames_with_change now x) f s cell.Unset) ≡ or_else
        (if_true b (λ _. Some x.cell) (λ _. carried_at f s rest)) (cell_at now f s cell.Unset)
    by true e =
        let one = same_place_is x.frame x.slot f s e in
        let none : carried_at f s rest ≡ None = ap (λ n. carried_at n s rest) (sym one.0) ∙ ap (λ n. carried_at x.frame n rest) (sym one.1)
        ∙ absent_below x.frame x.slot rest rising.0 in
        let there = number_within now f s full is in
        let number : number_at now x.frame x.slot ≡ true = ap (λ n. number_at now n x.slot) one.0 ∙ ap (λ n. number_at now f n) one.1
        ∙ is in
        ap (λ o. or_else o (cell_at (frames_with_change now x) f s cell.Unset)) none
        ∙ ap (λ b. cell_at (if b then frames_with_cell now x.frame x.slot x.cell else now) f s cell.Unset) number
        ∙ ap (λ n. cell_at (frames_with_cell now n x.slot x.cell) f s cell.Unset) one.0
        ∙ ap (λ n. cell_at (frames_with_cell now f n x.cell) f s cell.Unset) one.1 ∙ written_here now f s x.cell there.0 there.1
    by false e =
        ap (or_else (carried_at f s rest)) (laid_apart now x f s
        (λ a b. let z : true ≡ false = sym (ap (λ n. is_same_place n x.slot f s) a ∙ ap (λ n. is_same_place f n f s) b
        ∙ same_itself f s) ∙ e in absurd (cc)))
