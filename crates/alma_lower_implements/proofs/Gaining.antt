-- What a part changed enters the carry of the machine and that of the meaning alike.
use Rattle.std.proofs.Common.{◌≡◌, ℕ, zero, suc, ◌+◌, ◌-◌, ◌<◌, ◌≤◌, ◌⊎◌, inl, inr, Bool, true, false, not, ◌&&◌, List, [], ◌∷◌, ◌++◌}
use Rattle.std.proofs.Common.{length, get_or, Option, Some, None, refl, sym, ap, ◌∙◌, subst, arith, ℤ, pos, negsuc}
use Rattle.std.specs.Prelude.{slice_get, ◌||◌, if◌then◌else◌, nat_eq}
use Rattle.std.proofs.lemmas.List.{get_or_past}
use Rattle.std.proofs.lemmas.Bool.{cases_eq, cases_lt, eq-eqb}
use Rattle.alma_base.specs.Carry.{Change, Carry, is_same_place, carried_at, with_changes}
use Rattle.alma_base.specs.Choice.{if_true}
use Rattle.alma_base.specs.Numbers.{int_eq}
use Rattle.alma_code.specs.declared.cell.Cell.{Cell}
use Rattle.alma_code.specs.declared.cell.Cell.TheVariants as cell
use Rattle.alma_code.specs.declared.cell.CellPlace.{CellPlace}
use Rattle.alma_code.specs.declared.cell.SlotKind.{SlotKind}
use Rattle.alma_code.specs.declared.cell.SlotKind.TheVariants as slot
use Rattle.alma_code.specs.Carries.{number_at, frames_with_carry, same_cell, differs, diff_at, slot_diffs, frame_diffs, diffs}
use Rattle.alma_code.specs.Kinds.{is_number}
use Rattle.alma_code.specs.Picture.{PlainFrame, last_frame, cell_at}
use Rattle.alma_code.specs.Picture as picture
use Rattle.alma_code.specs.Plain.{PlainCode}
use Rattle.alma_ir.specs.Tree.{Program, routine_at}
use Rattle.alma_mean.specs.Store.{Store, Place, Unknown, Number, At, over, changes, changes_from, cell_changes, change_unless}
use Rattle.alma_mean.specs.Store as store
use Rattle.alma_lower_implements.proofs.Frames.{shift, shift_in, own_end, SameContent, SamePlace, StandFor, KeptBelow, Fits}
use Rattle.alma_lower_implements.proofs.Leaving.{any_kept}
use Rattle.alma_lower_implements.proofs.CarryMaps.{same_place_is, same_itself, has_place, Only, carried_all, has_both, rising_all}
use Rattle.alma_lower_implements.proofs.LaidOver.{AreFull, number_within, over_count, over_long, overlaid_count, overlaid_form}
use Rattle.alma_lower_implements.proofs.LaidOver.{number_overlaid}
use Rattle.alma_lower_implements.proofs.Carrying.{SameOption, kind_in, Alike, full_frames, number_content, laid_stands, laid_content}
use Rattle.alma_lower_implements.proofs.Carrying.{kind_number}

or_left : (a b : Bool) → a ≡ true → a || b ≡ true
or_left true b e = refl
or_left false b e = absurd (cc)

or_right : (a b : Bool) → b ≡ true → a || b ≡ true
or_right true b e = refl
or_right false b e = e

or_cases : (a b : Bool) → a || b ≡ true → (a ≡ true) ⊎ (b ≡ true)
or_cases true b e = inl refl
or_cases false b e = inr e

both_ways : (a b : Bool) → (a ≡ true → b ≡ true) → (b ≡ true → a ≡ true) → a ≡ b
both_ways true b h k = sym (h refl)
both_ways false true h k = k refl
both_ways false false h k = refl

any_default : {A : Type 0} (l : List A) (n : ℕ) (a b : A) → n < length l → get_or l n a ≡ get_or l n b
any_default [] n a b lt = absurd (omega (arith, lt))
any_default (x ∷ l) zero a b lt = refl
any_default (x ∷ l) (suc n) a b lt = any_default l n a b (omega (arith, lt))

int_itself : (x : ℤ) → int_eq x x ≡ true
int_itself (pos a) = eq-eqb a a refl
int_itself (negsuc a) = eq-eqb a a refl

-- ---- the changes of the machine

module _ (before now : List PlainFrame) where
  abbrev AllChanged : List (Change Cell) → Type 0
  AllChanged [] = Unit {0}
  AllChanged (x ∷ xs) = ((differs before now x.frame x.slot ≡ true) × (x.cell ≡ cell_at now x.frame x.slot cell.Unknown)) × AllChanged xs

  all_append : (xs ys : List (Change Cell)) → AllChanged xs → AllChanged ys → AllChanged (xs ++ ys)
  all_append [] ys h k = k
  all_append (x ∷ xs) ys h k = (h.0, all_append xs ys h.1 k)

  all_diff : (f s : ℕ) → AllChanged (diff_at before now f s)
  all_diff f s = choose (differs before now f s) refl
    where
      choose : (b : Bool) → differs before now f s ≡ b
          → AllChanged (if b then (record { frame = f; slot = s; cell = cell_at now f s cell.Unknown }) ∷ [] else [])
      choose true e = ((e, refl), tt)
      choose false e = tt

  all_slots : (f n : ℕ) → AllChanged (slot_diffs before now f n)
  all_slots f zero = tt
  all_slots f (suc n) = all_append (slot_diffs before now f n) (diff_at before now f n) (all_slots f n) (all_diff f n)

  all_frames : (n : ℕ) → AllChanged (frame_diffs before now n)
  all_frames zero = tt
  all_frames (suc n) = all_append (frame_diffs before now n) (slot_diffs before now n (length (get_or now n picture.no_frame).cells))
      (all_frames n) (all_slots n (length (get_or now n picture.no_frame).cells))

  has_sound : (f s : ℕ) (xs : List (Change Cell)) → AllChanged xs → has_place f s xs ≡ true → differs before now f s ≡ true
  has_sound f s [] h e = absurd (cc)
  has_sound f s (x ∷ xs) h e = elim (or_cases (is_same_place x.frame x.slot f s) (has_place f s xs) e) [
    | inl a ↦ let one = same_place_is x.frame x.slot f s a in ap (λ g. differs before now g s) (sym one.0)
        ∙ (ap (λ t. differs before now x.frame t) (sym one.1) ∙ h.0.0)
    | inr b ↦ has_sound f s xs h.1 b
  ]

  only_changed : (f s : ℕ) (xs : List (Change Cell)) → AllChanged xs → Only f s (cell_at now f s cell.Unknown) xs
  only_changed f s [] h = tt
  only_changed f s (x ∷ xs) h = (
    λ a. let one = same_place_is x.frame x.slot f s a in h.0.1
        ∙ ap (λ g. cell_at now g x.slot cell.Unknown) one.0 ∙ ap (λ n. cell_at now f n cell.Unknown) one.1,
    only_changed f s xs h.1,
  )

  has_diff : (f s : ℕ) → differs before now f s ≡ true → has_place f s (diff_at before now f s) ≡ true
  has_diff f s d =
      let one : diff_at before now f s ≡ (record { frame = f; slot = s; cell = cell_at now f s cell.Unknown }) ∷ [] = rw d refl in
      ap (has_place f s) one ∙ or_left (is_same_place f s f s) false (same_itself f s)

  has_slots : (f s n : ℕ) → differs before now f s ≡ true → s < n → has_place f s (slot_diffs before now f n) ≡ true
  has_slots f s zero d l = absurd (omega (arith, l))
  has_slots f s (suc n) d l = has_both f s (slot_diffs before now f n) (diff_at before now f n) ∙ elim (cases_eq s n) [
    | inl e ↦ or_right (has_place f s (slot_diffs before now f n)) (has_place f s (diff_at before now f n))
        (subst (λ m. has_place f s (diff_at before now f m) ≡ true) e (has_diff f s d))
    | inr ne ↦ or_left (has_place f s (slot_diffs before now f n)) (has_place f s (diff_at before now f n))
        (has_slots f s n d (omega (arith, l, ne)))
  ]

  has_frames : (f s n : ℕ) → differs before now f s ≡ true → f < n → s < length (get_or now f picture.no_frame).cells
      → has_place f s (frame_diffs before now n) ≡ true
  has_frames f s zero d l there = absurd (omega (arith, l))
  has_frames f s (suc n) d l there =
      let own = slot_diffs before now n (length (get_or now n picture.no_frame).cells) in
      has_both f s (frame_diffs before now n) own ∙ elim (cases_eq f n) [
        | inl e ↦
            or_right (has_place f s (frame_diffs before now n)) (has_place f s own)
            (subst (λ m. has_place f s (slot_diffs before now m (length (get_or now m picture.no_frame).cells)) ≡ true) e
            (has_slots f s (length (get_or now f picture.no_frame).cells) d there))
        | inr ne ↦ or_left (has_place f s (frame_diffs before now n)) (has_place f s own) (has_frames f s n d (omega (arith, l, ne)) there)
      ]

  differs_there : (f s : ℕ) → AreFull now → differs before now f s ≡ true → (f < length now)
      × (s < length (get_or now f picture.no_frame).cells)
  differs_there f s full d = number_within now f s full
      (second (number_at before f s) (number_at now f s) (not (same_cell (cell_at before f s cell.Unknown) (cell_at now f s cell.Unknown)))
      d)
    where
      second : (a b c : Bool) → a && (b && c) ≡ true → b ≡ true
      second true true c e = refl
      second true false c e = e
      second false b c e = absurd (cc)

  -- a place has a change where it differs
  pub has_is : (f s : ℕ) → AreFull now → has_place f s (diffs before now) ≡ differs before now f s
  has_is f s full =
      both_ways (has_place f s (diffs before now)) (differs before now f s) (has_sound f s (diffs before now) (all_frames (length now)))
      (λ d. let there = differs_there f s full d in has_frames f s (length now) d there.0 there.1)

  pub gained : (f s : ℕ) (c : Carry Cell) → AreFull now
      → carried_at f s (with_changes (diffs before now) c) ≡ if_true (differs before now f s) (λ _. Some (cell_at now f s cell.Unknown))
      (λ _. carried_at f s c)
  gained f s c full =
      carried_all f s (cell_at now f s cell.Unknown) (diffs before now) c (only_changed f s (diffs before now) (all_frames (length now)))
      ∙ ap (λ b. if_true b (λ _. Some (cell_at now f s cell.Unknown)) (λ _. carried_at f s c)) (has_is f s full)

-- ---- the changes of the meaning

module _ (u t : Store) where
  abbrev Changed : (f i : ℕ) → Bool
  Changed f i = not (store.same_cell (store.cell_at u f i) (store.cell_at t f i))

  abbrev AllMeant : List (Change store.Cell) → Type 0
  AllMeant [] = Unit {0}
  AllMeant (x ∷ xs) = ((Changed x.frame x.slot ≡ true) × (x.cell ≡ store.cell_at t x.frame x.slot)) × AllMeant xs

  meant_append : (xs ys : List (Change store.Cell)) → AllMeant xs → AllMeant ys → AllMeant (xs ++ ys)
  meant_append [] ys h k = k
  meant_append (x ∷ xs) ys h k = (h.0, meant_append xs ys h.1 k)

  meant_cells : (g s : ℕ) (olds news : List store.Cell) → ((j : ℕ) → j < length olds → get_or olds j Unknown ≡ store.cell_at u g (s + j))
      → ((j : ℕ) → j < length news → get_or news j Unknown ≡ store.cell_at t g (s + j)) → AllMeant (cell_changes g s olds news)
  meant_cells g s [] news h k = tt
  meant_cells g s (old ∷ olds) [] h k = tt
  meant_cells g s (old ∷ olds) (c ∷ news) h k =
      by
      (meant_cells g (suc s) olds news (λ j lt. h (suc j) (omega (arith, lt))
      ∙ (let e : s + suc j ≡ suc s + j = omega arith in ap (store.cell_at u g) e))
      (λ j lt. k (suc j) (omega (arith, lt)) ∙ (let e : s + suc j ≡ suc s + j = omega arith in ap (store.cell_at t g) e)))
      (store.same_cell old c) refl
    where
      old_is : old ≡ store.cell_at u g s
      old_is = h 0 (omega arith) ∙ (let e : s + 0 ≡ s = omega arith in ap (store.cell_at u g) e)

      new_is : c ≡ store.cell_at t g s
      new_is = k 0 (omega arith) ∙ (let e : s + 0 ≡ s = omega arith in ap (store.cell_at t g) e)

      by : AllMeant (cell_changes g (suc s) olds news) → (b : Bool) → store.same_cell old c ≡ b
          → AllMeant (change_unless b g s c (cell_changes g (suc s) olds news))
      by rest true e = rest
      by rest false e = (
        (
          ap (λ x. not (store.same_cell x (store.cell_at t g s))) (sym old_is) ∙ ap (λ x. not (store.same_cell old x)) (sym new_is)
              ∙ ap not e,
          new_is,
        ),
        rest,
      )

  meant_from : (k : ℕ) (us ts : Store) → ((j : ℕ) → j < length us → get_or us j store.no_frame ≡ get_or u (k + j) store.no_frame)
      → ((j : ℕ) → j < length ts → get_or ts j store.no_frame ≡ get_or t (k + j) store.no_frame) → AllMeant (changes_from k us ts)
  meant_from k [] ts h l = tt
  meant_from k (f ∷ us) [] h l = tt
  meant_from k (f ∷ us) (g ∷ ts) h l =
      let k0 : k + 0 ≡ k = omega arith in
      meant_append (cell_changes k 0 f.cells g.cells) (changes_from (suc k) us ts)
      (meant_cells k 0 f.cells g.cells
      (λ j lt. ap (λ x. get_or x.cells j Unknown) (h 0 (omega arith)) ∙ ap (λ n. store.cell_at u n j) k0
      ∙ (let e : j ≡ 0 + j = omega arith in ap (store.cell_at u k) e))
      (λ j lt. ap (λ x. get_or x.cells j Unknown) (l 0 (omega arith)) ∙ ap (λ n. store.cell_at t n j) k0
      ∙ (let e : j ≡ 0 + j = omega arith in ap (store.cell_at t k) e)))
      (meant_from (suc k) us ts (λ j lt. h (suc j) (omega (arith, lt))
      ∙ (let e : k + suc j ≡ suc k + j = omega arith in ap (λ n. get_or u n store.no_frame) e))
      (λ j lt. l (suc j) (omega (arith, lt)) ∙ (let e : k + suc j ≡ suc k + j = omega arith in ap (λ n. get_or t n store.no_frame) e)))

  meant_sound : (f i : ℕ) (xs : List (Change store.Cell)) → AllMeant xs → has_place f i xs ≡ true → Changed f i ≡ true
  meant_sound f i [] h e = absurd (cc)
  meant_sound f i (x ∷ xs) h e = elim (or_cases (is_same_place x.frame x.slot f i) (has_place f i xs) e) [
    | inl a ↦ let one = same_place_is x.frame x.slot f i a in ap (λ g. Changed g i) (sym one.0)
        ∙ (ap (λ n. Changed x.frame n) (sym one.1) ∙ h.0.0)
    | inr b ↦ meant_sound f i xs h.1 b
  ]

  only_meant : (f i : ℕ) (xs : List (Change store.Cell)) → AllMeant xs → Only f i (store.cell_at t f i) xs
  only_meant f i [] h = tt
  only_meant f i (x ∷ xs) h = (
    λ a. let one = same_place_is x.frame x.slot f i a in h.0.1 ∙ ap (λ g. store.cell_at t g x.slot) one.0
        ∙ ap (λ n. store.cell_at t f n) one.1,
    only_meant f i xs h.1,
  )

  cells_have : (g s j : ℕ) (olds news : List store.Cell) → j < length olds → j < length news
      → not (store.same_cell (get_or olds j Unknown) (get_or news j Unknown)) ≡ true
      → has_place g (s + j) (cell_changes g s olds news) ≡ true
  cells_have g s j [] news a b e = absurd (omega (arith, a))
  cells_have g s j (old ∷ olds) [] a b e = absurd (omega (arith, b))
  cells_have g s zero (old ∷ olds) (c ∷ news) a b e = by (store.same_cell old c) e
    where
      by : (x : Bool) → not x ≡ true → has_place g (s + 0) (change_unless x g s c (cell_changes g (suc s) olds news)) ≡ true
      by true z = absurd (cc)
      by false z = or_left (is_same_place g s g (s + 0)) (has_place g (s + 0) (cell_changes g (suc s) olds news))
          (let n : s ≡ s + 0 = omega arith in ap (λ m. is_same_place g m g (s + 0)) n ∙ same_itself g (s + 0))
  cells_have g s (suc j) (old ∷ olds) (c ∷ news) a b e =
      by ((let n : s + suc j ≡ suc s + j = omega arith in ap (λ m. has_place g m (cell_changes g (suc s) olds news)) n)
      ∙ cells_have g (suc s) j olds news (omega (arith, a)) (omega (arith, b)) e) (store.same_cell old c)
    where
      by : has_place g (s + suc j) (cell_changes g (suc s) olds news) ≡ true → (x : Bool)
          → has_place g (s + suc j) (change_unless x g s c (cell_changes g (suc s) olds news)) ≡ true
      by rest true = rest
      by rest false = or_right (is_same_place g s g (s + suc j)) (has_place g (s + suc j) (cell_changes g (suc s) olds news)) rest

  frames_have : (k j i : ℕ) (us ts : Store) → j < length us → j < length ts → i < length (get_or us j store.no_frame).cells
      → i < length (get_or ts j store.no_frame).cells → not (store.same_cell (store.cell_at us j i) (store.cell_at ts j i)) ≡ true
      → has_place (k + j) i (changes_from k us ts) ≡ true
  frames_have k j i [] ts a b x y e = absurd (omega (arith, a))
  frames_have k j i (f ∷ us) [] a b x y e = absurd (omega (arith, b))
  frames_have k zero i (f ∷ us) (g ∷ ts) a b x y e =
      has_both (k + 0) i (cell_changes k 0 f.cells g.cells) (changes_from (suc k) us ts)
      ∙ or_left (has_place (k + 0) i (cell_changes k 0 f.cells g.cells)) (has_place (k + 0) i (changes_from (suc k) us ts))
      ((let n : k + 0 ≡ k = omega arith in ap (λ m. has_place m i (cell_changes k 0 f.cells g.cells)) n)
      ∙ (let n : i ≡ 0 + i = omega arith in ap (λ m. has_place k m (cell_changes k 0 f.cells g.cells)) n)
      ∙ cells_have k 0 i f.cells g.cells x y e)
  frames_have k (suc j) i (f ∷ us) (g ∷ ts) a b x y e =
      has_both (k + suc j) i (cell_changes k 0 f.cells g.cells) (changes_from (suc k) us ts)
      ∙ or_right (has_place (k + suc j) i (cell_changes k 0 f.cells g.cells)) (has_place (k + suc j) i (changes_from (suc k) us ts))
      ((let n : k + suc j ≡ suc k + j = omega arith in ap (λ m. has_place m i (changes_from (suc k) us ts)) n)
      ∙ frames_have (suc k) j i us ts (omega (arith, a)) (omega (arith, b)) x y e)

  all_meant : AllMeant (changes u t)
  all_meant = meant_from 0 u t (λ j lt. let e : j ≡ 0 + j = omega arith in ap (λ n. get_or u n store.no_frame) e)
      (λ j lt. let e : j ≡ 0 + j = omega arith in ap (λ n. get_or t n store.no_frame) e)

  pub meant_is : (f i : ℕ) → f < length u → f < length t → i < length (get_or u f store.no_frame).cells
      → i < length (get_or t f store.no_frame).cells → has_place f i (changes u t) ≡ Changed f i
  meant_is f i a b x y =
      both_ways (has_place f i (changes u t)) (Changed f i) (meant_sound f i (changes u t) all_meant)
      (λ e. (let n : f ≡ 0 + f = omega arith in ap (λ m. has_place m i (changes u t)) n) ∙ frames_have 0 f i u t a b x y e)

  pub meant_gained : (f i : ℕ) (carry : Carry store.Cell) → f < length u → f < length t → i < length (get_or u f store.no_frame).cells
      → i < length (get_or t f store.no_frame).cells
      → carried_at f i (with_changes (changes u t) carry) ≡ if_true (Changed f i) (λ _. Some (store.cell_at t f i))
      (λ _. carried_at f i carry)
  meant_gained f i carry a b x y =
      carried_all f i (store.cell_at t f i) (changes u t) carry (only_meant f i (changes u t) all_meant)
      ∙ ap (λ d. if_true d (λ _. Some (store.cell_at t f i)) (λ _. carried_at f i carry)) (meant_is f i a b x y)

-- ---- both alike

module _ (p : Program) (code : PlainCode) where
  same_numbers : (v : Store) (a b : store.Cell) (x y : Cell) → SameContent p v slot.Number a x → SameContent p v slot.Number b y
      → store.same_cell a b ≡ same_cell x y
  same_numbers v Unknown Unknown cell.Unknown cell.Unknown h k = refl
  same_numbers v Unknown (Number b) cell.Unknown (cell.Int y) h k = refl
  same_numbers v (Number a) Unknown (cell.Int x) cell.Unknown h k = refl
  same_numbers v (Number a) (Number b) (cell.Int x) (cell.Int y) h k = ap (λ n. int_eq n b) h.0 ∙ ap (int_eq x) k.0
  same_numbers v Unknown b cell.Unset y h k = absurd h
  same_numbers v Unknown b (cell.Int x) y h k = absurd h
  same_numbers v Unknown b (cell.Place x) y h k = absurd h
  same_numbers v Unknown b (cell.Mark x) y h k = absurd h
  same_numbers v (Number a) b cell.Unknown y h k = absurd h
  same_numbers v (Number a) b cell.Unset y h k = absurd h
  same_numbers v (Number a) b (cell.Place x) y h k = absurd h
  same_numbers v (Number a) b (cell.Mark x) y h k = absurd h
  same_numbers v (At q) b x y h k = absurd h
  same_numbers v Unknown Unknown cell.Unknown cell.Unset h k = absurd k
  same_numbers v Unknown Unknown cell.Unknown (cell.Int y) h k = absurd k
  same_numbers v Unknown Unknown cell.Unknown (cell.Place y) h k = absurd k
  same_numbers v Unknown Unknown cell.Unknown (cell.Mark y) h k = absurd k
  same_numbers v Unknown (Number b) cell.Unknown cell.Unknown h k = absurd k
  same_numbers v Unknown (Number b) cell.Unknown cell.Unset h k = absurd k
  same_numbers v Unknown (Number b) cell.Unknown (cell.Place y) h k = absurd k
  same_numbers v Unknown (Number b) cell.Unknown (cell.Mark y) h k = absurd k
  same_numbers v Unknown (At q) cell.Unknown y h k = absurd k
  same_numbers v (Number a) Unknown (cell.Int x) cell.Unset h k = absurd k
  same_numbers v (Number a) Unknown (cell.Int x) (cell.Int y) h k = absurd k
  same_numbers v (Number a) Unknown (cell.Int x) (cell.Place y) h k = absurd k
  same_numbers v (Number a) Unknown (cell.Int x) (cell.Mark y) h k = absurd k
  same_numbers v (Number a) (Number b) (cell.Int x) cell.Unknown h k = absurd k
  same_numbers v (Number a) (Number b) (cell.Int x) cell.Unset h k = absurd k
  same_numbers v (Number a) (Number b) (cell.Int x) (cell.Place y) h k = absurd k
  same_numbers v (Number a) (Number b) (cell.Int x) (cell.Mark y) h k = absurd k
  same_numbers v (Number a) (At q) (cell.Int x) y h k = absurd k

  machine_itself : (c : Cell) → same_cell c c ≡ true
  machine_itself cell.Unknown = refl
  machine_itself cell.Unset = refl
  machine_itself (cell.Int x) = int_itself x
  machine_itself (cell.Place q) = ap (λ b. b && (nat_eq q.slot q.slot && nat_eq q.len q.len)) (eq-eqb q.frame q.frame refl)
      ∙ ap (λ b. b && nat_eq q.len q.len) (eq-eqb q.slot q.slot refl) ∙ eq-eqb q.len q.len refl
  machine_itself (cell.Mark h) = eq-eqb h h refl

  meant_itself : (c : store.Cell) → store.same_cell c c ≡ true
  meant_itself Unknown = refl
  meant_itself (Number x) = int_itself x
  meant_itself (At q) = ap (λ b. (b && nat_eq q.slot q.slot) && nat_eq q.size q.size) (eq-eqb q.frame q.frame refl)
      ∙ ap (λ b. b && nat_eq q.size q.size) (eq-eqb q.slot q.slot refl) ∙ eq-eqb q.size q.size refl

  -- a slot that is as it was does not differ
  kept_is_same : (before now : List PlainFrame) (f s : ℕ) → AreFull before → AreFull now
      → cell_at now f s cell.Unset ≡ cell_at before f s cell.Unset → differs before now f s ≡ false
  kept_is_same before now f s full_before full e = by (number_at before f s) refl (number_at now f s) refl
    where
      by : (a : Bool) → number_at before f s ≡ a → (b : Bool) → number_at now f s ≡ b → differs before now f s ≡ false
      by false x b y = ap (λ z. z
          && (number_at now f s && not (same_cell (cell_at before f s cell.Unknown) (cell_at now f s cell.Unknown)))) x
      by true x false y = ap (λ z. z
          && (number_at now f s && not (same_cell (cell_at before f s cell.Unknown) (cell_at now f s cell.Unknown)))) x
          ∙ ap (λ z. z && not (same_cell (cell_at before f s cell.Unknown) (cell_at now f s cell.Unknown))) y
      by true x true y =
          let a = number_within before f s full_before x in
          let b = number_within now f s full y in
          let same : cell_at now f s cell.Unknown ≡ cell_at before f s cell.Unknown =
          any_default (get_or now f picture.no_frame).cells s cell.Unknown cell.Unset b.1 ∙ e
          ∙ any_default (get_or before f picture.no_frame).cells s cell.Unset cell.Unknown a.1 in
          ap (λ z. z && (number_at now f s && not (same_cell (cell_at before f s cell.Unknown) (cell_at now f s cell.Unknown)))) x
          ∙ ap (λ z. z && not (same_cell (cell_at before f s cell.Unknown) (cell_at now f s cell.Unknown))) y
          ∙ ap (λ c. not (same_cell (cell_at before f s cell.Unknown) c)) same ∙ ap not (machine_itself (cell_at before f s cell.Unknown))

  -- one frame after a part
  frame_kept : (lo k : ℕ) (n : ℕ) (before now : List PlainFrame) → k < n → length before ≡ n → length now ≡ n
      → KeptBelow p code lo (last_frame before) (last_frame now)
      → ((j : ℕ) → suc j < length now → KeptBelow p code (length (get_or before j picture.no_frame).cells)
      (get_or before j picture.no_frame) (get_or now j picture.no_frame))
      → (lo2 : ℕ) → (suc k < n) ⊎ (lo2 ≤ lo) → KeptBelow p code lo2 (get_or before k picture.no_frame) (get_or now k picture.no_frame)
  frame_kept lo k n before now lt long_before long top others lo2 where_ = elim (cases_lt (suc k) n) [
    | inl inside ↦ any_kept p code lo2 (get_or before k picture.no_frame) (get_or now k picture.no_frame)
        (others k (omega (arith, inside, long)))
    | inr last ↦
        let le : lo2 ≤ lo = elim where_ [
          | inl inside ↦ absurd (omega (arith, inside, last))
          | inr le ↦ le
        ] in
        let a : length before - 1 ≡ k = omega (arith, last, lt, long_before) in
        let b : length now - 1 ≡ k = omega (arith, last, lt, long) in
        let h : KeptBelow p code lo (get_or before k picture.no_frame) (get_or now k picture.no_frame) =
        subst (λ m. KeptBelow p code lo (get_or before k picture.no_frame) (get_or now m picture.no_frame)) b
        (subst (λ m. KeptBelow p code lo (get_or before m picture.no_frame) (last_frame now)) a top) in
        record {
          back = h.back;
          routine = h.routine;
          declared = h.declared;
          long = h.long;
          link = h.link;
          cells =
              λ i from to. h.cells i from (omega (arith, to, le));
          kinds = h.kinds;
          places = h.places;
        }
  ]

  same_places : (u t : Store) (l : ℕ) (a b : store.Cell) (x y : Cell) → ((k : ℕ) → shift_in p t k ≡ shift_in p u k)
      → SameContent p u (slot.Place l) a x → SameContent p t (slot.Place l) b y → y ≡ x → a ≡ b
  same_places u t l a b x y shifts h k e = by a b x h (subst (SameContent p t (slot.Place l) b) e k)
    where
      place_is : (q r : Place) (c : CellPlace) → SamePlace p u q c → SamePlace p t r c → q ≡ r
      place_is q r c h k =
          let frame : q.frame ≡ r.frame = h.frame ∙ sym k.frame in
          let sh : shift_in p t r.frame ≡ shift_in p u q.frame = shifts r.frame ∙ ap (shift_in p u) (sym frame) in
          let slot : q.slot ≡ r.slot = omega (arith, h.slot, k.slot, sh) in
          ap (λ n. record { frame = n; slot = q.slot; size = q.size }) frame
          ∙ ap (λ n. record { frame = r.frame; slot = n; size = q.size }) slot
          ∙ ap (λ n. record { frame = r.frame; slot = r.slot; size = n }) (h.size ∙ sym k.size)

      by : (a b : store.Cell) (x : Cell) → SameContent p u (slot.Place l) a x → SameContent p t (slot.Place l) b x → a ≡ b
      by Unknown Unknown x h k = refl
      by Unknown (Number n) x h k = absurd k
      by Unknown (At q) cell.Unset h k = absurd k
      by Unknown (At q) cell.Unknown h k = absurd h
      by Unknown (At q) (cell.Int n) h k = absurd h
      by Unknown (At q) (cell.Place c) h k = absurd h
      by Unknown (At q) (cell.Mark n) h k = absurd h
      by (Number n) b x h k = absurd h
      by (At q) Unknown (cell.Place c) h k = absurd k
      by (At q) (Number n) (cell.Place c) h k = absurd k
      by (At q) (At r) (cell.Place c) h k = ap At (place_is q r c h k)
      by (At q) b cell.Unknown h k = absurd h
      by (At q) b cell.Unset h k = absurd h
      by (At q) b (cell.Int n) h k = absurd h
      by (At q) b (cell.Mark n) h k = absurd h

  pick_option : (v : Store) (b d : Bool) (a : store.Cell) (y : Cell) (o : Option store.Cell) (x : Option Cell) → b ≡ d
      → SameContent p v slot.Number a y → SameOption p code v o x
      → SameOption p code v (if_true b (λ _. Some a) (λ _. o)) (if_true d (λ _. Some y) (λ _. x))
  pick_option v true true a y o x e h k = h
  pick_option v false false a y o x e h k = k
  pick_option v true false a y o x e h k = absurd (cc)
  pick_option v false true a y o x e h k = absurd (cc)

  -- a part ran in the frames over which the carry was laid, and left what it does not own below `least`
  module _ (least : ℕ) (x : Store) (t : List PlainFrame) (c : Carry Cell) (carry : Carry store.Cell) (stand : StandFor p code x t)
      (alike : Alike p code least x t c carry) (w : Store) (n : List PlainFrame) (fit : Fits p code least (frames_with_carry t c) w n) where
    abbrev u : Store
    u = over x carry

    abbrev before : List PlainFrame
    before = frames_with_carry t c

    stand_before : StandFor p code u before
    stand_before = laid_stands p code least x t c carry stand alike

    count : length w ≡ length x
    count = sym fit.stand.count ∙ fit.same_count ∙ overlaid_count t c ∙ stand.count

    kept : (k lo2 : ℕ) → k < length x → (suc k < length x) ⊎ (lo2 ≤ least)
        → KeptBelow p code lo2 (get_or before k picture.no_frame) (get_or n k picture.no_frame)
    kept k lo2 lt where_ = frame_kept least k (length x) before n lt (overlaid_count t c ∙ stand.count) (fit.stand.count ∙ count) fit.top
        fit.others lo2 where_

    routine_is : (k : ℕ) → k < length x → (get_or w k store.no_frame).routine ≡ (get_or x k store.no_frame).routine
    routine_is k lt = (fit.stand.frames k (omega (arith, lt, count))).routine ∙ (kept k 0 lt (inr (omega arith))).routine
        ∙ (overlaid_form t c k).routine ∙ sym (stand.frames k lt).routine

    shift_is : (k : ℕ) → shift_in p w k ≡ shift_in p x k
    shift_is k = elim (cases_lt k (length x)) [
      | inl lt ↦ ap (shift p) (routine_is k lt)
      | inr past ↦ ap (λ g. shift p g.routine)
          (get_or_past w k store.no_frame (omega (arith, past, count)) ∙ sym (get_or_past x k store.no_frame past))
    ]

    long_is : (k : ℕ) → k < length x → length (get_or w k store.no_frame).cells ≡ length (get_or x k store.no_frame).cells
    long_is k lt = (fit.stand.frames k (omega (arith, lt, count))).slots ∙ ap (λ r. (routine_at p r).slots) (routine_is k lt)
        ∙ sym (stand.frames k lt).slots

    kinds_is : (k : ℕ) → k < length x → (get_or n k picture.no_frame).kinds ≡ (get_or t k picture.no_frame).kinds
    kinds_is k lt = (kept k 0 lt (inr (omega arith))).kinds ∙ (overlaid_form t c k).kinds

    full_before : AreFull before
    full_before = full_frames p code u before stand_before

    full_now : AreFull n
    full_now = full_frames p code w n fit.stand

    left_content : (f i : ℕ) (k : SlotKind) → f < length x → i < length (get_or x f store.no_frame).cells → kind_in p code x t f i ≡ k
        → SameContent p w k (store.cell_at w f i) (cell_at n f (shift_in p x f + i) cell.Unset)
    left_content f i k lt there e =
        let raw = (fit.stand.frames f (omega (arith, lt, count))).cells i (omega (arith, there, long_is f lt)) in
        let moved = subst (λ m. SameContent p w (get_or (get_or n f picture.no_frame).kinds (m + i) slot.Mark) (store.cell_at w f i)
        (cell_at n f (m + i) cell.Unset)) (shift_is f) raw in
        subst (λ z. SameContent p w z (store.cell_at w f i) (cell_at n f (shift_in p x f + i) cell.Unset))
        (ap (λ ks. get_or ks (shift_in p x f + i) slot.Mark) (kinds_is f lt) ∙ e) moved

    unchanged : (f s : ℕ) → cell_at n f s cell.Unset ≡ cell_at before f s cell.Unset → carried_at f s c ≡ None
        → carried_at f s (with_changes (diffs before n) c) ≡ None
    unchanged f s same none =
        gained before n f s c full_now ∙ ap (λ b. if_true b (λ _. Some (cell_at n f s cell.Unknown)) (λ _. carried_at f s c))
        (kept_is_same before n f s full_before full_now same) ∙ none

    meant : (f i : ℕ) → f < length x → i < length (get_or x f store.no_frame).cells
        → carried_at f i (with_changes (changes u w) carry) ≡ if_true (not (store.same_cell (store.cell_at u f i) (store.cell_at w f i)))
        (λ _. Some (store.cell_at w f i)) (λ _. carried_at f i carry)
    meant f i lt there =
        meant_gained u w f i carry (omega (arith, lt, over_count x carry)) (omega (arith, lt, count))
        (omega (arith, there, over_long x carry f)) (omega (arith, there, long_is f lt))

    numbers_gain : (f i : ℕ) → f < length x → i < length (get_or x f store.no_frame).cells → kind_in p code x t f i ≡ slot.Number
        → SameOption p code x (carried_at f i (with_changes (changes u w) carry))
        (carried_at f (shift_in p x f + i) (with_changes (diffs before n) c))
    numbers_gain f i lt there e =
        let s = shift_in p x f + i in
        let is_t : number_at t f s ≡ true = kind_number p code least x t c carry stand alike f i slot.Number lt there e in
        let is_before : number_at before f s ≡ true = number_overlaid t c f s ∙ is_t in
        let is_now : number_at n f s ≡ true = ap (λ ks. is_number (slice_get ks s)) (kinds_is f lt) ∙ is_t in
        let in_before = number_within before f s full_before is_before in
        let in_now = number_within n f s full_now is_now in
        let a = any_default (get_or before f picture.no_frame).cells s cell.Unset cell.Unknown in_before.1 in
        let b = any_default (get_or n f picture.no_frame).cells s cell.Unset cell.Unknown in_now.1 in
        let first : SameContent p x slot.Number (store.cell_at u f i) (cell_at before f s cell.Unknown) =
        subst (SameContent p x slot.Number (store.cell_at u f i)) a
        (laid_content p code least x t c carry stand alike f i slot.Number lt there e) in
        let second : SameContent p x slot.Number (store.cell_at w f i) (cell_at n f s cell.Unknown) =
        subst (SameContent p x slot.Number (store.cell_at w f i)) b
        (number_content p code w x (store.cell_at w f i) (cell_at n f s cell.Unset) (left_content f i slot.Number lt there e)) in
        let same = same_numbers x (store.cell_at u f i) (store.cell_at w f i) (cell_at before f s cell.Unknown) (cell_at n f s cell.Unknown)
        first second in
        let tests : differs before n f s ≡ not (same_cell (cell_at before f s cell.Unknown) (cell_at n f s cell.Unknown)) =
        ap (λ z. z && (number_at n f s && not (same_cell (cell_at before f s cell.Unknown) (cell_at n f s cell.Unknown)))) is_before
        ∙ ap (λ z. z && not (same_cell (cell_at before f s cell.Unknown) (cell_at n f s cell.Unknown))) is_now in
        subst (λ o. SameOption p code x o (carried_at f s (with_changes (diffs before n) c))) (sym (meant f i lt there))
        (subst (SameOption p code x (if_true (not (store.same_cell (store.cell_at u f i) (store.cell_at w f i)))
        (λ _. Some (store.cell_at w f i)) (λ _. carried_at f i carry))) (sym (gained before n f s c full_now))
        (pick_option x (not (store.same_cell (store.cell_at u f i) (store.cell_at w f i))) (differs before n f s) (store.cell_at w f i)
        (cell_at n f s cell.Unknown) (carried_at f i carry) (carried_at f s c) (ap not same ∙ sym tests) second
        (alike.numbers f i lt there e)))

    -- what the part changed enters both carries alike
    pub gains : Alike p code least x t (with_changes (diffs before n) c) (with_changes (changes u w) carry)
    gains = record {
      rising = rising_all (diffs before n) c alike.rising;
      carry_rising = rising_all (changes u w) carry alike.carry_rising;
      numbers = numbers_gain;
      places = λ f i l lt there e.
          let s = shift_in p x f + i in
          let slot_kind : get_or (get_or before f picture.no_frame).kinds s slot.Mark ≡ slot.Place l =
          ap (λ ks. get_or ks s slot.Mark) (overlaid_form t c f).kinds ∙ e in
          let routine : (get_or before f picture.no_frame).routine ≡ (get_or x f store.no_frame).routine = (overlaid_form t c f).routine
          ∙ sym (stand.frames f lt).routine in
          let own : s < own_end p (get_or before f picture.no_frame).routine =
          omega (arith, there, (stand.frames f lt).slots, ap (own_end p) routine) in
          let stays : cell_at n f s cell.Unset ≡ cell_at before f s cell.Unset =
          (kept f 0 lt (inr (omega arith))).places s l slot_kind own in
          let same : store.cell_at u f i ≡ store.cell_at w f i =
          same_places x w l (store.cell_at u f i) (store.cell_at w f i) (cell_at before f s cell.Unset) (cell_at n f s cell.Unset) shift_is
          (laid_content p code least x t c carry stand alike f i (slot.Place l) lt there e) (left_content f i (slot.Place l) lt there e)
          stays in
          meant f i lt there ∙ ap (λ b. if_true b (λ _. Some (store.cell_at w f i)) (λ _. carried_at f i carry))
          (ap (λ z. not (store.same_cell z (store.cell_at w f i))) same ∙ ap not (meant_itself (store.cell_at w f i)))
          ∙ alike.places f i l lt there e;
      links = λ f s lt small.
          let routine : (get_or before f picture.no_frame).routine ≡ (get_or x f store.no_frame).routine = (overlaid_form t c f).routine
          ∙ sym (stand.frames f lt).routine in
          unchanged f s ((kept f 0 lt (inr (omega arith))).link s (omega (arith, small, ap (shift p) routine))) (alike.links f s lt small);
      temps = λ f s lt behind where_.
          let routine : (get_or before f picture.no_frame).routine ≡ (get_or x f store.no_frame).routine = (overlaid_form t c f).routine
          ∙ sym (stand.frames f lt).routine in
          let same : cell_at n f s cell.Unset ≡ cell_at before f s cell.Unset = (kept f (suc s) lt (elim where_ [
            | inl inside ↦ inl inside
            | inr early ↦ inr (omega (arith, early))
          ])).cells s (omega (arith, behind, ap (own_end p) routine)) (omega arith) in
          unchanged f s same (alike.temps f s lt behind where_);
    }
