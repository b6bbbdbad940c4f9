-- The arguments of a call as the machine reads them from their slots, and the counts that a call asks.
use Rattle.std.proofs.Common.{◌≡◌, ℕ, zero, suc, ◌+◌, ◌<◌, List, [], ◌∷◌, ◌++◌, length, map, get_or, Some, refl, sym, ap, ◌∙◌, arith}
use Rattle.std.specs.Prelude.{slice_get, true, ◌&&◌, sum_by}
use Rattle.std.proofs.lemmas.Bool.{eq-eqb}
use Rattle.std.proofs.lemmas.List.Sums.{sum_by-cons, sum-map}
use Rattle.std.proofs.lemmas.Option.{slice_get-get_or}
use Rattle.alma_base.specs.Choice.{if_true}
use Rattle.alma_code.specs.declared.cell.Cell.{Cell}
use Rattle.alma_code.specs.declared.cell.Cell.TheVariants as cell
use Rattle.alma_code.specs.declared.cell.CellPlace.{CellPlace}
use Rattle.alma_code.specs.declared.cell.SlotKind.TheVariants as slot
use Rattle.alma_code.specs.declared.head.ParamKind.TheVariants as param
use Rattle.alma_code.specs.Carries.{number_at}
use Rattle.alma_code.specs.Kinds.{is_number}
use Rattle.alma_code.specs.Picture.{PlainFrame, PlainEntry, last_frame}
use Rattle.alma_code.specs.Picture as picture
use Rattle.alma_code.specs.Plain.{PlainCode, PlainRoutine}
use Rattle.alma_code.specs.Machine.{State, StepResult, numbers_at, as_argument, arguments, slot_of, gets_stuck, link_to}
use Rattle.alma_ir.specs.declared.program.ArgKind.{ArgKind}
use Rattle.alma_ir.specs.declared.program.Param.{Param}
use Rattle.alma_ir.specs.Tree.{Program, routine_at}
use Rattle.alma_mean.specs.Store.{Store, Place}
use Rattle.alma_mean.specs.Store as store
use Rattle.alma_mean.specs.Rows.{ArgValue}
use Rattle.alma_lower_implements.proofs.Frames.{shift_in, StandFor, IsAt}
use Rattle.alma_lower_implements.proofs.Steps.{Holds, passed}
use Rattle.alma_lower_implements.proofs.CallSteps.{HoldsArguments}
use Rattle.alma_lower_implements.proofs.CallRow.{CountsAlike}
use Rattle.alma_lower_templates.specs.Compiled.{param_kind, param_named, link_params}
use Rattle.alma_lower_templates.proofs.NewFrame.{PlaceAlike, HandedAs, a_value, a_place, mix_value, mix_place, some_cells, AllHanded}
use Rattle.alma_lower_templates.proofs.NewFrame.{with_link, handed_all, IsCompiled}

-- these cells stand in slots of the top frame, one behind another
abbrev pub HeldFrom : List PlainFrame → (first : ℕ) → List Cell → Type 0
HeldFrom now first [] = Unit {0}
HeldFrom now first (c ∷ cs) = Holds now first c × HeldFrom now (suc first) cs

-- ---- counts

sums_alike : {A B : Type 0} (f : A → ℕ) (g : B → ℕ) (a : A) (b : B) (xs : List A) (ys : List B) → length xs ≡ length ys
    → ((k : ℕ) → k < length ys → f (get_or xs k a) ≡ g (get_or ys k b)) → sum_by f xs ≡ sum_by g ys
sums_alike f g a b [] [] long h = refl
sums_alike f g a b [] (y ∷ ys) long h = absurd (omega (arith, long))
sums_alike f g a b (x ∷ xs) [] long h = absurd (omega (arith, long))
sums_alike f g a b (x ∷ xs) (y ∷ ys) long h =
    omega (
      arith,
      sum_by-cons f x xs,
      sum_by-cons g y ys,
      h 0 (omega arith),
      sums_alike f g a b xs ys (omega (arith, long)) (λ k lt. h (suc k) (omega (arith, lt))),
    )

module _ (p : Program) (code : PlainCode) (input : List ℕ) where
  pub counts_alike : (v : Store) (now : List PlainFrame) (callee : PlainRoutine) (r : ℕ) → StandFor p code v now
      → IsCompiled p code r callee → CountsAlike code input p v now callee r
  counts_alike v now callee r stand is = record {
    frames = stand.count;
    cells = sum-map (λ f. f.declared) now ∙ sums_alike (λ f. f.declared) (λ f. (routine_at p f.routine).declared) picture.no_frame
        store.no_frame now v stand.count stand.declared;
    declared = is.declared;
  }

  module _ (v : Store) (now : List PlainFrame) (stand : StandFor p code v now) (s : State) (frames : s.now ≡ now) where
    numbers_up : (n f i : ℕ) → ((k : ℕ) → k < n → number_at now f (i + k) ≡ true) → numbers_at n now f i ≡ true
    numbers_up zero f i h = refl
    numbers_up (suc n) f i h =
        let first : number_at now f i ≡ true = (let e : i ≡ i + 0 = omega arith in ap (number_at now f) e) ∙ h 0 (omega arith) in
        ap (λ b. b && numbers_at n now f (suc i)) first
        ∙ numbers_up n f (suc i) (λ k lt. (let e : suc i + k ≡ i + suc k = omega arith in ap (number_at now f) e)
        ∙ h (suc k) (omega (arith, lt)))

    place_numbers : (n : ℕ) (q : Place) (c : CellPlace) → PlaceAlike p code v now n q c → numbers_at n now c.frame c.slot ≡ true
    place_numbers n q c alike = numbers_up n c.frame c.slot (λ k lt.
        let inside : k < q.size = omega (arith, lt, alike.size) in
        let frame = stand.frames q.frame alike.numbers.frame in
        let sh = shift_in p v q.frame in
        let kinds = (get_or now q.frame picture.no_frame).kinds in
        let at : c.slot + k ≡ sh + (q.slot + k) = omega (arith, alike.same.slot) in
        ap (λ f. number_at now f (c.slot + k)) (sym alike.same.frame) ∙ ap (number_at now q.frame) at
        ∙ ap is_number (slice_get-get_or kinds (sh + (q.slot + k)) slot.Mark
        (omega (arith, alike.numbers.cells k inside, frame.within, frame.full)) ∙ ap Some (alike.numbers.kinds k inside)))

    one_argument : (kind : ArgKind) (n : ℕ) (a : ArgValue) (c : Cell) (k : Cell → StepResult) → HandedAs p code v now kind n a c
        → as_argument (param_kind kind) n (Some c) s k ≡ k c
    one_argument kind n a c k (a_value x fits) = refl
    one_argument kind n a c k (mix_value x fits) = refl
    one_argument kind n a d k (a_place q c alike) =
        ap (λ b. if_true b (λ _. k (cell.Place c)) (λ _. gets_stuck s)) (eq-eqb c.len n (sym alike.same.size ∙ alike.size))
    one_argument kind n a d k (mix_place q c alike) =
        ap (λ b. if_true b (λ _. k (cell.Place c)) (λ _. gets_stuck s)) (eq-eqb c.len 1 (sym alike.same.size ∙ alike.size))
    one_argument kind n a d k (some_cells q c alike) =
        ap (λ b. if_true (b && numbers_at n s.now c.frame c.slot) (λ _. k (cell.Place c)) (λ _. gets_stuck s))
        (eq-eqb c.len n (sym alike.same.size ∙ alike.size))
        ∙ ap (λ b. if_true b (λ _. k (cell.Place c)) (λ _. gets_stuck s))
        (ap (λ z. numbers_at n z c.frame c.slot) frames ∙ place_numbers n q c alike)

    slot_holds : (n : ℕ) (c : Cell) → Holds now n c → slot_of s n ≡ Some c
    slot_holds n c h = ap (λ z. slice_get (last_frame z).cells n) frames ∙ h

    all_arguments : (qs : List Param) (taken : List ArgValue) (cs : List Cell) (n : ℕ) (k : List Cell → StepResult)
        → AllHanded p code v now qs taken cs → HeldFrom now n cs → arguments (map param_named qs) s n k ≡ k cs
    all_arguments [] [] [] n k handed held = refl
    all_arguments [] [] (c ∷ cs) n k handed held = absurd handed
    all_arguments [] (a ∷ taken) cs n k handed held = absurd handed
    all_arguments (q ∷ qs) [] cs n k handed held = absurd handed
    all_arguments (q ∷ qs) (a ∷ taken) [] n k handed held = absurd handed
    all_arguments (q ∷ qs) (a ∷ taken) (c ∷ cs) n k handed held =
        ap (λ o. as_argument (param_kind q.kind) q.cells o s (λ x. arguments (map param_named qs) s (suc n) (λ xs. k (x ∷ xs))))
        (slot_holds n c held.0)
        ∙ one_argument q.kind q.cells a c (λ x. arguments (map param_named qs) s (suc n) (λ xs. k (x ∷ xs))) handed.0
        ∙ all_arguments qs taken cs (suc n) (λ xs. k (c ∷ xs)) handed.1 held.1

    with_the_link : (level outer f : ℕ) (qs : List Param) (taken : List ArgValue) (cs : List Cell) (n : ℕ) (k : List Cell → StepResult)
        → AllHanded p code v now qs taken cs → HeldFrom now n (with_link level f cs)
        → arguments (link_params level outer ++ map param_named qs) s n k ≡ k (with_link level f cs)
    with_the_link zero outer f qs taken cs n k handed held = all_arguments qs taken cs n k handed held
    with_the_link (suc zero) outer f qs taken cs n k handed held = all_arguments qs taken cs n k handed held
    with_the_link (suc (suc above)) outer f qs taken cs n k handed held =
        ap (λ o. as_argument param.Link outer o s (λ x. arguments (map param_named qs) s (suc n) (λ xs. k (x ∷ xs))))
        (slot_holds n (cell.Place (link_to f)) held.0)
        ∙ all_arguments qs taken cs (suc n) (λ xs. k (cell.Place (link_to f) ∷ xs)) handed held.1

  -- the slots of the arguments are those that the Call reads
  pub holds_arguments : (v : Store) (now : List PlainFrame) (callee : PlainRoutine) (r f first at : ℕ) (taken : List ArgValue)
      (cs : List Cell) (held : List PlainEntry) (s : State) → StandFor p code v now → IsCompiled p code r callee → IsAt at now held s
      → AllHanded p code v now (routine_at p r).params taken cs → HeldFrom now first (handed_all p r f cs)
      → HoldsArguments code input callee first (handed_all p r f cs) s
  holds_arguments v now callee r f first at taken cs held s stand is at_ handed there k =
      ap (λ ps. arguments ps (passed code input s) first k) is.params
      ∙ with_the_link v now stand (passed code input s) at_.frames (routine_at p r).level (routine_at p r).outer f
      (routine_at p r).params taken cs first k handed there
