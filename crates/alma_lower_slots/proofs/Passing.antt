-- The arguments of a call are read alike on a code and on the renamed one.
use Rattle.std.proofs.Common.{◌≡◌, ℕ, zero, suc, ◌+◌, ◌<◌, inl, inr, List, [], ◌∷◌, length, get_or, drop, refl, sym, ap, ◌∙◌}
use Rattle.std.proofs.Common.{subst, arith, Option, Some, None}
use Rattle.std.specs.Prelude.{slice_get, Bool, true, false, ◌&&◌, nat_eq}
use Rattle.std.specs.List.{list_all}
use Rattle.std.proofs.lemmas.Bool.{and_parts, or_cases, eqb-true}
use Rattle.std.proofs.lemmas.Option.{slice_get_within, same_Some}
use Rattle.std.proofs.lemmas.List.{length-take}
use Rattle.std.proofs.Math.ListN.{get_or-map}
use Rattle.alma_base.specs.Choice.{if_true}
use Rattle.alma_base.specs.declared.fault.RunFault.TheVariants as fault
use Rattle.alma_code.specs.declared.cell.Cell.{Cell}
use Rattle.alma_code.specs.declared.cell.Cell.TheVariants as cell
use Rattle.alma_code.specs.declared.cell.CellPlace.{CellPlace}
use Rattle.alma_code.specs.declared.cell.SlotKind.TheVariants as slot
use Rattle.alma_code.specs.declared.head.CodeParam.{CodeParam}
use Rattle.alma_code.specs.declared.head.ParamKind.{ParamKind}
use Rattle.alma_code.specs.declared.head.ParamKind.TheVariants as param
use Rattle.alma_code.specs.declared.instr.Instr.{Instr}
use Rattle.alma_code.specs.Carries.{number_at}
use Rattle.alma_code.specs.Fits.{routines_of, FitsSlot}
use Rattle.alma_code.specs.Kinds.{is_number, is_place_of}
use Rattle.alma_code.specs.Layout.{arg_cells, cells_at, no_param}
use Rattle.alma_code.specs.Machine.{State, StepResult, top, slot_of, gets_stuck}
use Rattle.alma_code.specs.Machine.{numbers_at, as_argument, arguments}
use Rattle.alma_code.specs.Picture.{PlainFrame, no_frame}
use Rattle.alma_code.specs.Plain.{PlainCode, kinds_at}
use Rattle.alma_code.specs.Rules.{kind_in, is_free, fits_argument, fit_arguments}
use Rattle.alma_code.proofs.Heads.{number_is, place_of_is, link_of_is}
use Rattle.alma_code_laws.proofs.Ready.{has_slot}
use Rattle.alma_code_laws.proofs.Acts.{frame_live}
use Rattle.alma_lower_slots.specs.Sharing.{Sharing, matters}
use Rattle.alma_lower_slots.specs.Slots.{slots_from}
use Rattle.alma_lower_slots.proofs.Alike.{is_kept, AlikeFrames, AlikeRest, AlikeStep, Doing, NamesOwn}
use Rattle.alma_lower_slots.proofs.Entering.{Passes, PassAll}
use Rattle.alma_lower_slots.proofs.Settles.{Shared, stuck_alike, fault_alike, slot_alike}
use Rattle.alma_lower_slots.proofs.Slices.{part_same}

-- ---- how a step ends on both sides

module _ (code new : PlainCode) (s : Sharing) where
  -- a choice by the same test
  pub choice_alike : (b : Bool) (k z k' z' : Unit {0} → StepResult) → (b ≡ true → AlikeStep code new s (k tt) (k' tt))
      → (b ≡ false → AlikeStep code new s (z tt) (z' tt)) → AlikeStep code new s (if_true b k z) (if_true b k' z')
  choice_alike true k z k' z' h g = h refl
  choice_alike false k z k' z' h g = g refl

  -- what copies of the cells at a place are
  pub record Copies (t t' : State) (n : ℕ) (p : CellPlace) : Type 0 where
    pub numbers : numbers_at n t'.now p.frame p.slot ≡ numbers_at n t.now p.frame p.slot
    pub cells : cells_at t'.now p ≡ cells_at t.now p

  -- an argument that is put into its own slots
  passes_one : (t t' : State) (kind : ParamKind) (n : ℕ) (c : Cell) → length t'.now ≡ length t.now → (kind ≡ param.Cells → ⊥)
      → (kind ≡ param.Mix → ⊥) → Passes t.now t'.now kind n c
  passes_one t t' param.Value n c e ne nm = record { same = λ at. refl; few = λ at. omega arith }
  passes_one t t' param.Place n c e ne nm = record { same = λ at. refl; few = λ at. omega arith }
  passes_one t t' param.Link n c e ne nm = record { same = λ at. refl; few = λ at. omega arith }
  passes_one t t' param.Cells n c e ne nm = absurd (ne refl)
  passes_one t t' param.Mix n c e ne nm = absurd (nm refl)

  -- an argument that is put into two slots
  passes_mix : (t t' : State) (n : ℕ) (c : Cell) → length t'.now ≡ length t.now → Passes t.now t'.now param.Mix n c
  passes_mix t t' n (cell.Int v) e = record {
    same = λ at. ap (λ m. arg_cells t.now m at param.Mix (cell.Int v)) e;
    few =
        λ at. omega arith;
  }
  passes_mix t t' n (cell.Place p) e = record { same = λ at. refl; few = λ at. omega arith }
  passes_mix t t' n cell.Unknown e = record { same = λ at. refl; few = λ at. omega arith }
  passes_mix t t' n cell.Unset e = record { same = λ at. refl; few = λ at. omega arith }
  passes_mix t t' n (cell.Mark m) e = record { same = λ at. refl; few = λ at. omega arith }

  -- an argument of which the cells are copied
  passes_cells : (t t' : State) (n : ℕ) (p : CellPlace) → p.len ≡ n → Copies t t' n p → Passes t.now t'.now param.Cells n (cell.Place p)
  passes_cells t t' n p e c = record {
    same = λ at. c.cells;
    few = λ at. omega (arith, length-take p.len (drop p.slot (get_or t.now p.frame no_frame).cells));
  }

  -- an argument is read
  as_argument_alike : (t t' : State) (kind : ParamKind) (n : ℕ) (o : Option Cell) (k k' : Cell → StepResult) → AlikeRest code new s t t'
      → length t'.now ≡ length t.now → ((p : CellPlace) → kind ≡ param.Cells → o ≡ Some (cell.Place p) → Copies t t' n p)
      → ((c : Cell) → Passes t.now t'.now kind n c → AlikeStep code new s (k c) (k' c))
      → AlikeStep code new s (as_argument kind n o t k) (as_argument kind n o t' k')
  as_argument_alike t t' param.Value n None k k' h e c good = stuck_alike h
  as_argument_alike t t' param.Value n (Some cell.Unknown) k k' h e c good = fault_alike fault.Unknown h
  as_argument_alike t t' param.Value n (Some cell.Unset) k k' h e c good = fault_alike fault.Unknown h
  as_argument_alike t t' param.Value n (Some (cell.Mark m)) k k' h e c good = stuck_alike h
  as_argument_alike t t' param.Value n (Some (cell.Int v)) k k' h e c good =
      good (cell.Int v) (passes_one t t' param.Value n (cell.Int v) e (λ q. absurd (cc)) (λ q. absurd (cc)))
  as_argument_alike t t' param.Value n (Some (cell.Place p)) k k' h e c good = stuck_alike h
  as_argument_alike t t' param.Place n None k k' h e c good = stuck_alike h
  as_argument_alike t t' param.Place n (Some cell.Unknown) k k' h e c good = fault_alike fault.Unknown h
  as_argument_alike t t' param.Place n (Some cell.Unset) k k' h e c good = fault_alike fault.Unknown h
  as_argument_alike t t' param.Place n (Some (cell.Mark m)) k k' h e c good = stuck_alike h
  as_argument_alike t t' param.Place n (Some (cell.Int v)) k k' h e c good = stuck_alike h
  as_argument_alike t t' param.Place n (Some (cell.Place p)) k k' h e c good =
      choice_alike (nat_eq p.len n) _ _ _ _ (λ b. good (cell.Place p)
      (passes_one t t' param.Place n (cell.Place p) e (λ q. absurd (cc)) (λ q. absurd (cc))))
      (λ b. stuck_alike h)
  as_argument_alike t t' param.Mix n None k k' h e c good = stuck_alike h
  as_argument_alike t t' param.Mix n (Some cell.Unknown) k k' h e c good = fault_alike fault.Unknown h
  as_argument_alike t t' param.Mix n (Some cell.Unset) k k' h e c good = fault_alike fault.Unknown h
  as_argument_alike t t' param.Mix n (Some (cell.Mark m)) k k' h e c good = stuck_alike h
  as_argument_alike t t' param.Mix n (Some (cell.Int v)) k k' h e c good =
      good (cell.Int v) (passes_mix t t' n (cell.Int v) e)
  as_argument_alike t t' param.Mix n (Some (cell.Place p)) k k' h e c good =
      choice_alike (nat_eq p.len 1) _ _ _ _ (λ b. good (cell.Place p) (passes_mix t t' n (cell.Place p) e)) (λ b. stuck_alike h)
  as_argument_alike t t' param.Cells n None k k' h e c good = stuck_alike h
  as_argument_alike t t' param.Cells n (Some cell.Unknown) k k' h e c good = fault_alike fault.Unknown h
  as_argument_alike t t' param.Cells n (Some cell.Unset) k k' h e c good = fault_alike fault.Unknown h
  as_argument_alike t t' param.Cells n (Some (cell.Mark m)) k k' h e c good = stuck_alike h
  as_argument_alike t t' param.Cells n (Some (cell.Int v)) k k' h e c good = stuck_alike h
  as_argument_alike t t' param.Cells n (Some (cell.Place p)) k k' h e c good =
      let copies = c p refl refl in
      subst (λ b. AlikeStep code new s (as_argument param.Cells n (Some (cell.Place p)) t k)
      (if_true (nat_eq p.len n && b) (λ _. k' (cell.Place p)) (λ _. gets_stuck t'))) (sym copies.numbers)
      (choice_alike (nat_eq p.len n && numbers_at n t.now p.frame p.slot) _ _ _ _
      (λ b. good (cell.Place p) (passes_cells t t' n p
      (eqb-true p.len n (and_parts (nat_eq p.len n) (numbers_at n t.now p.frame p.slot) b).0) copies))
      (λ b. stuck_alike h))
  as_argument_alike t t' param.Link n None k k' h e c good = stuck_alike h
  as_argument_alike t t' param.Link n (Some cell.Unknown) k k' h e c good = fault_alike fault.Unknown h
  as_argument_alike t t' param.Link n (Some cell.Unset) k k' h e c good = fault_alike fault.Unknown h
  as_argument_alike t t' param.Link n (Some (cell.Mark m)) k k' h e c good = stuck_alike h
  as_argument_alike t t' param.Link n (Some (cell.Int v)) k k' h e c good = stuck_alike h
  as_argument_alike t t' param.Link n (Some (cell.Place p)) k k' h e c good =
      choice_alike (nat_eq p.slot 0 && nat_eq p.len 0) _ _ _ _
      (λ b. good (cell.Place p) (passes_one t t' param.Link n (cell.Place p) e (λ q. absurd (cc)) (λ q. absurd (cc)))) (λ b. stuck_alike h)

-- ---- what is read

module _ (code new : PlainCode) (s : Sharing) (w : Shared code new s) where
  -- an own slot of a live frame holds the same
  pub own_cell : (at f i : ℕ) (frames frames' : List PlainFrame) → AlikeFrames code new s at frames frames' → f < length frames
      → (get_or frames f no_frame).routine < length code.routines → i < s.own (get_or frames f no_frame).routine
      → i < length (kinds_at code (get_or frames f no_frame).routine)
      → slice_get (get_or frames' f no_frame).cells i ≡ slice_get (get_or frames f no_frame).cells i
  own_cell at f i frames frames' h lf lr lo li =
      let q = (get_or frames f no_frame).routine in
      let si = w.shares.routines q lr in
      ap (slice_get (get_or frames' f no_frame).cells) (sym (si.same i lo)) ∙ (h.each f lf).cells i li (is_kept (si.kept i lo))

  -- and is a number slot on both sides or on none
  pub own_number : (at f i : ℕ) (frames frames' : List PlainFrame) → AlikeFrames code new s at frames frames' → f < length frames
      → (get_or frames f no_frame).routine < length code.routines → i < s.own (get_or frames f no_frame).routine
      → i < length (kinds_at code (get_or frames f no_frame).routine)
      → (get_or frames f no_frame).kinds ≡ kinds_at code (get_or frames f no_frame).routine → number_at frames' f i ≡ number_at frames f i
  own_number at f i frames frames' h lf lr lo li ks =
      let q = (get_or frames f no_frame).routine in
      let si = w.shares.routines q lr in
      ap is_number (ap (λ k. slice_get k i) (h.each f lf).kinds ∙ ap (slice_get (kinds_at new q)) (sym (si.same i lo))
      ∙ w.renames.kinds q i lr li ∙ ap (λ k. slice_get k i) (sym ks))

  -- number slots, where each is one on both sides or on none
  numbers_same : (n f i : ℕ) (frames frames' : List PlainFrame)
      → ((k : ℕ) → k < n → number_at frames' f (i + k) ≡ number_at frames f (i + k)) → numbers_at n frames' f i ≡ numbers_at n frames f i
  numbers_same zero f i frames frames' h = refl
  numbers_same (suc n) f i frames frames' h =
      let z : i + 0 ≡ i = omega arith in
      ap (λ b. b && numbers_at n frames' f (suc i)) (subst (λ m. number_at frames' f m ≡ number_at frames f m) z (h 0 (omega arith)))
      ∙ ap (λ b. number_at frames f i && b) (numbers_same n f (suc i) frames frames' (λ k lt. let x : i + suc k ≡ suc i + k = omega arith in
      subst (λ m. number_at frames' f m ≡ number_at frames f m) x (h (suc k) (omega arith))))

  -- an argument of a routine's slot is inside
  argument_inside : (r : ℕ) (kind : ParamKind) (n i : ℕ) → fits_argument code r kind n i ≡ true → i < length (kinds_at code r)
  argument_inside r param.Value n i e = slice_get_within (kinds_at code r) i slot.Number (number_is (kind_in code r i) e)
  argument_inside r param.Place n i e = slice_get_within (kinds_at code r) i (slot.Place n) (place_of_is n (kind_in code r i) e)
  argument_inside r param.Cells n i e = slice_get_within (kinds_at code r) i (slot.Place n) (place_of_is n (kind_in code r i) e)
  argument_inside r param.Link n i e = slice_get_within (kinds_at code r) i (slot.Link n) (link_of_is n (kind_in code r i) e)
  argument_inside r param.Mix n i e =
      elim (or_cases (is_number (kind_in code r i)) (is_place_of 1 (kind_in code r i)) e) [
        | inl a ↦ slice_get_within (kinds_at code r) i slot.Number (number_is (kind_in code r i) a)
        | inr a ↦ slice_get_within (kinds_at code r) i (slot.Place 1) (place_of_is 1 (kind_in code r i) a)
      ]

  module _ (r at : ℕ) (i : Instr) (t t' : State) (d : Doing code new s r at i t t') where
    -- the cells at a place in a slot are the same
    copies : (n m : ℕ) (p : CellPlace) → is_place_of n (kind_in code r m) ≡ true → slot_of t m ≡ Some (cell.Place p)
        → Copies code new s t t' n p
    copies n m p k e =
        let ready = d.here.ready in
        let has = has_slot code r t m (slot.Place n) ready (place_of_is n (kind_in code r m) k) in
        let c : has.cell ≡ cell.Place p = same_Some has.cell (cell.Place p) (sym has.is ∙ e) in
        let fits : FitsSlot code (routines_of t.now) (top t) (slot.Place n) (cell.Place p) =
        subst (FitsSlot code (routines_of t.now) (top t) (slot.Place n)) c has.fits in
        let lf = frame_live code r t p ready fits.1 in
        let own : NamesOwn s (routines_of t.now) p = d.own.now (top t) m p (omega (arith, ready.frames.some)) e in
        let ff = ready.frames.each p.frame lf in
        let q : get_or (routines_of t.now) p.frame 0 ≡ (get_or t.now p.frame no_frame).routine =
        get_or-map (λ g. g.routine) t.now p.frame no_frame in
        let lo : (j : ℕ) → j < p.len → p.slot + j < s.own (get_or t.now p.frame no_frame).routine =
        λ j lj. subst (λ x. p.slot + j < s.own x) q (own j lj) in
        let li : (j : ℕ) → j < p.len → p.slot + j < length (kinds_at code (get_or t.now p.frame no_frame).routine) =
        λ j lj. subst (λ x. p.slot + j < length (kinds_at code x)) q
        (slice_get_within (kinds_at code (get_or (routines_of t.now) p.frame 0)) (p.slot + j) slot.Number (fits.1.cells j lj).number) in
        record {
          numbers = numbers_same n p.frame p.slot t.now t'.now (λ j lj.
              let lj' : j < p.len = omega (arith, fits.0) in
              own_number at p.frame (p.slot + j) t.now t'.now d.taken.now lf ff.routine (lo j lj') (li j lj') ff.kinds);
          cells = part_same p.len p.slot (get_or t.now p.frame no_frame).cells (get_or t'.now p.frame no_frame).cells
              (λ j lj. own_cell at p.frame (p.slot + j) t.now t'.now d.taken.now lf ff.routine (lo j lj) (li j lj));
        }

    -- one argument more
    pass_more : (p : CodeParam) (ps : List CodeParam) (c : Cell) (cs : List Cell) → Passes t.now t'.now p.kind p.cells c
        → PassAll t.now t'.now ps cs → PassAll t.now t'.now (p ∷ ps) (c ∷ cs)
    pass_more p ps c cs a h = record {
      each = λ k. elim k as (λ k. k < length (p ∷ ps)
          → Passes t.now t'.now (get_or (p ∷ ps) k no_param).kind (get_or (p ∷ ps) k no_param).cells (get_or (c ∷ cs) k cell.Unknown)) [
            | zero ↦ λ _. a
            | suc j ↦ λ lt. h.each j (omega arith)
          ];
    }

    -- the argument slots of a call are read
    pub arguments_alike : (ps : List CodeParam) (n n' : ℕ) (k k' : List Cell → StepResult) → fit_arguments code r ps n ≡ true
        → list_all (λ m. matters s r at m) (slots_from (length ps) n) ≡ true → ((j : ℕ) → j < length ps → s.slot r (n + j) ≡ n' + j)
        → ((cs : List Cell) → PassAll t.now t'.now ps cs → AlikeStep code new s (k cs) (k' cs))
        → AlikeStep code new s (arguments ps t n k) (arguments ps t' n' k')
    arguments_alike [] n n' k k' fit m go good = good [] (record { each = λ j lt. absurd (omega arith) })
    arguments_alike (p ∷ ps) n n' k k' fit m go good =
        let x = and_parts (is_free code r n && fits_argument code r p.kind p.cells n) (fit_arguments code r ps (suc n)) fit in
        let y = and_parts (is_free code r n) (fits_argument code r p.kind p.cells n) x.0 in
        let w = and_parts (matters s r at n) (list_all (λ m. matters s r at m) (slots_from (length ps) (suc n))) m in
        let z : n + 0 ≡ n = omega arith in
        let z' : n' + 0 ≡ n' = omega arith in
        let to : s.slot r n ≡ n' = ap (s.slot r) (sym z) ∙ go 0 (omega arith) ∙ z' in
        let same : slot_of t' n' ≡ slot_of t n =
        ap (slot_of t') (sym to) ∙ slot_alike d n (argument_inside r p.kind p.cells n y.1) w.0 in
        subst (λ o. AlikeStep code new s (arguments (p ∷ ps) t n k)
        (as_argument p.kind p.cells o t' (λ c. arguments ps t' (suc n') (λ cs. k' (c ∷ cs))))) (sym same)
        (as_argument_alike code new s t t' p.kind p.cells (slot_of t n) _ _ d.taken.rest d.taken.now.count
        (λ q e is. copies p.cells n q (subst (λ kind. fits_argument code r kind p.cells n ≡ true) e y.1) is)
        (λ c fc. arguments_alike ps (suc n) (suc n') (λ cs. k (c ∷ cs)) (λ cs. k' (c ∷ cs)) x.1 w.1
        (λ j lj. let a : suc n + j ≡ n + suc j = omega arith in
        let b : n' + suc j ≡ suc n' + j = omega arith in
        ap (s.slot r) a ∙ go (suc j) (omega arith) ∙ b)
        (λ cs fs. good (c ∷ cs) (pass_more p ps c cs fc fs))))
