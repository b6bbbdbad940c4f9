-- Calls keep that each place names own slots, and so do words that make places.
use Rattle.std.proofs.Common.{◌≡◌, ℕ, zero, suc, ◌+◌, ◌<◌, ◌≤◌, List, [], ◌∷◌, ◌++◌, length, get_or, map, take, drop, refl, sym}
use Rattle.std.proofs.Common.{ap, ◌∙◌, subst, arith, Option, Some, None, sum_by}
use Rattle.std.specs.Prelude.{ℤ, slice_get, ◌&&◌, nat_eq, nat_lt, nat_le}
use Rattle.std.proofs.lemmas.Bool.{and_parts, eqb-true}
use Rattle.std.proofs.lemmas.List.{length-append}
use Rattle.std.proofs.lemmas.List.Sums.{sum_by-cons}
use Rattle.std.proofs.lemmas.Option.{slice_get_within, get_or_from_slice_get}
use Rattle.std.proofs.Math.ListN.{get_or-map}
use Rattle.std.proofs.Math.Seq.{get_or-append_seam, drop-cons}
use Rattle.alma_base.specs.Limits.{cell_limit, frame_limit}
use Rattle.alma_code.specs.declared.cell.Cell.{Cell}
use Rattle.alma_code.specs.declared.cell.Cell.TheVariants as cell
use Rattle.alma_code.specs.declared.cell.CellPlace.{CellPlace}
use Rattle.alma_code.specs.declared.head.CodeParam.{CodeParam}
use Rattle.alma_code.specs.declared.head.ParamKind.{ParamKind}
use Rattle.alma_code.specs.declared.head.ParamKind.TheVariants as param
use Rattle.alma_code.specs.Fits.{routines_of, FitsFrames}
use Rattle.alma_code.specs.Head.{PlainHead}
use Rattle.alma_code.specs.Layout.{no_param, param_slots, kinds_of, arg_cells, args_cells, mix_cells, cells_behind_argument, frame_of_call}
use Rattle.alma_code.specs.Layout.{blank_of}
use Rattle.alma_code.specs.Machine.{State, StepResult, top, slot_of, as_argument, arguments, as_routine, enters_routine, numbers_at}
use Rattle.alma_code.specs.Picture.{PlainFrame, no_frame, live_cells}
use Rattle.alma_code.specs.Plain.{PlainCode, PlainRoutine, no_routine, head_at, start_at}
use Rattle.alma_code_laws.proofs.Ready.{if_true_keeps}
use Rattle.alma_lower_slots.specs.Sharing.{Sharing, SharesIn}
use Rattle.alma_lower_slots.proofs.Alike.{NamesOwn, OwnPlaces, OwnState}
use Rattle.alma_lower_slots.proofs.OwnPlaces.{IfPlace, EachPlace, each_none, each_one, each_joined, each_taken, each_dropped, each_blank}
use Rattle.alma_lower_slots.proofs.OwnPlaces.{place_below, names_under, entered_own}
use Rattle.alma_lower_slots.proofs.OwnActs.{Own}

-- the first n of some cells are not more
take_few : (n : ℕ) (xs : List Cell) → length (take n xs) ≤ n
take_few zero xs = omega arith
take_few (suc n) [] = omega arith
take_few (suc n) (x ∷ xs) = omega (arith, take_few n xs)

-- how many slots the parameters have
abbrev slots_of : List CodeParam → ℕ
slots_of ps = sum_by (λ p. param_slots p.kind p.cells) ps

module _ (s : Sharing) where
  -- what is known of an argument
  pub record OwnArg (fs : List PlainFrame) (kind : ParamKind) (n : ℕ) (c : Cell) : Type 0 where
    pub below : IfPlace (λ q. q.frame < length fs) c
    pub own : IfPlace (NamesOwn s (routines_of fs)) c
    pub size : kind ≡ param.Cells → IfPlace (λ q. q.len ≤ n) c

  -- of each
  abbrev pub OwnArgs : List PlainFrame → List CodeParam → List Cell → Type 0
  OwnArgs fs ps cs =
      (m : ℕ) → m < length ps → OwnArg fs (get_or ps m no_param).kind (get_or ps m no_param).cells (get_or cs m cell.Unknown)

  -- a number
  number_arg : (fs : List PlainFrame) (kind : ParamKind) (n : ℕ) (v : ℤ) → OwnArg fs kind n (cell.Int v)
  number_arg fs kind n v = record { below = λ q e. absurd (cc); own = λ q e. absurd (cc); size = λ z q e. absurd (cc) }

  -- a place
  place_arg : (fs : List PlainFrame) (kind : ParamKind) (n : ℕ) (p : CellPlace) → p.frame < length fs → NamesOwn s (routines_of fs) p
      → (kind ≡ param.Cells → p.len ≤ n) → OwnArg fs kind n (cell.Place p)
  place_arg fs kind n p lt h size = record {
    below = λ q e. let same : p ≡ q = cc in subst (λ x. x.frame < length fs) same lt;
    own = λ q e. let same : p ≡ q = cc in subst (NamesOwn s (routines_of fs)) same h;
    size = λ z q e. let same : p ≡ q = cc in subst (λ x. x.len ≤ n) same (size z);
  }

  -- a cell is read as an argument
  as_argument_own : (kind : ParamKind) (n : ℕ) (o : Option Cell) (t : State) (k : Cell → StepResult) → OwnState s t
      → ((p : CellPlace) → o ≡ Some (cell.Place p) → (p.frame < length t.now) × NamesOwn s (routines_of t.now) p)
      → ((c : Cell) → OwnArg t.now kind n c → Own s (k c)) → Own s (as_argument kind n o t k)
  as_argument_own kind n None t k h hp g = record { now = h.now; held = h.held }
  as_argument_own kind n (Some cell.Unknown) t k h hp g = record { now = h.now; held = h.held }
  as_argument_own kind n (Some cell.Unset) t k h hp g = record { now = h.now; held = h.held }
  as_argument_own kind n (Some (cell.Mark m)) t k h hp g = record { now = h.now; held = h.held }
  as_argument_own param.Value n (Some (cell.Int v)) t k h hp g = g (cell.Int v) (number_arg t.now param.Value n v)
  as_argument_own param.Mix n (Some (cell.Int v)) t k h hp g = g (cell.Int v) (number_arg t.now param.Mix n v)
  as_argument_own param.Place n (Some (cell.Int v)) t k h hp g = record { now = h.now; held = h.held }
  as_argument_own param.Cells n (Some (cell.Int v)) t k h hp g = record { now = h.now; held = h.held }
  as_argument_own param.Link n (Some (cell.Int v)) t k h hp g = record { now = h.now; held = h.held }
  as_argument_own param.Value n (Some (cell.Place p)) t k h hp g = record { now = h.now; held = h.held }
  as_argument_own param.Mix n (Some (cell.Place p)) t k h hp g =
      if_true_keeps (Own s) (nat_eq p.len 1) _ _
      (λ _. g (cell.Place p) (place_arg t.now param.Mix n p (hp p refl).0 (hp p refl).1 (λ e. absurd (cc))))
      (λ _. record { now = h.now; held = h.held })
  as_argument_own param.Place n (Some (cell.Place p)) t k h hp g =
      if_true_keeps (Own s) (nat_eq p.len n) _ _
      (λ _. g (cell.Place p) (place_arg t.now param.Place n p (hp p refl).0 (hp p refl).1 (λ e. absurd (cc))))
      (λ _. record { now = h.now; held = h.held })
  as_argument_own param.Cells n (Some (cell.Place p)) t k h hp g =
      if_true_keeps (Own s) (nat_eq p.len n && numbers_at n t.now p.frame p.slot) _ _
      (λ b.
      let e = eqb-true p.len n (and_parts (nat_eq p.len n) (numbers_at n t.now p.frame p.slot) b).0 in
      g (cell.Place p) (place_arg t.now param.Cells n p (hp p refl).0 (hp p refl).1 (λ _. omega arith)))
      (λ _. record { now = h.now; held = h.held })
  as_argument_own param.Link n (Some (cell.Place p)) t k h hp g =
      if_true_keeps (Own s) (nat_eq p.slot 0 && nat_eq p.len 0) _ _
      (λ _. g (cell.Place p) (place_arg t.now param.Link n p (hp p refl).0 (hp p refl).1 (λ e. absurd (cc))))
      (λ _. record { now = h.now; held = h.held })

  -- one argument more in front
  args_more : (fs : List PlainFrame) (p : CodeParam) (ps : List CodeParam) (c : Cell) (cs : List Cell) → OwnArg fs p.kind p.cells c
      → OwnArgs fs ps cs → OwnArgs fs (p ∷ ps) (c ∷ cs)
  args_more fs p ps c cs h hs zero lt = h
  args_more fs p ps c cs h hs (suc m) lt = hs m (omega arith)

  module _ (code : PlainCode) where
    -- a place in a slot of the top frame
    slot_place : (t : State) (n : ℕ) (p : CellPlace) → FitsFrames code t.now → OwnState s t → slot_of t n ≡ Some (cell.Place p)
        → (p.frame < length t.now) × NamesOwn s (routines_of t.now) p
    slot_place t n p fit h e =
        let lt : top t < length t.now = omega (arith, fit.some) in
        (omega (arith, place_below code t.now (top t) n p fit lt e), h.now (top t) n p lt e)

    -- the arguments are read
    arguments_own : (ps : List CodeParam) (t : State) (n : ℕ) (k : List Cell → StepResult) → FitsFrames code t.now → OwnState s t
        → ((cs : List Cell) → OwnArgs t.now ps cs → Own s (k cs)) → Own s (arguments ps t n k)
    arguments_own [] t n k fit h g = g [] (λ m lt. absurd (omega arith))
    arguments_own (p ∷ ps) t n k fit h g =
        as_argument_own p.kind p.cells (slot_of t n) t (λ c. arguments ps t (suc n) (λ cs. k (c ∷ cs))) h
        (λ q e. slot_place t n q fit h e)
        (λ c hc. arguments_own ps t (suc n) (λ cs. k (c ∷ cs)) fit h (λ cs hcs. g (c ∷ cs) (args_more t.now p ps c cs hc hcs)))

    -- ---- the frame that a call enters

    module _ (fs : List PlainFrame) (fit : FitsFrames code fs) (own : OwnPlaces s fs) (x : PlainFrame) where
      -- a place names own slots where x is the top frame
      abbrev Q : CellPlace → Type 0
      Q = NamesOwn s (routines_of (fs ++ x ∷ []))

      -- an argument does
      argument_names : (kind : ParamKind) (n : ℕ) (c : Cell) → OwnArg fs kind n c → IfPlace Q c
      argument_names kind n c h p e = names_under code s fs x p (h.below p e) (h.own p e)

      -- the cells of a frame below do
      cells_under : (f : ℕ) → f < length fs → EachPlace Q (get_or fs f no_frame).cells
      cells_under f lf i p e =
          names_under code s fs x p (omega (arith, place_below code fs f i p fit lf e)) (own f i p lf e)

      -- the slot of a Mix is an own one of the new frame
      mixed_names : (n : ℕ) → n + 2 ≤ s.own x.routine → Q (record { frame = length fs; slot = n + 1; len = 1 })
      mixed_names n le k lt =
          let mine : x.routine ≡ get_or (routines_of (fs ++ x ∷ [])) (length fs) 0 =
          sym (get_or-map (λ g. g.routine) (fs ++ x ∷ []) (length fs) no_frame
          ∙ ap (λ g. g.routine) (get_or-append_seam fs x [] no_frame)) in
          subst (λ r. n + 1 + k < s.own r) mine (omega arith)

      -- the two slots of a Mix
      mix_names : (n : ℕ) (c : Cell) → IfPlace Q c → n + 2 ≤ s.own x.routine → EachPlace Q (mix_cells (length fs) n c)
      mix_names n (cell.Place p) h le =
          each_joined Q (cell.Place p ∷ []) (cell.Unknown ∷ []) (each_one Q (cell.Place p) h) (each_one Q cell.Unknown (λ q e. absurd (cc)))
      mix_names n (cell.Int v) h le =
          let own_place : CellPlace = record { frame = length fs; slot = n + 1; len = 1 } in
          each_joined Q (cell.Place own_place ∷ []) (cell.Int v ∷ [])
          (each_one Q (cell.Place own_place) (λ q e. let same : own_place ≡ q = cc in subst Q same (mixed_names n le)))
          (each_one Q (cell.Int v) (λ q e. absurd (cc)))
      mix_names n cell.Unknown h le = each_none Q
      mix_names n cell.Unset h le = each_none Q
      mix_names n (cell.Mark m) h le = each_none Q

      -- the cells at a place
      behind_names : (c : Cell) → IfPlace (λ q. q.frame < length fs) c → EachPlace Q (cells_behind_argument fs c)
      behind_names (cell.Place p) h =
          each_taken Q p.len (drop p.slot (get_or fs p.frame no_frame).cells)
          (each_dropped Q p.slot (get_or fs p.frame no_frame).cells (cells_under p.frame (h p refl)))
      behind_names (cell.Int v) h = each_none Q
      behind_names cell.Unknown h = each_none Q
      behind_names cell.Unset h = each_none Q
      behind_names (cell.Mark m) h = each_none Q

      -- what an argument puts into the slots of its parameter
      argument_cells : (at n : ℕ) (kind : ParamKind) (c : Cell) → OwnArg fs kind n c → at + param_slots kind n ≤ s.own x.routine
          → EachPlace Q (arg_cells fs (length fs) at kind c)
      argument_cells at n param.Value c h le = each_one Q c (argument_names param.Value n c h)
      argument_cells at n param.Place c h le = each_one Q c (argument_names param.Place n c h)
      argument_cells at n param.Link c h le = each_one Q c (argument_names param.Link n c h)
      argument_cells at n param.Mix c h le = mix_names at c (argument_names param.Mix n c h) le
      argument_cells at n param.Cells c h le = behind_names c h.below

      -- the two slots of a Mix are not more
      mix_few : (n : ℕ) (c : Cell) → length (mix_cells (length fs) n c) ≤ 2
      mix_few n (cell.Place p) = omega arith
      mix_few n (cell.Int v) = omega arith
      mix_few n cell.Unknown = omega arith
      mix_few n cell.Unset = omega arith
      mix_few n (cell.Mark m) = omega arith

      -- the cells at a place are not more than it says
      behind_few : (n : ℕ) (c : Cell) → IfPlace (λ q. q.len ≤ n) c → length (cells_behind_argument fs c) ≤ n
      behind_few n (cell.Place p) h = omega (arith, h p refl, take_few p.len (drop p.slot (get_or fs p.frame no_frame).cells))
      behind_few n (cell.Int v) h = omega arith
      behind_few n cell.Unknown h = omega arith
      behind_few n cell.Unset h = omega arith
      behind_few n (cell.Mark m) h = omega arith

      -- they fill no more than those slots
      argument_few : (at n : ℕ) (kind : ParamKind) (c : Cell) → OwnArg fs kind n c
          → length (arg_cells fs (length fs) at kind c) ≤ param_slots kind n
      argument_few at n param.Value c h = omega arith
      argument_few at n param.Place c h = omega arith
      argument_few at n param.Link c h = omega arith
      argument_few at n param.Mix c h = mix_few at c
      argument_few at n param.Cells c h = behind_few n c (h.size refl)

      -- the first n arguments name own slots, and leave room for the others
      record FillsOwn (ps : List CodeParam) (args : List Cell) (n : ℕ) : Type 0 where
        pub names : EachPlace Q (args_cells fs ps args n)
        pub room : length (args_cells fs ps args n) + slots_of (drop n ps) ≤ slots_of ps

      -- one after another
      fills_own : (ps : List CodeParam) (args : List Cell) (n : ℕ) → n ≤ length ps → slots_of ps ≤ s.own x.routine → OwnArgs fs ps args
          → FillsOwn ps args n
      fills_own ps args zero le room h = record { names = each_none Q; room = omega arith }
      fills_own ps args (suc n) le room h =
          let b = fills_own ps args n (omega arith) room h in
          let xs = args_cells fs ps args n in
          let p = get_or ps n no_param in
          let c = get_or args n cell.Unknown in
          let ys = arg_cells fs (length fs) (length xs) p.kind c in
          let split : slots_of (drop n ps) ≡ param_slots p.kind p.cells + slots_of (drop (suc n) ps) =
          ap slots_of (drop-cons ps n no_param (omega arith)) ∙ sum_by-cons (λ p. param_slots p.kind p.cells) p (drop (suc n) ps) in
          let hc = h n (omega arith) in
          let few = argument_few (length xs) p.cells p.kind c hc in
          record {
            names = each_joined Q xs ys b.names (argument_cells (length xs) p.cells p.kind c hc (omega (arith, b.room)));
            room = omega (arith, b.room, length-append xs ys);
          }

    -- a routine is entered
    enters_own : (t : State) (c : ℕ) (args : List Cell) → FitsFrames code t.now → OwnState s t → slots_of (head_at code c).params ≤ s.own c
        → OwnArgs t.now (head_at code c).params args → Own s (enters_routine t c (start_at code c) (head_at code c) args)
    enters_own t c args fit h room hs =
        let hd : PlainHead = head_at code c in
        let x : PlainFrame = frame_of_call t.now hd c t.at args in
        let n : ℕ = length hd.params in
        let b = fills_own t.now fit h.now x hd.params args n (omega arith) room hs in
        let P : CellPlace → Type 0 = NamesOwn s (routines_of (t.now ++ x ∷ [])) in
        let blank = map blank_of (kinds_of 0 hd.runs) in
        let xs = args_cells t.now hd.params args n in
        let all = each_joined P xs (drop (length xs) blank) b.names
        (each_dropped P (length xs) blank (each_blank P (kinds_of 0 hd.runs))) in
        let now = entered_own code s t.now x fit h.now all in
        if_true_keeps (Own s) (nat_lt (length t.now) frame_limit) _ _
        (λ _. if_true_keeps (Own s) (nat_le (live_cells t.now + hd.declared) cell_limit) _ _
        (λ _. record { now = now; held = h.held })
        (λ _. record { now = h.now; held = h.held }))
        (λ _. record { now = h.now; held = h.held })

    -- a routine that may not be there
    as_routine_own : (o : Option PlainRoutine) (t : State) (k : PlainHead → StepResult) → OwnState s t
        → ((x : PlainRoutine) → o ≡ Some x → Own s (k x.head)) → Own s (as_routine o t k)
    as_routine_own (Some x) t k h g = g x refl
    as_routine_own None t k h g = record { now = h.now; held = h.held }

    -- a call
    pub call_own : (t : State) (c first : ℕ) → ((r : ℕ) → r < length code.routines → SharesIn code s r) → FitsFrames code t.now
        → OwnState s t
        → Own s (as_routine (slice_get code.routines c) t
        (λ h. arguments h.params t first (λ args. enters_routine t c (start_at code c) h args)))
    call_own t c first shares fit h =
        as_routine_own (slice_get code.routines c) t
        (λ h. arguments h.params t first (λ args. enters_routine t c (start_at code c) h args)) h
        (λ x e.
        let lt = slice_get_within code.routines c x e in
        let same : head_at code c ≡ x.head = ap (λ q. q.head) (get_or_from_slice_get code.routines c x no_routine e) in
        subst (λ hd. Own s (arguments hd.params t first (λ args. enters_routine t c (start_at code c) hd args))) same
        (arguments_own (head_at code c).params t first (λ args. enters_routine t c (start_at code c) (head_at code c) args) fit h
        (λ args hs. enters_own t c args fit h (shares c lt).params hs)))
