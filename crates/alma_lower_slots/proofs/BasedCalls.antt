-- A call keeps that frames have bases: the base of the new frame is the height of the stack, and none of its cells is a mark.
use Rattle.std.proofs.Common.{◌≡◌, ℕ, zero, suc, ◌+◌, ◌<◌, ◌≤◌, List, [], ◌∷◌, ◌++◌, length, get_or, map, take, drop, refl}
use Rattle.std.proofs.Common.{ap, ◌∙◌, subst, arith, Option, Some, None}
use Rattle.std.specs.Prelude.{ℤ, slice_get, true, ◌&&◌, nat_eq, nat_lt, nat_le}
use Rattle.std.proofs.lemmas.Bool.{and_parts, eqb-true}
use Rattle.std.proofs.lemmas.Option.{slice_get_within, get_or_from_slice_get}
use Rattle.alma_base.specs.Limits.{cell_limit, frame_limit}
use Rattle.alma_code.specs.Carries.{number_at}
use Rattle.alma_code.specs.declared.cell.Cell.{Cell}
use Rattle.alma_code.specs.declared.cell.Cell.TheVariants as cell
use Rattle.alma_code.specs.declared.cell.CellPlace.{CellPlace}
use Rattle.alma_code.specs.declared.cell.SlotKind.{SlotKind}
use Rattle.alma_code.specs.declared.cell.SlotKind.TheVariants as slot
use Rattle.alma_code.specs.declared.head.CodeParam.{CodeParam}
use Rattle.alma_code.specs.declared.head.ParamKind.{ParamKind}
use Rattle.alma_code.specs.declared.head.ParamKind.TheVariants as param
use Rattle.alma_code.specs.Head.{PlainHead}
use Rattle.alma_code.specs.Layout.{no_param, kinds_of, arg_cells, args_cells, mix_cells, cells_behind_argument, frame_of_call, blank_of}
use Rattle.alma_code.specs.Fits.{IsContent}
use Rattle.alma_code.specs.Machine.{State, StepResult, slot_of, as_argument, arguments, as_routine, enters_routine, numbers_at}
use Rattle.alma_code.specs.Picture.{PlainFrame, no_frame, live_cells}
use Rattle.alma_code.specs.Plain.{PlainCode, PlainRoutine, no_routine, head_at, start_at}
use Rattle.alma_code_laws.proofs.Acts.{live_content}
use Rattle.alma_code_laws.proofs.Ready.{Ready, if_true_keeps}
use Rattle.alma_lower_slots.proofs.Based.{AtFinish, BasedBy}
use Rattle.alma_lower_slots.proofs.Bases.{NoMark, NoMarks, more_base, based_entered}
use Rattle.alma_lower_slots.proofs.BasedHeld.{NoDone, Entries, Leaves, settled, stopped}

-- ---- lists of cells

-- no cells
none_no_marks : NoMarks []
none_no_marks i m e = absurd (cc)

-- one cell
one_no_mark : (c : Cell) → NoMark c → NoMarks (c ∷ [])
one_no_mark c h zero m e = h m (cc)
one_no_mark c h (suc i) m e = absurd (cc)

-- two cells
two_no_marks : (c d : Cell) → NoMark c → NoMark d → NoMarks (c ∷ d ∷ [])
two_no_marks c d hc hd zero m e = hc m (cc)
two_no_marks c d hc hd (suc i) m e = one_no_mark d hd i m e

-- one list after the other
joined_no_marks : (xs ys : List Cell) → NoMarks xs → NoMarks ys → NoMarks (xs ++ ys)
joined_no_marks [] ys hx hy i m e = hy i m e
joined_no_marks (x ∷ xs) ys hx hy zero m e = hx zero m e
joined_no_marks (x ∷ xs) ys hx hy (suc i) m e = joined_no_marks xs ys (λ j. hx (suc j)) hy i m e

-- without the first n cells
dropped_no_marks : (n : ℕ) (xs : List Cell) → NoMarks xs → NoMarks (drop n xs)
dropped_no_marks zero xs h i m e = h i m e
dropped_no_marks (suc n) [] h i m e = absurd (cc)
dropped_no_marks (suc n) (x ∷ xs) h i m e = dropped_no_marks n xs (λ j. h (suc j)) i m e

-- a blank cell
blank_no_mark : (k : SlotKind) → NoMark (blank_of k)
blank_no_mark slot.Number m e = absurd (cc)
blank_no_mark (slot.Place n) m e = absurd (cc)
blank_no_mark slot.Mark m e = absurd (cc)
blank_no_mark (slot.Link q) m e = absurd (cc)

-- blank cells
pub blank_no_marks : (ks : List SlotKind) → NoMarks (map blank_of ks)
blank_no_marks [] i m e = absurd (cc)
blank_no_marks (k ∷ ks) zero m e = blank_no_mark k m (cc)
blank_no_marks (k ∷ ks) (suc i) m e = blank_no_marks ks i m e

-- an element of the first n
taken_there : (n : ℕ) (xs : List Cell) (j : ℕ) (c : Cell) → slice_get (take n xs) j ≡ Some c → (j < n) × (slice_get xs j ≡ Some c)
taken_there zero xs j c e = absurd (cc)
taken_there (suc n) [] j c e = absurd (cc)
taken_there (suc n) (x ∷ xs) zero c e = (omega arith, e)
taken_there (suc n) (x ∷ xs) (suc j) c e =
    let h = taken_there n xs j c e in
    (omega arith, h.1)

-- an element of the others
dropped_there : (n : ℕ) (xs : List Cell) (j : ℕ) (c : Cell) → slice_get (drop n xs) j ≡ Some c → slice_get xs (n + j) ≡ Some c
dropped_there zero xs j c e = let z : 0 + j ≡ j = omega arith in ap (slice_get xs) z ∙ e
dropped_there (suc n) [] j c e = absurd (cc)
dropped_there (suc n) (x ∷ xs) j c e =
    let z : suc n + j ≡ suc (n + j) = omega arith in
    ap (slice_get (x ∷ xs)) z ∙ dropped_there n xs j c e

-- each of n live number slots is one
numbers_each : (n : ℕ) (frames : List PlainFrame) (f i k : ℕ) → numbers_at n frames f i ≡ true → k < n → number_at frames f (i + k) ≡ true
numbers_each zero frames f i k e lt = absurd (omega arith)
numbers_each (suc n) frames f i zero e lt =
    let z : i + 0 ≡ i = omega arith in
    ap (number_at frames f) z ∙ (and_parts (number_at frames f i) (numbers_at n frames f (suc i)) e).0
numbers_each (suc n) frames f i (suc k) e lt =
    let z : i + suc k ≡ suc i + k = omega arith in
    ap (number_at frames f) z
    ∙ numbers_each n frames f (suc i) k (and_parts (number_at frames f i) (numbers_at n frames f (suc i)) e).1 (omega arith)

module _ (code : PlainCode) where
  -- the cells of live number slots
  numbers_no_marks : (r : ℕ) (t : State) (n f i : ℕ) → Ready code r t → numbers_at n t.now f i ≡ true
      → NoMarks (take n (drop i (get_or t.now f no_frame).cells))
  numbers_no_marks r t n f i ready e j m is =
      let cs = (get_or t.now f no_frame).cells in
      let taken = taken_there n (drop i cs) j (cell.Mark m) is in
      let there = dropped_there i cs j (cell.Mark m) taken.1 in
      let number = numbers_each n t.now f i j e taken.0 in
      let content = (live_content code r t f (i + j) cell.Unset ready number).0 in
      subst IsContent (get_or_from_slice_get cs (i + j) (cell.Mark m) cell.Unset there) content

  -- ---- arguments

  -- what is known of an argument
  record PlainArg (frames : List PlainFrame) (kind : ParamKind) (c : Cell) : Type 0 where
    pub none : NoMark c
    pub cells : kind ≡ param.Cells → NoMarks (cells_behind_argument frames c)

  -- of each
  abbrev PlainArgs : List PlainFrame → List CodeParam → List Cell → Type 0
  PlainArgs frames ps cs = (k : ℕ) → k < length ps → PlainArg frames (get_or ps k no_param).kind (get_or cs k cell.Unknown)

  -- a number
  number_arg : (frames : List PlainFrame) (kind : ParamKind) (v : ℤ) → PlainArg frames kind (cell.Int v)
  number_arg frames kind v = record { none = λ m e. absurd (cc); cells = λ z i m e. absurd (cc) }

  -- a place that is not of cells to be copied
  place_arg : (frames : List PlainFrame) (kind : ParamKind) (p : CellPlace) → (kind ≡ param.Cells → ⊥) → PlainArg frames kind (cell.Place p)
  place_arg frames kind p other = record { none = λ m e. absurd (cc); cells = λ z. absurd (other z) }

  -- one more in front
  args_more : (frames : List PlainFrame) (p : CodeParam) (ps : List CodeParam) (c : Cell) (cs : List Cell) → PlainArg frames p.kind c
      → PlainArgs frames ps cs → PlainArgs frames (p ∷ ps) (c ∷ cs)
  args_more frames p ps c cs h hs zero lt = h
  args_more frames p ps c cs h hs (suc k) lt = hs k (omega arith)

  -- a cell is read as an argument
  as_argument_leaves : (r : ℕ) (kind : ParamKind) (n : ℕ) (o : Option Cell) (t : State) (k : Cell → StepResult) → Ready code r t
      → Entries code t.held → NoDone t.held → ((c : Cell) → PlainArg t.now kind c → Leaves code (k c))
      → Leaves code (as_argument kind n o t k)
  as_argument_leaves r kind n None t k ready all none g = stopped code _ (λ e. absurd (cc)) all none
  as_argument_leaves r kind n (Some cell.Unknown) t k ready all none g = stopped code _ (λ e. absurd (cc)) all none
  as_argument_leaves r kind n (Some cell.Unset) t k ready all none g = stopped code _ (λ e. absurd (cc)) all none
  as_argument_leaves r kind n (Some (cell.Mark m)) t k ready all none g = stopped code _ (λ e. absurd (cc)) all none
  as_argument_leaves r param.Value n (Some (cell.Int v)) t k ready all none g = g (cell.Int v) (number_arg t.now param.Value v)
  as_argument_leaves r param.Mix n (Some (cell.Int v)) t k ready all none g = g (cell.Int v) (number_arg t.now param.Mix v)
  as_argument_leaves r param.Place n (Some (cell.Int v)) t k ready all none g = stopped code _ (λ e. absurd (cc)) all none
  as_argument_leaves r param.Cells n (Some (cell.Int v)) t k ready all none g = stopped code _ (λ e. absurd (cc)) all none
  as_argument_leaves r param.Link n (Some (cell.Int v)) t k ready all none g = stopped code _ (λ e. absurd (cc)) all none
  as_argument_leaves r param.Value n (Some (cell.Place p)) t k ready all none g = stopped code _ (λ e. absurd (cc)) all none
  as_argument_leaves r param.Mix n (Some (cell.Place p)) t k ready all none g =
      if_true_keeps (Leaves code) (nat_eq p.len 1) _ _ (λ _. g (cell.Place p) (place_arg t.now param.Mix p (λ e. absurd (cc))))
      (λ _. stopped code _ (λ e. absurd (cc)) all none)
  as_argument_leaves r param.Place n (Some (cell.Place p)) t k ready all none g =
      if_true_keeps (Leaves code) (nat_eq p.len n) _ _ (λ _. g (cell.Place p) (place_arg t.now param.Place p (λ e. absurd (cc))))
      (λ _. stopped code _ (λ e. absurd (cc)) all none)
  as_argument_leaves r param.Cells n (Some (cell.Place p)) t k ready all none g =
      if_true_keeps (Leaves code) (nat_eq p.len n && numbers_at n t.now p.frame p.slot) _ _
      (λ b.
      let both = and_parts (nat_eq p.len n) (numbers_at n t.now p.frame p.slot) b in
      let long : p.len ≡ n = eqb-true p.len n both.0 in
      let marks : NoMarks (take p.len (drop p.slot (get_or t.now p.frame no_frame).cells)) =
      numbers_no_marks r t p.len p.frame p.slot ready (ap (λ q. numbers_at q t.now p.frame p.slot) long ∙ both.1) in
      g (cell.Place p) (record { none = λ m e. absurd (cc); cells = λ z. marks }))
      (λ _. stopped code _ (λ e. absurd (cc)) all none)
  as_argument_leaves r param.Link n (Some (cell.Place p)) t k ready all none g =
      if_true_keeps (Leaves code) (nat_eq p.slot 0 && nat_eq p.len 0) _ _
      (λ _. g (cell.Place p) (place_arg t.now param.Link p (λ e. absurd (cc))))
      (λ _. stopped code _ (λ e. absurd (cc)) all none)

  -- the arguments are read
  arguments_leave : (r : ℕ) (ps : List CodeParam) (t : State) (n : ℕ) (k : List Cell → StepResult) → Ready code r t → Entries code t.held
      → NoDone t.held → ((cs : List Cell) → PlainArgs t.now ps cs → Leaves code (k cs)) → Leaves code (arguments ps t n k)
  arguments_leave r [] t n k ready all none g = g [] (λ j lt. absurd (omega arith))
  arguments_leave r (p ∷ ps) t n k ready all none g =
      as_argument_leaves r p.kind p.cells (slot_of t n) t (λ c. arguments ps t (suc n) (λ cs. k (c ∷ cs))) ready all none
      (λ c hc. arguments_leave r ps t (suc n) (λ cs. k (c ∷ cs)) ready all none
      (λ cs hcs. g (c ∷ cs) (args_more t.now p ps c cs hc hcs)))

  -- ---- the frame that a call enters

  -- the two slots of a Mix
  mix_no_marks : (me at : ℕ) (c : Cell) → NoMarks (mix_cells me at c)
  mix_no_marks me at (cell.Place p) = two_no_marks (cell.Place p) cell.Unknown (λ m e. absurd (cc)) (λ m e. absurd (cc))
  mix_no_marks me at (cell.Int v) =
      two_no_marks (cell.Place (record { frame = me; slot = at + 1; len = 1 })) (cell.Int v) (λ m e. absurd (cc)) (λ m e. absurd (cc))
  mix_no_marks me at cell.Unknown = none_no_marks
  mix_no_marks me at cell.Unset = none_no_marks
  mix_no_marks me at (cell.Mark q) = none_no_marks

  -- what an argument puts into the slots of its parameter
  argument_no_marks : (frames : List PlainFrame) (me at : ℕ) (kind : ParamKind) (c : Cell) → PlainArg frames kind c
      → NoMarks (arg_cells frames me at kind c)
  argument_no_marks frames me at param.Value c h = one_no_mark c h.none
  argument_no_marks frames me at param.Place c h = one_no_mark c h.none
  argument_no_marks frames me at param.Link c h = one_no_mark c h.none
  argument_no_marks frames me at param.Mix c h = mix_no_marks me at c
  argument_no_marks frames me at param.Cells c h = h.cells refl

  -- what the first n do
  arguments_no_marks : (frames : List PlainFrame) (ps : List CodeParam) (args : List Cell) (n : ℕ) → n ≤ length ps
      → PlainArgs frames ps args → NoMarks (args_cells frames ps args n)
  arguments_no_marks frames ps args zero le h = none_no_marks
  arguments_no_marks frames ps args (suc n) le h =
      let xs = args_cells frames ps args n in
      joined_no_marks xs
      (arg_cells frames (length frames) (length xs) (get_or ps n no_param).kind (get_or args n cell.Unknown))
      (arguments_no_marks frames ps args n (omega arith) h)
      (argument_no_marks frames (length frames) (length xs) (get_or ps n no_param).kind (get_or args n cell.Unknown) (h n (omega arith)))

  -- a routine is entered
  enters_leaves : (base : ℕ → ℕ) (t : State) (c : ℕ) (args : List Cell) → BasedBy code base t.now t.held → Entries code t.held
      → NoDone t.held → (AtFinish code (start_at code c) → ⊥) → PlainArgs t.now (head_at code c).params args
      → Leaves code (enters_routine t c (start_at code c) (head_at code c) args)
  enters_leaves base t c args by all none begins hs =
      let hd : PlainHead = head_at code c in
      let x : PlainFrame = frame_of_call t.now hd c t.at args in
      let xs = args_cells t.now hd.params args (length hd.params) in
      let blank = map blank_of (kinds_of 0 hd.runs) in
      let marks : NoMarks x.cells =
      joined_no_marks xs (drop (length xs) blank) (arguments_no_marks t.now hd.params args (length hd.params) (omega arith) hs)
      (dropped_no_marks (length xs) blank (blank_no_marks (kinds_of 0 hd.runs))) in
      let entered = based_entered code base t.now t.held x marks by in
      if_true_keeps (Leaves code) (nat_lt (length t.now) frame_limit) _ _
      (λ _. if_true_keeps (Leaves code) (nat_le (live_cells t.now + hd.declared) cell_limit) _ _
      (λ _. settled code (more_base code base (length t.now) (length t.held)) _ t.held refl entered begins all none)
      (λ _. stopped code _ (λ e. absurd (cc)) all none))
      (λ _. stopped code _ (λ e. absurd (cc)) all none)

  -- a routine that may not be there
  as_routine_leaves : (o : Option PlainRoutine) (t : State) (k : PlainHead → StepResult) → Entries code t.held → NoDone t.held
      → ((x : PlainRoutine) → o ≡ Some x → Leaves code (k x.head)) → Leaves code (as_routine o t k)
  as_routine_leaves (Some x) t k all none g = g x refl
  as_routine_leaves None t k all none g = stopped code _ (λ e. absurd (cc)) all none

  -- a call
  pub call_leaves : (base : ℕ → ℕ) (r : ℕ) (t : State) (c first : ℕ) → Ready code r t → BasedBy code base t.now t.held → Entries code t.held
      → NoDone t.held → (c < length code.routines → AtFinish code (start_at code c) → ⊥)
      → Leaves code (as_routine (slice_get code.routines c) t
      (λ h. arguments h.params t first (λ args. enters_routine t c (start_at code c) h args)))
  call_leaves base r t c first ready by all none begins =
      as_routine_leaves (slice_get code.routines c) t
      (λ h. arguments h.params t first (λ args. enters_routine t c (start_at code c) h args)) all none
      (λ x e.
      let lt = slice_get_within code.routines c x e in
      let same : head_at code c ≡ x.head = ap (λ q. q.head) (get_or_from_slice_get code.routines c x no_routine e) in
      subst (λ hd. Leaves code (arguments hd.params t first (λ args. enters_routine t c (start_at code c) hd args))) same
      (arguments_leave r (head_at code c).params t first (λ args. enters_routine t c (start_at code c) (head_at code c) args) ready all none
      (λ args hs. enters_leaves base t c args by all none (begins lt) hs)))
