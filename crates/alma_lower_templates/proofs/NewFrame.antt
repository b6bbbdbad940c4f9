-- The frame that a call pushes stands for the new frame of the meaning: its link, its parameters and its other slots.
use Rattle.std.proofs.Common.{◌≡◌, ℕ, zero, suc, ◌+◌, ◌-◌, ◌<◌, ◌≤◌, ◌⊎◌, inl, inr, List, [], ◌∷◌, ◌++◌, length, map, get_or, set, take}
use Rattle.std.proofs.Common.{drop, replicate, Some, refl, sym, ap, ◌∙◌, subst, arith, ℤ, append_assoc, append-nil}
use Rattle.std.specs.Prelude.{slice_get, true, sum_by}
use Rattle.std.proofs.lemmas.Bool.{cases_eq, cases_lt}
use Rattle.std.proofs.Math.Seq.{get_or-append_seam}
use Rattle.std.proofs.lemmas.List.{get_or-set_same, get_or-set_other, set-get_or, length-set, length-append, length-map, length-drop}
use Rattle.std.proofs.lemmas.List.{length-replicate, get_or-replicate, get_or_past, get_or-drop, get_or_append_left, get_or-append_right}
use Rattle.std.proofs.lemmas.List.{get_or-append-add, get_or-map}
use Rattle.std.proofs.lemmas.List.Sums.{sum_by-cons}
use Rattle.std.proofs.lemmas.Option.{get_or_from_slice_get}
use Rattle.alma_base.specs.Numbers.{is_integer}
use Rattle.alma_code.specs.declared.cell.Cell.{Cell}
use Rattle.alma_code.specs.declared.cell.Cell.TheVariants as cell
use Rattle.alma_code.specs.declared.cell.CellPlace.{CellPlace}
use Rattle.alma_code.specs.declared.cell.SlotKind.{SlotKind}
use Rattle.alma_code.specs.declared.cell.SlotKind.TheVariants as slot
use Rattle.alma_code.specs.declared.head.CodeParam.{CodeParam}
use Rattle.alma_code.specs.Layout.{blank_of, blank_cells, no_param, arg_cells, args_cells, frame_of_call, kinds_of}
use Rattle.alma_code.specs.Picture.{PlainFrame}
use Rattle.alma_code.specs.Picture as picture
use Rattle.alma_code.specs.Plain.{PlainCode, PlainRoutine, kinds_at}
use Rattle.alma_code.specs.Plain as plain
use Rattle.alma_code.specs.Machine.{link_to}
use Rattle.alma_ir.specs.declared.program.ArgKind.{ArgKind}
use Rattle.alma_ir.specs.declared.program.ArgKind.TheVariants as kind
use Rattle.alma_ir.specs.declared.program.Param.{Param}
use Rattle.alma_ir.specs.Tree.{Program, routine_at}
use Rattle.alma_ir.specs.Lines.{body_with_lines}
use Rattle.alma_ir.specs.Checked.{link_slots, slots_of_kind, param_slots, AreLaidOut, ParamsFirst}
use Rattle.alma_mean.specs.Store.{Store, Place, Frame, Unknown, Number, At, cell_at, cells_from, up}
use Rattle.alma_mean.specs.Store as store
use Rattle.alma_mean.specs.Rows.{ArgValue, ArgNumber, ArgMix, ArgPlace, ArgCells, set_all, with_param, with_params, frame_of}
use Rattle.alma_lower_implements.proofs.Frames.{shift, shift_in, SamePlace, SameContent, HasLink, SameFrame, AreNumbers, HeldPlace}
use Rattle.alma_lower_implements.proofs.Frames.{StandFor}
use Rattle.alma_lower_implements.proofs.FrameLemmas.{HoldsPlace, FrontAlike, numbers_moved, held_moved}
use Rattle.alma_lower_implements.proofs.Leaving.{same_below}
use Rattle.alma_lower_templates.specs.Slots.{param_kinds, params_kinds, routine_kinds, link_kinds, stmts_slots}
use Rattle.alma_lower_templates.specs.Compiled.{param_kind, param_named, link_params}
use Rattle.alma_lower_templates.proofs.Given.{GivenIn, number_given, Given}

take_next : {A : Type 0} (l : List A) (m n : ℕ) (d : A) → m < length l → take (suc n) (drop m l) ≡ get_or l m d ∷ take n (drop (suc m) l)
take_next [] m n d lt = absurd (omega (arith, lt))
take_next (x ∷ l) zero n d lt = refl
take_next (x ∷ l) (suc m) n d lt = take_next l m n d (omega (arith, lt))

-- ---- what is handed over

module _ (p : Program) (code : PlainCode) (v : Store) (now : List PlainFrame) where
  -- a place of so many live numbers
  pub record PlaceAlike (cells : ℕ) (q : Place) (c : CellPlace) : Type 0 where
    pub same : SamePlace p v q c
    pub numbers : AreNumbers p code v now q
    pub size : q.size ≡ cells

  -- an argument that was taken for a parameter of this kind, and what stands in its slot
  pub data HandedAs : ArgKind → (cells : ℕ) → ArgValue → Cell → Type 0 where
    a_value : {n : ℕ} (x : ℤ) → is_integer x ≡ true → HandedAs kind.Value n (ArgNumber x) (cell.Int x)
    a_place : {n : ℕ} (q : Place) (c : CellPlace) → PlaceAlike n q c → HandedAs kind.Place n (ArgPlace q) (cell.Place c)
    mix_value : {n : ℕ} (x : ℤ) → is_integer x ≡ true → HandedAs kind.Mix n (ArgMix x) (cell.Int x)
    mix_place : {n : ℕ} (q : Place) (c : CellPlace) → PlaceAlike 1 q c → HandedAs kind.Mix n (ArgPlace q) (cell.Place c)
    some_cells : {n : ℕ} (q : Place) (c : CellPlace) → PlaceAlike n q c → HandedAs kind.Cells n (ArgCells q) (cell.Place c)

  -- one for each parameter
  abbrev pub AllHanded : List Param → List ArgValue → List Cell → Type 0
  AllHanded [] [] [] = Unit {0}
  AllHanded (q ∷ qs) (a ∷ taken) (c ∷ cs) = HandedAs q.kind q.cells a c × AllHanded qs taken cs
  AllHanded _ _ _ = ⊥

-- the link comes before the other arguments
abbrev pub with_link : (level : ℕ) → (frame : ℕ) → List Cell → List Cell
with_link zero f cs = cs
with_link (suc zero) f cs = cs
with_link (suc (suc above)) f cs = cell.Place (link_to f) ∷ cs

-- ---- the cells of the new frame, one after another

module _ (p : Program) (code : PlainCode) (v : Store) (now : List PlainFrame) (stand : StandFor p code v now) (r f : ℕ)
    (kinds : List SlotKind) (w : Store)
    (below : (k : ℕ) → k < length v → get_or w k store.no_frame ≡ get_or v k store.no_frame)
    (top : (get_or w (length v) store.no_frame).routine ≡ r) where
  abbrev kind_of : ℕ → SlotKind
  kind_of i = get_or kinds (shift p r + i) slot.Mark

  -- a place of the new frame itself, the number slot of a MIX parameter
  pub record OfItself (q : Place) : Type 0 where
    pub frame : q.frame ≡ length v
    pub size : q.size ≡ 1
    pub there : q.slot < (routine_at p r).slots
    pub kind : kind_of q.slot ≡ slot.Number

  pub record NewPlace (i : ℕ) (q : Place) : Type 0 where
    pub size : kind_of i ≡ slot.Place q.size
    pub is : AreNumbers p code v now q ⊎ OfItself q

  -- the first `at` cells of the routine are there
  pub record FrontSame (at : ℕ) (cells : List store.Cell) (done : List Cell) : Type 0 where
    pub long : length done ≡ shift p r + at
    pub slots : length cells ≡ (routine_at p r).slots
    pub same : (i : ℕ) → i < at → SameContent p w (kind_of i) (get_or cells i Unknown) (get_or done (shift p r + i) cell.Unset)
    pub behind : (i : ℕ) → at ≤ i → get_or cells i Unknown ≡ Unknown
    pub link : 1 ≤ shift p r → get_or done 0 cell.Unset ≡ cell.Place (link_to f)
    pub places : (i : ℕ) (q : Place) → get_or cells i Unknown ≡ At q → NewPlace i q
    pub given : (i : ℕ) → i < at → GivenIn (get_or done (shift p r + i) cell.Unset) (kind_of i)

  one_cell : (at : ℕ) (cells : List store.Cell) (done : List Cell) (x : store.Cell) (y : Cell) → at < (routine_at p r).slots
      → SameContent p w (kind_of at) x y → ((q : Place) → x ≡ At q → NewPlace at q) → GivenIn y (kind_of at)
      → FrontSame at cells done → FrontSame (suc at) (set cells at x) (done ++ y ∷ [])
  one_cell at cells done x y lt content place held h = record {
    long = omega (arith, h.long, length-append done (y ∷ []));
    slots = length-set cells at x ∙ h.slots;
    same = λ i small. same_at i small (cases_eq i at);
    behind = λ i le. get_or-set_other cells at i x Unknown (λ e. omega (arith, e, le)) ∙ h.behind i (omega (arith, le));
    link = λ some. get_or_append_left done (y ∷ []) cell.Unset 0 (omega (arith, h.long, some)) ∙ h.link some;
    places = λ i q e. place_at i q e (cases_eq i at);
    given = λ i small. given_at i small (cases_eq i at);
  }
    where
      there : at < length cells
      there = omega (arith, lt, h.slots)

      here : get_or (set cells at x) at Unknown ≡ x
      here = get_or-set_same cells at x Unknown there

      here_too : get_or (done ++ y ∷ []) (shift p r + at) cell.Unset ≡ y
      here_too = ap (λ n. get_or (done ++ y ∷ []) n cell.Unset) (sym h.long) ∙ get_or-append_seam done y [] cell.Unset

      same_at : (i : ℕ) → i < suc at → (i ≡ at) ⊎ (i ≡ at → ⊥)
          → SameContent p w (kind_of i) (get_or (set cells at x) i Unknown) (get_or (done ++ y ∷ []) (shift p r + i) cell.Unset)
      same_at i small (inl e) =
          subst (λ n. SameContent p w (kind_of n) (get_or (set cells at x) n Unknown) (get_or (done ++ y ∷ []) (shift p r + n) cell.Unset))
          (sym e)
          (subst (λ a. SameContent p w (kind_of at) a (get_or (done ++ y ∷ []) (shift p r + at) cell.Unset)) (sym here)
          (subst (SameContent p w (kind_of at) x) (sym here_too) content))
      same_at i small (inr ne) =
          subst (λ a. SameContent p w (kind_of i) a (get_or (done ++ y ∷ []) (shift p r + i) cell.Unset))
          (sym (get_or-set_other cells at i x Unknown ne))
          (subst (SameContent p w (kind_of i) (get_or cells i Unknown))
          (sym (get_or_append_left done (y ∷ []) cell.Unset (shift p r + i) (omega (arith, h.long, small, ne))))
          (h.same i (omega (arith, small, ne))))

      given_at : (i : ℕ) → i < suc at → (i ≡ at) ⊎ (i ≡ at → ⊥)
          → GivenIn (get_or (done ++ y ∷ []) (shift p r + i) cell.Unset) (kind_of i)
      given_at i small (inl e) =
          subst (λ n. GivenIn (get_or (done ++ y ∷ []) (shift p r + n) cell.Unset) (kind_of n)) (sym e)
          (subst (λ c. GivenIn c (kind_of at)) (sym here_too) held)
      given_at i small (inr ne) =
          subst (λ c. GivenIn c (kind_of i))
          (sym (get_or_append_left done (y ∷ []) cell.Unset (shift p r + i) (omega (arith, h.long, small, ne))))
          (h.given i (omega (arith, small, ne)))

      place_at : (i : ℕ) (q : Place) → get_or (set cells at x) i Unknown ≡ At q → (i ≡ at) ⊎ (i ≡ at → ⊥) → NewPlace i q
      place_at i q e (inl z) = subst (λ n. NewPlace n q) (sym z)
          (place q (sym here ∙ ap (λ n. get_or (set cells at x) n Unknown) (sym z) ∙ e))
      place_at i q e (inr ne) = h.places i q (sym (get_or-set_other cells at i x Unknown ne) ∙ e)

  number_no_place : (x : ℤ) (at : ℕ) (q : Place) → Number x ≡ At q → NewPlace at q
  number_no_place x at q e = absurd (subst HoldsPlace (sym e) tt)

  unknown_no_place : (at : ℕ) (q : Place) → Unknown ≡ At q → NewPlace at q
  unknown_no_place at q e = absurd (subst HoldsPlace (sym e) tt)

  -- a cell that stays unknown
  no_cell : (at : ℕ) (cells : List store.Cell) (done : List Cell) → at < (routine_at p r).slots → kind_of at ≡ slot.Number
      → FrontSame at cells done → FrontSame (suc at) cells (done ++ cell.Unknown ∷ [])
  no_cell at cells done lt is h =
      let content : SameContent p w slot.Number Unknown cell.Unknown = tt in
      let stays : set cells at Unknown ≡ cells = ap (set cells at) (sym (h.behind at (omega arith))) ∙ set-get_or cells at Unknown in
      subst (λ cs. FrontSame (suc at) cs (done ++ cell.Unknown ∷ [])) stays
      (one_cell at cells done Unknown cell.Unknown lt (subst (λ k. SameContent p w k Unknown cell.Unknown) (sym is) content)
      (unknown_no_place at) tt h)

  number_content : (a : store.Cell) (b : Cell) → SameContent p v slot.Number a b → SameContent p w slot.Number a b
  number_content Unknown cell.Unknown h = h
  number_content Unknown cell.Unset h = absurd h
  number_content Unknown (cell.Int x) h = absurd h
  number_content Unknown (cell.Place x) h = absurd h
  number_content Unknown (cell.Mark x) h = absurd h
  number_content (Number a) (cell.Int b) h = h
  number_content (Number a) cell.Unknown h = absurd h
  number_content (Number a) cell.Unset h = absurd h
  number_content (Number a) (cell.Place x) h = absurd h
  number_content (Number a) (cell.Mark x) h = absurd h
  number_content (At q) b h = absurd h

  content_no_place : (a : store.Cell) (b : Cell) (at : ℕ) (q : Place) → SameContent p v slot.Number a b → a ≡ At q → NewPlace at q
  content_no_place a b at q h e = absurd (subst (λ x. SameContent p v slot.Number x b) e h)

  -- cells that are copied
  all_cells : (n at g from cfrom : ℕ) (source : List Cell) (cells : List store.Cell) (done : List Cell) → at + n ≤ (routine_at p r).slots
      → ((i : ℕ) → i < n → kind_of (at + i) ≡ slot.Number)
      → ((i : ℕ) → i < n → SameContent p v slot.Number (cell_at v g (from + i)) (get_or source (cfrom + i) cell.Unset))
      → (1 ≤ n → cfrom + n ≤ length source)
      → FrontSame at cells done → FrontSame (at + n) (set_all cells at (cells_from v g from n)) (done ++ take n (drop cfrom source))
  all_cells zero at g from cfrom source cells done room numbers contents within h =
      let e : at ≡ at + 0 = omega arith in
      subst (λ m. FrontSame m cells (done ++ [])) e (subst (FrontSame at cells) (sym (append-nil done)) h)
  all_cells (suc n) at g from cfrom source cells done room numbers contents within h =
      let a0 : at + 0 ≡ at = omega arith in
      let f0 : from + 0 ≡ from = omega arith in
      let c0 : cfrom + 0 ≡ cfrom = omega arith in
      let x : store.Cell = cell_at v g from in
      let y : Cell = get_or source cfrom cell.Unset in
      let content : SameContent p v slot.Number x y =
      subst (λ m. SameContent p v slot.Number (cell_at v g m) y) f0
      (subst (λ m. SameContent p v slot.Number (cell_at v g (from + 0)) (get_or source m cell.Unset)) c0 (contents 0 (omega arith))) in
      let is : kind_of at ≡ slot.Number = ap kind_of (sym a0) ∙ numbers 0 (omega arith) in
      let one = one_cell at cells done x y (omega (arith, room)) (subst (λ k. SameContent p w k x y) (sym is) (number_content x y content))
      (λ q e. content_no_place x y at q content e) (subst (GivenIn y) (sym is) (number_given y)) h in
      let rest =
      all_cells n (suc at) g (suc from) (suc cfrom) source (set cells at x) (done ++ y ∷ []) (omega (arith, room))
      (λ i lt. (let e : suc at + i ≡ at + suc i = omega arith in ap kind_of e) ∙ numbers (suc i) (omega (arith, lt)))
      (λ i lt.
      let e : from + suc i ≡ suc from + i = omega arith in
      let d : cfrom + suc i ≡ suc cfrom + i = omega arith in
      subst (λ m. SameContent p v slot.Number (cell_at v g m) (get_or source (suc cfrom + i) cell.Unset)) e
      (subst (λ m. SameContent p v slot.Number (cell_at v g (from + suc i)) (get_or source m cell.Unset)) d
      (contents (suc i) (omega (arith, lt)))))
      (λ some. omega (arith, within (omega arith))) one in
      let many : suc at + n ≡ at + suc n = omega arith in
      let whole : (done ++ y ∷ []) ++ take n (drop (suc cfrom) source) ≡ done ++ take (suc n) (drop cfrom source) =
      append_assoc done (y ∷ []) (take n (drop (suc cfrom) source))
      ∙ ap (λ z. done ++ z) (sym (take_next source cfrom n cell.Unset (omega (arith, within (omega arith))))) in
      subst (λ m. FrontSame m (set_all cells at (cells_from v g from (suc n))) (done ++ take (suc n) (drop cfrom source))) many
      (subst (FrontSame (suc at + n) (set_all (set cells at x) (suc at) (cells_from v g (suc from) n))) whole rest)

  -- a place of the caller is the same place with the new frame there
  place_above : (q : Place) (c : CellPlace) → q.frame < length v → SamePlace p v q c → SamePlace p w q c
  place_above q c lt h = record { frame = h.frame; slot = ap (λ g. shift p g.routine + q.slot) (below q.frame lt) ∙ h.slot; size = h.size }

  -- ---- one parameter

  param_step : (k : ArgKind) (n : ℕ) (a : ArgValue) (c : Cell) (at : ℕ) (cells : List store.Cell) (done : List Cell)
      → HandedAs p code v now k n a c → at + slots_of_kind k n ≤ (routine_at p r).slots
      → ((i : ℕ) → i < slots_of_kind k n → kind_of (at + i) ≡ get_or (param_kinds k n) i slot.Mark)
      → FrontSame at cells done → FrontSame (at + slots_of_kind k n) (with_param v (length v) at a cells)
      (done ++ arg_cells now (length now) (length done) (param_kind k) c)
  param_step k n a d at cells done (a_value x fits) room are h =
      let a0 : at + 0 ≡ at = omega arith in
      let s : suc at ≡ at + 1 = omega arith in
      let is : kind_of at ≡ slot.Number = ap kind_of (sym a0) ∙ are 0 (omega arith) in
      let content : SameContent p w slot.Number (Number x) (cell.Int x) = (refl, fits) in
      subst (λ m. FrontSame m (set cells at (Number x)) (done ++ cell.Int x ∷ [])) s
      (one_cell at cells done (Number x) (cell.Int x) (omega (arith, room))
      (subst (λ k. SameContent p w k (Number x) (cell.Int x)) (sym is) content) (number_no_place x at) tt h)
  param_step k n a d at cells done (a_place q c alike) room are h =
      let a0 : at + 0 ≡ at = omega arith in
      let s : suc at ≡ at + 1 = omega arith in
      let is : kind_of at ≡ slot.Place n = ap kind_of (sym a0) ∙ are 0 (omega arith) in
      let content : SameContent p w (slot.Place n) (At q) (cell.Place c) = place_above q c alike.numbers.frame alike.same in
      subst (λ m. FrontSame m (set cells at (At q)) (done ++ cell.Place c ∷ [])) s
      (one_cell at cells done (At q) (cell.Place c) (omega (arith, room))
      (subst (λ k. SameContent p w k (At q) (cell.Place c)) (sym is) content)
      (λ q' e. subst (NewPlace at) (is_held e) (record { size = is ∙ ap slot.Place (sym alike.size); is = inl alike.numbers })) tt h)
    where
      held_or : store.Cell → Place
      held_or Unknown = q
      held_or (Number x) = q
      held_or (At q') = q'

      is_held : {q' : Place} → At q ≡ At q' → q ≡ q'
      is_held e = ap held_or e
  param_step k n a d at cells done (mix_place q c alike) room are h =
      let a0 : at + 0 ≡ at = omega arith in
      let a1 : at + 1 ≡ suc at = omega arith in
      let s : suc (suc at) ≡ at + 2 = omega arith in
      let is : kind_of at ≡ slot.Place 1 = ap kind_of (sym a0) ∙ are 0 (omega arith) in
      let second : kind_of (suc at) ≡ slot.Number = ap kind_of (sym a1) ∙ are 1 (omega arith) in
      let content : SameContent p w (slot.Place 1) (At q) (cell.Place c) = place_above q c alike.numbers.frame alike.same in
      let one =
      one_cell at cells done (At q) (cell.Place c) (omega (arith, room))
      (subst (λ k. SameContent p w k (At q) (cell.Place c)) (sym is) content)
      (λ q' e. subst (NewPlace at) (is_held e) (record { size = is ∙ ap slot.Place (sym alike.size); is = inl alike.numbers })) tt h in
      subst (λ m. FrontSame m (set cells at (At q)) (done ++ cell.Place c ∷ cell.Unknown ∷ [])) s
      (subst (FrontSame (suc (suc at)) (set cells at (At q))) (append_assoc done (cell.Place c ∷ []) (cell.Unknown ∷ []))
      (no_cell (suc at) (set cells at (At q)) (done ++ cell.Place c ∷ []) (omega (arith, room)) second one))
    where
      held_or : store.Cell → Place
      held_or Unknown = q
      held_or (Number x) = q
      held_or (At q') = q'

      is_held : {q' : Place} → At q ≡ At q' → q ≡ q'
      is_held e = ap held_or e
  param_step k n a d at cells done (mix_value x fits) room are h =
      let a0 : at + 0 ≡ at = omega arith in
      let a1 : at + 1 ≡ suc at = omega arith in
      let s : suc (suc at) ≡ at + 2 = omega arith in
      let is : kind_of at ≡ slot.Place 1 = ap kind_of (sym a0) ∙ are 0 (omega arith) in
      let second : kind_of (suc at) ≡ slot.Number = ap kind_of (sym a1) ∙ are 1 (omega arith) in
      let q : Place = record { frame = length v; slot = suc at; size = 1 } in
      let c : CellPlace = record { frame = length now; slot = length done + 1; len = 1 } in
      let shifts : shift_in p w (length v) ≡ shift p r = ap (shift p) top in
      let same : SamePlace p w q c = record { frame = sym stand.count; slot = omega (arith, shifts, h.long); size = refl } in
      let content : SameContent p w (slot.Place 1) (At q) (cell.Place c) = same in
      let number : SameContent p w slot.Number (Number x) (cell.Int x) = (refl, fits) in
      let itself : NewPlace at q = record {
        size = is;
        is =
            inr (record { frame = refl; size = refl; there = omega (arith, room); kind = second });
      } in
      let one = one_cell at cells done (At q) (cell.Place c) (omega (arith, room))
      (subst (λ k. SameContent p w k (At q) (cell.Place c)) (sym is) content) (λ q' e. subst (NewPlace at) (is_held q e) itself) tt h in
      let two = one_cell (suc at) (set cells at (At q)) (done ++ cell.Place c ∷ []) (Number x) (cell.Int x) (omega (arith, room))
      (subst (λ k. SameContent p w k (Number x) (cell.Int x)) (sym second) number) (number_no_place x (suc at)) tt one in
      subst (λ m. FrontSame m (set (set cells at (At q)) (suc at) (Number x)) (done ++ cell.Place c ∷ cell.Int x ∷ [])) s
      (subst (FrontSame (suc (suc at)) (set (set cells at (At q)) (suc at) (Number x)))
      (append_assoc done (cell.Place c ∷ []) (cell.Int x ∷ [])) two)
    where
      held_or : Place → store.Cell → Place
      held_or q Unknown = q
      held_or q (Number x) = q
      held_or q (At q') = q'

      is_held : (q : Place) {q' : Place} → At q ≡ At q' → q ≡ q'
      is_held q e = ap (held_or q) e
  param_step k n a d at cells done (some_cells q c alike) room are h =
      let g = get_or now q.frame picture.no_frame in
      let frame = stand.frames q.frame alike.numbers.frame in
      let sh = shift_in p v q.frame in
      let long : n ≡ c.len = sym alike.size ∙ alike.same.size in
      let copied = all_cells n at q.frame q.slot (sh + q.slot) g.cells cells done room
      (λ i lt. are i lt ∙ get_or-replicate n i slot.Number slot.Mark lt)
      (λ i lt.
      let inside : i < q.size = omega (arith, lt, alike.size) in
      let e : sh + (q.slot + i) ≡ sh + q.slot + i = omega arith in
      subst (λ m. SameContent p v slot.Number (cell_at v q.frame (q.slot + i)) (get_or g.cells m cell.Unset)) e
      (subst (λ k. SameContent p v k (cell_at v q.frame (q.slot + i)) (get_or g.cells (sh + (q.slot + i)) cell.Unset))
      (alike.numbers.kinds i inside) (frame.cells (q.slot + i) (alike.numbers.cells i inside))))
      (within n alike.size) h in
      let is_place : take n (drop (sh + q.slot) g.cells) ≡ take c.len (drop c.slot (get_or now c.frame picture.no_frame).cells) =
      ap (λ m. take m (drop (sh + q.slot) g.cells)) long ∙ ap (λ m. take c.len (drop m g.cells)) alike.same.slot
      ∙ ap (λ m. take c.len (drop c.slot (get_or now m picture.no_frame).cells)) alike.same.frame in
      subst (λ z. FrontSame (at + n) (set_all cells at (cells_from v q.frame q.slot q.size)) (done ++ z)) is_place
      (subst (λ m. FrontSame (at + n) (set_all cells at (cells_from v q.frame q.slot m)) (done ++ take n (drop (sh + q.slot) g.cells)))
      (sym alike.size) copied)
    where
      within : (m : ℕ) → q.size ≡ m → 1 ≤ m → shift_in p v q.frame + q.slot + m ≤ length (get_or now q.frame picture.no_frame).cells
      within zero e some = absurd (omega (arith, some))
      within (suc m) e some =
          let frame = stand.frames q.frame alike.numbers.frame in
          omega (arith, frame.within, alike.numbers.cells m (omega (arith, e)), e)

  -- ---- all parameters

  -- the kinds of the slots of the parameters, from a slot of the routine on
  abbrev pub KindsFrom : (at : ℕ) → List Param → Type 0
  KindsFrom at [] = Unit {0}
  KindsFrom at (q ∷ qs) = ((i : ℕ) → i < param_slots q → kind_of (at + i) ≡ get_or (param_kinds q.kind q.cells) i slot.Mark)
      × KindsFrom (at + param_slots q) qs

  module _ (ps : List CodeParam) (args : List Cell) where
    -- from number k on these are the parameters of the code, and what stands for them
    abbrev pub StandsAs : (k : ℕ) → List Param → List Cell → Type 0
    StandsAs k [] [] = Unit {0}
    StandsAs k (q ∷ qs) (c ∷ cs) = (get_or ps k no_param ≡ param_named q) × (get_or args k cell.Unknown ≡ c) × StandsAs (suc k) qs cs
    StandsAs k [] (c ∷ cs) = ⊥
    StandsAs k (q ∷ qs) [] = ⊥

    all_params : (qs : List Param) (taken : List ArgValue) (cs : List Cell) (k at : ℕ) (cells : List store.Cell)
        → AllHanded p code v now qs taken cs → StandsAs k qs cs → AreLaidOut at qs → KindsFrom at qs
        → at + sum_by param_slots qs ≤ (routine_at p r).slots
        → FrontSame at cells (args_cells now ps args k)
        → FrontSame (at + sum_by param_slots qs) (with_params v (length v) qs taken cells) (args_cells now ps args (k + length qs))
    all_params [] [] [] k at cells handed are laid are_kinds room h =
        let a0 : at ≡ at + 0 = omega arith in
        let k0 : k ≡ k + 0 = omega arith in
        subst (λ m. FrontSame m cells (args_cells now ps args (k + 0))) a0 (subst (λ m. FrontSame at cells (args_cells now ps args m)) k0 h)
    all_params [] [] (c ∷ cs) k at cells handed are laid are_kinds room h = absurd handed
    all_params [] (a ∷ taken) cs k at cells handed are laid are_kinds room h = absurd handed
    all_params (q ∷ qs) [] cs k at cells handed are laid are_kinds room h = absurd handed
    all_params (q ∷ qs) (a ∷ taken) [] k at cells handed are laid are_kinds room h = absurd handed
    all_params (q ∷ qs) (a ∷ taken) (c ∷ cs) k at cells handed are laid are_kinds room h =
        let done = args_cells now ps args k in
        let sum : sum_by param_slots (q ∷ qs) ≡ param_slots q + sum_by param_slots qs = sum_by-cons param_slots q qs in
        let one = param_step q.kind q.cells a c at cells done handed.0 (omega (arith, room, sum)) are_kinds.0 h in
        let put : FrontSame (at + param_slots q) (with_param v (length v) q.slot a cells)
        (done ++ arg_cells now (length now) (length done) (param_kind q.kind) c) =
        subst (λ s. FrontSame (at + param_slots q) (with_param v (length v) s a cells)
        (done ++ arg_cells now (length now) (length done) (param_kind q.kind) c)) (sym laid.0) one in
        let next : FrontSame (at + param_slots q) (with_param v (length v) q.slot a cells) (args_cells now ps args (suc k)) =
        subst (λ x. FrontSame (at + param_slots q) (with_param v (length v) q.slot a cells)
        (done ++ arg_cells now (length now) (length done) (get_or ps k no_param).kind x)) (sym are.1)
        (subst (λ x. FrontSame (at + param_slots q) (with_param v (length v) q.slot a cells)
        (done ++ arg_cells now (length now) (length done) x.kind c)) (sym are.0) put) in
        let rest = all_params qs taken cs (suc k) (at + param_slots q) (with_param v (length v) q.slot a cells) handed.1 are.2 laid.1
        are_kinds.1 (omega (arith, room, sum)) next in
        let ats : at + param_slots q + sum_by param_slots qs ≡ at + sum_by param_slots (q ∷ qs) = omega (arith, sum) in
        let ks : suc k + length qs ≡ k + suc (length qs) = omega arith in
        let all_cells = with_params v (length v) (q ∷ qs) (a ∷ taken) cells in
        subst (λ m. FrontSame m all_cells (args_cells now ps args (k + suc (length qs)))) ats
        (subst (λ m. FrontSame (at + param_slots q + sum_by param_slots qs) all_cells (args_cells now ps args m)) ks rest)

  -- ---- the start

  front_start : (done : List Cell) → length done ≡ shift p r → (1 ≤ shift p r → get_or done 0 cell.Unset ≡ cell.Place (link_to f))
      → FrontSame 0 (replicate (routine_at p r).slots Unknown) done
  front_start done long link = record {
    long = omega (arith, long);
    slots = length-replicate (routine_at p r).slots Unknown;
    same = λ i lt. absurd (omega (arith, lt));
    behind = λ i le. unknown_at i;
    link = link;
    places = λ i q e. unknown_no_place i q (sym (unknown_at i) ∙ e);
    given = λ i lt. absurd (omega (arith, lt));
  }
    where
      unknown_at : (i : ℕ) → get_or (replicate (routine_at p r).slots Unknown) i Unknown ≡ Unknown
      unknown_at i = elim (cases_lt i (routine_at p r).slots) [
        | inl lt ↦ get_or-replicate (routine_at p r).slots i Unknown Unknown lt
        | inr past ↦ get_or_past (replicate (routine_at p r).slots Unknown) i Unknown
            (omega (arith, past, length-replicate (routine_at p r).slots Unknown))
      ]

-- ---- the new frame

-- what the code says of a routine
pub record IsCompiled (p : Program) (code : PlainCode) (r : ℕ) (callee : PlainRoutine) : Type 0 where
  pub there : slice_get code.routines r ≡ Some callee
  pub params : callee.head.params ≡ link_params (routine_at p r).level (routine_at p r).outer ++ map param_named (routine_at p r).params
  pub declared : callee.head.declared ≡ (routine_at p r).declared
  pub kinds : kinds_of 0 callee.head.runs ≡ routine_kinds p r

-- the arguments as the machine reads them, the link before them
abbrev pub handed_all : Program → (r frame : ℕ) → List Cell → List Cell
handed_all p r f cs = with_link (routine_at p r).level f cs

module _ (p : Program) (code : PlainCode) (v : Store) (now : List PlainFrame) (stand : StandFor p code v now) (r links back : ℕ)
    (callee : PlainRoutine) (taken : List ArgValue) (cs : List Cell)
    (is : IsCompiled p code r callee) (exists : r < length p.routines) (first : ParamsFirst (routine_at p r)) (live : up v links < length v)
    (outer : (get_or v (up v links) store.no_frame).routine ≡ (routine_at p r).outer)
    (handed : AllHanded p code v now (routine_at p r).params taken cs) where
  abbrev new : Frame
  new = frame_of v r links (routine_at p r) taken

  abbrev args : List Cell
  args = handed_all p r (up v links) cs

  abbrev pushed : PlainFrame
  pushed = frame_of_call now callee.head r back args

  abbrev w : Store
  w = v ++ new ∷ []

  abbrev later : List PlainFrame
  later = now ++ pushed ∷ []

  abbrev kinds : List SlotKind
  kinds = kinds_of 0 callee.head.runs

  below : (k : ℕ) → k < length v → get_or w k store.no_frame ≡ get_or v k store.no_frame
  below k lt = get_or_append_left v (new ∷ []) store.no_frame k lt

  above : get_or w (length v) store.no_frame ≡ new
  above = get_or-append_seam v new [] store.no_frame

  below_now : (k : ℕ) → k < length v → get_or later k picture.no_frame ≡ get_or now k picture.no_frame
  below_now k lt = get_or_append_left now (pushed ∷ []) picture.no_frame k (omega (arith, lt, stand.count))

  above_now : get_or later (length v) picture.no_frame ≡ pushed
  above_now = ap (λ n. get_or later n picture.no_frame) (sym stand.count) ∙ get_or-append_seam now pushed [] picture.no_frame

  long : length w ≡ length v + 1
  long = length-append v (new ∷ [])

  abbrev Front : (at : ℕ) (cells : List store.Cell) (done : List Cell) → Type 0
  Front at cells done = FrontSame p code v now stand r (up v links) kinds w below (ap (λ g. g.routine) above) at cells done

  -- ---- the kinds

  own_long : (level : ℕ) → length (link_kinds level (routine_at p r).outer) ≡ link_slots level
  own_long zero = refl
  own_long (suc zero) = refl
  own_long (suc (suc n)) = refl

  kinds_long : (k : _) (n : ℕ) → length (param_kinds k n) ≡ slots_of_kind k n
  kinds_long kind.Value n = refl
  kinds_long kind.Place n = refl
  kinds_long kind.Mix n = refl
  kinds_long kind.Cells n = length-replicate n slot.Number

  params_long : (qs : List Param) → length (params_kinds qs) ≡ sum_by param_slots qs
  params_long [] = refl
  params_long (q ∷ qs) =
      let sum : sum_by param_slots (q ∷ qs) ≡ param_slots q + sum_by param_slots qs = sum_by-cons param_slots q qs in
      omega (arith, length-append (param_kinds q.kind q.cells) (params_kinds qs), kinds_long q.kind q.cells, params_long qs, sum)

  abbrev params : List Param
  params = (routine_at p r).params

  abbrev own_part : List SlotKind
  own_part = params_kinds params ++ replicate ((routine_at p r).slots - length (params_kinds params)) slot.Number

  own_part_long : length own_part ≡ (routine_at p r).slots
  own_part_long =
      omega (
        arith,
        length-append (params_kinds params) (replicate ((routine_at p r).slots - length (params_kinds params)) slot.Number),
        length-replicate ((routine_at p r).slots - length (params_kinds params)) slot.Number,
        params_long params,
        first.fit,
      )

  -- behind the link stand the kinds of the routine's own slots
  own_kind : (i : ℕ) → i < (routine_at p r).slots → get_or kinds (shift p r + i) slot.Mark ≡ get_or own_part i slot.Mark
  own_kind i lt =
      let l = link_kinds (routine_at p r).level (routine_at p r).outer in
      let ol : length l ≡ shift p r = own_long (routine_at p r).level in
      ap (λ ks. get_or ks (shift p r + i) slot.Mark) is.kinds
      ∙ get_or_append_left (l ++ own_part) _ slot.Mark (shift p r + i) (omega (arith, length-append l own_part, ol, lt, own_part_long))
      ∙ ap (λ n. get_or (l ++ own_part) (n + i) slot.Mark) (sym ol) ∙ get_or-append-add l own_part i slot.Mark

  all_long : shift p r + (routine_at p r).slots ≤ length kinds
  all_long =
      let l = link_kinds (routine_at p r).level (routine_at p r).outer in
      omega (
        arith,
        ap length is.kinds,
        length-append (l ++ own_part) (stmts_slots p r (body_with_lines (routine_at p r))),
        length-append l own_part,
        own_long (routine_at p r).level,
        own_part_long,
      )

  -- the slots behind the parameters are for numbers
  other_kind : (i : ℕ) → sum_by param_slots params ≤ i → i < (routine_at p r).slots → get_or kinds (shift p r + i) slot.Mark ≡ slot.Number
  other_kind i le lt =
      own_kind i lt ∙ get_or-append_right (params_kinds params)
      (replicate ((routine_at p r).slots - length (params_kinds params)) slot.Number) (sum_by param_slots params) i slot.Mark
      (params_long params) le
      ∙ get_or-replicate ((routine_at p r).slots - length (params_kinds params)) (i - sum_by param_slots params) slot.Number slot.Mark
      (omega (arith, le, lt, params_long params))

  params_from : (qs : List Param) (at : ℕ)
      → ((i : ℕ) → i < length (params_kinds qs) → get_or kinds (shift p r + (at + i)) slot.Mark ≡ get_or (params_kinds qs) i slot.Mark)
      → KindsFrom p code v now stand r (up v links) kinds w below (ap (λ g. g.routine) above) at qs
  params_from [] at h = tt
  params_from (q ∷ qs) at h =
      let a = param_kinds q.kind q.cells in
      let al : length a ≡ param_slots q = kinds_long q.kind q.cells in
      let both : length (a ++ params_kinds qs) ≡ length a + length (params_kinds qs) = length-append a (params_kinds qs) in (
        λ i lt. h i (omega (arith, lt, al, both)) ∙ get_or_append_left a (params_kinds qs) slot.Mark i (omega (arith, lt, al)),
        params_from qs (at + param_slots q) (λ i lt.
            (let e : shift p r + (at + param_slots q + i) ≡ shift p r + (at + (param_slots q + i)) = omega arith in
            ap (λ n. get_or kinds n slot.Mark) e)
            ∙ h (param_slots q + i) (omega (arith, lt, al, both)) ∙ ap (λ n. get_or (a ++ params_kinds qs) (n + i) slot.Mark) (sym al)
            ∙ get_or-append-add a (params_kinds qs) i slot.Mark),
      )

  -- ---- the arguments

  abbrev Stands : (ps : List CodeParam) (xs : List Cell) (k : ℕ) → List Param → List Cell → Type 0
  Stands ps xs k qs ys = StandsAs p code v now stand r (up v links) kinds w below (ap (λ g. g.routine) above) ps xs k qs ys

  one_more : (x : CodeParam) (y : Cell) (ps : List CodeParam) (xs : List Cell) (k : ℕ) (qs : List Param) (ys : List Cell)
      → Stands ps xs k qs ys → Stands (x ∷ ps) (y ∷ xs) (suc k) qs ys
  one_more x y ps xs k [] [] h = tt
  one_more x y ps xs k [] (c ∷ ys) h = absurd h
  one_more x y ps xs k (q ∷ qs) [] h = absurd h
  one_more x y ps xs k (q ∷ qs) (c ∷ ys) h = (h.0, h.1, one_more x y ps xs (suc k) qs ys h.2)

  as_named : (qs : List Param) (as_ : List ArgValue) (ys : List Cell) → AllHanded p code v now qs as_ ys
      → Stands (map param_named qs) ys 0 qs ys
  as_named [] [] [] h = tt
  as_named [] [] (c ∷ ys) h = absurd h
  as_named [] (a ∷ as_) ys h = absurd h
  as_named (q ∷ qs) [] ys h = absurd h
  as_named (q ∷ qs) (a ∷ as_) [] h = absurd h
  as_named (q ∷ qs) (a ∷ as_) (c ∷ ys) h = (refl, refl, one_more (param_named q) c (map param_named qs) ys 0 qs ys (as_named qs as_ ys h.1))

  behind_link : (level : ℕ) → Stands (link_params level (routine_at p r).outer ++ map param_named params) (with_link level (up v links) cs)
      (link_slots level) params cs
  behind_link zero = as_named params taken cs handed
  behind_link (suc zero) = as_named params taken cs handed
  behind_link (suc (suc n)) = one_more _ (cell.Place (link_to (up v links))) (map param_named params) cs 0 params cs
      (as_named params taken cs handed)

  link_front : (level : ℕ) → (length
      (args_cells now (link_params level (routine_at p r).outer ++ map param_named params) (with_link level (up v links) cs)
      (link_slots level)) ≡ link_slots level)
      × (1 ≤ link_slots level → get_or (args_cells now (link_params level (routine_at p r).outer ++ map param_named params)
      (with_link level (up v links) cs) (link_slots level)) 0 cell.Unset ≡ cell.Place (link_to (up v links)))
  link_front zero = (refl, λ some. absurd (omega (arith, some)))
  link_front (suc zero) = (refl, λ some. absurd (omega (arith, some)))
  link_front (suc (suc n)) = (refl, λ some. refl)

  abbrev ps : List CodeParam
  ps = link_params (routine_at p r).level (routine_at p r).outer ++ map param_named params

  count_is : (level : ℕ) → length (link_params level (routine_at p r).outer ++ map param_named params) ≡ link_slots level + length params
  count_is zero = omega (arith, length-map params param_named)
  count_is (suc zero) = omega (arith, length-map params param_named)
  count_is (suc (suc n)) = omega (arith, length-map params param_named)

  -- the parameters are there
  all_there : Front (sum_by param_slots params) new.cells (args_cells now callee.head.params args (length callee.head.params))
  all_there =
      let start = link_front (routine_at p r).level in
      let laid = all_params p code v now stand r (up v links) kinds w below (ap (λ g. g.routine) above) ps args params taken cs (shift p r)
      0 (replicate (routine_at p r).slots Unknown)
      handed (behind_link (routine_at p r).level) first.laid_out
      (params_from params 0 (λ i lt. (let z : 0 + i ≡ i = omega arith in ap (λ n. get_or kinds (shift p r + n) slot.Mark) z)
      ∙ own_kind i (omega (arith, lt, params_long params, first.fit)) ∙ get_or_append_left (params_kinds params) _ slot.Mark i lt))
      (omega (arith, first.fit))
      (front_start p code v now stand r (up v links) kinds w below (ap (λ g. g.routine) above) (args_cells now ps args (shift p r)) start.0
      start.1) in
      let z : 0 + sum_by param_slots params ≡ sum_by param_slots params = omega arith in
      subst (λ z. Front (sum_by param_slots params) new.cells (args_cells now z args (length z))) (sym is.params)
      (subst (λ n. Front (sum_by param_slots params) new.cells (args_cells now ps args n)) (sym (count_is (routine_at p r).level))
      (subst (λ n. Front n new.cells (args_cells now ps args (shift p r + length params))) z laid))

  -- ---- the frame

  abbrev made : List Cell
  made = args_cells now callee.head.params args (length callee.head.params)

  blanks_long : length (blank_cells callee.head) ≡ length kinds
  blanks_long = length-map kinds blank_of

  made_long : length made ≡ shift p r + sum_by param_slots params
  made_long = all_there.long

  entered_long : length pushed.cells ≡ length kinds
  entered_long =
      omega (
        arith,
        length-append made (drop (length made) (blank_cells callee.head)),
        length-drop (length made) (blank_cells callee.head),
        blanks_long,
        made_long,
        first.fit,
        all_long,
      )

  -- a cell behind the parameters
  blank_there : (i : ℕ) → sum_by param_slots params ≤ i → i < (routine_at p r).slots
      → get_or pushed.cells (shift p r + i) cell.Unset ≡ cell.Unknown
  blank_there i le lt =
      let at : shift p r + i ≡ length made + (i - sum_by param_slots params) = omega (arith, le, made_long) in
      ap (λ n. get_or pushed.cells n cell.Unset) at ∙ get_or-append-add made (drop (length made) (blank_cells callee.head))
      (i - sum_by param_slots params) cell.Unset
      ∙ get_or-drop (length made) (blank_cells callee.head) (i - sum_by param_slots params) cell.Unset
      ∙ ap (λ n. get_or (blank_cells callee.head) n cell.Unset) (sym at)
      ∙ get_or-map blank_of kinds (shift p r + i) slot.Mark cell.Unset (omega (arith, lt, all_long)) ∙ ap blank_of (other_kind i le lt)

  kinds_same : kinds ≡ kinds_at code r
  kinds_same = ap (λ c. kinds_of 0 c.head.runs) (sym (get_or_from_slice_get code.routines r callee plain.no_routine is.there))

  new_same : SameFrame p code w new pushed
  new_same = record {
    routine = refl;
    kinds = kinds_same;
    full = entered_long;
    slots = all_there.slots;
    within = omega (arith, all_there.slots, entered_long, all_long);
    cells = λ i lt. cell_same i (omega (arith, lt, all_there.slots)) (cases_lt i (sum_by param_slots params));
    link = λ some. get_or_append_left made (drop (length made) (blank_cells callee.head)) cell.Unset 0 (omega (arith, some, made_long))
        ∙ all_there.link some;
  }
    where
      cell_same : (i : ℕ) → i < (routine_at p r).slots → (i < sum_by param_slots params) ⊎ (sum_by param_slots params ≤ i)
          → SameContent p w (get_or kinds (shift p r + i) slot.Mark) (get_or new.cells i Unknown)
          (get_or pushed.cells (shift p r + i) cell.Unset)
      cell_same i lt (inl early) =
          subst (SameContent p w (get_or kinds (shift p r + i) slot.Mark) (get_or new.cells i Unknown))
          (sym (get_or_append_left made (drop (length made) (blank_cells callee.head)) cell.Unset (shift p r + i)
          (omega (arith, early, made_long))))
          (all_there.same i early)
      cell_same i lt (inr late) =
          let content : SameContent p w slot.Number Unknown cell.Unknown = tt in
          subst (λ k. SameContent p w k (get_or new.cells i Unknown) (get_or pushed.cells (shift p r + i) cell.Unset))
          (sym (other_kind i late lt))
          (subst (λ a. SameContent p w slot.Number a (get_or pushed.cells (shift p r + i) cell.Unset)) (sym (all_there.behind i late))
          (subst (SameContent p w slot.Number Unknown) (sym (blank_there i late lt)) content))

  -- each parameter holds its place
  new_given : (i : ℕ) → i < (routine_at p r).slots
      → GivenIn (get_or pushed.cells (shift p r + i) cell.Unset) (get_or kinds (shift p r + i) slot.Mark)
  new_given i lt = by (cases_lt i (sum_by param_slots params))
    where
      by : (i < sum_by param_slots params) ⊎ (sum_by param_slots params ≤ i)
          → GivenIn (get_or pushed.cells (shift p r + i) cell.Unset) (get_or kinds (shift p r + i) slot.Mark)
      by (inl early) =
          subst (λ c. GivenIn c (get_or kinds (shift p r + i) slot.Mark))
          (sym (get_or_append_left made (drop (length made) (blank_cells callee.head)) cell.Unset (shift p r + i)
          (omega (arith, early, made_long)))) (all_there.given i early)
      by (inr late) =
          subst (GivenIn (get_or pushed.cells (shift p r + i) cell.Unset)) (sym (other_kind i late lt))
          (number_given (get_or pushed.cells (shift p r + i) cell.Unset))

  pub enter_given : Given p now → Given p later
  enter_given old k i lt small = by (cases_lt k (length now))
    where
      many : length later ≡ length now + 1
      many = length-append now (pushed ∷ [])

      by : (k < length now) ⊎ (length now ≤ k)
          → GivenIn (get_or (get_or later k picture.no_frame).cells (shift p (get_or later k picture.no_frame).routine + i) cell.Unset)
          (get_or (get_or later k picture.no_frame).kinds (shift p (get_or later k picture.no_frame).routine + i) slot.Mark)
      by (inl early) =
          let is_old : get_or later k picture.no_frame ≡ get_or now k picture.no_frame =
          get_or_append_left now (pushed ∷ []) picture.no_frame k early in
          subst (λ g. GivenIn (get_or g.cells (shift p g.routine + i) cell.Unset) (get_or g.kinds (shift p g.routine + i) slot.Mark))
          (sym is_old) (old k i early (subst (λ g. i < (routine_at p g.routine).slots) is_old small))
      by (inr late) =
          let z : length now ≡ k = omega (arith, late, lt, many) in
          let is_new : get_or later k picture.no_frame ≡ pushed =
          ap (λ n. get_or later n picture.no_frame) (sym z) ∙ get_or-append_seam now pushed [] picture.no_frame in
          subst (λ g. GivenIn (get_or g.cells (shift p g.routine + i) cell.Unset) (get_or g.kinds (shift p g.routine + i) slot.Mark))
          (sym is_new) (new_given i (subst (λ g. i < (routine_at p g.routine).slots) is_new small))

  old_front : FrontAlike p code (length v) v w now later
  old_front = record {
    live = omega (arith, long);
    routine = λ k lt. ap (λ g. g.routine) (below k lt);
    long = λ k lt. ap (λ g. length g.cells) (below k lt);
    kinds = λ k lt. ap (λ g. g.kinds) (below_now k lt);
  }

  -- a fact of each frame: of those of the caller, and of the new one
  each_frame : (P : ℕ → Type 0) → ((k : ℕ) → k < length v → P k) → P (length v) → (k : ℕ) → k < length w → P k
  each_frame P old this k lt = elim (cases_lt k (length v)) [
    | inl early ↦ old k early
    | inr late ↦ let e : length v ≡ k = omega (arith, late, lt, long) in subst P e this
  ]

  -- the frames of a call stand for the frames of the meaning
  pub enter_stands : StandFor p code w later
  enter_stands = record {
    count = length-append now (pushed ∷ []) ∙ ap (λ n. n + 1) stand.count ∙ sym long;
    some = omega (arith, long);
    frames = each_frame (λ k. SameFrame p code w (get_or w k store.no_frame) (get_or later k picture.no_frame))
        (λ k lt.
        subst (λ g. SameFrame p code w g (get_or later k picture.no_frame)) (sym (below k lt))
        (subst (SameFrame p code w (get_or v k store.no_frame)) (sym (below_now k lt))
        (same_below p code v w (get_or v k store.no_frame) (get_or now k picture.no_frame)
        (λ i q e. ap (λ g. shift p g.routine) (below q.frame (omega (arith, lt, (stand.places k i q lt e).below))))
        (stand.frames k lt))))
        (subst (λ g. SameFrame p code w g (get_or later (length v) picture.no_frame)) (sym above)
        (subst (SameFrame p code w new) (sym above_now) new_same));
    links = λ k lt some. link_at k lt some;
    declared = each_frame (λ k. (get_or later k picture.no_frame).declared ≡ (routine_at p (get_or w k store.no_frame).routine).declared)
        (λ k lt. ap (λ g. g.declared) (below_now k lt) ∙ stand.declared k lt
        ∙ ap (λ g. (routine_at p g.routine).declared) (sym (below k lt)))
        (ap (λ g. g.declared) above_now ∙ is.declared ∙ ap (λ g. (routine_at p g.routine).declared) (sym above));
    places = λ k i q lt e. place_at i q k lt e;
    routines = each_frame (λ k. (get_or w k store.no_frame).routine < length p.routines)
        (λ k lt. omega (arith, stand.routines k lt, ap (λ g. g.routine) (below k lt))) (omega (arith, exists, ap (λ g. g.routine) above));
    main = ap (λ g. g.routine) (below 0 (omega (arith, stand.some))) ∙ stand.main;
  }
    where
      link_at : (k : ℕ) → k < length w → 1 ≤ k → HasLink p w k (get_or w k store.no_frame)
      link_at k lt some =
          each_frame (λ n. 1 ≤ n → HasLink p w n (get_or w n store.no_frame))
          (λ n small pos.
          let h = stand.links n small pos in
          subst (HasLink p w n) (sym (below n small))
          (record {
            below = h.below;
            outer = ap (λ g. g.routine)
                (below (get_or v n store.no_frame).link (omega (arith, h.below, small))) ∙ h.outer;
          }))
          (λ pos. subst (HasLink p w (length v)) (sym above)
          (record { below = live; outer = ap (λ g. g.routine) (below (up v links) live) ∙ outer }))
          k lt some

      place_new : (i : ℕ) (q : Place) → get_or new.cells i Unknown ≡ At q → HeldPlace p code w later (length v) i q
      place_new i q e =
          let h = all_there.places i q e in
          let of_new : shift_in p w (length v) ≡ shift p r = ap (λ g. shift p g.routine) above in
          let size : get_or (get_or later (length v) picture.no_frame).kinds (shift_in p w (length v) + i) slot.Mark ≡ slot.Place q.size =
          ap (λ g. get_or g.kinds (shift_in p w (length v) + i) slot.Mark) above_now ∙ ap (λ n. get_or kinds (n + i) slot.Mark) of_new
          ∙ h.size in
          elim h.is [
            | inl numbers ↦ record {
              below = omega (arith, numbers.frame);
              numbers =
                  numbers_moved p code (length v) v w now later q old_front numbers.frame numbers;
              size = size;
            }
            | inr o ↦
                let frame_is : get_or w q.frame store.no_frame ≡ new = ap (λ n. get_or w n store.no_frame) o.frame ∙ above in
                let now_is : get_or later q.frame picture.no_frame ≡ pushed = ap (λ n. get_or later n picture.no_frame) o.frame
                ∙ above_now in
                record {
                  below = omega (arith, o.frame);
                  numbers = record {
                    frame = omega (arith, o.frame, long);
                    cells = λ k lt. omega (arith, lt, o.size, o.there, ap (λ g. length g.cells) frame_is, all_there.slots);
                    kinds = λ k lt.
                        let z : q.slot + k ≡ q.slot = omega (arith, lt, o.size) in
                        ap (λ g. get_or g.kinds (shift_in p w q.frame + (q.slot + k)) slot.Mark) now_is
                        ∙ ap (λ g. get_or kinds (shift p g.routine + (q.slot + k)) slot.Mark) frame_is
                        ∙ ap (λ n. get_or kinds (shift p r + n) slot.Mark) z ∙ o.kind;
                    free = λ e. absurd (omega (arith, o.frame, e, stand.some));
                  };
                  size = size;
                }
          ]

      place_at : (i : ℕ) (q : Place) (k : ℕ) → k < length w → get_or (get_or w k store.no_frame).cells i Unknown ≡ At q
          → HeldPlace p code w later k i q
      place_at i q =
          each_frame (λ k. get_or (get_or w k store.no_frame).cells i Unknown ≡ At q → HeldPlace p code w later k i q)
          (λ k lt e. held_moved p code (length v) v w now later k i q old_front lt
          (stand.places k i q lt (ap (λ g. get_or g.cells i Unknown) (sym (below k lt)) ∙ e)))
          (λ e. place_new i q (ap (λ g. get_or g.cells i Unknown) (sym above) ∙ e))
