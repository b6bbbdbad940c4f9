-- The frame in which a program begins stands for the store in which its meaning begins.
use Rattle.std.proofs.Common.{◌≡◌, ℕ, zero, suc, ◌+◌, ◌-◌, ◌<◌, ◌≤◌, inl, inr, List, [], ◌∷◌, ◌++◌, length, map, replicate, get_or, set}
use Rattle.std.proofs.Common.{refl, sym, ap, ◌∙◌, subst, arith, pos, length-append}
use Rattle.std.proofs.lemmas.Bool.{cases_eq, cases_lt}
use Rattle.std.proofs.lemmas.List.{get_or_past, get_or-set_same, get_or-set_other, get_or_append_left, get_or-map, get_or-replicate}
use Rattle.std.proofs.lemmas.List.{length-map, length-replicate, length-set}
use Rattle.alma_code.specs.declared.cell.Cell.{Cell}
use Rattle.alma_code.specs.declared.cell.Cell.TheVariants as cell
use Rattle.alma_code.specs.declared.cell.SlotKind.{SlotKind}
use Rattle.alma_code.specs.declared.cell.SlotKind.TheVariants as slot
use Rattle.alma_code.specs.declared.head.Run.{Run}
use Rattle.alma_code.specs.Layout.{blank_of, start_frame, kinds_of}
use Rattle.alma_code.specs.Picture as picture
use Rattle.alma_code.specs.Plain.{PlainCode, head_at, kinds_at}
use Rattle.alma_ir.specs.Tree.{Program, routine_at}
use Rattle.alma_ir.specs.Checked.{link_slots, IsChecked}
use Rattle.alma_ir.specs.Lines.{body_with_lines}
use Rattle.alma_mean.specs.Store.{Unknown, Number}
use Rattle.alma_mean.specs.Store as store
use Rattle.alma_mean.specs.Meaning.{start}
use Rattle.alma_lower_implements.proofs.Frames.{shift, SameContent, SameFrame, StandFor}
use Rattle.alma_lower_implements.proofs.FrameLemmas.{HoldsPlace}
use Rattle.alma_lower_templates.specs.Tables.{Tables}
use Rattle.alma_lower_templates.specs.Slots.{routine_kinds, own_kinds, link_kinds, params_kinds, stmts_slots}
use Rattle.alma_lower_templates.specs.Compiled.{program_code}
use Rattle.alma_lower_templates.proofs.Whole.{routine_compiled}
use Rattle.alma_lower_templates.proofs.Given.{GivenIn, number_given, Given}
use Rattle.alma_lower_templates.proofs.Parts.{Begins, sound_of}

module _ (p : Program) (tables : Tables) (code : PlainCode) (all : List (List Run)) (is : code ≡ program_code p tables all)
    (count : length all ≡ length p.routines) (names : (r : ℕ) → r < length p.routines → kinds_of 0 (get_or all r []) ≡ routine_kinds p r)
    (checked : IsChecked p) where
  some : 0 < length p.routines
  some = checked.body.0

  abbrev slots : ℕ
  slots = (routine_at p 0).slots

  abbrev kinds : List SlotKind
  kinds = kinds_at code 0

  flat : shift p 0 ≡ 0
  flat = ap link_slots ((checked.nested 0 some).body refl).0

  kinds_are : kinds ≡ own_kinds (routine_at p 0) ++ stmts_slots p 0 (body_with_lines (routine_at p 0))
  kinds_are = (routine_compiled p tables code all is count names 0 some).kinds

  own_are : own_kinds (routine_at p 0) ≡ replicate slots slot.Number
  own_are =
      let level : (routine_at p 0).level ≡ 0 = ((checked.nested 0 some).body refl).0 in
      let z : slots - 0 ≡ slots = omega arith in
      ap (λ l. link_kinds l (routine_at p 0).outer
      ++ (params_kinds (routine_at p 0).params ++ replicate (slots - length (params_kinds (routine_at p 0).params)) slot.Number)) level
      ∙ ap (λ ps. params_kinds ps ++ replicate (slots - length (params_kinds ps)) slot.Number) checked.body_takes_nothing.0
      ∙ ap (λ n. replicate n slot.Number) z

  kinds_long : slots ≤ length kinds
  kinds_long = omega (
    arith,
    ap length kinds_are,
    length-append (own_kinds (routine_at p 0)) (stmts_slots p 0 (body_with_lines (routine_at p 0))),
    ap length own_are,
    length-replicate slots slot.Number,
  )

  kind_at : (i : ℕ) → i < slots → get_or kinds i slot.Mark ≡ slot.Number
  kind_at i lt =
      ap (λ ks. get_or ks i slot.Mark) kinds_are
      ∙ get_or_append_left (own_kinds (routine_at p 0)) (stmts_slots p 0 (body_with_lines (routine_at p 0))) slot.Mark i
      (omega (arith, lt, ap length own_are, length-replicate slots slot.Number))
      ∙ ap (λ ks. get_or ks i slot.Mark) own_are ∙ get_or-replicate slots i slot.Number slot.Mark lt

  abbrev blanks : List Cell
  blanks = map blank_of kinds

  abbrev unknowns : List store.Cell
  unknowns = replicate slots Unknown

  abbrev Same : SlotKind → store.Cell → Cell → Type 0
  Same k a c = SameContent p (start p) k a c

  blanks_long : length (set blanks 0 (cell.Int (pos 0))) ≡ length kinds
  blanks_long = length-set blanks 0 (cell.Int (pos 0)) ∙ length-map kinds blank_of

  unknowns_long : length (set unknowns 0 (Number (pos 0))) ≡ slots
  unknowns_long = length-set unknowns 0 (Number (pos 0)) ∙ length-replicate slots Unknown

  holds_none : (i : ℕ) → HoldsPlace (get_or (set unknowns 0 (Number (pos 0))) i Unknown) → ⊥
  holds_none i h = elim (cases_lt i slots) [
    | inr past ↦ subst HoldsPlace (get_or_past (set unknowns 0 (Number (pos 0))) i Unknown (omega (arith, past, unknowns_long))) h
    | inl lt ↦ elim (cases_eq i 0) [
      | inl e ↦ subst HoldsPlace (ap (λ m. get_or (set unknowns 0 (Number (pos 0))) m Unknown) e
          ∙ get_or-set_same unknowns 0 (Number (pos 0)) Unknown (omega (arith, lt, length-replicate slots Unknown))) h
      | inr ne ↦ subst HoldsPlace (get_or-set_other unknowns 0 i (Number (pos 0)) Unknown ne ∙ get_or-replicate slots i Unknown Unknown lt)
          h
    ]
  ]

  content : (i : ℕ) → i < slots → Same slot.Number (get_or (set unknowns 0 (Number (pos 0))) i Unknown)
      (get_or (set blanks 0 (cell.Int (pos 0))) i cell.Unset)
  content zero lt =
      let left : get_or (set unknowns 0 (Number (pos 0))) 0 Unknown ≡ Number (pos 0) =
      get_or-set_same unknowns 0 (Number (pos 0)) Unknown (omega (arith, lt, length-replicate slots Unknown)) in
      let right : get_or (set blanks 0 (cell.Int (pos 0))) 0 cell.Unset ≡ cell.Int (pos 0) =
      get_or-set_same blanks 0 (cell.Int (pos 0)) cell.Unset (omega (arith, lt, kinds_long, length-map kinds blank_of)) in
      let there : Same slot.Number (Number (pos 0)) (cell.Int (pos 0)) = (refl, refl) in
      subst (λ a. Same slot.Number a (get_or (set blanks 0 (cell.Int (pos 0))) 0 cell.Unset)) (sym left)
      (subst (λ c. Same slot.Number (Number (pos 0)) c) (sym right) there)
  content (suc i) lt =
      let other : suc i ≡ 0 → ⊥ = λ e. omega (arith, e) in
      let left : get_or (set unknowns 0 (Number (pos 0))) (suc i) Unknown ≡ Unknown =
      get_or-set_other unknowns 0 (suc i) (Number (pos 0)) Unknown other ∙ get_or-replicate slots (suc i) Unknown Unknown lt in
      let right : get_or (set blanks 0 (cell.Int (pos 0))) (suc i) cell.Unset ≡ cell.Unknown =
      get_or-set_other blanks 0 (suc i) (cell.Int (pos 0)) cell.Unset other
      ∙ get_or-map blank_of kinds (suc i) slot.Mark cell.Unset (omega (arith, lt, kinds_long)) ∙ ap blank_of (kind_at (suc i) lt) in
      let there : Same slot.Number Unknown cell.Unknown = tt in
      subst (λ a. Same slot.Number a (get_or (set blanks 0 (cell.Int (pos 0))) (suc i) cell.Unset)) (sym left)
      (subst (λ c. Same slot.Number Unknown c) (sym right) there)

  same : SameFrame p code (start p) (get_or (start p) 0 store.no_frame) (start_frame (head_at code 0))
  same = record {
    routine = refl;
    kinds = refl;
    full = blanks_long;
    slots = unknowns_long;
    within = omega (arith, flat, blanks_long, unknowns_long, kinds_long);
    cells = λ i lt.
        let below : i < slots = omega (arith, lt, unknowns_long) in
        let moved : i ≡ shift p 0 + i = omega (arith, flat) in
        subst (λ j. Same (get_or kinds j slot.Mark) (get_or (set unknowns 0 (Number (pos 0))) i Unknown)
        (get_or (set blanks 0 (cell.Int (pos 0))) j cell.Unset)) moved
        (subst (λ k. Same k (get_or (set unknowns 0 (Number (pos 0))) i Unknown) (get_or (set blanks 0 (cell.Int (pos 0))) i cell.Unset))
        (sym (kind_at i below)) (content i below));
    link = λ ge. absurd (omega (arith, ge, flat));
  }

  pub start_stands : StandFor p code (start p) (start_frame (head_at code 0) ∷ [])
  start_stands = record {
    count = refl;
    some = omega arith;
    frames = λ k lt. let e : k ≡ 0 = omega (arith, lt) in
        subst (λ n. SameFrame p code (start p) (get_or (start p) n store.no_frame)
        (get_or (start_frame (head_at code 0) ∷ []) n picture.no_frame)) (sym e) same;
    links = λ k lt ge. absurd (omega (arith, lt, ge));
    declared = λ k lt. let e : k ≡ 0 = omega (arith, lt) in
        subst (λ n. (get_or (start_frame (head_at code 0) ∷ []) n picture.no_frame).declared
        ≡ (routine_at p (get_or (start p) n store.no_frame).routine).declared) (sym e)
        (routine_compiled p tables code all is count names 0 some).declared;
    places = λ k i q lt e. let z : k ≡ 0 = omega (arith, lt) in
        absurd (holds_none i (subst HoldsPlace (sym (ap (λ n. get_or (get_or (start p) n store.no_frame).cells i Unknown) (sym z) ∙ e))
        tt));
    routines = λ k lt. let e : k ≡ 0 = omega (arith, lt) in
        subst (λ n. (get_or (start p) n store.no_frame).routine < length p.routines) (sym e) some;
    main = refl;
  }

  -- the slots of the module are for numbers
  start_given : Given p (start_frame (head_at code 0) ∷ [])
  start_given k i lt small =
      let z : k ≡ 0 = omega (arith, lt) in
      let below : i < slots = subst (λ n. i < (routine_at p (get_or (start_frame (head_at code 0) ∷ []) n picture.no_frame).routine).slots)
      z small in
      let moved : i ≡ shift p 0 + i = omega (arith, flat) in
      subst (λ n. GivenIn (get_or (get_or (start_frame (head_at code 0) ∷ []) n picture.no_frame).cells
      (shift p (get_or (start_frame (head_at code 0) ∷ []) n picture.no_frame).routine + i) cell.Unset)
      (get_or (get_or (start_frame (head_at code 0) ∷ []) n picture.no_frame).kinds
      (shift p (get_or (start_frame (head_at code 0) ∷ []) n picture.no_frame).routine + i) slot.Mark)) (sym z)
      (subst (λ j. GivenIn (get_or (set blanks 0 (cell.Int (pos 0))) j cell.Unset) (get_or kinds j slot.Mark)) moved
      (subst (GivenIn (get_or (set blanks 0 (cell.Int (pos 0))) i cell.Unset)) (sym (kind_at i below))
      (number_given (get_or (set blanks 0 (cell.Int (pos 0))) i cell.Unset))))

  -- the statements of the module begin there
  pub start_begins : (input : List ℕ) → Begins p code input 0 (start p) (start_frame (head_at code 0) ∷ [])
  start_begins input = record {
    stand = start_stands;
    routine = refl;
    sound =
        sound_of p code input (start p) (start_frame (head_at code 0) ∷ []) start_stands
        (record {
          at = 0;
          is = get_or-set_same (replicate slots Unknown) 0 (Number (pos 0)) Unknown
              (omega (arith, checked.body.1, length-replicate slots Unknown));
        }) start_given;
  }
