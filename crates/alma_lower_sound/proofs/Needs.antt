-- What each instruction asks of the slots, tables and addresses of its routine, and that no rule of a sound code is broken by
-- an instruction that has it.
use Rattle.std.proofs.Common.{◌≡◌, ℕ, suc, ◌+◌, ◌*◌, ◌<◌, ◌≤◌, length, refl, ap, ◌∙◌, arith, Some, None}
use Rattle.std.specs.Prelude.{Bool, true, false, not, ◌&&◌, ◌||◌, Option, nat_eq, nat_lt}
use Rattle.std.specs.List.{list_all, slice_get}
use Rattle.std.proofs.lemmas.Bool.{lt-ltb, le-leb, eq-eqb, and_from}
use Rattle.std.proofs.lemmas.Option.{slice_get_within}
use Rattle.alma_base.specs.Numbers.{range_size}
use Rattle.alma_base.specs.declared.number.Range.{Range}
use Rattle.alma_code.specs.declared.cell.SlotKind.{SlotKind}
use Rattle.alma_code.specs.declared.cell.SlotKind.TheVariants as slot
use Rattle.alma_code.specs.declared.instr.Instr.{Instr}
use Rattle.alma_code.specs.declared.instr.Instr.TheVariants as I
use Rattle.alma_code.specs.declared.instr.Word.TheVariants as W
use Rattle.alma_code.specs.Kinds.{is_number, is_place, is_place_of, is_mark, is_link, is_link_of, numbers_from}
use Rattle.alma_code.specs.Plain.{PlainCode, head_at, start_at, end_at, kinds_at}
use Rattle.alma_code.specs.Words.{words, four}
use Rattle.alma_base.proofs.FirstFault.{unless_holds}
use Rattle.alma_code.specs.Rules.{breach, instr_fault, rule_4, rule_5, rule_6, rule_7, rule_8, rule_9, rule_10, rule_11, rule_12}
use Rattle.alma_code.specs.Rules.{names_slot, names_entry, names_address, is_slot, is_free, length_in, place_length, link_in, link_routine}
use Rattle.alma_code.specs.Rules.{cells_in, has_room, fit_arguments, holds_first, holds_result, ends_routine}

module _ (code : PlainCode) (r : ℕ) where
  -- a slot of the routine of this kind, not the input position
  pub record HasKind (n : ℕ) (k : SlotKind) : Type 0 where
    pub kind : slice_get (kinds_at code r) n ≡ Some k
    pub free : 0 < r + n

  -- a slot of the routine, of any kind, not the input position
  pub record IsFreeSlot (n : ℕ) : Type 0 where
    pub within : n < length (kinds_at code r)
    pub free : 0 < r + n

  -- an address of the routine
  pub record IsInside (at : ℕ) : Type 0 where
    pub low : start_at code r ≤ at
    pub high : at < end_at code r

  -- a range and a text of the tables
  abbrev pub IsRange : ℕ → Type 0
  IsRange n = n < length code.ranges

  abbrev pub IsText : ℕ → Type 0
  IsText n = n < length code.texts

  abbrev pub Number : ℕ → Type 0
  Number n = HasKind n slot.Number

  abbrev pub Place : (n cells : ℕ) → Type 0
  Place n cells = HasKind n (slot.Place cells)

  abbrev pub Mark : ℕ → Type 0
  Mark n = HasKind n slot.Mark

  abbrev pub Link : (n to : ℕ) → Type 0
  Link n to = HasKind n (slot.Link to)

  -- two places of equal lengths
  pub record AreAlike (a b : ℕ) : Type 0 where
    pub cells : ℕ
    pub first : Place a cells
    pub second : Place b cells

  -- a place for cells of the routine, of the module, or of a routine round it
  pub record TakesLocal (a b : ℕ) : Type 0 where
    pub cells : ℕ
    pub place : Place a cells
    pub first : IsFreeSlot b
    pub numbers : cells_in code r b cells ≡ true

  pub record TakesGlobal (a b : ℕ) : Type 0 where
    pub cells : ℕ
    pub place : Place a cells
    pub numbers : cells_in code 0 b cells ≡ true

  pub record TakesOuter (a b c : ℕ) : Type 0 where
    pub cells : ℕ
    pub routine : ℕ
    pub place : Place a cells
    pub link : Link b routine
    pub numbers : numbers_from cells (kinds_at code routine) c ≡ true

  pub record TakesHeld (a b c : ℕ) : Type 0 where
    pub cells : ℕ
    pub routine : ℕ
    pub place : Place a cells
    pub link : Link b routine
    pub there : slice_get (kinds_at code routine) c ≡ Some (slot.Place cells)

  -- a link behind another
  pub record LeadsOn (a b c : ℕ) : Type 0 where
    pub to : ℕ
    pub routine : ℕ
    pub link : Link a to
    pub before : Link b routine
    pub there : slice_get (kinds_at code routine) c ≡ Some (slot.Link to)

  -- a part of a place
  pub record TakesField (a b c : ℕ) : Type 0 where
    pub part : ℕ
    pub cells : ℕ
    pub place : Place a part
    pub whole : Place b cells
    pub fits : c + part ≤ cells

  pub record TakesElement (a b c d : ℕ) : Type 0 where
    pub part : ℕ
    pub cells : ℕ
    pub range : Range
    pub place : Place a part
    pub whole : Place b cells
    pub index : Number c
    pub there : slice_get code.ranges d ≡ Some range
    pub fits : range_size range * part ≤ cells

  -- a routine is called with what it takes
  pub record CanCall (called first to : ℕ) : Type 0 where
    pub not_main : 0 < called
    pub exists : called < length code.routines
    pub fits : fit_arguments code r (head_at code called).params first ≡ true
    pub begins : holds_first (head_at code called).params first ≡ true
    pub result : holds_result code r (head_at code called).has_result to ≡ true

  abbrev pub Needs : Instr → Type 0
  Needs (I.Const a v) = Number a
  Needs (I.Move a b) = Number a × Number b
  Needs (I.Add a b c) = Number a × Number b × Number c
  Needs (I.Sub a b c) = Number a × Number b × Number c
  Needs (I.Mul a b c) = Number a × Number b × Number c
  Needs (I.Div a b c) = Number a × Number b × Number c
  Needs (I.Mod a b c) = Number a × Number b × Number c
  Needs (I.Neg a b) = Number a × Number b
  Needs (I.Equal a b c) = Number a × Number b × Number c
  Needs (I.Less a b c) = Number a × Number b × Number c
  Needs (I.LessEq a b c) = Number a × Number b × Number c
  Needs (I.Flip a b) = Number a × Number b
  Needs (I.InRange a t) = Number a × IsRange t
  Needs (I.Local a b) = TakesLocal a b
  Needs (I.Global a b) = TakesGlobal a b
  Needs (I.Same a b) = AreAlike a b
  Needs (I.Field a b c) = TakesField a b c
  Needs (I.Index a b c d) = TakesElement a b c d
  Needs (I.Load a b) = Number a × Place b 1
  Needs (I.Store a b) = Place a 1 × Number b
  Needs (I.Known a b) = Number a × Place b 1
  Needs (I.Bind a b c) = Place a 1 × Number b × IsRange c
  Needs (I.Unify a b c d) = Place a 1 × IsRange b × Place c 1 × IsRange d
  Needs (I.CopyCells a b) = AreAlike a b
  Needs (I.SameCells a b) = AreAlike a b
  Needs (I.Jump a) = IsInside a
  Needs (I.JumpZero a b) = Number a × IsInside b
  Needs (I.Check a) = Number a
  Needs I.Fail = Unit {0}
  Needs (I.Mark a) = Mark a
  Needs (I.Cut a) = Mark a
  Needs (I.Choose a) = IsInside a
  Needs (I.Forall a b) = Mark a × IsInside b
  Needs (I.Overlay a b) = Mark a × IsInside b
  Needs (I.Keep a) = Mark a
  Needs I.Finish = Unit {0}
  Needs (I.Call a b c) = CanCall a b c
  Needs I.Return = (head_at code r).has_result ≡ false
  Needs (I.ReturnValue a) = Number a × ((head_at code r).has_result ≡ true)
  Needs (I.ReadInt a t) = Place a 1 × IsRange t
  Needs (I.ReadChar a t) = Place a 1 × IsRange t
  Needs (I.WriteInt a) = Number a
  Needs (I.WriteChar a) = Number a
  Needs (I.WriteBool a) = Number a
  Needs (I.WriteText t) = IsText t
  Needs I.WriteLine = Unit {0}
  Needs (I.Fault n) = (nat_eq n 5 || nat_eq n 6) ≡ true
  Needs (I.Step a b c d) = Number a × Number b × Number c × IsInside d
  Needs (I.Own a) = Link a r
  Needs (I.Chain a b c) = LeadsOn a b c
  Needs (I.Outer a b c) = TakesOuter a b c
  Needs (I.OuterSame a b c) = TakesHeld a b c

  -- ---- one word

  module _ (full : length (kinds_at code r) ≡ (head_at code r).slots) where
    is_a_slot : {n : ℕ} {k : SlotKind} → HasKind n k → is_slot code r n ≡ true
    is_a_slot {n} {k} h =
        and_from (nat_lt n (head_at code r).slots) (is_free code r n)
        (lt-ltb n (head_at code r).slots (omega (arith, slice_get_within (kinds_at code r) n k h.kind, full)))
        (lt-ltb 0 (r + n) h.free)

    word : {n : ℕ} {k : SlotKind} (is : Option SlotKind → Bool) → HasKind n k → is (Some k) ≡ true
        → (is_slot code r n && is (slice_get (kinds_at code r) n)) ≡ true
    word {n} {k} is h e = and_from (is_slot code r n) (is (slice_get (kinds_at code r) n)) (is_a_slot h) (ap is h.kind ∙ e)

    number_word : {n : ℕ} → Number n → names_slot code r (W.Number n) ≡ true
    number_word h = word is_number h refl

    place_word : {n cells : ℕ} → Place n cells → names_slot code r (W.Place n) ≡ true
    place_word h = word is_place h refl

    mark_word : {n : ℕ} → Mark n → names_slot code r (W.Mark n) ≡ true
    mark_word h = word is_mark h refl

    link_word : {n to : ℕ} → Link n to → names_slot code r (W.Link n) ≡ true
    link_word h = word is_link h refl

    slot_word : {n : ℕ} → IsFreeSlot n → names_slot code r (W.Slot n) ≡ true
    slot_word {n} h =
        and_from (nat_lt n (head_at code r).slots) (is_free code r n) (lt-ltb n (head_at code r).slots (omega (arith, h.within, full)))
        (lt-ltb 0 (r + n) h.free)

    address_word : {n : ℕ} → IsInside n → names_address code r (W.Address n) ≡ true
    address_word {n} h = and_from _ _ (le-leb (start_at code r) n h.low) (lt-ltb n (end_at code r) h.high)

    range_word : {n : ℕ} → IsRange n → names_entry code (W.Range n) ≡ true
    range_word {n} h = lt-ltb n (length code.ranges) h

    text_word : {n : ℕ} → IsText n → names_entry code (W.Text n) ≡ true
    text_word {n} h = lt-ltb n (length code.texts) h

    long : {n cells : ℕ} → Place n cells → length_in code r n ≡ cells
    long h = ap place_length h.kind

    leads : {n to : ℕ} → Link n to → link_in code r n ≡ to
    leads h = ap link_routine h.kind

    alike : {a b cells : ℕ} → Place a cells → Place b cells → nat_eq (length_in code r a) (length_in code r b) ≡ true
    alike {a} {b} h k = eq-eqb (length_in code r a) (length_in code r b) (omega (arith, long h, long k))

    one_cell : {a : ℕ} → Place a 1 → nat_eq (length_in code r a) 1 ≡ true
    one_cell {a} h = eq-eqb (length_in code r a) 1 (long h)

    -- ---- four words

    four_true : {a b c d : Bool} → a ≡ true → b ≡ true → c ≡ true → d ≡ true → (a && (b && (c && (d && true)))) ≡ true
    four_true ha hb hc hd = and_from _ _ ha (and_from _ _ hb (and_from _ _ hc (and_from _ _ hd refl)))

    three_numbers : {a b c : ℕ} → Number a → Number b → Number c
        → list_all (names_slot code r) (four (W.Number a) (W.Number b) (W.Number c) W.Free) ≡ true
    three_numbers ha hb hc = four_true (number_word ha) (number_word hb) (number_word hc) refl

    -- ---- the nine rules

    clean : (at : ℕ) (i : Instr) → rule_4 code r i ≡ true → rule_5 code r i ≡ true → rule_6 code r i ≡ true → rule_7 code r i ≡ true
        → rule_8 code i ≡ true
        → rule_9 code r i ≡ true → rule_10 code r at i ≡ true → rule_11 code r at i ≡ true → rule_12 code r i ≡ true
        → instr_fault code r at i ≡ None
    unfolding instr_fault
    clean at i h4 h5 h6 h7 h8 h9 h10 h11 h12 =
        unless_holds (breach 4 at) _ h4 ∙ (unless_holds (breach 5 at) _ h5 ∙ (unless_holds (breach 6 at) _ h6
        ∙ (unless_holds (breach 7 at) _ h7 ∙ (unless_holds (breach 8 at) _ h8
        ∙ (unless_holds (breach 9 at) _ h9 ∙ (unless_holds (breach 10 at) _ h10
        ∙ (unless_holds (breach 11 at) _ h11 ∙ unless_holds (breach 12 at) _ h12)))))))

    not_last : (at : ℕ) (i : Instr) → suc at < end_at code r → rule_11 code r at i ≡ true
    unfolding rule_11
    not_last at i h = ap (λ b. b || ends_routine i) (lt-ltb (suc at) (end_at code r) h)

    same_places : {a b : ℕ} → AreAlike a b → list_all (names_slot code r) (four (W.Place a) (W.Place b) W.Free W.Free) ≡ true
    same_places h = four_true (place_word h.first) (place_word h.second) refl refl

    -- an instruction that has what it needs breaks no rule, where another stands behind it in the routine
    pub no_fault : (at : ℕ) (i : Instr) → suc at < end_at code r → Needs i → instr_fault code r at i ≡ None
    unfolding words rule_5 rule_6 rule_7 rule_10 rule_12
    no_fault at (I.Const a v) lt h = clean at (I.Const a v) (four_true (number_word h) refl refl refl) refl refl refl refl refl refl
        (not_last at _ lt) refl
    no_fault at (I.Move a b) lt h = clean at (I.Move a b) (four_true (number_word h.0) (number_word h.1) refl refl) refl refl refl refl refl
        refl (not_last at _ lt) refl
    no_fault at (I.Add a b c) lt h = clean at (I.Add a b c) (three_numbers h.0 h.1 h.2) refl refl refl refl refl refl (not_last at _ lt)
        refl
    no_fault at (I.Sub a b c) lt h = clean at (I.Sub a b c) (three_numbers h.0 h.1 h.2) refl refl refl refl refl refl (not_last at _ lt)
        refl
    no_fault at (I.Mul a b c) lt h = clean at (I.Mul a b c) (three_numbers h.0 h.1 h.2) refl refl refl refl refl refl (not_last at _ lt)
        refl
    no_fault at (I.Div a b c) lt h = clean at (I.Div a b c) (three_numbers h.0 h.1 h.2) refl refl refl refl refl refl (not_last at _ lt)
        refl
    no_fault at (I.Mod a b c) lt h = clean at (I.Mod a b c) (three_numbers h.0 h.1 h.2) refl refl refl refl refl refl (not_last at _ lt)
        refl
    no_fault at (I.Neg a b) lt h = clean at (I.Neg a b) (four_true (number_word h.0) (number_word h.1) refl refl) refl refl refl refl refl
        refl (not_last at _ lt) refl
    no_fault at (I.Equal a b c) lt h = clean at (I.Equal a b c) (three_numbers h.0 h.1 h.2) refl refl refl refl refl refl (not_last at _ lt)
        refl
    no_fault at (I.Less a b c) lt h = clean at (I.Less a b c) (three_numbers h.0 h.1 h.2) refl refl refl refl refl refl (not_last at _ lt)
        refl
    no_fault at (I.LessEq a b c) lt h = clean at (I.LessEq a b c) (three_numbers h.0 h.1 h.2) refl refl refl refl refl refl
        (not_last at _ lt) refl
    no_fault at (I.Flip a b) lt h = clean at (I.Flip a b) (four_true (number_word h.0) (number_word h.1) refl refl) refl refl refl refl refl
        refl (not_last at _ lt) refl
    no_fault at (I.InRange a t) lt h = clean at (I.InRange a t) (four_true (number_word h.0) refl refl refl) refl refl refl
        (four_true refl (range_word h.1) refl refl) refl refl (not_last at _ lt) refl
    no_fault at (I.Local a b) lt h =
        clean at (I.Local a b) (four_true (place_word h.place) (slot_word h.first) refl refl)
        (ap (cells_in code r b) (long h.place) ∙ h.numbers) refl refl refl refl refl (not_last at _ lt) refl
    no_fault at (I.Global a b) lt h =
        clean at (I.Global a b) (four_true (place_word h.place) refl refl refl) (ap (cells_in code 0 b) (long h.place) ∙ h.numbers) refl
        refl refl refl refl (not_last at _ lt) refl
    no_fault at (I.Same a b) lt h = clean at (I.Same a b) (same_places h) (alike h.first h.second) refl refl refl refl refl
        (not_last at _ lt) refl
    no_fault at (I.Field a b c) lt h =
        clean at (I.Field a b c) (four_true (place_word h.place) (place_word h.whole) refl refl)
        (le-leb (c + length_in code r a) (length_in code r b) (omega (arith, h.fits, long h.place, long h.whole))) refl refl refl refl
        refl (not_last at _ lt) refl
    no_fault at (I.Index a b c d) lt h =
        clean at (I.Index a b c d) (four_true (place_word h.place) (place_word h.whole) (number_word h.index) refl) refl
        (ap (λ o. has_room o (length_in code r a) (length_in code r b)) h.there
        ∙ ap (λ n. has_room (Some h.range) n (length_in code r b)) (long h.place) ∙ ap (has_room (Some h.range) h.part) (long h.whole)
        ∙ le-leb (range_size h.range * h.part) h.cells h.fits)
        refl (four_true refl refl refl (range_word (slice_get_within code.ranges d h.range h.there))) refl refl (not_last at _ lt) refl
    no_fault at (I.Load a b) lt h = clean at (I.Load a b) (four_true (number_word h.0) (place_word h.1) refl refl) refl refl (one_cell h.1)
        refl refl refl (not_last at _ lt) refl
    no_fault at (I.Store a b) lt h = clean at (I.Store a b) (four_true (place_word h.0) (number_word h.1) refl refl) refl refl
        (one_cell h.0) refl refl refl (not_last at _ lt) refl
    no_fault at (I.Known a b) lt h = clean at (I.Known a b) (four_true (number_word h.0) (place_word h.1) refl refl) refl refl
        (one_cell h.1) refl refl refl (not_last at _ lt) refl
    no_fault at (I.Bind a b c) lt h =
        clean at (I.Bind a b c) (four_true (place_word h.0) (number_word h.1) refl refl) refl refl (one_cell h.0)
        (four_true refl refl (range_word h.2) refl) refl refl (not_last at _ lt) refl
    no_fault at (I.Unify a b c d) lt h =
        clean at (I.Unify a b c d) (four_true (place_word h.0) refl (place_word h.2) refl) refl refl
        (and_from _ _ (one_cell h.0) (one_cell h.2)) (four_true refl (range_word h.1) refl (range_word h.3)) refl refl
        (not_last at _ lt) refl
    no_fault at (I.CopyCells a b) lt h = clean at (I.CopyCells a b) (same_places h) refl refl (alike h.first h.second) refl refl refl
        (not_last at _ lt) refl
    no_fault at (I.SameCells a b) lt h = clean at (I.SameCells a b) (same_places h) refl refl (alike h.first h.second) refl refl refl
        (not_last at _ lt) refl
    no_fault at (I.Jump a) lt h = clean at (I.Jump a) refl refl refl refl refl (four_true (address_word h) refl refl refl) refl
        (not_last at _ lt) refl
    no_fault at (I.JumpZero a b) lt h = clean at (I.JumpZero a b) (four_true (number_word h.0) refl refl refl) refl refl refl refl
        (four_true refl (address_word h.1) refl refl) refl (not_last at _ lt) refl
    no_fault at (I.Check a) lt h = clean at (I.Check a) (four_true (number_word h) refl refl refl) refl refl refl refl refl refl
        (not_last at _ lt) refl
    no_fault at I.Fail lt h = clean at I.Fail refl refl refl refl refl refl refl (not_last at _ lt) refl
    no_fault at (I.Mark a) lt h = clean at (I.Mark a) (four_true (mark_word h) refl refl refl) refl refl refl refl refl refl
        (not_last at _ lt) refl
    no_fault at (I.Cut a) lt h = clean at (I.Cut a) (four_true (mark_word h) refl refl refl) refl refl refl refl refl refl
        (not_last at _ lt) refl
    no_fault at (I.Choose a) lt h = clean at (I.Choose a) refl refl refl refl refl (four_true (address_word h) refl refl refl) refl
        (not_last at _ lt) refl
    no_fault at (I.Forall a b) lt h = clean at (I.Forall a b) (four_true (mark_word h.0) refl refl refl) refl refl refl refl
        (four_true refl (address_word h.1) refl refl) refl (not_last at _ lt) refl
    no_fault at (I.Overlay a b) lt h = clean at (I.Overlay a b) (four_true (mark_word h.0) refl refl refl) refl refl refl refl
        (four_true refl (address_word h.1) refl refl) refl (not_last at _ lt) refl
    no_fault at (I.Keep a) lt h = clean at (I.Keep a) (four_true (mark_word h) refl refl refl) refl refl refl refl refl refl
        (not_last at _ lt) refl
    no_fault at I.Finish lt h = clean at I.Finish refl refl refl refl refl refl refl (not_last at _ lt) refl
    no_fault at (I.Call a b c) lt h =
        clean at (I.Call a b c) refl refl refl refl refl refl
        (and_from _ _ (and_from _ _ (lt-ltb 0 a h.not_main) (lt-ltb a (length code.routines) h.exists))
        (and_from _ _ (and_from _ _ h.fits h.begins) (and_from _ _ h.result (lt-ltb (suc at) (end_at code r) lt))))
        (not_last at _ lt) refl
    no_fault at I.Return lt h = clean at I.Return refl refl refl refl refl refl refl (not_last at _ lt) (ap not h)
    no_fault at (I.ReturnValue a) lt h = clean at (I.ReturnValue a) (four_true (number_word h.0) refl refl refl) refl refl refl refl refl
        refl (not_last at _ lt) h.1
    no_fault at (I.ReadInt a t) lt h = clean at (I.ReadInt a t) (four_true (place_word h.0) refl refl refl) refl refl (one_cell h.0)
        (four_true refl (range_word h.1) refl refl) refl refl (not_last at _ lt) refl
    no_fault at (I.ReadChar a t) lt h = clean at (I.ReadChar a t) (four_true (place_word h.0) refl refl refl) refl refl (one_cell h.0)
        (four_true refl (range_word h.1) refl refl) refl refl (not_last at _ lt) refl
    no_fault at (I.WriteInt a) lt h = clean at (I.WriteInt a) (four_true (number_word h) refl refl refl) refl refl refl refl refl refl
        (not_last at _ lt) refl
    no_fault at (I.WriteChar a) lt h = clean at (I.WriteChar a) (four_true (number_word h) refl refl refl) refl refl refl refl refl refl
        (not_last at _ lt) refl
    no_fault at (I.WriteBool a) lt h = clean at (I.WriteBool a) (four_true (number_word h) refl refl refl) refl refl refl refl refl refl
        (not_last at _ lt) refl
    no_fault at (I.WriteText t) lt h = clean at (I.WriteText t) refl refl refl refl (four_true (text_word h) refl refl refl) refl refl
        (not_last at _ lt) refl
    no_fault at I.WriteLine lt h = clean at I.WriteLine refl refl refl refl refl refl refl (not_last at _ lt) refl
    no_fault at (I.Fault n) lt h = clean at (I.Fault n) refl refl refl refl refl refl refl (not_last at _ lt) h
    no_fault at (I.Step a b c d) lt h =
        clean at (I.Step a b c d) (four_true (number_word h.0) (number_word h.1) (number_word h.2) refl) refl refl refl refl
        (four_true refl refl refl (address_word h.3)) refl (not_last at _ lt) refl
    no_fault at (I.Own a) lt h =
        clean at (I.Own a) (four_true (link_word h) refl refl refl) (ap (is_link_of r) h.kind ∙ eq-eqb r r refl) refl refl refl refl refl
        (not_last at _ lt) refl
    no_fault at (I.Chain a b c) lt h =
        clean at (I.Chain a b c) (four_true (link_word h.link) (link_word h.before) refl refl)
        (ap (λ s. is_link_of (link_in code r a) (slice_get (kinds_at code s) c)) (leads h.before)
        ∙ ap (is_link_of (link_in code r a)) h.there ∙ eq-eqb h.to (link_in code r a) (omega (arith, leads h.link)))
        refl refl refl refl refl (not_last at _ lt) refl
    no_fault at (I.Outer a b c) lt h =
        clean at (I.Outer a b c) (four_true (place_word h.place) (link_word h.link) refl refl)
        (ap (λ s. numbers_from (length_in code r a) (kinds_at code s) c) (leads h.link)
        ∙ ap (λ n. numbers_from n (kinds_at code h.routine) c) (long h.place) ∙ h.numbers)
        refl refl refl refl refl (not_last at _ lt) refl
    no_fault at (I.OuterSame a b c) lt h =
        clean at (I.OuterSame a b c) (four_true (place_word h.place) (link_word h.link) refl refl)
        (ap (λ s. is_place_of (length_in code r a) (slice_get (kinds_at code s) c)) (leads h.link)
        ∙ ap (is_place_of (length_in code r a)) h.there ∙ eq-eqb h.cells (length_in code r a) (omega (arith, long h.place)))
        refl refl refl refl refl (not_last at _ lt) refl

    -- the ends of a routine need no instruction behind them
    ends_true : (b : Bool) → (b || true) ≡ true
    ends_true true = refl
    ends_true false = refl

    pub last_return : (at : ℕ) → (head_at code r).has_result ≡ false → instr_fault code r at I.Return ≡ None
    unfolding words rule_5 rule_6 rule_7 rule_10 rule_11 rule_12
    last_return at h = clean at I.Return refl refl refl refl refl refl refl (ends_true (nat_lt (suc at) (end_at code r))) (ap not h)

    pub last_fault : (at : ℕ) → instr_fault code r at (I.Fault 6) ≡ None
    unfolding words rule_5 rule_6 rule_7 rule_10 rule_11 rule_12
    last_fault at = clean at (I.Fault 6) refl refl refl refl refl refl refl (ends_true (nat_lt (suc at) (end_at code r))) refl
