-- READ, from template to run: two writes in one step, at the input position and at the place.
use Rattle.std.proofs.Common.{◌≡◌, ◌⊎◌, inl, inr, ℕ, zero, suc, ◌+◌, ◌-◌, ◌*◌, ◌<◌, ◌≤◌, Bool, true, false, List, [], ◌∷◌, ◌++◌, length}
use Rattle.std.proofs.Common.{get_or, drop, Some, None, refl, sym, ap, ◌∙◌, subst, arith, ℤ, pos}
use Rattle.std.specs.Prelude.{slice_get, nat_eq}
use Rattle.std.proofs.lemmas.Bool.Decides.{nat_tests}
use Rattle.std.proofs.lemmas.Int.{ints}
use Rattle.std.proofs.lemmas.List.{length-append}
use Rattle.std.proofs.lemmas.Option.{slice_get-get_or, get_or_from_slice_get}
use Rattle.alma_base.specs.Choice.{if_true}
use Rattle.alma_base.specs.Numbers.{within, is_integer}
use Rattle.alma_base.specs.Reading.{is_blank, is_digit, signed_value, sized, ended, digits_on, sign_on, number_on}
use Rattle.alma_base.specs.Reading.{number_from}
use Rattle.alma_base.specs.declared.fault.RunFault.TheVariants as fault
use Rattle.alma_base.specs.declared.number.Range.{Range}
use Rattle.alma_base.specs.declared.number.ReadInt.{ReadInt}
use Rattle.alma_base.specs.declared.number.ReadInt.TheVariants as read
use Rattle.alma_code.specs.declared.cell.Cell.{Cell}
use Rattle.alma_code.specs.declared.cell.Cell.TheVariants as cell
use Rattle.alma_code.specs.declared.cell.CellPlace.{CellPlace}
use Rattle.alma_code.specs.declared.cell.SlotKind.TheVariants as slot
use Rattle.alma_code.specs.declared.instr.Instr.TheVariants as I
use Rattle.alma_code.specs.Carries.{number_at}
use Rattle.alma_code.specs.Kinds.{is_number}
use Rattle.alma_code.specs.Lines.{line_at}
use Rattle.alma_code.specs.Picture.{PlainFrame, PlainEntry, frames_with_cell}
use Rattle.alma_code.specs.Picture as picture
use Rattle.alma_code.specs.Plain.{PlainCode, kinds_at}
use Rattle.alma_code.specs.Machine.{State, StepResult, Failing, act, step, quiet_step, ends_in_fault, fails_now, gets_stuck, with_cell}
use Rattle.alma_code.specs.Machine.{place}
use Rattle.alma_code.specs.Machine.{as_range, as_position, position, takes_read, byte_or_failure, take_input}
use Rattle.alma_ir.specs.declared.phrase.ReadAs.{ReadAs}
use Rattle.alma_ir.specs.declared.phrase.ReadAs.TheVariants as read_as
use Rattle.alma_ir.specs.Tree.{Program, Desig, Read}
use Rattle.alma_ir.specs.Checked.{desig_cells}
use Rattle.alma_mean.specs.Store.{Store, Place, Number, Unknown, put_at}
use Rattle.alma_mean.specs.Store as store
use Rattle.alma_mean.specs.Events.{Events, NoYield, Fail, one, bind}
use Rattle.alma_mean.specs.Arithmetic.{check_range, fault_unless}
use Rattle.alma_mean.specs.Rows.{nat_in, set_position, store_number, store_byte, read_row}
use Rattle.alma_mean.specs.Meaning.{Level, ev_stmt, ev_expr, ev_desig}
use Rattle.alma_base.specs.Limits.{input_limit}
use Rattle.alma_lower_implements.proofs.Frames.{shift, shift_in, own_end, IsAt, SameContent, SameFrame}
use Rattle.alma_lower_implements.proofs.FrameLemmas.{content_there, numbers_kept, place_kept, put_routine}
use Rattle.alma_lower_implements.proofs.Carrying.{kind_in}
use Rattle.alma_lower_implements.proofs.LaidOver.{put_here}
use Rattle.alma_lower_implements.proofs.Steps.{InstrAt, passed, does, went_on, place_is, faults_now, here_too}
use Rattle.alma_lower_templates.specs.LineInstr.{LineInstr, own}
use Rattle.alma_lower_templates.specs.Tables.{Tables, range_number}
use Rattle.alma_lower_templates.specs.Pieces.{read_code}
use Rattle.alma_lower_templates.specs.Templates.{held_at}
use Rattle.alma_lower_templates.proofs.Stands.{stands_front, stands_back}
use Rattle.alma_lower_templates.proofs.Given.{given_after}
use Rattle.alma_lower_templates.proofs.Parts.{Begins, begins, Left, left_on, sound_of, IsPlace, PlaceIn, Nothing, NodeRuns, From, leaving}
use Rattle.alma_lower_templates.proofs.Parts.{node_runs, then_from, faults_here, fails_here}
use Rattle.alma_lower_templates.proofs.CellsMoved.{cell_fits}
use Rattle.alma_lower_templates.proofs.CellRuns.{passes_with}
use Rattle.alma_lower_templates.proofs.ForallRuns.{position_there}
use Rattle.alma_lower_templates.proofs.Targets.{left_put}
use Rattle.alma_lower_templates.proofs.FormRuns.{held_code, HeldRuns, StmtRuns, HasRange}

-- ---- what is found

-- a number that is found is one of INTEGER, and ends at a place up to the top
abbrev Fits : ReadInt → (top : ℕ) → Type 0
Fits read.NoNumber top = Unit {0}
Fits read.TooLarge top = Unit {0}
Fits (read.Number x place) top = (is_integer x ≡ true) × (place ≤ top)

either : (b : Bool) (f g : ReadInt) (top : ℕ) → Fits f top → Fits g top → Fits (if_true b (λ _. f) (λ _. g)) top
either true f g top a b = a
either false f g top a b = b

sized_fits : (b : Bool) (x : ℤ) (place top : ℕ) → is_integer x ≡ b → place ≤ top → Fits (sized b x place) top
sized_fits true x place top e le = (e, le)
sized_fits false x place top e le = tt

ended_fits : (any negative : Bool) (value place top : ℕ) → place ≤ top → Fits (ended any negative value place) top
ended_fits false negative value place top le = tt
ended_fits true negative value place top le =
    sized_fits (is_integer (signed_value negative value)) (signed_value negative value) place top refl le

digits_fit : (any negative : Bool) (value place : ℕ) (xs : List ℕ) (top : ℕ) → place + length xs ≤ top
    → Fits (digits_on any negative value place xs) top
digits_fit any negative value place [] top le = ended_fits any negative value place top (omega (arith, le))
digits_fit any negative value place (c ∷ rest) top le =
    either (is_digit c) (digits_on true negative (value * 10 + (c - 48)) (suc place) rest) (ended any negative value place) top
    (digits_fit true negative (value * 10 + (c - 48)) (suc place) rest top (omega (arith, le)))
    (ended_fits any negative value place top (omega (arith, le)))

sign_fits : (place : ℕ) (xs : List ℕ) (top : ℕ) → place + length xs ≤ top → Fits (sign_on place xs) top
sign_fits place [] top le = tt
sign_fits place (c ∷ rest) top le =
    either (nat_eq c 45) (digits_on false true 0 (suc place) rest)
    (if_true (nat_eq c 43) (λ _. digits_on false false 0 (suc place) rest) (λ _. digits_on false false 0 place (c ∷ rest))) top
    (digits_fit false true 0 (suc place) rest top (omega (arith, le)))
    (either (nat_eq c 43) (digits_on false false 0 (suc place) rest) (digits_on false false 0 place (c ∷ rest)) top
    (digits_fit false false 0 (suc place) rest top (omega (arith, le))) (digits_fit false false 0 place (c ∷ rest) top le))

number_fits : (place : ℕ) (xs : List ℕ) (top : ℕ) → place + length xs ≤ top → Fits (number_on place xs) top
number_fits place [] top le = tt
number_fits place (c ∷ rest) top le = either (is_blank c) (number_on (suc place) rest) (sign_on place (c ∷ rest)) top
    (number_fits (suc place) rest top (omega (arith, le))) (sign_fits place (c ∷ rest) top le)

-- what is left of the input: nothing, or a byte and the rest
entry_after_pop : (n : ℕ) (xs : List ℕ) → ((drop n xs ≡ []) × (slice_get xs n ≡ None))
    ⊎ ((c : ℕ) × (rest : List ℕ) × (drop n xs ≡ c ∷ rest) × (slice_get xs n ≡ Some c) × (n + suc (length rest) ≡ length xs))
entry_after_pop zero [] = inl (refl, refl)
entry_after_pop zero (x ∷ xs) = inr (x, xs, refl, refl, omega arith)
entry_after_pop (suc n) [] = inl (refl, refl)
entry_after_pop (suc n) (x ∷ xs) = elim (entry_after_pop n xs) [
  | inl none ↦ inl (none.0, none.1)
  | inr some ↦ inr (some.0, some.1, some.2, some.3, omega (arith, some.4))
]

found_fits : (input : List ℕ) (n : ℕ) → Fits (number_from input n) (length input)
found_fits input n = elim (entry_after_pop n input) [
  | inl none ↦ subst (λ xs. Fits (number_on n xs) (length input)) (sym none.0) tt
  | inr some ↦ subst (λ xs. Fits (number_on n xs) (length input)) (sym some.2)
      (number_fits n (some.0 ∷ some.1) (length input) (omega (arith, some.4)))
]

-- a place of the input is one of INTEGER
place_integer : (n : ℕ) → n ≤ 16777216 → is_integer (pos n) ≡ true
place_integer n le = grind (arith, ints, nat_tests)

module _ (p : Program) (tables : Tables) (code : PlainCode) (input : List ℕ) (below : Level) (r line q : ℕ) (flat : shift p 0 ≡ 0)
    (position_kind : slice_get (kinds_at code 0) 0 ≡ Some slot.Number) (lawful : length input ≤ input_limit) where
  abbrev Ends : (at lo : ℕ) → Store → List PlainFrame → Events NoYield → Type 0
  Ends at lo v now e = From p code input line 8 at (at + 1) now (leaving p code input lo r now (Nothing p code input)) e q

  -- ---- the position

  kind_there : (v : Store) (now : List PlainFrame) → Begins p code input r v now → kind_in p code v now 0 0 ≡ slot.Number
  kind_there v now b =
      let frame = b.stand.frames 0 (omega (arith, b.stand.some)) in
      let kinds : (get_or now 0 picture.no_frame).kinds ≡ kinds_at code 0 = frame.kinds
      ∙ ap (kinds_at code) (sym frame.routine ∙ b.stand.main) in
      let sh : shift_in p v 0 + 0 ≡ 0 = omega (arith, ap (shift p) b.stand.main, flat) in
      ap (λ ks. get_or ks (shift_in p v 0 + 0) slot.Mark) kinds ∙ ap (λ n. get_or (kinds_at code 0) n slot.Mark) sh
      ∙ (let z : get_or (kinds_at code 0) 0 slot.Mark ≡ slot.Number =
      get_or_from_slice_get (kinds_at code 0) 0 slot.Number slot.Mark position_kind in z)

  zero_number : (v : Store) (now : List PlainFrame) → Begins p code input r v now → number_at now 0 0 ≡ true
  zero_number v now b =
      let frame = b.stand.frames 0 (omega (arith, b.stand.some)) in
      let kinds : (get_or now 0 picture.no_frame).kinds ≡ kinds_at code 0 = frame.kinds
      ∙ ap (kinds_at code) (sym frame.routine ∙ b.stand.main) in
      ap is_number (ap (λ ks. slice_get ks 0) kinds ∙ position_kind)

  position_is : (v : Store) (now : List PlainFrame) (b : Begins p code input r v now)
      → slice_get (get_or now 0 picture.no_frame).cells 0 ≡ Some (cell.Int (pos b.sound.position.at))
  position_is v now b = by (get_or (get_or now 0 picture.no_frame).cells 0 cell.Unset) refl
      (subst (λ k. SameContent p v k (Number (pos b.sound.position.at)) (get_or (get_or now 0 picture.no_frame).cells 0 cell.Unset))
      (kind_there v now b)
      (subst (λ c. SameContent p v (kind_in p code v now 0 0) c (get_or (get_or now 0 picture.no_frame).cells 0 cell.Unset))
      b.sound.position.is
      (subst (λ n. SameContent p v (kind_in p code v now 0 0) (store.cell_at v 0 0)
      (get_or (get_or now 0 picture.no_frame).cells n cell.Unset)) sh (frame.cells 0 there))))
    where
      frame : SameFrame p code v (get_or v 0 store.no_frame) (get_or now 0 picture.no_frame)
      frame = b.stand.frames 0 (omega (arith, b.stand.some))

      there : 0 < length (get_or v 0 store.no_frame).cells
      there = position_there p code input v b.sound.position

      sh : shift_in p v 0 + 0 ≡ 0
      sh = omega (arith, ap (shift p) b.stand.main, flat)

      by : (c : Cell) → get_or (get_or now 0 picture.no_frame).cells 0 cell.Unset ≡ c
          → SameContent p v slot.Number (Number (pos b.sound.position.at)) c
          → slice_get (get_or now 0 picture.no_frame).cells 0 ≡ Some (cell.Int (pos b.sound.position.at))
      by (cell.Int x) e same = slice_get-get_or (get_or now 0 picture.no_frame).cells 0 cell.Unset (omega (arith, there, frame.within))
          ∙ ap Some (e ∙ ap cell.Int (sym same.0))
      by cell.Unknown e same = absurd same
      by cell.Unset e same = absurd same
      by (cell.Place x) e same = absurd same
      by (cell.Mark x) e same = absurd same

  -- the position is set
  left_position : (lo n : ℕ) (v : Store) (now : List PlainFrame) → n ≤ length input → Begins p code input r v now
      → Left p code input lo r now (set_position v n) (frames_with_cell now 0 0 (cell.Int (pos n)))
  left_position lo n v now le b =
      let live : 0 < length v = omega (arith, b.stand.some) in
      let there = position_there p code input v b.sound.position in
      let sh : shift_in p v 0 + 0 ≡ 0 = omega (arith, ap (shift p) b.stand.main, flat) in
      let fit = cell_fits p code input lo 0 0 (Number (pos n)) (cell.Int (pos n)) v now b.stand live there (kind_there v now b)
      (refl, place_integer n (omega (arith, le, lawful))) in
      let made : Left p code input lo r now (set_position v n) (frames_with_cell now 0 (shift_in p v 0 + 0) (cell.Int (pos n))) = record {
        fits = fit;
        routine = put_routine v 0 0 (Number (pos n)) live ∙ b.routine;
        sound = sound_of p code input (set_position v n) (frames_with_cell now 0 (shift_in p v 0 + 0) (cell.Int (pos n))) fit.stand
            (record { at = n; is = put_here v 0 0 (Number (pos n)) live there })
            (given_after p code lo v (set_position v n) now (frames_with_cell now 0 (shift_in p v 0 + 0) (cell.Int (pos n))) b.stand fit
            b.sound.given);
      } in
      subst (λ m. Left p code input lo r now (set_position v n) (frames_with_cell now 0 m (cell.Int (pos n)))) sh made

  -- ---- a number that is taken

  -- the two writes
  abbrev at_zero : (behind : ℕ) → State → (State → StepResult) → StepResult
  at_zero behind s k = if_true (number_at s.now 0 0) (λ _. k (with_cell s 0 0 (cell.Int (pos behind)))) (λ _. gets_stuck s)

  abbrev at_cell : CellPlace → ℤ → State → StepResult
  at_cell c x s = if_true (number_at s.now c.frame c.slot) (λ _. quiet_step (with_cell s c.frame c.slot (cell.Int x))) (λ _. gets_stuck s)

  took_ends : (at lo a size behind : ℕ) (v : Store) (now : List PlainFrame) (m : Place) (range : Range) (x : ℤ) → own_end p r ≤ lo
      → 0 < size → behind ≤ length input → ((z : ℤ) → within range z ≡ true → is_integer z ≡ true) → Begins p code input r v now
      → (h : IsPlace p code input a size v m now) → line_at code at ≡ line
      → ((held : List PlainEntry) (s : State) → IsAt at now held s
      → step code input s ≡ take_input (passed code input s) range h.place x behind)
      → Ends at lo v now (check_range range x (λ _. one (put_at (set_position v behind) m (Number x)) tt))
  took_ends at lo a size behind v now m range x own_lo some le inside b h there steps = by (within range x) refl
    where
      by : (t : Bool) → within range x ≡ t → Ends at lo v now
          (fault_unless fault.Range t (λ _. one (put_at (set_position v behind) m (Number x)) tt))
      by false out =
          faults_here p code input line 7 at (at + 1) now (leaving p code input lo r now (Nothing p code input)) fault.Range q
          (λ held s is. faults_now code input line s fault.Range (here_too code input line at now held s is there)
          (steps held s is ∙ ap (λ t. if_true t (λ _. at_zero behind (passed code input s) (at_cell h.place x))
          (λ _. ends_in_fault fault.Range (passed code input s))) out))
      by true in_it =
          let v1 : Store = set_position v behind in
          let t1 : List PlainFrame = frames_with_cell now 0 0 (cell.Int (pos behind)) in
          let left1 = left_position lo behind v now le b in
          let b1 = begins p code input lo r now v1 t1 left1 in
          let some_cell : 0 < m.size = omega (arith, some, h.sized) in
          let numbers = numbers_kept p code lo m v v1 now t1 b.stand left1.fits h.numbers in
          let same = place_kept p code lo m h.place v v1 now t1 h.numbers.frame b.stand left1.fits h.same in
          let live = content_there p code v1 t1 m h.place b1.stand numbers some_cell same in
          let zero_on : shift_in p v1 m.frame + (m.slot + 0) ≡ shift_in p v1 m.frame + m.slot = omega arith in
          let kind : get_or (get_or t1 m.frame picture.no_frame).kinds (shift_in p v1 m.frame + m.slot) slot.Mark ≡ slot.Number =
          ap (λ n. get_or (get_or t1 m.frame picture.no_frame).kinds n slot.Mark) (sym zero_on) ∙ numbers.kinds 0 some_cell in
          let within_frame : m.slot < length (get_or v1 m.frame store.no_frame).cells = omega (arith, numbers.cells 0 some_cell) in
          let made = left_put p code input lo r m.frame m.slot x v1 t1 numbers.frame within_frame kind (inside x in_it) numbers.free b1 in
          let t2 : List PlainFrame = frames_with_cell t1 h.place.frame h.place.slot (cell.Int x) in
          let here2 : frames_with_cell t1 m.frame (shift_in p v1 m.frame + m.slot) (cell.Int x) ≡ t2 =
          ap (λ f. frames_with_cell t1 f (shift_in p v1 m.frame + m.slot) (cell.Int x)) same.frame
          ∙ ap (λ n. frames_with_cell t1 h.place.frame n (cell.Int x)) same.slot in
          let left2 : Left p code input lo r t1 (put_at v1 m (Number x)) t2 =
          subst (Left p code input lo r t1 (put_at v1 m (Number x))) here2 made in
          let sh : shift_in p v 0 + 0 ≡ 0 = omega (arith, ap (shift p) b.stand.main, flat) in
          let zero_live : number_at now 0 0 ≡ true = zero_number v now b in
          passes_with p tables code input below r line q at lo v (put_at v1 m (Number x)) now t2 own_lo b
          (left_on p code input lo lo r now v1 (put_at v1 m (Number x)) t1 t2 (omega arith) left1 left2)
          (λ held s is.
          let here : State = passed code input s in
          steps held s is ∙ ap (λ t. if_true t (λ _. at_zero behind here (at_cell h.place x)) (λ _. ends_in_fault fault.Range here)) in_it
          ∙ ap (λ z. if_true (number_at z 0 0) (λ _. at_cell h.place x (with_cell here 0 0 (cell.Int (pos behind)))) (λ _. gets_stuck here))
          is.frames
          ∙ ap (λ t. if_true t (λ _. at_cell h.place x (with_cell here 0 0 (cell.Int (pos behind)))) (λ _. gets_stuck here)) zero_live
          ∙ ap (λ z. at_cell h.place x (record here { now = frames_with_cell z 0 0 (cell.Int (pos behind)) })) is.frames
          ∙ ap (λ t. if_true t (λ _. quiet_step (record here { now = t2 })) (λ _. gets_stuck (record here { now = t1 }))) live.0)

  -- ---- what the step comes to

  fails_with : (at lo : ℕ) (v : Store) (now : List PlainFrame)
      → ((held : List PlainEntry) (s : State) → IsAt at now held s → step code input s ≡ fails_now (passed code input s))
      → Ends at lo v now Fail
  fails_with at lo v now steps =
      fails_here p code input line 7 at (at + 1) now (leaving p code input lo r now (Nothing p code input)) q
      (λ held s is. (
        record (passed code input s) { mode = Failing },
        went_on code input s (record (passed code input s) { mode = Failing }) (steps held s is),
        record { mode = refl; entries = is.entries },
      ))

  found_ends : (f : ReadInt) (at lo a size : ℕ) (v : Store) (now : List PlainFrame) (m : Place) (range : Range) → Fits f (length input)
      → own_end p r ≤ lo → 0 < size → ((z : ℤ) → within range z ≡ true → is_integer z ≡ true) → Begins p code input r v now
      → (h : IsPlace p code input a size v m now) → line_at code at ≡ line
      → ((held : List PlainEntry) (s : State) → IsAt at now held s → step code input s ≡ takes_read (passed code input s) range h.place f)
      → Ends at lo v now (store_number v m range f)
  found_ends read.NoNumber at lo a size v now m range fits own_lo some inside b h there steps = fails_with at lo v now steps
  found_ends read.TooLarge at lo a size v now m range fits own_lo some inside b h there steps =
      faults_here p code input line 7 at (at + 1) now (leaving p code input lo r now (Nothing p code input)) fault.ReadRange q
      (λ held s is. faults_now code input line s fault.ReadRange (here_too code input line at now held s is there) (steps held s is))
  found_ends (read.Number x behind) at lo a size v now m range fits own_lo some inside b h there steps =
      took_ends at lo a size behind v now m range x own_lo some fits.1 inside b h there steps

  -- what READ does with what it finds at the position
  abbrev read_by : ReadAs → State → Range → CellPlace → (at : ℕ) → StepResult
  read_by read_as.Int s range c n = takes_read s range c (number_from input n)
  read_by read_as.Char s range c n = byte_or_failure s range c n (slice_get input n)

  -- the place, the range and the position are read
  reads_all : (how : ReadAs) (at a size : ℕ) (v : Store) (now : List PlainFrame) (m : Place) (range : Range)
      → HasRange p tables code input below r line q range → (b : Begins p code input r v now) → (h : IsPlace p code input a size v m now)
      → InstrAt code input line at (read_code how a (range_number tables range))
      → (held : List PlainEntry) (s : State) → IsAt at now held s
      → step code input s ≡ read_by how (passed code input s) range h.place b.sound.position.at
  unfolding act
  reads_all read_as.Int at a size v now m range has b h i held s is =
      let here : State = passed code input s in
      does code input line at now held s (I.ReadInt a (range_number tables range)) is i
      ∙ place_is code input now here a h.place
      (λ c. as_range (slice_get code.ranges (range_number tables range)) here
      (λ t. position here (λ n. takes_read here t c (number_from input n)))) is.frames h.holds
      ∙ ap (λ o. as_range o here (λ t. position here (λ n. takes_read here t h.place (number_from input n)))) has
      ∙ ap (λ z. as_position (slice_get (get_or z 0 picture.no_frame).cells 0) here
      (λ n. takes_read here range h.place (number_from input n))) is.frames
      ∙ ap (λ o. as_position o here (λ n. takes_read here range h.place (number_from input n))) (position_is v now b)
  reads_all read_as.Char at a size v now m range has b h i held s is =
      let here : State = passed code input s in
      does code input line at now held s (I.ReadChar a (range_number tables range)) is i
      ∙ place_is code input now here a h.place
      (λ c. as_range (slice_get code.ranges (range_number tables range)) here
      (λ t. position here (λ n. byte_or_failure here t c n (slice_get input n)))) is.frames h.holds
      ∙ ap (λ o. as_range o here (λ t. position here (λ n. byte_or_failure here t h.place n (slice_get input n)))) has
      ∙ ap (λ z. as_position (slice_get (get_or z 0 picture.no_frame).cells 0) here
      (λ n. byte_or_failure here range h.place n (slice_get input n))) is.frames
      ∙ ap (λ o. as_position o here (λ n. byte_or_failure here range h.place n (slice_get input n))) (position_is v now b)

  read_ends : (how : ReadAs) (at lo a size : ℕ) (v : Store) (now : List PlainFrame) (m : Place) (range : Range)
      → HasRange p tables code input below r line q range → own_end p r ≤ lo → 0 < size
      → ((z : ℤ) → within range z ≡ true → is_integer z ≡ true) → Begins p code input r v now → IsPlace p code input a size v m now
      → InstrAt code input line at (read_code how a (range_number tables range)) → Ends at lo v now (read_row input how v m range)
  read_ends read_as.Int at lo a size v now m range has own_lo some inside b h i =
      let n : ℕ = b.sound.position.at in
      subst (λ c. Ends at lo v now (store_number v m range (number_from input (nat_in c)))) (sym b.sound.position.is)
      (found_ends (number_from input n) at lo a size v now m range (found_fits input n) own_lo some inside b h i.on_line
      (reads_all read_as.Int at a size v now m range has b h i))
  read_ends read_as.Char at lo a size v now m range has own_lo some inside b h i =
      subst (λ c. Ends at lo v now (store_byte v m range (nat_in c) (drop (nat_in c) input))) (sym b.sound.position.is)
      (elim (entry_after_pop n input) [
        | inl none ↦
            subst (λ xs. Ends at lo v now (store_byte v m range n xs)) (sym none.0)
            (fails_with at lo v now (λ held s is. reads_all read_as.Char at a size v now m range has b h i held s is
            ∙ ap (λ o. byte_or_failure (passed code input s) range h.place n o) none.1))
        | inr byte ↦
            let next : n + 1 ≡ suc n = omega arith in
            subst (λ xs. Ends at lo v now (store_byte v m range n xs)) (sym byte.2)
            (took_ends at lo a size (suc n) v now m range (pos byte.0) own_lo some (omega (arith, byte.4)) inside b h i.on_line
            (λ held s is. reads_all read_as.Char at a size v now m range has b h i held s is
            ∙ ap (λ o. byte_or_failure (passed code input s) range h.place n o) byte.3
            ∙ ap (λ k. take_input (passed code input s) range h.place (pos byte.0) k) next))
      ])
    where
      n : ℕ
      n = b.sound.position.at

  pub read_runs : (at lo : ℕ) (d : Desig) (how : ReadAs) (range : Range) → own_end p r ≤ lo → desig_cells d ≡ 1
      → HasRange p tables code input below r line q range → ((z : ℤ) → within range z ≡ true → is_integer z ≡ true)
      → HeldRuns p tables code input below r line q at lo d
      → StmtRuns p tables code input below r line q at lo (Read d how range)
  unfolding ev_expr
  read_runs at lo d how range behind cells has inside runs stands v now b =
      let inner : List LineInstr = held_code p tables r line at lo d in
      let a : ℕ = held_at p tables r lo d in
      let last : List LineInstr = own line (read_code how a (range_number tables range) ∷ []) in
      let m : ℕ = at + length inner in
      let back = stands_back code at inner last stands in
      let i : InstrAt code input line m (read_code how a (range_number tables range)) = record { instr = back.0; on_line = back.1 } in
      let whole : length (inner ++ last) ≡ length inner + 1 = length-append inner last in
      let end : m + 1 ≡ at + length (inner ++ last) = omega (arith, whole) in
      let w = leaving p code input lo r now (Nothing p code input) in
      subst (λ n. NodeRuns p code input line at n now w (ev_stmt p input below (Read d how range) v) q) end
      (node_runs p code input line 0 at (m + 1) now w (bind (ev_desig p input below d v) (λ t k. read_row input how t k range)) q
      (omega arith)
      (then_from p code input line at m (m + 1) lo lo r now (PlaceIn p code input a (desig_cells d)) (Nothing p code input)
      (ev_desig p input below d v) (λ t k. read_row input how t k range) q (omega arith) behind
      (runs.runs (stands_front code at inner last stands) v now b)
      (λ u k t left place. read_ends how m lo a (desig_cells d) u t k range has behind (omega (arith, cells)) inside
      (begins p code input lo r now u t left) place i)))
