-- The arguments of a call: each goes into a slot of its own, where the Call reads it.
use Rattle.std.proofs.Common.{◌≡◌, ℕ, suc, ◌+◌, ◌<◌, ◌≤◌, Bool, true, false, List, [], ◌∷◌, ◌++◌, length, Some, None, refl, sym, ap}
use Rattle.std.proofs.Common.{◌∙◌, subst, arith, ℤ, pos, negsuc, length-append}
use Rattle.std.proofs.lemmas.Int.{ints}
use Rattle.std.proofs.lemmas.Bool.{and_parts}
use Rattle.std.proofs.lemmas.Bool.Decides.{nat_tests}
use Rattle.std.specs.Prelude.{slice_get}
use Rattle.std.proofs.lemmas.List.{map-append}
use Rattle.alma_base.specs.declared.fault.RunFault.TheVariants as fault
use Rattle.alma_base.specs.declared.number.Range.{Range}
use Rattle.alma_base.specs.Numbers.{is_integer, within}
use Rattle.alma_code.specs.declared.cell.Cell.{Cell}
use Rattle.alma_code.specs.declared.cell.Cell.TheVariants as cell
use Rattle.alma_code.specs.declared.cell.CellPlace.{CellPlace}
use Rattle.alma_code.specs.declared.cell.SlotKind.TheVariants as slot
use Rattle.alma_code.specs.declared.instr.Instr.{Instr}
use Rattle.alma_code.specs.declared.instr.Instr.TheVariants as I
use Rattle.alma_code.specs.Lines.{line_at}
use Rattle.alma_code.specs.Picture.{PlainFrame}
use Rattle.alma_code.specs.Plain.{PlainCode, kinds_at}
use Rattle.alma_code.specs.Machine.{act, put_number}
use Rattle.alma_ir.specs.declared.program.ArgKind.{ArgKind}
use Rattle.alma_ir.specs.declared.program.ArgKind.TheVariants as kind
use Rattle.alma_ir.specs.declared.program.Param.{Param}
use Rattle.alma_ir.specs.Tree.{Program, Expr, Desig, Sels, Args, Arg, no_args, more_args, ByValue, ByCells, ByPlace, MixValue, MixPlace}
use Rattle.alma_ir.specs.Tree.{a_desig, no_sels, more_sels, Field, Index}
use Rattle.std.specs.List.{AllByRecursion}
use Rattle.alma_ir.specs.Checked.{ArgFits, ArgsFit, HasOneCellAs, cells_after}
use Rattle.alma_ir.specs.Checked as checked
use Rattle.alma_mean.specs.Store.{Store, Place}
use Rattle.alma_mean.specs.Events.{Events, one, bind, node}
use Rattle.alma_mean.specs.Arithmetic.{check_range, fault_unless}
use Rattle.alma_mean.specs.Rows.{ArgValue, ArgNumber, ArgMix, ArgPlace, ArgCells}
use Rattle.alma_mean.specs.Meaning.{Level, ev_stmts, ev_expr, ev_desig, ev_arg, ev_args}
use Rattle.alma_lower_implements.proofs.Goes.{Goes, before, bind_goes, one_goes}
use Rattle.alma_lower_implements.proofs.Address.{at_address}
use Rattle.alma_lower_implements.proofs.Frames.{own_end, HasSlots}
use Rattle.alma_lower_implements.proofs.FrameLemmas.{numbers_kept, place_kept}
use Rattle.alma_lower_implements.proofs.ExprRows.{first_kind, slots_behind}
use Rattle.alma_lower_implements.proofs.ForSteps.{move_step}
use Rattle.alma_lower_implements.proofs.BareRow.{ReadsFirst}
use Rattle.alma_lower_implements.proofs.Steps.{Holds, InstrAt, top_written, passed, does}
use Rattle.alma_lower_implements.proofs.Ways.{Ways, Leaves, Runs}
use Rattle.alma_lower_templates.specs.LineInstr.{LineInstr, own}
use Rattle.alma_lower_templates.specs.Tables.{Tables, range_number, is_whole}
use Rattle.alma_lower_templates.specs.Pieces.{fit_code, put_code, straight, place_code, unless_whole}
use Rattle.alma_lower_templates.specs.Slots.{bare, own_place, ends_alone, is_straight, unless_bare, handed_slots, arg_kind, arg_slots}
use Rattle.alma_lower_templates.specs.Slots.{desig_cells, cells_behind}
use Rattle.alma_lower_templates.specs.Templates.{expr_code, desig_code, value_at, handed_code, arg_code, args_code}
use Rattle.alma_lower_templates.specs.Stands.{Stands}
use Rattle.alma_lower_templates.proofs.Stands.{stands_front, stands_back}
use Rattle.alma_lower_templates.proofs.Parts.{Begins, Left, begins, left_self, left_on, left_temp, holds_temp, has_kind, holds_after}
use Rattle.alma_lower_templates.proofs.Parts.{IsValue, ValueIn, PlaceIn, NodeFor, From, from_more, leaving, as_runs, node_runs, then_from}
use Rattle.alma_lower_templates.proofs.Parts.{step_from, ends_here}
use Rattle.alma_lower_templates.proofs.PlaceSteps.{in_range_reads, in_range_passes, in_range_faults}
use Rattle.alma_lower_templates.proofs.AtOnce.{AtOnce, at_once}
use Rattle.alma_lower_templates.proofs.ExprForms.{RunsTo}
use Rattle.alma_lower_templates.proofs.Straight.{alone_bare}
use Rattle.alma_lower_templates.proofs.Placed.{handed_is}
use Rattle.alma_lower_templates.proofs.NewFrame.{PlaceAlike, HandedAs, a_value, a_place, mix_value, mix_place, some_cells, AllHanded}
use Rattle.alma_lower_templates.proofs.Handing.{HeldFrom}

-- instructions in two parts
pub own_both : (line : ℕ) (a b : List Instr) → own line (a ++ b) ≡ own line a ++ own line b
own_both line a b = map-append _ a b

-- a range of all numbers holds each number of INTEGER
whole_within : (low high x : ℤ) → is_whole (record { low = low; high = high }) ≡ true → is_integer x ≡ true
    → within (record { low = low; high = high }) x ≡ true
whole_within (pos a) (pos b) (pos x) h fits = grind (arith, ints, nat_tests)
whole_within (pos a) (pos b) (negsuc x) h fits = grind (arith, ints, nat_tests)
whole_within (pos a) (negsuc b) (pos x) h fits = grind (arith, ints, nat_tests)
whole_within (pos a) (negsuc b) (negsuc x) h fits = grind (arith, ints, nat_tests)
whole_within (negsuc a) (pos b) (pos x) h fits = grind (arith, ints, nat_tests)
whole_within (negsuc a) (pos b) (negsuc x) h fits = grind (arith, ints, nat_tests)
whole_within (negsuc a) (negsuc b) (pos x) h fits = grind (arith, ints, nat_tests)
whole_within (negsuc a) (negsuc b) (negsuc x) h fits = grind (arith, ints, nat_tests)

-- the cells of a designator, in both words
cells_agree : (sels : Sels) (cells : ℕ) → cells_behind cells sels ≡ cells_after sels cells
cells_agree no_sels cells = refl
cells_agree (more_sels (Field offset part) rest) cells = cells_agree rest part
cells_agree (more_sels (Index e range part) rest) cells = cells_agree rest part

pub same_cells : (d : Desig) → desig_cells d ≡ checked.desig_cells d
same_cells (a_desig root cells sels) = cells_agree sels cells

module _ (code : PlainCode) (input : List ℕ) where
  pub move_reads : (line at to from : ℕ) (now : List PlainFrame) → InstrAt code input line at (I.Move to from)
      → ReadsFirst code input at from now
  unfolding act
  move_reads line at to from now i held s is =
      ((λ v. put_number (passed code input s) to v), does code input line at now held s (I.Move to from) is i)

  pub in_range_first : (line at a n : ℕ) (range : Range) (now : List PlainFrame) → InstrAt code input line at (I.InRange a n)
      → slice_get code.ranges n ≡ Some range → ReadsFirst code input at a now
  in_range_first line at a n range now i e held s is = (_, in_range_reads code input line at now held s is a n range i e)

module _ (p : Program) (tables : Tables) (code : PlainCode) (input : List ℕ) where
  -- the range is in the table of the code, where it is asked
  abbrev pub RangeFits : Range → Type 0
  RangeFits range = is_whole range ≡ false → slice_get code.ranges (range_number tables range) ≡ Some range

  -- ---- a number that is checked

  pub fit_from : {A : Type 0} (line c at m exit : ℕ) (now : List PlainFrame) (w : Ways A) (range : Range) (slot : ℕ) (x : ℤ) (e : Events A)
      (q : ℕ) → RangeFits range → IsValue p code input slot x now → Stands code at (own line (fit_code tables range slot))
      → m ≡ at + length (own line (fit_code tables range slot)) → From p code input line c m exit now w e q
      → From p code input line (suc c) at exit now w (check_range range x (λ _. e)) q
  fit_from line c at m exit now w range slot x e q fits value stands at_m h = by (is_whole range) refl stands at_m
    where
      checked_by : (b : Bool) → within range x ≡ b → Stands code at (own line (I.InRange slot (range_number tables range) ∷ []))
          → slice_get code.ranges (range_number tables range) ≡ Some range → m ≡ at + 1
          → From p code input line (suc c) at exit now w (check_range range x (λ _. e)) q
      checked_by true is there in_table e1 held s is_at =
          let z = in_range_passes code input line at now held s is_at slot (range_number tables range) range x
          (record { instr = there.0; on_line = there.1 }) in_table value.holds is in
          subst (λ f. Goes code input line 0 24 (Leaves exit w) held f s (suc c) q) (sym (ap (λ b. fault_unless fault.Range b (λ _. e)) is))
          (before code input line 0 24 (Leaves exit w) held e s z.to 1 (suc c) c q q z.silently (omega arith) (omega arith)
          (h held z.to (at_address (at + 1) m now held z.to (sym e1) z.is)))
      checked_by false is there in_table e1 held s is_at =
          let z = in_range_faults code input line at now held s is_at slot (range_number tables range) range x
          (record { instr = there.0; on_line = there.1 }) in_table value.holds is in
          subst (λ f. Goes code input line 0 24 (Leaves exit w) held f s (suc c) q) (sym (ap (λ b. fault_unless fault.Range b (λ _. e)) is))
          (1, z.to, omega arith, z.silently, z.is, z.on_line)

      by : (b : Bool) → is_whole range ≡ b → Stands code at (own line (unless_whole b (I.InRange slot (range_number tables range) ∷ [])))
          → m ≡ at + length (own line (unless_whole b (I.InRange slot (range_number tables range) ∷ [])))
          → From p code input line (suc c) at exit now w (check_range range x (λ _. e)) q
      by true is there e0 held s is_at =
          let z : m ≡ at = omega (arith, e0) in
          subst (λ f. Goes code input line 0 24 (Leaves exit w) held f s (suc c) q)
          (sym (ap (λ b. fault_unless fault.Range b (λ _. e)) (whole_within range.low range.high x is value.integer)))
          (from_more p code input line c (suc c) at exit now w e q (omega arith)
          (subst (λ n. From p code input line c n exit now w e q) z h) held s is_at)
      by false is there e1 held s is_at = checked_by (within range x) refl there (fits is) e1 held s is_at

  -- the check, or what is behind it, reads the number first
  pub fit_reads : (line at slot : ℕ) (now : List PlainFrame) (range : Range) (next : Instr) → RangeFits range
      → (InstrAt code input line at next → ReadsFirst code input at slot now)
      → Stands code at (own line (fit_code tables range slot ++ (next ∷ []))) → (line_at code at ≡ line) × ReadsFirst code input at slot now
  fit_reads line at slot now range next fits reads stands = by (is_whole range) refl stands
    where
      by : (b : Bool) → is_whole range ≡ b → Stands code
          at (own line (unless_whole b (I.InRange slot (range_number tables range) ∷ []) ++ (next ∷ []))) → (line_at code at ≡ line)
          × ReadsFirst code input at slot now
      by true is there = (there.1, reads (record { instr = there.0; on_line = there.1 }))
      by false is there = (
        there.1,
        in_range_first code input line at slot (range_number tables range) range now
            (record { instr = there.0; on_line = there.1 }) (fits is),
      )

-- ---- one argument

module _ (p : Program) (tables : Tables) (code : PlainCode) (input : List ℕ) (below : Level) (r line q : ℕ) where
  -- what stands for an argument in its slot
  pub record ArgHere (to : ℕ) (k : ArgKind) (n : ℕ) (v : Store) (a : ArgValue) (now : List PlainFrame) : Type 0 where
    pub cell : Cell
    pub handed : HandedAs p code v now k n a cell
    pub holds : Holds now to cell

  abbrev pub ArgIn : (to : ℕ) (k : ArgKind) (n : ℕ) → Store → ArgValue → List PlainFrame → Type 0
  ArgIn to k n v a now = ArgHere to k n v a now

  -- a number
  number_arg : (k : ArgKind) (n : ℕ) (wrap : ℤ → ArgValue)
      → ((x : ℤ) (v : Store) (now : List PlainFrame) → is_integer x ≡ true → HandedAs p code v now k n (wrap x) (cell.Int x))
      → (e : Expr) (range : Range) (to la at : ℕ) → to < la → own_end p r ≤ to → slice_get (kinds_at code r) to ≡ Some slot.Number
      → RangeFits p tables code input range → AtOnce p tables code input below r line q at la e
      → NodeFor p code input r line at to (unless_bare (bare e) (expr_code p tables r line at la e)
      ++ own line (fit_code tables range (value_at p tables r la e) ++ (I.Move to (value_at p tables r la e) ∷ [])))
      (λ v. node (bind (ev_expr p input below e v) (λ t x. check_range range x (λ _. one t (wrap x))))) (ArgIn to k n) q
  number_arg k n wrap made_of e range to la at small own_to kind fits once stands v now b =
      let first : List LineInstr = unless_bare (bare e) (expr_code p tables r line at la e) in
      let value : ℕ = value_at p tables r la e in
      let fit : List Instr = fit_code tables range value in
      let second : List LineInstr = own line (fit ++ (I.Move to value ∷ [])) in
      let m : ℕ = at + length first in
      let m2 : ℕ = m + length (own line fit) in
      let exit : ℕ = at + length (first ++ second) in
      let behind : Stands code m second = stands_back code at first second stands in
      let split : second ≡ own line fit ++ own line (I.Move to value ∷ []) = own_both line fit (I.Move to value ∷ []) in
      let parts : Stands code m (own line fit ++ own line (I.Move to value ∷ [])) = subst (Stands code m) split behind in
      let fit_there : Stands code m (own line fit) = stands_front code m (own line fit) (own line (I.Move to value ∷ [])) parts in
      let move_there : Stands code m2 (own line (I.Move to value ∷ [])) =
      stands_back code m (own line fit) (own line (I.Move to value ∷ [])) parts in
      let moves : InstrAt code input line m2 (I.Move to value) = record { instr = move_there.0; on_line = move_there.1 } in
      let whole : length (first ++ second) ≡ length first + length second = length-append first second in
      let of_second : length second ≡ length (own line fit) + 1 = ap length split
      ∙ length-append (own line fit) (own line (I.Move to value ∷ [])) in
      let end : m2 + 1 ≡ exit = omega (arith, whole, of_second) in
      let reads = fit_reads p tables code input line m value now range (I.Move to value) fits (move_reads code input line m to value now)
      behind in
      node_runs p code input line 0 at exit now (leaving p code input to r now (ArgIn to k n))
      (bind (ev_expr p input below e v) (λ t x. check_range range x (λ _. one t (wrap x)))) q (omega arith)
      (at_once p tables code input below r line q exit to la at v now (ArgIn to k n) (λ t x. check_range range x (λ _. one t (wrap x)))
      (omega (arith, small)) own_to b e once (stands_front code at first second stands) reads.0 reads.1
      (λ u x t left value_there.
      let bt : Begins p code input r u t = begins p code input la r now u t left in
      let later : List PlainFrame = top_written t to (cell.Int x) in
      let one_more : Left p code input to r t u later = left_temp p code input to r to u t (cell.Int x) (omega arith) own_to bt in
      fit_from p tables code input line 7 m m2 exit t (leaving p code input to r t (ArgIn to k n)) range value x (one u (wrap x)) q fits
      value_there fit_there refl
      (step_from p code input line 6 m2 exit exit to r u t later (ArgIn to k n) (one u (wrap x)) q own_to
      (λ held s is.
      let z = move_step code input line m2 t held s is to value x moves (has_kind p code input r to u t slot.Number kind bt)
      value_there.holds in
      record { to = z.to; silently = z.silently; is = at_address (m2 + 1) exit later held z.to end z.is })
      one_more
      (ends_here p code input line 6 exit to r u later (ArgIn to k n) (wrap x) q (begins p code input to r t u later one_more)
      (record {
        cell = cell.Int x;
        handed = made_of x u later value_there.integer;
        holds =
            holds_temp p code input r to u t (cell.Int x) slot.Number kind bt;
      })))))

  -- a number that goes straight
  straight_arg : (k : ArgKind) (n : ℕ) (wrap : ℤ → ArgValue)
      → ((x : ℤ) (v : Store) (now : List PlainFrame) → is_integer x ≡ true → HandedAs p code v now k n (wrap x) (cell.Int x))
      → (e : Expr) (range : Range) (to la at : ℕ) → own_end p r ≤ to → is_whole range ≡ true → bare e ≡ None
      → RunsTo p tables code input below r line q (λ t. leaving p code input to r t (ValueIn p code input to)) at
      (straight to (expr_code p tables r line at la e)) e
      → NodeFor p code input r line at to (straight to (unless_bare (bare e) (expr_code p tables r line at la e)))
      (λ v. node (bind (ev_expr p input below e v) (λ t x. check_range range x (λ _. one t (wrap x))))) (ArgIn to k n) q
  straight_arg k n wrap made_of e range to la at own_to whole none runs = subst (λ o. NodeFor p code input r line at to
      (straight to (unless_bare o (expr_code p tables r line at la e)))
      (λ v. node (bind (ev_expr p input below e v) (λ t x. check_range range x (λ _. one t (wrap x))))) (ArgIn to k n) q) (sym none)
      (λ stands v now b.
      let exit : ℕ = at + length (straight to (expr_code p tables r line at la e)) in
      node_runs p code input line 0 at exit now (leaving p code input to r now (ArgIn to k n))
      (bind (ev_expr p input below e v) (λ t x. check_range range x (λ _. one t (wrap x)))) q (omega arith)
      (then_from p code input line at exit exit to to r now (ValueIn p code input to) (ArgIn to k n) (ev_expr p input below e v)
      (λ t x. check_range range x (λ _. one t (wrap x))) q (omega arith) own_to (runs stands v now b)
      (λ u x t left value.
      subst (λ z. From p code input line 8 exit exit t (leaving p code input to r t (ArgIn to k n))
      (fault_unless fault.Range z (λ _. one u (wrap x))) q) (sym (whole_within range.low range.high x whole value.integer))
      (ends_here p code input line 8 exit to r u t (ArgIn to k n) (wrap x) q (begins p code input to r now u t left)
      (record { cell = cell.Int x; handed = made_of x u t value.integer; holds = value.holds })))))

  -- what a number asks of its expression: it stands for itself or runs, and goes straight where it may
  pub record ValuePart (at la : ℕ) (e : Expr) (range : Range) : Type 0 where
    pub once : AtOnce p tables code input below r line q at la e
    pub fits : RangeFits p tables code input range
    pub straightly : (to : ℕ) → ends_alone e ≡ true → to ≤ la → own_end p r ≤ to → slice_get (kinds_at code r) to ≡ Some slot.Number
        → RunsTo p tables code input below r line q (λ t. leaving p code input to r t (ValueIn p code input to)) at
        (straight to (expr_code p tables r line at la e)) e

  -- a number, straight or not
  value_arg : (k : ArgKind) (n : ℕ) (wrap : ℤ → ArgValue)
      → ((x : ℤ) (v : Store) (now : List PlainFrame) → is_integer x ≡ true → HandedAs p code v now k n (wrap x) (cell.Int x))
      → (e : Expr) (range : Range) (to la at : ℕ) → to < la → own_end p r ≤ to → slice_get (kinds_at code r) to ≡ Some slot.Number
      → ValuePart at la e range → (z : Bool) → is_straight e range ≡ z
      → NodeFor p code input r line at to (put_code z line to (value_at p tables r la e) (fit_code tables range (value_at p tables r la e))
      (unless_bare (bare e) (expr_code p tables r line at la e)))
      (λ v. node (bind (ev_expr p input below e v) (λ t x. check_range range x (λ _. one t (wrap x))))) (ArgIn to k n) q
  value_arg k n wrap made_of e range to la at small own_to kind part true is =
      let both = and_parts (is_whole range) (ends_alone e) is in
      straight_arg k n wrap made_of e range to la at own_to both.0 (alone_bare e both.1)
      (part.straightly to both.1 (omega (arith, small)) own_to kind)
  value_arg k n wrap made_of e range to la at small own_to kind part false is =
      number_arg k n wrap made_of e range to la at small own_to kind part.fits part.once

  -- a place
  place_arg : (k : ArgKind) (n cells : ℕ) (wrap : Place → ArgValue)
      → ((x : Place) (c : CellPlace) (v : Store) (now : List PlainFrame) → PlaceAlike p code v now cells x c
      → HandedAs p code v now k n (wrap x) (cell.Place c))
      → (d : Desig) (to la at : ℕ) → own_end p r ≤ to
      → NodeFor p code input r line at to (place_code to (desig_code p tables r line at la d)) (ev_desig p input below d)
      (PlaceIn p code input to cells) q
      → NodeFor p code input r line at to (handed_code p tables r (own_place d) line to (desig_code p tables r line at la d))
      (λ v. node (bind (ev_desig p input below d v) (λ t x. one t (wrap x)))) (ArgIn to k n) q
  place_arg k n cells wrap made_of d to la at own_to runs =
      subst (λ c. NodeFor p code input r line at to c (λ v. node (bind (ev_desig p input below d v) (λ t x. one t (wrap x)))) (ArgIn to k n)
      q) (sym (handed_is p tables r to line at la d))
      (λ stands v now b.
      let exit : ℕ = at + length (place_code to (desig_code p tables r line at la d)) in
      node_runs p code input line 0 at exit now (leaving p code input to r now (ArgIn to k n))
      (bind (ev_desig p input below d v) (λ t x. one t (wrap x))) q (omega arith)
      (then_from p code input line at exit exit to to r now (PlaceIn p code input to cells) (ArgIn to k n) (ev_desig p input below d v)
      (λ t x. one t (wrap x)) q (omega arith) own_to (runs stands v now b)
      (λ u x t left place.
      ends_here p code input line 8 exit to r u t (ArgIn to k n) (wrap x) q (begins p code input to r now u t left)
      (record {
        cell = cell.Place place.place;
        handed = made_of x place.place u t (record { same = place.same; numbers = place.numbers; size = place.sized });
        holds = place.holds;
      }))))

  -- what an argument asks of its part
  abbrev pub PlacePart : (at la : ℕ) → Desig → Type 0
  PlacePart at la d = (to : ℕ) → to < la → own_end p r ≤ to → slice_get (kinds_at code r) to ≡ Some (slot.Place (desig_cells d))
      → NodeFor p code input r line at to (place_code to (desig_code p tables r line at la d)) (ev_desig p input below d)
      (PlaceIn p code input to (desig_cells d)) q

  abbrev pub ArgPart : (at la : ℕ) → Arg → Type 0
  ArgPart at la (ByValue e range) = ValuePart at la e range
  ArgPart at la (MixValue e range) = ValuePart at la e range
  ArgPart at la (ByPlace d) = PlacePart at la d
  ArgPart at la (ByCells d) = PlacePart at la d
  ArgPart at la (MixPlace d) = PlacePart at la d

  pub arg_runs : (x : Param) (a : Arg) (to la at : ℕ) → ArgFits x a → HasOneCellAs x.kind x.cells → to < la → own_end p r ≤ to
      → slice_get (kinds_at code r) to ≡ Some (arg_kind a) → ArgPart at la a
      → NodeFor p code input r line at to (arg_code p tables r line at to la a) (ev_arg p input below a) (ArgIn to x.kind x.cells) q
  unfolding ev_stmts
  arg_runs x (ByValue e range) to la at fits one_cell small own_to has part =
      subst (λ k. NodeFor p code input r line at to (arg_code p tables r line at to la (ByValue e range))
      (ev_arg p input below (ByValue e range)) (ArgIn to k x.cells) q) (sym fits)
      (value_arg kind.Value x.cells ArgNumber (λ n v now i. a_value n i) e range to la at small own_to has part (is_straight e range) refl)
  arg_runs x (MixValue e range) to la at fits one_cell small own_to has part =
      subst (λ k. NodeFor p code input r line at to (arg_code p tables r line at to la (MixValue e range))
      (ev_arg p input below (MixValue e range)) (ArgIn to k x.cells) q) (sym fits)
      (value_arg kind.Mix x.cells ArgMix (λ n v now i. mix_value n i) e range to la at small own_to has part (is_straight e range) refl)
  arg_runs x (ByPlace d) to la at fits one_cell small own_to has part =
      let cells : desig_cells d ≡ x.cells = same_cells d ∙ fits.1 in
      subst (λ k. NodeFor p code input r line at to (arg_code p tables r line at to la (ByPlace d)) (ev_arg p input below (ByPlace d))
      (ArgIn to k x.cells) q) (sym fits.0)
      (subst (λ n. NodeFor p code input r line at to (arg_code p tables r line at to la (ByPlace d)) (ev_arg p input below (ByPlace d))
      (ArgIn to kind.Place n) q) cells
      (place_arg kind.Place (desig_cells d) (desig_cells d) ArgPlace (λ y c v now alike. a_place y c alike) d to la at own_to
      (part to small own_to has)))
  arg_runs x (ByCells d) to la at fits one_cell small own_to has part =
      let cells : desig_cells d ≡ x.cells = same_cells d ∙ fits.1 in
      subst (λ k. NodeFor p code input r line at to (arg_code p tables r line at to la (ByCells d)) (ev_arg p input below (ByCells d))
      (ArgIn to k x.cells) q) (sym fits.0)
      (subst (λ n. NodeFor p code input r line at to (arg_code p tables r line at to la (ByCells d)) (ev_arg p input below (ByCells d))
      (ArgIn to kind.Cells n) q) cells
      (place_arg kind.Cells (desig_cells d) (desig_cells d) ArgCells (λ y c v now alike. some_cells y c alike) d to la at own_to
      (part to small own_to has)))
  arg_runs x (MixPlace d) to la at fits one_cell small own_to has part =
      let of_mix : x.cells ≡ 1 = subst (λ k. HasOneCellAs k x.cells) fits.0 one_cell in
      let cells : desig_cells d ≡ 1 = same_cells d ∙ fits.1 ∙ of_mix in
      subst (λ k. NodeFor p code input r line at to (arg_code p tables r line at to la (MixPlace d)) (ev_arg p input below (MixPlace d))
      (ArgIn to k x.cells) q) (sym fits.0)
      (place_arg kind.Mix x.cells (desig_cells d) ArgPlace
      (λ y c v now alike. mix_place y c (subst (λ n. PlaceAlike p code v now n y c) cells alike)) d to la at own_to
      (part to small own_to has))

  -- ---- all arguments

  pub handed_after : (lo : ℕ) (k : ArgKind) (n : ℕ) (a : ArgValue) (c : Cell) (v w : Store) (now later : List PlainFrame)
      → Begins p code input r v now → Left p code input lo r now w later → HandedAs p code v now k n a c → HandedAs p code w later k n a c
  handed_after lo k n a c v w now later b left (a_value x fits) = a_value x fits
  handed_after lo k n a c v w now later b left (mix_value x fits) = mix_value x fits
  handed_after lo k n a d v w now later b left (a_place y c alike) = a_place y c (alike_after n y c alike)
    where
      alike_after : (n : ℕ) (y : Place) (c : CellPlace) → PlaceAlike p code v now n y c → PlaceAlike p code w later n y c
      alike_after n y c h = record {
        same = place_kept p code lo y c v w now later h.numbers.frame b.stand left.fits h.same;
        numbers =
            numbers_kept p code lo y v w now later b.stand left.fits h.numbers;
        size = h.size;
      }
  handed_after lo k n a d v w now later b left (mix_place y c alike) = mix_place y c (alike_after 1 y c alike)
    where
      alike_after : (n : ℕ) (y : Place) (c : CellPlace) → PlaceAlike p code v now n y c → PlaceAlike p code w later n y c
      alike_after n y c h = record {
        same = place_kept p code lo y c v w now later h.numbers.frame b.stand left.fits h.same;
        numbers =
            numbers_kept p code lo y v w now later b.stand left.fits h.numbers;
        size = h.size;
      }
  handed_after lo k n a d v w now later b left (some_cells y c alike) = some_cells y c (alike_after n y c alike)
    where
      alike_after : (n : ℕ) (y : Place) (c : CellPlace) → PlaceAlike p code v now n y c → PlaceAlike p code w later n y c
      alike_after n y c h = record {
        same = place_kept p code lo y c v w now later h.numbers.frame b.stand left.fits h.same;
        numbers =
            numbers_kept p code lo y v w now later b.stand left.fits h.numbers;
        size = h.size;
      }

  -- what stands for arguments, each in a slot of its own
  pub record ArgsHere (to : ℕ) (xs : List Param) (v : Store) (taken : List ArgValue) (now : List PlainFrame) : Type 0 where
    pub cells : List Cell
    pub handed : AllHanded p code v now xs taken cells
    pub there : HeldFrom now to cells

  abbrev pub ArgsIn : (to : ℕ) (xs : List Param) → Store → List ArgValue → List PlainFrame → Type 0
  ArgsIn to xs v taken now = ArgsHere to xs v taken now

  abbrev pub ArgParts : (at to la : ℕ) → Args → Type 0
  ArgParts at to la no_args = Unit {0}
  ArgParts at to la (more_args a rest) = ArgPart at la a
      × ArgParts (at + length (arg_code p tables r line at to la a)) (to + 1) (la + length (arg_slots p r a)) rest

  pub args_run : (args : Args) (xs : List Param) (at to la : ℕ) → ArgsFit xs args → AllByRecursion (λ x. HasOneCellAs x.kind x.cells) xs
      → HasSlots p code r to (handed_slots args) → to + length (handed_slots args) ≤ la → ArgParts at to la args
      → Stands code at (args_code p tables r line at to la args) → (v : Store) (now : List PlainFrame) → Begins p code input r v now
      → Runs code input line at (at + length (args_code p tables r line at to la args)) now (leaving p code input to r now (ArgsIn to xs))
      (ev_args p input below args v) q
  unfolding ev_stmts
  args_run no_args [] at to la fits ones slots room parts stands v now b c le held s is =
      let e : at ≡ at + 0 = omega arith in
      one_goes code input line c 0 (Leaves (at + 0) (leaving p code input to r now (ArgsIn to []))) held v [] s c q (omega arith)
      (record { mode = is.mode; entries = is.entries }) (
        is.here ∙ e,
        subst (λ t. Left p code input to r now v t × ArgsIn to [] v [] t) (sym is.frames)
            (left_self p code input to r v now b, record { cells = []; handed = tt; there = tt }),
      )
  args_run no_args (x ∷ xs) at to la fits ones slots room parts stands v now b c le held s is = absurd fits
  args_run (more_args a rest) [] at to la fits ones slots room parts stands v now b c le held s is = absurd fits
  args_run (more_args a rest) (x ∷ xs) at to la fits ones slots room parts stands v now b c le held s is =
      let first : List LineInstr = arg_code p tables r line at to la a in
      let m : ℕ = at + length first in
      let second : List LineInstr = args_code p tables r line m (to + 1) (la + length (arg_slots p r a)) rest in
      let exit : ℕ = at + length (first ++ second) in
      let whole : length (first ++ second) ≡ length first + length second = length-append first second in
      let end : m + length second ≡ exit = omega (arith, whole) in
      let w : Ways (List ArgValue) = leaving p code input to r now (ArgsIn to (x ∷ xs)) in
      bind_goes code input line c c 0 (Leaves m (leaving p code input to r now (ArgIn to x.kind x.cells))) (Leaves exit w) held
      (ev_arg p input below a v) (λ t taken. bind (ev_args p input below rest t) (λ u others. one u (taken ∷ others))) s c q c
      (omega arith) (omega arith)
      (as_runs p code input line at m now (leaving p code input to r now (ArgIn to x.kind x.cells)) (ev_arg p input below a v) q
      (arg_runs x a to la at fits.0 ones.0 (omega (arith, room)) slots.behind
      (first_kind p code input r to (arg_kind a) (handed_slots rest) slots) parts.0 (stands_front code at first second stands) v now b)
      c le held s is)
      (λ v1 taken t base going left.
      let b1 : Begins p code input r v1 t.now = begins p code input to r now v1 t.now left.1.0 in
      bind_goes code input line c c 0 (Leaves (m + length second) (leaving p code input (to + 1) r t.now (ArgsIn (to + 1) xs)))
      (Leaves exit w) base (ev_args p input below rest v1) (λ u others. one u (taken ∷ others)) t c q c (omega arith) (omega arith)
      (args_run rest xs m (to + 1) (la + length (arg_slots p r a)) fits.1 ones.1
      (slots_behind p code input r to (arg_kind a ∷ []) (handed_slots rest) slots) (omega (arith, room)) parts.1
      (stands_back code at first second stands) v1 t.now b1 c le base t
      (record { mode = going.mode; here = left.0; frames = refl; entries = going.entries }))
      (λ v2 others t2 base2 going2 left2.
      let one_more = left2.1.0 in
      one_goes code input line c 0 (Leaves exit w) base2 v2 (taken ∷ others) t2 c q (omega arith) going2 (
        left2.0 ∙ end,
        (
          left_on p code input to (to + 1) r now v1 v2 t.now t2.now (omega arith) left.1.0 one_more,
          record {
            cells = left.1.1.cell ∷ left2.1.1.cells;
            handed = (
              handed_after (to + 1) x.kind x.cells taken left.1.1.cell v1 v2 t.now t2.now b1 one_more left.1.1.handed,
              left2.1.1.handed,
            );
            there = (
              holds_after p code input (to + 1) r to left.1.1.cell v1 v2 t.now t2.now b1 slots.behind (omega arith) one_more
                  left.1.1.holds,
              let e : to + 1 ≡ suc to = omega arith in subst (λ n. HeldFrom t2.now n left2.1.1.cells) e left2.1.1.there,
            );
          },
        ),
      ))
      (λ v2 n t2 left2. left2))
      (λ v1 n t left. left)
