-- The forms of expressions, from template to run: constants, variables, sums, comparisons, KNOWN and CHR.
use Rattle.std.proofs.Common.{◌≡◌, ℕ, ◌+◌, ◌<◌, ◌≤◌, Bool, true, false, not, List, [], ◌∷◌, ◌++◌, inl, length, Option, Some, None, refl}
use Rattle.std.proofs.Common.{sym, ap, ◌∙◌, subst, arith, ℤ, pos, append_assoc}
use Rattle.std.specs.Prelude.{slice_get}
use Rattle.std.proofs.lemmas.List.{length-append}
use Rattle.alma_base.specs.declared.fault.RunFault.TheVariants as fault
use Rattle.alma_base.specs.Choice.{if_true}
use Rattle.alma_base.specs.Numbers.{is_integer, is_zero, int_eq, bit}
use Rattle.alma_code.specs.declared.cell.Cell.TheVariants as cell
use Rattle.alma_code.specs.declared.cell.SlotKind.TheVariants as slot
use Rattle.alma_code.specs.declared.instr.Instr.{Instr}
use Rattle.alma_code.specs.declared.instr.Instr.TheVariants as I
use Rattle.alma_code.specs.Lines.{line_at}
use Rattle.alma_code.specs.Picture.{PlainFrame}
use Rattle.alma_code.specs.Plain.{PlainCode, kinds_at}
use Rattle.alma_code.specs.Machine.{act}
use Rattle.alma_ir.specs.declared.phrase.Op.{Op}
use Rattle.alma_ir.specs.declared.phrase.Cmp.{Cmp}
use Rattle.alma_ir.specs.declared.phrase.Cmp.TheVariants as cmp
use Rattle.alma_ir.specs.Tree.{Program, Expr, Links, Desig, Const, Load, Chain, Compare, Truth, Known, Chr, CallExpr, no_links, more_links}
use Rattle.alma_ir.specs.Tree.{Value}
use Rattle.alma_ir.specs.Checked.{desig_cells}
use Rattle.alma_mean.specs.Store.{Store, cell_of, top_cell}
use Rattle.alma_mean.specs.Events.{Events, NoYield, Visit, Fail, one, join, bind}
use Rattle.alma_mean.specs.Arithmetic.{apply_op, apply_sign, compares}
use Rattle.alma_mean.specs.Rows.{read_cell, known_bit}
use Rattle.alma_mean.specs.Meaning.{Level, ev_expr, ev_links, ev_desig, ev_test}
use Rattle.alma_lower_implements.proofs.Goes.{weaker}
use Rattle.alma_lower_implements.proofs.Frames.{own_end, HasSlots, shift}
use Rattle.alma_lower_implements.proofs.BareRow.{ReadsFirst, reads_unknown}
use Rattle.alma_lower_implements.proofs.ExprRows.{first_kind, slots_first, AreVariables}
use Rattle.alma_lower_implements.proofs.ForSteps.{SlotThere, a_number, not_known, slot_there, move_step}
use Rattle.alma_lower_implements.proofs.Numbers.{bit_integer, zero_bit}
use Rattle.alma_lower_implements.proofs.Steps.{Holds, InstrAt, const_step, does, equal_step, zero_jumps, other_goes_on, fail_step}
use Rattle.alma_lower_implements.proofs.Ways.{Ways, Leaves}
use Rattle.alma_lower_templates.specs.LineInstr.{LineInstr, own, in_row}
use Rattle.alma_lower_templates.specs.Tables.{Tables}
use Rattle.alma_lower_templates.specs.Slots.{bare, bare_desig, has_operator, stays, stays_in, taken_from, unless_bare, expr_slots}
use Rattle.alma_lower_templates.specs.Slots.{links_slots, desig_slots, test_slots, mark_slots, is_simple, call_links, handed_slots}
use Rattle.alma_lower_templates.specs.Slots.{args_slots, behind_expr, behind_value}
use Rattle.alma_lower_templates.specs.Pieces.{op_code, cmp_code, unequal_code, straight, neg_code}
use Rattle.alma_lower_templates.specs.Templates.{expr_code, links_code, held_at, slot_or, value_at, load_by}
use Rattle.alma_lower_templates.specs.Stands.{Stands}
use Rattle.alma_lower_templates.proofs.Stands.{stands_front, stands_back}
use Rattle.alma_lower_templates.proofs.Parts.{Begins, begins, has_kind, holds_after, value_after, IsValue, ValueIn, PlaceIn, Nothing}
use Rattle.alma_lower_templates.proofs.Parts.{NodeRuns, NodeFor, From, leaving, leaving_carries, from_more, node_runs, then_from, then_ways}
use Rattle.alma_lower_templates.proofs.Parts.{value_then, alone_from, faults_here, fails_here, ends_here, value_ends, value_goes_on}
use Rattle.alma_lower_templates.proofs.Tested.{operands_code, compared_code}
use Rattle.alma_lower_templates.proofs.AtOnce.{AtOnce, BareFits, at_once, at_once_ways}
use Rattle.alma_lower_templates.proofs.Fields.{load_runs as bare_runs}
use Rattle.alma_lower_templates.proofs.First.{ReadsBoth, second_reads, ConstantFits, stays_is, both_from}
use Rattle.alma_lower_templates.proofs.OperatorParts.{op_reads, neg_reads, equal_reads, cmp_reads, op_from, sign_from, compare_ends}
use Rattle.alma_lower_templates.proofs.CellEnds.{load_to, known_ends}
use Rattle.alma_lower_templates.proofs.Destinations.{Destination, first_takes}
use Rattle.alma_lower_templates.proofs.Straight.{ends_code, put_by, ends_same, straight_ends, straight_behind, straight_last, some_links}
use Rattle.alma_lower_templates.proofs.RangeChecks.{past_from}
use Rattle.alma_lower_templates.proofs.FormRuns.{held_code, ExprRuns, HeldRuns, TestRuns}

module _ (p : Program) (code : PlainCode) (input : List ℕ) (r : ℕ) where
  -- the first slot of an expression is for its value
  pub first_slot : (lo : ℕ) (x : Expr) → HasSlots p code r lo (expr_slots p r x) → slice_get (kinds_at code r) lo ≡ Some slot.Number
  first_slot lo (Const n) h = first_kind p code input r lo slot.Number [] h
  first_slot lo (Load d) h = first_kind p code input r lo slot.Number (unless_bare (bare_desig d) (desig_slots p r d)) h
  first_slot lo (Chain negated x links) h = first_slot lo x (slots_first p code input r lo (expr_slots p r x) (links_slots p r links) h)
  first_slot lo (Compare how x y) h = first_slot lo x
      (slots_first p code input r lo (expr_slots p r x) (unless_bare (bare y) (expr_slots p r y)) h)
  first_slot lo (Truth t) h = first_kind p code input r lo slot.Number (mark_slots (is_simple t) ++ test_slots p r t) h
  first_slot lo (Known d) h = first_kind p code input r lo slot.Number (desig_slots p r d) h
  first_slot lo (Chr x) h = first_slot lo x h
  first_slot lo (CallExpr called args up) h =
      first_kind p code input r lo slot.Number (slot.Mark ∷ (call_links p r called up ++ (handed_slots args ++ args_slots p r args))) h

  -- and it has one
  pub some_slots : (x : Expr) → 0 < length (expr_slots p r x)
  some_slots (Const n) = omega arith
  some_slots (Load d) = omega arith
  some_slots (Chain negated x links) = omega (arith, some_slots x, length-append (expr_slots p r x) (links_slots p r links))
  some_slots (Compare how x y) = omega (arith, some_slots x, length-append (expr_slots p r x) (unless_bare (bare y) (expr_slots p r y)))
  some_slots (Truth t) = omega arith
  some_slots (Known d) = omega arith
  some_slots (Chr x) = some_slots x
  some_slots (CallExpr called args up) = omega arith

module _ (p : Program) (tables : Tables) (code : PlainCode) (input : List ℕ) (below : Level) (r line q : ℕ) where
  -- an expression that runs to ways of its own
  abbrev pub RunsTo : (w : List PlainFrame → Ways ℤ) → (at : ℕ) → List LineInstr → Expr → Type 0
  RunsTo w at made x = Stands code at made → (v : Store) (now : List PlainFrame) → Begins p code input r v now
      → NodeRuns p code input line at (at + length made) now (w now) (ev_expr p input below x v) q

  -- ---- constants

  pub const_to : (at lo end : ℕ) (n : ℤ) (w : List PlainFrame → Ways ℤ) → is_integer n ≡ true → Destination p code input line q lo r end w
      → RunsTo w at (own line (I.Const end n ∷ [])) (Const n)
  unfolding ev_expr
  const_to at lo end n w integer takes stands v now b =
      node_runs p code input line 8 at (at + 1) now (w now) (one v n) q (omega arith)
      (takes.ends 7 at v now n b integer (λ held s is. const_step code input line at now held s is end n
      (record { instr = stands.0; on_line = stands.1 }) (takes.kind v now b)))

  pub const_runs : (at lo : ℕ) (n : ℤ) → is_integer n ≡ true → HasSlots p code r lo (slot.Number ∷ [])
      → ExprRuns p tables code input below r line q at lo (Const n)
  const_runs at lo n integer slots = const_to at lo lo n (λ t. leaving p code input lo r t (ValueIn p code input lo)) integer
      (first_takes p code input line q lo r slots.behind (first_kind p code input r lo slot.Number [] slots))

  -- ---- variables

  -- one of the routine is moved
  move_reads : (at lo from : ℕ) (now : List PlainFrame) → InstrAt code input line at (I.Move lo from) → ReadsFirst code input at from now
  unfolding act
  move_reads at lo from now i held s is = (_, does code input line at now held s (I.Move lo from) is i)

  move_from : (at lo from : ℕ) (v : Store) (now : List PlainFrame) → own_end p r ≤ lo → slice_get (kinds_at code r) lo ≡ Some slot.Number
      → AreVariables p code input r from 1 → InstrAt code input line at (I.Move lo (shift p r + from)) → Begins p code input r v now
      → From p code input line 8 at (at + 1) now (leaving p code input lo r now (ValueIn p code input lo))
      (read_cell (top_cell v from) (λ n. one v n)) q
  move_from at lo from v now behind kind variable i b = by (slot_there p code input r from variable v now b.stand b.routine)
    where
      by : SlotThere p code input v now from (shift p r + from)
          → From p code input line 8 at (at + 1) now (leaving p code input lo r now (ValueIn p code input lo))
          (read_cell (top_cell v from) (λ n. one v n)) q
      by (a_number x e hold integer) =
          subst (λ c. From p code input line 8 at (at + 1) now (leaving p code input lo r now (ValueIn p code input lo))
          (read_cell c (λ n. one v n)) q) (sym e)
          (value_ends p code input line 7 at lo r v now x q behind kind integer b
          (λ held s is. move_step code input line at now held s is lo (shift p r + from) x i
          (has_kind p code input r lo v now slot.Number kind b) hold))
      by (not_known e hold) =
          subst (λ c. From p code input line 8 at (at + 1) now (leaving p code input lo r now (ValueIn p code input lo))
          (read_cell c (λ n. one v n)) q) (sym e)
          (faults_here p code input line 7 at (at + 1) now (leaving p code input lo r now (ValueIn p code input lo)) fault.Unknown q
          (λ held s is. reads_unknown code input line at (shift p r + from) now held s (move_reads at lo (shift p r + from) now i) is
          i.on_line hold))

  -- the number at a place
  load_by_place : (at lo end : ℕ) (d : Desig) (w : List PlainFrame → Ways ℤ) → Destination p code input line q lo r end w
      → HeldRuns p tables code input below r line q at (lo + 1) d → desig_cells d ≡ 1
      → RunsTo w at (held_code p tables r line at (lo + 1) d ++ own line (I.Load end (held_at p tables r (lo + 1) d) ∷ [])) (Load d)
  unfolding ev_expr
  load_by_place at lo end d w takes held cells stands v now b =
      let inner : List LineInstr = held_code p tables r line at (lo + 1) d in
      let m : ℕ = at + length inner in
      let from : ℕ = held_at p tables r (lo + 1) d in
      let last : List LineInstr = own line (I.Load end from ∷ []) in
      let back = stands_back code at inner last stands in
      let whole : length (inner ++ last) ≡ length inner + 1 = length-append inner last in
      let exit_is : m + 1 ≡ at + length (inner ++ last) = omega (arith, whole) in
      subst (λ n. NodeRuns p code input line at n now (w now) (ev_expr p input below (Load d) v) q) exit_is
      (node_runs p code input line 0 at (m + 1) now (w now)
      (bind (ev_desig p input below d v) (λ t a. read_cell (cell_of t a) (λ n. one t n))) q (omega arith)
      (then_ways p code input line at m (m + 1) lo (lo + 1) r now (PlaceIn p code input from (desig_cells d)) w
      (ev_desig p input below d v) (λ t a. read_cell (cell_of t a) (λ n. one t n)) q (omega arith) takes.carries
      (held.runs (stands_front code at inner last stands) v now b)
      (λ u a t left place. load_to p code input line q m lo r from (desig_cells d) u t a (omega (arith, cells))
      (begins p code input (lo + 1) r now u t left) place end w takes (record { instr = back.0; on_line = back.1 }))))

  -- whatever variable it is
  load_of : (at lo : ℕ) (d : Desig) (o : Option ℕ) → bare_desig d ≡ o → BareFits p tables code input below r line q o
      → (o ≡ None → HeldRuns p tables code input below r line q at (lo + 1) d) → desig_cells d ≡ 1
      → HasSlots p code r lo (slot.Number ∷ unless_bare o (desig_slots p r d))
      → NodeFor p code input r line at lo (unless_bare o (held_code p tables r line at (lo + 1) d)
      ++ own line (load_by p tables r o lo d ∷ [])) (ev_expr p input below (Load d)) (ValueIn p code input lo) q
  unfolding ev_expr
  load_of at lo d None e fits held cells slots stands v now b =
      let takes = first_takes p code input line q lo r slots.behind (first_kind p code input r lo slot.Number (desig_slots p r d) slots) in
      load_by_place at lo lo d (λ t. leaving p code input lo r t (ValueIn p code input lo)) takes (held refl) cells stands v now b
  load_of at lo d (Some from) e fits held cells slots stands v now b =
      let kind = first_kind p code input r lo slot.Number [] slots in
      let w = leaving p code input lo r now (ValueIn p code input lo) in
      bare_runs p code input line at (at + 1) now w below v from q (Load d) e
      (λ size. node_runs p code input line 8 at (at + 1) now w (Visit (Visit (join (read_cell (top_cell v from) (λ n. one v n)) Fail))) q
      (omega arith)
      (λ held s here. weaker code input line 0 24 (Leaves (at + 1) w) held (join (read_cell (top_cell v from) (λ n. one v n)) Fail) s 72 8 q
      q (omega arith) (omega arith)
      (alone_from p code input line 8 at (at + 1) now w (read_cell (top_cell v from) (λ n. one v n)) q
      (move_from at lo from v now slots.behind kind fits (record { instr = stands.0; on_line = stands.1 }) b) held s here)))

  pub load_runs : (at lo : ℕ) (d : Desig) → BareFits p tables code input below r line q (bare_desig d)
      → (bare_desig d ≡ None → HeldRuns p tables code input below r line q at (lo + 1) d) → desig_cells d ≡ 1
      → HasSlots p code r lo (expr_slots p r (Load d)) → ExprRuns p tables code input below r line q at lo (Load d)
  load_runs at lo d fits held cells slots = load_of at lo d (bare_desig d) refl fits held cells slots

  -- the number at a place, into any slot
  pub load_straight : (at lo end : ℕ) (d : Desig) (w : List PlainFrame → Ways ℤ) → bare_desig d ≡ None
      → HeldRuns p tables code input below r line q at (lo + 1) d → desig_cells d ≡ 1
      → Destination p code input line q lo r end w
      → RunsTo w at (straight end (expr_code p tables r line at lo (Load d))) (Load d)
  load_straight at lo end d w none held cells takes =
      let inner : List LineInstr = held_code p tables r line at (lo + 1) d in
      let there : straight end (expr_code p tables r line at lo (Load d)) ≡ inner
      ++ own line (I.Load end (held_at p tables r (lo + 1) d) ∷ []) =
      ap (λ o. straight end (unless_bare o inner ++ own line (load_by p tables r o lo d ∷ []))) none
      ∙ straight_last end line inner (I.Load lo (held_at p tables r (lo + 1) d)) in
      subst (λ c. RunsTo w at c (Load d)) (sym there) (load_by_place at lo end d w takes held cells)

  -- ---- sums and products

  -- the operators behind a value that stands in the slot `to`, of which the last puts its value into the slot `end`
  abbrev pub LinksRun : (end : ℕ) (w : List PlainFrame → Ways ℤ) → (at to lo : ℕ) → Links → Type 0
  LinksRun end w at to lo no_links = Unit {0}
  LinksRun end w at to lo (more_links how x rest) =
      Stands code at (ends_code p tables r end line at to to lo (more_links how x rest)) → (v : Store) (now : List PlainFrame) (n : ℤ)
      → Begins p code input r v now → IsValue p code input to n now
      → From p code input line 0 at (at + length (ends_code p tables r end line at to to lo (more_links how x rest))) now (w now)
      (ev_links p input below (more_links how x rest) n v) q

  -- an operator, and those behind it
  operator_then : (m next end to lo first operand : ℕ) (w : List PlainFrame → Ways ℤ) (how : Op) (rest : Links)
      → Destination p code input line q to r end w → next ≡ m + 1 → own_end p r ≤ to → slice_get (kinds_at code r) to ≡ Some slot.Number
      → InstrAt code input line m (op_code how (put_by rest to end) first operand)
      → Stands code next (ends_code p tables r end line next to to lo rest) → LinksRun end w next to lo rest
      → (u : Store) (t : List PlainFrame) (n y : ℤ) → Begins p code input r u t → IsValue p code input first n t
      → IsValue p code input operand y t
      → From p code input line 8 m (next + length (ends_code p tables r end line next to to lo rest)) t (w t)
      (bind (apply_op u how n y) (λ x z. ev_links p input below rest z x)) q
  unfolding ev_expr
  operator_then m next end to lo first operand w how no_links takes here behind kind i stands others u t n y b value operand_value =
      let exit_is : m + 1 ≡ next + 0 = omega (arith, here) in
      subst (λ e. From p code input line 8 m e t (w t) (bind (apply_op u how n y) (λ x z. one x z)) q) exit_is
      (op_from p code input line q end u t (takes.kind u t b) m (m + 1) (w t) (λ x z. one x z) how first operand n y i value.holds
      operand_value
      (λ z integer writes. takes.ends 7 m u t z b integer writes))
  operator_then m next end to lo first operand w how (more_links how2 x2 rest) takes here behind kind i stands others u t n y b value
      operand_value =
      let links : Links = more_links how2 x2 rest in
      let exit : ℕ = next + length (ends_code p tables r end line next to to lo links) in
      op_from p code input line q to u t (has_kind p code input r to u t slot.Number kind b) m exit (w t)
      (λ x z. ev_links p input below links z x) how first operand n y i value.holds operand_value
      (λ z integer writes.
      value_then p code input line 7 m exit to r u t z w (ev_links p input below links z u) q behind kind integer b takes.carries writes
      (λ t2 left2 value2.
      subst (λ a. From p code input line 7 a exit t2 (w t2) (ev_links p input below links z u) q) here
      (from_more p code input line 0 7 next exit t2 (w t2) (ev_links p input below links z u) q (omega arith)
      (others stands u t2 z (begins p code input to r t u t2 left2) value2))))

  pub more_links_run : (at end to lo : ℕ) (w : List PlainFrame → Ways ℤ) (how : Op) (x : Expr) (rest : Links)
      → Destination p code input line q to r end w → to < lo → own_end p r ≤ to → slice_get (kinds_at code r) to ≡ Some slot.Number
      → AtOnce p tables code input below r line q at lo x → ((next : ℕ) → LinksRun end w next to (behind_value p r lo x) rest)
      → LinksRun end w at to lo (more_links how x rest)
  unfolding ev_expr
  more_links_run at end to lo w how x rest takes lt behind kind once others stands v now n b value =
      let put : ℕ = put_by rest to end in
      let inner : List LineInstr = unless_bare (bare x) (expr_code p tables r line at lo x) in
      let operand : ℕ = value_at p tables r lo x in
      let last : List LineInstr = own line (op_code how put to operand ∷ []) in
      let m : ℕ = at + length inner in
      let next : ℕ = at + length (inner ++ last) in
      let after : List LineInstr = ends_code p tables r end line next to to (behind_value p r lo x) rest in
      let front = stands_front code at (inner ++ last) after stands in
      let back = stands_back code at inner last front in
      let i : InstrAt code input line m (op_code how put to operand) = record { instr = back.0; on_line = back.1 } in
      let both : length (inner ++ last) ≡ length inner + 1 = length-append inner last in
      let whole : length ((inner ++ last) ++ after) ≡ length (inner ++ last) + length after = length-append (inner ++ last) after in
      let here : next ≡ m + 1 = omega (arith, both) in
      let exit_is : next + length after ≡ at + length ((inner ++ last) ++ after) = omega (arith, whole) in
      subst (λ e. From p code input line 0 at e now (w now) (ev_links p input below (more_links how x rest) n v) q) exit_is
      (at_once_ways p tables code input below r line q (next + length after) to lo at v now w
      (λ t y. bind (apply_op t how n y) (λ u z. ev_links p input below rest z u)) (omega (arith, lt)) takes.carries b x once
      (stands_front code at inner last front) i.on_line ((op_reads code input line put how m to operand now i).other n value.holds)
      (λ u y t left operand_value.
      operator_then m next end to (behind_value p r lo x) to operand w how rest takes here behind kind i
      (stands_back code at (inner ++ last) after stands) (others next) u t n y (begins p code input lo r now u t left)
      (value_after p code input lo r to n v u now t b behind lt left value) operand_value))

  -- what is needed of an operand behind a first one
  pub record NextRuns (la : ℕ) (y : Expr) : Type 0 where
    pub once : (at : ℕ) → AtOnce p tables code input below r line q at la y
    pub constants : ConstantFits p tables code input below r line q y
    pub slots : HasSlots p code r la (unless_bare (bare y) (expr_slots p r y))

  -- and of the operators behind it
  abbrev pub OthersRun : (end : ℕ) (w : List PlainFrame → Ways ℤ) → (to la : ℕ) → Links → Type 0
  OthersRun end w to la no_links = Unit {0}
  OthersRun end w to la (more_links how y rest) = NextRuns la y × ((next : ℕ) → LinksRun end w next to (behind_value p r la y) rest)

  pub next_kind : (la : ℕ) (y : Expr) → HasSlots p code r la (unless_bare (bare y) (expr_slots p r y)) → bare y ≡ None
      → slice_get (kinds_at code r) la ≡ Some slot.Number
  next_kind la y slots none = first_slot p code input r la y
      (subst (λ o. HasSlots p code r la (unless_bare o (expr_slots p r y))) none slots)

  -- the operators behind a first operand that does not stay
  behind_run : (at end lo la : ℕ) (w : List PlainFrame → Ways ℤ) (links : Links) → Destination p code input line q lo r end w → lo < la
      → own_end p r ≤ lo → slice_get (kinds_at code r) lo ≡ Some slot.Number → OthersRun end w lo la links → LinksRun end w at lo la links
  behind_run at end lo la w no_links takes lt behind kind others = tt
  behind_run at end lo la w (more_links how y rest) takes lt behind kind others =
      more_links_run at end lo la w how y rest takes lt behind kind (others.0.once at) others.1

  -- a first operand that stays, its operator and the next operand
  stays_run : (at end lo la : ℕ) (w : List PlainFrame → Ways ℤ) (how : Op) (x y : Expr) (rest : Links) (from : ℕ) → stays x y ≡ Some from
      → Destination p code input line q lo r end w → lo < la → own_end p r ≤ lo → slice_get (kinds_at code r) lo ≡ Some slot.Number
      → BareFits p tables code input below r line q (bare x) → OthersRun end w lo la (more_links how y rest)
      → Stands code at (ends_code p tables r end line at (shift p r + from) lo la (more_links how y rest))
      → (v : Store) (now : List PlainFrame) → Begins p code input r v now
      → From p code input line 0 at (at + length (ends_code p tables r end line at (shift p r + from) lo la (more_links how y rest))) now
      (w now)
      (bind (ev_expr p input below x v) (λ t n. bind (apply_sign false t n) (λ u z. ev_links p input below (more_links how y rest) z u))) q
  unfolding ev_expr
  stays_run at end lo la w how x y rest from e takes lt behind kind fits others stands v now b =
      let s = stays_is x y from e in
      let put : ℕ = put_by rest lo end in
      let first : ℕ = shift p r + from in
      let inner : List LineInstr = unless_bare (bare y) (expr_code p tables r line at la y) in
      let operand : ℕ = value_at p tables r la y in
      let last : List LineInstr = own line (op_code how put first operand ∷ []) in
      let m : ℕ = at + length inner in
      let next : ℕ = at + length (inner ++ last) in
      let after : List LineInstr = ends_code p tables r end line next lo lo (behind_value p r la y) rest in
      let front = stands_front code at (inner ++ last) after stands in
      let back = stands_back code at inner last front in
      let i : InstrAt code input line m (op_code how put first operand) = record { instr = back.0; on_line = back.1 } in
      let both : length (inner ++ last) ≡ length inner + 1 = length-append inner last in
      let whole : length ((inner ++ last) ++ after) ≡ length (inner ++ last) + length after = length-append (inner ++ last) after in
      let here : next ≡ m + 1 = omega (arith, both) in
      let exit_is : next + length after ≡ at + length ((inner ++ last) ++ after) = omega (arith, whole) in
      let exit : ℕ = next + length after in
      subst (λ a. From p code input line 0 at a now (w now)
      (bind (ev_expr p input below x v) (λ t n. bind (apply_sign false t n)
      (λ u z. ev_links p input below (more_links how y rest) z u))) q) exit_is
      (both_from p tables code input below r line q exit lo la from v now w
      (λ t n z. bind (apply_op t how n z) (λ u x2. ev_links p input below rest x2 u)) (omega (arith, lt)) behind takes.carries b
      (subst (BareFits p tables code input below r line q) s.first fits)
      at x y s (others.0.once at).fits others.0.constants (next_kind la y others.0.slots) (stands_front code at inner last front)
      (record {
        on_line = i.on_line;
        reads = λ t. inl (op_reads code input line put how m first operand t i);
        goes = λ n z t left value value2. operator_then m next end lo (behind_value p r la y) first operand w how rest takes here behind
            kind i (stands_back code at (inner ++ last) after stands) (others.1 next) v t n z (begins p code input lo r now v t left) value
            value2;
      })
      (λ t n. bind (apply_sign false t n) (λ u z. ev_links p input below (more_links how y rest) z u))
      (λ n goes. alone_from p code input line 8 at exit now (w now) (ev_links p input below (more_links how y rest) n v) q goes))

  -- a chain whose first operand has code or not and stays or not, and of which the last operator puts its value into the slot `end`
  abbrev chain_code : (taken stays : Option ℕ) → (at end lo : ℕ) → Bool → Expr → Links → List LineInstr
  chain_code taken stays at end lo negated x links =
      in_row at (unless_bare taken (expr_code p tables r line at lo x) ++ own line (neg_code negated lo (value_at p tables r lo x)))
      (λ next. ends_code p tables r end line next (slot_or p tables r stays lo) lo (behind_expr p r lo x) links)

  -- the value behind the sign is the whole, or operators follow
  abbrev Follows : (end lo la : ℕ) (w : List PlainFrame → Ways ℤ) → Links → Type 0
  Follows end lo la w links =
      (at : ℕ) → Stands code at (ends_code p tables r end line at lo lo la links) → (v : Store) (now : List PlainFrame) (n : ℤ)
      → Begins p code input r v now → IsValue p code input lo n now
      → From p code input line 0 at (at + length (ends_code p tables r end line at lo lo la links)) now (w now)
      (ev_links p input below links n v) q

  -- where there is no sign, and the first operand does not stay
  chain_of : (at end lo : ℕ) (w : List PlainFrame → Ways ℤ) (x : Expr) (links : Links) → Destination p code input line q lo r end w
      → HasSlots p code r lo (expr_slots p r (Chain false x links)) → ExprRuns p tables code input below r line q at lo x
      → Follows end lo (behind_expr p r lo x) w links → RunsTo w at (chain_code None None at end lo false x links) (Chain false x links)
  unfolding ev_expr
  chain_of at end lo w x links takes slots runs others stands v now b =
      let inner : List LineInstr = expr_code p tables r line at lo x in
      let m : ℕ = at + length inner in
      let next : ℕ = at + length (inner ++ []) in
      let after : List LineInstr = ends_code p tables r end line next lo lo (behind_expr p r lo x) links in
      let front = stands_front code at (inner ++ []) after stands in
      let both : length (inner ++ []) ≡ length inner + 0 = length-append inner [] in
      let whole : length ((inner ++ []) ++ after) ≡ length (inner ++ []) + length after = length-append (inner ++ []) after in
      let here : next ≡ m = omega (arith, both) in
      let exit_is : next + length after ≡ at + length ((inner ++ []) ++ after) = omega (arith, whole) in
      let exit : ℕ = next + length after in
      subst (λ e. NodeRuns p code input line at e now (w now) (ev_expr p input below (Chain false x links) v) q) exit_is
      (node_runs p code input line 0 at exit now (w now)
      (bind (ev_expr p input below x v) (λ t n. bind (apply_sign false t n) (λ u y. ev_links p input below links y u))) q (omega arith)
      (then_ways p code input line at m exit lo lo r now (ValueIn p code input lo) w (ev_expr p input below x v)
      (λ t n. bind (apply_sign false t n) (λ u y. ev_links p input below links y u)) q (omega arith) takes.carries
      (runs (stands_front code at inner [] front) v now b)
      (λ u n t left value.
      alone_from p code input line 8 m exit t (w t) (ev_links p input below links n u) q
      (subst (λ a. From p code input line 8 a exit t (w t) (ev_links p input below links n u) q) here
      (from_more p code input line 0 8 next exit t (w t) (ev_links p input below links n u) q (omega arith)
      (others next (stands_back code at (inner ++ []) after stands) u t n (begins p code input lo r now u t left) value))))))

  -- where there is a sign: it takes the first operand, which may be a variable
  signed_of : (at end lo : ℕ) (w : List PlainFrame → Ways ℤ) (x : Expr) (links : Links) → Destination p code input line q lo r end w
      → HasSlots p code r lo (expr_slots p r (Chain true x links)) → AtOnce p tables code input below r line q at lo x
      → Follows end lo (behind_expr p r lo x) w links → RunsTo w at (chain_code (bare x) None at end lo true x links) (Chain true x links)
  unfolding ev_expr
  signed_of at end lo w x links takes slots once others stands v now b =
      let kind = first_slot p code input r lo (Chain true x links) slots in
      let inner : List LineInstr = unless_bare (bare x) (expr_code p tables r line at lo x) in
      let from : ℕ = value_at p tables r lo x in
      let sign : List LineInstr = own line (I.Neg lo from ∷ []) in
      let m : ℕ = at + length inner in
      let next : ℕ = at + length (inner ++ sign) in
      let after : List LineInstr = ends_code p tables r end line next lo lo (behind_expr p r lo x) links in
      let front = stands_front code at (inner ++ sign) after stands in
      let back = stands_back code at inner sign front in
      let i : InstrAt code input line m (I.Neg lo from) = record { instr = back.0; on_line = back.1 } in
      let both : length (inner ++ sign) ≡ length inner + 1 = length-append inner sign in
      let whole : length ((inner ++ sign) ++ after) ≡ length (inner ++ sign) + length after = length-append (inner ++ sign) after in
      let here : next ≡ m + 1 = omega (arith, both) in
      let exit_is : next + length after ≡ at + length ((inner ++ sign) ++ after) = omega (arith, whole) in
      let exit : ℕ = next + length after in
      subst (λ e. NodeRuns p code input line at e now (w now) (ev_expr p input below (Chain true x links) v) q) exit_is
      (node_runs p code input line 0 at exit now (w now)
      (bind (ev_expr p input below x v) (λ t n. bind (apply_sign true t n) (λ u y. ev_links p input below links y u))) q (omega arith)
      (at_once_ways p tables code input below r line q exit lo lo at v now w
      (λ t n. bind (apply_sign true t n) (λ u y. ev_links p input below links y u)) (omega arith) takes.carries b x once
      (stands_front code at inner sign front) i.on_line (neg_reads code input line lo m from now i)
      (λ u n t left value.
      sign_from p code input line q lo r slots.behind kind u t (begins p code input lo r now u t left) m exit from w
      (λ x2 y. ev_links p input below links y x2) n takes.carries i value
      (λ z t2 left2 value2.
      subst (λ a. From p code input line 7 a exit t2 (w t2) (ev_links p input below links z u) q) here
      (from_more p code input line 0 7 next exit t2 (w t2) (ev_links p input below links z u) q (omega arith)
      (others next (stands_back code at (inner ++ sign) after stands) u t2 z (begins p code input lo r t u t2 left2) value2))))))

  -- where the first operand stays
  stays_of : (at end lo : ℕ) (w : List PlainFrame → Ways ℤ) (x : Expr) (links : Links) (from : ℕ) → stays_in false x links ≡ Some from
      → Destination p code input line q lo r end w → HasSlots p code r lo (expr_slots p r (Chain false x links))
      → BareFits p tables code input below r line q (bare x) → OthersRun end w lo (behind_expr p r lo x) links
      → RunsTo w at (chain_code (Some from) (Some from) at end lo false x links) (Chain false x links)
  unfolding ev_expr
  stays_of at end lo w x no_links from e takes slots fits others stands v now b = absurd (cc)
  stays_of at end lo w x (more_links how y rest) from e takes slots fits others stands v now b =
      let lo2 : ℕ = behind_expr p r lo x in
      let first : ℕ = shift p r + from in
      let kind = first_slot p code input r lo (Chain false x (more_links how y rest)) slots in
      let zero : at + 0 ≡ at = omega arith in
      let there : Stands code at (ends_code p tables r end line at first lo lo2 (more_links how y rest)) =
      subst (λ m. Stands code at (ends_code p tables r end line m first lo lo2 (more_links how y rest))) zero stands in
      let k : Store → ℤ → Events ℤ = λ t n. bind (apply_sign false t n) (λ u z. ev_links p input below (more_links how y rest) z u) in
      subst (λ m. NodeRuns p code input line at (at + length (ends_code p tables r end line m first lo lo2 (more_links how y rest))) now
      (w now) (ev_expr p input below (Chain false x (more_links how y rest)) v) q) (sym zero)
      (node_runs p code input line 0 at (at + length (ends_code p tables r end line at first lo lo2 (more_links how y rest))) now (w now)
      (bind (ev_expr p input below x v) k) q (omega arith)
      (stays_run at end lo lo2 w how x y rest from e takes (omega (arith, some_slots p code input r x)) slots.behind kind fits others there
      v now b))

  chain_by : (at end lo : ℕ) (w : List PlainFrame → Ways ℤ) (negated : Bool) (x : Expr) (links : Links)
      → Destination p code input line q lo r end w → HasSlots p code r lo (expr_slots p r (Chain negated x links))
      → ExprRuns p tables code input below r line q at lo x → BareFits p tables code input below r line q (bare x)
      → Follows end lo (behind_expr p r lo x) w links → OthersRun end w lo (behind_expr p r lo x) links
      → RunsTo w at (chain_code (taken_from negated x links) (stays_in negated x links) at end lo negated x links) (Chain negated x links)
  chain_by at end lo w true x links takes slots runs fits all others =
      signed_of at end lo w x links takes slots (record { fits = fits; runs = λ none. runs }) all
  chain_by at end lo w false x links takes slots runs fits all others = by (stays_in false x links) refl
    where
      by : (o : Option ℕ) → stays_in false x links ≡ o → RunsTo w at (chain_code o o at end lo false x links) (Chain false x links)
      by None e = chain_of at end lo w x links takes slots runs all
      by (Some from) e = stays_of at end lo w x links from e takes slots fits others

  -- operators that are some follow in any ways, and none only where the value stands already
  some_follow : (end lo la : ℕ) (w : List PlainFrame → Ways ℤ) (links : Links) → has_operator links ≡ true
      → ((at : ℕ) → LinksRun end w at lo la links) → Follows end lo la w links
  some_follow end lo la w no_links e all at stands v now n b value = absurd (let bad : false ≡ true = e in cc)
  some_follow end lo la w (more_links how y rest) e all at stands v now n b value = all at stands v now n b value

  all_follow : (lo la : ℕ) (links : Links)
      → ((at : ℕ) → LinksRun lo (λ t. leaving p code input lo r t (ValueIn p code input lo)) at lo la links)
      → Follows lo lo la (λ t. leaving p code input lo r t (ValueIn p code input lo)) links
  unfolding ev_expr
  all_follow lo la no_links all at stands v now n b value =
      let zero : at ≡ at + 0 = omega arith in
      subst (λ m. From p code input line 0 at m now (leaving p code input lo r now (ValueIn p code input lo)) (one v n) q) zero
      (ends_here p code input line 0 at lo r v now (ValueIn p code input lo) n q b value)
  all_follow lo la (more_links how y rest) all at stands v now n b value = all at stands v now n b value

  pub chain_runs : (at lo : ℕ) (negated : Bool) (x : Expr) (links : Links) → HasSlots p code r lo (expr_slots p r (Chain negated x links))
      → ExprRuns p tables code input below r line q at lo x → BareFits p tables code input below r line q (bare x)
      → OthersRun lo (λ t. leaving p code input lo r t (ValueIn p code input lo)) lo (behind_expr p r lo x) links
      → ExprRuns p tables code input below r line q at lo (Chain negated x links)
  chain_runs at lo negated x links slots runs fits others =
      let la : ℕ = behind_expr p r lo x in
      let kind = first_slot p code input r lo (Chain negated x links) slots in
      let w : List PlainFrame → Ways ℤ = λ t. leaving p code input lo r t (ValueIn p code input lo) in
      let takes = first_takes p code input line q lo r slots.behind kind in
      let front : List LineInstr = unless_bare (taken_from negated x links) (expr_code p tables r line at lo x)
      ++ own line (neg_code negated lo (value_at p tables r lo x)) in
      let is = ap (λ c. front ++ c)
      (ends_same p tables r line (at + length front) (slot_or p tables r (stays_in negated x links) lo) lo la links) in
      subst (λ c. RunsTo w at c (Chain negated x links)) (sym is)
      (chain_by at lo lo w negated x links takes slots runs fits
      (all_follow lo la links (λ next. behind_run next lo lo la w links takes (omega (arith, some_slots p code input r x)) slots.behind
      kind others)) others)

  -- the last operator puts its value into any slot
  pub chain_straight : (at lo end : ℕ) (w : List PlainFrame → Ways ℤ) (negated : Bool) (x : Expr) (links : Links)
      → has_operator links ≡ true → Destination p code input line q lo r end w
      → HasSlots p code r lo (expr_slots p r (Chain negated x links)) → ExprRuns p tables code input below r line q at lo x
      → BareFits p tables code input below r line q (bare x) → OthersRun end w lo (behind_expr p r lo x) links
      → RunsTo w at (straight end (expr_code p tables r line at lo (Chain negated x links))) (Chain negated x links)
  chain_straight at lo end w negated x no_links e takes slots runs fits others = absurd (let bad : false ≡ true = e in cc)
  chain_straight at lo end w negated x (more_links how y rest) e takes slots runs fits others =
      let links : Links = more_links how y rest in
      let la : ℕ = behind_expr p r lo x in
      let kind = first_slot p code input r lo (Chain negated x links) slots in
      let first : ℕ = slot_or p tables r (stays_in negated x links) lo in
      let front : List LineInstr = unless_bare (taken_from negated x links) (expr_code p tables r line at lo x)
      ++ own line (neg_code negated lo (value_at p tables r lo x)) in
      let next : ℕ = at + length front in
      let is = straight_behind end front (links_code p tables r line next first lo la links)
      (some_links p tables r line next first lo la how y rest)
      ∙ ap (λ c. front ++ c) (straight_ends p tables r end line next first lo la how y rest) in
      subst (λ c. RunsTo w at c (Chain negated x links)) (sym is)
      (chain_by at end lo w negated x links takes slots runs fits
      (some_follow end lo la w links e (λ m. behind_run m end lo la w links takes (omega (arith, some_slots p code input r x))
      slots.behind kind others)) others)

  -- ---- comparisons

  -- instructions behind both operands, which yield what is said of the comparison
  module _ (at lo : ℕ) (how : Cmp) (x y : Expr) (yields : Store → ℤ → List PlainFrame → Type 0) (instrs : (first operand : ℕ) → List Instr)
      (slots : HasSlots p code r lo (expr_slots p r (Compare how x y))) (next : NextRuns (behind_expr p r lo x) y)
      (lines : (m first operand : ℕ) → Stands code m (own line (instrs first operand)) → line_at code m ≡ line)
      (reads : (m first operand : ℕ) (t : List PlainFrame) → Stands code m (own line (instrs first operand))
      → ReadsBoth code input m first operand t)
      (ends : (m first operand : ℕ) (n z : ℤ) (u : Store) (t : List PlainFrame) → Begins p code input r u t
      → Stands code m (own line (instrs first operand)) → Holds t first (cell.Int n) → Holds t operand (cell.Int z)
      → From p code input line 8 m (m + length (own line (instrs first operand))) t (leaving p code input lo r t yields)
      (one u (bit (compares how n z))) q) where
    abbrev Compared : Option ℕ → Type 0
    Compared o = NodeFor p code input r line at lo
        (operands_code p tables r o line at lo x y
        ++ own line (instrs (slot_or p tables r o lo) (value_at p tables r (behind_expr p r lo x) y)))
        (ev_expr p input below (Compare how x y)) yields q

    compared_of : ExprRuns p tables code input below r line q at lo x → Compared None
    unfolding ev_expr
    compared_of runs stands v now b =
        let lo2 : ℕ = behind_expr p r lo x in
        let lt : lo < lo2 = omega (arith, some_slots p code input r x) in
        let first : List LineInstr = expr_code p tables r line at lo x in
        let m : ℕ = at + length first in
        let second : List LineInstr = unless_bare (bare y) (expr_code p tables r line m lo2 y) in
        let operand : ℕ = value_at p tables r lo2 y in
        let last : List LineInstr = own line (instrs lo operand) in
        let front = stands_front code at (first ++ second) last stands in
        let both : length (first ++ second) ≡ length first + length second = length-append first second in
        let whole : length ((first ++ second) ++ last) ≡ length (first ++ second) + length last = length-append (first ++ second) last in
        let m2 : ℕ = m + length second in
        let here : at + length (first ++ second) ≡ m2 = omega (arith, both) in
        let compares_at : Stands code m2 last = subst (λ n. Stands code n last) here (stands_back code at (first ++ second) last stands) in
        let exit : ℕ = m2 + length last in
        let end : exit ≡ at + length ((first ++ second) ++ last) = omega (arith, both, whole) in
        let w = leaving p code input lo r now yields in
        subst (λ e. NodeRuns p code input line at e now w (ev_expr p input below (Compare how x y) v) q) end
        (node_runs p code input line 0 at exit now w
        (bind (ev_expr p input below x v) (λ t n. bind (ev_expr p input below y t) (λ u z. one u (bit (compares how n z))))) q
        (omega arith)
        (then_from p code input line at m exit lo lo r now (ValueIn p code input lo) yields (ev_expr p input below x v)
        (λ t n. bind (ev_expr p input below y t) (λ u z. one u (bit (compares how n z)))) q (omega arith) slots.behind
        (runs (stands_front code at first second front) v now b)
        (λ u n t left value.
        let b1 = begins p code input lo r now u t left in
        from_more p code input line 0 8 m exit t (leaving p code input lo r t yields)
        (bind (ev_expr p input below y u) (λ x2 z. one x2 (bit (compares how n z)))) q (omega arith)
        (at_once p tables code input below r line q exit lo lo2 m u t yields (λ x2 z. one x2 (bit (compares how n z))) (omega (arith, lt))
        slots.behind b1 y (next.once m)
        (stands_back code at first second front) (lines m2 lo operand compares_at)
        (second_reads code input m2 lo operand t n (reads m2 lo operand t compares_at) value.holds)
        (λ u2 z t2 left2 value2.
        ends m2 lo operand n z u2 t2 (begins p code input lo2 r t u2 t2 left2) compares_at
        (holds_after p code input lo2 r lo (cell.Int n) u u2 t t2 b1 slots.behind lt left2 value.holds) value2.holds)))))

    -- where the first operand stays
    compared_stays : (from : ℕ) → stays x y ≡ Some from → BareFits p tables code input below r line q (bare x) → Compared (Some from)
    unfolding ev_expr
    compared_stays from e fits stands v now b =
        let s = stays_is x y from e in
        let lo2 : ℕ = behind_expr p r lo x in
        let first : ℕ = shift p r + from in
        let operand : ℕ = value_at p tables r lo2 y in
        let last : List LineInstr = own line (instrs first operand) in
        let zero : at + 0 ≡ at = omega arith in
        let second : List LineInstr = unless_bare (bare y) (expr_code p tables r line at lo2 y) in
        let there : Stands code at (second ++ last) =
        subst (λ m. Stands code at (unless_bare (bare y) (expr_code p tables r line m lo2 y) ++ last)) zero stands in
        let m : ℕ = at + length second in
        let compares_at : Stands code m last = stands_back code at second last there in
        let exit : ℕ = m + length last in
        let whole : length (second ++ last) ≡ length second + length last = length-append second last in
        let end : exit ≡ at + length (second ++ last) = omega (arith, whole) in
        let w = leaving p code input lo r now yields in
        let k : Store → ℤ → Events ℤ = λ t n. bind (ev_expr p input below y t) (λ u z. one u (bit (compares how n z))) in
        subst (λ n. NodeRuns p code input line at (at + length (unless_bare (bare y) (expr_code p tables r line n lo2 y) ++ last)) now w
        (ev_expr p input below (Compare how x y) v) q) (sym zero)
        (subst (λ n. NodeRuns p code input line at n now w (ev_expr p input below (Compare how x y) v) q) end
        (node_runs p code input line 0 at exit now w (bind (ev_expr p input below x v) k) q (omega arith)
        (both_from p tables code input below r line q exit lo lo2 from v now (λ t. leaving p code input lo r t yields)
        (λ u n z. one u (bit (compares how n z))) (omega arith) slots.behind (leaving_carries p code input lo r yields) b
        (subst (BareFits p tables code input below r line q) s.first fits)
        at x y s (next.once at).fits next.constants (next_kind lo2 y next.slots) (stands_front code at second last there)
        (record {
          on_line = lines m first operand compares_at;
          reads = λ t. reads m first operand t compares_at;
          goes = λ n z t left value value2. ends m first operand n z v t (begins p code input lo r now v t left) compares_at value.holds
              value2.holds;
        })
        k (λ n goes. goes))))

    compared_on : (o : Option ℕ) → stays x y ≡ o → ExprRuns p tables code input below r line q at lo x
        → BareFits p tables code input below r line q (bare x) → Compared o
    compared_on None e runs fits = compared_of runs
    compared_on (Some from) e runs fits = compared_stays from e fits

    pub compared_by : ExprRuns p tables code input below r line q at lo x → BareFits p tables code input below r line q (bare x)
        → Compared (stays x y)
    compared_by runs fits = compared_on (stays x y) refl runs fits

  pub compare_runs : (at lo : ℕ) (how : Cmp) (x y : Expr) → HasSlots p code r lo (expr_slots p r (Compare how x y))
      → ExprRuns p tables code input below r line q at lo x → BareFits p tables code input below r line q (bare x)
      → NextRuns (behind_expr p r lo x) y → ExprRuns p tables code input below r line q at lo (Compare how x y)
  compare_runs at lo how x y slots runs fits next =
      let kind = first_slot p code input r lo (Compare how x y) slots in
      compared_by at lo how x y (ValueIn p code input lo) (λ first operand. cmp_code how lo first operand) slots next
      (λ m first operand i. cmp_line how first operand m i)
      (λ m first operand t i. cmp_reads code input line lo how m first operand t i)
      (λ m first operand n z u t b i hx hy. compare_ends p code input line q lo r slots.behind kind u t b how m first operand n z i hx hy)
      runs fits
    where
      cmp_line : (how : Cmp) (first operand n : ℕ) → Stands code n (own line (cmp_code how lo first operand)) → line_at code n ≡ line
      cmp_line cmp.Equal first operand n i = i.1
      cmp_line cmp.Unequal first operand n i = i.1
      cmp_line cmp.Less first operand n i = i.1
      cmp_line cmp.LessEq first operand n i = i.1
      cmp_line cmp.Greater first operand n i = i.1
      cmp_line cmp.GreaterEq first operand n i = i.1

  -- ---- a test of inequality

  -- the contrary of a number stands in a slot
  abbrev pub ContraryIn : (lo : ℕ) → Store → ℤ → List PlainFrame → Type 0
  ContraryIn lo v n t = IsValue p code input lo (bit (is_zero n)) t

  -- where they are equal it fails, and else it goes over the failure
  unequal_ends : (z : Bool) (at lo : ℕ) (v : Store) (now : List PlainFrame) → InstrAt code input line at (I.JumpZero lo (at + 2))
      → InstrAt code input line (at + 1) I.Fail → IsValue p code input lo (bit z) now → Begins p code input r v now
      → From p code input line 8 at (at + 2) now (leaving p code input lo r now (Nothing p code input))
      (if_true z (λ _. Fail) (λ _. one v tt)) q
  unequal_ends true at lo v now i j h b =
      past_from p tables code input below r line q 7 at (at + 1) (at + 2) now (leaving p code input lo r now (Nothing p code input)) Fail
      (λ held s is. let w = other_goes_on code input line at now held s is lo (at + 2) (pos 1) i h.holds refl in
      record { to = w.to; silently = w.silently; is = w.is })
      (fails_here p code input line 6 (at + 1) (at + 2) now (leaving p code input lo r now (Nothing p code input)) q
      (λ held s is. let w = fail_step code input line (at + 1) now held s is j in (w.to, w.silently, w.is)))
  unequal_ends false at lo v now i j h b =
      past_from p tables code input below r line q 7 at (at + 2) (at + 2) now (leaving p code input lo r now (Nothing p code input))
      (one v tt)
      (λ held s is. let w = zero_jumps code input line at now held s is lo (at + 2) (pos 0) i h.holds refl in
      record { to = w.to; silently = w.silently; is = w.is })
      (ends_here p code input line 7 (at + 2) lo r v now (Nothing p code input) tt q b tt)

  pub unequal_runs : (at lo : ℕ) (x y : Expr) → HasSlots p code r lo (expr_slots p r (Compare cmp.Unequal x y))
      → ExprRuns p tables code input below r line q at lo x → BareFits p tables code input below r line q (bare x)
      → NextRuns (behind_expr p r lo x) y → TestRuns p tables code input below r line q at lo (Value (Compare cmp.Unequal x y))
  unfolding ev_expr
  unequal_runs at lo x y slots runs fits next stands v now b =
      let kind = first_slot p code input r lo (Compare cmp.Unequal x y) slots in
      let operands : List LineInstr = compared_code p tables r line at lo x y in
      let operand : ℕ = value_at p tables r (behind_expr p r lo x) y in
      let first : ℕ = slot_or p tables r (stays x y) lo in
      let equal : List LineInstr = own line (I.Equal lo first operand ∷ []) in
      let m : ℕ = at + length operands in
      let last : List LineInstr = own line (I.JumpZero lo (m + 3) ∷ I.Fail ∷ []) in
      let there : Stands code at ((operands ++ equal) ++ last) = subst (Stands code at) (sym (append_assoc operands equal last)) stands in
      let long : length (operands ++ equal) ≡ length operands + 1 = length-append operands equal in
      let whole : length (operands ++ own line (unequal_code lo first operand m)) ≡ length operands + 3 =
      length-append operands (own line (unequal_code lo first operand m)) in
      let n2 : ℕ = at + length (operands ++ equal) in
      let over : m + 3 ≡ n2 + 2 = omega (arith, long) in
      let back = subst (λ k. Stands code n2 (own line (I.JumpZero lo k ∷ I.Fail ∷ []))) over
      (stands_back code at (operands ++ equal) last there) in
      let end : n2 + 2 ≡ at + length (operands ++ own line (unequal_code lo first operand m)) = omega (arith, long, whole) in
      let w = leaving p code input lo r now (Nothing p code input) in
      let k : Store → ℤ → Events NoYield = λ t n. if_true (is_zero n) (λ _. Fail) (λ _. one t tt) in
      subst (λ e. NodeRuns p code input line at e now w (ev_test p input below (Value (Compare cmp.Unequal x y)) v) q) end
      (node_runs p code input line 0 at (n2 + 2) now w (bind (ev_expr p input below (Compare cmp.Unequal x y) v) k) q (omega arith)
      (then_from p code input line at n2 (n2 + 2) lo lo r now (ContraryIn lo) (Nothing p code input)
      (ev_expr p input below (Compare cmp.Unequal x y) v) k q (omega arith) slots.behind
      (compared_by at lo cmp.Unequal x y (ContraryIn lo) (λ a o. I.Equal lo a o ∷ []) slots next (λ n a o i. i.1)
      (λ n a o t i. inl (equal_reads code input line lo n a o t (record { instr = i.0; on_line = i.1 })))
      (λ n a o y2 z u t b2 i hx hy. contrary_ends kind n a o y2 z u t b2 i hx hy) runs fits
      (stands_front code at (operands ++ equal) last there) v now b)
      (λ u n t left value. unequal_ends (is_zero n) n2 lo u t (record { instr = back.0; on_line = back.1 })
      (record { instr = back.2.0; on_line = back.2.1 }) value (begins p code input lo r now u t left))))
    where
      not_twice : (t : Bool) → not (not t) ≡ t
      not_twice true = refl
      not_twice false = refl

      contrary_ends : slice_get (kinds_at code r) lo ≡ Some slot.Number → (n a o : ℕ) (y2 z : ℤ) (u : Store) (t : List PlainFrame)
          → Begins p code input r u t → Stands code n (own line (I.Equal lo a o ∷ [])) → Holds t a (cell.Int y2) → Holds t o (cell.Int z)
          → From p code input line 8 n (n + 1) t (leaving p code input lo r t (ContraryIn lo)) (one u (bit (compares cmp.Unequal y2 z))) q
      contrary_ends kind n a o y2 z u t b2 i hx hy =
          let same : bit (is_zero (bit (not (int_eq y2 z)))) ≡ bit (int_eq y2 z) =
          ap bit (zero_bit (not (int_eq y2 z)) ∙ not_twice (int_eq y2 z)) in
          value_goes_on p code input line 7 n (n + 1) lo r u t (bit (int_eq y2 z)) (ContraryIn lo) (one u (bit (not (int_eq y2 z)))) q
          slots.behind kind (bit_integer (int_eq y2 z)) b2
          (λ held s is. equal_step code input line n t held s is lo a o y2 z (record { instr = i.0; on_line = i.1 })
          (has_kind p code input r lo u t slot.Number kind b2) hx hy)
          (λ t2 left value. ends_here p code input line 7 (n + 1) lo r u t2 (ContraryIn lo) (bit (not (int_eq y2 z))) q
          (begins p code input lo r t u t2 left) (subst (λ c. IsValue p code input lo c t2) (sym same) value))

  -- ---- KNOWN and CHR

  pub known_runs : (at lo : ℕ) (d : Desig) → HasSlots p code r lo (expr_slots p r (Known d)) → desig_cells d ≡ 1
      → HeldRuns p tables code input below r line q at (lo + 1) d → ExprRuns p tables code input below r line q at lo (Known d)
  unfolding ev_expr
  known_runs at lo d slots cells held stands v now b =
      let inner : List LineInstr = held_code p tables r line at (lo + 1) d in
      let m : ℕ = at + length inner in
      let from : ℕ = held_at p tables r (lo + 1) d in
      let last : List LineInstr = own line (I.Known lo from ∷ []) in
      let back = stands_back code at inner last stands in
      let whole : length (inner ++ last) ≡ length inner + 1 = length-append inner last in
      let end : m + 1 ≡ at + length (inner ++ last) = omega (arith, whole) in
      let kind = first_kind p code input r lo slot.Number (desig_slots p r d) slots in
      let w = leaving p code input lo r now (ValueIn p code input lo) in
      subst (λ n. NodeRuns p code input line at n now w (ev_expr p input below (Known d) v) q) end
      (node_runs p code input line 0 at (m + 1) now w (bind (ev_desig p input below d v) (λ t a. one t (known_bit (cell_of t a)))) q
      (omega arith)
      (then_from p code input line at m (m + 1) lo (lo + 1) r now (PlaceIn p code input from (desig_cells d))
      (ValueIn p code input lo) (ev_desig p input below d v) (λ t a. one t (known_bit (cell_of t a))) q (omega arith) slots.behind
      (held.runs (stands_front code at inner last stands) v now b)
      (λ u a t left place. known_ends p code input line q m lo r from (desig_cells d) u t a
      (omega (arith, cells)) (begins p code input (lo + 1) r now u t left) place slots.behind kind
      (record { instr = back.0; on_line = back.1 }))))
