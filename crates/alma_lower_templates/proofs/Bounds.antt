-- The bounds of a loop: the step, the limit in its slot, and then the first count, so that both are set at one point.
use Rattle.std.proofs.Common.{◌≡◌, ◌≢◌, ℕ, zero, suc, ◌+◌, ◌-◌, ◌<◌, ◌≤◌, Bool, true, false, List, [], ◌∷◌, ◌++◌, length, get_or, Option}
use Rattle.std.proofs.Common.{Some, None, refl, sym, ap, ◌∙◌, subst, arith, ℤ, pos, negsuc}
use Rattle.std.specs.Prelude.{slice_get}
use Rattle.std.proofs.lemmas.List.{length-append, set_comm}
use Rattle.alma_base.specs.Choice.{if_true}
use Rattle.alma_base.specs.Numbers.{is_beyond, is_integer, is_zero}
use Rattle.alma_code.specs.declared.cell.Cell.TheVariants as cell
use Rattle.alma_code.specs.declared.cell.SlotKind.{SlotKind}
use Rattle.alma_code.specs.declared.cell.SlotKind.TheVariants as slot
use Rattle.alma_code.specs.declared.instr.Instr.TheVariants as I
use Rattle.alma_code.specs.Picture.{PlainFrame, PlainEntry}
use Rattle.alma_code.specs.Plain.{PlainCode, kinds_at}
use Rattle.alma_code.specs.Machine.{State, act}
use Rattle.alma_ir.specs.Tree.{Program, Expr, Const, Load, Chain, Compare, Truth, Known, Chr, CallExpr}
use Rattle.alma_mean.specs.Store.{Store, Cell, Number, put, put_top, top, top_frame, top_cell, no_frame}
use Rattle.alma_mean.specs.Events.{Events, NoYield, bind}
use Rattle.alma_mean.specs.Rows.{begin_loop}
use Rattle.alma_mean.specs.Meaning.{Level, ev_expr}
use Rattle.alma_lower_implements.proofs.Goes.{before, and_then, bind_goes}
use Rattle.alma_lower_implements.proofs.Frames.{shift, own_end, HasSlots, IsAt}
use Rattle.alma_lower_implements.proofs.FrameLemmas.{put_long}
use Rattle.alma_lower_implements.proofs.BareRow.{ReadsFirst}
use Rattle.alma_lower_implements.proofs.ExprRows.{AreVariables, first_kind}
use Rattle.alma_lower_implements.proofs.ForSteps.{entered, entered_is, slot_within, slot_has_kind, number_there, top_put, top_put_other}
use Rattle.alma_lower_implements.proofs.ForSteps.{move_step}
use Rattle.alma_lower_implements.proofs.Steps.{top_written, Holds, HasKind, InstrAt, Writes, does, const_step, less_eq_step}
use Rattle.alma_lower_implements.proofs.Ways.{Leaves}
use Rattle.alma_lower_templates.specs.LineInstr.{LineInstr, own}
use Rattle.alma_lower_templates.specs.Tables.{Tables}
use Rattle.alma_lower_templates.specs.Pieces.{straight, count_from, unless_constant, limit_code, entry_code}
use Rattle.alma_lower_templates.specs.Pieces.{begin_loop as loop_begins}
use Rattle.alma_lower_templates.specs.Slots.{bare, unless_bare, constant, ends_alone, expr_slots, behind_expr}
use Rattle.alma_lower_templates.specs.Stands.{Stands}
use Rattle.alma_lower_templates.specs.Templates.{expr_code, value_at}
use Rattle.alma_lower_templates.proofs.Stands.{stands_front, stands_back}
use Rattle.alma_lower_templates.proofs.AtOnce.{AtOnce, at_once_ways}
use Rattle.alma_lower_templates.proofs.Destinations.{into}
use Rattle.alma_lower_templates.proofs.ExprForms.{RunsTo, some_slots}
use Rattle.alma_lower_templates.proofs.First.{ConstantFits, constant_from}
use Rattle.alma_lower_templates.proofs.FormRuns.{ExprRuns}
use Rattle.alma_lower_templates.proofs.Parts.{Begins, begins, Left, left_self, left_on, left_less, left_temp, has_kind, holds_temp}
use Rattle.alma_lower_templates.proofs.Parts.{holds_after, value_after, IsValue, ValueIn, node_here, From, Carries, ending}
use Rattle.alma_lower_templates.proofs.Parts.{from_more, from_ending, then_ending, step_ways, writes_take}
use Rattle.alma_lower_templates.proofs.Straight.{alone_bare, put_count}
use Rattle.alma_lower_templates.proofs.Targets.{left_variable}

-- ---- a store in which two cells of the frame on top are put

put_swap : (v : Store) (f m n : ℕ) (c d : Cell) → m ≢ n → put (put v f m c) f n d ≡ put (put v f n d) f m c
put_swap [] f m n c d apart = refl
put_swap (g ∷ v) zero m n c d apart = ap (λ cells. record g { cells = cells } ∷ v) (set_comm g.cells m n c d apart)
put_swap (g ∷ v) (suc f) m n c d apart = ap (λ w. g ∷ w) (put_swap v f m n c d apart)

same_top : (v : Store) (n : ℕ) (c : Cell) → top (put_top v n c) ≡ top v
same_top v n c = ap (λ k. k - 1) (put_count v (top v) n c)

-- which of the two is put first does not matter
top_swap : (v : Store) (m n : ℕ) (c d : Cell) → m ≢ n → put_top (put_top v m c) n d ≡ put_top (put_top v n d) m c
top_swap v m n c d apart =
    ap (λ k. put (put_top v m c) k n d) (same_top v m c) ∙ put_swap v (top v) m n c d apart
    ∙ sym (ap (λ k. put (put_top v n d) k m c) (same_top v n d))

-- what was put is there
top_held : (v : Store) (n : ℕ) (c : Cell) → 1 ≤ length (put_top v n c) → n < length (top_frame (put_top v n c)).cells
    → top_cell (put_top v n c) n ≡ c
top_held v n c some there =
    let count : length (put_top v n c) ≡ length v = put_count v (top v) n c in
    let long : length (top_frame (put_top v n c)).cells ≡ length (top_frame v).cells =
    put_long v (top v) n (top (put_top v n c)) c (omega (arith, some, count))
    ∙ ap (λ k. length (get_or v k no_frame).cells) (same_top v n c) in
    top_put v n c (omega (arith, some, count)) (omega (arith, there, long))

-- ---- a first count that is a constant

pub constant_is : (x : Expr) (n : ℤ) → constant x ≡ Some n → x ≡ Const n
constant_is (Const m) n e = let same : m ≡ n = cc in ap Const same
constant_is (Load d) n e = absurd (cc)
constant_is (Chain negated x links) n e = absurd (cc)
constant_is (Compare how x y) n e = absurd (cc)
constant_is (Truth t) n e = absurd (cc)
constant_is (Known d) n e = absurd (cc)
constant_is (Chr x) n e = absurd (cc)
constant_is (CallExpr q args up) n e = absurd (cc)

-- whether there is a turn: 0 where the first count is beyond the limit
entry_step : (code : PlainCode) (input : List ℕ) (line at : ℕ) (now : List PlainFrame) (held : List PlainEntry) (s : State)
    → IsAt at now held s → (by : ℤ) (to counter limit : ℕ) (x y : ℤ)
    → InstrAt code input line at (entry_code by to counter limit) → HasKind now to slot.Number → Holds now counter (cell.Int x)
    → Holds now limit (cell.Int y) → Writes code input at now held s to (cell.Int (entered by x y))
entry_step code input line at now held s h (pos step) to counter limit x y i kind hx hy =
    less_eq_step code input line at now held s h to counter limit x y i kind hx hy
entry_step code input line at now held s h (negsuc step) to counter limit x y i kind hx hy =
    less_eq_step code input line at now held s h to limit counter y x i kind hy hx

module _ (p : Program) (tables : Tables) (code : PlainCode) (input : List ℕ) (below : Level) (r line q : ℕ) (may : Bool) where
  -- ---- the first count

  -- it is a constant, or stands in its slot
  abbrev pub FirstIs : Option ℤ → (place : ℕ) → ℤ → List PlainFrame → Type 0
  FirstIs (Some m) place n now = (n ≡ m) × (is_integer n ≡ true)
  FirstIs None place n now = IsValue p code input place n now

  first_integer : (o : Option ℤ) (place : ℕ) (n : ℤ) (now : List PlainFrame) → FirstIs o place n now → is_integer n ≡ true
  first_integer (Some m) place n now h = h.1
  first_integer None place n now h = h.integer

  first_after : (o : Option ℤ) (lo place : ℕ) (n : ℤ) (v w : Store) (now later : List PlainFrame) → Begins p code input r v now
      → own_end p r ≤ place → place < lo → Left p code input lo r now w later → FirstIs o place n now → FirstIs o place n later
  first_after (Some m) lo place n v w now later b behind lt left h = h
  first_after None lo place n v w now later b behind lt left h =
      value_after p code input lo r place n v w now later b behind lt left h

  first_from : (o : Option ℤ) (at exit lo : ℕ) (x : Expr) (v : Store) (now : List PlainFrame) (k : Store → ℤ → Events NoYield)
      → constant x ≡ o → ConstantFits p tables code input below r line q x → own_end p r ≤ lo
      → ExprRuns p tables code input below r line q at lo x
      → Stands code at (unless_constant o (expr_code p tables r line at lo x)) → Begins p code input r v now
      → ((u : Store) (n : ℤ) (t : List PlainFrame) → Left p code input lo r now u t → FirstIs o lo n t
      → From p code input line 8 (at + length (unless_constant o (expr_code p tables r line at lo x))) exit t
      (ending p code input may lo r t) (k u n) q)
      → From p code input line 0 at exit now (ending p code input may lo r now) (bind (ev_expr p input below x v) k) q
  first_from None at exit lo x v now k e fits behind runs stands b later =
      then_ending p code input may line at (at + length (expr_code p tables r line at lo x)) exit lo lo r now (ValueIn p code input lo)
      (ev_expr p input below x v) k q (omega arith) behind (runs stands v now b) later
  first_from (Some m) at exit lo x v now k e fits behind runs stands b later =
      let is : x ≡ Const m = constant_is x m e in
      let w = ending p code input may lo r now in
      let zero : at + 0 ≡ at = omega arith in
      subst (λ y. From p code input line 0 at exit now w (bind (ev_expr p input below y v) k) q) (sym is)
      (constant_from p tables code input below r line q at exit m v now w k
      (from_more p code input line 8 9 at exit now w (k v m) q (omega arith)
      (subst (λ a. From p code input line 8 a exit now w (k v m) q) zero
      (later v m now (left_self p code input lo r v now b) (refl, fits m is)))))

  -- it goes to the counter by one step
  count_step : (o : Option ℤ) (at counter place : ℕ) (n : ℤ) (now : List PlainFrame)
      → InstrAt code input line at (count_from o counter place) → HasKind now counter slot.Number → FirstIs o place n now
      → (held : List PlainEntry) (s : State) → IsAt at now held s → Writes code input at now held s counter (cell.Int n)
  count_step (Some m) at counter place n now i kind h held s is =
      const_step code input line at now held s is counter n (subst (λ x. InstrAt code input line at (I.Const counter x)) (sym h.0) i) kind
  count_step None at counter place n now i kind h held s is = move_step code input line at now held s is counter place n i kind h.holds

  -- ---- the limit

  -- it stands for itself or runs, and goes straight into its slot where it may
  pub record LimitRuns (at lo limit : ℕ) (x : Expr) : Type 0 where
    pub once : AtOnce p tables code input below r line q at lo x
    pub straightly : ends_alone x ≡ true → RunsTo p tables code input below r line q (into p code input limit lo r) at
        (straight (shift p r + limit) (expr_code p tables r line at lo x)) x

  ending_carries : (lo : ℕ) → own_end p r ≤ lo → Carries p code input lo r (λ t. ending p code input may lo r t)
  ending_carries lo own = record {
    goes = λ v now t left x y u h. left_on p code input lo lo r now v x t u (omega arith) left h;
    returns =
        λ v now t left x n a u h. (
          h.0,
          left_on p code input (own_end p r) (own_end p r) r now v x t u (omega arith)
              (left_less p code input (own_end p r) lo r now v t own left) h.1,
          h.2,
        );
  }

  move_reads : (at to from : ℕ) (now : List PlainFrame) → InstrAt code input line at (I.Move to from) → ReadsFirst code input at from now
  unfolding act
  move_reads at to from now i held s is = (_, does code input line at now held s (I.Move to from) is i)

  -- the code of a limit
  abbrev limit_made : (z : Bool) (at lo limit : ℕ) → Expr → List LineInstr
  limit_made z at lo limit x =
      limit_code z line (shift p r + limit) (value_at p tables r lo x) (unless_bare (bare x) (expr_code p tables r line at lo x))

  limit_from : (z : Bool) (at exit lo la limit : ℕ) (x : Expr) (v : Store) (now : List PlainFrame) (k : Store → ℤ → Events NoYield)
      → ends_alone x ≡ z → lo ≤ la → own_end p r ≤ lo → AreVariables p code input r limit 1 → LimitRuns at la limit x
      → Stands code at (limit_made z at la limit x) → Begins p code input r v now
      → ((u : Store) (l : ℤ) (t : List PlainFrame) → Left p code input la r now (put_top u limit (Number l)) t
      → From p code input line 7 (at + length (limit_made z at la limit x)) exit t (ending p code input may lo r t) (k u l) q)
      → From p code input line 0 at exit now (ending p code input may lo r now) (bind (ev_expr p input below x v) k) q
  limit_from true at exit lo la limit x v now k e le behind of_limit runs stands b later =
      let made : List LineInstr = expr_code p tables r line at la x in
      let to : ℕ = shift p r + limit in
      let same : straight to (unless_bare (bare x) made) ≡ straight to made =
      ap (λ o. straight to (unless_bare o made)) (alone_bare x e) in
      let m : ℕ = at + length (straight to made) in
      let w = into p code input limit la r now in
      λ held s is.
      bind_goes code input line 8 0 24 (Leaves m w) (Leaves exit (ending p code input may lo r now)) held (ev_expr p input below x v) k s 0
      q 8 (omega arith) (omega arith)
      (node_here p code input line at m now w (ev_expr p input below x v) q
      (runs.straightly e (subst (Stands code at) same stands) v now b) held s is)
      (λ u n t base going left.
      let v1 : Store = put_top u limit (Number n) in
      from_ending p code input may line 8 m exit lo lo r v1 now t.now (k u n) q (omega arith) behind
      (left_less p code input lo la r now v1 t.now le left.1.0)
      (from_more p code input line 7 8 m exit t.now (ending p code input may lo r t.now) (k u n) q (omega arith)
      (subst (λ c. From p code input line 7 (at + length c) exit t.now (ending p code input may lo r t.now) (k u n) q) same
      (later u n t.now left.1.0))) base t
      (record { mode = going.mode; here = left.0; frames = refl; entries = going.entries }))
      (λ u n t left. absurd left)
  limit_from false at exit lo la limit x v now k e le behind of_limit runs stands b later =
      let inner : List LineInstr = unless_bare (bare x) (expr_code p tables r line at la x) in
      let to : ℕ = shift p r + limit in
      let value : ℕ = value_at p tables r la x in
      let m : ℕ = at + length inner in
      let move : List LineInstr = own line (I.Move to value ∷ []) in
      let back = stands_back code at inner move stands in
      let i : InstrAt code input line m (I.Move to value) = record { instr = back.0; on_line = back.1 } in
      let long : length (inner ++ move) ≡ length inner + 1 = length-append inner move in
      let end : at + length (inner ++ move) ≡ m + 1 = omega (arith, long) in
      let ways = λ (t : List PlainFrame). ending p code input may lo r t in
      at_once_ways p tables code input below r line q exit lo la at v now ways k le (ending_carries lo behind) b x runs.once
      (stands_front code at inner move stands) i.on_line (move_reads m to value now i)
      (λ u n t left there.
      let b1 = begins p code input la r now u t left in
      let t2 : List PlainFrame = top_written t to (cell.Int n) in
      let v1 : Store = put_top u limit (Number n) in
      let left2 : Left p code input la r t v1 t2 = left_variable p code input la r limit u t n of_limit there.integer b1 in
      step_ways p code input line 7 m (m + 1) exit lo r v1 t t2 ways (k u n) q (ending_carries lo behind)
      (writes_take p code input m to t (cell.Int n) (λ held s is. move_step code input line m t held s is to value n i
      (slot_has_kind p code input r limit of_limit u t b1.stand b1.routine) there.holds))
      (left_less p code input lo la r t v1 t2 le left2)
      (subst (λ a. From p code input line 7 a exit t2 (ways t2) (k u n) q) end
      (later u n t2 (left_on p code input la la r now u v1 t t2 (omega arith) left left2))))

  -- ---- the step, and both

  abbrev pub loop_front : (at lo limit : ℕ) (from to : Expr) (by : ℤ) → List LineInstr
  loop_front at lo limit from to by =
      loop_begins line at lo by (λ at. unless_constant (constant from) (expr_code p tables r line at (lo + 1) from))
      (λ at. limit_made (ends_alone to) at (behind_expr p r (lo + 1) from) limit to)

  -- the step and the limit are set, the first count is there, and what is behind them goes on
  pub front_from : (at exit lo limit : ℕ) (from to : Expr) (by : ℤ) (others : List SlotKind) (rest : Store → ℤ → ℤ → Events NoYield)
      (v : Store) (now : List PlainFrame) → HasSlots p code r lo (slot.Number ∷ (expr_slots p r from ++ (expr_slots p r to ++ others)))
      → AreVariables p code input r limit 1 → ConstantFits p tables code input below r line q from
      → ExprRuns p tables code input below r line q (at + 1) (lo + 1) from
      → ((next : ℕ) → LimitRuns next (behind_expr p r (lo + 1) from) limit to)
      → Stands code at (loop_front at lo limit from to by) → Begins p code input r v now
      → ((w : Store) (t : List PlainFrame) (n l : ℤ) → Begins p code input r (put_top w limit (Number l)) t
      → FirstIs (constant from) (lo + 1) n t → Holds t lo (cell.Int by)
      → From p code input line 7 (at + length (loop_front at lo limit from to by)) exit t (ending p code input may (lo + 1) r t)
      (rest w n l) q)
      → From p code input line 1 at exit now (ending p code input may lo r now)
      (bind (ev_expr p input below from v) (λ t n. bind (ev_expr p input below to t) (λ u l. rest u n l))) q
  front_from at exit lo limit from to by others rest v now slots of_limit fits runs_from_ runs_to stands b later held s is =
      let last : ℕ = behind_expr p r (lo + 1) from in
      let kind0 = first_kind p code input r lo slot.Number (expr_slots p r from ++ (expr_slots p r to ++ others)) slots in
      let above : lo + 1 < last = omega (arith, some_slots p code input r from) in
      let first : List LineInstr = unless_constant (constant from) (expr_code p tables r line (at + 1) (lo + 1) from) in
      let m1 : ℕ = at + 1 + length first in
      let second : List LineInstr = limit_made (ends_alone to) m1 last limit to in
      let next : ℕ = at + length (loop_front at lo limit from to by) in
      let both : length (first ++ second) ≡ length first + length second = length-append first second in
      let here : m1 + length second ≡ next = omega (arith, both) in
      let w = ending p code input may lo r now in
      let t0 : List PlainFrame = top_written now lo (cell.Int by) in
      let left0 : Left p code input lo r now v t0 = left_temp p code input lo r lo v now (cell.Int by) (omega arith) slots.behind b in
      let b0 = begins p code input lo r now v t0 left0 in
      let step0 = holds_temp p code input r lo v now (cell.Int by) slot.Number kind0 b in
      let others_ = λ (t : Store) (n : ℤ). bind (ev_expr p input below to t) (λ x l. rest x n l) in
      let c = const_step code input line at now held s is lo by (record { instr = stands.0; on_line = stands.1 })
      (has_kind p code input r lo v now slot.Number kind0 b) in
      before code input line 0 24 (Leaves exit w) held (bind (ev_expr p input below from v) others_) s c.to 1 1 0 q q c.silently
      (omega arith) (omega arith)
      (from_ending p code input may line 0 (at + 1) exit lo (lo + 1) r v now t0 (bind (ev_expr p input below from v) others_) q
      (omega arith) slots.behind left0
      (first_from (constant from) (at + 1) exit (lo + 1) from v t0 others_ refl fits (omega (arith, slots.behind)) runs_from_
      (stands_front code (at + 1) first second stands.2) b0
      (λ v1 n t1 left1 value1.
      let b1 = begins p code input (lo + 1) r t0 v1 t1 left1 in
      let step1 = holds_after p code input (lo + 1) r lo (cell.Int by) v v1 t0 t1 b0 slots.behind (omega arith) left1 step0 in
      from_more p code input line 0 8 m1 exit t1 (ending p code input may (lo + 1) r t1) (others_ v1 n) q (omega arith)
      (limit_from (ends_alone to) m1 exit (lo + 1) last limit to v1 t1 (λ x l. rest x n l) refl (omega (arith, above))
      (omega (arith, slots.behind)) of_limit (runs_to m1) (stands_back code (at + 1) first second stands.2) b1
      (λ u l t2 left2.
      let v2 : Store = put_top u limit (Number l) in
      subst (λ m. From p code input line 7 m exit t2 (ending p code input may (lo + 1) r t2) (rest u n l) q) (sym here)
      (later u t2 n l (begins p code input last r t1 v2 t2 left2)
      (first_after (constant from) last (lo + 1) n v1 v2 t1 t2 b1 (omega (arith, slots.behind)) above left2 value1)
      (holds_after p code input last r lo (cell.Int by) v1 v2 t1 t2 b1 slots.behind (omega (arith, above)) left2 step1))))))
      held c.to c.is)

  -- behind the limit: the first count is stored, so both bounds are, and it is seen whether there is a turn
  pub bounds_from : (o : Option ℤ) (at exit lo counter limit : ℕ) (by : ℤ) (turn none : Store → Events NoYield) (v : Store)
      (now : List PlainFrame) (n l : ℤ) → own_end p r ≤ lo
      → AreVariables p code input r counter 1 → AreVariables p code input r limit 1 → counter ≢ limit
      → slice_get (kinds_at code r) (lo + 1) ≡ Some slot.Number
      → InstrAt code input line at (count_from o (shift p r + counter) (lo + 1))
      → InstrAt code input line (at + 1) (entry_code by (lo + 1) (shift p r + counter) (shift p r + limit))
      → Begins p code input r (put_top v limit (Number l)) now → FirstIs o (lo + 1) n now → Holds now lo (cell.Int by)
      → ((w : Store) (t : List PlainFrame) → Begins p code input r w t → (x : ℤ) → Holds t (lo + 1) (cell.Int x) → is_zero x ≡ true
      → From p code input line 5 (at + 1 + 1) exit t (ending p code input may (lo + 1) r t) (none w) q)
      → ((w : Store) (t : List PlainFrame) → Begins p code input r w t → top_cell w counter ≡ Number n → top_cell w limit ≡ Number l
      → Holds t lo (cell.Int by) → (x : ℤ) → Holds t (lo + 1) (cell.Int x) → is_zero x ≡ false
      → From p code input line 5 (at + 1 + 1) exit t (ending p code input may (lo + 1) r t) (turn w) q)
      → From p code input line 7 at exit now (ending p code input may (lo + 1) r now) (begin_loop counter limit by n l v turn none) q
  bounds_from o at exit lo counter limit by turn none v now n l behind of_counter of_limit two kind count entry b first step none_runs
      turns =
      let v1 : Store = put_top v limit (Number l) in
      let v2 : Store = put_top v1 counter (Number n) in
      let to : ℕ = shift p r + counter in
      let t1 : List PlainFrame = top_written now to (cell.Int n) in
      let left1 : Left p code input (lo + 1) r now v2 t1 =
      left_variable p code input (lo + 1) r counter v1 now n of_counter (first_integer o (lo + 1) n now first) b in
      let b1 = begins p code input (lo + 1) r now v2 t1 left1 in
      let within = slot_within p code input r counter of_counter v1 now b.stand b.routine in
      let known : top_cell v2 counter ≡ Number n = top_put v1 counter (Number n) b.stand.some within in
      let known_limit : top_cell v2 limit ≡ Number l =
      top_put_other v1 counter limit (Number n) b.stand.some within (λ same. two (sym same))
      ∙ top_held v limit (Number l) b.stand.some (slot_within p code input r limit of_limit v1 now b.stand b.routine) in
      let step1 = holds_after p code input (lo + 1) r lo (cell.Int by) v1 v2 now t1 b behind (omega arith) left1 step in
      let z : ℤ = entered by n l in
      let t2 : List PlainFrame = top_written t1 (lo + 1) (cell.Int z) in
      let left2 : Left p code input (lo + 1) r t1 v2 t2 =
      left_temp p code input (lo + 1) r (lo + 1) v2 t1 (cell.Int z) (omega arith) (omega (arith, behind)) b1 in
      let b2 = begins p code input (lo + 1) r t1 v2 t2 left2 in
      let there = holds_temp p code input r (lo + 1) v2 t1 (cell.Int z) slot.Number kind b1 in
      let step2 = holds_after p code input (lo + 1) r lo (cell.Int by) v2 v2 t1 t2 b1 behind (omega arith) left2 step1 in
      let whole : Left p code input (lo + 1) r now v2 t2 =
      left_on p code input (lo + 1) (lo + 1) r now v2 v2 t1 t2 (omega arith) left1 left2 in
      let w = ending p code input may (lo + 1) r now in
      subst (λ x. From p code input line 7 at exit now w (if_true (is_beyond n l by) (λ _. none x) (λ _. turn x)) q)
      (top_swap v limit counter (Number l) (Number n) (λ same. two (sym same)))
      (λ held s is.
      let g1 = count_step o at to (lo + 1) n now count (slot_has_kind p code input r counter of_counter v1 now b.stand b.routine) first held
      s is in
      let g2 = entry_step code input line (at + 1) t1 held g1.to g1.is by (lo + 1) to (shift p r + limit) n l entry
      (has_kind p code input r (lo + 1) v2 t1 slot.Number kind b1)
      (number_there p code input r counter of_counter v2 t1 b1.stand b1.routine n known).0
      (number_there p code input r limit of_limit v2 t1 b1.stand b1.routine l known_limit).0 in
      before code input line 0 24 (Leaves exit w) held (chosen v2 (is_beyond n l by)) s g2.to 2 7 5 q q
      (and_then code input g1.silently g2.silently) (omega arith) (omega arith)
      (from_ending p code input may line 5 (at + 1 + 1) exit (lo + 1) (lo + 1) r v2 now t2 (chosen v2 (is_beyond n l by)) q (omega arith)
      (omega (arith, behind)) whole (by_beyond v2 t2 b2 known known_limit step2 there (is_beyond n l by) (entered_is by n l)) held g2.to
      g2.is))
    where
      chosen : Store → Bool → Events NoYield
      chosen x z = if_true z (λ _. none x) (λ _. turn x)

      by_beyond : (w : Store) (t : List PlainFrame) → Begins p code input r w t → top_cell w counter ≡ Number n
          → top_cell w limit ≡ Number l → Holds t lo (cell.Int by) → Holds t (lo + 1) (cell.Int (entered by n l)) → (z : Bool)
          → is_zero (entered by n l) ≡ z
          → From p code input line 5 (at + 1 + 1) exit t (ending p code input may (lo + 1) r t) (chosen w z) q
      by_beyond w t b2 known known_limit step2 there true e = none_runs w t b2 (entered by n l) there e
      by_beyond w t b2 known known_limit step2 there false e = turns w t b2 known known_limit step2 (entered by n l) there e
