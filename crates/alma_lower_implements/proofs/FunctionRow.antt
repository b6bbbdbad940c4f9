-- The row of a call in an expression: the first way in which the body ends gives the number, and its other entries go.
use Rattle.std.proofs.Common.{◌≡◌, ℕ, zero, suc, ◌+◌, ◌-◌, ◌≤◌, List, [], ◌∷◌, ◌++◌, length, Some, None, refl, sym, ap, ◌∙◌, subst, arith}
use Rattle.std.proofs.Common.{ℤ}
use Rattle.std.specs.Prelude.{slice_get}
use Rattle.alma_base.specs.declared.fault.RunFault.TheVariants as fault
use Rattle.alma_code.specs.declared.cell.Cell.TheVariants as cell
use Rattle.alma_code.specs.declared.cell.SlotKind.TheVariants as slot
use Rattle.alma_code.specs.declared.instr.Instr.TheVariants as I
use Rattle.alma_code.specs.declared.step.Step.TheVariants as answer
use Rattle.alma_code.specs.Picture.{PlainFrame, PlainEntry, last_frame, without_last}
use Rattle.alma_code.specs.declared.cell.Cell.{Cell}
use Rattle.alma_code.specs.Layout.{frame_of_call}
use Rattle.alma_code.specs.Plain.{PlainCode, PlainRoutine, start_at}
use Rattle.alma_ir.specs.Tree.{Program, routine_at}
use Rattle.alma_code.specs.Machine.{State, act, as_number, result_to, answers_return, state_after_leave, with_slot, to_number}
use Rattle.alma_mean.specs.Store.{Store, without_top}
use Rattle.alma_mean.specs.Events.{Events, NoYield, Flow, Go, Return, Fail, one, line_or}
use Rattle.alma_mean.specs.Rows.{ArgValue, as_value, function_value, enter, frame_of}
use Rattle.alma_lower_implements.proofs.Goes.{IsGoing, Goes, no_step, and_then, before, weaker, first_goes, one_goes}
use Rattle.alma_lower_implements.proofs.Address.{at_address}
use Rattle.alma_lower_implements.proofs.Frames.{IsAt}
use Rattle.alma_lower_implements.proofs.Steps.{InstrAt, does, passed, Holds, HasKind, top_written, fault_step}
use Rattle.alma_lower_implements.proofs.ChoiceSteps.{GoesOn, answered_silently, cut_step}
use Rattle.alma_lower_implements.proofs.CallRow.{CountsAlike, enter_goes}
use Rattle.alma_lower_implements.proofs.CallSteps.{HoldsArguments}
use Rattle.alma_lower_implements.proofs.Ways.{Ways, Leaves, Runs}

module _ (code : PlainCode) (input : List ℕ) where
  -- the top frame is left, and the slot that the Call before names gets the number
  pub return_value_step : (line : ℕ) (at a r first to : ℕ) (n : ℤ) (now : List PlainFrame) (held : List PlainEntry) (s : State)
      → IsAt at now held s → InstrAt code input line at (I.ReturnValue a) → Holds now a (cell.Int n)
      → slice_get code.instrs ((last_frame now).back - 1) ≡ Some (I.Call r first to) → HasKind (without_last now) to slot.Number
      → GoesOn code input (last_frame now).back (top_written (without_last now) to (cell.Int n)) held s
  unfolding act
  return_value_step line at a r first to n now held s is i there call kind =
      let p : State = passed code input s in
      let t : State = with_slot (state_after_leave p) to (cell.Int n) in
      record {
        to = t;
        silently = answered_silently code input s t (answer.Returned (length t.now))
            (does code input line at now held s (I.ReturnValue a) is i
            ∙ ap (λ o. as_number o p (λ v. result_to (slice_get code.instrs ((last_frame p.now).back - 1)) (state_after_leave p) v))
            (ap (λ z. slice_get (last_frame z).cells a) is.frames ∙ there)
            ∙ ap (λ o. result_to o (state_after_leave p) n) (ap (λ z. slice_get code.instrs ((last_frame z).back - 1)) is.frames ∙ call)
            ∙ ap (λ o. to_number o (state_after_leave p) (λ _. answers_return t))
            (ap (λ z. slice_get (last_frame (without_last z)).kinds to) is.frames ∙ kind));
        is = record {
          mode = is.mode;
          here = ap (λ z. (last_frame z).back) is.frames;
          frames = ap (λ z. top_written (without_last z) to (cell.Int n)) is.frames;
          entries = is.entries;
        };
      }

  -- where a body leaves off with a number: before a ReturnValue, with the mark of the caller as it was
  pub record GivesNumber (at r first to m h : ℕ) (w : Ways ℤ) (v : Store) (n : ℤ) (t : State) : Type 0 where
    pub from : ℕ
    pub line : ℕ
    pub instr : InstrAt code input line t.at (I.ReturnValue from)
    pub number : Holds t.now from (cell.Int n)
    pub back : (last_frame t.now).back ≡ at + 1
    pub kind : HasKind (without_last t.now) to slot.Number
    pub mark : Holds (top_written (without_last t.now) to (cell.Int n)) m (cell.Mark h)
    pub goes : w.goes (without_top v) n (top_written (without_last t.now) to (cell.Int n))

  -- a body leaves off with a number, or at its end
  abbrev pub LeavesFunction : (at r first to m h line : ℕ) → Ways ℤ → Store → Flow NoYield → State → Type 0
  LeavesFunction at r first to m h line w v (Return (Some n)) t = GivesNumber at r first to m h w v n t
  LeavesFunction at r first to m h line w v (Return None) t = ⊥
  LeavesFunction at r first to m h line w v (Go y) t = InstrAt code input line t.at (I.Fault 6)

  -- behind the Call, which stands at `at`, with the mark set before it; `function` is the line of the routine
  pub function_row : (line function at exit r first to m : ℕ) (now : List PlainFrame) (w : Ways ℤ) (wb : Ways NoYield) (e : Events NoYield)
      (held : List PlainEntry) (s : State) (c q : ℕ) → 2 ≤ c
      → InstrAt code input line at (I.Call r first to) → InstrAt code input line (at + 1) (I.Cut m) → 1 ≤ function
      → ((v : Store) (f : Flow NoYield) (t : State) → Leaves exit wb v f t → LeavesFunction at r first to m (length held) function w v f t)
      → Goes code input line c 0 (Leaves exit wb) held e s c q
      → Goes code input line 0 24 (Leaves (at + 2) w) held (as_value function e) s c q
  function_row line function at exit r first to m now w wb e held s c q two call cut known comes_back runs =
      weaker code input line 0 24 (Leaves (at + 2) w) held (as_value function e) s c (c + 0) q q (omega arith) (omega arith)
      (first_goes code input line c 0 24 (Leaves exit wb) (Leaves (at + 2) w) held held e (function_value function) (λ _. Fail) 0 s c q runs
      (λ v f t above going left. ends v f t above going (comes_back v f t left))
      (λ u failing. (0, u, omega arith, no_step code input u, failing)))
    where
      ends : (v : Store) (f : Flow NoYield) (t : State) (above : List PlainEntry) → IsGoing (held ++ above) t
          → LeavesFunction at r first to m (length held) function w v f t
          → Goes code input line 0 24 (Leaves (at + 2) w) held (function_value function v f) t (c + 0) q
      ends v (Return (Some n)) t above going g =
          let call_there : (last_frame t.now).back - 1 ≡ at = omega (arith, g.back) in
          let a = return_value_step g.line t.at g.from r first to n t.now (held ++ above) t
          (record { mode = going.mode; here = refl; frames = refl; entries = going.entries }) g.instr g.number
          (ap (slice_get code.instrs) call_there ∙ call.instr) g.kind in
          let behind = at_address (last_frame t.now).back (at + 1) (top_written (without_last t.now) to (cell.Int n)) (held ++ above) a.to
          g.back a.is in
          let b = cut_step code input line (at + 1) m (top_written (without_last t.now) to (cell.Int n)) held above a.to behind cut
          g.mark in
          before code input line 0 24 (Leaves (at + 2) w) held (one (without_top v) n) t b.to 2 (c + 0) (c - 2) q q
          (and_then code input a.silently b.silently) (omega (arith, two)) (omega arith)
          (one_goes code input line 0 24 (Leaves (at + 2) w) held (without_top v) n b.to (c - 2) q (omega arith)
          (record { mode = b.is.mode; entries = b.is.entries })
          (let e2 : at + 1 + 1 ≡ at + 2 = omega arith in b.is.here ∙ e2, subst (w.goes (without_top v) n) (sym b.is.frames) g.goes))
      ends v (Return None) t above going g = absurd g
      ends v (Go y) t above going g =
          let z = fault_step code input function t.at t.now (held ++ above) t
          (record { mode = going.mode; here = refl; frames = refl; entries = going.entries }) 6 fault.NoReturn g refl in
          (1, z.to, omega (arith, two), z.silently, z.is, z.on_line ∙ kept function known)
        where
          kept : (n : ℕ) → 1 ≤ n → n ≡ line_or n line
          kept zero le = absurd (omega (arith, le))
          kept (suc n) le = refl

  -- a call in an expression, behind its arguments and its Mark
  pub function_call_row : (p : Program) (line function at r first to m exit : ℕ) (now : List PlainFrame) (v : Store) (callee : PlainRoutine)
      (args : List Cell) (links : ℕ) (taken : List ArgValue) (body : Store → Events NoYield) (w : Ways ℤ) (wb : Ways NoYield) (c q : ℕ)
      (held : List PlainEntry) (s : State) → 2 ≤ c → c ≤ 8
      → InstrAt code input line at (I.Call r first to) → InstrAt code input line (at + 1) (I.Cut m) → 1 ≤ function
      → slice_get code.routines r ≡ Some callee → CountsAlike code input p v now callee r
      → Runs code input line (start_at code r) exit (now ++ frame_of_call now callee.head r (at + 1) args ∷ []) wb
      (body (v ++ frame_of v r links (routine_at p r) taken ∷ [])) q
      → ((x : Store) (f : Flow NoYield) (t : State) → Leaves exit wb x f t → LeavesFunction at r first to m (length held) function w x f t)
      → IsAt at now held s → HoldsArguments code input callee first args s
      → Goes code input line 0 24 (Leaves (at + 2) w) held (as_value function (enter p body r links v taken)) s (suc c) (suc q)
  function_call_row p line function at r first to m exit now v callee args links taken body w wb c q held s two few call cut known there
      alike runs comes_back is reads =
      enter_goes code input (as_value function) (λ f l. refl) p line at r first to now v callee args links taken body (Leaves (at + 2) w) c
      q call there alike held s is reads
      (λ t begun. function_row line function at exit r first to m now w wb (body (v ++ frame_of v r links (routine_at p r) taken ∷ [])) held
      t c q two call cut known comes_back (runs c few held t begun))
