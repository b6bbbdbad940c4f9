-- The code of a checked program implements it, and its variables hold at a success what the meaning gives them.
use Rattle.std.proofs.Common.{◌≡◌, ℕ, zero, suc, ◌+◌, ◌<◌, ◌≤◌, ℤ, Bool, true, false, List, [], ◌∷◌, length, get_or, Some, None, Option}
use Rattle.std.proofs.Common.{refl, sym, ap, ◌∙◌, subst, arith}
use Rattle.std.specs.Prelude.{slice_get, int_le, IsNone}
use Rattle.std.specs.List.{AllByRecursion}
use Rattle.std.proofs.lemmas.Bool.{and_parts, and_from}
use Rattle.std.proofs.lemmas.Int.{ints}
use Rattle.std.proofs.Math.Nat.{mul-div-le}
use Rattle.alma_base.specs.Numbers.{within, is_integer, whole_range}
use Rattle.alma_base.specs.declared.number.Range.{Range}
use Rattle.alma_code.specs.declared.head.Run.{Run}
use Rattle.alma_code.specs.declared.instr.Instr.TheVariants as I
use Rattle.alma_code.specs.Layout.{kinds_of, start_frame}
use Rattle.alma_code.specs.Lines.{line_at}
use Rattle.alma_code.specs.Picture.{PlainFrame, PlainEntry}
use Rattle.alma_code.specs.Plain.{PlainCode, head_at, start_at}
use Rattle.alma_code.specs.Machine.{Mode, Going, Failing, Ended, Stuck, State, start, step}
use Rattle.alma_code.specs.declared.step.End.TheVariants as end
use Rattle.alma_ir.specs.Tree.{Program, routine_at, TestStmt, Assign, CopyCells, If, While, Repeat, ForTo, SomeOf, Case, Either, Forall}
use Rattle.alma_ir.specs.Tree.{Commit, Return, Read, WriteExpr, WriteText, WriteLine, a_loop, Value, Bind, Unify, SameCells, Seq, And, Or}
use Rattle.alma_ir.specs.Tree.{Not, CallTest, Const, Load, Chain, Compare, Truth, Known, Chr, CallExpr, ByValue, ByCells, ByPlace, MixValue}
use Rattle.alma_ir.specs.Tree.{MixPlace, Field, Index}
use Rattle.alma_ir.specs.Phrases.{Phrase, StmtPhrase, TestPhrase, ExprPhrase, ArgPhrase, DesigPhrase, SelPhrase, stmts_phrases}
use Rattle.alma_ir.specs.Checked.{IsChecked}
use Rattle.alma_mean.specs.Events.{Events, NoYield, Go, first, end_of}
use Rattle.alma_mean.specs.Events as events
use Rattle.alma_mean.specs.Meaning as meaning
use Rattle.alma_mean.specs.Meaning.{level, level_0, ev_program}
use Rattle.alma_mean.specs.Store.{Store}
use Rattle.alma_base.specs.Limits.{input_limit}
use Rattle.alma_lower_implements.specs.Implements.{ComesTo, Implements, line_in, state_after, printed_by}
use Rattle.alma_lower_implements.specs.Values.{first_store, HoldsValues, KeepsValues}
use Rattle.alma_lower_implements.proofs.Follows.{AgreesFrom, EndsWell, follows}
use Rattle.alma_lower_implements.proofs.Frames.{own_end, IsAt, StandFor}
use Rattle.alma_lower_implements.proofs.Goes.{IsGoing, Goes, weaker, node_goes}
use Rattle.alma_lower_implements.proofs.Steps.{return_ends}
use Rattle.alma_lower_implements.proofs.Succeeds.{EndsWith, succeeds}
use Rattle.alma_lower_implements.proofs.Ways.{Ways, Leaves}
use Rattle.alma_lower_templates.specs.Tables.{Tables}
use Rattle.alma_lower_templates.specs.Slots.{routine_kinds, own_kinds}
use Rattle.alma_lower_templates.specs.Compiled.{program_code}
use Rattle.alma_lower_templates.specs.Stands.{Stands}
use Rattle.alma_lower_templates.specs.Templates.{routine_code}
use Rattle.alma_lower_templates.specs.CodeOf.{HoldsAllOf, InTables, HasIntegers, IsOfIntegers, IsCodeOf}
use Rattle.alma_lower_templates.proofs.Asked.{Coded, asked_all, Fine}
use Rattle.alma_lower_templates.proofs.Calls.{RoutineRuns, EndsAt}
use Rattle.alma_lower_templates.proofs.Induction.{stmts_go, level_known}
use Rattle.alma_lower_templates.proofs.Levels.{Below, below_none}
use Rattle.alma_lower_templates.proofs.Parts.{ending, ResultIs}
use Rattle.alma_lower_templates.proofs.Premises.{variables_are, params_are, body_slots, flat_body, position_kind}
use Rattle.alma_lower_templates.proofs.Returning.{routine_runs, routine_cut, routine_ends, body_code_of}
use Rattle.alma_lower_templates.proofs.Starting.{start_begins}
use Rattle.alma_lower_templates.proofs.Values.{return_keeps, values_held}
use Rattle.alma_lower_templates.proofs.Whole.{routine_stands}

-- ---- numbers

at_most : (a b c : ℤ) → int_le a b ≡ true → int_le b c ≡ true → int_le a c ≡ true
at_most a b c e f = by (int_le a c) refl
  where
    by : (t : Bool) → int_le a c ≡ t → t ≡ true
    by true z = refl
    by false z = absurd (omega (arith, ints))

inside : (range : Range) → is_integer range.low ≡ true → is_integer range.high ≡ true → (n : ℤ) → within range n ≡ true
    → is_integer n ≡ true
inside range low high n h =
    let z = and_parts (int_le range.low n) (int_le n range.high) h in
    let l = and_parts (int_le whole_range.low range.low) (int_le range.low whole_range.high) low in
    let u = and_parts (int_le whole_range.low range.high) (int_le range.high whole_range.high) high in
    and_from (int_le whole_range.low n) (int_le n whole_range.high) (at_most whole_range.low range.low n l.0 z.0)
    (at_most n range.high whole_range.high z.1 u.1)

-- the code itself, whose tables are those that the program was given
module _ (p : Program) (tables : Tables) (all : List (List Run)) (count : length all ≡ length p.routines)
    (names : (r : ℕ) → r < length p.routines → kinds_of 0 (get_or all r []) ≡ routine_kinds p r) (checked : IsChecked p)
    (held : HoldsAllOf p tables) (integers : IsOfIntegers p)
    (input : List ℕ) (lawful : length input ≤ input_limit) where
  abbrev code : PlainCode
  code = program_code p tables all

  -- ---- what each phrase is asked for

  coded : (x : Phrase) → InTables tables x → HasIntegers x → Coded p tables code input x
  coded (StmtPhrase (TestStmt t)) h k = tt
  coded (StmtPhrase (Assign d e range)) h k = h
  coded (StmtPhrase (CopyCells d e)) h k = tt
  coded (StmtPhrase (If arms rest)) h k = tt
  coded (StmtPhrase (While t body)) h k = tt
  coded (StmtPhrase (Repeat body t)) h k = tt
  coded (StmtPhrase (ForTo (a_loop d range counter limit from to by body))) h k = h
  coded (StmtPhrase (SomeOf (a_loop d range counter limit from to by body))) h k = h
  coded (StmtPhrase (Case e arms rest)) h k = tt
  coded (StmtPhrase (Either alternatives)) h k = tt
  coded (StmtPhrase (Forall x y)) h k = tt
  coded (StmtPhrase (Commit x)) h k = tt
  coded (StmtPhrase (Return e)) h k = tt
  coded (StmtPhrase (Read d how range)) h k = (h, inside range k.0 k.1)
  coded (StmtPhrase (WriteExpr e how)) h k = tt
  coded (StmtPhrase (WriteText text)) h k = h
  coded (StmtPhrase WriteLine) h k = tt
  coded (TestPhrase (Value e)) h k = tt
  coded (TestPhrase (Bind d e range left)) h k = h
  coded (TestPhrase (Unify d range e range')) h k = h
  coded (TestPhrase (SameCells d e)) h k = tt
  coded (TestPhrase (Seq x)) h k = tt
  coded (TestPhrase (And ts)) h k = tt
  coded (TestPhrase (Or ts)) h k = tt
  coded (TestPhrase (Not t)) h k = tt
  coded (TestPhrase (CallTest called args up)) h k = tt
  coded (ExprPhrase (Const n)) h k = k
  coded (ExprPhrase (Load d)) h k = tt
  coded (ExprPhrase (Chain negated e links)) h k = tt
  coded (ExprPhrase (Compare how x y)) h k = tt
  coded (ExprPhrase (Truth t)) h k = tt
  coded (ExprPhrase (Known d)) h k = tt
  coded (ExprPhrase (Chr e)) h k = h
  coded (ExprPhrase (CallExpr called args up)) h k = tt
  coded (ArgPhrase (ByValue e range)) h k = h
  coded (ArgPhrase (ByCells d)) h k = tt
  coded (ArgPhrase (ByPlace d)) h k = tt
  coded (ArgPhrase (MixValue e range)) h k = h
  coded (ArgPhrase (MixPlace d)) h k = tt
  coded (DesigPhrase d) h k = tt
  coded (SelPhrase (Field offset cells)) h k = tt
  coded (SelPhrase (Index e range cells)) h k = h

  coded_all : (xs : List Phrase) → AllByRecursion (InTables tables) xs → AllByRecursion HasIntegers xs
      → AllByRecursion (Coded p tables code input) xs
  coded_all [] h k = tt
  coded_all (x ∷ xs) h k = (coded x h.0 k.0, coded_all xs h.1 k.1)

  -- the body of a routine
  fine_body : (r : ℕ) → r < length p.routines → Fine p tables code input r (stmts_phrases (routine_at p r).body) (routine_at p r).lines
  fine_body r lt =
      let xs = stmts_phrases (routine_at p r).body in
      record {
        asked = asked_all p tables code input r xs (checked.roots r lt) (checked.parts r lt) (checked.cells r lt) (checked.loops r lt)
            (checked.callees r lt) (checked.results r lt) (checked.links r lt) (checked.arguments r lt) (checked.choices r lt)
            (checked.returns r lt) (checked.returns_stay r lt)
            (coded_all xs (held.phrases r lt) (integers r lt));
        lines = record { positive = (checked.lines r lt).lines; enough = omega (arith, (checked.lines r lt).count) };
      }

  -- ---- the levels

  record KnownAt (n : ℕ) : Type 1 where
    below : Below p tables code input (level p input n) n
    routines : (r : ℕ) → r < length p.routines → RoutineRuns p tables code input (level p input n) r n

  stands : (r : ℕ) → r < length p.routines → Stands code (start_at code r) (routine_code p tables r (start_at code r))
  stands r lt = routine_stands p tables code all refl count names r lt

  known_at : (n : ℕ) → KnownAt n
  known_at zero = record {
    below = below_none p tables code input;
    routines = λ r lt. routine_cut p tables code input r (start_at code r + length (body_code_of p tables code input r))
        (routine_ends p tables code input level_0 r (stands r lt));
  }
  known_at (suc n) =
      let k = known_at n in
      let variables = variables_are p tables code all refl count names checked input in
      let params = params_are p tables code all refl count names checked input in
      let flat = flat_body p tables code all refl count names checked input in
      let position = position_kind p tables code all refl count names checked input in
      record {
        below = level_known p tables code all refl count names checked input lawful flat position held.results variables params
            (level p input n) n k.routines k.below;
        routines = λ r lt. routine_runs p tables code input (level p input n) r (suc n) (checked.params r lt) (stands r lt)
            (λ line. stmts_go p tables code all refl count names checked input lawful flat position held.results variables params
            (level p input n) n k.routines k.below true r lt (routine_at p r).body (routine_at p r).lines (fine_body r lt)
            (λ e. absurd (let bad : true ≡ false = e in cc)) line (start_at code r) (length (own_kinds (routine_at p r)))
            (body_slots p tables code all refl count names checked input r lt));
      }

  -- ---- the whole run

  abbrev frames : List PlainFrame
  frames = start_frame (head_at code 0) ∷ []

  abbrev main_ways : Ways NoYield
  main_ways = ending p code input true (own_end p 0) 0 frames

  -- the machine ends at a Return of the frame of the module
  return_here : (t : State) (held : List PlainEntry) → IsGoing held t → slice_get code.instrs t.at ≡ Some I.Return → length t.now ≡ 1
      → ((step code input t).state.mode ≡ Ended end.Succeeded) × ((step code input t).printed ≡ [])
  return_here t held going there one = return_ends code input (line_at code t.at) t.at t.now held t
      (record { mode = going.mode; here = refl; frames = refl; entries = going.entries }) (record { instr = there; on_line = refl }) one

  none_is : (o : Option Range) → IsNone o → o ≡ None
  none_is None h = refl
  none_is (Some range) h = absurd (cc)

  no_result : (routine_at p 0).result ≡ None
  no_result = none_is (routine_at p 0).result checked.body_takes_nothing.1

  ends_well : (exit : ℕ) → slice_get code.instrs exit ≡ Some I.Return → EndsWell code input (Leaves exit main_ways)
  ends_well exit there v (Go y) t held going left =
      return_here t held going (ap (slice_get code.instrs) left.0 ∙ there) left.1.fits.same_count
  ends_well exit there v (events.Return None) t held going left = return_here t held going left.2.there left.1.fits.same_count
  ends_well exit there v (events.Return (Some m)) t held going left =
      absurd (subst (λ o. ResultIs p code input o (Some m)) no_result left.2.result)

  comes_to : (n : ℕ) (m : Mode) (line : ℕ) (printed : List ℕ)
      → AgreesFrom {A = NoYield} 0 n (first (ev_program (suc n) p input)) m line printed → ComesTo m line printed p input n
  comes_to n (Ended x) line printed h = ap (λ b. (b, end_of (first (ev_program (suc n) p input)))) h.1 ∙ ap (λ e. (printed, e)) h.0
  comes_to n Going line printed h = record { visits = h.visits; front = h.front; enough = omega (arith, h.paid, mul-div-le n 32) }
  comes_to n Failing line printed h = record { visits = h.visits; front = h.front; enough = omega (arith, h.paid, mul-div-le n 32) }
  comes_to n Stuck line printed h = record { visits = h.visits; front = h.front; enough = omega (arith, h.paid, mul-div-le n 32) }

  -- the body of the module runs to the Return at its end
  record MainGoes (n : ℕ) : Type 0 where
    exit : ℕ
    there : slice_get code.instrs exit ≡ Some I.Return
    goes : Goes code input 0 8 0 (Leaves exit main_ways) [] (ev_program (suc n) p input) (start code) 0 (suc n)

  main_goes : (n : ℕ) → MainGoes n
  main_goes n =
      let main = (known_at (suc n)).routines 0 checked.body.0 in
      let e : Events NoYield = (level p input (suc n)).routine 0 (meaning.start p) in
      let fits = Leaves main.exit main_ways in
      let begun = start_begins p tables code all refl count names checked input in
      let goes = main.runs 0 (meaning.start p) frames begun 8 (omega arith) [] (start code)
      (record { mode = refl; here = refl; frames = refl; entries = refl }) in
      record {
        exit = main.exit;
        there = subst (EndsAt p tables code input (level p input (suc n)) 0 main.exit) no_result main.ends;
        goes = node_goes code input 0 8 8 0 fits [] e (start code) 0 (suc n) (omega arith)
            (weaker code input 0 8 0 fits [] e (start code) 32 8 (suc n) (suc n) (omega arith) (omega arith) goes);
      }

  pub all_steps : (n : ℕ) → ComesTo (state_after code input n).mode (line_in code (state_after code input n)) (printed_by code input n) p
      input n
  all_steps n =
      let main = main_goes n in
      comes_to n (state_after code input n).mode (line_in code (state_after code input n)) (printed_by code input n)
      (follows code input 8 (Leaves main.exit main_ways) (ev_program (suc n) p input) (start code) 0 (suc n) n (omega arith)
      (ends_well main.exit main.there) main.goes)

  -- ---- what the variables hold

  -- the last step keeps the frames, which stand for the store of the alternative
  values_here : (t : State) (held : List PlainEntry) → IsGoing held t → slice_get code.instrs t.at ≡ Some I.Return → length t.now ≡ 1
      → (v : Store) → StandFor p code v t.now
      → ((step code input t).state.mode ≡ Ended end.Succeeded) × HoldsValues p v (step code input t).state.now
  values_here t held going there one v stand =
      let variables = variables_are p tables code all refl count names checked input in
      let flat = flat_body p tables code all refl count names checked input in
      let is : IsAt t.at t.now held t = record { mode = going.mode; here = refl; frames = refl; entries = going.entries } in
      let kept : (step code input t).state.now ≡ t.now =
      return_keeps p code input (line_at code t.at) t.at t.now held t is (record { instr = there; on_line = refl }) one in
      let values : HoldsValues p v t.now =
      values_held p code input v t.now stand flat (λ from cells h free. variables 0 from cells checked.body.0 h (λ e. free))
      checked.globals in
      ((return_here t held going there one).0, subst (HoldsValues p v) (sym kept) values)

  ends_with_values : (exit : ℕ) → slice_get code.instrs exit ≡ Some I.Return
      → EndsWith code input (Leaves exit main_ways) (HoldsValues p)
  ends_with_values exit there v (Go y) t held going left =
      values_here t held going (ap (slice_get code.instrs) left.0 ∙ there) left.1.fits.same_count v left.1.fits.stand
  ends_with_values exit there v (events.Return None) t held going left =
      values_here t held going left.2.there left.1.fits.same_count v left.1.fits.stand
  ends_with_values exit there v (events.Return (Some m)) t held going left =
      absurd (subst (λ o. ResultIs p code input o (Some m)) no_result left.2.result)

  pub all_values : (n : ℕ) → (state_after code input n).mode ≡ Ended end.Succeeded
      → (s : Store) × (first_store (ev_program (suc n) p input) ≡ Some s) × HoldsValues p s (state_after code input n).now
  all_values n ended =
      let main = main_goes n in
      succeeds code input 8 (Leaves main.exit main_ways) (HoldsValues p) (ev_program (suc n) p input) (start code) 0 (suc n) n (omega arith)
      (ends_with_values main.exit main.there) main.goes ended

pub code_implements : (p : Program) (code : PlainCode) → IsChecked p → IsOfIntegers p → IsCodeOf p code → Implements code p
code_implements p code checked integers is_code =
    subst (λ c. Implements c p) (sym is_code.is)
    (λ input lawful n. all_steps p is_code.tables is_code.runs is_code.count is_code.names checked is_code.held integers input lawful n)

pub code_keeps_values : (p : Program) (code : PlainCode) → IsChecked p → IsOfIntegers p → IsCodeOf p code → KeepsValues code p
code_keeps_values p code checked integers is_code =
    subst (λ c. KeepsValues c p) (sym is_code.is)
    (λ input lawful n ended.
    all_values p is_code.tables is_code.runs is_code.count is_code.names checked is_code.held integers input lawful n ended)
