-- What the reading of arguments, and calls and returns, give.
use Rattle.std.proofs.Common.{inl, inr, ◌≡◌, ℕ, zero, suc, ◌+◌, ◌-◌, ◌<◌, ◌≤◌, List, [], ◌∷◌, ◌++◌, length, get_or, refl, sym, ap, ◌∙◌}
use Rattle.std.proofs.Common.{subst, arith, Some}
use Rattle.std.specs.Prelude.{ℤ, slice_get, Bool, nat_eq, nat_le, None}
use Rattle.std.proofs.lemmas.Bool.{eq-eqb, ne_eqb, and_from, lt-ltb, le-ltb, le-leb, lt-leb, cases_lt}
use Rattle.std.proofs.lemmas.Option.{get_or_from_slice_get}
use Rattle.std.proofs.lemmas.List.{length-append, get_or-append_right}
use Rattle.std.proofs.Math.ListN.{get_or-append}
use Rattle.alma_base.specs.Choice.{if_true}
use Rattle.alma_base.specs.declared.fault.RunFault.{RunFault}
use Rattle.alma_base.specs.declared.fault.RunFault.TheVariants as fault
use Rattle.alma_code.specs.declared.cell.Cell.{Cell}
use Rattle.alma_code.specs.declared.cell.Cell.TheVariants as cell
use Rattle.alma_code.specs.declared.cell.CellPlace.{CellPlace}
use Rattle.alma_code.specs.declared.head.CodeParam.{CodeParam}
use Rattle.alma_code.specs.declared.head.ParamKind.{ParamKind}
use Rattle.alma_code.specs.declared.head.ParamKind.TheVariants as param
use Rattle.alma_code.specs.declared.step.End.TheVariants as end
use Rattle.alma_code.specs.declared.step.Step.TheVariants as answer
use Rattle.alma_code.specs.Carries.{IsLive}
use Rattle.alma_code.specs.Head.{PlainHead}
use Rattle.alma_code.specs.Layout.{FitsParam, no_param, frame_of_call}
use Rattle.alma_code.specs.Machine.{State, StepResult, slot_of, as_argument, arguments, numbers_at, ends_in_fault, enters_routine}
use Rattle.alma_code.specs.Machine.{answers_with, ends_run, answers_return, state_after_leave, gets_stuck}
use Rattle.alma_code.specs.Picture.{PlainFrame, last_frame, live_cells}
use Rattle.alma_memory.specs.Refusals.{HasFrameRoom}
use Rattle.alma_machine_acts.specs.Calls.{HoldsArgument, HasArgument, HasArguments, IsArgument, GivesArguments}

-- ---- one argument

-- a number is given
given_int : (now : List PlainFrame) (kind : ParamKind) (n : ℕ) (v : ℤ) → HoldsArgument now kind n (cell.Int v)
    → FitsParam (IsLive now) (λ _. IsLive now) kind n (cell.Int v)
    × ((s : State) (k : Cell → StepResult) → s.now ≡ now → as_argument kind n (Some (cell.Int v)) s k ≡ k (cell.Int v))
given_int now param.Value n v h = (tt, λ s k same. refl)
given_int now param.Mix n v h = (tt, λ s k same. refl)
given_int now param.Place n v h = absurd h
given_int now param.Cells n v h = absurd h
given_int now param.Link n v h = absurd h

-- a place is given
given_place : (now : List PlainFrame) (kind : ParamKind) (n : ℕ) (p : CellPlace) → HoldsArgument now kind n (cell.Place p)
    → FitsParam (IsLive now) (λ _. IsLive now) kind n (cell.Place p)
    × ((s : State) (k : Cell → StepResult) → s.now ≡ now → as_argument kind n (Some (cell.Place p)) s k ≡ k (cell.Place p))
given_place now param.Value n p h = absurd h
given_place now param.Mix n p h = (
  (h.len, h.live),
  λ s k same. ap (λ b. if_true b (λ _. k (cell.Place p)) (λ _. gets_stuck s)) (eq-eqb p.len 1 h.len),
)
given_place now param.Place n p h = (
  (h.len, h.live),
  λ s k same. ap (λ b. if_true b (λ _. k (cell.Place p)) (λ _. gets_stuck s)) (eq-eqb p.len n h.len),
)
given_place now param.Cells n p h = (
  (h.len, h.live),
  λ s k same.
      ap (λ b. if_true b (λ _. k (cell.Place p)) (λ _. gets_stuck s))
      (and_from (nat_eq p.len n) (numbers_at n s.now p.frame p.slot) (eq-eqb p.len n h.len)
      (ap (λ fs. numbers_at n fs p.frame p.slot) same ∙ h.numbers)),
)
given_place now param.Link n p h = (
  h,
  λ s k same. ap (λ b. if_true b (λ _. k (cell.Place p)) (λ _. gets_stuck s))
      (and_from (nat_eq p.slot 0) (nat_eq p.len 0) (eq-eqb p.slot 0 h.0) (eq-eqb p.len 0 h.1)),
)

-- what a slot holds, as it is read
held : (now : List PlainFrame) (p : CodeParam) (n : ℕ) (c : Cell) → HasArgument now p n → slice_get (last_frame now).cells n ≡ Some c
    → HoldsArgument now p.kind p.cells c
held now p n c h is = subst (HoldsArgument now p.kind p.cells) (get_or_from_slice_get (last_frame now).cells n c cell.Unset is) h.content

-- reading what a slot holds
read_slot : (now : List PlainFrame) (p : CodeParam) (n : ℕ) (c : Cell) (s : State) (k : Cell → StepResult)
    → slice_get (last_frame now).cells n ≡ Some c → s.now ≡ now
    → as_argument p.kind p.cells (slot_of s n) s k ≡ as_argument p.kind p.cells (Some c) s k
read_slot now p n c s k is same =
    ap (λ fs. as_argument p.kind p.cells (slice_get (last_frame fs).cells n) s k) same ∙ ap (λ o. as_argument p.kind p.cells o s k) is

pub number_given : (now : List PlainFrame) (p : CodeParam) (n : ℕ) (v : ℤ) → HasArgument now p n
    → slice_get (last_frame now).cells n ≡ Some (cell.Int v) → IsArgument now p n (cell.Int v)
number_given now p n v h is =
    let g = given_int now p.kind p.cells v (held now p n (cell.Int v) h is) in
    record { fits = g.0; read = λ s k same. read_slot now p n (cell.Int v) s k is same ∙ g.1 s k same }

pub place_given : (now : List PlainFrame) (p : CodeParam) (n : ℕ) (q : CellPlace) → HasArgument now p n
    → slice_get (last_frame now).cells n ≡ Some (cell.Place q) → IsArgument now p n (cell.Place q)
place_given now p n q h is =
    let g = given_place now p.kind p.cells q (held now p n (cell.Place q) h is) in
    record { fits = g.0; read = λ s k same. read_slot now p n (cell.Place q) s k is same ∙ g.1 s k same }

-- a number that is not known ends the run
pub unknown_given : (now : List PlainFrame) (p : CodeParam) (n : ℕ) (s : State) (k : Cell → StepResult)
    → slice_get (last_frame now).cells n ≡ Some cell.Unknown → s.now ≡ now
    → as_argument p.kind p.cells (slot_of s n) s k ≡ ends_in_fault fault.Unknown s
unknown_given now p n s k is same = read_slot now p n cell.Unknown s k is same

-- and so does a place that is not there
pub unset_given : (now : List PlainFrame) (p : CodeParam) (n : ℕ) (s : State) (k : Cell → StepResult)
    → slice_get (last_frame now).cells n ≡ Some cell.Unset → s.now ≡ now
    → as_argument p.kind p.cells (slot_of s n) s k ≡ ends_in_fault fault.Unknown s
unset_given now p n s k is same = read_slot now p n cell.Unset s k is same

-- no argument is a mark
no_mark : (now : List PlainFrame) (kind : ParamKind) (n h : ℕ) → HoldsArgument now kind n (cell.Mark h) → ⊥
no_mark now param.Value n h x = x
no_mark now param.Mix n h x = x
no_mark now param.Place n h x = x
no_mark now param.Cells n h x = x
no_mark now param.Link n h x = x

pub mark_given : (now : List PlainFrame) (p : CodeParam) (n h : ℕ) → HasArgument now p n
    → slice_get (last_frame now).cells n ≡ Some (cell.Mark h) → ⊥
mark_given now p n h has is = no_mark now p.kind p.cells h (held now p n (cell.Mark h) has is)

pub ruleset givens = (number_given, place_given, unknown_given, unset_given, mark_given)

-- ---- all arguments

-- where each is read, all are
pub all_read : (now : List PlainFrame) (ps : List CodeParam) (first : ℕ) (args : List Cell) (s : State) (k : List Cell → StepResult)
    → s.now ≡ now → length args ≡ length ps
    → ((i : ℕ) → i < length ps → IsArgument now (get_or ps i no_param) (first + i) (get_or args i cell.Unknown))
    → arguments ps s first k ≡ k args
all_read now [] first [] s k same len each = refl
all_read now [] first (c ∷ args) s k same len each = absurd (omega arith)
all_read now (p ∷ ps) first [] s k same len each = absurd (omega arith)
all_read now (p ∷ ps) first (c ∷ args) s k same len each =
    let here : first + 0 ≡ first = omega arith in
    let one : IsArgument now p first c = subst (λ n. IsArgument now p n c) here (each 0 (omega arith)) in
    one.read s (λ c. arguments ps s (suc first) (λ cs. k (c ∷ cs))) same
    ∙ all_read now ps (suc first) args s (λ cs. k (c ∷ cs)) same (omega arith)
    (λ i lt. let next : first + suc i ≡ suc first + i = omega arith in
    subst (λ n. IsArgument now (get_or ps i no_param) n (get_or args i cell.Unknown)) next (each (suc i) (omega arith)))

-- where those before one are read and that one ends the run, all do
pub one_fails : (now : List PlainFrame) (ps : List CodeParam) (first i : ℕ) (args : List Cell) (f : RunFault) (s : State)
    (k : List Cell → StepResult) → s.now ≡ now → i < length ps
    → ((j : ℕ) → j < i → IsArgument now (get_or ps j no_param) (first + j) (get_or args j cell.Unknown))
    → ((s : State) (k : Cell → StepResult) → s.now ≡ now
    → as_argument (get_or ps i no_param).kind (get_or ps i no_param).cells (slot_of s (first + i)) s k ≡ ends_in_fault f s)
    → arguments ps s first k ≡ ends_in_fault f s
one_fails now [] first i args f s k same lt each ends = absurd (omega arith)
one_fails now (p ∷ ps) first zero args f s k same lt each ends =
    let here : first ≡ first + 0 = omega arith in
    ap (λ n. as_argument p.kind p.cells (slot_of s n) s (λ c. arguments ps s (suc first) (λ cs. k (c ∷ cs)))) here
    ∙ ends s (λ c. arguments ps s (suc first) (λ cs. k (c ∷ cs))) same
one_fails now (p ∷ ps) first (suc i) [] f s k same lt each ends =
    let here : first + 0 ≡ first = omega arith in
    let one : IsArgument now p first cell.Unknown = subst (λ n. IsArgument now p n cell.Unknown) here (each 0 (omega arith)) in
    let next : first + suc i ≡ suc first + i = omega arith in
    one.read s (λ c. arguments ps s (suc first) (λ cs. k (c ∷ cs))) same
    ∙ one_fails now ps (suc first) i [] f s (λ cs. k (cell.Unknown ∷ cs)) same (omega arith)
    (λ j below. let next : first + suc j ≡ suc first + j = omega arith in
    subst (λ n. IsArgument now (get_or ps j no_param) n cell.Unknown) next (each (suc j) (omega arith)))
    (λ s k same. ap (λ n. as_argument (get_or ps i no_param).kind (get_or ps i no_param).cells (slot_of s n) s k) (sym next)
    ∙ ends s k same)
one_fails now (p ∷ ps) first (suc i) (c ∷ args) f s k same lt each ends =
    let here : first + 0 ≡ first = omega arith in
    let one : IsArgument now p first c = subst (λ n. IsArgument now p n c) here (each 0 (omega arith)) in
    let next : first + suc i ≡ suc first + i = omega arith in
    one.read s (λ c. arguments ps s (suc first) (λ cs. k (c ∷ cs))) same
    ∙ one_fails now ps (suc first) i args f s (λ cs. k (c ∷ cs)) same (omega arith)
    (λ j below. let next : first + suc j ≡ suc first + j = omega arith in
    subst (λ n. IsArgument now (get_or ps j no_param) n (get_or args j cell.Unknown)) next (each (suc j) (omega arith)))
    (λ s k same. ap (λ n. as_argument (get_or ps i no_param).kind (get_or ps i no_param).cells (slot_of s n) s k) (sym next)
    ∙ ends s k same)

-- the first i arguments are read
pub record ReadSo (now : List PlainFrame) (ps : List CodeParam) (first i : ℕ) (args : List Cell) : Type 0 where
  pub count : length args ≡ i
  pub each : (j : ℕ) → j < i → IsArgument now (get_or ps j no_param) (first + j) (get_or args j cell.Unknown)

-- the slot of a parameter
pub arg_at : (now : List PlainFrame) (ps : List CodeParam) (first i : ℕ) (p : CodeParam) → HasArguments now ps first → i < length ps
    → slice_get ps i ≡ Some p → HasArgument now p (first + i)
arg_at now ps first i p has lt is = subst (λ q. HasArgument now q (first + i)) (get_or_from_slice_get ps i p no_param is) (has i lt)

-- one more is read
pub reads_more : (now : List PlainFrame) (ps : List CodeParam) (first i : ℕ) (p : CodeParam) (c : Cell) (args : List Cell)
    → slice_get ps i ≡ Some p → ReadSo now ps first i args → IsArgument now p (first + i) c
    → ReadSo now ps first (i + 1) (args ++ c ∷ [])
reads_more now ps first i p c args is h one = record {
  count = omega (arith, length-append args (c ∷ []), h.count);
  each = λ j lt.
      elim (cases_lt j i) [
        | inl below ↦ subst (λ a. IsArgument now (get_or ps j no_param) (first + j) a)
            (sym (get_or-append args (c ∷ []) cell.Unknown j (omega (arith, h.count)))) (h.each j below)
        | inr le ↦
            let same : j ≡ i = omega arith in
            let at : j - length args ≡ 0 = omega (arith, h.count) in
            let here : get_or (args ++ c ∷ []) j cell.Unknown ≡ c =
            get_or-append_right args (c ∷ []) (length args) j cell.Unknown refl (omega (arith, h.count))
            ∙ ap (λ n. get_or (c ∷ []) n cell.Unknown) at in
            subst (λ a. IsArgument now (get_or ps j no_param) (first + j) a) (sym here)
            (subst (λ m. IsArgument now (get_or ps m no_param) (first + m) c) (sym same)
            (subst (λ q. IsArgument now q (first + i) c) (sym (get_or_from_slice_get ps i p no_param is)) one))
      ];
}

-- all are read
pub all_done : (now : List PlainFrame) (ps : List CodeParam) (first : ℕ) (args : List Cell) → ReadSo now ps first (length ps) args
    → GivesArguments now ps first None args
all_done now ps first args h = (
  record { count = h.count; each = λ k lt. (h.each k lt).fits },
  λ s k same. all_read now ps first args s k same h.count h.each,
)

-- one is not known
pub fails_at : (now : List PlainFrame) (ps : List CodeParam) (first i : ℕ) (p : CodeParam) (args rest : List Cell) (f : RunFault)
    → i < length ps → slice_get ps i ≡ Some p → ReadSo now ps first i args
    → ((s : State) (k : Cell → StepResult) → s.now ≡ now → as_argument p.kind p.cells (slot_of s (first + i)) s k ≡ ends_in_fault f s)
    → GivesArguments now ps first (Some f) rest
fails_at now ps first i p args rest f lt is h ends = λ s k same.
    one_fails now ps first i args f s k same lt h.each
    (λ s k same. ap (λ (q : CodeParam). as_argument q.kind q.cells (slot_of s (first + i)) s k) (get_or_from_slice_get ps i p no_param is)
    ∙ ends s k same)

-- ---- entering

-- one more frame
pub one_frame : (now : List PlainFrame) (f : PlainFrame) → length (now ++ f ∷ []) ≡ length now + 1
one_frame now f = length-append now (f ∷ [])

-- with room the frame is entered
pub enters_room : (s : State) (r start : ℕ) (h : PlainHead) (args : List Cell) → HasFrameRoom s.now h.declared
    → enters_routine s r start h args ≡ answers_with (answer.Called r (length s.now + 1))
    (record s { at = start; now = s.now ++ frame_of_call s.now h r s.at args ∷ [] })
enters_room s r start h args room =
    let cells = λ (b : Bool). if_true b (λ _. answers_with (answer.Called r (length s.now + 1))
    (record s { at = start; now = s.now ++ frame_of_call s.now h r s.at args ∷ [] })) (λ _. ends_in_fault fault.CellsFull s) in
    ap (λ b. if_true b (λ _. cells (nat_le (live_cells s.now + h.declared) 1048576)) (λ _. ends_in_fault fault.DepthFull s))
    (lt-ltb (length s.now) 10000 room.depth)
    ∙ ap cells (le-leb (live_cells s.now + h.declared) 1048576 room.cells)

-- at 10,000 frames it is not
pub enters_deep : (s : State) (r start : ℕ) (h : PlainHead) (args : List Cell) → 10000 ≤ length s.now
    → enters_routine s r start h args ≡ ends_in_fault fault.DepthFull s
enters_deep s r start h args deep =
    ap (λ b. if_true b (λ _. if_true (nat_le (live_cells s.now + h.declared) 1048576)
    (λ _. answers_with (answer.Called r (length s.now + 1))
    (record s { at = start; now = s.now ++ frame_of_call s.now h r s.at args ∷ [] })) (λ _. ends_in_fault fault.CellsFull s))
    (λ _. ends_in_fault fault.DepthFull s)) (le-ltb (length s.now) 10000 deep)

-- nor with too many cells
pub enters_full : (s : State) (r start : ℕ) (h : PlainHead) (args : List Cell) → (length s.now < 10000)
    × (1048576 < live_cells s.now + h.declared) → enters_routine s r start h args ≡ ends_in_fault fault.CellsFull s
enters_full s r start h args full =
    let cells = λ (b : Bool). if_true b (λ _. answers_with (answer.Called r (length s.now + 1))
    (record s { at = start; now = s.now ++ frame_of_call s.now h r s.at args ∷ [] })) (λ _. ends_in_fault fault.CellsFull s) in
    ap (λ b. if_true b (λ _. cells (nat_le (live_cells s.now + h.declared) 1048576)) (λ _. ends_in_fault fault.DepthFull s))
    (lt-ltb (length s.now) 10000 full.0)
    ∙ ap cells (lt-leb (live_cells s.now + h.declared) 1048576 full.1)

pub ruleset enters = (one_frame, enters_room, enters_deep, enters_full)

-- ---- returns

-- the last frame ends the run
pub returns_last : (s : State) → length s.now ≡ 1
    → if_true (nat_eq (length s.now) 1) (λ _. ends_run end.Succeeded s) (λ _. answers_return (state_after_leave s)) ≡ ends_run end.Succeeded
    s
returns_last s e = ap (λ b. if_true b (λ _. ends_run end.Succeeded s) (λ _. answers_return (state_after_leave s)))
    (eq-eqb (length s.now) 1 e)

-- another is left
pub returns_left : (s : State) → (length s.now ≡ 1 → ⊥)
    → if_true (nat_eq (length s.now) 1) (λ _. ends_run end.Succeeded s) (λ _. answers_return (state_after_leave s)) ≡ answers_return
    (state_after_leave s)
returns_left s ne = ap (λ b. if_true b (λ _. ends_run end.Succeeded s) (λ _. answers_return (state_after_leave s)))
    (ne_eqb (length s.now) 1 ne)

pub ruleset returns = (returns_last, returns_left)
