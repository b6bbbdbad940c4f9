-- The rows of instructions that name a range of the code.
use Rattle.std.proofs.Common.{◌≡◌, ℕ, List, ap, sym, ◌∙◌, Some}
use Rattle.std.specs.Prelude.{◌+◌, ◌*◌, ◌-ℤ◌, nat_abs, map, option_map, Option, None, slice_get}
use Rattle.std.proofs.lemmas.Option.{slice_get-map, get_or_from_slice_get}
use Rattle.std.proofs.Math.ListN.{get_or-map}
use Rattle.alma_base.specs.Reading.{number_from}
use Rattle.alma_code.specs.Head.{PlainHead}
use Rattle.alma_base.specs.declared.number.Range.{Range}
use Rattle.alma_base.specs.declared.fault.RunFault.TheVariants as fault
use Rattle.alma_code.specs.declared.instr.Instr.TheVariants as I
use Rattle.alma_code.specs.Machine.{State, StepResult, act, number, place, content, binds_content, range_check, as_range, quiet_step}
use Rattle.alma_code.specs.Machine.{put_place, equation, position, takes_read, byte_or_failure, arguments, enters_routine, as_routine}
use Rattle.alma_code.specs.Plain.{PlainCode, PlainRoutine, no_routine, head_at, start_at}

-- a number is looked for in a range of the code
pub in_range_is : (code : PlainCode) (input : List ℕ) (value range : ℕ) (s : State) (r : Range) → Some r ≡ slice_get code.ranges range
    → number s value (λ v. range_check r fault.Range s v (λ _. quiet_step s)) ≡ act code input (I.InRange value range) s
unfolding act
in_range_is code input value range s r is =
    ap (λ o. number s value (λ v. as_range o s (λ t. range_check t fault.Range s v (λ _. quiet_step s)))) is

-- a cell is bound in a range of the code
pub bind_is : (code : PlainCode) (input : List ℕ) (to value range : ℕ) (s : State) (r : Range) → Some r ≡ slice_get code.ranges range
    → place s to (λ p. number s value (λ v. content s p.frame p.slot (λ u. binds_content s p r v u))) ≡ act code input
    (I.Bind to value range) s
unfolding act
bind_is code input to value range s r is =
    ap (λ o. place s to (λ p. number s value (λ v. as_range o s (λ t. content s p.frame p.slot (λ u. binds_content s p t v u))))) is

-- a part is looked for in a range of the code
pub index_is : (code : PlainCode) (input : List ℕ) (to from index range : ℕ) (s : State) (r : Range) → Some r ≡ slice_get code.ranges range
    → place s from (λ p. number s index (λ v. range_check r fault.Index s v
    (λ _. put_place s to p.frame (λ l. p.slot + nat_abs (v -ℤ r.low) * l)))) ≡ act code input (I.Index to from index range) s
unfolding act
index_is code input to from index range s r is =
    ap (λ o. place s from (λ p. number s index
    (λ v. as_range o s (λ r. range_check r fault.Index s v (λ _. put_place s to p.frame (λ l. p.slot + nat_abs (v -ℤ r.low) * l)))))) is

-- cells are equated in ranges of the code
pub unify_is : (code : PlainCode) (input : List ℕ) (left first right second : ℕ) (s : State) (r t : Range)
    → Some r ≡ slice_get code.ranges first → Some t ≡ slice_get code.ranges second
    → place s left (λ p. place s right (λ q. equation s p.frame p.slot (Some r) q.frame q.slot (Some t) quiet_step)) ≡ act code input
    (I.Unify left first right second) s
unfolding act
unify_is code input left first right second s r t a b =
    ap (λ o. place s left (λ p. place s right
    (λ q. as_range o s (λ t. equation s p.frame p.slot (Some r) q.frame q.slot (Some t) quiet_step)))) b
    ∙ ap (λ o. place s left (λ p. as_range o s
    (λ r. place s right (λ q. as_range (slice_get code.ranges second) s
    (λ t. equation s p.frame p.slot (Some r) q.frame q.slot (Some t) quiet_step))))) a

-- a number is read in a range of the code
pub read_int_is : (code : PlainCode) (input : List ℕ) (to range : ℕ) (s : State) (r : Range) → Some r ≡ slice_get code.ranges range
    → place s to (λ p. position s (λ n. takes_read s r p (number_from input n))) ≡ act code input (I.ReadInt to range) s
unfolding act
read_int_is code input to range s r is =
    ap (λ o. place s to (λ p. as_range o s (λ t. position s (λ n. takes_read s t p (number_from input n))))) is

-- a byte is read in a range of the code
pub read_char_is : (code : PlainCode) (input : List ℕ) (to range : ℕ) (s : State) (r : Range) → Some r ≡ slice_get code.ranges range
    → place s to (λ p. position s (λ n. byte_or_failure s r p n (slice_get input n))) ≡ act code input (I.ReadChar to range) s
unfolding act
read_char_is code input to range s r is =
    ap (λ o. place s to (λ p. as_range o s (λ t. position s (λ n. byte_or_failure s t p n (slice_get input n))))) is

-- what is there, or another
abbrev get_some : PlainHead → Option PlainHead → PlainHead
get_some other (Some x) = x
get_some other None = other

-- the head of a routine that is there
head_of_some : (o : Option PlainRoutine) (hd : PlainHead) (s : State) (k : PlainHead → StepResult) → Some hd ≡ option_map (λ r. r.head) o
    → k hd ≡ as_routine o s k
head_of_some (Some r) hd s k is = ap k (ap (λ o. get_some hd o) is)
head_of_some None hd s k is = absurd (cc)

-- a routine of the code is called
pub call_is : (code : PlainCode) (input : List ℕ) (routine first to : ℕ) (s : State) (hd : PlainHead)
    → Some hd ≡ slice_get (map (λ (r : PlainRoutine). r.head) code.routines) routine
    → arguments hd.params s first (λ args. enters_routine s routine (start_at code routine) hd args) ≡ act code input
    (I.Call routine first to) s
unfolding act
call_is code input routine first to s hd is =
    head_of_some (slice_get code.routines routine) hd s
    (λ h. arguments h.params s first (λ args. enters_routine s routine (start_at code routine) h args))
    (is ∙ slice_get-map (λ (r : PlainRoutine). r.head) code.routines routine)

-- its head is the one that is called
pub head_is : (code : PlainCode) (routine : ℕ) (hd : PlainHead)
    → Some hd ≡ slice_get (map (λ (r : PlainRoutine). r.head) code.routines) routine → head_at code routine ≡ hd
head_is code routine hd is =
    let heads = map (λ (r : PlainRoutine). r.head) code.routines in
    sym (get_or-map (λ (r : PlainRoutine). r.head) code.routines routine no_routine)
    ∙ get_or_from_slice_get heads routine hd no_routine.head (sym is)

pub ruleset actings = (in_range_is, bind_is, index_is, unify_is, read_int_is, read_char_is, call_is)
