-- The pieces of code that phrases share. An expression's value stands in a slot, a designator's place too; where a value is
-- used at once, a variable of the routine stands for itself.
use Rattle.std.specs.Prelude.{ℕ, zero, suc, ◌+◌, Bool, true, false, ℤ, pos, negsuc, List, [], ◌∷◌, ◌++◌, length, Option, Some, None}
use Rattle.std.specs.Prelude.{if◌then◌else◌}
use Rattle.alma_base.specs.Numbers.{int_eq}
use Rattle.alma_base.specs.declared.number.Range.{Range}
use Rattle.alma_code.specs.declared.instr.Instr.{Instr}
use Rattle.alma_code.specs.declared.instr.Instr.TheVariants as I
use Rattle.alma_ir.specs.declared.phrase.Op.{Op}
use Rattle.alma_ir.specs.declared.phrase.Op.TheVariants as op
use Rattle.alma_ir.specs.declared.phrase.Cmp.{Cmp}
use Rattle.alma_ir.specs.declared.phrase.Cmp.TheVariants as cmp
use Rattle.alma_ir.specs.declared.phrase.ReadAs.{ReadAs}
use Rattle.alma_ir.specs.declared.phrase.ReadAs.TheVariants as read_as
use Rattle.alma_ir.specs.declared.phrase.WriteAs.{WriteAs}
use Rattle.alma_ir.specs.declared.phrase.WriteAs.TheVariants as write_as
use Rattle.alma_ir.specs.Tree.{CaseArms, no_cases, more_cases}
use Rattle.alma_lower_templates.specs.LineInstr.{LineInstr, own, in_row}
use Rattle.alma_lower_templates.specs.Tables.{Tables, range_number, is_whole}

-- ---- numbers

-- an operator on two numbers, whose result goes into the slot `to`
abbrev pub op_code : Op → (to first operand : ℕ) → Instr
op_code op.Add to first operand = I.Add to first operand
op_code op.Sub to first operand = I.Sub to first operand
op_code op.Mul to first operand = I.Mul to first operand
op_code op.Div to first operand = I.Div to first operand
op_code op.Mod to first operand = I.Mod to first operand

-- what is said of the first value and the other goes into the slot `to`
abbrev pub cmp_code : Cmp → (to first other : ℕ) → List Instr
cmp_code cmp.Equal to first other = I.Equal to first other ∷ []
cmp_code cmp.Unequal to first other = I.Equal to first other ∷ I.Flip to to ∷ []
cmp_code cmp.Less to first other = I.Less to first other ∷ []
cmp_code cmp.LessEq to first other = I.LessEq to first other ∷ []
cmp_code cmp.Greater to first other = I.Less to other first ∷ []
cmp_code cmp.GreaterEq to first other = I.LessEq to other first ∷ []

-- 0 goes into the slot `to` where that is said of the first value and the other; not asked of equality, whose opposite takes one more
abbrev pub opposite_code : Cmp → (to first other : ℕ) → Instr
opposite_code cmp.Equal to first other = I.Equal to first other
opposite_code cmp.Unequal to first other = I.Equal to first other
opposite_code cmp.Less to first other = I.LessEq to other first
opposite_code cmp.LessEq to first other = I.Less to other first
opposite_code cmp.Greater to first other = I.LessEq to first other
opposite_code cmp.GreaterEq to first other = I.Less to first other

-- the end of a test of inequality, at an address: it fails where the numbers are equal, and else goes over the failure
abbrev pub unequal_code : (to first other at : ℕ) → List Instr
unequal_code to first other at = I.Equal to first other ∷ I.JumpZero to (at + 3) ∷ I.Fail ∷ []

-- the instruction with its number put into another slot
abbrev pub aim : (to : ℕ) → Instr → Instr
aim to (I.Const old n) = I.Const to n
aim to (I.Load old place) = I.Load to place
aim to (I.Add old first operand) = I.Add to first operand
aim to (I.Sub old first operand) = I.Sub to first operand
aim to (I.Mul old first operand) = I.Mul to first operand
aim to (I.Div old first operand) = I.Div to first operand
aim to (I.Mod old first operand) = I.Mod to first operand
aim to i = i

-- the instruction with its place put into another slot
abbrev pub aim_place : (to : ℕ) → Instr → Instr
aim_place to (I.Local old first) = I.Local to first
aim_place to (I.Global old first) = I.Global to first
aim_place to (I.Same old from) = I.Same to from
aim_place to (I.Outer old link first) = I.Outer to link first
aim_place to (I.OuterSame old link from) = I.OuterSame to link from
aim_place to (I.Field old from offset) = I.Field to from offset
aim_place to (I.Index old from index range) = I.Index to from index range
aim_place to i = i

-- code with its last instruction changed
abbrev pub with_last : (change : Instr → Instr) → List LineInstr → List LineInstr
with_last change [] = []
with_last change (x ∷ []) = record { line = x.line; instr = change x.instr } ∷ []
with_last change (x ∷ (y ∷ rest)) = x ∷ with_last change (y ∷ rest)

-- code whose last instruction puts its number into another slot
abbrev pub straight : (to : ℕ) → List LineInstr → List LineInstr
straight to code = with_last (aim to) code

-- code whose last instruction puts its place into another slot
abbrev pub place_code : (to : ℕ) → List LineInstr → List LineInstr
place_code to code = with_last (aim_place to) code

-- the change of a sign, where there is one to change
abbrev pub neg_code : Bool → (to from : ℕ) → List Instr
neg_code true to from = I.Neg to from ∷ []
neg_code false to from = []

-- the number in a slot is written in one of three forms
abbrev pub write_code : WriteAs → (from : ℕ) → Instr
write_code write_as.Int from = I.WriteInt from
write_code write_as.Bool from = I.WriteBool from
write_code write_as.Char from = I.WriteChar from

-- a value in one of two forms, of the range of this number, is read into the variable at a place
abbrev pub read_code : ReadAs → (place range : ℕ) → Instr
read_code read_as.Int place range = I.ReadInt place range
read_code read_as.Char place range = I.ReadChar place range

-- a check, or nothing where the range is whole
abbrev pub unless_whole : Bool → List Instr → List Instr
unless_whole true check = []
unless_whole false check = check

-- the check that a number is in a range; none for a range of all numbers
abbrev pub fit_code : Tables → Range → (value : ℕ) → List Instr
fit_code tables range value = unless_whole (is_whole range) (I.InRange value (range_number tables range) ∷ [])

-- a number goes to a slot: straight, where its code puts it in place alone, or from the slot `value`, behind its check
abbrev pub put_code : (straightly : Bool) → (line to value : ℕ) → (check : List Instr) → (code : List LineInstr) → List LineInstr
put_code true line to value check code = straight to code
put_code false line to value check code = code ++ own line (check ++ (I.Move to value ∷ []))

-- ---- links

-- from a link in the slot `from`, links to the frames on the way so many links up, each in the next slot
abbrev pub chain_code : (from links : ℕ) → List Instr
chain_code from zero = []
chain_code from (suc links) = I.Chain (from + 1) from 0 ∷ chain_code (from + 1) links

-- a link to the frame so many links up, in the slot `lo + links`
abbrev pub link_code : (lo links : ℕ) → List Instr
link_code lo links = I.Own lo ∷ chain_code lo links

-- ---- choices

-- the front of a phrase of which the first alternative is taken: where it has none, the code goes on at `none`. `Cut mark`
-- goes behind the phrase
abbrev pub begin_first : (line mark none : ℕ) → List LineInstr
begin_first line mark none = own line (I.Mark mark ∷ I.Choose none ∷ [])

-- a condition: where it has no alternative the code goes on at `none`. A simple one is tested by a jump
abbrev pub condition : (simple : Bool) → (line at lo none : ℕ) → (jump : (at lo none : ℕ) → List LineInstr)
    → (test : (at lo : ℕ) → List LineInstr)
    → List LineInstr
condition true line at lo none jump test = jump at lo none
condition false line at lo none jump test = begin_first line lo none ++ (test (at + 2) (lo + 1) ++ own line (I.Cut lo ∷ []))

-- a condition and what is done where it has an alternative; where it has none the code goes on `skipped` instructions
-- behind that
abbrev pub guarded_by : (at behind skipped : ℕ) → (condition : (none : ℕ) → List LineInstr) → (body : List LineInstr) → List LineInstr
guarded_by at behind skipped condition body = condition (behind + length body + skipped) ++ body

-- the same at an address, where the body is given the address at which it stands
abbrev pub guard_code : (at skipped : ℕ) → (condition : (none : ℕ) → List LineInstr) → (body : (at : ℕ) → List LineInstr) → List LineInstr
guard_code at skipped condition body =
    guarded_by at (at + length (condition 0)) skipped condition (body (at + length (condition 0)))

-- an alternative that is not the last, with the jump behind it
abbrev pub branch_code : (line at : ℕ) → (inner : List LineInstr) → List LineInstr
branch_code line at inner = own line (I.Choose (at + length inner + 1) ∷ []) ++ inner

-- an operand of OR that is not the last, with the jump behind it
abbrev pub first_of_two : (line at mark : ℕ) → (inner : List LineInstr) → List LineInstr
first_of_two line at mark inner = begin_first line mark (at + length inner + 2) ++ (inner ++ own line (I.Cut mark ∷ []))

-- NOT: an alternative fails, none goes on behind
abbrev pub not_code : (line at mark : ℕ) → (inner : List LineInstr) → List LineInstr
not_code line at mark inner = begin_first line mark (at + length inner + 2) ++ (inner ++ own line (I.Cut mark ∷ I.Fail ∷ []))

-- a condition as a number: 1 where it has an alternative, 0 where it has none
abbrev pub truth_code : (line to at : ℕ) → List LineInstr
truth_code line to at = own line (I.Const to (pos 1) ∷ I.Jump (at + 3) ∷ I.Const to (pos 0) ∷ [])

-- ---- FORALL

-- the front of FORALL: where no alternative is left the code goes on at `out`
abbrev pub begin_forall : (line mark out : ℕ) → List LineInstr
begin_forall line mark out = own line (I.Forall mark out ∷ [])

-- behind the alternative of the first part: the carry is laid over, and a body goes to `next` when it fails
abbrev pub begin_each : (line mark inner next : ℕ) → List LineInstr
begin_each line mark inner next = own line (I.Overlay mark next ∷ I.Mark inner ∷ [])

-- behind a body: its other alternatives are cut, what it changed is kept, and it fails
abbrev pub end_each : (line mark inner : ℕ) → List LineInstr
end_each line mark inner = own line (I.Cut inner ∷ I.Keep mark ∷ I.Fail ∷ [])

-- the end of FORALL, when all alternatives of the first part are done
abbrev pub end_forall : (line : ℕ) → List LineInstr
end_forall line = own line (I.Finish ∷ [])

-- the second part of FORALL, whose body stands at `at`, behind `begin_each`; when it is done or fails, the `Fail` of `end_each`
-- goes on to the next alternative of the first part
abbrev pub each_body : (line at mark inner : ℕ) → (body : List LineInstr) → List LineInstr
each_body line at mark inner body = begin_each line mark inner (at + length body + 2) ++ (body ++ end_each line mark inner)

-- FORALL round both parts, which stand at `at`; with no alternative left the `Finish` follows
abbrev pub forall_code : (line at mark : ℕ) → (parts : List LineInstr) → List LineInstr
forall_code line at mark parts = begin_forall line mark (at + length parts) ++ (parts ++ end_forall line)

-- ---- loops

-- WHILE whose condition stands behind its body: the first jump leads there, and while the condition holds its end leads back to the body
abbrev pub turned_loop : (line at : ℕ) → (body : List LineInstr) → (condition : (at : ℕ) → List LineInstr) → List LineInstr
turned_loop line at body condition =
    own line (I.Jump (at + 1 + length body) ∷ []) ++ (body ++ condition (at + 1 + length body))

-- a constant that is put into a slot before a loop, where there is one
abbrev pub held_code : (constant : Option ℤ) → (to : ℕ) → List Instr
held_code (Some n) to = I.Const to n ∷ []
held_code None to = []

-- the slot of an operand: `held` where it is such a constant, else the other
abbrev pub held_or : (constant : Option ℤ) → (held other : ℕ) → ℕ
held_or (Some n) held other = held
held_or None held other = other

-- the first count goes to its slot: a constant itself, and another value from where it stands
abbrev pub count_from : (constant : Option ℤ) → (counter first : ℕ) → Instr
count_from (Some n) counter first = I.Const counter n
count_from None counter first = I.Move counter first

-- no code where there is such a constant
abbrev pub unless_constant : (constant : Option ℤ) → List LineInstr → List LineInstr
unless_constant (Some n) value = []
unless_constant None value = value

-- the limit goes to its slot
abbrev pub limit_code : (alone : Bool) → (line limit value : ℕ) → (code : List LineInstr) → List LineInstr
limit_code alone line limit value code = put_code alone line limit value [] code

-- whether a loop has a turn: the slot `to` becomes 0 where the first count is beyond the limit
abbrev pub entry_code : (by : ℤ) → (to counter limit : ℕ) → Instr
entry_code (pos step) to counter limit = I.LessEq to counter limit
entry_code (negsuc step) to counter limit = I.LessEq to limit counter

-- the step of a loop, and both bounds
abbrev pub begin_loop : (line at step : ℕ) → (by : ℤ) → (from to : (at : ℕ) → List LineInstr) → List LineInstr
begin_loop line at step by from to = own line (I.Const step by ∷ []) ++ in_row (at + 1) (from (at + 1)) to

-- behind the limit: the first count is set, so both bounds are there at one point, and where there is no turn the code goes
-- on at `empty`
abbrev pub bounds_code : (by : ℤ) → (constant : Option ℤ) → (counter limit first empty : ℕ) → List Instr
bounds_code by constant counter limit first empty =
    count_from constant counter first ∷ entry_code by first counter limit ∷ I.JumpZero first empty ∷ []

-- a turn: the count is checked, the variable is located and set, and the body follows
abbrev pub turn_code : (line at : ℕ) → (check : List Instr) → (locate : (at : ℕ) → List LineInstr) → (store : Instr)
    → (body : (at : ℕ) → List LineInstr) → List LineInstr
turn_code line at check locate store body =
    in_row at (own line check) (λ at. in_row at (locate at) (λ at. own line (store ∷ []) ++ body (at + 1)))

-- the turns of FOR: behind each comes the next, or what is behind the loop
abbrev pub for_turns : (line at : ℕ) → (by : ℤ) → (constant : Option ℤ) → (counter limit step first : ℕ) → (turn : List LineInstr)
    → List LineInstr
for_turns line at by constant counter limit step first turn =
    own line (bounds_code by constant counter limit first (at + 3 + length turn + 2))
    ++ (turn ++ own line (I.Step counter limit step (at + 3 + length turn + 2) ∷ I.Jump (at + 3) ∷ []))

-- what stands before the turns of SOME, at an address
abbrev pub some_front : (at : ℕ) → (constant : Option ℤ) → (counter limit step first more : ℕ) → List Instr
some_front at constant counter limit step first more =
    count_from constant counter first ∷ I.LessEq first counter limit ∷ I.Check first ∷ I.Jump (at + 5)
    ∷ I.Add counter counter step ∷ I.Less more counter limit ∷ I.JumpZero more (at + 8) ∷ I.Choose (at + 4) ∷ []

-- the turns of SOME: each but the last has a choice entry, which goes on where the count is raised, before the next turn; a loop
-- without turns fails
abbrev pub some_turns : (line at : ℕ) → (constant : Option ℤ) → (counter limit step first more : ℕ) → (turn : List LineInstr)
    → List LineInstr
some_turns line at constant counter limit step first more turn =
    own line (some_front at constant counter limit step first more) ++ turn

-- ---- CASE

-- the one or the other, by whether a label is one number
abbrev pub by_label : {A : Type 0} → Range → (single between : A) → A
by_label label single between = if int_eq label.low label.high then single else between

-- how many instructions test a label
abbrev pub test_size : Range → ℕ
test_size label = by_label label 3 6

-- the test of a label of one number
abbrev pub single_test : (value bound miss : ℕ) → (number : ℤ) → List Instr
single_test value bound miss number =
    I.Const bound number ∷ I.Equal (bound + 1) bound value ∷ I.JumpZero (bound + 1) miss ∷ []

-- the test of a label that is a range
abbrev pub between_test : (value bound miss : ℕ) → Range → List Instr
between_test value bound miss label =
    I.Const bound label.low ∷ I.LessEq (bound + 1) bound value ∷ I.JumpZero (bound + 1) miss
    ∷ I.Const bound label.high ∷ I.LessEq (bound + 1) value bound ∷ I.JumpZero (bound + 1) miss ∷ []

-- the test of a label: goes to `miss` where the number in the slot `value` is not in it, else on behind
abbrev pub label_test : (value bound miss : ℕ) → Range → List Instr
label_test value bound miss label = by_label label (single_test value bound miss label.low) (between_test value bound miss label)

-- a label that is not the last of its arm: goes to `hit` where the number in the slot `value` lies in it, else on behind
abbrev pub label_code : (value bound at hit : ℕ) → Range → List Instr
label_code value bound at hit label = label_test value bound (at + test_size label + 1) label ++ (I.Jump hit ∷ [])

-- behind the last label of an arm the code goes on where the number lies in it, else at `miss`
abbrev pub labels_code : (value bound at hit miss : ℕ) → Range → List Range → List Instr
labels_code value bound at hit miss label [] = label_test value bound miss label
labels_code value bound at hit miss label (label' ∷ rest) =
    label_code value bound at hit label ++ labels_code value bound (at + test_size label + 1) hit miss label' rest

-- the address behind the labels of an arm
abbrev pub behind_labels : (at : ℕ) → Range → List Range → ℕ
behind_labels at label [] = at + test_size label
behind_labels at label (label' ∷ rest) = behind_labels (at + test_size label + 1) label' rest

-- an arm: its labels and its body, with the jump behind it by which it leaves
abbrev pub case_arm : (line value bound at : ℕ) → Range → List Range → (body : List LineInstr) → List LineInstr
case_arm line value bound at label rest body =
    own line (labels_code value bound at (behind_labels at label rest) (behind_labels at label rest + length body + 1) label rest)
    ++ body

-- code that is never reached, and before it the jump that leads over it, where there is some
abbrev pub passed_over : Bool → (line at : ℕ) → List LineInstr → List LineInstr
passed_over false line at dead = []
passed_over true line at dead = own line (I.Jump (at + 1 + length dead) ∷ []) ++ dead

-- whether an arm of CASE has no label, and so is never tried
abbrev pub has_dead : CaseArms → Bool
has_dead no_cases = false
has_dead (more_cases [] body rest) = true
has_dead (more_cases (label ∷ labels) body rest) = has_dead rest

-- ---- calls

-- a call goes by its first argument slot, or 0 where nothing is handed over
abbrev pub first_argument : (handed first : ℕ) → ℕ
first_argument zero first = 0
first_argument (suc more) first = first
