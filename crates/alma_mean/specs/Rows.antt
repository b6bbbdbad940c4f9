-- The rows of the meaning, each given the events of its parts. `Meaning` says what these parts are.
use Rattle.std.specs.Prelude.{ℕ, zero, suc, ◌+◌, ◌*◌, Bool, true, false, nat_lt, nat_le, ℤ, pos, ◌+ℤ◌, ◌-ℤ◌, nat_abs, List, [], ◌∷◌, ◌++◌}
use Rattle.std.specs.Prelude.{length, replicate, drop, set, Option, Some, None, sum_by}
use Rattle.alma_base.specs.Limits.{cell_limit, frame_limit}
use Rattle.alma_base.specs.Choice.{if_true}
use Rattle.alma_base.specs.Numbers.{within, int_eq, is_beyond}
use Rattle.alma_base.specs.Carry.{Carry, with_changes}
use Rattle.alma_base.specs.Reading.{number_from}
use Rattle.alma_base.specs.declared.number.Range.{Range}
use Rattle.alma_base.specs.declared.number.ReadInt.{ReadInt}
use Rattle.alma_base.specs.declared.number.ReadInt.TheVariants as found
use Rattle.alma_base.specs.declared.fault.RunFault.TheVariants as fault
use Rattle.alma_ir.specs.declared.phrase.Root.{Root}
use Rattle.alma_ir.specs.declared.phrase.Root.TheVariants as root
use Rattle.alma_ir.specs.declared.phrase.ReadAs.{ReadAs}
use Rattle.alma_ir.specs.declared.phrase.ReadAs.TheVariants as read_as
use Rattle.alma_ir.specs.declared.program.Param.{Param}
use Rattle.alma_ir.specs.Tree.{Routine, Program, routine_at}
use Rattle.alma_mean.specs.Store.{Store, Frame, Cell, Place, Unknown, Number, At, cell_at, put, put_all, cells_of, cell_of, put_at, part}
use Rattle.alma_mean.specs.Store.{top, up, top_cell, put_top, without_top, over, changes}
use Rattle.alma_mean.specs.Events.{Events, NoYield, Visit, Print, Alt, Flow, Go, Return, Fail, Fault, Cut, one, join, bind, on_first}
use Rattle.alma_mean.specs.Arithmetic.{check_range, fault_unless}

-- ---- numbers and places

-- the number of a cell, or fault Unknown
abbrev pub read_cell : {A : Type 0} → Cell → (ℤ → Events A) → Events A
read_cell (Number n) k = k n
read_cell Unknown k = Fault fault.Unknown 0
read_cell (At p) k = Fault fault.Unknown 0

-- 1 where the cell is known, and else 0
abbrev pub known_bit : Cell → ℤ
known_bit (Number n) = pos 1
known_bit Unknown = pos 0
known_bit (At p) = pos 0

-- the place that a cell holds, or fault Unknown
abbrev pub place_held : Store → Cell → Events Place
place_held s (At p) = one s p
place_held s Unknown = Fault fault.Unknown 0
place_held s (Number n) = Fault fault.Unknown 0

-- the place of a root: cells of the frame on top, of the global frame or of a frame up the links,
-- or the place that a parameter holds there
abbrev pub root_place : Store → Root → ℕ → Events Place
root_place s (root.Local slot) cells = one s (record { frame = top s; slot = slot; size = cells })
root_place s (root.Global slot) cells = one s (record { frame = 0; slot = slot; size = cells })
root_place s (root.Param slot) cells = place_held s (top_cell s slot)
root_place s (root.Outer links slot) cells = one s (record { frame = up s links; slot = slot; size = cells })
root_place s (root.OuterParam links slot) cells = place_held s (cell_at s (up s links) slot)

-- the element of an array with this index, or fault Index
abbrev pub index_place : Store → Place → ℤ → Range → ℕ → Events Place
index_place s p n range cells =
    fault_unless fault.Index (within range n) (λ _. one s (part p (nat_abs (n -ℤ range.low) * cells) cells))

-- ---- equations

-- one alternative where the test is true, and else none
abbrev pub succeed_if : Store → Bool → Events NoYield
succeed_if s true = one s tt
succeed_if s false = Fail

-- a cell against a number: it fails where they differ, and an unknown cell gets the number.
-- The range is asked only there, so a known cell against a number outside its type just fails
abbrev pub bind_cell : Store → Place → Cell → Range → ℤ → Events NoYield
bind_cell s p (Number a) range n = succeed_if s (int_eq a n)
bind_cell s p Unknown range n = check_range range n (λ _. one (put_at s p (Number n)) tt)
bind_cell s p (At q) range n = check_range range n (λ _. one (put_at s p (Number n)) tt)

-- two cells: where one is known the other is taken against its number, as by `bind_cell`; where
-- neither is, fault Unknown
abbrev pub unify_cells : Store → Place → Cell → Range → Place → Cell → Range → Events NoYield
unify_cells s p (Number a) r q c r' = bind_cell s q c r' a
unify_cells s p Unknown r q (Number b) r' = bind_cell s p Unknown r b
unify_cells s p Unknown r q Unknown r' = Fault fault.Unknown 0
unify_cells s p Unknown r q (At y) r' = Fault fault.Unknown 0
unify_cells s p (At x) r q (Number b) r' = bind_cell s p (At x) r b
unify_cells s p (At x) r q Unknown r' = Fault fault.Unknown 0
unify_cells s p (At x) r q (At y) r' = Fault fault.Unknown 0

-- two cells of one type, so that no range is asked; k goes on
abbrev pub match_cell : Store → Place → Cell → Place → Cell → (Store → Events NoYield) → Events NoYield
match_cell s p (Number a) q (Number b) k = bind (succeed_if s (int_eq a b)) (λ t _. k t)
match_cell s p (Number a) q Unknown k = k (put_at s q (Number a))
match_cell s p (Number a) q (At y) k = k (put_at s q (Number a))
match_cell s p Unknown q (Number b) k = k (put_at s p (Number b))
match_cell s p Unknown q Unknown k = Fault fault.Unknown 0
match_cell s p Unknown q (At y) k = Fault fault.Unknown 0
match_cell s p (At x) q (Number b) k = k (put_at s p (Number b))
match_cell s p (At x) q Unknown k = Fault fault.Unknown 0
match_cell s p (At x) q (At y) k = Fault fault.Unknown 0

-- n cells of two places in their order, each in the store that the one before left;
-- it fails or faults at the first that does
abbrev pub match_cells : ℕ → Store → Place → Place → Events NoYield
match_cells zero s p q = one s tt
match_cells (suc n) s p q = match_cell s p (cell_of s p) q (cell_of s q) (λ t. match_cells n t (part p 1 n) (part q 1 n))

-- the first place's cells from the second's, all at once, unknown ones included
abbrev pub copy_cells : Store → Place → Place → Store
copy_cells s p q = put_all s p.frame p.slot (cells_of s q)

-- ---- CASE

-- a visit for each label that is tried, until one holds the number
abbrev pub try_labels : List Range → ℤ → (arm next : Unit {0} → Events NoYield) → Events NoYield
try_labels [] n arm next = next tt
try_labels (label ∷ rest) n arm next = Visit (if_true (within label n) arm (λ _. try_labels rest n arm next))

-- ---- loops: a turn, given the events of its parts and of the next turn; it begins with a visit

-- by the first alternative of the condition: in its store the body, and behind each of its
-- alternatives the next turn; where the condition has none, the store in which the turn began goes
-- on
abbrev pub while_turn : (cond body again : Store → Events NoYield) → Store → Events NoYield
while_turn cond body again s = Visit (on_first (cond s) (λ t _. bind (body t) (λ u _. again u)) (λ _. one s tt))

-- where the condition has no alternative, the next turn begins in the store after the body
abbrev pub repeat_turn : (body cond again : Store → Events NoYield) → Store → Events NoYield
repeat_turn body cond again s = Visit (bind (body s) (λ t _. on_first (cond t) (λ u _. one u tt) (λ _. again t)))

-- the range is checked, and then the variable is located and set, anew in each turn
abbrev pub set_variable : (locate : Store → Events Place) → Range → Store → ℤ → (Store → Events NoYield) → Events NoYield
set_variable locate range s n k =
    check_range range n (λ _. bind (locate s) (λ t p. k (put_at t p (Number n))))

-- `last` where the next count is beyond the limit, and else the next turn, with that count.
-- The count is exact and never overflows
abbrev pub next_turn : (counter limit : ℕ) (by : ℤ) (again : Store → Events NoYield) → Store → Events NoYield → Events NoYield
next_turn counter limit by again s last =
    read_cell (top_cell s counter) (λ n. read_cell (top_cell s limit) (λ l.
    if_true (is_beyond (n +ℤ by) l by) (λ _. last) (λ _. again (put_top s counter (Number (n +ℤ by))))))

-- the body, and behind each of its alternatives the end of the loop or the next turn
abbrev pub for_turn : (locate : Store → Events Place) → Range → (counter limit : ℕ) (by : ℤ) (body again : Store → Events NoYield) → Store
    → Events NoYield
for_turn locate range counter limit by body again s =
    Visit (read_cell (top_cell s counter) (λ n. set_variable locate range s n (λ t.
    bind (body t) (λ u _. next_turn counter limit by again u (one u tt)))))

-- the variable set and the body, and after their alternatives, or where there are none, the next
-- turn, from the store in which this turn began: that store does not have the variable's new value
abbrev pub some_turn : (locate : Store → Events Place) → Range → (counter limit : ℕ) (body again : Store → Events NoYield) → Store
    → Events NoYield
some_turn locate range counter limit body again s =
    Visit (read_cell (top_cell s counter) (λ n.
    join (set_variable locate range s n body) (next_turn counter limit (pos 1) again s Fail)))

-- counter and limit stored, and then the first turn, or `empty` where there is none
abbrev pub begin_loop : (counter limit : ℕ) (by from to : ℤ) → Store → (turn empty : Store → Events NoYield) → Events NoYield
begin_loop counter limit by from to s turn empty =
    let t : Store = put_top (put_top s counter (Number from)) limit (Number to) in
    if_true (is_beyond from to by) (λ _. empty t) (λ _. turn t)

-- ---- FORALL

-- goes through the alternatives of S with the carry so far. In the store of each, with the carry
-- over it, stand the events of T up to its first alternative; what T left different joins the
-- carry, which only gains. At the end of S the store on entry goes on with the carry over it. An
-- alternative by RETURN, which no source can give, counts too. The input position is a cell like
-- others: what T read stays read, also over what S read before its next alternative
abbrev pub forall_row : (then_do : Store → Events NoYield) → Store → Carry Cell → Events NoYield → Events NoYield
forall_row then_do s carry (Visit e) = Visit (forall_row then_do s carry e)
forall_row then_do s carry (Print b e) = Print b (forall_row then_do s carry e)
forall_row then_do s carry (Alt x w e) =
    on_first (then_do (over x carry))
    (λ t _. forall_row then_do s (with_changes (changes (over x carry) t) carry) e)
    (λ _. forall_row then_do s carry e)
forall_row then_do s carry Fail = one (over s carry) tt
forall_row then_do s carry (Fault x l) = Fault x l
forall_row then_do s carry Cut = Cut

-- ---- READ

-- the number in a cell without its sign, or 0 where there is none. It is asked of the input
-- position alone, which is never below 0
abbrev pub nat_in : Cell → ℕ
nat_in (Number n) = nat_abs n
nat_in Unknown = 0
nat_in (At p) = 0

-- the input position
abbrev pub position : Store → ℕ
position s = nat_in (cell_at s 0 0)

-- the store with the input position there
abbrev pub set_position : Store → ℕ → Store
set_position s n = put s 0 0 (Number (pos n))

-- what was found is stored, and the position set behind it. Where nothing was found it fails and
-- moves nothing. A number outside 64 bits is fault ReadRange, one outside the variable's type fault
-- Range
abbrev pub store_number : Store → Place → Range → ReadInt → Events NoYield
store_number s p range found.NoNumber = Fail
store_number s p range found.TooLarge = Fault fault.ReadRange 0
store_number s p range (found.Number n place) = check_range range n (λ _. one (put_at (set_position s place) p (Number n)) tt)

-- the first byte of the input that is left is stored, and the position set behind it. At the end of
-- the input it fails; a byte outside the variable's type is fault Range
abbrev pub store_byte : Store → Place → Range → ℕ → List ℕ → Events NoYield
store_byte s p range place [] = Fail
store_byte s p range place (c ∷ rest) = check_range range (pos c) (λ _. one (put_at (set_position s (suc place)) p (Number (pos c))) tt)

-- on an INTEGER type a number is read, on a CHAR type one byte; the place was located before
abbrev pub read_row : List ℕ → ReadAs → Store → Place → Range → Events NoYield
read_row input read_as.Int s p range = store_number s p range (number_from input (position s))
read_row input read_as.Char s p range = store_byte s p range (position s) (drop (position s) input)

-- ---- calls

-- an argument that was taken: a number for a value or for a MIX parameter, a place, or a place
-- whose cells are copied
pub data ArgValue : Type 0 where
  ArgNumber : ℤ → ArgValue
  ArgMix : ℤ → ArgValue
  ArgPlace : Place → ArgValue
  ArgCells : Place → ArgValue

-- the cells with some put from a slot on
abbrev pub set_all : List Cell → ℕ → List Cell → List Cell
set_all cells slot [] = cells
set_all cells slot (c ∷ cs) = set_all (set cells slot c) (suc slot) cs

-- one parameter's cells in the frame with this number. A MIX parameter has a place slot and then a
-- number slot: a number is put into the second, and the first names it; a place is put into the
-- first, and the second is unknown. Cells are copied from the store as it is after all arguments
abbrev pub with_param : Store → ℕ → ℕ → ArgValue → List Cell → List Cell
with_param s frame slot (ArgNumber n) cells = set cells slot (Number n)
with_param s frame slot (ArgMix n) cells =
    set (set cells slot (At (record { frame = frame; slot = suc slot; size = 1 }))) (suc slot) (Number n)
with_param s frame slot (ArgPlace p) cells = set cells slot (At p)
with_param s frame slot (ArgCells p) cells = set_all cells slot (cells_of s p)

-- the cells of the frame with this number, with each parameter set from its argument; where there
-- are too few arguments the other parameters stay unknown
abbrev pub with_params : Store → ℕ → List Param → List ArgValue → List Cell → List Cell
with_params s frame [] args cells = cells
with_params s frame (p ∷ ps) [] cells = cells
with_params s frame (p ∷ ps) (a ∷ args) cells = with_params s frame ps args (with_param s frame p.slot a cells)

-- the declared cells of all live frames
abbrev pub declared_cells : Program → Store → ℕ
declared_cells p s = sum_by (λ f. (routine_at p f.routine).declared) s

-- the new frame: its link leads up from the caller, and all cells but the parameters' are unknown
abbrev pub frame_of : Store → (r links : ℕ) → Routine → List ArgValue → Frame
frame_of s r links routine args = record {
  routine = r;
  link = up s links;
  cells = with_params s (length s) routine.params args (replicate routine.slots Unknown);
}

-- the new frame pushed and the body taken, where at most 10,000 frames live then, and they declare
-- at most 1,048,576 cells. Both are asked after all arguments
abbrev pub enter : Program → (body : Store → Events NoYield) → (r links : ℕ) → Store → List ArgValue → Events NoYield
enter p body r links s args =
    fault_unless fault.DepthFull (nat_lt (length s) frame_limit) (λ _.
    fault_unless fault.CellsFull (nat_le (declared_cells p s + (routine_at p r).declared) cell_limit) (λ _.
    body (s ++ frame_of s r links (routine_at p r) args ∷ [])))

-- a call as a test: each alternative of the body, with the top frame dropped, goes on
abbrev pub as_test : Events NoYield → Events NoYield
as_test (Visit e) = Visit (as_test e)
as_test (Print b e) = Print b (as_test e)
as_test (Alt s w e) = Alt (without_top s) (Go tt) (as_test e)
as_test Fail = Fail
as_test (Fault x l) = Fault x l
as_test Cut = Cut

-- a function that ends with no number is fault NoReturn at its own line
abbrev pub function_value : (line : ℕ) → Store → Flow NoYield → Events ℤ
function_value line s (Return (Some n)) = one (without_top s) n
function_value line s (Return None) = Fault fault.NoReturn line
function_value line s (Go y) = Fault fault.NoReturn line

-- A call in an expression: the number of the first way in which the body ends. A body that fails
-- leaves the expression without an alternative, and so what holds it: an assignment fails, and a
-- condition has no alternative, as if it failed
abbrev pub as_value : (line : ℕ) → Events NoYield → Events ℤ
as_value line e = on_first e (function_value line) (λ _. Fail)

-- RETURN with a number, which is in the range of the routine's result
abbrev pub return_within : Option Range → Store → ℤ → Events NoYield
return_within None s n = Alt s (Return (Some n)) Fail
return_within (Some range) s n = check_range range n (λ _. Alt s (Return (Some n)) Fail)
