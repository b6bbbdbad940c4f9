-- The rows that hold no phrase keep the frames that live, and go on.
use Rattle.std.proofs.Common.{◌≡◌, ℕ, zero, suc, Bool, true, false, not, List, [], ◌∷◌, length, drop, ◌∙◌, Some, None, Option, ℤ, pos}
use Rattle.std.specs.Prelude.{◌+ℤ◌, ◌-ℤ◌, ◌*ℤ◌, neg_ℤ}
use Rattle.alma_base.specs.Numbers.{within, int_eq, is_beyond, is_zero, is_integer, div_down_of, mod_down_of}
use Rattle.alma_base.specs.Reading.{number_from}
use Rattle.alma_base.specs.declared.number.Range.{Range}
use Rattle.alma_base.specs.declared.number.ReadInt.{ReadInt}
use Rattle.alma_base.specs.declared.number.ReadInt.TheVariants as found
use Rattle.alma_base.specs.declared.fault.RunFault.TheVariants as fault
use Rattle.alma_ir.specs.declared.phrase.Op.{Op}
use Rattle.alma_ir.specs.declared.phrase.Op.TheVariants as op
use Rattle.alma_ir.specs.declared.phrase.ReadAs.{ReadAs}
use Rattle.alma_ir.specs.declared.phrase.ReadAs.TheVariants as read_as
use Rattle.alma_ir.specs.declared.phrase.Root.{Root}
use Rattle.alma_ir.specs.declared.phrase.Root.TheVariants as root
use Rattle.alma_mean.specs.Store.{Store, Place, Cell, Unknown, Number, At, cell_at, put_at, put_top, cells_of, cell_of, part, top, top_cell}
use Rattle.alma_mean.specs.Store.{up}
use Rattle.alma_mean.specs.Events.{Events, NoYield, Fail, one}
use Rattle.alma_mean.specs.Arithmetic.{check_range, check_integer, apply_op, apply_sign}
use Rattle.alma_mean.specs.Rows.{place_held, root_place, index_place, succeed_if, bind_cell, unify_cells, match_cell, match_cells}
use Rattle.alma_mean.specs.Rows.{copy_cells, read_row, store_number, store_byte, position, set_position, set_variable, next_turn}
use Rattle.alma_mean.specs.Rows.{while_turn, repeat_turn, for_turn, some_turn, begin_loop, return_within}
use Rattle.alma_listing.specs.Alike.{Alike, on_visit, on_alt, at_fail, at_fault}
use Rattle.alma_listing.proofs.AlikeLists.{leaf, joined, bound, first_taken, checked, chosen, read, put_long, put_all_long}

-- one list, by itself
abbrev pub Own : (A : Type 0) → ℕ → Type 0 → Events A → Type 0
Own A n G e = Alike A n G e e

held : {n : ℕ} {G : Type 0} (s : Store) (c : Cell) → length s ≡ n → Own Place n G (place_held s c)
held s (At p) l = leaf s p l
held s Unknown l = at_fault
held s (Number v) l = at_fault

pub rooted : {n : ℕ} {G : Type 0} (s : Store) (r : Root) (cells : ℕ) → length s ≡ n → Own Place n G (root_place s r cells)
rooted s (root.Local slot) cells l = leaf s _ l
rooted s (root.Global slot) cells l = leaf s _ l
rooted s (root.Param slot) cells l = held s (top_cell s slot) l
rooted s (root.Outer links slot) cells l = leaf s _ l
rooted s (root.OuterParam links slot) cells l = held s (cell_at s (up s links) slot) l

pub indexed : {n : ℕ} {G : Type 0} (s : Store) (p : Place) (v : ℤ) (range : Range) (cells : ℕ) → length s ≡ n →
    Own Place n G (index_place s p v range cells)
indexed s p v range cells l = checked fault.Index (within range v) (λ _. leaf s _ l)

pub ranged : {A : Type 0} {n : ℕ} {G : Type 0} (range : Range) (v : ℤ) {k k2 : Unit {0} → Events A} →
    ((x : NoYield) → Alike A n G (k x) (k2 x)) → Alike A n G (check_range range v k) (check_range range v k2)
ranged range v h = checked fault.Range (within range v) h

pub put_leaf : {n : ℕ} {G : Type 0} (s : Store) (p : Place) (c : Cell) → length s ≡ n → Own NoYield n G (one (put_at s p c) tt)
put_leaf s p c l = leaf (put_at s p c) tt (put_long s p.frame p.slot c ∙ l)

succeeded : {n : ℕ} {G : Type 0} (s : Store) (b : Bool) → length s ≡ n → Own NoYield n G (succeed_if s b)
succeeded s true l = leaf s tt l
succeeded s false l = at_fail

pub cell_bound : {n : ℕ} {G : Type 0} (s : Store) (p : Place) (c : Cell) (range : Range) (v : ℤ) → length s ≡ n →
    Own NoYield n G (bind_cell s p c range v)
cell_bound s p (Number a) range v l = succeeded s (int_eq a v) l
cell_bound s p Unknown range v l = ranged range v (λ _. put_leaf s p (Number v) l)
cell_bound s p (At q) range v l = ranged range v (λ _. put_leaf s p (Number v) l)

pub unified : {n : ℕ} {G : Type 0} (s : Store) (p : Place) (c : Cell) (r : Range) (q : Place) (d : Cell) (r2 : Range) → length s ≡ n →
    Own NoYield n G (unify_cells s p c r q d r2)
unified s p (Number a) r q c r2 l = cell_bound s q c r2 a l
unified s p Unknown r q (Number b) r2 l = cell_bound s p Unknown r b l
unified s p Unknown r q Unknown r2 l = at_fault
unified s p Unknown r q (At y) r2 l = at_fault
unified s p (At x) r q (Number b) r2 l = cell_bound s p (At x) r b l
unified s p (At x) r q Unknown r2 l = at_fault
unified s p (At x) r q (At y) r2 l = at_fault

cell_matched : {n : ℕ} {G : Type 0} (s : Store) (p : Place) (c : Cell) (q : Place) (d : Cell) (k : Store → Events NoYield) →
    length s ≡ n → ((t : Store) → length t ≡ n → Own NoYield n G (k t)) → Own NoYield n G (match_cell s p c q d k)
cell_matched {G = G} s p (Number a) q (Number b) k l h = bound {G1 = G} (succeeded s (int_eq a b) l) (λ g. g) (λ t _ lt. h t lt)
cell_matched s p (Number a) q Unknown k l h = h (put_at s q (Number a)) (put_long s q.frame q.slot (Number a) ∙ l)
cell_matched s p (Number a) q (At y) k l h = h (put_at s q (Number a)) (put_long s q.frame q.slot (Number a) ∙ l)
cell_matched s p Unknown q (Number b) k l h = h (put_at s p (Number b)) (put_long s p.frame p.slot (Number b) ∙ l)
cell_matched s p Unknown q Unknown k l h = at_fault
cell_matched s p Unknown q (At y) k l h = at_fault
cell_matched s p (At x) q (Number b) k l h = h (put_at s p (Number b)) (put_long s p.frame p.slot (Number b) ∙ l)
cell_matched s p (At x) q Unknown k l h = at_fault
cell_matched s p (At x) q (At y) k l h = at_fault

pub matched : {n : ℕ} {G : Type 0} (count : ℕ) (s : Store) (p q : Place) → length s ≡ n → Own NoYield n G (match_cells count s p q)
matched zero s p q l = leaf s tt l
matched (suc m) s p q l =
    cell_matched s p (cell_of s p) q (cell_of s q) (λ t. match_cells m t (part p 1 m) (part q 1 m)) l
    (λ t lt. matched m t (part p 1 m) (part q 1 m) lt)

pub copied : {n : ℕ} {G : Type 0} (s : Store) (p q : Place) → length s ≡ n → Own NoYield n G (one (copy_cells s p q) tt)
copied s p q l = leaf (copy_cells s p q) tt (put_all_long (cells_of s q) s p.frame p.slot ∙ l)

integer : {n : ℕ} {G : Type 0} (s : Store) (v : ℤ) → length s ≡ n → Own ℤ n G (check_integer s v)
integer s v l = checked fault.Overflow (is_integer v) (λ _. leaf s v l)

pub applied : {n : ℕ} {G : Type 0} (s : Store) (how : Op) (a b : ℤ) → length s ≡ n → Own ℤ n G (apply_op s how a b)
applied s op.Add a b l = integer s (a +ℤ b) l
applied s op.Sub a b l = integer s (a -ℤ b) l
applied s op.Mul a b l = integer s (a *ℤ b) l
applied s op.Div a b l = checked fault.ZeroDivide (not (is_zero b)) (λ _. integer s (div_down_of a b) l)
applied s op.Mod a b l = checked fault.ZeroDivide (not (is_zero b)) (λ _. leaf s (mod_down_of a b) l)

pub signed : {n : ℕ} {G : Type 0} (negated : Bool) (s : Store) (v : ℤ) → length s ≡ n → Own ℤ n G (apply_sign negated s v)
signed false s v l = leaf s v l
signed true s v l = integer s (neg_ℤ v) l

found_row : {n : ℕ} {G : Type 0} (s : Store) (p : Place) (range : Range) (x : ReadInt) → length s ≡ n →
    Own NoYield n G (store_number s p range x)
found_row s p range found.NoNumber l = at_fail
found_row s p range found.TooLarge l = at_fault
found_row s p range (found.Number v place) l =
    ranged range v (λ _. put_leaf (set_position s place) p (Number v) (put_long s 0 0 (Number (pos place)) ∙ l))

byte_row : {n : ℕ} {G : Type 0} (s : Store) (p : Place) (range : Range) (place : ℕ) (rest : List ℕ) → length s ≡ n →
    Own NoYield n G (store_byte s p range place rest)
byte_row s p range place [] l = at_fail
byte_row s p range place (c ∷ rest) l =
    ranged range (pos c) (λ _. put_leaf (set_position s (suc place)) p (Number (pos c)) (put_long s 0 0 (Number (pos (suc place))) ∙ l))

pub read_in : {n : ℕ} {G : Type 0} (input : List ℕ) (how : ReadAs) (s : Store) (p : Place) (range : Range) → length s ≡ n →
    Own NoYield n G (read_row input how s p range)
read_in input read_as.Int s p range l = found_row s p range (number_from input (position s)) l
read_in input read_as.Char s p range l = byte_row s p range (position s) (drop (position s) input) l

-- ---- turns of loops

-- two functions of the store, at stores of n frames
abbrev pub Both : (A : Type 0) → ℕ → Type 0 → (Store → Events A) → (Store → Events A) → Type 0
Both A n G f g = (s : Store) → length s ≡ n → Alike A n G (f s) (g s)

pub while_alike : {n : ℕ} {G G1 : Type 0} {c c2 b b2 a a2 : Store → Events NoYield} → Both NoYield n G1 c c2 → Both NoYield n G b b2 →
    Both NoYield n G a a2 → Both NoYield n G (while_turn c b a) (while_turn c2 b2 a2)
while_alike c b a s l = on_visit (first_taken (c s l) (λ t _ lt. bound (b t lt) (λ g. g) (λ u _ lu. a u lu)) (λ _. leaf s tt l))

pub repeat_alike : {n : ℕ} {G G1 : Type 0} {b b2 c c2 a a2 : Store → Events NoYield} → Both NoYield n G b b2 → Both NoYield n G1 c c2 →
    Both NoYield n G a a2 → Both NoYield n G (repeat_turn b c a) (repeat_turn b2 c2 a2)
repeat_alike b c a s l = on_visit (bound (b s l) (λ g. g) (λ t _ lt. first_taken (c t lt) (λ u _ lu. leaf u tt lu) (λ _. a t lt)))

stepped : {n : ℕ} {G : Type 0} (counter limit : ℕ) (by : ℤ) {a a2 : Store → Events NoYield} → Both NoYield n G a a2 → (s : Store) →
    length s ≡ n → (last : Events NoYield) → Own NoYield n G last → Alike NoYield n G (next_turn counter limit by a s last)
    (next_turn counter limit by a2 s last)
stepped counter limit by a s l last own =
    read (top_cell s counter) (λ v. read (top_cell s limit) (λ m. chosen (is_beyond (v +ℤ by) m by) (λ _. own)
    (λ _. a (put_top s counter (Number (v +ℤ by))) (put_long s (top s) counter (Number (v +ℤ by)) ∙ l))))

with_var : {n : ℕ} {G : Type 0} {d d2 : Store → Events Place} → Both Place n (Unit {0}) d d2 → (range : Range) (s : Store) →
    length s ≡ n → (v : ℤ) {k k2 : Store → Events NoYield} → Both NoYield n G k k2 → Alike NoYield n G (set_variable d range s v k)
    (set_variable d2 range s v k2)
with_var d range s l v k =
    ranged range v (λ _. bound (d s l) (λ g. tt) (λ t p lt. k (put_at t p (Number v)) (put_long t p.frame p.slot (Number v) ∙ lt)))

pub for_alike : {n : ℕ} {G : Type 0} {d d2 : Store → Events Place} → Both Place n (Unit {0}) d d2 → (range : Range) (counter limit : ℕ)
    (by : ℤ) {b b2 a a2 : Store → Events NoYield} → Both NoYield n G b b2 → Both NoYield n G a a2 →
    Both NoYield n G (for_turn d range counter limit by b a) (for_turn d2 range counter limit by b2 a2)
for_alike d range counter limit by b a s l =
    on_visit (read (top_cell s counter)
    (λ v. with_var d range s l v
    (λ t lt. bound (b t lt) (λ g. g) (λ u _ lu. stepped counter limit by a u lu (one u tt) (leaf u tt lu)))))

pub some_alike : {n : ℕ} {G : Type 0} {d d2 : Store → Events Place} → Both Place n (Unit {0}) d d2 → (range : Range) (counter limit : ℕ)
    {b b2 a a2 : Store → Events NoYield} → Both NoYield n G b b2 → Both NoYield n G a a2 →
    Both NoYield n G (some_turn d range counter limit b a) (some_turn d2 range counter limit b2 a2)
some_alike d range counter limit b a s l =
    on_visit (read (top_cell s counter) (λ v. joined (with_var d range s l v b) (stepped counter limit (pos 1) a s l Fail at_fail)))

pub begun : {n : ℕ} {G : Type 0} (counter limit : ℕ) (by v m : ℤ) (s : Store) → length s ≡ n → {f f2 z z2 : Store → Events NoYield} →
    Both NoYield n G f f2 → Both NoYield n G z z2 → Alike NoYield n G (begin_loop counter limit by v m s f z)
    (begin_loop counter limit by v m s f2 z2)
begun counter limit by v m s l f z =
    let t : Store = put_top (put_top s counter (Number v)) limit (Number m) in
    let lt : length t ≡ length s = put_long (put_top s counter (Number v)) (top (put_top s counter (Number v))) limit (Number m)
    ∙ put_long s (top s) counter (Number v) in
    chosen (is_beyond v m by) (λ _. z t (lt ∙ l)) (λ _. f t (lt ∙ l))

-- RETURN with a number is no going on, so that nothing holds where G does
pub answered : {n : ℕ} {G : Type 0} (result : Option Range) (s : Store) (v : ℤ) → length s ≡ n → (G → ⊥) →
    Own NoYield n G (return_within result s v)
answered None s v l never = on_alt l never at_fail
answered (Some range) s v l never = ranged range v (λ _. on_alt l never at_fail)
