-- What lists every alternative: the line of a store, the listing of a program, and when a program
-- lists another.
use Rattle.std.specs.Prelude.{◌≡◌, ℕ, zero, suc, ◌+◌, ◌*◌, ◌≤◌, false, List, [], ◌∷◌, ◌++◌, length, sum_by, codes}
use Rattle.std.specs.Fmt.{signed_decimal}
use Rattle.alma_ir.specs.Tree.{Program, Global, routine_at}
use Rattle.alma_ir.specs.Count.{nodes}
use Rattle.alma_ir.specs.Checked.{IsChecked, HaveNoReturn}
use Rattle.alma_mean.specs.Store.{Store, Cell, Unknown, Number, At, cell_at}
use Rattle.alma_mean.specs.Events.{Events, NoYield, Visit, Print, Alt, Go, Return, Fail, Fault, Cut, End, Failed, Faulted, CutOff, first}
use Rattle.alma_mean.specs.Events.{end_of, prints, visit_count}
use Rattle.alma_mean.specs.Laws.{IsPrefix, ends_in_cut}
use Rattle.alma_mean.specs.Meaning.{ev_program, result}
use Rattle.alma_resolved.specs.Room.{HasRoom}
use Rattle.alma_lower_sound.specs.Reads.{program_reads}

-- ---- the line of a store

-- a number in decimal, and ? where it is unknown
abbrev pub cell_text : Cell → List ℕ
cell_text (Number n) = signed_decimal n
cell_text Unknown = codes "?"
cell_text (At p) = codes "?"

-- n cells more of the global frame from a slot on, each behind a comma
abbrev pub more_cells : Store → (slot n : ℕ) → List ℕ
more_cells s slot zero = []
more_cells s slot (suc n) = 44 ∷ cell_text (cell_at s 0 slot) ++ more_cells s (suc slot) n

-- n cells from a slot on, with a comma between two
abbrev pub cells_text : Store → (slot n : ℕ) → List ℕ
cells_text s slot zero = []
cells_text s slot (suc n) = cell_text (cell_at s 0 slot) ++ more_cells s (suc slot) n

-- a global with its value
abbrev pub global_text : Store → Global → List ℕ
global_text s g = g.name ++ (61 ∷ cells_text s g.slot g.cells)

-- globals, each behind a space
abbrev pub more_globals : Store → List Global → List ℕ
more_globals s [] = []
more_globals s (g ∷ gs) = 32 ∷ global_text s g ++ more_globals s gs

-- globals with a space between two
abbrev pub globals_text : Store → List Global → List ℕ
globals_text s [] = []
globals_text s (g ∷ gs) = global_text s g ++ more_globals s gs

-- the line of a store: the globals with their values, between braces, and a line feed
abbrev pub line_of_store : List Global → Store → List ℕ
line_of_store gs s = 123 ∷ globals_text s gs ++ (125 ∷ 10 ∷ [])

-- ---- the listing of a program

-- what is printed, and the line of each alternative that goes on, in their order
abbrev pub listing_text : List Global → Events NoYield → List ℕ
listing_text gs (Visit e) = listing_text gs e
listing_text gs (Print b e) = b ++ listing_text gs e
listing_text gs (Alt s (Go y) e) = line_of_store gs s ++ listing_text gs e
listing_text gs (Alt s (Return n) e) = listing_text gs e
listing_text gs Fail = []
listing_text gs (Fault x l) = []
listing_text gs Cut = []

-- how a list of events closes, behind all its alternatives
abbrev pub closes : {A : Type 0} → Events A → End
closes (Visit e) = closes e
closes (Print b e) = closes e
closes (Alt s w e) = closes e
closes Fail = Failed
closes (Fault x l) = Faulted x l
closes Cut = CutOff

-- the alternatives of a list
abbrev pub alternatives : {A : Type 0} → Events A → ℕ
alternatives (Visit e) = alternatives e
alternatives (Print b e) = alternatives e
alternatives (Alt s w e) = suc (alternatives e)
alternatives Fail = 0
alternatives (Fault x l) = 0
alternatives Cut = 0

-- every alternative of a program at level n, and how it closes
abbrev pub listing : ℕ → Program → List ℕ → List ℕ × End
listing n p input = (listing_text p.globals (ev_program n p input), closes (ev_program n p input))

-- ---- a program that lists another

-- the cells of the globals
abbrev pub global_cells : Program → ℕ
global_cells p = sum_by (λ g. g.cells) p.globals

-- how many levels listing needs more at most
abbrev pub more_levels : Program → ℕ
more_levels p = 128 * (global_cells p + 1)

-- how many visits the line of an alternative costs at most
abbrev pub line_visits : Program → ℕ
line_visits p = 128 * (global_cells p + length p.globals + 1)

-- at each level it has no alternative of its own, and prints what is listed up to where its level
-- ends; the level that it needs more, and the visits that it makes more, are bounded by the globals
pub record ListsAt (q p : Program) (n : ℕ) (input : List ℕ) : Type 0 where
  pub none : alternatives (ev_program n q input) ≡ 0
  pub prefix : IsPrefix (prints (ev_program n q input)) (listing_text p.globals (ev_program n p input))
  pub whole : ends_in_cut (ev_program n q input) ≡ false →
      (prints (ev_program n q input), closes (ev_program n q input)) ≡ listing n p input
  pub reached : ends_in_cut (ev_program n p input) ≡ false → ends_in_cut (ev_program (n + more_levels p) q input) ≡ false
  pub visits : ends_in_cut (ev_program n q input) ≡ false →
      visit_count (ev_program n q input) ≤
      visit_count (ev_program n p input) + line_visits p * alternatives (ev_program n p input)

-- for each level and input
abbrev pub Lists : Program → Program → Type 0
Lists q p = (n : ℕ) (input : List ℕ) → ListsAt q p n input

-- it costs a bounded number of nodes more
abbrev pub CostsFew : Program → Program → Type 0
CostsFew q p = 16 * nodes q ≤ 16 * nodes p + 1024 * (length p.globals + 1)

-- so it is with every checked program that has no RETURN in the body of the module
abbrev pub EachIsListed : (Program → Program) → Type 0
EachIsListed lister = (p : Program) → IsChecked p → HaveNoReturn (routine_at p 0).body → Lists (lister p) p × CostsFew (lister p) p

-- and where names and texts are as short as a source has them, it is a checked program
abbrev pub ListerIsChecked : (Program → Program) → Type 0
ListerIsChecked lister = (p : Program) → IsChecked p → HasRoom p → IsChecked (lister p)

-- and it holds a READ exactly where the other does
abbrev pub EachReadsAlike : (Program → Program) → Type 0
EachReadsAlike lister = (p : Program) → program_reads (lister p) ≡ program_reads p

-- so a result of a program that lists another is the listing, where it is not cut off
abbrev pub ResultIsListing : Program → Program → Type 0
ResultIsListing q p = (n : ℕ) (input : List ℕ) → (end_of (first (ev_program n q input)) ≡ CutOff → ⊥) → result n q input ≡ listing n p input

-- and so it is with each program that lists another
abbrev pub ListersGiveListings : Type 0
ListersGiveListings = (q p : Program) → Lists q p → ResultIsListing q p
