-- Small programs and what lists them.
use Rattle.std.specs.Prelude.{◌≡◌, ◌+◌, ℕ, pos, List, [], ◌∷◌, ◌++◌, codes}
use Rattle.std.specs.Fmt.{decimal}
use Rattle.alma_ir.specs.declared.phrase.Cmp.TheVariants as cmp
use Rattle.alma_ir.specs.Tree.{Program, Global, Assign, Compare}
use Rattle.alma_ir.specs.Count.{nodes}
use Rattle.alma_mean.specs.Store.{Store, Cell, Number, Unknown}
use Rattle.alma_mean.specs.Events.{End, Failed, CutOff, prints, visit_count}
use Rattle.alma_mean.specs.Meaning.{ev_program}
use Rattle.alma_mean.specs.Worked.Build.{module_of, some, test, number, load, fail, write, element, int}
use Rattle.alma_listing.specs.Lister.{listing_of}
use Rattle.alma_listing.specs.Listing.{line_of_store, listing, closes, alternatives}

-- a program with these globals
abbrev pub with_globals : List Global → Program → Program
with_globals gs p = record p { globals = gs }

-- a variable
abbrev pub global_at : List ℕ → (slot cells : ℕ) → Global
global_at name slot cells = record { name = name; slot = slot; cells = cells }

-- VAR x, y: INTEGER; BEGIN SOME x := 1 TO 3 DO x <> 2 END
abbrev pub two_of_three : Program
two_of_three =
    with_globals (global_at (codes "x") 1 1 ∷ global_at (codes "y") 2 1 ∷ [])
    (module_of 5 (some 1 3 (number 1) (number 3) (test (Compare cmp.Unequal (load 1) (number 2)) ∷ []) ∷ []))

-- BEGIN WRITE(7); FALSE
abbrev pub prints_seven : Program
prints_seven = module_of 1 (write (number 7) ∷ fail ∷ [])

-- VAR r: RECORD END; a: ARRAY [1..3] OF INTEGER; BEGIN a[2] := 5; WRITE(5)
abbrev pub an_array : Program
an_array =
    with_globals (global_at (codes "r") 1 0 ∷ global_at (codes "a") 1 3 ∷ [])
    (module_of 4 (Assign (element 1 3 (number 2)) (number 5) int ∷ write (number 5) ∷ []))

-- at level n the program that lists prints this, has no alternative and closes so
abbrev pub IsListed : ℕ → Program → List ℕ → End → Type 0
IsListed n p out end =
    (prints (ev_program n (listing_of p) []) ≡ out) × (closes (ev_program n (listing_of p) []) ≡ end) ×
    (alternatives (ev_program n (listing_of p) []) ≡ 0)

-- the store of a module with these cells
abbrev pub store_of : List Cell → Store
store_of cells = record { routine = 0; link = 0; cells = cells } ∷ []

-- a cell with this number
abbrev pub cell : ℕ → Cell
cell n = Number (pos n)

-- what the programs above list
pub record ListingsRun : Type 0 where
  pub two_lines : IsListed 5 two_of_three
      (codes "{x=" ++ (decimal 1 ++ (codes " y=?}\n" ++ (codes "{x=" ++ (decimal 3 ++ codes " y=?}\n"))))) Failed
  pub two_stores :
      listing 5 two_of_three [] ≡ (
        line_of_store two_of_three.globals (store_of (cell 0 ∷ cell 1 ∷ Unknown ∷ cell 1 ∷ cell 3 ∷ []))
            ++ (line_of_store two_of_three.globals (store_of (cell 0 ∷ cell 3 ∷ Unknown ∷ cell 3 ∷ cell 3 ∷ [])) ++ []),
        Failed,
      )
  pub line : line_of_store two_of_three.globals (store_of (cell 0 ∷ Unknown ∷ Unknown ∷ [])) ≡ codes "{x=? y=?}\n"
  pub no_line : IsListed 3 prints_seven (decimal 7 ++ []) Failed
  pub no_globals : IsListed 3 (module_of 1 []) (codes "{}\n") Failed
  pub several_cells : IsListed 6 an_array (decimal 5 ++ (codes "{r= a=?," ++ (decimal 5 ++ codes ",?}\n"))) Failed
  -- below the level that it needs it prints a part
  pub cut_off : (prints (ev_program 3 (listing_of an_array) []) ≡ decimal 5 ++ codes "{r= a=?") ×
      (closes (ev_program 3 (listing_of an_array) []) ≡ CutOff)
  -- nodes and visits
  pub few_nodes : nodes (listing_of an_array) ≡ nodes an_array + 35
  pub few_visits : visit_count (ev_program 6 (listing_of an_array) []) ≡ visit_count (ev_program 6 an_array []) + 122
