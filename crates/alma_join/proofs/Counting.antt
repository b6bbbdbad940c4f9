-- What a routine or a variable counts.
use Rattle.std.proofs.Common.{◌≡◌, ℕ, zero, suc, ◌+◌, ◌<◌, ◌≤◌, ◌^◌, Bool, true, false, List, [], ◌∷◌, length, get_or, drop, map, None}
use Rattle.std.proofs.Common.{Some, refl, sym, ap, ◌∙◌, arith, add-one, drop-cons}
use Rattle.std.specs.Prelude.{sum_by}
use Rattle.std.proofs.lemmas.List.{drop_all, length-map}
use Rattle.alma_base.specs.Choice.{if_true}
use Rattle.alma_ir.specs.Count.{saturate}
use Rattle.alma_ir.specs.Tree.{Program}
use Rattle.alma_ir.specs.declared.phrase.Stmt.{Stmt}
use Rattle.alma_ir.specs.declared.program.Program as whole
use Rattle.alma_join.specs.Joined as joined
use Rattle.alma_join.specs.Totals.{AreTotals}
use Rattle.alma_join.specs.declared.size.Totals as memory
use Rattle.alma_ir.specs.Checked.{link_slots, text_bytes}
use Rattle.alma_ir.specs.Phrases.{stmts_phrases}
use Rattle.alma_ir.specs.View.{routine_of, global_of, stmts_list, program_of}
use Rattle.alma_ir.specs.declared.program.Routine.{Routine}
use Rattle.alma_ir.specs.declared.program.Global as variable
use Rattle.alma_join.proofs.Sums.{sum_mapped}

abbrev pub of_params : Routine → ℕ
of_params r = length r.params.items + link_slots r.level

abbrev pub of_name : Routine → ℕ
of_name r = length r.name.items

abbrev pub of_global : variable.Global → ℕ
of_global g = length g.name.items

abbrev pub of_texts : Routine → ℕ
of_texts r = sum_by text_bytes (stmts_phrases (stmts_list r.body.items))

pub params_sum : (rs : List Routine) → sum_by (λ r. length r.params + link_slots r.level) (map routine_of rs) ≡ sum_by of_params rs
params_sum = sum_mapped _ routine_of

pub names_sum : (rs : List Routine) → sum_by (λ r. length r.name) (map routine_of rs) ≡ sum_by of_name rs
names_sum = sum_mapped _ routine_of

pub globals_sum : (gs : List variable.Global) → sum_by (λ g. length g.name) (map global_of gs) ≡ sum_by of_global gs
globals_sum = sum_mapped _ global_of

pub texts_sum : (rs : List Routine) → sum_by (λ r. sum_by text_bytes (stmts_phrases r.body)) (map routine_of rs) ≡ sum_by of_texts rs
texts_sum = sum_mapped _ routine_of

pub by_texts : (xs ys : List Stmt) → xs ≡ ys → saturate (sum_by text_bytes (stmts_phrases (stmts_list xs)))
    ≡ saturate (sum_by text_bytes (stmts_phrases (stmts_list ys)))
by_texts xs ys e = ap (λ l. saturate (sum_by text_bytes (stmts_phrases (stmts_list l)))) e

-- a length in memory
pub counted_len : (n v m : ℕ) → n ≡ v → m ≡ v → n < 2 ^ 64 → n ≡ saturate m
counted_len n v m is ok small = omega (arith, is, ok, small)

-- ---- units

-- the sums over the units before this one
pub record SizesGo (units : List Program) (i : ℕ) (totals : memory.Totals) : Type 0 where
  pub all : joined.Totals
  pub are : AreTotals totals all
  pub rest : joined.size_fault all (i + 1) (drop i units) ≡ joined.size_fault joined.no_totals 1 units

pub sizes_none : (units : List Program) (totals : memory.Totals) → AreTotals totals joined.no_totals → SizesGo units 0 totals
sizes_none units totals h = record { all = joined.no_totals; are = h; rest = refl }

module _ (units : List whole.Program) (i : ℕ) (x : whole.Program) (totals more : memory.Totals) (within : i < length units)
    (is : x ≡ get_or units i x) (h : SizesGo (map program_of units) i totals)
    (added : (all : joined.Totals) → AreTotals totals all → AreTotals more (joined.with_unit all (program_of x))) where
  abbrev plain : List Program
  plain = map program_of units

  abbrev with_x : joined.Totals
  with_x = joined.with_unit h.all (program_of x)

  rest_is : drop i plain ≡ program_of x ∷ drop (i + 1) plain
  rest_is = rw (add-one i) (drop-cons plain i (program_of x) (omega (arith, within, length-map units program_of)))
      ∙ ap (λ y. y ∷ drop (i + 1) plain) (mapped_at units i within is)
    where
      mapped_at : (xs : List whole.Program) (j : ℕ) → j < length xs → x ≡ get_or xs j x
          → get_or (map program_of xs) j (program_of x) ≡ program_of x
      mapped_at [] j lt e = absurd (omega (arith, lt))
      mapped_at (y ∷ ys) zero lt e = ap program_of (sym e)
      mapped_at (y ∷ ys) (suc j) lt e = mapped_at ys j (omega (arith, lt)) e

  fault_is : (b : Bool) → b ≡ joined.passes with_x → joined.size_fault joined.no_totals 1 plain
      ≡ if_true b (λ _. Some (joined.TooLarge (i + 1))) (λ _. joined.size_fault with_x (i + 1 + 1) (drop (i + 1) plain))
  fault_is b e =
      sym h.rest ∙ ap (joined.size_fault h.all (i + 1)) rest_is
      ∙ (λ j. if_true (sym e j) (λ _. Some (joined.TooLarge (i + 1)))
      (λ _. joined.size_fault with_x (sym (add-one (i + 1)) j) (drop (i + 1) plain)))

  pub sizes_pass : (b : Bool) → ((all : joined.Totals) → AreTotals more all → b ≡ joined.passes all) → b ≡ true
      → joined.size_fault joined.no_totals 1 plain ≡ Some (joined.TooLarge (i + 1))
  sizes_pass b tells passed = fault_is b (tells with_x (added h.all h.are))
      ∙ ap (λ t. if_true t (λ _. Some (joined.TooLarge (i + 1))) (λ _. joined.size_fault with_x (i + 1 + 1) (drop (i + 1) plain))) passed

  pub sizes_more : (b : Bool) → ((all : joined.Totals) → AreTotals more all → b ≡ joined.passes all) → b ≡ false
      → SizesGo plain (i + 1) more
  sizes_more b tells stays = record {
    all = with_x;
    are = added h.all h.are;
    rest = sym (fault_is b (tells with_x (added h.all h.are))
        ∙ ap (λ t. if_true t (λ _. Some (joined.TooLarge (i + 1))) (λ _. joined.size_fault with_x (i + 1 + 1) (drop (i + 1) plain))) stays);
  }

pub sizes_all : (units : List whole.Program) (i : ℕ) (totals : memory.Totals) → length units ≤ i → SizesGo (map program_of units) i totals
    → joined.size_fault joined.no_totals 1 (map program_of units) ≡ None
sizes_all units i totals past h = sym h.rest ∙ ap (joined.size_fault h.all (i + 1))
    (drop_all i (map program_of units) (omega (arith, past, length-map units program_of)))
