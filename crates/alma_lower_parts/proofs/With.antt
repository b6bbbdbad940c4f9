-- Phrases with lines have the form of the phrases without.
use Rattle.std.proofs.Common.{◌≡◌, ℕ, ◌+◌, Bool, true, false, List, [], ◌∷◌, drop, Option, Some, None, refl, ap, ◌∙◌}
use Rattle.std.specs.Prelude.{option_map, not, ◌&&◌}
use Rattle.alma_base.specs.declared.number.Range.{Range}
use Rattle.alma_ir.specs.declared.phrase.Root.{Root}
use Rattle.alma_code.specs.declared.cell.SlotKind.TheVariants as slot
use Rattle.alma_ir.specs.declared.phrase.Cmp.TheVariants as cmp
use Rattle.alma_ir.specs.declared.phrase.Root.TheVariants as root
use Rattle.alma_ir.specs.Tree.{Test, Expr, Links, Args, Arg, Desig, Sels, Sel, Value, Bind, Unify, SameCells, Seq, And, Or, Not, CallTest}
use Rattle.alma_ir.specs.Tree.{Const, Load, Chain, Compare, Truth, Known, Chr, CallExpr, no_links, more_links, no_args, more_args, ByValue}
use Rattle.alma_ir.specs.Tree.{Program, ByCells, ByPlace, MixValue, MixPlace, a_desig, no_sels, more_sels, Field, Index}
use Rattle.alma_ir.specs.Phrases.{stmts_phrases, expr_phrases, desig_phrases, sels_phrases, sel_phrases, arg_phrases}
use Rattle.alma_ir.specs.Lines.{behind, stmts_with, test_with, expr_with, links_with, args_with, arg_with, desig_with, sels_with, sel_with}
use Rattle.alma_ir.specs.Lines.{stmt_count}
use Rattle.alma_lower_work.specs.Puts.{is_unequal}
use Rattle.alma_lower_templates.specs.Tables.{is_whole}
use Rattle.alma_lower_templates.specs.Slots.{bare_desig, bare, ends_alone, straight_by, goes_straight, own_place, own_root, is_given}
use Rattle.alma_lower_templates.specs.Slots.{is_ready, if_ready, stays_by, stays, stays_in, taken_from, is_simple_expr, are_simple_links}
use Rattle.alma_lower_templates.specs.Slots.{is_simple_desig, are_simple_sels, is_simple_sel, is_simple, cells_behind, desig_cells}
use Rattle.alma_lower_templates.specs.Slots.{arg_kind, handed_slots, constant, fields_from, unless_bare, expr_slots, desig_slots}

-- ---- variables that stand in their own slots

pub no_bare : (f : ℕ → ℕ) (o : Option ℕ) → None ≡ option_map f o → o ≡ None
no_bare f (Some from) h = absurd (cc)
no_bare f None h = refl

fields_with : (sels : Sels) (from : ℕ) (ls : List ℕ) → fields_from from (sels_with sels ls) ≡ fields_from from sels
unfolding stmts_with
fields_with no_sels from ls = refl
fields_with (more_sels (Field offset cells) rest) from ls = fields_with rest (from + offset) (behind (sel_phrases (Field offset cells)) ls)
fields_with (more_sels (Index e range cells) rest) from ls = refl

pub own_desig : (d : Desig) (ls : List ℕ) → bare_desig (desig_with d ls) ≡ bare_desig d
unfolding stmts_with
own_desig (a_desig (root.Local from) cells sels) ls = fields_with sels from ls
own_desig (a_desig (root.Global from) cells sels) ls = refl
own_desig (a_desig (root.Param from) cells sels) ls = refl
own_desig (a_desig (root.Outer links from) cells sels) ls = refl
own_desig (a_desig (root.OuterParam links from) cells sels) ls = refl

pub own_expr : (e : Expr) (ls : List ℕ) → bare (expr_with e ls) ≡ bare e
unfolding stmts_with
own_expr (Const n) ls = refl
own_expr (Load d) ls = own_desig d ls
own_expr (Chain negated e links) ls = refl
own_expr (Compare how x y) ls = refl
own_expr (Truth t) ls = refl
own_expr (Known d) ls = refl
own_expr (Chr e) ls = refl
own_expr (CallExpr r args up) ls = refl

-- ---- first operands

ready_with : (e : Expr) (ls : List ℕ) → is_ready (expr_with e ls) ≡ is_ready e
unfolding stmts_with
ready_with (Const n) ls = refl
ready_with (Load d) ls = ap is_given (own_desig d ls)
ready_with (Chain negated e links) ls = refl
ready_with (Compare how x y) ls = refl
ready_with (Truth t) ls = refl
ready_with (Known d) ls = refl
ready_with (Chr e) ls = refl
ready_with (CallExpr r args up) ls = refl

pub stays_with : (x y : Expr) (ls ls2 : List ℕ) → stays (expr_with x ls) (expr_with y ls2) ≡ stays x y
stays_with x y ls ls2 = ap (λ o. stays_by o (expr_with y ls2)) (own_expr x ls) ∙ by (bare x)
  where
    by : (o : Option ℕ) → stays_by o (expr_with y ls2) ≡ stays_by o y
    by (Some from) = ap (λ z. if_ready z from) (ready_with y ls2)
    by None = refl

pub stays_in_with : (negated : Bool) (x : Expr) (links : Links) (ls ls2 : List ℕ)
    → stays_in negated (expr_with x ls) (links_with links ls2) ≡ stays_in negated x links
unfolding stmts_with
stays_in_with true x links ls ls2 = refl
stays_in_with false x no_links ls ls2 = refl
stays_in_with false x (more_links how y rest) ls ls2 = stays_with x y ls ls2

pub taken_with : (negated : Bool) (x : Expr) (links : Links) (ls ls2 : List ℕ)
    → taken_from negated (expr_with x ls) (links_with links ls2) ≡ taken_from negated x links
taken_with true x links ls ls2 = own_expr x ls
taken_with false x links ls ls2 = stays_in_with false x links ls ls2

-- ---- values that go straight into a variable

pub alone_with : (e : Expr) (ls : List ℕ) → ends_alone (expr_with e ls) ≡ ends_alone e
unfolding stmts_with
alone_with (Const n) ls = refl
alone_with (Load d) ls = ap (λ o. not (is_given o)) (own_desig d ls)
alone_with (Chain negated e no_links) ls = refl
alone_with (Chain negated e (more_links how x rest)) ls = refl
alone_with (Compare how x y) ls = refl
alone_with (Truth t) ls = refl
alone_with (Known d) ls = refl
alone_with (Chr e) ls = refl
alone_with (CallExpr r args up) ls = refl

pub straight_with : (d : Desig) (e : Expr) (range : Range) (ls ls2 : List ℕ)
    → goes_straight (desig_with d ls) (expr_with e ls2) range ≡ goes_straight d e range
straight_with d e range ls ls2 = ap (λ o. straight_by o (is_whole range && ends_alone (expr_with e ls2))) (own_desig d ls)
    ∙ ap (λ b. straight_by (bare_desig d) (is_whole range && b)) (alone_with e ls2)

-- ---- first counts that are constants

pub constant_with : (e : Expr) (ls : List ℕ) → constant (expr_with e ls) ≡ constant e
unfolding stmts_with
constant_with (Const n) ls = refl
constant_with (Load d) ls = refl
constant_with (Chain negated e links) ls = refl
constant_with (Compare how x y) ls = refl
constant_with (Truth t) ls = refl
constant_with (Known d) ls = refl
constant_with (Chr e) ls = refl
constant_with (CallExpr r args up) ls = refl

-- ---- parameters whose place is used in their own slot

pub place_with : (d : Desig) (ls : List ℕ) → own_place (desig_with d ls) ≡ own_place d
unfolding stmts_with
place_with (a_desig (root.Param from) cells no_sels) ls = refl
place_with (a_desig (root.Param from) cells (more_sels x rest)) ls = refl
place_with (a_desig (root.Local from) cells sels) ls = refl
place_with (a_desig (root.Global from) cells sels) ls = refl
place_with (a_desig (root.Outer links from) cells sels) ls = refl
place_with (a_desig (root.OuterParam links from) cells sels) ls = refl

pub root_with : (r : Root) (sels : Sels) (ls : List ℕ) → own_root r (sels_with sels ls) ≡ own_root r sels
unfolding stmts_with
root_with (root.Param from) no_sels ls = refl
root_with (root.Param from) (more_sels x rest) ls = refl
root_with (root.Local from) sels ls = refl
root_with (root.Global from) sels ls = refl
root_with (root.Outer links from) sels ls = refl
root_with (root.OuterParam links from) sels ls = refl

-- ---- variables without code

-- fields have no line inside
fields_pass : (sels : Sels) (n from : ℕ) → fields_from n sels ≡ Some from → stmt_count (sels_phrases sels) ≡ 0
unfolding stmts_phrases
fields_pass no_sels n from h = refl
fields_pass (more_sels (Field offset cells) rest) n from h = fields_pass rest (n + offset) from h
fields_pass (more_sels (Index e range cells) rest) n from h = absurd (cc)

-- nor has such a variable
pub own_desig_passes : (d : Desig) (from : ℕ) (ls : List ℕ) → bare_desig d ≡ Some from → behind (desig_phrases d) ls ≡ ls
unfolding stmts_phrases
own_desig_passes (a_desig (root.Local x) cells sels) from ls h = ap (λ n. drop n ls) (fields_pass sels x from h)
own_desig_passes (a_desig (root.Global x) cells sels) from ls h = absurd (cc)
own_desig_passes (a_desig (root.Param x) cells sels) from ls h = absurd (cc)
own_desig_passes (a_desig (root.Outer links x) cells sels) from ls h = absurd (cc)
own_desig_passes (a_desig (root.OuterParam links x) cells sels) from ls h = absurd (cc)

pub own_expr_passes : (e : Expr) (from : ℕ) (ls : List ℕ) → bare e ≡ Some from → behind (expr_phrases e) ls ≡ ls
unfolding stmts_phrases
own_expr_passes (Const n) from ls h = absurd (cc)
own_expr_passes (Load d) from ls h = own_desig_passes d from ls h
own_expr_passes (Chain negated e links) from ls h = absurd (cc)
own_expr_passes (Compare how x y) from ls h = absurd (cc)
own_expr_passes (Truth t) from ls h = absurd (cc)
own_expr_passes (Known d) from ls h = absurd (cc)
own_expr_passes (Chr e) from ls h = absurd (cc)
own_expr_passes (CallExpr r args up) from ls h = absurd (cc)

-- the value of such a variable takes the slot for its number alone
pub bare_slots : (p : Program) (r : ℕ) (e : Expr) (from : ℕ) → bare e ≡ Some from → expr_slots p r e ≡ slot.Number ∷ []
bare_slots p r (Load d) from h = ap (λ o. slot.Number ∷ unless_bare o (desig_slots p r d)) h
bare_slots p r (Const n) from h = absurd (cc)
bare_slots p r (Chain negated e links) from h = absurd (cc)
bare_slots p r (Compare how x y) from h = absurd (cc)
bare_slots p r (Truth t) from h = absurd (cc)
bare_slots p r (Known d) from h = absurd (cc)
bare_slots p r (Chr e) from h = absurd (cc)
bare_slots p r (CallExpr called args up) from h = absurd (cc)

-- ---- tests of inequality

pub unequal_with : (e : Expr) (ls : List ℕ) → is_unequal (expr_with e ls) ≡ is_unequal e
unfolding stmts_with
unequal_with (Const n) ls = refl
unequal_with (Load d) ls = refl
unequal_with (Chain negated e links) ls = refl
unequal_with (Compare cmp.Equal x y) ls = refl
unequal_with (Compare cmp.Unequal x y) ls = refl
unequal_with (Compare cmp.Less x y) ls = refl
unequal_with (Compare cmp.LessEq x y) ls = refl
unequal_with (Compare cmp.Greater x y) ls = refl
unequal_with (Compare cmp.GreaterEq x y) ls = refl
unequal_with (Truth t) ls = refl
unequal_with (Known d) ls = refl
unequal_with (Chr e) ls = refl
unequal_with (CallExpr r args up) ls = refl

-- ---- simple conditions

mutual
  unfolding stmts_with

  pub simple_expr : (e : Expr) (ls : List ℕ) → is_simple_expr (expr_with e ls) ≡ is_simple_expr e
  simple_expr (Const n) ls = refl
  simple_expr (Load d) ls = simple_desig d ls
  simple_expr (Chain negated e links) ls =
      ap (λ b. b && are_simple_links (links_with links (behind (expr_phrases e) ls))) (simple_expr e ls)
      ∙ ap (λ b. is_simple_expr e && b) (simple_links links (behind (expr_phrases e) ls))
  simple_expr (Compare how x y) ls = ap (λ b. b && is_simple_expr (expr_with y (behind (expr_phrases x) ls))) (simple_expr x ls)
      ∙ ap (λ b. is_simple_expr x && b) (simple_expr y (behind (expr_phrases x) ls))
  simple_expr (Truth t) ls = refl
  simple_expr (Known d) ls = simple_desig d ls
  simple_expr (Chr e) ls = simple_expr e ls
  simple_expr (CallExpr r args up) ls = refl

  simple_links : (links : Links) (ls : List ℕ) → are_simple_links (links_with links ls) ≡ are_simple_links links
  simple_links no_links ls = refl
  simple_links (more_links how e rest) ls =
      ap (λ b. b && are_simple_links (links_with rest (behind (expr_phrases e) ls))) (simple_expr e ls)
      ∙ ap (λ b. is_simple_expr e && b) (simple_links rest (behind (expr_phrases e) ls))

  simple_desig : (d : Desig) (ls : List ℕ) → is_simple_desig (desig_with d ls) ≡ is_simple_desig d
  simple_desig (a_desig root cells sels) ls = simple_sels sels ls

  simple_sels : (sels : Sels) (ls : List ℕ) → are_simple_sels (sels_with sels ls) ≡ are_simple_sels sels
  simple_sels no_sels ls = refl
  simple_sels (more_sels x rest) ls = ap (λ b. b && are_simple_sels (sels_with rest (behind (sel_phrases x) ls))) (simple_sel x ls)
      ∙ ap (λ b. is_simple_sel x && b) (simple_sels rest (behind (sel_phrases x) ls))

  simple_sel : (x : Sel) (ls : List ℕ) → is_simple_sel (sel_with x ls) ≡ is_simple_sel x
  simple_sel (Field offset cells) ls = refl
  simple_sel (Index e range cells) ls = simple_expr e ls

pub simple_test : (t : Test) (ls : List ℕ) → is_simple (test_with t ls) ≡ is_simple t
unfolding stmts_with
simple_test (Value e) ls = simple_expr e ls
simple_test (Bind d e range true) ls = refl
simple_test (Bind d e range false) ls = refl
simple_test (Unify d range e range2) ls = refl
simple_test (SameCells d e) ls = refl
simple_test (Seq x) ls = refl
simple_test (And ts) ls = refl
simple_test (Or ts) ls = refl
simple_test (Not t) ls = refl
simple_test (CallTest r args up) ls = refl

-- ---- arguments

behind_cells : (sels : Sels) (cells : ℕ) (ls : List ℕ) → cells_behind cells (sels_with sels ls) ≡ cells_behind cells sels
unfolding stmts_with
behind_cells no_sels cells ls = refl
behind_cells (more_sels (Field offset part) rest) cells ls = behind_cells rest part (behind (sel_phrases (Field offset part)) ls)
behind_cells (more_sels (Index e range part) rest) cells ls = behind_cells rest part (behind (sel_phrases (Index e range part)) ls)

pub same_cells : (d : Desig) (ls : List ℕ) → desig_cells (desig_with d ls) ≡ desig_cells d
unfolding stmts_with
same_cells (a_desig root cells sels) ls = behind_cells sels cells ls

same_arg : (x : Arg) (ls : List ℕ) → arg_kind (arg_with x ls) ≡ arg_kind x
unfolding stmts_with
same_arg (ByValue e range) ls = refl
same_arg (ByCells d) ls = ap slot.Place (same_cells d ls)
same_arg (ByPlace d) ls = ap slot.Place (same_cells d ls)
same_arg (MixValue e range) ls = refl
same_arg (MixPlace d) ls = ap slot.Place (same_cells d ls)

pub same_handed : (args : Args) (ls : List ℕ) → handed_slots (args_with args ls) ≡ handed_slots args
unfolding stmts_with
same_handed no_args ls = refl
same_handed (more_args x rest) ls = ap (λ k. k ∷ handed_slots (args_with rest (behind (arg_phrases x) ls))) (same_arg x ls)
    ∙ ap (λ l. arg_kind x ∷ l) (same_handed rest (behind (arg_phrases x) ls))
