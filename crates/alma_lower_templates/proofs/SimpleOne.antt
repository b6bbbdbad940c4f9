-- An expression without a call and without a truth has one alternative at most, in the store on entry.
use Rattle.std.proofs.Common.{◌≡◌, ℕ, ◌*◌, Bool, true, false, List, ◌-ℤ◌, ℤ}
use Rattle.std.specs.Prelude.{nat_abs}
use Rattle.std.proofs.lemmas.Bool.{and_parts}
use Rattle.alma_base.specs.declared.fault.RunFault.{RunFault}
use Rattle.alma_ir.specs.declared.phrase.Root.{Root}
use Rattle.alma_ir.specs.declared.phrase.Root.TheVariants as root
use Rattle.alma_ir.specs.Tree.{Program, Expr, Links, Desig, Sels, Sel, Const, Load, Chain, Compare, Truth, Known, Chr, CallExpr, no_links}
use Rattle.alma_ir.specs.Tree.{more_links, a_desig, no_sels, more_sels, Field, Index}
use Rattle.alma_mean.specs.Store.{Store, Place, Cell, Unknown, Number, At, cell_of, cell_at, top_cell, part, up}
use Rattle.alma_mean.specs.Events.{one}
use Rattle.alma_mean.specs.Arithmetic.{fault_unless}
use Rattle.alma_mean.specs.Rows.{place_held, root_place}
use Rattle.alma_mean.specs.Meaning.{Level, ev_expr, ev_links, ev_desig, ev_sels, ev_sel}
use Rattle.alma_lower_implements.proofs.Simple.{GivesOne, on_visit, on_one, at_fault, one_bound, one_noded, one_op, one_sign, one_read}
use Rattle.alma_lower_templates.specs.Slots.{is_simple_expr, are_simple_links, is_simple_desig, are_simple_sels, is_simple_sel}

one_checked : {A : Type 0} (v : Store) (f : RunFault) (b : Bool) (y : A) → GivesOne A v (fault_unless f b (λ _. one v y))
one_checked v f true y = on_one
one_checked v f false y = at_fault

one_held : (v : Store) (c : Cell) → GivesOne Place v (place_held v c)
one_held v (At a) = on_one
one_held v Unknown = at_fault
one_held v (Number n) = at_fault

root_one : (v : Store) (x : Root) (cells : ℕ) → GivesOne Place v (root_place v x cells)
root_one v (root.Local from) cells = on_one
root_one v (root.Global from) cells = on_one
root_one v (root.Param from) cells = one_held v (top_cell v from)
root_one v (root.Outer links from) cells = on_one
root_one v (root.OuterParam links from) cells = one_held v (cell_at v (up v links) from)

module _ (p : Program) (input : List ℕ) (below : Level) where
  mutual
    unfolding ev_expr

    pub expr_one : (x : Expr) (v : Store) → is_simple_expr x ≡ true → GivesOne ℤ v (ev_expr p input below x v)
    expr_one (Const n) v h = on_visit (on_visit on_one)
    expr_one (Load d) v h = one_noded (one_bound _ (desig_one d v h) (λ a. one_read v (cell_of v a)))
    expr_one (Chain negated x links) v h =
        let z = and_parts (is_simple_expr x) (are_simple_links links) h in
        one_noded (one_bound _ (expr_one x v z.0) (λ a. one_bound _ (one_sign v negated a) (λ b. links_one links b v z.1)))
    expr_one (Compare how x y) v h =
        let z = and_parts (is_simple_expr x) (is_simple_expr y) h in
        one_noded (one_bound _ (expr_one x v z.0) (λ a. one_bound _ (expr_one y v z.1) (λ b. on_one)))
    expr_one (Truth t) v h = absurd (let bad : false ≡ true = h in cc)
    expr_one (Known d) v h = one_noded (one_bound _ (desig_one d v h) (λ a. on_one))
    expr_one (Chr x) v h = one_noded (one_bound _ (expr_one x v h) (λ n. one_checked v _ _ n))
    expr_one (CallExpr called args up) v h = absurd (let bad : false ≡ true = h in cc)

    links_one : (links : Links) (a : ℤ) (v : Store) → are_simple_links links ≡ true → GivesOne ℤ v (ev_links p input below links a v)
    links_one no_links a v h = on_one
    links_one (more_links how x rest) a v h =
        let z = and_parts (is_simple_expr x) (are_simple_links rest) h in
        one_bound _ (expr_one x v z.0) (λ b. one_bound _ (one_op v how a b) (λ c. links_one rest c v z.1))

    pub desig_one : (d : Desig) (v : Store) → is_simple_desig d ≡ true → GivesOne Place v (ev_desig p input below d v)
    desig_one (a_desig x cells sels) v h = one_noded (one_bound _ (root_one v x cells) (λ a. sels_one sels a v h))

    sels_one : (sels : Sels) (a : Place) (v : Store) → are_simple_sels sels ≡ true → GivesOne Place v (ev_sels p input below sels a v)
    sels_one no_sels a v h = on_one
    sels_one (more_sels x rest) a v h =
        let z = and_parts (is_simple_sel x) (are_simple_sels rest) h in
        one_bound _ (sel_one x a v z.0) (λ c. sels_one rest c v z.1)

    sel_one : (x : Sel) (a : Place) (v : Store) → is_simple_sel x ≡ true → GivesOne Place v (ev_sel p input below x a v)
    sel_one (Field offset cells) a v h = on_visit (on_visit on_one)
    sel_one (Index x range cells) a v h = one_noded
        (one_bound _ (expr_one x v h) (λ n. one_checked v _ _ (part a (nat_abs (n -ℤ range.low) * cells) cells)))
