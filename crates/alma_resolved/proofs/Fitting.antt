-- A scene that keeps its table and its entries fits the place of its routine.
use Rattle.std.proofs.Common.{◌≡◌, ◌≢◌, ◌⊎◌, inl, inr, ℕ, suc, ◌+◌, ◌-◌, ◌<◌, ◌≤◌, Bool, true, false, List, [], ◌∷◌, length, get_or, Option}
use Rattle.std.proofs.Common.{None, Some, refl, sym, ap, ◌∙◌, subst, arith}
use Rattle.std.specs.Prelude.{nat_eq, if◌then◌else◌}
use Rattle.std.proofs.lemmas.Bool.Decides.{eqb_tells}
use Rattle.alma_names.specs.declared.block.Access.{Access}
use Rattle.alma_names.specs.declared.block.Access.TheVariants as access
use Rattle.alma_names.specs.declared.block.Entry.{Entry}
use Rattle.alma_names.specs.declared.block.Entry.TheVariants as entry
use Rattle.alma_names.specs.Shapes.{cells_at}
use Rattle.alma_ir.specs.declared.phrase.Root.TheVariants as root
use Rattle.alma_ir.specs.declared.program.Param.{Param}
use Rattle.alma_ir.specs.Tree.{Routine, routine_at}
use Rattle.alma_ir.specs.Checked.{HoldPlace, outer_at}
use Rattle.alma_rules.specs.Scene.{Scene, Heading, FormalOf, found_as, root_from, heading_of, routine}
use Rattle.alma_resolved.specs.Fits.{Place, own, InFrame, RootFits}
use Rattle.alma_resolved.specs.Scenes.{FormalsFit, ResultFits, CalleeFits, FoundFits, ReturnsFit, ReturnsSimple, SceneFits}
use Rattle.alma_resolved.proofs.Lookups.{found_each}
use Rattle.alma_resolved.proofs.Tables.{table_fits}
use Rattle.alma_resolved.proofs.Entries.{owner, AccessKeeps, RoutineKeeps, EntryKeeps, FormalsKeep, ResultKeeps, HeadKeeps, SceneKeeps}

-- how deep the routine of a place stands
pub record Sits (k : Place) (c : ℕ) : Type 0 where
  pub level : (own k).level ≡ c
  pub outside : c ≡ 0 → k.number ≡ 0
  pub module_level : k.number ≡ 0 → c ≡ 0

-- ---- variables

owner_of : (k : Place) (c n links : ℕ) → links ≡ suc c - n → owner k c n ≡ outer_at k.program k.number links
owner_of k c n links e = ap (λ m. outer_at k.program k.number m) (sym e)

local_fits : (k : Place) (c n slot m : ℕ) → Sits k c → 1 < n → n ≤ suc c → InFrame k (owner k c n) slot m
    → RootFits k (if nat_eq (n - 1) c then root.Local slot else root.Outer (c - (n - 1)) slot) m
local_fits k c n slot m s lo hi h = by (nat_eq (n - 1) c) (eqb_tells (n - 1) c)
  where
    by : (b : Bool) → ((b ≡ true) × (n - 1 ≡ c)) ⊎ ((b ≡ false) × ((n - 1) ≢ c))
        → RootFits k (if b then root.Local slot else root.Outer (c - (n - 1)) slot) m
    by true (inl p) =
        let none : 0 ≡ suc c - n = omega (arith, p.1, lo) in (
          subst (λ q. InFrame k q slot m) (owner_of k c n 0 none) h,
          λ e. let z : c ≡ 0 = s.module_level e in
              absurd (omega (arith, z, lo, hi)),
        )
    by true (inr p) = absurd (cc)
    by false (inl p) = absurd (cc)
    by false (inr p) =
        let links : c - (n - 1) ≡ suc c - n = omega (arith, lo) in
        let below : n - 1 < c = below_it p.1 in
        ((omega (arith, below), omega (arith, s.level, lo, below)), subst (λ q. InFrame k q slot m) (owner_of k c n (c - (n - 1)) links) h)
      where
        below_it : (n - 1) ≢ c → n - 1 < c
        below_it p = omega (arith, p, lo, hi)

global_fits : (k : Place) (c slot m : ℕ) → Sits k c → InFrame k 0 slot m → 0 < slot
    → RootFits k (if nat_eq c 0 then root.Local slot else root.Global slot) m
global_fits k c slot m s h lt = by (nat_eq c 0) (eqb_tells c 0)
  where
    by : (b : Bool) → ((b ≡ true) × (c ≡ 0)) ⊎ ((b ≡ false) × (c ≢ 0)) → RootFits k (if b then root.Local slot else root.Global slot) m
    by true (inl p) = (subst (λ q. InFrame k q slot m) (sym (s.outside p.1)) h, λ e. lt)
    by true (inr p) = absurd (cc)
    by false (inl p) = absurd (cc)
    by false (inr p) = (omega (arith, s.level, p.1), h, lt)

param_fits : (k : Place) (c n slot m : ℕ) → Sits k c → 1 < n → n ≤ suc c → HoldPlace (routine_at k.program (owner k c n)).params slot m
    → RootFits k (if nat_eq (n - 1) c then root.Param slot else root.OuterParam (c - (n - 1)) slot) m
param_fits k c n slot m s lo hi h = by (nat_eq (n - 1) c) (eqb_tells (n - 1) c)
  where
    by : (b : Bool) → ((b ≡ true) × (n - 1 ≡ c)) ⊎ ((b ≡ false) × ((n - 1) ≢ c))
        → RootFits k (if b then root.Param slot else root.OuterParam (c - (n - 1)) slot) m
    by true (inl p) =
        let none : 0 ≡ suc c - n = omega (arith, p.1, lo) in
        subst (λ q. HoldPlace (routine_at k.program q).params slot m) (owner_of k c n 0 none) h
    by true (inr p) = absurd (cc)
    by false (inl p) = absurd (cc)
    by false (inr p) =
        let links : c - (n - 1) ≡ suc c - n = omega (arith, lo) in
        let below : n - 1 < c = below_it p.1 in (
          (omega (arith, below), omega (arith, s.level, lo, below)),
          subst (λ q. HoldPlace (routine_at k.program q).params slot m) (owner_of k c n (c - (n - 1)) links) h,
        )
      where
        below_it : (n - 1) ≢ c → n - 1 < c
        below_it p = omega (arith, p, lo, hi)

root_fits : (k : Place) (c n m : ℕ) (a : Access) → Sits k c → n ≤ suc c → AccessKeeps k c n m a → RootFits k (root_from c (n - 1) a) m
root_fits k c n m (access.Local slot) s hi h = local_fits k c n slot m s h.0 hi h.1
root_fits k c n m (access.Global slot) s hi h = global_fits k c slot m s h.0 h.1
root_fits k c n m (access.Param slot) s hi h = param_fits k c n slot m s h.0 hi h.1

-- ---- routines

formals_fit : (s : Scene) (fs : List FormalOf) (qs : List Param) → FormalsKeep s.shapes fs qs → FormalsFit s fs qs
formals_fit s [] [] h = tt
formals_fit s [] (q ∷ qs) h = h
formals_fit s (f ∷ fs) [] h = h
formals_fit s (f ∷ fs) (q ∷ qs) h = ((h.0.kind, h.0.cells), formals_fit s fs qs h.1)

result_fits : (s : Scene) (o : Option ℕ) (x : Routine) → ResultKeeps s.shapes o x → ResultFits s o x
result_fits s None x h = h
result_fits s (Some shape) x h = h

callee_fits : (k : Place) (c : ℕ) (s : Scene) (n q up : ℕ) (h : Heading) → Sits k c → n ≤ suc c → RoutineKeeps k c n q → up ≡ suc c - n
    → HeadKeeps k.program s.shapes q h → CalleeFits k s q up h
callee_fits k c s n q up h sits hi r e g = record {
  some = r.some;
  exists = r.exists;
  links = (omega (arith, e, hi, r.level, sits.level), sym (owner_of k c n up e) ∙ sym r.outer);
  result = result_fits s h.result (routine_at k.program q) g.result;
  formals = formals_fit s h.formals (routine_at k.program q).params g.formals;
}

-- ---- the scene

pub scene_fits : (k : Place) (c : ℕ) (s : Scene) → SceneKeeps k c s → Sits k c → ReturnsFit (own k) s.returns → ReturnsSimple s s.returns
    → SceneFits k s
scene_fits k c s h sits returns result = record {
  table = table_fits s h.table;
  names = found_each (EntryKeeps k c s.shapes) (FoundFits k s) s h.entries tt by;
  returns = returns;
  result = result;
}
  where
    level : length s.blocks.below - 1 ≡ c
    level = omega (arith, h.deep)

    headed : (n q : ℕ) → n ≤ suc c → RoutineKeeps k c n q → (o : Option Heading) → get_or s.headings q None ≡ o
        → FoundFits k s (routine q ((length s.blocks.below - 1) + 1 - n) o)
    headed n q hi r None e = tt
    headed n q hi r (Some x) e = callee_fits k c s n q ((length s.blocks.below - 1) + 1 - n) x sits hi r (omega (arith, level))
        (h.heads q x e)

    by : (n : ℕ) (e : Entry) → EntryKeeps k c s.shapes n e → FoundFits k s (found_as s n e)
    by n (entry.Constant shape v) p = p
    by n (entry.Named shape) p = tt
    by n (entry.Variable shape a) p = subst (λ l. RootFits k (root_from l (n - 1) a) (cells_at s.shapes shape.0)) (sym level)
        (root_fits k c n (cells_at s.shapes shape.0) a sits p.1 p.2)
    by n (entry.Routine q) p = headed n q p.0 p.1 (heading_of s q) refl
    by n entry.Bad p = tt
