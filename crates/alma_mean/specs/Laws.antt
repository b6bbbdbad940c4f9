-- What the laws of the meaning say.
use Rattle.std.specs.Prelude.{◌≡◌, ℕ, suc, ◌+◌, Bool, true, false, List, ◌++◌, ℤ, pos}
use Rattle.alma_base.specs.declared.number.Range.{Range}
use Rattle.alma_base.specs.declared.fault.RunFault.{RunFault}
use Rattle.alma_ir.specs.Tree.{Stmts, Stmt, Test, Expr, Arg, Desig, Sel, Loop, Program, While, Repeat, ForTo, SomeOf, a_loop}
use Rattle.alma_mean.specs.Store.{Store, Place}
use Rattle.alma_mean.specs.Events.{Events, NoYield, Visit, Print, Alt, Flow, Fail, Fault, Cut, one, bind, node, first, prints, end_of}
use Rattle.alma_mean.specs.Events.{CutOff}
use Rattle.alma_mean.specs.Rows.{ArgValue, begin_loop}
use Rattle.alma_mean.specs.Meaning.{Level, level, level_above, ev_stmt, ev_expr, ev_program, result}

-- the first list up to its Cut is a prefix of the second, and without a Cut both are equal
pub data Extends (A : Type 0) : Events A → Events A → Type 0 where
  on_visit : {e f : Events A} → Extends A e f → Extends A (Visit e) (Visit f)
  on_print : {b : List ℕ} {e f : Events A} → Extends A e f → Extends A (Print b e) (Print b f)
  on_alt : {s : Store} {w : Flow A} {e f : Events A} → Extends A e f → Extends A (Alt s w e) (Alt s w f)
  at_fail : Extends A Fail Fail
  at_fault : {x : RunFault} {l : ℕ} → Extends A (Fault x l) (Fault x l)
  at_cut : {f : Events A} → Extends A Cut f

-- the list closes with Cut
abbrev pub ends_in_cut : {A : Type 0} → Events A → Bool
ends_in_cut (Visit e) = ends_in_cut e
ends_in_cut (Print b e) = ends_in_cut e
ends_in_cut (Alt s w e) = ends_in_cut e
ends_in_cut Fail = false
ends_in_cut (Fault x l) = false
ends_in_cut Cut = true

-- a list with no Cut is extended by itself alone
abbrev pub IsWhole : (A : Type 0) → Type 0
IsWhole A = (e f : Events A) → Extends A e f → ends_in_cut e ≡ false → f ≡ e

-- so it is for each sort of phrase, by what an alternative of it yields
pub record UncutListsStay : Type 0 where
  pub statements : IsWhole NoYield
  pub expressions : IsWhole ℤ
  pub designators : IsWhole Place
  pub arguments : IsWhole ArgValue

-- the events of each phrase at the first level are extended by those at the second
pub record IsBelow (b c : Level) : Type 0 where
  pub stmts : (x : Stmts) (s : Store) → Extends NoYield (b.stmts x s) (c.stmts x s)
  pub stmt : (x : Stmt) (s : Store) → Extends NoYield (b.stmt x s) (c.stmt x s)
  pub test : (t : Test) (s : Store) → Extends NoYield (b.test t s) (c.test t s)
  pub expr : (e : Expr) (s : Store) → Extends ℤ (b.expr e s) (c.expr e s)
  pub arg : (a : Arg) (s : Store) → Extends ArgValue (b.arg a s) (c.arg a s)
  pub desig : (d : Desig) (s : Store) → Extends Place (b.desig d s) (c.desig d s)
  pub sel : (x : Sel) (q : Place) (s : Store) → Extends Place (b.sel x q s) (c.sel x q s)
  pub routine : (r : ℕ) (s : Store) → Extends NoYield (b.routine r s) (c.routine r s)
  pub while : (t : Test) (x : Stmts) (s : Store) → Extends NoYield (b.while t x s) (c.while t x s)
  pub repeat : (x : Stmts) (t : Test) (s : Store) → Extends NoYield (b.repeat x t s) (c.repeat x t s)
  pub for : (l : Loop) (s : Store) → Extends NoYield (b.for l s) (c.for l s)
  pub some : (l : Loop) (s : Store) → Extends NoYield (b.some l s) (c.some l s)

-- each level is extended by the next, and so is the program
pub record LevelsRise (p : Program) (input : List ℕ) : Type 0 where
  pub phrases : (n : ℕ) → IsBelow (level p input n) (level p input (suc n))
  pub program : (n : ℕ) → Extends NoYield (ev_program n p input) (ev_program (suc n) p input)

-- the second list is the first and something behind it
abbrev pub IsPrefix : List ℕ → List ℕ → Type 0
IsPrefix xs ys = (zs : List ℕ) × (xs ++ zs ≡ ys)

-- a result that is not cut off is that of each higher level
abbrev pub ResultStays : Program → List ℕ → Type 0
ResultStays p input = (n k : ℕ) → (end_of (first (ev_program n p input)) ≡ CutOff → ⊥) → result (k + n) p input ≡ result n p input

-- what is printed at a level is a prefix of what is printed at each higher one
abbrev pub PrintsGrow : Program → List ℕ → Type 0
PrintsGrow p input = (n k : ℕ) → IsPrefix (prints (first (ev_program n p input))) (prints (first (ev_program (k + n) p input)))

-- the first turn of each loop is a turn as the level above gives it
pub record TurnsAgree (p : Program) (input : List ℕ) (below : Level) : Type 0 where
  pub while : (t : Test) (x : Stmts) (s : Store) →
      ev_stmt p input below (While t x) s ≡ node ((level_above p input below).while t x s)
  pub repeat : (t : Test) (x : Stmts) (s : Store) →
      ev_stmt p input below (Repeat x t) s ≡ node ((level_above p input below).repeat x t s)
  pub for : (d : Desig) (range : Range) (counter limit : ℕ) (from to : Expr) (by : ℤ) (body : Stmts) (s : Store) →
      ev_stmt p input below (ForTo (a_loop d range counter limit from to by body)) s ≡
      node (bind (ev_expr p input below from s) (λ t n. bind (ev_expr p input below to t) (λ u l.
      begin_loop counter limit by n l u ((level_above p input below).for (a_loop d range counter limit from to by body)) (λ w. one w tt))))
  pub some : (d : Desig) (range : Range) (counter limit : ℕ) (from to : Expr) (by : ℤ) (body : Stmts) (s : Store) →
      ev_stmt p input below (SomeOf (a_loop d range counter limit from to by body)) s ≡
      node (bind (ev_expr p input below from s) (λ t n. bind (ev_expr p input below to t) (λ u l.
      begin_loop counter limit (pos 1) n l u ((level_above p input below).some (a_loop d range counter limit from to by body))
      (λ w. Fail))))
