-- A value that is used at once: a variable of the routine stands for itself, any other expression has its code.
use Rattle.std.proofs.Common.{◌≡◌, ℕ, ◌+◌, ◌≤◌, List, length, Some, None, Option, refl, sym, ap, ◌∙◌, subst, arith, ℤ}
use Rattle.alma_base.specs.declared.fault.RunFault.TheVariants as fault
use Rattle.alma_code.specs.Lines.{line_at}
use Rattle.alma_code.specs.Picture.{PlainFrame}
use Rattle.alma_code.specs.Plain.{PlainCode}
use Rattle.alma_ir.specs.Tree.{Program, Expr}
use Rattle.alma_mean.specs.Store.{Store, top_cell}
use Rattle.alma_mean.specs.Events.{Events, Visit, Fail, one, join, bind, visit_each}
use Rattle.alma_mean.specs.Rows.{read_cell}
use Rattle.alma_mean.specs.Meaning.{Level, ev_expr}
use Rattle.alma_lower_implements.proofs.Goes.{weaker}
use Rattle.alma_lower_implements.proofs.Frames.{own_end, shift}
use Rattle.alma_lower_implements.proofs.BareRow.{ReadsFirst, reads_unknown, bare_is}
use Rattle.alma_lower_implements.proofs.ExprRows.{AreVariables}
use Rattle.alma_lower_implements.proofs.ForSteps.{SlotThere, a_number, not_known, slot_there}
use Rattle.alma_lower_implements.proofs.Ways.{Ways, Leaves}
use Rattle.alma_lower_templates.specs.LineInstr.{LineInstr}
use Rattle.alma_lower_templates.specs.Tables.{Tables}
use Rattle.alma_lower_templates.specs.Slots.{bare, unless_bare}
use Rattle.alma_lower_templates.specs.Templates.{expr_code, slot_or, value_at}
use Rattle.alma_lower_templates.specs.Stands.{Stands}
use Rattle.alma_lower_templates.proofs.Parts.{Begins, Left, left_self, IsValue, ValueIn, NodeFor, From, Carries, leaving, leaving_carries}
use Rattle.alma_lower_templates.proofs.Fields.{load_from}
use Rattle.alma_lower_templates.proofs.Parts.{then_ways, alone_from, faults_here}

module _ (p : Program) (tables : Tables) (code : PlainCode) (input : List ℕ) (below : Level) (r line q : ℕ) where
  -- such a slot is a variable of the routine
  abbrev pub BareFits : Option ℕ → Type 0
  BareFits (Some from) = AreVariables p code input r from 1
  BareFits None = Unit {0}

  -- a variable of the routine stands for itself, and any other expression runs
  pub record AtOnce (at lo : ℕ) (x : Expr) : Type 0 where
    pub fits : BareFits (bare x)
    pub runs : bare x ≡ None → NodeFor p code input r line at lo (expr_code p tables r line at lo x) (ev_expr p input below x)
        (ValueIn p code input lo) q

  module _ {B : Type 0} (exit lo la at : ℕ) (v : Store) (now : List PlainFrame) (w : List PlainFrame → Ways B) (k : Store → ℤ → Events B)
      (le : lo ≤ la) (carries : Carries p code input lo r w) (b : Begins p code input r v now) where
    -- the variable
    bare_from : (from : ℕ) → AreVariables p code input r from 1 → line_at code at ≡ line → ReadsFirst code input at (shift p r + from) now
        → ((n : ℤ) → IsValue p code input (shift p r + from) n now → From p code input line 8 at exit now (w now) (k v n) q)
        → From p code input line 0 at exit now (w now)
        (bind (Visit (Visit (Visit (visit_each (join (read_cell (top_cell v from) (λ n. one v n)) Fail))))) k) q
    bare_from from variable there reads later = by (slot_there p code input r from variable v now b.stand b.routine)
      where
        -- a number comes behind four visits, which pay for 128 steps; a fault behind three, which pay for 96
        by : SlotThere p code input v now from (shift p r + from)
            → From p code input line 0 at exit now (w now)
            (bind (Visit (Visit (Visit (visit_each (join (read_cell (top_cell v from) (λ n. one v n)) Fail))))) k) q
        by (a_number x e hold integer) =
            subst (λ c. From p code input line 0 at exit now (w now)
            (bind (Visit (Visit (Visit (visit_each (join (read_cell c (λ n. one v n)) Fail))))) k) q) (sym e)
            (λ held s is. weaker code input line 0 24 (Leaves exit (w now)) held (join (k v x) Fail) s 128 8 q q (omega arith) (omega arith)
            (alone_from p code input line 8 at exit now (w now) (k v x) q (later x (record { holds = hold; integer = integer })) held s is))
        by (not_known e hold) =
            subst (λ c. From p code input line 0 at exit now (w now)
            (bind (Visit (Visit (Visit (visit_each (join (read_cell c (λ n. one v n)) Fail))))) k) q) (sym e)
            (λ held s is. faults_here p code input line 95 at exit now (w now) fault.Unknown q
            (λ h u at_u. reads_unknown code input line at (shift p r + from) now h u reads at_u there hold) held s is)

    value_from : (x : Expr) (o : Option ℕ) → bare x ≡ o → (made : List LineInstr) → BareFits o
        → (o ≡ None → NodeFor p code input r line at la made (ev_expr p input below x) (ValueIn p code input la) q)
        → Stands code at (unless_bare o made) → line_at code (at + length (unless_bare o made)) ≡ line
        → ReadsFirst code input (at + length (unless_bare o made)) (slot_or p tables r o la) now
        → ((u : Store) (n : ℤ) (t : List PlainFrame) → Left p code input la r now u t → IsValue p code input (slot_or p tables r o la) n t
        → From p code input line 8 (at + length (unless_bare o made)) exit t (w t) (k u n) q)
        → From p code input line 0 at exit now (w now) (bind (ev_expr p input below x v) k) q
    value_from x None e made fits runs stands there reads later =
        then_ways p code input line at (at + length made) exit lo la r now (ValueIn p code input la) w (ev_expr p input below x v) k q le
        carries (runs refl stands v now b) later
    value_from x (Some from) e made fits runs stands there reads later =
        let zero : at + 0 ≡ at = omega arith in
        load_from p code input line at exit now (w now) below v from q x k e
        (λ size. subst (λ y. From p code input line 0 at exit now (w now) (bind y k) q) (sym (bare_is code input p below from size v))
        (bare_from from fits (ap (line_at code) (sym zero) ∙ there) (subst (λ n. ReadsFirst code input n (shift p r + from) now) zero reads)
        (λ n value. subst (λ m. From p code input line 8 m exit now (w now) (k v n) q) zero
        (later v n now (left_self p code input la r v now b) value))))

    -- a value, and what is done with it
    pub at_once_ways : (x : Expr) → AtOnce at la x → Stands code at (unless_bare (bare x) (expr_code p tables r line at la x))
        → line_at code (at + length (unless_bare (bare x) (expr_code p tables r line at la x))) ≡ line
        → ReadsFirst code input (at + length (unless_bare (bare x) (expr_code p tables r line at la x))) (value_at p tables r la x) now
        → ((u : Store) (n : ℤ) (t : List PlainFrame) → Left p code input la r now u t → IsValue p code input (value_at p tables r la x) n t
        → From p code input line 8 (at + length (unless_bare (bare x) (expr_code p tables r line at la x))) exit t (w t) (k u n) q)
        → From p code input line 0 at exit now (w now) (bind (ev_expr p input below x v) k) q
    at_once_ways x h stands there reads later =
        value_from x (bare x) refl (expr_code p tables r line at la x) h.fits h.runs stands there reads later

  pub at_once : {B : Type 0} (exit lo la at : ℕ) (v : Store) (now : List PlainFrame) (yb : Store → B → List PlainFrame → Type 0)
      (k : Store → ℤ → Events B) → lo ≤ la → own_end p r ≤ lo → Begins p code input r v now → (x : Expr) → AtOnce at la x
      → Stands code at (unless_bare (bare x) (expr_code p tables r line at la x))
      → line_at code (at + length (unless_bare (bare x) (expr_code p tables r line at la x))) ≡ line
      → ReadsFirst code input (at + length (unless_bare (bare x) (expr_code p tables r line at la x))) (value_at p tables r la x) now
      → ((u : Store) (n : ℤ) (t : List PlainFrame) → Left p code input la r now u t → IsValue p code input (value_at p tables r la x) n t
      → From p code input line 8 (at + length (unless_bare (bare x) (expr_code p tables r line at la x))) exit t
      (leaving p code input lo r t yb) (k u n) q)
      → From p code input line 0 at exit now (leaving p code input lo r now yb) (bind (ev_expr p input below x v) k) q
  at_once exit lo la at v now yb k le own b x h stands there reads later =
      at_once_ways exit lo la at v now (λ t. leaving p code input lo r t yb) k le (leaving_carries p code input lo r yb) b x h stands there
      reads later
