-- The slot into which an expression puts its value by its last instruction: the first slot of the expression, one before it,
-- or a variable of the routine.
use Rattle.std.proofs.Common.{◌≡◌, ℕ, suc, ◌+◌, ◌≤◌, true, List, Some, refl, sym, subst, arith, ℤ}
use Rattle.std.specs.Prelude.{slice_get}
use Rattle.alma_base.specs.Numbers.{is_integer}
use Rattle.alma_code.specs.declared.cell.Cell.TheVariants as cell
use Rattle.alma_code.specs.declared.cell.SlotKind.TheVariants as slot
use Rattle.alma_code.specs.Picture.{PlainFrame, PlainEntry}
use Rattle.alma_code.specs.Plain.{PlainCode, kinds_at}
use Rattle.alma_code.specs.Machine.{State}
use Rattle.alma_ir.specs.Tree.{Program}
use Rattle.alma_mean.specs.Store.{Store, Number, put_top}
use Rattle.alma_mean.specs.Events.{Events, one, bind}
use Rattle.alma_lower_implements.proofs.Goes.{before, bind_goes, one_goes}
use Rattle.alma_lower_implements.proofs.Frames.{shift, own_end, IsAt}
use Rattle.alma_lower_implements.proofs.ExprRows.{AreVariables}
use Rattle.alma_lower_implements.proofs.ForSteps.{slot_has_kind}
use Rattle.alma_lower_implements.proofs.Steps.{HasKind, Writes}
use Rattle.alma_lower_implements.proofs.Ways.{Ways, Leaves}
use Rattle.alma_lower_templates.proofs.Parts.{Begins, Left, left_on, left_less, has_kind, ValueIn, NodeRuns, node_here, From, on_from}
use Rattle.alma_lower_templates.proofs.Parts.{leaving, Carries, value_ends}
use Rattle.alma_lower_templates.proofs.Targets.{left_variable}

module _ (p : Program) (code : PlainCode) (input : List ℕ) where
  -- the frames stand for the store with the value put into a variable
  abbrev pub into : (to lo r : ℕ) → List PlainFrame → Ways ℤ
  into to lo r before = record {
    goes = λ v n now. Left p code input lo r before (put_top v to (Number n)) now
        × (is_integer n ≡ true);
    returns = λ v n at now. ⊥;
  }

  into_carries : (to lo r : ℕ) → Carries p code input lo r (into to lo r)
  into_carries to lo r = record {
    goes = λ v now t left x n u h.
        (left_on p code input lo lo r now v (put_top x to (Number n)) t u (omega arith) left h.0, h.1);
    returns =
        λ v now t left x n a u h. h;
  }

  module _ (line q lo r : ℕ) where
    -- a slot that takes a value by one step, with which the expression ends
    pub record Destination (end : ℕ) (w : List PlainFrame → Ways ℤ) : Type 0 where
      pub carries : Carries p code input lo r w
      pub kind : (v : Store) (now : List PlainFrame) → Begins p code input r v now → HasKind now end slot.Number
      pub ends : (c at : ℕ) (v : Store) (now : List PlainFrame) (n : ℤ) → Begins p code input r v now → is_integer n ≡ true
          → ((held : List PlainEntry) (s : State) → IsAt at now held s → Writes code input at now held s end (cell.Int n))
          → From p code input line (suc c) at (at + 1) now (w now) (one v n) q

    -- a slot before those of the expression
    pub slot_takes : (to : ℕ) → to ≤ lo → own_end p r ≤ to → slice_get (kinds_at code r) to ≡ Some slot.Number
        → Destination to (λ t. leaving p code input to r t (ValueIn p code input to))
    slot_takes to le behind kind = record {
      carries = record {
        goes = λ v now t left x n u h.
            (left_on p code input to to r now v x t u (omega arith) (left_less p code input to lo r now v t le left) h.0, h.1);
        returns = λ v now t left x n a u h. h;
      };
      kind = λ v now b. has_kind p code input r to v now slot.Number kind b;
      ends = λ c at v now n b integer writes. value_ends p code input line c at to r v now n q behind kind integer b writes;
    }

    pub first_takes : own_end p r ≤ lo → slice_get (kinds_at code r) lo ≡ Some slot.Number
        → Destination lo (λ t. leaving p code input lo r t (ValueIn p code input lo))
    first_takes behind kind = slot_takes lo (omega arith) behind kind

    pub variable_takes : (to : ℕ) → AreVariables p code input r to 1 → Destination (shift p r + to) (into to lo r)
    variable_takes to variable = record {
      carries = into_carries to lo r;
      kind = λ v now b. slot_has_kind p code input r to variable v now b.stand b.routine;
      ends = λ c at v now n b integer writes held s is.
          let z = writes held s is in
          before code input line 0 24 (Leaves (at + 1) (into to lo r now)) held (one v n) s z.to 1 (suc c) c q q z.silently (omega arith)
          (omega arith)
          (one_goes code input line 0 24 (Leaves (at + 1) (into to lo r now)) held v n z.to c q (omega arith)
          (record { mode = z.is.mode; entries = z.is.entries }) (
            z.is.here,
            (
              subst (λ t. Left p code input lo r now (put_top v to (Number n)) t) (sym z.is.frames)
                  (left_variable p code input lo r to v now n variable integer b),
              integer,
            ),
          ));
    }

  -- ---- the slots, by name

  pub data Goal : Type 0 where
    in_first : Goal
    in_slot : (to : ℕ) → Goal
    in_variable : (to : ℕ) → Goal

  module _ (r : ℕ) where
    abbrev pub goal_end : Goal → (lo : ℕ) → ℕ
    goal_end in_first lo = lo
    goal_end (in_slot to) lo = to
    goal_end (in_variable to) lo = shift p r + to

    abbrev pub goal_ways : Goal → (lo : ℕ) → List PlainFrame → Ways ℤ
    goal_ways in_first lo now = leaving p code input lo r now (ValueIn p code input lo)
    goal_ways (in_slot to) lo now = leaving p code input to r now (ValueIn p code input to)
    goal_ways (in_variable to) lo now = into to lo r now

    -- what is asked of it by an expression whose first slot is `lo`
    abbrev pub GoalFits : Goal → (lo : ℕ) → Type 0
    GoalFits in_first lo = Unit {0}
    GoalFits (in_slot to) lo = (to ≤ lo) × (own_end p r ≤ to) × (slice_get (kinds_at code r) to ≡ Some slot.Number)
    GoalFits (in_variable to) lo = AreVariables p code input r to 1

    pub goal_takes : (line q lo : ℕ) (g : Goal) → GoalFits g lo → own_end p r ≤ lo → slice_get (kinds_at code r) lo ≡ Some slot.Number
        → Destination line q lo r (goal_end g lo) (goal_ways g lo)
    goal_takes line q lo in_first fits behind kind = first_takes line q lo r behind kind
    goal_takes line q lo (in_slot to) fits behind kind = slot_takes line q lo r to fits.0 fits.1 fits.2
    goal_takes line q lo (in_variable to) fits behind kind = variable_takes line q lo r to fits

  -- an expression whose value goes into a variable, and what is behind it
  pub then_into : {B : Type 0} (line at m exit lo la to r : ℕ) (now : List PlainFrame) (yields : Store → B → List PlainFrame → Type 0)
      (e : Events ℤ) (k : Store → ℤ → Events B) (q : ℕ)
      → lo ≤ la → own_end p r ≤ lo → NodeRuns p code input line at m now (into to la r now) e q
      → ((v : Store) (n : ℤ) (t : List PlainFrame) → Left p code input la r now (put_top v to (Number n)) t → is_integer n ≡ true
      → From p code input line 8 m exit t (leaving p code input lo r t yields) (k v n) q)
      → From p code input line 0 at exit now (leaving p code input lo r now yields) (bind e k) q
  then_into line at m exit lo la to r now yields e k q le own runs later held s is =
      bind_goes code input line 8 0 24 (Leaves m (into to la r now)) (Leaves exit (leaving p code input lo r now yields)) held e k s 0 q 8
      (omega arith) (omega arith)
      (node_here p code input line at m now (into to la r now) e q runs held s is)
      (λ v n t base going left.
      on_from p code input line 8 m exit lo lo r (put_top v to (Number n)) now t.now yields (k v n) q (omega arith) own
      (left_less p code input lo la r now (put_top v to (Number n)) t.now le left.1.0) (later v n t.now left.1.0 left.1.1) base t
      (record { mode = going.mode; here = left.0; frames = refl; entries = going.entries }))
      (λ v n t left. absurd left)
