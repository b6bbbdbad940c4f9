-- Calls of a checked program, in the words of its conditions.
use Rattle.std.proofs.Common.{◌≡◌, ℕ, suc, ◌+◌, ◌<◌, List, [], length, get_or, Some, None, Option, refl}
use Rattle.std.specs.Prelude.{IsNone, IsSome}
use Rattle.alma_code.specs.declared.head.Run.{Run}
use Rattle.alma_code.specs.Layout.{kinds_of}
use Rattle.alma_code.specs.Plain.{PlainCode}
use Rattle.alma_code.specs.Plain as plain
use Rattle.alma_ir.specs.Tree.{Program, Args, CallTest, CallExpr, routine_at}
use Rattle.alma_ir.specs.Phrases.{TestPhrase, ExprPhrase}
use Rattle.alma_ir.specs.Checked.{IsChecked, LinksAgree, CalleeExists, CallLeads, CallFits, ResultAgrees}
use Rattle.alma_mean.specs.Meaning.{Level}
use Rattle.alma_lower_implements.proofs.Frames.{HasSlots}
use Rattle.alma_lower_templates.specs.Tables.{Tables}
use Rattle.alma_lower_templates.specs.Slots.{routine_kinds, handed_slots, args_slots, test_slots, expr_slots}
use Rattle.alma_lower_templates.specs.Compiled.{program_code}
use Rattle.alma_lower_templates.proofs.FormRuns.{TestRuns, ExprRuns}
use Rattle.alma_lower_templates.proofs.Args.{ArgParts}
use Rattle.alma_lower_templates.proofs.Calls.{Callee, RoutineRuns, call_test_runs, call_expr_runs}
use Rattle.alma_lower_templates.proofs.Whole.{routine_compiled}

none_is : {A : Type 0} (o : Option A) → IsNone o → o ≡ None
none_is None h = refl
none_is (Some a) h = absurd (cc)

some_is : {A : Type 0} (o : Option A) → IsSome o → (a : A) × (o ≡ Some a)
some_is None h = absurd (cc)
some_is (Some a) h = (a, refl)

module _ (p : Program) (tables : Tables) (code : PlainCode) (all : List (List Run)) (is : code ≡ program_code p tables all)
    (count : length all ≡ length p.routines) (names : (r : ℕ) → r < length p.routines → kinds_of 0 (get_or all r []) ≡ routine_kinds p r)
    (checked : IsChecked p)
    (input : List ℕ) (below : Level) (q : ℕ) (routines : (r : ℕ) → r < length p.routines → RoutineRuns p tables code input below r q)
    (r line : ℕ) (exists : r < length p.routines) where
  callee_of : (called up : ℕ) → (0 < called) × (called < length p.routines) → LinksAgree p r (routine_at p r) called up
      → Callee p tables code input below r line (suc q) called up
  callee_of called up there leads = record {
    named = get_or code.routines called plain.no_routine;
    is = routine_compiled p tables code all is count names called there.1;
    exists = there.1;
    not_main = there.0;
    first = checked.params called there.1;
    nested = checked.nested;
    own = exists;
    leads = leads;
  }

  -- a call as a test
  pub test_call_runs : (called up : ℕ) (args : Args) (at lo : ℕ) → CalleeExists p (TestPhrase (CallTest called args up))
      → CallLeads p r (routine_at p r) (TestPhrase (CallTest called args up)) → CallFits p (TestPhrase (CallTest called args up))
      → ResultAgrees p (TestPhrase (CallTest called args up))
      → HasSlots p code r lo (test_slots p r (CallTest called args up))
      → ((m first : ℕ) → HasSlots p code r (first + length (handed_slots args)) (args_slots p r args)
      → ArgParts p tables code input below r line (suc q) m first (first + length (handed_slots args)) args)
      → TestRuns p tables code input below r line (suc q) at lo (CallTest called args up)
  test_call_runs called up args at lo there leads fits result slots parts =
      call_test_runs p tables code input below r line q called up (callee_of called up there leads) (routines called there.1)
      (none_is (routine_at p called).result result) args lo at fits slots parts

  -- a call in an expression
  pub expr_call_runs : (called up : ℕ) (args : Args) (at lo : ℕ) → CalleeExists p (ExprPhrase (CallExpr called args up))
      → CallLeads p r (routine_at p r) (ExprPhrase (CallExpr called args up)) → CallFits p (ExprPhrase (CallExpr called args up))
      → ResultAgrees p (ExprPhrase (CallExpr called args up))
      → HasSlots p code r lo (expr_slots p r (CallExpr called args up))
      → ((m first : ℕ) → HasSlots p code r (first + length (handed_slots args)) (args_slots p r args)
      → ArgParts p tables code input below r line (suc q) m first (first + length (handed_slots args)) args)
      → ExprRuns p tables code input below r line (suc q) at lo (CallExpr called args up)
  expr_call_runs called up args at lo there leads fits result slots parts =
      let some = some_is (routine_at p called).result result in
      call_expr_runs p tables code input below r line q called up (callee_of called up there leads) (routines called there.1) some.0 some.1
      (checked.lines called there.1).line args lo at fits slots parts
