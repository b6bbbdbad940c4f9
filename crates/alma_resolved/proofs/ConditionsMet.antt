-- A program that fits keeps the conditions of alma_ir on phrases, loops and the ranges of headings.
use Rattle.std.proofs.Common.{inr, ℕ, ◌+◌, ◌<◌, ◌≤◌, Bool, false, List, [], ◌∷◌, length, ap, arith}
use Rattle.std.specs.Prelude.{sum_by}
use Rattle.std.specs.List.{AllByRecursion}
use Rattle.std.proofs.lemmas.List.Sums.{sum_by-cons}
use Rattle.alma_ir.specs.declared.program.Param.{Param}
use Rattle.alma_ir.specs.declared.phrase.Root.TheVariants as root
use Rattle.alma_ir.specs.Tree.{Program, Routine, Global, Loop, ForTo, SomeOf, a_loop, a_desig, routine_at}
use Rattle.alma_ir.specs.Phrases.{Phrase, StmtPhrase, DesigPhrase, stmts_phrases}
use Rattle.alma_ir.specs.Checked.{EachRoutine, EachPhrase, RootExists, PartsExist, CellsAgree, RangesOrdered, HasStep, CalleeExists}
use Rattle.alma_ir.specs.Checked.{ResultAgrees, CallLeads, CallFits, HasChoice, ReturnAgrees, ReturnsStay, AreLaidOut, param_slots}
use Rattle.alma_ir.specs.Checked.{IsOutside, loops_of, RootLeaves, IsHiddenSlot, LoopIsApart, NamesSpelled, KeepsLimits, IsGlobal, HasLines}
use Rattle.alma_ir.specs.Checked.{IsChecked}
use Rattle.alma_ir.proofs.Each.{each_follows}
use Rattle.alma_resolved.specs.Fits.{LoopFits, Fits}
use Rattle.alma_resolved.specs.Frames.{KeepsFrames}
use Rattle.alma_resolved.specs.Keeps.{KeepsPhrase}
use Rattle.alma_resolved.proofs.Checks.{phrase_keeps}
use Rattle.alma_resolved.specs.Whole.{KeepsSlots, place, ProgramFits}

-- ---- phrases

pub phrases_keep : (p : Program) → ProgramFits p → EachRoutine p (λ r x. AllByRecursion (KeepsPhrase p r) (stmts_phrases x.body))
phrases_keep p h r lt =
    each_follows (Fits (place p h.ends r) false (h.ends r) (routine_at p r).slots) (KeepsPhrase p r)
    (λ x g. phrase_keeps (place p h.ends r) false (h.ends r) (routine_at p r).slots x h.within g) (stmts_phrases (routine_at p r).body)
    (h.routines r lt).body.all

-- one of the conditions
each_keeps : (p : Program) → ProgramFits p → (Fact : ℕ → Routine → Phrase → Type 0)
    → ((r : ℕ) (x : Phrase) → KeepsPhrase p r x → Fact r (routine_at p r) x) → EachPhrase p Fact
each_keeps p h Fact f r lt = each_follows (KeepsPhrase p r) (Fact r (routine_at p r)) (λ x k. f r x k) (stmts_phrases (routine_at p r).body)
    (phrases_keep p h r lt)

-- ---- hidden slots

laid_end : (n slot : ℕ) (ps : List Param) → AreLaidOut n ps → n + sum_by param_slots ps ≤ slot
    → AllByRecursion (λ q. IsOutside q.slot (param_slots q) slot) ps
laid_end n slot [] h le = tt
laid_end n slot (q ∷ ps) h le = (
  inr (omega (arith, h.0, le, sum_by-cons param_slots q ps)),
  laid_end (n + param_slots q) slot ps h.1 (omega (arith, le, sum_by-cons param_slots q ps)),
)

root_leaves : (p : Program) (ends : ℕ → ℕ) (holder r slot : ℕ) (i : Bool) (lo hi : ℕ) (x : Phrase) → ends r ≤ slot
    → Fits (place p ends holder) i lo hi x → RootLeaves p holder r slot x
root_leaves p ends holder r slot i lo hi (DesigPhrase (a_desig (root.Local from) cells sels)) le h =
    λ e. inr (omega (arith, h.0.0.0, le, ap ends e))
root_leaves p ends holder r slot i lo hi (DesigPhrase (a_desig (root.Global from) cells sels)) le h =
    λ e. inr (omega (arith, h.0.1.0, le, ap ends e))
root_leaves p ends holder r slot i lo hi (DesigPhrase (a_desig (root.Outer links from) cells sels)) le h =
    λ e. inr (omega (arith, h.0.1.0, le, ap ends e))
root_leaves p ends holder r slot i lo hi x le h = tt

hidden : (p : Program) → KeepsFrames p → (h : ProgramFits p) → (r slot : ℕ) → r < length p.routines → h.ends r ≤ slot
    → slot < (routine_at p r).slots → IsHiddenSlot p r slot
hidden p all h r slot lt le below = record {
  exists = below;
  position = λ e. let some : 0 < h.ends r = (h.routines r lt).position e in omega (arith, some, le);
  params = laid_end 0 slot (routine_at p r).params (all.routines r lt).params.laid_out (omega (arith, (h.routines r lt).params, le));
  globals = λ e. each_follows (λ (g : Global). g.slot + g.cells ≤ h.ends 0) (λ g. IsOutside g.slot g.cells slot)
      (λ g k. inr (omega (arith, k, le, ap h.ends e))) p.globals h.globals;
  roots = λ holder there. each_follows (Fits (place p h.ends holder) false (h.ends holder) (routine_at p holder).slots)
      (RootLeaves p holder r slot)
      (λ x k. root_leaves p h.ends holder r slot false (h.ends holder) (routine_at p holder).slots x le k)
      (stmts_phrases (routine_at p holder).body) (h.routines holder there).body.all;
}

loop_apart : (p : Program) → KeepsFrames p → (h : ProgramFits p) → (r : ℕ) (l : Loop) → r < length p.routines
    → LoopFits (h.ends r) (routine_at p r).slots l → LoopIsApart p r l
loop_apart p all h r (a_loop d range counter limit from to by body) lt f = record {
  of_counter = hidden p all h r counter lt f.3 (omega (arith, f.4, f.5));
  of_limit = hidden p all h r limit lt (omega (arith, f.3, f.4)) f.5;
  two = λ e. omega (arith, e, f.4);
  nested = f.6;
}

loops_apart : (p : Program) → KeepsFrames p → (h : ProgramFits p) → (r : ℕ) (x : Phrase) → r < length p.routines
    → Fits (place p h.ends r) false (h.ends r) (routine_at p r).slots x → AllByRecursion (LoopIsApart p r) (loops_of x)
loops_apart p all h r (StmtPhrase (ForTo l)) lt f = (loop_apart p all h r l lt f, tt)
loops_apart p all h r (StmtPhrase (SomeOf l)) lt f = (loop_apart p all h r l lt f, tt)
loops_apart p all h r x lt f = tt

-- ---- all conditions

pub fits_checked : (p : Program) → KeepsFrames p → AllByRecursion (IsGlobal p) p.globals → ProgramFits p
    → EachRoutine p (λ r routine. HasLines routine) → NamesSpelled p → KeepsLimits p → EachRoutine p (λ r routine. KeepsSlots routine)
    → IsChecked p
fits_checked p all globals h lines names limits slots = record {
  body = all.body;
  body_takes_nothing = all.body_takes_nothing;
  params = λ r lt. (all.routines r lt).params;
  declared = λ r lt. (all.routines r lt).declared;
  nested = λ r lt. (all.routines r lt).nested;
  globals = globals;
  roots = each_keeps p h (RootExists p) (λ r x k. k.root);
  parts = each_keeps p h (λ r routine x. PartsExist x) (λ r x k. k.parts);
  cells = each_keeps p h (λ r routine x. CellsAgree x) (λ r x k. k.cells);
  head_ranges = λ r lt. (h.routines r lt).heads;
  ranges = each_keeps p h (λ r routine x. RangesOrdered x) (λ r x k. k.ranges);
  steps = each_keeps p h (λ r routine x. AllByRecursion HasStep (loops_of x)) (λ r x k. k.steps);
  loops = λ r lt. each_follows (Fits (place p h.ends r) false (h.ends r) (routine_at p r).slots)
      (λ x. AllByRecursion (LoopIsApart p r) (loops_of x)) (λ x f. loops_apart p all h r x lt f) (stmts_phrases (routine_at p r).body)
      (h.routines r lt).body.all;
  callees = each_keeps p h (λ r routine x. CalleeExists p x) (λ r x k. k.callee);
  results = each_keeps p h (λ r routine x. ResultAgrees p x) (λ r x k. k.result);
  links = each_keeps p h (CallLeads p) (λ r x k. k.links);
  arguments = each_keeps p h (λ r routine x. CallFits p x) (λ r x k. k.arguments);
  choices = each_keeps p h (λ r routine x. HasChoice x) (λ r x k. k.choices);
  returns = each_keeps p h (λ r routine x. ReturnAgrees routine x) (λ r x k. k.returns);
  returns_stay = each_keeps p h (λ r routine x. ReturnsStay x) (λ r x k. k.returns_stay);
  lines = lines;
  names = names;
  limits = limits;
  routine_limits = λ r lt. record { declared = (h.routines r lt).cells; slots = slots r lt };
}
