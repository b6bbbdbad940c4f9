-- Roots, and the hidden slots of loops, in the joined program.
use Rattle.std.proofs.Common.{◌≡◌, inl, inr, ℕ, zero, suc, ◌<◌, List, [], length, refl, sym, ap, ◌∙◌, subst, arith}
use Rattle.std.specs.List.{AllByRecursion}
use Rattle.std.proofs.lemmas.Bool.{cases_eq}
use Rattle.alma_ir.specs.declared.phrase.Root.TheVariants as root
use Rattle.alma_ir.specs.Tree.{Loop, Program, Routine, routine_at, a_loop, a_desig}
use Rattle.alma_ir.specs.Phrases.{Phrase, StmtPhrase, TestPhrase, ExprPhrase, ArgPhrase, DesigPhrase, SelPhrase, stmts_phrases}
use Rattle.alma_ir.specs.Phrases.{loop_phrases}
use Rattle.alma_ir.specs.Checked.{EachPhrase, AreNumbers, IsOutside, HoldPlace, LeavesPosition, LeadOut, outer_at, RootExists, RootLeaves}
use Rattle.alma_ir.specs.Checked.{IsHiddenSlot, LoopLeaves, LoopIsApart, loops_of, IsGlobal, param_slots}
use Rattle.alma_ir.proofs.Each.{each_of_both, each_follows}
use Rattle.alma_copy.specs.Moved.{moved_stmts, moved_loop}
use Rattle.alma_copy.specs.Numbers.{slot_behind}
use Rattle.alma_join.specs.Joined.{joined_program, AreUnits}
use Rattle.alma_join.proofs.Moving.{moved_phrase, loop_moved}
use Rattle.alma_join.proofs.Forms.{each_of_map, loops_moved}
use Rattle.alma_join.proofs.KeptLists.{unit_at, before_at}
use Rattle.alma_join.proofs.Places.{number, own_slot, moves, Stands, routine_is, number_low, same_place, before_fits, body_apart}
use Rattle.alma_join.proofs.Places.{each_global, checked, body_stands, head, outer_moves, out_low, numbers_own, numbers_out}
use Rattle.alma_join.proofs.Places.{each_phrase}

-- ---- slots

pub slot_low : (before slot : ℕ) → 0 < slot → 0 < slot_behind before slot
slot_low before zero low = absurd (omega (arith, low))
slot_low before (suc slot) low = omega arith

slot_same : (before a b : ℕ) → slot_behind before a ≡ slot_behind before b → a ≡ b
slot_same before zero zero e = refl
slot_same before zero (suc b) e = absurd (omega (arith, e))
slot_same before (suc a) zero e = absurd (omega (arith, e))
slot_same before (suc a) (suc b) e = omega (arith, e)

own_same : (units : List Program) (i r a b : ℕ) → own_slot units i r a ≡ own_slot units i r b → a ≡ b
own_same units i zero a b e = slot_same (before_at units i) a b e
own_same units i (suc r) a b e = e

module _ (units : List Program) (are : AreUnits units) where
  abbrev u : ℕ → Program
  u i = unit_at units i

  abbrev q : Program
  q = joined_program units

  -- ---- roots

  position_moved : (i r slot : ℕ) → Stands units i r → LeavesPosition r slot → LeavesPosition (number units i r) (own_slot units i r slot)
  position_moved i zero slot s position = λ e. slot_low (before_at units i) slot (position refl)
  position_moved i (suc r) slot s position = λ e. absurd (omega (arith, e, number_low units i (suc r) s (omega arith)))

  outer_numbers : (i r links slot cells : ℕ) → Stands units i r → LeadOut (routine_at (u i) r) links
      → AreNumbers (routine_at (u i) (outer_at (u i) r links)) slot cells
      → LeadOut (routine_at q (number units i r)) links × AreNumbers (routine_at q (outer_at q (number units i r) links)) slot cells
  outer_numbers i r links slot cells s lead h =
      let o = outer_moves units are links i r s in (
        (lead.0, omega (arith, lead.1, (head units are i r s).level)),
        subst (λ n. AreNumbers (routine_at q n) slot cells) (sym o.0)
            (numbers_out units are i (outer_at (u i) r links) slot cells o.1 (out_low units are i r links s lead) h),
      )

  outer_place : (i r links slot cells : ℕ) → Stands units i r → LeadOut (routine_at (u i) r) links
      → HoldPlace (routine_at (u i) (outer_at (u i) r links)).params slot cells
      → LeadOut (routine_at q (number units i r)) links × HoldPlace (routine_at q (outer_at q (number units i r) links)).params slot cells
  outer_place i r links slot cells s lead h =
      let o = outer_moves units are links i r s in (
        (lead.0, omega (arith, lead.1, (head units are i r s).level)),
        subst (λ n. HoldPlace (routine_at q n).params slot cells) (sym o.0)
            (subst (λ ps. HoldPlace ps slot cells) (sym (head units are i (outer_at (u i) r links) o.1).params) h),
      )

  root_moved : (i r : ℕ) → Stands units i r → (x : Phrase) → RootExists (u i) r (routine_at (u i) r) x
      → RootExists q (number units i r) (routine_at q (number units i r)) (moved_phrase (moves units i r) x)
  unfolding moved_stmts
  root_moved i r s (StmtPhrase x) k = tt
  root_moved i r s (TestPhrase x) k = tt
  root_moved i r s (ExprPhrase x) k = tt
  root_moved i r s (ArgPhrase x) k = tt
  root_moved i r s (DesigPhrase (a_desig (root.Local slot) cells sels)) k =
      (numbers_own units are i r slot cells s k.1 k.0, position_moved i r slot s k.1)
  root_moved i r s (DesigPhrase (a_desig (root.Global slot) cells sels)) k = (
    omega (arith, k.0, (head units are i r s).level),
    numbers_own units are i 0 slot cells (body_stands units are i s.exists) (λ e. k.2) k.1,
    slot_low (before_at units i) slot k.2,
  )
  root_moved i r s (DesigPhrase (a_desig (root.Param slot) cells sels)) k =
      subst (λ ps. HoldPlace ps slot cells) (sym (head units are i r s).params) k
  root_moved i r s (DesigPhrase (a_desig (root.Outer links slot) cells sels)) k = outer_numbers i r links slot cells s k.0 k.1
  root_moved i r s (DesigPhrase (a_desig (root.OuterParam links slot) cells sels)) k = outer_place i r links slot cells s k.0 k.1
  root_moved i r s (SelPhrase x) k = tt

  pub roots_checked : EachPhrase q (RootExists q)
  roots_checked = each_phrase units are (λ i. RootExists (u i)) (RootExists q) root_moved (λ i lt. (checked units are i lt).roots)

  -- ---- hidden slots

  -- what is known of a phrase of the module at j, for a hidden slot of routine r of the module at i
  abbrev Leaves : (i r slot j s : ℕ) → Routine → Phrase → Type 0
  Leaves i r slot j s routine x = RootExists (u j) s routine x × (j ≡ i → RootLeaves (u i) s r slot x)

  all_leave : (i r slot : ℕ) → IsHiddenSlot (u i) r slot → (j : ℕ) → j < length units → EachPhrase (u j) (Leaves i r slot j)
  all_leave i r slot k j lt s few =
      let xs : List Phrase = stmts_phrases (routine_at (u j) s).body in
      let exist : AllByRecursion (RootExists (u j) s (routine_at (u j) s)) xs = (checked units are j lt).roots s few in
      each_of_both (RootExists (u j) s (routine_at (u j) s)) (λ x. j ≡ i → RootLeaves (u i) s r slot x) xs exist (elim (cases_eq j i) [
        | inl e ↦
            let here : EachPhrase (u j) (λ holder routine x. RootLeaves (u i) holder r slot x) = subst
            (λ n. EachPhrase (u n) (λ holder routine x. RootLeaves (u i) holder r slot x)) (sym e) k.roots in
            each_follows (λ x. RootLeaves (u i) s r slot x) (λ x. j ≡ i → RootLeaves (u i) s r slot x) (λ x h same. h) xs (here s few)
        | inr ne ↦ each_follows (RootExists (u j) s (routine_at (u j) s)) (λ x. j ≡ i → RootLeaves (u i) s r slot x)
            (λ x h same. absurd (ne same)) xs exist
      ])

  -- a slot of the module's body
  module _ (i slot : ℕ) (lt : i < length units) (k : IsHiddenSlot (u i) 0 slot) where
    local_apart : (j s from cells : ℕ) → Stands units j s → AreNumbers (routine_at (u j) s) from cells × LeavesPosition s from
        → (j ≡ i → s ≡ 0 → IsOutside from cells slot)
        → number units j s ≡ 0 → IsOutside (own_slot units j s from) cells (slot_behind (before_at units i) slot)
    local_apart j zero from cells s h leaves e = body_apart units i j from cells slot lt s.exists h.0.exist (h.1 refl) k.exists
        (k.position refl) (λ same. leaves same refl)
    local_apart j (suc r) from cells s h leaves e = absurd (omega (arith, e, number_low units j (suc r) s (omega arith)))

    body_leaves : (j s : ℕ) → Stands units j s → (x : Phrase) → Leaves i 0 slot j s (routine_at (u j) s) x
        → RootLeaves q (number units j s) 0 (slot_behind (before_at units i) slot) (moved_phrase (moves units j s) x)
    unfolding moved_stmts
    body_leaves j r s (StmtPhrase x) h = tt
    body_leaves j r s (TestPhrase x) h = tt
    body_leaves j r s (ExprPhrase x) h = tt
    body_leaves j r s (ArgPhrase x) h = tt
    body_leaves j r s (DesigPhrase (a_desig (root.Local from) cells sels)) h = λ e. local_apart j r from cells s h.0 h.1 e
    body_leaves j r s (DesigPhrase (a_desig (root.Global from) cells sels)) h = λ e.
        body_apart units i j from cells slot lt s.exists h.0.1.exist h.0.2 k.exists (k.position refl) (λ same. h.1 same refl)
    body_leaves j r s (DesigPhrase (a_desig (root.Param from) cells sels)) h = tt
    body_leaves j r s (DesigPhrase (a_desig (root.Outer links from) cells sels)) h = λ e.
        let o = outer_moves units are links j r s in
        absurd (omega (arith, e, o.0, number_low units j (outer_at (u j) r links) o.1 (out_low units are j r links s h.0.0)))
    body_leaves j r s (DesigPhrase (a_desig (root.OuterParam links from) cells sels)) h = tt
    body_leaves j r s (SelPhrase x) h = tt

    body_global : (j : ℕ) → j < length units
        → AllByRecursion (λ g. IsOutside (slot_behind (before_at units j) g.slot) g.cells (slot_behind (before_at units i) slot))
        (u j).globals
    body_global j few =
        each_follows (λ g. IsGlobal (u j) g × (j ≡ i → IsOutside g.slot g.cells slot))
        (λ g. IsOutside (slot_behind (before_at units j) g.slot) g.cells (slot_behind (before_at units i) slot))
        (λ g h. body_apart units i j g.slot g.cells slot lt few h.0.slots.exist h.0.position k.exists (k.position refl) h.1) (u j).globals
        (each_of_both (IsGlobal (u j)) (λ g. j ≡ i → IsOutside g.slot g.cells slot) (u j).globals (checked units are j few).globals
        (elim (cases_eq j i) [
          | inl e ↦ each_follows (λ g. IsOutside g.slot g.cells slot) (λ g. j ≡ i → IsOutside g.slot g.cells slot) (λ g h same. h)
              (u j).globals (subst (λ n. AllByRecursion (λ g. IsOutside g.slot g.cells slot) (u n).globals) (sym e) (k.globals refl))
          | inr ne ↦ each_follows (IsGlobal (u j)) (λ g. j ≡ i → IsOutside g.slot g.cells slot) (λ g h same. absurd (ne same)) (u j).globals
              (checked units are j few).globals
        ]))

    body_high : (n : ℕ) → n ≡ slot → slot_behind (before_at units i) n < (routine_at q 0).slots
    body_high zero e = absurd (omega (arith, e, k.position refl))
    body_high (suc n) e = omega (arith, e, k.exists, before_fits units i lt)

    body_hidden : IsHiddenSlot q 0 (slot_behind (before_at units i) slot)
    body_hidden =
        let none : (routine_at q 0).params ≡ [] = (head units are i 0 (body_stands units are i lt)).params
        ∙ (checked units are i lt).body_takes_nothing.0 in
        record {
          exists = body_high slot refl;
          position = λ e. slot_low (before_at units i) slot (k.position refl);
          params = subst (λ ps. AllByRecursion (λ z. IsOutside z.slot (param_slots z) (slot_behind (before_at units i) slot)) ps)
              (sym none) tt;
          globals = λ e. each_global units (λ g. IsOutside g.slot g.cells (slot_behind (before_at units i) slot)) body_global;
          roots = each_phrase units are (Leaves i 0 slot)
              (λ holder routine x. RootLeaves q holder 0 (slot_behind (before_at units i) slot) x) body_leaves (all_leave i 0 slot k);
        }

  -- a slot of a procedure
  module _ (i r slot : ℕ) (here : Stands units i r) (low : 0 < r) (k : IsHiddenSlot (u i) r slot) where
    own_apart : (j s from cells : ℕ) → Stands units j s → (j ≡ i → s ≡ r → IsOutside from cells slot) → number units j s ≡ number units i r
        → IsOutside (own_slot units j s from) cells slot
    own_apart j zero from cells s leaves e = absurd (omega (arith, e, number_low units i r here low))
    own_apart j (suc n) from cells s leaves e = let same = same_place units j (suc n) i r s (omega arith) here low e in leaves same.0 same.1

    out_apart : (j s links from cells : ℕ) → Stands units j s → LeadOut (routine_at (u j) s) links
        → (j ≡ i → outer_at (u i) s links ≡ r → IsOutside from cells slot)
        → outer_at q (number units j s) links ≡ number units i r → IsOutside from cells slot
    out_apart j s links from cells stands lead leaves e =
        let o = outer_moves units are links j s stands in
        let same = same_place units j (outer_at (u j) s links) i r o.1 (out_low units are j s links stands lead) here low (sym o.0 ∙ e) in
        leaves same.0 (ap (λ n. outer_at (u n) s links) (sym same.0) ∙ same.1)

    procedure_leaves : (j s : ℕ) → Stands units j s → (x : Phrase) → Leaves i r slot j s (routine_at (u j) s) x
        → RootLeaves q (number units j s) (number units i r) slot (moved_phrase (moves units j s) x)
    unfolding moved_stmts
    procedure_leaves j n s (StmtPhrase x) h = tt
    procedure_leaves j n s (TestPhrase x) h = tt
    procedure_leaves j n s (ExprPhrase x) h = tt
    procedure_leaves j n s (ArgPhrase x) h = tt
    procedure_leaves j n s (DesigPhrase (a_desig (root.Local from) cells sels)) h = λ e. own_apart j n from cells s h.1 e
    procedure_leaves j n s (DesigPhrase (a_desig (root.Global from) cells sels)) h = λ e.
        absurd (omega (arith, e, number_low units i r here low))
    procedure_leaves j n s (DesigPhrase (a_desig (root.Param from) cells sels)) h = tt
    procedure_leaves j n s (DesigPhrase (a_desig (root.Outer links from) cells sels)) h = λ e. out_apart j n links from cells s h.0.0 h.1 e
    procedure_leaves j n s (DesigPhrase (a_desig (root.OuterParam links from) cells sels)) h = tt
    procedure_leaves j n s (SelPhrase x) h = tt

    procedure_hidden : IsHiddenSlot q (number units i r) slot
    procedure_hidden = record {
      exists = subst (λ x. slot < x.slots) (sym (routine_is units i r here low)) k.exists;
      position = λ e. absurd (omega (arith, e, number_low units i r here low));
      params = subst (λ ps. AllByRecursion (λ z. IsOutside z.slot (param_slots z) slot) ps) (sym (head units are i r here).params) k.params;
      globals = λ e. absurd (omega (arith, e, number_low units i r here low));
      roots = each_phrase units are (Leaves i r slot) (λ holder routine x. RootLeaves q holder (number units i r) slot x) procedure_leaves
          (all_leave i r slot k);
    }

  hidden_moved : (i r slot : ℕ) → Stands units i r → IsHiddenSlot (u i) r slot → IsHiddenSlot q (number units i r) (own_slot units i r slot)
  hidden_moved i zero slot s k = body_hidden i slot s.exists k
  hidden_moved i (suc r) slot s k = procedure_hidden i (suc r) slot s (omega arith) k

  -- ---- loops

  module _ (i r counter limit : ℕ) where
    leaves_moved : (l : Loop) → LoopLeaves counter limit l
        → LoopLeaves (own_slot units i r counter) (own_slot units i r limit) (moved_loop (moves units i r) l)
    unfolding moved_stmts
    leaves_moved (a_loop d range counter2 limit2 from to by body) h = (
      λ e. h.0 (own_same units i r counter counter2 e),
      λ e. h.1 (own_same units i r counter limit2 e),
      λ e. h.2 (own_same units i r limit counter2 e),
      λ e. h.3 (own_same units i r limit limit2 e),
    )

    each_leaves : (x : Phrase) → AllByRecursion (LoopLeaves counter limit) (loops_of x)
        → AllByRecursion (LoopLeaves (own_slot units i r counter) (own_slot units i r limit)) (loops_of (moved_phrase (moves units i r) x))
    each_leaves x h =
        let Left : Loop → Type 0 = LoopLeaves (own_slot units i r counter) (own_slot units i r limit) in
        subst (AllByRecursion Left) (sym (loops_moved (moves units i r) x))
        (each_of_map Left (moved_loop (moves units i r)) (loops_of x)
        (each_follows (LoopLeaves counter limit) (λ l. Left (moved_loop (moves units i r) l)) leaves_moved (loops_of x) h))

    nested_moved : (l : Loop) → AllByRecursion (λ x. AllByRecursion (LoopLeaves counter limit) (loops_of x)) (loop_phrases l)
        → AllByRecursion (λ x. AllByRecursion (LoopLeaves (own_slot units i r counter) (own_slot units i r limit)) (loops_of x))
        (loop_phrases (moved_loop (moves units i r) l))
    nested_moved l h =
        let Left : Phrase → Type 0 = λ x. AllByRecursion (LoopLeaves (own_slot units i r counter) (own_slot units i r limit))
        (loops_of x) in
        subst (AllByRecursion Left) (sym (loop_moved (moves units i r) l))
        (each_of_map Left (moved_phrase (moves units i r)) (loop_phrases l)
        (each_follows (λ x. AllByRecursion (LoopLeaves counter limit) (loops_of x))
        (λ x. Left (moved_phrase (moves units i r) x)) each_leaves (loop_phrases l) h))

  apart_moved : (i r : ℕ) → Stands units i r → (l : Loop) → LoopIsApart (u i) r l
      → LoopIsApart q (number units i r) (moved_loop (moves units i r) l)
  unfolding moved_stmts
  apart_moved i r s (a_loop d range counter limit from to by body) k = record {
    of_counter = hidden_moved i r counter s k.of_counter;
    of_limit = hidden_moved i r limit s k.of_limit;
    two = λ e. k.two (own_same units i r counter limit e);
    nested = nested_moved i r counter limit (a_loop d range counter limit from to by body) k.nested;
  }

  loops_in : (i r : ℕ) → Stands units i r → (x : Phrase) → AllByRecursion (LoopIsApart (u i) r) (loops_of x)
      → AllByRecursion (LoopIsApart q (number units i r)) (loops_of (moved_phrase (moves units i r) x))
  loops_in i r s x h =
      subst (AllByRecursion (LoopIsApart q (number units i r))) (sym (loops_moved (moves units i r) x))
      (each_of_map (LoopIsApart q (number units i r)) (moved_loop (moves units i r)) (loops_of x)
      (each_follows (LoopIsApart (u i) r) (λ l. LoopIsApart q (number units i r) (moved_loop (moves units i r) l)) (apart_moved i r s)
      (loops_of x) h))

  pub loops_checked : EachPhrase q (λ r routine x. AllByRecursion (LoopIsApart q r) (loops_of x))
  loops_checked = each_phrase units are (λ i r routine x. AllByRecursion (LoopIsApart (u i) r) (loops_of x))
      (λ r routine x. AllByRecursion (LoopIsApart q r) (loops_of x)) loops_in (λ i lt. (checked units are i lt).loops)
