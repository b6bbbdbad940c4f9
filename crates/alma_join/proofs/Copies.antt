-- Copies that are put behind others.
use Rattle.std.proofs.Common.{◌≡◌, ℕ, ◌+◌, ◌<◌, ◌≤◌, true, false, List, [], ◌∷◌, ◌++◌, length, get_or, take, map, refl, sym, ap, ◌∙◌}
use Rattle.std.proofs.lemmas.List.{append-nil, append_assoc, map-append, take_more}
use Rattle.alma_copy.specs.Moved.{Moves, moved_global, moved_routine}
use Rattle.alma_ir.specs.declared.phrase.Stmt.{Stmt}
use Rattle.alma_ir.specs.declared.program.Routine as memory
use Rattle.alma_ir.specs.declared.program.Global as variable
use Rattle.alma_ir.specs.Tree.{Routine, Program, routine_at}
use Rattle.alma_ir.specs.Tree as ir
use Rattle.alma_ir.specs.View.{routine_of, global_of, stmts_list, stmt_of}
use Rattle.alma_join.specs.Joined.{Kept, is_bare, kept_of}
use Rattle.alma_join.proofs.Keeping.{Passed, passed_none, passed_bare, passed_kept, passed_all}
use Rattle.alma_rules.specs.Parts.{append_stmts}

-- ---- statements

pub stmts_append : (xs ys : List Stmt) → stmts_list (xs ++ ys) ≡ append_stmts (stmts_list xs) (stmts_list ys)
stmts_append [] ys = refl
stmts_append (x ∷ xs) ys = ap (ir.more_stmts 0 (stmt_of x)) (stmts_append xs ys)

-- ---- variables

pub globals_more : (m : Moves) (old new longer : List variable.Global) (more : List variable.Global) (i : ℕ) (x copy : variable.Global)
    → i < length more → x ≡ get_or more i x
    → map global_of new ≡ map global_of old ++ map (moved_global m) (map global_of (take i more)) → longer ≡ new ++ copy ∷ []
    → global_of copy ≡ moved_global m (global_of x)
    → map global_of longer ≡ map global_of old ++ map (moved_global m) (map global_of (take (i + 1) more))
globals_more m old new longer more i x copy within is h put e =
    ap (map global_of) put ∙ map-append global_of new (copy ∷ []) ∙ (λ j. h j ++ e j ∷ [])
    ∙ append_assoc (map global_of old) (map (moved_global m) (map global_of (take i more))) (moved_global m (global_of x) ∷ [])
    ∙ ap (λ l. map global_of old ++ l)
    (sym (ap (λ l. map (moved_global m) (map global_of l)) (take_more more i x within ∙ ap (λ y. take i more ++ y ∷ []) (sym is))
    ∙ ap (map (moved_global m)) (map-append global_of (take i more) (x ∷ []))
    ∙ map-append (moved_global m) (map global_of (take i more)) (global_of x ∷ [])))

-- ---- procedures

-- those before this one were copied
pub record CopiedAs (m : Moves) (p : Program) (old new : List memory.Routine) (r unit : ℕ) : Type 0 where
  pub front : List Kept
  pub passed : Passed unit p r front
  pub copied : map routine_of new ≡ map routine_of old ++ map (λ k. moved_routine m k.routine) front

pub record ProceduresCopied (m : Moves) (p : Program) (old new : List memory.Routine) (r : ℕ) : Type 0 where
  pub as_unit : (unit : ℕ) → CopiedAs m p old new r unit

pub copied_none : (m : Moves) (p : Program) (old : List memory.Routine) → ProceduresCopied m p old old 1
copied_none m p old = record {
  as_unit = λ unit. record {
    front = [];
    passed = passed_none unit p;
    copied = sym
        (append-nil (map routine_of old));
  };
}

pub copied_bare : (m : Moves) (p : Program) (old new : List memory.Routine) (r : ℕ) → r < length p.routines
    → is_bare p r (routine_at p r) ≡ true → ProceduresCopied m p old new r → ProceduresCopied m p old new (r + 1)
copied_bare m p old new r within bare h = record {
  as_unit = λ unit. let k = h.as_unit unit in record
      { front = k.front; passed = passed_bare unit p r k.front within k.passed bare; copied = k.copied };
}

pub copied_kept : (m : Moves) (p : Program) (old new longer : List memory.Routine) (r : ℕ) (x : Routine) (copy : memory.Routine)
    → r < length p.routines → is_bare p r (routine_at p r) ≡ false → routine_at p r ≡ x
    → ProceduresCopied m p old new r → longer ≡ new ++ copy ∷ [] → routine_of copy ≡ moved_routine m x
    → ProceduresCopied m p old longer (r + 1)
copied_kept m p old new longer r x copy within bare is h put e = record { as_unit = λ unit. by unit (h.as_unit unit) }
  where
    by : (unit : ℕ) → CopiedAs m p old new r unit → CopiedAs m p old longer (r + 1) unit
    by unit k = record {
      front = k.front ++ record { unit = unit; number = r; routine = routine_at p r } ∷ [];
      passed = passed_kept unit p r k.front within k.passed bare;
      copied =
          ap (map routine_of) put ∙ map-append routine_of new (copy ∷ []) ∙ (λ j. k.copied j ++ (e ∙ ap (moved_routine m) (sym is)) j ∷ [])
          ∙ append_assoc (map routine_of old) (map (λ k. moved_routine m k.routine) k.front) (moved_routine m (routine_at p r) ∷ [])
          ∙ ap (λ l. map routine_of old ++ l) (sym (map-append (λ k. moved_routine m k.routine) k.front
          (record { unit = unit; number = r; routine = routine_at p r } ∷ [])));
    }

pub copied_all : (m : Moves) (p : Program) (old new : List memory.Routine) (r : ℕ) → length p.routines ≤ r
    → ProceduresCopied m p old new r → (unit : ℕ)
    → map routine_of new ≡ map routine_of old ++ map (λ k. moved_routine m k.routine) (kept_of unit p)
copied_all m p old new r past h unit = let k = h.as_unit unit in k.copied
    ∙ ap (λ l. map routine_of old ++ map (λ k. moved_routine m k.routine) l) (passed_all unit p r k.front past k.passed)
