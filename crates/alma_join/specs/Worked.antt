-- Small modules that are joined.
use Rattle.std.specs.Prelude.{◌≡◌, ℕ, List, [], ◌∷◌, ◌++◌, codes, Some, None}
use Rattle.std.specs.Fmt.{decimal}
use Rattle.alma_ir.specs.declared.program.ArgKind.TheVariants as kind
use Rattle.alma_ir.specs.declared.phrase.Op.TheVariants as op
use Rattle.alma_ir.specs.Tree.{Program, Global, Routine, Assign, Load, ByPlace}
use Rattle.alma_mean.specs.Events.{Succeeded}
use Rattle.alma_mean.specs.Worked.Build.{module_with, procedure, param, number, var, let_be, write_var, call, operate, through_param, int}
use Rattle.alma_mean.specs.Worked.Build.{succeed, Gives}
use Rattle.alma_join.specs.Joined.{Missing, Twice, HeadDiffers, join_fault, joined_program}

-- a program with these variables
abbrev pub with_globals : List Global → Program → Program
with_globals gs p = record p { globals = gs }

-- a variable
abbrev pub global_at : List ℕ → (slot cells : ℕ) → Global
global_at name slot cells = record { name = name; slot = slot; cells = cells }

-- a routine of this name
abbrev pub with_name : List ℕ → Routine → Routine
with_name name r = record r { name = name }

-- MODULE A; VAR x: INTEGER; PROCEDURE inc(VAR a: INTEGER); END inc; BEGIN x := 1; inc(x); WRITE(x) END A.
abbrev pub uses_inc : Program
uses_inc =
    with_globals (global_at (codes "x") 1 1 ∷ [])
    (module_with 2 (let_be 1 (number 1) ∷ call 1 (ByPlace (var 1) ∷ []) ∷ write_var 1 ∷ [])
    (with_name (codes "inc") (procedure (param kind.Place 0 1 ∷ []) 1 []) ∷ []))

-- MODULE B; PROCEDURE inc(VAR a: INTEGER); BEGIN a := a + 1 END inc; END B.
abbrev pub has_inc : Program
has_inc =
    module_with 1 []
    (with_name (codes "inc") (procedure (param kind.Place 0 1 ∷ [])
    1 (Assign (through_param 0) (operate op.Add (Load (through_param 0)) (number 1)) int ∷ [])) ∷ [])

-- MODULE C; VAR y: INTEGER; PROCEDURE inc(a: INTEGER); BEGIN TRUE END inc; BEGIN y := 5; WRITE(y) END C.
abbrev pub other_inc : Program
other_inc =
    with_globals (global_at (codes "y") 1 1 ∷ [])
    (module_with 2 (let_be 1 (number 5) ∷ write_var 1 ∷ [])
    (with_name (codes "inc") (procedure (param kind.Value 0 1 ∷ []) 1 (succeed ∷ [])) ∷ []))

-- MODULE D; VAR z: INTEGER; BEGIN z := 7; WRITE(z) END D.
abbrev pub no_inc : Program
no_inc = with_globals (global_at (codes "z") 1 1 ∷ []) (module_with 2 (let_be 1 (number 7) ∷ write_var 1 ∷ []) [])

-- what the modules above give
pub record JoinsWork : Type 0 where
  pub two_modules : join_fault (uses_inc ∷ has_inc ∷ []) ≡ None
  pub two_run : Gives 3 (joined_program (uses_inc ∷ has_inc ∷ [])) [] (decimal 2 ++ []) Succeeded
  -- the match may stand in an earlier module
  pub other_way : join_fault (has_inc ∷ uses_inc ∷ []) ≡ None
  pub other_runs : Gives 3 (joined_program (has_inc ∷ uses_inc ∷ [])) [] (decimal 2 ++ []) Succeeded
  -- slots of the module's body move
  pub three_run : Gives 3 (joined_program (no_inc ∷ (uses_inc ∷ (has_inc ∷ [])))) [] (decimal 7 ++ (decimal 2 ++ [])) Succeeded
  pub three_globals : (joined_program (no_inc ∷ (uses_inc ∷ (has_inc ∷ [])))).globals ≡ global_at (codes "z") 1 1
      ∷ (global_at (codes "x") 2 1 ∷ [])
  pub missing : join_fault (uses_inc ∷ []) ≡ Some (Missing 1 1)
  pub missing_twice : join_fault (no_inc ∷ (uses_inc ∷ (uses_inc ∷ []))) ≡ Some (Missing 2 1)
  pub twice : join_fault (uses_inc ∷ (has_inc ∷ (has_inc ∷ []))) ≡ Some (Twice 1 1)
  pub head_differs : join_fault (uses_inc ∷ (other_inc ∷ [])) ≡ Some (HeadDiffers 1 1)
  pub alone : joined_program (has_inc ∷ []) ≡ has_inc
