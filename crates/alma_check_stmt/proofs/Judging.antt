-- What a module that is judged shows of its program.
use Rattle.std.proofs.Common.{◌≡◌, List, [], Option, None, Some, Bool, true, false, refl, ap, subst, Result, Ok, Err, Vec, Global, map}
use Rattle.std.specs.Prelude.{ℕ, IfOk}
use Rattle.alma_scan.specs.Tokens.{Lexeme}
use Rattle.alma_ir.specs.Tree as ir
use Rattle.alma_ir.specs.declared.program.Program.{Program}
use Rattle.alma_ir.specs.View.{program_of, global_of}
use Rattle.alma_ir.specs.declared.program.Global.{Global as Variable}
use Rattle.alma_base.specs.declared.fault.NoMemory.{NoMemory}
use Rattle.alma_check_stmt.specs.declared.checked.Checked.{Checked}
use Rattle.alma_ir.specs.Checked.{IsChecked}
use Rattle.alma_rules.specs.declared.error.CheckError.{CheckError}
use Rattle.alma_rules.specs.Answers.{Resolves}
use Rattle.alma_rules.specs.Numbered as tree
use Rattle.alma_rules.specs.Modules.{broken_rules, resolution}
use Rattle.alma_check_type.specs.declared.reading.BrokenRule.{BrokenRule as CodeBroken}
use Rattle.alma_check_type.specs.Told.{fault_of}
use Rattle.alma_check_stmt.specs.Inner.Shown.{unless_bad, routines_in}
use Rattle.alma_check_stmt.specs.declared.module.Whole.{Whole}
use Rattle.alma_check_stmt.specs.Whole.{IsJudged}
use Rattle.alma_check_stmt.proofs.Wholes.{unbroken_is_fine}

-- what was found of a module stays what it is under its name
pub named_judged : (source : List ℕ) (tokens : List Lexeme) (m : tree.Module) (name : List ℕ) (globals : Vec Variable Global)
    (checked : Checked) (r : Result Whole NoMemory)
    → IfOk r (λ w. w.name.items ≡ name) → IfOk r (λ w. w.globals ≡ globals) → IfOk r (λ w. w.checked ≡ checked)
    → IsJudged source tokens m (fault_of checked.fault) (routines_in checked) name (map global_of globals.items)
    → IfOk r (λ w. IsJudged source tokens m (fault_of w.checked.fault) (routines_in w.checked) w.name.items (map global_of w.globals.items))
named_judged source tokens m name globals checked (Ok w) a b d h = rw (a, b, d) h
named_judged source tokens m name globals checked (Err e) a b d h = tt

pub resolved_checked : (source : List ℕ) (tokens : List Lexeme) (m : tree.Module) (r : Result Program CheckError)
    → Resolves source tokens m program_of r → ((p : ir.Program) → resolution source tokens m ≡ Some p → IsChecked p)
    → IfOk r (λ p. IsChecked (program_of p))
resolved_checked source tokens m (Ok p) h f = f (program_of p) h.1
resolved_checked source tokens m (Err e) h f = tt

pub fine_judged : (source : List ℕ) (tokens : List Lexeme) (m : tree.Module) (f : Option CodeBroken) (b : Bool) (rs : List ir.Routine)
    (name : List ℕ) (globals : List ir.Global) → f ≡ None → b ≡ false → IsJudged source tokens m (fault_of f) (unless_bad b rs) name globals
    → IsJudged source tokens m None (Some rs) name globals
fine_judged source tokens m f b rs name globals e1 e2 h =
    subst (λ y. IsJudged source tokens m None y name globals) (ap (λ x. unless_bad x rs) e2)
    (subst (λ x. IsJudged source tokens m (fault_of x) (unless_bad b rs) name globals) e1 h)

-- where no rule is broken no routine is Bad
bad_never : (source : List ℕ) (tokens : List Lexeme) (m : tree.Module) (b : Bool) (rs : List ir.Routine) (name : List ℕ)
    (globals : List ir.Global) → IsJudged source tokens m None (unless_bad b rs) name globals
    → (broken_rules source tokens m ≡ [] → (p : ir.Program) × (resolution source tokens m ≡ Some p)) → b ≡ false
bad_never source tokens m false rs name globals h law = refl
bad_never source tokens m true rs name globals h law = absurd (unbroken_is_fine source tokens m name globals h law)

pub never_bad : (source : List ℕ) (tokens : List Lexeme) (m : tree.Module) (f : Option CodeBroken) (b : Bool) (rs : List ir.Routine)
    (name : List ℕ) (globals : List ir.Global) → IsJudged source tokens m (fault_of f) (unless_bad b rs) name globals
    → (broken_rules source tokens m ≡ [] → (p : ir.Program) × (resolution source tokens m ≡ Some p)) → f ≡ None → b ≡ false
never_bad source tokens m f b rs name globals h law e =
    bad_never source tokens m b rs name globals
    (subst (λ (x : Option CodeBroken). IsJudged source tokens m (fault_of x) (unless_bad b rs) name globals) e h) law
