-- What is found of a whole module.
use Rattle.std.specs.Prelude.{◌≡◌, ℕ, List, [], Option}
use Rattle.alma_scan.specs.Tokens.{Lexeme}
use Rattle.alma_ir.specs.Tree as ir
use Rattle.alma_rules.specs.Numbered as tree
use Rattle.alma_rules.specs.Judgement.{BrokenRule, least}
use Rattle.alma_rules.specs.Modules.{judge_module, program_of, broken_rules}
use Rattle.alma_check_stmt.specs.Inner.Gathered.{unless_broken}

-- the least broken rule, the routines where no rule is broken, the name and the variables
pub record IsJudged (source : List ℕ) (tokens : List Lexeme) (m : tree.Module) (fault : Option BrokenRule)
    (routines : Option (List ir.Routine))
    (name : List ℕ) (globals : List ir.Global) : Type 0 where
  pub least_is : fault ≡ least (broken_rules source tokens m)
  pub routines_are : unless_broken fault routines ≡ unless_broken fault (judge_module source tokens m).value
  pub name_is : name ≡ (program_of source tokens m []).name
  pub globals_are : globals ≡ (program_of source tokens m []).globals
