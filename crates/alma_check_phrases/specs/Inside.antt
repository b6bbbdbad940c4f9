-- What the check of expressions asks of the check of statements, which judges what stands in a parenthesis.
use Rattle.std.specs.Prelude.{ℕ, Option, Result, Vec}
use Rattle.std.specs.Global.{Global}
use denote.Ref.{Bor, MutBor}
use Rattle.alma_tree.specs.declared.phrase.Stmts.{Stmts}
use Rattle.alma_ir.specs.declared.phrase.Stmt.{Stmt}
use Rattle.alma_rules.specs.declared.error.Stop.{Stop}
use Rattle.alma_rules.specs.View.{view_stmts}
use Rattle.alma_rules.specs.Answers.{Answers}
use Rattle.alma_rules.specs.Walk.{judge_stmts}
use Rattle.alma_check_rules.specs.declared.env.Env.{Env}
use Rattle.alma_check_rules.specs.declared.env.Place.{Place}
use Rattle.alma_check_rules.specs.Views.{scene_of, stmts_of}

-- in an environment, at a place, from a slot on, statements are judged as in the rules' walk, which leaves this slot
abbrev pub JudgesAt : Env → Place → ℕ → Stmts → ℕ → Result (Option (Vec Stmt Global)) Stop → Type 0
JudgesAt env place slot body next r = Answers (judge_stmts (scene_of env place) slot (view_stmts body)) stmts_of next r

-- it may be called in any environment, at any place and slot, and each call judges statements there
pub record JudgesStmts (callable : Type 0)
    (post : Global → Bor Env → Place → MutBor ℕ → Bor Stmts → Result (Option (Vec Stmt Global)) Stop → MutBor ℕ → Type 0) : Type 0 where
  pub may_call : callable
  pub each_call : (alloc : Global) (env : Bor Env) (place : Place) (slot : MutBor ℕ) (body : Bor Stmts)
      (r : Result (Option (Vec Stmt Global)) Stop)
      (left : MutBor ℕ) → post alloc env place slot body r left → JudgesAt env.now place slot.now body.now left.now r
