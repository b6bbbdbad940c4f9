-- The body of a routine, judged in its scene alone.
use Rattle.std.proofs.Common.{◌≡◌, ℕ, Option, None, Some, Vec, Global, Result, refl, ap, subst}
use Rattle.alma_ir.specs.Tree as ir
use Rattle.alma_ir.specs.declared.phrase.Stmt.{Stmt}
use Rattle.alma_rules.specs.declared.error.Stop.{Stop}
use Rattle.alma_rules.specs.Numbered as tree
use Rattle.alma_rules.specs.Judgement.{Judgement}
use Rattle.alma_rules.specs.Answers.{Answers}
use Rattle.alma_rules.specs.Scene.{Scene}
use Rattle.alma_rules.specs.Walk.{judge_stmts}
use Rattle.alma_rules.specs.Decls.{new_frame}
use Rattle.alma_rules.specs.Modules.{judge_body}
use Rattle.alma_check_rules.specs.Views.{stmts_of}
use Rattle.alma_check_block.specs.declared.frame.Frame.{Frame}
use Rattle.alma_check_stmt.specs.Inner.Framed.{frame_in}

own_same : (s : Scene) (x : Frame) (n : ℕ) (b : Option tree.Stmts) → n ≡ x.slots
    → judge_body (new_frame s n) b ≡ judge_body (frame_in s x) b
own_same s x n None e = rw e refl
own_same s x n (Some b) e = ap (λ k. judge_stmts s k b) e

pub own_answers : (s : Scene) (x : Frame) (n m : ℕ) (b : Option tree.Stmts) (r : Result (Option (Vec Stmt Global)) Stop) → n ≡ x.slots
    → Answers (judge_body (new_frame s n) b) stmts_of m r → Answers (judge_body (frame_in s x) b) stmts_of m r
own_answers s x n m b r e h = subst (λ (j : Judgement ir.Stmts). Answers j stmts_of m r) (own_same s x n b e) h
