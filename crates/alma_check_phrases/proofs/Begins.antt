-- Parts that begin, and what is known of a result whatever it is.
use Rattle.std.proofs.Common.{◌≡◌, Option, Some, Result, Ok, Err, sym, subst, ap, ◌∙◌}
use Rattle.std.specs.Prelude.{OnOk}
use Rattle.alma_rules.specs.declared.error.Stop.{Stop}
use Rattle.alma_rules.specs.Numbered as tree
use Rattle.alma_rules.specs.View as view
use Rattle.alma_rules.specs.Judgement.{Judgement}
use Rattle.alma_rules.specs.Answers.{Stops}
use Rattle.alma_tree.specs.declared.phrase.Expr as de
use Rattle.alma_rules.specs.Onward.{onward}
use Rattle.alma_rules.proofs.Onwards.{onward_begin}
use Rattle.alma_rules.proofs.Rows as rows

-- no part yet
pub begun : {A B : Type 0} (join : A → B → B) (nil : A) (xs : Option A) (j : Judgement B) → ((b : B) → join nil b ≡ b) → xs ≡ Some nil
    → j ≡ onward join xs j
begun join nil xs j same h = rw h (sym (onward_begin join nil j same))

-- what is said of a list that begins
pub from_nothing : {A B C : Type 0} (join : A → B → C) (nil : A) (xs : Option A) (j : Judgement B) (k : Judgement C) → xs ≡ Some nil
    → onward join xs j ≡ k → onward join (Some nil) j ≡ k
from_nothing join nil xs j k h is = ap (λ (v : Option _). onward join v j) (sym h) ∙ is

-- another way to say what is judged, where it stops
pub stops_as : {A : Type 0} (j k : Judgement A) (e : Stop) → j ≡ k → Stops k.faults e → Stops j.faults e
stops_as {A} j k e is h = subst (λ (i : Judgement A). Stops i.faults e) (sym is) h

-- the number of an expression
pub node_is : (e : de.Expr) → tree.expr_node (view.view_expr e) ≡ (de.out-Expr e).node
node_is e = ap tree.expr_node (rows.expr_is e)

-- what holds anyway holds of a value
pub on_ok : {X E : Type 0} (P : Type 0) (r : Result X E) → P → OnOk r P
on_ok P (Ok x) h = h
on_ok P (Err e) h = tt
