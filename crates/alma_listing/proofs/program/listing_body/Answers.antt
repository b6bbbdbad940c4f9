use Rattle.std.proofs.Common.{[], ◌∷◌, ◌++◌, refl, ap, ◌∙◌, append_assoc}
use Rattle.alma_ir.specs.Tree.{TestStmt, CallTest, Value}
use Rattle.alma_ir.specs.View.{routine_of, args_list}
use Rattle.alma_ir.proofs.Views
use Rattle.alma_listing.proofs.Built.{two_pushed, body_is, routine_stays}
use Rattle.alma_listing.proofs.program.listing_body.Goals as goal

pub returns : goal.returns
returns c =
    let line = c.args.body.now.line in
    let numbers = c.same_numbers in
    body_is (routine_of c.in_ok-copy.copy) (routine_of c.args.body.now) c.args.number _ _
    (c.in_ok-copy.ensures.copy ∙ routine_stays numbers.result numbers.ensures.own numbers.ensures.global numbers.ensures.routines
    (routine_of c.args.body.now))
    (two_pushed c.in_ok-copy.copy.body.items _ _ _ _ _ _ _ refl c.in_ok-push.ensures.items c.in_ok-push-2.ensures.items
    (Views.teststmt_view _
    ∙ ap TestStmt (Views.calltest_view _ ∙ ap (λ args. CallTest c.args.number args 0) (ap args_list c.new.ensures.items)))
    (Views.teststmt_view _ ∙ ap TestStmt (Views.value_view _ ∙ ap Value (Views.const_view _))))
    (c.in_ok-push-4.ensures.items ∙ ap (λ l. l ++ (line ∷ [])) c.in_ok-push-3.ensures.items ∙ append_assoc c.in_ok-copy.copy.lines.items
    (line ∷ []) (line ∷ []))
