-- The line of counts by its parts, and an end that is told behind it.
use Rattle.std.proofs.Common.{◌≡◌, ℕ, List, [], ◌++◌, refl, ap, sym, ◌∙◌}
use Rattle.std.proofs.lemmas.List.{append-nil}
use Rattle.std.specs.Prelude.{codes}
use Rattle.alma_driver_words.specs.Exit as exit
use Rattle.alma_io.specs.Outside.{Gains, FailsWithin}
use Rattle.alma_io.specs.Sides.{SinkSide}
use Rattle.alma_io.proofs.Known.{appends_trans}
use Rattle.alma_io.proofs.PartLemmas.{fails_after, fails_more}
use Rattle.alma_plan.specs.Course.{Reports, said, unsaid}
use Rattle.alma_plan.specs.Plan.{ending_of}
use Rattle.alma_driver_outcome.specs.Ends.{counts_line}

-- bytes that are out, and then an end that is reported
pub reports_behind : (status : ℕ) (front text : List ℕ) (a b c : SinkSide) (answer : ℕ) → Gains a b front
    → Reports (ending_of status text) b c answer → Reports (ending_of status (front ++ text)) a c answer
reports_behind status front text a b c answer h (said s g) = said s (record {
  bytes_are = appends_trans a.written b.written c.written front text h.bytes_are g.bytes_are;
  quiet = g.quiet ∙ h.quiet;
})
reports_behind status front text a b c answer h (unsaid s f) =
    unsaid s (fails_after front text [] (front ++ text) a b c (ap (λ z. front ++ z) (sym (append-nil text))) h.bytes_are h.quiet f)

-- a failure within the bytes that come first
pub fails_behind : (status : ℕ) (front text : List ℕ) (a b : SinkSide) → FailsWithin a b front
    → Reports (ending_of status (front ++ text)) a b exit.write_fault
fails_behind status front text a b f = unsaid refl (fails_more a b front text f)

-- the parts of the line of counts
pub counts_parts : (first steps second choices third fails end : List ℕ) → first ≡ codes "steps " → second ≡ codes " choices "
    → third ≡ codes " fails " → end ≡ codes "\n"
    → first ++ (steps ++ (second ++ (choices ++ (third ++ (fails ++ (end ++ [])))))) ≡ counts_line steps choices fails
counts_parts first steps second choices third fails end f s t e =
    ap (λ x. x ++ (steps ++ (second ++ (choices ++ (third ++ (fails ++ (end ++ []))))))) f
    ∙ ap (λ x. codes "steps " ++ (steps ++ (x ++ (choices ++ (third ++ (fails ++ (end ++ []))))))) s
    ∙ ap (λ x. codes "steps " ++ (steps ++ (codes " choices " ++ (choices ++ (x ++ (fails ++ (end ++ []))))))) t
    ∙ ap (λ x. codes "steps " ++ (steps ++ (codes " choices " ++ (choices ++ (codes " fails " ++ (fails ++ (x ++ []))))))) e
