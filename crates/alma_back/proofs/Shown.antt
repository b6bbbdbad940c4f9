-- What lines show, one after another.
use Rattle.std.proofs.Common.{◌≡◌, ◌<◌, ◌+◌, ◌-◌, ◌∙◌, ℕ, zero, suc, List, ◌∷◌, ◌++◌, length, get_or, drop, refl, sym, ap, subst}
use Rattle.std.proofs.Common.{arith, append_assoc}
use Rattle.std.proofs.lemmas.List.{drop_more}
use Rattle.std.specs.Prelude.{true, false, Err}
use Rattle.std.specs.Io.KnownBytes.{Appends}
use Rattle.alma_io.specs.Outside.{Gains}
use Rattle.alma_io.specs.Sides.{SinkSide}
use Rattle.alma_io.proofs.Known.{appends_trans}
use Rattle.alma_io.proofs.PartLemmas.{front_after, fails_after}
use Rattle.alma_plan.specs.declared.stop.Stop.{Stop}
use Rattle.alma_plan.specs.declared.stop.Stop.TheVariants.{Read, Write, Memory, TooLong}
use Rattle.alma_back.specs.declared.script.Line as read
use Rattle.alma_back.specs.Inner.{line_of, lines_of, Shows}
use Rattle.alma_back.specs.Session.{ahead, after_line, line_text, lines_text}
use Rattle.alma_back.specs.Standing.{Standing, runs}
use Rattle.alma_back.proofs.Walks.{step_of, no_step}

-- ---- steps on

-- one of the steps was made
pub ahead_step : (s t : Standing) (most made : ℕ) → made < most → runs s ≡ true → t ≡ record s { steps = s.steps + 1 }
    → ahead t (most - (made + 1)) ≡ ahead s (most - made)
ahead_step s t most made within on is =
    let e : suc (most - (made + 1)) ≡ most - made = omega (arith, within) in
    ap (λ (x : Standing). ahead x (most - (made + 1))) (is ∙ sym (step_of s on)) ∙ ap (ahead s) e

-- an ended run makes none
pub ahead_ended : (s : Standing) (more : ℕ) → runs s ≡ false → ahead s more ≡ s
ahead_ended s zero ended = refl
ahead_ended s (suc more) ended = ap (λ (x : Standing). ahead x more) (no_step s ended) ∙ ahead_ended s more ended

-- ---- lines

-- the sink gained a front of all bytes, behind which these stand, and did not fail
pub record HasShown (old new : SinkSide) (all rest : List ℕ) : Type 0 where
  pub done : List ℕ
  pub all_is : all ≡ done ++ rest
  pub out : Appends old.written new.written done
  pub quiet : new.faults ≡ old.faults

-- the next line
pub shown_next : (s : Standing) (lines : List read.Line) (i : ℕ) (line d : read.Line) → i < length lines → line ≡ get_or lines i d
    → lines_text s (lines_of (drop i lines)) ≡ line_text (after_line s (line_of line)) (line_of line)
    ++ lines_text (after_line s (line_of line))
    (lines_of (drop (i + 1) lines))
shown_next s lines i line d within is =
    ap (λ xs. lines_text s (lines_of xs)) (drop_more lines i d within ∙ ap (λ x. x ∷ drop (i + 1) lines) (sym is))

module _ (old mid new : SinkSide) (all rest text behind : List ℕ) (h : HasShown old mid all rest) (next : rest ≡ text ++ behind) where
  -- it is out
  pub shown_more : Gains mid new text → HasShown old new all behind
  shown_more g = record {
    done = h.done ++ text;
    all_is = h.all_is ∙ ap (λ z. h.done ++ z) next ∙ sym (append_assoc h.done text behind);
    out = appends_trans old.written mid.written new.written h.done text h.out g.bytes_are;
    quiet = g.quiet ∙ h.quiet;
  }

  -- it stopped within it
  stopped : (stop : Stop) → Shows mid new text (Err stop) → Shows old new all (Err stop)
  stopped Write x = fails_after _ _ _ _ _ _ _ (h.all_is ∙ ap (λ z. h.done ++ z) next) h.out h.quiet x
  stopped Memory x = (front_after _ _ _ _ _ _ _ (h.all_is ∙ ap (λ z. h.done ++ z) next) h.out x.0, x.1 ∙ h.quiet)
  stopped Read x = absurd x
  stopped TooLong x = absurd x

  pub shown_stop : (stop same : Stop) → same ≡ stop → Shows mid new text (Err stop) → Shows old new all (Err same)
  shown_stop stop same is x = subst (λ (s : Stop). Shows old new all (Err s)) (sym is) (stopped stop x)
