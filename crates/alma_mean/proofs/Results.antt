-- More levels only extend the result: `chained` goes on from list to list, `further` from a level to each higher one.
use Rattle.std.proofs.Common.{◌≡◌, ℕ, zero, suc, ◌+◌, List, [], ◌++◌, refl, ap, ◌∙◌, subst, append_assoc, arith}
use Rattle.std.specs.Prelude.{false}
use Rattle.std.proofs.lemmas.Bool.{true≢false}
use Rattle.alma_ir.specs.Tree.{Program}
use Rattle.alma_mean.specs.Events.{Events, NoYield, Visit, Print, Alt, first, prints, end_of, CutOff}
use Rattle.alma_mean.specs.Meaning.{ev_program}
use Rattle.alma_mean.specs.Laws.{Extends, on_visit, on_print, on_alt, at_fail, at_fault, at_cut, IsPrefix, ResultStays, PrintsGrow}
use Rattle.alma_mean.specs.Laws.{ends_in_cut, UncutListsStay}
use Rattle.alma_mean.proofs.Extending.{same}
use Rattle.alma_mean.proofs.Rising.{levels_rise}

pub chained : {A : Type 0} {e f g : Events A} → Extends A e f → Extends A f g → Extends A e g
chained (on_visit h) (on_visit k) = on_visit (chained h k)
chained (on_print h) (on_print k) = on_print (chained h k)
chained (on_alt h) (on_alt k) = on_alt (chained h k)
chained at_fail at_fail = at_fail
chained at_fault at_fault = at_fault
chained at_cut k = at_cut

-- a list that is extended after it has come to its first alternative or end has the same result
stays : {e f : Events NoYield} → Extends NoYield e f → (end_of (first e) ≡ CutOff → ⊥) → (prints (first f) ≡ prints (first e))
    × (end_of (first f) ≡ end_of (first e))
stays (on_visit h) n = stays h n
stays (on_print {b = b} h) n = let r = stays h n in (ap (λ x. b ++ x) r.0, r.1)
stays (on_alt h) n = (refl, refl)
stays at_fail n = (refl, refl)
stays at_fault n = (refl, refl)
stays at_cut n = absurd (n refl)

-- and in any case its prints are the front of those of the longer list
grows : {e f : Events NoYield} → Extends NoYield e f → IsPrefix (prints (first e)) (prints (first f))
grows (on_visit h) = grows h
grows (on_print {b = b} {e = e} h) = let r = grows h in (r.0, append_assoc b (prints (first e)) r.0 ∙ ap (λ x. b ++ x) r.1)
grows (on_alt h) = ([], refl)
grows at_fail = ([], refl)
grows at_fault = ([], refl)
grows (at_cut {f = f}) = (prints (first f), refl)

pub further : (p : Program) (input : List ℕ) (n k : ℕ) → Extends NoYield (ev_program n p input) (ev_program (k + n) p input)
further p input n zero =
    let e : n ≡ 0 + n = omega arith in
    subst (λ m. Extends NoYield (ev_program n p input) (ev_program m p input)) e (same _)
further p input n (suc k) =
    let e : suc (k + n) ≡ suc k + n = omega arith in
    subst (λ m. Extends NoYield (ev_program n p input) (ev_program m p input)) e
    (chained (further p input n k) ((levels_rise p input).program (k + n)))

-- a result that is not cut off is that of each higher level
pub result_stays : (p : Program) (input : List ℕ) → ResultStays p input
result_stays p input n k h = let r = stays (further p input n k) h in ap (λ x. (x, end_of (first (ev_program (k + n) p input)))) r.0
    ∙ ap (λ x. (prints (first (ev_program n p input)), x)) r.1

-- what is printed is the front of what is printed at each higher level
pub prints_grow : (p : Program) (input : List ℕ) → PrintsGrow p input
prints_grow p input n k = grows (further p input n k)

-- a list with no Cut is extended by itself alone
unchanged : {A : Type 0} {e f : Events A} → Extends A e f → ends_in_cut e ≡ false → f ≡ e
unchanged (on_visit h) n = ap Visit (unchanged h n)
unchanged (on_print {b = b} h) n = ap (Print b) (unchanged h n)
unchanged (on_alt {s = s} {w = w} h) n = ap (Alt s w) (unchanged h n)
unchanged at_fail n = refl
unchanged at_fault n = refl
unchanged at_cut n = absurd (true≢false n)

-- so it is for each sort of phrase
pub uncut_lists_stay : UncutListsStay
uncut_lists_stay = record {
  statements = λ e f h n. unchanged h n;
  expressions = λ e f h n. unchanged h n;
  designators = λ e f h n. unchanged h n;
  arguments = λ e f h n. unchanged h n;
}
