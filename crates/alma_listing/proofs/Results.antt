-- A program with no alternative gives what it prints, and its end.
use Rattle.std.proofs.Common.{◌≡◌, refl, ap, ◌∙◌, arith}
use Rattle.std.specs.Prelude.{false}
use Rattle.alma_mean.specs.Events.{Events, NoYield, Visit, Print, Alt, Fail, Fault, Cut, CutOff, first, prints, end_of}
use Rattle.alma_mean.specs.Laws.{ends_in_cut}
use Rattle.alma_mean.specs.Meaning.{ev_program}
use Rattle.alma_listing.specs.Listing.{closes, alternatives, ListersGiveListings}

-- its events up to the first alternative are all its events, and it ends as they close
first_is : {A : Type 0} (e : Events A) → alternatives e ≡ 0 → first e ≡ e
first_is (Visit e) h = ap Visit (first_is e h)
first_is (Print b e) h = ap (Print b) (first_is e h)
first_is (Alt s w e) h = absurd (omega (arith, h))
first_is Fail h = refl
first_is (Fault x l) h = refl
first_is Cut h = refl

end_is : {A : Type 0} (e : Events A) → alternatives e ≡ 0 → end_of e ≡ closes e
end_is (Visit e) h = end_is e h
end_is (Print b e) h = end_is e h
end_is (Alt s w e) h = absurd (omega (arith, h))
end_is Fail h = refl
end_is (Fault x l) h = refl
end_is Cut h = refl

uncut : {A : Type 0} (e : Events A) → alternatives e ≡ 0 → (end_of e ≡ CutOff → ⊥) → ends_in_cut e ≡ false
uncut (Visit e) h n = uncut e h n
uncut (Print b e) h n = uncut e h n
uncut (Alt s w e) h n = absurd (omega (arith, h))
uncut Fail h n = refl
uncut (Fault x l) h n = refl
uncut Cut h n = absurd (n refl)

pub listers_give_listings : ListersGiveListings
listers_give_listings q p h n input whole =
    let e : Events NoYield = ev_program n q input in
    let none : alternatives e ≡ 0 = (h n input).none in
    let same : first e ≡ e = first_is e none in
    let ended : end_of e ≡ CutOff → ⊥ = λ c. whole (ap end_of same ∙ c) in
    ap (λ x. (prints x, end_of x)) same ∙ ap (λ z. (prints e, z)) (end_is e none) ∙ (h n input).whole (uncut e none ended)
