-- Answers whose error becomes another.
use Rattle.std.proofs.Common.{◌≡◌, ◌∙◌, ap, refl, sym}
use Rattle.std.specs.Prelude.{Result, Ok, Err, MatchResult, IsErrAnd}

module _ {T E D : Type 0} (old : Result T E) (new : Result T D) (becomes : E → D → Type 0) where
  -- the one follows from the other
  abbrev Follows : Result T E → Type 0
  Follows answer = MatchResult answer (λ x. new ≡ Ok x) (λ e. IsErrAnd new (becomes e))

  -- it is an error where that is, of which it came
  pub mapped_err : (d : D) → Follows old → new ≡ Err d → (e : E) × (old ≡ Err e) × becomes e d
  mapped_err d follows is = by old refl follows
    where
      by : (answer : Result T E) → old ≡ answer → Follows answer → (e : E) × (old ≡ Err e) × becomes e d
      by (Ok x) same h = cc (sym h ∙ is)
      by (Err e) same h = (e, same, rw is at h)

  -- and else it is the same
  pub mapped_ok : (x : T) → Follows old → new ≡ Ok x → old ≡ Ok x
  mapped_ok x follows is = by old refl follows
    where
      by : (answer : Result T E) → old ≡ answer → Follows answer → old ≡ Ok x
      by (Ok y) same h =
          let one : y ≡ x = cc (sym h ∙ is) in same ∙ ap Ok one
      by (Err e) same h = absurd (rw is at h)
