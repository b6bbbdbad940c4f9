-- Lists of parameters that are compared one by one.
use Rattle.std.proofs.Common.{◌≡◌, ℕ, suc, ◌+◌, ◌<◌, ◌≤◌, Bool, true, false, List, [], ◌∷◌, length, get_or, drop, refl, sym, ap, ◌∙◌}
use Rattle.std.specs.Prelude.{◌&&◌}
use Rattle.std.proofs.Common.{true≢false}
use Rattle.std.specs.Prelude.{pos}
use Rattle.alma_ir.specs.declared.program.ArgKind.TheVariants as kind
use Rattle.alma_ir.specs.declared.program.Param.{Param}
use Rattle.alma_join.specs.Joined.{same_params}
use Rattle.alma_join.proofs.Rows.{rest_from, rest_none, any_default}

-- of two lengths
pub lengths_differ : (a b : List Param) → (length a ≡ length b → ⊥) → false ≡ same_params a b
lengths_differ [] [] h = absurd (h refl)
lengths_differ [] (y ∷ b) h = refl
lengths_differ (x ∷ a) [] h = refl
lengths_differ (x ∷ a) (y ∷ b) h = and_false _ _ (lengths_differ a b (λ e. h (ap suc e)))
  where
    and_false : (s t : Bool) → false ≡ t → false ≡ (s && t)
    and_false true t e = e
    and_false false t e = refl

module _ (a b : List Param) (i : ℕ) (x y : Param) (within : i < length a) (within' : i < length b) (is : x ≡ get_or a i x)
    (is' : y ≡ get_or b i y) (h : same_params a b ≡ same_params (drop i a) (drop i b)) where
  next : same_params a b ≡ same_params (x ∷ drop (i + 1) a) (y ∷ drop (i + 1) b)
  next = h ∙ λ j. same_params (rest_from a i x within is j) (rest_from b i y within' is' j)

  pub params_apart : false ≡ same_params (x ∷ []) (y ∷ []) → false ≡ same_params a b
  params_apart e = by _ _ e ∙ sym next
    where
      by : (s t : Bool) → false ≡ (s && true) → false ≡ (s && t)
      by true t e = absurd (true≢false (sym e))
      by false t e = refl

  pub params_alike : true ≡ same_params (x ∷ []) (y ∷ []) → same_params a b ≡ same_params (drop (i + 1) a) (drop (i + 1) b)
  params_alike e = next ∙ by _ _ e
    where
      by : (s t : Bool) → true ≡ (s && true) → (s && t) ≡ t
      by true t e = refl
      by false t e = absurd (true≢false e)

pub params_all : (a b : List Param) (i : ℕ) → length a ≤ i → length b ≤ i → same_params a b ≡ same_params (drop i a) (drop i b)
    → true ≡ same_params a b
params_all a b i past past' h = sym (h ∙ λ j. same_params (rest_none a i past j) (rest_none b i past' j))

-- an element that owns no memory is read with this default
abbrev pub no_param : Param
no_param = record { kind = kind.Value; slot = 0; cells = 0; range = record { low = pos 0; high = pos 0 } }

pub param_is : (ps : List Param) (i : ℕ) → i < length ps → get_or ps i no_param ≡ get_or ps i (get_or ps i no_param)
param_is ps i lt = any_default ps i no_param (get_or ps i no_param) lt
