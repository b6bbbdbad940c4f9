-- Code, said in another way.
use Rattle.std.proofs.Common.{◌≡◌, ℕ, [], ◌∷◌, subst}
use Rattle.alma_code.specs.declared.instr.Instr.{Instr}
use Rattle.alma_lower_work.specs.Front.{Front, Codes}
use Rattle.alma_lower_templates.specs.LineInstr.{own}

-- an instruction, said in another way
pub codes_is : (a b : Front) (line : ℕ) (i j : Instr) → i ≡ j → Codes a b (own line (i ∷ [])) → Codes a b (own line (j ∷ []))
codes_is a b line i j e h = subst (λ z. Codes a b (own line (z ∷ []))) e h
