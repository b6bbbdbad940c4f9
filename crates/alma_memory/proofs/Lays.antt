-- Lemmas on a carry that is laid over the frames.
use Rattle.std.proofs.Common.{◌≡◌, List, [], ◌∷◌, sym, ap, ◌∙◌}
use Rattle.alma_base.specs.Carry.{Carry}
use Rattle.alma_code.specs.declared.cell.Cell.{Cell}
use Rattle.alma_code.specs.Picture.{PlainFrame}
use Rattle.alma_code.specs.Carries.{frames_with_change, frames_with_carry}
use Rattle.alma_memory_store.specs.declared.carry.SlotPlace.{SlotPlace}
use Rattle.alma_memory_store.specs.Carries.{change_of, carry_of_entries}

-- one more cell is laid over them
pub lays-more : (carry : Carry Cell) (rest rest' : List (SlotPlace × Cell)) (p : SlotPlace) (v : Cell) (f0 f1 f2 : List PlainFrame)
    → frames_with_carry f1 (carry_of_entries rest) ≡ frames_with_carry f0 carry →
    rest ≡ (p, v) ∷ rest' → f2 ≡ frames_with_change f1 (change_of p v)
    → frames_with_carry f2 (carry_of_entries rest') ≡ frames_with_carry f0 carry
lays-more carry rest rest' p v f0 f1 f2 l e q =
    let one : frames_with_carry f1 (carry_of_entries rest) ≡ frames_with_carry (frames_with_change f1 (change_of p v))
    (carry_of_entries rest') = ap (λ xs. frames_with_carry f1 (carry_of_entries xs)) e in
    ap (λ gs. frames_with_carry gs (carry_of_entries rest')) q ∙ (sym one ∙ l)

-- at last none is left
pub lays-none : (carry : Carry Cell) (rest : List (SlotPlace × Cell)) (f f' : List PlainFrame)
    → frames_with_carry f' (carry_of_entries rest) ≡ frames_with_carry f carry → rest ≡ [] → f' ≡ frames_with_carry f carry
lays-none carry rest f f' l e = sym (ap (λ xs. frames_with_carry f' (carry_of_entries xs)) e) ∙ l
