-- One part appended after another.
use Rattle.std.proofs.Common.{◌≡◌, List, [], ◌∷◌, ◌++◌, ap, ◌∙◌, append_assoc}

-- a byte and then a part
pub after_byte : {A : Type 0} (o n1 n2 a : List A) (x : A) → n1 ≡ o ++ (x ∷ []) → n2 ≡ n1 ++ a → n2 ≡ o ++ (x ∷ a)
after_byte {A = A} o n1 n2 a x p q = q ∙ ap (λ (t : List A). t ++ a) p ∙ append_assoc o (x ∷ []) a

-- a byte and then three parts
pub after_byte_three : {A : Type 0} (o n1 n2 n3 n4 a b c : List A) (x : A) → n1 ≡ o ++ (x ∷ []) → n2 ≡ n1 ++ a → n3 ≡ n2 ++ b → n4 ≡ n3 ++ c
    → n4 ≡ o ++ (x ∷ (a ++ (b ++ c)))
after_byte_three {A = A} o n1 n2 n3 n4 a b c x p q r s =
    s ∙ ap (λ (t : List A). t ++ c) (r ∙ ap (λ (t : List A). t ++ b) (after_byte o n1 n2 a x p q) ∙ append_assoc o (x ∷ a) b)
    ∙ append_assoc o (x ∷ (a ++ b)) c ∙ ap (λ (t : List A). o ++ (x ∷ t)) (append_assoc a b c)
