-- Where the broken rules stand in order, the first of them is the least.
use Rattle.std.proofs.Common.{◌≡◌, ℕ, ◌<◌, ◌≤◌, ◌⊎◌, inl, inr, List, [], ◌∷◌, ◌++◌, Bool, Option, None, Some, refl, ap, sym, ◌∙◌, arith}
use Rattle.std.specs.Prelude.{true, false, ◌||◌, ◌&&◌, nat_lt, nat_eq, if◌then◌else◌}
use Rattle.std.proofs.lemmas.Bool.{le-ltb, lt-ltb, ltb-true, ltb-false}
use Rattle.std.proofs.lemmas.Bool.Decides.{eqb_tells}
use Rattle.alma_base.specs.declared.fault.CheckFault.{CheckFault}
use Rattle.alma_base.specs.declared.fault.CheckFault.TheVariants as fault
use Rattle.alma_rules.specs.Judgement.{BrokenRule, rank, is_before, lesser, better, least}
use Rattle.alma_rules.specs.Answers.{first}
use Rattle.alma_rules.proofs.Within.{key, Keys}

small : (f : CheckFault) → rank f < 32
small fault.Undeclared = omega arith
small fault.Redeclared = omega arith
small fault.NameMismatch = omega arith
small fault.NotType = omega arith
small fault.NotConst = omega arith
small fault.NotVariable = omega arith
small fault.NotProcedure = omega arith
small fault.NotTest = omega arith
small fault.TypeMismatch = omega arith
small fault.ArgCount = omega arith
small fault.NotDesignator = omega arith
small fault.ModeType = omega arith
small fault.IndexType = omega arith
small fault.NotArray = omega arith
small fault.NotRecord = omega arith
small fault.NoField = omega arith
small fault.ConstRange = omega arith
small fault.LabelTwice = omega arith
small fault.ReturnForm = omega arith
small fault.JumpOut = omega arith
small fault.NestedProcedure = omega arith
small fault.BadWrite = omega arith
small fault.BadRead = omega arith
small fault.TooLarge = omega arith

neither : (x y z : Bool) → x ≡ false → (y ≡ false ⊎ z ≡ false) → (x || (y && z)) ≡ false
neither true y z h g = h
neither false true z h (inl e) = absurd (cc)
neither false false z h (inl e) = refl
neither false true z h (inr e) = e
neither false false z h (inr e) = refl

-- one whose place is not later is not after the other
pub not_before : (a b : BrokenRule) → key a ≤ key b → is_before b a ≡ false
not_before a b h =
    let ra : rank a.fault < 32 = small a.fault in
    let rb : rank b.fault < 32 = small b.fault in
    let node : a.node ≤ b.node = omega (arith, h, ra, rb) in
    neither (nat_lt b.node a.node) (nat_eq b.node a.node) (nat_lt (rank b.fault) (rank a.fault)) (le-ltb b.node a.node node)
    (same (eqb_tells b.node a.node))
  where
    same : ((nat_eq b.node a.node ≡ true) × (b.node ≡ a.node)) ⊎ ((nat_eq b.node a.node ≡ false) × (b.node ≡ a.node → ⊥))
        → (nat_eq b.node a.node ≡ false) ⊎ (nat_lt (rank b.fault) (rank a.fault) ≡ false)
    same (inr p) = inl p.0
    same (inl p) = inr (le-ltb (rank b.fault) (rank a.fault) (omega (arith, h, p.1)))

chosen : (t : Bool) (a b : BrokenRule) → t ≡ false → (if t then b else a) ≡ a
chosen true a b h = absurd (cc)
chosen false a b h = refl

pub first_least : (lo hi : ℕ) (fs : List BrokenRule) → Keys lo hi fs → least fs ≡ first fs
unfolding Keys
first_least lo hi [] h = refl
first_least lo hi (b ∷ []) h = refl
first_least lo hi (b ∷ c ∷ cs) h =
    let ih : least (c ∷ cs) ≡ Some c = first_least (key b) hi (c ∷ cs) h.2 in
    ap Some (ap (lesser b) ih ∙ chosen (is_before c b) b c (not_before b c h.2.0))

-- ---- the least of two passes

sure_left : (x y : Bool) → x ≡ true → (x || y) ≡ true
sure_left true y h = refl
sure_left false y h = absurd (cc)

sure_right : (x y z : Bool) → y ≡ true → z ≡ true → (x || (y && z)) ≡ true
sure_right true y z p q = refl
sure_right false true z p q = q
sure_right false false z p q = absurd (cc)

is_earlier : (a b : BrokenRule) → key a < key b → is_before a b ≡ true
is_earlier a b h = go (nat_lt a.node b.node) refl (eqb_tells a.node b.node)
  where
    ra : rank a.fault < 32
    ra = small a.fault

    rb : rank b.fault < 32
    rb = small b.fault

    go : (t : Bool) → nat_lt a.node b.node ≡ t → ((nat_eq a.node b.node ≡ true) × (a.node ≡ b.node))
        ⊎ ((nat_eq a.node b.node ≡ false) × (a.node ≡ b.node → ⊥)) → is_before a b ≡ true
    go true e d = sure_left (nat_lt a.node b.node) _ e
    go false e (inl p) = sure_right (nat_lt a.node b.node) (nat_eq a.node b.node) (nat_lt (rank a.fault) (rank b.fault)) p.0
        (lt-ltb (rank a.fault) (rank b.fault) (omega (arith, h, p.1)))
    go false e (inr p) =
        let le : b.node ≤ a.node = ltb-false a.node b.node e in
        absurd (p.1 (let x : a.node ≡ b.node = omega (arith, h, ra, rb, le) in x))

key_before : (a b : BrokenRule) (t : Bool) → is_before a b ≡ t → nat_lt (key a) (key b) ≡ t
key_before a b t e = go (nat_lt (key a) (key b)) refl
  where
    go : (u : Bool) → nat_lt (key a) (key b) ≡ u → nat_lt (key a) (key b) ≡ t
    go true h = let x : is_before a b ≡ true = is_earlier a b (ltb-true (key a) (key b) h) in h ∙ sym x ∙ e
    go false h = let x : is_before a b ≡ false = not_before b a (ltb-false (key a) (key b) h) in h ∙ sym x ∙ e

takes_other : (a b : BrokenRule) → is_before b a ≡ true → lesser a (Some b) ≡ b
takes_other a b h = go (is_before b a) h
  where
    go : (t : Bool) → t ≡ true → (if t then b else a) ≡ b
    go true h = refl
    go false h = absurd (cc)

keeps : (a b : BrokenRule) → is_before b a ≡ false → lesser a (Some b) ≡ a
keeps a b h = chosen (is_before b a) a b h

lesser_joined : (x : BrokenRule) (u v : Option BrokenRule) → lesser x (better u v) ≡ lesser (lesser x u) v
lesser_joined x None v = refl
lesser_joined x (Some y) None = refl
lesser_joined x (Some y) (Some z) = go (is_before y x) (is_before z y) refl refl
  where
    go : (b c : Bool) → is_before y x ≡ b → is_before z y ≡ c → lesser x (Some (lesser y (Some z))) ≡ lesser (lesser x (Some y)) (Some z)
    go true true p q =
        let a : key y < key x = ltb-true (key y) (key x) (key_before y x true p) in
        let b : key z < key y = ltb-true (key z) (key y) (key_before z y true q) in
        ap (λ (w : BrokenRule). lesser x (Some w)) (takes_other y z q) ∙ takes_other x z (is_earlier z x (omega (arith, a, b)))
        ∙ sym (ap (λ (w : BrokenRule). lesser w (Some z)) (takes_other x y p) ∙ takes_other y z q)
    go true false p q =
        ap (λ (w : BrokenRule). lesser x (Some w)) (keeps y z q) ∙ takes_other x y p
        ∙ sym (ap (λ (w : BrokenRule). lesser w (Some z)) (takes_other x y p) ∙ keeps y z q)
    go false true p q =
        ap (λ (w : BrokenRule). lesser x (Some w)) (takes_other y z q) ∙ sym (ap (λ (w : BrokenRule). lesser w (Some z)) (keeps x y p))
    go false false p q =
        let a : key x ≤ key y = ltb-false (key y) (key x) (key_before y x false p) in
        let b : key y ≤ key z = ltb-false (key z) (key y) (key_before z y false q) in
        ap (λ (w : BrokenRule). lesser x (Some w)) (keeps y z q) ∙ keeps x y p
        ∙ sym (ap (λ (w : BrokenRule). lesser w (Some z)) (keeps x y p) ∙ keeps x z (not_before x z (omega (arith, a, b))))

-- the least of two lists is the lesser of their leasts
pub least_joined : (a b : List BrokenRule) → least (a ++ b) ≡ better (least a) (least b)
least_joined [] b = refl
least_joined (x ∷ xs) b = ap Some (ap (lesser x) (least_joined xs b) ∙ lesser_joined x (least xs) (least b))
