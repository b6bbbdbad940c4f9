-- Headings: where no rule is broken in them, and where they stand too deep.
use Rattle.std.proofs.Common.{◌≡◌, ℕ, ◌+◌, ◌<◌, ◌≤◌, List, [], ◌∷◌, ◌++◌, Option, None, Some, true, false, length, get_or, drop, map, refl}
use Rattle.std.proofs.Common.{sym, ap, ◌∙◌, append_assoc, append-nil, Vec, Global, Result, Ok, Err, true≢false}
use Rattle.std.specs.Prelude.{option_map, is_some, IfOk, OnOk}
use Rattle.std.proofs.lemmas.List.{drop_all, map-append, get_or_default}
use Rattle.alma_base.specs.declared.fault.CheckFault.{CheckFault}
use Rattle.alma_rules.specs.Judgement.{BrokenRule, broken_at, if_unbroken}
use Rattle.alma_rules.specs.Answers.{first}
use Rattle.alma_rules.specs.Scene.{Scene, Heading, FormalOf, nothing, a_value}
use Rattle.alma_rules.specs.Decls as rules
use Rattle.alma_rules.proofs.Exprs.{next_of}
use Rattle.alma_check_rules.specs.declared.env.Formal.{Formal}
use Rattle.alma_check_rules.specs.Views.{formal_view}
use Rattle.alma_check_type.specs.declared.reading.BrokenRule.{BrokenRule as CodeBroken}
use Rattle.alma_check_type.specs.Told.{fault_of}
use Rattle.alma_check_block.specs.declared.frame.Frame.{Frame}
use Rattle.alma_check_block.specs.Shown.{ToldFrame, told_frame, frame_with_scene, formals_view, formals_in}
use Rattle.alma_check_block.proofs.Frames.{moved}

-- ---- all formals

-- formals behind those that are taken
abbrev pub behind : List FormalOf → Option (List FormalOf) → Option (List FormalOf)
behind xs v = option_map (λ ys. xs ++ ys) v

behind_more : (xs : List FormalOf) (x : FormalOf) (v : Option (List FormalOf))
    → behind xs (option_map (λ ys. x ∷ ys) v) ≡ behind (xs ++ x ∷ []) v
behind_more xs x None = refl
behind_more xs x (Some ys) = ap Some (sym (append_assoc xs (x ∷ []) ys))

pub formals_begin : (all : List (Option Formal)) → rules.all_formals (formals_view all) ≡ behind [] (rules.all_formals (formals_view all))
formals_begin all = go (rules.all_formals (formals_view all))
  where
    go : (v : Option (List FormalOf)) → v ≡ behind [] v
    go None = refl
    go (Some ys) = refl

pub formals_next : (xs ys : List Formal) (i : ℕ) (all : List (Option Formal)) (o : Option Formal) (x : Formal) → i < length all
    → o ≡ get_or all i o → o ≡ Some x → ys ≡ xs ++ x ∷ []
    → behind (map formal_view xs) (rules.all_formals (formals_view (drop i all))) ≡ behind (map formal_view ys)
    (rules.all_formals (formals_view (drop (i + 1) all)))
formals_next xs ys i all o x lt is e p =
    ap (λ zs. behind (map formal_view xs) (rules.all_formals (formals_view zs))) (next_of all i o lt is ∙ ap (λ z. z ∷ drop (i + 1) all) e)
    ∙ behind_more (map formal_view xs) (formal_view x) (rules.all_formals (formals_view (drop (i + 1) all)))
    ∙ ap (λ zs. behind zs (rules.all_formals (formals_view (drop (i + 1) all))))
    (sym (ap (λ zs. map formal_view zs) p ∙ map-append formal_view xs (x ∷ [])))

pub formals_bad : (xs : List FormalOf) (i : ℕ) (all : List (Option Formal)) (o : Option Formal) → i < length all → o ≡ get_or all i o
    → o ≡ None
    → behind xs (rules.all_formals (formals_view (drop i all))) ≡ None
formals_bad xs i all o lt is e = ap (λ zs. behind xs (rules.all_formals (formals_view zs)))
    (next_of all i o lt is ∙ ap (λ z. z ∷ drop (i + 1) all) e)

pub formals_end : (xs : List Formal) (i : ℕ) (all : List (Option Formal)) → length all ≤ i
    → behind (map formal_view xs) (rules.all_formals (formals_view (drop i all))) ≡ Some (map formal_view xs)
formals_end xs i all h =
    ap (λ zs. behind (map formal_view xs) (rules.all_formals (formals_view zs))) (drop_all i all h)
    ∙ ap Some (append-nil (map formal_view xs))

-- a formal of a list, which owns no memory
abbrev pub formal_at : List (Option Formal) → ℕ → Option Formal
formal_at all i = get_or all i None

pub formal_is : (all : List (Option Formal)) (i : ℕ) → i < length all → formal_at all i ≡ get_or all i (formal_at all i)
formal_is all i lt = get_or_default all i None (formal_at all i) lt

-- ---- the heading of a frame

pub broken_lost : {A : Type 0} (b : Option CodeBroken) (xs : List BrokenRule) (v : Option A) → fault_of b ≡ first xs → is_some b ≡ true
    → if_unbroken xs v ≡ None
broken_lost None xs v h e = absurd (true≢false (sym e))
broken_lost (Some b) [] v h e = absurd (cc)
broken_lost (Some b) (x ∷ xs) v h e = refl

pub unbroken_kept : {A : Type 0} (b : Option CodeBroken) (xs : List BrokenRule) (v : Option A) → fault_of b ≡ first xs → is_some b ≡ false
    → if_unbroken xs v ≡ v
unbroken_kept (Some b) xs v h e = absurd (true≢false e)
unbroken_kept None [] v h e = refl
unbroken_kept None (x ∷ xs) v h e = absurd (cc)

module _ (s : Scene) (x : Frame) (f : rules.Frame) (h : frame_with_scene s x ≡ told_frame f) where
  fault_is : fault_of x.fault ≡ first f.faults
  fault_is = ap (λ (u : ToldFrame). u.fault) h

  pub heading_broken : (returns : Option ℕ) → is_some x.fault ≡ true
      → None ≡ if_unbroken f.faults (option_map (rules.heading_with f returns) (rules.all_formals f.formals))
  heading_broken returns e = sym (broken_lost x.fault f.faults (option_map (rules.heading_with f returns) (rules.all_formals f.formals))
      fault_is e)

  pub heading_is : (returns : Option ℕ) (v : Option (Vec Formal Global)) → is_some x.fault ≡ false
      → formals_in v ≡ rules.all_formals (formals_view x.formals.items)
      → option_map (λ ys. let g : Heading = record { formals = ys; result = returns; params = x.params.items } in g) (formals_in v)
      ≡ if_unbroken f.faults (option_map (rules.heading_with f returns) (rules.all_formals f.formals))
  heading_is returns v e k =
      ap (λ p. option_map (λ ys. let g : Heading = record { formals = ys; result = returns; params = p } in g) (formals_in v))
      (ap (λ (u : ToldFrame). u.params) h)
      ∙ ap (λ o. option_map (rules.heading_with f returns) o) (k ∙ ap (λ xs. rules.all_formals xs) (ap (λ (u : ToldFrame). u.formals) h))
      ∙ sym (unbroken_kept x.fault f.faults (option_map (rules.heading_with f returns) (rules.all_formals f.formals)) fault_is e)

-- ---- the result type

pub function_frame : (s t : Scene) (x : Frame) (f : rules.Frame) (faults bs : List BrokenRule) (v : Option ℕ)
    → frame_with_scene s x ≡ told_frame (rules.with_faults (rules.with_faults f faults) bs)
    → t ≡ record s { returns = a_value v } → frame_with_scene t x ≡ told_frame
    (rules.with_returns (rules.with_faults f (faults ++ bs)) (a_value v))
function_frame s t x f faults bs v h d =
    ap (λ i. frame_with_scene i x) d
    ∙ ap (λ (u : ToldFrame). moved u (let i : Scene = record u.scene { returns = a_value v } in i)) h
    ∙ ap (λ xs. told_frame (rules.with_returns (let g : rules.Frame = record f { faults = xs } in g) (a_value v)))
    (append_assoc f.faults faults bs)

pub proper_frame : (s t : Scene) (x : Frame) (f : rules.Frame) → frame_with_scene s x ≡ told_frame f → t ≡ record s { returns = nothing }
    → frame_with_scene t x ≡ told_frame (rules.with_returns f nothing)
proper_frame s t x f h d = ap (λ i. frame_with_scene i x) d
    ∙ ap (λ (u : ToldFrame). moved u (let i : Scene = record u.scene { returns = nothing } in i)) h

pub faults_joined : (s : Scene) (x : Frame) (f : rules.Frame) (faults bs : List BrokenRule)
    → frame_with_scene s x ≡ told_frame (rules.with_faults (rules.with_faults f faults) bs)
    → frame_with_scene s x ≡ told_frame (rules.with_faults f (faults ++ bs))
faults_joined s x f faults bs h = h ∙ ap (λ xs. told_frame (let g : rules.Frame = record f { faults = xs } in g))
    (append_assoc f.faults faults bs)

pub result_at : (s t : Scene) (node : ℕ) (v w : Option ℕ) (b : Option BrokenRule) → s ≡ t → v ≡ w
    → b ≡ first (broken_at node (rules.result_rules s v)) → b ≡ first (broken_at node (rules.result_rules t w))
result_at s t node v w b e k h = h ∙ ap (λ i. first (broken_at node (rules.result_rules i v))) e
    ∙ ap (λ o. first (broken_at node (rules.result_rules t o))) k

pub ok_known : {E X P : Type 0} (r : Result X E) → P → OnOk r P
ok_known (Ok x) p = p
ok_known (Err x) p = tt

pub ok_to : {A E X : Type 0} (r : Result X E) (f : X → A) (a b : A) → a ≡ b → IfOk r (λ x. f x ≡ a) → IfOk r (λ x. f x ≡ b)
ok_to (Ok x) f a b e h = h ∙ e
ok_to (Err x) f a b e h = tt

-- ---- depth

depth_none : (faults : List CheckFault) (node : ℕ) (h : rules.FramedHeading) → None ≡ first (broken_at node faults)
    → rules.with_depth faults node h ≡ h
depth_none [] node h e = refl
depth_none (x ∷ xs) node h e = absurd (cc)

pub depth_kept : (faults : List CheckFault) (node : ℕ) (h : rules.FramedHeading) (b : Option CodeBroken) → b ≡ None
    → fault_of b ≡ first (broken_at node faults) → h ≡ rules.with_depth faults node h
depth_kept faults node h b e k = sym (depth_none faults node h (sym (ap (λ o. fault_of o) e) ∙ k))

pub depth_frame : (faults : List CheckFault) (node : ℕ) (h : rules.FramedHeading) (b : CodeBroken)
    → fault_of (Some b) ≡ first (broken_at node faults)
    → told_frame (rules.with_faults h.frame (broken_at node faults)) ≡ told_frame (rules.with_depth faults node h).frame
depth_frame [] node h b e = absurd (cc)
depth_frame (x ∷ xs) node h b e = refl

pub depth_heading : (faults : List CheckFault) (node : ℕ) (h : rules.FramedHeading) (b : CodeBroken)
    → fault_of (Some b) ≡ first (broken_at node faults) → None ≡ (rules.with_depth faults node h).heading
depth_heading [] node h b e = absurd (cc)
depth_heading (x ∷ xs) node h b e = refl

pub fault_in : (o : Option CodeBroken) (b : CodeBroken) (node : ℕ) (faults : List CheckFault) → o ≡ Some b
    → fault_of o ≡ first (broken_at node faults) → fault_of (Some b) ≡ first (broken_at node faults)
fault_in o b node faults is e = ap (λ x. fault_of x) (sym is) ∙ e
