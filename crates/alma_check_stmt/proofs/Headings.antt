-- The headings that the declarations of a block read, and those that its end forgets.
use Rattle.std.proofs.Common.{◌≡◌, ◌≢◌, ℕ, zero, suc, ◌+◌, ◌-◌, ◌<◌, ◌≤◌, ◌⊎◌, inl, inr, Bool, true, false, List, [], ◌∷◌, ◌++◌, length}
use Rattle.std.proofs.Common.{get_or, set, Option, None, refl, sym, ap, subst, ◌∙◌, arith}
use Rattle.std.specs.Prelude.{nat_eq, nat_lt}
use Rattle.std.proofs.lemmas.Bool.{ltb-true, ltb-false}
use Rattle.std.proofs.lemmas.Bool.Decides.{eqb_tells}
use Rattle.std.proofs.lemmas.List.{get_or-set_same, get_or-set_other, length-set, ext_get_or, take_at, get_or_at, length_push, set_past}
use Rattle.std.proofs.lemmas.List.{get_or_past}
use Rattle.alma_names.specs.Scopes.{Blocks, without_top_block}
use Rattle.alma_names.specs.Shapes.{PlainShape}
use Rattle.alma_rules.specs.Numbered as tree
use Rattle.alma_rules.specs.Scene.{Scene, Heading}
use Rattle.alma_rules.specs.Decls.{Frame, decls_routines, decl_routines, read_heading, read_decl, read_decls}
use Rattle.alma_rules.specs.Modules.{frame_of, with_shapes}
use Rattle.alma_check_type.specs.Around.{clear, leave_block, outer_of}
use Rattle.alma_check_stmt.specs.Inner.Gathered.{AreEmpty, IsEmptyInside, AreEmptyInside}
use Rattle.alma_check_stmt.proofs.Stays.{consts_same, types_same, vars_same, head_same, ground, ground_steady, headings_steady}

-- ---- declarations

-- q is the number of a procedure of the declarations, which have the numbers from r on
abbrev IsProcHere : ℕ → tree.Decl → ℕ → Type 0
IsProcHere r (tree.const_decl n xs) q = ⊥
IsProcHere r (tree.type_decl n xs) q = ⊥
IsProcHere r (tree.var_decl n xs) q = ⊥
IsProcHere r (tree.procedure n name params result b end_name) q = q ≡ r

unfoldable IsProc : ℕ → tree.DeclTail → ℕ → Type 0
IsProc r tree.no_decl q = ⊥
IsProc r (tree.more_decl d rest) q = IsProcHere r d q ⊎ IsProc (r + decl_routines d) rest q

here_in : (r : ℕ) (d : tree.Decl) (q : ℕ) → IsProcHere r d q → (r ≤ q) × (q < r + decl_routines d)
unfolding decls_routines
here_in r (tree.const_decl n xs) q h = absurd h
here_in r (tree.type_decl n xs) q h = absurd h
here_in r (tree.var_decl n xs) q h = absurd h
here_in r (tree.procedure n name params result b end_name) q h = (omega (arith, h), omega (arith, h))

proc_in : (r : ℕ) (x : tree.DeclTail) (q : ℕ) → IsProc r x q → (r ≤ q) × (q < r + decls_routines x)
unfolding decls_routines IsProc
proc_in r tree.no_decl q h = absurd h
proc_in r (tree.more_decl d rest) q (inl h) = let e = here_in r d q h in (e.0, omega (arith, e.1))
proc_in r (tree.more_decl d rest) q (inr h) = let e = proc_in (r + decl_routines d) rest q h in (omega (arith, e.0), omega (arith, e.1))

decl_heads : (f : Frame) (r : ℕ) (d : tree.Decl) (i : ℕ) → (IsProcHere r d i → ⊥)
    → get_or (read_decl f r d).scene.headings i None ≡ get_or f.scene.headings i None
decl_heads f r (tree.const_decl n xs) i away = ap (λ hs. get_or hs i None) (consts_same (λ (s : Scene). s.headings) headings_steady f xs)
decl_heads f r (tree.type_decl n xs) i away = ap (λ hs. get_or hs i None) (types_same (λ (s : Scene). s.headings) headings_steady f xs)
decl_heads f r (tree.var_decl n xs) i away = ap (λ hs. get_or hs i None) (vars_same (λ (s : Scene). s.headings) headings_steady f xs)
decl_heads f r (tree.procedure n name params result b end_name) i away =
    get_or-set_other f.scene.headings r i (read_heading f.scene r n params result b).heading None away

decl_long : (f : Frame) (r : ℕ) (d : tree.Decl) → length (read_decl f r d).scene.headings ≡ length f.scene.headings
decl_long f r (tree.const_decl n xs) = ap length (consts_same (λ (s : Scene). s.headings) headings_steady f xs)
decl_long f r (tree.type_decl n xs) = ap length (types_same (λ (s : Scene). s.headings) headings_steady f xs)
decl_long f r (tree.var_decl n xs) = ap length (vars_same (λ (s : Scene). s.headings) headings_steady f xs)
decl_long f r (tree.procedure n name params result b end_name) =
    length-set f.scene.headings r (read_heading f.scene r n params result b).heading

decl_ground : (f : Frame) (r : ℕ) (d : tree.Decl) → ground (read_decl f r d).scene ≡ ground f.scene
decl_ground f r (tree.const_decl n xs) = consts_same ground ground_steady f xs
decl_ground f r (tree.type_decl n xs) = types_same ground ground_steady f xs
decl_ground f r (tree.var_decl n xs) = vars_same ground ground_steady f xs
decl_ground f r (tree.procedure n name params result b end_name) = refl

decls_heads : (f : Frame) (r : ℕ) (x : tree.DeclTail) (i : ℕ) → (IsProc r x i → ⊥)
    → get_or (read_decls f r x).scene.headings i None ≡ get_or f.scene.headings i None
unfolding IsProc
decls_heads f r tree.no_decl i away = refl
decls_heads f r (tree.more_decl d rest) i away = decls_heads (read_decl f r d) (r + decl_routines d) rest i (λ h. away (inr h))
    ∙ decl_heads f r d i (λ h. away (inl h))

decls_long : (f : Frame) (r : ℕ) (x : tree.DeclTail) → length (read_decls f r x).scene.headings ≡ length f.scene.headings
decls_long f r tree.no_decl = refl
decls_long f r (tree.more_decl d rest) = decls_long (read_decl f r d) (r + decl_routines d) rest ∙ decl_long f r d

pub decls_ground : (f : Frame) (r : ℕ) (x : tree.DeclTail) → ground (read_decls f r x).scene ≡ ground f.scene
decls_ground f r tree.no_decl = refl
decls_ground f r (tree.more_decl d rest) = decls_ground (read_decl f r d) (r + decl_routines d) rest ∙ decl_ground f r d

-- ---- no routine inside a procedure has a heading

inside_by : (hs : List (Option Heading)) (r : ℕ) (d : tree.Decl) → ((i : ℕ) → r < i → i < r + decl_routines d → get_or hs i None ≡ None)
    → IsEmptyInside hs r d
unfolding decls_routines
inside_by hs r (tree.const_decl n xs) h = tt
inside_by hs r (tree.type_decl n xs) h = tt
inside_by hs r (tree.var_decl n xs) h = tt
inside_by hs r (tree.procedure n name params result b end_name) h = λ i le lt. h i (omega (arith, le)) (omega (arith, lt))

here_first : (r : ℕ) (d : tree.Decl) (q : ℕ) → IsProcHere r d q → q ≡ r
here_first r (tree.const_decl n xs) q h = absurd h
here_first r (tree.type_decl n xs) q h = absurd h
here_first r (tree.var_decl n xs) q h = absurd h
here_first r (tree.procedure n name params result b end_name) q h = h

all_inside : (hs : List (Option Heading)) (r : ℕ) (x : tree.DeclTail)
    → ((i : ℕ) → r ≤ i → i < r + decls_routines x → (IsProc r x i → ⊥) → get_or hs i None ≡ None) → AreEmptyInside hs r x
unfolding decls_routines IsProc AreEmptyInside
all_inside hs r tree.no_decl h = tt
all_inside hs r (tree.more_decl d rest) h = (
  inside_by hs r d (λ i lt le. h i (omega (arith, lt)) (omega (arith, le)) (λ p. first i lt le p)),
  all_inside hs (r + decl_routines d) rest (λ i le lt away. h i (omega (arith, le)) (omega (arith, lt)) (λ p. later i le away p)),
)
  where
    first : (i : ℕ) → r < i → i < r + decl_routines d → IsProcHere r d i ⊎ IsProc (r + decl_routines d) rest i → ⊥
    first i lt le (inl p) = let e = here_first r d i p in omega (arith, e, lt)
    first i lt le (inr p) = let e = proc_in (r + decl_routines d) rest i p in omega (arith, e.0, le)

    later : (i : ℕ) → r + decl_routines d ≤ i → (IsProc (r + decl_routines d) rest i → ⊥) → IsProcHere r d i
        ⊎ IsProc (r + decl_routines d) rest i → ⊥
    later i le away (inl p) = let e = here_in r d i p in omega (arith, e.1, le)
    later i le away (inr p) = away p

-- the declarations of a block read no heading of a routine inside a procedure
pub read_inside : (f : Frame) (r : ℕ) (x : tree.DeclTail) → AreEmpty f.scene.headings r (decls_routines x)
    → AreEmptyInside (read_decls f r x).scene.headings r x
read_inside f r x h = all_inside (read_decls f r x).scene.headings r x (λ i le lt away. decls_heads f r x i away ∙ h i le lt)

-- ---- headings that are forgotten

set_none : (hs : List (Option Heading)) (i : ℕ) → get_or (set hs i None) i None ≡ None
set_none hs i = by (nat_lt i (length hs)) refl
  where
    by : (b : Bool) → nat_lt i (length hs) ≡ b → get_or (set hs i None) i None ≡ None
    by true h = get_or-set_same hs i None None (ltb-true i (length hs) h)
    by false h =
        let le : length hs ≤ i = ltb-false i (length hs) h in
        ap (λ ys. get_or ys i None) (set_past hs i None le) ∙ get_or_past hs i None le

cleared_long : (a n : ℕ) (hs : List (Option Heading)) → length (clear a n hs) ≡ length hs
cleared_long a zero hs = refl
cleared_long a (suc n) hs = length-set (clear a n hs) (a + n) None ∙ cleared_long a n hs

cleared_inside : (a n i : ℕ) (hs : List (Option Heading)) → a ≤ i → i < a + n → get_or (clear a n hs) i None ≡ None
cleared_inside a zero i hs le lt = absurd (let bad : ⊥ = omega (arith, le, lt) in bad)
cleared_inside a (suc n) i hs le lt = by (eqb_tells i (a + n)) (cleared_inside a n i hs le)
  where
    by : ((nat_eq i (a + n) ≡ true) × (i ≡ a + n)) ⊎ ((nat_eq i (a + n) ≡ false) × (i ≢ a + n))
        → (i < a + n → get_or (clear a n hs) i None ≡ None) → get_or (set (clear a n hs) (a + n) None) i None ≡ None
    by (inl e) h = subst (λ j. get_or (set (clear a n hs) (a + n) None) j None ≡ None) (sym e.1) (set_none (clear a n hs) (a + n))
    by (inr e) h = get_or-set_other (clear a n hs) (a + n) i None None e.1 ∙ h (omega (arith, lt, e.1))

cleared_outside : (a n i : ℕ) (hs : List (Option Heading)) → (i < a) ⊎ (a + n ≤ i) → get_or (clear a n hs) i None ≡ get_or hs i None
cleared_outside a zero i hs h = refl
cleared_outside a (suc n) i hs h = get_or-set_other (clear a n hs) (a + n) i None None (apart h) ∙ cleared_outside a n i hs (less h)
  where
    apart : (i < a) ⊎ (a + suc n ≤ i) → i ≡ a + n → ⊥
    apart (inl l) e = omega (arith, l, e)
    apart (inr l) e = omega (arith, l, e)

    less : (i < a) ⊎ (a + suc n ≤ i) → (i < a) ⊎ (a + n ≤ i)
    less (inl l) = inl l
    less (inr l) = inr (omega (arith, l))

-- as they were before the declarations
pub decls_cleared : (f : Frame) (r : ℕ) (x : tree.DeclTail) → AreEmpty f.scene.headings r (decls_routines x)
    → clear r (decls_routines x) (read_decls f r x).scene.headings ≡ f.scene.headings
decls_cleared f r x h =
    ext_get_or None (clear r n (read_decls f r x).scene.headings) f.scene.headings
    (cleared_long r n (read_decls f r x).scene.headings ∙ decls_long f r x) (λ i lt. by i (nat_lt i r) refl (nat_lt i (r + n)) refl)
  where
    n : ℕ
    n = decls_routines x

    outside : (i : ℕ) → (i < r) ⊎ (r + decls_routines x ≤ i)
        → get_or (clear r (decls_routines x) (read_decls f r x).scene.headings) i None ≡ get_or f.scene.headings i None
    outside i p = cleared_outside r (decls_routines x) i (read_decls f r x).scene.headings p
        ∙ decls_heads f r x i (λ q. far p (proc_in r x i q))
      where
        far : (i < r) ⊎ (r + decls_routines x ≤ i) → (r ≤ i) × (i < r + decls_routines x) → ⊥
        far (inl l) e = omega (arith, l, e.0)
        far (inr l) e = omega (arith, l, e.1)

    by : (i : ℕ) (b : Bool) → nat_lt i r ≡ b → (c : Bool) → nat_lt i (r + decls_routines x) ≡ c
        → get_or (clear r (decls_routines x) (read_decls f r x).scene.headings) i None ≡ get_or f.scene.headings i None
    by i true p c q = outside i (inl (ltb-true i r p))
    by i false p false q = outside i (inr (ltb-false i (r + decls_routines x) q))
    by i false p true q =
        let le : r ≤ i = ltb-false i r p in
        let lt : i < r + decls_routines x = ltb-true i (r + decls_routines x) q in
        cleared_inside r (decls_routines x) i (read_decls f r x).scene.headings le lt ∙ sym (h i le lt)

-- ---- the scene behind a procedure

closed_blocks : (b t : Blocks) → t.below ≡ b.below ++ b.top ∷ [] → without_top_block t ≡ b
closed_blocks b t e =
    let k : length (b.below ++ b.top ∷ []) - 1 ≡ length b.below = omega (arith, length_push b.below b.top) in
    rw (e, k, take_at b.below (b.top ∷ []) (length b.below) refl, get_or_at b.below b.top [] [] (length b.below) refl) refl

closed_by : (s t : Scene) (shapes : List PlainShape) (hs : List (Option Heading))
    → ground t ≡ record (ground s) { below = s.blocks.below ++ s.blocks.top ∷ [] } → hs ≡ s.headings
    → record (leave_block (with_shapes t shapes) (outer_of s)) { headings = hs } ≡ with_shapes s shapes
closed_by s t shapes hs g h =
    rw (
      h,
      closed_blocks s.blocks t.blocks (ap (λ x. x.below) g),
      ap (λ x. x.source) g,
      ap (λ x. x.tokens) g,
      ap (λ x. x.constant) g,
      ap (λ x. x.inside) g,
    ) refl

-- the frame of a procedure behind its declarations
abbrev pub inner_frame : Scene → (r n : ℕ) → Option tree.Params → Option tree.Name → (m : ℕ) → tree.DeclTail → Option tree.Stmts → Frame
inner_frame s r n params result m decls body =
    read_decls (frame_of (read_heading s r n params result (tree.block m decls body))) (r + 1) decls

pub heading_ground : (s : Scene) (r n : ℕ) (params : Option tree.Params) (result : Option tree.Name) (b : tree.Block)
    → ground (read_heading s r n params result b).frame.scene ≡ record (ground s) { below = s.blocks.below ++ s.blocks.top ∷ [] }
heading_ground s r n params result b = head_same ground ground_steady s r n params result b

pub heading_empty : (s : Scene) (r n : ℕ) (params : Option tree.Params) (result : Option tree.Name) (b : tree.Block) (a k : ℕ)
    → AreEmpty s.headings a k → AreEmpty (read_heading s r n params result b).frame.scene.headings a k
heading_empty s r n params result b a k h =
    subst (λ hs. AreEmpty hs a k) (sym (head_same (λ (x : Scene). x.headings) headings_steady s r n params result b)) h

pub inner_ground : (s : Scene) (r n : ℕ) (params : Option tree.Params) (result : Option tree.Name) (m : ℕ) (decls : tree.DeclTail)
    (body : Option tree.Stmts)
    → ground (inner_frame s r n params result m decls body).scene ≡ record (ground s) { below = s.blocks.below ++ s.blocks.top ∷ [] }
inner_ground s r n params result m decls body =
    decls_ground (frame_of (read_heading s r n params result (tree.block m decls body))) (r + 1) decls
    ∙ heading_ground s r n params result (tree.block m decls body)

pub scene_closed : (s : Scene) (r n : ℕ) (params : Option tree.Params) (result : Option tree.Name) (m : ℕ) (decls : tree.DeclTail)
    (body : Option tree.Stmts) (shapes : List PlainShape)
    → AreEmpty s.headings (r + 1) (decls_routines decls)
    → record (leave_block (with_shapes (inner_frame s r n params result m decls body).scene shapes) (outer_of s))
    { headings = clear (r + 1) (decls_routines decls) (inner_frame s r n params result m decls body).scene.headings } ≡ with_shapes s
    shapes
scene_closed s r n params result m decls body shapes e =
    let h = frame_of (read_heading s r n params result (tree.block m decls body)) in
    closed_by s (inner_frame s r n params result m decls body).scene shapes
    (clear (r + 1) (decls_routines decls) (inner_frame s r n params result m decls body).scene.headings)
    (inner_ground s r n params result m decls body)
    (decls_cleared (frame_of (read_heading s r n params result (tree.block m decls body))) (r + 1) decls
    (heading_empty s r n params result (tree.block m decls body) (r + 1) (decls_routines decls) e)
    ∙ head_same (λ (x : Scene). x.headings) headings_steady s r n params result (tree.block m decls body))
