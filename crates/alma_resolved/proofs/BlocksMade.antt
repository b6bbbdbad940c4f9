-- What the blocks of a tree make: as many routines as they have procedures, each inside the one round it, with the parameters of its
-- heading.
use Rattle.std.proofs.Common.{◌≡◌, ◌⊎◌, inl, inr, ℕ, ◌+◌, ◌-◌, ◌<◌, ◌≤◌, List, [], ◌∷◌, ◌++◌, length, get_or, Option, None, Some, refl, sym}
use Rattle.std.proofs.Common.{ap, ◌∙◌, subst, arith, append_assoc, length-append}
use Rattle.std.specs.Prelude.{IsSome, IsNone}
use Rattle.alma_names.specs.Shapes.{PlainShape}
use Rattle.alma_ir.specs.Tree.{Program, Routine, no_routine, routine_at}
use Rattle.alma_rules.specs.Numbered as tree
use Rattle.alma_rules.specs.Scene.{Scene, Heading, nothing, a_value}
use Rattle.alma_rules.specs.Types.{read_type_name}
use Rattle.alma_rules.specs.Decls.{Frame, block_routines, decls_routines, decl_routines, decls_names, formal_names, formals_of}
use Rattle.alma_rules.specs.Decls.{read_formals, read_heading, read_decls}
use Rattle.alma_rules.specs.Modules.{result_in, judge_body, routine_of, frame_of, with_shapes, judge_block, judge_bodies, judge_decl}
use Rattle.alma_rules.specs.Modules.{cons_routine, joined_routines, body_lines}
use Rattle.alma_rules.proofs.Sound.{IsThere, nil_left, nil_right}
use Rattle.alma_resolved.specs.Stand.{DeclsStand, DeclStands, BlockStands}
use Rattle.alma_resolved.proofs.Lookups.{Each, NotBad, Headed, each_follows_from}
use Rattle.alma_resolved.proofs.HeadsSound.{HeadThere, first_frame, head_headings}
use Rattle.alma_resolved.proofs.DeclsSound.{Moved, block_headings, from_zero, IsProcHere, IsProc, IsProcIn, ProcThere, ProcsThere}
use Rattle.alma_resolved.proofs.DeclsSound.{decls_read}
use Rattle.alma_resolved.proofs.ModuleSound.{Awaits, AwaitsIn, awaits_not_bad, all_headed, procs_shapes, opened}
use Rattle.alma_resolved.proofs.FramesKept.{parts}
use Rattle.alma_resolved.proofs.Slots.{decls_steps}
use Rattle.alma_resolved.proofs.Entries.{Longer, longer_same, longer_twice}
use Rattle.alma_resolved.proofs.HeadScenes.{head_shapes, returns_of, head_returns}
use Rattle.alma_resolved.proofs.DeclsKeep.{longer_moved, ResultGiven, ProcGiven, ProcsGiven}

-- ---- routines by their numbers

-- the routines have the numbers from this one on in the program
abbrev pub Numbered : Program → ℕ → List Routine → Type 0
Numbered p n [] = Unit {0}
Numbered p n (x ∷ xs) = (routine_at p n ≡ x) × (n < length p.routines) × Numbered p (n + 1) xs

pub numbered_front : (p : Program) (n : ℕ) (xs ys : List Routine) → Numbered p n (xs ++ ys) → Numbered p n xs
numbered_front p n [] ys h = tt
numbered_front p n (x ∷ xs) ys h = (h.0, h.1, numbered_front p (n + 1) xs ys h.2)

pub numbered_back : (p : Program) (n m : ℕ) (xs ys : List Routine) → n + length xs ≡ m → Numbered p n (xs ++ ys) → Numbered p m ys
numbered_back p n m [] ys e h = let same : n ≡ m = omega (arith, e) in subst (λ k. Numbered p k ys) same h
numbered_back p n m (x ∷ xs) ys e h = numbered_back p (n + 1) m xs ys (omega (arith, e)) h.2

get_last : (xs : List Routine) (x : Routine) (ys : List Routine) → get_or (xs ++ x ∷ ys) (length xs) no_routine ≡ x
get_last [] x ys = refl
get_last (y ∷ xs) x ys = get_last xs x ys

pub numbered_all : (p : Program) (n : ℕ) (front xs : List Routine) → p.routines ≡ front ++ xs → length front ≡ n → Numbered p n xs
numbered_all p n front [] e l = tt
numbered_all p n front (x ∷ xs) e l = (
  ap (λ ys. get_or ys n no_routine) e ∙ (ap (λ k. get_or (front ++ x ∷ xs) k no_routine) (sym l) ∙ get_last front x xs),
  omega (arith, l, ap (λ ys. length ys) e, length-append front (x ∷ xs)),
  numbered_all p (n + 1) (front ++ x ∷ []) xs (e ∙ sym (append_assoc front (x ∷ []) xs)) (omega (arith, l, length-append front (x ∷ []))),
)

pub first_numbered : (p : Program) (k r : ℕ) (x : Routine) (xs rs : List Routine) → k + 1 ≡ r → x ∷ xs ≡ rs → Numbered p k rs
    → (routine_at p k ≡ x) × (k < length p.routines) × Numbered p r xs
first_numbered p k r x xs [] e i h = absurd (cc)
first_numbered p k r x xs (y ∷ ys) e i h =
    let one : y ≡ x = cc in
    let more : ys ≡ xs = cc in
    (h.0 ∙ one, h.1, subst (λ zs. Numbered p r zs) more (subst (λ n. Numbered p n ys) e h.2))

-- ---- how many

none_made : (rs : List Routine) → [] ≡ rs → length rs ≡ 0
none_made [] e = refl
none_made (x ∷ xs) e = absurd (cc)

mutual
  unfolding judge_block block_routines

  pub block_count : (f : Frame) (r : ℕ) (name : tree.Name) (outer end : ℕ) (x : tree.Block) (rs : List Routine)
      → (judge_block f r name outer end x).value ≡ Some rs → length rs ≡ 1 + block_routines x
  block_count f r name outer end (tree.block n decls body) rs value =
      let v = parts (judge_bodies (read_decls f r decls).scene r decls).value (judge_body (read_decls f r decls) body).value
      (cons_routine (read_decls f r decls) name outer (judge_body (read_decls f r decls) body).next
      (body_lines (read_decls f r decls).scene end body)) rs value in
      omega (arith, ap (λ (ys : List Routine). length ys) v.is, bodies_count (read_decls f r decls).scene r decls v.first v.has_first)

  bodies_count : (s : Scene) (r : ℕ) (x : tree.DeclTail) (rs : List Routine) → (judge_bodies s r x).value ≡ Some rs
      → length rs ≡ decls_routines x
  bodies_count s r tree.no_decl rs value = none_made rs (cc)
  bodies_count s r (tree.more_decl d rest) rs value =
      let v = parts (judge_decl s r d).value (judge_bodies (with_shapes s (judge_decl s r d).shapes) (r + decl_routines d) rest).value
      joined_routines rs value in
      omega (
        arith,
        ap (λ (ys : List Routine). length ys) v.is,
        length-append v.first v.second,
        decl_count s r d v.first v.has_first,
        bodies_count (with_shapes s (judge_decl s r d).shapes) (r + decl_routines d) rest v.second v.has_second,
      )

  pub decl_count : (s : Scene) (r : ℕ) (d : tree.Decl) (rs : List Routine) → (judge_decl s r d).value ≡ Some rs
      → length rs ≡ decl_routines d
  decl_count s r (tree.const_decl n xs) rs value = none_made rs (cc)
  decl_count s r (tree.type_decl n xs) rs value = none_made rs (cc)
  decl_count s r (tree.var_decl n xs) rs value = none_made rs (cc)
  decl_count s r (tree.procedure n name params result b end_name) rs value =
      block_count (frame_of (read_heading s r n params result b)) (r + 1) name s.routine (end_name.token - 1) b rs value

-- ---- the shapes that they add

on_scene : (f : Frame) (g : Scene) (u : List PlainShape) → Longer f.scene g → Longer g (with_shapes g u)
    → Longer f.scene (with_shapes f.scene u)
on_scene f g u a b = let w = longer_twice a b in record { tail = w.tail; is = w.is }

mutual
  unfolding judge_block DeclsStand block_routines ProcsThere

  pub block_long : (f : Frame) (r : ℕ) (name : tree.Name) (outer end : ℕ) (x : tree.Block) (hs : List (Option Heading))
      → f.scene.headings ≡ hs → (judge_block f r name outer end x).faults ≡ []
      → AwaitsIn hs r x f.scene → BlockStands x → r + block_routines x ≤ length hs
      → Longer f.scene (with_shapes f.scene (judge_block f r name outer end x).shapes)
  block_long f r name outer end (tree.block n decls body) hs same e h stand room =
      let front = nil_left _ (judge_body (read_decls f r decls) body).faults e in
      let d = decls_read f r decls (nil_left _ (judge_bodies (read_decls f r decls).scene r decls).faults front)
      (each_follows_from (Awaits hs r decls) NotBad (awaits_not_bad hs r decls) 0 f.scene.blocks.below f.scene.blocks.top h) stand
      (omega (arith, room, ap (λ y. length y) same)) in
      let headed = all_headed f r decls hs same h d in
      on_scene f (read_decls f r decls).scene (judge_bodies (read_decls f r decls).scene r decls).shapes
      (longer_moved (d.moved 0 (from_zero (decls_names decls))))
      (bodies_long (read_decls f r decls).scene r decls (nil_right (read_decls f r decls).faults _ front) headed d.heads stand
      (omega (arith, room, d.long, ap (λ y. length y) same)))

  pub bodies_long : (s : Scene) (r : ℕ) (x : tree.DeclTail) → (judge_bodies s r x).faults ≡ [] → Each (Headed s.headings) s
      → ProcsThere s r x → DeclsStand x → r + decls_routines x ≤ length s.headings
      → Longer s (with_shapes s (judge_bodies s r x).shapes)
  bodies_long s r tree.no_decl e h p stand room = longer_same s s refl
  bodies_long s r (tree.more_decl d rest) e h p stand room =
      let one = decl_long s r d (decls_names rest) (nil_left (judge_decl s r d).faults _ e) h p.0 stand.0 (omega (arith, room)) in
      let more = bodies_long (with_shapes s (judge_decl s r d).shapes) (r + decl_routines d) rest (nil_right (judge_decl s r d).faults _ e)
      h (procs_shapes s (judge_decl s r d).shapes (r + decl_routines d) rest stand.1 p.1) stand.1 (omega (arith, room)) in
      longer_twice one more

  pub decl_long : (s : Scene) (r : ℕ) (d : tree.Decl) (names : List tree.Name) → (judge_decl s r d).faults ≡ [] → Each (Headed s.headings) s
      → ProcThere s r d → DeclStands d names → r + decl_routines d ≤ length s.headings
      → Longer s (with_shapes s (judge_decl s r d).shapes)
  decl_long s r (tree.const_decl n xs) names e h p stand room = longer_same s s refl
  decl_long s r (tree.type_decl n xs) names e h p stand room = longer_same s s refl
  decl_long s r (tree.var_decl n xs) names e h p stand room = longer_same s s refl
  decl_long s r (tree.procedure n name params result b end_name) names e h p stand room =
      let w = block_long (frame_of (read_heading s r n params result b)) (r + 1) name s.routine (end_name.token - 1) b s.headings
      (head_headings s r n params result b p ∙ block_headings s r nothing (formal_names (formals_of params)) b)
      (nil_left _ _ e) (opened s r n params result b h p) stand.1 (omega (arith, room)) in
      record { tail = w.tail; is = w.is ∙ ap (λ x. x ++ w.tail) (head_shapes s r n params result b) }

-- ---- the routine of a block

pub record BlockOwn (p : Program) (k : ℕ) (f : Frame) (outer : ℕ) : Type 0 where
  pub exists : k < length p.routines
  pub params : (routine_at p k).params ≡ f.params
  pub outer_is : (routine_at p k).outer ≡ outer
  pub scene : Scene
  pub result : (routine_at p k).result ≡ result_in scene f.scene.returns

-- a routine inside another
pub record ProcAt (p : Program) (k q : ℕ) : Type 0 where
  pub some : 0 < q
  pub exists : q < length p.routines
  pub outer : (routine_at p q).outer ≡ k

pub moved_routine : {lo : ℕ} {s t : Scene} → Moved lo s t → t.routine ≡ s.routine
moved_routine m = ap (λ (x : Scene). x.routine) m.is

pub moved_returns : {lo : ℕ} {s t : Scene} → Moved lo s t → t.returns ≡ s.returns
moved_returns m = ap (λ (x : Scene). x.returns) m.is

pub moved_inside : {lo : ℕ} {s t : Scene} → Moved lo s t → t.inside ≡ s.inside
moved_inside m = ap (λ (x : Scene). x.inside) m.is

pub block_own : (p : Program) (f : Frame) (r k : ℕ) (name : tree.Name) (outer end : ℕ) (x : tree.Block) (hs : List (Option Heading))
    (rs : List Routine) → f.scene.headings ≡ hs → (judge_block f r name outer end x).faults ≡ []
    → AwaitsIn hs r x f.scene → BlockStands x → r + block_routines x ≤ length hs → k + 1 ≡ r
    → (judge_block f r name outer end x).value ≡ Some rs → Numbered p k rs → BlockOwn p k f outer
unfolding judge_block DeclsStand block_routines
block_own p f r k name outer end (tree.block n decls body) hs rs same e h stand room next value numbered =
    let front = nil_left _ (judge_body (read_decls f r decls) body).faults e in
    let d = decls_read f r decls (nil_left _ (judge_bodies (read_decls f r decls).scene r decls).faults front)
    (each_follows_from (Awaits hs r decls) NotBad (awaits_not_bad hs r decls) 0 f.scene.blocks.below f.scene.blocks.top h) stand
    (omega (arith, room, ap (λ y. length y) same)) in
    let moved = d.moved 0 (from_zero (decls_names decls)) in
    let v = parts (judge_bodies (read_decls f r decls).scene r decls).value (judge_body (read_decls f r decls) body).value
    (cons_routine (read_decls f r decls) name outer (judge_body (read_decls f r decls) body).next
    (body_lines (read_decls f r decls).scene end body)) rs value in
    let num = first_numbered p k r (routine_of (read_decls f r decls) name outer (judge_body (read_decls f r decls) body).next
    (body_lines (read_decls f r decls).scene end body) v.second) v.first rs next v.is numbered in
    record {
      exists = num.1;
      params = ap (λ (y : Routine). y.params) num.0 ∙ (decls_steps f r decls).params;
      outer_is = ap (λ (y : Routine). y.outer) num.0;
      scene = (read_decls f r decls).scene;
      result = ap (λ (y : Routine). y.result) num.0 ∙ ap (λ y. result_in (read_decls f r decls).scene y) (moved_returns moved);
    }

-- the procedures of a block stand inside its routine
proc_or : (p : Program) (s : Scene) (r : ℕ) (d : tree.Decl) (rest : tree.DeclTail) (q : ℕ) → IsProcHere r d q
    ⊎ IsProc (r + decl_routines d) rest q → (IsProcHere r d q → ProcAt p s.routine q)
    → (IsProc (r + decl_routines d) rest q → ProcAt p s.routine q)
    → ProcAt p s.routine q
proc_or p s r d rest q (inl j) f g = f j
proc_or p s r d rest q (inr j) f g = g j

proc_at : (p : Program) (s : Scene) (r : ℕ) (d : tree.Decl) (names : List tree.Name) (rs : List Routine) → (judge_decl s r d).faults ≡ []
    → Each (Headed s.headings) s → ProcThere s r d → DeclStands d names → r + decl_routines d ≤ length s.headings
    → 0 < r → (judge_decl s r d).value ≡ Some rs → Numbered p r rs → (q : ℕ) → IsProcHere r d q → ProcAt p s.routine q
unfolding judge_block DeclsStand decls_routines ProcsThere IsProc
proc_at p s r (tree.const_decl n xs) names rs e h there stand room up value numbered q i = absurd i
proc_at p s r (tree.type_decl n xs) names rs e h there stand room up value numbered q i = absurd i
proc_at p s r (tree.var_decl n xs) names rs e h there stand room up value numbered q i = absurd i
proc_at p s r (tree.procedure n name params result b end_name) names rs e h there stand room up value numbered q i =
    let own = block_own p (frame_of (read_heading s r n params result b)) (r + 1) r name s.routine (end_name.token - 1) b s.headings rs
    (head_headings s r n params result b there ∙ block_headings s r nothing (formal_names (formals_of params)) b)
    (nil_left _ _ e) (opened s r n params result b h there) stand.1 (omega (arith, room)) refl value numbered in
    subst (λ j. ProcAt p s.routine j) (sym i) (record { some = up; exists = own.exists; outer = own.outer_is })

pub procs_at : (p : Program) (s : Scene) (r : ℕ) (x : tree.DeclTail) (rs : List Routine) → (judge_bodies s r x).faults ≡ []
    → Each (Headed s.headings) s → ProcsThere s r x → DeclsStand x → r + decls_routines x ≤ length s.headings
    → 0 < r → (judge_bodies s r x).value ≡ Some rs → Numbered p r rs → (q : ℕ) → IsProc r x q → ProcAt p s.routine q
unfolding judge_block DeclsStand decls_routines ProcsThere IsProc
procs_at p s r tree.no_decl rs e h there stand room up value numbered q i = absurd i
procs_at p s r (tree.more_decl d rest) rs e h there stand room up value numbered q i =
    let v = parts (judge_decl s r d).value (judge_bodies (with_shapes s (judge_decl s r d).shapes) (r + decl_routines d) rest).value
    joined_routines rs value in
    let all : Numbered p r (v.first ++ v.second) = subst (λ ys. Numbered p r ys) (sym v.is) numbered in
    proc_or p s r d rest q i
    (λ j. proc_at p s r d (decls_names rest) v.first (nil_left (judge_decl s r d).faults _ e) h there.0 stand.0 (omega (arith, room)) up
    v.has_first (numbered_front p r v.first v.second all) q j)
    (λ j. procs_at p (with_shapes s (judge_decl s r d).shapes) (r + decl_routines d) rest v.second (nil_right (judge_decl s r d).faults _ e)
    h (procs_shapes s (judge_decl s r d).shapes (r + decl_routines d) rest stand.1 there.1) stand.1 (omega (arith, room))
    (omega (arith, up)) v.has_second (numbered_back p r (r + decl_routines d) v.first v.second
    (omega (arith, decl_count s r d v.first v.has_first)) all) q j)

pub block_procs : (p : Program) (f : Frame) (r k : ℕ) (name : tree.Name) (outer end : ℕ) (x : tree.Block) (hs : List (Option Heading))
    (rs : List Routine) → f.scene.headings ≡ hs → (judge_block f r name outer end x).faults ≡ []
    → AwaitsIn hs r x f.scene → BlockStands x → r + block_routines x ≤ length hs → k + 1 ≡ r → f.scene.routine ≡ k
    → (judge_block f r name outer end x).value ≡ Some rs → Numbered p k rs
    → (q : ℕ) → IsProcIn r x q → ProcAt p k q
unfolding judge_block DeclsStand block_routines
block_procs p f r k name outer end (tree.block n decls body) hs rs same e h stand room next number value numbered q i =
    let front = nil_left _ (judge_body (read_decls f r decls) body).faults e in
    let d = decls_read f r decls (nil_left _ (judge_bodies (read_decls f r decls).scene r decls).faults front)
    (each_follows_from (Awaits hs r decls) NotBad (awaits_not_bad hs r decls) 0 f.scene.blocks.below f.scene.blocks.top h) stand
    (omega (arith, room, ap (λ y. length y) same)) in
    let headed = all_headed f r decls hs same h d in
    let moved = d.moved 0 (from_zero (decls_names decls)) in
    let v = parts (judge_bodies (read_decls f r decls).scene r decls).value (judge_body (read_decls f r decls) body).value
    (cons_routine (read_decls f r decls) name outer (judge_body (read_decls f r decls) body).next
    (body_lines (read_decls f r decls).scene end body)) rs value in
    let num = first_numbered p k r (routine_of (read_decls f r decls) name outer (judge_body (read_decls f r decls) body).next
    (body_lines (read_decls f r decls).scene end body) v.second) v.first rs next v.is numbered in
    subst (λ j. ProcAt p j q) (moved_routine moved ∙ number)
    (procs_at p (read_decls f r decls).scene r decls v.first (nil_right (read_decls f r decls).faults _ front) headed d.heads stand
    (omega (arith, room, d.long, ap (λ y. length y) same)) (omega (arith, next)) v.has_first num.2 q i)

-- ---- the parameters of procedures

given_result : (s t : Scene) (r : ℕ) (params : Option tree.Params) (result : Option tree.Name) (b : tree.Block) (x : Routine)
    → HeadThere s r params result b
    → x.result ≡ result_in t (returns_of (read_formals (first_frame s r params b) (formals_of params)).scene result) → ResultGiven result x
given_result s t r params None b x there e = subst (λ y. IsNone y) (sym e) refl
given_result s t r params (Some name) b x there e =
    by (read_type_name (read_formals (first_frame s r params b) (formals_of params)).scene name).value there.result_there e
  where
    by : (o : Option ℕ) → IsThere o → x.result ≡ result_in t (a_value o) → IsSome x.result
    by None i q = absurd i
    by (Some v) i q = subst (λ y. IsSome y) (sym q) refl

mutual
  unfolding judge_block DeclsStand decls_routines ProcsThere

  -- in the scene of all declarations, with these shapes
  pub procs_given : (p : Program) (t : Scene) (u : List PlainShape) (r : ℕ) (x : tree.DeclTail) (rs : List Routine)
      → Longer t (with_shapes t u) → (judge_bodies (with_shapes t u) r x).faults ≡ [] → Each (Headed t.headings) t
      → ProcsThere (with_shapes t u) r x → DeclsStand x → r + decls_routines x ≤ length t.headings
      → (judge_bodies (with_shapes t u) r x).value ≡ Some rs → Numbered p r rs → ProcsGiven p t r x
  procs_given p t u r tree.no_decl rs long e h there stand room value numbered = tt
  procs_given p t u r (tree.more_decl d rest) rs long e h there stand room value numbered =
      let s = with_shapes t u in
      let v = parts (judge_decl s r d).value (judge_bodies (with_shapes s (judge_decl s r d).shapes) (r + decl_routines d) rest).value
      joined_routines rs value in
      let all : Numbered p r (v.first ++ v.second) = subst (λ ys. Numbered p r ys) (sym v.is) numbered in
      let quiet = nil_left (judge_decl s r d).faults _ e in
      let more = decl_long s r d (decls_names rest) quiet h there.0 stand.0 (omega (arith, room)) in (
        proc_given p t u r d (decls_names rest) v.first long quiet h there.0 stand.0 (omega (arith, room)) v.has_first
            (numbered_front p r v.first v.second all),
        procs_given p t (judge_decl s r d).shapes (r + decl_routines d) rest v.second (longer_twice long more)
            (nil_right (judge_decl s r d).faults _ e) h
            (procs_shapes s (judge_decl s r d).shapes (r + decl_routines d) rest stand.1 there.1) stand.1 (omega (arith, room)) v.has_second
            (numbered_back p r (r + decl_routines d) v.first v.second (omega (arith, decl_count s r d v.first v.has_first)) all),
      )

  proc_given : (p : Program) (t : Scene) (u : List PlainShape) (r : ℕ) (d : tree.Decl) (names : List tree.Name) (rs : List Routine)
      → Longer t (with_shapes t u) → (judge_decl (with_shapes t u) r d).faults ≡ [] → Each (Headed t.headings) t
      → ProcThere (with_shapes t u) r d → DeclStands d names → r + decl_routines d ≤ length t.headings
      → (judge_decl (with_shapes t u) r d).value ≡ Some rs → Numbered p r rs → ProcGiven p t r d
  proc_given p t u r (tree.const_decl n xs) names rs long e h there stand room value numbered = tt
  proc_given p t u r (tree.type_decl n xs) names rs long e h there stand room value numbered = tt
  proc_given p t u r (tree.var_decl n xs) names rs long e h there stand room value numbered = tt
  proc_given p t u r (tree.procedure n name params result b end_name) names rs long e h there stand room value numbered =
      let s = with_shapes t u in
      let own = block_own p (frame_of (read_heading s r n params result b)) (r + 1) r name s.routine (end_name.token - 1) b s.headings rs
      (head_headings s r n params result b there ∙ block_headings s r nothing (formal_names (formals_of params)) b)
      (nil_left _ _ e) (opened s r n params result b h there) stand.1 (omega (arith, room)) refl value numbered in
      record {
        shapes = u;
        long = long;
        params_given = own.params;
        result_given = given_result s own.scene r params result b (routine_at p r) there
            (own.result ∙ ap (λ y. result_in own.scene y) (head_returns s r n params result b));
      }
