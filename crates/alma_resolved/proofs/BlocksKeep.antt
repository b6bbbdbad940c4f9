-- The bodies of all routines of a resolved program fit their places.
use Rattle.std.proofs.Common.{◌≡◌, inl, inr, ℕ, zero, suc, ◌+◌, ◌-◌, ◌<◌, ◌≤◌, false, List, [], ◌∷◌, ◌++◌, length, get_or, Option, None}
use Rattle.std.proofs.Common.{Some, refl, sym, ap, ◌∙◌, subst, arith, append_assoc, length-append}
use Rattle.std.specs.Prelude.{sum_by, unwrap_or, IsSome, IsNone}
use Rattle.std.specs.List.{AllByRecursion}
use Rattle.alma_base.specs.declared.number.Range.{Range}
use Rattle.alma_base.specs.Limits.{cell_limit}
use Rattle.alma_base.specs.Numbers.{whole_range}
use Rattle.alma_names.specs.Shapes.{PlainShape, range_at}
use Rattle.alma_ir.specs.declared.program.Param.{Param}
use Rattle.alma_ir.specs.Tree as ir
use Rattle.alma_ir.specs.Tree.{Program, Routine, no_routine, routine_at}
use Rattle.alma_ir.specs.Phrases.{stmts_phrases}
use Rattle.alma_ir.specs.Checked.{param_slots, IsOrdered, outer_at}
use Rattle.alma_rules.specs.Numbered as tree
use Rattle.alma_rules.specs.Scene.{Scene, Heading, FormalOf, Returns, nothing, a_value}
use Rattle.alma_rules.specs.Types.{read_type_name}
use Rattle.alma_rules.specs.Decls.{Frame, block_routines, decls_routines, decl_routines, decls_names, formal_names, formals_of}
use Rattle.alma_rules.specs.Decls.{read_formals, read_heading, read_decls}
use Rattle.alma_rules.specs.Modules.{result_in, judge_body, routine_of, frame_of, with_shapes, judge_block, judge_bodies, judge_decl}
use Rattle.alma_rules.specs.Modules.{cons_routine, joined_routines, body_lines}
use Rattle.alma_rules.proofs.Sound.{IsThere, nil_left, nil_right}
use Rattle.alma_resolved.specs.Stand.{DeclsStand, DeclStands, BlockStands}
use Rattle.alma_resolved.specs.Fits.{Place, PhrasesFit}
use Rattle.alma_resolved.specs.Scenes.{structured_in, ReturnsFit, ReturnsSimple, SceneFits}
use Rattle.alma_resolved.specs.Frames.{KeepsFrames}
use Rattle.alma_resolved.proofs.Fits.{laid_nil}
use Rattle.alma_resolved.proofs.Checks.{body_fits}
use Rattle.alma_resolved.proofs.Lookups.{Each, NotBad, Headed, HeadingThere, each_follows_from}
use Rattle.alma_resolved.proofs.HeadsSound.{HeadThere, first_frame, head_headings, head_routine}
use Rattle.alma_resolved.proofs.DeclsSound.{block_headings, block_routine, from_zero, IsProcHere, IsProc, IsProcIn, ProcThere, ProcsThere}
use Rattle.alma_resolved.proofs.DeclsSound.{decls_read}
use Rattle.alma_resolved.proofs.ModuleSound.{Awaits, AwaitsIn, awaits_not_bad, all_headed, procs_shapes, opened}
use Rattle.alma_resolved.proofs.FramesKept.{parts, body_up}
use Rattle.alma_resolved.proofs.Slots.{decls_steps}
use Rattle.alma_resolved.specs.Whole.{place, RoutineFits}
use Rattle.alma_resolved.proofs.Tables.{TableKeeps, simple_still, ordered_at}
use Rattle.alma_resolved.proofs.Entries.{cells_declared, owner, RoutineKeeps, FormalsKeep, SceneKeeps, keeps_shapes, Longer, longer_same}
use Rattle.alma_resolved.proofs.Entries.{longer_twice}
use Rattle.alma_resolved.proofs.FramesKeep.{FrameKeeps}
use Rattle.alma_resolved.proofs.HeadsKeep.{HeadPlain}
use Rattle.alma_resolved.proofs.HeadCells.{head_cells, decls_small}
use Rattle.alma_resolved.proofs.HeadScenes.{formals_same, block_same, head_shapes, head_inside, returns_of, head_returns}
use Rattle.alma_resolved.proofs.DeclsKeep.{longer_moved, ProcPlain, ProcsPlain, decls_keep}
use Rattle.alma_resolved.proofs.Fitting.{Sits, scene_fits}
use Rattle.alma_resolved.proofs.BlocksMade.{Numbered, numbered_front, numbered_back, first_numbered, decl_count, decl_long, moved_routine}
use Rattle.alma_resolved.proofs.BlocksMade.{moved_returns, moved_inside, block_own, block_procs, procs_given}
use Rattle.alma_resolved.proofs.Entering.{inner, head_frame}

-- ---- where frames end

unfoldable mutual
  -- of the routine of a block, and of those inside it
  pub block_ends : Frame → ℕ → tree.Block → List ℕ
  block_ends f r (tree.block n decls body) = (read_decls f r decls).slots ∷ bodies_ends (read_decls f r decls).scene r decls

  bodies_ends : Scene → ℕ → tree.DeclTail → List ℕ
  bodies_ends s r tree.no_decl = []
  bodies_ends s r (tree.more_decl d rest) = decl_ends s r d
      ++ bodies_ends (with_shapes s (judge_decl s r d).shapes) (r + decl_routines d) rest

  decl_ends : Scene → ℕ → tree.Decl → List ℕ
  decl_ends s r (tree.const_decl n xs) = []
  decl_ends s r (tree.type_decl n xs) = []
  decl_ends s r (tree.var_decl n xs) = []
  decl_ends s r (tree.procedure n name params result b end_name) = block_ends (frame_of (read_heading s r n params result b)) (r + 1) b

-- the frames of the routines from this number on end there
abbrev pub EndsAt : (ℕ → ℕ) → ℕ → List ℕ → Type 0
EndsAt ends n [] = Unit {0}
EndsAt ends n (x ∷ xs) = (ends n ≡ x) × EndsAt ends (n + 1) xs

ends_front : (ends : ℕ → ℕ) (n : ℕ) (xs ys : List ℕ) → EndsAt ends n (xs ++ ys) → EndsAt ends n xs
ends_front ends n [] ys h = tt
ends_front ends n (x ∷ xs) ys h = (h.0, ends_front ends (n + 1) xs ys h.1)

ends_back : (ends : ℕ → ℕ) (n m : ℕ) (xs ys : List ℕ) → n + length xs ≡ m → EndsAt ends n (xs ++ ys) → EndsAt ends m ys
ends_back ends n m [] ys e h = let same : n ≡ m = omega (arith, e) in subst (λ k. EndsAt ends k ys) same h
ends_back ends n m (x ∷ xs) ys e h = ends_back ends (n + 1) m xs ys (omega (arith, e)) h.1

last_end : (xs : List ℕ) (x : ℕ) (ys : List ℕ) → get_or (xs ++ x ∷ ys) (length xs) 0 ≡ x
last_end [] x ys = refl
last_end (y ∷ xs) x ys = last_end xs x ys

pub ends_all : (ends : ℕ → ℕ) (n : ℕ) (front xs all : List ℕ) → all ≡ front ++ xs → ((q : ℕ) → ends q ≡ get_or all q 0) → length front ≡ n
    → EndsAt ends n xs
ends_all ends n front [] all e f l = tt
ends_all ends n front (x ∷ xs) all e f l = (
  f n ∙ (ap (λ ys. get_or ys n 0) e ∙ (ap (λ k. get_or (front ++ x ∷ xs) k 0) (sym l) ∙ last_end front x xs)),
  ends_all ends (n + 1) (front ++ x ∷ []) xs all (e ∙ sym (append_assoc front (x ∷ []) xs)) f
      (omega (arith, l, length-append front (x ∷ []))),
)

mutual
  unfolding block_ends block_routines

  pub ends_count : (f : Frame) (r : ℕ) (x : tree.Block) → length (block_ends f r x) ≡ 1 + block_routines x
  ends_count f r (tree.block n decls body) = omega (arith, bodies_ends_count (read_decls f r decls).scene r decls)

  bodies_ends_count : (s : Scene) (r : ℕ) (x : tree.DeclTail) → length (bodies_ends s r x) ≡ decls_routines x
  bodies_ends_count s r tree.no_decl = refl
  bodies_ends_count s r (tree.more_decl d rest) =
      omega (
        arith,
        length-append (decl_ends s r d) (bodies_ends (with_shapes s (judge_decl s r d).shapes) (r + decl_routines d) rest),
        decl_ends_count s r d,
        bodies_ends_count (with_shapes s (judge_decl s r d).shapes) (r + decl_routines d) rest,
      )

  decl_ends_count : (s : Scene) (r : ℕ) (d : tree.Decl) → length (decl_ends s r d) ≡ decl_routines d
  decl_ends_count s r (tree.const_decl n xs) = refl
  decl_ends_count s r (tree.type_decl n xs) = refl
  decl_ends_count s r (tree.var_decl n xs) = refl
  decl_ends_count s r (tree.procedure n name params result b end_name) =
      ends_count (frame_of (read_heading s r n params result b)) (r + 1) b

-- a frame ends behind its parameters
ends_first : (ends : ℕ → ℕ) (f : Frame) (r k : ℕ) (x : tree.Block) → EndsAt ends k (block_ends f r x) → f.slots ≤ ends k
unfolding block_ends
ends_first ends f r k (tree.block n decls body) h = omega (arith, h.0, (decls_steps f r decls).le)

-- ---- a fact of each routine, from a number on

abbrev pub EachFrom : (ℕ → Routine → Type 0) → ℕ → List Routine → Type 0
EachFrom Fact n [] = Unit {0}
EachFrom Fact n (x ∷ xs) = Fact n x × EachFrom Fact (n + 1) xs

each_join : (Fact : ℕ → Routine → Type 0) (n m : ℕ) (xs ys : List Routine) → n + length xs ≡ m → EachFrom Fact n xs → EachFrom Fact m ys
    → EachFrom Fact n (xs ++ ys)
each_join Fact n m [] ys e h g = let same : m ≡ n = omega (arith, e) in subst (λ k. EachFrom Fact k ys) same g
each_join Fact n m (x ∷ xs) ys e h g = (h.0, each_join Fact (n + 1) m xs ys (omega (arith, e)) h.1 g)

pub each_at : (Fact : ℕ → Routine → Type 0) (n i : ℕ) (xs : List Routine) → EachFrom Fact n xs → i < length xs
    → Fact (n + i) (get_or xs i no_routine)
each_at Fact n i [] h lt = absurd (omega (arith, lt))
each_at Fact n zero (x ∷ xs) h lt = let same : n ≡ n + 0 = omega arith in subst (λ k. Fact k x) same h.0
each_at Fact n (suc i) (x ∷ xs) h lt = let same : (n + 1) + i ≡ n + suc i = omega arith in
    subst (λ k. Fact k (get_or xs i no_routine)) same (each_at Fact (n + 1) i xs h.1 (omega (arith, lt)))

-- ---- results

returns_fit : (x : Routine) (s t : Scene) (r : Returns) → ReturnsSimple s r → x.result ≡ result_in t r → ReturnsFit x r
returns_fit x s t nothing h e = subst (λ y. IsNone y) (sym e) refl
returns_fit x s t (a_value None) h e = absurd h
returns_fit x s t (a_value (Some v)) h e = subst (λ y. IsSome y) (sym e) refl

result_ordered : (x : Routine) (s : Scene) (r : Returns) → TableKeeps s.shapes → x.result ≡ result_in s r → (range : Range)
    → x.result ≡ Some range → IsOrdered range
result_ordered x s nothing h e range i = absurd (let bad : None ≡ Some range = sym e ∙ i in cc)
result_ordered x s (a_value None) h e range i = absurd (let bad : None ≡ Some range = sym e ∙ i in cc)
result_ordered x s (a_value (Some v)) h e range i =
    let same : unwrap_or (range_at s.shapes v) whole_range ≡ range = ap (λ (o : Option Range). unwrap_or o whole_range) (sym e ∙ i) in
    subst (λ y. IsOrdered y) same (ordered_at s.shapes v h)

returns_longer : (s t : Scene) (r : Returns) → Longer s t → ReturnsSimple s r → ReturnsSimple t r
returns_longer s t nothing l h = tt
returns_longer s t (a_value None) l h = h
returns_longer s t (a_value (Some v)) l h = subst (λ x. structured_in x v ≡ false) (sym l.is) (simple_still s.shapes l.tail v h)

formals_ordered : (t : List PlainShape) (fs : List FormalOf) (qs : List Param) → FormalsKeep t fs qs
    → AllByRecursion (λ q. IsOrdered q.range) qs
formals_ordered t [] [] h = tt
formals_ordered t [] (q ∷ qs) h = absurd h
formals_ordered t (f ∷ fs) [] h = absurd h
formals_ordered t (f ∷ fs) (q ∷ qs) h = (h.0.ordered, formals_ordered t fs qs h.1)

-- what RETURN gives in a procedure
head_simple : (s : Scene) (r n : ℕ) (params : Option tree.Params) (result : Option tree.Name) (b : tree.Block)
    → HeadThere s r params result b → HeadPlain s r params result b
    → ReturnsSimple (read_heading s r n params result b).frame.scene
    (returns_of (read_formals (first_frame s r params b) (formals_of params)).scene result)
head_simple s r n params None b there plain = tt
head_simple s r n params (Some name) b there plain =
    by (read_type_name (read_formals (first_frame s r params b) (formals_of params)).scene name).value there.result_there plain.simple
  where
    same : (read_heading s r n params (Some name) b).frame.scene.shapes
        ≡ (read_formals (first_frame s r params b) (formals_of params)).scene.shapes
    same =
        head_shapes s r n params (Some name) b
        ∙ (sym (block_same (λ x. x.shapes) (record { same = λ a b c d e. refl }) s r nothing (formal_names (formals_of params)) b)
        ∙ sym (formals_same (λ x. x.shapes) (record { same = λ a b c d e. refl }) (first_frame s r params b) (formals_of params)))

    by : (o : Option ℕ) → IsThere o → ((v : ℕ) → o ≡ Some v
        → structured_in (read_formals (first_frame s r params b) (formals_of params)).scene.shapes v ≡ false)
        → ReturnsSimple (read_heading s r n params (Some name) b).frame.scene (a_value o)
    by None t f = t
    by (Some v) t f = subst (λ x. structured_in x v ≡ false) (sym same) (f v refl)

-- ---- one body

body_laid : (k : Place) (g : Frame) (body : Option tree.Stmts) → SceneFits k g.scene → g.scene.inside ≡ false → (y : ir.Stmts)
    → (judge_body g body).value ≡ Some y → PhrasesFit k false g.slots (judge_body g body).next (stmts_phrases y)
unfolding stmts_phrases
body_laid k g None fits i y e = let same : ir.no_stmts ≡ y = cc in
    subst (λ z. PhrasesFit k false g.slots g.slots (stmts_phrases z)) same (laid_nil k false g.slots g.slots (omega arith))
body_laid k g (Some body) fits i y e = subst (λ b. PhrasesFit k b g.slots (judge_body g (Some body)).next (stmts_phrases y)) i
    (body_fits k g.scene fits g.slots body y e)

-- a scene with more shapes
keeps_longer : (k : Place) (c : ℕ) (s : Scene) (u : List PlainShape) → SceneKeeps k c s → Longer s (with_shapes s u) → TableKeeps u
    → SceneKeeps k c (with_shapes s u)
keeps_longer k c s u h l t = subst (λ x. SceneKeeps k c (with_shapes s x)) (sym l.is) (keeps_shapes l.tail h (subst TableKeeps l.is t))

pub record Good (p : Program) (ends : ℕ → ℕ) (n : ℕ) (rs : List Routine) (shapes : List PlainShape) : Type 0 where
  pub each : EachFrom (RoutineFits p ends) n rs
  pub table : TableKeeps shapes

good_none : (p : Program) (ends : ℕ → ℕ) (n : ℕ) (rs : List Routine) (t : List PlainShape) → [] ≡ rs → TableKeeps t → Good p ends n rs t
good_none p ends n [] t e h = record { each = tt; table = h }
good_none p ends n (x ∷ xs) t e h = absurd (cc)

heading_some : (o : Option Heading) → HeadingThere o → (h : Heading) × (o ≡ Some h)
heading_some None t = absurd t
heading_some (Some h) t = (h, refl)

pub owner_self : (k : Place) (c : ℕ) → owner k c (suc c) ≡ k.number
owner_self k c = let none : suc c - suc c ≡ 0 = omega arith in ap (λ n. outer_at k.program k.number n) none

-- ---- the walk

mutual
  unfolding judge_block DeclsStand block_routines ProcsThere IsProc block_ends

  pub block_good : (p : Program) (ends : ℕ → ℕ) → KeepsFrames p
      → (f : Frame) (r k c : ℕ) (name : tree.Name) (outer end : ℕ) (x : tree.Block) (hs : List (Option Heading)) (rs : List Routine)
      → f.scene.headings ≡ hs
      → (judge_block f r name outer end x).faults ≡ [] → AwaitsIn hs r x f.scene → BlockStands x → r + block_routines x ≤ length hs
      → k + 1 ≡ r → FrameKeeps (place p ends k) c f → Sits (place p ends k) c
      → f.scene.routine ≡ k → f.scene.inside ≡ false → ReturnsSimple f.scene f.scene.returns
      → AllByRecursion (λ q. IsOrdered q.range) (routine_at p k).params → f.declared ≤ cell_limit
      → (judge_block f r name outer end x).value ≡ Some rs → Numbered p k rs → EndsAt ends k (block_ends f r x)
      → Good p ends k rs (judge_block f r name outer end x).shapes
  block_good p ends all f r k c name outer end (tree.block n decls body) hs rs same e h stand room next frame sits number inside simple
      ordered few value numbered ended =
      let pl = place p ends k in
      let g = read_decls f r decls in
      let front = nil_left _ (judge_body (read_decls f r decls) body).faults e in
      let quiet = nil_left _ (judge_bodies (read_decls f r decls).scene r decls).faults front in
      let fine : Each NotBad f.scene = each_follows_from (Awaits hs r decls) NotBad (awaits_not_bad hs r decls) 0 f.scene.blocks.below
      f.scene.blocks.top h in
      let d = decls_read f r decls quiet fine stand (omega (arith, room, ap (λ y. length y) same)) in
      let headed = all_headed f r decls hs same h d in
      let moved = d.moved 0 (from_zero (decls_names decls)) in
      let rest_quiet = nil_right (read_decls f r decls).faults _ front in
      let rest_room : r + decls_routines decls ≤ length (read_decls f r decls).scene.headings =
      omega (arith, room, d.long, ap (λ y. length y) same) in
      let v = parts (judge_bodies (read_decls f r decls).scene r decls).value (judge_body (read_decls f r decls) body).value
      (cons_routine (read_decls f r decls) name outer (judge_body (read_decls f r decls) body).next
      (body_lines (read_decls f r decls).scene end body)) rs value in
      let own = routine_of (read_decls f r decls) name outer (judge_body (read_decls f r decls) body).next
      (body_lines (read_decls f r decls).scene end body) v.second in
      let num : (routine_at p k ≡ own) × (k < length p.routines)
      × Numbered p r v.first = first_numbered p k r own v.first rs next v.is numbered in
      let given = procs_given p (read_decls f r decls).scene (read_decls f r decls).scene.shapes r decls v.first
      (longer_same (read_decls f r decls).scene (read_decls f r decls).scene refl) rest_quiet headed d.heads stand rest_room v.has_first
      num.2 in
      let keep = decls_keep (place p ends k) c f r decls quiet fine stand (omega (arith, room, ap (λ y. length y) same))
      (omega (arith, ended.0)) frame given in
      let returns : ReturnsSimple (read_decls f r decls).scene (read_decls f r decls).scene.returns =
      subst (λ y. ReturnsSimple (read_decls f r decls).scene y) (sym (moved_returns moved))
      (returns_longer f.scene (read_decls f r decls).scene f.scene.returns (longer_moved moved) simple) in
      let own_result : (routine_at p k).result ≡ result_in (read_decls f r decls).scene (read_decls f r decls).scene.returns =
      ap (λ (y : Routine). y.result) num.0 in
      let own_params : (routine_at p k).params ≡ (read_decls f r decls).params = ap (λ (y : Routine). y.params) num.0 in
      let fits = scene_fits (place p ends k) c (read_decls f r decls).scene keep.frame.scene sits
      (returns_fit (routine_at p k) (read_decls f r decls).scene (read_decls f r decls).scene (read_decls f r decls).scene.returns
      returns own_result) returns in
      let laid = body_laid (place p ends k) (read_decls f r decls) body fits (moved_inside moved ∙ inside) v.second v.has_second in
      let up : (read_decls f r decls).slots ≤ (judge_body (read_decls f r decls) body).next = body_up (read_decls f r decls) body in
      let rise : f.slots ≤ (read_decls f r decls).slots = (decls_steps f r decls).le in
      let one : RoutineFits p ends k own = record {
        params = omega (arith, ap (λ qs. sum_by param_slots qs) own_params, frame.params, rise, ended.0);
        position = λ i. let some : 0 < f.slots = frame.position i in omega (arith, some, rise, ended.0);
        body = subst (λ m. PhrasesFit (place p ends k) false m (judge_body (read_decls f r decls) body).next (stmts_phrases v.second))
            (sym ended.0) laid;
        cells = decls_small f r decls few;
        heads = record {
          params = subst (λ qs. AllByRecursion (λ q. IsOrdered q.range) qs) own_params ordered;
          result = result_ordered own (read_decls f r decls).scene (read_decls f r decls).scene.returns keep.frame.scene.table refl;
        };
      } in
      let more = bodies_good p ends all (read_decls f r decls).scene (read_decls f r decls).scene.shapes r k c decls v.first
      (longer_same (read_decls f r decls).scene (read_decls f r decls).scene refl) rest_quiet headed d.heads stand rest_room
      keep.frame.scene sits (moved_routine moved ∙ number) (moved_inside moved ∙ inside) (omega (arith, next)) num.1 keep.plain d.made
      v.has_first num.2 (subst (λ m. EndsAt ends m (bodies_ends (read_decls f r decls).scene r decls)) next ended.1) in
      let each : EachFrom (RoutineFits p ends) k (own ∷ v.first) =
      (one, subst (λ m. EachFrom (RoutineFits p ends) m v.first) (sym next) more.each) in
      record { each = subst (λ ys. EachFrom (RoutineFits p ends) k ys) v.is each; table = more.table }

  bodies_good : (p : Program) (ends : ℕ → ℕ) → KeepsFrames p
      → (t : Scene) (u : List PlainShape) (r k c : ℕ) (x : tree.DeclTail) (rs : List Routine) → Longer t (with_shapes t u)
      → (judge_bodies (with_shapes t u) r x).faults ≡ []
      → Each (Headed t.headings) t → ProcsThere (with_shapes t u) r x → DeclsStand x → r + decls_routines x ≤ length t.headings
      → SceneKeeps (place p ends k) c (with_shapes t u) → Sits (place p ends k) c
      → t.routine ≡ k → t.inside ≡ false → 0 < r → k < length p.routines → ProcsPlain t r x
      → ((q : ℕ) → IsProc r x q → HeadingThere (get_or t.headings q None))
      → (judge_bodies (with_shapes t u) r x).value ≡ Some rs → Numbered p r rs → EndsAt ends r (bodies_ends (with_shapes t u) r x)
      → Good p ends r rs (judge_bodies (with_shapes t u) r x).shapes
  bodies_good p ends all t u r k c tree.no_decl rs long e h there stand room keep sits number inside up exists plain read value numbered
      ended = good_none p ends r rs u (cc) keep.table
  bodies_good p ends all t u r k c (tree.more_decl d rest) rs long e h there stand room keep sits number inside up exists plain read value
      numbered ended =
      let s = with_shapes t u in
      let v = parts (judge_decl s r d).value (judge_bodies (with_shapes s (judge_decl s r d).shapes) (r + decl_routines d) rest).value
      joined_routines rs value in
      let together : Numbered p r (v.first ++ v.second) = subst (λ ys. Numbered p r ys) (sym v.is) numbered in
      let count : length v.first ≡ decl_routines d = decl_count s r d v.first v.has_first in
      let quiet = nil_left (judge_decl s r d).faults _ e in
      let more = decl_long s r d (decls_names rest) quiet h there.0 stand.0 (omega (arith, room)) in
      let tail = bodies_ends (with_shapes s (judge_decl s r d).shapes) (r + decl_routines d) rest in
      let one = decl_good p ends all t u r k c d (decls_names rest) v.first long quiet h there.0 stand.0 (omega (arith, room)) keep sits
      number inside up exists plain.0 (λ q i. read q (inl i)) v.has_first
      (numbered_front p r v.first v.second together) (ends_front ends r (decl_ends s r d) tail ended) in
      let rest_good = bodies_good p ends all t (judge_decl s r d).shapes (r + decl_routines d) k c rest v.second (longer_twice long more)
      (nil_right (judge_decl s r d).faults _ e) h
      (procs_shapes s (judge_decl s r d).shapes (r + decl_routines d) rest stand.1 there.1) stand.1 (omega (arith, room))
      (keeps_longer (place p ends k) c s (judge_decl s r d).shapes keep more one.table) sits number inside (omega (arith, up)) exists
      plain.1
      (λ q i. read q (inr i)) v.has_second (numbered_back p r (r + decl_routines d) v.first v.second (omega (arith, count)) together)
      (ends_back ends r (r + decl_routines d) (decl_ends s r d) tail (omega (arith, decl_ends_count s r d)) ended) in
      record {
        each = subst (λ ys. EachFrom (RoutineFits p ends) r ys) v.is
            (each_join (RoutineFits p ends) r (r + decl_routines d) v.first v.second (omega (arith, count)) one.each rest_good.each);
        table = rest_good.table;
      }

  decl_good : (p : Program) (ends : ℕ → ℕ) → KeepsFrames p
      → (t : Scene) (u : List PlainShape) (r k c : ℕ) (d : tree.Decl) (names : List tree.Name) (rs : List Routine)
      → Longer t (with_shapes t u) → (judge_decl (with_shapes t u) r d).faults ≡ []
      → Each (Headed t.headings) t → ProcThere (with_shapes t u) r d → DeclStands d names → r + decl_routines d ≤ length t.headings
      → SceneKeeps (place p ends k) c (with_shapes t u) → Sits (place p ends k) c
      → t.routine ≡ k → t.inside ≡ false → 0 < r → k < length p.routines → ProcPlain t r d
      → ((q : ℕ) → IsProcHere r d q → HeadingThere (get_or t.headings q None))
      → (judge_decl (with_shapes t u) r d).value ≡ Some rs → Numbered p r rs → EndsAt ends r (decl_ends (with_shapes t u) r d)
      → Good p ends r rs (judge_decl (with_shapes t u) r d).shapes
  decl_good p ends all t u r k c (tree.const_decl n xs) names rs long e h there stand room keep sits number inside up exists plain read
      value numbered ended = good_none p ends r rs u (cc) keep.table
  decl_good p ends all t u r k c (tree.type_decl n xs) names rs long e h there stand room keep sits number inside up exists plain read value
      numbered ended = good_none p ends r rs u (cc) keep.table
  decl_good p ends all t u r k c (tree.var_decl n xs) names rs long e h there stand room keep sits number inside up exists plain read value
      numbered ended = good_none p ends r rs u (cc) keep.table
  decl_good p ends all t u r k c (tree.procedure n name params result b end_name) names rs long e h there stand room keep sits number inside
      up exists plain read value numbered ended =
      let s = with_shapes t u in
      let f = frame_of (read_heading s r n params result b) in
      let headings = head_headings s r n params result b there ∙ block_headings s r nothing (formal_names (formals_of params)) b in
      let quiet = nil_left _ _ e in
      let awaits = opened s r n params result b h there in
      let routine = head_routine s r n params result b there ∙ block_routine s r nothing (formal_names (formals_of params)) b in
      let own = block_own p f (r + 1) r name s.routine (end_name.token - 1) b s.headings rs headings quiet awaits stand.1
      (omega (arith, room)) refl value numbered in
      let procs = block_procs p f (r + 1) r name s.routine (end_name.token - 1) b s.headings rs headings quiet awaits stand.1
      (omega (arith, room)) refl routine value numbered in
      let outer : (routine_at p r).outer ≡ k = own.outer_is ∙ number in
      let keeps = all.routines r own.exists in
      let level : (routine_at p r).level ≡ suc c = keeps.nested.above up
      ∙ (ap (λ q. suc (routine_at p q).level) outer ∙ ap suc sits.level) in
      let proc_keeps : (q : ℕ) → IsProcIn (r + 1) b q → RoutineKeeps (inner (place p ends k) r) (suc c) (suc (suc c)) q = λ q i.
      record {
        some = (procs q i).some;
        exists = (procs q i).exists;
        outer = (procs q i).outer ∙ sym (owner_self (inner (place p ends k) r) (suc c));
        level = (all.routines q (procs q i).exists).nested.above (procs q i).some
            ∙ (ap (λ j. suc (routine_at p j).level) (procs q i).outer ∙ ap suc level);
      } in
      let frame = head_frame (place p ends k) c r n s params result b outer keep proc_keeps (plain u long).paired own.params
      keeps.params.laid_out up (ends_first ends f (r + 1) r b ended) in
      let simple : ReturnsSimple f.scene f.scene.returns =
      subst (λ y. ReturnsSimple f.scene y) (sym (head_returns s r n params result b))
      (head_simple s r n params result b there (plain u long)) in
      let head = heading_some (get_or t.headings r None) (read r refl) in
      let few : f.declared ≤ cell_limit = omega
      (arith, head_cells s r n params result b, ap (λ qs. sum_by cells_declared qs) own.params, (keep.heads r head.0 head.1).small) in
      let ordered = formals_ordered u head.0.formals (routine_at p r).params (keep.heads r head.0 head.1).formals in
      block_good p ends all f (r + 1) r (suc c) name s.routine (end_name.token - 1) b s.headings rs headings quiet awaits stand.1
      (omega (arith, room)) refl frame
      (record { level = level; outside = λ i. absurd (omega (arith, i)); module_level = λ i. absurd (omega (arith, i, up)) }) routine
      (head_inside s r n params result b ∙ inside) simple ordered few value numbered ended
