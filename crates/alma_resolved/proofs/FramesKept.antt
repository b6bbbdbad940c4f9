-- The routines of a resolved program have their parameters first, and stand inside one another as their levels say.
use Rattle.std.proofs.Common.{◌≡◌, ℕ, zero, suc, ◌+◌, ◌-◌, ◌<◌, ◌≤◌, Bool, true, false, List, [], ◌∷◌, ◌++◌, length, get_or, Option, None}
use Rattle.std.proofs.Common.{Some, refl, sym, ap, ◌∙◌, subst, arith, append_assoc}
use Rattle.std.specs.Prelude.{map, option_map, nat_le, sum_by, IsNone}
use Rattle.std.specs.List.{AllByRecursion}
use Rattle.std.proofs.lemmas.Bool.{leb-false}
use Rattle.std.proofs.lemmas.List.{length-append, length-replicate}
use Rattle.alma_base.specs.declared.fault.CheckFault.TheVariants as fault
use Rattle.alma_scan.specs.Tokens.{Lexeme}
use Rattle.alma_ir.specs.Tree as ir
use Rattle.alma_ir.specs.Tree.{Program, Routine, no_routine, routine_at}
use Rattle.alma_ir.specs.Checked.{AreLaidOut, HasOneCellAs, param_slots}
use Rattle.alma_names.specs.Blocks.{DeclaredName}
use Rattle.alma_rules.specs.Numbered as tree
use Rattle.alma_rules.specs.Judgement.{BrokenRule, if_unbroken, both_of, when}
use Rattle.alma_rules.specs.Scene.{Scene, Heading, Returns, nothing, a_value, level, line_of}
use Rattle.alma_rules.specs.Places.{width, stmt_tokens, mark_stmts}
use Rattle.alma_rules.specs.Decls.{Frame, block_routines, decls_routines, decl_routines, formal_names, formals_of, too_deep, read_heading}
use Rattle.alma_rules.specs.Decls.{read_decls}
use Rattle.alma_rules.specs.Modules.{result_in, judge_body, routine_of, frame_of, with_shapes, judge_block, judge_bodies, judge_decl}
use Rattle.alma_rules.specs.Modules.{first_scene, module_frame, judge_module, program_of, broken_rules, resolution, cons_routine}
use Rattle.alma_rules.specs.Modules.{joined_routines}
use Rattle.alma_rules.specs.Modules.{body_lines}
use Rattle.alma_rules.proofs.Sound.{nil_left, nil_right}
use Rattle.alma_resolved.specs.Stand.{DeclsStand, DeclStands, BlockStands}
use Rattle.alma_resolved.specs.Frames.{KeepsRoutine, KeepsFrames}
use Rattle.alma_resolved.proofs.Lookups.{Each, NotBad, Headed, each_follows_from}
use Rattle.alma_resolved.proofs.HeadsSound.{head_headings, head_routine, head_below}
use Rattle.alma_resolved.proofs.DeclsSound.{block_headings, block_routine, block_returns, block_below, Moved, from_zero, ProcThere}
use Rattle.alma_resolved.proofs.DeclsSound.{ProcsThere, decls_read}
use Rattle.alma_resolved.proofs.ModuleSound.{Awaits, AwaitsIn, awaits_not_bad, all_headed, procs_shapes, opened, block_opened}
use Rattle.alma_resolved.proofs.ModuleSound.{resolved_unbroken}
use Rattle.alma_resolved.proofs.Rises.{stmts_up}
use Rattle.alma_resolved.proofs.Slots.{head_laid, Steps, decls_steps}
use Rattle.alma_rules.specs.Decls.{decls_names}

-- ---- routines by their numbers

-- the routines have the numbers from this one on in the program
Numbered : Program → ℕ → List Routine → Type 0
Numbered p n [] = Unit {0}
Numbered p n (x ∷ xs) = (routine_at p n ≡ x) × (n < length p.routines) × Numbered p (n + 1) xs

-- a fact of each routine, from this number on
EachFrom : (ℕ → Routine → Type 0) → ℕ → List Routine → Type 0
EachFrom Fact n [] = Unit {0}
EachFrom Fact n (x ∷ xs) = Fact n x × EachFrom Fact (n + 1) xs

numbered_front : (p : Program) (n : ℕ) (xs ys : List Routine) → Numbered p n (xs ++ ys) → Numbered p n xs
unfolding Numbered
numbered_front p n [] ys h = tt
numbered_front p n (x ∷ xs) ys h = (h.0, h.1, numbered_front p (n + 1) xs ys h.2)

numbered_back : (p : Program) (n m : ℕ) (xs ys : List Routine) → n + length xs ≡ m → Numbered p n (xs ++ ys) → Numbered p m ys
unfolding Numbered
numbered_back p n m [] ys e h = let same : n ≡ m = omega (arith, e) in subst (λ k. Numbered p k ys) same h
numbered_back p n m (x ∷ xs) ys e h = numbered_back p (n + 1) m xs ys (omega (arith, e)) h.2

each_join : (Fact : ℕ → Routine → Type 0) (n m : ℕ) (xs ys : List Routine) → n + length xs ≡ m → EachFrom Fact n xs → EachFrom Fact m ys
    → EachFrom Fact n (xs ++ ys)
unfolding EachFrom
each_join Fact n m [] ys e h g = let same : m ≡ n = omega (arith, e) in subst (λ k. EachFrom Fact k ys) same g
each_join Fact n m (x ∷ xs) ys e h g = (h.0, each_join Fact (n + 1) m xs ys (omega (arith, e)) h.1 g)

each_at : (Fact : ℕ → Routine → Type 0) (n i : ℕ) (xs : List Routine) → EachFrom Fact n xs → i < length xs
    → Fact (n + i) (get_or xs i no_routine)
unfolding EachFrom
each_at Fact n i [] h lt = absurd (omega (arith, lt))
each_at Fact n zero (x ∷ xs) h lt = let same : n ≡ n + 0 = omega arith in subst (λ k. Fact k x) same h.0
each_at Fact n (suc i) (x ∷ xs) h lt = let same : (n + 1) + i ≡ n + suc i = omega arith in
    subst (λ k. Fact k (get_or xs i no_routine)) same (each_at Fact (n + 1) i xs h.1 (omega (arith, lt)))

get_last : (xs : List Routine) (x : Routine) (ys : List Routine) → get_or (xs ++ x ∷ ys) (length xs) no_routine ≡ x
get_last [] x ys = refl
get_last (y ∷ xs) x ys = get_last xs x ys

numbered_all : (p : Program) (n : ℕ) (front xs : List Routine) → p.routines ≡ front ++ xs → length front ≡ n → Numbered p n xs
unfolding Numbered
numbered_all p n front [] e l = tt
numbered_all p n front (x ∷ xs) e l = (
  ap (λ ys. get_or ys n no_routine) e ∙ (ap (λ k. get_or (front ++ x ∷ xs) k no_routine) (sym l) ∙ get_last front x xs),
  omega (arith, l, ap (λ ys. length ys) e, length-append front (x ∷ xs)),
  numbered_all p (n + 1) (front ++ x ∷ []) xs (e ∙ sym (append_assoc front (x ∷ []) xs)) (omega (arith, l, length-append front (x ∷ []))),
)

-- ---- values

pub record Parts {A B C : Type 0} (v : Option A) (w : Option B) (f : A × B → C) (z : C) : Type 0 where
  pub first : A
  pub second : B
  pub has_first : v ≡ Some first
  pub has_second : w ≡ Some second
  pub is : f (first, second) ≡ z

pub parts : {A B C : Type 0} (v : Option A) (w : Option B) (f : A × B → C) (z : C) → option_map f (both_of v w) ≡ Some z → Parts v w f z
parts None w f z e = absurd (cc)
parts (Some x) None f z e = absurd (cc)
parts (Some x) (Some y) f z e = record { first = x; second = y; has_first = refl; has_second = refl; is = cc }

-- ---- one routine

-- what a frame has in front of the declarations of its block, for routine k
pub record Starts (k : ℕ) (f : Frame) : Type 0 where
  pub laid : AreLaidOut 0 f.params
  pub sum : sum_by param_slots f.params ≤ f.slots
  pub cells : AllByRecursion (λ q. HasOneCellAs q.kind q.cells) f.params
  pub declared : f.declared ≤ f.slots
  pub body : k ≡ 0 → f.declared < f.slots

-- where a routine stands: its level, and the routine round it
pub record Stands (p : Program) (k l outer : ℕ) : Type 0 where
  pub body : k ≡ 0 → (l ≡ 0) × (outer ≡ 0)
  pub exists : outer < length p.routines
  pub above : 0 < k → l ≡ suc (routine_at p outer).level
  pub few : l ≤ 8

pub body_up : (g : Frame) (body : Option tree.Stmts) → g.slots ≤ (judge_body g body).next
body_up g None = omega arith
body_up g (Some x) = (stmts_up g.scene g.slots x).le

each_positive : (s : Scene) (ts : List ℕ) → AllByRecursion (λ x. 0 < x) (map (line_of s) ts)
each_positive s [] = tt
each_positive s (t ∷ ts) = (omega arith, each_positive s ts)

-- the lines of a body are lines
lines_positive : (s : Scene) (end : ℕ) (body : Option tree.Stmts) → AllByRecursion (λ x. 0 < x) (body_lines s end body)
lines_positive s end None = tt
lines_positive s end (Some body) = each_positive s (stmt_tokens (mark_stmts body (end - width (mark_stmts body))).marks)

routine_keeps : (p : Program) (k l outer : ℕ) (f g : Frame) (name : tree.Name) (slots : ℕ) (lines : List ℕ) (body : ir.Stmts) → Starts k f
    → Steps f g → Stands p k l outer → level g.scene ≡ l → g.slots ≤ slots
    → AllByRecursion (λ x. 0 < x) lines → KeepsRoutine p k (routine_of g name outer slots lines body)
routine_keeps p k l outer f g name slots lines body h s at same le positive = record {
  params = record {
    laid_out = subst (AreLaidOut 0) (sym s.params) h.laid;
    fit = omega (arith, ap (λ ps. sum_by param_slots ps) s.params, h.sum, s.le, le);
    cells = subst (λ ps. AllByRecursion (λ q. HasOneCellAs q.kind q.cells) ps) (sym s.params) h.cells;
  };
  declared = record {
    within = omega (arith, h.declared, s.le, s.same, le);
    body = λ e. let b : f.declared < f.slots = h.body e in
        omega (arith, b, s.le, s.same, le);
  };
  nested = record {
    body = λ e. (same ∙ (at.body e).0, (at.body e).1);
    exists = at.exists;
    above = λ e. same ∙ at.above e;
    few =
        omega (arith, same, at.few);
  };
  line = omega arith;
  lines = positive;
}

-- ---- scenes

level_is : (s : Scene) (l : ℕ) → length s.blocks.below ≡ suc l → level s ≡ l
level_is s l e = omega (arith, e)

moved_routine : {lo : ℕ} {s t : Scene} → Moved lo s t → t.routine ≡ s.routine
moved_routine m = ap (λ x. x.routine) m.is

moved_below : {lo : ℕ} {s t : Scene} → Moved lo s t → t.blocks.below ≡ s.blocks.below
moved_below m = ap (λ x. x.blocks.below) m.is

shallow_level : (s : Scene) → too_deep s ≡ [] → level s < 8
shallow_level s e = by (nat_le 8 (level s)) refl e
  where
    by : (c : Bool) → nat_le 8 (level s) ≡ c → when c fault.NestedProcedure ≡ [] → level s < 8
    by true i q = absurd (cc)
    by false i q = leb-false 8 (level s) i

deeper : (below : List (List DeclaredName)) (top : List DeclaredName) (l : ℕ) → length below ≡ suc l
    → length (below ++ top ∷ []) ≡ suc (l + 1)
deeper below top l e = omega (arith, e, length-append below (top ∷ []))

record Result (p : Program) (n count : ℕ) (rs : List Routine) : Type 0 where
  long : length rs ≡ count
  each : EachFrom (KeepsRoutine p) n rs

no_result : (p : Program) (n : ℕ) (rs : List Routine) → [] ≡ rs → Result p n 0 rs
unfolding EachFrom
no_result p n [] e = record { long = refl; each = tt }
no_result p n (x ∷ xs) e = absurd (cc)

cons_result : (p : Program) (k r count : ℕ) (x : Routine) (xs rs : List Routine) → k + 1 ≡ r → KeepsRoutine p k x → Result p r count xs
    → x ∷ xs ≡ rs → Result p k (1 + count) rs
unfolding EachFrom
cons_result p k r count x xs rs e h g i =
    subst (λ ys. Result p k (1 + count) ys) i
    (record { long = omega (arith, g.long); each = (h, subst (λ n. EachFrom (KeepsRoutine p) n xs) (sym e) g.each) })

join_result : (p : Program) (n m a b : ℕ) (xs ys rs : List Routine) → n + a ≡ m → Result p n a xs → Result p m b ys → xs ++ ys ≡ rs
    → Result p n (a + b) rs
join_result p n m a b xs ys rs e g h i =
    subst (λ zs. Result p n (a + b) zs) i (record {
      long = omega (arith, length-append xs ys, g.long, h.long);
      each =
          each_join (KeepsRoutine p) n m xs ys (omega (arith, e, g.long)) g.each h.each;
    })

first_numbered : (p : Program) (k r : ℕ) (x : Routine) (xs rs : List Routine) → k + 1 ≡ r → x ∷ xs ≡ rs → Numbered p k rs
    → (routine_at p k ≡ x) × (k < length p.routines) × Numbered p r xs
unfolding Numbered
first_numbered p k r x xs [] e i h = absurd (cc)
first_numbered p k r x xs (y ∷ ys) e i h =
    let one : y ≡ x = cc in
    let more : ys ≡ xs = cc in
    (h.0 ∙ one, h.1, subst (λ zs. Numbered p r zs) more (subst (λ n. Numbered p n ys) e h.2))

-- ---- the walk

mutual
  unfolding judge_block DeclsStand block_routines ProcsThere

  block_keeps : (p : Program) (f : Frame) (r k l : ℕ) (name : tree.Name) (outer end : ℕ) (x : tree.Block) (hs : List (Option Heading))
      (rs : List Routine) → f.scene.headings ≡ hs → (judge_block f r name outer end x).faults ≡ []
      → AwaitsIn hs r x f.scene → BlockStands x → r + block_routines x ≤ length hs → Starts k f → k + 1 ≡ r → f.scene.routine ≡ k
      → length f.scene.blocks.below ≡ suc l → Stands p k l outer
      → (judge_block f r name outer end x).value ≡ Some rs → Numbered p k rs → Result p k (1 + block_routines x) rs
  block_keeps p f r k l name outer end (tree.block n decls body) hs rs same e h stand room starts next number deep at value numbered =
      let front = nil_left _ (judge_body (read_decls f r decls) body).faults e in
      let d = decls_read f r decls (nil_left _ (judge_bodies (read_decls f r decls).scene r decls).faults front)
      (each_follows_from (Awaits hs r decls) NotBad (awaits_not_bad hs r decls) 0 f.scene.blocks.below f.scene.blocks.top h) stand
      (omega (arith, room, ap (λ y. length y) same)) in
      let headed = all_headed f r decls hs same h d in
      let moved = d.moved 0 (from_zero (decls_names decls)) in
      let v = parts (judge_bodies (read_decls f r decls).scene r decls).value (judge_body (read_decls f r decls) body).value
      (cons_routine (read_decls f r decls) name outer (judge_body (read_decls f r decls) body).next
      (body_lines (read_decls f r decls).scene end body)) rs value in
      let down : length (read_decls f r decls).scene.blocks.below ≡ suc l = ap (λ y. length y) (moved_below moved) ∙ deep in
      let flat : level (read_decls f r decls).scene ≡ l = level_is (read_decls f r decls).scene l down in
      let one = routine_keeps p k l outer f (read_decls f r decls) name (judge_body (read_decls f r decls) body).next
      (body_lines (read_decls f r decls).scene end body) v.second starts (decls_steps f r decls) at flat
      (body_up (read_decls f r decls) body)
      (lines_positive (read_decls f r decls).scene end body) in
      let num = first_numbered p k r (routine_of (read_decls f r decls) name outer (judge_body (read_decls f r decls) body).next
      (body_lines (read_decls f r decls).scene end body) v.second) v.first rs next v.is numbered in
      let own : (routine_at p k).level ≡ l = ap (λ y. y.level) num.0 ∙ flat in
      cons_result p k r (decls_routines decls)
      (routine_of (read_decls f r decls) name outer (judge_body (read_decls f r decls) body).next
      (body_lines (read_decls f r decls).scene end body) v.second) v.first rs next one
      (bodies_keep p (read_decls f r decls).scene r k l decls v.first (nil_right (read_decls f r decls).faults _ front) headed d.heads stand
      (omega (arith, room, d.long, ap (λ y. length y) same))
      (moved_routine moved ∙ number) down num.1 own (omega (arith, next)) v.has_first num.2) v.is

  bodies_keep : (p : Program) (s : Scene) (r k l : ℕ) (x : tree.DeclTail) (rs : List Routine) → (judge_bodies s r x).faults ≡ []
      → Each (Headed s.headings) s → ProcsThere s r x → DeclsStand x → r + decls_routines x ≤ length s.headings
      → s.routine ≡ k → length s.blocks.below ≡ suc l → k < length p.routines → (routine_at p k).level ≡ l → 0 < r
      → (judge_bodies s r x).value ≡ Some rs → Numbered p r rs → Result p r (decls_routines x) rs
  bodies_keep p s r k l tree.no_decl rs e h there stand room number deep some own up value numbered = no_result p r rs (cc)
  bodies_keep p s r k l (tree.more_decl d rest) rs e h there stand room number deep some own up value numbered =
      let v = parts (judge_decl s r d).value (judge_bodies (with_shapes s (judge_decl s r d).shapes) (r + decl_routines d) rest).value
      joined_routines rs value in
      let all : Numbered p r (v.first ++ v.second) = subst (λ ys. Numbered p r ys) (sym v.is) numbered in
      let one = decl_keeps p s r k l d (decls_names rest) v.first (nil_left (judge_decl s r d).faults _ e) h there.0 stand.0
      (omega (arith, room)) number deep some own up v.has_first (numbered_front p r v.first v.second all) in
      let more = bodies_keep p (with_shapes s (judge_decl s r d).shapes) (r + decl_routines d) k l rest v.second
      (nil_right (judge_decl s r d).faults _ e) h (procs_shapes s (judge_decl s r d).shapes (r + decl_routines d) rest stand.1 there.1)
      stand.1 (omega (arith, room))
      number deep some own (omega (arith, up)) v.has_second
      (numbered_back p r (r + decl_routines d) v.first v.second (omega (arith, one.long)) all) in
      join_result p r (r + decl_routines d) (decl_routines d) (decls_routines rest) v.first v.second rs refl one more v.is

  decl_keeps : (p : Program) (s : Scene) (r k l : ℕ) (d : tree.Decl) (names : List tree.Name) (rs : List Routine)
      → (judge_decl s r d).faults ≡ [] → Each (Headed s.headings) s → ProcThere s r d → DeclStands d names
      → r + decl_routines d ≤ length s.headings
      → s.routine ≡ k → length s.blocks.below ≡ suc l → k < length p.routines → (routine_at p k).level ≡ l → 0 < r
      → (judge_decl s r d).value ≡ Some rs → Numbered p r rs → Result p r (decl_routines d) rs
  decl_keeps p s r k l (tree.const_decl n xs) names rs e h there stand room number deep some own up value numbered = no_result p r rs (cc)
  decl_keeps p s r k l (tree.type_decl n xs) names rs e h there stand room number deep some own up value numbered = no_result p r rs (cc)
  decl_keeps p s r k l (tree.var_decl n xs) names rs e h there stand room number deep some own up value numbered = no_result p r rs (cc)
  decl_keeps p s r k l (tree.procedure n name params result b end_name) names rs e h there stand room number deep some own up value
      numbered =
      let laid = head_laid s r n params result b in
      let shallow : level s < 8 = shallow_level s there.shallow in
      let flat : level s ≡ l = level_is s l deep in
      block_keeps p (frame_of (read_heading s r n params result b)) (r + 1) r (l + 1) name s.routine (end_name.token - 1) b s.headings rs
      (head_headings s r n params result b there ∙ block_headings s r nothing (formal_names (formals_of params)) b)
      (nil_left _ _ e) (opened s r n params result b h there) stand.1 (omega (arith, room))
      (record {
        laid = laid.laid;
        sum = omega (arith, laid.sum);
        cells = laid.cells;
        declared = laid.declared;
        body =
            λ i. absurd (omega (arith, i, up));
      }) refl
      (head_routine s r n params result b there ∙ block_routine s r nothing (formal_names (formals_of params)) b)
      (ap (λ y. length y) (head_below s r n params result b there ∙ block_below s r nothing (formal_names (formals_of params)) b)
      ∙ deeper s.blocks.below s.blocks.top l deep)
      (record {
        body = λ i. absurd (omega (arith, i, up));
        exists = omega (arith, number, some);
        above = λ i. omega (arith, ap (λ j. (routine_at p j).level) number, own);
        few = omega (arith, shallow, flat);
      }) value numbered

-- ---- the program

block_some : (f : Frame) (r : ℕ) (name : tree.Name) (outer end : ℕ) (x : tree.Block) (rs : List Routine)
    → (judge_block f r name outer end x).value ≡ Some rs → 0 < length rs
unfolding judge_block
block_some f r name outer end (tree.block n decls body) rs value =
    let v = parts (judge_bodies (read_decls f r decls).scene r decls).value (judge_body (read_decls f r decls) body).value
    (cons_routine (read_decls f r decls) name outer (judge_body (read_decls f r decls) body).next
    (body_lines (read_decls f r decls).scene end body)) rs value in
    by rs v.is
  where
    by : {x : Routine} {xs : List Routine} (ys : List Routine) → x ∷ xs ≡ ys → 0 < length ys
    by [] e = absurd (cc)
    by (y ∷ ys) e = omega arith

-- no parameters and no result
abbrev TakesNothing : Routine → Type 0
TakesNothing x = (x.params ≡ []) × IsNone x.result

nothing_given : (s : Scene) (r : Returns) → r ≡ nothing → IsNone (result_in s r)
nothing_given s nothing e = refl
nothing_given s (a_value shape) e = absurd (cc)

block_takes : (f : Frame) (r : ℕ) (name : tree.Name) (outer end : ℕ) (x : tree.Block) (hs : List (Option Heading)) (rs : List Routine)
    → f.scene.headings ≡ hs → (judge_block f r name outer end x).faults ≡ []
    → AwaitsIn hs r x f.scene → BlockStands x → r + block_routines x ≤ length hs → f.params ≡ [] → f.scene.returns ≡ nothing
    → (judge_block f r name outer end x).value ≡ Some rs → TakesNothing (get_or rs 0 no_routine)
unfolding judge_block DeclsStand block_routines
block_takes f r name outer end (tree.block n decls body) hs rs same e h stand room none returns value =
    let front = nil_left _ (judge_body (read_decls f r decls) body).faults e in
    let d = decls_read f r decls (nil_left _ (judge_bodies (read_decls f r decls).scene r decls).faults front)
    (each_follows_from (Awaits hs r decls) NotBad (awaits_not_bad hs r decls) 0 f.scene.blocks.below f.scene.blocks.top h) stand
    (omega (arith, room, ap (λ y. length y) same)) in
    let moved = d.moved 0 (from_zero (decls_names decls)) in
    let v = parts (judge_bodies (read_decls f r decls).scene r decls).value (judge_body (read_decls f r decls) body).value
    (cons_routine (read_decls f r decls) name outer (judge_body (read_decls f r decls) body).next
    (body_lines (read_decls f r decls).scene end body)) rs value in
    subst (λ ys. TakesNothing (get_or ys 0 no_routine)) v.is (
      (decls_steps f r decls).params ∙ none,
      nothing_given (read_decls f r decls).scene (read_decls f r decls).scene.returns
          (ap (λ x. x.returns) moved.is ∙ returns),
    )

module_room : (source : List ℕ) (tokens : List Lexeme) (m : tree.Module)
    → 1 + block_routines m.block ≤ length (first_scene source tokens m).headings
module_room source tokens m = let none : Option Heading = None in omega (arith, length-replicate (1 + block_routines m.block) none)

module_keeps : (source : List ℕ) (tokens : List Lexeme) (m : tree.Module) (rs : List Routine) → BlockStands m.block
    → broken_rules source tokens m ≡ [] → (judge_module source tokens m).value ≡ Some rs
    → Result (program_of source tokens m rs) 0 (1 + block_routines m.block) rs
module_keeps source tokens m rs stand e value =
    block_keeps (program_of source tokens m rs) (module_frame source tokens m) 1 0 0 m.name 0 (m.end_name.token - 1) m.block
    (first_scene source tokens m).headings rs (block_headings (first_scene source tokens m) 0 nothing [] m.block) (nil_left _ _ e)
    (block_opened source tokens m m.block) stand (module_room source tokens m)
    (record { laid = tt; sum = omega arith; cells = tt; declared = omega arith; body = λ i. omega arith }) (omega arith)
    (block_routine (first_scene source tokens m) 0 nothing [] m.block)
    (ap (λ y. length y) (block_below (first_scene source tokens m) 0 nothing [] m.block))
    (record {
      body = λ i. (refl, refl);
      exists =
          block_some (module_frame source tokens m) 1 m.name 0 (m.end_name.token - 1) m.block rs value;
      above =
          λ i. absurd (omega (arith, i));
      few = omega arith;
    })
    value (numbered_all (program_of source tokens m rs) 0 [] rs refl refl)

module_takes : (source : List ℕ) (tokens : List Lexeme) (m : tree.Module) (rs : List Routine) → BlockStands m.block
    → broken_rules source tokens m ≡ [] → (judge_module source tokens m).value ≡ Some rs → TakesNothing (get_or rs 0 no_routine)
module_takes source tokens m rs stand e value =
    block_takes (module_frame source tokens m) 1 m.name 0 (m.end_name.token - 1) m.block (first_scene source tokens m).headings rs
    (block_headings (first_scene source tokens m) 0 nothing [] m.block) (nil_left _ _ e)
    (block_opened source tokens m m.block) stand (module_room source tokens m) refl
    (block_returns (first_scene source tokens m) 0 nothing [] m.block) value

-- the program of these routines keeps its frames
made_frames : (source : List ℕ) (tokens : List Lexeme) (m : tree.Module) (rs : List Routine) → BlockStands m.block
    → broken_rules source tokens m ≡ [] → (judge_module source tokens m).value ≡ Some rs → KeepsFrames (program_of source tokens m rs)
made_frames source tokens m rs stand e value =
    let p = program_of source tokens m rs in
    let r = module_keeps source tokens m rs stand e value in
    let some : 0 < length rs = block_some (module_frame source tokens m) 1 m.name 0 (m.end_name.token - 1) m.block rs value in
    let keeps : (i : ℕ) → i < length rs → KeepsRoutine (program_of source tokens m rs) i (get_or rs i no_routine) =
    λ i lt. subst (λ j. KeepsRoutine (program_of source tokens m rs) j (get_or rs i no_routine)) (omega arith)
    (each_at (KeepsRoutine (program_of source tokens m rs)) 0 i rs r.each lt) in
    let first : (get_or rs 0 no_routine).declared < (get_or rs 0 no_routine).slots = (keeps 0 some).declared.body refl in
    record { body = (some, omega (arith, first)); body_takes_nothing = module_takes source tokens m rs stand e value; routines = keeps }

pub program_keeps_frames : (source : List ℕ) (tokens : List Lexeme) (m : tree.Module) (p : Program) → BlockStands m.block
    → resolution source tokens m ≡ Some p → KeepsFrames p
program_keeps_frames source tokens m p stand e =
    by (broken_rules source tokens m) (judge_module source tokens m).value (resolved_unbroken source tokens m p e) e
    (λ rs i. made_frames source tokens m rs stand (resolved_unbroken source tokens m p e) i)
  where
    by : (fs : List BrokenRule) (o : Option (List Routine)) → fs ≡ [] → if_unbroken fs (option_map (program_of source tokens m) o) ≡ Some p
        → ((rs : List Routine) → o ≡ Some rs → KeepsFrames (program_of source tokens m rs)) → KeepsFrames p
    by [] None q e f = absurd (cc)
    by [] (Some rs) q e f = let same : program_of source tokens m rs ≡ p = cc in subst KeepsFrames same (f rs refl)
    by (b ∷ bs) o q e f = absurd (cc)
