-- A whole module, put together of its block and its end.
use Rattle.std.proofs.Common.{◌≡◌, ℕ, ◌+◌, ◌-◌, List, [], ◌∷◌, get_or, replicate, Option, None, Some, refl, sym, ap, subst, ◌∙◌, arith}
use Rattle.std.specs.Prelude.{slice_get, bytes_eq, not}
use Rattle.std.proofs.lemmas.List.{get_or-replicate}
use Rattle.alma_base.specs.declared.fault.CheckFault.TheVariants as fault
use Rattle.alma_scan.specs.Tokens.{Lexeme}
use Rattle.alma_ir.specs.Tree as ir
use Rattle.alma_rules.specs.Numbered as tree
use Rattle.alma_rules.specs.Judgement.{BrokenRule, least, broken_at, when}
use Rattle.alma_rules.specs.Scene.{Scene, nothing, text_of, text_at}
use Rattle.alma_rules.specs.Decls.{Frame, with_block, new_frame, block_routines, decls_routines, read_decls}
use Rattle.alma_rules.specs.Modules.{RoutineBodies, judge_block, judge_bodies, judge_body, judge_module, first_scene, module_frame}
use Rattle.alma_rules.specs.Modules.{broken_rules}
use Rattle.alma_rules.specs.Modules.{resolution, end_rules, with_shapes}
use Rattle.alma_rules.specs.Rising.{IsRising}
use Rattle.alma_check_stmt.specs.Inner.Gathered.{Stage, stage, through_read, with_least, unless_broken, joined_lists, IsReady}
use Rattle.alma_check_stmt.specs.Whole.{IsJudged}
use Rattle.alma_check_stmt.proofs.Stays.{ground, ground_steady, headings_steady, block_same}
use Rattle.alma_check_stmt.proofs.Headings.{decls_ground}
use Rattle.alma_check_stmt.proofs.Gathering.{block_gathered, body_quiet, rising_module}

-- a module of its parts
abbrev pub whole : ℕ → tree.Name → ℕ → tree.DeclTail → Option tree.Stmts → tree.Name → tree.Module
whole n name k decls body end_name = record { node = n; name = name; block = tree.block k decls body; end_name = end_name }

-- the scene in which its block is read
abbrev pub entry_scene : List ℕ → List Lexeme → ℕ → tree.Name → ℕ → tree.DeclTail → Option tree.Stmts → tree.Name → Scene
entry_scene source tokens n name k decls body end_name =
    with_block (first_scene source tokens (whole n name k decls body end_name)) 0 nothing [] (tree.block k decls body)

entry_ground : (source : List ℕ) (tokens : List Lexeme) (n : ℕ) (name : tree.Name) (k : ℕ) (decls : tree.DeclTail)
    (body : Option tree.Stmts) (end_name : tree.Name)
    → record {
      of_source : (entry_scene source tokens n name k decls body end_name).source ≡ source;
      of_tokens : (entry_scene source tokens n name k decls body end_name).tokens ≡ tokens;
    }
entry_ground source tokens n name k decls body end_name =
    let e = block_same ground ground_steady (first_scene source tokens (whole n name k decls body end_name)) 0 nothing []
    (tree.block k decls body) in
    record { of_source = ap (λ g. g.source) e; of_tokens = ap (λ g. g.tokens) e }

pub module_ready : (source : List ℕ) (tokens : List Lexeme) (n : ℕ) (name : tree.Name) (k : ℕ) (decls : tree.DeclTail)
    (body : Option tree.Stmts) (end_name : tree.Name) (lines : List ℕ) (s : Scene) (next : ℕ)
    → IsRising (whole n name k decls body end_name) → lines ≡ source → s ≡ entry_scene source tokens n name k decls body end_name → next ≡ 1
    → IsReady lines s next decls body
unfolding block_routines
module_ready source tokens n name k decls body end_name lines s next h l e is =
    let r = rising_module (whole n name k decls body end_name) k decls body refl h in
    let heads : (entry_scene source tokens n name k decls body end_name).headings ≡ replicate (1 + decls_routines decls) None =
    block_same (λ (x : Scene). x.headings) headings_steady (first_scene source tokens (whole n name k decls body end_name)) 0 nothing []
    (tree.block k decls body) in
    rw (l, e, is) (record {
      lined = sym (entry_ground source tokens n name k decls body end_name).of_source;
      empty = λ i le lt. ap (λ hs. get_or hs i None) heads ∙ get_or-replicate (1 + decls_routines decls) i None None (omega (arith, lt));
      rising = r.in_decls;
      rising_body = r.in_body;
    })

-- ---- the end of a module

end_same : (s t : Scene) (name end_name : tree.Name) → s.tokens ≡ t.tokens → end_rules s name end_name ≡ end_rules t name end_name
end_same s t name end_name e = ap (λ ts. when (not (bytes_eq (text_of (slice_get ts name.token)) (text_of (slice_get ts end_name.token))))
    fault.NameMismatch) e

joined_none : (v : Option (List ir.Routine)) → joined_lists (Some []) v ≡ v
joined_none None = refl
joined_none (Some xs) = refl

-- what is left of a stage without its scene
record Rest : Type 0 where
  fault : Option BrokenRule
  routines : Option (List ir.Routine)

abbrev rest : Stage → Rest
rest t = record { fault = t.fault; routines = t.routines }

module_rest : (source : List ℕ) (tokens : List Lexeme) (n : ℕ) (name : tree.Name) (k : ℕ) (decls : tree.DeclTail) (body : Option tree.Stmts)
    (end_name : tree.Name)
    → (let m = whole n name k decls body end_name in
    let g : Frame = read_decls (module_frame source tokens m) 1 decls in
    rest (with_least (through_read (stage None (Some []) 1 (module_frame source tokens m).scene) g name 0 (end_name.token - 1) decls body)
    (broken_at end_name.node (end_rules (first_scene source tokens m) name end_name)))
    ≡ record {
      fault = least (broken_rules source tokens m);
      routines =
          unless_broken (least (broken_rules source tokens m)) (judge_module source tokens m).value;
    })
unfolding judge_block
module_rest source tokens n name k decls body end_name =
    let m = whole n name k decls body end_name in
    let g : Frame = read_decls (module_frame source tokens m) 1 decls in
    let i : RoutineBodies = judge_bodies g.scene 1 decls in
    let E : List BrokenRule = broken_at end_name.node (end_rules (first_scene source tokens m) name end_name) in
    let t : Stage = stage None (Some []) 0 (module_frame source tokens m).scene in
    rw (body_quiet g body) (sym
    (ap rest (block_gathered t g name 0 (end_name.token - 1) (1 + decls_routines decls) (decls_routines decls) i body
    (judge_body g body) E (omega arith))))
    ∙ ap (λ v. let x : Rest = record {
      fault = least (broken_rules source tokens m);
      routines =
          unless_broken (least (broken_rules source tokens m)) v;
    } in x) (joined_none (judge_module source tokens m).value)

pub module_by : (source : List ℕ) (tokens : List Lexeme) (n : ℕ) (name : tree.Name) (k : ℕ) (decls : tree.DeclTail)
    (body : Option tree.Stmts) (end_name : tree.Name)
    (s1 s2 : Scene) (f : Frame) (t0 : Stage) (next n2 n3 : ℕ) (f2 f3 : Option BrokenRule) (v2 v3 : Option (List ir.Routine))
    (globals : List ir.Global) (text : List ℕ)
    → s1 ≡ entry_scene source tokens n name k decls body end_name → f ≡ new_frame s1 1 → next ≡ 1 → t0 ≡ stage None (Some []) 1 s1
    → through_read t0 (read_decls f next decls) name 0 (end_name.token - 1) decls body ≡ stage f2 v2 n2 s2
    → stage f3 v3 n3 s2 ≡ with_least (stage f2 v2 n2 s2) (broken_at end_name.node (end_rules s2 name end_name))
    → globals ≡ (read_decls f next decls).variables → text ≡ text_at s2 name.token
    → IsJudged source tokens (whole n name k decls body end_name) f3 v3 text globals
module_by source tokens n name k decls body end_name s1 s2 f t0 next n2 n3 f2 f3 v2 v3 globals text a b c d e w q x =
    let m = whole n name k decls body end_name in
    let f' : f ≡ module_frame source tokens m = b ∙ ap (λ s. new_frame s 1) a in
    let g : Frame = read_decls (module_frame source tokens m) 1 decls in
    let g' : read_decls f next decls ≡ g = ap (λ i. read_decls f i decls) c ∙ ap (λ (y : Frame). read_decls y 1 decls) f' in
    let t' : t0 ≡ stage None (Some []) 1 (module_frame source tokens m).scene = d ∙ ap (λ s. stage None (Some []) 1 s) a in
    let e1 = subst (λ (y : Stage). through_read y (read_decls f next decls) name 0 (end_name.token - 1) decls body ≡ stage f2 v2 n2 s2) t'
    e in
    let e2 = subst (λ (y : Frame). through_read (stage None (Some []) 1 (module_frame source tokens m).scene) y name 0 (end_name.token - 1)
    decls body ≡ stage f2 v2 n2 s2) g' e1 in
    let is : s2 ≡ with_shapes g.scene (judge_bodies g.scene 1 decls).shapes = sym (ap (λ (y : Stage). y.scene) e2) in
    let toks : s2.tokens ≡ tokens = ap (λ (y : Scene). y.tokens) is
    ∙ (ap (λ y. y.tokens) (decls_ground (module_frame source tokens m) 1 decls)
    ∙ (entry_ground source tokens n name k decls body end_name).of_tokens) in
    let ends : broken_at end_name.node (end_rules s2 name end_name) ≡ broken_at end_name.node
    (end_rules (first_scene source tokens m) name end_name) =
    ap (broken_at end_name.node) (end_same s2 (first_scene source tokens m) name end_name toks) in
    let all : rest (stage f3 v3 n3 s2) ≡ record {
      fault = least (broken_rules source tokens m);
      routines =
          unless_broken (least (broken_rules source tokens m)) (judge_module source tokens m).value;
    } =
    ap rest (w ∙ (ap (with_least (stage f2 v2 n2 s2)) ends
    ∙ ap (λ (y : Stage). with_least y (broken_at end_name.node (end_rules (first_scene source tokens m) name end_name))) (sym e2)))
    ∙ module_rest source tokens n name k decls body end_name in
    let l : f3 ≡ least (broken_rules source tokens m) = ap (λ (y : Rest). y.fault) all in
    record {
      least_is = l;
      routines_are = ap (λ (y : Rest). y.routines) all ∙ ap (λ y. unless_broken y (judge_module source tokens m).value) (sym l);
      name_is = x ∙ ap (λ ts. text_of (slice_get ts name.token)) toks;
      globals_are = q ∙ ap (λ (y : Frame). y.variables) g';
    }

-- ---- what is resolved

least_none : (fs : List BrokenRule) → None ≡ least fs → fs ≡ []
least_none [] h = refl
least_none (b ∷ bs) h = absurd (cc)

pub unbroken_resolves : (source : List ℕ) (tokens : List Lexeme) (m : tree.Module) (rs : List ir.Routine) (name : List ℕ)
    (globals : List ir.Global) → IsJudged source tokens m None (Some rs) name globals
    → record {
      quiet : broken_rules source tokens m ≡ [];
      is : resolution source tokens m ≡ Some (record { name = name; globals = globals; routines = rs });
    }
unbroken_resolves source tokens m rs name globals h =
    let e : broken_rules source tokens m ≡ [] = least_none (broken_rules source tokens m) h.least_is in
    record { quiet = e; is = rw (e, sym h.routines_are, h.name_is, h.globals_are) refl }

-- where no rule is broken no routine is Bad, since there is a resolved program then
pub unbroken_is_fine : (source : List ℕ) (tokens : List Lexeme) (m : tree.Module) (name : List ℕ) (globals : List ir.Global)
    → IsJudged source tokens m None None name globals
    → (broken_rules source tokens m ≡ [] → (p : ir.Program) × (resolution source tokens m ≡ Some p)) → ⊥
unbroken_is_fine source tokens m name globals h law =
    let e : broken_rules source tokens m ≡ [] = least_none (broken_rules source tokens m) h.least_is in
    let none : resolution source tokens m ≡ None = rw (e, sym h.routines_are) refl in
    let some = law e in
    let same : None ≡ Some some.0 = sym none ∙ some.1 in
    cc
