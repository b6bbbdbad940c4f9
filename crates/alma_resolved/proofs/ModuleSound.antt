-- Blocks and the module: where no rule is broken there is a resolved program.
use Rattle.std.proofs.Common.{◌≡◌, ℕ, ◌+◌, ◌-◌, ◌≤◌, ◌⊎◌, inl, inr, List, [], ◌∷◌, ◌++◌, length, get_or, Option, None, Some, refl, sym, ap}
use Rattle.std.proofs.Common.{◌∙◌, subst, arith}
use Rattle.std.specs.Prelude.{option_map}
use Rattle.std.proofs.lemmas.List.{length-replicate}
use Rattle.alma_scan.specs.Tokens.{Lexeme}
use Rattle.alma_names.specs.declared.block.Entry.{Entry}
use Rattle.alma_names.specs.declared.block.Entry.TheVariants as entry
use Rattle.alma_names.specs.Shapes.{PlainShape}
use Rattle.alma_ir.specs.Tree as ir
use Rattle.alma_rules.specs.Numbered as tree
use Rattle.alma_rules.specs.Judgement.{BrokenRule, if_unbroken}
use Rattle.alma_rules.specs.Scene.{Scene, Heading, nothing}
use Rattle.alma_rules.specs.Decls.{Frame, with_block, block_routines, decls_routines, decl_routines, formal_names, formals_of, read_heading}
use Rattle.alma_rules.specs.Decls.{read_decls}
use Rattle.alma_rules.specs.Modules.{judge_body, frame_of, with_shapes, judge_block, judge_bodies, judge_decl, first_scene, module_frame}
use Rattle.alma_rules.specs.Modules.{judge_module, program_of, broken_rules, resolution, cons_routine, joined_routines, body_lines}
use Rattle.alma_rules.proofs.Sound.{IsThere, Sound, nil_left, nil_right, both_there, map_there}
use Rattle.alma_rules.proofs.SoundWalk.{stmts_sound}
use Rattle.alma_resolved.specs.Stand.{DeclsStand, DeclStands, BlockStands}
use Rattle.alma_resolved.proofs.Lookups.{AllFrom, Each, NotBad, Headed, HeadingThere, IsPlain, each_follows_from, sound_body}
use Rattle.alma_resolved.proofs.Later.{all_extended_self, extended_self}
use Rattle.alma_resolved.proofs.HeadsSound.{HeadThere, head_later, head_each, head_headings}
use Rattle.alma_resolved.proofs.DeclsSound.{IsProc, block_each, block_headings, moved_each, from_zero, ProcThere, ProcsThere, DeclsRead}
use Rattle.alma_resolved.proofs.DeclsSound.{decls_read}
use Rattle.alma_rules.specs.Decls.{decls_names}

-- no entry is Bad, and each routine has its heading, or is one of the declarations
abbrev pub Awaits : List (Option Heading) → ℕ → tree.DeclTail → ℕ → Entry → Type 0
Awaits hs r x n (entry.Constant shape v) = Unit {0}
Awaits hs r x n (entry.Named shape) = Unit {0}
Awaits hs r x n (entry.Variable shape a) = Unit {0}
Awaits hs r x n (entry.Routine q) = HeadingThere (get_or hs q None) ⊎ IsProc r x q
Awaits hs r x n entry.Bad = ⊥

awaits_plain : (hs : List (Option Heading)) (r : ℕ) (x : tree.DeclTail) (n : ℕ) (e : Entry) → IsPlain e → Awaits hs r x n e
awaits_plain hs r x n (entry.Constant shape v) h = tt
awaits_plain hs r x n (entry.Named shape) h = tt
awaits_plain hs r x n (entry.Variable shape a) h = tt
awaits_plain hs r x n (entry.Routine q) h = absurd h
awaits_plain hs r x n entry.Bad h = h

headed_plain : (hs : List (Option Heading)) (n : ℕ) (e : Entry) → IsPlain e → Headed hs n e
headed_plain hs n (entry.Constant shape v) h = tt
headed_plain hs n (entry.Named shape) h = tt
headed_plain hs n (entry.Variable shape a) h = tt
headed_plain hs n (entry.Routine q) h = absurd h
headed_plain hs n entry.Bad h = h

headed_awaits : (hs : List (Option Heading)) (r : ℕ) (x : tree.DeclTail) (n : ℕ) (e : Entry) → Headed hs n e → Awaits hs r x n e
headed_awaits hs r x n (entry.Constant shape v) h = tt
headed_awaits hs r x n (entry.Named shape) h = tt
headed_awaits hs r x n (entry.Variable shape a) h = tt
headed_awaits hs r x n (entry.Routine q) h = inl h
headed_awaits hs r x n entry.Bad h = h

pub awaits_not_bad : (hs : List (Option Heading)) (r : ℕ) (x : tree.DeclTail) (n : ℕ) (e : Entry) → Awaits hs r x n e → NotBad n e
awaits_not_bad hs r x n (entry.Constant shape v) h = tt
awaits_not_bad hs r x n (entry.Named shape) h = tt
awaits_not_bad hs r x n (entry.Variable shape a) h = tt
awaits_not_bad hs r x n (entry.Routine q) h = tt
awaits_not_bad hs r x n entry.Bad h = h

-- behind the declarations all headings are there
pub all_headed : (f : Frame) (r : ℕ) (x : tree.DeclTail) (hs : List (Option Heading)) → f.scene.headings ≡ hs → Each (Awaits hs r x) f.scene
    → DeclsRead f r x (read_decls f r x) → Each (Headed (read_decls f r x).scene.headings) (read_decls f r x).scene
all_headed f r x hs same h d =
    moved_each (Headed (read_decls f r x).scene.headings) (headed_plain (read_decls f r x).scene.headings)
    (d.moved 0 (from_zero (decls_names x)))
    (each_follows_from (Awaits hs r x) (Headed (read_decls f r x).scene.headings) by 0 f.scene.blocks.below f.scene.blocks.top h)
  where
    by : (n : ℕ) (e : Entry) → Awaits hs r x n e → Headed (read_decls f r x).scene.headings n e
    by n (entry.Constant shape v) h = tt
    by n (entry.Named shape) h = tt
    by n (entry.Variable shape a) h = tt
    by n (entry.Routine q) (inl i) = d.stay q (subst (λ y. HeadingThere (get_or y q None)) (sym same) i)
    by n (entry.Routine q) (inr i) = d.made q i
    by n entry.Bad h = h

-- procedures in a scene with more shapes
pub procs_shapes : (s : Scene) (u : List PlainShape) (r : ℕ) (x : tree.DeclTail) → DeclsStand x → ProcsThere s r x
    → ProcsThere (with_shapes s u) r x
unfolding DeclsStand ProcsThere
procs_shapes s u r tree.no_decl stand h = tt
procs_shapes s u r (tree.more_decl d rest) stand h = (by d stand.0 h.0, procs_shapes s u (r + decl_routines d) rest stand.1 h.1)
  where
    by : (d : tree.Decl) → DeclStands d (decls_names rest) → ProcThere s r d → ProcThere (with_shapes s u) r d
    by (tree.const_decl n xs) stand h = tt
    by (tree.type_decl n xs) stand h = tt
    by (tree.var_decl n xs) stand h = tt
    by (tree.procedure n name params result b end_name) stand h =
        head_later stand.0.0 s (with_shapes s u) r params result b
        (record { tokens = refl; below = all_extended_self stand.0.0 s.blocks.below; top = extended_self stand.0.0 s.blocks.top })
        stand.0.1 h

-- a body
body_there : (g : Frame) (x : Option tree.Stmts) → Each (Headed g.scene.headings) g.scene → (judge_body g x).faults ≡ []
    → IsThere (judge_body g x).value
unfolding Sound
body_there g None h e = tt
body_there g (Some body) h e = stmts_sound g.scene (sound_body g.scene h) g.slots body e

abbrev pub AwaitsIn : List (Option Heading) → ℕ → tree.Block → Scene → Type 0
AwaitsIn hs r (tree.block n decls body) s = Each (Awaits hs r decls) s

-- the scene of a heading, with the routines of its block
pub opened : (s : Scene) (r n : ℕ) (params : Option tree.Params) (result : Option tree.Name) (b : tree.Block) → Each (Headed s.headings) s
    → HeadThere s r params result b → AwaitsIn s.headings (r + 1) b (read_heading s r n params result b).frame.scene
opened s r n params result (tree.block m decls body) h p =
    head_each (Awaits s.headings (r + 1) decls) (awaits_plain s.headings (r + 1) decls) s r n params result (tree.block m decls body) p
    (block_each (Awaits s.headings (r + 1) decls) s r nothing (formal_names (formals_of params)) (tree.block m decls body)
    (each_follows_from (Headed s.headings) (Awaits s.headings (r + 1) decls) (headed_awaits s.headings (r + 1) decls) 0 s.blocks.below
    s.blocks.top h) (λ q i k. inr i))

-- ---- the walk

mutual
  unfolding judge_block DeclsStand block_routines ProcsThere

  pub block_there : (f : Frame) (r : ℕ) (name : tree.Name) (outer end : ℕ) (x : tree.Block) (hs : List (Option Heading))
      → f.scene.headings ≡ hs → (judge_block f r name outer end x).faults ≡ []
      → AwaitsIn hs r x f.scene → BlockStands x → r + block_routines x ≤ length hs → IsThere (judge_block f r name outer end x).value
  block_there f r name outer end (tree.block n decls body) hs same e h stand room =
      let front = nil_left _ (judge_body (read_decls f r decls) body).faults e in
      let d = decls_read f r decls (nil_left _ (judge_bodies (read_decls f r decls).scene r decls).faults front)
      (each_follows_from (Awaits hs r decls) NotBad (awaits_not_bad hs r decls) 0 f.scene.blocks.below f.scene.blocks.top h) stand
      (omega (arith, room, ap (λ y. length y) same)) in
      let headed = all_headed f r decls hs same h d in
      let inner = bodies_there (read_decls f r decls).scene r decls (nil_right (read_decls f r decls).faults _ front) headed d.heads stand
      (omega (arith, room, d.long, ap (λ y. length y) same)) in
      map_there (cons_routine (read_decls f r decls) name outer (judge_body (read_decls f r decls) body).next
      (body_lines (read_decls f r decls).scene end body)) _
      (both_there (judge_bodies (read_decls f r decls).scene r decls).value (judge_body (read_decls f r decls) body).value inner
      (body_there (read_decls f r decls) body headed
      (nil_right ((read_decls f r decls).faults ++ (judge_bodies (read_decls f r decls).scene r decls).faults) _ e)))

  bodies_there : (s : Scene) (r : ℕ) (x : tree.DeclTail) → (judge_bodies s r x).faults ≡ [] → Each (Headed s.headings) s → ProcsThere s r x
      → DeclsStand x → r + decls_routines x ≤ length s.headings → IsThere (judge_bodies s r x).value
  bodies_there s r tree.no_decl e h p stand room = tt
  bodies_there s r (tree.more_decl d rest) e h p stand room =
      map_there joined_routines _ (both_there (judge_decl s r d).value
      (judge_bodies (with_shapes s (judge_decl s r d).shapes) (r + decl_routines d) rest).value
      (decl_there s r d (decls_names rest) (nil_left (judge_decl s r d).faults _ e) h p.0 stand.0 (omega (arith, room)))
      (bodies_there (with_shapes s (judge_decl s r d).shapes) (r + decl_routines d) rest (nil_right (judge_decl s r d).faults _ e) h
      (procs_shapes s (judge_decl s r d).shapes (r + decl_routines d) rest stand.1 p.1) stand.1 (omega (arith, room))))

  decl_there : (s : Scene) (r : ℕ) (d : tree.Decl) (names : List tree.Name) → (judge_decl s r d).faults ≡ [] → Each (Headed s.headings) s
      → ProcThere s r d → DeclStands d names → r + decl_routines d ≤ length s.headings → IsThere (judge_decl s r d).value
  decl_there s r (tree.const_decl n xs) names e h p stand room = tt
  decl_there s r (tree.type_decl n xs) names e h p stand room = tt
  decl_there s r (tree.var_decl n xs) names e h p stand room = tt
  decl_there s r (tree.procedure n name params result b end_name) names e h p stand room =
      block_there (frame_of (read_heading s r n params result b)) (r + 1) name s.routine (end_name.token - 1) b s.headings
      (head_headings s r n params result b p ∙ block_headings s r nothing (formal_names (formals_of params)) b)
      (nil_left _ _ e) (opened s r n params result b h p) stand.1 (omega (arith, room))

-- ---- the module

first_fine : (hs : List (Option Heading)) (r : ℕ) (x : tree.DeclTail) (source : List ℕ) (tokens : List Lexeme) (m : tree.Module)
    → Each (Awaits hs r x) (first_scene source tokens m)
unfolding AllFrom
first_fine hs r x source tokens m = (tt, (tt, (tt, (tt, (tt, tt)))))

pub block_opened : (source : List ℕ) (tokens : List Lexeme) (m : tree.Module) (b : tree.Block)
    → AwaitsIn (first_scene source tokens m).headings 1 b (with_block (first_scene source tokens m) 0 nothing [] b)
block_opened source tokens m (tree.block n decls body) =
    let one : 0 + 1 ≡ 1 = omega arith in
    block_each (Awaits (first_scene source tokens m).headings 1 decls) (first_scene source tokens m) 0 nothing [] (tree.block n decls body)
    (first_fine (first_scene source tokens m).headings 1 decls source tokens m)
    (λ q i k. inr (subst (λ j. IsProc j decls q) one i))

module_there : (source : List ℕ) (tokens : List Lexeme) (m : tree.Module) → BlockStands m.block → broken_rules source tokens m ≡ []
    → IsThere (judge_module source tokens m).value
module_there source tokens m stand e =
    let none : Option Heading = None in
    block_there (module_frame source tokens m) 1 m.name 0 (m.end_name.token - 1) m.block (first_scene source tokens m).headings
    (block_headings (first_scene source tokens m) 0 nothing [] m.block) (nil_left _ _ e)
    (block_opened source tokens m m.block) stand (omega (arith, length-replicate (1 + block_routines m.block) none))

program_there : (fs : List BrokenRule) (f : List ir.Routine → ir.Program) (o : Option (List ir.Routine)) → fs ≡ [] → IsThere o
    → (p : ir.Program) × (if_unbroken fs (option_map f o) ≡ Some p)
program_there [] f None e t = absurd t
program_there [] f (Some x) e t = (f x, refl)
program_there (b ∷ bs) f o e t = absurd (cc)

-- where no rule is broken there is a resolved program
pub program_resolved : (source : List ℕ) (tokens : List Lexeme) (m : tree.Module) → BlockStands m.block → broken_rules source tokens m ≡ []
    → (p : ir.Program) × (resolution source tokens m ≡ Some p)
program_resolved source tokens m stand e =
    program_there (broken_rules source tokens m) (program_of source tokens m) (judge_module source tokens m).value e
    (module_there source tokens m stand e)

-- and where there is one, no rule is broken
pub resolved_unbroken : (source : List ℕ) (tokens : List Lexeme) (m : tree.Module) (p : ir.Program) → resolution source tokens m ≡ Some p
    → broken_rules source tokens m ≡ []
resolved_unbroken source tokens m p e = by (broken_rules source tokens m)
    (option_map (program_of source tokens m) (judge_module source tokens m).value) e
  where
    by : (fs : List BrokenRule) (o : Option ir.Program) → if_unbroken fs o ≡ Some p → fs ≡ []
    by [] o e = refl
    by (b ∷ bs) o e = absurd (cc)

-- a tree has one resolved program
pub one_program : (source : List ℕ) (tokens : List Lexeme) (m : tree.Module) (p q : ir.Program) → resolution source tokens m ≡ Some p
    → resolution source tokens m ≡ Some q → p ≡ q
one_program source tokens m p q e i = by (resolution source tokens m) e i
  where
    by : (o : Option ir.Program) → o ≡ Some p → o ≡ Some q → p ≡ q
    by None e i = absurd (cc)
    by (Some x) e i = cc
