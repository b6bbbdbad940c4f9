-- The routines of a resolved program: their parameters, names, texts and slots are paid by what the tree weighs.
use Rattle.std.proofs.Common.{◌≡◌, ℕ, zero, suc, ◌+◌, ◌*◌, ◌-◌, ◌<◌, ◌≤◌, get_or, List, [], ◌∷◌, ◌++◌, length, Option, None, Some, refl, ap}
use Rattle.std.proofs.Common.{◌∙◌, subst, arith}
use Rattle.std.specs.Prelude.{sum_by, option_map}
use Rattle.std.specs.List.{AllByRecursion}
use Rattle.std.proofs.lemmas.List.Sums.{sum_by-cons, sum_by-append}
use Rattle.alma_base.specs.Limits.{source_limit}
use Rattle.alma_tree.specs.declared.module.Module.{Module}
use Rattle.alma_scan.specs.Tokens.{Lexeme}
use Rattle.alma_ir.specs.Tree as ir
use Rattle.alma_ir.specs.Tree.{Program, Routine, Global, no_routine, routine_at}
use Rattle.alma_ir.specs.Phrases.{expr_phrases, stmts_phrases}
use Rattle.alma_ir.specs.Checked.{EachRoutine, KeepsLimits, link_slots, text_bytes}
use Rattle.alma_ir.proofs.Each.{each_of_append, each_follows}
use Rattle.alma_rules.specs.Numbered as tree
use Rattle.alma_rules.specs.View as numbered
use Rattle.alma_rules.specs.Judgement.{BrokenRule, if_unbroken}
use Rattle.alma_rules.specs.Scene.{Scene, nothing, level, text_at}
use Rattle.alma_rules.specs.Decls.{Frame, decl_routines, formals_of, read_heading, read_decls}
use Rattle.alma_rules.specs.Modules.{judge_body, routine_of, frame_of, with_shapes, judge_block, judge_bodies, judge_decl, first_scene}
use Rattle.alma_rules.specs.Modules.{module_frame, judge_module, block_variables, program_of, broken_rules, resolution, cons_routine}
use Rattle.alma_rules.specs.Modules.{joined_routines, body_lines}
use Rattle.alma_resolved.proofs.Fits.{when_is}
use Rattle.alma_resolved.proofs.FramesKept.{parts}
use Rattle.alma_resolved.proofs.Slots.{decls_steps}
use Rattle.alma_resolved.specs.Room.{HasRoom}
use Rattle.alma_resolved.specs.Whole.{IsTreeOf, KeepsSlots, ProgramFits}
use Rattle.alma_resolved.proofs.HeadScenes.{block_same, head_same}
use Rattle.alma_resolved.proofs.Named.{tokens_steady}
use Rattle.alma_resolved.proofs.LoopSlots.{ones, stmts_takes}
use Rattle.alma_resolved.proofs.Prints.{Prints, prints_nil}
use Rattle.alma_resolved.proofs.Printing.{sizes, stmts_print}
use Rattle.alma_resolved.proofs.DeclWeights.{weigh_formals, weigh_body, weigh_block, weigh_decls, weigh_decl, weigh_module, numbered_weighs}
use Rattle.alma_resolved.proofs.Sizes.{ones_within, sizes_within}
use Rattle.alma_resolved.proofs.FrameLimits.{decls_hold, head_few, head_slots}

-- ---- what routines hold

abbrev params_with_link : Routine → ℕ
params_with_link x = length x.params + link_slots x.level

abbrev texts_of : Routine → ℕ
texts_of x = sum_by text_bytes (stmts_phrases x.body)

abbrev name_bytes : Routine → ℕ
name_bytes x = length x.name

-- at most `a` parameters with links, `b` bytes of names and of texts, and `d` slots more than declared cells in each
pub record Within (a b d : ℕ) (rs : List Routine) : Type 0 where
  pub params : sum_by params_with_link rs ≤ a
  pub names : sum_by name_bytes rs ≤ b
  pub texts : sum_by texts_of rs ≤ b
  pub slots : AllByRecursion (λ (x : Routine). x.slots ≤ x.declared + d) rs

slots_up : (d e : ℕ) (rs : List Routine) → d ≤ e → AllByRecursion (λ (x : Routine). x.slots ≤ x.declared + d) rs
    → AllByRecursion (λ (x : Routine). x.slots ≤ x.declared + e) rs
slots_up d e rs le h = each_follows (λ (x : Routine). x.slots ≤ x.declared + d) (λ x. x.slots ≤ x.declared + e)
    (λ x g. omega (arith, g, le)) rs h

within_none : (rs : List Routine) → [] ≡ rs → Within 0 0 0 rs
within_none [] e = record { params = omega arith; names = omega arith; texts = omega arith; slots = tt }
within_none (x ∷ xs) e = absurd (cc)

within_both : {a b d i j k : ℕ} (xs ys : List Routine) → Within a b d xs → Within i j k ys → Within (a + i) (b + j) (d + k) (xs ++ ys)
within_both {a} {b} {d} {i} {j} {k} xs ys h g = record {
  params = omega (arith, sum_by-append params_with_link xs ys, h.params, g.params);
  names = omega (arith, sum_by-append name_bytes xs ys, h.names, g.names);
  texts = omega (arith, sum_by-append texts_of xs ys, h.texts, g.texts);
  slots = each_of_append (λ (x : Routine). x.slots ≤ x.declared + (d + k)) xs ys (slots_up d (d + k) xs (omega arith) h.slots)
      (slots_up k (d + k) ys (omega arith) g.slots);
}

within_up : {a b d : ℕ} {rs : List Routine} (i j k : ℕ) → a ≤ i → b ≤ j → d ≤ k → Within a b d rs → Within i j k rs
within_up {a} {b} {d} {rs} i j k p q r h =
    record {
      params = omega (arith, p, h.params);
      names = omega (arith, q, h.names);
      texts = omega (arith, q, h.texts);
      slots =
          slots_up d k rs r h.slots;
    }

-- ---- one routine

one_link : (n : ℕ) → link_slots n ≤ 1
one_link zero = omega arith
one_link (suc zero) = omega arith
one_link (suc (suc n)) = omega arith

body_takes : (g : Frame) (body : Option tree.Stmts) → (judge_body g body).next ≤ g.slots + 2 * weigh_body ones body
body_takes g None = omega arith
body_takes g (Some x) = (stmts_takes g.scene g.slots x).le

body_prints : (tokens : List Lexeme) (g : Frame) (body : Option tree.Stmts) (y : ir.Stmts) → g.scene.tokens ≡ tokens
    → (judge_body g body).value ≡ Some y → sum_by text_bytes (stmts_phrases y) ≤ weigh_body (sizes tokens) body
unfolding expr_phrases
body_prints tokens g None y same e = let none : ir.no_stmts ≡ y = cc in (subst (λ z. Prints 0 (stmts_phrases z)) none (prints_nil 0)).most
body_prints tokens g (Some x) y same e =
    omega (arith, (when_is y e (stmts_print g.scene g.slots x)).most, ap (λ ts. weigh_body (sizes ts) (Some x)) same)

routine_within : (tokens : List Lexeme) (c v w : ℕ) (f g : Frame) (name : tree.Name) (outer slots : ℕ) (lines : List ℕ) (body : ir.Stmts)
    → g.params ≡ f.params → g.scene.tokens ≡ tokens
    → slots ≤ g.declared + (c + 2 * v) → sum_by text_bytes (stmts_phrases body) ≤ w
    → Within (length f.params + 1) (sizes tokens name.token + w) (c + 2 * v) (routine_of g name outer slots lines body ∷ [])
routine_within tokens c v w f g name outer slots lines body ps same le prints =
    let made : Routine = routine_of g name outer slots lines body in
    let own : length (text_at g.scene name.token) ≡ sizes tokens name.token = ap (λ ts. sizes ts name.token) same in
    record {
      params = omega (arith, sum_by-cons params_with_link made [], ap (λ qs. length qs) ps, one_link (level g.scene));
      names = omega (arith, sum_by-cons name_bytes made [], own);
      texts = omega (arith, sum_by-cons texts_of made [], prints);
      slots = (le, tt);
    }

-- ---- the walk

mutual
  unfolding judge_block weigh_block

  block_within : (tokens : List Lexeme) (f : Frame) (c r : ℕ) (name : tree.Name) (outer end : ℕ) (x : tree.Block) (rs : List Routine)
      → f.scene.tokens ≡ tokens → f.slots ≤ f.declared + c → (judge_block f r name outer end x).value ≡ Some rs
      → Within (length f.params + (1 + weigh_block ones x)) (sizes tokens name.token + weigh_block (sizes tokens) x)
      (c + 2 * weigh_block ones x) rs
  block_within tokens f c r name outer end (tree.block n decls body) rs same le value =
      let g = read_decls f r decls in
      let j = judge_body g body in
      let v = parts (judge_bodies g.scene r decls).value j.value (cons_routine g name outer j.next (body_lines g.scene end body)) rs
      value in
      let steps = decls_steps f r decls in
      let kept : g.scene.tokens ≡ tokens = (decls_hold tokens f (length f.variables) (sum_by (λ (y : Global). length y.name) f.variables) r
      decls (record { tokens_are = same; many = omega arith; names = omega arith })).tokens_are in
      let own = routine_within tokens c (weigh_body ones body) (weigh_body (sizes tokens) body) f g name outer j.next
      (body_lines g.scene end body) v.second steps.params kept (omega (arith, steps.same, le, body_takes g body))
      (body_prints tokens g body v.second kept v.has_second) in
      let inner = bodies_within tokens g.scene r decls v.first kept v.has_first in
      subst (λ ys. Within (length f.params + (1 + (weigh_decls ones decls + weigh_body ones body)))
      (sizes tokens name.token + (weigh_decls (sizes tokens) decls + weigh_body (sizes tokens) body))
      (c + 2 * (weigh_decls ones decls + weigh_body ones body)) ys) v.is
      (within_up (length f.params + (1 + (weigh_decls ones decls + weigh_body ones body)))
      (sizes tokens name.token + (weigh_decls (sizes tokens) decls + weigh_body (sizes tokens) body))
      (c + 2 * (weigh_decls ones decls + weigh_body ones body))
      (omega arith) (omega arith) (omega arith)
      (within_both (routine_of g name outer j.next (body_lines g.scene end body) v.second ∷ []) v.first own inner))

  bodies_within : (tokens : List Lexeme) (s : Scene) (r : ℕ) (x : tree.DeclTail) (rs : List Routine) → s.tokens ≡ tokens
      → (judge_bodies s r x).value ≡ Some rs → Within (weigh_decls ones x) (weigh_decls (sizes tokens) x) (2 * weigh_decls ones x) rs
  bodies_within tokens s r tree.no_decl rs same value =
      within_up 0 0 (2 * 0) (omega arith) (omega arith) (omega arith) (within_none rs (cc))
  bodies_within tokens s r (tree.more_decl d rest) rs same value =
      let v = parts (judge_decl s r d).value (judge_bodies (with_shapes s (judge_decl s r d).shapes) (r + decl_routines d) rest).value
      joined_routines rs value in
      let first = decl_within tokens s r d v.first same v.has_first in
      let more = bodies_within tokens (with_shapes s (judge_decl s r d).shapes) (r + decl_routines d) rest v.second same v.has_second in
      subst (λ ys. Within (weigh_decl ones d + weigh_decls ones rest) (weigh_decl (sizes tokens) d + weigh_decls (sizes tokens) rest)
      (2 * (weigh_decl ones d + weigh_decls ones rest)) ys) v.is
      (within_up (weigh_decl ones d + weigh_decls ones rest) (weigh_decl (sizes tokens) d + weigh_decls (sizes tokens) rest)
      (2 * (weigh_decl ones d + weigh_decls ones rest)) (omega arith) (omega arith) (omega arith)
      (within_both v.first v.second first more))

  decl_within : (tokens : List Lexeme) (s : Scene) (r : ℕ) (d : tree.Decl) (rs : List Routine) → s.tokens ≡ tokens
      → (judge_decl s r d).value ≡ Some rs → Within (weigh_decl ones d) (weigh_decl (sizes tokens) d) (2 * weigh_decl ones d) rs
  decl_within tokens s r (tree.const_decl n xs) rs same value =
      within_up 0 0 (2 * 0) (omega arith) (omega arith) (omega arith) (within_none rs (cc))
  decl_within tokens s r (tree.type_decl n xs) rs same value =
      within_up 0 0 (2 * 0) (omega arith) (omega arith) (omega arith) (within_none rs (cc))
  decl_within tokens s r (tree.var_decl n xs) rs same value =
      within_up (weigh_decl ones (tree.var_decl n xs)) (weigh_decl (sizes tokens) (tree.var_decl n xs))
      (2 * weigh_decl ones (tree.var_decl n xs)) (omega arith) (omega arith) (omega arith) (within_none rs (cc))
  decl_within tokens s r (tree.procedure n name params result b end_name) rs same value =
      let f = frame_of (read_heading s r n params result b) in
      let few : length f.params ≤ weigh_formals ones (formals_of params) = head_few s r n params result b in
      let kept : f.scene.tokens ≡ tokens = head_same (λ y. y.tokens) tokens_steady s r n params result b ∙ same in
      within_up (1 + (weigh_formals ones (formals_of params) + weigh_block ones b))
      (sizes tokens name.token + (weigh_formals (sizes tokens) (formals_of params) + weigh_block (sizes tokens) b))
      (2 * (1 + (weigh_formals ones (formals_of params) + weigh_block ones b))) (omega (arith, few)) (omega arith) (omega (arith, few))
      (block_within tokens f (length f.params) (r + 1) name s.routine (end_name.token - 1) b rs kept (head_slots s r n params result b)
      value)

-- ---- the program

module_tokens : (source : List ℕ) (tokens : List Lexeme) (m : tree.Module) → (module_frame source tokens m).scene.tokens ≡ tokens
module_tokens source tokens m = block_same (λ y. y.tokens) tokens_steady (first_scene source tokens m) 0 nothing [] m.block

made_within : (source : List ℕ) (tokens : List Lexeme) (m : tree.Module) (rs : List Routine)
    → (judge_module source tokens m).value ≡ Some rs
    → Within (weigh_module ones m) (weigh_module (sizes tokens) m) (1 + 2 * weigh_block ones m.block) rs
made_within source tokens m rs value =
    within_up (weigh_module ones m) (weigh_module (sizes tokens) m) (1 + 2 * weigh_block ones m.block) (omega arith) (omega arith)
    (omega arith)
    (block_within tokens (module_frame source tokens m) 1 1 m.name 0 (m.end_name.token - 1) m.block rs (module_tokens source tokens m)
    (omega arith) value)

globals_held : (source : List ℕ) (tokens : List Lexeme) (m : tree.Module) (b : tree.Block)
    → (length (block_variables (module_frame source tokens m) 1 b) ≤ weigh_block ones b)
    × (sum_by (λ (g : Global). length g.name) (block_variables (module_frame source tokens m) 1 b) ≤ weigh_block (sizes tokens) b)
unfolding weigh_block
globals_held source tokens m (tree.block n decls body) =
    let h = decls_hold tokens (module_frame source tokens m) 0 0 1 decls
    (record { tokens_are = module_tokens source tokens m; many = omega arith; names = omega arith }) in
    (omega (arith, h.many), omega (arith, h.names))

-- what holds of a program that is made of these routines, holds of the resolved one
pub resolved_is : (source : List ℕ) (tokens : List Lexeme) (m : tree.Module) (p : Program) (P : Program → Type 0)
    → resolution source tokens m ≡ Some p → ((rs : List Routine) → (judge_module source tokens m).value ≡ Some rs
    → P (program_of source tokens m rs)) → P p
resolved_is source tokens m p P e f = by (broken_rules source tokens m) (judge_module source tokens m).value e f
  where
    by : (fs : List BrokenRule) (o : Option (List Routine)) → if_unbroken fs (option_map (program_of source tokens m) o) ≡ Some p
        → ((rs : List Routine) → o ≡ Some rs → P (program_of source tokens m rs)) → P p
    by [] None e f = absurd (cc)
    by [] (Some rs) e f = let same : program_of source tokens m rs ≡ p = cc in subst P same (f rs refl)
    by (b ∷ bs) o e f = absurd (cc)

-- a tree weighs no more than its source
leaves_within : (source : List ℕ) (tokens : List Lexeme) (m : Module) → IsTreeOf source tokens m
    → weigh_module ones (numbered.view_module m) ≤ length source
leaves_within source tokens m t = omega (arith, numbered_weighs ones m (length tokens) t.numbered, ones_within source tokens t.scanned)

texts_within : (source : List ℕ) (tokens : List Lexeme) (m : Module) → IsTreeOf source tokens m
    → weigh_module (sizes tokens) (numbered.view_module m) ≤ length source
texts_within source tokens m t = omega (
  arith,
  numbered_weighs (sizes tokens) m (length tokens) t.numbered,
  sizes_within source tokens t.scanned,
)

pub program_keeps_limits : (source : List ℕ) (tokens : List Lexeme) (m : Module) (p : Program) → length source ≤ source_limit
    → IsTreeOf source tokens m → resolution source tokens (numbered.view_module m) ≡ Some p → KeepsLimits p
program_keeps_limits source tokens m p short t e = resolved_is source tokens x p KeepsLimits e made
  where
    x : tree.Module
    x = numbered.view_module m

    made : (rs : List Routine) → (judge_module source tokens x).value ≡ Some rs → KeepsLimits (program_of source tokens x rs)
    made rs value =
        let w = made_within source tokens x rs value in
        let g = globals_held source tokens x x.block in
        let a : weigh_module ones x ≤ length source = leaves_within source tokens m t in
        let b : weigh_module (sizes tokens) x ≤ length source = texts_within source tokens m t in
        record {
          globals = omega (arith, short, a, g.0);
          params = omega (arith, short, a, w.params);
          names = omega (arith, short, b, g.1, w.names);
          texts = omega (arith, short, b, w.texts);
        }

-- its names and its texts are each at most as long as the source
pub program_has_room : (source : List ℕ) (tokens : List Lexeme) (m : Module) (p : Program) → length source ≤ source_limit
    → IsTreeOf source tokens m → resolution source tokens (numbered.view_module m) ≡ Some p → HasRoom p
program_has_room source tokens m p short t e = resolved_is source tokens x p HasRoom e made
  where
    x : tree.Module
    x = numbered.view_module m

    made : (rs : List Routine) → (judge_module source tokens x).value ≡ Some rs → HasRoom (program_of source tokens x rs)
    made rs value =
        let w = made_within source tokens x rs value in
        let g = globals_held source tokens x x.block in
        let b : weigh_module (sizes tokens) x ≤ length source = texts_within source tokens m t in
        omega (arith, short, b, g.1, w.names, w.texts)

each_routine : (P : Routine → Type 0) (xs : List Routine) (i : ℕ) → AllByRecursion P xs → i < length xs → P (get_or xs i no_routine)
each_routine P [] i h lt = absurd (omega (arith, lt))
each_routine P (x ∷ xs) zero h lt = h.0
each_routine P (x ∷ xs) (suc i) h lt = each_routine P xs i h.1 (omega (arith, lt))

-- with the declared cells of each routine within their limit, its slots are within theirs
pub program_keeps_slots : (source : List ℕ) (tokens : List Lexeme) (m : Module) (p : Program) → length source ≤ source_limit
    → IsTreeOf source tokens m → resolution source tokens (numbered.view_module m) ≡ Some p → ProgramFits p
    → EachRoutine p (λ r routine. KeepsSlots routine)
program_keeps_slots source tokens m p short t e fits r lt =
    let d : ℕ = 1 + 2 * weigh_block ones (numbered.view_module m).block in
    let all : AllByRecursion (λ (x : Routine). x.slots ≤ x.declared + d) p.routines =
    resolved_is source tokens (numbered.view_module m) p
    (λ (q : Program). AllByRecursion (λ (x : Routine). x.slots ≤ x.declared + d) q.routines) e
    (λ rs value. (made_within source tokens (numbered.view_module m) rs value).slots) in
    let a : weigh_module ones (numbered.view_module m) ≤ length source = leaves_within source tokens m t in
    omega (
      arith,
      short,
      a,
      each_routine (λ (x : Routine). x.slots ≤ x.declared + d) p.routines r all lt,
      (fits.routines r lt).cells,
      one_link (routine_at p r).level,
    )
