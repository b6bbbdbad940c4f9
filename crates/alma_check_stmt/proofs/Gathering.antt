-- How what is gathered of parts is put together.
use Rattle.std.proofs.Common.{◌≡◌, ℕ, ◌+◌, ◌-◌, List, [], ◌∷◌, ◌++◌, Option, None, Some, refl, sym, ap, ◌∙◌, arith, append_assoc}
use Rattle.std.proofs.Common.{append-nil, subst}
use Rattle.std.specs.Prelude.{option_map}
use Rattle.alma_ir.specs.Tree as ir
use Rattle.alma_rules.specs.Numbered as tree
use Rattle.alma_rules.specs.Judgement.{BrokenRule, Judgement, better, least, both_of, broken_at}
use Rattle.alma_rules.specs.Answers.{first}
use Rattle.alma_rules.specs.Scene.{Scene}
use Rattle.alma_rules.specs.Decls.{Frame, decls_routines, decl_routines, read_decls}
use Rattle.alma_rules.specs.Modules.{RoutineBodies, bodied_both, cons_routine, no_routines, judge_body, body_lines, judge_bodies}
use Rattle.alma_rules.specs.Modules.{judge_decl}
use Rattle.alma_rules.specs.Modules.{judge_block, routine_of, routine_at, with_shapes, end_rules}
use Rattle.alma_rules.specs.Walk.{judge_stmts}
use Rattle.alma_rules.specs.Rising.{rise_block, IsRising}
use Rattle.alma_rules.proofs.Leasts as leasts
use Rattle.alma_rules.proofs.Within.{Within, none}
use Rattle.alma_rules.proofs.Ordered.{stmts_in}
use Rattle.alma_rules.proofs.DeclsOrdered.{decls_in}
use Rattle.alma_check_stmt.specs.Inner.Gathered.{unless_broken, Stage, stage, gather, through_decls, through_decl, through_block}
use Rattle.alma_check_stmt.specs.Inner.Gathered.{with_fault, with_least, quiet, through_read, next_routine, joined_lists, Adds, AreRising}
use Rattle.alma_check_stmt.specs.Inner.Gathered.{IsRisingBody}
use Rattle.alma_check_stmt.proofs.Headings.{inner_frame}

-- ---- broken rules

pub better_none : (a : Option BrokenRule) → better a None ≡ a
better_none None = refl
better_none (Some x) = refl

pub better_assoc : (a b c : Option BrokenRule) → better a (better b c) ≡ better (better a b) c
better_assoc None b c = refl
better_assoc (Some x) None c = refl
better_assoc (Some x) (Some y) None = refl
better_assoc (Some x) (Some y) (Some z) = leasts.least_joined (x ∷ y ∷ []) (z ∷ [])

-- ---- routines

joined_three : (u v w : Option (List ir.Routine)) → joined_lists u (joined_lists v w) ≡ joined_lists (joined_lists u v) w
joined_three None v w = refl
joined_three (Some x) None w = refl
joined_three (Some x) (Some y) None = refl
joined_three (Some x) (Some y) (Some z) = ap Some (sym (append_assoc x y z))

masked_three : (f g h : Option BrokenRule) (u v w : Option (List ir.Routine))
    → unless_broken (better f (better g h)) (joined_lists u (joined_lists v w)) ≡ unless_broken (better (better f g) h)
    (joined_lists (unless_broken (better f g) (joined_lists u v)) w)
masked_three None None None u v w = joined_three u v w
masked_three None None (Some z) u v w = refl
masked_three None (Some y) h u v w = refl
masked_three (Some x) g h u v w = refl

pub stage_as : (f g : Option BrokenRule) (u v : Option (List ir.Routine)) (m n : ℕ) (s t : Scene) → f ≡ g → u ≡ v → m ≡ n → s ≡ t
    → (let a : Stage = record { fault = f; routines = u; next = m; scene = s } in a)
    ≡ record { fault = g; routines = v; next = n; scene = t }
stage_as f g u v m n s t a b c d = rw (a, b, c, d) refl

-- ---- declarations

pub gathered_both : (t : Stage) (m n : ℕ) (a b : RoutineBodies) → gather t (m + n) (bodied_both a b) ≡ gather (gather t m a) n b
gathered_both t m n a b =
    let e : least (a.faults ++ b.faults) ≡ better (least a.faults) (least b.faults) = leasts.least_joined a.faults b.faults in
    stage_as _ _ _ _ _ _ _ _ (ap (better t.fault) e ∙ better_assoc t.fault (least a.faults) (least b.faults))
    (ap (λ f. unless_broken (better t.fault f) (joined_lists t.routines (joined_lists a.value b.value))) e
    ∙ masked_three t.fault (least a.faults) (least b.faults) t.routines a.value b.value)
    (omega arith) refl

pub through_more : (t : Stage) (d : tree.Decl) (rest : tree.DeclTail)
    → through_decls t (tree.more_decl d rest) ≡ through_decls (through_decl t d) rest
unfolding judge_block decls_routines
through_more t d rest =
    gathered_both t (decl_routines d) (decls_routines rest) (judge_decl t.scene t.next d)
    (judge_bodies (with_shapes t.scene (judge_decl t.scene t.next d).shapes) (t.next + decl_routines d) rest)

nothing_joined : (f : Option BrokenRule) (v : Option (List ir.Routine))
    → unless_broken (better f None) (joined_lists (unless_broken f v) (Some [])) ≡ unless_broken f v
nothing_joined None None = refl
nothing_joined None (Some xs) = ap Some (append-nil xs)
nothing_joined (Some b) v = refl

pub nothing_gathered : (f : Option BrokenRule) (v : Option (List ir.Routine)) (n : ℕ) (s : Scene)
    → gather (stage f v n s) 0 (no_routines s.shapes) ≡ stage f v n s
nothing_gathered f v n s = stage_as _ _ _ _ _ _ _ _ (better_none f) (nothing_joined f v) (omega arith) refl

pub through_none : (f : Option BrokenRule) (v : Option (List ir.Routine)) (n : ℕ) (s : Scene)
    → through_decls (stage f v n s) tree.no_decl ≡ stage f v n s
unfolding judge_block decls_routines
through_none f v n s = nothing_gathered f v n s

pub through_const : (f : Option BrokenRule) (v : Option (List ir.Routine)) (n : ℕ) (s : Scene) (k : ℕ) (xs : List tree.ConstEntry)
    → through_decl (stage f v n s) (tree.const_decl k xs) ≡ stage f v n s
unfolding judge_block decls_routines
through_const f v n s k xs = nothing_gathered f v n s

pub through_type : (f : Option BrokenRule) (v : Option (List ir.Routine)) (n : ℕ) (s : Scene) (k : ℕ) (xs : List tree.TypeEntry)
    → through_decl (stage f v n s) (tree.type_decl k xs) ≡ stage f v n s
unfolding judge_block decls_routines
through_type f v n s k xs = nothing_gathered f v n s

pub through_var : (f : Option BrokenRule) (v : Option (List ir.Routine)) (n : ℕ) (s : Scene) (k : ℕ) (xs : List tree.VarEntry)
    → through_decl (stage f v n s) (tree.var_decl k xs) ≡ stage f v n s
unfolding judge_block decls_routines
through_var f v n s k xs = nothing_gathered f v n s

-- ---- procedures

masked_procedure : (f a b c : Option BrokenRule) (u v : Option (List ir.Routine))
    → unless_broken (better f (better (better a b) c)) (joined_lists u v) ≡ unless_broken (better (better (better f a) b) c)
    (unless_broken (better (better f a) b) (joined_lists (unless_broken (better f a) u) v))
masked_procedure None None None None u v = refl
masked_procedure None None None (Some z) u v = refl
masked_procedure None None (Some y) c u v = refl
masked_procedure None (Some x) b c u v = refl
masked_procedure (Some w) a b c u v = refl

better_four : (f a b c : Option BrokenRule) → better f (better (better a b) c) ≡ better (better (better f a) b) c
better_four f a b c = better_assoc f (better a b) c ∙ ap (λ x. better x c) (better_assoc f a b)

-- a block, of which the rules broken in its declarations are gathered first
pub block_gathered : (t : Stage) (g : Frame) (name : tree.Name) (outer end k l : ℕ) (i : RoutineBodies) (body : Option tree.Stmts)
    (j : Judgement ir.Stmts) (faults : List BrokenRule) → t.next + k ≡ t.next + 1 + l
    → gather t k (record {
      faults = g.faults ++ i.faults ++ j.faults ++ faults;
      shapes = i.shapes;
      value =
          (routine_at g name outer end i body j).value;
    })
    ≡ with_least (record (gather (with_least (next_routine t) g.faults) l (routine_at (quiet g) name outer end i body j))
    { scene = with_shapes t.scene i.shapes }) faults
block_gathered t g name outer end k l i body j faults n =
    let e : least (g.faults ++ i.faults ++ j.faults ++ faults) ≡ better (better (least g.faults) (least (i.faults ++ j.faults)))
    (least faults) =
    leasts.least_joined (g.faults ++ i.faults ++ j.faults) faults
    ∙ ap (λ x. better x (least faults)) (ap least (append_assoc g.faults i.faults j.faults)
    ∙ leasts.least_joined g.faults (i.faults ++ j.faults)) in
    let v = (routine_at g name outer end i body j).value in
    stage_as _ _ _ _ _ _ _ _ (ap (better t.fault) e ∙ better_four t.fault (least g.faults) (least (i.faults ++ j.faults)) (least faults))
    (ap (λ f. unless_broken (better t.fault f) (joined_lists t.routines v)) e
    ∙ masked_procedure t.fault (least g.faults) (least (i.faults ++ j.faults)) (least faults) t.routines v)
    n refl

pub body_quiet : (g : Frame) (body : Option tree.Stmts) → judge_body (record g { faults = [] }) body ≡ judge_body g body
body_quiet g None = refl
body_quiet g (Some body) = refl

pub through_procedure : (t : Stage) (n : ℕ) (name : tree.Name) (params : Option tree.Params) (result : Option tree.Name) (m : ℕ)
    (decls : tree.DeclTail) (body : Option tree.Stmts) (end_name : tree.Name)
    → through_decl t (tree.procedure n name params result (tree.block m decls body) end_name)
    ≡ (let v : Stage = through_read (next_routine t) (inner_frame t.scene t.next n params result m decls body) name t.scene.routine
    (end_name.token - 1) decls body in
    with_least (record v { scene = with_shapes t.scene v.scene.shapes }) (broken_at end_name.node (end_rules t.scene name end_name)))
unfolding judge_block decls_routines
through_procedure t n name params result m decls body end_name =
    let g : Frame = inner_frame t.scene t.next n params result m decls body in
    rw (body_quiet g body)
    (block_gathered t g name t.scene.routine (end_name.token - 1) (1 + decls_routines decls) (decls_routines decls)
    (judge_bodies g.scene (t.next + 1) decls) body (judge_body g body) (broken_at end_name.node (end_rules t.scene name end_name))
    (omega arith))

-- ---- the routine of a block

masked_block : (f b o : Option BrokenRule) (v v' u : Option (List ir.Routine)) (j : Judgement ir.Stmts)
    (routine : ℕ → ir.Stmts → ir.Routine)
    → unless_broken o v' ≡ unless_broken o (joined_lists v (option_map (λ (x : ir.Stmts). routine j.next x ∷ []) j.value))
    → unless_broken (better f (better b o)) (joined_lists (unless_broken f v)
    (option_map (λ (p : List ir.Routine × ir.Stmts). routine j.next p.1 ∷ p.0) (both_of u j.value)))
    ≡ unless_broken (better (better f b) o) (unless_broken (better f b) (joined_lists (unless_broken f v') u))
masked_block (Some x) b o v v' u j routine e = refl
masked_block None (Some y) o v v' u j routine e = refl
masked_block None None (Some z) v v' u j routine e = refl
masked_block None None None v v' u j routine e = rw e (by v u j.value)
  where
    by : (v u : Option (List ir.Routine)) (w : Option ir.Stmts)
        → joined_lists v (option_map (λ (p : List ir.Routine × ir.Stmts). routine j.next p.1 ∷ p.0) (both_of u w))
        ≡ joined_lists (joined_lists v (option_map (λ (x : ir.Stmts). routine j.next x ∷ []) w)) u
    by None u w = refl
    by (Some xs) None None = refl
    by (Some xs) None (Some w) = refl
    by (Some xs) (Some rs) None = refl
    by (Some xs) (Some rs) (Some w) = ap Some (sym (append_assoc xs (routine j.next w ∷ []) rs))

pub block_by : (x o : Option BrokenRule) (v v' : Option (List ir.Routine)) (n : ℕ) (s : Scene) (f : Frame) (name : tree.Name)
    (outer end : ℕ)
    (decls : tree.DeclTail) (body : Option tree.Stmts)
    → f.faults ≡ [] → least (judge_body f body).faults ≡ first (judge_body f body).faults
    → Adds (judge_body f body) (λ slots b. routine_of f name outer slots (body_lines f.scene end body) b) o v v'
    → through_block (stage x v n s) f name outer end decls body ≡ with_fault (through_decls (stage x v' n s) decls) o
block_by x o v v' n s f name outer end decls body q l a =
    let i : RoutineBodies = judge_bodies s n decls in
    let j : Judgement ir.Stmts = judge_body f body in
    let e : least (f.faults ++ i.faults ++ j.faults) ≡ better (least i.faults) o =
    ap (λ (fs : List BrokenRule). least (fs ++ i.faults ++ j.faults)) q ∙ leasts.least_joined i.faults j.faults
    ∙ ap (better (least i.faults)) (l ∙ sym a.broken) in
    stage_as _ _ _ _ _ _ _ _ (ap (better x) e ∙ better_assoc x (least i.faults) o)
    (ap (λ y. unless_broken (better x y) (joined_lists (unless_broken x v)
    (option_map (cons_routine f name outer j.next (body_lines f.scene end body)) (both_of i.value j.value)))) e
    ∙ masked_block x (least i.faults) o v v' i.value j (λ slots b. routine_of f name outer slots (body_lines f.scene end body) b) a.added)
    refl refl

-- ---- the first rule that is broken is the least

pub body_first : (f : Frame) (body : Option tree.Stmts) → IsRisingBody body
    → least (judge_body f body).faults ≡ first (judge_body f body).faults
body_first f None h = refl
body_first f (Some body) h = leasts.first_least _ _ (judge_stmts f.scene f.slots body).faults
    (stmts_in f.scene f.slots h.low h.high body h.rise)

pub decls_first : (f : Frame) (r : ℕ) (decls : tree.DeclTail) → f.faults ≡ [] → AreRising decls
    → least (read_decls f r decls).faults ≡ first (read_decls f r decls).faults
decls_first f r decls e h =
    leasts.first_least _ _ (read_decls f r decls).faults
    (decls_in h.low h.low h.high f r decls (subst (λ fs. Within h.low h.low fs) (sym e) (none h.low h.low (omega arith))) h.rise)

-- ---- the numbers of a tree

pub rising_rest : (d : tree.Decl) (rest : tree.DeclTail) → AreRising (tree.more_decl d rest) → AreRising rest
unfolding rise_block
rising_rest d rest h = record { low = h.rise.0; high = h.high; rise = h.rise.2 }

-- a block
pub record IsRisingBlock (m : ℕ) (decls : tree.DeclTail) (body : Option tree.Stmts) : Type 0 where
  pub in_decls : AreRising decls
  pub in_body : IsRisingBody body

rising_block : (m lo hi : ℕ) (decls : tree.DeclTail) (body : Option tree.Stmts) → rise_block (tree.block m decls body) lo hi
    → IsRisingBlock m decls body
unfolding rise_block
rising_block m lo hi decls body h = record {
  in_decls = record { low = lo; high = h.0.0; rise = h.0.1 };
  in_body =
      record { low = h.0.0; high = m; rise = h.0.2 };
}

pub rising_procedure : (n : ℕ) (name : tree.Name) (params : Option tree.Params) (result : Option tree.Name) (m : ℕ) (decls : tree.DeclTail)
    (body : Option tree.Stmts) (end_name : tree.Name) (rest : tree.DeclTail)
    → AreRising (tree.more_decl (tree.procedure n name params result (tree.block m decls body) end_name) rest) → IsRisingBlock m decls body
unfolding rise_block
rising_procedure n name params result m decls body end_name rest h = rising_block m _ _ decls body h.rise.1.0.2.2.2.1

pub rising_module : (x : tree.Module) (m : ℕ) (decls : tree.DeclTail) (body : Option tree.Stmts) → x.block ≡ tree.block m decls body
    → IsRising x → IsRisingBlock m decls body
rising_module x m decls body e h = rising_block m h.1.0.0 h.1.0.2.0 decls body (subst (λ b. rise_block b h.1.0.0 h.1.0.2.0) e h.1.0.2.1)
