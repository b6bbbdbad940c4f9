-- All declarations of a block keep its scene: each heading that is read is that of its routine in the program.
use Rattle.std.proofs.Common.{◌≡◌, ◌≢◌, ◌⊎◌, inl, inr, ℕ, ◌+◌, ◌<◌, ◌≤◌, true, false, List, [], ◌++◌, length, get_or, set, Option, None}
use Rattle.std.proofs.Common.{Some, refl, sym, ap, ◌∙◌, subst, arith}
use Rattle.std.specs.Prelude.{nat_eq, sum_by, IsSome, IsNone}
use Rattle.std.specs.List.{AllByRecursion}
use Rattle.std.proofs.lemmas.Bool.Decides.{eqb_tells}
use Rattle.std.proofs.lemmas.List.{get_or-set_same, get_or-set_other}
use Rattle.alma_names.specs.declared.block.Entry.{Entry}
use Rattle.alma_names.specs.declared.block.Entry.TheVariants as entry
use Rattle.alma_names.specs.Shapes.{PlainShape}
use Rattle.alma_base.specs.Limits.{cell_limit}
use Rattle.alma_ir.specs.Tree.{Program, Routine, routine_at}
use Rattle.alma_rules.specs.Numbered as tree
use Rattle.alma_rules.specs.Scene.{Scene, Heading, nothing}
use Rattle.alma_rules.specs.Decls.{Frame, decls_names, decls_routines, decl_routines, formal_names, formals_of, read_heading, heading_in}
use Rattle.alma_rules.specs.Decls.{read_decl, read_decls}
use Rattle.alma_rules.specs.Modules.{with_shapes}
use Rattle.alma_rules.proofs.Sound.{nil_right}
use Rattle.alma_resolved.specs.Stand.{formal_types, result_types, DeclsStand, DeclStands}
use Rattle.alma_resolved.specs.Fits.{Place}
use Rattle.alma_resolved.proofs.Lookups.{Each, NotBad, HeadingThere, each_follows_from, plain_not_bad}
use Rattle.alma_resolved.proofs.Later.{Outer}
use Rattle.alma_resolved.proofs.HeadsSound.{HeadSound, head_sound}
use Rattle.alma_resolved.proofs.DeclsSound.{Moved, moved_each, moved_outer, moved_twice, moved_headings, block_each, from_zero, DeclsRead}
use Rattle.alma_resolved.proofs.DeclsSound.{decls_read}
use Rattle.alma_resolved.proofs.Slots.{decls_steps}
use Rattle.alma_resolved.proofs.Entries.{cells_declared, EntryKeeps, FormalsKeep, ResultKeeps, HeadKeeps, HeadsKeep, SceneKeeps, Longer}
use Rattle.alma_resolved.proofs.Entries.{longer_twice}
use Rattle.alma_resolved.proofs.FramesKeep.{FrameKeeps, frame_scene, consts_keep, types_keep, vars_keep}
use Rattle.alma_resolved.proofs.Quiet.{decls_quiet}
use Rattle.alma_resolved.proofs.HeadCells.{head_small}
use Rattle.alma_resolved.proofs.HeadsKeep.{NamedKeeps, HeadPlain, ResultMade, head_made, head_params_later, head_plain_later}

-- ---- routines of the program and their headings

-- a routine has a result where its heading has
abbrev pub ResultGiven : Option tree.Name → Routine → Type 0
ResultGiven None x = IsNone x.result
ResultGiven (Some name) x = IsSome x.result

-- the routine of a procedure has the parameters that its heading makes in the scene of all declarations, with shapes of bodies before it
pub record HeadGiven (p : Program) (s : Scene) (r n : ℕ) (params : Option tree.Params) (result : Option tree.Name) (b : tree.Block) : Type 0
  where
    pub shapes : List PlainShape
    pub long : Longer s (with_shapes s shapes)
    pub params_given : (routine_at p r).params ≡ (read_heading (with_shapes s shapes) r n params result b).frame.params
    pub result_given : ResultGiven result (routine_at p r)

abbrev pub ProcGiven : Program → Scene → ℕ → tree.Decl → Type 0
ProcGiven p s r (tree.const_decl n xs) = Unit {0}
ProcGiven p s r (tree.type_decl n xs) = Unit {0}
ProcGiven p s r (tree.var_decl n xs) = Unit {0}
ProcGiven p s r (tree.procedure n name params result b end_name) = HeadGiven p s r n params result b

abbrev pub ProcsGiven : Program → Scene → ℕ → tree.DeclTail → Type 0
ProcsGiven p s r tree.no_decl = Unit {0}
ProcsGiven p s r (tree.more_decl d rest) = ProcGiven p s r d × ProcsGiven p s (r + decl_routines d) rest

-- the result of a heading is simple in the scene of all declarations, with any shapes behind
abbrev pub ProcPlain : Scene → ℕ → tree.Decl → Type 0
ProcPlain s r (tree.const_decl n xs) = Unit {0}
ProcPlain s r (tree.type_decl n xs) = Unit {0}
ProcPlain s r (tree.var_decl n xs) = Unit {0}
ProcPlain s r (tree.procedure n name params result b end_name) = (u : List PlainShape) → Longer s (with_shapes s u)
    → HeadPlain (with_shapes s u) r params result b

abbrev pub ProcsPlain : Scene → ℕ → tree.DeclTail → Type 0
ProcsPlain s r tree.no_decl = Unit {0}
ProcsPlain s r (tree.more_decl d rest) = ProcPlain s r d × ProcsPlain s (r + decl_routines d) rest

result_keeps : (t : List PlainShape) (name : Option tree.Name) (o : Option ℕ) (x : Routine) → ResultMade t name o → ResultGiven name x
    → ResultKeeps t o x
result_keeps t None o x m g = subst (λ y. ResultKeeps t y x) (sym m) g
result_keeps t (Some name) o x m g = subst (λ y. ResultKeeps t y x) (sym m.1) (g, m.2)

-- ---- scenes that move

pub longer_moved : {lo : ℕ} {s t : Scene} → Moved lo s t → Longer s t
longer_moved {lo} {s} {t} m = record { tail = m.shapes; is = ap (λ (x : Scene). x.shapes) m.is }

pub outer_shapes : {lo : ℕ} {s t : Scene} (u : List PlainShape) → Outer lo s t → Outer lo s (with_shapes t u)
outer_shapes u h = record { tokens = h.tokens; below = h.below; top = h.top }

named_of : (k : Place) (c : ℕ) (t : List PlainShape) (n : ℕ) (e : Entry) → EntryKeeps k c t n e → NamedKeeps t n e
named_of k c t n (entry.Constant shape v) h = tt
named_of k c t n (entry.Named shape) h = h
named_of k c t n (entry.Variable shape a) h = tt
named_of k c t n (entry.Routine q) h = tt
named_of k c t n entry.Bad h = tt

pub keeps_named : {k : Place} {c : ℕ} {s : Scene} → SceneKeeps k c s → Each (NamedKeeps s.shapes) s
keeps_named {k} {c} {s} h = each_follows_from (EntryKeeps k c s.shapes) (NamedKeeps s.shapes) (named_of k c s.shapes) 0 s.blocks.below
    s.blocks.top h.entries

-- ---- one heading

heading_some : (o : Option Heading) → HeadingThere o → (h : Heading) × (o ≡ Some h)
heading_some None t = absurd t
heading_some (Some h) t = (h, refl)

heads_with : (p : Program) (s : Scene) (r : ℕ) (o : Option Heading) → r < length s.headings → HeadsKeep p s
    → ((h : Heading) → o ≡ Some h → HeadKeeps p s.shapes r h) → HeadsKeep p (record s { headings = set s.headings r o })
heads_with p s r o room hs f q h e = by (eqb_tells q r)
  where
    by : ((nat_eq q r ≡ true) × (q ≡ r)) ⊎ ((nat_eq q r ≡ false) × (q ≢ r)) → HeadKeeps p s.shapes q h
    by (inl i) =
        let here : get_or (set s.headings r o) r None ≡ Some h = subst (λ j. get_or (set s.headings r o) j None ≡ Some h) i.1 e in
        subst (λ j. HeadKeeps p s.shapes j h) (sym i.1) (f h (sym (get_or-set_same s.headings r o None room) ∙ here))
    by (inr i) = hs q h (sym (get_or-set_other s.headings r q o None i.1) ∙ e)

-- the procedure that is read in scene s, whose declarations end in scene t
record HeadOnward (k : Place) (c : ℕ) (f : Frame) (t : Scene) (r n : ℕ) (params : Option tree.Params) (result : Option tree.Name)
    (b : tree.Block) : Type 0 where
  scene : SceneKeeps k c (record f.scene { headings = set f.scene.headings r (read_heading f.scene r n params result b).heading })
  plain : (u : List PlainShape) → Longer t (with_shapes t u) → HeadPlain (with_shapes t u) r params result b

head_onward : (k : Place) (c : ℕ) (f : Frame) (t : Scene) (lo r n : ℕ) (params : Option tree.Params) (result : Option tree.Name)
    (b : tree.Block) → SceneKeeps k c f.scene → r < length f.scene.headings
    → Outer lo f.scene t → Longer f.scene t → AllByRecursion (λ x. x.token < lo) (formal_types (formals_of params) ++ result_types result)
    → HeadingThere (read_heading f.scene r n params result b).heading → HeadGiven k.program t r n params result b
    → HeadOnward k c f t r n params result b
head_onward k c f t lo r n params result b h room outer long before there given =
    let some = heading_some (read_heading f.scene r n params result b).heading there in
    let m = head_made f.scene r n params result b some.0 h.table (keeps_named h) some.1 in
    record {
      scene = record {
        table = h.table;
        deep = h.deep;
        entries = h.entries;
        heads = heads_with k.program f.scene r (read_heading f.scene r n params result b).heading room h.heads one;
      };
      plain = λ u l. head_plain_later lo f.scene (with_shapes t u) r params result b (outer_shapes u outer) (longer_twice long l)
          (keeps_named h) before m.all m.plain;
    }
  where
    one : (x : Heading) → (read_heading f.scene r n params result b).heading ≡ Some x → HeadKeeps k.program f.scene.shapes r x
    one x e =
        let m = head_made f.scene r n params result b x h.table (keeps_named h) e in
        let late = head_params_later lo f.scene (with_shapes t given.shapes) r n params result b (outer_shapes given.shapes outer)
        (longer_twice long given.long) (keeps_named h) before m.all in
        record {
          formals = subst (λ qs. FormalsKeep f.scene.shapes x.formals qs) (sym (given.params_given ∙ late)) m.formals;
          result = result_keeps f.scene.shapes result x.result (routine_at k.program r) m.result_made given.result_given;
          small = subst (λ qs. sum_by cells_declared qs ≤ cell_limit) (sym (given.params_given ∙ late))
              (head_small f.scene r n params result b);
        }

-- ---- all declarations

stands_alone : (d : tree.Decl) (names : List tree.Name) → DeclStands d names → DeclsStand (tree.more_decl d tree.no_decl)
unfolding DeclsStand
stands_alone (tree.const_decl n xs) names h = (tt, tt)
stands_alone (tree.type_decl n xs) names h = (tt, tt)
stands_alone (tree.var_decl n xs) names h = (tt, tt)
stands_alone (tree.procedure n name params result b end_name) names h = (((h.0.0, h.0.1, tt), h.1), tt)

pub record DeclsKeep (k : Place) (c r : ℕ) (x : tree.DeclTail) (g : Frame) : Type 0 where
  pub frame : FrameKeeps k c g
  pub plain : ProcsPlain g.scene r x

record DeclKeeps (k : Place) (c r : ℕ) (d : tree.Decl) (g : Frame) (t : Scene) : Type 0 where
  frame : FrameKeeps k c g
  plain : ProcPlain t r d

decl_keeps : (k : Place) (c : ℕ) (f : Frame) (t : Scene) (r : ℕ) (d : tree.Decl) (rest : tree.DeclTail) → (read_decl f r d).faults ≡ []
    → Each NotBad f.scene → DeclStands d (decls_names rest)
    → r + decl_routines d ≤ length f.scene.headings → (read_decl f r d).slots ≤ k.ends k.number → FrameKeeps k c f
    → ProcGiven k.program t r d → DeclsRead (read_decl f r d) (r + decl_routines d) rest
    (read_decls (read_decl f r d) (r + decl_routines d) rest)
    → t ≡ (read_decls (read_decl f r d) (r + decl_routines d) rest).scene → DeclKeeps k c r d (read_decl f r d) t
unfolding DeclsStand decls_routines
decl_keeps k c f t r (tree.const_decl n xs) rest e h stand room le frame given more same =
    record { frame = consts_keep k c f xs frame; plain = tt }
decl_keeps k c f t r (tree.type_decl n xs) rest e h stand room le frame given more same =
    record { frame = types_keep k c f xs frame; plain = tt }
decl_keeps k c f t r (tree.var_decl n xs) rest e h stand room le frame given more same =
    record { frame = vars_keep k c f xs e frame le; plain = tt }
decl_keeps k c f t r (tree.procedure n name params result b end_name) rest e h stand room le frame given more same =
    let below : r < length f.scene.headings = omega (arith, room) in
    let rise : f.slots ≤ (heading_in f r name (read_heading f.scene r n params result b)).slots = omega arith in
    let sound : HeadSound f.scene r n params result b =
    head_sound f.scene r n params result b (block_each NotBad f.scene r nothing (formal_names (formals_of params)) b h (λ q i m. tt))
    (nil_right _ _ e) in
    let moved = moved_twice (moved_headings stand.0.0 f.scene (set f.scene.headings r (read_heading f.scene r n params result b).heading))
    (more.moved stand.0.0 stand.0.2) in
    let outer : Outer stand.0.0 f.scene t = subst (λ x. Outer stand.0.0 f.scene x) (sym same) (moved_outer moved) in
    let long : Longer f.scene t = subst (λ x. Longer f.scene x) (sym same) (longer_moved moved) in
    let g : HeadOnward k c f t r n params result b =
    head_onward k c f t stand.0.0 r n params result b frame.scene below outer long stand.0.1 sound.0 given in
    record { frame = frame_scene (heading_in f r name (read_heading f.scene r n params result b)) frame rise g.scene; plain = g.plain }

pub decls_keep : (k : Place) (c : ℕ) (f : Frame) (r : ℕ) (x : tree.DeclTail) → (read_decls f r x).faults ≡ [] → Each NotBad f.scene
    → DeclsStand x → r + decls_routines x ≤ length f.scene.headings
    → (read_decls f r x).slots ≤ k.ends k.number → FrameKeeps k c f → ProcsGiven k.program (read_decls f r x).scene r x
    → DeclsKeep k c r x (read_decls f r x)
unfolding DeclsStand decls_routines
decls_keep k c f r tree.no_decl e h stand room le frame given = record { frame = frame; plain = tt }
decls_keep k c f r (tree.more_decl d rest) e h stand room le frame given =
    let q = decls_quiet (read_decl f r d) (r + decl_routines d) rest e in
    let one = decls_read f r (tree.more_decl d tree.no_decl) q h (stands_alone d (decls_names rest) stand.0) (omega (arith, room)) in
    let next : Each NotBad (read_decl f r d).scene =
    moved_each NotBad plain_not_bad (one.moved 0 (from_zero (decls_names (tree.more_decl d tree.no_decl)))) h in
    let room_left : r + decl_routines d + decls_routines rest ≤ length (read_decl f r d).scene.headings = omega (arith, room, one.long) in
    let more = decls_read (read_decl f r d) (r + decl_routines d) rest e next stand.1 room_left in
    let up : (read_decl f r d).slots ≤ (read_decls (read_decl f r d) (r + decl_routines d) rest).slots =
    (decls_steps (read_decl f r d) (r + decl_routines d) rest).le in
    let here = decl_keeps k c f (read_decls (read_decl f r d) (r + decl_routines d) rest).scene r d rest q h stand.0 (omega (arith, room))
    (omega (arith, up, le)) frame given.0 more refl in
    let behind = decls_keep k c (read_decl f r d) (r + decl_routines d) rest e next stand.1 room_left le here.frame given.1 in
    record { frame = behind.frame; plain = (here.plain, behind.plain) }
