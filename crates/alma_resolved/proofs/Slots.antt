-- The slots of a frame: parameters first, in order, and then variables.
use Rattle.std.proofs.Common.{◌≡◌, ℕ, zero, suc, ◌+◌, ◌<◌, ◌≤◌, Bool, true, false, List, [], ◌∷◌, ◌++◌, length, get_or, Option, None, Some}
use Rattle.std.proofs.Common.{refl, sym, ap, ◌∙◌, arith}
use Rattle.std.specs.Prelude.{not, is_some, slice_get, option_and_then, sum_by}
use Rattle.std.specs.List.{AllByRecursion}
use Rattle.std.proofs.lemmas.List.{length-append, get_or_append_left}
use Rattle.std.proofs.lemmas.List.Sums.{sum_by-cons}
use Rattle.alma_base.specs.Choice.{if_true}
use Rattle.alma_tree.specs.declared.leaf.Mode.{Mode}
use Rattle.alma_tree.specs.declared.leaf.Mode.TheVariants as modes
use Rattle.alma_names.specs.Shapes.{PlainShape, integer, char, boolean, listed, sub, row, fields, range_of, range_at, cells_in, cell_counts}
use Rattle.alma_names.specs.Shapes.{cell_counts_from}
use Rattle.alma_ir.specs.declared.program.ArgKind.{ArgKind}
use Rattle.alma_ir.specs.declared.program.ArgKind.TheVariants as kinds
use Rattle.alma_ir.specs.declared.program.Param.{Param}
use Rattle.alma_ir.specs.Checked.{slots_of_kind, param_slots, AreLaidOut, HasOneCellAs}
use Rattle.alma_ir.proofs.Each.{each_of_append}
use Rattle.alma_rules.specs.Numbered as tree
use Rattle.alma_rules.specs.Judgement.{broken_at}
use Rattle.alma_rules.specs.Scene.{Scene, cells, range, is_structured, is_first}
use Rattle.alma_rules.specs.Types.{redeclaration_rules, read_type_name, read_type, read_constant, all_names, last_token}
use Rattle.alma_rules.specs.Places.{width, mark_type}
use Rattle.alma_rules.specs.Decls.{Frame, with_faults, with_scene, within_limit, param_kind, declared_cells, with_param, param_in}
use Rattle.alma_rules.specs.Decls.{params_in}
use Rattle.alma_rules.specs.Decls.{formal_in, read_formals, constant_in, read_consts, type_in, read_types, with_variable, variable_in}
use Rattle.alma_rules.specs.Decls.{variables_in, variables_of, read_vars, read_heading, read_decl, read_decls, decl_routines}
use Rattle.alma_rules.specs.Decls as decls
use Rattle.alma_rules.proofs.Limited.{limited_case}

-- ---- simple shapes have one cell

counts_keep : (a : List PlainShape) (cs : List ℕ) (t : List PlainShape) (j : ℕ) → j < length cs
    → get_or (cell_counts_from a cs t) j 0 ≡ get_or cs j 0
counts_keep a cs [] j lt = refl
counts_keep a cs (s ∷ t) j lt =
    counts_keep (a ++ s ∷ []) (cs ++ cells_in a cs s ∷ []) t j (omega (arith, lt, length-append cs (cells_in a cs s ∷ [])))
    ∙ get_or_append_left cs (cells_in a cs s ∷ []) 0 j lt

last_of : (cs : List ℕ) (n : ℕ) → get_or (cs ++ n ∷ []) (length cs) 0 ≡ n
last_of [] n = refl
last_of (c ∷ cs) n = last_of cs n

simple_one : (a : List PlainShape) (cs : List ℕ) (s : PlainShape) → is_some (range_of s) ≡ true → cells_in a cs s ≡ 1
simple_one a cs integer h = refl
simple_one a cs char h = refl
simple_one a cs boolean h = refl
simple_one a cs (listed n) h = refl
simple_one a cs (sub b r) h = refl
simple_one a cs (row i e) h = absurd (let bad : false ≡ true = h in cc)
simple_one a cs (fields fs) h = absurd (let bad : false ≡ true = h in cc)

counts_one : (a : List PlainShape) (cs : List ℕ) (t : List PlainShape) (i : ℕ) → is_some (option_and_then range_of (slice_get t i)) ≡ true
    → get_or (cell_counts_from a cs t) (length cs + i) 0 ≡ 1
counts_one a cs [] i h = absurd (let bad : false ≡ true = h in cc)
counts_one a cs (s ∷ t) zero h =
    let here : length cs + 0 ≡ length cs = omega arith in
    ap (λ j. get_or (cell_counts_from (a ++ s ∷ []) (cs ++ cells_in a cs s ∷ []) t) j 0) here
    ∙ (counts_keep (a ++ s ∷ []) (cs ++ cells_in a cs s ∷ []) t (length cs) (omega (arith, length-append cs (cells_in a cs s ∷ [])))
    ∙ (last_of cs (cells_in a cs s) ∙ simple_one a cs s h))
counts_one a cs (s ∷ t) (suc i) h =
    let next : length cs + suc i ≡ length (cs ++ cells_in a cs s ∷ []) + i = omega (arith, length-append cs (cells_in a cs s ∷ [])) in
    ap (λ j. get_or (cell_counts_from (a ++ s ∷ []) (cs ++ cells_in a cs s ∷ []) t) j 0) next
    ∙ counts_one (a ++ s ∷ []) (cs ++ cells_in a cs s ∷ []) t i h

not_false : (b : Bool) → not b ≡ false → b ≡ true
not_false true h = refl
not_false false h = absurd (let bad : true ≡ false = h in cc)

pub simple_cells : (s : Scene) (shape : ℕ) → is_structured s shape ≡ false → cells s shape ≡ 1
unfolding cell_counts
simple_cells s shape h =
    let zero_on : 0 + shape ≡ shape = omega arith in
    sym (ap (λ j. get_or (cell_counts_from [] [] s.shapes) j 0) zero_on)
    ∙ counts_one [] [] s.shapes shape (not_false (is_some (range_at s.shapes shape)) h)

-- ---- parameters

-- the parameters take the slots of the frame so far
pub record ParamsLaid (f : Frame) : Type 0 where
  pub laid : AreLaidOut 0 f.params
  pub sum : sum_by param_slots f.params ≡ f.slots
  pub cells : AllByRecursion (λ q. HasOneCellAs q.kind q.cells) f.params
  pub declared : f.declared ≤ f.slots

laid_more : (n : ℕ) (ps : List Param) (q : Param) → AreLaidOut n ps → q.slot ≡ n + sum_by param_slots ps → AreLaidOut n (ps ++ q ∷ [])
laid_more n [] q h e = (omega (arith, e), tt)
laid_more n (p ∷ ps) q h e = (h.0, laid_more (n + param_slots p) ps q h.1 (omega (arith, e, sum_by-cons param_slots p ps)))

sum_more : (ps : List Param) (q : Param) → sum_by param_slots (ps ++ q ∷ []) ≡ sum_by param_slots ps + param_slots q
sum_more [] q = omega (arith, sum_by-cons param_slots q [])
sum_more (p ∷ ps) q = omega (arith, sum_by-cons param_slots p (ps ++ q ∷ []), sum_by-cons param_slots p ps, sum_more ps q)

same_slots : (k : ArgKind) (n : ℕ) → decls.param_slots k n ≡ slots_of_kind k n
same_slots kinds.Value n = refl
same_slots kinds.Place n = refl
same_slots kinds.Mix n = refl
same_slots kinds.Cells n = refl

one_cell : (b : Bool) (mode : Option Mode) (n : ℕ) → (b ≡ false → n ≡ 1) → HasOneCellAs (param_kind b mode) n
one_cell false None n h = h refl
one_cell true None n h = tt
one_cell false (Some modes.Var) n h = tt
one_cell true (Some modes.Var) n h = tt
one_cell false (Some modes.Mix) n h = h refl
one_cell true (Some modes.Mix) n h = tt

cells_fit : (b : Bool) (mode : Option Mode) (n : ℕ) → (b ≡ false → n ≡ 1) → declared_cells mode n ≤ decls.param_slots (param_kind b mode) n
cells_fit false None n h = omega (arith, h refl)
cells_fit true None n h = omega arith
cells_fit false (Some modes.Var) n h = omega arith
cells_fit true (Some modes.Var) n h = omega arith
cells_fit false (Some modes.Mix) n h = omega arith
cells_fit true (Some modes.Mix) n h = omega arith

param_laid : (f : Frame) (from : ℕ) (mode : Option Mode) (o : Option ℕ) (name : tree.Name) → ParamsLaid f
    → ParamsLaid (param_in f from mode o name)
param_laid f from mode None name h = record { laid = h.laid; sum = h.sum; cells = h.cells; declared = h.declared }
param_laid f from mode (Some shape) name h = by (is_first f.scene name)
  where
    taken : ParamsLaid (decls.with_formal (with_param f name from mode shape (param_kind (is_structured f.scene shape) mode))
        (Some (record { mode = mode; shape = shape })))
    taken = record {
      laid = laid_more 0 f.params (record {
        kind = param_kind (is_structured f.scene shape) mode;
        slot = f.slots;
        cells = cells f.scene shape;
        range =
            range f.scene shape;
      }) h.laid (omega (arith, h.sum));
      sum = sum_more f.params (record {
        kind = param_kind (is_structured f.scene shape) mode;
        slot = f.slots;
        cells = cells f.scene shape;
        range =
            range f.scene shape;
      })
          ∙ (ap (λ n. n + slots_of_kind (param_kind (is_structured f.scene shape) mode) (cells f.scene shape)) h.sum
          ∙ ap (λ n. f.slots + n) (sym (same_slots (param_kind (is_structured f.scene shape) mode) (cells f.scene shape))));
      cells = each_of_append (λ x. HasOneCellAs x.kind x.cells) f.params
          (record {
            kind = param_kind (is_structured f.scene shape) mode;
            slot = f.slots;
            cells = cells f.scene shape;
            range =
                range f.scene shape;
          } ∷ []) h.cells
          (one_cell (is_structured f.scene shape) mode (cells f.scene shape) (simple_cells f.scene shape), tt);
      declared = let c : declared_cells mode (cells f.scene shape) ≤ decls.param_slots (param_kind (is_structured f.scene shape) mode)
          (cells f.scene shape) = cells_fit (is_structured f.scene shape) mode (cells f.scene shape) (simple_cells f.scene shape) in
          omega (arith, h.declared, c);
    }

    by : (c : Bool) → ParamsLaid (decls.with_formal
        (if_true c (λ u. within_limit name f (with_param f name from mode shape (param_kind (is_structured f.scene shape) mode)))
        (λ u. with_faults f (broken_at name.node (redeclaration_rules f.scene name)))) (Some (record { mode = mode; shape = shape })))
    by true = limited_case (λ x. ParamsLaid (decls.with_formal x (Some (record { mode = mode; shape = shape })))) name f
        (with_param f name from mode shape (param_kind (is_structured f.scene shape) mode)) (λ le. taken)
        (record { laid = h.laid; sum = h.sum; cells = h.cells; declared = h.declared })
    by false = record { laid = h.laid; sum = h.sum; cells = h.cells; declared = h.declared }

params_laid : (f : Frame) (from : ℕ) (mode : Option Mode) (o : Option ℕ) (xs : List tree.Name) → ParamsLaid f
    → ParamsLaid (params_in f from mode o xs)
params_laid f from mode o [] h = h
params_laid f from mode o (x ∷ xs) h = params_laid (param_in f from mode o x) from mode o xs (param_laid f from mode o x h)

faults_laid : (f : Frame) (fs : List Rattle.alma_rules.specs.Judgement.BrokenRule) → ParamsLaid f → ParamsLaid (with_faults f fs)
faults_laid f fs h = record { laid = h.laid; sum = h.sum; cells = h.cells; declared = h.declared }

formals_laid : (f : Frame) (xs : List tree.Formal) → ParamsLaid f → ParamsLaid (read_formals f xs)
formals_laid f [] h = h
formals_laid f (x ∷ xs) h =
    formals_laid (formal_in f x (read_type_name f.scene x.type_name)) xs
    (faults_laid _ _ (params_laid f (x.type_name.token + 1) x.mode (read_type_name f.scene x.type_name).value (all_names x.names) h))

pub head_laid : (s : Scene) (r n : ℕ) (params : Option tree.Params) (result : Option tree.Name) (b : tree.Block)
    → ParamsLaid (read_heading s r n params result b).frame
head_laid s r n params result b = by (decls.too_deep s)
    (headed_laid (read_formals (decls.new_frame
    (decls.with_block s r Rattle.alma_rules.specs.Scene.nothing (decls.formal_names (decls.formals_of params)) b) 0)
    (decls.formals_of params)) result
    (formals_laid _ (decls.formals_of params) (record { laid = tt; sum = refl; cells = tt; declared = omega arith })))
  where
    headed_laid : (f : Frame) (o : Option tree.Name) → ParamsLaid f → ParamsLaid (decls.heading_at f o).frame
    headed_laid f None h = record { laid = h.laid; sum = h.sum; cells = h.cells; declared = h.declared }
    headed_laid f (Some name) h = record { laid = h.laid; sum = h.sum; cells = h.cells; declared = h.declared }

    by : (d : List Rattle.alma_base.specs.declared.fault.CheckFault.CheckFault)
        → ParamsLaid (decls.heading_at (read_formals
        (decls.new_frame (decls.with_block s r Rattle.alma_rules.specs.Scene.nothing (decls.formal_names (decls.formals_of params)) b) 0)
        (decls.formals_of params)) result).frame
        → ParamsLaid (decls.with_depth d n (decls.heading_at
        (read_formals (decls.new_frame (decls.with_block s r Rattle.alma_rules.specs.Scene.nothing
        (decls.formal_names (decls.formals_of params)) b) 0) (decls.formals_of params)) result)).frame
    by [] h = h
    by (x ∷ xs) h = record { laid = h.laid; sum = h.sum; cells = h.cells; declared = h.declared }

-- ---- variables

-- more slots and declared cells, as many, and the same parameters
pub record Steps (f g : Frame) : Type 0 where
  pub params : g.params ≡ f.params
  pub le : f.slots ≤ g.slots
  pub same : g.slots + f.declared ≡ f.slots + g.declared

steps_same : (f g : Frame) → g.params ≡ f.params → g.slots ≡ f.slots → g.declared ≡ f.declared → Steps f g
steps_same f g p s d = record { params = p; le = omega (arith, s); same = omega (arith, s, d) }

steps_twice : {f g h : Frame} → Steps f g → Steps g h → Steps f h
steps_twice {f} {g} {h} a b = record { params = b.params ∙ a.params; le = omega (arith, a.le, b.le); same = omega (arith, a.same, b.same) }

consts_steps : (f : Frame) (xs : List tree.ConstEntry) → Steps f (read_consts f xs)
consts_steps f [] = steps_same f f refl refl refl
consts_steps f (x ∷ xs) = steps_twice (steps_same f (constant_in f x (read_constant f.scene x.value)) refl refl refl)
    (consts_steps (constant_in f x (read_constant f.scene x.value)) xs)

types_steps : (f : Frame) (xs : List tree.TypeEntry) → Steps f (read_types f xs)
types_steps f [] = steps_same f f refl refl refl
types_steps f (x ∷ xs) = steps_twice (steps_same f (type_in f x (read_type f.scene x.type_node)) refl refl refl)
    (types_steps (type_in f x (read_type f.scene x.type_node)) xs)

variable_steps : (f : Frame) (from : ℕ) (o : Option ℕ) (name : tree.Name) → Steps f (variable_in f from o name)
variable_steps f from None name = steps_same f _ refl refl refl
variable_steps f from (Some shape) name = by (is_first f.scene name)
  where
    by : (c : Bool) → Steps f (if_true c (λ u. within_limit name f (with_variable f name from shape))
        (λ u. with_faults f (broken_at name.node (redeclaration_rules f.scene name))))
    by true = limited_case (λ x. Steps f x) name f (with_variable f name from shape)
        (λ le. record { params = refl; le = omega arith; same = omega arith }) (steps_same f _ refl refl refl)
    by false = steps_same f _ refl refl refl

variables_steps : (f : Frame) (from : ℕ) (o : Option ℕ) (xs : List tree.Name) → Steps f (variables_in f from o xs)
variables_steps f from o [] = steps_same f f refl refl refl
variables_steps f from o (x ∷ xs) = steps_twice (variable_steps f from o x) (variables_steps (variable_in f from o x) from o xs)

vars_steps : (f : Frame) (xs : List tree.VarEntry) → Steps f (read_vars f xs)
vars_steps f [] = steps_same f f refl refl refl
vars_steps f (x ∷ xs) =
    let v = variables_steps (with_scene f (read_type f.scene x.type_node).scene)
    (last_token x.names.first x.names.more + 3 + width (mark_type x.type_node)) (read_type f.scene x.type_node).value
    (all_names x.names) in
    let one : Steps f (variables_of f x (read_type f.scene x.type_node)) = record { params = v.params; le = v.le; same = v.same } in
    steps_twice one (vars_steps (variables_of f x (read_type f.scene x.type_node)) xs)

decl_steps : (f : Frame) (r : ℕ) (d : tree.Decl) → Steps f (read_decl f r d)
decl_steps f r (tree.const_decl n xs) = consts_steps f xs
decl_steps f r (tree.type_decl n xs) = types_steps f xs
decl_steps f r (tree.var_decl n xs) = vars_steps f xs
decl_steps f r (tree.procedure n name params result b end_name) = steps_same f _ refl refl refl

pub decls_steps : (f : Frame) (r : ℕ) (x : tree.DeclTail) → Steps f (read_decls f r x)
decls_steps f r tree.no_decl = steps_same f f refl refl refl
decls_steps f r (tree.more_decl d rest) = steps_twice (decl_steps f r d) (decls_steps (read_decl f r d) (r + decl_routines d) rest)
