-- A rule that is broken in declarations stays broken.
use Rattle.std.proofs.Common.{◌≡◌, ℕ, ◌+◌, Bool, true, false, List, [], ◌∷◌, Option, None, Some, refl}
use Rattle.alma_base.specs.Choice.{if_true}
use Rattle.alma_rules.specs.Numbered as tree
use Rattle.alma_rules.specs.Judgement.{broken_at}
use Rattle.alma_rules.specs.Scene.{is_first}
use Rattle.alma_rules.specs.Places.{width, mark_type}
use Rattle.alma_rules.specs.Types.{redeclaration_rules, read_constant, read_type, all_names, last_token}
use Rattle.alma_rules.specs.Decls.{Frame, with_faults, with_scene, within_limit, constant_in, read_consts, type_in, read_types}
use Rattle.alma_rules.specs.Decls.{with_variable}
use Rattle.alma_rules.specs.Decls.{variable_in, variables_in, variables_of, read_vars, read_decl, read_decls, decl_routines}
use Rattle.alma_rules.proofs.Sound.{nil_left}
use Rattle.alma_rules.proofs.Limited.{limited_faults}

consts_quiet : (f : Frame) (xs : List tree.ConstEntry) → (read_consts f xs).faults ≡ [] → f.faults ≡ []
consts_quiet f [] e = e
consts_quiet f (x ∷ xs) e = nil_left _ _ (nil_left _ _ (consts_quiet (constant_in f x (read_constant f.scene x.value)) xs e))

types_quiet : (f : Frame) (xs : List tree.TypeEntry) → (read_types f xs).faults ≡ [] → f.faults ≡ []
types_quiet f [] e = e
types_quiet f (x ∷ xs) e = nil_left _ _ (nil_left _ _ (types_quiet (type_in f x (read_type f.scene x.type_node)) xs e))

pub variable_quiet : (f : Frame) (from : ℕ) (o : Option ℕ) (name : tree.Name) → (variable_in f from o name).faults ≡ [] → f.faults ≡ []
variable_quiet f from None name e = nil_left f.faults _ e
variable_quiet f from (Some shape) name e = by (is_first f.scene name) e
  where
    by : (b : Bool) → (if_true b (λ u. within_limit name f (with_variable f name from shape))
        (λ u. with_faults f (broken_at name.node (redeclaration_rules f.scene name)))).faults ≡ [] → f.faults ≡ []
    by true e = limited_faults name f (with_variable f name from shape) e refl
    by false e = nil_left f.faults _ e

pub variables_quiet : (f : Frame) (from : ℕ) (o : Option ℕ) (xs : List tree.Name) → (variables_in f from o xs).faults ≡ [] → f.faults ≡ []
variables_quiet f from o [] e = e
variables_quiet f from o (x ∷ xs) e = variable_quiet f from o x (variables_quiet (variable_in f from o x) from o xs e)

pub vars_quiet : (f : Frame) (xs : List tree.VarEntry) → (read_vars f xs).faults ≡ [] → f.faults ≡ []
vars_quiet f [] e = e
vars_quiet f (x ∷ xs) e =
    variables_quiet (with_scene f (read_type f.scene x.type_node).scene)
    (last_token x.names.first x.names.more + 3 + width (mark_type x.type_node)) (read_type f.scene x.type_node).value
    (all_names x.names)
    (nil_left _ _ (vars_quiet (variables_of f x (read_type f.scene x.type_node)) xs e))

decl_quiet : (f : Frame) (r : ℕ) (d : tree.Decl) → (read_decl f r d).faults ≡ [] → f.faults ≡ []
decl_quiet f r (tree.const_decl n xs) e = consts_quiet f xs e
decl_quiet f r (tree.type_decl n xs) e = types_quiet f xs e
decl_quiet f r (tree.var_decl n xs) e = vars_quiet f xs e
decl_quiet f r (tree.procedure n name params result b end_name) e = nil_left _ _ (nil_left _ _ e)

pub decls_quiet : (f : Frame) (r : ℕ) (x : tree.DeclTail) → (read_decls f r x).faults ≡ [] → f.faults ≡ []
decls_quiet f r tree.no_decl e = e
decls_quiet f r (tree.more_decl d rest) e = decl_quiet f r d (decls_quiet (read_decl f r d) (r + decl_routines d) rest e)
