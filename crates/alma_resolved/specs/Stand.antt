-- Where names stand in a tree as the parser numbers its tokens: each heading before the declarations behind it.
use Rattle.std.specs.Prelude.{ℕ, ◌<◌, ◌≤◌, List, [], ◌∷◌, ◌++◌, Option, None, Some}
use Rattle.std.specs.List.{AllByRecursion}
use Rattle.alma_rules.specs.Numbered as tree
use Rattle.alma_rules.specs.Decls.{decls_names, formals_of}

-- the names of the types of formals
abbrev pub formal_types : List tree.Formal → List tree.Name
formal_types [] = []
formal_types (x ∷ xs) = x.type_name ∷ formal_types xs

-- and of a result
abbrev pub result_types : Option tree.Name → List tree.Name
result_types None = []
result_types (Some name) = name ∷ []

-- there is a token behind the types of a heading, from which on these names stand
abbrev pub IsBefore : Option tree.Params → Option tree.Name → List tree.Name → Type 0
IsBefore params result names =
    (at : ℕ) × AllByRecursion (λ x. x.token < at) (formal_types (formals_of params) ++ result_types result)
    × AllByRecursion (λ x. at ≤ x.token) names

unfoldable mutual
  -- in a block each heading stands before what is declared behind it
  pub BlockStands : tree.Block → Type 0
  BlockStands (tree.block n decls body) = DeclsStand decls

  -- the same of declarations
  pub DeclsStand : tree.DeclTail → Type 0
  DeclsStand tree.no_decl = Unit {0}
  DeclsStand (tree.more_decl d rest) = DeclStands d (decls_names rest) × DeclsStand rest

  -- the same of one, in front of these names
  pub DeclStands : tree.Decl → List tree.Name → Type 0
  DeclStands (tree.const_decl n xs) names = Unit {0}
  DeclStands (tree.type_decl n xs) names = Unit {0}
  DeclStands (tree.var_decl n xs) names = Unit {0}
  DeclStands (tree.procedure n name params result b end_name) names = IsBefore params result names × BlockStands b
