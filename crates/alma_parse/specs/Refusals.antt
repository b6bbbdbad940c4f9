-- What a refusal says of the tokens.
use Rattle.std.specs.Prelude.{◌≡◌, ◌≤◌, ◌<◌, List, ◌++◌, length, take}
use Rattle.alma_base.specs.Limits.{depth_limit}
use Rattle.alma_base.specs.declared.fault.SyntaxFault.TheVariants as syntax
use Rattle.alma_tree.specs.declared.kind.Kind.{Kind}
use Rattle.alma_tree.specs.Depth.{depth}
use Rattle.alma_grammar.specs.Laws.{Stops, Begins}
use Rattle.alma_parse.specs.declared.error.ParseError.{ParseError}
use Rattle.alma_parse.specs.declared.error.ParseError.TheVariants as errors

-- Unexpected at k: some tree's spelling begins with the k tokens before, none with them and the next, and they are not too deep.
-- TooDeep at k: some tree's spelling begins with the k tokens before and the next, and the depth passes its limit first at that one.
abbrev pub Refuses : ParseError → List Kind → Type 0
Refuses errors.Memory ks = Unit {0}
Refuses (errors.Syntax syntax.Unexpected k) ks =
    (front : List Kind) × (rest : List Kind) × (ks ≡ front ++ rest) × (length front ≡ k) × Stops front rest × Begins front
    × (depth front ≤ depth_limit)
Refuses (errors.Syntax syntax.TooDeep k) ks =
    (front : List Kind) × (rest : List Kind) × (ks ≡ front ++ rest) × (length front ≡ k) × (depth front ≤ depth_limit)
    × (depth_limit < depth (front ++ take 1 rest)) × Begins (front ++ take 1 rest)
