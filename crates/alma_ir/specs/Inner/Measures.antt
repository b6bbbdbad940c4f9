-- What is counted of the statements that stand in phrases.
use Rattle.std.specs.Prelude.{ℕ, ◌+◌, List, [], ◌∷◌, drop}
use Rattle.alma_ir.specs.Tree.{Stmt}
use Rattle.alma_ir.specs.Checked.{text_bytes}
use Rattle.alma_ir.specs.Phrases.{Phrase, StmtPhrase, TestPhrase, ExprPhrase, ArgPhrase, DesigPhrase, SelPhrase, stmt_phrases}
use Rattle.alma_ir.specs.declared.inside.Measure.{Measure}
use Rattle.alma_ir.specs.declared.inside.Measure.TheVariants as measure

-- what a statement counts by itself
abbrev pub own : Measure → Stmt → ℕ
own measure.Statements x = 1
own measure.TextBytes x = text_bytes (StmtPhrase x)

-- what a phrase counts by itself
abbrev pub weight : Measure → Phrase → ℕ
weight m (StmtPhrase x) = own m x
weight m (TestPhrase t) = 0
weight m (ExprPhrase e) = 0
weight m (ArgPhrase a) = 0
weight m (DesigPhrase d) = 0
weight m (SelPhrase x) = 0

-- what phrases count together
unfoldable pub amount : Measure → List Phrase → ℕ
amount m [] = 0
amount m (x ∷ rest) = weight m x + amount m rest

-- the phrases inside of a statement
abbrev pub parts : Stmt → List Phrase
parts x = drop 1 (stmt_phrases x)
