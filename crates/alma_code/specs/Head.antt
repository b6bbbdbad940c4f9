-- The head of a routine as plain data: what a table and a view of an object both stand for.
use Rattle.std.specs.Prelude.{ℕ, Bool, List}
use Rattle.alma_code.specs.declared.head.CodeParam.{CodeParam}
use Rattle.alma_code.specs.declared.head.Run.{Run}

-- how many slots a frame has, how many of them are declared cells, the parameters, the kinds of the
-- slots in runs, and whether there is a result
pub record PlainHead : Type 0 where
  pub slots : ℕ
  pub declared : ℕ
  pub params : List CodeParam
  pub runs : List Run
  pub has_result : Bool
