-- The block of a procedure is less deep than the procedure.
use Rattle.std.proofs.Common.{ℕ, ◌<◌, Option, arith}
use Rattle.alma_tree.specs.declared.leaf.Name.{Name}
use Rattle.alma_tree.specs.declared.module.Params.{Params}
use Rattle.alma_tree.specs.declared.module.Block as db
use Rattle.alma_tree.specs.declared.module.Decl as dh
use Rattle.alma_tree.specs.declared.module.Decl.TheViews as views

pub procedure_size : (n : ℕ) (l : Name) (p : Option Params) (r : Option Name) (b : db.Block) (e : Name)
    → db.size-Block b < dh.size-Decl (dh.Procedure n l p r b e)
procedure_size n l p r b e = omega (arith, views.sized-Procedure n l p r b e)
