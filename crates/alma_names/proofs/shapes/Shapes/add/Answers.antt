use Rattle.std.proofs.Common.{◌≡◌, [], ◌∷◌, ◌++◌, arith}
use Rattle.std.proofs.lemmas.Grind.{common_steps}
use Rattle.alma_names.specs.Shapes.{plain_of}
use Rattle.alma_names.proofs.Fields.{placed_distinct, indexed_table_added}
use Rattle.alma_names.proofs.shapes.Shapes.add.Goals as goal

pub of-requires : goal.of-requires
of-requires c = rw c.placed-placed.ensures (placed_distinct _ (plain_of c.args.shape) c.requires.fields)

pub invariant_of-self-in-Some : goal.invariant_of-self-in-Some
invariant_of-self-in-Some c =
    let shapes : c.push.new.self.items ≡ c.self.inside.shapes.items ++ c.placed-placed.result ∷ [] = grind (arith, common_steps) in
    let cells : c.push-in-Some.new.self.items ≡ c.self.inside.cells.items ++ c.in-Some.cells ∷ [] = grind (arith, common_steps) in
    let indexes : c.push-in-Some-2.new.self.items ≡ c.self.inside.indexes.items ++ c.in-Ok.index ∷ [] = grind (arith, common_steps) in
    rw (shapes, cells, indexes)
    (indexed_table_added c.args.self.now c.self.inside.shapes.items c.self.inside.cells.items c.self.inside.indexes.items
    (plain_of c.args.shape) c.placed-placed.result c.in-Some.cells c.in-Ok.index c.self.invariant c.self.view_is
    c.requires.names c.requires.index c.requires.count c.requires.base c.requires.fields c.placed-placed.ensures c.in-Some.ensures.0
    c.in-Some.ensures.1 c.in-Ok.ensures)
