-- The shapes of types, and the cells, values and fields of each.
pub mod Shapes
-- What the code of a table of shapes keeps and counts.
pub mod Table
-- The names of one block, and those of all blocks that are open.
pub mod Blocks
pub mod Scopes
