pub use Rattle.alma_parse_expr.specs.Pieces
pub mod Heads
