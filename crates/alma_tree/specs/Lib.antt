-- The grammar: its trees, and the kinds of tokens that each is spelled with.
pub mod Tree
pub mod Spelling
pub mod Depth
-- The public types: the tree that a value stands for, and the numbers of its tokens and nodes.
pub mod View
pub mod Numbers
-- What laws above need.
pub mod Kinds
