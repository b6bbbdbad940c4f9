-- FOR and SOME, of their parts with the bounds as values.
use Rattle.std.specs.Prelude.{ℕ, ◌+◌, ℤ}
use Rattle.alma_ir.specs.Tree as ir
use Rattle.alma_rules.specs.Scene.{Scene, range}
use Rattle.alma_rules.specs.Parts.{Location, desig_of}

-- the loop of its variable, its bounds, its step and its body, with a first hidden slot
abbrev pub turns_of : Scene → ℕ → Location × (ir.Expr × (ir.Expr × (ℤ × ir.Stmts))) → ir.Loop
turns_of s n p = ir.a_loop (desig_of p.0) (range s p.0.shape) n (n + 1) p.1.0 p.1.1.0 p.1.1.1.0 p.1.1.1.1
