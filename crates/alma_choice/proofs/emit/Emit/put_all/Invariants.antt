use Rattle.std.proofs.Common.{◌≡◌, ◌+◌, ◌-◌, ◌≤◌, ◌++◌, length, map, take}
use Rattle.std.specs.Prelude.{vec_len, vec_capacity}
use Rattle.alma_choice.proofs.emit.Emit.put_all.Given as goal

abbrev pub invariant-loop-i : goal.invariant-loop-i
invariant-loop-i l = record {
  code : l.self.code.items ≡ l.fn.self.code.items ++ map (λ instr. (instr, l.line)) (take l.i l.instrs);
  room : vec_len l.self.code + (length l.instrs - l.i) ≤ vec_capacity l.self.code;
  kinds : l.self.kinds ≡ l.fn.self.kinds;
  next : l.self.next ≡ l.fn.self.next;
}
