use Rattle.std.proofs.Common.{◌≡◌, ◌+◌, ◌≤◌, true, nat_le, length, map, get_or, subst}
use Rattle.std.specs.List.{list_all}
use Rattle.std.specs.Prelude.{sum_by}
use Rattle.alma_base.specs.Limits.{slot_limit}
use Rattle.alma_code.specs.Plain.{code_of, routine_of}
use Rattle.alma_lower_slots.specs.Inner.Shared.{SharesSoFar}
use Rattle.alma_lower_slots.proofs.WholeShared.{whole_shared}
use Rattle.alma_lower_slots.proofs.share.shared_parts.Goals as goal

pub returns-in-Some : goal.returns-in-Some
returns-in-Some c =
    let code = code_of c.args.code.now in
    let parts = c.in-Some.parts in
    let heads = map routine_of parts.heads.items in
    let own = c.in_ok-own.own.items in
    let found = rw c.in-Some.is at c.in_ok-parts.ensures in
    let routines = subst (λ l. SharesSoFar code l (length code.routines) heads parts.instrs.items) c.deref-4.ensures.value found in
    let globals =
    subst (λ l. list_all (λ g. nat_le (g.slot + g.cells) (get_or l 0 1)) code.globals ≡ true) c.deref-3.ensures.value
    (c.globals_are_own.ensures c.if-not-globals_are_own.false) in
    let few =
    subst (λ l. sum_by (λ r. length r.head.runs) (map routine_of l) ≤ slot_limit) c.deref-in-Some.ensures.value
    (c.runs_fit.ensures c.if-not-runs_fit.false) in
    whole_shared code own heads parts.instrs.items c.requires.sound routines globals few
