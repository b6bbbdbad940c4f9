use Rattle.std.proofs.Common.{rules, ◌≡◌, length, arith}
use Rattle.alma_object.proofs.Encoding.{global_written}
use Rattle.alma_object.proofs.writing.total_names.Goals as goal

pub overflow_cast-names : goal.overflow_cast-names
overflow_cast-names c =
    let n : c.len.result ≡ length c.global-item.result.name.items = search rules in
    let next = global_written c.args.code.now c.deref-global-items.result.now c.loop-global.global-index c.global-item.result
    c.loop-global.names c.len.result c.deref-global-items.ensures.value c.loop-global-test.true c.global-item.is c.loop-global.invariant
    n in
    omega (arith, next.within, c.requires.counts.names)

pub overflow_add-names : goal.overflow_add-names
overflow_add-names c =
    let n : c.len.result ≡ length c.global-item.result.name.items = search rules in
    let next = global_written c.args.code.now c.deref-global-items.result.now c.loop-global.global-index c.global-item.result
    c.loop-global.names c.len.result c.deref-global-items.ensures.value c.loop-global-test.true c.global-item.is c.loop-global.invariant
    n in
    omega (arith, next.within, c.requires.counts.names)

pub loop-global-preserved : goal.loop-global-preserved
loop-global-preserved c =
    let n : c.len.result ≡ length c.global-item.result.name.items = search rules in
    let next = global_written c.args.code.now c.deref-global-items.result.now c.loop-global.global-index c.global-item.result
    c.loop-global.names c.len.result c.deref-global-items.ensures.value c.loop-global-test.true c.global-item.is c.loop-global.invariant
    n in
    next.names
