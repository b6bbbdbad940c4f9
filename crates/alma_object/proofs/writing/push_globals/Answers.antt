use Rattle.std.proofs.Common.{rules, ◌≡◌, length, arith}
use Rattle.alma_code.specs.Plain.{code_of}
use Rattle.alma_object_format.specs.Object.{global_bytes}
use Rattle.alma_object.proofs.Encoding.{global_written, section_next}
use Rattle.alma_object.proofs.writing.push_globals.Goals as goal

pub overflow_cast-name_end : goal.overflow_cast-name_end
overflow_cast-name_end c =
    let n : c.len.result ≡ length c.global-item.result.name.items = search rules in
    let next = global_written c.args.code.now c.deref-global-items.result.now c.loop-global.global-index c.global-item.result
    c.loop-global.name_end c.len.result c.deref-global-items.ensures.value c.loop-global-test.true c.global-item.is
    c.loop-global.invariant.names n in
    omega (arith, next.within, c.requires.counts.names)

pub overflow_add-name_end : goal.overflow_add-name_end
overflow_add-name_end c =
    let n : c.len.result ≡ length c.global-item.result.name.items = search rules in
    let next = global_written c.args.code.now c.deref-global-items.result.now c.loop-global.global-index c.global-item.result
    c.loop-global.name_end c.len.result c.deref-global-items.ensures.value c.loop-global-test.true c.global-item.is
    c.loop-global.invariant.names n in
    omega (arith, next.within, c.requires.counts.names)

pub loop-global-preserved : goal.loop-global-preserved
loop-global-preserved c =
    let n : c.len.result ≡ length c.global-item.result.name.items = search rules in
    let next = global_written c.args.code.now c.deref-global-items.result.now c.loop-global.global-index c.global-item.result
    c.loop-global.name_end c.len.result c.deref-global-items.ensures.value c.loop-global-test.true c.global-item.is
    c.loop-global.invariant.names n in
    record {
      names = next.names;
      written = section_next (global_bytes (code_of c.args.code.now)) c.loop-global.global-index _ _ _ _ c.loop-global.invariant.written
          c.in_ok-push_words.ensures next.bytes;
    }
