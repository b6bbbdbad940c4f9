use Rattle.std.proofs.Common.{rules, ◌≡◌, length, arith, refl}
use Rattle.alma_code.specs.Plain.{code_of}
use Rattle.alma_object_format.specs.Object.{text_end_bytes}
use Rattle.alma_object.proofs.Encoding.{text_written, section_next}
use Rattle.alma_object.proofs.writing.push_text_ends.Goals as goal

pub overflow_cast-end : goal.overflow_cast-end
overflow_cast-end c =
    let n : c.len.result ≡ length c.text-item.result.items = search rules in
    let next = text_written (code_of c.args.code.now) (λ t. t.items) c.args.code.now.texts.items c.deref-text-items.result.now
    c.loop-text.text-index c.text-item.result c.loop-text.end c.len.result refl c.deref-text-items.ensures.value c.loop-text-test.true
    c.text-item.is c.loop-text.invariant.ends n in
    omega (arith, next.within, c.requires.text_bytes)

pub overflow_add-end : goal.overflow_add-end
overflow_add-end c =
    let n : c.len.result ≡ length c.text-item.result.items = search rules in
    let next = text_written (code_of c.args.code.now) (λ t. t.items) c.args.code.now.texts.items c.deref-text-items.result.now
    c.loop-text.text-index c.text-item.result c.loop-text.end c.len.result refl c.deref-text-items.ensures.value c.loop-text-test.true
    c.text-item.is c.loop-text.invariant.ends n in
    omega (arith, next.within, c.requires.text_bytes)

pub loop-text-preserved : goal.loop-text-preserved
loop-text-preserved c =
    let n : c.len.result ≡ length c.text-item.result.items = search rules in
    let next = text_written (code_of c.args.code.now) (λ t. t.items) c.args.code.now.texts.items c.deref-text-items.result.now
    c.loop-text.text-index c.text-item.result c.loop-text.end c.len.result refl c.deref-text-items.ensures.value c.loop-text-test.true
    c.text-item.is c.loop-text.invariant.ends n in
    record {
      ends = next.ends;
      written = section_next (text_end_bytes (code_of c.args.code.now)) c.loop-text.text-index _ _ _ _ c.loop-text.invariant.written
          c.in_ok-push_words.ensures next.bytes;
    }
