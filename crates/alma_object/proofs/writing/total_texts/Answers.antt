use Rattle.std.proofs.Common.{rules, ◌≡◌, length, arith, refl}
use Rattle.alma_code.specs.Plain.{code_of}
use Rattle.alma_object.proofs.Encoding.{text_written}
use Rattle.alma_object.proofs.writing.total_texts.Goals as goal

pub overflow_cast-bytes : goal.overflow_cast-bytes
overflow_cast-bytes c =
    let n : c.len.result ≡ length c.text-item.result.items = search rules in
    let next = text_written (code_of c.args.code.now) (λ t. t.items) c.args.code.now.texts.items c.deref-text-items.result.now
    c.loop-text.text-index c.text-item.result c.loop-text.bytes c.len.result refl c.deref-text-items.ensures.value c.loop-text-test.true
    c.text-item.is c.loop-text.invariant n in
    omega (arith, next.within, c.requires.text_bytes)

pub overflow_add-bytes : goal.overflow_add-bytes
overflow_add-bytes c =
    let n : c.len.result ≡ length c.text-item.result.items = search rules in
    let next = text_written (code_of c.args.code.now) (λ t. t.items) c.args.code.now.texts.items c.deref-text-items.result.now
    c.loop-text.text-index c.text-item.result c.loop-text.bytes c.len.result refl c.deref-text-items.ensures.value c.loop-text-test.true
    c.text-item.is c.loop-text.invariant n in
    omega (arith, next.within, c.requires.text_bytes)

pub loop-text-preserved : goal.loop-text-preserved
loop-text-preserved c =
    let n : c.len.result ≡ length c.text-item.result.items = search rules in
    let next = text_written (code_of c.args.code.now) (λ t. t.items) c.args.code.now.texts.items c.deref-text-items.result.now
    c.loop-text.text-index c.text-item.result c.loop-text.bytes c.len.result refl c.deref-text-items.ensures.value c.loop-text-test.true
    c.text-item.is c.loop-text.invariant n in
    next.ends
