use Rattle.std.proofs.Common.{rules, ◌≡◌, ℤ, ◌++◌, ap, ◌∙◌, to_z, of_z, w64}
use Rattle.std.proofs.lemmas.Int.{to_z-of_z}
use Rattle.alma_object_format.specs.Bytes.{i64_bytes}
use Rattle.alma_object_format.proofs.Appends.{after_byte_three}
use Rattle.alma_object_format.proofs.instr.push_const.Goals as goal

pub returns : goal.returns
returns c =
    let same : to_z w64 (of_z w64 c.args.value) ≡ c.args.value = to_z-of_z w64 c.args.value (search rules) in
    after_byte_three _ _ _ _ _ _ _ _ _ c.in_ok-push.ensures.items c.in_ok-push_words.ensures
    (c.in_ok-push_i64.ensures ∙ ap (λ (v : ℤ). c.push_words.new.out.items ++ i64_bytes v) same) c.in_ok-push_words-2.ensures
