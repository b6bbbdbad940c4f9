use Rattle.std.proofs.Common.{◌<◌, ◌∙◌, ℕ, List, length, refl, subst, arith}
use Rattle.std.proofs.lemmas.List.{length-map}
use Rattle.std.specs.String.{string_bytes}
use Rattle.alma_driver_words.specs.Words.{Setting, IsSetting, texts}
use Rattle.alma_driver_words.specs.Inner.Settings.{setting_in, Takes}
use Rattle.alma_driver_words.proofs.SettingLemmas.{text_at, options_more, option_is_bad}
use Rattle.alma_driver_words.proofs.options.read_options.Goals as goal

pub returns-in_default : goal.returns-in_default
returns-in_default c =
    let words = texts c.args.words.now in
    let index = c.loop-index.index in
    let word = c.as_str.ensures.value ∙ text_at c.args.words.now index c.index-words-index.result c.loop-index-test.true
    c.index-words-index.is in
    let within : index < length words = omega (arith, c.loop-index-test.true, length-map c.args.words.now string_bytes) in (
      index,
      refl,
      option_is_bad c.args.allowance words index c.loop-index.options within c.loop-index.invariant
          (subst (λ (w : List ℕ). (setting : Setting) → IsSetting w setting → Takes c.args.allowance c.loop-index.options setting → ⊥) word
          c.in_default.ensures),
    )

pub loop-index-preserved : goal.loop-index-preserved
loop-index-preserved c =
    let words = texts c.args.words.now in
    let index = c.loop-index.index in
    let word = c.as_str.ensures.value ∙ text_at c.args.words.now index c.index-words-index.result c.loop-index-test.true
    c.index-words-index.is in
    let within : index < length words = omega (arith, c.loop-index-test.true, length-map c.args.words.now string_bytes) in
    options_more c.args.allowance words index c.loop-index.options c.put.new.self (setting_in c.in-Some.setting) within
    c.loop-index.invariant
    (subst (λ (w : List ℕ). IsSetting w (setting_in c.in-Some.setting)) word c.in-Some.ensures.0) c.in-Some.ensures.1 c.in_ok-put.ensures
