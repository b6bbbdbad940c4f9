use Rattle.std.proofs.Common.{◌≡◌, ◌∙◌, ℕ, ap, length}
use Rattle.std.proofs.lemmas.Result.{err_from_is_err_and}
use Rattle.std.proofs.lemmas.List.{length-map}
use Rattle.std.specs.Global.{Vec}
use Rattle.alma_pool.specs.Due.{bad_turn_behind, turns_in}
use Rattle.alma_pool.specs.Inner.{all_bytes}
use Rattle.alma_pool.proofs.PlayFiles.{opened_count, played_refused}
use Rattle.alma_pool.proofs.play.play_objects.Goals as goal

pub play-requires-clause-good : goal.play-requires-clause-good
play-requires-clause-good g c =
    let count : length c.in_ok-verified.verified.items ≡ length c.args.objects.now =
    opened_count (all_bytes c.args.objects.now) c.in_ok-verified.verified.items c.in_ok-verified.ensures.codes
    ∙ length-map c.args.objects.now (λ (file : Vec ℕ). file.items) in
    rw c.deref.ensures.value (ap (λ n. bad_turn_behind n 0 c.args.turns.now) count ∙ c.requires.good)

pub returns : goal.returns
returns g c = λ files. rw c.in_ok-verified.ensures.codes (rw c.deref.ensures.value at (c.in_ok-play.ensures files))

pub returns-in_err-play : goal.returns-in_err-play
returns-in_err-play g c = λ files.
    let p = err_from_is_err_and c.from_residual-in_err-play.result c.from_residual-in_err-play.ensures.1 in
    rw (p.1, p.2, c.in_ok-verified.ensures.codes) (rw c.deref.ensures.value at (c.in_err-play.ensures files))

pub returns-in_err-verified : goal.returns-in_err-verified
returns-in_err-verified g c = λ files.
    let p = err_from_is_err_and c.from_residual.result c.from_residual.ensures.1 in
    rw (p.1, p.2) (played_refused (all_bytes c.args.objects.now) (turns_in c.args.turns.now) _ files
    (g.I.Source.side c.args.input.now) (g.O.Sink.side c.args.out.now) c.in_err-verified.ensures.refused)
