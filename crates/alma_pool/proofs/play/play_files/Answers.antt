use Rattle.std.proofs.Common.{◌∙◌, ℕ, ap, sym}
use Rattle.std.proofs.lemmas.List.{length-map}
use Rattle.std.specs.Global.{Vec}
use Rattle.alma_pool.specs.Due.{bad_turn_behind}
use Rattle.alma_pool.specs.Inner.{all_bytes}
use Rattle.alma_pool.proofs.PlayFiles.{play_files_bad, play_files_good}
use Rattle.alma_pool.proofs.play.play_files.Goals as goal

pub returns-in-Some : goal.returns-in-Some
returns-in-Some g c = λ files.
    play_files_bad c.args.turns.now (all_bytes c.args.objects.now) files (g.I.Source.side c.args.input.now)
    (g.I.Source.side c.args.input.now) (g.O.Sink.side c.args.out.now)
    (g.O.Sink.side c.args.out.now) c.in-Some.turn
    (ap (λ n. bad_turn_behind n 0 c.args.turns.now) (length-map c.args.objects.now (λ (file : Vec ℕ). file.items)) ∙ sym c.bad_turn.ensures
    ∙ c.in-Some.is)

pub play_objects-requires-clause-good : goal.play_objects-requires-clause-good
play_objects-requires-clause-good g c = sym c.bad_turn.ensures ∙ c.in-None.is

pub returns-in-None : goal.returns-in-None
returns-in-None g c = λ files.
    play_files_good c.args.turns.now (all_bytes c.args.objects.now) files (g.I.Source.side c.args.input.now)
    (g.I.Source.side c.play_objects.new.input)
    (g.O.Sink.side c.args.out.now) (g.O.Sink.side c.play_objects.new.out) _
    (ap (λ n. bad_turn_behind n 0 c.args.turns.now) (length-map c.args.objects.now (λ (file : Vec ℕ). file.items)) ∙ sym c.bad_turn.ensures
    ∙ c.in-None.is)
    (c.play_objects.ensures files)
