use Rattle.std.proofs.Common.{rules, refl, subst}
use Rattle.std.proofs.lemmas.Result.{err_from_is_err_and, MatchResult-weaker}
use Rattle.alma_io.specs.Outside.{Writes}
use Rattle.alma_plan.specs.Course.{hungry}
use Rattle.alma_plan.proofs.Courses.{gains_none}
use Rattle.alma_pool.specs.Due.{turns_in}
use Rattle.alma_pool.specs.Inner.{shown_text}
use Rattle.alma_pool.specs.Pool.{PoolView, after_turns}
use Rattle.alma_pool.proofs.Playing.{still_whole}
use Rattle.alma_pool.proofs.Showing.{goes_shown}
use Rattle.alma_pool.proofs.play.play_in.Goals as goal

pub show_all-requires : goal.show_all-requires
show_all-requires g c = still_whole c.args.pool.now c.play_all.new.pool (turns_in c.args.turns.now) c.in_ok-play_all.ensures
    c.requires.whole

pub returns-in_err-play_all : goal.returns-in_err-play_all
returns-in_err-play_all g c =
    let p = err_from_is_err_and c.from_residual.result c.from_residual.ensures.1 in
    rw (p.1, p.2) (hungry refl (gains_none _))

pub returns : goal.returns
returns g c =
    let bytes = shown_text 0 (after_turns c.args.pool.now (turns_in c.args.turns.now)).programs in
    let wrote = subst (λ (p : PoolView). Writes (g.O.Sink.side c.args.out.now) (g.O.Sink.side c.show_all.new.out) (shown_text 0 p.programs)
    c.show_all.result) c.in_ok-play_all.ensures c.show_all.ensures in
    goes_shown bytes (g.O.Sink.side c.args.out.now) (g.O.Sink.side c.show_all.new.out) c.show_all.result c.map_err.result wrote
    (MatchResult-weaker c.show_all.result c.map_err.ensures.cases (λ done e. e)
    (λ fault h. let p = err_from_is_err_and c.map_err.result h in rw p.1 (search (rules, p.2))))
