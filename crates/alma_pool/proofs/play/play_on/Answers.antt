use Rattle.std.proofs.Common.{◌≡◌, ◌∙◌, List, ℕ, refl, sym, ap, subst, length}
use Rattle.std.proofs.lemmas.Result.{err_from_is_err_and}
use Rattle.std.specs.Prelude.{All}
use Rattle.alma_plan.specs.Course.{Goes, hungry}
use Rattle.alma_plan.specs.Plan.{prints, IsDue}
use Rattle.alma_plan.specs.Refusals.{end_by, stop_end}
use Rattle.alma_plan.proofs.Courses.{gains_none}
use Rattle.alma_pool.specs.Due.{program, bad_turn_behind, turns_in}
use Rattle.alma_pool.specs.Inner.{codes_of}
use Rattle.alma_pool.specs.Pool.{PlayerState, PoolView, after_turns}
use Rattle.alma_pool.proofs.Playing.{begun_fresh, begun_count, played_count}
use Rattle.alma_pool.proofs.Showing.{shown_alone}
use Rattle.alma_pool.proofs.play.play_on.Goals as goal

pub play_in-requires-clause-whole : goal.play_in-requires-clause-whole
play_in-requires-clause-whole g c = ap (λ (p : PoolView). p.whole) c.in_ok-pool.ensures

pub play_in-requires-clause-fresh : goal.play_in-requires-clause-fresh
play_in-requires-clause-fresh g c =
    subst (λ (p : PoolView). All (λ (q : PlayerState). q.state.steps ≡ 0) p.programs) (sym c.in_ok-pool.ensures)
    (begun_fresh (codes_of c.args.verified.now) c.args.input.now)

pub play_in-requires-clause-good : goal.play_in-requires-clause-good
play_in-requires-clause-good g c =
    let count : length c.in_ok-pool.pool.programs ≡ length c.args.verified.now =
    ap (λ (p : PoolView). length p.programs) c.in_ok-pool.ensures ∙ begun_count c.args.verified.now c.args.input.now in
    ap (λ n. bad_turn_behind n 0 c.args.turns.now) count ∙ c.requires.good

pub returns : goal.returns
returns g c =
    let codes = codes_of c.args.verified.now in
    let turns = turns_in c.args.turns.now in
    let same = shown_alone codes c.args.input.now turns c.in_ok-pool.pool (after_turns c.in_ok-pool.pool turns) c.in_ok-pool.ensures refl
    (played_count codes c.args.input.now turns c.in_ok-pool.pool (after_turns c.in_ok-pool.pool turns) c.in_ok-pool.ensures refl) in
    subst (λ (bytes : List ℕ). Goes program (IsDue (prints bytes)) (g.O.Sink.side c.args.out.now) (g.O.Sink.side c.play_in.new.out)
    (end_by (stop_end program) c.play_in.result)) same
    c.play_in.ensures

pub returns-in_err-pool : goal.returns-in_err-pool
returns-in_err-pool g c =
    let p = err_from_is_err_and c.from_residual.result c.from_residual.ensures.1 in
    rw (p.1, p.2) (hungry refl (gains_none _))
