use Rattle.std.proofs.Common.{◌≡◌, ◌+◌, length, ap, ◌∙◌, refl, sym, arith, rules}
use Rattle.std.proofs.lemmas.List.{length-map}
use Rattle.alma_code.specs.Carries.{frames_with_carry}
use Rattle.alma_memory_store.specs.Carries.{carry_of_entries, change_of}
use Rattle.alma_memory.proofs.Lays.{lays-more, lays-none}
use Rattle.alma_memory.proofs.stack.lay_cells.Goals as goal

pub loop-place-init : goal.loop-place-init
loop-place-init c =
    let all : c.into_iter-place-iterator.result ≡ c.carry.inside.cells.entries = search rules in
    let whole : carry_of_entries c.into_iter-place-iterator.result ≡ c.args.carry.now = ap carry_of_entries all ∙ c.carry.view_is in
    let wide : length c.into_iter-place-iterator.result ≡ length c.args.carry.now =
    sym (length-map c.into_iter-place-iterator.result (λ entry. change_of entry.0 entry.1)) ∙ ap length whole in (
      tt,
      tt,
      ap (frames_with_carry c.args.store.now.now) whole,
      refl,
      omega arith,
      omega (arith, wide),
      omega (arith, wide, c.requires),
    )

pub lay_one-requires : goal.lay_one-requires
lay_one-requires c = omega (arith, ap length c.in-Some.ensures.steps, c.loop-place.invariant.6)

pub loop-place-preserved : goal.loop-place-preserved
loop-place-preserved c =
    let step = c.in-Some.ensures.steps in
    let n : length c.loop-place.place-iterator ≡ length c.next.new.self + 1 = omega (arith, ap length step) in (
      tt,
      tt,
      lays-more c.args.carry.now c.loop-place.place-iterator c.next.new.self c.in-Some.place.now c.in-Some.cell.now c.args.store.now.now
          c.loop-place.store.now c.lay_one.new.store.now
          c.loop-place.invariant.2 step c.lay_one.ensures.now,
      c.lay_one.ensures.held ∙ c.loop-place.invariant.3,
      omega (arith, c.loop-place.invariant.4, c.lay_one.ensures.choice_room),
      omega (arith, n, c.loop-place.invariant.5, c.lay_one.ensures.trail_room),
      omega (arith, n, c.loop-place.invariant.6, c.lay_one.ensures.trail_room),
    )

pub returns-clause-now : goal.returns-clause-now
returns-clause-now c =
    lays-none c.args.carry.now c.loop-place.place-iterator c.args.store.now.now c.loop-place.store.now c.loop-place.invariant.2
    c.in-None.ensures.steps.0

pub returns-clause-held : goal.returns-clause-held
returns-clause-held c = c.loop-place.invariant.3

pub returns-clause-choice_room : goal.returns-clause-choice_room
returns-clause-choice_room c = c.loop-place.invariant.4

pub returns-clause-trail_room : goal.returns-clause-trail_room
returns-clause-trail_room c = omega (arith, c.loop-place.invariant.5)
