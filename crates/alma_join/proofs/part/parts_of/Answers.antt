use Rattle.std.proofs.Common.{◌≡◌, ◌+◌, ◌<◌, ◌∙◌, refl, sym, subst, arith, length, map}
use Rattle.std.proofs.lemmas.List.{length-map}
use Rattle.alma_ir.specs.View.{program_of, routine_of}
use Rattle.alma_join.specs.Joined.{kept_in}
use Rattle.alma_join.specs.Numbers.{NumbersUnit, numbers_in}
use Rattle.alma_join.proofs.PartsGo.{parts_none, parts_more, parts_all, numbers_at, numbers_length, each_at}
use Rattle.alma_join.proofs.Rows.{element_is}
use Rattle.alma_join.proofs.Units.{program_there, within_units, past_units}
use Rattle.alma_join.proofs.part.parts_of.Goals as goal

pub loop-i-init : goal.loop-i-init
loop-i-init c = parts_none _ _ c.new.ensures.items c.new-2.ensures.items c.new-3.ensures.items c.new-4.ensures.items refl refl

pub bounds-tables-i : goal.bounds-tables-i
bounds-tables-i c = omega (
  arith,
  c.loop-i-test.true,
  numbers_length _ _ _ _ c.requires.numbers,
  length-map c.args.units.now program_of,
  length-map
      c.args.tables.now numbers_in,
)

pub add_unit-requires : goal.add_unit-requires
add_unit-requires c =
    let us = c.args.units.now in
    let some : 0 < length (map routine_of c.index-units-i.result.routines.items) =
    each_at (λ p. 0 < length p.routines) (map program_of us) c.loop-i.i (program_of c.index-units-i.result)
    (within_units us _ c.loop-i-test.true) (program_there us c.loop-i.i _ c.loop-i-test.true c.index-units-i.is) c.requires.bodies in
    omega (arith, some, length-map c.index-units-i.result.routines.items routine_of)

pub loop-i-preserved : goal.loop-i-preserved
loop-i-preserved c =
    let us = c.args.units.now in
    let within = within_units us _ c.loop-i-test.true in
    let there = program_there us c.loop-i.i _ c.loop-i-test.true c.index-units-i.is in
    let long : c.loop-i.i < length c.args.tables.now = omega (
      arith,
      c.loop-i-test.true,
      numbers_length _ _ _ _ c.requires.numbers,
      length-map c.args.units.now program_of,
      length-map
          c.args.tables.now numbers_in,
    ) in
    let number : 1 + c.loop-i.i ≡ c.loop-i.i + 1 = omega arith in
    let numbers = c.deref.ensures.value
    ∙ sym (element_is numbers_in c.args.tables.now c.loop-i.i c.index-tables-i.result c.deref.result.now long c.index-tables-i.is) in
    parts_more (map program_of us) c.loop-i.i _ within there _ _ c.deref.result.now c.loop-i.invariant c.in_ok-add_unit.ensures
    (subst (λ n. NumbersUnit (kept_in 1 (map program_of c.args.units.now)) n
    (program_of c.index-units-i.result) c.deref.result.now) number
    (numbers_at _ 1 (map program_of us) (map numbers_in c.args.tables.now) c.loop-i.i
    (program_of c.index-units-i.result) c.deref.result.now within there numbers c.requires.numbers))

pub returns : goal.returns
returns c = parts_all _ c.loop-i.i _ (past_units c.args.units.now _ c.loop-i-test.false) c.loop-i.invariant
