use Rattle.std.proofs.Common.{sym, ◌∙◌, rules, w64}
use Rattle.std.proofs.lemmas.Int.{to_z-of_z}
use Rattle.alma_code.specs.declared.instr.Instr.TheVariants as I
use Rattle.alma_machine.specs.Needs.{Needs}
use Rattle.alma_machine.proofs.Forms.{const_is, by_one, by_two, by_three, by_four, needs_of, done_of, quietly_of}
use Rattle.alma_object.proofs.Records.{form_is}
use Rattle.alma_machine.proofs.quick_record.act_quickly.Goals as goal

pub number_quickly-requires : goal.number_quickly-requires
unfolding Needs
number_quickly-requires g c =
    needs_of _ _ c.args.form (const_is c.args.form (form_is c.args.form 1 (sym c.opcode.ensures ∙ c.in-1.is)) c.first.ensures
    (to_z-of_z w64 c.value.result (search rules) ∙ c.value.ensures)) c.requires.needs

pub number_quickly-requires-in-2 : goal.number_quickly-requires-in-2
unfolding Needs
number_quickly-requires-in-2 g c =
    needs_of _ _ c.args.form (by_two I.Move c.args.form (form_is c.args.form 2 (sym c.opcode.ensures ∙ c.in-2.is)) c.first-in-2.ensures
    c.second.ensures) c.requires.needs

pub number_quickly-requires-in-3 : goal.number_quickly-requires-in-3
unfolding Needs
number_quickly-requires-in-3 g c =
    needs_of _ _ c.args.form (by_three I.Add c.args.form (form_is c.args.form 3 (sym c.opcode.ensures ∙ c.in-3.is)) c.first-in-3.ensures
    c.second-in-3.ensures c.third.ensures) c.requires.needs

pub number_quickly-requires-in-4 : goal.number_quickly-requires-in-4
unfolding Needs
number_quickly-requires-in-4 g c =
    needs_of _ _ c.args.form (by_three I.Sub c.args.form (form_is c.args.form 4 (sym c.opcode.ensures ∙ c.in-4.is)) c.first-in-4.ensures
    c.second-in-4.ensures c.third-in-4.ensures) c.requires.needs

pub number_quickly-requires-in-5 : goal.number_quickly-requires-in-5
unfolding Needs
number_quickly-requires-in-5 g c =
    needs_of _ _ c.args.form (by_three I.Mul c.args.form (form_is c.args.form 5 (sym c.opcode.ensures ∙ c.in-5.is)) c.first-in-5.ensures
    c.second-in-5.ensures c.third-in-5.ensures) c.requires.needs

pub number_quickly-requires-in-6 : goal.number_quickly-requires-in-6
unfolding Needs
number_quickly-requires-in-6 g c =
    needs_of _ _ c.args.form (by_three I.Div c.args.form (form_is c.args.form 6 (sym c.opcode.ensures ∙ c.in-6.is)) c.first-in-6.ensures
    c.second-in-6.ensures c.third-in-6.ensures) c.requires.needs

pub number_quickly-requires-in-7 : goal.number_quickly-requires-in-7
unfolding Needs
number_quickly-requires-in-7 g c =
    needs_of _ _ c.args.form (by_three I.Mod c.args.form (form_is c.args.form 7 (sym c.opcode.ensures ∙ c.in-7.is)) c.first-in-7.ensures
    c.second-in-7.ensures c.third-in-7.ensures) c.requires.needs

pub number_quickly-requires-in-8 : goal.number_quickly-requires-in-8
unfolding Needs
number_quickly-requires-in-8 g c =
    needs_of _ _ c.args.form (by_two I.Neg c.args.form (form_is c.args.form 8 (sym c.opcode.ensures ∙ c.in-8.is)) c.first-in-8.ensures
    c.second-in-8.ensures) c.requires.needs

pub number_quickly-requires-in-9 : goal.number_quickly-requires-in-9
unfolding Needs
number_quickly-requires-in-9 g c =
    needs_of _ _ c.args.form (by_three I.Equal c.args.form (form_is c.args.form 9 (sym c.opcode.ensures ∙ c.in-9.is)) c.first-in-9.ensures
    c.second-in-9.ensures c.third-in-9.ensures) c.requires.needs

pub number_quickly-requires-in-10 : goal.number_quickly-requires-in-10
unfolding Needs
number_quickly-requires-in-10 g c =
    needs_of _ _ c.args.form (by_three I.Less c.args.form (form_is c.args.form 10 (sym c.opcode.ensures ∙ c.in-10.is)) c.first-in-10.ensures
    c.second-in-10.ensures c.third-in-10.ensures) c.requires.needs

pub number_quickly-requires-in-11 : goal.number_quickly-requires-in-11
unfolding Needs
number_quickly-requires-in-11 g c =
    needs_of _ _ c.args.form (by_three I.LessEq c.args.form (form_is c.args.form 11 (sym c.opcode.ensures ∙ c.in-11.is))
    c.first-in-11.ensures c.second-in-11.ensures c.third-in-11.ensures) c.requires.needs

pub number_quickly-requires-in-12 : goal.number_quickly-requires-in-12
unfolding Needs
number_quickly-requires-in-12 g c =
    needs_of _ _ c.args.form (by_two I.Flip c.args.form (form_is c.args.form 12 (sym c.opcode.ensures ∙ c.in-12.is)) c.first-in-12.ensures
    c.second-in-12.ensures) c.requires.needs

pub control_quickly-requires : goal.control_quickly-requires
control_quickly-requires g c =
    needs_of _ _ c.args.form (by_two I.InRange c.args.form (form_is c.args.form 13 (sym c.opcode.ensures ∙ c.in-13.is))
    c.first-in-13.ensures c.second-in-13.ensures) c.requires.needs

pub place_quickly-requires : goal.place_quickly-requires
place_quickly-requires g c =
    needs_of _ _ c.args.form (by_two I.Local c.args.form (form_is c.args.form 14 (sym c.opcode.ensures ∙ c.in-14.is)) c.first-in-14.ensures
    c.second-in-14.ensures) c.requires.needs

pub place_quickly-requires-in-15 : goal.place_quickly-requires-in-15
place_quickly-requires-in-15 g c =
    needs_of _ _ c.args.form (by_two I.Global c.args.form (form_is c.args.form 15 (sym c.opcode.ensures ∙ c.in-15.is)) c.first-in-15.ensures
    c.second-in-15.ensures) c.requires.needs

pub place_quickly-requires-in-16 : goal.place_quickly-requires-in-16
place_quickly-requires-in-16 g c =
    needs_of _ _ c.args.form (by_two I.Same c.args.form (form_is c.args.form 16 (sym c.opcode.ensures ∙ c.in-16.is)) c.first-in-16.ensures
    c.second-in-16.ensures) c.requires.needs

pub place_quickly-requires-in-17 : goal.place_quickly-requires-in-17
place_quickly-requires-in-17 g c =
    needs_of _ _ c.args.form (by_three I.Field c.args.form (form_is c.args.form 17 (sym c.opcode.ensures ∙ c.in-17.is))
    c.first-in-17.ensures c.second-in-17.ensures c.third-in-17.ensures) c.requires.needs

pub place_quickly-requires-in-18 : goal.place_quickly-requires-in-18
place_quickly-requires-in-18 g c =
    needs_of _ _ c.args.form (by_four I.Index c.args.form (form_is c.args.form 18 (sym c.opcode.ensures ∙ c.in-18.is)) c.first-in-18.ensures
    c.second-in-18.ensures c.third-in-18.ensures c.fourth.ensures) c.requires.needs

pub number_quickly-requires-in-19 : goal.number_quickly-requires-in-19
unfolding Needs
number_quickly-requires-in-19 g c =
    needs_of _ _ c.args.form (by_two I.Load c.args.form (form_is c.args.form 19 (sym c.opcode.ensures ∙ c.in-19.is)) c.first-in-19.ensures
    c.second-in-19.ensures) c.requires.needs

pub cell_quickly-requires : goal.cell_quickly-requires
cell_quickly-requires g c =
    needs_of _ _ c.args.form (by_two I.Store c.args.form (form_is c.args.form 20 (sym c.opcode.ensures ∙ c.in-20.is)) c.first-in-20.ensures
    c.second-in-20.ensures) c.requires.needs

pub number_quickly-requires-in-21 : goal.number_quickly-requires-in-21
unfolding Needs
number_quickly-requires-in-21 g c =
    needs_of _ _ c.args.form (by_two I.Known c.args.form (form_is c.args.form 21 (sym c.opcode.ensures ∙ c.in-21.is)) c.first-in-21.ensures
    c.second-in-21.ensures) c.requires.needs

pub cell_quickly-requires-in-22 : goal.cell_quickly-requires-in-22
cell_quickly-requires-in-22 g c =
    needs_of _ _ c.args.form (by_three I.Bind c.args.form (form_is c.args.form 22 (sym c.opcode.ensures ∙ c.in-22.is)) c.first-in-22.ensures
    c.second-in-22.ensures c.third-in-22.ensures) c.requires.needs

pub cell_quickly-requires-in-23 : goal.cell_quickly-requires-in-23
cell_quickly-requires-in-23 g c =
    needs_of _ _ c.args.form (by_four I.Unify c.args.form (form_is c.args.form 23 (sym c.opcode.ensures ∙ c.in-23.is)) c.first-in-23.ensures
    c.second-in-23.ensures c.third-in-23.ensures c.fourth-in-23.ensures) c.requires.needs

pub control_quickly-requires-in-26 : goal.control_quickly-requires-in-26
control_quickly-requires-in-26 g c =
    needs_of _ _ c.args.form (by_one I.Jump c.args.form (form_is c.args.form 26 (sym c.opcode.ensures ∙ c.in-26.is)) c.first-in-26.ensures)
    c.requires.needs

pub control_quickly-requires-in-27 : goal.control_quickly-requires-in-27
control_quickly-requires-in-27 g c =
    needs_of _ _ c.args.form (by_two I.JumpZero c.args.form (form_is c.args.form 27 (sym c.opcode.ensures ∙ c.in-27.is))
    c.first-in-27.ensures c.second-in-27.ensures) c.requires.needs

pub control_quickly-requires-in-28 : goal.control_quickly-requires-in-28
control_quickly-requires-in-28 g c =
    needs_of _ _ c.args.form (by_one I.Check c.args.form (form_is c.args.form 28 (sym c.opcode.ensures ∙ c.in-28.is)) c.first-in-28.ensures)
    c.requires.needs

pub control_quickly-requires-in-29 : goal.control_quickly-requires-in-29
control_quickly-requires-in-29 g c =
    needs_of _ _ c.args.form (form_is c.args.form 29 (sym c.opcode.ensures ∙ c.in-29.is)) c.requires.needs

pub choice_quickly-requires-clause-needs : goal.choice_quickly-requires-clause-needs
choice_quickly-requires-clause-needs g c =
    needs_of _ _ c.args.form (by_one I.Mark c.args.form (form_is c.args.form 30 (sym c.opcode.ensures ∙ c.in-30.is)) c.first-in-30.ensures)
    c.requires.needs

pub choice_quickly-requires-in-31-clause-needs : goal.choice_quickly-requires-in-31-clause-needs
choice_quickly-requires-in-31-clause-needs g c =
    needs_of _ _ c.args.form (by_one I.Cut c.args.form (form_is c.args.form 31 (sym c.opcode.ensures ∙ c.in-31.is)) c.first-in-31.ensures)
    c.requires.needs

pub choice_quickly-requires-in-32-clause-needs : goal.choice_quickly-requires-in-32-clause-needs
choice_quickly-requires-in-32-clause-needs g c =
    needs_of _ _ c.args.form (by_one I.Choose c.args.form (form_is c.args.form 32 (sym c.opcode.ensures ∙ c.in-32.is))
    c.first-in-32.ensures) c.requires.needs

pub call_quickly-requires : goal.call_quickly-requires
call_quickly-requires g c =
    needs_of _ _ c.args.form (by_three I.Call c.args.form (form_is c.args.form 37 (sym c.opcode.ensures ∙ c.in-37.is)) c.first-in-37.ensures
    c.second-in-37.ensures c.third-in-37.ensures) c.requires.needs

pub call_quickly-requires-in-38 : goal.call_quickly-requires-in-38
call_quickly-requires-in-38 g c =
    needs_of _ _ c.args.form (form_is c.args.form 38 (sym c.opcode.ensures ∙ c.in-38.is)) c.requires.needs

pub call_quickly-requires-in-39 : goal.call_quickly-requires-in-39
call_quickly-requires-in-39 g c =
    needs_of _ _ c.args.form (by_one I.ReturnValue c.args.form (form_is c.args.form 39 (sym c.opcode.ensures ∙ c.in-39.is))
    c.first-in-39.ensures) c.requires.needs

pub control_quickly-requires-in-48 : goal.control_quickly-requires-in-48
control_quickly-requires-in-48 g c =
    needs_of _ _ c.args.form (by_four I.Step c.args.form (form_is c.args.form 48 (sym c.opcode.ensures ∙ c.in-48.is)) c.first-in-48.ensures
    c.second-in-48.ensures c.third-in-48.ensures c.fourth-in-48.ensures) c.requires.needs

pub returns-in-1 : goal.returns-in-1
returns-in-1 g c =
    quietly_of _ _ _ _ _ c.args.form (const_is c.args.form (form_is c.args.form 1 (sym c.opcode.ensures ∙ c.in-1.is)) c.first.ensures
    (to_z-of_z w64 c.value.result (search rules) ∙ c.value.ensures)) c.number_quickly.ensures

pub returns-in-2 : goal.returns-in-2
returns-in-2 g c =
    quietly_of _ _ _ _ _ c.args.form (by_two I.Move c.args.form (form_is c.args.form 2 (sym c.opcode.ensures ∙ c.in-2.is))
    c.first-in-2.ensures c.second.ensures) c.number_quickly-in-2.ensures

pub returns-in-3 : goal.returns-in-3
returns-in-3 g c =
    quietly_of _ _ _ _ _ c.args.form (by_three I.Add c.args.form (form_is c.args.form 3 (sym c.opcode.ensures ∙ c.in-3.is))
    c.first-in-3.ensures c.second-in-3.ensures c.third.ensures) c.number_quickly-in-3.ensures

pub returns-in-4 : goal.returns-in-4
returns-in-4 g c =
    quietly_of _ _ _ _ _ c.args.form (by_three I.Sub c.args.form (form_is c.args.form 4 (sym c.opcode.ensures ∙ c.in-4.is))
    c.first-in-4.ensures c.second-in-4.ensures c.third-in-4.ensures) c.number_quickly-in-4.ensures

pub returns-in-5 : goal.returns-in-5
returns-in-5 g c =
    quietly_of _ _ _ _ _ c.args.form (by_three I.Mul c.args.form (form_is c.args.form 5 (sym c.opcode.ensures ∙ c.in-5.is))
    c.first-in-5.ensures c.second-in-5.ensures c.third-in-5.ensures) c.number_quickly-in-5.ensures

pub returns-in-6 : goal.returns-in-6
returns-in-6 g c =
    quietly_of _ _ _ _ _ c.args.form (by_three I.Div c.args.form (form_is c.args.form 6 (sym c.opcode.ensures ∙ c.in-6.is))
    c.first-in-6.ensures c.second-in-6.ensures c.third-in-6.ensures) c.number_quickly-in-6.ensures

pub returns-in-7 : goal.returns-in-7
returns-in-7 g c =
    quietly_of _ _ _ _ _ c.args.form (by_three I.Mod c.args.form (form_is c.args.form 7 (sym c.opcode.ensures ∙ c.in-7.is))
    c.first-in-7.ensures c.second-in-7.ensures c.third-in-7.ensures) c.number_quickly-in-7.ensures

pub returns-in-8 : goal.returns-in-8
returns-in-8 g c =
    quietly_of _ _ _ _ _ c.args.form (by_two I.Neg c.args.form (form_is c.args.form 8 (sym c.opcode.ensures ∙ c.in-8.is))
    c.first-in-8.ensures c.second-in-8.ensures) c.number_quickly-in-8.ensures

pub returns-in-9 : goal.returns-in-9
returns-in-9 g c =
    quietly_of _ _ _ _ _ c.args.form (by_three I.Equal c.args.form (form_is c.args.form 9 (sym c.opcode.ensures ∙ c.in-9.is))
    c.first-in-9.ensures c.second-in-9.ensures c.third-in-9.ensures) c.number_quickly-in-9.ensures

pub returns-in-10 : goal.returns-in-10
returns-in-10 g c =
    quietly_of _ _ _ _ _ c.args.form (by_three I.Less c.args.form (form_is c.args.form 10 (sym c.opcode.ensures ∙ c.in-10.is))
    c.first-in-10.ensures c.second-in-10.ensures c.third-in-10.ensures) c.number_quickly-in-10.ensures

pub returns-in-11 : goal.returns-in-11
returns-in-11 g c =
    quietly_of _ _ _ _ _ c.args.form (by_three I.LessEq c.args.form (form_is c.args.form 11 (sym c.opcode.ensures ∙ c.in-11.is))
    c.first-in-11.ensures c.second-in-11.ensures c.third-in-11.ensures) c.number_quickly-in-11.ensures

pub returns-in-12 : goal.returns-in-12
returns-in-12 g c =
    quietly_of _ _ _ _ _ c.args.form (by_two I.Flip c.args.form (form_is c.args.form 12 (sym c.opcode.ensures ∙ c.in-12.is))
    c.first-in-12.ensures c.second-in-12.ensures) c.number_quickly-in-12.ensures

pub returns-in-13 : goal.returns-in-13
returns-in-13 g c =
    quietly_of _ _ _ _ _ c.args.form (by_two I.InRange c.args.form (form_is c.args.form 13 (sym c.opcode.ensures ∙ c.in-13.is))
    c.first-in-13.ensures c.second-in-13.ensures) c.control_quickly.ensures

pub returns-in-14 : goal.returns-in-14
returns-in-14 g c =
    quietly_of _ _ _ _ _ c.args.form (by_two I.Local c.args.form (form_is c.args.form 14 (sym c.opcode.ensures ∙ c.in-14.is))
    c.first-in-14.ensures c.second-in-14.ensures) c.place_quickly.ensures

pub returns-in-15 : goal.returns-in-15
returns-in-15 g c =
    quietly_of _ _ _ _ _ c.args.form (by_two I.Global c.args.form (form_is c.args.form 15 (sym c.opcode.ensures ∙ c.in-15.is))
    c.first-in-15.ensures c.second-in-15.ensures) c.place_quickly-in-15.ensures

pub returns-in-16 : goal.returns-in-16
returns-in-16 g c =
    quietly_of _ _ _ _ _ c.args.form (by_two I.Same c.args.form (form_is c.args.form 16 (sym c.opcode.ensures ∙ c.in-16.is))
    c.first-in-16.ensures c.second-in-16.ensures) c.place_quickly-in-16.ensures

pub returns-in-17 : goal.returns-in-17
returns-in-17 g c =
    quietly_of _ _ _ _ _ c.args.form (by_three I.Field c.args.form (form_is c.args.form 17 (sym c.opcode.ensures ∙ c.in-17.is))
    c.first-in-17.ensures c.second-in-17.ensures c.third-in-17.ensures) c.place_quickly-in-17.ensures

pub returns-in-18 : goal.returns-in-18
returns-in-18 g c =
    quietly_of _ _ _ _ _ c.args.form (by_four I.Index c.args.form (form_is c.args.form 18 (sym c.opcode.ensures ∙ c.in-18.is))
    c.first-in-18.ensures c.second-in-18.ensures c.third-in-18.ensures c.fourth.ensures) c.place_quickly-in-18.ensures

pub returns-in-19 : goal.returns-in-19
returns-in-19 g c =
    quietly_of _ _ _ _ _ c.args.form (by_two I.Load c.args.form (form_is c.args.form 19 (sym c.opcode.ensures ∙ c.in-19.is))
    c.first-in-19.ensures c.second-in-19.ensures) c.number_quickly-in-19.ensures

pub returns-in-20 : goal.returns-in-20
returns-in-20 g c =
    quietly_of _ _ _ _ _ c.args.form (by_two I.Store c.args.form (form_is c.args.form 20 (sym c.opcode.ensures ∙ c.in-20.is))
    c.first-in-20.ensures c.second-in-20.ensures) c.cell_quickly.ensures

pub returns-in-21 : goal.returns-in-21
returns-in-21 g c =
    quietly_of _ _ _ _ _ c.args.form (by_two I.Known c.args.form (form_is c.args.form 21 (sym c.opcode.ensures ∙ c.in-21.is))
    c.first-in-21.ensures c.second-in-21.ensures) c.number_quickly-in-21.ensures

pub returns-in-22 : goal.returns-in-22
returns-in-22 g c =
    quietly_of _ _ _ _ _ c.args.form (by_three I.Bind c.args.form (form_is c.args.form 22 (sym c.opcode.ensures ∙ c.in-22.is))
    c.first-in-22.ensures c.second-in-22.ensures c.third-in-22.ensures) c.cell_quickly-in-22.ensures

pub returns-in-23 : goal.returns-in-23
returns-in-23 g c =
    quietly_of _ _ _ _ _ c.args.form (by_four I.Unify c.args.form (form_is c.args.form 23 (sym c.opcode.ensures ∙ c.in-23.is))
    c.first-in-23.ensures c.second-in-23.ensures c.third-in-23.ensures c.fourth-in-23.ensures) c.cell_quickly-in-23.ensures

pub returns-in-26 : goal.returns-in-26
returns-in-26 g c =
    quietly_of _ _ _ _ _ c.args.form (by_one I.Jump c.args.form (form_is c.args.form 26 (sym c.opcode.ensures ∙ c.in-26.is))
    c.first-in-26.ensures) c.control_quickly-in-26.ensures

pub returns-in-27 : goal.returns-in-27
returns-in-27 g c =
    quietly_of _ _ _ _ _ c.args.form (by_two I.JumpZero c.args.form (form_is c.args.form 27 (sym c.opcode.ensures ∙ c.in-27.is))
    c.first-in-27.ensures c.second-in-27.ensures) c.control_quickly-in-27.ensures

pub returns-in-28 : goal.returns-in-28
returns-in-28 g c =
    quietly_of _ _ _ _ _ c.args.form (by_one I.Check c.args.form (form_is c.args.form 28 (sym c.opcode.ensures ∙ c.in-28.is))
    c.first-in-28.ensures) c.control_quickly-in-28.ensures

pub returns-in-29 : goal.returns-in-29
returns-in-29 g c =
    quietly_of _ _ _ _ _ c.args.form (form_is c.args.form 29 (sym c.opcode.ensures ∙ c.in-29.is)) c.control_quickly-in-29.ensures

pub returns-in-30 : goal.returns-in-30
returns-in-30 g c =
    done_of _ _ _ _ _ c.args.form (by_one I.Mark c.args.form (form_is c.args.form 30 (sym c.opcode.ensures ∙ c.in-30.is))
    c.first-in-30.ensures) c.choice_quickly.ensures

pub returns-in-31 : goal.returns-in-31
returns-in-31 g c =
    done_of _ _ _ _ _ c.args.form (by_one I.Cut c.args.form (form_is c.args.form 31 (sym c.opcode.ensures ∙ c.in-31.is))
    c.first-in-31.ensures) c.choice_quickly-in-31.ensures

pub returns-in-32 : goal.returns-in-32
returns-in-32 g c =
    done_of _ _ _ _ _ c.args.form (by_one I.Choose c.args.form (form_is c.args.form 32 (sym c.opcode.ensures ∙ c.in-32.is))
    c.first-in-32.ensures) c.choice_quickly-in-32.ensures

pub returns-in-37 : goal.returns-in-37
returns-in-37 g c =
    done_of _ _ _ _ _ c.args.form (by_three I.Call c.args.form (form_is c.args.form 37 (sym c.opcode.ensures ∙ c.in-37.is))
    c.first-in-37.ensures c.second-in-37.ensures c.third-in-37.ensures) c.call_quickly.ensures

pub returns-in-38 : goal.returns-in-38
returns-in-38 g c =
    done_of _ _ _ _ _ c.args.form (form_is c.args.form 38 (sym c.opcode.ensures ∙ c.in-38.is)) c.call_quickly-in-38.ensures

pub returns-in-39 : goal.returns-in-39
returns-in-39 g c =
    done_of _ _ _ _ _ c.args.form (by_one I.ReturnValue c.args.form (form_is c.args.form 39 (sym c.opcode.ensures ∙ c.in-39.is))
    c.first-in-39.ensures) c.call_quickly-in-39.ensures

pub returns-in-48 : goal.returns-in-48
returns-in-48 g c =
    quietly_of _ _ _ _ _ c.args.form (by_four I.Step c.args.form (form_is c.args.form 48 (sym c.opcode.ensures ∙ c.in-48.is))
    c.first-in-48.ensures c.second-in-48.ensures c.third-in-48.ensures c.fourth-in-48.ensures) c.control_quickly-in-48.ensures
