-- What a return with a number gives.
use Rattle.std.proofs.Common.{◌≡◌, ℕ, ◌-◌, ◌<◌, ◌≤◌, List, length, get_or, arith, length-set}
use Rattle.std.specs.Prelude.{ℤ, Option, Result, Ok, Err}
use Rattle.std.proofs.lemmas.List.{length-take-le}
use Rattle.std.proofs.lemmas.Option.{slice_get_within}
use Rattle.alma_code.specs.declared.cell.Cell.{Cell}
use Rattle.alma_code.specs.declared.instr.Instr.{Instr}
use Rattle.alma_code.specs.declared.instr.Instr.TheVariants as I
use Rattle.alma_code.specs.Machine.{State, StepResult, result_to, state_after_leave}
use Rattle.alma_code.specs.Picture.{PlainFrame, last_frame, without_last, frames_with_cell, frame_with, no_frame}
use Rattle.alma_code.specs.Plain.{PlainCode}
use Rattle.alma_machine_acts.specs.Rows.{Gives}
use Rattle.alma_base.specs.declared.fault.RunFault.{RunFault}
use Rattle.alma_machine_acts.specs.Calls.{CallsBack, back_or_fault}

-- the return address is behind an instruction
pub back_some : (code : PlainCode) (now : List PlainFrame) → CallsBack code now → 1 ≤ (last_frame now).back
back_some code now h = omega (arith, h.behind)

-- the one before it
pub back_at : (code : PlainCode) (now : List PlainFrame) (h : CallsBack code now) → (last_frame now).back - 1 ≡ h.at
back_at code now h = omega (arith, h.behind)

-- is in the code
pub back_inside : (code : PlainCode) (now : List PlainFrame) → CallsBack code now → (last_frame now).back - 1 < length code.instrs
back_inside code now h =
    let lt = slice_get_within code.instrs h.at (I.Call h.routine h.first h.to) h.call in
    omega (arith, back_at code now h)

-- as many frames after a write
pub same_frames : (now : List PlainFrame) (f n : ℕ) (c : Cell) → length (frames_with_cell now f n c) ≡ length now
same_frames now f n c = length-set now f (frame_with (get_or now f no_frame) n c)

-- one frame less
pub one_less : (now : List PlainFrame) → length (without_last now) ≡ length now - 1
one_less now = length-take-le (length now - 1) now (omega arith)

pub ruleset backs = (back_some, back_inside, same_frames, one_less)

-- what a word gives is returned, or ends the run
pub gives_back : (now : List PlainFrame) (word : State → (ℤ → StepResult) → StepResult) (s : State) (o : Option Instr)
    (result : Result ℤ RunFault) → s.now ≡ now → Gives now word result
    → word s (λ v. result_to o (state_after_leave s) v) ≡ back_or_fault o s result
gives_back now word s o (Ok v) same h = h s (λ v. result_to o (state_after_leave s) v) same
gives_back now word s o (Err f) same h = h s (λ v. result_to o (state_after_leave s) v) same
