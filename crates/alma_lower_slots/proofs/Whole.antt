-- The machine does the same on a code and on that code with its slots renamed: all together.
use Rattle.std.proofs.Common.{ℕ, List}
use Rattle.alma_code.specs.Plain.{PlainCode}
use Rattle.alma_code.specs.Rules.{IsSound}
use Rattle.alma_lower_slots.specs.Sharing.{Sharing, Shares, Renames}
use Rattle.alma_lower_slots.specs.Same.{DoesTheSame}
use Rattle.alma_lower_slots.proofs.Settles.{Shared}
use Rattle.alma_lower_slots.proofs.Forms.{OthersAlike}
use Rattle.alma_lower_slots.proofs.Lockstep.{Known, lockstep}
use Rattle.alma_lower_slots.proofs.BasedSteps.{based_start, based_step}
use Rattle.alma_lower_slots.proofs.OwnSteps.{own_start, own_step}
use Rattle.alma_lower_slots.proofs.Choices.{choose_alike, mark_form_alike, cut_alike, forall_alike, pop_alike}
use Rattle.alma_lower_slots.proofs.Bodies.{keep_alike, overlay_alike, finish_alike}
use Rattle.alma_lower_slots.proofs.Entering.{start_alike}
use Rattle.alma_lower_slots.proofs.Calling.{call_alike}
use Rattle.alma_lower_slots.proofs.Returning.{return_alike, return_value_alike}

module _ (code new : PlainCode) (s : Sharing) (w : Shared code new s) where
  -- the forms of choices and of calls do the same
  others : (input : List ℕ) → OthersAlike code new s input
  others input = record {
    mark = λ a r at t t' h. mark_form_alike input w r at a t t' h;
    cut = λ a r at t t' h. cut_alike input r at a t t' h;
    choose = λ a r at t t' h. choose_alike input r at a t t' h;
    forall_of = λ a b r at t t' h. forall_alike input w r at a b t t' h;
    overlay = λ a b r at t t' h. overlay_alike input w r at a b t t' h;
    keep = λ a r at t t' h. keep_alike input w r at a t t' h;
    finish = λ r at t t' h. finish_alike input w r at t t' h;
    call = λ a b c r at t t' h. call_alike code new s w input r at a b c t t' h;
    return_of = λ r at t t' h. return_alike code new s w input r at t t' h;
    return_value = λ a r at t t' h. return_value_alike code new s w input r at a t t' h;
  }

  -- all that is known of the two machines
  known : Known code new s
  known = record {
    others = others;
    pops = λ t t' h. pop_alike t t' h;
    start_alike = start_alike code new s w;
    own_start = own_start code s;
    own_step = λ input t fit own. own_step code s w.sound w.shares input t fit own;
    based_start = based_start code s w.sound w.shares;
    based_step = λ input t fit based. based_step code s w.sound w.shares input t fit based;
  }

-- where the slots of a sound code may be shared, the machine on the renamed code does the same
pub renamed_does_the_same : (code new : PlainCode) (s : Sharing) → IsSound code → Shares code s → Renames code s new → DoesTheSame code new
renamed_does_the_same code new s sound shares renames =
    let w : Shared code new s = record { sound = sound; shares = shares; renames = renames } in
    lockstep code new s w (known code new s w)
