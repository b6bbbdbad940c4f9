-- What is said of each routine by itself, said of the whole code.
use Rattle.std.proofs.Common.{◌≡◌, ℕ, ◌+◌, ◌<◌, true, nat_le, List, [], length, get_or}
use Rattle.std.specs.List.{list_all}
use Rattle.alma_code.specs.declared.instr.Instr.{Instr}
use Rattle.alma_code.specs.declared.instr.Instr.TheVariants as I
use Rattle.alma_code.specs.Plain.{PlainCode}
use Rattle.alma_lower_slots.specs.declared.stretch.Stretch.{Stretch}
use Rattle.alma_lower_slots.specs.Sharing.{Sharing, SharesAt, SharesIn, Shares, StaysTogether}
use Rattle.alma_lower_slots.specs.Stretches.{stretch_at, is_kept, is_live, own_count, sharing_in, FitsRoutine}

-- what the stretches of each routine say, and how many own slots each has
abbrev pub sharing_of : (own : List ℕ) → (stretches : List (List Stretch)) → Sharing
sharing_of own stretches = record {
  own = own_count own;
  slot = λ r n. (stretch_at (get_or stretches r []) n).slot;
  kept = λ r n. is_kept (stretch_at (get_or stretches r []) n);
  live = λ r at n. is_live (stretch_at (get_or stretches r []) n) at;
}

module _ (code : PlainCode) (own : List ℕ) (all : List (List Stretch)) (r : ℕ) where
  -- the arguments of a Call
  together_of : (i : Instr) → StaysTogether code (sharing_in own (get_or all r [])) r i → StaysTogether code (sharing_of own all) r i
  together_of (I.Call c first to) h = h
  together_of _ h = tt

  -- an instruction
  at_of : (at : ℕ) (i : Instr) → SharesAt code (sharing_in own (get_or all r [])) r at i → SharesAt code (sharing_of own all) r at i
  at_of at i h = record {
    read = h.read;
    next = h.next;
    jump = h.jump;
    apart = h.apart;
    still = h.still;
    still_away = h.still_away;
    ends = h.ends;
    finishes = h.finishes;
    places = h.places;
    begins = h.begins;
    together = together_of i h.together;
  }

  -- a routine
  in_of : SharesIn code (sharing_in own (get_or all r [])) r → SharesIn code (sharing_of own all) r
  in_of h = record {
    some = h.some;
    params = h.params;
    kept = h.kept;
    same = h.same;
    above = h.above;
    first = h.first;
    begins = h.begins;
    bodies = h.bodies;
  }

-- where the stretches of each routine fit its code, and the globals are own slots, the slots of the code may be shared so
pub shares_of : (code : PlainCode) (own : List ℕ) (all : List (List Stretch))
    → ((r : ℕ) → r < length code.routines → FitsRoutine code own (get_or all r []) r)
    → list_all (λ g. nat_le (g.slot + g.cells) (get_or own 0 1)) code.globals ≡ true
    → Shares code (sharing_of own all)
shares_of code own all fits globals = record {
  routines = λ r lt. in_of code own all r (fits r lt).routine;
  instrs = λ r at lt low high. at_of code own all r at (get_or code.instrs at I.Fail) ((fits r lt).instrs at low high);
  globals = globals;
}
