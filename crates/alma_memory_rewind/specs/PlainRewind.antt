-- What a Rewind stands for.
use Rattle.std.specs.Prelude.{◌≡◌, ◌<◌, ◌≤◌, ℕ, Bool, List, [], length, get_or, slice_get, Option, Some, None, ◌-◌, refl}
use Rattle.std.specs.Coded.{Coded, code_by, coded×, coded_ℕ, coded_bool, coded_list}

-- the items of now, the copies from the bottom, for each item whether a write to it needs no note, and the
-- free places for copies and for notes
pub record PlainRewind (T : Type 0) : Type 0 where
  pub now : List T
  pub held : List (List T)
  pub noted : List Bool
  pub choice_room : ℕ
  pub trail_room : ℕ

-- how a PlainRewind is coded, by the code of its items
abbrev pub rewind_code : {T : Type 0} → Coded T → Coded (PlainRewind T)
rewind_code {T} code =
    code_by
    (List T × (List (List T) × (List Bool × (ℕ × ℕ))))
    (coded× (coded_list code) (coded× (coded_list (coded_list code)) (coded× (coded_list coded_bool) (coded× coded_ℕ coded_ℕ))))
    (λ r. (r.now, (r.held, (r.noted, (r.choice_room, r.trail_room)))))
    (λ p. record { now = p.0; held = p.1.0; noted = p.1.1.0; choice_room = p.1.1.1.0; trail_room = p.1.1.1.1 })
    (λ _. refl)

module _ {T : Type 0} where
  -- the top copy
  abbrev pub top_copy : List (List T) → List T
  top_copy held = get_or held (length held - 1) []

  -- so many items from the bottom are needed by the copies
  abbrev pub needed : List (List T) → ℕ
  needed held = length (top_copy held)

  -- the first, or where there is none the other
  abbrev pub first_or : Option T → Option T → Option T
  first_or None other = other
  first_or (Some x) other = Some x

  -- what stood in the top copy, where it is not what stands there now
  pub record IsOlds (now : List T) (held : List (List T)) (olds : ℕ → Option T) : Type 0 where
    pub within : needed held ≤ length now
    pub is : (at : ℕ) → at < needed held → slice_get (top_copy held) at ≡ first_or (olds at) (slice_get now at)
