-- The programs of a pool, one of which took a turn.
use Rattle.std.proofs.Common.{◌≡◌, ◌<◌, ◌≤◌, ◌+◌, ◌∙◌, ℕ, List, length, get_or, set, map, sym, ap, arith}
use Rattle.std.proofs.lemmas.List.{map-set, get_or-map, get_or-set_same, length-map}
use Rattle.std.specs.Prelude.{Bool, false, Result, Ok, Err, OnOk, is_err}
use Rattle.alma_pool.specs.declared.pool.Player.{Player}
use Rattle.alma_pool.specs.Pool.{OthersStay, PlayerState, PoolView, take_turn, no_program, program_at, after_turn}
use Rattle.alma_pool.specs.Ready.{played_of}

-- a pool by its parts
abbrev pub pool_of : List PlayerState → Bool → PoolView
pool_of programs whole = record { programs = programs; whole = whole }

-- one program took a turn
pub turned_view : (players : List Player) (k : ℕ) (old new : Player) (whole : Bool) (pool : PoolView)
    → pool_of (map played_of players) whole ≡ pool → k < length players
    → old ≡ get_or players k old → played_of new ≡ take_turn (played_of old)
    → pool_of (map played_of (set players k new)) whole ≡ after_turn pool k
turned_view players k old new whole pool is there at turn =
    let here : program_at (pool_of (map played_of players) whole) k ≡ played_of old =
    get_or-map played_of players k old no_program there ∙ ap played_of (sym at) in
    ap (λ ps. pool_of ps whole) (map-set played_of players k new ∙ ap (set (map played_of players) k) (turn ∙ ap take_turn (sym here)))
    ∙ ap (λ p. after_turn p k) is

-- it made one step more at most
pub counted_view : (players : List Player) (k : ℕ) (old new : Player) (whole : Bool) (pool : PoolView)
    → pool_of (map played_of players) whole ≡ pool → k < length players
    → old ≡ get_or players k old → new.machine.state.steps ≤ old.machine.state.steps + 1
    → (program_at (pool_of (map played_of (set players k new)) whole) k).state.steps ≤ (program_at pool k).state.steps + 1
counted_view players k old new whole pool is there at one =
    let before : program_at pool k ≡ played_of old =
    ap (λ p. program_at p k) (sym is) ∙ get_or-map played_of players k old no_program there ∙ ap played_of (sym at) in
    let within : k < length (map played_of players) = omega (arith, there, length-map players played_of) in
    let after : program_at (pool_of (map played_of (set players k new)) whole) k ≡ played_of new =
    ap (λ ps. get_or ps k no_program) (map-set played_of players k new)
    ∙ get_or-set_same (map played_of players) k (played_of new) no_program within in
    omega (arith, ap (λ (p : PlayerState). p.state.steps) before, ap (λ (p : PlayerState). p.state.steps) after, one)

-- no other changed
pub others_view : (players : List Player) (k : ℕ) (new : Player) (whole : Bool) (pool : PoolView)
    → pool_of (map played_of players) whole ≡ pool → k < length players
    → OthersStay pool (pool_of (map played_of (set players k new)) false) k
others_view players k new whole pool is there =
    let within : k < length (map played_of players) = omega (arith, there, length-map players played_of) in
    let after : get_or (map played_of (set players k new)) k no_program ≡ played_of new =
    ap (λ ps. get_or ps k no_program) (map-set played_of players k new)
    ∙ get_or-set_same (map played_of players) k (played_of new) no_program within in
    record {
      others = map-set played_of players k new
          ∙ (ap (set (map played_of players) k) (sym after)
          ∙ ap (λ (p : PoolView). set p.programs k (get_or (map played_of (set players k new)) k no_program)) is);
    }

-- what holds where a call succeeds holds where it does not fail
pub ok_of : {T E : Type 0} (r : Result T E) (P : Type 0) → is_err r ≡ false → OnOk r P → P
ok_of (Ok v) P h p = p
ok_of (Err e) P h p = absurd (cc h)
