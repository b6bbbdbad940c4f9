-- All turns of a file.
use Rattle.std.proofs.Common.{◌≡◌, ◌<◌, ◌≤◌, ◌+◌, ◌-◌, ◌∙◌, ℕ, zero, suc, List, [], ◌∷◌, ◌++◌, length, get_or, take, refl, sym}
use Rattle.std.proofs.Common.{ap, subst, arith}
use Rattle.std.proofs.lemmas.Bool.{and_parts, leb-true, ltb-true, eq-eqb, ne_eqb}
use Rattle.std.proofs.lemmas.List.{get_or-set_same, length-set, take_more, append-nil, map-append, length-map}
use Rattle.std.proofs.lemmas.List.Concat.{flat_map-append}
use Rattle.std.proofs.lemmas.List.Elements.{All-set, All-map}
use Rattle.std.specs.Prelude.{Bool, true, false, ◌&&◌, ◌||◌, leb, ltb, cond, Option, None, Result, Ok, Err, OnOk, All}
use Rattle.alma_code.specs.Plain.{PlainCode}
use Rattle.alma_verify.specs.Verified.{code_of_verified}
use Rattle.alma_verify.specs.declared.verified.Verified.{Verified}
use Rattle.alma_driver_words.specs.Words.{greatest_steps}
use Rattle.alma_pool.specs.Due.{unless, is_turn, bad_turn_behind, turn_in, turns_in, turns_limit}
use Rattle.alma_pool.specs.Inner.{codes_of, players_at_start}
use Rattle.alma_pool.specs.Pool.{PlayerState, PoolView, player_at_start, take_turn, no_program, program_at, after_turn, after_turns}
use Rattle.alma_pool.proofs.Players.{pool_of}

-- ---- the bytes of the file

-- where nothing is bad, this one is good, and nothing is bad behind it
unless_none : (good : Bool) (number : ℕ) (rest : Option ℕ) → unless good number rest ≡ None → (good ≡ true) × (rest ≡ None)
unless_none true number rest e = (refl, e)
unless_none false number rest e = cc e

-- each byte of a file without a bad one is a turn
goods : (programs seen : ℕ) (turns : List ℕ) → bad_turn_behind programs seen turns ≡ None → (i d : ℕ) → i < length turns
    → is_turn programs (get_or turns i d) ≡ true
goods programs seen [] e i d within = absurd (omega (arith, within))
goods programs seen (byte ∷ bytes) e zero d within =
    (unless_none (is_turn programs byte) (seen + 1) (bad_turn_behind programs (seen + 1) bytes) e).0
goods programs seen (byte ∷ bytes) e (suc i) d within =
    goods programs (seen + 1) bytes (unless_none (is_turn programs byte) (seen + 1) (bad_turn_behind programs (seen + 1) bytes) e).1 i d
    (omega (arith, within))

-- also where some turns were made
turns_count : (pool : PoolView) (turns : List ℕ) → length (after_turns pool turns).programs ≡ length pool.programs
turns_count pool [] = refl
turns_count pool (k ∷ turns) = turns_count (after_turn pool k) turns ∙ length-set pool.programs k (take_turn (program_at pool k))

pub good_turn : (pool now : PoolView) (turns done : List ℕ) (i d : ℕ) → now ≡ after_turns pool done
    → bad_turn_behind (length pool.programs) 0 turns ≡ None
    → i < length turns → is_turn (length now.programs) (get_or turns i d) ≡ true
good_turn pool now turns done i d is good within =
    let same : length now.programs ≡ length pool.programs = ap (λ (p : PoolView). length p.programs) is ∙ turns_count pool done in
    subst (λ (n : ℕ). is_turn n (get_or turns i d) ≡ true) (sym same) (goods (length pool.programs) 0 turns good i d within)

-- a turn that is no line feed is a letter, and that of a program
pub letter_fits : (programs byte : ℕ) → is_turn programs byte ≡ true → (byte ≡ 10 → ⊥) → (97 ≤ byte) × (byte - 97 < programs)
letter_fits programs byte good other =
    let rest : (leb 97 byte && ltb (byte - 97) programs) ≡ true =
    sym (ap (λ b. b || (leb 97 byte && ltb (byte - 97) programs)) (ne_eqb byte 10 other)) ∙ good in
    let parts = and_parts (leb 97 byte) (ltb (byte - 97) programs) rest in
    (leb-true 97 byte parts.0, ltb-true (byte - 97) programs parts.1)

-- the turn of a letter, and of a line feed
pub letter_turn : (byte : ℕ) → (byte ≡ 10 → ⊥) → turn_in byte ≡ (byte - 97) ∷ []
letter_turn byte other = ap (λ b. cond b [] ((byte - 97) ∷ [])) (ne_eqb byte 10 other)

pub feed_turn : (byte : ℕ) → byte ≡ 10 → turn_in byte ≡ []
feed_turn byte is = ap (λ b. cond b [] ((byte - 97) ∷ [])) (eq-eqb byte 10 is)

-- ---- the turns

after_both : (pool : PoolView) (first second : List ℕ) → after_turns pool (first ++ second) ≡ after_turns (after_turns pool first) second
after_both pool [] second = refl
after_both pool (k ∷ first) second = after_both (after_turn pool k) first second

turns_whole : (pool : PoolView) (turns : List ℕ) → (after_turns pool turns).whole ≡ pool.whole
turns_whole pool [] = refl
turns_whole pool (k ∷ turns) = turns_whole (after_turn pool k) turns

-- no turn makes a pool less whole
pub still_whole : (pool now : PoolView) (done : List ℕ) → now ≡ after_turns pool done → pool.whole ≡ true → now.whole ≡ true
still_whole pool now done is whole = ap (λ (p : PoolView). p.whole) is ∙ turns_whole pool done ∙ whole

-- the turns of the bytes so far, and of one more
pub turns_more : (pool now next : PoolView) (turns : List ℕ) (i d : ℕ) → i < length turns → now ≡ after_turns pool (turns_in (take i turns))
    → next ≡ after_turns now (turn_in (get_or turns i d)) → next ≡ after_turns pool (turns_in (take (i + 1) turns))
turns_more pool now next turns i d within is more =
    let byte = get_or turns i d in
    let split : turns_in (take (i + 1) turns) ≡ turns_in (take i turns) ++ turn_in byte =
    ap turns_in (take_more turns i d within) ∙ flat_map-append turn_in (take i turns) (byte ∷ [])
    ∙ ap (λ z. turns_in (take i turns) ++ z) (append-nil (turn_in byte)) in
    more ∙ ap (λ p. after_turns p (turn_in byte)) is ∙ sym (after_both pool (turns_in (take i turns)) (turn_in byte))
    ∙ ap (after_turns pool) (sym split)

-- no program made more steps than so many and one
pub few_turn : (old new : PoolView) (k most : ℕ) → k < length old.programs → new ≡ after_turn old k
    → (program_at new k).state.steps ≤ (program_at old k).state.steps + 1 → All (λ (p : PlayerState). p.state.steps ≤ most) old.programs
    → All (λ (p : PlayerState). p.state.steps ≤ most + 1) new.programs
few_turn old new k most there is one all =
    let t = take_turn (program_at old k) in
    let here : program_at new k ≡ t = ap (λ p. program_at p k) is ∙ get_or-set_same old.programs k t no_program there in
    let small : t.state.steps ≤ most + 1 = omega (arith, ap (λ (p : PlayerState). p.state.steps) here, one, all k no_program there) in
    subst (λ (p : PoolView). All (λ (q : PlayerState). q.state.steps ≤ most + 1) p.programs) (sym is)
    (All-set (λ (q : PlayerState). q.state.steps ≤ most + 1) old.programs k t small (λ j d within. omega (arith, all j d within)))

-- also where memory may want
pub few_result : {T E : Type 0} (result : Result T E) (old new : PoolView) (k : ℕ) → k < length old.programs
    → OnOk result (new ≡ after_turn old k)
    → OnOk result ((program_at new k).state.steps ≤ (program_at old k).state.steps + 1)
    → OnOk result ((most : ℕ) → All (λ (p : PlayerState). p.state.steps ≤ most) old.programs
    → All (λ (p : PlayerState). p.state.steps ≤ most + 1) new.programs)
few_result (Ok v) old new k there is one = λ most all. few_turn old new k most there is one all
few_result (Err e) old new k there is one = tt

-- nor did one where none made a step
pub few_still : (programs : List PlayerState) (most : ℕ) → All (λ (p : PlayerState). p.state.steps ≤ most) programs
    → All (λ (p : PlayerState). p.state.steps ≤ most + 1) programs
few_still programs most all = λ j d within. omega (arith, all j d within)

-- so few are far below the greatest number
pub few_enough : (programs : List PlayerState) (i count : ℕ) → i < count → count ≤ turns_limit
    → All (λ (p : PlayerState). p.state.steps ≤ i) programs
    → All (λ (p : PlayerState). p.state.steps < greatest_steps) programs
few_enough programs i count within short all = λ j d there. omega (arith, within, short, all j d there)

-- ---- the pool of a call

-- a pool with one more program
abbrev with_program : PoolView → PlayerState → PoolView
with_program pool p = record pool { programs = pool.programs ++ p ∷ [] }

-- the programs of the codes so far, and of one more
pub gathered : (verified : List Verified) (input : List ℕ) (i : ℕ) (one d : Verified) (old new : PoolView) → i < length verified
    → one ≡ get_or verified i d
    → old ≡ pool_of (players_at_start (codes_of (take i verified)) input) true
    → new ≡ with_program old (player_at_start (code_of_verified one) input)
    → new ≡ pool_of (players_at_start (codes_of (take (i + 1) verified)) input) true
gathered verified input i one d old new within is before more =
    let all : take (i + 1) verified ≡ take i verified ++ one ∷ [] = take_more verified i d within
    ∙ ap (λ x. take i verified ++ x ∷ []) (sym is) in
    let begin : PlainCode → PlayerState = λ code. player_at_start code input in
    let split : players_at_start (codes_of (take (i + 1) verified)) input ≡ players_at_start (codes_of (take i verified)) input
    ++ player_at_start (code_of_verified one) input ∷ [] =
    ap (λ xs. players_at_start (codes_of xs) input) all
    ∙ ap (λ cs. players_at_start cs input) (map-append code_of_verified (take i verified) (one ∷ []))
    ∙ map-append begin (codes_of (take i verified)) (code_of_verified one ∷ []) in
    more ∙ ap (λ p. with_program p (player_at_start (code_of_verified one) input)) before ∙ ap (λ ps. pool_of ps true) (sym split)

-- codes before their first turn made no step, and are as many as before
pub begun_fresh : (codes : List PlainCode) (input : List ℕ) → All (λ (p : PlayerState). p.state.steps ≡ 0) (players_at_start codes input)
begun_fresh codes input = All-map (λ (p : PlayerState). p.state.steps ≡ 0) (λ (code : PlainCode). player_at_start code input) codes
    (λ j d within. refl)

pub begun_count : (verified : List Verified) (input : List ℕ) → length (players_at_start (codes_of verified) input) ≡ length verified
begun_count verified input = length-map (codes_of verified) (λ code. player_at_start code input) ∙ length-map verified code_of_verified

-- as many programs as codes, also when the turns were made
pub played_count : (codes : List PlainCode) (input turns : List ℕ) (before now : PoolView)
    → before ≡ pool_of (players_at_start codes input) true
    → now ≡ after_turns before turns → length now.programs ≡ length codes
played_count codes input turns before now start is =
    ap (λ (p : PoolView). length p.programs) is ∙ turns_count before turns ∙ ap (λ (p : PoolView). length p.programs) start
    ∙ length-map codes (λ (code : PlainCode). player_at_start code input)
