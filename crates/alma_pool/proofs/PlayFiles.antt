-- How a call goes by its plan when all files are there.
use Rattle.std.proofs.Common.{◌≡◌, ◌+◌, ℕ, List, [], ◌∷◌, ◌++◌, length, refl, sym, ap, subst, inl, inr, arith}
use Rattle.std.proofs.lemmas.List.{length-map, length-append}
use Rattle.std.specs.Prelude.{Option, None, Some, Result, Ok, Err, codes, decimal}
use Rattle.alma_code.specs.Plain.{PlainCode}
use Rattle.alma_io.specs.Sides.{SinkSide, SourceSide, FilesSide}
use Rattle.alma_verify.specs.Bytes.{object_code}
use Rattle.alma_verify.specs.Verified.{code_of_verified}
use Rattle.alma_verify.specs.declared.verified.Verified.{Verified}
use Rattle.alma_plan.specs.Course.{Follows, whole}
use Rattle.alma_plan.specs.Plan.{Ending, silent, tells, plain}
use Rattle.alma_plan.proofs.Courses.{course_ends, course_starved, gains_none}
use Rattle.alma_plan.specs.Objects.{object_refusal}
use Rattle.alma_pool.specs.Due.{program, or_refused, open_objects, play_plan, unless_bad_turn, play_files_plan, bad_turn_behind, turns_in}
use Rattle.alma_pool.specs.Ends.{pool_end}
use Rattle.alma_pool.specs.Inner.{codes_of, IsRefused}
use Rattle.alma_pool.specs.declared.stop.PoolStop.{PoolStop}

-- as many codes as objects
opened_ok : (o : Option Ending) (rest : Result (List PlainCode) Ending) (all : List PlainCode) → or_refused o rest ≡ Ok all → rest ≡ Ok all
opened_ok None rest all e = e
opened_ok (Some end) rest all e = cc e

opening_count : (got : List PlainCode) (objects : List (List ℕ)) (all : List PlainCode) → open_objects got objects ≡ Ok all
    → length all ≡ length got + length objects
opening_count got [] all e =
    let same : got ≡ all = cc e in
    omega (arith, ap (λ (xs : List PlainCode). length xs) same)
opening_count got (bytes ∷ objects) all e =
    let rest = opened_ok (object_refusal program bytes) (open_objects (got ++ object_code bytes ∷ []) objects) all e in
    omega (arith, opening_count (got ++ object_code bytes ∷ []) objects all rest, length-append got (object_code bytes ∷ []))

pub opened_count : (objects : List (List ℕ)) (verified : List Verified) → open_objects [] objects ≡ Ok (codes_of verified)
    → length verified ≡ length objects
opened_count objects verified e = omega (arith, opening_count [] objects (codes_of verified) e, length-map verified code_of_verified)

-- an end without a print
silent_end : (end : Ending) (files : FilesSide) (input : SourceSide) (out : SinkSide)
    → Follows plain program (play_plan (Err end) []) files files input input out out end
silent_end end files input out = course_ends plain program (silent end) files input out out end
    (whole (silent end) refl refl refl (gains_none out))

-- an object is refused, or memory ran out before it was known
pub played_refused : (objects : List (List ℕ)) (turns : List ℕ) (stop : PoolStop) (files : FilesSide) (input : SourceSide)
    (out : SinkSide) → IsRefused objects stop
    → Follows plain program (play_plan (open_objects [] objects) turns) files files input input out out (pool_end stop)
played_refused objects turns stop files input out (inl e) =
    subst (λ (end : Ending). Follows plain program (play_plan (open_objects [] objects) turns) files files input input out out end)
    (sym (ap pool_end e))
    (course_starved program _ _ files input out)
played_refused objects turns stop files input out (inr e) =
    subst (λ (r : Result (List PlainCode) Ending). Follows plain program (play_plan r turns) files files input input out out
    (pool_end stop)) (sym e)
    (silent_end (pool_end stop) files input out)

module _ (turns : List ℕ) (objects : List (List ℕ)) (files : FilesSide) (input input' : SourceSide) (out out' : SinkSide) where
  -- a byte may not stand in the file of turns
  pub play_files_bad : (turn : ℕ) → bad_turn_behind (length objects) 0 turns ≡ Some turn
      → Follows plain program (play_files_plan turns objects) files files input input out out
      (tells program 13 (codes "bad turn " ++ decimal turn))
  play_files_bad turn e =
      subst (λ (bad : Option ℕ). Follows plain program (unless_bad_turn bad turns objects) files files input input out out
      (tells program 13 (codes "bad turn " ++ decimal turn))) (sym e)
      (silent_end (tells program 13 (codes "bad turn " ++ decimal turn)) files input out)

  -- all may
  pub play_files_good : (end : Ending) → bad_turn_behind (length objects) 0 turns ≡ None
      → Follows plain program (play_plan (open_objects [] objects) (turns_in turns)) files files input input' out out' end
      → Follows plain program (play_files_plan turns objects) files files input input' out out' end
  play_files_good end e follows =
      subst (λ (bad : Option ℕ). Follows plain program (unless_bad_turn bad turns objects) files files input input' out out' end) (sym e)
      follows
