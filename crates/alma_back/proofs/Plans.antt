-- How a call goes by its plan.
use Rattle.std.proofs.Common.{◌≡◌, ℕ, List, [], ◌∷◌, refl, sym, subst, inl, inr, arith}
use Rattle.std.specs.Prelude.{Bool, true, false, cond, Option, None, Some, Result, Ok, Err}
use Rattle.alma_code.specs.Plain.{PlainCode}
use Rattle.alma_code.specs.Reads.{code_reads}
use Rattle.alma_io.specs.Sides.{SinkSide, SourceSide, FilesSide}
use Rattle.alma_verify.specs.Bytes.{object_code}
use Rattle.alma_plan.proofs.OwnEnds.{HasOwnEnds}
use Rattle.alma_plan.specs.Course.{Follows, Goes, cut_short, hungry_within, whole}
use Rattle.alma_plan.specs.Objects.{object_refusal}
use Rattle.alma_plan.specs.Plan.{Plan, Due, Ending, Ends, IsDue, silent, prints, plain}
use Rattle.alma_plan.specs.Refusals.{end_by, refusal_end, stop_end}
use Rattle.alma_driver_words.specs.Words.{is_file_name}
use Rattle.alma_plan.specs.declared.refusal.Refusal.{Refusal}
use Rattle.alma_plan.specs.declared.stop.Stop.{Stop}
use Rattle.alma_plan.specs.declared.stop.Stop.TheVariants.{Read, Write, Memory, TooLong}
use Rattle.alma_plan.proofs.Courses.{course_ends, course_starved, gains_none}
use Rattle.alma_plan.proofs.PlainEnds.{own_status, refusal_status}
use Rattle.alma_back.specs.declared.stop.BackStop.{BackStop}
use Rattle.alma_back.specs.declared.stop.BackStop.TheVariants.{BadLine, Refused}
use Rattle.alma_back.specs.Due.{program, walk_on_plan, walk_plan, unless_bad_line, walk_files_plan, fetch_plan, bad_word_plan, with_script}
use Rattle.alma_back.specs.Due.{back_plan}
use Rattle.alma_back.specs.Ends.{back_end}
use Rattle.alma_back.specs.Inner.{IsUnread, Shows}
use Rattle.alma_back.specs.Script.{Line, lines_in}
use Rattle.alma_back.specs.Session.{session}

-- ---- how a walk ends

pub goes_walk : (bytes : List ℕ) (out out' : SinkSide) (r : Result (Unit {0}) Stop) → Shows out out' bytes r
    → Goes program (IsDue (prints bytes)) out out' (end_by (stop_end program) r)
goes_walk bytes out out' (Ok done) h = whole (prints bytes) refl refl refl h
goes_walk bytes out out' (Err Write) h = cut_short (prints bytes) refl refl refl h
goes_walk bytes out out' (Err Memory) h = hungry_within (prints bytes) refl refl h.0 h.1
goes_walk bytes out out' (Err Read) h = absurd h
goes_walk bytes out out' (Err TooLong) h = absurd h

-- an end without a print
silent_end : (end : Ending) (files : FilesSide) (input : SourceSide) (out : SinkSide) → Goes program (IsDue (silent end)) out out end
silent_end end files input out = whole (silent end) refl refl refl (gains_none out)

module _ (object : List ℕ) (files : FilesSide) (input : SourceSide) (out : SinkSide) where
  -- the object is refused
  pub walked_refused : (lines : List Line) (refusal : Refusal) → object_refusal program object ≡ Some (refusal_end program refusal)
      → Follows plain program (walk_plan (object_refusal program object) (object_code object) lines) files files input input out out
      (refusal_end program refusal)
  walked_refused lines refusal e =
      subst (λ (o : Option Ending). Follows plain program (walk_plan o (object_code object) lines) files files input input out out
      (refusal_end program refusal)) (sym e)
      (course_ends plain program (silent (refusal_end program refusal)) files input out out (refusal_end program refusal)
      (silent_end (refusal_end program refusal) files input out))

  -- the script was not read
  pub walk_files_unread : (script : List ℕ) (stop : BackStop) → IsUnread script stop
      → Follows plain program (walk_files_plan object script) files files input input out out (back_end stop)
  walk_files_unread script (BadLine line) h =
      subst (λ (r : Result (List Line) ℕ). Follows plain program (unless_bad_line r object) files files input input out out
      (back_end (BadLine line))) (sym h)
      (course_ends plain program (silent (back_end (BadLine line))) files input out out (back_end (BadLine line))
      (silent_end (back_end (BadLine line)) files input out))
  walk_files_unread script (Refused refusal) h =
      subst (λ (r : Refusal). Follows plain program (walk_files_plan object script) files files input input out out (refusal_end program r))
      (sym h)
      (course_starved program _ _ files input out)

  module _ (input' : SourceSide) (out' : SinkSide) (end : Ending) where
    -- the object is opened
    pub walked_opened_to : (code : PlainCode) (lines : List Line) → object_refusal program object ≡ None → code ≡ object_code object
        → Follows plain program (walk_on_plan (code_reads code) code lines) files files input input' out out' end
        → Follows plain program (walk_plan (object_refusal program object) (object_code object) lines) files files input input' out out' end
    walked_opened_to code lines sound is follows =
        subst (λ (o : Option Ending). Follows plain program (walk_plan o (object_code object) lines) files files input input' out out' end)
        (sym sound)
        (subst (λ (k : PlainCode). Follows plain program (walk_on_plan (code_reads k) k lines) files files input input' out out' end) is
        follows)

    -- the script was read
    pub walk_files_read_to : (script : List ℕ) (lines : List Line) → lines_in script ≡ Ok lines
        → Follows plain program (walk_plan (object_refusal program object) (object_code object) lines) files files input input' out out' end
        → Follows plain program (walk_files_plan object script) files files input input' out out' end
    walk_files_read_to script lines is follows =
        subst (λ (r : Result (List Line) ℕ). Follows plain program (unless_bad_line r object) files files input input' out out' end)
        (sym is) follows

-- the call is refused
pub refused_followed : (refusal : Refusal) (files : FilesSide) (input : SourceSide) (out : SinkSide)
    → Follows plain program (Ends (silent (refusal_end program refusal))) files files input input out out (refusal_end program refusal)
refused_followed refusal files input out =
    let end = refusal_end program refusal in
    course_ends plain program (silent end) files input out out end (silent_end end files input out)

-- ---- its ends

own_bad : (word : ℕ) → HasOwnEnds plain (bad_word_plan word)
own_bad word = own_status _ 2 refl (inl (omega arith))

own_on : (reads : Bool) (code : PlainCode) (lines : List Line) → HasOwnEnds plain (walk_on_plan reads code lines)
own_on true code lines = λ bytes. own_status (prints (session code bytes lines)) 0 refl (inl (omega arith))
own_on false code lines = own_status (prints (session code [] lines)) 0 refl (inl (omega arith))

own_walked : (refusal : Option Ending) (code : PlainCode) (lines : List Line) → ((end : Ending) → refusal ≡ Some end → end.status ≡ 9)
    → HasOwnEnds plain (walk_plan refusal code lines)
own_walked None code lines refused = own_on (code_reads code) code lines
own_walked (Some end) code lines refused = own_status (silent end) 9 (refused end refl) (inr (omega arith))

own_walk_files : (r : Result (List Line) ℕ) (object : List ℕ) → HasOwnEnds plain (unless_bad_line r object)
own_walk_files (Err line) object = own_status _ 13 refl (inr (omega arith))
own_walk_files (Ok lines) object = own_walked (object_refusal program object) (object_code object) lines (refusal_status program object)

own_cond : (b : Bool) (p q : Plan ⊥ Due) → HasOwnEnds plain p → HasOwnEnds plain q → HasOwnEnds plain (cond b p q)
own_cond true p q h k = h
own_cond false p q h k = k

own_asked : (object script : List ℕ) → HasOwnEnds plain (fetch_plan object script)
own_asked object script = λ bytes lines. own_walk_files (lines_in lines) bytes

own_script : (object : List ℕ) (words : List (List ℕ)) → HasOwnEnds plain (with_script object words)
own_script object [] = own_bad 2
own_script object (script ∷ []) = own_cond (is_file_name script) (fetch_plan object script) (bad_word_plan 2) (own_asked object script)
    (own_bad 2)
own_script object (script ∷ word ∷ words) = own_cond (is_file_name script) (bad_word_plan 3) (bad_word_plan 2) (own_bad 3) (own_bad 2)

pub own_plan : (words : List (List ℕ)) → HasOwnEnds plain (back_plan words)
own_plan [] = own_bad 1
own_plan (object ∷ words) = own_cond (is_file_name object) (with_script object words) (bad_word_plan 1) (own_script object words)
    (own_bad 1)
