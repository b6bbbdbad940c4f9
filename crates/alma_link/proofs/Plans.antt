-- How a call goes by its plan, and that its ends are its own.
use Rattle.std.proofs.Common.{◌≡◌, ℕ, List, [], ◌∷◌, ◌++◌, refl, sym, subst, inl, inr, arith}
use Rattle.std.specs.Prelude.{Option, None, Some, Result, Ok, Err}
use Rattle.alma_io.specs.Sides.{SinkSide, SourceSide, FilesSide}
use Rattle.alma_ir.specs.Tree.{Program}
use Rattle.alma_join.specs.declared.error.JoinError.{JoinError}
use Rattle.alma_join.specs.declared.error.JoinError.TheVariants as join
use Rattle.alma_join.specs.Fault.{IsJoinError}
use Rattle.alma_join.specs.Joined.{JoinFault, Missing, Twice, HeadDiffers, TooLarge, join_fault, joined_program}
use Rattle.alma_plan.proofs.OwnEnds.{HasOwnEnds}
use Rattle.alma_plan.specs.Course.{Follows, whole}
use Rattle.alma_plan.specs.Plan.{Ending, Ends, bad_word, silent, tells}
use Rattle.alma_plan.proofs.Courses.{course_ends, course_starved, gains_none}
use Rattle.alma_plan.specs.Programs.{Tells, sense}
use Rattle.alma_plan.specs.Refusals.{refusal_end}
use Rattle.alma_plan.specs.declared.refusal.Refusal.{Refusal}
use Rattle.alma_plan.specs.declared.refusal.Refusal.TheVariants.{BadWord}
use Rattle.alma_plan.proofs.Owns.{own_read_source, own_run_plan, own_status, own_store_plan, own_tells}
use Rattle.alma_link.specs.Words.{Task, Run, Compile, Request, request_of}
use Rattle.alma_driver_words.specs.Words.{default_steps}
use Rattle.alma_link.specs.Link.{program, failure, join_text, task_plan, unless_fault, join_plan, files_plan, request_plan, link_plan}
use Rattle.alma_link.specs.Ends.{join_end}

-- an end without a print
pub silent_end : (end : Ending) (files : FilesSide) (input : SourceSide) (out : SinkSide)
    → Follows (sense program failure) program (Ends (Tells (silent end))) files files input input out out end
silent_end end files input out =
    course_ends (sense program failure) program (Tells (silent end)) files input out out end
    (whole (silent end) refl refl refl (gains_none out))

-- words with a bad one are refused
pub course_bad : (words : List (List ℕ)) (word : ℕ) (refusal : Refusal) (files : FilesSide) (input : SourceSide) (out : SinkSide)
    → request_of words ≡ Err word → refusal ≡ BadWord word
    → Follows (sense program failure) program (link_plan words) files files input input out out (refusal_end program refusal)
course_bad words word refusal files input out bad is = rw (bad, is) (silent_end (bad_word program word) files input out)

-- ---- modules

module _ (task : Task) (units : List Program) where
  -- they are joined
  pub course_joined : (f g : FilesSide) (i j : SourceSide) (o p : SinkSide) (end : Ending) → join_fault units ≡ None
      → Follows (sense program failure) program (task_plan task (joined_program units)) f g i j o p end
      → Follows (sense program failure) program (join_plan task units) f g i j o p end
  course_joined f g i j o p end none course =
      subst (λ (fault : Option JoinFault). Follows (sense program failure) program (unless_fault fault task units) f g i j o p end)
      (sym none) course

  -- they are not, for this fault
  course_fault : (fault : JoinFault) (f : FilesSide) (i : SourceSide) (o : SinkSide) → join_fault units ≡ Some fault
      → Follows (sense program failure) program (join_plan task units) f f i i o o (tells program 13 (join_text units fault))
  course_fault fault f i o e =
      subst (λ (found : Option JoinFault). Follows (sense program failure) program (unless_fault found task units) f f i i o o
      (tells program 13 (join_text units fault))) (sym e)
      (silent_end (tells program 13 (join_text units fault)) f i o)

  pub course_unjoined : (error : JoinError) (f : FilesSide) (i : SourceSide) (o : SinkSide) → IsJoinError error units
      → Follows (sense program failure) program (join_plan task units) f f i i o o (join_end units error)
  course_unjoined (join.Missing unit routine) f i o e = course_fault (Missing unit routine) f i o e
  course_unjoined (join.Twice unit routine) f i o e = course_fault (Twice unit routine) f i o e
  course_unjoined (join.HeadDiffers unit routine) f i o e = course_fault (HeadDiffers unit routine) f i o e
  course_unjoined (join.TooLarge unit) f i o e = course_fault (TooLarge unit) f i o e
  course_unjoined join.Memory f i o e = course_starved program _ _ f i o

-- ---- all ends

own_task : (task : Task) (p : Program) → HasOwnEnds (sense program failure) (task_plan task p)
own_task Run p = own_run_plan program failure (own_status 1 (inl (omega arith))) p default_steps
own_task (Compile object) p = own_store_plan program failure p object

own_join : (fault : Option JoinFault) (task : Task) (units : List Program)
    → HasOwnEnds (sense program failure) (unless_fault fault task units)
own_join None task units = own_task task (joined_program units)
own_join (Some fault) task units = own_tells program failure (silent (tells program 13 (join_text units fault)))
    (own_status 13 (inr (omega arith)))

own_files : (task : Task) (got : List Program) (names : List (List ℕ)) → HasOwnEnds (sense program failure) (files_plan task got names)
own_files task got [] = own_join (join_fault got) task got
own_files task got (name ∷ names) =
    own_read_source program failure name (λ p. files_plan task (got ++ p ∷ []) names) (λ p. own_files task (got ++ p ∷ []) names)

own_request : (r : Result Request ℕ) → HasOwnEnds (sense program failure) (request_plan r)
own_request (Ok r) = own_files r.task [] r.files
own_request (Err word) = own_tells program failure (silent (bad_word program word)) (own_status 2 (inl (omega arith)))

pub own_plan : (words : List (List ℕ)) → HasOwnEnds (sense program failure) (link_plan words)
own_plan words = own_request (request_of words)
