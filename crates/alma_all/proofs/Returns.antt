-- Whether the body of a module returns.
use Rattle.std.proofs.Common.{◌≡◌, ◌∙◌, ℕ, List, [], ◌∷◌, ap, refl, subst, sym}
use Rattle.std.specs.Prelude.{Bool, true, false, ◌||◌, codes, Err}
use Rattle.std.specs.List.{list_any, AllByRecursion}
use Rattle.alma_ir.specs.Checked.{HaveNoReturn, IsNoReturn}
use Rattle.alma_ir.specs.Phrases.{Phrase, StmtPhrase, TestPhrase, ExprPhrase, ArgPhrase, DesigPhrase, SelPhrase, stmts_phrases}
use Rattle.alma_ir.specs.Tree.{Program, TestStmt, Assign, CopyCells, If, While, Repeat, ForTo, SomeOf, Case, Either, Forall, Commit}
use Rattle.alma_ir.specs.Tree.{Return, Read, WriteExpr, WriteText, WriteLine, routine_at}
use Rattle.alma_io.specs.Sides.{SinkSide, SourceSide, FilesSide}
use Rattle.alma_listing.specs.Lister.{listing_of}
use Rattle.alma_listing.specs.declared.program.ListingError.{ListingError}
use Rattle.alma_listing.specs.declared.program.ListingError.TheVariants as listing
use Rattle.alma_plan.proofs.Courses.{course_ends, course_starved, gains_none}
use Rattle.alma_plan.specs.Course.{Follows, whole}
use Rattle.alma_plan.specs.Plan.{Ending, silent, tells}
use Rattle.alma_plan.specs.Programs.{Tells, run_plan}
use Rattle.alma_all.specs.All.{program, all_sense, is_return, body_returns, list_plan, unless_returns}
use Rattle.alma_all.specs.Ends.{all_end, listing_error}

-- a phrase that is no RETURN
not_return : (x : Phrase) → IsNoReturn x → is_return x ≡ false
not_return (StmtPhrase (Return e)) h = absurd h
not_return (StmtPhrase (TestStmt t)) h = refl
not_return (StmtPhrase (Assign d e r)) h = refl
not_return (StmtPhrase (CopyCells d e)) h = refl
not_return (StmtPhrase (If a r)) h = refl
not_return (StmtPhrase (While t b)) h = refl
not_return (StmtPhrase (Repeat b t)) h = refl
not_return (StmtPhrase (ForTo l)) h = refl
not_return (StmtPhrase (SomeOf l)) h = refl
not_return (StmtPhrase (Case e a r)) h = refl
not_return (StmtPhrase (Either b)) h = refl
not_return (StmtPhrase (Forall x y)) h = refl
not_return (StmtPhrase (Commit x)) h = refl
not_return (StmtPhrase (Read d h r)) k = refl
not_return (StmtPhrase (WriteExpr e h)) k = refl
not_return (StmtPhrase (WriteText t)) h = refl
not_return (StmtPhrase WriteLine) h = refl
not_return (TestPhrase t) h = refl
not_return (ExprPhrase e) h = refl
not_return (ArgPhrase a) h = refl
not_return (DesigPhrase d) h = refl
not_return (SelPhrase s) h = refl

-- and one that may be
is_no_return : (x : Phrase) → is_return x ≡ false → IsNoReturn x
is_no_return (StmtPhrase (Return e)) h = cc h
is_no_return (StmtPhrase (TestStmt t)) h = tt
is_no_return (StmtPhrase (Assign d e r)) h = tt
is_no_return (StmtPhrase (CopyCells d e)) h = tt
is_no_return (StmtPhrase (If a r)) h = tt
is_no_return (StmtPhrase (While t b)) h = tt
is_no_return (StmtPhrase (Repeat b t)) h = tt
is_no_return (StmtPhrase (ForTo l)) h = tt
is_no_return (StmtPhrase (SomeOf l)) h = tt
is_no_return (StmtPhrase (Case e a r)) h = tt
is_no_return (StmtPhrase (Either b)) h = tt
is_no_return (StmtPhrase (Forall x y)) h = tt
is_no_return (StmtPhrase (Commit x)) h = tt
is_no_return (StmtPhrase (Read d h r)) k = tt
is_no_return (StmtPhrase (WriteExpr e h)) k = tt
is_no_return (StmtPhrase (WriteText t)) h = tt
is_no_return (StmtPhrase WriteLine) h = tt
is_no_return (TestPhrase t) h = tt
is_no_return (ExprPhrase e) h = tt
is_no_return (ArgPhrase a) h = tt
is_no_return (DesigPhrase d) h = tt
is_no_return (SelPhrase s) h = tt

-- none stands there
none_there : (xs : List Phrase) → AllByRecursion IsNoReturn xs → list_any is_return xs ≡ false
none_there [] h = refl
none_there (x ∷ xs) h = ap (λ b. b || list_any is_return xs) (not_return x h.0) ∙ none_there xs h.1

-- where no test finds one
or_parts : (a b : Bool) → (a || b) ≡ false → (a ≡ false) × (b ≡ false)
or_parts true b e = cc e
or_parts false b e = (refl, e)

pub all_there : (xs : List Phrase) → list_any is_return xs ≡ false → AllByRecursion IsNoReturn xs
all_there [] h = tt
all_there (x ∷ xs) h =
    let parts = or_parts (is_return x) (list_any is_return xs) h in (is_no_return x parts.0, all_there xs parts.1)

body_stays : (p : Program) → HaveNoReturn (routine_at p 0).body → body_returns p ≡ false
body_stays p h = none_there (stmts_phrases (routine_at p 0).body) h

returns_there : (p : Program) → (HaveNoReturn (routine_at p 0).body → ⊥) → body_returns p ≡ true
returns_there p some = by (body_returns p) refl
  where
    by : (b : Bool) → body_returns p ≡ b → b ≡ true
    by true e = refl
    by false e = absurd (some (all_there (stmts_phrases (routine_at p 0).body) e))

-- a program whose body stays is listed by another
pub course_listed : (p q : Program) (steps : ℕ) (files : FilesSide) (input input' : SourceSide) (out out' : SinkSide) (end : Ending)
    → HaveNoReturn (routine_at p 0).body → q ≡ listing_of p
    → Follows all_sense program (run_plan program q steps) files files input input' out out' end
    → Follows all_sense program (list_plan p steps) files files input input' out out' end
course_listed p q steps files input input' out out' end stays is course =
    subst (λ (returns : Bool). Follows all_sense program (unless_returns returns p steps) files files input input' out out' end)
    (sym (body_stays p stays))
    (subst (λ (x : Program). Follows all_sense program (run_plan program x steps) files files input input' out out' end) is course)

-- one whose body returns is refused
course_returns : (p : Program) (steps : ℕ) (files : FilesSide) (input : SourceSide) (out : SinkSide)
    → (HaveNoReturn (routine_at p 0).body → ⊥)
    → Follows all_sense program (list_plan p steps) files files input input out out (tells program 13 (codes "ModuleReturn"))
course_returns p steps files input out some =
    subst (λ (returns : Bool). Follows all_sense program (unless_returns returns p steps) files files input input out out
    (tells program 13 (codes "ModuleReturn"))) (sym (returns_there p some))
    (course_ends all_sense program (Tells (silent (tells program 13 (codes "ModuleReturn")))) files input out out _
    (whole (silent (tells program 13 (codes "ModuleReturn"))) refl refl refl (gains_none out)))

-- and one that none lists comes to the end of that
pub course_unlisted : (p : Program) (steps : ℕ) (files : FilesSide) (input : SourceSide) (out : SinkSide) (fault : ListingError)
    → (fault ≡ listing.ModuleReturn → HaveNoReturn (routine_at p 0).body → ⊥)
    → Follows all_sense program (list_plan p steps) files files input input out out (all_end (Err (listing_error fault)))
course_unlisted p steps files input out listing.ModuleReturn some = course_returns p steps files input out (some refl)
course_unlisted p steps files input out listing.Memory some = course_starved program _ _ files input out
