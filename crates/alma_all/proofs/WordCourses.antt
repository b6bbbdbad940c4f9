-- What comes of words that cannot stand.
use Rattle.std.proofs.Common.{◌≡◌, ℕ, List, [], ◌∷◌, length, refl, sym, arith}
use Rattle.std.specs.Prelude.{true, false, String, eqb}
use Rattle.std.proofs.lemmas.Bool.{eqb-true}
use Rattle.std.specs.String.{string_bytes}
use Rattle.std.specs.declared.alloc.Global.{Global}
use Rattle.alma_io.specs.Sides.{SinkSide, SourceSide, FilesSide}
use Rattle.alma_plan.proofs.Courses.{course_ends, gains_none}
use Rattle.alma_plan.specs.Course.{Follows, whole}
use Rattle.alma_plan.specs.Plan.{Ending, silent}
use Rattle.alma_driver_words.specs.Words.{texts}
use Rattle.alma_plan.specs.Programs.{Tells}
use Rattle.alma_all.specs.All.{program, all_sense, end_plan}

pub course_end : (end : Ending) (files : FilesSide) (input : SourceSide) (out : SinkSide)
    → Follows all_sense program (end_plan end) files files input input out out end
course_end end files input out =
    course_ends all_sense program (Tells (silent end)) files input out out end (whole (silent end) refl refl refl (gains_none out))

-- no words, and some
pub no_word : (words : List (String Global)) → true ≡ eqb (length words) 0 → texts words ≡ []
no_word [] e = refl
no_word (word ∷ words) e = absurd (omega (arith, eqb-true (length (word ∷ words)) 0 (sym e)))

pub some_word : (words : List (String Global)) → false ≡ eqb (length words) 0 → (first : List ℕ) × (rest : List (List ℕ))
    × (texts words ≡ first ∷ rest)
some_word [] e = cc e
some_word (word ∷ words) e = (string_bytes word, texts words, refl)
