-- The plan of the program has ends of its own.
use Rattle.std.proofs.Common.{ℕ, List, [], ◌∷◌, arith, inl, inr}
use Rattle.std.specs.Prelude.{Bool, true, false, codes, Option, None, Some}
use Rattle.alma_ir.specs.Tree.{Program}
use Rattle.alma_plan.proofs.OwnEnds.{HasOwnEnds}
use Rattle.alma_plan.specs.Plan.{bad_word, silent, success, tells}
use Rattle.alma_driver_words.specs.Words.{is_file_name}
use Rattle.alma_plan.proofs.Owns.{own_status, own_tells, own_read_source, own_run_plan}
use Rattle.alma_listing.specs.Lister.{listing_of}
use Rattle.alma_all.specs.All.{program, all_sense, all_plan, file_plan, bad_word_plan, body_returns, list_plan, unless_returns, steps_in}
use Rattle.alma_all.specs.All.{with_file, with_options, with_steps}

own_bad : (word : ℕ) → HasOwnEnds all_sense (bad_word_plan word)
own_bad word = own_tells program success (silent (bad_word program word)) (own_status 2 (inl (omega arith)))

own_unless : (returns : Bool) (p : Program) (steps : ℕ) → HasOwnEnds all_sense (unless_returns returns p steps)
own_unless true p steps = own_tells program success (silent (tells program 13 (codes "ModuleReturn"))) (own_status 13 (inr (omega arith)))
own_unless false p steps = own_run_plan program success (own_status 0 (inl (omega arith))) (listing_of p) steps

own_asked : (file : List ℕ) (steps : ℕ) → HasOwnEnds all_sense (file_plan file steps)
own_asked file steps = own_read_source program success file (λ p. list_plan p steps) (λ p. own_unless (body_returns p) p steps)

own_steps : (file : List ℕ) (steps : Option ℕ) (more : List (List ℕ)) → HasOwnEnds all_sense (with_steps file steps more)
own_steps file None more = own_bad 2
own_steps file (Some steps) [] = own_asked file steps
own_steps file (Some steps) (word ∷ more) = own_bad 3

own_options : (file : List ℕ) (options : List (List ℕ)) → HasOwnEnds all_sense (with_options file options)
own_options file [] = own_asked file _
own_options file (option ∷ more) = own_steps file (steps_in option) more

own_file : (is_file : Bool) (file : List ℕ) (options : List (List ℕ)) → HasOwnEnds all_sense (with_file is_file file options)
own_file false file options = own_bad 1
own_file true file options = own_options file options

pub own_plan : (words : List (List ℕ)) → HasOwnEnds all_sense (all_plan words)
own_plan [] = own_bad 1
own_plan (file ∷ options) = own_file (is_file_name file) file options
