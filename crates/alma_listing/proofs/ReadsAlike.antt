-- The program that lists holds a READ exactly where the listed one does.
use Rattle.std.proofs.Common.{◌≡◌, ℕ, Bool, true, false, List, [], ◌∷◌, ◌++◌, length, refl, sym, ap, ◌∙◌}
use Rattle.std.specs.Prelude.{◌||◌, suc}
use Rattle.std.specs.List.{AllByRecursion, list_any}
use Rattle.std.proofs.lemmas.List.Folds.{list_any-append}
use Rattle.alma_ir.specs.Tree.{Stmts, Routine, Global}
use Rattle.alma_ir.specs.Phrases.{Phrase, stmts_phrases}
use Rattle.alma_rules.specs.Parts.{append_stmts}
use Rattle.alma_lower_sound.specs.Entries.{of_each}
use Rattle.alma_lower_sound.specs.Reads.{is_read_phrase, program_reads}
use Rattle.alma_listing.specs.Lister.{list_procedure, list_and_fail, listing_of, write_line}
use Rattle.alma_listing.specs.Listing.{EachReadsAlike}
use Rattle.alma_listing.proofs.LineEach.{line_each}
use Rattle.alma_rules.proofs.Phrases.{append_phrases}

or_false : (b : Bool) → (b || false) ≡ b
or_false true = refl
or_false false = refl

-- the phrases of a routine, and whether any is a READ
abbrev phrases : Routine → List Phrase
phrases r = stmts_phrases r.body

abbrev some_read : List Phrase → Bool
some_read xs = list_any is_read_phrase xs

none_reads : (xs : List Phrase) → AllByRecursion (λ x. is_read_phrase x ≡ false) xs → some_read xs ≡ false
none_reads [] h = refl
none_reads (x ∷ xs) h = ap (λ b. b || some_read xs) h.0 ∙ none_reads xs h.1

anything : (gs : List Global) → AllByRecursion (λ g. Unit {0}) gs
anything [] = tt
anything (g ∷ gs) = (tt, anything gs)

line_reads_none : (gs : List Global) → some_read (stmts_phrases (write_line gs)) ≡ false
line_reads_none gs =
    none_reads (stmts_phrases (write_line gs))
    (line_each (λ x. is_read_phrase x ≡ false) (λ slot cells. Unit {0}) (λ t. refl) (λ v. refl) refl refl refl refl (λ slot last g. refl)
    (λ slot last g. refl) (λ slot last g. refl) (λ slot last g. refl) (λ slot last g. refl) (λ slot last g. refl)
    (λ slot last g. refl) (λ slot last g. refl) gs (anything gs))

tail_reads_none : (r : ℕ) → some_read (stmts_phrases (list_and_fail r)) ≡ false
unfolding stmts_phrases
tail_reads_none r = refl

-- a routine with no READ behind others
with_last : (rs : List Routine) (r : Routine) → some_read (phrases r) ≡ false → some_read (of_each phrases (rs ++ (r ∷ []))) ≡ some_read
    (of_each phrases rs)
with_last [] r e = list_any-append is_read_phrase (phrases r) [] ∙ ap (λ b. b || false) e
with_last (x ∷ rs) r e =
    list_any-append is_read_phrase (phrases x) (of_each phrases (rs ++ (r ∷ [])))
    ∙ ap (λ b. some_read (phrases x) || b) (with_last rs r e)
    ∙ sym (list_any-append is_read_phrase (phrases x) (of_each phrases rs))

-- statements with no READ behind others
with_tail : (x y : Stmts) → some_read (stmts_phrases y) ≡ false → some_read (stmts_phrases (append_stmts x y)) ≡ some_read (stmts_phrases x)
with_tail x y e =
    ap some_read (append_phrases x y) ∙ list_any-append is_read_phrase (stmts_phrases x) (stmts_phrases y)
    ∙ ap (λ b. some_read (stmts_phrases x) || b) e
    ∙ or_false (some_read (stmts_phrases x))

by_routines : (name : List ℕ) (gs : List Global) (rs : List Routine)
    → program_reads (listing_of (record { name = name; globals = gs; routines = rs })) ≡ program_reads
    (record { name = name; globals = gs; routines = rs })
by_routines name gs [] = refl
by_routines name gs (body ∷ rest) =
    let number : ℕ = suc (length rest) in
    let last : Routine = list_procedure body.line gs in
    list_any-append is_read_phrase (stmts_phrases (append_stmts body.body (list_and_fail number))) (of_each phrases (rest ++ (last ∷ [])))
    ∙ (λ i. with_tail body.body (list_and_fail number) (tail_reads_none number) i || with_last rest last (line_reads_none gs) i)
    ∙ sym (list_any-append is_read_phrase (phrases body) (of_each phrases rest))

pub each_reads_alike : EachReadsAlike listing_of
each_reads_alike p = by_routines p.name p.globals p.routines
