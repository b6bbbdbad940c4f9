-- The lines of programs.
use Rattle.std.proofs.Common.{◌≡◌, ◌<◌, ◌+◌, ◌∙◌, ℕ, zero, suc, List, [], ◌∷◌, ◌++◌, length, get_or, take, drop, refl, sym, ap, arith}
use Rattle.std.proofs.Common.{append_assoc, length-take-le}
use Rattle.std.proofs.lemmas.List.{append-nil, take-append-drop, take_more, drop_more, get_or-map, length-map}
use Rattle.std.specs.Prelude.{Option, None, Some, Result, Ok, Err, MatchResult, IsErrAnd, true, codes, decimal}
use Rattle.alma_code.specs.declared.step.End.{End}
use Rattle.alma_code.specs.declared.step.End.TheVariants as ended
use Rattle.alma_code.specs.Plain.{PlainCode}
use Rattle.alma_io.specs.Outside.{Writes}
use Rattle.alma_io.specs.Sides.{SinkSide}
use Rattle.alma_plan.specs.Course.{Goes, cut_short, whole}
use Rattle.alma_plan.specs.Plan.{IsDue, prints}
use Rattle.alma_plan.specs.Refusals.{end_by, stop_end}
use Rattle.alma_plan.specs.declared.stop.Stop.{Stop}
use Rattle.alma_plan.specs.declared.stop.Stop.TheVariants.{Write}
use Rattle.alma_pool.specs.Due.{program, program_lines, program_text, end_text, pool_text}
use Rattle.alma_pool.specs.Inner.{end_word, fault_word, shown_text, players_at_start}
use Rattle.alma_pool.specs.Pool.{PlayerState, PoolView, LoneRun, lone_run, seen_of, player_at_start, ended_in, no_code, no_program}
use Rattle.alma_pool.specs.Pool.{program_at}
use Rattle.alma_pool.specs.Pool.{after_turns}
use Rattle.alma_pool.specs.Pool.{turns_of}
use Rattle.alma_pool.proofs.Alone.{run_alone}
use Rattle.alma_pool.proofs.Players.{pool_of}

-- ---- one program

-- the parts of its lines, one after another
abbrev parts_of : (first number space word fault bytes count end output : List ℕ) → List ℕ
parts_of first number space word fault bytes count end output =
    first ++ (number ++ (space ++ (word ++ (fault ++ (bytes ++ (count ++ (end ++ (output ++ (end ++ [])))))))))

pub lines_parts : (first number space word fault bytes count end output : List ℕ) (n : ℕ) → first ≡ codes "program " → number ≡ decimal n
    → space ≡ codes " "
    → bytes ≡ codes " bytes " → count ≡ decimal (length output) → end ≡ codes "\n"
    → first ++ (number ++ (space ++ (word ++ (fault ++ (bytes ++ (count ++ (end ++ (output ++ (end ++ []))))))))) ≡ program_lines n
    (word ++ fault) output
lines_parts first number space word fault bytes count end output n f m b y k e =
    ap (λ x. parts_of x number space word fault bytes count end output) f
    ∙ ap (λ x. parts_of (codes "program ") x space word fault bytes count end output) m
    ∙ ap (λ x. parts_of (codes "program ") (decimal n) x word fault bytes count end output) b
    ∙ ap (λ x. parts_of (codes "program ") (decimal n) (codes " ") word fault x count end output) y
    ∙ ap (λ x. parts_of (codes "program ") (decimal n) (codes " ") word fault (codes " bytes ") x end output) k
    ∙ ap (λ x. parts_of (codes "program ") (decimal n) (codes " ") word fault (codes " bytes ") (decimal (length output)) x output) e
    ∙ ap (λ x. codes "program " ++ (decimal n ++ (codes " " ++ x)))
    (sym (append_assoc word fault (codes " bytes " ++ (decimal (length output) ++ (codes "\n" ++ (output ++ codes "\n"))))))

-- the words for an end, with the name of a fault
end_words : (end : Option End) → end_word end ++ fault_word end ≡ end_text end
end_words None = refl
end_words (Some ended.Succeeded) = refl
end_words (Some ended.Failed) = refl
end_words (Some (ended.Fault fault)) = refl

pub program_shown : (n : ℕ) (p : PlayerState) (end : Option End) (word fault output : List ℕ) → end ≡ ended_in p.state.mode
    → word ≡ end_word end
    → fault ≡ fault_word end
    → output ≡ p.output → program_lines n (word ++ fault) output ≡ program_text n (seen_of p)
program_shown n p end word fault output is w f o =
    ap (λ x. program_lines n (x ++ fault) output) w ∙ ap (λ x. program_lines n (end_word end ++ x) output) f
    ∙ ap (λ x. program_lines n x output) (end_words end) ∙ ap (λ x. program_lines n (end_text x) output) is
    ∙ ap (λ x. program_lines n (end_text (ended_in p.state.mode)) x) o

-- ---- all programs

shown_append : (before : ℕ) (ps qs : List PlayerState)
    → shown_text before (ps ++ qs) ≡ shown_text before ps ++ shown_text (before + length ps) qs
shown_append before [] qs =
    let e : before ≡ before + zero = omega arith in
    ap (λ n. shown_text n qs) e
shown_append before (p ∷ ps) qs =
    let t = program_text (before + 1) (seen_of p) in
    let e : before + 1 + length ps ≡ before + suc (length ps) = omega arith in
    ap (λ z. t ++ z) (shown_append (before + 1) ps qs)
    ∙ sym (append_assoc t (shown_text (before + 1) ps) (shown_text (before + 1 + length ps) qs))
    ∙ ap (λ n. (t ++ shown_text (before + 1) ps) ++ shown_text n qs) e

-- how many stand before one of them
behind : (ps : List PlayerState) (k : ℕ) → k < length ps → 0 + length (take k ps) ≡ k
behind ps k within = omega (arith, length-take-le k ps (omega (arith, within)))

-- all, by those before one of them, that one, and those behind it
pub shown_here : (ps : List PlayerState) (k : ℕ) → k < length ps
    → shown_text 0 ps ≡ shown_text 0 (take k ps)
    ++ (program_text (k + 1) (seen_of (get_or ps k no_program)) ++ shown_text (k + 1) (drop (k + 1) ps))
shown_here ps k within =
    let one = get_or ps k no_program in
    ap (shown_text 0) (sym (take-append-drop k ps) ∙ ap (λ xs. take k ps ++ xs) (drop_more ps k no_program within))
    ∙ shown_append 0 (take k ps) (one ∷ drop (k + 1) ps)
    ∙ ap (λ n. shown_text 0 (take k ps) ++ shown_text n (one ∷ drop (k + 1) ps)) (behind ps k within)

-- those so far, and one more
pub shown_more : (ps : List PlayerState) (k : ℕ) → k < length ps
    → shown_text 0 (take (k + 1) ps) ≡ shown_text 0 (take k ps) ++ program_text (k + 1) (seen_of (get_or ps k no_program))
shown_more ps k within =
    let one = get_or ps k no_program in
    ap (shown_text 0) (take_more ps k no_program within) ∙ shown_append 0 (take k ps) (one ∷ [])
    ∙ ap (λ n. shown_text 0 (take k ps) ++ shown_text n (one ∷ [])) (behind ps k within)
    ∙ ap (λ z. shown_text 0 (take k ps) ++ z) (append-nil (program_text (k + 1) (seen_of one)))

-- what is shown of programs that stand where each would stand alone
shown_is : (before : ℕ) (ps : List PlayerState) (codes : List PlainCode) (input turns : List ℕ) → length ps ≡ length codes
    → ((k : ℕ) → k < length codes → seen_of (get_or ps k no_program) ≡ lone_run (get_or codes k no_code) input
    (turns_of (before + k) turns))
    → shown_text before ps ≡ pool_text before codes input turns
shown_is before [] [] input turns e each = refl
shown_is before [] (code ∷ codes) input turns e each = absurd (omega (arith, e))
shown_is before (p ∷ ps) [] input turns e each = absurd (omega (arith, e))
shown_is before (p ∷ ps) (code ∷ codes) input turns e each =
    let none : before + zero ≡ before = omega arith in
    let first : seen_of p ≡ lone_run code input (turns_of before turns) = each zero (omega arith)
    ∙ ap (λ n. lone_run code input (turns_of n turns)) none in
    let rest : shown_text (before + 1) ps ≡ pool_text (before + 1) codes input turns =
    shown_is (before + 1) ps codes input turns (omega (arith, e)) (λ k within.
    let one : before + suc k ≡ before + 1 + k = omega arith in
    each (suc k) (omega (arith, within)) ∙ ap (λ n. lone_run (get_or codes k no_code) input (turns_of n turns)) one) in
    ap (λ (l : LoneRun). program_text (before + 1) l ++ shown_text (before + 1) ps) first
    ∙ ap (λ z. program_text (before + 1) (lone_run code input (turns_of before turns)) ++ z) rest

-- all turns were made by codes from their start
pub shown_alone : (codes : List PlainCode) (input turns : List ℕ) (before now : PoolView)
    → before ≡ pool_of (players_at_start codes input) true
    → now ≡ after_turns before turns
    → length now.programs ≡ length codes → shown_text 0 now.programs ≡ pool_text 0 codes input turns
shown_alone codes input turns before now start is count =
    shown_is 0 now.programs codes input turns count (λ k within.
    let begin : PlainCode → PlayerState = λ code. player_at_start code input in
    let there : k < length before.programs =
    omega (arith, within, ap (λ (p : PoolView). length p.programs) start, length-map codes begin) in
    let at : program_at before k ≡ player_at_start (get_or codes k no_code) input =
    ap (λ (p : PoolView). program_at p k) start ∙ get_or-map begin codes k no_code no_program within in
    let none : k ≡ 0 + k = omega arith in
    ap (λ (p : PoolView). seen_of (program_at p k)) is ∙ run_alone before turns k (get_or codes k no_code) input there at
    ∙ ap (λ n. lone_run (get_or codes k no_code) input (turns_of n turns)) none)

-- ---- the end of a call that shows them

-- it ends well where the bytes were written, and by a write fault where a write failed within them
pub goes_shown : {E : Type 0} (bytes : List ℕ) (out out' : SinkSide) (wrote : Result (Unit {0}) E) (ended : Result (Unit {0}) Stop)
    → Writes out out' bytes wrote → MatchResult wrote (λ done. ended ≡ Ok done) (λ _. IsErrAnd ended (λ stop. stop ≡ Write))
    → Goes program (IsDue (prints bytes)) out out' (end_by (stop_end program) ended)
goes_shown bytes out out' (Ok done) ended wrote same = rw same (whole (prints bytes) refl refl refl wrote)
goes_shown bytes out out' (Err fault) (Ok done) wrote same = absurd same
goes_shown bytes out out' (Err fault) (Err stop) wrote same = rw same (cut_short (prints bytes) refl refl refl wrote)
