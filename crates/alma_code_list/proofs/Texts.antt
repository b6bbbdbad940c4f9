-- The lines of a listing, one behind another.
use Rattle.std.proofs.Common.{◌≡◌, ◌∙◌, ◌+◌, ◌-◌, ◌<◌, ℕ, suc, length, get_or, subst, drop-cons, List, ◌∷◌, ◌++◌, map, flat_map, take, drop}
use Rattle.std.proofs.Common.{append_assoc, ap, sym, arith}
use Rattle.std.proofs.lemmas.List.{length-map}
use Rattle.std.proofs.Math.ListN.{get_or-map}
use Rattle.std.proofs.lemmas.Grind.{flat_map-append}
use Rattle.std.proofs.lemmas.List.Folds.{flat_map-map}
use Rattle.std.specs.Fmt.{decimal}
use Rattle.alma_code.specs.declared.instr.Instr.{Instr}
use Rattle.alma_code.specs.Plain.{PlainCode, PlainRoutine, global_of, routine_of}
use Rattle.alma_code.specs.declared.code.RoutineHead.{RoutineHead}
use Rattle.alma_code.specs.declared.code.CodeGlobal.{CodeGlobal}
use Rattle.alma_code.specs.declared.code.Line.{Line}
use Rattle.alma_code.specs.ListText.{text_line, form_words, global_words, instr_lines, line_words, routine_lines, routine_words}
use Rattle.alma_code_list.proofs.Lines.{chain}

-- a line and those behind it
pub line_next : (all text mid : List ℕ) (words : List (List ℕ)) (lines : List (List (List ℕ)))
    → text ++ flat_map text_line (words ∷ lines) ≡ all → mid ≡ text ++ text_line words → mid ++ flat_map text_line lines ≡ all
line_next all text mid words lines h e =
    ap (λ (z : List ℕ). z ++ flat_map text_line lines) e ∙ append_assoc text (text_line words) (flat_map text_line lines) ∙ h

-- the line of an instruction and those behind it
pub instrs_next : (all text mid : List ℕ) (at k : ℕ) (d : Instr) (xs : List Instr) → k < length xs
    → text ++ flat_map text_line (instr_lines (at + k) (drop k xs)) ≡ all
    → mid ≡ text ++ text_line (decimal (at + k) ∷ form_words (get_or xs k d))
    → mid ++ flat_map text_line (instr_lines (at + (k + 1)) (drop (k + 1) xs)) ≡ all
instrs_next all text mid at k d xs lt h e =
    let head : drop k xs ≡ get_or xs k d ∷ drop (suc k) xs = drop-cons xs k d lt in
    let next : at + (k + 1) ≡ suc (at + k) = omega arith in
    let one : k + 1 ≡ suc k = omega arith in
    rw (next, one) (line_next all text mid (decimal (at + k) ∷ form_words (get_or xs k d)) (instr_lines (suc (at + k)) (drop (suc k) xs))
    (subst (λ (z : List Instr). text ++ flat_map text_line (instr_lines (at + k) z) ≡ all) head h) e)

-- the lines of a routine and those of the routines behind it
pub routines_next : (code : PlainCode) (all text first mid : List ℕ) (k at : ℕ) (d routine : PlainRoutine) → k < length code.routines
    → get_or code.routines k d ≡ routine
    → text ++ flat_map text_line (routine_lines code k at (drop k code.routines)) ≡ all
    → first ≡ text ++ text_line (routine_words k routine)
    → mid ≡ first ++ flat_map text_line (instr_lines at (take (routine.code_end - at) (drop at code.instrs)))
    → mid ++ flat_map text_line (routine_lines code (k + 1) routine.code_end (drop (k + 1) code.routines)) ≡ all
routines_next code all text first mid k at d routine lt same h e f =
    let head : drop k code.routines ≡ routine ∷ drop (suc k) code.routines = drop-cons code.routines k d lt
    ∙ ap (λ (z : PlainRoutine). z ∷ drop (suc k) code.routines) same in
    let instrs : List (List (List ℕ)) = instr_lines at (take (routine.code_end - at) (drop at code.instrs)) in
    let rest : List (List (List ℕ)) = routine_lines code (suc k) routine.code_end (drop (suc k) code.routines) in
    let behind : first ++ flat_map text_line (instrs ++ rest) ≡ all =
    line_next all text first (routine_words k routine) (instrs ++ rest)
    (subst (λ (z : List PlainRoutine). text ++ flat_map text_line (routine_lines code k at z) ≡ all) head h) e in
    let one : k + 1 ≡ suc k = omega arith in
    rw one (ap (λ (z : List ℕ). z ++ flat_map text_line rest) f ∙ append_assoc first (flat_map text_line instrs) (flat_map text_line rest)
    ∙ ap (λ (z : List ℕ). first ++ z) (sym (flat_map-append text_line instrs rest)) ∙ behind)

-- the whole text, put together of its parts
pub whole_put : (one two three text : List ℕ) (head : List (List ℕ)) (gs : List CodeGlobal) (rs : List (List (List ℕ))) (ls : List Line)
    → one ≡ text_line head → two ≡ one ++ flat_map (λ g. text_line (global_words (global_of g))) gs → three ≡ two ++ flat_map text_line rs
    → text ≡ three ++ flat_map (λ l. text_line (line_words l)) ls
    → text ≡ flat_map text_line (head ∷ (map global_words (map global_of gs) ++ (rs ++ map line_words ls)))
whole_put one two three text head gs rs ls a b c d =
    let globals : flat_map (λ g. text_line (global_words (global_of g))) gs ≡ flat_map text_line (map global_words (map global_of gs)) =
    sym (flat_map-map text_line global_words (map global_of gs) ∙ flat_map-map (λ g. text_line (global_words g)) global_of gs) in
    let lines : flat_map (λ l. text_line (line_words l)) ls ≡ flat_map text_line (map line_words ls) =
    sym (flat_map-map text_line line_words ls) in
    let tail : flat_map text_line (map global_words (map global_of gs) ++ (rs ++ map line_words ls))
    ≡ flat_map text_line (map global_words (map global_of gs)) ++ (flat_map text_line rs ++ flat_map text_line (map line_words ls)) =
    flat_map-append text_line (map global_words (map global_of gs)) (rs ++ map line_words ls)
    ∙ ap (λ (z : List ℕ). flat_map text_line (map global_words (map global_of gs)) ++ z)
    (flat_map-append text_line rs (map line_words ls)) in
    chain one two text (flat_map text_line (map global_words (map global_of gs)))
    (flat_map text_line rs ++ flat_map text_line (map line_words ls))
    (b ∙ ap (λ (z : List ℕ). one ++ z) globals)
    (chain two three text (flat_map text_line rs) (flat_map text_line (map line_words ls)) c (d ∙ ap (λ (z : List ℕ). three ++ z) lines))
    ∙ ap (λ (z : List ℕ). z ++ (flat_map text_line (map global_words (map global_of gs))
    ++ (flat_map text_line rs ++ flat_map text_line (map line_words ls)))) a
    ∙ ap (λ (z : List ℕ). text_line head ++ z) (sym tail)

-- the same, as the code reads its routines
pub routines_step : (code : PlainCode) (items read : List RoutineHead) (item : RoutineHead) (instrs between : List Instr)
    (all text first mid : List ℕ)
    (k at : ℕ) → code.routines ≡ map routine_of items → read ≡ items → k < length read → item ≡ get_or read k item
    → text ++ flat_map text_line (routine_lines code k at (drop k code.routines)) ≡ all
    → first ≡ text ++ text_line (routine_words k (routine_of item))
    → instrs ≡ code.instrs → between ≡ take (item.code_end - at) (drop at instrs)
    → mid ≡ first ++ flat_map text_line (instr_lines at between)
    → mid ++ flat_map text_line (routine_lines code (k + 1) item.code_end (drop (k + 1) code.routines)) ≡ all
routines_step code items read item instrs between all text first mid k at r e lt is h f i b g =
    let few : k < length (map routine_of items) = rw (length-map items routine_of) (subst (λ (z : List RoutineHead). k < length z) e lt) in
    let there : get_or items k item ≡ item = sym (subst (λ (z : List RoutineHead). item ≡ get_or z k item) e is) in
    let same : get_or (map routine_of items) k (routine_of item) ≡ routine_of item = get_or-map routine_of items k item
    ∙ ap routine_of there in
    let body : between ≡ take (item.code_end - at) (drop at code.instrs) = b
    ∙ ap (λ (z : List Instr). take (item.code_end - at) (drop at z)) i in
    routines_next code all text first mid k at (routine_of item) (routine_of item)
    (subst (λ (z : List PlainRoutine). k < length z) (sym r) few)
    (subst (λ (z : List PlainRoutine). get_or z k (routine_of item) ≡ routine_of item) (sym r) same) h f
    (g ∙ ap (λ (z : List Instr). first ++ flat_map text_line (instr_lines at z)) body)
