-- The plan of the program has ends of its own.
use Rattle.std.proofs.Common.{◌≡◌, ◌∙◌, ℕ, List, [], ◌∷◌, ◌++◌, refl, sym, ap, inl, inr, arith}
use Rattle.std.specs.Prelude.{Bool, true, false, Option, None, Some, Result, Ok, Err}
use Rattle.std.specs.List.{list_any}
use Rattle.alma_code.specs.Plain.{PlainCode}
use Rattle.alma_code.specs.Reads.{code_reads}
use Rattle.alma_verify.specs.Bytes.{object_code}
use Rattle.alma_plan.specs.Objects.{object_refusal}
use Rattle.alma_plan.specs.Plan.{Ending, silent, prints, plain}
use Rattle.alma_plan.specs.Words.{bad_file}
use Rattle.alma_plan.proofs.OwnEnds.{HasOwnEnds}
use Rattle.alma_plan.proofs.PlainEnds.{own_status, refusal_status}
use Rattle.alma_pool.specs.Due.{program, pool_text, or_refused, open_objects, play_on_plan, play_plan, unless_bad_turn, objects_plan}
use Rattle.alma_pool.specs.Due.{fetch_plan}
use Rattle.alma_pool.specs.Due.{words_plan, pool_plan}

-- ---- objects

-- an object is refused with one status
opened_status : (o : Option Ending) (rest : Result (List PlainCode) Ending) (end : Ending) → ((x : Ending) → o ≡ Some x → x.status ≡ 9)
    → (rest ≡ Err end → end.status ≡ 9) → or_refused o rest ≡ Err end → end.status ≡ 9
opened_status None rest end this more e = more e
opened_status (Some x) rest end this more e =
    let same : x ≡ end = cc e in
    sym (ap (λ (y : Ending). y.status) same) ∙ this x refl

opening_status : (got : List PlainCode) (objects : List (List ℕ)) (end : Ending) → open_objects got objects ≡ Err end → end.status ≡ 9
opening_status got [] end e = cc e
opening_status got (bytes ∷ objects) end e =
    opened_status (object_refusal program bytes) (open_objects (got ++ object_code bytes ∷ []) objects) end (refusal_status program bytes)
    (opening_status (got ++ object_code bytes ∷ []) objects end) e

-- ---- all its ends

own_on : (reads : Bool) (all : List PlainCode) (turns : List ℕ) → HasOwnEnds plain (play_on_plan reads all turns)
own_on true all turns = λ bytes. own_status (prints (pool_text 0 all bytes turns)) 0 refl (inl (omega arith))
own_on false all turns = own_status (prints (pool_text 0 all [] turns)) 0 refl (inl (omega arith))

own_played : (opened : Result (List PlainCode) Ending) (turns : List ℕ) → ((end : Ending) → opened ≡ Err end → end.status ≡ 9)
    → HasOwnEnds plain (play_plan opened turns)
own_played (Ok all) turns refused = own_on (list_any code_reads all) all turns
own_played (Err end) turns refused = own_status (silent end) 9 (refused end refl) (inr (omega arith))

own_play_files : (bad : Option ℕ) (turns : List ℕ) (objects : List (List ℕ)) → HasOwnEnds plain (unless_bad_turn bad turns objects)
own_play_files None turns objects = own_played (open_objects [] objects) _ (opening_status [] objects)
own_play_files (Some turn) turns objects = own_status _ 13 refl (inr (omega arith))

own_fetching : (turns : List ℕ) (got names : List (List ℕ)) → HasOwnEnds plain (objects_plan turns got names)
own_fetching turns got [] = own_play_files _ turns got
own_fetching turns got (name ∷ names) = λ bytes. own_fetching turns (got ++ bytes ∷ []) names

own_asked : (words : List (List ℕ)) → HasOwnEnds plain (fetch_plan words)
own_asked [] = own_status _ 2 refl (inl (omega arith))
own_asked (turns ∷ objects) = λ bytes. own_fetching bytes [] objects

own_planned : (bad : Option ℕ) (words : List (List ℕ)) → HasOwnEnds plain (words_plan bad words)
own_planned None words = own_asked words
own_planned (Some word) words = own_status _ 2 refl (inl (omega arith))

pub own_plan : (words : List (List ℕ)) → HasOwnEnds plain (pool_plan words)
own_plan words = own_planned (bad_file 1 0 words) words
