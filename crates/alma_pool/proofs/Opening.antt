-- Objects that are opened one after another.
use Rattle.std.proofs.Common.{◌≡◌, ◌<◌, ◌≤◌, ◌+◌, ◌∙◌, ℕ, List, [], ◌∷◌, ◌++◌, length, get_or, drop, sym, ap}
use Rattle.std.proofs.lemmas.List.{drop_more, drop_all, map-append}
use Rattle.std.specs.Prelude.{false, ◌||◌, None, Some, Ok, Err}
use Rattle.std.specs.List.{list_any}
use Rattle.std.specs.Global.{Vec}
use Rattle.alma_code.specs.Plain.{PlainCode}
use Rattle.alma_code.specs.Reads.{code_reads}
use Rattle.alma_verify.specs.Bytes.{object_code}
use Rattle.alma_verify.specs.Verified.{code_of_verified}
use Rattle.alma_verify.specs.declared.verified.Verified.{Verified}
use Rattle.alma_plan.specs.Plan.{Ending}
use Rattle.alma_plan.specs.Objects.{object_refusal}
use Rattle.alma_pool.specs.Due.{program, or_refused, open_objects}
use Rattle.alma_pool.specs.Inner.{all_bytes, codes_of}

-- what is left of a list from one of its items on
pub drop_here : {X : Type 0} (xs : List X) (i : ℕ) (x d : X) → i < length xs → x ≡ get_or xs i d → drop i xs ≡ x ∷ drop (i + 1) xs
drop_here xs i x d within is = drop_more xs i d within ∙ ap (λ y. y ∷ drop (i + 1) xs) (sym is)

module _ (objects : List (Vec ℕ)) (i : ℕ) (object d : Vec ℕ) (got : List PlainCode) (within : i < length objects)
    (is : object ≡ get_or objects i d)
    (before : open_objects [] (all_bytes objects) ≡ open_objects got (all_bytes (drop i objects))) where
  -- what comes of the objects, from one of them on
  opening_here : open_objects [] (all_bytes objects)
      ≡ or_refused (object_refusal program object.items)
      (open_objects (got ++ object_code object.items ∷ []) (all_bytes (drop (i + 1) objects)))
  opening_here = before ∙ ap (λ xs. open_objects got (all_bytes xs)) (drop_here objects i object d within is)

  -- it is refused
  pub opening_stops : (end : Ending) → object_refusal program object.items ≡ Some end → open_objects [] (all_bytes objects) ≡ Err end
  opening_stops end refused =
      opening_here ∙ ap (λ o. or_refused o (open_objects (got ++ object_code object.items ∷ []) (all_bytes (drop (i + 1) objects)))) refused

  -- it is not
  pub opening_more : (code : PlainCode) → object_refusal program object.items ≡ None → code ≡ object_code object.items
      → open_objects [] (all_bytes objects) ≡ open_objects (got ++ code ∷ []) (all_bytes (drop (i + 1) objects))
  opening_more code clean same =
      opening_here ∙ ap (λ o. or_refused o (open_objects (got ++ object_code object.items ∷ []) (all_bytes (drop (i + 1) objects)))) clean
      ∙ ap (λ k. open_objects (got ++ k ∷ []) (all_bytes (drop (i + 1) objects))) (sym same)

-- all were opened
pub opening_ends : (objects : List (Vec ℕ)) (i : ℕ) (got : List PlainCode) → length objects ≤ i
    → open_objects [] (all_bytes objects) ≡ open_objects got (all_bytes (drop i objects)) → open_objects [] (all_bytes objects) ≡ Ok got
opening_ends objects i got all before = before ∙ ap (λ xs. open_objects got (all_bytes xs)) (drop_all i objects all)

-- the codes of verified views and one more
pub codes_more : (verified : List Verified) (one : Verified)
    → codes_of (verified ++ one ∷ []) ≡ codes_of verified ++ code_of_verified one ∷ []
codes_more verified one = map-append code_of_verified verified (one ∷ [])

-- whether one of the codes reads, from one of them on
pub reads_here : (verified : List Verified) (i : ℕ) (one d : Verified) → i < length verified → one ≡ get_or verified i d
    → list_any code_reads (codes_of (drop i verified))
    ≡ (code_reads (code_of_verified one) || list_any code_reads (codes_of (drop (i + 1) verified)))
reads_here verified i one d within is = ap (λ xs. list_any code_reads (codes_of xs)) (drop_here verified i one d within is)

-- none of them does, and there are no more
pub reads_none : (verified : List Verified) (i : ℕ) → length verified ≤ i → list_any code_reads (codes_of (drop i verified)) ≡ false
reads_none verified i all = ap (λ xs. list_any code_reads (codes_of xs)) (drop_all i verified all)
