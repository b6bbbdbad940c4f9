-- What code that keeps the names of its program shows of its variables and routines.
use Rattle.std.proofs.Common.{◌≡◌, ◌∙◌, ◌++◌, ◌+◌, ◌<◌, ◌≤◌, ℕ, zero, suc, List, [], ◌∷◌, length, get_or, refl, sym, ap, subst, arith}
use Rattle.std.specs.Prelude.{map}
use Rattle.std.specs.List.{AllByRecursion}
use Rattle.alma_base.specs.Limits.{input_limit}
use Rattle.alma_base.specs.Choice.{if_true}
use Rattle.alma_ir.specs.Tree.{Program, Routine, Global}
use Rattle.alma_ir.specs.Tree as tree
use Rattle.alma_code.specs.declared.cell.Cell.TheVariants as cell
use Rattle.alma_code.specs.declared.step.End.TheVariants as end
use Rattle.alma_code.specs.Picture.{PlainFrame, cell_at}
use Rattle.alma_code.specs.Plain.{PlainCode, PlainRoutine, PlainGlobal}
use Rattle.alma_code.specs.Plain as plain
use Rattle.alma_code.specs.Machine.{State, Ended}
use Rattle.alma_code.specs.TraceText.{cell_text, same_name, cells_text, value_of_name, watched_words}
use Rattle.alma_lower_implements.specs.Implements.{state_after}
use Rattle.alma_lower_implements.specs.Values.{KeepsValues, cell_of_value}
use Rattle.alma_mean.specs.Store.{Store}
use Rattle.alma_mean.specs.Store as store
use Rattle.alma_lower.specs.Names.{KeepsNames, global_named}
use Rattle.alma_run_laws.specs.Variables.{variable_word, frames_of_store, IsMeantWord}

-- what is shown of a watched name is the value of the variable
pub variables_shown : (code : PlainCode) (p : Program) (names : List (List ℕ)) (s : State) → KeepsNames code p
    → watched_words code names s ≡ map (variable_word s.now p.globals) names
variables_shown code p [] s keeps = refl
variables_shown code p (name ∷ rest) s keeps =
    let value = ap (λ (gs : List PlainGlobal). value_of_name s.now gs name) keeps.variables in
    ap (λ (v : List ℕ). (name ++ 61 ∷ v) ∷ watched_words code rest s) value
    ∙ ap (λ (words : List (List ℕ)). variable_word s.now p.globals name ∷ words) (variables_shown code p rest s keeps)

-- routines with the same names have them one by one
name_at : (xs : List PlainRoutine) (ys : List Routine) → map (λ (x : PlainRoutine). x.name) xs ≡ map (λ (y : Routine). y.name) ys → (r : ℕ)
    → (get_or xs r plain.no_routine).name ≡ (get_or ys r tree.no_routine).name
name_at [] [] e r = refl
name_at [] (y ∷ ys) e r = cc e
name_at (x ∷ xs) [] e r = cc e
name_at (x ∷ xs) (y ∷ ys) e zero = cc e
name_at (x ∷ xs) (y ∷ ys) e (suc r) =
    let rest : map (λ (x : PlainRoutine). x.name) xs ≡ map (λ (y : Routine). y.name) ys = cc e in
    name_at xs ys rest r

pub routines_shown : (code : PlainCode) (p : Program) (r : ℕ) → KeepsNames code p
    → (plain.routine_at code r).name ≡ (tree.routine_at p r).name
routines_shown code p r keeps = name_at code.routines p.routines keeps.routines r

-- ---- values at a success

-- an item of a list whose items are mapped
get_mapped : (cells : List store.Cell) (i : ℕ)
    → get_or (map cell_of_value cells) i cell.Unknown ≡ cell_of_value (get_or cells i store.Unknown)
get_mapped [] i = refl
get_mapped (c ∷ cells) zero = refl
get_mapped (c ∷ cells) (suc i) = get_mapped cells i

-- cells that hold the same have one text
one_text : (frames frames' : List PlainFrame) (slot n : ℕ)
    → ((k : ℕ) → k < n → cell_at frames 0 (slot + k) cell.Unknown ≡ cell_at frames' 0 (slot + k) cell.Unknown)
    → cells_text frames slot n ≡ cells_text frames' slot n
one_text frames frames' slot zero same = refl
one_text frames frames' slot (suc zero) same =
    let here : slot + 0 ≡ slot = omega arith in
    ap cell_text (subst (λ i. cell_at frames 0 i cell.Unknown ≡ cell_at frames' 0 i cell.Unknown) here (same 0 (omega arith)))
one_text frames frames' slot (suc (suc n)) same =
    let here : slot + 0 ≡ slot = omega arith in
    ap (λ c. cell_text c ++ 44 ∷ cells_text frames (suc slot) (suc n))
    (subst (λ i. cell_at frames 0 i cell.Unknown ≡ cell_at frames' 0 i cell.Unknown) here (same 0 (omega arith)))
    ∙ ap (λ (rest : List ℕ). cell_text (cell_at frames' 0 slot cell.Unknown) ++ 44 ∷ rest)
    (one_text frames frames' (suc slot) (suc n)
    (λ k lt. let next : slot + suc k ≡ suc slot + k = omega arith in
    subst (λ i. cell_at frames 0 i cell.Unknown ≡ cell_at frames' 0 i cell.Unknown) next (same (suc k) (omega arith))))

-- a variable has one value in frames that hold what a store does, and in the store
value_in_store : (s : Store) (frames : List PlainFrame) (gs : List Global) (name : List ℕ)
    → AllByRecursion (λ g. (k : ℕ) → k < g.cells
    → cell_at frames 0 (g.slot + k) cell.Unknown ≡ cell_of_value (store.cell_at s 0 (g.slot + k))) gs
    → value_of_name frames (map global_named gs) name ≡ value_of_name (frames_of_store s) (map global_named gs) name
value_in_store s frames [] name holds = refl
value_in_store s frames (g ∷ rest) name holds =
    ap (λ (value : List ℕ). if_true (same_name g.name name) (λ _. value) (λ _. value_of_name frames (map global_named rest) name))
    (one_text frames (frames_of_store s) g.slot g.cells
    (λ k lt. holds.0 k lt ∙ sym (get_mapped (get_or s 0 store.no_frame).cells (g.slot + k))))
    ∙ ap (λ (later : List ℕ). if_true (same_name g.name name) (λ _. cells_text (frames_of_store s) g.slot g.cells) (λ _. later))
    (value_in_store s frames rest name holds.1)

-- where a run has come to success, a variable shows what the meaning gives it
pub values_meant : (code : PlainCode) (p : Program) (input : List ℕ) (steps : ℕ) (name : List ℕ) → KeepsValues code p
    → length input ≤ input_limit → (state_after code input steps).mode ≡ Ended end.Succeeded
    → IsMeantWord p input steps name (variable_word (state_after code input steps).now p.globals name)
values_meant code p input steps name values short ended =
    let v = values input short steps ended in
    (v.0, v.1, ap (λ (value : List ℕ). name ++ 61 ∷ value) (value_in_store v.0 (state_after code input steps).now p.globals name v.2))
