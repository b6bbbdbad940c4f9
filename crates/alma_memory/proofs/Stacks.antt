-- Lemmas on the stack of entries with their copies.
use Rattle.std.proofs.Common.{◌≡◌, ◌≤◌, ◌<◌, ◌+◌, ◌-◌, ℕ, suc, zero, List, [], ◌∷◌, ◌++◌, length, take, set, get_or, map, refl, sym, ap}
use Rattle.std.proofs.Common.{◌∙◌, arith}
use Rattle.std.specs.Prelude.{Some, None, slice_get}
use Rattle.std.proofs.lemmas.List.{length-set, take_all, take_more_set, length_push, get_or_push, take_at}
use Rattle.alma_code.specs.declared.cell.ChoiceKind.{ChoiceKind}
use Rattle.alma_code.specs.declared.cell.ChoiceKind.TheVariants.{Branch, Forall, Body, Done}
use Rattle.alma_code.specs.Picture.{PlainFrame, PlainEntry, no_entry, top_of, entry_at, kind_at, stack_after_pop, entry_after_pop}
use Rattle.alma_code.specs.Picture.{entry_of_kind_after_pop}
use Rattle.alma_memory_rewind.specs.PlainRewind.{top_copy}
use Rattle.alma_memory.specs.declared.stack.Entry.{Entry}
use Rattle.alma_memory.specs.Inner.Gain.{no_stack_entry}
use Rattle.alma_memory.specs.Inner.Stack.{entry_with, stack_of}

pub stack-length : (es : List Entry) (hs : List (List PlainFrame)) → length es ≡ length hs → length (stack_of es hs) ≡ length es
stack-length [] hs e = refl
stack-length (x ∷ es) [] e = absurd (omega (arith, e))
stack-length (x ∷ es) (h ∷ hs) e = ap suc (stack-length es hs (omega (arith, e)))

pub stack-push : (es : List Entry) (hs : List (List PlainFrame)) (x : Entry) (fs : List PlainFrame) → length es ≡ length hs
    → stack_of (es ++ x ∷ []) (hs ++ fs ∷ []) ≡ stack_of es hs ++ entry_with x fs ∷ []
stack-push [] [] x fs e = refl
stack-push [] (h ∷ hs) x fs e = absurd (omega (arith, e))
stack-push (y ∷ es) [] x fs e = absurd (omega (arith, e))
stack-push (y ∷ es) (h ∷ hs) x fs e = ap (λ v. entry_with y h ∷ v) (stack-push es hs x fs (omega (arith, e)))

pub stack-take : (n : ℕ) (es : List Entry) (hs : List (List PlainFrame)) → stack_of (take n es) (take n hs) ≡ take n (stack_of es hs)
stack-take zero es hs = refl
stack-take (suc n) [] hs = refl
stack-take (suc n) (x ∷ es) [] = refl
stack-take (suc n) (x ∷ es) (h ∷ hs) = ap (λ v. entry_with x h ∷ v) (stack-take n es hs)

pub stack-at : (i : ℕ) (es : List Entry) (hs : List (List PlainFrame)) → length es ≡ length hs → i < length es
    → get_or (stack_of es hs) i no_entry ≡ entry_with (get_or es i no_stack_entry) (get_or hs i [])
stack-at i [] hs e l = absurd (omega (arith, l))
stack-at i (x ∷ es) [] e l = absurd (omega (arith, e))
stack-at zero (x ∷ es) (h ∷ hs) e l = refl
stack-at (suc i) (x ∷ es) (h ∷ hs) e l = stack-at i es hs (omega (arith, e)) (omega (arith, l))

pub stack-set : (i : ℕ) (es : List Entry) (hs : List (List PlainFrame)) (x : Entry) → length es ≡ length hs
    → stack_of (set es i x) hs ≡ set (stack_of es hs) i (entry_with x (get_or hs i []))
stack-set i [] hs x e = refl
stack-set i (y ∷ es) [] x e = absurd (omega (arith, e))
stack-set zero (y ∷ es) (h ∷ hs) x e = refl
stack-set (suc i) (y ∷ es) (h ∷ hs) x e = ap (λ v. entry_with y h ∷ v) (stack-set i es hs x (omega (arith, e)))

-- the top entry
pub stack-top : (es : List Entry) (hs : List (List PlainFrame)) → length es ≡ length hs → 1 ≤ length es
    → top_of (stack_of es hs) ≡ entry_with (get_or es (length es - 1) no_stack_entry) (top_copy hs)
stack-top es hs e l =
    ap (λ n. get_or (stack_of es hs) (n - 1) no_entry) (stack-length es hs e)
    ∙ (stack-at (length es - 1) es hs e (omega (arith, l))
    ∙ ap (λ n. entry_with (get_or es (length es - 1) no_stack_entry) (get_or hs (n - 1) [])) e)

-- the last entry is the top one
pub stack-last : (es rest : List Entry) (x : Entry) (hs : List (List PlainFrame)) → es ≡ rest ++ x ∷ [] → length es ≡ length hs
    → top_of (stack_of es hs) ≡ entry_with x (top_copy hs)
stack-last es rest x hs p e =
    let wide : length es ≡ length rest + 1 = ap length p ∙ length_push rest x in
    let n : length es - 1 ≡ length rest = omega (arith, wide) in
    let at : get_or es (length es - 1) no_stack_entry ≡ x = ap (λ k. get_or es k no_stack_entry) n
    ∙ (ap (λ v. get_or v (length rest) no_stack_entry) p ∙ get_or_push rest x no_stack_entry (length rest) refl) in
    stack-top es hs e (omega (arith, wide)) ∙ ap (λ y. entry_with y (top_copy hs)) at

-- the entry at a height
pub stack-entry : (es : List Entry) (hs : List (List PlainFrame)) (h : ℕ) (x : Entry) → length es ≡ length hs → 1 ≤ h → h ≤ length es
    → x ≡ get_or es (h - 1) no_stack_entry → entry_at (stack_of es hs) h ≡ entry_with x (get_or hs (h - 1) [])
stack-entry es hs h x e a b q = stack-at (h - 1) es hs e (omega (arith, a, b)) ∙ ap (λ y. entry_with y (get_or hs (h - 1) [])) (sym q)

kind-there : (es : List Entry) (hs : List (List PlainFrame)) (b : ℕ) (x : Entry) → length es ≡ length hs → b < length es → x ≡ get_or es b x
    → slice_get (map (λ (y : PlainEntry). y.kind) (stack_of es hs)) b ≡ Some x.kind
kind-there [] hs b x e l q = absurd (omega (arith, l))
kind-there (y ∷ es) [] b x e l q = absurd (omega (arith, e))
kind-there (y ∷ es) (h ∷ hs) zero x e l q = ap (λ (z : Entry). Some z.kind) (sym q)
kind-there (y ∷ es) (h ∷ hs) (suc b) x e l q = kind-there es hs b x (omega (arith, e)) (omega (arith, l)) q

-- the kind of an entry that is there
pub kind-some : (es : List Entry) (hs : List (List PlainFrame)) (h : ℕ) (x : Entry) → length es ≡ length hs → 1 ≤ h → h ≤ length es
    → x ≡ get_or es (h - 1) x → kind_at (stack_of es hs) h ≡ Some x.kind
kind-some es hs zero x e l m p = absurd (omega (arith, l))
kind-some es hs (suc b) x e l m p =
    let z : suc b - 1 ≡ b = omega arith in
    kind-there es hs b x e (omega (arith, m)) (p ∙ ap (λ k. get_or es k x) z)

kind-past : (es : List Entry) (hs : List (List PlainFrame)) (b : ℕ) → length es ≤ b
    → slice_get (map (λ (y : PlainEntry). y.kind) (stack_of es hs)) b ≡ None
kind-past [] hs b l = refl
kind-past (y ∷ es) [] b l = refl
kind-past (y ∷ es) (h ∷ hs) zero l = absurd (omega (arith, l))
kind-past (y ∷ es) (h ∷ hs) (suc b) l = kind-past es hs b (omega (arith, l))

pub kind-none : (es : List Entry) (hs : List (List PlainFrame)) (h : ℕ) → h ≡ 0 → kind_at (stack_of es hs) h ≡ None
kind-none es hs zero e = refl
kind-none es hs (suc b) e = absurd (omega (arith, e))

pub kind-above : (es : List Entry) (hs : List (List PlainFrame)) (h : ℕ) → length es < h → kind_at (stack_of es hs) h ≡ None
kind-above es hs zero l = absurd (omega (arith, l))
kind-above es hs (suc b) l = kind-past es hs b (omega (arith, l))

-- ---- a pop

-- the entries below the last, with their copies
pub stack-rest : (es rest : List Entry) (x : Entry) (hs hs' : List (List PlainFrame)) (k : ℕ) → es ≡ rest ++ x ∷ [] → length es ≡ length hs
    → k ≡ length rest → hs' ≡ take k hs →
    stack_of rest hs' ≡ take (length (stack_of es hs) - 1) (stack_of es hs)
stack-rest es rest x hs hs' k p e q h =
    let wide : length (stack_of es hs) ≡ length es = stack-length es hs e in
    let all : length es ≡ length rest + 1 = ap length p ∙ length_push rest x in
    let n : length rest ≡ length (stack_of es hs) - 1 = omega (arith, wide, all) in
    let is : rest ≡ take (length rest) es = sym (ap (take (length rest)) p ∙ take_at rest (x ∷ []) (length rest) refl) in
    ap (λ r. stack_of r hs') is ∙ (ap (stack_of (take (length rest) es)) (h ∙ ap (λ j. take j hs) q)
    ∙ (stack-take (length rest) es hs ∙ ap (λ j. take j (stack_of es hs)) n))

set-last : {X : Type 0} (xs : List X) (x : X) → 1 ≤ length xs → set xs (length xs - 1) x ≡ take (length xs - 1) xs ++ x ∷ []
set-last xs x l =
    let lt : length xs - 1 < length xs = omega (arith, l) in
    let all : length (set xs (length xs - 1) x) ≤ length xs - 1 + 1 = rw (length-set xs (length xs - 1) x) (omega arith) in
    sym (take_all (length xs - 1 + 1) (set xs (length xs - 1) x) all) ∙ take_more_set xs (length xs - 1) x lt

-- a Forall stays as a Done
pub pops-forall : (es es' : List Entry) (hs : List (List PlainFrame)) → length es ≡ length hs → 1 ≤ length es
    → (get_or es (length es - 1) no_stack_entry).kind ≡ Forall →
    es' ≡ set es (length es - 1) (record (get_or es (length es - 1) no_stack_entry) { kind = Done })
    → stack_of es' hs ≡ stack_after_pop (stack_of es hs)
pops-forall es es' hs e l k p =
    let last : Entry = get_or es (length es - 1) no_stack_entry in
    let done : Entry = record last { kind = Done } in
    let held : List PlainEntry = stack_of es hs in
    let wide : length held ≡ length es = stack-length es hs e in
    let top : top_of held ≡ entry_with last (top_copy hs) = stack-top es hs e l in
    let at : entry_with done (get_or hs (length es - 1) []) ≡ entry_with done (top_copy hs) =
    ap (λ n. entry_with done (get_or hs (n - 1) [])) e in
    let kind : (top_of held).kind ≡ Forall = ap (λ (x : PlainEntry). x.kind) top ∙ k in
    let left : entry_after_pop (top_of held) ≡ (record (top_of held) { kind = Done }) ∷ [] =
    ap (λ y. entry_of_kind_after_pop y (top_of held)) kind in
    let same : entry_with done (top_copy hs) ≡ record (top_of held) { kind = Done } =
    ap (λ (x : PlainEntry). record x { kind = Done }) (sym top) in
    ap (λ v. stack_of v hs) p ∙ (stack-set (length es - 1) es hs done e
    ∙ (ap (set held (length es - 1)) (at ∙ same) ∙ (ap (λ n. set held (n - 1) (record (top_of held) { kind = Done })) (sym wide)
    ∙ (set-last held (record (top_of held) { kind = Done }) (omega (arith, wide, l))
    ∙ ap (λ v. take (length held - 1) held ++ v) (sym left)))))

none-left : (k : ChoiceKind) (x : PlainEntry) → (k ≡ Forall → ⊥) → entry_of_kind_after_pop k x ≡ []
none-left Forall x n = absurd (n refl)
none-left Branch x n = refl
none-left Body x n = refl
none-left Done x n = refl

-- any other entry goes
pub pops-other : (es : List Entry) (hs : List (List PlainFrame)) (after : List PlainEntry) (top : ℕ) → length es ≡ length hs → 1 ≤ length es
    → ((get_or es (length es - 1) no_stack_entry).kind ≡ Forall → ⊥) →
    top ≡ length es - 1 → after ≡ take top (stack_of es hs) → after ≡ stack_after_pop (stack_of es hs)
pops-other es hs after top e l n t p =
    let held : List PlainEntry = stack_of es hs in
    let wide : length held ≡ length es = stack-length es hs e in
    let is : top_of held ≡ entry_with (get_or es (length es - 1) no_stack_entry) (top_copy hs) = stack-top es hs e l in
    let left : entry_after_pop (top_of held) ≡ [] =
    none-left (top_of held).kind (top_of held) (λ q. n (sym (ap (λ (x : PlainEntry). x.kind) is) ∙ q)) in
    p ∙ (ap (λ k. take k held) (t ∙ ap (λ k. k - 1) (sym wide))
    ∙ (sym (append-none (take (length held - 1) held)) ∙ ap (λ v. take (length held - 1) held ++ v) (sym left)))
  where
    append-none : {X : Type 0} (xs : List X) → xs ++ [] ≡ xs
    append-none [] = refl
    append-none (x ∷ xs) = ap (λ v. x ∷ v) (append-none xs)
