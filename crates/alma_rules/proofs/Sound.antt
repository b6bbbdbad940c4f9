-- Where no name is Bad and no rule is broken, statements and expressions have their resolved part.
use Rattle.std.proofs.Common.{◌≡◌, ℕ, List, [], ◌∷◌, ◌++◌, Bool, Option, None, Some, refl, sym, subst}
use Rattle.std.specs.Prelude.{true, false, ◌&&◌, not, is_some, option_map, option_and_then, ℤ}
use Rattle.alma_base.specs.declared.fault.CheckFault.{CheckFault}
use Rattle.alma_base.specs.declared.fault.CheckFault.TheVariants as fault
use Rattle.alma_rules.specs.Numbered as tree
use Rattle.alma_rules.specs.Judgement.{Judgement, BrokenRule, at_node, broken_at, unless, both_of, when, holds, of_value}
use Rattle.alma_rules.specs.Scene.{Scene, Found, absent, bad, constant, named, variable, routine, found, text_at, is_record_in}
use Rattle.std.specs.Prelude.{slice_get}
use Rattle.alma_rules.specs.Parts.{Typing, Denotation, a_constant, a_variable, a_routine, no_array, denotation, located_in, typing_in}
use Rattle.alma_rules.specs.Parts.{callee_in}
use Rattle.alma_rules.specs.Parts.{select_field, select_index, select_in, field_of, field_part}
use Rattle.alma_rules.specs.ExprRules.{Use, as_variable, as_value, as_procedure, no_constant, not_variable, not_procedure, name_rules}
use Rattle.alma_rules.specs.ExprRules.{desig_rules, field_rules, array_rules}
use Rattle.alma_rules.specs.Nodes.{is_selected, index_at}
use Rattle.alma_ir.specs.declared.phrase.Root.{Root}
use Rattle.alma_rules.specs.Walk.{judge_expr, judge_selectors, judge_selector, judge_indices, judge_index_tail}

abbrev pub IsThere : {A : Type 0} → Option A → Type 0
IsThere None = ⊥
IsThere (Some x) = Unit {0}

-- no name stands for Bad
abbrev pub IsKnown : Scene → Found → Type 0
IsKnown s absent = Unit {0}
IsKnown s bad = ⊥
IsKnown s (constant shape v) = Unit {0}
IsKnown s (named shape) = Unit {0}
IsKnown s (variable shape root) = Unit {0}
IsKnown s (routine r up None) = s.constant ≡ true
IsKnown s (routine r up (Some h)) = Unit {0}

abbrev pub NoBad : Scene → Type 0
NoBad s = (name : tree.Name) → IsKnown s (found s name)

-- where no rule is broken there is a value
unfoldable pub Sound : {A : Type 0} → List BrokenRule → Option A → Type 0
Sound a v = a ≡ [] → IsThere v

pub nil_left : (a b : List BrokenRule) → a ++ b ≡ [] → a ≡ []
nil_left [] b h = refl
nil_left (x ∷ xs) b h = absurd (cc)

pub nil_right : (a b : List BrokenRule) → a ++ b ≡ [] → b ≡ []
nil_right [] b h = h
nil_right (x ∷ xs) b h = absurd (cc)

no_rules : (n : ℕ) (fs : List CheckFault) → broken_at n fs ≡ [] → fs ≡ []
no_rules n [] h = refl
no_rules n (f ∷ fs) h = absurd (cc)

-- no rule of a node is broken
pub quiet : (n : ℕ) (a : List BrokenRule) (fs : List CheckFault) → a ++ broken_at n fs ≡ [] → fs ≡ []
quiet n a fs h = no_rules n fs (nil_right a (broken_at n fs) h)

pub unless_there : {A : Type 0} (fs : List CheckFault) (v : Option A) → fs ≡ [] → IsThere v → IsThere (unless fs v)
unless_there [] v h t = t
unless_there (f ∷ fs) v h t = absurd (cc)

-- the first of some rules is not broken, and the others
pub when_left : (b : Bool) (f : CheckFault) (fs : List CheckFault) → when b f ++ fs ≡ [] → b ≡ false
when_left true f fs h = absurd (cc)
when_left false f fs h = refl

pub when_alone : (b : Bool) (f : CheckFault) → when b f ≡ [] → b ≡ false
when_alone true f h = absurd (cc)
when_alone false f h = refl

pub rules_left : (a b : List CheckFault) → a ++ b ≡ [] → a ≡ []
rules_left [] b h = refl
rules_left (x ∷ xs) b h = absurd (cc)

pub rules_right : (a b : List CheckFault) → a ++ b ≡ [] → b ≡ []
rules_right [] b h = h
rules_right (x ∷ xs) b h = absurd (cc)

-- ---- designators

-- the value is a variable or a part of one
abbrev pub IsVariable : Option Denotation → Type 0
IsVariable (Some (a_variable l)) = Unit {0}
IsVariable v = ⊥

-- or an index on no array
abbrev pub IsPart : Option Denotation → Type 0
IsPart (Some (a_variable l)) = Unit {0}
IsPart (Some no_array) = Unit {0}
IsPart v = ⊥

pub field_there : (s : Scene) (name : List ℕ) (v : Option Denotation) → field_rules s name v ≡ [] → IsVariable v
    → IsVariable (option_and_then (select_field s name) v)
field_there s name None h t = t
field_there s name (Some (a_variable l)) h t =
    go (is_record_in (slice_get s.shapes l.shape)) (field_of s name l)
    (when_left _ fault.NotRecord _ h) (when_alone _ fault.NoField
    (rules_right (when (holds (λ d. not (is_record_in (slice_get s.shapes l.shape))) (Some l)) fault.NotRecord) _ h))
  where
    go : (r : Bool) (o : Option (ℕ × ℕ)) → not r ≡ false → (r && not (is_some o)) ≡ false → IsVariable (option_map (field_part s l) o)
    go r (Some p) a b = tt
    go true None a b = absurd (cc)
    go false None a b = absurd (cc)
field_there s name (Some (a_constant shape v)) h t = t
field_there s name (Some (a_routine r up heading)) h t = t
field_there s name (Some no_array) h t = t

pub index_there : (s : Scene) (v : Option Denotation) (i : Option Typing) → IsPart v → IsThere i → IsPart (select_index s v i)
index_there s None i p t = p
index_there s (Some (a_constant shape v)) i p t = absurd p
index_there s (Some (a_routine r up heading)) i p t = absurd p
index_there s (Some no_array) i p t = tt
index_there s (Some (a_variable l)) i p t = go (Rattle.alma_rules.specs.Scene.row_at s l.shape) i t
  where
    go : (r : Option (ℕ × ℕ)) (j : Option Typing) → IsThere j → IsPart (select_in s l r j)
    go None j t = tt
    go (Some r) None t = absurd t
    go (Some r) (Some x) t = tt

pub array_there : (v : Option Denotation) → array_rules v ≡ [] → IsPart v → IsVariable v
array_there None h p = p
array_there (Some (a_constant shape v)) h p = p
array_there (Some (a_variable l)) h p = tt
array_there (Some (a_routine r up heading)) h p = p
array_there (Some no_array) h p = absurd (cc)

part : (v : Option Denotation) → IsVariable v → IsPart v
part None p = p
part (Some (a_constant shape v)) p = p
part (Some (a_variable l)) p = tt
part (Some (a_routine r up heading)) p = p
part (Some no_array) p = absurd p

pub unless_variable : (fs : List CheckFault) (v : Option Denotation) → fs ≡ [] → IsVariable v → IsVariable (unless fs v)
unless_variable [] v h t = t
unless_variable (f ∷ fs) v h t = absurd (cc)

-- ---- expressions

-- an expression has a type, and a value in a constant place
abbrev pub IsTyped : Scene → Option Typing → Type 0
IsTyped s None = ⊥
IsTyped s (Some t) = s.constant ≡ true → IsThere t.constant

unfoldable pub TypedExpr : Scene → List BrokenRule → Option Typing → Type 0
TypedExpr s a v = a ≡ [] → IsTyped s v

typed_there : (s : Scene) (v : Option Typing) → IsTyped s v → IsThere v
typed_there s None t = t
typed_there s (Some x) t = tt

pub typed_sound : (s : Scene) (a : List BrokenRule) (v : Option Typing) → TypedExpr s a v → Sound a v
unfolding TypedExpr Sound
typed_sound s a v t h = typed_there s v (t h)

pub clash : {A : Type 0} (b : Bool) → b ≡ true → b ≡ false → A
clash true p q = absurd (cc)
clash false p q = absurd (cc)

-- nodes that stand in no constant place
pub typed_map : {A : Type 0} (s : Scene) (f : A → Typing) (fs : List CheckFault) (v : Option A) → fs ≡ [] → s.constant ≡ false → IsThere v
    → IsTyped s (option_map f (unless fs v))
typed_map s f [] None h c t = t
typed_map s f [] (Some x) h c t = λ e. clash s.constant e c
typed_map s f (g ∷ fs) v h c t = absurd (cc)

-- nodes with the value of their part
pub typed_keep : (s : Scene) (f : Typing → Typing) (same : (t : Typing) → (f t).constant ≡ t.constant) (fs : List CheckFault)
    (v : Option Typing) → fs ≡ [] → IsTyped s v → IsTyped s (option_map f (unless fs v))
typed_keep s f same [] None h t = t
typed_keep s f same [] (Some x) h t = λ e. subst (λ (o : Option ℤ). IsThere o) (sym (same x)) (t e)
typed_keep s f same (g ∷ fs) v h t = absurd (cc)

pub typed_unless : (s : Scene) (fs : List CheckFault) (v : Option Typing) → fs ≡ [] → IsTyped s v → IsTyped s (unless fs v)
typed_unless s [] v h t = t
typed_unless s (g ∷ fs) v h t = absurd (cc)

-- ---- parts and nodes

pub sound_node : {A : Type 0} (n : ℕ) (a : List BrokenRule) (fs : List CheckFault) (v : Option A) → Sound a v
    → Sound (a ++ broken_at n fs) (unless fs v)
unfolding Sound
sound_node n a fs v p h = unless_there fs v (quiet n a fs h) (p (nil_left a (broken_at n fs) h))

pub both_there : {A B : Type 0} (v : Option A) (w : Option B) → IsThere v → IsThere w → IsThere (both_of v w)
both_there (Some x) (Some y) p q = tt
both_there (Some x) None p q = q
both_there None w p q = p

pub sound_both : {A B : Type 0} (a b : List BrokenRule) (v : Option A) (w : Option B) → Sound a v → Sound b w → Sound (a ++ b) (both_of v w)
unfolding Sound
sound_both a b v w p q h = both_there v w (p (nil_left a b h)) (q (nil_right a b h))

pub map_there : {A B : Type 0} (f : A → B) (v : Option A) → IsThere v → IsThere (option_map f v)
map_there f None p = p
map_there f (Some x) p = tt

pub sound_map : {A B : Type 0} (a : List BrokenRule) (f : A → B) (v : Option A) → Sound a v → Sound a (option_map f v)
unfolding Sound
sound_map a f v p h = map_there f v (p h)

pub sound_fine : {A : Type 0} (x : A) → Sound [] (Some x)
unfolding Sound
sound_fine x h = tt

pub typed_node : (s : Scene) (n : ℕ) (a : List BrokenRule) (fs : List CheckFault) (v : Option Typing) → TypedExpr s a v
    → TypedExpr s (a ++ broken_at n fs) (unless fs v)
unfolding TypedExpr
typed_node s n a fs v p h = typed_unless s fs v (quiet n a fs h) (p (nil_left a (broken_at n fs) h))

-- ---- designators by what is asked of them

selectors_quiet : (s : Scene) (d : Judgement Denotation) (more : tree.SelectorTail) → (judge_selectors s d more).faults ≡ [] → d.faults ≡ []
unfolding judge_expr
selectors_quiet s d tree.no_selector h = h
selectors_quiet s d (tree.more_selector (tree.field k name) rest) h =
    nil_left d.faults (broken_at k (field_rules s (text_at s name.token) d.value))
    (selectors_quiet s (judge_selector s d (tree.field k name)) rest h)
selectors_quiet s d (tree.more_selector (tree.index k items) rest) h =
    indices_quiet s d items (nil_left (judge_indices s d items).faults (broken_at k (array_rules (judge_indices s d items).value))
    (selectors_quiet s (judge_selector s d (tree.index k items)) rest h))
  where
    tail_quiet : (s : Scene) (d : Judgement Denotation) (x : tree.ExprTail) → (judge_index_tail s d x).faults ≡ [] → d.faults ≡ []
    tail_quiet s d tree.no_expr h = h
    tail_quiet s d (tree.more_expr e rest) h =
        nil_left d.faults _ (tail_quiet s (index_at s d (tree.expr_node e) (judge_expr s d.next e)) rest h)

    indices_quiet : (s : Scene) (d : Judgement Denotation) (x : tree.Exprs) → (judge_indices s d x).faults ≡ [] → d.faults ≡ []
    indices_quiet s d (tree.exprs e rest) h =
        nil_left d.faults _ (tail_quiet s (index_at s d (tree.expr_node e) (judge_expr s d.next e)) rest h)

-- ---- designators

unfoldable pub Variable : List BrokenRule → Option Denotation → Type 0
Variable a v = a ≡ [] → IsVariable v

unfoldable pub Part : List BrokenRule → Option Denotation → Type 0
Part a v = a ≡ [] → IsPart v

desig_quiet : (s : Scene) (w : Use) (sel : Bool) (f : Found) (v : Option Denotation) → desig_rules s w sel f v ≡ []
    → (no_constant s sel f ≡ false) × (not_variable w sel f ≡ false) × (not_procedure w sel f ≡ false)
desig_quiet s w sel f v q =
    let l : when (no_constant s sel f) fault.NotConst ++ when (not_variable w sel f) fault.NotVariable ≡ [] =
    rules_left _ (when (not_procedure w sel f) fault.NotProcedure) q in (
      when_left (no_constant s sel f) fault.NotConst _ l,
      when_alone (not_variable w sel f) fault.NotVariable (rules_right (when (no_constant s sel f) fault.NotConst) _ l),
      when_alone (not_procedure w sel f) fault.NotProcedure
          (rules_right (when (no_constant s sel f) fault.NotConst ++ when (not_variable w sel f) fault.NotVariable) _ q),
    )

abbrev pub Named : Scene → ℕ → ℕ → tree.Name → tree.SelectorTail → Found → Judgement Denotation
Named s k n name more f = judge_selectors s (at_node name.node (name_rules f) (of_value n (denotation s f))) more

abbrev pub Desig : Scene → ℕ → ℕ → Use → tree.Name → tree.SelectorTail → Found → Judgement Denotation
Desig s k n w name more f = at_node k (desig_rules s w (is_selected more) f) (Named s k n name more f)

-- a variable as far as its selectors go
abbrev pub GoesOn : Scene → tree.SelectorTail → Type 0
GoesOn s more = (d : Judgement Denotation) → Variable d.faults d.value
    → Variable (judge_selectors s d more).faults (judge_selectors s d more).value

named_quiet : (s : Scene) (k n : ℕ) (w : Use) (name : tree.Name) (more : tree.SelectorTail) (f : Found)
    → (Desig s k n w name more f).faults ≡ [] → broken_at name.node (name_rules f (denotation s f)) ≡ []
named_quiet s k n w name more f h =
    selectors_quiet s (at_node name.node (name_rules f) (of_value n (denotation s f))) more (nil_left (Named s k n name more f).faults _ h)

rules_quiet : (s : Scene) (k n : ℕ) (w : Use) (name : tree.Name) (more : tree.SelectorTail) (f : Found)
    → (Desig s k n w name more f).faults ≡ []
    → desig_rules s w (is_selected more) f (Named s k n name more f).value ≡ []
rules_quiet s k n w name more f h = quiet k (Named s k n name more f).faults _ h

desig_calm : (s : Scene) (k n : ℕ) (w : Use) (name : tree.Name) (more : tree.SelectorTail) (f : Found)
    → (Desig s k n w name more f).faults ≡ []
    → (no_constant s (is_selected more) f ≡ false) × (not_variable w (is_selected more) f ≡ false)
    × (not_procedure w (is_selected more) f ≡ false)
desig_calm s k n w name more f h = desig_quiet s w (is_selected more) f (Named s k n name more f).value (rules_quiet s k n w name more f h)

a_variable_there : (s : Scene) (k n : ℕ) (w : Use) (name : tree.Name) (more : tree.SelectorTail) (shape : ℕ) (root : Root) → GoesOn s more
    → (Desig s k n w name more (variable shape root)).faults ≡ [] → IsVariable (Desig s k n w name more (variable shape root)).value
unfolding Variable
a_variable_there s k n w name more shape root go h =
    unless_variable _ _ (rules_quiet s k n w name more (variable shape root) h)
    (go (at_node name.node (name_rules (variable shape root)) (of_value n (denotation s (variable shape root)))) (λ e. tt)
    (nil_left (Named s k n name more (variable shape root)).faults _ h))

is_located : (v : Option Denotation) → IsVariable v → IsThere (option_and_then located_in v)
is_located None p = p
is_located (Some (a_constant shape v)) p = p
is_located (Some (a_variable l)) p = tt
is_located (Some (a_routine r up heading)) p = p
is_located (Some no_array) p = p

is_typed : (s : Scene) (v : Option Denotation) → s.constant ≡ false → IsVariable v → IsTyped s (option_and_then typing_in v)
is_typed s None c p = p
is_typed s (Some (a_constant shape v)) c p = absurd p
is_typed s (Some (a_variable l)) c p = λ e. clash s.constant e c
is_typed s (Some (a_routine r up heading)) c p = absurd p
is_typed s (Some no_array) c p = absurd p

pub located_at : (s : Scene) (k n : ℕ) (name : tree.Name) (more : tree.SelectorTail) (f : Found) → IsKnown s f → GoesOn s more
    → (Desig s k n as_variable name more f).faults ≡ [] → IsThere (option_and_then located_in (Desig s k n as_variable name more f).value)
located_at s k n name more absent known go h =
    absurd (let q : broken_at name.node (fault.Undeclared ∷ []) ≡ [] = named_quiet s k n as_variable name more absent h in cc)
located_at s k n name more bad known go h = absurd known
located_at s k n name more (variable shape root) known go h = is_located _ (a_variable_there s k n as_variable name more shape root go h)
located_at s k n name tree.no_selector (constant shape v) known go h =
    absurd (let q : true ≡ false = (desig_calm s k n as_variable name tree.no_selector (constant shape v) h).1 in cc)
located_at s k n name (tree.more_selector x r) (constant shape v) known go h =
    absurd (let q : true ≡ false = (desig_calm s k n as_variable name (tree.more_selector x r) (constant shape v) h).1 in cc)
located_at s k n name tree.no_selector (named shape) known go h =
    absurd (let q : true ≡ false = (desig_calm s k n as_variable name tree.no_selector (named shape) h).1 in cc)
located_at s k n name (tree.more_selector x r) (named shape) known go h =
    absurd (let q : true ≡ false = (desig_calm s k n as_variable name (tree.more_selector x r) (named shape) h).1 in cc)
located_at s k n name more (routine r up None) known go h =
    clash s.constant known (desig_calm s k n as_variable name more (routine r up None) h).0
located_at s k n name tree.no_selector (routine r up (Some x)) known go h =
    absurd (let q : true ≡ false = (desig_calm s k n as_variable name tree.no_selector (routine r up (Some x)) h).1 in cc)
located_at s k n name (tree.more_selector y z) (routine r up (Some x)) known go h =
    absurd (let q : true ≡ false = (desig_calm s k n as_variable name (tree.more_selector y z) (routine r up (Some x)) h).1 in cc)

pub valued_at : (s : Scene) (k n : ℕ) (name : tree.Name) (more : tree.SelectorTail) (f : Found) → IsKnown s f → GoesOn s more
    → (Desig s k n as_value name more f).faults ≡ [] → IsTyped s (option_and_then typing_in (Desig s k n as_value name more f).value)
unfolding judge_expr
valued_at s k n name more absent known go h =
    absurd (let q : broken_at name.node (fault.Undeclared ∷ []) ≡ [] = named_quiet s k n as_value name more absent h in cc)
valued_at s k n name more bad known go h = absurd known
valued_at s k n name more (variable shape root) known go h =
    is_typed s _ (desig_calm s k n as_value name more (variable shape root) h).0
    (a_variable_there s k n as_value name more shape root go h)
valued_at s k n name tree.no_selector (constant shape v) known go h =
    go_on (desig_rules s as_value false (constant shape v) (Some (a_constant shape v)))
    (rules_quiet s k n as_value name tree.no_selector (constant shape v) h)
  where
    go_on : (fs : List CheckFault) → fs ≡ [] → IsTyped s (option_and_then typing_in (unless fs (Some (a_constant shape v))))
    go_on [] e = λ c. tt
    go_on (f ∷ fs) e = absurd (cc)
valued_at s k n name (tree.more_selector x r) (constant shape v) known go h =
    absurd (let q : true ≡ false = (desig_calm s k n as_value name (tree.more_selector x r) (constant shape v) h).1 in cc)
valued_at s k n name tree.no_selector (named shape) known go h =
    absurd (let q : true ≡ false = (desig_calm s k n as_value name tree.no_selector (named shape) h).1 in cc)
valued_at s k n name (tree.more_selector x r) (named shape) known go h =
    absurd (let q : true ≡ false = (desig_calm s k n as_value name (tree.more_selector x r) (named shape) h).1 in cc)
valued_at s k n name more (routine r up None) known go h =
    clash s.constant known (desig_calm s k n as_value name more (routine r up None) h).0
valued_at s k n name tree.no_selector (routine r up (Some x)) known go h =
    go_on (desig_rules s as_value false (routine r up (Some x)) (Some (a_routine r up x)))
    (rules_quiet s k n as_value name tree.no_selector (routine r up (Some x)) h)
    (desig_calm s k n as_value name tree.no_selector (routine r up (Some x)) h).0
  where
    go_on : (fs : List CheckFault) → fs ≡ [] → s.constant ≡ false
        → IsTyped s (option_and_then typing_in (unless fs (Some (a_routine r up x))))
    go_on [] e c = λ t. clash s.constant t c
    go_on (f ∷ fs) e c = absurd (cc)
valued_at s k n name (tree.more_selector y z) (routine r up (Some x)) known go h =
    absurd (let q : true ≡ false = (desig_calm s k n as_value name (tree.more_selector y z) (routine r up (Some x)) h).1 in cc)

pub callee_at : (s : Scene) (k n : ℕ) (name : tree.Name) (more : tree.SelectorTail) (f : Found) → IsKnown s f
    → (Desig s k n as_procedure name more f).faults ≡ [] → IsThere (option_and_then callee_in (Desig s k n as_procedure name more f).value)
unfolding judge_expr
callee_at s k n name more absent known h =
    absurd (let q : broken_at name.node (fault.Undeclared ∷ []) ≡ [] = named_quiet s k n as_procedure name more absent h in cc)
callee_at s k n name more bad known h = absurd known
callee_at s k n name more (variable shape root) known h =
    absurd (let q : true ≡ false = (desig_calm s k n as_procedure name more (variable shape root) h).2 in cc)
callee_at s k n name more (constant shape v) known h =
    absurd (let q : true ≡ false = (desig_calm s k n as_procedure name more (constant shape v) h).2 in cc)
callee_at s k n name more (named shape) known h =
    absurd (let q : true ≡ false = (desig_calm s k n as_procedure name more (named shape) h).2 in cc)
callee_at s k n name more (routine r up None) known h =
    clash s.constant known (desig_calm s k n as_procedure name more (routine r up None) h).0
callee_at s k n name tree.no_selector (routine r up (Some x)) known h =
    go_on (desig_rules s as_procedure false (routine r up (Some x)) (Some (a_routine r up x)))
    (rules_quiet s k n as_procedure name tree.no_selector (routine r up (Some x)) h)
  where
    go_on : (fs : List CheckFault) → fs ≡ [] → IsThere (option_and_then callee_in (unless fs (Some (a_routine r up x))))
    go_on [] e = tt
    go_on (f ∷ fs) e = absurd (cc)
callee_at s k n name (tree.more_selector y z) (routine r up (Some x)) known h =
    absurd (let q : true ≡ false = (desig_calm s k n as_procedure name (tree.more_selector y z) (routine r up (Some x)) h).1 in cc)
