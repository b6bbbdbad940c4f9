-- What a scene is to have, so that what is judged in it fits a place of a program; and what values and designators keep.
use Rattle.std.proofs.Common.{◌≡◌, ℕ, ◌<◌, ◌≤◌, Bool, true, false, List, [], ◌∷◌, ◌++◌, Option, None, Some, refl, sym, ap, ◌∙◌, subst}
use Rattle.std.proofs.Common.{arith, append_assoc}
use Rattle.std.specs.Prelude.{not, ◌&&◌, ◌||◌, nat_eq}
use Rattle.std.proofs.lemmas.Bool.{eqb-true}
use Rattle.alma_base.specs.declared.fault.CheckFault.{CheckFault}
use Rattle.alma_ir.specs.declared.program.Param.{Param}
use Rattle.alma_ir.specs.Tree as ir
use Rattle.alma_ir.specs.Tree.{routine_at}
use Rattle.alma_ir.specs.Phrases.{ExprPhrase, TestPhrase, DesigPhrase, expr_phrases, test_phrases, desig_phrases, sels_phrases, sel_phrases}
use Rattle.alma_ir.specs.Checked.{desig_cells, cells_after, sel_cells, IsPart, ArePartsOf}
use Rattle.alma_rules.specs.Judgement.{when}
use Rattle.alma_rules.specs.Scene.{Scene, FormalOf, Returns, nothing, a_value, Found, absent, bad, constant, named, variable, routine}
use Rattle.alma_rules.specs.Scene.{found, in_constant, inside_of, base, cells, is_structured}
use Rattle.alma_rules.specs.Parts.{Meaning, a_place, plain, a_test, Typing, value_of, test_of, no_place, Location, desig_of, with_sel}
use Rattle.alma_resolved.specs.Fits.{Place, RootFits, PhrasesFit}
use Rattle.alma_resolved.specs.Scenes.{FormalsFit, ResultFits, FoundFits, ReturnsSimple, SceneFits}
use Rattle.alma_resolved.proofs.Fits.{laid_cons, laid_join, laid_wide, laid_one}

-- ---- tests

pub no_fault : (b : Bool) (f : CheckFault) (fs : List CheckFault) → when b f ++ fs ≡ [] → (b ≡ false) × (fs ≡ [])
no_fault true f fs h = absurd (cc)
no_fault false f fs h = (refl, h)

pub no_fault_alone : (b : Bool) (f : CheckFault) → when b f ≡ [] → b ≡ false
no_fault_alone true f h = absurd (cc)
no_fault_alone false f h = refl

pub no_faults_left : (a b : List CheckFault) → a ++ b ≡ [] → a ≡ []
no_faults_left [] b h = refl
no_faults_left (x ∷ xs) b h = absurd (cc)

pub no_faults_right : (a b : List CheckFault) → a ++ b ≡ [] → b ≡ []
no_faults_right [] b h = h
no_faults_right (x ∷ xs) b h = absurd (cc)

pub or_left : (a b : Bool) → (a || b) ≡ false → a ≡ false
or_left false b h = refl
or_left true b h = h

pub or_right : (a b : Bool) → (a || b) ≡ false → b ≡ false
or_right false b h = h
or_right true b h = absurd (cc)

pub and_false : (a b : Bool) → (a && b) ≡ false → a ≡ true → b ≡ false
and_false true b h e = h
and_false false b h e = absurd (cc)

pub not_false : (a : Bool) → not a ≡ false → a ≡ true
not_false true h = refl
not_false false h = absurd (cc)

pub same_number : (a b : ℕ) → not (nat_eq a b) ≡ false → a ≡ b
same_number a b h = eqb-true a b (not_false (nat_eq a b) h)

pub clash : {A : Type 0} (b : Bool) → b ≡ true → b ≡ false → A
clash true p q = absurd (cc)
clash false p q = absurd (cc)

pub env_constant : (k : Place) (s : Scene) → SceneFits k s → SceneFits k (in_constant s)
env_constant k s e = record {
  table = e.table;
  names = λ name. go (found s name) (e.names name);
  returns = e.returns;
  result =
      by s.returns e.result;
}
  where
    by : (r : Returns) → ReturnsSimple s r → ReturnsSimple (in_constant s) r
    by nothing h = h
    by (a_value None) h = h
    by (a_value (Some shape)) h = h

    go : (f : Found) → FoundFits k s f → FoundFits k (in_constant s) f
    go absent h = h
    go bad h = h
    go (constant shape v) h = h
    go (named shape) h = h
    go (variable shape root) h = h
    go (routine q up None) h = h
    go (routine q up (Some x)) h = record {
      some = h.some;
      exists = h.exists;
      links = h.links;
      result = same_result x.result h.result;
      formals = same_formals x.formals (routine_at k.program q).params h.formals;
    }
      where
        same_result : (o : Option ℕ) → ResultFits s o (routine_at k.program q) → ResultFits (in_constant s) o (routine_at k.program q)
        same_result None h = h
        same_result (Some shape) h = h

        same_formals : (fs : List FormalOf) (qs : List Param) → FormalsFit s fs qs → FormalsFit (in_constant s) fs qs
        same_formals [] [] h = h
        same_formals [] (q ∷ qs) h = h
        same_formals (f ∷ fs) [] h = h
        same_formals (f ∷ fs) (q ∷ qs) h = (h.0, same_formals fs qs h.1)

pub env_inside : (k : Place) (s : Scene) → SceneFits k s → SceneFits k (inside_of s)
env_inside k s e = record {
  table = e.table;
  names = λ name. go (found s name) (e.names name);
  returns = e.returns;
  result =
      by s.returns e.result;
}
  where
    by : (r : Returns) → ReturnsSimple s r → ReturnsSimple (inside_of s) r
    by nothing h = h
    by (a_value None) h = h
    by (a_value (Some shape)) h = h

    go : (f : Found) → FoundFits k s f → FoundFits k (inside_of s) f
    go absent h = h
    go bad h = h
    go (constant shape v) h = h
    go (named shape) h = h
    go (variable shape root) h = h
    go (routine q up None) h = h
    go (routine q up (Some x)) h = record {
      some = h.some;
      exists = h.exists;
      links = h.links;
      result = same_result x.result h.result;
      formals = same_formals x.formals (routine_at k.program q).params h.formals;
    }
      where
        same_result : (o : Option ℕ) → ResultFits s o (routine_at k.program q) → ResultFits (inside_of s) o (routine_at k.program q)
        same_result None h = h
        same_result (Some shape) h = h

        same_formals : (fs : List FormalOf) (qs : List Param) → FormalsFit s fs qs → FormalsFit (inside_of s) fs qs
        same_formals [] [] h = h
        same_formals [] (q ∷ qs) h = h
        same_formals (f ∷ fs) [] h = h
        same_formals (f ∷ fs) (q ∷ qs) h = (h.0, same_formals fs qs h.1)

-- ---- values

abbrev pub MeaningFits : Place → Scene → (lo hi shape : ℕ) → Meaning → Type 0
MeaningFits k s lo hi shape (a_place d) = PhrasesFit k s.inside lo hi (desig_phrases d) × (desig_cells d ≡ cells s shape)
MeaningFits k s lo hi shape (plain e) = PhrasesFit k s.inside lo hi (expr_phrases e) × (is_structured s shape ≡ false)
MeaningFits k s lo hi shape (a_test t) = PhrasesFit k s.inside lo hi (test_phrases t) × (is_structured s shape ≡ false)

pub record TypingFits (k : Place) (s : Scene) (lo hi : ℕ) (t : Typing) : Type 0 where
  pub meaning : MeaningFits k s lo hi t.shape t.meaning

value_in : (k : Place) (s : Scene) (e : SceneFits k s) (lo hi shape : ℕ) (m : Meaning) → is_structured s shape ≡ false
    → MeaningFits k s lo hi shape m → PhrasesFit k s.inside lo hi (expr_phrases (value_of m))
unfolding expr_phrases
value_in k s e lo hi shape (a_place d) simple h = laid_cons (ExprPhrase (ir.Load d)) (h.1 ∙ e.table.simple shape simple) h.0
value_in k s e lo hi shape (plain x) simple h = h.0
value_in k s e lo hi shape (a_test t) simple h = laid_cons (ExprPhrase (ir.Truth t)) tt h.0

-- a value of a simple type
pub value_laid : {k : Place} {s : Scene} {lo hi : ℕ} {t : Typing} → SceneFits k s → is_structured s t.shape ≡ false → TypingFits k s lo hi t
    → PhrasesFit k s.inside lo hi (expr_phrases (value_of t.meaning))
value_laid {k} {s} {lo} {hi} {t} e simple h = value_in k s e lo hi t.shape t.meaning simple h.meaning

test_in : (k : Place) (s : Scene) (e : SceneFits k s) (lo hi shape : ℕ) (m : Meaning) → is_structured s shape ≡ false
    → MeaningFits k s lo hi shape m → PhrasesFit k s.inside lo hi (test_phrases (test_of m))
unfolding expr_phrases
test_in k s e lo hi shape (a_place d) simple h =
    laid_cons (TestPhrase (ir.Value (ir.Load d))) tt (value_in k s e lo hi shape (a_place d) simple h)
test_in k s e lo hi shape (plain x) simple h = laid_cons (TestPhrase (ir.Value x)) tt h.0
test_in k s e lo hi shape (a_test t) simple h = h.0

pub test_laid : {k : Place} {s : Scene} {lo hi : ℕ} {t : Typing} → SceneFits k s → is_structured s t.shape ≡ false → TypingFits k s lo hi t
    → PhrasesFit k s.inside lo hi (test_phrases (test_of t.meaning))
test_laid {k} {s} {lo} {hi} {t} e simple h = test_in k s e lo hi t.shape t.meaning simple h.meaning

-- in parentheses
pub no_place_fits : (k : Place) (s : Scene) (e : SceneFits k s) (lo hi shape : ℕ) (m : Meaning) → is_structured s shape ≡ false
    → MeaningFits k s lo hi shape m → MeaningFits k s lo hi shape (no_place m)
no_place_fits k s e lo hi shape (a_place d) simple h = (value_in k s e lo hi shape (a_place d) simple h, simple)
no_place_fits k s e lo hi shape (plain x) simple h = h
no_place_fits k s e lo hi shape (a_test t) simple h = h

pub wide_meaning : (k : Place) (s : Scene) (lo hi low high shape : ℕ) (m : Meaning) → low ≤ lo → hi ≤ high → MeaningFits k s lo hi shape m
    → MeaningFits k s low high shape m
wide_meaning k s lo hi low high shape (a_place d) a b h = (laid_wide low high a b h.0, h.1)
wide_meaning k s lo hi low high shape (plain x) a b h = (laid_wide low high a b h.0, h.1)
wide_meaning k s lo hi low high shape (a_test t) a b h = (laid_wide low high a b h.0, h.1)

-- the base of a type tells
pub base_simple : {k : Place} {s : Scene} (e : SceneFits k s) (a n : ℕ) → n < 3 → nat_eq (base s a) n ≡ true → is_structured s a ≡ false
base_simple {k} {s} e a n lt h = let same : base s a ≡ n = eqb-true (base s a) n h in e.table.basic a (omega (arith, same, lt))

pub simple_too : {k : Place} {s : Scene} (e : SceneFits k s) (a b : ℕ) → base s a ≡ base s b → is_structured s a ≡ false
    → is_structured s b ≡ false
simple_too {k} {s} e a b same simple = sym (e.table.alike a b same) ∙ simple

-- ---- designators

pub record LocatedFits (k : Place) (s : Scene) (lo hi : ℕ) (l : Location) : Type 0 where
  pub root : RootFits k l.root l.cells
  pub parts : ArePartsOf l.sels l.cells
  pub left : cells_after l.sels l.cells ≡ cells s l.shape
  pub laid : PhrasesFit k s.inside lo hi (sels_phrases l.sels)

pub located_laid : {k : Place} {s : Scene} {lo hi : ℕ} {l : Location} → LocatedFits k s lo hi l
    → PhrasesFit k s.inside lo hi (desig_phrases (desig_of l))
unfolding desig_phrases
located_laid {k} {s} {lo} {hi} {l} h = laid_cons (DesigPhrase (desig_of l)) (h.root, h.parts) h.laid

pub parts_with : (sels : ir.Sels) (x : ir.Sel) (n : ℕ) → ArePartsOf sels n → IsPart x (cells_after sels n) → ArePartsOf (with_sel sels x) n
parts_with ir.no_sels x n h p = (p, tt)
parts_with (ir.more_sels y rest) x n h p = (h.0, parts_with rest x (sel_cells y) h.1 p)

pub after_with : (sels : ir.Sels) (x : ir.Sel) (n : ℕ) → cells_after (with_sel sels x) n ≡ sel_cells x
after_with ir.no_sels x n = refl
after_with (ir.more_sels y rest) x n = after_with rest x (sel_cells y)

pub phrases_with : (sels : ir.Sels) (x : ir.Sel) → sels_phrases (with_sel sels x) ≡ sels_phrases sels ++ (sel_phrases x ++ [])
unfolding sels_phrases
phrases_with ir.no_sels x = refl
phrases_with (ir.more_sels y rest) x = ap (λ xs. sel_phrases y ++ xs) (phrases_with rest x)
    ∙ sym (append_assoc (sel_phrases y) (sels_phrases rest) (sel_phrases x ++ []))

-- one selector more
pub selected : {k : Place} {s : Scene} {lo mid hi : ℕ} (l : Location) (shape : ℕ) (x : ir.Sel) → LocatedFits k s lo mid l
    → IsPart x (cells s l.shape) → sel_cells x ≡ cells s shape → PhrasesFit k s.inside mid hi (sel_phrases x)
    → LocatedFits k s lo hi (record { shape = shape; root = l.root; cells = l.cells; sels = with_sel l.sels x })
selected {k} {s} {lo} {mid} {hi} l shape x h part same laid = record {
  root = h.root;
  parts = parts_with l.sels x l.cells h.parts (subst (IsPart x) (sym h.left) part);
  left = after_with l.sels x l.cells ∙ same;
  laid = subst (λ xs. PhrasesFit k s.inside lo hi xs) (sym (phrases_with l.sels x)) (laid_join h.laid (laid_one laid));
}
