-- What was gathered, one phrase after another.
use Rattle.std.proofs.Common.{◌≡◌, ℕ, ◌+◌, ◌<◌, true, List, [], ◌∷◌, ◌++◌, length, take, get_or, Option, Some, None, refl, sym, ap, ◌∙◌}
use Rattle.std.proofs.Common.{subst, append_assoc, add-one}
use Rattle.std.proofs.Math.Seq.{take-suc, take-length}
use Rattle.std.specs.Prelude.{Vec, Result, Ok, Err, OnOk}
use Rattle.std.specs.declared.alloc.Global.{Global}
use Rattle.std.proofs.lemmas.List.{append-nil}
use Rattle.alma_base.specs.Numbers.{char_range, is_integer}
use Rattle.alma_base.specs.declared.number.Range.{Range}
use Rattle.alma_ir.specs.declared.phrase.Stmt as S
use Rattle.alma_ir.specs.declared.phrase.Test as T
use Rattle.alma_ir.specs.declared.phrase.Expr as E
use Rattle.alma_ir.specs.declared.phrase.Arg as A
use Rattle.alma_ir.specs.declared.phrase.Sel as L
use Rattle.alma_ir.specs.declared.phrase.Desig as D
use Rattle.alma_ir.specs.declared.phrase.Arm.{Arm}
use Rattle.alma_ir.specs.declared.phrase.CaseArm.{CaseArm}
use Rattle.alma_ir.specs.declared.phrase.Branch.{Branch}
use Rattle.alma_ir.specs.declared.phrase.Loop.{Loop}
use Rattle.alma_ir.specs.declared.phrase.Link.{Link}
use Rattle.alma_ir.specs.declared.phrase.Call.{Call}
use Rattle.alma_ir.specs.Tree
use Rattle.alma_ir.specs.View as view
use Rattle.alma_ir.specs.Phrases as P
use Rattle.alma_ir.proofs.Views as views
use Rattle.alma_lower_sound.specs.Entries.{of_each, texts_of}
use Rattle.alma_lower_templates.specs.CodeOf.{HasIntegers}
use Rattle.alma_lower_templates.specs.Tables.{Tables, same_range, same_text}
use Rattle.alma_ir.proofs.Each.{each_of_append}
use Rattle.alma_lower_tables.specs.Numbers.{with_entry}
use Rattle.alma_lower_tables.specs.AddsPhrases.{check_range, named_ranges, with_entries, Names, AddsPhrases, HasIntegerEnds}
use Rattle.alma_lower_tables.proofs.Entries.{entries_row, each_row}

-- a clause on success that follows from another
pub on_ok_map : {T E : Type 0} {X Y : Type 0} (r : Result T E) → (X → Y) → OnOk r X → OnOk r Y
on_ok_map (Ok x) f h = f h
on_ok_map (Err e) f h = h

pub names_none : (a : Tables) → Names a a [] []
names_none a = record { of_ranges = refl; of_texts = refl }

pub names_then : (a b c : Tables) (rs qs : List Range) (ts us : List (List ℕ)) → Names a b rs ts → Names b c qs us
    → Names a c (rs ++ qs) (ts ++ us)
names_then a b c rs qs ts us h j = record {
  of_ranges = j.of_ranges ∙ ap (λ l. with_entries same_range l qs) h.of_ranges ∙ sym (entries_row same_range a.ranges rs qs);
  of_texts = j.of_texts ∙ ap (λ l. with_entries same_text l us) h.of_texts ∙ sym (entries_row same_text a.texts ts us);
}

-- a range or a text that was added
pub range_on : {T E : Type 0} (r : Result T E) (a b : Tables) (range : Range) → OnOk r (b.ranges ≡ with_entry same_range a.ranges range)
    → OnOk r (b.texts ≡ a.texts) → OnOk r (Names a b (range ∷ []) [])
range_on (Ok x) a b range e e2 = record { of_ranges = e; of_texts = e2 }
range_on (Err x) a b range e e2 = e

pub text_on : {T E : Type 0} (r : Result T E) (a b : Tables) (text : List ℕ) → OnOk r (b.texts ≡ with_entry same_text a.texts text)
    → OnOk r (b.ranges ≡ a.ranges) → OnOk r (Names a b [] (text ∷ []))
text_on (Ok x) a b text e e2 = record { of_ranges = e2; of_texts = e }
text_on (Err x) a b text e e2 = e

names_as : (a b : Tables) (rs qs : List Range) (ts us : List (List ℕ)) → rs ≡ qs → ts ≡ us → Names a b rs ts → Names a b qs us
names_as a b rs qs ts us e e2 h = record {
  of_ranges = h.of_ranges ∙ ap (with_entries same_range a.ranges) e;
  of_texts = h.of_texts
      ∙ ap (with_entries same_text a.texts) e2;
}

pub stand : (a : Tables) → AddsPhrases a a []
stand a = record { names = names_none a; integers = tt }

pub then_walked : (a b c : Tables) (xs ys : List P.Phrase) → AddsPhrases a b xs → AddsPhrases b c ys → AddsPhrases a c (xs ++ ys)
then_walked a b c xs ys h j = record {
  names = names_as a c _ (of_each named_ranges (xs ++ ys)) _ (of_each texts_of (xs ++ ys)) (sym (each_row named_ranges xs ys))
      (sym (each_row texts_of xs ys))
      (names_then a b c (of_each named_ranges xs) (of_each named_ranges ys) (of_each texts_of xs) (of_each texts_of ys) h.names j.names);
  integers = each_of_append (λ x. HasIntegers x) xs ys h.integers j.integers;
}

-- a phrase itself, and those in it
phrase_walked : (a b c : Tables) (x : P.Phrase) (ys : List P.Phrase) → Names a b (named_ranges x) (texts_of x) → HasIntegers x
    → AddsPhrases b c ys → AddsPhrases a c (x ∷ ys)
phrase_walked a b c x ys n whole h = record {
  names = names_then a b c (named_ranges x) (of_each named_ranges ys) (texts_of x) (of_each texts_of ys) n h.names;
  integers = (whole, h.integers);
}

as_phrases : (a b : Tables) (xs ys : List P.Phrase) → xs ≡ ys → AddsPhrases a b ys → AddsPhrases a b xs
as_phrases a b xs ys e h = subst (AddsPhrases a b) (sym e) h

-- ---- one form each

pub test_walked : (a b : Tables) (x : S.Stmt) (t : T.Test) → x ≡ S.Test t → AddsPhrases a b (P.test_phrases (view.test_of t))
    → AddsPhrases a b (P.stmt_phrases (view.stmt_of x))
unfolding P.stmts_phrases
test_walked a b x t is h0 =
    as_phrases a b _ (P.stmt_phrases (Tree.TestStmt (view.test_of t)))
    (ap (λ y. P.stmt_phrases (view.stmt_of y)) is ∙ ap P.stmt_phrases (views.teststmt_view t))
    (phrase_walked a a b (P.StmtPhrase (Tree.TestStmt (view.test_of t))) (P.test_phrases (view.test_of t)) (names_none a) tt h0)

pub assign_walked : (a b c d2 : Tables) (x : S.Stmt) (d : D.Desig) (e : E.Expr) (range : Range) → x ≡ S.Assign d e range
    → Names a b (check_range range) [] → AddsPhrases b c (P.desig_phrases (view.desig_of d))
    → AddsPhrases c d2 (P.expr_phrases (view.expr_of e))
    → AddsPhrases a d2 (P.stmt_phrases (view.stmt_of x))
unfolding P.stmts_phrases
assign_walked a b c d2 x d e range is n h0 h1 =
    as_phrases a d2 _ (P.stmt_phrases (Tree.Assign (view.desig_of d) (view.expr_of e) range))
    (ap (λ y. P.stmt_phrases (view.stmt_of y)) is ∙ ap P.stmt_phrases (views.assign_view d e range))
    (phrase_walked a b d2 (P.StmtPhrase (Tree.Assign (view.desig_of d) (view.expr_of e) range))
    ((P.desig_phrases (view.desig_of d)) ++ (P.expr_phrases (view.expr_of e))) n tt (then_walked b c d2 _ _ h0 h1))

pub copy_walked : (a b c : Tables) (x : S.Stmt) (d : D.Desig) (f : D.Desig) → x ≡ S.CopyCells d f
    → AddsPhrases a b (P.desig_phrases (view.desig_of d)) → AddsPhrases b c (P.desig_phrases (view.desig_of f))
    → AddsPhrases a c (P.stmt_phrases (view.stmt_of x))
unfolding P.stmts_phrases
copy_walked a b c x d f is h0 h1 =
    as_phrases a c _ (P.stmt_phrases (Tree.CopyCells (view.desig_of d) (view.desig_of f)))
    (ap (λ y. P.stmt_phrases (view.stmt_of y)) is ∙ ap P.stmt_phrases (views.copycells_view d f))
    (phrase_walked a a c (P.StmtPhrase (Tree.CopyCells (view.desig_of d) (view.desig_of f)))
    ((P.desig_phrases (view.desig_of d)) ++ (P.desig_phrases (view.desig_of f))) (names_none a) tt (then_walked a b c _ _ h0 h1))

pub if_walked : (a b c : Tables) (x : S.Stmt) (arms : Vec Arm Global) (rest : Vec S.Stmt Global) → x ≡ S.If arms rest
    → AddsPhrases a b (P.arms_phrases (view.arms_list arms.items)) → AddsPhrases b c (P.stmts_phrases (view.stmts_list rest.items))
    → AddsPhrases a c (P.stmt_phrases (view.stmt_of x))
unfolding P.stmts_phrases
if_walked a b c x arms rest is h0 h1 =
    as_phrases a c _ (P.stmt_phrases (Tree.If (view.arms_list arms.items) (view.stmts_list rest.items)))
    (ap (λ y. P.stmt_phrases (view.stmt_of y)) is ∙ ap P.stmt_phrases (views.if_view arms rest))
    (phrase_walked a a c (P.StmtPhrase (Tree.If (view.arms_list arms.items) (view.stmts_list rest.items)))
    ((P.arms_phrases (view.arms_list arms.items)) ++ (P.stmts_phrases (view.stmts_list rest.items))) (names_none a) tt
    (then_walked a b c _ _ h0 h1))

pub while_walked : (a b c : Tables) (x : S.Stmt) (t : T.Test) (body : Vec S.Stmt Global) → x ≡ S.While t body
    → AddsPhrases a b (P.test_phrases (view.test_of t)) → AddsPhrases b c (P.stmts_phrases (view.stmts_list body.items))
    → AddsPhrases a c (P.stmt_phrases (view.stmt_of x))
unfolding P.stmts_phrases
while_walked a b c x t body is h0 h1 =
    as_phrases a c _ (P.stmt_phrases (Tree.While (view.test_of t) (view.stmts_list body.items)))
    (ap (λ y. P.stmt_phrases (view.stmt_of y)) is ∙ ap P.stmt_phrases (views.while_view t body))
    (phrase_walked a a c (P.StmtPhrase (Tree.While (view.test_of t) (view.stmts_list body.items)))
    ((P.test_phrases (view.test_of t)) ++ (P.stmts_phrases (view.stmts_list body.items))) (names_none a) tt
    (then_walked a b c _ _ h0 h1))

pub repeat_walked : (a b c : Tables) (x : S.Stmt) (body : Vec S.Stmt Global) (t : T.Test) → x ≡ S.Repeat body t
    → AddsPhrases a b (P.stmts_phrases (view.stmts_list body.items)) → AddsPhrases b c (P.test_phrases (view.test_of t))
    → AddsPhrases a c (P.stmt_phrases (view.stmt_of x))
unfolding P.stmts_phrases
repeat_walked a b c x body t is h0 h1 =
    as_phrases a c _ (P.stmt_phrases (Tree.Repeat (view.stmts_list body.items) (view.test_of t)))
    (ap (λ y. P.stmt_phrases (view.stmt_of y)) is ∙ ap P.stmt_phrases (views.repeat_view body t))
    (phrase_walked a a c (P.StmtPhrase (Tree.Repeat (view.stmts_list body.items) (view.test_of t)))
    ((P.stmts_phrases (view.stmts_list body.items)) ++ (P.test_phrases (view.test_of t))) (names_none a) tt
    (then_walked a b c _ _ h0 h1))

pub for_walked : (a b c : Tables) (x : S.Stmt) (l : Loop) → x ≡ S.ForTo l → Names a b (check_range l.range) []
    → AddsPhrases b c (P.loop_phrases (view.loop_of l)) → AddsPhrases a c (P.stmt_phrases (view.stmt_of x))
unfolding P.stmts_phrases
for_walked a b c x l is n h0 =
    as_phrases a c _ (P.stmt_phrases (Tree.ForTo (view.loop_of l)))
    (ap (λ y. P.stmt_phrases (view.stmt_of y)) is ∙ ap P.stmt_phrases (views.forto_view l))
    (phrase_walked a b c (P.StmtPhrase (Tree.ForTo (view.loop_of l))) (P.loop_phrases (view.loop_of l)) n tt h0)

pub some_walked : (a b c : Tables) (x : S.Stmt) (l : Loop) → x ≡ S.SomeOf l → Names a b (check_range l.range) []
    → AddsPhrases b c (P.loop_phrases (view.loop_of l)) → AddsPhrases a c (P.stmt_phrases (view.stmt_of x))
unfolding P.stmts_phrases
some_walked a b c x l is n h0 =
    as_phrases a c _ (P.stmt_phrases (Tree.SomeOf (view.loop_of l)))
    (ap (λ y. P.stmt_phrases (view.stmt_of y)) is ∙ ap P.stmt_phrases (views.someof_view l))
    (phrase_walked a b c (P.StmtPhrase (Tree.SomeOf (view.loop_of l))) (P.loop_phrases (view.loop_of l)) n tt h0)

pub case_walked : (a b c d2 : Tables) (x : S.Stmt) (e : E.Expr) (arms : Vec CaseArm Global) (rest : Option (Vec S.Stmt Global))
    → x ≡ S.Case e arms rest → AddsPhrases a b (P.expr_phrases (view.expr_of e))
    → AddsPhrases b c (P.cases_phrases (view.cases_list arms.items))
    → AddsPhrases c d2 (P.else_phrases (view.else_option rest)) → AddsPhrases a d2 (P.stmt_phrases (view.stmt_of x))
unfolding P.stmts_phrases
case_walked a b c d2 x e arms rest is h0 h1 h2 =
    as_phrases a d2 _ (P.stmt_phrases (Tree.Case (view.expr_of e) (view.cases_list arms.items) (view.else_option rest)))
    (ap (λ y. P.stmt_phrases (view.stmt_of y)) is ∙ ap P.stmt_phrases (views.case_view e arms rest))
    (phrase_walked a a d2 (P.StmtPhrase (Tree.Case (view.expr_of e) (view.cases_list arms.items) (view.else_option rest)))
    (((P.expr_phrases (view.expr_of e)) ++ (P.cases_phrases (view.cases_list arms.items))) ++ (P.else_phrases (view.else_option rest)))
    (names_none a) tt (then_walked a c d2 _ _ (then_walked a b c _ _ h0 h1) h2))

pub either_walked : (a b : Tables) (x : S.Stmt) (bs : Vec Branch Global) → x ≡ S.Either bs
    → AddsPhrases a b (P.branches_phrases (view.branches_list bs.items)) → AddsPhrases a b (P.stmt_phrases (view.stmt_of x))
unfolding P.stmts_phrases
either_walked a b x bs is h0 =
    as_phrases a b _ (P.stmt_phrases (Tree.Either (view.branches_list bs.items)))
    (ap (λ y. P.stmt_phrases (view.stmt_of y)) is ∙ ap P.stmt_phrases (views.either_view bs))
    (phrase_walked a a b (P.StmtPhrase (Tree.Either (view.branches_list bs.items))) (P.branches_phrases (view.branches_list bs.items))
    (names_none a) tt h0)

pub forall_walked : (a b c : Tables) (x : S.Stmt) (u : Vec S.Stmt Global) (v : Vec S.Stmt Global) → x ≡ S.Forall u v
    → AddsPhrases a b (P.stmts_phrases (view.stmts_list u.items)) → AddsPhrases b c (P.stmts_phrases (view.stmts_list v.items))
    → AddsPhrases a c (P.stmt_phrases (view.stmt_of x))
unfolding P.stmts_phrases
forall_walked a b c x u v is h0 h1 =
    as_phrases a c _ (P.stmt_phrases (Tree.Forall (view.stmts_list u.items) (view.stmts_list v.items)))
    (ap (λ y. P.stmt_phrases (view.stmt_of y)) is ∙ ap P.stmt_phrases (views.forall_view u v))
    (phrase_walked a a c (P.StmtPhrase (Tree.Forall (view.stmts_list u.items) (view.stmts_list v.items)))
    ((P.stmts_phrases (view.stmts_list u.items)) ++ (P.stmts_phrases (view.stmts_list v.items))) (names_none a) tt
    (then_walked a b c _ _ h0 h1))

pub commit_walked : (a b : Tables) (x : S.Stmt) (u : Vec S.Stmt Global) → x ≡ S.Commit u
    → AddsPhrases a b (P.stmts_phrases (view.stmts_list u.items)) → AddsPhrases a b (P.stmt_phrases (view.stmt_of x))
unfolding P.stmts_phrases
commit_walked a b x u is h0 =
    as_phrases a b _ (P.stmt_phrases (Tree.Commit (view.stmts_list u.items)))
    (ap (λ y. P.stmt_phrases (view.stmt_of y)) is ∙ ap P.stmt_phrases (views.commit_view u))
    (phrase_walked a a b (P.StmtPhrase (Tree.Commit (view.stmts_list u.items))) (P.stmts_phrases (view.stmts_list u.items)) (names_none a)
    tt h0)

pub return_walked : (a b : Tables) (x : S.Stmt) (v : Option E.Expr) → x ≡ S.Return v
    → AddsPhrases a b (P.return_phrases (view.return_option v))
    → AddsPhrases a b (P.stmt_phrases (view.stmt_of x))
unfolding P.stmts_phrases
return_walked a b x v is h0 =
    as_phrases a b _ (P.stmt_phrases (Tree.Return (view.return_option v)))
    (ap (λ y. P.stmt_phrases (view.stmt_of y)) is ∙ ap P.stmt_phrases (views.return_view v))
    (phrase_walked a a b (P.StmtPhrase (Tree.Return (view.return_option v))) (P.return_phrases (view.return_option v)) (names_none a) tt h0)

pub read_walked : (a b c : Tables) (x : S.Stmt) (d : D.Desig) (how : _) (range : Range) → x ≡ S.Read d how range → Names a b (range ∷ []) []
    → HasIntegerEnds range → AddsPhrases b c (P.desig_phrases (view.desig_of d)) → AddsPhrases a c (P.stmt_phrases (view.stmt_of x))
unfolding P.stmts_phrases
read_walked a b c x d how range is n whole h0 =
    as_phrases a c _ (P.stmt_phrases (Tree.Read (view.desig_of d) how range))
    (ap (λ y. P.stmt_phrases (view.stmt_of y)) is ∙ ap P.stmt_phrases (views.read_view d how range))
    (phrase_walked a b c (P.StmtPhrase (Tree.Read (view.desig_of d) how range)) (P.desig_phrases (view.desig_of d)) n whole h0)

pub write_walked : (a b : Tables) (x : S.Stmt) (e : E.Expr) (how : _) → x ≡ S.WriteExpr e how
    → AddsPhrases a b (P.expr_phrases (view.expr_of e))
    → AddsPhrases a b (P.stmt_phrases (view.stmt_of x))
unfolding P.stmts_phrases
write_walked a b x e how is h0 =
    as_phrases a b _ (P.stmt_phrases (Tree.WriteExpr (view.expr_of e) how))
    (ap (λ y. P.stmt_phrases (view.stmt_of y)) is ∙ ap P.stmt_phrases (views.writeexpr_view e how))
    (phrase_walked a a b (P.StmtPhrase (Tree.WriteExpr (view.expr_of e) how)) (P.expr_phrases (view.expr_of e)) (names_none a) tt h0)

pub value_walked : (a b : Tables) (x : T.Test) (e : E.Expr) → x ≡ T.Value e → AddsPhrases a b (P.expr_phrases (view.expr_of e))
    → AddsPhrases a b (P.test_phrases (view.test_of x))
unfolding P.stmts_phrases
value_walked a b x e is h0 =
    as_phrases a b _ (P.test_phrases (Tree.Value (view.expr_of e)))
    (ap (λ y. P.test_phrases (view.test_of y)) is ∙ ap P.test_phrases (views.value_view e))
    (phrase_walked a a b (P.TestPhrase (Tree.Value (view.expr_of e))) (P.expr_phrases (view.expr_of e)) (names_none a) tt h0)

pub bind_walked : (a b c d2 : Tables) (x : T.Test) (d : D.Desig) (e : E.Expr) (range : Range) (left : _) → x ≡ T.Bind d e range left
    → Names a b (range ∷ []) [] → AddsPhrases b c (P.desig_phrases (view.desig_of d)) → AddsPhrases c d2 (P.expr_phrases (view.expr_of e))
    → AddsPhrases a d2 (P.test_phrases (view.test_of x))
unfolding P.stmts_phrases
bind_walked a b c d2 x d e range left is n h0 h1 =
    as_phrases a d2 _ (P.test_phrases (Tree.Bind (view.desig_of d) (view.expr_of e) range left))
    (ap (λ y. P.test_phrases (view.test_of y)) is ∙ ap P.test_phrases (views.bind_view d e range left))
    (phrase_walked a b d2 (P.TestPhrase (Tree.Bind (view.desig_of d) (view.expr_of e) range left))
    ((P.desig_phrases (view.desig_of d)) ++ (P.expr_phrases (view.expr_of e))) n tt (then_walked b c d2 _ _ h0 h1))

pub same_walked : (a b c : Tables) (x : T.Test) (d : D.Desig) (f : D.Desig) → x ≡ T.SameCells d f
    → AddsPhrases a b (P.desig_phrases (view.desig_of d)) → AddsPhrases b c (P.desig_phrases (view.desig_of f))
    → AddsPhrases a c (P.test_phrases (view.test_of x))
unfolding P.stmts_phrases
same_walked a b c x d f is h0 h1 =
    as_phrases a c _ (P.test_phrases (Tree.SameCells (view.desig_of d) (view.desig_of f)))
    (ap (λ y. P.test_phrases (view.test_of y)) is ∙ ap P.test_phrases (views.samecells_view d f))
    (phrase_walked a a c (P.TestPhrase (Tree.SameCells (view.desig_of d) (view.desig_of f)))
    ((P.desig_phrases (view.desig_of d)) ++ (P.desig_phrases (view.desig_of f))) (names_none a) tt (then_walked a b c _ _ h0 h1))

pub seq_walked : (a b : Tables) (x : T.Test) (body : Vec S.Stmt Global) → x ≡ T.Seq body
    → AddsPhrases a b (P.stmts_phrases (view.stmts_list body.items)) → AddsPhrases a b (P.test_phrases (view.test_of x))
unfolding P.stmts_phrases
seq_walked a b x body is h0 =
    as_phrases a b _ (P.test_phrases (Tree.Seq (view.stmts_list body.items)))
    (ap (λ y. P.test_phrases (view.test_of y)) is ∙ ap P.test_phrases (views.seq_view body))
    (phrase_walked a a b (P.TestPhrase (Tree.Seq (view.stmts_list body.items))) (P.stmts_phrases (view.stmts_list body.items))
    (names_none a) tt h0)

pub and_walked : (a b : Tables) (x : T.Test) (ts : Vec T.Test Global) → x ≡ T.And ts
    → AddsPhrases a b (P.tests_phrases (view.tests_list ts.items)) → AddsPhrases a b (P.test_phrases (view.test_of x))
unfolding P.stmts_phrases
and_walked a b x ts is h0 =
    as_phrases a b _ (P.test_phrases (Tree.And (view.tests_list ts.items)))
    (ap (λ y. P.test_phrases (view.test_of y)) is ∙ ap P.test_phrases (views.and_view ts))
    (phrase_walked a a b (P.TestPhrase (Tree.And (view.tests_list ts.items))) (P.tests_phrases (view.tests_list ts.items)) (names_none a) tt
    h0)

pub or_walked : (a b : Tables) (x : T.Test) (ts : Vec T.Test Global) → x ≡ T.Or ts
    → AddsPhrases a b (P.tests_phrases (view.tests_list ts.items))
    → AddsPhrases a b (P.test_phrases (view.test_of x))
unfolding P.stmts_phrases
or_walked a b x ts is h0 =
    as_phrases a b _ (P.test_phrases (Tree.Or (view.tests_list ts.items)))
    (ap (λ y. P.test_phrases (view.test_of y)) is ∙ ap P.test_phrases (views.or_view ts))
    (phrase_walked a a b (P.TestPhrase (Tree.Or (view.tests_list ts.items))) (P.tests_phrases (view.tests_list ts.items)) (names_none a) tt
    h0)

pub not_walked : (a b : Tables) (x : T.Test) (t : _) → x ≡ T.Not t → AddsPhrases a b (P.test_phrases (view.test_of t.value))
    → AddsPhrases a b (P.test_phrases (view.test_of x))
unfolding P.stmts_phrases
not_walked a b x t is h0 =
    as_phrases a b _ (P.test_phrases (Tree.Not (view.test_of t.value)))
    (ap (λ y. P.test_phrases (view.test_of y)) is ∙ ap P.test_phrases (views.not_view t))
    (phrase_walked a a b (P.TestPhrase (Tree.Not (view.test_of t.value))) (P.test_phrases (view.test_of t.value)) (names_none a) tt h0)

pub load_walked : (a b : Tables) (x : E.Expr) (d : D.Desig) → x ≡ E.Load d → AddsPhrases a b (P.desig_phrases (view.desig_of d))
    → AddsPhrases a b (P.expr_phrases (view.expr_of x))
unfolding P.stmts_phrases
load_walked a b x d is h0 =
    as_phrases a b _ (P.expr_phrases (Tree.Load (view.desig_of d)))
    (ap (λ y. P.expr_phrases (view.expr_of y)) is ∙ ap P.expr_phrases (views.load_view d))
    (phrase_walked a a b (P.ExprPhrase (Tree.Load (view.desig_of d))) (P.desig_phrases (view.desig_of d)) (names_none a) tt h0)

pub chain_walked : (a b c : Tables) (x : E.Expr) (neg : _) (e : _) (ls : Vec Link Global) → x ≡ E.Chain neg e ls
    → AddsPhrases a b (P.expr_phrases (view.expr_of e.value)) → AddsPhrases b c (P.links_phrases (view.links_list ls.items))
    → AddsPhrases a c (P.expr_phrases (view.expr_of x))
unfolding P.stmts_phrases
chain_walked a b c x neg e ls is h0 h1 =
    as_phrases a c _ (P.expr_phrases (Tree.Chain neg (view.expr_of e.value) (view.links_list ls.items)))
    (ap (λ y. P.expr_phrases (view.expr_of y)) is ∙ ap P.expr_phrases (views.chain_view neg e ls))
    (phrase_walked a a c (P.ExprPhrase (Tree.Chain neg (view.expr_of e.value) (view.links_list ls.items)))
    ((P.expr_phrases (view.expr_of e.value)) ++ (P.links_phrases (view.links_list ls.items))) (names_none a) tt
    (then_walked a b c _ _ h0 h1))

pub compare_walked : (a b c : Tables) (x : E.Expr) (how : _) (e : _) (f : _) → x ≡ E.Compare how e f
    → AddsPhrases a b (P.expr_phrases (view.expr_of e.value)) → AddsPhrases b c (P.expr_phrases (view.expr_of f.value))
    → AddsPhrases a c (P.expr_phrases (view.expr_of x))
unfolding P.stmts_phrases
compare_walked a b c x how e f is h0 h1 =
    as_phrases a c _ (P.expr_phrases (Tree.Compare how (view.expr_of e.value) (view.expr_of f.value)))
    (ap (λ y. P.expr_phrases (view.expr_of y)) is ∙ ap P.expr_phrases (views.compare_view how e f))
    (phrase_walked a a c (P.ExprPhrase (Tree.Compare how (view.expr_of e.value) (view.expr_of f.value)))
    ((P.expr_phrases (view.expr_of e.value)) ++ (P.expr_phrases (view.expr_of f.value))) (names_none a) tt
    (then_walked a b c _ _ h0 h1))

pub truth_walked : (a b : Tables) (x : E.Expr) (t : _) → x ≡ E.Truth t → AddsPhrases a b (P.test_phrases (view.test_of t.value))
    → AddsPhrases a b (P.expr_phrases (view.expr_of x))
unfolding P.stmts_phrases
truth_walked a b x t is h0 =
    as_phrases a b _ (P.expr_phrases (Tree.Truth (view.test_of t.value)))
    (ap (λ y. P.expr_phrases (view.expr_of y)) is ∙ ap P.expr_phrases (views.truth_view t))
    (phrase_walked a a b (P.ExprPhrase (Tree.Truth (view.test_of t.value))) (P.test_phrases (view.test_of t.value)) (names_none a) tt h0)

pub known_walked : (a b : Tables) (x : E.Expr) (d : D.Desig) → x ≡ E.Known d → AddsPhrases a b (P.desig_phrases (view.desig_of d))
    → AddsPhrases a b (P.expr_phrases (view.expr_of x))
unfolding P.stmts_phrases
known_walked a b x d is h0 =
    as_phrases a b _ (P.expr_phrases (Tree.Known (view.desig_of d)))
    (ap (λ y. P.expr_phrases (view.expr_of y)) is ∙ ap P.expr_phrases (views.known_view d))
    (phrase_walked a a b (P.ExprPhrase (Tree.Known (view.desig_of d))) (P.desig_phrases (view.desig_of d)) (names_none a) tt h0)

pub chr_walked : (a b c : Tables) (x : E.Expr) (e : _) (range : Range) → x ≡ E.Chr e → range ≡ char_range → Names a b (range ∷ []) []
    → AddsPhrases b c (P.expr_phrases (view.expr_of e.value)) → AddsPhrases a c (P.expr_phrases (view.expr_of x))
unfolding P.stmts_phrases
chr_walked a b c x e range is chars n h0 =
    as_phrases a c _ (P.expr_phrases (Tree.Chr (view.expr_of e.value)))
    (ap (λ y. P.expr_phrases (view.expr_of y)) is ∙ ap P.expr_phrases (views.chr_view e))
    (phrase_walked a b c (P.ExprPhrase (Tree.Chr (view.expr_of e.value))) (P.expr_phrases (view.expr_of e.value))
    (subst (λ r. Names a b (r ∷ []) []) chars n) tt h0)

pub by_value_walked : (a b c : Tables) (x : A.Arg) (e : E.Expr) (range : Range) → x ≡ A.Value e range → Names a b (check_range range) []
    → AddsPhrases b c (P.expr_phrases (view.expr_of e)) → AddsPhrases a c (P.arg_phrases (view.arg_of x))
unfolding P.stmts_phrases
by_value_walked a b c x e range is n h0 =
    as_phrases a c _ (P.arg_phrases (Tree.ByValue (view.expr_of e) range))
    (ap (λ y. P.arg_phrases (view.arg_of y)) is ∙ ap P.arg_phrases (views.byvalue_view e range))
    (phrase_walked a b c (P.ArgPhrase (Tree.ByValue (view.expr_of e) range)) (P.expr_phrases (view.expr_of e)) n tt h0)

pub by_cells_walked : (a b : Tables) (x : A.Arg) (d : D.Desig) → x ≡ A.Cells d → AddsPhrases a b (P.desig_phrases (view.desig_of d))
    → AddsPhrases a b (P.arg_phrases (view.arg_of x))
unfolding P.stmts_phrases
by_cells_walked a b x d is h0 =
    as_phrases a b _ (P.arg_phrases (Tree.ByCells (view.desig_of d)))
    (ap (λ y. P.arg_phrases (view.arg_of y)) is ∙ ap P.arg_phrases (views.bycells_view d))
    (phrase_walked a a b (P.ArgPhrase (Tree.ByCells (view.desig_of d))) (P.desig_phrases (view.desig_of d)) (names_none a) tt h0)

pub by_place_walked : (a b : Tables) (x : A.Arg) (d : D.Desig) → x ≡ A.Place d → AddsPhrases a b (P.desig_phrases (view.desig_of d))
    → AddsPhrases a b (P.arg_phrases (view.arg_of x))
unfolding P.stmts_phrases
by_place_walked a b x d is h0 =
    as_phrases a b _ (P.arg_phrases (Tree.ByPlace (view.desig_of d)))
    (ap (λ y. P.arg_phrases (view.arg_of y)) is ∙ ap P.arg_phrases (views.byplace_view d))
    (phrase_walked a a b (P.ArgPhrase (Tree.ByPlace (view.desig_of d))) (P.desig_phrases (view.desig_of d)) (names_none a) tt h0)

pub mix_value_walked : (a b c : Tables) (x : A.Arg) (e : E.Expr) (range : Range) → x ≡ A.MixValue e range → Names a b (check_range range) []
    → AddsPhrases b c (P.expr_phrases (view.expr_of e)) → AddsPhrases a c (P.arg_phrases (view.arg_of x))
unfolding P.stmts_phrases
mix_value_walked a b c x e range is n h0 =
    as_phrases a c _ (P.arg_phrases (Tree.MixValue (view.expr_of e) range))
    (ap (λ y. P.arg_phrases (view.arg_of y)) is ∙ ap P.arg_phrases (views.mixvalue_view e range))
    (phrase_walked a b c (P.ArgPhrase (Tree.MixValue (view.expr_of e) range)) (P.expr_phrases (view.expr_of e)) n tt h0)

pub mix_place_walked : (a b : Tables) (x : A.Arg) (d : D.Desig) → x ≡ A.MixPlace d → AddsPhrases a b (P.desig_phrases (view.desig_of d))
    → AddsPhrases a b (P.arg_phrases (view.arg_of x))
unfolding P.stmts_phrases
mix_place_walked a b x d is h0 =
    as_phrases a b _ (P.arg_phrases (Tree.MixPlace (view.desig_of d)))
    (ap (λ y. P.arg_phrases (view.arg_of y)) is ∙ ap P.arg_phrases (views.mixplace_view d))
    (phrase_walked a a b (P.ArgPhrase (Tree.MixPlace (view.desig_of d))) (P.desig_phrases (view.desig_of d)) (names_none a) tt h0)

pub index_walked : (a b c : Tables) (x : L.Sel) (e : E.Expr) (range : Range) (cells : _) → x ≡ L.Index e range cells
    → Names a b (range ∷ []) [] → AddsPhrases b c (P.expr_phrases (view.expr_of e)) → AddsPhrases a c (P.sel_phrases (view.sel_of x))
unfolding P.stmts_phrases
index_walked a b c x e range cells is n h0 =
    as_phrases a c _ (P.sel_phrases (Tree.Index (view.expr_of e) range cells))
    (ap (λ y. P.sel_phrases (view.sel_of y)) is ∙ ap P.sel_phrases (views.index_view e range cells))
    (phrase_walked a b c (P.SelPhrase (Tree.Index (view.expr_of e) range cells)) (P.expr_phrases (view.expr_of e)) n tt h0)

pub text_walked : (a b : Tables) (x : S.Stmt) (text : Vec ℕ Global) → x ≡ S.WriteText text → Names a b [] (text.items ∷ [])
    → AddsPhrases a b (P.stmt_phrases (view.stmt_of x))
unfolding P.stmts_phrases
text_walked a b x text is n =
    as_phrases a b _ (P.stmt_phrases (Tree.WriteText text.items))
    (ap (λ y. P.stmt_phrases (view.stmt_of y)) is ∙ ap P.stmt_phrases (views.writetext_view text))
    (phrase_walked a b b (P.StmtPhrase (Tree.WriteText text.items)) [] n tt (stand b))

pub line_walked : (a : Tables) (x : S.Stmt) → x ≡ S.WriteLine → AddsPhrases a a (P.stmt_phrases (view.stmt_of x))
unfolding P.stmts_phrases
line_walked a x is =
    as_phrases a a _ (P.stmt_phrases Tree.WriteLine) (ap (λ y. P.stmt_phrases (view.stmt_of y)) is ∙ ap P.stmt_phrases views.writeline_view)
    (phrase_walked a a a (P.StmtPhrase Tree.WriteLine) [] (names_none a) tt (stand a))

pub unify_walked : (a b c d2 d3 : Tables) (x : T.Test) (d : D.Desig) (range : Range) (f : D.Desig) (other : Range)
    → x ≡ T.Unify d range f other → Names a b (range ∷ []) [] → Names b c (other ∷ []) []
    → AddsPhrases c d2 (P.desig_phrases (view.desig_of d))
    → AddsPhrases d2 d3 (P.desig_phrases (view.desig_of f)) → AddsPhrases a d3 (P.test_phrases (view.test_of x))
unfolding P.stmts_phrases
unify_walked a b c d2 d3 x d range f other is n m h0 h1 =
    as_phrases a d3 _ (P.test_phrases (Tree.Unify (view.desig_of d) range (view.desig_of f) other))
    (ap (λ y. P.test_phrases (view.test_of y)) is ∙ ap P.test_phrases (views.unify_view d range f other))
    (phrase_walked a c d3 (P.TestPhrase (Tree.Unify (view.desig_of d) range (view.desig_of f) other))
    (P.desig_phrases (view.desig_of d) ++ P.desig_phrases (view.desig_of f)) (names_then a b c (range ∷ []) (other ∷ []) [] [] n m) tt
    (then_walked c d2 d3 _ _ h0 h1))

pub call_test_walked : (a b : Tables) (x : T.Test) (call : Call) → x ≡ T.Call call
    → AddsPhrases a b (P.args_phrases (view.args_list call.args.items)) → AddsPhrases a b (P.test_phrases (view.test_of x))
unfolding P.stmts_phrases
call_test_walked a b x call is h =
    as_phrases a b _ (P.test_phrases (Tree.CallTest call.routine (view.args_list call.args.items) call.up))
    (ap (λ y. P.test_phrases (view.test_of y)) is ∙ ap P.test_phrases (views.calltest_view call))
    (phrase_walked a a b (P.TestPhrase (Tree.CallTest call.routine (view.args_list call.args.items) call.up))
    (P.args_phrases (view.args_list call.args.items)) (names_none a) tt h)

pub call_walked : (a b : Tables) (x : E.Expr) (call : Call) → x ≡ E.Call call
    → AddsPhrases a b (P.args_phrases (view.args_list call.args.items))
    → AddsPhrases a b (P.expr_phrases (view.expr_of x))
unfolding P.stmts_phrases
call_walked a b x call is h =
    as_phrases a b _ (P.expr_phrases (Tree.CallExpr call.routine (view.args_list call.args.items) call.up))
    (ap (λ y. P.expr_phrases (view.expr_of y)) is ∙ ap P.expr_phrases (views.callexpr_view call))
    (phrase_walked a a b (P.ExprPhrase (Tree.CallExpr call.routine (view.args_list call.args.items) call.up))
    (P.args_phrases (view.args_list call.args.items)) (names_none a) tt h)

pub const_walked : (a : Tables) (x : E.Expr) (n : _) → x ≡ E.Const n → is_integer n ≡ true
    → AddsPhrases a a (P.expr_phrases (view.expr_of x))
unfolding P.stmts_phrases
const_walked a x n is whole =
    as_phrases a a _ (P.expr_phrases (Tree.Const n)) (ap (λ y. P.expr_phrases (view.expr_of y)) is ∙ ap P.expr_phrases (views.const_view n))
    (phrase_walked a a a (P.ExprPhrase (Tree.Const n)) [] (names_none a) whole (stand a))

pub field_walked : (a : Tables) (x : L.Sel) (offset cells : _) → x ≡ L.Field offset cells → AddsPhrases a a (P.sel_phrases (view.sel_of x))
unfolding P.stmts_phrases
field_walked a x offset cells is =
    as_phrases a a _ (P.sel_phrases (Tree.Field offset cells))
    (ap (λ y. P.sel_phrases (view.sel_of y)) is ∙ ap P.sel_phrases (views.field_view offset cells))
    (phrase_walked a a a (P.SelPhrase (Tree.Field offset cells)) [] (names_none a) tt (stand a))

pub desig_walked : (a b : Tables) (d : D.Desig) → AddsPhrases a b (P.sels_phrases (view.sels_list d.sels.items))
    → AddsPhrases a b (P.desig_phrases (view.desig_of d))
unfolding P.stmts_phrases
desig_walked a b d h = phrase_walked a a b (P.DesigPhrase (view.desig_of d)) (P.sels_phrases (view.sels_list d.sels.items)) (names_none a)
    tt h

pub loop_walked : (a b c d2 d3 : Tables) (l : Loop) → AddsPhrases a b (P.desig_phrases (view.desig_of l.var))
    → AddsPhrases b c (P.expr_phrases (view.expr_of l.from)) → AddsPhrases c d2 (P.expr_phrases (view.expr_of l.to))
    → AddsPhrases d2 d3 (P.stmts_phrases (view.stmts_list l.body.items)) → AddsPhrases a d3 (P.loop_phrases (view.loop_of l))
unfolding P.stmts_phrases
loop_walked a b c d2 d3 l h0 h1 h2 h3 = then_walked a d2 d3 _ _ (then_walked a c d2 _ _ (then_walked a b c _ _ h0 h1) h2) h3

pub else_walked : (a b : Tables) (x : Option (Vec S.Stmt Global)) (v : Vec S.Stmt Global) → x ≡ Some v
    → AddsPhrases a b (P.stmts_phrases (view.stmts_list v.items)) → AddsPhrases a b (P.else_phrases (view.else_option x))
unfolding P.stmts_phrases
else_walked a b x v is h = as_phrases a b _ (P.else_phrases (view.else_option (Some v))) (ap (λ y. P.else_phrases (view.else_option y)) is)
    h

pub no_else_walked : (a : Tables) (x : Option (Vec S.Stmt Global)) → x ≡ None → AddsPhrases a a (P.else_phrases (view.else_option x))
unfolding P.stmts_phrases
no_else_walked a x is = as_phrases a a _ (P.else_phrases (view.else_option None)) (ap (λ y. P.else_phrases (view.else_option y)) is)
    (stand a)

pub result_walked : (a b : Tables) (x : Option E.Expr) (e : E.Expr) → x ≡ Some e → AddsPhrases a b (P.expr_phrases (view.expr_of e))
    → AddsPhrases a b (P.return_phrases (view.return_option x))
unfolding P.stmts_phrases
result_walked a b x e is h = as_phrases a b _ (P.return_phrases (view.return_option (Some e)))
    (ap (λ y. P.return_phrases (view.return_option y)) is) h

pub no_result_walked : (a : Tables) (x : Option E.Expr) → x ≡ None → AddsPhrases a a (P.return_phrases (view.return_option x))
unfolding P.stmts_phrases
no_result_walked a x is = as_phrases a a _ (P.return_phrases (view.return_option None))
    (ap (λ y. P.return_phrases (view.return_option y)) is) (stand a)

-- ---- lists

stmts_last : (xs : List S.Stmt) (x : S.Stmt)
    → P.stmts_phrases (view.stmts_list (xs ++ x ∷ [])) ≡ P.stmts_phrases (view.stmts_list xs) ++ (P.stmt_phrases (view.stmt_of x))
unfolding P.stmts_phrases
stmts_last [] x = append-nil (P.stmt_phrases (view.stmt_of x))
stmts_last (y ∷ xs) x = ap (λ l. (P.stmt_phrases (view.stmt_of y)) ++ l) (stmts_last xs x)
    ∙ sym (append_assoc (P.stmt_phrases (view.stmt_of y)) (P.stmts_phrases (view.stmts_list xs)) (P.stmt_phrases (view.stmt_of x)))

pub stmts_first : (a : Tables) → AddsPhrases a a (P.stmts_phrases (view.stmts_list []))
unfolding P.stmts_phrases
stmts_first a = stand a

pub stmts_more : (a b c : Tables) (xs : List S.Stmt) (i : ℕ) (x : S.Stmt) → i < length xs → x ≡ get_or xs i x
    → AddsPhrases a b (P.stmts_phrases (view.stmts_list (take i xs))) → AddsPhrases b c (P.stmt_phrases (view.stmt_of x))
    → AddsPhrases a c (P.stmts_phrases (view.stmts_list (take (i + 1) xs)))
stmts_more a b c xs i x lt is h j =
    let front : take (i + 1) xs ≡ take i xs ++ x ∷ [] = ap (λ k. take k xs) (add-one i) ∙ take-suc xs i x lt
    ∙ ap (λ y. take i xs ++ y ∷ []) (sym is) in
    as_phrases a c _ _ (ap (λ l. P.stmts_phrases (view.stmts_list l)) front ∙ stmts_last (take i xs) x) (then_walked a b c _ _ h j)

pub stmts_whole : (a b : Tables) (xs : List S.Stmt) (i : ℕ) → i ≡ length xs
    → AddsPhrases a b (P.stmts_phrases (view.stmts_list (take i xs)))
    → AddsPhrases a b (P.stmts_phrases (view.stmts_list xs))
stmts_whole a b xs i is h = as_phrases a b _ _
    (ap (λ l. P.stmts_phrases (view.stmts_list l)) (sym (take-length xs) ∙ ap (λ n. take n xs) (sym is))) h

tests_last : (xs : List T.Test) (x : T.Test)
    → P.tests_phrases (view.tests_list (xs ++ x ∷ [])) ≡ P.tests_phrases (view.tests_list xs) ++ (P.test_phrases (view.test_of x))
unfolding P.stmts_phrases
tests_last [] x = append-nil (P.test_phrases (view.test_of x))
tests_last (y ∷ xs) x = ap (λ l. (P.test_phrases (view.test_of y)) ++ l) (tests_last xs x)
    ∙ sym (append_assoc (P.test_phrases (view.test_of y)) (P.tests_phrases (view.tests_list xs)) (P.test_phrases (view.test_of x)))

pub tests_first : (a : Tables) → AddsPhrases a a (P.tests_phrases (view.tests_list []))
unfolding P.stmts_phrases
tests_first a = stand a

pub tests_more : (a b c : Tables) (xs : List T.Test) (i : ℕ) (x : T.Test) → i < length xs → x ≡ get_or xs i x
    → AddsPhrases a b (P.tests_phrases (view.tests_list (take i xs))) → AddsPhrases b c (P.test_phrases (view.test_of x))
    → AddsPhrases a c (P.tests_phrases (view.tests_list (take (i + 1) xs)))
tests_more a b c xs i x lt is h j =
    let front : take (i + 1) xs ≡ take i xs ++ x ∷ [] = ap (λ k. take k xs) (add-one i) ∙ take-suc xs i x lt
    ∙ ap (λ y. take i xs ++ y ∷ []) (sym is) in
    as_phrases a c _ _ (ap (λ l. P.tests_phrases (view.tests_list l)) front ∙ tests_last (take i xs) x) (then_walked a b c _ _ h j)

args_last : (xs : List A.Arg) (x : A.Arg)
    → P.args_phrases (view.args_list (xs ++ x ∷ [])) ≡ P.args_phrases (view.args_list xs) ++ (P.arg_phrases (view.arg_of x))
unfolding P.stmts_phrases
args_last [] x = append-nil (P.arg_phrases (view.arg_of x))
args_last (y ∷ xs) x = ap (λ l. (P.arg_phrases (view.arg_of y)) ++ l) (args_last xs x)
    ∙ sym (append_assoc (P.arg_phrases (view.arg_of y)) (P.args_phrases (view.args_list xs)) (P.arg_phrases (view.arg_of x)))

pub args_first : (a : Tables) → AddsPhrases a a (P.args_phrases (view.args_list []))
unfolding P.stmts_phrases
args_first a = stand a

pub args_more : (a b c : Tables) (xs : List A.Arg) (i : ℕ) (x : A.Arg) → i < length xs → x ≡ get_or xs i x
    → AddsPhrases a b (P.args_phrases (view.args_list (take i xs))) → AddsPhrases b c (P.arg_phrases (view.arg_of x))
    → AddsPhrases a c (P.args_phrases (view.args_list (take (i + 1) xs)))
args_more a b c xs i x lt is h j =
    let front : take (i + 1) xs ≡ take i xs ++ x ∷ [] = ap (λ k. take k xs) (add-one i) ∙ take-suc xs i x lt
    ∙ ap (λ y. take i xs ++ y ∷ []) (sym is) in
    as_phrases a c _ _ (ap (λ l. P.args_phrases (view.args_list l)) front ∙ args_last (take i xs) x) (then_walked a b c _ _ h j)

sels_last : (xs : List L.Sel) (x : L.Sel)
    → P.sels_phrases (view.sels_list (xs ++ x ∷ [])) ≡ P.sels_phrases (view.sels_list xs) ++ (P.sel_phrases (view.sel_of x))
unfolding P.stmts_phrases
sels_last [] x = append-nil (P.sel_phrases (view.sel_of x))
sels_last (y ∷ xs) x = ap (λ l. (P.sel_phrases (view.sel_of y)) ++ l) (sels_last xs x)
    ∙ sym (append_assoc (P.sel_phrases (view.sel_of y)) (P.sels_phrases (view.sels_list xs)) (P.sel_phrases (view.sel_of x)))

pub sels_first : (a : Tables) → AddsPhrases a a (P.sels_phrases (view.sels_list []))
unfolding P.stmts_phrases
sels_first a = stand a

pub sels_more : (a b c : Tables) (xs : List L.Sel) (i : ℕ) (x : L.Sel) → i < length xs → x ≡ get_or xs i x
    → AddsPhrases a b (P.sels_phrases (view.sels_list (take i xs))) → AddsPhrases b c (P.sel_phrases (view.sel_of x))
    → AddsPhrases a c (P.sels_phrases (view.sels_list (take (i + 1) xs)))
sels_more a b c xs i x lt is h j =
    let front : take (i + 1) xs ≡ take i xs ++ x ∷ [] = ap (λ k. take k xs) (add-one i) ∙ take-suc xs i x lt
    ∙ ap (λ y. take i xs ++ y ∷ []) (sym is) in
    as_phrases a c _ _ (ap (λ l. P.sels_phrases (view.sels_list l)) front ∙ sels_last (take i xs) x) (then_walked a b c _ _ h j)

links_last : (xs : List Link) (x : Link)
    → P.links_phrases (view.links_list (xs ++ x ∷ [])) ≡ P.links_phrases (view.links_list xs) ++ (P.expr_phrases (view.expr_of x.operand))
unfolding P.stmts_phrases
links_last [] x = append-nil (P.expr_phrases (view.expr_of x.operand))
links_last (y ∷ xs) x = ap (λ l. (P.expr_phrases (view.expr_of y.operand)) ++ l) (links_last xs x)
    ∙ sym (append_assoc (P.expr_phrases (view.expr_of y.operand)) (P.links_phrases (view.links_list xs))
    (P.expr_phrases (view.expr_of x.operand)))

pub links_first : (a : Tables) → AddsPhrases a a (P.links_phrases (view.links_list []))
unfolding P.stmts_phrases
links_first a = stand a

pub links_more : (a b c : Tables) (xs : List Link) (i : ℕ) (x : Link) → i < length xs → x ≡ get_or xs i x
    → AddsPhrases a b (P.links_phrases (view.links_list (take i xs))) → AddsPhrases b c (P.expr_phrases (view.expr_of x.operand))
    → AddsPhrases a c (P.links_phrases (view.links_list (take (i + 1) xs)))
links_more a b c xs i x lt is h j =
    let front : take (i + 1) xs ≡ take i xs ++ x ∷ [] = ap (λ k. take k xs) (add-one i) ∙ take-suc xs i x lt
    ∙ ap (λ y. take i xs ++ y ∷ []) (sym is) in
    as_phrases a c _ _ (ap (λ l. P.links_phrases (view.links_list l)) front ∙ links_last (take i xs) x) (then_walked a b c _ _ h j)

cases_last : (xs : List CaseArm) (x : CaseArm)
    → P.cases_phrases (view.cases_list (xs ++ x ∷ [])) ≡ P.cases_phrases (view.cases_list xs)
    ++ (P.stmts_phrases (view.stmts_list x.body.items))
unfolding P.stmts_phrases
cases_last [] x = append-nil (P.stmts_phrases (view.stmts_list x.body.items))
cases_last (y ∷ xs) x = ap (λ l. (P.stmts_phrases (view.stmts_list y.body.items)) ++ l) (cases_last xs x)
    ∙ sym (append_assoc (P.stmts_phrases (view.stmts_list y.body.items)) (P.cases_phrases (view.cases_list xs))
    (P.stmts_phrases (view.stmts_list x.body.items)))

pub cases_first : (a : Tables) → AddsPhrases a a (P.cases_phrases (view.cases_list []))
unfolding P.stmts_phrases
cases_first a = stand a

pub cases_more : (a b c : Tables) (xs : List CaseArm) (i : ℕ) (x : CaseArm) → i < length xs → x ≡ get_or xs i x
    → AddsPhrases a b (P.cases_phrases (view.cases_list (take i xs))) → AddsPhrases b c (P.stmts_phrases (view.stmts_list x.body.items))
    → AddsPhrases a c (P.cases_phrases (view.cases_list (take (i + 1) xs)))
cases_more a b c xs i x lt is h j =
    let front : take (i + 1) xs ≡ take i xs ++ x ∷ [] = ap (λ k. take k xs) (add-one i) ∙ take-suc xs i x lt
    ∙ ap (λ y. take i xs ++ y ∷ []) (sym is) in
    as_phrases a c _ _ (ap (λ l. P.cases_phrases (view.cases_list l)) front ∙ cases_last (take i xs) x) (then_walked a b c _ _ h j)

branches_last : (xs : List Branch) (x : Branch)
    → P.branches_phrases (view.branches_list (xs ++ x ∷ [])) ≡ P.branches_phrases (view.branches_list xs)
    ++ (P.stmts_phrases (view.stmts_list x.body.items))
unfolding P.stmts_phrases
branches_last [] x = append-nil (P.stmts_phrases (view.stmts_list x.body.items))
branches_last (y ∷ xs) x = ap (λ l. (P.stmts_phrases (view.stmts_list y.body.items)) ++ l) (branches_last xs x)
    ∙ sym (append_assoc (P.stmts_phrases (view.stmts_list y.body.items)) (P.branches_phrases (view.branches_list xs))
    (P.stmts_phrases (view.stmts_list x.body.items)))

pub branches_first : (a : Tables) → AddsPhrases a a (P.branches_phrases (view.branches_list []))
unfolding P.stmts_phrases
branches_first a = stand a

pub branches_more : (a b c : Tables) (xs : List Branch) (i : ℕ) (x : Branch) → i < length xs → x ≡ get_or xs i x
    → AddsPhrases a b (P.branches_phrases (view.branches_list (take i xs)))
    → AddsPhrases b c (P.stmts_phrases (view.stmts_list x.body.items))
    → AddsPhrases a c (P.branches_phrases (view.branches_list (take (i + 1) xs)))
branches_more a b c xs i x lt is h j =
    let front : take (i + 1) xs ≡ take i xs ++ x ∷ [] = ap (λ k. take k xs) (add-one i) ∙ take-suc xs i x lt
    ∙ ap (λ y. take i xs ++ y ∷ []) (sym is) in
    as_phrases a c _ _ (ap (λ l. P.branches_phrases (view.branches_list l)) front ∙ branches_last (take i xs) x) (then_walked a b c _ _ h j)

arms_last : (xs : List Arm) (x : Arm) → P.arms_phrases (view.arms_list (xs ++ x ∷ [])) ≡ P.arms_phrases (view.arms_list xs)
    ++ (P.test_phrases (view.test_of x.cond) ++ P.stmts_phrases (view.stmts_list x.body.items))
unfolding P.stmts_phrases
arms_last [] x = append-nil (P.test_phrases (view.test_of x.cond) ++ P.stmts_phrases (view.stmts_list x.body.items))
arms_last (y ∷ xs) x = ap (λ l. (P.test_phrases (view.test_of y.cond) ++ P.stmts_phrases (view.stmts_list y.body.items)) ++ l)
    (arms_last xs x) ∙ sym (append_assoc (P.test_phrases (view.test_of y.cond) ++ P.stmts_phrases (view.stmts_list y.body.items))
    (P.arms_phrases (view.arms_list xs)) (P.test_phrases (view.test_of x.cond) ++ P.stmts_phrases (view.stmts_list x.body.items)))

pub arms_first : (a : Tables) → AddsPhrases a a (P.arms_phrases (view.arms_list []))
unfolding P.stmts_phrases
arms_first a = stand a

pub arms_more : (a b c : Tables) (xs : List Arm) (i : ℕ) (x : Arm) → i < length xs → x ≡ get_or xs i x
    → AddsPhrases a b (P.arms_phrases (view.arms_list (take i xs)))
    → AddsPhrases b c (P.test_phrases (view.test_of x.cond) ++ P.stmts_phrases (view.stmts_list x.body.items))
    → AddsPhrases a c (P.arms_phrases (view.arms_list (take (i + 1) xs)))
arms_more a b c xs i x lt is h j =
    let front : take (i + 1) xs ≡ take i xs ++ x ∷ [] = ap (λ k. take k xs) (add-one i) ∙ take-suc xs i x lt
    ∙ ap (λ y. take i xs ++ y ∷ []) (sym is) in
    as_phrases a c _ _ (ap (λ l. P.arms_phrases (view.arms_list l)) front ∙ arms_last (take i xs) x) (then_walked a b c _ _ h j)

-- ---- vectors and boxes, which a call reads through

pub stmts_at : (a b : Tables) (l m : List S.Stmt) → l ≡ m → AddsPhrases a b (P.stmts_phrases (view.stmts_list l))
    → AddsPhrases a b (P.stmts_phrases (view.stmts_list m))
stmts_at a b l m is h = subst (λ y. AddsPhrases a b (P.stmts_phrases (view.stmts_list y))) is h

pub tests_at : (a b : Tables) (l m : List T.Test) → l ≡ m → AddsPhrases a b (P.tests_phrases (view.tests_list l))
    → AddsPhrases a b (P.tests_phrases (view.tests_list m))
tests_at a b l m is h = subst (λ y. AddsPhrases a b (P.tests_phrases (view.tests_list y))) is h

pub args_at : (a b : Tables) (l m : List A.Arg) → l ≡ m → AddsPhrases a b (P.args_phrases (view.args_list l))
    → AddsPhrases a b (P.args_phrases (view.args_list m))
args_at a b l m is h = subst (λ y. AddsPhrases a b (P.args_phrases (view.args_list y))) is h

pub sels_at : (a b : Tables) (l m : List L.Sel) → l ≡ m → AddsPhrases a b (P.sels_phrases (view.sels_list l))
    → AddsPhrases a b (P.sels_phrases (view.sels_list m))
sels_at a b l m is h = subst (λ y. AddsPhrases a b (P.sels_phrases (view.sels_list y))) is h

pub links_at : (a b : Tables) (l m : List Link) → l ≡ m → AddsPhrases a b (P.links_phrases (view.links_list l))
    → AddsPhrases a b (P.links_phrases (view.links_list m))
links_at a b l m is h = subst (λ y. AddsPhrases a b (P.links_phrases (view.links_list y))) is h

pub cases_at : (a b : Tables) (l m : List CaseArm) → l ≡ m → AddsPhrases a b (P.cases_phrases (view.cases_list l))
    → AddsPhrases a b (P.cases_phrases (view.cases_list m))
cases_at a b l m is h = subst (λ y. AddsPhrases a b (P.cases_phrases (view.cases_list y))) is h

pub branches_at : (a b : Tables) (l m : List Branch) → l ≡ m → AddsPhrases a b (P.branches_phrases (view.branches_list l))
    → AddsPhrases a b (P.branches_phrases (view.branches_list m))
branches_at a b l m is h = subst (λ y. AddsPhrases a b (P.branches_phrases (view.branches_list y))) is h

pub arms_at : (a b : Tables) (l m : List Arm) → l ≡ m → AddsPhrases a b (P.arms_phrases (view.arms_list l))
    → AddsPhrases a b (P.arms_phrases (view.arms_list m))
arms_at a b l m is h = subst (λ y. AddsPhrases a b (P.arms_phrases (view.arms_list y))) is h

pub expr_at : (a b : Tables) (x y : E.Expr) → x ≡ y → AddsPhrases a b (P.expr_phrases (view.expr_of x))
    → AddsPhrases a b (P.expr_phrases (view.expr_of y))
expr_at a b x y is h = subst (λ z. AddsPhrases a b (P.expr_phrases (view.expr_of z))) is h

pub text_at : (a b : Tables) (x y : List ℕ) → x ≡ y → Names a b [] (x ∷ []) → Names a b [] (y ∷ [])
text_at a b x y is h = subst (λ z. Names a b [] (z ∷ [])) is h

pub test_at : (a b : Tables) (x y : T.Test) → x ≡ y → AddsPhrases a b (P.test_phrases (view.test_of x))
    → AddsPhrases a b (P.test_phrases (view.test_of y))
test_at a b x y is h = subst (λ z. AddsPhrases a b (P.test_phrases (view.test_of z))) is h
