-- Lists of trees with one more at the end.
use Rattle.std.proofs.Common.{◌≡◌, ℕ, List, [], ◌∷◌, Option, None, Some, Result, refl, ap, ◌∙◌}
use Rattle.alma_tree.specs.declared.kind.Kind.TheVariants as kinds
use Rattle.alma_tree.specs.declared.phrase.Stmts as ds
use Rattle.alma_tree.specs.declared.phrase.Stmt as dt
use Rattle.alma_tree.specs.declared.phrase.Elsif as df
use Rattle.alma_tree.specs.declared.phrase.Arm as da
use Rattle.alma_tree.specs.declared.phrase.Label as dl
use Rattle.alma_tree.specs.declared.phrase.Expr as de
use Rattle.alma_tree.specs.declared.phrase.AddLink as dk
use Rattle.alma_tree.specs.declared.phrase.MulLink as dn
use Rattle.alma_tree.specs.declared.phrase.Desig as dd
use Rattle.alma_tree.specs.declared.phrase.Selector as dj
use Rattle.alma_tree.specs.Spelling.{add_kind, mul_kind, spell_expr, spell_stmt, spell_stmts, spell_arm, spell_label, spell_desig}
use Rattle.alma_tree.specs.Spelling.{spell_selector}
use Rattle.alma_tree.specs.Spelling.{spell_factor, spell_term, spell_expr_tail, spell_stmt_tail, spell_arm_tail, spell_label_tail}
use Rattle.alma_tree.specs.Spelling.{spell_orelse_tail}
use Rattle.alma_tree.specs.Spelling.{spell_desig_tail, spell_selector_tail, spell_factor_tail, spell_term_tail, spell_elsif_tail}
use Rattle.alma_tree.specs.View.{view_expr, view_stmt, view_stmts, view_arm, view_label, view_desig, view_selector, view_factor, view_term}
use Rattle.alma_tree.specs.View.{exprs_of}
use Rattle.alma_tree.specs.View.{stmts_of, arms_of, labels_of, orelses_of, desigs_of, selectors_of, factors_of, terms_of, elsifs_of}
use Rattle.alma_tree.specs.declared.kind.Kind.{Kind}
use Rattle.alma_tree.specs.Numbers.{Cursor, Step}
use Rattle.alma_tree.specs.Numbers.{token, ◌>>◌, number_expr, number_stmt, number_stmts, number_arm, number_label, number_desig}
use Rattle.alma_tree.specs.Numbers.{number_selector, number_factor, number_term, numbers_of_exprs, numbers_of_stmts, numbers_of_arms}
use Rattle.alma_tree.specs.Numbers.{numbers_of_labels}
use Rattle.alma_tree.specs.Numbers.{numbers_of_orelses, numbers_of_desigs, numbers_of_selectors, numbers_of_factors, numbers_of_terms}
use Rattle.alma_tree.specs.Numbers.{numbers_of_elsifs}
use Rattle.alma_tree.specs.declared.phrase.Args as dg
use Rattle.alma_tree.specs.declared.phrase.Exprs as dx
use Rattle.alma_tree.specs.Spelling.{spell_args}
use Rattle.alma_tree.specs.View.{args_of, args_values}
use Rattle.alma_tree.specs.Numbers.{numbers_of_args, numbers_of_values}
use Rattle.alma_grammar.specs.Parts.{Part}
use Rattle.alma_grammar.specs.Filling.{spell_inside_args}
use Rattle.alma_parse_expr.specs.Pieces.{inside_of, number_inside_args}
use Rattle.alma_parse_cursor.specs.Parsing.{At}
use Rattle.alma_parse_cursor.specs.declared.cursor.Cursor as cursors
use Rattle.alma_parse_cursor.specs.declared.fault.Fault.{Fault}
use Rattle.alma_parse_cursor.proofs.Joins.{Gives}
use Rattle.alma_parse_expr.specs.Made.{made}
use Rattle.alma_parse_expr.proofs.Made.{made_gives}
use Rattle.alma_parse_cursor.proofs.Turns.{Lists, two_and, four_and}

listing : {A : Type 0} {s : A → List Kind → List Kind} {sa : List A → List Kind → List Kind} {n : A → Step} {na : List A → Step}
    → ((r : List Kind) → sa [] r ≡ r) → ((x : A) (xs : List A) (r : List Kind) → sa (x ∷ xs) r ≡ s x (sa xs r))
    → ((at : Cursor) → na [] at ≡ Some at) → ((x : A) (xs : List A) (at : Cursor) → na (x ∷ xs) at ≡ (n x >> na xs) at) → Lists s sa n na
listing h i j k = record { spelled_none = h; spelled_more = i; numbered_none = j; numbered_more = k }

pub exprs : Lists {A = de.Expr} (λ v ks. kinds.Comma ∷ spell_expr (view_expr v) ks) (λ vs. spell_expr_tail (exprs_of vs))
    (λ v. token >> number_expr v) numbers_of_exprs
exprs = listing (λ r. refl) (λ x xs r. refl) (λ at. refl) (λ x xs at. two_and token (number_expr x) (numbers_of_exprs xs) at)

pub stmts : Lists {A = dt.Stmt} (λ v ks. kinds.Semicolon ∷ spell_stmt (view_stmt v) ks) (λ vs. spell_stmt_tail (stmts_of vs))
    (λ v. token >> number_stmt v) numbers_of_stmts
stmts = listing (λ r. refl) (λ x xs r. refl) (λ at. refl) (λ x xs at. two_and token (number_stmt x) (numbers_of_stmts xs) at)

pub arms : Lists {A = da.Arm} (λ v ks. kinds.Bar ∷ spell_arm (view_arm v) ks) (λ vs. spell_arm_tail (arms_of vs))
    (λ v. token >> number_arm v) numbers_of_arms
arms = listing (λ r. refl) (λ x xs r. refl) (λ at. refl) (λ x xs at. two_and token (number_arm x) (numbers_of_arms xs) at)

pub labels : Lists {A = dl.Label} (λ v ks. kinds.Comma ∷ spell_label (view_label v) ks) (λ vs. spell_label_tail (labels_of vs))
    (λ v. token >> number_label v) numbers_of_labels
labels = listing (λ r. refl) (λ x xs r. refl) (λ at. refl) (λ x xs at. two_and token (number_label x) (numbers_of_labels xs) at)

pub orelses : Lists {A = ds.Stmts} (λ v ks. kinds.Orelse ∷ spell_stmts (view_stmts v) ks) (λ vs. spell_orelse_tail (orelses_of vs))
    (λ v. token >> number_stmts v) numbers_of_orelses
orelses = listing (λ r. refl) (λ x xs r. refl) (λ at. refl) (λ x xs at. two_and token (number_stmts x) (numbers_of_orelses xs) at)

pub desigs : Lists {A = dd.Desig} (λ v ks. kinds.Comma ∷ spell_desig (view_desig v) ks) (λ vs. spell_desig_tail (desigs_of vs))
    (λ v. token >> number_desig v) numbers_of_desigs
desigs = listing (λ r. refl) (λ x xs r. refl) (λ at. refl) (λ x xs at. two_and token (number_desig x) (numbers_of_desigs xs) at)

pub selectors : Lists {A = dj.Selector} (λ v. spell_selector (view_selector v)) (λ vs. spell_selector_tail (selectors_of vs))
    number_selector
    numbers_of_selectors
selectors = listing (λ r. refl) (λ x xs r. refl) (λ at. refl) (λ x xs at. refl)

pub factors : Lists {A = dn.MulLink} (λ v ks. mul_kind v.operator ∷ spell_factor (view_factor v.operand) ks)
    (λ vs. spell_factor_tail (factors_of vs))
    (λ v. token >> number_factor v.operand) numbers_of_factors
factors = listing (λ r. refl) (λ x xs r. refl) (λ at. refl) (λ x xs at. two_and token (number_factor x.operand) (numbers_of_factors xs) at)

pub terms : Lists {A = dk.AddLink} (λ v ks. add_kind (dk.out-AddLink v).operator ∷ spell_term (view_term (dk.out-AddLink v).operand) ks)
    (λ vs. spell_term_tail (terms_of vs)) (λ v. token >> number_term (dk.out-AddLink v).operand) numbers_of_terms
terms = listing (λ r. refl) (λ x xs r. refl) (λ at. refl)
    (λ x xs at. two_and token (number_term (dk.out-AddLink x).operand) (numbers_of_terms xs) at)

abbrev pub an_elsif : df.Elsif → List Kind → List Kind
an_elsif v ks = kinds.Elsif ∷ spell_expr (view_expr (df.out-Elsif v).test) (kinds.Then ∷ spell_stmts (view_stmts (df.out-Elsif v).then) ks)

abbrev pub number_elsif : df.Elsif → Step
number_elsif v = token >> number_expr (df.out-Elsif v).test >> token >> number_stmts (df.out-Elsif v).then

pub elsifs : Lists an_elsif (λ vs. spell_elsif_tail (elsifs_of vs)) number_elsif numbers_of_elsifs
elsifs = listing (λ r. refl) (λ x xs r. refl) (λ at. refl) (λ x xs at. four_and token (number_expr (df.out-Elsif x).test) token
    (number_stmts (df.out-Elsif x).then) (numbers_of_elsifs xs) at)

pub elsif_spelled : (e : de.Expr) (v : ds.Stmts)
    → an_elsif (df.roll-Elsif (record { test = e; then = v }))
    ≡ (λ ks. kinds.Elsif ∷ spell_expr (view_expr e) (kinds.Then ∷ spell_stmts (view_stmts v) ks))
elsif_spelled e v = ap (λ o ks. kinds.Elsif ∷ spell_expr (view_expr o.test) (kinds.Then ∷ spell_stmts (view_stmts o.then) ks))
    (df.out-roll-Elsif (record { test = e; then = v }))

pub elsif_numbered : (e : de.Expr) (v : ds.Stmts)
    → number_elsif (df.roll-Elsif (record { test = e; then = v })) ≡ (token >> number_expr e >> token >> number_stmts v)
elsif_numbered e v = ap (λ o. token >> number_expr o.test >> token >> number_stmts o.then)
    (df.out-roll-Elsif (record { test = e; then = v }))

-- ---- arguments

inside_spelled : (x : Option dx.Exprs) → spell_args (args_values x) ≡ (λ r. kinds.OpenParen ∷ spell_inside_args (inside_of x) r)
inside_spelled None = refl
inside_spelled (Some es) = refl

inside_numbered : (x : Option dx.Exprs) → numbers_of_values x ≡ (token >> number_inside_args x)
inside_numbered None = refl
inside_numbered (Some es) = refl

pub args_given : (p : List Part → List Part) (d e : ℕ) (a : At) (r : Result (Option dx.Exprs × cursors.Cursor) Fault)
    (q : Result (Option dg.Args × cursors.Cursor) Fault) → q ≡ made (λ v. Some (dg.roll-Args (record { values = v }))) r
    → Gives (λ v ks. kinds.OpenParen ∷ spell_inside_args (inside_of v) ks) (λ v. token >> number_inside_args v) p d e a r
    → Gives (λ v. spell_args (args_of v)) numbers_of_args p d e a q
args_given p d e a r q x y =
    made_gives (λ v ks. kinds.OpenParen ∷ spell_inside_args (inside_of v) ks) (λ v. token >> number_inside_args v)
    (λ v. spell_args (args_of v))
    numbers_of_args p d e a (λ v. Some (dg.roll-Args (record { values = v })))
    (λ v. ap (λ o. spell_args (args_values o.values)) (dg.out-roll-Args (record { values = v })) ∙ inside_spelled v)
    (λ v. ap (λ o. numbers_of_values o.values) (dg.out-roll-Args (record { values = v })) ∙ inside_numbered v) r q x y
