-- A code by the templates reads where its program reads.
use Rattle.std.proofs.Common.{◌≡◌, ℕ, suc, ◌+◌, Bool, true, false, List, [], ◌∷◌, ◌++◌, length, get_or, Option, Some, None, refl, sym, ap}
use Rattle.std.proofs.Common.{◌∙◌, arith}
use Rattle.std.specs.Prelude.{◌||◌, nat_lt}
use Rattle.std.specs.List.{list_any}
use Rattle.std.proofs.lemmas.Bool.{lt-ltb}
use Rattle.alma_base.specs.declared.number.Range.{Range}
use Rattle.alma_code.specs.Plain.{PlainCode}
use Rattle.alma_ir.specs.Tree.{Program, Routine, routine_at, no_routine, Stmts, Stmt, Arms, CaseArms, Else, Branches, Loop, ReturnExpr}
use Rattle.alma_ir.specs.Tree.{Test, Tests, Expr, Links, Args, Arg, Desig, Sels, Sel, no_stmts, more_stmts, TestStmt, Assign, CopyCells, If}
use Rattle.alma_ir.specs.Tree.{While, Repeat, ForTo, SomeOf, Case, Either, Forall, Commit, Return, Read, WriteExpr, WriteText, WriteLine}
use Rattle.alma_ir.specs.Tree.{no_arms, more_arms, no_cases, more_cases, no_else, else_part, no_branches, more_branches, a_loop, no_result}
use Rattle.alma_ir.specs.Tree.{some_result, Value, Bind, Unify, SameCells, Seq, And, Or, Not, CallTest, no_tests, more_tests, Const, Load}
use Rattle.alma_ir.specs.Tree.{Chain, Compare, Truth, Known, Chr, CallExpr, no_links, more_links, no_args, more_args, ByValue, ByCells}
use Rattle.alma_ir.specs.Tree.{ByPlace, MixValue, MixPlace, a_desig, no_sels, more_sels, Field, Index}
use Rattle.alma_ir.specs.Lines.{body_with_lines}
use Rattle.alma_ir.specs.Phrases.{Phrase, stmts_phrases, stmt_phrases, arms_phrases, cases_phrases, else_phrases, branches_phrases}
use Rattle.alma_ir.specs.Phrases.{loop_phrases, return_phrases, test_phrases, tests_phrases, expr_phrases, links_phrases, args_phrases}
use Rattle.alma_ir.specs.Phrases.{arg_phrases, desig_phrases, sels_phrases, sel_phrases}
use Rattle.alma_lower_templates.specs.LineInstr.{LineInstr, own, instrs_of}
use Rattle.alma_lower_templates.specs.Tables.{Tables}
use Rattle.alma_lower_templates.specs.Slots.{own_kinds}
use Rattle.alma_lower_templates.specs.Templates.{stmts_code, routine_code, end_code}
use Rattle.alma_lower_templates.specs.Compiled.{routines_code}
use Rattle.alma_lower_templates.specs.CodeOf.{IsCodeOf}
use Rattle.alma_lower_sound.specs.Entries.{of_each, program_phrases}
use Rattle.alma_code.specs.Reads.{is_read, code_reads}
use Rattle.alma_lower_sound.specs.Reads.{is_read_phrase, program_reads}
use Rattle.alma_lower_sound.proofs.Readers.{bit_of, reads, both, stmts_same, stmts_reads, stmt_reads, arms_reads, cases_reads, else_reads}
use Rattle.alma_lower_sound.proofs.Readers.{branches_reads, loop_reads, return_reads, test_reads, tests_reads, expr_reads, links_reads}
use Rattle.alma_lower_sound.proofs.Readers.{args_reads, arg_reads, desig_reads, sels_reads, sel_reads}
use Rattle.alma_lower_sound.proofs.ReadersAlike.{stmts_alike}

-- how many of the phrases are READs
abbrev named : List Phrase → ℕ
named [] = 0
named (x ∷ xs) = bit_of (is_read_phrase x) + named xs

two : (xs ys : List Phrase) → named (xs ++ ys) ≡ named xs + named ys
two [] ys = omega arith
two (x ∷ xs) ys = omega (arith, two xs ys)

mutual
  unfolding stmts_phrases

  stmts_count : (x : Stmts) → named (stmts_phrases x) ≡ stmts_reads x
  stmts_count no_stmts = refl
  stmts_count (more_stmts line x rest) = omega (arith, two (stmt_phrases x) (stmts_phrases rest), stmt_count x, stmts_count rest)

  stmt_count : (x : Stmt) → named (stmt_phrases x) ≡ stmt_reads x
  stmt_count (TestStmt t) = omega (arith, test_count t)
  stmt_count (Assign d e range) = omega (arith, two (desig_phrases d) (expr_phrases e), desig_count d, expr_count e)
  stmt_count (CopyCells d e) = omega (arith, two (desig_phrases d) (desig_phrases e), desig_count d, desig_count e)
  stmt_count (If arms rest) = omega (arith, two (arms_phrases arms) (stmts_phrases rest), arms_count arms, stmts_count rest)
  stmt_count (While t body) = omega (arith, two (test_phrases t) (stmts_phrases body), test_count t, stmts_count body)
  stmt_count (Repeat body t) = omega (arith, two (stmts_phrases body) (test_phrases t), stmts_count body, test_count t)
  stmt_count (ForTo l) = omega (arith, loop_count l)
  stmt_count (SomeOf l) = omega (arith, loop_count l)
  stmt_count (Case e arms rest) =
      let parts = expr_phrases e ++ cases_phrases arms in
      omega (
        arith,
        two parts (else_phrases rest),
        two (expr_phrases e) (cases_phrases arms),
        expr_count e,
        cases_count arms,
        else_count rest,
      )
  stmt_count (Either x) = omega (arith, branches_count x)
  stmt_count (Forall x y) = omega (arith, two (stmts_phrases x) (stmts_phrases y), stmts_count x, stmts_count y)
  stmt_count (Commit x) = omega (arith, stmts_count x)
  stmt_count (Return e) = omega (arith, return_count e)
  stmt_count (Read d how range) = omega (arith, desig_count d)
  stmt_count (WriteExpr e how) = omega (arith, expr_count e)
  stmt_count (WriteText text) = omega arith
  stmt_count WriteLine = omega arith

  arms_count : (x : Arms) → named (arms_phrases x) ≡ arms_reads x
  arms_count no_arms = refl
  arms_count (more_arms t body rest) =
      let parts = test_phrases t ++ stmts_phrases body in
      omega (
        arith,
        two parts (arms_phrases rest),
        two (test_phrases t) (stmts_phrases body),
        test_count t,
        stmts_count body,
        arms_count rest,
      )

  cases_count : (x : CaseArms) → named (cases_phrases x) ≡ cases_reads x
  cases_count no_cases = refl
  cases_count (more_cases labels body rest) =
      omega (arith, two (stmts_phrases body) (cases_phrases rest), stmts_count body, cases_count rest)

  else_count : (x : Else) → named (else_phrases x) ≡ else_reads x
  else_count no_else = refl
  else_count (else_part body) = stmts_count body

  branches_count : (x : Branches) → named (branches_phrases x) ≡ branches_reads x
  branches_count no_branches = refl
  branches_count (more_branches body rest) =
      omega (arith, two (stmts_phrases body) (branches_phrases rest), stmts_count body, branches_count rest)

  loop_count : (x : Loop) → named (loop_phrases x) ≡ loop_reads x
  loop_count (a_loop d range counter limit from to by body) =
      let one = desig_phrases d ++ expr_phrases from in
      omega (
        arith,
        two (one ++ expr_phrases to) (stmts_phrases body),
        two one (expr_phrases to),
        two (desig_phrases d) (expr_phrases from),
        desig_count d,
        expr_count from,
        expr_count to,
        stmts_count body,
      )

  return_count : (x : ReturnExpr) → named (return_phrases x) ≡ return_reads x
  return_count no_result = refl
  return_count (some_result e) = expr_count e

  test_count : (x : Test) → named (test_phrases x) ≡ test_reads x
  test_count (Value e) = omega (arith, expr_count e)
  test_count (Bind d e range left) = omega (arith, two (desig_phrases d) (expr_phrases e), desig_count d, expr_count e)
  test_count (Unify d range e range2) = omega (arith, two (desig_phrases d) (desig_phrases e), desig_count d, desig_count e)
  test_count (SameCells d e) = omega (arith, two (desig_phrases d) (desig_phrases e), desig_count d, desig_count e)
  test_count (Seq x) = omega (arith, stmts_count x)
  test_count (And ts) = omega (arith, tests_count ts)
  test_count (Or ts) = omega (arith, tests_count ts)
  test_count (Not t) = omega (arith, test_count t)
  test_count (CallTest called args up) = omega (arith, args_count args)

  tests_count : (x : Tests) → named (tests_phrases x) ≡ tests_reads x
  tests_count no_tests = refl
  tests_count (more_tests t rest) = omega (arith, two (test_phrases t) (tests_phrases rest), test_count t, tests_count rest)

  expr_count : (x : Expr) → named (expr_phrases x) ≡ expr_reads x
  expr_count (Const n) = refl
  expr_count (Load d) = omega (arith, desig_count d)
  expr_count (Chain negated e links) = omega (arith, two (expr_phrases e) (links_phrases links), expr_count e, links_count links)
  expr_count (Compare how x y) = omega (arith, two (expr_phrases x) (expr_phrases y), expr_count x, expr_count y)
  expr_count (Truth t) = omega (arith, test_count t)
  expr_count (Known d) = omega (arith, desig_count d)
  expr_count (Chr e) = omega (arith, expr_count e)
  expr_count (CallExpr called args up) = omega (arith, args_count args)

  links_count : (x : Links) → named (links_phrases x) ≡ links_reads x
  links_count no_links = refl
  links_count (more_links how e rest) = omega (arith, two (expr_phrases e) (links_phrases rest), expr_count e, links_count rest)

  args_count : (x : Args) → named (args_phrases x) ≡ args_reads x
  args_count no_args = refl
  args_count (more_args a rest) = omega (arith, two (arg_phrases a) (args_phrases rest), arg_count a, args_count rest)

  arg_count : (x : Arg) → named (arg_phrases x) ≡ arg_reads x
  arg_count (ByValue e range) = omega (arith, expr_count e)
  arg_count (ByCells d) = omega (arith, desig_count d)
  arg_count (ByPlace d) = omega (arith, desig_count d)
  arg_count (MixValue e range) = omega (arith, expr_count e)
  arg_count (MixPlace d) = omega (arith, desig_count d)

  desig_count : (x : Desig) → named (desig_phrases x) ≡ desig_reads x
  desig_count (a_desig root cells sels) = omega (arith, sels_count sels)

  sels_count : (x : Sels) → named (sels_phrases x) ≡ sels_reads x
  sels_count no_sels = refl
  sels_count (more_sels x rest) = omega (arith, two (sel_phrases x) (sels_phrases rest), sel_count x, sels_count rest)

  sel_count : (x : Sel) → named (sel_phrases x) ≡ sel_reads x
  sel_count (Field offset cells) = refl
  sel_count (Index e range cells) = omega (arith, expr_count e)

-- ---- whether there is one

some_instr : (xs : List LineInstr) → list_any is_read (instrs_of xs) ≡ nat_lt 0 (reads xs)
some_instr [] = refl
some_instr (x ∷ xs) = by (is_read x.instr) (some_instr xs)
  where
    by : (t : Bool) → list_any is_read (instrs_of xs) ≡ nat_lt 0 (reads xs)
        → (t || list_any is_read (instrs_of xs)) ≡ nat_lt 0 (bit_of t + reads xs)
    by true h = sym (lt-ltb 0 (1 + reads xs) (omega arith))
    by false h = let same : reads xs ≡ 0 + reads xs = omega arith in h ∙ ap (nat_lt 0) same

some_phrase : (xs : List Phrase) → list_any is_read_phrase xs ≡ nat_lt 0 (named xs)
some_phrase [] = refl
some_phrase (x ∷ xs) = by (is_read_phrase x) (some_phrase xs)
  where
    by : (t : Bool) → list_any is_read_phrase xs ≡ nat_lt 0 (named xs) → (t || list_any is_read_phrase xs) ≡ nat_lt 0 (bit_of t + named xs)
    by true h = sym (lt-ltb 0 (1 + named xs) (omega arith))
    by false h = let same : named xs ≡ 0 + named xs = omega arith in h ∙ ap (nat_lt 0) same

-- ---- the whole code

module _ (p : Program) (tables : Tables) where
  end_quiet : (o : Option Range) (line : ℕ) → reads (own line (end_code p tables 0 o ∷ [])) ≡ 0
  end_quiet None line = refl
  end_quiet (Some range) line = refl

  routine_count : (r at : ℕ) → reads (routine_code p tables r at) ≡ named (stmts_phrases (routine_at p r).body)
  routine_count r at =
      let mine : Routine = routine_at p r in
      let lo : ℕ = length (own_kinds mine) in
      let body : List LineInstr = stmts_code p tables r at lo (body_with_lines mine) in
      omega (
        arith,
        both body (own mine.line (end_code p tables r mine.result ∷ [])),
        end_quiet mine.result mine.line,
        stmts_same p tables r at lo (body_with_lines mine),
        stmts_alike mine.body mine.lines,
        stmts_count mine.body,
      )

  routines_count : (xs : List Routine) (r at : ℕ) → ((i : ℕ) → routine_at p (r + i) ≡ get_or xs i no_routine)
      → reads (routines_code p tables r (length xs) at) ≡ named (of_each (λ x. stmts_phrases x.body) xs)
  routines_count [] r at same = refl
  routines_count (x ∷ rest) r at same =
      let first : List LineInstr = routine_code p tables r at in
      let next : ℕ = at + length first in
      let here : r ≡ r + 0 = omega arith in
      let is : routine_at p r ≡ x = ap (routine_at p) here ∙ same 0 in
      let mine = routine_count r at in
      let phrases : named (stmts_phrases (routine_at p r).body) ≡ named (stmts_phrases x.body) =
      ap (λ y. named (stmts_phrases y.body)) is in
      let others = routines_count rest (suc r) next
      (λ i. (let moved : suc r + i ≡ r + suc i = omega arith in ap (routine_at p) moved ∙ same (suc i))) in
      omega (
        arith,
        mine,
        phrases,
        others,
        both first (routines_code p tables (suc r) (length rest) next),
        two (stmts_phrases x.body) (of_each (λ y. stmts_phrases y.body) rest),
      )

pub reads_alike : (p : Program) (code : PlainCode) → IsCodeOf p code → code_reads code ≡ program_reads p
reads_alike p code is_code =
    let all : List LineInstr = routines_code p is_code.tables 0 (length p.routines) 0 in
    let same = routines_count p is_code.tables p.routines 0 0 (λ i. (let z : 0 + i ≡ i = omega arith in ap (routine_at p) z)) in
    ap (λ c. list_any is_read c.instrs) is_code.is ∙ some_instr all ∙ ap (nat_lt 0) same ∙ sym (some_phrase (program_phrases p))
