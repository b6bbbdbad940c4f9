-- The code of a phrase has as many instructions that read as the phrase has READs.
use Rattle.std.proofs.Common.{◌≡◌, ℕ, zero, suc, ◌+◌, Bool, true, false, List, [], ◌∷◌, ◌++◌, length, Option, Some, None, ℤ, pos, negsuc}
use Rattle.std.proofs.Common.{refl, sym, ap, ◌∙◌, subst, arith}
use Rattle.alma_base.specs.declared.number.Range.{Range}
use Rattle.alma_code.specs.declared.instr.Instr.{Instr}
use Rattle.alma_code.specs.declared.instr.Instr.TheVariants as I
use Rattle.alma_ir.specs.declared.phrase.Cmp.{Cmp}
use Rattle.alma_ir.specs.declared.phrase.Cmp.TheVariants as cmp
use Rattle.alma_ir.specs.declared.phrase.Op.{Op}
use Rattle.alma_ir.specs.declared.phrase.Op.TheVariants as op
use Rattle.alma_ir.specs.declared.phrase.ReadAs.{ReadAs}
use Rattle.alma_ir.specs.declared.phrase.ReadAs.TheVariants as read_as
use Rattle.alma_ir.specs.declared.phrase.Root.{Root}
use Rattle.alma_ir.specs.declared.phrase.Root.TheVariants as root
use Rattle.alma_ir.specs.declared.phrase.WriteAs.{WriteAs}
use Rattle.alma_ir.specs.declared.phrase.WriteAs.TheVariants as write_as
use Rattle.alma_ir.specs.Tree.{Stmts, Stmt, Arms, CaseArms, Else, Branches, Loop, ReturnExpr, Test, Tests, Expr, Links, Args, Arg, Desig}
use Rattle.alma_ir.specs.Tree.{Sels, Sel, Program, routine_at, no_stmts, more_stmts, TestStmt, Assign, CopyCells, If, While, Repeat, ForTo}
use Rattle.alma_ir.specs.Tree.{SomeOf, Case, Either, Forall, Commit, Return, Read, WriteExpr, WriteText, WriteLine, no_arms, more_arms}
use Rattle.alma_ir.specs.Tree.{no_cases, more_cases, no_else, else_part, no_branches, more_branches, a_loop, no_result, some_result, Value}
use Rattle.alma_ir.specs.Tree.{Bind, Unify, SameCells, Seq, And, Or, Not, CallTest, no_tests, more_tests, Const, Load, Chain, Compare}
use Rattle.alma_ir.specs.Tree.{Truth, Known, Chr, CallExpr, no_links, more_links, no_args, more_args, ByValue, ByCells, ByPlace, MixValue}
use Rattle.alma_ir.specs.Tree.{MixPlace, a_desig, no_sels, more_sels, Field, Index}
use Rattle.alma_lower_templates.specs.LineInstr.{LineInstr, own, leaving}
use Rattle.alma_lower_templates.specs.Tables.{Tables, range_number, is_whole}
use Rattle.alma_lower_templates.specs.Pieces.{condition, guard_code, branch_code, first_of_two, not_code, fit_code, neg_code, op_code}
use Rattle.alma_lower_templates.specs.Pieces.{cmp_code}
use Rattle.alma_lower_templates.specs.Pieces.{unequal_code, opposite_code, write_code, read_code, case_arm, passed_over, has_dead}
use Rattle.alma_lower_templates.specs.Pieces.{behind_labels, label_code, label_test, test_size, aim_place, with_last}
use Rattle.alma_lower_templates.specs.Pieces.{place_code as put_in}
use Rattle.alma_lower_templates.specs.Pieces.{labels_code, begin_loop, bounds_code, entry_code, chain_code, link_code, unless_whole}
use Rattle.alma_lower_templates.specs.Pieces.{for_turns, some_turns, turn_code, each_body, forall_code, aim, straight}
use Rattle.alma_lower_templates.specs.Pieces.{count_from, unless_constant, limit_code, put_code, held_or}
use Rattle.alma_lower_templates.specs.Pieces.{held_code as constant_code}
use Rattle.alma_lower_templates.specs.Slots.{shift_of, bare, bare_desig, stays, stays_in, taken_from, unless_bare, is_simple, is_turned}
use Rattle.alma_lower_templates.specs.Slots.{handed_slots, arg_slots, fields_from}
use Rattle.alma_lower_templates.specs.Slots.{behind_expr, behind_dead, behind_value, behind_desig, behind_target, behind_variable}
use Rattle.alma_lower_templates.specs.Slots.{behind_test, behind_stmts, behind_stmt, behind_condition, own_place, own_root, goes_straight}
use Rattle.alma_lower_templates.specs.Slots.{constant, ends_alone, is_straight, held_constant, behind_held}
use Rattle.alma_lower_templates.specs.Templates.{own_slot, slot_or, outer_slot, link_if, set_by, load_by, value_at, part_slot}
use Rattle.alma_lower_templates.specs.Templates.{behind_root, root_code, call_link_code, arguments_from, call_code, set_code}
use Rattle.alma_lower_templates.specs.Templates.{load_code, count_at, count_code, fit_result, stmts_code, stmt_code, if_code, arms_code}
use Rattle.alma_lower_templates.specs.Templates.{for_code, some_code, dead_code, case_code, cases_code, else_code, either_code}
use Rattle.alma_lower_templates.specs.Templates.{branches_code, test_code, and_code, or_code, operands_code, jump_code, back_code}
use Rattle.alma_lower_templates.specs.Templates.{expr_code}
use Rattle.alma_lower_templates.specs.Templates.{links_code, args_code, arg_code, desig_code, sels_code, sel_code, held_at, set_to}
use Rattle.alma_lower_templates.proofs.First.{as_stays, as_taken}
use Rattle.alma_lower_templates.proofs.Placed.{handed_is}
use Rattle.alma_lower_templates.proofs.CaseForms.{one_test, both_tests}
use Rattle.std.specs.Prelude.{if◌then◌else◌}
use Rattle.alma_base.specs.Numbers.{char_range, int_eq}
use Rattle.alma_lower_templates.proofs.Tested.{compared_code, Tested, tested, as_value, as_unequal}
use Rattle.alma_lower_templates.proofs.Turned.{Turned, compares_two, turned, while_code}
use Rattle.alma_lower_templates.proofs.FormRuns.{held_code}
use Rattle.alma_code.specs.Reads.{is_read}

-- ---- READs of phrases

abbrev mutual
  pub stmts_reads : Stmts → ℕ
  stmts_reads no_stmts = 0
  stmts_reads (more_stmts line x rest) = stmt_reads x + stmts_reads rest

  pub stmt_reads : Stmt → ℕ
  stmt_reads (TestStmt t) = test_reads t
  stmt_reads (Assign d e range) = desig_reads d + expr_reads e
  stmt_reads (CopyCells d e) = desig_reads d + desig_reads e
  stmt_reads (If arms rest) = arms_reads arms + stmts_reads rest
  stmt_reads (While t body) = test_reads t + stmts_reads body
  stmt_reads (Repeat body t) = stmts_reads body + test_reads t
  stmt_reads (ForTo l) = loop_reads l
  stmt_reads (SomeOf l) = loop_reads l
  stmt_reads (Case e arms rest) = expr_reads e + cases_reads arms + else_reads rest
  stmt_reads (Either branches) = branches_reads branches
  stmt_reads (Forall x y) = stmts_reads x + stmts_reads y
  stmt_reads (Commit x) = stmts_reads x
  stmt_reads (Return e) = return_reads e
  stmt_reads (Read d how range) = 1 + desig_reads d
  stmt_reads (WriteExpr e how) = expr_reads e
  stmt_reads (WriteText text) = 0
  stmt_reads WriteLine = 0

  pub arms_reads : Arms → ℕ
  arms_reads no_arms = 0
  arms_reads (more_arms t body rest) = test_reads t + stmts_reads body + arms_reads rest

  pub cases_reads : CaseArms → ℕ
  cases_reads no_cases = 0
  cases_reads (more_cases labels body rest) = stmts_reads body + cases_reads rest

  pub else_reads : Else → ℕ
  else_reads no_else = 0
  else_reads (else_part body) = stmts_reads body

  pub branches_reads : Branches → ℕ
  branches_reads no_branches = 0
  branches_reads (more_branches body rest) = stmts_reads body + branches_reads rest

  pub loop_reads : Loop → ℕ
  loop_reads (a_loop d range counter limit from to by body) = desig_reads d + expr_reads from + expr_reads to + stmts_reads body

  pub return_reads : ReturnExpr → ℕ
  return_reads no_result = 0
  return_reads (some_result e) = expr_reads e

  pub test_reads : Test → ℕ
  test_reads (Value e) = expr_reads e
  test_reads (Bind d e range left) = desig_reads d + expr_reads e
  test_reads (Unify d range e range2) = desig_reads d + desig_reads e
  test_reads (SameCells d e) = desig_reads d + desig_reads e
  test_reads (Seq body) = stmts_reads body
  test_reads (And ts) = tests_reads ts
  test_reads (Or ts) = tests_reads ts
  test_reads (Not t) = test_reads t
  test_reads (CallTest routine args up) = args_reads args

  pub tests_reads : Tests → ℕ
  tests_reads no_tests = 0
  tests_reads (more_tests t rest) = test_reads t + tests_reads rest

  pub expr_reads : Expr → ℕ
  expr_reads (Const n) = 0
  expr_reads (Load d) = desig_reads d
  expr_reads (Chain negated e links) = expr_reads e + links_reads links
  expr_reads (Compare how x y) = expr_reads x + expr_reads y
  expr_reads (Truth t) = test_reads t
  expr_reads (Known d) = desig_reads d
  expr_reads (Chr e) = expr_reads e
  expr_reads (CallExpr routine args up) = args_reads args

  pub links_reads : Links → ℕ
  links_reads no_links = 0
  links_reads (more_links how e rest) = expr_reads e + links_reads rest

  pub args_reads : Args → ℕ
  args_reads no_args = 0
  args_reads (more_args a rest) = arg_reads a + args_reads rest

  pub arg_reads : Arg → ℕ
  arg_reads (ByValue e range) = expr_reads e
  arg_reads (ByCells d) = desig_reads d
  arg_reads (ByPlace d) = desig_reads d
  arg_reads (MixValue e range) = expr_reads e
  arg_reads (MixPlace d) = desig_reads d

  pub desig_reads : Desig → ℕ
  desig_reads (a_desig root cells sels) = sels_reads sels

  pub sels_reads : Sels → ℕ
  sels_reads no_sels = 0
  sels_reads (more_sels x rest) = sel_reads x + sels_reads rest

  pub sel_reads : Sel → ℕ
  sel_reads (Field offset cells) = 0
  sel_reads (Index e range cells) = expr_reads e

-- of the arms of CASE that have no label
abbrev dead_reads : CaseArms → ℕ
dead_reads no_cases = 0
dead_reads (more_cases [] body rest) = stmts_reads body + dead_reads rest
dead_reads (more_cases (label ∷ labels) body rest) = dead_reads rest

-- and of those that have some
abbrev live_reads : CaseArms → ℕ
live_reads no_cases = 0
live_reads (more_cases [] body rest) = live_reads rest
live_reads (more_cases (label ∷ labels) body rest) = stmts_reads body + live_reads rest

all_reads : (x : CaseArms) → dead_reads x + live_reads x ≡ cases_reads x
all_reads no_cases = refl
all_reads (more_cases [] body rest) = omega (arith, all_reads rest)
all_reads (more_cases (label ∷ labels) body rest) = omega (arith, all_reads rest)

-- ---- instructions that read

abbrev pub bit_of : Bool → ℕ
bit_of true = 1
bit_of false = 0

abbrev pub reads : List LineInstr → ℕ
reads [] = 0
reads (x ∷ xs) = bit_of (is_read x.instr) + reads xs

pub both : (a b : List LineInstr) → reads (a ++ b) ≡ reads a + reads b
both [] b = omega arith
both (x ∷ a) b = omega (arith, both a b)

aim_reads : (to : ℕ) (i : Instr) → is_read (aim to i) ≡ is_read i
aim_reads to (I.Const old n) = refl
aim_reads to i = refl

aim_place_reads : (to : ℕ) (i : Instr) → is_read (aim_place to i) ≡ is_read i
aim_place_reads to (I.Local old first) = refl
aim_place_reads to i = refl

-- code with its last instruction changed
last_reads : (change : Instr → Instr) → ((i : Instr) → is_read (change i) ≡ is_read i) → (c : List LineInstr)
    → reads (with_last change c) ≡ reads c
last_reads change same [] = refl
last_reads change same (x ∷ []) = ap (λ z. bit_of z + 0) (same x.instr)
last_reads change same (x ∷ (y ∷ rest)) = ap (λ n. bit_of (is_read x.instr) + n) (last_reads change same (y ∷ rest))

straight_reads : (to : ℕ) (c : List LineInstr) → reads (straight to c) ≡ reads c
straight_reads to c = last_reads (aim to) (aim_reads to) c

placed_reads : (to : ℕ) (c : List LineInstr) → reads (put_in to c) ≡ reads c
placed_reads to c = last_reads (aim_place to) (aim_place_reads to) c

-- instructions of which none reads
abbrev Quiet : List Instr → Type 0
Quiet xs = (line : ℕ) → reads (own line xs) ≡ 0

own_both : (line : ℕ) (xs ys : List Instr) → reads (own line (xs ++ ys)) ≡ reads (own line xs) + reads (own line ys)
own_both line [] ys = omega arith
own_both line (x ∷ xs) ys = omega (arith, own_both line xs ys)

quiet_two : (xs ys : List Instr) → Quiet xs → Quiet ys → Quiet (xs ++ ys)
quiet_two xs ys h k line = omega (arith, own_both line xs ys, h line, k line)

op_quiet : (how : Op) (to first other : ℕ) → Quiet (op_code how to first other ∷ [])
op_quiet op.Add to first other line = refl
op_quiet op.Sub to first other line = refl
op_quiet op.Mul to first other line = refl
op_quiet op.Div to first other line = refl
op_quiet op.Mod to first other line = refl

cmp_quiet : (how : Cmp) (to first other : ℕ) → Quiet (cmp_code how to first other)
cmp_quiet cmp.Equal to first other line = refl
cmp_quiet cmp.Unequal to first other line = refl
cmp_quiet cmp.Less to first other line = refl
cmp_quiet cmp.LessEq to first other line = refl
cmp_quiet cmp.Greater to first other line = refl
cmp_quiet cmp.GreaterEq to first other line = refl

opposite_quiet : (how : Cmp) (to first other top : ℕ) → Quiet (opposite_code how to first other ∷ I.JumpZero to top ∷ [])
opposite_quiet cmp.Equal to first other top line = refl
opposite_quiet cmp.Unequal to first other top line = refl
opposite_quiet cmp.Less to first other top line = refl
opposite_quiet cmp.LessEq to first other top line = refl
opposite_quiet cmp.Greater to first other top line = refl
opposite_quiet cmp.GreaterEq to first other top line = refl

-- a constant that is put before a loop
held_quiet : (o : Option ℤ) (to : ℕ) → Quiet (constant_code o to)
held_quiet (Some n) to line = refl
held_quiet None to line = refl

neg_quiet : (negated : Bool) (to from : ℕ) → Quiet (neg_code negated to from)
neg_quiet true to from line = refl
neg_quiet false to from line = refl

write_quiet : (how : WriteAs) (from : ℕ) → Quiet (write_code how from ∷ [])
write_quiet write_as.Int from line = refl
write_quiet write_as.Bool from line = refl
write_quiet write_as.Char from line = refl

-- READ has one
read_one : (how : ReadAs) (place range line : ℕ) → reads (own line (read_code how place range ∷ [])) ≡ 1
read_one read_as.Int place range line = refl
read_one read_as.Char place range line = refl

whole_quiet : (z : Bool) (xs : List Instr) → Quiet xs → Quiet (unless_whole z xs)
whole_quiet true xs h line = refl
whole_quiet false xs h line = h line

chain_quiet : (from links : ℕ) → Quiet (chain_code from links)
chain_quiet from zero line = refl
chain_quiet from (suc links) line = omega (arith, chain_quiet (from + 1) links line)

link_quiet : (lo links : ℕ) → Quiet (link_code lo links)
link_quiet lo links line = omega (arith, chain_quiet lo links line)

entry_quiet : (by : ℤ) (to counter limit : ℕ) → Quiet (entry_code by to counter limit ∷ [])
entry_quiet (pos up) to counter limit line = refl
entry_quiet (negsuc down) to counter limit line = refl

count_quiet_from : (o : Option ℤ) (counter first : ℕ) → Quiet (count_from o counter first ∷ [])
count_quiet_from (Some n) counter first line = refl
count_quiet_from None counter first line = refl

bounds_quiet : (by : ℤ) (o : Option ℤ) (counter limit first empty : ℕ) → Quiet (bounds_code by o counter limit first empty)
bounds_quiet by o counter limit first empty line =
    omega (arith, count_quiet_from o counter first line, entry_quiet by first counter limit line)

test_quiet : (value bound miss : ℕ) (label : Range) → Quiet (label_test value bound miss label)
test_quiet value bound miss label line = by (int_eq label.low label.high)
  where
    by : (z : Bool) → reads (own line (if z then one_test value bound miss label else both_tests value bound miss label)) ≡ 0
    by true = refl
    by false = refl

labels_quiet : (value bound at hit miss : ℕ) (label : Range) (rest : List Range) → Quiet (labels_code value bound at hit miss label rest)
labels_quiet value bound at hit miss label [] line = test_quiet value bound miss label line
labels_quiet value bound at hit miss label (label2 ∷ rest) line =
    let next : ℕ = at + test_size label + 1 in
    quiet_two (label_code value bound at hit label) (labels_code value bound next hit miss label2 rest)
    (quiet_two (label_test value bound next label) (I.Jump hit ∷ []) (test_quiet value bound next label) (λ line. refl))
    (labels_quiet value bound next hit miss label2 rest) line

-- ---- parts that have code only where they have slots

abbrev BareQuiet : Option ℕ → ℕ → Type 0
BareQuiet (Some n) reads_in = reads_in ≡ 0
BareQuiet None reads_in = Unit {0}

-- fields read nothing
fields_quiet : (sels : Sels) (from : ℕ) → BareQuiet (fields_from from sels) (sels_reads sels)
fields_quiet no_sels from = refl
fields_quiet (more_sels (Field offset cells) rest) from = by (fields_from (from + offset) rest) (fields_quiet rest (from + offset))
  where
    by : (o : Option ℕ) → BareQuiet o (sels_reads rest) → BareQuiet o (0 + sels_reads rest)
    by (Some n) h = omega (arith, h)
    by None h = tt
fields_quiet (more_sels (Index e range cells) rest) from = tt

desig_bare : (d : Desig) → BareQuiet (bare_desig d) (desig_reads d)
desig_bare (a_desig (root.Local from) cells sels) = fields_quiet sels from
desig_bare (a_desig (root.Global from) cells sels) = tt
desig_bare (a_desig (root.Param from) cells sels) = tt
desig_bare (a_desig (root.Outer links from) cells sels) = tt
desig_bare (a_desig (root.OuterParam links from) cells sels) = tt

place_quiet : (d : Desig) → BareQuiet (own_place d) (desig_reads d)
place_quiet (a_desig (root.Param from) cells no_sels) = refl
place_quiet (a_desig (root.Param from) cells (more_sels x rest)) = tt
place_quiet (a_desig (root.Local from) cells sels) = tt
place_quiet (a_desig (root.Global from) cells sels) = tt
place_quiet (a_desig (root.Outer links from) cells sels) = tt
place_quiet (a_desig (root.OuterParam links from) cells sels) = tt

expr_bare : (e : Expr) → BareQuiet (bare e) (expr_reads e)
expr_bare (Const n) = tt
expr_bare (Load d) = desig_bare d
expr_bare (Chain negated e links) = tt
expr_bare (Compare how x y) = tt
expr_bare (Truth t) = tt
expr_bare (Known d) = tt
expr_bare (Chr e) = tt
expr_bare (CallExpr called args up) = tt

unless_reads : (o : Option ℕ) (n : ℕ) (c : List LineInstr) → BareQuiet o n → reads c ≡ n → reads (unless_bare o c) ≡ n
unless_reads (Some m) n c quiet e = sym quiet
unless_reads None n c quiet e = e

once : (e : Expr) (c : List LineInstr) → reads c ≡ expr_reads e → reads (unless_bare (bare e) c) ≡ expr_reads e
once e c h = unless_reads (bare e) (expr_reads e) c (expr_bare e) h

-- a first count that is a constant has no code
constant_once : (e : Expr) (c : List LineInstr) → reads c ≡ expr_reads e → reads (unless_constant (constant e) c) ≡ expr_reads e
constant_once (Const n) c h = refl
constant_once (Load d) c h = h
constant_once (Chain negated e links) c h = h
constant_once (Compare how x y) c h = h
constant_once (Truth t) c h = h
constant_once (Known d) c h = h
constant_once (Chr e) c h = h
constant_once (CallExpr called args up) c h = h

located : (d : Desig) (c : List LineInstr) → reads c ≡ desig_reads d → reads (unless_bare (bare_desig d) c) ≡ desig_reads d
located d c h = unless_reads (bare_desig d) (desig_reads d) c (desig_bare d) h

-- the place of a whole parameter
place_code : (d : Desig) (c : List LineInstr) → reads c ≡ desig_reads d → reads (unless_bare (own_place d) c) ≡ desig_reads d
place_code d c h = unless_reads (own_place d) (desig_reads d) c (place_quiet d) h

-- ---- pieces

module _ (line : ℕ) where
  then_own : (a : List LineInstr) (xs : List Instr) → Quiet xs → reads (a ++ own line xs) ≡ reads a
  then_own a xs q = omega (arith, both a (own line xs), q line)

  own_then : (xs : List Instr) (a : List LineInstr) → Quiet xs → reads (own line xs ++ a) ≡ reads a
  own_then xs a q = omega (arith, both (own line xs) a, q line)

  leaving_reads : (at : ℕ) (a : List LineInstr) (rest : (at jump : ℕ) → List LineInstr)
      → reads (leaving line at a rest) ≡ reads a + reads (rest (at + length a + 1) (at + length a))
  leaving_reads at a rest =
      let jump : ℕ = at + length a in
      let b : List LineInstr = rest (jump + 1) jump in
      let over : List Instr = I.Jump (jump + 1 + length b) ∷ [] in
      omega (arith, both a (own line over ++ b))

  by_jump_reads : (jump : ℕ) (a b : List LineInstr) → reads ((a ++ own line (I.Jump jump ∷ [])) ++ b) ≡ reads a + reads b
  by_jump_reads jump a b = omega (arith, both (a ++ own line (I.Jump jump ∷ [])) b, both a (own line (I.Jump jump ∷ [])))

  condition_reads : (simple : Bool) (at lo none : ℕ) (jump : (at lo none : ℕ) → List LineInstr) (test : (at lo : ℕ) → List LineInstr)
      (n : ℕ)
      → (simple ≡ true → reads (jump at lo none) ≡ n) → reads (test (at + 2) (lo + 1)) ≡ n
      → reads (condition simple line at lo none jump test) ≡ n
  condition_reads true at lo none jump test n j t = j refl
  condition_reads false at lo none jump test n j t =
      let inner : List LineInstr = test (at + 2) (lo + 1) in
      omega (arith, t, both inner (own line (I.Cut lo ∷ [])))

  guarded_reads : (at skipped : ℕ) (cond : (none : ℕ) → List LineInstr) (body : (at : ℕ) → List LineInstr) (m n : ℕ)
      → ((none : ℕ) → reads (cond none) ≡ m) → ((at : ℕ) → reads (body at) ≡ n) → reads (guard_code at skipped cond body) ≡ m + n
  guarded_reads at skipped cond body m n c b =
      let behind : ℕ = at + length (cond 0) in
      let inner : List LineInstr = body behind in
      let none : ℕ = behind + length inner + skipped in
      let x = c none in
      let y = b behind in
      omega (arith, x, y, both (cond none) inner)

  chosen_reads : (at : ℕ) (a : List LineInstr) → reads (branch_code line at a) ≡ reads a
  chosen_reads at a = omega arith

  first_reads : (at mark : ℕ) (a : List LineInstr) → reads (first_of_two line at mark a) ≡ reads a
  first_reads at mark a = omega (arith, both a (own line (I.Cut mark ∷ [])))

  refused_reads : (at mark : ℕ) (a : List LineInstr) → reads (not_code line at mark a) ≡ reads a
  refused_reads at mark a = omega (arith, both a (own line (I.Cut mark ∷ I.Fail ∷ [])))

  each_reads : (at mark inner : ℕ) (a : List LineInstr) → reads (each_body line at mark inner a) ≡ reads a
  each_reads at mark inner a = omega (arith, both a (own line (I.Cut inner ∷ I.Keep mark ∷ I.Fail ∷ [])))

  forall_reads : (at mark : ℕ) (a : List LineInstr) → reads (forall_code line at mark a) ≡ reads a
  forall_reads at mark a = omega (arith, both a (own line (I.Finish ∷ [])))

  case_arm_reads : (value bound at : ℕ) (label : Range) (rest : List Range) (a : List LineInstr)
      → reads (case_arm line value bound at label rest a) ≡ reads a
  case_arm_reads value bound at label rest a =
      let hit : ℕ = behind_labels at label rest in
      own_then (labels_code value bound at hit (hit + length a + 1) label rest) a
      (labels_quiet value bound at hit (hit + length a + 1) label rest)

  begin_reads : (at step : ℕ) (by : ℤ) (from to : (at : ℕ) → List LineInstr) (m n : ℕ) → ((at : ℕ) → reads (from at) ≡ m)
      → ((at : ℕ) → reads (to at) ≡ n) → reads (begin_loop line at step by from to) ≡ m + n
  begin_reads at step by from to m n f g =
      let one : List LineInstr = from (at + 1) in
      let two : List LineInstr = to (at + 1 + length one) in
      let x = f (at + 1) in
      let y = g (at + 1 + length one) in
      omega (arith, x, y, both one two)

  turn_reads : (at : ℕ) (check : List Instr) (locate : (at : ℕ) → List LineInstr) (store : Instr) (body : (at : ℕ) → List LineInstr)
      (m n : ℕ)
      → Quiet check → Quiet (store ∷ []) → ((at : ℕ) → reads (locate at) ≡ m) → ((at : ℕ) → reads (body at) ≡ n)
      → reads (turn_code line at check locate store body) ≡ m + n
  turn_reads at check locate store body m n c s l b =
      let at1 : ℕ = at + length (own line check) in
      let one : List LineInstr = locate at1 in
      let at2 : ℕ = at1 + length one in
      let two : List LineInstr = body (at2 + 1) in
      let x = l at1 in
      let y = b (at2 + 1) in
      omega (
        arith,
        x,
        y,
        own_then check (one ++ (own line (store ∷ []) ++ two)) c,
        both one (own line (store ∷ []) ++ two),
        own_then (store ∷ []) two s,
      )

  for_turns_reads : (at : ℕ) (by : ℤ) (o : Option ℤ) (counter limit step first : ℕ) (a : List LineInstr)
      → reads (for_turns line at by o counter limit step first a) ≡ reads a
  for_turns_reads at by o counter limit step first a =
      let exit : ℕ = at + 3 + length a + 2 in
      let end : List Instr = I.Step counter limit step exit ∷ I.Jump (at + 3) ∷ [] in
      omega (
        arith,
        own_then (bounds_code by o counter limit first exit) (a ++ own line end) (bounds_quiet by o counter limit first exit),
        both a (own line end),
      )

  some_turns_reads : (at : ℕ) (o : Option ℤ) (counter limit step first more : ℕ) (a : List LineInstr)
      → reads (some_turns line at o counter limit step first more a) ≡ reads a
  some_turns_reads at o counter limit step first more a = omega (arith, count_quiet_from o counter first line)

  put_reads : (z : Bool) (to value : ℕ) (check : List Instr) (a : List LineInstr) → Quiet check
      → reads (put_code z line to value check a) ≡ reads a
  put_reads true to value check a quiet = straight_reads to a
  put_reads false to value check a quiet =
      then_own a (check ++ (I.Move to value ∷ [])) (quiet_two check (I.Move to value ∷ []) quiet (λ l. refl))

  limit_reads : (z : Bool) (limit value : ℕ) (a : List LineInstr) → reads (limit_code z line limit value a) ≡ reads a
  limit_reads z limit value a = put_reads z limit value [] a (λ l. refl)

  limit_once : (e : Expr) (limit value : ℕ) (c : List LineInstr) → reads c ≡ expr_reads e
      → reads (limit_code (ends_alone e) line limit value (unless_bare (bare e) c)) ≡ expr_reads e
  limit_once e limit value c h = limit_reads (ends_alone e) limit value (unless_bare (bare e) c) ∙ once e c h

module _ (p : Program) (tables : Tables) (r : ℕ) where
  abbrev condition_code : (line at lo none : ℕ) → Test → List LineInstr
  condition_code line at lo none t = condition (is_simple t) line at lo none (λ at lo none. jump_code p tables r line at lo none t)
      (λ at lo. test_code p tables r line at lo t)

  abbrev guarded_code : (line at lo skipped : ℕ) → Test → ((at : ℕ) → List LineInstr) → List LineInstr
  guarded_code line at lo skipped t body = guard_code at skipped (λ none. condition_code line at lo none t) body

  abbrev turn_of : (line at counter lo : ℕ) → Desig → Range → ((at : ℕ) → List LineInstr) → List LineInstr
  turn_of line at counter lo d range body =
      turn_code line at (count_code p tables r (bare_desig d) range counter lo)
      (λ at. unless_bare (bare_desig d) (held_code p tables r line at (lo + 1) d))
      (set_code p tables r (lo + 1) (count_at p tables r (bare_desig d) counter lo) d) body

  -- ---- forms of several parts, given their parts

  decides : (line at lo none : ℕ) (t : Test) (n : ℕ) → (is_simple t ≡ true → reads (jump_code p tables r line at lo none t) ≡ n)
      → reads (test_code p tables r line (at + 2) (lo + 1) t) ≡ n → reads (condition_code line at lo none t) ≡ n
  decides line at lo none t n j f = condition_reads line (is_simple t) at lo none (λ at lo none. jump_code p tables r line at lo none t)
      (λ at lo. test_code p tables r line at lo t) n j f

  asked : (line at lo skipped : ℕ) (t : Test) (body : (at : ℕ) → List LineInstr) (m n : ℕ)
      → ((none : ℕ) → is_simple t ≡ true → reads (jump_code p tables r line at lo none t) ≡ m)
      → ((at lo : ℕ) → reads (test_code p tables r line at lo t) ≡ m) → ((at : ℕ) → reads (body at) ≡ n)
      → reads (guarded_code line at lo skipped t body) ≡ m + n
  asked line at lo skipped t body m n j f b =
      guarded_reads line at skipped (λ none. condition_code line at lo none t) body m n
      (λ none. decides line at lo none t m (j none) (f (at + 2) (lo + 1))) b

  fit_quiet : (range : Range) (value : ℕ) → Quiet (fit_code tables range value)
  fit_quiet range value = whole_quiet (is_whole range) (I.InRange value (range_number tables range) ∷ []) (λ l. refl)

  set_quiet : (lo value : ℕ) (d : Desig) → Quiet (set_code p tables r lo value d ∷ [])
  set_quiet lo value d line = by (bare_desig d)
    where
      by : (o : Option ℕ) → reads (own line (set_by p tables r o lo value d ∷ [])) ≡ 0
      by (Some to) = refl
      by None = refl

  load_quiet : (lo : ℕ) (d : Desig) → Quiet (load_code p tables r lo d ∷ [])
  load_quiet lo d line = by (bare_desig d)
    where
      by : (o : Option ℕ) → reads (own line (load_by p tables r o lo d ∷ [])) ≡ 0
      by (Some from) = refl
      by None = refl

  root_quiet : (lo : ℕ) (x : Root) → Quiet (root_code p tables r lo x)
  root_quiet lo (root.Local from) line = refl
  root_quiet lo (root.Global from) line = refl
  root_quiet lo (root.Param from) line = refl
  root_quiet lo (root.Outer links from) line =
      quiet_two (link_code (lo + 1) links) (I.Outer lo (lo + 1 + links) (outer_slot p tables r links from) ∷ []) (link_quiet (lo + 1) links)
      (λ l. refl) line
  root_quiet lo (root.OuterParam links from) line =
      quiet_two (link_code (lo + 1) links) (I.OuterSame lo (lo + 1 + links) (outer_slot p tables r links from) ∷ [])
      (link_quiet (lo + 1) links) (λ l. refl) line

  call_link_quiet : (called up lo : ℕ) → Quiet (call_link_code p tables r called up lo)
  call_link_quiet called up lo line = by (shift_of p called)
    where
      by : (sh : ℕ) → reads (own line (link_if p tables r sh up lo)) ≡ 0
      by zero = refl
      by (suc one) = link_quiet lo up line

  result_quiet : (o : Option Range) (value : ℕ) → Quiet (fit_result p tables r o value)
  result_quiet (Some range) value line = fit_quiet range value line
  result_quiet None value line = refl

  count_quiet : (o : Option ℕ) (range : Range) (counter lo : ℕ) → Quiet (count_code p tables r o range counter lo)
  count_quiet (Some to) range counter lo line = fit_quiet range counter line
  count_quiet None range counter lo line = omega (arith, fit_quiet range lo line)

  turn : (line at counter lo : ℕ) (d : Desig) (range : Range) (body : (at : ℕ) → List LineInstr) (n : ℕ)
      → ((at : ℕ) → reads (desig_code p tables r line at (lo + 1) d) ≡ desig_reads d) → ((at : ℕ) → reads (body at) ≡ n)
      → reads (turn_of line at counter lo d range body) ≡ desig_reads d + n
  turn line at counter lo d range body n f b =
      turn_reads line at (count_code p tables r (bare_desig d) range counter lo)
      (λ at. unless_bare (bare_desig d) (held_code p tables r line at (lo + 1) d))
      (set_code p tables r (lo + 1) (count_at p tables r (bare_desig d) counter lo) d) body (desig_reads d) n
      (count_quiet (bare_desig d) range counter lo) (set_quiet (lo + 1) (count_at p tables r (bare_desig d) counter lo) d)
      (λ at. located d (held_code p tables r line at (lo + 1) d) (place_code d (desig_code p tables r line at (lo + 1) d) (f at))) b

  -- ---- CASE: the jump over the arms that have no label

  over_reads : (line next at lo : ℕ) (x : CaseArms)
      → reads (passed_over (has_dead x) line next (dead_code p tables r at lo x)) ≡ reads (dead_code p tables r at lo x)
  over_reads line next at lo no_cases = refl
  over_reads line next at lo (more_cases [] body rest) = omega arith
  over_reads line next at lo (more_cases (label ∷ labels) body rest) = over_reads line next at lo rest

  set_reads : (o : Option ℕ) (line : ℕ) (value : List LineInstr) (set : List Instr) → Quiet set
      → reads (set_to p tables r o line value set) ≡ reads value
  set_reads (Some to) line value set quiet = straight_reads (own_slot p tables r to) value
  set_reads None line value set quiet = then_own line value set quiet

  root_reads : (o : Option ℕ) (line lo : ℕ) (x : Root) → reads (unless_bare o (own line (root_code p tables r lo x))) ≡ 0
  root_reads (Some from) line lo x = refl
  root_reads None line lo x = root_quiet lo x line

  -- a value as a test reads where the value does
  value_same : (line at lo : ℕ) (e : Expr)
      → reads (test_code p tables r line at lo (Value e)) ≡ reads (unless_bare (bare e) (expr_code p tables r line at lo e))
  value_same line at lo e = by (tested p tables r e)
    where
      differ : (x y : Expr) → reads (test_code p tables r line at lo (Value (Compare cmp.Unequal x y))) ≡ reads
          (expr_code p tables r line at lo (Compare cmp.Unequal x y))
      differ x y =
          let operand : ℕ = value_at p tables r (behind_expr p r lo x) y in
          let operands : List LineInstr = compared_code p tables r line at lo x y in
          let first : ℕ = slot_or p tables r (stays x y) lo in
          omega (
            arith,
            then_own line operands (unequal_code lo first operand (at + length operands)) (λ l. refl),
            then_own line operands (cmp_code cmp.Unequal lo first operand) (λ l. refl),
          )

      by : Tested p tables r e → reads (test_code p tables r line at lo (Value e)) ≡ reads
          (unless_bare (bare e) (expr_code p tables r line at lo e))
      by (as_value is) = ap reads (is line at lo)
          ∙ then_own line (unless_bare (bare e) (expr_code p tables r line at lo e)) (I.Check (value_at p tables r lo e) ∷ []) (λ l. refl)
      by (as_unequal x y same) = subst (λ z. reads (test_code p tables r line at lo (Value z)) ≡ reads
          (unless_bare (bare z) (expr_code p tables r line at lo z))) (sym same) (differ x y)

  -- an operand that is held reads nothing
  constant_quiet : (line at lo : ℕ) (y : Expr)
      → reads (unless_constant (constant y) (unless_bare (bare y) (expr_code p tables r line at lo y)))
      ≡ reads (unless_bare (bare y) (expr_code p tables r line at lo y))
  constant_quiet line at lo (Const n) = refl
  constant_quiet line at lo (Load d) = refl
  constant_quiet line at lo (Chain negated e links) = refl
  constant_quiet line at lo (Compare how x y) = refl
  constant_quiet line at lo (Truth t) = refl
  constant_quiet line at lo (Known d) = refl
  constant_quiet line at lo (Chr x) = refl
  constant_quiet line at lo (CallExpr called args up) = refl

  -- a comparison that goes back reads where the test of it does
  back_same : (line at lo held top : ℕ) (t : Test) → is_turned t ≡ true
      → reads (back_code p tables r line at lo held top t) ≡ reads (test_code p tables r line at lo t)
  back_same line at lo held top t e = by (turned t e)
    where
      by : Turned t → reads (back_code p tables r line at lo held top t) ≡ reads (test_code p tables r line at lo t)
      by (compares_two how x y is opposite simple) =
          let lo2 : ℕ = behind_expr p r lo x in
          let operand : ℕ = value_at p tables r lo2 y in
          let other : ℕ = held_or (constant y) held operand in
          let one : List LineInstr = unless_bare (stays x y) (expr_code p tables r line at lo x) in
          let two : List LineInstr = unless_bare (bare y) (expr_code p tables r line (at + length one) lo2 y) in
          let left : List LineInstr = unless_constant (constant y) two in
          let first : ℕ = slot_or p tables r (stays x y) lo in
          let same : reads left ≡ reads two = constant_quiet line (at + length one) lo2 y in
          let as_operands : reads (one ++ left) ≡ reads (one ++ two) = omega (arith, both one left, both one two, same) in
          subst (λ u. reads (back_code p tables r line at lo held top u) ≡ reads (test_code p tables r line at lo u)) (sym is)
          (then_own line (one ++ left) (opposite_code how lo first other ∷ I.JumpZero lo top ∷ []) (opposite_quiet how lo first other top)
          ∙ as_operands
          ∙ sym (then_own line (one ++ two) (cmp_code how lo first operand) (cmp_quiet how lo first operand))
          ∙ sym (value_same line at lo (Compare how x y)))

  while_same : (behind : Bool) (line at lo : ℕ) (t : Test) (body : Stmts) (m n : ℕ) → is_turned t ≡ behind
      → ((none : ℕ) → is_simple t ≡ true → reads (jump_code p tables r line (at + 1) lo none t) ≡ m)
      → ((at lo : ℕ) → reads (test_code p tables r line at lo t) ≡ m) → ((at lo : ℕ) → reads (stmts_code p tables r at lo body) ≡ n)
      → reads (while_code p tables r behind line at lo t body) ≡ m + n
  while_same true line at lo t body m n e j f g =
      let constant : List Instr = constant_code (held_constant t) lo in
      let at1 : ℕ = at + length (own line constant) + 1 in
      let lo1 : ℕ = behind_held p r lo t in
      let inner : List LineInstr = stmts_code p tables r at1 lo1 body in
      let top : ℕ = at1 + length inner in
      let lo2 : ℕ = behind_stmts p r lo1 body in
      let last : List LineInstr = back_code p tables r line top lo2 lo at1 t in
      omega (
        arith,
        own_then line constant (own line (I.Jump top ∷ []) ++ (inner ++ last)) (held_quiet (held_constant t) lo),
        own_then line (I.Jump top ∷ []) (inner ++ last) (λ l. refl),
        both inner last,
        back_same line top lo2 lo at1 t e,
        f top lo2,
        g at1 lo1,
      )
  while_same false line at lo t body m n e j f g =
      let lo2 : ℕ = behind_condition p r lo t in
      let inner : List LineInstr = guarded_code line (at + 1) lo 1 t (λ next. stmts_code p tables r next lo2 body) in
      omega (
        arith,
        asked line (at + 1) lo 1 t (λ next. stmts_code p tables r next lo2 body) m n j f (λ next. g next lo2),
        own_then line (I.Jump (at + 1) ∷ []) (inner ++ own line (I.Jump (at + 1) ∷ [])) (λ l. refl),
        then_own line inner (I.Jump (at + 1) ∷ []) (λ l. refl),
      )

  mutual
    desig_same : (line at lo : ℕ) (x : Desig) → reads (desig_code p tables r line at lo x) ≡ desig_reads x
    desig_same line at lo (a_desig root cells sels) =
        let o : Option ℕ = own_root root sels in
        let one : List LineInstr = unless_bare o (own line (root_code p tables r lo root)) in
        let from : ℕ = slot_or p tables r o lo in
        let lo2 : ℕ = behind_root p tables r lo root in
        omega (
          arith,
          both one (sels_code p tables r line (at + length one) from lo2 sels),
          root_reads o line lo root,
          sels_same line (at + length one) from lo2 sels,
        )

    sels_same : (line at from lo : ℕ) (x : Sels) → reads (sels_code p tables r line at from lo x) ≡ sels_reads x
    sels_same line at from lo no_sels = omega arith
    sels_same line at from lo (more_sels x rest) =
        let one : List LineInstr = sel_code p tables r line at from lo x in
        let part : ℕ = part_slot p tables r lo x in
        omega (
          arith,
          both one (sels_code p tables r line (at + length one) part (part + 1) rest),
          sel_same line at from lo x,
          sels_same line (at + length one) part (part + 1) rest,
        )

    sel_same : (line at from lo : ℕ) (x : Sel) → reads (sel_code p tables r line at from lo x) ≡ sel_reads x
    sel_same line at from lo (Field offset cells) = omega arith
    sel_same line at from lo (Index e range cells) =
        omega (
          arith,
          then_own line (unless_bare (bare e) (expr_code p tables r line at lo e))
              (I.Index (behind_value p r lo e) from (value_at p tables r lo e) (range_number tables range) ∷ []) (λ l. refl),
          once e (expr_code p tables r line at lo e) (expr_same line at lo e),
          expr_same line at lo e,
        )

    expr_same : (line at lo : ℕ) (x : Expr) → reads (expr_code p tables r line at lo x) ≡ expr_reads x
    expr_same line at lo (Const n) = omega arith
    expr_same line at lo (Load d) =
        let place : List LineInstr = desig_code p tables r line at (lo + 1) d in
        let one : List LineInstr = held_code p tables r line at (lo + 1) d in
        omega (
          arith,
          then_own line (unless_bare (bare_desig d) one) (load_code p tables r lo d ∷ []) (load_quiet lo d),
          located d one (place_code d place (desig_same line at (lo + 1) d)),
          desig_same line at (lo + 1) d,
        )
    expr_same line at lo (Chain negated e links) =
        let o : Option ℕ = taken_from negated e links in
        let from : ℕ = value_at p tables r lo e in
        let inner : List LineInstr = unless_bare o (expr_code p tables r line at lo e) in
        let one : List LineInstr = inner ++ own line (neg_code negated lo from) in
        let lo2 : ℕ = behind_expr p r lo e in
        let first : ℕ = slot_or p tables r (stays_in negated e links) lo in
        omega (
          arith,
          both one (links_code p tables r line (at + length one) first lo lo2 links),
          then_own line inner (neg_code negated lo from) (neg_quiet negated lo from),
          unless_reads o (expr_reads e) (expr_code p tables r line at lo e)
              (as_taken (λ o. BareQuiet o (expr_reads e)) negated e links tt (expr_bare e)) (expr_same line at lo e),
          links_same line (at + length one) first lo lo2 links,
        )
    expr_same line at lo (Compare how x y) =
        let lo2 : ℕ = behind_expr p r lo x in
        let one : List LineInstr = unless_bare (stays x y) (expr_code p tables r line at lo x) in
        let inner : List LineInstr = expr_code p tables r line (at + length one) lo2 y in
        let two : List LineInstr = unless_bare (bare y) inner in
        let first : ℕ = slot_or p tables r (stays x y) lo in
        omega (
          arith,
          then_own line (one ++ two) (cmp_code how lo first (value_at p tables r lo2 y))
              (cmp_quiet how lo first (value_at p tables r lo2 y)),
          both one two,
          unless_reads (stays x y) (expr_reads x) (expr_code p tables r line at lo x)
              (as_stays (λ o. BareQuiet o (expr_reads x)) x y tt (expr_bare x)) (expr_same line at lo x),
          once y inner (expr_same line (at + length one) lo2 y),
          expr_same line (at + length one) lo2 y,
        )
    expr_same line at lo (Truth t) =
        let one : List LineInstr = guarded_code line at (lo + 1) 2 t (λ next. []) in
        let end : ℕ = at + length one in
        let z = asked line at (lo + 1) 2 t (λ next. []) (test_reads t) 0 (λ none. jump_same line at (lo + 1) none t)
        (λ at lo. test_same line at lo t) (λ next. omega arith) in
        omega (arith, z, then_own line one (I.Const lo (pos 1) ∷ I.Jump (end + 3) ∷ I.Const lo (pos 0) ∷ []) (λ l. refl))
    expr_same line at lo (Known d) =
        let place : List LineInstr = desig_code p tables r line at (lo + 1) d in
        omega (
          arith,
          then_own line (held_code p tables r line at (lo + 1) d) (I.Known lo (held_at p tables r (lo + 1) d) ∷ []) (λ l. refl),
          place_code d place (desig_same line at (lo + 1) d),
          desig_same line at (lo + 1) d,
        )
    expr_same line at lo (Chr e) = omega (
      arith,
      then_own line (expr_code p tables r line at lo e) (I.InRange lo (range_number tables char_range) ∷ []) (λ l. refl),
      expr_same line at lo e,
    )
    expr_same line at lo (CallExpr called args up) =
        let to : ℕ = arguments_from p tables r called up (lo + 2) in
        let link : List Instr = call_link_code p tables r called up (lo + 2) in
        let next : ℕ = at + length (own line link) in
        let lo2 : ℕ = to + length (handed_slots args) in
        let two : List LineInstr = args_code p tables r line next to lo2 args in
        omega (
          arith,
          then_own line (own line link ++ two)
              (I.Mark (lo + 1) ∷ call_code p tables r called args up (lo + 2) lo ∷ I.Cut (lo + 1) ∷ []) (λ l. refl),
          own_then line link two (call_link_quiet called up (lo + 2)),
          args_same line next to lo2 args,
        )

    links_same : (line at first to lo : ℕ) (x : Links) → reads (links_code p tables r line at first to lo x) ≡ links_reads x
    links_same line at first to lo no_links = omega arith
    links_same line at first to lo (more_links how e rest) =
        let inner : List LineInstr = expr_code p tables r line at lo e in
        let one : List LineInstr = unless_bare (bare e) inner ++ own line (op_code how to first (value_at p tables r lo e) ∷ []) in
        let lo2 : ℕ = behind_value p r lo e in
        omega (
          arith,
          both one (links_code p tables r line (at + length one) to to lo2 rest),
          then_own line (unless_bare (bare e) inner) (op_code how to first (value_at p tables r lo e) ∷ [])
              (op_quiet how to first (value_at p tables r lo e)),
          once e inner (expr_same line at lo e),
          expr_same line at lo e,
          links_same line (at + length one) to to lo2 rest,
        )

    args_same : (line at to lo : ℕ) (x : Args) → reads (args_code p tables r line at to lo x) ≡ args_reads x
    args_same line at to lo no_args = omega arith
    args_same line at to lo (more_args a rest) =
        let one : List LineInstr = arg_code p tables r line at to lo a in
        let lo2 : ℕ = lo + length (arg_slots p r a) in
        omega (
          arith,
          both one (args_code p tables r line (at + length one) (to + 1) lo2 rest),
          arg_same line at to lo a,
          args_same line (at + length one) (to + 1) lo2 rest,
        )

    arg_same : (line at to lo : ℕ) (x : Arg) → reads (arg_code p tables r line at to lo x) ≡ arg_reads x
    arg_same line at to lo (ByValue e range) =
        let v : ℕ = value_at p tables r lo e in
        put_reads line (is_straight e range) to v (fit_code tables range v)
        (unless_bare (bare e) (expr_code p tables r line at lo e)) (fit_quiet range v)
        ∙ once e (expr_code p tables r line at lo e) (expr_same line at lo e)
    arg_same line at to lo (ByCells d) =
        let made : List LineInstr = desig_code p tables r line at lo d in
        ap reads (handed_is p tables r to line at lo d) ∙ placed_reads to made ∙ desig_same line at lo d
    arg_same line at to lo (ByPlace d) =
        let made : List LineInstr = desig_code p tables r line at lo d in
        ap reads (handed_is p tables r to line at lo d) ∙ placed_reads to made ∙ desig_same line at lo d
    arg_same line at to lo (MixValue e range) =
        let v : ℕ = value_at p tables r lo e in
        put_reads line (is_straight e range) to v (fit_code tables range v)
        (unless_bare (bare e) (expr_code p tables r line at lo e)) (fit_quiet range v)
        ∙ once e (expr_code p tables r line at lo e) (expr_same line at lo e)
    arg_same line at to lo (MixPlace d) =
        let made : List LineInstr = desig_code p tables r line at lo d in
        ap reads (handed_is p tables r to line at lo d) ∙ placed_reads to made ∙ desig_same line at lo d

    jump_same : (line at lo none : ℕ) (x : Test) → is_simple x ≡ true → reads (jump_code p tables r line at lo none x) ≡ test_reads x
    jump_same line at lo none (Value e) simple =
        omega (
          arith,
          then_own line (unless_bare (bare e) (expr_code p tables r line at lo e))
              (I.JumpZero (value_at p tables r lo e) none ∷ []) (λ l. refl),
          once e (expr_code p tables r line at lo e) (expr_same line at lo e),
          expr_same line at lo e,
        )
    jump_same line at lo none (Bind d e range left) simple = absurd (let bad : false ≡ true = simple in cc)
    jump_same line at lo none (Unify d range e range2) simple = absurd (let bad : false ≡ true = simple in cc)
    jump_same line at lo none (SameCells d e) simple = absurd (let bad : false ≡ true = simple in cc)
    jump_same line at lo none (Seq x) simple = absurd (let bad : false ≡ true = simple in cc)
    jump_same line at lo none (And ts) simple = absurd (let bad : false ≡ true = simple in cc)
    jump_same line at lo none (Or ts) simple = absurd (let bad : false ≡ true = simple in cc)
    jump_same line at lo none (Not t) simple = absurd (let bad : false ≡ true = simple in cc)
    jump_same line at lo none (CallTest called args up) simple = absurd (let bad : false ≡ true = simple in cc)

    test_same : (line at lo : ℕ) (x : Test) → reads (test_code p tables r line at lo x) ≡ test_reads x
    test_same line at lo (Value e) = omega (
      arith,
      value_same line at lo e,
      once e (expr_code p tables r line at lo e) (expr_same line at lo e),
      expr_same line at lo e,
    )
    test_same line at lo (Bind d e range true) =
        let lo2 : ℕ = behind_desig p r lo d in
        let one : List LineInstr = held_code p tables r line at lo d in
        let inner : List LineInstr = expr_code p tables r line (at + length one) lo2 e in
        let two : List LineInstr = unless_bare (bare e) inner in
        omega (
          arith,
          then_own line (one ++ two)
              (I.Bind (held_at p tables r lo d) (value_at p tables r lo2 e) (range_number tables range) ∷ []) (λ l. refl),
          both one two,
          once e inner (expr_same line (at + length one) lo2 e),
          place_code d (desig_code p tables r line at lo d) (desig_same line at lo d),
          expr_same line (at + length one) lo2 e,
        )
    test_same line at lo (Bind d e range false) =
        let lo2 : ℕ = behind_expr p r lo e in
        let one : List LineInstr = expr_code p tables r line at lo e in
        let two : List LineInstr = held_code p tables r line (at + length one) lo2 d in
        omega (
          arith,
          then_own line (one ++ two) (I.Bind (held_at p tables r lo2 d) lo (range_number tables range) ∷ []) (λ l. refl),
          both one two,
          expr_same line at lo e,
          place_code d (desig_code p tables r line (at + length one) lo2 d) (desig_same line (at + length one) lo2 d),
        )
    test_same line at lo (Unify d range e range2) =
        let lo2 : ℕ = behind_desig p r lo d in
        let one : List LineInstr = held_code p tables r line at lo d in
        let two : List LineInstr = held_code p tables r line (at + length one) lo2 e in
        omega (
          arith,
          then_own line (one ++ two) (I.Unify (held_at p tables r lo d) (range_number tables range) (held_at p tables r lo2 e)
              (range_number tables range2) ∷ []) (λ l. refl),
          both one two,
          place_code d (desig_code p tables r line at lo d) (desig_same line at lo d),
          place_code e (desig_code p tables r line (at + length one) lo2 e) (desig_same line (at + length one) lo2 e),
        )
    test_same line at lo (SameCells d e) =
        let lo2 : ℕ = behind_desig p r lo d in
        let one : List LineInstr = held_code p tables r line at lo d in
        let two : List LineInstr = held_code p tables r line (at + length one) lo2 e in
        omega (
          arith,
          then_own line (one ++ two) (I.SameCells (held_at p tables r lo d) (held_at p tables r lo2 e) ∷ []) (λ l. refl),
          both one two,
          place_code d (desig_code p tables r line at lo d) (desig_same line at lo d),
          place_code e (desig_code p tables r line (at + length one) lo2 e) (desig_same line (at + length one) lo2 e),
        )
    test_same line at lo (Seq x) = omega (arith, stmts_same at lo x)
    test_same line at lo (And ts) = omega (arith, and_same line at lo ts)
    test_same line at lo (Or ts) = omega (arith, or_same line at lo ts)
    test_same line at lo (Not t) = omega (
      arith,
      refused_reads line (at + 2) lo (test_code p tables r line (at + 2) (lo + 1) t),
      test_same line (at + 2) (lo + 1) t,
    )
    test_same line at lo (CallTest called args up) =
        let to : ℕ = arguments_from p tables r called up lo in
        let link : List Instr = call_link_code p tables r called up lo in
        let next : ℕ = at + length (own line link) in
        let lo2 : ℕ = to + length (handed_slots args) in
        let two : List LineInstr = args_code p tables r line next to lo2 args in
        omega (
          arith,
          then_own line (own line link ++ two) (call_code p tables r called args up lo 0 ∷ []) (λ l. refl),
          own_then line link two (call_link_quiet called up lo),
          args_same line next to lo2 args,
        )

    and_same : (line at lo : ℕ) (x : Tests) → reads (and_code p tables r line at lo x) ≡ tests_reads x
    and_same line at lo no_tests = omega arith
    and_same line at lo (more_tests t rest) =
        let one : List LineInstr = test_code p tables r line at lo t in
        let lo2 : ℕ = behind_test p r lo t in
        omega (
          arith,
          both one (and_code p tables r line (at + length one) lo2 rest),
          test_same line at lo t,
          and_same line (at + length one) lo2 rest,
        )

    or_same : (line at lo : ℕ) (x : Tests) → reads (or_code p tables r line at lo x) ≡ tests_reads x
    or_same line at lo no_tests = omega arith
    or_same line at lo (more_tests t no_tests) = omega (arith, test_same line at lo t)
    or_same line at lo (more_tests t (more_tests t2 rest)) =
        let inner : List LineInstr = test_code p tables r line (at + 2) (lo + 1) t in
        let one : List LineInstr = first_of_two line (at + 2) lo inner in
        let lo2 : ℕ = behind_test p r (lo + 1) t in
        omega (
          arith,
          leaving_reads line at one (λ next jump. operands_code p tables r line jump next lo2 (more_tests t2 rest)),
          first_reads line (at + 2) lo inner,
          test_same line (at + 2) (lo + 1) t,
          operands_same line (at + length one) (at + length one + 1) lo2 (more_tests t2 rest),
        )

    operands_same : (line jump at lo : ℕ) (x : Tests) → reads (operands_code p tables r line jump at lo x) ≡ tests_reads x
    operands_same line jump at lo no_tests = omega arith
    operands_same line jump at lo (more_tests t no_tests) = omega (arith, test_same line at lo t)
    operands_same line jump at lo (more_tests t (more_tests t2 rest)) =
        let inner : List LineInstr = test_code p tables r line (at + 2) (lo + 1) t in
        let one : List LineInstr = first_of_two line (at + 2) lo inner in
        let lo2 : ℕ = behind_test p r (lo + 1) t in
        let next : ℕ = at + length (one ++ own line (I.Jump jump ∷ [])) in
        omega (
          arith,
          by_jump_reads line jump one (operands_code p tables r line jump next lo2 (more_tests t2 rest)),
          first_reads line (at + 2) lo inner,
          test_same line (at + 2) (lo + 1) t,
          operands_same line jump next lo2 (more_tests t2 rest),
        )

    pub stmts_same : (at lo : ℕ) (x : Stmts) → reads (stmts_code p tables r at lo x) ≡ stmts_reads x
    stmts_same at lo no_stmts = omega arith
    stmts_same at lo (more_stmts mine x rest) =
        let one : List LineInstr = stmt_code p tables r mine at lo x in
        let lo2 : ℕ = behind_stmt p r lo x in
        omega (
          arith,
          both one (stmts_code p tables r (at + length one) lo2 rest),
          stmt_same mine at lo x,
          stmts_same (at + length one) lo2 rest,
        )

    stmt_same : (line at lo : ℕ) (x : Stmt) → reads (stmt_code p tables r line at lo x) ≡ stmt_reads x
    stmt_same line at lo (TestStmt t) = omega (arith, test_same line at lo t)
    stmt_same line at lo (Assign d e range) =
        let lo2 : ℕ = behind_target p r lo d in
        let v : ℕ = value_at p tables r lo2 e in
        let place : List LineInstr = held_code p tables r line at lo d in
        let one : List LineInstr = unless_bare (bare_desig d) place in
        let inner : List LineInstr = expr_code p tables r line (at + length one) lo2 e in
        let two : List LineInstr = unless_bare (bare e) inner in
        omega (
          arith,
          set_reads (goes_straight d e range) line (one ++ two) (fit_code tables range v ++ (set_code p tables r lo v d ∷ []))
              (quiet_two (fit_code tables range v) (set_code p tables r lo v d ∷ []) (fit_quiet range v) (set_quiet lo v d)),
          both one two,
          located d place (place_code d (desig_code p tables r line at lo d) (desig_same line at lo d)),
          once e inner (expr_same line (at + length one) lo2 e),
          expr_same line (at + length one) lo2 e,
        )
    stmt_same line at lo (CopyCells d e) =
        let lo2 : ℕ = behind_desig p r lo d in
        let one : List LineInstr = held_code p tables r line at lo d in
        let two : List LineInstr = held_code p tables r line (at + length one) lo2 e in
        omega (
          arith,
          then_own line (one ++ two) (I.CopyCells (held_at p tables r lo d) (held_at p tables r lo2 e) ∷ []) (λ l. refl),
          both one two,
          place_code d (desig_code p tables r line at lo d) (desig_same line at lo d),
          place_code e (desig_code p tables r line (at + length one) lo2 e) (desig_same line (at + length one) lo2 e),
        )
    stmt_same line at lo (If arms rest) =
        let z = if_same line at lo arms (λ next la. stmts_code p tables r next la rest) (stmts_reads rest)
        (λ next la. stmts_same next la rest) in
        omega (arith, z)
    stmt_same line at lo (While t body) =
        let z = while_same (is_turned t) line at lo t body (test_reads t) (stmts_reads body) refl
        (λ none. jump_same line (at + 1) lo none t) (λ at lo. test_same line at lo t) (λ next lo. stmts_same next lo body) in
        omega (arith, z)
    stmt_same line at lo (Repeat body t) =
        let lo2 : ℕ = behind_stmts p r lo body in
        let one : List LineInstr = stmts_code p tables r at lo body in
        let next : ℕ = at + length one in
        let z = decides line next lo2 at t (test_reads t) (jump_same line next lo2 at t) (test_same line (next + 2) (lo2 + 1) t) in
        omega (arith, z, both one (condition_code line next lo2 at t), stmts_same at lo body)
    stmt_same line at lo (ForTo l) = omega (arith, for_of_same line at lo l)
    stmt_same line at lo (SomeOf l) = omega (arith, some_of_same line at lo l)
    stmt_same line at lo (Case e arms rest) =
        let first : ℕ = behind_expr p r lo e in
        let bound : ℕ = behind_dead p r first arms in
        let one : List LineInstr = expr_code p tables r line at lo e in
        let next : ℕ = at + length one in
        let dead : List LineInstr = dead_code p tables r (next + 1) first arms in
        let over : List LineInstr = passed_over (has_dead arms) line next dead in
        let begin : ℕ = next + length over in
        let tried : List LineInstr = case_code p tables r line lo bound begin (bound + 2) arms
        (λ next la. else_code p tables r line next la rest) in
        let z = case_same line lo bound begin (bound + 2) arms (λ next la. else_code p tables r line next la rest) (else_reads rest)
        (λ next la. else_same line next la rest) in
        omega (
          arith,
          z,
          both one (over ++ tried),
          both over tried,
          over_reads line next (next + 1) first arms,
          dead_same (next + 1) first arms,
          all_reads arms,
          expr_same line at lo e,
        )
    stmt_same line at lo (Either x) = omega (arith, either_same line at lo x)
    stmt_same line at lo (Forall x y) =
        let inner : ℕ = behind_stmts p r (lo + 1) x in
        let one : List LineInstr = stmts_code p tables r (at + 1) (lo + 1) x in
        let n : ℕ = at + 1 + length one in
        let two : List LineInstr = stmts_code p tables r (n + 2) (inner + 1) y in
        omega (
          arith,
          forall_reads line (at + 1) lo (one ++ each_body line (n + 2) lo inner two),
          both one (each_body line (n + 2) lo inner two),
          each_reads line (n + 2) lo inner two,
          stmts_same (at + 1) (lo + 1) x,
          stmts_same (n + 2) (inner + 1) y,
        )
    stmt_same line at lo (Commit x) =
        let inner : List LineInstr = stmts_code p tables r (at + 1) (lo + 1) x in
        omega (
          arith,
          own_then line (I.Mark lo ∷ []) (inner ++ own line (I.Cut lo ∷ [])) (λ l. refl),
          then_own line inner (I.Cut lo ∷ []) (λ l. refl),
          stmts_same (at + 1) (lo + 1) x,
        )
    stmt_same line at lo (Return no_result) = omega arith
    stmt_same line at lo (Return (some_result e)) =
        let v : ℕ = value_at p tables r lo e in
        omega (
          arith,
          then_own line (unless_bare (bare e) (expr_code p tables r line at lo e))
              (fit_result p tables r (routine_at p r).result v ++ (I.ReturnValue v ∷ []))
              (quiet_two (fit_result p tables r (routine_at p r).result v) (I.ReturnValue v ∷ []) (result_quiet (routine_at p r).result v)
              (λ l. refl)),
          once e (expr_code p tables r line at lo e) (expr_same line at lo e),
          expr_same line at lo e,
        )
    stmt_same line at lo (Read d how range) =
        omega (
          arith,
          both (held_code p tables r line at lo d)
              (own line (read_code how (held_at p tables r lo d) (range_number tables range) ∷ [])),
          read_one how (held_at p tables r lo d) (range_number tables range) line,
          place_code d (desig_code p tables r line at lo d) (desig_same line at lo d),
        )
    stmt_same line at lo (WriteExpr e how) =
        omega (
          arith,
          then_own line (unless_bare (bare e) (expr_code p tables r line at lo e))
              (write_code how (value_at p tables r lo e) ∷ []) (write_quiet how (value_at p tables r lo e)),
          once e (expr_code p tables r line at lo e) (expr_same line at lo e),
          expr_same line at lo e,
        )
    stmt_same line at lo (WriteText text) = omega arith
    stmt_same line at lo WriteLine = omega arith

    if_same : (line at lo : ℕ) (x : Arms) (otherwise : (at lo : ℕ) → List LineInstr) (n : ℕ) → ((at lo : ℕ) → reads (otherwise at lo) ≡ n)
        → reads (if_code p tables r line at lo x otherwise) ≡ arms_reads x + n
    if_same line at lo no_arms otherwise n f = let z = f at lo in omega (arith, z)
    if_same line at lo (more_arms t body rest) otherwise n f =
        let lo2 : ℕ = behind_condition p r lo t in
        let lo3 : ℕ = behind_stmts p r lo2 body in
        let one : List LineInstr = guarded_code line at lo 1 t (λ next. stmts_code p tables r next lo2 body) in
        let z = asked line at lo 1 t (λ next. stmts_code p tables r next lo2 body) (test_reads t) (stmts_reads body)
        (λ none. jump_same line at lo none t) (λ at lo. test_same line at lo t) (λ next. stmts_same next lo2 body) in
        let others = arms_same line (at + length one) (at + length one + 1) lo3 rest otherwise n f in
        omega (arith, z, others, leaving_reads line at one (λ next jump. arms_code p tables r line jump next lo3 rest otherwise))

    arms_same : (line jump at lo : ℕ) (x : Arms) (otherwise : (at lo : ℕ) → List LineInstr) (n : ℕ)
        → ((at lo : ℕ) → reads (otherwise at lo) ≡ n) → reads (arms_code p tables r line jump at lo x otherwise) ≡ arms_reads x + n
    arms_same line jump at lo no_arms otherwise n f = let z = f at lo in omega (arith, z)
    arms_same line jump at lo (more_arms t body rest) otherwise n f =
        let lo2 : ℕ = behind_condition p r lo t in
        let lo3 : ℕ = behind_stmts p r lo2 body in
        let one : List LineInstr = guarded_code line at lo 1 t (λ next. stmts_code p tables r next lo2 body) in
        let z = asked line at lo 1 t (λ next. stmts_code p tables r next lo2 body) (test_reads t) (stmts_reads body)
        (λ none. jump_same line at lo none t) (λ at lo. test_same line at lo t) (λ next. stmts_same next lo2 body) in
        let next : ℕ = at + length (one ++ own line (I.Jump jump ∷ [])) in
        let others = arms_same line jump next lo3 rest otherwise n f in
        omega (arith, z, others, by_jump_reads line jump one (arms_code p tables r line jump next lo3 rest otherwise))

    dead_same : (at lo : ℕ) (x : CaseArms) → reads (dead_code p tables r at lo x) ≡ dead_reads x
    dead_same at lo no_cases = refl
    dead_same at lo (more_cases [] body rest) =
        let one : List LineInstr = stmts_code p tables r at lo body in
        let lo2 : ℕ = behind_stmts p r lo body in
        omega (
          arith,
          both one (dead_code p tables r (at + length one) lo2 rest),
          stmts_same at lo body,
          dead_same (at + length one) lo2 rest,
        )
    dead_same at lo (more_cases (label ∷ labels) body rest) = dead_same at lo rest

    case_same : (line value bound at lo : ℕ) (x : CaseArms) (otherwise : (at lo : ℕ) → List LineInstr) (n : ℕ)
        → ((at lo : ℕ) → reads (otherwise at lo) ≡ n) → reads (case_code p tables r line value bound at lo x otherwise) ≡ live_reads x + n
    case_same line value bound at lo no_cases otherwise n f = let z = f at lo in omega (arith, z)
    case_same line value bound at lo (more_cases [] body rest) otherwise n f = let z =
        case_same line value bound at lo rest otherwise n f in omega (arith, z)
    case_same line value bound at lo (more_cases (label ∷ labels) body rest) otherwise n f =
        let inner : List LineInstr = stmts_code p tables r (behind_labels at label labels) lo body in
        let one : List LineInstr = case_arm line value bound at label labels inner in
        let lo2 : ℕ = behind_stmts p r lo body in
        let others = cases_same line value bound (at + length one) (at + length one + 1) lo2 rest otherwise n f in
        omega (
          arith,
          others,
          leaving_reads line at one (λ next jump. cases_code p tables r line value bound jump next lo2 rest otherwise),
          case_arm_reads line value bound at label labels inner,
          stmts_same (behind_labels at label labels) lo body,
        )

    cases_same : (line value bound jump at lo : ℕ) (x : CaseArms) (otherwise : (at lo : ℕ) → List LineInstr) (n : ℕ)
        → ((at lo : ℕ) → reads (otherwise at lo) ≡ n)
        → reads (cases_code p tables r line value bound jump at lo x otherwise) ≡ live_reads x + n
    cases_same line value bound jump at lo no_cases otherwise n f = let z = f at lo in omega (arith, z)
    cases_same line value bound jump at lo (more_cases [] body rest) otherwise n f = let z =
        cases_same line value bound jump at lo rest otherwise n f in omega (arith, z)
    cases_same line value bound jump at lo (more_cases (label ∷ labels) body rest) otherwise n f =
        let inner : List LineInstr = stmts_code p tables r (behind_labels at label labels) lo body in
        let one : List LineInstr = case_arm line value bound at label labels inner in
        let lo2 : ℕ = behind_stmts p r lo body in
        let next : ℕ = at + length (one ++ own line (I.Jump jump ∷ [])) in
        let others = cases_same line value bound jump next lo2 rest otherwise n f in
        omega (
          arith,
          others,
          by_jump_reads line jump one (cases_code p tables r line value bound jump next lo2 rest otherwise),
          case_arm_reads line value bound at label labels inner,
          stmts_same (behind_labels at label labels) lo body,
        )

    else_same : (line at lo : ℕ) (x : Else) → reads (else_code p tables r line at lo x) ≡ else_reads x
    else_same line at lo no_else = omega arith
    else_same line at lo (else_part body) = stmts_same at lo body

    either_same : (line at lo : ℕ) (x : Branches) → reads (either_code p tables r line at lo x) ≡ branches_reads x
    either_same line at lo no_branches = omega arith
    either_same line at lo (more_branches body no_branches) = omega (arith, stmts_same at lo body)
    either_same line at lo (more_branches body (more_branches body2 rest)) =
        let inner : List LineInstr = stmts_code p tables r (at + 1) lo body in
        let one : List LineInstr = branch_code line (at + 1) inner in
        let lo2 : ℕ = behind_stmts p r lo body in
        omega (
          arith,
          leaving_reads line at one (λ next jump. branches_code p tables r line jump next lo2 (more_branches body2 rest)),
          chosen_reads line (at + 1) inner,
          stmts_same (at + 1) lo body,
          branches_same line (at + length one) (at + length one + 1) lo2 (more_branches body2 rest),
        )

    branches_same : (line jump at lo : ℕ) (x : Branches) → reads (branches_code p tables r line jump at lo x) ≡ branches_reads x
    branches_same line jump at lo no_branches = omega arith
    branches_same line jump at lo (more_branches body no_branches) = omega (arith, stmts_same at lo body)
    branches_same line jump at lo (more_branches body (more_branches body2 rest)) =
        let inner : List LineInstr = stmts_code p tables r (at + 1) lo body in
        let one : List LineInstr = branch_code line (at + 1) inner in
        let lo2 : ℕ = behind_stmts p r lo body in
        let next : ℕ = at + length (one ++ own line (I.Jump jump ∷ [])) in
        omega (
          arith,
          by_jump_reads line jump one (branches_code p tables r line jump next lo2 (more_branches body2 rest)),
          chosen_reads line (at + 1) inner,
          stmts_same (at + 1) lo body,
          branches_same line jump next lo2 (more_branches body2 rest),
        )

    for_of_same : (line at lo : ℕ) (x : Loop) → reads (for_code p tables r line at lo x) ≡ loop_reads x
    for_of_same line at lo (a_loop d range counter limit from to by body) =
        let last : ℕ = behind_expr p r (lo + 1) from in
        let place : ℕ = behind_expr p r last to in
        let lo2 : ℕ = behind_variable p r place d in
        let count : ℕ = own_slot p tables r counter in
        let l : ℕ = own_slot p tables r limit in
        let v : ℕ = value_at p tables r last to in
        let one : List LineInstr = begin_loop line at lo
        by (λ at. unless_constant (constant from) (expr_code p tables r line at (lo + 1) from))
        (λ at. limit_code (ends_alone to) line l v (unless_bare (bare to) (expr_code p tables r line at last to))) in
        let next : ℕ = at + length one in
        let each : List LineInstr = turn_of line (next + 3) count place d range (λ at. stmts_code p tables r at lo2 body) in
        let begin = begin_reads line at lo by (λ at. unless_constant (constant from) (expr_code p tables r line at (lo + 1) from))
        (λ at. limit_code (ends_alone to) line l v (unless_bare (bare to) (expr_code p tables r line at last to))) (expr_reads from)
        (expr_reads to) (λ at. constant_once from (expr_code p tables r line at (lo + 1) from) (expr_same line at (lo + 1) from))
        (λ at. limit_once line to l v (expr_code p tables r line at last to) (expr_same line at last to)) in
        let turns = turn line (next + 3) count place d range (λ at. stmts_code p tables r at lo2 body) (stmts_reads body)
        (λ at. desig_same line at (place + 1) d) (λ at. stmts_same at lo2 body) in
        omega (
          arith,
          begin,
          turns,
          both one (for_turns line next by (constant from) count l lo (lo + 1) each),
          for_turns_reads line next by (constant from) count l lo (lo + 1) each,
        )

    some_of_same : (line at lo : ℕ) (x : Loop) → reads (some_code p tables r line at lo x) ≡ loop_reads x
    some_of_same line at lo (a_loop d range counter limit from to by body) =
        let last : ℕ = behind_expr p r (lo + 1) from in
        let more : ℕ = behind_expr p r last to in
        let lo2 : ℕ = behind_variable p r (more + 1) d in
        let count : ℕ = own_slot p tables r counter in
        let l : ℕ = own_slot p tables r limit in
        let v : ℕ = value_at p tables r last to in
        let one : List LineInstr = begin_loop line at lo (pos 1)
        (λ at. unless_constant (constant from) (expr_code p tables r line at (lo + 1) from))
        (λ at. limit_code (ends_alone to) line l v (unless_bare (bare to) (expr_code p tables r line at last to))) in
        let next : ℕ = at + length one in
        let each : List LineInstr = turn_of line (next + 8) count (more + 1) d range (λ at. stmts_code p tables r at lo2 body) in
        let begin = begin_reads line at lo (pos 1) (λ at. unless_constant (constant from) (expr_code p tables r line at (lo + 1) from))
        (λ at. limit_code (ends_alone to) line l v (unless_bare (bare to) (expr_code p tables r line at last to))) (expr_reads from)
        (expr_reads to) (λ at. constant_once from (expr_code p tables r line at (lo + 1) from) (expr_same line at (lo + 1) from))
        (λ at. limit_once line to l v (expr_code p tables r line at last to) (expr_same line at last to)) in
        let turns = turn line (next + 8) count (more + 1) d range (λ at. stmts_code p tables r at lo2 body) (stmts_reads body)
        (λ at. desig_same line at (more + 1 + 1) d) (λ at. stmts_same at lo2 body) in
        omega (
          arith,
          begin,
          turns,
          both one (some_turns line next (constant from) count l lo (lo + 1) more each),
          some_turns_reads line next (constant from) count l lo (lo + 1) more each,
        )
