-- What the induction over the phrases of a routine is given: what a checked program keeps and what its tables hold, phrase by
-- phrase, and the lines that are still to be handed out.
use Rattle.std.proofs.Common.{◌≡◌, ℕ, zero, suc, ◌+◌, ◌<◌, ◌≤◌, Bool, true, false, List, [], ◌∷◌, ◌++◌, length, get_or, drop, Some, None}
use Rattle.std.proofs.Common.{refl, sym, ap, ◌∙◌, subst, arith, ℤ}
use Rattle.std.specs.Prelude.{slice_get}
use Rattle.std.specs.List.{AllByRecursion}
use Rattle.alma_base.specs.Numbers.{char_range, within, is_integer}
use Rattle.alma_base.specs.declared.number.Range.{Range}
use Rattle.alma_code.specs.declared.cell.SlotKind.{SlotKind}
use Rattle.alma_code.specs.declared.cell.SlotKind.TheVariants as slot
use Rattle.alma_code.specs.Plain.{PlainCode}
use Rattle.alma_ir.specs.declared.phrase.Cmp.{Cmp}
use Rattle.alma_ir.specs.Tree.{Program, Stmt, Test, Expr, Arg, Args, Desig, Sels, Sel, routine_at, TestStmt, Assign, CopyCells, If, While}
use Rattle.alma_ir.specs.Tree.{Repeat, ForTo, SomeOf, Case, Either, Forall, Commit, Return, Read, WriteExpr, WriteText, WriteLine, Bind}
use Rattle.alma_ir.specs.Tree.{Unify, Value, Const, Compare, Chr, ByValue, MixValue, Index, a_loop, a_desig, no_sels, more_sels, Field}
use Rattle.alma_ir.specs.Tree.{no_args, more_args, ByCells, ByPlace, MixPlace}
use Rattle.alma_ir.specs.declared.program.Param.{Param}
use Rattle.alma_ir.specs.Lines.{stmt_count, behind, desig_with, sels_with, sel_with, args_with, arg_with}
use Rattle.alma_ir.specs.Phrases.{Phrase, StmtPhrase, TestPhrase, ExprPhrase, ArgPhrase, DesigPhrase, SelPhrase, stmt_phrases, arg_phrases}
use Rattle.alma_ir.specs.Phrases.{sel_phrases}
use Rattle.alma_ir.specs.Checked.{RootExists, PartsExist, CellsAgree, LoopIsApart, loops_of, CalleeExists, CallLeads, CallFits}
use Rattle.alma_ir.specs.Checked.{ResultAgrees, HasChoice, ReturnAgrees, ReturnsStay, IsNoReturn, ArgsFit, ArgFits, sel_cells, cells_after}
use Rattle.alma_ir.specs.Checked.{desig_cells, ArePartsOf}
use Rattle.alma_ir.proofs.Each.{each_of_front, each_of_back}
use Rattle.alma_ir.proofs.LinesBack.{count_sum, behind_two}
use Rattle.alma_mean.specs.Meaning.{Level}
use Rattle.alma_lower_implements.proofs.Frames.{HasSlots}
use Rattle.alma_lower_implements.proofs.ExprRows.{AreVariables, slots_first, slots_behind}
use Rattle.alma_lower_templates.specs.Tables.{Tables, range_number, text_number, is_whole}
use Rattle.alma_lower_templates.specs.Slots.{bare, bare_desig, unless_bare, ends_alone, is_simple, is_simple_expr, mark_slots}
use Rattle.alma_lower_templates.specs.Slots.{expr_slots, desig_slots, test_slots, is_turned, behind_expr}
use Rattle.alma_lower_templates.specs.Pieces.{straight}
use Rattle.alma_lower_templates.specs.Templates.{expr_code}
use Rattle.alma_lower_templates.proofs.AtOnce.{BareFits, AtOnce}
use Rattle.alma_lower_templates.proofs.First.{ConstantFits}
use Rattle.alma_lower_templates.proofs.Bounds.{LimitRuns}
use Rattle.alma_lower_templates.proofs.Destinations.{Goal, in_variable, goal_end, goal_ways, GoalFits}
use Rattle.alma_lower_templates.proofs.ExprForms.{RunsTo, NextRuns}
use Rattle.alma_lower_templates.proofs.FormRuns.{ExprRuns, DesigRuns, PlacedRuns, HeldRuns, TestRuns}
use Rattle.alma_lower_templates.proofs.DesigForms.{EndFits}
use Rattle.alma_lower_templates.proofs.GuardedForms.{Decided, decided}
use Rattle.alma_lower_templates.proofs.Turned.{Turned, compares_two, turned, GoesBack, goes_back}
use Rattle.alma_mean.specs.Meaning.{ev_test}

-- ---- lines

-- lines for the statements among the phrases, none of them 0
pub record Known (xs : List Phrase) (ls : List ℕ) : Type 0 where
  pub positive : AllByRecursion (λ l. 0 < l) ls
  pub enough : stmt_count xs ≤ length ls

each_drop : {X : Type 0} (P : X → Type 0) (n : ℕ) (xs : List X) → AllByRecursion P xs → AllByRecursion P (drop n xs)
each_drop P zero xs h = h
each_drop P (suc n) [] h = tt
each_drop P (suc n) (x ∷ xs) h = each_drop P n xs h.1

drop_long : (n : ℕ) (ls : List ℕ) → length ls ≤ n + length (drop n ls)
drop_long zero ls = omega arith
drop_long (suc n) [] = omega arith
drop_long (suc n) (l ∷ ls) = omega (arith, drop_long n ls)

first_positive : (ls : List ℕ) → AllByRecursion (λ l. 0 < l) ls → 1 ≤ length ls → 1 ≤ get_or ls 0 0
first_positive [] h le = absurd (omega (arith, le))
first_positive (l ∷ ls) h le = omega (arith, h.0)

-- a statement is the first of its phrases
some_stmt : (x : Stmt) → 1 ≤ stmt_count (stmt_phrases x)
unfolding stmt_phrases
some_stmt (TestStmt t) = omega arith
some_stmt (Assign d e range) = omega arith
some_stmt (CopyCells d e) = omega arith
some_stmt (If arms rest) = omega arith
some_stmt (While t body) = omega arith
some_stmt (Repeat body t) = omega arith
some_stmt (ForTo l) = omega arith
some_stmt (SomeOf l) = omega arith
some_stmt (Case e arms rest) = omega arith
some_stmt (Either branches) = omega arith
some_stmt (Forall x y) = omega arith
some_stmt (Commit x) = omega arith
some_stmt (Return e) = omega arith
some_stmt (Read d how range) = omega arith
some_stmt (WriteExpr e how) = omega arith
some_stmt (WriteText text) = omega arith
some_stmt WriteLine = omega arith

-- ---- phrases with lines have the cells of those without

pub sel_cells_with : (x : Sel) (ls : List ℕ) → sel_cells (sel_with x ls) ≡ sel_cells x
unfolding sel_with
sel_cells_with (Field offset cells) ls = refl
sel_cells_with (Index e range cells) ls = refl

after_with : (sels : Sels) (cells : ℕ) (ls : List ℕ) → cells_after (sels_with sels ls) cells ≡ cells_after sels cells
unfolding sel_with
after_with no_sels cells ls = refl
after_with (more_sels x rest) cells ls =
    ap (cells_after (sels_with rest (behind (sel_phrases x) ls))) (sel_cells_with x ls)
    ∙ after_with rest (sel_cells x) (behind (sel_phrases x) ls)

pub parts_with : (sels : Sels) (cells : ℕ) (ls : List ℕ) → ArePartsOf sels cells → ArePartsOf (sels_with sels ls) cells
unfolding sel_with
parts_with no_sels cells ls h = tt
parts_with (more_sels (Field offset part) rest) cells ls h = (h.0, parts_with rest part (behind (sel_phrases (Field offset part)) ls) h.1)
parts_with (more_sels (Index e range part) rest) cells ls h = (h.0, parts_with rest part (behind (sel_phrases (Index e range part)) ls) h.1)

pub cells_with : (d : Desig) (ls : List ℕ) → desig_cells (desig_with d ls) ≡ desig_cells d
unfolding sel_with
cells_with (a_desig root cells sels) ls = after_with sels cells ls

arg_with_fits : (x : Param) (a : Arg) (ls : List ℕ) → ArgFits x a → ArgFits x (arg_with a ls)
unfolding sel_with
arg_with_fits x (ByValue e range) ls h = h
arg_with_fits x (ByCells d) ls h = (h.0, cells_with d ls ∙ h.1)
arg_with_fits x (ByPlace d) ls h = (h.0, cells_with d ls ∙ h.1)
arg_with_fits x (MixValue e range) ls h = h
arg_with_fits x (MixPlace d) ls h = (h.0, cells_with d ls ∙ h.1)

pub args_with_fit : (xs : List Param) (args : Args) (ls : List ℕ) → ArgsFit xs args → ArgsFit xs (args_with args ls)
unfolding sel_with
args_with_fit [] no_args ls h = tt
args_with_fit [] (more_args a rest) ls h = absurd h
args_with_fit (x ∷ xs) no_args ls h = absurd h
args_with_fit (x ∷ xs) (more_args a rest) ls h = (arg_with_fits x a ls h.0, args_with_fit xs rest (behind (arg_phrases a) ls) h.1)

module _ (p : Program) (tables : Tables) (code : PlainCode) (input : List ℕ) where
  -- ---- what a phrase is asked for

  abbrev pub Has : Range → Type 0
  Has range = slice_get code.ranges (range_number tables range) ≡ Some range

  abbrev pub HasUnlessWhole : Range → Type 0
  HasUnlessWhole range = is_whole range ≡ false → Has range

  -- each number of the range is one of INTEGER
  abbrev pub IsInside : Range → Type 0
  IsInside range = (n : ℤ) → within range n ≡ true → is_integer n ≡ true

  -- the ranges and texts of a phrase stand in the tables of the code, and its numbers are of INTEGER
  abbrev pub Coded : Phrase → Type 0
  Coded (StmtPhrase (Assign d e range)) = HasUnlessWhole range
  Coded (StmtPhrase (ForTo (a_loop d range counter limit from to by body))) = HasUnlessWhole range
  Coded (StmtPhrase (SomeOf (a_loop d range counter limit from to by body))) = HasUnlessWhole range
  Coded (StmtPhrase (Read d how range)) = Has range × IsInside range
  Coded (StmtPhrase (WriteText text)) = slice_get code.texts (text_number tables text) ≡ Some text
  Coded (TestPhrase (Bind d e range left)) = Has range
  Coded (TestPhrase (Unify d range e range')) = Has range × Has range'
  Coded (ExprPhrase (Const n)) = is_integer n ≡ true
  Coded (ExprPhrase (Chr e)) = Has char_range
  Coded (ArgPhrase (ByValue e range)) = HasUnlessWhole range
  Coded (ArgPhrase (MixValue e range)) = HasUnlessWhole range
  Coded (SelPhrase (Index e range cells)) = Has range
  Coded _ = Unit {0}

  -- of a phrase of the routine r
  pub record Asked (r : ℕ) (x : Phrase) : Type 0 where
    pub root : RootExists p r (routine_at p r) x
    pub parts : PartsExist x
    pub cells : CellsAgree x
    pub loops : AllByRecursion (LoopIsApart p r) (loops_of x)
    pub callee : CalleeExists p x
    pub result : ResultAgrees p x
    pub leads : CallLeads p r (routine_at p r) x
    pub fits : CallFits p x
    pub choice : HasChoice x
    pub return : ReturnAgrees (routine_at p r) x
    pub stay : ReturnsStay x
    pub coded : Coded x

  pub asked_all : (r : ℕ) (xs : List Phrase) → AllByRecursion (RootExists p r (routine_at p r)) xs → AllByRecursion PartsExist xs
      → AllByRecursion CellsAgree xs → AllByRecursion (λ x. AllByRecursion (LoopIsApart p r) (loops_of x)) xs
      → AllByRecursion (CalleeExists p) xs → AllByRecursion (ResultAgrees p) xs
      → AllByRecursion (CallLeads p r (routine_at p r)) xs → AllByRecursion (CallFits p) xs → AllByRecursion HasChoice xs
      → AllByRecursion (ReturnAgrees (routine_at p r)) xs → AllByRecursion ReturnsStay xs → AllByRecursion Coded xs
      → AllByRecursion (Asked r) xs
  asked_all r [] a b c d e f g h i j k l = tt
  asked_all r (x ∷ xs) a b c d e f g h i j k l = (
    record {
      root = a.0;
      parts = b.0;
      cells = c.0;
      loops = d.0;
      callee = e.0;
      result = f.0;
      leads = g.0;
      fits = h.0;
      choice = i.0;
      return =
          j.0;
      stay = k.0;
      coded = l.0;
    },
    asked_all r xs a.1 b.1 c.1 d.1 e.1 f.1 g.1 h.1 i.1 j.1 k.1 l.1,
  )

  -- phrases of the routine, and the lines for them
  pub record Fine (r : ℕ) (xs : List Phrase) (ls : List ℕ) : Type 0 where
    pub asked : AllByRecursion (Asked r) xs
    pub lines : Known xs ls

  pub fine_front : (r : ℕ) (xs ys : List Phrase) (ls : List ℕ) → Fine r (xs ++ ys) ls → Fine r xs ls
  fine_front r xs ys ls h = record {
    asked = each_of_front (Asked r) xs ys h.asked;
    lines =
        record { positive = h.lines.positive; enough = omega (arith, h.lines.enough, count_sum xs ys) };
  }

  pub fine_back : (r : ℕ) (xs ys : List Phrase) (ls : List ℕ) → Fine r (xs ++ ys) ls → Fine r ys (behind xs ls)
  fine_back r xs ys ls h = record {
    asked = each_of_back (Asked r) xs ys h.asked;
    lines = record {
      positive = each_drop (λ l. 0 < l) (stmt_count xs) ls h.lines.positive;
      enough =
          omega (arith, h.lines.enough, count_sum xs ys, drop_long (stmt_count xs) ls);
    };
  }

  -- where the lines of the second list come first
  pub swapped_first : (r : ℕ) (xs ys : List Phrase) (ls : List ℕ) → Fine r (xs ++ ys) ls → Fine r ys ls
  swapped_first r xs ys ls h = record {
    asked = each_of_back (Asked r) xs ys h.asked;
    lines =
        record { positive = h.lines.positive; enough = omega (arith, h.lines.enough, count_sum xs ys) };
  }

  pub swapped_second : (r : ℕ) (xs ys : List Phrase) (ls : List ℕ) → Fine r (xs ++ ys) ls → Fine r xs (behind ys ls)
  swapped_second r xs ys ls h = record {
    asked = each_of_front (Asked r) xs ys h.asked;
    lines = record {
      positive = each_drop (λ l. 0 < l) (stmt_count ys) ls h.lines.positive;
      enough =
          omega (arith, h.lines.enough, count_sum xs ys, drop_long (stmt_count ys) ls);
    };
  }

  -- of three lists, and of four
  pub fine_third : (r : ℕ) (xs ys zs : List Phrase) (ls : List ℕ) → Fine r ((xs ++ ys) ++ zs) ls → Fine r zs (behind ys (behind xs ls))
  fine_third r xs ys zs ls h = subst (Fine r zs) (behind_two xs ys ls) (fine_back r (xs ++ ys) zs ls h)

  pub fine_second : (r : ℕ) (xs ys zs : List Phrase) (ls : List ℕ) → Fine r ((xs ++ ys) ++ zs) ls → Fine r ys (behind xs ls)
  fine_second r xs ys zs ls h = fine_back r xs ys ls (fine_front r (xs ++ ys) zs ls h)

  pub fine_first : (r : ℕ) (xs ys zs : List Phrase) (ls : List ℕ) → Fine r ((xs ++ ys) ++ zs) ls → Fine r xs ls
  fine_first r xs ys zs ls h = fine_front r xs ys ls (fine_front r (xs ++ ys) zs ls h)

  pub fine_fourth : (r : ℕ) (xs ys zs us : List Phrase) (ls : List ℕ) → Fine r (((xs ++ ys) ++ zs) ++ us) ls
      → Fine r us (behind zs (behind ys (behind xs ls)))
  fine_fourth r xs ys zs us ls h = subst (λ l. Fine r us (behind zs l)) (behind_two xs ys ls) (fine_third r (xs ++ ys) zs us ls h)

  -- inside of one phrase
  pub fine_test : (r : ℕ) (t : Test) (rest : List Phrase) (ls : List ℕ) → Fine r (TestPhrase t ∷ rest) ls → Fine r rest ls
  fine_test r t rest ls h = record { asked = h.asked.1; lines = record { positive = h.lines.positive; enough = h.lines.enough } }

  pub fine_expr : (r : ℕ) (e : Expr) (rest : List Phrase) (ls : List ℕ) → Fine r (ExprPhrase e ∷ rest) ls → Fine r rest ls
  fine_expr r e rest ls h = record { asked = h.asked.1; lines = record { positive = h.lines.positive; enough = h.lines.enough } }

  pub fine_arg : (r : ℕ) (a : Arg) (rest : List Phrase) (ls : List ℕ) → Fine r (ArgPhrase a ∷ rest) ls → Fine r rest ls
  fine_arg r a rest ls h = record { asked = h.asked.1; lines = record { positive = h.lines.positive; enough = h.lines.enough } }

  pub fine_desig : (r : ℕ) (d : Desig) (rest : List Phrase) (ls : List ℕ) → Fine r (DesigPhrase d ∷ rest) ls → Fine r rest ls
  fine_desig r d rest ls h = record { asked = h.asked.1; lines = record { positive = h.lines.positive; enough = h.lines.enough } }

  pub fine_sel : (r : ℕ) (x : Sel) (rest : List Phrase) (ls : List ℕ) → Fine r (SelPhrase x ∷ rest) ls → Fine r rest ls
  fine_sel r x rest ls h = record { asked = h.asked.1; lines = record { positive = h.lines.positive; enough = h.lines.enough } }

  pub fine_stmt : (r : ℕ) (x : Stmt) (rest : List Phrase) (ls : List ℕ) → Fine r (StmtPhrase x ∷ rest) ls → Fine r rest (drop 1 ls)
  fine_stmt r x rest ls h = record {
    asked = h.asked.1;
    lines =
        record { positive = each_drop (λ l. 0 < l) 1 ls h.lines.positive; enough = omega (arith, h.lines.enough, drop_long 1 ls) };
  }

  pub has_line : (r : ℕ) (x : Stmt) (ls : List ℕ) → Fine r (stmt_phrases x) ls → 1 ≤ get_or ls 0 0
  has_line r x ls h = first_positive ls h.lines.positive (omega (arith, h.lines.enough, some_stmt x))

  -- no RETURN where none may stand
  abbrev pub Stays : (may : Bool) → List Phrase → Type 0
  Stays may xs = may ≡ false → AllByRecursion IsNoReturn xs

  pub stays_front : (may : Bool) (xs ys : List Phrase) → Stays may (xs ++ ys) → Stays may xs
  stays_front may xs ys h e = each_of_front IsNoReturn xs ys (h e)

  pub stays_back : (may : Bool) (xs ys : List Phrase) → Stays may (xs ++ ys) → Stays may ys
  stays_back may xs ys h e = each_of_back IsNoReturn xs ys (h e)

  -- ---- how phrases run, wherever they stand

  module _ (below : Level) (r line q : ℕ) where
    pub record DesigGoes (d : Desig) : Type 0 where
      pub fits : desig_cells d ≡ 1 → BareFits p tables code input below r line q (bare_desig d)
      pub runs : (at lo : ℕ) → HasSlots p code r lo (desig_slots p r d) → DesigRuns p tables code input below r line q at lo d
      pub held : (at lo : ℕ) → HasSlots p code r lo (desig_slots p r d) → HeldRuns p tables code input below r line q at lo d
      pub placed : (to at lo : ℕ) → EndFits p tables code input below r line q to to (desig_cells d) → to ≤ lo
          → HasSlots p code r lo (desig_slots p r d) → PlacedRuns p tables code input below r line q to at lo d

    -- both operands of a comparison
    pub record OperandsGo (a b : Expr) : Type 0 where
      pub fits : BareFits p tables code input below r line q (bare a)
      pub first : (at lo : ℕ) → HasSlots p code r lo (expr_slots p r a) → ExprRuns p tables code input below r line q at lo a
      pub second : (lo : ℕ) → HasSlots p code r lo (unless_bare (bare b) (expr_slots p r b))
          → NextRuns p tables code input below r line q lo b

    pub record ExprGoes (x : Expr) : Type 0 where
      pub fits : BareFits p tables code input below r line q (bare x)
      pub constants : ConstantFits p tables code input below r line q x
      pub runs : (at lo : ℕ) → HasSlots p code r lo (expr_slots p r x) → ExprRuns p tables code input below r line q at lo x
      pub operands : (how : Cmp) (a b : Expr) → x ≡ Compare how a b → OperandsGo a b
      pub straightly : (goal : Goal p code input) (at lo : ℕ) → ends_alone x ≡ true → GoalFits p code input r goal lo
          → HasSlots p code r lo (expr_slots p r x)
          → RunsTo p tables code input below r line q (goal_ways p code input r goal lo)
          at (straight (goal_end p code input r goal lo) (expr_code p tables r line at lo x)) x

    pub record TestGoes (t : Test) : Type 0 where
      pub runs : (at lo : ℕ) → HasSlots p code r lo (test_slots p r t) → TestRuns p tables code input below r line q at lo t
      pub value : (x : Expr) → t ≡ Value x → ExprGoes x

    pub once : (x : Expr) → ExprGoes x → (at lo : ℕ) → HasSlots p code r lo (unless_bare (bare x) (expr_slots p r x))
        → AtOnce p tables code input below r line q at lo x
    once x h at lo slots = record {
      fits = h.fits;
      runs =
          λ none. h.runs at lo (subst (λ o. HasSlots p code r lo (unless_bare o (expr_slots p r x))) none slots);
    }

    -- behind a first operand
    pub behind_first : (x : Expr) → ExprGoes x → (lo : ℕ) → HasSlots p code r lo (unless_bare (bare x) (expr_slots p r x))
        → NextRuns p tables code input below r line q lo x
    behind_first x h lo slots = record { once = λ at. once x h at lo slots; constants = h.constants; slots = slots }

    pub target : (d : Desig) → DesigGoes d → (at lo : ℕ) → HasSlots p code r lo (unless_bare (bare_desig d) (desig_slots p r d))
        → bare_desig d ≡ None → HeldRuns p tables code input below r line q at lo d
    target d h at lo slots none = h.held at lo (subst (λ o. HasSlots p code r lo (unless_bare o (desig_slots p r d))) none slots)

    -- the variable of a loop, behind the slot of its count
    pub variable : (d : Desig) → DesigGoes d → (at lo : ℕ)
        → HasSlots p code r lo (unless_bare (bare_desig d) (slot.Number ∷ desig_slots p r d)) → bare_desig d ≡ None
        → HeldRuns p tables code input below r line q at (lo + 1) d
    variable d h at lo slots none =
        h.held at (lo + 1) (slots_behind p code input r lo (slot.Number ∷ []) (desig_slots p r d)
        (subst (λ o. HasSlots p code r lo (unless_bare o (slot.Number ∷ desig_slots p r d))) none slots))

    -- the limit of a loop, in its slot
    pub limit_goes : (may : Bool) (x : Expr) → ExprGoes x → (at lo limit : ℕ) → AreVariables p code input r limit 1
        → HasSlots p code r lo (expr_slots p r x) → LimitRuns p tables code input below r line q may at lo limit x
    limit_goes may x h at lo limit of_limit slots = record {
      once = record { fits = h.fits; runs = λ none. h.runs at lo slots };
      straightly = λ alone. h.straightly (in_variable limit) at lo alone of_limit slots;
    }

    simple_slots : (z : Bool) (lo : ℕ) (xs : List SlotKind) → z ≡ true → HasSlots p code r lo (mark_slots z ++ xs) → HasSlots p code r lo xs
    simple_slots true lo xs e h = h
    simple_slots false lo xs e h = absurd (let bad : false ≡ true = e in cc)

    marked_slots : (z : Bool) (lo : ℕ) (xs : List SlotKind) → z ≡ false → HasSlots p code r lo (mark_slots z ++ xs)
        → HasSlots p code r (lo + 1) xs
    marked_slots false lo xs e h = slots_behind p code input r lo (slot.Mark ∷ []) xs h
    marked_slots true lo xs e h = absurd (let bad : true ≡ false = e in cc)

    -- a test as a condition
    pub decides : (t : Test) → TestGoes t → (at lo none : ℕ) → HasSlots p code r lo (mark_slots (is_simple t) ++ test_slots p r t)
        → Decided p tables code input below r line q at lo none t (ev_test p input below t) q
    decides t h at lo none slots =
        decided p tables code input below r line q at lo none t slots (record {
          value = λ x is simple. once x (h.value x is) at lo (value_slots x is simple);
          runs = λ marked. h.runs (at + 2) (lo + 1) (marked_slots (is_simple t) lo (test_slots p r t) marked slots);
        })
      where
        value_slots : (x : Expr) → t ≡ Value x → is_simple_expr x ≡ true → HasSlots p code r lo (unless_bare (bare x) (expr_slots p r x))
        value_slots x is simple = simple_slots (is_simple_expr x) lo (unless_bare (bare x) (expr_slots p r x)) simple
            (subst (λ u. HasSlots p code r lo (mark_slots (is_simple u) ++ test_slots p r u)) is slots)

    -- a test as a condition behind the body of WHILE
    pub decides_back : (t : Test) → TestGoes t → is_turned t ≡ true → (at lo held top : ℕ) → HasSlots p code r lo (test_slots p r t)
        → GoesBack p tables code input below r line q at lo held top t (ev_test p input below t) q
    decides_back t h e at lo held top = by (turned t e)
      where
        by : Turned t → HasSlots p code r lo (test_slots p r t)
            → GoesBack p tables code input below r line q at lo held top t (ev_test p input below t) q
        by (compares_two how x y is opposite simple) =
            let o = (h.value (Compare how x y) is).operands how x y refl in
            subst (λ u. HasSlots p code r lo (test_slots p r u) → GoesBack p tables code input below r line q at lo held top u
            (ev_test p input below u) q) (sym is)
            (λ slots. goes_back p tables code input below r line q at lo held top how x y opposite simple slots
            (o.first at lo (slots_first p code input r lo (expr_slots p r x) (unless_bare (bare y) (expr_slots p r y)) slots)) o.fits
            (o.second (behind_expr p r lo x) (slots_behind p code input r lo (expr_slots p r x) (unless_bare (bare y) (expr_slots p r y))
            slots)))
