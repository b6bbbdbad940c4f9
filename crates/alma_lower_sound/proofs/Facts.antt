-- What a phrase of a checked program has, of which its code is sound; with lines or without.
use Rattle.std.proofs.Common.{◌≡◌, ℕ, ◌<◌, List, [], ◌∷◌, length, Some, sym, ◌∙◌, true, false}
use Rattle.std.specs.Prelude.{IsNone, IsSome, slice_get}
use Rattle.std.specs.List.{AllByRecursion}
use Rattle.alma_ir.specs.Tree.{Program, Args, Loop, no_sels, routine_at, Assign, CopyCells, ForTo, SomeOf, Return, Read}
use Rattle.alma_ir.specs.Tree.{WriteText, no_result, some_result, a_loop, Bind, Unify, SameCells, CallTest, Load, Known, Chr, CallExpr}
use Rattle.alma_ir.specs.Tree.{ByValue, MixValue, a_desig, Index}
use Rattle.alma_ir.specs.Checked.{IsChecked, RootExists, PartsExist, CellsAgree, LoopIsApart, IsHiddenSlot, loops_of, CalleeExists}
use Rattle.alma_ir.specs.Checked.{CallLeads, CallFits, LinksAgree, ArgsFit, ResultAgrees, ReturnAgrees, ArePartsOf, desig_cells}
use Rattle.alma_ir.specs.declared.phrase.Root.{Root}
use Rattle.alma_ir.specs.declared.phrase.Root.TheVariants as root
use Rattle.alma_ir.specs.Lines.{behind, stmts_with, args_with, body_with_lines}
use Rattle.alma_ir.specs.Phrases.{Phrase, StmtPhrase, TestPhrase, ExprPhrase, ArgPhrase, DesigPhrase, SelPhrase, stmts_phrases}
use Rattle.alma_ir.specs.Phrases.{expr_phrases, desig_phrases}
use Rattle.alma_lower_templates.specs.Tables.{Tables, text_number}
use Rattle.alma_base.specs.Numbers.{char_range}
use Rattle.alma_lower_templates.specs.CodeOf.{HoldsRange, HoldsChecked, InTables, HoldsAllOf}
use Rattle.alma_lower_templates.proofs.Asked.{cells_with, parts_with, args_with_fit}
use Rattle.alma_lower_sound.proofs.WithLines.{phrase_with, stmts_stay}

module _ (p : Program) (tables : Tables) (r : ℕ) where
  abbrev pub LoopFacts : Loop → Type 0
  LoopFacts (a_loop d range counter limit from to by body) = (desig_cells d ≡ 1) × HoldsChecked tables range × IsHiddenSlot p r counter
      × IsHiddenSlot p r limit

  -- a call: the routine exists, its links lead where they are to, and its arguments fit
  pub record CallFacts (called : ℕ) (args : Args) (up : ℕ) : Type 0 where
    pub not_main : 0 < called
    pub exists : called < length p.routines
    pub leads : LinksAgree p r (routine_at p r) called up
    pub fits : ArgsFit (routine_at p called).params args

  abbrev pub Facts : Phrase → Type 0
  Facts (StmtPhrase (Assign d e range)) = (desig_cells d ≡ 1) × HoldsChecked tables range
  Facts (StmtPhrase (CopyCells d e)) = desig_cells d ≡ desig_cells e
  Facts (StmtPhrase (ForTo l)) = LoopFacts l
  Facts (StmtPhrase (SomeOf l)) = LoopFacts l
  Facts (StmtPhrase (Return no_result)) = IsNone (routine_at p r).result
  Facts (StmtPhrase (Return (some_result e))) = IsSome (routine_at p r).result
  Facts (StmtPhrase (Read d how range)) = (desig_cells d ≡ 1) × HoldsRange tables range
  Facts (StmtPhrase (WriteText text)) = slice_get tables.texts (text_number tables text) ≡ Some text
  Facts (TestPhrase (Bind d e range left)) = (desig_cells d ≡ 1) × HoldsRange tables range
  Facts (TestPhrase (Unify d range e range')) = (desig_cells d ≡ 1) × (desig_cells e ≡ 1) × HoldsRange tables range
      × HoldsRange tables range'
  Facts (TestPhrase (SameCells d e)) = desig_cells d ≡ desig_cells e
  Facts (TestPhrase (CallTest called args up)) = CallFacts called args up × IsNone (routine_at p called).result
  Facts (ExprPhrase (Load d)) = desig_cells d ≡ 1
  Facts (ExprPhrase (Known d)) = desig_cells d ≡ 1
  Facts (ExprPhrase (Chr e)) = HoldsRange tables char_range
  Facts (ExprPhrase (CallExpr called args up)) = CallFacts called args up × IsSome (routine_at p called).result
  Facts (ArgPhrase (ByValue e range)) = HoldsChecked tables range
  Facts (ArgPhrase (MixValue e range)) = HoldsChecked tables range
  Facts (DesigPhrase (a_desig x cells sels)) = RootExists p r (routine_at p r) (DesigPhrase (a_desig x cells no_sels))
      × ArePartsOf sels cells
  Facts (SelPhrase (Index e range cells)) = HoldsRange tables range
  Facts _ = Unit {0}

  -- ---- of a checked program

  -- the condition on a phrase that is asked of the program
  pub record Asked (x : Phrase) : Type 0 where
    pub root : RootExists p r (routine_at p r) x
    pub parts : PartsExist x
    pub cells : CellsAgree x
    pub loops : AllByRecursion (LoopIsApart p r) (loops_of x)
    pub callee : CalleeExists p x
    pub result : ResultAgrees p x
    pub leads : CallLeads p r (routine_at p r) x
    pub fits : CallFits p x
    pub returns : ReturnAgrees (routine_at p r) x
    pub held : InTables tables x

  facts_of : (x : Phrase) → Asked x → Facts x
  facts_of (StmtPhrase (Assign d e range)) h = (h.cells, h.held)
  facts_of (StmtPhrase (CopyCells d e)) h = h.cells
  facts_of (StmtPhrase (ForTo (a_loop d range counter limit from to by body))) h =
      (h.cells, h.held, h.loops.0.of_counter, h.loops.0.of_limit)
  facts_of (StmtPhrase (SomeOf (a_loop d range counter limit from to by body))) h =
      (h.cells, h.held, h.loops.0.of_counter, h.loops.0.of_limit)
  facts_of (StmtPhrase (Return no_result)) h = h.returns
  facts_of (StmtPhrase (Return (some_result e))) h = h.returns
  facts_of (StmtPhrase (Read d how range)) h = (h.cells, h.held)
  facts_of (StmtPhrase (WriteText text)) h = h.held
  facts_of (TestPhrase (Bind d e range left)) h = (h.cells, h.held)
  facts_of (TestPhrase (Unify d range e range')) h = (h.cells.0, h.cells.1, h.held.0, h.held.1)
  facts_of (TestPhrase (SameCells d e)) h = h.cells
  facts_of (TestPhrase (CallTest called args up)) h =
      (record { not_main = h.callee.0; exists = h.callee.1; leads = h.leads; fits = h.fits }, h.result)
  facts_of (ExprPhrase (Load d)) h = h.cells
  facts_of (ExprPhrase (Known d)) h = h.cells
  facts_of (ExprPhrase (Chr e)) h = h.held
  facts_of (ExprPhrase (CallExpr called args up)) h =
      (record { not_main = h.callee.0; exists = h.callee.1; leads = h.leads; fits = h.fits }, h.result)
  facts_of (ArgPhrase (ByValue e range)) h = h.held
  facts_of (ArgPhrase (MixValue e range)) h = h.held
  facts_of (DesigPhrase (a_desig x cells sels)) h = (without_sels x h.root, h.parts)
    where
      without_sels : (y : Root) → RootExists p r (routine_at p r) (DesigPhrase (a_desig y cells sels))
          → RootExists p r (routine_at p r) (DesigPhrase (a_desig y cells no_sels))
      without_sels (root.Local from) h = h
      without_sels (root.Global from) h = h
      without_sels (root.Param from) h = h
      without_sels (root.Outer links from) h = h
      without_sels (root.OuterParam links from) h = h
  facts_of (SelPhrase (Index e range cells)) h = h.held
  facts_of x h = tt

  each_of : (xs : List Phrase) → AllByRecursion Asked xs → AllByRecursion Facts xs
  each_of [] h = tt
  each_of (x ∷ xs) h = (facts_of x h.0, each_of xs h.1)

  -- ---- with lines

  call_stays : (called up : ℕ) (args : Args) (ls : List ℕ) → CallFacts called args up → CallFacts called (args_with args ls) up
  call_stays called up args ls h = record {
    not_main = h.not_main;
    exists = h.exists;
    leads = h.leads;
    fits =
        args_with_fit (routine_at p called).params args ls h.fits;
  }

  facts_stay : (x : Phrase) (ls : List ℕ) → Facts x → Facts (phrase_with x ls)
  unfolding stmts_with
  facts_stay (StmtPhrase (Assign d e range)) ls h = (cells_with d ls ∙ h.0, h.1)
  facts_stay (StmtPhrase (CopyCells d e)) ls h = cells_with d ls ∙ h ∙ sym (cells_with e (behind (desig_phrases d) ls))
  facts_stay (StmtPhrase (ForTo (a_loop d range counter limit from to by body))) ls h = (cells_with d ls ∙ h.0, h.1, h.2, h.3)
  facts_stay (StmtPhrase (SomeOf (a_loop d range counter limit from to by body))) ls h = (cells_with d ls ∙ h.0, h.1, h.2, h.3)
  facts_stay (StmtPhrase (Return no_result)) ls h = h
  facts_stay (StmtPhrase (Return (some_result e))) ls h = h
  facts_stay (StmtPhrase (Read d how range)) ls h = (cells_with d ls ∙ h.0, h.1)
  facts_stay (StmtPhrase (WriteText text)) ls h = h
  facts_stay (TestPhrase (Bind d e range true)) ls h = (cells_with d ls ∙ h.0, h.1)
  facts_stay (TestPhrase (Bind d e range false)) ls h = (cells_with d (behind (expr_phrases e) ls) ∙ h.0, h.1)
  facts_stay (TestPhrase (Unify d range e range')) ls h =
      (cells_with d ls ∙ h.0, cells_with e (behind (desig_phrases d) ls) ∙ h.1, h.2, h.3)
  facts_stay (TestPhrase (SameCells d e)) ls h = cells_with d ls ∙ h ∙ sym (cells_with e (behind (desig_phrases d) ls))
  facts_stay (TestPhrase (CallTest called args up)) ls h = (call_stays called up args ls h.0, h.1)
  facts_stay (ExprPhrase (Load d)) ls h = cells_with d ls ∙ h
  facts_stay (ExprPhrase (Known d)) ls h = cells_with d ls ∙ h
  facts_stay (ExprPhrase (Chr e)) ls h = h
  facts_stay (ExprPhrase (CallExpr called args up)) ls h = (call_stays called up args ls h.0, h.1)
  facts_stay (ArgPhrase (ByValue e range)) ls h = h
  facts_stay (ArgPhrase (MixValue e range)) ls h = h
  facts_stay (DesigPhrase (a_desig x cells sels)) ls h = (h.0, parts_with sels cells ls h.1)
  facts_stay (SelPhrase (Index e range cells)) ls h = h
  facts_stay x ls h = tt

  -- ---- the body of a routine

  asked_all : (checked : IsChecked p) → HoldsAllOf p tables → r < length p.routines
      → AllByRecursion Asked (stmts_phrases (routine_at p r).body)
  asked_all checked held lt =
      each (stmts_phrases (routine_at p r).body) (checked.roots r lt) (checked.parts r lt) (checked.cells r lt) (checked.loops r lt)
      (checked.callees r lt) (checked.results r lt) (checked.links r lt) (checked.arguments r lt) (checked.returns r lt)
      (held.phrases r lt)
    where
      each : (xs : List Phrase) → AllByRecursion (RootExists p r (routine_at p r)) xs → AllByRecursion PartsExist xs
          → AllByRecursion CellsAgree xs → AllByRecursion (λ x. AllByRecursion (LoopIsApart p r) (loops_of x)) xs
          → AllByRecursion (CalleeExists p) xs
          → AllByRecursion (ResultAgrees p) xs → AllByRecursion (CallLeads p r (routine_at p r)) xs → AllByRecursion (CallFits p) xs
          → AllByRecursion (ReturnAgrees (routine_at p r)) xs → AllByRecursion (InTables tables) xs → AllByRecursion Asked xs
      each [] a b c d e f g h i j = tt
      each (x ∷ xs) a b c d e f g h i j = (
        record {
          root = a.0;
          parts = b.0;
          cells = c.0;
          loops = d.0;
          callee = e.0;
          result = f.0;
          leads = g.0;
          fits = h.0;
          returns = i.0;
          held = j.0;
        },
        each xs a.1 b.1 c.1 d.1 e.1 f.1 g.1 h.1 i.1 j.1,
      )

  pub body_facts : IsChecked p → HoldsAllOf p tables → r < length p.routines
      → AllByRecursion Facts (stmts_phrases (body_with_lines (routine_at p r)))
  body_facts checked held lt = stmts_stay Facts facts_stay (routine_at p r).body (routine_at p r).lines
      (each_of (stmts_phrases (routine_at p r).body) (asked_all checked held lt))
