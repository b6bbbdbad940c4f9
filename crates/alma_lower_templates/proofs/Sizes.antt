-- The slots and the instructions of each routine of a checked program are at most 16 for each node.
use Rattle.std.proofs.Common.{◌≡◌, ℕ, suc, ◌+◌, ◌*◌, ◌<◌, ◌≤◌, List, [], ◌∷◌, length, get_or, ap, ◌∙◌, arith}
use Rattle.std.specs.List.{AllByRecursion}
use Rattle.std.proofs.lemmas.List.{length-append, length-map}
use Rattle.alma_code.specs.declared.head.Run.{Run}
use Rattle.alma_code.specs.Plain.{PlainCode}
use Rattle.alma_ir.specs.declared.phrase.Root.TheVariants as root
use Rattle.alma_ir.specs.Tree.{Program, Routine, no_routine, routine_at, Value, Bind, Unify, SameCells, Seq, And, Or, Not, CallTest, Const}
use Rattle.alma_ir.specs.Tree.{Load, Chain, Compare, Truth, Known, Chr, CallExpr, a_desig}
use Rattle.alma_ir.specs.Checked.{IsChecked, RootExists, CallLeads}
use Rattle.alma_ir.specs.Count.{stmts_nodes, routine_nodes, routines_nodes, nodes}
use Rattle.alma_ir.specs.Lines.{body_with_lines}
use Rattle.alma_ir.specs.Phrases.{Phrase, StmtPhrase, TestPhrase, ExprPhrase, ArgPhrase, DesigPhrase, SelPhrase, stmts_phrases}
use Rattle.alma_lower_templates.specs.LineInstr.{LineInstr, own}
use Rattle.alma_lower_templates.specs.Slots.{stmts_slots, own_kinds}
use Rattle.alma_lower_templates.specs.Tables.{Tables}
use Rattle.alma_lower_templates.specs.CodeOf.{IsCodeOf}
use Rattle.alma_lower_templates.specs.Compiled.{program_code, routines_code}
use Rattle.alma_lower_templates.specs.Templates.{stmts_code, end_code, routine_code}
use Rattle.alma_lower_templates.proofs.FewInstrs as instrs
use Rattle.alma_lower_templates.proofs.FewSlots as slots
use Rattle.alma_lower_templates.proofs.FewSlots.{Short, AreShort}

module _ (p : Program) (r : ℕ) (routine : Routine) (few : routine.level ≤ 8) where
  short : (x : Phrase) → RootExists p r routine x → CallLeads p r routine x → Short x
  short (StmtPhrase x) h k = tt
  short (TestPhrase (Value e)) h k = tt
  short (TestPhrase (Bind d e range left)) h k = tt
  short (TestPhrase (Unify d range e range2)) h k = tt
  short (TestPhrase (SameCells d e)) h k = tt
  short (TestPhrase (Seq x)) h k = tt
  short (TestPhrase (And ts)) h k = tt
  short (TestPhrase (Or ts)) h k = tt
  short (TestPhrase (Not t)) h k = tt
  short (TestPhrase (CallTest q args up)) h k = omega (arith, k.0, few)
  short (ExprPhrase (Const n)) h k = tt
  short (ExprPhrase (Load d)) h k = tt
  short (ExprPhrase (Chain negated e links)) h k = tt
  short (ExprPhrase (Compare how a b)) h k = tt
  short (ExprPhrase (Truth t)) h k = tt
  short (ExprPhrase (Known d)) h k = tt
  short (ExprPhrase (Chr e)) h k = tt
  short (ExprPhrase (CallExpr q args up)) h k = omega (arith, k.0, few)
  short (ArgPhrase a) h k = tt
  short (DesigPhrase (a_desig (root.Local from) cells sels)) h k = tt
  short (DesigPhrase (a_desig (root.Global from) cells sels)) h k = tt
  short (DesigPhrase (a_desig (root.Param from) cells sels)) h k = tt
  short (DesigPhrase (a_desig (root.Outer links from) cells sels)) h k = omega (arith, h.0.1, few)
  short (DesigPhrase (a_desig (root.OuterParam links from) cells sels)) h k = omega (arith, h.0.1, few)
  short (SelPhrase x) h k = tt

  are_short : (xs : List Phrase) → AllByRecursion (RootExists p r routine) xs → AllByRecursion (CallLeads p r routine) xs → AreShort xs
  are_short [] h k = tt
  are_short (x ∷ rest) h k = (short x h.0 k.0, are_short rest h.1 k.1)

module _ (p : Program) (checked : IsChecked p) (r : ℕ) (lt : r < length p.routines) where
  body_short : AreShort (stmts_phrases (routine_at p r).body)
  body_short = are_short p r (routine_at p r) (checked.nested r lt).few (stmts_phrases (routine_at p r).body) (checked.roots r lt)
      (checked.links r lt)

  pub few_slots : length (stmts_slots p r (body_with_lines (routine_at p r))) ≤ 16 * stmts_nodes (routine_at p r).body
  few_slots = slots.stmts_few p r (routine_at p r).body (routine_at p r).lines body_short

  pub few_instrs : (tables : Tables) (at : ℕ) → length (routine_code p tables r at) ≤ 16 * routine_nodes (routine_at p r)
  few_instrs tables at =
      let lo : ℕ = length (own_kinds (routine_at p r)) in
      let z = instrs.stmts_few p tables r at lo (routine_at p r).body (routine_at p r).lines body_short in
      omega (
        arith,
        z,
        length-append (stmts_code p tables r at lo (body_with_lines (routine_at p r)))
            (own (routine_at p r).line (end_code p tables r (routine_at p r).result ∷ [])),
      )

module _ (p : Program) (checked : IsChecked p) (tables : Tables) where
  routines_few :
      (xs : List Routine) (r at : ℕ) → ((i : ℕ) → routine_at p (r + i) ≡ get_or xs i no_routine) → r + length xs ≤ length p.routines
      → length (routines_code p tables r (length xs) at) ≤ 16 * routines_nodes xs
  routines_few [] r at same fit = omega arith
  routines_few (x ∷ rest) r at same fit =
      let first : List LineInstr = routine_code p tables r at in
      let next : ℕ = at + length first in
      let here : r ≡ r + 0 = omega arith in
      let is : routine_nodes (routine_at p r) ≡ routine_nodes x = ap routine_nodes (ap (routine_at p) here ∙ same 0) in
      let a = few_instrs p checked r (omega (arith, fit)) tables at in
      let b = routines_few rest (suc r) next (λ i.
      (let moved : suc r + i ≡ r + suc i = omega arith in ap (routine_at p) moved ∙ same (suc i))) (omega (arith, fit)) in
      omega (arith, a, b, is, length-append first (routines_code p tables (suc r) (length rest) next))

  -- the instructions of the whole code
  pub few_of_code : (runs : List (List Run)) → length (program_code p tables runs).instrs ≤ 16 * nodes p
  few_of_code runs =
      let code : List LineInstr = routines_code p tables 0 (length p.routines) 0 in
      let z = routines_few p.routines 0 0 (λ i. (let same : 0 + i ≡ i = omega arith in ap (routine_at p) same)) (omega arith) in
      omega (arith, z, length-map code (λ x. x.instr))

pub code_is_short : (p : Program) (code : PlainCode) → IsChecked p → IsCodeOf p code → length code.instrs ≤ 16 * nodes p
code_is_short p code checked is_code =
    let same : length code.instrs ≡ length (program_code p is_code.tables is_code.runs).instrs = ap (λ c. length c.instrs) is_code.is in
    let z = few_of_code p checked is_code.tables is_code.runs in
    omega (arith, same, z)
