-- Calls, in the joined program.
use Rattle.std.proofs.Common.{Bool, true, false, ◌≡◌, ℕ, ◌<◌, List, [], ◌∷◌, length, sym, ap, ◌∙◌, arith}
use Rattle.std.specs.Prelude.{None, is_some}
use Rattle.alma_ir.specs.declared.program.Param.{Param}
use Rattle.alma_ir.specs.Tree.{Args, Arg, Value, Bind, Unify, SameCells, Seq, And, Or, Not, CallTest, no_tests, more_tests, Const, Load}
use Rattle.alma_ir.specs.Tree.{Chain, Compare, Truth, Known, Chr, CallExpr, no_args, more_args, ByValue, ByCells, ByPlace, MixValue}
use Rattle.alma_ir.specs.Tree.{MixPlace}
use Rattle.alma_ir.specs.Tree.{Program, Routine, routine_at}
use Rattle.alma_ir.specs.Phrases.{Phrase, StmtPhrase, TestPhrase, ExprPhrase, ArgPhrase, DesigPhrase, SelPhrase, stmts_phrases}
use Rattle.alma_ir.specs.Checked.{EachPhrase, CalleeExists, ResultAgrees, LinksAgree, CallLeads, ArgFits, ArgsFit, CallFits}
use Rattle.alma_ir.proofs.Each.{each_of_both}
use Rattle.alma_copy.specs.Moved.{Moves, moved_stmts, moved_arg, moved_args}
use Rattle.alma_join.specs.Joined.{kept_in, import_fault, joined_program, AreUnits}
use Rattle.alma_join.proofs.Moving.{moved_phrase}
use Rattle.alma_join.proofs.Forms.{desig_stays}
use Rattle.alma_join.proofs.KeptLists.{unit_at}
use Rattle.alma_join.proofs.Places.{number, moves, Stands, checked, head, outer_moves, each_phrase}
use Rattle.alma_join.proofs.Imports.{Alike, Called, called}

-- ---- arguments

arg_moved : (m : Moves) (a b : Param) → (a.kind ≡ b.kind) × (a.cells ≡ b.cells) → (x : Arg) → ArgFits a x → ArgFits b (moved_arg m x)
unfolding moved_stmts
arg_moved m a b same (ByValue e range) h = sym same.0 ∙ h
arg_moved m a b same (ByCells d) h = (sym same.0 ∙ h.0, desig_stays m d ∙ h.1 ∙ same.1)
arg_moved m a b same (ByPlace d) h = (sym same.0 ∙ h.0, desig_stays m d ∙ h.1 ∙ same.1)
arg_moved m a b same (MixValue e range) h = sym same.0 ∙ h
arg_moved m a b same (MixPlace d) h = (sym same.0 ∙ h.0, desig_stays m d ∙ h.1 ∙ same.1)

args_moved : (m : Moves) (xs ys : List Param) → Alike xs ys → (args : Args) → ArgsFit xs args → ArgsFit ys (moved_args m args)
unfolding moved_stmts
args_moved m [] [] same no_args h = tt
args_moved m [] [] same (more_args a rest) h = absurd h
args_moved m [] (y ∷ ys) same args h = absurd same
args_moved m (x ∷ xs) [] same args h = absurd same
args_moved m (x ∷ xs) (y ∷ ys) same no_args h = absurd h
args_moved m (x ∷ xs) (y ∷ ys) same (more_args a rest) h = (arg_moved m x y same.0 a h.0, args_moved m xs ys same.1 rest h.1)

-- ---- calls

-- what is asked of calls, together
abbrev pub Calls : Program → ℕ → Routine → Phrase → Type 0
Calls p r routine x = (CalleeExists p x × ResultAgrees p x) × (CallLeads p r routine x × CallFits p x)

-- and of a call, as an expression where it has a result
abbrev IsCall : Bool → Program → ℕ → Routine → (c up : ℕ) → Args → Type 0
IsCall b p r routine c up args =
    (((0 < c) × (c < length p.routines)) × (is_some (routine_at p c).result ≡ b)) ×
    (LinksAgree p r routine c up × ArgsFit (routine_at p c).params args)

module _ (units : List Program) (are : AreUnits units) (fine : import_fault (kept_in 1 units) 1 units ≡ None) where
  leads_moved : (i r : ℕ) → Stands units i r → (c up : ℕ) → Called units i c
      → LinksAgree (unit_at units i) r (routine_at (unit_at units i) r) c up
      → LinksAgree (joined_program units) (number units i r) (routine_at (joined_program units) (number units i r)) (number units i c) up
  leads_moved i r s c up d h =
      let links = outer_moves units are up i r s in
      (omega (arith, h.0, d.level, (head units are i r s).level), links.0 ∙ ap (number units i) h.1 ∙ sym d.outer)

  call_moved : (b : Bool) (i r : ℕ) → Stands units i r → (c up : ℕ) (args : Args)
      → IsCall b (unit_at units i) r (routine_at (unit_at units i) r) c up args
      → IsCall b (joined_program units) (number units i r) (routine_at (joined_program units) (number units i r)) (number units i c) up
      (moved_args (moves units i r) args)
  call_moved b i r s c up args h =
      let d : Called units i c = called units are fine i c s.exists h.0.0.0 h.0.0.1 in
      let fit = args_moved (moves units i r) (routine_at (unit_at units i) c).params
      (routine_at (joined_program units) (number units i c)).params d.params args h.1.1 in
      (((d.low, d.high), d.result ∙ h.0.1), (leads_moved i r s c up d h.1.0, fit))

  calls_moved : (i r : ℕ) → Stands units i r → (x : Phrase) → Calls (unit_at units i) r (routine_at (unit_at units i) r) x
      → Calls (joined_program units) (number units i r) (routine_at (joined_program units) (number units i r))
      (moved_phrase (moves units i r) x)
  unfolding moved_stmts
  calls_moved i r s (StmtPhrase x) h = ((tt, tt), (tt, tt))
  calls_moved i r s (TestPhrase (Value e)) h = ((tt, tt), (tt, tt))
  calls_moved i r s (TestPhrase (Bind d e range left)) h = ((tt, tt), (tt, tt))
  calls_moved i r s (TestPhrase (Unify d range e range2)) h = ((tt, tt), (tt, tt))
  calls_moved i r s (TestPhrase (SameCells d e)) h = ((tt, tt), (tt, tt))
  calls_moved i r s (TestPhrase (Seq x)) h = ((tt, tt), (tt, tt))
  calls_moved i r s (TestPhrase (And ts)) h = ((tt, tt), (tt, tt))
  calls_moved i r s (TestPhrase (Or no_tests)) h = ((tt, tt), (tt, tt))
  calls_moved i r s (TestPhrase (Or (more_tests t ts))) h = ((tt, tt), (tt, tt))
  calls_moved i r s (TestPhrase (Not t)) h = ((tt, tt), (tt, tt))
  calls_moved i r s (TestPhrase (CallTest c args up)) h = call_moved false i r s c up args h
  calls_moved i r s (ExprPhrase (Const v)) h = ((tt, tt), (tt, tt))
  calls_moved i r s (ExprPhrase (Load d)) h = ((tt, tt), (tt, tt))
  calls_moved i r s (ExprPhrase (Chain negated e links)) h = ((tt, tt), (tt, tt))
  calls_moved i r s (ExprPhrase (Compare how x y)) h = ((tt, tt), (tt, tt))
  calls_moved i r s (ExprPhrase (Truth t)) h = ((tt, tt), (tt, tt))
  calls_moved i r s (ExprPhrase (Known d)) h = ((tt, tt), (tt, tt))
  calls_moved i r s (ExprPhrase (Chr e)) h = ((tt, tt), (tt, tt))
  calls_moved i r s (ExprPhrase (CallExpr c args up)) h = call_moved true i r s c up args h
  calls_moved i r s (ArgPhrase x) h = ((tt, tt), (tt, tt))
  calls_moved i r s (DesigPhrase d) h = ((tt, tt), (tt, tt))
  calls_moved i r s (SelPhrase x) h = ((tt, tt), (tt, tt))

  calls_together : (i : ℕ) → i < length units → EachPhrase (unit_at units i) (Calls (unit_at units i))
  calls_together i lt r few =
      let p : Program = unit_at units i in
      let c = checked units are i lt in
      let xs : List Phrase = stmts_phrases (routine_at p r).body in
      each_of_both (λ x. CalleeExists p x × ResultAgrees p x) (λ x. CallLeads p r (routine_at p r) x × CallFits p x) xs
      (each_of_both (λ x. CalleeExists p x) (λ x. ResultAgrees p x) xs (c.callees r few) (c.results r few))
      (each_of_both (CallLeads p r (routine_at p r)) (λ x. CallFits p x) xs (c.links r few) (c.arguments r few))

  pub calls_checked : EachPhrase (joined_program units) (Calls (joined_program units))
  calls_checked = each_phrase units are (λ i. Calls (unit_at units i)) (Calls (joined_program units)) calls_moved calls_together
