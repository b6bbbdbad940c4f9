-- What a call answered, said of the phrase that it stands for.
use Rattle.std.proofs.Common.{zero, take, ◌-◌, ◌≤◌, length-drop}
use Rattle.std.proofs.Common.{◌≡◌, ℕ, suc, ◌+◌, ◌<◌, List, [], ◌∷◌, length, drop, get_or, refl, sym, ap, ◌∙◌, subst, arith, drop-cons}
use Rattle.std.proofs.Common.{add-one, true, false}
use Rattle.std.specs.Prelude.{◌==◌}
use Rattle.std.proofs.lemmas.Bool.Decides.{nat_tests}
use Rattle.std.specs.Prelude.{Bool, ⊤, Result, Ok, Err, IsOk, OnOk, IfOk}
use Rattle.std.proofs.Math.ListN.{drop_of_length-le}
use Rattle.std.specs.Prelude.{Option, Some, None, option_map}
use Rattle.alma_code.specs.declared.cell.SlotKind.TheVariants as kinds
use Rattle.alma_code.specs.declared.instr.Instr.{Instr}
use Rattle.alma_ir.specs.View.{expr_of}
use Rattle.alma_lower_templates.proofs.First.{stays_is}
use Rattle.alma_choice.specs.Emitted.{aim_jump}
use Rattle.alma_ir.specs.Tree.{Stmts, Stmt, Arms, CaseArms, Else, Branches, Test, Tests, Expr, Links, Args, Arg, Desig, Sels, Sel, no_sels}
use Rattle.alma_ir.specs.Tree.{more_sels}
use Rattle.alma_ir.specs.Lines.{behind, stmts_with, expr_with, desig_with, sels_with, sel_with}
use Rattle.alma_ir.specs.Phrases.{sel_phrases}
use Rattle.alma_lower_work.specs.declared.first_operand.Taken.{Taken}
use Rattle.alma_lower_work.specs.declared.first_operand.Taken.TheVariants as takes
use Rattle.alma_lower_work.specs.declared.stand.Stand.TheVariants as stands
use Rattle.alma_lower_work.specs.Front.{Around, Front, Codes, Takes}
use Rattle.alma_lower_work.specs.Puts.{stays_until, PutsFirstOperand, PutsStmts, PutsStmt, PutsArms, PutsCases, PutsDeadBodies, PutsElse}
use Rattle.alma_lower_work.specs.Puts.{PutsBranches, PutsTest, PutsGuard, PutsAnd, PutsOperands, PutsExpr, PutsValue, PutsLinks, PutsArgs}
use Rattle.alma_lower_work.specs.Puts.{PutsArg, PutsHeld, PutsTarget, PutsSels, PutsSel, value_slot, stand_of}
use Rattle.alma_lower_parts.proofs.ExprForms.{stay_put, made_first_put, own_value_put, own_value_slot, made_value_put, made_value_slot}
use Rattle.alma_lower_parts.proofs.ExprForms.{own_target_put, made_target_put, own_stand_of, made_stand_of}
use Rattle.alma_lower_work.proofs.DesigForms.{parts_on}
use Rattle.alma_lower_parts.proofs.With.{no_bare}
use Rattle.alma_lower_parts.specs.Cases.{PutsAllArms, PutsArmOf}
use Rattle.alma_lower_templates.specs.LineInstr.{own}
use Rattle.alma_lower_templates.specs.Slots.{bare, bare_desig, sel_slots}
use Rattle.alma_lower_templates.specs.Templates as T
use Rattle.alma_base.specs.declared.number.Range.{Range}

pub on_ok : {A E : Type 0} (r : Result A E) {P Q : Type 0} → (P → Q) → OnOk r P → OnOk r Q
on_ok (Ok x) f h = f h
on_ok (Err e) f h = h

pub if_ok : {A E : Type 0} (r : Result A E) {P Q : A → Type 0} → ((x : A) → P x → Q x) → IfOk r P → IfOk r Q
if_ok (Ok x) f h = f x h
if_ok (Err e) f h = h

-- one of two facts holds on success, whatever the value
pub both_ok : {A E : Type 0} (r : Result A E) {P Q R : Type 0} → (P → Q → R) → OnOk r P → OnOk r Q → OnOk r R
both_ok (Ok x) f h j = f h j
both_ok (Err e) f h j = h

-- the same, of clauses that are given first
pub then_ok : {A E : Type 0} (r : Result A E) {P Q : Type 0} → OnOk r P → (P → Q) → OnOk r Q
then_ok (Ok x) h f = f h
then_ok (Err e) h f = h

pub from_both : {A E : Type 0} (r : Result A E) {P Q R : Type 0} → OnOk r P → OnOk r Q → (P → Q → R) → OnOk r R
from_both (Ok x) h j f = f h j
from_both (Err e) h j f = h

abbrev where_true : Type 0 → Bool → Type 0
where_true P true = P
where_true P false = ⊤

-- what a call said that succeeded
pub said : {A E : Type 0} (r : Result A E) {P : Type 0} → IsOk r → OnOk r P → P
said (Ok x) ok h = h
said (Err e) {P = P} ok h = subst (λ (b : Bool). where_true P b) ok h

pub from_said : {A E : Type 0} (r : Result A E) {P Q R : Type 0} → IsOk r → OnOk r P → OnOk r Q → (P → Q → R) → R
from_said r ok h j f = f (said r ok h) (said r ok j)

-- of a call whose result is handed on unopened, and of its value
pub through : {A B E : Type 0} (r : Result A E) (q : Result B E) {P : A → Type 0} {R : A → B → Type 0} {S : B → Type 0} → IfOk r P
    → OnOk q (IsOk r) → IfOk q (λ y. IfOk r (λ x. R x y)) → ((x : A) (y : B) → P x → R x y → S y) → IfOk q S
through (Ok x) (Ok y) h ok j f = f x y h j
through {A = A} (Err e) (Ok y) h ok j f = said {A = A} (Err e) ok h
through (Ok x) (Err d) h ok j f = j
through (Err e) (Err d) h ok j f = j

pub with_value : {A B E : Type 0} (r : Result A E) (q : Result B E) {P R : A → Type 0} {S : Type 0} → IfOk r P → OnOk q (IsOk r)
    → IfOk r (λ x. OnOk q (R x)) → ((x : A) → P x → R x → S) → OnOk q S
with_value (Ok x) (Ok y) h ok j f = f x h j
with_value {A = A} (Err e) (Ok y) h ok j f = said {A = A} (Err e) ok h
with_value (Ok x) (Err d) h ok j f = ok
with_value (Err e) (Err d) h ok j f = ok

pub stmt_as : {A E : Type 0} (r : Result A E) (s : Around) (line : ℕ) (a b : Front) (x y : Stmt) → y ≡ x → OnOk r (PutsStmt s line a b x)
    → OnOk r (PutsStmt s line a b y)
stmt_as r s line a b x y e h = subst (λ z. OnOk r (PutsStmt s line a b z)) (sym e) h

pub test_as : {A E : Type 0} (r : Result A E) (s : Around) (line : ℕ) (a b : Front) (x y : Test) → y ≡ x → OnOk r (PutsTest s line a b x)
    → OnOk r (PutsTest s line a b y)
test_as r s line a b x y e h = subst (λ z. OnOk r (PutsTest s line a b z)) (sym e) h

pub expr_as : {A E : Type 0} (r : Result A E) (s : Around) (line : ℕ) (a b : Front) (x y : Expr) → y ≡ x → OnOk r (PutsExpr s line a b x)
    → OnOk r (PutsExpr s line a b y)
expr_as r s line a b x y e h = subst (λ z. OnOk r (PutsExpr s line a b z)) (sym e) h

pub arg_as : {A E : Type 0} (r : Result A E) (s : Around) (line to : ℕ) (a b : Front) (x y : Arg) → y ≡ x → OnOk r (PutsArg s line to a b x)
    → OnOk r (PutsArg s line to a b y)
arg_as r s line to a b x y e h = subst (λ z. OnOk r (PutsArg s line to a b z)) (sym e) h

pub sel_as : {A E : Type 0} (r : Result A E) (s : Around) (line from : ℕ) (a b : Front) (x y : Sel) → y ≡ x
    → OnOk r (PutsSel s line from a b x) → OnOk r (PutsSel s line from a b y)
sel_as r s line from a b x y e h = subst (λ z. OnOk r (PutsSel s line from a b z)) (sym e) h

pub else_as : {A E : Type 0} (r : Result A E) (s : Around) (line : ℕ) (a b : Front) (x y : Else) → y ≡ x → OnOk r (PutsElse s line a b x)
    → OnOk r (PutsElse s line a b y)
else_as r s line a b x y e h = subst (λ z. OnOk r (PutsElse s line a b z)) (sym e) h

module _ (s : Around) (line : ℕ) where
  pub stmt_is : (a b : Front) (x y : Stmt) → x ≡ y → PutsStmt s line a b x → PutsStmt s line a b y
  stmt_is a b x y e h = subst (λ z. PutsStmt s line a b z) e h

  pub expr_is : (a b : Front) (x y : Expr) → x ≡ y → PutsExpr s line a b x → PutsExpr s line a b y
  expr_is a b x y e h = subst (λ z. PutsExpr s line a b z) e h

  pub guard_is : (a b : Front) (jump given : ℕ) (t : Test) → given ≡ jump → PutsGuard s line a b (λ to xs. aim_jump xs jump to) t
      → PutsGuard s line a b (λ to xs. aim_jump xs given to) t
  guard_is a b jump given t e h = subst (λ x. PutsGuard s line a b (λ to xs. aim_jump xs x to) t) (sym e) h

  pub args_is : (to : ℕ) (a b : Front) (x y : Args) → x ≡ y → PutsArgs s line to a b x → PutsArgs s line to a b y
  args_is to a b x y e h = subst (λ z. PutsArgs s line to a b z) e h

  pub links_is : (first to : ℕ) (a b : Front) (x y : Links) → x ≡ y → PutsLinks s line first to a b x → PutsLinks s line first to a b y
  links_is first to a b x y e h = subst (λ z. PutsLinks s line first to a b z) e h

  pub sels_is : (from : ℕ) (a b : Front) (x y : Sels) → x ≡ y → PutsSels s line from a b x → PutsSels s line from a b y
  sels_is from a b x y e h = subst (λ z. PutsSels s line from a b z) e h

  pub stmts_is : (a b : Front) (x y : Stmts) → x ≡ y → PutsStmts s a b x → PutsStmts s a b y
  stmts_is a b x y e h = subst (λ z. PutsStmts s a b z) e h

  pub arms_is : (exit : ℕ) (a b : Front) (x y : Arms) → x ≡ y → PutsArms s line exit a b x → PutsArms s line exit a b y
  arms_is exit a b x y e h = subst (λ z. PutsArms s line exit a b z) e h

  pub branches_is : (exit : ℕ) (a b : Front) (x y : Branches) → x ≡ y → PutsBranches s line exit a b x → PutsBranches s line exit a b y
  branches_is exit a b x y e h = subst (λ z. PutsBranches s line exit a b z) e h

  pub operands_is : (exit : ℕ) (a b : Front) (x y : Tests) → x ≡ y → PutsOperands s line exit a b x → PutsOperands s line exit a b y
  operands_is exit a b x y e h = subst (λ z. PutsOperands s line exit a b z) e h

  pub tests_is : (a b : Front) (x y : Tests) → x ≡ y → PutsAnd s line a b x → PutsAnd s line a b y
  tests_is a b x y e h = subst (λ z. PutsAnd s line a b z) e h

  pub cases_is : (value bound exit : ℕ) (a b : Front) (x y : CaseArms) → x ≡ y → PutsCases s line value bound exit a b x
      → PutsCases s line value bound exit a b y
  cases_is value bound exit a b x y e h = subst (λ z. PutsCases s line value bound exit a b z) e h

  pub bodies_is : (a b : Front) (x y : CaseArms) → x ≡ y → PutsDeadBodies s a b x → PutsDeadBodies s a b y
  bodies_is a b x y e h = subst (λ z. PutsDeadBodies s a b z) e h

  pub all_is : (value bound : ℕ) (a b : Front) (x y : CaseArms) (rest : Else) → x ≡ y → PutsAllArms s line value bound a b x rest
      → PutsAllArms s line value bound a b y rest
  all_is value bound a b x y rest e h = subst (λ z. PutsAllArms s line value bound a b z rest) e h

  pub arm_is : (value bound : ℕ) (a b : Front) (x y : List Range) (u w : Stmts) → x ≡ y → u ≡ w → PutsArmOf s line value bound a b x u
      → PutsArmOf s line value bound a b y w
  arm_is value bound a b x y u w e d h = subst (λ z. PutsArmOf s line value bound a b y z) d
      (subst (λ z. PutsArmOf s line value bound a b z u) e h)

  -- the slot behind, as it was counted
  pub args_at : (a b : Front) (to slot : ℕ) (x : Args) → slot ≡ to + 1 → PutsArgs s line slot a b x → PutsArgs s line (to + 1) a b x
  args_at a b to slot x e h = subst (λ n. PutsArgs s line n a b x) e h

  -- ---- variables in their own slots

  pub own_target : (a : Front) (d : Desig) (slot : ℕ) → Some slot ≡ option_map (T.own_slot s.program s.tables s.routine) (bare_desig d)
      → PutsTarget s line a a d
  own_target a d slot h = by (bare_desig d) refl h
    where
      by : (o : Option ℕ) → bare_desig d ≡ o → Some slot ≡ option_map (T.own_slot s.program s.tables s.routine) o → PutsTarget s line a a d
      by (Some from) e h = own_target_put s line a d from e
      by None e h = absurd (cc)

  pub own_stands : (lo : ℕ) (ls : List ℕ) (d : Desig) (slot : ℕ)
      → Some slot ≡ option_map (T.own_slot s.program s.tables s.routine) (bare_desig d) → stands.Own slot ≡ stand_of s lo (desig_with d ls)
  own_stands lo ls d slot h = by (bare_desig d) refl h
    where
      by : (o : Option ℕ) → bare_desig d ≡ o → Some slot ≡ option_map (T.own_slot s.program s.tables s.routine) o
          → stands.Own slot ≡ stand_of s lo (desig_with d ls)
      by (Some from) e h = let is : slot ≡ T.own_slot s.program s.tables s.routine from = cc in ap stands.Own is
          ∙ sym (own_stand_of s line lo ls d from e)
      by None e h = absurd (cc)

  pub made_target : (a b : Front) (d : Desig) → None ≡ option_map (T.own_slot s.program s.tables s.routine) (bare_desig d)
      → PutsHeld s line a b d → PutsTarget s line a b d
  made_target a b d h j = made_target_put s line a b d (no_bare (T.own_slot s.program s.tables s.routine) (bare_desig d) h) j

  pub made_stands : (lo : ℕ) (ls : List ℕ) (d : Desig) (place : ℕ)
      → None ≡ option_map (T.own_slot s.program s.tables s.routine) (bare_desig d)
      → place ≡ T.held_at s.program s.tables s.routine lo (desig_with d ls)
      → stands.Placed place ≡ stand_of s lo (desig_with d ls)
  made_stands lo ls d place h is = ap stands.Placed is
      ∙ sym (made_stand_of s line lo ls d (no_bare (T.own_slot s.program s.tables s.routine) (bare_desig d) h))

  pub own_value : (a : Front) (e : Expr) (slot : ℕ) → Some slot ≡ option_map (T.own_slot s.program s.tables s.routine) (bare e)
      → PutsValue s line a a e
  own_value a e slot h = by (bare e) refl h
    where
      by : (o : Option ℕ) → bare e ≡ o → Some slot ≡ option_map (T.own_slot s.program s.tables s.routine) o → PutsValue s line a a e
      by (Some from) d h = own_value_put s line a e from d
      by None d h = absurd (cc)

  pub own_at : (lo : ℕ) (ls : List ℕ) (e : Expr) (slot : ℕ) → Some slot ≡ option_map (T.own_slot s.program s.tables s.routine) (bare e)
      → slot ≡ value_slot s lo (expr_with e ls)
  own_at lo ls e slot h = by (bare e) refl h
    where
      by : (o : Option ℕ) → bare e ≡ o → Some slot ≡ option_map (T.own_slot s.program s.tables s.routine) o
          → slot ≡ value_slot s lo (expr_with e ls)
      by (Some from) d h = let is : slot ≡ T.own_slot s.program s.tables s.routine from = cc in is
          ∙ sym (own_value_slot s line lo ls e from d)
      by None d h = absurd (cc)

  pub made_value : (a b : Front) (e : Expr) → None ≡ option_map (T.own_slot s.program s.tables s.routine) (bare e) → PutsExpr s line a b e
      → PutsValue s line a b e
  made_value a b e h j = made_value_put s line a b e (no_bare (T.own_slot s.program s.tables s.routine) (bare e) h) j

  pub made_at : (lo : ℕ) (ls : List ℕ) (e : Expr) (slot : ℕ) → None ≡ option_map (T.own_slot s.program s.tables s.routine) (bare e)
      → slot ≡ lo → slot ≡ value_slot s lo (expr_with e ls)
  made_at lo ls e slot h is = is ∙ sym (made_value_slot s line lo ls e (no_bare (T.own_slot s.program s.tables s.routine) (bare e) h))

  -- ---- first operands

  -- one that stays, said of the slot of the routine and of that of the code
  pub stays_at : (lo : ℕ) (o : Option ℕ) (slot : ℕ) → Some slot ≡ option_map (T.own_slot s.program s.tables s.routine) o
      → slot ≡ T.slot_or s.program s.tables s.routine o lo
  stays_at lo (Some from) slot h = cc
  stays_at lo None slot h = absurd (cc)

  pub stays_there : (a b : Front) (e : Expr) (taken : Taken) (slot : ℕ)
      → Some slot ≡ option_map (T.own_slot s.program s.tables s.routine) (stays_until e taken) → Takes a b kinds.Number
      → PutsFirstOperand s line a b (stays_until e taken) e
  stays_there a b e taken slot h j = by (stays_until e taken) refl h
    where
      of_bare : (taken : Taken) (from : ℕ) → stays_until e taken ≡ Some from → bare e ≡ Some from
      of_bare takes.AtOnce from is = is
      of_bare (takes.Behind y) from is = (stays_is e (expr_of y.now) from is).first
      of_bare takes.Never from is = absurd (cc)

      by : (o : Option ℕ) → stays_until e taken ≡ o → Some slot ≡ option_map (T.own_slot s.program s.tables s.routine) o
          → PutsFirstOperand s line a b (stays_until e taken) e
      by (Some from) is h = stay_put s line a b e (stays_until e taken) from is (of_bare taken from is) j
      by None is h = absurd (cc)

  pub put_there : (a b : Front) (e : Expr) (o : Option ℕ) → None ≡ option_map (T.own_slot s.program s.tables s.routine) o
      → PutsExpr s line a b e → PutsFirstOperand s line a b o e
  put_there a b e o h j = made_first_put s line a b e o (no_bare (T.own_slot s.program s.tables s.routine) o h) j

  pub put_slot : (lo : ℕ) (o : Option ℕ) (slot : ℕ) → None ≡ option_map (T.own_slot s.program s.tables s.routine) o → slot ≡ lo
      → slot ≡ T.slot_or s.program s.tables s.routine o lo
  put_slot lo o slot h is = is ∙ sym (ap (λ o. T.slot_or s.program s.tables s.routine o lo)
      (no_bare (T.own_slot s.program s.tables s.routine) o h))

  -- the same operand, said of the operators behind it
  pub first_is : (a b : Front) (e : Expr) (o o2 : Option ℕ) → o ≡ o2 → PutsFirstOperand s line a b o e → PutsFirstOperand s line a b o2 e
  first_is a b e o o2 h j = subst (λ z. PutsFirstOperand s line a b z e) h j

  pub first_at : (lo slot : ℕ) (o o2 : Option ℕ) → o ≡ o2 → slot ≡ T.slot_or s.program s.tables s.routine o lo
      → slot ≡ T.slot_or s.program s.tables s.routine o2 lo
  first_at lo slot o o2 h is = is ∙ ap (λ z. T.slot_or s.program s.tables s.routine z lo) h

  -- ---- selectors

  pub no_parts : (from lo : ℕ) (ls : List ℕ) → T.part_at s.program s.tables s.routine from lo (sels_with no_sels ls) ≡ from
  unfolding stmts_with
  no_parts from lo ls = refl

  pub part_step : (a b : Front) (from part : ℕ) (x : Sel) (rest : Sels) → PutsSel s line from a b x
      → part ≡ T.part_slot s.program s.tables s.routine a.next (sel_with x a.lines)
      → T.part_at s.program s.tables s.routine from a.next (sels_with (more_sels x rest) a.lines) ≡ T.part_at s.program s.tables s.routine
      part b.next (sels_with rest b.lines)
  part_step a b from part x rest h is =
      let at : (part lo : ℕ) → List ℕ → ℕ = λ part lo ls. T.part_at s.program s.tables s.routine part lo (sels_with rest ls) in
      parts_on s line from a.next a.lines x rest
      ∙ ap (λ n. at n (a.next + length (sel_slots s.program s.routine (sel_with x a.lines))) (behind (sel_phrases x) a.lines)) (sym is)
      ∙ ap (λ n. at part n (behind (sel_phrases x) a.lines)) (sym h.all.next_slot) ∙ ap (at part b.next) (sym h.all.left)

-- an instruction, said in another way
pub codes_is : (a b : Front) (line : ℕ) (i j : Instr) → i ≡ j → Codes a b (own line (i ∷ [])) → Codes a b (own line (j ∷ []))
codes_is a b line i j e h = subst (λ z. Codes a b (own line (z ∷ []))) e h

pub some_elements : (n : ℕ) → false ≡ (n == 0) → 0 < n
some_elements n h = grind (arith, nat_tests)

pub no_elements : (n : ℕ) → true ≡ (n == 0) → n ≡ 0
no_elements n h = grind (arith, nat_tests)

-- an element and those behind it
pub drop_one : {A : Type 0} (xs : List A) (i : ℕ) (x : A) → i < length xs → x ≡ get_or xs i x → drop i xs ≡ x ∷ drop (i + 1) xs
drop_one xs i x lt is = drop-cons xs i x lt ∙ ap (λ y. y ∷ drop (suc i) xs) (sym is) ∙ ap (λ n. x ∷ drop n xs) (sym (add-one i))

-- the last element
pub drop_last : {A : Type 0} (xs : List A) (i : ℕ) (x : A) → i + 1 ≡ length xs → x ≡ get_or xs i x → drop i xs ≡ x ∷ []
drop_last xs i x end is = drop_one xs i x (omega (arith, end)) is ∙ ap (λ l. x ∷ l) (drop_of_length-le xs (omega (arith, end)))

-- a slice from an index on
pub slice_rest : {A : Type 0} (xs : List A) (n : ℕ) → take (length xs - n) (drop n xs) ≡ drop n xs
slice_rest xs n = all (length xs - n) (drop n xs) (omega (arith, length-drop n xs))
  where
    all : {A : Type 0} (k : ℕ) (ys : List A) → length ys ≤ k → take k ys ≡ ys
    all zero [] le = refl
    all (suc k) [] le = refl
    all zero (y ∷ ys) le = absurd (omega (arith, le))
    all (suc k) (y ∷ ys) le = ap (λ l. y ∷ l) (all k ys (omega (arith, le)))
