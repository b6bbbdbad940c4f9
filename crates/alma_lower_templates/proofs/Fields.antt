-- A variable of the routine and a field of one are read and written in their own slot: what the meaning does to find it is visits alone.
use Rattle.std.proofs.Common.{◌≡◌, ℕ, zero, suc, ◌+◌, ◌≤◌, List, Some, refl, sym, ap, ◌∙◌, subst, arith, ℤ}
use Rattle.std.specs.Prelude.{slice_get}
use Rattle.alma_code.specs.declared.cell.SlotKind.TheVariants as slot
use Rattle.alma_code.specs.Picture.{PlainFrame, PlainEntry}
use Rattle.alma_code.specs.Plain.{PlainCode, kinds_at}
use Rattle.alma_code.specs.Machine.{State}
use Rattle.alma_ir.specs.declared.phrase.Root.TheVariants as root
use Rattle.alma_ir.specs.Tree.{Program, Expr, Desig, Sels, Const, Load, Chain, Compare, Truth, Known, Chr, CallExpr, a_desig, no_sels}
use Rattle.alma_ir.specs.Tree.{more_sels, Field, Index}
use Rattle.alma_ir.specs.Checked.{cells_after, ArePartsOf}
use Rattle.alma_mean.specs.Store.{Store, Place, top, cell_of}
use Rattle.alma_mean.specs.Events.{Events, Flow, Visit, Fail, one, join, bind, visit_each}
use Rattle.alma_mean.specs.Rows.{read_cell}
use Rattle.alma_mean.specs.Meaning.{Level, ev_expr, ev_desig, ev_sels}
use Rattle.alma_lower_implements.proofs.Goes.{Goes, weaker}
use Rattle.alma_lower_implements.proofs.Frames.{shift}
use Rattle.alma_lower_implements.proofs.ExprRows.{AreVariables}
use Rattle.alma_lower_implements.proofs.Ways.{Ways, Leaves}
use Rattle.alma_lower_templates.specs.Slots.{bare, bare_desig, fields_from}
use Rattle.alma_lower_templates.proofs.Parts.{From, NodeRuns}

-- ---- visits

-- events behind so many visits
abbrev pub visits : {A : Type 0} → ℕ → Events A → Events A
visits zero e = e
visits (suc n) e = Visit (visits n e)

visits_in : {A : Type 0} (n : ℕ) (e : Events A) → Visit (visits n e) ≡ visits n (Visit e)
visits_in zero e = refl
visits_in (suc n) e = ap Visit (visits_in n e)

visits_each : {A : Type 0} (n : ℕ) (e : Events A) → visit_each (visits n e) ≡ visits n (visit_each e)
visits_each zero e = refl
visits_each (suc n) e = ap Visit (visits_each n e)

visits_bind : {A B : Type 0} (n : ℕ) (e : Events A) (k : Store → A → Events B) → bind (visits n e) k ≡ visits n (bind e k)
visits_bind zero e k = refl
visits_bind (suc n) e k = ap Visit (visits_bind n e k)

visits_join : {A : Type 0} (n : ℕ) (v : Store) (a : A) → join (visits n (one v a)) Fail ≡ visits n (one v a)
visits_join zero v a = refl
visits_join (suc n) v a = ap Visit (visits_join n v a)

-- a node over what stands behind visits
visits_node : {A B : Type 0} (n : ℕ) (e : Events A) (k : Store → A → Events B)
    → Visit (visit_each (bind (visits n e) k)) ≡ visits n (Visit (visit_each (bind e k)))
visits_node n e k =
    ap (λ x. Visit (visit_each x)) (visits_bind n e k) ∙ ap Visit (visits_each n (bind e k)) ∙ visits_in n (visit_each (bind e k))

-- ---- what is found

-- so many cells of a frame from a slot on
abbrev place_at : (frame slot size : ℕ) → Place
place_at f n size = record { frame = f; slot = n; size = size }

-- the events of a phrase are those of another, behind visits; `same` is the other, for a variable of so many cells
pub record Behind {A : Type 0} (e : Events A) (same : ℕ → Events A) : Type 0 where
  pub more : ℕ
  pub size : ℕ
  pub is : e ≡ visits more (same size)

module _ (p : Program) (input : List ℕ) (below : Level) (v : Store) where
  -- fields lead to the place of their slot
  sels_lead : (sels : Sels) (f n cells from : ℕ) → fields_from n sels ≡ Some from
      → Behind (ev_sels p input below sels (place_at f n cells) v)
      (λ size. one v (place_at f from size))
  unfolding ev_expr
  sels_lead no_sels f n cells from e =
      let same : n ≡ from = cc in
      record { more = 0; size = cells; is = ap (λ m. one v (place_at f m cells)) same }
  sels_lead (more_sels (Field offset part) rest) f n cells from e =
      let z = sels_lead rest f (n + offset) part from e in
      record {
        more = suc (suc z.more);
        size = z.size;
        is = ap (λ x. Visit (Visit (join x Fail))) z.is
            ∙ ap (λ x. Visit (Visit x)) (visits_join z.more v (place_at f from z.size));
      }
  sels_lead (more_sels (Index x range part) rest) f n cells from e = absurd (cc)

  desig_leads : (d : Desig) (from : ℕ) → bare_desig d ≡ Some from
      → Behind (ev_desig p input below d v) (λ size. ev_desig p input below (a_desig (root.Local from) size no_sels) v)
  unfolding ev_expr
  desig_leads (a_desig (root.Local n) cells sels) from e =
      let z = sels_lead sels (top v) n cells from e in
      let a : Place = place_at (top v) from z.size in
      record {
        more = z.more;
        size = z.size;
        is = ap (λ x. Visit (visit_each (join x Fail))) z.is ∙ ap (λ x. Visit (visit_each x)) (visits_join z.more v a)
            ∙ ap Visit (visits_each z.more (one v a)) ∙ visits_in z.more (Visit (one v a));
      }
  desig_leads (a_desig (root.Global n) cells sels) from e = absurd (cc)
  desig_leads (a_desig (root.Param n) cells sels) from e = absurd (cc)
  desig_leads (a_desig (root.Outer links n) cells sels) from e = absurd (cc)
  desig_leads (a_desig (root.OuterParam links n) cells sels) from e = absurd (cc)

  value_leads : (x : Expr) (from : ℕ) → bare x ≡ Some from
      → Behind (ev_expr p input below x v) (λ size. ev_expr p input below (Load (a_desig (root.Local from) size no_sels)) v)
  unfolding ev_expr
  value_leads (Load d) from e =
      let z = desig_leads d from e in
      let k : Store → Place → Events ℤ = λ t a. read_cell (cell_of t a) (λ n. one t n) in
      record {
        more = z.more;
        size = z.size;
        is = ap (λ x. Visit (visit_each (bind x k))) z.is
            ∙ visits_node z.more (ev_desig p input below (a_desig (root.Local from) z.size no_sels) v) k;
      }
  value_leads (Const n) from e = absurd (cc)
  value_leads (Chain negated x links) from e = absurd (cc)
  value_leads (Compare how x y) from e = absurd (cc)
  value_leads (Truth t) from e = absurd (cc)
  value_leads (Known d) from e = absurd (cc)
  value_leads (Chr x) from e = absurd (cc)
  value_leads (CallExpr q args up) from e = absurd (cc)

-- ---- how it goes

module _ (p : Program) (code : PlainCode) (input : List ℕ) (line : ℕ) where
  visits_go : {A : Type 0} (left more n : ℕ) (fits : Store → Flow A → State → Type 0) (held : List PlainEntry) (e : Events A) (s : State)
      (c q : ℕ) → Goes code input line left more fits held e s c q → Goes code input line left more fits held (visits n e) s c q
  visits_go left more zero fits held e s c q h = h
  visits_go left more (suc n) fits held e s c q h =
      weaker code input line left more fits held (visits n e) s (c + 32) c q q (omega arith) (omega arith)
      (visits_go left more n fits held e s c q h)

  module _ {B : Type 0} (at exit : ℕ) (now : List PlainFrame) (w : Ways B) (below : Level) (v : Store) (from q : ℕ) where
    behind_from : {A : Type 0} (e : Events A) (same : ℕ → Events A) (k : Store → A → Events B) → Behind e same
        → ((size : ℕ) → From p code input line 0 at exit now w (bind (same size) k) q)
        → From p code input line 0 at exit now w (bind e k) q
    behind_from e same k z h held s is =
        subst (λ x. Goes code input line 0 24 (Leaves exit w) held (bind x k) s 0 q) (sym z.is)
        (subst (λ x. Goes code input line 0 24 (Leaves exit w) held x s 0 q) (sym (visits_bind z.more (same z.size) k))
        (visits_go 0 24 z.more (Leaves exit w) held (bind (same z.size) k) s 0 q (h z.size held s is)))

    -- a designator that has a slot goes as the variable in that slot
    pub desig_from : (d : Desig) (k : Store → Place → Events B) → bare_desig d ≡ Some from
        → ((size : ℕ)
        → From p code input line 0 at exit now w (bind (ev_desig p input below (a_desig (root.Local from) size no_sels) v) k) q)
        → From p code input line 0 at exit now w (bind (ev_desig p input below d v) k) q
    desig_from d k e h =
        behind_from (ev_desig p input below d v) (λ size. ev_desig p input below (a_desig (root.Local from) size no_sels) v) k
        (desig_leads p input below v d from e) h

    -- and its value as that of the variable
    pub load_from : (x : Expr) (k : Store → ℤ → Events B) → bare x ≡ Some from
        → ((size : ℕ)
        → From p code input line 0 at exit now w (bind (ev_expr p input below (Load (a_desig (root.Local from) size no_sels)) v) k) q)
        → From p code input line 0 at exit now w (bind (ev_expr p input below x v) k) q
    load_from x k e h =
        behind_from (ev_expr p input below x v) (λ size. ev_expr p input below (Load (a_desig (root.Local from) size no_sels)) v) k
        (value_leads p input below v x from e) h

  -- the value alone
  pub load_runs : (at exit : ℕ) (now : List PlainFrame) (w : Ways ℤ) (below : Level) (v : Store) (from q : ℕ) (x : Expr)
      → bare x ≡ Some from
      → ((size : ℕ) → NodeRuns p code input line at exit now w
      (ev_expr p input below (Load (a_desig (root.Local from) size no_sels)) v) q)
      → NodeRuns p code input line at exit now w (ev_expr p input below x v) q
  load_runs at exit now w below v from q x e h j few held s u silently is =
      let z = value_leads p input below v x from e in
      subst (λ y. Goes code input line 8 0 (Leaves exit w) held y s 0 q) (sym z.is)
      (visits_go 8 0 z.more (Leaves exit w) held (ev_expr p input below (Load (a_desig (root.Local from) z.size no_sels)) v) s 0 q
      (h z.size j few held s u silently is))

-- ---- what is there

module _ (p : Program) (code : PlainCode) (input : List ℕ) (r : ℕ) where
  -- a part of variables of the routine is of variables
  part_fits : (n offset part cells : ℕ) → AreVariables p code input r n cells → offset + part ≤ cells
      → AreVariables p code input r (n + offset) part
  part_fits n offset part cells h le = record {
    exist = omega (arith, h.exist, le);
    numbers = λ k lt.
        let there : n + (offset + k) ≡ n + offset + k = omega arith in
        subst (λ m. slice_get (kinds_at code r) (shift p r + m) ≡ Some slot.Number) there (h.numbers (offset + k) (omega (arith, lt, le)));
    free = λ e. omega (arith, h.free e);
  }

  -- the cells that fields lead to
  pub fields_fit : (sels : Sels) (n cells from : ℕ) → AreVariables p code input r n cells → ArePartsOf sels cells
      → fields_from n sels ≡ Some from → AreVariables p code input r from (cells_after sels cells)
  fields_fit no_sels n cells from h parts e = let same : n ≡ from = cc in subst (λ m. AreVariables p code input r m cells) same h
  fields_fit (more_sels (Field offset part) rest) n cells from h parts e =
      fields_fit rest (n + offset) part from (part_fits n offset part cells h parts.0) parts.1 e
  fields_fit (more_sels (Index x range part) rest) n cells from h parts e = absurd (cc)
