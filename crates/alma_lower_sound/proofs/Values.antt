-- Where values and places stand, and what is set, read and handed over: each in a slot of its kind.
use Rattle.std.proofs.Common.{◌≡◌, ℕ, zero, suc, ◌+◌, ◌<◌, Bool, true, false, List, [], ◌∷◌, ◌++◌, length, Option, Some, None, refl, ap}
use Rattle.std.proofs.Common.{◌∙◌, subst, arith}
use Rattle.std.specs.Prelude.{slice_get, map, ◌&&◌, ◌||◌, IsNone, IsSome}
use Rattle.std.specs.List.{AllByRecursion}
use Rattle.std.proofs.lemmas.Bool.{lt-ltb, eq-eqb, and_from}
use Rattle.std.proofs.lemmas.List.{length-append}
use Rattle.std.proofs.lemmas.Option.{slice_get_within}
use Rattle.alma_base.specs.declared.number.Range.{Range}
use Rattle.alma_code.specs.declared.cell.SlotKind.{SlotKind}
use Rattle.alma_code.specs.declared.cell.SlotKind.TheVariants as slot
use Rattle.alma_code.specs.declared.head.CodeParam.{CodeParam}
use Rattle.alma_code.specs.declared.instr.Instr.{Instr}
use Rattle.alma_code.specs.declared.instr.Instr.TheVariants as I
use Rattle.alma_code.specs.Kinds.{is_number, is_place_of, is_link_of}
use Rattle.alma_code.specs.Plain.{PlainCode, head_at, kinds_at}
use Rattle.alma_code.specs.Rules.{is_free, fit_arguments, fits_argument, holds_first, holds_result}
use Rattle.alma_ir.specs.declared.phrase.Cmp.{Cmp}
use Rattle.alma_ir.specs.declared.phrase.Cmp.TheVariants as cmp
use Rattle.alma_ir.specs.declared.phrase.Op.{Op}
use Rattle.alma_ir.specs.declared.phrase.Op.TheVariants as op
use Rattle.alma_ir.specs.declared.phrase.Root.{Root}
use Rattle.alma_ir.specs.declared.phrase.Root.TheVariants as root
use Rattle.alma_ir.specs.declared.phrase.WriteAs.{WriteAs}
use Rattle.alma_ir.specs.declared.phrase.WriteAs.TheVariants as write_as
use Rattle.alma_ir.specs.declared.program.Param.{Param}
use Rattle.alma_ir.specs.Tree.{Program, Expr, Arg, Args, Desig, Sels, Sel, routine_at, Const, Load, Chain, Compare, Truth, Known, Chr}
use Rattle.alma_ir.specs.Tree.{CallExpr, no_args, more_args, ByValue, ByCells, ByPlace, MixValue, MixPlace, a_desig, no_sels, more_sels}
use Rattle.alma_ir.specs.Tree.{Field, Index}
use Rattle.alma_ir.specs.Phrases.{Phrase, DesigPhrase, stmts_phrases, expr_phrases, desig_phrases}
use Rattle.alma_ir.specs.Checked.{IsChecked, ArgFits, ArgsFit, HasOneCellAs, sel_cells, cells_after, desig_cells, outer_at, link_slots}
use Rattle.alma_ir.specs.Checked.{RootExists}
use Rattle.alma_lower_implements.proofs.ExprRows.{AreVariables}
use Rattle.alma_lower_templates.specs.Tables.{Tables, range_number, is_whole}
use Rattle.alma_lower_templates.specs.Pieces.{op_code, cmp_code, neg_code, write_code, fit_code, unless_whole, first_argument}
use Rattle.alma_lower_templates.specs.Slots.{shift_of, chain_slots, links_if, bare, bare_desig, unless_bare, arg_kind, handed_slots}
use Rattle.alma_lower_templates.specs.Slots.{call_links, root_slots, expr_slots, desig_slots, sels_slots, sel_slots, own_place, own_root}
use Rattle.alma_lower_templates.specs.Slots.{fields_from}
use Rattle.alma_lower_templates.specs.Templates.{own_slot, slot_or, value_at, part_slot, part_at, behind_root, place_at, link_if}
use Rattle.alma_lower_templates.specs.Templates.{call_link_code, handed, handed_from, call_code, set_by, set_code, load_by, load_code}
use Rattle.alma_lower_templates.specs.Templates.{held_at}
use Rattle.alma_lower_templates.specs.CodeOf.{HoldsRange, HoldsChecked}
use Rattle.alma_lower_templates.specs.Compiled.{link_params, param_kind, param_named, is_function}
use Rattle.alma_lower_templates.proofs.Fields.{fields_fit}
use Rattle.alma_lower_templates.proofs.Args.{same_cells}
use Rattle.alma_lower_templates.proofs.ExprForms as exprs
use Rattle.alma_lower_sound.proofs.Facts.{Facts, CallFacts}
use Rattle.alma_lower_sound.proofs.Needs.{HasKind, Needs, IsRange, Number, Place, Link}
use Rattle.alma_lower_sound.proofs.Roots.{Compiled, Slots, front, back, free, first_slot, variable, link_needs, held}
use Rattle.alma_lower_templates.proofs.OwnPlace.{own_root_is}

first_is : (all first : ℕ) → 0 < all → first_argument all first ≡ first
first_is zero first h = absurd (omega (arith, h))
first_is (suc n) first h = refl

module _ (p : Program) (tables : Tables) (code : PlainCode) (checked : IsChecked p) (w : Compiled p tables code) (r : ℕ)
    (lt : r < length p.routines) where
  abbrev pub Good : List Phrase → Type 0
  Good xs = AllByRecursion (Facts p tables r) xs

  abbrev SlotsOf : (lo : ℕ) → List SlotKind → Type 0
  SlotsOf lo kinds = Slots p tables code checked w r lt lo kinds

  abbrev AllNeeds : List Instr → Type 0
  AllNeeds xs = AllByRecursion (Needs code r) xs

  -- ---- tables

  pub range_there : (range : Range) → HoldsRange tables range → slice_get code.ranges (range_number tables range) ≡ Some range
  range_there range h = ap (λ rs. slice_get rs (range_number tables range)) w.ranges ∙ h

  pub is_range : (range : Range) → HoldsRange tables range → IsRange code r (range_number tables range)
  is_range range h = slice_get_within code.ranges (range_number tables range) range (range_there range h)

  pub fit_needs : (range : Range) (value : ℕ) → HoldsChecked tables range → Number code r value → AllNeeds (fit_code tables range value)
  fit_needs range value h n = by (is_whole range) h
    where
      by : (whole : Bool) → (whole ≡ false → HoldsRange tables range)
          → AllNeeds (unless_whole whole (I.InRange value (range_number tables range) ∷ []))
      by true h = tt
      by false h = ((n, is_range range (h refl)), tt)

  -- ---- values

  -- a variable that stands for itself is a number slot
  abbrev pub BareIs : Option ℕ → Type 0
  BareIs (Some from) = Number code r (own_slot p tables r from)
  BareIs None = Unit {0}

  bare_root : (d : Desig) → Facts p tables r (DesigPhrase d) → desig_cells d ≡ 1 → BareIs (bare_desig d)
  bare_root (a_desig (root.Local from) cells sels) h e = by (fields_from from sels) refl
    where
      by : (o : Option ℕ) → fields_from from sels ≡ o → BareIs o
      by (Some to) is = variable p tables code checked w r lt to (subst (AreVariables p code [] r to) e
          (fields_fit p code [] r sels from cells to (w.variables r from cells lt h.0.0 h.0.1) h.1 is))
      by None is = tt
  bare_root (a_desig (root.Global from) cells sels) h e = tt
  bare_root (a_desig (root.Param from) cells sels) h e = tt
  bare_root (a_desig (root.Outer links from) cells sels) h e = tt
  bare_root (a_desig (root.OuterParam links from) cells sels) h e = tt

  pub bare_variable : (d : Desig) → Good (desig_phrases d) → desig_cells d ≡ 1 → BareIs (bare_desig d)
  unfolding stmts_phrases
  bare_variable (a_desig x cells sels) h e = bare_root (a_desig x cells sels) h.0 e

  pub bare_value : (e : Expr) → Good (expr_phrases e) → BareIs (bare e)
  unfolding stmts_phrases
  bare_value (Const n) h = tt
  bare_value (Load d) h = bare_variable d h.1 h.0
  bare_value (Chain negated e links) h = tt
  bare_value (Compare how x y) h = tt
  bare_value (Truth t) h = tt
  bare_value (Known d) h = tt
  bare_value (Chr e) h = tt
  bare_value (CallExpr called args up) h = tt

  -- the slot of a whole parameter
  abbrev pub PlaceIs : Option ℕ → (cells : ℕ) → Type 0
  PlaceIs (Some from) cells = Place code r (own_slot p tables r from) cells
  PlaceIs None cells = Unit {0}

  held_root : (d : Desig) → Facts p tables r (DesigPhrase d) → PlaceIs (own_place d) (desig_cells d)
  held_root (a_desig (root.Param from) cells no_sels) h = held p tables code checked w r lt from cells h.0
  held_root (a_desig (root.Param from) cells (more_sels x rest)) h = tt
  held_root (a_desig (root.Local from) cells sels) h = tt
  held_root (a_desig (root.Global from) cells sels) h = tt
  held_root (a_desig (root.Outer links from) cells sels) h = tt
  held_root (a_desig (root.OuterParam links from) cells sels) h = tt

  held_variable : (d : Desig) → Good (desig_phrases d) → PlaceIs (own_place d) (desig_cells d)
  unfolding stmts_phrases
  held_variable (a_desig x cells sels) h = held_root (a_desig x cells sels) h.0

  -- the slot of which the first selector takes a part
  pub root_place : (o : Option ℕ) (lo cells : ℕ) (x : Root) (sels : Sels) → own_root x sels ≡ o
      → RootExists p r (routine_at p r) (DesigPhrase (a_desig x cells no_sels)) → Place code r lo cells
      → Place code r (slot_or p tables r o lo) cells
  root_place (Some from) lo cells x sels e h place =
      held p tables code checked w r lt from cells
      (subst (λ y. RootExists p r (routine_at p r) (DesigPhrase (a_desig y cells no_sels))) (own_root_is x sels from e) h)
  root_place None lo cells x sels e h place = place

  -- the value of an expression
  pub expr_number : (lo : ℕ) (e : Expr) → SlotsOf lo (expr_slots p r e) → Number code r lo
  expr_number lo e h = record { kind = exprs.first_slot p code [] r lo e h; free = free p tables code checked w r lt lo h.behind }

  pub value_number : (lo : ℕ) (e : Expr) → Good (expr_phrases e) → SlotsOf lo (unless_bare (bare e) (expr_slots p r e))
      → Number code r (value_at p tables r lo e)
  value_number lo e good slots = by (bare e) (bare_value e good) slots
    where
      by : (o : Option ℕ) → BareIs o → SlotsOf lo (unless_bare o (expr_slots p r e)) → Number code r (slot_or p tables r o lo)
      by (Some from) b h = b
      by None b h = expr_number lo e h

  -- a first operand, which stays or not
  pub first_number : (o : Option ℕ) (lo : ℕ) → BareIs o → Number code r lo → Number code r (slot_or p tables r o lo)
  first_number (Some from) lo b n = b
  first_number None lo b n = n

  -- the slots of a part that has code only where it has slots
  pub none_slots : (o : Option ℕ) (lo : ℕ) (kinds : List SlotKind) → o ≡ None → SlotsOf lo (unless_bare o kinds) → SlotsOf lo kinds
  none_slots o lo kinds e h = subst (λ x. SlotsOf lo (unless_bare x kinds)) e h

  -- ---- places

  pub part_end : (lo : ℕ) (x : Sel) → lo + length (sel_slots p r x) ≡ part_slot p tables r lo x + 1
  part_end lo (Field offset cells) = refl
  part_end lo (Index e range cells) = omega (arith, length-append (unless_bare (bare e) (expr_slots p r e)) (slot.Place cells ∷ []))

  pub part_place : (lo : ℕ) (x : Sel) → SlotsOf lo (sel_slots p r x) → Place code r (part_slot p tables r lo x) (sel_cells x)
  part_place lo (Field offset cells) h = first_slot p tables code checked w r lt lo (slot.Place cells) [] h
  part_place lo (Index e range cells) h =
      let before : List SlotKind = unless_bare (bare e) (expr_slots p r e) in
      first_slot p tables code checked w r lt (lo + length before) (slot.Place cells) []
      (back p tables code checked w r lt lo before (slot.Place cells ∷ []) h)

  -- the slots of the selectors behind one
  pub behind_part : (lo : ℕ) (x : Sel) (rest : Sels) → SlotsOf lo (sel_slots p r x ++ sels_slots p r rest)
      → SlotsOf (part_slot p tables r lo x + 1) (sels_slots p r rest)
  behind_part lo x rest h = subst (λ n. SlotsOf n (sels_slots p r rest)) (part_end lo x)
      (back p tables code checked w r lt lo (sel_slots p r x) (sels_slots p r rest) h)

  last_place : (sels : Sels) (from lo size : ℕ) → Place code r from size → SlotsOf lo (sels_slots p r sels)
      → Place code r (part_at p tables r from lo sels) (cells_after sels size)
  last_place no_sels from lo size h slots = h
  last_place (more_sels x rest) from lo size h slots =
      last_place rest (part_slot p tables r lo x) (part_slot p tables r lo x + 1) (sel_cells x)
      (part_place lo x (front p tables code checked w r lt lo (sel_slots p r x) (sels_slots p r rest) slots))
      (behind_part lo x rest slots)

  -- the slots of the selectors of a designator
  pub sels_behind : (lo cells : ℕ) (x : Root) (sels : Sels) → SlotsOf lo (desig_slots p r (a_desig x cells sels))
      → SlotsOf (behind_root p tables r lo x) (sels_slots p r sels)
  sels_behind lo cells x sels h =
      back p tables code checked w r lt (lo + 1) (root_slots p r x) (sels_slots p r sels)
      (back p tables code checked w r lt lo (slot.Place cells ∷ []) (root_slots p r x ++ sels_slots p r sels) h)

  pub desig_place : (lo : ℕ) (d : Desig) → SlotsOf lo (desig_slots p r d) → Place code r (place_at p tables r lo d) (desig_cells d)
  desig_place lo (a_desig x cells sels) h =
      last_place sels lo (behind_root p tables r lo x) cells
      (first_slot p tables code checked w r lt lo (slot.Place cells) (root_slots p r x ++ sels_slots p r sels) h)
      (sels_behind lo cells x sels h)

  -- where it stands to be used
  pub held_place : (lo : ℕ) (d : Desig) → Good (desig_phrases d) → SlotsOf lo (desig_slots p r d)
      → Place code r (held_at p tables r lo d) (desig_cells d)
  held_place lo d good slots = by (own_place d) (held_variable d good)
    where
      by : (o : Option ℕ) → PlaceIs o (desig_cells d) → Place code r (slot_or p tables r o (place_at p tables r lo d)) (desig_cells d)
      by (Some from) h = h
      by None h = desig_place lo d slots

  pub one_place : (lo : ℕ) (d : Desig) → Good (desig_phrases d) → desig_cells d ≡ 1 → SlotsOf lo (desig_slots p r d)
      → Place code r (held_at p tables r lo d) 1
  one_place lo d good e slots = subst (Place code r (held_at p tables r lo d)) e (held_place lo d good slots)

  -- ---- variables

  pub set_needs : (lo value : ℕ) (d : Desig) → Good (desig_phrases d) → desig_cells d ≡ 1
      → (bare_desig d ≡ None → SlotsOf lo (desig_slots p r d)) → Number code r value → Needs code r (set_code p tables r lo value d)
  set_needs lo value d good e slots n = by (bare_desig d) refl (bare_variable d good e)
    where
      by : (o : Option ℕ) → bare_desig d ≡ o → BareIs o → Needs code r (set_by p tables r o lo value d)
      by (Some to) is b = (b, n)
      by None is b = (one_place lo d good e (slots is), n)

  pub load_needs : (lo : ℕ) (d : Desig) → Good (desig_phrases d) → desig_cells d ≡ 1
      → SlotsOf lo (slot.Number ∷ unless_bare (bare_desig d) (desig_slots p r d)) → Needs code r (load_code p tables r lo d)
  load_needs lo d good e slots = by (bare_desig d) refl (bare_variable d good e)
    where
      n : Number code r lo
      n = first_slot p tables code checked w r lt lo slot.Number (unless_bare (bare_desig d) (desig_slots p r d)) slots

      by : (o : Option ℕ) → bare_desig d ≡ o → BareIs o → Needs code r (load_by p tables r o lo d)
      by (Some from) is b = (n, b)
      by None is b = (
        n,
        one_place (lo + 1) d good e
            (none_slots (bare_desig d) (lo + 1) (desig_slots p r d) is
            (back p tables code checked w r lt lo (slot.Number ∷ []) (unless_bare (bare_desig d) (desig_slots p r d)) slots)),
      )

  -- ---- operators

  pub op_needs : (how : Op) (to first operand : ℕ) → Number code r to → Number code r first → Number code r operand
      → Needs code r (op_code how to first operand)
  op_needs op.Add to first operand a f b = (a, f, b)
  op_needs op.Sub to first operand a f b = (a, f, b)
  op_needs op.Mul to first operand a f b = (a, f, b)
  op_needs op.Div to first operand a f b = (a, f, b)
  op_needs op.Mod to first operand a f b = (a, f, b)

  pub cmp_needs : (how : Cmp) (to first operand : ℕ) → Number code r to → Number code r first → Number code r operand
      → AllNeeds (cmp_code how to first operand)
  cmp_needs cmp.Equal to first operand a f b = ((a, f, b), tt)
  cmp_needs cmp.Unequal to first operand a f b = ((a, f, b), ((a, a), tt))
  cmp_needs cmp.Less to first operand a f b = ((a, f, b), tt)
  cmp_needs cmp.LessEq to first operand a f b = ((a, f, b), tt)
  cmp_needs cmp.Greater to first operand a f b = ((a, b, f), tt)
  cmp_needs cmp.GreaterEq to first operand a f b = ((a, b, f), tt)

  pub neg_needs : (negated : Bool) (to from : ℕ) → Number code r to → Number code r from → AllNeeds (neg_code negated to from)
  neg_needs true to from a b = ((a, b), tt)
  neg_needs false to from a b = tt

  pub write_needs : (how : WriteAs) (from : ℕ) → Number code r from → Needs code r (write_code how from)
  write_needs write_as.Int from a = a
  write_needs write_as.Bool from a = a
  write_needs write_as.Char from a = a

  -- ---- calls

  -- the link that is handed over, where there is one
  link_if_needs : (sh up lo : ℕ) → (0 < sh → up < (routine_at p r).level) → SlotsOf lo (links_if p r sh up)
      → AllNeeds (link_if p tables r sh up lo) × (0 < sh → Link code r (lo + up) (outer_at p r up))
  link_if_needs zero up lo deep h = (tt, λ bad. absurd (omega (arith, bad)))
  link_if_needs (suc one) up lo deep h = let z = link_needs p tables code checked w r lt up lo (deep (omega arith)) h in (z.0, λ some. z.1)

  deep_enough : (called up level : ℕ) → up + (routine_at p called).level ≡ suc level → 0 < shift_of p called → up < level
  deep_enough called up level e some = let z = by (routine_at p called).level some in omega (arith, e, z)
    where
      by : (l : ℕ) → 0 < link_slots l → 1 < l
      by zero h = absurd (omega (arith, h))
      by (suc zero) h = absurd (omega (arith, h))
      by (suc (suc above)) h = omega arith

  pub call_link_needs : (called up lo : ℕ) (args : Args) → CallFacts p tables r called args up → SlotsOf lo (call_links p r called up)
      → AllNeeds (call_link_code p tables r called up lo)
  call_link_needs called up lo args h slots =
      (link_if_needs (shift_of p called) up lo (deep_enough called up (routine_at p r).level h.leads.0) slots).0

  -- an argument stands in a slot that its parameter takes
  arg_fits : (q : Param) (a : Arg) (i : ℕ) → ArgFits q a → HasOneCellAs q.kind q.cells → HasKind code r i (arg_kind a)
      → fits_argument code r (param_kind q.kind) q.cells i ≡ true
  arg_fits q (ByValue e range) i h one k = ap (λ x. fits_argument code r (param_kind x) q.cells i) h ∙ ap is_number k.kind
  arg_fits q (ByCells d) i h one k = ap (λ x. fits_argument code r (param_kind x) q.cells i) h.0 ∙ ap (is_place_of q.cells) k.kind
      ∙ eq-eqb _ q.cells (same_cells d ∙ h.1)
  arg_fits q (ByPlace d) i h one k = ap (λ x. fits_argument code r (param_kind x) q.cells i) h.0 ∙ ap (is_place_of q.cells) k.kind
      ∙ eq-eqb _ q.cells (same_cells d ∙ h.1)
  arg_fits q (MixValue e range) i h one k = ap (λ x. fits_argument code r (param_kind x) q.cells i) h
      ∙ ap (λ o. is_number o || is_place_of 1 o) k.kind
  arg_fits q (MixPlace d) i h one k =
      let cell : q.cells ≡ 1 = subst (λ x. HasOneCellAs x q.cells) h.0 one in
      ap (λ x. fits_argument code r (param_kind x) q.cells i) h.0 ∙ ap (λ o. is_number o || is_place_of 1 o) k.kind
      ∙ eq-eqb _ 1 (same_cells d ∙ h.1 ∙ cell)

  args_fit : (qs : List Param) (args : Args) (i : ℕ) → ArgsFit qs args → AllByRecursion (λ q. HasOneCellAs q.kind q.cells) qs
      → SlotsOf i (handed_slots args) → fit_arguments code r (map param_named qs) i ≡ true
  args_fit [] no_args i h one slots = refl
  args_fit [] (more_args a rest) i h one slots = absurd h
  args_fit (q ∷ qs) no_args i h one slots = absurd h
  args_fit (q ∷ qs) (more_args a rest) i h one slots =
      let k = first_slot p tables code checked w r lt i (arg_kind a) (handed_slots rest) slots in
      let next : i + 1 ≡ suc i = omega arith in
      and_from (is_free code r i && fits_argument code r (param_kind q.kind) q.cells i) (fit_arguments code r (map param_named qs) (suc i))
      (and_from (is_free code r i) (fits_argument code r (param_kind q.kind) q.cells i) (lt-ltb 0 (r + i) k.free)
      (arg_fits q a i h.0 one.0 k))
      (args_fit qs rest (suc i) h.1 one.1 (subst (λ n. SlotsOf n (handed_slots rest)) next
      (back p tables code checked w r lt i (arg_kind a ∷ []) (handed_slots rest) slots)))

  chain_long : (links s : ℕ) → length (chain_slots p s links) ≡ links + 1
  chain_long zero s = refl
  chain_long (suc links) s = let z = chain_long links (routine_at p s).outer in omega (arith, z)

  -- what the callee takes, with its link, stands where the call says
  record Takes (params : List CodeParam) (first : ℕ) : Type 0 where
    fits : fit_arguments code r params first ≡ true
    begins : holds_first params first ≡ true

  takes_own : (qs : List Param) (args : Args) (lo : ℕ) → ArgsFit qs args → AllByRecursion (λ q. HasOneCellAs q.kind q.cells) qs
      → SlotsOf lo (handed_slots args) → Takes (map param_named qs) (first_argument (0 + length (handed_slots args)) lo)
  takes_own [] no_args lo h one slots = record { fits = refl; begins = refl }
  takes_own [] (more_args a rest) lo h one slots = absurd h
  takes_own (q ∷ qs) no_args lo h one slots = absurd h
  takes_own (q ∷ qs) (more_args a rest) lo h one slots =
      let here : first_argument (0 + length (handed_slots (more_args a rest))) lo ≡ lo =
      first_is (0 + length (handed_slots (more_args a rest))) lo (omega arith) in
      record {
        fits = ap (fit_arguments code r (map param_named (q ∷ qs))) here ∙ args_fit (q ∷ qs) (more_args a rest) lo h one slots;
        begins = refl;
      }

  takes_all : (level outer up lo : ℕ) (qs : List Param) (args : Args) → ArgsFit qs args
      → AllByRecursion (λ q. HasOneCellAs q.kind q.cells) qs → (0 < link_slots level → Link code r (lo + up) outer)
      → SlotsOf (lo + length (links_if p r (link_slots level) up)) (handed_slots args)
      → Takes (link_params level outer ++ map param_named qs)
      (first_argument (link_slots level + length (handed_slots args)) (handed_from p tables r (link_slots level) up lo))
  takes_all zero outer up lo qs args h one link slots = let here : lo + 0 ≡ lo = omega arith in
      takes_own qs args lo h one (subst (λ n. SlotsOf n (handed_slots args)) here slots)
  takes_all (suc zero) outer up lo qs args h one link slots = let here : lo + 0 ≡ lo = omega arith in
      takes_own qs args lo h one (subst (λ n. SlotsOf n (handed_slots args)) here slots)
  takes_all (suc (suc above)) outer up lo qs args h one link slots =
      let k = link (omega arith) in
      let begin : first_argument (1 + length (handed_slots args)) (lo + up) ≡ lo + up =
      first_is (1 + length (handed_slots args)) (lo + up) (omega arith) in
      let next : lo + length (chain_slots p r up) ≡ suc (lo + up) = omega (arith, chain_long up r) in
      record {
        fits = ap (fit_arguments code r (link_params (suc (suc above)) outer ++ map param_named qs)) begin
            ∙ and_from (is_free code r (lo + up) && is_link_of outer (slice_get (kinds_at code r) (lo + up)))
            (fit_arguments code r (map param_named qs) (suc (lo + up)))
            (and_from (is_free code r (lo + up)) (is_link_of outer (slice_get (kinds_at code r) (lo + up)))
            (lt-ltb 0 (r + (lo + up)) k.free) (ap (is_link_of outer) k.kind ∙ eq-eqb outer outer refl))
            (args_fit qs args (suc (lo + up)) h one (subst (λ n. SlotsOf n (handed_slots args)) next slots));
        begins = refl;
      }

  call_needs : (called up lo to : ℕ) (args : Args) (rest : List SlotKind) → CallFacts p tables r called args up
      → SlotsOf lo (call_links p r called up ++ (handed_slots args ++ rest))
      → holds_result code r (head_at code called).has_result to ≡ true
      → Needs code r (call_code p tables r called args up lo to)
  call_needs called up lo to args rest h slots result =
      let links = call_links p r called up in
      let link = (link_if_needs (shift_of p called) up lo (deep_enough called up (routine_at p r).level h.leads.0)
      (front p tables code checked w r lt lo links (handed_slots args ++ rest) slots)).1 in
      let in_place = front p tables code checked w r lt (lo + length links) (handed_slots args) rest
      (back p tables code checked w r lt lo links (handed_slots args ++ rest) slots) in
      let z = takes_all (routine_at p called).level (routine_at p called).outer up lo (routine_at p called).params args h.fits
      (checked.params called h.exists).cells (λ some. subst (Link code r (lo + up)) h.leads.1 (link some)) in_place in
      let same = w.params called h.exists in
      let first : ℕ = first_argument (handed p tables r called args) (handed_from p tables r (shift_of p called) up lo) in
      record {
        not_main = h.not_main;
        exists = omega (arith, h.exists, w.count);
        fits = ap (λ ps. fit_arguments code r ps first) same ∙ z.fits;
        begins = ap (λ ps. holds_first ps first) same ∙ z.begins;
        result = result;
      }

  pub test_call_needs : (called up lo : ℕ) (args : Args) (rest : List SlotKind) → CallFacts p tables r called args up
      → IsNone (routine_at p called).result → SlotsOf lo (call_links p r called up ++ (handed_slots args ++ rest))
      → Needs code r (call_code p tables r called args up lo 0)
  test_call_needs called up lo args rest h none slots =
      call_needs called up lo 0 args rest h slots
      (ap (λ b. holds_result code r b 0) (w.results called h.exists) ∙ by (routine_at p called).result none)
    where
      by : (o : Option Range) → IsNone o → holds_result code r (is_function o) 0 ≡ true
      by None h = refl
      by (Some range) h = absurd (cc)

  pub expr_call_needs : (called up lo to : ℕ) (args : Args) (rest : List SlotKind) → CallFacts p tables r called args up
      → IsSome (routine_at p called).result → Number code r to → SlotsOf lo (call_links p r called up ++ (handed_slots args ++ rest))
      → Needs code r (call_code p tables r called args up lo to)
  expr_call_needs called up lo to args rest h some n slots =
      call_needs called up lo to args rest h slots
      (ap (λ b. holds_result code r b to) (w.results called h.exists) ∙ by (routine_at p called).result some)
    where
      by : (o : Option Range) → IsSome o → holds_result code r (is_function o) to ≡ true
      by None h = absurd (cc)
      by (Some range) h = and_from (is_free code r to) (is_number (slice_get (kinds_at code r) to)) (lt-ltb 0 (r + to) n.free)
          (ap is_number n.kind)
