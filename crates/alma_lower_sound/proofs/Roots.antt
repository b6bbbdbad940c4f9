-- What is known of the slots of a code by the templates, and roots, designators and links in it.
use Rattle.std.proofs.Common.{◌≡◌, inl, inr, ℕ, zero, suc, ◌+◌, ◌-◌, ◌<◌, ◌≤◌, true, List, [], ◌∷◌, ◌++◌, length, replicate, Some, refl}
use Rattle.std.proofs.Common.{sym, ap, ◌∙◌, subst, arith}
use Rattle.std.specs.Prelude.{slice_get, map}
use Rattle.std.specs.List.{AllByRecursion}
use Rattle.std.proofs.lemmas.Bool.{lt-ltb, and_from}
use Rattle.std.proofs.lemmas.Option.{slice_get_within}
use Rattle.alma_code.specs.declared.cell.SlotKind.{SlotKind}
use Rattle.alma_code.specs.declared.cell.SlotKind.TheVariants as slot
use Rattle.alma_code.specs.declared.instr.Instr.{Instr}
use Rattle.alma_code.specs.declared.instr.Instr.TheVariants as I
use Rattle.alma_code.specs.Kinds.{is_number, numbers_from}
use Rattle.alma_code.specs.Plain.{PlainCode, head_at, kinds_at}
use Rattle.alma_code.specs.Rules.{cells_in, is_free}
use Rattle.alma_ir.specs.declared.phrase.Root.{Root}
use Rattle.alma_ir.specs.declared.phrase.Root.TheVariants as root
use Rattle.alma_ir.specs.declared.program.ArgKind.{ArgKind}
use Rattle.alma_ir.specs.declared.program.ArgKind.TheVariants as kind
use Rattle.alma_ir.specs.declared.program.Param.{Param}
use Rattle.alma_ir.specs.Tree.{Program, Routine, routine_at, a_desig, no_sels}
use Rattle.alma_ir.specs.Lines.{body_with_lines}
use Rattle.alma_ir.specs.Phrases.{DesigPhrase}
use Rattle.alma_ir.specs.Checked.{IsChecked, AreNumbers, LeavesPosition, HoldPlace, HoldsPlace, IsHiddenSlot, IsOutside, RootExists}
use Rattle.alma_ir.specs.Checked.{param_slots, slots_of_kind, link_slots, outer_at}
use Rattle.alma_ir.proofs.Each.{each_follows, each_of_append}
use Rattle.alma_lower_implements.proofs.Frames.{shift, own_end, HasSlots}
use Rattle.alma_lower_implements.proofs.ExprRows.{AreVariables, first_kind, slots_first, slots_behind}
use Rattle.alma_lower_templates.specs.Tables.{Tables}
use Rattle.alma_lower_templates.specs.Slots.{chain_slots, link_kinds, params_kinds, routine_kinds, root_slots, stmts_slots}
use Rattle.alma_lower_templates.specs.Pieces.{chain_code, link_code}
use Rattle.alma_lower_templates.specs.Templates.{own_slot, outer_slot, root_code}
use Rattle.alma_lower_templates.specs.CodeOf.{HoldsAllOf}
use Rattle.alma_lower_templates.specs.Compiled.{link_params, param_named, is_function}
use Rattle.alma_lower_templates.proofs.RootForms.{IsParam}
use Rattle.alma_lower_sound.proofs.Needs.{HasKind, Needs, Number, Link, Place}

-- what is known of the code of a program
pub record Compiled (p : Program) (tables : Tables) (code : PlainCode) : Type 0 where
  pub count : length code.routines ≡ length p.routines
  pub ranges : code.ranges ≡ tables.ranges
  pub texts : code.texts ≡ tables.texts
  pub held : HoldsAllOf p tables
  pub params : (q : ℕ) → q < length p.routines
      → (head_at code q).params ≡ link_params (routine_at p q).level (routine_at p q).outer ++ map param_named (routine_at p q).params
  pub results : (q : ℕ) → q < length p.routines → (head_at code q).has_result ≡ is_function (routine_at p q).result
  pub kinds : (q : ℕ) → q < length p.routines → kinds_at code q ≡ routine_kinds p q
  pub variables : (q from cells : ℕ) → q < length p.routines → AreNumbers (routine_at p q) from cells → LeavesPosition q from
      → AreVariables p code [] q from cells
  pub places : (q from cells : ℕ) → q < length p.routines → HoldPlace (routine_at p q).params from cells → IsParam p code [] q from cells

-- a slot that is not that of the input position
pub positive : (r n : ℕ) → (r ≡ 0 → 0 < n) → 0 < r + n
positive zero n h = let z = h refl in omega (arith, z)
positive (suc r) n h = omega arith

module _ (p : Program) (tables : Tables) (code : PlainCode) (checked : IsChecked p) (w : Compiled p tables code) where
  -- ---- routines round a routine

  not_main : (s k : ℕ) → s < length p.routines → suc k ≤ (routine_at p s).level → 0 < s
  not_main zero k lt low = let z = (checked.nested 0 lt).body refl in absurd (omega (arith, z.0, low))
  not_main (suc s) k lt low = omega arith

  -- the routine so many links up, and its level
  pub outer_there : (links s : ℕ) → s < length p.routines → links ≤ (routine_at p s).level → (outer_at p s links < length p.routines)
      × ((routine_at p (outer_at p s links)).level + links ≡ (routine_at p s).level)
  outer_there zero s lt le = (lt, omega arith)
  outer_there (suc links) s lt le =
      let nested = checked.nested s lt in
      let above = nested.above (not_main s links lt le) in
      let z = outer_there links (routine_at p s).outer nested.exists (omega (arith, le, above)) in
      (z.0, omega (arith, z.1, above))

  -- a routine that is led out to is not the body of the module
  outer_not_main : (s links : ℕ) → s < length p.routines → links < (routine_at p s).level → outer_at p s links ≡ 0 → ⊥
  outer_not_main s links lt few zero_is =
      let z = outer_there links s lt (omega (arith, few)) in
      let main = (checked.nested 0 checked.body.0).body refl in
      let same : (routine_at p (outer_at p s links)).level ≡ 0 = ap (λ n. (routine_at p n).level) zero_is ∙ main.0 in
      omega (arith, z.1, same, few)

  -- the first slot of a routine of level 2 or more is its link
  link_first : (s : ℕ) → s < length p.routines → 1 < (routine_at p s).level
      → slice_get (kinds_at code s) 0 ≡ Some (slot.Link (routine_at p s).outer)
  link_first s lt deep =
      let own : Routine = routine_at p s in
      ap (λ ks. slice_get ks 0) (w.kinds s lt)
      ∙ begins own.level (params_kinds own.params ++ replicate (own.slots - length (params_kinds own.params)) slot.Number)
      (stmts_slots p s (body_with_lines own)) deep
    where
      begins : (level : ℕ) (rest more : List SlotKind) → 1 < level
          → slice_get ((link_kinds level (routine_at p s).outer ++ rest) ++ more) 0 ≡ Some (slot.Link (routine_at p s).outer)
      begins zero rest more h = absurd (omega (arith, h))
      begins (suc zero) rest more h = absurd (omega (arith, h))
      begins (suc (suc above)) rest more h = refl

  -- ---- cells

  numbers_there : (ks : List SlotKind) (n i : ℕ) → ((k : ℕ) → k < n → slice_get ks (i + k) ≡ Some slot.Number) → numbers_from n ks i ≡ true
  numbers_there ks zero i h = refl
  numbers_there ks (suc n) i h =
      let here : i ≡ i + 0 = omega arith in
      and_from (is_number (slice_get ks i)) (numbers_from n ks (suc i)) (ap is_number (ap (slice_get ks) here ∙ h 0 (omega arith)))
      (numbers_there ks n (suc i) (λ k small.
      (let next : suc i + k ≡ i + suc k = omega arith in ap (slice_get ks) next ∙ h (suc k) (omega (arith, small)))))

  numbers_of : (s from cells : ℕ) → AreVariables p code [] s from cells → numbers_from cells (kinds_at code s) (shift p s + from) ≡ true
  numbers_of s from cells h =
      numbers_there (kinds_at code s) cells (shift p s + from)
      (λ k small. (let same : shift p s + from + k ≡ shift p s + (from + k) = omega arith in ap (slice_get (kinds_at code s)) same
      ∙ h.numbers k small))

  cells_of : (s from cells : ℕ) → AreVariables p code [] s from cells → cells_in code s (shift p s + from) cells ≡ true
  cells_of s from zero h = refl
  cells_of s from (suc n) h =
      and_from (is_free code s (shift p s + from)) (numbers_from (suc n) (kinds_at code s) (shift p s + from))
      (lt-ltb 0 (s + (shift p s + from)) (positive s (shift p s + from) (λ main. let z = h.free main in omega (arith, z))))
      (numbers_of s from (suc n) h)

  -- a variable of the module
  pub global_cells : (from cells : ℕ) → AreNumbers (routine_at p 0) from cells → 0 < from → cells_in code 0 from cells ≡ true
  global_cells from cells h some =
      let main : shift p 0 ≡ 0 = ap link_slots ((checked.nested 0 checked.body.0).body refl).0 in
      let same : shift p 0 + from ≡ from = omega (arith, main) in
      subst (λ n. cells_in code 0 n cells ≡ true) same (cells_of 0 from cells (w.variables 0 from cells checked.body.0 h (λ e. some)))

  module _ (r : ℕ) (lt : r < length p.routines) where
    abbrev pub Slots : (lo : ℕ) → List SlotKind → Type 0
    Slots lo kinds = HasSlots p code r lo kinds

    -- ---- slots

    pub front : (lo : ℕ) (a b : List SlotKind) → Slots lo (a ++ b) → Slots lo a
    front lo a b h = slots_first p code [] r lo a b h

    pub back : (lo : ℕ) (a b : List SlotKind) → Slots lo (a ++ b) → Slots (lo + length a) b
    back lo a b h = slots_behind p code [] r lo a b h

    -- no slot behind those of the routine is the input position
    pub free : (n : ℕ) → own_end p r ≤ n → 0 < r + n
    free n le = positive r n (λ main. let some : 0 < (routine_at p r).slots =
        subst (λ q. 0 < (routine_at p q).slots) (sym main) checked.body.1 in omega (arith, some, le))

    pub first_slot : (lo : ℕ) (k : SlotKind) (rest : List SlotKind) → Slots lo (k ∷ rest) → HasKind code r lo k
    first_slot lo k rest h = record { kind = first_kind p code [] r lo k rest h; free = free lo h.behind }

    -- ---- variables

    pub variable : (from : ℕ) → AreVariables p code [] r from 1 → Number code r (own_slot p tables r from)
    variable from h = record {
      kind = let same : shift p r + from ≡ shift p r + (from + 0) = omega arith in ap (slice_get (kinds_at code r)) same
          ∙ h.numbers 0 (omega arith);
      free = positive r (shift p r + from) (λ main. let z = h.free main in omega (arith, z));
    }

    -- counter and limit of a loop
    pub hidden : (n : ℕ) → IsHiddenSlot p r n → Number code r (own_slot p tables r n)
    hidden n h =
        variable n (w.variables r n 1 lt
        (record {
          exist = omega (arith, h.exists);
          kinds =
              each_follows (λ x. IsOutside x.slot (param_slots x) n) (λ x. HoldsPlace x.kind → IsOutside n 1 x.slot) outside
              (routine_at p r).params h.params;
        }) h.position)
      where
        outside : (x : Param) → IsOutside x.slot (param_slots x) n → HoldsPlace x.kind → IsOutside n 1 x.slot
        outside x away holds = by x.kind away holds
          where
            by : (k : ArgKind) → IsOutside x.slot (slots_of_kind k x.cells) n → HoldsPlace k → IsOutside n 1 x.slot
            by kind.Place (inl early) holds = inr (omega (arith, early))
            by kind.Place (inr late) holds = inl (omega (arith, late))
            by kind.Mix (inl early) holds = inr (omega (arith, early))
            by kind.Mix (inr late) holds = inl (omega (arith, late))
            by kind.Value away holds = absurd holds
            by kind.Cells away holds = absurd holds

    -- ---- links

    -- links on the way to the routine so many links up, and the last of them
    chain_needs : (links s from : ℕ) → s < length p.routines → links < (routine_at p s).level → Slots from (chain_slots p s links)
        → AllByRecursion (Needs code r) (chain_code from links) × Link code r from s × Link code r (from + links) (outer_at p s links)
    chain_needs zero s from there deep h =
        let here : from ≡ from + 0 = omega arith in
        let one = first_slot from (slot.Link s) [] h in
        (tt, one, subst (λ n. Link code r n s) here one)
    chain_needs (suc k) s from there deep h =
        let nested = checked.nested s there in
        let outer : ℕ = (routine_at p s).outer in
        let above = nested.above (not_main s k there (omega (arith, deep))) in
        let one = first_slot from (slot.Link s) (chain_slots p outer k) h in
        let rest = chain_needs k outer (from + 1) nested.exists (omega (arith, deep, above))
        (back from (slot.Link s ∷ []) (chain_slots p outer k) h) in
        let on : from + 1 + k ≡ from + suc k = omega arith in (
          (record { to = outer; routine = s; link = rest.1; before = one; there = link_first s there (omega (arith, deep)) }, rest.0),
          one,
          subst (λ n. Link code r n (outer_at p outer k)) on rest.2,
        )

    pub link_needs : (links lo : ℕ) → links < (routine_at p r).level → Slots lo (chain_slots p r links)
        → AllByRecursion (Needs code r) (link_code lo links) × Link code r (lo + links) (outer_at p r links)
    link_needs links lo deep h = let z = chain_needs links r lo lt deep h in ((z.1, z.0), z.2)

    both_needs : (xs : List Instr) (i : Instr) → AllByRecursion (Needs code r) xs → Needs code r i
        → AllByRecursion (Needs code r) (xs ++ i ∷ [])
    both_needs xs i h k = each_of_append (Needs code r) xs (i ∷ []) h (k, tt)

    -- ---- roots

    -- the slot of a parameter that holds a place
    pub held : (from cells : ℕ) → HoldPlace (routine_at p r).params from cells → Place code r (own_slot p tables r from) cells
    held from cells h = record {
      kind = (w.places r from cells lt h).kind;
      free =
          positive r (shift p r + from) (λ main. absurd (none main));
    }
      where
        none : r ≡ 0 → ⊥
        none main = subst (λ qs. HoldPlace qs from cells) (ap (λ q. (routine_at p q).params) main ∙ checked.body_takes_nothing.0) h

    pub root_needs : (lo cells : ℕ) (x : Root) (rest : List SlotKind)
        → RootExists p r (routine_at p r) (DesigPhrase (a_desig x cells no_sels)) → Slots lo (slot.Place cells ∷ (root_slots p r x ++ rest))
        → AllByRecursion (Needs code r) (root_code p tables r lo x)
    root_needs lo cells (root.Local from) rest h slots =
        let place = first_slot lo (slot.Place cells) rest slots in
        let v = w.variables r from cells lt h.0 h.1 in (
          record {
            cells = cells;
            place = place;
            first = record {
              within = omega (
                arith,
                h.0.exist,
                slots.behind,
                slice_get_within (kinds_at code r) lo (slot.Place cells) place.kind,
              );
              free =
                  positive r (shift p r + from) (λ main. let z = h.1 main in omega (arith, z));
            };
            numbers = cells_of r from cells v;
          },
          tt,
        )
    root_needs lo cells (root.Global from) rest h slots =
        (record { cells = cells; place = first_slot lo (slot.Place cells) rest slots; numbers = global_cells from cells h.1 h.2 }, tt)
    root_needs lo cells (root.Param from) rest h slots =
        (record { cells = cells; first = first_slot lo (slot.Place cells) rest slots; second = held from cells h }, tt)
    root_needs lo cells (root.Outer links from) rest h slots =
        let behind_first = back lo (slot.Place cells ∷ []) (chain_slots p r links ++ rest) slots in
        let z = link_needs links (lo + 1) h.0.1 (front (lo + 1) (chain_slots p r links) rest behind_first) in
        let up = outer_there links r lt (omega (arith, h.0.1)) in
        let v = w.variables (outer_at p r links) from cells up.0 h.1 (λ e. absurd (outer_not_main r links lt h.0.1 e)) in
        both_needs (link_code (lo + 1) links) (I.Outer lo (lo + 1 + links) (outer_slot p tables r links from)) z.0
        (record {
          cells = cells;
          routine = outer_at p r links;
          place =
              first_slot lo (slot.Place cells) (chain_slots p r links ++ rest) slots;
          link = z.1;
          numbers =
              numbers_of (outer_at p r links) from cells v;
        })
    root_needs lo cells (root.OuterParam links from) rest h slots =
        let behind_first = back lo (slot.Place cells ∷ []) (chain_slots p r links ++ rest) slots in
        let z = link_needs links (lo + 1) h.0.1 (front (lo + 1) (chain_slots p r links) rest behind_first) in
        let up = outer_there links r lt (omega (arith, h.0.1)) in
        both_needs (link_code (lo + 1) links) (I.OuterSame lo (lo + 1 + links) (outer_slot p tables r links from)) z.0
        (record {
          cells = cells;
          routine = outer_at p r links;
          place =
              first_slot lo (slot.Place cells) (chain_slots p r links ++ rest) slots;
          link = z.1;
          there =
              (w.places (outer_at p r links) from cells up.0 h.1).kind;
        })
