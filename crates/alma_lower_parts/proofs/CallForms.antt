-- What arguments and calls add.
use Rattle.std.proofs.Common.{◌≡◌, ℕ, ◌+◌, ◌<◌, Bool, true, false, List, [], ◌∷◌, ◌++◌, length, Some, None, refl, sym, ap, ◌∙◌, subst}
use Rattle.std.proofs.Common.{arith, add-zero}
use Rattle.std.specs.Prelude.{◌&&◌, Option, option_map}
use Rattle.std.proofs.lemmas.Bool.{and_parts}
use Rattle.alma_base.specs.declared.number.Range.{Range}
use Rattle.alma_code.specs.declared.cell.SlotKind.TheVariants as slot
use Rattle.alma_code.specs.declared.instr.Instr.{Instr}
use Rattle.alma_code.specs.declared.instr.Instr.TheVariants as I
use Rattle.alma_choice.proofs.Aiming.{last_behind}
use Rattle.alma_ir.specs.declared.phrase.Root.{Root}
use Rattle.alma_ir.specs.declared.phrase.Root.TheVariants as root
use Rattle.alma_ir.specs.Tree.{Expr, Args, Arg, Desig, CallTest, CallExpr, no_args, more_args, ByValue, ByCells, ByPlace, MixValue}
use Rattle.alma_ir.specs.Tree.{MixPlace, Sels, Sel, a_desig, no_sels, more_sels, Field, Index}
use Rattle.alma_ir.specs.Phrases.{stmts_phrases, args_phrases, arg_phrases, expr_phrases}
use Rattle.alma_ir.specs.Lines.{behind, stmts_with, args_with, expr_with, desig_with}
use Rattle.alma_ir.proofs.LinesBack.{behind_two}
use Rattle.alma_lower_work.specs.Front.{Around, Front, Adds, Codes, Takes, Changes}
use Rattle.alma_lower_work.specs.Puts.{PutsExpr, PutsValue, PutsDesig, PutsPlace, PutsArgs, PutsArg, PutsHanded, PutsTest, value_slot}
use Rattle.alma_lower_work.specs.Puts.{first_slot}
use Rattle.alma_lower_work.proofs.Joins.{nothing, then_adds, adds_as, code_code, adds_code, only_code, slot_adds, own_two}
use Rattle.alma_lower_parts.specs.Numbers.{PutsBy, PutsNumber}
use Rattle.alma_lower_parts.specs.Steps.{PutsSlot}
use Rattle.alma_lower_parts.proofs.StmtForms.{has_code, long_behind, long_before}
use Rattle.alma_lower_parts.proofs.With.{no_bare, alone_with, place_with, same_handed}
use Rattle.alma_lower_templates.specs.LineInstr.{LineInstr, own, in_row}
use Rattle.alma_lower_templates.specs.Slots.{bare, unless_bare, shift_of, handed_slots, call_links, args_slots, expr_slots}
use Rattle.alma_lower_templates.specs.Slots.{ends_alone, is_straight, own_place, own_root}
use Rattle.alma_lower_templates.specs.Tables.{is_whole}
use Rattle.alma_lower_templates.specs.Pieces.{aim, aim_place, fit_code, link_code, place_code, put_code, straight, first_argument}
use Rattle.alma_lower_templates.specs.Templates as T

module _ (s : Around) (line : ℕ) where
  pub no_args_put : (a : Front) (to : ℕ) → PutsArgs s line to a a no_args
  unfolding stmts_with stmts_phrases
  no_args_put a to = record { all = adds_as a a _ _ _ _ _ _ (nothing a) refl refl refl }

  pub args_put : (a b c : Front) (to : ℕ) (x : Arg) (rest : Args) → PutsArg s line to a b x → PutsArgs s line (to + 1) b c rest
      → PutsArgs s line to a c (more_args x rest)
  unfolding stmts_with stmts_phrases
  args_put a b c to x rest h j = record {
    all =
        adds_as a c _ _ _ _ _ _ (then_adds a b c _ _ _ _ _ _ h.all j.all) refl refl
        (sym (behind_two (arg_phrases x) (args_phrases rest) a.lines));
  }

  -- ---- numbers

  pub straight_number : (a b : Front) (to value : ℕ) (e : Expr) (range : Range) → true ≡ is_straight e range
      → Changes a b (λ xs. straight to xs) → PutsNumber s line e range to value a b
  straight_number a b to value e range is h = record { all = subst (λ z. PutsBy z s line range to value a b) is h }

  pub checked_number : (a b c : Front) (to value : ℕ) (e : Expr) (range : Range) → false ≡ is_straight e range
      → Codes a b (own line (fit_code s.tables range value)) → Codes b c (own line (I.Move to value ∷ []))
      → PutsNumber s line e range to value a c
  checked_number a b c to value e range is h j =
      record { all = subst (λ z. PutsBy z s line range to value a c) is (record { b = b; first = h; second = j }) }

  -- the code of a number for a slot
  abbrev number_code : (to at lo : ℕ) → Expr → Range → List LineInstr
  number_code to at lo e range =
      put_code (is_straight e range) line to (value_slot s lo e) (fit_code s.tables range (value_slot s lo e))
      (unless_bare (bare e) (T.expr_code s.program s.tables s.routine line at lo e))

  number_put : (a b d : Front) (to value : ℕ) (e : Expr) (range : Range) → PutsValue s line a b e
      → value ≡ value_slot s a.next (expr_with e a.lines) → PutsNumber s line e range to value b d
      → Adds a d (λ at lo ls. number_code to at lo (expr_with e ls) range)
      (λ ls. unless_bare (bare (expr_with e ls)) (expr_slots s.program s.routine (expr_with e ls))) (behind (expr_phrases e))
  number_put a b d to value e range h is j = by (is_straight e range) refl j.all
    where
      u : Expr
      u = expr_with e a.lines

      inner : List LineInstr
      inner = unless_bare (bare u) (T.expr_code s.program s.tables s.routine line (length a.code) a.next u)

      here : (z : Bool) → is_straight e range ≡ z
          → put_code z line to (value_slot s a.next u) (fit_code s.tables range (value_slot s a.next u)) inner
          ≡ number_code to (length a.code) a.next u range
      here z e1 = ap (λ x. put_code x line to (value_slot s a.next u) (fit_code s.tables range (value_slot s a.next u)) inner)
          (sym (ap (λ x. is_whole range && x) (alone_with e a.lines) ∙ e1))

      by : (z : Bool) → is_straight e range ≡ z → PutsBy z s line range to value b d
          → Adds a d (λ at lo ls. number_code to at lo (expr_with e ls) range)
          (λ ls. unless_bare (bare (expr_with e ls)) (expr_slots s.program s.routine (expr_with e ls))) (behind (expr_phrases e))
      by true e1 k =
          let ends : ends_alone u ≡ true = alone_with e a.lines ∙ (and_parts (is_whole range) (ends_alone e) e1).1 in
          record {
            instrs = k.instrs ∙ ap (straight to) h.all.instrs
                ∙ last_behind (aim to) a.code inner (has_code s line (length a.code) a.next u ends)
                ∙ ap (λ l. a.code ++ l) (here true e1);
            taken = k.taken ∙ h.all.taken;
            next_slot = k.next_slot ∙ h.all.next_slot;
            left = k.left ∙ h.all.left;
            whole = k.whole ∙ h.all.whole;
          }
      by false e1 k =
          adds_as a d _ _ _ _ _ _ (adds_code a b d _ _ _ _ h.all (code_code b k.b d _ _ k.first k.second))
          (ap (λ l. inner ++ l) (sym (own_two line (fit_code s.tables range value) (I.Move to value ∷ [])))
          ∙ ap (λ n. inner ++ own line (fit_code s.tables range n ++ (I.Move to n ∷ []))) is ∙ here false e1) refl refl

  pub value_arg_put : (a b c : Front) (to value : ℕ) (e : Expr) (range : Range) → PutsValue s line a b e
      → value ≡ value_slot s a.next (expr_with e a.lines) → PutsNumber s line e range to value b c
      → PutsArg s line to a c (ByValue e range)
  unfolding stmts_with stmts_phrases
  value_arg_put a b c to value e range h is j = record { all = number_put a b c to value e range h is j }

  pub mix_value_put : (a b c : Front) (to value : ℕ) (e : Expr) (range : Range) → PutsValue s line a b e
      → value ≡ value_slot s a.next (expr_with e a.lines) → PutsNumber s line e range to value b c
      → PutsArg s line to a c (MixValue e range)
  unfolding stmts_with stmts_phrases
  mix_value_put a b c to value e range h is j = record { all = number_put a b c to value e range h is j }

  -- ---- places

  -- that of a parameter is in its own slot, and takes another all the same
  own_by : (a c : Front) (to from : ℕ) (r : Root) (cells : ℕ) (sels : Sels) → own_place (a_desig r cells sels) ≡ Some from
      → PutsSlot a c (slot.Place cells) (own line (I.Same to (T.own_slot s.program s.tables s.routine from) ∷ []))
      → PutsPlace s line to a c (a_desig r cells sels)
  unfolding stmts_with stmts_phrases
  own_by a c to from (root.Param x) cells no_sels is h =
      let same : from ≡ x = cc in
      record {
        all = adds_as a c _ _ _ _ _ _ (slot_adds a h.b c _ _ _ _ h.takes (only_code h.b c _ h.codes))
            (ap (λ n. own line (I.Same to (T.own_slot s.program s.tables s.routine n) ∷ [])) same) refl refl;
      }
  own_by a c to from (root.Param x) cells (more_sels y rest) is h = absurd (cc)
  own_by a c to from (root.Local x) cells sels is h = absurd (cc)
  own_by a c to from (root.Global x) cells sels is h = absurd (cc)
  own_by a c to from (root.Outer links x) cells sels is h = absurd (cc)
  own_by a c to from (root.OuterParam links x) cells sels is h = absurd (cc)

  pub own_place_put : (a c : Front) (to place : ℕ) (r : Root) (cells : ℕ) (sels : Sels)
      → Some place ≡ option_map (T.own_slot s.program s.tables s.routine) (own_place (a_desig r cells sels))
      → PutsSlot a c (slot.Place cells) (own line (I.Same to place ∷ [])) → PutsPlace s line to a c (a_desig r cells sels)
  own_place_put a c to place r cells sels there h = by (own_place (a_desig r cells sels)) refl there
    where
      by : (o : Option ℕ) → own_place (a_desig r cells sels) ≡ o → Some place ≡ option_map (T.own_slot s.program s.tables s.routine) o
          → PutsPlace s line to a c (a_desig r cells sels)
      by (Some from) e there =
          let is : place ≡ T.own_slot s.program s.tables s.routine from = cc in
          own_by a c to from r cells sels e (subst (λ n. PutsSlot a c (slot.Place cells) (own line (I.Same to n ∷ []))) is h)
      by None e there = absurd (cc)

  -- any other place has code
  some_sel : (at from lo : ℕ) (x : Sel) → 0 < length (T.sel_code s.program s.tables s.routine line at from lo x)
  some_sel at from lo (Field offset cells) = omega arith
  some_sel at from lo (Index e range cells) = long_behind (unless_bare (bare e) (T.expr_code s.program s.tables s.routine line at lo e)) _
      (omega arith)

  long_links : (lo links : ℕ) (i : Instr) → 0 < length (own line (link_code lo links ++ (i ∷ [])))
  long_links lo links i = subst (λ l. 0 < length l) (sym (own_two line (link_code lo links) (i ∷ [])))
      (long_behind (own line (link_code lo links)) (own line (i ∷ [])) (omega arith))

  some_root : (lo : ℕ) (r : Root) → 0 < length (own line (T.root_code s.program s.tables s.routine lo r))
  some_root lo (root.Local from) = omega arith
  some_root lo (root.Global from) = omega arith
  some_root lo (root.Param from) = omega arith
  some_root lo (root.Outer links from) = long_links (lo + 1) links _
  some_root lo (root.OuterParam links from) = long_links (lo + 1) links _

  -- the code of a root without selectors
  alone_root : (lo : ℕ) (r : Root) (cells : ℕ) → own_place (a_desig r cells no_sels) ≡ None
      → 0 < length (unless_bare (own_root r no_sels) (own line (T.root_code s.program s.tables s.routine lo r)))
  alone_root lo (root.Local from) cells h = some_root lo (root.Local from)
  alone_root lo (root.Global from) cells h = some_root lo (root.Global from)
  alone_root lo (root.Param from) cells h = absurd (cc)
  alone_root lo (root.Outer links from) cells h = some_root lo (root.Outer links from)
  alone_root lo (root.OuterParam links from) cells h = some_root lo (root.OuterParam links from)

  some_place : (at lo : ℕ) (d : Desig) → own_place d ≡ None → 0 < length (T.desig_code s.program s.tables s.routine line at lo d)
  some_place at lo (a_desig r cells no_sels) h = long_before
      (unless_bare (own_root r no_sels) (own line (T.root_code s.program s.tables s.routine lo r))) _ (alone_root lo r cells h)
  some_place at lo (a_desig r cells (more_sels x rest)) h = long_behind
      (unless_bare (own_root r (more_sels x rest)) (own line (T.root_code s.program s.tables s.routine lo r))) _
      (long_before (T.sel_code s.program s.tables s.routine line _ _ _ x) _ (some_sel _ _ _ x))

  -- and goes straight to the slot of the argument
  pub made_place_put : (a b c : Front) (to : ℕ) (d : Desig)
      → None ≡ option_map (T.own_slot s.program s.tables s.routine) (own_place d) → PutsDesig s line a b d
      → Changes b c (λ xs. place_code to xs) → PutsPlace s line to a c d
  made_place_put a b c to d none h k =
      let u = desig_with d a.lines in
      let e : own_place u ≡ None = place_with d a.lines ∙ no_bare (T.own_slot s.program s.tables s.routine) (own_place d) none in
      let code : List LineInstr = T.desig_code s.program s.tables s.routine line (length a.code) a.next u in
      record {
        all = record {
          instrs = k.instrs ∙ ap (place_code to) h.all.instrs
              ∙ last_behind (aim_place to) a.code code (some_place (length a.code) a.next u e)
              ∙ ap (λ o. a.code ++ T.handed_code s.program s.tables s.routine o line to code) (sym e);
          taken = k.taken ∙ h.all.taken;
          next_slot = k.next_slot ∙ h.all.next_slot;
          left = k.left ∙ h.all.left;
          whole = k.whole ∙ h.all.whole;
        };
      }

  pub cells_arg_put : (a b : Front) (to : ℕ) (x : Desig) → PutsPlace s line to a b x → PutsArg s line to a b (ByCells x)
  unfolding stmts_with stmts_phrases
  cells_arg_put a b to x h = record { all = h.all }

  pub place_arg_put : (a b : Front) (to : ℕ) (x : Desig) → PutsPlace s line to a b x → PutsArg s line to a b (ByPlace x)
  unfolding stmts_with stmts_phrases
  place_arg_put a b to x h = record { all = h.all }

  pub mix_place_put : (a b : Front) (to : ℕ) (x : Desig) → PutsPlace s line to a b x → PutsArg s line to a b (MixPlace x)
  unfolding stmts_with stmts_phrases
  mix_place_put a b to x h = record { all = h.all }

  -- ---- calls

  pub handed_put : (a b c d : Front) (called up to : ℕ) (args : Args)
      → Adds a b (λ at lo ls. own line (T.call_link_code s.program s.tables s.routine called up lo))
      (λ ls. call_links s.program s.routine called up) (λ ls. ls)
      → Adds b c (λ at lo ls. []) (λ ls. handed_slots args) (λ ls. ls) → to ≡ b.next → PutsArgs s line to c d args
      → PutsHanded s line called up a d args
  handed_put a b c d called up to args h t is j =
      let ls = a.lines in
      let u = args_with args ls in
      let links = call_links s.program s.routine called up in
      let first = T.arguments_from s.program s.tables s.routine called up a.next in
      let there : to ≡ first = is ∙ h.next_slot in
      let link = own line (T.call_link_code s.program s.tables s.routine called up a.next) in
      let at = length a.code + length link in
      let code : (to at lo : ℕ) → List LineInstr = λ to at lo. link ++ T.args_code s.program s.tables s.routine line at to lo u in
      record {
        all = adds_as a d _ _ _ _ _ _ (then_adds a b d _ _ _ _ _ _ h (then_adds b c d _ _ _ _ _ _ t j.all))
            (ap (λ n. code to n (a.next + length links + length (handed_slots args))) (add-zero at)
            ∙ ap (λ n. code n at (a.next + length links + length (handed_slots args))) there
            ∙ ap (λ k. code first at (first + length k)) (sym (same_handed args ls)))
            (ap (λ k. links ++ (k ++ args_slots s.program s.routine u)) (sym (same_handed args ls))) refl;
      }

  pub call_test_put : (a b c : Front) (called up first : ℕ) (args : Args) → PutsHanded s line called up a b args
      → first ≡ first_slot s called up a.next args → Codes b c (own line (I.Call called first 0 ∷ []))
      → PutsTest s line a c (CallTest called args up)
  unfolding stmts_with stmts_phrases
  call_test_put a b c called up first args h is j =
      let u = args_with args a.lines in
      let there : first ≡ first_slot s called up a.next u = is
      ∙ ap (λ k. first_argument (shift_of s.program called + length k)
      (T.handed_from s.program s.tables s.routine (shift_of s.program called) up a.next)) (sym (same_handed args a.lines)) in
      let front = T.arguments_from s.program s.tables s.routine called up a.next in
      let code = in_row (length a.code) (own line (T.call_link_code s.program s.tables s.routine called up a.next))
      (λ next. T.args_code s.program s.tables s.routine line next front (front + length (handed_slots u)) u) in
      record {
        all = adds_as a c _ _ _ _ _ _ (adds_code a b c _ _ _ _ h.all j) (ap (λ n. code ++ own line (I.Call called n 0 ∷ [])) there)
            refl refl;
      }

  pub call_value_put : (a b c d e : Front) (called up to mark first : ℕ) (args : Args) → Takes a b slot.Number → to ≡ a.next
      → Takes b c slot.Mark → mark ≡ b.next → PutsHanded s line called up c d args
      → first ≡ first_slot s called up c.next args → Codes d e (own line (I.Mark mark ∷ I.Call called first to ∷ I.Cut mark ∷ []))
      → PutsExpr s line a e (CallExpr called args up)
  unfolding stmts_with stmts_phrases
  call_value_put a b c d e called up to mark first args h is t is2 j is3 k =
      let ls = a.lines in
      let u = args_with args ls in
      let at = length a.code in
      let low : a.next + 1 + 1 ≡ a.next + 2 = omega arith in
      let low2 : c.next ≡ a.next + 2 = omega (arith, t.next_slot, h.next_slot) in
      let mine : mark ≡ a.next + 1 = is2 ∙ h.next_slot in
      let link : ℕ → List LineInstr = λ lo. own line (T.call_link_code s.program s.tables s.routine called up lo) in
      let front : ℕ → ℕ = λ lo. T.arguments_from s.program s.tables s.routine called up lo in
      let code : ℕ → List LineInstr = λ lo. in_row at (link lo)
      (λ next. T.args_code s.program s.tables s.routine line next (front lo) (front lo + length (handed_slots u)) u) in
      let there : first ≡ first_slot s called up (a.next + 2) u = is3 ∙ ap (λ n. first_slot s called up n args) low2
      ∙ ap (λ k. first_argument (shift_of s.program called + length k)
      (T.handed_from s.program s.tables s.routine (shift_of s.program called) up (a.next + 2))) (sym (same_handed args ls)) in
      record {
        all = adds_as a e _ _ _ _ _ _ (slot_adds a b e _ _ _ _ h (slot_adds b c e _ _ _ _ t (adds_code c d e _ _ _ _ j.all k)))
            (ap (λ lo. code lo ++ own line (I.Mark mark ∷ I.Call called first to ∷ I.Cut mark ∷ [])) low
            ∙ ap (λ n. code (a.next + 2) ++ own line (I.Mark n ∷ I.Call called first to ∷ I.Cut n ∷ [])) mine
            ∙ ap (λ n. code (a.next + 2) ++ own line (I.Mark (a.next + 1) ∷ I.Call called n to ∷ I.Cut (a.next + 1) ∷ [])) there
            ∙ ap (λ n. code (a.next + 2) ++ own line
            (I.Mark (a.next + 1) ∷ I.Call called (first_slot s called up (a.next + 2) u) n ∷ I.Cut (a.next + 1) ∷ [])) is)
            refl refl;
      }
