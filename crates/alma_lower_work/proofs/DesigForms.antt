-- What roots, selectors and designators add.
use Rattle.std.specs.Prelude.{Result, OnOk}
use Rattle.std.proofs.Common.{◌≡◌, ℕ, zero, suc, ◌+◌, List, [], ◌∷◌, ◌++◌, length, refl, sym, ap, ◌∙◌, arith, length-append}
use Rattle.alma_base.specs.declared.number.Range.{Range}
use Rattle.alma_code.specs.declared.cell.SlotKind.TheVariants as slot
use Rattle.alma_code.specs.declared.instr.Instr.{Instr}
use Rattle.alma_code.specs.declared.instr.Instr.TheVariants as I
use Rattle.alma_ir.specs.declared.phrase.Root.{Root}
use Rattle.alma_ir.specs.Tree.{Program, Expr, Sels, Sel, routine_at, no_sels, more_sels, Field, Index}
use Rattle.alma_ir.specs.Checked.{outer_at}
use Rattle.alma_ir.specs.Phrases.{stmts_phrases, sels_phrases, sel_phrases}
use Rattle.alma_ir.specs.Lines.{behind, stmts_with, expr_with, sels_with, sel_with}
use Rattle.alma_ir.proofs.LinesBack.{behind_two}
use Rattle.alma_lower_work.specs.Front.{Around, Front, Adds, Codes, Takes}
use Rattle.alma_lower_work.specs.Puts.{PutsValue, PutsSels, PutsSel, value_slot}
use Rattle.alma_lower_work.proofs.Joins.{on_ok_map, nothing, then_adds, adds_as, adds_code, only_code, slot_adds, adds_slot, own_two}
use Rattle.alma_lower_templates.specs.LineInstr.{own}
use Rattle.alma_lower_templates.specs.Tables.{range_number}
use Rattle.alma_lower_templates.specs.Slots.{bare, unless_bare, chain_slots, root_slots, expr_slots, sel_slots}
use Rattle.alma_lower_templates.specs.Pieces.{chain_code, link_code}
use Rattle.alma_lower_templates.specs.Templates as T

-- ---- links

-- one link more at the end
chain_more : (from k : ℕ) → chain_code from (suc k) ≡ chain_code from k ++ (I.Chain (from + k + 1) (from + k) 0 ∷ [])
chain_more from zero = let e : from ≡ from + 0 = omega arith in ap (λ n. I.Chain (n + 1) n 0 ∷ []) e
chain_more from (suc k) =
    let e : from + 1 + k ≡ from + suc k = omega arith in
    ap (λ l. I.Chain (from + 1) from 0 ∷ l) (chain_more (from + 1) k ∙ ap (λ n. chain_code (from + 1) k ++ (I.Chain (n + 1) n 0 ∷ [])) e)

pub link_more : (lo k : ℕ) → link_code lo (suc k) ≡ link_code lo k ++ (I.Chain (lo + k + 1) (lo + k) 0 ∷ [])
link_more lo k = ap (λ l. I.Own lo ∷ l) (chain_more lo k)

pub outer_more : (p : Program) (r k : ℕ) → outer_at p r (suc k) ≡ (routine_at p (outer_at p r k)).outer
outer_more p r zero = refl
outer_more p r (suc k) = outer_more p (routine_at p r).outer k

pub slots_more : (p : Program) (r k : ℕ) → chain_slots p r (suc k) ≡ chain_slots p r k ++ (slot.Link (outer_at p r (suc k)) ∷ [])
slots_more p r zero = refl
slots_more p r (suc k) = ap (λ l. slot.Link r ∷ l) (slots_more p (routine_at p r).outer k)

pub slots_long : (p : Program) (r k : ℕ) → length (chain_slots p r k) ≡ k + 1
slots_long p r zero = refl
slots_long p r (suc k) = omega (arith, slots_long p (routine_at p r).outer k)

module _ (s : Around) (line : ℕ) where
  -- the links so far, and one more
  pub links_start : (a b c : Front) (link : ℕ) → Takes a b (slot.Link s.routine) → link ≡ a.next → Codes b c (own line (I.Own link ∷ []))
      → Adds a c (λ at lo ls. own line (link_code lo 0)) (λ ls. chain_slots s.program s.routine 0) (λ ls. ls)
  links_start a b c link h is j = adds_as a c _ _ _ _ _ _ (slot_adds a b c _ _ _ _ h (only_code b c _ j))
      (ap (λ n. own line (I.Own n ∷ [])) is) refl refl

  pub links_step : (a b c d : Front) (k link next routine : ℕ)
      → Adds a b (λ at lo ls. own line (link_code lo k)) (λ ls. chain_slots s.program s.routine k) (λ ls. ls)
      → link ≡ a.next + k → routine ≡ outer_at s.program s.routine (k + 1) → Takes b c (slot.Link routine) → next ≡ b.next
      → Codes c d (own line (I.Chain next link 0 ∷ []))
      → Adds a d (λ at lo ls. own line (link_code lo (k + 1))) (λ ls. chain_slots s.program s.routine (k + 1)) (λ ls. ls)
  links_step a b c d k link next routine h is out t is2 j =
      let more : suc k ≡ k + 1 = omega arith in
      let all = adds_code a c d _ _ _ _ (adds_slot a b c _ _ _ _ h t) j in
      let there : next ≡ a.next + k + 1 = omega (arith, is2, h.next_slot, slots_long s.program s.routine k) in
      adds_as a d _ _ _ _ _ _ all
      (ap (λ n. own line (link_code a.next k) ++ own line (I.Chain next n 0 ∷ [])) is
      ∙ ap (λ n. own line (link_code a.next k) ++ own line (I.Chain n (a.next + k) 0 ∷ [])) there
      ∙ sym (own_two line (link_code a.next k) (I.Chain (a.next + k + 1) (a.next + k) 0 ∷ [])) ∙ ap (own line) (sym (link_more a.next k))
      ∙ ap (λ n. own line (link_code a.next n)) more)
      (ap (λ n. chain_slots s.program s.routine k ++ (slot.Link n ∷ [])) (out ∙ ap (outer_at s.program s.routine) (sym more))
      ∙ sym (slots_more s.program s.routine k) ∙ ap (chain_slots s.program s.routine) more) refl

  pub outer_step : (k routine : ℕ) (outer : ℕ) → routine ≡ outer_at s.program s.routine k → outer ≡ (routine_at s.program routine).outer
      → outer ≡ outer_at s.program s.routine (k + 1)
  outer_step k routine outer is h = let more : suc k ≡ k + 1 = omega arith in h ∙ ap (λ n. (routine_at s.program n).outer) is
      ∙ sym (outer_more s.program s.routine k) ∙ ap (outer_at s.program s.routine) more

  pub next_link : (a b : Front) (k next : ℕ)
      → Adds a b (λ at lo ls. own line (link_code lo k)) (λ ls. chain_slots s.program s.routine k) (λ ls. ls) → next ≡ b.next
      → next ≡ a.next + (k + 1)
  next_link a b k next h is = omega (arith, is, h.next_slot, slots_long s.program s.routine k)

  -- ---- roots

  abbrev pub PutsRoot : (to : ℕ) (a b : Front) → Root → Type 0
  PutsRoot to a b r = Adds a b (λ at lo ls. own line (T.root_code s.program s.tables s.routine to r))
      (λ ls. root_slots s.program s.routine r) (λ ls. ls)

  -- the place of a root by one instruction
  pub one_root : {U X : Type 0} (res : Result U X) (a b : Front) (to : ℕ) (r known : Root) (i : Instr) → r ≡ known
      → i ∷ [] ≡ T.root_code s.program s.tables s.routine to known → [] ≡ root_slots s.program s.routine known
      → OnOk res (Codes a b (own line (i ∷ []))) → OnOk res (PutsRoot to a b r)
  one_root res a b to r known i is code slots = on_ok_map res (λ h.
      adds_as a b _ _ _ _ _ _ (only_code a b _ h) (ap (own line) (code ∙ ap (T.root_code s.program s.tables s.routine to) (sym is)))
      (slots ∙ ap (root_slots s.program s.routine) (sym is)) refl)

  -- the place of a root by links to its frame, and one instruction
  pub linked_root : {U X : Type 0} (res : Result U X) (a b c : Front) (to links : ℕ) (r known : Root) (i : Instr) → r ≡ known
      → a.next ≡ to + 1
      → link_code (to + 1) links ++ (i ∷ []) ≡ T.root_code s.program s.tables s.routine to known
      → chain_slots s.program s.routine links ≡ root_slots s.program s.routine known
      → Adds a b (λ at lo ls. own line (link_code lo links)) (λ ls. chain_slots s.program s.routine links) (λ ls. ls)
      → OnOk res (Codes b c (own line (i ∷ []))) → OnOk res (PutsRoot to a c r)
  linked_root res a b c to links r known i is next code slots puts = on_ok_map res (λ h.
      adds_as a c _ _ _ _ _ _ (adds_code a b c _ _ _ _ puts h)
      (ap (λ n. own line (link_code n links) ++ own line (i ∷ [])) next ∙ sym (own_two line (link_code (to + 1) links) (i ∷ []))
      ∙ ap (own line) (code ∙ ap (T.root_code s.program s.tables s.routine to) (sym is)))
      (slots ∙ ap (root_slots s.program s.routine) (sym is)) refl)

  -- ---- selectors

  pub no_sels_put : (a : Front) (from : ℕ) → PutsSels s line from a a no_sels
  unfolding stmts_with stmts_phrases
  no_sels_put a from = record { all = adds_as a a _ _ _ _ _ _ (nothing a) refl refl refl }

  -- the slot of a part is the last of its selector
  pub part_last : (lo : ℕ) (x : Sel) → T.part_slot s.program s.tables s.routine lo x + 1 ≡ lo + length (sel_slots s.program s.routine x)
  part_last lo (Field offset cells) = refl
  part_last lo (Index e range cells) = omega
      (arith, length-append (unless_bare (bare e) (expr_slots s.program s.routine e)) (slot.Place cells ∷ []))

  pub sels_put : (a b c : Front) (from part : ℕ) (x : Sel) (rest : Sels) → PutsSel s line from a b x
      → part ≡ T.part_slot s.program s.tables s.routine a.next (sel_with x a.lines)
      → PutsSels s line part b c rest → PutsSels s line from a c (more_sels x rest)
  unfolding stmts_with stmts_phrases
  sels_put a b c from part x rest h is j =
      let ls = behind (sel_phrases x) a.lines in
      let mine = T.part_slot s.program s.tables s.routine a.next (sel_with x a.lines) in
      let first = T.sel_code s.program s.tables s.routine line (length a.code) from a.next (sel_with x a.lines) in
      let all = then_adds a b c _ _ _ _ _ _ h.all j.all in
      record {
        all = adds_as a c _ _ _ _ _ _ all
            (ap (λ n. first ++ T.sels_code s.program s.tables s.routine line (length a.code + length first) n
            (a.next + length (sel_slots s.program s.routine (sel_with x a.lines))) (sels_with rest ls)) is
            ∙ ap (λ n. first ++ T.sels_code s.program s.tables s.routine line (length a.code + length first) mine n (sels_with rest ls))
            (sym (part_last a.next (sel_with x a.lines))))
            refl (sym (behind_two (sel_phrases x) (sels_phrases rest) a.lines));
      }

  -- the place of the last part
  pub parts_on : (from lo : ℕ) (ls : List ℕ) (x : Sel) (rest : Sels)
      → T.part_at s.program s.tables s.routine from lo (sels_with (more_sels x rest) ls)
      ≡ T.part_at s.program s.tables s.routine (T.part_slot s.program s.tables s.routine lo (sel_with x ls))
      (lo + length (sel_slots s.program s.routine (sel_with x ls))) (sels_with rest (behind (sel_phrases x) ls))
  unfolding stmts_with
  parts_on from lo ls x rest = ap (λ n. T.part_at s.program s.tables s.routine (T.part_slot s.program s.tables s.routine lo (sel_with x ls))
      n (sels_with rest (behind (sel_phrases x) ls))) (part_last lo (sel_with x ls))

  pub field_put : (a b c : Front) (from to offset cells : ℕ) → Takes a b (slot.Place cells) → to ≡ a.next
      → Codes b c (own line (I.Field to from offset ∷ [])) → PutsSel s line from a c (Field offset cells)
  unfolding stmts_with stmts_phrases
  field_put a b c from to offset cells h is j =
      record {
        all = adds_as a c _ _ _ _ _ _ (slot_adds a b c _ _ _ _ h (only_code b c _ j))
            (ap (λ n. own line (I.Field n from offset ∷ [])) is) refl refl;
      }

  pub field_part : (lo : ℕ) (ls : List ℕ) (offset cells : ℕ)
      → T.part_slot s.program s.tables s.routine lo (sel_with (Field offset cells) ls) ≡ lo
  unfolding stmts_with
  field_part lo ls offset cells = refl

  pub index_put : (a b c d : Front) (from index to number : ℕ) (e : Expr) (range : Range) (cells : ℕ) → PutsValue s line a b e
      → index ≡ value_slot s a.next (expr_with e a.lines)
      → Takes b c (slot.Place cells) → to ≡ b.next → number ≡ range_number s.tables range
      → Codes c d (own line (I.Index to from index number ∷ [])) → PutsSel s line from a d (Index e range cells)
  unfolding stmts_with stmts_phrases
  index_put a b c d from index to number e range cells h is t is2 is3 j =
      let y = expr_with e a.lines in
      let code = unless_bare (bare y) (T.expr_code s.program s.tables s.routine line (length a.code) a.next y) in
      record {
        all = adds_as a d _ _ _ _ _ _ (adds_code a c d _ _ _ _ (adds_slot a b c _ _ _ _ h.all t) j)
            (ap (λ n. code ++ own line (I.Index n from index number ∷ [])) (is2 ∙ h.all.next_slot)
            ∙ ap (λ n. code ++ own line (I.Index (a.next + length (unless_bare (bare y) (expr_slots s.program s.routine y))) from n
            number ∷ [])) is
            ∙ ap (λ n. code ++ own line (I.Index (a.next + length (unless_bare (bare y) (expr_slots s.program s.routine y))) from
            (value_slot s a.next y) n ∷ [])) is3) refl refl;
      }

  pub index_part : (a b : Front) (e : Expr) (range : Range) (cells to : ℕ) → PutsValue s line a b e → to ≡ b.next
      → to ≡ T.part_slot s.program s.tables s.routine a.next (sel_with (Index e range cells) a.lines)
  unfolding stmts_with
  index_part a b e range cells to h is = is ∙ h.all.next_slot
