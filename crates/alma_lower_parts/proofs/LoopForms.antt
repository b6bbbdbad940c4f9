-- FOR and SOME. The lines of the variable come before those of the bounds, while its code comes behind theirs: so what is added is said
-- by lists that are written out, and not as it depends on the lines.
use Rattle.std.proofs.Common.{◌≡◌, ℕ, ℤ, pos, ◌+◌, List, [], ◌∷◌, ◌++◌, length, Some, None, refl, sym, ap, ◌∙◌, arith, append_assoc}
use Rattle.std.proofs.Common.{length-append}
use Rattle.std.specs.Prelude.{Option}
use Rattle.alma_base.specs.declared.number.Range.{Range}
use Rattle.alma_code.specs.declared.cell.SlotKind.{SlotKind}
use Rattle.alma_code.specs.declared.cell.SlotKind.TheVariants as slot
use Rattle.alma_code.specs.declared.instr.Instr.TheVariants as I
use Rattle.alma_choice.specs.Emitted.{aim_jump}
use Rattle.alma_ir.specs.Tree.{Stmts, Expr, Desig, ForTo, SomeOf, a_loop}
use Rattle.alma_ir.specs.Phrases.{stmts_phrases, expr_phrases, desig_phrases}
use Rattle.alma_ir.specs.Lines.{behind, stmts_with, expr_with, desig_with}
use Rattle.alma_ir.proofs.LinesBack.{behind_two}
use Rattle.alma_lower_work.specs.declared.stand.Stand.{Stand}
use Rattle.alma_lower_work.specs.Front.{Around, Front, Adds, Codes, Takes, Changes, Holes, Turns}
use Rattle.alma_lower_work.specs.Puts.{PutsTarget, PutsStmts, PutsStmt, stand_of, set_instr, value_slot}
use Rattle.alma_lower_work.proofs.Joins.{then_adds, adds_as, code_adds, adds_code, slot_adds, adds_slot, filled, address_behind}
use Rattle.alma_lower_parts.specs.Loops.{PutsFirstCount, PutsLimit}
use Rattle.alma_lower_parts.proofs.TestForms.{located}
use Rattle.alma_lower_parts.proofs.StmtForms.{set_is}
use Rattle.alma_lower_parts.proofs.With.{constant_with}
use Rattle.alma_lower_templates.specs.LineInstr.{LineInstr, own, in_row}
use Rattle.alma_lower_templates.specs.Slots.{bare, bare_desig, unless_bare, constant, ends_alone, expr_slots, desig_slots, stmts_slots}
use Rattle.alma_lower_templates.specs.Pieces.{unless_constant, limit_code, bounds_code, begin_loop, some_front, turn_code}
use Rattle.alma_lower_templates.specs.Templates as T

module _ (s : Around) (line : ℕ) where
  -- from other lines on
  pub turned : (a b c : Front) (ls : List ℕ) (g : (at lo : ℕ) → List ℕ → List LineInstr) (l : List ℕ → List SlotKind) (q : List ℕ → List ℕ)
      → Turns a b ls → Adds b c g l q
      → Adds a c (λ at lo ms. g at lo ls) (λ ms. l ls) (λ ms. q ls)
  turned a b c ls g l q h j = record {
    instrs = j.instrs ∙ ap (λ y. y ++ g (length b.code) b.next b.lines) h.instrs ∙ ap (λ y. a.code ++ g (length y) b.next b.lines) h.instrs
        ∙ ap (λ n. a.code ++ g (length a.code) n b.lines) h.next_slot ∙ ap (λ n. a.code ++ g (length a.code) a.next n) h.left;
    taken = j.taken ∙ ap (λ y. y ++ l b.lines) h.taken ∙ ap (λ n. a.kinds ++ l n) h.left;
    next_slot = j.next_slot ∙ ap (λ n. n + length (l b.lines)) h.next_slot ∙ ap (λ n. a.next + length (l n)) h.left;
    left = j.left ∙ ap q h.left;
    whole = j.whole ∙ h.whole;
  }

  -- ---- what comes before the turns

  -- the codes of the first count and of the limit
  abbrev pub first_code : (at lo : ℕ) → Expr → List LineInstr
  first_code at lo e = unless_constant (constant e) (T.expr_code s.program s.tables s.routine line at lo e)

  abbrev pub last_code : (limit at lo : ℕ) → Expr → List LineInstr
  last_code limit at lo e = limit_code (ends_alone e) line limit (value_slot s lo e)
      (unless_bare (bare e) (T.expr_code s.program s.tables s.routine line at lo e))

  pub bounds_put : (a b c d e : Front) (step first limit : ℕ) (by : ℤ) (from to : Expr) → Takes a b slot.Number → step ≡ a.next
      → Codes b c (own line (I.Const step by ∷ []))
      → PutsFirstCount s line c d from → PutsLimit s line limit d e to
      → Adds a e (λ at lo ls. begin_loop line at lo by (λ at. first_code at (lo + 1) (expr_with from ls))
      (λ at. last_code limit at (lo + 1 + length (expr_slots s.program s.routine (expr_with from ls)))
      (expr_with to (behind (expr_phrases from) ls))))
      (λ ls. slot.Number ∷ (expr_slots s.program s.routine (expr_with from ls)
      ++ expr_slots s.program s.routine (expr_with to (behind (expr_phrases from) ls))))
      (λ ls. behind (expr_phrases to) (behind (expr_phrases from) ls))
  bounds_put a b c d e step first limit by from to h is j k l =
      let ls = a.lines in
      let at = length a.code + 1 in
      let rest = in_row at (first_code at (a.next + 1) (expr_with from ls))
      (λ at. last_code limit at (a.next + 1 + length (expr_slots s.program s.routine (expr_with from ls)))
      (expr_with to (behind (expr_phrases from) ls))) in
      adds_as a e _ _ _ _ _ _ (slot_adds a b e _ _ _ _ h (code_adds b c e _ _ _ _ j (then_adds c d e _ _ _ _ _ _ k.all l.all)))
      (ap (λ n. own line (I.Const n by ∷ []) ++ rest) is) refl refl

  -- ---- a turn: the count is checked, the variable is located and set

  -- where the count of a turn stands
  abbrev pub count_of : (counter lo : ℕ) → Desig → ℕ
  count_of counter lo d = T.count_at s.program s.tables s.routine (bare_desig d) counter lo

  abbrev pub PutsCount : (range : Range) (counter : ℕ) (a b : Front) → Desig → Type 0
  PutsCount range counter a b d =
      Adds a b (λ at lo ls. own line (T.count_code s.program s.tables s.routine (bare_desig d) range counter lo))
      (λ ls. unless_bare (bare_desig d) (slot.Number ∷ [])) (λ ls. ls)

  locate_code : (o : Option ℕ) (low low2 : ℕ) (code : ℕ → List LineInstr) → (o ≡ None → low ≡ low2)
      → unless_bare o (code low) ≡ unless_bare o (code low2)
  locate_code (Some x) low low2 code h = refl
  locate_code None low low2 code h = ap code (h refl)

  set_low : (o : Option ℕ) (low low2 value : ℕ) (d : Desig) → (o ≡ None → low ≡ low2)
      → T.set_by s.program s.tables s.routine o low value d ≡ T.set_by s.program s.tables s.routine o low2 value d
  set_low (Some x) low low2 value d h = refl
  set_low None low low2 value d h = ap (λ n. I.Store (T.held_at s.program s.tables s.routine n d) value) (h refl)

  two_slots : (o : Option ℕ) (k : SlotKind) (l : List SlotKind) → unless_bare o (k ∷ []) ++ unless_bare o l ≡ unless_bare o (k ∷ l)
  two_slots (Some x) k l = refl
  two_slots None k l = refl

  one_slot : (o : Option ℕ) (lo : ℕ) → o ≡ None → lo + length (unless_bare o (slot.Number ∷ [])) ≡ lo + 1
  one_slot (Some x) lo h = absurd (cc)
  one_slot None lo h = refl

  pub turn_put : (a b c d e f : Front) (ls : List ℕ) (x : Desig) (body : Stmts) (range : Range) (counter count : ℕ) (stand : Stand)
      → PutsCount range counter a b (desig_with x a.lines) → count ≡ count_of counter a.next (desig_with x a.lines)
      → PutsTarget s line b c x → stand ≡ stand_of s b.next (desig_with x b.lines) → Codes c d (own line (set_instr stand count ∷ []))
      → Turns d e ls → PutsStmts s e f body
      → Adds a f (λ at lo ms. turn_code line at (T.count_code s.program s.tables s.routine (bare_desig (desig_with x ms)) range counter lo)
      (λ at. unless_bare (bare_desig (desig_with x ms)) (located s line at (lo + 1) (desig_with x ms)))
      (T.set_code s.program s.tables s.routine (lo + 1) (count_of counter lo (desig_with x ms)) (desig_with x ms))
      (λ at. T.stmts_code s.program s.tables s.routine
      at (lo + length (unless_bare (bare_desig (desig_with x ms)) (slot.Number ∷ desig_slots s.program s.routine (desig_with x ms))))
      (stmts_with body ls)))
      (λ ms. unless_bare (bare_desig (desig_with x ms)) (slot.Number ∷ desig_slots s.program s.routine (desig_with x ms))
      ++ stmts_slots s.program s.routine (stmts_with body ls)) (λ ms. behind (stmts_phrases body) ls)
  turn_put a b c d e f ls x body range counter count stand h is j is2 k t l =
      let ms = a.lines in
      let u = desig_with x ms in
      let o = bare_desig u in
      let at = length a.code in
      let check = own line (T.count_code s.program s.tables s.routine o range counter a.next) in
      let locate : ℕ → List LineInstr = λ low. unless_bare o (located s line (at + length check) low u) in
      let low = a.next + length (unless_bare o (slot.Number ∷ [])) in
      let k1 = unless_bare o (slot.Number ∷ []) in
      let k2 = unless_bare o (desig_slots s.program s.routine u) in
      let k3 = unless_bare o (slot.Number ∷ desig_slots s.program s.routine u) in
      let same : stand ≡ stand_of s low u = is2 ∙ ap (λ n. stand_of s n (desig_with x b.lines)) h.next_slot
      ∙ ap (λ n. stand_of s low (desig_with x n)) h.left in
      let mine : count_of counter a.next u ≡ count_of counter a.next u = refl in
      let instr : set_instr stand count ≡ T.set_code s.program s.tables s.routine (a.next + 1) (count_of counter a.next u) u =
      ap (λ n. set_instr n count) same ∙ set_is s line low count u ∙ set_low o low (a.next + 1) count u (one_slot o a.next)
      ∙ ap (λ n. T.set_code s.program s.tables s.routine (a.next + 1) n u) is in
      let first = then_adds a b c _ _ _ _ _ _ h j.all in
      let all = then_adds a d f _ _ _ _ _ _ (adds_code a c d _ _ _ _ first k) (turned d e f ls _ _ _ t l.all) in
      let body_code : (at lo : ℕ) → List LineInstr = λ at lo. T.stmts_code s.program s.tables s.routine at lo (stmts_with body ls) in
      let store = own line (T.set_code s.program s.tables s.routine (a.next + 1) (count_of counter a.next u) u ∷ []) in
      let place = locate (a.next + 1) in
      let under : a.next + length (k1 ++ k2) ≡ a.next + length k3 =
      ap (λ l. a.next + length l) (two_slots o slot.Number (desig_slots s.program s.routine u)) in
      let far : at + length ((check ++ place) ++ store) ≡ at + length check + length place + 1 =
      omega (arith, length-append (check ++ place) store, length-append check place) in
      adds_as a f _ _ _ _ _ _ all
      (ap (λ c. ((check ++ c) ++ own line (set_instr stand count ∷ []))
      ++ body_code (at + length ((check ++ c) ++ own line (set_instr stand count ∷ []))) (a.next + length (k1 ++ k2)))
      (locate_code o low (a.next + 1) (λ low. located s line (at + length check) low u) (one_slot o a.next))
      ∙ ap (λ i. ((check ++ place) ++ own line (i ∷ []))
      ++ body_code (at + length ((check ++ place) ++ own line (i ∷ []))) (a.next + length (k1 ++ k2))) instr
      ∙ ap (λ n. ((check ++ place) ++ store) ++ body_code n (a.next + length (k1 ++ k2))) far
      ∙ ap (λ n. ((check ++ place) ++ store) ++ body_code (at + length check + length place + 1) n) under
      ∙ append_assoc (check ++ place) store (body_code (at + length check + length place + 1) (a.next + length k3))
      ∙ append_assoc check place (store ++ body_code (at + length check + length place + 1) (a.next + length k3)))
      (ap (λ l. l ++ stmts_slots s.program s.routine (stmts_with body ls)) (two_slots o slot.Number (desig_slots s.program s.routine u)))
      refl

  -- ---- FOR

  -- the lines of a loop are those of its variable, its bounds and its body, in the order of the text
  four_behind : (d : Desig) (from to : Expr) (body : Stmts) (ls : List ℕ)
      → behind (stmts_phrases body) (behind (expr_phrases to) (behind (expr_phrases from) (behind (desig_phrases d) ls))) ≡ behind
      (((desig_phrases d ++ expr_phrases from) ++ expr_phrases to) ++ stmts_phrases body) ls
  four_behind d from to body ls =
      sym (behind_two ((desig_phrases d ++ expr_phrases from) ++ expr_phrases to) (stmts_phrases body) ls
      ∙ ap (behind (stmts_phrases body)) (behind_two (desig_phrases d ++ expr_phrases from) (expr_phrases to) ls
      ∙ ap (behind (expr_phrases to)) (behind_two (desig_phrases d) (expr_phrases from) ls)))

  -- the first slot behind the step and the bounds
  behind_bounds : (lo : ℕ) (k l : List SlotKind) → lo + length (slot.Number ∷ (k ++ l)) + 0 ≡ lo + 1 + length k + length l
  behind_bounds lo k l = omega (arith, length-append k l)

  pub for_put : (a a1 b c d e f g h i j k l m n : Front) (step first jump top out target count counter limit : ℕ) (stand : Stand)
      (x : Desig) (range : Range) (counts limits : ℕ) (from to : Expr) (known : Option ℤ) (by : ℤ) (body : Stmts)
      → counter ≡ T.own_slot s.program s.tables s.routine counts → limit ≡ T.own_slot s.program s.tables s.routine limits
      → known ≡ constant from
      → Turns a a1 (behind (desig_phrases x) a.lines) → Takes a1 b slot.Number → step ≡ a1.next
      → Codes b c (own line (I.Const step by ∷ [])) → PutsFirstCount s line c d from → first ≡ c.next → PutsLimit s line limit d e to
      → Holes e f (λ to xs. aim_jump xs jump to) (λ empty at lo ls. own line (bounds_code by known counter limit first empty)) (λ ls. [])
      (λ ls. ls) → Turns f g a.lines
      → PutsCount range counter g h (desig_with x g.lines) → count ≡ count_of counter g.next (desig_with x g.lines)
      → PutsTarget s line h i x → stand ≡ stand_of s h.next (desig_with x h.lines)
      → Codes i j (own line (set_instr stand count ∷ [])) → Turns j k e.lines → PutsStmts s k l body → top ≡ length f.code
      → out ≡ length l.code + 2 → Codes l m (own line (I.Step counter limit step out ∷ I.Jump top ∷ []))
      → Changes m n (λ xs. aim_jump xs jump target) → target ≡ length m.code
      → PutsStmt s line a n (ForTo (a_loop x range counts limits from to by body))
  unfolding stmts_with stmts_phrases
  for_put a a1 b c d e f g h i j k l m n step first jump top out target count counter limit stand x range counts limits from to known by
      body cis lis fis t h1 is h2 p is2 q bounds t2 cnt is4 tgt is5 st t3 bd is6 is7 cd ch is8 =
      let ls0 = a.lines in
      let ls1 = behind (desig_phrases x) ls0 in
      let ls2 = behind (expr_phrases from) ls1 in
      let ls3 = behind (expr_phrases to) ls2 in
      let u = desig_with x ls0 in
      let kf = expr_slots s.program s.routine (expr_with from ls1) in
      let kt = expr_slots s.program s.routine (expr_with to ls2) in
      let before = turned a a1 e ls1 _ _ _ t (bounds_put a1 b c d e step first limit by from to h1 is h2 p q) in
      let t4 : Turns j k ls3 = record {
        instrs = t3.instrs;
        taken = t3.taken;
        next_slot = t3.next_slot;
        left = t3.left ∙ before.left;
        whole = t3.whole;
      } in
      let turn_of = turned f g l ls0 _ _ _ t2 (turn_put g h i j k l ls3 x body range counter count stand cnt is4 tgt is5 st t4 bd) in
      let inner = adds_code f l m _ _ _ _ turn_of cd in
      let all = then_adds a e n _ _ _ _ _ _ before (filled e f m n _ _ _ _ _ _ _ target (λ n. n) bounds inner ch is8) in
      let at = length a.code in
      let c0 : c.next ≡ a.next + 1 = h2.next_slot ∙ h1.next_slot ∙ ap (λ n. n + 1) t.next_slot in
      let first0 : first ≡ a.next + 1 = is2 ∙ c0 in
      let step0 : step ≡ a.next = is ∙ t.next_slot in
      let known0 : known ≡ constant (expr_with from ls1) = fis ∙ sym (constant_with from ls1) in
      let own_counter = T.own_slot s.program s.tables s.routine counts in
      let own_limit = T.own_slot s.program s.tables s.routine limits in
      let begin_at : (limit : ℕ) → List LineInstr = λ limit. begin_loop line at a.next by
      (λ at. first_code at (a.next + 1) (expr_with from ls1)) (λ at. last_code limit at (a.next + 1 + length kf) (expr_with to ls2)) in
      let begin = begin_at own_limit in
      let next = at + length begin in
      let low = a.next + length (slot.Number ∷ (kf ++ kt)) + 0 in
      let place = a.next + 1 + length kf + length kt in
      let turn : (next counter lo : ℕ) → List LineInstr = λ next counter lo. turn_code line (next + 3)
      (T.count_code s.program s.tables s.routine (bare_desig u) range counter lo)
      (λ at. unless_bare (bare_desig u) (located s line at (lo + 1) u))
      (T.set_code s.program s.tables s.routine (lo + 1) (count_of counter lo u) u)
      (λ at. T.stmts_code s.program s.tables s.routine
      at (lo + length (unless_bare (bare_desig u) (slot.Number ∷ desig_slots s.program s.routine u))) (stmts_with body ls3)) in
      let ends : (counter limit step out top : ℕ)
      → List LineInstr = λ counter limit step out top. own line (I.Step counter limit step out ∷ I.Jump top ∷ []) in
      let tl : (at lo : ℕ) → List LineInstr = λ at lo. turn_code line
      at (T.count_code s.program s.tables s.routine (bare_desig u) range counter lo)
      (λ at. unless_bare (bare_desig u) (located s line at (lo + 1) u))
      (T.set_code s.program s.tables s.routine (lo + 1) (count_of counter lo u) u)
      (λ at. T.stmts_code s.program s.tables s.routine
      at (lo + length (unless_bare (bare_desig u) (slot.Number ∷ desig_slots s.program s.routine u))) (stmts_with body ls3)) in
      let e0 : length e.code ≡ next = address_behind a e _ _ _ before ∙ ap (λ z. at + length (begin_at z)) lis in
      let f0 : length f.code ≡ next + 3 = address_behind e f _ _ _ bounds.all ∙ ap (λ n. n + 3) e0 in
      let fn : f.next ≡ low = bounds.all.next_slot ∙ ap (λ n. n + 0) before.next_slot in
      let low0 : low ≡ place = behind_bounds a.next kf kt in
      let l0 : length l.code ≡ next + 3 + length (turn next counter low) = address_behind f l _ _ _ turn_of
      ∙ ap (λ n. n + length (tl (length f.code) f.next)) f0 ∙ ap (λ n. next + 3 + length (tl n f.next)) f0
      ∙ ap (λ n. next + 3 + length (tl (next + 3) n)) fn in
      let whole : (known : Option ℤ) (limits next counter limit first low step out top : ℕ)
      → List LineInstr = λ known limits next counter limit first low step out top.
      begin_at limits ++ (own line (bounds_code by known counter limit first
      (next + 3 + length (turn next counter low ++ ends counter limit step out top)))
      ++ (turn next counter low ++ ends counter limit step out top)) in
      let k0 = constant (expr_with from ls1) in
      let final = turn next own_counter place in
      let out0 : out ≡ next + 3 + length final + 2 = is7
      ∙ ap (λ n. n + 2)
      (l0 ∙ ap (λ n. next + 3 + length (turn next counter n)) low0 ∙ ap (λ n. next + 3 + length (turn next n place)) cis) in
      let top0 : top ≡ next + 3 = is6 ∙ f0 in
      let done = ends own_counter own_limit a.next (next + 3 + length final + 2) (next + 3) in
      let far : next + 3 + length (final ++ done) ≡ next + 3 + length final + 2 = omega (arith, length-append final done) in
      record {
        all = adds_as a n _ _ _ _ _ _ all
            (ap (λ z. whole known z (at + length (begin_at z)) counter limit first low step out top) lis
            ∙ ap (λ z. whole z own_limit next counter limit first low step out top) known0
            ∙ ap (λ z. whole k0 own_limit next z limit first low step out top) cis
            ∙ ap (λ z. whole k0 own_limit next own_counter z first low step out top) lis
            ∙ ap (λ z. whole k0 own_limit next own_counter own_limit z low step out top) first0
            ∙ ap (λ z. whole k0 own_limit next own_counter own_limit (a.next + 1) z step out top) low0
            ∙ ap (λ z. whole k0 own_limit next own_counter own_limit (a.next + 1) place z out top) step0
            ∙ ap (λ z. whole k0 own_limit next own_counter own_limit (a.next + 1) place a.next z top) out0
            ∙ ap (λ z. whole k0 own_limit next own_counter own_limit (a.next + 1) place a.next (next + 3 + length final + 2) z) top0
            ∙ ap (λ z. begin ++ (own line (bounds_code by k0 own_counter own_limit (a.next + 1) z) ++ (final ++ done))) far)
            (ap (λ l. slot.Number ∷ l) (append_assoc kf kt _)) (four_behind x from to body ls0);
      }

  -- ---- SOME

  pub some_put : (a a1 b c d e e1 f g h i j k l : Front) (step first more count counter limit : ℕ) (stand : Stand) (x : Desig)
      (range : Range) (counts limits : ℕ) (from to : Expr) (known : Option ℤ) (by : ℤ) (body : Stmts)
      → counter ≡ T.own_slot s.program s.tables s.routine counts → limit ≡ T.own_slot s.program s.tables s.routine limits
      → known ≡ constant from
      → Turns a a1 (behind (desig_phrases x) a.lines) → Takes a1 b slot.Number → step ≡ a1.next
      → Codes b c (own line (I.Const step (pos 1) ∷ [])) → PutsFirstCount s line c d from → first ≡ c.next
      → PutsLimit s line limit d e to → Takes e e1 slot.Number → more ≡ e.next
      → Codes e1 f (own line (some_front (length e1.code) known counter limit step first more)) → Turns f g a.lines
      → PutsCount range counter g h (desig_with x g.lines) → count ≡ count_of counter g.next (desig_with x g.lines)
      → PutsTarget s line h i x → stand ≡ stand_of s h.next (desig_with x h.lines)
      → Codes i j (own line (set_instr stand count ∷ [])) → Turns j k e.lines → PutsStmts s k l body
      → PutsStmt s line a l (SomeOf (a_loop x range counts limits from to by body))
  unfolding stmts_with stmts_phrases
  some_put a a1 b c d e e1 f g h i j k l step first more count counter limit stand x range counts limits from to known by body
      cis lis fis t h1 is h2 p is2 q tm ism fr t2 cnt is4 tgt is5 st t3 bd =
      let ls0 = a.lines in
      let ls1 = behind (desig_phrases x) ls0 in
      let ls2 = behind (expr_phrases from) ls1 in
      let ls3 = behind (expr_phrases to) ls2 in
      let u = desig_with x ls0 in
      let kf = expr_slots s.program s.routine (expr_with from ls1) in
      let kt = expr_slots s.program s.routine (expr_with to ls2) in
      let before = turned a a1 e ls1 _ _ _ t (bounds_put a1 b c d e step first limit (pos 1) from to h1 is h2 p q) in
      let front = adds_slot a e e1 _ _ _ _ before tm in
      let t4 : Turns j k ls3 = record {
        instrs = t3.instrs;
        taken = t3.taken;
        next_slot = t3.next_slot;
        left = t3.left ∙ before.left;
        whole = t3.whole;
      } in
      let turn_of = turned f g l ls0 _ _ _ t2 (turn_put g h i j k l ls3 x body range counter count stand cnt is4 tgt is5 st t4 bd) in
      let all = then_adds a f l _ _ _ _ _ _ (adds_code a e1 f _ _ _ _ front fr) turn_of in
      let at = length a.code in
      let c0 : c.next ≡ a.next + 1 = h2.next_slot ∙ h1.next_slot ∙ ap (λ n. n + 1) t.next_slot in
      let first0 : first ≡ a.next + 1 = is2 ∙ c0 in
      let step0 : step ≡ a.next = is ∙ t.next_slot in
      let known0 : known ≡ constant (expr_with from ls1) = fis ∙ sym (constant_with from ls1) in
      let own_counter = T.own_slot s.program s.tables s.routine counts in
      let own_limit = T.own_slot s.program s.tables s.routine limits in
      let spare = a.next + 1 + length kf + length kt in
      let more0 : more ≡ spare = omega (arith, ism, before.next_slot, length-append kf kt) in
      let begin_at : (limit : ℕ) → List LineInstr = λ limit. begin_loop line at a.next (pos 1)
      (λ at. first_code at (a.next + 1) (expr_with from ls1)) (λ at. last_code limit at (a.next + 1 + length kf) (expr_with to ls2)) in
      let begin = begin_at own_limit in
      let next = at + length begin in
      let low = a.next + length ((slot.Number ∷ (kf ++ kt)) ++ slot.Number ∷ []) in
      let low0 : low ≡ spare + 1 = omega (arith, length-append (kf ++ kt) (slot.Number ∷ []), length-append kf kt) in
      let e0 : length e1.code ≡ next = address_behind a e1 _ _ _ front ∙ ap (λ z. at + length (begin_at z)) lis in
      let turn : (counter at lo : ℕ) → List LineInstr = λ counter at lo. turn_code line
      at (T.count_code s.program s.tables s.routine (bare_desig u) range counter lo)
      (λ at. unless_bare (bare_desig u) (located s line at (lo + 1) u))
      (T.set_code s.program s.tables s.routine (lo + 1) (count_of counter lo u) u)
      (λ at. T.stmts_code s.program s.tables s.routine
      at (lo + length (unless_bare (bare_desig u) (slot.Number ∷ desig_slots s.program s.routine u))) (stmts_with body ls3)) in
      let eight : (at : ℕ) (known : Option ℤ) (counter limit step first more : ℕ)
      → List LineInstr = λ at known counter limit step first more. own line (some_front at known counter limit step first more) in
      let k0 = constant (expr_with from ls1) in
      let done = eight next k0 own_counter own_limit a.next (a.next + 1) spare in
      let far : at + length (begin ++ done) ≡ next + 8 = omega (arith, length-append begin done) in
      let whole : (known : Option ℤ) (limits next counter limit step first more low : ℕ)
      → List LineInstr = λ known limits next counter limit step first more low.
      (begin_at limits ++ eight next known counter limit step first more)
      ++ turn counter (at + length (begin_at limits ++ eight next known counter limit step first more)) low in
      record {
        all = adds_as a l _ _ _ _ _ _ all
            (ap (λ z. whole known limit z counter limit step first more low) e0
            ∙ ap (λ z. whole known z next counter limit step first more low) lis
            ∙ ap (λ z. whole z own_limit next counter limit step first more low) known0
            ∙ ap (λ z. whole k0 own_limit next z limit step first more low) cis
            ∙ ap (λ z. whole k0 own_limit next own_counter z step first more low) lis
            ∙ ap (λ z. whole k0 own_limit next own_counter own_limit z first more low) step0
            ∙ ap (λ z. whole k0 own_limit next own_counter own_limit a.next z more low) first0
            ∙ ap (λ z. whole k0 own_limit next own_counter own_limit a.next (a.next + 1) z low) more0
            ∙ ap (λ z. whole k0 own_limit next own_counter own_limit a.next (a.next + 1) spare z) low0
            ∙ ap (λ z. (begin ++ done) ++ turn own_counter z (spare + 1)) far
            ∙ append_assoc begin done (turn own_counter (next + 8) (spare + 1)))
            (ap (λ l. slot.Number ∷ l) (append_assoc (kf ++ kt) (slot.Number ∷ []) _ ∙ append_assoc kf kt _))
            (four_behind x from to body ls0);
      }
