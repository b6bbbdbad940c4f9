-- FOR and SOME, of what the bounds and a turn put.
use Rattle.std.proofs.Common.{◌≡◌, ℕ, ◌+◌, ℤ, [], ◌∷◌, length, drop, pos, Option, refl, sym, ap, ◌∙◌, subst, add-zero}
use Rattle.alma_base.specs.declared.number.Range.{Range}
use Rattle.alma_code.specs.declared.cell.SlotKind.TheVariants as slot
use Rattle.alma_code.specs.declared.instr.Instr.TheVariants as I
use Rattle.alma_choice.specs.Emitted.{aim_jump}
use Rattle.alma_ir.specs.Tree.{Stmts, Expr, Desig, ForTo, SomeOf, a_loop}
use Rattle.alma_ir.specs.Phrases.{desig_phrases}
use Rattle.alma_ir.specs.Lines.{behind, desig_with}
use Rattle.alma_lower_work.specs.Front.{Around, Front, Adds, Codes, Changes, Holes, Turns}
use Rattle.alma_lower_work.specs.Puts.{PutsStmt}
use Rattle.alma_lower_parts.proofs.LoopForms.{for_put, some_put}
use Rattle.alma_lower_parts.specs.Loops.{PutsBounds, PutsTurn}
use Rattle.alma_lower_parts.specs.Steps.{BeginsSome}
use Rattle.alma_lower_templates.specs.LineInstr.{own}
use Rattle.alma_lower_templates.specs.Pieces.{bounds_code}
use Rattle.alma_lower_templates.specs.Slots.{bare_desig, unless_bare, constant}
use Rattle.alma_lower_parts.proofs.With.{own_desig}
use Rattle.alma_lower_templates.specs.Templates as T

module _ (s : Around) (line : ℕ) where
  pub for_joined : (a a1 e f g l m n : Front) (step first jump top out before after counter limit : ℕ) (x : Desig) (range : Range)
      (counts limits : ℕ) (from to : Expr) (known : Option ℤ) (by : ℤ) (body : Stmts)
      → counter ≡ T.own_slot s.program s.tables s.routine counts → limit ≡ T.own_slot s.program s.tables s.routine limits
      → known ≡ constant from
      → a.lines ≡ drop before a.all_lines → Turns a a1 (behind (desig_phrases x) a.lines)
      → PutsBounds s line by limit a1 e from to step first → e.lines ≡ drop after e.all_lines
      → Holes e f (λ to xs. aim_jump xs jump to) (λ empty at lo ls. own line (bounds_code by known counter limit first empty)) (λ ls. [])
      (λ ls. ls) → top ≡ length f.code
      → g.code ≡ f.code → g.kinds ≡ f.kinds → g.next ≡ f.next → g.lines ≡ drop before f.all_lines → g.all_lines ≡ f.all_lines
      → PutsTurn s line after range counter g l x body → out ≡ length l.code + 2
      → Codes l m (own line (I.Step counter limit step out ∷ I.Jump top ∷ [])) → Changes m n (λ xs. aim_jump xs jump (length m.code + 0))
      → PutsStmt s line a n (ForTo (a_loop x range counts limits from to by body))
  for_joined a a1 e f g l m n step first jump top out before after counter limit x range counts limits from to known by body cis lis fis
      before_is t bs after_is hole top_is code kinds next lines whole tn out_is cd ch =
      let e_all : e.all_lines ≡ a.all_lines = bs.to_put.all.whole ∙ bs.from_put.all.whole ∙ bs.codes.whole ∙ bs.takes.whole ∙ t.whole in
      let f_all : f.all_lines ≡ e.all_lines = hole.all.whole in
      let back : Turns f g a.lines = record {
        instrs = code;
        taken = kinds;
        next_slot = next;
        left = lines
            ∙ ap (drop before) (f_all ∙ e_all) ∙ sym before_is;
        whole = whole;
      } in
      let on : Turns tn.d tn.e e.lines = record {
        instrs = tn.code;
        taken = tn.kinds;
        next_slot = tn.next;
        left = tn.lines
            ∙ ap (drop after) (tn.set.whole ∙ tn.located.all.whole ∙ tn.checked.whole ∙ whole ∙ f_all) ∙ sym after_is;
        whole = tn.whole;
      } in
      for_put s line a a1 bs.b bs.c bs.d e f g tn.b tn.c tn.d tn.e l m n step first jump top out (length m.code + 0) tn.count counter
      limit tn.stand x range counts limits from to known by body cis lis fis t bs.takes bs.step_slot bs.codes
      bs.from_put bs.first_slot bs.to_put hole back tn.checked tn.count_slot tn.located tn.stands tn.set on tn.body_put top_is
      out_is cd ch (add-zero (length m.code))

  pub some_joined : (a a1 e f g l : Front) (step first before after counter limit : ℕ)
      (x : Desig) (range : Range) (counts limits : ℕ) (from to : Expr) (known : Option ℤ) (by : ℤ) (body : Stmts)
      → counter ≡ T.own_slot s.program s.tables s.routine counts → limit ≡ T.own_slot s.program s.tables s.routine limits
      → known ≡ constant from
      → a.lines ≡ drop before a.all_lines → Turns a a1 (behind (desig_phrases x) a.lines)
      → PutsBounds s line (pos 1) limit a1 e from to step first → e.lines ≡ drop after e.all_lines
      → BeginsSome line known counter limit step first e f
      → g.code ≡ f.code → g.kinds ≡ f.kinds → g.next ≡ f.next → g.lines ≡ drop before f.all_lines → g.all_lines ≡ f.all_lines
      → PutsTurn s line after range counter g l x body
      → PutsStmt s line a l (SomeOf (a_loop x range counts limits from to by body))
  some_joined a a1 e f g l step first before after counter limit x range counts limits from to known by body cis lis fis
      before_is t bs after_is begins code kinds next lines whole tn =
      let e_all : e.all_lines ≡ a.all_lines = bs.to_put.all.whole ∙ bs.from_put.all.whole ∙ bs.codes.whole ∙ bs.takes.whole ∙ t.whole in
      let f_all : f.all_lines ≡ e.all_lines = begins.codes.whole ∙ begins.takes.whole in
      let back : Turns f g a.lines = record {
        instrs = code;
        taken = kinds;
        next_slot = next;
        left = lines
            ∙ ap (drop before) (f_all ∙ e_all) ∙ sym before_is;
        whole = whole;
      } in
      let on : Turns tn.d tn.e e.lines = record {
        instrs = tn.code;
        taken = tn.kinds;
        next_slot = tn.next;
        left = tn.lines
            ∙ ap (drop after) (tn.set.whole ∙ tn.located.all.whole ∙ tn.checked.whole ∙ whole ∙ f_all) ∙ sym after_is;
        whole = tn.whole;
      } in
      some_put s line a a1 bs.b bs.c bs.d e begins.b f g tn.b tn.c tn.d tn.e l step first e.next tn.count counter limit tn.stand x range
      counts limits from to known by body cis lis fis t bs.takes bs.step_slot bs.codes bs.from_put bs.first_slot bs.to_put
      begins.takes refl begins.codes back tn.checked tn.count_slot tn.located tn.stands tn.set on tn.body_put

  -- lines change nothing of where a variable stands
  pub count_lined : (a b : Front) (range : Range) (counter : ℕ) (x : Desig)
      → Adds a b (λ at lo ls. own line (T.count_code s.program s.tables s.routine (bare_desig x) range counter lo))
      (λ ls. unless_bare (bare_desig x) (slot.Number ∷ [])) (λ ls. ls)
      → Adds a b (λ at lo ls. own line (T.count_code s.program s.tables s.routine (bare_desig (desig_with x a.lines)) range counter lo))
      (λ ls. unless_bare (bare_desig (desig_with x a.lines)) (slot.Number ∷ [])) (λ ls. ls)
  count_lined a b range counter x h = subst
      (λ o. Adds a b (λ at lo ls. own line (T.count_code s.program s.tables s.routine o range counter lo))
      (λ ls. unless_bare o (slot.Number ∷ [])) (λ ls. ls)) (sym (own_desig x a.lines)) h

  pub count_at_lined : (a : Front) (counter count : ℕ) (x : Desig)
      → count ≡ T.count_at s.program s.tables s.routine (bare_desig x) counter a.next
      → count ≡ T.count_at s.program s.tables s.routine (bare_desig (desig_with x a.lines)) counter a.next
  count_at_lined a counter count x h = subst (λ o. count ≡ T.count_at s.program s.tables s.routine o counter a.next)
      (sym (own_desig x a.lines)) h
