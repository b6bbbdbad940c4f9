-- What each form of statement adds that has no condition, no count and no labels.
use Rattle.std.proofs.Common.{◌≡◌, ℕ, ◌+◌, ◌<◌, Bool, true, false, List, [], ◌∷◌, ◌++◌, length, drop, get_or, Some, None, refl, sym, ap}
use Rattle.std.proofs.Common.{◌∙◌, arith, append_assoc, length-append}
use Rattle.std.specs.Prelude.{Option, option_map, not, ◌&&◌}
use Rattle.std.proofs.lemmas.List.{append-nil}
use Rattle.alma_base.specs.declared.number.Range.{Range}
use Rattle.alma_code.specs.declared.cell.SlotKind.TheVariants as slot
use Rattle.alma_code.specs.declared.instr.Instr.{Instr}
use Rattle.alma_code.specs.declared.instr.Instr.TheVariants as I
use Rattle.alma_choice.specs.Emitted.{aim_jump}
use Rattle.alma_choice.proofs.Aiming.{last_behind}
use Rattle.alma_ir.specs.declared.phrase.ReadAs.{ReadAs}
use Rattle.alma_ir.specs.declared.phrase.WriteAs.{WriteAs}
use Rattle.alma_ir.specs.Tree.{Stmts, Stmt, Branches, Test, Expr, Desig, no_stmts, more_stmts, TestStmt, Assign, CopyCells, If, While}
use Rattle.alma_ir.specs.Tree.{Repeat, ForTo, SomeOf, Case, Either, Forall, Commit, Return, Read, WriteExpr, WriteText, WriteLine}
use Rattle.alma_ir.specs.Tree.{no_branches, more_branches, no_result, some_result, Const, Load, Chain, Compare, Truth, Known, Chr, CallExpr}
use Rattle.alma_ir.specs.Tree.{no_links, more_links}
use Rattle.alma_ir.specs.Phrases.{StmtPhrase, stmts_phrases, stmt_phrases, branches_phrases, expr_phrases, desig_phrases}
use Rattle.alma_ir.specs.Lines.{stmt_count, behind, stmts_with, stmt_with, branches_with, expr_with, desig_with}
use Rattle.alma_ir.proofs.LinesBack.{behind_two, drop_two}
use Rattle.alma_lower_work.specs.declared.stand.Stand.{Stand}
use Rattle.alma_lower_work.specs.Front.{Around, Front, Adds, Codes, Takes, Changes, Holes, EndsEach, EndsForall, result_of}
use Rattle.alma_lower_work.specs.Puts.{PutsValue, PutsHeld, PutsTarget, PutsTest, PutsStmts, PutsStmt, PutsBranches, PutsChosen}
use Rattle.alma_lower_work.specs.Puts.{value_slot, stand_of, stand_by, set_instr, inside}
use Rattle.alma_lower_work.proofs.Joins.{nothing, then_adds, adds_as, code_code, code_adds, adds_code, only_code, slot_adds, filled, over}
use Rattle.alma_lower_work.proofs.Joins.{own_two, address_behind}
use Rattle.alma_lower_parts.proofs.With.{no_bare, straight_with}
use Rattle.alma_lower_parts.proofs.TestForms.{located, two_places}
use Rattle.alma_lower_templates.specs.LineInstr.{LineInstr, own, in_row}
use Rattle.alma_lower_templates.specs.Tables.{range_number, text_number, is_whole}
use Rattle.alma_lower_templates.specs.Slots.{bare, bare_desig, is_given, ends_alone, straight_by, goes_straight, own_place, taken_from}
use Rattle.alma_lower_templates.specs.Slots.{unless_bare, stmts_slots, stmt_slots, desig_slots}
use Rattle.alma_lower_templates.specs.Pieces.{aim, straight, neg_code, fit_code, write_code, read_code, begin_forall, begin_each, end_each}
use Rattle.alma_lower_templates.specs.Pieces.{each_body, branch_code}
use Rattle.alma_lower_templates.specs.Templates as T

-- ---- lists of statements

itself_first : (x : Stmt) → stmt_phrases x ≡ StmtPhrase x ∷ inside x
unfolding stmts_phrases
itself_first (TestStmt t) = refl
itself_first (Assign d e range) = refl
itself_first (CopyCells d e) = refl
itself_first (If arms rest) = refl
itself_first (While t body) = refl
itself_first (Repeat body t) = refl
itself_first (ForTo each) = refl
itself_first (SomeOf each) = refl
itself_first (Case e arms rest) = refl
itself_first (Either bs) = refl
itself_first (Forall x y) = refl
itself_first (Commit x) = refl
itself_first (Return e) = refl
itself_first (Read d how range) = refl
itself_first (WriteExpr e how) = refl
itself_first (WriteText text) = refl
itself_first WriteLine = refl

-- behind a statement and those inside it
pub behind_inside : (x : Stmt) (ls : List ℕ) → behind (inside x) (drop 1 ls) ≡ behind (stmt_phrases x) ls
behind_inside x ls = sym (drop_two 1 (stmt_count (inside x)) ls) ∙ ap (λ n. drop n ls) (omega (arith, ap stmt_count (itself_first x)))

module _ (s : Around) where
  pub no_stmts_put : (a : Front) → PutsStmts s a a no_stmts
  unfolding stmts_with stmts_phrases
  no_stmts_put a = record { all = adds_as a a _ _ _ _ _ _ (nothing a) refl refl refl }

  -- a statement at the next line, and then the others
  pub stmts_put : (a b c d : Front) (line : ℕ) (x : Stmt) (rest : Stmts) → line ≡ get_or a.lines 0 0 → b.code ≡ a.code → b.kinds ≡ a.kinds
      → b.next ≡ a.next → b.lines ≡ drop 1 a.lines → b.all_lines ≡ a.all_lines
      → PutsStmt s line b c x → PutsStmts s c d rest → PutsStmts s a d (more_stmts 0 x rest)
  unfolding stmts_with stmts_phrases
  stmts_put a b c d line x rest is code kinds next lines whole h j =
      let ls = a.lines in
      let y = stmt_with x (drop 1 ls) in
      let f : ℕ → ℕ → ℕ → List ℕ → List LineInstr = λ n at lo ms. T.stmt_code s.program s.tables s.routine n at lo (stmt_with x ms) in
      let mine : Adds a c (λ at lo ls. f line at lo (drop 1 ls)) (λ ls. stmt_slots s.program s.routine (stmt_with x (drop 1 ls)))
      (λ ls. behind (inside x) (drop 1 ls)) = record {
        instrs = h.all.instrs ∙ ap (λ z. z ++ f line (length b.code) b.next b.lines) code
            ∙ ap (λ z. a.code ++ f line (length z) b.next b.lines) code
            ∙ ap (λ n. a.code ++ f line (length a.code) n b.lines) next ∙ ap (λ n. a.code ++ f line (length a.code) a.next n) lines;
        taken = h.all.taken ∙ ap (λ z. z ++ stmt_slots s.program s.routine (stmt_with x b.lines)) kinds
            ∙ ap (λ n. a.kinds ++ stmt_slots s.program s.routine (stmt_with x n)) lines;
        next_slot = h.all.next_slot ∙ ap (λ n. n + length (stmt_slots s.program s.routine (stmt_with x b.lines))) next
            ∙ ap (λ n. a.next + length (stmt_slots s.program s.routine (stmt_with x n))) lines;
        left = h.all.left ∙ ap (behind (inside x)) lines;
        whole = h.all.whole ∙ whole;
      } in
      let own_line : Adds a c (λ at lo ls. f (get_or ls 0 0) at lo (drop 1 ls))
      (λ ls. stmt_slots s.program s.routine (stmt_with x (drop 1 ls))) (behind (stmt_phrases x)) =
      adds_as a c _ _ _ _ _ _ mine (ap (λ n. f n (length a.code) a.next (drop 1 ls)) is) refl (behind_inside x ls) in
      record {
        all = adds_as a d _ _ _ _ _ _ (then_adds a c d _ _ _ _ _ _ own_line j.all) refl refl
            (sym (behind_two (stmt_phrases x) (stmts_phrases rest) ls));
      }

-- ---- values that go straight into a variable

pub long_behind : (xs ys : List LineInstr) → 0 < length ys → 0 < length (xs ++ ys)
long_behind xs ys long = omega (arith, long, length-append xs ys)

pub long_before : (xs ys : List LineInstr) → 0 < length xs → 0 < length (xs ++ ys)
long_before xs ys long = omega (arith, long, length-append xs ys)

goes_alone : (d : Desig) (e : Expr) (range : Range) (from : ℕ) → goes_straight d e range ≡ Some from → ends_alone e ≡ true
goes_alone d e range from h = by (bare_desig d) (is_whole range) (ends_alone e) h
  where
    by : (o : Option ℕ) (whole alone : Bool) → straight_by o (whole && alone) ≡ Some from → alone ≡ true
    by (Some to) true true h = refl
    by (Some to) true false h = absurd (cc)
    by (Some to) false alone h = absurd (cc)
    by None whole alone h = absurd (cc)

module _ (s : Around) where
  -- the code of a variable and of the number for it, before that is put there
  abbrev assigned_code : (line at lo next : ℕ) → Desig → Expr → List LineInstr
  assigned_code line at lo next d e =
      in_row at (unless_bare (bare_desig d) (unless_bare (own_place d) (T.desig_code s.program s.tables s.routine line at lo d)))
      (λ at. unless_bare (bare e) (T.expr_code s.program s.tables s.routine line at next e))

  -- a value that ends alone has code
  pub has_code : (line at lo : ℕ) (e : Expr) → ends_alone e ≡ true
      → 0 < length (unless_bare (bare e) (T.expr_code s.program s.tables s.routine line at lo e))
  has_code line at lo (Const n) h = omega arith
  has_code line at lo (Load d) h = by (bare_desig d) refl h
    where
      by : (o : Option ℕ) → bare_desig d ≡ o → not (is_given o) ≡ true
          → 0 < length (unless_bare o (T.expr_code s.program s.tables s.routine line at lo (Load d)))
      by (Some from) e h = absurd (cc)
      by None e h = long_behind
          (unless_bare (bare_desig d) (unless_bare (own_place d) (T.desig_code s.program s.tables s.routine line at (lo + 1) d))) _
          (omega arith)
  has_code line at lo (Chain negated e no_links) h = absurd (cc)
  has_code line at lo (Chain negated e (more_links how x rest)) h =
      long_behind (unless_bare (taken_from negated e (more_links how x rest))
      (T.expr_code s.program s.tables s.routine line at lo e) ++ own line (neg_code negated lo (value_slot s lo e))) _
      (long_before _ _ (long_behind (unless_bare (bare x) (T.expr_code s.program s.tables s.routine line _ _ x)) _ (omega arith)))
  has_code line at lo (Compare how x y) h = absurd (cc)
  has_code line at lo (Truth t) h = absurd (cc)
  has_code line at lo (Known d) h = absurd (cc)
  has_code line at lo (Chr e) h = absurd (cc)
  has_code line at lo (CallExpr q args up) h = absurd (cc)

module _ (s : Around) (line : ℕ) where
  set_by : (o : Option ℕ) (lo value : ℕ) (d : Desig)
      → set_instr (stand_by s o (T.held_at s.program s.tables s.routine lo d)) value ≡ T.set_by s.program s.tables s.routine o lo value d
  set_by (Some to) lo value d = refl
  set_by None lo value d = refl

  pub set_is : (lo value : ℕ) (d : Desig) → set_instr (stand_of s lo d) value ≡ T.set_code s.program s.tables s.routine lo value d
  set_is lo value d = set_by (bare_desig d) lo value d

  pub test_put : (a b : Front) (t : Test) → PutsTest s line a b t → PutsStmt s line a b (TestStmt t)
  unfolding stmts_with stmts_phrases
  test_put a b t h = record { all = h.all }

  pub assign_put : (a b c d e : Front) (x : Desig) (y : Expr) (range : Range) (stand : Stand) (value : ℕ)
      → None ≡ option_map (T.own_slot s.program s.tables s.routine) (goes_straight x y range)
      → PutsTarget s line a b x → stand ≡ stand_of s a.next (desig_with x a.lines) → PutsValue s line b c y
      → value ≡ value_slot s b.next (expr_with y b.lines)
      → Codes c d (own line (fit_code s.tables range value)) → Codes d e (own line (set_instr stand value ∷ []))
      → PutsStmt s line a e (Assign x y range)
  unfolding stmts_with stmts_phrases
  assign_put a b c d e x y range stand value none h is j is2 k l =
      let u = desig_with x a.lines in
      let ls = behind (desig_phrases x) a.lines in
      let lo = a.next + length (unless_bare (bare_desig u) (desig_slots s.program s.routine u)) in
      let v = expr_with y ls in
      let there : value ≡ value_slot s lo v = is2 ∙ ap (λ n. value_slot s n (expr_with y b.lines)) h.all.next_slot
      ∙ ap (λ n. value_slot s lo (expr_with y n)) h.all.left in
      let both = assigned_code s line (length a.code) a.next lo u v in
      let set : List Instr =
      fit_code s.tables range (value_slot s lo v) ++ (T.set_code s.program s.tables s.routine a.next (value_slot s lo v) u ∷ []) in
      record {
        all = adds_as a e _ _ _ _ _ _ (adds_code a c e _ _ _ _ (then_adds a b c _ _ _ _ _ _ h.all j.all) (code_code c d e _ _ k l))
            (ap (λ i. both ++ (own line (fit_code s.tables range value) ++ own line (i ∷ [])))
            (ap (λ n. set_instr n value) is ∙ set_is a.next value u)
            ∙ ap (λ l. both ++ l) (sym
            (own_two line (fit_code s.tables range value) (T.set_code s.program s.tables s.routine a.next value u ∷ [])))
            ∙ ap (λ n. both ++ own line (fit_code s.tables range n ++ (T.set_code s.program s.tables s.routine a.next n u ∷ []))) there
            ∙ ap (λ o. T.set_to s.program s.tables s.routine o line both set)
            (sym (straight_with x y range a.lines ls
            ∙ no_bare (T.own_slot s.program s.tables s.routine) (goes_straight x y range) none)))
            refl (sym (behind_two (desig_phrases x) (expr_phrases y) a.lines));
      }

  -- the value goes straight into the slot of the variable
  pub straight_put : (a b c d : Front) (x : Desig) (y : Expr) (range : Range) (to : ℕ)
      → Some to ≡ option_map (T.own_slot s.program s.tables s.routine) (goes_straight x y range)
      → PutsTarget s line a b x → PutsValue s line b c y → Changes c d (λ xs. straight to xs) → PutsStmt s line a d (Assign x y range)
  unfolding stmts_with stmts_phrases
  straight_put a b c d x y range to some h j k = by (goes_straight x y range) refl some
    where
      put : (from : ℕ) → goes_straight x y range ≡ Some from → to ≡ T.own_slot s.program s.tables s.routine from
          → PutsStmt s line a d (Assign x y range)
      put from e is =
          let u = desig_with x a.lines in
          let ls = behind (desig_phrases x) a.lines in
          let lo = a.next + length (unless_bare (bare_desig u) (desig_slots s.program s.routine u)) in
          let v = expr_with y ls in
          let both : List LineInstr = assigned_code s line (length a.code) a.next lo u v in
          let same : goes_straight u v range ≡ Some from = straight_with x y range a.lines ls ∙ e in
          let set : List Instr =
          fit_code s.tables range (value_slot s lo v) ++ (T.set_code s.program s.tables s.routine a.next (value_slot s lo v) u ∷ []) in
          let all = then_adds a b c _ _ _ _ _ _ h.all j.all in
          record {
            all = record {
              instrs = k.instrs ∙ ap (straight to) all.instrs
                  ∙ last_behind (aim to) a.code both
                  (long_behind (unless_bare (bare_desig u) (unless_bare (own_place u)
                  (T.desig_code s.program s.tables s.routine line (length a.code) a.next u)))
                  _ (has_code s line _ lo v (goes_alone u v range from same)))
                  ∙ ap (λ n. a.code ++ straight n both) is
                  ∙ ap (λ o. a.code ++ T.set_to s.program s.tables s.routine o line both set) (sym same);
              taken = k.taken ∙ all.taken;
              next_slot = k.next_slot ∙ all.next_slot;
              left = k.left ∙ all.left ∙ sym (behind_two (desig_phrases x) (expr_phrases y) a.lines);
              whole = k.whole ∙ all.whole;
            };
          }

      by : (o : Option ℕ) → goes_straight x y range ≡ o → Some to ≡ option_map (T.own_slot s.program s.tables s.routine) o
          → PutsStmt s line a d (Assign x y range)
      by (Some from) e is = put from e cc
      by None e is = absurd (cc)

  pub copy_put : (a b c d : Front) (x y : Desig) (place place2 : ℕ) → PutsHeld s line a b x
      → place ≡ T.held_at s.program s.tables s.routine a.next (desig_with x a.lines)
      → PutsHeld s line b c y → place2 ≡ T.held_at s.program s.tables s.routine b.next (desig_with y b.lines)
      → Codes c d (own line (I.CopyCells place place2 ∷ [])) → PutsStmt s line a d (CopyCells x y)
  unfolding stmts_with stmts_phrases
  copy_put a b c d x y place place2 h is j is2 k =
      record { all = two_places s line a b c d x y place place2 (λ m n. I.CopyCells m n) h is j is2 k }

  pub commit_put : (a b c d e : Front) (mark : ℕ) (body : Stmts) → Takes a b slot.Mark → mark ≡ a.next
      → Codes b c (own line (I.Mark mark ∷ [])) → PutsStmts s c d body → Codes d e (own line (I.Cut mark ∷ []))
      → PutsStmt s line a e (Commit body)
  unfolding stmts_with stmts_phrases
  commit_put a b c d e mark body h is j k l =
      let inner = T.stmts_code s.program s.tables s.routine (length a.code + 1) (a.next + 1) (stmts_with body a.lines) in
      record {
        all = adds_as a e _ _ _ _ _ _ (slot_adds a b e _ _ _ _ h (code_adds b c e _ _ _ _ j (adds_code c d e _ _ _ _ k.all l)))
            (ap (λ n. own line (I.Mark n ∷ []) ++ (inner ++ own line (I.Cut n ∷ []))) is) refl refl;
      }

  pub return_put : (a b : Front) → Codes a b (own line (I.Return ∷ [])) → PutsStmt s line a b (Return no_result)
  unfolding stmts_with stmts_phrases
  return_put a b h = record { all = adds_as a b _ _ _ _ _ _ (only_code a b _ h) refl refl refl }

  pub return_value_put : (a b c d : Front) (e : Expr) (value : ℕ) → PutsValue s line a b e
      → value ≡ value_slot s a.next (expr_with e a.lines)
      → Codes b c (own line (T.fit_result s.program s.tables s.routine (result_of s) value))
      → Codes c d (own line (I.ReturnValue value ∷ [])) → PutsStmt s line a d (Return (some_result e))
  unfolding stmts_with stmts_phrases
  return_value_put a b c d e value h is j k =
      let u = expr_with e a.lines in
      let code = unless_bare (bare u) (T.expr_code s.program s.tables s.routine line (length a.code) a.next u) in
      let fit : ℕ → List Instr = λ n. T.fit_result s.program s.tables s.routine (result_of s) n in
      record {
        all = adds_as a d _ _ _ _ _ _ (adds_code a b d _ _ _ _ h.all (code_code b c d _ _ j k))
            (ap (λ l. code ++ l) (sym (own_two line (fit value) (I.ReturnValue value ∷ [])))
            ∙ ap (λ n. code ++ own line (fit n ++ (I.ReturnValue n ∷ []))) is) refl refl;
      }

  pub read_put : (a b c : Front) (x : Desig) (how : ReadAs) (range : Range) (place number : ℕ) → PutsHeld s line a b x
      → place ≡ T.held_at s.program s.tables s.routine a.next (desig_with x a.lines)
      → number ≡ range_number s.tables range → Codes b c (own line (read_code how place number ∷ []))
      → PutsStmt s line a c (Read x how range)
  unfolding stmts_with stmts_phrases
  read_put a b c x how range place number h is is2 j =
      let code = located s line (length a.code) a.next (desig_with x a.lines) in
      record {
        all = adds_as a c _ _ _ _ _ _ (adds_code a b c _ _ _ _ h.all j)
            (ap (λ n. code ++ own line (read_code how n number ∷ [])) is
            ∙ ap (λ n. code ++ own line (read_code how (T.held_at s.program s.tables s.routine a.next (desig_with x a.lines)) n ∷ []))
            is2) refl refl;
      }

  pub write_put : (a b c : Front) (e : Expr) (how : WriteAs) (value : ℕ) → PutsValue s line a b e
      → value ≡ value_slot s a.next (expr_with e a.lines) → Codes b c (own line (write_code how value ∷ []))
      → PutsStmt s line a c (WriteExpr e how)
  unfolding stmts_with stmts_phrases
  write_put a b c e how value h is j =
      let code = unless_bare (bare (expr_with e a.lines))
      (T.expr_code s.program s.tables s.routine line (length a.code) a.next (expr_with e a.lines)) in
      record {
        all = adds_as a c _ _ _ _ _ _ (adds_code a b c _ _ _ _ h.all j) (ap (λ n. code ++ own line (write_code how n ∷ [])) is) refl
            refl;
      }

  pub text_put : (a b : Front) (text : List ℕ) (number : ℕ) → number ≡ text_number s.tables text
      → Codes a b (own line (I.WriteText number ∷ [])) → PutsStmt s line a b (WriteText text)
  unfolding stmts_with stmts_phrases
  text_put a b text number is h = record {
    all =
        adds_as a b _ _ _ _ _ _ (only_code a b _ h) (ap (λ n. own line (I.WriteText n ∷ [])) is) refl refl;
  }

  pub line_put : (a b : Front) → Codes a b (own line (I.WriteLine ∷ [])) → PutsStmt s line a b WriteLine
  unfolding stmts_with stmts_phrases
  line_put a b h = record { all = adds_as a b _ _ _ _ _ _ (only_code a b _ h) refl refl refl }

  -- ---- EITHER

  pub chosen_put : (a b c d : Front) (choice target : ℕ) (body : Stmts) → choice ≡ length a.code → Codes a b (own line (I.Choose 0 ∷ []))
      → PutsStmts s b c body → Changes c d (λ xs. aim_jump xs choice target)
      → target ≡ length c.code + 1 → PutsChosen s line a d body
  chosen_put a b c d choice target body here h j k is =
      record { all = over a b c d line choice target (I.Choose 0) _ _ _ (λ n. n + 1) here refl h j.all k is }

  pub no_either_put : (a b : Front) → Codes a b (own line (I.Fail ∷ [])) → PutsStmt s line a b (Either no_branches)
  unfolding stmts_with stmts_phrases
  no_either_put a b h = record { all = adds_as a b _ _ _ _ _ _ (only_code a b _ h) refl refl refl }

  pub one_either_put : (a b : Front) (body : Stmts) → PutsStmts s a b body → PutsStmt s line a b (Either (more_branches body no_branches))
  unfolding stmts_with stmts_phrases
  one_either_put a b body h = record {
    all =
        adds_as a b _ _ _ _ _ _ h.all refl (sym (append-nil _))
        (sym (behind_two (stmts_phrases body) (branches_phrases no_branches) a.lines));
  }

  pub last_branch_put : (a b : Front) (exit : ℕ) (body : Stmts) → PutsStmts s a b body
      → PutsBranches s line exit a b (more_branches body no_branches)
  unfolding stmts_with stmts_phrases
  last_branch_put a b exit body h = record {
    all =
        adds_as a b _ _ _ _ _ _ h.all refl (sym (append-nil _))
        (sym (behind_two (stmts_phrases body) (branches_phrases no_branches) a.lines));
  }

  pub branches_put : (a b c d : Front) (exit : ℕ) (body body2 : Stmts) (rest : Branches) → PutsChosen s line a b body
      → Codes b c (own line (I.Jump exit ∷ [])) → PutsBranches s line exit c d (more_branches body2 rest)
      → PutsBranches s line exit a d (more_branches body (more_branches body2 rest))
  unfolding stmts_with stmts_phrases
  branches_put a b c d exit body body2 rest h j k =
      record {
        all = adds_as a d _ _ _ _ _ _ (then_adds a c d _ _ _ _ _ _ (adds_code a b c _ _ _ _ h.all j) k.all) refl refl
            (sym (behind_two (stmts_phrases body) (branches_phrases (more_branches body2 rest)) a.lines));
      }

  pub either_put : (a b c d e : Front) (exit target : ℕ) (body body2 : Stmts) (rest : Branches) → PutsChosen s line a b body
      → exit ≡ length b.code → Codes b c (own line (I.Jump 0 ∷ []))
      → PutsBranches s line exit c d (more_branches body2 rest) → Changes d e (λ xs. aim_jump xs exit target) → target ≡ length d.code
      → PutsStmt s line a e (Either (more_branches body (more_branches body2 rest)))
  unfolding stmts_with stmts_phrases
  either_put a b c d e exit target body body2 rest h here j k m is =
      let ls = a.lines in
      let first = branch_code line (length a.code + 1)
      (T.stmts_code s.program s.tables s.routine (length a.code + 1) a.next (stmts_with body ls)) in
      let jump = length a.code + length first in
      let low = a.next + length (stmts_slots s.program s.routine (stmts_with body ls)) in
      let out : exit ≡ jump = here ∙ address_behind a b _ _ _ h.all in
      let code : List LineInstr → List LineInstr = λ c. first ++ (own line (I.Jump (jump + 1 + length c) ∷ []) ++ c) in
      record {
        all = adds_as a e _ _ _ _ _ _ (then_adds a b e _ _ _ _ _ _ h.all
            (over b c d e line exit target (I.Jump 0) _ _ _ (λ n. n) here refl j k.all m is))
            (ap (λ x. code (T.branches_code s.program s.tables s.routine line x (jump + 1) low
            (branches_with (more_branches body2 rest) (behind (stmts_phrases body) ls)))) out)
            refl (sym (behind_two (stmts_phrases body) (branches_phrases (more_branches body2 rest)) ls));
      }

  -- ---- FORALL

  each_put : (a b c d : Front) (mark inner overlay : ℕ) (body : Stmts)
      → Holes a b (λ to xs. aim_jump xs overlay to) (λ none at lo ls. begin_each line mark lo none) (λ ls. slot.Mark ∷ []) (λ ls. ls)
      → inner ≡ a.next → PutsStmts s b c body → EndsEach c d line mark inner overlay
      → Adds a d (λ at lo ls. each_body line (at + 2) mark lo
      (T.stmts_code s.program s.tables s.routine (at + 2) (lo + 1) (stmts_with body ls)))
      (λ ls. slot.Mark ∷ stmts_slots s.program s.routine (stmts_with body ls)) (behind (stmts_phrases body))
  each_put a b c d mark inner overlay body h is j k =
      let ends = own line (I.Cut inner ∷ I.Keep mark ∷ []) in
      let e : Front = record { code = c.code ++ ends; next = c.next; kinds = c.kinds; lines = c.lines; all_lines = c.all_lines } in
      let f : Front = record {
        code = aim_jump (c.code ++ ends) overlay (length c.code + 2);
        next = c.next;
        kinds = c.kinds;
        lines = c.lines;
        all_lines = c.all_lines;
      } in
      let put : Codes c e ends = record { instrs = refl; taken = refl; next_slot = refl; left = refl; whole = refl } in
      let aim : Changes e f (λ xs. aim_jump xs overlay (length c.code + 2)) =
      record { instrs = refl; taken = refl; next_slot = refl; left = refl; whole = refl } in
      let fail : Codes f d (own line (I.Fail ∷ [])) =
      record { instrs = k.instrs; taken = k.taken; next_slot = k.next_slot; left = k.left; whole = k.whole } in
      let far : length c.code + 2 ≡ length (c.code ++ ends) = omega (arith, length-append c.code ends) in
      let x = T.stmts_code s.program s.tables s.routine (length a.code + 2) (a.next + 1) (stmts_with body a.lines) in
      let long : length a.code + 2 + length (x ++ ends) ≡ length a.code + 2 + length x + 2 = omega (arith, length-append x ends) in
      adds_as a d _ _ _ _ _ _ (adds_code a f d _ _ _ _
      (filled a b e f _ _ _ _ _ _ _ (length c.code + 2) (λ n. n) h (adds_code b c e _ _ _ _ j.all put) aim far) fail)
      (ap (λ n. (begin_each line mark a.next n ++ (x ++ ends)) ++ own line (I.Fail ∷ [])) long
      ∙ append_assoc (begin_each line mark a.next (length a.code + 2 + length x + 2)) (x ++ ends) (own line (I.Fail ∷ []))
      ∙ ap (λ l. begin_each line mark a.next (length a.code + 2 + length x + 2) ++ l) (append_assoc x ends (own line (I.Fail ∷ [])))
      ∙ ap (λ n. begin_each line mark a.next (length a.code + 2 + length x + 2) ++ (x ++ end_each line mark n)) is)
      refl refl

  pub forall_put : (a b c d e f g : Front) (mark forall inner overlay : ℕ) (x y : Stmts)
      → Holes a b (λ to xs. aim_jump xs forall to) (λ none at lo ls. begin_forall line lo none) (λ ls. slot.Mark ∷ []) (λ ls. ls)
      → mark ≡ a.next → PutsStmts s b c x → Holes c d (λ to xs. aim_jump xs overlay to) (λ none at lo ls. begin_each line mark lo none)
      (λ ls. slot.Mark ∷ []) (λ ls. ls) → inner ≡ c.next
      → PutsStmts s d e y → EndsEach e f line mark inner overlay → EndsForall f g line forall → PutsStmt s line a g (Forall x y)
  unfolding stmts_with stmts_phrases
  forall_put a b c d e f g mark forall inner overlay x y h is j h2 is2 k l m =
      let ls = a.lines in
      let u = stmts_with x ls in
      let v = stmts_with y (behind (stmts_phrases x) ls) in
      let z : Front = record {
        code = aim_jump f.code forall (length f.code);
        next = f.next;
        kinds = f.kinds;
        lines = f.lines;
        all_lines =
            f.all_lines;
      } in
      let aim : Changes f z (λ xs. aim_jump xs forall (length f.code)) =
      record { instrs = refl; taken = refl; next_slot = refl; left = refl; whole = refl } in
      let finish : Codes z g (own line (I.Finish ∷ [])) =
      record { instrs = m.instrs; taken = m.taken; next_slot = m.next_slot; left = m.left; whole = m.whole } in
      let each = each_put c d e f mark inner overlay y h2 is2 k l in
      let all = adds_code a z g _ _ _ _ (filled a b f z _ _ _ _ _ _ _ (length f.code) (λ n. n) h (then_adds b c f _ _ _ _ _ _ j.all each)
      aim refl) finish in
      let at = length a.code + 1 in
      let first = T.stmts_code s.program s.tables s.routine at (a.next + 1) u in
      let low = a.next + 1 + length (stmts_slots s.program s.routine u) in
      let parts : ℕ → List LineInstr = λ mark. in_row at first
      (λ next. each_body line (next + 2) mark low (T.stmts_code s.program s.tables s.routine (next + 2) (low + 1) v)) in
      record {
        all = adds_as a g _ _ _ _ _ _ all
            (ap (λ n. (begin_forall line a.next (at + length (parts n)) ++ parts n) ++ own line (I.Finish ∷ [])) is
            ∙ append_assoc (begin_forall line a.next (at + length (parts a.next))) (parts a.next) (own line (I.Finish ∷ [])))
            refl (sym (behind_two (stmts_phrases x) (stmts_phrases y) ls));
      }
