-- What an instruction keeps of its rules where its slots are renamed, form by form.
use Rattle.std.proofs.Common.{◌≡◌, ℕ, suc, ◌+◌, ◌<◌, List, [], ◌∷◌, length, refl, sym, ap, ◌∙◌, subst, arith, Option, None}
use Rattle.std.specs.Prelude.{Bool, true, false, not, ◌&&◌, ◌||◌, nat_lt, nat_le, nat_eq, slice_get}
use Rattle.std.specs.List.{list_all}
use Rattle.std.proofs.lemmas.Bool.{and_parts, and_from, ltb-true, leb-true, eqb-true, eq-eqb}
use Rattle.std.proofs.lemmas.Option.{slice_get_within}
use Rattle.alma_code.specs.declared.cell.SlotKind.{SlotKind}
use Rattle.alma_code.specs.declared.head.CodeParam.{CodeParam}
use Rattle.alma_code.specs.declared.head.ParamKind.{ParamKind}
use Rattle.alma_code.specs.declared.head.ParamKind.TheVariants as param
use Rattle.alma_code.specs.declared.instr.Instr.{Instr}
use Rattle.alma_code.specs.declared.instr.Instr.TheVariants as I
use Rattle.alma_code.specs.declared.instr.Word.{Word}
use Rattle.alma_code.specs.declared.instr.Word.TheVariants as W
use Rattle.alma_code.specs.Kinds.{is_number, is_place_of, is_link_of, numbers_from}
use Rattle.alma_code.specs.Plain.{PlainCode, head_at, end_at, kinds_at}
use Rattle.alma_code.specs.Rules.{IsSound, kind_in, length_in, link_in, is_free, cells_in, has_room, fits_argument, fit_arguments}
use Rattle.alma_code.specs.Rules.{holds_first}
use Rattle.alma_code.specs.Rules.{holds_result, can_call, names_slot, rule_5, rule_6, rule_7, rule_10, rule_12}
use Rattle.alma_code.specs.Words.{words}
use Rattle.alma_code_laws.proofs.Acts.{Obeys, slots}
use Rattle.alma_lower_slots.specs.Sharing.{Sharing, Shares, SharesIn, SharesAt, Renames, names_own, begins_own}
use Rattle.alma_lower_slots.specs.Slots.{rename_slots}
use Rattle.alma_lower_slots.proofs.Kept.{slots_full, kind_kept, length_kept, link_kept, free_kept, some_kind, own_kept, numbers_kept}
use Rattle.alma_lower_slots.proofs.Kept.{cells_kept}
use Rattle.alma_lower_slots.proofs.Kept.{routine_kept, end_kept, result_kept}

-- a word that names a slot of any kind names one of so many own ones
abbrev pub is_own : (own : ℕ) → Word → Bool
is_own own (W.Slot n) = nat_lt n own
is_own own (W.Number n) = true
is_own own (W.Place n) = true
is_own own (W.Mark n) = true
is_own own (W.Link n) = true
is_own own (W.Range n) = true
is_own own (W.Text n) = true
is_own own (W.Address n) = true
is_own own W.Free = true

module _ (code new : PlainCode) (s : Sharing) (sound : IsSound code) (shares : Shares code s) (renames : Renames code s new) (r : ℕ)
    (lt : r < length code.routines) where
  -- the rules of forms that the renamed instruction keeps, and the slots of any kind that the instruction names are own ones
  pub record KeepsRules (at : ℕ) (i : Instr) : Type 0 where
    pub r5 : rule_5 new r (rename_slots (s.slot r) i) ≡ true
    pub r6 : rule_6 new r (rename_slots (s.slot r) i) ≡ true
    pub r7 : rule_7 new r (rename_slots (s.slot r) i) ≡ true
    pub r10 : rule_10 new r at (rename_slots (s.slot r) i) ≡ true
    pub r12 : rule_12 new r (rename_slots (s.slot r) i) ≡ true
    pub own : list_all (is_own (s.own r)) (words i) ≡ true

  -- what is asked of the routine
  mine : SharesIn code s r
  mine = shares.routines r lt

  -- slot 0 keeps its number
  zero_kept : s.slot r 0 ≡ 0
  zero_kept = mine.same 0 (omega (arith, mine.some))

  -- ---- words

  -- a slot that a word names is there
  pub word_there : (n : ℕ) (t : Bool) → ((nat_lt n (head_at code r).slots && is_free code r n) && t) ≡ true → n < length (kinds_at code r)
  word_there n t e =
      let x = and_parts (nat_lt n (head_at code r).slots && is_free code r n) t e in
      let y = and_parts (nat_lt n (head_at code r).slots) (is_free code r n) x.0 in
      omega (arith, ltb-true n (head_at code r).slots y.0, slots_full code new s sound shares renames r lt)

  -- the slot of a place word is there
  place_there : (n : ℕ) → names_slot code r (W.Place n) ≡ true → n < length (kinds_at code r)
  place_there n e = word_there n _ e

  -- the slot of a link word is there
  link_there : (n : ℕ) → names_slot code r (W.Link n) ≡ true → n < length (kinds_at code r)
  link_there n e = word_there n _ e

  -- ---- lengths and links

  -- a test of the length of a place slot
  one_length : (f : ℕ → Bool) (a : ℕ) → names_slot code r (W.Place a) ≡ true → f (length_in code r a) ≡ true
      → f (length_in new r (s.slot r a)) ≡ true
  one_length f a wa e = ap f (length_kept code new s sound shares renames r a lt (place_there a wa)) ∙ e

  -- a test of two of them
  two_lengths : (f : ℕ → ℕ → Bool) (a b : ℕ) → names_slot code r (W.Place a) ≡ true → names_slot code r (W.Place b) ≡ true
      → f (length_in code r a) (length_in code r b) ≡ true → f (length_in new r (s.slot r a)) (length_in new r (s.slot r b)) ≡ true
  two_lengths f a b wa wb e =
      ap (λ n. f n (length_in new r (s.slot r b))) (length_kept code new s sound shares renames r a lt (place_there a wa))
      ∙ one_length (f (length_in code r a)) b wb e

  -- a link slot leads to frames of the routine that it led to
  link_same : (a : ℕ) → names_slot code r (W.Link a) ≡ true → link_in new r (s.slot r a) ≡ link_in code r a
  link_same a wa = link_kept code new s sound shares renames r a lt (link_there a wa)

  -- ---- arguments

  -- a slot that passes a test which no slot fails to be there for
  test_kept : (P : Option SlotKind → Bool) (n : ℕ) → P None ≡ false → P (kind_in code r n) ≡ true → (n < length (kinds_at code r))
      × (P (kind_in new r (s.slot r n)) ≡ true)
  test_kept P n none e =
      let found = some_kind code new s sound shares renames P (kind_in code r n) none e in
      let within : n < length (kinds_at code r) = slice_get_within (kinds_at code r) n found.0 found.1 in
      (within, ap P (kind_kept code new s sound shares renames r n lt within) ∙ e)

  -- an argument that fits a parameter
  fits_kept : (k : ParamKind) (cells n : ℕ) → fits_argument code r k cells n ≡ true → (n < length (kinds_at code r))
      × (fits_argument new r k cells (s.slot r n) ≡ true)
  fits_kept param.Value cells n e = test_kept is_number n refl e
  fits_kept param.Place cells n e = test_kept (is_place_of cells) n refl e
  fits_kept param.Mix cells n e = test_kept (λ o. is_number o || is_place_of 1 o) n refl e
  fits_kept param.Cells cells n e = test_kept (is_place_of cells) n refl e
  fits_kept param.Link cells n e = test_kept (is_link_of cells) n refl e

  -- the arguments of a call, which stay together
  arguments_kept : (ps : List CodeParam) (i j : ℕ) → fit_arguments code r ps i ≡ true
      → ((k : ℕ) → k < length ps → s.slot r (i + k) ≡ j + k) → fit_arguments new r ps j ≡ true
  arguments_kept [] i j e together = refl
  arguments_kept (p ∷ ps) i j e together =
      let x = and_parts (is_free code r i && fits_argument code r p.kind p.cells i) (fit_arguments code r ps (suc i)) e in
      let y = and_parts (is_free code r i) (fits_argument code r p.kind p.cells i) x.0 in
      let one = fits_kept p.kind p.cells i y.1 in
      let here : i ≡ i + 0 = omega arith in
      let there : j + 0 ≡ j = omega arith in
      let first : s.slot r i ≡ j = ap (s.slot r) here ∙ together 0 (omega arith) ∙ there in
      and_from (is_free new r j && fits_argument new r p.kind p.cells j) (fit_arguments new r ps (suc j))
      (subst (λ n. (is_free new r n && fits_argument new r p.kind p.cells n) ≡ true) first
      (and_from (is_free new r (s.slot r i)) (fits_argument new r p.kind p.cells (s.slot r i))
      (free_kept code new s sound shares renames r i lt one.0 y.0) one.1))
      (arguments_kept ps (suc i) (suc j) x.1 (λ k small.
      let left : suc i + k ≡ i + suc k = omega arith in
      let right : j + suc k ≡ suc j + k = omega arith in
      ap (s.slot r) left ∙ together (suc k) (omega (arith, small)) ∙ right))

  -- the first of them, which is 0 where there is none
  first_kept : (ps : List CodeParam) (n : ℕ) → holds_first ps n ≡ true → holds_first ps (s.slot r n) ≡ true
  first_kept [] n e = eq-eqb (s.slot r n) 0 (ap (s.slot r) (eqb-true n 0 e) ∙ zero_kept)
  first_kept (p ∷ ps) n e = refl

  -- the slot of a result, which is 0 where there is none
  to_kept : (has : Bool) (n : ℕ) → holds_result code r has n ≡ true → holds_result new r has (s.slot r n) ≡ true
  to_kept true n e =
      let x = and_parts (is_free code r n) (is_number (kind_in code r n)) e in
      let one = test_kept is_number n refl x.1 in
      and_from (is_free new r (s.slot r n)) (is_number (kind_in new r (s.slot r n)))
      (free_kept code new s sound shares renames r n lt one.0 x.0) one.1
  to_kept false n e = eq-eqb (s.slot r n) 0 (ap (s.slot r) (eqb-true n 0 e) ∙ zero_kept)

  -- a call keeps the rule of calls
  call_kept : (at c first to : ℕ) → rule_10 code r at (I.Call c first to) ≡ true
      → ((k : ℕ) → k < length (head_at code c).params → s.slot r (first + k) ≡ s.slot r first + k)
      → rule_10 new r at (I.Call c (s.slot r first) (s.slot r to)) ≡ true
  unfolding rule_10
  call_kept at c first to e together =
      let h = head_at code c in
      let x = and_parts (nat_lt 0 c && nat_lt c (length code.routines)) (can_call code r at h first to) e in
      let y = and_parts (nat_lt 0 c) (nat_lt c (length code.routines)) x.0 in
      let z = and_parts (fit_arguments code r h.params first && holds_first h.params first)
      (holds_result code r h.has_result to && nat_lt (suc at) (end_at code r)) x.1 in
      let before = and_parts (fit_arguments code r h.params first) (holds_first h.params first) z.0 in
      let behind = and_parts (holds_result code r h.has_result to) (nat_lt (suc at) (end_at code r)) z.1 in
      let called : c < length code.routines = ltb-true c (length code.routines) y.1 in
      let kept = routine_kept code new s sound shares renames c called in
      and_from _ _ (and_from (nat_lt 0 c) (nat_lt c (length new.routines)) y.0 (ap (nat_lt c) renames.count ∙ y.1))
      (and_from _ _
      (subst (λ ps. (fit_arguments new r ps (s.slot r first) && holds_first ps (s.slot r first)) ≡ true) (sym kept.params)
      (and_from (fit_arguments new r h.params (s.slot r first)) (holds_first h.params (s.slot r first))
      (arguments_kept h.params first (s.slot r first) before.0 together) (first_kept h.params first before.1)))
      (subst (λ has. (holds_result new r has (s.slot r to) && nat_lt (suc at) (end_at new r)) ≡ true) (sym kept.has_result)
      (and_from (holds_result new r h.has_result (s.slot r to)) (nat_lt (suc at) (end_at new r)) (to_kept h.has_result to behind.0)
      (ap (nat_lt (suc at)) (end_kept code new s sound shares renames r lt) ∙ behind.1))))

  -- ---- places and links in other frames

  -- the cells of a place in the frame, or in frame 0
  local_kept : (a b q : ℕ) → names_slot code r (W.Place a) ≡ true → cells_in code q b (length_in code r a) ≡ true
      → nat_le (b + length_in code r a) (s.own q) ≡ true → cells_in new q b (length_in new r (s.slot r a)) ≡ true
  local_kept a b q wa e own =
      one_length (cells_in new q b) a wa
      (cells_kept code new s sound shares renames q b (length_in code r a) (leb-true (b + length_in code r a) (s.own q) own) e)

  -- the cells of a place in the frame to which a link leads
  outer_kept : (a b c : ℕ) → names_slot code r (W.Place a) ≡ true → names_slot code r (W.Link b) ≡ true
      → numbers_from (length_in code r a) (kinds_at code (link_in code r b)) c ≡ true
      → nat_le (c + length_in code r a) (s.own (link_in code r b)) ≡ true
      → numbers_from (length_in new r (s.slot r a)) (kinds_at new (link_in new r (s.slot r b))) c ≡ true
  outer_kept a b c wa wb e own =
      one_length (λ n. numbers_from n (kinds_at new (link_in new r (s.slot r b))) c) a wa
      (subst (λ q. numbers_from (length_in code r a) (kinds_at new q) c ≡ true) (sym (link_same b wb))
      (numbers_kept code new s sound shares renames (length_in code r a) (link_in code r b) c
      (leb-true (c + length_in code r a) (s.own (link_in code r b)) own) e))

  -- a place that the frame holds to which a link leads
  held_kept : (a b c : ℕ) → names_slot code r (W.Place a) ≡ true → names_slot code r (W.Link b) ≡ true
      → is_place_of (length_in code r a) (kind_in code (link_in code r b) c) ≡ true → nat_le (suc c) (s.own (link_in code r b)) ≡ true
      → is_place_of (length_in new r (s.slot r a)) (kind_in new (link_in new r (s.slot r b)) c) ≡ true
  held_kept a b c wa wb e own =
      one_length (λ n. is_place_of n (kind_in new (link_in new r (s.slot r b)) c)) a wa
      (subst (λ q. is_place_of (length_in code r a) (kind_in new q c) ≡ true) (sym (link_same b wb))
      (own_kept code new s sound shares renames (is_place_of (length_in code r a)) (link_in code r b) c refl
      (leb-true (suc c) (s.own (link_in code r b)) own) e))

  -- a link that the frame holds to which a link leads
  chain_kept : (a b c : ℕ) → names_slot code r (W.Link a) ≡ true → names_slot code r (W.Link b) ≡ true
      → is_link_of (link_in code r a) (kind_in code (link_in code r b) c) ≡ true → nat_le (suc c) (s.own (link_in code r b)) ≡ true
      → is_link_of (link_in new r (s.slot r a)) (kind_in new (link_in new r (s.slot r b)) c) ≡ true
  chain_kept a b c wa wb e own =
      ap (λ n. is_link_of n (kind_in new (link_in new r (s.slot r b)) c)) (link_same a wa)
      ∙ (subst (λ q. is_link_of (link_in code r a) (kind_in new q c) ≡ true) (sym (link_same b wb))
      (own_kept code new s sound shares renames (is_link_of (link_in code r a)) (link_in code r b) c refl
      (leb-true (suc c) (s.own (link_in code r b)) own) e))

  -- ---- all forms

  -- each form keeps them
  pub keeps_rules : (at : ℕ) (i : Instr) → Obeys code r at i → SharesAt code s r at i → KeepsRules at i
  unfolding rule_5 rule_6 rule_7 rule_10 rule_12 words rename_slots names_own begins_own
  keeps_rules at (I.Const a v) o h = record { r5 = refl; r6 = refl; r7 = refl; r10 = refl; r12 = refl; own = refl }
  keeps_rules at (I.Move a b) o h = record { r5 = refl; r6 = refl; r7 = refl; r10 = refl; r12 = refl; own = refl }
  keeps_rules at (I.Add a b c) o h = record { r5 = refl; r6 = refl; r7 = refl; r10 = refl; r12 = refl; own = refl }
  keeps_rules at (I.Sub a b c) o h = record { r5 = refl; r6 = refl; r7 = refl; r10 = refl; r12 = refl; own = refl }
  keeps_rules at (I.Mul a b c) o h = record { r5 = refl; r6 = refl; r7 = refl; r10 = refl; r12 = refl; own = refl }
  keeps_rules at (I.Div a b c) o h = record { r5 = refl; r6 = refl; r7 = refl; r10 = refl; r12 = refl; own = refl }
  keeps_rules at (I.Mod a b c) o h = record { r5 = refl; r6 = refl; r7 = refl; r10 = refl; r12 = refl; own = refl }
  keeps_rules at (I.Neg a b) o h = record { r5 = refl; r6 = refl; r7 = refl; r10 = refl; r12 = refl; own = refl }
  keeps_rules at (I.Equal a b c) o h = record { r5 = refl; r6 = refl; r7 = refl; r10 = refl; r12 = refl; own = refl }
  keeps_rules at (I.Less a b c) o h = record { r5 = refl; r6 = refl; r7 = refl; r10 = refl; r12 = refl; own = refl }
  keeps_rules at (I.LessEq a b c) o h = record { r5 = refl; r6 = refl; r7 = refl; r10 = refl; r12 = refl; own = refl }
  keeps_rules at (I.Flip a b) o h = record { r5 = refl; r6 = refl; r7 = refl; r10 = refl; r12 = refl; own = refl }
  keeps_rules at (I.InRange a t) o h = record { r5 = refl; r6 = refl; r7 = refl; r10 = refl; r12 = refl; own = refl }
  keeps_rules at (I.Local a b) o h =
      let w = slots code r at (I.Local a b) (W.Place a) (W.Slot b) W.Free W.Free refl o in
      record {
        r5 = local_kept a b r w.0 o.r5 h.places;
        r6 = refl;
        r7 = refl;
        r10 = refl;
        r12 = refl;
        own = and_from (nat_lt b (s.own r)) true h.begins refl;
      }
  keeps_rules at (I.Global a b) o h =
      let w = slots code r at (I.Global a b) (W.Place a) W.Free W.Free W.Free refl o in
      record { r5 = local_kept a b 0 w.0 o.r5 h.places; r6 = refl; r7 = refl; r10 = refl; r12 = refl; own = refl }
  keeps_rules at (I.Same a b) o h =
      let w = slots code r at (I.Same a b) (W.Place a) (W.Place b) W.Free W.Free refl o in
      record { r5 = two_lengths nat_eq a b w.0 w.1 o.r5; r6 = refl; r7 = refl; r10 = refl; r12 = refl; own = refl }
  keeps_rules at (I.Field a b c) o h =
      let w = slots code r at (I.Field a b c) (W.Place a) (W.Place b) W.Free W.Free refl o in
      record { r5 = two_lengths (λ x y. nat_le (c + x) y) a b w.0 w.1 o.r5; r6 = refl; r7 = refl; r10 = refl; r12 = refl; own = refl }
  keeps_rules at (I.Index a b c d) o h =
      let w = slots code r at (I.Index a b c d) (W.Place a) (W.Place b) (W.Number c) (W.Range d) refl o in
      record {
        r5 = refl;
        r6 = ap (λ ts. has_room (slice_get ts d) (length_in new r (s.slot r a)) (length_in new r (s.slot r b))) renames.ranges
            ∙ two_lengths (has_room (slice_get code.ranges d)) a b w.0 w.1 o.r6;
        r7 = refl;
        r10 = refl;
        r12 = refl;
        own = refl;
      }
  keeps_rules at (I.Load a b) o h =
      let w = slots code r at (I.Load a b) (W.Number a) (W.Place b) W.Free W.Free refl o in
      record { r5 = refl; r6 = refl; r7 = one_length (λ n. nat_eq n 1) b w.1 o.r7; r10 = refl; r12 = refl; own = refl }
  keeps_rules at (I.Store a b) o h =
      let w = slots code r at (I.Store a b) (W.Place a) (W.Number b) W.Free W.Free refl o in
      record { r5 = refl; r6 = refl; r7 = one_length (λ n. nat_eq n 1) a w.0 o.r7; r10 = refl; r12 = refl; own = refl }
  keeps_rules at (I.Known a b) o h =
      let w = slots code r at (I.Known a b) (W.Number a) (W.Place b) W.Free W.Free refl o in
      record { r5 = refl; r6 = refl; r7 = one_length (λ n. nat_eq n 1) b w.1 o.r7; r10 = refl; r12 = refl; own = refl }
  keeps_rules at (I.Bind a b c) o h =
      let w = slots code r at (I.Bind a b c) (W.Place a) (W.Number b) (W.Range c) W.Free refl o in
      record { r5 = refl; r6 = refl; r7 = one_length (λ n. nat_eq n 1) a w.0 o.r7; r10 = refl; r12 = refl; own = refl }
  keeps_rules at (I.Unify a b c d) o h =
      let w = slots code r at (I.Unify a b c d) (W.Place a) (W.Range b) (W.Place c) (W.Range d) refl o in
      record {
        r5 = refl;
        r6 = refl;
        r7 = two_lengths (λ x y. nat_eq x 1 && nat_eq y 1) a c w.0 w.2 o.r7;
        r10 = refl;
        r12 = refl;
        own = refl;
      }
  keeps_rules at (I.CopyCells a b) o h =
      let w = slots code r at (I.CopyCells a b) (W.Place a) (W.Place b) W.Free W.Free refl o in
      record { r5 = refl; r6 = refl; r7 = two_lengths nat_eq a b w.0 w.1 o.r7; r10 = refl; r12 = refl; own = refl }
  keeps_rules at (I.SameCells a b) o h =
      let w = slots code r at (I.SameCells a b) (W.Place a) (W.Place b) W.Free W.Free refl o in
      record { r5 = refl; r6 = refl; r7 = two_lengths nat_eq a b w.0 w.1 o.r7; r10 = refl; r12 = refl; own = refl }
  keeps_rules at (I.Jump a) o h = record { r5 = refl; r6 = refl; r7 = refl; r10 = refl; r12 = refl; own = refl }
  keeps_rules at (I.JumpZero a b) o h = record { r5 = refl; r6 = refl; r7 = refl; r10 = refl; r12 = refl; own = refl }
  keeps_rules at (I.Check a) o h = record { r5 = refl; r6 = refl; r7 = refl; r10 = refl; r12 = refl; own = refl }
  keeps_rules at I.Fail o h = record { r5 = refl; r6 = refl; r7 = refl; r10 = refl; r12 = refl; own = refl }
  keeps_rules at (I.Mark a) o h = record { r5 = refl; r6 = refl; r7 = refl; r10 = refl; r12 = refl; own = refl }
  keeps_rules at (I.Cut a) o h = record { r5 = refl; r6 = refl; r7 = refl; r10 = refl; r12 = refl; own = refl }
  keeps_rules at (I.Choose a) o h = record { r5 = refl; r6 = refl; r7 = refl; r10 = refl; r12 = refl; own = refl }
  keeps_rules at (I.Forall a b) o h = record { r5 = refl; r6 = refl; r7 = refl; r10 = refl; r12 = refl; own = refl }
  keeps_rules at (I.Overlay a b) o h = record { r5 = refl; r6 = refl; r7 = refl; r10 = refl; r12 = refl; own = refl }
  keeps_rules at (I.Keep a) o h = record { r5 = refl; r6 = refl; r7 = refl; r10 = refl; r12 = refl; own = refl }
  keeps_rules at I.Finish o h = record { r5 = refl; r6 = refl; r7 = refl; r10 = refl; r12 = refl; own = refl }
  keeps_rules at (I.Call a b c) o h = record {
    r5 = refl;
    r6 = refl;
    r7 = refl;
    r10 = call_kept at a b c o.r10 h.together;
    r12 = refl;
    own = refl;
  }
  keeps_rules at I.Return o h = record {
    r5 = refl;
    r6 = refl;
    r7 = refl;
    r10 = refl;
    r12 = ap not (result_kept code new s sound shares renames r lt) ∙ o.r12;
    own = refl;
  }
  keeps_rules at (I.ReturnValue a) o h = record {
    r5 = refl;
    r6 = refl;
    r7 = refl;
    r10 = refl;
    r12 = result_kept code new s sound shares renames r lt ∙ o.r12;
    own = refl;
  }
  keeps_rules at (I.ReadInt a t) o h =
      let w = slots code r at (I.ReadInt a t) (W.Place a) (W.Range t) W.Free W.Free refl o in
      record { r5 = refl; r6 = refl; r7 = one_length (λ n. nat_eq n 1) a w.0 o.r7; r10 = refl; r12 = refl; own = refl }
  keeps_rules at (I.ReadChar a t) o h =
      let w = slots code r at (I.ReadChar a t) (W.Place a) (W.Range t) W.Free W.Free refl o in
      record { r5 = refl; r6 = refl; r7 = one_length (λ n. nat_eq n 1) a w.0 o.r7; r10 = refl; r12 = refl; own = refl }
  keeps_rules at (I.WriteInt a) o h = record { r5 = refl; r6 = refl; r7 = refl; r10 = refl; r12 = refl; own = refl }
  keeps_rules at (I.WriteChar a) o h = record { r5 = refl; r6 = refl; r7 = refl; r10 = refl; r12 = refl; own = refl }
  keeps_rules at (I.WriteBool a) o h = record { r5 = refl; r6 = refl; r7 = refl; r10 = refl; r12 = refl; own = refl }
  keeps_rules at (I.WriteText t) o h = record { r5 = refl; r6 = refl; r7 = refl; r10 = refl; r12 = refl; own = refl }
  keeps_rules at I.WriteLine o h = record { r5 = refl; r6 = refl; r7 = refl; r10 = refl; r12 = refl; own = refl }
  keeps_rules at (I.Fault n) o h = record { r5 = refl; r6 = refl; r7 = refl; r10 = refl; r12 = o.r12; own = refl }
  keeps_rules at (I.Step a b c d) o h = record { r5 = refl; r6 = refl; r7 = refl; r10 = refl; r12 = refl; own = refl }
  keeps_rules at (I.Own a) o h =
      let w = slots code r at (I.Own a) (W.Link a) W.Free W.Free W.Free refl o in
      record {
        r5 = ap (is_link_of r) (kind_kept code new s sound shares renames r a lt (link_there a w.0)) ∙ o.r5;
        r6 = refl;
        r7 = refl;
        r10 = refl;
        r12 = refl;
        own = refl;
      }
  keeps_rules at (I.Chain a b c) o h =
      let w = slots code r at (I.Chain a b c) (W.Link a) (W.Link b) W.Free W.Free refl o in
      record { r5 = chain_kept a b c w.0 w.1 o.r5 h.places; r6 = refl; r7 = refl; r10 = refl; r12 = refl; own = refl }
  keeps_rules at (I.Outer a b c) o h =
      let w = slots code r at (I.Outer a b c) (W.Place a) (W.Link b) W.Free W.Free refl o in
      record { r5 = outer_kept a b c w.0 w.1 o.r5 h.places; r6 = refl; r7 = refl; r10 = refl; r12 = refl; own = refl }
  keeps_rules at (I.OuterSame a b c) o h =
      let w = slots code r at (I.OuterSame a b c) (W.Place a) (W.Link b) W.Free W.Free refl o in
      record { r5 = held_kept a b c w.0 w.1 o.r5 h.places; r6 = refl; r7 = refl; r10 = refl; r12 = refl; own = refl }
