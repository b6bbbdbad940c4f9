-- What a sound code gives to each instruction.
use Rattle.std.proofs.Common.{inl, inr, ◌≡◌, ℕ, zero, suc, ◌+◌, ◌-◌, ◌<◌, ◌≤◌, List, [], ◌∷◌, length, get_or, refl, sym, ap, ◌∙◌, subst}
use Rattle.std.proofs.Common.{arith, Some}
use Rattle.std.specs.Prelude.{slice_get, None, true, false, not, ◌&&◌, nat_eq, nat_le, nat_lt}
use Rattle.std.specs.List.{list_all}
use Rattle.std.proofs.lemmas.Bool.{and_parts, and_from, or_cases, not-true, eqb-true, leb-true, ltb-true, false≢true, cases_eq}
use Rattle.std.proofs.lemmas.Option.{slice_get_within, get_or_from_slice_get}
use Rattle.std.proofs.Math.ListN.{get_or-map}
use Rattle.alma_code.specs.declared.cell.Cell.{Cell}
use Rattle.alma_code.specs.declared.cell.Cell.TheVariants as cell
use Rattle.alma_code.specs.declared.cell.CellPlace.{CellPlace}
use Rattle.alma_code.specs.declared.cell.SlotKind.{SlotKind}
use Rattle.alma_code.specs.declared.cell.SlotKind.TheVariants as slot
use Rattle.alma_code.specs.declared.head.CodeParam.{CodeParam}
use Rattle.alma_code.specs.declared.head.ParamKind.{ParamKind}
use Rattle.alma_code.specs.declared.head.ParamKind.TheVariants as param
use Rattle.alma_code.specs.declared.instr.Instr.{Instr}
use Rattle.alma_code.specs.declared.instr.Instr.TheVariants as I
use Rattle.alma_code.specs.declared.instr.Word.TheVariants as W
use Rattle.alma_code.specs.Fits.{Fits, FitsMode, routines_of, IsContent, IsCell, IsPlace, IsLink, FitsSlot}
use Rattle.alma_code.specs.Kinds.{is_number, is_place_of, is_link_of}
use Rattle.alma_code.specs.Layout.{IsHead, RunsRise, no_param, hold_params}
use Rattle.alma_code.specs.Machine.{Going, State, top, numbers_at, state_after_leave}
use Rattle.alma_code.specs.Carries.{number_at}
use Rattle.alma_code.specs.Picture.{PlainFrame, no_frame, last_frame}
use Rattle.alma_code.specs.Plain.{PlainCode, head_at, kinds_at, start_at, end_at}
use Rattle.alma_code.specs.Rules.{IsSound, is_main, is_global, last_end, names_routine, kind_in, length_in, link_in, names_slot}
use Rattle.alma_code.specs.Rules.{fit_arguments, fits_argument, is_free, has_position, has_room, can_call, holds_first, holds_result}
use Rattle.alma_code.specs.Rules.{rule_5, rule_6, rule_7, rule_10, rule_12}
use Rattle.alma_code_laws.proofs.Acts.{obeys}
use Rattle.alma_code_laws.proofs.Runs.{first_number}
use Rattle.alma_code.proofs.Tables.{end_inside}
use Rattle.alma_code.specs.Rules.{instr_fault}
use Rattle.alma_code.specs.Words.{words, four}
use Rattle.alma_code.specs.declared.instr.Word.{Word}
use Rattle.alma_code_laws.proofs.Ready.{Ready, has_slot, number_at_is}
use Rattle.alma_code_laws.proofs.Acts.{left_ready, call_rule, holds_of_call, Obeys, slots, entries, frame_live}
use Rattle.alma_code_laws.proofs.Links.{link_word}
use Rattle.alma_code.proofs.Heads.{number_is, link_of_is, place_of_is}
use Rattle.alma_machine_acts.specs.Calls.{IsArgumentPlace, HoldsArgument, HasArgument, HasArguments, CallsBack}
use Rattle.alma_machine.specs.Needs.{Needs, Computes}
use Rattle.alma_machine_acts.specs.Rows.{HasNumber, HasPlace, HasMark, width, HoldsPlace, LeadsTo}
use Rattle.alma_machine.proofs.Counting.{few_kinds}
use Rattle.alma_machine.proofs.Fitting.{number_has, below_of, cell_of, has_number, width_in, has_cells, has_one_cell, has_place, has_mark}
use Rattle.alma_machine.proofs.Fitting.{holds_link, has_link, has_link_to, position_there}

-- a content is the argument of a parameter for numbers
value_holds : (now : List PlainFrame) (n : ℕ) (c : Cell) → IsContent c → HoldsArgument now param.Value n c
value_holds now n (cell.Int v) h = tt
value_holds now n cell.Unknown h = tt
value_holds now n cell.Unset h = absurd h
value_holds now n (cell.Place p) h = absurd h
value_holds now n (cell.Mark m) h = absurd h

mix_holds : (now : List PlainFrame) (n : ℕ) (c : Cell) → IsContent c → HoldsArgument now param.Mix n c
mix_holds now n (cell.Int v) h = tt
mix_holds now n cell.Unknown h = tt
mix_holds now n cell.Unset h = absurd h
mix_holds now n (cell.Place p) h = absurd h
mix_holds now n (cell.Mark m) h = absurd h

-- a routine of a sound code has a head
pub head_is : (code : PlainCode) → IsSound code → (c : ℕ) → c < length code.routines → IsHead (head_at code c)
head_is code sound c lt =
    let hd = head_at code c in
    let rules = sound.heads c lt in
    let named = list_all (λ run. names_routine code run.kind) hd.runs in
    let two = and_parts (nat_eq (last_end 0 hd.runs) hd.slots && (nat_le hd.slots 8388608 && named))
    (nat_le hd.declared hd.slots && nat_le hd.declared 1048576) rules.1 in
    let last = eqb-true (last_end 0 hd.runs) hd.slots
    (and_parts (nat_eq (last_end 0 hd.runs) hd.slots) (nat_le hd.slots 8388608 && named) two.0).0 in
    record {
      rise = subst (λ n. RunsRise 0 hd.runs n) last (sound.table.runs c lt);
      first = (and_parts (hold_params (kinds_at code c) hd.params 0) (has_position code c) rules.2).0;
    }

module _ (code : PlainCode) (sound : IsSound code) (r : ℕ) (s : State) (h : Ready code r s) where
  -- ---- arguments

  -- number slots, one after another
  numbers_are : (n f i : ℕ) → f < length s.now → ((k : ℕ) → k < n → IsCell code (routines_of s.now) f (i + k))
      → numbers_at n s.now f i ≡ true
  numbers_are zero f i lf c = refl
  numbers_are (suc n) f i lf c =
      let z : i + 0 ≡ i = omega arith in
      and_from (number_at s.now f i) (numbers_at n s.now f (suc i))
      (number_at_is code r s f i h lf (subst (λ m. IsCell code (routines_of s.now) f m) z (c 0 (omega arith))))
      (numbers_are n f (suc i) lf (λ k lt. let x : i + suc k ≡ suc i + k = omega arith in
      subst (λ m. IsCell code (routines_of s.now) f m) x (c (suc k) (omega arith))))

  -- a place that fits
  spot_of : (n : ℕ) (p : CellPlace) → p.len ≡ n → IsPlace code (routines_of s.now) (top s) p → IsArgumentPlace s.now n p
  spot_of n p e fits =
      let lf = frame_live code r s p h fits in
      record {
        len = e;
        live = record { frame = lf; cells = λ k lt. number_at_is code r s p.frame (p.slot + k) h lf (fits.cells k lt) };
        numbers = numbers_are n p.frame p.slot lf (λ k lt. fits.cells k (omega arith));
      }

  place_holds : (n : ℕ) (c : Cell) → FitsSlot code (routines_of s.now) (top s) (slot.Place n) c → HoldsArgument s.now param.Place n c
  place_holds n (cell.Place p) f = spot_of n p f.0 f.1
  place_holds n cell.Unset f = tt
  place_holds n cell.Unknown f = absurd f
  place_holds n (cell.Int v) f = absurd f
  place_holds n (cell.Mark m) f = absurd f

  cells_holds : (n : ℕ) (c : Cell) → FitsSlot code (routines_of s.now) (top s) (slot.Place n) c → HoldsArgument s.now param.Cells n c
  cells_holds n (cell.Place p) f = spot_of n p f.0 f.1
  cells_holds n cell.Unset f = tt
  cells_holds n cell.Unknown f = absurd f
  cells_holds n (cell.Int v) f = absurd f
  cells_holds n (cell.Mark m) f = absurd f

  mix_place_holds : (n : ℕ) (c : Cell) → FitsSlot code (routines_of s.now) (top s) (slot.Place 1) c → HoldsArgument s.now param.Mix n c
  mix_place_holds n (cell.Place p) f = spot_of 1 p f.0 f.1
  mix_place_holds n cell.Unset f = tt
  mix_place_holds n cell.Unknown f = absurd f
  mix_place_holds n (cell.Int v) f = absurd f
  mix_place_holds n (cell.Mark m) f = absurd f

  link_holds : (n : ℕ) (c : Cell) → FitsSlot code (routines_of s.now) (top s) (slot.Link n) c → HoldsArgument s.now param.Link n c
  link_holds n (cell.Place p) f = (
    f.slot,
    f.len,
    record { frame = omega (arith, h.frames.some, f.frame); cells = λ k lt. absurd (omega (arith, f.len)) },
  )
  link_holds n cell.Unset f = tt
  link_holds n cell.Unknown f = absurd f
  link_holds n (cell.Int v) f = absurd f
  link_holds n (cell.Mark m) f = absurd f

  -- a slot with a cell of a kind
  given_by : (p : CodeParam) (i : ℕ) (kind : SlotKind) → kind_in code r i ≡ Some kind
      → ((c : Cell) → FitsSlot code (routines_of s.now) (top s) kind c → HoldsArgument s.now p.kind p.cells c) → HasArgument s.now p i
  given_by p i kind e holds =
      let has = has_slot code r s i kind h e in
      let lt = below_of code sound r s h i has.cell has.is in
      let ff = h.frames.each (top s) (omega (arith, h.frames.some)) in
      let all = few_kinds code sound (last_frame s.now).routine ff.routine in
      let same : length (last_frame s.now).kinds ≡ length (kinds_at code (last_frame s.now).routine) = ap length ff.kinds in
      record {
        below = lt;
        small = omega (arith, ff.full);
        content = subst (HoldsArgument s.now p.kind p.cells) (sym (cell_of code sound r s h i has.cell has.is)) (holds has.cell has.fits);
      }

  -- a slot that can be an argument holds one
  one_argument : (kind : ParamKind) (n i : ℕ) → fits_argument code r kind n i ≡ true
      → HasArgument s.now (record { kind = kind; cells = n }) i
  one_argument param.Value n i e = given_by (record { kind = param.Value; cells = n }) i slot.Number (number_is (kind_in code r i) e)
      (λ c f. value_holds s.now n c f)
  one_argument param.Place n i e = given_by (record { kind = param.Place; cells = n }) i (slot.Place n) (place_of_is n (kind_in code r i) e)
      (λ c f. place_holds n c f)
  one_argument param.Cells n i e = given_by (record { kind = param.Cells; cells = n }) i (slot.Place n) (place_of_is n (kind_in code r i) e)
      (λ c f. cells_holds n c f)
  one_argument param.Link n i e = given_by (record { kind = param.Link; cells = n }) i (slot.Link n) (link_of_is n (kind_in code r i) e)
      (λ c f. link_holds n c f)
  one_argument param.Mix n i e =
      elim (or_cases (is_number (kind_in code r i)) (is_place_of 1 (kind_in code r i)) e) [
        | inl a ↦ given_by (record { kind = param.Mix; cells = n }) i slot.Number (number_is (kind_in code r i) a)
            (λ c f. mix_holds s.now n c f)
        | inr a ↦ given_by (record { kind = param.Mix; cells = n }) i (slot.Place 1) (place_of_is 1 (kind_in code r i) a)
            (λ c f. mix_place_holds n c f)
      ]

  -- slots that can be the arguments hold them
  all_arguments : (ps : List CodeParam) (first : ℕ) → fit_arguments code r ps first ≡ true → HasArguments s.now ps first
  all_arguments [] first e k lt = absurd (omega arith)
  all_arguments (p ∷ ps) first e zero lt =
      let x = and_parts (is_free code r first && fits_argument code r p.kind p.cells first) (fit_arguments code r ps (suc first)) e in
      let y = and_parts (is_free code r first) (fits_argument code r p.kind p.cells first) x.0 in
      let here : first ≡ first + 0 = omega arith in
      subst (λ n. HasArgument s.now p n) here (one_argument p.kind p.cells first y.1)
  all_arguments (p ∷ ps) first e (suc k) lt =
      let x = and_parts (is_free code r first && fits_argument code r p.kind p.cells first) (fit_arguments code r ps (suc first)) e in
      let next : suc first + k ≡ first + suc k = omega arith in
      subst (λ n. HasArgument s.now (get_or ps k no_param) n) next (all_arguments ps (suc first) x.1 k (omega arith))

  -- ---- links

  -- what fits a place slot of a frame
  holds_placed : (f l : ℕ) (c : Cell) → FitsSlot code (routines_of s.now) f (slot.Place l) c → HoldsPlace c
  holds_placed f l (cell.Place p) x = tt
  holds_placed f l cell.Unset x = tt
  holds_placed f l cell.Unknown x = absurd x
  holds_placed f l (cell.Int v) x = absurd x
  holds_placed f l (cell.Mark m) x = absurd x

  -- a link leads to a frame with such a slot
  leads : (b c : ℕ) (kind : SlotKind) → names_slot code r (W.Link b) ≡ true → kind_in code (link_in code r b) c ≡ Some kind
      → ((f : ℕ) (x : Cell) → FitsSlot code (routines_of s.now) f kind x → HoldsPlace x) → LeadsTo s.now b c
  leads b c kind w e holds = λ p is.
      let q = link_in code r b in
      let has = has_slot code r s b (slot.Link q) h (link_word code r b w).1 in
      let same : has.cell ≡ cell.Place p = sym (cell_of code sound r s h b has.cell has.is)
      ∙ cell_of code sound r s h b (cell.Place p) is in
      let fits : IsLink code (routines_of s.now) (top s) q p =
      subst (λ x. FitsSlot code (routines_of s.now) (top s) (slot.Link q) x) same has.fits in
      let lf : p.frame < length s.now = omega (arith, h.frames.some, fits.frame) in
      let fr = get_or s.now p.frame no_frame in
      let ff = h.frames.each p.frame lf in
      let routine : fr.routine ≡ q = sym (get_or-map (λ (g : PlainFrame). g.routine) s.now p.frame no_frame) ∙ fits.routine in
      let ks : slice_get fr.kinds c ≡ Some kind = ap (λ k. slice_get k c) (ff.kinds ∙ ap (kinds_at code) routine) ∙ e in
      let lt : c < length fr.kinds = slice_get_within fr.kinds c kind ks in
      let got : get_or fr.kinds c slot.Mark ≡ kind = get_or_from_slice_get fr.kinds c kind slot.Mark ks in
      record {
        live = lf;
        below = omega (arith, ff.full);
        content = holds p.frame (get_or fr.cells c cell.Unset)
            (subst (λ k. FitsSlot code (routines_of s.now) p.frame k (get_or fr.cells c cell.Unset)) got (ff.cells c lt));
      }

  -- a slot of a link that leads to a link slot, and to a place slot
  leads_link : (a b c : ℕ) → names_slot code r (W.Link b) ≡ true → is_link_of (link_in code r a) (kind_in code (link_in code r b) c) ≡ true
      → LeadsTo s.now b c
  leads_link a b c w e = leads b c (slot.Link (link_in code r a)) w (link_of_is (link_in code r a) (kind_in code (link_in code r b) c) e)
      (λ f x. holds_link code sound r s h f (link_in code r a) x)

  leads_place : (a b c : ℕ) → names_slot code r (W.Link b) ≡ true
      → is_place_of (length_in code r a) (kind_in code (link_in code r b) c) ≡ true → LeadsTo s.now b c
  leads_place a b c w e = leads b c (slot.Place (length_in code r a)) w
      (place_of_is (length_in code r a) (kind_in code (link_in code r b) c) e) (λ f x. holds_placed f (length_in code r a) x)

  -- ---- returns with a number

  -- the first routine has no result
  main_has_no_result : (head_at code 0).has_result ≡ false
  main_has_no_result =
      let one = (sound.heads 0 sound.table.some).0 in
      let x = (and_parts (nat_lt (start_at code 0) (end_at code 0)) (is_main code 0) one).1 in
      let y = (and_parts (nat_eq (length (head_at code 0).params) 0)
      (not (head_at code 0).has_result && list_all (is_global code) code.globals) x).1 in
      not-true (head_at code 0).has_result (and_parts (not (head_at code 0).has_result) (list_all (is_global code) code.globals) y).0

  -- a routine with a result was called, and its caller has a slot for that
  calls_back : (head_at code r).has_result ≡ true → CallsBack code s.now
  calls_back has =
      let ff = h.frames.each (top s) (omega (arith, h.frames.some)) in
      let many : 1 ≤ top s =
      elim (cases_eq (top s) 0) [
        | inl e ↦ let r0 : r ≡ 0 = sym h.routine ∙ ff.main e in
            absurd (false≢true (sym main_has_no_result ∙ ap (λ q. (head_at code q).has_result) (sym r0) ∙ has))
        | inr ne ↦ omega arith
      ] in
      let l = left_ready code r s h (omega arith) in
      let ret = l.called in
      let rule = call_rule code sound l.caller ret.at (last_frame s.now).routine ret.first ret.to l.routine ret.low
      (omega (arith, ret.high, ret.behind)) ret.call in
      let holds = holds_of_call code sound l.caller ret.at (last_frame s.now).routine ret.first ret.to rule in
      let yes : (head_at code (last_frame s.now).routine).has_result ≡ true = ap (λ q. (head_at code q).has_result) h.routine ∙ has in
      let both = and_parts (is_free code l.caller ret.to) (is_number (kind_in code l.caller ret.to))
      (subst (λ b. holds_result code l.caller b ret.to ≡ true) yes holds) in
      record {
        some = omega arith;
        routine = (last_frame s.now).routine;
        first = ret.first;
        to = ret.to;
        at = ret.at;
        behind = ret.behind;
        call = ret.call;
        slot = number_has code sound l.caller (state_after_leave s) l.ready ret.to (number_is (kind_in code l.caller ret.to) both.1);
      }

  -- ---- the instructions

  -- three number slots
  three : (i : Instr) (at a b c : ℕ) → words i ≡ four (W.Number a) (W.Number b) (W.Number c) W.Free → Obeys code r at i → HasNumber s.now a
      × HasNumber s.now b × HasNumber s.now c
  three i at a b c e o = let w = slots code r at i (W.Number a) (W.Number b) (W.Number c) W.Free e o in
      (has_number code sound r s h a w.0, has_number code sound r s h b w.1, has_number code sound r s h c w.2)

  -- two
  two : (i : Instr) (at a b : ℕ) → words i ≡ four (W.Number a) (W.Number b) W.Free W.Free → Obeys code r at i → HasNumber s.now a
      × HasNumber s.now b
  two i at a b e o = let w = slots code r at i (W.Number a) (W.Number b) W.Free W.Free e o in
      (has_number code sound r s h a w.0, has_number code sound r s h b w.1)

  -- one
  one : (i : Instr) (at a : ℕ) (x : Word) → words i ≡ four (W.Number a) x W.Free W.Free → Obeys code r at i → HasNumber s.now a
  one i at a x e o = has_number code sound r s h a (slots code r at i (W.Number a) x W.Free W.Free e o).0

  -- a mark slot
  mark : (i : Instr) (at a : ℕ) (x : Word) → words i ≡ four (W.Mark a) x W.Free W.Free → Obeys code r at i → HasMark s.now a
  mark i at a x e o = has_mark code sound r s h a (slots code r at i (W.Mark a) x W.Free W.Free e o).0

  -- a place slot that is written
  point : (i : Instr) (at a : ℕ) (x y z : Word) → words i ≡ four (W.Place a) x y z → Obeys code r at i → HasPlace s.now a
  point i at a x y z e o = has_place code sound r s h a (slots code r at i (W.Place a) x y z e o).0

  -- an instruction that keeps its rules finds what it needs
  pub needed : (i : Instr) (at : ℕ) → slice_get (kinds_at code 0) 0 ≡ Some slot.Number → Obeys code r at i → Needs code s.now i
  unfolding Needs Computes words rule_5 rule_6 rule_7 rule_10 rule_12
  needed (I.Const a v) at f o = one (I.Const a v) at a W.Free refl o
  needed (I.Move a b) at f o = two (I.Move a b) at a b refl o
  needed (I.Add a b c) at f o = three (I.Add a b c) at a b c refl o
  needed (I.Sub a b c) at f o = three (I.Sub a b c) at a b c refl o
  needed (I.Mul a b c) at f o = three (I.Mul a b c) at a b c refl o
  needed (I.Div a b c) at f o = three (I.Div a b c) at a b c refl o
  needed (I.Mod a b c) at f o = three (I.Mod a b c) at a b c refl o
  needed (I.Neg a b) at f o = two (I.Neg a b) at a b refl o
  needed (I.Equal a b c) at f o = three (I.Equal a b c) at a b c refl o
  needed (I.Less a b c) at f o = three (I.Less a b c) at a b c refl o
  needed (I.LessEq a b c) at f o = three (I.LessEq a b c) at a b c refl o
  needed (I.Flip a b) at f o = two (I.Flip a b) at a b refl o
  needed (I.InRange a t) at f o = (
    one (I.InRange a t) at a (W.Range t) refl o,
    ltb-true t (length code.ranges) (entries code r at (I.InRange a t) (W.Number a) (W.Range t) W.Free W.Free refl o).1,
  )
  needed (I.Local a b) at f o = point (I.Local a b) at a (W.Slot b) W.Free W.Free refl o
  needed (I.Global a b) at f o = point (I.Global a b) at a W.Free W.Free W.Free refl o
  needed (I.Same a b) at f o =
      let w = slots code r at (I.Same a b) (W.Place a) (W.Place b) W.Free W.Free refl o in
      (has_place code sound r s h a w.0, has_cells code sound r s h b w.1)
  needed (I.Field a b c) at f o =
      let w = slots code r at (I.Field a b c) (W.Place a) (W.Place b) W.Free W.Free refl o in
      let inside = leb-true (c + length_in code r a) (length_in code r b) o.r5 in
      let same = width_in code sound r s h b w.1 in
      (has_place code sound r s h a w.0, has_cells code sound r s h b w.1, omega arith)
  needed (I.Index a b c d) at f o =
      let w = slots code r at (I.Index a b c d) (W.Place a) (W.Place b) (W.Number c) (W.Range d) refl o in
      let e = entries code r at (I.Index a b c d) (W.Place a) (W.Place b) (W.Number c) (W.Range d) refl o in
      let part = ap (λ l. has_room (slice_get code.ranges d) l (width s.now b)) (width_in code sound r s h a w.0) in
      let all = ap (λ l. has_room (slice_get code.ranges d) (length_in code r a) l) (width_in code sound r s h b w.1) in (
        has_place code sound r s h a w.0,
        has_cells code sound r s h b w.1,
        has_number code sound r s h c w.2,
        ltb-true d (length code.ranges) e.3,
        part ∙ all ∙ o.r6,
      )
  needed (I.Load a b) at f o =
      let w = slots code r at (I.Load a b) (W.Number a) (W.Place b) W.Free W.Free refl o in
      (has_number code sound r s h a w.0, has_one_cell code sound r s h b w.1 o.r7)
  needed (I.Known a b) at f o =
      let w = slots code r at (I.Known a b) (W.Number a) (W.Place b) W.Free W.Free refl o in
      (has_number code sound r s h a w.0, has_one_cell code sound r s h b w.1 o.r7)
  needed (I.Store a b) at f o =
      let w = slots code r at (I.Store a b) (W.Place a) (W.Number b) W.Free W.Free refl o in
      (has_one_cell code sound r s h a w.0 o.r7, has_number code sound r s h b w.1)
  needed (I.Bind a b c) at f o =
      let w = slots code r at (I.Bind a b c) (W.Place a) (W.Number b) (W.Range c) W.Free refl o in
      let e = entries code r at (I.Bind a b c) (W.Place a) (W.Number b) (W.Range c) W.Free refl o in
      (has_one_cell code sound r s h a w.0 o.r7, has_number code sound r s h b w.1, ltb-true c (length code.ranges) e.2)
  needed (I.Unify a b c d) at f o =
      let w = slots code r at (I.Unify a b c d) (W.Place a) (W.Range b) (W.Place c) (W.Range d) refl o in
      let e = entries code r at (I.Unify a b c d) (W.Place a) (W.Range b) (W.Place c) (W.Range d) refl o in
      let ones = and_parts (nat_eq (length_in code r a) 1) (nat_eq (length_in code r c) 1) o.r7 in (
        has_one_cell code sound r s h a w.0 ones.0,
        ltb-true b (length code.ranges) e.1,
        has_one_cell code sound r s h c w.2 ones.1,
        ltb-true d (length code.ranges) e.3,
      )
  needed (I.SameCells a b) at f o =
      let w = slots code r at (I.SameCells a b) (W.Place a) (W.Place b) W.Free W.Free refl o in (
        has_cells code sound r s h a w.0,
        has_cells code sound r s h b w.1,
        width_in code sound r s h a w.0 ∙ eqb-true (length_in code r a) (length_in code r b) o.r7 ∙ sym (width_in code sound r s h b w.1),
      )
  needed (I.Jump a) at f o = tt
  needed (I.JumpZero a b) at f o = one (I.JumpZero a b) at a (W.Address b) refl o
  needed (I.Check a) at f o = one (I.Check a) at a W.Free refl o
  needed I.Fail at f o = tt
  needed (I.Mark a) at f o = mark (I.Mark a) at a W.Free refl o
  needed (I.Cut a) at f o = mark (I.Cut a) at a W.Free refl o
  needed (I.Choose a) at f o = tt
  needed (I.Forall a b) at f o = mark (I.Forall a b) at a (W.Address b) refl o
  needed (I.Overlay a b) at f o = mark (I.Overlay a b) at a (W.Address b) refl o
  needed (I.Keep a) at f o = mark (I.Keep a) at a W.Free refl o
  needed I.Finish at f o = tt
  needed (I.Call c first to) at f o =
      let x = and_parts (nat_lt 0 c && nat_lt c (length code.routines)) (can_call code r at (head_at code c) first to) o.r10 in
      let lt = ltb-true c (length code.routines) (and_parts (nat_lt 0 c) (nat_lt c (length code.routines)) x.0).1 in
      let hd = head_at code c in
      let y = (and_parts (fit_arguments code r hd.params first && holds_first hd.params first)
      (holds_result code r hd.has_result to && nat_lt (suc at) (end_at code r)) x.1).0 in (
        lt,
        head_is code sound c lt,
        all_arguments hd.params first
            (and_parts (fit_arguments code r hd.params first) (holds_first hd.params first) y).0,
      )
  needed I.Return at f o = h.frames.some
  needed (I.ReadInt a t) at f o =
      let w = slots code r at (I.ReadInt a t) (W.Place a) (W.Range t) W.Free W.Free refl o in
      let e = entries code r at (I.ReadInt a t) (W.Place a) (W.Range t) W.Free W.Free refl o in
      (has_one_cell code sound r s h a w.0 o.r7, ltb-true t (length code.ranges) e.1, position_there code sound r s h f)
  needed (I.ReadChar a t) at f o =
      let w = slots code r at (I.ReadChar a t) (W.Place a) (W.Range t) W.Free W.Free refl o in
      let e = entries code r at (I.ReadChar a t) (W.Place a) (W.Range t) W.Free W.Free refl o in
      (has_one_cell code sound r s h a w.0 o.r7, ltb-true t (length code.ranges) e.1, position_there code sound r s h f)
  needed (I.WriteInt a) at f o = one (I.WriteInt a) at a W.Free refl o
  needed (I.WriteChar a) at f o = one (I.WriteChar a) at a W.Free refl o
  needed (I.WriteBool a) at f o = one (I.WriteBool a) at a W.Free refl o
  needed (I.WriteText t) at f o = ltb-true t (length code.texts)
      (entries code r at (I.WriteText t) (W.Text t) W.Free W.Free W.Free refl o).0
  needed I.WriteLine at f o = tt
  needed (I.Fault n) at f o = o.r12
  needed (I.Step a b c d) at f o =
      let w = slots code r at (I.Step a b c d) (W.Number a) (W.Number b) (W.Number c) (W.Address d) refl o in
      (has_number code sound r s h a w.0, has_number code sound r s h b w.1, has_number code sound r s h c w.2)
  needed (I.Own a) at f o = has_link_to code sound r s h a (slots code r at (I.Own a) (W.Link a) W.Free W.Free W.Free refl o).0
  needed (I.Chain a b c) at f o =
      let w = slots code r at (I.Chain a b c) (W.Link a) (W.Link b) W.Free W.Free refl o in
      (has_link_to code sound r s h a w.0, has_link code sound r s h b w.1, leads_link a b c w.1 o.r5)
  needed (I.Outer a b c) at f o =
      let w = slots code r at (I.Outer a b c) (W.Place a) (W.Link b) W.Free W.Free refl o in
      (has_place code sound r s h a w.0, has_link code sound r s h b w.1)
  needed (I.OuterSame a b c) at f o =
      let w = slots code r at (I.OuterSame a b c) (W.Place a) (W.Link b) W.Free W.Free refl o in
      (has_place code sound r s h a w.0, has_link code sound r s h b w.1, leads_place a b c w.1 o.r5)
  needed (I.ReturnValue a) at f o = (one (I.ReturnValue a) at a W.Free refl o, calls_back o.r12)
  needed (I.CopyCells a b) at f o =
      let w = slots code r at (I.CopyCells a b) (W.Place a) (W.Place b) W.Free W.Free refl o in (
        has_cells code sound r s h a w.0,
        has_cells code sound r s h b w.1,
        width_in code sound r s h a w.0 ∙ eqb-true (length_in code r a) (length_in code r b) o.r7 ∙ sym (width_in code sound r s h b w.1),
      )

-- the same at the address of a state that fits
pub needs_at : (code : PlainCode) (s : State) (t : State) (i : Instr) → IsSound code → Fits code s → s.mode ≡ Going
    → slice_get code.instrs s.at ≡ Some i → t.now ≡ s.now → Needs code t.now i
needs_at code s t i sound fits going is same =
    let r = (last_frame s.now).routine in
    let ff = fits.frames.each (length s.now - 1) (omega (arith, fits.frames.some)) in
    let ready : Ready code r s = record { frames = fits.frames; held = fits.held; routine = refl; going = going } in
    let here = subst (λ m. FitsMode code m s) going fits.mode in
    let parts = and_parts (nat_le (start_at code r) s.at) (nat_lt s.at (end_at code r)) here in
    let low = leb-true (start_at code r) s.at parts.0 in
    let high = ltb-true s.at (end_at code r) parts.1 in
    let got : get_or code.instrs s.at I.Fail ≡ i = get_or_from_slice_get code.instrs s.at i I.Fail is in
    let o : Obeys code r s.at i = obeys code r s.at i
    (subst (λ j. instr_fault code r s.at j ≡ None) got (sound.instrs r s.at ff.routine low high)) in
    subst (λ fs. Needs code fs i) (sym same) (needed code sound r s ready i s.at (first_number code sound) o)

-- a machine that goes on is at an instruction
pub in_code : (code : PlainCode) (s : State) → IsSound code → Fits code s → s.mode ≡ Going → s.at < length code.instrs
in_code code s sound fits going =
    let r = (last_frame s.now).routine in
    let ff = fits.frames.each (length s.now - 1) (omega (arith, fits.frames.some)) in
    let here = subst (λ m. FitsMode code m s) going fits.mode in
    let parts = and_parts (nat_le (start_at code r) s.at) (nat_lt s.at (end_at code r)) here in
    let high = ltb-true s.at (end_at code r) parts.1 in
    let inside = end_inside code sound.table r ff.routine in
    omega arith
