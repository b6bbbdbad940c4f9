-- The labels of an arm of CASE: the jumps of each are aimed at one address.
use Rattle.std.proofs.Common.{◌≡◌, ℕ, ℤ, ◌+◌, ◌<◌, Bool, true, false, List, [], ◌∷◌, ◌++◌, length, refl, sym, ap, ◌∙◌, arith, pos}
use Rattle.std.proofs.Common.{append_assoc, length-append}
use Rattle.std.specs.Prelude.{if◌then◌else◌}
use Rattle.alma_base.specs.Numbers.{int_eq}
use Rattle.std.proofs.lemmas.List.{append-nil}
use Rattle.alma_base.specs.declared.number.Range.{Range}
use Rattle.alma_code.specs.declared.instr.Instr.TheVariants as I
use Rattle.alma_choice.specs.Emitted.{aim_jump}
use Rattle.alma_choice.proofs.Aiming.{aim_between}
use Rattle.alma_lower_work.specs.Puts.{all_labels, behind_all}
use Rattle.alma_lower_work.specs.Front.{Front, Codes, Changes, Holes}
use Rattle.alma_lower_work.proofs.Joins.{code_code, adds_code, code_holes, holes_as, own_two, closed, only_code, address_after}
use Rattle.alma_lower_work.proofs.Joins.{address_behind}
use Rattle.alma_lower_templates.specs.LineInstr.{LineInstr, own}
use Rattle.alma_lower_templates.specs.Pieces.{between_test, single_test, label_test, test_size, label_code, labels_code}

-- a label in place of one that is not there
unfoldable pub no_range : Range
no_range = record { low = pos 0; high = pos 0 }

-- the test of one number: three instructions, of which the last is aimed twice
pub single_holes : (a b c d : Front) (line value bound test jump : ℕ) (number given : ℤ) → test ≡ bound + 1 → given ≡ number
    → Codes a b (own line (I.Const bound given ∷ [])) → Codes b c (own line (I.Equal test bound value ∷ [])) → jump ≡ length c.code
    → Codes c d (own line (I.JumpZero test 0 ∷ []))
    → Holes a d (λ to xs. aim_jump (aim_jump xs jump to) jump to) (λ none at lo ls. own line (single_test value bound none number))
    (λ ls. [])
    (λ ls. ls)
single_holes a b c d line value bound test jump number given t is h1 h2 at h3 =
    let xs = a.code in
    let codes = code_code a b d _ _ h1 (code_code b c d _ _ h2 h3) in
    let front = code_code a b c _ _ h1 h2 in
    let two = own line (I.Const bound given ∷ I.Equal test bound value ∷ []) in
    let all : (test : ℕ) (given : ℤ) (n : ℕ) → List LineInstr = λ test given n. own line
    (I.Const bound given ∷ I.Equal test bound value ∷ I.JumpZero test n ∷ []) in
    let said : (n : ℕ) → all test given n ≡ all (bound + 1) number n =
    λ n. ap (λ z. all z given n) t ∙ ap (λ z. all (bound + 1) z n) is in
    let last : ℕ → LineInstr = λ n. record { line = line; instr = I.JumpZero test n } in
    let here : jump ≡ length (xs ++ two) = at ∙ address_after a c _ front ∙ sym (length-append xs two) in
    let aim_it : (n to : ℕ) (ys : List LineInstr)
    → aim_jump ((xs ++ two) ++ (last n ∷ ys)) jump to ≡ (xs ++ two) ++ (last to ∷ ys) = λ n to ys.
    ap (λ k. aim_jump ((xs ++ two) ++ (last n ∷ ys)) k to) here ∙ aim_between (xs ++ two) (last n) ys to in
    record {
      all = record {
        instrs = codes.instrs ∙ ap (λ l. xs ++ l) (said 0);
        taken = (only_code a d _ codes).taken;
        next_slot = (only_code a d _ codes).next_slot;
        left = codes.left;
        whole = codes.whole;
      };
      fills = λ to ys.
          ap (λ l. aim_jump (aim_jump (l ++ ys) jump to) jump to) codes.instrs
          ∙ ap (λ l. aim_jump (aim_jump l jump to) jump to)
          (append_assoc xs (all test given 0) ys ∙ sym (append_assoc xs two (last 0 ∷ ys)))
          ∙ ap (λ l. aim_jump l jump to) (aim_it 0 to ys)
          ∙ aim_it to to ys
          ∙ append_assoc xs two (last to ∷ ys) ∙ sym (append_assoc xs (all test given to) ys)
          ∙ ap (λ l. (xs ++ l) ++ ys) (said to);
    }

-- the test of a range: six instructions, of which the third and the last are aimed
pub between_holes : (a b c d e f g : Front) (line value bound test low high : ℕ) (label : Range) (least most : ℤ) → test ≡ bound + 1
    → least ≡ label.low → most ≡ label.high
    → Codes a b (own line (I.Const bound least ∷ [])) → Codes b c (own line (I.LessEq test bound value ∷ [])) → low ≡ length c.code
    → Codes c d (own line (I.JumpZero test 0 ∷ []))
    → Codes d e (own line (I.Const bound most ∷ [])) → Codes e f (own line (I.LessEq test value bound ∷ [])) → high ≡ length f.code
    → Codes f g (own line (I.JumpZero test 0 ∷ []))
    → Holes a g (λ to xs. aim_jump (aim_jump xs low to) high to) (λ none at lo ls. own line (between_test value bound none label))
    (λ ls. [])
    (λ ls. ls)
between_holes a b c d e f g line value bound test low high label least most t is is2 h1 h2 at1 h3 h4 h5 at2 h6 =
    let xs = a.code in
    let all : (test : ℕ) (least most : ℤ) (n m : ℕ)
    → List LineInstr = λ test least most n m. own line
    (I.Const bound least ∷ I.LessEq test bound value ∷ I.JumpZero test n ∷ I.Const bound most ∷ I.LessEq test value bound
    ∷ I.JumpZero test m ∷ []) in
    let codes = code_code a b g _ _ h1 (code_code b c g _ _ h2
    (code_code c d g _ _ h3 (code_code d e g _ _ h4 (code_code e f g _ _ h5 h6)))) in
    let front = code_code a b c _ _ h1 h2 in
    let back = code_code a b f _ _ h1 (code_code b c f _ _ h2 (code_code c d f _ _ h3 (code_code d e f _ _ h4 h5))) in
    let two = own line (I.Const bound least ∷ I.LessEq test bound value ∷ []) in
    let five : ℕ → List LineInstr = λ n. own line
    (I.Const bound least ∷ I.LessEq test bound value ∷ I.JumpZero test n ∷ I.Const bound most ∷ I.LessEq test value bound ∷ []) in
    let third : ℕ → LineInstr = λ n. record { line = line; instr = I.JumpZero test n } in
    let last : List LineInstr = own line (I.Const bound most ∷ I.LessEq test value bound ∷ I.JumpZero test 0 ∷ []) in
    let first : low ≡ length (xs ++ two) = at1 ∙ address_after a c _ front ∙ sym (length-append xs two) in
    let second : (to : ℕ) → high ≡ length (xs ++ five to) = λ to. omega (arith, at2, address_after a f _ back, length-append xs (five to))
    in
    let said : (n : ℕ) → all test least most n n ≡ all (bound + 1) label.low label.high n n =
    λ n. ap (λ z. all z least most n n) t ∙ ap (λ z. all (bound + 1) z most n n) is ∙ ap (λ z. all (bound + 1) label.low z n n) is2 in
    record {
      all = record {
        instrs = codes.instrs ∙ ap (λ l. xs ++ l) (said 0);
        taken = (only_code a g _ codes).taken;
        next_slot =
            (only_code a g _ codes).next_slot;
        left = codes.left;
        whole = codes.whole;
      };
      fills = λ to ys.
          ap (λ l. aim_jump (aim_jump (l ++ ys) low to) high to) codes.instrs
          ∙ ap (λ l. aim_jump (aim_jump l low to) high to)
          (append_assoc xs (all test least most 0 0) ys ∙ sym (append_assoc xs two (third 0 ∷ (last ++ ys))))
          ∙ ap (λ n. aim_jump (aim_jump ((xs ++ two) ++ (third 0 ∷ (last ++ ys))) n to) high to) first
          ∙ ap (λ l. aim_jump l high to) (aim_between (xs ++ two) (third 0) (last ++ ys) to)
          ∙ ap (λ l. aim_jump l high to) (append_assoc xs two (third to ∷ (last ++ ys)) ∙ sym (append_assoc xs (five to) (third 0 ∷ ys)))
          ∙ ap (λ n. aim_jump ((xs ++ five to) ++ (third 0 ∷ ys)) n to) (second to)
          ∙ aim_between (xs ++ five to) (third 0) ys to
          ∙ append_assoc xs (five to) (third to ∷ ys) ∙ sym (append_assoc xs (all test least most to to) ys)
          ∙ ap (λ l. (xs ++ l) ++ ys) (said to);
    }

-- how long the test of a label is
pub test_long : (line value bound miss : ℕ) (label : Range) → length (own line (label_test value bound miss label)) ≡ test_size label
test_long line value bound miss label = by (int_eq label.low label.high)
  where
    by : (z : Bool) → length (own line (if z then single_test value bound miss label.low else between_test value bound miss label))
        ≡ (if z then 3 else 6)
    by true = refl
    by false = refl

-- a label that is not the last: both jumps go behind the jump to the body
pub label_done : (a b c d e : Front) (line value bound hit low high behind : ℕ) (label : Range)
    → Holes a b (λ to xs. aim_jump (aim_jump xs low to) high to) (λ none at lo ls. own line (label_test value bound none label)) (λ ls. [])
    (λ ls. ls) → behind ≡ length b.code + 1
    → Changes b c (λ xs. aim_jump xs low behind) → Changes c d (λ xs. aim_jump xs high behind) → Codes d e (own line (I.Jump hit ∷ []))
    → Codes a e (own line (label_code value bound (length a.code) hit label))
label_done a b c d e line value bound hit low high behind label h is x y j =
    let both : Changes b d (λ xs. aim_jump (aim_jump xs low behind) high behind) = record {
      instrs = y.instrs ∙ ap (λ l. aim_jump l high behind) x.instrs;
      taken = y.taken ∙ x.taken;
      next_slot = y.next_slot ∙ x.next_slot;
      left = y.left ∙ x.left;
      whole = y.whole ∙ x.whole;
    } in
    let all = adds_code a d e _ _ _ _ (closed a b d _ _ _ _ behind h both) j in
    let far : behind ≡ length a.code + test_size label + 1 =
    omega (arith, is, address_behind a b _ _ _ h.all, test_long line value bound 0 label) in
    let none : a.next + 0 ≡ a.next = omega arith in
    record {
      instrs = all.instrs ∙ ap (λ n. a.code ++ (own line (label_test value bound n label) ++ own line (I.Jump hit ∷ []))) far
          ∙ ap (λ l. a.code ++ l)
          (sym (own_two line (label_test value bound (length a.code + test_size label + 1) label) (I.Jump hit ∷ [])));
      taken = all.taken ∙ append-nil a.kinds;
      next_slot = all.next_slot ∙ none;
      left = all.left;
      whole = all.whole;
    }

-- and with its jump
pub code_long : (line value bound at hit : ℕ) (label : Range)
    → at + length (own line (label_code value bound at hit label)) ≡ at + test_size label + 1
code_long line value bound at hit label =
    let miss : ℕ = at + test_size label + 1 in
    omega (
      arith,
      ap length (own_two line (label_test value bound miss label) (I.Jump hit ∷ [])),
      length-append (own line (label_test value bound miss label)) (own line (I.Jump hit ∷ [])),
      test_long line value bound miss label,
    )

-- the end of labels that follow a label
pub more_behind : (at : ℕ) (label : Range) (rest : List Range) → 0 < length rest
    → behind_all at (label ∷ rest) ≡ behind_all (at + test_size label + 1) rest
more_behind at label [] some = absurd (omega (arith, some))
more_behind at label (label2 ∷ rest) some = refl

-- a label, and then the others
pub more_labels : (a b c : Front) (line value bound hit : ℕ) (aim : ℕ → List LineInstr → List LineInstr) (label : Range) (rest : List Range)
    → 0 < length rest → Codes a b (own line (label_code value bound (length a.code) hit label))
    → Holes b c aim (λ none at lo ls. own line (all_labels value bound at hit none rest)) (λ ls. []) (λ ls. ls)
    → Holes a c aim (λ none at lo ls. own line (all_labels value bound at hit none (label ∷ rest))) (λ ls. []) (λ ls. ls)
more_labels a b c line value bound hit aim label [] some h j = absurd (omega (arith, some))
more_labels a b c line value bound hit aim label (label2 ∷ rest) some h j =
    holes_as a c _ _ _ _ _ _ _ (code_holes a b c _ _ _ aim _ h j)
    (λ to. sym (ap (λ n. own line (label_code value bound (length a.code) hit label ++ labels_code value bound n hit to label2 rest))
    (sym (code_long line value bound (length a.code) hit label)) ∙ own_two line (label_code value bound (length a.code) hit label)
    (labels_code value bound (length a.code + length (own line (label_code value bound (length a.code) hit label))) hit to label2 rest)))
    refl refl
