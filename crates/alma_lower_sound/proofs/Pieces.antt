-- Code at an address of a routine, each instruction with what it needs: the pieces that phrases share.
use Rattle.std.proofs.Common.{◌≡◌, ℕ, ◌+◌, ◌<◌, ◌≤◌, Bool, true, false, List, [], ◌∷◌, ◌++◌, length, Option, Some, None, ℤ, pos}
use Rattle.std.proofs.Common.{negsuc, refl, arith, subst}
use Rattle.std.specs.List.{AllByRecursion}
use Rattle.std.specs.Prelude.{if◌then◌else◌}
use Rattle.alma_base.specs.Numbers.{int_eq}
use Rattle.std.proofs.lemmas.List.{length-append, length-map}
use Rattle.alma_base.specs.declared.number.Range.{Range}
use Rattle.alma_code.specs.declared.instr.Instr.{Instr}
use Rattle.alma_code.specs.declared.instr.Instr.TheVariants as I
use Rattle.alma_code.specs.Plain.{PlainCode, start_at, end_at}
use Rattle.alma_ir.proofs.Each.{each_of_append}
use Rattle.alma_lower_templates.specs.LineInstr.{LineInstr, own, in_row, leaving}
use Rattle.alma_lower_templates.specs.Pieces.{condition, guard_code, branch_code, first_of_two, not_code, truth_code, each_body}
use Rattle.alma_lower_templates.specs.Pieces.{forall_code}
use Rattle.alma_lower_templates.specs.Pieces.{label_code, label_test, labels_code, test_size, behind_labels, case_arm, passed_over}
use Rattle.alma_lower_templates.specs.Pieces.{entry_code}
use Rattle.alma_lower_templates.specs.Pieces.{begin_loop, turn_code, for_turns, some_turns, aim, with_last, straight, count_from}
use Rattle.alma_lower_templates.specs.Pieces.{unless_constant}
use Rattle.alma_lower_templates.specs.Pieces.{limit_code, put_code}
use Rattle.alma_lower_templates.specs.Slots.{unless_bare}
use Rattle.alma_lower_sound.proofs.Needs.{IsInside, Needs, Number, Mark}
use Rattle.alma_lower_templates.proofs.Straight.{straight_long}
use Rattle.alma_lower_templates.proofs.CaseForms.{one_test, both_tests, labels_long}

module _ (code : PlainCode) (r : ℕ) where
  abbrev pub NeedsOf : LineInstr → Type 0
  NeedsOf x = Needs code r x.instr

  -- each instruction has what it needs
  abbrev pub AllNeed : List LineInstr → Type 0
  AllNeed xs = AllByRecursion NeedsOf xs

  pub both : (a b : List LineInstr) → AllNeed a → AllNeed b → AllNeed (a ++ b)
  both a b h k = each_of_append NeedsOf a b h k

  -- instructions of one line
  pub own_need : (line : ℕ) (xs : List Instr) → AllByRecursion (Needs code r) xs → AllNeed (own line xs)
  own_need line [] h = tt
  own_need line (x ∷ xs) h = (h.0, own_need line xs h.1)

  -- so many instructions stand at an address of the routine, and one more behind them
  pub record Room (at long : ℕ) : Type 0 where
    pub low : start_at code r ≤ at
    pub high : at + long < end_at code r

  -- code at an address, with so many instructions of the same phrase behind it: each instruction has what it needs
  abbrev pub Fits : (spare at : ℕ) → List LineInstr → Type 0
  Fits spare at c = Room at (length c + spare) → AllNeed c

  -- ---- rooms

  pub inside : (at long n : ℕ) → Room at long → at ≤ n → n ≤ at + long → IsInside code r n
  inside at long n room le more = record { low = omega (arith, room.low, le); high = omega (arith, room.high, more) }

  pub less_spare : (spare less at : ℕ) (c : List LineInstr) → less ≤ spare → Fits less at c → Fits spare at c
  less_spare spare less at c le h room = h (record { low = room.low; high = omega (arith, room.high, le) })

  -- ---- parts

  -- instructions whose needs do not lean on where they stand
  pub own_fits : (spare at line : ℕ) (xs : List Instr) → AllByRecursion (Needs code r) xs → Fits spare at (own line xs)
  own_fits spare at line xs h room = own_need line xs h

  pub in_two : (spare at : ℕ) (a b : List LineInstr) → Fits (length b + spare) at a → Fits spare (at + length a) b → Fits spare at (a ++ b)
  in_two spare at a b f g room =
      let long = length-append a b in
      both a b (f (record { low = room.low; high = omega (arith, room.high, long) }))
      (g (record { low = omega (arith, room.low); high = omega (arith, room.high, long) }))

  -- a part that needs no more room than it has
  pub first : (spare at : ℕ) (c : List LineInstr) → Fits 0 at c → Fits spare at c
  first spare at c h = less_spare spare 0 at c (omega arith) h

  pub both_fit : (spare at : ℕ) (a b : List LineInstr) → Fits 0 at a → Fits spare (at + length a) b → Fits spare at (a ++ b)
  both_fit spare at a b f g = in_two spare at a b (first (length b + spare) at a f) g

  -- a value that goes straight into another slot
  aim_needs : (to : ℕ) (i : Instr) → Number code r to → Needs code r i → Needs code r (aim to i)
  aim_needs to (I.Const old n) there h = there
  aim_needs to (I.Load old place) there h = (there, h.1)
  aim_needs to (I.Add old first operand) there h = (there, h.1, h.2)
  aim_needs to (I.Sub old first operand) there h = (there, h.1, h.2)
  aim_needs to (I.Mul old first operand) there h = (there, h.1, h.2)
  aim_needs to (I.Div old first operand) there h = (there, h.1, h.2)
  aim_needs to (I.Mod old first operand) there h = (there, h.1, h.2)
  aim_needs to i there h = h

  -- code with its last instruction changed
  last_need : (change : Instr → Instr) → ((i : Instr) → Needs code r i → Needs code r (change i)) → (c : List LineInstr) → AllNeed c
      → AllNeed (with_last change c)
  last_need change keeps [] h = tt
  last_need change keeps (x ∷ []) h = (keeps x.instr h.0, tt)
  last_need change keeps (x ∷ (y ∷ rest)) h = (h.0, last_need change keeps (y ∷ rest) h.1)

  pub straight_fits : (to at : ℕ) (c : List LineInstr) → Number code r to → Fits 0 at c → Fits 0 at (straight to c)
  straight_fits to at c there h room =
      last_need (aim to) (λ i. aim_needs to i there) c (h (subst (λ n. Room at (n + 0)) (straight_long to c) room))

  pub unless : (spare at : ℕ) (o : Option ℕ) (c : List LineInstr) → (o ≡ None → Fits spare at c) → Fits spare at (unless_bare o c)
  unless spare at (Some n) c f room = tt
  unless spare at None c f room = f refl room

  -- behind a part, instructions of the phrase itself
  pub then_own : (spare at line : ℕ) (a : List LineInstr) (xs : List Instr) → Fits 0 at a → AllByRecursion (Needs code r) xs
      → Fits spare at (a ++ own line xs)
  then_own spare at line a xs f h = both_fit spare at a (own line xs) f (own_fits spare (at + length a) line xs h)

  -- a number, which goes to a slot
  pub put_fits : (z : Bool) (line at to value : ℕ) (check : List Instr) (c : List LineInstr) → Number code r to → Number code r value
      → AllByRecursion (Needs code r) check → Fits 0 at c → Fits 0 at (put_code z line to value check c)
  put_fits true line at to value check c there from needs f = straight_fits to at c there f
  put_fits false line at to value check c there from needs f =
      then_own 0 at line c (check ++ (I.Move to value ∷ [])) f
      (each_of_append (Needs code r) check (I.Move to value ∷ []) needs ((there, from), tt))

  -- ---- the first of several, which leaves over all

  pub leaving_fits : (at line : ℕ) (a : List LineInstr) (rest : (at jump : ℕ) → List LineInstr) → Fits 1 at a
      → (IsInside code r (at + length a) → Fits 0 (at + length a + 1) (rest (at + length a + 1) (at + length a)))
      → Fits 0 at (leaving line at a rest)
  leaving_fits at line a rest f g room =
      let jump : ℕ = at + length a in
      let b : List LineInstr = rest (jump + 1) jump in
      let over : List LineInstr = own line (I.Jump (jump + 1 + length b) ∷ []) in
      let long = length-append a (over ++ b) in
      let here : IsInside code r jump = record { low = omega (arith, room.low); high = omega (arith, room.high, long) } in
      let out : IsInside code r (jump + 1 + length b) = record { low = omega (arith, room.low); high = omega (arith, room.high, long) } in
      both a (over ++ b) (f (record { low = room.low; high = omega (arith, room.high, long) }))
      (out, g here (record { low = omega (arith, room.low); high = omega (arith, room.high, long) }))

  -- another, which leaves by the jump of the first
  pub by_jump : (at line jump : ℕ) (a : List LineInstr) (rest : (at : ℕ) → List LineInstr) → IsInside code r jump → Fits 1 at a
      → Fits 0 (at + length (a ++ own line (I.Jump jump ∷ []))) (rest (at + length (a ++ own line (I.Jump jump ∷ []))))
      → Fits 0 at (in_row at (a ++ own line (I.Jump jump ∷ [])) rest)
  by_jump at line jump a rest out f g =
      let last : List LineInstr = own line (I.Jump jump ∷ []) in
      both_fit 0 at (a ++ last) (rest (at + length (a ++ last)))
      (in_two 0 at a last (less_spare (length last + 0) 1 at a (omega arith) f)
      (own_fits 0 (at + length a) line (I.Jump jump ∷ []) (out, tt))) g

  -- ---- conditions

  pub condition_fits : (simple : Bool) (spare line at lo none : ℕ) (jump : (at lo none : ℕ) → List LineInstr)
      (test : (at lo : ℕ) → List LineInstr)
      → (simple ≡ true → Fits 0 at (jump at lo none)) → (simple ≡ false → Mark code r lo)
      → (simple ≡ false → Fits 0 (at + 2) (test (at + 2) (lo + 1))) → IsInside code r none
      → Fits spare at (condition simple line at lo none jump test)
  condition_fits true spare line at lo none jump test j mark t out room = first spare at (jump at lo none) (j refl) room
  condition_fits false spare line at lo none jump test j mark t out room =
      let inner : List LineInstr = test (at + 2) (lo + 1) in
      let cut : List LineInstr = own line (I.Cut lo ∷ []) in
      let long = length-append inner cut in
      let m = mark refl in
      (m, (out, both inner cut (t refl (record { low = omega (arith, room.low); high = omega (arith, room.high, long) })) (m, tt)))

  -- a condition, and what is done where it has an alternative
  pub guarded_fits : (at skipped : ℕ) (cond : (none : ℕ) → List LineInstr) (body : (at : ℕ) → List LineInstr)
      → ((none : ℕ) → length (cond none) ≡ length (cond 0)) → ((none : ℕ) → IsInside code r none → Fits 0 at (cond none))
      → ((behind : ℕ) → Fits 0 behind (body behind)) → Fits skipped at (guard_code at skipped cond body)
  guarded_fits at skipped cond body same c b room =
      let behind : ℕ = at + length (cond 0) in
      let inner : List LineInstr = body behind in
      let none : ℕ = behind + length inner + skipped in
      let long = length-append (cond none) inner in
      let e = same none in
      let out : IsInside code r none = record { low = omega (arith, room.low); high = omega (arith, room.high, long, e) } in
      both (cond none) inner (c none out (record { low = room.low; high = omega (arith, room.high, long) }))
      (b behind (record { low = omega (arith, room.low); high = omega (arith, room.high, long, e) }))

  -- ---- choices

  -- an alternative that is not the last
  pub chosen_fits : (line at : ℕ) (a : List LineInstr) → Fits 0 (at + 1) a → Fits 1 at (branch_code line (at + 1) a)
  chosen_fits line at a f room = (
    record { low = omega (arith, room.low); high = omega (arith, room.high) },
    f (record { low = omega (arith, room.low); high = omega (arith, room.high) }),
  )

  -- an operand of OR that is not the last
  pub first_of_two_fits : (line at mark : ℕ) (a : List LineInstr) → Mark code r mark → Fits 0 (at + 2) a
      → Fits 1 at (first_of_two line (at + 2) mark a)
  first_of_two_fits line at mark a m f room =
      let cut : List LineInstr = own line (I.Cut mark ∷ []) in
      let long = length-append a cut in
      let out : IsInside code r (at + 2 + length a + 2) = record { low = omega (arith, room.low); high = omega (arith, room.high, long) } in
      (m, (out, both a cut (f (record { low = omega (arith, room.low); high = omega (arith, room.high, long) })) (m, tt)))

  pub refused_fits : (line at mark : ℕ) (a : List LineInstr) → Mark code r mark → Fits 0 (at + 2) a
      → Fits 0 at (not_code line (at + 2) mark a)
  refused_fits line at mark a m f room =
      let cut : List LineInstr = own line (I.Cut mark ∷ I.Fail ∷ []) in
      let long = length-append a cut in
      let out : IsInside code r (at + 2 + length a + 2) = record { low = omega (arith, room.low); high = omega (arith, room.high, long) } in
      (m, (out, both a cut (f (record { low = omega (arith, room.low); high = omega (arith, room.high, long) })) (m, (tt, tt))))

  -- a test as a number
  pub truth_fits : (line to at : ℕ) → Number code r to → Fits 0 at (truth_code line to at)
  truth_fits line to at n room = (n, (record { low = omega (arith, room.low); high = omega (arith, room.high) }, (n, tt)))

  -- ---- FORALL

  pub each_fits : (line at mark inner : ℕ) (body : List LineInstr) → Mark code r mark → Mark code r inner → Fits 0 (at + 2) body
      → Fits 1 at (each_body line (at + 2) mark inner body)
  each_fits line at mark inner body m n f room =
      let last : List LineInstr = own line (I.Cut inner ∷ I.Keep mark ∷ I.Fail ∷ []) in
      let long = length-append body last in
      let next : IsInside code r (at + 2 + length body + 2) =
      record { low = omega (arith, room.low); high = omega (arith, room.high, long) } in (
        (m, next),
        (
          n,
          both body last (f (record { low = omega (arith, room.low); high = omega (arith, room.high, long) }))
              (n, (m, (tt, tt))),
        ),
      )

  pub forall_fits : (line at mark : ℕ) (parts : List LineInstr) → Mark code r mark → Fits 1 (at + 1) parts
      → Fits 0 at (forall_code line (at + 1) mark parts)
  forall_fits line at mark parts m f room =
      let last : List LineInstr = own line (I.Finish ∷ []) in
      let long = length-append parts last in
      let out : IsInside code r (at + 1 + length parts) = record { low = omega (arith, room.low); high = omega (arith, room.high, long) } in
      ((m, out), both parts last (f (record { low = omega (arith, room.low); high = omega (arith, room.high, long) })) (tt, tt))

  -- ---- CASE

  -- the jump over code that is never reached
  pub over_fits : (has : Bool) (line at : ℕ) (a : List LineInstr) → Fits 0 (at + 1) a → Fits 0 at (passed_over has line at a)
  over_fits false line at a f room = tt
  over_fits true line at a f room = (
    record { low = omega (arith, room.low); high = omega (arith, room.high) },
    f (record { low = omega (arith, room.low); high = omega (arith, room.high) }),
  )

  test_need : (value bound miss : ℕ) (label : Range) → Number code r value → Number code r bound → Number code r (bound + 1)
      → IsInside code r miss → AllByRecursion (Needs code r) (label_test value bound miss label)
  test_need value bound miss label v b c m = by (int_eq label.low label.high)
    where
      by : (z : Bool) → AllByRecursion (Needs code r) (if z then one_test value bound miss label else both_tests value bound miss label)
      by true = (b, ((c, b, v), ((c, m), tt)))
      by false = (b, ((c, b, v), ((c, m), (b, ((c, v, b), ((c, m), tt))))))

  labels_low : (at : ℕ) (label : Range) (rest : List Range) → at ≤ behind_labels at label rest
  labels_low at label [] = omega arith
  labels_low at label (label2 ∷ rest) = let z = labels_low (at + test_size label + 1) label2 rest in omega (arith, z)

  labels_need : (value bound at hit miss : ℕ) (label : Range) (rest : List Range) → Number code r value → Number code r bound
      → Number code r (bound + 1) → hit ≡ behind_labels at label rest → IsInside code r hit → IsInside code r miss → start_at code r ≤ at
      → AllByRecursion (Needs code r) (labels_code value bound at hit miss label rest)
  labels_need value bound at hit miss label [] v b c is h m low = test_need value bound miss label v b c m
  labels_need value bound at hit miss label (label2 ∷ rest) v b c is h m low =
      let at2 : ℕ = at + test_size label + 1 in
      let next : IsInside code r at2 = record { low = omega (arith, low); high = omega (arith, is, h.high, labels_low at2 label2 rest) } in
      each_of_append (Needs code r) (label_code value bound at hit label) (labels_code value bound at2 hit miss label2 rest)
      (each_of_append (Needs code r) (label_test value bound at2 label) (I.Jump hit ∷ []) (test_need value bound at2 label v b c next)
      (h, tt))
      (labels_need value bound at2 hit miss label2 rest v b c is h m (omega (arith, low)))

  -- the labels of an arm and its body, with the jump behind it
  pub arm_fits : (line value bound at : ℕ) (label : Range) (rest : List Range) (body : List LineInstr) → Number code r value
      → Number code r bound → Number code r (bound + 1)
      → Fits 0 (behind_labels at label rest) body → Fits 1 at (case_arm line value bound at label rest body)
  arm_fits line value bound at label rest body v b c f room =
      let hit : ℕ = behind_labels at label rest in
      let tests : List Instr = labels_code value bound at hit (hit + length body + 1) label rest in
      let long = length-append (own line tests) body in
      let longer : length (own line tests) ≡ length tests = length-map tests (λ i. record { line = line; instr = i }) in
      let longest = labels_long value bound at hit (hit + length body + 1) label rest in
      both (own line tests) body
      (own_need line tests (labels_need value bound at hit (hit + length body + 1) label rest v b c refl
      (record { low = omega (arith, room.low, longest); high = omega (arith, room.high, long, longer, longest) })
      (record { low = omega (arith, room.low, longest); high = omega (arith, room.high, long, longer, longest) })
      room.low))
      (f (record { low = omega (arith, room.low, longest); high = omega (arith, room.high, long, longer, longest) }))

  -- ---- loops

  entry_need : (by : ℤ) (to counter limit : ℕ) → Number code r to → Number code r counter → Number code r limit
      → Needs code r (entry_code by to counter limit)
  entry_need (pos step) to counter limit a b c = (a, b, c)
  entry_need (negsuc step) to counter limit a b c = (a, c, b)

  count_need : (o : Option ℤ) (counter first : ℕ) → Number code r counter → Number code r first → Needs code r (count_from o counter first)
  count_need (Some n) counter first a b = a
  count_need None counter first a b = (a, b)

  -- a first count has no code where it is a constant
  pub constant_fits : (o : Option ℤ) (at : ℕ) (c : List LineInstr) → Fits 0 at c → Fits 0 at (unless_constant o c)
  constant_fits (Some n) at c f room = tt
  constant_fits None at c f room = f room

  -- a limit, which goes to its slot
  pub limit_fits : (z : Bool) (line at limit value : ℕ) (c : List LineInstr) → Number code r limit → Number code r value → Fits 0 at c
      → Fits 0 at (limit_code z line limit value c)
  limit_fits z line at limit value c there from f = put_fits z line at limit value [] c there from tt f

  -- the slots of a loop: counter, limit, step, and the first count
  pub record LoopSlots (counter limit step first : ℕ) : Type 0 where
    pub count : Number code r counter
    pub bound : Number code r limit
    pub by : Number code r step
    pub from : Number code r first

  pub for_turns_fits : (line at : ℕ) (by : ℤ) (o : Option ℤ) (counter limit step first : ℕ) (turn : List LineInstr)
      → LoopSlots counter limit step first → Fits 0 (at + 3) turn → Fits 0 at (for_turns line at by o counter limit step first turn)
  for_turns_fits line at by o counter limit step start turn s f room =
      let exit : ℕ = at + 3 + length turn + 2 in
      let end : List LineInstr = own line (I.Step counter limit step exit ∷ I.Jump (at + 3) ∷ []) in
      let long = length-append turn end in
      let out : IsInside code r exit = record { low = omega (arith, room.low); high = omega (arith, room.high, long) } in
      let top : IsInside code r (at + 3) = record { low = omega (arith, room.low); high = omega (arith, room.high, long) } in (
        count_need o counter start s.count s.from,
        (
          entry_need by start counter limit s.from s.count s.bound,
          (
            (s.from, out),
            both turn end (f (record { low = omega (arith, room.low); high = omega (arith, room.high, long) }))
                ((s.count, s.bound, s.by, out), (top, tt)),
          ),
        ),
      )

  pub some_turns_fits : (line at : ℕ) (o : Option ℤ) (counter limit step first more : ℕ) (turn : List LineInstr)
      → LoopSlots counter limit step first → Number code r more → Fits 0 (at + 8) turn
      → Fits 0 at (some_turns line at o counter limit step first more turn)
  some_turns_fits line at o counter limit step start more turn s m f room =
      let over : IsInside code r (at + 5) = record { low = omega (arith, room.low); high = omega (arith, room.high) } in
      let again : IsInside code r (at + 4) = record { low = omega (arith, room.low); high = omega (arith, room.high) } in
      let inner : IsInside code r (at + 8) = record { low = omega (arith, room.low); high = omega (arith, room.high) } in (
        count_need o counter start s.count s.from,
        (
          entry_need (pos 1) start counter limit s.from s.count s.bound,
          (
            s.from,
            (
              over,
              (
                (s.count, s.count, s.by),
                (
                  (m, s.count, s.bound),
                  ((m, inner), (again, f (record { low = omega (arith, room.low); high = omega (arith, room.high) }))),
                ),
              ),
            ),
          ),
        ),
      )

  -- a turn: the count is checked, the variable is located and set, and the body follows
  pub turn_fits : (line at : ℕ) (check : List Instr) (locate : (at : ℕ) → List LineInstr) (store : Instr) (body : (at : ℕ) → List LineInstr)
      → AllByRecursion (Needs code r) check → ((at : ℕ) → Fits 0 at (locate at)) → Needs code r store
      → ((at : ℕ) → Fits 0 at (body at)) → Fits 0 at (turn_code line at check locate store body)
  turn_fits line at check locate store body c l s b =
      let at1 : ℕ = at + length (own line check) in
      let at2 : ℕ = at1 + length (locate at1) in
      let set : List LineInstr = own line (store ∷ []) in
      both_fit 0 at (own line check) (locate at1 ++ (set ++ body (at2 + 1))) (own_fits 0 at line check c)
      (both_fit 0 at1 (locate at1) (set ++ body (at2 + 1)) (l at1)
      (both_fit 0 at2 set (body (at2 + 1)) (own_fits 0 at2 line (store ∷ []) (s, tt)) (b (at2 + 1))))

  -- the step, and both bounds
  pub begin_fits : (spare line at step : ℕ) (by : ℤ) (from to : (at : ℕ) → List LineInstr) → Number code r step
      → ((at : ℕ) → Fits 0 at (from at)) → ((at : ℕ) → Fits 0 at (to at)) → Fits spare at (begin_loop line at step by from to)
  begin_fits spare line at step by from to s f g =
      let one : List LineInstr = from (at + 1) in
      let two : List LineInstr = to (at + 1 + length one) in
      first spare at (own line (I.Const step by ∷ []) ++ (one ++ two))
      (both_fit 0 at (own line (I.Const step by ∷ [])) (one ++ two) (own_fits 0 at line (I.Const step by ∷ []) (s, tt))
      (both_fit 0 (at + 1) one two (f (at + 1)) (g (at + 1 + length one))))
