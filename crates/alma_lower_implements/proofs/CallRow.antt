-- The row of a call as a test: a frame is pushed, the body runs in it, and with each alternative of the body the frame is
-- dropped. An alternative inside the body comes back with the copy of its frame, and leaves in the same way.
use Rattle.std.proofs.Common.{◌≡◌, ℕ, suc, ◌+◌, ◌-◌, ◌≤◌, List, [], ◌∷◌, ◌++◌, length, Some, refl, sym, ap, ◌∙◌, subst, arith}
use Rattle.std.specs.Prelude.{slice_get, nat_lt, nat_le, Bool, true, false}
use Rattle.alma_base.specs.declared.fault.RunFault.{RunFault}
use Rattle.alma_base.specs.declared.fault.RunFault.TheVariants as fault
use Rattle.alma_code.specs.declared.cell.Cell.{Cell}
use Rattle.alma_code.specs.declared.instr.Instr.TheVariants as I
use Rattle.alma_code.specs.Layout.{frame_of_call}
use Rattle.alma_code.specs.Picture.{PlainFrame, PlainEntry, last_frame, without_last, live_cells}
use Rattle.alma_code.specs.Plain.{PlainCode, PlainRoutine, start_at}
use Rattle.alma_code.specs.Machine.{State}
use Rattle.alma_ir.specs.Tree.{Program, routine_at}
use Rattle.alma_mean.specs.Store.{Store, without_top}
use Rattle.alma_mean.specs.Events.{Events, NoYield, Flow, Visit, Print, Alt, Fail, Fault, Cut}
use Rattle.alma_mean.specs.Arithmetic.{fault_unless}
use Rattle.alma_mean.specs.Rows.{ArgValue, as_test, enter, frame_of, declared_cells}
use Rattle.alma_lower_implements.proofs.Goes.{Goes, and_then, before, weaker, credited}
use Rattle.alma_lower_implements.proofs.Frames.{IsAt}
use Rattle.alma_lower_implements.proofs.Steps.{InstrAt, Faults}
use Rattle.alma_lower_implements.proofs.CallSteps.{HoldsArguments, call_step, depth_full, cells_full, return_step}
use Rattle.alma_lower_implements.proofs.Ways.{Ways, Leaves, Runs}

module _ (code : PlainCode) (input : List ℕ) where
  -- an alternative of a body stands before a Return, which leads to the address behind the call with the frames of the caller
  pub record Returns (back : ℕ) (w : Ways NoYield) (v : Store) (t : State) : Type 0 where
    pub line : ℕ
    pub instr : InstrAt code input line t.at I.Return
    pub some : 2 ≤ length t.now
    pub back_at : (last_frame t.now).back ≡ back
    pub goes : w.goes (without_top v) tt (without_last t.now)

  -- ---- the alternatives of a body, each with its frame dropped

  pub as_test_goes : (line left left2 more back : ℕ) (fits : Store → Flow NoYield → State → Type 0) (w : Ways NoYield)
      (base : List PlainEntry) (e : Events NoYield) (s : State) (r q : ℕ) → left2 + 1 ≤ left
      → ((v : Store) (f : Flow NoYield) (t : State) → fits v f t → Returns back w v t)
      → Goes code input line left more fits base e s r q → Goes code input line left2 more (Leaves back w) base (as_test e) s r q
  as_test_goes line left left2 more back fits w base Fail s r q le k h = h
  as_test_goes line left left2 more back fits w base (Fault x l) s r q le k h = h
  as_test_goes line left left2 more back fits w base Cut s r q le k h = h
  as_test_goes line left left2 more back fits w base (Visit e) s r q le k h =
      as_test_goes line left left2 more back fits w base e s (r + 32) q le k h
  as_test_goes line left left2 more back fits w base (Print bytes e) s r q le k h =
      (h.0, h.1, h.2, h.3, h.4, h.5, h.6, as_test_goes line left left2 more back fits w base e h.4 (r - suc h.0) (q - suc h.0) le k h.7)
  as_test_goes line left left2 more back fits w base (Alt v f e) s r q le k h =
      let a = k v f h.1 h.6 in
      let z = return_step code input a.line h.1.at h.1.now (base ++ h.4) h.1
      (record { mode = h.5.mode; here = refl; frames = refl; entries = h.5.entries }) a.instr a.some in (
        h.0 + 1,
        z.to,
        omega (arith, h.2),
        and_then code input h.3 z.silently,
        h.4,
        record { mode = z.is.mode; entries = z.is.entries },
        (z.is.here ∙ a.back_at, subst (w.goes (without_top v) tt) (sym z.is.frames) a.goes),
        λ base2 u like failing. weaker code input line left2 more (Leaves back w) base2 (as_test e) u 0 0 (q - (h.0 + 1)) (q - h.0)
            (omega arith) (omega arith)
            (as_test_goes line left left2 more back fits w base2 e u 0 (q - h.0) le k (h.7 base2 u like failing)),
      )

  -- ---- the call, behind its arguments

  -- the machine and the store have as many frames, and as many declared cells
  pub record CountsAlike (p : Program) (v : Store) (now : List PlainFrame) (callee : PlainRoutine) (r : ℕ) : Type 0 where
    pub frames : length now ≡ length v
    pub cells : live_cells now ≡ declared_cells p v
    pub declared : callee.head.declared ≡ (routine_at p r).declared

  -- the faults of a call, and the body at its beginning; `F` is what is done with the events of the body
  pub enter_goes : {A : Type 0} (F : Events NoYield → Events A) → ((f : RunFault) (l : ℕ) → F (Fault f l) ≡ Fault f l)
      → (p : Program) (line at r first to : ℕ) (now : List PlainFrame) (v : Store) (callee : PlainRoutine) (args : List Cell) (links : ℕ)
      (taken : List ArgValue) (body : Store → Events NoYield) (fits : Store → Flow A → State → Type 0) (c q : ℕ)
      → InstrAt code input line at (I.Call r first to) → slice_get code.routines r ≡ Some callee → CountsAlike p v now callee r
      → (held : List PlainEntry) (s : State) → IsAt at now held s → HoldsArguments code input callee first args s
      → ((t : State) → IsAt (start_at code r) (now ++ frame_of_call now callee.head r (at + 1) args ∷ []) held t
      → Goes code input line 0 24 fits held (F (body (v ++ frame_of v r links (routine_at p r) taken ∷ []))) t c q)
      → Goes code input line 0 24 fits held (F (enter p body r links v taken)) s (suc c) (suc q)
  enter_goes {A = A} F stays p line at r first to now v callee args links taken body fits c q i there alike held s is reads begins =
      by_depth (nat_lt (length now) 10000) refl (nat_le (live_cells now + callee.head.declared) 1048576) refl
    where
      depth : nat_lt (length v) 10000 ≡ nat_lt (length now) 10000
      depth = ap (λ n. nat_lt n 10000) (sym alike.frames)

      room : nat_le (declared_cells p v + (routine_at p r).declared) 1048576 ≡ nat_le (live_cells now + callee.head.declared) 1048576
      room = ap (λ n. nat_le (n + (routine_at p r).declared) 1048576) (sym alike.cells)
          ∙ ap (λ n. nat_le (live_cells now + n) 1048576) (sym alike.declared)

      entry : Events NoYield
      entry = body (v ++ frame_of v r links (routine_at p r) taken ∷ [])

      choices : Bool → Bool → Events A
      choices a b = F (fault_unless fault.DepthFull a (λ _. fault_unless fault.CellsFull b (λ _. entry)))

      is_so : (a b : Bool) → nat_lt (length now) 10000 ≡ a → nat_le (live_cells now + callee.head.declared) 1048576 ≡ b
          → choices a b ≡ F (enter p body r links v taken)
      is_so a b e f = sym (ap (λ x. choices x (nat_le (declared_cells p v + (routine_at p r).declared) 1048576)) (depth ∙ e)
          ∙ ap (λ y. choices a y) (room ∙ f))

      ends_in_fault : (f : RunFault) → Faults code input line s f → Goes code input line 0 24 fits held (F (Fault f 0)) s (suc c) (suc q)
      ends_in_fault f z = subst (λ x. Goes code input line 0 24 fits held x s (suc c) (suc q)) (sym (stays f 0))
          (1, z.to, omega arith, z.silently, z.is, z.on_line)

      by_depth : (a : Bool) → nat_lt (length now) 10000 ≡ a → (b : Bool) → nat_le (live_cells now + callee.head.declared) 1048576 ≡ b
          → Goes code input line 0 24 fits held (F (enter p body r links v taken)) s (suc c) (suc q)
      by_depth false e b f =
          subst (λ x. Goes code input line 0 24 fits held x s (suc c) (suc q)) (is_so false b e f)
          (ends_in_fault fault.DepthFull (depth_full code input line at r first to now held s callee args is i there reads e))
      by_depth true e false f =
          subst (λ x. Goes code input line 0 24 fits held x s (suc c) (suc q)) (is_so true false e f)
          (ends_in_fault fault.CellsFull (cells_full code input line at r first to now held s callee args is i there reads e f))
      by_depth true e true f =
          let z = call_step code input line at r first to now held s callee args is i there reads e f in
          subst (λ x. Goes code input line 0 24 fits held x s (suc c) (suc q)) (is_so true true e f)
          (before code input line 0 24 fits held (F entry) s z.to 1 (suc c) c (suc q) q z.silently (omega arith) (omega arith)
          (begins z.to z.is))

  -- a call as a test
  pub call_row : (p : Program) (line at r first exit : ℕ) (now : List PlainFrame) (v : Store) (callee : PlainRoutine) (args : List Cell)
      (links : ℕ) (taken : List ArgValue) (body : Store → Events NoYield) (wb w : Ways NoYield) (q : ℕ)
      → InstrAt code input line at (I.Call r first 0) → slice_get code.routines r ≡ Some callee → CountsAlike p v now callee r
      -- the body at the level below, in the frame that the call pushes
      → Runs code input line (start_at code r) exit (now ++ frame_of_call now callee.head r (at + 1) args ∷ []) wb
      (body (v ++ frame_of v r links (routine_at p r) taken ∷ [])) q
      → ((x : Store) (f : Flow NoYield) (t : State) → Leaves exit wb x f t → Returns (at + 1) w x t)
      → (held : List PlainEntry) (s : State) → IsAt at now held s → HoldsArguments code input callee first args s
      → Goes code input line 0 24 (Leaves (at + 1) w) held (as_test (enter p body r links v taken)) s 8 (suc q)
  call_row p line at r first exit now v callee args links taken body wb w q i there alike runs comes_back held s is reads =
      enter_goes as_test (λ f l. refl) p line at r first 0 now v callee args links taken body (Leaves (at + 1) w) 7 q i there alike held s
      is reads
      (λ t begun.
      let entry = body (v ++ frame_of v r links (routine_at p r) taken ∷ []) in
      credited code input line 6 0 0 24 (Leaves (at + 1) w) held (as_test entry) t 7 q (omega arith)
      (as_test_goes line 7 6 0 (at + 1) (Leaves exit wb) w held entry t 7 q (omega arith) comes_back (runs 7 (omega arith) held t begun)))
