-- How a part of a phrase runs, said of its code, its events and the frames in which it begins.
use Rattle.std.proofs.Common.{◌≡◌, ℕ, suc, ◌+◌, ◌-◌, ◌≤◌, List, ◌++◌, refl, sym, subst, arith, ℤ, Option}
use Rattle.alma_code.specs.declared.instr.Instr.TheVariants as I
use Rattle.alma_code.specs.Picture.{PlainFrame, PlainEntry}
use Rattle.alma_code.specs.Plain.{PlainCode}
use Rattle.alma_code.specs.Machine.{State}
use Rattle.alma_mean.specs.Store.{Store}
use Rattle.alma_mean.specs.Events.{Events, Flow, Go, Return, Visit, Print, Alt, Fail, Fault, Cut}
use Rattle.alma_lower_implements.proofs.Goes.{Silently, IsGoing, Goes, no_step, and_then, before, weaker}
use Rattle.alma_lower_implements.proofs.Frames.{IsAt}
use Rattle.alma_lower_implements.proofs.Steps.{InstrAt}
use Rattle.alma_lower_implements.proofs.ChoiceSteps.{jumps}

-- what an alternative leaves: the frames of one that goes on, with its yield, and the frames and the address of one by RETURN
pub record Ways (A : Type 0) : Type 1 where
  pub goes : Store → A → List PlainFrame → Type 0
  pub returns : Store → Option ℤ → (at : ℕ) → List PlainFrame → Type 0

-- an alternative that goes on leaves at the exit
abbrev pub Leaves : {A : Type 0} → (exit : ℕ) → Ways A → Store → Flow A → State → Type 0
Leaves exit w v (Go y) t = (t.at ≡ exit) × w.goes v y t.now
Leaves exit w v (Return n) t = w.returns v n t.at t.now

module _ (code : PlainCode) (input : List ℕ) where
  -- a part that begins with these frames; it leaves what it was given, up to 8 steps
  abbrev pub Runs : {A : Type 0} → (line at exit : ℕ) → List PlainFrame → Ways A → Events A → (q : ℕ) → Type 0
  Runs line at exit now w e q =
      (c : ℕ) → c ≤ 8 → (held : List PlainEntry) (s : State) → IsAt at now held s → Goes code input line c 0 (Leaves exit w) held e s c q

  -- a part inside of a node, from any state that comes to its start in at most 8 steps: what the part begins with pays for them
  abbrev pub Later : {A : Type 0} → (line at exit : ℕ) → List PlainFrame → Ways A → Events A → (q : ℕ) → Type 0
  Later line at exit now w e q =
      (j d : ℕ) → j ≤ 8 → d ≤ q → (held : List PlainEntry) (s u : State) → Silently code input j s u → IsAt at now held u
      → Goes code input line 0 24 (Leaves exit w) held e s 0 d

  -- the events behind the visit with which a part begins
  abbrev pub Visited : {A : Type 0} → (line at exit : ℕ) → List PlainFrame → Ways A → Events A → (q : ℕ) → Type 0
  Visited line at exit now w e q = (held : List PlainEntry) (s : State) → IsAt at now held s
      → Goes code input line 0 24 (Leaves exit w) held e s 24 q

  pub visited_later : {A : Type 0} (line at exit : ℕ) (now : List PlainFrame) (w : Ways A) (e : Events A) (q : ℕ)
      → Visited line at exit now w e q → Later line at exit now w (Visit e) q
  visited_later line at exit now w e q runs j d le owes held s u silently is =
      before code input line 0 24 (Leaves exit w) held e s u j 32 24 d q silently (omega (arith, le)) (omega (arith, owes)) (runs held u is)

  -- the events of a phrase inside of its node, whose visit pays
  abbrev pub Inside : {A : Type 0} → (line at exit : ℕ) → List PlainFrame → Ways A → Events A → (q : ℕ) → Type 0
  Inside line at exit now w e q = (held : List PlainEntry) (s : State) → IsAt at now held s
      → Goes code input line 0 24 (Leaves exit w) held e s 32 q

  -- a part inside of a node, with 8 steps left before it: the parts behind a condition
  abbrev pub Behind : {A : Type 0} → (line at exit : ℕ) → List PlainFrame → Ways A → Events A → (q : ℕ) → Type 0
  Behind line at exit now w e q = (held : List PlainEntry) (s : State) → IsAt at now held s
      → Goes code input line 0 24 (Leaves exit w) held e s 8 q

  pub visited_behind : {A : Type 0} (line at exit : ℕ) (now : List PlainFrame) (w : Ways A) (e : Events A) (q : ℕ)
      → Visited line at exit now w e q → Behind line at exit now w (Visit e) q
  visited_behind line at exit now w e q runs held s is =
      weaker code input line 0 24 (Leaves exit w) held e s 40 24 q q (omega arith) (omega arith) (runs held s is)

  -- so many steps at most, silently, to a state that goes on with the same frames and entries
  abbrev pub LeadsTo : (most at to_at : ℕ) → Type 0
  LeadsTo most at to_at = (now : List PlainFrame) (held : List PlainEntry) (s : State) → IsAt at now held s → (k : ℕ) × (t : State)
      × (k ≤ most) × Silently code input k s t × IsAt to_at now held t

  pub leads_nowhere : (most at : ℕ) → LeadsTo most at at
  leads_nowhere most at now held s is = (0, s, omega arith, no_step code input s, is)

  pub leads_by_jump : (line most at to_at : ℕ) → 1 ≤ most → InstrAt code input line at (I.Jump to_at) → LeadsTo most at to_at
  leads_by_jump line most at to_at le i now held s is = let w = jumps code input line at to_at now held s is i in
      (1, w.to, le, w.silently, w.is)

  pub leads_then : (line most at jump to_at : ℕ) → InstrAt code input line at (I.Jump jump) → LeadsTo most jump to_at
      → LeadsTo (most + 1) at to_at
  leads_then line most at jump to_at i leads now held s is =
      let a = jumps code input line at jump now held s is i in
      let b = leads now held a.to a.is in
      (1 + b.0, b.1, omega (arith, b.2), and_then code input a.silently b.3, b.4)

  -- ---- at most j steps after each alternative, or another word for where it leaves off
  pub then_up_to : {A : Type 0} (line left left2 more j : ℕ) (fits fits2 : Store → Flow A → State → Type 0) (base : List PlainEntry)
      (e : Events A) (s : State) (r q : ℕ) → left2 + j ≤ left
      → ((v : Store) (w : Flow A) (t : State) (held : List PlainEntry) → IsGoing held t → fits v w t → (i : ℕ) × (u : State) × (i ≤ j)
      × Silently code input i t u × IsGoing held u × fits2 v w u)
      → Goes code input line left more fits base e s r q → Goes code input line left2 more fits2 base e s r q
  then_up_to line left left2 more j fits fits2 base Fail s r q le k h = h
  then_up_to line left left2 more j fits fits2 base (Fault x l) s r q le k h = h
  then_up_to line left left2 more j fits fits2 base Cut s r q le k h = h
  then_up_to line left left2 more j fits fits2 base (Visit e) s r q le k h =
      then_up_to line left left2 more j fits fits2 base e s (r + 32) q le k h
  then_up_to line left left2 more j fits fits2 base (Print bytes e) s r q le k h =
      (h.0, h.1, h.2, h.3, h.4, h.5, h.6, then_up_to line left left2 more j fits fits2 base e h.4 (r - suc h.0) (q - suc h.0) le k h.7)
  then_up_to line left left2 more j fits fits2 base (Alt v w e) s r q le k h =
      let z = k v w h.1 (base ++ h.4) h.5 h.6 in (
        h.0 + z.0,
        z.1,
        omega (arith, h.2, z.2),
        and_then code input h.3 z.3,
        h.4,
        z.4,
        z.5,
        λ base2 u like failing. weaker code input line left2 more fits2 base2 e u 0 0 (q - (h.0 + z.0)) (q - h.0) (omega arith)
            (omega arith)
            (then_up_to line left left2 more j fits fits2 base2 e u 0 (q - h.0) le k (h.7 base2 u like failing)),
      )

  -- an alternative that goes on leaves by jumps
  pub leaves_by : {A : Type 0} (m exit most : ℕ) (w : Ways A) → LeadsTo most m exit
      → (v : Store) (f : Flow A) (t : State) (held : List PlainEntry) → IsGoing held t → Leaves m w v f t
      → (i : ℕ) × (u : State) × (i ≤ most) × Silently code input i t u × IsGoing held u × Leaves exit w v f u
  leaves_by m exit most w leads v (Go y) t held going left =
      let z = leads t.now held t (record { mode = going.mode; here = left.0; frames = refl; entries = going.entries }) in
      (z.0, z.1, z.2, z.3, record { mode = z.4.mode; entries = z.4.entries }, (z.4.here, subst (w.goes v y) (sym z.4.frames) left.1))
  leaves_by m exit most w leads v (Return n) t held going left = (0, t, omega arith, no_step code input t, going, left)
