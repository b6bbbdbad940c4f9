-- The row of EITHER.
use Rattle.std.proofs.Common.{ℕ, ◌+◌, List, [], ◌∷◌, ◌++◌, arith, append-nil, ◌∙◌, sym}
use Rattle.alma_code.specs.declared.instr.Instr.TheVariants as I
use Rattle.alma_code.specs.Picture.{PlainFrame, PlainEntry}
use Rattle.alma_code.specs.Plain.{PlainCode}
use Rattle.alma_code.specs.Machine.{State}
use Rattle.alma_mean.specs.Events.{Events, Visit, Fail, join, visit_each, node}
use Rattle.alma_lower_implements.proofs.Goes.{Goes, no_step, before, weaker, join_goes, visited_goes, node_goes, credited}
use Rattle.alma_lower_implements.proofs.Frames.{IsAt}
use Rattle.alma_lower_implements.proofs.Steps.{InstrAt}
use Rattle.alma_lower_implements.proofs.ChoiceSteps.{branch_entry, choose_step, pop_step}
use Rattle.alma_lower_implements.proofs.Ways.{Ways, Leaves, Runs, Later, Visited, Inside, LeadsTo, then_up_to, leaves_by}

module _ (code : PlainCode) (input : List ℕ) where
  -- the node of a list that is a part, from a state that comes to its start with 8 steps left
  pub inner_goes : {A : Type 0} (line at m exit : ℕ) (now : List PlainFrame) (w : Ways A) (e : Events A) (q : ℕ)
      → LeadsTo code input 8 m exit → Runs code input line at m now w e q
      → (held : List PlainEntry) (s : State) → IsAt at now held s → Goes code input line 0 24 (Leaves exit w) held (visit_each e) s 8 q
  inner_goes line at m exit now w e q leads runs held s is =
      credited code input line 32 0 0 24 (Leaves exit w) held (visit_each e) s 8 q (omega arith)
      (then_up_to code input line 40 32 0 8 (Leaves m w) (Leaves exit w) held (visit_each e) s 8 q (omega arith)
      (leaves_by code input m exit 8 w leads)
      (visited_goes code input line 8 40 0 (Leaves m w) held e s 8 q (omega arith) (runs 8 (omega arith) held s is)))

  -- a branch that is not the last, and what is behind it: a choice entry goes on there with the frames of its beginning
  pub branch_row : {A : Type 0} (line at m next exit : ℕ) (now : List PlainFrame) (w : Ways A) (e rest : Events A) (q : ℕ)
      → InstrAt code input line at (I.Choose next) → LeadsTo code input 8 m exit → Runs code input line (at + 1) m now w e q
      → Later code input line next exit now w rest q → Visited code input line at exit now w (join (visit_each e) rest) q
  branch_row line at m next exit now w e rest q choose leads runs later held s is =
      let z = choose_step code input line at next now held s is choose in
      join_goes code input line 0 24 (Leaves exit w) held (branch_entry next now ∷ []) (visit_each e) rest s 24 q
      (before code input line 0 24 (Leaves exit w) (held ++ branch_entry next now ∷ []) (visit_each e) s z.to 1 24 8 q q z.silently
      (omega arith) (omega arith)
      (inner_goes line (at + 1) m exit now w e q leads runs (held ++ branch_entry next now ∷ []) z.to z.is))
      (λ base2 x like failing.
      let y = pop_step code input next now base2 x failing in
      later 1 q (omega arith) (omega arith) base2 x y.to y.silently y.is)

  -- the last branch leaves no entry
  pub last_branch_row : {A : Type 0} (line at m exit : ℕ) (now : List PlainFrame) (w : Ways A) (e : Events A) (q : ℕ)
      → LeadsTo code input 8 m exit → Runs code input line at m now w e q
      → Visited code input line at exit now w (join (visit_each e) Fail) q
  last_branch_row line at m exit now w e q leads runs held s is =
      join_goes code input line 0 24 (Leaves exit w) held [] (visit_each e) Fail s 24 q
      (weaker code input line 0 24 (Leaves exit w) (held ++ []) (visit_each e) s 24 8 q q (omega arith) (omega arith)
      (inner_goes line at m exit now w e q leads runs (held ++ []) s
      (record { mode = is.mode; here = is.here; frames = is.frames; entries = is.entries ∙ sym (append-nil held) })))
      (λ base2 x like failing. (
        0,
        x,
        omega arith,
        no_step code input x,
        record { mode = failing.mode; entries = failing.entries ∙ append-nil base2 },
      ))

  -- what begins with a visit is inside of a node too
  pub visited_inside : {A : Type 0} (line at exit : ℕ) (now : List PlainFrame) (w : Ways A) (e : Events A) (q : ℕ)
      → Visited code input line at exit now w e q → Inside code input line at exit now w (Visit e) q
  visited_inside line at exit now w e q runs held s is =
      weaker code input line 0 24 (Leaves exit w) held e s 64 24 q q (omega arith) (omega arith) (runs held s is)

  pub node_row : {A : Type 0} (line at exit : ℕ) (now : List PlainFrame) (w : Ways A) (e : Events A) (q : ℕ)
      → Inside code input line at exit now w e q → Runs code input line at exit now w (node e) q
  node_row line at exit now w e q inside c le held s is =
      credited code input line 8 c 0 0 (Leaves exit w) held (node e) s c q (omega arith)
      (node_goes code input line 0 8 24 (Leaves exit w) held e s c q (omega arith)
      (weaker code input line 0 24 (Leaves exit w) held e s (c + 32) 32 q q (omega arith) (omega arith) (inside held s is)))
