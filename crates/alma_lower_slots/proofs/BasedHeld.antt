-- Stacks of based entries: what a push, a fall and a change of carries leave of them, and states that have them.
use Rattle.std.proofs.Common.{◌≡◌, ℕ, zero, suc, ◌-◌, ◌<◌, ◌≤◌, inl, inr, List, [], ◌∷◌, ◌++◌, length, get_or, set, take, refl, sym}
use Rattle.std.proofs.Common.{ap, ◌∙◌, subst, arith, Option, Some, None, get_or-set_same, get_or-set_other, length-set}
use Rattle.std.specs.Prelude.{ℤ, map}
use Rattle.std.proofs.lemmas.Bool.{cases_eq}
use Rattle.std.proofs.lemmas.List.{length-append, length-take-le, get_or-take, take-take, take-append-le, take_all, length-map}
use Rattle.std.proofs.lemmas.Option.{slice_get-get_or}
use Rattle.std.proofs.Math.ListN.{get_or-append, get_or-map}
use Rattle.std.proofs.Math.Seq.{get_or-append_seam}
use Rattle.alma_code.specs.declared.cell.Cell.{Cell}
use Rattle.alma_code.specs.declared.cell.Cell.TheVariants as cell
use Rattle.alma_code.specs.declared.cell.ChoiceKind.{ChoiceKind}
use Rattle.alma_code.specs.declared.cell.ChoiceKind.TheVariants as choice
use Rattle.alma_code.specs.declared.cell.SlotKind.{SlotKind}
use Rattle.alma_code.specs.declared.cell.SlotKind.TheVariants as slot
use Rattle.alma_code.specs.Machine.{Going, State, StepResult, as_number, as_mark, to_mark, state_after_push}
use Rattle.alma_code.specs.Picture.{PlainEntry, no_entry, entry_at, kind_at}
use Rattle.alma_code.specs.Plain.{PlainCode}
use Rattle.alma_lower_slots.proofs.Based.{AtFinish, BasedBy, BasedEntry, BasedState}
use Rattle.alma_lower_slots.proofs.Bases.{based_lower}
use Rattle.alma_lower_slots.proofs.CalmActs.{Calm}

-- no entry is a Done
abbrev pub NoDone : List PlainEntry → Type 0
NoDone held = (h : ℕ) → 1 ≤ h → h ≤ length held → (entry_at held h).kind ≡ choice.Done → ⊥

-- the kind of an entry that is there
pub kind_there : (held : List PlainEntry) (h : ℕ) → 1 ≤ h → h ≤ length held → kind_at held h ≡ Some (entry_at held h).kind
kind_there held zero some le = absurd (omega arith)
kind_there held (suc k) some le =
    let z : suc k - 1 ≡ k = omega arith in
    subst (λ j. kind_at held (suc k) ≡ Some (get_or held j no_entry).kind) (sym z)
    (slice_get-get_or (map (λ e. e.kind) held) k choice.Branch (omega (arith, length-map held (λ e. e.kind)))
    ∙ ap Some (get_or-map (λ e. e.kind) held k no_entry))

-- two stacks of which the entries differ in their carries at most
pub record SameEntries (held others : List PlainEntry) : Type 0 where
  pub count : length others ≡ length held
  pub kind : (k : ℕ) → k < length held → (get_or others k no_entry).kind ≡ (get_or held k no_entry).kind
  pub resume : (k : ℕ) → k < length held → (get_or others k no_entry).resume ≡ (get_or held k no_entry).resume
  pub frames : (k : ℕ) → k < length held → (get_or others k no_entry).frames ≡ (get_or held k no_entry).frames

-- one entry gets another carry
pub same_entries : (held : List PlainEntry) (i : ℕ) (e : PlainEntry) → e.kind ≡ (get_or held i no_entry).kind
    → e.resume ≡ (get_or held i no_entry).resume → e.frames ≡ (get_or held i no_entry).frames → SameEntries held (set held i e)
same_entries held i e kind resume frames =
    let here : (k : ℕ) → k < length held → k ≡ i → get_or (set held i e) k no_entry ≡ e =
    λ k lk q. ap (λ j. get_or (set held i e) j no_entry) q ∙ get_or-set_same held i e no_entry (omega arith) in
    record {
      count = length-set held i e;
      kind = λ k lk. elim (cases_eq k i) [
        | inl q ↦ ap (λ x. x.kind) (here k lk q) ∙ kind ∙ ap (λ j. (get_or held j no_entry).kind) (sym q)
        | inr ne ↦ ap (λ x. x.kind) (get_or-set_other held i k e no_entry ne)
      ];
      resume = λ k lk. elim (cases_eq k i) [
        | inl q ↦ ap (λ x. x.resume) (here k lk q) ∙ resume ∙ ap (λ j. (get_or held j no_entry).resume) (sym q)
        | inr ne ↦ ap (λ x. x.resume) (get_or-set_other held i k e no_entry ne)
      ];
      frames = λ k lk. elim (cases_eq k i) [
        | inl q ↦ ap (λ x. x.frames) (here k lk q) ∙ frames ∙ ap (λ j. (get_or held j no_entry).frames) (sym q)
        | inr ne ↦ ap (λ x. x.frames) (get_or-set_other held i k e no_entry ne)
      ];
    }

-- ---- no Done

-- among the lowest entries
pub no_done_taken : (n : ℕ) (held : List PlainEntry) → n ≤ length held
    → ((h : ℕ) → 1 ≤ h → h ≤ n → (entry_at held h).kind ≡ choice.Done → ⊥) → NoDone (take n held)
no_done_taken n held few none h some le e =
    let len = length-take-le n held few in
    none h some (omega arith) (subst (λ x. x.kind ≡ choice.Done) (get_or-take n held (h - 1) no_entry (omega arith)) e)

-- with one entry more
pub no_done_pushed : (held : List PlainEntry) (x : PlainEntry) → NoDone held → (x.kind ≡ choice.Done → ⊥) → NoDone (held ++ x ∷ [])
no_done_pushed held x none is h some le e =
    let len = length-append held (x ∷ []) in
    elim (cases_eq (h - 1) (length held)) [
      | inl q ↦
          let same : get_or (held ++ x ∷ []) (h - 1) no_entry ≡ x = ap (λ j. get_or (held ++ x ∷ []) j no_entry) q
          ∙ get_or-append_seam held x [] no_entry in
          is (subst (λ y. y.kind ≡ choice.Done) same e)
      | inr ne ↦
          none h some (omega arith)
          (subst (λ y. y.kind ≡ choice.Done) (get_or-append held (x ∷ []) no_entry (h - 1) (omega arith)) e)
    ]

-- where carries differ
pub no_done_same : (held others : List PlainEntry) → SameEntries held others → NoDone held → NoDone others
no_done_same held others same none h some le e =
    none h some (omega (arith, same.count)) (sym (same.kind (h - 1) (omega (arith, same.count))) ∙ e)

module _ (code : PlainCode) where
  -- each entry is based on those below it
  abbrev pub Entries : List PlainEntry → Type 0
  Entries held = (h : ℕ) → 1 ≤ h → h ≤ length held → BasedEntry code (entry_at held h) (take (h - 1) held)

  -- the lowest entries
  pub entries_taken : (n : ℕ) (held : List PlainEntry) → n ≤ length held → Entries held → Entries (take n held)
  entries_taken n held few all h some le =
      let len = length-take-le n held few in
      subst (λ x. BasedEntry code x (take (h - 1) (take n held))) (sym (get_or-take n held (h - 1) no_entry (omega arith)))
      (subst (λ xs. BasedEntry code (entry_at held h) xs) (sym (take-take (h - 1) n held (omega arith))) (all h some (omega arith)))

  -- one entry more
  pub entries_pushed : (held : List PlainEntry) (x : PlainEntry) → Entries held → BasedEntry code x held → Entries (held ++ x ∷ [])
  entries_pushed held x all one h some le =
      let len = length-append held (x ∷ []) in
      let below : take (h - 1) (held ++ x ∷ []) ≡ take (h - 1) held = take-append-le (h - 1) held (x ∷ []) (omega arith) in
      subst (λ xs. BasedEntry code (entry_at (held ++ x ∷ []) h) xs) (sym below)
      (elim (cases_eq (h - 1) (length held)) [
        | inl q ↦
            let same : get_or (held ++ x ∷ []) (h - 1) no_entry ≡ x = ap (λ j. get_or (held ++ x ∷ []) j no_entry) q
            ∙ get_or-append_seam held x [] no_entry in
            subst (λ y. BasedEntry code y (take (h - 1) held)) (sym same)
            (subst (λ xs. BasedEntry code x xs) (sym (take_all (h - 1) held (omega arith))) one)
        | inr ne ↦
            subst (λ y. BasedEntry code y (take (h - 1) held)) (sym (get_or-append held (x ∷ []) no_entry (h - 1) (omega arith)))
            (all h some (omega arith))
      ])

  -- other carries
  pub entries_same : (held others : List PlainEntry) → SameEntries held others → Entries held → Entries others
  entries_same held others same all h some le =
      let k : ℕ = h - 1 in
      let count = same.count in
      let lk : k < length held = omega arith in
      let b = all h some (omega arith) in
      let x = get_or others k no_entry in
      let len = length-take-le k held (omega arith) in
      let len2 = length-take-le k others (omega arith) in
      let by : BasedBy code b.base x.frames (take k held) =
      subst (λ fs. BasedBy code b.base fs (take k held)) (sym (same.frames k lk)) b.by in
      record {
        base = b.base;
        by = based_lower code b.base x.frames (take k held) (take k others) by (omega arith)
            (λ f lf. omega (arith, by.low f lf))
            (λ j lj. ap (λ y. y.frames) (get_or-take k others j no_entry (omega arith)) ∙ same.frames j (omega arith)
            ∙ sym (ap (λ y. y.frames) (get_or-take k held j no_entry (omega arith))));
        forall = λ e. subst (λ n. AtFinish code n) (sym (same.resume k lk)) (b.forall (sym (same.kind k lk) ∙ e));
        finish = λ e.
            let f = b.finish (subst (λ n. AtFinish code n) (same.resume k lk) e) in
            (λ q. f.0 (sym (same.kind k lk) ∙ q), λ q. f.1 (sym (same.kind k lk) ∙ q));
      }

  -- ---- states

  -- the machine goes on, and not at a Finish
  pub settled : (base : ℕ → ℕ) (t : State) (held : List PlainEntry) → t.held ≡ held → BasedBy code base t.now held
      → (AtFinish code t.at → ⊥) → Entries held → NoDone held → BasedState code t
  settled base t held same by at all none =
      let all2 : Entries t.held = subst (λ xs. Entries xs) (sym same) all in
      let none2 : NoDone t.held = subst (λ xs. NoDone xs) (sym same) none in
      record {
        now = λ g. record {
          base = base;
          by = subst (λ xs. BasedBy code base t.now xs) (sym same) by;
          finish = λ e. absurd (at e);
        };
        held = all2;
        done = λ h some le e. absurd (none2 h some le e);
      }

  -- after most instructions it does
  pub calm_settled : (base : ℕ → ℕ) (old : List PlainEntry) (t : State) → Calm code base old t → Entries old → NoDone old
      → BasedState code t
  calm_settled base old t h all none = settled base t old h.held h.by h.at all none

  -- the machine does not go on
  pub stopped : (t : State) → (t.mode ≡ Going → ⊥) → Entries t.held → NoDone t.held → BasedState code t
  stopped t stops all none = record {
    now = λ g. absurd (stops g);
    held = all;
    done = λ h some le e. absurd (none h some le e);
  }

  -- the state after a step
  abbrev pub Leaves : StepResult → Type 0
  Leaves x = BasedState code x.state

  -- a cell is read as a number
  pub as_number_leaves : (o : Option Cell) (t : State) (k : ℤ → StepResult) → Entries t.held → NoDone t.held → ((v : ℤ) → Leaves (k v))
      → Leaves (as_number o t k)
  as_number_leaves (Some (cell.Int v)) t k all none g = g v
  as_number_leaves (Some cell.Unknown) t k all none g = stopped _ (λ e. absurd (cc)) all none
  as_number_leaves (Some cell.Unset) t k all none g = stopped _ (λ e. absurd (cc)) all none
  as_number_leaves (Some (cell.Place p)) t k all none g = stopped _ (λ e. absurd (cc)) all none
  as_number_leaves (Some (cell.Mark m)) t k all none g = stopped _ (λ e. absurd (cc)) all none
  as_number_leaves None t k all none g = stopped _ (λ e. absurd (cc)) all none

  -- a cell is read as a mark
  pub as_mark_leaves : (o : Option Cell) (t : State) (k : ℕ → StepResult) → Entries t.held → NoDone t.held
      → ((m : ℕ) → o ≡ Some (cell.Mark m) → Leaves (k m)) → Leaves (as_mark o t k)
  as_mark_leaves (Some (cell.Mark m)) t k all none g = g m refl
  as_mark_leaves (Some cell.Unset) t k all none g = stopped _ (λ e. absurd (cc)) all none
  as_mark_leaves (Some cell.Unknown) t k all none g = stopped _ (λ e. absurd (cc)) all none
  as_mark_leaves (Some (cell.Int v)) t k all none g = stopped _ (λ e. absurd (cc)) all none
  as_mark_leaves (Some (cell.Place p)) t k all none g = stopped _ (λ e. absurd (cc)) all none
  as_mark_leaves None t k all none g = stopped _ (λ e. absurd (cc)) all none

  -- the slot that is written is a mark slot
  pub to_mark_leaves : (o : Option SlotKind) (t : State) (k : Unit {0} → StepResult) → Entries t.held → NoDone t.held → Leaves (k tt)
      → Leaves (to_mark o t k)
  to_mark_leaves (Some slot.Mark) t k all none g = g
  to_mark_leaves (Some slot.Number) t k all none g = stopped _ (λ e. absurd (cc)) all none
  to_mark_leaves (Some (slot.Place l)) t k all none g = stopped _ (λ e. absurd (cc)) all none
  to_mark_leaves (Some (slot.Link q)) t k all none g = stopped _ (λ e. absurd (cc)) all none
  to_mark_leaves None t k all none g = stopped _ (λ e. absurd (cc)) all none

  -- an entry of the kind may go on at the address
  pub record GoesOn (kind : ChoiceKind) (resume : ℕ) : Type 0 where
    pub forall : kind ≡ choice.Forall → AtFinish code resume
    pub finish : AtFinish code resume → (kind ≡ choice.Branch → ⊥) × (kind ≡ choice.Body → ⊥)
    pub some : kind ≡ choice.Done → ⊥

  -- an entry is pushed, and the machine goes on with these frames
  pub pushed_leaves : (base : ℕ → ℕ) (u : State) (kind : ChoiceKind) (resume : ℕ) → BasedBy code base u.now u.held → Entries u.held
      → NoDone u.held → GoesOn kind resume
      → (t : State) → t.held ≡ (state_after_push u kind resume).held
      → BasedBy code base t.now (state_after_push u kind resume).held → (AtFinish code t.at → ⊥) → BasedState code t
  pushed_leaves base u kind resume by all none goes t same now at =
      let x : PlainEntry = record { kind = kind; resume = resume; frames = u.now; carry = [] } in
      settled base t (u.held ++ x ∷ []) same now at
      (entries_pushed u.held x all (record { base = base; by = by; forall = goes.forall; finish = goes.finish }))
      (no_done_pushed u.held x none goes.some)
