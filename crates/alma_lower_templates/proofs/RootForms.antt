-- The root of a designator, from template to run: its place goes into a slot, the first of the designator or any other.
use Rattle.std.proofs.Common.{◌≡◌, ℕ, zero, suc, ◌+◌, ◌-◌, ◌<◌, ◌≤◌, List, [], ◌∷◌, ◌++◌, length, get_or, Some, refl, sym, ap, ◌∙◌, subst}
use Rattle.std.proofs.Common.{arith}
use Rattle.std.specs.Prelude.{slice_get}
use Rattle.std.proofs.lemmas.Option.{slice_get-get_or, get_or_from_slice_get}
use Rattle.alma_base.specs.declared.fault.RunFault.TheVariants as fault
use Rattle.alma_code.specs.declared.cell.Cell.{Cell}
use Rattle.alma_code.specs.declared.cell.Cell.TheVariants as cell
use Rattle.alma_code.specs.declared.cell.CellPlace.{CellPlace}
use Rattle.alma_code.specs.declared.cell.SlotKind.TheVariants as slot
use Rattle.alma_code.specs.declared.instr.Instr.{Instr}
use Rattle.alma_code.specs.declared.instr.Instr.TheVariants as I
use Rattle.alma_code.specs.Picture.{PlainFrame, PlainEntry, last_frame}
use Rattle.alma_code.specs.Picture as picture
use Rattle.alma_code.specs.Plain.{PlainCode, kinds_at}
use Rattle.alma_code.specs.Machine.{State, act, as_place, put_place, link_to, slot_in}
use Rattle.alma_ir.specs.declared.phrase.Root.{Root}
use Rattle.alma_ir.specs.declared.phrase.Root.TheVariants as root
use Rattle.alma_ir.specs.Tree.{Program, routine_at}
use Rattle.alma_ir.specs.Checked.{IsNested, outer_at}
use Rattle.alma_mean.specs.Store.{Store, Place, Unknown, Number, At, top, up, cell_at}
use Rattle.alma_mean.specs.Store as store
use Rattle.alma_mean.specs.Events.{Events, one, bind}
use Rattle.alma_mean.specs.Rows.{root_place, place_held}
use Rattle.alma_lower_implements.proofs.Goes.{before}
use Rattle.alma_lower_implements.proofs.Frames.{shift, shift_in, own_end, StandFor, SameContent, AreNumbers, SamePlace, HasSlots, IsAt}
use Rattle.alma_lower_implements.proofs.FrameLemmas.{fits_less}
use Rattle.alma_lower_implements.proofs.ExprRows.{first_kind, slots_behind, AreVariables}
use Rattle.alma_lower_implements.proofs.LinkRows.{LinkedUp, linked_up, up_live, up_routine, ChainsAt, AreLinks, link_goes}
use Rattle.alma_lower_implements.proofs.Steps.{Holds, InstrAt, Writes, Faults, passed, does, place_is, faults_now, here_too, local_step}
use Rattle.alma_lower_implements.proofs.Steps.{outer_step, outer_same_step}
use Rattle.alma_lower_implements.proofs.Ways.{Leaves}
use Rattle.alma_lower_templates.specs.LineInstr.{own}
use Rattle.alma_lower_templates.specs.Tables.{Tables}
use Rattle.alma_lower_templates.specs.Slots.{root_slots, chain_slots}
use Rattle.alma_lower_templates.specs.Pieces.{link_code, chain_code}
use Rattle.alma_lower_templates.specs.Stands.{Stands}
use Rattle.alma_lower_templates.proofs.Parts.{Begins, begins, Left, has_kind, IsPlace, From, leaving, from_more, alone_from, faults_here}
use Rattle.alma_lower_templates.proofs.Parts.{on_from, left_on, sound_after, place_goes_on}
use Rattle.alma_lower_templates.proofs.PlaceSteps.{global_step, same_step}
use Rattle.alma_lower_templates.proofs.Placed.{root_to}

module _ (p : Program) (code : PlainCode) (input : List ℕ) where
  -- number slots of a live frame
  pub frame_numbers : (f r from cells : ℕ) (v : Store) (now : List PlainFrame) → StandFor p code v now → f < length v
      → (get_or v f store.no_frame).routine ≡ r → AreVariables p code input r from cells
      → AreNumbers p code v now (record { frame = f; slot = from; size = cells })
  frame_numbers f r from cells v now stand live is h =
      let same = stand.frames f live in
      let slots : length (get_or v f store.no_frame).cells ≡ (routine_at p r).slots = same.slots ∙ ap (λ x. (routine_at p x).slots) is in
      let kinds : (get_or now f picture.no_frame).kinds ≡ kinds_at code r = same.kinds ∙ ap (kinds_at code) (sym same.routine ∙ is) in
      let shifts : shift p r ≡ shift_in p v f = ap (shift p) (sym is) in
      record {
        frame = live;
        cells = λ k lt. omega (arith, lt, h.exist, slots);
        kinds = λ k lt.
            subst (λ m. get_or (get_or now f picture.no_frame).kinds (m + (from + k)) slot.Mark ≡ slot.Number) shifts
            (get_or_from_slice_get (get_or now f picture.no_frame).kinds (shift p r + (from + k)) slot.Number slot.Mark
            (ap (λ ks. slice_get ks (shift p r + (from + k))) kinds ∙ h.numbers k lt));
        free = λ e. h.free (sym is ∙ ap (λ n. (get_or v n store.no_frame).routine) e ∙ stand.main);
      }

  -- a slot of a live frame for a place, in the store and in the machine
  pub data HeldIs (v : Store) (now : List PlainFrame) (f i n : ℕ) : Type 0 where
    a_place : (a : Place) (c : CellPlace) → cell_at v f i ≡ At a → slice_get (get_or now f picture.no_frame).cells n ≡ Some (cell.Place c)
        → SamePlace p v a c → HeldIs v now f i n
    no_place : cell_at v f i ≡ Unknown → slice_get (get_or now f picture.no_frame).cells n ≡ Some cell.Unset → HeldIs v now f i n

  -- the slot of a parameter that holds a place
  pub record IsParam (r from cells : ℕ) : Type 0 where
    pub exists : from < (routine_at p r).slots
    pub kind : slice_get (kinds_at code r) (shift p r + from) ≡ Some (slot.Place cells)

  pub held_is : (f r i l : ℕ) (v : Store) (now : List PlainFrame) → StandFor p code v now → f < length v
      → (get_or v f store.no_frame).routine ≡ r → IsParam r i l → HeldIs v now f i (shift p r + i)
  held_is f r i l v now stand live is h =
      let there : i < length (get_or v f store.no_frame).cells = omega (arith, h.exists, slots) in
      by (cell_at v f i) (get_or (get_or now f picture.no_frame).cells (shift p r + i) cell.Unset) refl refl
      (subst (λ k. SameContent p v k (cell_at v f i) (get_or (get_or now f picture.no_frame).cells (shift p r + i) cell.Unset)) kind
      (subst (λ m. SameContent p v (get_or (get_or now f picture.no_frame).kinds (m + i) slot.Mark) (cell_at v f i)
      (get_or (get_or now f picture.no_frame).cells (m + i) cell.Unset)) shifts ((stand.frames f live).cells i there)))
    where
      slots : length (get_or v f store.no_frame).cells ≡ (routine_at p r).slots
      slots = (stand.frames f live).slots ∙ ap (λ x. (routine_at p x).slots) is

      shifts : shift_in p v f ≡ shift p r
      shifts = ap (shift p) is

      kind : get_or (get_or now f picture.no_frame).kinds (shift p r + i) slot.Mark ≡ slot.Place l
      kind =
          let kinds : (get_or now f picture.no_frame).kinds ≡ kinds_at code r = (stand.frames f live).kinds
          ∙ ap (kinds_at code) (sym (stand.frames f live).routine ∙ is) in
          get_or_from_slice_get (get_or now f picture.no_frame).kinds (shift p r + i) (slot.Place l) slot.Mark
          (ap (λ ks. slice_get ks (shift p r + i)) kinds ∙ h.kind)

      holds : (c : Cell) → get_or (get_or now f picture.no_frame).cells (shift p r + i) cell.Unset ≡ c
          → slice_get (get_or now f picture.no_frame).cells (shift p r + i) ≡ Some c
      holds c e = slice_get-get_or (get_or now f picture.no_frame).cells (shift p r + i) cell.Unset
          (omega (arith, h.exists, slots, (stand.frames f live).within, shifts)) ∙ ap Some e

      by : (x : store.Cell) (d : Cell) → cell_at v f i ≡ x → get_or (get_or now f picture.no_frame).cells (shift p r + i) cell.Unset ≡ d
          → SameContent p v (slot.Place l) x d → HeldIs v now f i (shift p r + i)
      by (At a) (cell.Place c) e g content = a_place a c e (holds (cell.Place c) g) content
      by Unknown cell.Unset e g content = no_place e (holds cell.Unset g)
      by (At a) cell.Unset e g content = absurd content
      by (At a) cell.Unknown e g content = absurd content
      by (At a) (cell.Int x) e g content = absurd content
      by (At a) (cell.Mark x) e g content = absurd content
      by Unknown (cell.Place c) e g content = absurd content
      by Unknown cell.Unknown e g content = absurd content
      by Unknown (cell.Int x) e g content = absurd content
      by Unknown (cell.Mark x) e g content = absurd content
      by (Number x) d e g content = absurd content

  -- ---- links

  chain_first : (links s r lo : ℕ) → HasSlots p code r lo (chain_slots p s links) → slice_get (kinds_at code r) lo ≡ Some (slot.Link s)
  chain_first zero s r lo h = first_kind p code input r lo (slot.Link s) [] h
  chain_first (suc k) s r lo h = first_kind p code input r lo (slot.Link s) (chain_slots p (routine_at p s).outer k) h

  links_are : (line links s r lo : ℕ) → HasSlots p code r lo (chain_slots p s links) → AreLinks p code input line r lo links
  links_are line zero s r lo h = tt
  links_are line (suc k) s r lo h =
      let rest = slots_behind p code input r lo (slot.Link s ∷ []) (chain_slots p (routine_at p s).outer k) h in (
        ((routine_at p s).outer, chain_first k (routine_at p s).outer r (lo + 1) rest),
        links_are line k (routine_at p s).outer r (lo + 1) rest,
      )

  chains_stand : (line links at from : ℕ) (rest : List Instr) → Stands code at (own line (chain_code from links ++ rest))
      → ChainsAt p code input line at from links × Stands code (at + links) (own line rest)
  chains_stand line zero at from rest h = let e : at ≡ at + 0 = omega arith in (tt, subst (λ n. Stands code n (own line rest)) e h)
  chains_stand line (suc k) at from rest h =
      let z = chains_stand line k (at + 1) (from + 1) rest h.2 in
      let e : at + 1 + k ≡ at + suc k = omega arith in
      ((record { instr = h.0; on_line = h.1 }, z.0), subst (λ n. Stands code n (own line rest)) e z.1)

  chain_long : (line links from : ℕ) (i : Instr) → length (own line (chain_code from links ++ (i ∷ []))) ≡ links + 1
  chain_long line zero from i = refl
  chain_long line (suc k) from i = let e : suc (k + 1) ≡ suc k + 1 = omega arith in ap suc (chain_long line k (from + 1) i) ∙ e

  -- ---- the forms of roots

  -- the place goes into the slot `end`; `low` is the first slot of the phrase, and those of a root begin at `lo`
  module _ (line q exit low end lo r : ℕ) (v : Store) (behind : own_end p r ≤ low) (above : low ≤ end) (under : low ≤ lo) {B : Type 0}
      (yields : Store → B → List PlainFrame → Type 0) (k : Store → Place → Events B) where
    abbrev pub GoesOnAt : (next cells : ℕ) → List PlainFrame → Type 0
    GoesOnAt next cells now = (a : Place) (t : List PlainFrame) → Left p code input low r now v t → IsPlace p code input end cells v a t
        → From p code input line 8 next exit t (leaving p code input low r t yields) (k v a) q

    abbrev pub Taken : (at : ℕ) → List PlainFrame → Events Place → Type 0
    Taken at now e = From p code input line 9 at exit now (leaving p code input low r now yields) (bind e k) q

    abbrev WritesPlace : (at : ℕ) → List PlainFrame → CellPlace → Type 0
    WritesPlace at now m = (held : List PlainEntry) (s : State) → IsAt at now held s → Writes code input at now held s end (cell.Place m)

    -- a place of variables in a live frame, by one step
    variables_from : (at f r2 from cells : ℕ) (now : List PlainFrame) → Begins p code input r v now
        → slice_get (kinds_at code r) end ≡ Some (slot.Place cells) → f < length v → (get_or v f store.no_frame).routine ≡ r2
        → AreVariables p code input r2 from cells
        → WritesPlace at now (record { frame = f; slot = shift p r2 + from; len = cells }) → GoesOnAt (at + 1) cells now
        → Taken at now (one v (record { frame = f; slot = from; size = cells }))
    variables_from at f r2 from cells now b kind live is h w later =
        let a : Place = record { frame = f; slot = from; size = cells } in
        let m : CellPlace = record { frame = f; slot = shift p r2 + from; len = cells } in
        alone_from p code input line 9 at exit now (leaving p code input low r now yields) (k v a) q
        (place_goes_on p code input line 8 at exit low r end cells v now a m yields (k v a) q behind above kind b
        (frame_numbers f r2 from cells v now b.stand live is h) refl
        (record { frame = refl; slot = ap (λ x. shift p x + from) is; size = refl }) w (λ t left place. later a t left place))

    -- a place that a slot of a live frame holds
    held_from : (at f r2 from cells : ℕ) (now : List PlainFrame) → Begins p code input r v now
        → slice_get (kinds_at code r) end ≡ Some (slot.Place cells) → f < length v → (get_or v f store.no_frame).routine ≡ r2
        → IsParam r2 from cells
        → ((c : CellPlace) → slice_get (get_or now f picture.no_frame).cells (shift p r2 + from) ≡ Some (cell.Place c)
        → WritesPlace at now (record { frame = c.frame; slot = c.slot; len = cells }))
        → (slice_get (get_or now f picture.no_frame).cells (shift p r2 + from) ≡ Some cell.Unset → (held : List PlainEntry) (s : State)
        → IsAt at now held s → Faults code input line s fault.Unknown)
        → GoesOnAt (at + 1) cells now → Taken at now (place_held v (cell_at v f from))
    held_from at f r2 from cells now b kind live is h w none later = by (held_is f r2 from cells v now b.stand live is h)
      where
        kind_there : slice_get (kinds_at code (get_or v f store.no_frame).routine) (shift_in p v f + from) ≡ Some (slot.Place cells)
        kind_there = subst (λ x. slice_get (kinds_at code x) (shift p x + from) ≡ Some (slot.Place cells)) (sym is) h.kind

        by : HeldIs v now f from (shift p r2 + from) → Taken at now (place_held v (cell_at v f from))
        by (a_place a c e there same) =
            let sized : a.size ≡ cells = b.sound.sized f from cells a live kind_there e in
            subst (λ x. Taken at now (place_held v x)) (sym e)
            (alone_from p code input line 9 at exit now (leaving p code input low r now yields) (k v a) q
            (place_goes_on p code input line 8 at exit low r end cells v now a (record { frame = c.frame; slot = c.slot; len = cells })
            yields
            (k v a) q behind above kind b (b.sound.live f from a live e) sized
            (record { frame = same.frame; slot = same.slot; size = sized }) (w c there) (λ t left place. later a t left place)))
        by (no_place e there) =
            subst (λ x. Taken at now (place_held v x)) (sym e)
            (faults_here p code input line 8 at exit now (leaving p code input low r now yields) fault.Unknown q (none there))

    -- a link to a frame up, in front of a step that uses it
    linked_from : (at links : ℕ) (now : List PlainFrame) (rest : List Instr) (e : Events Place) → Begins p code input r v now
        → ((s : ℕ) → s < length p.routines → IsNested p s (routine_at p s)) → links < (routine_at p r).level
        → HasSlots p code r (lo + 1) (chain_slots p r links) → Stands code at (own line (link_code (lo + 1) links ++ rest))
        → ((t : List PlainFrame) → Begins p code input r v t → LinkedUp p v (top v) links
        → Holds t (lo + 1 + links) (cell.Place (link_to (up v links))) → Stands code (at + 1 + links) (own line rest)
        → Left p code input low r now v t → Taken (at + 1 + links) t e)
        → From p code input line 24 at exit now (leaving p code input low r now yields) (bind e k) q
    linked_from at links now rest e b nested few slots stands later held s is =
        let live : top v < length v = omega (arith, b.stand.some) in
        let there : r < length p.routines = subst (λ x. x < length p.routines) b.routine (b.sound.routines (top v) live) in
        let short = (nested r there).few in
        let up_there : LinkedUp p v (top v) links =
        linked_up p code v now (top v) links nested b.sound.routines b.sound.main b.stand live
        (subst (λ x. links < (routine_at p x).level) (sym b.routine) few) in
        let z = chains_stand line links (at + 1) (lo + 1) rest stands.2 in
        let l = link_goes p code input line links at (lo + 1) r v now held s (omega (arith, behind, under)) is b.stand b.routine up_there
        (record { instr = stands.0; on_line = stands.1 }) r (chain_first links r r (lo + 1) slots) z.0
        (links_are line links r r (lo + 1) slots) in
        let left : Left p code input low r now v l.frames =
        record {
          fits = fits_less p code low (lo + 1) v now l.frames (omega (arith, under)) l.fits;
          routine = b.routine;
          sound =
              sound_after p code input (lo + 1) v v now l.frames b.stand l.fits (λ j i x y. y) (λ x. x) b.sound;
        } in
        before code input line 0 24 (Leaves exit (leaving p code input low r now yields)) held (bind e k) s l.to (1 + links) 24 9 q q
        l.silently (omega (arith, few, short)) (omega arith)
        (on_from p code input line 9 (at + 1 + links) exit low low r v now l.frames yields (bind e k) q (omega arith) behind left
        (later l.frames (begins p code input low r now v l.frames left) up_there l.holds z.1 left) held l.to l.is)

  -- what a root must keep
  abbrev pub RootFits : (r : ℕ) → Root → (cells : ℕ) → Type 0
  RootFits r (root.Local from) cells = AreVariables p code input r from cells
  RootFits r (root.Global from) cells = AreVariables p code input 0 from cells × (shift p 0 ≡ 0)
  RootFits r (root.Param from) cells = IsParam r from cells
  RootFits r (root.Outer links from) cells = (links < (routine_at p r).level) × AreVariables p code input (outer_at p r links) from cells
  RootFits r (root.OuterParam links from) cells = (links < (routine_at p r).level) × IsParam (outer_at p r links) from cells

  same_unset : (line at a b : ℕ) (now : List PlainFrame) (held : List PlainEntry) (s : State) → IsAt at now held s
      → InstrAt code input line at (I.Same a b) → Holds now b cell.Unset → Faults code input line s fault.Unknown
  unfolding act
  same_unset line at a b now held s is i hb =
      faults_now code input line s fault.Unknown (here_too code input line at now held s is i.on_line)
      (does code input line at now held s (I.Same a b) is i
      ∙ ap (λ o. as_place o (passed code input s) (λ c. put_place (passed code input s) a c.frame (λ _. c.slot)))
      (ap (λ z. slice_get (last_frame z).cells b) is.frames ∙ hb))

  outer_unset : (line at a b c f : ℕ) (now : List PlainFrame) (held : List PlainEntry) (s : State) → IsAt at now held s
      → InstrAt code input line at (I.OuterSame a b c) → Holds now b (cell.Place (link_to f))
      → slice_get (get_or now f picture.no_frame).cells c ≡ Some cell.Unset → Faults code input line s fault.Unknown
  unfolding act
  outer_unset line at a b c f now held s is i hb hc =
      let here : State = passed code input s in
      faults_now code input line s fault.Unknown (here_too code input line at now held s is i.on_line)
      (does code input line at now held s (I.OuterSame a b c) is i
      ∙ place_is code input now here b (link_to f)
      (λ x. as_place (slot_in here x.frame c) here (λ y. put_place here a y.frame (λ _. y.slot))) is.frames hb
      ∙ ap (λ o. as_place o here (λ y. put_place here a y.frame (λ _. y.slot)))
      (ap (λ z. slice_get (get_or z f picture.no_frame).cells c) is.frames ∙ hc))

  -- the place of a root, and what is done with it
  pub root_from : (tables : Tables) (line q at exit low end lo r cells : ℕ) (root : Root) (v : Store) (now : List PlainFrame)
      (behind : own_end p r ≤ low) (above : low ≤ end) (under : low ≤ lo) {B : Type 0} (yields : Store → B → List PlainFrame → Type 0)
      (k : Store → Place → Events B) → RootFits r root cells
      → ((s : ℕ) → s < length p.routines → IsNested p s (routine_at p s)) → slice_get (kinds_at code r) end ≡ Some (slot.Place cells)
      → HasSlots p code r (lo + 1) (root_slots p r root)
      → Stands code at (own line (root_to p tables r end lo root)) → Begins p code input r v now
      → GoesOnAt line q exit low end lo r v behind above under yields k (at + length (own line (root_to p tables r end lo root))) cells now
      → From p code input line 24 at exit now (leaving p code input low r now yields) (bind (root_place v root cells) k) q
  root_from tables line q at exit low end lo r cells (root.Local from) v now behind above under yields k fits nested kind slots stands b
      later =
      from_more p code input line 9 24 at exit now (leaving p code input low r now yields) (bind (root_place v (root.Local from) cells) k) q
      (omega arith)
      (variables_from line q exit low end lo r v behind above under yields k at (top v) r from cells now b
      kind (omega (arith, b.stand.some)) b.routine fits
      (λ held s is. subst (λ n. Writes code input at now held s end
      (cell.Place (record { frame = n - 1; slot = shift p r + from; len = cells }))) b.stand.count
      (local_step code input line at now held s is end (shift p r + from) cells (record { instr = stands.0; on_line = stands.1 })
      (has_kind p code input r end v now (slot.Place cells) kind b)))
      later)
  root_from tables line q at exit low end lo r cells (root.Global from) v now behind above under yields k fits nested kind slots stands b
      later =
      let e : from ≡ shift p 0 + from = omega (arith, fits.1) in
      from_more p code input line 9 24 at exit now (leaving p code input low r now yields) (bind (root_place v (root.Global from) cells) k)
      q
      (omega arith)
      (variables_from line q exit low end lo r v behind above under yields k at 0 0 from cells now b kind
      (omega (arith, b.stand.some)) b.sound.main fits.0
      (λ held s is. subst (λ n. Writes code input at now held s end (cell.Place (record { frame = 0; slot = n; len = cells }))) e
      (global_step code input line at now held s is end from cells (record { instr = stands.0; on_line = stands.1 })
      (has_kind p code input r end v now (slot.Place cells) kind b)))
      later)
  root_from tables line q at exit low end lo r cells (root.Param from) v now behind above under yields k fits nested kind slots stands b
      later =
      let i : InstrAt code input line at (I.Same end (shift p r + from)) = record { instr = stands.0; on_line = stands.1 } in
      let at_top : top v ≡ length now - 1 = ap (λ n. n - 1) (sym b.stand.count) in
      from_more p code input line 9 24 at exit now (leaving p code input low r now yields) (bind (root_place v (root.Param from) cells) k) q
      (omega arith)
      (held_from line q exit low end lo r v behind above under yields k at (top v) r from cells now b kind (omega (arith, b.stand.some))
      b.routine fits
      (λ c there held s is. same_step code input line at now held s is end (shift p r + from) cells c i
      (has_kind p code input r end v now (slot.Place cells) kind b)
      (subst (λ n. slice_get (get_or now n picture.no_frame).cells (shift p r + from) ≡ Some (cell.Place c)) at_top there))
      (λ there held s is. same_unset line at end (shift p r + from) now held s is i
      (subst (λ n. slice_get (get_or now n picture.no_frame).cells (shift p r + from) ≡ Some cell.Unset) at_top there))
      later)
  root_from tables line q at exit low end lo r cells (root.Outer links from) v now behind above under yields k fits nested kind slots stands
      b later =
      let r2 : ℕ = outer_at p r links in
      let long : length (own line (root_to p tables r end lo (root.Outer links from))) ≡ suc (links + 1) =
      ap suc (chain_long line links (lo + 1) (I.Outer end (lo + 1 + links) (shift p r2 + from))) in
      let here : at + length (own line (root_to p tables r end lo (root.Outer links from))) ≡ at + 1 + links + 1 = omega (arith, long) in
      linked_from line q exit low end lo r v behind above under yields k at links now
      (I.Outer end (lo + 1 + links) (shift p r2 + from) ∷ [])
      (one v (record { frame = up v links; slot = from; size = cells })) b nested fits.0
      slots stands
      (λ t b1 reached holds last left.
      variables_from line q exit low end lo r v behind above under yields k (at + 1 + links) (up v links) r2 from cells t b1 kind
      (up_live p code v (top v) links reached)
      (up_routine p code v t (top v) links b1.stand reached ∙ ap (λ x. outer_at p x links) b1.routine) fits.1
      (λ held s is. outer_step code input line (at + 1 + links) t held s is end (lo + 1 + links) (shift p r2 + from) (up v links) cells
      (record { instr = last.0; on_line = last.1 }) (has_kind p code input r end v t (slot.Place cells) kind b1) holds)
      (λ a t2 left2 place. subst (λ n. From p code input line 8 n exit t2 (leaving p code input low r t2 yields) (k v a) q) here
      (later a t2 (left_on p code input low low r now v v t t2 (omega arith) left left2) place)))
  root_from tables line q at exit low end lo r cells (root.OuterParam links from) v now behind above under yields k fits nested kind slots
      stands b later =
      let r2 : ℕ = outer_at p r links in
      let long : length (own line (root_to p tables r end lo (root.OuterParam links from))) ≡ suc (links + 1) =
      ap suc (chain_long line links (lo + 1) (I.OuterSame end (lo + 1 + links) (shift p r2 + from))) in
      let here : at + length (own line (root_to p tables r end lo (root.OuterParam links from))) ≡ at + 1 + links + 1 =
      omega (arith, long) in
      linked_from line q exit low end lo r v behind above under yields k at links now
      (I.OuterSame end (lo + 1 + links) (shift p r2 + from) ∷ [])
      (place_held v (cell_at v (up v links) from)) b nested fits.0
      slots stands
      (λ t b1 reached holds last left.
      let i : InstrAt code input line (at + 1 + links) (I.OuterSame end (lo + 1 + links) (shift p r2 + from)) =
      record { instr = last.0; on_line = last.1 } in
      held_from line q exit low end lo r v behind above under yields k (at + 1 + links) (up v links) r2 from cells t b1 kind
      (up_live p code v (top v) links reached)
      (up_routine p code v t (top v) links b1.stand reached ∙ ap (λ x. outer_at p x links) b1.routine) fits.1
      (λ c there held s is. outer_same_step code input line (at + 1 + links) t held s is end (lo + 1 + links) (shift p r2 + from)
      (up v links) cells c i (has_kind p code input r end v t (slot.Place cells) kind b1) holds there)
      (λ there held s is. outer_unset line (at + 1 + links) end (lo + 1 + links) (shift p r2 + from) (up v links) t held s is i holds there)
      (λ a t2 left2 place. subst (λ n. From p code input line 8 n exit t2 (leaving p code input low r t2 yields) (k v a) q) here
      (later a t2 (left_on p code input low low r now v v t t2 (omega arith) left left2) place)))
