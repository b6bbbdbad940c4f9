-- The link to a frame up the links, and places there: Own, then a Chain for each link, and then Outer or OuterSame.
use Rattle.std.proofs.Common.{◌≡◌, ℕ, zero, suc, ◌+◌, ◌-◌, ◌<◌, ◌≤◌, inl, inr, List, length, get_or, Some, refl, ap, ◌∙◌, subst, arith}
use Rattle.std.specs.Prelude.{slice_get}
use Rattle.std.proofs.lemmas.Bool.{cases_eq}
use Rattle.std.proofs.lemmas.Option.{slice_get-get_or}
use Rattle.alma_code.specs.declared.cell.Cell.TheVariants as cell
use Rattle.alma_code.specs.declared.cell.SlotKind.TheVariants as slot
use Rattle.alma_code.specs.declared.instr.Instr.TheVariants as I
use Rattle.alma_code.specs.Picture.{PlainFrame, PlainEntry}
use Rattle.alma_code.specs.Picture as picture
use Rattle.alma_code.specs.Plain.{PlainCode, kinds_at}
use Rattle.alma_code.specs.Machine.{State, link_to}
use Rattle.alma_ir.specs.Tree.{Program, routine_at}
use Rattle.alma_ir.specs.Checked.{IsNested, link_slots, outer_at}
use Rattle.alma_mean.specs.Store.{Store, top, top_frame, up, up_from, Place}
use Rattle.alma_mean.specs.Store as store
use Rattle.alma_lower_implements.proofs.Goes.{Silently, and_then, before}
use Rattle.alma_lower_implements.proofs.Frames.{shift_in, own_end, HasLink, StandFor, Fits, IsAt}
use Rattle.alma_lower_implements.proofs.FrameLemmas.{fits_on, fits_temp, holds_written}
use Rattle.alma_lower_implements.proofs.Steps.{top_written, Holds, InstrAt, own_step, chain_step}
use Rattle.alma_lower_implements.proofs.ExprRows.{kind_there, within_frame, slots_behind_routine, some_frames}

module _ (p : Program) where
  -- so many links lead up from a frame, each held by the frame before it
  abbrev pub LinkedUp : Store → (frame links : ℕ) → Type 0
  LinkedUp v f zero = f < length v
  LinkedUp v f (suc k) = (f < length v) × (1 ≤ shift_in p v f) × (1 ≤ f) × LinkedUp v (get_or v f store.no_frame).link k

  -- a routine of level 2 or more has a slot for its link
  has_shift : (level : ℕ) → 2 ≤ level → 1 ≤ link_slots level
  has_shift zero h = absurd (omega (arith, h))
  has_shift (suc zero) h = absurd (omega (arith, h))
  has_shift (suc (suc n)) h = omega arith

  module _ (code : PlainCode) where
    -- links that are fewer than the level lead up
    pub linked_up : (v : Store) (now : List PlainFrame) (f links : ℕ) → ((r : ℕ) → r < length p.routines → IsNested p r (routine_at p r))
        → ((k : ℕ) → k < length v → (get_or v k store.no_frame).routine < length p.routines)
        → (get_or v 0 store.no_frame).routine ≡ 0 → StandFor p code v now → f < length v
        → links < (routine_at p (get_or v f store.no_frame).routine).level → LinkedUp v f links
    linked_up v now f zero nested routines main stand lt few = lt
    linked_up v now f (suc k) nested routines main stand lt few = (
      lt,
      has_shift (routine_at p (get_or v f store.no_frame).routine).level (omega (arith, few)),
      some_frame,
      linked_up v now (get_or v f store.no_frame).link k nested routines main stand (omega (arith, link.below, lt))
          (omega (arith, few, above, outer_is)),
    )
      where
        r : ℕ
        r = (get_or v f store.no_frame).routine

        not_main : 0 < (get_or v f store.no_frame).routine
        not_main = elim (cases_eq (get_or v f store.no_frame).routine 0) [
          | inl e ↦
              let some : 0 < length p.routines = omega (arith, e, routines f lt) in
              let level : (routine_at p (get_or v f store.no_frame).routine).level ≡ 0 = ap (λ q. (routine_at p q).level) e
              ∙ ((nested 0 some).body refl).0 in
              absurd (omega (arith, few, level))
          | inr ne ↦ omega (arith, ne)
        ]

        some_frame : 1 ≤ f
        some_frame = elim (cases_eq f 0) [
          | inl e ↦ let is : (get_or v f store.no_frame).routine ≡ 0 = ap (λ q. (get_or v q store.no_frame).routine) e ∙ main in
              absurd (omega (arith, is, not_main))
          | inr ne ↦ omega (arith, ne)
        ]

        link : HasLink p v f (get_or v f store.no_frame)
        link = stand.links f lt some_frame

        outer_is : (routine_at p (get_or v (get_or v f store.no_frame).link store.no_frame).routine).level
            ≡ (routine_at p (routine_at p (get_or v f store.no_frame).routine).outer).level
        outer_is = ap (λ q. (routine_at p q).level) link.outer

        above : (routine_at p (get_or v f store.no_frame).routine).level ≡ suc
            (routine_at p (routine_at p (get_or v f store.no_frame).routine).outer).level
        above = (nested (get_or v f store.no_frame).routine (routines f lt)).above not_main

    -- the frame there is live, and of the routine so many links up
    pub up_live : (v : Store) (f links : ℕ) → LinkedUp v f links → up_from v f links < length v
    up_live v f zero up = up
    up_live v f (suc k) up = up_live v (get_or v f store.no_frame).link k up.3

    pub up_routine : (v : Store) (now : List PlainFrame) (f links : ℕ) → StandFor p code v now → LinkedUp v f links
        → (get_or v (up_from v f links) store.no_frame).routine ≡ outer_at p (get_or v f store.no_frame).routine links
    up_routine v now f zero stand up = refl
    up_routine v now f (suc k) stand up =
        up_routine v now (get_or v f store.no_frame).link k stand up.3 ∙ ap (λ q. outer_at p q k) (stand.links f up.0 up.2).outer

    -- the first slot of a frame with a link holds it
    pub link_held : (v : Store) (now : List PlainFrame) (f : ℕ) → StandFor p code v now → f < length v → 1 ≤ shift_in p v f
        → slice_get (get_or now f picture.no_frame).cells 0 ≡ Some (cell.Place (link_to (get_or v f store.no_frame).link))
    link_held v now f stand lt some =
        let same = stand.frames f lt in
        slice_get-get_or (get_or now f picture.no_frame).cells 0 cell.Unset (omega (arith, same.within, some)) ∙ ap Some (same.link some)

-- inside a statement with this line
module _ (p : Program) (code : PlainCode) (input : List ℕ) (line : ℕ) where
  -- a Chain for each link, each into a slot of its own behind the one before
  abbrev pub ChainsAt : (at lo links : ℕ) → Type 0
  ChainsAt at lo zero = Unit {0}
  ChainsAt at lo (suc k) = InstrAt code input line at (I.Chain (lo + 1) lo 0) × ChainsAt (at + 1) (lo + 1) k

  -- these slots are link slots
  abbrev pub AreLinks : (r lo links : ℕ) → Type 0
  AreLinks r lo zero = Unit {0}
  AreLinks r lo (suc k) = ((q : ℕ) × (slice_get (kinds_at code r) (lo + 1) ≡ Some (slot.Link q))) × AreLinks r (lo + 1) k

  -- the machine goes on at an address, with frames that still stand for the store, and a slot that links to a frame
  pub record Linked (steps exit lo n f : ℕ) (now : List PlainFrame) (held : List PlainEntry) (v : Store) (s : State) : Type 0 where
    pub to : State
    pub silently : Silently code input steps s to
    pub frames : List PlainFrame
    pub is : IsAt exit frames held to
    pub fits : Fits p code lo now v frames
    pub holds : Holds frames n (cell.Place (link_to f))

  pub chain_goes : (links at lo0 lo f r : ℕ) (v : Store) (before now : List PlainFrame) (held : List PlainEntry) (s0 s : State) (j : ℕ)
      → lo0 ≤ lo → own_end p r ≤ lo0 → Silently code input j s0 s → IsAt at now held s → Fits p code lo0 before v now
      → (top_frame v).routine ≡ r
      → LinkedUp p v f links → Holds now lo (cell.Place (link_to f)) → ChainsAt at lo links → AreLinks r lo links
      → Linked (j + links) (at + links) lo0 (lo + links) (up_from v f links) before held v s0
  chain_goes zero at lo0 lo f r v before now held s0 s j le behind run is fits routine up holds chains kinds =
      let jz : j ≡ j + 0 = omega arith in
      let az : at ≡ at + 0 = omega arith in
      let lz : lo ≡ lo + 0 = omega arith in
      record {
        to = s;
        silently = subst (λ n. Silently code input n s0 s) jz run;
        frames = now;
        is = subst (λ n. IsAt n now held s) az is;
        fits = fits;
        holds = subst (λ n. Holds now n (cell.Place (link_to f))) lz holds;
      }
  chain_goes (suc k) at lo0 lo f r v before now held s0 s j le behind run is fits routine up holds chains kinds =
      let g = (get_or v f store.no_frame).link in
      let kind = kind_there p code input v now r fits.stand routine (lo + 1) (slot.Link kinds.0.0) kinds.0.1 in
      let there = link_held p code v now f fits.stand up.0 up.1 in
      let w = chain_step code input line at now held s is (lo + 1) lo 0 f g kinds.0.0 chains.0 kind holds there in
      let later = top_written now (lo + 1) (cell.Place (link_to g)) in
      let one : Fits p code (lo + 1) now v later =
      fits_temp p code (lo + 1) v now (lo + 1) (cell.Place (link_to g)) (omega arith)
      (slots_behind_routine p code input v now r fits.stand routine (lo + 1) (omega (arith, le, behind))) fits.stand in
      let whole : Fits p code lo0 before v later = fits_on p code lo0 (lo + 1) v v before now later (omega (arith, le)) fits one in
      let held_there = holds_written now (lo + 1) (cell.Place (link_to g)) (some_frames p code input v now r fits.stand routine)
      (within_frame p code input v now r fits.stand routine (lo + 1) (slot.Link kinds.0.0) kinds.0.1) in
      let rest = chain_goes k (at + 1) lo0 (lo + 1) g r v before later held s0 w.to (j + 1) (omega (arith, le)) behind
      (and_then code input run w.silently) w.is whole routine up.3 held_there chains.1 kinds.1 in
      let js : j + 1 + k ≡ j + suc k = omega arith in
      let as_ : at + 1 + k ≡ at + suc k = omega arith in
      let ls : lo + 1 + k ≡ lo + suc k = omega arith in
      record {
        to = rest.to;
        silently = subst (λ n. Silently code input n s0 rest.to) js rest.silently;
        frames = rest.frames;
        is = subst (λ n. IsAt n rest.frames held rest.to) as_ rest.is;
        fits = rest.fits;
        holds = subst (λ n. Holds rest.frames n (cell.Place (link_to (up_from v g k)))) ls rest.holds;
      }

  -- Own, and then the chain: a link to the frame so many links up from the one on top
  pub link_goes : (links at lo r : ℕ) (v : Store) (now : List PlainFrame) (held : List PlainEntry) (s : State) → own_end p r ≤ lo
      → IsAt at now held s → StandFor p code v now → (top_frame v).routine ≡ r
      → LinkedUp p v (top v) links → InstrAt code input line at (I.Own lo) → (q : ℕ) → slice_get (kinds_at code r) lo ≡ Some (slot.Link q)
      → ChainsAt (at + 1) lo links → AreLinks r lo links
      → Linked (1 + links) (at + 1 + links) lo (lo + links) (up_from v (top v) links) now held v s
  link_goes links at lo r v now held s behind is stand routine up own q own_kind chains kinds =
      let kind = kind_there p code input v now r stand routine lo (slot.Link q) own_kind in
      let w = own_step code input line at now held s is lo q own kind in
      let later = top_written now lo (cell.Place (link_to (length now - 1))) in
      let fit : Fits p code lo now v later = fits_temp p code lo v now lo (cell.Place (link_to (length now - 1))) (omega arith)
      (slots_behind_routine p code input v now r stand routine lo behind) stand in
      let there = holds_written now lo (cell.Place (link_to (length now - 1))) (some_frames p code input v now r stand routine)
      (within_frame p code input v now r stand routine lo (slot.Link q) own_kind) in
      let same : length now - 1 ≡ top v = ap (λ n. n - 1) stand.count in
      chain_goes links (at + 1) lo lo (top v) r v now later held s w.to 1 (omega arith) behind w.silently w.is fit routine up
      (subst (λ f. Holds later lo (cell.Place (link_to f))) same there) chains kinds
