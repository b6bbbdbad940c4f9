-- Calls, from template to run: the link, the arguments, and the body of the routine at the level below.
use Rattle.std.proofs.Common.{◌≡◌, ℕ, zero, suc, ◌+◌, ◌-◌, ◌<◌, ◌≤◌, inl, inr, true, List, [], ◌∷◌, ◌++◌, length, get_or, Some, None}
use Rattle.std.proofs.Common.{Option, refl, sym, ap, ◌∙◌, subst, arith, ℤ, length-append}
use Rattle.std.specs.Prelude.{slice_get}
use Rattle.std.proofs.lemmas.Bool.{cases_eq}
use Rattle.std.proofs.lemmas.List.{get_or_append_left, get_or-take}
use Rattle.std.proofs.Math.Seq.{get_or-append_seam}
use Rattle.alma_base.specs.declared.number.Range.{Range}
use Rattle.alma_base.specs.Numbers.{is_integer}
use Rattle.alma_code.specs.declared.cell.Cell.{Cell}
use Rattle.alma_code.specs.declared.cell.Cell.TheVariants as cell
use Rattle.alma_code.specs.declared.cell.SlotKind.{SlotKind}
use Rattle.alma_code.specs.declared.cell.SlotKind.TheVariants as slot
use Rattle.alma_code.specs.declared.instr.Instr.TheVariants as I
use Rattle.alma_code.specs.Layout.{frame_of_call}
use Rattle.alma_code.specs.Lines.{line_at}
use Rattle.alma_code.specs.Picture.{PlainFrame, PlainEntry, last_frame, without_last}
use Rattle.alma_code.specs.Picture as picture
use Rattle.alma_code.specs.Plain.{PlainCode, PlainRoutine, kinds_at, start_at}
use Rattle.alma_code.specs.Machine.{State, link_to}
use Rattle.alma_ir.specs.Tree.{Program, Args, no_args, more_args, CallTest, CallExpr, routine_at}
use Rattle.alma_ir.specs.Checked.{IsNested, LinksAgree, ParamsFirst, ArgsFit, link_slots, outer_at, EachRoutine}
use Rattle.alma_mean.specs.Store.{Store, Unknown, top, top_frame, up, up_from, without_top}
use Rattle.alma_mean.specs.Store as store
use Rattle.alma_mean.specs.Events.{Events, NoYield, Flow, Go, Return, bind}
use Rattle.alma_mean.specs.Rows.{ArgValue, enter, as_test, as_value, frame_of}
use Rattle.alma_mean.specs.Meaning.{Level, ev_stmts, ev_args, ev_test, ev_expr}
use Rattle.alma_lower_implements.proofs.Goes.{Silently, Goes, no_step, before, bind_goes}
use Rattle.alma_lower_implements.proofs.Address.{at_address}
use Rattle.alma_lower_implements.proofs.Frames.{shift, shift_in, own_end, HasLink, StandFor, Fits, HasSlots, IsAt}
use Rattle.alma_lower_implements.proofs.FrameLemmas.{top_same, holds_other}
use Rattle.alma_lower_implements.proofs.ExprRows.{first_kind, slots_first, slots_behind}
use Rattle.alma_lower_implements.proofs.LinkRows.{LinkedUp, linked_up, ChainsAt, AreLinks, link_goes}
use Rattle.alma_lower_implements.proofs.Leaving.{leave_fits}
use Rattle.alma_lower_implements.proofs.CallRow.{Returns, call_row}
use Rattle.alma_lower_implements.proofs.FunctionRow.{LeavesFunction, function_call_row}
use Rattle.alma_lower_implements.proofs.ChoiceSteps.{mark_step}
use Rattle.alma_lower_implements.proofs.Steps.{Holds, InstrAt, top_written}
use Rattle.alma_lower_implements.proofs.Ways.{Ways, Leaves, Runs}
use Rattle.alma_lower_templates.specs.LineInstr.{LineInstr, own, in_row}
use Rattle.alma_lower_templates.specs.Tables.{Tables}
use Rattle.alma_lower_templates.specs.Pieces.{chain_code, link_code, first_argument}
use Rattle.alma_lower_templates.specs.Slots.{shift_of, chain_slots, links_if, call_links, handed_slots, args_slots, test_slots, expr_slots}
use Rattle.alma_lower_templates.specs.Templates.{link_if, call_link_code, call_code, arguments_from, handed_from, args_code, test_code}
use Rattle.alma_lower_templates.specs.Templates.{expr_code}
use Rattle.alma_lower_templates.specs.Stands.{Stands}
use Rattle.alma_lower_templates.proofs.Stands.{stands_front, stands_back}
use Rattle.alma_lower_templates.proofs.Parts.{Begins, Left, sound_of, begins, left_self, left_on, left_less, on_from, holds_after, Nothing}
use Rattle.alma_lower_templates.proofs.Parts.{ValueIn, NodeFor, node_runs, From, leaving, ending, left_temp, holds_temp, has_kind, ResultIs}
use Rattle.alma_lower_templates.proofs.NewFrame.{AllHanded, with_link, handed_all, IsCompiled, enter_stands, enter_given}
use Rattle.alma_lower_templates.proofs.Given.{frame_kept, given_after}
use Rattle.alma_lower_templates.proofs.Handing.{HeldFrom, counts_alike, holds_arguments}
use Rattle.alma_lower_templates.proofs.Args.{ArgsIn, ArgParts, args_run, handed_after}

-- ---- up the links

module _ (p : Program) (code : PlainCode) where
  -- as many links as the level of a frame's routine, or fewer, lead to a frame of the routine so many links up
  pub up_there : (v : Store) (now : List PlainFrame) (f links : ℕ) → EachRoutine p (IsNested p) → StandFor p code v now → f < length v
      → links ≤ (routine_at p (get_or v f store.no_frame).routine).level
      → (up_from v f links < length v) × ((get_or v (up_from v f links) store.no_frame).routine ≡ outer_at p
      (get_or v f store.no_frame).routine links)
  up_there v now f zero nested stand lt few = (lt, refl)
  up_there v now f (suc k) nested stand lt few =
      let rest = up_there v now (get_or v f store.no_frame).link k nested stand (omega (arith, link.below, lt))
      (omega (arith, few, above, ap (λ q. (routine_at p q).level) link.outer)) in
      (rest.0, rest.1 ∙ ap (λ q. outer_at p q k) link.outer)
    where
      r : ℕ
      r = (get_or v f store.no_frame).routine

      not_main : 0 < (get_or v f store.no_frame).routine
      not_main = elim (cases_eq (get_or v f store.no_frame).routine 0) [
        | inl e ↦
            let level : (routine_at p (get_or v f store.no_frame).routine).level ≡ 0 = ap (λ q. (routine_at p q).level) e
            ∙ ((nested 0 (omega (arith, e, stand.routines f lt))).body refl).0 in
            absurd (omega (arith, few, level))
        | inr ne ↦ omega (arith, ne)
      ]

      some_frame : 1 ≤ f
      some_frame = elim (cases_eq f 0) [
        | inl e ↦ let is : (get_or v f store.no_frame).routine ≡ 0 = ap (λ q. (get_or v q store.no_frame).routine) e ∙ stand.main in
            absurd (omega (arith, is, not_main))
        | inr ne ↦ omega (arith, ne)
      ]

      link : HasLink p v f (get_or v f store.no_frame)
      link = stand.links f lt some_frame

      above : (routine_at p (get_or v f store.no_frame).routine).level ≡ suc
          (routine_at p (routine_at p (get_or v f store.no_frame).routine).outer).level
      above = (nested (get_or v f store.no_frame).routine (stand.routines f lt)).above not_main

  abbrev linked_frame : Cell → ℕ
  linked_frame (cell.Place c) = c.frame
  linked_frame cell.Unknown = 0
  linked_frame cell.Unset = 0
  linked_frame (cell.Int x) = 0
  linked_frame (cell.Mark h) = 0

  -- the links of frames that hold them lead where they led
  up_same : (lo f links : ℕ) (v w : Store) (now later : List PlainFrame) → StandFor p code v now → Fits p code lo now w later
      → LinkedUp p v f links → up_from w f links ≡ up_from v f links
  up_same lo f zero v w now later stand fit reached = refl
  up_same lo f (suc k) v w now later stand fit reached =
      let long : length w ≡ length v = sym fit.stand.count ∙ fit.same_count ∙ stand.count in
      let kept = frame_kept p code lo f v w now later reached.0 stand fit in
      let was = stand.frames f reached.0 in
      let is = fit.stand.frames f (omega (arith, long, reached.0)) in
      let same : (get_or w f store.no_frame).routine ≡ (get_or v f store.no_frame).routine = is.routine ∙ kept.1.routine
      ∙ sym was.routine in
      let some : 1 ≤ shift_in p w f = subst (λ q. 1 ≤ shift p q) (sym same) reached.1 in
      let some_now : 0 < shift p (get_or now f picture.no_frame).routine = subst (λ q. 0 < shift p q) was.routine reached.1 in
      let cells : cell.Place (link_to (get_or w f store.no_frame).link) ≡ cell.Place (link_to (get_or v f store.no_frame).link) =
      sym (is.link some) ∙ kept.1.link 0 some_now ∙ was.link reached.1 in
      let link : (get_or w f store.no_frame).link ≡ (get_or v f store.no_frame).link = ap linked_frame cells in
      ap (λ g. up_from w g k) link ∙ up_same lo (get_or v f store.no_frame).link k v w now later stand fit reached.3

  -- the frame on top is of the routine of which it was
  pub routine_after : (lo r : ℕ) (v w : Store) (now later : List PlainFrame) → StandFor p code v now → (top_frame v).routine ≡ r
      → Fits p code lo now w later → (top_frame w).routine ≡ r
  routine_after lo r v w now later stand routine fit = (top_same p code w later fit.stand).routine ∙ fit.top.routine
      ∙ sym (top_same p code v now stand).routine ∙ routine

-- ---- the front of a call: the link and the arguments

module _ (p : Program) (tables : Tables) (code : PlainCode) (input : List ℕ) (below : Level) (r line q : ℕ) where
  -- what is known of a routine that is called, so many links up
  pub record Callee (called up : ℕ) : Type 0 where
    pub named : PlainRoutine
    pub is : IsCompiled p code called named
    pub exists : called < length p.routines
    pub not_main : 0 < called
    pub first : ParamsFirst (routine_at p called)
    pub nested : EachRoutine p (IsNested p)
    pub own : r < length p.routines
    pub leads : LinksAgree p r (routine_at p r) called up

  chains_at : (links at lo : ℕ) → Stands code at (own line (chain_code lo links)) → ChainsAt p code input line at lo links
  chains_at zero at lo h = tt
  chains_at (suc k) at lo h = (record { instr = h.0; on_line = h.1 }, chains_at k (at + 1) (lo + 1) h.2)

  chain_first : (links r0 lo : ℕ) → HasSlots p code r lo (chain_slots p r0 links) → slice_get (kinds_at code r) lo ≡ Some (slot.Link r0)
  chain_first zero r0 lo h = first_kind p code input r lo (slot.Link r0) [] h
  chain_first (suc k) r0 lo h = first_kind p code input r lo (slot.Link r0) (chain_slots p (routine_at p r0).outer k) h

  are_links : (links r0 lo : ℕ) → HasSlots p code r lo (chain_slots p r0 links) → AreLinks p code input line r lo links
  are_links zero r0 lo h = tt
  are_links (suc k) r0 lo h =
      let rest = slots_behind p code input r lo (slot.Link r0 ∷ []) (chain_slots p (routine_at p r0).outer k) h in
      (((routine_at p r0).outer, chain_first k (routine_at p r0).outer (lo + 1) rest), are_links k (routine_at p r0).outer (lo + 1) rest)

  chain_long : (links r0 : ℕ) → length (chain_slots p r0 links) ≡ links + 1
  chain_long zero r0 = refl
  chain_long (suc k) r0 = omega (arith, chain_long k (routine_at p r0).outer)

  code_long : (links lo : ℕ) → length (own line (chain_code lo links)) ≡ links
  code_long zero lo = refl
  code_long (suc k) lo = omega (arith, code_long k (lo + 1))

  -- the machine behind the link
  pub record LinkDone (sh up lo at : ℕ) (v : Store) (now : List PlainFrame) (held : List PlainEntry) (s : State) : Type 0 where
    pub steps : ℕ
    pub few : steps ≤ 9
    pub to : State
    pub silently : Silently code input steps s to
    pub frames : List PlainFrame
    pub is : IsAt (at + length (own line (link_if p tables r sh up lo))) frames held to
    pub left : Left p code input lo r now v frames
    pub link : 1 ≤ sh → Holds frames (lo + up) (cell.Place (link_to (up_from v (top v) up)))

  link_done : (sh up lo at : ℕ) (v : Store) (now : List PlainFrame) (held : List PlainEntry) (s : State) → own_end p r ≤ lo
      → (1 ≤ sh → LinkedUp p v (top v) up) → up ≤ 8 → HasSlots p code r lo (links_if p r sh up)
      → Stands code at (own line (link_if p tables r sh up lo)) → Begins p code input r v now → IsAt at now held s
      → LinkDone sh up lo at v now held s
  link_done zero up lo at v now held s own_lo reached few slots stands b is =
      let e : at ≡ at + 0 = omega arith in
      record {
        steps = 0;
        few = omega arith;
        to = s;
        silently = no_step code input s;
        frames = now;
        is = at_address at (at + 0) now held s e is;
        left = left_self p code input lo r v now b;
        link = λ some. absurd (omega (arith, some));
      }
  link_done (suc one) up lo at v now held s own_lo reached few slots stands b is =
      let z = link_goes p code input line up at lo r v now held s own_lo is b.stand b.routine (reached (omega arith))
      (record { instr = stands.0; on_line = stands.1 }) r (chain_first up r lo slots) (chains_at up (at + 1) lo stands.2)
      (are_links up r lo slots) in
      let e : at + 1 + up ≡ at + length (own line (link_code lo up)) = omega (arith, code_long up lo) in
      record {
        steps = 1 + up;
        few = omega (arith, few);
        to = z.to;
        silently = z.silently;
        frames = z.frames;
        is = at_address (at + 1 + up) (at + length (own line (link_code lo up))) z.frames held z.to e z.is;
        left = record {
          fits = z.fits;
          routine = b.routine;
          sound =
              sound_of p code input v z.frames z.fits.stand b.sound.position
              (given_after p code lo v v now z.frames b.stand z.fits b.sound.given);
        };
        link = λ some. z.holds;
      }

  abbrev links_behind : (sh up lo : ℕ) → ℕ
  links_behind sh up lo = lo + length (links_if p r sh up)

  handed_long : (sh up lo : ℕ) → 1 ≤ sh → links_behind sh up lo ≡ handed_from p tables r sh up lo + 1
  handed_long zero up lo some = absurd (omega (arith, some))
  handed_long (suc one) up lo some = omega (arith, chain_long up r)

  handed_flat : (sh up lo : ℕ) → sh ≡ 0 → links_behind sh up lo ≡ handed_from p tables r sh up lo
  handed_flat zero up lo e = omega arith
  handed_flat (suc one) up lo e = absurd (omega (arith, e))

  handed_above : (sh up lo : ℕ) → 1 ≤ sh → handed_from p tables r sh up lo ≡ lo + up
  handed_above zero up lo some = absurd (omega (arith, some))
  handed_above (suc one) up lo some = refl

  -- the link before the other arguments
  link_before : (level f first : ℕ) (now : List PlainFrame) (cs : List Cell)
      → (1 ≤ link_slots level → Holds now first (cell.Place (link_to f))) → HeldFrom now (first + link_slots level) cs
      → HeldFrom now first (with_link level f cs)
  link_before zero f first now cs link there = let e : first + 0 ≡ first = omega arith in subst (λ n. HeldFrom now n cs) e there
  link_before (suc zero) f first now cs link there = let e : first + 0 ≡ first = omega arith in subst (λ n. HeldFrom now n cs) e there
  link_before (suc (suc n)) f first now cs link there =
      (link (omega arith), let e : first + 1 ≡ suc first = omega arith in subst (λ m. HeldFrom now m cs) e there)

  slots_few : (level : ℕ) → link_slots level ≤ 1
  slots_few zero = omega arith
  slots_few (suc zero) = omega arith
  slots_few (suc (suc n)) = omega arith

  two_levels : (level : ℕ) → 1 ≤ link_slots level → 2 ≤ level
  two_levels zero h = absurd (omega (arith, h))
  two_levels (suc zero) h = absurd (omega (arith, h))
  two_levels (suc (suc n)) h = omega arith

  -- what stands behind the arguments
  pub record ArgsDone (called up lo : ℕ) (v : Store) (taken : List ArgValue) (now : List PlainFrame) : Type 0 where
    pub cells : List Cell
    pub handed : AllHanded p code v now (routine_at p called).params taken cells
    pub there : HeldFrom now (handed_from p tables r (shift_of p called) up lo) (handed_all p called (up_from v (top v) up) cells)

  module _ (called up : ℕ) (callee : Callee called up) where
    -- the level of the called routine is at least 1
    called_level : 1 ≤ (routine_at p called).level
    called_level = omega (arith, (callee.nested called callee.exists).above callee.not_main)

    up_few : up ≤ 8
    up_few = omega (arith, called_level, callee.leads.0, (callee.nested r callee.own).few)

    -- the link of the new frame
    pub link_there : (v : Store) (now : List PlainFrame) → Begins p code input r v now → (up_from v (top v) up < length v)
        × ((get_or v (up_from v (top v) up) store.no_frame).routine ≡ (routine_at p called).outer)
    link_there v now b =
        let z = up_there p code v now (top v) up callee.nested b.stand (omega (arith, b.stand.some))
        (omega (arith, called_level, callee.leads.0, ap (λ x. (routine_at p x).level) b.routine)) in
        (z.0, z.1 ∙ ap (λ x. outer_at p x up) b.routine ∙ callee.leads.1)

    reached : (v : Store) (now : List PlainFrame) → Begins p code input r v now → 1 ≤ shift_of p called → LinkedUp p v (top v) up
    reached v now b some =
        linked_up p code v now (top v) up callee.nested b.stand.routines b.stand.main b.stand (omega (arith, b.stand.some))
        (omega (arith, two_levels (routine_at p called).level some, callee.leads.0, ap (λ x. (routine_at p x).level) b.routine))

    pub front_from : {A : Type 0} (args : Args) (lo la at exit : ℕ) (yields : Store → A → List PlainFrame → Type 0)
        (k : Store → List ArgValue → Events A) (v : Store) (now : List PlainFrame)
        → ArgsFit (routine_at p called).params args → own_end p r ≤ lo → lo ≤ la
        → HasSlots p code r la (call_links p r called up ++ (handed_slots args ++ args_slots p r args))
        → ((m first : ℕ) → HasSlots p code r (first + length (handed_slots args)) (args_slots p r args)
        → ArgParts p tables code input below r line q m first (first + length (handed_slots args)) args)
        → let first : ℕ = la + length (call_links p r called up) in
        let link : List LineInstr = own line (link_if p tables r (shift_of p called) up la) in
        let given : List LineInstr = args_code p tables r line (at + length link) first (first + length (handed_slots args)) args in
        Stands code at (link ++ given) → Begins p code input r v now
        → ((u : Store) (taken : List ArgValue) (t : List PlainFrame) → Left p code input la r now u t → ArgsDone called up la u taken t
        → From p code input line 8 (at + length (link ++ given)) exit t (leaving p code input lo r t yields) (k u taken) q)
        → From p code input line 24 at exit now (leaving p code input lo r now yields) (bind (ev_args p input below args v) k) q
    front_from args lo la at exit yields k v now fits own_lo behind_lo slots parts stands b later held s is =
        let sh : ℕ = shift_of p called in
        let links : List SlotKind = call_links p r called up in
        let own_la : own_end p r ≤ la = omega (arith, own_lo, behind_lo) in
        let first : ℕ = la + length links in
        let link : List LineInstr = own line (link_if p tables r sh up la) in
        let m : ℕ = at + length link in
        let given : List LineInstr = args_code p tables r line m first (first + length (handed_slots args)) args in
        let z = link_done sh up la at v now held s own_la (reached v now b) up_few
        (slots_first p code input r la links (handed_slots args ++ args_slots p r args) slots) (stands_front code at link given stands)
        b is in
        let b1 : Begins p code input r v z.frames = begins p code input la r now v z.frames z.left in
        let behind = slots_behind p code input r la links (handed_slots args ++ args_slots p r args) slots in
        let w : Ways _ = leaving p code input lo r now yields in
        let wa : Ways (List ArgValue) = leaving p code input first r z.frames
        (ArgsIn p tables code input below r line q first (routine_at p called).params) in
        let both : m + length given ≡ at + length (link ++ given) = omega (arith, length-append link given) in
        before code input line 0 24 (Leaves exit w) held (bind (ev_args p input below args v) k) s z.to z.steps 24 8 q q z.silently
        (omega (arith, z.few)) (omega arith)
        (bind_goes code input line 8 0 24 (Leaves (m + length given) wa) (Leaves exit w) held (ev_args p input below args v) k z.to 8 q 8
        (omega arith) (omega arith)
        (args_run p tables code input below r line q args (routine_at p called).params m first (first + length (handed_slots args)) fits
        callee.first.cells (slots_first p code input r first (handed_slots args) (args_slots p r args) behind) (omega arith)
        (parts m first (slots_behind p code input r first (handed_slots args) (args_slots p r args) behind))
        (stands_back code at link given stands) v z.frames b1 8 (omega arith) held z.to z.is)
        (λ u taken t base going left.
        let done = left.1.1 in
        let whole : Left p code input la r now u t.now =
        left_on p code input la first r now v u z.frames t.now (omega arith) z.left left.1.0 in
        let same : 1 ≤ sh → up_from u (top u) up ≡ up_from v (top v) up =
        λ some. ap (λ n. up_from u (n - 1) up) (sym left.1.0.fits.stand.count ∙ left.1.0.fits.same_count ∙ b1.stand.count)
        ∙ up_same p code first (top v) up v u z.frames t.now b1.stand left.1.0.fits (reached v z.frames b1 some) in
        let hf : ℕ = handed_from p tables r sh up la in
        let few : sh ≤ 1 = slots_few (routine_at p called).level in
        let first_is : first ≡ hf + sh = elim (cases_eq sh 0) [
          | inl e ↦ omega (arith, e, handed_flat sh up la e)
          | inr ne ↦ omega (arith, few, ne, handed_long sh up la (omega (arith, ne)))
        ] in
        let link_kept : 1 ≤ sh → Holds t.now hf (cell.Place (link_to (up_from u (top u) up))) =
        λ some.
        let is_up : hf ≡ la + up = handed_above sh up la some in
        subst (λ n. Holds t.now n (cell.Place (link_to (up_from u (top u) up)))) (sym is_up)
        (subst (λ g. Holds t.now (la + up) (cell.Place (link_to g))) (sym (same some))
        (holds_after p code input first r (la + up) (cell.Place (link_to (up_from v (top v) up))) v u z.frames t.now b1
        (omega (arith, own_la)) (omega (arith, is_up, handed_long sh up la some)) left.1.0 (z.link some))) in
        let all : ArgsDone called up la u taken t.now = record {
          cells = done.cells;
          handed = done.handed;
          there = link_before (routine_at p called).level (up_from u (top u) up) hf t.now done.cells link_kept
              (subst (λ n. HeldFrom t.now n done.cells) first_is done.there);
        } in
        on_from p code input line 8 (at + length (link ++ given)) exit lo lo r u now t.now yields (k u taken) q (omega arith) own_lo
        (left_less p code input lo la r now u t.now behind_lo whole)
        (later u taken t.now whole all) base t (record { mode = going.mode; here = left.0 ∙ both; frames = refl; entries = going.entries }))
        (λ u n t left. left))

-- ---- the routine at the level below

module _ (p : Program) (tables : Tables) (code : PlainCode) (input : List ℕ) (below : Level) where
  -- what stands at the end of the body: a Return, or the fault of a function
  abbrev pub EndsAt : (r exit : ℕ) → Option Range → Type 0
  EndsAt r exit None = slice_get code.instrs exit ≡ Some I.Return
  EndsAt r exit (Some range) = InstrAt code input (routine_at p r).line exit (I.Fault 6)

  -- the body of a routine runs, in whatever statement it was called
  pub record RoutineRuns (r q : ℕ) : Type 0 where
    pub exit : ℕ
    pub runs : (line : ℕ) (v : Store) (now : List PlainFrame) → Begins p code input r v now
        → Runs code input line (start_at code r) exit now (ending p code input true (own_end p r) r now) (below.routine r v) q
    pub ends : EndsAt r exit (routine_at p r).result

  module _ (r line q : ℕ) (called up : ℕ) (callee : Callee p tables code input below r line (suc q) called up)
      (routine : RoutineRuns called q) where
    -- ---- the frames in which the body runs

    module _ (v : Store) (now : List PlainFrame) (b : Begins p code input r v now) (taken : List ArgValue) (cells : List Cell)
        (handed : AllHanded p code v now (routine_at p called).params taken cells) (back : ℕ) where
      abbrev new_store : Store
      new_store = v ++ frame_of v called up (routine_at p called) taken ∷ []

      abbrev pushed : PlainFrame
      pushed = frame_of_call now callee.named.head called back (handed_all p called (up_from v (top v) up) cells)

      abbrev new_frames : List PlainFrame
      new_frames = now ++ pushed ∷ []

      begins_inside : Begins p code input called new_store new_frames
      begins_inside =
          let l = link_there p tables code input below r line (suc q) called up callee v now b in
          let stand : StandFor p code new_store new_frames =
          enter_stands p code v now b.stand called up back callee.named taken cells callee.is callee.exists callee.first l.0 l.1
          handed in
          let last : length new_store - 1 ≡ length v =
          omega (arith, length-append v (frame_of v called up (routine_at p called) taken ∷ [])) in
          record {
            stand = stand;
            routine = ap (λ n. (get_or new_store n store.no_frame).routine) last
                ∙ ap (λ f. f.routine) (get_or-append_seam v (frame_of v called up (routine_at p called) taken) [] store.no_frame);
            sound = sound_of p code input new_store new_frames stand
                (record {
                  at = b.sound.position.at;
                  is =
                      ap (λ f. get_or f.cells 0 Unknown) (get_or_append_left v (frame_of v called up (routine_at p called) taken ∷ [])
                      store.no_frame 0 (omega (arith, b.stand.some))) ∙ b.sound.position.is;
                })
                (enter_given p code v now b.stand called up back callee.named taken cells callee.is callee.exists callee.first l.0 l.1
                handed b.sound.given);
          }

      -- what the body leaves, and the frames of the caller below it
      record Backed (x : Store) (z : List PlainFrame) : Type 0 where
        some : 2 ≤ length z
        back_at : (last_frame z).back ≡ back
        left : (lo : ℕ) → Left p code input lo r now (without_top x) (without_last z)

      backed : (lo2 : ℕ) (x : Store) (z : List PlainFrame) → Left p code input lo2 called new_frames x z → Backed x z
      backed lo2 x z h =
          let long : length new_frames ≡ length now + 1 = length-append now (pushed ∷ []) in
          let some_now : 1 ≤ length now = omega (arith, b.stand.count, b.stand.some) in
          let last : length new_frames - 1 ≡ length now = omega (arith, long) in
          let is : last_frame new_frames ≡ pushed = ap (λ n. get_or new_frames n picture.no_frame) last
          ∙ get_or-append_seam now pushed [] picture.no_frame in
          record {
            some = omega (arith, h.fits.same_count, long, some_now);
            back_at = h.fits.top.back ∙ ap (λ g. g.back) is;
            left = λ lo.
                let fit : Fits p code lo now (without_top x) (without_last z) = leave_fits p code lo lo2 now pushed x z some_now h.fits in
                record {
                  fits = fit;
                  routine = routine_after p code lo r v (without_top x) now (without_last z) b.stand b.routine fit;
                  sound = sound_of p code input (without_top x) (without_last z) fit.stand
                      (record {
                        at = h.sound.position.at;
                        is =
                            ap (λ f. get_or f.cells 0 Unknown) (get_or-take (length x - 1) x 0 store.no_frame
                            (omega (arith, h.fits.same_count, h.fits.stand.count, long, some_now))) ∙ h.sound.position.is;
                      })
                      (given_after p code lo v (without_top x) now (without_last z) b.stand fit b.sound.given);
                };
          }

    -- ---- the arguments, where nothing is handed over

    no_link : (level f : ℕ) (cs : List Cell) → link_slots level ≡ 0 → with_link level f cs ≡ cs
    no_link zero f cs e = refl
    no_link (suc zero) f cs e = refl
    no_link (suc (suc n)) f cs e = absurd (omega (arith, e))

    none_handed : (args : Args) (ps : _) (v : Store) (now : List PlainFrame) (taken : List ArgValue) (cs : List Cell)
        → length (handed_slots args) ≡ 0 → ArgsFit ps args → AllHanded p code v now ps taken cs → cs ≡ []
    none_handed no_args [] v now [] [] e fits handed = refl
    none_handed no_args [] v now [] (c ∷ cs) e fits handed = absurd handed
    none_handed no_args [] v now (a ∷ taken) cs e fits handed = absurd handed
    none_handed no_args (x ∷ ps) v now taken cs e fits handed = absurd fits
    none_handed (more_args a rest) ps v now taken cs e fits handed = absurd (omega (arith, e))

    first_held : (handed first : ℕ) (now : List PlainFrame) (cs : List Cell) → (handed ≡ 0 → cs ≡ []) → HeldFrom now first cs
        → HeldFrom now (first_argument handed first) cs
    first_held zero first now cs none h = subst (HeldFrom now 0) (sym (none refl)) tt
    first_held (suc n) first now cs none h = h

    all_held : (args : Args) (hf f : ℕ) (v : Store) (now : List PlainFrame) (taken : List ArgValue) (cs : List Cell)
        → ArgsFit (routine_at p called).params args → AllHanded p code v now (routine_at p called).params taken cs
        → HeldFrom now hf (handed_all p called f cs)
        → HeldFrom now (first_argument (shift_of p called + length (handed_slots args)) hf) (handed_all p called f cs)
    all_held args hf f v now taken cs fits handed h =
        first_held (shift_of p called + length (handed_slots args)) hf now (handed_all p called f cs)
        (λ e. no_link (routine_at p called).level f cs (omega (arith, e))
        ∙ none_handed args (routine_at p called).params v now taken cs (omega (arith, e)) fits handed) h

    -- ---- a call as a test

    module _ (none : (routine_at p called).result ≡ None) where
      pub call_test_runs : (args : Args) (lo at : ℕ) → ArgsFit (routine_at p called).params args
          → HasSlots p code r lo (test_slots p r (CallTest called args up))
          → ((m first : ℕ) → HasSlots p code r (first + length (handed_slots args)) (args_slots p r args)
          → ArgParts p tables code input below r line (suc q) m first (first + length (handed_slots args)) args)
          → NodeFor p code input r line at lo (test_code p tables r line at lo (CallTest called args up))
          (ev_test p input below (CallTest called args up)) (Nothing p code input) (suc q)
      unfolding ev_stmts
      call_test_runs args lo at fits slots parts stands v now b =
          let front : List LineInstr = in_row at (own line (call_link_code p tables r called up lo))
          (λ next. args_code p tables r line next (arguments_from p tables r called up lo)
          (arguments_from p tables r called up lo + length (handed_slots args)) args) in
          let call : List LineInstr = own line (call_code p tables r called args up lo 0 ∷ []) in
          let m : ℕ = at + length front in
          let exit : ℕ = at + length (front ++ call) in
          let end : m + 1 ≡ exit = omega (arith, length-append front call) in
          let call_there : Stands code m call = stands_back code at front call stands in
          let calls : InstrAt code input line m (call_code p tables r called args up lo 0) =
          record { instr = call_there.0; on_line = call_there.1 } in
          node_runs p code input line 24 at exit now (leaving p code input lo r now (Nothing p code input))
          (bind (ev_args p input below args v) (λ t taken. as_test (enter p (below.routine called) called up t taken))) (suc q)
          (omega arith)
          (front_from p tables code input below r line (suc q) called up callee args lo lo at exit (Nothing p code input)
          (λ t taken. as_test (enter p (below.routine called) called up t taken)) v now fits slots.behind (omega arith) slots parts
          (stands_front code at front call stands) b
          (λ u taken t left done held s is.
          let bt : Begins p code input r u t = begins p code input lo r now u t left in
          let inside = begins_inside u t bt taken done.cells done.handed (m + 1) in
          let frames = new_frames u t bt taken done.cells done.handed (m + 1) in
          let w : Ways NoYield = leaving p code input lo r t (Nothing p code input) in
          let wb : Ways NoYield = ending p code input true (own_end p called) called frames in
          let first : ℕ = first_argument (shift_of p called + length (handed_slots args))
          (handed_from p tables r (shift_of p called) up lo) in
          let given : List Cell = handed_all p called (up_from u (top u) up) done.cells in
          subst (λ n. Goes code input line 0 24 (Leaves n w) held (as_test (enter p (below.routine called) called up u taken)) s 8 (suc q))
          end
          (call_row code input p line m called first routine.exit t u callee.named given up taken (below.routine called) wb w q calls
          callee.is.there (counts_alike p code input u t callee.named called bt.stand callee.is)
          (routine.runs line (new_store u t bt taken done.cells done.handed (m + 1)) frames inside)
          (comes_back u t bt taken done.cells done.handed lo m)
          held s is
          (holds_arguments p code input u t callee.named called (up_from u (top u) up) first m taken done.cells held s bt.stand callee.is is
          done.handed
          (all_held args (handed_from p tables r (shift_of p called) up lo) (up_from u (top u) up) u t taken done.cells fits done.handed
          done.there)))))
        where
          comes_back : (u : Store) (t : List PlainFrame) (bt : Begins p code input r u t) (taken : List ArgValue) (cells : List Cell)
              (handed : AllHanded p code u t (routine_at p called).params taken cells) (lo m : ℕ) (x : Store) (f : Flow NoYield) (z : State)
              → Leaves routine.exit (ending p code input true (own_end p called) called (new_frames u t bt taken cells handed (m + 1))) x f
              z → Returns code input (m + 1) (leaving p code input lo r t (Nothing p code input)) x z
          comes_back u t bt taken cells handed lo m x (Go y) z left =
              let back = backed u t bt taken cells handed (m + 1) (own_end p called) x z.now left.1 in
              let return_there : slice_get code.instrs routine.exit ≡ Some I.Return =
              subst (EndsAt called routine.exit) none routine.ends in
              record {
                line = line_at code z.at;
                instr =
                    record { instr = ap (slice_get code.instrs) left.0 ∙ return_there; on_line = refl };
                some = back.some;
                back_at =
                    back.back_at;
                goes = (back.left lo, tt);
              }
          comes_back u t bt taken cells handed lo m x (Return None) z left =
              let back = backed u t bt taken cells handed (m + 1) (own_end p called) x z.now left.1 in
              record {
                line = line_at code z.at;
                instr = record { instr = left.2.there; on_line = refl };
                some = back.some;
                back_at =
                    back.back_at;
                goes = (back.left lo, tt);
              }
          comes_back u t bt taken cells handed lo m x (Return (Some n)) z left =
              absurd (subst (λ o. ResultIs p code input o (Some n)) none left.2.result)

    -- ---- a call in an expression

    handed_all_after : (lo : ℕ) (ps : _) (taken : List ArgValue) (cs : List Cell) (v w : Store) (now later : List PlainFrame)
        → Begins p code input r v now → Left p code input lo r now w later → AllHanded p code v now ps taken cs
        → AllHanded p code w later ps taken cs
    handed_all_after lo [] [] [] v w now later b left h = tt
    handed_all_after lo [] [] (c ∷ cs) v w now later b left h = absurd h
    handed_all_after lo [] (a ∷ taken) cs v w now later b left h = absurd h
    handed_all_after lo (x ∷ ps) [] cs v w now later b left h = absurd h
    handed_all_after lo (x ∷ ps) (a ∷ taken) [] v w now later b left h = absurd h
    handed_all_after lo (x ∷ ps) (a ∷ taken) (c ∷ cs) v w now later b left h = (
      handed_after p tables code input below r line q lo x.kind x.cells a c v w now later b left h.0,
      handed_all_after lo ps taken cs v w now later b left h.1,
    )

    held_other : (now : List PlainFrame) (n first : ℕ) (c : Cell) (cs : List Cell) → 1 ≤ length now → n < first → HeldFrom now first cs
        → HeldFrom (top_written now n c) first cs
    held_other now n first c [] some lt h = tt
    held_other now n first c (x ∷ cs) some lt h =
        (holds_other now n first c x some (λ e. omega (arith, e, lt)) h.0, held_other now n (suc first) c cs some (omega (arith, lt)) h.1)

    module _ (range : Range) (result : (routine_at p called).result ≡ Some range) (known : 1 ≤ (routine_at p called).line) where
      module _ (u : Store) (t : List PlainFrame) (bt : Begins p code input r u t) (lo m first h : ℕ) (own_lo : own_end p r ≤ lo)
          (result_kind : slice_get (kinds_at code r) lo ≡ Some slot.Number)
          (mark_kind : slice_get (kinds_at code r) (lo + 1) ≡ Some slot.Mark) where
        abbrev marked : List PlainFrame
        marked = top_written t (lo + 1) (cell.Mark h)

        marked_left : Left p code input (lo + 1) r t u marked
        marked_left = left_temp p code input (lo + 1) r (lo + 1) u t (cell.Mark h) (omega arith) (omega (arith, own_lo)) bt

        bm : Begins p code input r u marked
        bm = begins p code input (lo + 1) r t u marked marked_left

        module _ (taken : List ArgValue) (cells : List Cell) (handed : AllHanded p code u marked (routine_at p called).params taken cells)
          where
            gives_back : (x : Store) (f : Flow NoYield) (z : State)
                → Leaves routine.exit (ending p code input true (own_end p called) called
                (new_frames u marked bm taken cells handed (m + 1 + 1))) x f z
                → LeavesFunction code input (m + 1) called first lo (lo + 1) h (routine_at p called).line
                (leaving p code input lo r t (ValueIn p code input lo)) x f z
            gives_back x (Go y) z left =
                let ends : InstrAt code input (routine_at p called).line routine.exit (I.Fault 6) =
                subst (EndsAt called routine.exit) result routine.ends in
                record { instr = ap (slice_get code.instrs) left.0 ∙ ends.instr; on_line = ap (line_at code) left.0 ∙ ends.on_line }
            gives_back x (Return None) z left = absurd (subst (λ o. ResultIs p code input o None) result left.2.result)
            gives_back x (Return (Some n)) z left =
                let back = backed u marked bm taken cells handed (m + 1 + 1) (own_end p called) x z.now left.1 in
                let integer : is_integer n ≡ true = subst (λ o. ResultIs p code input o (Some n)) result left.2.result in
                let kept : Left p code input (lo + 2) r marked (without_top x) (without_last z.now) = back.left (lo + 2) in
                let bx : Begins p code input r (without_top x) (without_last z.now) =
                begins p code input (lo + 2) r marked (without_top x) (without_last z.now) kept in
                let last : List PlainFrame = top_written (without_last z.now) lo (cell.Int n) in
                let put : Left p code input lo r (without_last z.now) (without_top x) last =
                left_temp p code input lo r lo (without_top x) (without_last z.now) (cell.Int n) (omega arith) own_lo bx in
                let some_now : 1 ≤ length (without_last z.now) = omega (arith, bx.stand.count, bx.stand.some) in
                let mark_there : Holds (without_last z.now) (lo + 1) (cell.Mark h) =
                holds_after p code input (lo + 2) r (lo + 1) (cell.Mark h) u (without_top x) marked (without_last z.now) bm
                (omega (arith, own_lo)) (omega arith) kept
                (holds_temp p code input r (lo + 1) u t (cell.Mark h) slot.Mark mark_kind bt) in
                let from_t : Left p code input lo r t (without_top x) (without_last z.now) =
                left_on p code input lo (lo + 1) r t u (without_top x) marked (without_last z.now) (omega arith)
                (left_less p code input lo (lo + 1) r t u marked (omega arith) marked_left)
                (left_less p code input (lo + 1) (lo + 2) r marked (without_top x) (without_last z.now) (omega arith) kept) in
                record {
                  from = left.2.there.0;
                  line = line_at code z.at;
                  instr = record { instr = left.2.there.1; on_line = refl };
                  number = left.2.there.2;
                  back = back.back_at;
                  kind = has_kind p code input r lo (without_top x) (without_last z.now) slot.Number result_kind bx;
                  mark = holds_other (without_last z.now) lo (lo + 1) (cell.Int n) (cell.Mark h) some_now (λ e. omega (arith, e))
                      mark_there;
                  goes = (
                    left_on p code input lo lo r t (without_top x) (without_top x) (without_last z.now) last (omega arith) from_t put,
                    record {
                      holds = holds_temp p code input r lo (without_top x) (without_last z.now) (cell.Int n) slot.Number result_kind
                          bx;
                      integer = integer;
                    },
                  );
                }

      pub call_expr_runs : (args : Args) (lo at : ℕ) → ArgsFit (routine_at p called).params args
          → HasSlots p code r lo (expr_slots p r (CallExpr called args up))
          → ((m first : ℕ) → HasSlots p code r (first + length (handed_slots args)) (args_slots p r args)
          → ArgParts p tables code input below r line (suc q) m first (first + length (handed_slots args)) args)
          → NodeFor p code input r line at lo (expr_code p tables r line at lo (CallExpr called args up))
          (ev_expr p input below (CallExpr called args up)) (ValueIn p code input lo) (suc q)
      unfolding ev_stmts
      call_expr_runs args lo at fits slots parts stands v now b =
          let la : ℕ = lo + 2 in
          let function : ℕ = (routine_at p called).line in
          let front : List LineInstr = in_row at (own line (call_link_code p tables r called up la))
          (λ next. args_code p tables r line next (arguments_from p tables r called up la)
          (arguments_from p tables r called up la + length (handed_slots args)) args) in
          let call : List LineInstr = own line (I.Mark (lo + 1) ∷ call_code p tables r called args up la lo ∷ I.Cut (lo + 1) ∷ []) in
          let m : ℕ = at + length front in
          let exit : ℕ = at + length (front ++ call) in
          let end : m + 1 + 2 ≡ exit = omega (arith, length-append front call) in
          let there : Stands code m call = stands_back code at front call stands in
          let marks : InstrAt code input line m (I.Mark (lo + 1)) = record { instr = there.0; on_line = there.1 } in
          let calls : InstrAt code input line (m + 1) (call_code p tables r called args up la lo) =
          record { instr = there.2.0; on_line = there.2.1 } in
          let cuts : InstrAt code input line (m + 1 + 1) (I.Cut (lo + 1)) = record { instr = there.2.2.0; on_line = there.2.2.1 } in
          let result_kind : slice_get (kinds_at code r) lo ≡ Some slot.Number = first_kind p code input r lo slot.Number _ slots in
          let rest = slots_behind p code input r lo (slot.Number ∷ []) _ slots in
          let mark_kind : slice_get (kinds_at code r) (lo + 1) ≡ Some slot.Mark = first_kind p code input r (lo + 1) slot.Mark _ rest in
          let parts_slots = slots_behind p code input r lo (slot.Number ∷ slot.Mark ∷ [])
          (call_links p r called up ++ (handed_slots args ++ args_slots p r args)) slots in
          node_runs p code input line 24 at exit now (leaving p code input lo r now (ValueIn p code input lo))
          (bind (ev_args p input below args v) (λ t taken. as_value function (enter p (below.routine called) called up t taken)))
          (suc q) (omega arith)
          (front_from p tables code input below r line (suc q) called up callee args lo la at exit (ValueIn p code input lo)
          (λ t taken. as_value function (enter p (below.routine called) called up t taken)) v now fits slots.behind (omega arith)
          parts_slots parts
          (stands_front code at front call stands) b
          (λ u taken t left done held s is.
          let bt : Begins p code input r u t = begins p code input la r now u t left in
          let h : ℕ = length held in
          let marked : List PlainFrame = top_written t (lo + 1) (cell.Mark h) in
          let z = mark_step code input line m (lo + 1) t held s is marks (has_kind p code input r (lo + 1) u t slot.Mark mark_kind bt) in
          let marked_left : Left p code input (lo + 1) r t u marked =
          left_temp p code input (lo + 1) r (lo + 1) u t (cell.Mark h) (omega arith) (omega (arith, slots.behind)) bt in
          let bm : Begins p code input r u marked = begins p code input (lo + 1) r t u marked marked_left in
          let handed = handed_all_after (lo + 1) (routine_at p called).params taken done.cells u u t marked bt marked_left done.handed in
          let some_now : 1 ≤ length t = omega (arith, bt.stand.count, bt.stand.some) in
          let hf : ℕ = handed_from p tables r (shift_of p called) up la in
          let above : lo + 1 < hf = omega (arith, from_there (shift_of p called) la) in
          let held_there = held_other t (lo + 1) hf (cell.Mark h) (handed_all p called (up_from u (top u) up) done.cells) some_now above
          done.there in
          let inside = begins_inside u marked bm taken done.cells handed (m + 1 + 1) in
          let frames = new_frames u marked bm taken done.cells handed (m + 1 + 1) in
          let w : Ways ℤ = leaving p code input lo r t (ValueIn p code input lo) in
          let wb : Ways NoYield = ending p code input true (own_end p called) called frames in
          let first : ℕ = first_argument (shift_of p called + length (handed_slots args)) hf in
          let given : List Cell = handed_all p called (up_from u (top u) up) done.cells in
          before code input line 0 24 (Leaves exit w) held (as_value function (enter p (below.routine called) called up u taken)) s z.to 1 8
          7 (suc q) (suc q) z.silently (omega arith) (omega arith)
          (subst (λ n. Goes code input line 0 24 (Leaves n w) held (as_value function (enter p (below.routine called) called up u taken))
          z.to 7 (suc q)) end
          (function_call_row code input p line function (m + 1) called first lo (lo + 1) routine.exit marked u callee.named given up taken
          (below.routine called) w wb 6 q held z.to (omega arith) (omega arith)
          calls cuts known callee.is.there (counts_alike p code input u marked callee.named called bm.stand callee.is)
          (routine.runs line (new_store u marked bm taken done.cells handed (m + 1 + 1)) frames inside)
          (gives_back u t bt lo m first h slots.behind result_kind mark_kind taken done.cells handed)
          z.is
          (holds_arguments p code input u marked callee.named called (up_from u (top u) up) first (m + 1) taken done.cells held z.to
          bm.stand callee.is z.is handed
          (all_held args hf (up_from u (top u) up) u marked taken done.cells fits handed held_there))))))
        where
          from_there : (sh la : ℕ) → la ≤ handed_from p tables r sh up la
          from_there zero la = omega arith
          from_there (suc one) la = omega arith
