-- The frames that the machine enters on a code and on the renamed one are alike: the first, and that of a call.
use Rattle.std.proofs.Common.{◌≡◌, ℕ, zero, suc, ◌+◌, ◌-◌, ◌<◌, ◌≤◌, inl, inr, List, [], ◌∷◌, ◌++◌, length, get_or, map, take, drop, refl}
use Rattle.std.proofs.Common.{sym, ap, ◌∙◌, arith, Some, option_map, length-set}
use Rattle.std.specs.Prelude.{pos, slice_get, sum_by, true}
use Rattle.std.proofs.lemmas.Bool.{cases_eq, cases_lt, and_parts}
use Rattle.std.proofs.lemmas.Option.{slice_get-map, slice_get_within, slice_get-get_or}
use Rattle.std.proofs.lemmas.List.{length-append, length-drop, length-map, take_all}
use Rattle.std.proofs.lemmas.List.Sums.{sum_by_more, sum_by-cons}
use Rattle.alma_code.specs.declared.cell.Cell.{Cell}
use Rattle.alma_code.specs.declared.cell.Cell.TheVariants as cell
use Rattle.alma_code.specs.declared.cell.SlotKind.{SlotKind}
use Rattle.alma_code.specs.declared.cell.SlotKind.TheVariants as slot
use Rattle.alma_code.specs.declared.head.CodeParam.{CodeParam}
use Rattle.alma_code.specs.declared.head.ParamKind.{ParamKind}
use Rattle.alma_code.specs.declared.head.ParamKind.TheVariants as param
use Rattle.alma_code.specs.Kinds.{is_number, is_place_of, numbers_from}
use Rattle.alma_code.specs.Layout.{blank_of, blank_cells, start_frame, no_param, arg_cells, args_cells, frame_of_call}
use Rattle.alma_code.specs.Layout.{param_slots, holds_param, hold_params}
use Rattle.alma_code.specs.Machine.{start}
use Rattle.alma_code.specs.Picture.{PlainFrame, no_frame}
use Rattle.alma_code.specs.Plain.{PlainCode, head_at, kinds_at}
use Rattle.alma_code.specs.Rules.{has_position}
use Rattle.alma_code.proofs.Heads.{number_is, place_of_is, link_of_is}
use Rattle.alma_lower_slots.specs.Sharing.{Sharing}
use Rattle.alma_lower_slots.proofs.Alike.{IsDue, AlikeFrame, Alike}
use Rattle.alma_lower_slots.proofs.Frames.{cell_written, cell_beside}
use Rattle.alma_lower_slots.proofs.Settles.{Shared}
use Rattle.alma_lower_slots.proofs.Slices.{slice_get-append_left, slice_get_behind}

-- number slots that stand one after another are inside
numbers_inside : (n : ℕ) (kinds : List SlotKind) (i : ℕ) → i ≤ length kinds → numbers_from n kinds i ≡ true → i + n ≤ length kinds
numbers_inside zero kinds i le e = omega arith
numbers_inside (suc n) kinds i le e =
    let both = and_parts (is_number (slice_get kinds i)) (numbers_from n kinds (suc i)) e in
    let lt = slice_get_within kinds i slot.Number (number_is (slice_get kinds i) both.0) in
    let rest = numbers_inside n kinds (suc i) (omega arith) both.1 in
    omega arith

-- the slots of a parameter are inside
param_inside : (kind : ParamKind) (n : ℕ) (kinds : List SlotKind) (i : ℕ) → i ≤ length kinds → holds_param kinds kind n i ≡ true
    → i + param_slots kind n ≤ length kinds
param_inside param.Value n kinds i le e =
    let lt = slice_get_within kinds i slot.Number (number_is (slice_get kinds i) e) in omega arith
param_inside param.Place n kinds i le e =
    let lt = slice_get_within kinds i (slot.Place n) (place_of_is n (slice_get kinds i) e) in omega arith
param_inside param.Mix n kinds i le e =
    let both = and_parts (is_place_of 1 (slice_get kinds i)) (is_number (slice_get kinds (suc i))) e in
    let lt = slice_get_within kinds (suc i) slot.Number (number_is (slice_get kinds (suc i)) both.1) in omega arith
param_inside param.Cells n kinds i le e = numbers_inside n kinds i le e
param_inside param.Link n kinds i le e =
    let lt = slice_get_within kinds i (slot.Link n) (link_of_is n (slice_get kinds i) e) in omega arith

-- the slots of the parameters are inside
pub params_inside : (ps : List CodeParam) (kinds : List SlotKind) (i : ℕ) → i ≤ length kinds → hold_params kinds ps i ≡ true
    → i + sum_by (λ p. param_slots p.kind p.cells) ps ≤ length kinds
params_inside [] kinds i le e = omega arith
params_inside (p ∷ ps) kinds i le e =
    let both = and_parts (holds_param kinds p.kind p.cells i) (hold_params kinds ps (i + param_slots p.kind p.cells)) e in
    let one = param_inside p.kind p.cells kinds i le both.0 in
    let rest = params_inside ps kinds (i + param_slots p.kind p.cells) one both.1 in
    let all = sum_by-cons (λ q. param_slots q.kind q.cells) p ps in
    omega arith

-- an argument puts the same cells into the slots of its parameter on both sides, and not too many
pub record Passes (frames frames' : List PlainFrame) (kind : ParamKind) (n : ℕ) (c : Cell) : Type 0 where
  pub same : (at : ℕ) → arg_cells frames' (length frames') at kind c ≡ arg_cells frames (length frames) at kind c
  pub few : (at : ℕ) → length (arg_cells frames (length frames) at kind c) ≤ param_slots kind n

-- each argument does
pub record PassAll (frames frames' : List PlainFrame) (ps : List CodeParam) (args : List Cell) : Type 0 where
  pub each : (k : ℕ) → k < length ps
      → Passes frames frames' (get_or ps k no_param).kind (get_or ps k no_param).cells (get_or args k cell.Unknown)

-- the first arguments put the same cells into the first slots
args_same : (frames frames' : List PlainFrame) (ps : List CodeParam) (args : List Cell) → PassAll frames frames' ps args → (n : ℕ)
    → n ≤ length ps → args_cells frames' ps args n ≡ args_cells frames ps args n
args_same frames frames' ps args h zero le = refl
args_same frames frames' ps args h (suc n) le =
    let p = get_or ps n no_param in
    let c = get_or args n cell.Unknown in
    let xs = args_cells frames ps args n in
    ap (λ q. q ++ arg_cells frames' (length frames') (length q) p.kind c) (args_same frames frames' ps args h n (omega arith))
    ∙ ap (λ q. xs ++ q) ((h.each n (omega arith)).same (length xs))

-- and not too many
args_few : (frames frames' : List PlainFrame) (ps : List CodeParam) (args : List Cell) → PassAll frames frames' ps args → (n : ℕ)
    → n ≤ length ps → length (args_cells frames ps args n) ≤ sum_by (λ p. param_slots p.kind p.cells) (take n ps)
args_few frames frames' ps args h zero le = omega arith
args_few frames frames' ps args h (suc n) le =
    let size : CodeParam → ℕ = λ p. param_slots p.kind p.cells in
    let p = get_or ps n no_param in
    let c = get_or args n cell.Unknown in
    let xs = args_cells frames ps args n in
    let ys = arg_cells frames (length frames) (length xs) p.kind c in
    let len = length-append xs ys in
    let one = (h.each n (omega arith)).few (length xs) in
    let rest = args_few frames frames' ps args h n (omega arith) in
    let more : sum_by size (take (n + 1) ps) ≡ sum_by size (take n ps) + size p = sum_by_more size ps n no_param (omega arith) in
    let z : n + 1 ≡ suc n = omega arith in
    let sum : sum_by size (take (suc n) ps) ≡ sum_by size (take n ps) + size p = ap (λ m. sum_by size (take m ps)) (sym z) ∙ more in
    omega arith

-- some cells, and blanks behind them
abbrev filled : List Cell → List SlotKind → List Cell
filled xs kinds = xs ++ drop (length xs) (map blank_of kinds)

module _ (code new : PlainCode) (s : Sharing) (w : Shared code new s) where
  -- no slot gets a number that is below the first own ones unless it has one
  pub slot_behind : (r n low : ℕ) → r < length code.routines → n < length (kinds_at code r) → low ≤ s.own r → low ≤ n → low ≤ s.slot r n
  slot_behind r n low lr ln lo le =
      let si = w.shares.routines r lr in
      elim (cases_lt n (s.own r)) [
        | inl lt ↦ let e = si.same n lt in omega arith
        | inr ge ↦ let e = si.above n ge ln in omega arith
      ]

  -- an own slot is one of the renamed routine too
  pub own_inside : (r n : ℕ) → r < length code.routines → n < length (kinds_at code r) → n < s.own r → n < length (kinds_at new r)
  own_inside r n lr ln lo =
      let si = w.shares.routines r lr in
      let k = get_or (kinds_at code r) n slot.Mark in
      let e : slice_get (kinds_at new r) n ≡ Some k =
      ap (slice_get (kinds_at new r)) (sym (si.same n lo)) ∙ w.renames.kinds r n lr ln
      ∙ slice_get-get_or (kinds_at code r) n slot.Mark ln in
      slice_get_within (kinds_at new r) n k e

  -- blanks of the same kinds are the same
  blank_same : (r n : ℕ) → r < length code.routines → n < length (kinds_at code r)
      → slice_get (map blank_of (kinds_at new r)) (s.slot r n) ≡ slice_get (map blank_of (kinds_at code r)) n
  blank_same r n lr ln =
      slice_get-map blank_of (kinds_at new r) (s.slot r n) ∙ ap (option_map blank_of) (w.renames.kinds r n lr ln)
      ∙ sym (slice_get-map blank_of (kinds_at code r) n)

  -- the first cells on both sides
  start_cell : (n : ℕ) → n < length (kinds_at code 0)
      → slice_get (start_frame (head_at new 0)).cells (s.slot 0 n) ≡ slice_get (start_frame (head_at code 0)).cells n
  start_cell n ln =
      let lr = w.sound.table.some in
      let si = w.shares.routines 0 lr in
      let wide = length-map (kinds_at code 0) blank_of in
      let wide' = length-map (kinds_at new 0) blank_of in
      elim (cases_eq n 0) [
        | inl e ↦
            let l0 = own_inside 0 0 lr (omega arith) si.some in
            let z : s.slot 0 n ≡ 0 = ap (s.slot 0) e ∙ si.same 0 si.some in
            ap (slice_get (start_frame (head_at new 0)).cells) z
            ∙ cell_written (blank_cells (head_at new 0)) 0 (cell.Int (pos 0)) (omega arith)
            ∙ sym (cell_written (blank_cells (head_at code 0)) 0 (cell.Int (pos 0)) (omega arith))
            ∙ ap (slice_get (start_frame (head_at code 0)).cells) (sym e)
        | inr ne ↦
            let above = slot_behind 0 n 1 lr ln si.some (omega arith) in
            cell_beside (blank_cells (head_at new 0)) 0 (s.slot 0 n) (cell.Int (pos 0)) (λ z. absurd (omega arith))
            ∙ blank_same 0 n lr ln
            ∙ sym (cell_beside (blank_cells (head_at code 0)) 0 n (cell.Int (pos 0)) ne)
      ]

  -- the first frames
  start_frame_alike : (P : ℕ → Type 0) → AlikeFrame code new s P (start_frame (head_at code 0)) (start_frame (head_at new 0))
  start_frame_alike P = record {
    routine = refl;
    back = refl;
    declared = (w.renames.routines 0 w.sound.table.some).declared;
    kinds = refl;
    full = length-set (blank_cells (head_at new 0)) 0 (cell.Int (pos 0)) ∙ length-map (kinds_at new 0) blank_of;
    cells = λ n ln due. start_cell n ln;
  }

  -- the machine begins on both in states that are alike
  pub start_alike : Alike code new s (start code) (start new)
  start_alike = record {
    rest = record {
      at = refl;
      last = refl;
      mode = refl;
      steps = refl;
      choices = refl;
      fails = refl;
      held = record { count = refl; each = λ h lt. absurd (omega arith) };
    };
    now = λ going. record {
      count = refl;
      each = λ f. elim f as (λ f. f < length (start code).now
          → AlikeFrame code new s (IsDue code new s (start code).now 0 f) (get_or (start code).now f no_frame)
          (get_or (start new).now f no_frame)) [
            | zero ↦ λ _. start_frame_alike (IsDue code new s (start code).now 0 0)
            | suc k ↦ λ lf. absurd (omega arith)
          ];
    };
  }

  -- the cells of the frames that a call enters
  filled_same : (r n : ℕ) (xs : List Cell) → r < length code.routines → n < length (kinds_at code r) → length xs ≤ s.own r
      → slice_get (filled xs (kinds_at new r)) (s.slot r n) ≡ slice_get (filled xs (kinds_at code r)) n
  filled_same r n xs lr ln few =
      let si = w.shares.routines r lr in
      elim (cases_lt n (length xs)) [
        | inl lt ↦
            ap (slice_get (filled xs (kinds_at new r))) (si.same n (omega arith))
            ∙ slice_get-append_left xs (drop (length xs) (map blank_of (kinds_at new r))) n lt
            ∙ sym (slice_get-append_left xs (drop (length xs) (map blank_of (kinds_at code r))) n lt)
        | inr le ↦
            slice_get_behind xs (map blank_of (kinds_at new r)) (s.slot r n) (slot_behind r n (length xs) lr ln few le)
            ∙ blank_same r n lr ln
            ∙ sym (slice_get_behind xs (map blank_of (kinds_at code r)) n le)
      ]

  -- own slots of a routine fit into the renamed one
  filled_inside : (r : ℕ) (xs : List Cell) → r < length code.routines → length xs ≤ s.own r → length xs ≤ length (kinds_at code r)
      → length (filled xs (kinds_at new r)) ≡ length (kinds_at new r)
  filled_inside r xs lr few room =
      let bs = map blank_of (kinds_at new r) in
      let wide = length-map (kinds_at new r) blank_of in
      let all = length-append xs (drop (length xs) bs) in
      let rest = length-drop (length xs) bs in
      elim (cases_eq (length xs) 0) [
        | inl e ↦ omega arith
        | inr ne ↦ let last = own_inside r (length xs - 1) lr (omega arith) (omega arith) in omega arith
      ]

  -- the frames that a call enters, where the arguments are the same
  pub entered_alike : (frames frames' : List PlainFrame) (r back : ℕ) (args : List Cell) (P : ℕ → Type 0) → r < length code.routines
      → PassAll frames frames' (head_at code r).params args
      → AlikeFrame code new s P (frame_of_call frames (head_at code r) r back args) (frame_of_call frames' (head_at new r) r back args)
  entered_alike frames frames' r back args P lr pass =
      let ps = (head_at code r).params in
      let size : CodeParam → ℕ = λ p. param_slots p.kind p.cells in
      let is = w.renames.routines r lr in
      let si = w.shares.routines r lr in
      let xs = args_cells frames ps args (length ps) in
      let same : args_cells frames' (head_at new r).params args (length (head_at new r).params) ≡ xs =
      ap (λ qs. args_cells frames' qs args (length qs)) is.params ∙ args_same frames frames' ps args pass (length ps) (omega arith) in
      let all : take (length ps) ps ≡ ps = take_all (length ps) ps (omega arith) in
      let sum : sum_by size (take (length ps) ps) ≡ sum_by size ps = ap (sum_by size) all in
      let few = args_few frames frames' ps args pass (length ps) (omega arith) in
      let room = params_inside ps (kinds_at code r) 0 (omega arith)
      (and_parts (hold_params (kinds_at code r) ps 0) (has_position code r) (w.sound.heads r lr).2).0 in
      let own : length xs ≤ s.own r = omega (arith, si.params) in
      let cells : (frame_of_call frames' (head_at new r) r back args).cells ≡ filled xs (kinds_at new r) =
      ap (λ q. filled q (kinds_at new r)) same in
      record {
        routine = refl;
        back = refl;
        declared = is.declared;
        kinds = refl;
        full = ap length cells ∙ filled_inside r xs lr own (omega arith);
        cells = λ n ln due. ap (λ q. slice_get q (s.slot r n)) cells ∙ filled_same r n xs lr ln own;
      }
