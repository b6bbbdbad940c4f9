-- What the variables of the module hold in frames that stand for a store, and after the last step of a run.
use Rattle.std.proofs.Common.{◌≡◌, ℕ, ◌+◌, ◌<◌, List, [], ◌∷◌, length, get_or, refl, sym, ap, ◌∙◌, subst, arith}
use Rattle.std.specs.Prelude.{nat_eq}
use Rattle.std.specs.List.{AllByRecursion}
use Rattle.std.proofs.lemmas.List.{get_or_default}
use Rattle.alma_base.specs.Choice.{if_true}
use Rattle.alma_code.specs.declared.cell.Cell.{Cell}
use Rattle.alma_code.specs.declared.cell.Cell.TheVariants as cell
use Rattle.alma_code.specs.declared.cell.SlotKind.TheVariants as slot
use Rattle.alma_code.specs.declared.instr.Instr.TheVariants as I
use Rattle.alma_code.specs.declared.step.End.TheVariants as end
use Rattle.alma_code.specs.Picture.{PlainFrame, PlainEntry}
use Rattle.alma_code.specs.Picture as picture
use Rattle.alma_code.specs.Plain.{PlainCode}
use Rattle.alma_code.specs.Machine.{State, act, step, ends_run, answers_return, state_after_leave}
use Rattle.alma_ir.specs.Tree.{Program, Global, routine_at}
use Rattle.alma_ir.specs.Checked.{IsGlobal, AreNumbers}
use Rattle.alma_mean.specs.Store.{Store, Unknown, Number, At}
use Rattle.alma_mean.specs.Store as store
use Rattle.alma_lower_implements.specs.Values.{cell_of_value, HoldsValues}
use Rattle.alma_lower_implements.proofs.ExprRows.{AreVariables}
use Rattle.alma_lower_implements.proofs.Frames.{IsAt, StandFor, SameContent, shift, shift_in}
use Rattle.alma_lower_implements.proofs.Steps.{InstrAt, does, passed}
use Rattle.alma_lower_templates.proofs.RootForms.{frame_numbers}

module _ (p : Program) (code : PlainCode) (input : List ℕ) where
  -- with one frame a return keeps the frames
  pub return_keeps : (line at : ℕ) (now : List PlainFrame) (held : List PlainEntry) (s : State) → IsAt at now held s
      → InstrAt code input line at I.Return → length now ≡ 1 → (step code input s).state.now ≡ s.now
  unfolding act
  return_keeps line at now held s h i alone =
      let t : State = passed code input s in
      ap (λ x. x.state.now)
      (does code input line at now held s I.Return h i
      ∙ ap (λ z. if_true (nat_eq (length z) 1) (λ _. ends_run end.Succeeded t) (λ _. answers_return (state_after_leave t))) h.frames
      ∙ ap (λ n. if_true (nat_eq n 1) (λ _. ends_run end.Succeeded t) (λ _. answers_return (state_after_leave t))) alone)

  -- what a slot for a number holds
  number_held : (v : Store) (a : store.Cell) (b : Cell) → SameContent p v slot.Number a b → b ≡ cell_of_value a
  number_held v Unknown cell.Unknown h = refl
  number_held v Unknown cell.Unset h = absurd h
  number_held v Unknown (cell.Int x) h = absurd h
  number_held v Unknown (cell.Place x) h = absurd h
  number_held v Unknown (cell.Mark x) h = absurd h
  number_held v (Number a) (cell.Int b) h = ap cell.Int (sym h.0)
  number_held v (Number a) cell.Unknown h = absurd h
  number_held v (Number a) cell.Unset h = absurd h
  number_held v (Number a) (cell.Place x) h = absurd h
  number_held v (Number a) (cell.Mark x) h = absurd h
  number_held v (At q) b h = absurd h

  module _ (v : Store) (now : List PlainFrame) (stand : StandFor p code v now) (flat : shift p 0 ≡ 0)
      (variables : (from cells : ℕ) → AreNumbers (routine_at p 0) from cells → 0 < from → AreVariables p code input 0 from cells) where
    -- each cell of a variable of the module
    variable_held : (from cells : ℕ) → AreVariables p code input 0 from cells → (k : ℕ) → k < cells
        → picture.cell_at now 0 (from + k) cell.Unknown ≡ cell_of_value (store.cell_at v 0 (from + k))
    variable_held from cells h k small =
        let live : 0 < length v = omega (arith, stand.some) in
        let same = stand.frames 0 live in
        let numbers = frame_numbers p code input 0 0 from cells v now stand live stand.main h in
        let there = numbers.cells k small in
        let machine : List Cell = (get_or now 0 picture.no_frame).cells in
        let zero_on : shift_in p v 0 + (from + k) ≡ from + k = omega (arith, flat, ap (shift p) stand.main) in
        get_or_default machine (from + k) cell.Unknown cell.Unset (omega (arith, same.within, there, zero_on))
        ∙ ap (λ n. get_or machine n cell.Unset) (sym zero_on)
        ∙ number_held v (store.cell_at v 0 (from + k)) (get_or machine (shift_in p v 0 + (from + k)) cell.Unset)
        (subst (λ kind. SameContent p v kind (store.cell_at v 0 (from + k)) (get_or machine (shift_in p v 0 + (from + k)) cell.Unset))
        (numbers.kinds k small) (same.cells (from + k) there))

    each_held : (globals : List Global) → AllByRecursion (IsGlobal p) globals → AllByRecursion (λ g. (k : ℕ) → k < g.cells
        → picture.cell_at now 0 (g.slot + k) cell.Unknown ≡ cell_of_value (store.cell_at v 0 (g.slot + k))) globals
    each_held [] h = tt
    each_held (g ∷ globals) h =
        (variable_held g.slot g.cells (variables g.slot g.cells h.0.slots h.0.position), each_held globals h.1)

    -- so the variables of the module hold what they hold in the store
    pub values_held : AllByRecursion (IsGlobal p) p.globals → HoldsValues p v now
    values_held h = each_held p.globals h
