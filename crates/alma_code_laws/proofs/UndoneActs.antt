-- What each instruction makes of the stack of choice entries: one clause for each form.
use Rattle.std.proofs.Common.{◌≡◌, ℕ, ◌-◌, List, [], ◌∷◌, ◌++◌, length, refl, ap, Some}
use Rattle.std.specs.Prelude.{◌+ℤ◌, ◌-ℤ◌, ◌*ℤ◌, neg_ℤ, Bool, true, false, slice_get, nat_eq}
use Rattle.alma_base.specs.Choice.{if_true}
use Rattle.alma_base.specs.Numbers.{is_zero, is_beyond, div_down_of, mod_down_of}
use Rattle.alma_base.specs.Reading.{number_from}
use Rattle.alma_base.specs.declared.fault.RunFault.TheVariants as fault
use Rattle.alma_code.specs.declared.cell.ChoiceKind.TheVariants as choice
use Rattle.alma_code.specs.declared.instr.Instr.{Instr}
use Rattle.alma_code.specs.declared.instr.Instr.TheVariants as I
use Rattle.alma_code.specs.Picture.{last_frame}
use Rattle.alma_code.specs.Plain.{PlainCode}
use Rattle.alma_code.specs.Machine.{State, act, slot_in, kind_of, quiet_step, put_number, run_faults, is_forall_at, state_with_carry}
use Rattle.alma_code.specs.Machine.{state_after_leave, overlay}
use Rattle.alma_code_laws.proofs.Does.{Does, stays, pushes, entry_of, if_true_does, place_in, range_in, known_in, mark_slot, number_does}
use Rattle.alma_code_laws.proofs.Does.{place_does, mark_does, link_does, put_number_does, put_place_does, put_mark_does, put_link_does}
use Rattle.alma_code_laws.proofs.Does.{integer_does, check_does, content_does, store_does, binds_does, equation_does, equations_do}
use Rattle.alma_code_laws.proofs.Does.{copies_do, cut_does, keep_does, finish_does, arguments_do, enters_does, routine_does, result_does}
use Rattle.alma_code_laws.proofs.Does.{position_does, read_does, byte_does, text_does, fault_does}

-- what is laid over changes no entry
overlay_holds : (b : Bool) (s : State) (h : ℕ) → (if_true b (λ _. state_with_carry s h) (λ _. s)).held ≡ s.held
overlay_holds true s h = refl
overlay_holds false s h = refl

module _ (code : PlainCode) (input : List ℕ) where
  pub act_does : (i : Instr) (s : State) → Does s.held s.now (act code input i s)
  unfolding act
  act_does (I.Const a v) s = put_number_does _ _ s a v refl
  act_does (I.Move a b) s = number_does _ _ s b _ refl (λ v. put_number_does _ _ s a v refl)
  act_does (I.Add a b c) s = number_does _ _ s b _ refl
      (λ x. number_does _ _ s c _ refl (λ y. integer_does _ _ s (x +ℤ y) (put_number s a) refl (put_number_does _ _ s a (x +ℤ y) refl)))
  act_does (I.Sub a b c) s = number_does _ _ s b _ refl
      (λ x. number_does _ _ s c _ refl (λ y. integer_does _ _ s (x -ℤ y) (put_number s a) refl (put_number_does _ _ s a (x -ℤ y) refl)))
  act_does (I.Mul a b c) s = number_does _ _ s b _ refl
      (λ x. number_does _ _ s c _ refl (λ y. integer_does _ _ s (x *ℤ y) (put_number s a) refl (put_number_does _ _ s a (x *ℤ y) refl)))
  act_does (I.Div a b c) s =
      number_does _ _ s b _ refl (λ x. number_does _ _ s c _ refl (λ y. if_true_does _ _ (is_zero y) _ _ (stays refl refl)
      (integer_does _ _ s (div_down_of x y) (put_number s a) refl (put_number_does _ _ s a (div_down_of x y) refl))))
  act_does (I.Mod a b c) s =
      number_does _ _ s b _ refl (λ x. number_does _ _ s c _ refl (λ y. if_true_does _ _ (is_zero y) _ _ (stays refl refl)
      (integer_does _ _ s (mod_down_of x y) (put_number s a) refl (put_number_does _ _ s a (mod_down_of x y) refl))))
  act_does (I.Neg a b) s = number_does _ _ s b _ refl
      (λ x. integer_does _ _ s (neg_ℤ x) (put_number s a) refl (put_number_does _ _ s a (neg_ℤ x) refl))
  act_does (I.Equal a b c) s = number_does _ _ s b _ refl (λ x. number_does _ _ s c _ refl (λ y. put_number_does _ _ s a _ refl))
  act_does (I.Less a b c) s = number_does _ _ s b _ refl (λ x. number_does _ _ s c _ refl (λ y. put_number_does _ _ s a _ refl))
  act_does (I.LessEq a b c) s = number_does _ _ s b _ refl (λ x. number_does _ _ s c _ refl (λ y. put_number_does _ _ s a _ refl))
  act_does (I.Flip a b) s = number_does _ _ s b _ refl (λ x. put_number_does _ _ s a _ refl)
  act_does (I.InRange a r) s =
      number_does _ _ s a _ refl (λ v. range_in _ _ (slice_get code.ranges r) s _ refl
      (λ t. check_does _ _ t fault.Range s v _ refl (stays refl refl)))
  act_does (I.Local a b) s = put_place_does _ _ s a _ _ refl
  act_does (I.Global a b) s = put_place_does _ _ s a _ _ refl
  act_does (I.Same a b) s = place_does _ _ s b _ refl (λ p. put_place_does _ _ s a _ _ refl)
  act_does (I.Field a b c) s = place_does _ _ s b _ refl (λ p. put_place_does _ _ s a _ _ refl)
  act_does (I.Index a b c d) s =
      place_does _ _ s b _ refl (λ p. number_does _ _ s c _ refl (λ v. range_in _ _ (slice_get code.ranges d) s _ refl
      (λ t. check_does _ _ t fault.Index s v _ refl (put_place_does _ _ s a _ _ refl))))
  act_does (I.Load a b) s =
      place_does _ _ s b _ refl (λ p. content_does _ _ s p.frame p.slot _ refl
      (λ u. known_in _ _ u s _ refl (λ v. put_number_does _ _ s a v refl)))
  act_does (I.Store a b) s = place_does _ _ s a _ refl
      (λ p. number_does _ _ s b _ refl (λ v. store_does _ _ s p.frame p.slot v quiet_step refl (stays refl refl)))
  act_does (I.Known a b) s = place_does _ _ s b _ refl (λ p. content_does _ _ s p.frame p.slot _ refl (λ u. put_number_does _ _ s a _ refl))
  act_does (I.Bind a b c) s =
      place_does _ _ s a _ refl (λ p. number_does _ _ s b _ refl (λ v. range_in _ _ (slice_get code.ranges c) s _ refl
      (λ t. content_does _ _ s p.frame p.slot _ refl (λ u. binds_does _ _ s p t v u refl))))
  act_does (I.Unify a b c d) s =
      place_does _ _ s a _ refl (λ p. range_in _ _ (slice_get code.ranges b) s _ refl (λ r. place_does _ _ s c _ refl
      (λ q. range_in _ _ (slice_get code.ranges d) s _ refl
      (λ t. equation_does _ _ s p.frame p.slot (Some r) q.frame q.slot (Some t) _ refl (λ x e. stays e refl)))))
  act_does (I.CopyCells a b) s = place_does _ _ s a _ refl
      (λ p. place_does _ _ s b _ refl (λ q. copies_do _ _ p.len s.now s p.frame p.slot q.frame q.slot refl))
  act_does (I.SameCells a b) s = place_does _ _ s a _ refl
      (λ p. place_does _ _ s b _ refl (λ q. equations_do _ _ p.len s p.frame p.slot q.frame q.slot refl))
  act_does (I.Jump a) s = stays refl refl
  act_does (I.JumpZero a b) s = number_does _ _ s a _ refl (λ v. if_true_does _ _ (is_zero v) _ _ (stays refl refl) (stays refl refl))
  act_does (I.Check a) s = number_does _ _ s a _ refl (λ v. if_true_does _ _ (is_zero v) _ _ (stays refl refl) (stays refl refl))
  act_does I.Fail s = stays refl refl
  act_does (I.Mark a) s = put_mark_does _ _ s a _ refl
  act_does (I.Cut a) s = mark_does _ _ s a _ refl (λ h. cut_does _ _ s h refl)
  act_does (I.Choose a) s = pushes choice.Branch a refl refl
  act_does (I.Forall a b) s = mark_slot _ _ (kind_of s a) s _ refl (pushes choice.Forall b refl refl)
  act_does (I.Overlay a b) s =
      mark_does _ _ s a _ refl (λ h. pushes choice.Body b
      (ap (λ x. x ++ entry_of choice.Body b (overlay s h).now ∷ []) (overlay_holds (is_forall_at s.held h) s h)) refl)
  act_does (I.Keep a) s = mark_does _ _ s a _ refl (λ h. keep_does _ _ s h refl)
  act_does I.Finish s = finish_does _ _ s refl
  act_does (I.Call r b c) s =
      routine_does _ _ (slice_get code.routines r) s _ refl
      (λ h. arguments_do _ _ h.params s b _ refl (λ args. enters_does _ _ s r _ h args refl))
  act_does I.Return s = if_true_does _ _ (nat_eq (length s.now) 1) _ _ (stays refl refl) (stays refl refl)
  act_does (I.ReturnValue a) s = number_does _ _ s a _ refl
      (λ v. result_does _ _ (slice_get code.instrs ((last_frame s.now).back - 1)) (state_after_leave s) v refl)
  act_does (I.ReadInt a r) s =
      place_does _ _ s a _ refl (λ p. range_in _ _ (slice_get code.ranges r) s _ refl
      (λ t. position_does _ _ s _ refl (λ n. read_does _ _ s t p (number_from input n) refl)))
  act_does (I.ReadChar a r) s =
      place_does _ _ s a _ refl (λ p. range_in _ _ (slice_get code.ranges r) s _ refl
      (λ t. position_does _ _ s _ refl (λ n. byte_does _ _ s t p n (slice_get input n) refl)))
  act_does (I.WriteInt a) s = number_does _ _ s a _ refl (λ v. stays refl refl)
  act_does (I.WriteChar a) s = number_does _ _ s a _ refl (λ v. stays refl refl)
  act_does (I.WriteBool a) s = number_does _ _ s a _ refl (λ v. stays refl refl)
  act_does (I.WriteText a) s = text_does _ _ (slice_get code.texts a) s refl
  act_does I.WriteLine s = stays refl refl
  act_does (I.Fault n) s = fault_does _ _ (slice_get run_faults n) s refl
  act_does (I.Step a b c d) s =
      number_does _ _ s a _ refl (λ x. number_does _ _ s b _ refl (λ y. number_does _ _ s c _ refl
      (λ z. if_true_does _ _ (is_beyond (x +ℤ z) y z) _ _ (stays refl refl) (put_number_does _ _ s a (x +ℤ z) refl))))
  act_does (I.Own a) s = put_link_does _ _ s a _ refl
  act_does (I.Chain a b c) s = link_does _ _ s b _ refl
      (λ f. place_in _ _ (slot_in s f c) s _ refl (λ p. put_link_does _ _ s a p.frame refl))
  act_does (I.Outer a b c) s = link_does _ _ s b _ refl (λ f. put_place_does _ _ s a f _ refl)
  act_does (I.OuterSame a b c) s = link_does _ _ s b _ refl
      (λ f. place_in _ _ (slot_in s f c) s _ refl (λ p. put_place_does _ _ s a _ _ refl))
