-- Each answer is the lemma of its form, of what the steps put.
use Rattle.std.proofs.Common.{◌≡◌, ◌∙◌, ◌+◌, ◌-◌, ◌≤◌, [], length, drop, refl, sym, ap, subst, arith, add-zero, length-drop}
use Rattle.std.proofs.Common.{rules, to_z, of_z, w64}
use Rattle.std.proofs.lemmas.Int.{to_z-of_z}
use Rattle.std.proofs.Math.ListN.{drop_of_length-le}
use Rattle.alma_ir.specs.Tree as tree
use Rattle.alma_ir.specs.View.{stmts_list, tests_list, test_of, expr_of, links_list, args_list, arg_of, desig_of, sels_list, sel_of}
use Rattle.alma_ir.specs.Lines.{sels_with, sel_with}
use Rattle.alma_ir.specs.Count.{test_nodes, expr_nodes, args_nodes, arg_nodes, sels_nodes, sel_nodes}
use Rattle.alma_ir.proofs.Views
use Rattle.alma_lower_work.specs.Front.{around, front}
use Rattle.std.specs.Prelude.{IfOk}
use Rattle.alma_choice.specs.Emitted.{aim_jump}
use Rattle.alma_lower_templates.specs.Slots.{is_simple}
use Rattle.alma_lower_work.specs.Puts.{PutsGuard}
use Rattle.alma_lower_parts.proofs.Beginning.{both_ok}
use Rattle.alma_lower_parts.proofs.ExprForms.{load_own, load_held, no_links_put, links_put, chain_put, compare_put, known_put, chr_put}
use Rattle.alma_lower_work.proofs.DesigForms.{no_sels_put, sels_put, index_put, index_part}
use Rattle.alma_lower_parts.proofs.PlaceForms.{desig_put, desig_place, own_held, own_held_at, made_held, made_held_at}
use Rattle.alma_lower_parts.proofs.CallForms.{no_args_put, args_put, value_arg_put, mix_value_put, cells_arg_put, place_arg_put}
use Rattle.alma_lower_parts.proofs.CallForms.{mix_place_put, own_place_put, made_place_put, handed_put, call_test_put, call_value_put}
use Rattle.alma_lower_parts.proofs.GuardForms.{simple_guard, barrier_guard}
use Rattle.alma_lower_parts.proofs.IfForms.{truth_put}
use Rattle.alma_lower_parts.proofs.TestForms.{value_test_put, unequal_put, bind_left_put, bind_right_put, unify_put, same_put, seq_put}
use Rattle.alma_lower_parts.proofs.TestForms.{no_and_put, more_and_put, and_put, not_put, first_put, last_put}
use Rattle.alma_lower_parts.proofs.Said.{on_ok, if_ok, then_ok, from_both, from_said, said, through, guard_is, test_as, expr_as, arg_as}
use Rattle.alma_lower_parts.proofs.Said.{sel_as, expr_is, args_is, links_is, sels_is, operands_is, tests_is, args_at, stays_at, stays_there}
use Rattle.alma_lower_parts.proofs.Said.{put_there, put_slot, first_is, first_at, own_value, own_at, made_value, made_at, no_parts}
use Rattle.alma_lower_parts.proofs.Said.{part_step, codes_is, some_elements, no_elements, drop_one, drop_last}
use Rattle.alma_lower_parts.proofs.Rows.{more_operands, or_none, or_one, or_of}
use Rattle.alma_lower_parts.proofs.Sizes.{test_at, arg_at, sel_at, link_at}
use Rattle.alma_lower_emit.proofs.Behind.{put_behind, value_behind, slot_behind, jump_behind}
use Rattle.alma_lower_templates.specs.Templates as T
use Rattle.alma_lower_emit.proofs.+emit.Goals as goal

pub call::emit_call-returns-clause-first : goal.call::emit_call-returns-clause-first
call::emit_call-returns-clause-first g t c = if_ok c.slot_of.result (λ given is. is ∙ c.in_ok-handed.ensures.first) c.slot_of.ensures.slot

pub call::emit_call-returns-clause-puts : goal.call::emit_call-returns-clause-puts
call::emit_call-returns-clause-puts g t c =
    let begins = c.in_ok-handed.ensures.begins in
    on_ok c.slot_of.result (λ ok. handed_put (around c.args.scene.now) c.args.line _ _ _ _ _ _ _ _ begins.link begins.slots begins.to_slot
    (said c.emit_args.result ok c.emit_args.ensures.puts)) c.slot_of.ensures.done

pub call::emit_args-loop-arg-init : goal.call::emit_args-loop-arg-init
call::emit_args-loop-arg-init g t c = λ e h. h

pub call::emit_args-loop-arg-preserved : goal.call::emit_args-loop-arg-preserved
call::emit_args-loop-arg-preserved g t c =
    let l = c.loop-arg in
    let xs = drop (l.arg-index + 1) c.args.args.now in
    let one : args_list (drop l.arg-index c.args.args.now) ≡ tree.more_args (arg_of c.arg-item.result) (args_list xs) =
    ap args_list (drop_one c.args.args.now l.arg-index c.arg-item.result c.loop-arg-test.true c.arg-item.is) in
    λ e h. l.invariant e (args_is (around c.args.scene.now) c.args.line l.slot _ _ _ _ (sym one)
    (args_put (around c.args.scene.now) c.args.line _ _ _ l.slot _ _
    (said c.emit_arg.result c.in_ok-slot.ensures.done c.emit_arg.ensures.puts)
    (args_at (around c.args.scene.now) c.args.line _ _ _ _ _ c.in_ok-slot.ensures.next h)))

pub call::emit_args-returns : goal.call::emit_args-returns
call::emit_args-returns g t c = record {
  puts =
      c.loop-arg.invariant _ (args_is (around c.args.scene.now) c.args.line c.loop-arg.slot _ _ _ _
      (ap args_list (sym (drop_of_length-le c.args.args.now (omega (arith, c.loop-arg-test.false)))))
      (no_args_put (around c.args.scene.now) c.args.line _ _));
}

pub call::emit_arg-returns-in-Value : goal.call::emit_arg-returns-in-Value
call::emit_arg-returns-in-Value g t c =
    let view : arg_of c.args.arg.now ≡ tree.ByValue (expr_of c.in-Value.value) c.in-Value.range = ap arg_of c.in-Value.is
    ∙ Views.byvalue_view _ _ in
    record {
      puts = arg_as c.number_of.result (around c.args.scene.now) c.args.line c.args.to _ _ _ _ view
          (put_behind c.emit_value-from.result c.number_of.result c.emit_value-from.ensures.puts c.emit_value-from.ensures.value
          c.number_of.ensures.done c.number_of.ensures.puts
          (λ at puts is h. value_arg_put (around c.args.scene.now) c.args.line _ _ _ _ _ _ _ puts is h));
    }

pub call::emit_arg-returns-in-MixValue : goal.call::emit_arg-returns-in-MixValue
call::emit_arg-returns-in-MixValue g t c =
    let view : arg_of c.args.arg.now ≡ tree.MixValue (expr_of c.in-MixValue.value) c.in-MixValue.range = ap arg_of c.in-MixValue.is
    ∙ Views.mixvalue_view _ _ in
    record {
      puts = arg_as c.number_of-in-MixValue.result (around c.args.scene.now) c.args.line c.args.to _ _ _ _ view
          (put_behind c.emit_value-from-in-MixValue.result c.number_of-in-MixValue.result c.emit_value-from-in-MixValue.ensures.puts
          c.emit_value-from-in-MixValue.ensures.value c.number_of-in-MixValue.ensures.done c.number_of-in-MixValue.ensures.puts
          (λ at puts is h. mix_value_put (around c.args.scene.now) c.args.line _ _ _ _ _ _ _ puts is h));
    }

pub call::emit_arg-returns-in-Cells : goal.call::emit_arg-returns-in-Cells
call::emit_arg-returns-in-Cells g t c =
    let view : arg_of c.args.arg.now ≡ tree.ByCells (desig_of c.in-Cells.desig) = ap arg_of c.in-Cells.is ∙ Views.bycells_view _ in
    record {
      puts = arg_as c.emit_place.result (around c.args.scene.now) c.args.line c.args.to _ _ _ _ view
          (on_ok c.emit_place.result (cells_arg_put (around c.args.scene.now) c.args.line _ _ _ _) c.emit_place.ensures.puts);
    }

pub call::emit_arg-returns-in-Place : goal.call::emit_arg-returns-in-Place
call::emit_arg-returns-in-Place g t c =
    let view : arg_of c.args.arg.now ≡ tree.ByPlace (desig_of c.in-Place.desig) = ap arg_of c.in-Place.is ∙ Views.byplace_view _ in
    record {
      puts = arg_as c.emit_place-in-Place.result (around c.args.scene.now) c.args.line c.args.to _ _ _ _ view
          (on_ok c.emit_place-in-Place.result (place_arg_put (around c.args.scene.now) c.args.line _ _ _ _)
          c.emit_place-in-Place.ensures.puts);
    }

pub call::emit_arg-returns-in-MixPlace : goal.call::emit_arg-returns-in-MixPlace
call::emit_arg-returns-in-MixPlace g t c =
    let view : arg_of c.args.arg.now ≡ tree.MixPlace (desig_of c.in-MixPlace.desig) = ap arg_of c.in-MixPlace.is ∙ Views.mixplace_view _ in
    record {
      puts = arg_as c.emit_place-in-MixPlace.result (around c.args.scene.now) c.args.line c.args.to _ _ _ _ view
          (on_ok c.emit_place-in-MixPlace.result (mix_place_put (around c.args.scene.now) c.args.line _ _ _ _)
          c.emit_place-in-MixPlace.ensures.puts);
    }

pub call::emit_call_value-returns : goal.call::emit_call_value-returns
call::emit_call_value-returns g t c =
    let takes = c.in_ok-to.ensures in
    record {
      slot = if_ok c.slot_of.result (λ given is. is ∙ takes.to_slot) c.slot_of.ensures.slot;
      puts = on_ok c.slot_of.result (λ ok. expr_is (around c.args.scene.now) c.args.line _ _ _ _
          (ap (λ x. tree.CallExpr c.args.call.now.routine (args_list x) c.args.call.now.up) c.deref.ensures.value)
          (call_value_put (around c.args.scene.now) c.args.line _ _ _ _ _ _ _ _ _ _ _ takes.takes_to takes.to_slot takes.takes_mark
          takes.mark_slot
          c.in_ok-first.ensures.puts c.in_ok-first.ensures.first (said c.put_function.result ok c.put_function.ensures)))
          c.slot_of.ensures.done;
    }

pub designator::emit_desig-returns-clause-place : goal.designator::emit_desig-returns-clause-place
designator::emit_desig-returns-clause-place g t c = if_ok c.emit_sels.result
    (λ place h. desig_place (around c.args.scene.now) c.args.line _ _ _ place _ _ _ _
    (ap sels_list c.deref.ensures.value) c.in_ok-to.ensures h) c.emit_sels.ensures.place

pub designator::emit_desig-returns-clause-puts : goal.designator::emit_desig-returns-clause-puts
designator::emit_desig-returns-clause-puts g t c = on_ok c.emit_sels.result
    (desig_put (around c.args.scene.now) c.args.line _ _ _ _ _ _ _ _ (ap sels_list c.deref.ensures.value) c.in_ok-to.ensures)
    c.emit_sels.ensures.puts

pub expression::emit_load-returns-in-Some : goal.expression::emit_load-returns-in-Some
expression::emit_load-returns-in-Some g t c =
    record {
      slot = if_ok c.slot_of.result (λ given is. is ∙ c.in_ok-to.ensures.slot) c.slot_of.ensures.slot;
      puts = on_ok c.slot_of.result
          (λ ok. load_own (around c.args.scene.now) c.args.line _ _ _ _ _ _
          (sym c.in-Some.is ∙ c.in_ok-from.ensures) c.in_ok-to.ensures.takes c.in_ok-to.ensures.slot (said c.add.result ok c.add.ensures))
          c.slot_of.ensures.done;
    }

pub expression::emit_load-returns-in-None : goal.expression::emit_load-returns-in-None
expression::emit_load-returns-in-None g t c =
    record {
      slot = if_ok c.load_of.result (λ given is. is ∙ c.in_ok-to.ensures.slot) c.load_of.ensures.slot;
      puts = put_behind c.emit_held-place.result c.load_of.result c.emit_held-place.ensures.puts c.emit_held-place.ensures.place
          c.load_of.ensures.done c.load_of.ensures.codes
          (λ at puts is h. load_held (around c.args.scene.now) c.args.line _ _ _ _ _ _ _
          (sym c.in-None.is ∙ c.in_ok-from.ensures) c.in_ok-to.ensures.takes c.in_ok-to.ensures.slot puts is h);
    }

pub expression::emit_chain-returns : goal.expression::emit_chain-returns
expression::emit_chain-returns g t c =
    record {
      slot = if_ok c.slot_of.result (λ given is. is ∙ c.in_ok-first-2.ensures.to ∙ c.in_ok-first.ensures.to) c.slot_of.ensures.slot;
      puts = on_ok c.slot_of.result (λ ok. chain_put (around c.args.scene.now) c.args.line _ _ _ _ _ _ _ _ _ _ _
          (first_is (around c.args.scene.now) c.args.line _ _ _ _ _ (c.taken_by-taken.ensures _) c.in_ok-first.ensures.puts)
          c.in_ok-first.ensures.to
          (first_at (around c.args.scene.now) c.args.line _ _ _ _ (c.taken_by-taken.ensures _) c.in_ok-first.ensures.from)
          c.in_ok-first-2.ensures.from c.in_ok-first-2.ensures.to c.in_ok-first-2.ensures.codes
          (said c.emit_links.result ok c.emit_links.ensures.puts)) c.slot_of.ensures.done;
    }

pub expression::emit_first-returns-in-Some : goal.expression::emit_first-returns-in-Some
expression::emit_first-returns-in-Some g t c =
    record {
      to = c.stay_at.ensures.to;
      from = if_ok c.stay_at.result (λ first h. h
          ∙ stays_at (around c.args.scene.now) c.args.line _ _ _ (sym c.in-Some.is ∙ c.in_ok-from.ensures)) c.stay_at.ensures.from;
      puts = on_ok c.stay_at.result
          (stays_there (around c.args.scene.now) c.args.line _ _ (expr_of c.args.expr.now) c.args.taken _
          (sym c.in-Some.is ∙ c.in_ok-from.ensures)) c.stay_at.ensures.takes;
    }

pub expression::emit_first-returns-in-None : goal.expression::emit_first-returns-in-None
expression::emit_first-returns-in-None g t c =
    record {
      to = through c.emit_expr.result c.put_at.result c.emit_expr.ensures.slot c.put_at.ensures.done c.put_at.ensures.to
          (λ slot first is h. h ∙ is);
      from = through c.emit_expr.result c.put_at.result c.emit_expr.ensures.slot c.put_at.ensures.done c.put_at.ensures.from
          (λ slot first is h. h ∙ put_slot (around c.args.scene.now) c.args.line _ _ _ (sym c.in-None.is ∙ c.in_ok-from.ensures) is);
      puts = on_ok c.put_at.result (λ ok. put_there (around c.args.scene.now) c.args.line _ _ _ _ (sym c.in-None.is ∙ c.in_ok-from.ensures)
          (said c.emit_expr.result ok c.emit_expr.ensures.puts)) c.put_at.ensures.done;
    }

pub expression::emit_compare-returns : goal.expression::emit_compare-returns
expression::emit_compare-returns g t c =
    record {
      slot = if_ok c.slot_of.result (λ given is. is ∙ c.in_ok-first.ensures.to) c.slot_of.ensures.slot;
      puts = on_ok c.slot_of.result (λ ok. compare_put (around c.args.scene.now) c.args.line _ _ _ _ _ _ _ _ _ _ c.in_ok-first.ensures.puts
          c.in_ok-first.ensures.to c.in_ok-first.ensures.from c.in_ok-other.ensures.puts c.in_ok-other.ensures.value
          (said c.put_cmp.result ok c.put_cmp.ensures)) c.slot_of.ensures.done;
    }

pub expression::emit_truth-returns : goal.expression::emit_truth-returns
expression::emit_truth-returns g t c =
    record {
      slot = if_ok c.end_truth.result (λ given is. is ∙ c.in_ok-to.ensures.slot) c.end_truth.ensures.slot;
      puts = then_ok c.end_truth.result c.end_truth.ensures.ends
          (λ e. truth_put (around c.args.scene.now) c.args.line _ _ _ _ _ _ _ _ _ _ c.in_ok-to.ensures.takes c.in_ok-to.ensures.slot
          c.in_ok-jump.ensures.guard e.aims refl refl e.codes);
    }

pub expression::emit_known-returns : goal.expression::emit_known-returns
expression::emit_known-returns g t c =
    record {
      slot = if_ok c.slot_of.result (λ given is. is ∙ c.in_ok-to.ensures.slot) c.slot_of.ensures.slot;
      puts = on_ok c.slot_of.result (λ ok. known_put (around c.args.scene.now) c.args.line _ _ _ _ _ _ _ c.in_ok-to.ensures.takes
          c.in_ok-to.ensures.slot c.in_ok-of.ensures.puts c.in_ok-of.ensures.place (said c.add.result ok c.add.ensures))
          c.slot_of.ensures.done;
    }

pub test::emit_bind_left-returns : goal.test::emit_bind_left-returns
test::emit_bind_left-returns g t c = record {
  puts =
      put_behind c.emit_value-number.result c.bind_value.result c.emit_value-number.ensures.puts c.emit_value-number.ensures.value
      c.bind_value.ensures.done c.bind_value.ensures.codes
      (λ at puts is h. bind_left_put (around c.args.scene.now) c.args.line _ _ _ _ _ _ _ _ _ _ c.in_ok-place.ensures.puts
      c.in_ok-place.ensures.place puts is refl h);
}

pub test::emit_bind_right-returns : goal.test::emit_bind_right-returns
test::emit_bind_right-returns g t c = record {
  puts =
      put_behind c.emit_held-place.result c.bind_place.result c.emit_held-place.ensures.puts c.emit_held-place.ensures.place
      c.bind_place.ensures.done c.bind_place.ensures.codes
      (λ at puts is h. bind_right_put (around c.args.scene.now) c.args.line _ _ _ _ _ _ _ _ _ _ c.in_ok-value.ensures.puts
      c.in_ok-value.ensures.slot puts is refl h);
}

pub test::emit_unify-returns : goal.test::emit_unify-returns
test::emit_unify-returns g t c = record {
  puts =
      on_ok c.put_unify.result (unify_put (around c.args.scene.now) c.args.line _ _ _ _ _ _ _ _ _ _ _ _ c.in_ok-left.ensures.puts
      c.in_ok-left.ensures.place c.in_ok-right.ensures.puts c.in_ok-right.ensures.place refl refl) c.put_unify.ensures;
}

pub test::emit_same_cells-returns : goal.test::emit_same_cells-returns
test::emit_same_cells-returns g t c = record {
  puts =
      on_ok c.add.result (same_put (around c.args.scene.now) c.args.line _ _ _ _ _ _ _ _ c.in_ok-left.ensures.puts
      c.in_ok-left.ensures.place
      c.in_ok-right.ensures.puts c.in_ok-right.ensures.place) c.add.ensures;
}

pub test::emit_operand-returns : goal.test::emit_operand-returns
test::emit_operand-returns g t c = record {
  puts =
      from_both c.end_first.result c.end_first.ensures.done c.end_first.ensures.ends
      (λ ok e. first_put (around c.args.scene.now) c.args.line _ _ _ _ _ _ _ _ _ c.in_ok-mark.ensures.holes c.in_ok-mark.ensures.mark
      (said c.emit_test-done.result ok c.emit_test-done.ensures.puts) e.codes e.aims refl);
}

pub test::emit_not-returns : goal.test::emit_not-returns
test::emit_not-returns g t c = record {
  puts =
      from_both c.end_not.result c.end_not.ensures.done c.end_not.ensures.ends
      (λ ok e. not_put (around c.args.scene.now) c.args.line _ _ _ _ _ _ _ _ _ c.in_ok-mark.ensures.holes c.in_ok-mark.ensures.mark
      (said c.emit_test-done.result ok c.emit_test-done.ensures.puts) e.codes e.aims (add-zero _));
}

pub expression::emit_expr-returns-in-Const : goal.expression::emit_expr-returns-in-Const
expression::emit_expr-returns-in-Const g t c =
    let same : to_z w64 (of_z w64 c.in-Const.value) ≡ c.in-Const.value = to_z-of_z w64 c.in-Const.value (search rules) in
    let view : expr_of c.args.expr.now ≡ tree.Const (to_z w64 (of_z w64 c.in-Const.value)) = ap expr_of c.in-Const.is ∙ Views.const_view _
    ∙ ap tree.Const (sym same) in
    record {
      slot = c.emit_const.ensures.slot;
      puts =
          expr_as c.emit_const.result (around c.args.scene.now) c.args.line _ _ _ _ view c.emit_const.ensures.puts;
    }

pub expression::emit_expr-returns-in-Load : goal.expression::emit_expr-returns-in-Load
expression::emit_expr-returns-in-Load g t c =
    let view : expr_of c.args.expr.now ≡ tree.Load (desig_of c.in-Load.desig) = ap expr_of c.in-Load.is ∙ Views.load_view _ in
    record {
      slot = c.emit_load.ensures.slot;
      puts =
          expr_as c.emit_load.result (around c.args.scene.now) c.args.line _ _ _ _ view c.emit_load.ensures.puts;
    }

pub expression::emit_expr-returns-in-Chain : goal.expression::emit_expr-returns-in-Chain
expression::emit_expr-returns-in-Chain g t c =
    let view : expr_of c.args.expr.now ≡ tree.Chain c.in-Chain.negated (expr_of c.deref.result.now)
    (links_list c.deref-in-Chain.result.now) = ap expr_of c.in-Chain.is ∙ Views.chain_view _ _ _
    ∙ ap (λ x. tree.Chain c.in-Chain.negated (expr_of x) (links_list c.in-Chain.links.items)) (sym c.deref.ensures)
    ∙ ap (λ x. tree.Chain c.in-Chain.negated (expr_of c.deref.result.now) (links_list x)) (sym c.deref-in-Chain.ensures.value) in
    record {
      slot = c.emit_chain.ensures.slot;
      puts =
          expr_as c.emit_chain.result (around c.args.scene.now) c.args.line _ _ _ _ view c.emit_chain.ensures.puts;
    }

pub expression::emit_expr-returns-in-Compare : goal.expression::emit_expr-returns-in-Compare
expression::emit_expr-returns-in-Compare g t c =
    let view : expr_of c.args.expr.now ≡ tree.Compare c.in-Compare.cmp (expr_of c.deref-in-Compare.result.now)
    (expr_of c.deref-in-Compare-2.result.now) = ap expr_of c.in-Compare.is ∙ Views.compare_view _ _ _
    ∙ ap (λ x. tree.Compare c.in-Compare.cmp (expr_of x) (expr_of c.in-Compare.right.value)) (sym c.deref-in-Compare.ensures)
    ∙ ap (λ x. tree.Compare c.in-Compare.cmp (expr_of c.deref-in-Compare.result.now) (expr_of x)) (sym c.deref-in-Compare-2.ensures) in
    record {
      slot = c.emit_compare.ensures.slot;
      puts =
          expr_as c.emit_compare.result (around c.args.scene.now) c.args.line _ _ _ _ view c.emit_compare.ensures.puts;
    }

pub expression::emit_expr-returns-in-Truth : goal.expression::emit_expr-returns-in-Truth
expression::emit_expr-returns-in-Truth g t c =
    let view : expr_of c.args.expr.now ≡ tree.Truth (test_of c.deref-in-Truth.result.now) = ap expr_of c.in-Truth.is ∙ Views.truth_view _
    ∙ ap (λ x. tree.Truth (test_of x)) (sym c.deref-in-Truth.ensures) in
    record {
      slot = c.emit_truth.ensures.slot;
      puts =
          expr_as c.emit_truth.result (around c.args.scene.now) c.args.line _ _ _ _ view c.emit_truth.ensures.puts;
    }

pub expression::emit_expr-returns-in-Known : goal.expression::emit_expr-returns-in-Known
expression::emit_expr-returns-in-Known g t c =
    let view : expr_of c.args.expr.now ≡ tree.Known (desig_of c.in-Known.desig) = ap expr_of c.in-Known.is ∙ Views.known_view _ in
    record {
      slot = c.emit_known.ensures.slot;
      puts =
          expr_as c.emit_known.result (around c.args.scene.now) c.args.line _ _ _ _ view c.emit_known.ensures.puts;
    }

pub expression::emit_expr-returns-in-Chr : goal.expression::emit_expr-returns-in-Chr
expression::emit_expr-returns-in-Chr g t c =
    let view : expr_of c.args.expr.now ≡ tree.Chr (expr_of c.deref-in-Chr.result.now) = ap expr_of c.in-Chr.is ∙ Views.chr_view _
    ∙ ap (λ x. tree.Chr (expr_of x)) (sym c.deref-in-Chr.ensures) in
    record {
      slot = through c.emit_expr-number.result c.chr_of.result c.emit_expr-number.ensures.slot c.chr_of.ensures.done
          c.chr_of.ensures.slot (λ at given h is. is ∙ h);
      puts =
          expr_as c.chr_of.result (around c.args.scene.now) c.args.line _ _ _ _ view
          (put_behind c.emit_expr-number.result c.chr_of.result c.emit_expr-number.ensures.puts c.emit_expr-number.ensures.slot
          c.chr_of.ensures.done c.chr_of.ensures.codes
          (λ at puts is h. chr_put (around c.args.scene.now) c.args.line _ _ _ _ _ _ puts is refl h));
    }

pub expression::emit_expr-returns-in-Call : goal.expression::emit_expr-returns-in-Call
expression::emit_expr-returns-in-Call g t c =
    let view : expr_of c.args.expr.now ≡ tree.CallExpr c.in-Call.call.routine (args_list c.in-Call.call.args.items) c.in-Call.call.up =
    ap expr_of c.in-Call.is ∙ Views.callexpr_view _ in
    record {
      slot = c.emit_call_value.ensures.slot;
      puts =
          expr_as c.emit_call_value.result (around c.args.scene.now) c.args.line _ _ _ _ view c.emit_call_value.ensures.puts;
    }

pub test::emit_test-returns-in-Value : goal.test::emit_test-returns-in-Value
test::emit_test-returns-in-Value g t c =
    let view : test_of c.args.test.now ≡ tree.Value (expr_of c.in-Value.value) = ap test_of c.in-Value.is ∙ Views.value_view _ in
    record { puts = test_as c.emit_checked.result (around c.args.scene.now) c.args.line _ _ _ _ view c.emit_checked.ensures.puts }

pub test::emit_checked-returns-in_ok-first-in-Some : goal.test::emit_checked-returns-in_ok-first-in-Some
test::emit_checked-returns-in_ok-first-in-Some g t c =
    record {
      puts = test_as c.unequal_of.result (around c.args.scene.now) c.args.line _ _ _ _ (ap tree.Value c.in-Some.ensures)
          (put_behind c.emit_value-other.result c.unequal_of.result c.emit_value-other.ensures.puts c.emit_value-other.ensures.value
          c.unequal_of.ensures.done c.unequal_of.ensures.codes
          (λ at puts is h. unequal_put (around c.args.scene.now) c.args.line _ _ _ _ _ _ _ _ _ c.in_ok-first-in-Some.ensures.puts
          c.in_ok-first-in-Some.ensures.to c.in_ok-first-in-Some.ensures.from puts is h));
    }

pub test::emit_checked-returns-in-None : goal.test::emit_checked-returns-in-None
test::emit_checked-returns-in-None g t c =
    record {
      puts = put_behind c.emit_value-number.result c.check_of.result c.emit_value-number.ensures.puts
          c.emit_value-number.ensures.value c.check_of.ensures.done c.check_of.ensures.codes
          (λ at puts is h. value_test_put (around c.args.scene.now) c.args.line _ _ _ _ _ c.in-None.ensures puts is h);
    }

pub test::emit_test-returns-in-Bind : goal.test::emit_test-returns-in-Bind
test::emit_test-returns-in-Bind g t c =
    let view : test_of c.args.test.now ≡ tree.Bind (desig_of c.in-Bind.desig) (expr_of c.in-Bind.value) c.in-Bind.range c.in-Bind.left =
    ap test_of c.in-Bind.is ∙ Views.bind_view _ _ _ _ in
    record { puts = test_as c.emit_bind.result (around c.args.scene.now) c.args.line _ _ _ _ view c.emit_bind.ensures.puts }

pub test::emit_test-returns-in-Unify : goal.test::emit_test-returns-in-Unify
test::emit_test-returns-in-Unify g t c =
    let view : test_of c.args.test.now ≡ tree.Unify (desig_of c.in-Unify.left) c.in-Unify.range (desig_of c.in-Unify.right)
    c.in-Unify.other = ap test_of c.in-Unify.is ∙ Views.unify_view _ _ _ _ in
    record { puts = test_as c.emit_unify.result (around c.args.scene.now) c.args.line _ _ _ _ view c.emit_unify.ensures.puts }

pub test::emit_test-returns-in-SameCells : goal.test::emit_test-returns-in-SameCells
test::emit_test-returns-in-SameCells g t c =
    let view : test_of c.args.test.now ≡ tree.SameCells (desig_of c.in-SameCells.left) (desig_of c.in-SameCells.right) =
    ap test_of c.in-SameCells.is ∙ Views.samecells_view _ _ in
    record { puts = test_as c.emit_same_cells.result (around c.args.scene.now) c.args.line _ _ _ _ view c.emit_same_cells.ensures.puts }

pub test::emit_test-returns-in-And : goal.test::emit_test-returns-in-And
test::emit_test-returns-in-And g t c =
    let view : test_of c.args.test.now ≡ tree.And (tests_list c.deref-in-And.result.now) = ap test_of c.in-And.is ∙ Views.and_view _
    ∙ ap (λ x. tree.And (tests_list x)) (sym c.deref-in-And.ensures.value) in
    record { puts = test_as c.emit_and.result (around c.args.scene.now) c.args.line _ _ _ _ view c.emit_and.ensures.puts }

pub test::emit_test-returns-in-Or : goal.test::emit_test-returns-in-Or
test::emit_test-returns-in-Or g t c =
    let view : test_of c.args.test.now ≡ tree.Or (tests_list c.deref-in-Or.result.now) = ap test_of c.in-Or.is ∙ Views.or_view _
    ∙ ap (λ x. tree.Or (tests_list x)) (sym c.deref-in-Or.ensures.value) in
    record { puts = test_as c.emit_or.result (around c.args.scene.now) c.args.line _ _ _ _ view c.emit_or.ensures.puts }

pub test::emit_test-returns-in-Not : goal.test::emit_test-returns-in-Not
test::emit_test-returns-in-Not g t c =
    let view : test_of c.args.test.now ≡ tree.Not (test_of c.deref-in-Not.result.now) = ap test_of c.in-Not.is ∙ Views.not_view _
    ∙ ap (λ x. tree.Not (test_of x)) (sym c.deref-in-Not.ensures) in
    record { puts = test_as c.emit_not.result (around c.args.scene.now) c.args.line _ _ _ _ view c.emit_not.ensures.puts }

pub test::emit_test-returns-in-Call : goal.test::emit_test-returns-in-Call
test::emit_test-returns-in-Call g t c =
    let view : test_of c.args.test.now ≡ tree.CallTest c.in-Call.call.routine (args_list c.deref-in-Call.result.now) c.in-Call.call.up =
    ap test_of c.in-Call.is ∙ Views.calltest_view _
    ∙ ap (λ x. tree.CallTest c.in-Call.call.routine (args_list x) c.in-Call.call.up) (sym c.deref-in-Call.ensures.value) in
    record {
      puts = test_as c.call_of.result (around c.args.scene.now) c.args.line _ _ _ _ view
          (put_behind c.emit_call-first.result c.call_of.result c.emit_call-first.ensures.puts c.emit_call-first.ensures.first
          c.call_of.ensures.done c.call_of.ensures.codes
          (λ at puts is h. call_test_put (around c.args.scene.now) c.args.line _ _ _ _ _ _ _ puts is h));
    }

pub test::emit_test-returns-in-Seq : goal.test::emit_test-returns-in-Seq
test::emit_test-returns-in-Seq g t c =
    let view : test_of c.args.test.now ≡ tree.Seq (stmts_list c.deref.result.now) = ap test_of c.in-Seq.is ∙ Views.seq_view _
    ∙ ap (λ x. tree.Seq (stmts_list x)) (sym c.deref.ensures.value) in
    record {
      puts = test_as c.emit_inside.result (around c.args.scene.now) c.args.line _ _ _ _ view
          (on_ok c.emit_inside.result (seq_put (around c.args.scene.now) c.args.line _ _ _) c.emit_inside.ensures.puts);
    }

pub designator::emit_sel-returns-in-Index : goal.designator::emit_sel-returns-in-Index
designator::emit_sel-returns-in-Index g t c =
    let view : sel_of c.args.sel.now ≡ tree.Index (expr_of c.in-Index.index) c.in-Index.range c.in-Index.cells = ap sel_of c.in-Index.is
    ∙ Views.index_view _ _ _ in
    record {
      part = value_behind c.emit_value-number.result c.element_of.result c.emit_value-number.ensures.puts c.element_of.ensures.done
          c.element_of.ensures.slot (λ to puts is. index_part (around c.args.scene.now) c.args.line _ _ _ _ _ _ puts is
          ∙ (ap (λ x. T.part_slot (around c.args.scene.now).program (around c.args.scene.now).tables (around c.args.scene.now).routine
          (front c.args.work.now).next (sel_with x (front c.args.work.now).lines)) (sym view)));
      puts = sel_as c.element_of.result (around c.args.scene.now) c.args.line c.args.from _ _ _ _ view
          (slot_behind c.emit_value-number.result c.element_of.result c.emit_value-number.ensures.puts c.emit_value-number.ensures.value
          c.element_of.ensures.done c.element_of.ensures.slot c.element_of.ensures.puts
          (λ at to puts value is h. index_put (around c.args.scene.now) c.args.line _ _ _ _ _ _ _ _ _ _ _ puts value h.takes is refl
          h.codes));
    }

pub designator::emit_sel-returns-in-Field : goal.designator::emit_sel-returns-in-Field
designator::emit_sel-returns-in-Field g t c =
    let view : sel_of c.args.sel.now ≡ tree.Field c.in-Field.offset c.in-Field.cells = ap sel_of c.in-Field.is ∙ Views.field_view _ _ in
    record {
      part = if_ok c.emit_field.result
          (λ part h. h ∙ ap (λ x. T.part_slot (around c.args.scene.now).program (around c.args.scene.now).tables
          (around c.args.scene.now).routine (front c.args.work.now).next (sel_with x (front c.args.work.now).lines)) (sym view))
          c.emit_field.ensures.part;
      puts = sel_as c.emit_field.result (around c.args.scene.now) c.args.line c.args.from _ _ _ _ view
          c.emit_field.ensures.puts;
    }

pub designator::emit_held-returns-in-Some : goal.designator::emit_held-returns-in-Some
designator::emit_held-returns-in-Some g t c =
    let own = sym c.in-Some.is ∙ c.in_ok-from.ensures in
    record {
      place = if_ok c.hold_at.result
          (λ place h. h ∙ own_held_at (around c.args.scene.now) c.args.line _ _ _ _ own) c.hold_at.ensures.place;
      puts = on_ok c.hold_at.result (own_held (around c.args.scene.now) c.args.line _ _ _ _ _ _ own) c.hold_at.ensures.takes;
    }

pub designator::emit_held-returns-in-None : goal.designator::emit_held-returns-in-None
designator::emit_held-returns-in-None g t c =
    let none = sym c.in-None.is ∙ c.in_ok-from.ensures in
    record {
      place = if_ok c.emit_desig.result
          (λ place h. made_held_at (around c.args.scene.now) c.args.line _ _ _ _ none h) c.emit_desig.ensures.place;
      puts = on_ok c.emit_desig.result (made_held (around c.args.scene.now) c.args.line _ _ _ none) c.emit_desig.ensures.puts;
    }

pub designator::emit_place-returns-in-Some : goal.designator::emit_place-returns-in-Some
designator::emit_place-returns-in-Some g t c = record {
  puts = on_ok c.hand_own.result
      (own_place_put (around c.args.scene.now) c.args.line _ _ _ _ _ _ _ (sym c.in-Some.is ∙ c.in_ok-from.ensures)) c.hand_own.ensures;
}

pub designator::emit_place-returns-in-None : goal.designator::emit_place-returns-in-None
designator::emit_place-returns-in-None g t c = record {
  puts = from_both c.place_of.result c.place_of.ensures.done c.place_of.ensures.places
      (λ ok. made_place_put (around c.args.scene.now) c.args.line _ _ _ _ _ (sym c.in-None.is ∙ c.in_ok-from.ensures)
      (said c.emit_desig-made.result ok c.emit_desig-made.ensures.puts));
}

pub designator::emit_place-emit_desig-made-requires : goal.designator::emit_place-emit_desig-made-requires
designator::emit_place-emit_desig-made-requires g t c κs within = (omega arith, (search rules, c.requires.emits))

pub designator::emit_sels-loop-sel-init : goal.designator::emit_sels-loop-sel-init
designator::emit_sels-loop-sel-init g t c = record { part = refl; completes = λ e h. h }

pub designator::emit_sels-loop-sel-preserved : goal.designator::emit_sels-loop-sel-preserved
designator::emit_sels-loop-sel-preserved g t c =
    let l = c.loop-sel in
    let one : sels_list (drop l.sel-index c.args.sels.now) ≡ tree.more_sels (sel_of c.sel-item.result)
    (sels_list (drop (l.sel-index + 1) c.args.sels.now)) =
    ap sels_list (drop_one c.args.sels.now l.sel-index c.sel-item.result c.loop-sel-test.true c.sel-item.is) in
    record {
      part = l.invariant.part ∙ ap (λ x. T.part_at (around c.args.scene.now).program (around c.args.scene.now).tables
          (around c.args.scene.now).routine l.place (front l.work).next (sels_with x (front l.work).lines)) one
          ∙ part_step (around c.args.scene.now) c.args.line _ _ _ _ _ _ c.in_ok-place.ensures.puts c.in_ok-place.ensures.part;
      completes = λ e h. l.invariant.completes e
          (sels_is (around c.args.scene.now) c.args.line l.place _ _ _ _ (sym one)
          (sels_put (around c.args.scene.now) c.args.line _ _ _ _ _ _ _ c.in_ok-place.ensures.puts c.in_ok-place.ensures.part h));
    }

pub designator::emit_sels-returns : goal.designator::emit_sels-returns
designator::emit_sels-returns g t c =
    let l = c.loop-sel in
    let none : drop l.sel-index c.args.sels.now ≡ [] = drop_of_length-le c.args.sels.now (omega (arith, c.loop-sel-test.false)) in
    record {
      place = sym (l.invariant.part ∙ ap (λ x. T.part_at (around c.args.scene.now).program (around c.args.scene.now).tables
          (around c.args.scene.now).routine l.place (front l.work).next (sels_with (sels_list x) (front l.work).lines)) none
          ∙ no_parts (around c.args.scene.now) c.args.line _ _ _);
      puts = l.invariant.completes _ (sels_is (around c.args.scene.now) c.args.line l.place _ _ _ _ (ap sels_list (sym none))
          (no_sels_put (around c.args.scene.now) c.args.line _ _));
    }

pub expression::emit_links-loop-link-init : goal.expression::emit_links-loop-link-init
expression::emit_links-loop-link-init g t c = λ e h. h

pub expression::emit_links-loop-link-preserved : goal.expression::emit_links-loop-link-preserved
expression::emit_links-loop-link-preserved g t c =
    let l = c.loop-link in
    let one : links_list (drop l.link-index c.args.links.now) ≡ tree.more_links c.link-item.result.op (expr_of c.link-item.result.operand)
    (links_list (drop (l.link-index + 1) c.args.links.now)) =
    ap links_list (drop_one c.args.links.now l.link-index c.link-item.result c.loop-link-test.true c.link-item.is) in
    λ e h. l.invariant e (links_is (around c.args.scene.now) c.args.line _ c.args.first.to _ _ _ _ (sym one)
    (links_put (around c.args.scene.now) c.args.line _ _ _ _ _ _ _ _ _ _ c.in_ok-operand.ensures.puts c.in_ok-operand.ensures.value
    (codes_is _ _ c.args.line _ _ c.op_instr.ensures c.in_ok-add.ensures) h))

pub expression::emit_links-returns : goal.expression::emit_links-returns
expression::emit_links-returns g t c = record {
  puts =
      c.loop-link.invariant _ (links_is (around c.args.scene.now) c.args.line _ c.args.first.to _ _ _ _
      (ap links_list (sym (drop_of_length-le c.args.links.now (omega (arith, c.loop-link-test.false)))))
      (no_links_put (around c.args.scene.now) c.args.line _ _ _));
}

pub test::emit_and-loop-test-init : goal.test::emit_and-loop-test-init
test::emit_and-loop-test-init g t c = λ e h. h

pub test::emit_and-loop-test-preserved : goal.test::emit_and-loop-test-preserved
test::emit_and-loop-test-preserved g t c =
    let l = c.loop-test in
    let one : tests_list (drop l.test-index c.args.tests.now) ≡ tree.more_tests (test_of c.test-item.result)
    (tests_list (drop (l.test-index + 1) c.args.tests.now)) =
    ap tests_list (drop_one c.args.tests.now l.test-index c.test-item.result c.loop-test-test.true c.test-item.is) in
    λ e h. l.invariant e (tests_is (around c.args.scene.now) c.args.line _ _ _ _ (sym one)
    (more_and_put (around c.args.scene.now) c.args.line _ _ _ _ _ c.in_ok-emit_test.ensures.puts h))

pub test::emit_and-returns : goal.test::emit_and-returns
test::emit_and-returns g t c = record {
  puts =
      and_put (around c.args.scene.now) c.args.line _ _ _
      (c.loop-test.invariant _ (tests_is (around c.args.scene.now) c.args.line _ _ _ _
      (ap tests_list (sym (drop_of_length-le c.args.tests.now (omega (arith, c.loop-test-test.false)))))
      (no_and_put (around c.args.scene.now) c.args.line _)));
}

pub test::emit_operands-loop-i-init : goal.test::emit_operands-loop-i-init
test::emit_operands-loop-i-init g t c = λ e h. h

pub test::emit_operands-loop-i-preserved : goal.test::emit_operands-loop-i-preserved
test::emit_operands-loop-i-preserved g t c =
    let l = c.loop-i in
    let x = c.index-tests-i.result in
    let one : tests_list (drop l.i c.args.tests.now) ≡ tree.more_tests (test_of x) (tests_list (drop (l.i + 1) c.args.tests.now)) =
    ap tests_list (drop_one c.args.tests.now l.i x (omega (arith, c.loop-i-test.true)) c.index-tests-i.is) in
    λ e h. l.invariant e (operands_is (around c.args.scene.now) c.args.line c.args.exit _ _ _ _ (sym one)
    (more_operands (around c.args.scene.now) c.args.line _ _ _ _ _ _ _
    (omega (arith, c.loop-i-test.true, length-drop (c.loop-i.i + 1) c.args.tests.now))
    (said c.emit_operand-done.result c.in_ok-then_add.ensures.done c.emit_operand-done.ensures.puts) c.in_ok-then_add.ensures.codes h))

pub expression::emit_expr-emit_load-requires : goal.expression::emit_expr-emit_load-requires
expression::emit_expr-emit_load-requires g t c κs within =
    let view : expr_of c.args.expr.now ≡ tree.Load (desig_of c.in-Load.desig) = ap expr_of c.in-Load.is ∙ Views.load_view _ in
    (omega (arith, ap expr_nodes view), (search rules, c.requires.emits))

pub expression::emit_expr-emit_chain-requires : goal.expression::emit_expr-emit_chain-requires
expression::emit_expr-emit_chain-requires g t c κs within =
    let view : expr_of c.args.expr.now ≡ tree.Chain c.in-Chain.negated (expr_of c.deref.result.now)
    (links_list c.deref-in-Chain.result.now) = ap expr_of c.in-Chain.is ∙ Views.chain_view _ _ _
    ∙ ap (λ x. tree.Chain c.in-Chain.negated (expr_of x) (links_list c.in-Chain.links.items)) (sym c.deref.ensures)
    ∙ ap (λ x. tree.Chain c.in-Chain.negated (expr_of c.deref.result.now) (links_list x)) (sym c.deref-in-Chain.ensures.value) in
    (omega (arith, ap expr_nodes view), (search rules, c.requires.emits))

pub expression::emit_expr-emit_compare-requires : goal.expression::emit_expr-emit_compare-requires
expression::emit_expr-emit_compare-requires g t c κs within =
    let view : expr_of c.args.expr.now ≡ tree.Compare c.in-Compare.cmp (expr_of c.deref-in-Compare.result.now)
    (expr_of c.deref-in-Compare-2.result.now) = ap expr_of c.in-Compare.is ∙ Views.compare_view _ _ _
    ∙ ap (λ x. tree.Compare c.in-Compare.cmp (expr_of x) (expr_of c.in-Compare.right.value)) (sym c.deref-in-Compare.ensures)
    ∙ ap (λ x. tree.Compare c.in-Compare.cmp (expr_of c.deref-in-Compare.result.now) (expr_of x)) (sym c.deref-in-Compare-2.ensures) in
    (omega (arith, ap expr_nodes view), (search rules, c.requires.emits))

pub expression::emit_expr-emit_truth-requires : goal.expression::emit_expr-emit_truth-requires
expression::emit_expr-emit_truth-requires g t c κs within =
    let view : expr_of c.args.expr.now ≡ tree.Truth (test_of c.deref-in-Truth.result.now) = ap expr_of c.in-Truth.is ∙ Views.truth_view _
    ∙ ap (λ x. tree.Truth (test_of x)) (sym c.deref-in-Truth.ensures) in
    (omega (arith, ap expr_nodes view), (search rules, c.requires.emits))

pub expression::emit_expr-emit_known-requires : goal.expression::emit_expr-emit_known-requires
expression::emit_expr-emit_known-requires g t c κs within =
    let view : expr_of c.args.expr.now ≡ tree.Known (desig_of c.in-Known.desig) = ap expr_of c.in-Known.is ∙ Views.known_view _ in
    (omega (arith, ap expr_nodes view), (search rules, c.requires.emits))

pub expression::emit_expr-emit_call_value-requires : goal.expression::emit_expr-emit_call_value-requires
expression::emit_expr-emit_call_value-requires g t c κs within =
    let view : expr_of c.args.expr.now ≡ tree.CallExpr c.in-Call.call.routine (args_list c.in-Call.call.args.items) c.in-Call.call.up =
    ap expr_of c.in-Call.is ∙ Views.callexpr_view _ in
    (omega (arith, ap expr_nodes view), (search rules, c.requires.emits))

pub test::emit_test-emit_bind-requires : goal.test::emit_test-emit_bind-requires
test::emit_test-emit_bind-requires g t c κs within =
    let view : test_of c.args.test.now ≡ tree.Bind (desig_of c.in-Bind.desig) (expr_of c.in-Bind.value) c.in-Bind.range c.in-Bind.left =
    ap test_of c.in-Bind.is ∙ Views.bind_view _ _ _ _ in
    (omega (arith, ap test_nodes view), (search rules, c.requires.emits))

pub test::emit_test-emit_unify-requires : goal.test::emit_test-emit_unify-requires
test::emit_test-emit_unify-requires g t c κs within =
    let view : test_of c.args.test.now ≡ tree.Unify (desig_of c.in-Unify.left) c.in-Unify.range (desig_of c.in-Unify.right)
    c.in-Unify.other = ap test_of c.in-Unify.is ∙ Views.unify_view _ _ _ _ in
    (omega (arith, ap test_nodes view), (search rules, c.requires.emits))

pub test::emit_test-emit_same_cells-requires : goal.test::emit_test-emit_same_cells-requires
test::emit_test-emit_same_cells-requires g t c κs within =
    let view : test_of c.args.test.now ≡ tree.SameCells (desig_of c.in-SameCells.left) (desig_of c.in-SameCells.right) =
    ap test_of c.in-SameCells.is ∙ Views.samecells_view _ _ in
    (omega (arith, ap test_nodes view), (search rules, c.requires.emits))

pub test::emit_test-emit_and-requires : goal.test::emit_test-emit_and-requires
test::emit_test-emit_and-requires g t c κs within =
    let view : test_of c.args.test.now ≡ tree.And (tests_list c.deref-in-And.result.now) = ap test_of c.in-And.is ∙ Views.and_view _
    ∙ ap (λ x. tree.And (tests_list x)) (sym c.deref-in-And.ensures.value) in
    (omega (arith, ap test_nodes view), (search rules, c.requires.emits))

pub test::emit_test-emit_or-requires : goal.test::emit_test-emit_or-requires
test::emit_test-emit_or-requires g t c κs within =
    let view : test_of c.args.test.now ≡ tree.Or (tests_list c.deref-in-Or.result.now) = ap test_of c.in-Or.is ∙ Views.or_view _
    ∙ ap (λ x. tree.Or (tests_list x)) (sym c.deref-in-Or.ensures.value) in
    (omega (arith, ap test_nodes view), (search rules, c.requires.emits))

pub test::emit_test-emit_not-requires : goal.test::emit_test-emit_not-requires
test::emit_test-emit_not-requires g t c κs within =
    let view : test_of c.args.test.now ≡ tree.Not (test_of c.deref-in-Not.result.now) = ap test_of c.in-Not.is ∙ Views.not_view _
    ∙ ap (λ x. tree.Not (test_of x)) (sym c.deref-in-Not.ensures) in
    (omega (arith, ap test_nodes view), (search rules, c.requires.emits))

pub call::emit_args-emit_arg-requires : goal.call::emit_args-emit_arg-requires
call::emit_args-emit_arg-requires g t c κs within =
    (omega (arith, arg_at _ _ _ c.loop-arg-test.true c.arg-item.is), (search rules, c.requires.emits))

pub call::emit_call_value-emit_call-requires : goal.call::emit_call_value-emit_call-requires
call::emit_call_value-emit_call-requires g t c κs within =
    (omega (arith, ap (λ x. args_nodes (args_list x)) c.deref.ensures.value), (search rules, c.requires.emits))

pub designator::emit_desig-emit_sels-requires : goal.designator::emit_desig-emit_sels-requires
designator::emit_desig-emit_sels-requires g t c κs within =
    (omega (arith, ap (λ x. sels_nodes (sels_list x)) c.deref.ensures.value), (search rules, c.requires.emits))

pub designator::emit_sels-emit_sel-requires : goal.designator::emit_sels-emit_sel-requires
designator::emit_sels-emit_sel-requires g t c κs within =
    (omega (arith, sel_at _ _ _ c.loop-sel-test.true c.sel-item.is), (search rules, c.requires.emits))

pub expression::emit_links-emit_value-requires : goal.expression::emit_links-emit_value-requires
expression::emit_links-emit_value-requires g t c κs within =
    (omega (arith, link_at _ _ _ c.loop-link-test.true c.link-item.is), (search rules, c.requires.emits))

pub test::emit_and-emit_test-requires : goal.test::emit_and-emit_test-requires
test::emit_and-emit_test-requires g t c κs within =
    (omega (arith, test_at _ _ _ c.loop-test-test.true c.test-item.is), (search rules, c.requires.emits))

pub condition::emit_barrier-returns : goal.condition::emit_barrier-returns
condition::emit_barrier-returns g t c =
    record {
      guard = λ hard. both_ok c.slot_of.result
          (λ given is ok. guard_is (around c.args.scene.now) c.args.line _ _ _ _ _ is
          (from_said c.then_add.result ok c.then_add.ensures.done c.then_add.ensures.codes
          (λ done h. barrier_guard (around c.args.scene.now) c.args.line _ _ _ _ _ _ _ hard c.in_ok-mark.ensures.holes
          c.in_ok-mark.ensures.mark
          (said c.emit_test-done.result done c.emit_test-done.ensures.puts) h))) c.slot_of.ensures.slot c.slot_of.ensures.done;
    }

pub expression::emit_value-returns-in-Some : goal.expression::emit_value-returns-in-Some
expression::emit_value-returns-in-Some g t c =
    record {
      value = own_at (around c.args.scene.now) c.args.line _ _ _ _ (sym c.in-Some.is ∙ c.in_ok-slot.ensures);
      puts =
          own_value (around c.args.scene.now) c.args.line _ _ _ (sym c.in-Some.is ∙ c.in_ok-slot.ensures);
    }

pub expression::emit_value-returns-in-None : goal.expression::emit_value-returns-in-None
expression::emit_value-returns-in-None g t c =
    record {
      value = if_ok c.emit_expr.result
          (λ slot h. made_at (around c.args.scene.now) c.args.line _ _ _ _ (sym c.in-None.is ∙ c.in_ok-slot.ensures) h)
          c.emit_expr.ensures.slot;
      puts = on_ok c.emit_expr.result (made_value (around c.args.scene.now) c.args.line _ _ _ (sym c.in-None.is ∙ c.in_ok-slot.ensures))
          c.emit_expr.ensures.puts;
    }

pub test::emit_bind-returns-then-left : goal.test::emit_bind-returns-then-left
test::emit_bind-returns-then-left g t c =
    record {
      puts = test_as c.emit_bind_left.result (around c.args.scene.now) c.args.line _ _ _ _
          (ap (tree.Bind (desig_of c.args.desig.now) (expr_of c.args.value.now) c.args.range) c.if-left.true) c.emit_bind_left.ensures.puts;
    }

pub test::emit_bind-returns-else-left : goal.test::emit_bind-returns-else-left
test::emit_bind-returns-else-left g t c =
    record {
      puts = test_as c.emit_bind_right.result (around c.args.scene.now) c.args.line _ _ _ _
          (ap (tree.Bind (desig_of c.args.desig.now) (expr_of c.args.value.now) c.args.range) c.if-left.false)
          c.emit_bind_right.ensures.puts;
    }

pub test::emit_operands-returns : goal.test::emit_operands-returns
test::emit_operands-returns g t c =
    let l = c.loop-i in
    let xs = c.args.tests.now in
    let at : l.i ≡ length xs - 1 = omega (arith, c.loop-i-test.false, c.loop-i.auto.i-end) in
    record {
      puts = λ two. on_ok c.emit_test.result
          (λ h. l.invariant _ (operands_is (around c.args.scene.now) c.args.line c.args.exit _ _ _ _
          (sym (ap (λ n. tests_list (drop n xs)) at ∙ ap tests_list
          (drop_last xs (length xs - 1) c.index-tests-last.result (omega (arith, two)) c.index-tests-last.is)))
          (last_put (around c.args.scene.now) c.args.line _ _ _ _ h))) c.emit_test.ensures.puts;
    }

pub test::emit_or-returns-then-is_empty : goal.test::emit_or-returns-then-is_empty
test::emit_or-returns-then-is_empty g t c =
    record {
      puts = on_ok c.add.result (or_none (around c.args.scene.now) c.args.line _ _ c.args.tests.now
          (no_elements _ c.if-is_empty.ensures)) c.add.ensures;
    }

pub test::emit_or-returns-then-tests-eq1 : goal.test::emit_or-returns-then-tests-eq1
test::emit_or-returns-then-tests-eq1 g t c =
    record {
      puts = on_ok c.emit_test.result
          (or_one (around c.args.scene.now) c.args.line _ _ c.args.tests.now c.index-tests-0.result c.if-tests-eq1.true c.index-tests-0.is)
          c.emit_test.ensures.puts;
    }

pub test::emit_or-returns : goal.test::emit_or-returns
test::emit_or-returns g t c =
    let two : 2 ≤ length c.args.tests.now = omega (arith, some_elements _ c.if-is_empty.ensures, c.if-tests-eq1.false) in
    record {
      puts = from_both c.then_aim.result c.then_aim.ensures.done c.then_aim.ensures.aims
          (λ ok h. or_of (around c.args.scene.now) c.args.line _ _ _ _ _ _ c.args.tests.now c.index-tests-0.result two c.index-tests-0.is
          (said c.emit_operand-done.result c.in_ok-exit.ensures.done c.emit_operand-done.ensures.puts)
          c.in_ok-exit.ensures.address c.in_ok-exit.ensures.codes
          (said c.emit_operands-done.result ok (c.emit_operands-done.ensures.puts two)) h);
    }

pub test::emit_or-emit_test-requires : goal.test::emit_or-emit_test-requires
test::emit_or-emit_test-requires g t c κs within = (
  omega (arith, test_at c.args.tests.now 0 c.index-tests-0.result (some_elements _ c.if-is_empty.ensures) c.index-tests-0.is),
  (search rules, c.requires.emits),
)

pub test::emit_or-emit_operand-done-requires : goal.test::emit_or-emit_operand-done-requires
test::emit_or-emit_operand-done-requires g t c κs within = (
  omega (arith, test_at c.args.tests.now 0 c.index-tests-0.result (some_elements _ c.if-is_empty.ensures) c.index-tests-0.is),
  (search rules, c.requires.emits),
)

pub test::emit_operands-emit_operand-done-requires : goal.test::emit_operands-emit_operand-done-requires
test::emit_operands-emit_operand-done-requires g t c κs within = (
  omega (arith, test_at c.args.tests.now c.loop-i.i c.index-tests-i.result (omega (arith, c.loop-i-test.true)) c.index-tests-i.is),
  (search rules, c.requires.emits),
)

pub test::emit_operands-emit_test-requires : goal.test::emit_operands-emit_test-requires
test::emit_operands-emit_test-requires g t c κs within = (
  omega (arith, test_at c.args.tests.now (length c.args.tests.now - 1) c.index-tests-last.result (omega arith) c.index-tests-last.is),
  (search rules, c.requires.emits),
)

pub call::emit_arg-emit_value-from-requires : goal.call::emit_arg-emit_value-from-requires
call::emit_arg-emit_value-from-requires g t c κs within =
    let view : arg_of c.args.arg.now ≡ tree.ByValue (expr_of c.in-Value.value) c.in-Value.range = ap arg_of c.in-Value.is
    ∙ Views.byvalue_view _ _ in
    (omega (arith, ap arg_nodes view), (search rules, c.requires.emits))

pub call::emit_arg-emit_value-from-requires-in-MixValue : goal.call::emit_arg-emit_value-from-requires-in-MixValue
call::emit_arg-emit_value-from-requires-in-MixValue g t c κs within =
    let view : arg_of c.args.arg.now ≡ tree.MixValue (expr_of c.in-MixValue.value) c.in-MixValue.range = ap arg_of c.in-MixValue.is
    ∙ Views.mixvalue_view _ _ in
    (omega (arith, ap arg_nodes view), (search rules, c.requires.emits))

pub call::emit_arg-emit_place-requires : goal.call::emit_arg-emit_place-requires
call::emit_arg-emit_place-requires g t c κs within =
    let view : arg_of c.args.arg.now ≡ tree.ByCells (desig_of c.in-Cells.desig) = ap arg_of c.in-Cells.is ∙ Views.bycells_view _ in
    (omega (arith, ap arg_nodes view), (search rules, c.requires.emits))

pub call::emit_arg-emit_place-requires-in-Place : goal.call::emit_arg-emit_place-requires-in-Place
call::emit_arg-emit_place-requires-in-Place g t c κs within =
    let view : arg_of c.args.arg.now ≡ tree.ByPlace (desig_of c.in-Place.desig) = ap arg_of c.in-Place.is ∙ Views.byplace_view _ in
    (omega (arith, ap arg_nodes view), (search rules, c.requires.emits))

pub call::emit_arg-emit_place-requires-in-MixPlace : goal.call::emit_arg-emit_place-requires-in-MixPlace
call::emit_arg-emit_place-requires-in-MixPlace g t c κs within =
    let view : arg_of c.args.arg.now ≡ tree.MixPlace (desig_of c.in-MixPlace.desig) = ap arg_of c.in-MixPlace.is ∙ Views.mixplace_view _ in
    (omega (arith, ap arg_nodes view), (search rules, c.requires.emits))

pub test::emit_test-emit_checked-requires : goal.test::emit_test-emit_checked-requires
test::emit_test-emit_checked-requires g t c κs within =
    let view : test_of c.args.test.now ≡ tree.Value (expr_of c.in-Value.value) = ap test_of c.in-Value.is ∙ Views.value_view _ in
    (omega (arith, ap test_nodes view), (search rules, c.requires.emits))

pub test::emit_checked-emit_first-requires : goal.test::emit_checked-emit_first-requires
test::emit_checked-emit_first-requires g t c κs within = (omega (arith, ap expr_nodes c.in-Some.ensures), (search rules, c.requires.emits))

pub test::emit_checked-emit_value-other-requires : goal.test::emit_checked-emit_value-other-requires
test::emit_checked-emit_value-other-requires g t c κs within =
    (omega (arith, ap expr_nodes c.in-Some.ensures), (search rules, c.requires.emits))

pub test::emit_checked-emit_value-number-requires : goal.test::emit_checked-emit_value-number-requires
test::emit_checked-emit_value-number-requires g t c κs within = (omega arith, (search rules, c.requires.emits))

pub test::emit_test-emit_call-first-requires : goal.test::emit_test-emit_call-first-requires
test::emit_test-emit_call-first-requires g t c κs within =
    let view : test_of c.args.test.now ≡ tree.CallTest c.in-Call.call.routine (args_list c.deref-in-Call.result.now) c.in-Call.call.up =
    ap test_of c.in-Call.is ∙ Views.calltest_view _
    ∙ ap (λ x. tree.CallTest c.in-Call.call.routine (args_list x) c.in-Call.call.up) (sym c.deref-in-Call.ensures.value) in
    (omega (arith, ap test_nodes view), (search rules, c.requires.emits))

pub expression::emit_expr-emit_expr-number-requires : goal.expression::emit_expr-emit_expr-number-requires
expression::emit_expr-emit_expr-number-requires g t c κs within =
    let view : expr_of c.args.expr.now ≡ tree.Chr (expr_of c.deref-in-Chr.result.now) = ap expr_of c.in-Chr.is ∙ Views.chr_view _
    ∙ ap (λ x. tree.Chr (expr_of x)) (sym c.deref-in-Chr.ensures) in
    (omega (arith, ap expr_nodes view), (search rules, c.requires.emits))

pub designator::emit_sel-emit_value-number-requires : goal.designator::emit_sel-emit_value-number-requires
designator::emit_sel-emit_value-number-requires g t c κs within =
    let view : sel_of c.args.sel.now ≡ tree.Index (expr_of c.in-Index.index) c.in-Index.range c.in-Index.cells = ap sel_of c.in-Index.is
    ∙ Views.index_view _ _ _ in
    (omega (arith, ap sel_nodes view), (search rules, c.requires.emits))

pub condition::emit_guard-returns-then-not-is_plain : goal.condition::emit_guard-returns-then-not-is_plain
condition::emit_guard-returns-then-not-is_plain g t c = record { guard = c.emit_barrier.ensures.guard (sym c.if-not-is_plain.ensures) }

pub condition::emit_guard-returns-in-Value : goal.condition::emit_guard-returns-in-Value
condition::emit_guard-returns-in-Value g t c =
    let view : test_of c.args.test.now ≡ tree.Value (expr_of c.in-Value.value) = ap test_of c.in-Value.is ∙ Views.value_view _ in
    record {
      guard = subst (λ x. IfOk c.jump_of.result
          (λ jump. PutsGuard (around c.args.scene.now) c.args.line (front c.args.work.now) (front c.jump_of.new.work)
          (λ to xs. aim_jump xs jump to) x)) (sym view)
          (jump_behind c.emit_value-number.result c.jump_of.result c.emit_value-number.ensures.puts c.emit_value-number.ensures.value
          c.jump_of.ensures.done c.jump_of.ensures.address c.jump_of.ensures.codes
          (λ at jump puts is here h. simple_guard (around c.args.scene.now) c.args.line _ _ _ _ _ jump
          (sym (ap is_simple view) ∙ sym c.if-not-is_plain.ensures) puts is here h));
    }

pub condition::emit_guard-emit_value-number-requires : goal.condition::emit_guard-emit_value-number-requires
condition::emit_guard-emit_value-number-requires g t c κs within = (
  omega (arith, ap (λ x. test_nodes (test_of x)) c.in-Value.is, ap test_nodes (Views.value_view c.in-Value.value)),
  (search rules, c.requires.emits),
)

pub call::emit_call-emit_args-requires : goal.call::emit_call-emit_args-requires
call::emit_call-emit_args-requires g t c κs within = (omega arith, (search rules, c.requires.emits))

pub condition::emit_guard-emit_barrier-requires : goal.condition::emit_guard-emit_barrier-requires
condition::emit_guard-emit_barrier-requires g t c κs within = (omega arith, (search rules, c.requires.emits))

pub condition::emit_barrier-emit_test-done-requires : goal.condition::emit_barrier-emit_test-done-requires
condition::emit_barrier-emit_test-done-requires g t c κs within = (omega arith, (search rules, c.requires.emits))

pub designator::emit_held-emit_desig-requires : goal.designator::emit_held-emit_desig-requires
designator::emit_held-emit_desig-requires g t c κs within = (omega arith, (search rules, c.requires.emits))

pub expression::emit_load-emit_held-place-requires : goal.expression::emit_load-emit_held-place-requires
expression::emit_load-emit_held-place-requires g t c κs within = (omega arith, (search rules, c.requires.emits))

pub expression::emit_chain-emit_first-requires : goal.expression::emit_chain-emit_first-requires
expression::emit_chain-emit_first-requires g t c κs within = (omega arith, (search rules, c.requires.emits))

pub expression::emit_chain-emit_links-requires : goal.expression::emit_chain-emit_links-requires
expression::emit_chain-emit_links-requires g t c κs within = (omega arith, (search rules, c.requires.emits))

pub expression::emit_compare-emit_first-requires : goal.expression::emit_compare-emit_first-requires
expression::emit_compare-emit_first-requires g t c κs within = (omega arith, (search rules, c.requires.emits))

pub expression::emit_compare-emit_value-requires : goal.expression::emit_compare-emit_value-requires
expression::emit_compare-emit_value-requires g t c κs within = (omega arith, (search rules, c.requires.emits))

pub expression::emit_truth-emit_guard-requires : goal.expression::emit_truth-emit_guard-requires
expression::emit_truth-emit_guard-requires g t c κs within = (omega arith, (search rules, c.requires.emits))

pub expression::emit_known-emit_held-requires : goal.expression::emit_known-emit_held-requires
expression::emit_known-emit_held-requires g t c κs within = (omega arith, (search rules, c.requires.emits))

pub expression::emit_first-emit_expr-requires : goal.expression::emit_first-emit_expr-requires
expression::emit_first-emit_expr-requires g t c κs within = (omega arith, (search rules, c.requires.emits))

pub expression::emit_value-emit_expr-requires : goal.expression::emit_value-emit_expr-requires
expression::emit_value-emit_expr-requires g t c κs within = (omega arith, (search rules, c.requires.emits))

pub test::emit_bind-emit_bind_left-requires : goal.test::emit_bind-emit_bind_left-requires
test::emit_bind-emit_bind_left-requires g t c κs within = (omega arith, (search rules, c.requires.emits))

pub test::emit_bind-emit_bind_right-requires : goal.test::emit_bind-emit_bind_right-requires
test::emit_bind-emit_bind_right-requires g t c κs within = (omega arith, (search rules, c.requires.emits))

pub test::emit_bind_left-emit_held-requires : goal.test::emit_bind_left-emit_held-requires
test::emit_bind_left-emit_held-requires g t c κs within = (omega arith, (search rules, c.requires.emits))

pub test::emit_bind_left-emit_value-number-requires : goal.test::emit_bind_left-emit_value-number-requires
test::emit_bind_left-emit_value-number-requires g t c κs within = (omega arith, (search rules, c.requires.emits))

pub test::emit_bind_right-emit_expr-requires : goal.test::emit_bind_right-emit_expr-requires
test::emit_bind_right-emit_expr-requires g t c κs within = (omega arith, (search rules, c.requires.emits))

pub test::emit_bind_right-emit_held-place-requires : goal.test::emit_bind_right-emit_held-place-requires
test::emit_bind_right-emit_held-place-requires g t c κs within = (omega arith, (search rules, c.requires.emits))

pub test::emit_unify-emit_held-requires : goal.test::emit_unify-emit_held-requires
test::emit_unify-emit_held-requires g t c κs within = (omega arith, (search rules, c.requires.emits))

pub test::emit_unify-emit_held-requires-2 : goal.test::emit_unify-emit_held-requires-2
test::emit_unify-emit_held-requires-2 g t c κs within = (omega arith, (search rules, c.requires.emits))

pub test::emit_same_cells-emit_held-requires : goal.test::emit_same_cells-emit_held-requires
test::emit_same_cells-emit_held-requires g t c κs within = (omega arith, (search rules, c.requires.emits))

pub test::emit_same_cells-emit_held-requires-2 : goal.test::emit_same_cells-emit_held-requires-2
test::emit_same_cells-emit_held-requires-2 g t c κs within = (omega arith, (search rules, c.requires.emits))

pub test::emit_or-emit_operands-done-requires : goal.test::emit_or-emit_operands-done-requires
test::emit_or-emit_operands-done-requires g t c κs within = (omega arith, (search rules, c.requires.emits))

pub test::emit_operand-emit_test-done-requires : goal.test::emit_operand-emit_test-done-requires
test::emit_operand-emit_test-done-requires g t c κs within = (omega arith, (search rules, c.requires.emits))

pub test::emit_not-emit_test-done-requires : goal.test::emit_not-emit_test-done-requires
test::emit_not-emit_test-done-requires g t c κs within = (omega arith, (search rules, c.requires.emits))
