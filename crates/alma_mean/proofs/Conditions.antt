-- What the conditions let through and refuse.
use Rattle.std.proofs.Common.{◌≡◌, ℕ, zero, suc, ◌<◌, ◌≤◌, refl, ap, arith, inl, inr}
use Rattle.std.specs.Prelude.{pos, nat_abs, ◌⊎◌, None, Some, is_some, sum_by}
use Rattle.std.specs.Int.Signed.{le_z_yes}
use Rattle.std.specs.List.{AllByRecursion}
use Rattle.std.proofs.lemmas.Bool.{false≢true}
use Rattle.alma_ir.specs.Phrases.{stmts_phrases}
use Rattle.alma_ir.specs.Tree.{Routine, routine_at, a_loop, Assign, more_stmts, no_stmts}
use Rattle.alma_ir.specs.Checked.{IsChecked, ParamsFirst, DeclaredFits, HeadRangesOrdered, RoutineKeepsLimits, EachRoutine, EachPhrase}
use Rattle.alma_ir.specs.Checked.{IsHiddenSlot, RootLeaves, RootExists, PartsExist, CellsAgree, RangesOrdered, IsOrdered, HasStep}
use Rattle.alma_ir.specs.Checked.{LoopIsApart, loops_of, CalleeExists, ResultAgrees, CallLeads, IsNested, HasLines, CallFits, HasChoice}
use Rattle.alma_ir.specs.Checked.{ReturnAgrees, ReturnsStay, text_bytes}
use Rattle.alma_mean.specs.Worked.Build.{int, var, through_param, number, load}
use Rattle.alma_mean.specs.Worked.Conditions.{lives_again, ConditionsTell}

-- the range of INTEGER is in order
in_order : IsOrdered int
in_order = le_z_yes tt

-- a step of 1 is no step of 0
not_zero : pos 1 ≡ pos 0 → ⊥
not_zero e = let n : 1 ≡ 0 = ap nat_abs e in omega (arith, n)

-- a fact of two routines by one for each
both : (F : ℕ → Routine → Type 0) → F 0 (routine_at lives_again 0) → F 1 (routine_at lives_again 1) → EachRoutine lives_again F
both F a b zero h = a
both F a b (suc zero) h = b
both F a b (suc (suc r)) h = absurd (omega (arith, h))

-- a slot of the procedure that no variable has
hidden : (slot : ℕ) → 2 ≤ slot → slot < 4 → IsHiddenSlot lives_again 1 slot
unfolding stmts_phrases
hidden slot l h = record {
  exists = h;
  position = λ e. omega arith;
  params = (inr (omega arith), tt);
  globals = λ e. tt;
  roots = both (λ holder routine. AllByRecursion (RootLeaves lives_again holder 1 slot) (stmts_phrases routine.body)) (
    tt,
    (
      tt,
      (
        tt,
        (
          λ e. absurd (omega arith),
          (tt, (tt, (tt, (tt, (λ e. absurd (omega arith), (tt, (tt, (tt, (λ e. absurd (omega arith), tt))))))))),
        ),
      ),
    ),
  )
      (tt, (λ e. inr (omega arith), (tt, (tt, (tt, (tt, (tt, (λ e. inr (omega arith), tt))))))));
}

-- the loop's counter and limit
apart : LoopIsApart lives_again 1 (a_loop (var 1) int 2 3 (number 1) (number 3) (pos 1)
    (more_stmts 0 (Assign (through_param 0) (load 1) int) no_stmts))
unfolding stmts_phrases
apart = record {
  of_counter = hidden 2 (omega arith) (omega arith);
  of_limit = hidden 3 (omega arith) (omega arith);
  two = λ e. omega arith;
  nested = (tt, (tt, (tt, (tt, (tt, (tt, (tt, tt)))))));
}

-- each condition on the phrases of the program that is let through, phrase by phrase
roots : EachPhrase lives_again (RootExists lives_again)
unfolding stmts_phrases
roots = both (λ r routine. AllByRecursion (RootExists lives_again r routine) (stmts_phrases routine.body)) (
  tt,
  (
    tt,
    (
      tt,
      (
        (record { exist = omega arith; kinds = tt }, λ e. omega arith),
        (
          tt,
          (
            tt,
            (
              tt,
              (
                tt,
                (
                  (record { exist = omega arith; kinds = tt }, λ e. omega arith),
                  (tt, (tt, (tt, ((record { exist = omega arith; kinds = tt }, λ e. omega arith), tt)))),
                ),
              ),
            ),
          ),
        ),
      ),
    ),
  ),
) (
  tt,
  (
    (record { exist = omega arith; kinds = (λ h. inl (omega arith), tt) }, λ e. omega arith),
    (
      tt,
      (
        tt,
        (
          tt,
          (
            inl (tt, refl, refl),
            (
              tt,
              ((record { exist = omega arith; kinds = (λ h. inl (omega arith), tt) }, λ e. omega arith), tt),
            ),
          ),
        ),
      ),
    ),
  ),
)

parts : EachPhrase lives_again (λ r routine x. PartsExist x)
unfolding stmts_phrases
parts = both (λ r routine. AllByRecursion (λ x. PartsExist x) (stmts_phrases routine.body))
    (tt, (tt, (tt, (tt, (tt, (tt, (tt, (tt, (tt, (tt, (tt, (tt, (tt, tt))))))))))))) (tt, (tt, (tt, (tt, (tt, (tt, (tt, (tt, tt))))))))

cells : EachPhrase lives_again (λ r routine x. CellsAgree x)
unfolding stmts_phrases
cells = both (λ r routine. AllByRecursion (λ x. CellsAgree x) (stmts_phrases routine.body))
    (tt, (tt, (tt, (tt, (tt, (tt, (tt, (refl, (tt, (tt, (tt, (refl, (tt, tt)))))))))))))
    (refl, (tt, (tt, (tt, (refl, (tt, (refl, (tt, tt))))))))

ranges : EachPhrase lives_again (λ r routine x. RangesOrdered x)
unfolding stmts_phrases
ranges = both (λ r routine. AllByRecursion (λ x. RangesOrdered x) (stmts_phrases routine.body))
    (tt, (tt, (tt, (tt, (tt, (tt, (tt, (tt, (tt, (tt, (tt, (tt, (tt, tt)))))))))))))
    ((in_order, tt), (tt, (tt, (tt, ((in_order, tt), (tt, (tt, (tt, tt))))))))

steps : EachPhrase lives_again (λ r routine x. AllByRecursion HasStep (loops_of x))
unfolding stmts_phrases
steps = both (λ r routine. AllByRecursion (λ x. AllByRecursion HasStep (loops_of x)) (stmts_phrases routine.body))
    (tt, (tt, (tt, (tt, (tt, (tt, (tt, (tt, (tt, (tt, (tt, (tt, (tt, tt)))))))))))))
    ((not_zero, tt), (tt, (tt, (tt, (tt, (tt, (tt, (tt, tt))))))))

loops : EachPhrase lives_again (λ r routine x. AllByRecursion (LoopIsApart lives_again r) (loops_of x))
unfolding stmts_phrases
loops = both (λ r routine. AllByRecursion (λ x. AllByRecursion (LoopIsApart lives_again r) (loops_of x)) (stmts_phrases routine.body))
    (tt, (tt, (tt, (tt, (tt, (tt, (tt, (tt, (tt, (tt, (tt, (tt, (tt, tt)))))))))))))
    ((apart, tt), (tt, (tt, (tt, (tt, (tt, (tt, (tt, tt))))))))

links : EachPhrase lives_again (CallLeads lives_again)
unfolding stmts_phrases
links = both (λ r routine. AllByRecursion (CallLeads lives_again r routine) (stmts_phrases routine.body))
    (tt, ((refl, refl), (tt, (tt, (tt, (tt, (tt, (tt, (tt, (tt, (tt, (tt, (tt, tt)))))))))))))
    (tt, (tt, (tt, (tt, (tt, (tt, (tt, (tt, tt))))))))

-- the procedure stands in the body of the module
nested : EachRoutine lives_again (IsNested lives_again)
nested =
    both (IsNested lives_again) (record
    { body = λ e. (refl, refl); exists = omega arith; above = λ l. absurd (omega (arith, l)); few = omega arith })
    (record { body = λ e. absurd (omega (arith, e)); exists = omega arith; above = λ l. refl; few = omega arith })

-- each statement stands on line 1
lines : EachRoutine lives_again (λ r routine. HasLines routine)
unfolding stmts_phrases
lines =
    both (λ r routine. HasLines routine) (record
    { line = omega arith; count = refl; lines = (omega arith, (omega arith, (omega arith, tt))) })
    (record { line = omega arith; count = refl; lines = (omega arith, (omega arith, tt)) })

callees : EachPhrase lives_again (λ r routine x. CalleeExists lives_again x)
unfolding stmts_phrases
callees = both (λ r routine. AllByRecursion (λ x. CalleeExists lives_again x) (stmts_phrases routine.body))
    (tt, ((omega arith, omega arith), (tt, (tt, (tt, (tt, (tt, (tt, (tt, (tt, (tt, (tt, (tt, tt)))))))))))))
    (tt, (tt, (tt, (tt, (tt, (tt, (tt, (tt, tt))))))))

results : EachPhrase lives_again (λ r routine x. ResultAgrees lives_again x)
unfolding stmts_phrases
results = both (λ r routine. AllByRecursion (λ x. ResultAgrees lives_again x) (stmts_phrases routine.body))
    (tt, (refl, (tt, (tt, (tt, (tt, (tt, (tt, (tt, (tt, (tt, (tt, (tt, tt))))))))))))) (tt, (tt, (tt, (tt, (tt, (tt, (tt, (tt, tt))))))))

arguments : EachPhrase lives_again (λ r routine x. CallFits lives_again x)
unfolding stmts_phrases
arguments = both (λ r routine. AllByRecursion (λ x. CallFits lives_again x) (stmts_phrases routine.body))
    (tt, (((refl, refl), tt), (tt, (tt, (tt, (tt, (tt, (tt, (tt, (tt, (tt, (tt, (tt, tt)))))))))))))
    (tt, (tt, (tt, (tt, (tt, (tt, (tt, (tt, tt))))))))

choices : EachPhrase lives_again (λ r routine x. HasChoice x)
unfolding stmts_phrases
choices = both (λ r routine. AllByRecursion (λ x. HasChoice x) (stmts_phrases routine.body))
    (tt, (tt, (tt, (tt, (tt, (tt, (tt, (tt, (tt, (tt, (tt, (tt, (tt, tt))))))))))))) (tt, (tt, (tt, (tt, (tt, (tt, (tt, (tt, tt))))))))

returns : EachPhrase lives_again (λ r routine x. ReturnAgrees routine x)
unfolding stmts_phrases
returns = both (λ r routine. AllByRecursion (λ x. ReturnAgrees routine x) (stmts_phrases routine.body))
    (tt, (tt, (tt, (tt, (tt, (tt, (tt, (tt, (tt, (tt, (tt, (tt, (tt, tt))))))))))))) (tt, (tt, (tt, (tt, (tt, (tt, (tt, (tt, tt))))))))

returns_stay : EachPhrase lives_again (λ r routine x. ReturnsStay x)
unfolding stmts_phrases
returns_stay = both (λ r routine. AllByRecursion (λ x. ReturnsStay x) (stmts_phrases routine.body))
    (tt, (tt, (tt, (tt, (tt, (tt, (tt, (tt, (tt, (tt, (tt, (tt, (tt, tt))))))))))))) (tt, (tt, (tt, (tt, (tt, (tt, (tt, (tt, tt))))))))

-- no value is none
none_is_not_some : {A : Type 0} {x : A} → None ≡ Some x → ⊥
none_is_not_some e = false≢true (ap is_some e)

-- slot 2 is not outside of itself
outside : (2 < 2) ⊎ (3 ≤ 2) → ⊥
outside (inl l) = omega (arith, l)
outside (inr l) = omega (arith, l)

-- that program prints no texts
texts : sum_by (λ r. sum_by text_bytes (stmts_phrases r.body)) lives_again.routines ≤ 16777216
unfolding stmts_phrases
texts = let l : 0 ≤ 16777216 = omega arith in l

-- the program is let through
passes : IsChecked lives_again
passes = record {
  body = (omega arith, omega arith);
  body_takes_nothing = (refl, refl);
  params = both (λ r routine. ParamsFirst routine) (record { laid_out = tt; fit = omega arith; cells = tt })
      (record { laid_out = (refl, tt); fit = omega arith; cells = (tt, tt) });
  declared = both DeclaredFits (record { within = omega arith; body = λ e. omega arith })
      (record { within = omega arith; body = λ e. absurd (omega arith) });
  globals = tt;
  nested = nested;
  roots = roots;
  parts = parts;
  cells = cells;
  head_ranges = both (λ r routine. HeadRangesOrdered routine) (record { params = tt; result = λ range e. absurd (none_is_not_some e) })
      (record { params = (in_order, tt); result = λ range e. absurd (none_is_not_some e) });
  ranges = ranges;
  steps = steps;
  loops = loops;
  callees = callees;
  results = results;
  links = links;
  arguments = arguments;
  choices = choices;
  returns = returns;
  returns_stay = returns_stay;
  lines = lines;
  names = record { globals = tt; routines = ((refl, tt), ((refl, tt), tt)) };
  limits = record { globals = omega arith; params = omega arith; names = omega arith; texts = texts };
  routine_limits = both (λ r routine. RoutineKeepsLimits routine) (record { declared = omega arith; slots = omega arith })
      (record { declared = omega arith; slots = omega arith });
}

-- there is a routine 0
first_of_one : {r : ℕ} → 0 < suc r
first_of_one = omega arith

-- and each of the others breaks the condition that is named
pub conditions_tell : ConditionsTell
unfolding stmts_phrases
conditions_tell = record {
  let_through = passes;
  no_body = λ h. let l : 0 < 0 = h.body.0 in omega (arith, l);
  takes_the_position = λ h. let l : 0 < 0 = (h.roots 0 first_of_one).1.0.1 refl in omega (arith, l);
  slot_is_missing = λ h. let l : 3 ≤ 2 = (h.roots 0 first_of_one).1.0.0.exist in omega (arith, l);
  two_cells = λ h. let l : 2 ≡ 1 = (h.cells 0 first_of_one).1.0 in omega (arith, l);
  no_step = λ h. (h.steps 0 first_of_one).0.0 refl;
  one_slot_for_both = λ h. (h.loops 0 first_of_one).0.0.two refl;
  same_counter_inside = λ h. (h.loops 0 first_of_one).0.0.nested.1.1.1.0.0.0 refl;
  counter_is_a_variable = λ h. outside (((h.loops 0 first_of_one).0.0.of_counter.roots 0 first_of_one).1.0 refl);
  body_is_called = λ h. let l : 0 < 0 = (h.callees 0 first_of_one).1.0.0 in omega (arith, l);
  argument_is_missing = λ h. (h.arguments 0 first_of_one).1.0;
  result_is_missing = λ h. false≢true ((h.results 0 first_of_one).1.0);
  parameter_moved = λ h. let l : 1 ≡ 0 = (h.params 1 (omega arith)).laid_out.0 in omega (arith, l);
  no_branch = λ h. (h.choices 0 first_of_one).0;
  no_operand = λ h. (h.choices 0 first_of_one).1.0;
  return_in_commit = λ h. (h.returns_stay 0 first_of_one).0.0;
  line_is_missing = λ h. let l : 0 ≡ 1 = (h.lines 0 first_of_one).count in omega (arith, l);
  line_is_0 = λ h. let l : 0 < 0 = (h.lines 0 first_of_one).lines.0 in omega (arith, l);
  link_too_many = λ h. let l : 2 ≡ 1 = (h.links 0 first_of_one).1.0.0 in omega (arith, l);
  level_skipped = λ h. let l : 2 ≡ 1 = (h.nested 1 (omega arith)).above (omega arith) in omega (arith, l);
  nine_inside = λ h. let l : 9 ≤ 8 = (h.nested 9 (omega arith)).few in omega (arith, l);
  link_to_the_body = λ h. let l : 1 < 1 = (h.roots 1 (omega arith)).1.0.0.1 in omega (arith, l);
  global_in_the_body = λ h. let l : 0 < 0 = (h.roots 0 first_of_one).1.0.0 in omega (arith, l);
  bad_name = λ h. false≢true (h.names.globals.0.0);
}
