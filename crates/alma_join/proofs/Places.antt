-- Where the routines of modules stand in the joined program, and what their heads say there.
use Rattle.std.proofs.Common.{◌≡◌, inl, inr, ℕ, zero, suc, ◌+◌, ◌<◌, ◌≤◌, true, false, List, [], ◌∷◌, length, get_or, refl, sym, ap, ◌∙◌}
use Rattle.std.proofs.Common.{subst, arith, eq-zero-or-pos}
use Rattle.std.specs.Prelude.{nat_eq, ◌&&◌, not, sum_by, Option, Some, None, IsNone}
use Rattle.std.specs.List.{AllByRecursion, list_any}
use Rattle.std.proofs.lemmas.Bool.{true≢false, eq-eqb, and_right, not_from_true, cases_lt, cases_eq}
use Rattle.std.proofs.lemmas.List.Folds.{list_any_at}
use Rattle.std.proofs.lemmas.List.Sums.{sum_by-cons}
use Rattle.alma_base.specs.Choice.{if_true}
use Rattle.alma_base.specs.declared.number.Range.{Range}
use Rattle.alma_ir.specs.Tree.{Program, Routine, Global, routine_at, no_routine}
use Rattle.alma_ir.specs.Phrases.{Phrase, stmts_phrases}
use Rattle.alma_ir.specs.Checked.{IsChecked, EachRoutine, EachPhrase, AreNumbers, IsOutside, HoldsPlace, LeavesPosition, LeadOut, outer_at}
use Rattle.alma_ir.specs.Checked.{param_slots}
use Rattle.alma_ir.proofs.Each.{each_of_append, each_follows}
use Rattle.alma_copy.specs.Moved.{Moves, moved_stmts, moved_routine}
use Rattle.alma_copy.specs.Numbers.{slot_behind}
use Rattle.alma_join.specs.Joined.{Kept, is_empty, is_bare, kept_in, number_of_kept, matches, first_match, new_number}
use Rattle.alma_join.specs.Joined.{own_slots, body_moves, procedure_moves, global_behind, joined_globals, joined_stmts}
use Rattle.alma_join.specs.Joined.{joined_procedures, no_program, first_of, joined_body, joined_program, AreUnits}
use Rattle.alma_join.proofs.Moving.{moved_phrase, stmts_moved}
use Rattle.alma_rules.proofs.Phrases.{append_phrases}
use Rattle.alma_join.proofs.Forms.{each_of_map}
use Rattle.alma_join.proofs.KeptLists.{each_at, no_kept, unit_at, before_at, ascend_in, number_is, Found, found}
use Rattle.alma_join.proofs.KeptLists.{has_in, IsMoved, pairs_in, pairs_at, pairs_length}

-- ---- numbers and slots

-- the new number of a routine of the module at this place, from 0
abbrev pub number : List Program → (i r : ℕ) → ℕ
number units i r = new_number (kept_in 1 units) (suc i) (unit_at units i) r

-- the new slot of each slot of a routine
abbrev pub own_slot : List Program → (i r slot : ℕ) → ℕ
own_slot units i zero slot = slot_behind (before_at units i) slot
own_slot units i (suc r) slot = slot

abbrev pub moves : List Program → (i r : ℕ) → Moves
moves units i r = record { own = own_slot units i r; global = slot_behind (before_at units i); routine = number units i }

-- a routine of the module at this place that stays, or its body
pub record Stands (units : List Program) (i r : ℕ) : Type 0 where
  pub exists : i < length units
  pub high : r < length (unit_at units i).routines
  pub stays : 0 < r → is_bare (unit_at units i) r (routine_at (unit_at units i) r) ≡ false

-- a procedure as it stands in the joined program
abbrev pub joined_routine : List Program → (i r : ℕ) → Routine
joined_routine units i r = moved_routine (procedure_moves (kept_in 1 units) (suc i) (unit_at units i) (before_at units i))
    (routine_at (unit_at units i) r)

none_is : (o : Option Range) → IsNone o → o ≡ None
none_is None h = refl
none_is (Some x) h = absurd (true≢false h)

-- a routine with one inside is not bare
not_bare : (p : Program) (o : ℕ) (x : Routine) → list_any (λ y. nat_eq y.outer o) p.routines ≡ true → is_bare p o x ≡ false
not_bare p o x inside =
    and_right (nat_eq x.level 1) (is_empty x.body &&
    (nat_eq x.slots (sum_by param_slots x.params) && not (list_any (λ y. nat_eq y.outer o) p.routines)))
    (and_right (is_empty x.body) (nat_eq x.slots (sum_by param_slots x.params) && not (list_any (λ y. nat_eq y.outer o) p.routines))
    (and_right (nat_eq x.slots (sum_by param_slots x.params)) (not (list_any (λ y. nat_eq y.outer o) p.routines)) (not_from_true _ inside)))

number_stays : (all : List Kept) (unit : ℕ) (p : Program) (r : ℕ) → 0 < r → is_bare p r (routine_at p r) ≡ false
    → new_number all unit p r ≡ number_of_kept all 1 unit r
number_stays all unit p zero low stays = absurd (omega (arith, low))
number_stays all unit p (suc r) low stays = ap
    (λ b. if_true b (λ _. first_match (matches all 1 unit (routine_at p (suc r)).name)) (λ _. number_of_kept all 1 unit (suc r))) stays

-- the slots of one module, and those before it, are slots of all; and they are before those of a later one
pub before_fits : (ps : List Program) (i : ℕ) → i < length ps → before_at ps i + own_slots (unit_at ps i) ≤ sum_by own_slots ps
before_fits [] i lt = absurd (omega (arith, lt))
before_fits (p ∷ ps) zero lt = omega (arith, sum_by-cons own_slots p ps)
before_fits (p ∷ ps) (suc i) lt = omega (arith, sum_by-cons own_slots p ps, before_fits ps i (omega (arith, lt)))

before_less : (ps : List Program) (i j : ℕ) → i < j → j < length ps → before_at ps i + own_slots (unit_at ps i) ≤ before_at ps j
before_less [] i j less lt = absurd (omega (arith, lt))
before_less (p ∷ ps) i zero less lt = absurd (omega (arith, less))
before_less (p ∷ ps) zero (suc j) less lt = omega arith
before_less (p ∷ ps) (suc i) (suc j) less lt = omega (arith, before_less ps i j (omega (arith, less)) (omega (arith, lt)))

pub first_is : (ps : List Program) → first_of ps ≡ unit_at ps 0
first_is [] = refl
first_is (p ∷ ps) = refl

-- whose routine stands behind the body at this place
pub record Home (units : List Program) (n : ℕ) : Type 0 where
  pub unit : ℕ
  pub own : ℕ
  pub stands : Stands units unit own
  pub low : 0 < own
  pub place : number units unit own ≡ suc n
  pub is_routine : routine_at (joined_program units) (suc n) ≡ joined_routine units unit own
  pub of_unit : (get_or (kept_in 1 units) n no_kept).unit ≡ suc unit
  pub of_number : (get_or (kept_in 1 units) n no_kept).number ≡ own
  pub kept : (get_or (kept_in 1 units) n no_kept).routine ≡ routine_at (unit_at units unit) own

module _ (units : List Program) where
  abbrev all : List Kept
  all = kept_in 1 units

  pub home : (n : ℕ) → n < length (kept_in 1 units) → Home units n
  home n lt =
      let k : Kept = get_or all n no_kept in
      let m : IsMoved all units 1 0 k (get_or (joined_procedures all 1 0 units) n no_routine) = pairs_at (IsMoved all units 1 0) all
      (joined_procedures all 1 0 units) (pairs_in all units 1 0) n lt in
      let of_unit : k.unit ≡ suc m.index = omega (arith, m.of_unit) in
      let slots : m.slots ≡ before_at units m.index = omega (arith, m.slots_are) in
      let stays : is_bare (unit_at units m.index) k.number (routine_at (unit_at units m.index) k.number) ≡ false = subst
      (λ x. is_bare (unit_at units m.index) k.number x ≡ false) m.is_routine m.stays in
      record {
        unit = m.index;
        own = k.number;
        stands = record { exists = m.exists; high = m.high; stays = λ low. stays };
        low = m.low;
        place = number_stays all (suc m.index) (unit_at units m.index) k.number m.low stays
            ∙ ap (λ u. number_of_kept all 1 u k.number) (sym of_unit) ∙ number_is all 1 n (ascend_in 1 units) lt ∙ omega arith;
        is_routine = m.moved ∙ λ t. moved_routine (procedure_moves all (of_unit t) (unit_at units m.index) (slots t))
            (m.is_routine t);
        of_unit = of_unit;
        of_number = refl;
        kept = m.is_routine;
      }

  -- the home of a routine
  record Homed (i r : ℕ) : Type 0 where
    at : ℕ
    few : at < length (kept_in 1 units)
    house : Home units at
    same_unit : house.unit ≡ i
    same_number : house.own ≡ r

  homed : (i r : ℕ) → Stands units i r → 0 < r → Homed i r
  homed i r s low =
      let f : Found all (suc i) r = found all (suc i) r (has_in 1 units i r (suc i) (omega arith) s.exists low s.high (s.stays low)) in
      let h : Home units f.place = home f.place f.exists in record {
        at = f.place;
        few = f.exists;
        house = h;
        same_unit = omega (arith, h.of_unit, f.of_unit);
        same_number = sym h.of_number ∙ f.of_number;
      }

  placed : (i r : ℕ) (h : Homed i r) → number units i r ≡ suc h.at
  placed i r h = (λ t. number units (sym h.same_unit t) (sym h.same_number t)) ∙ h.house.place

  pub routine_is : (i r : ℕ) → Stands units i r → 0 < r → routine_at (joined_program units) (number units i r) ≡ joined_routine units i r
  routine_is i r s low = let h = homed i r s low in ap (routine_at (joined_program units)) (placed i r h) ∙ h.house.is_routine
      ∙ λ t. joined_routine units (h.same_unit t) (h.same_number t)

  pub count_is : length (joined_program units).routines ≡ suc (length (kept_in 1 units))
  count_is = ap suc (sym (pairs_length (IsMoved all units 1 0) all (joined_procedures all 1 0 units) (pairs_in all units 1 0)))

  -- a procedure stands behind the body, and in the program
  pub number_low : (i r : ℕ) → Stands units i r → 0 < r → 0 < number units i r
  number_low i r s low = omega (arith, placed i r (homed i r s low))

  pub number_high : (i r : ℕ) → Stands units i r → number units i r < length (joined_program units).routines
  number_high i zero s = omega (arith, count_is)
  number_high i (suc r) s = let h = homed i (suc r) s (omega arith) in omega (arith, placed i (suc r) h, h.few, count_is)

  -- two at one place are one
  pub same_place : (i r j s : ℕ) → Stands units i r → 0 < r → Stands units j s → 0 < s → number units i r ≡ number units j s
      → (i ≡ j) × (r ≡ s)
  same_place i r j s a low b low2 e =
      let h = homed i r a low in
      let k = homed j s b low2 in
      let at : h.at ≡ k.at = omega (arith, e, placed i r h, placed j s k) in
      let unit : (get_or all h.at no_kept).unit ≡ (get_or all k.at no_kept).unit = ap (λ n. (get_or all n no_kept).unit) at in
      let own : (get_or all h.at no_kept).number ≡ (get_or all k.at no_kept).number = ap (λ n. (get_or all n no_kept).number) at in (
        omega (arith, unit, h.house.of_unit, k.house.of_unit, h.same_unit, k.same_unit),
        sym h.same_number ∙ sym h.house.of_number ∙ own ∙ k.house.of_number ∙ k.same_number,
      )

  -- ---- slots of the bodies

  -- what leaves out a slot of its own module leaves it out in the joined body, and what stands in another module does
  pub body_apart : (i j from cells slot : ℕ) → i < length units → j < length units → from + cells ≤ (routine_at (unit_at units j) 0).slots
      → 0 < from
      → slot < (routine_at (unit_at units i) 0).slots → 0 < slot → (j ≡ i → IsOutside from cells slot)
      → IsOutside (slot_behind (before_at units j) from) cells (slot_behind (before_at units i) slot)
  body_apart i j zero cells slot lt lt2 fits some high low h = absurd (omega (arith, some))
  body_apart i j (suc from) cells zero lt lt2 fits some high low h = absurd (omega (arith, low))
  body_apart i j (suc from) cells (suc slot) lt lt2 fits some high low h = elim (cases_eq j i) [
    | inl e ↦ let same : before_at units j ≡ before_at units i = ap (before_at units) e in elim (h e) [
      | inl less ↦ inl (omega (arith, less, same))
      | inr more ↦ inr (omega (arith, more, same))
    ]
    | inr ne ↦ elim (cases_lt i j) [
      | inl less ↦ inl (omega (arith, before_less units i j less lt2, high))
      | inr ge ↦ let less : j < i = omega (arith, ge, ne) in inr (omega (arith, before_less units j i less lt, fits))
    ]
  ]

  -- ---- facts of the body, of the globals

  body_each : (Q : Phrase → Type 0) (kept : List Kept) (ps : List Program) (unit before : ℕ)
      → ((i u b : ℕ) → i < length ps → u ≡ unit + i → b ≡ before + before_at ps i
      → AllByRecursion Q (stmts_phrases (moved_stmts (body_moves kept u (unit_at ps i) b) (routine_at (unit_at ps i) 0).body)))
      → AllByRecursion Q (stmts_phrases (joined_stmts kept unit before ps))
  unfolding stmts_phrases
  body_each Q kept [] unit before h = tt
  body_each Q kept (p ∷ ps) unit before h =
      subst (AllByRecursion Q) (sym (append_phrases (moved_stmts (body_moves kept unit p before) (routine_at p 0).body)
      (joined_stmts kept (suc unit) (before + own_slots p) ps)))
      (each_of_append Q (stmts_phrases (moved_stmts (body_moves kept unit p before) (routine_at p 0).body))
      (stmts_phrases (joined_stmts kept (suc unit) (before + own_slots p) ps))
      (h 0 unit before (omega arith) (omega arith) (omega arith))
      (body_each Q kept ps (suc unit) (before + own_slots p)
      (λ i u b lt e1 e2. h (suc i) u b (omega (arith, lt)) (omega (arith, e1)) (omega (arith, e2)))))

  globals_each : (Q : Global → Type 0) (ps : List Program) (before : ℕ)
      → ((i b : ℕ) → i < length ps → b ≡ before + before_at ps i → AllByRecursion (λ g. Q (global_behind b g)) (unit_at ps i).globals)
      → AllByRecursion Q (joined_globals before ps)
  globals_each Q [] before h = tt
  globals_each Q (p ∷ ps) before h =
      each_of_append Q _ (joined_globals (before + own_slots p) ps)
      (each_of_map Q (global_behind before) p.globals (h 0 before (omega arith) (omega arith)))
      (globals_each Q ps (before + own_slots p) (λ i b lt e. h (suc i) b (omega (arith, lt)) (omega (arith, e))))

  pub each_global : (Q : Global → Type 0)
      → ((i : ℕ) → i < length units → AllByRecursion (λ g. Q (global_behind (before_at units i) g)) (unit_at units i).globals)
      → AllByRecursion Q (joined_program units).globals
  each_global Q h = globals_each Q units 0
      (λ i b lt e. let same : before_at units i ≡ b = omega (arith, e) in subst
      (λ n. AllByRecursion (λ g. Q (global_behind n g)) (unit_at units i).globals) same (h i lt))

  -- ---- heads

  -- what the head of a routine says in the joined program
  pub record SameHead (i r : ℕ) : Type 0 where
    pub params : (routine_at (joined_program units) (number units i r)).params ≡ (routine_at (unit_at units i) r).params
    pub result : (routine_at (joined_program units) (number units i r)).result ≡ (routine_at (unit_at units i) r).result
    pub level : (routine_at (joined_program units) (number units i r)).level ≡ (routine_at (unit_at units i) r).level
    pub outer : (routine_at (joined_program units) (number units i r)).outer ≡ number units i (routine_at (unit_at units i) r).outer

  module _ (are : AreUnits units) where
    pub checked : (i : ℕ) → i < length units → IsChecked (unit_at units i)
    checked i lt = each_at IsChecked units no_program are.checked i lt

    pub body_stands : (i : ℕ) → i < length units → Stands units i 0
    body_stands i lt = record { exists = lt; high = (checked i lt).body.0; stays = λ low. absurd (omega (arith, low)) }

    pub head : (i r : ℕ) → Stands units i r → SameHead i r
    head i zero s =
        let f = checked 0 are.some in
        let c = checked i s.exists in
        let outer_zero : (routine_at (unit_at units i) 0).outer ≡ 0 = ((c.nested 0 c.body.0).body refl).1 in
        record {
          params = ap (λ p. (routine_at p 0).params) (first_is units) ∙ f.body_takes_nothing.0 ∙ sym c.body_takes_nothing.0;
          result = ap (λ p. (routine_at p 0).result) (first_is units) ∙ none_is _ f.body_takes_nothing.1
              ∙ sym (none_is _ c.body_takes_nothing.1);
          level = ap (λ p. (routine_at p 0).level) (first_is units) ∙ ((f.nested 0 f.body.0).body refl).0
              ∙ sym ((c.nested 0 c.body.0).body refl).0;
          outer = ap (λ p. (routine_at p 0).outer) (first_is units) ∙ ((f.nested 0 f.body.0).body refl).1
              ∙ sym (ap (number units i) outer_zero);
        }
    head i (suc r) s =
        let is : routine_at (joined_program units) (number units i (suc r)) ≡ joined_routine units i (suc r) =
        routine_is i (suc r) s (omega arith) in
        record {
          params = ap (λ x. x.params) is;
          result = ap (λ x. x.result) is;
          level = ap (λ x. x.level) is;
          outer = ap (λ x. x.outer) is;
        }

    pub outer_stands : (i r : ℕ) → Stands units i r → Stands units i (routine_at (unit_at units i) r).outer
    outer_stands i r s =
        let p : Program = unit_at units i in
        let o : ℕ = (routine_at p r).outer in
        let inside : list_any (λ x. nat_eq x.outer o) p.routines ≡ true =
        list_any_at (λ x. nat_eq x.outer o) p.routines r no_routine s.high (eq-eqb o o refl) in
        record {
          exists = s.exists;
          high = ((checked i s.exists).nested r s.high).exists;
          stays = λ low. not_bare p o (routine_at p o) inside;
        }

    -- links lead to the same routines
    pub outer_moves : (links i r : ℕ) → Stands units i r
        → (outer_at (joined_program units) (number units i r) links ≡ number units i (outer_at (unit_at units i) r links))
        × Stands units i (outer_at (unit_at units i) r links)
    outer_moves zero i r s = (refl, s)
    outer_moves (suc links) i r s =
        let further = outer_moves links i (routine_at (unit_at units i) r).outer (outer_stands i r s) in
        (ap (λ n. outer_at (joined_program units) n links) (head i r s).outer ∙ further.0, further.1)

    level_out : (p : Program) → IsChecked p → (links r : ℕ) → r < length p.routines → links ≤ (routine_at p r).level
        → (routine_at p (outer_at p r links)).level + links ≡ (routine_at p r).level
    level_out p c zero r lt le = omega arith
    level_out p c (suc links) zero lt le = absurd (omega (arith, le, ((c.nested 0 lt).body refl).0))
    level_out p c (suc links) (suc r) lt le =
        let n = c.nested (suc r) lt in
        let above : (routine_at p (suc r)).level ≡ suc (routine_at p (routine_at p (suc r)).outer).level = n.above (omega arith) in
        omega (arith, above, level_out p c links (routine_at p (suc r)).outer n.exists (omega (arith, le, above)))

    -- and not to the body
    pub out_low : (i r links : ℕ) → Stands units i r → LeadOut (routine_at (unit_at units i) r) links
        → 0 < outer_at (unit_at units i) r links
    out_low i r links s lead =
        let p : Program = unit_at units i in
        let c : IsChecked p = checked i s.exists in elim (eq-zero-or-pos (outer_at p r links)) [
          | inl e ↦
              let at_body : (routine_at p (outer_at p r links)).level ≡ 0 = ap (λ n. (routine_at p n).level) e
              ∙ ((c.nested 0 c.body.0).body refl).0 in
              absurd (omega (arith, at_body, lead.1, level_out p c links r s.high (omega (arith, lead.1))))
          | inr some ↦ some
        ]

    -- ---- number slots

    pub numbers_own : (i r slot cells : ℕ) → Stands units i r → LeavesPosition r slot
        → AreNumbers (routine_at (unit_at units i) r) slot cells
        → AreNumbers (routine_at (joined_program units) (number units i r)) (own_slot units i r slot) cells
    numbers_own i zero zero cells s position h = absurd (omega (arith, position refl))
    numbers_own i zero (suc slot) cells s position h =
        let c = checked i s.exists in
        let none : (routine_at (joined_program units) 0).params ≡ [] = (head i 0 s).params ∙ c.body_takes_nothing.0 in
        record {
          exist = omega (arith, h.exist, before_fits units i s.exists, c.body.1);
          kinds = subst
              (λ ps. AllByRecursion (λ z. HoldsPlace z.kind → IsOutside (suc slot + before_at units i) cells z.slot) ps) (sym none) tt;
        }
    numbers_own i (suc r) slot cells s position h = subst (λ x. AreNumbers x slot cells) (sym (routine_is i (suc r) s (omega arith)))
        (record { exist = h.exist; kinds = h.kinds })

    pub numbers_out : (i r slot cells : ℕ) → Stands units i r → 0 < r → AreNumbers (routine_at (unit_at units i) r) slot cells
        → AreNumbers (routine_at (joined_program units) (number units i r)) slot cells
    numbers_out i zero slot cells s low h = absurd (omega (arith, low))
    numbers_out i (suc r) slot cells s low h = numbers_own i (suc r) slot cells s (λ e. absurd (omega (arith, e))) h

    -- ---- facts of all routines

    pub each_routine : (Fact : ℕ → Routine → Type 0) → Fact 0 (joined_body units)
        → ((i r : ℕ) → Stands units i r → 0 < r → Fact (number units i r) (joined_routine units i r))
        → EachRoutine (joined_program units) Fact
    each_routine Fact body procedure zero lt = body
    each_routine Fact body procedure (suc n) lt =
        let h : Home units n = home n (omega (arith, lt, count_is)) in subst (Fact (suc n)) (sym h.is_routine)
        (subst (λ k. Fact k (joined_routine units h.unit h.own)) h.place (procedure h.unit h.own h.stands h.low))

    phrases_at : (P : ℕ → ℕ → Routine → Phrase → Type 0) (Q : ℕ → Routine → Phrase → Type 0)
        → ((i r : ℕ) → Stands units i r → (x : Phrase) → P i r (routine_at (unit_at units i) r) x
        → Q (number units i r) (routine_at (joined_program units) (number units i r)) (moved_phrase (moves units i r) x))
        → ((i : ℕ) → i < length units → EachPhrase (unit_at units i) (P i)) → (i r : ℕ) → Stands units i r
        → AllByRecursion (Q (number units i r) (routine_at (joined_program units) (number units i r)))
        (stmts_phrases (moved_stmts (moves units i r) (routine_at (unit_at units i) r).body))
    phrases_at P Q move h i r s =
        let routine : Routine = routine_at (unit_at units i) r in
        subst (AllByRecursion (Q (number units i r) (routine_at (joined_program units) (number units i r))))
        (sym (stmts_moved (moves units i r) routine.body))
        (each_of_map (Q (number units i r) (routine_at (joined_program units) (number units i r))) (moved_phrase (moves units i r))
        (stmts_phrases routine.body)
        (each_follows (P i r routine) (λ x. Q (number units i r) (routine_at (joined_program units) (number units i r))
        (moved_phrase (moves units i r) x)) (move i r s) (stmts_phrases routine.body) (h i s.exists r s.high)))

    -- a fact of each phrase, from a fact of each phrase of each module
    pub each_phrase : (P : ℕ → ℕ → Routine → Phrase → Type 0) (Q : ℕ → Routine → Phrase → Type 0)
        → ((i r : ℕ) → Stands units i r → (x : Phrase) → P i r (routine_at (unit_at units i) r) x
        → Q (number units i r) (routine_at (joined_program units) (number units i r)) (moved_phrase (moves units i r) x))
        → ((i : ℕ) → i < length units → EachPhrase (unit_at units i) (P i)) → EachPhrase (joined_program units) Q
    each_phrase P Q move h zero lt =
        body_each (Q 0 (joined_body units)) all units 1 0 (λ i u b few e1 e2.
        let unit : suc i ≡ u = omega (arith, e1) in
        let before : before_at units i ≡ b = omega (arith, e2) in
        subst (λ n. AllByRecursion (Q 0 (joined_body units))
        (stmts_phrases (moved_stmts (body_moves all n (unit_at units i) b) (routine_at (unit_at units i) 0).body))) unit
        (subst (λ n. AllByRecursion (Q 0 (joined_body units))
        (stmts_phrases (moved_stmts (body_moves all (suc i) (unit_at units i) n) (routine_at (unit_at units i) 0).body))) before
        (phrases_at P Q move h i 0 (body_stands i few))))
    each_phrase P Q move h (suc n) lt =
        let o : Home units n = home n (omega (arith, lt, count_is)) in
        subst (λ k. AllByRecursion (Q k (routine_at (joined_program units) k)) (stmts_phrases (routine_at (joined_program units) k).body))
        o.place
        (subst (λ x. AllByRecursion (Q (number units o.unit o.own) (routine_at (joined_program units) (number units o.unit o.own)))
        (stmts_phrases x)) (sym (ap (λ x. x.body) (routine_is o.unit o.own o.stands o.low)))
        (by_own o.unit o.own o.stands o.low))
      where
        by_own : (i r : ℕ) → Stands units i r → 0 < r
            → AllByRecursion (Q (number units i r) (routine_at (joined_program units) (number units i r)))
            (stmts_phrases (joined_routine units i r).body)
        by_own i zero s low = absurd (omega (arith, low))
        by_own i (suc r) s low = phrases_at P Q move h i (suc r) s
