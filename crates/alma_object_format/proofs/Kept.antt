-- What the walk has seen where it met no fault.
use Rattle.std.proofs.Common.{◌≡◌, ℕ, zero, suc, ◌+◌, ◌-◌, ◌*◌, ◌<◌, ◌≤◌, Bool, true, false, ◌&&◌, not, Option, None, List, length}
use Rattle.std.proofs.Common.{refl, sym, ap, ◌∙◌, subst, arith, inl, inr}
use Rattle.std.specs.Prelude.{◌||◌, nat_eq, nat_lt, nat_le}
use Rattle.std.proofs.lemmas.Bool.{cases_lt}
use Rattle.std.proofs.lemmas.Bool.Decides.{nat_tests}
use Rattle.alma_object_format.specs.declared.fault.ObjectFault.{ObjectFault}
use Rattle.alma_object_format.specs.declared.fault.ObjectFault.TheVariants as fault
use Rattle.alma_object_format.specs.declared.header.Header.{Header}
use Rattle.alma_base.proofs.FirstFault.{unless_none, or_none}
use Rattle.alma_object_format.specs.Fault.{whole, first_fault}
use Rattle.alma_object_format.specs.Header.{routines_at, globals_at, texts_at}
use Rattle.alma_object_format.specs.Walk.{start_of, is_end, is_name_end, params_end, runs_end, code_end, name_end, name_count}
use Rattle.alma_object_format.specs.Walk.{routine_field, routine_fault, routines_fault, global_fault, globals_fault, text_end, text_fault}
use Rattle.alma_object_format.specs.Walk.{params_fault, runs_fault, ranges_fault, texts_fault, pools_fault, instrs_fault, lines_fault}
use Rattle.alma_object_format.specs.Walk.{sections_fault}

pub first_none : (of : ℕ → Option ObjectFault) (i n k : ℕ) → first_fault of i n ≡ None → i ≤ k → k < i + n → of k ≡ None
unfolding first_fault
first_none of i zero k e low high = absurd (omega arith)
first_none of i (suc n) k e low high =
    let parts = or_none (of i) (first_fault of (suc i) n) e in
    elim (cases_lt i k) [
      | inl lt ↦ first_none of (suc i) n k parts.1 (omega arith) (omega arith)
      | inr le ↦ let same : i ≡ k = omega arith in subst (λ j. of j ≡ None) same parts.0
    ]

pub whole_none : (bytes : List ℕ) (end : ℕ) (rest : Option ObjectFault) → whole bytes end rest ≡ None → (end ≤ length bytes) × (rest ≡ None)
whole_none bytes end rest e =
    let parts = unless_none (nat_le end (length bytes)) (fault.Cut (length bytes)) rest e in
    let test = parts.0 in
    (grind (arith, nat_tests), parts.1)

-- what a test of an end says
pub record EndFits (start end count : ℕ) (last : Bool) : Type 0 where
  pub low : start ≤ end
  pub high : end ≤ count
  pub last_is : last ≡ true → end ≡ count

pub and_parts : (a b : Bool) → (a && b) ≡ true → (a ≡ true) × (b ≡ true)
and_parts true b e = (refl, e)
and_parts false b e = absurd cc

pub le_fact : (m n : ℕ) → nat_le m n ≡ true → m ≤ n
le_fact m n e = grind (arith, nat_tests)

pub lt_fact : (m n : ℕ) → nat_lt m n ≡ true → m < n
lt_fact m n e = grind (arith, nat_tests)

last_fact : (end count : ℕ) (last : Bool) → (not last || nat_eq end count) ≡ true → last ≡ true → end ≡ count
last_fact end count true e f = grind (arith, nat_tests)
last_fact end count false e f = absurd cc

pub end_fits : (start end count : ℕ) (last : Bool) → is_end start end count last ≡ true → EndFits start end count last
end_fits start end count last e =
    let a = and_parts (nat_le start end) (nat_le end count && (not last || nat_eq end count)) e in
    let b = and_parts (nat_le end count) (not last || nat_eq end count) a.1 in
    record { low = le_fact _ _ a.0; high = le_fact _ _ b.0; last_is = last_fact _ _ _ b.1 }

pub name_end_fits : (start end count : ℕ) (last : Bool) → is_name_end start end count last ≡ true → (start < end)
    × EndFits start end count last
name_end_fits start end count last e =
    let a = and_parts (nat_lt start end) (nat_le end count && (not last || nat_eq end count)) e in
    let b = and_parts (nat_le end count) (not last || nat_eq end count) a.1 in
    let lt = lt_fact _ _ a.0 in
    (lt, record { low = omega arith; high = le_fact _ _ b.0; last_is = last_fact _ _ _ b.1 })

-- a routine without fault
pub record RoutineKept (bytes : List ℕ) (h : Header) (r : ℕ) : Type 0 where
  pub is_whole : routines_at h + 28 * r + 28 ≤ length bytes
  pub some : start_of (name_end bytes h) r < name_end bytes h r
  pub name : EndFits (start_of (name_end bytes h) r) (name_end bytes h r) h.name_bytes (nat_eq (r + 1) (name_count bytes h))
  pub params : EndFits (start_of (params_end bytes h) r) (params_end bytes h r) h.params (nat_eq (r + 1) h.routines)
  pub runs : EndFits (start_of (runs_end bytes h) r) (runs_end bytes h r) h.runs (nat_eq (r + 1) h.routines)
  pub code : EndFits (start_of (code_end bytes h) r) (code_end bytes h r) h.instrs (nat_eq (r + 1) h.routines)
  pub result : routine_field bytes h 24 r ≤ 1

pub routine_kept : (bytes : List ℕ) (h : Header) (r : ℕ) → routine_fault bytes h r ≡ None → RoutineKept bytes h r
unfolding routine_fault
routine_kept bytes h r e =
    let a = whole_none bytes (routines_at h + 28 * r + 28) _ e in
    let b = unless_none _ _ _ a.1 in
    let c = unless_none _ _ _ b.1 in
    let d = unless_none _ _ _ c.1 in
    let f = unless_none _ _ _ d.1 in
    let g = unless_none _ _ _ f.1 in
    let n = name_end_fits _ _ _ _ b.0 in
    record {
      is_whole = a.0;
      some = n.0;
      name = n.1;
      params = end_fits _ _ _ _ c.0;
      runs = end_fits _ _ _ _ d.0;
      code =
          end_fits _ _ _ _ f.0;
      result = le_fact _ _ g.0;
    }

-- a global without fault
pub record GlobalKept (bytes : List ℕ) (h : Header) (g : ℕ) : Type 0 where
  pub is_whole : globals_at h + 12 * g + 12 ≤ length bytes
  pub some : start_of (name_end bytes h) (h.routines + g) < name_end bytes h (h.routines + g)
  pub name : EndFits (start_of (name_end bytes h) (h.routines + g)) (name_end bytes h (h.routines + g)) h.name_bytes
      (nat_eq (h.routines + g + 1) (name_count bytes h))

pub global_kept : (bytes : List ℕ) (h : Header) (g : ℕ) → global_fault bytes h g ≡ None → GlobalKept bytes h g
unfolding global_fault
global_kept bytes h g e =
    let a = whole_none bytes (globals_at h + 12 * g + 12) _ e in
    let b = unless_none _ _ _ a.1 in
    let n = name_end_fits _ _ _ _ b.0 in
    record { is_whole = a.0; some = n.0; name = n.1 }

-- a name of routines and globals without fault
pub record NameKept (bytes : List ℕ) (h : Header) (n : ℕ) : Type 0 where
  pub some : start_of (name_end bytes h) n < name_end bytes h n
  pub name : EndFits (start_of (name_end bytes h) n) (name_end bytes h n) h.name_bytes (nat_eq (n + 1) (name_count bytes h))

pub name_kept : (bytes : List ℕ) (h : Header) → routines_fault bytes h ≡ None → globals_fault bytes h ≡ None →
    (n : ℕ) → n < name_count bytes h → NameKept bytes h n
name_kept bytes h er eg n lt = elim (cases_lt n h.routines) [
  | inl below ↦ let k = routine_kept bytes h n (first_none (routine_fault bytes h) 0 h.routines n er (omega arith) (omega arith)) in
      record { some = k.some; name = k.name }
  | inr above ↦
      let same : h.routines + (n - h.routines) ≡ n = omega arith in
      let k = global_kept bytes h (n - h.routines)
      (first_none (global_fault bytes h) 0 h.globals (n - h.routines) eg (omega arith) (omega arith)) in
      subst (NameKept bytes h) same (record { some = k.some; name = k.name })
]

pub name_ends_fit : (bytes : List ℕ) (h : Header) → routines_fault bytes h ≡ None → globals_fault bytes h ≡ None →
    (n : ℕ) → n < name_count bytes h → name_end bytes h n ≤ h.name_bytes
name_ends_fit bytes h er eg n lt = (name_kept bytes h er eg n lt).name.high

-- ---- the last ends

eq_test : (m n : ℕ) → m ≡ n → nat_eq m n ≡ true
eq_test m n e = grind (arith, nat_tests)

pub start_last : (end : ℕ → ℕ) (n count : ℕ) → 0 < n → (nat_eq (n - 1 + 1) n ≡ true → end (n - 1) ≡ count) → start_of end n ≡ count
start_last end zero count lt h = absurd (omega arith)
start_last end (suc n) count lt h =
    let same : suc n - 1 ≡ n = omega arith in
    ap end (sym same) ∙ h (eq_test _ _ (omega arith))

module _ (bytes : List ℕ) (h : Header) (some : 1 ≤ h.routines) (none : routines_fault bytes h ≡ None) where
  pub kept_at : (r : ℕ) → r < h.routines → RoutineKept bytes h r
  kept_at r lt = routine_kept bytes h r (first_none (routine_fault bytes h) 0 h.routines r none (omega arith) (omega arith))

  pub last_params : start_of (params_end bytes h) h.routines ≡ h.params
  last_params = start_last (params_end bytes h) h.routines h.params (omega arith) ((kept_at (h.routines - 1) (omega arith)).params.last_is)

  pub last_runs : start_of (runs_end bytes h) h.routines ≡ h.runs
  last_runs = start_last (runs_end bytes h) h.routines h.runs (omega arith) ((kept_at (h.routines - 1) (omega arith)).runs.last_is)

  pub last_code : start_of (code_end bytes h) h.routines ≡ h.instrs
  last_code = start_last (code_end bytes h) h.routines h.instrs (omega arith) ((kept_at (h.routines - 1) (omega arith)).code.last_is)

-- ---- all sections

-- sections without fault
pub record SectionsKept (bytes : List ℕ) (h : Header) : Type 0 where
  pub routines : routines_fault bytes h ≡ None
  pub globals : globals_fault bytes h ≡ None
  pub params : params_fault bytes h ≡ None
  pub runs : runs_fault bytes h ≡ None
  pub ranges : ranges_fault bytes h ≡ None
  pub texts : texts_fault bytes h ≡ None
  pub pools : pools_fault bytes h ≡ None
  pub instrs : instrs_fault bytes h ≡ None
  pub lines : lines_fault bytes h ≡ None

pub sections_kept : (bytes : List ℕ) (h : Header) → sections_fault bytes h ≡ None → SectionsKept bytes h
unfolding sections_fault
sections_kept bytes h e =
    let a = or_none _ _ e in
    let b = or_none _ _ a.1 in
    let c = or_none _ _ b.1 in
    let d = or_none _ _ c.1 in
    let f = or_none _ _ d.1 in
    let g = or_none _ _ f.1 in
    let i = or_none _ _ g.1 in
    let j = or_none _ _ i.1 in
    let k = or_none _ _ j.1 in
    record { routines = a.0; globals = b.0; params = c.0; runs = d.0; ranges = f.0; texts = g.0; pools = i.0; instrs = j.0; lines = k.0 }

-- a text without fault
pub text_kept : (bytes : List ℕ) (h : Header) (t : ℕ) → text_fault bytes h t ≡ None
    → EndFits (start_of (text_end bytes h) t) (text_end bytes h t) h.text_bytes (nat_eq (t + 1) h.texts)
unfolding text_fault
text_kept bytes h t e = end_fits _ _ _ _ (unless_none _ _ _ (whole_none bytes (texts_at h + 4 * t + 4) _ e).1).0

module _ (bytes : List ℕ) (h : Header) (none : sections_fault bytes h ≡ None) where
  pub routine_seen : (r : ℕ) → r < h.routines → RoutineKept bytes h r
  routine_seen r lt = routine_kept bytes h r
      (first_none (routine_fault bytes h) 0 h.routines r (sections_kept bytes h none).routines (omega arith) (omega arith))

  pub name_seen : (n : ℕ) → n < h.routines + h.globals → NameKept bytes h n
  name_seen n lt = name_kept bytes h (sections_kept bytes h none).routines (sections_kept bytes h none).globals n lt

  pub text_seen : (t : ℕ) → t < h.texts → EndFits (start_of (text_end bytes h) t) (text_end bytes h t) h.text_bytes (nat_eq (t + 1) h.texts)
  text_seen t lt = text_kept bytes h t (first_none (text_fault bytes h) 0 h.texts t (sections_kept bytes h none).texts (omega arith)
      (omega arith))
