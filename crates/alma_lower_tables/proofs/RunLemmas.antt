-- Runs of kinds of slots, of which the last is still latest.
use Rattle.std.proofs.Common.{◌≡◌, ℕ, ◌+◌, ◌-◌, ◌<◌, List, [], ◌∷◌, ◌++◌, length, refl, sym, ap, ◌∙◌, arith, append_assoc, length-append}
use Rattle.std.proofs.Common.{subst, take, get_or, add-one}
use Rattle.std.proofs.Math.Seq.{take-suc}
use Rattle.std.specs.Prelude.{replicate}
use Rattle.std.proofs.lemmas.List.{append-nil, replicate_more}
use Rattle.alma_code.specs.declared.cell.SlotKind.{SlotKind}
use Rattle.alma_code.specs.declared.head.Run.{Run}
use Rattle.alma_code.specs.Layout.{RunsRise, kinds_of}
use Rattle.alma_code.specs.Rules.{last_end}
use Rattle.alma_lower_templates.specs.Runs.{RunsDiffer, NamesKinds}

-- these runs, and an latest one behind them, name these kinds
pub record Opens (runs : List Run) (latest : Run) (kinds : List SlotKind) : Type 0 where
  pub rise : RunsRise 0 runs (last_end 0 runs)
  pub more : last_end 0 runs < latest.end
  pub names : kinds_of 0 runs ++ replicate (latest.end - last_end 0 runs) latest.kind ≡ kinds
  pub differ : RunsDiffer (runs ++ latest ∷ [])
  pub ends : latest.end ≡ length kinds
  pub few : length runs < latest.end

pub rise_snoc : (low mid : ℕ) (runs : List Run) (run : Run) → RunsRise low runs mid → mid < run.end
    → RunsRise low (runs ++ run ∷ []) run.end
rise_snoc low mid [] run e h = (omega (arith, e, h), refl)
rise_snoc low mid (first ∷ runs) run e h = (e.0, rise_snoc first.end mid runs run e.1 h)

pub last_snoc : (low : ℕ) (runs : List Run) (run : Run) → last_end low (runs ++ run ∷ []) ≡ run.end
last_snoc low [] run = refl
last_snoc low (first ∷ runs) run = last_snoc first.end runs run

pub kinds_snoc : (low : ℕ) (runs : List Run) (run : Run)
    → kinds_of low (runs ++ run ∷ []) ≡ kinds_of low runs ++ replicate (run.end - last_end low runs) run.kind
kinds_snoc low [] run = append-nil (replicate (run.end - low) run.kind)
kinds_snoc low (first ∷ runs) run =
    ap (λ y. replicate (first.end - low) first.kind ++ y) (kinds_snoc first.end runs run)
    ∙ sym (append_assoc (replicate (first.end - low) first.kind) (kinds_of first.end runs)
    (replicate (run.end - last_end first.end runs) run.kind))

pub differ_snoc : (runs : List Run) (a b : Run) → RunsDiffer (runs ++ a ∷ []) → (a.kind ≡ b.kind → ⊥)
    → RunsDiffer ((runs ++ a ∷ []) ++ b ∷ [])
differ_snoc [] a b h other = (other, tt)
differ_snoc (x ∷ []) a b h other = (h.0, (other, tt))
differ_snoc (x ∷ y ∷ runs) a b h other = (h.0, differ_snoc (y ∷ runs) a b h.1 other)

pub differ_same : (runs : List Run) (a b : Run) → RunsDiffer (runs ++ a ∷ []) → a.kind ≡ b.kind → RunsDiffer (runs ++ b ∷ [])
differ_same [] a b h same = tt
differ_same (x ∷ []) a b h same = (λ e. h.0 (e ∙ sym same), tt)
differ_same (x ∷ y ∷ runs) a b h same = (h.0, differ_same (y ∷ runs) a b h.1 same)

-- at first the first slot alone is latest
pub opens_first : (k : SlotKind) → Opens [] (record { kind = k; end = 1 }) (k ∷ [])
opens_first k = record { rise = refl; more = omega arith; names = refl; differ = tt; ends = refl; few = omega arith }

-- one more slot of the latest kind
pub opens_same : (runs : List Run) (latest : Run) (kinds : List SlotKind) (x : SlotKind) → Opens runs latest kinds → x ≡ latest.kind
    → Opens runs (record { kind = latest.kind; end = latest.end + 1 }) (kinds ++ x ∷ [])
opens_same runs latest kinds x h is =
    let last = last_end 0 runs in
    let one : latest.end + 1 - last ≡ latest.end - last + 1 = omega (arith, h.more) in
    let grown : replicate (latest.end + 1 - last) latest.kind ≡ replicate (latest.end - last) latest.kind ++ latest.kind ∷ [] =
    ap (λ n. replicate n latest.kind) one ∙ sym (replicate_more (latest.end - last) latest.kind) in
    record {
      rise = h.rise;
      more = omega (arith, h.more);
      names = ap (λ y. kinds_of 0 runs ++ y) grown
          ∙ sym (append_assoc (kinds_of 0 runs) (replicate (latest.end - last) latest.kind) (latest.kind ∷ []))
          ∙ ap (λ y. y ++ latest.kind ∷ []) h.names
          ∙ ap (λ k. kinds ++ k ∷ []) (sym is);
      differ = differ_same runs latest (record { kind = latest.kind; end = latest.end + 1 }) h.differ refl;
      ends = omega (arith, h.ends, length-append kinds (x ∷ []));
      few = omega (arith, h.few);
    }

-- a slot of another kind closes the latest run
pub opens_other : (runs : List Run) (latest : Run) (kinds : List SlotKind) (x : SlotKind) → Opens runs latest kinds → (x ≡ latest.kind → ⊥)
    → Opens (runs ++ latest ∷ []) (record { kind = x; end = latest.end + 1 }) (kinds ++ x ∷ [])
opens_other runs latest kinds x h other =
    let last : last_end 0 (runs ++ latest ∷ []) ≡ latest.end = last_snoc 0 runs latest in
    let one : latest.end + 1 - last_end 0 (runs ++ latest ∷ []) ≡ 1 = omega (arith, last) in
    record {
      rise = subst (RunsRise 0 (runs ++ latest ∷ [])) (sym last) (rise_snoc 0 (last_end 0 runs) runs latest h.rise h.more);
      more = omega (arith, last);
      names = ap (λ n. kinds_of 0 (runs ++ latest ∷ []) ++ replicate n x) one
          ∙ ap (λ y. y ++ x ∷ []) (kinds_snoc 0 runs latest ∙ h.names);
      differ = differ_snoc runs latest (record { kind = x; end = latest.end + 1 }) h.differ (λ e. other (sym e));
      ends = omega (arith, h.ends, length-append kinds (x ∷ []));
      few = omega (arith, h.few, length-append runs (latest ∷ []));
    }

-- at the end the latest run is closed
pub opens_closed : (runs : List Run) (latest : Run) (kinds : List SlotKind) → Opens runs latest kinds
    → NamesKinds (runs ++ latest ∷ []) kinds
opens_closed runs latest kinds h = record {
  ends = subst (RunsRise 0 (runs ++ latest ∷ [])) h.ends (rise_snoc 0 (last_end 0 runs) runs latest h.rise h.more);
  names = kinds_snoc 0 runs latest ∙ h.names;
  longest = h.differ;
}

-- one more element of a front, behind other elements
pub front_one : {A : Type 0} (before xs : List A) (i : ℕ) (d : A) → i < length xs
    → before ++ take (i + 1) xs ≡ (before ++ take i xs) ++ get_or xs i d ∷ []
front_one before xs i d lt =
    ap (λ y. before ++ y) (ap (λ k. take k xs) (add-one i) ∙ take-suc xs i d lt)
    ∙ sym (append_assoc before (take i xs) (get_or xs i d ∷ []))

pub opens_start : (kinds : List SlotKind) (d : SlotKind) → 0 < length kinds
    → Opens [] (record { kind = get_or kinds 0 d; end = 1 }) (take 1 kinds)
opens_start [] d some = absurd (omega (arith, some))
opens_start (k ∷ rest) d some = opens_first k

pub none_named : (kinds : List SlotKind) → length kinds ≡ 0 → NamesKinds [] kinds
none_named [] h = record { ends = refl; names = refl; longest = tt }
none_named (k ∷ rest) h = absurd (omega (arith, h))

pub moved : (runs runs2 : List Run) (latest latest2 : Run) (kinds kinds2 : List SlotKind) → runs ≡ runs2 → latest ≡ latest2 → kinds ≡ kinds2
    → Opens runs2 latest2 kinds2 → Opens runs latest kinds
moved runs runs2 latest latest2 kinds kinds2 e1 e2 e3 h =
    subst (λ r. Opens r latest kinds) (sym e1) (subst (λ r. Opens runs2 r kinds) (sym e2) (subst (Opens runs2 latest2) (sym e3) h))
