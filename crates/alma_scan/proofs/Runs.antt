-- Runs: the longest front of bytes of one class.
use Rattle.std.proofs.Common.{◌≡◌, ◌≤◌, ◌<◌, ℕ, zero, suc, Bool, true, List, [], ◌∷◌, ◌++◌, length, take, get_or, refl, ap, sym, ◌∙◌, arith}
use Rattle.alma_scan.specs.Bytes.{AllIn, Stops}
use Rattle.alma_scan.proofs.Basics.{both, heads, tails}

-- one more byte of the class
pub all_in_more : (test : ℕ → Bool) (bytes : List ℕ) (n : ℕ) → n < length bytes → AllIn test (take n bytes) → test (get_or bytes n 0) ≡ true
    → AllIn test (take (suc n) bytes)
all_in_more test [] n h p t = absurd (omega arith)
all_in_more test (b ∷ bytes) zero h p t = (t, tt)
all_in_more test (b ∷ bytes) (suc n) h p t = (p.0, all_in_more test bytes n (omega arith) p.1 t)

-- no front of one class is longer than the run
pub run_longest : (test : ℕ → Bool) (run rest text more : List ℕ) → run ++ rest ≡ text ++ more → Stops test rest → AllIn test text
    → length text ≤ length run
run_longest test run rest [] more e s h = omega arith
run_longest test [] [] (b ∷ text) more e s h = absurd (let q : [] ≡ b ∷ (text ++ more) = e in cc q)
run_longest test [] (c ∷ rest) (b ∷ text) more e s h = absurd (both (test c) (ap test (heads e) ∙ h.0) s)
run_longest test (c ∷ run) rest (b ∷ text) more e s h = let k = run_longest test run rest text more (tails e) s h.1 in omega (arith, k)

-- bytes have one run
pub run_once : (test : ℕ → Bool) (run rest text more : List ℕ) → run ++ rest ≡ text ++ more → AllIn test run → Stops test rest
    → AllIn test text → Stops test more → (run ≡ text) × (rest ≡ more)
run_once test [] rest [] more e h s k t = (refl, e)
run_once test [] [] (b ∷ text) more e h s k t = absurd (let q : [] ≡ b ∷ (text ++ more) = e in cc q)
run_once test [] (c ∷ rest) (b ∷ text) more e h s k t = absurd (both (test c) (ap test (heads e) ∙ k.0) s)
run_once test (c ∷ run) rest [] [] e h s k t = absurd (let q : c ∷ (run ++ rest) ≡ [] = e in cc q)
run_once test (c ∷ run) rest [] (b ∷ more) e h s k t = absurd (both (test b) (ap test (sym (heads e)) ∙ h.0) t)
run_once test (c ∷ run) rest (b ∷ text) more e h s k t =
    let o = run_once test run rest text more (tails e) h.1 s k.1 t in
    (ap (λ (x : ℕ). x ∷ run) (heads e) ∙ ap (λ (z : List ℕ). b ∷ z) o.0, o.1)
