-- Copies of cells: all are read, and then laid down.
use Rattle.std.proofs.Common.{◌≡◌, ℕ, zero, suc, ◌+◌, ◌<◌, Bool, true, false, ◌&&◌, List, [], ◌∷◌, ◌++◌, length, get_or, map, drop}
use Rattle.std.proofs.Common.{refl, sym, ap, ◌∙◌, subst, arith}
use Rattle.std.specs.Prelude.{All}
use Rattle.std.specs.List.{range_with_len}
use Rattle.std.proofs.lemmas.List.{drop_more}
use Rattle.std.proofs.lemmas.List.Elements.{All-from_get_or}
use Rattle.std.proofs.lemmas.List.FromFn.{get_or-map-range_with_len, length-map-range_with_len}
use Rattle.alma_base.specs.Choice.{if_true}
use Rattle.alma_code.specs.declared.cell.Cell.{Cell}
use Rattle.alma_code.specs.declared.cell.Cell.TheVariants as cell
use Rattle.alma_code.specs.Carries.{number_at}
use Rattle.alma_code.specs.Fits.{IsContent}
use Rattle.alma_code.specs.Kinds.{is_number}
use Rattle.alma_code.specs.Machine.{State, StepResult, gets_stuck, copies_cells, with_cell}
use Rattle.alma_code.specs.Picture.{PlainFrame, cell_at}
use Rattle.alma_machine_acts.specs.Copies.{cells_from, lay}
use Rattle.alma_machine_acts.specs.Rows.{HasNumberIn, KeepsNumbers, AreNumbers, GoesOn}
use Rattle.alma_machine_acts.proofs.Stays.{cell_stays}
use Rattle.alma_machine_acts.proofs.Words.{content_held}

number_there : (now : List PlainFrame) (f i : ℕ) → HasNumberIn now f i → number_at now f i ≡ true
number_there now f i h = ap is_number h.kind

if_both : (x y : Bool) (p q r : StepResult) → y ≡ true → p ≡ q → if_true (x && y) (λ _. p) (λ _. r) ≡ if_true x (λ _. q) (λ _. r)
if_both true y p q r e same = ap (λ b. if_true b (λ _. p) (λ _. r)) e ∙ same
if_both false y p q r e same = refl

copied_from : (n a : ℕ) (before : List PlainFrame) (s : State) (f i g j : ℕ) → ((k : ℕ) → k < n → number_at before g (j + (a + k)) ≡ true)
    → copies_cells n before s f i g (j + a) ≡ lay (map (λ k. cell_at before g (j + k) cell.Unknown) (range_with_len a n)) s f i
copied_from zero a before s f i g j there = refl
copied_from (suc n) a before s f i g j there =
    let z : j + (a + 0) ≡ j + a = omega arith in
    let next : suc (j + a) ≡ j + (a + 1) = omega arith in
    let t = with_cell s f i (cell_at before g (j + a) cell.Unknown) in
    if_both (number_at s.now f i) (number_at before g (j + a)) _ _ (gets_stuck s) (ap (number_at before g) (sym z) ∙ there 0 (omega arith))
    (ap (copies_cells n before t f (suc i) g) next
    ∙ copied_from n (a + 1) before t f (suc i) g j
    (λ k lt. (let e : j + (a + 1 + k) ≡ j + (a + suc k) = omega arith in ap (number_at before g) e ∙ there (suc k) (omega arith))))

-- cells that are read and then laid down are copied
pub copied_is : (n : ℕ) (before : List PlainFrame) (s : State) (f i g j : ℕ) → AreNumbers before g j n
    → copies_cells n before s f i g j ≡ lay (cells_from before g j n) s f i
copied_is n before s f i g j numbers =
    let z : j ≡ j + 0 = omega arith in
    ap (copies_cells n before s f i g) z
    ∙ copied_from n 0 before s f i g j (λ k lt.
    (let e : j + (0 + k) ≡ j + k = omega arith in ap (number_at before g) e ∙ number_there before g (j + k) (numbers.each k lt)))

-- they are contents
pub contents_of : (now : List PlainFrame) (f i n : ℕ) → AreNumbers now f i n → All IsContent (cells_from now f i n)
contents_of now f i n numbers =
    All-from_get_or IsContent (cells_from now f i n) cell.Unset
    (λ k lt. (let low : k < n = omega (arith, length-map-range_with_len (λ k. cell_at now f (i + k) cell.Unknown) 0 n) in
    let there : get_or (cells_from now f i n) k cell.Unset ≡ cell_at now f (i + k) cell.Unknown =
    get_or-map-range_with_len (λ k. cell_at now f (i + k) cell.Unknown) 0 n k k cell.Unset low (omega arith) in
    subst IsContent (sym there) (content_held now f (i + k) (cell_at now f (i + k) cell.Unknown) (numbers.each k low) refl)))

-- as far as the first k cells are laid down
pub record Laid (cells : List Cell) (s t : State) (f i k : ℕ) : Type 0 where
  pub rest : lay cells s f i ≡ lay (drop k cells) t f (i + k)
  pub numbers : KeepsNumbers s.now t.now
  pub kept : GoesOn s t

-- one more
pub laid_more : (cells : List Cell) (s t : State) (f i k : ℕ) (c : Cell) → k < length cells → c ≡ get_or cells k cell.Unknown → IsContent c
    → AreNumbers s.now f i (length cells) → Laid cells s t f i k
    → Laid cells s (with_cell t f (i + k) c) f i (k + 1)
laid_more cells s t f i k c lt is content numbers so =
    let here = so.numbers f (i + k) (numbers.each k lt) in
    let next : suc (i + k) ≡ i + (k + 1) = omega arith in
    let u = with_cell t f (i + k) c in
    record {
      rest = so.rest ∙ ap (λ cs. lay cs t f (i + k)) (drop_more cells k cell.Unknown lt ∙ ap (λ x. x ∷ drop (k + 1) cells) (sym is))
          ∙ ap (λ b. if_true b (λ _. lay (drop (k + 1) cells) u f (suc (i + k))) (λ _. gets_stuck t)) (number_there t.now f (i + k) here)
          ∙ ap (lay (drop (k + 1) cells) u f) next;
      numbers = λ g n h. cell_stays t.now g n f (i + k) c content (so.numbers g n h);
      kept = so.kept;
    }

-- the cells that are read, one more
pub read_more : (now : List PlainFrame) (f i k : ℕ)
    → cells_from now f i k ++ (cell_at now f (i + k) cell.Unknown ∷ []) ≡ cells_from now f i (k + 1)
read_more now f i k = (let z : i + k ≡ i + (0 + k) = omega arith in ap (λ j. cells_from now f i k ++ (cell_at now f j cell.Unknown ∷ [])) z
    ∙ from 0 k)
  where
    from : (a k : ℕ) → map (λ j. cell_at now f (i + j) cell.Unknown) (range_with_len a k)
        ++ (cell_at now f (i + (a + k)) cell.Unknown ∷ []) ≡ map (λ j. cell_at now f (i + j) cell.Unknown) (range_with_len a (k + 1))
    from a zero = (let z : i + (a + 0) ≡ i + a = omega arith in ap (λ j. cell_at now f j cell.Unknown ∷ []) z)
    from a (suc k) =
        let one : suc (k + 1) ≡ suc k + 1 = omega arith in
        let e : i + (a + suc k) ≡ i + (a + 1 + k) = omega arith in
        ap (λ j. map (λ j. cell_at now f (i + j) cell.Unknown) (range_with_len a (suc k)) ++ (cell_at now f j cell.Unknown ∷ [])) e
        ∙ ap (λ (t : List Cell). cell_at now f (i + a) cell.Unknown ∷ t) (from (a + 1) k)
        ∙ ap (λ n. map (λ j. cell_at now f (i + j) cell.Unknown) (range_with_len a n)) one

pub ruleset copies = (copied_is, contents_of)
