-- How comments and gaps go on: each has one end.
use Rattle.std.proofs.Common.{◌≡◌, ℕ, zero, suc, ◌+◌, ◌-◌, false, List, [], ◌∷◌, refl, ap, sym, ◌∙◌, subst, add-one}
use Rattle.std.proofs.Math.Numerals.{sub-one}
use Rattle.alma_scan.specs.Comments.{Closes, here, byte, nested, opens, closes}
use Rattle.alma_scan.proofs.Basics.{true_false, tails, some_none}

-- the ways in which a comment goes on, with equations in the place of patterns
pub data ClosesBy (bytes rest : List ℕ) : Type 0 where
  by_here : bytes ≡ 42 ∷ 41 ∷ rest → ClosesBy bytes rest
  by_byte : (b : ℕ) (more : List ℕ) → bytes ≡ b ∷ more → opens bytes ≡ false → closes bytes ≡ false → Closes more rest → ClosesBy bytes rest
  by_nested : (more inner : List ℕ) → bytes ≡ 40 ∷ 42 ∷ more → Closes more inner → Closes inner rest → ClosesBy bytes rest

-- each comment goes on in one of these ways
pub closes_by : {bytes rest : List ℕ} → Closes bytes rest → ClosesBy bytes rest
closes_by (here rest) = by_here refl
closes_by (byte b bytes rest o c h) = by_byte b bytes refl o c h
closes_by (nested bytes inner rest h k) = by_nested bytes inner refl h k

-- what opens a comment goes on with a whole comment
open_back : (bytes rest : List ℕ) → Closes (40 ∷ 42 ∷ bytes) rest → (inner : List ℕ) × Closes bytes inner × Closes inner rest
open_back bytes rest h = elim (closes_by h) [
  | by_here e ↦ absurd (true_false (ap opens e))
  | by_byte b more e o c k ↦ absurd (true_false o)
  | by_nested more inner e k m ↦ (inner, subst (λ (z : List ℕ). Closes z inner) (sym (tails (tails e))) k, m)
]

-- what closes a comment has the rest behind it
close_back : (bytes rest : List ℕ) → Closes (42 ∷ 41 ∷ bytes) rest → bytes ≡ rest
close_back bytes rest h = elim (closes_by h) [
  | by_here e ↦ tails (tails e)
  | by_byte b more e o c k ↦ absurd (true_false c)
  | by_nested more inner e k m ↦ absurd (true_false (sym (ap opens e)))
]

-- any other byte goes on with the comment
byte_back : (b : ℕ) (bytes rest : List ℕ) → opens (b ∷ bytes) ≡ false → closes (b ∷ bytes) ≡ false → Closes (b ∷ bytes) rest
    → Closes bytes rest
byte_back b bytes rest o c h = elim (closes_by h) [
  | by_here e ↦ absurd (true_false (sym (ap closes e) ∙ c))
  | by_byte b' more e o' c' k ↦ subst (λ (z : List ℕ). Closes z rest) (sym (tails e)) k
  | by_nested more inner e k m ↦ absurd (true_false (sym (ap opens e) ∙ o))
]

-- no comment ends where the source ends
end_back : (rest : List ℕ) → Closes [] rest → ⊥
end_back rest h = elim (closes_by h) [
  | by_here e ↦ some_none (sym e)
  | by_byte b more e o c k ↦ some_none (sym e)
  | by_nested more inner e k m ↦ some_none (sym e)
]

-- a comment has one end
pub closes_once : {bytes rest : List ℕ} → Closes bytes rest → (other : List ℕ) → Closes bytes other → rest ≡ other
closes_once (here rest) other k = close_back rest other k
closes_once (byte b bytes rest o c h) other k = closes_once h other (byte_back b bytes other o c k)
closes_once (nested bytes inner rest h i) other k =
    let l = open_back bytes other k in
    closes_once i other (subst (λ (z : List ℕ). Closes z other) (sym (closes_once h l.0 l.1)) l.2)

-- the bytes close the comment round this place and so many more round it, behind which the rest stands
abbrev pub ClosesAll : ℕ → List ℕ → List ℕ → Type 0
ClosesAll zero bytes rest = Closes bytes rest
ClosesAll (suc depth) bytes rest = (after : List ℕ) × Closes bytes after × ClosesAll depth after rest

-- a comment, and what is left of it with so many more open, have the same end
pub record SameEnd (depth : ℕ) (bytes whole : List ℕ) : Type 0 where
  pub sound : (rest : List ℕ) → ClosesAll depth bytes rest → Closes whole rest
  pub complete : (rest : List ℕ) → Closes whole rest → ClosesAll depth bytes rest

-- a comment has its own end
pub same_start : (whole : List ℕ) → SameEnd 0 whole whole
same_start whole = record { sound = λ rest h. h; complete = λ rest h. h }

-- an opening is closed with one more
pub opened : (depth : ℕ) (bytes rest : List ℕ) → ClosesAll (suc depth) bytes rest → ClosesAll depth (40 ∷ 42 ∷ bytes) rest
opened zero bytes rest h = nested bytes h.0 rest h.1 h.2
opened (suc depth) bytes rest h = (h.2.0, nested bytes h.0 h.2.0 h.1 h.2.1, h.2.2)

-- an opening was closed with one more
pub opened_back : (depth : ℕ) (bytes rest : List ℕ) → ClosesAll depth (40 ∷ 42 ∷ bytes) rest → ClosesAll (suc depth) bytes rest
opened_back zero bytes rest h = open_back bytes rest h
opened_back (suc depth) bytes rest h = let k = open_back bytes h.0 h.1 in (k.0, k.1, (h.0, k.2, h.2))

-- another comment opens
pub same_opened : (depth : ℕ) (bytes after whole : List ℕ) → bytes ≡ 40 ∷ 42 ∷ after → SameEnd depth bytes whole
    → SameEnd (depth + 1) after whole
same_opened depth bytes after whole e s =
    let t : SameEnd depth (40 ∷ 42 ∷ after) whole = subst (λ (z : List ℕ). SameEnd depth z whole) e s in
    subst (λ (n : ℕ). SameEnd n after whole) (sym (add-one depth)) record {
      sound = λ rest h. t.sound rest (opened depth after rest h);
      complete = λ rest h. opened_back depth after rest (t.complete rest h);
    }

-- a closing was one less to close
pub closed_back : (depth : ℕ) (bytes rest : List ℕ) → ClosesAll (suc depth) (42 ∷ 41 ∷ bytes) rest → ClosesAll depth bytes rest
closed_back depth bytes rest h = subst (λ (z : List ℕ). ClosesAll depth z rest) (sym (close_back bytes h.0 h.1)) h.2

-- a closing leaves one less to close
closed : (depth : ℕ) (after whole : List ℕ) → SameEnd (suc depth) (42 ∷ 41 ∷ after) whole → SameEnd depth after whole
closed depth after whole s = record {
  sound = λ rest h. s.sound rest (after, here after, h);
  complete = λ rest h. closed_back depth after rest (s.complete rest h);
}

-- an inner comment closes
pub same_closed : (depth : ℕ) (bytes after whole : List ℕ) → bytes ≡ 42 ∷ 41 ∷ after → (depth ≡ 0 → ⊥) → SameEnd depth bytes whole
    → SameEnd (depth - 1) after whole
same_closed zero bytes after whole e n s = absurd (n refl)
same_closed (suc depth) bytes after whole e n s =
    subst (λ (d : ℕ). SameEnd d after whole) (sym (sub-one (suc depth)))
    (closed depth after whole (subst (λ (z : List ℕ). SameEnd (suc depth) z whole) e s))

-- the comment itself closes
pub same_end : (depth : ℕ) (bytes after whole : List ℕ) → bytes ≡ 42 ∷ 41 ∷ after → depth ≡ 0 → SameEnd depth bytes whole
    → Closes whole after
same_end depth bytes after whole e z s =
    let t : SameEnd 0 (42 ∷ 41 ∷ after) whole =
    subst (λ (l : List ℕ). SameEnd 0 l whole) e (subst (λ (n : ℕ). SameEnd n bytes whole) z s) in
    t.sound after (here after)

-- a byte leaves as many to close
pub byted : (depth b : ℕ) (bytes rest : List ℕ) → opens (b ∷ bytes) ≡ false → closes (b ∷ bytes) ≡ false → ClosesAll depth bytes rest
    → ClosesAll depth (b ∷ bytes) rest
byted zero b bytes rest o c h = byte b bytes rest o c h
byted (suc depth) b bytes rest o c h = (h.0, byte b bytes h.0 o c h.1, h.2)

-- a byte left as many to close
pub byted_back : (depth b : ℕ) (bytes rest : List ℕ) → opens (b ∷ bytes) ≡ false → closes (b ∷ bytes) ≡ false
    → ClosesAll depth (b ∷ bytes) rest → ClosesAll depth bytes rest
byted_back zero b bytes rest o c h = byte_back b bytes rest o c h
byted_back (suc depth) b bytes rest o c h = (h.0, byte_back b bytes h.0 o c h.1, h.2)

-- a byte goes by
pub same_byte : (depth b : ℕ) (bytes after whole : List ℕ) → bytes ≡ b ∷ after → opens bytes ≡ false → closes bytes ≡ false
    → SameEnd depth bytes whole → SameEnd depth after whole
same_byte depth b bytes after whole e o c s =
    let t : SameEnd depth (b ∷ after) whole = subst (λ (z : List ℕ). SameEnd depth z whole) e s in
    let no : opens (b ∷ after) ≡ false = sym (ap opens e) ∙ o in
    let nc : closes (b ∷ after) ≡ false = sym (ap closes e) ∙ c in
    record {
      sound = λ rest h. t.sound rest (byted depth b after rest no nc h);
      complete = λ rest h. byted_back depth b after rest no nc (t.complete rest h);
    }

-- nothing closes where the source ends
pub no_all : (depth : ℕ) (rest : List ℕ) → ClosesAll depth [] rest → ⊥
no_all zero rest h = end_back rest h
no_all (suc depth) rest h = end_back h.0 h.1

-- the source ends inside the comment
pub same_none : (depth : ℕ) (bytes whole : List ℕ) → bytes ≡ [] → SameEnd depth bytes whole → (rest : List ℕ) → Closes whole rest → ⊥
same_none depth bytes whole e s rest h = no_all depth rest (subst (λ (z : List ℕ). ClosesAll depth z rest) e (s.complete rest h))
