-- The words of an instruction whose slots are renamed, and what a form keeps.
use Rattle.std.proofs.Common.{◌≡◌, ℕ, List, [], ◌∷◌, refl}
use Rattle.std.specs.Prelude.{Bool, true, ◌&&◌, map}
use Rattle.std.specs.List.{list_all}
use Rattle.std.proofs.lemmas.Bool.{and_parts, and_from}
use Rattle.alma_code.specs.declared.instr.Instr.{Instr}
use Rattle.alma_code.specs.declared.instr.Instr.TheVariants as I
use Rattle.alma_code.specs.declared.instr.Word.{Word}
use Rattle.alma_code.specs.declared.instr.Word.TheVariants as W
use Rattle.alma_code.specs.Reads.{is_read}
use Rattle.alma_code.specs.Records.{is_first_form}
use Rattle.alma_code.specs.Rules.{ends_routine}
use Rattle.alma_code.specs.Words.{words}
use Rattle.alma_lower_slots.specs.Slots.{rename_slots}

-- a word of an instruction with its slots renamed; that of a slot of any kind names a slot that keeps its number
abbrev pub renamed_word : (slot : ℕ → ℕ) → Word → Word
renamed_word slot (W.Number n) = W.Number (slot n)
renamed_word slot (W.Place n) = W.Place (slot n)
renamed_word slot (W.Mark n) = W.Mark (slot n)
renamed_word slot (W.Link n) = W.Link (slot n)
renamed_word slot (W.Slot n) = W.Slot n
renamed_word slot (W.Range n) = W.Range n
renamed_word slot (W.Text n) = W.Text n
renamed_word slot (W.Address n) = W.Address n
renamed_word slot W.Free = W.Free

-- what a form keeps
pub record KeepsForm (slot : ℕ → ℕ) (i : Instr) : Type 0 where
  pub words : words (rename_slots slot i) ≡ map (renamed_word slot) (words i)
  pub ends : ends_routine (rename_slots slot i) ≡ ends_routine i
  pub reads : is_read (rename_slots slot i) ≡ is_read i
  pub first : is_first_form (rename_slots slot i) ≡ is_first_form i

-- each form keeps it
pub keeps_form : (slot : ℕ → ℕ) (i : Instr) → KeepsForm slot i
unfolding rename_slots words
keeps_form slot (I.Const a v) = record { words = refl; ends = refl; reads = refl; first = refl }
keeps_form slot (I.Move a b) = record { words = refl; ends = refl; reads = refl; first = refl }
keeps_form slot (I.Add a b c) = record { words = refl; ends = refl; reads = refl; first = refl }
keeps_form slot (I.Sub a b c) = record { words = refl; ends = refl; reads = refl; first = refl }
keeps_form slot (I.Mul a b c) = record { words = refl; ends = refl; reads = refl; first = refl }
keeps_form slot (I.Div a b c) = record { words = refl; ends = refl; reads = refl; first = refl }
keeps_form slot (I.Mod a b c) = record { words = refl; ends = refl; reads = refl; first = refl }
keeps_form slot (I.Neg a b) = record { words = refl; ends = refl; reads = refl; first = refl }
keeps_form slot (I.Equal a b c) = record { words = refl; ends = refl; reads = refl; first = refl }
keeps_form slot (I.Less a b c) = record { words = refl; ends = refl; reads = refl; first = refl }
keeps_form slot (I.LessEq a b c) = record { words = refl; ends = refl; reads = refl; first = refl }
keeps_form slot (I.Flip a b) = record { words = refl; ends = refl; reads = refl; first = refl }
keeps_form slot (I.InRange a t) = record { words = refl; ends = refl; reads = refl; first = refl }
keeps_form slot (I.Local a b) = record { words = refl; ends = refl; reads = refl; first = refl }
keeps_form slot (I.Global a b) = record { words = refl; ends = refl; reads = refl; first = refl }
keeps_form slot (I.Same a b) = record { words = refl; ends = refl; reads = refl; first = refl }
keeps_form slot (I.Field a b c) = record { words = refl; ends = refl; reads = refl; first = refl }
keeps_form slot (I.Index a b c d) = record { words = refl; ends = refl; reads = refl; first = refl }
keeps_form slot (I.Load a b) = record { words = refl; ends = refl; reads = refl; first = refl }
keeps_form slot (I.Store a b) = record { words = refl; ends = refl; reads = refl; first = refl }
keeps_form slot (I.Known a b) = record { words = refl; ends = refl; reads = refl; first = refl }
keeps_form slot (I.Bind a b c) = record { words = refl; ends = refl; reads = refl; first = refl }
keeps_form slot (I.Unify a b c d) = record { words = refl; ends = refl; reads = refl; first = refl }
keeps_form slot (I.CopyCells a b) = record { words = refl; ends = refl; reads = refl; first = refl }
keeps_form slot (I.SameCells a b) = record { words = refl; ends = refl; reads = refl; first = refl }
keeps_form slot (I.Jump a) = record { words = refl; ends = refl; reads = refl; first = refl }
keeps_form slot (I.JumpZero a b) = record { words = refl; ends = refl; reads = refl; first = refl }
keeps_form slot (I.Check a) = record { words = refl; ends = refl; reads = refl; first = refl }
keeps_form slot I.Fail = record { words = refl; ends = refl; reads = refl; first = refl }
keeps_form slot (I.Mark a) = record { words = refl; ends = refl; reads = refl; first = refl }
keeps_form slot (I.Cut a) = record { words = refl; ends = refl; reads = refl; first = refl }
keeps_form slot (I.Choose a) = record { words = refl; ends = refl; reads = refl; first = refl }
keeps_form slot (I.Forall a b) = record { words = refl; ends = refl; reads = refl; first = refl }
keeps_form slot (I.Overlay a b) = record { words = refl; ends = refl; reads = refl; first = refl }
keeps_form slot (I.Keep a) = record { words = refl; ends = refl; reads = refl; first = refl }
keeps_form slot I.Finish = record { words = refl; ends = refl; reads = refl; first = refl }
keeps_form slot (I.Call a b c) = record { words = refl; ends = refl; reads = refl; first = refl }
keeps_form slot I.Return = record { words = refl; ends = refl; reads = refl; first = refl }
keeps_form slot (I.ReturnValue a) = record { words = refl; ends = refl; reads = refl; first = refl }
keeps_form slot (I.ReadInt a t) = record { words = refl; ends = refl; reads = refl; first = refl }
keeps_form slot (I.ReadChar a t) = record { words = refl; ends = refl; reads = refl; first = refl }
keeps_form slot (I.WriteInt a) = record { words = refl; ends = refl; reads = refl; first = refl }
keeps_form slot (I.WriteChar a) = record { words = refl; ends = refl; reads = refl; first = refl }
keeps_form slot (I.WriteBool a) = record { words = refl; ends = refl; reads = refl; first = refl }
keeps_form slot (I.WriteText t) = record { words = refl; ends = refl; reads = refl; first = refl }
keeps_form slot I.WriteLine = record { words = refl; ends = refl; reads = refl; first = refl }
keeps_form slot (I.Fault n) = record { words = refl; ends = refl; reads = refl; first = refl }
keeps_form slot (I.Step a b c d) = record { words = refl; ends = refl; reads = refl; first = refl }
keeps_form slot (I.Own a) = record { words = refl; ends = refl; reads = refl; first = refl }
keeps_form slot (I.Chain a b c) = record { words = refl; ends = refl; reads = refl; first = refl }
keeps_form slot (I.Outer a b c) = record { words = refl; ends = refl; reads = refl; first = refl }
keeps_form slot (I.OuterSame a b c) = record { words = refl; ends = refl; reads = refl; first = refl }

-- a test of words that each keeps is kept
pub all_words : (p q : Word → Bool) (f : Word → Word) (ws : List Word) → ((w : Word) → p w ≡ true → q (f w) ≡ true) → list_all p ws ≡ true
    → list_all q (map f ws) ≡ true
all_words p q f [] keeps e = refl
all_words p q f (w ∷ ws) keeps e =
    let both = and_parts (p w) (list_all p ws) e in
    and_from (q (f w)) (list_all q (map f ws)) (keeps w both.0) (all_words p q f ws keeps both.1)

-- two tests together
pub both_words : (p q : Word → Bool) (ws : List Word) → list_all p ws ≡ true → list_all q ws ≡ true
    → list_all (λ w. p w && q w) ws ≡ true
both_words p q [] e f = refl
both_words p q (w ∷ ws) e f =
    let a = and_parts (p w) (list_all p ws) e in
    let b = and_parts (q w) (list_all q ws) f in
    and_from (p w && q w) (list_all (λ w. p w && q w) ws) (and_from (p w) (q w) a.0 b.0) (both_words p q ws a.1 b.1)
