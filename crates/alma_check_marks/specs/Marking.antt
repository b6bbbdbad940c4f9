-- What the marks of this crate stand for, and what the functions that walk a phrase do to them.
use Rattle.std.specs.Prelude.{◌≡◌, ℕ, map, Result, OnOk}
use Rattle.alma_check_marks.specs.declared.mark.Mark.{Mark}
use Rattle.alma_check_marks.specs.declared.mark.Mark.TheVariants as variants
use Rattle.alma_check_marks.specs.declared.mark.Marks.{Marks}
use Rattle.alma_rules.specs.Places as places
use Rattle.alma_rules.specs.Places.{◌>>◌}

-- a mark, as alma_rules has it
abbrev pub mark_of : Mark → places.Mark
mark_of (variants.Node n t) = places.node_at n t
mark_of (variants.Statement t) = places.stmt_at t

-- the marks so far, and the token behind what has been walked
abbrev pub marks_of : Marks → places.PhraseMarks
marks_of m = record { marks = map mark_of m.marks.items; end = m.end }

-- one phrase has been walked behind others
pub record Goes (old new : places.PhraseMarks) (f : places.Step) : Type 0 where
  pub same : new ≡ places.step_on old f

-- a node of what has been walked since a token
pub record HasNode (old new : places.PhraseMarks) (n at : ℕ) : Type 0 where
  pub same : new ≡ places.marked_node n at old

-- where memory was left, the phrase has been walked
abbrev pub Walks : {T E : Type 0} → Result T E → (old new : Marks) → places.Step → Type 0
Walks r old new f = OnOk r (Goes (marks_of old) (marks_of new) f)

-- a statement, and its first word
abbrev pub begun : places.Step
begun = places.statement >> places.token

-- the head of a FOR or SOME: a statement with its first word, the variable and the word behind it
abbrev pub loop_head : ℕ → places.Step
loop_head variable = places.statement >> places.token >> places.whole variable places.token >> places.token

-- a word and the bracket behind it
abbrev pub two_words : places.Step
two_words = places.token >> places.token

-- a comma, and one more statement that begins at a token
abbrev pub one_more : ℕ → places.Step
one_more t = places.token >> places.statement_of t
