-- Event lists: what a phrase does, in order, with its alternatives.
use Rattle.std.specs.Prelude.{ℕ, zero, suc, ℤ, List, [], ◌++◌, Option}
use Rattle.alma_base.specs.declared.fault.RunFault.{RunFault}
use Rattle.alma_mean.specs.Store.{Store}

-- the yield of a statement or a test
abbrev pub NoYield : Type 0
NoYield = Unit {0}

-- how an alternative goes on: with a yield, or by RETURN, with its number where it has one
pub data Flow (A : Type 0) : Type 0 where
  Go : A → Flow A
  Return : Option ℤ → Flow A

-- a list of events, of which an alternative that goes on yields an A. It closes with one end: Fail,
-- there are no more alternatives; Fault, with the line where it stands, or 0 before that is known;
-- Cut, the level was too low to say more
pub data Events (A : Type 0) : Type 0 where
  Visit : Events A → Events A
  Print : List ℕ → Events A → Events A
  Alt : Store → Flow A → Events A → Events A
  Fail : Events A
  Fault : RunFault → (line : ℕ) → Events A
  Cut : Events A

-- one alternative
abbrev pub one : {A : Type 0} → Store → A → Events A
one s y = Alt s (Go y) Fail

-- the first list, and then the second where the first ends in Fail
abbrev pub join : {A : Type 0} → Events A → Events A → Events A
join (Visit e) f = Visit (join e f)
join (Print b e) f = Print b (join e f)
join (Alt s w e) f = Alt s w (join e f)
join Fail f = f
join (Fault x l) f = Fault x l
join Cut f = Cut

-- the events of k in place of each alternative that goes on; one by RETURN stays
abbrev pub bind : {A B : Type 0} → Events A → (Store → A → Events B) → Events B
bind (Visit e) k = Visit (bind e k)
bind (Print b e) k = Print b (bind e k)
bind (Alt s (Go y) e) k = join (k s y) (bind e k)
bind (Alt s (Return n) e) k = Alt s (Return n) (bind e k)
bind Fail k = Fail
bind (Fault x l) k = Fault x l
bind Cut k = Cut

-- a visit before each alternative
abbrev pub visit_each : {A : Type 0} → Events A → Events A
visit_each (Visit e) = Visit (visit_each e)
visit_each (Print b e) = Print b (visit_each e)
visit_each (Alt s w e) = Visit (Alt s w (visit_each e))
visit_each Fail = Fail
visit_each (Fault x l) = Fault x l
visit_each Cut = Cut

-- a node is visited at its start, and again with each alternative of its parts
abbrev pub node : {A : Type 0} → Events A → Events A
node e = Visit (visit_each e)

-- the line of a fault, or else the one given
abbrev pub line_or : (line given : ℕ) → ℕ
line_or zero given = given
line_or (suc line) given = suc line

-- a fault whose line was not known stands at this one
abbrev pub at_line : {A : Type 0} → ℕ → Events A → Events A
at_line given (Visit e) = Visit (at_line given e)
at_line given (Print b e) = Print b (at_line given e)
at_line given (Alt s w e) = Alt s w (at_line given e)
at_line given Fail = Fail
at_line given (Fault x l) = Fault x (line_or l given)
at_line given Cut = Cut

-- the events up to the first alternative, that one included; behind it `Fail` stands for all that
-- is dropped
abbrev pub first : {A : Type 0} → Events A → Events A
first (Visit e) = Visit (first e)
first (Print b e) = Print b (first e)
first (Alt s w e) = Alt s w Fail
first Fail = Fail
first (Fault x l) = Fault x l
first Cut = Cut

-- the events before the first alternative, then k at its store, or z where there is none
abbrev pub on_first : {A B : Type 0} → Events A → (Store → Flow A → Events B) → (Unit {0} → Events B) → Events B
on_first (Visit e) k z = Visit (on_first e k z)
on_first (Print b e) k z = Print b (on_first e k z)
on_first (Alt s w e) k z = k s w
on_first Fail k z = z tt
on_first (Fault x l) k z = Fault x l
on_first Cut k z = Cut

-- how a program ends
pub data End : Type 0 where
  Succeeded : End
  Failed : End
  Faulted : RunFault → (line : ℕ) → End
  CutOff : End

-- how a program with these events ends: an alternative of any flow is success
abbrev pub end_of : {A : Type 0} → Events A → End
end_of (Visit e) = end_of e
end_of (Print b e) = end_of e
end_of (Alt s w e) = Succeeded
end_of Fail = Failed
end_of (Fault x l) = Faulted x l
end_of Cut = CutOff

-- all that is printed
abbrev pub prints : {A : Type 0} → Events A → List ℕ
prints (Visit e) = prints e
prints (Print b e) = b ++ prints e
prints (Alt s w e) = prints e
prints Fail = []
prints (Fault x l) = []
prints Cut = []

-- how many visits a list has
abbrev pub visit_count : {A : Type 0} → Events A → ℕ
visit_count (Visit e) = suc (visit_count e)
visit_count (Print b e) = visit_count e
visit_count (Alt s w e) = visit_count e
visit_count Fail = 0
visit_count (Fault x l) = 0
visit_count Cut = 0
