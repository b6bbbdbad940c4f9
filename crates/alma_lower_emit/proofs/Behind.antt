-- What is put behind a part, where the result of the part is handed on unopened.
use Rattle.std.specs.Prelude.{Result, Ok, Err, IsOk, OnOk, IfOk}
use Rattle.alma_lower_parts.proofs.Said.{said}

-- of the part (what it put, and what is known of its value) and of what is put behind it
pub put_behind : {A B E : Type 0} (r : Result A E) (q : Result B E) {D S : Type 0} {P R : A → Type 0} → OnOk r D → IfOk r P
    → OnOk q (IsOk r) → IfOk r (λ x. OnOk q (R x)) → ((x : A) → D → P x → R x → S) → OnOk q S
put_behind (Ok x) (Ok y) d h ok j f = f x d h j
put_behind {A = A} (Err e) (Ok y) d h ok j f = said {A = A} (Err e) ok h
put_behind (Ok x) (Err k) d h ok j f = ok
put_behind (Err e) (Err k) d h ok j f = ok

-- of the value of the last step alone
pub value_behind : {A B E : Type 0} (r : Result A E) (q : Result B E) {D : Type 0} {Q S : B → Type 0} → OnOk r D → OnOk q (IsOk r)
    → IfOk q Q → ((y : B) → D → Q y → S y) → IfOk q S
value_behind (Ok x) (Ok y) d ok i f = f y d i
value_behind {A = A} (Err e) (Ok y) d ok i f = said {A = A} (Err e) ok d
value_behind (Ok x) (Err k) d ok i f = i
value_behind (Err e) (Err k) d ok i f = i

-- of both values, where one slot is taken
pub slot_behind : {A B E : Type 0} (r : Result A E) (q : Result B E) {D S : Type 0} {P : A → Type 0} {Q : B → Type 0} {R : A → B → Type 0}
    → OnOk r D → IfOk r P → OnOk q (IsOk r) → IfOk q Q → IfOk r (λ x. IfOk q (λ y. R x y)) → ((x : A) (y : B) → D → P x → Q y → R x y → S)
    → OnOk q S
slot_behind (Ok x) (Ok y) d h ok i j f = f x y d h i j
slot_behind {A = A} (Err e) (Ok y) d h ok i j f = said {A = A} (Err e) ok h
slot_behind (Ok x) (Err k) d h ok i j f = ok
slot_behind (Err e) (Err k) d h ok i j f = ok

-- of both values, where the last step says something of its own
pub jump_behind : {A B E : Type 0} (r : Result A E) (q : Result B E) {D : Type 0} {P R : A → Type 0} {Q S : B → Type 0} → OnOk r D
    → IfOk r P → OnOk q (IsOk r) → IfOk q Q → IfOk r (λ x. OnOk q (R x)) → ((x : A) (y : B) → D → P x → Q y → R x → S y) → IfOk q S
jump_behind (Ok x) (Ok y) d h ok i j f = f x y d h i j
jump_behind {A = A} (Err e) (Ok y) d h ok i j f = said {A = A} (Err e) ok h
jump_behind (Ok x) (Err k) d h ok i j f = i
jump_behind (Err e) (Err k) d h ok i j f = i
