-- Parts that are written one after another.
use Rattle.std.proofs.Common.{◌≡◌, ◌<◌, ◌≤◌, ◌+◌, ℕ, List, ◌++◌, length, take, drop, get_or, ap, sym, subst, ◌∙◌, add-one, append_assoc}
use Rattle.std.proofs.Common.{drop-cons, []}
use Rattle.std.proofs.lemmas.List.{take-append-drop, append-nil}
use Rattle.std.proofs.lemmas.List.Concat.{flat_map-append}
use Rattle.std.specs.Prelude.{Option, Result, Ok, Err, is_err, true, false, flat_map}
use Rattle.std.specs.Borrow.{Bor}
use Rattle.std.specs.Io.KnownBytes.{Appends}
use Rattle.alma_io.specs.Causes.{Rose}
use Rattle.alma_io.specs.Fronts.{AppendsFront}
use Rattle.alma_io.specs.Outside.{HasRisen, Gains, FailsWithin, Writes}
use Rattle.alma_io.specs.Sides.{SinkSide}
use Rattle.alma_io.proofs.Known.{appends_trans}

-- all parts, by those before one of them, that one, and those behind it
pub parts_at : (parts : List (Bor (List ℕ))) (i : ℕ) (d : Bor (List ℕ)) → i < length parts
    → flat_map (λ (part : Bor (List ℕ)). part.now) parts ≡ flat_map (λ (part : Bor (List ℕ)). part.now) (take i parts)
    ++ ((get_or parts i d).now ++ flat_map (λ (part : Bor (List ℕ)). part.now) (drop (i + 1) parts))
parts_at parts i d h =
    let f = λ (part : Bor (List ℕ)). part.now in
    ap (flat_map f) (sym (take-append-drop i parts)) ∙ flat_map-append f (take i parts) (drop i parts)
    ∙ ap (λ z. flat_map f (take i parts) ++ flat_map f z) (drop-cons parts i d h)
    ∙ ap (λ k. flat_map f (take i parts) ++ ((get_or parts i d).now ++ flat_map f (drop k parts))) (sym (add-one i))

-- bytes that are out, and then a prefix of the next, are a prefix of the whole
pub front_after : (front bytes rest whole : List ℕ) (a b c : Option (List ℕ)) → whole ≡ front ++ (bytes ++ rest) → Appends a b front
    → AppendsFront b c bytes → AppendsFront a c whole
front_after front bytes rest whole a b c e h x = (
  front ++ x.0,
  x.1 ++ rest,
  e ∙ ap (λ z. front ++ (z ++ rest)) x.2 ∙ ap (λ z. front ++ z) (append_assoc x.0 x.1 rest) ∙ sym (append_assoc front x.0 (x.1 ++ rest)),
  appends_trans a b c front x.0 h x.3,
)

-- a fault behind a time without faults
pub risen_after : (a b c : ℕ) → b ≡ a → b ≤ c → Rose b c → HasRisen a c
risen_after a b c e h x = subst (λ n. HasRisen n c) e (h, x)

-- bytes that are out, and then a failure within the next, are a failure within the whole
pub fails_after : (front bytes rest whole : List ℕ) (a b c : SinkSide) → whole ≡ front ++ (bytes ++ rest)
    → Appends a.written b.written front
    → b.faults ≡ a.faults → FailsWithin b c bytes → FailsWithin a c whole
fails_after front bytes rest whole a b c e h q x = record {
  front = front_after front bytes rest whole a.written b.written c.written e h x.front;
  risen = subst (λ n. HasRisen n c.faults) q x.risen;
}

-- bytes that are out, and then a write of more
pub writes_after : {T E : Type 0} (r : Result T E) (a b c : SinkSide) (bytes more : List ℕ) → Gains a b bytes → Writes b c more r
    → Writes a c (bytes ++ more) r
writes_after (Ok v) a b c bytes more h x = record {
  bytes_are = appends_trans a.written b.written c.written bytes more h.bytes_are x.bytes_are;
  quiet = x.quiet ∙ h.quiet;
}
writes_after (Err e) a b c bytes more h x =
    fails_after bytes more [] (bytes ++ more) a b c (ap (λ z. bytes ++ z) (sym (append-nil more))) h.bytes_are h.quiet x

-- a failure within bytes is one within these and more
pub fails_more : (a b : SinkSide) (bytes more : List ℕ) → FailsWithin a b bytes → FailsWithin a b (bytes ++ more)
fails_more a b bytes more x = record {
  front = (x.front.0, x.front.1 ++ more, ap (λ z. z ++ more) x.front.2 ∙ append_assoc x.front.0 x.front.1 more, x.front.3);
  risen = x.risen;
}

-- a write that is no error gained its bytes
pub gains_of : {T E : Type 0} (r : Result T E) (a b : SinkSide) (bytes : List ℕ) → is_err r ≡ false → Writes a b bytes r → Gains a b bytes
gains_of (Ok v) a b bytes e x = x
gains_of (Err fault) a b bytes e x = absurd (cc)

-- a write that is an error failed within its bytes
pub fails_of : {T E : Type 0} (r : Result T E) (a b : SinkSide) (bytes : List ℕ) → is_err r ≡ true → Writes a b bytes r
    → FailsWithin a b bytes
fails_of (Ok v) a b bytes e x = absurd (cc)
fails_of (Err fault) a b bytes e x = x
