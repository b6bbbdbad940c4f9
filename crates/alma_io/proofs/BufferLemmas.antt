-- Output that goes through a buffer.
use Rattle.std.proofs.Common.{◌≡◌, ◌∙◌, ℕ, List, [], ◌++◌, ap, sym, refl, subst, append_assoc}
use Rattle.std.proofs.lemmas.List.{append-nil}
use Rattle.std.specs.Prelude.{Result, Ok, Err, is_err, true, false}
use Rattle.alma_io.specs.Buffer.{GainsAllBut, Buffers}
use Rattle.alma_io.specs.Outside.{Gains, FailsWithin}
use Rattle.alma_io.specs.Sides.{SinkSide}
use Rattle.alma_io.proofs.Known.{appends_none, appends_trans}
use Rattle.alma_io.proofs.PartLemmas.{fails_after}

-- all that waits is held
pub all_held : (a : SinkSide) (bytes : List ℕ) → GainsAllBut a a bytes bytes
all_held a bytes = record { front = []; parts = refl; gains = record { bytes_are = appends_none a.written; quiet = refl } }

-- what is gained holds nothing
pub none_held : (a b : SinkSide) (bytes : List ℕ) → Gains a b bytes → GainsAllBut a b bytes []
none_held a b bytes h = record { front = bytes; parts = sym (append-nil bytes); gains = h }

-- what is out, then more
pub gains_then : (a b c : SinkSide) (bytes more : List ℕ) → Gains a b bytes → Gains b c more → Gains a c (bytes ++ more)
gains_then a b c bytes more h k = record {
  bytes_are = appends_trans a.written b.written c.written bytes more h.bytes_are k.bytes_are;
  quiet = k.quiet ∙ h.quiet;
}

-- what is out, then a failure within more
pub fails_then : (a b c : SinkSide) (bytes more : List ℕ) → Gains a b bytes → FailsWithin b c more → FailsWithin a c (bytes ++ more)
fails_then a b c bytes more h k =
    fails_after bytes more [] (bytes ++ more) a b c (ap (λ z. bytes ++ z) (sym (append-nil more))) h.bytes_are h.quiet k

-- what waited goes out before what comes behind it
parts_then : (bytes front held more : List ℕ) → bytes ≡ front ++ held → bytes ++ more ≡ front ++ (held ++ more)
parts_then bytes front held more e = ap (λ z. z ++ more) e ∙ append_assoc front held more

-- bytes that went through a buffer, and then more
pub buffers_then : {T E : Type 0} (r : Result T E) (a b c : SinkSide) (bytes held more left : List ℕ) → GainsAllBut a b bytes held
    → Buffers b c (held ++ more) left r → Buffers a c (bytes ++ more) left r
buffers_then (Ok v) a b c bytes held more left h k = record {
  front = h.front ++ k.front;
  parts = parts_then bytes h.front held more h.parts ∙ ap (λ z. h.front ++ z) k.parts ∙ sym (append_assoc h.front k.front left);
  gains = gains_then a b c h.front k.front h.gains k.gains;
}
buffers_then (Err e) a b c bytes held more left h k =
    fails_after h.front (held ++ more) [] (bytes ++ more) a b c
    (parts_then bytes h.front held more h.parts ∙ ap (λ z. h.front ++ z) (sym (append-nil (held ++ more)))) h.gains.bytes_are
    h.gains.quiet k

-- what waited has gone out
pub gains_last : (a b c : SinkSide) (bytes held : List ℕ) → GainsAllBut a b bytes held → Gains b c held → Gains a c bytes
gains_last a b c bytes held h k = subst (λ z. Gains a c z) (sym h.parts) (gains_then a b c h.front held h.gains k)

-- a failure within what waited is one within all
pub fails_last : (a b c : SinkSide) (bytes held : List ℕ) → GainsAllBut a b bytes held → FailsWithin b c held → FailsWithin a c bytes
fails_last a b c bytes held h k =
    fails_after h.front held [] bytes a b c (h.parts ∙ ap (λ z. h.front ++ z) (sym (append-nil held))) h.gains.bytes_are h.gains.quiet k

-- no error: all but what is held is out
pub gained_of : {T E : Type 0} (r : Result T E) (a b : SinkSide) (bytes held : List ℕ) → is_err r ≡ false
    → Buffers a b bytes held r → GainsAllBut a b bytes held
gained_of (Ok v) a b bytes held e x = x
gained_of (Err fault) a b bytes held e x = absurd (cc)

-- an error: the sink failed within the bytes
pub failed_of : {T E : Type 0} (r : Result T E) (a b : SinkSide) (bytes held : List ℕ) → is_err r ≡ true
    → Buffers a b bytes held r → FailsWithin a b bytes
failed_of (Ok v) a b bytes held e x = absurd (cc)
failed_of (Err fault) a b bytes held e x = x
