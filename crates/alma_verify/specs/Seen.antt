-- The calls that were found to fit.
use Rattle.std.specs.Prelude.{◌≡◌, ◌<◌, ◌+◌, ℕ, Bool, true, ◌&&◌, nat_eq, length}
use Rattle.std.specs.List.{All}
use Rattle.alma_code.specs.Plain.{PlainCode, head_at}
use Rattle.alma_code.specs.Rules.{fit_arguments, kind_in}
use Rattle.alma_verify.specs.declared.seen.SeenCall.{SeenCall}
use Rattle.alma_verify.specs.declared.seen.SeenCalls.{SeenCalls}

-- the caller is there, and its slots fit the parameters of the callee in this code
pub record Fits (code : PlainCode) (call : SeenCall) : Type 0 where
  pub caller : call.caller < length code.routines
  pub arguments : fit_arguments code call.caller (head_at code call.callee).params call.first ≡ true

-- so does a call that was seen; callee 0 stands for no call
abbrev pub IsFit : PlainCode → SeenCall → Type 0
IsFit code call = 0 < call.callee → Fits code call

-- so do all calls of both tables
pub record AreFit (code : PlainCode) (seen : SeenCalls) : Type 0 where
  pub calls : All (IsFit code) seen.calls
  pub latest : All (IsFit code) seen.latest

-- the n slots of routine r from i on have the kinds of those of routine q from j on
pub record AreAlike (code : PlainCode) (r i q j n : ℕ) : Type 0 where
  pub same : (k : ℕ) → k < n → kind_in code r (i + k) ≡ kind_in code q (j + k)

-- the call from this routine of this one with its arguments from this slot on
abbrev pub is_same : SeenCall → (caller callee first : ℕ) → Bool
is_same call caller callee first = nat_eq call.caller caller && (nat_eq call.callee callee && nat_eq call.first first)
