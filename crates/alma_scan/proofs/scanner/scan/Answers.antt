use Rattle.std.proofs.Common.{arith, ℕ, [], subst, ◌∙◌}
use Rattle.std.proofs.lemmas.List.{length-map}
use Rattle.alma_scan.specs.Tokens.{HasToken}
use Rattle.alma_scan.specs.Faults.{HasFault}
use Rattle.alma_scan.specs.Scanned.{lexeme, lexemes}
use Rattle.alma_scan.proofs.Lists.{token_shorter, found_all, found_fault, found_push}
use Rattle.alma_scan.proofs.Slices.{slices, count_of}
use Rattle.alma_scan.proofs.scanner.scan.Goals as goal

pub loop-token-smaller : goal.loop-token-smaller
loop-token-smaller c = token_shorter _ _ _ _ (rw c.in-Ok-Some.field-0-is at c.in-Ok-Some.ensures.token)

pub loop-token-preserved : goal.loop-token-preserved
loop-token-preserved c =
    let at_size = rw c.in-Ok-Some.field-0-is at c.in-Ok-Some.ensures.token in
    let whole = subst (λ (n : ℕ). HasToken n c.loop-token.scanner.bytes (lexeme c.in-Ok-Some.token) c.next.new.self.bytes)
    c.loop-token.invariant.size at_size in
    record {
      size = c.in-Ok-Some.ensures.size ∙ c.loop-token.invariant.size;
      found = found_push _ _ _ _ _ _ _ c.in_ok-push-in-Ok-Some.ensures.items c.loop-token.invariant.found whole;
    }

pub returns-in-Ok-None-clause-tokens : goal.returns-in-Ok-None-clause-tokens
returns-in-Ok-None-clause-tokens c =
    let end = rw c.in-Ok-None.field-0-is at c.in-Ok-None.ensures.end in
    found_all _ _ _ _ _ c.loop-token.invariant.found end

pub returns-in-Err-clause-fault : goal.returns-in-Err-clause-fault
returns-in-Err-clause-fault c =
    let fault = subst (λ (n : ℕ). HasFault n c.loop-token.scanner.bytes [] c.in-Err.stop.fault c.in-Err.stop.at) c.loop-token.invariant.size
    c.in-Err.ensures.fault in
    (lexemes c.loop-token.tokens.items, found_fault _ _ _ _ _ _ c.loop-token.invariant.found fault)

pub returns-in-Ok-None-clause-slices : goal.returns-in-Ok-None-clause-slices
returns-in-Ok-None-clause-slices c =
    let end = rw c.in-Ok-None.field-0-is at c.in-Ok-None.ensures.end in
    slices _ _ (found_all _ _ _ _ _ c.loop-token.invariant.found end)

pub returns-in-Ok-None-clause-count : goal.returns-in-Ok-None-clause-count
returns-in-Ok-None-clause-count c =
    let end = rw c.in-Ok-None.field-0-is at c.in-Ok-None.ensures.end in
    let count = count_of _ _ _ _ (found_all _ _ _ _ _ c.loop-token.invariant.found end) in
    let mapped = length-map c.loop-token.tokens.items lexeme in
    let kept = c.loop-token.tokens.ok in
    omega (arith, count, mapped, kept)
