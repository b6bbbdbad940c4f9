-- A source comes to a verdict, and to one.
use Rattle.std.proofs.Common.{◌≡◌, ◌≤◌, ◌<◌, ◌^◌, ◌∙◌, ◌⊎◌, inl, inr, ℕ, List, [], ◌∷◌, length, true, refl, ap, sym, subst, arith}
use Rattle.std.proofs.lemmas.List.{length-map}
use Rattle.alma_base.specs.Limits.{source_limit}
use Rattle.alma_base.specs.declared.fault.LexFault.{LexFault}
use Rattle.alma_base.specs.declared.fault.SyntaxFault.TheVariants.{Unexpected, TooDeep}
use Rattle.alma_tree.specs.Spelling.{spelling}
use Rattle.alma_tree.specs.Numbers.{IsNumbered}
use Rattle.alma_tree.specs.declared.module.Module.{Module}
use Rattle.alma_grammar.specs.Parts.{whole}
use Rattle.alma_grammar.specs.Reading.{reading, End, done, unexpected, too_deep}
use Rattle.alma_grammar.specs.Laws.{IsExact}
use Rattle.alma_grammar.proofs.Only.{exact_ends}
use Rattle.alma_scan.specs.Tokens.{Lexeme, Tokens}
use Rattle.alma_scan.specs.Faults.{FaultAt}
use Rattle.alma_scan.proofs.Always.{always}
use Rattle.alma_scan.proofs.Slices.{count_of}
use Rattle.alma_rules.specs.Judgement.{BrokenRule, lesser, least}
use Rattle.alma_rules.specs.View.{view_module}
use Rattle.alma_rules.specs.Modules.{broken_rules, first_token_of}
use Rattle.alma_resolved.proofs.ModuleSound.{program_resolved}
use Rattle.alma_resolved.proofs.Standing.{numbered_stands}
use Rattle.alma_resolved.specs.Whole.{kinds_in}
use Rattle.alma_source.specs.declared.fault.SourceFault.TheVariants.{Lex, Syntax, Check}
use Rattle.alma_source.specs.Refusal.{offset_of, place_of, IsParsed}
use Rattle.alma_source.specs.Verdict.{Verdict, Accepted, Rejected, IsVerdict}
use Rattle.alma_source.proofs.RefusalLemmas.{one_program, one_refusal, refused_no_program}
use Rattle.alma_source.proofs.ModuleValues.{numbered_module}

pub one_verdict : (source : List ℕ) (one other : Verdict) → IsVerdict source one → IsVerdict source other → one ≡ other
one_verdict source (Accepted p) (Accepted q) a b = ap Accepted (one_program source p q a b)
one_verdict source (Accepted p) (Rejected fault place) a b = absurd (refused_no_program source fault b.0 p b.1 a)
one_verdict source (Rejected fault place) (Accepted p) a b = absurd (refused_no_program source fault a.0 p a.1 b)
one_verdict source (Rejected fault place) (Rejected other at) a b =
    let same = one_refusal source fault other a.0 b.0 a.1 b.1 in
    let there : place ≡ at = a.2 ∙ ap (place_of source) same.1 ∙ sym b.2 in
    λ i. Rejected (same.0 i) (there i)

-- ---- each source comes to one

-- where no rule is broken, to its program, and else to the least of the broken rules
judged : (source : List ℕ) (tokens : List Lexeme) (tree : Module) (faults : List BrokenRule) → IsParsed source tokens tree
    → broken_rules source tokens (view_module tree) ≡ faults → (verdict : Verdict) × IsVerdict source verdict
judged source tokens tree [] parsed none =
    let stands = numbered_stands tree (length tokens) parsed.whole.numbered in
    let p = program_resolved source tokens (view_module tree) stands none in (
      Accepted p.0,
      record { tokens = tokens; tree = tree; parsed = parsed; unbroken = none; program = p.1 },
    )
judged source tokens tree (first ∷ faults) parsed some =
    let worst = lesser first (least faults) in
    let offset = offset_of (length source) tokens (first_token_of (view_module tree) worst.node) in (
      Rejected (Check worst.fault) (place_of source offset),
      (
        offset,
        record { tokens = tokens; tree = tree; node = worst.node; parsed = parsed; least = ap least some; place = refl },
        refl,
      ),
    )

-- by how reading its tokens ends: at the end with a tree, or in front of a token that is refused
read_so : (source : List ℕ) (tokens : List Lexeme) (end : End) → Tokens source tokens → length tokens < 2 ^ 63
    → IsExact (kinds_in tokens) end → (verdict : Verdict) × IsVerdict source verdict
read_so source tokens done scanned few h =
    let size : length (spelling h.0.0) ≡ length tokens = ap length h.0.1 ∙ length-map tokens (λ (token : Lexeme). token.kind) in
    let m = numbered_module h.0.0 (subst (λ n. n < 2 ^ 63) (sym size) few) in
    let parsed : IsParsed source tokens m.value = record {
      whole = record {
        scanned = scanned;
        spelled = sym h.0.1 ∙ ap spelling (sym m.seen);
        numbered = subst (IsNumbered m.value) size m.numbered;
      };
      shallow = h.1;
    } in
    judged source tokens m.value (broken_rules source tokens (view_module m.value)) parsed refl
read_so source tokens (unexpected rest) scanned few h =
    let offset = offset_of (length source) tokens (length h.0) in (
      Rejected (Syntax Unexpected) (place_of source offset),
      (
        offset,
        record {
          tokens = tokens;
          index = length h.0;
          scanned = scanned;
          refused = (h.0, rest, h.1, refl, h.2.stops, h.2.begins, h.2.bounded);
          place = refl;
        },
        refl,
      ),
    )
read_so source tokens (too_deep rest) scanned few h =
    let offset = offset_of (length source) tokens (length h.0) in (
      Rejected (Syntax TooDeep) (place_of source offset),
      (
        offset,
        record {
          tokens = tokens;
          index = length h.0;
          scanned = scanned;
          refused = (h.0, rest, h.1, refl, h.2.bounded, h.2.deep, h.2.begins);
          place = refl;
        },
        refl,
      ),
    )

-- by what the scanner finds: its tokens, or its fault
scanned_so : (source : List ℕ) → length source ≤ source_limit
    → ((tokens : List Lexeme) × Tokens source tokens) ⊎ ((fault : LexFault) × (at : ℕ) × FaultAt source fault at)
    → (verdict : Verdict) × IsVerdict source verdict
scanned_so source short (inl h) =
    let count = count_of (length source) source h.0 [] h.1 in
    let few : length h.0 < 2 ^ 63 = omega (arith, short, count) in
    read_so source h.0 (reading true (kinds_in h.0) 0 whole) h.1 few (exact_ends.ends_so (kinds_in h.0))
scanned_so source short (inr h) = (Rejected (Lex h.0) (place_of source h.1), (h.1, h.2, refl))

pub some_verdict : (source : List ℕ) → length source ≤ source_limit → (verdict : Verdict) × IsVerdict source verdict
some_verdict source short = scanned_so source short (always source)
