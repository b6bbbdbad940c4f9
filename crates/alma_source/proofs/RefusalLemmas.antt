-- Refusals of a source: where they are, that there is one, and that a program has none.
use Rattle.std.proofs.Common.{◌≡◌, ◌≤◌, ◌<◌, ◌+◌, ◌-◌, ◌∙◌, ℕ, zero, suc, List, [], ◌∷◌, ◌++◌, length, take, get_or, refl, sym, ap, subst}
use Rattle.std.proofs.Common.{append_assoc, append-nil, arith, All, Option, None, Some}
use Rattle.std.specs.Prelude.{unwrap_or}
use Rattle.std.proofs.lemmas.List.{length-map}
use Rattle.std.proofs.lemmas.Simd.{map-map}
use Rattle.alma_base.specs.declared.fault.CheckFault.{CheckFault}
use Rattle.alma_base.specs.declared.fault.SyntaxFault.{SyntaxFault}
use Rattle.alma_base.specs.declared.fault.SyntaxFault.TheVariants.{Unexpected, TooDeep}
use Rattle.alma_tree.specs.declared.kind.Kind.{Kind}
use Rattle.alma_tree.specs.Tree.{Module}
use Rattle.alma_tree.specs.Spelling.{spelling}
use Rattle.alma_tree.specs.Numbers.{IsNumbered}
use Rattle.alma_tree.specs.View.{view_module as plain_module}
use Rattle.alma_tree.specs.declared.module.Module.{Module as Tree}
use Rattle.alma_ir.specs.Tree.{Program}
use Rattle.alma_rules.specs.Judgement.{BrokenRule, least}
use Rattle.alma_rules.specs.View.{view_module}
use Rattle.alma_rules.specs.Modules.{resolution, check_fault, first_token_of}
use Rattle.alma_resolved.proofs.One.{one_tree_of_a_spelling}
use Rattle.alma_tree.specs.Depth.{opens, closes, one_where, depth_from, depth}
use Rattle.alma_grammar.specs.Laws.{Stops, Begins, IsProgram}
use Rattle.alma_scan.specs.declared.scanner.Token.{Token}
use Rattle.alma_scan.specs.Scanned.{lexeme, lexemes}
use Rattle.alma_scan.specs.Tokens.{Lexeme, Tokens, IsSlice}
use Rattle.alma_scan.proofs.Once.{tokens_once, faults_once, never_both}
use Rattle.alma_scan.proofs.Slices.{slices}
use Rattle.alma_parse.specs.declared.error.ParseError.TheVariants as parse_error
use Rattle.alma_parse_cursor.specs.Parsing.{kinds_of}
use Rattle.alma_parse.specs.Refusals.{Refuses}
use Rattle.alma_resolved.specs.Whole.{kinds_in}
use Rattle.alma_source.specs.declared.fault.SourceFault.{SourceFault}
use Rattle.alma_source.specs.declared.fault.SourceFault.TheVariants.{Lex, Syntax, Check}
use Rattle.alma_source.specs.Refusal.{offset_of, IsParsed, IsProgramOf, SyntaxFaultAt, CheckFaultAt, IsRefused, IsOnlyFault, IsOfGrammar}

-- ---- offsets of tokens

-- the offset of a token that is there
pub offset_at : (size : ℕ) (tokens : List Token) (index : ℕ) (d : Token) → index < length tokens
    → offset_of size (lexemes tokens) index ≡ (get_or tokens index d).start
offset_at size [] index d lt = absurd (omega (arith, lt))
offset_at size (token ∷ tokens) zero d lt = refl
offset_at size (token ∷ tokens) (suc index) d lt = offset_at size tokens index d (omega (arith, lt))

-- behind the tokens the offset is that of the end
pub offset_behind : (size : ℕ) (tokens : List Token) (index : ℕ) → length tokens ≤ index → offset_of size (lexemes tokens) index ≡ size
offset_behind size [] index le = refl
offset_behind size (token ∷ tokens) zero le = absurd (omega (arith, le))
offset_behind size (token ∷ tokens) (suc index) le = offset_behind size tokens index (omega (arith, le))

-- an offset is within the source
offset_within : (source : List ℕ) (tokens : List Lexeme) (index : ℕ) → All (IsSlice source) tokens
    → offset_of (length source) tokens index ≤ length source
offset_within source [] index h = omega arith
offset_within source (token ∷ tokens) zero h = let here = h zero token (omega arith) in omega (arith, here.within)
offset_within source (token ∷ tokens) (suc index) h = offset_within source tokens index (λ k d lt. h (suc k) d (omega (arith, lt)))

-- the kinds of tokens, by the tokens as the scanner gives them
pub kinds_are : (tokens : List Token) → kinds_in (lexemes tokens) ≡ kinds_of tokens
kinds_are tokens = map-map (λ (token : Lexeme). token.kind) lexeme tokens

-- what is parsed is a tree of the source
pub parsed_of : (source : List ℕ) (tokens : List Token) (tree : Tree) → Tokens source (lexemes tokens)
    → kinds_of tokens ≡ spelling (plain_module tree)
    → IsNumbered tree (length tokens) → depth (kinds_of tokens) ≤ 100 → IsParsed source (lexemes tokens) tree
parsed_of source tokens tree scanned spelled numbered shallow = record {
  whole = record {
    scanned = scanned;
    spelled = kinds_are tokens ∙ spelled;
    numbered = subst (IsNumbered tree) (sym (length-map tokens lexeme)) numbered;
  };
  shallow = subst (λ (ks : List Kind). depth ks ≤ 100) (sym (kinds_are tokens)) shallow;
}

-- what the check refuses is refused at the offset of the token
pub refused_by_check : (source : List ℕ) (tokens : List Lexeme) (tree : Tree) (fault : CheckFault) (node token offset : ℕ)
    → IsParsed source tokens tree
    → check_fault source tokens (view_module tree) ≡ Some (record { node = node; fault = fault })
    → first_token_of (view_module tree) node ≡ token
    → offset ≡ offset_of (length source) tokens token → IsRefused source (Check fault) offset
refused_by_check source tokens tree fault node token offset parsed least at place = record {
  tokens = tokens;
  tree = tree;
  node = node;
  parsed = parsed;
  least = least;
  place = place ∙ ap (offset_of (length source) tokens) (sym at);
}

-- what the parser refuses is refused at the offset of the token
pub refused_at : (source : List ℕ) (tokens : List Token) (fault : SyntaxFault) (index offset : ℕ) → Tokens source (lexemes tokens)
    → Refuses (parse_error.Syntax fault index) (kinds_of tokens) → offset ≡ offset_of (length source) (lexemes tokens) index
    → IsRefused source (Syntax fault) offset
refused_at source tokens fault index offset scanned refused place = record {
  tokens = lexemes tokens;
  index = index;
  scanned = scanned;
  refused = subst (Refuses (parse_error.Syntax fault index)) (sym (kinds_are tokens)) refused;
  place = place;
}

-- the place of a refusal is within the source
pub refused_within : (source : List ℕ) (fault : SourceFault) (offset : ℕ) → IsRefused source fault offset → offset ≤ length source
refused_within source (Lex fault) offset h = omega (arith, h.1.place)
refused_within source (Syntax fault) offset h =
    let within = offset_within source h.tokens h.index (slices source h.tokens h.scanned) in omega (arith, h.place, within)
refused_within source (Check fault) offset h =
    let within = offset_within source h.tokens (first_token_of (view_module h.tree) h.node)
    (slices source h.tokens h.parsed.whole.scanned) in omega (arith, h.place, within)

-- ---- two fronts of one list

-- the longer of two fronts goes on with the token behind the shorter
longer_front : (a b x y : List Kind) → a ++ x ≡ b ++ y → length a < length b
    → (k : Kind) × (mid : List Kind) × (b ≡ a ++ (k ∷ mid)) × (x ≡ k ∷ (mid ++ y))
longer_front [] [] x y e lt = absurd (omega (arith, lt))
longer_front [] (l ∷ b) x y e lt = (l, b, refl, e)
longer_front (k ∷ a) [] x y e lt = absurd (omega (arith, lt))
longer_front (k ∷ a) (l ∷ b) x y e lt =
    let head : k ≡ l = cc e in
    let tail : a ++ x ≡ b ++ y = cc e in
    let r = longer_front a b x y tail (omega (arith, lt)) in
    (r.0, r.1, ap (λ z. l ∷ z) r.2 ∙ ap (λ z. z ∷ (a ++ (r.0 ∷ r.1))) (sym head), r.3)

-- fronts of one length are one
same_front : (a b x y : List Kind) → a ++ x ≡ b ++ y → length a ≡ length b → (a ≡ b) × (x ≡ y)
same_front [] [] x y e l = (refl, e)
same_front [] (k ∷ b) x y e l = absurd (omega (arith, l))
same_front (k ∷ a) [] x y e l = absurd (omega (arith, l))
same_front (k ∷ a) (l ∷ b) x y e s =
    let head : k ≡ l = cc e in
    let tail : a ++ x ≡ b ++ y = cc e in
    let r = same_front a b x y tail (omega (arith, s)) in
    (ap (λ z. k ∷ z) r.0 ∙ ap (λ z. z ∷ b) head, r.1)

-- a list is at least as deep as the depth before it
at_least : (o c : ℕ) (ks : List Kind) → o - c ≤ depth_from o c ks
at_least o c [] = omega arith
at_least o c (k ∷ ks) = omega arith

front_from : (o c : ℕ) (front rest : List Kind) → depth_from o c front ≤ depth_from o c (front ++ rest)
front_from o c [] rest = at_least o c rest
front_from o c (k ∷ front) rest =
    let x = front_from (o + one_where (opens k)) (c + one_where (closes k)) front rest in omega arith

-- a front is no deeper than the list
front_depth : (front rest : List Kind) → depth front ≤ depth (front ++ rest)
front_depth front rest = front_from 0 0 front rest

-- what begins a tree does so in each front
begins_front : (front rest : List Kind) → Begins (front ++ rest) → Begins front
begins_front front rest b = (b.0, rest ++ b.1, b.2 ∙ append_assoc front rest b.1)

-- ---- one refusal

-- what both faults of the parser say of the tokens before: a tree begins with them, and they are not too deep; with the next this is not so
record Cut (ks : List Kind) (k : ℕ) : Type 0 where
  front : List Kind
  rest : List Kind
  whole : ks ≡ front ++ rest
  size : length front ≡ k
  begins : Begins front
  shallow : depth front ≤ 100
  last : (next : Kind) (mid more : List Kind) → rest ≡ next ∷ more → Begins (front ++ (next ∷ mid)) → depth (front ++ (next ∷ mid)) ≤ 100
      → ⊥

no_longer : (front rest : List Kind) → Stops front rest → (next : Kind) (mid more : List Kind) → rest ≡ next ∷ more
    → Begins (front ++ (next ∷ mid)) → ⊥
no_longer front rest h next mid more e b =
    let stops : Stops front (next ∷ more) = subst (Stops front) e h in
    stops b.0 (mid ++ b.1) (b.2 ∙ append_assoc front (next ∷ mid) b.1)

-- a list behind a front, by its first token
first_apart : (front mid : List Kind) (next : Kind) → (front ++ (next ∷ [])) ++ mid ≡ front ++ (next ∷ mid)
first_apart front mid next = append_assoc front (next ∷ []) mid

too_deep_on : (front rest : List Kind) → 100 < depth (front ++ take 1 rest) → (next : Kind) (mid more : List Kind) → rest ≡ next ∷ more
    → depth (front ++ (next ∷ mid)) ≤ 100 → ⊥
too_deep_on front rest h next mid more e d =
    let deep : 100 < depth (front ++ (next ∷ [])) = subst (λ (r : List Kind). 100 < depth (front ++ take 1 r)) e h in
    let x = front_depth (front ++ (next ∷ [])) mid in
    let y : depth ((front ++ (next ∷ [])) ++ mid) ≡ depth (front ++ (next ∷ mid)) = ap depth (first_apart front mid next) in
    omega (arith, deep, x, y, d)

cut_of : (fault : SyntaxFault) (k : ℕ) (ks : List Kind) → Refuses (parse_error.Syntax fault k) ks → Cut ks k
cut_of Unexpected k ks r = record {
  front = r.0;
  rest = r.1;
  whole = r.2;
  size = r.3;
  begins = r.5;
  shallow = r.6;
  last = λ next mid more e b d. no_longer r.0 r.1 r.4 next mid more e b;
}
cut_of TooDeep k ks r = record {
  front = r.0;
  rest = r.1;
  whole = r.2;
  size = r.3;
  begins = begins_front r.0 (take 1 r.1) r.6;
  shallow = r.4;
  last = λ next mid more e b d. too_deep_on r.0 r.1 r.5 next mid more e d;
}

-- no cut is before another
not_before : (ks : List Kind) (j k : ℕ) → Cut ks j → Cut ks k → j < k → ⊥
not_before ks j k a b lt =
    let l = longer_front a.front b.front a.rest b.rest (sym a.whole ∙ b.whole) (omega (arith, lt, a.size, b.size)) in
    a.last l.0 l.1 (l.1 ++ b.rest) l.3 (subst Begins l.2 b.begins) (subst (λ (f : List Kind). depth f ≤ 100) l.2 b.shallow)

-- tokens that stop a tree are not the next of one that begins so, nor is the end too deep
not_both_at : (front rest : List Kind) → Stops front rest → depth front ≤ 100 → 100 < depth (front ++ take 1 rest)
    → Begins (front ++ take 1 rest) → ⊥
not_both_at front [] h d deep b =
    let x : depth (front ++ []) ≡ depth front = ap depth (append-nil front) in omega (arith, d, deep, x)
not_both_at front (next ∷ rest) h d deep b = no_longer front (next ∷ rest) h next [] rest refl b

not_both : (ks : List Kind) (k : ℕ) → Refuses (parse_error.Syntax Unexpected k) ks → Refuses (parse_error.Syntax TooDeep k) ks → ⊥
not_both ks k r q =
    let s = same_front q.0 r.0 q.1 r.1 (sym q.2 ∙ r.2) (q.3 ∙ sym r.3) in
    let stops : Stops q.0 q.1 = subst (λ (f : List Kind). Stops f q.1) (sym s.0) (subst (λ (t : List Kind). Stops r.0 t) (sym s.1) r.4) in
    not_both_at q.0 q.1 stops q.4 q.5 q.6

one_fault : (ks : List Kind) (k : ℕ) (fault other : SyntaxFault) → Refuses (parse_error.Syntax fault k) ks
    → Refuses (parse_error.Syntax other k) ks → fault ≡ other
one_fault ks k Unexpected Unexpected r q = refl
one_fault ks k Unexpected TooDeep r q = absurd (not_both ks k r q)
one_fault ks k TooDeep Unexpected r q = absurd (not_both ks k q r)
one_fault ks k TooDeep TooDeep r q = refl

one_index : (ks : List Kind) (j k : ℕ) → Cut ks j → Cut ks k → j ≡ k
one_index ks j k a b = omega (arith, not_before ks j k a b, not_before ks k j b a)

one_syntax_fault : (source : List ℕ) (fault other : SyntaxFault) (at place : ℕ) → SyntaxFaultAt source fault at
    → SyntaxFaultAt source other place
    → (fault ≡ other) × (at ≡ place)
one_syntax_fault source fault other at place h i =
    let same : i.tokens ≡ h.tokens = tokens_once (length source) source i.tokens h.tokens i.scanned h.scanned in
    let there : Refuses (parse_error.Syntax other i.index) (kinds_in h.tokens)
    = subst (λ (ts : List Lexeme). Refuses (parse_error.Syntax other i.index) (kinds_in ts)) same i.refused in
    let index : i.index ≡ h.index = one_index (kinds_in h.tokens) i.index h.index
    (cut_of other i.index (kinds_in h.tokens) there) (cut_of fault h.index (kinds_in h.tokens) h.refused) in
    let here : Refuses (parse_error.Syntax other h.index) (kinds_in h.tokens)
    = subst (λ k. Refuses (parse_error.Syntax other k) (kinds_in h.tokens)) index there in (
      one_fault (kinds_in h.tokens) h.index fault other h.refused here,
      h.place ∙ ap (λ k. offset_of (length source) h.tokens k) (sym index)
          ∙ ap (λ (ts : List Lexeme). offset_of (length source) ts i.index) (sym same)
          ∙ sym i.place,
    )

-- ---- what the parser refuses spells no tree

not_stopped : (t : Module) (front rest : List Kind) → spelling t ≡ front ++ rest → Stops front rest → ⊥
not_stopped t front [] s h = h t (s ∙ append-nil front)
not_stopped t front (k ∷ rest) s h = h t rest s

no_deep_front : (front rest : List Kind) → depth (front ++ rest) ≤ 100 → 100 < depth (front ++ take 1 rest) → ⊥
no_deep_front front [] d deep = omega (arith, d, deep)
no_deep_front front (next ∷ rest) d deep = too_deep_on front (next ∷ rest) deep next rest rest refl d

program_refused : (fault : SyntaxFault) (k : ℕ) (ks : List Kind) → Refuses (parse_error.Syntax fault k) ks → IsProgram ks → ⊥
program_refused Unexpected k ks r p = not_stopped p.0.0 r.0 r.1 (p.0.1 ∙ r.2) r.4
program_refused TooDeep k ks r p = no_deep_front r.0 r.1 (subst (λ (l : List Kind). depth l ≤ 100) r.2 p.1) r.5

-- ---- one tree

-- a source has one tree, by its plain spelling and its numbers
record SameTree (source : List ℕ) (s t : List Lexeme) (m n : Tree) : Type 0 where
  tokens : s ≡ t
  trees : view_module m ≡ view_module n

same_tree : (source : List ℕ) (s t : List Lexeme) (m n : Tree) → IsParsed source s m → IsParsed source t n → SameTree source s t m n
same_tree source s t m n a b =
    let same : s ≡ t = tokens_once (length source) source s t a.whole.scanned b.whole.scanned in
    record {
      tokens = same;
      trees = one_tree_of_a_spelling m n (length s) (sym a.whole.spelled ∙ ap kinds_in same ∙ b.whole.spelled) a.whole.numbered
          (subst (λ (ts : List Lexeme). IsNumbered n (length ts)) (sym same) b.whole.numbered);
    }

one_check_fault : (source : List ℕ) (fault other : CheckFault) (at place : ℕ) → CheckFaultAt source fault at
    → CheckFaultAt source other place
    → (fault ≡ other) × (at ≡ place)
one_check_fault source fault other at place h i =
    let same = same_tree source h.tokens i.tokens h.tree i.tree h.parsed i.parsed in
    let there : check_fault source h.tokens (view_module h.tree) ≡ Some (record { node = i.node; fault = other }) =
    ap (λ (ts : List Lexeme). check_fault source ts (view_module h.tree)) same.tokens ∙ ap (check_fault source i.tokens) same.trees
    ∙ i.least in
    let both : Some (record { node = h.node; fault = fault }) ≡ Some (record { node = i.node; fault = other }) = sym h.least ∙ there in
    let node : h.node ≡ i.node = ap node_in both in (
      ap fault_in both,
      h.place ∙ ap (λ (ts : List Lexeme). offset_of (length source) ts (first_token_of (view_module h.tree) h.node)) same.tokens
          ∙ ap (λ m. offset_of (length source) i.tokens (first_token_of m h.node)) same.trees
          ∙ ap (λ k. offset_of (length source) i.tokens (first_token_of (view_module i.tree) k)) node ∙ sym i.place,
    )
  where
    node_in : Option BrokenRule → ℕ
    node_in None = 0
    node_in (Some b) = b.node

    fault_in : Option BrokenRule → CheckFault
    fault_in None = fault
    fault_in (Some b) = b.fault

-- a source is one program
pub one_program : (source : List ℕ) (p q : Program) → IsProgramOf source p → IsProgramOf source q → p ≡ q
one_program source p q h i =
    let same = same_tree source h.tokens i.tokens h.tree i.tree h.parsed i.parsed in
    let both : Some p ≡ Some q =
    sym h.program ∙ ap (λ (ts : List Lexeme). resolution source ts (view_module h.tree)) same.tokens
    ∙ ap (resolution source i.tokens) same.trees ∙ i.program in
    ap (λ (o : Option Program). unwrap_or o p) both

-- what the parser refuses has no tree
tree_refused : (source : List ℕ) (fault : SyntaxFault) (at : ℕ) (tokens : List Lexeme) (tree : Tree) → SyntaxFaultAt source fault at
    → IsParsed source tokens tree → ⊥
tree_refused source fault at tokens tree h p =
    let same : tokens ≡ h.tokens = tokens_once (length source) source tokens h.tokens p.whole.scanned h.scanned in
    program_refused fault h.index (kinds_in h.tokens) h.refused
    (subst (λ (ts : List Lexeme). IsProgram (kinds_in ts)) same ((plain_module tree, sym p.whole.spelled), p.shallow))

-- a source is refused for one fault, at one place
pub one_refusal : (source : List ℕ) (fault other : SourceFault) (at place : ℕ) → IsRefused source fault at → IsRefused source other place
    → (fault ≡ other) × (at ≡ place)
one_refusal source (Lex fault) (Lex other) at place h i =
    let r = faults_once (length source) source h.0 i.0 fault other at place h.1 i.1 in (ap Lex r.0, r.1)
one_refusal source (Lex fault) (Check other) at place h i =
    absurd (never_both (length source) source i.tokens h.0 fault at i.parsed.whole.scanned h.1)
one_refusal source (Check fault) (Lex other) at place h i =
    absurd (never_both (length source) source h.tokens i.0 other place h.parsed.whole.scanned i.1)
one_refusal source (Syntax fault) (Check other) at place h i = absurd (tree_refused source fault at i.tokens i.tree h i.parsed)
one_refusal source (Check fault) (Syntax other) at place h i = absurd (tree_refused source other place h.tokens h.tree i h.parsed)
one_refusal source (Check fault) (Check other) at place h i =
    let r = one_check_fault source fault other at place h i in (ap Check r.0, r.1)
one_refusal source (Lex fault) (Syntax other) at place h i = absurd (never_both (length source) source i.tokens h.0 fault at i.scanned h.1)
one_refusal source (Syntax fault) (Lex other) at place h i =
    absurd (never_both (length source) source h.tokens i.0 other place h.scanned i.1)
one_refusal source (Syntax fault) (Syntax other) at place h i =
    let r = one_syntax_fault source fault other at place h i in (ap Syntax r.0, r.1)

-- and for no other
pub only_fault : (source : List ℕ) (fault : SourceFault) (offset : ℕ) → IsRefused source fault offset → IsOnlyFault source fault offset
only_fault source fault offset refused = record {
  refused = refused;
  only = λ other place is. one_refusal source fault other offset place refused is;
}

-- ---- a program is not refused

-- where no rule is broken there is no check fault
unbroken_refused : (source : List ℕ) (fault : CheckFault) (at : ℕ) (p : Program) → CheckFaultAt source fault at → IsProgramOf source p → ⊥
unbroken_refused source fault at p h i =
    let same = same_tree source h.tokens i.tokens h.tree i.tree h.parsed i.parsed in
    let none : check_fault source i.tokens (view_module i.tree) ≡ None = ap least i.unbroken in
    let there : check_fault source i.tokens (view_module i.tree) ≡ Some (record { node = h.node; fault = fault }) =
    sym (ap (λ (ts : List Lexeme). check_fault source ts (view_module h.tree)) same.tokens ∙ ap (check_fault source i.tokens) same.trees)
    ∙ h.least in
    cc (none, there)

-- what is refused is no program
pub refused_no_program : (source : List ℕ) (fault : SourceFault) (offset : ℕ) (p : Program) → IsRefused source fault offset
    → IsProgramOf source p → ⊥
refused_no_program source (Lex fault) offset p h i = never_both (length source) source i.tokens h.0 fault offset i.parsed.whole.scanned h.1
refused_no_program source (Syntax fault) offset p h i = tree_refused source fault offset i.tokens i.tree h i.parsed
refused_no_program source (Check fault) offset p h i = unbroken_refused source fault offset p h i

-- what is refused for a fault of tokens or of syntax has no tokens that spell a program of the grammar
pub refused_no_spelling : (source : List ℕ) (fault : SourceFault) (offset : ℕ) (tokens : List Lexeme) → IsOfGrammar fault
    → IsRefused source fault offset
    → Tokens source tokens → IsProgram (kinds_in tokens) → ⊥
refused_no_spelling source (Lex fault) offset tokens g h scanned p = never_both (length source) source tokens h.0 fault offset scanned h.1
refused_no_spelling source (Syntax fault) offset tokens g h scanned p =
    let same : tokens ≡ h.tokens = tokens_once (length source) source tokens h.tokens scanned h.scanned in
    program_refused fault h.index (kinds_in h.tokens) h.refused (subst (λ (ts : List Lexeme). IsProgram (kinds_in ts)) same p)
refused_no_spelling source (Check fault) offset tokens g h scanned p = g

-- what is refused for a fault of tokens or of syntax has no tree
pub refused_no_tree : (source : List ℕ) (fault : SourceFault) (offset : ℕ) (tokens : List Lexeme) (tree : Tree) → IsOfGrammar fault
    → IsRefused source fault offset
    → IsParsed source tokens tree → ⊥
refused_no_tree source (Lex fault) offset tokens tree g h p = never_both (length source) source tokens h.0 fault offset p.whole.scanned h.1
refused_no_tree source (Syntax fault) offset tokens tree g h p = tree_refused source fault offset tokens tree h p
refused_no_tree source (Check fault) offset tokens tree g h p = g
