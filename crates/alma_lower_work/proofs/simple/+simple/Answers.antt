-- What each return says, by the variant in hand, and the turns of the two loops.
use Rattle.std.proofs.Common.{◌≡◌, ◌<◌, ◌+◌, ℕ, Bool, List, length, get_or, drop, ◌∙◌, ap, sym, refl, true, false}
use Rattle.std.specs.Prelude.{◌&&◌}
use Rattle.std.proofs.lemmas.List.{drop_all}
use Rattle.alma_ir.specs.View.{expr_of, links_list, sel_of, sels_list}
use Rattle.alma_ir.specs.declared.phrase.Link.{Link}
use Rattle.alma_ir.specs.declared.phrase.Sel.{Sel}
use Rattle.alma_ir.proofs.Views
use Rattle.alma_lower_templates.specs.Slots.{is_simple_expr, are_simple_links, are_simple_sels, is_simple_sel}
use Rattle.alma_lower_work.proofs.Small.{drop_one}
use Rattle.alma_lower_work.proofs.simple.+simple.Goals as goal

-- the links from one on: that one, and those behind it
links_from : (xs : List Link) (i : ℕ) (x : Link) (b : Bool) → i < length xs → x ≡ get_or xs i x → b ≡ is_simple_expr (expr_of x.operand)
    → (b && are_simple_links (links_list (drop (i + 1) xs))) ≡ are_simple_links (links_list (drop i xs))
links_from xs i x b lt is h =
    ap (λ y. y && are_simple_links (links_list (drop (i + 1) xs))) h
    ∙ sym (ap (λ l. are_simple_links (links_list l)) (drop_one xs i x lt is))

-- the selectors from one on: that one, and those behind it
sels_from : (xs : List Sel) (i : ℕ) (x : Sel) (b : Bool) → i < length xs → x ≡ get_or xs i x → b ≡ is_simple_sel (sel_of x)
    → (b && are_simple_sels (sels_list (drop (i + 1) xs))) ≡ are_simple_sels (sels_list (drop i xs))
sels_from xs i x b lt is h =
    ap (λ y. y && are_simple_sels (sels_list (drop (i + 1) xs))) h ∙ sym (ap (λ l. are_simple_sels (sels_list l)) (drop_one xs i x lt is))

pub are_simple_links-loop-link-init : goal.are_simple_links-loop-link-init
are_simple_links-loop-link-init t c = refl

pub are_simple_links-returns-then-not-is_simple : goal.are_simple_links-returns-then-not-is_simple
are_simple_links-returns-then-not-is_simple t c =
    links_from _ _ _ false c.loop-link-test.true c.link-item.is (sym c.if-not-is_simple.true ∙ c.is_simple.ensures) ∙ c.loop-link.invariant

pub are_simple_links-loop-link-preserved : goal.are_simple_links-loop-link-preserved
are_simple_links-loop-link-preserved t c =
    links_from _ _ _ true c.loop-link-test.true c.link-item.is (sym c.if-not-is_simple.false ∙ c.is_simple.ensures) ∙ c.loop-link.invariant

pub are_simple_links-returns : goal.are_simple_links-returns
are_simple_links-returns t c = sym (ap (λ l. are_simple_links (links_list l)) (drop_all _ _ c.loop-link-test.false)) ∙ c.loop-link.invariant

pub are_simple_sels-loop-sel-init : goal.are_simple_sels-loop-sel-init
are_simple_sels-loop-sel-init t c = refl

pub are_simple_sels-returns-then-not-is_simple_sel : goal.are_simple_sels-returns-then-not-is_simple_sel
are_simple_sels-returns-then-not-is_simple_sel t c =
    sels_from _ _ _ false c.loop-sel-test.true c.sel-item.is (sym c.if-not-is_simple_sel.true ∙ c.is_simple_sel.ensures)
    ∙ c.loop-sel.invariant

pub are_simple_sels-loop-sel-preserved : goal.are_simple_sels-loop-sel-preserved
are_simple_sels-loop-sel-preserved t c =
    sels_from _ _ _ true c.loop-sel-test.true c.sel-item.is (sym c.if-not-is_simple_sel.false ∙ c.is_simple_sel.ensures)
    ∙ c.loop-sel.invariant

pub are_simple_sels-returns : goal.are_simple_sels-returns
are_simple_sels-returns t c = sym (ap (λ l. are_simple_sels (sels_list l)) (drop_all _ _ c.loop-sel-test.false)) ∙ c.loop-sel.invariant

pub is_simple-returns-in-Const : goal.is_simple-returns-in-Const
is_simple-returns-in-Const t c = sym (ap (λ e. is_simple_expr (expr_of e)) c.in-Const.is ∙ ap is_simple_expr (Views.const_view _))

pub is_simple-returns-in-Load : goal.is_simple-returns-in-Load
is_simple-returns-in-Load t c =
    let view = ap (λ e. is_simple_expr (expr_of e)) c.in-Load.is ∙ ap is_simple_expr (Views.load_view _) in
    c.are_simple_sels.ensures ∙ ap (λ x. are_simple_sels (sels_list x)) c.deref.ensures.value ∙ sym view

pub is_simple-returns-in-Known : goal.is_simple-returns-in-Known
is_simple-returns-in-Known t c =
    let view = ap (λ e. is_simple_expr (expr_of e)) c.in-Known.is ∙ ap is_simple_expr (Views.known_view _) in
    c.are_simple_sels-in-Known.ensures ∙ ap (λ x. are_simple_sels (sels_list x)) c.deref-in-Known.ensures.value ∙ sym view

pub is_simple-returns-in-Truth : goal.is_simple-returns-in-Truth
is_simple-returns-in-Truth t c = sym (ap (λ e. is_simple_expr (expr_of e)) c.in-Truth.is ∙ ap is_simple_expr (Views.truth_view _))

pub is_simple-returns-in-Call : goal.is_simple-returns-in-Call
is_simple-returns-in-Call t c = sym (ap (λ e. is_simple_expr (expr_of e)) c.in-Call.is ∙ ap is_simple_expr (Views.callexpr_view _))

pub is_simple-returns-in-Chr : goal.is_simple-returns-in-Chr
is_simple-returns-in-Chr t c =
    let view = ap (λ e. is_simple_expr (expr_of e)) c.in-Chr.is ∙ ap is_simple_expr (Views.chr_view _) in
    c.is_simple-in-Chr.ensures ∙ ap (λ x. is_simple_expr (expr_of x)) c.deref-in-Chr.ensures ∙ sym view

pub is_simple_sel-returns-in-Field : goal.is_simple_sel-returns-in-Field
is_simple_sel-returns-in-Field t c = sym (ap (λ x. is_simple_sel (sel_of x)) c.in-Field.is ∙ ap is_simple_sel (Views.field_view _ _))

pub is_simple_sel-returns-in-Index : goal.is_simple_sel-returns-in-Index
is_simple_sel-returns-in-Index t c =
    c.is_simple.ensures ∙ sym (ap (λ x. is_simple_sel (sel_of x)) c.in-Index.is ∙ ap is_simple_sel (Views.index_view _ _ _))

pub is_simple-returns-then-is_simple : goal.is_simple-returns-then-is_simple
is_simple-returns-then-is_simple t c =
    let view = ap (λ e. is_simple_expr (expr_of e)) c.in-Chain.is ∙ ap is_simple_expr (Views.chain_view _ _ _) in
    let first : is_simple_expr (expr_of c.in-Chain.first.value) ≡ true = ap (λ x. is_simple_expr (expr_of x)) (sym c.deref-in-Chain.ensures)
    ∙ sym c.is_simple.ensures ∙ c.if-is_simple.true in
    c.are_simple_links.ensures ∙ ap (λ x. are_simple_links (links_list x)) c.deref-then-is_simple.ensures.value
    ∙ sym (view ∙ ap (λ b. b && are_simple_links (links_list c.in-Chain.links.items)) first)

pub is_simple-returns-else-is_simple : goal.is_simple-returns-else-is_simple
is_simple-returns-else-is_simple t c =
    let view = ap (λ e. is_simple_expr (expr_of e)) c.in-Chain.is ∙ ap is_simple_expr (Views.chain_view _ _ _) in
    let first : is_simple_expr (expr_of c.in-Chain.first.value) ≡ false =
    ap (λ x. is_simple_expr (expr_of x)) (sym c.deref-in-Chain.ensures) ∙ sym c.is_simple.ensures ∙ c.if-is_simple.false in
    c.if-is_simple.false ∙ sym (view ∙ ap (λ b. b && are_simple_links (links_list c.in-Chain.links.items)) first)

pub is_simple-returns-then-is_simple-2 : goal.is_simple-returns-then-is_simple-2
is_simple-returns-then-is_simple-2 t c =
    let view = ap (λ e. is_simple_expr (expr_of e)) c.in-Compare.is ∙ ap is_simple_expr (Views.compare_view _ _ _) in
    let first : is_simple_expr (expr_of c.in-Compare.left.value) ≡ true =
    ap (λ x. is_simple_expr (expr_of x)) (sym c.deref-in-Compare.ensures) ∙ sym c.is_simple-in-Compare.ensures
    ∙ c.if-is_simple-2.true in
    c.is_simple-then-is_simple-2.ensures ∙ ap (λ x. is_simple_expr (expr_of x)) c.deref-then-is_simple-2.ensures
    ∙ sym (view ∙ ap (λ b. b && is_simple_expr (expr_of c.in-Compare.right.value)) first)

pub is_simple-returns-else-is_simple-2 : goal.is_simple-returns-else-is_simple-2
is_simple-returns-else-is_simple-2 t c =
    let view = ap (λ e. is_simple_expr (expr_of e)) c.in-Compare.is ∙ ap is_simple_expr (Views.compare_view _ _ _) in
    let first : is_simple_expr (expr_of c.in-Compare.left.value) ≡ false =
    ap (λ x. is_simple_expr (expr_of x)) (sym c.deref-in-Compare.ensures) ∙ sym c.is_simple-in-Compare.ensures
    ∙ c.if-is_simple-2.false in
    c.if-is_simple-2.false ∙ sym (view ∙ ap (λ b. b && is_simple_expr (expr_of c.in-Compare.right.value)) first)
