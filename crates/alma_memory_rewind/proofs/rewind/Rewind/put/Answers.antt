use Rattle.std.proofs.Common.{◌≡◌, ◌<◌, length, get_or, sym, ap, ◌∙◌, true, false, arith}
use Rattle.std.proofs.lemmas.List.{length-set}
use Rattle.alma_memory_rewind.specs.PlainRewind.{PlainRewind}
use Rattle.alma_memory_rewind.specs.Trail.{held_of, is_free, free_from, noted_to}
use Rattle.alma_memory_rewind.proofs.Changes.{flag, flag-within, noted-flag, noted-within, write-free}
use Rattle.alma_memory_rewind.proofs.rewind.Rewind.put.Goals as goal

pub index_mut-requires : goal.index_mut-requires
index_mut-requires g c =
    let vn : noted_to c.self.inside.marks.items (length c.self.inside.items.items) c.self.inside.stamps.items ≡ c.args.self.now.noted =
    ap (λ (p : PlainRewind g.row.T.Denot). p.noted) c.self.view_is in
    let noted : get_or (noted_to c.self.inside.marks.items (length c.self.inside.items.items) c.self.inside.stamps.items) c.args.at
    false ≡ true =
    rw vn c.requires in
    let l : c.args.at < length c.self.inside.items.items =
    noted-within c.self.inside.marks.items (length c.self.inside.items.items) c.self.inside.stamps.items c.args.at noted in
    omega (arith, l)

pub invariant_of-self : goal.invariant_of-self
invariant_of-self g c =
    let vn : noted_to c.self.inside.marks.items (length c.self.inside.items.items) c.self.inside.stamps.items ≡ c.args.self.now.noted =
    ap (λ (p : PlainRewind g.row.T.Denot). p.noted) c.self.view_is in
    let noted : get_or (noted_to c.self.inside.marks.items (length c.self.inside.items.items) c.self.inside.stamps.items) c.args.at
    false ≡ true =
    rw vn c.requires in
    let here : get_or (free_from c.self.inside.marks.items 0 c.self.inside.stamps.items) c.args.at false ≡ true =
    noted-flag c.self.inside.marks.items (length c.self.inside.items.items) c.self.inside.stamps.items c.args.at noted in
    let l : c.args.at < length c.self.inside.stamps.items =
    flag-within c.self.inside.marks.items c.self.inside.stamps.items c.args.at here in
    let is : is_free c.self.inside.marks.items c.args.at (get_or c.self.inside.stamps.items c.args.at 0) ≡ true =
    sym (flag c.self.inside.marks.items c.self.inside.stamps.items c.args.at l) ∙ here in
    let k = write-free c.self.inside.marks.items c.self.inside.trail.items c.self.inside.items.items c.self.inside.stamps.items
    c.self.inside.counter c.args.at c.args.value is c.self.invariant.0 in
    (k.sound, rw (length-set c.self.inside.items.items c.args.at c.args.value) c.self.invariant.1)

pub returns-clause-held : goal.returns-clause-held
returns-clause-held g c =
    let vn : noted_to c.self.inside.marks.items (length c.self.inside.items.items) c.self.inside.stamps.items ≡ c.args.self.now.noted =
    ap (λ (p : PlainRewind g.row.T.Denot). p.noted) c.self.view_is in
    let noted : get_or (noted_to c.self.inside.marks.items (length c.self.inside.items.items) c.self.inside.stamps.items) c.args.at
    false ≡ true =
    rw vn c.requires in
    let here : get_or (free_from c.self.inside.marks.items 0 c.self.inside.stamps.items) c.args.at false ≡ true =
    noted-flag c.self.inside.marks.items (length c.self.inside.items.items) c.self.inside.stamps.items c.args.at noted in
    let l : c.args.at < length c.self.inside.stamps.items =
    flag-within c.self.inside.marks.items c.self.inside.stamps.items c.args.at here in
    let is : is_free c.self.inside.marks.items c.args.at (get_or c.self.inside.stamps.items c.args.at 0) ≡ true =
    sym (flag c.self.inside.marks.items c.self.inside.stamps.items c.args.at l) ∙ here in
    let k = write-free c.self.inside.marks.items c.self.inside.trail.items c.self.inside.items.items c.self.inside.stamps.items
    c.self.inside.counter c.args.at c.args.value is c.self.invariant.0 in
    let vh : held_of c.self.inside.trail.items c.self.inside.items.items c.self.inside.marks.items ≡ c.args.self.now.held =
    ap (λ (p : PlainRewind g.row.T.Denot). p.held) c.self.view_is in
    k.held ∙ vh

pub returns-clause-noted : goal.returns-clause-noted
returns-clause-noted g c =
    let vn : noted_to c.self.inside.marks.items (length c.self.inside.items.items) c.self.inside.stamps.items ≡ c.args.self.now.noted =
    ap (λ (p : PlainRewind g.row.T.Denot). p.noted) c.self.view_is in
    ap (λ n. noted_to c.self.inside.marks.items n c.self.inside.stamps.items)
    (length-set c.self.inside.items.items c.args.at c.args.value) ∙ vn
