use Rattle.std.proofs.Common.{◌≡◌, ◌++◌, ◌∷◌, [], List, length, ap, refl, ◌∙◌}
use Rattle.alma_memory_store.specs.declared.store.Region.{Region}
use Rattle.alma_memory_store.specs.declared.store.Slot.{Slot}
use Rattle.alma_memory_store.proofs.Copies.{starts}
use Rattle.std.specs.Prelude.{slice_get}
use Rattle.alma_memory_store.proofs.store.Store.start.Goals as goal

pub invariant_of-result : goal.invariant_of-result
invariant_of-result c =
    let more : List Slot = c.args.slots.items in
    let wide : c.len.result ≡ length more = c.len.ensures ∙ c.args.slots.ok.0 in
    let r : Region = record {
      routine = 0;
      back = 0;
      declared = c.args.declared;
      total = c.args.declared;
      base = 0;
      slots = c.len.result;
    } in
    let regions : c.push.new.self.now ≡ r ∷ [] = c.in_ok-push.ensures.now ∙ ap (λ v. v ++ r ∷ []) c.new-regions.ensures.now in
    let e = starts c.in_ok-slots.slots.now more c.push.new.self.now r c.in_ok-slots.ensures.now regions refl c.requires.limit refl wide in (
      e.state,
      rw (c.in_ok-slots.ensures.held, c.push.ensures.held ∙ c.new-regions.ensures.held, c.new-lives.ensures.items) tt,
      ap (λ v. slice_get v 0) regions,
    )

pub returns-clause-now : goal.returns-clause-now
returns-clause-now c =
    let more : List Slot = c.args.slots.items in
    let wide : c.len.result ≡ length more = c.len.ensures ∙ c.args.slots.ok.0 in
    let r : Region = record {
      routine = 0;
      back = 0;
      declared = c.args.declared;
      total = c.args.declared;
      base = 0;
      slots = c.len.result;
    } in
    let regions : c.push.new.self.now ≡ r ∷ [] = c.in_ok-push.ensures.now ∙ ap (λ v. v ++ r ∷ []) c.new-regions.ensures.now in
    let e = starts c.in_ok-slots.slots.now more c.push.new.self.now r c.in_ok-slots.ensures.now regions refl c.requires.limit refl wide in
    e.frames
