use Rattle.std.proofs.Common.{length, ap, sym, ◌∙◌, arith}
use Rattle.std.specs.List.{flat_map}
use Rattle.std.proofs.lemmas.List.{take_all}
use Rattle.alma_code.specs.Plain.{PlainRoutine, PlainGlobal, routine_of, global_of}
use Rattle.alma_object_format.specs.Object.{pool_bytes}
use Rattle.alma_object.proofs.Encoding.{flat_map-map, three_parts}
use Rattle.alma_object.proofs.writing.push_pools.Goals as goal

pub returns : goal.returns
unfolding pool_bytes
returns c =
    let rs = c.args.code.now.routines.items in
    let gs = c.args.code.now.globals.items in
    let ts = c.args.code.now.texts.items in
    let routines = ap (flat_map (λ r. r.name.items))
    (take_all c.loop-routine.routine-index rs (omega (arith, ap length c.deref-routine-items.ensures.value)))
    ∙ sym (flat_map-map (λ (r : PlainRoutine). r.name) routine_of rs) in
    let globals = ap (flat_map (λ g. g.name.items))
    (take_all c.loop-global.global-index gs (omega (arith, ap length c.deref-global-items.ensures.value)))
    ∙ sym (flat_map-map (λ (g : PlainGlobal). g.name) global_of gs) in
    let texts = ap (flat_map (λ t. t.items))
    (take_all c.loop-text.text-index ts (omega (arith, ap length c.deref-text-items.ensures.value)))
    ∙ sym (flat_map-map (λ t. t) (λ t. t.items) ts) in
    three_parts _ _ _ _ _ _ _ _ _ _ c.loop-routine.invariant c.loop-global.invariant c.loop-text.invariant routines globals texts
