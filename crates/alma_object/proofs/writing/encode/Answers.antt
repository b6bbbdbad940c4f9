use Rattle.std.proofs.Common.{◌++◌, ap, ◌∙◌}
use Rattle.std.specs.List.{flat_map}
use Rattle.alma_object_format.specs.Instrs.{instr_bytes}
use Rattle.alma_object_format.specs.Object.{object_bytes, table_bytes, range_bytes, line_bytes}
use Rattle.alma_object.proofs.Encoding.{ten_parts}
use Rattle.alma_object.proofs.writing.encode.Goals as goal

pub returns : goal.returns
unfolding object_bytes table_bytes
returns c =
    let ranges = c.in_ok-push_ranges.ensures ∙ ap (λ xs. c.push_all_runs.new.out.items ++ flat_map range_bytes xs) c.deref.ensures.value in
    let instrs = c.in_ok-push_instrs.ensures ∙ ap (λ xs. c.push_pools.new.out.items ++ flat_map instr_bytes xs) c.deref-2.ensures.value in
    let lines = c.in_ok-push_lines.ensures ∙ ap (λ xs. c.push_instrs.new.out.items ++ flat_map line_bytes xs) c.deref-3.ensures.value in
    ten_parts c.new-out.result.items _ _ _ _ _ _ _ _ _ _ _ _ _ _ _ _ _ _ _ _ c.new-out.ensures.items c.in_ok-push_header.ensures
    c.in_ok-push_routines.ensures c.in_ok-push_globals.ensures
    c.in_ok-push_all_params.ensures c.in_ok-push_all_runs.ensures ranges c.in_ok-push_text_ends.ensures c.in_ok-push_pools.ensures instrs
    lines
