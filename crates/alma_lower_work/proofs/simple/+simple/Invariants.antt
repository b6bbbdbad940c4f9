use Rattle.std.proofs.Common.{◌≡◌, drop}
use Rattle.alma_ir.specs.View.{links_list, sels_list}
use Rattle.alma_lower_templates.specs.Slots.{are_simple_links, are_simple_sels}
use Rattle.alma_lower_work.proofs.simple.+simple.Given as goal

abbrev pub invariant-are_simple_links-loop-link : goal.invariant-are_simple_links-loop-link
invariant-are_simple_links-loop-link l = are_simple_links (links_list (drop l.link-index l.links)) ≡ are_simple_links (links_list l.links)

abbrev pub invariant-are_simple_sels-loop-sel : goal.invariant-are_simple_sels-loop-sel
invariant-are_simple_sels-loop-sel l = are_simple_sels (sels_list (drop l.sel-index l.sels)) ≡ are_simple_sels (sels_list l.sels)
