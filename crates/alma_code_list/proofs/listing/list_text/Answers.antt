use Rattle.std.proofs.Common.{rules, ◌∷◌, [], codes, decimal}
use Rattle.alma_code.specs.Plain.{code_of}
use Rattle.alma_code.specs.ListText.{routine_lines}
use Rattle.alma_code_list.proofs.Texts.{whole_put}
use Rattle.alma_code_list.proofs.listing.list_text.Goals as goal

pub returns : goal.returns
returns c =
    whole_put c.push_line.new.text.items c.push_globals.new.text.items c.push_routines.new.text.items c.push_records.new.text.items
    (codes "object" ∷ decimal c.args.code.now.version ∷ []) c.args.code.now.globals.items
    (routine_lines (code_of c.args.code.now) 0 0 (code_of c.args.code.now).routines) c.args.code.now.lines.items
    (search rules) (search rules) (search rules) (search rules)
