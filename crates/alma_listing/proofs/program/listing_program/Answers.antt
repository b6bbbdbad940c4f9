-- What is said of the program that lists follows from what it is.
use Rattle.std.proofs.Common.{◌≡◌, sym, ap, ◌∙◌, subst}
use Rattle.alma_ir.specs.Tree.{routine_at}
use Rattle.alma_ir.specs.View.{program_of, stmts_list}
use Rattle.alma_ir.specs.Checked.{IsChecked}
use Rattle.alma_lower_sound.specs.Reads.{program_reads}
use Rattle.alma_listing.specs.Listing.{Lists, CostsFew}
use Rattle.alma_listing.specs.Inner.{stmts_return}
use Rattle.alma_listing.proofs.Built.{some_routine, few_in_memory, first_body}
use Rattle.alma_listing.proofs.NoReturns.{stmts_plain, stmts_some}
use Rattle.alma_listing.proofs.Listed.{each_is_listed}
use Rattle.alma_listing.proofs.ListerChecked.{lister_is_checked}
use Rattle.alma_listing.proofs.ReadsAlike.{each_reads_alike}
use Rattle.alma_listing.proofs.program.listing_program.Goals as goal

pub copy_program-requires-clause-few : goal.copy_program-requires-clause-few
copy_program-requires-clause-few c = few_in_memory c.args.program.now c.requires.checked c.requires.room

pub returns-then-has_return-clause-refused : goal.returns-then-has_return-clause-refused
returns-then-has_return-clause-refused c =
    let p = c.args.program.now in
    let body : stmts_list c.deref.result.now ≡ (routine_at (program_of p) 0).body =
    first_body p.routines.items c.index.result.now _ (some_routine p c.requires.checked) c.index.ensures c.deref.ensures.value in
    λ e plain. stmts_some (routine_at (program_of p) 0).body (sym (c.if-has_return.ensures ∙ ap stmts_return body)) plain

pub returns-clause-taken : goal.returns-clause-taken
returns-clause-taken c =
    let p = c.args.program.now in
    let body : stmts_list c.deref.result.now ≡ (routine_at (program_of p) 0).body =
    first_body p.routines.items c.index.result.now _ (some_routine p c.requires.checked) c.index.ensures c.deref.ensures.value in
    stmts_plain (routine_at (program_of p) 0).body (sym (c.if-has_return.ensures ∙ ap stmts_return body))
    (c.requires.checked.returns_stay 0 c.requires.checked.body.0)

pub returns-clause-checked : goal.returns-clause-checked
returns-clause-checked c =
    subst (λ q. IsChecked q) (sym c.in_ok-copy_program.ensures)
    (lister_is_checked (program_of c.args.program.now) c.requires.checked c.requires.room)

pub returns-clause-lists : goal.returns-clause-lists
returns-clause-lists c =
    subst (λ q. Lists q (program_of c.args.program.now)) (sym c.in_ok-copy_program.ensures)
    (each_is_listed (program_of c.args.program.now) c.requires.checked (returns-clause-taken c)).0

pub returns-clause-cost : goal.returns-clause-cost
returns-clause-cost c =
    subst (λ q. CostsFew q (program_of c.args.program.now)) (sym c.in_ok-copy_program.ensures)
    (each_is_listed (program_of c.args.program.now) c.requires.checked (returns-clause-taken c)).1

pub returns-clause-reads : goal.returns-clause-reads
returns-clause-reads c = ap program_reads c.in_ok-copy_program.ensures ∙ each_reads_alike (program_of c.args.program.now)
