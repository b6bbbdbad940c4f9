use Rattle.std.proofs.Common.{drop}
use Rattle.alma_rules.specs.Places as places
use Rattle.alma_rules.specs.View as view
use Rattle.alma_check_marks.specs.Marking.{marks_of}
use Rattle.alma_check_marks.proofs.Steps.{Rests}
use Rattle.alma_check_marks.proofs.declaration.+blocks.Given as goal

abbrev pub invariant-mark_decls-loop-decl : goal.invariant-mark_decls-loop-decl
invariant-mark_decls-loop-decl l =
    Rests (marks_of l.fn.marks) (marks_of l.marks) (places.mark_decls (view.decls_of l.decls))
    (places.mark_decls (view.decls_of (drop l.decl-index l.decls)))
