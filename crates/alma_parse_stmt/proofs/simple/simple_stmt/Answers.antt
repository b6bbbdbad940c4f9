use Rattle.std.proofs.Common.{refl}
use Rattle.alma_tree.specs.Spelling.{spell_stmt}
use Rattle.alma_tree.specs.View.{view_stmt}
use Rattle.alma_tree.specs.Numbers.{number_stmt}
use Rattle.alma_parse_cursor.proofs.Steps.{instead_any}
use Rattle.alma_parse_stmt.proofs.simple.simple_stmt.Goals as goal

pub returns-in-Nothing : goal.returns-in-Nothing
returns-in-Nothing g c = record {
  read = rw c.in-Nothing.is (instead_any c.nothing.result (λ v. spell_stmt (view_stmt v)) number_stmt
      (λ o. o) (λ o. o) c.args.depth _ (record { becomes = λ d o. refl }) c.nothing.ensures.read);
}

pub returns-in-Desig : goal.returns-in-Desig
returns-in-Desig g c = record { read = rw c.in-Desig.is c.desig_stmt.ensures.read }

pub returns-in-Value : goal.returns-in-Value
returns-in-Value g c = record { read = rw c.in-Value.is c.value_stmt.ensures.read }

pub returns-in-Return : goal.returns-in-Return
returns-in-Return g c = record { read = rw c.in-Return.is c.return_stmt.ensures.read }

pub returns-in-Read : goal.returns-in-Read
returns-in-Read g c = record { read = rw c.in-Read.is c.read_stmt.ensures.read }

pub returns-in-Write : goal.returns-in-Write
returns-in-Write g c = record { read = rw c.in-Write.is c.write_stmt.ensures.read }

pub returns-in-Writeln : goal.returns-in-Writeln
returns-in-Writeln g c = record { read = rw c.in-Writeln.is c.writeln_stmt.ensures.read }

pub returns-in_default : goal.returns-in_default
returns-in_default g c = record { read = record { ends = λ o. tt } }
