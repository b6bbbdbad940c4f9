-- For each plain phrase a value of the parser's types that is seen as it, numbered from a place on.
use Rattle.std.proofs.Common.{◌≡◌, ◌∙◌, ℕ, List, ◌∷◌, length, Option, None, Some, refl, ap, ap₂}
use Rattle.alma_tree.specs.declared.kind.Kind.{Kind}
use Rattle.alma_tree.specs.declared.leaf.Sign.{Sign}
use Rattle.alma_tree.specs.declared.leaf.Sign.TheVariants as signs
use Rattle.alma_tree.specs.declared.leaf.Relation.{Relation}
use Rattle.alma_tree.specs.declared.leaf.AddOperator.{AddOperator}
use Rattle.alma_tree.specs.declared.phrase.Stmts as ds
use Rattle.alma_tree.specs.declared.phrase.Stmt as dt
use Rattle.alma_tree.specs.declared.phrase.Elsif as df
use Rattle.alma_tree.specs.declared.phrase.Arm as da
use Rattle.alma_tree.specs.declared.phrase.Label as dl
use Rattle.alma_tree.specs.declared.phrase.Expr as de
use Rattle.alma_tree.specs.declared.phrase.Compared as dc
use Rattle.alma_tree.specs.declared.phrase.Simple as di
use Rattle.alma_tree.specs.declared.phrase.AddLink as dk
use Rattle.alma_tree.specs.declared.phrase.Term as dm
use Rattle.alma_tree.specs.declared.phrase.Factor as dr
use Rattle.alma_tree.specs.declared.phrase.Primary as dp
use Rattle.alma_tree.specs.declared.phrase.Args as dg
use Rattle.alma_tree.specs.declared.phrase.Exprs as dx
use Rattle.alma_tree.specs.declared.phrase.Selector as dj
use Rattle.alma_tree.specs.Tree as tree
use Rattle.alma_tree.specs.Spelling as spell
use Rattle.alma_tree.specs.View as view
use Rattle.alma_tree.specs.Numbers as number
use Rattle.alma_tree.specs.Numbers.{Cursor, token, node, ◌>>◌}
use Rattle.alma_tree.proofs.Rows as seen
use Rattle.alma_tree.proofs.NumberRows as laid
use Rattle.alma_source.proofs.Numbering.{Place, next, counted, leaf_at, name_at, Walk, ◌⊳◌, of_step, stayed, one_token, one_node, one_leaf}
use Rattle.alma_source.proofs.Numbering.{one_name, one_more, Part, Parts, no_value, no_items, ap₃, ap₄, box, vec_of}

-- ---- structs that a tree holds rolled up

elsif_seen : (e : de.Expr) (s : ds.Stmts) (rest : List df.Elsif)
    → view.elsifs_of (df.roll-Elsif (record { test = e; then = s }) ∷ rest)
    ≡ tree.more_elsif (view.view_expr e) (view.view_stmts s) (view.elsifs_of rest)
elsif_seen e s rest = rw (df.out-roll-Elsif (record { test = e; then = s })) refl

elsif_laid : (e : de.Expr) (s : ds.Stmts) (rest : List df.Elsif)
    → number.numbers_of_elsifs (df.roll-Elsif (record { test = e; then = s }) ∷ rest)
    ≡ (token >> number.number_expr e >> token >> number.number_stmts s >> number.numbers_of_elsifs rest)
elsif_laid e s rest = rw (df.out-roll-Elsif (record { test = e; then = s })) refl

compared_seen : (r : Relation) (s : di.Simple)
    → view.compared_of (Some (box (dc.roll-Compared (record { relation = r; right = s })))) ≡ tree.compared r (view.view_simple s)
compared_seen r s = rw (dc.out-roll-Compared (record { relation = r; right = s })) refl

compared_laid : (r : Relation) (s : di.Simple)
    → number.numbers_of_compared (Some (box (dc.roll-Compared (record { relation = r; right = s })))) ≡ (token >> number.number_simple s)
compared_laid r s = rw (dc.out-roll-Compared (record { relation = r; right = s })) refl

link_seen : (o : AddOperator) (t : dm.Term) (rest : List dk.AddLink)
    → view.terms_of (dk.roll-AddLink (record { operator = o; operand = t }) ∷ rest)
    ≡ tree.more_term o (view.view_term t) (view.terms_of rest)
link_seen o t rest = rw (dk.out-roll-AddLink (record { operator = o; operand = t })) refl

link_laid : (o : AddOperator) (t : dm.Term) (rest : List dk.AddLink)
    → number.numbers_of_terms (dk.roll-AddLink (record { operator = o; operand = t }) ∷ rest)
    ≡ (token >> number.number_term t >> number.numbers_of_terms rest)
link_laid o t rest = rw (dk.out-roll-AddLink (record { operator = o; operand = t })) refl

args_seen : (values : Option dx.Exprs) → view.args_of (Some (dg.roll-Args (record { values = values }))) ≡ view.args_values values
args_seen values = rw (dg.out-roll-Args (record { values = values })) refl

args_laid : (values : Option dx.Exprs)
    → number.numbers_of_args (Some (dg.roll-Args (record { values = values }))) ≡ number.numbers_of_values values
args_laid values = rw (dg.out-roll-Args (record { values = values })) refl

-- [ Sign ]
record Signed (s : Option Sign) (total : ℕ) (rest : List Kind) (a : Cursor) : Type 0 where
  to : Place total rest
  walk : Walk (number.number_sign s) a to.at

signed : (s : Option Sign) {total : ℕ} {rest : List Kind} (p : Place total (spell.spell_sign s rest)) → Signed s total rest p.at
signed None p = record { to = p; walk = stayed p }
signed (Some signs.Plus) p = record { to = next p; walk = one_token p }
signed (Some signs.Minus) p = record { to = next p; walk = one_token p }

-- ---- statements and expressions

mutual
  pub stmts : (t : tree.Stmts) {total : ℕ} {rest : List Kind} (p : Place total (spell.spell_stmts t rest))
      → Part view.view_stmts number.number_stmts t total rest p.at
  stmts (tree.stmts s more) p =
      let first = stmt s p in
      let others = stmt_tail more first.to in
      record {
        value = record { node = others.to.at.node; first = box first.value; more = vec_of others };
        seen = ap₂ tree.stmts first.seen others.seen;
        to = counted others.to;
        walk = first.walk ⊳ others.walk ⊳ one_node others.to;
      }

  stmt_tail : (t : tree.StmtTail) {total : ℕ} {rest : List Kind} (p : Place total (spell.spell_stmt_tail t rest))
      → Parts view.stmts_of number.numbers_of_stmts t total rest p.at
  stmt_tail tree.no_stmt p = no_items p refl
  stmt_tail (tree.more_stmt s more) p =
      let one = stmt s (next p) in
      let others = stmt_tail more one.to in
      record {
        items = one.value ∷ others.items;
        seen = ap₂ tree.more_stmt one.seen others.seen;
        to = others.to;
        walk = one_token p ⊳ one.walk ⊳ others.walk;
        few = one_more p (stayed p) one.walk (length others.items) others.to.at.token others.few;
      }

  stmt : (t : tree.Stmt) {total : ℕ} {rest : List Kind} (p : Place total (spell.spell_stmt t rest))
      → Part view.view_stmt number.number_stmt t total rest p.at
  stmt tree.nothing p = record { value = dt.Nothing p.at.node; seen = refl; to = counted p; walk = one_node p }
  stmt (tree.assign d e) p =
      let left = desig d p in
      let right = expr e (next left.to) in
      let n = right.to.at.node in
      record {
        value = dt.Assign n left.value right.value;
        seen = seen.assign_laid n left.value right.value ∙ ap₂ tree.assign left.seen right.seen;
        to = counted right.to;
        walk = of_step (laid.assign_laid n left.value right.value) (left.walk ⊳ one_token left.to ⊳ right.walk ⊳ one_node right.to);
      }
  stmt (tree.value e) p =
      let one = expr e p in
      record {
        value = dt.Value one.to.at.node one.value;
        seen = ap tree.value one.seen;
        to = counted one.to;
        walk = one.walk ⊳ one_node one.to;
      }
  stmt (tree.if_stmt e s more other) p =
      let test = expr e (next p) in
      let body = stmts s (next test.to) in
      let others = elsif_tail more body.to in
      let last = else_part other others.to in
      let ended = next last.to in
      let n = ended.at.node in
      record {
        value = dt.If n test.value body.value (vec_of others) last.value;
        seen = seen.if_laid n test.value body.value (vec_of others) last.value
            ∙ ap₄ tree.if_stmt test.seen body.seen others.seen last.seen;
        to = counted ended;
        walk = of_step (laid.if_laid n test.value body.value (vec_of others) last.value)
            (one_token p ⊳ test.walk ⊳ one_token test.to ⊳ body.walk ⊳ others.walk ⊳ last.walk ⊳ one_token last.to ⊳ one_node ended);
      }
  stmt (tree.while_stmt e s) p =
      let test = expr e (next p) in
      let body = stmts s (next test.to) in
      let ended = next body.to in
      let n = ended.at.node in
      record {
        value = dt.While n test.value body.value;
        seen = seen.while_laid n test.value body.value ∙ ap₂ tree.while_stmt test.seen body.seen;
        to = counted ended;
        walk = of_step (laid.while_laid n test.value body.value)
            (one_token p ⊳ test.walk ⊳ one_token test.to ⊳ body.walk ⊳ one_token body.to ⊳ one_node ended);
      }
  stmt (tree.repeat_stmt s e) p =
      let body = stmts s (next p) in
      let test = expr e (next body.to) in
      let n = test.to.at.node in
      record {
        value = dt.Repeat n body.value test.value;
        seen = seen.repeat_laid n body.value test.value ∙ ap₂ tree.repeat_stmt body.seen test.seen;
        to = counted test.to;
        walk = of_step (laid.repeat_laid n body.value test.value)
            (one_token p ⊳ body.walk ⊳ one_token body.to ⊳ test.walk ⊳ one_node test.to);
      }
  stmt (tree.for_stmt low high by s) p =
      let named = counted (next (next p)) in
      let from = expr low (next named) in
      let until = expr high (next from.to) in
      let step = by_part by until.to in
      let body = stmts s (next step.to) in
      let ended = next body.to in
      let n = ended.at.node in
      record {
        value = dt.For n (name_at (next p)) from.value until.value step.value body.value;
        seen = seen.for_laid n (name_at (next p)) from.value until.value step.value body.value
            ∙ ap₄ tree.for_stmt from.seen until.seen step.seen body.seen;
        to = counted ended;
        walk = of_step (laid.for_laid n (name_at (next p)) from.value until.value step.value body.value)
            (one_token p ⊳ one_name (next p) ⊳ one_token named ⊳ from.walk ⊳ one_token from.to ⊳ until.walk ⊳ step.walk
            ⊳ one_token step.to ⊳ body.walk ⊳ one_token body.to ⊳ one_node ended);
      }
  stmt (tree.some_stmt low high s) p =
      let named = counted (next (next p)) in
      let from = expr low (next named) in
      let until = expr high (next from.to) in
      let body = stmts s (next until.to) in
      let ended = next body.to in
      let n = ended.at.node in
      record {
        value = dt.Some n (name_at (next p)) from.value until.value body.value;
        seen = seen.some_laid n (name_at (next p)) from.value until.value body.value
            ∙ ap₃ tree.some_stmt from.seen until.seen body.seen;
        to = counted ended;
        walk = of_step (laid.some_laid n (name_at (next p)) from.value until.value body.value)
            (one_token p ⊳ one_name (next p) ⊳ one_token named ⊳ from.walk ⊳ one_token from.to ⊳ until.walk
            ⊳ one_token until.to ⊳ body.walk ⊳ one_token body.to ⊳ one_node ended);
      }
  stmt (tree.case_stmt e a more other) p =
      let test = expr e (next p) in
      let first = arm a (next test.to) in
      let others = arm_tail more first.to in
      let last = else_part other others.to in
      let ended = next last.to in
      let n = ended.at.node in
      record {
        value = dt.Case n test.value (box first.value) (vec_of others) last.value;
        seen = seen.case_laid n test.value (box first.value) (vec_of others) last.value
            ∙ ap₄ tree.case_stmt test.seen first.seen others.seen last.seen;
        to = counted ended;
        walk = of_step (laid.case_laid n test.value (box first.value) (vec_of others) last.value)
            (one_token p ⊳ test.walk ⊳ one_token test.to ⊳ first.walk ⊳ others.walk ⊳ last.walk ⊳ one_token last.to ⊳ one_node ended);
      }
  stmt (tree.either_stmt s more) p =
      let first = stmts s (next p) in
      let others = orelse_tail more first.to in
      let ended = next others.to in
      let n = ended.at.node in
      record {
        value = dt.Either n first.value (vec_of others);
        seen = seen.either_laid n first.value (vec_of others) ∙ ap₂ tree.either_stmt first.seen others.seen;
        to = counted ended;
        walk = of_step (laid.either_laid n first.value (vec_of others))
            (one_token p ⊳ first.walk ⊳ others.walk ⊳ one_token others.to ⊳ one_node ended);
      }
  stmt (tree.forall_stmt choice s) p =
      let first = stmts choice (next p) in
      let body = stmts s (next first.to) in
      let ended = next body.to in
      let n = ended.at.node in
      record {
        value = dt.Forall n first.value body.value;
        seen = seen.forall_laid n first.value body.value ∙ ap₂ tree.forall_stmt first.seen body.seen;
        to = counted ended;
        walk = of_step (laid.forall_laid n first.value body.value)
            (one_token p ⊳ first.walk ⊳ one_token first.to ⊳ body.walk ⊳ one_token body.to ⊳ one_node ended);
      }
  stmt (tree.commit_stmt s) p =
      let body = stmts s (next p) in
      let ended = next body.to in
      let n = ended.at.node in
      record {
        value = dt.Commit n body.value;
        seen = seen.commit_laid n body.value ∙ ap tree.commit_stmt body.seen;
        to = counted ended;
        walk = of_step (laid.commit_laid n body.value) (one_token p ⊳ body.walk ⊳ one_token body.to ⊳ one_node ended);
      }
  stmt (tree.return_stmt e) p =
      let one = returned_part e (next p) in
      let n = one.to.at.node in
      record {
        value = dt.Return n one.value;
        seen = seen.return_laid n one.value ∙ ap tree.return_stmt one.seen;
        to = counted one.to;
        walk = of_step (laid.return_laid n one.value) (one_token p ⊳ one.walk ⊳ one_node one.to);
      }
  stmt (tree.read_stmt d more) p =
      let first = desig d (next (next p)) in
      let others = desig_tail more first.to in
      let ended = next others.to in
      let n = ended.at.node in
      record {
        value = dt.Read n first.value (vec_of others);
        seen = seen.read_laid n first.value (vec_of others) ∙ ap₂ tree.read_stmt first.seen others.seen;
        to = counted ended;
        walk = of_step (laid.read_laid n first.value (vec_of others))
            (one_token p ⊳ one_token (next p) ⊳ first.walk ⊳ others.walk ⊳ one_token others.to ⊳ one_node ended);
      }
  stmt (tree.write_stmt es) p =
      let items = exprs es (next (next p)) in
      let ended = next items.to in
      record {
        value = dt.Write ended.at.node items.value;
        seen = ap tree.write_stmt items.seen;
        to = counted ended;
        walk = one_token p ⊳ one_token (next p) ⊳ items.walk ⊳ one_token items.to ⊳ one_node ended;
      }
  stmt (tree.writeln_stmt a) p =
      let items = args_part a (next p) in
      let n = items.to.at.node in
      record {
        value = dt.Writeln n items.value;
        seen = seen.writeln_laid n items.value ∙ ap tree.writeln_stmt items.seen;
        to = counted items.to;
        walk = of_step (laid.writeln_laid n items.value) (one_token p ⊳ items.walk ⊳ one_node items.to);
      }

  elsif_tail : (t : tree.ElsifTail) {total : ℕ} {rest : List Kind} (p : Place total (spell.spell_elsif_tail t rest))
      → Parts view.elsifs_of number.numbers_of_elsifs t total rest p.at
  elsif_tail tree.no_elsif p = no_items p refl
  elsif_tail (tree.more_elsif e s more) p =
      let test = expr e (next p) in
      let body = stmts s (next test.to) in
      let others = elsif_tail more body.to in
      record {
        items = df.roll-Elsif (record { test = test.value; then = body.value }) ∷ others.items;
        seen = elsif_seen test.value body.value others.items ∙ ap₃ tree.more_elsif test.seen body.seen others.seen;
        to = others.to;
        walk = of_step (elsif_laid test.value body.value others.items)
            (one_token p ⊳ test.walk ⊳ one_token test.to ⊳ body.walk ⊳ others.walk);
        few = one_more p (stayed p) (test.walk ⊳ one_token test.to ⊳ body.walk) (length others.items) others.to.at.token others.few;
      }

  else_part : (t : tree.Else) {total : ℕ} {rest : List Kind} (p : Place total (spell.spell_else t rest))
      → Part view.else_of number.numbers_of_else t total rest p.at
  else_part tree.no_else p = no_value p refl
  else_part (tree.else_stmts s) p =
      let body = stmts s (next p) in
      record { value = Some body.value; seen = ap tree.else_stmts body.seen; to = body.to; walk = one_token p ⊳ body.walk }

  by_part : (t : tree.By) {total : ℕ} {rest : List Kind} (p : Place total (spell.spell_by t rest))
      → Part view.by_of number.numbers_of_by t total rest p.at
  by_part tree.no_by p = no_value p refl
  by_part (tree.by_expr e) p =
      let one = expr e (next p) in
      record { value = Some one.value; seen = ap tree.by_expr one.seen; to = one.to; walk = one_token p ⊳ one.walk }

  orelse_tail : (t : tree.OrelseTail) {total : ℕ} {rest : List Kind} (p : Place total (spell.spell_orelse_tail t rest))
      → Parts view.orelses_of number.numbers_of_orelses t total rest p.at
  orelse_tail tree.no_orelse p = no_items p refl
  orelse_tail (tree.more_orelse s more) p =
      let one = stmts s (next p) in
      let others = orelse_tail more one.to in
      record {
        items = one.value ∷ others.items;
        seen = ap₂ tree.more_orelse one.seen others.seen;
        to = others.to;
        walk = one_token p ⊳ one.walk ⊳ others.walk;
        few = one_more p (stayed p) one.walk (length others.items) others.to.at.token others.few;
      }

  returned_part : (t : tree.Returned) {total : ℕ} {rest : List Kind} (p : Place total (spell.spell_returned t rest))
      → Part view.returned_of number.numbers_of_returned t total rest p.at
  returned_part tree.no_value p = no_value p refl
  returned_part (tree.returned e) p =
      let one = expr e p in
      record { value = Some one.value; seen = ap tree.returned one.seen; to = one.to; walk = one.walk }

  desig_tail : (t : tree.DesigTail) {total : ℕ} {rest : List Kind} (p : Place total (spell.spell_desig_tail t rest))
      → Parts view.desigs_of number.numbers_of_desigs t total rest p.at
  desig_tail tree.no_desig p = no_items p refl
  desig_tail (tree.more_desig d more) p =
      let one = desig d (next p) in
      let others = desig_tail more one.to in
      record {
        items = one.value ∷ others.items;
        seen = ap₂ tree.more_desig one.seen others.seen;
        to = others.to;
        walk = one_token p ⊳ one.walk ⊳ others.walk;
        few = one_more p (stayed p) one.walk (length others.items) others.to.at.token others.few;
      }

  arm : (t : tree.Arm) {total : ℕ} {rest : List Kind} (p : Place total (spell.spell_arm t rest))
      → Part view.view_arm number.number_arm t total rest p.at
  arm tree.empty_arm p = record { value = da.Empty p.at.node; seen = refl; to = counted p; walk = one_node p }
  arm (tree.arm l more s) p =
      let first = label l p in
      let others = label_tail more first.to in
      let body = stmts s (next others.to) in
      let n = body.to.at.node in
      record {
        value = da.Labelled n first.value (vec_of others) body.value;
        seen = seen.labelled_laid n first.value (vec_of others) body.value ∙ ap₃ tree.arm first.seen others.seen body.seen;
        to = counted body.to;
        walk = of_step (laid.labelled_laid n first.value (vec_of others) body.value)
            (first.walk ⊳ others.walk ⊳ one_token others.to ⊳ body.walk ⊳ one_node body.to);
      }

  arm_tail : (t : tree.ArmTail) {total : ℕ} {rest : List Kind} (p : Place total (spell.spell_arm_tail t rest))
      → Parts view.arms_of number.numbers_of_arms t total rest p.at
  arm_tail tree.no_arm p = no_items p refl
  arm_tail (tree.more_arm a more) p =
      let one = arm a (next p) in
      let others = arm_tail more one.to in
      record {
        items = one.value ∷ others.items;
        seen = ap₂ tree.more_arm one.seen others.seen;
        to = others.to;
        walk = one_token p ⊳ one.walk ⊳ others.walk;
        few = one_more p (stayed p) one.walk (length others.items) others.to.at.token others.few;
      }

  label : (t : tree.Label) {total : ℕ} {rest : List Kind} (p : Place total (spell.spell_label t rest))
      → Part view.view_label number.number_label t total rest p.at
  label (tree.label e h) p =
      let low = expr e p in
      let high = high_part h low.to in
      let n = high.to.at.node in
      record {
        value = dl.roll-Label (record { node = n; low = low.value; high = high.value });
        seen = seen.label_rolled (record { node = n; low = low.value; high = high.value }) ∙ ap₂ tree.label low.seen high.seen;
        to = counted high.to;
        walk = of_step (laid.label_rolled (record { node = n; low = low.value; high = high.value }))
            (low.walk ⊳ high.walk ⊳ one_node high.to);
      }

  high_part : (t : tree.High) {total : ℕ} {rest : List Kind} (p : Place total (spell.spell_high t rest))
      → Part view.high_of number.numbers_of_high t total rest p.at
  high_part tree.no_high p = no_value p refl
  high_part (tree.high_expr e) p =
      let one = expr e (next p) in
      record { value = Some one.value; seen = ap tree.high_expr one.seen; to = one.to; walk = one_token p ⊳ one.walk }

  label_tail : (t : tree.LabelTail) {total : ℕ} {rest : List Kind} (p : Place total (spell.spell_label_tail t rest))
      → Parts view.labels_of number.numbers_of_labels t total rest p.at
  label_tail tree.no_label p = no_items p refl
  label_tail (tree.more_label l more) p =
      let one = label l (next p) in
      let others = label_tail more one.to in
      record {
        items = one.value ∷ others.items;
        seen = ap₂ tree.more_label one.seen others.seen;
        to = others.to;
        walk = one_token p ⊳ one.walk ⊳ others.walk;
        few = one_more p (stayed p) one.walk (length others.items) others.to.at.token others.few;
      }

  pub expr : (t : tree.Expr) {total : ℕ} {rest : List Kind} (p : Place total (spell.spell_expr t rest))
      → Part view.view_expr number.number_expr t total rest p.at
  expr (tree.expr s right) p =
      let one = simple s p in
      let other = compared_part right one.to in
      let n = other.to.at.node in
      record {
        value = de.roll-Expr (record { node = n; left = one.value; right = other.value });
        seen = seen.expr_rolled (record { node = n; left = one.value; right = other.value }) ∙ ap₂ tree.expr one.seen other.seen;
        to = counted other.to;
        walk = of_step (laid.expr_rolled (record { node = n; left = one.value; right = other.value }))
            (one.walk ⊳ other.walk ⊳ one_node other.to);
      }

  compared_part : (t : tree.Compared) {total : ℕ} {rest : List Kind} (p : Place total (spell.spell_compared t rest))
      → Part view.compared_of number.numbers_of_compared t total rest p.at
  compared_part tree.no_relation p = no_value p refl
  compared_part (tree.compared r s) p =
      let one = simple s (next p) in
      record {
        value = Some (box (dc.roll-Compared (record { relation = r; right = one.value })));
        seen = compared_seen r one.value ∙ ap (tree.compared r) one.seen;
        to = one.to;
        walk = of_step (compared_laid r one.value) (one_token p ⊳ one.walk);
      }

  simple : (t : tree.Simple) {total : ℕ} {rest : List Kind} (p : Place total (spell.spell_simple t rest))
      → Part view.view_simple number.number_simple t total rest p.at
  simple (tree.simple sign t more) p =
      let mark = signed sign p in
      let first = term t mark.to in
      let others = term_tail more first.to in
      let n = others.to.at.node in
      record {
        value = di.roll-Simple (record { node = n; sign = sign; first = box first.value; more = vec_of others });
        seen = seen.simple_rolled (record { node = n; sign = sign; first = box first.value; more = vec_of others })
            ∙ ap₂ (tree.simple sign) first.seen others.seen;
        to = counted others.to;
        walk = of_step (laid.simple_rolled (record { node = n; sign = sign; first = box first.value; more = vec_of others }))
            (mark.walk ⊳ first.walk ⊳ others.walk ⊳ one_node others.to);
      }

  term_tail : (t : tree.TermTail) {total : ℕ} {rest : List Kind} (p : Place total (spell.spell_term_tail t rest))
      → Parts view.terms_of number.numbers_of_terms t total rest p.at
  term_tail tree.no_term p = no_items p refl
  term_tail (tree.more_term o t more) p =
      let one = term t (next p) in
      let others = term_tail more one.to in
      record {
        items = dk.roll-AddLink (record { operator = o; operand = one.value }) ∷ others.items;
        seen = link_seen o one.value others.items ∙ ap₂ (tree.more_term o) one.seen others.seen;
        to = others.to;
        walk = of_step (link_laid o one.value others.items) (one_token p ⊳ one.walk ⊳ others.walk);
        few = one_more p (stayed p) one.walk (length others.items) others.to.at.token others.few;
      }

  term : (t : tree.Term) {total : ℕ} {rest : List Kind} (p : Place total (spell.spell_term t rest))
      → Part view.view_term number.number_term t total rest p.at
  term (tree.term f more) p =
      let first = factor f p in
      let others = factor_tail more first.to in
      let n = others.to.at.node in
      record {
        value = dm.roll-Term (record { node = n; first = first.value; more = vec_of others });
        seen = seen.term_rolled (record { node = n; first = first.value; more = vec_of others }) ∙ ap₂ tree.term first.seen others.seen;
        to = counted others.to;
        walk = of_step (laid.term_rolled (record { node = n; first = first.value; more = vec_of others }))
            (first.walk ⊳ others.walk ⊳ one_node others.to);
      }

  factor_tail : (t : tree.FactorTail) {total : ℕ} {rest : List Kind} (p : Place total (spell.spell_factor_tail t rest))
      → Parts view.factors_of number.numbers_of_factors t total rest p.at
  factor_tail tree.no_factor p = no_items p refl
  factor_tail (tree.more_factor o f more) p =
      let one = factor f (next p) in
      let others = factor_tail more one.to in
      record {
        items = record { operator = o; operand = one.value } ∷ others.items;
        seen = ap₂ (tree.more_factor o) one.seen others.seen;
        to = others.to;
        walk = one_token p ⊳ one.walk ⊳ others.walk;
        few = one_more p (stayed p) one.walk (length others.items) others.to.at.token others.few;
      }

  factor : (t : tree.Factor) {total : ℕ} {rest : List Kind} (p : Place total (spell.spell_factor t rest))
      → Part view.view_factor number.number_factor t total rest p.at
  factor (tree.not_factor t) p =
      let one = primary t (next p) in
      record {
        value = dr.Not one.to.at.node one.value;
        seen = ap tree.not_factor one.seen;
        to = counted one.to;
        walk = one_token p ⊳ one.walk ⊳ one_node one.to;
      }
  factor (tree.factor t) p =
      let one = primary t p in
      record {
        value = dr.Plain one.to.at.node one.value;
        seen = ap tree.factor one.seen;
        to = counted one.to;
        walk = one.walk ⊳ one_node one.to;
      }

  primary : (t : tree.Primary) {total : ℕ} {rest : List Kind} (p : Place total (spell.spell_primary t rest))
      → Part view.view_primary number.number_primary t total rest p.at
  primary tree.number p = record {
    value = dp.Number (next p).at.node (leaf_at p);
    seen = refl;
    to = counted (next p);
    walk = one_leaf p ⊳ one_node (next p);
  }
  primary tree.literal p = record {
    value = dp.Literal (next p).at.node (leaf_at p);
    seen = refl;
    to = counted (next p);
    walk = one_leaf p ⊳ one_node (next p);
  }
  primary (tree.named d a) p =
      let one = desig d p in
      let values = args_part a one.to in
      let n = values.to.at.node in
      record {
        value = dp.Desig n one.value values.value;
        seen = seen.named_laid n one.value values.value ∙ ap₂ tree.named one.seen values.seen;
        to = counted values.to;
        walk = of_step (laid.named_laid n one.value values.value) (one.walk ⊳ values.walk ⊳ one_node values.to);
      }
  primary (tree.paren s) p =
      let body = stmts s (next p) in
      let ended = next body.to in
      let n = ended.at.node in
      record {
        value = dp.Paren n (box body.value);
        seen = seen.paren_laid n (box body.value) ∙ ap tree.paren body.seen;
        to = counted ended;
        walk = of_step (laid.paren_laid n (box body.value)) (one_token p ⊳ body.walk ⊳ one_token body.to ⊳ one_node ended);
      }
  primary (tree.known d) p =
      let one = desig d (next (next p)) in
      let ended = next one.to in
      let n = ended.at.node in
      record {
        value = dp.Known n one.value;
        seen = seen.known_laid n one.value ∙ ap tree.known one.seen;
        to = counted ended;
        walk = of_step (laid.known_laid n one.value)
            (one_token p ⊳ one_token (next p) ⊳ one.walk ⊳ one_token one.to ⊳ one_node ended);
      }
  primary (tree.ord e) p =
      let one = expr e (next (next p)) in
      let ended = next one.to in
      record {
        value = dp.Ord ended.at.node (box one.value);
        seen = ap tree.ord one.seen;
        to = counted ended;
        walk = one_token p ⊳ one_token (next p) ⊳ one.walk ⊳ one_token one.to ⊳ one_node ended;
      }
  primary (tree.chr e) p =
      let one = expr e (next (next p)) in
      let ended = next one.to in
      record {
        value = dp.Chr ended.at.node (box one.value);
        seen = ap tree.chr one.seen;
        to = counted ended;
        walk = one_token p ⊳ one_token (next p) ⊳ one.walk ⊳ one_token one.to ⊳ one_node ended;
      }

  args_part : (t : tree.Args) {total : ℕ} {rest : List Kind} (p : Place total (spell.spell_args t rest))
      → Part view.args_of number.numbers_of_args t total rest p.at
  args_part tree.no_args p = no_value p refl
  args_part tree.empty_args p = record {
    value = Some (dg.roll-Args (record { values = None }));
    seen = args_seen None;
    to = next (next p);
    walk = of_step (args_laid None) (one_token p ⊳ one_token (next p));
  }
  args_part (tree.args es) p =
      let one = exprs es (next p) in
      record {
        value = Some (dg.roll-Args (record { values = Some one.value }));
        seen = args_seen (Some one.value) ∙ ap tree.args one.seen;
        to = next one.to;
        walk = of_step (args_laid (Some one.value)) (one_token p ⊳ one.walk ⊳ one_token one.to);
      }

  exprs : (t : tree.Exprs) {total : ℕ} {rest : List Kind} (p : Place total (spell.spell_exprs t rest))
      → Part view.view_exprs number.number_exprs t total rest p.at
  exprs (tree.exprs e more) p =
      let first = expr e p in
      let others = expr_tail more first.to in
      record {
        value = dx.roll-Exprs (record { first = box first.value; more = vec_of others });
        seen = seen.exprs_rolled (record { first = box first.value; more = vec_of others }) ∙ ap₂ tree.exprs first.seen others.seen;
        to = others.to;
        walk = of_step (laid.exprs_rolled (record { first = box first.value; more = vec_of others })) (first.walk ⊳ others.walk);
      }

  expr_tail : (t : tree.ExprTail) {total : ℕ} {rest : List Kind} (p : Place total (spell.spell_expr_tail t rest))
      → Parts view.exprs_of number.numbers_of_exprs t total rest p.at
  expr_tail tree.no_expr p = no_items p refl
  expr_tail (tree.more_expr e more) p =
      let one = expr e (next p) in
      let others = expr_tail more one.to in
      record {
        items = one.value ∷ others.items;
        seen = ap₂ tree.more_expr one.seen others.seen;
        to = others.to;
        walk = one_token p ⊳ one.walk ⊳ others.walk;
        few = one_more p (stayed p) one.walk (length others.items) others.to.at.token others.few;
      }

  desig : (t : tree.Desig) {total : ℕ} {rest : List Kind} (p : Place total (spell.spell_desig t rest))
      → Part view.view_desig number.number_desig t total rest p.at
  desig (tree.desig more) p =
      let others = selector_tail more (counted (next p)) in
      record {
        value = record { node = others.to.at.node; name = name_at p; more = vec_of others };
        seen = ap tree.desig others.seen;
        to = counted others.to;
        walk = one_name p ⊳ others.walk ⊳ one_node others.to;
      }

  selector_tail : (t : tree.SelectorTail) {total : ℕ} {rest : List Kind} (p : Place total (spell.spell_selector_tail t rest))
      → Parts view.selectors_of number.numbers_of_selectors t total rest p.at
  selector_tail tree.no_selector p = no_items p refl
  selector_tail (tree.more_selector tree.field more) p =
      let ended = counted (next (next p)) in
      let others = selector_tail more (counted ended) in
      record {
        items = dj.Field ended.at.node (name_at (next p)) ∷ others.items;
        seen = ap (tree.more_selector tree.field) others.seen;
        to = others.to;
        walk = (one_token p ⊳ one_name (next p) ⊳ one_node ended) ⊳ others.walk;
        few = one_more p (stayed p) (one_name (next p) ⊳ one_node ended) (length others.items) others.to.at.token others.few;
      }
  selector_tail (tree.more_selector (tree.index es) more) p =
      let one = exprs es (next p) in
      let ended = next one.to in
      let others = selector_tail more (counted ended) in
      record {
        items = dj.Index ended.at.node one.value ∷ others.items;
        seen = ap₂ (λ x y. tree.more_selector (tree.index x) y) one.seen others.seen;
        to = others.to;
        walk = (one_token p ⊳ one.walk ⊳ one_token one.to ⊳ one_node ended) ⊳ others.walk;
        few = one_more p (stayed p) (one.walk ⊳ one_token one.to ⊳ one_node ended) (length others.items) others.to.at.token others.few;
      }
