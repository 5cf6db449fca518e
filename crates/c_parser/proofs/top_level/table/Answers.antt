use Rattle.std.proofs.Common.{◌≡◌, Some, sym, ap, ◌∙◌}
use Rattle.c_tree.specs.Plain as plain
use Rattle.c_tree.specs.Plain.{Word, PlainExpr}
use Rattle.c_tree.specs.Trees as t
use Rattle.expression_parser.specs.Terminals.{all_seen}
use Rattle.statement_parser.specs.Names.{name_in}
use Rattle.c_tree.proofs.Equations.{stmt-Table}
use Rattle.c_parser.proofs.Tables.{table_in_steps}
use Rattle.c_parser.proofs.top_level.table.Goals as goal

pub returns : goal.returns
returns c =
    let name_is : t.word c.in_ok-name.name ≡ name_in c.args.text.now c.in_ok-place.place = c.in_ok-name.ensures ∙ c.word.ensures in
    table_in_steps c.args.c (all_seen c.args.text.now c.args.ts.now) (all_seen c.args.text.now c.in_ok-rest.rest.now) (all_seen c.args.text.now c.in_ok-place.rest.now) (all_seen c.args.text.now c.in_ok-rest-2.rest.now) (all_seen c.args.text.now c.in_ok-length.rest.now) (all_seen c.args.text.now c.in_ok-rest-3.rest.now)
    (name_in c.args.text.now c.in_ok-place.place) (t.expr c.in_ok-length.length.value) c.in_ok-rest.ensures c.in_ok-place.ensures c.in_ok-rest-2.ensures c.in_ok-length.ensures c.in_ok-rest-3.ensures
    ∙ ap (λ (x : Word). Some (plain.table x (t.expr c.in_ok-length.length.value), all_seen c.args.text.now c.in_ok-rest-3.rest.now)) (sym name_is)
    ∙ ap (λ (u : PlainExpr). Some (plain.table (t.word c.in_ok-name.name) u, all_seen c.args.text.now c.in_ok-rest-3.rest.now)) (sym (ap t.expr c.into_inner-length.ensures))
    ∙ ap (λ (a : plain.PlainStmt). Some (a, all_seen c.args.text.now c.in_ok-rest-3.rest.now)) (sym (stmt-Table c.in_ok-name.name c.into_inner-length.result))
