use Rattle.std.proofs.Common.{[], ap, ◌∙◌, sym}
use Rattle.c_tree.specs.Trees.{stmts}
use Rattle.acceptance.specs.Items.{items_all}
use Rattle.kernel_check.specs.Conditions.{excess}
use Rattle.scopes.specs.Scopes.{declared_in}
use Rattle.kernel_check.proofs.Flat.{found, first_is, stopped_at}
use Rattle.kernel_check.proofs.top.first_of.Goals as goal

pub returns-in-Ok : goal.returns-in-Ok
returns-in-Ok c room = sym (first_is (excess c.args.check (declared_in c.args.declared.now)) 1 (items_all (stmts c.args.body.now) [] []) ∙ ap found (c.in-Ok.ensures room))

pub returns-in-Err-Found : goal.returns-in-Err-Found
returns-in-Err-Found c room = sym (first_is (excess c.args.check (declared_in c.args.declared.now)) 1 (items_all (stmts c.args.body.now) [] []) ∙ ap found (stopped_at _ _ _ _ c.in-Err-Found.field-0-is (c.in-Err-Found.ensures room)))
