use Rattle.std.proofs.Common.{◌≡◌, length, arith, ap}
use Rattle.c_tree.specs.Trees.{stmts}
use Rattle.text_parts.specs.Numbered.{numbers, sizes}
use Rattle.text_parts.specs.Small.{IsSmall}
use Rattle.unit_builder.proofs.PieceCounts.{enough_pieces, given_pieces}
use Rattle.unit_builder.proofs.guarded.guarded_statements.Goals as goal

pub instrumented-requires-clause-given : goal.instrumented-requires-clause-given
unfolding IsSmall
instrumented-requires-clause-given c =
    let enough = enough_pieces (numbers c.args.params.now) (sizes c.args.params.now) (stmts c.args.whole.now) c.in_ok-pieces.pieces c.in_ok-pieces.ensures in
    let seen : length c.as_slice.result.now ≡ length c.in_ok-pieces.pieces = ap length c.as_slice.ensures in
    omega arith

pub returns : goal.returns
returns c = given_pieces (numbers c.args.params.now) (sizes c.args.params.now) (stmts c.args.whole.now) c.in_ok-pieces.pieces c.as_slice.result.now c.in_ok-pieces.ensures c.as_slice.ensures c.instrumented.result c.instrumented.ensures
