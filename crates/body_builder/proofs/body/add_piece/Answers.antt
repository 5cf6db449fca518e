use Rattle.std.proofs.Common.{◌++◌, map, ap, ◌∙◌}
use Rattle.std.proofs.lemmas.List.{map-append}
use Rattle.c_tree.specs.Trees.{stmt}
use Rattle.body_builder.proofs.Statements.{same_statements}
use Rattle.body_builder.proofs.body.add_piece.Goals as goal

pub returns : goal.returns
returns c =
    let old = c.args.out.now in
    let copied = c.in_ok-copy.field-0 in
    ap (map stmt) c.in_ok-append.ensures ∙ map-append stmt old copied ∙ ap (λ l. map stmt old ++ l) (same_statements copied c.args.piece.now c.in_ok-copy.ensures)
