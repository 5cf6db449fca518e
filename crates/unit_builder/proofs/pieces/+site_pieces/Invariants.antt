use Rattle.std.proofs.Common.{◌≡◌, ◌+◌, ◌++◌, ◌≤◌, ◌<◌, ◌^◌, map, drop}
use Rattle.c_tree.specs.Trees.{stmt, stmts}
use Rattle.c_tree.specs.Instances.{sites_all}
use Rattle.instrumentation.specs.Pieces.{site_pieces_all}
use Rattle.text_parts.specs.Numbered.{numbers, sizes}
use Rattle.text_parts.specs.Weight.{weight, weight_all}
use Rattle.unit_builder.proofs.pieces.+site_pieces.Given as goal

abbrev pub decreases-add_pieces : goal.decreases-add_pieces
decreases-add_pieces l = weight (stmt l.s.now)

abbrev pub decreases-add_all_pieces : goal.decreases-add_all_pieces
decreases-add_all_pieces l = weight_all (stmts l.body.now)

abbrev pub invariant-add_all_pieces-loop-s : goal.invariant-add_all_pieces-loop-s
invariant-add_all_pieces-loop-s l = record {
  numbered : l.next + sites_all (stmts (drop l.s-index l.s-items)) < 2 ^ 64;
  smaller : weight_all (stmts (drop l.s-index l.s-items)) ≤ weight_all (stmts l.s-items);
  rest : map (map stmt) l.pieces ++ site_pieces_all (numbers l.params) (sizes l.params) (stmts l.whole) l.next (stmts (drop l.s-index l.s-items)) ≡ map (map stmt) l.fn.pieces ++ site_pieces_all (numbers l.params) (sizes l.params) (stmts l.whole) l.fn.first (stmts l.s-items);
}
