-- What the function computes at the edge of the grammar.
use Rattle.std.proofs.Common.{◌≡◌, Option, Some, None, refl}
use Rattle.c_tree.specs.Plain.{PlainExpr}
use Rattle.grammar_reading.specs.Reading.{whole, expr, opens, paren, expect, same, climb, close, closes, cells, one_cell, operand, node, two, wide_parts, number_at, wide_parts_cast, grouped, word_cast}
use Rattle.grammar_reading.specs.Edges.{few, three_around, left_deep, left_deep_tree}

pub refused : whole few three_around ≡ None
unfolding whole expr opens paren expect same climb close closes cells one_cell operand node two wide_parts number_at wide_parts_cast grouped word_cast
refused = refl

pub read : whole few left_deep ≡ Some left_deep_tree
unfolding whole expr opens paren expect same climb close closes cells one_cell operand node two wide_parts number_at wide_parts_cast grouped word_cast
read = refl

pub apart : {o : Option PlainExpr} {u : PlainExpr} → o ≡ None → o ≡ Some u → ⊥
apart e f = cc
