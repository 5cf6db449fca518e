-- Which trees are units of the grammar: those that some text has.
use Rattle.std.specs.Prelude.{is_some}
use Rattle.c_tree.specs.Plain.{PlainUnit}
use Rattle.layout_laws.specs.Fine.{FineUnit}
use Rattle.layout_laws.specs.Proper.{ProperUnit}

pub record IsTree (u : PlainUnit) : Type 0 where
  pub fine : FineUnit u
  pub proper : ProperUnit (is_some u.version) u
