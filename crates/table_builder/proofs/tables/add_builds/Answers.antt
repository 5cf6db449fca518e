use Rattle.std.proofs.Common.{List, map, subst}
use Rattle.std.specs.Prelude.{OnOk}
use Rattle.c_tree.specs.Plain.{PlainStmt}
use Rattle.c_tree.specs.Trees.{param}
use Rattle.instrumentation.specs.Guarded.{arrays_with_extents}
use Rattle.text_parts.specs.Built.{Adds}
use Rattle.table_builder.proofs.Builds.{all_builds}
use Rattle.table_builder.proofs.tables.add_builds.Goals as goal

pub returns : goal.returns
returns c =
    subst (λ (l : List PlainStmt). OnOk c.add_each_build.result (Adds c.args.text.now c.add_each_build.new.text l))
    (all_builds c.args.params.now c.args.whole.now 0 (arrays_with_extents (map param c.args.params.now))) c.add_each_build.ensures
