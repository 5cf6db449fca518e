use Rattle.std.proofs.Common.{◌≡◌, map, rules}
use Rattle.c_tree.specs.Names.{words, arrays_in, ints_in}
use Rattle.c_tree.specs.Trees.{param, unit}
use Rattle.c_printer.proofs.Befores.{whole_with}
use Rattle.c_printer.proofs.print.Goals as goal

pub returns : goal.returns
returns c =
    let params = map param c.args.unit.now.params in
    let arrays : words c.as_slice-4.result.now ≡ arrays_in params = search rules in
    let ints : words c.as_slice-3.result.now ≡ ints_in params = search rules in
    whole_with c.written.result _ _ (unit c.args.unit.now) arrays ints c.written.ensures
