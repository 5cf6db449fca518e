use Rattle.std.proofs.Common.{List, map, ap, ◌∙◌}
use Rattle.c_tree.specs.Names.{ints_in, words}
use Rattle.c_tree.specs.Plain.{Word}
use Rattle.c_tree.specs.Trees.{param}
use Rattle.sites.specs.Variables.{counted_from, numbers_of}
use Rattle.sites.proofs.Renumbering.{names_counted}
use Rattle.sites.proofs.variables.of_params.Goals as goal

pub returns : goal.returns
returns c =
    let ints = ints_in (map param c.args.params.now) in
    record {
      names_are = c.in_ok-names.ensures ∙ names_counted 1 ints;
      numbers_are = c.in_ok-numbers.ensures ∙ ap (λ ns. numbers_of (counted_from 1 (words ns))) c.as_slice.ensures ∙ ap (λ (xs : List Word). numbers_of (counted_from 1 xs)) c.in_ok-names.ensures;
    }
