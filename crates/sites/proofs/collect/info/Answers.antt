use Rattle.std.proofs.Common.{List, refl, ap, ◌∙◌, subst, map, ℕ}
use Rattle.c_tree.specs.Names.{ints_in, words}
use Rattle.c_tree.specs.Plain.{Word}
use Rattle.c_tree.specs.Trees.{exprs, param}
use Rattle.c_tree.specs.declared.name.Name.{Name}
use Rattle.c_tree.specs.declared.unit.Param.{Param}
use Rattle.sites.specs.Infos.{Pairs, ShowsLoop, ShowsTests, ShowsSubscripts, loops_around, tests_around}
use Rattle.sites.specs.Outers.{outers_in}
use Rattle.sites.specs.Variables.{variables_around, variables_in}
use Rattle.sites.proofs.collect.info.Goals as goal

pub returns : goal.returns
returns c x =
    let os = outers_in c.args.place.now.outers.now in
    let same = ap (λ (qs : List Param). ints_in (map param qs)) c.as_slice-params.ensures in
    record {
      site_is = refl;
      statement_is = refl;
      position_is = refl;
      write_is = refl;
      loops_are = subst (λ (ints : List Word). Pairs (ShowsLoop ints) c.in_ok-loops.loops (loops_around os)) same c.in_ok-loops.ensures;
      tests_are = subst (λ (ints : List Word). Pairs (ShowsTests ints) c.in_ok-tests.tests (tests_around os)) same c.in_ok-tests.ensures;
      subscripts_are =
          subst (λ (xs : List (Word × ℕ)). ShowsSubscripts (words c.args.place.now.query.now.arrays.now) xs c.in_ok-subscripts.subscripts (exprs c.args.at.now))
          (c.in_ok-v.ensures.same ∙ ap (λ (ints : List Word). variables_around ints os) same)
          (subst (λ (names : List Name). ShowsSubscripts (words names) (variables_in c.in_ok-v.v) c.in_ok-subscripts.subscripts (exprs c.args.at.now)) c.as_slice.ensures c.in_ok-subscripts.ensures);
    }
