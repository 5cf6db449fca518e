use Rattle.std.proofs.Common.{◌≡◌, map, rules, ap, Some}
use Rattle.c_tree.specs.Trees.{param, stmts, unit, word}
use Rattle.instrumentation.specs.Guarded.{guarded}
use Rattle.table_builder.specs.Words.{plain_words}
use Rattle.unit_builder.proofs.guarded.instrumented_unit.Goals as goal

pub returns : goal.returns
returns c =
    let source = unit c.args.source.now in
    let ranges : map (λ r. (word r.0, r.1, r.2)) c.in_ok-ranges.ranges ≡ source.ranges = ap (map (λ r. (word r.0, r.1, r.2))) c.in_ok-ranges.ensures in
    let params : map param c.in_ok-params.params ≡ source.params = c.in_ok-params.ensures in
    let words : plain_words c.in_ok-words.words ≡ (guarded source).words = search rules in
    let wides : map word c.in_ok-wides.wides ≡ (guarded source).wides = search rules in
    let body : stmts c.in_ok-body.body ≡ (guarded source).body = search rules in
    λ i. record {
      version = Some 1;
      ranges = ranges i;
      name = c.in_ok-name.ensures i;
      params = params i;
      words = words i;
      wides = wides i;
      body = body i;
    }
