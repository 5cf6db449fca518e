use Rattle.accepted_laws.specs.Sample.{source}
use Rattle.instrumentation.specs.Guarded.{guarded}
use Rattle.tree_texts.proofs.a_nest_has_texts.Goals as goal

pub returns-clause-of_source : goal.returns-clause-of_source
returns-clause-of_source c = c.trees_have_texts.ensures.source source c.a_nest_is_accepted.ensures.tree

pub returns-clause-instrumented : goal.returns-clause-instrumented
returns-clause-instrumented c = c.trees_have_texts.ensures.printed (guarded source) c.a_nest_is_accepted.ensures.printed
