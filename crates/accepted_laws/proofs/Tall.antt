-- The bounds on heights are met.
use Rattle.std.proofs.Common.{◌≡◌, None, refl, arith}
use Rattle.c_tree.specs.Grammar.Statements.{stmts_height}
use Rattle.instrumentation.specs.Guarded.{guarded}
use Rattle.acceptance.specs.Heights.{all_exprs_height, IsLow}
use Rattle.acceptance.specs.Sources.{refusal}
use Rattle.accepted_laws.specs.Tall.{tall}

pub tall_low : IsLow 64 64 tall
tall_low = record { stmts = omega arith; exprs = omega arith; extents = omega arith }

pub tall_unrefused : refusal tall ≡ None
tall_unrefused = refl

pub tall_stmts : stmts_height (guarded tall).body ≡ 129
tall_stmts = refl

pub tall_exprs : all_exprs_height (guarded tall).body ≡ 65
tall_exprs = refl
