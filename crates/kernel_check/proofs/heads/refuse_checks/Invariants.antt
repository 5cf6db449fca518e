use Rattle.std.proofs.Common.{◌≡◌, map, drop, false}
use Rattle.std.specs.List.{list_any}
use Rattle.acceptance.specs.Items.{lowest}
use Rattle.kernel_check.specs.Conditions.{carries_count, judgement_at_head}
use Rattle.scopes.specs.Scopes.{declared_in}
use Rattle.kernel_check.proofs.heads.refuse_checks.Given as goal

abbrev pub invariant-loop-check : goal.invariant-loop-check
invariant-loop-check l =
    let judge = judgement_at_head (declared_in l.declared) in
    (list_any carries_count (drop l.check-index l.checks) ≡ false) × (lowest (map judge l.checks) ≡ lowest (map judge (drop l.check-index l.checks)))
