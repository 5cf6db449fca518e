use Rattle.std.proofs.Common.{nat_eq, ap, sym, ◌∙◌, ℕ}
use Rattle.acceptance.specs.Printed.{dimensions}
use Rattle.scopes.specs.Scopes.{scope_in}
use Rattle.unit_checks.proofs.Lists.{counted}
use Rattle.unit_checks.proofs.dimensions.takes.Goals as goal

pub returns : goal.returns
returns c =
    ap (λ (n : ℕ). nat_eq n c.len.result) c.dimensions.ensures
    ∙ ap (λ (n : ℕ). nat_eq (dimensions (scope_in c.args.sc.now) c.args.x.now.bytes) n) (c.len.ensures ∙ sym (counted c.args.at.now))
