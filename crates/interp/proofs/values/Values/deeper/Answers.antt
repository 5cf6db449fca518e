use Rattle.std.proofs.Common.{◌≡◌, ◌+◌, ◌++◌, length, List, take, drop, ℤ, ap, ◌∙◌, rules}
use Rattle.interp.specs.Values.{further_in}
use Rattle.interp.proofs.Deeper.{further_back}
use Rattle.interp.proofs.values.Values.deeper.Goals as goal

pub returns-then-self-lt6-clause-around : goal.returns-then-self-lt6-clause-around
returns-then-self-lt6-clause-around c =
    let six : length c.args.self.now.near ≡ 6 = search rules in
    ap (λ (near : List ℤ). drop 1 (take (c.args.self.now.count + 1) near ++ further_in c.args.self.now.further)) c.copy_within.ensures.after
    ∙ further_back c.args.self.now.near c.args.self.now.count (further_in c.args.self.now.further) six c.if-self-lt6.true
