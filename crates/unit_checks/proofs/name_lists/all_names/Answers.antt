use Rattle.std.proofs.Common.{rules, append_assoc}
use Rattle.unit_checks.proofs.name_lists.all_names.Goals as goal

pub returns : goal.returns
returns c = search (rules, append_assoc)
