use Rattle.std.proofs.Common.{◌∙◌, ap}
use Rattle.clap.specs.Faults.{is_free_app}
use Rattle.clap.specs.Words.{app_of, built, first_of, found_of, is_simple}
use Rattle.clap.proofs.WalkLemmas.{first_value-rows}
use Rattle.command_line.proofs.Both.{first_of_both}
use Rattle.command_line.proofs.forms.parsed.Goals as goal

pub returns-in-Ok-clause-taken : goal.returns-in-Ok-clause-taken
returns-in-Ok-clause-taken c = λ free.
    let simple = first_of_both (is_simple (app_of c.args.command)) (is_free_app (built (app_of c.args.command))) free in
    record {
      free = c.in-Ok.ensures.kinds free;
      values = λ id. first_value-rows (found_of c.in-Ok.matches) id ∙ ap (first_of id) (c.in-Ok.ensures.matches simple).0;
    }
