-- The report on a source.
use Rattle.std.specs.Prelude.{◌≡◌}
use Rattle.c_tree.specs.Plain.{PlainUnit}
use Rattle.command_line.specs.declared.outcome.Finish.TheVariants.{Done}
use Rattle.command_line.specs.declared.outcome.Output.{Output}
use Rattle.reports.specs.Texts.{report_text}

-- the class of each array, and how many sites it has
pub record IsReported (source : PlainUnit) (output : Output) : Type 0 where
  pub text : output.text ≡ report_text source
  pub done : output.finish ≡ Done
