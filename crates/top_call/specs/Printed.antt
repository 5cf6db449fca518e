-- The text that is printed for a source: which properties it has, whatever it is.
use Rattle.std.specs.Prelude.{◌≡◌, ◌++◌, Some, codes}
use Rattle.c_tree.specs.Plain.{PlainUnit}
use Rattle.c_tree.specs.Grammar.Texts.{IsText}
use Rattle.c_tree.specs.Layout.{layout}
use Rattle.acceptance.specs.Printed.{IsAcceptedPrinted, StoresNothingBefore}
use Rattle.flip_laws.specs.FaultyRuns.{TellsOfFaults}
use Rattle.command_line.specs.declared.outcome.Finish.TheVariants.{Done}
use Rattle.command_line.specs.declared.outcome.Output.{Output}

-- how a unit that is made for a source begins: the function is called `bal_fn_` and the source's name, and takes what the source takes
pub record HasHeadOf (source unit : PlainUnit) : Type 0 where
  pub version : unit.version ≡ Some 1
  pub ranges : unit.ranges ≡ source.ranges
  pub name : unit.name ≡ codes "bal_fn_" ++ source.name
  pub params : unit.params ≡ source.params

-- The layout of a printed unit, which is a text of it by the grammar. The unit has the source's head, is accepted, stores
-- into no array before it begins, and guards the source: in detail, with all that is known of its runs, with a fault and
-- without, beside the source's.
pub record IsPrinted (source : PlainUnit) (output : Output) : Type 0 where
  pub unit : PlainUnit
  pub text : output.text ≡ layout unit
  pub is_text : IsText output.text unit
  pub head : HasHeadOf source unit
  pub accepted : IsAcceptedPrinted unit
  pub stores : StoresNothingBefore unit
  pub faults : TellsOfFaults source unit
  pub done : output.finish ≡ Done
