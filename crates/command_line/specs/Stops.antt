-- The cause that a refusal of a source text, or of a flip file, is.
use Rattle.c_tree.specs.declared.refusal.Refusal.{Refusal}
use Rattle.c_tree.specs.declared.refusal.Refusal.TheVariants as refusal
use Rattle.fault_plan.specs.declared.refusal.FlipRefusal.{FlipRefusal}
use Rattle.fault_plan.specs.declared.refusal.FlipRefusal.TheVariants as flip
use Rattle.command_line.specs.declared.outcome.Stop.{Stop}
use Rattle.command_line.specs.declared.outcome.Stop.TheVariants.{SourceRefused, FlipRefused, NoMemory}

abbrev pub stop_of : Refusal → Stop
stop_of refusal.OutOfMemory = NoMemory
stop_of why = SourceRefused why

abbrev pub flip_stop_of : FlipRefusal → Stop
flip_stop_of flip.OutOfMemory = NoMemory
flip_stop_of why = FlipRefused why
