use Rattle.std.proofs.Common.{◌≡◌, ◌-◌, ◌++◌}
use Rattle.instrumentation.specs.Guarded.{register_words}
use Rattle.table_builder.specs.Words.{plain_words}
use Rattle.unit_builder.proofs.guarded.add_registers.Given as goal

abbrev pub invariant-loop-load : goal.invariant-loop-load
invariant-loop-load l =
    plain_words l.words ++ register_words l.load (l.registers - l.load) ≡ plain_words l.fn.words ++ register_words 0 l.registers
