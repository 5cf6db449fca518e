use Rattle.std.proofs.Common.{◌≡◌, ◌-◌, flat_map}
use Rattle.data_file.specs.Texts.{cell_text}
use Rattle.text_writer.specs.Written.{fixed, left_to_add}
use Rattle.demo_kernels.specs.Generator.{after, drawn}
use Rattle.demo_kernels.proofs.generator.put_cells.Given as goal

abbrev pub invariant-loop-turn : goal.invariant-loop-turn
invariant-loop-turn l =
    left_to_add l.fn.out l.out (fixed (flat_map cell_text (drawn l.fn.limit l.fn.count l.fn.start))) (fixed (flat_map cell_text (drawn l.fn.limit (l.fn.count - l._turn) l.last)))
    × (after l.fn.count l.fn.start ≡ after (l.fn.count - l._turn) l.last)
