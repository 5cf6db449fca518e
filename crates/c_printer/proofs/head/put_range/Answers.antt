use Rattle.std.proofs.Common.{rules, FitsSigned}
use Rattle.std.specs.Int.{w64}
use Rattle.std.proofs.lemmas.Int.{to_z-of_z}
use Rattle.text_writer.proofs.Writes.{then_adds}
use Rattle.c_printer.proofs.head.put_range.Goals as goal

pub returns : goal.returns
returns c =
    let least = c.args.range.now.1 in
    let greatest = c.args.range.now.2 in
    let least_fits : FitsSigned w64 least = search rules in
    let greatest_fits : FitsSigned w64 greatest = search rules in
    let last = c.put-2.new.self in
    rw (← to_z-of_z w64 least least_fits, ← to_z-of_z w64 greatest greatest_fits)
    (then_adds c.args.out.now c.put_name.new.out last _ _ c.put_name.ensures
    (then_adds c.put_name.new.out c.put_int.new.out last _ _ c.put_int.ensures
    (then_adds c.put_int.new.out c.put.new.self last _ _ c.put.ensures
    (then_adds c.put.new.self c.put_int-2.new.out last _ _ c.put_int-2.ensures c.put-2.ensures))))
