use Rattle.std.proofs.Common.{◌++◌, codes, decimal, slice_get}
use Rattle.command_line.specs.DataRefusals.{array_name, range_name}
use Rattle.text_writer.proofs.Writes.{then_bytes}
use Rattle.command_line.proofs.data_refusals.put_refusal.Goals as goal

pub returns-in-Syntax : goal.returns-in-Syntax
returns-in-Syntax c = rw c.in-Syntax.is (then_bytes c.args.out.now c.put.new.self c.put_number.new.self (codes "I1 Syntax in line ") (decimal c.in-Syntax.line) c.put.ensures c.put_number.ensures)

pub returns-in-OutOfRange : goal.returns-in-OutOfRange
returns-in-OutOfRange c =
    let name = range_name (slice_get c.args.frame.now.ints c.in-OutOfRange.parameter) in
    rw c.in-OutOfRange.is (then_bytes c.args.out.now c.put-in-OutOfRange.new.self c.put_range_name.new.out (codes "I2 OutOfRange ") name c.put-in-OutOfRange.ensures c.put_range_name.ensures)

pub returns-in-TooLarge : goal.returns-in-TooLarge
returns-in-TooLarge c =
    let name = array_name (slice_get c.args.frame.now.arrays c.in-TooLarge.array) in
    rw c.in-TooLarge.is (then_bytes c.args.out.now c.put-in-TooLarge.new.self c.put_array_name.new.out (codes "I3 TooLarge ") name c.put-in-TooLarge.ensures c.put_array_name.ensures)

pub returns-in-WrongCells : goal.returns-in-WrongCells
returns-in-WrongCells c =
    let whole = c.put_number-in-WrongCells-2.new.self in
    let name = array_name (slice_get c.args.frame.now.arrays c.in-WrongCells.array) in
    let given = decimal c.in-WrongCells.given in
    let wanted = decimal c.in-WrongCells.wanted in
    let first = c.put-in-WrongCells.new.self in
    let second = c.put_array_name-in-WrongCells.new.out in
    let third = c.put-in-WrongCells-2.new.self in
    let fourth = c.put_number-in-WrongCells.new.self in
    let fifth = c.put-in-WrongCells-3.new.self in
    rw c.in-WrongCells.is
    (then_bytes c.args.out.now first whole (codes "I4 WrongCells ") (name ++ (codes " " ++ (wanted ++ (codes " " ++ given)))) c.put-in-WrongCells.ensures
    (then_bytes first second whole name (codes " " ++ (wanted ++ (codes " " ++ given))) c.put_array_name-in-WrongCells.ensures
    (then_bytes second third whole (codes " ") (wanted ++ (codes " " ++ given)) c.put-in-WrongCells-2.ensures
    (then_bytes third fourth whole wanted (codes " " ++ given) c.put_number-in-WrongCells.ensures
    (then_bytes fourth fifth whole (codes " ") given c.put-in-WrongCells-3.ensures c.put_number-in-WrongCells-2.ensures)))))
