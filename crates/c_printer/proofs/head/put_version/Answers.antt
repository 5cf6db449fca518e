use Rattle.std.proofs.Common.{◌++◌, ◌∙◌, ap, sym, codes, decimal}
use Rattle.c_tree.specs.Layout.{preamble}
use Rattle.c_printer.specs.Before.{version_before}
use Rattle.text_writer.proofs.Writes.{then_adds, same_adds}
use Rattle.c_printer.proofs.head.put_version.Goals as goal

pub returns : goal.returns
returns c =
    let last = c.put-3.new.self in
    same_adds c.args.out.now last _ _
    (then_adds c.args.out.now c.put.new.self last _ _ c.put.ensures
    (then_adds c.put.new.self c.put-2.new.self last _ _ c.put-2.ensures
    (then_adds c.put-2.new.self c.put_number.new.self last _ _ c.put_number.ensures c.put-3.ensures)))
    (λ rest. ap (λ x. x ++ (codes "#pragma balance version " ++ (decimal c.from.result ++ (codes "\n" ++ rest)))) c.preamble.ensures
    ∙ ap (λ n. preamble ++ (codes "#pragma balance version " ++ (decimal n ++ (codes "\n" ++ rest)))) c.from.ensures
    ∙ ap (λ v. version_before v rest) (sym c.in-Some.is))
