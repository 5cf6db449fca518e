use Rattle.std.proofs.Common.{◌≡◌, [], ◌∷◌, ◌++◌, ◌∙◌, sym, ap, decimal, append_assoc, rules}
use Rattle.c_printer.specs.Powers.{digits_text}
use Rattle.c_printer.proofs.Powers.{digits_text-append}
use Rattle.c_printer.proofs.text.put_digits.Goals as goal

pub loop-digit-preserved : goal.loop-digit-preserved
loop-digit-preserved c h =
    let out = c.loop-digit.out.bytes.items in
    let left = c.pop.new.self.items in
    let popped : c.loop-digit.digits.items ≡ left ++ c.in-Some.digit ∷ [] = search rules in
    let second = c.put_number.ensures h in
    let first = c.loop-digit.invariant second.0 in (
      first.0,
      λ rest. second.1 (digits_text left ++ rest)
          ∙ ap (λ d. out ++ (decimal d ++ (digits_text left ++ rest))) c.from.ensures
          ∙ ap (λ t. out ++ t) (sym (append_assoc (decimal c.in-Some.digit) (digits_text left) rest) ∙ ap (λ t. t ++ rest) (sym (ap digits_text popped ∙ digits_text-append left c.in-Some.digit)))
          ∙ first.1 rest,
    )
