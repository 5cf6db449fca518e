use Rattle.std.proofs.Common.{◌∙◌, ◌≤◌, ap, length, subst}
use Rattle.text_pieces.specs.Numbers.{number_in}
use Rattle.command_line.proofs.Numbers.{none, past, taken}
use Rattle.command_line.proofs.words.number_of.Goals as goal

pub returns-in-Some : goal.returns-in-Some
returns-in-Some c =
    let same = c.as_bytes-digits.ensures.value in
    let short = subst (λ digits. length digits ≤ 5) same c.if-digits-gt-MOST_DIGITS.false in
    taken c.args.word.now c.in-Some.value c.number.result short (c.number.ensures ∙ ap (number_in 10) same) c.in-Some.is c.if-value-le-LAST_NUMBER.true

pub returns-in_default : goal.returns-in_default
returns-in_default c =
    let same = c.as_bytes-digits.ensures.value in
    let short = subst (λ digits. length digits ≤ 5) same c.if-digits-gt-MOST_DIGITS.false in
    past c.args.word.now c.in-Some.value c.number.result short (c.number.ensures ∙ ap (number_in 10) same) c.in-Some.is c.if-value-le-LAST_NUMBER.false

pub returns-in_default-2 : goal.returns-in_default-2
returns-in_default-2 c =
    let same = c.as_bytes-digits.ensures.value in
    let short = subst (λ digits. length digits ≤ 5) same c.if-digits-gt-MOST_DIGITS.false in
    none c.args.word.now c.number.result short (c.number.ensures ∙ ap (number_in 10) same) c.in_default.is
