-- What a function that parses ensures.
use Rattle.std.specs.Prelude.{◌≡◌, Option, Some, None, Result, Ok, Err}
use Rattle.c_tree.specs.Plain.{PlainExprs, no_exprs, more_exprs}
use Rattle.expression_parser.specs.declared.error.ParseError.{ParseError}
use Rattle.expression_parser.specs.declared.error.ParseError.TheVariants.{Memory, Syntax}

abbrev pub Refuses : {Y : Type 0} → ParseError → Option Y → Type 0
Refuses Memory read = Unit {0}
Refuses (Syntax left) read = read ≡ None

-- What was returned, seen by view, is what reading gives, unless memory ran out.
abbrev pub Gives : {X Y : Type 0} → (X → Y) → Result X ParseError → Option Y → Type 0
Gives view (Ok x) read = read ≡ Some (view x)
Gives view (Err e) read = Refuses e read

abbrev pub joined : PlainExprs → PlainExprs → PlainExprs
joined no_exprs vs = vs
joined (more_exprs u us) vs = more_exprs u (joined us vs)
