-- Two small units, and texts of them in another spelling than that of the layout.
use Rattle.std.specs.Prelude.{List, [], ◌∷◌, ◌++◌, true, codes, Some, None}
use Rattle.c_tree.specs.Layout.{preamble}
use Rattle.c_tree.specs.Plain.{var, no_exprs, more_exprs, begin, verdict, no_stmts, more_stmts, int_param, array_param, PlainParam, PlainUnit}
use Rattle.c_tree.specs.Grammar.Tokens.{Text}

abbrev pub params : List PlainParam
params = int_param (codes "n") ∷ array_param (codes "A") true (more_exprs (var (codes "n")) no_exprs) ∷ []

abbrev pub source : PlainUnit
source = record { version = None; ranges = []; name = codes "f"; params = params; words = []; wides = []; body = no_stmts }

abbrev pub source_text : Text
source_text = codes "void f(int64_t n, const uint64_t A[n])\n{ /* nothing */ }"

abbrev pub printed : PlainUnit
printed = record { version = Some 1; ranges = []; name = codes "f"; params = params; words = []; wides = []; body = more_stmts begin (more_stmts verdict no_stmts) }

abbrev pub printed_text : Text
printed_text =
    preamble ++ codes "#pragma balance version 1\nuint64_t f(int64_t n, const uint64_t A[n]) {\n#pragma balance begin\n return (uint64_t)(bal_def0 != bal_use0) << 0x0; }"
