-- Instrumented texts with one thing wrong.
use Rattle.std.specs.Prelude.{zero, List, [], ◌∷◌, flat_map, if◌then◌else◌, bytes_eq, Some, None}
use Rattle.c_tree.specs.Plain.{Word, lit, var, cell, bin, widen, big, PlainStmt, loop, assign, PlainUnit}
use Rattle.c_tree.specs.Trees.{stmts_of}
use Rattle.c_tree.specs.declared.expr.BinOp.TheVariants.{Add, Mul, Div}
use Rattle.instrumentation.specs.Names.{result, definition_total, use_total, active}
use Rattle.instrumentation.specs.Passes.{set_word}
use Rattle.turned_texts.specs.Turning.{Turning, turned_all, with_assignments, with_turned_pieces}

-- ---- accesses

-- each cell is loaded twice
abbrev pub load_twice : Turning
load_twice (var r) None (cell x at) = assign (var r) None (cell x at) ∷ assign (var r) None (cell x at) ∷ []
load_twice t op e = assign t op e ∷ []

abbrev pub loads_twice : PlainUnit → PlainUnit
loads_twice = with_assignments load_twice

-- what is added to the definition total is read back behind the store
abbrev pub read_back : Turning
read_back (cell x at) op e = assign (cell x at) op e ∷ assign (var result) None (cell x at) ∷ []
read_back t op e = assign t op e ∷ []

abbrev pub reads_back : PlainUnit → PlainUnit
reads_back = with_assignments read_back

-- ---- totals

-- a value times its count isn't added to the definition total
abbrev pub add_no_definition : Turning
add_no_definition (var x) (Some op) (bin times value count) = []
add_no_definition t op e = assign t op e ∷ []

abbrev pub adds_no_definition : PlainUnit → PlainUnit
adds_no_definition = with_assignments add_no_definition

-- and no value to the use total
abbrev pub add_nothing : Turning
add_nothing (var x) (Some op) (bin times value count) = []
add_nothing (var x) (Some op) (widen value) = []
add_nothing t op e = assign t op e ∷ []

abbrev pub adds_nothing : PlainUnit → PlainUnit
adds_nothing = with_assignments add_nothing

-- one pair of totals for all arrays, of two
abbrev pub the_total : Word → Word
the_total x = if bytes_eq x (definition_total 1) then definition_total 0 else if bytes_eq x (use_total 1) then use_total 0 else x

abbrev pub share_totals : Turning
share_totals (var x) op e = assign (var (the_total x)) op e ∷ []
share_totals t op e = assign t op e ∷ []

abbrev pub shares_totals : PlainUnit → PlainUnit
shares_totals = with_assignments share_totals

-- x + (x / 2^64) * (2^128 - 2^64) is x modulo 2^64
abbrev pub masked : Word → PlainStmt
masked x = assign (var x) (Some Add) (bin Mul (bin Div (var x) (big 1 0)) (big 18446744073709551615 0))

-- totals of 64 bits
abbrev pub mask_totals : Turning
mask_totals (var x) (Some op) (bin times value count) = assign (var x) (Some op) (bin times value count) ∷ masked x ∷ []
mask_totals (var x) (Some op) (widen value) = assign (var x) (Some op) (widen value) ∷ masked x ∷ []
mask_totals t op e = assign t op e ∷ []

abbrev pub masks_totals : PlainUnit → PlainUnit
masks_totals = with_assignments mask_totals

-- ---- counts

abbrev pub same_piece : List PlainStmt → List PlainStmt
same_piece piece = piece

abbrev pub no_piece : List PlainStmt → List PlainStmt
no_piece piece = []

-- the prologue has no pieces
abbrev pub leaves_out_initial_values : PlainUnit → PlainUnit
leaves_out_initial_values = with_turned_pieces no_piece same_piece

-- a write of the cell doesn't end the count
abbrev pub end_nothing : Turning
end_nothing (var x) None (lit zero) = []
end_nothing t op e = assign t op e ∷ []

abbrev pub in_loops : PlainStmt → List PlainStmt
in_loops (loop x lo rel hi body) = loop x lo rel hi (stmts_of (turned_all end_nothing body)) ∷ []
in_loops s = s ∷ []

abbrev pub count_on : List PlainStmt → List PlainStmt
count_on piece = flat_map in_loops piece

abbrev pub counts_beyond_the_next_write : PlainUnit → PlainUnit
counts_beyond_the_next_write = with_turned_pieces count_on count_on

-- the pass of a write begins as if it had been made
abbrev pub start_active : List PlainStmt → List PlainStmt
start_active [] = []
start_active (s ∷ piece) = set_word active 1 ∷ piece

abbrev pub starts_active : PlainUnit → PlainUnit
starts_active = with_turned_pieces same_piece start_active

-- a pass counts on from where the one before it ended
abbrev pub keep_counter : List PlainStmt → List PlainStmt
keep_counter [] = []
keep_counter (s ∷ []) = s ∷ []
keep_counter (s ∷ t ∷ piece) = s ∷ piece

abbrev pub keeps_its_counter : PlainUnit → PlainUnit
keeps_its_counter = with_turned_pieces keep_counter keep_counter
