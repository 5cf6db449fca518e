-- Instrumented texts of sources with irregular reads, with one thing wrong.
use Rattle.std.specs.Prelude.{if◌then◌else◌, nat_eq, bytes_eq, codes, List, [], ◌∷◌, ◌++◌, flat_map, None}
use Rattle.c_tree.specs.Plain.{lit, var, cell, bin, PlainStmt, loop, assign, check, no_stmts, PlainUnit}
use Rattle.instrumentation.specs.Names.{register}
use Rattle.turned_texts.specs.Turning.{Turning, with_assignments, CheckTurning, with_checks, late_all, with_body, cell_pieces, site_pieces, tables_of, cells_text, source_text, with_pieces, with_tables, with_turned_pieces}
use Rattle.turned_texts.specs.Texts.{same_piece}

-- ---- checks

abbrev pub same_check : CheckTurning
same_check x extent a = check x extent a ∷ []

abbrev pub no_check : CheckTurning
no_check x extent a = []

-- an index isn't compared with its extent
abbrev pub checks_nothing : PlainUnit → PlainUnit
checks_nothing = with_checks no_check

abbrev pub check_the_next : CheckTurning
check_the_next x extent a = check (register 1) extent a ∷ []

-- the word that the next load goes to is
abbrev pub checks_another_word : PlainUnit → PlainUnit
checks_another_word = with_checks check_the_next

-- it is, but behind the read of the cell
abbrev pub checks_late : PlainUnit → PlainUnit
checks_late u = with_body (late_all (with_body (tables_of u ++ (cells_text (cell_pieces u) u ++ source_text (site_pieces u) u)) u).body) u

-- where the extent is 3, with 2, that of the other dimension
abbrev pub check_two : CheckTurning
check_two x extent a = check x (lit 2) a ∷ []

abbrev pub checks_the_other_extent : PlainUnit → PlainUnit
checks_the_other_extent = with_checks check_two

-- ---- accesses

abbrev pub load_index_twice : Turning
load_index_twice (var r) None (cell x at) = if bytes_eq x (codes "P") then assign (var r) None (cell x at) ∷ assign (var r) None (cell x at) ∷ [] else assign (var r) None (cell x at) ∷ []
load_index_twice t op e = assign t op e ∷ []

-- the index cell is loaded twice
abbrev pub loads_indices_twice : PlainUnit → PlainUnit
loads_indices_twice = with_assignments load_index_twice

-- ---- counts

abbrev pub first_alone : List PlainStmt → List PlainStmt
first_alone [] = []
first_alone (s ∷ piece) = s ∷ []

-- a write takes its count, and isn't numbered
abbrev pub numbers_no_write : PlainUnit → PlainUnit
numbers_no_write = with_turned_pieces same_piece first_alone

abbrev pub exchanged : List PlainStmt → List PlainStmt
exchanged (s ∷ t ∷ piece) = t ∷ s ∷ piece
exchanged piece = piece

-- a write takes the count of the next
abbrev pub counts_the_next_write : PlainUnit → PlainUnit
counts_the_next_write = with_turned_pieces same_piece exchanged

-- an entry is the number of the current definition, and not what this is greater than the cell's own
abbrev pub enter_numbers : Turning
enter_numbers (cell x at) None (bin op number row) = if bytes_eq x (codes "bal_td1") then assign (cell x at) None number ∷ [] else assign (cell x at) None (bin op number row) ∷ []
enter_numbers t op e = assign t op e ∷ []

abbrev pub enters_numbers : PlainUnit → PlainUnit
enters_numbers = with_assignments enter_numbers

abbrev pub but_last : List PlainStmt → List PlainStmt
but_last [] = []
but_last (s ∷ []) = []
but_last (s ∷ t ∷ ss) = s ∷ but_last (t ∷ ss)

-- the number of writes isn't set back behind the tables
abbrev pub counts_on : PlainUnit → PlainUnit
counts_on = with_tables but_last

-- the tables are built behind the cells
abbrev pub builds_late : PlainUnit → PlainUnit
builds_late u = with_body (cells_text (cell_pieces u) u ++ (tables_of u ++ source_text (site_pieces u) u)) u

abbrev pub no_reads_in : PlainStmt → List PlainStmt
no_reads_in (loop x lo rel hi body) = loop x lo rel hi no_stmts ∷ []
no_reads_in s = s ∷ []

-- the index cells that are read aren't counted for their own array, the first
abbrev pub counts_no_index_cell : PlainUnit → PlainUnit
counts_no_index_cell u = with_pieces (λ k extents. if nat_eq k 0 then flat_map no_reads_in (cell_pieces u k extents) else cell_pieces u k extents) (site_pieces u) u
