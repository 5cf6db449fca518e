-- A cell whose subscripts have no index cell is read by its load alone.
use Rattle.std.specs.Prelude.{◌≡◌, ℕ, [], List}
use Rattle.c_tree.specs.Plain.{Word, PlainExprs, cell, var}
use Rattle.instrumentation.specs.Names.{register}
use Rattle.instrumentation.specs.Subscripts.{indices_in}
use Rattle.instrumentation.specs.Body.{load_text, index_loads, index_checks, by_words, read_text, reads_in, pure}
use Rattle.instrumentation.specs.Passes.{Target, count_cell, count_reads}

pub record IsReadAlone (x : Word) (at : PlainExprs) : Type 0 where
  pub one : reads_in (cell x at) ≡ 1
  pub loads : (number : Word → ℕ) (j : ℕ) → index_loads number at j ≡ []
  pub checks : (a : ℕ) (ns : PlainExprs) (j : ℕ) → index_checks a at ns j ≡ []
  pub words : (j : ℕ) → by_words at j ≡ at
  pub text : (number : Word → ℕ) (extents : Word → PlainExprs) (j : ℕ) → read_text number extents x at j ≡ load_text (number x) x at j
  pub value : (j : ℕ) → pure (cell x at) j ≡ var (register j)
  pub counted : (number : Word → ℕ) (target : Target) (xs : List Word) → count_reads number target xs (cell x at) ≡ count_cell number target xs x at

abbrev pub RegularReadsStandAlone : Type 0
RegularReadsStandAlone = (x : Word) (at : PlainExprs) → indices_in at ≡ 0 → IsReadAlone x at
