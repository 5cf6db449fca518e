-- Without index cells a read is its load.
use Rattle.std.proofs.Common.{◌≡◌, ℕ, ◌+◌, List, [], ◌∷◌, ◌++◌, refl, ap, ◌∙◌, arith}
use Rattle.c_tree.specs.Plain.{Word, var, PlainExprs, no_exprs, more_exprs, check}
use Rattle.instrumentation.specs.Names.{register}
use Rattle.instrumentation.specs.Subscripts.{indices_in}
use Rattle.instrumentation.specs.Body.{load_text, index_loads, index_checks, by_words}
use Rattle.instrumentation.specs.Passes.{Target, count_cell, count_indices}
use Rattle.instrumentation.specs.RegularReads.{IsReadAlone}
use Rattle.instrumentation.proofs.Subscripts.{not_by_cell, first_plain, others_plain}

pub no_loads : (number : Word → ℕ) (at : PlainExprs) (j : ℕ) → indices_in at ≡ 0 → index_loads number at j ≡ []
no_loads number no_exprs j h = refl
no_loads number (more_exprs e es) j h =
    not_by_cell e (λ x at. load_text (number x) x at j ++ index_loads number es (j + 1)) (index_loads number es j) (first_plain e es h) ∙ no_loads number es j (others_plain e es h)

pub no_checks : (a : ℕ) (at ns : PlainExprs) (j : ℕ) → indices_in at ≡ 0 → index_checks a at ns j ≡ []
no_checks a no_exprs ns j h = refl
no_checks a (more_exprs e es) no_exprs j h = refl
no_checks a (more_exprs e es) (more_exprs n ns) j h =
    not_by_cell e (λ x at. check (register j) n a ∷ index_checks a es ns (j + 1)) (index_checks a es ns j) (first_plain e es h) ∙ no_checks a es ns j (others_plain e es h)

pub same_words : (at : PlainExprs) (j : ℕ) → indices_in at ≡ 0 → by_words at j ≡ at
same_words no_exprs j h = refl
same_words (more_exprs e es) j h =
    not_by_cell e (λ x at. more_exprs (var (register j)) (by_words es (j + 1))) (more_exprs e (by_words es j)) (first_plain e es h) ∙ ap (more_exprs e) (same_words es j (others_plain e es h))

pub no_counted : (number : Word → ℕ) (target : Target) (xs : List Word) (at : PlainExprs) → indices_in at ≡ 0 → count_indices number target xs at ≡ []
no_counted number target xs no_exprs h = refl
no_counted number target xs (more_exprs e es) h =
    not_by_cell e (λ x at. count_cell number target xs x at ++ count_indices number target xs es) (count_indices number target xs es) (first_plain e es h) ∙ no_counted number target xs es (others_plain e es h)

pub none_more : (at : PlainExprs) (j : ℕ) → indices_in at ≡ 0 → j + indices_in at ≡ j
none_more at j h = omega arith

pub is_alone : (x : Word) (at : PlainExprs) → indices_in at ≡ 0 → IsReadAlone x at
is_alone x at h = record {
  one = ap (λ n. n + 1) h;
  loads = λ number j. no_loads number at j h;
  checks = λ a ns j. no_checks a at ns j h;
  words = λ j. same_words at j h;
  text = λ number extents j.
      ap (λ l. l ++ (index_checks (number x) at (extents x) j ++ load_text (number x) x (by_words at j) (j + indices_in at))) (no_loads number at j h) ∙
      ap (λ l. l ++ load_text (number x) x (by_words at j) (j + indices_in at)) (no_checks (number x) at (extents x) j h) ∙
      ap (λ at'. load_text (number x) x at' (j + indices_in at)) (same_words at j h) ∙
      ap (load_text (number x) x at) (none_more at j h);
  value = λ j. ap (λ n. var (register n)) (none_more at j h);
  counted = λ number target xs. ap (λ l. l ++ count_cell number target xs x at) (no_counted number target xs at h);
}
