-- The layout before a rest is the layout and the rest.
use Rattle.std.proofs.Common.{◌≡◌, ℕ, suc, Bool, true, false, ◌||◌, List, [], ◌∷◌, ◌++◌, refl, sym, ap, ◌∙◌, append_assoc}
use Rattle.std.specs.Prelude.{codes, decimal, ℤ, pos, negsuc, Option, Some, None, Result, Ok, Err, IfOk}
use Rattle.std.specs.declared.alloc.Global.{Global}
use Rattle.std.specs.declared.vec.Vec.{Vec}
use Rattle.c_tree.specs.declared.memory.OutOfMemory.{OutOfMemory}
use Rattle.c_tree.specs.Names.{arrays_in, ints_in}
use Rattle.c_tree.specs.Grammar.Tokens.{Text}
use Rattle.c_tree.specs.Kinds.{is_word, join}
use Rattle.c_tree.specs.Layout.{Scope, kind_in, wrapped, literal_text, expr_text, subscripts_text, is_bin, is_un, is_loose, rel_mark, un_mark, bin_mark, subscript_has_suffix, side_text, test_text, tests_text, more_tests_text, pair_text, more_pairs_text, verdict_text, stmt_text, else_text, stmts_text, inside, int_text, ranges_text, extents_text, param_text, params_text, more_params_text, words_text, wides_text, scope_of, version_text, layout}
use Rattle.c_tree.specs.Plain.{Word, PlainExpr, lit, var, cell, un, bin, cast, test, umin, umax, least, greatest, widen, big, PlainExprs, no_exprs, more_exprs, PlainTest, PlainStmt, loop, choice, assign, table, begin, check, verdict, PlainStmts, no_stmts, more_stmts, PlainParam, int_param, array_param, PlainUnit}
use Rattle.c_printer.specs.Before.{within, literal_before, suffix_under, expr_before, subscripts_before, side_before, test_before, tests_before, more_tests_before, pair_before, more_pairs_before, verdict_before, stmt_before, else_before, stmts_before, int_before, ranges_before, extents_before, param_before, more_params_before, params_before, words_before, wides_before, version_before, unit_before, whole_before}

abbrev IsBefore : (Text → Text) → Text → Type 0
IsBefore f x = (rest : Text) → f rest ≡ x ++ rest

-- ---- expressions

within_is : (b : Bool) (f : Text → Text) (x : Text) → IsBefore f x → IsBefore (within b f) (wrapped b x)
within_is true f x h rest = ap (λ y. 40 ∷ y) (h (41 ∷ rest) ∙ sym (append_assoc x (codes ")") rest))
within_is false f x h rest = h rest

literal_is : (b : Bool) (n : ℕ) → IsBefore (literal_before b n) (literal_text b n)
literal_is true n rest = sym (append_assoc (decimal n) (codes "ull") rest)
literal_is false n rest = refl

two : (f g : Text → Text) (x y between after : Text) → IsBefore f x → IsBefore g y → (rest : Text) → f (between ++ g (after ++ rest)) ≡ (x ++ (between ++ (y ++ after))) ++ rest
two f g x y between after h k rest = h _ ∙ ap (λ z. x ++ (between ++ z)) (k (after ++ rest)) ∙ sym (simp append_assoc)

mutual
  an_expr : (sc : Scope) (b : Bool) (u : PlainExpr) → IsBefore (expr_before sc b u) (expr_text sc b u)
  an_expr sc b (lit n) rest = literal_is b n rest
  an_expr sc b (var x) rest = refl
  an_expr sc b (cell x us) rest = ap (λ y. x ++ y) (subscripts sc x us rest) ∙ sym (append_assoc x (subscripts_text sc x us) rest)
  an_expr sc b (un op a) rest = ap (λ y. un_mark op ++ y) (within_is (is_bin a || is_un a) (expr_before sc b a) (expr_text sc b a) (an_expr sc b a) rest) ∙ sym (append_assoc (un_mark op) (wrapped (is_bin a || is_un a) (expr_text sc b a)) rest)
  an_expr sc b (bin op a c) rest =
      within_is (is_bin a) (expr_before sc b a) (expr_text sc b a) (an_expr sc b a) _
      ∙ ap (λ y. wrapped (is_bin a) (expr_text sc b a) ++ (codes " " ++ (bin_mark op ++ (codes " " ++ y)))) (within_is (is_bin c) (expr_before sc b c) (expr_text sc b c) (an_expr sc b c) rest)
      ∙ sym (simp append_assoc)
  an_expr sc b (cast a) rest = ap (λ y. codes "(uint64_t)" ++ y) (within_is (is_bin a) (expr_before sc (suffix_under sc a) a) (expr_text sc (suffix_under sc a) a) (an_expr sc (suffix_under sc a) a) rest)
  an_expr sc b (test rel a c) rest =
      ap (λ y. codes "(uint64_t)(" ++ y) (within_is (is_loose a) (expr_before sc true a) (expr_text sc true a) (an_expr sc true a) _
      ∙ ap (λ y. wrapped (is_loose a) (expr_text sc true a) ++ (codes " " ++ (rel_mark rel ++ (codes " " ++ y)))) (within_is (is_loose c) (expr_before sc true c) (expr_text sc true c) (an_expr sc true c) (41 ∷ rest))
      ∙ sym (simp append_assoc))
  an_expr sc b (umin a c) rest = ap (λ y. codes "umin(" ++ y) (two (expr_before sc true a) (expr_before sc true c) (expr_text sc true a) (expr_text sc true c) (codes ", ") (codes ")") (an_expr sc true a) (an_expr sc true c) rest)
  an_expr sc b (umax a c) rest = ap (λ y. codes "umax(" ++ y) (two (expr_before sc true a) (expr_before sc true c) (expr_text sc true a) (expr_text sc true c) (codes ", ") (codes ")") (an_expr sc true a) (an_expr sc true c) rest)
  an_expr sc b (least a c) rest = ap (λ y. codes "bal_min(" ++ y) (two (expr_before sc false a) (expr_before sc false c) (expr_text sc false a) (expr_text sc false c) (codes ", ") (codes ")") (an_expr sc false a) (an_expr sc false c) rest)
  an_expr sc b (greatest a c) rest = ap (λ y. codes "bal_max(" ++ y) (two (expr_before sc false a) (expr_before sc false c) (expr_text sc false a) (expr_text sc false c) (codes ", ") (codes ")") (an_expr sc false a) (an_expr sc false c) rest)
  an_expr sc b (widen a) rest = ap (λ y. codes "(unsigned __int128)" ++ y) (within_is (is_bin a) (expr_before sc (suffix_under sc a) a) (expr_text sc (suffix_under sc a) a) (an_expr sc (suffix_under sc a) a) rest)
  an_expr sc b (big high low) rest = ap (λ y. codes "bal_wide(" ++ y) (two (literal_before true high) (literal_before true low) (literal_text true high) (literal_text true low) (codes ", ") (codes ")") (literal_is true high) (literal_is true low) rest)

  subscripts : (sc : Scope) (x : Word) (us : PlainExprs) → IsBefore (subscripts_before sc x us) (subscripts_text sc x us)
  subscripts sc x no_exprs rest = refl
  subscripts sc x (more_exprs u us) rest =
      ap (λ y. 91 ∷ y) (an_expr sc (subscript_has_suffix sc x u) u _ ∙ ap (λ y. expr_text sc (subscript_has_suffix sc x u) u ++ (93 ∷ y)) (subscripts sc x us rest)
      ∙ sym (append_assoc (expr_text sc (subscript_has_suffix sc x u) u) (93 ∷ subscripts_text sc x us) rest))

-- ---- statements

side : (sc : Scope) (b : Bool) (u : PlainExpr) → IsBefore (side_before sc b u) (side_text sc b u)
side sc b u rest = within_is (is_loose u) (expr_before sc b u) (expr_text sc b u) (an_expr sc b u) rest

a_test : (sc : Scope) (c : PlainTest) → IsBefore (test_before sc c) (test_text sc c)
a_test sc c rest =
    let suffix = is_word (join (kind_in sc c.1) (kind_in sc c.2)) in
    simp (side sc suffix c.1, side sc suffix c.2, append_assoc)

more_tests : (sc : Scope) (cs : List PlainTest) → IsBefore (more_tests_before sc cs) (more_tests_text sc cs)
more_tests sc [] rest = refl
more_tests sc (c ∷ cs) rest = ap (λ y. codes " && " ++ y) (a_test sc c (more_tests_before sc cs rest) ∙ ap (λ y. test_text sc c ++ y) (more_tests sc cs rest) ∙ sym (append_assoc (test_text sc c) (more_tests_text sc cs) rest))

tests : (sc : Scope) (cs : List PlainTest) → IsBefore (tests_before sc cs) (tests_text sc cs)
tests sc [] rest = refl
tests sc (c ∷ cs) rest = a_test sc c (more_tests_before sc cs rest) ∙ ap (λ y. test_text sc c ++ y) (more_tests sc cs rest) ∙ sym (append_assoc (test_text sc c) (more_tests_text sc cs) rest)

a_pair : (a : ℕ) → IsBefore (pair_before a) (pair_text a)
a_pair a rest = simp append_assoc

more_pairs : (a : ℕ) (xs : List Word) → IsBefore (more_pairs_before a xs) (more_pairs_text a xs)
more_pairs a [] rest = refl
more_pairs a (x ∷ xs) rest = ap (λ y. codes " | " ++ y) (a_pair a (more_pairs_before (suc a) xs rest) ∙ ap (λ y. pair_text a ++ y) (more_pairs (suc a) xs rest) ∙ sym (append_assoc (pair_text a) (more_pairs_text (suc a) xs) rest))

the_verdict : (xs : List Word) → IsBefore (verdict_before xs) (verdict_text xs)
the_verdict [] rest = refl
the_verdict (x ∷ xs) rest = a_pair 0 (more_pairs_before 1 xs rest) ∙ ap (λ y. pair_text 0 ++ y) (more_pairs 1 xs rest) ∙ sym (append_assoc (pair_text 0) (more_pairs_text 1 xs) rest)

mutual
  a_stmt : (sc : Scope) (depth : ℕ) (u : PlainStmt) (rest : Text) → stmt_before sc depth u rest ≡ stmt_text sc depth u ++ rest
  a_stmt sc depth (loop x lo rel hi body) rest = simp (an_expr sc false lo, an_expr sc false hi, stmts (inside sc x) (suc depth) body, append_assoc)
  a_stmt sc depth (choice cs us vs) rest = simp (tests sc cs, stmts sc (suc depth) us, an_else sc depth vs, append_assoc)
  a_stmt sc depth (assign x op u) rest = simp (an_expr sc true x, an_expr sc true u, append_assoc)
  a_stmt sc depth (table x u) rest = simp (an_expr sc true u, append_assoc)
  a_stmt sc depth begin rest = refl
  a_stmt sc depth (check x u a) rest = simp (an_expr sc false u, append_assoc)
  a_stmt sc depth verdict rest = simp (the_verdict sc.arrays, append_assoc)

  an_else : (sc : Scope) (depth : ℕ) (us : PlainStmts) (rest : Text) → else_before sc depth us rest ≡ else_text sc depth us ++ rest
  an_else sc depth no_stmts rest = refl
  an_else sc depth (more_stmts u us) rest = simp (a_stmt sc (suc depth) u, stmts sc (suc depth) us, append_assoc)

  stmts : (sc : Scope) (depth : ℕ) (us : PlainStmts) (rest : Text) → stmts_before sc depth us rest ≡ stmts_text sc depth us ++ rest
  stmts sc depth no_stmts rest = refl
  stmts sc depth (more_stmts u us) rest = simp (a_stmt sc depth u, stmts sc depth us, append_assoc)

-- ---- heads

an_int : (z : ℤ) → IsBefore (int_before z) (int_text z)
an_int (pos n) rest = refl
an_int (negsuc n) rest = refl

ranges : (rs : List (Word × ℤ × ℤ)) (rest : Text) → ranges_before rs rest ≡ ranges_text rs ++ rest
ranges [] rest = refl
ranges (r ∷ rs) rest = simp (an_int r.1, an_int r.2, ranges rs, append_assoc)

extents : (sc : Scope) (es : PlainExprs) (rest : Text) → extents_before sc es rest ≡ extents_text sc es ++ rest
extents sc no_exprs rest = refl
extents sc (more_exprs e es) rest = simp (an_expr sc false e, extents sc es, append_assoc)

param : (sc : Scope) (x : PlainParam) (rest : Text) → param_before sc x rest ≡ param_text sc x ++ rest
param sc (int_param x) rest = refl
param sc (array_param x false es) rest = simp (extents sc es, append_assoc)
param sc (array_param x true es) rest = simp (extents sc es, append_assoc)

more_params : (sc : Scope) (xs : List PlainParam) (rest : Text) → more_params_before sc xs rest ≡ more_params_text sc xs ++ rest
more_params sc [] rest = refl
more_params sc (x ∷ xs) rest = simp (param sc x, more_params sc xs, append_assoc)

params : (sc : Scope) (xs : List PlainParam) (rest : Text) → params_before sc xs rest ≡ params_text sc xs ++ rest
params sc [] rest = refl
params sc (x ∷ xs) rest = simp (param sc x, more_params sc xs, append_assoc)

words : (ws : List (Word × ℕ)) (rest : Text) → words_before ws rest ≡ words_text ws ++ rest
words [] rest = refl
words (w ∷ ws) rest = simp (words ws, append_assoc)

wides : (xs : List Word) (rest : Text) → wides_before xs rest ≡ wides_text xs ++ rest
wides [] rest = refl
wides (x ∷ xs) rest = simp (wides xs, append_assoc)

-- ---- units

a_version : (v : Option ℕ) (x : Text) → version_before v x ≡ version_text v ++ x
a_version None x = refl
a_version (Some n) x = sym (simp append_assoc)

-- the layout is the version and what stands behind it
pub whole : (u : PlainUnit) → whole_before (scope_of u.params) u [] ≡ layout u
whole u = a_version u.version (unit_before u []) ∙ simp (ranges u.ranges, params (scope_of u.params) u.params, words u.words, wides u.wides, stmts (scope_of u.params) 1 u.body)

-- the same where the names are known by equations
pub whole_with : (r : Result (Vec ℕ Global) OutOfMemory) (arrays ints : List Word) (u : PlainUnit) → arrays ≡ arrays_in u.params → ints ≡ ints_in u.params
    → IfOk r (λ text. text.items ≡ whole_before (record { arrays = arrays; signed = ints }) u []) → IfOk r (λ text. text.items ≡ layout u)
whole_with (Ok v) arrays ints u e f h =
    h ∙ ap (λ xs. whole_before (record { arrays = xs; signed = ints }) u []) e ∙ ap (λ xs. whole_before (record { arrays = arrays_in u.params; signed = xs }) u []) f ∙ whole u
whole_with (Err w) arrays ints u e f h = tt
