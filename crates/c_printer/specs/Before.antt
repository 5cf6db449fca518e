-- The layout before a rest: what is written of a part of a unit, and then the rest. In this form parts follow one another without `++`.
use Rattle.std.specs.Prelude.{ℕ, suc, ◌+◌, ◌^◌, ℤ, pos, negsuc, Bool, true, false, not, ◌||◌, List, [], ◌∷◌, ◌++◌, Option, Some, None, codes, decimal}
use Rattle.c_tree.specs.declared.expr.Rel.{Rel}
use Rattle.c_tree.specs.Grammar.Tokens.{Text}
use Rattle.c_tree.specs.Kinds.{is_signed, is_word, join}
use Rattle.c_tree.specs.Layout.{Scope, kind_in, is_bin, is_un, is_loose, rel_mark, un_mark, bin_mark, assign_mark, subscript_has_suffix, indent, inside, scope_of, const_text, preamble, result_text}
use Rattle.c_tree.specs.Plain.{Word, PlainExpr, lit, var, cell, un, bin, cast, test, umin, umax, least, greatest, widen, big, PlainExprs, no_exprs, more_exprs, PlainTest, PlainStmt, loop, choice, assign, table, begin, check, verdict, PlainStmts, no_stmts, more_stmts, PlainParam, int_param, array_param, PlainUnit}

-- ---- expressions

-- in parentheses, or not
abbrev pub within : Bool → (Text → Text) → Text → Text
within true inner rest = codes "(" ++ inner (codes ")" ++ rest)
within false inner rest = inner rest

abbrev pub literal_before : Bool → ℕ → Text → Text
literal_before true n rest = decimal n ++ (codes "ull" ++ rest)
literal_before false n rest = decimal n ++ rest

-- whether literals under a cast have the suffix
abbrev pub suffix_under : Scope → PlainExpr → Bool
suffix_under sc a = not (is_signed (kind_in sc a))

abbrev mutual
  pub expr_before : Scope → Bool → PlainExpr → Text → Text
  expr_before sc suffix (lit n) rest = literal_before suffix n rest
  expr_before sc suffix (var x) rest = x ++ rest
  expr_before sc suffix (cell x us) rest = x ++ subscripts_before sc x us rest
  expr_before sc suffix (un op a) rest = un_mark op ++ within (is_bin a || is_un a) (expr_before sc suffix a) rest
  expr_before sc suffix (bin op a b) rest =
      within (is_bin a) (expr_before sc suffix a) (codes " " ++ (bin_mark op ++ (codes " " ++ within (is_bin b) (expr_before sc suffix b) rest)))
  expr_before sc suffix (cast a) rest = codes "(uint64_t)" ++ within (is_bin a) (expr_before sc (suffix_under sc a) a) rest
  expr_before sc suffix (test rel a b) rest =
      codes "(uint64_t)(" ++ within (is_loose a) (expr_before sc true a) (codes " " ++ (rel_mark rel ++ (codes " " ++ within (is_loose b) (expr_before sc true b) (codes ")" ++ rest))))
  expr_before sc suffix (umin a b) rest = codes "umin(" ++ expr_before sc true a (codes ", " ++ expr_before sc true b (codes ")" ++ rest))
  expr_before sc suffix (umax a b) rest = codes "umax(" ++ expr_before sc true a (codes ", " ++ expr_before sc true b (codes ")" ++ rest))
  expr_before sc suffix (least a b) rest = codes "bal_min(" ++ expr_before sc false a (codes ", " ++ expr_before sc false b (codes ")" ++ rest))
  expr_before sc suffix (greatest a b) rest = codes "bal_max(" ++ expr_before sc false a (codes ", " ++ expr_before sc false b (codes ")" ++ rest))
  expr_before sc suffix (widen a) rest = codes "(unsigned __int128)" ++ within (is_bin a) (expr_before sc (suffix_under sc a) a) rest
  expr_before sc suffix (big high low) rest = codes "bal_wide(" ++ literal_before true high (codes ", " ++ literal_before true low (codes ")" ++ rest))

  pub subscripts_before : Scope → Word → PlainExprs → Text → Text
  subscripts_before sc x no_exprs rest = rest
  subscripts_before sc x (more_exprs e es) rest = codes "[" ++ expr_before sc (subscript_has_suffix sc x e) e (codes "]" ++ subscripts_before sc x es rest)

-- ---- tests

abbrev pub side_before : Scope → Bool → PlainExpr → Text → Text
side_before sc suffix e rest = within (is_loose e) (expr_before sc suffix e) rest

abbrev pub test_before : Scope → PlainTest → Text → Text
test_before sc t rest =
    side_before sc (is_word (join (kind_in sc t.1) (kind_in sc t.2))) t.1 (codes " " ++ (rel_mark t.0 ++ (codes " " ++ side_before sc (is_word (join (kind_in sc t.1) (kind_in sc t.2))) t.2 rest)))

abbrev pub more_tests_before : Scope → List PlainTest → Text → Text
more_tests_before sc [] rest = rest
more_tests_before sc (t ∷ ts) rest = codes " && " ++ test_before sc t (more_tests_before sc ts rest)

abbrev pub tests_before : Scope → List PlainTest → Text → Text
tests_before sc [] rest = rest
tests_before sc (t ∷ ts) rest = test_before sc t (more_tests_before sc ts rest)

-- ---- the verdict

abbrev pub pair_before : ℕ → Text → Text
pair_before a rest = codes "(uint64_t)(bal_def" ++ (decimal a ++ (codes " != bal_use" ++ (decimal a ++ (codes ") << " ++ (decimal a ++ rest)))))

abbrev pub more_pairs_before : ℕ → List Word → Text → Text
more_pairs_before a [] rest = rest
more_pairs_before a (x ∷ xs) rest = codes " | " ++ pair_before a (more_pairs_before (suc a) xs rest)

abbrev pub verdict_before : List Word → Text → Text
verdict_before [] rest = codes "0" ++ rest
verdict_before (x ∷ xs) rest = pair_before 0 (more_pairs_before 1 xs rest)

-- ---- statements

-- for (int64_t x = lo; x < hi; x++) {
abbrev pub loop_start : Scope → ℕ → Word → PlainExpr → Rel → PlainExpr → Text → Text
loop_start sc depth x lo rel hi rest =
    indent depth ++ (codes "for (int64_t " ++ (x ++ (codes " = " ++ expr_before sc false lo (codes "; " ++ (x ++ (codes " " ++ (rel_mark rel ++ (codes " "
    ++ expr_before sc false hi (codes "; " ++ (x ++ (codes "++) {\n" ++ rest)))))))))))

-- if (ts) {
abbrev pub choice_start : Scope → ℕ → List PlainTest → Text → Text
choice_start sc depth ts rest = indent depth ++ (codes "if (" ++ tests_before sc ts (codes ") {\n" ++ rest))

-- uint64_t *x = calloc(len, sizeof(uint64_t));
abbrev pub table_made : Scope → ℕ → Word → PlainExpr → Text → Text
table_made sc depth x len rest = indent depth ++ (codes "uint64_t *" ++ (x ++ (codes " = calloc(" ++ expr_before sc true len (codes ", sizeof(uint64_t));\n" ++ rest))))

-- the return where the table wasn't given
abbrev pub table_tested : ℕ → Word → Text → Text
table_tested depth x rest = indent depth ++ (codes "if (" ++ (x ++ (codes " == 0) { return 1099511627776ull; }\n" ++ rest)))

-- if (x >= (uint64_t)(extent)) {
abbrev pub check_start : Scope → ℕ → Word → PlainExpr → Text → Text
check_start sc depth x extent rest = indent depth ++ (codes "if (" ++ (x ++ (codes " >= (uint64_t)(" ++ expr_before sc false extent (codes ")) {\n" ++ rest))))

-- the return of the check, one level deeper
abbrev pub check_return : ℕ → ℕ → Text → Text
check_return depth a rest = indent (suc depth) ++ (codes "return " ++ (decimal (2 ^ (16 + a)) ++ (codes "ull;\n" ++ rest)))

abbrev mutual
  pub stmt_before : Scope → ℕ → PlainStmt → Text → Text
  stmt_before sc depth (loop x lo rel hi body) rest = loop_start sc depth x lo rel hi (stmts_before (inside sc x) (suc depth) body (indent depth ++ (codes "}\n" ++ rest)))
  stmt_before sc depth (choice ts first other) rest = choice_start sc depth ts (stmts_before sc (suc depth) first (indent depth ++ (codes "}" ++ else_before sc depth other rest)))
  stmt_before sc depth (assign target op value) rest =
      indent depth ++ expr_before sc true target (codes " " ++ (assign_mark op ++ (codes " " ++ expr_before sc true value (codes ";\n" ++ rest))))
  stmt_before sc depth (table x len) rest = table_made sc depth x len (table_tested depth x rest)
  stmt_before sc depth begin rest = codes "#pragma balance begin\n" ++ rest
  stmt_before sc depth (check x extent a) rest = check_start sc depth x extent (check_return depth a (indent depth ++ (codes "}\n" ++ rest)))
  stmt_before sc depth verdict rest = indent depth ++ (codes "return " ++ verdict_before sc.arrays (codes ";\n" ++ rest))

  -- An empty list is no `else`.
  pub else_before : Scope → ℕ → PlainStmts → Text → Text
  else_before sc depth no_stmts rest = codes "\n" ++ rest
  else_before sc depth (more_stmts s ss) rest = codes " else {\n" ++ stmt_before sc (suc depth) s (stmts_before sc (suc depth) ss (indent depth ++ (codes "}\n" ++ rest)))

  pub stmts_before : Scope → ℕ → PlainStmts → Text → Text
  stmts_before sc depth no_stmts rest = rest
  stmts_before sc depth (more_stmts s ss) rest = stmt_before sc depth s (stmts_before sc depth ss rest)

-- the statements of a loop or of a branch, and the brace behind them
abbrev pub block_before : Scope → ℕ → PlainStmts → Text → Text
block_before sc depth body rest = stmts_before sc (suc depth) body (indent depth ++ (codes "}" ++ rest))

-- ---- the head

abbrev pub int_before : ℤ → Text → Text
int_before (pos n) rest = decimal n ++ rest
int_before (negsuc n) rest = codes "-" ++ (decimal (suc n) ++ rest)

-- a range line
abbrev pub range_before : Word × ℤ × ℤ → Text → Text
range_before r rest = codes "#pragma balance range " ++ (r.0 ++ (codes " " ++ int_before r.1 (codes " " ++ int_before r.2 (codes "\n" ++ rest))))

abbrev pub ranges_before : List (Word × ℤ × ℤ) → Text → Text
ranges_before [] rest = rest
ranges_before (r ∷ rs) rest = range_before r (ranges_before rs rest)

abbrev pub extents_before : Scope → PlainExprs → Text → Text
extents_before sc no_exprs rest = rest
extents_before sc (more_exprs e es) rest = codes "[" ++ expr_before sc false e (codes "]" ++ extents_before sc es rest)

abbrev pub param_before : Scope → PlainParam → Text → Text
param_before sc (int_param x) rest = codes "int64_t " ++ (x ++ rest)
param_before sc (array_param x constant extents) rest = const_text constant ++ (codes "uint64_t " ++ (x ++ extents_before sc extents rest))

abbrev pub more_params_before : Scope → List PlainParam → Text → Text
more_params_before sc [] rest = rest
more_params_before sc (p ∷ ps) rest = codes ", " ++ param_before sc p (more_params_before sc ps rest)

abbrev pub params_before : Scope → List PlainParam → Text → Text
params_before sc [] rest = rest
params_before sc (p ∷ ps) rest = param_before sc p (more_params_before sc ps rest)

-- the declaration of a word
abbrev pub word_before : Word × ℕ → Text → Text
word_before w rest = codes "  uint64_t " ++ (w.0 ++ (codes " = " ++ literal_before true w.1 (codes ";\n" ++ rest)))

abbrev pub words_before : List (Word × ℕ) → Text → Text
words_before [] rest = rest
words_before (w ∷ ws) rest = word_before w (words_before ws rest)

-- the declaration of a word of 128 bits
abbrev pub wide_before : Word → Text → Text
wide_before x rest = codes "  unsigned __int128 " ++ (x ++ (codes " = 0;\n" ++ rest))

abbrev pub wides_before : List Word → Text → Text
wides_before [] rest = rest
wides_before (x ∷ xs) rest = wide_before x (wides_before xs rest)

-- the preamble and the version of a printed unit
abbrev pub version_before : Option ℕ → Text → Text
version_before None rest = rest
version_before (Some n) rest = preamble ++ (codes "#pragma balance version " ++ (decimal n ++ (codes "\n" ++ rest)))

-- the function's name and its parameters
abbrev pub signature_before : Scope → Word → List PlainParam → Text → Text
signature_before sc x ps rest = x ++ (codes "(" ++ params_before sc ps (codes ") {\n" ++ rest))

-- everything between the version and the brace of the function
abbrev pub head_before : Scope → PlainUnit → Text → Text
head_before sc u rest = ranges_before u.ranges (result_text u.version ++ signature_before sc u.name u.params rest)

-- everything behind the brace
abbrev pub body_before : Scope → PlainUnit → Text → Text
body_before sc u rest = words_before u.words (wides_before u.wides (stmts_before sc 1 u.body (codes "}\n" ++ rest)))

-- everything behind the version
abbrev pub behind_version : Scope → PlainUnit → Text → Text
behind_version sc u rest = head_before sc u (body_before sc u rest)

abbrev pub unit_before : PlainUnit → Text → Text
unit_before u rest = behind_version (scope_of u.params) u rest

-- all of a unit with these names
abbrev pub whole_before : Scope → PlainUnit → Text → Text
whole_before sc u rest = version_before u.version (behind_version sc u rest)
