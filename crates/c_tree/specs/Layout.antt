-- The bytes of a unit: how it is printed.
use Rattle.std.specs.Prelude.{ℕ, zero, suc, ◌+◌, ◌^◌, Bool, true, false, not, ◌||◌, List, [], ◌∷◌, ◌++◌, ℤ, pos, negsuc, Option, Some, None, codes, decimal}
use Rattle.c_tree.specs.Plain.{Word, PlainExpr, lit, var, cell, un, bin, cast, test, umin, umax, least, greatest, widen, big, PlainExprs, no_exprs, more_exprs, PlainTest, PlainStmt, loop, choice, assign, table, begin, check, verdict, PlainStmts, no_stmts, more_stmts, PlainParam, int_param, array_param, PlainUnit}
use Rattle.c_tree.specs.Kinds.{Kind, kind, join, is_signed, is_word}
use Rattle.c_tree.specs.Names.{is_among, arrays_in, ints_in}
use Rattle.c_tree.specs.declared.expr.Rel.{Rel}
use Rattle.c_tree.specs.declared.expr.Rel.TheVariants.{Lt, Le, Gt, Ge, Eq, Ne}
use Rattle.c_tree.specs.declared.expr.UnOp.{UnOp}
use Rattle.c_tree.specs.declared.expr.UnOp.TheVariants.{Neg, Inv}
use Rattle.c_tree.specs.declared.expr.BinOp.{BinOp}
use Rattle.c_tree.specs.declared.expr.BinOp.TheVariants.{Add, Sub, Mul, Div, Rem, Shl, Shr, And, Xor, Or}

-- ---- marks

abbrev pub rel_mark : Rel → List ℕ
rel_mark Lt = codes "<"
rel_mark Le = codes "<="
rel_mark Gt = codes ">"
rel_mark Ge = codes ">="
rel_mark Eq = codes "=="
rel_mark Ne = codes "!="

abbrev pub un_mark : UnOp → List ℕ
un_mark Neg = codes "-"
un_mark Inv = codes "~"

abbrev pub bin_mark : BinOp → List ℕ
bin_mark Add = codes "+"
bin_mark Sub = codes "-"
bin_mark Mul = codes "*"
bin_mark Div = codes "/"
bin_mark Rem = codes "%"
bin_mark Shl = codes "<<"
bin_mark Shr = codes ">>"
bin_mark And = codes "&"
bin_mark Xor = codes "^"
bin_mark Or = codes "|"

-- `=`, or an operator and `=`
abbrev pub assign_mark : Option BinOp → List ℕ
assign_mark None = codes "="
assign_mark (Some op) = bin_mark op ++ codes "="

-- ---- parentheses

abbrev pub is_bin : PlainExpr → Bool
is_bin (bin op a b) = true
is_bin _ = false

abbrev pub is_un : PlainExpr → Bool
is_un (un op a) = true
is_un _ = false

-- `&`, `^` and `|` bind more loosely than a comparison
abbrev pub is_loose : PlainExpr → Bool
is_loose (bin And a b) = true
is_loose (bin Xor a b) = true
is_loose (bin Or a b) = true
is_loose _ = false

abbrev pub wrapped : Bool → List ℕ → List ℕ
wrapped true text = codes "(" ++ (text ++ codes ")")
wrapped false text = text

-- ---- expressions

-- what the text of an expression depends on: the arrays, and the signed names, of which the innermost loop's variable is the first
pub record Scope : Type 0 where
  pub arrays : List Word
  pub signed : List Word

abbrev pub kind_in : Scope → PlainExpr → Kind
kind_in sc = kind (is_among sc.signed)

-- a literal of a word or wide expression has a suffix, one of a signed expression has none
abbrev pub literal_text : Bool → ℕ → List ℕ
literal_text true n = decimal n ++ codes "ull"
literal_text false n = decimal n

-- In an array's subscript literals are signed but in a word expression; a table's subscript is a word expression.
abbrev pub subscript_has_suffix : Scope → Word → PlainExpr → Bool
subscript_has_suffix sc x e = is_word (kind_in sc e) || not (is_among sc.arrays x)

-- The test says whether literals have the suffix.
abbrev mutual
  pub expr_text : Scope → Bool → PlainExpr → List ℕ
  expr_text sc suffix (lit n) = literal_text suffix n
  expr_text sc suffix (var x) = x
  expr_text sc suffix (cell x at) = x ++ subscripts_text sc x at
  expr_text sc suffix (un op a) = un_mark op ++ wrapped (is_bin a || is_un a) (expr_text sc suffix a)
  expr_text sc suffix (bin op a b) =
      wrapped (is_bin a) (expr_text sc suffix a) ++ (codes " " ++ (bin_mark op ++ (codes " " ++ wrapped (is_bin b) (expr_text sc suffix b))))
  expr_text sc suffix (cast a) = codes "(uint64_t)" ++ wrapped (is_bin a) (expr_text sc (not (is_signed (kind_in sc a))) a)
  expr_text sc suffix (test rel a b) =
      codes "(uint64_t)(" ++ (wrapped (is_loose a) (expr_text sc true a) ++ (codes " " ++ (rel_mark rel ++ (codes " " ++ (wrapped (is_loose b) (expr_text sc true b) ++ codes ")")))))
  expr_text sc suffix (umin a b) = codes "umin(" ++ (expr_text sc true a ++ (codes ", " ++ (expr_text sc true b ++ codes ")")))
  expr_text sc suffix (umax a b) = codes "umax(" ++ (expr_text sc true a ++ (codes ", " ++ (expr_text sc true b ++ codes ")")))
  expr_text sc suffix (least a b) = codes "bal_min(" ++ (expr_text sc false a ++ (codes ", " ++ (expr_text sc false b ++ codes ")")))
  expr_text sc suffix (greatest a b) = codes "bal_max(" ++ (expr_text sc false a ++ (codes ", " ++ (expr_text sc false b ++ codes ")")))
  expr_text sc suffix (widen a) = codes "(unsigned __int128)" ++ wrapped (is_bin a) (expr_text sc (not (is_signed (kind_in sc a))) a)
  expr_text sc suffix (big high low) = codes "bal_wide(" ++ (literal_text true high ++ (codes ", " ++ (literal_text true low ++ codes ")")))

  pub subscripts_text : Scope → Word → PlainExprs → List ℕ
  subscripts_text sc x no_exprs = []
  subscripts_text sc x (more_exprs e es) =
      codes "[" ++ (expr_text sc (subscript_has_suffix sc x e) e ++ (codes "]" ++ subscripts_text sc x es))

-- a side of a test
abbrev pub side_text : Scope → Bool → PlainExpr → List ℕ
side_text sc suffix e = wrapped (is_loose e) (expr_text sc suffix e)

-- a comparison of words, or else of signed values
abbrev pub test_text : Scope → PlainTest → List ℕ
test_text sc t =
    let suffix = is_word (join (kind_in sc t.1) (kind_in sc t.2)) in
    side_text sc suffix t.1 ++ (codes " " ++ (rel_mark t.0 ++ (codes " " ++ side_text sc suffix t.2)))

abbrev pub more_tests_text : Scope → List PlainTest → List ℕ
more_tests_text sc [] = []
more_tests_text sc (t ∷ ts) = codes " && " ++ (test_text sc t ++ more_tests_text sc ts)

abbrev pub tests_text : Scope → List PlainTest → List ℕ
tests_text sc [] = []
tests_text sc (t ∷ ts) = test_text sc t ++ more_tests_text sc ts

-- ---- statements

-- two spaces a level
abbrev pub indent : ℕ → List ℕ
indent zero = []
indent (suc depth) = codes "  " ++ indent depth

abbrev pub end_line : List ℕ
end_line = 10 ∷ []

-- one pair a total of each array, from number a on
abbrev pub pair_text : ℕ → List ℕ
pair_text a = codes "(uint64_t)(bal_def" ++ (decimal a ++ (codes " != bal_use" ++ (decimal a ++ (codes ") << " ++ decimal a))))

abbrev pub more_pairs_text : ℕ → List Word → List ℕ
more_pairs_text a [] = []
more_pairs_text a (x ∷ xs) = codes " | " ++ (pair_text a ++ more_pairs_text (suc a) xs)

abbrev pub verdict_text : List Word → List ℕ
verdict_text [] = codes "0"
verdict_text (x ∷ xs) = pair_text 0 ++ more_pairs_text 1 xs

abbrev pub inside : Scope → Word → Scope
inside sc x = record sc { signed = x ∷ sc.signed }

abbrev mutual
  pub stmt_text : Scope → ℕ → PlainStmt → List ℕ
  stmt_text sc depth (loop x lo rel hi body) =
      indent depth ++ (codes "for (int64_t " ++ (x ++ (codes " = " ++ (expr_text sc false lo ++ (codes "; " ++ (x ++ (codes " " ++ (rel_mark rel ++ (codes " "
      ++ (expr_text sc false hi ++ (codes "; " ++ (x ++ (codes "++) {" ++ (end_line
      ++ (stmts_text (inside sc x) (suc depth) body ++ (indent depth ++ (codes "}" ++ end_line)))))))))))))))))
  stmt_text sc depth (choice ts first other) =
      indent depth ++ (codes "if (" ++ (tests_text sc ts ++ (codes ") {" ++ (end_line
      ++ (stmts_text sc (suc depth) first ++ (indent depth ++ (codes "}" ++ else_text sc depth other)))))))
  stmt_text sc depth (assign target op value) =
      indent depth ++ (expr_text sc true target ++ (codes " " ++ (assign_mark op ++ (codes " " ++ (expr_text sc true value ++ (codes ";" ++ end_line))))))
  stmt_text sc depth (table x len) =
      indent depth ++ (codes "uint64_t *" ++ (x ++ (codes " = calloc(" ++ (expr_text sc true len ++ (codes ", sizeof(uint64_t));" ++ (end_line
      ++ (indent depth ++ (codes "if (" ++ (x ++ (codes " == 0) { return 1099511627776ull; }" ++ end_line))))))))))
  stmt_text sc depth begin = codes "#pragma balance begin" ++ end_line
  stmt_text sc depth (check x extent a) =
      indent depth ++ (codes "if (" ++ (x ++ (codes " >= (uint64_t)(" ++ (expr_text sc false extent ++ (codes ")) {" ++ (end_line
      ++ (indent (suc depth) ++ (codes "return " ++ (decimal (2 ^ (16 + a)) ++ (codes "ull;" ++ (end_line ++ (indent depth ++ (codes "}" ++ end_line)))))))))))))
  stmt_text sc depth verdict = indent depth ++ (codes "return " ++ (verdict_text sc.arrays ++ (codes ";" ++ end_line)))

  -- An empty list is no `else`.
  pub else_text : Scope → ℕ → PlainStmts → List ℕ
  else_text sc depth no_stmts = end_line
  else_text sc depth (more_stmts s ss) =
      codes " else {" ++ (end_line ++ (stmt_text sc (suc depth) s ++ (stmts_text sc (suc depth) ss ++ (indent depth ++ (codes "}" ++ end_line)))))

  pub stmts_text : Scope → ℕ → PlainStmts → List ℕ
  stmts_text sc depth no_stmts = []
  stmts_text sc depth (more_stmts s ss) = stmt_text sc depth s ++ stmts_text sc depth ss

-- ---- the head

abbrev pub int_text : ℤ → List ℕ
int_text (pos n) = decimal n
int_text (negsuc n) = codes "-" ++ decimal (suc n)

abbrev pub ranges_text : List (Word × ℤ × ℤ) → List ℕ
ranges_text [] = []
ranges_text (r ∷ rs) =
    codes "#pragma balance range " ++ (r.0 ++ (codes " " ++ (int_text r.1 ++ (codes " " ++ (int_text r.2 ++ (end_line ++ ranges_text rs))))))

abbrev pub scope_of : List PlainParam → Scope
scope_of ps = record { arrays = arrays_in ps; signed = ints_in ps }

abbrev pub extents_text : Scope → PlainExprs → List ℕ
extents_text sc no_exprs = []
extents_text sc (more_exprs e es) = codes "[" ++ (expr_text sc false e ++ (codes "]" ++ extents_text sc es))

abbrev pub const_text : Bool → List ℕ
const_text true = codes "const "
const_text false = []

abbrev pub param_text : Scope → PlainParam → List ℕ
param_text sc (int_param x) = codes "int64_t " ++ x
param_text sc (array_param x constant extents) = const_text constant ++ (codes "uint64_t " ++ (x ++ extents_text sc extents))

abbrev pub more_params_text : Scope → List PlainParam → List ℕ
more_params_text sc [] = []
more_params_text sc (p ∷ ps) = codes ", " ++ (param_text sc p ++ more_params_text sc ps)

abbrev pub params_text : Scope → List PlainParam → List ℕ
params_text sc [] = []
params_text sc (p ∷ ps) = param_text sc p ++ more_params_text sc ps

abbrev pub words_text : List (Word × ℕ) → List ℕ
words_text [] = []
words_text (w ∷ ws) = codes "  uint64_t " ++ (w.0 ++ (codes " = " ++ (literal_text true w.1 ++ (codes ";" ++ (end_line ++ words_text ws)))))

abbrev pub wides_text : List Word → List ℕ
wides_text [] = []
wides_text (w ∷ ws) = codes "  unsigned __int128 " ++ (w ++ (codes " = 0;" ++ (end_line ++ wides_text ws)))

-- The functions that a printed text calls, of which a source's header has the first two.
abbrev pub preamble : List ℕ
preamble =
    codes "#include <stdint.h>" ++ (end_line ++ (codes "#include <stdlib.h>" ++ (end_line
    ++ (codes "static inline uint64_t umin(uint64_t a, uint64_t b) { return a < b ? a : b; }" ++ (end_line
    ++ (codes "static inline uint64_t umax(uint64_t a, uint64_t b) { return a < b ? b : a; }" ++ (end_line
    ++ (codes "static inline int64_t bal_min(int64_t a, int64_t b) { return a < b ? a : b; }" ++ (end_line
    ++ (codes "static inline int64_t bal_max(int64_t a, int64_t b) { return a < b ? b : a; }" ++ (end_line
    ++ (codes "static inline unsigned __int128 bal_wide(uint64_t h, uint64_t l) { return (unsigned __int128)h << 64 | l; }" ++ end_line))))))))))))

-- A printed unit begins with the preamble and its version.
abbrev pub version_text : Option ℕ → List ℕ
version_text None = []
version_text (Some n) = preamble ++ (codes "#pragma balance version " ++ (decimal n ++ end_line))

abbrev pub result_text : Option ℕ → List ℕ
result_text None = codes "void "
result_text (Some n) = codes "uint64_t "

-- the text of a unit
abbrev pub layout : PlainUnit → List ℕ
layout u =
    let sc = scope_of u.params in
    version_text u.version ++ (ranges_text u.ranges ++ (result_text u.version ++ (u.name ++ (codes "(" ++ (params_text sc u.params ++ (codes ") {" ++ (end_line
    ++ (words_text u.words ++ (wides_text u.wides ++ (stmts_text sc 1 u.body ++ (codes "}" ++ end_line)))))))))))
