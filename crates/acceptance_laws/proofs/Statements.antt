-- Single statements of a text: no condition holds at them where their names and expressions are of the kinds that they take.
use Rattle.std.proofs.Common.{◌≡◌, ℕ, true, false, ◌&&◌, List, [], ◌∷◌, refl, Option}
use Rattle.std.specs.Prelude.{bytes_eq}
use Rattle.std.specs.List.{list_all}
use Rattle.std.proofs.lemmas.Bool.{and_from, and_parts, or_from, or_left, or_right}
use Rattle.c_tree.specs.Plain.{Word, PlainExpr, var, cell, PlainExprs, PlainTest, loop, choice, assign, table, check, verdict, PlainStmts}
use Rattle.c_tree.specs.Names.{is_among}
use Rattle.c_tree.specs.Kinds.{join, is_word}
use Rattle.c_tree.specs.declared.expr.Rel.{Rel}
use Rattle.c_tree.specs.declared.expr.BinOp.{BinOp}
use Rattle.instrumentation.specs.Tables.{one}
use Rattle.acceptance.specs.Items.{Scope, is_declared, is_known}
use Rattle.acceptance.specs.Printed.{dimensions, total_names_from, tests_use_known, tests_fit, fits_dimensions, names_fit, literals_fit, kind_of, is_test, is_wide_op, is_wide_expr}
use Rattle.acceptance_laws.proofs.Expressions.{IsWordAt, IsWideAt, IsGood, IsIndex, IsCellAt, IsData, IsWide, IsWords, IsTableAt, entry_words, flat_fits, good_var, word_known, wide_known, index_good, index_signed, index_no_word, join_no_word, cell_good, data_good, data_word}
use Rattle.acceptance_laws.proofs.Fine.{IsFine}

-- ---- assignments

pub word_fine : (f : Word) (sc : Scope) (x : Word) (op : Option BinOp) (e : PlainExpr) → IsWordAt sc x → IsData sc e → IsFine f sc (assign (var x) op e)
word_fine f sc x op e w d =
    let t : IsGood sc (var x) = good_var sc x (word_known sc x w.declared) w.flat in
    let g : IsGood sc e = data_good sc e d in
    record {
      once = refl;
      known = and_from _ _ t.known g.known;
      fits = and_from _ _ t.fits g.fits;
      flat = refl;
      literals = g.literals;
      kinds = or_left _ (is_among sc.wides x && (is_wide_op op && is_wide_expr sc e)) (and_from _ _ w.declared (data_word sc e d));
    }

pub wide_fine : (f : Word) (sc : Scope) (x : Word) (op : Option BinOp) (e : PlainExpr) → is_wide_op op ≡ true → IsWideAt sc x → IsWide sc e → IsFine f sc (assign (var x) op e)
wide_fine f sc x op e o w d =
    let t : IsGood sc (var x) = good_var sc x (wide_known sc x w.declared) w.flat in
    record {
      once = refl;
      known = and_from _ _ t.known d.good.known;
      fits = and_from _ _ t.fits d.good.fits;
      flat = refl;
      literals = d.good.literals;
      kinds = or_right _ _ (and_from _ _ w.declared (and_from _ _ o d.wide));
    }

pub store_fine : (f : Word) (sc : Scope) (x : Word) (at : PlainExprs) (op : Option BinOp) (e : PlainExpr) → IsCellAt sc x at → IsData sc e → IsFine f sc (assign (cell x at) op e)
store_fine f sc x at op e c d =
    let t : IsGood sc (cell x at) = cell_good sc x at c in
    let g : IsGood sc e = data_good sc e d in
    record {
      once = refl;
      known = and_from _ _ t.known g.known;
      fits = and_from _ _ t.fits g.fits;
      flat = refl;
      literals = and_from _ _ t.literals g.literals;
      kinds = and_from _ _ (data_word sc (cell x at) c) (data_word sc e d);
    }

-- a word expression, entries of tables among what it reads
pub words_fine : (f : Word) (sc : Scope) (x : Word) (op : Option BinOp) (e : PlainExpr) → IsWordAt sc x → IsWords sc e → IsFine f sc (assign (var x) op e)
words_fine f sc x op e w d =
    let t : IsGood sc (var x) = good_var sc x (word_known sc x w.declared) w.flat in
    record {
      once = refl;
      known = and_from _ _ t.known d.good.known;
      fits = and_from _ _ t.fits d.good.fits;
      flat = refl;
      literals = d.good.literals;
      kinds = or_left _ (is_among sc.wides x && (is_wide_op op && is_wide_expr sc e)) (and_from _ _ w.declared d.word);
    }

pub entry_fine : (f : Word) (sc : Scope) (x : Word) (i : PlainExpr) (op : Option BinOp) (e : PlainExpr) → IsTableAt sc x → IsWords sc i → IsWords sc e → IsFine f sc (assign (cell x (one i)) op e)
entry_fine f sc x i op e t h d =
    let c : IsWords sc (cell x (one i)) = entry_words sc x i t h in
    record {
      once = refl;
      known = and_from _ _ c.good.known d.good.known;
      fits = and_from _ _ c.good.fits d.good.fits;
      flat = refl;
      literals = and_from _ _ c.good.literals d.good.literals;
      kinds = and_from _ _ c.word d.word;
    }

-- ---- checks and tables

pub check_fine : (f : Word) (sc : Scope) (x : Word) (extent : PlainExpr) (a : ℕ) → IsWordAt sc x → IsIndex sc false extent → IsFine f sc (check x extent a)
check_fine f sc x extent a w h =
    let g : IsGood sc extent = index_good sc false extent h in
    record {
      once = refl;
      known = and_from _ _ (word_known sc x w.declared) g.known;
      fits = g.fits;
      flat = and_from _ _ (flat_fits (dimensions sc x) w.flat) refl;
      literals = g.literals;
      kinds = and_from _ _ w.declared (index_signed sc false extent h);
    }

pub table_fine : (f : Word) (sc : Scope) (x : Word) (len : PlainExpr) → bytes_eq f x ≡ false → is_declared sc x ≡ false → IsWords sc len → IsFine f sc (table x len)
table_fine f sc x len differs fresh h = record {
  once = or_from _ _ differs fresh;
  known = h.good.known;
  fits = h.good.fits;
  flat = refl;
  literals = h.good.literals;
  kinds = h.word;
}

-- ---- tests of signed values

abbrev pub AreTests : Scope → List PlainTest → Type 0
AreTests sc [] = Unit {0}
AreTests sc (t ∷ ts) = (IsIndex sc false t.1 × IsIndex sc false t.2) × AreTests sc ts

pub record TestsFine (sc : Scope) (ts : List PlainTest) : Type 0 where
  pub known : tests_use_known sc ts ≡ true
  pub fits : tests_fit (fits_dimensions (dimensions sc)) ts ≡ true
  pub literals : tests_fit literals_fit ts ≡ true
  pub kinds : list_all (is_test sc) ts ≡ true

signed_test : (sc : Scope) (t : PlainTest) → IsIndex sc false t.1 → IsIndex sc false t.2 → is_test sc t ≡ true
signed_test sc t a b =
    let n : is_word (join (kind_of sc t.1) (kind_of sc t.2)) ≡ false =
    join_no_word (kind_of sc t.1) (kind_of sc t.2) (index_no_word sc false t.1 a) (index_no_word sc false t.2 b) in
    rw n (and_from _ _ (index_signed sc false t.1 a) (index_signed sc false t.2 b))

pub tests_fine : (sc : Scope) (ts : List PlainTest) → AreTests sc ts → TestsFine sc ts
tests_fine sc [] h = record { known = refl; fits = refl; literals = refl; kinds = refl }
tests_fine sc (t ∷ ts) h =
    let a : IsGood sc t.1 = index_good sc false t.1 h.0.0 in
    let b : IsGood sc t.2 = index_good sc false t.2 h.0.1 in
    let m : TestsFine sc ts = tests_fine sc ts h.1 in
    record {
      known = and_from _ _ a.known (and_from _ _ b.known m.known);
      fits = and_from _ _ a.fits (and_from _ _ b.fits m.fits);
      literals = and_from _ _ a.literals (and_from _ _ b.literals m.literals);
      kinds = and_from _ _ (signed_test sc t h.0.0 h.0.1) m.kinds;
    }

pub choice_fine : (f : Word) (sc : Scope) (ts : List PlainTest) (first other : PlainStmts) → AreTests sc ts → IsFine f sc (choice ts first other)
choice_fine f sc ts first other h =
    let m : TestsFine sc ts = tests_fine sc ts h in
    record { once = refl; known = m.known; fits = m.fits; flat = refl; literals = m.literals; kinds = m.kinds }

-- ---- loops

pub loop_fine : (f : Word) (sc : Scope) (x : Word) (lo : PlainExpr) (rel : Rel) (hi : PlainExpr) (body : PlainStmts) →
    bytes_eq f x ≡ false → is_known sc x ≡ false → IsIndex sc true lo → IsIndex sc true hi → IsFine f sc (loop x lo rel hi body)
loop_fine f sc x lo rel hi body differs fresh l h =
    let a : IsGood sc lo = index_good sc true lo l in
    let b : IsGood sc hi = index_good sc true hi h in
    record {
      once = or_from _ _ differs fresh;
      known = and_from _ _ a.known b.known;
      fits = and_from _ _ a.fits b.fits;
      flat = refl;
      literals = and_from _ _ a.literals b.literals;
      kinds = and_from _ _ (index_signed sc true lo l) (index_signed sc true hi h);
    }

-- ---- the verdict

all_known : (sc : Scope) (xs : List Word) → list_all (is_among sc.wides) xs ≡ true → list_all (is_known sc) xs ≡ true
all_known sc [] h = refl
all_known sc (x ∷ xs) h = (let p = and_parts (is_among sc.wides x) (list_all (is_among sc.wides) xs) h in and_from _ _ (wide_known sc x p.0) (all_known sc xs p.1))

pub verdict_fine : (f : Word) (sc : Scope) → list_all (is_among sc.wides) (total_names_from 0 sc.params) ≡ true → names_fit sc verdict ≡ true → IsFine f sc verdict
verdict_fine f sc h g = record { once = refl; known = all_known sc (total_names_from 0 sc.params) h; fits = refl; flat = g; literals = refl; kinds = h }
