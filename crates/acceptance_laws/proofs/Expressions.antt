-- Expressions of a text, by the names in scope: signed ones, words and wide ones. No condition refuses them where they stand.
use Rattle.std.proofs.Common.{◌≡◌, ◌⊎◌, ℕ, Bool, true, false, ◌&&◌, ◌||◌, if◌then◌else◌, List, [], ◌∷◌, length, refl, sym, ap, nat_eq, inl, inr, true≢false, eq-eqb}
use Rattle.std.specs.Prelude.{bytes_eq}
use Rattle.std.proofs.lemmas.Bool.{and_from, or_left, or_right, cases_Bool}
use Rattle.c_tree.specs.Plain.{Word, PlainExpr, lit, var, cell, un, bin, cast, test, umin, umax, least, greatest, widen, big, PlainExprs, no_exprs, more_exprs, PlainParam, int_param, array_param}
use Rattle.c_tree.specs.Names.{is_among}
use Rattle.c_tree.specs.Kinds.{Kind, either, signed_kind, word_kind, join, is_signed, is_word}
use Rattle.c_tree.specs.declared.expr.UnOp.{UnOp}
use Rattle.c_tree.specs.declared.expr.BinOp.{BinOp}
use Rattle.c_tree.specs.declared.expr.BinOp.TheVariants.{Add, Sub, Mul}
use Rattle.instrumentation.specs.Subscripts.{is_cell}
use Rattle.instrumentation.specs.Tables.{one}
use Rattle.acceptance.specs.Items.{Scope, is_loop, is_int, is_array, is_param, is_scalar, is_declared, is_known, is_signed_name}
use Rattle.acceptance.specs.Head.{list_of, uses_known, all_use_known}
use Rattle.acceptance.specs.Printed.{dimensions, fits_dimensions, all_fit_dimensions, has_good_side, literals_fit, all_literals_fit, is_signed_un, is_signed_op, is_signed_expr, reads_no_array, kind_of, is_word_expr, are_subscripts, is_wide_expr}

-- ---- names

pub record IsSignedAt (sc : Scope) (x : Word) : Type 0 where
  pub signed : is_signed_name sc x ≡ true
  pub flat : dimensions sc x ≡ 0

pub record IsWordAt (sc : Scope) (x : Word) : Type 0 where
  pub declared : is_scalar sc.words x ≡ true
  pub unsigned : is_signed_name sc x ≡ false
  pub flat : dimensions sc x ≡ 0

pub record IsWideAt (sc : Scope) (x : Word) : Type 0 where
  pub declared : is_among sc.wides x ≡ true
  pub flat : dimensions sc x ≡ 0

pub or_weaker : (a b c : Bool) → (a || b) ≡ true → (b ≡ true → c ≡ true) → (a || c) ≡ true
or_weaker true b c h g = refl
or_weaker false b c h g = g h

pub int_param_of : (ps : List PlainParam) (x : Word) → is_int ps x ≡ true → is_param ps x ≡ true
int_param_of [] x h = h
int_param_of (int_param y ∷ ps) x h = or_weaker (bytes_eq y x) (is_int ps x) (is_param ps x) h (int_param_of ps x)
int_param_of (array_param y constant extents ∷ ps) x h = or_right (bytes_eq y x) (is_param ps x) (int_param_of ps x h)

pub array_param_of : (ps : List PlainParam) (x : Word) → is_array ps x ≡ true → is_param ps x ≡ true
array_param_of [] x h = h
array_param_of (int_param y ∷ ps) x h = or_right (bytes_eq y x) (is_param ps x) (array_param_of ps x h)
array_param_of (array_param y constant extents ∷ ps) x h = or_weaker (bytes_eq y x) (is_array ps x) (is_param ps x) h (array_param_of ps x)

pub param_known : (sc : Scope) (x : Word) → is_param sc.params x ≡ true → is_known sc x ≡ true
param_known sc x h = or_right (is_loop sc.loops x) _ (or_left _ (is_scalar sc.words x || (is_among sc.wides x || is_among sc.tables x)) h)

pub word_known : (sc : Scope) (x : Word) → is_scalar sc.words x ≡ true → is_known sc x ≡ true
word_known sc x h = or_right (is_loop sc.loops x) _ (or_right (is_param sc.params x) _ (or_left _ (is_among sc.wides x || is_among sc.tables x) h))

pub wide_known : (sc : Scope) (x : Word) → is_among sc.wides x ≡ true → is_known sc x ≡ true
wide_known sc x h = or_right (is_loop sc.loops x) _ (or_right (is_param sc.params x) _ (or_right (is_scalar sc.words x) _ (or_left _ (is_among sc.tables x) h)))

pub signed_known : (sc : Scope) (x : Word) → is_signed_name sc x ≡ true → is_known sc x ≡ true
signed_known sc x h = or_weaker (is_loop sc.loops x) (is_int sc.params x) (is_declared sc x) h (λ e. or_left _ (is_scalar sc.words x || (is_among sc.wides x || is_among sc.tables x)) (int_param_of sc.params x e))

-- ---- each expression: its names are in scope, have as many subscripts as they take, and its literals fit

pub record IsGood (sc : Scope) (e : PlainExpr) : Type 0 where
  pub known : uses_known sc e ≡ true
  pub fits : fits_dimensions (dimensions sc) e ≡ true
  pub literals : literals_fit e ≡ true

pub record AreGood (sc : Scope) (es : PlainExprs) : Type 0 where
  pub known : all_use_known sc es ≡ true
  pub fits : all_fit_dimensions (dimensions sc) es ≡ true
  pub literals : all_literals_fit es ≡ true

pub flat_fits : (n : ℕ) → n ≡ 0 → nat_eq n 0 ≡ true
flat_fits n h = ap (λ m. nat_eq m 0) h

pub good_var : (sc : Scope) (x : Word) → is_known sc x ≡ true → dimensions sc x ≡ 0 → IsGood sc (var x)
good_var sc x k d = record { known = k; fits = flat_fits (dimensions sc x) d; literals = refl }

good_un : (sc : Scope) (op : UnOp) (a : PlainExpr) → IsGood sc a → IsGood sc (un op a)
good_un sc op a g = record { known = g.known; fits = g.fits; literals = g.literals }

good_bin : (sc : Scope) (op : BinOp) (a b : PlainExpr) → has_good_side op b ≡ true → IsGood sc a → IsGood sc b → IsGood sc (bin op a b)
good_bin sc op a b s g k = record { known = and_from _ _ g.known k.known; fits = and_from _ _ g.fits k.fits; literals = and_from _ _ s (and_from _ _ g.literals k.literals) }

-- ---- signed expressions; the test says whether it is a bound

abbrev pub IsIndex : Scope → Bool → PlainExpr → Type 0
IsIndex sc bound (lit n) = Unit {0}
IsIndex sc bound (var x) = IsSignedAt sc x
IsIndex sc bound (un op a) = (is_signed_un op ≡ true) × IsIndex sc bound a
IsIndex sc bound (bin op a b) = (is_signed_op op ≡ true) × IsIndex sc bound a × IsIndex sc bound b
IsIndex sc bound (least a b) = (bound ≡ true) × IsIndex sc bound a × IsIndex sc bound b
IsIndex sc bound (greatest a b) = (bound ≡ true) × IsIndex sc bound a × IsIndex sc bound b
IsIndex sc bound _ = ⊥

abbrev pub AreIndices : Scope → PlainExprs → Type 0
AreIndices sc no_exprs = Unit {0}
AreIndices sc (more_exprs e es) = IsIndex sc false e × AreIndices sc es

-- no signed operator asks anything of its literals
signed_side : (op : BinOp) (b : PlainExpr) → is_signed_op op ≡ true → has_good_side op b ≡ true
signed_side Add b h = refl
signed_side Sub b h = refl
signed_side Mul b h = refl
signed_side _ b h = absurd cc

pub index_good : (sc : Scope) (bound : Bool) (e : PlainExpr) → IsIndex sc bound e → IsGood sc e
index_good sc bound (lit n) h = record { known = refl; fits = refl; literals = refl }
index_good sc bound (var x) h = good_var sc x (signed_known sc x h.signed) h.flat
index_good sc bound (un op a) h = good_un sc op a (index_good sc bound a h.1)
index_good sc bound (bin op a b) h = good_bin sc op a b (signed_side op b h.0) (index_good sc bound a h.1) (index_good sc bound b h.2)
index_good sc bound (least a b) h =
    let g : IsGood sc a = index_good sc bound a h.1 in
    let k : IsGood sc b = index_good sc bound b h.2 in
    record { known = and_from _ _ g.known k.known; fits = and_from _ _ g.fits k.fits; literals = and_from _ _ g.literals k.literals }
index_good sc bound (greatest a b) h =
    let g : IsGood sc a = index_good sc bound a h.1 in
    let k : IsGood sc b = index_good sc bound b h.2 in
    record { known = and_from _ _ g.known k.known; fits = and_from _ _ g.fits k.fits; literals = and_from _ _ g.literals k.literals }
index_good sc bound _ h = absurd h

pub index_signed : (sc : Scope) (bound : Bool) (e : PlainExpr) → IsIndex sc bound e → is_signed_expr sc bound e ≡ true
index_signed sc bound (lit n) h = refl
index_signed sc bound (var x) h = h.signed
index_signed sc bound (un op a) h = and_from _ _ h.0 (index_signed sc bound a h.1)
index_signed sc bound (bin op a b) h = and_from _ _ h.0 (and_from _ _ (index_signed sc bound a h.1) (index_signed sc bound b h.2))
index_signed sc bound (least a b) h = and_from _ _ h.0 (and_from _ _ (index_signed sc bound a h.1) (index_signed sc bound b h.2))
index_signed sc bound (greatest a b) h = and_from _ _ h.0 (and_from _ _ (index_signed sc bound a h.1) (index_signed sc bound b h.2))
index_signed sc bound _ h = absurd h

-- two that are no words are none together
pub join_no_word : (k l : Kind) → is_word k ≡ false → is_word l ≡ false → is_word (join k l) ≡ false
join_no_word either l h g = g
join_no_word signed_kind l h g = refl
join_no_word word_kind l h g = absurd (true≢false h)

pub index_no_word : (sc : Scope) (bound : Bool) (e : PlainExpr) → IsIndex sc bound e → is_word (kind_of sc e) ≡ false
index_no_word sc bound (lit n) h = refl
index_no_word sc bound (var x) h = rw h.signed refl
index_no_word sc bound (un op a) h = index_no_word sc bound a h.1
index_no_word sc bound (bin op a b) h = join_no_word (kind_of sc a) (kind_of sc b) (index_no_word sc bound a h.1) (index_no_word sc bound b h.2)
index_no_word sc bound (least a b) h = refl
index_no_word sc bound (greatest a b) h = refl
index_no_word sc bound _ h = absurd h

pub indices_good : (sc : Scope) (es : PlainExprs) → AreIndices sc es → AreGood sc es
indices_good sc no_exprs h = record { known = refl; fits = refl; literals = refl }
indices_good sc (more_exprs e es) h =
    let g : IsGood sc e = index_good sc false e h.0 in
    let k : AreGood sc es = indices_good sc es h.1 in
    record { known = and_from _ _ g.known k.known; fits = and_from _ _ g.fits k.fits; literals = and_from _ _ g.literals k.literals }

pub indices_are_subscripts : (sc : Scope) (es : PlainExprs) → AreIndices sc es → are_subscripts sc es ≡ true
indices_are_subscripts sc no_exprs h = refl
indices_are_subscripts sc (more_exprs e es) h = rw (index_no_word sc false e h.0) (and_from _ _ (index_signed sc false e h.0) (indices_are_subscripts sc es h.1))

-- ---- words

pub record IsCellAt (sc : Scope) (x : Word) (at : PlainExprs) : Type 0 where
  pub array : is_array sc.params x ≡ true
  pub rank : dimensions sc x ≡ length (list_of at)
  pub subscripts : AreIndices sc at

-- a subscript of a read of a source: signed, or an index cell
abbrev pub IsSubscript : Scope → PlainExpr → Type 0
IsSubscript sc (cell x at) = IsCellAt sc x at
IsSubscript sc e = IsIndex sc false e

abbrev pub AreReadable : Scope → PlainExprs → Type 0
AreReadable sc no_exprs = Unit {0}
AreReadable sc (more_exprs e es) = IsSubscript sc e × AreReadable sc es

pub record IsReadAt (sc : Scope) (x : Word) (at : PlainExprs) : Type 0 where
  pub array : is_array sc.params x ≡ true
  pub rank : dimensions sc x ≡ length (list_of at)
  pub subscripts : AreReadable sc at

-- the value of an assignment of a source: its cells may have index cells for subscripts
abbrev pub IsValue : Scope → PlainExpr → Type 0
IsValue sc (lit n) = Unit {0}
IsValue sc (var x) = IsWordAt sc x
IsValue sc (cell x at) = IsReadAt sc x at
IsValue sc (un op a) = IsValue sc a
IsValue sc (bin op a b) = (has_good_side op b ≡ true) × IsValue sc a × IsValue sc b
IsValue sc (cast a) = IsValue sc a ⊎ IsIndex sc false a
IsValue sc (test rel a b) = IsValue sc a × IsValue sc b
IsValue sc (umin a b) = IsValue sc a × IsValue sc b
IsValue sc (umax a b) = IsValue sc a × IsValue sc b
IsValue sc (least a b) = ⊥
IsValue sc (greatest a b) = ⊥
IsValue sc (widen a) = ⊥
IsValue sc (big high low) = ⊥

pub index_subscript : (sc : Scope) (e : PlainExpr) → IsIndex sc false e → IsSubscript sc e
index_subscript sc (cell x at) h = absurd h
index_subscript sc (lit n) h = h
index_subscript sc (var x) h = h
index_subscript sc (un op a) h = h
index_subscript sc (bin op a b) h = h
index_subscript sc (cast a) h = h
index_subscript sc (test rel a b) h = h
index_subscript sc (umin a b) h = h
index_subscript sc (umax a b) h = h
index_subscript sc (least a b) h = h
index_subscript sc (greatest a b) h = h
index_subscript sc (widen a) h = h
index_subscript sc (big high low) h = h

-- one that is no cell is signed
pub subscript_index : (sc : Scope) (e : PlainExpr) → is_cell e ≡ false → IsSubscript sc e → IsIndex sc false e
subscript_index sc (cell x at) n h = absurd (true≢false n)
subscript_index sc (lit k) n h = h
subscript_index sc (var x) n h = h
subscript_index sc (un op a) n h = h
subscript_index sc (bin op a b) n h = h
subscript_index sc (cast a) n h = h
subscript_index sc (test rel a b) n h = h
subscript_index sc (umin a b) n h = h
subscript_index sc (umax a b) n h = h
subscript_index sc (least a b) n h = h
subscript_index sc (greatest a b) n h = h
subscript_index sc (widen a) n h = h
subscript_index sc (big high low) n h = h

pub indices_readable : (sc : Scope) (es : PlainExprs) → AreIndices sc es → AreReadable sc es
indices_readable sc no_exprs h = tt
indices_readable sc (more_exprs e es) h = (index_subscript sc e h.0, indices_readable sc es h.1)

-- the value of an assignment of a text to a word or a cell, whose cells have signed subscripts
abbrev pub IsData : Scope → PlainExpr → Type 0
IsData sc (lit n) = Unit {0}
IsData sc (var x) = IsWordAt sc x
IsData sc (cell x at) = IsCellAt sc x at
IsData sc (un op a) = IsData sc a
IsData sc (bin op a b) = (has_good_side op b ≡ true) × IsData sc a × IsData sc b
IsData sc (cast a) = IsData sc a ⊎ IsIndex sc false a
IsData sc (test rel a b) = IsData sc a × IsData sc b
IsData sc (umin a b) = IsData sc a × IsData sc b
IsData sc (umax a b) = IsData sc a × IsData sc b
IsData sc (least a b) = ⊥
IsData sc (greatest a b) = ⊥
IsData sc (widen a) = ⊥
IsData sc (big high low) = ⊥

-- the target of an assignment of a source
abbrev pub IsTarget : Scope → PlainExpr → Type 0
IsTarget sc (var x) = IsWordAt sc x
IsTarget sc (cell x at) = IsCellAt sc x at
IsTarget sc _ = ⊥

pub cell_good : (sc : Scope) (x : Word) (at : PlainExprs) → IsCellAt sc x at → IsGood sc (cell x at)
cell_good sc x at h =
    let g : AreGood sc at = indices_good sc at h.subscripts in
    record {
      known = and_from _ _ (param_known sc x (array_param_of sc.params x h.array)) g.known;
      fits = and_from _ _ (eq-eqb (dimensions sc x) (length (list_of at)) h.rank) g.fits;
      literals = g.literals;
    }

pub data_good : (sc : Scope) (e : PlainExpr) → IsData sc e → IsGood sc e
data_good sc (lit n) h = record { known = refl; fits = refl; literals = refl }
data_good sc (var x) h = good_var sc x (word_known sc x h.declared) h.flat
data_good sc (cell x at) h = cell_good sc x at h
data_good sc (un op a) h = good_un sc op a (data_good sc a h)
data_good sc (bin op a b) h = good_bin sc op a b h.0 (data_good sc a h.1) (data_good sc b h.2)
data_good sc (cast a) (inl h) = (let g : IsGood sc a = data_good sc a h in record { known = g.known; fits = g.fits; literals = g.literals })
data_good sc (cast a) (inr h) = (let g : IsGood sc a = index_good sc false a h in record { known = g.known; fits = g.fits; literals = g.literals })
data_good sc (test rel a b) h =
    let g : IsGood sc a = data_good sc a h.0 in
    let k : IsGood sc b = data_good sc b h.1 in
    record { known = and_from _ _ g.known k.known; fits = and_from _ _ g.fits k.fits; literals = and_from _ _ g.literals k.literals }
data_good sc (umin a b) h =
    let g : IsGood sc a = data_good sc a h.0 in
    let k : IsGood sc b = data_good sc b h.1 in
    record { known = and_from _ _ g.known k.known; fits = and_from _ _ g.fits k.fits; literals = and_from _ _ g.literals k.literals }
data_good sc (umax a b) h =
    let g : IsGood sc a = data_good sc a h.0 in
    let k : IsGood sc b = data_good sc b h.1 in
    record { known = and_from _ _ g.known k.known; fits = and_from _ _ g.fits k.fits; literals = and_from _ _ g.literals k.literals }
data_good sc _ h = absurd h

-- two that aren't signed aren't together
join_no_signed : (k l : Kind) → is_signed k ≡ false → is_signed l ≡ false → is_signed (join k l) ≡ false
join_no_signed either l h g = g
join_no_signed signed_kind l h g = absurd (true≢false h)
join_no_signed word_kind l h g = refl

pub data_no_signed : (sc : Scope) (e : PlainExpr) → IsData sc e → is_signed (kind_of sc e) ≡ false
data_no_signed sc (var x) h = rw h.unsigned refl
data_no_signed sc (un op a) h = data_no_signed sc a h
data_no_signed sc (bin op a b) h = join_no_signed (kind_of sc a) (kind_of sc b) (data_no_signed sc a h.1) (data_no_signed sc b h.2)
data_no_signed sc (least a b) h = absurd h
data_no_signed sc (greatest a b) h = absurd h
data_no_signed sc _ h = refl

join_left : (k l : Kind) → is_word k ≡ false → is_signed (join k l) ≡ false → is_signed k ≡ false
join_left either l h g = refl
join_left signed_kind l h g = g
join_left word_kind l h g = refl

join_right : (k l : Kind) → is_word k ≡ false → is_signed (join k l) ≡ false → is_signed l ≡ false
join_right either l h g = g
join_right signed_kind l h g = absurd (true≢false g)
join_right word_kind l h g = absurd (true≢false h)

-- a signed expression of literals alone is a word expression too
pub index_word : (sc : Scope) (e : PlainExpr) → IsIndex sc false e → is_signed (kind_of sc e) ≡ false → is_word_expr sc e ≡ true
index_word sc (lit n) h g = refl
index_word sc (var x) h g = absurd (true≢false (rw h.signed at g))
index_word sc (un op a) h g = index_word sc a h.1 g
index_word sc (bin op a b) h g =
    let n : is_word (kind_of sc a) ≡ false = index_no_word sc false a h.1 in
    and_from _ _ (index_word sc a h.1 (join_left (kind_of sc a) (kind_of sc b) n g)) (index_word sc b h.2 (join_right (kind_of sc a) (kind_of sc b) n g))
index_word sc (least a b) h g = absurd (true≢false (sym h.0))
index_word sc (greatest a b) h g = absurd (true≢false (sym h.0))
index_word sc _ h g = absurd h

pub data_word : (sc : Scope) (e : PlainExpr) → IsData sc e → is_word_expr sc e ≡ true
data_word sc (lit n) h = refl
data_word sc (var x) h = h.declared
data_word sc (cell x at) h = rw h.array (indices_are_subscripts sc at h.subscripts)
data_word sc (un op a) h = data_word sc a h
data_word sc (bin op a b) h = and_from _ _ (data_word sc a h.1) (data_word sc b h.2)
data_word sc (cast a) (inl h) = rw (data_no_signed sc a h) (data_word sc a h)
data_word sc (cast a) (inr h) = elim (cases_Bool (is_signed (kind_of sc a))) [
  | inl e ↦ rw e (index_signed sc false a h)
  | inr e ↦ rw e (index_word sc a h e)
]
data_word sc (test rel a b) h = and_from _ _ (data_word sc a h.0) (data_word sc b h.1)
data_word sc (umin a b) h = and_from _ _ (data_word sc a h.0) (data_word sc b h.1)
data_word sc (umax a b) h = and_from _ _ (data_word sc a h.0) (data_word sc b h.1)
data_word sc _ h = absurd h

-- ---- wide expressions

pub record IsWide (sc : Scope) (e : PlainExpr) : Type 0 where
  pub good : IsGood sc e
  pub wide : is_wide_expr sc e ≡ true

pub widen_wide : (sc : Scope) (x : Word) → IsWordAt sc x → IsWide sc (widen (var x))
widen_wide sc x h =
    let g : IsGood sc (var x) = good_var sc x (word_known sc x h.declared) h.flat in
    record { good = record { known = g.known; fits = g.fits; literals = g.literals }; wide = rw h.unsigned h.declared }

pub product_wide : (sc : Scope) (x k : Word) → IsWordAt sc x → IsWideAt sc k → IsWide sc (bin Mul (widen (var x)) (var k))
product_wide sc x k h w =
    let a : IsWide sc (widen (var x)) = widen_wide sc x h in
    record { good = good_bin sc Mul (widen (var x)) (var k) refl a.good (good_var sc k (wide_known sc k w.declared) w.flat); wide = and_from _ _ a.wide w.declared }

-- ---- word expressions of a text, entries of tables among them

pub record IsWords (sc : Scope) (e : PlainExpr) : Type 0 where
  pub good : IsGood sc e
  pub word : is_word_expr sc e ≡ true
  pub unsigned : is_signed (kind_of sc e) ≡ false

pub words_of : (sc : Scope) (e : PlainExpr) → IsData sc e → IsWords sc e
words_of sc e h = record { good = data_good sc e h; word = data_word sc e h; unsigned = data_no_signed sc e h }

pub words_bin : (sc : Scope) (op : BinOp) (a b : PlainExpr) → has_good_side op b ≡ true → IsWords sc a → IsWords sc b → IsWords sc (bin op a b)
words_bin sc op a b s g k = record {
  good = good_bin sc op a b s g.good k.good;
  word = and_from _ _ g.word k.word;
  unsigned = join_no_signed (kind_of sc a) (kind_of sc b) g.unsigned k.unsigned;
}

-- the name of a table
pub record IsTableAt (sc : Scope) (x : Word) : Type 0 where
  pub made : is_among sc.tables x ≡ true
  pub no_array : is_array sc.params x ≡ false

pub table_known : (sc : Scope) (x : Word) → is_among sc.tables x ≡ true → is_known sc x ≡ true
table_known sc x h = or_right (is_loop sc.loops x) _ (or_right (is_param sc.params x) _ (or_right (is_scalar sc.words x) _ (or_right (is_among sc.wides x) _ h)))

pub entry_words : (sc : Scope) (x : Word) (e : PlainExpr) → IsTableAt sc x → IsWords sc e → IsWords sc (cell x (one e))
entry_words sc x e t h = record {
  good = record {
    known = and_from _ _ (table_known sc x t.made) (and_from _ _ h.good.known refl);
    fits = and_from _ _ (rw t.made refl) (and_from _ _ h.good.fits refl);
    literals = and_from _ _ h.good.literals refl;
  };
  word = rw t.no_array (and_from _ _ t.made h.word);
  unsigned = refl;
}

pub words_wide : (sc : Scope) (e : PlainExpr) → IsWords sc e → IsWide sc (widen e)
words_wide sc e h = record { good = record { known = h.good.known; fits = h.good.fits; literals = h.good.literals }; wide = rw h.unsigned h.word }

-- ---- the subscripts of a load: signed, or words without cells

pub record IsPlaced (sc : Scope) (e : PlainExpr) : Type 0 where
  pub good : IsGood sc e
  pub kinds : (if is_word (kind_of sc e) then is_word_expr sc e && reads_no_array sc e else is_signed_expr sc false e) ≡ true

abbrev pub ArePlaced : Scope → PlainExprs → Type 0
ArePlaced sc no_exprs = Unit {0}
ArePlaced sc (more_exprs e es) = IsPlaced sc e × ArePlaced sc es

pub index_placed : (sc : Scope) (e : PlainExpr) → IsIndex sc false e → IsPlaced sc e
index_placed sc e h = record { good = index_good sc false e h; kinds = rw (index_no_word sc false e h) (index_signed sc false e h) }

pub word_placed : (sc : Scope) (x : Word) → IsWordAt sc x → IsPlaced sc (var x)
word_placed sc x h = record { good = good_var sc x (word_known sc x h.declared) h.flat; kinds = rw h.unsigned (and_from _ _ h.declared refl) }

placed_good : (sc : Scope) (es : PlainExprs) → ArePlaced sc es → AreGood sc es
placed_good sc no_exprs h = record { known = refl; fits = refl; literals = refl }
placed_good sc (more_exprs e es) h =
    let g : IsGood sc e = h.0.good in
    let k : AreGood sc es = placed_good sc es h.1 in
    record { known = and_from _ _ g.known k.known; fits = and_from _ _ g.fits k.fits; literals = and_from _ _ g.literals k.literals }

placed_are_subscripts : (sc : Scope) (es : PlainExprs) → ArePlaced sc es → are_subscripts sc es ≡ true
placed_are_subscripts sc no_exprs h = refl
placed_are_subscripts sc (more_exprs e es) h = and_from _ _ h.0.kinds (placed_are_subscripts sc es h.1)

pub placed_words : (sc : Scope) (x : Word) (at : PlainExprs) → is_array sc.params x ≡ true → dimensions sc x ≡ length (list_of at) → ArePlaced sc at → IsWords sc (cell x at)
placed_words sc x at a r h =
    let g : AreGood sc at = placed_good sc at h in
    record {
      good = record {
        known = and_from _ _ (param_known sc x (array_param_of sc.params x a)) g.known;
        fits = and_from _ _ (eq-eqb (dimensions sc x) (length (list_of at)) r) g.fits;
        literals = g.literals;
      };
      word = rw a (placed_are_subscripts sc at h);
      unsigned = refl;
    }
