-- From the scope at a place of a source to the scope at the same place of its text: expressions are of the same kinds.
use Rattle.std.proofs.Common.{◌≡◌, ℕ, ◌≤◌, Bool, true, false, not, ◌&&◌, ◌||◌, List, [], ◌∷◌, length, refl, sym, ap, ◌∙◌, arith, inl, inr, true≢false, eqb-true, nat_eq, Option, None, Some}
use Rattle.std.proofs.lemmas.Bool.{and_parts, or_parts, or_left, cases_Bool}
use Rattle.c_tree.specs.Plain.{Word, PlainExpr, lit, var, cell, un, bin, cast, test, umin, umax, PlainExprs, no_exprs, more_exprs, PlainTest, PlainUnit}
use Rattle.c_tree.specs.Names.{is_among}
use Rattle.c_tree.specs.declared.expr.UnOp.{UnOp}
use Rattle.c_tree.specs.declared.expr.UnOp.TheVariants.{Neg, Inv}
use Rattle.c_tree.specs.declared.expr.BinOp.{BinOp}
use Rattle.c_tree.specs.declared.expr.BinOp.TheVariants.{Add, Sub, Mul, And, Xor, Or}
use Rattle.instrumentation.specs.Body.{full}
use Rattle.instrumentation.specs.Names.{number_in}
use Rattle.instrumentation.specs.Pieces.{table_words}
use Rattle.instrumentation.specs.Guarded.{arrays_with_extents, array_names}
use Rattle.acceptance.specs.Items.{Loop, Scope, scope_of, is_loop, is_int, is_param, is_scalar, is_known, is_signed_name}
use Rattle.acceptance.specs.Head.{list_of, uses_known, all_use_known}
use Rattle.acceptance.specs.Affine.{has_name, is_affine_un, is_affine_bin, is_affine}
use Rattle.acceptance.specs.Printed.{dimensions, fits_dimensions, all_fit_dimensions, has_good_side, literals_fit, is_signed_un, is_signed_op, tests_fit}
use Rattle.acceptance_laws.proofs.Expressions.{IsWordAt, IsIndex, AreIndices, IsCellAt, IsSubscript, AreReadable, IsReadAt, IsValue, IsTarget, indices_readable, signed_known}
use Rattle.acceptance_laws.proofs.Statements.{AreTests}
use Rattle.acceptance_laws.proofs.Fine.{inside}
use Rattle.acceptance_laws.proofs.TextWords.{has_front}
use Rattle.acceptance_laws.proofs.Units.{words_of_text, head_of}
use Rattle.acceptance.specs.Parts.{has_signed}
use Rattle.accepted_laws.specs.Suited.{all_affine, are_subscripts, is_subscript, all_readable, are_readable, is_data, tests_affine, is_target, AreRanked}
use Rattle.acceptance.specs.Trees.{is_assigning}
use Rattle.accepted_laws.proofs.Dimensions.{param_array, array_has, has_array}

pub affine_un_signed : (op : UnOp) → is_affine_un op ≡ true → is_signed_un op ≡ true
affine_un_signed Neg h = refl
affine_un_signed Inv h = h

pub affine_bin_signed : (op : BinOp) (a b : Bool) → is_affine_bin op a b ≡ true → is_signed_op op ≡ true
affine_bin_signed Add a b h = refl
affine_bin_signed Sub a b h = refl
affine_bin_signed Mul a b h = refl
affine_bin_signed _ a b h = h

not_true : (b : Bool) → not b ≡ true → b ≡ false
not_true true h = sym h
not_true false h = refl

pub assigning_side : (op : BinOp) (e : PlainExpr) → is_assigning (Some op) ≡ true → has_good_side op e ≡ true
assigning_side Add e h = refl
assigning_side Sub e h = refl
assigning_side Mul e h = refl
assigning_side And e h = refl
assigning_side Xor e h = refl
assigning_side Or e h = refl
assigning_side _ e h = absurd (true≢false (sym h))

target_value : (sd : Scope) (t : PlainExpr) → IsTarget sd t → IsValue sd t
target_value sd (var x) h = h
target_value sd (cell x at) h = record { array = h.array; rank = h.rank; subscripts = indices_readable sd at h.subscripts }
target_value sd _ h = absurd h

-- No name in scope is one of the tables.
abbrev pub Untabled : PlainUnit → List Loop → List Word → Type 0
Untabled u ls ts = (x : Word) → is_known (scope_of u ls []) x ≡ true → is_among ts x ≡ false

module _ (u : PlainUnit) (plain : u.wides ≡ []) (ranked : AreRanked u.params) (few : ℕ) (ts : List Word) (ls : List Loop) (untabled : Untabled u ls ts) where
  abbrev source_here : Scope
  source_here = scope_of u ls []

  abbrev text_here : Scope
  text_here = inside (head_of u.params u.words few u.body ts) ls

  same_dimensions : (x : Word) → is_known source_here x ≡ true → dimensions text_here x ≡ dimensions source_here x
  same_dimensions x k = rw (untabled x k) refl

  pub affine_index : (bound : Bool) (e : PlainExpr) → is_affine source_here e ≡ true → fits_dimensions (dimensions source_here) e ≡ true → IsIndex text_here bound e
  affine_index bound (lit n) h d = tt
  affine_index bound (var x) h d = record { signed = h; flat = same_dimensions x (signed_known source_here x h) ∙ eqb-true _ _ d }
  affine_index bound (un op a) h d =
      let p : (is_affine_un op ≡ true) × (is_affine source_here a ≡ true) = and_parts _ _ h in
      (affine_un_signed op p.0, affine_index bound a p.1 d)
  affine_index bound (bin op a b) h d =
      let p : (is_affine_bin op (has_name a) (has_name b) ≡ true) × ((is_affine source_here a && is_affine source_here b) ≡ true) = and_parts _ _ h in
      let q : (is_affine source_here a ≡ true) × (is_affine source_here b ≡ true) = and_parts _ _ p.1 in
      let f : (fits_dimensions (dimensions source_here) a ≡ true) × (fits_dimensions (dimensions source_here) b ≡ true) = and_parts _ _ d in
      (affine_bin_signed op (has_name a) (has_name b) p.0, affine_index bound a q.0 f.0, affine_index bound b q.1 f.1)
  affine_index bound _ h d = absurd (true≢false (sym h))

  affine_indices : (es : PlainExprs) → all_affine source_here es ≡ true → all_fit_dimensions (dimensions source_here) es ≡ true → AreIndices text_here es
  affine_indices no_exprs h d = tt
  affine_indices (more_exprs e es) h d =
      let p : (is_affine source_here e ≡ true) × (all_affine source_here es ≡ true) = and_parts _ _ h in
      let f : (fits_dimensions (dimensions source_here) e ≡ true) × (all_fit_dimensions (dimensions source_here) es ≡ true) = and_parts _ _ d in
      (affine_index false e p.0 f.0, affine_indices es p.1 f.1)

  subscripts_indices : (es : PlainExprs) → are_subscripts source_here es ≡ true → all_fit_dimensions (dimensions source_here) es ≡ true → AreIndices text_here es
  subscripts_indices no_exprs h d = tt
  subscripts_indices (more_exprs e es) h d =
      let p : (is_affine source_here e ≡ true) × (all_affine source_here es ≡ true) = and_parts _ _ h in
      let f : (fits_dimensions (dimensions source_here) e ≡ true) × (all_fit_dimensions (dimensions source_here) es ≡ true) = and_parts _ _ d in
      (affine_index false e p.0 f.0, affine_indices es p.1 f.1)

  subscripts_some : (es : PlainExprs) → are_subscripts source_here es ≡ true → 1 ≤ length (list_of es)
  subscripts_some no_exprs h = absurd (true≢false (sym h))
  subscripts_some (more_exprs e es) h = omega arith

  cell_known : (x : Word) (at : PlainExprs) → uses_known source_here (cell x at) ≡ true → is_known source_here x ≡ true
  cell_known x at k = (let p : (is_known source_here x ≡ true) × (all_use_known source_here at ≡ true) = and_parts _ _ k in p.0)

  pub cell_here : (x : Word) (at : PlainExprs) → are_subscripts source_here at ≡ true → uses_known source_here (cell x at) ≡ true → fits_dimensions (dimensions source_here) (cell x at) ≡ true → IsCellAt text_here x at
  cell_here x at h k d =
      let f : (nat_eq (dimensions source_here x) (length (list_of at)) ≡ true) × (all_fit_dimensions (dimensions source_here) at ≡ true) = and_parts _ _ d in
      let rank : dimensions source_here x ≡ length (list_of at) = eqb-true _ _ f.0 in
      let some : 1 ≤ length (list_of at) = subscripts_some at h in
      record { array = has_array u.params x (omega arith); rank = same_dimensions x (cell_known x at k) ∙ rank; subscripts = subscripts_indices at h f.1 }

  -- a subscript of a read
  subscript_here : (e : PlainExpr) → is_subscript source_here e ≡ true → uses_known source_here e ≡ true → fits_dimensions (dimensions source_here) e ≡ true → IsSubscript text_here e
  subscript_here (cell x at) h k d = cell_here x at h k d
  subscript_here (lit n) h k d = affine_index false (lit n) h d
  subscript_here (var x) h k d = affine_index false (var x) h d
  subscript_here (un op a) h k d = affine_index false (un op a) h d
  subscript_here (bin op a b) h k d = affine_index false (bin op a b) h d
  subscript_here _ h k d = absurd (true≢false (sym h))

  all_subscripts_here : (es : PlainExprs) → all_readable source_here es ≡ true → all_use_known source_here es ≡ true → all_fit_dimensions (dimensions source_here) es ≡ true → AreReadable text_here es
  all_subscripts_here no_exprs h k d = tt
  all_subscripts_here (more_exprs e es) h k d =
      let p : (is_subscript source_here e ≡ true) × (all_readable source_here es ≡ true) = and_parts _ _ h in
      let q : (uses_known source_here e ≡ true) × (all_use_known source_here es ≡ true) = and_parts _ _ k in
      let f : (fits_dimensions (dimensions source_here) e ≡ true) × (all_fit_dimensions (dimensions source_here) es ≡ true) = and_parts _ _ d in
      (subscript_here e p.0 q.0 f.0, all_subscripts_here es p.1 q.1 f.1)

  readable_all : (es : PlainExprs) → are_readable source_here es ≡ true → (all_readable source_here es ≡ true) × (1 ≤ length (list_of es))
  readable_all no_exprs h = absurd (true≢false (sym h))
  readable_all (more_exprs e es) h = (h, omega arith)

  read_here : (x : Word) (at : PlainExprs) → are_readable source_here at ≡ true → uses_known source_here (cell x at) ≡ true → fits_dimensions (dimensions source_here) (cell x at) ≡ true → IsReadAt text_here x at
  read_here x at h k d =
      let f : (nat_eq (dimensions source_here x) (length (list_of at)) ≡ true) × (all_fit_dimensions (dimensions source_here) at ≡ true) = and_parts _ _ d in
      let q : (is_known source_here x ≡ true) × (all_use_known source_here at ≡ true) = and_parts _ _ k in
      let rank : dimensions source_here x ≡ length (list_of at) = eqb-true _ _ f.0 in
      let a : (all_readable source_here at ≡ true) × (1 ≤ length (list_of at)) = readable_all at h in
      let some : 1 ≤ length (list_of at) = a.1 in
      record { array = has_array u.params x (omega arith); rank = same_dimensions x q.0 ∙ rank; subscripts = all_subscripts_here at a.0 q.1 f.1 }

  -- a name that is known, isn't signed and has no dimensions is a scalar
  scalar_here : (x : Word) → is_known source_here x ≡ true → is_signed_name source_here x ≡ false → dimensions source_here x ≡ 0 → is_scalar u.words x ≡ true
  scalar_here x k s d =
      let p : (is_loop ls x ≡ false) × (is_int u.params x ≡ false) = or_parts (is_loop ls x) (is_int u.params x) s in
      elim (cases_Bool (is_param u.params x)) [
        | inl e ↦ absurd (let a = array_has u.params x ranked (param_array u.params x e p.1) in omega arith)
        | inr e ↦ scalar (is_loop ls x) (is_param u.params x) (is_scalar u.words x) (is_among u.wides x) p.0 e (ap (λ ws. is_among ws x) plain) k
      ]
    where
      scalar : (a b c d : Bool) → a ≡ false → b ≡ false → d ≡ false → (a || (b || (c || (d || false)))) ≡ true → c ≡ true
      scalar a b true d e f g h = refl
      scalar false false false false e f g h = h
      scalar true b c d e f g h = absurd (true≢false e)
      scalar a true c d e f g h = absurd (true≢false f)
      scalar a b c true e f g h = absurd (true≢false g)

  front_scalar : (x : Word) → is_scalar u.words x ≡ true → is_scalar (words_of_text u.params u.words few u.body) x ≡ true
  front_scalar x h = has_front u.words few (table_words (number_in (array_names u.params)) u.body (arrays_with_extents u.params)) x h

  word_here : (x : Word) → is_known source_here x ≡ true → is_signed_name source_here x ≡ false → nat_eq (dimensions source_here x) 0 ≡ true → IsWordAt text_here x
  word_here x k s d =
      let flat : dimensions source_here x ≡ 0 = eqb-true _ _ d in
      record { declared = front_scalar x (scalar_here x k s flat); unsigned = s; flat = same_dimensions x k ∙ flat }

  -- ---- data

  both : (a b c d e f : Bool) → (a && b) ≡ true → (c && d) ≡ true → (e && f) ≡ true → ((a ≡ true) × (c ≡ true) × (e ≡ true)) × (b ≡ true) × (d ≡ true) × (f ≡ true)
  both a b c d e f h g k =
      let p : (a ≡ true) × (b ≡ true) = and_parts a b h in
      let q : (c ≡ true) × (d ≡ true) = and_parts c d g in
      let r : (e ≡ true) × (f ≡ true) = and_parts e f k in
      ((p.0, q.0, r.0), p.1, q.1, r.1)

  pub data_here : (e : PlainExpr) → is_data source_here e ≡ true → uses_known source_here e ≡ true → fits_dimensions (dimensions source_here) e ≡ true → literals_fit e ≡ true → IsValue text_here e
  data_here (lit n) h k d l = tt
  data_here (var x) h k d l = word_here x k (not_true _ h) d
  data_here (cell x at) h k d l = read_here x at h k d
  data_here (un op a) h k d l = data_here a h k d l
  data_here (bin op a b) h k d l =
      let p : (is_data source_here a ≡ true) × (is_data source_here b ≡ true) = and_parts _ _ h in
      let s : (has_good_side op b ≡ true) × ((literals_fit a && literals_fit b) ≡ true) = and_parts _ _ l in
      let q = both (uses_known source_here a) (uses_known source_here b) (fits_dimensions (dimensions source_here) a) (fits_dimensions (dimensions source_here) b) (literals_fit a) (literals_fit b) k d s.1 in
      (s.0, data_here a p.0 q.0.0 q.0.1 q.0.2, data_here b p.1 q.1 q.2 q.3)
  data_here (cast a) h k d l = elim (cases_Bool (has_signed source_here a)) [
    | inl e ↦ inr (affine_index false a (rw e at h) d)
    | inr e ↦ inl (data_here a (rw e at h) k d l)
  ]
  data_here (test rel a b) h k d l =
      let p : (is_data source_here a ≡ true) × (is_data source_here b ≡ true) = and_parts _ _ h in
      let q = both (uses_known source_here a) (uses_known source_here b) (fits_dimensions (dimensions source_here) a) (fits_dimensions (dimensions source_here) b) (literals_fit a) (literals_fit b) k d l in
      (data_here a p.0 q.0.0 q.0.1 q.0.2, data_here b p.1 q.1 q.2 q.3)
  data_here (umin a b) h k d l =
      let p : (is_data source_here a ≡ true) × (is_data source_here b ≡ true) = and_parts _ _ h in
      let q = both (uses_known source_here a) (uses_known source_here b) (fits_dimensions (dimensions source_here) a) (fits_dimensions (dimensions source_here) b) (literals_fit a) (literals_fit b) k d l in
      (data_here a p.0 q.0.0 q.0.1 q.0.2, data_here b p.1 q.1 q.2 q.3)
  data_here (umax a b) h k d l =
      let p : (is_data source_here a ≡ true) × (is_data source_here b ≡ true) = and_parts _ _ h in
      let q = both (uses_known source_here a) (uses_known source_here b) (fits_dimensions (dimensions source_here) a) (fits_dimensions (dimensions source_here) b) (literals_fit a) (literals_fit b) k d l in
      (data_here a p.0 q.0.0 q.0.1 q.0.2, data_here b p.1 q.1 q.2 q.3)
  data_here _ h k d l = absurd (true≢false (sym h))

  pub target_here : (t : PlainExpr) → is_target source_here t ≡ true → uses_known source_here t ≡ true → fits_dimensions (dimensions source_here) t ≡ true → IsTarget text_here t
  target_here (var x) h k d = word_here x k (not_true _ h) d
  target_here (cell x at) h k d = cell_here x at h k d
  target_here _ h k d = absurd (true≢false (sym h))

  pub full_here : (t : PlainExpr) (op : Option BinOp) (e : PlainExpr) → is_assigning op ≡ true → IsTarget text_here t → IsValue text_here e → IsValue text_here (full t op e)
  full_here t None e o h g = g
  full_here t (Some op) e o h g = (assigning_side op e o, target_value text_here t h, g)

  pub tests_here : (ts : List PlainTest) → tests_affine source_here ts ≡ true → tests_fit (fits_dimensions (dimensions source_here)) ts ≡ true → AreTests text_here ts
  tests_here [] h d = tt
  tests_here (t ∷ ts) h d =
      let p : ((is_affine source_here t.1 && is_affine source_here t.2) ≡ true) × (tests_affine source_here ts ≡ true) = and_parts _ _ h in
      let q : (is_affine source_here t.1 ≡ true) × (is_affine source_here t.2 ≡ true) = and_parts _ _ p.0 in
      let f : (fits_dimensions (dimensions source_here) t.1 ≡ true) × ((fits_dimensions (dimensions source_here) t.2 && tests_fit (fits_dimensions (dimensions source_here)) ts) ≡ true) = and_parts _ _ d in
      let g : (fits_dimensions (dimensions source_here) t.2 ≡ true) × (tests_fit (fits_dimensions (dimensions source_here)) ts ≡ true) = and_parts _ _ f.1 in
      ((affine_index false t.1 q.0 f.0, affine_index false t.2 q.1 g.0), tests_here ts p.1 g.1)
