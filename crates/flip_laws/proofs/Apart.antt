-- No cell of an accepted source is a subscript of its own array.
use Rattle.std.proofs.Common.{◌≡◌, ◌≢◌, ⊎_elim, ℕ, suc, Bool, true, false, cond, not, ◌&&◌, List, [], ◌∷◌, refl, sym, ◌∙◌, subst, Some, None, inl, inr}
use Rattle.std.proofs.lemmas.Bool.{and_parts, not-false, not-true, false≢true, true≢false}
use Rattle.std.proofs.lemmas.Slice.Eq.{bytes_eq-Decides}
use Rattle.std.specs.Prelude.{bytes_eq}
use Rattle.std.specs.List.{AllByRecursion, list_all}
use Rattle.c_tree.specs.Plain.{Word, PlainExpr, lit, var, cell, un, bin, cast, test, umin, umax, least, greatest, widen, big, PlainExprs, no_exprs, more_exprs, PlainParam, PlainStmt, loop, choice, assign, table, begin, check, verdict, PlainStmts, no_stmts, more_stmts, PlainUnit}
use Rattle.acceptance.specs.Items.{Item, Loop, Scope, items, items_all, tables_after, first_where, least_item, scope_at}
use Rattle.acceptance.specs.Affine.{has_name, is_affine_un, is_affine_bin, is_affine}
use Rattle.acceptance.specs.Head.{list_of}
use Rattle.acceptance.specs.Parts.{has_signed, subscript_holds, subscripts_hold, parts_hold, item_parts_hold, cells_hold}
use Rattle.acceptance.specs.Sources.{is_const_array, are_indexed, assigned_cells_hold, bad_index_array, judged, IsAcceptedSource}
use Rattle.accepted_laws.proofs.Clear.{one_of, Clear, unrefused, all_front, all_back}
use Rattle.balance_laws.specs.Independence.{StandsIn, StandsAmong, StandsInStmt, StandsInStmts, IsIndexedBy, AreApart}

-- a subscript that is a cell stands among the subscripts
indexed_stands : (es : PlainExprs) (y : Word) → IsIndexedBy y es → (at : PlainExprs) × StandsAmong y at es
indexed_stands no_exprs y i = absurd i
indexed_stands (more_exprs (lit n) es) y i = let r = indexed_stands es y i in (r.0, inr r.1)
indexed_stands (more_exprs (var x) es) y i = let r = indexed_stands es y i in (r.0, inr r.1)
indexed_stands (more_exprs (cell z bt) es) y i = ⊎_elim (λ e. (bt, inl (inl (e, refl)))) (λ o. let r = indexed_stands es y o in (r.0, inr r.1)) i
indexed_stands (more_exprs (un op a) es) y i = let r = indexed_stands es y i in (r.0, inr r.1)
indexed_stands (more_exprs (bin op a b) es) y i = let r = indexed_stands es y i in (r.0, inr r.1)
indexed_stands (more_exprs (cast a) es) y i = let r = indexed_stands es y i in (r.0, inr r.1)
indexed_stands (more_exprs (test rel a b) es) y i = let r = indexed_stands es y i in (r.0, inr r.1)
indexed_stands (more_exprs (umin a b) es) y i = let r = indexed_stands es y i in (r.0, inr r.1)
indexed_stands (more_exprs (umax a b) es) y i = let r = indexed_stands es y i in (r.0, inr r.1)
indexed_stands (more_exprs (least a b) es) y i = let r = indexed_stands es y i in (r.0, inr r.1)
indexed_stands (more_exprs (greatest a b) es) y i = let r = indexed_stands es y i in (r.0, inr r.1)
indexed_stands (more_exprs (widen a) es) y i = let r = indexed_stands es y i in (r.0, inr r.1)
indexed_stands (more_exprs (big high low) es) y i = let r = indexed_stands es y i in (r.0, inr r.1)

-- none of these subscripts is a cell of this array
abbrev Apart : Word → PlainExprs → Type 0
Apart x at = (y : Word) → IsIndexedBy y at → x ≢ y

-- ---- expressions

module _ (ps : List PlainParam) (sc : Scope) where
  affine_has_none : (e : PlainExpr) → is_affine sc e ≡ true → (x : Word) (at : PlainExprs) → StandsIn x at e → ⊥
  affine_has_none (lit n) h x at s = s
  affine_has_none (var y) h x at s = s
  affine_has_none (cell y es) h x at s = absurd (false≢true h)
  affine_has_none (un op a) h x at s = affine_has_none a (and_parts (is_affine_un op) (is_affine sc a) h).1 x at s
  affine_has_none (bin op a b) h x at s =
      let p = and_parts (is_affine sc a) (is_affine sc b) (and_parts (is_affine_bin op (has_name a) (has_name b)) (is_affine sc a && is_affine sc b) h).1 in
      ⊎_elim (affine_has_none a p.0 x at) (affine_has_none b p.1 x at) s
  affine_has_none (cast a) h x at s = absurd (false≢true h)
  affine_has_none (test rel a b) h x at s = absurd (false≢true h)
  affine_has_none (umin a b) h x at s = absurd (false≢true h)
  affine_has_none (umax a b) h x at s = absurd (false≢true h)
  affine_has_none (least a b) h x at s = absurd (false≢true h)
  affine_has_none (greatest a b) h x at s = absurd (false≢true h)
  affine_has_none (widen a) h x at s = absurd (false≢true h)
  affine_has_none (big high low) h x at s = absurd (false≢true h)

  all_affine_have_none : (es : PlainExprs) → list_all (is_affine sc) (list_of es) ≡ true → (x : Word) (at : PlainExprs) → StandsAmong x at es → ⊥
  all_affine_have_none no_exprs h x at s = s
  all_affine_have_none (more_exprs e es) h x at s =
      let p = and_parts (is_affine sc e) (list_all (is_affine sc) (list_of es)) h in
      ⊎_elim (affine_has_none e p.0 x at) (all_affine_have_none es p.1 x at) s

  in_subscript : (e : PlainExpr) → subscript_holds (is_affine sc) e ≡ true → (z : Word) (es : PlainExprs) → StandsIn z es e → Apart z es
  in_subscript (cell y at) h z es s =
      ⊎_elim (λ e w i. let r = indexed_stands at w (subst (λ bs. IsIndexedBy w bs) e.1 i) in absurd (all_affine_have_none at h w r.0 r.1)) (λ o. absurd (all_affine_have_none at h z es o)) s
  in_subscript e h z es s = absurd (affine_has_none e h z es s)

  in_subscripts : (at : PlainExprs) → subscripts_hold (is_affine sc) at ≡ true → (z : Word) (es : PlainExprs) → StandsAmong z es at → Apart z es
  in_subscripts no_exprs h z es s = absurd s
  in_subscripts (more_exprs e at) h z es s =
      let p = and_parts (subscript_holds (is_affine sc) e) (subscripts_hold (is_affine sc) at) h in
      ⊎_elim (in_subscript e p.0 z es) (in_subscripts at p.1 z es) s

  indexed_apart : (x : Word) (at : PlainExprs) → are_indexed ps x at ≡ true → Apart x at
  indexed_apart x no_exprs h y i = absurd i
  indexed_apart x (more_exprs (cell z bt) at) h y i =
      let p = and_parts (not (bytes_eq x z)) (are_indexed ps x at) (and_parts (is_const_array ps z) (not (bytes_eq x z) && are_indexed ps x at) h).1 in
      let other : bytes_eq x z ≡ false = not-true (bytes_eq x z) p.0 in
      ⊎_elim (λ e same. true≢false (sym ((bytes_eq-Decides x z).1 (same ∙ e)) ∙ other)) (indexed_apart x at p.1 y) i
  indexed_apart x (more_exprs e at) h y i = indexed_apart x at h y i

  data_apart : (e : PlainExpr) → cells_hold (are_indexed ps) e ≡ true → parts_hold (is_affine sc) sc e ≡ true → (z : Word) (es : PlainExprs) → StandsIn z es e → Apart z es
  data_apart (lit n) c h z es s = absurd s
  data_apart (var x) c h z es s = absurd s
  data_apart (cell x at) c h z es s =
      ⊎_elim (λ e. subst (λ w. Apart w es) (sym e.0) (subst (λ bs. Apart x bs) (sym e.1) (indexed_apart x at c))) (in_subscripts at h z es) s
  data_apart (un op a) c h z es s = data_apart a c h z es s
  data_apart (bin op a b) c h z es s =
      let p = and_parts (cells_hold (are_indexed ps) a) (cells_hold (are_indexed ps) b) c in
      let q = and_parts (parts_hold (is_affine sc) sc a) (parts_hold (is_affine sc) sc b) h in
      ⊎_elim (data_apart a p.0 q.0 z es) (data_apart b p.1 q.1 z es) s
  data_apart (cast a) c h z es s = chosen (has_signed sc a) h (λ q. data_apart a c q z es s)
    where
      chosen : (b : Bool) → cond b (is_affine sc a) (parts_hold (is_affine sc) sc a) ≡ true → (parts_hold (is_affine sc) sc a ≡ true → Apart z es) → Apart z es
      chosen true q rest = absurd (affine_has_none a q z es s)
      chosen false q rest = rest q
  data_apart (test rel a b) c h z es s =
      let p = and_parts (cells_hold (are_indexed ps) a) (cells_hold (are_indexed ps) b) c in
      let q = and_parts (parts_hold (is_affine sc) sc a) (parts_hold (is_affine sc) sc b) h in
      ⊎_elim (data_apart a p.0 q.0 z es) (data_apart b p.1 q.1 z es) s
  data_apart (umin a b) c h z es s =
      let p = and_parts (cells_hold (are_indexed ps) a) (cells_hold (are_indexed ps) b) c in
      let q = and_parts (parts_hold (is_affine sc) sc a) (parts_hold (is_affine sc) sc b) h in
      ⊎_elim (data_apart a p.0 q.0 z es) (data_apart b p.1 q.1 z es) s
  data_apart (umax a b) c h z es s =
      let p = and_parts (cells_hold (are_indexed ps) a) (cells_hold (are_indexed ps) b) c in
      let q = and_parts (parts_hold (is_affine sc) sc a) (parts_hold (is_affine sc) sc b) h in
      ⊎_elim (data_apart a p.0 q.0 z es) (data_apart b p.1 q.1 z es) s
  data_apart (least a b) c h z es s =
      let p = and_parts (cells_hold (are_indexed ps) a) (cells_hold (are_indexed ps) b) c in
      let q = and_parts (parts_hold (is_affine sc) sc a) (parts_hold (is_affine sc) sc b) h in
      ⊎_elim (data_apart a p.0 q.0 z es) (data_apart b p.1 q.1 z es) s
  data_apart (greatest a b) c h z es s =
      let p = and_parts (cells_hold (are_indexed ps) a) (cells_hold (are_indexed ps) b) c in
      let q = and_parts (parts_hold (is_affine sc) sc a) (parts_hold (is_affine sc) sc b) h in
      ⊎_elim (data_apart a p.0 q.0 z es) (data_apart b p.1 q.1 z es) s
  data_apart (widen a) c h z es s = data_apart a c h z es s
  data_apart (big high low) c h z es s = absurd s

-- ---- items

none_holds : (p : Item → Bool) (k : ℕ) (xs : List Item) → first_where p k xs ≡ None → AllByRecursion (λ i. p i ≡ false) xs
none_holds p k [] e = tt
none_holds p k (x ∷ xs) e = chosen (p x) refl e (none_holds p (suc k) xs)
  where
    chosen : (b : Bool) → p x ≡ b → cond b (Some k) (first_where p (suc k) xs) ≡ None → (first_where p (suc k) xs ≡ None → AllByRecursion (λ i. p i ≡ false) xs) → (p x ≡ false) × AllByRecursion (λ i. p i ≡ false) xs
    chosen true same g rest = absurd (let f : Some k ≡ None = g in cc)
    chosen false same g rest = (same, rest g)

module _ (u : PlainUnit) where
  -- index arrays are other arrays, and affine parts are affine
  abbrev IsPlain : Item → Type 0
  IsPlain i = (assigned_cells_hold (are_indexed u.params) i.stmt ≡ true) × (item_parts_hold (is_affine (scope_at u i)) (scope_at u i) i.stmt ≡ true)

  both : (xs : List Item) → AllByRecursion (λ i. (bad_index_array u).inside i ≡ false) xs → AllByRecursion (Clear u) xs → AllByRecursion IsPlain xs
  both [] h k = tt
  both (x ∷ xs) h k = ((not-false (assigned_cells_hold (are_indexed u.params) x.stmt) h.0, k.0.affine), both xs h.1 k.1)

  mutual
    stmt_apart : (s : PlainStmt) (ls : List Loop) (ts : List Word) → AllByRecursion IsPlain (items s ls ts) → (x : Word) (at : PlainExprs) → StandsInStmt x at s → Apart x at
    stmt_apart (loop y lo rel hi body) ls ts h x at s = stmts_apart body (record { name = y; lo = lo; rel = rel; hi = hi } ∷ ls) ts h.1 x at s
    stmt_apart (choice tests yes_body no_body) ls ts h x at s =
        ⊎_elim (stmts_apart yes_body ls ts (all_front IsPlain (items_all yes_body ls ts) (items_all no_body ls ts) h.1) x at) (stmts_apart no_body ls ts (all_back IsPlain (items_all yes_body ls ts) (items_all no_body ls ts) h.1) x at) s
    stmt_apart (assign target op e) ls ts h x at s =
        let here : Item = record { stmt = assign target op e; loops = ls; tables = ts } in
        let sc : Scope = scope_at u here in
        let p = and_parts (cells_hold (are_indexed u.params) target) (cells_hold (are_indexed u.params) e) h.0.0 in
        let q = and_parts (parts_hold (is_affine sc) sc target) (parts_hold (is_affine sc) sc e) h.0.1 in
        ⊎_elim (data_apart u.params sc target p.0 q.0 x at) (data_apart u.params sc e p.1 q.1 x at) s
    stmt_apart (table y len) ls ts h x at s = absurd s
    stmt_apart begin ls ts h x at s = absurd s
    stmt_apart (check y extent a) ls ts h x at s = absurd s
    stmt_apart verdict ls ts h x at s = absurd s

    stmts_apart : (body : PlainStmts) (ls : List Loop) (ts : List Word) → AllByRecursion IsPlain (items_all body ls ts) → (x : Word) (at : PlainExprs) → StandsInStmts x at body → Apart x at
    stmts_apart no_stmts ls ts h x at s = absurd s
    stmts_apart (more_stmts t ss) ls ts h x at s =
        ⊎_elim (stmt_apart t ls ts (all_front IsPlain (items t ls ts) (items_all ss ls (tables_after t ts)) h) x at) (stmts_apart ss ls (tables_after t ts) (all_back IsPlain (items t ls ts) (items_all ss ls (tables_after t ts)) h) x at) s

  pub accepted_apart : IsAcceptedSource u → AreApart u.body
  accepted_apart a x y at stands indexed =
      let none : least_item u (bad_index_array u) ≡ None = one_of (judged u) a.refused_nowhere 11 15 (least_item u (bad_index_array u)) refl in
      let xs : List Item = items_all u.body [] [] in
      stmts_apart u.body [] [] (both xs (none_holds (bad_index_array u).inside 1 xs none) (unrefused u a.refused_nowhere).items) x at stands y indexed
