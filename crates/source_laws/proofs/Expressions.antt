-- Affine and data expressions of an accepted source, at a place inside loops.
use Rattle.std.proofs.Common.{◌≡◌, ℕ, zero, suc, ◌+◌, ◌<◌, ◌≤◌, ◌^◌, Bool, true, false, cond, ◌&&◌, ◌||◌, List, [], ◌∷◌, length, ℤ, Some, refl, sym, ap, ◌∙◌, subst, arith, true≢false}
use Rattle.std.specs.Prelude.{bytes_eq, nat_eq}
use Rattle.std.specs.List.{list_all}
use Rattle.std.proofs.lemmas.Bool.{eqb-true, and_parts, or_left, or_right}
use Rattle.std.proofs.lemmas.Slice.Eq.{bytes_eq-Decides}
use Rattle.c_tree.specs.declared.expr.Rel.{Rel}
use Rattle.c_tree.specs.declared.expr.UnOp.{UnOp}
use Rattle.c_tree.specs.declared.expr.BinOp.{BinOp}
use Rattle.instrumentation_laws.specs.PrologueTotals.{HasOwnNames}
use Rattle.std.proofs.Math.Bool.{or_assoc}
use Rattle.c_tree.specs.Plain.{Word, PlainExpr, lit, var, cell, un, bin, cast, test, umin, umax, least, greatest, widen, big, PlainExprs, no_exprs, more_exprs, PlainParam, int_param, array_param, PlainUnit}
use Rattle.c_tree.specs.Names.{is_among}
use Rattle.c_tree.specs.Kinds.{Kind, either, signed_kind, word_kind, join, is_signed, is_word}
use Rattle.c_tree.specs.Values.{Vars, is_in, kind}
use Rattle.c_tree.specs.Arrays.{Array, array_from, arrays_of, extents_of, extents_at, extents_in}
use Rattle.run_laws.specs.Sources.{HasNoCells}
use Rattle.run_laws.proofs.Within.{array_stands}
use Rattle.instrumentation.specs.Guarded.{array_names}
use Rattle.instrumentation.specs.Names.{number_in}
use Rattle.instrumentation_laws.specs.OwnNames.{own}
use Rattle.instrumentation_laws.specs.RegularSources as regular
use Rattle.instrumentation_laws.proofs.Declared.{names_are, known_array}
use Rattle.pass_laws.specs.Countable as countable
use Rattle.pass_laws.specs.Countable.{rank}
use Rattle.accepted_laws.proofs.Accepted.{unsigned_data}
use Rattle.acceptance.specs.Items.{Loop, Scope, scope_of, is_loop, is_int, is_param, is_scalar, is_declared, is_known, is_signed_name}
use Rattle.acceptance.specs.Affine.{has_name, is_affine_un, is_affine_bin, is_affine, holds_throughout, Intervals, is_narrow}
use Rattle.acceptance.specs.Head.{list_of, uses_known}
use Rattle.acceptance.specs.Printed.{dimensions, fits_dimensions, has_good_side, literals_fit}
use Rattle.acceptance.specs.Parts.{has_signed, is_data, parts_hold}
use Rattle.acceptance.specs.Trees.{IsTree, AreSubscripts}

-- ---- kinds

pub no_word_join : (k l : Kind) → is_word k ≡ false → is_word l ≡ false → is_word (join k l) ≡ false
no_word_join either l h g = g
no_word_join signed_kind l h g = refl
no_word_join word_kind l h g = h

signed_join : (k l : Kind) → is_word k ≡ false → is_word l ≡ false → (a b : Bool) → (a || b) ≡ true → (a ≡ true → is_signed k ≡ true) → (b ≡ true → is_signed l ≡ true) → is_signed (join k l) ≡ true
signed_join either l h g true b e f m = absurd (true≢false (sym (f refl)))
signed_join either l h g false b e f m = m e
signed_join signed_kind l h g a b e f m = refl
signed_join word_kind l h g a b e f m = absurd (true≢false h)

joined_signed : (k l : Kind) (a b : Bool) → is_signed (join k l) ≡ true → (is_signed k ≡ true → a ≡ true) → (is_signed l ≡ true → b ≡ true) → (a || b) ≡ true
joined_signed either l true b e f m = refl
joined_signed either l false b e f m = m e
joined_signed signed_kind l true b e f m = refl
joined_signed signed_kind l false b e f m = absurd (true≢false (sym (f refl)))
joined_signed word_kind l a b e f m = absurd (true≢false (sym e))

-- ---- a place inside loops

-- The names in scope are those of the values; they are the source's, and there are few.
pub record Stands (u : PlainUnit) (ls : List Loop) (vs : Vars) : Type 0 where
  pub names : (x : Word) → is_in vs x ≡ is_signed_name (scope_of u ls []) x
  pub owned : (x : Word) → is_known (scope_of u ls []) x ≡ true → own x ≡ true
  pub few : length vs ≤ length ls + 8

pub stands_inside : (u : PlainUnit) (ls : List Loop) (vs : Vars) (l : Loop) (v : ℤ) → own l.name ≡ true → Stands u ls vs → Stands u (l ∷ ls) ((l.name, v) ∷ vs)
stands_inside u ls vs l v o s = record {
  names = λ x. ap (λ b. bytes_eq l.name x || b) (s.names x) ∙ sym (or_assoc (bytes_eq l.name x) (is_loop ls x) (is_int u.params x));
  owned = λ x h. chosen x (bytes_eq l.name x) refl (s.owned x) h;
  few = (let f = s.few in omega arith);
}
  where
    chosen : (x : Word) (b : Bool) → bytes_eq l.name x ≡ b → (is_known (scope_of u ls []) x ≡ true → own x ≡ true) → ((b || is_loop ls x) || is_declared (scope_of u ls []) x) ≡ true → own x ≡ true
    chosen x true same f h = subst (λ w. own w ≡ true) ((bytes_eq-Decides l.name x).0 same) o
    chosen x false same f h = f h

-- ---- arrays

-- the scope of parameters alone
abbrev params_scope : List PlainParam → Scope
params_scope ps = record { params = ps; words = []; wides = []; loops = []; tables = [] }

pub rank_is : (at : PlainExprs) → rank at ≡ length (list_of at)
rank_is no_exprs = refl
rank_is (more_exprs e es) = ap suc (rank_is es)

pub extents_long : (vs : Vars) (es : PlainExprs) → length (extents_of vs es) ≡ length (list_of es)
extents_long vs no_exprs = refl
extents_long vs (more_exprs e es) = ap suc (extents_long vs es)

-- a name with dimensions is an array's
pub record Found (vs : Vars) (ps : List PlainParam) (k n : ℕ) (x : Word) : Type 0 where
  pub array : ℕ × Array
  pub named : array_from k (arrays_of vs ps) x ≡ Some array
  pub long : length array.1.extents ≡ n

abbrev array_for : Vars → Word → Bool → PlainExprs → Array
array_for vs y constant es = record { name = y; constant = constant; extents = extents_of vs es }

found : (vs : Vars) (ps : List PlainParam) (k n : ℕ) (x : Word) → dimensions (params_scope ps) x ≡ suc n → Found vs ps k (suc n) x
found vs [] k n x e = absurd (let f : zero ≡ suc n = e in cc)
found vs (int_param y ∷ ps) k n x e = let f = found vs ps k n x e in record { array = f.array; named = f.named; long = f.long }
found vs (array_param y constant es ∷ ps) k n x e = let c = chosen (bytes_eq y x) e (found vs ps (suc k) n x) in record { array = c.0; named = c.1; long = c.2 }
  where
    chosen : (b : Bool) → cond b (length (list_of es)) (dimensions (params_scope ps) x) ≡ suc n → (dimensions (params_scope ps) x ≡ suc n → Found vs ps (suc k) (suc n) x) →
        (array : ℕ × Array) × (cond b (Some (k, array_for vs y constant es)) (array_from (suc k) (arrays_of vs ps) x) ≡ Some array) × (length array.1.extents ≡ suc n)
    chosen true e f = ((k, array_for vs y constant es), refl, extents_long vs es ∙ e)
    chosen false e f = let g = f e in (g.array, g.named, g.long)

module _ (u : PlainUnit) (params : Vars) (few_arrays : length (array_names u.params) < 2 ^ 64) where
  abbrev pub its_arrays : List Array
  its_arrays = arrays_of params u.params

  abbrev pub its_number : Word → ℕ
  its_number = number_in (array_names u.params)

  -- an array with its number, and as many extents as there are subscripts
  pub record IsCell (x : Word) (at : PlainExprs) : Type 0 where
    pub array : regular.IsArray its_arrays its_number x
    pub ranked : rank at ≡ length (extents_at its_arrays (its_number x))
    pub long : rank at ≡ length array.array.1.extents

  pub cell_is : (ls : List Loop) (x : Word) (at : PlainExprs) → nat_eq (dimensions (scope_of u ls []) x) (length (list_of at)) ≡ true → AreSubscripts false at → IsCell x at
  cell_is ls x no_exprs h g = absurd g
  cell_is ls x (more_exprs e es) h g =
      let f = found params u.params 0 (length (list_of es)) x (eqb-true (dimensions (scope_of u ls []) x) (length (list_of (more_exprs e es))) h) in
      let a = known_array its_arrays (array_names u.params) (names_are params u.params) x f.array few_arrays f.named in
      let same : a.array ≡ f.array = (let g : Some a.array ≡ Some f.array = sym a.named ∙ f.named in cc) in
      record {
        array = a;
        long = rank_is (more_exprs e es) ∙ sym f.long ∙ ap (λ (p : ℕ × Array). length p.1.extents) (sym same);
        ranked = rank_is (more_exprs e es) ∙ sym f.long ∙ ap (λ (p : ℕ × Array). length p.1.extents) (sym same)
            ∙ ap length (sym (ap extents_in (array_stands its_arrays x a.array a.named)) ∙ ap (extents_at its_arrays) (sym a.numbered));
      }

-- ---- affine expressions

pub int_is_param : (ps : List PlainParam) (x : Word) → is_int ps x ≡ true → is_param ps x ≡ true
int_is_param [] x h = absurd (true≢false (sym h))
int_is_param (int_param y ∷ ps) x h = either_side (bytes_eq y x) (is_int ps x) (is_param ps x) h (int_is_param ps x)
  where
    either_side : (a b c : Bool) → (a || b) ≡ true → (b ≡ true → c ≡ true) → (a || c) ≡ true
    either_side true b c h f = refl
    either_side false b c h f = f h
int_is_param (array_param y constant es ∷ ps) x h = or_right (bytes_eq y x) (is_param ps x) (int_is_param ps x h)

int_declared : (u : PlainUnit) (ls : List Loop) (x : Word) → is_int u.params x ≡ true → is_declared (scope_of u ls []) x ≡ true
int_declared u ls x h = or_left (is_param u.params x) (is_scalar u.words x || (is_among u.wides x || false)) (int_is_param u.params x h)

module _ (u : PlainUnit) (ls : List Loop) (vs : Vars) (s : Stands u ls vs) where
  abbrev sc : Scope
  sc = scope_of u ls []

  known_in : (x : Word) → is_signed_name sc x ≡ true → is_in vs x ≡ true
  known_in x h = s.names x ∙ h

  pub signed_own : (x : Word) → is_signed_name sc x ≡ true → own x ≡ true
  signed_own x h = s.owned x (chosen (is_loop ls x) (is_int u.params x) h (int_declared u ls x))
    where
      chosen : (a b : Bool) → (a || b) ≡ true → (b ≡ true → is_declared sc x ≡ true) → (a || is_declared sc x) ≡ true
      chosen true b h f = refl
      chosen false b h f = f h

  parts : (op : BinOp) (a b : PlainExpr) → is_affine sc (bin op a b) ≡ true → (is_affine sc a ≡ true) × (is_affine sc b ≡ true)
  parts op a b h =
      let both = (and_parts (is_affine_bin op (has_name a) (has_name b)) (is_affine sc a && is_affine sc b) h).1 in
      ((and_parts (is_affine sc a) (is_affine sc b) both).0, (and_parts (is_affine sc a) (is_affine sc b) both).1)

  below : (op : UnOp) (a : PlainExpr) → is_affine sc (un op a) ≡ true → is_affine sc a ≡ true
  below op a h = (and_parts (is_affine_un op) (is_affine sc a) h).1

  pub affine_countable : (e : PlainExpr) → is_affine sc e ≡ true → countable.IsAffine e vs
  affine_countable (lit n) h = tt
  affine_countable (var x) h = known_in x h
  affine_countable (un op a) h = affine_countable a (below op a h)
  affine_countable (bin op a b) h = let p = parts op a b h in (affine_countable a p.0, affine_countable b p.1)
  affine_countable _ h = absurd (true≢false (sym h))

  pub affine_no_cells : (e : PlainExpr) → is_affine sc e ≡ true → HasNoCells e
  affine_no_cells (lit n) h = tt
  affine_no_cells (var x) h = tt
  affine_no_cells (un op a) h = affine_no_cells a (below op a h)
  affine_no_cells (bin op a b) h = let p = parts op a b h in (affine_no_cells a p.0, affine_no_cells b p.1)
  affine_no_cells _ h = absurd (true≢false (sym h))

  pub affine_silent : (e : PlainExpr) → is_affine sc e ≡ true → regular.IsSilent e
  affine_silent (lit n) h = tt
  affine_silent (var x) h = tt
  affine_silent (un op a) h = affine_silent a (below op a h)
  affine_silent (bin op a b) h = let p = parts op a b h in (affine_silent a p.0, affine_silent b p.1)
  affine_silent _ h = absurd (true≢false (sym h))

  pub affine_own : (e : PlainExpr) → is_affine sc e ≡ true → HasOwnNames e
  affine_own (lit n) h = tt
  affine_own (var x) h = signed_own x h
  affine_own (un op a) h = affine_own a (below op a h)
  affine_own (bin op a b) h = let p = parts op a b h in (affine_own a p.0, affine_own b p.1)
  affine_own _ h = absurd (true≢false (sym h))

  pub affine_no_word : (e : PlainExpr) → is_affine sc e ≡ true → is_word (kind vs e) ≡ false
  affine_no_word (lit n) h = refl
  affine_no_word (var x) h = rw (known_in x h) refl
  affine_no_word (un op a) h = affine_no_word a (below op a h)
  affine_no_word (bin op a b) h = let p = parts op a b h in no_word_join (kind vs a) (kind vs b) (affine_no_word a p.0) (affine_no_word b p.1)
  affine_no_word _ h = absurd (true≢false (sym h))

  -- with a signed name it is signed
  pub affine_signed : (e : PlainExpr) → is_affine sc e ≡ true → has_signed sc e ≡ true → is_signed (kind vs e) ≡ true
  affine_signed (lit n) h g = absurd (true≢false (sym g))
  affine_signed (var x) h g = rw (known_in x g) refl
  affine_signed (un op a) h g = affine_signed a (below op a h) g
  affine_signed (bin op a b) h g =
      let p = parts op a b h in
      signed_join (kind vs a) (kind vs b) (affine_no_word a p.0) (affine_no_word b p.1) (has_signed sc a) (has_signed sc b) g (affine_signed a p.0) (affine_signed b p.1)
  affine_signed _ h g = absurd (true≢false (sym h))

  -- what is signed has a signed name
  pub signed_named : (e : PlainExpr) → IsTree false e → is_signed (kind vs e) ≡ true → has_signed sc e ≡ true
  signed_named (lit n) t h = absurd (true≢false (sym h))
  signed_named (var x) t h = chosen (is_signed_name sc x) (s.names x)
    where
      chosen : (b : Bool) → is_in vs x ≡ b → b ≡ true
      chosen true e = refl
      chosen false e = let g : is_signed (cond false signed_kind word_kind) ≡ true = subst (λ c. is_signed (cond c signed_kind word_kind) ≡ true) e h in absurd (true≢false (sym g))
  signed_named (cell x at) t h = absurd (true≢false (sym h))
  signed_named (un op a) t h = signed_named a t h
  signed_named (bin op a b) t h =
      joined_signed (kind vs a) (kind vs b) (has_signed sc a) (has_signed sc b) h (signed_named a t.0) (signed_named b t.1)
  signed_named (cast a) t h = absurd (true≢false (sym h))
  signed_named (test rel a b) t h = absurd (true≢false (sym h))
  signed_named (umin a b) t h = absurd (true≢false (sym h))
  signed_named (umax a b) t h = absurd (true≢false (sym h))
  signed_named (least a b) t h = absurd (true≢false (sym t.0))
  signed_named (greatest a b) t h = absurd (true≢false (sym t.0))
  signed_named (widen a) t h = absurd (true≢false (sym t.0))
  signed_named (big high low) t h = absurd (true≢false (sym t.0))

  -- ---- subscripts

  pub all_countable : (at : PlainExprs) → list_all (is_affine sc) (list_of at) ≡ true → countable.AreAffine at vs
  all_countable no_exprs h = tt
  all_countable (more_exprs e es) h =
      (affine_countable e (and_parts (is_affine sc e) (list_all (is_affine sc) (list_of es)) h).0, all_countable es (and_parts (is_affine sc e) (list_all (is_affine sc) (list_of es)) h).1)

  pub all_regular : (at : PlainExprs) → list_all (is_affine sc) (list_of at) ≡ true → regular.AreRegular at vs
  all_regular no_exprs h = tt
  all_regular (more_exprs e es) h =
      (affine_no_word e (and_parts (is_affine sc e) (list_all (is_affine sc) (list_of es)) h).0, all_regular es (and_parts (is_affine sc e) (list_all (is_affine sc) (list_of es)) h).1)

-- ---- data expressions

-- what is asked of a data expression
pub record IsAsked (sc : Scope) (rs : Intervals) (e : PlainExpr) : Type 0 where
  pub known : uses_known sc e ≡ true
  pub affine : parts_hold (is_affine sc) sc e ≡ true
  pub data_alone : is_data sc e ≡ true
  pub fits : fits_dimensions (dimensions sc) e ≡ true
  pub narrow : parts_hold (holds_throughout (is_narrow rs)) sc e ≡ true
  pub literals : literals_fit e ≡ true
  pub tree : IsTree false e

pub asked_bin : (sc : Scope) (rs : Intervals) (op : BinOp) (a b : PlainExpr) → IsAsked sc rs (bin op a b) → IsAsked sc rs a × IsAsked sc rs b
asked_bin sc rs op a b h =
    let d = dimensions sc in (
      record {
        known = (and_parts (uses_known sc a) (uses_known sc b) h.known).0;
        affine = (and_parts (parts_hold (is_affine sc) sc a) (parts_hold (is_affine sc) sc b) h.affine).0;
        data_alone = (and_parts (is_data sc a) (is_data sc b) h.data_alone).0;
        fits = (and_parts (fits_dimensions d a) (fits_dimensions d b) h.fits).0;
        narrow = (and_parts (parts_hold (holds_throughout (is_narrow rs)) sc a) (parts_hold (holds_throughout (is_narrow rs)) sc b) h.narrow).0;
        literals = (and_parts (literals_fit a) (literals_fit b) (and_parts (has_good_side op b) (literals_fit a && literals_fit b) h.literals).1).0;
        tree = h.tree.0;
      },
      record {
        known = (and_parts (uses_known sc a) (uses_known sc b) h.known).1;
        affine = (and_parts (parts_hold (is_affine sc) sc a) (parts_hold (is_affine sc) sc b) h.affine).1;
        data_alone = (and_parts (is_data sc a) (is_data sc b) h.data_alone).1;
        fits = (and_parts (fits_dimensions d a) (fits_dimensions d b) h.fits).1;
        narrow = (and_parts (parts_hold (holds_throughout (is_narrow rs)) sc a) (parts_hold (holds_throughout (is_narrow rs)) sc b) h.narrow).1;
        literals = (and_parts (literals_fit a) (literals_fit b) (and_parts (has_good_side op b) (literals_fit a && literals_fit b) h.literals).1).1;
        tree = h.tree.1;
      },
    )

pub asked_test : (sc : Scope) (rs : Intervals) (rel : Rel) (a b : PlainExpr) → IsAsked sc rs (test rel a b) → IsAsked sc rs a × IsAsked sc rs b
asked_test sc rs rel a b h =
    let d = dimensions sc in (
      record {
        known = (and_parts (uses_known sc a) (uses_known sc b) h.known).0;
        affine = (and_parts (parts_hold (is_affine sc) sc a) (parts_hold (is_affine sc) sc b) h.affine).0;
        data_alone = (and_parts (is_data sc a) (is_data sc b) h.data_alone).0;
        fits = (and_parts (fits_dimensions d a) (fits_dimensions d b) h.fits).0;
        narrow = (and_parts (parts_hold (holds_throughout (is_narrow rs)) sc a) (parts_hold (holds_throughout (is_narrow rs)) sc b) h.narrow).0;
        literals = (and_parts (literals_fit a) (literals_fit b) h.literals).0;
        tree = h.tree.0;
      },
      record {
        known = (and_parts (uses_known sc a) (uses_known sc b) h.known).1;
        affine = (and_parts (parts_hold (is_affine sc) sc a) (parts_hold (is_affine sc) sc b) h.affine).1;
        data_alone = (and_parts (is_data sc a) (is_data sc b) h.data_alone).1;
        fits = (and_parts (fits_dimensions d a) (fits_dimensions d b) h.fits).1;
        narrow = (and_parts (parts_hold (holds_throughout (is_narrow rs)) sc a) (parts_hold (holds_throughout (is_narrow rs)) sc b) h.narrow).1;
        literals = (and_parts (literals_fit a) (literals_fit b) h.literals).1;
        tree = h.tree.1;
      },
    )

pub asked_umin : (sc : Scope) (rs : Intervals) (a b : PlainExpr) → IsAsked sc rs (umin a b) → IsAsked sc rs a × IsAsked sc rs b
asked_umin sc rs a b h =
    let d = dimensions sc in (
      record {
        known = (and_parts (uses_known sc a) (uses_known sc b) h.known).0;
        affine = (and_parts (parts_hold (is_affine sc) sc a) (parts_hold (is_affine sc) sc b) h.affine).0;
        data_alone = (and_parts (is_data sc a) (is_data sc b) h.data_alone).0;
        fits = (and_parts (fits_dimensions d a) (fits_dimensions d b) h.fits).0;
        narrow = (and_parts (parts_hold (holds_throughout (is_narrow rs)) sc a) (parts_hold (holds_throughout (is_narrow rs)) sc b) h.narrow).0;
        literals = (and_parts (literals_fit a) (literals_fit b) h.literals).0;
        tree = h.tree.0;
      },
      record {
        known = (and_parts (uses_known sc a) (uses_known sc b) h.known).1;
        affine = (and_parts (parts_hold (is_affine sc) sc a) (parts_hold (is_affine sc) sc b) h.affine).1;
        data_alone = (and_parts (is_data sc a) (is_data sc b) h.data_alone).1;
        fits = (and_parts (fits_dimensions d a) (fits_dimensions d b) h.fits).1;
        narrow = (and_parts (parts_hold (holds_throughout (is_narrow rs)) sc a) (parts_hold (holds_throughout (is_narrow rs)) sc b) h.narrow).1;
        literals = (and_parts (literals_fit a) (literals_fit b) h.literals).1;
        tree = h.tree.1;
      },
    )

pub asked_umax : (sc : Scope) (rs : Intervals) (a b : PlainExpr) → IsAsked sc rs (umax a b) → IsAsked sc rs a × IsAsked sc rs b
asked_umax sc rs a b h =
    let d = dimensions sc in (
      record {
        known = (and_parts (uses_known sc a) (uses_known sc b) h.known).0;
        affine = (and_parts (parts_hold (is_affine sc) sc a) (parts_hold (is_affine sc) sc b) h.affine).0;
        data_alone = (and_parts (is_data sc a) (is_data sc b) h.data_alone).0;
        fits = (and_parts (fits_dimensions d a) (fits_dimensions d b) h.fits).0;
        narrow = (and_parts (parts_hold (holds_throughout (is_narrow rs)) sc a) (parts_hold (holds_throughout (is_narrow rs)) sc b) h.narrow).0;
        literals = (and_parts (literals_fit a) (literals_fit b) h.literals).0;
        tree = h.tree.0;
      },
      record {
        known = (and_parts (uses_known sc a) (uses_known sc b) h.known).1;
        affine = (and_parts (parts_hold (is_affine sc) sc a) (parts_hold (is_affine sc) sc b) h.affine).1;
        data_alone = (and_parts (is_data sc a) (is_data sc b) h.data_alone).1;
        fits = (and_parts (fits_dimensions d a) (fits_dimensions d b) h.fits).1;
        narrow = (and_parts (parts_hold (holds_throughout (is_narrow rs)) sc a) (parts_hold (holds_throughout (is_narrow rs)) sc b) h.narrow).1;
        literals = (and_parts (literals_fit a) (literals_fit b) h.literals).1;
        tree = h.tree.1;
      },
    )

-- the operand of a cast: it is affine, or it is data
pub data CastIs (sc : Scope) (rs : Intervals) (a : PlainExpr) : Type 0 where
  of_affine : has_signed sc a ≡ true → is_affine sc a ≡ true → CastIs sc rs a
  of_data : has_signed sc a ≡ false → IsAsked sc rs a → CastIs sc rs a

pub cast_is : (u : PlainUnit) (ls : List Loop) (vs : Vars) → Stands u ls vs → (rs : Intervals) (a : PlainExpr) → IsAsked (scope_of u ls []) rs (cast a) → CastIs (scope_of u ls []) rs a
cast_is u ls vs s rs a h = chosen (has_signed (scope_of u ls []) a) refl h.affine h.narrow
  where
    chosen : (b : Bool) → has_signed (scope_of u ls []) a ≡ b → cond b (is_affine (scope_of u ls []) a) (parts_hold (is_affine (scope_of u ls [])) (scope_of u ls []) a) ≡ true →
        cond b (holds_throughout (is_narrow rs) a) (parts_hold (holds_throughout (is_narrow rs)) (scope_of u ls []) a) ≡ true → CastIs (scope_of u ls []) rs a
    chosen true e g n = of_affine e g
    chosen false e g n = of_data e (record { known = h.known; affine = g; narrow = n; data_alone = unsigned_data (scope_of u ls []) a e; fits = h.fits; literals = h.literals; tree = h.tree })
