-- Lists that grow item by item beside another.
use Rattle.std.proofs.Common.{◌≡◌, ℕ, suc, ◌+◌, ◌<◌, ◌≤◌, Bool, List, [], ◌∷◌, ◌++◌, drop, drop-cons, get_or, length, refl, sym, ap, ◌∙◌, subst, arith, Some, true}
use Rattle.std.specs.Prelude.{slice_get, bytes_eq}
use Rattle.std.proofs.lemmas.List.{drop_all}
use Rattle.std.proofs.lemmas.Slice.Eq.{bytes_eq-Decides}
use Rattle.c_tree.specs.Names.{words}
use Rattle.c_tree.specs.Plain.{Word, PlainTest}
use Rattle.c_tree.specs.Trees.{a_test, expr, exprs, tests, word}
use Rattle.c_tree.specs.declared.expr.Expr.{Expr}
use Rattle.c_tree.specs.declared.expr.Rel.{Rel}
use Rattle.c_tree.specs.declared.name.Name.{Name}
use Rattle.acceptance.specs.Head.{list_of}
use Rattle.acceptance.specs.Items.{Loop}
use Rattle.sites.specs.Infos.{Front, Pairs, ShowsBounds, ShowsCondition, ShowsLoop, ShowsTests, loops_around, tests_around}
use Rattle.sites.specs.Sites.{Outer, outer_loop, outer_branch}
use Rattle.sites.specs.Variables.{variables_around}
use Rattle.sites.specs.declared.info.LoopInfo.{LoopInfo}
use Rattle.sites.specs.declared.info.TestInfo.{TestInfo}

module _ {A B : Type 0} (R : A → B → Type 0) where
  pub front_one : (x : A) (y : B) (all rest : List B) → all ≡ y ∷ rest → R x y → Front R (x ∷ []) all rest
  front_one x y all rest e h = subst (λ (zs : List B). Front R (x ∷ []) zs rest) (sym e) (h, refl)

  pub front_more : (xs : List A) (x : A) (y : B) (all rest : List B) → Front R xs all (y ∷ rest) → R x y → Front R (xs ++ x ∷ []) all rest
  front_more [] x y all rest f h = front_one x y all rest f h
  front_more (z ∷ xs) x y [] rest f h = absurd f
  front_more (z ∷ xs) x y (w ∷ all) rest f h = (f.0, front_more xs x y all rest f.1 h)

  pub front_all : (xs : List A) (all : List B) → Front R xs all [] → Pairs R xs all
  front_all [] all f = subst (λ (zs : List B). Pairs R [] zs) (sym f) tt
  front_all (x ∷ xs) [] f = absurd f
  front_all (x ∷ xs) (y ∷ all) f = (f.0, front_all xs all f.1)

  pub front_rest : (xs : List A) (all rest other : List B) → rest ≡ other → Front R xs all rest → Front R xs all other
  front_rest xs all rest other e f = subst (λ (zs : List B). Front R xs all zs) e f

  pub pairs_more : (xs : List A) (ys : List B) (x : A) (y : B) → Pairs R xs ys → R x y → Pairs R (xs ++ x ∷ []) (ys ++ y ∷ [])
  pairs_more [] [] x y p h = (h, tt)
  pairs_more [] (w ∷ ys) x y p h = absurd p
  pairs_more (z ∷ xs) [] x y p h = absurd p
  pairs_more (z ∷ xs) (w ∷ ys) x y p h = (p.0, pairs_more xs ys x y p.1 h)

-- what is left of a list, seen through a function on lists that goes item by item
module _ {X Y : Type 0} (v : List X → List Y) (one : X → Y) (step : (x : X) (xs : List X) → v (x ∷ xs) ≡ one x ∷ v xs) (none : v [] ≡ []) where
  pub left_here : (xs : List X) (i : ℕ) (x : X) → i < length xs → x ≡ get_or xs i x → v (drop i xs) ≡ one x ∷ v (drop (i + 1) xs)
  left_here xs i x within is =
      ap v (drop-cons xs i x within ∙ ap (λ (z : X). z ∷ drop (suc i) xs) (sym is)) ∙ step x (drop (suc i) xs)
      ∙ ap (λ (j : ℕ). one x ∷ v (drop j xs)) (let e : suc i ≡ i + 1 = omega arith in e)

  pub left_none : (xs : List X) (i : ℕ) → length xs ≤ i → v (drop i xs) ≡ []
  left_none xs i past = ap v (drop_all i xs past) ∙ none

-- ---- the lists of the code

pub expr_left : (xs : List Expr) (i : ℕ) (x : Expr) → i < length xs → x ≡ get_or xs i x → list_of (exprs (drop i xs)) ≡ expr x ∷ list_of (exprs (drop (i + 1) xs))
expr_left = left_here (λ xs. list_of (exprs xs)) expr (λ x xs. refl) refl

pub exprs_left : (xs : List Expr) (i : ℕ) → length xs ≤ i → list_of (exprs (drop i xs)) ≡ []
exprs_left = left_none (λ xs. list_of (exprs xs)) expr (λ x xs. refl) refl

pub test_left : (xs : List (Rel × Expr × Expr)) (i : ℕ) (x : Rel × Expr × Expr) → i < length xs → x ≡ get_or xs i x → tests (drop i xs) ≡ a_test x ∷ tests (drop (i + 1) xs)
test_left = left_here tests a_test (λ x xs. refl) refl

pub tests_left : (xs : List (Rel × Expr × Expr)) (i : ℕ) → length xs ≤ i → tests (drop i xs) ≡ []
tests_left = left_none tests a_test (λ x xs. refl) refl

pub word_left : (xs : List Name) (i : ℕ) (x : Name) → i < length xs → x ≡ get_or xs i x → words (drop i xs) ≡ word x ∷ words (drop (i + 1) xs)
word_left = left_here words word (λ x xs. refl) refl

pub words_left : (xs : List Name) (i : ℕ) → length xs ≤ i → words (drop i xs) ≡ []
words_left = left_none words word (λ x xs. refl) refl

-- one more, and then the rest
pub one_further : {A B : Type 0} (R : A → B → Type 0) (xs : List A) (x : A) (new : List A) (all old rest : List B) (y : B) → Front R xs all old → old ≡ y ∷ rest → R x y → new ≡ xs ++ x ∷ [] → Front R new all rest
one_further R xs x new all old rest y f e h g =
    subst (λ (zs : List _). Front R zs all rest) (sym g) (front_more R xs x y all rest (front_rest R xs all old (y ∷ rest) e f) h)

pub at_last : {A B : Type 0} (R : A → B → Type 0) (xs : List A) (all other old : List B) → all ≡ other → Front R xs all old → old ≡ [] → Pairs R xs other
at_last R xs all other old same f e = subst (λ (zs : List _). Pairs R xs zs) same (front_all R xs all (front_rest R xs all old [] e f))

-- a loop, or a condition, more
pub loops_more : (ints : List Word) (ls new : List LoopInfo) (i : LoopInfo) (xs : List (Word × ℕ)) (n v : ℕ) (l : Loop) (os all : List Outer) → all ≡ outer_loop n v l ∷ os
    → Pairs (ShowsLoop ints) ls (loops_around os) → xs ≡ variables_around ints os → ShowsBounds xs n v l i → new ≡ ls ++ i ∷ [] → Pairs (ShowsLoop ints) new (loops_around all)
loops_more ints ls new i xs n v l os all is p same h g =
    subst (λ (zs : List Outer). Pairs (ShowsLoop ints) new (loops_around zs)) (sym is)
    (subst (λ (zs : List LoopInfo). Pairs (ShowsLoop ints) zs (loops_around (outer_loop n v l ∷ os))) (sym g)
    (pairs_more (ShowsLoop ints) ls (loops_around os) i (record { item = n; variable = v; the_loop = l; outside = os }) p
    (subst (λ (ys : List (Word × ℕ)). ShowsBounds ys n v l i) same h)))

pub tests_more : (ints : List Word) (ls new : List TestInfo) (i : TestInfo) (xs : List (Word × ℕ)) (n : ℕ) (first : Bool) (ts : List PlainTest) (os all : List Outer) → all ≡ outer_branch n first ts ∷ os
    → Pairs (ShowsTests ints) ls (tests_around os) → xs ≡ variables_around ints os → ShowsCondition xs n first ts i → new ≡ ls ++ i ∷ [] → Pairs (ShowsTests ints) new (tests_around all)
tests_more ints ls new i xs n first ts os all is p same h g =
    subst (λ (zs : List Outer). Pairs (ShowsTests ints) new (tests_around zs)) (sym is)
    (subst (λ (zs : List TestInfo). Pairs (ShowsTests ints) zs (tests_around (outer_branch n first ts ∷ os))) (sym g)
    (pairs_more (ShowsTests ints) ls (tests_around os) i (record { item = n; first = first; the_tests = ts; outside = os }) p
    (subst (λ (ys : List (Word × ℕ)). ShowsCondition ys n first ts i) same h)))

-- ---- the number of a name

pub found_at : (all left rest : List Word) (k : ℕ) (x y : Word) → ((j : ℕ) → slice_get all (k + j) ≡ slice_get left j) → left ≡ y ∷ rest → bytes_eq y x ≡ true → slice_get all k ≡ Some x
found_at all left rest k x y h e same =
    ap (slice_get all) (let z : k ≡ k + 0 = omega arith in z) ∙ h 0 ∙ ap (λ (ys : List Word). slice_get ys 0) e ∙ ap Some (same_word y x same)
  where
    same_word : (y x : Word) → bytes_eq y x ≡ true → y ≡ x
    same_word y x same = (bytes_eq-Decides y x).0 same

pub further_on : (all left rest : List Word) (k m : ℕ) (y : Word) → ((j : ℕ) → slice_get all (k + j) ≡ slice_get left j) → left ≡ y ∷ rest → m ≡ suc k → (j : ℕ) → slice_get all (m + j) ≡ slice_get rest j
further_on all left rest k m y h e next j =
    ap (slice_get all) (let z : m + j ≡ k + suc j = omega arith in z) ∙ h (suc j) ∙ ap (λ (ys : List Word). slice_get ys (suc j)) e
