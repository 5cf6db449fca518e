use Rattle.std.proofs.Common.{◌≡◌, List, [], ◌∷◌, ℤ, pos, true, refl, codes}
use Rattle.std.specs.Int.{int_wrap}
use Rattle.std.specs.List.{AllByRecursion}
use Rattle.c_tree.specs.Plain.{Word, lit, var, PlainStmt}
use Rattle.c_tree.specs.Trees.{exprs_of, stmts_of}
use Rattle.c_tree.specs.Values.{Vars, is_in, exact, loop_values}
use Rattle.c_tree.specs.Arrays.{Array, vars_of}
use Rattle.c_tree.specs.Instances.{core}
use Rattle.c_tree.specs.Inputs.{arrays_for, memory_for}
use Rattle.run_laws.specs.Sources.{AreAffine, IsArray, IsSource, AreSource}
use Rattle.run_laws.proofs.Within.{all_tested, clean_is}
use Rattle.examples.specs.Product.{product, update, three, n, i, j, k}
use Rattle.c_tree.specs.declared.expr.Rel.TheVariants.{Lt}
use Rattle.examples.specs.Forms.{for_below}
use Rattle.examples.proofs.product.product_is_source.Goals as goal

always : (P : ℤ → Type 0) → ((v : ℤ) → P v) → (vs : List ℤ) → AllByRecursion P vs
always P h [] = tt
always P h (v ∷ vs) = (h v, always P h vs)

abbrev arrays : List Array
arrays = arrays_for product (pos 3 ∷ [])

abbrev vars : ℤ → ℤ → ℤ → Vars
vars x y z = (k, z) ∷ (j, y) ∷ (i, x) ∷ vars_of product.params (pos 3 ∷ [])

two_names : (x y : Word) (vs : Vars) → is_in vs x ≡ true → is_in vs y ≡ true → AreAffine (exprs_of (var x ∷ var y ∷ [])) vs
two_names x y vs h g = (record { no_cells = tt; no_word = rw h; fits = refl }, (record { no_cells = tt; no_word = rw g; fits = refl }, tt))

a : IsArray arrays (codes "A")
a = record { array = _; named = refl }

b : IsArray arrays (codes "B")
b = record { array = _; named = refl }

c : IsArray arrays (codes "C")
c = record { array = _; named = refl }

turn : (x y z : ℤ) → IsSource arrays [] update (vars x y z)
turn x y z = ((c, two_names i j (vars x y z) refl refl), ((a, two_names i k (vars x y z) refl refl), (b, two_names k j (vars x y z) refl refl)))

-- a loop of one statement, from each of its turns
looped : (x : Word) (p : PlainStmt) (vs : Vars) → ((v : ℤ) → IsSource arrays [] p ((x, v) ∷ vs)) → IsSource arrays [] (for_below x (var n) (p ∷ [])) vs
unfolding int_wrap
looped x p vs h = (refl, refl, always (λ v. AreSource arrays [] (stmts_of (p ∷ [])) ((x, v) ∷ vs)) (λ v. (h v, tt)) (loop_values (exact (lit 0) vs) Lt (exact (var n) vs)))

pub returns-clause-source : goal.returns-clause-source
returns-clause-source g =
    let vs : Vars = vars_of product.params (pos 3 ∷ []) in (
      refl,
      (
        looped i (for_below j (var n) (for_below k (var n) (update ∷ []) ∷ [])) vs
            (λ x. looped j (for_below k (var n) (update ∷ [])) ((i, x) ∷ vs) (λ y. looped k update ((j, y) ∷ (i, x) ∷ vs) (λ z. turn x y z))),
        tt,
      ),
    )

pub returns-clause-clean : goal.returns-clause-clean
returns-clause-clean g =
    let list = core product three.ints (memory_for product three) in
    clean_is arrays list (all_tested arrays list refl)
