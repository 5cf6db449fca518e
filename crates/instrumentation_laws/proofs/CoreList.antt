-- Where no signed value wraps, coordinates and tests by signed values are those of the instances; and lists of instances in parts.
use Rattle.std.proofs.Common.{◌≡◌, ℕ, Bool, true, false, cond, List, [], ◌∷◌, ◌++◌, flat_map, refl, sym, ap, ◌∙◌, ℤ, Some}
use Rattle.std.specs.List.{AllByRecursion, list_all}
use Rattle.std.proofs.lemmas.Grind.{flat_map-append}
use Rattle.c_tree.specs.Plain.{Word, PlainExprs, no_exprs, more_exprs, PlainTest}
use Rattle.c_tree.specs.Values.{Vars, signed}
use Rattle.c_tree.specs.Arrays.{Array, Memory}
use Rattle.c_tree.specs.Accesses.{Access}
use Rattle.c_tree.specs.Instances.{Instance, Tagged, access_at, access_of, subscripts, exact_all, tagged_of, test_is_true}
use Rattle.run_laws.specs.Sources.{AreAffine, IsSignedTest}
use Rattle.run_laws.proofs.Follows as follows
use Rattle.instrumentation_laws.specs.RegularSources.{IsArray}
use Rattle.instrumentation_laws.specs.AccessList.{signed_all, cell_access, tests_hold}

module _ (arrays : List Array) (number : Word → ℕ) (wides : List Word) (m : Memory) where
  pub exact_is : (es : PlainExprs) (vs : Vars) → AreAffine es vs → exact_all es vs ≡ signed_all es vs
  exact_is no_exprs vs h = refl
  exact_is (more_exprs e es) vs h = ap (λ c. c ∷ exact_all es vs) (sym h.0.fits) ∙ ap (λ cs. signed e vs ∷ cs) (exact_is es vs h.1)

  pub access_is : (x : Word) (at : PlainExprs) (vs : Vars) (w : Bool) → IsArray arrays number x → AreAffine at vs → access_of arrays m x at vs w ≡ cell_access number x at vs w ∷ []
  access_is x at vs w a h =
      ap (λ o. access_at o (subscripts arrays m at vs) w) a.named ∙
      ap (λ cs. access_at (Some a.array) cs w) (follows.subscripts_are arrays wides m at vs m h ∙ exact_is at vs h) ∙
      ap (λ n. let a : Access = record { array = n; cell = signed_all at vs; writes = w } in a ∷ []) (sym a.numbered)

  pub two_are : (xs ys us vs : List Access) → xs ≡ us → ys ≡ vs → xs ++ ys ≡ us ++ vs
  two_are xs ys us vs e g = ap (λ l. l ++ ys) e ∙ ap (λ l. us ++ l) g

  pub tests_are : (ts : List PlainTest) (vs : Vars) → AllByRecursion (λ t. IsSignedTest t vs) ts → tests_hold ts vs ≡ list_all (test_is_true vs) ts
  tests_are [] vs h = refl
  tests_are (t ∷ ts) vs h = rw (h.0.left, h.0.right, tests_are ts vs h.1) refl

  abbrev pub tagged_by : List Instance → List Tagged
  tagged_by is = flat_map (tagged_of arrays m) is

  pub over_values : (f : ℤ → List Tagged) (g : ℤ → List Instance) (vals : List ℤ) → AllByRecursion (λ v. f v ≡ tagged_by (g v)) vals → flat_map f vals ≡ tagged_by (flat_map g vals)
  over_values f g [] h = refl
  over_values f g (v ∷ vals) h =
      ap (λ l. l ++ flat_map f vals) h.0 ∙ ap (λ l. tagged_by (g v) ++ l) (over_values f g vals h.1) ∙
      sym (flat_map-append (tagged_of arrays m) (g v) (flat_map g vals))

  pub chosen : (b : Bool) (xs ys : List Tagged) (is js : List Instance) → xs ≡ tagged_by is → ys ≡ tagged_by js → cond b xs ys ≡ tagged_by (cond b is js)
  chosen true xs ys is js e g = e
  chosen false xs ys is js e g = g
