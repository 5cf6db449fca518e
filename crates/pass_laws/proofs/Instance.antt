-- In the copy the loops of a write stand at those of the place of the pass exactly where they have the same values.
use Rattle.std.proofs.Common.{◌≡◌, ℕ, ◌<◌, ◌≤◌, ◌^◌, Bool, true, false, ◌&&◌, ◌||◌, [], ◌∷◌, ◌++◌, length, refl, sym, ap, ◌∙◌, arith, ℤ, true≢false}
use Rattle.std.specs.Prelude.{bytes_eq}
use Rattle.std.specs.Ordering.{int_eq}
use Rattle.std.proofs.lemmas.Bool.{and_parts, and_from}
use Rattle.std.proofs.lemmas.Bool.Decides.{Decides-int_eq}
use Rattle.c_tree.specs.Plain.{Word}
use Rattle.c_tree.specs.Values.{Vars, is_in, value_in}
use Rattle.instrumentation.specs.Names.{pass_variable, counter}
use Rattle.instrumentation.specs.Passes.{same_instance}
use Rattle.instrumentation_laws.specs.AccessList.{tests_hold}
use Rattle.instrumentation_laws.proofs.Names.{same_word, not_in}
use Rattle.pass_laws.specs.Countable.{AreOwn, AreAffineTests}
use Rattle.pass_laws.proofs.Names.{apart_sym, variable_apart, variable_may_not, counter_may_not, own_all, own_joined}
use Rattle.pass_laws.specs.Places.{IsPlace}
use Rattle.pass_laws.proofs.Renamed.{names, copied_vars, in_apart, name_under}
use Rattle.pass_laws.proofs.Sites.{AreNested}

-- ---- the place of an instance

or_from_right : (a b : Bool) → b ≡ true → (a || b) ≡ true
or_from_right true b h = refl
or_from_right false b h = h

in_around : (around params : Vars) (x : Word) → is_in params x ≡ true → is_in (around ++ params) x ≡ true
in_around [] params x h = h
in_around (v ∷ around) params x h = or_from_right (bytes_eq v.0 x) _ (in_around around params x h)

value_around : (around params : Vars) (x : Word) → AreNested around params → is_in params x ≡ true → value_in (around ++ params) x ≡ value_in params x
value_around [] params x n h = refl
value_around (v ∷ around) params x n h = rw (in_apart (around ++ params) x v.0 (in_around around params x h) n.0) (value_around around params x n.1 h)

pub place_around : (around params : Vars) → AreNested around params → AreOwn around → AreOwn params → IsPlace params (around ++ params)
place_around around params n o q = record {
  values = λ x h. value_around around params x n h;
  has = λ x h. in_around around params x h;
  variables = λ d. not_in (around ++ params) (pass_variable d) (own_all (around ++ params) (own_joined around params o q)) (variable_may_not d);
  counter_free = not_in (around ++ params) counter (own_all (around ++ params) (own_joined around params o q)) counter_may_not;
}

-- ---- what the copy sees of its loops, and of those around its place

-- the copy's variables have these values
abbrev VariablesIn : Vars → Vars → Type 0
VariablesIn env [] = Unit {0}
VariablesIn env (v ∷ loops) = ((value_in env (pass_variable (length (names loops))) ≡ v.1) × (is_in env (pass_variable (length (names loops))) ≡ true)) × VariablesIn env loops

-- these names have these values
abbrev NamesIn : Vars → Vars → Type 0
NamesIn env [] = Unit {0}
NamesIn env (v ∷ around) = ((value_in env v.0 ≡ v.1) × (is_in env v.0 ≡ true)) × NamesIn env around

variables_more : (env loops : Vars) (n : ℕ) (z : ℤ) → length (names loops) ≤ n → n < 2 ^ 64 → VariablesIn env loops → VariablesIn ((pass_variable n, z) ∷ env) loops
variables_more env [] n z l s h = tt
variables_more env (v ∷ loops) n z l s h =
    let apart : bytes_eq (pass_variable n) (pass_variable (length (names loops))) ≡ false = variable_apart n (length (names loops)) s (omega arith) (omega arith) in
    (rw apart h.0, variables_more env loops n z (omega arith) s h.1)

variables_in : (base loops : Vars) → length (names loops) < 2 ^ 64 → VariablesIn (copied_vars loops ++ base) loops
variables_in base [] s = tt
variables_in base (v ∷ loops) s = (
  rw (same_word (pass_variable (length (names loops)))) (refl, refl),
  variables_more (copied_vars loops ++ base) loops (length (names loops)) v.1 (omega arith) (omega arith) (variables_in base loops (omega arith)),
)

names_more : (env around : Vars) (y : Word) (z : ℤ) (params : Vars) → is_in (around ++ params) y ≡ false → NamesIn env around → NamesIn ((y, z) ∷ env) around
names_more env [] y z params h n = tt
names_more env (v ∷ around) y z params h n =
    let other : is_in (around ++ params) y ≡ false = or_false_right (bytes_eq v.0 y) _ h in
    let apart : bytes_eq y v.0 ≡ false = apart_sym v.0 y (or_false_left (bytes_eq v.0 y) _ h) in
    (rw apart n.0, names_more env around y z params other n.1)
  where
    or_false_left : (a b : Bool) → (a || b) ≡ false → a ≡ false
    or_false_left true b h = h
    or_false_left false b h = refl

    or_false_right : (a b : Bool) → (a || b) ≡ false → b ≡ false
    or_false_right true b h = absurd (true≢false h)
    or_false_right false b h = h

names_in : (around params : Vars) → AreNested around params → NamesIn (around ++ params) around
names_in [] params n = tt
names_in (v ∷ around) params n = (rw (same_word v.0) (refl, refl), names_more (around ++ params) around v.0 v.1 params n.0 (names_in around params n.1))

names_under : (base : Vars) → ((d : ℕ) → is_in base (pass_variable d) ≡ false) → (loops around : Vars) → NamesIn base around → NamesIn (copied_vars loops ++ base) around
names_under base free loops [] n = tt
names_under base free loops (v ∷ around) n =
    let u : (value_in (copied_vars loops ++ base) v.0 ≡ value_in base v.0) × (is_in (copied_vars loops ++ base) v.0 ≡ true) = name_under base free loops v.0 n.0.1 in
    ((u.0 ∙ n.0.0, u.1), names_under base free loops around n.1)

-- ---- the test

-- the same values
abbrev pub same_values : Vars → Vars → Bool
same_values [] [] = true
same_values (v ∷ vs) (w ∷ ws) = int_eq v.1 w.1 && same_values vs ws
same_values [] (w ∷ ws) = false
same_values (v ∷ vs) [] = false

pub same_values_refl : (vs : Vars) → same_values vs vs ≡ true
same_values_refl [] = refl
same_values_refl (v ∷ vs) = and_from _ _ ((Decides-int_eq v.1 v.1).1 refl) (same_values_refl vs)

pub same_values-true : (vs ws : Vars) → names vs ≡ names ws → same_values vs ws ≡ true → vs ≡ ws
same_values-true [] [] e h = refl
same_values-true [] (w ∷ ws) e h = absurd cc
same_values-true (v ∷ vs) [] e h = absurd cc
same_values-true (v ∷ vs) (w ∷ ws) e h =
    let p : (int_eq v.1 w.1 ≡ true) × (same_values vs ws ≡ true) = and_parts _ _ h in
    let a : v.0 ≡ w.0 = cc in
    let b : v.1 ≡ w.1 = (Decides-int_eq v.1 w.1).0 p.0 in
    let c : names vs ≡ names ws = cc in
    let d : vs ≡ ws = same_values-true vs ws c p.1 in
    ap (λ x. (x, v.1) ∷ vs) a ∙ ap (λ z. (w.0, z) ∷ vs) b ∙ ap (λ l. w ∷ l) d

instance_affine : (env loops around : Vars) → names loops ≡ names around → VariablesIn env loops → NamesIn env around → AreAffineTests (same_instance (names loops)) env
instance_affine env [] around e h n = tt
instance_affine env (v ∷ loops) [] e h n = absurd cc
instance_affine env (v ∷ loops) (w ∷ around) e h n =
    let a : w.0 ≡ v.0 = cc in
    let c : names loops ≡ names around = cc in
    ((h.0.1, ap (is_in env) (sym a) ∙ n.0.1), instance_affine env loops around c h.1 n.1)

instance_holds : (env loops around : Vars) → names loops ≡ names around → VariablesIn env loops → NamesIn env around → tests_hold (same_instance (names loops)) env ≡ same_values loops around
instance_holds env [] [] e h n = refl
instance_holds env [] (w ∷ around) e h n = absurd cc
instance_holds env (v ∷ loops) [] e h n = absurd cc
instance_holds env (v ∷ loops) (w ∷ around) e h n =
    let a : v.0 ≡ w.0 = cc in
    let c : names loops ≡ names around = cc in
    ap (λ z. int_eq z (value_in env v.0) && tests_hold (same_instance (names loops)) env) h.0.0 ∙
    ap (λ z. int_eq v.1 z && tests_hold (same_instance (names loops)) env) (ap (value_in env) a ∙ n.0.0) ∙
    ap (λ b. int_eq v.1 w.1 && b) (instance_holds env loops around c h.1 n.1)

-- the copy's loops against those around the place
pub record IsTold (loops around params : Vars) : Type 0 where
  pub affine : AreAffineTests (same_instance (names loops)) (copied_vars loops ++ (around ++ params))
  pub holds : tests_hold (same_instance (names loops)) (copied_vars loops ++ (around ++ params)) ≡ same_values loops around

pub instance_told : (loops around params : Vars) → names loops ≡ names around → length (names loops) < 2 ^ 64 → AreNested around params → IsPlace params (around ++ params) → IsTold loops around params
instance_told loops around params e s n place =
    let env : Vars = copied_vars loops ++ (around ++ params) in
    let a : VariablesIn env loops = variables_in (around ++ params) loops s in
    let b : NamesIn env around = names_under (around ++ params) place.variables loops around (names_in around params n) in
    record { affine = instance_affine env loops around e a b; holds = instance_holds env loops around e a b }
