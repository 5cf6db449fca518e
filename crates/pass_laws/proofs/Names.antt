-- The names that a pass sets and loops over differ from each other and from those of the source.
use Rattle.std.proofs.Common.{◌≡◌, ◌≢◌, ℕ, ◌<◌, ◌^◌, false, [], ◌∷◌, ◌++◌, refl, sym, ◌∙◌, codes, decimal, true≢false}
use Rattle.std.specs.Prelude.{bytes_eq}
use Rattle.std.proofs.lemmas.Slice.Eq.{bytes_eq-Decides}
use Rattle.std.proofs.lemmas.Fmt.{decimal_injective}
use Rattle.c_tree.specs.Plain.{Word}
use Rattle.c_tree.specs.Values.{Vars, is_in}
use Rattle.instrumentation.specs.Names.{numbered, pass_variable, active, counter}
use Rattle.instrumentation_laws.specs.OwnNames.{own, may_loop, AllMayLoop}
use Rattle.pass_laws.specs.Countable.{AreOwn}
use Rattle.instrumentation_laws.proofs.Names.{apart_by, apart_as, own_may}

pub apart_sym : (x y : Word) → bytes_eq x y ≡ false → bytes_eq y x ≡ false
apart_sym x y e = apart_by y x (λ same. true≢false (sym ((bytes_eq-Decides x y).1 (sym same)) ∙ e))

front_cancel : (p x y : Word) → p ++ x ≡ p ++ y → x ≡ y
front_cancel [] x y e = e
front_cancel (a ∷ p) x y e = front_cancel p x y (let g : p ++ x ≡ p ++ y = cc in g)

numbered_apart : (p : Word) (i j : ℕ) → i < 2 ^ 64 → j < 2 ^ 64 → i ≢ j → bytes_eq (numbered p i) (numbered p j) ≡ false
numbered_apart p i j a b h = apart_by (numbered p i) (numbered p j) (λ e. h (decimal_injective i j a b (front_cancel p (decimal i) (decimal j) e)))

pub variable_apart : (i j : ℕ) → i < 2 ^ 64 → j < 2 ^ 64 → i ≢ j → bytes_eq (pass_variable i) (pass_variable j) ≡ false
unfolding pass_variable
variable_apart i j = numbered_apart (codes "bal_l") i j

pub active_counter : bytes_eq active counter ≡ false
unfolding active counter
active_counter = refl

pub counter_active : bytes_eq counter active ≡ false
unfolding active counter
counter_active = refl

pub variable_may_not : (d : ℕ) → may_loop (pass_variable d) ≡ false
unfolding pass_variable
variable_may_not d = refl

pub counter_may_not : may_loop counter ≡ false
unfolding counter
counter_may_not = refl

-- a name that isn't the source's is none of these
pub not_among : (vs : Vars) (x : Word) → AreOwn vs → own x ≡ false → is_in vs x ≡ false
not_among [] x a o = refl
not_among (v ∷ vs) x a o = rw (apart_as own v.0 x a.0 o) (not_among vs x a.1 o)

-- parameters and loops of the source may be loops
pub own_all : (vs : Vars) → AreOwn vs → AllMayLoop vs
own_all [] h = tt
own_all (v ∷ vs) h = (own_may v.0 h.0, own_all vs h.1)

pub own_joined : (vs ws : Vars) → AreOwn vs → AreOwn ws → AreOwn (vs ++ ws)
own_joined [] ws h g = g
own_joined (v ∷ vs) ws h g = (h.0, own_joined vs ws h.1 g)
