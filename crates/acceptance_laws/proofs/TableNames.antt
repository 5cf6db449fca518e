-- The tables of a text: which stand before a place, by the numbers of their arrays.
use Rattle.std.proofs.Common.{◌≡◌, ◌⊎◌, ℕ, ◌^◌, ◌<◌, ◌≤◌, Bool, true, false, List, [], ◌∷◌, refl, ap, ◌∙◌, arith, inl, inr}
use Rattle.std.specs.Prelude.{bytes_eq}
use Rattle.std.proofs.lemmas.Bool.{or_from}
use Rattle.c_tree.specs.Plain.{Word}
use Rattle.c_tree.specs.Names.{is_among}
use Rattle.instrumentation.specs.Names.{current, counts}
use Rattle.acceptance_laws.proofs.Names.{own, apart_as, apart_as', current_apart, counts_apart, current_counts, counts_current, current_not_own, counts_not_own, like_table, current_like, counts_like}

-- a table of an array of a number below n
abbrev pub IsTableBelow : ℕ → Word → Type 0
IsTableBelow n t = (i : ℕ) × (i < n) × ((t ≡ current i) ⊎ (t ≡ counts i))

abbrev pub AreTables : ℕ → List Word → Type 0
AreTables n [] = Unit {0}
AreTables n (t ∷ ts) = IsTableBelow n t × AreTables n ts

pub tables_below : (n m : ℕ) (ts : List Word) → n ≤ m → AreTables n ts → AreTables m ts
tables_below n m [] l h = tt
tables_below n m (t ∷ ts) l h = ((h.0.0, (let k : h.0.0 < n = h.0.1 in omega arith), h.0.2), tables_below n m ts l h.1)

-- what holds of both tables of each array holds of them
from_both : (p : Word → Bool) (b : Bool) → ((i : ℕ) → p (current i) ≡ b) → ((i : ℕ) → p (counts i) ≡ b) → (n : ℕ) (t : Word) → IsTableBelow n t → p t ≡ b
from_both p b f g n t (i, l, inl e) = ap p e ∙ f i
from_both p b f g n t (i, l, inr e) = ap p e ∙ g i

pub tables_lack : (n : ℕ) (ts : List Word) → AreTables n ts → (x : Word) → like_table x ≡ false → is_among ts x ≡ false
tables_lack n [] h x o = refl
tables_lack n (t ∷ ts) h x o = or_from _ _ (apart_as like_table t x (from_both like_table true current_like counts_like n t h.0) o) (tables_lack n ts h.1 x o)

pub tables_lack_own : (n : ℕ) (ts : List Word) → AreTables n ts → (x : Word) → own x ≡ true → is_among ts x ≡ false
tables_lack_own n [] h x o = refl
tables_lack_own n (t ∷ ts) h x o = or_from _ _ (apart_as' own t x (from_both own false current_not_own counts_not_own n t h.0) o) (tables_lack_own n ts h.1 x o)

-- the tables of an array whose number is none below n are new
current_new : (n : ℕ) (t : Word) (a : ℕ) → IsTableBelow n t → n ≤ a → a < 2 ^ 64 → bytes_eq t (current a) ≡ false
current_new n t a (i, l, inl e) g s = ap (λ w. bytes_eq w (current a)) e ∙ current_apart i a (omega arith) s (omega arith)
current_new n t a (i, l, inr e) g s = ap (λ w. bytes_eq w (current a)) e ∙ counts_current i a

counts_new : (n : ℕ) (t : Word) (a : ℕ) → IsTableBelow n t → n ≤ a → a < 2 ^ 64 → bytes_eq t (counts a) ≡ false
counts_new n t a (i, l, inl e) g s = ap (λ w. bytes_eq w (counts a)) e ∙ current_counts i a
counts_new n t a (i, l, inr e) g s = ap (λ w. bytes_eq w (counts a)) e ∙ counts_apart i a (omega arith) s (omega arith)

pub no_current : (n : ℕ) (ts : List Word) (a : ℕ) → AreTables n ts → n ≤ a → a < 2 ^ 64 → is_among ts (current a) ≡ false
no_current n [] a h g s = refl
no_current n (t ∷ ts) a h g s = or_from _ _ (current_new n t a h.0 g s) (no_current n ts a h.1 g s)

pub no_counts : (n : ℕ) (ts : List Word) (a : ℕ) → AreTables n ts → n ≤ a → a < 2 ^ 64 → is_among ts (counts a) ≡ false
no_counts n [] a h g s = refl
no_counts n (t ∷ ts) a h g s = or_from _ _ (counts_new n t a h.0 g s) (no_counts n ts a h.1 g s)
