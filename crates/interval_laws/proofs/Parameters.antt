-- The value of each `int64_t` parameter lies in the interval of its range line.
use Rattle.std.proofs.Common.{◌≡◌, Bool, true, false, cond, ◌||◌, List, [], ◌∷◌, ℤ, Some, refl, sym, subst, true≢false}
use Rattle.std.specs.Prelude.{bytes_eq}
use Rattle.std.proofs.lemmas.Slice.Eq.{bytes_eq-Decides}
use Rattle.c_tree.specs.Plain.{Word, PlainParam, int_param, array_param}
use Rattle.c_tree.specs.Values.{value_in}
use Rattle.c_tree.specs.Arrays.{vars_of}
use Rattle.c_tree.specs.Inputs.{range_of, IsBetween, AreInRange}
use Rattle.acceptance.specs.Items.{is_int}
use Rattle.acceptance.specs.Affine.{interval_in}
use Rattle.interval_laws.specs.Laws.{Within, lines}

range_within : (rs : List (Word × ℤ × ℤ)) (x : Word) (n : ℤ) → IsBetween (range_of rs x) n → Within (interval_in (lines rs) x) n
range_within [] x n h = absurd h
range_within (r ∷ rs) x n h = chosen (bytes_eq r.0 x) h (range_within rs x n)
  where
    chosen : (b : Bool) → IsBetween (cond b (Some (r.1, r.2)) (range_of rs x)) n → (IsBetween (range_of rs x) n → Within (interval_in (lines rs) x) n)
        → Within (cond b (r.1, r.2) (interval_in (lines rs) x)) n
    chosen true h f = record { low = h.0; high = h.1 }
    chosen false h f = f h

-- the value of each `int64_t` parameter lies in the interval of its range line
pub value_within : (rs : List (Word × ℤ × ℤ)) (ps : List PlainParam) (ns : List ℤ) → AreInRange rs ps ns → (x : Word) → is_int ps x ≡ true
    → Within (interval_in (lines rs) x) (value_in (vars_of ps ns) x)
value_within rs [] [] h x e = absurd (true≢false (sym e))
value_within rs [] (n ∷ ns) h x e = absurd h
value_within rs (array_param y constant extents ∷ ps) ns h x e = value_within rs ps ns h x e
value_within rs (int_param y ∷ ps) [] h x e = absurd h
value_within rs (int_param y ∷ ps) (n ∷ ns) h x e = chosen (bytes_eq y x) refl e (value_within rs ps ns h.1 x)
  where
    chosen : (b : Bool) → bytes_eq y x ≡ b → (b || is_int ps x) ≡ true → (is_int ps x ≡ true → Within (interval_in (lines rs) x) (value_in (vars_of ps ns) x))
        → Within (interval_in (lines rs) x) (cond b n (value_in (vars_of ps ns) x))
    chosen true same g f = range_within rs x n (subst (λ w. IsBetween (range_of rs w) n) ((bytes_eq-Decides y x).0 same) h.0)
    chosen false same g f = f g
