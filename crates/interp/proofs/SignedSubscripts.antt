-- Signed subscripts lead where the list of their values row_major.
use Rattle.std.proofs.Common.{◌≡◌, ℕ, ◌+◌, ◌*◌, ◌%◌, ◌^◌, ◌&&◌, ◌≤◌, ◌<◌, length, Bool, true, false, cond, List, [], ◌∷◌, map, ℤ, pos, Option, Some, None, refl, ap, ◌∙◌, arith}
use Rattle.std.specs.Prelude.{slice_get, int_le, int_lt}
use Rattle.c_tree.specs.Values.{word_bin}
use Rattle.c_tree.specs.Arrays.{size_of}
use Rattle.c_tree.specs.declared.expr.BinOp.{BinOp}
use Rattle.interp.specs.declared.slots.SignedExpr.{SignedExpr}
use Rattle.interp.specs.declared.slots.WordExpr.{WordExpr}
use Rattle.interp.specs.declared.slots.WordExpr.TheVariants as w
use Rattle.interp.specs.declared.slots.WordExpr.{Cell', Entry', Un', Bin', Test', Min', Max'}
use Rattle.interp.specs.declared.machine.Machine.{Machine}
use Rattle.interp.specs.Places.{Placed, place_of}
use Rattle.interp.specs.Machine.{Act, after, ◌>>=◌, give, found, found_in, finds, loads, stores}
use Rattle.interp.specs.Signed.{signed_of}
use Rattle.interp.specs.Meaning.{Meaning, meaning, coordinates_of, word_of}
use Rattle.interp.specs.Steps.{updated, store_by}
use Rattle.interp.specs.Subscripts.{row_major, behind_base, signed_place_in, signed_place}
use Rattle.interp.proofs.StandsWords.{meaning-Index}

pub row_major_no_index : (rows : ℕ) (xs : List ℤ) (e : WordExpr) (at : List WordExpr) (ns : List ℤ) → ((s : SignedExpr) → e ≡ w.Index s → ⊥) → row_major rows xs (e ∷ at) ns ≡ None
row_major_no_index rows [] e at ns h = refl
row_major_no_index rows (x ∷ xs) (w.Index s) at ns h = absurd (h s refl)
row_major_no_index rows (x ∷ xs) (w.Number n) at ns h = refl
row_major_no_index rows (x ∷ xs) (w.Word k) at ns h = refl
row_major_no_index rows (x ∷ xs) (Cell' a q es) at ns h = refl
row_major_no_index rows (x ∷ xs) (Entry' k q a) at ns h = refl
row_major_no_index rows (x ∷ xs) (Un' op q a) at ns h = refl
row_major_no_index rows (x ∷ xs) (Bin' op q a t b) at ns h = refl
row_major_no_index rows (x ∷ xs) (w.Cast s) at ns h = refl
row_major_no_index rows (x ∷ xs) (Test' rel q a t b) at ns h = refl
row_major_no_index rows (x ∷ xs) (Min' q a t b) at ns h = refl
row_major_no_index rows (x ∷ xs) (Max' q a t b) at ns h = refl

pub row_major_short : (rows : ℕ) (xs : List ℤ) (ns : List ℤ) → 1 ≤ length xs → row_major rows xs [] ns ≡ None
row_major_short rows [] ns h = absurd (omega (arith, h))
row_major_short rows (x ∷ xs) ns h = refl

pub row_major_past : (rows : ℕ) (xs : List ℤ) (at : List WordExpr) (ns : List ℤ) → length at < 1 → 1 ≤ length xs → row_major rows xs at ns ≡ None
row_major_past rows xs [] ns none h = row_major_short rows xs ns h
row_major_past rows xs (e ∷ at) ns none h = absurd (omega (arith, none))

-- ---- the list of their values

record Lists (ps : List Placed) (base rows : ℕ) (xs : List ℤ) (at : List WordExpr) (ns : List ℤ) (n : ℕ) : Type 0 where
  cs : List ℤ
  comes : coordinates_of (map (meaning ps) at) ns ≡ give cs
  placed : place_of base rows xs cs ≡ Some ((base + n) % 2 ^ 64)

module _ (ps : List Placed) (base : ℕ) where
  lists_if : (rows : ℕ) (x : ℤ) (xs : List ℤ) (e : SignedExpr) (at : List WordExpr) (ns : List ℤ) (n : ℕ) (b : Bool) →
      (int_le (pos 0) (signed_of e ns) && int_lt (signed_of e ns) x) ≡ b →
      (row_major ((rows * size_of x + size_of (signed_of e ns)) % 2 ^ 64) xs at ns ≡ Some n → Lists ps base ((rows * size_of x + size_of (signed_of e ns)) % 2 ^ 64) xs at ns n) →
      cond b (row_major ((rows * size_of x + size_of (signed_of e ns)) % 2 ^ 64) xs at ns) None ≡ Some n → Lists ps base rows (x ∷ xs) (w.Index e ∷ at) ns n
  lists_if rows x xs e at ns n false is rest h = absurd cc
  lists_if rows x xs e at ns n true is rest h =
      let c : ℤ = signed_of e ns in
      let more = rest h in
      record {
        cs = c ∷ more.cs;
        comes = ap (λ (m : Meaning). m.coordinate ns >>= (λ c. coordinates_of (map (meaning ps) at) ns >>= (λ cs. give (c ∷ cs)))) (meaning-Index ps e)
            ∙ ap (λ (p : Act (List ℤ)). p >>= (λ cs. give (c ∷ cs))) more.comes;
        placed = ap (λ (b : Bool). cond b (place_of base ((rows * size_of x + size_of c) % 2 ^ 64) xs more.cs) None) is ∙ more.placed;
      }

  lists : (rows : ℕ) (xs : List ℤ) (at : List WordExpr) (ns : List ℤ) (n : ℕ) → row_major rows xs at ns ≡ Some n → Lists ps base rows xs at ns n
  lists rows [] [] ns n h = record { cs = []; comes = refl; placed = let e : rows ≡ n = cc in ap (λ k. Some ((base + k) % 2 ^ 64)) e }
  lists rows [] (e ∷ at) ns n h = absurd cc
  lists rows (x ∷ xs) [] ns n h = absurd cc
  lists rows (x ∷ xs) (w.Index e ∷ at) ns n h =
      lists_if rows x xs e at ns n (int_le (pos 0) (signed_of e ns) && int_lt (signed_of e ns) x) refl
      (λ h. lists ((rows * size_of x + size_of (signed_of e ns)) % 2 ^ 64) xs at ns n h) h
  lists rows (x ∷ xs) (w.Number k ∷ at) ns n h = absurd cc
  lists rows (x ∷ xs) (w.Word k ∷ at) ns n h = absurd cc
  lists rows (x ∷ xs) (Cell' a q es ∷ at) ns n h = absurd cc
  lists rows (x ∷ xs) (Entry' k q a ∷ at) ns n h = absurd cc
  lists rows (x ∷ xs) (Un' op q a ∷ at) ns n h = absurd cc
  lists rows (x ∷ xs) (Bin' op q a t b ∷ at) ns n h = absurd cc
  lists rows (x ∷ xs) (w.Cast s ∷ at) ns n h = absurd cc
  lists rows (x ∷ xs) (Test' rel q a t b ∷ at) ns n h = absurd cc
  lists rows (x ∷ xs) (Min' q a t b ∷ at) ns n h = absurd cc
  lists rows (x ∷ xs) (Max' q a t b ∷ at) ns n h = absurd cc

-- ---- the place that they lead to

record Led (ps : List Placed) (a : ℕ) (at : List WordExpr) (ns : List ℤ) (place : ℕ) : Type 0 where
  cs : List ℤ
  comes : coordinates_of (map (meaning ps) at) ns ≡ give cs
  here : finds ps a cs ≡ give place

module _ (ps : List Placed) (a : ℕ) (at : List WordExpr) (ns : List ℤ) (place : ℕ) where
  led_at : (p : Placed) → slice_get ps a ≡ Some p → (r : Option ℕ) → row_major 0 p.extents at ns ≡ r → behind_base p.base r ≡ Some place → Led ps a at ns place
  led_at p is None e h = absurd cc
  led_at p is (Some n) e h =
      let l = lists ps p.base 0 p.extents at ns n e in
      record { cs = l.cs; comes = l.comes; here = ap (found_in a l.cs) is ∙ ap (found a) (l.placed ∙ h) }

  led_in : (o : Option Placed) → slice_get ps a ≡ o → signed_place_in at ns o ≡ Some place → Led ps a at ns place
  led_in None is h = absurd cc
  led_in (Some p) is h = led_at p is (row_major 0 p.extents at ns) refl h

  module _ (is_place : signed_place ps a at ns ≡ Some place) where
    led : Led ps a at ns place
    led = led_in (slice_get ps a) refl is_place

    pub signed_loads : (m : Machine) → after (coordinates_of (map (meaning ps) at) ns m) (λ cs m. after (finds ps a cs m) loads) ≡ loads place m
    signed_loads m =
        ap (λ (p : Act (List ℤ)). after (p m) (λ cs m. after (finds ps a cs m) loads)) led.comes ∙ ap (λ (p : Act ℕ). after (p m) loads) led.here

    pub signed_stores : (op : Option BinOp) (e : WordExpr) (m : Machine) →
        store_by ps a at op e ns m ≡ after (updated word_bin op (loads place) (word_of ps e ns) m) (λ n. stores place n)
    signed_stores op e m =
        ap (λ (p : Act (List ℤ)). after (p m) (λ cs. updated word_bin op (finds ps a cs >>= loads) (word_of ps e ns) >>= (λ n. finds ps a cs >>= (λ place. stores place n)))) led.comes
        ∙ ap (λ (p : Act ℕ). after (updated word_bin op (p >>= loads) (word_of ps e ns) m) (λ n. p >>= (λ place. stores place n))) led.here
