-- Tests joined by `&&` and `||`.
use Rattle.std.proofs.Common.{◌≡◌, refl, sym, ◌||◌, ◌&&◌, Bool, true, false, true≢false}

pub or_true : (b : Bool) → (b || true) ≡ true
or_true true = refl
or_true false = refl

pub or_false : (b : Bool) → (b || false) ≡ b
or_false true = refl
or_false false = refl

pub or_assoc : (a b c : Bool) → ((a || b) || c) ≡ (a || (b || c))
or_assoc true b c = refl
or_assoc false b c = refl

pub and_true : (b : Bool) → (b && true) ≡ b
and_true true = refl
and_true false = refl

pub and_left : (a b : Bool) → (a && b) ≡ true → a ≡ true
and_left true b h = refl
and_left false b h = h

pub and_right : (a b : Bool) → (a && b) ≡ true → b ≡ true
and_right true b h = h
and_right false b h = absurd (true≢false (sym h))

pub neither_left : (a b : Bool) → (a || b) ≡ false → a ≡ false
neither_left true b h = h
neither_left false b h = refl

pub neither_right : (a b : Bool) → (a || b) ≡ false → b ≡ false
neither_right true b h = absurd (true≢false h)
neither_right false b h = h

pub same_tests : (a b : Bool) → (a ≡ true → b ≡ true) → (b ≡ true → a ≡ true) → a ≡ b
same_tests true b f g = sym (f refl)
same_tests false true f g = g refl
same_tests false false f g = refl
