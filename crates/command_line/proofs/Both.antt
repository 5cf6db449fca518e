-- What two tests hold that hold together.
use Rattle.std.proofs.Common.{◌≡◌, Bool, true, false, ◌&&◌, refl}

pub first_of_both : (a b : Bool) → (a && b) ≡ true → a ≡ true
first_of_both true b h = refl
first_of_both false b h = h

pub rest_of_both : (a b : Bool) → (a && b) ≡ true → b ≡ true
rest_of_both true b h = h
rest_of_both false b h = absurd (cc)
