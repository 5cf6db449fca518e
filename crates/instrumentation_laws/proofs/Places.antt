-- The access that comes next in a list, and its place.
use Rattle.std.proofs.Common.{◌≡◌, ◌<◌, List, ◌∷◌, ◌++◌, length, ap, ◌∙◌, subst, arith}
use Rattle.std.proofs.lemmas.List.{length-map, length-append, map-append, get_or_at}
use Rattle.c_tree.specs.Accesses.{at, nowhere}
use Rattle.c_tree.specs.Instances.{Tagged, untagged}

pub access_here : (whole pre : List Tagged) (t : Tagged) (rest : List Tagged) → pre ++ t ∷ rest ≡ whole → at (untagged whole) (length pre) ≡ t.access
access_here whole pre t rest is =
    subst (λ l. at (untagged l) (length pre) ≡ t.access) is
    (ap (λ l. at l (length pre)) (map-append (λ (u : Tagged). u.access) pre (t ∷ rest)) ∙
    get_or_at (untagged pre) t.access (untagged rest) nowhere (length pre) (length-map pre (λ (u : Tagged). u.access)))

pub below_here : (whole pre : List Tagged) (t : Tagged) (rest : List Tagged) → pre ++ t ∷ rest ≡ whole → length pre < length whole
below_here whole pre t rest is =
    let a = length-append pre (t ∷ rest) in
    let b : length (pre ++ t ∷ rest) ≡ length whole = ap length is in
    omega arith
