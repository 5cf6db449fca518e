-- Names of a source, and names that its instrumented text adds to them.
use Rattle.std.specs.Prelude.{◌≡◌, Bool, true, not, ◌||◌, nat_eq, [], ◌∷◌, codes}
use Rattle.std.specs.List.{starts_with}
use Rattle.c_tree.specs.Plain.{Word}
use Rattle.c_tree.specs.Values.{Vars}

abbrev pub begins : Word → Word → Bool
begins prefix x = starts_with nat_eq x prefix

-- a name of the source
abbrev pub own : Word → Bool
own x = not (begins (codes "bal_") x)

-- a name of the source, or a coordinate's of the prologue
abbrev pub may_loop : Word → Bool
may_loop x = own x || begins (codes "bal_i") x

-- a word that pieces set
abbrev pub piece_word : Word → Bool
piece_word = begins (codes "bal_c")

-- parameters and loops have such names
abbrev pub AllMayLoop : Vars → Type 0
AllMayLoop [] = Unit {0}
AllMayLoop (v ∷ vs) = (may_loop v.0 ≡ true) × AllMayLoop vs
