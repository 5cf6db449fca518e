-- Values of the code without where they lie in memory.
use Rattle.std.specs.Prelude.{ℕ, List, map}
use Rattle.std.specs.Borrow.{Bor}

-- the names in the list
abbrev pub listed : List (Bor (List ℕ)) → List (List ℕ)
listed names = map (λ (n : Bor (List ℕ)). n.now) names
