-- What is known of a result that is a known value.
use Rattle.std.proofs.Common.{◌≡◌, Result, Ok, Err, sym, subst}
use Rattle.std.specs.Prelude.{IfOk}

pub from_ok : {A E : Type 0} (r : Result A E) (x : A) (P : A → Type 0) → IfOk r (λ s. s ≡ x) → P x → IfOk r P
from_ok (Ok s) x P h p = subst P (sym h) p
from_ok (Err e) x P h p = tt
