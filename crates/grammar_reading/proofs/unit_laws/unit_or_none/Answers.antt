use Rattle.std.proofs.Common.{◌≡◌, ◌⊎◌, inl, inr, List, Option, Some, None, refl}
use Rattle.c_tree.specs.Plain.{PlainUnit}
use Rattle.c_tree.specs.Grammar.Lexemes.{Lexeme}
use Rattle.c_tree.specs.Grammar.Units.{IsUnit}
use Rattle.grammar_reading.specs.UnitReading.{unit_at}
use Rattle.grammar_reading.proofs.UnitSound.{unit_sound}
use Rattle.grammar_reading.proofs.UnitComplete.{unit_read}
use Rattle.grammar_reading.proofs.unit_laws.unit_or_none.Goals as goal

not_both : {A : Type 0} {o : Option A} {x : A} → o ≡ None → o ≡ Some x → ⊥
not_both e f = cc

by : (ts : List Lexeme) (r : Option PlainUnit) → unit_at ts ≡ r → ((u : PlainUnit) × IsUnit ts u) ⊎ ((u : PlainUnit) → IsUnit ts u → ⊥)
by ts (Some u) is = inl (u, unit_sound ts u is)
by ts None is = inr (λ u d. not_both is (unit_read d))

pub returns : goal.returns
returns c = λ ts. by ts (unit_at ts) refl
