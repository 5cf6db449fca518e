-- A piece that sets the count to a number.
use Rattle.std.proofs.Common.{◌≡◌, ℕ, ◌+◌, ◌*◌, ◌^◌, true, cond, List, [], ◌∷◌, refl, ap, ◌∙◌, arith, None}
use Rattle.std.specs.Prelude.{bytes_eq}
use Rattle.std.specs.List.{list_any}
use Rattle.c_tree.specs.Plain.{var, big, PlainStmt, assign}
use Rattle.c_tree.specs.Run.{State, Scope, put}
use Rattle.instrumentation.specs.Names.{count}
use Rattle.instrumentation_laws.specs.Pieces.{Piece}
use Rattle.instrumentation_laws.proofs.Names.{same_word}
use Rattle.instrumentation_laws.proofs.Steps.{exec_one}

abbrev pub constant : ℕ → List PlainStmt
constant k = assign (var count) None (big 0 k) ∷ []

abbrev pub with_count : ℕ → State → State
with_count k s = record s { wides = put s.wides count (0 * 2 ^ 64 + k) }

abbrev pub constant_piece : (sc : Scope) (k : ℕ) → list_any (bytes_eq count) sc.wides ≡ true → Piece sc (constant k)
constant_piece sc k h = record {
  to = λ vs s. with_count k s;
  goes = λ vs o s. exec_one sc (assign (var count) None (big 0 k)) vs s ∙ rw h refl;
  memory = λ vs s. refl;
  accesses = λ vs s. refl;
  begun = λ vs s. refl;
  words = λ vs s x e. refl;
  wides = λ vs s x e. ap (λ b. cond b (0 * 2 ^ 64 + k) (s.wides x)) e;
}

pub count_is : (k : ℕ) (s : State) → (with_count k s).wides count ≡ k
count_is k s = ap (λ b. cond b (0 * 2 ^ 64 + k) (s.wides count)) (same_word count) ∙ omega arith
