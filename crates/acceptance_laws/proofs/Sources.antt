-- What is asked of the statements of a source, for its instrumented text to be accepted: kinds, free names, and subscripts that are signed or index cells.
use Rattle.std.proofs.Common.{◌≡◌, ℕ, ◌+◌, ◌<◌, ◌^◌, true, false, nat_eq, List, [], ◌∷◌, length, Option, None, Some}
use Rattle.std.specs.Prelude.{bytes_eq}
use Rattle.c_tree.specs.Plain.{Word, PlainStmt, loop, choice, assign, table, begin, check, verdict, PlainStmts, no_stmts, more_stmts}
use Rattle.instrumentation.specs.Names.{pass_variable}
use Rattle.c_tree.specs.Instances.{sites, sites_all}
use Rattle.instrumentation.specs.Body.{full}
use Rattle.acceptance.specs.Items.{Loop, Scope, is_known}
use Rattle.acceptance_laws.proofs.Expressions.{IsSignedAt, IsIndex, IsValue, IsTarget}
use Rattle.acceptance_laws.proofs.Statements.{AreTests}
use Rattle.acceptance_laws.proofs.Fine.{inside}

-- the name of a loop inside these: it is free, and no counting pass has it
pub record IsLoopName (f : Word) (sc : Scope) (ls : List Loop) (x : Word) : Type 0 where
  pub differs : bytes_eq f x ≡ false
  pub fresh : is_known (inside sc ls) x ≡ false
  pub no_pass : (d : ℕ) → bytes_eq x (pass_variable d) ≡ false
  pub shallow : length ls < 2 ^ 64

abbrev mutual
  pub IsSource : Word → Scope → PlainStmt → List Loop → Type 0
  IsSource f sc (loop x lo rel hi body) ls =
      IsLoopName f sc ls x × IsIndex (inside sc ls) true lo × IsIndex (inside sc ls) true hi
      × AreSource f sc body (record { name = x; lo = lo; rel = rel; hi = hi } ∷ ls)
  IsSource f sc (choice ts first other) ls = AreTests (inside sc ls) ts × AreSource f sc first ls × AreSource f sc other ls
  IsSource f sc (assign t op e) ls = IsTarget (inside sc ls) t × IsValue (inside sc ls) (full t op e)
  IsSource f sc (table x len) ls = ⊥
  IsSource f sc begin ls = ⊥
  IsSource f sc (check x extent a) ls = ⊥
  IsSource f sc verdict ls = ⊥

  pub AreSource : Word → Scope → PlainStmts → List Loop → Type 0
  AreSource f sc no_stmts ls = Unit {0}
  AreSource f sc (more_stmts s ss) ls = IsSource f sc s ls × AreSource f sc ss ls

-- ---- the counted assignment, from inside a pass

abbrev pub AreSigned : Scope → List Word → Type 0
AreSigned sc [] = Unit {0}
AreSigned sc (x ∷ xs) = IsSignedAt sc x × AreSigned sc xs

-- the assignment of number k is the counted one: then these names are signed
abbrev pub IsSeen : Scope → Option ℕ → List Word → ℕ → Type 0
IsSeen sc None xs k = Unit {0}
IsSeen sc (Some site) xs k = nat_eq site k ≡ true → AreSigned sc xs

-- The loops around the counted assignment, by their names from the innermost, are loops around the pass.
abbrev mutual
  pub Sees : Scope → Option ℕ → List Word → ℕ → PlainStmt → Type 0
  Sees sc site xs k (loop x lo rel hi body) = AllSee sc site (x ∷ xs) k body
  Sees sc site xs k (choice ts first other) = AllSee sc site xs k first × AllSee sc site xs (k + sites_all first) other
  Sees sc site xs k (assign t op e) = IsSeen sc site xs k
  Sees sc site xs k (table x len) = Unit {0}
  Sees sc site xs k begin = Unit {0}
  Sees sc site xs k (check x extent a) = Unit {0}
  Sees sc site xs k verdict = Unit {0}

  pub AllSee : Scope → Option ℕ → List Word → ℕ → PlainStmts → Type 0
  AllSee sc site xs k no_stmts = Unit {0}
  AllSee sc site xs k (more_stmts s ss) = Sees sc site xs k s × AllSee sc site xs (k + sites s) ss
