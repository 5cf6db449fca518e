-- Each cell that a source reads is of one of its arrays, whose numbers are below how many there are.
use Rattle.std.proofs.Common.{◌≡◌, ℕ, ◌+◌, ◌<◌, ◌≤◌, suc, Bool, true, false, List, [], ◌∷◌, length, refl, sym, inl, inr, arith, true≢false}
use Rattle.std.specs.Prelude.{bytes_eq}
use Rattle.std.proofs.lemmas.Bool.{cases_Bool}
use Rattle.c_tree.specs.Plain.{Word, PlainExpr, lit, var, cell, un, bin, cast, test, umin, umax, least, greatest, widen, big, PlainExprs, no_exprs, more_exprs, PlainStmt, loop, choice, assign, table, begin, check, verdict, PlainStmts, no_stmts, more_stmts, PlainParam, int_param, array_param}
use Rattle.c_tree.specs.Names.{is_among}
use Rattle.instrumentation.specs.Names.{number_from, number_in}
use Rattle.instrumentation.specs.Guarded.{array_names}
use Rattle.instrumentation.specs.Body.{full}
use Rattle.instrumentation.specs.Subscripts.{is_cell}
use Rattle.instrumentation.proofs.Subscripts.{cell_or_not}
use Rattle.acceptance.specs.Head.{list_of}
use Rattle.acceptance.specs.Printed.{dimensions}
use Rattle.acceptance.specs.Items.{Loop, Scope, is_array}
use Rattle.acceptance_laws.proofs.Expressions.{IsIndex, IsSubscript, AreReadable, IsValue, IsTarget}
use Rattle.accepted_laws.specs.Suited.{AreRanked}
use Rattle.accepted_laws.proofs.Dimensions.{only}
use Rattle.acceptance_laws.proofs.Fine.{inside}
use Rattle.acceptance_laws.proofs.Totals.{array_named}
use Rattle.acceptance_laws.proofs.Sources.{IsSource, AreSource}

-- an index cell has at most three subscripts
abbrev pub IsShort : PlainExpr → Type 0
IsShort (cell x at) = length (list_of at) ≤ 3
IsShort e = Unit {0}

abbrev pub AreShort : PlainExprs → Type 0
AreShort no_exprs = Unit {0}
AreShort (more_exprs e es) = IsShort e × AreShort es

abbrev pub ReadsBelow : (Word → ℕ) → ℕ → PlainExpr → Type 0
ReadsBelow number n (lit k) = Unit {0}
ReadsBelow number n (var x) = Unit {0}
ReadsBelow number n (cell x at) = (number x < n) × (length (list_of at) ≤ 3) × AreShort at
ReadsBelow number n (un op a) = ReadsBelow number n a
ReadsBelow number n (bin op a b) = ReadsBelow number n a × ReadsBelow number n b
ReadsBelow number n (cast a) = ReadsBelow number n a
ReadsBelow number n (test rel a b) = ReadsBelow number n a × ReadsBelow number n b
ReadsBelow number n (umin a b) = ReadsBelow number n a × ReadsBelow number n b
ReadsBelow number n (umax a b) = ReadsBelow number n a × ReadsBelow number n b
ReadsBelow number n (least a b) = Unit {0}
ReadsBelow number n (greatest a b) = Unit {0}
ReadsBelow number n (widen a) = Unit {0}
ReadsBelow number n (big high low) = Unit {0}

abbrev mutual
  pub StmtBelow : (Word → ℕ) → ℕ → PlainStmt → Type 0
  StmtBelow number n (loop x lo rel hi body) = AllBelow number n body
  StmtBelow number n (choice ts first other) = AllBelow number n first × AllBelow number n other
  StmtBelow number n (assign t op e) = ReadsBelow number n (full t op e) × IsShort t
  StmtBelow number n (table x len) = Unit {0}
  StmtBelow number n begin = Unit {0}
  StmtBelow number n (check x extent a) = Unit {0}
  StmtBelow number n verdict = Unit {0}

  pub AllBelow : (Word → ℕ) → ℕ → PlainStmts → Type 0
  AllBelow number n no_stmts = Unit {0}
  AllBelow number n (more_stmts s ss) = StmtBelow number n s × AllBelow number n ss

number_below : (k : ℕ) (xs : List Word) (x : Word) → is_among xs x ≡ true → number_from k xs x < k + length xs
number_below k [] x h = absurd (true≢false (sym h))
number_below k (w ∷ ws) x h = elim (cases_Bool (bytes_eq w x)) [
  | inl e ↦ rw e (omega arith)
  | inr e ↦ rw e (let r = number_below (suc k) ws x (rw e at h) in omega arith)
]

module _ (ps : List PlainParam) where
  abbrev number : Word → ℕ
  number = number_in (array_names ps)

  abbrev n : ℕ
  n = length (array_names ps)

  pub array_below : (x : Word) → is_array ps x ≡ true → number x < n
  array_below x h = (let r = number_below 0 (array_names ps) x (array_named ps x h) in omega arith)

  index_below : (sc : Scope) (bound : Bool) (e : PlainExpr) → IsIndex sc bound e → ReadsBelow number n e
  index_below sc bound (lit k) h = tt
  index_below sc bound (var x) h = tt
  index_below sc bound (un op a) h = index_below sc bound a h.1
  index_below sc bound (bin op a b) h = (index_below sc bound a h.1, index_below sc bound b h.2)
  index_below sc bound (least a b) h = tt
  index_below sc bound (greatest a b) h = tt
  index_below sc bound _ h = absurd h

  module _ (sc : Scope) (same : (x : Word) → is_array sc.params x ≡ true → is_array ps x ≡ true) (ranks : (x : Word) → is_array sc.params x ≡ true → dimensions sc x ≤ 3) where
    subscripts_short : (at : PlainExprs) → AreReadable sc at → AreShort at
    subscripts_short no_exprs h = tt
    subscripts_short (more_exprs e es) h = (
      cell_or_not (λ e. IsSubscript sc e → IsShort e) (λ x at c. (let k = c.rank in let l = ranks x c.array in omega arith)) (λ e other c. other_short e other) e h.0,
      subscripts_short es h.1,
    )
      where
        other_short : (e : PlainExpr) → is_cell e ≡ false → IsShort e
        other_short (cell x at) g = absurd (true≢false g)
        other_short (lit k) g = tt
        other_short (var x) g = tt
        other_short (un op a) g = tt
        other_short (bin op a b) g = tt
        other_short (cast a) g = tt
        other_short (test rel a b) g = tt
        other_short (umin a b) g = tt
        other_short (umax a b) g = tt
        other_short (least a b) g = tt
        other_short (greatest a b) g = tt
        other_short (widen a) g = tt
        other_short (big high low) g = tt

    value_below : (e : PlainExpr) → IsValue sc e → ReadsBelow number n e
    value_below (lit k) h = tt
    value_below (var x) h = tt
    value_below (cell x at) h = (let k = h.rank in let l = ranks x h.array in (array_below x (same x h.array), omega arith, subscripts_short at h.subscripts))
    value_below (un op a) h = value_below a h
    value_below (bin op a b) h = (value_below a h.1, value_below b h.2)
    value_below (cast a) (inl h) = value_below a h
    value_below (cast a) (inr h) = index_below sc false a h
    value_below (test rel a b) h = (value_below a h.0, value_below b h.1)
    value_below (umin a b) h = (value_below a h.0, value_below b h.1)
    value_below (umax a b) h = (value_below a h.0, value_below b h.1)
    value_below _ h = absurd h

    target_short : (t : PlainExpr) → IsTarget sc t → IsShort t
    target_short (cell x at) h = (let k = h.rank in let l = ranks x h.array in omega arith)
    target_short (var x) h = tt
    target_short _ h = absurd h

  module _ (f : Word) (sc : Scope) (same : (x : Word) → is_array sc.params x ≡ true → is_array ps x ≡ true) (ranks : (x : Word) → is_array sc.params x ≡ true → dimensions sc x ≤ 3) where
    mutual
      stmt_below : (s : PlainStmt) (ls : List Loop) → IsSource f sc s ls → StmtBelow number n s
      stmt_below (loop x lo rel hi body) ls h = all_below body (record { name = x; lo = lo; rel = rel; hi = hi } ∷ ls) h.3
      stmt_below (choice ts first other) ls h = (all_below first ls h.1, all_below other ls h.2)
      stmt_below (assign t op e) ls h = (value_below (inside sc ls) same ranks (full t op e) h.1, target_short (inside sc ls) same ranks t h.0)
      stmt_below _ ls h = absurd h

      pub all_below : (ss : PlainStmts) (ls : List Loop) → AreSource f sc ss ls → AllBelow number n ss
      all_below no_stmts ls h = tt
      all_below (more_stmts s ss) ls h = (stmt_below s ls h.0, all_below ss ls h.1)

-- an array has at most three extents
pub array_rank : (ps : List PlainParam) (x : Word) → AreRanked ps → dimensions (only ps) x ≤ 3
array_rank [] x h = omega arith
array_rank (int_param y ∷ ps) x h = array_rank ps x h
array_rank (array_param y c es ∷ ps) x h = elim (cases_Bool (bytes_eq y x)) [
  | inl e ↦ rw e h.1
  | inr e ↦ rw e (array_rank ps x h.2)
]
