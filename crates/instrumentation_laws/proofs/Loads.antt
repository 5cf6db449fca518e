-- The loads of an expression: after them the expression over the loaded words gives what the source's expression gives.
use Rattle.std.proofs.Common.{◌≡◌, ℕ, ◌+◌, ◌^◌, ◌<◌, ◌≤◌, Bool, true, false, if◌then◌else◌, List, [], ◌++◌, refl, sym, ap, ◌∙◌, subst, arith, Option, nat_lt}
use Rattle.c_tree.specs.Plain.{Word, PlainExpr, lit, var, cell, un, bin, cast, test, umin, umax, least, greatest, widen, big, PlainExprs, PlainStmt}
use Rattle.c_tree.specs.Trees.{stmts_of}
use Rattle.c_tree.specs.Kinds.{is_signed}
use Rattle.c_tree.specs.Values.{Vars, signed, as_word, word_un, word_bin, word_holds, as_bit, kind}
use Rattle.c_tree.specs.Arrays.{Array}
use Rattle.c_tree.specs.Fault.{Upset}
use Rattle.c_tree.specs.Run.{State, Outcome, goes_on, Run, and_then, give, Scope, word, exec_all}
use Rattle.instrumentation.specs.Names.{register}
use Rattle.instrumentation.specs.Body.{read_text, loads_text, pure, reads_in}
use Rattle.instrumentation.specs.Subscripts.{indices_in}
use Rattle.instrumentation_laws.specs.OwnNames.{own, AllMayLoop}
use Rattle.instrumentation_laws.specs.RegularSources.{IsSilent}
use Rattle.instrumentation_laws.specs.Sources.{IsRead, IsData}
use Rattle.instrumentation_laws.specs.Pieces.{Declares}
use Rattle.instrumentation_laws.specs.Setting.{scope_of}
use Rattle.instrumentation_laws.proofs.Names.{not_in, register_may_not}
use Rattle.instrumentation_laws.proofs.Steps.{exec_join}
use Rattle.run_laws.proofs.Alike.{Alike}
use Rattle.instrumentation_laws.proofs.Likeness.{Like, like_then, like_first, like_weaker}
use Rattle.instrumentation_laws.proofs.ByIndex.{OneLoaded, read_like}

-- the words of the loads have no value among the loops, so kinds and signed values stay
pub kind_pure : (vs : Vars) (e : PlainExpr) (j : ℕ) → AllMayLoop vs → kind vs (pure e j) ≡ kind vs e
kind_pure vs (lit n) j o = refl
kind_pure vs (var x) j o = refl
kind_pure vs (cell x at) j o = rw (not_in vs (register (j + indices_in at)) o (register_may_not (j + indices_in at))) refl
kind_pure vs (un op a) j o = kind_pure vs a j o
kind_pure vs (bin op a b) j o = rw (kind_pure vs a j o, kind_pure vs b (j + reads_in a) o) refl
kind_pure vs (cast a) j o = refl
kind_pure vs (test rel a b) j o = refl
kind_pure vs (umin a b) j o = refl
kind_pure vs (umax a b) j o = refl
kind_pure vs (least a b) j o = refl
kind_pure vs (greatest a b) j o = refl
kind_pure vs (widen a) j o = refl
kind_pure vs (big high low) j o = refl

-- without cells there is nothing to load
pub silent_pure : (number : Word → ℕ) (extents : Word → PlainExprs) (e : PlainExpr) (j : ℕ) → IsSilent e → (pure e j ≡ e) × (loads_text number extents e j ≡ [])
silent_pure number extents (lit n) j h = (refl, refl)
silent_pure number extents (var x) j h = (refl, refl)
silent_pure number extents (cell x at) j h = absurd h
silent_pure number extents (un op a) j h = let p = silent_pure number extents a j h in (ap (un op) p.0, p.1)
silent_pure number extents (bin op a b) j h = let p = silent_pure number extents a j h.0 in let q = silent_pure number extents b (j + reads_in a) h.1 in
    (rw (p.0, q.0) refl, rw (p.1, q.1) refl)
silent_pure number extents (cast a) j h = let p = silent_pure number extents a j h in (ap cast p.0, p.1)
silent_pure number extents (test rel a b) j h = let p = silent_pure number extents a j h.0 in let q = silent_pure number extents b (j + reads_in a) h.1 in
    (rw (p.0, q.0) refl, rw (p.1, q.1) refl)
silent_pure number extents (umin a b) j h = let p = silent_pure number extents a j h.0 in let q = silent_pure number extents b (j + reads_in a) h.1 in
    (rw (p.0, q.0) refl, rw (p.1, q.1) refl)
silent_pure number extents (umax a b) j h = let p = silent_pure number extents a j h.0 in let q = silent_pure number extents b (j + reads_in a) h.1 in
    (rw (p.0, q.0) refl, rw (p.1, q.1) refl)
silent_pure number extents (least a b) j h = (refl, refl)
silent_pure number extents (greatest a b) j h = (refl, refl)
silent_pure number extents (widen a) j h = (refl, refl)
silent_pure number extents (big high low) j h = (refl, refl)

-- the expression p gives a, whatever came after, as long as the source's words and n words from j on stay
abbrev pub GivesIn : Scope → PlainExpr → Vars → ℕ → ℕ → State → ℕ → Type 0
GivesIn sc p vs j n u a = (w : State) → ((x : Word) → own x ≡ true → w.words x ≡ u.words x) → ((i : ℕ) → j ≤ i → i < j + n → w.words (register i) ≡ u.words (register i)) → word sc p vs w ≡ goes_on a w

-- after the loads of an expression in the state from: the source has the value a, and p gives it
pub record Loaded (sc : Scope) (p : PlainExpr) (vs : Vars) (j n : ℕ) (from : State) (a : ℕ) (s : State) (b : Unit {0}) (u : State) : Type 0 where
  pub alike : Alike own s u
  pub own_kept : (x : Word) → own x ≡ true → u.words x ≡ from.words x
  pub below : (i : ℕ) → i < j → u.words (register i) ≡ from.words (register i)
  pub gives : GivesIn sc p vs j n u a

gives_path : (a b : ℕ) (w : State) → a ≡ b → (let o : Outcome ℕ = goes_on a w in o) ≡ goes_on b w
gives_path a b w e = ap (λ n. let o : Outcome ℕ = goes_on n w in o) e

two_gives : (f : ℕ → ℕ → ℕ) (p q : Run ℕ) (w : State) (x y : ℕ) → p w ≡ goes_on x w → q w ≡ goes_on y w → and_then (p w) (λ x t. and_then (q t) (λ y t. goes_on (f x y) t)) ≡ goes_on (f x y) w
two_gives f p q w x y e g = ap (λ o. and_then o (λ x t. and_then (q t) (λ y t. goes_on (f x y) t))) e ∙ ap (λ o. and_then o (λ y t. goes_on (f x y) t)) g

module _ (arrays : List Array) (number : Word → ℕ) (wides : List Word) (fault : Option Upset) (names : Declares arrays number wides) (extents : Word → PlainExprs) (inspected : ℕ → Bool) where
  abbrev pub source_scope : Scope
  source_scope = record { arrays = arrays; wides = []; fault = fault }

  abbrev pub tc : Scope
  tc = scope_of arrays wides fault

  -- two operands, from left to right
  two_like : (f : ℕ → ℕ → ℕ) (p q : Run ℕ) (pa pb pe : PlainExpr) (xs ys : List PlainStmt) (vs : Vars) (j m n : ℕ) (s u : State) → j + (m + n) < 2 ^ 64 →
      ((w : State) → word tc pe vs w ≡ and_then (word tc pa vs w) (λ x t. and_then (word tc pb vs t) (λ y t. goes_on (f x y) t))) →
      Like inspected (Loaded tc pa vs j m u) (p s) (exec_all tc (stmts_of xs) vs u) →
      ((t v : State) → Alike own t v → Like inspected (Loaded tc pb vs (j + m) n v) (q t) (exec_all tc (stmts_of ys) vs v)) →
      Like inspected (Loaded tc pe vs j (m + n) u) (and_then (p s) (λ x t. and_then (q t) (λ y t. goes_on (f x y) t))) (exec_all tc (stmts_of (xs ++ ys)) vs u)
  two_like f p q pa pb pe xs ys vs j m n s u fits is h k =
      subst (λ o. Like inspected (Loaded tc pe vs j (m + n) u) (and_then (p s) (λ x t. and_then (q t) (λ y t. goes_on (f x y) t))) o) (sym (exec_join tc xs ys vs u))
      (like_then inspected (Loaded tc pa vs j m u) (Loaded tc pe vs j (m + n) u) (p s) (exec_all tc (stmts_of xs) vs u) (λ x t. and_then (q t) (λ y t. goes_on (f x y) t)) (λ b v. exec_all tc (stmts_of ys) vs v) h
      (λ x t b v g. like_first inspected (Loaded tc pb vs (j + m) n v) (Loaded tc pe vs j (m + n) u) (q t) (exec_all tc (stmts_of ys) vs v) (f x) (k t v g.alike)
      (λ y t' c v' r. record {
        alike = r.alike;
        own_kept = λ z o. r.own_kept z o ∙ g.own_kept z o;
        below = λ i l. r.below i (omega arith) ∙ g.below i l;
        gives = λ w same regs. is w ∙ two_gives f (word tc pa vs) (word tc pb vs) w x y
            (g.gives w (λ z o. same z o ∙ r.own_kept z o) (λ i a l. regs i a (omega arith) ∙ r.below i l))
            (r.gives w same (λ i a l. regs i (omega arith) (omega arith)));
      })))

  cell_like : (x : Word) (at : PlainExprs) (j : ℕ) (vs : Vars) (s u : State) → IsRead arrays number extents inspected x at vs → AllMayLoop vs → j + (indices_in at + 1) < 2 ^ 64 → Alike own s u →
      Like inspected (Loaded tc (var (register (j + indices_in at))) vs j (indices_in at + 1) u) (word source_scope (cell x at) vs s) (exec_all tc (stmts_of (read_text number extents x at j)) vs u)
  cell_like x at j vs s u d o fits h =
      like_weaker inspected (OneLoaded arrays number wides fault names inspected j (j + indices_in at) u) (Loaded tc (var (register (j + indices_in at))) vs j (indices_in at + 1) u) (word source_scope (cell x at) vs s) (exec_all tc (stmts_of (read_text number extents x at j)) vs u)
      (read_like arrays number wides fault names inspected x at extents j vs s u d o fits h)
      (λ n t m v r. record {
        alike = r.alike;
        own_kept = r.own_kept;
        below = r.below;
        gives = λ w same regs. gives_path _ _ w (regs (j + indices_in at) (omega arith) (omega arith) ∙ r.word);
      })

  cast_like : (a : PlainExpr) (j : ℕ) (vs : Vars) (s u : State) (b : Bool) → is_signed (kind vs a) ≡ b → AllMayLoop vs → (is_signed (kind vs a) ≡ true → IsSilent a) → Alike own s u →
      Like inspected (Loaded tc (pure a j) vs j (reads_in a) u) (word source_scope a vs s) (exec_all tc (stmts_of (loads_text number extents a j)) vs u) →
      Like inspected (Loaded tc (cast (pure a j)) vs j (reads_in a) u) (word source_scope (cast a) vs s) (exec_all tc (stmts_of (loads_text number extents a j)) vs u)
  cast_like a j vs s u true e o silent h k =
      let p = silent_pure number extents a j (silent e) in
      rw (e, p.1) (record {
        alike = h;
        own_kept = λ x o. refl;
        below = λ i l. refl;
        gives = λ w same regs. ap (λ q. word tc (cast q) vs w) p.0 ∙ ap (λ (b : Bool). (if b then give (as_word (signed a vs)) else word tc a vs) w) e;
      })
  cast_like a j vs s u false e o silent h k =
      rw e (like_weaker inspected (Loaded tc (pure a j) vs j (reads_in a) u) (Loaded tc (cast (pure a j)) vs j (reads_in a) u) (word source_scope a vs s) (exec_all tc (stmts_of (loads_text number extents a j)) vs u) k (λ n t m v r. record {
        alike = r.alike;
        own_kept = r.own_kept;
        below = r.below;
        gives = λ w same regs. ap (λ (b : Bool). (if b then give (as_word (signed (pure a j) vs)) else word tc (pure a j) vs) w) (ap is_signed (kind_pure vs a j o) ∙ e) ∙ r.gives w same regs;
      }))

  pub loads_like : (e : PlainExpr) (j : ℕ) (vs : Vars) (s u : State) → IsData arrays number extents inspected e vs → AllMayLoop vs → j + reads_in e < 2 ^ 64 → Alike own s u →
      Like inspected (Loaded tc (pure e j) vs j (reads_in e) u) (word source_scope e vs s) (exec_all tc (stmts_of (loads_text number extents e j)) vs u)
  loads_like (lit n) j vs s u d o fits h = record { alike = h; own_kept = λ x o. refl; below = λ i l. refl; gives = λ w same regs. refl }
  loads_like (var x) j vs s u d o fits h = record { alike = h; own_kept = λ x o. refl; below = λ i l. refl; gives = λ w same regs. gives_path _ _ w (same x d ∙ sym (h.words x d)) }
  loads_like (cell x at) j vs s u d o fits h = cell_like x at j vs s u d o fits h
  loads_like (un op a) j vs s u d o fits h =
      like_first inspected (Loaded tc (pure a j) vs j (reads_in a) u) (Loaded tc (un op (pure a j)) vs j (reads_in a) u) (word source_scope a vs s) (exec_all tc (stmts_of (loads_text number extents a j)) vs u) (word_un op) (loads_like a j vs s u d o fits h)
      (λ n t m v r. record { alike = r.alike; own_kept = r.own_kept; below = r.below; gives = λ w same regs. ap (λ q. and_then q (λ x t. goes_on (word_un op x) t)) (r.gives w same regs) })
  loads_like (bin op a b) j vs s u d o fits h =
      two_like (word_bin op) (word source_scope a vs) (word source_scope b vs) (pure a j) (pure b (j + reads_in a)) (bin op (pure a j) (pure b (j + reads_in a))) (loads_text number extents a j) (loads_text number extents b (j + reads_in a)) vs j (reads_in a) (reads_in b) s u fits (λ w. refl)
      (loads_like a j vs s u d.0 o (omega arith) h) (λ t v k. loads_like b (j + reads_in a) vs t v d.1 o (omega arith) k)
  loads_like (cast a) j vs s u d o fits h = cast_like a j vs s u (is_signed (kind vs a)) refl o d.1 h (loads_like a j vs s u d.0 o fits h)
  loads_like (test rel a b) j vs s u d o fits h =
      two_like (λ x y. as_bit (word_holds rel x y)) (word source_scope a vs) (word source_scope b vs) (pure a j) (pure b (j + reads_in a)) (test rel (pure a j) (pure b (j + reads_in a))) (loads_text number extents a j) (loads_text number extents b (j + reads_in a)) vs j (reads_in a) (reads_in b) s u fits (λ w. refl)
      (loads_like a j vs s u d.0 o (omega arith) h) (λ t v k. loads_like b (j + reads_in a) vs t v d.1 o (omega arith) k)
  loads_like (umin a b) j vs s u d o fits h =
      two_like (λ x y. if nat_lt x y then x else y) (word source_scope a vs) (word source_scope b vs) (pure a j) (pure b (j + reads_in a)) (umin (pure a j) (pure b (j + reads_in a))) (loads_text number extents a j) (loads_text number extents b (j + reads_in a)) vs j (reads_in a) (reads_in b) s u fits (λ w. refl)
      (loads_like a j vs s u d.0 o (omega arith) h) (λ t v k. loads_like b (j + reads_in a) vs t v d.1 o (omega arith) k)
  loads_like (umax a b) j vs s u d o fits h =
      two_like (λ x y. if nat_lt x y then y else x) (word source_scope a vs) (word source_scope b vs) (pure a j) (pure b (j + reads_in a)) (umax (pure a j) (pure b (j + reads_in a))) (loads_text number extents a j) (loads_text number extents b (j + reads_in a)) vs j (reads_in a) (reads_in b) s u fits (λ w. refl)
      (loads_like a j vs s u d.0 o (omega arith) h) (λ t v k. loads_like b (j + reads_in a) vs t v d.1 o (omega arith) k)
  loads_like (least a b) j vs s u d o fits h = absurd d
  loads_like (greatest a b) j vs s u d o fits h = absurd d
  loads_like (widen a) j vs s u d o fits h = absurd d
  loads_like (big high low) j vs s u d o fits h = absurd d
