-- The subscripts of a read by loaded words, and their checks, in any state.
use Rattle.std.proofs.Common.{◌≡◌, ◌⊎◌, inl, inr, ℕ, ◌+◌, ◌<◌, Bool, true, false, ◌&&◌, if◌then◌else◌, List, [], ◌∷◌, refl, sym, ap, ◌∙◌, subst, arith, Option, nat_lt, ℤ, pos, negsuc, int_lt, int_le}
use Rattle.std.proofs.lemmas.Bool.Decides.{nat_tests}
use Rattle.c_tree.specs.Plain.{Word, PlainExpr, var, PlainExprs, no_exprs, more_exprs, PlainStmt, check}
use Rattle.c_tree.specs.Trees.{stmts_of}
use Rattle.c_tree.specs.Values.{Vars, signed, as_word}
use Rattle.c_tree.specs.Arrays.{Array, Memory, is_within, size_of}
use Rattle.c_tree.specs.Accesses.{Within}
use Rattle.c_tree.specs.Instances.{word_at}
use Rattle.c_tree.specs.Fault.{Upset}
use Rattle.c_tree.specs.Run.{State, Outcome, goes_on, ends, index, and_then, done, end_as, Run, Scope, coordinates, exec_all}
use Rattle.instrumentation.specs.Names.{register}
use Rattle.instrumentation_laws.specs.OwnNames.{AllMayLoop}
use Rattle.instrumentation_laws.specs.AccessList.{signed_all}
use Rattle.instrumentation_laws.specs.Pieces.{Declares}
use Rattle.instrumentation_laws.specs.Setting.{scope_of}
use Rattle.instrumentation.specs.Subscripts.{by_cell}
use Rattle.instrumentation.specs.Body.{index_checks, by_words}
use Rattle.instrumentation_laws.specs.Sources.{IsSubscript, AreSubscripts}
use Rattle.instrumentation_laws.specs.IndexedList.{coordinate_at, coordinates_at}
use Rattle.instrumentation.proofs.Subscripts.{cell_or_not, not_by_cell}
use Rattle.instrumentation_laws.proofs.IndexCells.{no_cell, plain_kind, no_indices}
use Rattle.instrumentation.proofs.RegularReads.{no_checks, same_words}
use Rattle.cell_laws.proofs.Within.{within_is}
use Rattle.instrumentation_laws.specs.RegularSources.{AreRegular}
use Rattle.instrumentation_laws.proofs.Steps.{regular_at}
use Rattle.instrumentation_laws.proofs.RegularLists.{signed_coordinates}
use Rattle.instrumentation_laws.proofs.ByIndex.{plain_coordinates, word_coordinates, second_false, third_false, not_below}

-- the coordinates that the loaded words give
abbrev pub now : PlainExprs → ℕ → Vars → State → List ℤ
now no_exprs j vs w = []
now (more_exprs e es) j vs w = by_cell e (λ p at. pos (w.words (register j)) ∷ now es (j + 1) vs w) (signed e vs ∷ now es j vs w)

-- the checks go on, and then the coordinates lie within the extents if the source's own do; or one ends the run
abbrev pub ChecksGo : ℕ → List ℤ → List ℤ → List ℤ → State → Outcome (Unit {0}) → Type 0
ChecksGo a zs own cs w o = ((o ≡ goes_on (tt {0}) w) × (Within zs own → is_within cs zs ≡ true)) ⊎ ((o ≡ ends (index a) w) × (is_within cs zs ≡ false))

pub and_three : (x y z : Bool) → x ≡ true → y ≡ true → z ≡ true → x && y && z ≡ true
and_three true true z e g h = h
and_three true false z e g h = g
and_three false y z e g h = e

pub below_is : (n : ℕ) (z : ℤ) → nat_lt n (size_of z) ≡ true → int_lt (pos n) z ≡ true
below_is n (pos k) e = e
below_is n (negsuc k) e = absurd (grind (arith, nat_tests))

pub not_negative : (n : ℕ) → int_le (pos 0) (pos n) ≡ true
not_negative n = grind (arith, nat_tests)

inside_is : (z c : ℤ) → ((k : ℕ) × (c ≡ pos k) × (k < size_of z)) → (int_le (pos 0) c ≡ true) × (int_lt c z ≡ true)
inside_is (pos n) c h = rw (h.1) (not_negative h.0, grind (arith, nat_tests))
inside_is (negsuc n) c h = absurd (let f : h.0 < 0 = h.2 in omega arith)

module _ (arrays : List Array) (number : Word → ℕ) (wides : List Word) (fault : Option Upset) (names : Declares arrays number wides) (inspected : ℕ → Bool) (m : Memory) where
  abbrev tc : Scope
  tc = scope_of arrays wides fault

  -- ---- without index cells

  pub regular_now : (at : PlainExprs) (j : ℕ) (vs : Vars) (w : State) → AreRegular at vs → now at j vs w ≡ signed_all at vs
  regular_now no_exprs j vs w h = refl
  regular_now (more_exprs e es) j vs w h =
      not_by_cell e (λ p at. pos (w.words (register j)) ∷ now es (j + 1) vs w) (signed e vs ∷ now es j vs w) (no_cell e vs h.0) ∙ ap (λ cs. signed e vs ∷ cs) (regular_now es j vs w h.1)

  regular_gives : (at : PlainExprs) (j : ℕ) (vs : Vars) (w : State) → AreRegular at vs → coordinates tc (by_words at j) vs w ≡ goes_on (now at j vs w) w
  regular_gives at j vs w h = ap (λ es. coordinates tc es vs w) (same_words at j (no_indices at vs h)) ∙ regular_at tc at vs w h ∙ ap (λ cs. goes_on cs w) (sym (regular_now at j vs w h))

  regular_checks : (a : ℕ) (at ns : PlainExprs) (zs : List ℤ) (j : ℕ) (vs : Vars) (w : State) → AreRegular at vs →
      ChecksGo a zs (coordinates_at arrays m at vs) (now at j vs w) w (exec_all tc (stmts_of (index_checks a at ns j)) vs w)
  regular_checks a at ns zs j vs w h =
      subst (λ (l : List PlainStmt). ChecksGo a zs (coordinates_at arrays m at vs) (now at j vs w) w (exec_all tc (stmts_of l) vs w)) (sym (no_checks a at ns j (no_indices at vs h)))
      (inl (refl, λ inside. within_is zs (now at j vs w) (subst (λ cs. Within zs cs) (signed_coordinates arrays m at vs h ∙ sym (regular_now at j vs w h)) inside)))

  abbrev GivesStep : Type 0 → PlainExprs → ℕ → Vars → State → PlainExpr → PlainExpr → ℤ → Type 0
  GivesStep i es j vs w n e z = IsSubscript arrays number i e n z vs → coordinates tc (by_words (more_exprs e es) j) vs w ≡ goes_on (now (more_exprs e es) j vs w) w

  pub now_gives : (i : Type 0) (at ns : PlainExprs) (zs : List ℤ) (j : ℕ) (vs : Vars) (w : State) → AreSubscripts arrays number i at ns zs vs → AllMayLoop vs → coordinates tc (by_words at j) vs w ≡ goes_on (now at j vs w) w
  now_gives i no_exprs ns zs j vs w h o = refl
  now_gives i (more_exprs e es) no_exprs zs j vs w h o = regular_gives (more_exprs e es) j vs w h
  now_gives i (more_exprs e es) (more_exprs n ns) [] j vs w h o = regular_gives (more_exprs e es) j vs w h
  now_gives i (more_exprs e es) (more_exprs n ns) (z ∷ zs) j vs w h o =
      cell_or_not (λ e. GivesStep i es j vs w n e z)
      (λ p at sub. word_coordinates arrays number wides fault names inspected tc j (by_words es (j + 1)) vs w o ∙ ap (λ q. and_then q (λ cs t. goes_on (pos (w.words (register j)) ∷ cs) t)) (now_gives i es ns zs (j + 1) vs w h.1 o))
      (λ e other sub.
      let words : by_words (more_exprs e es) j ≡ more_exprs e (by_words es j) = not_by_cell e (λ x at. more_exprs (var (register j)) (by_words es (j + 1))) (more_exprs e (by_words es j)) other in
      let coordinates_are : now (more_exprs e es) j vs w ≡ signed e vs ∷ now es j vs w = not_by_cell e (λ p at. pos (w.words (register j)) ∷ now es (j + 1) vs w) (signed e vs ∷ now es j vs w) other in
      rw (words, coordinates_are)
      (plain_coordinates arrays number wides fault names inspected tc e (by_words es j) vs w (plain_kind arrays number i e n z vs other sub) ∙ ap (λ q. and_then q (λ cs t. goes_on (signed e vs ∷ cs) t)) (now_gives i es ns zs j vs w h.1 o)))
      e h.0

  -- one check, and those after it
  check_one : (a k n : ℕ) (z own : ℤ) (zs owns cs : List ℤ) (w : State) (rest : Run (Unit {0})) (b : Bool) → nat_lt n k ≡ b → k ≡ size_of z → ChecksGo a zs owns cs w (rest w) →
      ChecksGo a (z ∷ zs) (own ∷ owns) (pos n ∷ cs) w (and_then ((if b then done else end_as (index a)) w) (λ u. rest))
  check_one a k n z own zs owns cs w rest true e g (inl h) = inl (h.0, λ inside. and_three (int_le (pos 0) (pos n)) (int_lt (pos n) z) (is_within cs zs) (not_negative n) (below_is n z (ap (nat_lt n) (sym g) ∙ e)) (h.1 inside.1))
  check_one a k n z own zs owns cs w rest true e g (inr h) = inr (h.0, third_false (int_le (pos 0) (pos n)) (int_lt (pos n) z) (is_within cs zs) h.1)
  check_one a k n z own zs owns cs w rest false e g h = inr (refl, second_false (int_le (pos 0) (pos n)) (int_lt (pos n) z) (is_within cs zs) (not_below n z (ap (nat_lt n) (sym g) ∙ e)))

  abbrev ChecksStep : Type 0 → ℕ → PlainExprs → PlainExprs → List ℤ → ℕ → Vars → State → PlainExpr → ℤ → PlainExpr → Type 0
  ChecksStep i a es ns zs j vs w n z e = IsSubscript arrays number i e n z vs →
      ChecksGo a (z ∷ zs) (coordinates_at arrays m (more_exprs e es) vs) (now (more_exprs e es) j vs w) w (exec_all tc (stmts_of (index_checks a (more_exprs e es) (more_exprs n ns) j)) vs w)

  pub checks_now : (i : Type 0) (a : ℕ) (at ns : PlainExprs) (zs : List ℤ) (j : ℕ) (vs : Vars) (w : State) → AreSubscripts arrays number i at ns zs vs →
      ChecksGo a zs (coordinates_at arrays m at vs) (now at j vs w) w (exec_all tc (stmts_of (index_checks a at ns j)) vs w)
  checks_now i a no_exprs ns [] j vs w h = inl (refl, λ inside. refl)
  checks_now i a no_exprs ns (z ∷ zs) j vs w h = inl (refl, λ inside. absurd inside)
  checks_now i a (more_exprs e es) no_exprs zs j vs w h = regular_checks a (more_exprs e es) no_exprs zs j vs w h
  checks_now i a (more_exprs e es) (more_exprs n ns) [] j vs w h = regular_checks a (more_exprs e es) (more_exprs n ns) [] j vs w h
  checks_now i a (more_exprs e es) (more_exprs n ns) (z ∷ zs) j vs w h =
      cell_or_not (ChecksStep i a es ns zs j vs w n z)
      (λ p at sub. check_one a (as_word (signed n vs)) (w.words (register j)) z (pos (word_at arrays m p (signed_all at vs))) zs (coordinates_at arrays m es vs) (now es (j + 1) vs w) w (exec_all tc (stmts_of (index_checks a es ns (j + 1))) vs)
      (nat_lt (w.words (register j)) (as_word (signed n vs))) refl sub.2 (checks_now i a es ns zs (j + 1) vs w h.1))
      (λ e other sub.
      let tests : index_checks a (more_exprs e es) (more_exprs n ns) j ≡ index_checks a es ns j = not_by_cell e (λ x at. check (register j) n a ∷ index_checks a es ns (j + 1)) (index_checks a es ns j) other in
      let coordinates_are : now (more_exprs e es) j vs w ≡ signed e vs ∷ now es j vs w = not_by_cell e (λ p at. pos (w.words (register j)) ∷ now es (j + 1) vs w) (signed e vs ∷ now es j vs w) other in
      let owns : coordinate_at arrays m e vs ≡ signed e vs = not_by_cell e (λ p at. pos (word_at arrays m p (signed_all at vs))) (signed e vs) other in
      rw (tests, coordinates_are, owns) (plain_more e w (exec_all tc (stmts_of (index_checks a es ns j)) vs w) (checks_now i a es ns zs j vs w h.1)))
      e h.0
    where
      plain_more : (e : PlainExpr) (w : State) (o : Outcome (Unit {0})) → ChecksGo a zs (coordinates_at arrays m es vs) (now es j vs w) w o → ChecksGo a (z ∷ zs) (signed e vs ∷ coordinates_at arrays m es vs) (signed e vs ∷ now es j vs w) w o
      plain_more e w o (inl h) = inl (h.0, λ inside. let k = inside_is z (signed e vs) inside.0 in and_three (int_le (pos 0) (signed e vs)) (int_lt (signed e vs) z) (is_within (now es j vs w) zs) k.0 k.1 (h.1 inside.1))
      plain_more e w o (inr h) = inr (h.0, third_false (int_le (pos 0) (signed e vs)) (int_lt (signed e vs) z) (is_within (now es j vs w) zs) h.1)
