-- A read of a cell by index cells: the source reads them and then the cell, the text loads them, checks them and then reads the cell.
use Rattle.std.proofs.Common.{◌≡◌, ◌⊎◌, inl, inr, ℕ, ◌+◌, ◌%◌, ◌^◌, ◌<◌, ◌≤◌, Bool, true, false, cond, ◌&&◌, if◌then◌else◌, List, [], ◌∷◌, ◌++◌, refl, sym, ap, ◌∙◌, subst, arith, Option, Some, nat_lt, ℤ, pos, negsuc, int_lt, int_le}
use Rattle.std.specs.Prelude.{bytes_eq, slice_index}
use Rattle.std.specs.List.{list_any}
use Rattle.c_tree.specs.Plain.{Word, PlainExpr, var, cell, widen, PlainExprs, no_exprs, more_exprs, PlainStmt, assign, check}
use Rattle.c_tree.specs.Trees.{stmts_of}
use Rattle.c_tree.specs.Kinds.{is_word}
use Rattle.c_tree.specs.Values.{Vars, signed, as_word, kind}
use Rattle.c_tree.specs.Arrays.{Array, is_within, size_of}
use Rattle.c_tree.specs.Fault.{Upset}
use Rattle.c_tree.specs.Run.{State, Outcome, goes_on, ends, index, outside, Run, ◌>>=◌, and_then, give, done, end_as, Scope, loads, within, by_array, put, word, coordinates, first_word, set_word, exec, exec_all}
use Rattle.c_tree.specs.Run as run
use Rattle.c_tree.specs.declared.expr.BinOp.TheVariants.{Add}
use Rattle.instrumentation.specs.Names.{register, use_total}
use Rattle.instrumentation.specs.Body.{load_text, index_loads, index_checks, by_words, read_text}
use Rattle.instrumentation.specs.Subscripts.{is_cell, indices_in}
use Rattle.instrumentation_laws.specs.OwnNames.{own, AllMayLoop}
use Rattle.instrumentation_laws.specs.RegularSources.{IsArray, AreRegular}
use Rattle.instrumentation_laws.specs.Sources.{IsSubscript, AreSubscripts, IsRead}
use Rattle.instrumentation_laws.specs.AccessList.{signed_all}
use Rattle.instrumentation_laws.specs.Pieces.{Declares}
use Rattle.instrumentation_laws.specs.Setting.{scope_of}
use Rattle.instrumentation_laws.proofs.Names.{same_word, not_in, register_may_not, register_not_own, register_apart, apart_as'}
use Rattle.instrumentation_laws.proofs.Steps.{assoc, both_same, exec_join, exec_one, regular_at, set_is, add_use, loaded}
use Rattle.run_laws.proofs.Alike.{Alike}
use Rattle.instrumentation.proofs.Subscripts.{cell_or_not, not_by_cell}
use Rattle.instrumentation.proofs.RegularReads.{no_loads, no_checks, same_words}
use Rattle.instrumentation_laws.proofs.IndexCells.{plain_kind, no_indices}
use Rattle.instrumentation_laws.proofs.Likeness.{Like, like_then, like_first, like_second, like_weaker, SameValue, within_load}

-- ---- Bool

pub second_false : (x y z : Bool) → y ≡ false → x && y && z ≡ false
second_false true y z e = ap (λ y. y && z) e
second_false false y z e = refl

pub third_false : (x y z : Bool) → z ≡ false → x && y && z ≡ false
third_false true true z e = e
third_false true false z e = refl
third_false false y z e = refl

pub not_below : (n : ℕ) (z : ℤ) → nat_lt n (size_of z) ≡ false → int_lt (pos n) z ≡ false
not_below n (pos k) e = e
not_below n (negsuc k) e = refl

-- ---- single loads

-- where its subscripts give these coordinates, a cell is read there
pub cell_given : (arrays : List Array) (number : Word → ℕ) (wides : List Word) (fault : Option Upset) (x : Word) (at : PlainExprs) (vs : Vars) (s : State) (cs : List ℤ) → (a : IsArray arrays number x) →
    coordinates (scope_of arrays wides fault) at vs s ≡ goes_on cs s →
    word (scope_of arrays wides fault) (cell x at) vs s ≡ within a.array cs (loads (scope_of arrays wides fault)) s
cell_given arrays number wides fault x at vs s cs a h =
    let sc : Scope = scope_of arrays wides fault in
    ap (λ o. by_array o (λ a. coordinates sc at vs >>= (λ cs. within a cs (loads sc))) (first_word sc at vs >>= (λ i. run.reads (λ s. slice_index (s.tables x) i))) s) a.named ∙
    ap (λ o. and_then o (λ cs. within a.array cs (loads sc))) h

-- the checks of the words go on, or one ends the run, and then the coordinates lie outside and the array is inspected
abbrev pub Checked : Type 0 → ℕ → List ℤ → List ℤ → State → Outcome (Unit {0}) → Type 0
Checked i a zs cs w o = (o ≡ goes_on (tt {0}) w) ⊎ ((o ≡ ends (index a) w) × (is_within cs zs ≡ false) × i)

module _ (arrays : List Array) (number : Word → ℕ) (wides : List Word) (fault : Option Upset) (names : Declares arrays number wides) (inspected : ℕ → Bool) where
  abbrev ss : Scope
  ss = scope_of arrays [] fault

  abbrev tc : Scope
  tc = scope_of arrays wides fault

  add_loaded : (a j n : ℕ) (vs : Vars) (t : State) → AllMayLoop vs → list_any (bytes_eq (use_total a)) wides ≡ true →
      exec_all tc (stmts_of (assign (var (use_total a)) (Some Add) (widen (var (register j))) ∷ [])) vs (record t { words = put t.words (register j) n }) ≡ goes_on tt (loaded a j n t)
  add_loaded a j n vs t o small =
      exec_one tc (assign (var (use_total a)) (Some Add) (widen (var (register j)))) vs (record t { words = put t.words (register j) n }) ∙
      add_use tc a j vs (record t { words = put t.words (register j) n }) o small ∙
      ap (λ k. goes_on tt (record t { words = put t.words (register j) n; wides = put t.wides (use_total a) ((t.wides (use_total a) + k) % 2 ^ 128) }))
      (ap (λ b. cond b n (t.words (register j))) (same_word (register j)))

  pub load_given : (x : Word) (at : PlainExprs) (j : ℕ) (vs : Vars) (s : State) (cs : List ℤ) → (a : IsArray arrays number x) → AllMayLoop vs → coordinates tc at vs s ≡ goes_on cs s →
      exec_all tc (stmts_of (load_text (number x) x at j)) vs s ≡ and_then (within a.array cs (loads tc) s) (λ n t. goes_on tt (loaded a.array.0 j n t))
  load_given x at j vs s cs a o h =
      let add : ℕ → List PlainStmt = λ k. assign (var (use_total k)) (Some Add) (widen (var (register j))) ∷ [] in
      let rest : Unit {0} → Run (Unit {0}) = λ u t. exec_all tc (stmts_of (add (number x))) vs t in
      ap (λ q. and_then q rest) (set_is tc (register j) (cell x at) vs s (names.registers j) ∙ ap (λ q. and_then q (set_word (register j))) (cell_given arrays number wides fault x at vs s cs a h)) ∙
      assoc (within a.array cs (loads tc) s) (set_word (register j)) rest ∙
      both_same (within a.array cs (loads tc) s) (λ n t. rest tt (record t { words = put t.words (register j) n })) (λ n t. goes_on tt (loaded a.array.0 j n t))
      (λ n t. subst (λ k. exec_all tc (stmts_of (add k)) vs (record t { words = put t.words (register j) n }) ≡ goes_on tt (loaded a.array.0 j n t)) (sym a.numbered)
      (add_loaded a.array.0 j n vs t o (names.used x a)))

  -- after a read into the word k, which left the words below j
  pub record OneLoaded (j k : ℕ) (from : State) (n : ℕ) (s : State) (b : Unit {0}) (u : State) : Type 0 where
    pub alike : Alike own s u
    pub own_kept : (x : Word) → own x ≡ true → u.words x ≡ from.words x
    pub below : (i : ℕ) → i < j → u.words (register i) ≡ from.words (register i)
    pub word : u.words (register k) ≡ n

  pub load_like : (x : Word) (at : PlainExprs) (j : ℕ) (vs : Vars) (s u : State) (cs : List ℤ) → (a : IsArray arrays number x) → AllMayLoop vs → j + 1 < 2 ^ 64 → Alike own s u →
      coordinates tc at vs u ≡ goes_on cs u →
      Like inspected (OneLoaded j j u) (within a.array cs (loads ss) s) (exec_all tc (stmts_of (load_text (number x) x at j)) vs u)
  load_like x at j vs s u cs a o fits h g =
      rw (load_given x at j vs u cs a o g)
      (like_second inspected (SameValue u) (OneLoaded j j u) (within a.array cs (loads ss) s) (within a.array cs (loads tc) u) (λ n t. tt) (λ n t. loaded a.array.0 j n t)
      (within_load inspected tc a.array cs s u h)
      (λ n t m v r. record {
        alike = record {
          memory = r.1.memory;
          accesses = r.1.accesses;
          begun = r.1.begun;
          words = λ y e. r.1.words y e ∙ sym (ap (λ b. cond b m (v.words y)) (apart_as' own (register j) y (register_not_own j) e));
        };
        own_kept = λ y e. ap (λ b. cond b m (v.words y)) (apart_as' own (register j) y (register_not_own j) e) ∙ ap (λ (w : Word → ℕ). w y) r.2;
        below = λ i l. ap (λ b. cond b m (v.words (register i))) (register_apart j i (omega arith) (omega arith) (omega arith)) ∙ ap (λ (w : Word → ℕ). w (register i)) r.2;
        word = ap (λ b. cond b m (v.words (register j))) (same_word (register j)) ∙ sym r.0;
      }))

  -- ---- all index cells of a read

  abbrev pub SameWords : ℕ → ℕ → State → State → Type 0
  SameWords j n u w = (i : ℕ) → j ≤ i → i < j + n → w.words (register i) ≡ u.words (register i)

  -- after the loads of the index cells of the subscripts at, which the source read as the coordinates cs
  pub record Indexed (i : Type 0) (at ns : PlainExprs) (zs : List ℤ) (a : ℕ) (vs : Vars) (j : ℕ) (from : State) (cs : List ℤ) (s : State) (b : Unit {0}) (u : State) : Type 0 where
    pub alike : Alike own s u
    pub own_kept : (x : Word) → own x ≡ true → u.words x ≡ from.words x
    pub below : (i : ℕ) → i < j → u.words (register i) ≡ from.words (register i)
    pub gives : (w : State) → SameWords j (indices_in at) u w → coordinates tc (by_words at j) vs w ≡ goes_on cs w
    pub checks : (w : State) → SameWords j (indices_in at) u w → Checked i a zs cs w (exec_all tc (stmts_of (index_checks a at ns j)) vs w)

  -- one check, and those after it
  check_one : (i : Type 0) (a j m k : ℕ) (z : ℤ) (zs cs : List ℤ) (w : State) (rest : Run (Unit {0})) (b : Bool) → nat_lt m k ≡ b → k ≡ size_of z → i → Checked i a zs cs w (rest w) →
      Checked i a (z ∷ zs) (pos m ∷ cs) w (and_then ((if b then done else end_as (index a)) w) (λ u. rest))
  check_one i a j m k z zs cs w rest true e g okay (inl h) = inl h
  check_one i a j m k z zs cs w rest true e g okay (inr h) = inr (h.0, third_false (int_le (pos 0) (pos m)) (int_lt (pos m) z) (is_within cs zs) h.1, h.2)
  check_one i a j m k z zs cs w rest false e g okay h = inr (refl, second_false (int_le (pos 0) (pos m)) (int_lt (pos m) z) (is_within cs zs) (not_below m z (ap (nat_lt m) (sym g) ∙ e)), okay)

  check_is : (i : Type 0) (a j m : ℕ) (n : PlainExpr) (z : ℤ) (zs cs : List ℤ) (vs : Vars) (w : State) (rest : List PlainStmt) → w.words (register j) ≡ m → as_word (signed n vs) ≡ size_of z → i →
      Checked i a zs cs w (exec_all tc (stmts_of rest) vs w) → Checked i a (z ∷ zs) (pos m ∷ cs) w (exec_all tc (stmts_of (check (register j) n a ∷ rest)) vs w)
  check_is i a j m n z zs cs vs w rest e g okay h =
      subst (λ k. Checked i a (z ∷ zs) (pos m ∷ cs) w (and_then ((if nat_lt k (as_word (signed n vs)) then done else end_as (index a)) w) (λ u. exec_all tc (stmts_of rest) vs))) (sym e)
      (check_one i a j m (as_word (signed n vs)) z zs cs w (exec_all tc (stmts_of rest) vs) (nat_lt m (as_word (signed n vs))) refl g okay h)

  pub plain_coordinates : (sc : Scope) (e : PlainExpr) (es : PlainExprs) (vs : Vars) (s : State) → is_word (kind vs e) ≡ false →
      coordinates sc (more_exprs e es) vs s ≡ and_then (coordinates sc es vs s) (λ cs t. goes_on (signed e vs ∷ cs) t)
  plain_coordinates sc e es vs s h = rw h refl

  pub word_coordinates : (sc : Scope) (j : ℕ) (es : PlainExprs) (vs : Vars) (s : State) → AllMayLoop vs →
      coordinates sc (more_exprs (var (register j)) es) vs s ≡ and_then (coordinates sc es vs s) (λ cs t. goes_on (pos (s.words (register j)) ∷ cs) t)
  word_coordinates sc j es vs s o = rw (not_in vs (register j) o (register_may_not j)) refl

  Rest : Type 0 → PlainExprs → PlainExprs → List ℤ → ℕ → Vars → Type 0
  Rest i es ns zs a vs = (j : ℕ) (s u : State) → j + indices_in es < 2 ^ 64 → Alike own s u → Like inspected (Indexed i es ns zs a vs j u) (coordinates ss es vs s) (exec_all tc (stmts_of (index_loads number es j)) vs u)

  abbrev Step : Type 0 → PlainExprs → PlainExpr → PlainExprs → ℤ → List ℤ → ℕ → ℕ → Vars → State → State → PlainExpr → Type 0
  Step i es n ns z zs a j vs s u e = IsSubscript arrays number i e n z vs → j + indices_in (more_exprs e es) < 2 ^ 64 →
      Like inspected (Indexed i (more_exprs e es) (more_exprs n ns) (z ∷ zs) a vs j u) (coordinates ss (more_exprs e es) vs s) (exec_all tc (stmts_of (index_loads number (more_exprs e es) j)) vs u)

  plain_step : (i : Type 0) (es : PlainExprs) (n : PlainExpr) (ns : PlainExprs) (z : ℤ) (zs : List ℤ) (a j : ℕ) (vs : Vars) (s u : State) → Rest i es ns zs a vs → AllMayLoop vs → Alike own s u →
      (e : PlainExpr) → is_cell e ≡ false → Step i es n ns z zs a j vs s u e
  unfolding Rest
  plain_step i es n ns z zs a j vs s u rest o h e other sub fits =
      let k : is_word (kind vs e) ≡ false = plain_kind arrays number i e n z vs other sub in
      let many : indices_in (more_exprs e es) ≡ indices_in es = not_by_cell e (λ x at. 1 + indices_in es) (indices_in es) other in
      let texts : index_loads number (more_exprs e es) j ≡ index_loads number es j = not_by_cell e (λ x at. load_text (number x) x at j ++ index_loads number es (j + 1)) (index_loads number es j) other in
      let words : by_words (more_exprs e es) j ≡ more_exprs e (by_words es j) = not_by_cell e (λ x at. more_exprs (var (register j)) (by_words es (j + 1))) (more_exprs e (by_words es j)) other in
      let tests : index_checks a (more_exprs e es) (more_exprs n ns) j ≡ index_checks a es ns j = not_by_cell e (λ x at. check (register j) n a ∷ index_checks a es ns (j + 1)) (index_checks a es ns j) other in
      rw (plain_coordinates ss e es vs s k, texts)
      (like_first inspected (Indexed i es ns zs a vs j u) (Indexed i (more_exprs e es) (more_exprs n ns) (z ∷ zs) a vs j u) (coordinates ss es vs s) (exec_all tc (stmts_of (index_loads number es j)) vs u) (λ cs. signed e vs ∷ cs)
      (rest j s u (omega arith) h)
      (λ cs t b v r. record {
        alike = r.alike;
        own_kept = r.own_kept;
        below = r.below;
        gives = λ w same. ap (λ es. coordinates tc es vs w) words ∙ plain_coordinates tc e (by_words es j) vs w k ∙ ap (λ o. and_then o (λ cs t. goes_on (signed e vs ∷ cs) t)) (r.gives w (λ i l m. same i l (omega arith)));
        checks = λ w same. subst (λ (l : List PlainStmt). Checked i a (z ∷ zs) (signed e vs ∷ cs) w (exec_all tc (stmts_of l) vs w)) (sym tests)
            (weaker (signed e vs) cs w (exec_all tc (stmts_of (index_checks a es ns j)) vs w) (r.checks w (λ i l m. same i l (omega arith))));
      }))
    where
      weaker : (c : ℤ) (cs : List ℤ) (w : State) (o : Outcome (Unit {0})) → Checked i a zs cs w o → Checked i a (z ∷ zs) (c ∷ cs) w o
      weaker c cs w o (inl h) = inl h
      weaker c cs w o (inr h) = inr (h.0, third_false (int_le (pos 0) c) (int_lt c z) (is_within cs zs) h.1, h.2)

  index_step : (i : Type 0) (es : PlainExprs) (n : PlainExpr) (ns : PlainExprs) (z : ℤ) (zs : List ℤ) (a j : ℕ) (vs : Vars) (s u : State) → Rest i es ns zs a vs → AllMayLoop vs → Alike own s u →
      (p : Word) (at : PlainExprs) → Step i es n ns z zs a j vs s u (cell p at)
  unfolding Rest
  index_step i es n ns z zs a j vs s u rest o h p at sub fits =
      let there : List ℤ = signed_all at vs in
      let more : ℕ → Run (List ℤ) = λ m t. and_then (coordinates ss es vs t) (λ cs t. goes_on (pos m ∷ cs) t) in
      rw (
        ap (λ q. and_then (and_then q (λ m. give (pos m))) (λ c t. and_then (coordinates ss es vs t) (λ cs t. goes_on (c ∷ cs) t))) (cell_given arrays number [] fault p at vs s there sub.0 (regular_at ss at vs s sub.1)) ∙
            assoc (within sub.0.array there (loads ss) s) (λ m. give (pos m)) (λ c t. and_then (coordinates ss es vs t) (λ cs t. goes_on (c ∷ cs) t)),
        exec_join tc (load_text (number p) p at j) (index_loads number es (j + 1)) vs u,
      )
      (like_then inspected (OneLoaded j j u) (Indexed i (more_exprs (cell p at) es) (more_exprs n ns) (z ∷ zs) a vs j u) (within sub.0.array there (loads ss) s) (exec_all tc (stmts_of (load_text (number p) p at j)) vs u) more (λ b v. exec_all tc (stmts_of (index_loads number es (j + 1))) vs v)
      (load_like p at j vs s u there sub.0 o (omega arith) h (regular_at tc at vs u sub.1))
      (λ m t b v g. like_first inspected (Indexed i es ns zs a vs (j + 1) v) (Indexed i (more_exprs (cell p at) es) (more_exprs n ns) (z ∷ zs) a vs j u) (coordinates ss es vs t) (exec_all tc (stmts_of (index_loads number es (j + 1))) vs v) (λ cs. pos m ∷ cs)
      (rest (j + 1) t v (omega arith) g.alike)
      (λ cs t' c v' r. record {
        alike = r.alike;
        own_kept = λ y e. r.own_kept y e ∙ g.own_kept y e;
        below = λ i l. r.below i (omega arith) ∙ g.below i l;
        gives = λ w same. word_coordinates tc j (by_words es (j + 1)) vs w o ∙
            ap (λ k. and_then (coordinates tc (by_words es (j + 1)) vs w) (λ cs t. goes_on (pos k ∷ cs) t)) (same j (omega arith) (omega arith) ∙ r.below j (omega arith) ∙ g.word) ∙
            ap (λ q. and_then q (λ cs t. goes_on (pos m ∷ cs) t)) (r.gives w (λ i l k. same i (omega arith) (omega arith)));
        checks = λ w same. check_is i a j m n z zs cs vs w (index_checks a es ns (j + 1)) (same j (omega arith) (omega arith) ∙ r.below j (omega arith) ∙ g.word) sub.2 sub.3
            (r.checks w (λ i l k. same i (omega arith) (omega arith)));
      })))

  -- no subscript is a cell: nothing is loaded and nothing checked
  regular_indexed : (i : Type 0) (at ns : PlainExprs) (zs : List ℤ) (a j : ℕ) (vs : Vars) (s u : State) → AreRegular at vs → Alike own s u →
      Like inspected (Indexed i at ns zs a vs j u) (coordinates ss at vs s) (exec_all tc (stmts_of (index_loads number at j)) vs u)
  regular_indexed i at ns zs a j vs s u regular h =
      let none : indices_in at ≡ 0 = no_indices at vs regular in
      rw (regular_at ss at vs s regular, no_loads number at j none) (record {
        alike = h;
        own_kept = λ x e. refl;
        below = λ i l. refl;
        gives = λ w same. ap (λ es. coordinates tc es vs w) (same_words at j none) ∙ regular_at tc at vs w regular;
        checks = λ w same. subst (λ (l : List PlainStmt). Checked i a zs (signed_all at vs) w (exec_all tc (stmts_of l) vs w)) (sym (no_checks a at ns j none)) (inl refl);
      })

  pub indexed_like : (i : Type 0) (at ns : PlainExprs) (zs : List ℤ) (a j : ℕ) (vs : Vars) (s u : State) → AreSubscripts arrays number i at ns zs vs → AllMayLoop vs → j + indices_in at < 2 ^ 64 → Alike own s u →
      Like inspected (Indexed i at ns zs a vs j u) (coordinates ss at vs s) (exec_all tc (stmts_of (index_loads number at j)) vs u)
  unfolding Rest
  indexed_like i no_exprs ns zs a j vs s u subs o fits h = record { alike = h; own_kept = λ x e. refl; below = λ i l. refl; gives = λ w same. refl; checks = λ w same. inl refl }
  indexed_like i (more_exprs e es) no_exprs zs a j vs s u subs o fits h = regular_indexed i (more_exprs e es) no_exprs zs a j vs s u subs h
  indexed_like i (more_exprs e es) (more_exprs n ns) [] a j vs s u subs o fits h = regular_indexed i (more_exprs e es) (more_exprs n ns) [] a j vs s u subs h
  indexed_like i (more_exprs e es) (more_exprs n ns) (z ∷ zs) a j vs s u subs o fits h =
      cell_or_not (Step i es n ns z zs a j vs s u)
      (index_step i es n ns z zs a j vs s u (λ j t v fits h. indexed_like i es ns zs a j vs t v subs.1 o fits h) o h)
      (plain_step i es n ns z zs a j vs s u (λ j t v fits h. indexed_like i es ns zs a j vs t v subs.1 o fits h) o h) e subs.0 fits

  -- ---- the read itself

  -- the checks, then the load
  checked_like : (x : Word) (at ns : PlainExprs) (j : ℕ) (vs : Vars) (s u : State) (cs : List ℤ) → (a : IsArray arrays number x) → AllMayLoop vs → j + indices_in at + 1 < 2 ^ 64 → Alike own s u →
      coordinates tc (by_words at j) vs u ≡ goes_on cs u → (o : Outcome (Unit {0})) → Checked (inspected a.array.0 ≡ true) (number x) a.array.1.extents cs u o →
      Like inspected (OneLoaded (j + indices_in at) (j + indices_in at) u) (within a.array cs (loads ss) s) (and_then o (λ b t. exec_all tc (stmts_of (load_text (number x) x (by_words at j) (j + indices_in at))) vs t))
  checked_like x at ns j vs s u cs a o fits h g q (inl e) =
      rw e (load_like x (by_words at j) (j + indices_in at) vs s u cs a o fits h g)
  checked_like x at ns j vs s u cs a o fits h g q (inr e) =
      rw (e.0, ap (λ b. (if b then loads ss a.array.0 cs else (λ s. ends (outside a.array.0) s)) s) e.1)
      ((a.array.0, refl, inr (ap (λ n. index n) a.numbered, e.2)), h)

  pub read_like : (x : Word) (at : PlainExprs) (extents : Word → PlainExprs) (j : ℕ) (vs : Vars) (s u : State) → IsRead arrays number extents inspected x at vs → AllMayLoop vs → j + (indices_in at + 1) < 2 ^ 64 → Alike own s u →
      Like inspected (OneLoaded j (j + indices_in at) u) (word ss (cell x at) vs s) (exec_all tc (stmts_of (read_text number extents x at j)) vs u)
  read_like x at extents j vs s u d o fits h =
      let a : IsArray arrays number x = d.array in
      rw (
        ap (λ o. by_array o (λ a. coordinates ss at vs >>= (λ cs. within a cs (loads ss))) (first_word ss at vs >>= (λ i. run.reads (λ s. slice_index (s.tables x) i))) s) a.named,
        exec_join tc (index_loads number at j) (index_checks (number x) at (extents x) j ++ load_text (number x) x (by_words at j) (j + indices_in at)) vs u,
      )
      (like_then inspected (Indexed (inspected a.array.0 ≡ true) at (extents x) a.array.1.extents (number x) vs j u) (OneLoaded j (j + indices_in at) u) (coordinates ss at vs s) (exec_all tc (stmts_of (index_loads number at j)) vs u) (λ cs. within a.array cs (loads ss))
      (λ b v. exec_all tc (stmts_of (index_checks (number x) at (extents x) j ++ load_text (number x) x (by_words at j) (j + indices_in at))) vs v)
      (indexed_like (inspected a.array.0 ≡ true) at (extents x) a.array.1.extents (number x) j vs s u d.at_each o (omega arith) h)
      (λ cs t b v r. rw (exec_join tc (index_checks (number x) at (extents x) j) (load_text (number x) x (by_words at j) (j + indices_in at)) vs v)
      (like_weaker inspected (OneLoaded (j + indices_in at) (j + indices_in at) v) (OneLoaded j (j + indices_in at) u) (within a.array cs (loads ss) t) (and_then (exec_all tc (stmts_of (index_checks (number x) at (extents x) j)) vs v) (λ b t. exec_all tc (stmts_of (load_text (number x) x (by_words at j) (j + indices_in at))) vs t))
      (checked_like x at (extents x) j vs t v cs a o (omega arith) r.alike (r.gives v (λ i l m. refl)) (exec_all tc (stmts_of (index_checks (number x) at (extents x) j)) vs v) (r.checks v (λ i l m. refl)))
      (λ n t b w g. record {
        alike = g.alike;
        own_kept = λ y e. g.own_kept y e ∙ r.own_kept y e;
        below = λ i l. g.below i (omega arith) ∙ r.below i l;
        word = g.word;
      }))))
