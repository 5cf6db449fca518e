-- Where the run of a source goes on to its end, whatever fault there is, every access of its list lies within its extents, if the index cells of the list do so to their words.
use Rattle.std.proofs.Common.{◌≡◌, ℕ, ◌+◌, Bool, true, false, ◌&&◌, cond, List, [], ◌∷◌, ◌++◌, map, flat_map, refl, sym, ap, ◌∙◌, subst, ℤ, pos, int_le, int_lt, Option}
use Rattle.std.proofs.lemmas.Bool.{and_parts, lt-ltb}
use Rattle.std.specs.List.{AllByRecursion}
use Rattle.c_tree.specs.Plain.{Word, PlainExpr, lit, var, cell, un, bin, cast, test, umin, umax, least, greatest, widen, big, PlainExprs, no_exprs, more_exprs, PlainStmt, loop, choice, assign, table, begin, check, verdict, PlainStmts, no_stmts, more_stmts}
use Rattle.c_tree.specs.Kinds.{is_signed}
use Rattle.c_tree.specs.Values.{Vars, signed, as_word, kind, loop_values}
use Rattle.c_tree.specs.Arrays.{Array, Memory, is_within, size_of}
use Rattle.c_tree.specs.Accesses.{Access}
use Rattle.c_tree.specs.Fault.{Upset}
use Rattle.c_tree.specs.Instances.{Tagged, word_at, untagged, sites, sites_all}
use Rattle.c_tree.specs.Run.{State, Outcome, goes_on, ends, outside, Run, ◌>>◌, and_then, give, Scope, loads, stores, within, word, coordinates, assigned, set_word, turn, over, exec, exec_all}
use Rattle.c_tree.specs.declared.expr.BinOp.{BinOp}
use Rattle.instrumentation.specs.Body.{full}
use Rattle.instrumentation.specs.Subscripts.{is_cell}
use Rattle.instrumentation.proofs.Subscripts.{cell_or_not, not_by_cell}
use Rattle.instrumentation_laws.specs.RegularSources.{IsArray, AreRegular, IsSilent, IsTarget}
use Rattle.instrumentation_laws.specs.Sources.{IsSubscript, AreSubscripts, IsData, IsSource, AreSource}
use Rattle.instrumentation_laws.specs.AccessList.{signed_all, cell_access, cell_write, tag, tests_hold}
use Rattle.instrumentation_laws.specs.IndexedList.{coordinates_at, index_reads, read_access, all_reads, tagged, tagged_all}
use Rattle.instrumentation_laws.specs.Indices.{IndicesLie, ReadIndicesLie, StmtIndicesLie, AllIndicesLie}
use Rattle.instrumentation_laws.specs.Setting.{scope_of}
use Rattle.instrumentation_laws.proofs.Outcomes.{IfGoing, going_then, going_weaker}
use Rattle.instrumentation_laws.proofs.IndexCells.{plain_kind}
use Rattle.instrumentation_laws.proofs.RegularLists.{no_index_reads, signed_coordinates}
use Rattle.instrumentation_laws.proofs.Now.{and_three, below_is, not_negative}
use Rattle.instrumentation_laws.proofs.Steps.{regular_at, cell_run, signed_first, cell_first, cell_assigned, var_assigned, all_hold_is}

-- where a run goes on, this holds
abbrev Where : {A : Type 0} → Type 0 → Outcome A → Type 0
Where p o = IfGoing (Unit {0}) (λ a t. p) o

where_then : {A B : Type 0} (p q : Type 0) (o : Outcome A) (f : A → Run B) → Where p o → ((a : A) (t : State) → p → Where q (f a t)) → Where q (and_then o f)
where_then p q o f h g = going_then (Unit {0}) (λ a t. p) (λ b t. q) o f h g

where_weaker : {A : Type 0} (p q : Type 0) (o : Outcome A) → Where p o → (p → q) → Where q o
where_weaker p q o h g = going_weaker (Unit {0}) (λ a t. p) (λ a t. q) o h (λ a t k. g k)

where_known : {A : Type 0} (p : Type 0) (o : Outcome A) → p → Where p o
where_known p (goes_on a t) h = h
where_known p (ends e t) h = tt

where_if : {A : Type 0} (b : Bool) (p q : Run A) (s : State) (h : Type 0) → (b ≡ true → Where h (p s)) → (b ≡ false → Where h (q s)) → Where h (cond b p q s)
where_if true p q s h f g = f refl
where_if false p q s h f g = g refl

-- ---- coordinates

parts_of : (z c : ℤ) (cs zs : List ℤ) → is_within (c ∷ cs) (z ∷ zs) ≡ true → (int_le (pos 0) c ≡ true) × (int_lt c z ≡ true) × (is_within cs zs ≡ true)
parts_of z c cs zs h =
    let p = and_parts (int_le (pos 0) c && int_lt c z) (is_within cs zs) h in
    let q = and_parts (int_le (pos 0) c) (int_lt c z) p.0 in
    (q.0, q.1, p.1)

module _ (arrays : List Array) (number : Word → ℕ) (texts : Word → PlainExprs) (inspected : ℕ → Bool) (m : Memory) (fault : Option Upset) (extents : ℕ → List ℤ) (sizes : (x : Word) (a : IsArray arrays number x) → a.array.1.extents ≡ extents a.array.0) where
  abbrev sc : Scope
  sc = scope_of arrays [] fault

  abbrev Lies : Access → Type 0
  Lies x = is_within x.cell (extents x.array) ≡ true

  abbrev AllLie : List Access → Type 0
  AllLie list = AllByRecursion Lies list

  abbrev pub AllTaggedLie : List Tagged → Type 0
  AllTaggedLie list = AllByRecursion (λ (t : Tagged). Lies t.access) list

  lie_join : (xs ys : List Access) → AllLie xs → AllLie ys → AllLie (xs ++ ys)
  lie_join [] ys h g = g
  lie_join (x ∷ xs) ys h g = (h.0, lie_join xs ys h.1 g)

  tagged_join : (xs ys : List Tagged) → AllTaggedLie xs → AllTaggedLie ys → AllTaggedLie (xs ++ ys)
  tagged_join [] ys h g = g
  tagged_join (x ∷ xs) ys h g = (h.0, tagged_join xs ys h.1 g)

  tagged_map : (k : ℕ) (vs : Vars) (xs : List Access) → AllLie xs → AllTaggedLie (map (tag k vs) xs)
  tagged_map k vs [] h = tt
  tagged_map k vs (x ∷ xs) h = (h.0, tagged_map k vs xs h.1)

  pub untagged_lie : (xs : List Tagged) → AllTaggedLie xs → AllLie (untagged xs)
  untagged_lie [] h = tt
  untagged_lie (x ∷ xs) h = (h.0, untagged_lie xs h.1)

  -- ---- expressions

  silent_lie : (e : PlainExpr) (vs : Vars) → IsSilent e → AllLie (all_reads arrays m number e vs)
  silent_lie (lit n) vs h = tt
  silent_lie (var x) vs h = tt
  silent_lie (cell x at) vs h = absurd h
  silent_lie (un op a) vs h = silent_lie a vs h
  silent_lie (bin op a b) vs h = lie_join (all_reads arrays m number a vs) (all_reads arrays m number b vs) (silent_lie a vs h.0) (silent_lie b vs h.1)
  silent_lie (cast a) vs h = silent_lie a vs h
  silent_lie (test rel a b) vs h = lie_join (all_reads arrays m number a vs) (all_reads arrays m number b vs) (silent_lie a vs h.0) (silent_lie b vs h.1)
  silent_lie (umin a b) vs h = lie_join (all_reads arrays m number a vs) (all_reads arrays m number b vs) (silent_lie a vs h.0) (silent_lie b vs h.1)
  silent_lie (umax a b) vs h = lie_join (all_reads arrays m number a vs) (all_reads arrays m number b vs) (silent_lie a vs h.0) (silent_lie b vs h.1)
  silent_lie (least a b) vs h = tt
  silent_lie (greatest a b) vs h = tt
  silent_lie (widen a) vs h = tt
  silent_lie (big high low) vs h = tt

  -- an access that is made lies within its array
  access_lies : {A : Type 0} (x : Word) (at : PlainExprs) (vs : Vars) (w : Bool) (a : IsArray arrays number x) (go : ℕ → List ℤ → Run A) (s : State) → Where (Lies (cell_access number x at vs w)) (within a.array (signed_all at vs) go s)
  access_lies x at vs w a go s =
      where_if (is_within (signed_all at vs) a.array.1.extents) (go a.array.0 (signed_all at vs)) (λ t. ends (outside a.array.0) t) s (Lies (cell_access number x at vs w))
      (λ e. where_known _ (go a.array.0 (signed_all at vs) s) (ap (λ n. is_within (signed_all at vs) (extents n)) a.numbered ∙ ap (is_within (signed_all at vs)) (sym (sizes x a)) ∙ e))
      (λ e. tt)

  -- ---- subscripts

  -- where these coordinates lie within extents, so do those of the list, if the words of its index cells do
  abbrev Within : PlainExprs → Vars → List ℤ → Type 0
  Within at vs cs = (zs : List ℤ) → IndicesLie arrays m at zs vs → is_within cs zs ≡ true → is_within (coordinates_at arrays m at vs) zs ≡ true

  abbrev Read : PlainExprs → Vars → List ℤ → State → Type 0
  Read at vs cs t = AllLie (index_reads number at vs) × Within at vs cs

  regular_read : (at : PlainExprs) (vs : Vars) (s : State) → AreRegular at vs → IfGoing (Unit {0}) (Read at vs) (coordinates sc at vs s)
  regular_read at vs s h =
      subst (IfGoing (Unit {0}) (Read at vs)) (sym (regular_at sc at vs s h))
      (subst AllLie (sym (no_index_reads number at vs h)) tt, λ zs i w. ap (λ cs. is_within cs zs) (signed_coordinates arrays m at vs h) ∙ w)

  abbrev ReadStep : Type 0 → PlainExpr → ℤ → PlainExprs → Vars → State → PlainExpr → Type 0
  ReadStep i n z es vs s e = IsSubscript arrays number i e n z vs → IfGoing (Unit {0}) (Read (more_exprs e es) vs) (coordinates sc (more_exprs e es) vs s)

  cell_within : (p : Word) (at es : PlainExprs) (vs : Vars) (n : ℕ) (cs : List ℤ) → Within es vs cs → Within (more_exprs (cell p at) es) vs (pos n ∷ cs)
  cell_within p at es vs n cs h [] i w = w
  cell_within p at es vs n cs h (z ∷ zs) i w =
      let k : ℕ = word_at arrays m p (signed_all at vs) in
      and_three (int_le (pos 0) (pos k)) (int_lt (pos k) z) (is_within (coordinates_at arrays m es vs) zs)
      (not_negative k) (below_is k z (lt-ltb k (size_of z) i.0)) (h zs i.1 (parts_of z (pos n) cs zs w).2)

  plain_within : (e : PlainExpr) (es : PlainExprs) (vs : Vars) (cs : List ℤ) → is_cell e ≡ false → Within es vs cs → Within (more_exprs e es) vs (signed e vs ∷ cs)
  plain_within e es vs cs other h zs i w =
      ap (λ c. is_within (c ∷ coordinates_at arrays m es vs) zs) (not_by_cell e (λ p at. pos (word_at arrays m p (signed_all at vs))) (signed e vs) other) ∙ chosen zs i w
    where
      chosen : (zs : List ℤ) → IndicesLie arrays m (more_exprs e es) zs vs → is_within (signed e vs ∷ cs) zs ≡ true → is_within (signed e vs ∷ coordinates_at arrays m es vs) zs ≡ true
      chosen [] i w = w
      chosen (z ∷ zs) i w =
          let p = parts_of z (signed e vs) cs zs w in
          and_three (int_le (pos 0) (signed e vs)) (int_lt (signed e vs) z) (is_within (coordinates_at arrays m es vs) zs) p.0 p.1 (h zs i.1 p.2)

  coordinates_lie : (i : Type 0) (at ns : PlainExprs) (zs : List ℤ) (vs : Vars) (s : State) → AreSubscripts arrays number i at ns zs vs → IfGoing (Unit {0}) (Read at vs) (coordinates sc at vs s)
  coordinates_lie i no_exprs ns zs vs s d = (tt, λ zs i w. w)
  coordinates_lie i (more_exprs e es) no_exprs zs vs s d = regular_read (more_exprs e es) vs s d
  coordinates_lie i (more_exprs e es) (more_exprs n ns) [] vs s d = regular_read (more_exprs e es) vs s d
  coordinates_lie i (more_exprs e es) (more_exprs n ns) (z ∷ zs) vs s d =
      cell_or_not (ReadStep i n z es vs s)
      (λ p at sub. subst (IfGoing (Unit {0}) (Read (more_exprs (cell p at) es) vs)) (sym (cell_first sc p at es vs s sub.0.array sub.0.named sub.1))
      (going_then (Unit {0}) (λ v t. Lies (cell_access number p at vs false)) (Read (more_exprs (cell p at) es) vs) (within sub.0.array (signed_all at vs) (loads sc) s) (λ v t. and_then (coordinates sc es vs t) (λ cs t. goes_on (pos v ∷ cs) t))
      (access_lies p at vs false sub.0 (loads sc) s)
      (λ v t l. going_then (Unit {0}) (Read es vs) (Read (more_exprs (cell p at) es) vs) (coordinates sc es vs t) (λ cs t. goes_on (pos v ∷ cs) t) (coordinates_lie i es ns zs vs t d.1)
      (λ cs w r. ((l, r.0), cell_within p at es vs v cs r.1)))))
      (λ e other sub. subst (IfGoing (Unit {0}) (Read (more_exprs e es) vs)) (sym (signed_first sc e es vs s (plain_kind arrays number i e n z vs other sub)))
      (going_then (Unit {0}) (Read es vs) (Read (more_exprs e es) vs) (coordinates sc es vs s) (λ cs t. goes_on (signed e vs ∷ cs) t) (coordinates_lie i es ns zs vs s d.1)
      (λ cs w r. (subst AllLie (sym (not_by_cell e (λ p at. cell_access number p at vs false ∷ index_reads number es vs) (index_reads number es vs) other)) r.0, plain_within e es vs cs other r.1))))
      e d.0

  -- the cell that such coordinates name
  read_lies : (x : Word) (at : PlainExprs) (vs : Vars) (a : IsArray arrays number x) (cs : List ℤ) (s : State) → Read at vs cs s → IndicesLie arrays m at (extents (number x)) vs →
      Where (AllLie (index_reads number at vs ++ read_access arrays m number x at vs ∷ [])) (within a.array cs (loads sc) s)
  read_lies x at vs a cs s r i =
      where_if (is_within cs a.array.1.extents) (loads sc a.array.0 cs) (λ t. ends (outside a.array.0) t) s (AllLie (index_reads number at vs ++ read_access arrays m number x at vs ∷ []))
      (λ e. where_known _ (loads sc a.array.0 cs s)
      (lie_join (index_reads number at vs) (read_access arrays m number x at vs ∷ []) r.0
      (r.1 (extents (number x)) i (ap (λ n. is_within cs (extents n)) a.numbered ∙ ap (is_within cs) (sym (sizes x a)) ∙ e), tt)))
      (λ e. tt)

  two_lie : {A : Type 0} (a b : PlainExpr) (vs : Vars) (f : ℕ → ℕ → A) (s : State) → Where (AllLie (all_reads arrays m number a vs)) (word sc a vs s) → ((t : State) → Where (AllLie (all_reads arrays m number b vs)) (word sc b vs t)) →
      Where (AllLie (all_reads arrays m number a vs ++ all_reads arrays m number b vs)) (and_then (word sc a vs s) (λ x t. and_then (word sc b vs t) (λ y. give (f x y))))
  two_lie a b vs f s h g =
      where_then (AllLie (all_reads arrays m number a vs)) (AllLie (all_reads arrays m number a vs ++ all_reads arrays m number b vs)) (word sc a vs s) (λ x t. and_then (word sc b vs t) (λ y. give (f x y))) h
      (λ x t k. where_then (AllLie (all_reads arrays m number b vs)) (AllLie (all_reads arrays m number a vs ++ all_reads arrays m number b vs)) (word sc b vs t) (λ y. give (f x y)) (g t) (λ y u j. lie_join (all_reads arrays m number a vs) (all_reads arrays m number b vs) k j))

  reads_lie : (e : PlainExpr) (vs : Vars) (s : State) → IsData arrays number texts inspected e vs → ReadIndicesLie arrays m number extents e vs → Where (AllLie (all_reads arrays m number e vs)) (word sc e vs s)
  reads_lie (lit n) vs s h l = tt
  reads_lie (var x) vs s h l = tt
  reads_lie (cell x at) vs s h l =
      rw (cell_run sc x at vs s h.array.array h.array.named)
      (going_then (Unit {0}) (Read at vs) (λ v t. AllLie (all_reads arrays m number (cell x at) vs)) (coordinates sc at vs s) (λ cs. within h.array.array cs (loads sc))
      (coordinates_lie (inspected h.array.array.0 ≡ true) at (texts x) h.array.array.1.extents vs s h.at_each) (λ cs t r. read_lies x at vs h.array cs t r l))
  reads_lie (un op a) vs s h l = where_then (AllLie (all_reads arrays m number a vs)) (AllLie (all_reads arrays m number a vs)) (word sc a vs s) _ (reads_lie a vs s h l) (λ x t k. k)
  reads_lie (bin op a b) vs s h l = two_lie a b vs _ s (reads_lie a vs s h.0 l.0) (λ t. reads_lie b vs t h.1 l.1)
  reads_lie (cast a) vs s h l =
      where_if (is_signed (kind vs a)) (give (as_word (signed a vs))) (word sc a vs) s (AllLie (all_reads arrays m number a vs)) (λ e. silent_lie a vs (h.1 e)) (λ e. reads_lie a vs s h.0 l)
  reads_lie (test rel a b) vs s h l = two_lie a b vs _ s (reads_lie a vs s h.0 l.0) (λ t. reads_lie b vs t h.1 l.1)
  reads_lie (umin a b) vs s h l = two_lie a b vs _ s (reads_lie a vs s h.0 l.0) (λ t. reads_lie b vs t h.1 l.1)
  reads_lie (umax a b) vs s h l = two_lie a b vs _ s (reads_lie a vs s h.0 l.0) (λ t. reads_lie b vs t h.1 l.1)
  reads_lie (least a b) vs s h l = absurd h
  reads_lie (greatest a b) vs s h l = absurd h
  reads_lie (widen a) vs s h l = absurd h
  reads_lie (big high low) vs s h l = absurd h

  -- ---- statements

  assigned_lie : (t : PlainExpr) (op : Option BinOp) (e : PlainExpr) (vs : Vars) (s : State) → IsTarget arrays number t vs → IsData arrays number texts inspected (full t op e) vs → ReadIndicesLie arrays m number extents (full t op e) vs →
      Where (AllLie (all_reads arrays m number (full t op e) vs ++ cell_write number t vs)) (assigned sc t op e vs s)
  assigned_lie (var x) op e vs s t d i =
      rw (var_assigned arrays fault x op e vs s)
      (where_then (AllLie (all_reads arrays m number (full (var x) op e) vs)) (AllLie (all_reads arrays m number (full (var x) op e) vs ++ [])) (word sc (full (var x) op e) vs s) (set_word x) (reads_lie (full (var x) op e) vs s d i)
      (λ v w k. lie_join (all_reads arrays m number (full (var x) op e) vs) [] k tt))
  assigned_lie (cell x at) op e vs s t d i =
      let reads : List Access = all_reads arrays m number (full (cell x at) op e) vs in
      let own : Access = cell_access number x at vs true in
      rw (cell_assigned arrays number [] fault x at op e vs s t.0 t.1)
      (where_then (AllLie reads) (AllLie (reads ++ own ∷ [])) (word sc (full (cell x at) op e) vs s) (λ n. within t.0.array (signed_all at vs) (λ k c. stores sc k c n)) (reads_lie (full (cell x at) op e) vs s d i)
      (λ n w k. joined (within t.0.array (signed_all at vs) (λ k c. stores sc k c n) w) k (access_lies x at vs true t.0 (λ k c. stores sc k c n) w)))
    where
      joined : (o : Outcome (Unit {0})) → AllLie (all_reads arrays m number (full (cell x at) op e) vs) → Where (Lies (cell_access number x at vs true)) o →
          Where (AllLie (all_reads arrays m number (full (cell x at) op e) vs ++ cell_access number x at vs true ∷ [])) o
      joined (goes_on a u) k l = lie_join (all_reads arrays m number (full (cell x at) op e) vs) (cell_access number x at vs true ∷ []) k (l, tt)
      joined (ends f u) k l = tt
  assigned_lie (lit n) op e vs s t d i = absurd t
  assigned_lie (un o a) op e vs s t d i = absurd t
  assigned_lie (bin o a b) op e vs s t d i = absurd t
  assigned_lie (cast a) op e vs s t d i = absurd t
  assigned_lie (test rel a b) op e vs s t d i = absurd t
  assigned_lie (umin a b) op e vs s t d i = absurd t
  assigned_lie (umax a b) op e vs s t d i = absurd t
  assigned_lie (least a b) op e vs s t d i = absurd t
  assigned_lie (greatest a b) op e vs s t d i = absurd t
  assigned_lie (widen a) op e vs s t d i = absurd t
  assigned_lie (big high low) op e vs s t d i = absurd t

  tag_lie : (k : ℕ) (vs : Vars) (xs : List Access) (o : Outcome (Unit {0})) → Where (AllLie xs) o → Where (AllTaggedLie (map (tag k vs) xs)) o
  tag_lie k vs xs (goes_on a t) h = tagged_map k vs xs h
  tag_lie k vs xs (ends e t) h = tt

  over_lie : (f : ℤ → Run (Unit {0})) (list : ℤ → List Tagged) (Q : ℤ → Type 0) → ((v : ℤ) (s : State) → Q v → Where (AllTaggedLie (list v)) (f v s)) → (vals : List ℤ) (s : State) → AllByRecursion Q vals → Where (AllTaggedLie (flat_map list vals)) (over f vals s)
  over_lie f list Q h [] s q = tt
  over_lie f list Q h (v ∷ vals) s q =
      where_then (AllTaggedLie (list v)) (AllTaggedLie (list v ++ flat_map list vals)) (f v s) (λ u. over f vals) (h v s q.0)
      (λ u t k. where_weaker (AllTaggedLie (flat_map list vals)) (AllTaggedLie (list v ++ flat_map list vals)) (over f vals t) (over_lie f list Q h vals t q.1) (λ j. tagged_join (list v) (flat_map list vals) k j))

  choice_lie : (b : Bool) (xs ys : List Tagged) (p q : Run (Unit {0})) (s : State) → (b ≡ true → Where (AllTaggedLie xs) (p s)) → (b ≡ false → Where (AllTaggedLie ys) (q s)) → Where (AllTaggedLie (cond b xs ys)) (cond b p q s)
  choice_lie true xs ys p q s h g = h refl
  choice_lie false xs ys p q s h g = g refl

  mutual
    one_lies : (p : PlainStmt) (k : ℕ) (vs : Vars) (s : State) → IsSource arrays number texts inspected p vs → StmtIndicesLie arrays m number extents p vs → Where (AllTaggedLie (tagged arrays m number k p vs)) (exec sc p vs s)
    one_lies (loop x lo rel hi body) k vs s h l =
        over_lie (λ v. turn >> exec_all sc body ((x, v) ∷ vs)) (λ v. tagged_all arrays m number k body ((x, v) ∷ vs)) (λ v. AllIndicesLie arrays m number extents body ((x, v) ∷ vs))
        (λ v t l. where_then (Unit {0}) (AllTaggedLie (tagged_all arrays m number k body ((x, v) ∷ vs))) (turn t) (λ u. exec_all sc body ((x, v) ∷ vs)) (where_known (Unit {0}) (turn t) tt) (λ u w n. all_lie body k ((x, v) ∷ vs) w (h.1 v) l))
        (loop_values (signed lo vs) rel (signed hi vs)) s l
    one_lies (choice ts first other) k vs s h l =
        rw (all_hold_is sc ts vs s h.0)
        (choice_lie (tests_hold ts vs) (tagged_all arrays m number k first vs) (tagged_all arrays m number (k + sites_all first) other vs) (exec_all sc first vs) (exec_all sc other vs) s (λ e. all_lie first k vs s h.1 (l.0 e)) (λ e. all_lie other (k + sites_all first) vs s h.2 (l.1 e)))
    one_lies (assign t op e) k vs s h l =
        tag_lie k vs (all_reads arrays m number (full t op e) vs ++ cell_write number t vs) (assigned sc t op e vs s) (assigned_lie t op e vs s h.0 h.1 l)
    one_lies (table x len) k vs s h l = absurd h
    one_lies begin k vs s h l = absurd h
    one_lies (check x extent n) k vs s h l = absurd h
    one_lies verdict k vs s h l = absurd h

    pub all_lie : (ps : PlainStmts) (k : ℕ) (vs : Vars) (s : State) → AreSource arrays number texts inspected ps vs → AllIndicesLie arrays m number extents ps vs → Where (AllTaggedLie (tagged_all arrays m number k ps vs)) (exec_all sc ps vs s)
    all_lie no_stmts k vs s h l = tt
    all_lie (more_stmts p ps) k vs s h l =
        where_then (AllTaggedLie (tagged arrays m number k p vs)) (AllTaggedLie (tagged arrays m number k p vs ++ tagged_all arrays m number (k + sites p) ps vs)) (exec sc p vs s) (λ u. exec_all sc ps vs) (one_lies p k vs s h.0 l.0)
        (λ u t j. where_weaker (AllTaggedLie (tagged_all arrays m number (k + sites p) ps vs)) (AllTaggedLie (tagged arrays m number k p vs ++ tagged_all arrays m number (k + sites p) ps vs)) (exec_all sc ps vs t)
        (all_lie ps (k + sites p) vs t h.1 l.1) (λ i. tagged_join (tagged arrays m number k p vs) (tagged_all arrays m number (k + sites p) ps vs) j i))
