-- The accesses of a source with index cells by signed values are those of its instances.
use Rattle.std.proofs.Common.{◌≡◌, ℕ, ◌+◌, Bool, true, false, List, [], ◌∷◌, ◌++◌, map, flat_map, refl, sym, ap, ◌∙◌, append_assoc, ℤ, pos, Option, Some, None, inl, inr}
use Rattle.std.specs.List.{AllByRecursion, list_all}
use Rattle.std.proofs.lemmas.List.{append-nil}
use Rattle.std.proofs.lemmas.Grind.{flat_map-append}
use Rattle.c_tree.specs.Plain.{Word, PlainExpr, lit, var, cell, un, bin, cast, test, umin, umax, least, greatest, widen, big, PlainExprs, no_exprs, more_exprs, PlainStmt, loop, choice, assign, table, begin, check, verdict, PlainStmts, no_stmts, more_stmts}
use Rattle.c_tree.specs.Values.{Vars, signed, exact, loop_values}
use Rattle.c_tree.specs.Arrays.{Array, Memory}
use Rattle.c_tree.specs.Accesses.{Access}
use Rattle.c_tree.specs.Instances.{Instance, Tagged, word_at, sites, sites_all, instances, instances_all, accesses_of, access_at, access_of, subscripts, old_cell, reads_of, reads_of_all, tagged_of, test_is_true}
use Rattle.c_tree.specs.declared.expr.BinOp.{BinOp}
use Rattle.run_laws.specs.Sources.{IsAffine, AreAffine}
use Rattle.run_laws.proofs.Follows as affine
use Rattle.instrumentation.specs.Body.{full}
use Rattle.instrumentation.specs.Subscripts.{is_cell}
use Rattle.instrumentation.proofs.Subscripts.{cell_or_not, not_by_cell}
use Rattle.instrumentation_laws.specs.RegularSources.{IsArray, AreRegular, IsSilent, IsTarget}
use Rattle.instrumentation_laws.specs.Sources.{IsSubscript, AreSubscripts, IsData, IsSource, AreSource}
use Rattle.instrumentation_laws.specs.ExactSources.{IsExactSubscript, AreExactSubscripts, IsExactData, IsExactTarget, IsExactSource, AreExactSource, ExactListsAreOne}
use Rattle.instrumentation_laws.specs.AccessList.{signed_all, cell_access, cell_write, tag}
use Rattle.instrumentation_laws.specs.IndexedList.{coordinate_at, coordinates_at, index_reads, read_access, all_reads, tagged, tagged_all}
use Rattle.instrumentation_laws.proofs.CoreList as core
use Rattle.instrumentation_laws.proofs.IndexCells.{no_cell}
use Rattle.instrumentation_laws.proofs.IndexedRuns.{affine_of, subscript_is}
use Rattle.instrumentation_laws.proofs.RegularLists.{no_index_reads, signed_coordinates}

module _ (arrays : List Array) (number : Word → ℕ) (texts : Word → PlainExprs) (inspected is_index : ℕ → Bool) (wides : List Word) (m : Memory) where
  -- ---- subscripts

  pub record AreListed (at : PlainExprs) (vs : Vars) : Type 0 where
    pub reads : reads_of_all arrays m at vs ≡ index_reads number at vs
    pub coordinates : subscripts arrays m at vs ≡ coordinates_at arrays m at vs

  straight : (at : PlainExprs) (vs : Vars) → AreRegular at vs → AreExactSubscripts arrays is_index at vs → AreAffine at vs
  straight no_exprs vs r h = tt
  straight (more_exprs e es) vs r h = (affine_of arrays is_index e vs (no_cell e vs r.0) h.0, straight es vs r.1 h.1)

  regular_listed : (at : PlainExprs) (vs : Vars) → AreRegular at vs → AreAffine at vs → AreListed at vs
  regular_listed at vs r h = record {
    reads = affine.subscripts_silent arrays wides m at vs h ∙ sym (no_index_reads number at vs r);
    coordinates = affine.subscripts_are arrays wides m at vs m h ∙ core.exact_is arrays number wides m at vs h ∙ sym (signed_coordinates arrays m at vs r);
  }

  abbrev Step : Type 0 → PlainExpr → ℤ → PlainExprs → Vars → PlainExpr → Type 0
  Step i n z es vs e = IsSubscript arrays number i e n z vs → IsExactSubscript arrays is_index e vs → AreListed (more_exprs e es) vs

  cell_step : (i : Type 0) (n : PlainExpr) (z : ℤ) (es : PlainExprs) (vs : Vars) → AreListed es vs → (p : Word) (at : PlainExprs) → Step i n z es vs (cell p at)
  cell_step i n z es vs rest p at sub ex = record {
    reads = core.two_are arrays number wides m (reads_of arrays m (cell p at) vs) (reads_of_all arrays m es vs) (cell_access number p at vs false ∷ []) (index_reads number es vs)
        (ap (λ l. l ++ access_of arrays m p at vs false) (affine.subscripts_silent arrays wides m at vs ex.2) ∙ core.access_is arrays number wides m p at vs false sub.0 ex.2) rest.reads;
    coordinates = ap (λ cs. pos (word_at arrays m p cs) ∷ subscripts arrays m es vs) (core.exact_is arrays number wides m at vs ex.2) ∙ ap (λ cs. pos (word_at arrays m p (signed_all at vs)) ∷ cs) rest.coordinates;
  }

  plain_step : (i : Type 0) (n : PlainExpr) (z : ℤ) (es : PlainExprs) (vs : Vars) → AreListed es vs → (e : PlainExpr) → is_cell e ≡ false → Step i n z es vs e
  plain_step i n z es vs rest e other sub ex =
      let k : IsAffine e vs = affine_of arrays is_index e vs other ex in
      record {
        reads = core.two_are arrays number wides m (reads_of arrays m e vs) (reads_of_all arrays m es vs) [] (index_reads number es vs) (affine.silent_reads arrays wides m e vs k.no_cells) rest.reads ∙
            sym (not_by_cell e (λ p at. cell_access number p at vs false ∷ index_reads number es vs) (index_reads number es vs) other);
        coordinates = ap (λ c. c ∷ subscripts arrays m es vs) (subscript_is arrays wides is_index m m e vs k.no_cells ∙ sym k.fits ∙ sym (not_by_cell e (λ p at. pos (word_at arrays m p (signed_all at vs))) (signed e vs) other)) ∙
            ap (λ cs. coordinate_at arrays m e vs ∷ cs) rest.coordinates;
      }

  listed : (i : Type 0) (at ns : PlainExprs) (zs : List ℤ) (vs : Vars) → AreSubscripts arrays number i at ns zs vs → AreExactSubscripts arrays is_index at vs → AreListed at vs
  listed i no_exprs ns zs vs d h = record { reads = refl; coordinates = refl }
  listed i (more_exprs e es) no_exprs zs vs d h = regular_listed (more_exprs e es) vs d (straight (more_exprs e es) vs d h)
  listed i (more_exprs e es) (more_exprs n ns) [] vs d h = regular_listed (more_exprs e es) vs d (straight (more_exprs e es) vs d h)
  listed i (more_exprs e es) (more_exprs n ns) (z ∷ zs) vs d h =
      let rest : AreListed es vs = listed i es ns zs vs d.1 h.1 in
      cell_or_not (Step i n z es vs) (cell_step i n z es vs rest) (plain_step i n z es vs rest) e d.0 h.0

  -- ---- expressions

  two_are : (xs ys us vs : List Access) → xs ≡ us → ys ≡ vs → xs ++ ys ≡ us ++ vs
  two_are xs ys us vs e g = core.two_are arrays number wides m xs ys us vs e g

  silent_reads : (e : PlainExpr) (vs : Vars) → IsSilent e → all_reads arrays m number e vs ≡ []
  silent_reads (lit n) vs h = refl
  silent_reads (var x) vs h = refl
  silent_reads (cell x at) vs h = absurd h
  silent_reads (un op a) vs h = silent_reads a vs h
  silent_reads (bin op a b) vs h = two_are _ _ [] [] (silent_reads a vs h.0) (silent_reads b vs h.1)
  silent_reads (cast a) vs h = silent_reads a vs h
  silent_reads (test rel a b) vs h = two_are _ _ [] [] (silent_reads a vs h.0) (silent_reads b vs h.1)
  silent_reads (umin a b) vs h = two_are _ _ [] [] (silent_reads a vs h.0) (silent_reads b vs h.1)
  silent_reads (umax a b) vs h = two_are _ _ [] [] (silent_reads a vs h.0) (silent_reads b vs h.1)
  silent_reads (least a b) vs h = refl
  silent_reads (greatest a b) vs h = refl
  silent_reads (widen a) vs h = refl
  silent_reads (big high low) vs h = refl

  reads_are : (e : PlainExpr) (vs : Vars) → IsExactData arrays is_index e vs → IsData arrays number texts inspected e vs → reads_of arrays m e vs ≡ all_reads arrays m number e vs
  reads_are (lit n) vs f d = refl
  reads_are (var x) vs f d = refl
  reads_are (cell x at) vs f d =
      let a : IsArray arrays number x = d.array in
      let k = listed (inspected a.array.0 ≡ true) at (texts x) a.array.1.extents vs d.at_each f.1 in
      two_are (reads_of_all arrays m at vs) (access_of arrays m x at vs false) (index_reads number at vs) (read_access arrays m number x at vs ∷ []) k.reads
      (ap (λ o. access_at o (subscripts arrays m at vs) false) a.named ∙ ap (λ cs. access_at (Some a.array) cs false) k.coordinates ∙
      ap (λ n. let x : Access = record { array = n; cell = coordinates_at arrays m at vs; writes = false } in x ∷ []) (sym a.numbered))
  reads_are (un op a) vs f d = reads_are a vs f d
  reads_are (bin op a b) vs f d = two_are _ _ _ _ (reads_are a vs f.0 d.0) (reads_are b vs f.1 d.1)
  reads_are (cast a) vs f d = elim f [
    | inl s ↦ affine.silent_reads arrays wides m a vs s.no_cells ∙ sym (silent_reads a vs (d.1 s.is_signed))
    | inr s ↦ reads_are a vs s.1 d.0
  ]
  reads_are (test rel a b) vs f d = two_are _ _ _ _ (reads_are a vs f.0 d.0) (reads_are b vs f.1 d.1)
  reads_are (umin a b) vs f d = two_are _ _ _ _ (reads_are a vs f.0 d.0) (reads_are b vs f.1 d.1)
  reads_are (umax a b) vs f d = two_are _ _ _ _ (reads_are a vs f.0 d.0) (reads_are b vs f.1 d.1)
  reads_are (least a b) vs f d = absurd d
  reads_are (greatest a b) vs f d = absurd d
  reads_are (widen a) vs f d = absurd d
  reads_are (big high low) vs f d = absurd d

  -- ---- statements

  target_read : (x : Word) (at : PlainExprs) (vs : Vars) → AreRegular at vs → all_reads arrays m number (cell x at) vs ≡ cell_access number x at vs false ∷ []
  target_read x at vs r =
      let read : List ℤ → List Access = λ cs. let a : Access = record { array = number x; cell = cs; writes = false } in a ∷ [] in
      ap (λ l. l ++ read (coordinates_at arrays m at vs)) (no_index_reads number at vs r) ∙ ap read (signed_coordinates arrays m at vs r)

  cell_accesses : (x : Word) (at : PlainExprs) (op : Option BinOp) (e : PlainExpr) (vs : Vars) → IsTarget arrays number (cell x at) vs → AreAffine at vs → IsExactData arrays is_index e vs → IsData arrays number texts inspected (full (cell x at) op e) vs →
      reads_of_all arrays m at vs ++ (old_cell op (access_of arrays m x at vs false) ++ (reads_of arrays m e vs ++ access_of arrays m x at vs true)) ≡
      all_reads arrays m number (full (cell x at) op e) vs ++ cell_access number x at vs true ∷ []
  cell_accesses x at None e vs a h f d =
      ap (λ l. l ++ (reads_of arrays m e vs ++ access_of arrays m x at vs true)) (affine.subscripts_silent arrays wides m at vs h) ∙
      two_are _ _ _ _ (reads_are e vs f d) (core.access_is arrays number wides m x at vs true a.0 h)
  cell_accesses x at (Some op) e vs a h f d =
      let old : List Access = all_reads arrays m number (cell x at) vs in
      ap (λ l. l ++ (access_of arrays m x at vs false ++ (reads_of arrays m e vs ++ access_of arrays m x at vs true))) (affine.subscripts_silent arrays wides m at vs h) ∙
      two_are _ _ _ _ (core.access_is arrays number wides m x at vs false a.0 h ∙ sym (target_read x at vs a.1))
      (two_are _ _ _ _ (reads_are e vs f d.1) (core.access_is arrays number wides m x at vs true a.0 h)) ∙
      sym (append_assoc old (all_reads arrays m number e vs) (cell_access number x at vs true ∷ []))

  var_accesses : (x : Word) (op : Option BinOp) (e : PlainExpr) (vs : Vars) → IsExactData arrays is_index e vs → IsData arrays number texts inspected (full (var x) op e) vs → reads_of arrays m e vs ≡ all_reads arrays m number (full (var x) op e) vs ++ []
  var_accesses x None e vs f d = reads_are e vs f d ∙ sym (append-nil (all_reads arrays m number e vs))
  var_accesses x (Some op) e vs f d = reads_are e vs f d.1 ∙ sym (append-nil (all_reads arrays m number e vs))

  assign_accesses : (t : PlainExpr) (op : Option BinOp) (e : PlainExpr) (k : ℕ) (vs : Vars) → IsTarget arrays number t vs → IsExactTarget arrays wides is_index t vs → IsExactData arrays is_index e vs → IsData arrays number texts inspected (full t op e) vs →
      accesses_of arrays m (record { site = k; target = t; op = op; value = e; vars = vs }) ≡ all_reads arrays m number (full t op e) vs ++ cell_write number t vs
  assign_accesses (var x) op e k vs h g f d = var_accesses x op e vs f d
  assign_accesses (cell x at) op e k vs h g f d = cell_accesses x at op e vs h g.2 f d
  assign_accesses (lit n) op e k vs h g f d = absurd h
  assign_accesses (un o a) op e k vs h g f d = absurd h
  assign_accesses (bin o a b) op e k vs h g f d = absurd h
  assign_accesses (cast a) op e k vs h g f d = absurd h
  assign_accesses (test rel a b) op e k vs h g f d = absurd h
  assign_accesses (umin a b) op e k vs h g f d = absurd h
  assign_accesses (umax a b) op e k vs h g f d = absurd h
  assign_accesses (least a b) op e k vs h g f d = absurd h
  assign_accesses (greatest a b) op e k vs h g f d = absurd h
  assign_accesses (widen a) op e k vs h g f d = absurd h
  assign_accesses (big high low) op e k vs h g f d = absurd h

  abbrev by_instances : List Instance → List Tagged
  by_instances is = flat_map (tagged_of arrays m) is

  each : (x : Word) (vs : Vars) (f : ℤ → List Tagged) (g : ℤ → List Instance) (body : PlainStmts) → ((v : ℤ) → AreExactSource arrays wides is_index body ((x, v) ∷ vs) → f v ≡ by_instances (g v)) →
      (vals : List ℤ) → AllByRecursion (λ v. AreExactSource arrays wides is_index body ((x, v) ∷ vs)) vals → AllByRecursion (λ v. f v ≡ by_instances (g v)) vals
  each x vs f g body go [] h = tt
  each x vs f g body go (v ∷ vals) h = (go v h.0, each x vs f g body go vals h.1)

  mutual
    one_is : (p : PlainStmt) (k : ℕ) (vs : Vars) → IsSource arrays number texts inspected p vs → IsExactSource arrays wides is_index p vs → tagged arrays m number k p vs ≡ flat_map (tagged_of arrays m) (instances k p vs)
    one_is (loop x lo rel hi body) k vs h g =
        let f : ℤ → List Tagged = λ v. tagged_all arrays m number k body ((x, v) ∷ vs) in
        let is : ℤ → List Instance = λ v. instances_all k body ((x, v) ∷ vs) in
        rw (g.0, g.1) (core.over_values arrays number wides m f is (loop_values (exact lo vs) rel (exact hi vs))
        (each x vs f is body (λ v s. all_is body k ((x, v) ∷ vs) (h.1 v) s) (loop_values (exact lo vs) rel (exact hi vs)) g.2))
    one_is (choice ts first other) k vs h g =
        rw (core.tests_are arrays number wides m ts vs g.0) (core.chosen arrays number wides m (list_all (test_is_true vs) ts) (tagged_all arrays m number k first vs) (tagged_all arrays m number (k + sites_all first) other vs)
        (instances_all k first vs) (instances_all (k + sites_all first) other vs)
        (all_is first k vs h.1 g.1) (all_is other (k + sites_all first) vs h.2 g.2))
    one_is (assign t op e) k vs h g = ap (map (tag k vs)) (sym (assign_accesses t op e k vs h.0 g.0 g.1 h.1)) ∙ sym (append-nil (map (tag k vs) (accesses_of arrays m (record { site = k; target = t; op = op; value = e; vars = vs }))))
    one_is (table x len) k vs h g = absurd h
    one_is begin k vs h g = absurd h
    one_is (check x extent a) k vs h g = absurd h
    one_is verdict k vs h g = absurd h

    pub all_is : (ps : PlainStmts) (k : ℕ) (vs : Vars) → AreSource arrays number texts inspected ps vs → AreExactSource arrays wides is_index ps vs → tagged_all arrays m number k ps vs ≡ flat_map (tagged_of arrays m) (instances_all k ps vs)
    all_is no_stmts k vs h g = refl
    all_is (more_stmts p ps) k vs h g =
        ap (λ l. l ++ tagged_all arrays m number (k + sites p) ps vs) (one_is p k vs h.0 g.0) ∙
        ap (λ l. by_instances (instances k p vs) ++ l) (all_is ps (k + sites p) vs h.1 g.1) ∙
        sym (flat_map-append (tagged_of arrays m) (instances k p vs) (instances_all (k + sites p) ps vs))

pub exact_lists : ExactListsAreOne
exact_lists arrays number texts inspected is_index wides m body vs source ex = all_is arrays number texts inspected is_index wides m body 0 vs source ex
