-- The text of a source is a tree of the grammar of printed texts, with one `begin` and the verdict last.
use Rattle.std.proofs.Common.{◌≡◌, ℕ, ℤ, ◌+◌, ◌≤◌, ◌<◌, ◌^◌, zero, suc, Bool, true, false, if◌then◌else◌, nat_eq, List, [], ◌∷◌, ◌++◌, length, refl, sym, subst, ap, arith, max, inl, inr, Option, None, Some}
use Rattle.std.specs.Prelude.{bytes_eq}
use Rattle.std.proofs.lemmas.Bool.{cases_Bool}
use Rattle.std.proofs.lemmas.List.{append_assoc, length-map}
use Rattle.c_tree.specs.Plain.{Word, PlainExpr, lit, var, cell, un, bin, cast, test, umin, umax, least, greatest, widen, big, PlainExprs, no_exprs, more_exprs, PlainTest, PlainStmt, loop, choice, assign, table, begin, check, verdict, PlainStmts, no_stmts, more_stmts, PlainParam, int_param, array_param, PlainUnit}
use Rattle.c_tree.specs.Trees.{stmts_of}
use Rattle.c_tree.specs.Instances.{sites, sites_all}
use Rattle.c_tree.specs.declared.expr.BinOp.{BinOp}
use Rattle.c_tree.specs.declared.expr.BinOp.TheVariants.{Add, Mul}
use Rattle.c_tree.specs.Names.{arrays_in}
use Rattle.c_tree.specs.Grammar.Statements.{stmt_height, stmts_height}
use Rattle.instrumentation.specs.Names.{function_name, register, result, count, definition_total, use_total, active, counter, written, index_word, current, counts, number_from, number_in}
use Rattle.instrumentation.specs.Body.{reads_in, load_text, index_loads, index_checks, by_words, read_text, loads_text, pure, full, add_text, store_text, assigned_text, instrument, instrument_all, registers, registers_all}
use Rattle.instrumentation.specs.Passes.{renamed_name, renamed, renamed_all, renamed_tests, Target, same_cell, set_word, count_cell, count_indices, count_reads, same_instance, own_write, write_text, count_write, copied, copied_all, standing, pass_text, write_piece, coordinates_from, cell_piece}
use Rattle.instrumentation.specs.Inspects.{inspects_all}
use Rattle.instrumentation.specs.Tables.{one, cells_of, row_of, words_at, words_from, walk, walk_all, index_words, word_checks, count_current, inspect_cell, inspect_indices, inspect_reads, one_more, no_reads, count_writes, number_writes, build, initial, at_write}
use Rattle.instrumentation.specs.Pieces.{initial_piece, site_piece, site_pieces, site_pieces_all, piece_at, builds, written_words, widest, index_words_from, table_words}
use Rattle.instrumentation.specs.Subscripts.{by_cell, indices_in}
use Rattle.instrumentation.proofs.Subscripts.{cell_or_not, not_by_cell}
use Rattle.acceptance_laws.proofs.Units.{words_of_text, head_of}
use Rattle.accepted_laws.proofs.CellsRead.{IsShort, AreShort, ReadsBelow, StmtBelow, AllBelow, all_below, array_rank}
use Rattle.accepted_laws.proofs.Heads.{widest_small}
use Rattle.c_tree.specs.Grammar.Expressions.{heights}
use Rattle.instrumentation.specs.Prologue.{cell_loops, add_cell, cell_text, array_text, prologue_text}
use Rattle.instrumentation.specs.Guarded.{arrays_with_extents, extents_of, array_names, register_words, own_words, total_names, guarded}
use Rattle.acceptance.specs.Head.{list_of}
use Rattle.acceptance.specs.Trees.{IsNameIn, IsTree, AreSubscripts, AreTrees, AreSides, IsCondition, IsInner, AreInner, IsTop, AreTop, AreLines, AreParams, AreWords, AreNames, IsSourceTree, IsPrintedTree}
use Rattle.acceptance.specs.Heights.{IsLow}
use Rattle.accepted_laws.specs.Suited.{AreRanked, IsSuited}
use Rattle.acceptance.specs.Trees.{is_assigning}
use Rattle.accepted_laws.proofs.WordNames.{loosen, written_name, index_name, current_name, counts_name, register_name, definition_name, use_name, coordinate_name, variable_name, result_name, count_name, active_name, counter_name, text_name}
use Rattle.accepted_laws.proofs.Sources.{all_source, all_few_loads}
use Rattle.accepted_laws.proofs.Heights.{Low}
use Rattle.accepted_laws.proofs.TextHeights.{cells_low, pieces_low, text_low}
use Rattle.accepted_laws.specs.Pieces.{with_pieces}

-- ---- texts

abbrev pub TextTree : ℕ → List PlainStmt → Type 0
TextTree n ss = AreInner true n (stmts_of ss)

pub tree_join : (n : ℕ) (a b : List PlainStmt) → TextTree n a → TextTree n b → TextTree n (a ++ b)
tree_join n [] b h g = g
tree_join n (s ∷ a) b h g = (h.0, tree_join n a b h.1 g)

tree_if : (n : ℕ) (b : Bool) (ss : List PlainStmt) → TextTree n ss → TextTree n (if b then ss else [])
tree_if n true ss h = h
tree_if n false ss h = tt

top_one : (n : ℕ) (s : PlainStmt) → IsInner true n s → IsTop n s
top_one n (table x len) h = absurd h
top_one n (loop x lo rel hi body) h = h
top_one n (choice ts first other) h = h
top_one n (assign t op e) h = h
top_one n begin h = h
top_one n (check x e a) h = h
top_one n verdict h = h

top_all : (n : ℕ) (ss : List PlainStmt) → TextTree n ss → AreTop n ss
top_all n [] h = tt
top_all n (s ∷ ss) h = (top_one n s h.0, top_all n ss h.1)

pub top_join : (n : ℕ) (a b : List PlainStmt) → AreTop n a → AreTop n b → AreTop n (a ++ b)
top_join n [] b h g = g
top_join n (s ∷ a) b h g = (h.0, top_join n a b h.1 g)

top_if : (n : ℕ) (b : Bool) (ss : List PlainStmt) → AreTop n ss → AreTop n (if b then ss else [])
top_if n true ss h = h
top_if n false ss h = tt

-- ---- expressions

mutual
  tree_loose : (e : PlainExpr) → IsTree false e → IsTree true e
  tree_loose (lit n) h = h
  tree_loose (var x) h = loosen x h
  tree_loose (cell x at) h = (loosen x h.0, subscripts_loose at h.1)
  tree_loose (un op a) h = tree_loose a h
  tree_loose (bin op a b) h = (tree_loose a h.0, tree_loose b h.1)
  tree_loose (cast a) h = tree_loose a h
  tree_loose (test rel a b) h = (tree_loose a h.0, tree_loose b h.1)
  tree_loose (umin a b) h = (tree_loose a h.0, tree_loose b h.1)
  tree_loose (umax a b) h = (tree_loose a h.0, tree_loose b h.1)
  tree_loose (least a b) h = (refl, tree_loose a h.1, tree_loose b h.2)
  tree_loose (greatest a b) h = (refl, tree_loose a h.1, tree_loose b h.2)
  tree_loose (widen a) h = (refl, tree_loose a h.1)
  tree_loose (big high low) h = (refl, h.1, h.2)

  subscripts_loose : (es : PlainExprs) → AreSubscripts false es → AreSubscripts true es
  subscripts_loose no_exprs h = h
  subscripts_loose (more_exprs e es) h = (tree_loose e h.0, trees_loose es h.1)

  trees_loose : (es : PlainExprs) → AreTrees false es → AreTrees true es
  trees_loose no_exprs h = tt
  trees_loose (more_exprs e es) h = (tree_loose e h.0, trees_loose es h.1)

sides_loose : (ts : List PlainTest) → AreSides false ts → AreSides true ts
sides_loose [] h = tt
sides_loose (t ∷ ts) h = ((tree_loose t.1 h.0.0, tree_loose t.2 h.0.1), sides_loose ts h.1)

condition_loose : (ts : List PlainTest) → IsCondition false ts → IsCondition true ts
condition_loose [] h = h
condition_loose (t ∷ ts) h = ((tree_loose t.1 h.0.0, tree_loose t.2 h.0.1), sides_loose ts h.1)

renamed_word : (xs : List Word) (x : Word) → length xs ≤ 64 → IsNameIn false x → IsNameIn true (renamed_name xs x)
renamed_word [] x h g = loosen x g
renamed_word (y ∷ ys) x h g = elim (cases_Bool (bytes_eq y x)) [
  | inl e ↦ rw e (variable_name (length ys) (omega arith))
  | inr e ↦ rw e (renamed_word ys x (omega arith) g)
]

module _ (xs : List Word) (short : length xs ≤ 64) where
  mutual
    tree_renamed : (e : PlainExpr) → IsTree false e → IsTree true (renamed xs e)
    tree_renamed (lit n) h = h
    tree_renamed (var x) h = renamed_word xs x short h
    tree_renamed (cell x at) h = (loosen x h.0, subscripts_renamed at h.1)
    tree_renamed (un op a) h = tree_renamed a h
    tree_renamed (bin op a b) h = (tree_renamed a h.0, tree_renamed b h.1)
    tree_renamed (cast a) h = tree_renamed a h
    tree_renamed (test rel a b) h = (tree_renamed a h.0, tree_renamed b h.1)
    tree_renamed (umin a b) h = (tree_renamed a h.0, tree_renamed b h.1)
    tree_renamed (umax a b) h = (tree_renamed a h.0, tree_renamed b h.1)
    tree_renamed (least a b) h = (refl, tree_renamed a h.1, tree_renamed b h.2)
    tree_renamed (greatest a b) h = (refl, tree_renamed a h.1, tree_renamed b h.2)
    tree_renamed (widen a) h = (refl, tree_renamed a h.1)
    tree_renamed (big high low) h = (refl, h.1, h.2)

    subscripts_renamed : (es : PlainExprs) → AreSubscripts false es → AreSubscripts true (renamed_all xs es)
    subscripts_renamed no_exprs h = h
    subscripts_renamed (more_exprs e es) h = (tree_renamed e h.0, trees_renamed es h.1)

    trees_renamed : (es : PlainExprs) → AreTrees false es → AreTrees true (renamed_all xs es)
    trees_renamed no_exprs h = tt
    trees_renamed (more_exprs e es) h = (tree_renamed e h.0, trees_renamed es h.1)

  sides_renamed : (ts : List PlainTest) → AreSides false ts → AreSides true (renamed_tests xs ts)
  sides_renamed [] h = tt
  sides_renamed (t ∷ ts) h = ((tree_renamed t.1 h.0.0, tree_renamed t.2 h.0.1), sides_renamed ts h.1)

  condition_renamed : (ts : List PlainTest) → IsCondition false ts → IsCondition true (renamed_tests xs ts)
  condition_renamed [] h = h
  condition_renamed (t ∷ ts) h = ((tree_renamed t.1 h.0.0, tree_renamed t.2 h.0.1), sides_renamed ts h.1)

tree_pure : (e : PlainExpr) (j : ℕ) → j + reads_in e ≤ 2 ^ 64 → IsTree false e → IsTree true (pure e j)
tree_pure (lit n) j r h = h
tree_pure (var x) j r h = loosen x h
tree_pure (cell x at) j r h = register_name (j + indices_in at) (omega arith)
tree_pure (un op a) j r h = tree_pure a j r h
tree_pure (bin op a b) j r h = (tree_pure a j (omega arith) h.0, tree_pure b (j + reads_in a) (omega arith) h.1)
tree_pure (cast a) j r h = tree_pure a j r h
tree_pure (test rel a b) j r h = (tree_pure a j (omega arith) h.0, tree_pure b (j + reads_in a) (omega arith) h.1)
tree_pure (umin a b) j r h = (tree_pure a j (omega arith) h.0, tree_pure b (j + reads_in a) (omega arith) h.1)
tree_pure (umax a b) j r h = (tree_pure a j (omega arith) h.0, tree_pure b (j + reads_in a) (omega arith) h.1)
tree_pure (least a b) j r h = tree_loose (least a b) h
tree_pure (greatest a b) j r h = tree_loose (greatest a b) h
tree_pure (widen a) j r h = tree_loose (widen a) h
tree_pure (big high low) j r h = tree_loose (big high low) h

tree_full : (t : PlainExpr) (op : Option BinOp) (e : PlainExpr) → IsTree false t → IsTree false e → IsTree false (full t op e)
tree_full t None e h g = g
tree_full t (Some op) e h g = (h, g)

same_sides : (ds es : PlainExprs) → AreTrees true ds → AreTrees true es → AreSides true (same_cell ds es)
same_sides no_exprs es h g = tt
same_sides (more_exprs d ds) no_exprs h g = tt
same_sides (more_exprs d ds) (more_exprs e es) h g = ((h.0, g.0), same_sides ds es h.1 g.1)

same_condition : (ds es : PlainExprs) → AreSubscripts true ds → AreSubscripts true es → IsCondition true (same_cell ds es)
same_condition no_exprs es h g = h
same_condition (more_exprs d ds) no_exprs h g = g
same_condition (more_exprs d ds) (more_exprs e es) h g = ((h.0, g.0), same_sides ds es h.1 g.1)

instance_sides : (xs : List Word) → length xs ≤ 64 → AreNames true xs → AreSides true (same_instance xs)
instance_sides [] h g = tt
instance_sides (x ∷ xs) h g = ((variable_name (length xs) (omega arith), g.0), instance_sides xs (omega arith) g.1)

some_coordinates : (d : ℕ) (es : PlainExprs) → d + length (list_of es) ≤ 64 → AreTrees true (coordinates_from d es)
some_coordinates d no_exprs h = tt
some_coordinates d (more_exprs e es) h = (coordinate_name d (omega arith), some_coordinates (suc d) es (omega arith))

coordinate_subscripts : (p : Bool) (es : PlainExprs) → AreSubscripts p es → length (list_of es) ≤ 3 → AreSubscripts true (coordinates_from 0 es)
coordinate_subscripts p no_exprs h g = h
coordinate_subscripts p (more_exprs e es) h g = (coordinate_name 0 (omega arith), some_coordinates 1 es (omega arith))

-- ---- single statements

set_tree : (n : ℕ) (x : Word) (op : Option BinOp) (e : PlainExpr) → is_assigning op ≡ true → IsNameIn true x → IsTree true e → IsInner true n (assign (var x) op e)
set_tree n x op e o h g = (refl, o, h, g)

subscripts_trees : (at : PlainExprs) → AreSubscripts false at → AreTrees false at
subscripts_trees no_exprs h = tt
subscripts_trees (more_exprs e es) h = h

-- ---- numbers of cells

cells_tree : (ns : PlainExprs) → AreTrees true ns → IsTree true (cells_of ns)
cells_tree no_exprs h = omega arith
cells_tree (more_exprs e ns) h = (h.0, cells_tree ns h.1)

abbrev AllTrees : List PlainExpr → Type 0
AllTrees [] = Unit {0}
AllTrees (c ∷ cs) = IsTree true c × AllTrees cs

row_tree : (ns : PlainExprs) (cs : List PlainExpr) → AreTrees true ns → AllTrees cs → IsTree true (row_of ns cs)
row_tree no_exprs cs h g = omega arith
row_tree (more_exprs e ns) [] h g = omega arith
row_tree (more_exprs e ns) (c ∷ cs) h g = ((g.0, cells_tree ns h.1), row_tree ns cs h.1 g.1)

coordinate_trees : (d : ℕ) (es : PlainExprs) → d + length (list_of es) ≤ 64 → AllTrees (words_from (coordinates_from d es))
coordinate_trees d no_exprs h = tt
coordinate_trees d (more_exprs e es) h = (coordinate_name d (omega arith), coordinate_trees (suc d) es (omega arith))

next_tree : (a : ℕ) (es : PlainExprs) → a < 2 ^ 64 → AreTrees true es → IsTree true (bin Add (cells_of es) (var (written a)))
next_tree a es s h = (cells_tree es h, written_name a s)

module _ (n : ℕ) where
  initial_tree : (a : ℕ) (es : PlainExprs) → a < 2 ^ 64 → AreTrees true es → length (list_of es) ≤ 3 → TextTree n (initial a es)
  initial_tree a es s h few = (
    set_tree n count None (widen (cell (counts a) (one (row_of es (words_from (coordinates_from 0 es)))))) refl count_name
        (refl, (counts_name a s, (row_tree es (words_from (coordinates_from 0 es)) h (coordinate_trees 0 es (omega arith)), tt))),
    tt,
  )

  at_write_tree : (a : ℕ) (es : PlainExprs) → a < 2 ^ 64 → AreTrees true es → TextTree n (at_write a es)
  at_write_tree a es s h = (
    set_tree n count None (widen (cell (counts a) (one (bin Add (cells_of es) (var (written a)))))) refl count_name (refl, (counts_name a s, (next_tree a es s h, tt))),
    (set_tree n (written a) (Some Add) (lit 1) refl (written_name a s) (omega arith), tt),
  )

-- ---- passes

module _ (n : ℕ) (few_arrays : n ≤ 16) (number : Word → ℕ) (small : (x : Word) → number x < 2 ^ 64) where
  module _ (target : Target) (site : Option ℕ) (some : AreSubscripts true target.at) where
    cell_tree : (xs : List Word) (x : Word) (at : PlainExprs) → length xs ≤ 64 → AreSubscripts false at → TextTree n (count_cell number target xs x at)
    cell_tree xs x at h g =
        tree_if n (nat_eq (number x) target.array) _
        ((same_condition (renamed_all xs at) target.at (subscripts_renamed xs h at g) some, (set_tree n counter (Some Add) (var active) refl counter_name active_name, tt), tt), tt)

    indices_tree : (xs : List Word) (at : PlainExprs) → length xs ≤ 64 → AreTrees false at → TextTree n (count_indices number target xs at)
    indices_tree xs no_exprs h g = tt
    indices_tree xs (more_exprs e es) h g =
        cell_or_not (λ e. IsTree false e → TextTree n (count_indices number target xs (more_exprs e es)))
        (λ x at k. tree_join n (count_cell number target xs x at) (count_indices number target xs es) (cell_tree xs x at h k.1) (indices_tree xs es h g.1))
        (λ e other k. subst (TextTree n) (sym (not_by_cell e (λ x at. count_cell number target xs x at ++ count_indices number target xs es) (count_indices number target xs es) other)) (indices_tree xs es h g.1))
        e g.0

    reads_tree : (xs : List Word) (e : PlainExpr) → length xs ≤ 64 → IsTree false e → TextTree n (count_reads number target xs e)
    reads_tree xs (lit n) h g = tt
    reads_tree xs (var x) h g = tt
    reads_tree xs (cell x at) h g = tree_join n (count_indices number target xs at) (count_cell number target xs x at) (indices_tree xs at h (subscripts_trees at g.1)) (cell_tree xs x at h g.1)
    reads_tree xs (un op a) h g = reads_tree xs a h g
    reads_tree xs (bin op a b) h g = tree_join n (count_reads number target xs a) (count_reads number target xs b) (reads_tree xs a h g.0) (reads_tree xs b h g.1)
    reads_tree xs (cast a) h g = reads_tree xs a h g
    reads_tree xs (test rel a b) h g = tree_join n (count_reads number target xs a) (count_reads number target xs b) (reads_tree xs a h g.0) (reads_tree xs b h g.1)
    reads_tree xs (umin a b) h g = tree_join n (count_reads number target xs a) (count_reads number target xs b) (reads_tree xs a h g.0) (reads_tree xs b h g.1)
    reads_tree xs (umax a b) h g = tree_join n (count_reads number target xs a) (count_reads number target xs b) (reads_tree xs a h g.0) (reads_tree xs b h g.1)
    reads_tree xs _ h g = tt

    active_tree : (v : ℕ) → v < 2 ^ 64 → TextTree n (set_word active v ∷ [])
    active_tree v h = (set_tree n active None (lit v) refl active_name h, tt)

    own_tree : (xs : List Word) → length xs ≤ 64 → AreNames true xs → TextTree n (own_write xs)
    own_tree [] h g = active_tree 1 (omega arith)
    own_tree (x ∷ xs) h g =
        let s : AreSides true (same_instance (x ∷ xs)) = instance_sides (x ∷ xs) h g in
        ((s, active_tree 1 (omega arith), active_tree 0 (omega arith)), tt)

    write_tree : (seen : Option ℕ) (xs : List Word) (k : ℕ) → length xs ≤ 64 → AreNames true xs → TextTree n (write_text seen xs k)
    write_tree None xs k h g = active_tree 0 (omega arith)
    write_tree (Some s) xs k h g = chosen (nat_eq s k)
      where
        chosen : (b : Bool) → TextTree n (if b then own_write xs else (set_word active 0 ∷ []))
        chosen true = own_tree xs h g
        chosen false = active_tree 0 (omega arith)

    count_write_tree : (xs : List Word) (k : ℕ) (t : PlainExpr) → length xs ≤ 64 → AreNames true xs → IsTree false t → TextTree n (count_write number target site xs k t)
    count_write_tree xs k (cell x at) h g e =
        tree_if n (nat_eq (number x) target.array) _
        ((same_condition (renamed_all xs at) target.at (subscripts_renamed xs h at e.1) some, write_tree site xs k h g, tt), tt)
    count_write_tree xs k _ h g e = tt

    mutual
      copied_tree : (xs : List Word) (k : ℕ) (s : PlainStmt) → stmt_height s + length xs ≤ 64 → AreNames true xs → IsInner false 0 s → TextTree n (copied number target site xs k s)
      copied_tree xs k (loop x lo rel hi body) h g i =
          let name = loosen x i.0 in
          ((variable_name (length xs) (omega arith), i.1, tree_renamed xs (omega arith) lo i.2, tree_renamed xs (omega arith) hi i.3, all_copied_tree (x ∷ xs) k body (omega arith) (name, g) i.4), tt)
      copied_tree xs k (choice ts first other) h g i =
          ((condition_renamed xs (omega arith) ts i.0, all_copied_tree xs k first (omega arith) g i.1, all_copied_tree xs (k + sites_all first) other (omega arith) g i.2), tt)
      copied_tree xs k (assign t op e) h g i =
          tree_join n (count_reads number target xs (full t op e)) (count_write number target site xs k t) (reads_tree xs (full t op e) (omega arith) (tree_full t op e i.2 i.3)) (count_write_tree xs k t (omega arith) g i.2)
      copied_tree xs k (table x len) h g i = tt
      copied_tree xs k begin h g i = tt
      copied_tree xs k (check x e a) h g i = tt
      copied_tree xs k verdict h g i = tt

      all_copied_tree : (xs : List Word) (k : ℕ) (ss : PlainStmts) → stmts_height ss + length xs ≤ 64 → AreNames true xs → AreInner false 0 ss → TextTree n (copied_all number target site xs k ss)
      all_copied_tree xs k no_stmts h g i = tt
      all_copied_tree xs k (more_stmts s ss) h g i =
          tree_join n (copied number target site xs k s) (copied_all number target site xs (k + sites s) ss) (copied_tree xs k s (omega arith) g i.0) (all_copied_tree xs (k + sites s) ss (omega arith) g i.1)

    pass_tree : (whole : PlainStmts) → stmts_height whole ≤ 64 → AreInner false 0 whole → TextTree n (pass_text number whole target site)
    pass_tree whole h i = (
      (active_tree (standing site) (small_standing site)).0,
      (
        set_tree n counter None (lit 0) refl counter_name (omega arith),
        tree_join n (copied_all number target site [] 0 whole) (assign (var count) None (widen (var counter)) ∷ []) (all_copied_tree [] 0 whole (omega arith) tt i)
            (set_tree n count None (widen (var counter)) refl count_name (refl, counter_name), tt),
      ),
    )
      where
        small_standing : (o : Option ℕ) → standing o < 2 ^ 64
        small_standing None = omega arith
        small_standing (Some s) = omega arith

  -- ---- pieces

  module _ (whole : PlainStmts) (low : stmts_height whole ≤ 64) (inner : AreInner false 0 whole) where
    abbrev ArePieces : List (List PlainStmt) → Type 0
    ArePieces [] = Unit {0}
    ArePieces (p ∷ ps) = TextTree n p × ArePieces ps

    joined : (ps qs : List (List PlainStmt)) → ArePieces ps → ArePieces qs → ArePieces (ps ++ qs)
    joined [] qs a b = b
    joined (p ∷ ps) qs a b = (a.0, joined ps qs a.1 b)

    one_of : (ps : List (List PlainStmt)) (k : ℕ) → ArePieces ps → TextTree n (piece_at ps k)
    one_of [] k a = tt
    one_of (p ∷ ps) zero a = a.0
    one_of (p ∷ ps) (suc k) a = one_of ps k a.1

    module _ (extents : Word → PlainExprs) (extent_trees : (x : Word) → AreTrees true (extents x)) where
      site_piece_tree : (k : ℕ) (t : PlainExpr) → IsTree false t → TextTree n (site_piece number extents whole k t)
      site_piece_tree k (cell x at) g = chosen (inspects_all number (number x) whole)
        where
          chosen : (b : Bool) → TextTree n (if b then at_write (number x) (extents x) else write_piece number whole k (cell x at))
          chosen true = at_write_tree n (number x) (extents x) (small x) (extent_trees x)
          chosen false = pass_tree (record { array = number x; at = at }) (Some k) (subscripts_loose at g.1) whole low inner
      site_piece_tree k _ g = tt

      mutual
        pieces_tree : (k : ℕ) (s : PlainStmt) → IsInner false 0 s → ArePieces (site_pieces number extents whole k s)
        pieces_tree k (loop x lo rel hi body) g = all_pieces_tree k body g.4
        pieces_tree k (choice ts first other) g =
            joined (site_pieces_all number extents whole k first) (site_pieces_all number extents whole (k + sites_all first) other) (all_pieces_tree k first g.1) (all_pieces_tree (k + sites_all first) other g.2)
        pieces_tree k (assign t op e) g = (site_piece_tree k t g.2, tt)
        pieces_tree k _ g = tt

        all_pieces_tree : (k : ℕ) (ss : PlainStmts) → AreInner false 0 ss → ArePieces (site_pieces_all number extents whole k ss)
        all_pieces_tree k no_stmts g = tt
        all_pieces_tree k (more_stmts s ss) g = joined (site_pieces number extents whole k s) (site_pieces_all number extents whole (k + sites s) ss) (pieces_tree k s g.0) (all_pieces_tree (k + sites s) ss g.1)

      piece_tree : (k : ℕ) → TextTree n (piece_at (site_pieces_all number extents whole 0 whole) k)
      piece_tree k = one_of (site_pieces_all number extents whole 0 whole) k (all_pieces_tree 0 whole inner)

    initial_piece_tree : (a : ℕ) (es : PlainExprs) → a < 2 ^ 64 → AreSubscripts false es → length (list_of es) ≤ 3 → TextTree n (initial_piece number whole a es)
    initial_piece_tree a es s h few = chosen (inspects_all number a whole)
      where
        chosen : (b : Bool) → TextTree n (if b then initial a es else cell_piece number whole a es)
        chosen true = initial_tree n a es s (trees_loose es (subscripts_trees es h)) few
        chosen false = pass_tree (record { array = a; at = coordinates_from 0 es }) None (coordinate_subscripts false es h few) whole low inner

  -- ---- the instrumented statements

  load_tree : (x : Word) (at : PlainExprs) (j : ℕ) → j < 2 ^ 64 → IsTree true (cell x at) → TextTree n (load_text (number x) x at j)
  load_tree x at j r h = (
    set_tree n (register j) None (cell x at) refl (register_name j (omega arith)) h,
    (set_tree n (use_total (number x)) (Some Add) (widen (var (register j))) refl (use_name (number x) (small x)) (refl, register_name j (omega arith)), tt),
  )

  index_loads_tree : (at : PlainExprs) (j : ℕ) → j + indices_in at ≤ 2 ^ 64 → AreTrees false at → TextTree n (index_loads number at j)
  index_loads_tree no_exprs j r h = tt
  index_loads_tree (more_exprs e es) j r h =
      cell_or_not (λ e. IsTree false e → j + indices_in (more_exprs e es) ≤ 2 ^ 64 → TextTree n (index_loads number (more_exprs e es) j))
      (λ x at c m. (let k : j + (1 + indices_in es) ≤ 2 ^ 64 = m in
      tree_join n (load_text (number x) x at j) (index_loads number es (j + 1)) (load_tree x at j (omega arith) (tree_loose (cell x at) c)) (index_loads_tree es (j + 1) (omega arith) h.1)))
      (λ e other c m. subst (TextTree n) (sym (not_by_cell e (λ x at. load_text (number x) x at j ++ index_loads number es (j + 1)) (index_loads number es j) other))
      (index_loads_tree es j (let q : indices_in (more_exprs e es) ≡ indices_in es = not_by_cell e (λ x at. 1 + indices_in es) (indices_in es) other in omega arith) h.1))
      e h.0 r

  index_checks_tree : (a : ℕ) (at ns : PlainExprs) (j : ℕ) → a < n → j + indices_in at ≤ 2 ^ 64 → AreTrees true ns → TextTree n (index_checks a at ns j)
  index_checks_tree a no_exprs ns j l r h = tt
  index_checks_tree a (more_exprs e es) no_exprs j l r h = tt
  index_checks_tree a (more_exprs e es) (more_exprs k ns) j l r h =
      cell_or_not (λ e. j + indices_in (more_exprs e es) ≤ 2 ^ 64 → TextTree n (index_checks a (more_exprs e es) (more_exprs k ns) j))
      (λ x at m. (let q : j + (1 + indices_in es) ≤ 2 ^ 64 = m in ((refl, register_name j (omega arith), h.0, omega arith, l), index_checks_tree a es ns (j + 1) l (omega arith) h.1)))
      (λ e other m. subst (TextTree n) (sym (not_by_cell e (λ x at. check (register j) k a ∷ index_checks a es ns (j + 1)) (index_checks a es ns j) other))
      (index_checks_tree a es ns j l (let q : indices_in (more_exprs e es) ≡ indices_in es = not_by_cell e (λ x at. 1 + indices_in es) (indices_in es) other in omega arith) h.1))
      e r

  words_tree : (at : PlainExprs) (j : ℕ) → j + indices_in at ≤ 2 ^ 64 → AreTrees false at → AreTrees true (by_words at j)
  words_tree no_exprs j r h = tt
  words_tree (more_exprs e es) j r h =
      cell_or_not (λ e. IsTree false e → j + indices_in (more_exprs e es) ≤ 2 ^ 64 → AreTrees true (by_words (more_exprs e es) j))
      (λ x at c m. (let q : j + (1 + indices_in es) ≤ 2 ^ 64 = m in (register_name j (omega arith), words_tree es (j + 1) (omega arith) h.1)))
      (λ e other c m. subst (AreTrees true) (sym (not_by_cell e (λ x at. more_exprs (var (register j)) (by_words es (j + 1))) (more_exprs e (by_words es j)) other))
      (tree_loose e c, words_tree es j (let q : indices_in (more_exprs e es) ≡ indices_in es = not_by_cell e (λ x at. 1 + indices_in es) (indices_in es) other in omega arith) h.1))
      e h.0 r

  some_words : (at : PlainExprs) (j : ℕ) → AreSubscripts false at → AreTrees true (by_words at j) → AreSubscripts true (by_words at j)
  some_words no_exprs j h g = h
  some_words (more_exprs e es) j h g =
      cell_or_not (λ e. AreTrees true (by_words (more_exprs e es) j) → AreSubscripts true (by_words (more_exprs e es) j))
      (λ x at k. k)
      (λ e other k. (let q = not_by_cell e (λ x at. more_exprs (var (register j)) (by_words es (j + 1))) (more_exprs e (by_words es j)) other in
      subst (AreSubscripts true) (sym q) (let z : AreTrees true (more_exprs e (by_words es j)) = subst (AreTrees true) q k in z)))
      e g

  module _ (texts : Word → PlainExprs) (text_trees : (x : Word) → AreTrees true (texts x)) where
    read_tree : (x : Word) (at : PlainExprs) (j : ℕ) → number x < n → j + (indices_in at + 1) ≤ 2 ^ 64 → IsTree false (cell x at) → TextTree n (read_text number texts x at j)
    read_tree x at j l r h =
        let w : AreTrees true (by_words at j) = words_tree at j (omega arith) (subscripts_trees at h.1) in
        tree_join n (index_loads number at j) (index_checks (number x) at (texts x) j ++ load_text (number x) x (by_words at j) (j + indices_in at)) (index_loads_tree at j (omega arith) (subscripts_trees at h.1))
        (tree_join n (index_checks (number x) at (texts x) j) (load_text (number x) x (by_words at j) (j + indices_in at)) (index_checks_tree (number x) at (texts x) j l (omega arith) (text_trees x))
        (load_tree x (by_words at j) (j + indices_in at) (omega arith) (loosen x h.0, some_words at j h.1 w)))

    loads_tree : (e : PlainExpr) (j : ℕ) → j + reads_in e ≤ 2 ^ 64 → IsTree false e → ReadsBelow number n e → TextTree n (loads_text number texts e j)
    loads_tree (lit k) j r h o = tt
    loads_tree (var x) j r h o = tt
    loads_tree (cell x at) j r h o = read_tree x at j o.0 (omega arith) h
    loads_tree (un op a) j r h o = loads_tree a j r h o
    loads_tree (bin op a b) j r h o = tree_join n (loads_text number texts a j) (loads_text number texts b (j + reads_in a)) (loads_tree a j (omega arith) h.0 o.0) (loads_tree b (j + reads_in a) (omega arith) h.1 o.1)
    loads_tree (cast a) j r h o = loads_tree a j r h o
    loads_tree (test rel a b) j r h o = tree_join n (loads_text number texts a j) (loads_text number texts b (j + reads_in a)) (loads_tree a j (omega arith) h.0 o.0) (loads_tree b (j + reads_in a) (omega arith) h.1 o.1)
    loads_tree (umin a b) j r h o = tree_join n (loads_text number texts a j) (loads_text number texts b (j + reads_in a)) (loads_tree a j (omega arith) h.0 o.0) (loads_tree b (j + reads_in a) (omega arith) h.1 o.1)
    loads_tree (umax a b) j r h o = tree_join n (loads_text number texts a j) (loads_text number texts b (j + reads_in a)) (loads_tree a j (omega arith) h.0 o.0) (loads_tree b (j + reads_in a) (omega arith) h.1 o.1)
    loads_tree _ j r h o = tt

  add_tree : (a : ℕ) (x : Word) → a < 2 ^ 64 → IsNameIn true x → IsInner true n (assign (var (definition_total a)) (Some Add) (bin Mul (widen (var x)) (var count)))
  add_tree a x h g = set_tree n (definition_total a) (Some Add) (bin Mul (widen (var x)) (var count)) refl (definition_name a h) ((refl, g), count_name)

  module _ (texts : Word → PlainExprs) (text_trees : (x : Word) → AreTrees true (texts x)) (pieces : ℕ → List PlainStmt) (each : (k : ℕ) → TextTree n (pieces k)) where
    assigned_tree : (k : ℕ) (t e : PlainExpr) → reads_in e ≤ 2 ^ 64 → IsTree false t → IsTree false e → ReadsBelow number n e → TextTree n (assigned_text number texts (pieces k) t e)
    assigned_tree k (var x) e r h g o =
        tree_join n (loads_text number texts e 0) (assign (var x) None (pure e 0) ∷ []) (loads_tree texts text_trees e 0 (omega arith) g o) (set_tree n x None (pure e 0) refl (loosen x h) (tree_pure e 0 (omega arith) g), tt)
    assigned_tree k (cell x at) e r h g o =
        tree_join n (loads_text number texts e 0) (store_text (number x) (pieces k) x at (pure e 0)) (loads_tree texts text_trees e 0 (omega arith) g o) (
          set_tree n result None (pure e 0) refl result_name (tree_pure e 0 (omega arith) g),
          (
            (refl, refl, tree_loose (cell x at) h, result_name),
            tree_join n (pieces k) (add_text (number x)) (each k) (add_tree (number x) result (small x) result_name, tt),
          ),
        )
    assigned_tree k _ e r h g o = tt

    mutual
      instrument_tree : (k : ℕ) (s : PlainStmt) → registers s ≤ 2 ^ 64 → IsInner false 0 s → StmtBelow number n s → TextTree n (instrument number texts pieces k s)
      instrument_tree k (loop x lo rel hi body) r i o = ((loosen x i.0, i.1, tree_loose lo i.2, tree_loose hi i.3, all_instrument_tree k body r i.4 o), tt)
      instrument_tree k (choice ts first other) r i o =
          ((condition_loose ts i.0, all_instrument_tree k first (omega arith) i.1 o.0, all_instrument_tree (k + sites_all first) other (omega arith) i.2 o.1), tt)
      instrument_tree k (assign t op e) r i o = assigned_tree k t (full t op e) r i.2 (tree_full t op e i.2 i.3) o.0
      instrument_tree k _ r i o = tt

      all_instrument_tree : (k : ℕ) (ss : PlainStmts) → registers_all ss ≤ 2 ^ 64 → AreInner false 0 ss → AllBelow number n ss → TextTree n (instrument_all number texts pieces k ss)
      all_instrument_tree k no_stmts r i o = tt
      all_instrument_tree k (more_stmts s ss) r i o =
          tree_join n (instrument number texts pieces k s) (instrument_all number texts pieces (k + sites s) ss) (instrument_tree k s (omega arith) i.0 o.0) (all_instrument_tree (k + sites s) ss (omega arith) i.1 o.1)

  -- ---- the tables

  module _ (reads writes : List Word → PlainExpr → List PlainStmt)
      (each_read : (xs : List Word) (e : PlainExpr) → length xs ≤ 64 → IsTree false e → ReadsBelow number n e → TextTree n (reads xs e)) (each_write : (xs : List Word) (t : PlainExpr) → length xs ≤ 64 → IsTree false t → IsShort t → TextTree n (writes xs t)) where
    mutual
      walk_tree : (xs : List Word) (s : PlainStmt) → stmt_height s + length xs ≤ 64 → IsInner false 0 s → StmtBelow number n s → TextTree n (walk reads writes xs s)
      walk_tree xs (loop x lo rel hi body) h i o =
          ((variable_name (length xs) (omega arith), i.1, tree_renamed xs (omega arith) lo i.2, tree_renamed xs (omega arith) hi i.3, all_walk_tree (x ∷ xs) body (omega arith) i.4 o), tt)
      walk_tree xs (choice ts first other) h i o =
          ((condition_renamed xs (omega arith) ts i.0, all_walk_tree xs first (omega arith) i.1 o.0, all_walk_tree xs other (omega arith) i.2 o.1), tt)
      walk_tree xs (assign t op e) h i o = tree_join n (reads xs (full t op e)) (writes xs t) (each_read xs (full t op e) (omega arith) (tree_full t op e i.2 i.3) o.0) (each_write xs t (omega arith) i.2 o.1)
      walk_tree xs (table x len) h i o = tt
      walk_tree xs begin h i o = tt
      walk_tree xs (check x e a) h i o = tt
      walk_tree xs verdict h i o = tt

      all_walk_tree : (xs : List Word) (ss : PlainStmts) → stmts_height ss + length xs ≤ 64 → AreInner false 0 ss → AllBelow number n ss → TextTree n (walk_all reads writes xs ss)
      all_walk_tree xs no_stmts h i o = tt
      all_walk_tree xs (more_stmts s ss) h i o = tree_join n (walk reads writes xs s) (walk_all reads writes xs ss) (walk_tree xs s (omega arith) i.0 o.0) (all_walk_tree xs ss (omega arith) i.1 o.1)

  module _ (a : ℕ) (l : a < n) (extents : PlainExprs) (trees : AreTrees true extents) where
    a_small : a < 2 ^ 64
    a_small = omega arith

    index_words_tree : (xs : List Word) (d : ℕ) (at : PlainExprs) → length xs ≤ 64 → d + length (list_of at) ≤ 2 ^ 64 → AreTrees false at → TextTree n (index_words xs d at)
    index_words_tree xs d no_exprs s r h = tt
    index_words_tree xs d (more_exprs e es) s r h =
        cell_or_not (λ e. IsTree false e → TextTree n (index_words xs d (more_exprs e es)))
        (λ x at c. (set_tree n (index_word d) None (cell x (renamed_all xs at)) refl (index_name d (omega arith)) (tree_renamed xs s (cell x at) c), index_words_tree xs (suc d) es s (omega arith) h.1))
        (λ e other c. subst (TextTree n) (sym (not_by_cell e (λ x at. assign (var (index_word d)) None (cell x (renamed_all xs at)) ∷ index_words xs (suc d) es) (index_words xs (suc d) es) other)) (index_words_tree xs (suc d) es s (omega arith) h.1))
        e h.0

    word_checks_tree : (d : ℕ) (at ns : PlainExprs) → d + length (list_of at) ≤ 2 ^ 64 → AreTrees true ns → TextTree n (word_checks a d at ns)
    word_checks_tree d no_exprs ns r h = tt
    word_checks_tree d (more_exprs e es) no_exprs r h = tt
    word_checks_tree d (more_exprs e es) (more_exprs k ns) r h =
        cell_or_not (λ e. TextTree n (word_checks a d (more_exprs e es) (more_exprs k ns)))
        (λ x at. ((refl, index_name d (omega arith), h.0, omega arith, l), word_checks_tree (suc d) es ns (omega arith) h.1))
        (λ e other. subst (TextTree n) (sym (not_by_cell e (λ x at. check (index_word d) k a ∷ word_checks a (suc d) es ns) (word_checks a (suc d) es ns) other)) (word_checks_tree (suc d) es ns (omega arith) h.1))
        e

    words_at_tree : (xs : List Word) (d : ℕ) (at : PlainExprs) → length xs ≤ 64 → d + length (list_of at) ≤ 2 ^ 64 → AreTrees false at → AllTrees (words_at xs d at)
    words_at_tree xs d no_exprs s r h = tt
    words_at_tree xs d (more_exprs e es) s r h = (
      cell_or_not (λ e. IsTree false e → IsTree true (by_cell e (λ x at. var (index_word d)) (cast (renamed xs e))))
          (λ x at c. index_name d (omega arith))
          (λ e other c. subst (IsTree true) (sym (not_by_cell e (λ x at. var (index_word d)) (cast (renamed xs e)) other)) (tree_renamed xs s e c))
          e h.0,
      words_at_tree xs (suc d) es s (omega arith) h.1,
    )

    inspect_cell_tree : (xs : List Word) (x : Word) (at : PlainExprs) → length xs ≤ 64 → length (list_of at) ≤ 3 → AreTrees false at → TextTree n (inspect_cell number a extents xs x at)
    inspect_cell_tree xs x at s r h =
        let row : IsTree true (row_of extents (words_at xs 0 at)) = row_tree extents (words_at xs 0 at) trees (words_at_tree xs 0 at s (omega arith) h) in
        tree_if n (nat_eq (number x) a) _
        (tree_join n (index_words xs 0 at) (word_checks a 0 at extents ++ count_current a (row_of extents (words_at xs 0 at)) ∷ []) (index_words_tree xs 0 at s (omega arith) h)
        (tree_join n (word_checks a 0 at extents) (count_current a (row_of extents (words_at xs 0 at)) ∷ []) (word_checks_tree 0 at extents (omega arith) trees)
        ((refl, refl, (counts_name a a_small, ((row, (current_name a a_small, (row, tt))), tt)), omega arith), tt)))

    inspect_indices_tree : (xs : List Word) (at : PlainExprs) → length xs ≤ 64 → AreShort at → AreTrees false at → TextTree n (inspect_indices number a extents xs at)
    inspect_indices_tree xs no_exprs s r h = tt
    inspect_indices_tree xs (more_exprs e es) s r h =
        cell_or_not (λ e. IsTree false e → IsShort e → TextTree n (inspect_indices number a extents xs (more_exprs e es)))
        (λ x at c g. tree_join n (inspect_cell number a extents xs x at) (inspect_indices number a extents xs es) (inspect_cell_tree xs x at s g (subscripts_trees at c.1)) (inspect_indices_tree xs es s r.1 h.1))
        (λ e other c g. subst (TextTree n) (sym (not_by_cell e (λ x at. inspect_cell number a extents xs x at ++ inspect_indices number a extents xs es) (inspect_indices number a extents xs es) other)) (inspect_indices_tree xs es s r.1 h.1))
        e h.0 r.0

    inspect_reads_tree : (xs : List Word) (e : PlainExpr) → length xs ≤ 64 → IsTree false e → ReadsBelow number n e → TextTree n (inspect_reads number a extents xs e)
    inspect_reads_tree xs (lit k) s h o = tt
    inspect_reads_tree xs (var x) s h o = tt
    inspect_reads_tree xs (cell x at) s h o =
        tree_join n (inspect_indices number a extents xs at) (inspect_cell number a extents xs x at) (inspect_indices_tree xs at s o.2 (subscripts_trees at h.1)) (inspect_cell_tree xs x at s o.1 (subscripts_trees at h.1))
    inspect_reads_tree xs (un op e) s h o = inspect_reads_tree xs e s h o
    inspect_reads_tree xs (bin op e g) s h o = tree_join n (inspect_reads number a extents xs e) (inspect_reads number a extents xs g) (inspect_reads_tree xs e s h.0 o.0) (inspect_reads_tree xs g s h.1 o.1)
    inspect_reads_tree xs (cast e) s h o = inspect_reads_tree xs e s h o
    inspect_reads_tree xs (test rel e g) s h o = tree_join n (inspect_reads number a extents xs e) (inspect_reads number a extents xs g) (inspect_reads_tree xs e s h.0 o.0) (inspect_reads_tree xs g s h.1 o.1)
    inspect_reads_tree xs (umin e g) s h o = tree_join n (inspect_reads number a extents xs e) (inspect_reads number a extents xs g) (inspect_reads_tree xs e s h.0 o.0) (inspect_reads_tree xs g s h.1 o.1)
    inspect_reads_tree xs (umax e g) s h o = tree_join n (inspect_reads number a extents xs e) (inspect_reads number a extents xs g) (inspect_reads_tree xs e s h.0 o.0) (inspect_reads_tree xs g s h.1 o.1)
    inspect_reads_tree xs _ s h o = tt

    one_more_tree : TextTree n (one_more a ∷ [])
    one_more_tree = (set_tree n (written a) (Some Add) (lit 1) refl (written_name a a_small) (omega arith), tt)

    reset_tree : TextTree n (set_word (written a) 0 ∷ [])
    reset_tree = (set_tree n (written a) None (lit 0) refl (written_name a a_small) (omega arith), tt)

    count_writes_tree : (xs : List Word) (t : PlainExpr) → length xs ≤ 64 → IsTree false t → TextTree n (count_writes number a xs t)
    count_writes_tree xs (cell x at) s h = tree_if n (nat_eq (number x) a) _ one_more_tree
    count_writes_tree xs _ s h = tt

    number_writes_tree : (xs : List Word) (t : PlainExpr) → length xs ≤ 64 → IsTree false t → IsShort t → TextTree n (number_writes number a extents xs t)
    number_writes_tree xs (cell x at) s h g =
        let row : IsTree true (row_of extents (words_at xs 0 at)) = row_tree extents (words_at xs 0 at) trees (words_at_tree xs 0 at s (omega arith) (subscripts_trees at h.1)) in
        tree_if n (nat_eq (number x) a) _ ((refl, refl, (current_name a a_small, (row, tt)), (next_tree a extents a_small trees, row)), one_more_tree)
    number_writes_tree xs _ s h g = tt

    build_top : (whole : PlainStmts) → stmts_height whole ≤ 64 → AreInner false 0 whole → AllBelow number n whole → AreTop n (build number whole a extents)
    build_top whole s i o =
        let resets : AreTop n (set_word (written a) 0 ∷ []) = top_all n (set_word (written a) 0 ∷ []) reset_tree in (
          resets.0,
          top_join n (walk_all no_reads (count_writes number a) [] whole) _
              (top_all n (walk_all no_reads (count_writes number a) [] whole) (all_walk_tree no_reads (count_writes number a) (λ xs e l h g. tt) (λ xs t l h g. count_writes_tree xs t l h) [] whole (omega arith) i o)) (
                (current_name a a_small, cells_tree extents trees),
                (
                  (counts_name a a_small, next_tree a extents a_small trees),
                  (
                    resets.0,
                    top_join n (walk_all (inspect_reads number a extents) (number_writes number a extents) [] whole) (set_word (written a) 0 ∷ [])
                        (top_all n (walk_all (inspect_reads number a extents) (number_writes number a extents) [] whole) (all_walk_tree (inspect_reads number a extents) (number_writes number a extents) inspect_reads_tree number_writes_tree [] whole (omega arith) i o)) resets,
                  ),
                ),
              ),
        )

  builds_top : (whole : PlainStmts) → stmts_height whole ≤ 64 → AreInner false 0 whole → AllBelow number n whole → (a : ℕ) (ps : List PlainParam) → a + length (array_names ps) ≤ n → AreParams false ps → AreTop n (builds number whole a (arrays_with_extents ps))
  builds_top whole s i o a [] l h = tt
  builds_top whole s i o a (int_param x ∷ ps) l h = builds_top whole s i o a ps l h.1
  builds_top whole s i o a (array_param x c es ∷ ps) l h =
      top_join n (if inspects_all number a whole then build number whole a es else []) (builds number whole (suc a) (arrays_with_extents ps))
      (top_if n (inspects_all number a whole) _ (build_top a (omega arith) es (trees_loose es (subscripts_trees es h.1)) whole s i o)) (builds_top whole s i o (suc a) ps (omega arith) h.3)

  -- ---- the prologue

  loops_tree : (body : List PlainStmt) (d : ℕ) (es : PlainExprs) → d + length (list_of es) ≤ 64 → AreTrees false es → TextTree n body → TextTree n (cell_loops d es body)
  loops_tree body d no_exprs h g b = b
  loops_tree body d (more_exprs e es) h g b = ((coordinate_name d (omega arith), refl, omega arith, tree_loose e g.0, loops_tree body (suc d) es (omega arith) g.1 b), tt)

  prologue_tree : (cells : ℕ → PlainExprs → List PlainStmt) → ((a : ℕ) (es : PlainExprs) → a < 2 ^ 64 → AreSubscripts false es → length (list_of es) ≤ 3 → TextTree n (cells a es)) →
      (a : ℕ) (ps : List PlainParam) → a + length (array_names ps) ≤ 2 ^ 64 → AreParams false ps → TextTree n (prologue_text cells a (arrays_with_extents ps))
  prologue_tree cells each a [] s g = tt
  prologue_tree cells each a (int_param x ∷ ps) s g = prologue_tree cells each a ps s g.1
  prologue_tree cells each a (array_param x c es ∷ ps) s g =
      let few : length (list_of es) ≤ 3 = g.2 in
      let at : AreSubscripts true (coordinates_from 0 es) = coordinate_subscripts false es g.1 few in
      tree_join n (array_text a x es (cells a es)) (prologue_text cells (suc a) (arrays_with_extents ps))
      (loops_tree (cell_text a x es (cells a es)) 0 es (omega arith) (subscripts_trees es g.1) (
        set_tree n (register 0) None (cell x (coordinates_from 0 es)) refl (register_name 0 (omega arith)) (loosen x g.0, at),
        tree_join n (cells a es) (add_cell a) (each a es (omega arith) g.1 few) (add_tree a (register 0) (omega arith) (register_name 0 (omega arith)), tt),
      ))
      (prologue_tree cells each (suc a) ps (omega arith) g.3)

-- ---- the head

number_low : (k : ℕ) (ws : List Word) (x : Word) → number_from k ws x ≤ k + length ws
number_low k [] x = omega arith
number_low k (w ∷ ws) x = elim (cases_Bool (bytes_eq w x)) [
  | inl e ↦ rw e (omega arith)
  | inr e ↦ rw e (let r = number_low (suc k) ws x in omega arith)
]

lines_loose : (rs : List (Word × ℤ × ℤ)) → AreLines false rs → AreLines true rs
lines_loose [] h = tt
lines_loose (r ∷ rs) h = (record { name = loosen r.0 h.0.name; low = h.0.low; high = h.0.high }, lines_loose rs h.1)

params_loose : (ps : List PlainParam) → AreParams false ps → AreParams true ps
params_loose [] h = tt
params_loose (int_param x ∷ ps) h = (loosen x h.0, params_loose ps h.1)
params_loose (array_param x c es ∷ ps) h = (loosen x h.0, subscripts_loose es h.1, h.2, params_loose ps h.3)

registers_named : (i n : ℕ) (rest : List (Word × ℕ)) → i + n ≤ 2 ^ 64 → AreWords true rest → AreWords true (register_words i n ++ rest)
registers_named i zero rest h g = g
registers_named i (suc n) rest h g = (register_name i (omega arith), omega arith, registers_named (suc i) n rest (omega arith) g)

index_words_named : (i n : ℕ) (rest : List (Word × ℕ)) → i + n ≤ 2 ^ 64 → AreWords true rest → AreWords true (index_words_from i n ++ rest)
index_words_named i zero rest h g = g
index_words_named i (suc n) rest h g = (index_name i (omega arith), omega arith, index_words_named (suc i) n rest (omega arith) g)

written_words_named : (number : Word → ℕ) (whole : PlainStmts) (a : ℕ) (ds : List (Word × PlainExprs)) → a + length ds ≤ 2 ^ 64 → AreWords true (written_words number whole a ds)
written_words_named number whole a [] h = tt
written_words_named number whole a (d ∷ ds) h = elim (cases_Bool (inspects_all number a whole)) [
  | inl e ↦ rw e (written_name a (omega arith), omega arith, written_words_named number whole (suc a) ds (omega arith))
  | inr e ↦ rw e (written_words_named number whole (suc a) ds (omega arith))
]

words_named : (ws : List (Word × ℕ)) (n : ℕ) (extra : List (Word × ℕ)) → n ≤ 2 ^ 64 → AreWords false ws → AreWords true extra → AreWords true (ws ++ (own_words n ++ extra))
words_named [] n extra h g k =
    subst (AreWords true) (sym (append_assoc (register_words 0 n) ((result, 0) ∷ (active, 0) ∷ (counter, 0) ∷ []) extra))
    (registers_named 0 n ((result, 0) ∷ (active, 0) ∷ (counter, 0) ∷ extra) (omega arith) (result_name, omega arith, (active_name, omega arith, (counter_name, omega arith, k))))
words_named (w ∷ ws) n extra h g k = (loosen w.0 g.0, g.1, words_named ws n extra h g.2 k)

text_words_named : (u : PlainUnit) → AreRanked u.params → length (array_names u.params) ≤ 16 → max 1 (registers_all u.body) ≤ 2 ^ 64 → AreWords false u.words → AreWords true (words_of_text u.params u.words (max 1 (registers_all u.body)) u.body)
text_words_named u ranked few h g =
    let number : Word → ℕ = number_in (array_names u.params) in
    let decls : List (Word × PlainExprs) = arrays_with_extents u.params in
    let many : length (array_names u.params) ≡ length decls = length-map decls (λ d. d.0) in
    let wide = widest_small number u.body 0 u.params ranked in
    let own : List (Word × ℕ) = own_words (max 1 (registers_all u.body)) in
    subst (AreWords true) (sym (append_assoc u.words own (table_words number u.body decls)))
    (words_named u.words (max 1 (registers_all u.body)) (table_words number u.body decls) h g
    (index_words_named 0 (widest number u.body 0 decls) (written_words number u.body 0 decls) (omega arith) (written_words_named number u.body 0 decls (omega arith))))

extents_named : (ps : List PlainParam) (x : Word) → AreParams false ps → AreTrees true (extents_of ps x)
extents_named [] x h = tt
extents_named (int_param y ∷ ps) x h = extents_named ps x h.1
extents_named (array_param y c es ∷ ps) x h = chosen (bytes_eq y x) (extents_named ps x h.3)
  where
    chosen : (b : Bool) → AreTrees true (extents_of ps x) → AreTrees true (if b then es else extents_of ps x)
    chosen true g = trees_loose es (subscripts_trees es h.1)
    chosen false g = g

totals_named : (a : ℕ) (names : List Word) → a + length names ≤ 2 ^ 64 → AreNames true (total_names a names)
totals_named a [] h = tt
totals_named a (x ∷ xs) h = (definition_name a (omega arith), (use_name a (omega arith), totals_named (suc a) xs (omega arith)))

-- ---- the unit

same_arrays : (ps : List PlainParam) → length (arrays_in ps) ≡ length (array_names ps)
same_arrays [] = refl
same_arrays (int_param x ∷ ps) = same_arrays ps
same_arrays (array_param x c es ∷ ps) = ap suc (same_arrays ps)

pub ranked : (ps : List PlainParam) → AreParams false ps → AreRanked ps
ranked [] h = tt
ranked (int_param x ∷ ps) h = ranked ps h.1
ranked (array_param x c no_exprs ∷ ps) h = absurd h.1
ranked (array_param x c (more_exprs e es) ∷ ps) h = (omega arith, h.2, ranked ps h.3)

-- with any pieces that are trees, of at most p and high
pub text_tree : (u : PlainUnit) → length (array_names u.params) ≤ 16 → registers_all u.body ≤ 16 → IsSourceTree u → AllBelow (number_in (array_names u.params)) (length (array_names u.params)) u.body →
    (p high : ℕ) → 2 ≤ p → p ≤ 97 → 72 ≤ high → high ≤ 256 → (cells : ℕ → PlainExprs → List PlainStmt) (pieces : ℕ → List PlainStmt) →
    ((a : ℕ) (es : PlainExprs) → heights es ≤ 64 → length (list_of es) ≤ 3 → Low p high (cells a es)) → ((k : ℕ) → Low p high (pieces k)) →
    ((a : ℕ) (es : PlainExprs) → a < 2 ^ 64 → AreSubscripts false es → length (list_of es) ≤ 3 → TextTree (length (array_names u.params)) (cells a es)) → ((k : ℕ) → TextTree (length (array_names u.params)) (pieces k)) →
    IsPrintedTree (with_pieces u cells pieces)
text_tree u arrays loads t below p high one most over under cells pieces low_cells low_pieces each_cells each =
    let n : ℕ = length (array_names u.params) in
    let number : Word → ℕ = number_in (array_names u.params) in
    let decls : List (Word × PlainExprs) = arrays_with_extents u.params in
    let small : (x : Word) → number x < 2 ^ 64 = λ x. (let l = number_low 0 (array_names u.params) x in omega arith) in
    let low : IsLow (63 + p) high (with_pieces u cells pieces) = text_low u (ranked u.params t.head.params) t.low p high one over cells pieces low_cells low_pieces in
    let hs = low.stmts in
    let he = low.exprs in
    let hx = low.extents in
    let same = same_arrays u.params in
    let before : AreTop n (builds number u.body 0 decls ++ prologue_text cells 0 decls) =
    top_join n (builds number u.body 0 decls) (prologue_text cells 0 decls) (builds_top n arrays number small u.body t.low.stmts t.body below 0 u.params (omega arith) t.head.params)
    (top_all n (prologue_text cells 0 decls) (prologue_tree n arrays number small cells each_cells 0 u.params (omega arith) t.head.params)) in
    let after : AreTop n (instrument_all number (extents_of u.params) pieces 0 u.body) =
    top_all n (instrument_all number (extents_of u.params) pieces 0 u.body)
    (all_instrument_tree n arrays number small (extents_of u.params) (λ x. extents_named u.params x t.head.params) pieces each 0 u.body (omega arith) t.body below) in
    record {
      version = refl;
      few_arrays = omega arith;
      head = record {
        ranges = lines_loose u.ranges t.head.ranges;
        name = text_name u.name t.head.name;
        some_param = t.head.some_param;
        params = params_loose u.params t.head.params;
        words = text_words_named u (ranked u.params t.head.params) arrays (omega arith) t.head.words;
        wides = (count_name, totals_named 0 (array_names u.params) (omega arith));
      };
      before = builds number u.body 0 decls ++ prologue_text cells 0 decls;
      after = instrument_all number (extents_of u.params) pieces 0 u.body;
      parts = ap stmts_of (sym (append_assoc (builds number u.body 0 decls) (prologue_text cells 0 decls) (begin ∷ (instrument_all number (extents_of u.params) pieces 0 u.body ++ verdict ∷ []))));
      before_trees = subst (λ k. AreTop k (builds number u.body 0 decls ++ prologue_text cells 0 decls)) (sym same) before;
      after_trees = subst (λ k. AreTop k (instrument_all number (extents_of u.params) pieces 0 u.body)) (sym same) after;
      low = record { stmts = omega arith; exprs = omega arith; extents = omega arith };
    }

pub printed_tree : (u : PlainUnit) → length (array_names u.params) ≤ 16 → registers_all u.body ≤ 16 → IsSourceTree u → AllBelow (number_in (array_names u.params)) (length (array_names u.params)) u.body → IsPrintedTree (guarded u)
printed_tree u arrays loads t below =
    let n : ℕ = length (array_names u.params) in
    let number : Word → ℕ = number_in (array_names u.params) in
    let small : (x : Word) → number x < 2 ^ 64 = λ x. (let l = number_low 0 (array_names u.params) x in omega arith) in
    let low : stmts_height u.body ≤ 64 = t.low.stmts in
    let k : AreRanked u.params = ranked u.params t.head.params in
    text_tree u arrays loads t below 66 72 (omega arith) (omega arith) (omega arith) (omega arith) (initial_piece number u.body) (piece_at (site_pieces_all number (extents_of u.params) u.body 0 u.body))
    (cells_low u k t.low) (pieces_low u k t.low)
    (λ a es s h few. initial_piece_tree n arrays number small u.body low t.body a es s h few)
    (piece_tree n arrays number small u.body low t.body (extents_of u.params) (λ x. extents_named u.params x t.head.params))

pub suited_tree : (u : PlainUnit) → IsSuited u → IsSourceTree u → IsPrintedTree (guarded u)
suited_tree u r t =
    printed_tree u r.few_arrays (all_few_loads u u.body [] r.body) t
    (all_below u.params (function_name u.name) (head_of u.params u.words 1 u.body []) (λ x h. h) (λ x h. array_rank u.params x r.ranked) u.body [] (all_source u r 1 [] 0 tt u.body [] tt r.body))
