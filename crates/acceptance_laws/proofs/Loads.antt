-- The loads of an assignment, its value over the loaded words, and its store.
use Rattle.std.proofs.Common.{◌≡◌, ℕ, ◌+◌, ◌<◌, ◌≤◌, Bool, true, false, suc, List, [], ◌∷◌, ◌++◌, length, refl, sym, ap, ◌∙◌, subst, arith, inl, inr, true≢false, None, Some}
use Rattle.c_tree.specs.Plain.{Word, PlainExpr, lit, var, cell, un, bin, cast, test, umin, umax, least, greatest, widen, PlainExprs, no_exprs, more_exprs, PlainStmt, assign, check}
use Rattle.c_tree.specs.declared.expr.BinOp.{BinOp}
use Rattle.c_tree.specs.declared.expr.BinOp.TheVariants.{Add, Mul, Div, Rem, Shl, Shr}
use Rattle.instrumentation.specs.Names.{register, result, count, definition_total, use_total}
use Rattle.instrumentation.specs.Subscripts.{indices_in}
use Rattle.instrumentation.proofs.Subscripts.{cell_or_not, not_by_cell}
use Rattle.instrumentation.specs.Body.{reads_in, load_text, index_loads, index_checks, by_words, read_text, loads_text, pure, add_text, store_text, assigned_text}
use Rattle.acceptance.specs.Items.{Loop, Scope, is_array}
use Rattle.acceptance.specs.Printed.{is_shift_amount, is_divisor, has_good_side}
use Rattle.acceptance.specs.Head.{list_of}
use Rattle.acceptance_laws.proofs.Expressions.{IsWordAt, IsIndex, AreIndices, IsCellAt, IsSubscript, AreReadable, IsReadAt, IsValue, IsData, IsTarget, IsWords, words_of, ArePlaced, index_placed, word_placed, placed_words, subscript_index, widen_wide, product_wide}
use Rattle.acceptance_laws.proofs.Fine.{inside, TextFine, fine_join}
use Rattle.acceptance_laws.proofs.Statements.{word_fine, wide_fine, words_fine, store_fine, check_fine}
use Rattle.acceptance_laws.proofs.Declared.{Declares, AreFree, word_inside, wide_inside}
use Rattle.acceptance_laws.proofs.Renamed.{head_reaches, index_reaches}

-- a shift amount and a divisor stay
amount_pure : (b : PlainExpr) (j : ℕ) → is_shift_amount b ≡ true → is_shift_amount (pure b j) ≡ true
amount_pure (lit n) j h = h
amount_pure _ j h = absurd (true≢false (sym h))

divisor_pure : (b : PlainExpr) (j : ℕ) → is_divisor b ≡ true → is_divisor (pure b j) ≡ true
divisor_pure (lit n) j h = h
divisor_pure _ j h = absurd (true≢false (sym h))

side_pure : (op : BinOp) (b : PlainExpr) (j : ℕ) → has_good_side op b ≡ true → has_good_side op (pure b j) ≡ true
side_pure Shl b j h = amount_pure b j h
side_pure Shr b j h = amount_pure b j h
side_pure Div b j h = divisor_pure b j h
side_pure Rem b j h = divisor_pure b j h
side_pure _ b j h = refl

-- a signed expression reads no cell, and stays
index_pure : (sc : Scope) (bound : Bool) (e : PlainExpr) (j : ℕ) → IsIndex sc bound e → IsIndex sc bound (pure e j)
index_pure sc bound (lit n) j h = tt
index_pure sc bound (var x) j h = h
index_pure sc bound (un op a) j h = (h.0, index_pure sc bound a j h.1)
index_pure sc bound (bin op a b) j h = (h.0, index_pure sc bound a j h.1, index_pure sc bound b (j + reads_in a) h.2)
index_pure sc bound (least a b) j h = h
index_pure sc bound (greatest a b) j h = h
index_pure sc bound _ j h = absurd h

words_many : (at : PlainExprs) (j : ℕ) → length (list_of (by_words at j)) ≡ length (list_of at)
words_many no_exprs j = refl
words_many (more_exprs e es) j =
    cell_or_not (λ e. length (list_of (by_words (more_exprs e es) j)) ≡ suc (length (list_of es)))
    (λ x at. ap suc (words_many es (j + 1)))
    (λ e other. ap (λ ds. length (list_of ds)) (not_by_cell e (λ x at. more_exprs (var (register j)) (by_words es (j + 1))) (more_exprs e (by_words es j)) other) ∙ ap suc (words_many es j))
    e

module _ (f : Word) (number : Word → ℕ) (few : ℕ) (sc : Scope) (declares : Declares f number few sc) (ls : List Loop) (free : AreFree sc ls)
    (texts : Word → PlainExprs) (extents : (x : Word) → AreIndices (inside sc []) (texts x)) where
  abbrev pub place : Scope
  place = inside sc ls

  pub register_here : (j : ℕ) → j < few → IsWordAt place (register j)
  register_here j h = word_inside sc ls (register j) free (declares.registers j h)

  pub result_here : IsWordAt place result
  result_here = word_inside sc ls result free declares.stored_word

  -- ---- loads

  pub load_fine : (x : Word) (at : PlainExprs) (j : ℕ) → is_array sc.params x ≡ true → IsWords place (cell x at) → j < few → TextFine f sc (load_text (number x) x at j) ls
  load_fine x at j a c h = (
    words_fine f place (register j) None (cell x at) (register_here j h) c,
    (wide_fine f place (use_total (number x)) (Some Add) (widen (var (register j))) refl (wide_inside sc ls (use_total (number x)) (declares.used x a)) (widen_wide place (register j) (register_here j h)), tt),
  )

  index_cells_fine : (at : PlainExprs) (j : ℕ) → AreReadable place at → j + indices_in at ≤ few → TextFine f sc (index_loads number at j) ls
  index_cells_fine no_exprs j h r = tt
  index_cells_fine (more_exprs e es) j h r =
      cell_or_not (λ e. IsSubscript place e → j + indices_in (more_exprs e es) ≤ few → TextFine f sc (index_loads number (more_exprs e es) j) ls)
      (λ x at c m. (let n : j + (1 + indices_in es) ≤ few = m in
      fine_join f sc ls (load_text (number x) x at j) (index_loads number es (j + 1)) (load_fine x at j c.array (words_of place (cell x at) c) (omega arith)) (index_cells_fine es (j + 1) h.1 (omega arith))))
      (λ e other c m. subst (λ (l : List PlainStmt). TextFine f sc l ls) (sym (not_by_cell e (λ x at. load_text (number x) x at j ++ index_loads number es (j + 1)) (index_loads number es j) other))
      (index_cells_fine es j h.1 (let q : indices_in (more_exprs e es) ≡ indices_in es = not_by_cell e (λ x at. 1 + indices_in es) (indices_in es) other in omega arith)))
      e h.0 r

  checks_fine : (a : ℕ) (at ns : PlainExprs) (j : ℕ) → AreIndices (inside sc []) ns → j + indices_in at ≤ few → TextFine f sc (index_checks a at ns j) ls
  checks_fine a no_exprs ns j h r = tt
  checks_fine a (more_exprs e es) no_exprs j h r = tt
  checks_fine a (more_exprs e es) (more_exprs n ns) j h r =
      cell_or_not (λ e. j + indices_in (more_exprs e es) ≤ few → TextFine f sc (index_checks a (more_exprs e es) (more_exprs n ns) j) ls)
      (λ x at m. (let k : j + (1 + indices_in es) ≤ few = m in
      (check_fine f place (register j) n a (register_here j (omega arith)) (index_reaches (inside sc []) place (head_reaches sc ls) false n h.0), checks_fine a es ns (j + 1) h.1 (omega arith))))
      (λ e other m. subst (λ (l : List PlainStmt). TextFine f sc l ls) (sym (not_by_cell e (λ x at. check (register j) n a ∷ index_checks a es ns (j + 1)) (index_checks a es ns j) other))
      (checks_fine a es ns j h.1 (let q : indices_in (more_exprs e es) ≡ indices_in es = not_by_cell e (λ x at. 1 + indices_in es) (indices_in es) other in omega arith)))
      e r

  words_placed : (at : PlainExprs) (j : ℕ) → AreReadable place at → j + indices_in at ≤ few → ArePlaced place (by_words at j)
  words_placed no_exprs j h r = tt
  words_placed (more_exprs e es) j h r =
      cell_or_not (λ e. IsSubscript place e → j + indices_in (more_exprs e es) ≤ few → ArePlaced place (by_words (more_exprs e es) j))
      (λ x at c m. (let k : j + (1 + indices_in es) ≤ few = m in (word_placed place (register j) (register_here j (omega arith)), words_placed es (j + 1) h.1 (omega arith))))
      (λ e other c m. subst (ArePlaced place) (sym (not_by_cell e (λ x at. more_exprs (var (register j)) (by_words es (j + 1))) (more_exprs e (by_words es j)) other))
      (index_placed place e (subscript_index place e other c), words_placed es j h.1 (let q : indices_in (more_exprs e es) ≡ indices_in es = not_by_cell e (λ x at. 1 + indices_in es) (indices_in es) other in omega arith)))
      e h.0 r

  -- a read: its index cells, their checks, and the cell itself
  pub read_fine : (x : Word) (at : PlainExprs) (j : ℕ) → IsReadAt place x at → j + indices_in at < few → TextFine f sc (read_text number texts x at j) ls
  read_fine x at j c r =
      fine_join f sc ls (index_loads number at j) (index_checks (number x) at (texts x) j ++ load_text (number x) x (by_words at j) (j + indices_in at)) (index_cells_fine at j c.subscripts (omega arith))
      (fine_join f sc ls (index_checks (number x) at (texts x) j) (load_text (number x) x (by_words at j) (j + indices_in at)) (checks_fine (number x) at (texts x) j (extents x) (omega arith))
      (load_fine x (by_words at j) (j + indices_in at) c.array (placed_words place x (by_words at j) c.array (c.rank ∙ sym (words_many at j)) (words_placed at j c.subscripts (omega arith))) r))

  index_loads_fine : (e : PlainExpr) (j : ℕ) → IsIndex place false e → TextFine f sc (loads_text number texts e j) ls
  index_loads_fine (lit n) j h = tt
  index_loads_fine (var x) j h = tt
  index_loads_fine (un op a) j h = index_loads_fine a j h.1
  index_loads_fine (bin op a b) j h = fine_join f sc ls (loads_text number texts a j) (loads_text number texts b (j + reads_in a)) (index_loads_fine a j h.1) (index_loads_fine b (j + reads_in a) h.2)
  index_loads_fine (least a b) j h = tt
  index_loads_fine (greatest a b) j h = tt
  index_loads_fine _ j h = absurd h

  pub loads_fine : (e : PlainExpr) (j : ℕ) → IsValue place e → j + reads_in e ≤ few → TextFine f sc (loads_text number texts e j) ls
  loads_fine (lit n) j h r = tt
  loads_fine (var x) j h r = tt
  loads_fine (cell x at) j h r = read_fine x at j h (omega arith)
  loads_fine (un op a) j h r = loads_fine a j h r
  loads_fine (bin op a b) j h r = fine_join f sc ls (loads_text number texts a j) (loads_text number texts b (j + reads_in a)) (loads_fine a j h.1 (omega arith)) (loads_fine b (j + reads_in a) h.2 (omega arith))
  loads_fine (cast a) j (inl h) r = loads_fine a j h r
  loads_fine (cast a) j (inr h) r = index_loads_fine a j h
  loads_fine (test rel a b) j h r = fine_join f sc ls (loads_text number texts a j) (loads_text number texts b (j + reads_in a)) (loads_fine a j h.0 (omega arith)) (loads_fine b (j + reads_in a) h.1 (omega arith))
  loads_fine (umin a b) j h r = fine_join f sc ls (loads_text number texts a j) (loads_text number texts b (j + reads_in a)) (loads_fine a j h.0 (omega arith)) (loads_fine b (j + reads_in a) h.1 (omega arith))
  loads_fine (umax a b) j h r = fine_join f sc ls (loads_text number texts a j) (loads_text number texts b (j + reads_in a)) (loads_fine a j h.0 (omega arith)) (loads_fine b (j + reads_in a) h.1 (omega arith))
  loads_fine _ j h r = absurd h

  -- ---- the value over the loaded words

  pub pure_data : (e : PlainExpr) (j : ℕ) → IsValue place e → j + reads_in e ≤ few → IsData place (pure e j)
  pure_data (lit n) j h r = tt
  pure_data (var x) j h r = h
  pure_data (cell x at) j h r = register_here (j + indices_in at) (omega arith)
  pure_data (un op a) j h r = pure_data a j h r
  pure_data (bin op a b) j h r = (side_pure op b (j + reads_in a) h.0, pure_data a j h.1 (omega arith), pure_data b (j + reads_in a) h.2 (omega arith))
  pure_data (cast a) j (inl h) r = inl (pure_data a j h r)
  pure_data (cast a) j (inr h) r = inr (index_pure place false a j h)
  pure_data (test rel a b) j h r = (pure_data a j h.0 (omega arith), pure_data b (j + reads_in a) h.1 (omega arith))
  pure_data (umin a b) j h r = (pure_data a j h.0 (omega arith), pure_data b (j + reads_in a) h.1 (omega arith))
  pure_data (umax a b) j h r = (pure_data a j h.0 (omega arith), pure_data b (j + reads_in a) h.1 (omega arith))
  pure_data _ j h r = absurd h

  -- ---- stores

  pub add_fine : (x : Word) → is_array sc.params x ≡ true → TextFine f sc (add_text (number x)) ls
  add_fine x a = (
    wide_fine f place (definition_total (number x)) (Some Add) (bin Mul (widen (var result)) (var count)) refl (wide_inside sc ls (definition_total (number x)) (declares.defined x a))
        (product_wide place result count result_here (wide_inside sc ls count declares.count_wide)),
    tt,
  )

  pub store_text_fine : (piece : List PlainStmt) (x : Word) (at : PlainExprs) (e : PlainExpr) → IsCellAt place x at → IsData place e → TextFine f sc piece ls → TextFine f sc (store_text (number x) piece x at e) ls
  store_text_fine piece x at e c d p = (
    word_fine f place result None e result_here d,
    (
      store_fine f place x at None (var result) c result_here,
      fine_join f sc ls piece (add_text (number x)) p (add_fine x c.array),
    ),
  )

  pub assigned_fine : (piece : List PlainStmt) (t e : PlainExpr) → IsTarget place t → IsValue place e → reads_in e ≤ few → TextFine f sc piece ls → TextFine f sc (assigned_text number texts piece t e) ls
  assigned_fine piece (var x) e t d r p =
      fine_join f sc ls (loads_text number texts e 0) (assign (var x) None (pure e 0) ∷ []) (loads_fine e 0 d (omega arith)) (word_fine f place x None (pure e 0) t (pure_data e 0 d (omega arith)), tt)
  assigned_fine piece (cell x at) e t d r p =
      fine_join f sc ls (loads_text number texts e 0) (store_text (number x) piece x at (pure e 0)) (loads_fine e 0 d (omega arith)) (store_text_fine piece x at (pure e 0) t (pure_data e 0 d (omega arith)) p)
  assigned_fine piece _ e t d r p = absurd t
