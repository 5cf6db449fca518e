-- What single fragments of an instrumented text do, each as one equation of its run.
use Rattle.std.proofs.Common.{◌≡◌, ℕ, ◌+◌, ◌*◌, ◌%◌, ◌^◌, Bool, true, false, cond, ◌&&◌, if◌then◌else◌, List, [], ◌∷◌, ◌++◌, length, refl, sym, ap, ◌∙◌, subst, ℤ, pos, Option, Some, None}
use Rattle.std.specs.Prelude.{bytes_eq, slice_index}
use Rattle.std.specs.List.{list_any}
use Rattle.c_tree.specs.Plain.{Word, PlainExpr, var, cell, widen, PlainExprs, no_exprs, more_exprs, PlainTest, PlainStmt, assign}
use Rattle.c_tree.specs.Trees.{stmts_of}
use Rattle.c_tree.specs.Kinds.{is_word}
use Rattle.c_tree.specs.Values.{Vars, kind, signed, signed_holds, word_bin}
use Rattle.c_tree.specs.Arrays.{Array, Memory, stored, array_named}
use Rattle.c_tree.specs.Accesses.{Access}
use Rattle.c_tree.specs.Fault.{Upset, disturbed}
use Rattle.c_tree.specs.Run.{Event, State, End, Outcome, goes_on, ends, Run, ◌>>=◌, ◌>>◌, and_then, give, done, Scope, loads, stores, logged, struck, within, by_array, put, word, wide, coordinates, first_word, updated, holds, all_hold, assigned, set_word, exec, exec_all}
use Rattle.c_tree.specs.Run as run
use Rattle.c_tree.specs.declared.expr.BinOp.{BinOp}
use Rattle.c_tree.specs.declared.expr.BinOp.TheVariants.{Add}
use Rattle.instrumentation.specs.Names.{register, result, count, use_total, definition_total}
use Rattle.instrumentation.specs.Body.{load_text, store_text, add_text, full}
use Rattle.instrumentation_laws.specs.OwnNames.{AllMayLoop}
use Rattle.instrumentation_laws.specs.RegularSources.{IsArray, AreRegular, AreSigned}
use Rattle.instrumentation_laws.specs.AccessList.{signed_all, tests_hold}
use Rattle.instrumentation_laws.specs.Pieces.{Declares, Piece}
use Rattle.instrumentation_laws.specs.Setting.{scope_of}
use Rattle.instrumentation_laws.proofs.Names.{same_word, not_in, register_may_not, result_may_not}

-- ---- runs in a row

pub assoc : {A B C : Type 0} (o : Outcome A) (f : A → Run B) (g : B → Run C) → and_then (and_then o f) g ≡ and_then o (λ a s. and_then (f a s) g)
assoc (goes_on a s) f g = refl
assoc (ends e s) f g = refl

pub both_same : {A B : Type 0} (o : Outcome A) (f g : A → Run B) → ((a : A) (s : State) → f a s ≡ g a s) → and_then o f ≡ and_then o g
both_same (goes_on a s) f g h = h a s
both_same (ends e s) f g h = refl

nothing_more : (o : Outcome (Unit {0})) → and_then o (λ u. done) ≡ o
nothing_more (goes_on u s) = refl
nothing_more (ends e s) = refl

pub exec_join : (sc : Scope) (xs ys : List PlainStmt) (vs : Vars) (s : State) →
    exec_all sc (stmts_of (xs ++ ys)) vs s ≡ and_then (exec_all sc (stmts_of xs) vs s) (λ u t. exec_all sc (stmts_of ys) vs t)
exec_join sc [] ys vs s = refl
exec_join sc (x ∷ xs) ys vs s =
    both_same (exec sc x vs s) (λ u t. exec_all sc (stmts_of (xs ++ ys)) vs t)
    (λ u t. and_then (exec_all sc (stmts_of xs) vs t) (λ u t. exec_all sc (stmts_of ys) vs t)) (λ u t. exec_join sc xs ys vs t) ∙
    sym (assoc (exec sc x vs s) (λ u t. exec_all sc (stmts_of xs) vs t) (λ u t. exec_all sc (stmts_of ys) vs t))

pub exec_one : (sc : Scope) (x : PlainStmt) (vs : Vars) (s : State) → exec_all sc (stmts_of (x ∷ [])) vs s ≡ exec sc x vs s
exec_one sc x vs s = nothing_more (exec sc x vs s)

-- ---- accesses

-- once the text has begun, the memory that the next access finds
abbrev pub found : Option Upset → State → Memory
found fault s = disturbed fault (length s.accesses) s.memory

pub struck_begun : (fault : Option Upset) (s : State) → s.begun ≡ true → struck fault s ≡ record s { memory = found fault s }
unfolding disturbed
struck_begun None s b = refl
struck_begun (Some f) s b = ap (λ t. cond t (record s { memory = found (Some f) s }) s) b

-- before that it is struck by no fault
pub struck_before : (fault : Option Upset) (s : State) → s.begun ≡ false → struck fault s ≡ s
struck_before None s b = refl
struck_before (Some f) s b = ap (λ t. cond t (record s { memory = found (Some f) s }) s) b

-- a fault changes the memory alone
pub struck_is : (fault : Option Upset) (s : State) → (m : Memory) × (struck fault s ≡ record s { memory = m })
struck_is None s = (s.memory, refl)
struck_is (Some f) s = chosen s.begun
  where
    chosen : (b : Bool) → (m : Memory) × (cond b (record s { memory = found (Some f) s }) s ≡ record s { memory = m })
    chosen true = (found (Some f) s, refl)
    chosen false = (s.memory, refl)

abbrev pub access_to : ℕ → List ℤ → Bool → Access
access_to a cs writes = record { array = a; cell = cs; writes = writes }

abbrev pub event : ℕ → List ℤ → Bool → ℕ → Event
event a cs writes n = record { access = access_to a cs writes; value = n }

-- the log with one access more
abbrev pub log : ℕ → List ℤ → Bool → ℕ → State → List Event
log a cs writes n s = s.accesses ++ event a cs writes n ∷ []

-- a log changes the accesses alone
pub logged_is : (a : ℕ) (cs : List ℤ) (w : Bool) (n : ℕ) (s : State) → (l : List Event) × (logged a cs w n s ≡ record s { accesses = l })
logged_is a cs w n s = chosen s.begun
  where
    chosen : (b : Bool) → (l : List Event) × (cond b (record s { accesses = log a cs w n s }) s ≡ record s { accesses = l })
    chosen true = (log a cs w n s, refl)
    chosen false = (s.accesses, refl)

logged_begun : (a : ℕ) (cs : List ℤ) (w : Bool) (n : ℕ) (s : State) → s.begun ≡ true → logged a cs w n s ≡ record s { accesses = log a cs w n s }
logged_begun a cs w n s b = rw b refl

-- a load and a store once the text has begun
pub load_begun : (sc : Scope) (a : ℕ) (cs : List ℤ) (s : State) → s.begun ≡ true →
    loads sc a cs s ≡ goes_on (found sc.fault s a cs) (record s { memory = found sc.fault s; accesses = log a cs false (found sc.fault s a cs) s })
load_begun sc a cs s b =
    ap (λ (t : State). let o : Outcome ℕ = goes_on (t.memory a cs) (logged a cs false (t.memory a cs) t) in o) (struck_begun sc.fault s b) ∙
    ap (λ (t : State). let o : Outcome ℕ = goes_on (found sc.fault s a cs) t in o) (logged_begun a cs false (found sc.fault s a cs) (record s { memory = found sc.fault s }) b)

pub store_begun : (sc : Scope) (a : ℕ) (cs : List ℤ) (n : ℕ) (s : State) → s.begun ≡ true →
    stores sc a cs n s ≡ goes_on tt (record s { memory = stored (found sc.fault s) a cs n; accesses = log a cs true n s })
store_begun sc a cs n s b =
    ap (λ (t : State). let o : Outcome (Unit {0}) = goes_on tt (logged a cs true n (record t { memory = stored t.memory a cs n })) in o) (struck_begun sc.fault s b) ∙
    ap (λ (t : State). let o : Outcome (Unit {0}) = goes_on tt t in o) (logged_begun a cs true n (record s { memory = stored (found sc.fault s) a cs n }) b)

-- a load before the text has begun
pub load_before : (sc : Scope) (a : ℕ) (cs : List ℤ) (s : State) → s.begun ≡ false → loads sc a cs s ≡ goes_on (s.memory a cs) s
load_before sc a cs s b =
    ap (λ (t : State). let o : Outcome ℕ = goes_on (t.memory a cs) (logged a cs false (t.memory a cs) t) in o) (struck_before sc.fault s b) ∙ rw b refl

-- ---- expressions

pub regular_at : (sc : Scope) (es : PlainExprs) (vs : Vars) (s : State) → AreRegular es vs → coordinates sc es vs s ≡ goes_on (signed_all es vs) s
regular_at sc no_exprs vs s h = refl
regular_at sc (more_exprs e es) vs s h = rw (h.0, regular_at sc es vs s h.1)

-- the load of a cell, whatever its subscripts
pub cell_run : (sc : Scope) (x : Word) (at : PlainExprs) (vs : Vars) (s : State) (a : ℕ × Array) → array_named sc.arrays x ≡ Some a → word sc (cell x at) vs s ≡ and_then (coordinates sc at vs s) (λ cs. within a cs (loads sc))
cell_run sc x at vs s a named = ap (λ o. by_array o (λ a. coordinates sc at vs >>= (λ cs. within a cs (loads sc))) (first_word sc at vs >>= (λ i. run.reads (λ s. slice_index (s.tables x) i))) s) named

-- a signed subscript, and one that is a cell
pub signed_first : (sc : Scope) (e : PlainExpr) (es : PlainExprs) (vs : Vars) (s : State) → is_word (kind vs e) ≡ false → coordinates sc (more_exprs e es) vs s ≡ and_then (coordinates sc es vs s) (λ cs t. goes_on (signed e vs ∷ cs) t)
signed_first sc e es vs s h = rw h refl

pub cell_first : (sc : Scope) (p : Word) (at es : PlainExprs) (vs : Vars) (s : State) (a : ℕ × Array) → array_named sc.arrays p ≡ Some a → AreRegular at vs →
    coordinates sc (more_exprs (cell p at) es) vs s ≡ and_then (within a (signed_all at vs) (loads sc) s) (λ n t. and_then (coordinates sc es vs t) (λ cs t. goes_on (pos n ∷ cs) t))
cell_first sc p at es vs s a named h =
    ap (λ q. and_then (and_then q (λ n. give (pos n))) (λ c t. and_then (coordinates sc es vs t) (λ cs t. goes_on (c ∷ cs) t))) (cell_run sc p at vs s a named ∙ ap (λ o. and_then o (λ cs. within a cs (loads sc))) (regular_at sc at vs s h)) ∙
    assoc (within a (signed_all at vs) (loads sc) s) (λ n. give (pos n)) (λ c t. and_then (coordinates sc es vs t) (λ cs t. goes_on (c ∷ cs) t))

-- the load of a cell
pub cell_is : (arrays : List Array) (number : Word → ℕ) (wides : List Word) (fault : Option Upset) (x : Word) (at : PlainExprs) (vs : Vars) (s : State) → (a : IsArray arrays number x) → AreRegular at vs →
    word (scope_of arrays wides fault) (cell x at) vs s ≡ within a.array (signed_all at vs) (loads (scope_of arrays wides fault)) s
cell_is arrays number wides fault x at vs s a h =
    let sc : Scope = scope_of arrays wides fault in
    ap (λ o. by_array o (λ a. coordinates sc at vs >>= (λ cs. within a cs (loads sc))) (first_word sc at vs >>= (λ i. run.reads (λ s. slice_index (s.tables x) i))) s) a.named ∙
    ap (λ o. and_then o (λ cs. within a.array cs (loads sc))) (regular_at sc at vs s h)

-- an expression is assigned to a word
pub set_is : (sc : Scope) (x : Word) (e : PlainExpr) (vs : Vars) (s : State) → list_any (bytes_eq x) sc.wides ≡ false →
    exec sc (assign (var x) None e) vs s ≡ and_then (word sc e vs s) (set_word x)
set_is sc x e vs s h = rw h refl

pub set_value : (sc : Scope) (x : Word) (e : PlainExpr) (vs : Vars) (s : State) (v : ℕ) → list_any (bytes_eq x) sc.wides ≡ false → word sc e vs s ≡ goes_on v s →
    exec sc (assign (var x) None e) vs s ≡ goes_on tt (record s { words = put s.words x v })
set_value sc x e vs s v h w = set_is sc x e vs s h ∙ ap (λ o. and_then o (set_word x)) w

-- a word is added to a total
pub add_use : (sc : Scope) (a j : ℕ) (vs : Vars) (s : State) → AllMayLoop vs → list_any (bytes_eq (use_total a)) sc.wides ≡ true →
    exec sc (assign (var (use_total a)) (Some Add) (widen (var (register j)))) vs s ≡
    goes_on tt (record s { wides = put s.wides (use_total a) ((s.wides (use_total a) + s.words (register j)) % 2 ^ 128) })
add_use sc a j vs s o h = rw (h, not_in vs (register j) o (register_may_not j)) refl

-- a word times the count is added to a total
pub add_definition : (sc : Scope) (a : ℕ) (vs : Vars) (s : State) → AllMayLoop vs → list_any (bytes_eq (definition_total a)) sc.wides ≡ true →
    exec_all sc (stmts_of (add_text a)) vs s ≡
    goes_on tt (record s { wides = put s.wides (definition_total a) ((s.wides (definition_total a) + (s.words result * s.wides count) % 2 ^ 128) % 2 ^ 128) })
add_definition sc a vs s o h = rw (h, not_in vs result o result_may_not) refl

-- ---- fragments

-- a loaded word, and its addition
abbrev pub loaded : ℕ → ℕ → ℕ → State → State
loaded a j n t = record t { words = put t.words (register j) n; wides = put t.wides (use_total a) ((t.wides (use_total a) + n) % 2 ^ 128) }

-- the addition of a definition
abbrev pub defined : ℕ → State → State
defined a t = record t { wides = put t.wides (definition_total a) ((t.wides (definition_total a) + (t.words result * t.wides count) % 2 ^ 128) % 2 ^ 128) }

module _ (arrays : List Array) (number : Word → ℕ) (wides : List Word) (fault : Option Upset) (names : Declares arrays number wides) where
  abbrev text_scope : Scope
  text_scope = scope_of arrays wides fault

  add_loaded : (a j n : ℕ) (vs : Vars) (t : State) → AllMayLoop vs → list_any (bytes_eq (use_total a)) wides ≡ true →
      exec_all text_scope (stmts_of (assign (var (use_total a)) (Some Add) (widen (var (register j))) ∷ [])) vs (record t { words = put t.words (register j) n }) ≡ goes_on tt (loaded a j n t)
  add_loaded a j n vs t o small =
      exec_one text_scope (assign (var (use_total a)) (Some Add) (widen (var (register j)))) vs (record t { words = put t.words (register j) n }) ∙
      add_use text_scope a j vs (record t { words = put t.words (register j) n }) o small ∙
      ap (λ k. goes_on tt (record t { words = put t.words (register j) n; wides = put t.wides (use_total a) ((t.wides (use_total a) + k) % 2 ^ 128) }))
      (ap (λ b. cond b n (t.words (register j))) (same_word (register j)))

  pub load_is : (x : Word) (at : PlainExprs) (j : ℕ) (vs : Vars) (s : State) → (a : IsArray arrays number x) → AreRegular at vs → AllMayLoop vs →
      exec_all text_scope (stmts_of (load_text (number x) x at j)) vs s ≡ and_then (within a.array (signed_all at vs) (loads text_scope) s) (λ n t. goes_on tt (loaded a.array.0 j n t))
  load_is x at j vs s a h o =
      let add : ℕ → List PlainStmt = λ k. assign (var (use_total k)) (Some Add) (widen (var (register j))) ∷ [] in
      let rest : Unit {0} → Run (Unit {0}) = λ u t. exec_all text_scope (stmts_of (add (number x))) vs t in
      ap (λ q. and_then q rest) (set_is text_scope (register j) (cell x at) vs s (names.registers j) ∙ ap (λ q. and_then q (set_word (register j))) (cell_is arrays number wides fault x at vs s a h)) ∙
      assoc (within a.array (signed_all at vs) (loads text_scope) s) (set_word (register j)) rest ∙
      both_same (within a.array (signed_all at vs) (loads text_scope) s) (λ n t. rest tt (record t { words = put t.words (register j) n })) (λ n t. goes_on tt (loaded a.array.0 j n t))
      (λ n t. subst (λ k. exec_all text_scope (stmts_of (add k)) vs (record t { words = put t.words (register j) n }) ≡ goes_on tt (loaded a.array.0 j n t)) (sym a.numbered)
      (add_loaded a.array.0 j n vs t o (names.used x a)))

  -- the store of a word
  pub stored_is : (x : Word) (at : PlainExprs) (vs : Vars) (s : State) → (a : IsArray arrays number x) → AreRegular at vs →
      exec text_scope (assign (cell x at) None (var result)) vs s ≡ within a.array (signed_all at vs) (λ k c. stores text_scope k c (s.words result)) s
  stored_is x at vs s a h =
      let go : ℕ × Array → Run (Unit {0}) = λ a. coordinates text_scope at vs >>= (λ cs. word text_scope (var result) vs >>= (λ n. within a cs (λ k c. stores text_scope k c n))) in
      let other : Run (Unit {0}) = first_word text_scope at vs >>= (λ i. word text_scope (var result) vs >>= run.set_entry x i) in
      ap (λ o. by_array o go other s) a.named ∙
      ap (λ o. and_then o (λ cs. word text_scope (var result) vs >>= (λ n. within a.array cs (λ k c. stores text_scope k c n)))) (regular_at text_scope at vs s h)

  -- a store, its piece, and the addition
  pub store_is : (piece : List PlainStmt) (p : Piece text_scope piece) (x : Word) (at : PlainExprs) (e : PlainExpr) (vs : Vars) (s : State) (v : ℕ) →
      (a : IsArray arrays number x) → AreRegular at vs → AllMayLoop vs → word text_scope e vs s ≡ goes_on v s →
      exec_all text_scope (stmts_of (store_text (number x) piece x at e)) vs s ≡
      and_then (within a.array (signed_all at vs) (λ k c. stores text_scope k c v) (record s { words = put s.words result v })) (λ u t. goes_on tt (defined a.array.0 (p.to vs t)))
  store_is piece p x at e vs s v a h o w =
      let two : State = record s { words = put s.words result v } in
      let tail : Run (Unit {0}) = λ t. exec_all text_scope (stmts_of (piece ++ add_text (number x))) vs t in
      let v_is : two.words result ≡ v = ap (λ b. cond b v (s.words result)) (same_word result) in
      ap (λ q. and_then q (λ (u : Unit {0}) t. exec_all text_scope (stmts_of (assign (cell x at) None (var result) ∷ (piece ++ add_text (number x)))) vs t)) (set_value text_scope result e vs s v names.stored_word w) ∙
      ap (λ q. and_then q (λ (u : Unit {0}). tail)) (stored_is x at vs two a h ∙ ap (λ n. within a.array (signed_all at vs) (λ k c. stores text_scope k c n) two) v_is) ∙
      both_same (within a.array (signed_all at vs) (λ k c. stores text_scope k c v) two) (λ u. tail) (λ u t. goes_on tt (defined a.array.0 (p.to vs t)))
      (λ u t. exec_join text_scope piece (add_text (number x)) vs t ∙
      ap (λ q. and_then q (λ (u : Unit {0}) t. exec_all text_scope (stmts_of (add_text (number x))) vs t)) (p.goes vs o t) ∙
      subst (λ k. exec_all text_scope (stmts_of (add_text k)) vs (p.to vs t) ≡ goes_on tt (defined a.array.0 (p.to vs t))) (sym a.numbered)
      (add_definition text_scope a.array.0 vs (p.to vs t) o (names.defined x a)))

-- ---- assignments and tests of a source

-- an assignment to a cell gives it the full value
pub cell_assigned : (arrays : List Array) (number : Word → ℕ) (wides : List Word) (fault : Option Upset) (x : Word) (at : PlainExprs) (op : Option BinOp) (e : PlainExpr) (vs : Vars) (s : State) →
    (a : IsArray arrays number x) → AreRegular at vs →
    assigned (scope_of arrays wides fault) (cell x at) op e vs s ≡
    and_then (word (scope_of arrays wides fault) (full (cell x at) op e) vs s) (λ n. within a.array (signed_all at vs) (λ k c. stores (scope_of arrays wides fault) k c n))
cell_assigned arrays number wides fault x at op e vs s a h =
    let sc : Scope = scope_of arrays wides fault in
    let go : ℕ × Array → Run (Unit {0}) = λ a. coordinates sc at vs >>= (λ cs. updated word_bin op (within a cs (loads sc)) (word sc e vs) >>= (λ n. within a cs (λ k c. stores sc k c n))) in
    let other : Run (Unit {0}) = first_word sc at vs >>= (λ i. updated word_bin op (run.reads (λ s. slice_index (s.tables x) i)) (word sc e vs) >>= run.set_entry x i) in
    let cs : List ℤ = signed_all at vs in
    ap (λ o. by_array o go other s) a.named ∙
    ap (λ o. and_then o (λ cs. updated word_bin op (within a.array cs (loads sc)) (word sc e vs) >>= (λ n. within a.array cs (λ k c. stores sc k c n)))) (regular_at sc at vs s h) ∙
    ap (λ q. and_then q (λ n. within a.array cs (λ k c. stores sc k c n))) (old op)
  where
    old : (op : Option BinOp) → updated word_bin op (within a.array (signed_all at vs) (loads (scope_of arrays wides fault))) (word (scope_of arrays wides fault) e vs) s ≡ word (scope_of arrays wides fault) (full (cell x at) op e) vs s
    old None = refl
    old (Some op) = ap (λ q. and_then q (λ x. word (scope_of arrays wides fault) e vs >>= (λ y. give (word_bin op x y)))) (sym (cell_is arrays number wides fault x at vs s a h))

-- and one to a word, where no name is wide
pub var_assigned : (arrays : List Array) (fault : Option Upset) (x : Word) (op : Option BinOp) (e : PlainExpr) (vs : Vars) (s : State) →
    assigned (scope_of arrays [] fault) (var x) op e vs s ≡ and_then (word (scope_of arrays [] fault) (full (var x) op e) vs s) (set_word x)
var_assigned arrays fault x None e vs s = refl
var_assigned arrays fault x (Some op) e vs s = refl

after_test : (b c : Bool) (p : Run Bool) (s : State) → p s ≡ goes_on c s → (if b then p else give false) s ≡ goes_on (b && c) s
after_test true c p s e = e
after_test false c p s e = refl

pub all_hold_is : (sc : Scope) (ts : List PlainTest) (vs : Vars) (s : State) → AreSigned ts vs → all_hold sc ts vs s ≡ goes_on (tests_hold ts vs) s
all_hold_is sc [] vs s h = refl
all_hold_is sc (t ∷ ts) vs s h = rw (h.0) (after_test (signed_holds t.0 (signed t.1 vs) (signed t.2 vs)) _ (all_hold sc ts vs) s (all_hold_is sc ts vs s h.1))
