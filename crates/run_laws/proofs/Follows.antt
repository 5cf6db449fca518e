-- The run of a source over a clean list makes the accesses of its instances, and leaves what they store.
use Rattle.std.proofs.Common.{◌≡◌, ℕ, ◌+◌, Bool, true, false, ◌&&◌, if◌then◌else◌, nat_lt, List, [], ◌∷◌, ◌++◌, flat_map, ℤ, Option, Some, None, refl, sym, ap, ◌∙◌, subst, append_assoc, inl, inr}
use Rattle.std.specs.Prelude.{slice_index}
use Rattle.std.specs.List.{AllByRecursion, list_all}
use Rattle.std.proofs.lemmas.List.{append-nil}
use Rattle.std.proofs.lemmas.Grind.{flat_map-append}
use Rattle.c_tree.specs.Plain.{Word, PlainExpr, lit, var, cell, un, bin, cast, test, umin, umax, least, greatest, widen, big, PlainExprs, no_exprs, more_exprs, PlainTest, PlainStmt, loop, choice, assign, table, begin, check, verdict, PlainStmts, no_stmts, more_stmts}
use Rattle.c_tree.specs.Values.{Vars, signed, exact, word_un, word_bin, signed_holds, word_holds, as_bit, loop_values}
use Rattle.c_tree.specs.Arrays.{Array, Memory, stored, array_named, is_within}
use Rattle.c_tree.specs.Accesses.{Access}
use Rattle.c_tree.specs.Instances.{Instance, Store, sites, sites_all, instances, instances_all, accesses_of, reads_of, reads_of_all, access_of, access_at, old_cell, subscript, subscripts, exact_all, word_within, value_of, combined, test_is_true, applied_to, applied}
use Rattle.c_tree.specs.Run.{Event, State, Outcome, goes_on, Run, ◌>>=◌, ◌>>◌, and_then, give, done, Scope, loads, stores, within, by_array, word, coordinates, first_word, updated, all_hold, assigned, turn, over, exec, exec_all}
use Rattle.c_tree.specs.Run
use Rattle.c_tree.specs.declared.expr.BinOp.{BinOp}
use Rattle.run_laws.specs.Sources.{HasNoCells, AreAffine, IsSignedTest, IsArray, IsData, IsTarget, IsSource, AreSource}
use Rattle.run_laws.specs.Laws.{store_of}
use Rattle.run_laws.proofs.Within.{AllWithin, front_within, back_within, lies_within}
use Rattle.run_laws.proofs.Steps.{with_log, Does, does_then, Gives, gives_only, gives_map, gives_does, two_give, updated_gives}

module _ (arrays : List Array) (wides : List Word) (m : Memory) where
  abbrev pub sc : Scope
  sc = record { arrays = arrays; wides = wides; fault = None }

  -- ---- expressions

  pub silent_reads : (e : PlainExpr) (vs : Vars) → HasNoCells e → reads_of arrays m e vs ≡ []
  silent_reads (lit n) vs h = refl
  silent_reads (var x) vs h = refl
  silent_reads (cell x at) vs h = absurd h
  silent_reads (un op a) vs h = silent_reads a vs h
  silent_reads (bin op a b) vs h = rw (silent_reads a vs h.0, silent_reads b vs h.1)
  silent_reads (cast a) vs h = silent_reads a vs h
  silent_reads (test rel a b) vs h = rw (silent_reads a vs h.0, silent_reads b vs h.1)
  silent_reads (umin a b) vs h = rw (silent_reads a vs h.0, silent_reads b vs h.1)
  silent_reads (umax a b) vs h = rw (silent_reads a vs h.0, silent_reads b vs h.1)
  silent_reads (least a b) vs h = refl
  silent_reads (greatest a b) vs h = refl
  silent_reads (widen a) vs h = silent_reads a vs h
  silent_reads (big high low) vs h = refl

  subscript_is : (n : Memory) (e : PlainExpr) (vs : Vars) → HasNoCells e → subscript arrays n e vs ≡ exact e vs
  subscript_is n (lit k) vs h = refl
  subscript_is n (var x) vs h = refl
  subscript_is n (cell x at) vs h = absurd h
  subscript_is n (un op a) vs h = refl
  subscript_is n (bin op a b) vs h = refl
  subscript_is n (cast a) vs h = refl
  subscript_is n (test rel a b) vs h = refl
  subscript_is n (umin a b) vs h = refl
  subscript_is n (umax a b) vs h = refl
  subscript_is n (least a b) vs h = refl
  subscript_is n (greatest a b) vs h = refl
  subscript_is n (widen a) vs h = refl
  subscript_is n (big high low) vs h = refl

  coordinates_are : (es : PlainExprs) (vs : Vars) (s : State) → AreAffine es vs → coordinates sc es vs s ≡ goes_on (exact_all es vs) s
  coordinates_are no_exprs vs s h = refl
  coordinates_are (more_exprs e es) vs s h = rw (h.0.no_word, h.0.fits, coordinates_are es vs s h.1)

  pub subscripts_are : (es : PlainExprs) (vs : Vars) (n : Memory) → AreAffine es vs → subscripts arrays n es vs ≡ exact_all es vs
  subscripts_are no_exprs vs n h = refl
  subscripts_are (more_exprs e es) vs n h = ap (λ c. c ∷ subscripts arrays n es vs) (subscript_is n e vs h.0.no_cells) ∙ ap (λ cs. exact e vs ∷ cs) (subscripts_are es vs n h.1)

  pub subscripts_silent : (es : PlainExprs) (vs : Vars) → AreAffine es vs → reads_of_all arrays m es vs ≡ []
  subscripts_silent no_exprs vs h = refl
  subscripts_silent (more_exprs e es) vs h = rw (silent_reads e vs h.0.no_cells, subscripts_silent es vs h.1)

  -- a cell that lies within its extents is loaded
  load_gives : (a : ℕ × Array) (cs : List ℤ) (s : State) → s.begun ≡ true → is_within cs a.1.extents ≡ true
      → Gives (within a cs (loads sc)) s (word_within s.memory (Some a) cs) (access_at (Some a) cs false)
  load_gives a cs s begun w = rw w (record {
    events = record { access = record { array = a.0; cell = cs; writes = false }; value = s.memory a.0 cs } ∷ [];
    is = rw begun;
    made = refl;
    replays = (λ (h : _). refl, tt);
    left_is = refl;
  })

  -- two data expressions in a row
  pair_gives : (f : ℕ → ℕ → ℕ) (a b : PlainExpr) (vs : Vars) (s : State) → AllWithin arrays (reads_of arrays m a vs ++ reads_of arrays m b vs)
      → (AllWithin arrays (reads_of arrays m a vs) → Gives (word sc a vs) s (value_of arrays (store_of s) a vs) (reads_of arrays m a vs))
      → (AllWithin arrays (reads_of arrays m b vs) → (l : List Event) → Gives (word sc b vs) (with_log l s) (value_of arrays (store_of s) b vs) (reads_of arrays m b vs))
      → Gives (word sc a vs >>= (λ x. word sc b vs >>= (λ y. give (f x y)))) s (f (value_of arrays (store_of s) a vs) (value_of arrays (store_of s) b vs)) (reads_of arrays m a vs ++ reads_of arrays m b vs)
  pair_gives f a b vs s clean g h = two_give f (word sc a vs) (word sc b vs) s (value_of arrays (store_of s) a vs) (value_of arrays (store_of s) b vs) (reads_of arrays m a vs) (reads_of arrays m b vs)
      (g (front_within arrays _ _ clean)) (h (back_within arrays (reads_of arrays m a vs) _ clean))

  cell_gives : (other : Run ℕ) (x : Word) (at : PlainExprs) (vs : Vars) (s : State) → s.begun ≡ true → (a : IsArray arrays x) → AreAffine at vs → AllWithin arrays (access_at (Some a.array) (exact_all at vs) false)
      → Gives (by_array (Some a.array) (λ a. coordinates sc at vs >>= (λ cs. within a cs (loads sc))) other) s (word_within s.memory (Some a.array) (exact_all at vs)) (access_at (Some a.array) (exact_all at vs) false)
  cell_gives other x at vs s begun a h clean =
      let g = load_gives a.array (exact_all at vs) s begun (lies_within arrays x a.array (exact_all at vs) false a.named clean) in
      record { events = g.events; is = ap (λ o. and_then o (λ cs. within a.array cs (loads sc))) (coordinates_are at vs s h) ∙ g.is; made = g.made; replays = g.replays; left_is = g.left_is }

  pub word_gives : (e : PlainExpr) (vs : Vars) (s : State) → s.begun ≡ true → IsData arrays e vs → AllWithin arrays (reads_of arrays m e vs)
      → Gives (word sc e vs) s (value_of arrays (store_of s) e vs) (reads_of arrays m e vs)
  word_gives (lit n) vs s begun fine clean = gives_only (word sc (lit n) vs) s n refl
  word_gives (var x) vs s begun fine clean = gives_only (word sc (var x) vs) s (s.words x) refl
  word_gives (cell x at) vs s begun fine clean =
      let now = subscripts_are at vs s.memory fine.1 in
      let first = subscripts_are at vs m fine.1 in
      let silent = subscripts_silent at vs fine.1 in
      let clean' = rw (silent, fine.0.named, first) at clean in
      rw (silent, fine.0.named, now, first) (cell_gives (first_word sc at vs >>= (λ i. Run.reads (λ s. slice_index (s.tables x) i))) x at vs s begun fine.0 fine.1 clean')
  word_gives (un op a) vs s begun fine clean = gives_map (word sc a vs) (word_un op) s _ _ (word_gives a vs s begun fine clean)
  word_gives (bin op a b) vs s begun fine clean = pair_gives (word_bin op) a b vs s clean (λ c. word_gives a vs s begun fine.0 c) (λ c l. word_gives b vs (with_log l s) begun fine.1 c)
  word_gives (cast a) vs s begun (inl signed) clean = rw (signed.is_signed, signed.fits, silent_reads a vs signed.no_cells) (gives_only _ s _ refl)
  word_gives (cast a) vs s begun (inr fine) clean = rw (fine.0) (word_gives a vs s begun fine.1 clean)
  word_gives (test rel a b) vs s begun fine clean = pair_gives (λ x y. as_bit (word_holds rel x y)) a b vs s clean (λ c. word_gives a vs s begun fine.0 c) (λ c l. word_gives b vs (with_log l s) begun fine.1 c)
  word_gives (umin a b) vs s begun fine clean = pair_gives (λ x y. if nat_lt x y then x else y) a b vs s clean (λ c. word_gives a vs s begun fine.0 c) (λ c l. word_gives b vs (with_log l s) begun fine.1 c)
  word_gives (umax a b) vs s begun fine clean = pair_gives (λ x y. if nat_lt x y then y else x) a b vs s clean (λ c. word_gives a vs s begun fine.0 c) (λ c l. word_gives b vs (with_log l s) begun fine.1 c)
  word_gives (least a b) vs s begun fine clean = gives_only (word sc (least a b) vs) s 0 refl
  word_gives (greatest a b) vs s begun fine clean = gives_only (word sc (greatest a b) vs) s 0 refl
  word_gives (widen a) vs s begun fine clean = absurd fine
  word_gives (big high low) vs s begun fine clean = gives_only (word sc (big high low) vs) s 0 refl

  -- ---- statements

  abbrev pub accesses_all : List Instance → List Access
  accesses_all is = flat_map (accesses_of arrays m) is

  -- p does what these instances do
  abbrev pub DoesAll : Run (Unit {0}) → State → List Instance → Type 0
  DoesAll p s is = Does p s (applied arrays (store_of s) is) (accesses_all is)

  applied-append : (s : Store) (is js : List Instance) → applied arrays s (is ++ js) ≡ applied arrays (applied arrays s is) js
  applied-append s [] js = refl
  applied-append s (i ∷ is) js = applied-append (applied_to i.target arrays s i) is js

  does_both : (p q : Run (Unit {0})) (s : State) (is js : List Instance) → DoesAll p s is → ((t : State) → t.begun ≡ true → DoesAll q t js) → DoesAll (p >> q) s (is ++ js)
  does_both p q s is js g h =
      let flat : accesses_all (is ++ js) ≡ accesses_all is ++ accesses_all js = flat_map-append (accesses_of arrays m) is js in
      rw (applied-append (store_of s) is js, flat) (does_then p q s (applied arrays (store_of s) is) (applied arrays (applied arrays (store_of s) is) js) (accesses_all is) (accesses_all js) g
      (λ t b e. subst (λ (st : Store). Does q t (applied arrays st js) (accesses_all js)) e (h t b)))

  clean_both : (is js : List Instance) → AllWithin arrays (accesses_all (is ++ js)) → AllWithin arrays (accesses_all is) × AllWithin arrays (accesses_all js)
  clean_both is js c =
      let d : AllWithin arrays (accesses_all is ++ accesses_all js) = subst (λ (l : List Access). AllWithin arrays l) (flat_map-append (accesses_of arrays m) is js) c in
      (front_within arrays (accesses_all is) (accesses_all js) d, back_within arrays (accesses_all is) (accesses_all js) d)

  -- a step that makes no access
  quiet_does : (p : Run (Unit {0})) (s to : State) (store : Store) → p s ≡ goes_on tt to → to.begun ≡ true → store_of to ≡ store → to.accesses ≡ s.accesses → s.memory ≡ to.memory → Does p s store []
  quiet_does p s to store e begun same log memory =
      record { to = to; is = e; begun = begun; store_is = same; events = []; log = log ∙ sym (append-nil s.accesses); made = refl; replays = tt; left_is = memory }

  nothing_does : (s : State) → s.begun ≡ true → DoesAll done s []
  nothing_does s b = quiet_does done s s (store_of s) refl b refl refl refl

  turn_does : (s : State) → s.begun ≡ true → DoesAll turn s []
  turn_does s b = quiet_does turn s (record s { body_turns = s.body_turns + 1 }) (store_of s) (rw b) b refl refl refl

  over_does : (f : ℤ → Run (Unit {0})) (g : ℤ → List Instance) (vs : List ℤ) (s : State) → s.begun ≡ true → AllWithin arrays (accesses_all (flat_map g vs))
      → AllByRecursion (λ v. (t : State) → t.begun ≡ true → AllWithin arrays (accesses_all (g v)) → DoesAll (f v) t (g v)) vs → DoesAll (over f vs) s (flat_map g vs)
  over_does f g [] s b clean h = nothing_does s b
  over_does f g (v ∷ vs) s b clean h = let c = clean_both (g v) (flat_map g vs) clean in
      does_both (f v) (over f vs) s (g v) (flat_map g vs) (h.0 s b c.0) (λ t b. over_does f g vs t b c.1 h.1)

  after_test : (b c : Bool) (p : Run Bool) (s : State) → p s ≡ goes_on c s → (if b then p else give false) s ≡ goes_on (b && c) s
  after_test true c p s e = e
  after_test false c p s e = refl

  all_hold_is : (ts : List PlainTest) (vs : Vars) (s : State) → AllByRecursion (λ t. IsSignedTest t vs) ts → all_hold sc ts vs s ≡ goes_on (list_all (test_is_true vs) ts) s
  all_hold_is [] vs s h = refl
  all_hold_is (t ∷ ts) vs s h = rw (h.0.no_word, h.0.left, h.0.right) (after_test (signed_holds t.0 (exact t.1 vs) (exact t.2 vs)) _ (all_hold sc ts vs) s (all_hold_is ts vs s h.1))

  chosen_does : (b : Bool) (p q : Run (Unit {0})) (s : State) (is js : List Instance) → AllWithin arrays (accesses_all (if b then is else js)) → (AllWithin arrays (accesses_all is) → DoesAll p s is) → (AllWithin arrays (accesses_all js) → DoesAll q s js)
      → DoesAll (if b then p else q) s (if b then is else js)
  chosen_does true p q s is js c g h = g c
  chosen_does false p q s is js c g h = h c

  store_does : (a : ℕ × Array) (cs : List ℤ) (n : ℕ) (s : State) → s.begun ≡ true → is_within cs a.1.extents ≡ true
      → Does (within a cs (λ k c. stores sc k c n)) s (record { memory = stored s.memory a.0 cs n; words = s.words }) (access_at (Some a) cs true)
  store_does a cs n s begun w = let e : Event = record { access = record { array = a.0; cell = cs; writes = true }; value = n } in rw w (record {
    to = record s { memory = stored s.memory a.0 cs n; accesses = s.accesses ++ e ∷ [] };
    is = rw begun;
    begun = begun;
    store_is = refl;
    events = e ∷ [];
    log = refl;
    made = refl;
    replays = (λ (h : true ≡ false). absurd cc, tt);
    left_is = refl;
  })

  no_old : (op : Option BinOp) → old_cell op [] ≡ []
  no_old None = refl
  no_old (Some op) = refl

  cell_does : (other : Run (Unit {0})) (name : Word) (at : PlainExprs) (op : Option BinOp) (e : PlainExpr) (vs : Vars) (s : State) (a : ℕ × Array) → s.begun ≡ true → array_named arrays name ≡ Some a → AreAffine at vs → IsData arrays e vs
      → AllWithin arrays (access_at (Some a) (exact_all at vs) true) → AllWithin arrays (reads_of arrays m e vs)
      → Does (by_array (Some a) (λ a. coordinates sc at vs >>= (λ cs. updated word_bin op (within a cs (loads sc)) (word sc e vs) >>= (λ n. within a cs (λ k c. stores sc k c n)))) other) s
      (record { memory = stored s.memory a.0 (exact_all at vs) (combined op (word_within s.memory (Some a) (exact_all at vs)) (value_of arrays (store_of s) e vs)); words = s.words })
      ((old_cell op (access_at (Some a) (exact_all at vs) false) ++ reads_of arrays m e vs) ++ access_at (Some a) (exact_all at vs) true)
  cell_does other name at op e vs s a begun named affine fine here clean =
      let w = lies_within arrays name a (exact_all at vs) true named here in
      let cs : List ℤ = exact_all at vs in
      let old : Gives (within a cs (loads sc)) s (word_within s.memory (Some a) cs) (access_at (Some a) cs false) = load_gives a cs s begun w in
      let x : ℕ = word_within s.memory (Some a) cs in
      let y : ℕ = value_of arrays (store_of s) e vs in
      let before : List Access = access_at (Some a) cs false in
      let g = updated_gives op (within a cs (loads sc)) (word sc e vs) s x y before (reads_of arrays m e vs) old (λ l. word_gives e vs (with_log l s) begun fine clean) (word_gives e vs s begun fine clean) in
      let d = gives_does (updated word_bin op (within a cs (loads sc)) (word sc e vs)) (λ n. within a cs (λ k c. stores sc k c n)) s (combined op x y)
      (record { memory = stored s.memory a.0 cs (combined op x y); words = s.words }) (old_cell op before ++ reads_of arrays m e vs) (access_at (Some a) cs true) g (λ l. store_does a cs (combined op x y) (with_log l s) begun w) in
      record {
        to = d.to;
        is = ap (λ o. and_then o (λ cs. updated word_bin op (within a cs (loads sc)) (word sc e vs) >>= (λ n. within a cs (λ k c. stores sc k c n)))) (coordinates_are at vs s affine) ∙ d.is;
        begun = d.begun;
        store_is = d.store_is;
        events = d.events;
        log = d.log;
        made = d.made;
        replays = d.replays;
        left_is = d.left_is;
      }

  name_does : (x : Word) (op : Option BinOp) (e : PlainExpr) (vs : Vars) (s : State) → s.begun ≡ true → IsData arrays e vs → AllWithin arrays (reads_of arrays m e vs)
      → Does (updated word_bin op (Run.reads (λ s. s.words x)) (word sc e vs) >>= Run.set_word x) s (record { memory = s.memory; words = Run.put s.words x (combined op (s.words x) (value_of arrays (store_of s) e vs)) }) ((old_cell op [] ++ reads_of arrays m e vs) ++ [])
  name_does x op e vs s b fine clean =
      let g = updated_gives op (Run.reads (λ s. s.words x)) (word sc e vs) s (s.words x) (value_of arrays (store_of s) e vs) [] (reads_of arrays m e vs) (gives_only (Run.reads (λ s. s.words x)) s (s.words x) refl)
      (λ l. word_gives e vs (with_log l s) b fine clean) (word_gives e vs s b fine clean) in
      let n : ℕ = combined op (s.words x) (value_of arrays (store_of s) e vs) in
      let store : Store = record { memory = s.memory; words = Run.put s.words x n } in
      gives_does (updated word_bin op (Run.reads (λ s. s.words x)) (word sc e vs)) (Run.set_word x) s n store (old_cell op [] ++ reads_of arrays m e vs) [] g
      (λ l. let t : State = with_log l s in quiet_does (Run.set_word x n) t (record t { words = Run.put s.words x n }) store refl b refl refl refl)

  assigned_does : (k : ℕ) (target : PlainExpr) (op : Option BinOp) (e : PlainExpr) (vs : Vars) (s : State) → s.begun ≡ true → IsTarget arrays wides target vs → IsData arrays e vs
      → AllWithin arrays (accesses_all (record { site = k; target = target; op = op; value = e; vars = vs } ∷ [])) → DoesAll (assigned sc target op e vs) s (record { site = k; target = target; op = op; value = e; vars = vs } ∷ [])
  assigned_does k (var x) op e vs s b t fine clean =
      let d = name_does x op e vs s b fine (front_within arrays (reads_of arrays m e vs) [] clean) in
      rw t (subst (λ (old : List Access). Does (updated word_bin op (Run.reads (λ s. s.words x)) (word sc e vs) >>= Run.set_word x) s (record { memory = s.memory; words = Run.put s.words x (combined op (s.words x) (value_of arrays (store_of s) e vs)) }) ((old ++ reads_of arrays m e vs) ++ [])) (no_old op) d)
  assigned_does k (cell x at) op e vs s b t fine clean =
      let a = t.0.array in
      let cs = exact_all at vs in
      let reads = reads_of arrays m e vs in
      let now = subscripts_are at vs s.memory t.1 in
      let first = subscripts_are at vs m t.1 in
      let silent = subscripts_silent at vs t.1 in
      let order = append_assoc (old_cell op (access_at (Some a) cs false)) reads (access_at (Some a) cs true) in
      let c : AllWithin arrays (reads_of_all arrays m at vs ++ (old_cell op (access_of arrays m x at vs false) ++ (reads ++ access_of arrays m x at vs true))) = front_within arrays _ [] clean in
      let c' : AllWithin arrays (old_cell op (access_at (Some a) cs false) ++ (reads ++ access_at (Some a) cs true)) = rw (silent, t.0.named, first) at c in
      let back = back_within arrays (old_cell op (access_at (Some a) cs false)) (reads ++ access_at (Some a) cs true) c' in
      let d = cell_does (first_word sc at vs >>= (λ i. updated word_bin op (Run.reads (λ s. slice_index (s.tables x) i)) (word sc e vs) >>= Run.set_entry x i)) x at op e vs s a b t.0.named t.1 fine
      (back_within arrays reads _ back) (front_within arrays reads _ back) in
      rw (silent, t.0.named, now, first, append-nil (old_cell op (access_at (Some a) cs false) ++ (reads ++ access_at (Some a) cs true)), ← order) d
  assigned_does k (lit n) op e vs s b t fine clean = absurd t
  assigned_does k (un o x) op e vs s b t fine clean = absurd t
  assigned_does k (bin o x y) op e vs s b t fine clean = absurd t
  assigned_does k (cast x) op e vs s b t fine clean = absurd t
  assigned_does k (test rel x y) op e vs s b t fine clean = absurd t
  assigned_does k (umin x y) op e vs s b t fine clean = absurd t
  assigned_does k (umax x y) op e vs s b t fine clean = absurd t
  assigned_does k (least x y) op e vs s b t fine clean = absurd t
  assigned_does k (greatest x y) op e vs s b t fine clean = absurd t
  assigned_does k (widen x) op e vs s b t fine clean = absurd t
  assigned_does k (big x y) op e vs s b t fine clean = absurd t

  each : (k : ℕ) (x : Word) (vs : Vars) (body : PlainStmts) → ((v : ℤ) (t : State) → t.begun ≡ true → AreSource arrays wides body ((x, v) ∷ vs) → AllWithin arrays (accesses_all (instances_all k body ((x, v) ∷ vs))) → DoesAll (exec_all sc body ((x, v) ∷ vs)) t (instances_all k body ((x, v) ∷ vs)))
      → (values : List ℤ) → AllByRecursion (λ v. AreSource arrays wides body ((x, v) ∷ vs)) values
      → AllByRecursion (λ v. (t : State) → t.begun ≡ true → AllWithin arrays (accesses_all (instances_all k body ((x, v) ∷ vs))) → DoesAll (turn >> exec_all sc body ((x, v) ∷ vs)) t (instances_all k body ((x, v) ∷ vs))) values
  each k x vs body go [] h = tt
  each k x vs body go (v ∷ values) h = (
    λ t b c. does_both turn (exec_all sc body ((x, v) ∷ vs)) t [] (instances_all k body ((x, v) ∷ vs)) (turn_does t b) (λ u b. go v u b h.0 c),
    each k x vs body go values h.1,
  )

  mutual
    pub exec_does : (p : PlainStmt) (k : ℕ) (vs : Vars) (s : State) → s.begun ≡ true → IsSource arrays wides p vs → AllWithin arrays (accesses_all (instances k p vs)) → DoesAll (exec sc p vs) s (instances k p vs)
    exec_does (loop x lo rel hi body) k vs s b source clean =
        let f : ℤ → Run (Unit {0}) = λ v. turn >> exec_all sc body ((x, v) ∷ vs) in
        let g : ℤ → List Instance = λ v. instances_all k body ((x, v) ∷ vs) in
        rw (source.0, source.1) (over_does f g (loop_values (exact lo vs) rel (exact hi vs)) s b clean (each k x vs body (λ v t b h c. exec_all_does body k ((x, v) ∷ vs) t b h c) (loop_values (exact lo vs) rel (exact hi vs)) source.2))
    exec_does (choice ts first other) k vs s b source clean =
        let d = chosen_does (list_all (test_is_true vs) ts) (exec_all sc first vs) (exec_all sc other vs) s (instances_all k first vs) (instances_all (k + sites_all first) other vs) clean
        (λ c. exec_all_does first k vs s b source.1 c) (λ c. exec_all_does other (k + sites_all first) vs s b source.2 c) in
        record {
          to = d.to;
          is = ap (λ o. and_then o (λ b. if b then exec_all sc first vs else exec_all sc other vs)) (all_hold_is ts vs s source.0) ∙ d.is;
          begun = d.begun;
          store_is = d.store_is;
          events = d.events;
          log = d.log;
          made = d.made;
          replays = d.replays;
          left_is = d.left_is;
        }
    exec_does (assign target op e) k vs s b source clean = assigned_does k target op e vs s b source.0 source.1 clean
    exec_does (table x len) k vs s b source clean = absurd source
    exec_does begin k vs s b source clean = absurd source
    exec_does (check x extent a) k vs s b source clean = absurd source
    exec_does verdict k vs s b source clean = absurd source

    pub exec_all_does : (ps : PlainStmts) (k : ℕ) (vs : Vars) (s : State) → s.begun ≡ true → AreSource arrays wides ps vs → AllWithin arrays (accesses_all (instances_all k ps vs)) → DoesAll (exec_all sc ps vs) s (instances_all k ps vs)
    exec_all_does no_stmts k vs s b source clean = nothing_does s b
    exec_all_does (more_stmts p ps) k vs s b source clean = let c = clean_both (instances k p vs) (instances_all (k + sites p) ps vs) clean in
        does_both (exec sc p vs) (exec_all sc ps vs) s (instances k p vs) (instances_all (k + sites p) ps vs) (exec_does p k vs s b source.0 c.0) (λ t b. exec_all_does ps (k + sites p) vs t b source.1 c.1)
