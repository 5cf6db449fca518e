-- The run of a source with index cells over a clean list makes the accesses of its instances, and leaves what they store: index arrays keep the words of the inputs.
use Rattle.std.proofs.Common.{◌≡◌, ℕ, ◌+◌, Bool, true, false, ◌&&◌, if◌then◌else◌, nat_lt, List, [], ◌∷◌, ◌++◌, flat_map, ℤ, Option, Some, None, refl, sym, ap, ◌∙◌, subst, append_assoc, inl, inr, pos, nat_eq, true≢false}
use Rattle.std.proofs.lemmas.Bool.{eqb-true}
use Rattle.std.specs.Prelude.{slice_index}
use Rattle.std.specs.List.{AllByRecursion, list_all}
use Rattle.std.proofs.lemmas.List.{append-nil}
use Rattle.std.proofs.lemmas.Grind.{flat_map-append}
use Rattle.c_tree.specs.Plain.{Word, PlainExpr, lit, var, cell, un, bin, cast, test, umin, umax, least, greatest, widen, big, PlainExprs, no_exprs, more_exprs, PlainTest, PlainStmt, loop, choice, assign, table, begin, check, verdict, PlainStmts, no_stmts, more_stmts}
use Rattle.c_tree.specs.Values.{Vars, signed, exact, word_un, word_bin, signed_holds, word_holds, as_bit, loop_values}
use Rattle.c_tree.specs.Arrays.{Array, Memory, stored, same_cell, array_named, is_within}
use Rattle.c_tree.specs.Accesses.{Access}
use Rattle.c_tree.specs.Instances.{Instance, Store, sites, sites_all, instances, instances_all, accesses_of, reads_of, reads_of_all, access_of, access_at, old_cell, subscript, subscripts, exact_all, word_within, word_at, stored_within, value_of, combined, test_is_true, applied_to, applied}
use Rattle.c_tree.specs.Run.{Event, State, Outcome, goes_on, Run, ◌>>=◌, ◌>>◌, and_then, give, done, Scope, loads, stores, within, by_array, word, coordinates, first_word, updated, all_hold, assigned, turn, over, exec, exec_all}
use Rattle.c_tree.specs.Run
use Rattle.c_tree.specs.declared.expr.BinOp.{BinOp}
use Rattle.run_laws.specs.Sources.{HasNoCells, IsAffine, AreAffine, IsSignedTest, IsArray}
use Rattle.run_laws.proofs.Follows as affine
use Rattle.instrumentation.specs.Subscripts.{is_cell}
use Rattle.instrumentation.proofs.Subscripts.{cell_or_not}
use Rattle.instrumentation_laws.specs.ExactSources.{IsExactSubscript, AreExactSubscripts, IsExactData, IsExactTarget, IsExactSource, AreExactSource}
use Rattle.run_laws.specs.Laws.{store_of}
use Rattle.instrumentation_laws.proofs.Steps.{cell_run}
use Rattle.run_laws.proofs.Within.{AllWithin, front_within, back_within, lies_within}
use Rattle.run_laws.proofs.Steps.{with_log, Does, does_then, Gives, gives_only, gives_then, gives_map, gives_does, two_give, updated_gives}

pub affine_of : (arrays : List Array) (is_index : ℕ → Bool) (e : PlainExpr) (vs : Vars) → is_cell e ≡ false → IsExactSubscript arrays is_index e vs → IsAffine e vs
affine_of arrays is_index (cell x at) vs k h = absurd (true≢false k)
affine_of arrays is_index (lit n) vs k h = h
affine_of arrays is_index (var x) vs k h = h
affine_of arrays is_index (un op a) vs k h = h
affine_of arrays is_index (bin op a b) vs k h = h
affine_of arrays is_index (cast a) vs k h = h
affine_of arrays is_index (test rel a b) vs k h = h
affine_of arrays is_index (umin a b) vs k h = h
affine_of arrays is_index (umax a b) vs k h = h
affine_of arrays is_index (least a b) vs k h = h
affine_of arrays is_index (greatest a b) vs k h = h
affine_of arrays is_index (widen a) vs k h = h
affine_of arrays is_index (big high low) vs k h = h

module _ (arrays : List Array) (wides : List Word) (is_index : ℕ → Bool) (m : Memory) where
  abbrev pub sc : Scope
  sc = record { arrays = arrays; wides = wides; fault = None }

  -- ---- expressions

  -- index arrays have the words of the inputs
  abbrev pub Intact : Memory → Type 0
  Intact n = (a : ℕ) (c : List ℤ) → is_index a ≡ true → n a c ≡ m a c

  coordinates_are : (es : PlainExprs) (vs : Vars) (s : State) → AreAffine es vs → coordinates sc es vs s ≡ goes_on (exact_all es vs) s
  coordinates_are no_exprs vs s h = refl
  coordinates_are (more_exprs e es) vs s h = rw (h.0.no_word, h.0.fits, coordinates_are es vs s h.1)

  -- a cell that lies within its extents is loaded
  load_gives : (a : ℕ × Array) (cs : List ℤ) (s : State) → s.begun ≡ true → is_within cs a.1.extents ≡ true
      → Gives (within a cs (loads sc)) s (word_within s.memory (Some a) cs) (access_at (Some a) cs false)
  load_gives a cs s begun w = rw w (record {
    events = record { access = record { array = a.0; cell = cs; writes = false }; value = s.memory a.0 cs } ∷ [];
    is = rw begun;
    made = refl;
    replays = (λ (h : _). refl, tt);
    left_is = refl;
  })

  -- two data expressions in a row
  pair_gives : (f : ℕ → ℕ → ℕ) (a b : PlainExpr) (vs : Vars) (s : State) → AllWithin arrays (reads_of arrays m a vs ++ reads_of arrays m b vs)
      → (AllWithin arrays (reads_of arrays m a vs) → Gives (word sc a vs) s (value_of arrays (store_of s) a vs) (reads_of arrays m a vs))
      → (AllWithin arrays (reads_of arrays m b vs) → (l : List Event) → Gives (word sc b vs) (with_log l s) (value_of arrays (store_of s) b vs) (reads_of arrays m b vs))
      → Gives (word sc a vs >>= (λ x. word sc b vs >>= (λ y. give (f x y)))) s (f (value_of arrays (store_of s) a vs) (value_of arrays (store_of s) b vs)) (reads_of arrays m a vs ++ reads_of arrays m b vs)
  pair_gives f a b vs s clean g h = two_give f (word sc a vs) (word sc b vs) s (value_of arrays (store_of s) a vs) (value_of arrays (store_of s) b vs) (reads_of arrays m a vs) (reads_of arrays m b vs)
      (g (front_within arrays _ _ clean)) (h (back_within arrays (reads_of arrays m a vs) _ clean))

  pub subscript_is : (n : Memory) (e : PlainExpr) (vs : Vars) → HasNoCells e → subscript arrays n e vs ≡ exact e vs
  subscript_is n (cell x at) vs h = absurd h
  subscript_is n (lit k) vs h = refl
  subscript_is n (var x) vs h = refl
  subscript_is n (un op a) vs h = refl
  subscript_is n (bin op a b) vs h = refl
  subscript_is n (cast a) vs h = refl
  subscript_is n (test rel a b) vs h = refl
  subscript_is n (umin a b) vs h = refl
  subscript_is n (umax a b) vs h = refl
  subscript_is n (least a b) vs h = refl
  subscript_is n (greatest a b) vs h = refl
  subscript_is n (widen a) vs h = refl
  subscript_is n (big high low) vs h = refl

  -- ---- subscripts

  index_word : (n : Memory) (p : Word) (cs : List ℤ) (a : IsArray arrays p) → Intact n → is_index a.array.0 ≡ true → word_at arrays n p cs ≡ word_at arrays m p cs
  index_word n p cs a intact i =
      ap (λ o. word_within n o cs) a.named ∙ chosen (is_within cs a.array.1.extents) ∙ sym (ap (λ o. word_within m o cs) a.named)
    where
      chosen : (b : Bool) → (if b then n a.array.0 cs else 0) ≡ (if b then m a.array.0 cs else 0)
      chosen true = intact a.array.0 cs i
      chosen false = refl

  abbrev Same : Memory → PlainExprs → Vars → PlainExpr → Type 0
  Same n es vs e = IsExactSubscript arrays is_index e vs → subscripts arrays n (more_exprs e es) vs ≡ subscripts arrays m (more_exprs e es) vs

  -- they are what they are over the inputs
  same_subscripts : (es : PlainExprs) (vs : Vars) (n : Memory) → Intact n → AreExactSubscripts arrays is_index es vs → subscripts arrays n es vs ≡ subscripts arrays m es vs
  same_subscripts no_exprs vs n intact h = refl
  same_subscripts (more_exprs e es) vs n intact h =
      cell_or_not (Same n es vs)
      (λ p at d. ap (λ k. pos k ∷ subscripts arrays n es vs) (index_word n p (exact_all at vs) d.0 intact d.1) ∙ ap (λ cs. pos (word_at arrays m p (exact_all at vs)) ∷ cs) (same_subscripts es vs n intact h.1))
      (λ e other d.
      let k : IsAffine e vs = affine_of arrays is_index e vs other d in
      ap (λ c. c ∷ subscripts arrays n es vs) (subscript_is n e vs k.no_cells ∙ sym (subscript_is m e vs k.no_cells)) ∙
      ap (λ cs. subscript arrays m e vs ∷ cs) (same_subscripts es vs n intact h.1))
      e h.0

  abbrev Coordinates : State → PlainExprs → Vars → Type 0
  Coordinates s es vs = Gives (coordinates sc es vs) s (subscripts arrays m es vs) (reads_of_all arrays m es vs)

  abbrev First : State → PlainExprs → Vars → PlainExpr → Type 0
  First s es vs e = IsExactSubscript arrays is_index e vs → AllWithin arrays (reads_of_all arrays m (more_exprs e es) vs) → Coordinates s (more_exprs e es) vs

  coordinates_give : (es : PlainExprs) (vs : Vars) (s : State) → s.begun ≡ true → Intact s.memory → AreExactSubscripts arrays is_index es vs → AllWithin arrays (reads_of_all arrays m es vs) → Coordinates s es vs
  coordinates_give no_exprs vs s begun intact h clean = gives_only (coordinates sc no_exprs vs) s [] refl
  coordinates_give (more_exprs e es) vs s begun intact h clean =
      cell_or_not (First s es vs)
      (λ p at d c.
      let read : Gives (word sc (cell p at) vs) s (value_of arrays (store_of s) (cell p at) vs) (reads_of arrays m (cell p at) vs) =
      affine.word_gives arrays wides m (cell p at) vs s begun (d.0, d.2) (front_within arrays (reads_of arrays m (cell p at) vs) (reads_of_all arrays m es vs) c) in
      let value : value_of arrays (store_of s) (cell p at) vs ≡ word_at arrays m p (exact_all at vs) =
      ap (word_at arrays s.memory p) (affine.subscripts_are arrays wides m at vs s.memory d.2) ∙ index_word s.memory p (exact_all at vs) d.0 intact d.1 in
      let first = gives_map (word sc (cell p at) vs) (λ n. pos n) s (word_at arrays m p (exact_all at vs)) (reads_of arrays m (cell p at) vs)
      (subst (λ n. Gives (word sc (cell p at) vs) s n (reads_of arrays m (cell p at) vs)) value read) in
      gives_then (word sc (cell p at) vs >>= (λ n. give (pos n))) (λ c. coordinates sc es vs >>= (λ cs. give (c ∷ cs))) s (pos (word_at arrays m p (exact_all at vs))) (subscripts arrays m (more_exprs (cell p at) es) vs) (reads_of arrays m (cell p at) vs) (reads_of_all arrays m es vs)
      first
      (λ l. gives_map (coordinates sc es vs) (λ cs. pos (word_at arrays m p (exact_all at vs)) ∷ cs) (with_log l s) (subscripts arrays m es vs) (reads_of_all arrays m es vs)
      (coordinates_give es vs (with_log l s) begun intact h.1 (back_within arrays (reads_of arrays m (cell p at) vs) (reads_of_all arrays m es vs) c))))
      (λ e other d c. plain_first e (affine_of arrays is_index e vs other d) c (coordinates_give es vs s begun intact h.1 (back_within arrays (reads_of arrays m e vs) (reads_of_all arrays m es vs) c)))
      e h.0 clean
    where
      plain_first : (e : PlainExpr) → IsAffine e vs → AllWithin arrays (reads_of_all arrays m (more_exprs e es) vs) → Coordinates s es vs → Coordinates s (more_exprs e es) vs
      plain_first e k c g =
          let r = gives_map (coordinates sc es vs) (λ cs. exact e vs ∷ cs) s (subscripts arrays m es vs) (reads_of_all arrays m es vs) g in
          rw (affine.silent_reads arrays wides m e vs k.no_cells, subscript_is m e vs k.no_cells)
          (record { events = r.events; is = first_is e k ∙ r.is; made = r.made; replays = r.replays; left_is = r.left_is })
        where
          first_is : (e : PlainExpr) → IsAffine e vs → coordinates sc (more_exprs e es) vs s ≡ and_then (coordinates sc es vs s) (λ cs. give (exact e vs ∷ cs))
          first_is e k = rw (k.no_word, k.fits) refl

  cell_gives : (x : Word) (at : PlainExprs) (vs : Vars) (s : State) → s.begun ≡ true → Intact s.memory → (a : IsArray arrays x) → AreExactSubscripts arrays is_index at vs → AllWithin arrays (reads_of_all arrays m at vs ++ access_at (Some a.array) (subscripts arrays m at vs) false)
      → Gives (word sc (cell x at) vs) s (word_within s.memory (Some a.array) (subscripts arrays m at vs)) (reads_of_all arrays m at vs ++ access_at (Some a.array) (subscripts arrays m at vs) false)
  cell_gives x at vs s begun intact a h clean =
      let cs : List ℤ = subscripts arrays m at vs in
      let g = gives_then (coordinates sc at vs) (λ cs. within a.array cs (loads sc)) s cs (word_within s.memory (Some a.array) cs) (reads_of_all arrays m at vs) (access_at (Some a.array) cs false)
      (coordinates_give at vs s begun intact h (front_within arrays (reads_of_all arrays m at vs) (access_at (Some a.array) cs false) clean))
      (λ l. load_gives a.array cs (with_log l s) begun (lies_within arrays x a.array cs false a.named (back_within arrays (reads_of_all arrays m at vs) (access_at (Some a.array) cs false) clean))) in
      record { events = g.events; is = cell_run sc x at vs s a.array a.named ∙ g.is; made = g.made; replays = g.replays; left_is = g.left_is }

  pub word_gives : (e : PlainExpr) (vs : Vars) (s : State) → s.begun ≡ true → Intact s.memory → IsExactData arrays is_index e vs → AllWithin arrays (reads_of arrays m e vs)
      → Gives (word sc e vs) s (value_of arrays (store_of s) e vs) (reads_of arrays m e vs)
  word_gives (lit n) vs s begun intact fine clean = gives_only (word sc (lit n) vs) s n refl
  word_gives (var x) vs s begun intact fine clean = gives_only (word sc (var x) vs) s (s.words x) refl
  word_gives (cell x at) vs s begun intact fine clean =
      let list = λ (o : Option (ℕ × Array)). reads_of_all arrays m at vs ++ access_at o (subscripts arrays m at vs) false in
      let value = λ (o : Option (ℕ × Array)). word_within s.memory o (subscripts arrays m at vs) in
      let clean' : AllWithin arrays (list (Some fine.0.array)) = subst (λ o. AllWithin arrays (list o)) fine.0.named clean in
      let g = cell_gives x at vs s begun intact fine.0 fine.1 clean' in
      subst (λ cs. Gives (word sc (cell x at) vs) s (word_at arrays s.memory x cs) (reads_of arrays m (cell x at) vs)) (sym (same_subscripts at vs s.memory intact fine.1))
      (subst (λ o. Gives (word sc (cell x at) vs) s (value o) (list o)) (sym fine.0.named) g)
  word_gives (un op a) vs s begun intact fine clean = gives_map (word sc a vs) (word_un op) s _ _ (word_gives a vs s begun intact fine clean)
  word_gives (bin op a b) vs s begun intact fine clean = pair_gives (word_bin op) a b vs s clean (λ c. word_gives a vs s begun intact fine.0 c) (λ c l. word_gives b vs (with_log l s) begun intact fine.1 c)
  word_gives (cast a) vs s begun intact (inl signed) clean = rw (signed.is_signed, signed.fits, affine.silent_reads arrays wides m a vs signed.no_cells) (gives_only _ s _ refl)
  word_gives (cast a) vs s begun intact (inr fine) clean = rw (fine.0) (word_gives a vs s begun intact fine.1 clean)
  word_gives (test rel a b) vs s begun intact fine clean = pair_gives (λ x y. as_bit (word_holds rel x y)) a b vs s clean (λ c. word_gives a vs s begun intact fine.0 c) (λ c l. word_gives b vs (with_log l s) begun intact fine.1 c)
  word_gives (umin a b) vs s begun intact fine clean = pair_gives (λ x y. if nat_lt x y then x else y) a b vs s clean (λ c. word_gives a vs s begun intact fine.0 c) (λ c l. word_gives b vs (with_log l s) begun intact fine.1 c)
  word_gives (umax a b) vs s begun intact fine clean = pair_gives (λ x y. if nat_lt x y then y else x) a b vs s clean (λ c. word_gives a vs s begun intact fine.0 c) (λ c l. word_gives b vs (with_log l s) begun intact fine.1 c)
  word_gives (least a b) vs s begun intact fine clean = gives_only (word sc (least a b) vs) s 0 refl
  word_gives (greatest a b) vs s begun intact fine clean = gives_only (word sc (greatest a b) vs) s 0 refl
  word_gives (widen a) vs s begun intact fine clean = absurd fine
  word_gives (big high low) vs s begun intact fine clean = gives_only (word sc (big high low) vs) s 0 refl

  -- ---- statements

  abbrev pub accesses_all : List Instance → List Access
  accesses_all is = flat_map (accesses_of arrays m) is

  -- p does what these instances do
  abbrev DoesOnly : Run (Unit {0}) → State → List Instance → Type 0
  DoesOnly p s is = Does p s (applied arrays (store_of s) is) (accesses_all is)

  -- and leaves index arrays intact
  abbrev pub DoesAll : Run (Unit {0}) → State → List Instance → Type 0
  DoesAll p s is = DoesOnly p s is × Intact (applied arrays (store_of s) is).memory

  applied-append : (s : Store) (is js : List Instance) → applied arrays s (is ++ js) ≡ applied arrays (applied arrays s is) js
  applied-append s [] js = refl
  applied-append s (i ∷ is) js = applied-append (applied_to i.target arrays s i) is js

  does_both : (p q : Run (Unit {0})) (s : State) (is js : List Instance) → DoesAll p s is → ((t : State) → t.begun ≡ true → Intact t.memory → DoesAll q t js) → DoesAll (p >> q) s (is ++ js)
  does_both p q s is js g h =
      let flat : accesses_all (is ++ js) ≡ accesses_all is ++ accesses_all js = flat_map-append (accesses_of arrays m) is js in
      let kept : (t : State) → store_of t ≡ applied arrays (store_of s) is → Intact t.memory = λ t e. subst (λ (st : Store). Intact st.memory) (sym e) g.1 in (
        rw (applied-append (store_of s) is js, flat) (does_then p q s (applied arrays (store_of s) is) (applied arrays (applied arrays (store_of s) is) js) (accesses_all is) (accesses_all js) g.0
            (λ t b e. subst (λ (st : Store). Does q t (applied arrays st js) (accesses_all js)) e (h t b (kept t e)).0)),
        rw (applied-append (store_of s) is js) (subst (λ (st : Store). Intact (applied arrays st js).memory) g.0.store_is (h g.0.to g.0.begun (kept g.0.to g.0.store_is)).1),
      )

  clean_both : (is js : List Instance) → AllWithin arrays (accesses_all (is ++ js)) → AllWithin arrays (accesses_all is) × AllWithin arrays (accesses_all js)
  clean_both is js c =
      let d : AllWithin arrays (accesses_all is ++ accesses_all js) = subst (λ (l : List Access). AllWithin arrays l) (flat_map-append (accesses_of arrays m) is js) c in
      (front_within arrays (accesses_all is) (accesses_all js) d, back_within arrays (accesses_all is) (accesses_all js) d)

  -- a step that makes no access
  quiet_does : (p : Run (Unit {0})) (s to : State) (store : Store) → p s ≡ goes_on tt to → to.begun ≡ true → store_of to ≡ store → to.accesses ≡ s.accesses → s.memory ≡ to.memory → Does p s store []
  quiet_does p s to store e begun same log memory =
      record { to = to; is = e; begun = begun; store_is = same; events = []; log = log ∙ sym (append-nil s.accesses); made = refl; replays = tt; left_is = memory }

  nothing_does : (s : State) → s.begun ≡ true → Intact s.memory → DoesAll done s []
  nothing_does s b k = (quiet_does done s s (store_of s) refl b refl refl refl, k)

  turn_does : (s : State) → s.begun ≡ true → Intact s.memory → DoesAll turn s []
  turn_does s b k = (quiet_does turn s (record s { body_turns = s.body_turns + 1 }) (store_of s) (rw b refl) b refl refl refl, k)

  over_does : (f : ℤ → Run (Unit {0})) (g : ℤ → List Instance) (vs : List ℤ) (s : State) → s.begun ≡ true → Intact s.memory → AllWithin arrays (accesses_all (flat_map g vs))
      → AllByRecursion (λ v. (t : State) → t.begun ≡ true → Intact t.memory → AllWithin arrays (accesses_all (g v)) → DoesAll (f v) t (g v)) vs → DoesAll (over f vs) s (flat_map g vs)
  over_does f g [] s b k clean h = nothing_does s b k
  over_does f g (v ∷ vs) s b k clean h = let c = clean_both (g v) (flat_map g vs) clean in
      does_both (f v) (over f vs) s (g v) (flat_map g vs) (h.0 s b k c.0) (λ t b k. over_does f g vs t b k c.1 h.1)

  after_test : (b c : Bool) (p : Run Bool) (s : State) → p s ≡ goes_on c s → (if b then p else give false) s ≡ goes_on (b && c) s
  after_test true c p s e = e
  after_test false c p s e = refl

  all_hold_is : (ts : List PlainTest) (vs : Vars) (s : State) → AllByRecursion (λ t. IsSignedTest t vs) ts → all_hold sc ts vs s ≡ goes_on (list_all (test_is_true vs) ts) s
  all_hold_is [] vs s h = refl
  all_hold_is (t ∷ ts) vs s h = rw (h.0.no_word, h.0.left, h.0.right) (after_test (signed_holds t.0 (exact t.1 vs) (exact t.2 vs)) _ (all_hold sc ts vs) s (all_hold_is ts vs s h.1))

  chosen_does : (b : Bool) (p q : Run (Unit {0})) (s : State) (is js : List Instance) → AllWithin arrays (accesses_all (if b then is else js)) → (AllWithin arrays (accesses_all is) → DoesAll p s is) → (AllWithin arrays (accesses_all js) → DoesAll q s js)
      → DoesAll (if b then p else q) s (if b then is else js)
  chosen_does true p q s is js c g h = g c
  chosen_does false p q s is js c g h = h c

  store_does : (a : ℕ × Array) (cs : List ℤ) (n : ℕ) (s : State) → s.begun ≡ true → is_within cs a.1.extents ≡ true
      → Does (within a cs (λ k c. stores sc k c n)) s (record { memory = stored s.memory a.0 cs n; words = s.words }) (access_at (Some a) cs true)
  store_does a cs n s begun w = let e : Event = record { access = record { array = a.0; cell = cs; writes = true }; value = n } in rw w (record {
    to = record s { memory = stored s.memory a.0 cs n; accesses = s.accesses ++ e ∷ [] };
    is = rw begun;
    begun = begun;
    store_is = refl;
    events = e ∷ [];
    log = refl;
    made = refl;
    replays = (λ (h : true ≡ false). absurd cc, tt);
    left_is = refl;
  })

  no_old : (op : Option BinOp) → old_cell op [] ≡ []
  no_old None = refl
  no_old (Some op) = refl

  cell_does : (other : Run (Unit {0})) (name : Word) (at : PlainExprs) (op : Option BinOp) (e : PlainExpr) (vs : Vars) (s : State) (a : ℕ × Array) → s.begun ≡ true → Intact s.memory → array_named arrays name ≡ Some a → AreAffine at vs → IsExactData arrays is_index e vs
      → AllWithin arrays (access_at (Some a) (exact_all at vs) true) → AllWithin arrays (reads_of arrays m e vs)
      → Does (by_array (Some a) (λ a. coordinates sc at vs >>= (λ cs. updated word_bin op (within a cs (loads sc)) (word sc e vs) >>= (λ n. within a cs (λ k c. stores sc k c n)))) other) s
      (record { memory = stored s.memory a.0 (exact_all at vs) (combined op (word_within s.memory (Some a) (exact_all at vs)) (value_of arrays (store_of s) e vs)); words = s.words })
      ((old_cell op (access_at (Some a) (exact_all at vs) false) ++ reads_of arrays m e vs) ++ access_at (Some a) (exact_all at vs) true)
  cell_does other name at op e vs s a begun intact named straight fine here clean =
      let w = lies_within arrays name a (exact_all at vs) true named here in
      let cs : List ℤ = exact_all at vs in
      let old : Gives (within a cs (loads sc)) s (word_within s.memory (Some a) cs) (access_at (Some a) cs false) = load_gives a cs s begun w in
      let x : ℕ = word_within s.memory (Some a) cs in
      let y : ℕ = value_of arrays (store_of s) e vs in
      let before : List Access = access_at (Some a) cs false in
      let g = updated_gives op (within a cs (loads sc)) (word sc e vs) s x y before (reads_of arrays m e vs) old (λ l. word_gives e vs (with_log l s) begun intact fine clean) (word_gives e vs s begun intact fine clean) in
      let d = gives_does (updated word_bin op (within a cs (loads sc)) (word sc e vs)) (λ n. within a cs (λ k c. stores sc k c n)) s (combined op x y)
      (record { memory = stored s.memory a.0 cs (combined op x y); words = s.words }) (old_cell op before ++ reads_of arrays m e vs) (access_at (Some a) cs true) g (λ l. store_does a cs (combined op x y) (with_log l s) begun w) in
      record {
        to = d.to;
        is = ap (λ o. and_then o (λ cs. updated word_bin op (within a cs (loads sc)) (word sc e vs) >>= (λ n. within a cs (λ k c. stores sc k c n)))) (coordinates_are at vs s straight) ∙ d.is;
        begun = d.begun;
        store_is = d.store_is;
        events = d.events;
        log = d.log;
        made = d.made;
        replays = d.replays;
        left_is = d.left_is;
      }

  name_does : (x : Word) (op : Option BinOp) (e : PlainExpr) (vs : Vars) (s : State) → s.begun ≡ true → Intact s.memory → IsExactData arrays is_index e vs → AllWithin arrays (reads_of arrays m e vs)
      → Does (updated word_bin op (Run.reads (λ s. s.words x)) (word sc e vs) >>= Run.set_word x) s (record { memory = s.memory; words = Run.put s.words x (combined op (s.words x) (value_of arrays (store_of s) e vs)) }) ((old_cell op [] ++ reads_of arrays m e vs) ++ [])
  name_does x op e vs s b intact fine clean =
      let g = updated_gives op (Run.reads (λ s. s.words x)) (word sc e vs) s (s.words x) (value_of arrays (store_of s) e vs) [] (reads_of arrays m e vs) (gives_only (Run.reads (λ s. s.words x)) s (s.words x) refl)
      (λ l. word_gives e vs (with_log l s) b intact fine clean) (word_gives e vs s b intact fine clean) in
      let n : ℕ = combined op (s.words x) (value_of arrays (store_of s) e vs) in
      let store : Store = record { memory = s.memory; words = Run.put s.words x n } in
      gives_does (updated word_bin op (Run.reads (λ s. s.words x)) (word sc e vs)) (Run.set_word x) s n store (old_cell op [] ++ reads_of arrays m e vs) [] g
      (λ l. let t : State = with_log l s in quiet_does (Run.set_word x n) t (record t { words = Run.put s.words x n }) store refl b refl refl refl)

  assigned_does : (k : ℕ) (target : PlainExpr) (op : Option BinOp) (e : PlainExpr) (vs : Vars) (s : State) → s.begun ≡ true → Intact s.memory → IsExactTarget arrays wides is_index target vs → IsExactData arrays is_index e vs
      → AllWithin arrays (accesses_all (record { site = k; target = target; op = op; value = e; vars = vs } ∷ [])) → DoesOnly (assigned sc target op e vs) s (record { site = k; target = target; op = op; value = e; vars = vs } ∷ [])
  assigned_does k (var x) op e vs s b intact t fine clean =
      let d = name_does x op e vs s b intact fine (front_within arrays (reads_of arrays m e vs) [] clean) in
      rw t (subst (λ (old : List Access). Does (updated word_bin op (Run.reads (λ s. s.words x)) (word sc e vs) >>= Run.set_word x) s (record { memory = s.memory; words = Run.put s.words x (combined op (s.words x) (value_of arrays (store_of s) e vs)) }) ((old ++ reads_of arrays m e vs) ++ [])) (no_old op) d)
  assigned_does k (cell x at) op e vs s b intact t fine clean =
      let a = t.0.array in
      let cs = exact_all at vs in
      let reads = reads_of arrays m e vs in
      let now = affine.subscripts_are arrays wides m at vs s.memory t.2 in
      let first = affine.subscripts_are arrays wides m at vs m t.2 in
      let silent = affine.subscripts_silent arrays wides m at vs t.2 in
      let order = append_assoc (old_cell op (access_at (Some a) cs false)) reads (access_at (Some a) cs true) in
      let c : AllWithin arrays (reads_of_all arrays m at vs ++ (old_cell op (access_of arrays m x at vs false) ++ (reads ++ access_of arrays m x at vs true))) = front_within arrays _ [] clean in
      let c' : AllWithin arrays (old_cell op (access_at (Some a) cs false) ++ (reads ++ access_at (Some a) cs true)) = rw (silent, t.0.named, first) at c in
      let back = back_within arrays (old_cell op (access_at (Some a) cs false)) (reads ++ access_at (Some a) cs true) c' in
      let d = cell_does (first_word sc at vs >>= (λ i. updated word_bin op (Run.reads (λ s. slice_index (s.tables x) i)) (word sc e vs) >>= Run.set_entry x i)) x at op e vs s a b intact t.0.named t.2 fine
      (back_within arrays reads _ back) (front_within arrays reads _ back) in
      rw (silent, t.0.named, now, first, append-nil (old_cell op (access_at (Some a) cs false) ++ (reads ++ access_at (Some a) cs true)), ← order) d
  assigned_does k (lit n) op e vs s b intact t fine clean = absurd t
  assigned_does k (un o x) op e vs s b intact t fine clean = absurd t
  assigned_does k (bin o x y) op e vs s b intact t fine clean = absurd t
  assigned_does k (cast x) op e vs s b intact t fine clean = absurd t
  assigned_does k (test rel x y) op e vs s b intact t fine clean = absurd t
  assigned_does k (umin x y) op e vs s b intact t fine clean = absurd t
  assigned_does k (umax x y) op e vs s b intact t fine clean = absurd t
  assigned_does k (least x y) op e vs s b intact t fine clean = absurd t
  assigned_does k (greatest x y) op e vs s b intact t fine clean = absurd t
  assigned_does k (widen x) op e vs s b intact t fine clean = absurd t
  assigned_does k (big x y) op e vs s b intact t fine clean = absurd t

  -- no index array is stored into
  stored_intact : (n : Memory) (a : ℕ) (cs : List ℤ) (v : ℕ) → Intact n → is_index a ≡ false → Intact (stored n a cs v)
  stored_intact n a cs v intact free b c i = chosen (nat_eq a b) refl
    where
      chosen : (t : Bool) → nat_eq a b ≡ t → (if t && same_cell cs c then v else n b c) ≡ m b c
      chosen true e = absurd (true≢false (sym i ∙ ap is_index (sym (eqb-true a b e)) ∙ free))
      chosen false e = intact b c i

  assigned_intact : (k : ℕ) (target : PlainExpr) (op : Option BinOp) (e : PlainExpr) (vs : Vars) (s : State) → Intact s.memory → IsExactTarget arrays wides is_index target vs →
      Intact (applied arrays (store_of s) (record { site = k; target = target; op = op; value = e; vars = vs } ∷ [])).memory
  assigned_intact k (var x) op e vs s intact t = intact
  assigned_intact k (cell x at) op e vs s intact t =
      let cs : List ℤ = subscripts arrays s.memory at vs in
      let v : ℕ = combined op (word_at arrays s.memory x cs) (value_of arrays (store_of s) e vs) in
      subst (λ o. Intact (stored_within s.memory o cs v)) (sym t.0.named) (stored_intact s.memory t.0.array.0 cs v intact t.1)
  assigned_intact k (lit n) op e vs s intact t = absurd t
  assigned_intact k (un o x) op e vs s intact t = absurd t
  assigned_intact k (bin o x y) op e vs s intact t = absurd t
  assigned_intact k (cast x) op e vs s intact t = absurd t
  assigned_intact k (test rel x y) op e vs s intact t = absurd t
  assigned_intact k (umin x y) op e vs s intact t = absurd t
  assigned_intact k (umax x y) op e vs s intact t = absurd t
  assigned_intact k (least x y) op e vs s intact t = absurd t
  assigned_intact k (greatest x y) op e vs s intact t = absurd t
  assigned_intact k (widen x) op e vs s intact t = absurd t
  assigned_intact k (big x y) op e vs s intact t = absurd t

  each : (k : ℕ) (x : Word) (vs : Vars) (body : PlainStmts) → ((v : ℤ) (t : State) → t.begun ≡ true → Intact t.memory → AreExactSource arrays wides is_index body ((x, v) ∷ vs) → AllWithin arrays (accesses_all (instances_all k body ((x, v) ∷ vs))) → DoesAll (exec_all sc body ((x, v) ∷ vs)) t (instances_all k body ((x, v) ∷ vs)))
      → (values : List ℤ) → AllByRecursion (λ v. AreExactSource arrays wides is_index body ((x, v) ∷ vs)) values
      → AllByRecursion (λ v. (t : State) → t.begun ≡ true → Intact t.memory → AllWithin arrays (accesses_all (instances_all k body ((x, v) ∷ vs))) → DoesAll (turn >> exec_all sc body ((x, v) ∷ vs)) t (instances_all k body ((x, v) ∷ vs))) values
  each k x vs body go [] h = tt
  each k x vs body go (v ∷ values) h = (
    λ t b i c. does_both turn (exec_all sc body ((x, v) ∷ vs)) t [] (instances_all k body ((x, v) ∷ vs)) (turn_does t b i) (λ u b i. go v u b i h.0 c),
    each k x vs body go values h.1,
  )

  mutual
    pub exec_does : (p : PlainStmt) (k : ℕ) (vs : Vars) (s : State) → s.begun ≡ true → Intact s.memory → IsExactSource arrays wides is_index p vs → AllWithin arrays (accesses_all (instances k p vs)) → DoesAll (exec sc p vs) s (instances k p vs)
    exec_does (loop x lo rel hi body) k vs s b intact source clean =
        let f : ℤ → Run (Unit {0}) = λ v. turn >> exec_all sc body ((x, v) ∷ vs) in
        let g : ℤ → List Instance = λ v. instances_all k body ((x, v) ∷ vs) in
        rw (source.0, source.1) (over_does f g (loop_values (exact lo vs) rel (exact hi vs)) s b intact clean (each k x vs body (λ v t b i h c. exec_all_does body k ((x, v) ∷ vs) t b i h c) (loop_values (exact lo vs) rel (exact hi vs)) source.2))
    exec_does (choice ts first other) k vs s b intact source clean =
        let d = chosen_does (list_all (test_is_true vs) ts) (exec_all sc first vs) (exec_all sc other vs) s (instances_all k first vs) (instances_all (k + sites_all first) other vs) clean
        (λ c. exec_all_does first k vs s b intact source.1 c) (λ c. exec_all_does other (k + sites_all first) vs s b intact source.2 c) in (
          record {
            to = d.0.to;
            is = ap (λ o. and_then o (λ b. if b then exec_all sc first vs else exec_all sc other vs)) (all_hold_is ts vs s source.0) ∙ d.0.is;
            begun = d.0.begun;
            store_is = d.0.store_is;
            events = d.0.events;
            log = d.0.log;
            made = d.0.made;
            replays = d.0.replays;
            left_is = d.0.left_is;
          },
          d.1,
        )
    exec_does (assign target op e) k vs s b intact source clean = (assigned_does k target op e vs s b intact source.0 source.1 clean, assigned_intact k target op e vs s intact source.0)
    exec_does (table x len) k vs s b intact source clean = absurd source
    exec_does begin k vs s b intact source clean = absurd source
    exec_does (check x extent a) k vs s b intact source clean = absurd source
    exec_does verdict k vs s b intact source clean = absurd source

    pub exec_all_does : (ps : PlainStmts) (k : ℕ) (vs : Vars) (s : State) → s.begun ≡ true → Intact s.memory → AreExactSource arrays wides is_index ps vs → AllWithin arrays (accesses_all (instances_all k ps vs)) → DoesAll (exec_all sc ps vs) s (instances_all k ps vs)
    exec_all_does no_stmts k vs s b intact source clean = nothing_does s b intact
    exec_all_does (more_stmts p ps) k vs s b intact source clean = let c = clean_both (instances k p vs) (instances_all (k + sites p) ps vs) clean in
        does_both (exec sc p vs) (exec_all sc ps vs) s (instances k p vs) (instances_all (k + sites p) ps vs) (exec_does p k vs s b intact source.0 c.0) (λ t b i. exec_all_does ps (k + sites p) vs t b i source.1 c.1)
