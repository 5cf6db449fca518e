-- The totals after single reads and stores are those of the accesses so far, under any fault; the run goes on, or ends at a check, while its list is clean; and what pieces keep is kept.
use Rattle.std.proofs.Common.{◌≡◌, ℕ, suc, ◌&&◌, ◌==◌, pos, ◌+◌, ◌*◌, ◌%◌, ◌^◌, ◌<◌, Bool, true, false, cond, if◌then◌else◌, List, [], ◌∷◌, ◌++◌, length, map, flat_map, refl, sym, ap, ◌∙◌, subst, arith, append_assoc, ℤ, Option, Some, nat_eq, inl, inr, eq-eqb, true≢false}
use Rattle.std.proofs.lemmas.Bool.{cases_Bool, cases_eq, ne_eqb, eqb-true}
use Rattle.std.proofs.lemmas.List.{append-nil, map-append, length-map, length_push, length-append, get_or_at}
use Rattle.std.specs.Prelude.{bytes_eq, slice_get}
use Rattle.c_tree.specs.Plain.{Word, PlainExpr, lit, var, cell, un, bin, cast, test, umin, umax, least, greatest, widen, big, PlainExprs, no_exprs, more_exprs, PlainStmt}
use Rattle.c_tree.specs.Trees.{stmts_of}
use Rattle.c_tree.specs.Kinds.{is_signed}
use Rattle.c_tree.specs.Values.{Vars, signed, as_word, word_un, word_bin, kind}
use Rattle.c_tree.specs.Arrays.{Array, Memory, stored, is_within, same_cell}
use Rattle.c_tree.specs.Accesses.{Access, at as access_at, nowhere, Within, Clean}
use Rattle.c_tree.specs.Accesses.Definition.{Written}
use Rattle.c_tree.specs.Fault.{Upset}
use Rattle.c_tree.specs.Instances.{Tagged, untagged, word_at, word_within}
use Rattle.c_tree.specs.Run.{Event, State, End, Outcome, goes_on, ends, outside, index, Run, and_then, give, Scope, loads, stores, coordinates, put, word, turn, over, exec_all}
use Rattle.instrumentation.specs.Names.{register, result, count, use_total, definition_total}
use Rattle.instrumentation.specs.Body.{load_text, store_text, index_loads, index_checks, by_words, read_text, loads_text, pure, reads_in}
use Rattle.instrumentation.specs.Subscripts.{indices_in}
use Rattle.instrumentation_laws.specs.OwnNames.{piece_word, AllMayLoop}
use Rattle.instrumentation_laws.specs.RegularSources.{IsArray, AreRegular}
use Rattle.instrumentation_laws.specs.Sources.{IsSubscript, AreSubscripts, IsRead, IsData}
use Rattle.instrumentation_laws.specs.AccessList.{signed_all, cell_access, tag}
use Rattle.instrumentation_laws.specs.IndexedList.{coordinates_at, index_reads, read_access, all_reads}
use Rattle.instrumentation_laws.specs.Pieces.{Declares, Piece, uses_in}
use Rattle.instrumentation_laws.specs.Kept.{Kept, Ready, IsKept, Counts, view, views, seen, Trust, Unseen, Steady, Totals, EndsEarly}
use Rattle.instrumentation_laws.specs.Trusts.{AllSteady, TrustsExpr}
use Rattle.run_laws.specs.Logs.{accesses_in}
use Rattle.cell_laws.proofs.Within.{within_is, within_from}
use Rattle.instrumentation_laws.specs.RunningTotals.{read_sum, written_sum, Follows}
use Rattle.instrumentation_laws.specs.Setting.{scope_of}
use Rattle.instrumentation_laws.proofs.Names.{same_word, register_apart, apart_as', register_no_piece, use_apart, definition_apart, use_definition, definition_use, count_use, count_definition, result_no_piece}
use Rattle.instrumentation_laws.proofs.Outcomes.{GoesOr, then_or}
use Rattle.instrumentation_laws.proofs.Seen.{undisturbed}
use Rattle.instrumentation_laws.proofs.Now.{now, ChecksGo, now_gives, checks_now, regular_now}
use Rattle.instrumentation_laws.proofs.RegularLists.{no_index_reads, signed_coordinates}
use Rattle.instrumentation.proofs.RegularReads.{no_loads}
use Rattle.instrumentation_laws.proofs.IndexCells.{no_indices}
use Rattle.instrumentation_laws.proofs.ByIndex.{load_given}
use Rattle.instrumentation.proofs.Subscripts.{cell_or_not, not_by_cell}
use Rattle.instrumentation_laws.proofs.OneMore.{one_more}
use Rattle.instrumentation_laws.proofs.Steps.{exec_join, found, access_to, event, log, load_begun, store_begun, regular_at, loaded, defined, store_is}
use Rattle.instrumentation_laws.proofs.RunningSums.{read_sum_push, written_sum_push}

slice_get_at : (l : List Tagged) (y : Tagged) (r : List Tagged) → slice_get (l ++ y ∷ r) (length l) ≡ Some y
slice_get_at [] y r = refl
slice_get_at (x ∷ l) y r = slice_get_at l y r

more_used : (w u v : ℕ) → w ≡ u % 2 ^ 128 → (w + v) % 2 ^ 128 ≡ (u + v) % 2 ^ 128
more_used w u v e = omega arith

more_defined : (w s u v : ℕ) → w ≡ (s + u) % 2 ^ 128 → (w + v % 2 ^ 128) % 2 ^ 128 ≡ (s + (u + v)) % 2 ^ 128
more_defined w s u v e = omega arith

-- the text stands in a list of accesses, of which it made those in front; start gives what the definition totals began with
module _ (arrays : List Array) (number : Word → ℕ) (wides : List Word) (fault : Option Upset) (names : Declares arrays number wides) (texts : Word → PlainExprs) (inspected : ℕ → Bool) (trust : Trust) (kept : Kept) (is_kept : IsKept kept) (whole : List Tagged) (start : ℕ → ℕ) (inputs : Memory)
    (extents : ℕ → List ℤ) (sizes : (x : Word) (a : IsArray arrays number x) → a.array.1.extents ≡ extents a.array.0) (unseen : Unseen trust fault whole) where
  abbrev us : Scope
  us = scope_of arrays wides fault

  abbrev pub At : List Tagged → State → Type 0
  At pre s = Totals trust kept fault inputs extents whole start pre s

  -- some access of the list lies outside its extents
  abbrev pub bad : Type 0
  bad = Clean extents (untagged whole) → ⊥

  abbrev pub Early : End → State → Type 0
  Early = EndsEarly trust extents whole

  next_lies : (pre rest : List Tagged) (t : Tagged) → pre ++ t ∷ rest ≡ whole → Clean extents (untagged whole) → Within (extents t.access.array) t.access.cell
  next_lies pre rest t is clean =
      let of : Tagged → Access = λ t. t.access in
      let long : length (untagged pre) ≡ length pre = length-map pre of in
      let split : untagged (pre ++ t ∷ rest) ≡ untagged pre ++ t.access ∷ untagged rest = map-append of pre (t ∷ rest) in
      let here : access_at (untagged whole) (length pre) ≡ t.access = subst (λ (w : List Tagged). access_at (untagged w) (length pre) ≡ t.access) is
      (ap (λ (l : List Access). access_at l (length pre)) split ∙ get_or_at (untagged pre) t.access (untagged rest) nowhere (length pre) long) in
      let below : length pre < length (untagged whole) = (
      let b : length (untagged whole) ≡ length whole = length-map whole of in
      let c : length (pre ++ t ∷ rest) ≡ length whole = ap length is in
      let d = length-append pre (t ∷ rest) in
      omega arith) in
      subst (λ (y : Access). Within (extents y.array) y.cell) here (clean (length pre) below)

  -- no end where the list is clean
  no_end : (x : Word) (a : IsArray arrays number x) (vs : Vars) (w : Bool) (subs : PlainExprs) (k : ℕ) (pre rest : List Tagged) → pre ++ tag k vs (cell_access number x subs vs w) ∷ rest ≡ whole → is_within (signed_all subs vs) a.array.1.extents ≡ false → bad
  no_end x a vs w subs k pre rest is out = λ clean.
      let l : Within (extents (number x)) (signed_all subs vs) = next_lies pre rest (tag k vs (cell_access number x subs vs w)) is clean in
      let l2 : Within (extents a.array.0) (signed_all subs vs) = subst (λ n. Within (extents n) (signed_all subs vs)) a.numbered l in
      let l3 : is_within (signed_all subs vs) a.array.1.extents ≡ true = ap (is_within (signed_all subs vs)) (sizes x a) ∙ within_is (extents a.array.0) (signed_all subs vs) l2 in
      true≢false (sym l3 ∙ out)

  -- the test of the extents is their condition
  lies_is : (x : Word) (a : IsArray arrays number x) (cs : List ℤ) → is_within cs a.array.1.extents ≡ true → Within (extents a.array.0) cs
  lies_is x a cs w = within_from (extents a.array.0) cs (ap (is_within cs) (sym (sizes x a)) ∙ w)

  abbrev u : ℕ → ℕ
  u n = uses_in whole (Written n)

  more_made : (xs : List Event) (pre : List Tagged) (a b : ℕ) (cs ds : List ℤ) (w : Bool) (v k : ℕ) (vs : Vars) → views trust.trusted (accesses_in xs) ≡ views trust.trusted (untagged pre) → b ≡ a → (trust.trusted a ≡ true → cs ≡ ds) →
      views trust.trusted (accesses_in (xs ++ event a cs w v ∷ [])) ≡ views trust.trusted (untagged (pre ++ tag k vs (access_to b ds w) ∷ []))
  more_made xs pre a b cs ds w v k vs e g same =
      ap (views trust.trusted) (map-append (λ (x : Event). x.access) xs (event a cs w v ∷ [])) ∙
      map-append (view trust.trusted) (accesses_in xs) (access_to a cs w ∷ []) ∙
      ap (λ (l : List (ℕ × Bool × List ℤ)). l ++ view trust.trusted (access_to a cs w) ∷ []) e ∙
      ap (λ (v : ℕ × Bool × List ℤ). views trust.trusted (untagged pre) ++ v ∷ []) (one_view (trust.trusted a) refl) ∙
      ap (λ n. views trust.trusted (untagged pre) ++ view trust.trusted (access_to n ds w) ∷ []) (sym g) ∙
      sym (map-append (view trust.trusted) (untagged pre) (access_to b ds w ∷ [])) ∙
      ap (views trust.trusted) (sym (map-append (λ (t : Tagged). t.access) pre (tag k vs (access_to b ds w) ∷ [])))
    where
      one_view : (b : Bool) → trust.trusted a ≡ b → view trust.trusted (access_to a cs w) ≡ view trust.trusted (access_to a ds w)
      one_view true t = ap (λ c. view trust.trusted (access_to a c w)) (same t)
      one_view false t = ap (λ (b : Bool). (a, w, if b then cs else [])) t ∙ sym (ap (λ (b : Bool). (a, w, if b then ds else [])) t)

  -- as many accesses were made as there are in the list so far
  as_long : (pre : List Tagged) (s : State) → views trust.trusted (accesses_in s.accesses) ≡ views trust.trusted (untagged pre) → length s.accesses ≡ length pre
  as_long pre s e =
      sym (length-map s.accesses (λ (x : Event). x.access)) ∙ sym (length-map (accesses_in s.accesses) (view trust.trusted)) ∙ ap length e ∙ length-map (untagged pre) (view trust.trusted) ∙ length-map pre (λ (t : Tagged). t.access)

  -- what the next access finds in a cell to which the fault hasn't come by then
  found_intact : (s : State) (p : ℕ) (c : List ℤ) → Steady trust fault inputs s → trust.steady p ≡ true → seen fault (suc (length s.accesses)) p c ≡ false → found fault s p c ≡ inputs p c
  found_intact s p c h st e = let u = undisturbed fault (length s.accesses) s.memory p c e in u.1 ∙ h.intact p c st u.0

  -- an access to array a leaves steady arrays as they are, a being none of them where it writes
  still_steady : (s : State) (a : ℕ) (cs : List ℤ) (w : Bool) (v : ℕ) (m : Memory) → Steady trust fault inputs s → ((p : ℕ) (c : List ℤ) → trust.steady p ≡ true → m p c ≡ found fault s p c) →
      (p : ℕ) (c : List ℤ) → trust.steady p ≡ true → seen fault (length (log a cs w v s)) p c ≡ false → m p c ≡ inputs p c
  still_steady s a cs w v m h same p c st e =
      let size : length (log a cs w v s) ≡ suc (length s.accesses) = (let q = length_push s.accesses (event a cs w v) in omega arith) in
      same p c st ∙ found_intact s p c h st (ap (λ n. seen fault n p c) (sym size) ∙ e)

  -- what pieces keep isn't changed by a read
  still_ready : (pre : List Tagged) (t : Tagged) (s u : State) → t.access.writes ≡ false → u.tables ≡ s.tables → ((x : Word) → piece_word x ≡ true → u.words x ≡ s.words x) → Ready kept pre s → Ready kept (pre ++ t ∷ []) u
  still_ready pre t s u r tables words h = record {
    entries = tables ∙ h.entries;
    counters = λ x e. words x (is_kept.piece_words x e) ∙ h.counters x e ∙ sym (is_kept.over_reads pre t x r e);
  }

  -- a word of pieces isn't a register
  no_register : (j n : ℕ) (s : State) (x : Word) → piece_word x ≡ true → put s.words (register j) n x ≡ s.words x
  no_register j n s x e = ap (λ b. cond b n (s.words x)) (apart_as' piece_word (register j) x (register_no_piece j) e)

  -- one load and its addition
  loaded_counted : (a j k x : ℕ) (vs : Vars) (cs ds : List ℤ) (pre : List Tagged) (s : State) → a < 2 ^ 64 → x ≡ a → (trust.trusted a ≡ true → cs ≡ ds) → Within (extents a) cs → At pre s →
      At (pre ++ tag k vs (access_to x ds false) ∷ []) (loaded a j (found fault s a cs) (record s { memory = found fault s; accesses = log a cs false (found fault s a cs) s }))
  loaded_counted a j k x vs cs ds pre s small e same lies h =
      let v : ℕ = found fault s a cs in
      record {
        begun = h.begun;
        follows = one_more fault inputs extents s.accesses s.memory h.follows (event a cs false v) lies (λ r. refl);
        made = more_made s.accesses pre a x cs ds false v k vs h.made e same;
        steady = record { intact = still_steady s a cs false v (found fault s) h.steady (λ p c st. refl) };
        ready = still_ready pre (tag k vs (access_to x ds false)) s (loaded a j (found fault s a cs) (record s { memory = found fault s; accesses = log a cs false (found fault s a cs) s })) refl refl (λ y p. no_register j (found fault s a cs) s y p) h.ready;
        used = λ b fits.
            let p = read_sum_push b s.accesses (event a cs false v) in
            elim (cases_eq a b) [
              | inl g ↦ (
                  let t : nat_eq a b ≡ true = eq-eqb a b g in
                  let p2 : read_sum b (s.accesses ++ event a cs false v ∷ []) ≡ read_sum b s.accesses + v = p ∙ rw t refl in
                  let w : s.wides (use_total a) ≡ read_sum b s.accesses % 2 ^ 128 = ap (λ n. s.wides (use_total n)) g ∙ h.used b fits in
                  ap (λ (t : Bool). cond t ((s.wides (use_total a) + v) % 2 ^ 128) (s.wides (use_total b))) (ap (λ n. bytes_eq (use_total a) (use_total n)) (sym g) ∙ same_word (use_total a)) ∙
                  more_used _ _ v w ∙ ap (λ n. n % 2 ^ 128) (sym p2))
              | inr g ↦ (
                  let t : nat_eq a b ≡ false = ne_eqb a b g in
                  let p2 : read_sum b (s.accesses ++ event a cs false v ∷ []) ≡ read_sum b s.accesses = p ∙ rw t (omega arith) in
                  ap (λ (t : Bool). cond t ((s.wides (use_total a) + v) % 2 ^ 128) (s.wides (use_total b))) (use_apart a b small fits g) ∙ h.used b fits ∙ ap (λ n. n % 2 ^ 128) (sym p2))
            ];
        defined = λ b fits.
            ap (λ (t : Bool). cond t ((s.wides (use_total a) + v) % 2 ^ 128) (s.wides (definition_total b))) (use_definition a b) ∙ h.defined b fits ∙
            ap (λ n. (start b + n) % 2 ^ 128) (sym (written_sum_push u b 0 s.accesses (event a cs false v) ∙ omega arith));
      }

  -- a load of a cell whose coordinates lie within if those of the list do
  load_counted : (x : Word) (at : PlainExprs) (cs ds : List ℤ) (j k : ℕ) (vs : Vars) (pre rest : List Tagged) (s : State) → (a : IsArray arrays number x) → coordinates us at vs s ≡ goes_on cs s → (Within (extents a.array.0) ds → is_within cs a.array.1.extents ≡ true) → (trust.trusted a.array.0 ≡ true → cs ≡ ds) →
      AllMayLoop vs → pre ++ tag k vs (access_to (number x) ds false) ∷ rest ≡ whole → At pre s →
      GoesOr Early (At (pre ++ tag k vs (access_to (number x) ds false) ∷ [])) (exec_all us (stmts_of (load_text (number x) x at j)) vs s)
  load_counted x at cs ds j k vs pre rest s a given inside same o is h =
      rw (load_given arrays number wides fault names inspected x at j vs s cs a o given) (chosen (is_within cs a.array.1.extents) refl)
    where
      chosen : (b : Bool) → is_within cs a.array.1.extents ≡ b → GoesOr Early (At (pre ++ tag k vs (access_to (number x) ds false) ∷ []))
          (and_then ((if b then loads us a.array.0 cs else (λ s. ends (outside a.array.0) s)) s) (λ n t. goes_on (tt {0}) (loaded a.array.0 j n t)))
      chosen true w =
          subst (λ o. GoesOr Early (At (pre ++ tag k vs (access_to (number x) ds false) ∷ [])) (and_then o (λ n t. goes_on (tt {0}) (loaded a.array.0 j n t)))) (sym (load_begun us a.array.0 cs s h.begun))
          (loaded_counted a.array.0 j k (number x) vs cs ds pre s a.small a.numbered same (lies_is x a cs w) h)
      chosen false w = inr (λ clean. true≢false (sym (inside (subst (λ n. Within (extents n) ds) a.numbered (next_lies pre rest (tag k vs (access_to (number x) ds false)) is clean))) ∙ w))

  -- the load of an index cell: where its array is steady, its word is the inputs'
  pub record OneTold (p : Word) (at : PlainExprs) (j : ℕ) (vs : Vars) (s t : State) : Type 0 where
    pub told : trust.steady (number p) ≡ true → t.words (register j) ≡ word_at arrays inputs p (signed_all at vs)
    pub below : (i : ℕ) → i < j → t.words (register i) ≡ s.words (register i)

  plain_counted : (x : Word) (at : PlainExprs) (j k : ℕ) (vs : Vars) (pre rest : List Tagged) (s : State) → (a : IsArray arrays number x) → AreRegular at vs → AllMayLoop vs → j + 1 < 2 ^ 64 → pre ++ tag k vs (cell_access number x at vs false) ∷ rest ≡ whole → At pre s →
      GoesOr Early (λ t. At (pre ++ tag k vs (cell_access number x at vs false) ∷ []) t × OneTold x at j vs s t) (exec_all us (stmts_of (load_text (number x) x at j)) vs s)
  plain_counted x at j k vs pre rest s a regular o fits is h =
      rw (load_given arrays number wides fault names inspected x at j vs s (signed_all at vs) a o (regular_at us at vs s regular)) (chosen (is_within (signed_all at vs) a.array.1.extents) refl)
    where
      chosen : (b : Bool) → is_within (signed_all at vs) a.array.1.extents ≡ b → GoesOr Early (λ t. At (pre ++ tag k vs (cell_access number x at vs false) ∷ []) t × OneTold x at j vs s t)
          (and_then ((if b then loads us a.array.0 (signed_all at vs) else (λ s. ends (outside a.array.0) s)) s) (λ n t. goes_on (tt {0}) (loaded a.array.0 j n t)))
      chosen true w =
          let cs : List ℤ = signed_all at vs in
          let v : ℕ = found fault s a.array.0 cs in
          let t : Tagged = tag k vs (cell_access number x at vs false) in
          let value : word_at arrays inputs x cs ≡ inputs a.array.0 cs = ap (λ o. word_within inputs o cs) a.named ∙ ap (λ b. if b then inputs a.array.0 cs else 0) w in
          subst (λ o. GoesOr Early (λ t. At (pre ++ tag k vs (cell_access number x at vs false) ∷ []) t × OneTold x at j vs s t) (and_then o (λ n t. goes_on (tt {0}) (loaded a.array.0 j n t)))) (sym (load_begun us a.array.0 cs s h.begun)) (
            loaded_counted a.array.0 j k (number x) vs cs cs pre s a.small a.numbered (λ t. refl) (lies_is x a cs w) h,
            record {
              told = λ st.
                  let steady : trust.steady a.array.0 ≡ true = ap trust.steady (sym a.numbered) ∙ st in
                  let unseen_here : seen fault (suc (length pre)) a.array.0 cs ≡ false = ap (λ p. seen fault (suc (length pre)) p cs) (sym a.numbered) ∙ unseen pre rest t is st in
                  ap (λ b. cond b v (s.words (register j))) (same_word (register j)) ∙ found_intact s a.array.0 cs h.steady steady (ap (λ n. seen fault (suc n) a.array.0 cs) (as_long pre s h.made) ∙ unseen_here) ∙ sym value;
              below = λ i l. ap (λ b. cond b v (s.words (register i))) (register_apart j i (omega arith) (omega arith) (omega arith));
            },
          )
      chosen false w = inr (no_end x a vs false at k pre rest is w)

  -- the index cells of a read: where their arrays are steady, the coordinates are those of the list
  pub record AllTold (at : PlainExprs) (j : ℕ) (vs : Vars) (s t : State) : Type 0 where
    pub told : AllSteady number trust at → now at j vs t ≡ coordinates_at arrays inputs at vs
    pub below : (i : ℕ) → i < j → t.words (register i) ≡ s.words (register i)

  abbrev IndexStep : Type 0 → ℕ → PlainExprs → ℕ → Vars → List Tagged → List Tagged → State → PlainExpr → ℤ → PlainExpr → Type 0
  IndexStep i k es j vs pre rest s n z e = IsSubscript arrays number i e n z vs → j + indices_in (more_exprs e es) < 2 ^ 64 → pre ++ (map (tag k vs) (index_reads number (more_exprs e es) vs) ++ rest) ≡ whole →
      GoesOr Early (λ t. At (pre ++ map (tag k vs) (index_reads number (more_exprs e es) vs)) t × AllTold (more_exprs e es) j vs s t) (exec_all us (stmts_of (index_loads number (more_exprs e es) j)) vs s)

  weaker_or : (P Q : State → Type 0) (o : Outcome (Unit {0})) → ((t : State) → P t → Q t) → GoesOr Early P o → GoesOr Early Q o
  weaker_or P Q (goes_on u t) h p = h t p
  weaker_or P Q (ends e t) h p = p

  none_counted : (at : PlainExprs) (j k : ℕ) (vs : Vars) (pre : List Tagged) (s : State) → AreRegular at vs → At pre s →
      GoesOr Early (λ t. At (pre ++ map (tag k vs) (index_reads number at vs)) t × AllTold at j vs s t) (exec_all us (stmts_of (index_loads number at j)) vs s)
  none_counted at j k vs pre s d h =
      rw (no_index_reads number at vs d, no_loads number at j (no_indices at vs d), append-nil pre)
      (h, record { told = λ st. regular_now arrays number wides fault names inspected inputs at j vs s d ∙ sym (signed_coordinates arrays inputs at vs d); below = λ i l. refl })

  indices_counted : (i : Type 0) (at ns : PlainExprs) (zs : List ℤ) (j k : ℕ) (vs : Vars) (pre rest : List Tagged) (s : State) → AreSubscripts arrays number i at ns zs vs → AllMayLoop vs → j + indices_in at < 2 ^ 64 → pre ++ (map (tag k vs) (index_reads number at vs) ++ rest) ≡ whole → At pre s →
      GoesOr Early (λ t. At (pre ++ map (tag k vs) (index_reads number at vs)) t × AllTold at j vs s t) (exec_all us (stmts_of (index_loads number at j)) vs s)
  indices_counted i no_exprs ns zs j k vs pre rest s d o fits is h = rw (append-nil pre) (h, record { told = λ st. refl; below = λ i l. refl })
  indices_counted i (more_exprs e es) no_exprs zs j k vs pre rest s d o fits is h = none_counted (more_exprs e es) j k vs pre s d h
  indices_counted i (more_exprs e es) (more_exprs n ns) [] j k vs pre rest s d o fits is h = none_counted (more_exprs e es) j k vs pre s d h
  indices_counted i (more_exprs e es) (more_exprs n ns) (z ∷ zs) j k vs pre rest s d o fits is h =
      cell_or_not (IndexStep i k es j vs pre rest s n z)
      (λ p at sub fits is.
      let t : Tagged = tag k vs (cell_access number p at vs false) in
      let later : List Tagged = map (tag k vs) (index_reads number es vs) in
      rw (exec_join us (load_text (number p) p at j) (index_loads number es (j + 1)) vs s)
      (then_or Early (λ u. At (pre ++ t ∷ []) u × OneTold p at j vs s u) (λ u. At (pre ++ t ∷ later) u × AllTold (more_exprs (cell p at) es) j vs s u) (exec_all us (stmts_of (load_text (number p) p at j)) vs s) (λ b v. exec_all us (stmts_of (index_loads number es (j + 1))) vs v)
      (plain_counted p at j k vs pre (later ++ rest) s sub.0 sub.1 o (omega arith) is h)
      (λ u r. weaker_or (λ v. At ((pre ++ t ∷ []) ++ later) v × AllTold es (j + 1) vs u v) (λ v. At (pre ++ t ∷ later) v × AllTold (more_exprs (cell p at) es) j vs s v) (exec_all us (stmts_of (index_loads number es (j + 1))) vs u)
      (λ v q. (
        subst (λ l. At l v) (append_assoc pre (t ∷ []) later) q.0,
        record {
          told = λ st. ap (λ c. pos c ∷ now es (j + 1) vs v) (q.1.below j (omega arith) ∙ r.1.told st.0) ∙ ap (λ cs. pos (word_at arrays inputs p (signed_all at vs)) ∷ cs) (q.1.told st.1);
          below = λ i l. q.1.below i (omega arith) ∙ r.1.below i l;
        },
      ))
      (indices_counted i es ns zs (j + 1) k vs (pre ++ t ∷ []) rest u d.1 o (omega arith) (append_assoc pre (t ∷ []) (later ++ rest) ∙ is) r.0))))
      (λ e other sub fits is.
      let list_is : index_reads number (more_exprs e es) vs ≡ index_reads number es vs = not_by_cell e (λ p at. cell_access number p at vs false ∷ index_reads number es vs) (index_reads number es vs) other in
      let text_is : index_loads number (more_exprs e es) j ≡ index_loads number es j = not_by_cell e (λ x at. load_text (number x) x at j ++ index_loads number es (j + 1)) (index_loads number es j) other in
      let many : indices_in (more_exprs e es) ≡ indices_in es = not_by_cell e (λ x at. 1 + indices_in es) (indices_in es) other in
      rw (list_is, text_is)
      (weaker_or (λ v. At (pre ++ map (tag k vs) (index_reads number es vs)) v × AllTold es j vs s v) (λ v. At (pre ++ map (tag k vs) (index_reads number es vs)) v × AllTold (more_exprs e es) j vs s v) (exec_all us (stmts_of (index_loads number es j)) vs s)
      (λ v q. (
        q.0,
        record {
          told = λ st. not_by_cell e (λ p at. pos (v.words (register j)) ∷ now es (j + 1) vs v) (signed e vs ∷ now es j vs v) other ∙ ap (λ cs. signed e vs ∷ cs) (q.1.told st.1) ∙
              ap (λ c. c ∷ coordinates_at arrays inputs es vs) (sym (not_by_cell e (λ p at. pos (word_at arrays inputs p (signed_all at vs))) (signed e vs) other));
          below = q.1.below;
        },
      ))
      (indices_counted i es ns zs j k vs pre rest s d.1 o (omega arith) (ap (λ (l : List Access). pre ++ (map (tag k vs) l ++ rest)) (sym list_is) ∙ is) h)))
      e d.0 fits is

  -- the checks, and then the cell
  checked_counted : (x : Word) (at : PlainExprs) (j k : ℕ) (vs : Vars) (pre rest : List Tagged) (s : State) → (d : IsRead arrays number texts inspected x at vs) → AllMayLoop vs → (trust.trusted (number x) ≡ true → now at j vs s ≡ coordinates_at arrays inputs at vs) →
      pre ++ tag k vs (read_access arrays inputs number x at vs) ∷ rest ≡ whole → At pre s →
      (q : Outcome (Unit {0})) → ChecksGo (number x) d.array.array.1.extents (coordinates_at arrays inputs at vs) (now at j vs s) s q →
      GoesOr Early (At (pre ++ tag k vs (read_access arrays inputs number x at vs) ∷ [])) (and_then q (λ b t. exec_all us (stmts_of (load_text (number x) x (by_words at j) (j + indices_in at))) vs t))
  checked_counted x at j k vs pre rest s d o same is h q (inl c) =
      rw (c.0)
      (load_counted x (by_words at j) (now at j vs s) (coordinates_at arrays inputs at vs) (j + indices_in at) k vs pre rest s d.array
      (now_gives arrays number wides fault names inspected inputs (inspected d.array.array.0 ≡ true) at (texts x) d.array.array.1.extents j vs s d.at_each o)
      (λ w. c.1 (subst (λ zs. Within zs (coordinates_at arrays inputs at vs)) (sym (sizes x d.array)) w)) (λ t. same (ap trust.trusted d.array.numbered ∙ t)) o is h)
  checked_counted x at j k vs pre rest s d o same is h q (inr c) = rw (c.0) (by_trust (trust.trusted (number x)) refl)
    where
      by_trust : (b : Bool) → trust.trusted (number x) ≡ b → Early (index (number x)) s
      by_trust false t = inl (number x, refl, t)
      by_trust true t = inr (λ clean.
          let inside : Within (extents (number x)) (coordinates_at arrays inputs at vs) = next_lies pre rest (tag k vs (read_access arrays inputs number x at vs)) is clean in
          let zs : extents (number x) ≡ d.array.array.1.extents = ap extents d.array.numbered ∙ sym (sizes x d.array) in
          true≢false (sym (within_is d.array.array.1.extents (coordinates_at arrays inputs at vs) (subst (λ zs. Within zs (coordinates_at arrays inputs at vs)) zs inside)) ∙ sym (ap (λ cs. is_within cs d.array.array.1.extents) (same t)) ∙ c.1))

  read_counted : (x : Word) (at : PlainExprs) (j k : ℕ) (vs : Vars) (pre rest : List Tagged) (s : State) → IsRead arrays number texts inspected x at vs → (trust.trusted (number x) ≡ true → AllSteady number trust at) → AllMayLoop vs → j + (indices_in at + 1) < 2 ^ 64 →
      pre ++ (map (tag k vs) (index_reads number at vs ++ read_access arrays inputs number x at vs ∷ []) ++ rest) ≡ whole → At pre s →
      GoesOr Early (At (pre ++ map (tag k vs) (index_reads number at vs ++ read_access arrays inputs number x at vs ∷ []))) (exec_all us (stmts_of (read_text number texts x at j)) vs s)
  read_counted x at j k vs pre rest s d st o fits is h =
      let before : List Tagged = map (tag k vs) (index_reads number at vs) in
      let t : Tagged = tag k vs (read_access arrays inputs number x at vs) in
      let split : map (tag k vs) (index_reads number at vs ++ read_access arrays inputs number x at vs ∷ []) ≡ before ++ t ∷ [] = map-append (tag k vs) (index_reads number at vs) (read_access arrays inputs number x at vs ∷ []) in
      let is2 : pre ++ (before ++ t ∷ rest) ≡ whole = ap (λ l. pre ++ l) (sym (append_assoc before (t ∷ []) rest) ∙ ap (λ l. l ++ rest) (sym split)) ∙ is in
      let all : pre ++ map (tag k vs) (index_reads number at vs ++ read_access arrays inputs number x at vs ∷ []) ≡ (pre ++ before) ++ t ∷ [] = ap (λ l. pre ++ l) split ∙ sym (append_assoc pre before (t ∷ [])) in
      let checks : List PlainStmt = index_checks (number x) at (texts x) j in
      let load : List PlainStmt = load_text (number x) x (by_words at j) (j + indices_in at) in
      rw (exec_join us (index_loads number at j) (index_checks (number x) at (texts x) j ++ load_text (number x) x (by_words at j) (j + indices_in at)) vs s, all)
      (then_or Early (λ u. At (pre ++ before) u × AllTold at j vs s u) (At ((pre ++ before) ++ t ∷ [])) (exec_all us (stmts_of (index_loads number at j)) vs s) (λ b v. exec_all us (stmts_of (checks ++ load)) vs v)
      (indices_counted (inspected d.array.array.0 ≡ true) at (texts x) d.array.array.1.extents j k vs pre (t ∷ rest) s d.at_each o (omega arith) is2 h)
      (λ v r. subst (GoesOr Early (At ((pre ++ before) ++ t ∷ []))) (sym (exec_join us checks load vs v))
      (checked_counted x at j k vs (pre ++ before) rest v d o (λ tr. r.1.told (st tr)) (append_assoc pre before (t ∷ rest) ∙ is2) r.0 (exec_all us (stmts_of checks) vs v)
      (checks_now arrays number wides fault names inspected inputs (inspected d.array.array.0 ≡ true) (number x) at (texts x) d.array.array.1.extents j vs v d.at_each))))

  -- the loads of two operands
  two_counted : (xs ys : List PlainStmt) (ps qs : List Access) (k : ℕ) (vs : Vars) (pre rest : List Tagged) (s : State) → pre ++ (map (tag k vs) (ps ++ qs) ++ rest) ≡ whole →
      (pre ++ (map (tag k vs) ps ++ (map (tag k vs) qs ++ rest)) ≡ whole → GoesOr Early (At (pre ++ map (tag k vs) ps)) (exec_all us (stmts_of xs) vs s)) →
      ((mid : List Tagged) (t : State) → mid ++ (map (tag k vs) qs ++ rest) ≡ whole → At mid t → GoesOr Early (At (mid ++ map (tag k vs) qs)) (exec_all us (stmts_of ys) vs t)) →
      GoesOr Early (At (pre ++ map (tag k vs) (ps ++ qs))) (exec_all us (stmts_of (xs ++ ys)) vs s)
  two_counted xs ys ps qs k vs pre rest s is h g =
      let is2 : pre ++ (map (tag k vs) ps ++ (map (tag k vs) qs ++ rest)) ≡ whole = ap (λ l. pre ++ l) (sym (append_assoc (map (tag k vs) ps) (map (tag k vs) qs) rest) ∙ ap (λ l. l ++ rest) (sym (map-append (tag k vs) ps qs))) ∙ is in
      let split : pre ++ map (tag k vs) (ps ++ qs) ≡ (pre ++ map (tag k vs) ps) ++ map (tag k vs) qs = ap (λ l. pre ++ l) (map-append (tag k vs) ps qs) ∙ sym (append_assoc pre (map (tag k vs) ps) (map (tag k vs) qs)) in
      rw (exec_join us xs ys vs s, split)
      (then_or Early (At (pre ++ map (tag k vs) ps)) (At ((pre ++ map (tag k vs) ps) ++ map (tag k vs) qs)) (exec_all us (stmts_of xs) vs s) (λ b t. exec_all us (stmts_of ys) vs t) (h is2)
      (λ t r. g (pre ++ map (tag k vs) ps) t (append_assoc pre (map (tag k vs) ps) (map (tag k vs) qs ++ rest) ∙ is2) r))

  pub loads_counted : (e : PlainExpr) (j k : ℕ) (vs : Vars) (pre rest : List Tagged) (s : State) → IsData arrays number texts inspected e vs → TrustsExpr number trust e → AllMayLoop vs → j + reads_in e < 2 ^ 64 → pre ++ (map (tag k vs) (all_reads arrays inputs number e vs) ++ rest) ≡ whole → At pre s →
      GoesOr Early (At (pre ++ map (tag k vs) (all_reads arrays inputs number e vs))) (exec_all us (stmts_of (loads_text number texts e j)) vs s)
  loads_counted (lit n) j k vs pre rest s d tr o fits is h = rw (append-nil pre) h
  loads_counted (var x) j k vs pre rest s d tr o fits is h = rw (append-nil pre) h
  loads_counted (cell x at) j k vs pre rest s d tr o fits is h = read_counted x at j k vs pre rest s d tr o fits is h
  loads_counted (un op a) j k vs pre rest s d tr o fits is h = loads_counted a j k vs pre rest s d tr o fits is h
  loads_counted (bin op a b) j k vs pre rest s d tr o fits is h = two_counted (loads_text number texts a j) (loads_text number texts b (j + reads_in a)) (all_reads arrays inputs number a vs) (all_reads arrays inputs number b vs) k vs pre rest s is (λ is. loads_counted a j k vs pre (map (tag k vs) (all_reads arrays inputs number b vs) ++ rest) s d.0 tr.0 o (omega arith) is h) (λ mid t is r. loads_counted b (j + reads_in a) k vs mid rest t d.1 tr.1 o (omega arith) is r)
  loads_counted (cast a) j k vs pre rest s d tr o fits is h = loads_counted a j k vs pre rest s d.0 tr o fits is h
  loads_counted (test rel a b) j k vs pre rest s d tr o fits is h = two_counted (loads_text number texts a j) (loads_text number texts b (j + reads_in a)) (all_reads arrays inputs number a vs) (all_reads arrays inputs number b vs) k vs pre rest s is (λ is. loads_counted a j k vs pre (map (tag k vs) (all_reads arrays inputs number b vs) ++ rest) s d.0 tr.0 o (omega arith) is h) (λ mid t is r. loads_counted b (j + reads_in a) k vs mid rest t d.1 tr.1 o (omega arith) is r)
  loads_counted (umin a b) j k vs pre rest s d tr o fits is h = two_counted (loads_text number texts a j) (loads_text number texts b (j + reads_in a)) (all_reads arrays inputs number a vs) (all_reads arrays inputs number b vs) k vs pre rest s is (λ is. loads_counted a j k vs pre (map (tag k vs) (all_reads arrays inputs number b vs) ++ rest) s d.0 tr.0 o (omega arith) is h) (λ mid t is r. loads_counted b (j + reads_in a) k vs mid rest t d.1 tr.1 o (omega arith) is r)
  loads_counted (umax a b) j k vs pre rest s d tr o fits is h = two_counted (loads_text number texts a j) (loads_text number texts b (j + reads_in a)) (all_reads arrays inputs number a vs) (all_reads arrays inputs number b vs) k vs pre rest s is (λ is. loads_counted a j k vs pre (map (tag k vs) (all_reads arrays inputs number b vs) ++ rest) s d.0 tr.0 o (omega arith) is h) (λ mid t is r. loads_counted b (j + reads_in a) k vs mid rest t d.1 tr.1 o (omega arith) is r)
  loads_counted (least a b) j k vs pre rest s d tr o fits is h = absurd d
  loads_counted (greatest a b) j k vs pre rest s d tr o fits is h = absurd d
  loads_counted (widen a) j k vs pre rest s d tr o fits is h = absurd d
  loads_counted (big high low) j k vs pre rest s d tr o fits is h = absurd d

  -- the expression over the loaded words reads no cell
  two_go : (f : ℕ → ℕ → ℕ) (p q : Run ℕ) (s : State) → ((v : ℕ) × (p s ≡ goes_on v s)) → ((v : ℕ) × (q s ≡ goes_on v s)) → (v : ℕ) × (and_then (p s) (λ x t. and_then (q t) (λ y t. goes_on (f x y) t)) ≡ goes_on v s)
  two_go f p q s h g = (f h.0 g.0, ap (λ o. and_then o (λ x t. and_then (q t) (λ y t. goes_on (f x y) t))) h.1 ∙ ap (λ o. and_then o (λ y t. goes_on (f h.0 y) t)) g.1)

  cast_goes : (b : Bool) (n : ℕ) (p : Run ℕ) (s : State) → ((v : ℕ) × (p s ≡ goes_on v s)) → (v : ℕ) × ((if b then give n else p) s ≡ goes_on v s)
  cast_goes true n p s h = (n, refl)
  cast_goes false n p s h = h

  pub pure_goes : (e : PlainExpr) (j : ℕ) (vs : Vars) (s : State) → (v : ℕ) × (word us (pure e j) vs s ≡ goes_on v s)
  pure_goes (lit n) j vs s = (n, refl)
  pure_goes (var x) j vs s = (s.words x, refl)
  pure_goes (cell x at) j vs s = (s.words (register (j + indices_in at)), refl)
  pure_goes (un op a) j vs s = let h : (v : ℕ) × (word us (pure a j) vs s ≡ goes_on v s) = pure_goes a j vs s in (word_un op h.0, ap (λ o. and_then o (λ x t. goes_on (word_un op x) t)) h.1)
  pure_goes (bin op a b) j vs s = two_go (word_bin op) (word us (pure a j) vs) (word us (pure b (j + reads_in a)) vs) s (pure_goes a j vs s) (pure_goes b (j + reads_in a) vs s)
  pure_goes (cast a) j vs s = cast_goes (is_signed (kind vs (pure a j))) (as_word (signed (pure a j) vs)) (word us (pure a j) vs) s (pure_goes a j vs s)
  pure_goes (test rel a b) j vs s = two_go _ (word us (pure a j) vs) (word us (pure b (j + reads_in a)) vs) s (pure_goes a j vs s) (pure_goes b (j + reads_in a) vs s)
  pure_goes (umin a b) j vs s = two_go _ (word us (pure a j) vs) (word us (pure b (j + reads_in a)) vs) s (pure_goes a j vs s) (pure_goes b (j + reads_in a) vs s)
  pure_goes (umax a b) j vs s = two_go _ (word us (pure a j) vs) (word us (pure b (j + reads_in a)) vs) s (pure_goes a j vs s) (pure_goes b (j + reads_in a) vs s)
  pure_goes (least a b) j vs s = (0, refl)
  pure_goes (greatest a b) j vs s = (0, refl)
  pure_goes (widen a) j vs s = (0, refl)
  pure_goes (big high low) j vs s = (0, refl)

  -- the addition to a definition total
  defined_path : (t : Bool) (d e v w k l x y : ℕ) → d ≡ e → v ≡ w → k ≡ l → x ≡ y → cond t ((d + (v * k) % 2 ^ 128) % 2 ^ 128) x ≡ cond t ((e + (w * l) % 2 ^ 128) % 2 ^ 128) y
  defined_path t d e v w k l x y a b c g = rw (a, b, c, g) refl

  -- a store, its piece and the addition
  stored_counted : (piece : List PlainStmt) (p : Piece us piece) (a k x v : ℕ) (vs : Vars) (cs : List ℤ) (pre rest : List Tagged) (s : State) → Counts kept us whole k piece p → trust.steady a ≡ false → AllMayLoop vs → a < 2 ^ 64 → x ≡ a → Within (extents a) cs →
      pre ++ tag k vs (access_to x cs true) ∷ rest ≡ whole → At pre s →
      At (pre ++ tag k vs (access_to x cs true) ∷ []) (defined a (p.to vs (record s { words = put s.words result v; memory = stored (found fault s) a cs v; accesses = log a cs true v s })))
  stored_counted piece p a k x v vs cs pre rest s c free o small e lies is h =
      let t : Tagged = tag k vs (access_to x cs true) in
      let y : Event = event a cs true v in
      let mid : State = record s { words = put s.words result v; memory = stored (found fault s) a cs v; accesses = log a cs true v s } in
      let to : State = p.to vs mid in
      let n : length s.accesses ≡ length pre = as_long pre s h.made in
      let n0 : 0 + length s.accesses ≡ length pre = omega arith in
      let mid_ready : Ready kept pre mid = record { entries = h.ready.entries; counters = λ x e. ap (λ b. cond b v (s.words x)) (apart_as' piece_word result x result_no_piece (is_kept.piece_words x e)) ∙ h.ready.counters x e } in
      let counted : to.wides count ≡ u (length pre) = c.counts pre rest t mid o is refl refl mid_ready in
      let value : to.words result ≡ v = p.words vs mid result result_no_piece ∙ ap (λ b. cond b v (s.words result)) (same_word result) in
      record {
        begun = p.begun vs mid ∙ h.begun;
        follows = subst (λ (xs : List Event). Follows fault inputs extents xs to.memory) (sym (p.accesses vs mid))
            (subst (λ (m : Memory). Follows fault inputs extents (s.accesses ++ y ∷ []) m) (sym (p.memory vs mid))
            (one_more fault inputs extents s.accesses s.memory h.follows y lies (λ r. absurd (let g : true ≡ false = r in cc))));
        made = ap (λ (l : List Event). views trust.trusted (accesses_in l)) (p.accesses vs mid) ∙ more_made s.accesses pre a x cs cs true v k vs h.made e (λ t. refl);
        steady = record { intact = λ q c st e. ap (λ (m : Memory). m q c) (p.memory vs mid) ∙ still_steady s a cs true v (stored (found fault s) a cs v) h.steady (λ q c st. not_stored q c st) q c st (ap (λ (l : List Event). seen fault (length l) q c) (sym (p.accesses vs mid)) ∙ e) };
        ready = record { entries = c.tables vs mid o ∙ h.ready.entries; counters = λ y e. c.keeps pre rest t mid o is refl refl mid_ready y e };
        used = λ b fits.
            ap (λ (t : Bool). cond t ((to.wides (definition_total a) + (to.words result * to.wides count) % 2 ^ 128) % 2 ^ 128) (to.wides (use_total b))) (definition_use a b) ∙ p.wides vs mid (use_total b) (count_use b) ∙ h.used b fits ∙
            ap (λ n. n % 2 ^ 128) (sym (read_sum_push b s.accesses y ∙ omega arith) ∙ ap (read_sum b) (sym (p.accesses vs mid)));
        defined = λ b fits.
            let push = written_sum_push u b 0 s.accesses y in
            let end : (start b + written_sum u b 0 (s.accesses ++ y ∷ [])) % 2 ^ 128 ≡ (start b + written_sum u b 0 to.accesses) % 2 ^ 128 = ap (λ (l : List Event). (start b + written_sum u b 0 l) % 2 ^ 128) (sym (p.accesses vs mid)) in
            defined_path (bytes_eq (definition_total a) (definition_total b)) (to.wides (definition_total a)) (s.wides (definition_total a)) (to.words result) v (to.wides count) (u (length pre)) (to.wides (definition_total b)) (s.wides (definition_total b))
            (p.wides vs mid (definition_total a) (count_definition a)) value counted (p.wides vs mid (definition_total b) (count_definition b)) ∙
            elim (cases_eq a b) [
              | inl g ↦ (
                  let t : nat_eq a b ≡ true = eq-eqb a b g in
                  let p2 : written_sum u b 0 (s.accesses ++ y ∷ []) ≡ written_sum u b 0 s.accesses + v * u (length pre) = push ∙ rw t (ap (λ n. written_sum u b 0 s.accesses + v * u n) n0) in
                  let w : s.wides (definition_total a) ≡ (start b + written_sum u b 0 s.accesses) % 2 ^ 128 = ap (λ n. s.wides (definition_total n)) g ∙ h.defined b fits in
                  ap (λ (t : Bool). cond t ((s.wides (definition_total a) + (v * u (length pre)) % 2 ^ 128) % 2 ^ 128) (s.wides (definition_total b))) (ap (λ n. bytes_eq (definition_total a) (definition_total n)) (sym g) ∙ same_word (definition_total a)) ∙
                  more_defined _ (start b) (written_sum u b 0 s.accesses) (v * u (length pre)) w ∙ ap (λ n. (start b + n) % 2 ^ 128) (sym p2) ∙ end)
              | inr g ↦ (
                  let t : nat_eq a b ≡ false = ne_eqb a b g in
                  let p2 : written_sum u b 0 (s.accesses ++ y ∷ []) ≡ written_sum u b 0 s.accesses = push ∙ rw t (omega arith) in
                  ap (λ (t : Bool). cond t ((s.wides (definition_total a) + (v * u (length pre)) % 2 ^ 128) % 2 ^ 128) (s.wides (definition_total b))) (definition_apart a b small fits g) ∙ h.defined b fits ∙
                  ap (λ n. (start b + n) % 2 ^ 128) (sym p2) ∙ end)
            ];
      }
    where
      not_stored : (q : ℕ) (c : List ℤ) → trust.steady q ≡ true → stored (found fault s) a cs v q c ≡ found fault s q c
      not_stored q c st = elim (cases_Bool (a == q)) [
        | inl e ↦ absurd (true≢false (sym st ∙ ap trust.steady (sym (eqb-true a q e)) ∙ free))
        | inr e ↦ ap (λ b. if b && same_cell cs c then v else found fault s q c) e
      ]

  pub store_counted : (piece : List PlainStmt) (p : Piece us piece) (k : ℕ) (x : Word) (at : PlainExprs) (e : PlainExpr) (vs : Vars) (pre rest : List Tagged) (s : State) → Counts kept us whole k piece p → trust.steady (number x) ≡ false → AllMayLoop vs → (a : IsArray arrays number x) → AreRegular at vs →
      pre ++ tag k vs (cell_access number x at vs true) ∷ rest ≡ whole → At pre s →
      GoesOr Early (At (pre ++ tag k vs (cell_access number x at vs true) ∷ [])) (exec_all us (stmts_of (store_text (number x) piece x at (pure e 0))) vs s)
  store_counted piece p k x at e vs pre rest s c free o a regular is h =
      let v : (v : ℕ) × (word us (pure e 0) vs s ≡ goes_on v s) = pure_goes e 0 vs s in
      rw (store_is arrays number wides fault names piece p x at (pure e 0) vs s v.0 a regular o v.1) (chosen v.0 (is_within (signed_all at vs) a.array.1.extents) refl)
    where
      chosen : (v : ℕ) (b : Bool) → is_within (signed_all at vs) a.array.1.extents ≡ b → GoesOr Early (At (pre ++ tag k vs (cell_access number x at vs true) ∷ []))
          (and_then ((if b then stores us a.array.0 (signed_all at vs) v else (λ s. ends (outside a.array.0) s)) (record s { words = put s.words result v })) (λ b t. goes_on (tt {0}) (defined a.array.0 (p.to vs t))))
      chosen v true w =
          let two : State = record s { words = put s.words result v } in
          subst (λ o. GoesOr Early (At (pre ++ tag k vs (cell_access number x at vs true) ∷ [])) (and_then o (λ b t. goes_on (tt {0}) (defined a.array.0 (p.to vs t))))) (sym (store_begun us a.array.0 (signed_all at vs) v two h.begun))
          (stored_counted piece p a.array.0 k (number x) v vs (signed_all at vs) pre rest s c (ap trust.steady (sym a.numbered) ∙ free) o a.small a.numbered (lies_is x a (signed_all at vs) w) is h)
      chosen v false w = inr (no_end x a vs true at k pre rest is w)

  pub turn_counted : (pre : List Tagged) (s : State) → At pre s → GoesOr Early (At pre) (turn s)
  turn_counted pre s h = chosen s.begun
    where
      chosen : (b : Bool) → At pre (cond b (record s { body_turns = s.body_turns + 1 }) (record s { prologue_turns = s.prologue_turns + 1 }))
      chosen true = record { begun = h.begun; made = h.made; used = h.used; defined = h.defined; follows = h.follows; ready = record { entries = h.ready.entries; counters = h.ready.counters }; steady = record { intact = h.steady.intact } }
      chosen false = record { begun = h.begun; made = h.made; used = h.used; defined = h.defined; follows = h.follows; ready = record { entries = h.ready.entries; counters = h.ready.counters }; steady = record { intact = h.steady.intact } }

  pub over_counted : (f : ℤ → Run (Unit {0})) (list : ℤ → List Tagged) → ((v : ℤ) (pre rest : List Tagged) (s : State) → pre ++ (list v ++ rest) ≡ whole → At pre s → GoesOr Early (At (pre ++ list v)) (f v s)) →
      (vals : List ℤ) (pre rest : List Tagged) (s : State) → pre ++ (flat_map list vals ++ rest) ≡ whole → At pre s → GoesOr Early (At (pre ++ flat_map list vals)) (over f vals s)
  over_counted f list h [] pre rest s is a = rw (append-nil pre) a
  over_counted f list h (v ∷ vals) pre rest s is a =
      let is2 : pre ++ (list v ++ (flat_map list vals ++ rest)) ≡ whole = ap (λ l. pre ++ l) (sym (append_assoc (list v) (flat_map list vals) rest)) ∙ is in
      then_or Early (At (pre ++ list v)) (At (pre ++ (list v ++ flat_map list vals))) (f v s) (λ b. over f vals) (h v pre (flat_map list vals ++ rest) s is2 a)
      (λ t r. subst (λ l. GoesOr Early (At l) (over f vals t)) (append_assoc pre (list v) (flat_map list vals))
      (over_counted f list h vals (pre ++ list v) rest t (append_assoc pre (list v) (flat_map list vals ++ rest) ∙ is2) r))
