-- The tables of several inspected arrays, one after another: each holds what it holds alone.
use Rattle.std.proofs.Common.{◌≡◌, ◌≢◌, inl, inr, ℕ, arith, ◌*◌, ◌+◌, ◌^◌, ◌<◌, Bool, true, false, ◌||◌, if◌then◌else◌, List, [], ◌∷◌, ◌++◌, length, map, refl, sym, ap, ◌∙◌, subst, append_assoc, append-nil, ℤ, Option, true≢false}
use Rattle.std.specs.Prelude.{bytes_eq, codes, decimal, slice_index}
use Rattle.std.proofs.lemmas.Bool.{cases_Bool}
use Rattle.std.proofs.lemmas.Fmt.{decimal_injective}
use Rattle.c_tree.specs.Plain.{Word, PlainExprs, no_exprs, more_exprs, PlainStmts}
use Rattle.c_tree.specs.Trees.{stmts_of}
use Rattle.c_tree.specs.Values.{Vars}
use Rattle.c_tree.specs.Arrays.{Array, Memory}
use Rattle.c_tree.specs.Accesses.{Access, Clean}
use Rattle.c_tree.specs.Fault.{Upset}
use Rattle.c_tree.specs.Instances.{untagged}
use Rattle.c_tree.specs.Run.{State, Outcome, goes_on, ends, exec_all}
use Rattle.instrumentation.specs.Names.{numbered}
use Rattle.instrumentation_laws.specs.OwnNames.{own, begins}
use Rattle.instrumentation_laws.specs.Setting.{scope_of}
use Rattle.instrumentation_laws.proofs.Names.{front_cancel, apart_by}
use Rattle.pass_laws.specs.Countable.{AreOwn}
use Rattle.pass_laws.specs.Places.{IsPlace}
use Rattle.pass_laws.proofs.Renamed.{copied_vars}
use Rattle.instrumentation.specs.Names.{written, current, counts}
use Rattle.instrumentation.specs.Tables.{build}
use Rattle.inspection_laws.specs.AllTables.{Named, build_all, NoScratch, NoTable, AllApart, AreDistinct, AreReady, EachHolds, AllBuilt, misses_each, two_lengths, lengths_made}
use Rattle.inspection_laws.specs.Inspected.{number_of}
use Rattle.inspection_laws.specs.Inspections.{counts_one_of, count_of, tables_kept}
use Rattle.instrumentation_laws.specs.IndexedList.{tagged_all}
use Rattle.inspection_laws.specs.Walked.{IsKnown, AreWalked, AreExtents, Built}
use Rattle.instrumentation_laws.specs.KeptTexts.{Prepared}
use Rattle.instrumentation_laws.proofs.Outcomes.{GoesOr}
use Rattle.inspection_laws.proofs.Walks.{join_or}
use Rattle.inspection_laws.proofs.Building.{builds}
use Rattle.inspection_laws.proofs.Sized.{sized_from, walk_agrees}
use Rattle.inspection_laws.proofs.Prepares.{own_no_scratch}
use Rattle.pass_laws.specs.Turns.{turns_all}
use Rattle.inspection_laws.specs.Misses.{misses_in, misses_all}
use Rattle.inspection_laws.proofs.Ending.{EndsAtFirst, Passed, first_join, build_ends, affine_quiet}
use Rattle.inspection_laws.proofs.TablePieces.{same_text, written_apart}
use Rattle.inspection_laws.specs.CountingPieces.{AllSilent}

-- ---- names

counts_apart : (i j : ℕ) → i < 2 ^ 64 → j < 2 ^ 64 → i ≢ j → bytes_eq (counts i) (counts j) ≡ false
unfolding counts
counts_apart i j a b h = apart_by (numbered (codes "bal_tu") i) (numbered (codes "bal_tu") j) (λ e. h (decimal_injective i j a b (front_cancel (codes "bal_tu") (decimal i) (decimal j) e)))

current_counts : (i j : ℕ) → bytes_eq (current i) (counts j) ≡ false
unfolding current counts
current_counts i j = refl

written_no_index : (a : ℕ) → begins (codes "bal_cx") (written a) ≡ false
unfolding written
written_no_index a = refl

-- ---- several arrays

pub own_scratch : (xs : Named) (y : Word) → own y ≡ true → NoScratch xs y
own_scratch [] y o = tt
own_scratch (x ∷ xs) y o = (own_no_scratch x.0 y o, own_scratch xs y o)

apart_scratch : (a : ℕ) (xs : Named) → a < 2 ^ 64 → AllApart a xs → NoScratch xs (written a)
apart_scratch a [] s h = tt
apart_scratch a (x ∷ xs) s h = (rw (written_apart x.0 a h.0.1 s h.0.0) (written_no_index a), apart_scratch a xs s h.1)

apart_table : (a : ℕ) (xs : Named) → a < 2 ^ 64 → AllApart a xs → NoTable xs (counts a)
apart_table a [] s h = tt
apart_table a (x ∷ xs) s h = ((current_counts x.0 a, counts_apart x.0 a h.0.1 s h.0.0), apart_table a xs s h.1)

module _ (arrays : List Array) (number : Word → ℕ) (wides : List Word) (fault : Option Upset) (params : Vars) (place : IsPlace params params) (own_params : AreOwn params) (extents : ℕ → List ℤ) (sizes : (x : Word) (k : IsKnown arrays number x) → k.array.1.extents ≡ extents k.array.0)
    (body : PlainStmts) (walked : AreWalked arrays number body params) (m : Memory) (clean : Clean extents (untagged (tagged_all arrays m number 0 body params))) (short : length (tagged_all arrays m number 0 body params) < 2 ^ 63) where
  abbrev list : List Access
  list = untagged (tagged_all arrays m number 0 body params)

  pub build_each : (xs : Named) (from : State) → AreReady arrays wides extents params xs → AreDistinct xs → from.begun ≡ false → from.memory ≡ m →
      GoesOr (λ e t. ⊥) (AllBuilt list extents xs from) (exec_all (scope_of arrays wides fault) (stmts_of (build_all number body xs)) params from)
  build_each [] from r d b e = record { begun = refl; memory = refl; accesses = refl; wides = refl; words = λ y n. refl; tables = λ y n. refl; made = sym (append-nil from.made); each = tt }
  build_each (x ∷ xs) from r d b e =
      join_or (scope_of arrays wides fault) (λ e t. ⊥) (Built list x.0 (extents x.0) from) (AllBuilt list extents (x ∷ xs) from) (build number body x.0 x.1) (build_all number body xs) params from
      (builds arrays number wides fault x.0 r.0.0 m params params place own_params (tagged_all arrays m number 0 body params) extents x.1 clean short sizes
      (λ loops. sized_from params (copied_vars loops ++ params) (walk_agrees params params place loops) (scope_of arrays wides fault) x.1 (extents x.0) r.0.1) body walked refl from b e)
      (λ u h. after u h (exec_all (scope_of arrays wides fault) (stmts_of (build_all number body xs)) params u) (build_each xs u r.1 d.2 (h.begun ∙ b) (h.memory ∙ e)))
    where
      after : (u : State) → Built list x.0 (extents x.0) from u → (o : Outcome (Unit {0})) → GoesOr (λ e t. ⊥) (AllBuilt list extents xs u) o → GoesOr (λ e t. ⊥) (AllBuilt list extents (x ∷ xs) from) o
      after u h (goes_on v t) k = record {
        begun = k.begun ∙ h.begun;
        memory = k.memory ∙ h.memory;
        accesses = k.accesses ∙ h.accesses;
        wides = k.wides ∙ h.wides;
        words = λ y n. k.words y n.1 ∙ h.words y n.0;
        tables = λ y n. k.tables y n.1 ∙ h.tables y n.0.0 n.0.1;
        made = k.made ∙ ap (λ l. l ++ lengths_made list extents xs) h.made ∙ append_assoc from.made (two_lengths list extents x.0) (lengths_made list extents xs);
        each = (
          (
            k.words (written x.0) (apart_scratch x.0 xs d.0 d.1) ∙ h.none_written,
            λ d' i. ap (λ l. slice_index l (number_of list x.0 (extents x.0) d')) (k.tables (counts x.0) (apart_table x.0 xs d.0 d.1)) ∙ h.counted d' i,
          ),
          k.each,
        );
      }
      after u h (ends e t) k = absurd k

  -- so the state is one from which all their pieces run
  zero_counts : (xs : Named) (t : State) (y : Word) → EachHolds list extents xs t → counts_one_of (map (λ x. x.0) xs) y ≡ true → t.words y ≡ count_of (map (λ x. x.0) xs) [] y
  zero_counts [] t y h e = absurd (true≢false (sym e))
  zero_counts (x ∷ xs) t y h e =
      elim (cases_Bool (bytes_eq (written x.0) y)) [
        | inl g ↦ (ap t.words (sym (same_text (written x.0) y g)) ∙ h.0.0 ∙ sym (ap (λ (c : Bool). if c then 0 else count_of (map (λ x. x.0) xs) [] y) g))
        | inr g ↦ (zero_counts xs t y h.1 (sym (ap (λ c. c || counts_one_of (map (λ x. x.0) xs) y) g) ∙ e) ∙ sym (ap (λ (c : Bool). if c then 0 else count_of (map (λ x. x.0) xs) [] y) g))
      ]

  pub all_prepared : (xs : Named) (from t : State) → AllBuilt list extents xs from t → Prepared (tables_kept (map (λ x. x.0) xs) t.tables) from t
  all_prepared xs from t h = record {
    begun = h.begun;
    memory = h.memory;
    accesses = h.accesses;
    wides = h.wides;
    words = λ y o. h.words y (own_scratch xs y o);
    ready = record { entries = refl; counters = λ y e. zero_counts xs t y h.each e };
  }

-- ---- from every memory they end exactly at the first miss, array after array

-- two walks for each
pub record AllPassed (xs : Named) (n : ℕ) (from t : State) : Type 0 where
  pub begun : t.begun ≡ from.begun
  pub memory : t.memory ≡ from.memory
  pub accesses : t.accesses ≡ from.accesses
  pub wides : t.wides ≡ from.wides
  pub words : (y : Word) → NoScratch xs y → t.words y ≡ from.words y
  pub prologue : t.prologue_turns ≡ from.prologue_turns + n
  pub body : t.body_turns ≡ from.body_turns

pub silent_of : (ns : PlainExprs) (zs : List ℤ) (params : Vars) → AreExtents ns zs params → AllSilent ns
silent_of no_exprs zs params h = tt
silent_of (more_exprs n ns) [] params h = absurd h
silent_of (more_exprs n ns) (z ∷ zs) params h = (affine_quiet n params h.0.0, silent_of ns zs params h.3)

module _ (arrays : List Array) (number : Word → ℕ) (wides : List Word) (fault : Option Upset) (params : Vars) (place : IsPlace params params) (own_params : AreOwn params) (extents : ℕ → List ℤ) (sizes : (x : Word) (k : IsKnown arrays number x) → k.array.1.extents ≡ extents k.array.0)
    (body : PlainStmts) (walked : AreWalked arrays number body params) (m : Memory) where
  abbrev pub All : Named → State → State → Type 0
  All xs from t = AllPassed xs (length xs * (2 * turns_all body params)) from t

  pub all_end : (xs : Named) (from : State) → AreReady arrays wides extents params xs → from.begun ≡ false → from.memory ≡ m →
      EndsAtFirst (misses_each arrays m number extents body params xs) (λ t. AllPassed xs (length xs * (2 * turns_all body params)) from t) (exec_all (scope_of arrays wides fault) (stmts_of (build_all number body xs)) params from)
  all_end [] from r b e = (refl, record { begun = refl; memory = refl; accesses = refl; wides = refl; words = λ y n. refl; prologue = omega arith; body = refl })
  all_end (x ∷ xs) from r b e =
      subst (λ m. EndsAtFirst (misses_all (misses_in arrays m number x.0 (extents x.0)) body params ++ misses_each arrays m number extents body params xs) (λ t. All (x ∷ xs) from t) (exec_all (scope_of arrays wides fault) (stmts_of (build_all number body (x ∷ xs))) params from)) e
      (first_join (scope_of arrays wides fault) (misses_all (misses_in arrays from.memory number x.0 (extents x.0)) body params) (misses_each arrays from.memory number extents body params xs) (λ t. Passed x.0 (2 * turns_all body params) from t) (λ t. All (x ∷ xs) from t)
      (build number body x.0 x.1) (build_all number body xs) params from
      (build_ends arrays number wides fault x.0 r.0.0 params params place own_params extents x.1 (silent_of x.1 (extents x.0) params r.0.1) sizes
      (λ loops. sized_from params (copied_vars loops ++ params) (walk_agrees params params place loops) (scope_of arrays wides fault) x.1 (extents x.0) r.0.1) body walked from b)
      (λ u h. after u h (exec_all (scope_of arrays wides fault) (stmts_of (build_all number body xs)) params u)
      (subst (λ m. EndsAtFirst (misses_each arrays m number extents body params xs) (λ t. All xs u t) (exec_all (scope_of arrays wides fault) (stmts_of (build_all number body xs)) params u)) (sym e) (all_end xs u r.1 (h.begun ∙ b) (h.memory ∙ e)))))
    where
      after : (u : State) → Passed x.0 (2 * turns_all body params) from u → (o : Outcome (Unit {0})) → EndsAtFirst (misses_each arrays from.memory number extents body params xs) (λ t. All xs u t) o →
          EndsAtFirst (misses_each arrays from.memory number extents body params xs) (λ t. All (x ∷ xs) from t) o
      after u h (goes_on v t) k = (
        k.0,
        record {
          begun = k.1.begun ∙ h.begun;
          memory = k.1.memory ∙ h.memory;
          accesses = k.1.accesses ∙ h.accesses;
          wides = k.1.wides ∙ h.wides;
          words = λ y n. k.1.words y n.1 ∙ h.words y n.0;
          prologue = (let a : t.prologue_turns ≡ u.prologue_turns + length xs * (2 * turns_all body params) = k.1.prologue in let b : u.prologue_turns ≡ from.prologue_turns + 2 * turns_all body params = h.prologue in omega arith);
          body = k.1.body ∙ h.body;
        },
      )
      after u h (ends f t) k = k
