-- The inspected arrays of a unit: their tables, extents and counts, each by its number.
use Rattle.std.proofs.Common.{◌≡◌, ◌⊎◌, inl, inr, ℕ, suc, ◌+◌, ◌^◌, ◌<◌, Bool, true, false, cond, ◌&&◌, ◌||◌, ◌==◌, if◌then◌else◌, List, [], ◌∷◌, ◌++◌, length, map, refl, sym, ap, ◌∙◌, subst, arith, ℤ, Some, None, Option, true≢false}
use Rattle.std.specs.Prelude.{bytes_eq}
use Rattle.std.proofs.lemmas.Bool.{cases_Bool, cond-true, cond-false, eqb-true}
use Rattle.c_tree.specs.Plain.{Word, PlainExprs, PlainStmts, PlainParam, int_param, array_param}
use Rattle.c_tree.specs.Values.{Vars}
use Rattle.c_tree.specs.Arrays.{Array, array_from, arrays_of, extents_in, extents_at, vars_of}
use Rattle.c_tree.specs.Accesses.{Access}
use Rattle.c_tree.specs.Instances.{Tagged, untagged}
use Rattle.c_tree.specs.Run.{State}
use Rattle.run_laws.proofs.Within.{array_stands}
use Rattle.instrumentation.specs.Names.{count, definition_total, use_total, written, current, counts, number_from}
use Rattle.instrumentation.specs.Inspects.{inspects_all}
use Rattle.instrumentation.specs.Tables.{build}
use Rattle.instrumentation.specs.Pieces.{builds}
use Rattle.instrumentation.specs.Guarded.{arrays_with_extents, array_names, extents_from, total_names}
use Rattle.instrumentation_laws.specs.OwnNames.{own}
use Rattle.instrumentation_laws.proofs.Names.{apart_as, same_word}
use Rattle.instrumentation_laws.proofs.Declared.{names_are, count_in}
use Rattle.inspection_laws.specs.AllTables.{Named, build_all, AllApart, AreDistinct, AreReady, EachHolds}
use Rattle.inspection_laws.specs.CountedUnits.{inspected_from, HaveExtents, AllOwn, NamesHaveTables}
use Rattle.inspection_laws.specs.CountingPieces.{AreSmall, HoldsUses}
use Rattle.inspection_laws.specs.Inspections.{writes_in, counts_one_of, count_of}
use Rattle.inspection_laws.specs.Walked.{IsKnown, AreExtents, HasTables}
use Rattle.inspection_laws.proofs.Prepares.{scratch_piece, AllNoPieces, piece_not_wide}
use Rattle.inspection_laws.proofs.TablePieces.{writes_push, or_first}

-- ---- names

none_found : (k : ℕ) (arrays : List Array) (x : Word) → AllOwn (map (λ (r : Array). r.name) arrays) → own x ≡ false → array_from k arrays x ≡ None
none_found k [] x h e = refl
none_found k (r ∷ more) x h e = rw (apart_as own r.name x h.0 e) (none_found (suc k) more x h.1 e)

current_not_own : (a : ℕ) → own (current a) ≡ false
unfolding current
current_not_own a = refl

counts_not_own : (a : ℕ) → own (counts a) ≡ false
unfolding counts
counts_not_own a = refl

totals_no_pieces : (a : ℕ) (xs : List Word) → AllNoPieces (total_names a xs)
unfolding definition_total use_total
totals_no_pieces a [] = tt
totals_no_pieces a (x ∷ xs) = (refl, (refl, totals_no_pieces (suc a) xs))

wides_no_pieces : (xs : List Word) → AllNoPieces (count ∷ total_names 0 xs)
unfolding count
wides_no_pieces xs = (refl, totals_no_pieces 0 xs)

has_tables : (vs : Vars) (ps : List PlainParam) → AllOwn (array_names ps) → (a : ℕ) → HasTables (arrays_of vs ps) (count ∷ total_names 0 (array_names ps)) a
has_tables vs ps h a =
    let names : AllOwn (map (λ (r : Array). r.name) (arrays_of vs ps)) = subst AllOwn (sym (names_are vs ps)) h in
    record {
      current_apart = none_found 0 (arrays_of vs ps) (current a) names (current_not_own a);
      counts_apart = none_found 0 (arrays_of vs ps) (counts a) names (counts_not_own a);
      words = λ x e. piece_not_wide (count ∷ total_names 0 (array_names ps)) x (wides_no_pieces (array_names ps)) (scratch_piece a x e);
      count_wide = count_in (array_names ps);
    }

pub names_have_tables : NamesHaveTables
names_have_tables u ns h a = has_tables (vars_of u.params ns) u.params h a

pub known_sizes : (arrays : List Array) (number : Word → ℕ) (x : Word) (k : IsKnown arrays number x) → k.array.1.extents ≡ extents_at arrays k.array.0
known_sizes arrays number x k = ap extents_in (sym (array_stands arrays x k.array k.named))

-- ---- one of several arrays

abbrev pub In : ℕ → PlainExprs → Named → Type 0
In a ns [] = ⊥
In a ns (x ∷ xs) = ((x.0 ≡ a) × (x.1 ≡ ns)) ⊎ In a ns xs

abbrev pub numbers : Named → List ℕ
numbers xs = map (λ x. x.0) xs

pub held : (xs : Named) (a : ℕ) (ns : PlainExprs) → In a ns xs → counts_one_of (numbers xs) (written a) ≡ true
held [] a ns i = absurd i
held (x ∷ xs) a ns i =
    elim i [
      | inl e ↦ or_first (bytes_eq (written x.0) (written a)) (counts_one_of (numbers xs) (written a)) (ap (λ n. bytes_eq (written n) (written a)) e.0 ∙ same_word (written a))
      | inr i ↦ or_second (bytes_eq (written x.0) (written a)) (counts_one_of (numbers xs) (written a)) (held xs a ns i)
    ]
  where
    or_second : (b c : Bool) → c ≡ true → (b || c) ≡ true
    or_second true c e = refl
    or_second false c e = e

pub all_small : (xs : Named) → AreDistinct xs → AreSmall (numbers xs)
all_small [] d = tt
all_small (x ∷ xs) d = (d.0, all_small xs d.2)

pub is_small : (xs : Named) (a : ℕ) (ns : PlainExprs) → AreDistinct xs → In a ns xs → a < 2 ^ 64
is_small [] a ns d i = absurd i
is_small (x ∷ xs) a ns d i = elim i [ inl e ↦ subst (λ n. n < 2 ^ 64) e.0 d.0 | inr i ↦ is_small xs a ns d.2 i ]

pub holds_uses : (whole : List Tagged) (extents : ℕ → List ℤ) (xs : Named) (t : State) (a : ℕ) (ns : PlainExprs) → EachHolds (untagged whole) extents xs t → In a ns xs → HoldsUses whole a (extents a) t.tables
holds_uses whole extents [] t a ns h i = absurd i
holds_uses whole extents (x ∷ xs) t a ns h i =
    elim i [
      | inl e ↦ subst (λ n. HoldsUses whole n (extents n) t.tables) e.0 (λ d its. h.0.1 d its)
      | inr i ↦ holds_uses whole extents xs t a ns h.1 i
    ]

pub its_extents : (arrays : List Array) (wides : List Word) (extents : ℕ → List ℤ) (vs : Vars) (xs : Named) (a : ℕ) (ns : PlainExprs) → AreReady arrays wides extents vs xs → In a ns xs → AreExtents ns (extents a) vs
its_extents arrays wides extents vs [] a ns r i = absurd i
its_extents arrays wides extents vs (x ∷ xs) a ns r i =
    elim i [
      | inl e ↦ subst (λ n. AreExtents ns (extents n) vs) e.0 (subst (λ ns. AreExtents ns (extents x.0) vs) e.1 r.0.1)
      | inr i ↦ its_extents arrays wides extents vs xs a ns r.1 i
    ]

-- ---- the inspected arrays

module _ (number : Word → ℕ) (body : PlainStmts) where
  pub builds_are : (a : ℕ) (decls : List (Word × PlainExprs)) → builds number body a decls ≡ build_all number body (inspected_from number body a decls)
  builds_are a [] = refl
  builds_are a (x ∷ more) = chosen (inspects_all number a body) (builds_are (suc a) more)
    where
      chosen : (b : Bool) → builds number body (suc a) more ≡ build_all number body (inspected_from number body (suc a) more) →
          cond b (build number body a x.1) [] ++ builds number body (suc a) more ≡ build_all number body (cond b ((a, x.1) ∷ inspected_from number body (suc a) more) (inspected_from number body (suc a) more))
      chosen true e = ap (λ l. build number body a x.1 ++ l) e
      chosen false e = e

  pub are_ready : (arrays : List Array) (wides : List Word) (extents : ℕ → List ℤ) (vs : Vars) → ((a : ℕ) → HasTables arrays wides a) → (a : ℕ) (decls : List (Word × PlainExprs)) → HaveExtents number body extents vs a decls →
      AreReady arrays wides extents vs (inspected_from number body a decls)
  are_ready arrays wides extents vs has a [] h = tt
  are_ready arrays wides extents vs has a (x ∷ more) h = chosen (inspects_all number a body) h.0 (are_ready arrays wides extents vs has (suc a) more h.1)
    where
      chosen : (b : Bool) → (b ≡ true → AreExtents x.1 (extents a) vs) → AreReady arrays wides extents vs (inspected_from number body (suc a) more) → AreReady arrays wides extents vs (cond b ((a, x.1) ∷ inspected_from number body (suc a) more) (inspected_from number body (suc a) more))
      chosen true g r = ((has a, g refl), r)
      chosen false g r = r

  are_apart : (b a : ℕ) (decls : List (Word × PlainExprs)) → b < a → a + length decls < 2 ^ 64 → AllApart b (inspected_from number body a decls)
  are_apart b a [] l s = tt
  are_apart b a (x ∷ more) l s = chosen (inspects_all number a body) (are_apart b (suc a) more (omega arith) (omega arith))
    where
      chosen : (c : Bool) → AllApart b (inspected_from number body (suc a) more) → AllApart b (cond c ((a, x.1) ∷ inspected_from number body (suc a) more) (inspected_from number body (suc a) more))
      chosen true h = (((λ e. (let k : a ≡ b = e in absurd (omega arith))), omega arith), h)
      chosen false h = h

  pub are_distinct : (a : ℕ) (decls : List (Word × PlainExprs)) → a + length decls < 2 ^ 64 → AreDistinct (inspected_from number body a decls)
  are_distinct a [] s = tt
  are_distinct a (x ∷ more) s = chosen (inspects_all number a body) (are_apart a (suc a) more (omega arith) (omega arith)) (are_distinct (suc a) more (omega arith))
    where
      chosen : (c : Bool) → AllApart a (inspected_from number body (suc a) more) → AreDistinct (inspected_from number body (suc a) more) → AreDistinct (cond c ((a, x.1) ∷ inspected_from number body (suc a) more) (inspected_from number body (suc a) more))
      chosen true p h = (omega arith, p, h)
      chosen false p h = h

  -- the first one, and those behind it
  pub in_first : (a : ℕ) (x : Word × PlainExprs) (more : List (Word × PlainExprs)) → inspects_all number a body ≡ true → In a x.1 (inspected_from number body a (x ∷ more))
  in_first a x more e = subst (λ c. In a x.1 (cond c ((a, x.1) ∷ inspected_from number body (suc a) more) (inspected_from number body (suc a) more))) (sym e) (inl (refl, refl))

  pub in_rest : (a : ℕ) (x : Word × PlainExprs) (more : List (Word × PlainExprs)) (b : ℕ) (es : PlainExprs) → In b es (inspected_from number body (suc a) more) → In b es (inspected_from number body a (x ∷ more))
  in_rest a x more b es i = chosen (inspects_all number a body)
    where
      chosen : (c : Bool) → In b es (cond c ((a, x.1) ∷ inspected_from number body (suc a) more) (inspected_from number body (suc a) more))
      chosen true = inr i
      chosen false = i

  -- by its name
  abbrev pub Among : Word → List (Word × PlainExprs) → Type 0
  Among x [] = ⊥
  Among x (d ∷ ds) = (bytes_eq d.0 x ≡ false) → Among x ds

  pub in_named : (a : ℕ) (decls : List (Word × PlainExprs)) (x : Word) → Among x decls → inspects_all number (number_from a (map (λ d. d.0) decls) x) body ≡ true →
      In (number_from a (map (λ d. d.0) decls) x) (extents_from decls x) (inspected_from number body a decls)
  in_named a [] x h e = absurd h
  in_named a (d ∷ ds) x h e =
      elim (cases_Bool (bytes_eq d.0 x)) [
        | inl same ↦ (
            let n : number_from a (map (λ d. d.0) (d ∷ ds)) x ≡ a = cond-true _ _ _ same in
            let es : extents_from (d ∷ ds) x ≡ d.1 = cond-true _ _ _ same in
            subst (λ k. In k (extents_from (d ∷ ds) x) (inspected_from number body a (d ∷ ds))) (sym n)
            (subst (λ l. In a l (inspected_from number body a (d ∷ ds))) (sym es) (in_first a d ds (ap (λ k. inspects_all number k body) (sym n) ∙ e))))
        | inr other ↦ (
            let n : number_from a (map (λ d. d.0) (d ∷ ds)) x ≡ number_from (suc a) (map (λ d. d.0) ds) x = cond-false _ _ _ other in
            let es : extents_from (d ∷ ds) x ≡ extents_from ds x = cond-false _ _ _ other in
            subst (λ k. In k (extents_from (d ∷ ds) x) (inspected_from number body a (d ∷ ds))) (sym n)
            (subst (λ l. In (number_from (suc a) (map (λ d. d.0) ds) x) l (inspected_from number body a (d ∷ ds))) (sym es)
            (in_rest a d ds (number_from (suc a) (map (λ d. d.0) ds) x) (extents_from ds x) (in_named (suc a) ds x (h other) (ap (λ k. inspects_all number k body) (sym n) ∙ e)))))
      ]

  pub among_params : (vs : Vars) (k : ℕ) (ps : List PlainParam) (x : Word) (a : ℕ × Array) → array_from k (arrays_of vs ps) x ≡ Some a → Among x (arrays_with_extents ps)
  among_params vs k [] x a e = absurd (let g : (let o : Option (ℕ × Array) = None in o) ≡ Some a = e in cc)
  among_params vs k (int_param y ∷ ps) x a e = among_params vs k ps x a e
  among_params vs k (array_param y constant es ∷ ps) x a e = λ other. among_params vs (suc k) ps x a (sym (cond-false _ _ _ other) ∙ e)

  -- ---- writes of other arrays

  abbrev pub AllInspected : Named → Type 0
  AllInspected [] = Unit {0}
  AllInspected (x ∷ xs) = (inspects_all number x.0 body ≡ true) × AllInspected xs

  pub all_inspected : (a : ℕ) (decls : List (Word × PlainExprs)) → AllInspected (inspected_from number body a decls)
  all_inspected a [] = tt
  all_inspected a (x ∷ more) = chosen (inspects_all number a body) refl (all_inspected (suc a) more)
    where
      chosen : (c : Bool) → inspects_all number a body ≡ c → AllInspected (inspected_from number body (suc a) more) → AllInspected (cond c ((a, x.1) ∷ inspected_from number body (suc a) more) (inspected_from number body (suc a) more))
      chosen true e h = (e, h)
      chosen false e h = h

  nothing : (p q : Bool) → q ≡ false → (let n : ℕ = if p && q then 1 else 0 in n) ≡ 0
  nothing true q e = ap (λ (q : Bool). (let n : ℕ = if q then 1 else 0 in n)) e
  nothing false q e = refl

  pub count_apart : (xs : Named) (list : List Access) (y : Access) (x : Word) → AllInspected xs → inspects_all number y.array body ≡ false → count_of (numbers xs) (list ++ y ∷ []) x ≡ count_of (numbers xs) list x
  count_apart [] list y x h e = refl
  count_apart (b ∷ xs) list y x h e =
      let other : (y.array == b.0) ≡ false = elim (cases_Bool (y.array == b.0)) [ inl f ↦ absurd (true≢false (sym h.0 ∙ ap (λ n. inspects_all number n body) (sym (eqb-true y.array b.0 f)) ∙ e)) | inr f ↦ f ] in
      let same : writes_in (list ++ y ∷ []) b.0 ≡ writes_in list b.0 = writes_push list y b.0 ∙ ap (λ n. writes_in list b.0 + n) (nothing y.writes (y.array == b.0) other) ∙ omega arith in
      rw (same, count_apart xs list y x h.1 e) refl
