-- The wide names that an instrumented unit declares serve it, and the numbers of its arrays are those of the run.
use Rattle.std.proofs.Common.{◌≡◌, ℕ, suc, ◌+◌, ◌^◌, ◌<◌, ◌≤◌, Bool, true, false, cond, ◌||◌, List, [], ◌∷◌, ◌++◌, length, map, refl, sym, ap, ◌∙◌, subst, arith, append_assoc, ℤ, Some, None, inl, inr}
use Rattle.std.proofs.lemmas.Bool.{cases_eq}
use Rattle.std.proofs.lemmas.List.{length_push, length-map}
use Rattle.std.specs.Prelude.{bytes_eq}
use Rattle.std.specs.List.{list_any}
use Rattle.c_tree.specs.Plain.{Word, PlainParam, int_param, array_param}
use Rattle.c_tree.specs.Values.{Vars}
use Rattle.c_tree.specs.Arrays.{Array, array_from, array_named, arrays_of, extents_of, extents_in, extents_at}
use Rattle.run_laws.proofs.Within.{array_stands}
use Rattle.instrumentation.specs.Names.{register, result, count, use_total, definition_total, number_from, number_in}
use Rattle.instrumentation.specs.Guarded.{arrays_with_extents, array_names, total_names}
use Rattle.instrumentation_laws.specs.OwnNames.{own}
use Rattle.instrumentation_laws.specs.RegularSources.{IsArray}
use Rattle.instrumentation_laws.specs.Pieces.{Declares}
use Rattle.instrumentation_laws.specs.PrologueTotals.{Measures, AreDeclared}
use Rattle.instrumentation_laws.specs.RegularUnits.{AreMeasured}
use Rattle.instrumentation_laws.proofs.Names.{same_word, apart_as, definition_not_own, use_not_own, count_not_own, register_definition, register_use, register_count, result_definition, result_use, result_count}

or_true : (b c : Bool) → c ≡ true → (b || c) ≡ true
or_true true c e = refl
or_true false c e = e

or_first : (b c : Bool) → b ≡ true → (b || c) ≡ true
or_first true c e = refl
or_first false c e = absurd (let g : false ≡ true = e in cc)

or_none : (b c : Bool) → b ≡ false → c ≡ false → (b || c) ≡ false
or_none false c e g = g
or_none true c e g = absurd (let h : true ≡ false = e in cc)

none_first : (b c : Bool) → (b || c) ≡ false → b ≡ false
none_first false c e = refl
none_first true c e = e

none_rest : (b c : Bool) → (b || c) ≡ false → c ≡ false
none_rest false c e = e
none_rest true c e = absurd (let h : true ≡ false = e in cc)

-- ---- the wide names

any_use : (a k : ℕ) (xs : List Word) → k ≤ a → a < k + length xs → list_any (bytes_eq (use_total a)) (total_names k xs) ≡ true
any_use a k [] low high = absurd (omega arith)
any_use a k (x ∷ xs) low high =
    let rest : Bool = list_any (bytes_eq (use_total a)) (total_names (suc k) xs) in
    or_true (bytes_eq (use_total a) (definition_total k)) (bytes_eq (use_total a) (use_total k) || rest) (elim (cases_eq k a) [
      | inl e ↦ or_first (bytes_eq (use_total a) (use_total k)) rest (subst (λ b. bytes_eq (use_total a) (use_total b) ≡ true) (sym e) (same_word (use_total a)))
      | inr ne ↦ or_true (bytes_eq (use_total a) (use_total k)) rest (any_use a (suc k) xs (omega arith) (omega arith))
    ])

any_definition : (a k : ℕ) (xs : List Word) → k ≤ a → a < k + length xs → list_any (bytes_eq (definition_total a)) (total_names k xs) ≡ true
any_definition a k [] low high = absurd (omega arith)
any_definition a k (x ∷ xs) low high =
    let rest : Bool = list_any (bytes_eq (definition_total a)) (total_names (suc k) xs) in
    elim (cases_eq k a) [
      | inl e ↦ or_first (bytes_eq (definition_total a) (definition_total k)) (bytes_eq (definition_total a) (use_total k) || rest)
          (subst (λ b. bytes_eq (definition_total a) (definition_total b) ≡ true) (sym e) (same_word (definition_total a)))
      | inr ne ↦ or_true (bytes_eq (definition_total a) (definition_total k)) (bytes_eq (definition_total a) (use_total k) || rest)
          (or_true (bytes_eq (definition_total a) (use_total k)) rest (any_definition a (suc k) xs (omega arith) (omega arith)))
    ]

none_of : (x : Word) (k : ℕ) (xs : List Word) → ((a : ℕ) → bytes_eq x (definition_total a) ≡ false) → ((a : ℕ) → bytes_eq x (use_total a) ≡ false) → list_any (bytes_eq x) (total_names k xs) ≡ false
none_of x k [] h g = refl
none_of x k (y ∷ xs) h g =
    let rest : Bool = list_any (bytes_eq x) (total_names (suc k) xs) in
    or_none (bytes_eq x (definition_total k)) (bytes_eq x (use_total k) || rest) (h k) (or_none (bytes_eq x (use_total k)) rest (g k) (none_of x (suc k) xs h g))

-- ---- the numbers

abbrev name_of : Array → Word
name_of r = r.name

-- an array of the run stands at its number, and the text gives it the same
number_at : (k : ℕ) (arrays : List Array) (x : Word) (a : ℕ × Array) → array_from k arrays x ≡ Some a → (number_from k (map name_of arrays) x ≡ a.0) × (a.0 < k + length arrays)
number_at k [] x a e = absurd (let g : None ≡ Some a = e in cc)
number_at k (r ∷ more) x a e = chosen (bytes_eq r.name x) e (λ e. number_at (suc k) more x a e)
  where
    chosen : (b : Bool) → cond b (Some (k, r)) (array_from (suc k) more x) ≡ Some a →
        (array_from (suc k) more x ≡ Some a → (number_from (suc k) (map name_of more) x ≡ a.0) × (a.0 < suc k + length more)) →
        (cond b k (number_from (suc k) (map name_of more) x) ≡ a.0) × (a.0 < k + suc (length more))
    chosen true e h =
        let s : (let p : ℕ × Array = (k, r) in p) ≡ a = (let g : Some (k, r) ≡ Some a = e in cc) in
        let z : k ≡ a.0 = ap (λ (p : ℕ × Array). p.0) s in
        (z, omega arith)
    chosen false e h = let p = h e in let q : a.0 < suc k + length more = p.1 in (p.0, omega arith)

pub names_are : (vs : Vars) (ps : List PlainParam) → map name_of (arrays_of vs ps) ≡ array_names ps
names_are vs [] = refl
names_are vs (int_param x ∷ ps) = names_are vs ps
names_are vs (array_param x constant es ∷ ps) = ap (λ l. x ∷ l) (names_are vs ps)

module _ (arrays : List Array) (names : List Word) (same : map name_of arrays ≡ names) where
  long : length names ≡ length arrays
  long = sym (ap length same) ∙ length-map arrays name_of

  pub known_array : (x : Word) (a : ℕ × Array) → length names < 2 ^ 64 → array_named arrays x ≡ Some a → IsArray arrays (number_in names) x
  known_array x a few e =
      let p = number_at 0 arrays x a e in
      let q : a.0 < 0 + length arrays = p.1 in
      let l = long in
      record { array = a; named = e; numbered = ap (λ ns. number_in ns x) (sym same) ∙ p.0; small = omega arith }

  stands_below : (x : Word) (number : Word → ℕ) (a : IsArray arrays number x) → a.array.0 < 0 + length names
  stands_below x number a = let p : a.array.0 < 0 + length arrays = (number_at 0 arrays x a.array a.named).1 in let l = long in omega arith

  pub declares : (number : Word → ℕ) → Declares arrays number (count ∷ total_names 0 names)
  declares number = record {
    used = λ x a. or_true (bytes_eq (use_total a.array.0) count) (list_any (bytes_eq (use_total a.array.0)) (total_names 0 names)) (any_use a.array.0 0 names (omega arith) (stands_below x number a));
    defined = λ x a. or_true (bytes_eq (definition_total a.array.0) count) (list_any (bytes_eq (definition_total a.array.0)) (total_names 0 names)) (any_definition a.array.0 0 names (omega arith) (stands_below x number a));
    registers = λ j. or_none (bytes_eq (register j) count) (list_any (bytes_eq (register j)) (total_names 0 names)) (register_count j) (none_of (register j) 0 names (register_definition j) (register_use j));
    stored_word = or_none (bytes_eq result count) (list_any (bytes_eq result) (total_names 0 names)) result_count (none_of result 0 names result_definition result_use);
    own_words = λ x o. or_none (bytes_eq x count) (list_any (bytes_eq x) (total_names 0 names)) (apart_as own x count o count_not_own)
        (none_of x 0 names (λ a. apart_as own x (definition_total a) o (definition_not_own a)) (λ a. apart_as own x (use_total a) o (use_not_own a)));
  }

-- the extents of an array are those at its number
pub sizes_are : (arrays : List Array) (number : Word → ℕ) (x : Word) (a : IsArray arrays number x) → a.array.1.extents ≡ extents_at arrays a.array.0
sizes_are arrays number x a = ap extents_in (sym (array_stands arrays x a.array a.named))

-- ---- the declared arrays

-- no array in front has a name of these
abbrev AreApart : List Array → List Word → Type 0
AreApart [] names = Unit {0}
AreApart (r ∷ before) names = (list_any (bytes_eq r.name) names ≡ false) × AreApart before names

abbrev NoneNamed : List Array → Word → Type 0
NoneNamed [] x = Unit {0}
NoneNamed (r ∷ before) x = (bytes_eq r.name x ≡ false) × NoneNamed before x

apart_rest : (before : List Array) (x : Word) (names : List Word) → AreApart before (x ∷ names) → AreApart before names
apart_rest [] x names h = tt
apart_rest (r ∷ before) x names h = (none_rest (bytes_eq r.name x) (list_any (bytes_eq r.name) names) h.0, apart_rest before x names h.1)

none_named : (before : List Array) (x : Word) (names : List Word) → AreApart before (x ∷ names) → NoneNamed before x
none_named [] x names h = tt
none_named (r ∷ before) x names h = (none_first (bytes_eq r.name x) (list_any (bytes_eq r.name) names) h.0, none_named before x names h.1)

apart_more : (before : List Array) (r : Array) (names : List Word) → AreApart before names → list_any (bytes_eq r.name) names ≡ false → AreApart (before ++ r ∷ []) names
apart_more [] r names h e = (e, tt)
apart_more (b ∷ before) r names h e = (h.0, apart_more before r names h.1 e)

found_at : (k : ℕ) (before : List Array) (r : Array) (more : List Array) → NoneNamed before r.name → array_from k (before ++ r ∷ more) r.name ≡ Some (k + length before, r)
found_at k [] r more h = ap (λ b. cond b (Some (k, r)) (array_from (suc k) more r.name)) (same_word r.name) ∙ ap (λ n. Some (n, r)) (let e : k ≡ k + 0 = omega arith in e)
found_at k (b ∷ before) r more h =
    ap (λ c. cond c (Some (k, b)) (array_from (suc k) (before ++ r ∷ more) r.name)) h.0 ∙ found_at (suc k) before r more h.1 ∙
    ap (λ n. Some (n, r)) (let e : suc k + length before ≡ k + suc (length before) = omega arith in e)

pub declared_from : (arrays : List Array) (names : List Word) → map name_of arrays ≡ names → length names < 2 ^ 64 → (vs : Vars) (before : List Array) (ps : List PlainParam) → before ++ arrays_of vs ps ≡ arrays →
    AreApart before (array_names ps) → AreMeasured vs ps → AreDeclared arrays (number_in names) vs (extents_at arrays) (length before) (arrays_with_extents ps)
unfolding known_array
declared_from arrays names same few vs before [] is apart h = tt
declared_from arrays names same few vs before (int_param x ∷ ps) is apart h = declared_from arrays names same few vs before ps is apart h
declared_from arrays names same few vs before (array_param x constant es ∷ ps) is apart h =
    let r : Array = record { name = x; constant = constant; extents = extents_of vs es } in
    let e : 0 + length before ≡ length before = omega arith in
    let named : array_named arrays x ≡ Some (length before, r) = ap (λ l. array_named l x) (sym is) ∙ found_at 0 before r (arrays_of vs ps) (none_named before x (array_names ps) apart) ∙ ap (λ n. Some (n, r)) e in
    let extents : extents_at arrays (length before) ≡ extents_of vs es = ap extents_in (array_stands arrays x (length before, r) named) in
    let next : length (before ++ r ∷ []) ≡ suc (length before) = length_push before r ∙ omega arith in (
      record {
        array = known_array arrays names same x (length before, r) few named;
        number_is = refl;
        extents_are = sym extents;
        measures = subst (Measures es vs) (sym extents) h.1;
        rank = subst (λ (l : List ℤ). length l < 2 ^ 64) (sym extents) h.2;
      },
      subst (λ n. AreDeclared arrays (number_in names) vs (extents_at arrays) n (arrays_with_extents ps)) next
          (declared_from arrays names same few vs (before ++ r ∷ []) ps (append_assoc before (r ∷ []) (arrays_of vs ps) ∙ is) (apart_more before r (array_names ps) (apart_rest before x (array_names ps) apart) h.0) h.3),
    )

pub count_in : (names : List Word) → list_any (bytes_eq count) (count ∷ total_names 0 names) ≡ true
count_in names = ap (λ b. b || list_any (bytes_eq count) (total_names 0 names)) (same_word count)
