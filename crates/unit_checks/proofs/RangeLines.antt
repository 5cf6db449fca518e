-- Each `int64_t` parameter has one line exactly where no two lines have one name and each parameter is named, if all lines name parameters.
use Rattle.std.proofs.Common.{◌≡◌, refl, ap, sym, ◌∙◌, ◌||◌, ◌&&◌, ◌≤◌, Bool, true, false, not, if◌then◌else◌, List, [], ◌∷◌, ℕ, suc, ℤ, bytes_eq, nat_eq, true≢false, subst, arith}
use Rattle.std.specs.List.{list_all}
use Rattle.std.proofs.lemmas.Bool.{eqb-true, eq-eqb, false_from_ne_true}
use Rattle.std.proofs.lemmas.Slice.Eq.{bytes_eq-Decides}
use Rattle.c_tree.specs.Names.{is_among}
use Rattle.c_tree.specs.Plain.{Word, PlainParam, int_param, array_param}
use Rattle.acceptance.specs.Items.{is_int}
use Rattle.acceptance.specs.Head.{lines_of, each_has_line, is_range}
use Rattle.unit_checks.specs.Repeats.{names_of_lines, repeats, are_named}
use Rattle.unit_checks.proofs.Booleans.{and_true, and_left, and_right, neither_left, neither_right, same_tests}

abbrev Lines : Type 0
Lines = List (Word × ℤ × ℤ)

-- ---- how many lines a name has

absent_step : (b m : Bool) (n : ℕ) → (m ≡ false → n ≡ 0) → (b || m) ≡ false → (if b then suc n else n) ≡ 0
absent_step true m n f h = absurd (true≢false h)
absent_step false m n f h = f h

absent : (rs : Lines) (x : Word) → is_among (names_of_lines rs) x ≡ false → lines_of rs x ≡ 0
absent [] x h = refl
absent (r ∷ rs) x h = absent_step (bytes_eq r.0 x) (is_among (names_of_lines rs) x) (lines_of rs x) (absent rs x) h

present_step : (b m : Bool) (n : ℕ) → (m ≡ true → 1 ≤ n) → (b || m) ≡ true → 1 ≤ (if b then suc n else n)
present_step true m n f h = omega arith
present_step false m n f h = f h

present : (rs : Lines) (x : Word) → is_among (names_of_lines rs) x ≡ true → 1 ≤ lines_of rs x
present [] x h = absurd (true≢false (sym h))
present (r ∷ rs) x h = present_step (bytes_eq r.0 x) (is_among (names_of_lines rs) x) (lines_of rs x) (present rs x) h

single_step : (b : Bool) (n : ℕ) → (b ≡ true → n ≡ 0) → n ≤ 1 → (if b then suc n else n) ≤ 1
single_step true n f h = let e : n ≡ 0 = f refl in omega arith
single_step false n f h = h

single : (rs : Lines) → repeats (names_of_lines rs) ≡ false → (x : Word) → lines_of rs x ≤ 1
single [] h x = omega arith
single (r ∷ rs) h x =
    single_step (bytes_eq r.0 x) (lines_of rs x)
    (λ e. subst (λ (y : Word). lines_of rs y ≡ 0) ((bytes_eq-Decides r.0 x).0 e) (absent rs r.0 (neither_left (is_among (names_of_lines rs) r.0) (repeats (names_of_lines rs)) h)))
    (single rs (neither_right (is_among (names_of_lines rs) r.0) (repeats (names_of_lines rs)) h) x)

-- ---- one line each

smaller : (b : Bool) (n : ℕ) → (if b then suc n else n) ≤ 1 → n ≤ 1
smaller true n h = omega arith
smaller false n h = h

two : (b : Bool) (n : ℕ) → b ≡ true → 1 ≤ n → (if b then suc n else n) ≤ 1 → ⊥
two true n e more h = omega arith
two false n e more h = true≢false (sym e)

apart : (ps : List PlainParam) (rs : Lines) → list_all (λ (r : Word × ℤ × ℤ). is_int ps r.0 && is_range (r.1, r.2)) rs ≡ true → ((x : Word) → is_int ps x ≡ true → lines_of rs x ≤ 1) →
    repeats (names_of_lines rs) ≡ false
apart ps [] fit most = refl
apart ps (r ∷ rs) fit most =
    let all = list_all (λ (r : Word × ℤ × ℤ). is_int ps r.0 && is_range (r.1, r.2)) rs in
    let int : is_int ps r.0 ≡ true = and_left (is_int ps r.0) (is_range (r.1, r.2)) (and_left (is_int ps r.0 && is_range (r.1, r.2)) all fit) in
    let first : is_among (names_of_lines rs) r.0 ≡ false =
    false_from_ne_true (is_among (names_of_lines rs) r.0) (λ e. two (bytes_eq r.0 r.0) (lines_of rs r.0) ((bytes_eq-Decides r.0 r.0).1 refl) (present rs r.0 e) (most r.0 int)) in
    let rest : repeats (names_of_lines rs) ≡ false =
    apart ps rs (and_right (is_int ps r.0 && is_range (r.1, r.2)) all fit) (λ x i. smaller (bytes_eq r.0 x) (lines_of rs x) (most x i)) in
    ap (λ (b : Bool). b || repeats (names_of_lines rs)) first ∙ rest

one_step : (b m : Bool) (n : ℕ) → (b ≡ true → n ≡ 1) → (m ≡ true → n ≡ 1) → (b || m) ≡ true → n ≡ 1
one_step true m n f g h = f refl
one_step false m n f g h = g h

one_line : (rs : Lines) (ps : List PlainParam) (x : Word) → each_has_line rs ps ≡ true → is_int ps x ≡ true → lines_of rs x ≡ 1
one_line rs [] x h i = absurd (true≢false (sym i))
one_line rs (int_param y ∷ ps) x h i =
    let one : lines_of rs y ≡ 1 = eqb-true (lines_of rs y) 1 (and_left (nat_eq (lines_of rs y) 1) (each_has_line rs ps) h) in
    one_step (bytes_eq y x) (is_int ps x) (lines_of rs x) (λ e. subst (λ (z : Word). lines_of rs z ≡ 1) ((bytes_eq-Decides y x).0 e) one)
    (one_line rs ps x (and_right (nat_eq (lines_of rs y) 1) (each_has_line rs ps) h)) i
one_line rs (array_param y constant extents ∷ ps) x h i = one_line rs ps x h i

named_by_one : (rs : Lines) (x : Word) (b : Bool) → is_among (names_of_lines rs) x ≡ b → lines_of rs x ≡ 1 → b ≡ true
named_by_one rs x true e one = refl
named_by_one rs x false e one = let none : lines_of rs x ≡ 0 = absent rs x e in absurd (omega arith)

each_named : (rs : Lines) (ps : List PlainParam) → each_has_line rs ps ≡ true → are_named (names_of_lines rs) ps ≡ true
each_named rs [] h = refl
each_named rs (int_param y ∷ ps) h =
    let one : lines_of rs y ≡ 1 = eqb-true (lines_of rs y) 1 (and_left (nat_eq (lines_of rs y) 1) (each_has_line rs ps) h) in
    ap (λ (b : Bool). b && are_named (names_of_lines rs) ps) (named_by_one rs y (is_among (names_of_lines rs) y) refl one)
    ∙ each_named rs ps (and_right (nat_eq (lines_of rs y) 1) (each_has_line rs ps) h)
each_named rs (array_param y constant extents ∷ ps) h = each_named rs ps h

named_once : (rs : Lines) (ps : List PlainParam) → repeats (names_of_lines rs) ≡ false → are_named (names_of_lines rs) ps ≡ true → each_has_line rs ps ≡ true
named_once rs [] once h = refl
named_once rs (int_param y ∷ ps) once h =
    let some : 1 ≤ lines_of rs y = present rs y (and_left (is_among (names_of_lines rs) y) (are_named (names_of_lines rs) ps) h) in
    let most : lines_of rs y ≤ 1 = single rs once y in
    let one : lines_of rs y ≡ 1 = omega arith in
    ap (λ (b : Bool). b && each_has_line rs ps) (eq-eqb (lines_of rs y) 1 one) ∙ named_once rs ps once (and_right (is_among (names_of_lines rs) y) (are_named (names_of_lines rs) ps) h)
named_once rs (array_param y constant extents ∷ ps) once h = named_once rs ps once h

once_named : (t n : Bool) → t ≡ false → n ≡ true → (not t && n) ≡ true
once_named true n e h = absurd (true≢false e)
once_named false n e h = h

not_false : (t : Bool) → not t ≡ true → t ≡ false
not_false true h = absurd (true≢false (sym h))
not_false false h = refl

module _ (rs : Lines) (ps : List PlainParam) (fit : list_all (λ (r : Word × ℤ × ℤ). is_int ps r.0 && is_range (r.1, r.2)) rs ≡ true) where
  onward : (not (repeats (names_of_lines rs)) && are_named (names_of_lines rs) ps) ≡ true → each_has_line rs ps ≡ true
  onward h =
      named_once rs ps (not_false (repeats (names_of_lines rs)) (and_left (not (repeats (names_of_lines rs))) (are_named (names_of_lines rs) ps) h))
      (and_right (not (repeats (names_of_lines rs))) (are_named (names_of_lines rs) ps) h)

  backward : each_has_line rs ps ≡ true → (not (repeats (names_of_lines rs)) && are_named (names_of_lines rs) ps) ≡ true
  backward h =
      once_named (repeats (names_of_lines rs)) (are_named (names_of_lines rs) ps)
      (apart ps rs fit (λ x i. let one : lines_of rs x ≡ 1 = one_line rs ps x h i in omega arith)) (each_named rs ps h)

  pub each_has_line_is : (not (repeats (names_of_lines rs)) && are_named (names_of_lines rs) ps) ≡ each_has_line rs ps
  each_has_line_is = same_tests (not (repeats (names_of_lines rs)) && are_named (names_of_lines rs) ps) (each_has_line rs ps) onward backward

-- the lines of a unit are bad where one of these fails
pub bad_is : (rs : Lines) (ps : List PlainParam) (b t : Bool) → t ≡ list_all (λ (r : Word × ℤ × ℤ). is_int ps r.0 && is_range (r.1, r.2)) rs → t ≡ true →
    b ≡ (not (repeats (names_of_lines rs)) && are_named (names_of_lines rs) ps) →
    not b ≡ not (each_has_line rs ps && list_all (λ (r : Word × ℤ × ℤ). is_int ps r.0 && is_range (r.1, r.2)) rs)
bad_is rs ps b t e fine f =
    let fit : list_all (λ (r : Word × ℤ × ℤ). is_int ps r.0 && is_range (r.1, r.2)) rs ≡ true = sym e ∙ fine in
    ap not (f ∙ each_has_line_is rs ps fit ∙ sym (and_true (each_has_line rs ps)) ∙ ap (λ (c : Bool). each_has_line rs ps && c) (sym fit))
