-- Expressions of the source in a counting pass: with its loops' names renamed they are of the same kinds.
use Rattle.std.proofs.Common.{◌≡◌, ℕ, suc, ◌<◌, ◌≤◌, ◌^◌, Bool, true, false, ◌||◌, List, [], ◌∷◌, length, refl, sym, ap, ◌∙◌, arith, inl, inr}
use Rattle.std.specs.Prelude.{bytes_eq}
use Rattle.std.proofs.lemmas.Bool.{or_from, or_left, or_right, cases_Bool, cases_eq}
use Rattle.c_tree.specs.Plain.{Word, PlainExpr, lit, var, un, bin, least, greatest, PlainExprs, no_exprs, more_exprs, PlainTest}
use Rattle.instrumentation.specs.Names.{pass_variable}
use Rattle.instrumentation.specs.Passes.{renamed_name, renamed, renamed_all, renamed_tests}
use Rattle.acceptance.specs.Items.{Loop, Scope, is_loop, is_int, is_declared}
use Rattle.acceptance_laws.proofs.Names.{same_word, variable_apart}
use Rattle.acceptance_laws.proofs.Expressions.{IsSignedAt, IsIndex, AreIndices}
use Rattle.acceptance_laws.proofs.Statements.{AreTests}
use Rattle.acceptance_laws.proofs.Declared.{AreFree, loop_signed}
use Rattle.acceptance_laws.proofs.Fine.{inside}

-- ---- where the signed names of one scope are signed in another

abbrev pub Reaches : Scope → Scope → Type 0
Reaches sc sd = (x : Word) → IsSignedAt sc x → IsSignedAt sd x

pub index_reaches : (sc sd : Scope) → Reaches sc sd → (bound : Bool) (e : PlainExpr) → IsIndex sc bound e → IsIndex sd bound e
index_reaches sc sd r bound (lit n) h = tt
index_reaches sc sd r bound (var x) h = r x h
index_reaches sc sd r bound (un op a) h = (h.0, index_reaches sc sd r bound a h.1)
index_reaches sc sd r bound (bin op a b) h = (h.0, index_reaches sc sd r bound a h.1, index_reaches sc sd r bound b h.2)
index_reaches sc sd r bound (least a b) h = (h.0, index_reaches sc sd r bound a h.1, index_reaches sc sd r bound b h.2)
index_reaches sc sd r bound (greatest a b) h = (h.0, index_reaches sc sd r bound a h.1, index_reaches sc sd r bound b h.2)
index_reaches sc sd r bound _ h = absurd h

pub indices_reach : (sc sd : Scope) → Reaches sc sd → (es : PlainExprs) → AreIndices sc es → AreIndices sd es
indices_reach sc sd r no_exprs h = tt
indices_reach sc sd r (more_exprs e es) h = (index_reaches sc sd r false e h.0, indices_reach sc sd r es h.1)

-- what is signed outside every loop is signed inside loops
pub head_reaches : (sc : Scope) (ls : List Loop) → Reaches (inside sc []) (inside sc ls)
head_reaches sc ls x h = record { signed = or_right (is_loop ls x) _ h.signed; flat = h.flat }

-- what is signed is signed inside one more loop
pub reaches_more : (sc : Scope) (l : Loop) (ls : List Loop) → Reaches (inside sc ls) (inside sc (l ∷ ls))
reaches_more sc l ls x h = record { signed = more (bytes_eq l.name x) (is_loop ls x) (is_int sc.params x) h.signed; flat = h.flat }
  where
    more : (a b c : Bool) → (b || c) ≡ true → ((a || b) || c) ≡ true
    more true b c e = refl
    more false b c e = e

-- ---- where the source's names are renamed

abbrev pub Renames : Scope → List Word → Scope → Type 0
Renames sc xs sd = (x : Word) → IsSignedAt sc x → IsSignedAt sd (renamed_name xs x)

pub index_renamed : (sc : Scope) (xs : List Word) (sd : Scope) → Renames sc xs sd → (bound : Bool) (e : PlainExpr) → IsIndex sc bound e → IsIndex sd bound (renamed xs e)
index_renamed sc xs sd r bound (lit n) h = tt
index_renamed sc xs sd r bound (var x) h = r x h
index_renamed sc xs sd r bound (un op a) h = (h.0, index_renamed sc xs sd r bound a h.1)
index_renamed sc xs sd r bound (bin op a b) h = (h.0, index_renamed sc xs sd r bound a h.1, index_renamed sc xs sd r bound b h.2)
index_renamed sc xs sd r bound (least a b) h = (h.0, index_renamed sc xs sd r bound a h.1, index_renamed sc xs sd r bound b h.2)
index_renamed sc xs sd r bound (greatest a b) h = (h.0, index_renamed sc xs sd r bound a h.1, index_renamed sc xs sd r bound b h.2)
index_renamed sc xs sd r bound _ h = absurd h

pub indices_renamed : (sc : Scope) (xs : List Word) (sd : Scope) → Renames sc xs sd → (es : PlainExprs) → AreIndices sc es → AreIndices sd (renamed_all xs es)
indices_renamed sc xs sd r no_exprs h = tt
indices_renamed sc xs sd r (more_exprs e es) h = (index_renamed sc xs sd r false e h.0, indices_renamed sc xs sd r es h.1)

pub tests_renamed : (sc : Scope) (xs : List Word) (sd : Scope) → Renames sc xs sd → (ts : List PlainTest) → AreTests sc ts → AreTests sd (renamed_tests xs ts)
tests_renamed sc xs sd r [] h = tt
tests_renamed sc xs sd r (t ∷ ts) h = ((index_renamed sc xs sd r false t.1 h.0.0, index_renamed sc xs sd r false t.2 h.0.1), tests_renamed sc xs sd r ts h.1)

-- ---- the loops of a pass

-- The copies of the loops ls, of names xs, stand inside the loops around.
pub record Copies (sc : Scope) (around : List Loop) (xs : List Word) (ls copies : List Loop) : Type 0 where
  pub renames : Renames (inside sc ls) xs (inside sc copies)
  pub reaches : Reaches (inside sc around) (inside sc copies)
  pub as_many : length xs ≡ length ls
  pub made : (d : ℕ) → d < length xs → is_loop copies (pass_variable d) ≡ true
  pub unmade : (d : ℕ) → length xs ≤ d → d < 2 ^ 64 → is_loop copies (pass_variable d) ≡ false
  pub free : AreFree sc copies

-- no loop around is a pass's
abbrev pub NoPass : List Loop → Type 0
NoPass ls = (d : ℕ) → is_loop ls (pass_variable d) ≡ false

-- outside every loop of the source its signed names are parameters
pub copies_none : (sc : Scope) (around : List Loop) → AreFree sc around → NoPass around → Copies sc around [] [] around
copies_none sc around free none = record {
  renames = λ x h. record { signed = or_right (is_loop around x) _ h.signed; flat = h.flat };
  reaches = λ x h. h;
  as_many = refl;
  made = λ d h. absurd (omega arith);
  unmade = λ d h g. none d;
  free = free;
}

module _ (sc : Scope) (around : List Loop) (xs : List Word) (ls copies : List Loop) (c : Copies sc around xs ls copies) (free : is_declared sc (pass_variable (length xs)) ≡ false)
    (few : length ls < 2 ^ 64) (l m : Loop) (same : m.name ≡ pass_variable (length xs)) where
  renames_more : Renames (inside sc (l ∷ ls)) (l.name ∷ xs) (inside sc (m ∷ copies))
  renames_more x h = elim (cases_Bool (bytes_eq l.name x)) [
    | inl e ↦ rw e (loop_signed sc (m ∷ copies) (pass_variable (length xs)) free (or_left _ (is_loop copies (pass_variable (length xs))) (ap (λ w. bytes_eq w (pass_variable (length xs))) same ∙ same_word (pass_variable (length xs)))))
    | inr e ↦ rw e (reaches_more sc m copies (renamed_name xs x) (c.renames x (record { signed = ap (λ b. (b || is_loop ls x) || is_int sc.params x) (sym e) ∙ h.signed; flat = h.flat })))
  ]

  made_more : (d : ℕ) → d < suc (length xs) → is_loop (m ∷ copies) (pass_variable d) ≡ true
  made_more d h = elim (cases_eq d (length xs)) [
    | inl e ↦ or_left _ (is_loop copies (pass_variable d)) (ap (λ w. bytes_eq w (pass_variable d)) same ∙ ap (λ n. bytes_eq (pass_variable n) (pass_variable d)) (sym e) ∙ same_word (pass_variable d))
    | inr e ↦ or_right (bytes_eq m.name (pass_variable d)) _ (c.made d (omega arith))
  ]

  unmade_more : (d : ℕ) → suc (length xs) ≤ d → d < 2 ^ 64 → is_loop (m ∷ copies) (pass_variable d) ≡ false
  unmade_more d h g =
      let many : length xs ≡ length ls = c.as_many in
      or_from _ _ (ap (λ w. bytes_eq w (pass_variable d)) same ∙ variable_apart (length xs) d (omega arith) g (omega arith)) (c.unmade d (omega arith) g)

  pub copies_more : Copies sc around (l.name ∷ xs) (l ∷ ls) (m ∷ copies)
  copies_more = record {
    renames = renames_more;
    reaches = λ x h. reaches_more sc m copies x (c.reaches x h);
    as_many = ap suc c.as_many;
    made = made_more;
    unmade = unmade_more;
    free = (ap (is_declared sc) same ∙ free, c.free);
  }
