-- What is known of names.
use Rattle.std.proofs.Common.{◌≡◌, refl, ap, sym, ◌∙◌, ◌||◌, Bool, true, false, cond, if◌then◌else◌, List, [], ◌∷◌, Some, bytes_eq, Bor}
use Rattle.std.specs.Map.{lookup}
use Rattle.c_tree.specs.Plain.{Word, PlainParam, int_param, array_param}
use Rattle.acceptance.specs.Items.{is_int, is_array, is_param}
use Rattle.scopes.specs.Known.{Entries, known_at, known_or_nothing, IsPut}
use Rattle.scopes.specs.declared.known.Known.{Known}

pub put_is : (old new : Entries) (b : Bor Word) (y : Word) (k : Known) → b.now ≡ y
    → ((q : Bor Word) → lookup (λ (c : Bor Word). bytes_eq q.now c.now) new ≡ cond (bytes_eq b.now q.now) (Some k) (lookup (λ (c : Bor Word). bytes_eq q.now c.now) old)) → IsPut old new y k
put_is old new b y k is h x =
    ap known_or_nothing (h (record b { now = x })) ∙ by (bytes_eq b.now x) ∙ ap (λ (z : Word). if bytes_eq z x then k else known_at old x) is
  where
    by : (v : Bool) → known_or_nothing (cond v (Some k) (lookup (λ (c : Bor Word). bytes_eq x c.now) old)) ≡ (if v then k else known_at old x)
    by true = refl
    by false = refl

or_moved : (a b c : Bool) → (a || (b || c)) ≡ (b || (a || c))
or_moved true true c = refl
or_moved true false c = refl
or_moved false b c = refl

or_assoc : (a b c : Bool) → (a || (b || c)) ≡ ((a || b) || c)
or_assoc true b c = refl
or_assoc false b c = refl

-- a parameter is an `int64_t` one or an array
pub int_or_array : (ps : List PlainParam) (x : Word) → is_param ps x ≡ (is_int ps x || is_array ps x)
int_or_array [] x = refl
int_or_array (int_param y ∷ ps) x = ap (λ b. bytes_eq y x || b) (int_or_array ps x) ∙ or_assoc (bytes_eq y x) (is_int ps x) (is_array ps x)
int_or_array (array_param y c es ∷ ps) x = ap (λ b. bytes_eq y x || b) (int_or_array ps x) ∙ or_moved (bytes_eq y x) (is_int ps x) (is_array ps x)

pub in_int : (ps : List PlainParam) (x : Word) (v : Bool) → v ≡ is_int ps x → v ≡ true → v ≡ is_param ps x
in_int ps x v is e = e ∙ sym (int_or_array ps x ∙ ap (λ b. b || is_array ps x) (sym is ∙ e))

pub in_array : (ps : List PlainParam) (x : Word) (v w : Bool) → v ≡ is_int ps x → v ≡ false → w ≡ is_array ps x → w ≡ is_param ps x
in_array ps x v w is e array = array ∙ sym (int_or_array ps x ∙ ap (λ b. b || is_array ps x) (sym is ∙ e))
