-- Two names of a head are the same where one of the list of all names stands behind itself.
use Rattle.std.proofs.Common.{◌≡◌, refl, ap, sym, ◌∙◌, ◌||◌, ◌<◌, ◌≤◌, ◌-◌, Bool, true, false, if◌then◌else◌, List, [], ◌∷◌, ◌++◌, map, length, drop, drop-cons, get_or, ℕ, zero, suc, bytes_eq, Bor, None, Some, arith}
use Rattle.c_tree.specs.Names.{is_among}
use Rattle.c_tree.specs.Plain.{Word, PlainParam, PlainUnit}
use Rattle.c_tree.specs.declared.name.Name.{Name}
use Rattle.acceptance.specs.Items.{is_param, is_scalar, param_name}
use Rattle.acceptance.specs.Head.{params_twice, words_twice, wides_twice, head_names_twice}
use Rattle.unit_checks.specs.Repeats.{names_at, names_of_words, head_names, repeats, kept}
use Rattle.unit_checks.proofs.Booleans.{or_true, or_false, or_assoc}

-- ---- the list of all names

pub among-append : (xs ys : List Word) (x : Word) → is_among (xs ++ ys) x ≡ (is_among xs x || is_among ys x)
among-append [] ys x = refl
among-append (w ∷ xs) ys x = ap (λ (b : Bool). bytes_eq w x || b) (among-append xs ys x) ∙ sym (or_assoc (bytes_eq w x) (is_among xs x) (is_among ys x))

among_params : (ps : List PlainParam) (x : Word) → is_param ps x ≡ is_among (map param_name ps) x
among_params [] x = refl
among_params (p ∷ ps) x = ap (λ (b : Bool). bytes_eq (param_name p) x || b) (among_params ps x)

among_words : (ws : List (Word × ℕ)) (x : Word) → is_scalar ws x ≡ is_among (names_of_words ws) x
among_words [] x = refl
among_words (w ∷ ws) x = ap (λ (b : Bool). bytes_eq w.0 x || b) (among_words ws x)

-- the names of words and then of parameters
among_both : (ps : List PlainParam) (ws : List (Word × ℕ)) (x : Word) → is_among (names_of_words ws ++ map param_name ps) x ≡ (is_scalar ws x || is_param ps x)
among_both ps ws x =
    among-append (names_of_words ws) (map param_name ps) x ∙ ap (λ (b : Bool). b || is_among (map param_name ps) x) (sym (among_words ws x))
    ∙ ap (λ (b : Bool). is_scalar ws x || b) (sym (among_params ps x))

among_all : (ps : List PlainParam) (ws : List (Word × ℕ)) (us : List Word) (x : Word) →
    is_among (us ++ (names_of_words ws ++ map param_name ps)) x ≡ (is_among us x || (is_scalar ws x || is_param ps x))
among_all ps ws us x = among-append us (names_of_words ws ++ map param_name ps) x ∙ ap (λ (b : Bool). is_among us x || b) (among_both ps ws x)

params : (ps : List PlainParam) → params_twice ps ≡ repeats (map param_name ps)
params [] = refl
params (p ∷ ps) = ap (λ (b : Bool). b || params_twice ps) (among_params ps (param_name p)) ∙ ap (λ (b : Bool). is_among (map param_name ps) (param_name p) || b) (params ps)

turned : (p i s w : Bool) → (p || (i || (s || w))) ≡ ((s || i) || (p || w))
turned true i s w = sym (or_true (s || i))
turned false true true w = refl
turned false true false w = refl
turned false false true w = refl
turned false false false w = refl

words : (ps : List PlainParam) (ws : List (Word × ℕ)) → (params_twice ps || words_twice ps ws) ≡ repeats (names_of_words ws ++ map param_name ps)
words ps [] = or_false (params_twice ps) ∙ params ps
words ps (w ∷ ws) =
    turned (params_twice ps) (is_param ps w.0) (is_scalar ws w.0) (words_twice ps ws) ∙ ap (λ (b : Bool). b || (params_twice ps || words_twice ps ws)) (sym (among_both ps ws w.0))
    ∙ ap (λ (b : Bool). is_among (names_of_words ws ++ map param_name ps) w.0 || b) (words ps ws)

turned_wide : (p w i s u v : Bool) → (p || (w || (i || (s || (u || v))))) ≡ ((u || (s || i)) || (p || (w || v)))
turned_wide true w i s u v = sym (or_true (u || (s || i)))
turned_wide false true i s u v = sym (or_true (u || (s || i)))
turned_wide false false true true true v = refl
turned_wide false false true true false v = refl
turned_wide false false true false true v = refl
turned_wide false false true false false v = refl
turned_wide false false false true true v = refl
turned_wide false false false true false v = refl
turned_wide false false false false true v = refl
turned_wide false false false false false v = refl

wides : (ps : List PlainParam) (ws : List (Word × ℕ)) (us : List Word) →
    (params_twice ps || (words_twice ps ws || wides_twice ps ws us)) ≡ repeats (us ++ (names_of_words ws ++ map param_name ps))
wides ps ws [] = ap (λ (b : Bool). params_twice ps || b) (or_false (words_twice ps ws)) ∙ words ps ws
wides ps ws (x ∷ us) =
    turned_wide (params_twice ps) (words_twice ps ws) (is_param ps x) (is_scalar ws x) (is_among us x) (wides_twice ps ws us)
    ∙ ap (λ (b : Bool). b || (params_twice ps || (words_twice ps ws || wides_twice ps ws us))) (sym (among_all ps ws us x))
    ∙ ap (λ (b : Bool). is_among (us ++ (names_of_words ws ++ map param_name ps)) x || b) (wides ps ws us)

turned_first : (i s u r : Bool) → (i || (s || (u || r))) ≡ ((u || (s || i)) || r)
turned_first true true true r = refl
turned_first true true false r = refl
turned_first true false true r = refl
turned_first true false false r = refl
turned_first false true true r = refl
turned_first false true false r = refl
turned_first false false true r = refl
turned_first false false false r = refl

pub twice_is : (u : PlainUnit) → repeats (head_names u) ≡ head_names_twice u
twice_is u = sym (
    turned_first (is_param u.params u.name) (is_scalar u.words u.name) (is_among u.wides u.name) (params_twice u.params || (words_twice u.params u.words || wides_twice u.params u.words u.wides))
    ∙ ap (λ (b : Bool). b || (params_twice u.params || (words_twice u.params u.words || wides_twice u.params u.words u.wides))) (sym (among_all u.params u.words u.wides u.name))
    ∙ ap (λ (b : Bool). is_among (u.wides ++ (names_of_words u.words ++ map param_name u.params)) u.name || b) (wides u.params u.words u.wides))

-- ---- from the last name to the first

back : (k : ℕ) (xs : List (Bor Name)) → repeats (names_at (drop k xs)) ≡ true → repeats (names_at xs) ≡ true
back zero xs h = h
back (suc k) [] h = h
back (suc k) (x ∷ xs) h = ap (λ (b : Bool). is_among (names_at xs) x.now.bytes || b) (back k xs h) ∙ or_true (is_among (names_at xs) x.now.bytes)

at_k : (xs : List (Bor Name)) (k : ℕ) (x : Bor Name) → x ≡ get_or xs (suc k - 1) x → x ≡ get_or xs k x
at_k xs k x is = let e : suc k - 1 ≡ k = omega arith in is ∙ ap (λ (j : ℕ). get_or xs j x) e

pub none_kept : (xs : List Word) → repeats xs ≡ true → None ≡ kept xs
none_kept xs h = rw h refl

-- a name that is among those behind it
pub found : (xs : List (Bor Name)) (k : ℕ) (x : Bor Name) (seen : List Word) → 0 < k → k ≤ length xs → x ≡ get_or xs (k - 1) x → seen ≡ names_at (drop k xs) →
    is_among seen x.now.bytes ≡ true → repeats (names_at xs) ≡ true
found xs zero x seen some within is are among = absurd (omega arith)
found xs (suc k) x seen some within is are among = back k xs (
    ap (λ (ys : List (Bor Name)). repeats (names_at ys)) (drop-cons xs k x (let less : k < length xs = omega arith in less) ∙ ap (λ (y : Bor Name). y ∷ drop (suc k) xs) (sym (at_k xs k x is)))
    ∙ ap (λ (b : Bool). b || repeats (names_at (drop (suc k) xs))) (ap (λ (ws : List Word). is_among ws x.now.bytes) (sym are) ∙ among))

from_none : (b : Bool) (xs : List Word) → None ≡ (if b then None else Some xs) → b ≡ true
from_none true xs h = refl
from_none false xs h = absurd (let f : ⊥ = cc in f)

from_some : (b : Bool) (xs ys : List Word) → Some ys ≡ (if b then None else Some xs) → b ≡ false
from_some true xs ys h = absurd (let f : ⊥ = cc in f)
from_some false xs ys h = refl

pub twice_here : (u : PlainUnit) (xs : List Word) → xs ≡ head_names u → None ≡ kept xs → true ≡ head_names_twice u
twice_here u xs e h = sym (from_none (repeats xs) xs h) ∙ ap repeats e ∙ twice_is u

pub once_here : (u : PlainUnit) (xs ys : List Word) → xs ≡ head_names u → Some ys ≡ kept xs → false ≡ head_names_twice u
once_here u xs ys e h = sym (from_some (repeats xs) xs ys h) ∙ ap repeats e ∙ twice_is u
