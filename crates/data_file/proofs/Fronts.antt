-- Bytes that pass a test, and a front that is stripped.
use Rattle.std.proofs.Common.{◌≡◌, ℕ, ◌-◌, List, [], ◌∷◌, ◌++◌, length, take, drop, Bool, true, false, not, Option, Some, None, option_and_then, refl, sym, ap, ◌∙◌, arith, length-append}
use Rattle.std.proofs.Math.Seq.{take-append_seam, drop-append_seam}
use Rattle.std.proofs.lemmas.List.{take-append-drop}
use Rattle.std.proofs.lemmas.Option.{cond_some}
use Rattle.std.proofs.lemmas.Slice.Eq.{bytes_eq-Decides}
use Rattle.std.specs.List.{AllByRecursion, list_all}
use Rattle.std.specs.Str.{bytes_eq}
use Rattle.text_pieces.proofs.Runs.{both}
use Rattle.data_file.specs.Reading.{strip, strip_end}

-- ---- steps taken apart

pub bind_is : {A B : Type 0} (f : A → Option B) (o : Option A) (y : B) → option_and_then f o ≡ Some y → (x : A) × (o ≡ Some x) × (f x ≡ Some y)
bind_is f None y e = absurd (let no : ⊥ = cc in no)
bind_is f (Some x) y e = (x, refl, e)

pub not_true : (v : Bool) → not v ≡ true → v ≡ false
not_true true e = absurd (let no : ⊥ = cc in no)
not_true false e = refl

-- ---- bytes that pass a test

-- each byte passes the test
abbrev pub Passes : (ℕ → Bool) → List ℕ → Type 0
Passes test bytes = AllByRecursion (λ b. test b ≡ true) bytes

pub Passes-append : (test : ℕ → Bool) (front rest : List ℕ) → Passes test front → Passes test rest → Passes test (front ++ rest)
Passes-append test [] rest p q = q
Passes-append test (b ∷ front) rest p q = (p.0, Passes-append test front rest p.1 q)

pub list_all-from_Passes : (test : ℕ → Bool) (bytes : List ℕ) → Passes test bytes → list_all test bytes ≡ true
list_all-from_Passes test [] p = refl
list_all-from_Passes test (b ∷ bs) p = rw p.0 (list_all-from_Passes test bs p.1)

pub Passes-from_list_all : (test : ℕ → Bool) (bytes : List ℕ) → list_all test bytes ≡ true → Passes test bytes
Passes-from_list_all test [] h = tt
Passes-from_list_all test (b ∷ bs) h = let (one, others) = both (test b) (list_all test bs) h in (one, Passes-from_list_all test bs others)

-- ---- what is stripped

pub strip_is : (front text rest : List ℕ) → strip front text ≡ Some rest → text ≡ front ++ rest
unfolding strip
strip_is front text rest h =
    let p = cond_some (bytes_eq (take (length front) text) front) (drop (length front) text) rest h in
    let same : take (length front) text ≡ front = (bytes_eq-Decides (take (length front) text) front).0 p.0 in
    sym (take-append-drop (length front) text) ∙ ap (λ z. z ++ drop (length front) text) same ∙ ap (λ z. front ++ z) p.1

pub strip-front : (front rest : List ℕ) → strip front (front ++ rest) ≡ Some rest
unfolding strip
strip-front front rest =
    let same = take-append_seam front rest in
    let equal : bytes_eq (take (length front) (front ++ rest)) front ≡ true = (bytes_eq-Decides _ _).1 same in
    rw equal (ap (λ z. Some z) (drop-append_seam front rest))

pub strip_end_is : (end text rest : List ℕ) → strip_end end text ≡ Some rest → text ≡ rest ++ end
unfolding strip_end
strip_end_is end text rest h =
    let k = length text - length end in
    let p = cond_some (bytes_eq (drop k text) end) (take k text) rest h in
    let same : drop k text ≡ end = (bytes_eq-Decides (drop k text) end).0 p.0 in
    sym (take-append-drop k text) ∙ ap (λ z. take k text ++ z) same ∙ ap (λ z. z ++ end) p.1

pub strip_end-end : (rest end : List ℕ) → strip_end end (rest ++ end) ≡ Some rest
unfolding strip_end
strip_end-end rest end =
    let k : length (rest ++ end) - length end ≡ length rest = omega (arith, length-append rest end) in
    let same : drop (length (rest ++ end) - length end) (rest ++ end) ≡ end = ap (λ n. drop n (rest ++ end)) k ∙ drop-append_seam rest end in
    let equal : bytes_eq (drop (length (rest ++ end) - length end) (rest ++ end)) end ≡ true = (bytes_eq-Decides _ _).1 same in
    rw equal (ap (λ n. Some (take n (rest ++ end))) k ∙ ap (λ z. Some z) (take-append_seam rest end))
