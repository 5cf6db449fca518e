-- A text that is written piece by piece.
use Rattle.std.proofs.Common.{◌≡◌, ℕ, ◌+◌, ◌<◌, List, ◌∷◌, ◌++◌, length, get_or, drop, sym, ap, ◌∙◌, append_assoc}
use Rattle.std.proofs.lemmas.List.{at_drop_more}
use Rattle.data_file.specs.Texts.{paired}

-- one pair more of two lists
pub paired_more : {A B : Type 0} (piece : A → B → List ℕ) (xs : List A) (ys : List B) (k : ℕ) (a : A) (b : B) (out next whole : List ℕ)
    → k < length xs → k < length ys → a ≡ get_or xs k a → b ≡ get_or ys k b → next ≡ out ++ piece a b
    → out ++ paired piece (drop k xs) (drop k ys) ≡ whole → next ++ paired piece (drop (k + 1) xs) (drop (k + 1) ys) ≡ whole
paired_more piece xs ys k a b out next whole in_as in_ys is_a is_b p h =
    let rest = paired piece (drop (k + 1) xs) (drop (k + 1) ys) in
    let first : paired piece (drop k xs) (drop k ys) ≡ paired piece (get_or xs k a ∷ drop (k + 1) xs) (drop k ys) = at_drop_more (λ zs. paired piece zs (drop k ys)) xs k a in_as in
    let second : paired piece (get_or xs k a ∷ drop (k + 1) xs) (drop k ys) ≡ piece (get_or xs k a) (get_or ys k b) ++ rest = at_drop_more (λ zs. paired piece (get_or xs k a ∷ drop (k + 1) xs) zs) ys k b in_ys in
    let here : piece (get_or xs k a) (get_or ys k b) ≡ piece a b = ap (λ x. piece x (get_or ys k b)) (sym is_a) ∙ ap (piece a) (sym is_b) in
    ap (λ t. t ++ rest) p ∙ append_assoc out (piece a b) rest ∙ ap (λ t. out ++ t) (sym (first ∙ second ∙ ap (λ t. t ++ rest) here)) ∙ h
