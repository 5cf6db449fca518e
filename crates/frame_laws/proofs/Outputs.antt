-- By frames that say the same the end of a run has the same output.
use Rattle.std.proofs.Common.{◌≡◌, ℕ, ◌+◌, zero, suc, Bool, if◌then◌else◌, nat_eq, List, [], ◌∷◌, ◌++◌, length, codes, slice_get, refl, ap, ◌∙◌}
use Rattle.std.specs.List.{list_any}
use Rattle.c_tree.specs.declared.frame.ArrayInfo.{ArrayInfo}
use Rattle.c_tree.specs.declared.frame.Frame.{Frame}
use Rattle.c_tree.specs.declared.name.Name.{Name}
use Rattle.c_tree.specs.declared.run.Ended.{Ended}
use Rattle.c_tree.specs.declared.run.Verdict.{Verdict}
use Rattle.c_tree.specs.declared.run.Verdict.TheVariants.{Plain, Balanced, Fault, Index, Outside}
use Rattle.data_file.specs.Texts.{paired, array_line, kept_text, name_in, names_among, verdict_words, output_text}
use Rattle.frame_laws.specs.Alike.{IsLike, AreLike, SayTheSame}

same_kept : (n : ℕ) (a b : ArrayInfo) (cells : List ℕ) → IsLike n a b → kept_text a cells ≡ kept_text b cells
same_kept n a b cells h =
    ap (λ (x : Name). if a.constant then [] else array_line x.bytes cells) h.name ∙ ap (λ (c : Bool). if c then [] else array_line b.name.bytes cells) h.constant

same_rows : (n : ℕ) (xs ys : List ArrayInfo) (cells : List (List ℕ)) → AreLike n xs ys → paired kept_text xs cells ≡ paired kept_text ys cells
same_rows n [] [] cells h = refl
same_rows n [] (y ∷ ys) cells h = absurd h
same_rows n (x ∷ xs) [] cells h = absurd h
same_rows n (x ∷ xs) (y ∷ ys) [] h = refl
same_rows n (x ∷ xs) (y ∷ ys) (c ∷ cells) h =
    ap (λ (t : List ℕ). t ++ paired kept_text xs cells) (same_kept n x y c h.0) ∙ ap (λ (t : List ℕ). kept_text y c ++ t) (same_rows n xs ys cells h.1)

same_named : (n : ℕ) (xs ys : List ArrayInfo) (k : ℕ) → AreLike n xs ys → name_in (slice_get xs k) ≡ name_in (slice_get ys k)
same_named n [] [] k h = refl
same_named n [] (y ∷ ys) k h = absurd h
same_named n (x ∷ xs) [] k h = absurd h
same_named n (x ∷ xs) (y ∷ ys) zero h = ap (λ (z : Name). z.bytes) h.0.name
same_named n (x ∷ xs) (y ∷ ys) (suc k) h = same_named n xs ys k h.1

same_among : (n : ℕ) (ks : List ℕ) (k : ℕ) (xs ys : List ArrayInfo) → AreLike n xs ys → names_among ks k xs ≡ names_among ks k ys
same_among n ks k [] [] h = refl
same_among n ks k [] (y ∷ ys) h = absurd h
same_among n ks k (x ∷ xs) [] h = absurd h
same_among n ks k (x ∷ xs) (y ∷ ys) h =
    ap (λ (z : Name). (if list_any (nat_eq k) ks then 32 ∷ z.bytes else []) ++ names_among ks (k + 1) xs) h.0.name
    ∙ ap (λ (t : List ℕ). (if list_any (nat_eq k) ks then 32 ∷ y.name.bytes else []) ++ t) (same_among n ks (k + 1) xs ys h.1)

same_words : (n : ℕ) (xs ys : List ArrayInfo) (v : Verdict) → AreLike n xs ys → verdict_words xs v ≡ verdict_words ys v
same_words n xs ys Plain h = refl
same_words n xs ys Balanced h = refl
same_words n xs ys (Fault ks) h = ap (λ (t : List ℕ). codes "fault" ++ t) (same_among n ks 0 xs ys h)
same_words n xs ys (Index k) h = ap (λ (t : List ℕ). codes "index" ++ (32 ∷ t)) (same_named n xs ys k h)
same_words n xs ys (Outside k) h = ap (λ (t : List ℕ). codes "outside" ++ (32 ∷ t)) (same_named n xs ys k h)

pub same_output : (f g : Frame) (e : Ended) → SayTheSame f g → output_text f e ≡ output_text g e
same_output f g e same =
    ap (λ (t : List ℕ). t ++ (verdict_words f.arrays e.verdict ++ 10 ∷ [])) (same_rows (length f.ints) f.arrays g.arrays e.arrays same.arrays)
    ∙ ap (λ (t : List ℕ). paired kept_text g.arrays e.arrays ++ (t ++ 10 ∷ [])) (same_words (length f.ints) f.arrays g.arrays e.verdict same.arrays)
