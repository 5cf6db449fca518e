-- Bytes that are known, and what reads and writes one after another do to them.
use Rattle.std.proofs.Common.{◌≡◌, ℕ, ◌+◌, ◌-◌, ◌≤◌, List, ◌++◌, length, take, drop, Option, Some, None, sym, ◌∙◌, ap, append_assoc, length-append, length-drop, arith}
use Rattle.std.proofs.Math.Seq.{take-add}
use Rattle.std.proofs.lemmas.List.{drop-drop}
use Rattle.std.proofs.lemmas.Grind.{common_steps}
use Rattle.std.specs.Io.KnownBytes.{Consumes}
use Rattle.edge.specs.Sink.{appended}

-- a read after others
pub consumes_more : (first middle last : Option (List ℕ)) (xs ys : List ℕ) → Consumes first middle xs → Consumes middle last ys → Consumes first last (xs ++ ys)
consumes_more None middle last xs ys one two = tt
consumes_more (Some bytes) None last xs ys one two = absurd one
consumes_more (Some bytes) (Some more) None xs ys one two = absurd two
consumes_more (Some bytes) (Some more) (Some rest) xs ys one two =
    one ∙ ap (λ zs. xs ++ zs) two ∙ sym (append_assoc xs ys rest)

-- a write after others
pub appended_more : (before middle now : Option (List ℕ)) (text rest : List ℕ) (n taken : ℕ) → rest ≡ drop n text → middle ≡ appended before (take n text) → now ≡ appended middle (take taken rest) → now ≡ appended before (take (n + taken) text)
appended_more None middle now text rest n taken is_rest one two = two ∙ ap (λ m. appended m (take taken rest)) one
appended_more (Some bytes) middle now text rest n taken is_rest one two =
    two ∙ ap (λ m. appended m (take taken rest)) one ∙ ap Some (append_assoc bytes (take n text) (take taken rest) ∙ ap (λ r. bytes ++ (take n text ++ take taken r)) is_rest ∙ ap (λ t. bytes ++ t) (sym (take-add n taken text)))

take_whole : (xs : List ℕ) → take (length xs) xs ≡ xs
take_whole xs = grind (arith, common_steps)

-- what is left of a text after more of it
pub rest_more : (text rest : List ℕ) (n taken : ℕ) → rest ≡ drop n text → take (length rest - taken) (drop taken rest) ≡ drop (n + taken) text
rest_more text rest n taken is_rest =
    ap (λ k. take k (drop taken rest)) (sym (length-drop taken rest)) ∙ take_whole (drop taken rest) ∙ ap (λ r. drop taken r) is_rest ∙ drop-drop taken n text

-- a part of what is left lies within the text
pub within_more : (text rest : List ℕ) (n taken : ℕ) → rest ≡ drop n text → n ≤ length text → taken ≤ length rest → n + taken ≤ length text
within_more text rest n taken is_rest within more =
    let l : length rest ≡ length text - n = ap (λ r. length r) is_rest ∙ length-drop n text in omega arith

-- the length of what was read, with a piece of a buffer
pub read_length : (xs buffer : List ℕ) (n m : ℕ) → length xs + n ≤ m → length (xs ++ take n buffer) ≤ m
read_length xs buffer n m h = let l : length (xs ++ take n buffer) ≡ length xs + length (take n buffer) = length-append xs (take n buffer) in grind (arith, common_steps)
