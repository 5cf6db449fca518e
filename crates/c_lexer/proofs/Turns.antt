-- The loop over a text, a turn at a time.
use Rattle.std.proofs.Common.{◌≡◌, ℕ, zero, suc, ◌+◌, ◌-◌, ◌<◌, ◌≤◌, Bool, true, false, cond, List, [], ◌∷◌, ◌++◌, length, take, drop, Ok, Err, refl, sym, ap, ◌∙◌, arith, append_assoc, drop-cons, length-drop, drop-drop, take_all}
use Rattle.c_tree.specs.declared.token.Token.{Token}
use Rattle.c_tree.specs.Layout.{preamble}
use Rattle.c_tree.specs.Grammar.Tokens.{Text, is_printed}
use Rattle.c_lexer.specs.declared.line.Line.{Line}
use Rattle.c_lexer.specs.declared.line.Line.TheVariants.{Fresh}
use Rattle.c_lexer.specs.declared.line.Piece.TheVariants.{Nothing}
use Rattle.c_lexer.specs.declared.line.Step.{Step}
use Rattle.c_lexer.specs.Reading.{Reading, behind_tokens, step, tokens_by, tokens_from, preamble_token, tokens_of}

pub behind_more : (found ts : List Token) (r : Reading) → behind_tokens found (behind_tokens ts r) ≡ behind_tokens (found ++ ts) r
behind_more found ts (Ok us) = ap (λ (x : List Token). Ok x) (sym (append_assoc found ts us))
behind_more found ts (Err at) = refl

pub goes_on : (p : Bool) (line : Line) (left at : ℕ) (z : Text) → left ≤ length z → tokens_from p line left at z ≡ tokens_from p line 0 (at + left) (drop left z)
goes_on p line zero at z h = let e : at ≡ at + 0 = omega arith in ap (λ k. tokens_from p line 0 k z) e
goes_on p line (suc left) at [] h = absurd (let no : ⊥ = omega arith in no)
goes_on p line (suc left) at (b ∷ z) h = let e : suc at + left ≡ at + suc left = omega arith in goes_on p line left (suc at) z (omega arith) ∙ ap (λ k. tokens_from p line 0 k (drop left z)) e

turn : (p : Bool) (line : Line) (text : Text) (at : ℕ) → at < length text → tokens_from p line 0 at (drop at text) ≡ tokens_by at (step p line (drop at text)).piece (λ left. tokens_from p (step p line (drop at text)).line left (suc at) (drop (suc at) text))
turn p line text at lt = let e = drop-cons text at 0 lt in rw e refl

-- behind a piece of n bytes
on : (p : Bool) (line : Line) (text : Text) (at n : ℕ) → 1 ≤ n → at + n ≤ length text → tokens_from p line (n - 1) (suc at) (drop (suc at) text) ≡ tokens_from p line 0 (at + n) (drop (at + n) text)
on p line text at n pos h =
    let e : suc at + (n - 1) ≡ at + n = omega arith in
    goes_on p line (n - 1) (suc at) (drop (suc at) text) (omega (arith, length-drop (suc at) text))
    ∙ rw (drop-drop (n - 1) (suc at) text, e) refl

-- the rest as a slice has it
tail_is : (text : Text) (at : ℕ) → take (length text - at) (drop at text) ≡ drop at text
tail_is text at = take_all (length text - at) (drop at text) (omega (arith, length-drop at text))

abbrev pub rest_of : Text → ℕ → Text
rest_of text at = take (length text - at) (drop at text)

-- one turn of the loop, over a piece of n bytes
pub turned : (p : Bool) (line : Line) (text : Text) (at n : ℕ) (s : Step) (found : List Token) → at < length text → s ≡ step p line (rest_of text at) → 1 ≤ n → n ≤ length (rest_of text at)
    → (behind_tokens found (tokens_from p line 0 at (drop at text)) ≡ behind_tokens found (tokens_by at s.piece (λ left. tokens_from p s.line left (suc at) (drop (suc at) text)))) × (tokens_from p s.line (n - 1) (suc at) (drop (suc at) text) ≡ tokens_from p s.line 0 (at + n) (drop (at + n) text)) × (at + n ≤ length text)
turned p line text at n s found lt h pos fits =
    let e : s ≡ step p line (drop at text) = h ∙ ap (step p line) (tail_is text at) in
    let room : at + n ≤ length text = omega (arith, ap length (tail_is text at), length-drop at text) in
    (ap (behind_tokens found) (turn p line text at lt ∙ ap (λ (k : Step). tokens_by at k.piece (λ left. tokens_from p k.line left (suc at) (drop (suc at) text))) (sym e)), on p s.line text at n pos room, room)

pub fails : (p : Bool) (line : Line) (text : Text) (at : ℕ) (s : Step) (found : List Token) → at < length text → s ≡ step p line (rest_of text at) → s.piece ≡ Nothing → behind_tokens found (tokens_from p line 0 at (drop at text)) ≡ Err at
fails p line text at s found lt h is =
    let e : s ≡ step p line (drop at text) = h ∙ ap (step p line) (tail_is text at) in
    ap (behind_tokens found) (turn p line text at lt ∙ ap (λ (k : Step). tokens_by at k.piece (λ left. tokens_from p k.line left (suc at) (drop (suc at) text))) (sym e) ∙ ap (λ k. tokens_by at k (λ left. tokens_from p s.line left (suc at) (drop (suc at) text))) is)

-- the tokens behind the preamble
pub printed_is : (text first : Text) (found : List Token) → is_printed text ≡ true → first ≡ preamble → found ≡ preamble_token ∷ [] → behind_tokens found (tokens_from true Fresh 0 (length first) (drop (length first) text)) ≡ tokens_of text
unfolding tokens_of
printed_is text first found p f t =
    ap (λ (z : Text). behind_tokens found (tokens_from true Fresh 0 (length z) (drop (length z) text))) f
    ∙ ap (λ ts. behind_tokens ts (tokens_from true Fresh 0 (length preamble) (drop (length preamble) text))) t
    ∙ ap (λ v. cond v (behind_tokens (preamble_token ∷ []) (tokens_from true Fresh 0 (length preamble) (drop (length preamble) text))) (tokens_from false Fresh 0 0 text)) (sym p)
