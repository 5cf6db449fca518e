-- What is read are the tokens of the text.
use Rattle.std.proofs.Common.{◌≡◌, ◌≢◌, ℕ, zero, suc, ◌+◌, ◌-◌, ◌≤◌, Bool, true, false, cond, List, [], ◌∷◌, ◌++◌, length, drop, length-drop, length-append, Option, Some, None, Ok, Err, refl, sym, ap, ◌∙◌, subst, arith}
use Rattle.c_tree.specs.declared.token.Token.{Token}
use Rattle.c_tree.specs.declared.token.TokenKind.{TokenKind}
use Rattle.c_tree.specs.Layout.{preamble}
use Rattle.c_tree.specs.Grammar.Tokens as g
use Rattle.c_tree.specs.Grammar.Tokens.{Text, AreTokens, StopsAt, is_printed}
use Rattle.c_lexer.specs.declared.line.Line.{Line}
use Rattle.c_lexer.specs.declared.line.Line.TheVariants.{Fresh, Middle, Inside}
use Rattle.c_lexer.specs.declared.line.Piece.{Piece}
use Rattle.c_lexer.specs.declared.line.Piece.TheVariants.{Passed, Taken, Nothing}
use Rattle.c_lexer.specs.declared.line.Step.{Step}
use Rattle.c_lexer.specs.Reading.{Reading, behind_tokens, tokens_by, ending, tokens_from, preamble_token, tokens_of, step}
use Rattle.c_lexer.proofs.Tests.{choose}
use Rattle.c_lexer.proofs.Comments.{starts_split}
use Rattle.c_lexer.proofs.Turns.{behind_more, goes_on}
use Rattle.c_lexer.proofs.Right.{place, code, RightBy, Right, piece_of}
use Rattle.c_lexer.proofs.Steps.{step_right, IsStep, front_complete}

-- ---- a reading says what is read

pub record EndsIn (p : Bool) (total : ℕ) (l : g.Line) (text : Text) (ts : List Token) : Type 0 where
  pub last : g.Line
  pub inner : List Token
  pub reads : g.Reads p total l text inner last []
  pub all : ts ≡ inner ++ g.last_tokens last total

pub record StopsIn (p : Bool) (total : ℕ) (l : g.Line) (text : Text) (byte : ℕ) : Type 0 where
  pub last : g.Line
  pub inner : List Token
  pub rest : Text
  pub reads : g.Reads p total l text inner last rest
  pub more : rest ≢ []
  pub nothing : (kind : Option TokenKind) (next : g.Line) (after : Text) → g.Front p last rest kind next after → ⊥
  pub at : byte ≡ total - length rest

abbrev Means : Bool → ℕ → g.Line → Text → Reading → Type 0
Means p total l text (Ok ts) = EndsIn p total l text ts
Means p total l text (Err byte) = StopsIn p total l text byte

means_passes : (p : Bool) (total : ℕ) (l next : g.Line) (text after : Text) (r : Reading) → g.Front p l text None next after → Means p total next after r → Means p total l text r
means_passes p total l next text after (Ok ts) f m = record { last = m.last; inner = m.inner; reads = g.passes f m.reads; all = m.all }
means_passes p total l next text after (Err byte) f m = record { last = m.last; inner = m.inner; rest = m.rest; reads = g.passes f m.reads; more = m.more; nothing = m.nothing; at = m.at }

abbrev token_at : TokenKind → ℕ → ℕ → Token
token_at kind start end = record { kind = kind; start = start; end = end }

means_takes : (p : Bool) (total : ℕ) (l next : g.Line) (text after : Text) (kind : TokenKind) (start end : ℕ) (r : Reading) → start ≡ total - length text → end ≡ total - length after → g.Front p l text (Some kind) next after → Means p total next after r
    → Means p total l text (behind_tokens (token_at kind start end ∷ []) r)
means_takes p total l next text after kind start end (Ok ts) s e f m =
    let same : token_at kind start end ≡ token_at kind (total - length text) (total - length after) = ap (λ k. token_at kind k end) s ∙ ap (token_at kind (total - length text)) e in
    record { last = m.last; inner = token_at kind (total - length text) (total - length after) ∷ m.inner; reads = g.takes f m.reads; all = ap (λ t. t ∷ ts) same ∙ ap (λ us. token_at kind (total - length text) (total - length after) ∷ us) m.all }
means_takes p total l next text after kind start end (Err byte) s e f m =
    record { last = m.last; inner = token_at kind (total - length text) (total - length after) ∷ m.inner; rest = m.rest; reads = g.takes f m.reads; more = m.more; nothing = m.nothing; at = m.at }

ending_is : (l : Line) (at : ℕ) → ending l at ≡ g.last_tokens (place l) at
ending_is Fresh at = refl
ending_is Middle at = refl
ending_is Inside at = refl

code_place : (l : Line) → code (place l) ≡ l
code_place Fresh = refl
code_place Middle = refl
code_place Inside = refl

place_code : (l : g.Line) → place (code l) ≡ l
place_code g.beginning = refl
place_code g.middle = refl
place_code g.directive = refl

no_piece : (o : Option TokenKind) (n : ℕ) → Nothing ≡ piece_of o n → ⊥
no_piece None n h = cc
no_piece (Some kind) n h = cc

-- where the step finds nothing, nothing stands there
nothing_stands : (p : Bool) (l : Line) (text : Text) → (step p l text).piece ≡ Nothing → (kind : Option TokenKind) (next : g.Line) (after : Text) → g.Front p (place l) text kind next after → ⊥
nothing_stands p l text h kind next after f =
    let s = front_complete p (place l) next text after kind f in
    no_piece kind (suc s.less) (sym h ∙ ap (λ (k : Step). k.piece) (ap (λ k. step p k text) (sym (code_place l)) ∙ s.is))

one_less : (n : ℕ) → n ≡ suc n - 1
one_less n = omega arith

means_at : (p : Bool) (total : ℕ) (l : Line) (left at : ℕ) (text : Text) → at + length text ≡ total → left ≤ length text → Means p total (place l) (drop left text) (tokens_from p l left at text)
means_at p total l zero at [] e h =
    let same : at ≡ total = omega arith in
    record { last = place l; inner = []; reads = g.stays; all = ending_is l at ∙ ap (g.last_tokens (place l)) same }
means_at p total l (suc left) at [] e h = absurd (omega arith)
means_at p total l (suc left) at (b ∷ z) e h = means_at p total l left (suc at) z (omega arith) (omega arith)
means_at p total l zero at (b ∷ z) e h = by (step p l (b ∷ z)).piece refl (step_right p l (b ∷ z)) (λ n fits. means_at p total (step p l (b ∷ z)).line n (suc at) z (omega arith) fits) where
  by : (k : Piece) → (step p l (b ∷ z)).piece ≡ k → RightBy p l (b ∷ z) k (step p l (b ∷ z)).line
      → ((n : ℕ) → n ≤ length z → Means p total (place (step p l (b ∷ z)).line) (drop n z) (tokens_from p (step p l (b ∷ z)).line n (suc at) z))
      → Means p total (place l) (b ∷ z) (tokens_by at k (λ left. tokens_from p (step p l (b ∷ z)).line left (suc at) z))
  by (Passed zero) i r go = absurd (omega (arith, r.some))
  by (Passed (suc n)) i r go =
      let next = (step p l (b ∷ z)).line in
      subst (λ k. Means p total (place l) (b ∷ z) (tokens_from p next k (suc at) z)) (one_less n) (means_passes p total (place l) (place next) (b ∷ z) (drop n z) (tokens_from p next n (suc at) z) r.front (go n (omega (arith, r.fits))))
  by (Taken kind zero) i r go = absurd (omega (arith, r.some))
  by (Taken kind (suc n)) i r go =
      let next = (step p l (b ∷ z)).line in
      let start : at ≡ total - length (b ∷ z) = omega arith in
      let end : at + suc n ≡ total - length (drop n z) = omega (arith, r.fits, length-drop n z) in
      subst (λ k. Means p total (place l) (b ∷ z) (behind_tokens (token_at kind at (at + suc n) ∷ []) (tokens_from p next k (suc at) z))) (one_less n)
      (means_takes p total (place l) (place next) (b ∷ z) (drop n z) kind at (at + suc n) (tokens_from p next n (suc at) z) start end r.front (go n (omega (arith, r.fits))))
  by Nothing i r go = record { last = place l; inner = []; rest = b ∷ z; reads = g.stays; more = λ n. cc; nothing = nothing_stands p l (b ∷ z) i; at = omega arith }

-- ---- what a text has is read

pub step_fits : (p : Bool) (l next : g.Line) (text rest : Text) (o : Option TokenKind) (s : IsStep p l text o next rest) → suc s.less ≤ length text
step_fits p l next text rest None s = (subst (λ k. Right p (code l) text k) s.is (step_right p (code l) text)).fits
step_fits p l next text rest (Some kind) s = (subst (λ k. Right p (code l) text k) s.is (step_right p (code l) text)).fits

behind_nothing : (r : Reading) → r ≡ behind_tokens [] r
behind_nothing (Ok ts) = refl
behind_nothing (Err byte) = refl

goes_behind : (p : Bool) (l : Line) (at n b : ℕ) (z rest : Text) → n ≤ length z → drop n z ≡ rest → tokens_from p l (suc n - 1) (suc at) z ≡ tokens_from p l 0 (at + suc n) rest
goes_behind p l at n b z rest h e =
    let more : suc at + n ≡ at + suc n = omega arith in
    ap (λ k. tokens_from p l k (suc at) z) (sym (one_less n)) ∙ goes_on p l n (suc at) z h ∙ ap (λ k. tokens_from p l 0 k (drop n z)) more ∙ ap (tokens_from p l 0 (at + suc n)) e

pass_step : (p : Bool) (l next : g.Line) (text rest : Text) (at : ℕ) (s : IsStep p l text None next rest) → tokens_from p (code l) 0 at text ≡ tokens_from p (code next) 0 (at + suc s.less) rest
pass_step p l next [] rest at s = absurd (let fits = step_fits p l next [] rest None s in let no : ⊥ = omega arith in no)
pass_step p l next (b ∷ z) rest at s =
    let fits = step_fits p l next (b ∷ z) rest None s in
    ap (λ (k : Step). tokens_by at k.piece (λ left. tokens_from p k.line left (suc at) z)) s.is ∙ goes_behind p (code next) at s.less b z rest (omega arith) s.tail

take_step : (p : Bool) (l next : g.Line) (text rest : Text) (kind : TokenKind) (at : ℕ) (s : IsStep p l text (Some kind) next rest)
    → tokens_from p (code l) 0 at text ≡ behind_tokens (token_at kind at (at + suc s.less) ∷ []) (tokens_from p (code next) 0 (at + suc s.less) rest)
take_step p l next [] rest kind at s = absurd (let fits = step_fits p l next [] rest (Some kind) s in let no : ⊥ = omega arith in no)
take_step p l next (b ∷ z) rest kind at s =
    let fits = step_fits p l next (b ∷ z) rest (Some kind) s in
    ap (λ (k : Step). tokens_by at k.piece (λ left. tokens_from p k.line left (suc at) z)) s.is
    ∙ ap (behind_tokens (token_at kind at (at + suc s.less) ∷ [])) (goes_behind p (code next) at s.less b z rest (omega arith) s.tail)

pub reads_give : (p : Bool) (total : ℕ) (l last : g.Line) (text rest : Text) (ts : List Token) → g.Reads p total l text ts last rest → (at : ℕ) → at + length text ≡ total
    → tokens_from p (code l) 0 at text ≡ behind_tokens ts (tokens_from p (code last) 0 (total - length rest) rest)
reads_give p total l last text rest ts g.stays at e =
    let same : at ≡ total - length text = omega arith in
    ap (λ k. tokens_from p (code l) 0 k text) same ∙ behind_nothing (tokens_from p (code l) 0 (total - length text) text)
reads_give p total l last text rest ts (g.passes {between = next} {after = after} f more) at e =
    let s = front_complete p l next text after None f in
    let fits = step_fits p l next text after None s in
    pass_step p l next text after at s ∙ reads_give p total next last after rest ts more (at + suc s.less) (omega (arith, e, fits, ap length s.tail, length-drop (suc s.less) text))
reads_give p total l last text rest _ (g.takes {between = next} {after = after} {kind = kind} {ts = ts} f more) at e =
    let s = front_complete p l next text after (Some kind) f in
    let fits = step_fits p l next text after (Some kind) s in
    let start : at ≡ total - length text = omega arith in
    let end : at + suc s.less ≡ total - length after = omega (arith, e, fits, ap length s.tail, length-drop (suc s.less) text) in
    let same : token_at kind at (at + suc s.less) ≡ token_at kind (total - length text) (total - length after) = ap (λ k. token_at kind k (at + suc s.less)) start ∙ ap (token_at kind (total - length text)) end in
    take_step p l next text after kind at s
    ∙ ap (behind_tokens (token_at kind at (at + suc s.less) ∷ [])) (reads_give p total next last after rest ts more (at + suc s.less) (omega (arith, e, fits, ap length s.tail, length-drop (suc s.less) text)))
    ∙ behind_more (token_at kind at (at + suc s.less) ∷ []) ts (tokens_from p (code last) 0 (total - length rest) rest)
    ∙ ap (λ t. behind_tokens (t ∷ ts) (tokens_from p (code last) 0 (total - length rest) rest)) same

-- ---- whole texts

abbrev pub MeansAll : Text → Reading → Type 0
MeansAll text (Ok ts) = AreTokens text ts
MeansAll text (Err byte) = StopsAt text byte

abbrev body : Text → Bool → Text
body text v = cond v (drop (length preamble) text) text

abbrev first : Bool → List Token
first v = cond v (preamble_token ∷ []) []

means_all_as : (text : Text) (v : Bool) → is_printed text ≡ v → (r : Reading) → Means v (length text) g.beginning (body text v) r → MeansAll text (behind_tokens (first v) r)
means_all_as text v e (Ok ts) m = record {
  last = m.last;
  inner = m.inner;
  reads = subst (λ w. g.Reads w (length text) g.beginning (body text w) m.inner m.last []) (sym e) m.reads;
  all = ap (λ us. first v ++ us) m.all ∙ ap (λ w. first w ++ (m.inner ++ g.last_tokens m.last (length text))) (sym e);
}
means_all_as text v e (Err byte) m = record {
  last = m.last;
  inner = m.inner;
  rest = m.rest;
  reads = subst (λ w. g.Reads w (length text) g.beginning (body text w) m.inner m.last m.rest) (sym e) m.reads;
  more = m.more;
  nothing = subst (λ w. (kind : Option TokenKind) (next : g.Line) (after : Text) → g.Front w m.last m.rest kind next after → ⊥) (sym e) m.nothing;
  place = m.at;
}

pub preamble_fits : (text : Text) → is_printed text ≡ true → length preamble + length (drop (length preamble) text) ≡ length text
preamble_fits text h = sym (ap length (starts_split preamble text h) ∙ length-append preamble (drop (length preamble) text))

pub means_all : (text : Text) → MeansAll text (tokens_of text)
unfolding tokens_of
means_all text = choose (MeansAll text) (is_printed text) (behind_tokens (preamble_token ∷ []) (tokens_from true Fresh 0 (length preamble) (drop (length preamble) text))) (tokens_from false Fresh 0 0 text)
    (λ e. means_all_as text true e (tokens_from true Fresh 0 (length preamble) (drop (length preamble) text)) (means_at true (length text) Fresh 0 (length preamble) (drop (length preamble) text) (preamble_fits text e) (omega arith)))
    (λ e. subst (MeansAll text) (sym (behind_nothing (tokens_from false Fresh 0 0 text))) (means_all_as text false e (tokens_from false Fresh 0 0 text) (means_at false (length text) Fresh 0 0 text (omega arith) (omega arith))))

-- the reading of a text, where it is known whether it is a printed one
tokens_as : (text : Text) (v : Bool) → is_printed text ≡ v → tokens_of text ≡ behind_tokens (first v) (tokens_from v Fresh 0 (length text - length (body text v)) (body text v))
unfolding tokens_of
tokens_as text true e =
    let place : length preamble ≡ length text - length (drop (length preamble) text) = omega (arith, preamble_fits text e) in
    rw e (ap (λ n. behind_tokens (preamble_token ∷ []) (tokens_from true Fresh 0 n (drop (length preamble) text))) place)
tokens_as text false e =
    let place : 0 ≡ length text - length text = omega arith in
    rw e (ap (λ n. tokens_from false Fresh 0 n text) place ∙ behind_nothing (tokens_from false Fresh 0 (length text - length text) text))

body_fits : (text : Text) (v : Bool) → is_printed text ≡ v → (length text - length (body text v)) + length (body text v) ≡ length text
body_fits text true e = omega (arith, preamble_fits text e)
body_fits text false e = omega arith

code_ending : (l : g.Line) (at : ℕ) → ending (code l) at ≡ g.last_tokens l at
code_ending g.beginning at = refl
code_ending g.middle at = refl
code_ending g.directive at = refl

pub tokens_complete : (text : Text) (ts : List Token) → AreTokens text ts → tokens_of text ≡ Ok ts
tokens_complete text ts a =
    let v = is_printed text in
    let total = length text in
    let whole = reads_give v total g.beginning a.last (body text v) [] a.inner a.reads (total - length (body text v)) (body_fits text v refl) in
    let none : total - length {A = ℕ} [] ≡ total = omega arith in
    tokens_as text v refl ∙ ap (behind_tokens (first v)) (whole ∙ ap (λ us. behind_tokens a.inner (Ok us)) (code_ending a.last (total - length {A = ℕ} []) ∙ ap (g.last_tokens a.last) none)) ∙ ap (λ us. Ok us) (sym a.all)

-- where nothing stands, the reading stops
stuck : (p : Bool) (l : g.Line) (rest : Text) (at : ℕ) → rest ≢ [] → ((kind : Option TokenKind) (next : g.Line) (after : Text) → g.Front p l rest kind next after → ⊥) → tokens_from p (code l) 0 at rest ≡ Err at
stuck p l [] at more h = absurd (more refl)
stuck p l (b ∷ z) at more h = by (step p (code l) (b ∷ z)).piece refl (step_right p (code l) (b ∷ z)) where
  here : (kind : Option TokenKind) (next : Line) (after : Text) → g.Front p (place (code l)) (b ∷ z) kind (place next) after → ⊥
  here kind next after f = h kind (place next) after (subst (λ k. g.Front p k (b ∷ z) kind (place next) after) (place_code l) f)

  by : (k : Piece) → (step p (code l) (b ∷ z)).piece ≡ k → RightBy p (code l) (b ∷ z) k (step p (code l) (b ∷ z)).line
      → tokens_by at k (λ left. tokens_from p (step p (code l) (b ∷ z)).line left (suc at) z) ≡ Err at
  by (Passed n) i r = absurd (here None (step p (code l) (b ∷ z)).line (drop n (b ∷ z)) r.front)
  by (Taken kind n) i r = absurd (here (Some kind) (step p (code l) (b ∷ z)).line (drop n (b ∷ z)) r.front)
  by Nothing i r = refl

pub stops_complete : (text : Text) (byte : ℕ) → StopsAt text byte → tokens_of text ≡ Err byte
stops_complete text byte a =
    let v = is_printed text in
    let total = length text in
    let whole = reads_give v total g.beginning a.last (body text v) a.rest a.inner a.reads (total - length (body text v)) (body_fits text v refl) in
    tokens_as text v refl ∙ ap (behind_tokens (first v)) (whole ∙ ap (behind_tokens a.inner) (stuck v a.last a.rest (total - length a.rest) a.more a.nothing)) ∙ ap (λ n. Err n) (sym a.place)
