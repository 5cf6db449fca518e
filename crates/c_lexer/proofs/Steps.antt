-- What stands at the front of a text is what is read there.
use Rattle.std.proofs.Common.{◌≡◌, ℕ, zero, suc, ◌+◌, Bool, true, false, ◌||◌, cond, eqb, codes, [], ◌∷◌, drop, Option, Some, None, refl, sym, ap, ◌∙◌, subst, ◌⊎◌, inl, inr, arith}
use Rattle.std.proofs.lemmas.Bool.{eqb-true}
use Rattle.std.proofs.lemmas.Bool.Decides.{nat_tests}
use Rattle.c_tree.specs.declared.token.TokenKind.{TokenKind}
use Rattle.c_tree.specs.declared.token.TokenKind.TheVariants.{Directive}
use Rattle.c_tree.specs.Grammar.Tokens as g
use Rattle.c_tree.specs.Grammar.Tokens.{Text, is_gap, begins_comment}
use Rattle.c_lexer.specs.declared.line.Line.{Line}
use Rattle.c_lexer.specs.declared.line.Line.TheVariants.{Fresh, Middle, Inside}
use Rattle.c_lexer.specs.declared.line.Over.TheVariants.{Blanks, Anything}
use Rattle.c_lexer.specs.declared.line.Piece.{Piece}
use Rattle.c_lexer.specs.declared.line.Piece.TheVariants.{Passed, Taken, Nothing}
use Rattle.c_lexer.specs.declared.line.Step.{Step}
use Rattle.c_lexer.specs.Reading.{step, line_feed, hash_in, blank_in, token_in, token_piece, behind_token, passed_len, all_len, hash}
use Rattle.text_pieces.proofs.Runs.{both}
use Rattle.c_lexer.proofs.Tests.{either, neither, choose}
use Rattle.c_lexer.proofs.Comments.{starts, IsCommented, comment_complete}
use Rattle.c_lexer.proofs.Passing.{IsPassed, passed_sound, passed_within, passed_blank, passed_comment, skips_complete}
use Rattle.c_lexer.proofs.Hashes.{hash_right, foreign_complete, directive_complete}
use Rattle.c_lexer.proofs.Longest.{IsToken, IsTaken, token_right, token_complete}
use Rattle.c_lexer.proofs.Right.{place, code, Right, piece_of}

-- ---- what is read stands there

feed_right : (p : Bool) (l : Line) (z : Text) → Right p l (10 ∷ z) (line_feed l)
feed_right p Fresh z = record { some = omega arith; fits = omega arith; front = g.first_line_feed }
feed_right p Middle z = record { some = omega arith; fits = omega arith; front = g.line_feed }
feed_right p Inside z = record { some = omega arith; fits = omega arith; front = g.end_line }

hash_in_right : (p : Bool) (l : Line) (z : Text) → Right p l (35 ∷ z) (hash_in l z)
hash_in_right p Fresh z = hash_right p z
hash_in_right p Middle z = tt
hash_in_right p Inside z = tt

passed_front : (p : Bool) (l : Line) (b : ℕ) (z : Text) (n : ℕ) → IsPassed Blanks b z n → g.Front p (place l) (b ∷ z) None (place l) (drop n z)
passed_front p l b z n (inl c) = g.comment c
passed_front p l b z n (inr h) = subst (λ k. g.Front p (place l) (b ∷ z) None (place l) (drop k z)) (sym h.2) (g.blank h.1)

blank_right : (p : Bool) (l : Line) (b : ℕ) (z : Text) (n : ℕ) → passed_len Blanks (b ∷ z) ≡ n → Right p l (b ∷ z) (blank_in l n)
blank_right p l b z zero h = tt
blank_right p l b z (suc n) h = record { some = omega arith; fits = omega (arith, h, passed_within Blanks (b ∷ z)); front = passed_front p l b z n (passed_sound Blanks b z n h) }

behind_place : (l : Line) → g.behind (place l) ≡ place (behind_token l)
behind_place Fresh = refl
behind_place Middle = refl
behind_place Inside = refl

token_in_right : (p : Bool) (l : Line) (text : Text) (k : Piece) → IsToken p text k → Right p l text (token_in l k)
token_in_right p l text (Taken kind n) h = record { some = h.0; fits = h.1; front = subst (λ next. g.Front p (place l) text (Some kind) next (drop n text)) (behind_place l) (g.token n h.2) }
token_in_right p l text (Passed n) h = tt
token_in_right p l text Nothing h = tt

pub step_right : (p : Bool) (l : Line) (text : Text) → Right p l text (step p l text)
unfolding step
step_right p l [] = tt
step_right p l (b ∷ z) =
    choose (Right p l (b ∷ z)) (eqb b 10) (line_feed l) _ (λ e. subst (λ k. Right p l (k ∷ z) (line_feed l)) (sym (eqb-true b 10 e)) (feed_right p l z))
    (λ e. choose (Right p l (b ∷ z)) (eqb b 35) (hash_in l z) _ (λ f. subst (λ k. Right p l (k ∷ z) (hash_in l z)) (sym (eqb-true b 35 f)) (hash_in_right p l z))
    (λ f. choose (Right p l (b ∷ z)) (is_gap b || begins_comment (b ∷ z)) (blank_in l (passed_len Blanks (b ∷ z))) (token_in l (token_piece p b (b ∷ z))) (λ h. blank_right p l b z (passed_len Blanks (b ∷ z)) refl)
    (λ h. token_in_right p l (b ∷ z) (token_piece p b (b ∷ z)) (token_right p b z (neither (is_gap b) (begins_comment (b ∷ z)) h).1))))

-- ---- what stands there is read

abbrev pub step_of : Option TokenKind → ℕ → Line → Step
step_of o n next = record { piece = piece_of o n; line = next }

pub record IsStep (p : Bool) (l : g.Line) (text : Text) (o : Option TokenKind) (next : g.Line) (rest : Text) : Type 0 where
  pub less : ℕ
  pub is : step p (code l) text ≡ step_of o (suc less) (code next)
  pub tail : drop (suc less) text ≡ rest

blank_step : (p : Bool) (l : Line) (b : ℕ) (z : Text) → eqb b 10 ≡ false → eqb b 35 ≡ false → (is_gap b || begins_comment (b ∷ z)) ≡ true → step p l (b ∷ z) ≡ blank_in l (passed_len Blanks (b ∷ z))
unfolding step
blank_step p l b z e f h =
    ap (λ v. cond v (line_feed l) (cond (eqb b 35) (hash_in l z) (cond (is_gap b || begins_comment (b ∷ z)) (blank_in l (passed_len Blanks (b ∷ z))) (token_in l (token_piece p b (b ∷ z)))))) e
    ∙ ap (λ v. cond v (hash_in l z) (cond (is_gap b || begins_comment (b ∷ z)) (blank_in l (passed_len Blanks (b ∷ z))) (token_in l (token_piece p b (b ∷ z))))) f
    ∙ ap (λ v. cond v (blank_in l (passed_len Blanks (b ∷ z))) (token_in l (token_piece p b (b ∷ z)))) h

token_step : (p : Bool) (l : Line) (b : ℕ) (z : Text) → eqb b 10 ≡ false → eqb b 35 ≡ false → (is_gap b || begins_comment (b ∷ z)) ≡ false → step p l (b ∷ z) ≡ token_in l (token_piece p b (b ∷ z))
unfolding step
token_step p l b z e f h =
    ap (λ v. cond v (line_feed l) (cond (eqb b 35) (hash_in l z) (cond (is_gap b || begins_comment (b ∷ z)) (blank_in l (passed_len Blanks (b ∷ z))) (token_in l (token_piece p b (b ∷ z)))))) e
    ∙ ap (λ v. cond v (hash_in l z) (cond (is_gap b || begins_comment (b ∷ z)) (blank_in l (passed_len Blanks (b ∷ z))) (token_in l (token_piece p b (b ∷ z))))) f
    ∙ ap (λ v. cond v (blank_in l (passed_len Blanks (b ∷ z))) (token_in l (token_piece p b (b ∷ z)))) h

gap_no_feed : (b : ℕ) → is_gap b ≡ true → eqb b 10 ≡ false
gap_no_feed b h = grind (arith, nat_tests)

gap_no_hash : (b : ℕ) → is_gap b ≡ true → eqb b 35 ≡ false
gap_no_hash b h = grind (arith, nat_tests)

slash : (b : ℕ) (z : Text) → begins_comment (b ∷ z) ≡ true → b ≡ 47
slash b z h = by (either (starts (b ∷ z) (codes "//")) (starts (b ∷ z) (codes "/*")) h) where
  by : (starts (b ∷ z) (codes "//") ≡ true) ⊎ (starts (b ∷ z) (codes "/*") ≡ true) → b ≡ 47
  by (inl e) = sym (eqb-true 47 b (both (eqb 47 b) _ e).0)
  by (inr e) = sym (eqb-true 47 b (both (eqb 47 b) _ e).0)

or_left : (v w : Bool) → v ≡ true → (v || w) ≡ true
or_left v w e = rw e refl

or_right : (v w : Bool) → w ≡ true → (v || w) ≡ true
or_right true w e = refl
or_right false w e = e

blank_front : (p : Bool) (l : g.Line) (b : ℕ) (z : Text) → is_gap b ≡ true → IsStep p l (b ∷ z) None l z
blank_front p l b z h = record { less = 0; is = blank_step p (code l) b z (gap_no_feed b h) (gap_no_hash b h) (or_left (is_gap b) (begins_comment (b ∷ z)) h) ∙ ap (blank_in (code l)) (passed_blank b z h); tail = refl }

comment_front : (p : Bool) (l : g.Line) (text rest : Text) → IsCommented text rest → IsStep p l text None l rest
comment_front p l [] rest c = absurd (let no : false ≡ true = c.begin in let more : ⊥ = cc in more)
comment_front p l (b ∷ z) rest c =
    let s = slash b z c.begin in
    let feed : eqb b 10 ≡ false = rw s refl in
    let mark : eqb b 35 ≡ false = rw s refl in
    record { less = c.less; is = blank_step p (code l) b z feed mark (or_right (is_gap b) (begins_comment (b ∷ z)) c.begin) ∙ ap (blank_in (code l)) (passed_comment Blanks (b ∷ z) rest c); tail = c.tail }

feed_front : (p : Bool) (l : Line) (z : Text) → step p l (10 ∷ z) ≡ line_feed l
unfolding step
feed_front p l z = refl

hash_front : (p : Bool) (z : Text) → step p Fresh (35 ∷ z) ≡ hash z
unfolding step
hash_front p z = refl

foreign_front : (p : Bool) (z rest : Text) → g.IsForeign z → g.Skips z rest → IsStep p g.beginning (35 ∷ z) None g.middle rest
foreign_front p z rest f s =
    let k = all_len Anything z in
    let e : 1 + k ≡ suc k = omega arith in
    record { less = k; is = hash_front p z ∙ foreign_complete z f ∙ ap (λ n. step_of None n Middle) e; tail = skips_complete z rest s }

directive_front : (p : Bool) (z rest : Text) → g.IsDirective z rest → IsStep p g.beginning (35 ∷ z) (Some Directive) g.directive rest
directive_front p z rest d =
    let c = directive_complete z rest d in
    record { less = c.less; is = hash_front p z ∙ c.is; tail = c.tail }

behind_code : (l : g.Line) → behind_token (code l) ≡ code (g.behind l)
behind_code g.beginning = refl
behind_code g.middle = refl
behind_code g.directive = refl

token_front : (p : Bool) (l : g.Line) (text : Text) (kind : TokenKind) (n : ℕ) → IsTaken p text kind n → IsStep p l text (Some kind) (g.behind l) (drop n text)
token_front p l text kind n t = subst (λ y. IsStep p l y (Some kind) (g.behind l) (drop n y)) (sym t.split) (subst (λ k. IsStep p l (t.byte ∷ t.more) (Some kind) (g.behind l) (drop k (t.byte ∷ t.more))) (sym t.count) here) where
  lines : (eqb t.byte 10 ≡ false) × ((eqb t.byte 35 ≡ false) × (is_gap t.byte ≡ false))
  lines = let (feed, others) = neither (eqb t.byte 10) (eqb t.byte 35 || is_gap t.byte) t.no_line in (feed, neither (eqb t.byte 35) (is_gap t.byte) others)

  no_comment : begins_comment (t.byte ∷ t.more) ≡ false
  no_comment = subst (λ y. begins_comment y ≡ false) t.split t.no_comment

  no_blank : (is_gap t.byte || begins_comment (t.byte ∷ t.more)) ≡ false
  no_blank = rw lines.1.1 no_comment

  is : token_piece p t.byte (t.byte ∷ t.more) ≡ Taken kind (suc t.less)
  is = subst (λ y. token_piece p t.byte y ≡ Taken kind (suc t.less)) t.split (t.is ∙ ap (λ k. Taken kind k) t.count)

  here : IsStep p l (t.byte ∷ t.more) (Some kind) (g.behind l) (drop (suc t.less) (t.byte ∷ t.more))
  here = record { less = t.less; is = token_step p (code l) t.byte t.more lines.0 lines.1.0 no_blank ∙ ap (token_in (code l)) is ∙ ap (λ next. step_of (Some kind) (suc t.less) next) (behind_code l); tail = refl }

pub front_complete : (p : Bool) (l next : g.Line) (text rest : Text) (o : Option TokenKind) → g.Front p l text o next rest → IsStep p l text o next rest
front_complete p l next (b ∷ z) rest o (g.blank h) = blank_front p l b z h
front_complete p l next text rest o (g.comment c) = comment_front p l text rest (comment_complete text rest c)
front_complete p l next (b ∷ z) rest o g.first_line_feed = record { less = 0; is = feed_front p Fresh z; tail = refl }
front_complete p l next (b ∷ z) rest o g.line_feed = record { less = 0; is = feed_front p Middle z; tail = refl }
front_complete p l next (b ∷ z) rest o g.end_line = record { less = 0; is = feed_front p Inside z; tail = refl }
front_complete p l next (b ∷ z) rest o (g.foreign f s) = foreign_front p z rest f s
front_complete p l next (b ∷ z) rest o (g.begin_directive d) = directive_front p z rest d
front_complete p l next text rest o (g.token {kind = kind} n h) = token_front p l text kind n (token_complete p text kind n h)
