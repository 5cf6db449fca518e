-- Lines that begin with `#`.
use Rattle.std.proofs.Common.{◌≡◌, ◌≢◌, ℕ, suc, ◌+◌, ◌≤◌, Bool, true, false, eqb, codes, ◌∷◌, length, drop, drop-drop, length-drop, length-append, Some, None, refl, sym, ap, ◌∙◌, subst, arith}
use Rattle.std.specs.Str.{bytes_eq}
use Rattle.c_tree.specs.declared.token.TokenKind.TheVariants.{Directive}
use Rattle.c_tree.specs.Grammar.Tokens as g
use Rattle.c_tree.specs.Grammar.Tokens.{Text, is_line_end, HasWord, IsPragma, IsDirective, IsForeign}
use Rattle.c_lexer.specs.declared.line.Line.TheVariants.{Fresh, Inside}
use Rattle.c_lexer.specs.declared.line.Over.TheVariants.{Blanks, Anything}
use Rattle.c_lexer.specs.declared.line.Piece.TheVariants.{Taken}
use Rattle.c_lexer.specs.declared.line.Step.{Step}
use Rattle.c_lexer.specs.Reading.{all_len, passed_len, first_word, nothing, foreign, pragma, hash_word, hash}
use Rattle.c_lexer.proofs.Tests.{choose, same_bytes, bytes_same}
use Rattle.c_lexer.proofs.Passing.{all_within, behind_all, gap_sound, gap_complete, skips_sound, passed_end}
use Rattle.c_lexer.proofs.WordLemmas.{word_is_read, word_stands, known_word, some_word}
use Rattle.c_lexer.proofs.Right.{Right, Fronted}

-- ---- what is read stands there

foreign_right : (p : Bool) (z : Text) → IsForeign z → Right p Fresh (35 ∷ z) (foreign z)
foreign_right p z f =
    let k = all_len Anything z in
    let e : suc k ≡ 1 + k = omega arith in
    record { some = omega arith; fits = omega (arith, all_within Anything z); front = subst (λ n. g.Front p g.beginning (35 ∷ z) None g.middle (drop n (35 ∷ z))) e (g.foreign f (skips_sound z)) }

word_fits : (x text rest : Text) → HasWord x text rest → length x ≤ length text
word_fits x text rest w = omega (arith, ap length w.bytes, length-append x rest)

balance_right : (p : Bool) (z : Text) (k : ℕ) (rest : Text) → IsPragma z rest → drop k z ≡ rest → k ≤ length z → bytes_eq (first_word rest) (codes "balance") ≡ true → Fronted p Fresh (35 ∷ z) (Some Directive) (k + 8) Inside
balance_right p z k rest pr at fits b =
    let w = known_word (codes "balance") rest refl b in
    let e : drop 7 rest ≡ drop (k + 8) (35 ∷ z) = let more : suc (k + 7) ≡ k + 8 = omega arith in ap (drop 7) (sym at) ∙ drop-drop 7 k z ∙ ap (λ n. drop n (35 ∷ z)) more in
    let d : IsDirective z (drop 7 rest) = record { after = rest; pragma = pr; balance = w } in
    record {
      some = omega arith;
      fits = omega (arith, word_fits (codes "balance") rest (drop 7 rest) w, ap length at, length-drop k z);
      front = subst (λ r. g.Front p g.beginning (35 ∷ z) (Some Directive) g.directive r) e (g.begin_directive d);
    }

other_right : (p : Bool) (z rest : Text) → IsPragma z rest → bytes_eq (first_word rest) (codes "balance") ≡ false → eqb (length (first_word rest)) 0 ≡ false → Right p Fresh (35 ∷ z) (foreign z)
other_right p z rest pr b some =
    let w = word_stands rest some in
    let differs : first_word rest ≢ codes "balance" = λ e. let same : bytes_eq (first_word rest) (codes "balance") ≡ true = bytes_same (first_word rest) (codes "balance") e in let no : ⊥ = cc in no in
    foreign_right p z (g.other_pragma (first_word rest) pr w.is differs w.has)

pragma_right : (p : Bool) (z : Text) (k : ℕ) (rest : Text) → IsPragma z rest → drop k z ≡ rest → k ≤ length z → Right p Fresh (35 ∷ z) (pragma z k rest)
unfolding pragma
pragma_right p z k rest pr at fits =
    choose (Right p Fresh (35 ∷ z)) (is_line_end rest) (foreign z) _ (λ e. foreign_right p z (g.lone_pragma pr e))
    (λ e. choose (Right p Fresh (35 ∷ z)) (bytes_eq (first_word rest) (codes "balance")) (record { piece = Taken Directive (k + 8); line = Inside }) _ (balance_right p z k rest pr at fits)
    (λ b. choose (Right p Fresh (35 ∷ z)) (eqb (length (first_word rest)) 0) nothing (foreign z) (λ n. tt) (other_right p z rest pr b)))

-- where `pragma` and its gap end
abbrev pragma_len : Text → ℕ
pragma_len z = all_len Blanks z + 6 + all_len Blanks (drop 6 (behind_all Blanks z))

abbrev behind_pragma : Text → Text
behind_pragma z = behind_all Blanks (drop 6 (behind_all Blanks z))

pragma_place : (z : Text) → drop (pragma_len z) z ≡ behind_pragma z
pragma_place z =
    let n = all_len Blanks z in
    let m = all_len Blanks (drop 6 (behind_all Blanks z)) in
    sym (ap (drop m) (drop-drop 6 n z) ∙ drop-drop m (n + 6) z)

pragma_fits : (z : Text) → 6 ≤ length (behind_all Blanks z) → pragma_len z ≤ length z
pragma_fits z h =
    let n = all_len Blanks z in
    omega (arith, all_within Blanks z, length-drop n z, all_within Blanks (drop 6 (behind_all Blanks z)), length-drop 6 (behind_all Blanks z))

hash_pragma_right : (p : Bool) (z : Text) → bytes_eq (first_word (behind_all Blanks z)) (codes "pragma") ≡ true → Right p Fresh (35 ∷ z) (pragma z (pragma_len z) (behind_pragma z))
hash_pragma_right p z e =
    let start = behind_all Blanks z in
    let w = known_word (codes "pragma") start refl e in
    let pr : IsPragma z (behind_pragma z) = record { before = start; after = drop 6 start; first_gap = gap_sound z; pragma = w; second_gap = gap_sound (drop 6 start) } in
    pragma_right p z (pragma_len z) (behind_pragma z) pr (pragma_place z) (pragma_fits z (word_fits (codes "pragma") start (drop 6 start) w))

pub hash_right : (p : Bool) (z : Text) → Right p Fresh (35 ∷ z) (hash z)
unfolding hash hash_word
hash_right p z =
    let start = behind_all Blanks z in
    choose (Right p Fresh (35 ∷ z)) (bytes_eq (first_word start) (codes "include")) (foreign z) _ (λ e. foreign_right p z (g.include (gap_sound z) (known_word (codes "include") start refl e)))
    (λ i. choose (Right p Fresh (35 ∷ z)) (bytes_eq (first_word start) (codes "pragma")) (pragma z (pragma_len z) (behind_pragma z)) nothing (hash_pragma_right p z) (λ e. tt))

-- ---- what stands there is read

abbrev directive_step : ℕ → Step
directive_step n = record { piece = Taken Directive n; line = Inside }

record Ends (z rest : Text) : Type 0 where
  is : hash z ≡ pragma z (pragma_len z) rest
  tail : drop (pragma_len z) z ≡ rest

pragma_ends : (z rest : Text) → IsPragma z rest → passed_len Blanks rest ≡ 0 → Ends z rest
unfolding hash hash_word
pragma_ends z rest pr h =
    let w = word_is_read (codes "pragma") pr.before pr.after refl pr.pragma in
    let start : behind_all Blanks z ≡ pr.before = gap_complete z pr.before pr.first_gap w.no_gap in
    let word : first_word (behind_all Blanks z) ≡ codes "pragma" = ap first_word start ∙ w.word in
    let end : behind_pragma z ≡ rest = ap (λ y. behind_all Blanks (drop 6 y)) start ∙ ap (behind_all Blanks) w.tail ∙ gap_complete pr.after rest pr.second_gap h in
    let whole : hash_word z (all_len Blanks z) (behind_all Blanks z) ≡ pragma z (pragma_len z) (behind_pragma z) = rw word refl in
    record { is = whole ∙ ap (pragma z (pragma_len z)) end; tail = pragma_place z ∙ end }

lone_ends : (z rest : Text) → is_line_end rest ≡ true → pragma z (pragma_len z) rest ≡ foreign z
unfolding pragma
lone_ends z rest e = rw e refl

other_ends : (z rest x : Text) → is_line_end rest ≡ false → first_word rest ≡ x → bytes_eq x (codes "balance") ≡ false → eqb (length x) 0 ≡ false → pragma z (pragma_len z) rest ≡ foreign z
unfolding pragma
other_ends z rest x e w b some = rw (e, w, b, some) refl

not_balance : (x : Text) → x ≢ codes "balance" → bytes_eq x (codes "balance") ≡ false
not_balance x h = by (bytes_eq x (codes "balance")) refl where
  by : (v : Bool) → bytes_eq x (codes "balance") ≡ v → v ≡ false
  by true e = absurd (h (same_bytes x (codes "balance") e))
  by false e = refl

pub foreign_complete : (z : Text) → IsForeign z → hash z ≡ foreign z
unfolding hash hash_word
foreign_complete z (g.include {after = after} {rest = rest} gap word) =
    let w = word_is_read (codes "include") after rest refl word in
    let read : first_word (behind_all Blanks z) ≡ codes "include" = ap first_word (gap_complete z after gap w.no_gap) ∙ w.word in
    rw read refl
foreign_complete z (g.lone_pragma {rest = rest} pr e) = (pragma_ends z rest pr (passed_end Blanks rest e)).is ∙ lone_ends z rest e
foreign_complete z (g.other_pragma {after = after} {rest = rest} x pr is differs word) =
    let w = word_is_read x after rest is word in
    (pragma_ends z after pr w.no_gap).is ∙ other_ends z after x w.no_end w.word (not_balance x differs) (some_word x is)

pub record Directed (z rest : Text) : Type 0 where
  pub less : ℕ
  pub is : hash z ≡ record { piece = Taken Directive (suc less); line = Inside }
  pub tail : drop less z ≡ rest

balance_ends : (z rest : Text) → is_line_end rest ≡ false → first_word rest ≡ codes "balance" → pragma z (pragma_len z) rest ≡ record { piece = Taken Directive (pragma_len z + 8); line = Inside }
unfolding pragma
balance_ends z rest e w = rw (e, w) refl

pub directive_complete : (z rest : Text) → IsDirective z rest → Directed z rest
directive_complete z rest d =
    let w = word_is_read (codes "balance") d.after rest refl d.balance in
    let ends = pragma_ends z d.after d.pragma w.no_gap in
    let k = pragma_len z in
    let more : k + 8 ≡ suc (k + 7) = omega arith in
    record {
      less = k + 7;
      is = ends.is ∙ balance_ends z d.after w.no_end w.word ∙ ap (directive_step) more;
      tail = sym (drop-drop 7 k z) ∙ ap (drop 7) ends.tail ∙ w.tail;
    }
