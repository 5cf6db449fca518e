-- The longest word, literal or mark at the front.
use Rattle.std.proofs.Common.{◌≡◌, ℕ, zero, suc, ◌<◌, ◌≤◌, Bool, true, false, ◌||◌, cond, eqb, leb, codes, [], ◌∷◌, ◌++◌, length, take, drop, Option, Some, None, refl, sym, ap, ◌∙◌, subst, ◌⊎◌, inl, inr, arith}
use Rattle.std.proofs.lemmas.Bool.{leb-true, le-leb}
use Rattle.std.proofs.lemmas.Bool.Decides.{nat_tests}
use Rattle.std.proofs.lemmas.List.{take-append-drop, length-take-le}
use Rattle.std.proofs.lemmas.List.Sums.{prefix_len-le-length}
use Rattle.std.specs.List.{prefix_len, list_all}
use Rattle.c_tree.specs.declared.token.TokenKind.{TokenKind}
use Rattle.c_tree.specs.declared.token.TokenKind.TheVariants.{Word, Literal, Mark, Directive, EndLine, Preamble}
use Rattle.c_tree.specs.Reserved.{is_letter, is_digit, is_word, is_word_byte}
use Rattle.c_tree.specs.Grammar.Tokens as g
use Rattle.c_tree.specs.Grammar.Tokens.{Text, IsForm, Begins, is_mark, is_gap, is_apart, begins_comment, is_among, suffixes}
use Rattle.text_pieces.specs.Fronts.{run, behind}
use Rattle.text_pieces.proofs.Runs.{both, begins, behind_stops, prefix_len-front, prefix_len-greatest}
use Rattle.c_lexer.specs.declared.line.Piece.{Piece}
use Rattle.c_lexer.specs.declared.line.Piece.TheVariants.{Passed, Taken, Nothing}
use Rattle.c_lexer.specs.Reading.{word_len, longest, word_piece, literal, literal_by, literal_piece, is_single, is_pair, single_piece, mark_piece, token_piece}
use Rattle.c_lexer.proofs.Tests.{neither, choose, not_true, among_all}
use Rattle.c_lexer.proofs.Forms.{letter_word, digit_word, letter_no_digit, is_plain, is_mark_shape, mark_shape, single_mark, pair_mark, is_wordy, word_is_wordy, decimal_digits, form_bytes}
use Rattle.c_lexer.proofs.Literals.{literal_sound, literal_complete}
use Rattle.c_lexer.proofs.WordLemmas.{apart_stops, stops_apart, run_is_word, letter_left}

-- what a piece of a token says
abbrev pub IsToken : Bool → Text → Piece → Type 0
IsToken p text (Taken kind n) = (1 ≤ n) × (n ≤ length text) × Begins p text kind n
IsToken p text (Passed n) = Unit {0}
IsToken p text Nothing = Unit {0}

-- ---- letters, digits and `_`

plain_no_word : (b : ℕ) → is_plain b ≡ true → is_word_byte b ≡ false
plain_no_word b h = (neither (is_word_byte b) (eqb b 10 || (eqb b 35 || is_gap b)) (not_true (is_word_byte b || (eqb b 10 || (eqb b 35 || is_gap b))) h)).0

shape_is_plain : (b : ℕ) (x : Text) → is_mark_shape (b ∷ x) ≡ true → is_plain b ≡ true
shape_is_plain b [] h = (both (is_plain b) (is_single b) h).0
shape_is_plain b (c ∷ []) h = (both (is_plain b) (is_pair b c) h).0
shape_is_plain b (c ∷ d ∷ x) h = absurd (let no : ⊥ = cc in no)

-- no form is longer than the letters, digits and `_` at the front
wordy_longest : (b : ℕ) (z : Text) → is_word_byte b ≡ true → (k : ℕ) (other : TokenKind) → word_len (b ∷ z) < k → k ≤ length (b ∷ z) → IsForm (take k (b ∷ z)) other → ⊥
wordy_longest b z w zero other lt le f = omega arith
wordy_longest b z w (suc k) other lt le f = by (form_bytes (take (suc k) (b ∷ z)) other f) where
  by : (is_mark (b ∷ take k z) ≡ true) ⊎ (is_wordy (b ∷ take k z) ≡ true) → ⊥
  by (inl m) = let e = plain_no_word b (shape_is_plain b (take k z) (mark_shape (b ∷ take k z) m)) in cc
  by (inr m) = let all = (both (is_word_byte b) (list_all is_word_byte (b ∷ take k z)) m).1 in let greatest = prefix_len-greatest is_word_byte (suc k) (b ∷ z) le all in omega arith

word_len_some : (b : ℕ) (z : Text) → is_word_byte b ≡ true → 1 ≤ word_len (b ∷ z)
word_len_some b z w = rw w (omega arith)

word_token : (p : Bool) (b : ℕ) (z : Text) → is_digit b ≡ false → is_word_byte b ≡ true → IsToken p (b ∷ z) (word_piece (longest p) (b ∷ z))
word_token p b z d w = choose (IsToken p (b ∷ z)) (leb (word_len (b ∷ z)) (longest p)) (Taken Word (word_len (b ∷ z))) Nothing
    (λ h. (
      word_len_some b z w,
      prefix_len-le-length is_word_byte (b ∷ z),
      record {
        within = prefix_len-le-length is_word_byte (b ∷ z);
        form = g.word (run_is_word b z (letter_left b w d));
        longest = wordy_longest b z w;
        proper = leb-true (word_len (b ∷ z)) (longest p) h;
      },
    ))
    (λ h. tt)

literal_token : (p : Bool) (b : ℕ) (z : Text) → is_word_byte b ≡ true → IsToken p (b ∷ z) (literal_piece (b ∷ z))
literal_token p b z w = by (literal (run is_word_byte (b ∷ z))) refl where
  by : (o : Option ℕ) → literal (run is_word_byte (b ∷ z)) ≡ o → IsToken p (b ∷ z) (literal_by (word_len (b ∷ z)) o)
  by None e = tt
  by (Some v) e = (
    word_len_some b z w,
    prefix_len-le-length is_word_byte (b ∷ z),
    record {
      within = prefix_len-le-length is_word_byte (b ∷ z);
      form = literal_sound (run is_word_byte (b ∷ z)) v e;
      longest = wordy_longest b z w;
      proper = stops_apart (behind is_word_byte (b ∷ z)) (behind_stops is_word_byte (b ∷ z));
    },
  )

-- ---- marks

mark_longest : (b : ℕ) (z : Text) (n : ℕ) → is_word_byte b ≡ false → 1 ≤ n → ((c : ℕ) (y : Text) → z ≡ c ∷ y → n ≡ 1 → is_pair b c ≡ false) → (k : ℕ) (other : TokenKind) → n < k → k ≤ length (b ∷ z) → IsForm (take k (b ∷ z)) other → ⊥
mark_longest b z n w some lone zero other lt le f = omega arith
mark_longest b z n w some lone (suc k) other lt le f = by (form_bytes (take (suc k) (b ∷ z)) other f) where
  shape : (k : ℕ) (z : Text) → ((c : ℕ) (y : Text) → z ≡ c ∷ y → n ≡ 1 → is_pair b c ≡ false) → n < suc k → k ≤ length z → is_mark_shape (b ∷ take k z) ≡ true → ⊥
  shape zero z lone lt le h = omega arith
  shape (suc k) [] lone lt le h = omega arith
  shape (suc zero) (c ∷ z) lone lt le h = let one : n ≡ 1 = omega arith in let e = lone c z refl one in let pair = (both (is_plain b) (is_pair b c) h).1 in cc
  shape (suc (suc k)) (c ∷ []) lone lt le h = omega arith
  shape (suc (suc k)) (c ∷ d ∷ z) lone lt le h = cc

  by : (is_mark (b ∷ take k z) ≡ true) ⊎ (is_wordy (b ∷ take k z) ≡ true) → ⊥
  by (inl m) = shape k z lone lt (omega arith) (mark_shape (b ∷ take k z) m)
  by (inr m) = let e = (both (is_word_byte b) (list_all is_word_byte (b ∷ take k z)) m).0 in cc

single_token : (p : Bool) (b : ℕ) (z : Text) → is_word_byte b ≡ false → begins_comment (b ∷ z) ≡ false → ((c : ℕ) (y : Text) → z ≡ c ∷ y → is_pair b c ≡ false) → IsToken p (b ∷ z) (single_piece b)
single_token p b z w c lone = choose (IsToken p (b ∷ z)) (is_single b) (Taken Mark 1) Nothing
    (λ h. (
      omega arith,
      omega arith,
      record {
        within = omega arith;
        form = g.mark (single_mark b h);
        longest = mark_longest b z 1 w (omega arith) (λ d y e one. lone d y e);
        proper = c;
      },
    ))
    (λ h. tt)

second_is : (c d : ℕ) (z y : Text) → c ∷ z ≡ d ∷ y → c ≡ d
second_is c d z y e = cc

mark_token : (p : Bool) (b : ℕ) (z : Text) → is_word_byte b ≡ false → begins_comment (b ∷ z) ≡ false → IsToken p (b ∷ z) (mark_piece (b ∷ z))
mark_token p b [] w c = single_token p b [] w c (λ d y e. absurd (let no : ⊥ = cc in no))
mark_token p b (d ∷ z) w c = choose (IsToken p (b ∷ d ∷ z)) (is_pair b d) (Taken Mark 2) (single_piece b)
    (λ h. (
      omega arith,
      omega arith,
      record {
        within = omega arith;
        form = g.mark (pair_mark b d h);
        longest = mark_longest b (d ∷ z) 2 w (omega arith) (λ q y e one. absurd (omega arith));
        proper = c;
      },
    ))
    (λ h. single_token p b (d ∷ z) w c (λ q y e. subst (λ k. is_pair b k ≡ false) (second_is d q z y e) h))

-- ---- what is read begins the text

pub token_right : (p : Bool) (b : ℕ) (z : Text) → begins_comment (b ∷ z) ≡ false → IsToken p (b ∷ z) (token_piece p b (b ∷ z))
token_right p b z c =
    choose (IsToken p (b ∷ z)) (is_digit b) (literal_piece (b ∷ z)) _ (λ d. literal_token p b z (digit_word b d))
    (λ d. choose (IsToken p (b ∷ z)) (is_word_byte b) (word_piece (longest p) (b ∷ z)) (mark_piece (b ∷ z)) (word_token p b z d) (λ w. mark_token p b z w c))

-- ---- what begins the text is read

abbrev pub begins_line : ℕ → Bool
begins_line b = eqb b 10 || (eqb b 35 || is_gap b)

-- the token is read
pub record IsTaken (p : Bool) (text : Text) (kind : TokenKind) (n : ℕ) : Type 0 where
  pub byte : ℕ
  pub more : Text
  pub less : ℕ
  pub split : text ≡ byte ∷ more
  pub count : n ≡ suc less
  pub no_line : begins_line byte ≡ false
  pub no_comment : begins_comment text ≡ false
  pub is : token_piece p byte text ≡ Taken kind n

word_no_line : (b : ℕ) → is_word_byte b ≡ true → begins_line b ≡ false
word_no_line b h = grind (arith, nat_tests)

word_no_comment : (b : ℕ) (z : Text) → is_word_byte b ≡ true → begins_comment (b ∷ z) ≡ false
word_no_comment b z h = let e : eqb 47 b ≡ false = grind (arith, nat_tests) in rw e refl

-- a front of n bytes that no longer one follows is all letters, digits and `_`
wordy_len : (p : Bool) (b : ℕ) (z : Text) (kind : TokenKind) (n : ℕ) → Begins p (b ∷ z) kind n → is_letter b ≡ true → list_all is_word_byte (take n (b ∷ z)) ≡ true → n ≡ word_len (b ∷ z)
wordy_len p b z kind n h l all =
    let most = prefix_len-greatest is_word_byte n (b ∷ z) h.within all in
    omega (arith, most, λ (lt : n < word_len (b ∷ z)). h.longest (word_len (b ∷ z)) Word lt (prefix_len-le-length is_word_byte (b ∷ z)) (g.word (run_is_word b z l)))

word_form : (x : Text) → IsForm x Word → is_word x ≡ true
word_form x (g.word h) = h

mark_form : (x : Text) → IsForm x Mark → is_mark x ≡ true
mark_form x (g.mark h) = h

literal_digit : (x : Text) (v : ℕ) → IsForm x (Literal v) → begins is_digit x ≡ true
literal_digit x v (g.decimal ds suffix a s small) = by ds (decimal_digits ds a).0 where
  by : (ds : Text) → begins is_digit ds ≡ true → begins is_digit (ds ++ suffix) ≡ true
  by [] h = absurd (let no : ⊥ = cc in no)
  by (d ∷ ds) h = h
literal_digit x v (g.hexadecimal y ds suffix q a s small) = by y (among_all (begins is_digit) (codes "0x" ∷ codes "0X" ∷ []) y q refl) where
  by : (y : Text) → begins is_digit y ≡ true → begins is_digit (y ++ (ds ++ suffix)) ≡ true
  by [] h = absurd (let no : ⊥ = cc in no)
  by (d ∷ y) h = h

-- the whole text, where its front has at least a byte
word_taken : (p : Bool) (text : Text) (n : ℕ) → Begins p text Word n → IsTaken p text Word n
word_taken p text n h = by text n h (word_form (take n text) h.form) where
  by : (text : Text) (n : ℕ) → Begins p text Word n → is_word (take n text) ≡ true → IsTaken p text Word n
  by text zero h w = absurd (let no : ⊥ = cc in no)
  by [] (suc n) h w = absurd (let no : ⊥ = cc in no)
  by (b ∷ z) (suc n) h w =
      let letter = (both (is_letter b) (list_all is_word_byte (take n z)) w).0 in
      let wordy = (both (is_word_byte b) (list_all is_word_byte (b ∷ take n z)) (word_is_wordy (b ∷ take n z) w)).1 in
      let len = wordy_len p b z Word (suc n) h letter wordy in
      let fits : leb (word_len (b ∷ z)) (longest p) ≡ true = le-leb (word_len (b ∷ z)) (longest p) (subst (λ k. k ≤ longest p) len h.proper) in
      record {
        byte = b;
        more = z;
        less = n;
        split = refl;
        count = refl;
        no_line = word_no_line b (letter_word b letter);
        no_comment = word_no_comment b z (letter_word b letter);
        is = ap (λ v. cond v (literal_piece (b ∷ z)) (cond (is_word_byte b) (word_piece (longest p) (b ∷ z)) (mark_piece (b ∷ z)))) (letter_no_digit b letter)
            ∙ ap (λ v. cond v (word_piece (longest p) (b ∷ z)) (mark_piece (b ∷ z))) (letter_word b letter)
            ∙ ap (λ v. cond v (Taken Word (word_len (b ∷ z))) Nothing) fits ∙ ap (λ k. Taken Word k) (sym len);
      }

literal_taken : (p : Bool) (text : Text) (v n : ℕ) → Begins p text (Literal v) n → IsTaken p text (Literal v) n
literal_taken p text v n h = by text n h (literal_digit (take n text) v h.form) where
  by : (text : Text) (n : ℕ) → Begins p text (Literal v) n → begins is_digit (take n text) ≡ true → IsTaken p text (Literal v) n
  by text zero h d = absurd (let no : ⊥ = cc in no)
  by [] (suc n) h d = absurd (let no : ⊥ = cc in no)
  by (b ∷ z) (suc n) h d =
      let w = digit_word b d in
      let all : list_all is_word_byte (take (suc n) (b ∷ z)) ≡ true = wordy (form_bytes (take (suc n) (b ∷ z)) (Literal v) h.form) w in
      let len : word_len (b ∷ z) ≡ suc n =
      ap (prefix_len is_word_byte) (sym (take-append-drop (suc n) (b ∷ z))) ∙ prefix_len-front is_word_byte (take (suc n) (b ∷ z)) (drop (suc n) (b ∷ z)) all (apart_stops (drop (suc n) (b ∷ z)) h.proper) ∙ length-take-le (suc n) (b ∷ z) h.within in
      let value : literal (run is_word_byte (b ∷ z)) ≡ Some v = ap (λ k. literal (take k (b ∷ z))) len ∙ literal_complete (take (suc n) (b ∷ z)) v h.form in
      record {
        byte = b;
        more = z;
        less = n;
        split = refl;
        count = refl;
        no_line = word_no_line b w;
        no_comment = word_no_comment b z w;
        is = ap (λ t. cond t (literal_piece (b ∷ z)) (cond (is_word_byte b) (word_piece (longest p) (b ∷ z)) (mark_piece (b ∷ z)))) d
            ∙ ap (literal_by (word_len (b ∷ z))) value ∙ ap (λ k. Taken (Literal v) k) len;
      } where
        wordy : (is_mark (b ∷ take n z) ≡ true) ⊎ (is_wordy (b ∷ take n z) ≡ true) → is_word_byte b ≡ true → list_all is_word_byte (b ∷ take n z) ≡ true
        wordy (inl m) w = let e = plain_no_word b (shape_is_plain b (take n z) (mark_shape (b ∷ take n z) m)) in absurd (let no : ⊥ = cc in no)
        wordy (inr m) w = (both (is_word_byte b) (list_all is_word_byte (b ∷ take n z)) m).1

plain_no_line : (b : ℕ) → is_plain b ≡ true → begins_line b ≡ false
plain_no_line b h = (neither (is_word_byte b) (begins_line b) (not_true (is_word_byte b || begins_line b) h)).1

no_digit : (b : ℕ) → is_word_byte b ≡ false → is_digit b ≡ false
no_digit b h = (neither (is_letter b) (is_digit b) h).1

mark_piece_is : (p : Bool) (b : ℕ) (z : Text) → is_plain b ≡ true → token_piece p b (b ∷ z) ≡ mark_piece (b ∷ z)
mark_piece_is p b z h =
    ap (λ v. cond v (literal_piece (b ∷ z)) (cond (is_word_byte b) (word_piece (longest p) (b ∷ z)) (mark_piece (b ∷ z)))) (no_digit b (plain_no_word b h))
    ∙ ap (λ v. cond v (word_piece (longest p) (b ∷ z)) (mark_piece (b ∷ z))) (plain_no_word b h)

no_pair : (p : Bool) (b c : ℕ) (z : Text) → Begins p (b ∷ c ∷ z) Mark 1 → is_pair b c ≡ false
no_pair p b c z h = by (is_pair b c) refl where
  by : (v : Bool) → is_pair b c ≡ v → v ≡ false
  by true e = absurd (h.longest 2 Mark (omega arith) (omega arith) (g.mark (pair_mark b c e)))
  by false e = refl

marked : (p : Bool) (b : ℕ) (z : Text) (n : ℕ) → Begins p (b ∷ z) Mark (suc n) → is_plain b ≡ true → mark_piece (b ∷ z) ≡ Taken Mark (suc n) → IsTaken p (b ∷ z) Mark (suc n)
marked p b z n h plain e = record { byte = b; more = z; less = n; split = refl; count = refl; no_line = plain_no_line b plain; no_comment = h.proper; is = mark_piece_is p b z plain ∙ e }

single_is : (b : ℕ) → is_single b ≡ true → single_piece b ≡ Taken Mark 1
single_is b h = rw h refl

mark_taken : (p : Bool) (text : Text) (n : ℕ) → Begins p text Mark n → IsTaken p text Mark n
mark_taken p text n h = by text n h (mark_shape (take n text) (mark_form (take n text) h.form)) where
  by : (text : Text) (n : ℕ) → Begins p text Mark n → is_mark_shape (take n text) ≡ true → IsTaken p text Mark n
  by text zero h s = absurd (let no : ⊥ = cc in no)
  by [] (suc n) h s = absurd (let no : ⊥ = cc in no)
  by (b ∷ []) (suc zero) h s = let (plain, one) = both (is_plain b) (is_single b) s in marked p b [] 0 h plain (single_is b one)
  by (b ∷ []) (suc (suc n)) h s = absurd (omega (arith, h.within))
  by (b ∷ c ∷ z) (suc zero) h s = let (plain, one) = both (is_plain b) (is_single b) s in marked p b (c ∷ z) 0 h plain (ap (λ v. cond v (Taken Mark 2) (single_piece b)) (no_pair p b c z h) ∙ single_is b one)
  by (b ∷ c ∷ z) (suc (suc zero)) h s = let (plain, pair) = both (is_plain b) (is_pair b c) s in marked p b (c ∷ z) 1 h plain (ap (λ v. cond v (Taken Mark 2) (single_piece b)) pair)
  by (b ∷ c ∷ []) (suc (suc (suc n))) h s = absurd (omega (arith, h.within))
  by (b ∷ c ∷ d ∷ z) (suc (suc (suc n))) h s = absurd (let no : ⊥ = cc in no)

is_form_kind : TokenKind → Type 0
is_form_kind Word = Unit {0}
is_form_kind (Literal v) = Unit {0}
is_form_kind Mark = Unit {0}
is_form_kind Directive = ⊥
is_form_kind EndLine = ⊥
is_form_kind Preamble = ⊥

form_kind : (x : Text) (kind : TokenKind) → IsForm x kind → is_form_kind kind
unfolding is_form_kind
form_kind x kind (g.word h) = tt
form_kind x kind (g.decimal ds suffix a s small) = tt
form_kind x kind (g.hexadecimal y ds suffix q a s small) = tt
form_kind x kind (g.mark h) = tt

pub token_complete : (p : Bool) (text : Text) (kind : TokenKind) (n : ℕ) → Begins p text kind n → IsTaken p text kind n
unfolding is_form_kind
token_complete p text Word n h = word_taken p text n h
token_complete p text (Literal v) n h = literal_taken p text v n h
token_complete p text Mark n h = mark_taken p text n h
token_complete p text Directive n h = absurd (form_kind (take n text) Directive h.form)
token_complete p text EndLine n h = absurd (form_kind (take n text) EndLine h.form)
token_complete p text Preamble n h = absurd (form_kind (take n text) Preamble h.form)
