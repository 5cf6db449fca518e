-- Which comments are read.
use Rattle.std.proofs.Common.{◌≡◌, ℕ, zero, suc, ◌+◌, ◌≤◌, Bool, true, false, not, eqb, codes, [], ◌∷◌, ◌++◌, length, take, drop, length-append, Option, Some, None, option_map, refl, sym, ap, ◌∙◌, subst, ◌⊎◌, inl, inr, arith}
use Rattle.std.proofs.lemmas.Option.{same_Some}
use Rattle.std.proofs.lemmas.List.{take-append-drop}
use Rattle.std.proofs.lemmas.List.Sums.{prefix_len-le-length}
use Rattle.std.proofs.Math.Seq.{take-append_seam, drop-append_seam, drop-append-add}
use Rattle.std.specs.List.{prefix_len, starts_with}
use Rattle.c_tree.specs.Grammar.Tokens as g
use Rattle.c_tree.specs.Grammar.Tokens.{Text, is_in_line, is_line_end, begins_comment, NotClosed, IsComment, IsOpen}
use Rattle.text_pieces.specs.Fronts.{run, behind}
use Rattle.text_pieces.proofs.Runs.{begins, run-behind, run_passes, behind_stops, prefix_len-front}
use Rattle.c_lexer.specs.Reading.{close_len, comment_len}
use Rattle.c_lexer.proofs.Tests.{either, choose, same_bytes, bytes_same}

abbrev pub starts : Text → Text → Bool
starts text w = starts_with eqb text w

-- what stands behind the bytes that a text begins with
pub starts_split : (w text : Text) → starts text w ≡ true → text ≡ w ++ drop (length w) text
starts_split w text h =
    let e : w ≡ take (length w) text = same_bytes w (take (length w) text) h in
    sym (take-append-drop (length w) text) ∙ ap (λ y. y ++ drop (length w) text) (sym e)

pub starts_self : (w rest : Text) → starts (w ++ rest) w ≡ true
starts_self w rest = bytes_same w (take (length w) (w ++ rest)) (sym (take-append_seam w rest))

mapped : (k : ℕ) (o : Option ℕ) (n : ℕ) → option_map (λ m. m + k) o ≡ Some n → (m : ℕ) × (o ≡ Some m) × (m + k ≡ n)
mapped k None n h = absurd (let no : ⊥ = cc in no)
mapped k (Some m) n h = (m, refl, same_Some (m + k) n h)

mapped_none : (k : ℕ) (o : Option ℕ) → option_map (λ m. m + k) o ≡ None → o ≡ None
mapped_none k None h = refl
mapped_none k (Some m) h = absurd (let no : ⊥ = cc in no)

mapped_suc : (o : Option ℕ) (n : ℕ) → option_map (λ m. suc m) o ≡ Some n → (m : ℕ) × (o ≡ Some m) × (suc m ≡ n)
mapped_suc None n h = absurd (let no : ⊥ = cc in no)
mapped_suc (Some m) n h = (m, refl, same_Some (suc m) n h)

mapped_suc_none : (o : Option ℕ) → option_map (λ m. suc m) o ≡ None → o ≡ None
mapped_suc_none None h = refl
mapped_suc_none (Some m) h = absurd (let no : ⊥ = cc in no)

-- ---- up to the first `*/`

abbrev pub closes : Text → Bool
closes z = starts z (codes "*/")

more_not_closed : (b : ℕ) (z : Text) (n : ℕ) → closes (b ∷ z) ≡ false → NotClosed n z → NotClosed (suc n) (b ∷ z)
more_not_closed b z n c h zero lt = c
more_not_closed b z n c h (suc k) lt = h k (omega arith)

-- the first `*/` ends after n bytes
pub record Closed (z : Text) (n : ℕ) : Type 0 where
  pub body : Text
  pub split : z ≡ body ++ (codes "*/" ++ drop n z)
  pub count : n ≡ length body + 2
  pub first : NotClosed (length body) z

close_sound : (z : Text) (n : ℕ) → close_len z ≡ Some n → Closed z n
close_sound [] n h = absurd (let no : ⊥ = cc in no)
close_sound (b ∷ z) n h = choose (λ o. o ≡ Some n → Closed (b ∷ z) n) (closes (b ∷ z)) (Some 2) (option_map (λ m. suc m) (close_len z)) here (λ c e. there c (mapped_suc (close_len z) n e) (λ m i. close_sound z m i)) h where
  here : closes (b ∷ z) ≡ true → Some 2 ≡ Some n → Closed (b ∷ z) n
  here c e = subst (λ k. Closed (b ∷ z) k) (same_Some 2 n e) (record { body = []; split = starts_split (codes "*/") (b ∷ z) c; count = refl; first = λ k lt. absurd (omega arith) })

  there : closes (b ∷ z) ≡ false → (m : ℕ) × (close_len z ≡ Some m) × (suc m ≡ n) → ((m : ℕ) → close_len z ≡ Some m → Closed z m) → Closed (b ∷ z) n
  there c (m, i, e) go =
      let inner = go m i in
      subst (λ k. Closed (b ∷ z) k) e (record { body = b ∷ inner.body; split = ap (λ y. b ∷ y) inner.split; count = omega (arith, inner.count); first = more_not_closed b z (length inner.body) c inner.first })

close_none : (z : Text) → close_len z ≡ None → NotClosed (length z) z
close_none [] h = λ k lt. absurd (omega arith)
close_none (b ∷ z) h = choose (λ o. o ≡ None → NotClosed (length (b ∷ z)) (b ∷ z)) (closes (b ∷ z)) (Some 2) (option_map (λ m. suc m) (close_len z)) (λ c e. absurd (let no : ⊥ = cc in no)) (λ c e. more_not_closed b z (length z) c (close_none z (mapped_suc_none (close_len z) e))) h

less_not_closed : (b : ℕ) (z : Text) (n : ℕ) → NotClosed (suc n) (b ∷ z) → NotClosed n z
less_not_closed b z n h = λ k lt. h (suc k) (omega arith)

close_complete : (body rest : Text) → NotClosed (length body) (body ++ (codes "*/" ++ rest)) → close_len (body ++ (codes "*/" ++ rest)) ≡ Some (length body + 2)
close_complete [] rest h = refl
close_complete (b ∷ body) rest h =
    let c : closes (b ∷ (body ++ (codes "*/" ++ rest))) ≡ false = h 0 (omega arith) in
    let more : suc (length body + 2) ≡ length (b ∷ body) + 2 = omega arith in
    rw c (ap (option_map (λ m. suc m)) (close_complete body rest (less_not_closed b (body ++ (codes "*/" ++ rest)) (length body) h)) ∙ ap (λ m. Some m) more)

close_open : (z : Text) → NotClosed (length z) z → close_len z ≡ None
close_open [] h = refl
close_open (b ∷ z) h =
    let c : closes (b ∷ z) ≡ false = h 0 (omega arith) in
    rw c (ap (option_map (λ m. suc m)) (close_open z (less_not_closed b z (length z) h)))

-- ---- comments

-- a comment of n bytes
pub record Commented (text : Text) (n : ℕ) : Type 0 where
  pub is : IsComment text (drop n text)
  pub some : 1 ≤ n
  pub fits : n ≤ length text

line_ends : (rest : Text) → begins is_in_line rest ≡ false → is_line_end rest ≡ true
line_ends [] h = refl
line_ends (b ∷ z) h = by (eqb b 10) h where
  by : (v : Bool) → not v ≡ false → v ≡ true
  by true e = refl
  by false e = absurd (let no : ⊥ = cc in no)

pub line_stops : (rest : Text) → is_line_end rest ≡ true → begins is_in_line rest ≡ false
line_stops [] h = refl
line_stops (b ∷ z) h = rw h refl

line_comment : (y : Text) → Commented (47 ∷ 47 ∷ y) (prefix_len is_in_line (47 ∷ 47 ∷ y))
line_comment y =
    let count : suc (suc (prefix_len is_in_line y)) ≡ prefix_len is_in_line (47 ∷ 47 ∷ y) = omega arith in
    let whole : IsComment (47 ∷ 47 ∷ (run is_in_line y ++ behind is_in_line y)) (behind is_in_line y) = g.to_line_end (run is_in_line y) (run_passes is_in_line y) (line_ends (behind is_in_line y) (behind_stops is_in_line y)) in
    let here : IsComment (47 ∷ 47 ∷ y) (behind is_in_line y) = subst (λ z. IsComment (47 ∷ 47 ∷ z) (behind is_in_line y)) (sym (run-behind is_in_line y)) whole in
    record { is = subst (λ k. IsComment (47 ∷ 47 ∷ y) (drop k (47 ∷ 47 ∷ y))) count here; some = omega arith; fits = prefix_len-le-length is_in_line (47 ∷ 47 ∷ y) }

block_comment : (y : Text) (m : ℕ) → close_len y ≡ Some m → Commented (47 ∷ 42 ∷ y) (m + 2)
block_comment y m h =
    let c = close_sound y m h in
    let count : suc (suc m) ≡ m + 2 = omega arith in
    let whole : IsComment (47 ∷ 42 ∷ (c.body ++ (codes "*/" ++ drop m y))) (drop m y) = g.to_close c.body (subst (λ z. NotClosed (length c.body) z) c.split c.first) in
    let here : IsComment (47 ∷ 42 ∷ y) (drop m y) = subst (λ z. IsComment (47 ∷ 42 ∷ z) (drop m y)) (sym c.split) whole in
    let long : length y ≡ length c.body + suc (suc (length (drop m y))) = ap length c.split ∙ length-append c.body (codes "*/" ++ drop m y) in
    record { is = subst (λ k. IsComment (47 ∷ 42 ∷ y) (drop k (47 ∷ 42 ∷ y))) count here; some = omega arith; fits = omega (arith, c.count, long) }

pub comment_sound : (text : Text) (n : ℕ) → begins_comment text ≡ true → comment_len text ≡ Some n → Commented text n
comment_sound text n b h = choose (λ o. o ≡ Some n → Commented text n) (starts text (codes "//")) (Some (prefix_len is_in_line text)) (option_map (λ m. m + 2) (close_len (drop 2 text)))
    (λ c e.
    let split = starts_split (codes "//") text c in
    subst (λ k. Commented text k) (same_Some (prefix_len is_in_line text) n e) (subst (λ z. Commented z (prefix_len is_in_line z)) (sym split) (line_comment (drop 2 text))))
    (λ c e.
    let (m, i, same) = mapped 2 (close_len (drop 2 text)) n e in
    let split = starts_split (codes "/*") text (block c (either (starts text (codes "//")) (starts text (codes "/*")) b)) in
    subst (λ k. Commented text k) same (subst (λ z. Commented z (m + 2)) (sym split) (block_comment (drop 2 text) m i)))
    h where
      block : starts text (codes "//") ≡ false → (starts text (codes "//") ≡ true) ⊎ (starts text (codes "/*") ≡ true) → starts text (codes "/*") ≡ true
      block c (inl e) = absurd (let no : ⊥ = cc in no)
      block c (inr e) = e

pub comment_none : (text : Text) → begins_comment text ≡ true → comment_len text ≡ None → IsOpen text
comment_none text b h = choose (λ o. o ≡ None → IsOpen text) (starts text (codes "//")) (Some (prefix_len is_in_line text)) (option_map (λ m. m + 2) (close_len (drop 2 text)))
    (λ c e. absurd (let no : ⊥ = cc in no))
    (λ c e.
    let split = starts_split (codes "/*") text (block c (either (starts text (codes "//")) (starts text (codes "/*")) b)) in
    subst (λ z. IsOpen z) (sym split) (g.never_closed (drop 2 text) (close_none (drop 2 text) (mapped_none 2 (close_len (drop 2 text)) e))))
    h where
      block : starts text (codes "//") ≡ false → (starts text (codes "//") ≡ true) ⊎ (starts text (codes "/*") ≡ true) → starts text (codes "/*") ≡ true
      block c (inl e) = absurd (let no : ⊥ = cc in no)
      block c (inr e) = e

-- the comment is read
pub record IsCommented (text rest : Text) : Type 0 where
  pub less : ℕ
  pub begin : begins_comment text ≡ true
  pub is : comment_len text ≡ Some (suc less)
  pub tail : drop (suc less) text ≡ rest

pub comment_complete : (text rest : Text) → IsComment text rest → IsCommented text rest
comment_complete text rest (g.to_line_end body a e) =
    let count : prefix_len is_in_line (47 ∷ 47 ∷ (body ++ rest)) ≡ suc (suc (length body)) = omega (arith, prefix_len-front is_in_line body rest a (line_stops rest e)) in
    record { less = suc (length body); begin = refl; is = ap (λ n. Some n) count; tail = drop-append_seam body rest }
comment_complete text rest (g.to_close body h) =
    let count : length body + 2 + 2 ≡ suc (suc (length body + 2)) = omega arith in
    record { less = suc (length body + 2); begin = refl; is = ap (option_map (λ n. n + 2)) (close_complete body rest h) ∙ ap (λ n. Some n) count; tail = drop-append-add body (codes "*/" ++ rest) 2 }

pub open_complete : (text : Text) → IsOpen text → (begins_comment text ≡ true) × (comment_len text ≡ None)
open_complete text (g.never_closed body h) = (refl, ap (option_map (λ n. n + 2)) (close_open body h))
