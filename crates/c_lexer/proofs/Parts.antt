-- The tokens of a text are its parts in order.
use Rattle.std.proofs.Common.{◌≡◌, ℕ, suc, ◌+◌, ◌-◌, ◌≤◌, Bool, true, false, cond, codes, List, [], ◌∷◌, ◌++◌, length, take, drop, drop-drop, length-drop, length-append, append_assoc, Option, Some, None, refl, sym, ap, ◌∙◌, subst, inl, inr, arith}
use Rattle.std.specs.List.{slice_range}
use Rattle.std.proofs.Math.Seq.{take-append_seam, drop-append_seam}
use Rattle.c_tree.specs.declared.token.Token.{Token}
use Rattle.c_tree.specs.declared.token.TokenKind.{TokenKind}
use Rattle.c_tree.specs.declared.token.TokenKind.TheVariants.{Preamble}
use Rattle.c_tree.specs.Layout.{preamble}
use Rattle.c_tree.specs.Grammar.Tokens as g
use Rattle.c_tree.specs.Grammar.Tokens.{Text, AreTokens, IsForm, IsDirective, is_printed}
use Rattle.c_lexer.specs.Answers.{AreInOrder, AreBytesOf, AreParts}
use Rattle.c_lexer.proofs.Tests.{same_bytes}
use Rattle.c_lexer.proofs.Comments.{starts_split}
use Rattle.c_lexer.proofs.Meant.{step_fits}
use Rattle.c_lexer.proofs.Steps.{front_complete}

-- what is read is shorter by some bytes
record Shorter (text after : Text) : Type 0 where
  less : ℕ
  tail : drop (suc less) text ≡ after
  fits : suc less ≤ length text

shorter : (p : Bool) (l next : g.Line) (text after : Text) (o : Option TokenKind) → g.Front p l text o next after → Shorter text after
shorter p l next text after o f =
    let s = front_complete p l next text after o f in
    record { less = s.less; tail = s.tail; fits = step_fits p l next text after o s }

shorter_len : (text after : Text) (s : Shorter text after) → length after + suc s.less ≡ length text
shorter_len text after s = omega (arith, s.fits, ap length s.tail, length-drop (suc s.less) text)

-- ---- in order

earlier : (from to : ℕ) (ts : List Token) (end : ℕ) → from ≤ to → AreInOrder to ts end → AreInOrder from ts end
earlier from to [] end h o = omega arith
earlier from to (t ∷ ts) end h o = (omega (arith, o.0), o.1, o.2)

order_reads : (p : Bool) (total : ℕ) (l last : g.Line) (text rest : Text) (ts us : List Token) → g.Reads p total l text ts last rest → length text ≤ total → AreInOrder (total - length rest) us total → AreInOrder (total - length text) (ts ++ us) total
order_reads p total l last text rest ts us g.stays h o = o
order_reads p total l last text rest ts us (g.passes {between = next} {after = after} f more) h o =
    let len = shorter_len text after (shorter p l next text after None f) in
    earlier (total - length text) (total - length after) (ts ++ us) total (omega arith) (order_reads p total next last after rest ts us more (omega arith) o)
order_reads p total l last text rest _ us (g.takes {between = next} {after = after} {kind = kind} {ts = ts} f more) h o =
    let len = shorter_len text after (shorter p l next text after (Some kind) f) in
    (omega arith, omega arith, order_reads p total next last after rest ts us more (omega arith) o)

order_last : (l : g.Line) (from total : ℕ) → from ≤ total → AreInOrder from (g.last_tokens l total) total
order_last g.beginning from total h = h
order_last g.middle from total h = h
order_last g.directive from total h = (h, omega arith, omega arith)

body_len : (text : Text) (v : Bool) → length (cond v (drop (length preamble) text) text) ≤ length text
body_len text true = omega (arith, length-drop (length preamble) text)
body_len text false = omega arith

preamble_len : (text : Text) → is_printed text ≡ true → length preamble + length (drop (length preamble) text) ≡ length text
preamble_len text h = sym (ap length (starts_split preamble text h) ∙ length-append preamble (drop (length preamble) text))

order_first : (text : Text) (v : Bool) (ts : List Token) → is_printed text ≡ v → AreInOrder (length text - length (cond v (drop (length preamble) text) text)) ts (length text) → AreInOrder 0 (cond v (record { kind = Preamble; start = 0; end = length preamble } ∷ []) [] ++ ts) (length text)
order_first text true ts e o = (omega arith, omega arith, earlier (length preamble) (length text - length (drop (length preamble) text)) ts (length text) (omega (arith, preamble_len text e)) o)
order_first text false ts e o = earlier 0 (length text - length text) ts (length text) (omega arith) o

pub in_order : (text : Text) (ts : List Token) → AreTokens text ts → AreInOrder 0 ts (length text)
in_order text ts a =
    let v = is_printed text in
    let total = length text in
    subst (λ us. AreInOrder 0 us total) (sym a.all)
    (order_first text v (a.inner ++ g.last_tokens a.last total) refl
    (order_reads v total g.beginning a.last (cond v (drop (length preamble) text) text) [] a.inner (g.last_tokens a.last total) a.reads (body_len text v) (order_last a.last (total - length {A = ℕ} []) total (omega arith))))

-- ---- parts

-- a front that leaves the same has the same length
same_len : (text : Text) (n m : ℕ) → n ≤ length text → m ≤ length text → drop n text ≡ drop m text → n ≡ m
same_len text n m h k e = omega (arith, ap length e, length-drop n text, length-drop m text)

front_is : (text x after : Text) (n : ℕ) → text ≡ x ++ after → n ≤ length text → drop n text ≡ after → take n text ≡ x
front_is text x after n split h e =
    let fits : length x ≤ length text = omega (arith, ap length split, length-append x after) in
    let same = same_len text n (length x) h fits (e ∙ sym (ap (drop (length x)) split ∙ drop-append_seam x after)) in
    ap (λ k. take k text) same ∙ ap (take (length x)) split ∙ take-append_seam x after

-- what stands before a rest
abbrev Before : Text → Text → Type 0
Before text rest = (front : Text) × (text ≡ front ++ rest)

before_comment : (text rest : Text) → g.IsComment text rest → Before text rest
before_comment text rest (g.to_line_end body a e) = (codes "//" ++ body, refl)
before_comment text rest (g.to_close body h) = (codes "/*" ++ (body ++ codes "*/"), ap (λ y. codes "/*" ++ y) (sym (append_assoc body (codes "*/") rest)))

before_gap : (text rest : Text) → g.IsGap text rest → Before text rest
before_gap text rest g.no_gap = ([], refl)
before_gap (b ∷ z) rest (g.blank_gap i more) = let (front, e) = before_gap z rest more in (b ∷ front, ap (λ y. b ∷ y) e)
before_gap text rest (g.comment_gap {after = after} c more) =
    let (first, e) = before_comment text after c in
    let (second, f) = before_gap after rest more in
    (first ++ second, e ∙ ap (λ y. first ++ y) f ∙ sym (append_assoc first second rest))

before_balance : (z rest : Text) → IsDirective z rest → (between : Text) × (z ≡ (between ++ codes "balance") ++ rest)
before_balance z rest d =
    let (first, e) = before_gap z d.pragma.before d.pragma.first_gap in
    let (second, f) = before_gap d.pragma.after d.after d.pragma.second_gap in
    let whole : z ≡ first ++ (codes "pragma" ++ (second ++ (codes "balance" ++ rest))) = e ∙ ap (λ y. first ++ y) (d.pragma.pragma.bytes ∙ ap (λ y. codes "pragma" ++ y) (f ∙ ap (λ y. second ++ y) d.balance.bytes)) in
    (first ++ (codes "pragma" ++ second), whole ∙ simp append_assoc)

form_part : (kind : TokenKind) (x : Text) → IsForm x kind → AreBytesOf kind x
form_part kind x (g.word h) = g.word h
form_part kind x (g.decimal ds suffix a s small) = g.decimal ds suffix a s small
form_part kind x (g.hexadecimal y ds suffix q a s small) = g.hexadecimal y ds suffix q a s small
form_part kind x (g.mark h) = g.mark h

bytes_of : (p : Bool) (l next : g.Line) (text after : Text) (kind : TokenKind) → g.Front p l text (Some kind) next after → (n : ℕ) → n ≤ length text → drop n text ≡ after → AreBytesOf kind (take n text)
bytes_of p l next (b ∷ z) after kind g.end_line n h e = inl (front_is (10 ∷ z) (codes "\n") z n refl h e)
bytes_of p l next (b ∷ z) after kind (g.begin_directive d) n h e =
    let (between, split) = before_balance z after d in
    (between, front_is (35 ∷ z) (codes "#" ++ (between ++ codes "balance")) after n (ap (λ y. 35 ∷ y) split) h e)
bytes_of p l next text after kind (g.token m b) n h e =
    subst (λ k. AreBytesOf kind (take k text)) (sym (same_len text n m h b.within e)) (form_part kind (take m text) b.form)

part_of : (whole text after : Text) (n : ℕ) → length text ≤ length whole → drop (length whole - length text) whole ≡ text → suc n ≤ length text → drop (suc n) text ≡ after → slice_range whole (length whole - length text) (length whole - length after) ≡ take (suc n) text
part_of whole text after n h at fits e =
    let count : (length whole - length after) - (length whole - length text) ≡ suc n = omega (arith, ap length e, length-drop (suc n) text) in
    ap (λ k. take k (drop (length whole - length text) whole)) count ∙ ap (take (suc n)) at

at_after : (whole text after : Text) → length text ≤ length whole → drop (length whole - length text) whole ≡ text → Shorter text after → drop (length whole - length after) whole ≡ after
at_after whole text after h at s =
    let n = length whole - length text in
    let count : n + suc s.less ≡ length whole - length after = omega (arith, shorter_len text after s) in
    ap (λ k. drop k whole) (sym count) ∙ sym (drop-drop (suc s.less) n whole) ∙ ap (drop (suc s.less)) at ∙ s.tail

parts_reads : (whole : Text) (p : Bool) (l last : g.Line) (text rest : Text) (ts us : List Token) → g.Reads p (length whole) l text ts last rest → length text ≤ length whole → drop (length whole - length text) whole ≡ text → AreParts whole us → AreParts whole (ts ++ us)
parts_reads whole p l last text rest ts us g.stays h at o = o
parts_reads whole p l last text rest ts us (g.passes {between = next} {after = after} f more) h at o =
    let s = shorter p l next text after None f in
    parts_reads whole p next last after rest ts us more (omega (arith, shorter_len text after s)) (at_after whole text after h at s) o
parts_reads whole p l last text rest _ us (g.takes {between = next} {after = after} {kind = kind} {ts = ts} f more) h at o =
    let s = shorter p l next text after (Some kind) f in (
      subst (λ x. AreBytesOf kind x) (sym (part_of whole text after s.less h at s.fits s.tail)) (bytes_of p l next text after kind f (suc s.less) s.fits s.tail),
      parts_reads whole p next last after rest ts us more (omega (arith, shorter_len text after s)) (at_after whole text after h at s) o,
    )

parts_last : (whole : Text) (l : g.Line) → AreParts whole (g.last_tokens l (length whole))
parts_last whole g.beginning = tt
parts_last whole g.middle = tt
parts_last whole g.directive =
    let none : length whole - length whole ≡ 0 = omega arith in
    (inr (ap (λ k. take k (drop (length whole) whole)) none), tt)

parts_first : (text : Text) (v : Bool) (ts : List Token) → is_printed text ≡ v → AreParts text ts → AreParts text (cond v (record { kind = Preamble; start = 0; end = length preamble } ∷ []) [] ++ ts)
parts_first text true ts e o =
    let count : length preamble - 0 ≡ length preamble = omega arith in
    (ap (λ k. take k text) count ∙ sym (same_bytes preamble (take (length preamble) text) e), o)
parts_first text false ts e o = o

at_body : (text : Text) (v : Bool) → is_printed text ≡ v → drop (length text - length (cond v (drop (length preamble) text) text)) text ≡ cond v (drop (length preamble) text) text
at_body text true e = let count : length text - length (drop (length preamble) text) ≡ length preamble = omega (arith, preamble_len text e) in ap (λ k. drop k text) count
at_body text false e = let count : length text - length text ≡ 0 = omega arith in ap (λ k. drop k text) count

pub parts : (text : Text) (ts : List Token) → AreTokens text ts → AreParts text ts
parts text ts a =
    let v = is_printed text in
    subst (λ us. AreParts text us) (sym a.all)
    (parts_first text v (a.inner ++ g.last_tokens a.last (length text)) refl
    (parts_reads text v g.beginning a.last (cond v (drop (length preamble) text) text) [] a.inner (g.last_tokens a.last (length text)) a.reads (body_len text v) (at_body text v refl) (parts_last text a.last)))
