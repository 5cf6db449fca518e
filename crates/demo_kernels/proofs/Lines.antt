-- Lines of a data text, written piece by piece.
use Rattle.std.proofs.Common.{◌≡◌, ◌<◌, ◌≤◌, ◌+◌, ◌-◌, ℕ, suc, List, [], ◌∷◌, ◌++◌, decimal, flat_map, Option, sym, ap, subst, ◌∙◌, append_assoc, arith}
use Rattle.std.proofs.lemmas.List.{append-nil}
use Rattle.data_file.specs.Texts.{array_line, cell_text}
use Rattle.text_writer.specs.Written.{Adds, fixed, left_to_add}
use Rattle.text_writer.specs.declared.writer.Writer.{Writer}
use Rattle.text_writer.proofs.Writes.{same_adds, then_bytes}
use Rattle.demo_kernels.specs.Generator.{step, after, cell_of, drawn}
use Rattle.demo_kernels.proofs.Drawn.{drawn_more, drawn_none, after_more, after_none}

-- one cell more, of the cells that are left
left : (limit : Option ℕ) (count i x : ℕ) → i < count
    → flat_map cell_text (drawn limit (count - i) x) ≡ cell_text (cell_of limit (step x)) ++ flat_map cell_text (drawn limit (count - (i + 1)) (step x))
left limit count i x below =
    let more : count - i ≡ suc (count - (i + 1)) = omega (arith, below) in
    ap (λ k. flat_map cell_text (drawn limit k x)) more ∙ ap (flat_map cell_text) (drawn_more limit (count - (i + 1)) x)

after_left : (count i x : ℕ) → i < count → after (count - i) x ≡ after (count - (i + 1)) (step x)
after_left count i x below =
    let more : count - i ≡ suc (count - (i + 1)) = omega (arith, below) in
    ap (λ k. after k x) more ∙ after_more (count - (i + 1)) x

-- the same of the number that was drawn, and what it is
pub later_number : (count i x y : ℕ) → i < count → y ≡ step x → after (count - i) x ≡ after (count - (i + 1)) y
later_number count i x y below is = after_left count i x below ∙ ap (after (count - (i + 1))) (sym is)

pub cell_more : (limit : Option ℕ) (count i x y n : ℕ) (all : List ℕ) (old out middle next : Writer) → i < count → y ≡ step x → n ≡ cell_of limit y
    → left_to_add old out (fixed all) (fixed (flat_map cell_text (drawn limit (count - i) x))) → Adds out middle (fixed (32 ∷ [])) → Adds middle next (fixed (decimal n))
    → left_to_add old next (fixed all) (fixed (flat_map cell_text (drawn limit (count - (i + 1)) y)))
cell_more limit count i x y n all old out middle next below is cell so_far blank digits h =
    let piece = cell_text (cell_of limit (step x)) in
    let later = flat_map cell_text (drawn limit (count - (i + 1)) (step x)) in
    let same : cell_text n ≡ piece = ap cell_text (cell ∙ ap (cell_of limit) is) in
    let adds : Adds out next (fixed piece) = subst (λ t. Adds out next (fixed t)) same (then_bytes out middle next (32 ∷ []) (decimal n) blank digits) in
    let second = adds h in
    let first = so_far second.0 in (
      first.0,
      λ rest. ap (λ z. next.bytes.items ++ (flat_map cell_text (drawn limit (count - (i + 1)) z) ++ rest)) is
          ∙ second.1 (later ++ rest)
          ∙ ap (λ t. out.bytes.items ++ t) (sym (append_assoc piece later rest) ∙ ap (λ t. t ++ rest) (sym (left limit count i x below)))
          ∙ first.1 rest,
    )

-- ---- at the end

none_left : (count i : ℕ) → count ≤ i → count - i ≡ 0
none_left count i none = omega (arith, none)

pub all_put : (limit : Option ℕ) (count i x : ℕ) (all : List ℕ) (old out : Writer) → count ≤ i
    → left_to_add old out (fixed all) (fixed (flat_map cell_text (drawn limit (count - i) x))) → Adds old out (fixed all)
all_put limit count i x all old out none h =
    let nothing : flat_map cell_text (drawn limit (count - i) x) ≡ [] =
    ap (λ k. flat_map cell_text (drawn limit k x)) (none_left count i none) ∙ ap (flat_map cell_text) (drawn_none limit x) in
    subst (λ t. left_to_add old out (fixed all) (fixed t)) nothing h

pub last_put : (count i x : ℕ) → count ≤ i → after (count - i) x ≡ x
last_put count i x none = ap (λ k. after k x) (none_left count i none) ∙ after_none x

-- bytes that are others' copy
pub spelled : (a b : Writer) (x y : List ℕ) → x ≡ y → Adds a b (fixed x) → Adds a b (fixed y)
spelled a b x y same h = subst (λ t. Adds a b (fixed t)) same h

-- the last piece of a list of pieces
pub last : (a b : Writer) (x : List ℕ) → Adds a b (fixed x) → Adds a b (fixed (x ++ []))
last a b x h = same_adds a b (fixed x) (fixed (x ++ [])) h (λ rest. ap (λ t. t ++ rest) (sym (append-nil x)))

-- a row that is drawn from the same number
pub moved : (name : List ℕ) (limit : Option ℕ) (count x y : ℕ) (a b : Writer) → x ≡ y
    → Adds a b (fixed (array_line name (drawn limit count x))) → Adds a b (fixed (array_line name (drawn limit count y)))
moved name limit count x y a b same h = subst (λ z. Adds a b (fixed (array_line name (drawn limit count z)))) same h
