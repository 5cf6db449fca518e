-- The cells of a row are words.
use Rattle.std.proofs.Common.{◌≡◌, ℕ, suc, Bool, true, false, List, [], ◌∷◌, ◌==◌, if◌then◌else◌, Some, slice_get, refl, sym, ap, ◌∙◌, subst, inl, inr}
use Rattle.std.specs.List.{AllByRecursion}
use Rattle.std.specs.Str.Lines.{lines}
use Rattle.c_tree.specs.declared.frame.Frame.{Frame}
use Rattle.c_tree.specs.declared.frame.Inputs.{Inputs}
use Rattle.data_file.specs.declared.row.Row.{Row}
use Rattle.data_file.specs.declared.row.Row.TheVariants.{Cells}
use Rattle.data_file.specs.Frames.{AreWords}
use Rattle.data_file.specs.Meaning.{Spells, IsRow, AreRows, rows_of, Means}

spelled : (ns text : List ℕ) → Spells ns text → AreWords ns
spelled [] text h = absurd h
spelled (n ∷ []) text h = (h.0, tt)
spelled (n ∷ m ∷ ns) text h = (h.0, spelled (m ∷ ns) h.2 h.5)

same_row : (r : Row) (ns : List ℕ) (more : List Row) → r ∷ more ≡ Cells ns ∷ [] → r ≡ Cells ns
same_row r ns more same = cc

row_words : (f : Frame) (line : List ℕ) (k : ℕ) (ns : List ℕ) → IsRow f line k (Cells ns) → AreWords ns
row_words f line k ns (a, j, number, at, (text, same, spells)) = spelled ns text spells

rows_words : (f : Frame) (k : ℕ) (ls : List (List ℕ)) (rows : List (ℕ × Row)) (ns : List ℕ) → AreRows f ls rows → rows_of k rows ≡ Cells ns ∷ [] → AreWords ns
rows_words f k [] rows ns none one = absurd (let same : rows_of k [] ≡ Cells ns ∷ [] = ap (rows_of k) (sym none) ∙ one in let no : ⊥ = cc in no)
rows_words f k (line ∷ ls) rows ns (inl (blank, rest)) one = rows_words f k ls rows ns rest one
rows_words f k (line ∷ ls) rows ns (inr (j, r, others, parts, row, rest)) one =
    go (j == k) (sym (ap (rows_of k) parts) ∙ one) (rows_words f k ls others ns rest)
  where
    go : (b : Bool) → (if b then r ∷ rows_of k others else rows_of k others) ≡ Cells ns ∷ [] → (rows_of k others ≡ Cells ns ∷ [] → AreWords ns) → AreWords ns
    go true same later = row_words f line j ns (subst (λ (s : Row). IsRow f line j s) (same_row r ns (rows_of k others) same) row)
    go false same later = later same

each_words : (cells : List (List ℕ)) → ((k : ℕ) (ns : List ℕ) → slice_get cells k ≡ Some ns → AreWords ns) → AllByRecursion AreWords cells
each_words [] h = tt
each_words (ns ∷ cells) h = (h 0 ns refl, each_words cells (λ k c at. h (suc k) c at))

pub meant_words : (f : Frame) (text : List ℕ) (i : Inputs) → Means f text i → AllByRecursion AreWords i.cells
meant_words f text i m = each_words i.cells (λ k ns at. rows_words f _ (lines text) m.rows ns m.spelled (m.cells k ns at))
