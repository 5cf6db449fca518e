-- Subscripts without index cells: they read none, and their coordinates are the same over every memory.
use Rattle.std.proofs.Common.{◌≡◌, ℕ, false, List, [], ◌∷◌, refl, ap, ◌∙◌, pos}
use Rattle.c_tree.specs.Plain.{Word, PlainExprs, no_exprs, more_exprs}
use Rattle.c_tree.specs.Values.{Vars, signed}
use Rattle.c_tree.specs.Arrays.{Array, Memory}
use Rattle.c_tree.specs.Instances.{word_at}
use Rattle.instrumentation.proofs.Subscripts.{not_by_cell}
use Rattle.instrumentation_laws.specs.RegularSources.{AreRegular}
use Rattle.instrumentation_laws.specs.AccessList.{signed_all, cell_access}
use Rattle.instrumentation_laws.specs.IndexedList.{coordinates_at, index_reads}
use Rattle.instrumentation_laws.proofs.IndexCells.{no_cell}

pub no_index_reads : (number : Word → ℕ) (at : PlainExprs) (vs : Vars) → AreRegular at vs → index_reads number at vs ≡ []
no_index_reads number no_exprs vs h = refl
no_index_reads number (more_exprs e es) vs h =
    not_by_cell e (λ p at. cell_access number p at vs false ∷ index_reads number es vs) (index_reads number es vs) (no_cell e vs h.0) ∙ no_index_reads number es vs h.1

pub signed_coordinates : (arrays : List Array) (m : Memory) (at : PlainExprs) (vs : Vars) → AreRegular at vs → coordinates_at arrays m at vs ≡ signed_all at vs
signed_coordinates arrays m no_exprs vs h = refl
signed_coordinates arrays m (more_exprs e es) vs h =
    ap (λ c. c ∷ coordinates_at arrays m es vs) (not_by_cell e (λ p at. pos (word_at arrays m p (signed_all at vs))) (signed e vs) (no_cell e vs h.0)) ∙ ap (λ cs. signed e vs ∷ cs) (signed_coordinates arrays m es vs h.1)
