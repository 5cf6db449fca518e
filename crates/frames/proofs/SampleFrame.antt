-- The frame of the sample.
use Rattle.std.proofs.Common.{◌≡◌, ℕ, zero, suc, true, [], ◌∷◌, pos, negsuc, Some, slice_get, refl, subst}
use Rattle.std.proofs.lemmas.Option.{same_Some}
use Rattle.c_tree.specs.Names.{ints_in}
use Rattle.c_tree.specs.Plain.{Word, PlainExpr, lit, var, bin, no_exprs, more_exprs}
use Rattle.c_tree.specs.declared.affine.Affine.{Affine}
use Rattle.c_tree.specs.declared.expr.BinOp.TheVariants.{Add}
use Rattle.acceptance.specs.Affine.{coefficient, constant as constant_of}
use Rattle.affine_sets.specs.Expressions.{StandsFor}
use Rattle.affine_sets.specs.Sums.{coefficient_at, is_ordered, has_variables_to}
use Rattle.data_file.specs.Conditions.{IsFrame}
use Rattle.data_file.specs.Frames.{IsFrameOf}
use Rattle.frames.specs.Built.{AreSums, HaveSums}
use Rattle.frames.specs.Heads.{HasGoodHead}
use Rattle.frames.specs.Samples.{rows, columns, longer, sample, sample_arrays, sample_frame, named}
use Rattle.frames.proofs.FrameLaws.{is_frame_of, is_frame}

pub sample_is_good : HasGoodHead sample
sample_is_good = record { names = refl; ranges = refl; affine = refl; small = refl }

-- of two names, each has its coefficient
each : (e : PlainExpr) (a : Affine) → coefficient_at 1 a.terms ≡ coefficient rows e → coefficient_at 2 a.terms ≡ coefficient columns e
    → (i : ℕ) (x : Word) → slice_get (rows ∷ columns ∷ []) i ≡ Some x → coefficient_at (suc i) a.terms ≡ coefficient x e
each e a f g zero x h = let P : Word → Type 0 = λ w. coefficient_at 1 a.terms ≡ coefficient w e in subst P (same_Some rows x h) f
each e a f g (suc zero) x h = let P : Word → Type 0 = λ w. coefficient_at 2 a.terms ≡ coefficient w e in subst P (same_Some columns x h) g
each e a f g (suc (suc i)) x h = absurd (let no : ⊥ = cc in no)

stands : (e : PlainExpr) (a : Affine) → a.constant ≡ constant_of e → coefficient_at 1 a.terms ≡ coefficient rows e → coefficient_at 2 a.terms ≡ coefficient columns e
    → is_ordered a.terms ≡ true → has_variables_to 2 a.terms ≡ true → StandsFor (rows ∷ columns ∷ []) e a
stands e a k f g o v = record { constant = k; coefficients = each e a f g; ordered = o; variables = v }

first_sums : AreSums (rows ∷ columns ∷ []) (more_exprs (var rows) no_exprs) (record { constant = pos 0; terms = (1, pos 1) ∷ [] } ∷ [])
first_sums = (stands (var rows) _ refl refl refl refl refl, tt)

second_sums : AreSums (rows ∷ columns ∷ []) (more_exprs longer (more_exprs (bin Add (var columns) (lit 1)) no_exprs))
    (record { constant = negsuc 0; terms = (1, pos 2) ∷ (2, pos 1) ∷ [] } ∷ record { constant = pos 1; terms = (2, pos 1) ∷ [] } ∷ [])
second_sums = (stands longer _ refl refl refl refl refl, (stands (bin Add (var columns) (lit 1)) _ refl refl refl refl refl, tt))

sample_sums : HaveSums (ints_in sample.params) sample.params sample_arrays
sample_sums = (refl, refl, first_sums, (refl, refl, second_sums, tt))

pub sample_frame_of : IsFrameOf sample sample_frame
sample_frame_of = is_frame_of sample sample_is_good (named rows ∷ named columns ∷ []) sample_arrays refl sample_sums

pub sample_is_frame : IsFrame sample_frame
sample_is_frame = is_frame sample sample_is_good (named rows ∷ named columns ∷ []) sample_arrays refl sample_sums
