-- What is left at the end of a loop is nothing.
use Rattle.std.proofs.Common.{◌≡◌, ℕ, ◌≤◌, List, [], ◌++◌, drop, length, map, sym, subst, append-nil}
use Rattle.std.proofs.lemmas.List.{drop_all}
use Rattle.c_tree.specs.Plain.{Word}
use Rattle.c_tree.specs.Trees.{exprs, param}
use Rattle.c_tree.specs.declared.affine.Affine.{Affine}
use Rattle.c_tree.specs.declared.expr.Expr.{Expr}
use Rattle.c_tree.specs.declared.frame.ArrayInfo.{ArrayInfo}
use Rattle.c_tree.specs.declared.unit.Param.{Param}
use Rattle.frames.specs.Built.{AreSums, HaveSums}

pub all_sums : (names : List Word) (items es : List Expr) (k : ℕ) (sums : List Affine) → length items ≤ k → items ≡ es
    → ((rest : List Affine) → AreSums names (exprs (drop k items)) rest → AreSums names (exprs items) (sums ++ rest)) → AreSums names (exprs es) sums
all_sums names items es k sums past same whole =
    let P : List Expr → Type 0 = λ ds. AreSums names (exprs ds) [] in
    let Q : List Affine → Type 0 = λ ss. AreSums names (exprs items) ss in
    let R : List Expr → Type 0 = λ ds. AreSums names (exprs ds) sums in
    subst R same (subst Q (append-nil sums) (whole [] (subst P (sym (drop_all k items past)) tt)))

pub all_arrays : (names : List Word) (ps : List Param) (k : ℕ) (arrays : List ArrayInfo) → length ps ≤ k
    → ((rest : List ArrayInfo) → HaveSums names (map param (drop k ps)) rest → HaveSums names (map param ps) (arrays ++ rest)) → HaveSums names (map param ps) arrays
all_arrays names ps k arrays past whole =
    let P : List Param → Type 0 = λ ds. HaveSums names (map param ds) [] in
    let Q : List ArrayInfo → Type 0 = λ ss. HaveSums names (map param ps) ss in
    subst Q (append-nil arrays) (whole [] (subst P (sym (drop_all k ps past)) tt))
