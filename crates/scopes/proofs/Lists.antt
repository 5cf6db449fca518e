-- Lists of names and of extents.
use Rattle.std.proofs.Common.{◌≡◌, refl, ap, ◌∙◌, List, [], ◌∷◌, ◌++◌, map, length, suc, Bor}
use Rattle.c_tree.specs.Plain.{Word, PlainExpr}
use Rattle.c_tree.specs.Trees.{expr, exprs_of}
use Rattle.c_tree.specs.declared.expr.Expr.{Expr}
use Rattle.c_tree.specs.declared.name.Name.{Name}
use Rattle.acceptance.specs.Head.{list_of}
use Rattle.scopes.specs.Intervals.{reversed}

extents_counted : (es : List PlainExpr) → length (list_of (exprs_of es)) ≡ length es
extents_counted [] = refl
extents_counted (e ∷ es) = ap suc (extents_counted es)

mapped : (es : List Expr) → length (map expr es) ≡ length es
mapped [] = refl
mapped (e ∷ es) = ap suc (mapped es)

pub counted : (es : List Expr) → length (list_of (exprs_of (map expr es))) ≡ length es
counted es = extents_counted (map expr es) ∙ mapped es

pub reversed-push : (xs : List (Bor Name)) (x : Bor Name) → reversed (xs ++ x ∷ []) ≡ x.now.bytes ∷ reversed xs
reversed-push [] x = refl
reversed-push (y ∷ ys) x = ap (λ (ws : List Word). ws ++ y.now.bytes ∷ []) (reversed-push ys x)
