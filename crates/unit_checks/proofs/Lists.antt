-- Lists of names and of extents.
use Rattle.std.proofs.Common.{◌≡◌, refl, ap, ◌∙◌, ◌||◌, ◌≤◌, Bool, false, List, [], ◌∷◌, map, length, suc, bytes_eq, arith}
use Rattle.c_tree.specs.Names.{is_among}
use Rattle.c_tree.specs.Plain.{Word, PlainExpr, int_param}
use Rattle.c_tree.specs.Trees.{expr, exprs_of}
use Rattle.c_tree.specs.declared.expr.Expr.{Expr}
use Rattle.acceptance.specs.Items.{Scope, is_param, is_known}
use Rattle.acceptance.specs.Head.{list_of, ints_scope}
use Rattle.acceptance.specs.Printed.{is_entry}
use Rattle.unit_checks.proofs.Booleans.{or_false}

listed : (es : List PlainExpr) → length (list_of (exprs_of es)) ≡ length es
listed [] = refl
listed (e ∷ es) = ap suc (listed es)

mapped : (es : List Expr) → length (map expr es) ≡ length es
mapped [] = refl
mapped (e ∷ es) = ap suc (mapped es)

pub counted : (es : List Expr) → length (list_of (exprs_of (map expr es))) ≡ length es
counted es = listed (map expr es) ∙ mapped es

ints : (ws : List Word) (x : Word) → is_param (map int_param ws) x ≡ is_among ws x
ints [] x = refl
ints (w ∷ ws) x = ap (λ (b : Bool). bytes_eq w x || b) (ints ws x)

-- in an extent the parameters before it are known
pub known_before : (ws : List Word) (x : Word) → is_known (ints_scope (map int_param ws)) x ≡ is_among ws x
known_before ws x = or_false (is_param (map int_param ws) x) ∙ ints ws x

-- a table takes one subscript
pub two_subscripts : (sc : Scope) (es : List Expr) → 2 ≤ length es → false ≡ is_entry sc (exprs_of (map expr es))
two_subscripts sc [] h = absurd (omega arith)
two_subscripts sc (e ∷ []) h = absurd (omega arith)
two_subscripts sc (e ∷ (d ∷ es)) h = refl
