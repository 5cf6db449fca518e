-- The items of a unit in text order: the head, then each statement but `begin`, with the loops around it and the tables before it.
use Rattle.std.specs.Prelude.{ℕ, suc, Bool, false, ◌||◌, ◌&&◌, not, if◌then◌else◌, List, [], ◌∷◌, ◌++◌, Option, Some, None, bytes_eq}
use Rattle.std.specs.List.{list_all}
use Rattle.c_tree.specs.Plain.{Word, PlainExpr, PlainParam, int_param, array_param, PlainStmt, loop, choice, assign, table, begin, check, verdict, PlainStmts, no_stmts, more_stmts, PlainUnit}
use Rattle.c_tree.specs.Names.{is_among}
use Rattle.c_tree.specs.declared.expr.Rel.{Rel}

-- a loop around an item
pub record Loop : Type 0 where
  pub name : Word
  pub lo : PlainExpr
  pub rel : Rel
  pub hi : PlainExpr

-- an item; what stands within its statement is of other items, and the innermost loop and the last table come first
pub record Item : Type 0 where
  pub stmt : PlainStmt
  pub loops : List Loop
  pub tables : List Word

abbrev pub one_item : PlainStmt → List Loop → List Word → List Item
one_item s ls ts = record { stmt = s; loops = ls; tables = ts } ∷ []

-- a table is in scope behind its statement
abbrev pub tables_after : PlainStmt → List Word → List Word
tables_after (table x len) ts = x ∷ ts
tables_after _ ts = ts

abbrev mutual
  pub items : PlainStmt → List Loop → List Word → List Item
  items (loop x lo rel hi body) ls ts =
      one_item (loop x lo rel hi body) ls ts ++ items_all body (record { name = x; lo = lo; rel = rel; hi = hi } ∷ ls) ts
  items (choice tests first other) ls ts = one_item (choice tests first other) ls ts ++ (items_all first ls ts ++ items_all other ls ts)
  items (assign target op e) ls ts = one_item (assign target op e) ls ts
  items (table x len) ls ts = one_item (table x len) ls ts
  items begin ls ts = []
  items (check x extent a) ls ts = one_item (check x extent a) ls ts
  items verdict ls ts = one_item verdict ls ts

  pub items_all : PlainStmts → List Loop → List Word → List Item
  items_all no_stmts ls ts = []
  items_all (more_stmts s ss) ls ts = items s ls ts ++ items_all ss ls (tables_after s ts)

-- a condition for a refusal, on the head and on the other items
pub record Condition : Type 0 where
  pub head : Bool
  pub inside : Item → Bool

-- it holds at no item of the unit
abbrev pub holds_nowhere : PlainUnit → Condition → Bool
holds_nowhere u c = not c.head && list_all (λ i. not (c.inside i)) (items_all u.body [] [])

-- the first item at which a test holds, the items being numbered from k on
abbrev pub first_where : (Item → Bool) → ℕ → List Item → Option ℕ
first_where p k [] = None
first_where p k (i ∷ is) = if p i then Some k else first_where p (suc k) is

-- the least item at which a condition holds; the head is 0
abbrev pub least_item : PlainUnit → Condition → Option ℕ
least_item u c = if c.head then Some 0 else first_where c.inside 1 (items_all u.body [] [])

-- Of the numbers of refusals, in order and each with the least item at which it holds, the first that holds anywhere.
abbrev pub lowest : List (ℕ × Option ℕ) → Option (ℕ × ℕ)
lowest [] = None
lowest ((n, None) ∷ js) = lowest js
lowest ((n, Some item) ∷ js) = Some (n, item)

-- ---- names

-- what is declared around a place
pub record Scope : Type 0 where
  pub params : List PlainParam
  pub words : List (Word × ℕ)
  pub wides : List Word
  pub loops : List Loop
  pub tables : List Word

abbrev pub scope_of : PlainUnit → List Loop → List Word → Scope
scope_of u ls ts = record { params = u.params; words = u.words; wides = u.wides; loops = ls; tables = ts }

abbrev pub scope_at : PlainUnit → Item → Scope
scope_at u i = scope_of u i.loops i.tables

abbrev pub is_loop : List Loop → Word → Bool
is_loop [] x = false
is_loop (l ∷ ls) x = bytes_eq l.name x || is_loop ls x

abbrev pub is_int : List PlainParam → Word → Bool
is_int [] x = false
is_int (int_param y ∷ ps) x = bytes_eq y x || is_int ps x
is_int (array_param y constant extents ∷ ps) x = is_int ps x

abbrev pub is_array : List PlainParam → Word → Bool
is_array [] x = false
is_array (int_param y ∷ ps) x = is_array ps x
is_array (array_param y constant extents ∷ ps) x = bytes_eq y x || is_array ps x

abbrev pub param_name : PlainParam → Word
param_name (int_param x) = x
param_name (array_param x constant extents) = x

abbrev pub is_param : List PlainParam → Word → Bool
is_param [] x = false
is_param (p ∷ ps) x = bytes_eq (param_name p) x || is_param ps x

abbrev pub is_scalar : List (Word × ℕ) → Word → Bool
is_scalar [] x = false
is_scalar (w ∷ ws) x = bytes_eq w.0 x || is_scalar ws x

-- declared outside loops
abbrev pub is_declared : Scope → Word → Bool
is_declared sc x = is_param sc.params x || (is_scalar sc.words x || (is_among sc.wides x || is_among sc.tables x))

-- in scope
abbrev pub is_known : Scope → Word → Bool
is_known sc x = is_loop sc.loops x || is_declared sc x

-- the name of a signed value: a parameter or a loop's variable
abbrev pub is_signed_name : Scope → Word → Bool
is_signed_name sc x = is_loop sc.loops x || is_int sc.params x
