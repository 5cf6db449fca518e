-- Items at which none of the conditions holds, texts that consist of such items, and what that says of a whole unit.
use Rattle.std.proofs.Common.{◌≡◌, ℕ, suc, Bool, true, false, not, List, [], ◌∷◌, ◌++◌, map, refl, sym, ap, ◌∙◌, subst, None}
use Rattle.std.specs.List.{list_all}
use Rattle.std.proofs.lemmas.Bool.{and_from, and_parts, not-true}
use Rattle.std.proofs.lemmas.List.Folds.{list_all-append}
use Rattle.c_tree.specs.Plain.{Word, PlainStmt, loop, choice, assign, table, begin, check, verdict, PlainStmts, no_stmts, more_stmts, PlainUnit}
use Rattle.c_tree.specs.Trees.{stmts_of}
use Rattle.acceptance.specs.Items.{Loop, Item, items, items_all, tables_after, Condition, holds_nowhere, first_where, least_item, lowest, Scope, scope_of}
use Rattle.acceptance.specs.Head.{extents_known, head_names_twice, bad_range, extent_not_affine, extent_terms_too_large, extent_too_wide, extent_not_positive}
use Rattle.acceptance.specs.Printed.{item_name_twice, item_uses_known, fits_dimensions, dimensions, exprs_fit, names_fit, literals_fit, has_kinds, extents_signed, name_twice, name_unknown, at_head, wrong_dimensions, bad_literal, wrong_kind, printed_conditions, printed_refusal}

-- no condition holds at an item, in the scope around it
pub record IsFine (f : Word) (sc : Scope) (s : PlainStmt) : Type 0 where
  pub once : item_name_twice sc f s ≡ false
  pub known : item_uses_known sc s ≡ true
  pub fits : exprs_fit (fits_dimensions (dimensions sc)) s ≡ true
  pub flat : names_fit sc s ≡ true
  pub literals : exprs_fit literals_fit s ≡ true
  pub kinds : has_kinds sc s ≡ true

-- the scope inside these loops
abbrev pub inside : Scope → List Loop → Scope
inside sc ls = record sc { loops = ls }

-- each item of a statement inside these loops, and it makes no table
abbrev mutual
  pub StmtFine : Word → Scope → PlainStmt → List Loop → Type 0
  StmtFine f sc (loop x lo rel hi body) ls =
      IsFine f (inside sc ls) (loop x lo rel hi body) × AllFine f sc body (record { name = x; lo = lo; rel = rel; hi = hi } ∷ ls)
  StmtFine f sc (choice ts first other) ls = IsFine f (inside sc ls) (choice ts first other) × AllFine f sc first ls × AllFine f sc other ls
  StmtFine f sc (assign target op e) ls = IsFine f (inside sc ls) (assign target op e)
  StmtFine f sc (table x len) ls = ⊥
  StmtFine f sc begin ls = Unit {0}
  StmtFine f sc (check x extent a) ls = IsFine f (inside sc ls) (check x extent a)
  StmtFine f sc verdict ls = IsFine f (inside sc ls) verdict

  pub AllFine : Word → Scope → PlainStmts → List Loop → Type 0
  AllFine f sc no_stmts ls = Unit {0}
  AllFine f sc (more_stmts s ss) ls = StmtFine f sc s ls × AllFine f sc ss ls

-- ---- texts

abbrev pub TextFine : Word → Scope → List PlainStmt → List Loop → Type 0
TextFine f sc ss ls = AllFine f sc (stmts_of ss) ls

pub fine_join : (f : Word) (sc : Scope) (ls : List Loop) (a b : List PlainStmt) → TextFine f sc a ls → TextFine f sc b ls → TextFine f sc (a ++ b) ls
fine_join f sc ls [] b h g = g
fine_join f sc ls (s ∷ a) b h g = (h.0, fine_join f sc ls a b h.1 g)

tables_same : (f : Word) (sc : Scope) (s : PlainStmt) (ls : List Loop) → StmtFine f sc s ls → (ts : List Word) → tables_after s ts ≡ ts
tables_same f sc (table x len) ls h ts = absurd h
tables_same f sc _ ls h ts = refl

module _ (p : Item → Bool) (f : Word) (sc : Scope) (each : (s : PlainStmt) (ls : List Loop) → IsFine f (inside sc ls) s → p (record { stmt = s; loops = ls; tables = sc.tables }) ≡ true) where
  mutual
    pub each_item : (s : PlainStmt) (ls : List Loop) → StmtFine f sc s ls → list_all p (items s ls sc.tables) ≡ true
    each_item (loop x lo rel hi body) ls h =
        and_from _ _ (each (loop x lo rel hi body) ls h.0) (all_items body (record { name = x; lo = lo; rel = rel; hi = hi } ∷ ls) h.1)
    each_item (choice ts first other) ls h =
        and_from _ _ (each (choice ts first other) ls h.0)
        (list_all-append p (items_all first ls sc.tables) (items_all other ls sc.tables) ∙ and_from _ _ (all_items first ls h.1) (all_items other ls h.2))
    each_item (assign target op e) ls h = and_from _ _ (each (assign target op e) ls h) refl
    each_item (table x len) ls h = absurd h
    each_item begin ls h = refl
    each_item (check x extent a) ls h = and_from _ _ (each (check x extent a) ls h) refl
    each_item verdict ls h = and_from _ _ (each verdict ls h) refl

    pub all_items : (ss : PlainStmts) (ls : List Loop) → AllFine f sc ss ls → list_all p (items_all ss ls sc.tables) ≡ true
    all_items no_stmts ls h = refl
    all_items (more_stmts s ss) ls h =
        list_all-append p (items s ls sc.tables) (items_all ss ls (tables_after s sc.tables))
        ∙ and_from _ _ (each_item s ls h.0) (subst (λ ts. list_all p (items_all ss ls ts) ≡ true) (sym (tables_same f sc s ls h.0 sc.tables)) (all_items ss ls h.1))

-- ---- a text at the top level, where tables may be made

abbrev pub with_tables : Scope → List Word → Scope
with_tables sc ts = record sc { tables = ts }

abbrev pub OneFine : Word → Scope → PlainStmt → Type 0
OneFine f sc (table x len) = IsFine f (inside sc []) (table x len)
OneFine f sc s = StmtFine f sc s []

-- each statement where the tables before it are in scope
abbrev pub TopFine : Word → Scope → List Word → List PlainStmt → Type 0
TopFine f sc ts [] = Unit {0}
TopFine f sc ts (s ∷ ss) = OneFine f (with_tables sc ts) s × TopFine f sc (tables_after s ts) ss

one_fine : (f : Word) (sc : Scope) (s : PlainStmt) → StmtFine f sc s [] → OneFine f sc s
one_fine f sc (table x len) h = absurd h
one_fine f sc (loop x lo rel hi body) h = h
one_fine f sc (choice ts first other) h = h
one_fine f sc (assign t op e) h = h
one_fine f sc begin h = h
one_fine f sc (check x e a) h = h
one_fine f sc verdict h = h

pub top_text : (f : Word) (sc : Scope) (ts : List Word) (a b : List PlainStmt) → TextFine f (with_tables sc ts) a [] → TopFine f sc ts b → TopFine f sc ts (a ++ b)
top_text f sc ts [] b h g = g
top_text f sc ts (s ∷ a) b h g =
    (one_fine f (with_tables sc ts) s h.0, subst (λ us. TopFine f sc us (a ++ b)) (sym (tables_same f (with_tables sc ts) s [] h.0 ts)) (top_text f sc ts a b h.1 g))

module _ (p : Item → Bool) (f : Word) (sc : Scope) (each : (ts : List Word) (s : PlainStmt) (ls : List Loop) → IsFine f (inside (with_tables sc ts) ls) s → p (record { stmt = s; loops = ls; tables = ts }) ≡ true) where
  top_item : (ts : List Word) (s : PlainStmt) → OneFine f (with_tables sc ts) s → list_all p (items s [] ts) ≡ true
  top_item ts (table x len) h = and_from _ _ (each ts (table x len) [] h) refl
  top_item ts (loop x lo rel hi body) h = each_item p f (with_tables sc ts) (each ts) (loop x lo rel hi body) [] h
  top_item ts (choice us first other) h = each_item p f (with_tables sc ts) (each ts) (choice us first other) [] h
  top_item ts (assign t op e) h = each_item p f (with_tables sc ts) (each ts) (assign t op e) [] h
  top_item ts begin h = refl
  top_item ts (check x e a) h = each_item p f (with_tables sc ts) (each ts) (check x e a) [] h
  top_item ts verdict h = each_item p f (with_tables sc ts) (each ts) verdict [] h

  pub top_items : (ts : List Word) (ss : List PlainStmt) → TopFine f sc ts ss → list_all p (items_all (stmts_of ss) [] ts) ≡ true
  top_items ts [] h = refl
  top_items ts (s ∷ ss) h =
      list_all-append p (items s [] ts) (items_all (stmts_of ss) [] (tables_after s ts)) ∙ and_from _ _ (top_item ts s h.0) (top_items (tables_after s ts) ss h.1)

-- ---- units

-- no condition holds at the head
pub record HeadFine (u : PlainUnit) : Type 0 where
  pub once : head_names_twice u ≡ false
  pub known : extents_known [] u.params ≡ true
  pub ranges : (bad_range u).head ≡ false
  pub affine : extent_not_affine u ≡ false
  pub small : extent_terms_too_large u ≡ false
  pub narrow : extent_too_wide u ≡ false
  pub positive : extent_not_positive u ≡ false
  pub signed : extents_signed (scope_of u [] []) u.params ≡ true

all_true : (xs : List Item) → list_all (λ (i : Item). true) xs ≡ true
all_true [] = refl
all_true (x ∷ xs) = all_true xs

nowhere : (u : PlainUnit) (c : Condition) → c.head ≡ false → list_all (λ i. not (c.inside i)) (items_all u.body [] []) ≡ true → holds_nowhere u c ≡ true
nowhere u c h g = and_from _ _ (ap not h) g

not_at_head : (u : PlainUnit) (b : Bool) → b ≡ false → holds_nowhere u (at_head b) ≡ true
not_at_head u b h = nowhere u (at_head b) h (all_true (items_all u.body [] []))

not_not : (b : Bool) → b ≡ true → not (not b) ≡ true
not_not b h = ap (λ c. not (not c)) h

-- ---- refused nowhere

first_none : (p : Item → Bool) (k : ℕ) (is : List Item) → list_all (λ i. not (p i)) is ≡ true → first_where p k is ≡ None
first_none p k [] h = refl
first_none p k (i ∷ is) h =
    let g : (not (p i) ≡ true) × (list_all (λ j. not (p j)) is ≡ true) = and_parts _ _ h in
    rw (not-true (p i) g.0) (first_none p (suc k) is g.1)

least_none : (u : PlainUnit) (c : Condition) → holds_nowhere u c ≡ true → least_item u c ≡ None
least_none u c h =
    let g : (not c.head ≡ true) × (list_all (λ i. not (c.inside i)) (items_all u.body [] []) ≡ true) = and_parts _ _ h in
    rw (not-true c.head g.0) (first_none c.inside 1 (items_all u.body [] []) g.1)

lowest_none : (u : PlainUnit) (cs : List (ℕ × Condition)) → list_all (λ (c : ℕ × Condition). holds_nowhere u c.1) cs ≡ true → lowest (map (λ c. (c.0, least_item u c.1)) cs) ≡ None
lowest_none u [] h = refl
lowest_none u (c ∷ cs) h =
    let g : (holds_nowhere u c.1 ≡ true) × (list_all (λ (d : ℕ × Condition). holds_nowhere u d.1) cs ≡ true) = and_parts _ _ h in
    rw (least_none u c.1 g.0) (lowest_none u cs g.1)

pub unrefused_by : (u : PlainUnit) (text : List PlainStmt) → stmts_of text ≡ u.body → HeadFine u → TopFine u.name (scope_of u [] []) [] text → printed_refusal u ≡ None
unrefused_by u text same head fine =
    let sc : Scope = scope_of u [] [] in
    let f : Word = u.name in
    let all : (p : Item → Bool) → ((ts : List Word) (s : PlainStmt) (ls : List Loop) → IsFine f (inside (with_tables sc ts) ls) s → p (record { stmt = s; loops = ls; tables = ts }) ≡ true) → list_all p (items_all u.body [] []) ≡ true =
    λ p each. subst (λ b. list_all p (items_all b [] []) ≡ true) same (top_items p f sc each [] text fine) in
    lowest_none u (printed_conditions u)
    (and_from _ _ (nowhere u (name_twice u) head.once (all _ (λ ts s ls h. ap not h.once)))
    (and_from _ _ (nowhere u (name_unknown u) (ap not head.known) (all _ (λ ts s ls h. not_not _ h.known)))
    (and_from _ _ (nowhere u (bad_range u) head.ranges (all_true (items_all u.body [] [])))
    (and_from _ _ (not_at_head u (extent_not_affine u) head.affine)
    (and_from _ _ (not_at_head u (extent_terms_too_large u) head.small)
    (and_from _ _ (not_at_head u (extent_too_wide u) head.narrow)
    (and_from _ _ (not_at_head u (extent_not_positive u) head.positive)
    (and_from _ _ (nowhere u (wrong_dimensions u) refl (all _ (λ ts s ls h. not_not _ (and_from _ _ h.fits h.flat))))
    (and_from _ _ (nowhere u (bad_literal u) refl (all _ (λ ts s ls h. not_not _ h.literals)))
    (and_from _ _ (nowhere u (wrong_kind u) (ap not head.signed) (all _ (λ ts s ls h. not_not _ h.kinds))) refl))))))))))
