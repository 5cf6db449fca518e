-- No signed value of an accepted source wraps, for the loop values that its run goes through.
use Rattle.std.proofs.Common.{◌≡◌, Bool, true, false, cond, ◌&&◌, List, [], ◌∷◌, refl, sym, ◌∙◌, subst, true≢false}
use Rattle.std.specs.List.{AllByRecursion, list_all}
use Rattle.std.proofs.lemmas.Bool.{and_parts}
use Rattle.c_tree.specs.Plain.{PlainExpr, lit, var, cell, un, bin, cast, test, umin, umax, least, greatest, widen, big, PlainExprs, no_exprs, more_exprs, PlainTest, PlainStmt, loop, choice, assign, table, begin, check, verdict, PlainStmts, no_stmts, more_stmts, PlainUnit}
use Rattle.c_tree.specs.Values.{Vars, exact, loop_values}
use Rattle.run_laws.specs.Sources.{IsExact}
use Rattle.acceptance.specs.Items.{Loop, items, items_all, tables_after, Scope, scope_of}
use Rattle.acceptance.specs.Affine.{is_affine, holds_throughout, is_narrow}
use Rattle.acceptance.specs.Head.{list_of}
use Rattle.acceptance.specs.Printed.{tests_fit}
use Rattle.acceptance.specs.Parts.{has_signed, subscript_holds, subscripts_hold, parts_hold}
use Rattle.acceptance.specs.Trees.{IsTree, IsInner, AreInner}
use Rattle.accepted_laws.proofs.Clear.{Clear, all_front, all_back, tables_same}
use Rattle.source_laws.specs.Exact.{IsSubscriptExact, AreSubscriptsExact, ArePartsExact, IsExactStmt, AreExactStmts}
use Rattle.interval_laws.proofs.Intervals.{signed_exact}
use Rattle.source_laws.proofs.Expressions.{affine_signed, signed_named}
use Rattle.source_laws.proofs.Values.{all_inside, around, IsPlace, LoopIs, loop_is}

module _ (u : PlainUnit) where
  module _ (ls : List Loop) (vs : Vars) (p : IsPlace u ls vs) where
    abbrev sc : Scope
    sc = scope_of u ls []

    abbrev narrow : PlainExpr → Bool
    narrow = holds_throughout (is_narrow (around u ls))

    value_is : (e : PlainExpr) → is_affine sc e ≡ true → narrow e ≡ true → IsExact e vs
    value_is e h n = signed_exact (around u ls) sc vs p.suits e h n

    pub row_exact : (es : List PlainExpr) → list_all (is_affine sc) es ≡ true → list_all narrow es ≡ true → AllByRecursion (λ e. IsExact e vs) es
    row_exact [] h n = tt
    row_exact (e ∷ es) h n =
        let a = and_parts (is_affine sc e) (list_all (is_affine sc) es) h in
        let b = and_parts (narrow e) (list_all narrow es) n in
        (value_is e a.0 b.0, row_exact es a.1 b.1)

    subscript_exact : (e : PlainExpr) → subscript_holds (is_affine sc) e ≡ true → subscript_holds narrow e ≡ true → IsSubscriptExact e vs
    subscript_exact (cell x at) h n = row_exact (list_of at) h n
    subscript_exact (lit k) h n = value_is (lit k) h n
    subscript_exact (var x) h n = value_is (var x) h n
    subscript_exact (un op a) h n = value_is (un op a) h n
    subscript_exact (bin op a b) h n = value_is (bin op a b) h n
    subscript_exact _ h n = absurd (true≢false (sym h))

    subscripts_exact : (es : PlainExprs) → subscripts_hold (is_affine sc) es ≡ true → subscripts_hold narrow es ≡ true → AreSubscriptsExact es vs
    subscripts_exact no_exprs h n = tt
    subscripts_exact (more_exprs e es) h n =
        let a = and_parts (subscript_holds (is_affine sc) e) (subscripts_hold (is_affine sc) es) h in
        let b = and_parts (subscript_holds narrow e) (subscripts_hold narrow es) n in
        (subscript_exact e a.0 b.0, subscripts_exact es a.1 b.1)

    abbrev affine_in : PlainExpr → Bool
    affine_in = parts_hold (is_affine sc) sc

    abbrev narrow_in : PlainExpr → Bool
    narrow_in = parts_hold narrow sc

    parts_exact : (e : PlainExpr) → IsTree false e → affine_in e ≡ true → narrow_in e ≡ true → ArePartsExact e vs
    parts_exact (lit k) t h n = tt
    parts_exact (var x) t h n = tt
    parts_exact (cell x at) t h n = subscripts_exact at h n
    parts_exact (un op a) t h n = parts_exact a t h n
    parts_exact (bin op a b) t h n =
        let f = and_parts (affine_in a) (affine_in b) h in let g = and_parts (narrow_in a) (narrow_in b) n in (parts_exact a t.0 f.0 g.0, parts_exact b t.1 f.1 g.1)
    parts_exact (cast a) t h n = chosen (has_signed sc a) refl h n (parts_exact a t)
      where
        chosen : (b : Bool) → has_signed sc a ≡ b → cond b (is_affine sc a) (affine_in a) ≡ true → cond b (narrow a) (narrow_in a) ≡ true
            → (affine_in a ≡ true → narrow_in a ≡ true → ArePartsExact a vs) → ArePartsExact (cast a) vs
        chosen true e h n f = (λ k. value_is a h n, λ k. absurd (true≢false (sym (affine_signed u ls vs p.stands a h e) ∙ k)))
        chosen false e h n f = (λ k. absurd (true≢false (sym (signed_named u ls vs p.stands a t k) ∙ e)), λ k. f h n)
    parts_exact (test rel a b) t h n =
        let f = and_parts (affine_in a) (affine_in b) h in let g = and_parts (narrow_in a) (narrow_in b) n in (parts_exact a t.0 f.0 g.0, parts_exact b t.1 f.1 g.1)
    parts_exact (umin a b) t h n =
        let f = and_parts (affine_in a) (affine_in b) h in let g = and_parts (narrow_in a) (narrow_in b) n in (parts_exact a t.0 f.0 g.0, parts_exact b t.1 f.1 g.1)
    parts_exact (umax a b) t h n =
        let f = and_parts (affine_in a) (affine_in b) h in let g = and_parts (narrow_in a) (narrow_in b) n in (parts_exact a t.0 f.0 g.0, parts_exact b t.1 f.1 g.1)
    parts_exact (least a b) t h n = absurd (true≢false (sym t.0))
    parts_exact (greatest a b) t h n = absurd (true≢false (sym t.0))
    parts_exact (widen a) t h n = absurd (true≢false (sym t.0))
    parts_exact (big high low) t h n = absurd (true≢false (sym t.0))

    tests_exact : (ts : List PlainTest) → tests_fit (is_affine sc) ts ≡ true → tests_fit narrow ts ≡ true → AllByRecursion (λ (t : PlainTest). IsExact t.1 vs × IsExact t.2 vs) ts
    tests_exact [] h n = tt
    tests_exact (t ∷ ts) h n =
        let a = and_parts (is_affine sc t.1) (is_affine sc t.2 && tests_fit (is_affine sc) ts) h in
        let b = and_parts (is_affine sc t.2) (tests_fit (is_affine sc) ts) a.1 in
        let c = and_parts (narrow t.1) (narrow t.2 && tests_fit narrow ts) n in
        let d = and_parts (narrow t.2) (tests_fit narrow ts) c.1 in
        ((value_is t.1 a.0 c.0, value_is t.2 b.0 d.0), tests_exact ts b.1 d.1)

  mutual
    stmt_exact : (s : PlainStmt) (ls : List Loop) (vs : Vars) → IsPlace u ls vs → AllByRecursion (Clear u) (items s ls []) → IsInner false 0 s → IsExactStmt s vs
    stmt_exact (loop x lo rel hi body) ls vs p c h =
        let l : Loop = record { name = x; lo = lo; rel = rel; hi = hi } in
        let r : LoopIs u ls vs l = loop_is u ls vs l body p c.0 in (
          r.first,
          r.last,
          all_inside (λ v. IsPlace u (l ∷ ls) ((x, v) ∷ vs)) (λ v. AreExactStmts body ((x, v) ∷ vs)) (λ v q. stmts_exact body (l ∷ ls) ((x, v) ∷ vs) q c.1 h.4) (loop_values (exact lo vs) rel (exact hi vs)) r.inside,
        )
    stmt_exact (choice ts first other) ls vs p c h = (
      tests_exact ls vs p ts c.0.affine c.0.narrow,
      stmts_exact first ls vs p (all_front (Clear u) (items_all first ls []) (items_all other ls []) c.1) h.1,
      stmts_exact other ls vs p (all_back (Clear u) (items_all first ls []) (items_all other ls []) c.1) h.2,
    )
    stmt_exact (assign t op e) ls vs p c h =
        let f = and_parts (affine_in ls vs p t) (affine_in ls vs p e) c.0.affine in
        let g = and_parts (narrow_in ls vs p t) (narrow_in ls vs p e) c.0.narrow in
        (parts_exact ls vs p t h.2 f.0 g.0, parts_exact ls vs p e h.3 f.1 g.1)
    stmt_exact (table x len) ls vs p c h = absurd h
    stmt_exact begin ls vs p c h = absurd h
    stmt_exact (check x e a) ls vs p c h = absurd (true≢false (sym h.0))
    stmt_exact verdict ls vs p c h = absurd h

    pub stmts_exact : (ss : PlainStmts) (ls : List Loop) (vs : Vars) → IsPlace u ls vs → AllByRecursion (Clear u) (items_all ss ls []) → AreInner false 0 ss → AreExactStmts ss vs
    stmts_exact no_stmts ls vs p c h = tt
    stmts_exact (more_stmts s ss) ls vs p c h =
        let rest : AllByRecursion (Clear u) (items_all ss ls []) =
        subst (λ ts. AllByRecursion (Clear u) (items_all ss ls ts)) (tables_same s h.0 []) (all_back (Clear u) (items s ls []) (items_all ss ls (tables_after s [])) c) in
        (stmt_exact s ls vs p (all_front (Clear u) (items s ls []) (items_all ss ls (tables_after s [])) c) h.0, stmts_exact ss ls vs p rest h.1)
