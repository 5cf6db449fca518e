-- The unit of each text is a tree of a source or of a printed text.
use Rattle.std.proofs.Common.{◌≡◌, ◌≢◌, ◌⊎◌, ℕ, ◌≤◌, Bool, true, false, List, [], ◌∷◌, ◌++◌, refl, ap, ◌∙◌, subst, arith, inl, inr, is_some}
use Rattle.c_tree.specs.Plain.{PlainStmt, begin, verdict, PlainStmts, no_stmts, more_stmts, PlainParam, PlainUnit}
use Rattle.c_tree.specs.Trees.{stmts_of}
use Rattle.c_tree.specs.Grammar.Statements.{chain, one, stmts_height}
use Rattle.acceptance.specs.Heights.{all_exprs_height}
use Rattle.accepted_laws.specs.Suited.{AllSuited, IsSuited}
use Rattle.acceptance.specs.Trees.{IsSourceTree, IsPrintedTree}
use Rattle.layout_laws.specs.Fine as fine
use Rattle.layout_laws.specs.Fine.{LowParams, FineParams, FineUnit}
use Rattle.layout_laws.specs.Proper.{ProperStmts, ProperUnit}
use Rattle.layout_laws.specs.Trees.{IsTree}
use Rattle.tree_texts.proofs.TreesOfUnits.{name_in, all_inner, all_stmts_low, no_checks, listed, tops, tops_low, lines, params, params_low, words_in, names_in}

-- one parameter or more
some_param : (p : Bool) (m : ℕ) (ps : List PlainParam) → FineParams p m ps → ps ≢ []
some_param p m [] f e = f
some_param p m (x ∷ ps) f e = (let g : ⊥ = cc in g)

all_low : (p : Bool) (m : ℕ) (ps : List PlainParam) → FineParams p m ps → LowParams p m ps
all_low p m [] f = tt
all_low p m (x ∷ ps) f = f

chain_listed : (ss : PlainStmts) (rest : List PlainStmt) → chain ss (stmts_of rest) ≡ stmts_of (listed ss ++ rest)
chain_listed no_stmts rest = refl
chain_listed (more_stmts s ss) rest = ap (more_stmts s) (chain_listed ss rest)

chain_low : (s : ℕ) (a b : PlainStmts) → stmts_height a ≤ s → stmts_height b ≤ s → stmts_height (chain a b) ≤ s
chain_low s no_stmts b h g = g
chain_low s (more_stmts x a) b h g = (let r = chain_low s a b (omega arith) g in omega arith)

chain_exprs_low : (e : ℕ) (a b : PlainStmts) → all_exprs_height a ≤ e → all_exprs_height b ≤ e → all_exprs_height (chain a b) ≤ e
chain_exprs_low e no_stmts b h g = g
chain_exprs_low e (more_stmts x a) b h g = (let r = chain_exprs_low e a b (omega arith) g in omega arith)

chain_parts : (p : Bool) (a b : PlainStmts) → ProperStmts p (chain a b) → ProperStmts p a × ProperStmts p b
chain_parts p no_stmts b h = (tt, h)
chain_parts p (more_stmts s a) b h = (let r = chain_parts p a b h.1 in ((h.0, r.0), r.1))

unit_tree : (u : PlainUnit) → FineUnit u → ProperUnit (is_some u.version) u → IsSourceTree u ⊎ IsPrintedTree u
unit_tree _ (fine.source {rs} {ps} {ws} {us} f ranges its_params body low) h = inl (record {
  version = refl;
  no_wides = refl;
  head = record {
    ranges = lines false rs ranges h.ranges;
    name = name_in false f h.name;
    some_param = some_param false 64 ps its_params;
    params = params false 64 ps (all_low false 64 ps its_params) h.params;
    words = words_in false ws h.words;
    wides = tt;
  };
  body = all_inner false 64 0 us body h.body (no_checks 64 us body);
  low = record { stmts = low; exprs = all_stmts_low false 64 (omega arith) us body; extents = params_low false 64 ps (all_low false 64 ps its_params) };
})
unit_tree _ (fine.printed {rs} {ps} {ws} {xs} f us vs ranges its_params before body low high checks others) h =
    let b = chain_parts true us (more_stmts begin (chain vs (one verdict))) h.body in
    let a = chain_parts true vs (one verdict) b.1.1 in
    let e = tops_low 256 us (omega arith) before in
    let d = tops_low 256 vs (omega arith) body in
    let tail_low : stmts_height (chain vs (one verdict)) ≤ 160 = chain_low 160 vs (one verdict) high (omega arith) in
    let tail_exprs : all_exprs_height (chain vs (one verdict)) ≤ 256 = chain_exprs_low 256 vs (one verdict) d (omega arith) in
    inr (record {
      version = refl;
      head = record {
        ranges = lines true rs ranges h.ranges;
        name = name_in true f h.name;
        some_param = some_param true 256 ps its_params;
        params = params true 256 ps (all_low true 256 ps its_params) h.params;
        words = words_in true ws h.words;
        wides = names_in true xs h.wides;
      };
      few_arrays = h.arrays refl;
      before = listed us;
      after = listed vs;
      parts = ap (λ b. chain us (more_stmts begin b)) (chain_listed vs (verdict ∷ [])) ∙ chain_listed us (begin ∷ (listed vs ++ verdict ∷ []));
      before_trees = tops 256 _ us before b.0 checks;
      after_trees = tops 256 _ vs body a.0 others;
      low = record {
        stmts = chain_low 160 us (more_stmts begin (chain vs (one verdict))) low (omega arith);
        exprs = chain_exprs_low 256 us (more_stmts begin (chain vs (one verdict))) e (omega arith);
        extents = params_low true 256 ps (all_low true 256 ps its_params);
      };
    })

pub tree_of_unit : (u : PlainUnit) → IsTree u → IsSourceTree u ⊎ IsPrintedTree u
tree_of_unit u h = unit_tree u h.fine h.proper

-- a printed text has `begin` among its statements, and no suited source has
no_begin : (u : PlainUnit) (a rest : List PlainStmt) → AllSuited u (stmts_of (a ++ begin ∷ rest)) [] → ⊥
no_begin u [] rest h = h.0
no_begin u (s ∷ a) rest h = no_begin u a rest h.1

pub suited_source : (u : PlainUnit) → IsSuited u → IsSourceTree u ⊎ IsPrintedTree u → IsSourceTree u
suited_source u r (inl t) = t
suited_source u r (inr t) = absurd (no_begin u t.before (t.after ++ verdict ∷ []) (subst (λ b. AllSuited u b []) t.parts r.body))
