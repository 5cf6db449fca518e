-- Whatever is a condition is read as one.
use Rattle.std.proofs.Common.{◌≡◌, ℕ, zero, suc, ◌+◌, ◌-◌, ◌≤◌, ◌<◌, List, [], ◌∷◌, ◌++◌, length, drop, Bool, Option, Some, None, option_and_then, refl, sym, ap, ◌∙◌, subst, arith, append_assoc}
use Rattle.std.proofs.lemmas.Option.{some_pair_parts}
use Rattle.c_tree.specs.declared.expr.Rel.{Rel}
use Rattle.c_tree.specs.Plain.{PlainExpr, PlainTest}
use Rattle.c_tree.specs.declared.symbol.Symbol.TheVariants as s
use Rattle.c_tree.specs.Grammar.Lexemes as t
use Rattle.c_tree.specs.Grammar.Lexemes.{Lexeme}
use Rattle.c_tree.specs.Grammar.Tables.{rel_mark}
use Rattle.c_tree.specs.Grammar.Expressions.{IsLow}
use Rattle.c_tree.specs.Grammar.Conditions as k
use Rattle.c_tree.specs.Grammar.Conditions.{IsConj, IsCond}
use Rattle.grammar_reading.specs.declared.rules.Rules.{Rules}
use Rattle.grammar_reading.specs.Reading.{Read, same, expect, front_op, front_rel, climb, close, closes, paren, opens, expr, lower, deepest, seek, seek_by, compare, shut, shut_by, after_by, after, conds}
use Rattle.grammar_reading.proofs.StepLemmas.{bind_is, expect_is, expect_self, relation-mark, no_operator}
use Rattle.grammar_reading.proofs.Sound.{op_level, operand_sound, expr_sound, lower_sound, opens_is, wrapped}
use Rattle.grammar_reading.proofs.Complete.{front_binds, op_le, binds-rel, shorter, no_type, climb_stops, head, run, expr_is, more_parens, paren_opens, finish}
use Rattle.grammar_reading.proofs.TwoStages.{stages, climb_within}
use Rattle.grammar_reading.proofs.Reaches.{shrinks, rel_no_op, reaches}

-- the shape of a bind that was taken
taken : {A B : Type 0} (f : A → Option B) (o : Option A) (x : A) (y : Option B) → o ≡ Some x → f x ≡ y → option_and_then f o ≡ y
taken f o x y h j = ap (option_and_then f) h ∙ j

wrapped_length : (k : ℕ) (ts : List Lexeme) → length ts ≤ length (wrapped k ts)
wrapped_length zero ts = omega arith
wrapped_length (suc k) ts = omega (arith, wrapped_length k (t.symbol s.OpenParen ∷ ts))

module _ (c : Rules) (n : ℕ) where
  no_rel_close : (ts : List Lexeme) (rel : Rel) → front_rel (t.symbol s.CloseParen ∷ ts) ≡ Some rel → ⊥
  no_rel_close ts rel h = cc

  -- the steps of a parenthesis that closes around an expression: first to the level of a comparison
  close_steps : (left u : PlainExpr) (ts rest : List Lexeme) → length ts < c.turns → close c (expr c n) left ts ≡ Some (u, rest)
      → (w : PlainExpr × List Lexeme) × (climb c (expr c n) 4 c.turns left ts ≡ Some w) × (front_rel w.1 ≡ None) × (close c (expr c n) w.0 w.1 ≡ Some (u, rest)) × (length rest < length ts)
  unfolding close
  close_steps left u ts rest turns h =
      let (x, h1, h2) = bind_is _ (climb c (expr c n) 1 c.turns left ts) (u, rest) h in
      let (r, h3, h4) = bind_is _ (expect s.CloseParen x.1) (u, rest) h2 in
      let (w, h5, h6) = bind_is _ (climb c (expr c n) 4 c.turns left ts) x (sym (stages c (expr c n) (shrinks c n) 1 4 c.turns left ts (omega arith) turns turns) ∙ h1) in
      let q = some_pair_parts x.0 u r rest h4 in
      let is = expect_is s.CloseParen x.1 r h3 in
      let less : length rest < length ts = omega (arith, climb_within c (expr c n) (shrinks c n) 1 c.turns left ts x h1, ap length is, ap length q.1) in
      (w, h5, none w x r is h6 (front_rel w.1) refl, ap (option_and_then _) h6 ∙ h2, less)
    where
      none : (w x : PlainExpr × List Lexeme) (r : List Lexeme) → x.1 ≡ t.symbol s.CloseParen ∷ r → climb c (expr c n) 1 c.turns w.0 w.1 ≡ Some x → (o : Option Rel) → front_rel w.1 ≡ o → front_rel w.1 ≡ None
      none w x r is j None k = k
      none w x r is j (Some rel) k =
          let q = some_pair_parts w.0 x.0 w.1 x.1 (sym (climb_stops c (expr c n) 1 c.turns w.0 w.1 (omega arith) (omega (arith, ap op_level (rel_no_op w.1 rel k)))) ∙ j) in
          absurd (no_rel_close r rel (ap front_rel (sym is) ∙ ap front_rel (sym q.1) ∙ k))

  -- where all parentheses close before the comparison
  seeks : (k : ℕ) (left a : PlainExpr) (rel : Rel) (ts r : List Lexeme) (y : PlainExpr × List Lexeme) → length ts < c.turns → closes c (expr c n) k left ts ≡ Some y → climb c (expr c n) 4 c.turns y.0 y.1 ≡ Some (a, r) → front_rel r ≡ Some rel
      → seek c (expr c n) k left ts ≡ Some ((0, rel, a), drop 1 r)
  unfolding seek closes
  seeks zero left a rel ts r y turns h j is =
      let q = some_pair_parts left y.0 ts y.1 h in
      let first : climb c (expr c n) 4 c.turns left ts ≡ Some (a, r) = ap (λ (v : PlainExpr). climb c (expr c n) 4 c.turns v ts) q.0 ∙ ap (λ z. climb c (expr c n) 4 c.turns y.0 z) q.1 ∙ j in
      ap (option_and_then _) first ∙ ap (seek_by c (expr c n) 0 (λ u ts. None) a r) is
  seeks (suc k) left a rel ts r y turns h j is =
      let (z, h1, h2) = bind_is _ (close c (expr c n) left ts) y h in
      let (w, w1, w2, w3, less) = close_steps left z.0 ts z.1 turns h1 in
      ap (option_and_then _) w1 ∙ ap (seek_by c (expr c n) (suc k) (seek c (expr c n) k) w.0 w.1) w2 ∙ ap (option_and_then _) w3 ∙ seeks k z.0 a rel z.1 r y (omega arith) h2 j is

  -- one parenthesis more before all stays open
  seek_by_more : (k m : ℕ) (a : PlainExpr) (rel : Rel) (left : PlainExpr) (ts r : List Lexeme) (go on : PlainExpr → List Lexeme → Read (ℕ × Rel × PlainExpr)) → ((u : PlainExpr) (z : List Lexeme) → go u z ≡ Some ((m, rel, a), r) → on u z ≡ Some ((suc m, rel, a), r))
      → (o : Option Rel) → seek_by c (expr c n) k go left ts o ≡ Some ((m, rel, a), r) → seek_by c (expr c n) (suc k) on left ts o ≡ Some ((suc m, rel, a), r)
  seek_by_more k m a rel left ts r go on more None h =
      let (z, h1, h2) = bind_is _ (close c (expr c n) left ts) ((m, rel, a), r) h in
      ap (option_and_then _) h1 ∙ more z.0 z.1 h2
  seek_by_more k m a rel left ts r go on more (Some rel2) h =
      let q = some_pair_parts (k, rel2, left) (m, rel, a) (drop 1 ts) r h in
      ap (λ (x : ℕ × Rel × PlainExpr). Some ((suc x.0, x.1, x.2), drop 1 ts)) q.0 ∙ ap (λ z. Some ((suc m, rel, a), z)) q.1

  seek_more : (k m : ℕ) (a : PlainExpr) (rel : Rel) (left : PlainExpr) (ts r : List Lexeme) → seek c (expr c n) k left ts ≡ Some ((m, rel, a), r) → seek c (expr c n) (suc k) left ts ≡ Some ((suc m, rel, a), r)
  unfolding seek
  seek_more zero m a rel left ts r h =
      let (w, h1, h2) = bind_is _ (climb c (expr c n) 4 c.turns left ts) ((m, rel, a), r) h in
      ap (option_and_then _) h1 ∙ seek_by_more 0 m a rel w.0 w.1 r (λ u ts. None) (seek c (expr c n) 0) (λ u z j. absurd (let no : ⊥ = cc in no)) (front_rel w.1) h2
  seek_more (suc k) m a rel left ts r h =
      let (w, h1, h2) = bind_is _ (climb c (expr c n) 4 c.turns left ts) ((m, rel, a), r) h in
      ap (option_and_then _) h1 ∙ seek_by_more (suc k) m a rel w.0 w.1 r (seek c (expr c n) k) (seek c (expr c n) (suc k)) (λ u z j. seek_more k m a rel u z r j) (front_rel w.1) h2

-- ---- one comparison

head_shrinks : (c : Rules) (n : ℕ) (ts : List Lexeme) (x : PlainExpr × List Lexeme) → head c n (opens ts).1 ≡ Some x → length x.1 < length ts
head_shrinks c n ts x h =
    let d = operand_sound c (expr c n) (expr_sound c n) (lower c n) (lower_sound c n) (opens ts).1 x.1 x.0 h in
    omega (arith, shorter d, wrapped_length (opens ts).0 (opens ts).1, ap length (opens_is ts))

compare_here : (c : Rules) (rel : Rel) (ts after rest : List Lexeme) (a b : PlainExpr) → length ts < c.turns → IsLow c.printed c.limit 4 ts a (t.symbol (rel_mark rel) ∷ after) → IsLow c.printed c.limit 4 after b rest → front_binds rest ≡ 0
    → compare c ts ≡ Some ((0, (rel, a, b)), rest)
unfolding compare
compare_here c rel ts after rest a b turns da db ends =
    let d = deepest c in
    let none : op_level (front_op (t.symbol (rel_mark rel) ∷ after)) ≡ 0 = ap op_level (no_operator rel) in
    let binds : front_binds (t.symbol (rel_mark rel) ∷ after) ≡ 0 = binds-rel rel in
    let one = finish c (suc d) 4 ts (t.symbol (rel_mark rel) ∷ after) a (omega arith) (reaches da.reads c refl (suc d) 4 turns (omega (arith, da.low)) (omega arith) (omega arith) (omega arith) da.low) in
    let two = finish c d 4 after rest b (omega (arith, op_le rest)) (reaches db.reads c refl d 4 (omega (arith, shorter da.reads)) db.low (omega arith) (omega arith) (omega arith) db.low) in
    let less : suc d - 1 ≡ d = omega arith in
    let start : run c d 4 (opens ts) ≡ Some (a, t.symbol (rel_mark rel) ∷ after) = ap (λ j. run c j 4 (opens ts)) (sym less) ∙ sym (expr_is c (suc d) 4 ts (omega arith)) ∙ one in
    let (x, h1, h2) = bind_is _ (head c d (opens ts).1) (a, t.symbol (rel_mark rel) ∷ after) start in
    let (y, h3, h4) = bind_is _ (closes c (expr c d) (opens ts).0 x.0 x.1) (a, t.symbol (rel_mark rel) ∷ after) h2 in
    let found = seeks c d (opens ts).0 x.0 a rel x.1 (t.symbol (rel_mark rel) ∷ after) y (omega (arith, head_shrinks c d ts x h1)) h3 h4 (relation-mark rel) in
    taken _ (head c d (opens ts).1) x _ h1 (taken _ (seek c (expr c d) (opens ts).0 x.0 x.1) ((0, rel, a), after) _ found (ap (option_and_then _) two))

-- one parenthesis more before a comparison
compare_more : (c : Rules) (ts rest : List Lexeme) (m : ℕ) (x : PlainTest) → paren (t.symbol s.OpenParen ∷ ts) ≡ Some ts → compare c ts ≡ Some ((m, x), rest) → compare c (t.symbol s.OpenParen ∷ ts) ≡ Some ((suc m, x), rest)
unfolding compare
compare_more c ts rest m x is h =
    let d = deepest c in
    let o = more_parens (t.symbol s.OpenParen ∷ ts) ts is in
    let (y, h1, h2) = bind_is _ (head c d (opens ts).1) ((m, x), rest) h in
    let (z, h3, h4) = bind_is _ (seek c (expr c d) (opens ts).0 y.0 y.1) ((m, x), rest) h2 in
    let (b, h5, h6) = bind_is _ (expr c d 4 z.1) ((m, x), rest) h4 in
    let q = some_pair_parts (z.0.0, (z.0.1, z.0.2, b.0)) (m, x) b.1 rest h6 in
    ap (λ (o : ℕ × List Lexeme). option_and_then (λ (y : PlainExpr × List Lexeme). option_and_then (λ (z : (ℕ × Rel × PlainExpr) × List Lexeme). option_and_then (λ (b : PlainExpr × List Lexeme). Some ((z.0.0, (z.0.1, z.0.2, b.0)), b.1)) (expr c d 4 z.1)) (seek c (expr c d) o.0 y.0 y.1)) (head c d o.1)) o
    ∙ ap (option_and_then _) h1 ∙ ap (option_and_then _) (seek_more c d (opens ts).0 z.0.0 z.0.2 z.0.1 y.0 y.1 z.1 h3) ∙ ap (option_and_then _) h5
    ∙ ap (λ (w : ℕ × PlainTest). Some ((suc w.0, w.1), b.1)) q.0 ∙ ap (λ r. Some ((suc m, x), r)) q.1

-- ---- conditions

-- no condition begins with the type of a cast
mutual
  unfolding expect same

  conj_no_type : {p : Bool} {m : ℕ} {ts rest : List Lexeme} {us : List PlainTest} → IsConj p m ts us rest → (expect s.Uint64 ts ≡ None) × (expect s.Unsigned ts ≡ None)
  conj_no_type (k.comparison rel da db) = no_type da.reads
  conj_no_type (k.grouped d) = (refl, refl)

  cond_no_type : {p : Bool} {m : ℕ} {ts rest : List Lexeme} {us : List PlainTest} → IsCond p m ts us rest → (expect s.Uint64 ts ≡ None) × (expect s.Unsigned ts ≡ None)
  cond_no_type (k.alone d) = conj_no_type d
  cond_no_type (k.joined d others) = conj_no_type d

mutual
  shorter_conj : {p : Bool} {m : ℕ} {ts rest : List Lexeme} {us : List PlainTest} → IsConj p m ts us rest → length rest < length ts
  shorter_conj (k.comparison rel da db) = omega (arith, shorter da.reads, shorter db.reads)
  shorter_conj (k.grouped d) = omega (arith, shorter_cond d)

  pub shorter_cond : {p : Bool} {m : ℕ} {ts rest : List Lexeme} {us : List PlainTest} → IsCond p m ts us rest → length rest < length ts
  shorter_cond (k.alone d) = shorter_conj d
  shorter_cond (k.joined d others) = omega (arith, shorter_conj d, shorter_cond others)

-- The first comparison, read.
abbrev pub First : Rules → List Lexeme → Type 0
First c ts = (m : ℕ) × (x : PlainTest) × (rest : List Lexeme) × (compare c ts ≡ Some ((m, x), rest))

-- Reading comes to the tests, with what follows them still to be read.
abbrev pub Comes : Rules → ℕ → ℕ → List PlainTest → List Lexeme → List PlainTest → List Lexeme → Type 0
Comes c n held acc ts us rest = (k : ℕ) × (length rest ≤ k) × (conds c n held acc ts ≡ after c (conds c k) (shut held rest) (acc ++ us))

pub conds_is : (c : Rules) (n held m : ℕ) (acc : List PlainTest) (x : PlainTest) (ts rest : List Lexeme) → 0 < n → compare c ts ≡ Some ((m, x), rest) → conds c n held acc ts ≡ after c (conds c (n - 1)) (shut (m + held) rest) (acc ++ x ∷ [])
unfolding conds
conds_is c zero held m acc x ts rest pos h = absurd (let no : ⊥ = omega arith in no)
conds_is c (suc n) held m acc x ts rest pos h = let e : n ≡ suc n - 1 = omega arith in ap (option_and_then _) h ∙ ap (λ j. after c (conds c j) (shut (m + held) rest) (acc ++ x ∷ [])) e

shut_closes : (held : ℕ) (rest : List Lexeme) → shut (suc held) (t.symbol s.CloseParen ∷ rest) ≡ shut held rest
unfolding shut
shut_closes held rest = ap (shut_by held (t.symbol s.CloseParen ∷ rest) (shut held rest)) (expect_self s.CloseParen rest)

shut_both : (held : ℕ) (rest : List Lexeme) → shut held (t.symbol s.AndAnd ∷ rest) ≡ (held, t.symbol s.AndAnd ∷ rest)
unfolding shut expect same
shut_both zero rest = refl
shut_both (suc held) rest = refl

-- a parenthesis of the condition
lifted : (c : Rules) (n held : ℕ) (acc : List PlainTest) (ts : List Lexeme) → 0 < n → paren (t.symbol s.OpenParen ∷ ts) ≡ Some ts → First c ts → conds c n held acc (t.symbol s.OpenParen ∷ ts) ≡ conds c n (suc held) acc ts
lifted c n held acc ts pos is (m, x, rest, h) =
    let e : suc m + held ≡ m + suc held = omega arith in
    conds_is c n held (suc m) acc x (t.symbol s.OpenParen ∷ ts) rest pos (compare_more c ts rest m x is h)
    ∙ ap (λ j. after c (conds c (n - 1)) (shut j rest) (acc ++ x ∷ [])) e
    ∙ sym (conds_is c n (suc held) m acc x ts rest pos h)

mutual
  conj_reaches : {p : Bool} {m : ℕ} {ts rest : List Lexeme} {us : List PlainTest} → IsConj p m ts us rest → (c : Rules) → c.printed ≡ p → c.limit ≡ m → length ts < c.turns → front_binds rest ≡ 0
      → First c ts × ((n held : ℕ) (acc : List PlainTest) → length ts ≤ n → Comes c n held acc ts us rest)
  conj_reaches {p = p} {ts = ts} {rest = rest} (k.comparison {after = second} {a = a} {b = b} rel da db) c is lim turns ends =
      let one = compare_here c rel ts second rest a b turns (subst (λ q. IsLow q c.limit 4 ts a (t.symbol (rel_mark rel) ∷ second)) (sym is) (subst (λ j. IsLow p j 4 ts a (t.symbol (rel_mark rel) ∷ second)) (sym lim) da)) (subst (λ q. IsLow q c.limit 4 second b rest) (sym is) (subst (λ j. IsLow p j 4 second b rest) (sym lim) db)) ends in (
        (0, (rel, a, b), rest, one),
        λ n held acc room. let e : 0 + held ≡ held = omega arith in
            (n - 1, omega (arith, shorter da.reads, shorter db.reads), conds_is c n held 0 acc (rel, a, b) ts rest (omega (arith, shorter da.reads)) one ∙ ap (λ j. after c (conds c (n - 1)) (shut j rest) (acc ++ (rel, a, b) ∷ [])) e),
      )
  conj_reaches {rest = rest} (k.grouped {ts = ts} {us = us} d) c is lim turns ends =
      let (first, comes) = cond_reaches d c is lim (omega arith) refl in
      let types = cond_no_type d in
      let opens = paren_opens ts types.0 types.1 in (
        (suc first.0, first.1, first.2, compare_more c ts first.2 first.0 first.1 opens first.3),
        λ n held acc room.
            let (j, more, h) = comes n (suc held) acc (omega arith) in
            (j, omega arith, lifted c n held acc ts (omega arith) opens first ∙ h ∙ ap (λ o. after c (conds c j) o (acc ++ us)) (shut_closes held rest)),
      )

  pub cond_reaches : {p : Bool} {m : ℕ} {ts rest : List Lexeme} {us : List PlainTest} → IsCond p m ts us rest → (c : Rules) → c.printed ≡ p → c.limit ≡ m → length ts < c.turns → front_binds rest ≡ 0
      → First c ts × ((n held : ℕ) (acc : List PlainTest) → length ts ≤ n → Comes c n held acc ts us rest)
  cond_reaches (k.alone d) c is lim turns ends = conj_reaches d c is lim turns ends
  cond_reaches {rest = rest} (k.joined {after = behind} {us = us} {vs = vs} d others) c is lim turns ends =
      let (first, comes) = conj_reaches d c is lim turns refl in
      let (first2, comes2) = cond_reaches others c is lim (omega (arith, shorter_conj d)) ends in (
        first,
        λ n held acc room.
            let (j, more, h) = comes n held acc room in
            let (i, less, h2) = comes2 j held (acc ++ us) (omega arith) in (
              i,
              less,
              h ∙ ap (λ o. after c (conds c j) o (acc ++ us)) (shut_both held behind) ∙ ap (after_by c (conds c j) held (acc ++ us) (t.symbol s.AndAnd ∷ behind)) (expect_self s.AndAnd behind)
                  ∙ h2 ∙ ap (λ ws. after c (conds c i) (shut held rest) ws) (append_assoc acc us vs),
            ),
      )

pub cond_complete : (c : Rules) (ts rest : List Lexeme) (us : List PlainTest) → IsCond c.printed c.limit ts us rest → length ts < c.turns → front_binds rest ≡ 0 → expect s.AndAnd rest ≡ None → conds c c.turns 0 [] ts ≡ Some (us, rest)
unfolding shut
cond_complete c ts rest us d turns ends none =
    let (first, comes) = cond_reaches d c refl refl turns ends in
    let (j, more, h) = comes c.turns 0 [] (omega arith) in
    h ∙ ap (after_by c (conds c j) 0 us rest) none
