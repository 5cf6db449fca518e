-- The function against the grammar.
use Rattle.std.proofs.Common.{◌≡◌, ◌<◌, ◌≤◌, List, [], ◌∷◌, length, Some, option_and_then, refl, ap, subst, arith, Bool}
use Rattle.std.proofs.lemmas.Option.{same_Some}
use Rattle.c_tree.specs.Plain.{PlainExpr, PlainTest}
use Rattle.c_tree.specs.Grammar.Lexemes.{Lexeme}
use Rattle.c_tree.specs.Grammar.Expressions.{IsExpr, IsLow, height}
use Rattle.grammar_reading.specs.declared.rules.Rules.{Rules}
use Rattle.grammar_reading.specs.Reading.{all_read, deepest, expr, whole, whole_cond, conds, expect}
use Rattle.grammar_reading.proofs.StepLemmas.{bind_is}
use Rattle.grammar_reading.proofs.Sound.{expr_sound}
use Rattle.grammar_reading.proofs.Complete.{finish}
use Rattle.c_tree.specs.Grammar.Conditions.{IsCond}
use Rattle.grammar_reading.proofs.Low.{expr_low}
use Rattle.grammar_reading.proofs.CondSound.{cond_sound}
use Rattle.grammar_reading.proofs.CondReaches.{cond_complete}
use Rattle.grammar_reading.proofs.Reaches.{reaches}

all_read_is : (p : Bool) (v u : PlainExpr) (ts rest : List Lexeme) → IsExpr p 1 ts v rest → all_read v rest ≡ Some u → IsExpr p 1 ts u []
all_read_is p v u ts [] d h = subst (λ w. IsExpr p 1 ts w []) (same_Some v u h) d
all_read_is p v u ts (t ∷ rest) d h = absurd (let no : ⊥ = cc in no)

all_is : {A : Type 0} (v u : A) (rest : List Lexeme) → all_read v rest ≡ Some u → v ≡ u
all_is v u [] h = same_Some v u h
all_is v u (t ∷ rest) h = absurd (let no : ⊥ = cc in no)

pub whole_sound : (c : Rules) → 1 ≤ c.limit → (ts : List Lexeme) (u : PlainExpr) → whole c ts ≡ Some u → IsLow c.printed c.limit 1 ts u []
unfolding whole
whole_sound c some ts u h =
    let (x, h1, h2) = bind_is _ (expr c (deepest c) 1 ts) u h in
    let d = ((expr_sound c (deepest c)).found 1 ts x.1 x.0 (omega arith) (omega arith) h1).0 in
    let low = expr_low c some (deepest c) 1 ts x.1 x.0 h1 in
    record { reads = all_read_is c.printed x.0 u ts x.1 d h2; low = subst (λ v. height v ≤ c.limit) (all_is x.0 u x.1 h2) low }

all_rest : {A : Type 0} (v u : A) (rest : List Lexeme) → all_read v rest ≡ Some u → rest ≡ []
all_rest v u [] h = refl
all_rest v u (t ∷ rest) h = absurd (let no : ⊥ = cc in no)

all_self : {A : Type 0} (u : A) → all_read u [] ≡ Some u
all_self u = refl

pub whole_cond_sound : (c : Rules) → 1 ≤ c.limit → (ts : List Lexeme) (us : List PlainTest) → whole_cond c ts ≡ Some us → IsCond c.printed c.limit ts us []
unfolding whole_cond
whole_cond_sound c some ts us h =
    let (x, h1, h2) = bind_is _ (conds c c.turns 0 [] ts) us h in
    subst (λ v. IsCond c.printed c.limit ts v []) (all_is x.0 us x.1 h2) (subst (λ r. IsCond c.printed c.limit ts x.0 r) (all_rest x.0 us x.1 h2) (cond_sound c some ts x.1 x.0 h1))

pub whole_complete : (c : Rules) (ts : List Lexeme) (u : PlainExpr) → length ts < c.turns → IsLow c.printed c.limit 1 ts u [] → whole c ts ≡ Some u
unfolding whole
whole_complete c ts u turns is =
    ap (option_and_then _) (finish c (deepest c) 1 ts [] u (omega arith) (reaches is.reads c refl (deepest c) 1 turns is.low (omega arith) (omega arith) (omega arith) is.low))

pub whole_cond_complete : (c : Rules) (ts : List Lexeme) (us : List PlainTest) → length ts < c.turns → IsCond c.printed c.limit ts us [] → whole_cond c ts ≡ Some us
unfolding whole_cond expect
whole_cond_complete c ts us turns d = ap (option_and_then _) (cond_complete c ts [] us d turns refl refl)
