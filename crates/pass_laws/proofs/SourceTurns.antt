-- The run of a source makes its turns, under every fault: its loops and tests don't depend on what memory holds.
use Rattle.std.proofs.Common.{◌≡◌, ◌≢◌, ℕ, suc, ◌+◌, Bool, true, false, not, cond, List, [], ◌∷◌, sum_by, refl, sym, ap, ◌∙◌, subst, arith, ℤ, None}
use Rattle.std.proofs.lemmas.List.Sums.{sum_by-cons}
use Rattle.c_tree.specs.Plain.{Word, PlainStmt, loop, choice, assign, table, begin, check, verdict, PlainStmts, no_stmts, more_stmts}
use Rattle.c_tree.specs.Values.{Vars, signed, loop_values}
use Rattle.c_tree.specs.Arrays.{Array, vars_of}
use Rattle.c_tree.specs.Inputs.{arrays_for, memory_for}
use Rattle.instrumentation.specs.Names.{number_in}
use Rattle.instrumentation.specs.Guarded.{array_names}
use Rattle.c_tree.specs.Run.{State, Outcome, goes_on, ends, plain, struck_at_end, Run, and_then, Scope, assigned, all_hold, turn, over, exec, exec_all, is_printed, started, result}
use Rattle.instrumentation_laws.specs.AccessList.{tests_hold}
use Rattle.instrumentation_laws.proofs.Steps.{all_hold_is}
use Rattle.pass_laws.specs.Countable.{IsCountable, AreCountable}
use Rattle.pass_laws.specs.Going.{GoesTo, WhereGoing, Turned, Makes}
use Rattle.pass_laws.specs.Laws.{SourcesTurn, UnitsTurn}
use Rattle.pass_laws.specs.Turns.{turns, turns_all}
use Rattle.pass_laws.proofs.Steps.{affine_tests}
use Rattle.pass_laws.proofs.Evaluated.{Arrives}
use Rattle.pass_laws.proofs.Steady.{Steady, calm_assigned, calm_tests}
use Rattle.pass_laws.proofs.Turned.{spun_then, spun_none, spun_turn}

pub going_then : {A B : Type 0} (P Q : State → Type 0) (o : Outcome A) (f : A → Run B) → WhereGoing P o → ((a : A) (t : State) → P t → WhereGoing Q (f a t)) → WhereGoing Q (and_then o f)
going_then P Q (goes_on a t) f p h = h a t p
going_then P Q (ends e t) f p h = tt

pub going_weaker : {A : Type 0} (P Q : State → Type 0) (o : Outcome A) → ((t : State) → P t → Q t) → WhereGoing P o → WhereGoing Q o
going_weaker P Q (goes_on a t) h p = h t p
going_weaker P Q (ends e t) h p = tt

pub spun_steady : {A : Type 0} (o : Outcome A) (s : State) → Arrives (Steady s) o → WhereGoing (Makes 0 s) o
spun_steady (goes_on a t) s h = record { begun = h.begun; turned = record { body = h.body ∙ (spun_none s).turned.body; prologue = h.prologue ∙ (spun_none s).turned.prologue } }
spun_steady (ends e t) s h = tt

-- ---- statements

pub spun_on : (n m : ℕ) (s t : State) (o : Outcome (Unit {0})) → Makes n s t → WhereGoing (Makes m t) o → WhereGoing (Makes (n + m) s) o
spun_on n m s t o p = going_weaker (Makes m t) (Makes (n + m) s) o (λ u q. spun_then n m s t u p q)

module _ (sc : Scope) (arrays : List Array) (number : Word → ℕ) where
  pub over_turns : (f : ℤ → Run (Unit {0})) (n : ℤ → ℕ) → ((v : ℤ) (s : State) → WhereGoing (Makes (n v) s) (f v s)) → (vals : List ℤ) (s : State) → WhereGoing (Makes (sum_by n vals) s) (over f vals s)
  over_turns f n h [] s = spun_none s
  over_turns f n h (v ∷ vals) s =
      subst (λ k. WhereGoing (Makes k s) (over f (v ∷ vals) s)) (sym (sum_by-cons n v vals))
      (going_then (Makes (n v) s) (Makes (n v + sum_by n vals) s) (f v s) (λ u. over f vals) (h v s) (λ u t p. spun_on (n v) (sum_by n vals) s t (over f vals t) p (over_turns f n h vals t)))

  pub body_turn : (body : PlainStmts) (vs : Vars) (n : ℕ) → ((s : State) → WhereGoing (Makes n s) (exec_all sc body vs s)) → (s : State) → WhereGoing (Makes (suc n) s) (and_then (turn s) (λ u. exec_all sc body vs))
  body_turn body vs n h s =
      subst (λ k. WhereGoing (Makes k s) (and_then (turn s) (λ u. exec_all sc body vs))) (let e : 1 + n ≡ suc n = omega arith in e)
      (going_then (Makes 1 s) (Makes (1 + n) s) (turn s) (λ u. exec_all sc body vs) (gone (turn s) (spun_turn s)) (λ u t p. spun_on 1 n s t (exec_all sc body vs t) p (h t)))
    where
      gone : (o : Outcome (Unit {0})) → GoesTo (Makes 1 s) o → WhereGoing (Makes 1 s) o
      gone (goes_on u t) p = p
      gone (ends e t) p = absurd p

  pub chosen_turns : (b : Bool) (n m : ℕ) (s : State) (p q : Run (Unit {0})) → WhereGoing (Makes n s) (p s) → WhereGoing (Makes m s) (q s) → WhereGoing (Makes (cond b n m) s) (cond b p q s)
  chosen_turns true n m s p q h g = h
  chosen_turns false n m s p q h g = g

  mutual
    source_turns : (p : PlainStmt) (vs : Vars) → IsCountable arrays number p vs → (s : State) → WhereGoing (Makes (turns p vs) s) (exec sc p vs s)
    source_turns (loop x lo rel hi body) vs h s =
        over_turns (λ v. λ t. and_then (turn t) (λ u. exec_all sc body ((x, v) ∷ vs))) (λ v. suc (turns_all body ((x, v) ∷ vs)))
        (λ v. body_turn body ((x, v) ∷ vs) (turns_all body ((x, v) ∷ vs)) (source_turns_all body ((x, v) ∷ vs) (h.3 v))) (loop_values (signed lo vs) rel (signed hi vs)) s
    source_turns (choice ts first other) vs h s =
        subst (λ o. WhereGoing (Makes (cond (tests_hold ts vs) (turns_all first vs) (turns_all other vs)) s) (and_then o (λ b. cond b (exec_all sc first vs) (exec_all sc other vs)))) (sym (all_hold_is sc ts vs s (affine_tests ts vs h.0)))
        (chosen_turns (tests_hold ts vs) (turns_all first vs) (turns_all other vs) s (exec_all sc first vs) (exec_all sc other vs) (source_turns_all first vs h.1 s) (source_turns_all other vs h.2 s))
    source_turns (assign t op e) vs h s = spun_steady (assigned sc t op e vs s) s (calm_assigned sc t op e vs s)
    source_turns (table x len) vs h s = absurd h
    source_turns begin vs h s = absurd h
    source_turns (check x extent a) vs h s = absurd h
    source_turns verdict vs h s = absurd h

    pub source_turns_all : (ps : PlainStmts) (vs : Vars) → AreCountable arrays number ps vs → (s : State) → WhereGoing (Makes (turns_all ps vs) s) (exec_all sc ps vs s)
    source_turns_all no_stmts vs h s = spun_none s
    source_turns_all (more_stmts p ps) vs h s =
        going_then (Makes (turns p vs) s) (Makes (turns p vs + turns_all ps vs) s) (exec sc p vs s) (λ u. exec_all sc ps vs) (source_turns p vs h.0 s)
        (λ u t q. spun_on (turns p vs) (turns_all ps vs) s t (exec_all sc ps vs t) q (source_turns_all ps vs h.1 t))

pub sources_turn : SourcesTurn
sources_turn sc arrays number body vs h s = going_weaker (Makes (turns_all body vs) s) (Turned (turns_all body vs) s) (exec_all sc body vs s) (λ t k. k.turned) (source_turns_all sc arrays number body vs h s)

-- ---- no end is plain

abbrev NeverPlain : {A : Type 0} → Outcome A → Type 0
NeverPlain (goes_on a t) = Unit {0}
NeverPlain (ends e t) = e ≢ plain

never_then : {A B : Type 0} (o : Outcome A) (f : A → Run B) → NeverPlain o → ((a : A) (t : State) → NeverPlain (f a t)) → NeverPlain (and_then o f)
never_then (goes_on a t) f p h = h a t
never_then (ends e t) f p h = p

never_calm : {A : Type 0} (o : Outcome A) (P : State → Type 0) → Arrives P o → NeverPlain o
never_calm (goes_on a t) P h = tt
never_calm (ends e t) P h = h.1

never_turn : (s : State) → NeverPlain (turn s)
never_turn s = chosen s.begun
  where
    chosen : (b : Bool) → NeverPlain (let o : Outcome (Unit {0}) = goes_on tt (cond b (record s { body_turns = s.body_turns + 1 }) (record s { prologue_turns = s.prologue_turns + 1 })) in o)
    chosen true = tt
    chosen false = tt

never_over : (f : ℤ → Run (Unit {0})) → ((v : ℤ) (s : State) → NeverPlain (f v s)) → (vals : List ℤ) (s : State) → NeverPlain (over f vals s)
never_over f h [] s = tt
never_over f h (v ∷ vals) s = never_then (f v s) (λ u. over f vals) (h v s) (λ u t. never_over f h vals t)

never_if : (b : Bool) (p q : Run (Unit {0})) (s : State) → NeverPlain (p s) → NeverPlain (q s) → NeverPlain (cond b p q s)
never_if true p q s h g = h
never_if false p q s h g = g

module _ (sc : Scope) (arrays : List Array) (number : Word → ℕ) where
  mutual
    never_plain : (p : PlainStmt) (vs : Vars) → IsCountable arrays number p vs → (s : State) → NeverPlain (exec sc p vs s)
    never_plain (loop x lo rel hi body) vs h s =
        never_over (λ v. λ t. and_then (turn t) (λ u. exec_all sc body ((x, v) ∷ vs)))
        (λ v t. never_then (turn t) (λ u. exec_all sc body ((x, v) ∷ vs)) (never_turn t) (λ u w. all_never_plain body ((x, v) ∷ vs) (h.3 v) w)) (loop_values (signed lo vs) rel (signed hi vs)) s
    never_plain (choice ts first other) vs h s =
        never_then (all_hold sc ts vs s) (λ b. cond b (exec_all sc first vs) (exec_all sc other vs)) (never_calm (all_hold sc ts vs s) (Steady s) (calm_tests sc ts vs s))
        (λ b t. never_if b (exec_all sc first vs) (exec_all sc other vs) t (all_never_plain first vs h.1 t) (all_never_plain other vs h.2 t))
    never_plain (assign t op e) vs h s = never_calm (assigned sc t op e vs s) (Steady s) (calm_assigned sc t op e vs s)
    never_plain (table x len) vs h s = absurd h
    never_plain begin vs h s = absurd h
    never_plain (check x extent a) vs h s = absurd h
    never_plain verdict vs h s = absurd h

    all_never_plain : (ps : PlainStmts) (vs : Vars) → AreCountable arrays number ps vs → (s : State) → NeverPlain (exec_all sc ps vs s)
    all_never_plain no_stmts vs h s = tt
    all_never_plain (more_stmts p ps) vs h s = never_then (exec sc p vs s) (λ u. exec_all sc ps vs) (never_plain p vs h.0 s) (λ u t. all_never_plain ps vs h.1 t)

-- ---- units

turns_in : (printed : Bool) (sc : Scope) (o : Outcome (Unit {0})) (n : ℕ) (s : State) → sc.fault ≡ None → s.begun ≡ true → s.body_turns ≡ 0 → (result printed sc o).verdict ≡ plain → NeverPlain o → WhereGoing (Turned n s) o → (result printed sc o).body_turns ≡ n
turns_in printed sc (goes_on u t) n s calm begun none v never h =
    ap (λ f. (struck_at_end f t).body_turns) calm ∙ h.body ∙ ap (λ b. s.body_turns + cond b n 0) begun ∙ ap (λ k. k + n) none ∙ (let e : 0 + n ≡ n = omega arith in e)
turns_in printed sc (ends e t) n s calm begun none v never h = absurd (never v)

pub units_turn : UnitsTurn
units_turn u i h version ends_plain =
    let vs : Vars = vars_of u.params i.ints in
    let sc : Scope = record { arrays = arrays_for u i.ints; wides = u.wides; fault = None } in
    let s : State = started u (memory_for u i) in
    turns_in (is_printed u.version) sc (exec_all sc u.body vs s) (turns_all u.body vs) s refl (ap (λ v. not (is_printed v)) version) refl ends_plain
    (all_never_plain sc (arrays_for u i.ints) (number_in (array_names u.params)) u.body vs h s)
    (sources_turn sc (arrays_for u i.ints) (number_in (array_names u.params)) u.body vs h s)
