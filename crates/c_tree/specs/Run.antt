-- What a unit does: the run over its tree, of a source and of a printed unit, under a fault at any place.
use Rattle.std.specs.Prelude.{ℕ, suc, ◌+◌, ◌*◌, ◌^◌, Bool, true, false, not, ◌&&◌, if◌then◌else◌, nat_lt, nat_le, nat_eq, List, [], ◌∷◌, ◌++◌, length, replicate, ℤ, pos, Option, Some, None, bytes_eq, slice_index, slice_set, codes, decimal}
use Rattle.std.specs.List.{list_any}
use Rattle.c_tree.specs.Plain.{Word, PlainExpr, lit, var, cell, un, bin, cast, test, umin, umax, least, greatest, widen, big, PlainExprs, no_exprs, more_exprs, PlainTest, PlainStmt, loop, choice, assign, table, begin, check, verdict, PlainStmts, no_stmts, more_stmts, PlainUnit}
use Rattle.c_tree.specs.Kinds.{join, is_signed, is_word}
use Rattle.c_tree.specs.Values.{Vars, signed, as_word, as_wide, word_un, word_bin, wide_bin, signed_holds, word_holds, as_bit, loop_values, kind}
use Rattle.c_tree.specs.Arrays.{Array, Memory, stored, array_named, is_within, words_from, arrays_of, vars_of}
use Rattle.c_tree.specs.Accesses.{Access}
use Rattle.c_tree.specs.Fault.{Fault, Upset, upset_of, inverted, disturbed}
use Rattle.c_tree.specs.Instances.{literal_of}
use Rattle.c_tree.specs.Inputs.{PlainInputs, memory_for}
use Rattle.c_tree.specs.declared.expr.BinOp.{BinOp}

-- one load or store, with the word that was read or written
pub record Event : Type 0 where
  pub access : Access
  pub value : ℕ

pub record State : Type 0 where
  pub memory : Memory
  pub words : Word → ℕ
  pub wides : Word → ℕ
  pub tables : Word → List ℕ
  pub made : List ℕ
  pub begun : Bool
  pub accesses : List Event
  pub prologue_turns : ℕ
  pub body_turns : ℕ

-- why a run ends
pub data End : Type 0 where
  plain : End
  balanced : End
  fault : List ℕ → End
  index : ℕ → End
  outside : ℕ → End

-- a run goes on with a value, or it ends
pub data Outcome (A : Type 0) : Type 0 where
  goes_on : A → State → Outcome A
  ends : End → State → Outcome A

abbrev pub Run : Type 0 → Type 0
Run A = State → Outcome A

abbrev pub and_then : {A B : Type 0} → Outcome A → (A → Run B) → Outcome B
and_then (goes_on a s) f = f a s
and_then (ends e s) f = ends e s

infixl 10 ◌>>=◌
abbrev pub ◌>>=◌ : {A B : Type 0} → Run A → (A → Run B) → Run B
p >>= f = λ s. and_then (p s) f

infixl 10 ◌>>◌
abbrev pub ◌>>◌ : {A B : Type 0} → Run A → Run B → Run B
p >> q = p >>= (λ _. q)

abbrev pub give : {A : Type 0} → A → Run A
give a = λ s. goes_on a s

abbrev pub done : Run (Unit {0})
done = give tt

abbrev pub end_as : {A : Type 0} → End → Run A
end_as e = λ s. ends e s

abbrev pub changes : (State → State) → Run (Unit {0})
changes f = λ s. goes_on tt (f s)

abbrev pub reads : {A : Type 0} → (State → A) → Run A
reads f = λ s. goes_on (f s) s

-- what stays the same in a run: the arrays, the wide names and the fault
pub record Scope : Type 0 where
  pub arrays : List Array
  pub wides : List Word
  pub fault : Option Upset

-- ---- names

abbrev pub put : {A : Type 0} → (Word → A) → Word → A → Word → A
put f x a = λ y. if bytes_eq x y then a else f y

abbrev pub set_word : Word → ℕ → Run (Unit {0})
set_word x n = changes (λ s. record s { words = put s.words x n })

abbrev pub set_wide : Word → ℕ → Run (Unit {0})
set_wide x n = changes (λ s. record s { wides = put s.wides x n })

abbrev pub set_entry : Word → ℕ → ℕ → Run (Unit {0})
set_entry x i n = changes (λ s. record s { tables = put s.tables x (slice_set (s.tables x) i n) })

abbrev pub make_table : Word → ℕ → Run (Unit {0})
make_table x n = changes (λ s. record s { tables = put s.tables x (replicate n 0); made = s.made ++ n ∷ [] })

-- ---- accesses

-- the fault comes immediately before the access with its number
abbrev pub struck : Option Upset → State → State
struck None s = s
struck (Some f) s = if s.begun then record s { memory = disturbed (Some f) (length s.accesses) s.memory } else s

-- accesses are told apart from those before `begin`, which aren't kept
abbrev pub logged : ℕ → List ℤ → Bool → ℕ → State → State
logged a cs writes n s =
    if s.begun then record s { accesses = s.accesses ++ record { access = record { array = a; cell = cs; writes = writes }; value = n } ∷ [] } else s

abbrev pub loads : Scope → ℕ → List ℤ → Run ℕ
loads sc a cs = λ s. let t = struck sc.fault s in goes_on (t.memory a cs) (logged a cs false (t.memory a cs) t)

abbrev pub stores : Scope → ℕ → List ℤ → ℕ → Run (Unit {0})
stores sc a cs n = λ s. let t = struck sc.fault s in goes_on tt (logged a cs true n (record t { memory = stored t.memory a cs n }))

-- an access outside its extents ends the run, and isn't made
abbrev pub within : {A : Type 0} → ℕ × Array → List ℤ → (ℕ → List ℤ → Run A) → Run A
within a cs go = if is_within cs a.1.extents then go a.0 cs else end_as (outside a.0)

-- the first for an array, the second for a table
abbrev pub by_array : {A : Type 0} → Option (ℕ × Array) → (ℕ × Array → A) → A → A
by_array None f t = t
by_array (Some a) f t = f a

-- ---- expressions

abbrev mutual
  pub word : Scope → PlainExpr → Vars → Run ℕ
  word sc (lit n) vs = give n
  word sc (var x) vs = reads (λ s. s.words x)
  word sc (cell x at) vs = by_array (array_named sc.arrays x)
      (λ a. coordinates sc at vs >>= (λ cs. within a cs (loads sc)))
      (first_word sc at vs >>= (λ i. reads (λ s. slice_index (s.tables x) i)))
  word sc (un op a) vs = word sc a vs >>= (λ x. give (word_un op x))
  word sc (bin op a b) vs = word sc a vs >>= (λ x. word sc b vs >>= (λ y. give (word_bin op x y)))
  word sc (cast a) vs = if is_signed (kind vs a) then give (as_word (signed a vs)) else word sc a vs
  word sc (test rel a b) vs = word sc a vs >>= (λ x. word sc b vs >>= (λ y. give (as_bit (word_holds rel x y))))
  word sc (umin a b) vs = word sc a vs >>= (λ x. word sc b vs >>= (λ y. give (if nat_lt x y then x else y)))
  word sc (umax a b) vs = word sc a vs >>= (λ x. word sc b vs >>= (λ y. give (if nat_lt x y then y else x)))
  word sc (least a b) vs = give 0
  word sc (greatest a b) vs = give 0
  word sc (widen a) vs = give 0
  word sc (big high low) vs = give 0

  pub coordinates : Scope → PlainExprs → Vars → Run (List ℤ)
  coordinates sc no_exprs vs = give []
  coordinates sc (more_exprs e es) vs =
      (if is_word (kind vs e) then word sc e vs >>= (λ n. give (pos n)) else give (signed e vs))
      >>= (λ c. coordinates sc es vs >>= (λ cs. give (c ∷ cs)))

  pub first_word : Scope → PlainExprs → Vars → Run ℕ
  first_word sc no_exprs vs = give 0
  first_word sc (more_exprs e es) vs = word sc e vs

abbrev pub wide : Scope → PlainExpr → Vars → Run ℕ
wide sc (lit n) vs = give n
wide sc (var x) vs = reads (λ s. s.wides x)
wide sc (cell x at) vs = give 0
wide sc (un op a) vs = give 0
wide sc (bin op a b) vs = wide sc a vs >>= (λ x. wide sc b vs >>= (λ y. give (wide_bin op x y)))
wide sc (cast a) vs = give 0
wide sc (test rel a b) vs = give 0
wide sc (umin a b) vs = give 0
wide sc (umax a b) vs = give 0
wide sc (least a b) vs = give 0
wide sc (greatest a b) vs = give 0
wide sc (widen a) vs = if is_signed (kind vs a) then give (as_wide (signed a vs)) else word sc a vs
wide sc (big high low) vs = give (high * 2 ^ 64 + low)

abbrev pub holds : Scope → PlainTest → Vars → Run Bool
holds sc t vs =
    if is_word (join (kind vs t.1) (kind vs t.2))
    then word sc t.1 vs >>= (λ x. word sc t.2 vs >>= (λ y. give (word_holds t.0 x y)))
    else give (signed_holds t.0 (signed t.1 vs) (signed t.2 vs))

abbrev pub all_hold : Scope → List PlainTest → Vars → Run Bool
all_hold sc [] vs = give true
all_hold sc (t ∷ ts) vs = holds sc t vs >>= (λ b. if b then all_hold sc ts vs else give false)

-- ---- statements

-- the old value first, where there is an operator
abbrev pub updated : (BinOp → ℕ → ℕ → ℕ) → Option BinOp → Run ℕ → Run ℕ → Run ℕ
updated f None old new = new
updated f (Some op) old new = old >>= (λ x. new >>= (λ y. give (f op x y)))

-- the subscripts of the target, the old cell of a compound assignment, the right side, and last the write, each access with its own test of the extents
abbrev pub assigned : Scope → PlainExpr → Option BinOp → PlainExpr → Vars → Run (Unit {0})
assigned sc (var x) op e vs =
    if list_any (bytes_eq x) sc.wides
    then updated wide_bin op (reads (λ s. s.wides x)) (wide sc e vs) >>= set_wide x
    else (updated word_bin op (reads (λ s. s.words x)) (word sc e vs) >>= set_word x)
assigned sc (cell x at) op e vs = by_array (array_named sc.arrays x)
    (λ a. coordinates sc at vs >>= (λ cs. updated word_bin op (within a cs (loads sc)) (word sc e vs) >>= (λ n. within a cs (λ k c. stores sc k c n))))
    (first_word sc at vs >>= (λ i. updated word_bin op (reads (λ s. slice_index (s.tables x) i)) (word sc e vs) >>= set_entry x i))
assigned sc _ op e vs = done

abbrev pub turn : Run (Unit {0})
turn = changes (λ s. if s.begun then record s { body_turns = s.body_turns + 1 } else record s { prologue_turns = s.prologue_turns + 1 })

-- a body for each value in turn
abbrev pub over : (ℤ → Run (Unit {0})) → List ℤ → Run (Unit {0})
over f [] = done
over f (v ∷ vs) = f v >> over f vs

-- the name of a total
abbrev pub numbered : Word → ℕ → Word
numbered x k = x ++ decimal k

abbrev pub disagree : State → ℕ → Bool
disagree s k = not (nat_eq (s.wides (numbered (codes "bal_def") k)) (s.wides (numbered (codes "bal_use") k)))

abbrev pub unbalanced : State → ℕ → List Array → List ℕ
unbalanced s k [] = []
unbalanced s k (a ∷ more) = if disagree s k then k ∷ unbalanced s (suc k) more else unbalanced s (suc k) more

abbrev pub judged : List ℕ → End
judged [] = balanced
judged (k ∷ ks) = fault (k ∷ ks)

abbrev mutual
  pub exec : Scope → PlainStmt → Vars → Run (Unit {0})
  exec sc (loop x lo rel hi body) vs =
      over (λ v. turn >> exec_all sc body ((x, v) ∷ vs)) (loop_values (signed lo vs) rel (signed hi vs))
  exec sc (choice ts first other) vs =
      all_hold sc ts vs >>= (λ b. if b then exec_all sc first vs else exec_all sc other vs)
  exec sc (assign target op e) vs = assigned sc target op e vs
  exec sc (table x len) vs = word sc len vs >>= make_table x
  exec sc begin vs = changes (λ s. record s { begun = true })
  exec sc (check x extent a) vs =
      reads (λ s. s.words x) >>= (λ n. if nat_lt n (as_word (signed extent vs)) then done else end_as (index a))
  exec sc verdict vs = λ s. ends (judged (unbalanced s 0 sc.arrays)) s

  pub exec_all : Scope → PlainStmts → Vars → Run (Unit {0})
  exec_all sc no_stmts vs = done
  exec_all sc (more_stmts s ss) vs = exec sc s vs >> exec_all sc ss vs

-- ---- units

pub record Ended : Type 0 where
  pub verdict : End
  pub arrays : List (List ℕ)
  pub totals : List (ℕ × ℕ)
  pub accesses : List Event
  pub prologue_turns : ℕ
  pub body_turns : ℕ
  pub tables : List ℕ

-- as the run ends the fault comes, where no access of its number was made, and never before `begin`
abbrev pub struck_at_end : Option Upset → State → State
struck_at_end None s = s
struck_at_end (Some f) s = if s.begun && nat_le (length s.accesses) f.place then record s { memory = inverted f s.memory } else s

abbrev pub totals_of : State → ℕ → List Array → List (ℕ × ℕ)
totals_of s k [] = []
totals_of s k (a ∷ more) = (s.wides (numbered (codes "bal_def") k), s.wides (numbered (codes "bal_use") k)) ∷ totals_of s (suc k) more

abbrev pub result_of : Bool → Scope → End → State → Ended
result_of printed sc e s = let t = struck_at_end sc.fault s in record {
  verdict = e;
  arrays = words_from t.memory 0 sc.arrays;
  totals = if printed then totals_of t 0 sc.arrays else [];
  accesses = t.accesses;
  prologue_turns = t.prologue_turns;
  body_turns = t.body_turns;
  tables = t.made;
}

abbrev pub result : Bool → Scope → Outcome (Unit {0}) → Ended
result printed sc (goes_on u s) = result_of printed sc plain s
result printed sc (ends e s) = result_of printed sc e s

abbrev pub is_printed : Option ℕ → Bool
is_printed None = false
is_printed (Some n) = true

abbrev pub started : PlainUnit → Memory → State
started u m = record {
  memory = m;
  words = literal_of u.words;
  wides = λ x. 0;
  tables = λ x. [];
  made = [];
  begun = not (is_printed u.version);
  accesses = [];
  prologue_turns = 0;
  body_turns = 0;
}

-- the run from these parameters and words of memory, under an upset
abbrev pub run_from : PlainUnit → List ℤ → Memory → Option Upset → Ended
run_from u ns m f =
    let vs = vars_of u.params ns in
    let sc : Scope = record { arrays = arrays_of vs u.params; wides = u.wides; fault = f } in
    result (is_printed u.version) sc (exec_all sc u.body vs (started u m))

-- The run of a unit on these inputs, under this fault.
abbrev pub run : PlainUnit → PlainInputs → Option Fault → Ended
run u i f = run_from u i.ints (memory_for u i) (upset_of (arrays_of (vars_of u.params i.ints) u.params) f)

-- the verdict of a run tells of a fault
abbrev pub Reports : End → Type 0
Reports plain = ⊥
Reports balanced = ⊥
Reports (fault arrays) = Unit {0}
Reports (index a) = Unit {0}
Reports (outside a) = ⊥

-- the turns of a source's run
abbrev pub turns : PlainUnit → PlainInputs → ℕ
turns u i = (run u i None).body_turns
