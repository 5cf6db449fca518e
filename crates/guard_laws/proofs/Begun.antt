-- Once a text has begun, it has begun wherever its run ends.
use Rattle.std.proofs.Common.{◌≡◌, true, false, List, [], ◌∷◌, ◌++◌, length, refl, sym, ap, ◌∙◌, Option}
use Rattle.c_tree.specs.Plain.{Word, PlainStmts}
use Rattle.c_tree.specs.Values.{Vars}
use Rattle.c_tree.specs.Arrays.{Array}
use Rattle.c_tree.specs.Fault.{Upset}
use Rattle.c_tree.specs.Run.{Event, State, Outcome, goes_on, ends, exec_all}
use Rattle.run_laws.specs.Logs.{values_in}
use Rattle.instrumentation_laws.specs.Setting.{scope_of}
use Rattle.instrumentation_laws.proofs.Steps.{event}
use Rattle.guard_laws.proofs.Determined.{IsCalm, Agree, state_of as state_in, same_course}
use Rattle.guard_laws.specs.Guards.{state_of}

value_here : (pre : List Event) (e : Event) (xs : List Event) → values_in (pre ++ (e ∷ xs)) (length pre) ≡ e.value
value_here [] e xs = refl
value_here (p ∷ pre) e xs = value_here pre e xs

calm : (l : List Event) → IsCalm l l
calm l pre a cs v w xs ys p q =
    sym (value_here pre (event a cs false v) xs) ∙ ap (λ k. values_in k (length pre)) (p ∙ sym q) ∙ value_here pre (event a cs false w) ys

begun_in : (o q : Outcome (Unit {0})) → Agree o q → (state_of o).begun ≡ true
begun_in (goes_on a s) (goes_on b t) h = h.1
begun_in (ends e s) (ends f t) h = h.1
begun_in (goes_on a s) (ends f t) h = absurd h
begun_in (ends e s) (goes_on b t) h = absurd h

pub begun_stays : (arrays : List Array) (wides : List Word) (fault : Option Upset) (p : PlainStmts) (vs : Vars) (s : State) → s.begun ≡ true → (state_of (exec_all (scope_of arrays wides fault) p vs s)).begun ≡ true
begun_stays arrays wides fault p vs s b =
    let o : Outcome (Unit {0}) = exec_all (scope_of arrays wides fault) p vs s in
    begun_in o o (same_course arrays wides fault fault (state_in o).accesses (state_in o).accesses (calm (state_in o).accesses) p vs s s.memory b refl refl)
