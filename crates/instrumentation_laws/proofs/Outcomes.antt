-- What holds where a run goes on.
use Rattle.c_tree.specs.Run.{State, End, Outcome, goes_on, ends, Run, and_then}

-- a run goes on, and this holds, or it ended and the other
abbrev pub IfGoing : {A : Type 0} → Type 0 → (A → State → Type 0) → Outcome A → Type 0
IfGoing bad P (goes_on a s) = P a s
IfGoing bad P (ends e s) = bad

pub going_then : {A B : Type 0} (bad : Type 0) (P : A → State → Type 0) (Q : B → State → Type 0) (o : Outcome A) (f : A → Run B) → IfGoing bad P o →
    ((a : A) (s : State) → P a s → IfGoing bad Q (f a s)) → IfGoing bad Q (and_then o f)
going_then bad P Q (goes_on a s) f p h = h a s p
going_then bad P Q (ends e s) f p h = p

pub going_weaker : {A : Type 0} (bad : Type 0) (P Q : A → State → Type 0) (o : Outcome A) → IfGoing bad P o → ((a : A) (s : State) → P a s → Q a s) → IfGoing bad Q o
going_weaker bad P Q (goes_on a s) p h = h a s p
going_weaker bad P Q (ends e s) p h = p

-- a run goes on, and this holds
abbrev pub MustGo : {A : Type 0} → (A → State → Type 0) → Outcome A → Type 0
MustGo P o = IfGoing ⊥ P o

-- ---- going on, or ending so

abbrev pub GoesOr : (End → State → Type 0) → (State → Type 0) → Outcome (Unit {0}) → Type 0
GoesOr Bad P (goes_on u s) = P s
GoesOr Bad P (ends e s) = Bad e s

pub then_or : (Bad : End → State → Type 0) (P Q : State → Type 0) (o : Outcome (Unit {0})) (f : Unit {0} → Run (Unit {0})) → GoesOr Bad P o → ((s : State) → P s → GoesOr Bad Q (f tt s)) → GoesOr Bad Q (and_then o f)
then_or Bad P Q (goes_on u s) f p h = h s p
then_or Bad P Q (ends e s) f p h = p
