-- Runs that go on: what one step gives or does, and what two in a row do.
use Rattle.std.proofs.Common.{◌≡◌, ℕ, true, List, [], ◌++◌, Option, Some, None, refl, sym, ap, ◌∙◌, subst, append_assoc}
use Rattle.std.proofs.lemmas.List.{append-nil, map-append}
use Rattle.c_tree.specs.Values.{word_bin}
use Rattle.c_tree.specs.Arrays.{Memory}
use Rattle.c_tree.specs.Accesses.{Access}
use Rattle.c_tree.specs.Instances.{Store, old_cell, combined}
use Rattle.c_tree.specs.Run.{Event, State, goes_on, Run, ◌>>=◌, ◌>>◌, and_then, give, updated}
use Rattle.c_tree.specs.declared.expr.BinOp.{BinOp}
use Rattle.run_laws.specs.Logs.{accesses_in}
use Rattle.run_laws.specs.Laws.{store_of}
use Rattle.run_laws.proofs.Replayed.{left, IsReplay, left-append, replay_both}

abbrev pub with_log : List Event → State → State
with_log xs s = record s { accesses = s.accesses ++ xs }

accesses-append : (xs ys : List Event) → accesses_in (xs ++ ys) ≡ accesses_in xs ++ accesses_in ys
accesses-append xs ys = map-append (λ (e : Event). e.access) xs ys

-- p goes on to a state with this store, having made these accesses alone, each read of which gave what its cell held
pub record Does (p : Run (Unit {0})) (s : State) (store : Store) (list : List Access) : Type 0 where
  pub to : State
  pub is : p s ≡ goes_on tt to
  pub begun : to.begun ≡ true
  pub store_is : store_of to ≡ store
  pub events : List Event
  pub log : to.accesses ≡ s.accesses ++ events
  pub made : accesses_in events ≡ list
  pub replays : IsReplay s.memory events
  pub left_is : left s.memory events ≡ to.memory

pub does_then : (p q : Run (Unit {0})) (s : State) (m n : Store) (xs ys : List Access) → Does p s m xs →
    ((t : State) → t.begun ≡ true → store_of t ≡ m → Does q t n ys) → Does (p >> q) s n (xs ++ ys)
does_then p q s m n xs ys g h = let k = h g.to g.begun g.store_is in record {
  to = k.to;
  is = ap (λ o. and_then o (λ (u : Unit {0}). q)) g.is ∙ k.is;
  begun = k.begun;
  store_is = k.store_is;
  events = g.events ++ k.events;
  log = k.log ∙ ap (λ l. l ++ k.events) g.log ∙ append_assoc s.accesses g.events k.events;
  made = accesses-append g.events k.events ∙ ap (λ l. l ++ accesses_in k.events) g.made ∙ ap (λ l. xs ++ l) k.made;
  replays = replay_both s.memory g.events k.events g.replays (subst (λ (w : Memory). IsReplay w k.events) (sym g.left_is) k.replays);
  left_is = left-append s.memory g.events k.events ∙ ap (λ (w : Memory). left w k.events) g.left_is ∙ k.left_is;
}

with_more : (xs ys : List Event) (s : State) → with_log ys (with_log xs s) ≡ with_log (xs ++ ys) s
with_more xs ys s = ap (λ (l : List Event). record s { accesses = l }) (append_assoc s.accesses xs ys)

with_none : (s : State) → s ≡ with_log [] s
with_none s = ap (λ (l : List Event). record s { accesses = l }) (sym (append-nil s.accesses))

-- p goes on with a, having made these reads alone, each of which gave what its cell held
pub record Gives {A : Type 0} (p : Run A) (s : State) (a : A) (list : List Access) : Type 0 where
  pub events : List Event
  pub is : p s ≡ goes_on a (with_log events s)
  pub made : accesses_in events ≡ list
  pub replays : IsReplay s.memory events
  pub left_is : left s.memory events ≡ s.memory

pub gives_only : {A : Type 0} (p : Run A) (s : State) (a : A) → p s ≡ goes_on a s → Gives p s a []
gives_only p s a e = record { events = []; is = e ∙ ap (goes_on a) (with_none s); made = refl; replays = tt; left_is = refl }

pub gives_then : {A B : Type 0} (p : Run A) (f : A → Run B) (s : State) (a : A) (b : B) (xs ys : List Access) → Gives p s a xs →
    ((l : List Event) → Gives (f a) (with_log l s) b ys) → Gives (p >>= f) s b (xs ++ ys)
gives_then p f s a b xs ys g h = let k = h g.events in record {
  events = g.events ++ k.events;
  is = ap (λ o. and_then o f) g.is ∙ k.is ∙ ap (goes_on b) (with_more g.events k.events s);
  made = accesses-append g.events k.events ∙ ap (λ l. l ++ accesses_in k.events) g.made ∙ ap (λ l. xs ++ l) k.made;
  replays = replay_both s.memory g.events k.events g.replays (subst (λ (w : Memory). IsReplay w k.events) (sym g.left_is) k.replays);
  left_is = left-append s.memory g.events k.events ∙ ap (λ (w : Memory). left w k.events) g.left_is ∙ k.left_is;
}

-- a function of what p gives
pub gives_map : {A B : Type 0} (p : Run A) (f : A → B) (s : State) (a : A) (xs : List Access) → Gives p s a xs → Gives (p >>= (λ x. give (f x))) s (f a) xs
gives_map p f s a xs g = record { events = g.events; is = ap (λ o. and_then o (λ x. give (f x))) g.is; made = g.made; replays = g.replays; left_is = g.left_is }

pub gives_does : {A : Type 0} (p : Run A) (f : A → Run (Unit {0})) (s : State) (a : A) (st : Store) (xs ys : List Access) → Gives p s a xs →
    ((l : List Event) → Does (f a) (with_log l s) st ys) → Does (p >>= f) s st (xs ++ ys)
gives_does p f s a st xs ys g h = let k = h g.events in record {
  to = k.to;
  is = ap (λ o. and_then o f) g.is ∙ k.is;
  begun = k.begun;
  store_is = k.store_is;
  events = g.events ++ k.events;
  log = k.log ∙ append_assoc s.accesses g.events k.events;
  made = accesses-append g.events k.events ∙ ap (λ l. l ++ accesses_in k.events) g.made ∙ ap (λ l. xs ++ l) k.made;
  replays = replay_both s.memory g.events k.events g.replays (subst (λ (w : Memory). IsReplay w k.events) (sym g.left_is) k.replays);
  left_is = left-append s.memory g.events k.events ∙ ap (λ (w : Memory). left w k.events) g.left_is ∙ k.left_is;
}

-- two values, from left to right, and what is made of them
pub two_give : (f : ℕ → ℕ → ℕ) (p q : Run ℕ) (s : State) (x y : ℕ) (xs ys : List Access) → Gives p s x xs →
    ((l : List Event) → Gives q (with_log l s) y ys) → Gives (p >>= (λ x. q >>= (λ y. give (f x y)))) s (f x y) (xs ++ ys)
two_give f p q s x y xs ys g h =
    gives_then p (λ x. q >>= (λ y. give (f x y))) s x (f x y) xs ys g (λ l. gives_map q (f x) (with_log l s) y ys (h l))

pub updated_gives : (op : Option BinOp) (old new : Run ℕ) (s : State) (x y : ℕ) (xs ys : List Access) → Gives old s x xs →
    ((l : List Event) → Gives new (with_log l s) y ys) → Gives new s y ys → Gives (updated word_bin op old new) s (combined op x y) (old_cell op xs ++ ys)
updated_gives None old new s x y xs ys g h k = k
updated_gives (Some op) old new s x y xs ys g h k = two_give (word_bin op) old new s x y xs ys g h
