-- A set of names beside a list of them.
use Rattle.std.proofs.Common.{◌≡◌, refl, ap, sym, subst, ◌∙◌, ◌||◌, Bool, true, false, cond, List, [], ◌∷◌, ◌++◌, bytes_eq, Bor}
use Rattle.std.proofs.lemmas.Slice.Eq.{bytes_eq-Decides}
use Rattle.std.specs.List.{list_any}
use Rattle.c_tree.specs.Names.{is_among}
use Rattle.c_tree.specs.Plain.{Word}
use Rattle.c_tree.specs.declared.name.Name.{Name}
use Rattle.scopes.specs.Intervals.{reversed}
use Rattle.scopes.specs.Names.{HasSameNames}
use Rattle.scopes.proofs.Lists.{reversed-push}

-- what is asked of a key
abbrev is_key : Word → Bor Word → Bool
is_key x k = bytes_eq x k.now

chosen : (x y : Word) (a b : Bool) → bytes_eq x y ≡ a → bytes_eq y x ≡ b → a ≡ b
chosen x y true true p q = refl
chosen x y true false p q = sym (sym q ∙ (bytes_eq-Decides y x).1 (sym ((bytes_eq-Decides x y).0 p)))
chosen x y false true p q = sym p ∙ (bytes_eq-Decides x y).1 (sym ((bytes_eq-Decides y x).0 q))
chosen x y false false p q = refl

pub bytes_eq-sym : (x y : Word) → bytes_eq x y ≡ bytes_eq y x
bytes_eq-sym x y = chosen x y (bytes_eq x y) (bytes_eq y x) refl refl

or_moved : (a b c : Bool) → (a || (b || c)) ≡ (b || (a || c))
or_moved true true c = refl
or_moved true false c = refl
or_moved false b c = refl

any-push : (x : Word) (keys : List (Bor Word)) (k : Bor Word) → list_any (is_key x) (keys ++ k ∷ []) ≡ (bytes_eq x k.now || list_any (is_key x) keys)
any-push x [] k = refl
any-push x (l ∷ ls) k = ap (λ b. bytes_eq x l.now || b) (any-push x ls k) ∙ or_moved (bytes_eq x l.now) (bytes_eq x k.now) (list_any (is_key x) ls)

there : (keys : List (Bor Word)) (names : List (Bor Name)) (y x : Word) (v : Bool) → HasSameNames keys names → list_any (is_key y) keys ≡ true → bytes_eq y x ≡ v
    → list_any (is_key x) keys ≡ (v || is_among (reversed names) x)
there keys names y x true same h e = subst (λ (z : Word). list_any (is_key z) keys ≡ true) ((bytes_eq-Decides y x).0 e) h
there keys names y x false same h e = same x

-- one name more
pub added : (keys new : List (Bor Word)) (names more : List (Bor Name)) (k : Bor Word) (n : Bor Name) → HasSameNames keys names → k.now ≡ n.now.bytes
    → new ≡ cond (list_any (λ (b : Bor Word). bytes_eq k.now b.now) keys) keys (keys ++ k ∷ []) → more ≡ names ++ n ∷ [] → HasSameNames new more
added keys new names more k n same is made pushed x =
    ap (list_any (is_key x)) made ∙ by (list_any (is_key k.now) keys) refl ∙ ap (λ (y : Word). bytes_eq y x || is_among (reversed names) x) is
    ∙ sym (ap (λ (ns : List (Bor Name)). is_among (reversed ns) x) pushed ∙ ap (λ (ws : List Word). is_among ws x) (reversed-push names n))
  where
    by : (b : Bool) → list_any (is_key k.now) keys ≡ b → list_any (is_key x) (cond b keys (keys ++ k ∷ [])) ≡ (bytes_eq k.now x || is_among (reversed names) x)
    by true h = there keys names k.now x (bytes_eq k.now x) same h refl
    by false h = any-push x keys k ∙ ap (λ b. b || list_any (is_key x) keys) (bytes_eq-sym x k.now) ∙ ap (λ b. bytes_eq k.now x || b) (same x)
