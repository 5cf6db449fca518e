-- Two memories give a source lists of accesses that differ only in the cells of arrays that aren't trusted, where the subscripts of all others have the same values.
use Rattle.std.proofs.Common.{◌≡◌, ◌⊎◌, ℕ, ◌+◌, Bool, true, false, cond, if◌then◌else◌, List, [], ◌∷◌, ◌++◌, map, flat_map, refl, sym, ap, ◌∙◌, ℤ, pos, Option, Some, None, inl, inr}
use Rattle.std.proofs.lemmas.List.{map-append}
use Rattle.std.specs.List.{AllByRecursion, list_all}
use Rattle.c_tree.specs.Plain.{Word, PlainExpr, lit, var, cell, un, bin, cast, test, umin, umax, least, greatest, widen, big, PlainExprs, no_exprs, more_exprs, PlainStmt, loop, choice, assign, table, begin, check, verdict, PlainStmts, no_stmts, more_stmts}
use Rattle.c_tree.specs.Values.{Vars, exact, loop_values}
use Rattle.c_tree.specs.Arrays.{Array, Memory, array_named, is_within}
use Rattle.c_tree.specs.Accesses.{Access}
use Rattle.c_tree.specs.Instances.{Instance, sites, sites_all, test_is_true, instances, instances_all, word_within, word_at, exact_all, subscripts, access_at, access_of, reads_of, reads_of_all, old_cell, accesses_of, Tagged, tagged_of, core_of}
use Rattle.c_tree.specs.declared.expr.BinOp.{BinOp}
use Rattle.balance_laws.specs.Independence.{StandsIn, StandsAmong, StandsInStmt, StandsInStmts, IsIndexedBy}

-- ---- lists

pub all_of_both : {A : Type 0} (P : A → Type 0) (xs ys : List A) → AllByRecursion P xs → AllByRecursion P ys → AllByRecursion P (xs ++ ys)
all_of_both P [] ys h k = k
all_of_both P (x ∷ xs) ys h k = (h.0, all_of_both P xs ys h.1 k)

all_of_each : {A B : Type 0} (P : B → Type 0) (f : A → List B) (xs : List A) → ((x : A) → AllByRecursion P (f x)) → AllByRecursion P (flat_map f xs)
all_of_each P f [] h = tt
all_of_each P f (x ∷ xs) h = all_of_both P (f x) (flat_map f xs) (h x) (all_of_each P f xs h)

-- what is seen of an access
abbrev pub View : Type 0
View = ℕ × Bool × List ℤ

module _ (trusted : ℕ → Bool) where
  abbrev pub view : Access → View
  view x = (x.array, x.writes, if trusted x.array then x.cell else [])

  -- and of one with its instance
  abbrev pub tagged_view : Tagged → View × ℕ × Vars
  tagged_view t = (view t.access, t.site, t.vars)

module _ (arrays : List Array) (m n : Memory) (trusted : ℕ → Bool) where
  -- the subscripts of a cell have the same values, where its array is trusted
  abbrev pub AreSame : Word → PlainExprs → Vars → Type 0
  AreSame x at vs = (a : ℕ × Array) → array_named arrays x ≡ Some a → trusted a.0 ≡ true → subscripts arrays m at vs ≡ subscripts arrays n at vs

  abbrev SameViews : List Access → List Access → Type 0
  SameViews xs ys = map (view trusted) xs ≡ map (view trusted) ys

  both : (xs ys xs' ys' : List Access) → SameViews xs ys → SameViews xs' ys' → SameViews (xs ++ xs') (ys ++ ys')
  both xs ys xs' ys' h k = map-append (view trusted) xs xs' ∙ ap (λ l. l ++ map (view trusted) xs') h ∙ ap (λ l. map (view trusted) ys ++ l) k ∙ sym (map-append (view trusted) ys ys')

  access_same : (x : Word) (at : PlainExprs) (vs : Vars) (w : Bool) → AreSame x at vs → SameViews (access_of arrays m x at vs w) (access_of arrays n x at vs w)
  access_same x at vs w h = chosen (array_named arrays x) h
    where
      seen : (a : ℕ) (b : Bool) (cs ds : List ℤ) → (b ≡ true → cs ≡ ds) → (let v : View = (a, w, if b then cs else []) in v) ≡ (a, w, if b then ds else [])
      seen a true cs ds e = ap (λ l. let v : View = (a, w, l) in v) (e refl)
      seen a false cs ds e = refl

      chosen : (o : Option (ℕ × Array)) → ((a : ℕ × Array) → o ≡ Some a → trusted a.0 ≡ true → subscripts arrays m at vs ≡ subscripts arrays n at vs) →
          SameViews (access_at o (subscripts arrays m at vs) w) (access_at o (subscripts arrays n at vs) w)
      chosen None e = refl
      chosen (Some a) e = ap (λ (v : View). v ∷ []) (seen a.0 (trusted a.0) (subscripts arrays m at vs) (subscripts arrays n at vs) (λ t. e a refl t))

  mutual
    reads_same : (e : PlainExpr) (vs : Vars) → ((x : Word) (at : PlainExprs) → StandsIn x at e → AreSame x at vs) → SameViews (reads_of arrays m e vs) (reads_of arrays n e vs)
    reads_same (lit n) vs h = refl
    reads_same (var x) vs h = refl
    reads_same (cell x at) vs h = both (reads_of_all arrays m at vs) (reads_of_all arrays n at vs) (access_of arrays m x at vs false) (access_of arrays n x at vs false) (all_reads_same at vs (λ y es o. h y es (inr o))) (access_same x at vs false (h x at (inl (refl, refl))))
    reads_same (un op a) vs h = reads_same a vs h
    reads_same (bin op a b) vs h = both (reads_of arrays m a vs) (reads_of arrays n a vs) (reads_of arrays m b vs) (reads_of arrays n b vs) (reads_same a vs (λ y es o. h y es (inl o))) (reads_same b vs (λ y es o. h y es (inr o)))
    reads_same (cast a) vs h = reads_same a vs h
    reads_same (test rel a b) vs h = both (reads_of arrays m a vs) (reads_of arrays n a vs) (reads_of arrays m b vs) (reads_of arrays n b vs) (reads_same a vs (λ y es o. h y es (inl o))) (reads_same b vs (λ y es o. h y es (inr o)))
    reads_same (umin a b) vs h = both (reads_of arrays m a vs) (reads_of arrays n a vs) (reads_of arrays m b vs) (reads_of arrays n b vs) (reads_same a vs (λ y es o. h y es (inl o))) (reads_same b vs (λ y es o. h y es (inr o)))
    reads_same (umax a b) vs h = both (reads_of arrays m a vs) (reads_of arrays n a vs) (reads_of arrays m b vs) (reads_of arrays n b vs) (reads_same a vs (λ y es o. h y es (inl o))) (reads_same b vs (λ y es o. h y es (inr o)))
    reads_same (least a b) vs h = refl
    reads_same (greatest a b) vs h = refl
    reads_same (widen a) vs h = reads_same a vs h
    reads_same (big high low) vs h = refl

    all_reads_same : (es : PlainExprs) (vs : Vars) → ((x : Word) (at : PlainExprs) → StandsAmong x at es → AreSame x at vs) → SameViews (reads_of_all arrays m es vs) (reads_of_all arrays n es vs)
    all_reads_same no_exprs vs h = refl
    all_reads_same (more_exprs e es) vs h = both (reads_of arrays m e vs) (reads_of arrays n e vs) (reads_of_all arrays m es vs) (reads_of_all arrays n es vs) (reads_same e vs (λ y at o. h y at (inl o))) (all_reads_same es vs (λ y at o. h y at (inr o)))

  -- ---- instances

  old_same : (op : Option BinOp) (xs ys : List Access) → SameViews xs ys → SameViews (old_cell op xs) (old_cell op ys)
  old_same None xs ys h = refl
  old_same (Some op) xs ys h = h

  abbrev instance_of : ℕ → PlainExpr → Option BinOp → PlainExpr → Vars → Instance
  instance_of k target op e vs = record { site = k; target = target; op = op; value = e; vars = vs }

  made_same : (k : ℕ) (target : PlainExpr) (op : Option BinOp) (e : PlainExpr) (vs : Vars) → ((x : Word) (at : PlainExprs) → StandsIn x at target ⊎ StandsIn x at e → AreSame x at vs) →
      SameViews (accesses_of arrays m (instance_of k target op e vs)) (accesses_of arrays n (instance_of k target op e vs))
  made_same k (cell x at) op e vs h =
      let here = h x at (inl (inl (refl, refl))) in
      let old : List Access → List Access = old_cell op in
      both (reads_of_all arrays m at vs) (reads_of_all arrays n at vs)
      (old (access_of arrays m x at vs false) ++ (reads_of arrays m e vs ++ access_of arrays m x at vs true)) (old (access_of arrays n x at vs false) ++ (reads_of arrays n e vs ++ access_of arrays n x at vs true))
      (all_reads_same at vs (λ y es o. h y es (inl (inr o))))
      (both (old (access_of arrays m x at vs false)) (old (access_of arrays n x at vs false)) (reads_of arrays m e vs ++ access_of arrays m x at vs true) (reads_of arrays n e vs ++ access_of arrays n x at vs true)
      (old_same op (access_of arrays m x at vs false) (access_of arrays n x at vs false) (access_same x at vs false here))
      (both (reads_of arrays m e vs) (reads_of arrays n e vs) (access_of arrays m x at vs true) (access_of arrays n x at vs true) (reads_same e vs (λ y es o. h y es (inr o))) (access_same x at vs true here)))
  made_same k (lit n) op e vs h = reads_same e vs (λ y es o. h y es (inr o))
  made_same k (var x) op e vs h = reads_same e vs (λ y es o. h y es (inr o))
  made_same k (un o a) op e vs h = reads_same e vs (λ y es o. h y es (inr o))
  made_same k (bin o a b) op e vs h = reads_same e vs (λ y es o. h y es (inr o))
  made_same k (cast a) op e vs h = reads_same e vs (λ y es o. h y es (inr o))
  made_same k (test rel a b) op e vs h = reads_same e vs (λ y es o. h y es (inr o))
  made_same k (umin a b) op e vs h = reads_same e vs (λ y es o. h y es (inr o))
  made_same k (umax a b) op e vs h = reads_same e vs (λ y es o. h y es (inr o))
  made_same k (least a b) op e vs h = reads_same e vs (λ y es o. h y es (inr o))
  made_same k (greatest a b) op e vs h = reads_same e vs (λ y es o. h y es (inr o))
  made_same k (widen a) op e vs h = reads_same e vs (λ y es o. h y es (inr o))
  made_same k (big high low) op e vs h = reads_same e vs (λ y es o. h y es (inr o))

  abbrev SameInstance : Instance → Type 0
  SameInstance i = SameViews (accesses_of arrays m i) (accesses_of arrays n i)

  mutual
    instances_same : (k : ℕ) (s : PlainStmt) (vs : Vars) → ((x : Word) (at : PlainExprs) (vs : Vars) → StandsInStmt x at s → AreSame x at vs) → AllByRecursion SameInstance (instances k s vs)
    instances_same k (loop x lo rel hi body) vs h = all_of_each SameInstance (λ v. instances_all k body ((x, v) ∷ vs)) (loop_values (exact lo vs) rel (exact hi vs)) (λ v. all_instances_same k body ((x, v) ∷ vs) h)
    instances_same k (choice ts yes_body no_body) vs h = chosen (list_all (test_is_true vs) ts) (all_instances_same k yes_body vs (λ y at w o. h y at w (inl o))) (all_instances_same (k + sites_all yes_body) no_body vs (λ y at w o. h y at w (inr o)))
      where
        chosen : (b : Bool) → AllByRecursion SameInstance (instances_all k yes_body vs) → AllByRecursion SameInstance (instances_all (k + sites_all yes_body) no_body vs) →
            AllByRecursion SameInstance (cond b (instances_all k yes_body vs) (instances_all (k + sites_all yes_body) no_body vs))
        chosen true p q = p
        chosen false p q = q
    instances_same k (assign target op e) vs h = (made_same k target op e vs (λ x at o. h x at vs o), tt)
    instances_same k (table x len) vs h = tt
    instances_same k begin vs h = tt
    instances_same k (check x extent a) vs h = tt
    instances_same k verdict vs h = tt

    all_instances_same : (k : ℕ) (body : PlainStmts) (vs : Vars) → ((x : Word) (at : PlainExprs) (vs : Vars) → StandsInStmts x at body → AreSame x at vs) → AllByRecursion SameInstance (instances_all k body vs)
    all_instances_same k no_stmts vs h = tt
    all_instances_same k (more_stmts s ss) vs h = all_of_both SameInstance (instances k s vs) (instances_all (k + sites s) ss vs) (instances_same k s vs (λ y at w o. h y at w (inl o))) (all_instances_same (k + sites s) ss vs (λ y at w o. h y at w (inr o)))

  -- ---- the list

  abbrev SameTagged : List Tagged → List Tagged → Type 0
  SameTagged ts us = map (tagged_view trusted) ts ≡ map (tagged_view trusted) us

  tags_are : (i : Instance) (xs : List Access) → map (tagged_view trusted) (map (λ a. let t : Tagged = record { access = a; site = i.site; vars = i.vars } in t) xs) ≡ map (λ (v : View). let p : View × ℕ × Vars = (v, i.site, i.vars) in p) (map (view trusted) xs)
  tags_are i [] = refl
  tags_are i (x ∷ xs) = ap (λ l. tagged_view trusted (record { access = x; site = i.site; vars = i.vars }) ∷ l) (tags_are i xs)

  list_same : (is : List Instance) → AllByRecursion SameInstance is → SameTagged (flat_map (tagged_of arrays m) is) (flat_map (tagged_of arrays n) is)
  list_same [] h = refl
  list_same (i ∷ is) h =
      let here : SameTagged (tagged_of arrays m i) (tagged_of arrays n i) =
      tags_are i (accesses_of arrays m i) ∙ ap (map (λ (v : View). let p : View × ℕ × Vars = (v, i.site, i.vars) in p)) h.0 ∙ sym (tags_are i (accesses_of arrays n i)) in
      map-append (tagged_view trusted) (tagged_of arrays m i) (flat_map (tagged_of arrays m) is) ∙
      ap (λ l. l ++ map (tagged_view trusted) (flat_map (tagged_of arrays m) is)) here ∙
      ap (λ l. map (tagged_view trusted) (tagged_of arrays n i) ++ l) (list_same is h.1) ∙
      sym (map-append (tagged_view trusted) (tagged_of arrays n i) (flat_map (tagged_of arrays n) is))

  pub core_same : (body : PlainStmts) (vs : Vars) → ((x : Word) (at : PlainExprs) (vs : Vars) → StandsInStmts x at body → AreSame x at vs) → SameTagged (core_of arrays m body vs) (core_of arrays n body vs)
  core_same body vs h = list_same (instances_all 0 body vs) (all_instances_same 0 body vs h)

  -- ---- subscripts

  -- they have the same values where those of their cells are the same
  pub subscripts_same : (at : PlainExprs) (vs : Vars) → ((y : Word) → IsIndexedBy y at → (c : List ℤ) → word_at arrays m y c ≡ word_at arrays n y c) → subscripts arrays m at vs ≡ subscripts arrays n at vs
  subscripts_same no_exprs vs h = refl
  subscripts_same (more_exprs (lit n) at) vs h = ap (λ cs. exact (lit n) vs ∷ cs) (subscripts_same at vs h)
  subscripts_same (more_exprs (var x) at) vs h = ap (λ cs. exact (var x) vs ∷ cs) (subscripts_same at vs h)
  subscripts_same (more_exprs (cell y es) at) vs h = ap (λ k. pos k ∷ subscripts arrays m at vs) (h y (inl refl) (exact_all es vs)) ∙ ap (λ cs. pos (word_at arrays n y (exact_all es vs)) ∷ cs) (subscripts_same at vs (λ z o c. h z (inr o) c))
  subscripts_same (more_exprs (un op a) at) vs h = ap (λ cs. exact (un op a) vs ∷ cs) (subscripts_same at vs h)
  subscripts_same (more_exprs (bin op a b) at) vs h = ap (λ cs. exact (bin op a b) vs ∷ cs) (subscripts_same at vs h)
  subscripts_same (more_exprs (cast a) at) vs h = ap (λ cs. exact (cast a) vs ∷ cs) (subscripts_same at vs h)
  subscripts_same (more_exprs (test rel a b) at) vs h = ap (λ cs. exact (test rel a b) vs ∷ cs) (subscripts_same at vs h)
  subscripts_same (more_exprs (umin a b) at) vs h = ap (λ cs. exact (umin a b) vs ∷ cs) (subscripts_same at vs h)
  subscripts_same (more_exprs (umax a b) at) vs h = ap (λ cs. exact (umax a b) vs ∷ cs) (subscripts_same at vs h)
  subscripts_same (more_exprs (least a b) at) vs h = ap (λ cs. exact (least a b) vs ∷ cs) (subscripts_same at vs h)
  subscripts_same (more_exprs (greatest a b) at) vs h = ap (λ cs. exact (greatest a b) vs ∷ cs) (subscripts_same at vs h)
  subscripts_same (more_exprs (widen a) at) vs h = ap (λ cs. exact (widen a) vs ∷ cs) (subscripts_same at vs h)
  subscripts_same (more_exprs (big high low) at) vs h = ap (λ cs. exact (big high low) vs ∷ cs) (subscripts_same at vs h)

  pub word_same : (y : Word) (c : List ℤ) → ((a : ℕ × Array) → array_named arrays y ≡ Some a → m a.0 c ≡ n a.0 c) → word_at arrays m y c ≡ word_at arrays n y c
  word_same y c h = chosen (array_named arrays y) h
    where
      chosen : (o : Option (ℕ × Array)) → ((a : ℕ × Array) → o ≡ Some a → m a.0 c ≡ n a.0 c) → word_within m o c ≡ word_within n o c
      chosen None e = refl
      chosen (Some a) e = ap (λ v. if is_within c a.1.extents then v else 0) (e a refl)
