-- Elements of joined lists, of the turns of a loop, and of the accesses of one assignment.
use Rattle.std.proofs.Common.{◌≡◌, ℕ, zero, suc, ◌+◌, true, false, List, [], ◌∷◌, ◌++◌, length, map, flat_map, refl, sym, ap, ◌∙◌, subst, arith, ℤ, Option, Some, None, ◌⊎◌, inl, inr, true≢false}
use Rattle.std.specs.Prelude.{slice_get}
use Rattle.c_tree.specs.Plain.{Word, PlainExpr, lit, var, cell, un, bin, cast, test, umin, umax, least, greatest, widen, big, PlainExprs, no_exprs, more_exprs}
use Rattle.c_tree.specs.Values.{Vars}
use Rattle.c_tree.specs.Arrays.{Array, Memory}
use Rattle.c_tree.specs.Accesses.{Access}
use Rattle.c_tree.specs.Instances.{Tagged}
use Rattle.instrumentation.proofs.Subscripts.{cell_or_not, not_by_cell}
use Rattle.instrumentation_laws.specs.AccessList.{cell_access, cell_write, tag}
use Rattle.instrumentation_laws.specs.IndexedList.{index_reads, read_access, all_reads}

pub none_some : {X : Type 0} → (x : X) → (let n : Option X = None in n) ≡ Some x → ⊥
none_some x e = cc

-- an element of a joined list
pub get_joined : {X : Type 0} → (l r : List X) (n : ℕ) (t : X) → slice_get (l ++ r) n ≡ Some t → (slice_get l n ≡ Some t) ⊎ ((k : ℕ) × (n ≡ length l + k) × (slice_get r k ≡ Some t))
get_joined [] r n t h = inr (n, omega arith, h)
get_joined (x ∷ l) r zero t h = inl h
get_joined (x ∷ l) r (suc n) t h =
    elim (get_joined l r n t h) [
      | inl a ↦ inl a
      | inr b ↦ inr (b.0, (let e = b.1 in omega arith), b.2)
    ]

-- an element of a loop's list
pub get_turn : {X : Type 0} → (items : ℤ → List X) (vals : List ℤ) (n : ℕ) (t : X) → slice_get (flat_map items vals) n ≡ Some t → (v : ℤ) × (k : ℕ) × (slice_get (items v) k ≡ Some t)
get_turn items [] n t h = absurd (none_some t h)
get_turn items (v ∷ vals) n t h =
    elim (get_joined (items v) (flat_map items vals) n t h) [
      | inl a ↦ (v, n, a)
      | inr b ↦ get_turn items vals b.0 t b.2
    ]

-- an element of a tagged list
get_tagged : (k : ℕ) (vs : Vars) (l : List Access) (n : ℕ) (t : Tagged) → slice_get (map (tag k vs) l) n ≡ Some t → (t.site ≡ k) × (t.vars ≡ vs) × (slice_get l n ≡ Some t.access)
get_tagged k vs [] n t h = absurd (none_some t h)
get_tagged k vs (x ∷ l) zero t h =
    let e : tag k vs x ≡ t = cc in
    (sym (ap (λ (u : Tagged). u.site) e), sym (ap (λ (u : Tagged). u.vars) e), ap (λ (u : Tagged). let o : Option Access = Some u.access in o) e)
get_tagged k vs (x ∷ l) (suc n) t h = get_tagged k vs l n t h

-- reads are reads
indices_read : (number : Word → ℕ) (at : PlainExprs) (vs : Vars) (n : ℕ) (x : Access) → slice_get (index_reads number at vs) n ≡ Some x → x.writes ≡ false
indices_read number no_exprs vs n x h = absurd (none_some x h)
indices_read number (more_exprs e es) vs n x h =
    cell_or_not (λ e. slice_get (index_reads number (more_exprs e es) vs) n ≡ Some x → x.writes ≡ false)
    (λ p at h. first (cell_access number p at vs false) n refl (λ k. indices_read number es vs k x) h)
    (λ e other h. indices_read number es vs n x (subst (λ l. slice_get l n ≡ Some x) (not_by_cell e (λ p at. cell_access number p at vs false ∷ index_reads number es vs) (index_reads number es vs) other) h))
    e h
  where
    first : (y : Access) (n : ℕ) → y.writes ≡ false → ((k : ℕ) → slice_get (index_reads number es vs) k ≡ Some x → x.writes ≡ false) → slice_get (y ∷ index_reads number es vs) n ≡ Some x → x.writes ≡ false
    first y zero r rest h = (let e : y ≡ x = cc in sym (ap (λ (u : Access). u.writes) e) ∙ r)
    first y (suc n) r rest h = rest n h

reads_two : (arrays : List Array) (m : Memory) (number : Word → ℕ) (a b : PlainExpr) (vs : Vars) (n : ℕ) (x : Access) → ((n : ℕ) → slice_get (all_reads arrays m number a vs) n ≡ Some x → x.writes ≡ false) → ((n : ℕ) → slice_get (all_reads arrays m number b vs) n ≡ Some x → x.writes ≡ false) →
    slice_get (all_reads arrays m number a vs ++ all_reads arrays m number b vs) n ≡ Some x → x.writes ≡ false
reads_two arrays m number a b vs n x f g h =
    elim (get_joined (all_reads arrays m number a vs) (all_reads arrays m number b vs) n x h) [
      | inl p ↦ f n p
      | inr p ↦ g p.0 p.2
    ]

reads_read : (arrays : List Array) (m : Memory) (number : Word → ℕ) (e : PlainExpr) (vs : Vars) (n : ℕ) (x : Access) → slice_get (all_reads arrays m number e vs) n ≡ Some x → x.writes ≡ false
reads_read arrays m number (lit k) vs n x h = absurd (none_some x h)
reads_read arrays m number (var y) vs n x h = absurd (none_some x h)
reads_read arrays m number (cell y at) vs n x h =
    elim (get_joined (index_reads number at vs) (read_access arrays m number y at vs ∷ []) n x h) [
      | inl p ↦ indices_read number at vs n x p
      | inr p ↦ one_read p.0 p.2
    ]
  where
    one_read : (k : ℕ) → slice_get (read_access arrays m number y at vs ∷ []) k ≡ Some x → x.writes ≡ false
    one_read zero e = (let f : read_access arrays m number y at vs ≡ x = cc in sym (ap (λ (u : Access). u.writes) f))
    one_read (suc k) e = absurd (none_some x e)
reads_read arrays m number (un op a) vs n x h = reads_read arrays m number a vs n x h
reads_read arrays m number (bin op a b) vs n x h = reads_two arrays m number a b vs n x (λ n. reads_read arrays m number a vs n x) (λ n. reads_read arrays m number b vs n x) h
reads_read arrays m number (cast a) vs n x h = reads_read arrays m number a vs n x h
reads_read arrays m number (test rel a b) vs n x h = reads_two arrays m number a b vs n x (λ n. reads_read arrays m number a vs n x) (λ n. reads_read arrays m number b vs n x) h
reads_read arrays m number (umin a b) vs n x h = reads_two arrays m number a b vs n x (λ n. reads_read arrays m number a vs n x) (λ n. reads_read arrays m number b vs n x) h
reads_read arrays m number (umax a b) vs n x h = reads_two arrays m number a b vs n x (λ n. reads_read arrays m number a vs n x) (λ n. reads_read arrays m number b vs n x) h
reads_read arrays m number (least a b) vs n x h = absurd (none_some x h)
reads_read arrays m number (greatest a b) vs n x h = absurd (none_some x h)
reads_read arrays m number (widen a) vs n x h = absurd (none_some x h)
reads_read arrays m number (big high low) vs n x h = absurd (none_some x h)

-- the write of an assignment
pub record IsWriteOf (number : Word → ℕ) (k : ℕ) (target : PlainExpr) (vs : Vars) (before n : ℕ) (t : Tagged) : Type 0 where
  pub position : n ≡ before
  pub site_is : t.site ≡ k
  pub vars_is : t.vars ≡ vs
  pub name : Word
  pub at : PlainExprs
  pub target_is : target ≡ cell name at
  pub access_is : t.access ≡ cell_access number name at vs true

pub assign_write : (arrays : List Array) (m : Memory) (number : Word → ℕ) (k : ℕ) (target e : PlainExpr) (vs : Vars) (n : ℕ) (t : Tagged) → slice_get (map (tag k vs) (all_reads arrays m number e vs ++ cell_write number target vs)) n ≡ Some t → t.access.writes ≡ true →
    IsWriteOf number k target vs (length (all_reads arrays m number e vs)) n t
assign_write arrays m number k target e vs n t h w =
    let p : (t.site ≡ k) × (t.vars ≡ vs) × (slice_get (all_reads arrays m number e vs ++ cell_write number target vs) n ≡ Some t.access) = get_tagged k vs (all_reads arrays m number e vs ++ cell_write number target vs) n t h in
    elim (get_joined (all_reads arrays m number e vs) (cell_write number target vs) n t.access p.2) [
      | inl r ↦ absurd (true≢false (sym w ∙ reads_read arrays m number e vs n t.access r))
      | inr b ↦ last target b.0 b.1 b.2 p.0 p.1
    ]
  where
    last : (target : PlainExpr) (j : ℕ) → n ≡ length (all_reads arrays m number e vs) + j → slice_get (cell_write number target vs) j ≡ Some t.access → t.site ≡ k → t.vars ≡ vs → IsWriteOf number k target vs (length (all_reads arrays m number e vs)) n t
    last (cell x at) zero i g s v =
        let e : cell_access number x at vs true ≡ t.access = cc in
        record { position = omega arith; site_is = s; vars_is = v; name = x; at = at; target_is = refl; access_is = sym e }
    last (cell x at) (suc j) i g s v = absurd (none_some t.access g)
    last (lit m) j i g s v = absurd (none_some t.access g)
    last (var x) j i g s v = absurd (none_some t.access g)
    last (un op a) j i g s v = absurd (none_some t.access g)
    last (bin op a b) j i g s v = absurd (none_some t.access g)
    last (cast a) j i g s v = absurd (none_some t.access g)
    last (test rel a b) j i g s v = absurd (none_some t.access g)
    last (umin a b) j i g s v = absurd (none_some t.access g)
    last (umax a b) j i g s v = absurd (none_some t.access g)
    last (least a b) j i g s v = absurd (none_some t.access g)
    last (greatest a b) j i g s v = absurd (none_some t.access g)
    last (widen a) j i g s v = absurd (none_some t.access g)
    last (big high low) j i g s v = absurd (none_some t.access g)
