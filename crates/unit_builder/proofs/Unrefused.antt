-- Where a source isn't refused, no count of it is over its limit.
use Rattle.std.proofs.Common.{◌≡◌, ℕ, zero, suc, ◌≤◌, Bool, true, false, cond, List, [], ◌∷◌, Option, Some, None, refl, sym, ap}
use Rattle.std.specs.Prelude.{slice_get, nat_lt}
use Rattle.std.specs.List.{AllByRecursion}
use Rattle.std.proofs.lemmas.Bool.{ltb-false}
use Rattle.c_tree.specs.Plain.{PlainUnit}
use Rattle.c_tree.specs.Instances.{sites_all}
use Rattle.c_tree.specs.declared.refusal.Counted.{Counted}
use Rattle.c_tree.specs.declared.refusal.Counted.TheVariants.{Reads, Statements}
use Rattle.acceptance.specs.Items.{Item, items_all, lowest}
use Rattle.acceptance.specs.Limits.{Excess, reads_of, overall, first_over, first_excess, counts, too_many}
use Rattle.acceptance.specs.Sources.{item_of, judged, refusal}

-- no number is answered where none has an item
one_of : (js : List (ℕ × Option ℕ)) → lowest js ≡ None → (k n : ℕ) (o : Option ℕ) → slice_get js k ≡ Some (n, o) → o ≡ None
one_of [] e k n o g = cc
one_of ((m, None) ∷ js) e zero n o g = let s : (let p : ℕ × Option ℕ = (m, None) in p) ≡ (let p : ℕ × Option ℕ = (n, o) in p) = cc in sym (ap (λ (p : ℕ × Option ℕ). p.1) s)
one_of ((m, None) ∷ js) e (suc k) n o g = one_of js e k n o g
one_of ((m, Some item) ∷ js) e k n o g = absurd (let f : Some (m, item) ≡ None = e in cc)

no_excess : (es : List (Option Excess)) → first_excess es ≡ None → (k : ℕ) (o : Option Excess) → slice_get es k ≡ Some o → o ≡ None
no_excess [] e k o g = cc
no_excess (None ∷ es) e zero o g = cc
no_excess (None ∷ es) e (suc k) o g = no_excess es e k o g
no_excess (Some x ∷ es) e k o g = absurd (let f : Some x ≡ None = e in cc)

no_item : (o : Option Excess) → item_of o ≡ None → o ≡ None
no_item None e = refl
no_item (Some x) e = absurd (let f : Some x.item ≡ None = e in cc)

under : (c : Counted) (most n : ℕ) → overall c most n ≡ None → n ≤ most
under c most n e = chosen (nat_lt most n) refl e
  where
    chosen : (b : Bool) → nat_lt most n ≡ b → cond b (Some (let x : Excess = record { counted = c; count = n; item = 0 } in x)) None ≡ None → n ≤ most
    chosen true same e = absurd (let f : Some (let x : Excess = record { counted = c; count = n; item = 0 } in x) ≡ None = e in cc)
    chosen false same e = ltb-false most n same

each_under : (c : Counted) (most : ℕ) (f : Item → ℕ) (k : ℕ) (xs : List Item) → first_over c most f k xs ≡ None → AllByRecursion (λ i. f i ≤ most) xs
each_under c most f k [] e = tt
each_under c most f k (x ∷ xs) e = chosen (nat_lt most (f x)) refl e (each_under c most f (suc k) xs)
  where
    chosen : (b : Bool) → nat_lt most (f x) ≡ b → cond b (Some (let x : Excess = record { counted = c; count = f x; item = k } in x)) (first_over c most f (suc k) xs) ≡ None →
        (first_over c most f (suc k) xs ≡ None → AllByRecursion (λ i. f i ≤ most) xs) → (f x ≤ most) × AllByRecursion (λ i. f i ≤ most) xs
    chosen true same e rest = absurd (let g : Some (let x : Excess = record { counted = c; count = f x; item = k } in x) ≡ None = e in cc)
    chosen false same e rest = (ltb-false most (f x) same, rest e)

module _ (u : PlainUnit) (e : refusal u ≡ None) where
  within : (k : ℕ) (o : Option Excess) → slice_get (counts u) k ≡ Some o → o ≡ None
  within = no_excess (counts u) (no_item (too_many u) (one_of (judged u) e 4 8 (item_of (too_many u)) refl))

  pub few_assignments : sites_all u.body ≤ 256
  few_assignments = under Statements 256 (sites_all u.body) (within 4 (overall Statements 256 (sites_all u.body)) refl)

  pub few_reads : AllByRecursion (λ i. reads_of i.stmt ≤ 16) (items_all u.body [] [])
  few_reads = each_under Reads 16 (λ i. reads_of i.stmt) 1 (items_all u.body [] []) (within 5 (first_over Reads 16 (λ i. reads_of i.stmt) 1 (items_all u.body [] [])) refl)
