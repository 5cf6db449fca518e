use Rattle.std.proofs.Common.{◌≡◌, ◌<◌, ◌∙◌, refl, ap, map, length, get_or, sym, List, [], ℕ, arith}
use Rattle.std.specs.Prelude.{slice_set}
use Rattle.std.proofs.lemmas.List.{map-set, get_or-map}
use Rattle.interp.specs.Tables.{with_entry_of}
use Rattle.interp.proofs.tables.Tables.set_entry.Goals as goal

-- a list in a list, with one entry set
one_set : {V : Type 0} (f : V → List ℕ) (vs : List V) (k i n : ℕ) (v w : V) → k < length vs → v ≡ get_or vs k v → f w ≡ slice_set (f v) i n →
    map f (slice_set vs k w) ≡ with_entry_of k i n (map f vs)
one_set f vs k i n v w below is set =
    map-set f vs k w ∙ ap (slice_set (map f vs) k) (set ∙ ap (λ l. slice_set l i n) (ap f is ∙ sym (get_or-map f vs k v [] below)))

pub returns-then-at-len : goal.returns-then-at-len
returns-then-at-len c =
    one_set (λ t. t.items) c.self.inside.tables.items c.args.table c.args.at c.args.n c.index_mut.result.now _ (omega arith) c.index_mut.ensures.value refl
    ∙ ap (with_entry_of c.args.table c.args.at c.args.n) c.self.view_is
