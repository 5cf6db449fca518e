-- The piece of an assignment counts the uses of each write that it makes.
use Rattle.std.proofs.Common.{◌≡◌, ◌≢◌, ℕ, zero, suc, ◌<◌, ◌^◌, Bool, true, false, cond, eqb, List, [], ◌∷◌, ◌++◌, length, refl, sym, ap, ◌∙◌, subst, arith, nat_eq, ℤ, Some, inl, inr, eq-eqb, ne_eqb, eqb-true, true≢false}
use Rattle.std.specs.Prelude.{slice_get}
use Rattle.std.proofs.lemmas.Bool.{cases_Bool, cond-false, and_parts}
use Rattle.std.proofs.lemmas.List.{append_cancel_right, map-append}
use Rattle.c_tree.specs.Plain.{Word, PlainExprs, cell, choice, PlainStmts, no_stmts}
use Rattle.c_tree.specs.Trees.{stmts_of}
use Rattle.c_tree.specs.Values.{Vars}
use Rattle.c_tree.specs.Arrays.{Array, Memory}
use Rattle.c_tree.specs.Accesses.{Access, Definition, at, latest, uses}
use Rattle.c_tree.specs.Accesses.Definition.{Written}
use Rattle.c_tree.specs.Instances.{Tagged, untagged, sites_all}
use Rattle.c_tree.specs.Run.{State, Outcome, goes_on, and_then, Scope, put, exec, exec_all}
use Rattle.instrumentation.specs.Names.{active, count}
use Rattle.instrumentation.specs.Passes.{Target, set_word, same_instance, own_write, write_text, pass_text}
use Rattle.instrumentation.specs.Pieces.{site_piece, site_pieces_all, piece_at}
use Rattle.instrumentation.specs.Inspects.{inspects_all}
use Rattle.instrumentation_laws.specs.AccessList.{cell_access}
use Rattle.instrumentation_laws.specs.IndexedList.{tagged_all}
use Rattle.pass_laws.specs.Targets.{targets_all, target_at}
use Rattle.pass_laws.proofs.Targeted.{piece_of}
use Rattle.balance_laws.proofs.Latest.{is_of-true, same_definition-true, IsLatest, latest_is}
use Rattle.balance_laws.proofs.Latest.IsLatest.{at_first, by_write}
use Rattle.pass_laws.specs.Countable.{AreOwn, AreAffine, AreCountable}
use Rattle.pass_laws.specs.Going.{GoesTo, HasCounters}
use Rattle.pass_laws.proofs.Renamed.{names, copied_vars}
use Rattle.pass_laws.proofs.Steps.{choice_is}
use Rattle.pass_laws.proofs.Counted.{IsPass, set_active}
use Rattle.pass_laws.proofs.Sites.{names_at_all, Facts, facts_all}
use Rattle.pass_laws.proofs.Unique.{unique_all}
use Rattle.pass_laws.proofs.Instance.{place_around, same_values, same_values_refl, same_values-true, IsTold, instance_told}
use Rattle.pass_laws.proofs.Whole.{pass_counts}

-- the access of a tagged one
at_untagged : (l : List Tagged) (n : ℕ) (t : Tagged) → slice_get l n ≡ Some t → at (untagged l) n ≡ t.access
at_untagged [] n t h = absurd cc
at_untagged (x ∷ l) zero t h = (let e : x ≡ t = cc in ap (λ (u : Tagged). u.access) e)
at_untagged (x ∷ l) (suc n) t h = at_untagged l n t h

-- only its own cell has a write as its latest definition
owned_write : (list : List Access) (b n : ℕ) (c : List ℤ) (p : ℕ) (x : Access) → at list p ≡ x → (d : Definition) → IsLatest list b c n d → d ≡ Written p → (b ≡ x.array) × (c ≡ x.cell)
owned_write list b n c p x at_p d (at_first q) h = absurd cc
owned_write list b n c p x at_p d (by_write i l w q) h =
    let same : i ≡ p = cc in
    let o : ((at list i).array ≡ b) × ((at list i).cell ≡ c) = is_of-true (at list i) b c (and_parts _ _ w).1 in
    let a : at list i ≡ x = ap (at list) same ∙ at_p in
    (sym o.0 ∙ ap (λ (y : Access). y.array) a, sym o.1 ∙ ap (λ (y : Access). y.cell) a)

-- the words of a pass after one write of the counted assignment
own_write_is : (sc : Scope) → HasCounters sc.wides → (loops : Vars) (vs : Vars) (s : State) (b : Bool) → ((loops ≡ []) → b ≡ true) →
    ((first other : PlainStmts) → exec sc (choice (same_instance (names loops)) first other) vs s ≡ cond b (exec_all sc first vs s) (exec_all sc other vs s)) →
    exec_all sc (stmts_of (own_write (names loops))) vs s ≡ goes_on tt (record s { words = put s.words active (cond b 1 0) })
own_write_is sc has [] vs s b h g =
    ap (λ o. and_then o (λ u. exec_all sc no_stmts vs)) (set_active sc has 1 vs s) ∙
    ap (λ c. let o : Outcome (Unit {0}) = goes_on tt (record s { words = put s.words active (cond c 1 0) }) in o) (sym (h refl))
own_write_is sc has (v ∷ loops) vs s b h g =
    ap (λ o. and_then o (λ u. exec_all sc no_stmts vs)) (g (stmts_of (set_word active 1 ∷ [])) (stmts_of (set_word active 0 ∷ []))) ∙ chosen b
  where
    chosen : (b : Bool) → and_then (cond b (exec_all sc (stmts_of (set_word active 1 ∷ [])) vs s) (exec_all sc (stmts_of (set_word active 0 ∷ [])) vs s)) (λ u. exec_all sc no_stmts vs) ≡ goes_on tt (record s { words = put s.words active (cond b 1 0) })
    chosen true = ap (λ o. and_then (and_then o (λ u. exec_all sc no_stmts vs)) (λ u. exec_all sc no_stmts vs)) (set_active sc has 1 vs s)
    chosen false = ap (λ o. and_then (and_then o (λ u. exec_all sc no_stmts vs)) (λ u. exec_all sc no_stmts vs)) (set_active sc has 0 vs s)

module _ (sc : Scope) (has : HasCounters sc.wides) (arrays : List Array) (number : Word → ℕ) (m : Memory) (texts : Word → PlainExprs) (body : PlainStmts) (params : Vars) (own_params : AreOwn params) (countable : AreCountable arrays number body params)
    (short : length (tagged_all arrays m number 0 body params) < 2 ^ 63) where
  abbrev whole : List Tagged
  whole = tagged_all arrays m number 0 body params

  abbrev Known : Tagged → Type 0
  Known t = Facts arrays number (sites_all body) 0 (names_at_all 0 body (names params)) (targets_all body) params t

  -- writes of one assignment have the same names around
  same_names : (t u : Tagged) (loops around : Vars) → Known t → Known u → t.site ≡ u.site → t.vars ≡ around ++ params → u.vars ≡ loops ++ params → names loops ≡ names around
  same_names t u loops around k l s e g =
      append_cancel_right (names loops) (names around) (names params)
      (sym (map-append (λ (v : Word × ℤ). v.0) loops params) ∙ ap names (sym g) ∙ l.names_are ∙ ap (names_at_all 0 body (names params)) (sym s) ∙ sym k.names_are ∙ ap names e ∙ map-append (λ (v : Word × ℤ). v.0) around params)

  module _ (p : ℕ) (t : Tagged) (here : slice_get whole p ≡ Some t) (wr : t.access.writes ≡ true) where
    known : Known t
    known = facts_all arrays number m body 0 params p t countable here wr

    -- a write of the same assignment is this one exactly where its loops have the same values
    told_apart : (n : ℕ) (u : Tagged) (loops : Vars) → slice_get whole n ≡ Some u → u.access.writes ≡ true → u.vars ≡ loops ++ params → (k : Known t) → t.site ≡ u.site → names loops ≡ names k.around →
        eqb n p ≡ same_values loops k.around
    told_apart n u loops g w e k s same =
        elim (cases_Bool (same_values loops k.around)) [
          | inl h ↦
              (let v : loops ≡ k.around = same_values-true loops k.around same h in
              let vars : t.vars ≡ u.vars = k.vars_is ∙ ap (λ l. l ++ params) (sym v) ∙ sym e in
              eq-eqb n p (sym (unique_all arrays number m body 0 params countable p n t u here g wr w s vars)) ∙ sym h)
          | inr h ↦
              ne_eqb n p (λ q.
              let tu : u ≡ t = (let a : slice_get whole n ≡ Some t = ap (slice_get whole) q ∙ here in cc) in
              let v : loops ≡ k.around = append_cancel_right loops k.around params (sym e ∙ ap (λ (y : Tagged). y.vars) tu ∙ k.vars_is) in
              true≢false (sym (same_values_refl k.around) ∙ ap (λ l. same_values l k.around) (sym v) ∙ h)) ∙ sym h
        ]

    mine_is : (n : ℕ) (u : Tagged) (loops : Vars) (s : State) → slice_get whole n ≡ Some u → u.access.writes ≡ true → u.vars ≡ loops ++ params → length (names loops) < 2 ^ 64 → (k : Known t) →
        exec_all sc (stmts_of (write_text (Some t.site) (names loops) u.site)) (copied_vars loops ++ (k.around ++ params)) s ≡ goes_on tt (record s { words = put s.words active (cond (eqb n p) 1 0) })
    mine_is n u loops s g w e l k = chosen (nat_eq t.site u.site) refl
      where
        of_site : t.site ≡ u.site → exec_all sc (stmts_of (own_write (names loops))) (copied_vars loops ++ (k.around ++ params)) s ≡ goes_on tt (record s { words = put s.words active (cond (eqb n p) 1 0) })
        of_site i =
            let v : Known u = facts_all arrays number m body 0 params n u countable g w in
            let same : names loops ≡ names k.around = same_names t u loops k.around k v i k.vars_is e in
            let apart : eqb n p ≡ same_values loops k.around = told_apart n u loops g w e k i same in
            let told : IsTold loops k.around params = instance_told loops k.around params same l k.nested (place_around k.around params k.nested k.own_around own_params) in
            own_write_is sc has loops (copied_vars loops ++ (k.around ++ params)) s (eqb n p)
            (λ none. let x : loops ≡ k.around = (let y : names [] ≡ names k.around = ap names (sym none) ∙ same in none ∙ sym (no_names k.around (sym y))) in
            apart ∙ ap (λ l. same_values l k.around) x ∙ same_values_refl k.around)
            (λ first other. choice_is sc (same_instance (names loops)) first other (copied_vars loops ++ (k.around ++ params)) s (eqb n p) told.affine (told.holds ∙ sym apart))
          where
            no_names : (vs : Vars) → names vs ≡ [] → vs ≡ []
            no_names [] h = refl
            no_names (v ∷ vs) h = absurd cc

        other_site : t.site ≢ u.site → exec_all sc (stmts_of (set_word active 0 ∷ [])) (copied_vars loops ++ (k.around ++ params)) s ≡ goes_on tt (record s { words = put s.words active (cond (eqb n p) 1 0) })
        other_site i =
            ap (λ o. and_then o (λ u. exec_all sc no_stmts (copied_vars loops ++ (k.around ++ params)))) (set_active sc has 0 (copied_vars loops ++ (k.around ++ params)) s) ∙
            ap (λ c. let o : Outcome (Unit {0}) = goes_on tt (record s { words = put s.words active (cond c 1 0) }) in o)
            (sym (ne_eqb n p (λ q. i (let a : slice_get whole n ≡ Some t = ap (slice_get whole) q ∙ here in let tu : u ≡ t = cc in ap (λ (y : Tagged). y.site) (sym tu)))))

        chosen : (b : Bool) → nat_eq t.site u.site ≡ b →
            exec_all sc (stmts_of (cond b (own_write (names loops)) (set_word active 0 ∷ []))) (copied_vars loops ++ (k.around ++ params)) s ≡ goes_on tt (record s { words = put s.words active (cond (eqb n p) 1 0) })
        chosen true i = of_site (eqb-true _ _ i)
        chosen false i = other_site (λ q. true≢false (sym (eq-eqb _ _ q) ∙ i))

    pub write_counts : inspects_all number t.access.array body ≡ false → (s : State) → GoesTo (λ r. r.wides count ≡ uses (untagged whole) (Written p)) (exec_all sc (stmts_of (piece_at (site_pieces_all number texts body 0 body) t.site)) t.vars s)
    write_counts u s = at_place known
      where
        at_place : (k : Known t) → GoesTo (λ r. r.wides count ≡ uses (untagged whole) (Written p)) (exec_all sc (stmts_of (piece_at (site_pieces_all number texts body 0 body) t.site)) t.vars s)
        at_place k =
            let target : Target = record { array = number k.name; at = k.at } in
            let base : Vars = k.around ++ params in
            let affine : AreAffine k.at base = subst (AreAffine k.at) k.vars_is k.cell_is.affine in
            let at_p : at (untagged whole) p ≡ cell_access number k.name k.at base true = at_untagged whole p t here ∙ k.access_is ∙ ap (λ vs. cell_access number k.name k.at vs true) k.vars_is in
            let plain : inspects_all number (number k.name) body ≡ false = ap (λ (x : Access). inspects_all number x.array body) (sym k.access_is) ∙ u in
            let is_pass : IsPass sc arrays number whole params base target = record {
              has = has;
              short = short;
              place = place_around k.around params k.nested k.own_around own_params;
              own_params = own_params;
              affine = affine;
              ranked = k.cell_is.ranked;
            } in
            let step : k.step ≡ t.site = (let a = k.site_is in omega arith) in
            let target_is : target_at body t.site ≡ cell k.name k.at = ap (target_at body) (sym step) ∙ k.target_is in
            let text : piece_at (site_pieces_all number texts body 0 body) t.site ≡ pass_text number body target (Some t.site) =
            piece_of number texts body t.site ∙ ap (site_piece number texts body t.site) target_is ∙ cond-false _ _ _ plain in
            subst (λ q. GoesTo (λ r. r.wides count ≡ uses (untagged whole) (Written p)) (exec_all sc (stmts_of q) t.vars s)) (sym text)
            (subst (λ vs. GoesTo (λ r. r.wides count ≡ uses (untagged whole) (Written p)) (exec_all sc (stmts_of (pass_text number body target (Some t.site))) vs s)) (sym k.vars_is)
            (pass_counts sc arrays number m body params base countable target plain is_pass (Some t.site) (Written p)
            (λ b n c h. owned_write (untagged whole) b n c p (cell_access number k.name k.at base true) at_p (latest (untagged whole) b c n) (latest_is (untagged whole) b c n) (same_definition-true _ _ h))
            (λ n u loops r g w e i o l. mine_is n u loops r g w e l k)
            refl s))
