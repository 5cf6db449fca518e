-- An accepted source has what the laws of runs and of instrumented units ask.
use Rattle.std.proofs.Common.{◌≡◌, ℕ, true, false, List, [], ℤ, refl, sym, ap, ◌∙◌, subst, append-nil, inl, inr, Some, true≢false}
use Rattle.std.specs.Prelude.{slice_get}
use Rattle.std.specs.List.{AllByRecursion, list_all}
use Rattle.std.proofs.lemmas.Bool.{not-false, cases_Bool}
use Rattle.c_tree.specs.Plain.{PlainUnit}
use Rattle.c_tree.specs.Values.{Vars}
use Rattle.c_tree.specs.Arrays.{vars_of}
use Rattle.c_tree.specs.Accesses.{Access, at}
use Rattle.c_tree.specs.Instances.{Tagged, untagged, core, accesses}
use Rattle.c_tree.specs.Inputs.{PlainInputs, arrays_for, memory_for, AreInRange, Fit}
use Rattle.run_laws.specs.Sources.{IsExact}
use Rattle.instrumentation_laws.specs.ExactSources.{AreExactSource, ExactListsAreOne, ExactSourcesFollow}
use Rattle.instrumentation_laws.specs.IndexedList.{tagged_all}
use Rattle.instrumentation_laws.specs.KeptTexts.{HasIndexArrays}
use Rattle.instrumentation_laws.specs.RegularUnits.{number_for}
use Rattle.instrumentation_laws.specs.Setting.{inspected_in}
use Rattle.instrumentation.specs.Guarded.{extents_of as declared_extents}
use Rattle.pass_laws.specs.Laws.{WritesAreByTargets}
use Rattle.inspection_laws.specs.CountedUnits.{NamesHaveTables}
use Rattle.guard_laws.specs.Forms.{HasForms}
use Rattle.guard_laws.specs.IndexArrays.{is_index_array}
use Rattle.acceptance.specs.Affine.{is_affine, holds_throughout, is_narrow}
use Rattle.acceptance.specs.Head.{extents_in, intervals_of, head_scope}
use Rattle.acceptance.specs.Trees.{IsSourceTree}
use Rattle.acceptance.specs.Sources.{IsAcceptedSource}
use Rattle.source_laws.specs.Exact.{AreExactStmts, IsExactFor}
use Rattle.accepted_laws.proofs.Clear.{Unrefused, unrefused}
use Rattle.source_laws.proofs.Statements.{IsOver, ThreeStmts, stmts_three}
use Rattle.source_laws.proofs.Values.{IsPlace}
use Rattle.source_laws.proofs.Exact.{row_exact, stmts_exact}
use Rattle.source_laws.proofs.Sources.{stmts_source}
use Rattle.source_laws.proofs.Words.{all_assign_words}
use Rattle.source_laws.proofs.Heads.{HeadIs, Ranged, head_is, ranged}
use Rattle.source_laws.proofs.IndexArrays.{unindexed, trusts_all, trusts_apart, targets_unindexed, untagged_at}

module _ (u : PlainUnit) (a : IsAcceptedSource u) (ns : List ℤ) where
  clear : Unrefused u
  clear = unrefused u a.refused_nowhere

  head : HeadIs u ns
  head = head_is u a.tree clear ns

  in_ranges : AreInRange u.ranges u.params ns → Ranged u ns
  in_ranges h = ranged u a.tree clear ns h

  abbrev vs : Vars
  vs = vars_of u.params ns

  place : AreInRange u.ranges u.params ns → IsPlace u [] vs
  place h = record { stands = head.stands; suits = (in_ranges h).suits }

  over : IsOver u vs [] vs
  over = record { stands = head.stands; values = λ x h. refl }

  body_exact : AreInRange u.ranges u.params ns → AreExactStmts u.body vs
  body_exact h = stmts_exact u u.body [] vs (place h) clear.items a.tree.body

  head_exact : AreInRange u.ranges u.params ns → AllByRecursion (λ e. IsExact e vs) (extents_in u.params)
  head_exact h = row_exact u [] vs (place h) (extents_in u.params) (not-false (list_all (is_affine (head_scope u)) (extents_in u.params)) clear.affine.head)
      (not-false (list_all (holds_throughout (is_narrow (intervals_of u))) (extents_in u.params)) clear.narrow.head)

  three : (h : AreInRange u.ranges u.params ns) → ThreeStmts u vs head.few_arrays (in_ranges h).values head.short u.body vs
  three h = stmts_three u vs head.few_arrays (in_ranges h).values head.short u.body [] vs over clear.items a.tree.body (λ b m. m)

  source : AreInRange u.ranges u.params ns → AreExactSource (arrays_for u ns) [] (is_index_array u) u.body vs
  source h = stmts_source u vs head.few_arrays (unindexed u clear.items a.tree.body) u.body [] vs head.stands clear.items a.tree.body (body_exact h) (λ b m. m)

pub are_exact : (u : PlainUnit) (ns : List ℤ) → IsAcceptedSource u → AreInRange u.ranges u.params ns → IsExactFor u ns
are_exact u ns a h = record { extents = head_exact u a ns h; body = body_exact u a ns h }

pub are_sources : (u : PlainUnit) (i : PlainInputs) → IsAcceptedSource u → Fit u i → AreExactSource (arrays_for u i.ints) u.wides (is_index_array u) u.body (vars_of u.params i.ints)
are_sources u i a fit = subst (λ ws. AreExactSource (arrays_for u i.ints) ws (is_index_array u) u.body (vars_of u.params i.ints)) (sym a.tree.no_wides) (source u a i.ints fit.ints)

module _ (one : ExactListsAreOne) (follow : ExactSourcesFollow) (writes : WritesAreByTargets) (names : NamesHaveTables) where
  module _ (u : PlainUnit) (i : PlainInputs) (a : IsAcceptedSource u) (fit : Fit u i) where
    abbrev params : Vars
    params = vars_of u.params i.ints

    abbrev list : List Tagged
    list = tagged_all (arrays_for u i.ints) (memory_for u i) (number_for u) 0 u.body params

    three_here : ThreeStmts u params (head u a i.ints).few_arrays (in_ranges u a i.ints fit.ints).values (head u a i.ints).short u.body params
    three_here = three u a i.ints fit.ints

    listed : untagged list ≡ accesses u i.ints (memory_for u i)
    listed =
        ap untagged (one (arrays_for u i.ints) (number_for u) (declared_extents u.params) (inspected_in (number_for u) u.body) (is_index_array u) [] (memory_for u i) u.body params three_here.0 (source u a i.ints fit.ints))
        ∙ sym (append-nil (core u i.ints (memory_for u i)))

    unwritten : (q : ℕ) → is_index_array u (at (untagged list) q).array ≡ true → (at (untagged list) q).writes ≡ false
    unwritten = untagged_at list (λ x. is_index_array u x.array ≡ true → x.writes ≡ false) (λ h. refl) each
      where
        each : (n : ℕ) (t : Tagged) → slice_get list n ≡ Some t → is_index_array u t.access.array ≡ true → t.access.writes ≡ false
        each n t e h = elim (cases_Bool t.access.writes) [
          | inl w ↦
              let b = writes (arrays_for u i.ints) (memory_for u i) (number_for u) u.body params three_here.1 n t e w in
              let none : is_index_array u (number_for u b.name) ≡ false = targets_unindexed u (clear u a i.ints).items a.tree.body t.site b.name b.at b.target_is in
              absurd (true≢false (sym h ∙ ap (λ (x : Access). is_index_array u x.array) b.access_is ∙ none))
          | inr w ↦ w
        ]

    index_arrays : HasIndexArrays (number_for u) (is_index_array u) (accesses u i.ints (memory_for u i)) u.body
    index_arrays = record {
      all = trusts_all u (clear u a i.ints).items a.tree.body;
      apart = trusts_apart u (clear u a i.ints).items a.tree.body;
      unwritten = subst (λ l. (q : ℕ) → is_index_array u (at l q).array ≡ true → (at l q).writes ≡ false) listed unwritten;
    }

  pub have_forms : (u : PlainUnit) (i : PlainInputs) → IsAcceptedSource u → Fit u i → HasForms u i
  have_forms u i a fit =
      let t : IsSourceTree u = a.tree in
      let h : HeadIs u i.ints = head u a i.ints in
      let r : Ranged u i.ints = in_ranges u a i.ints fit.ints in
      let f = three_here u i a fit in
      record {
        well_formed = record { version = t.version; no_wides = t.no_wides; params = h.may_loop; arrays = r.measured; few = h.few_arrays; body = f.0 };
        follows = λ clean. follow u i (is_index_array u) t.version (are_sources u i a fit) clean;
        listed = listed u i a fit;
        index_arrays = index_arrays u i a fit;
        countable = record {
          params = h.own_values;
          tables = names u i.ints h.names;
          few = h.few_arrays;
          ranks = h.ranks;
          countable = f.1;
          walked = f.2;
          extents = r.extents (arrays_for u i.ints) (number_for u) u.body i.cells refl fit.cells;
        };
        literals = h.literals;
        values = all_assign_words u.body (vars_of u.params i.ints) t.body;
      }
