-- What a whole text with irregular reads does under every fault.
use Rattle.std.proofs.Common.{◌≡◌, ◌≢◌, ◌↔◌, ◌⊎◌, inl, inr, ℕ, zero, suc, ◌+◌, ◌-◌, ◌%◌, ◌^◌, ◌<◌, ◌≤◌, Bool, true, false, not, ◌&&◌, ◌==◌, cond, List, [], ◌∷◌, ◌++◌, length, refl, sym, ap, ◌∙◌, subst, arith, ℤ, Option, Some, None, true≢false, eq-eqb, nat_lt}
use Rattle.std.proofs.lemmas.Bool.{cases_Bool, cases_eq, and_from, and_parts, eqb-true, ltb-true, lt-ltb}
use Rattle.balance_laws.proofs.Latest.{is_of-true}
use Rattle.cell_laws.proofs.SameCell.{same_cell_refl, same_cell-true}
use Rattle.std.proofs.lemmas.List.{append-nil, length-map}
use Rattle.c_tree.specs.Plain.{Word, PlainExprs, PlainStmt, begin, PlainStmts}
use Rattle.c_tree.specs.Trees.{stmts_of}
use Rattle.c_tree.specs.Values.{Vars}
use Rattle.c_tree.specs.Arrays.{Array, same_cell}
use Rattle.c_tree.specs.Accesses.{Access, at, is_of, Clean}
use Rattle.c_tree.specs.Accesses.Definition.{Written}
use Rattle.c_tree.specs.Fault.{Upset, Exposed}
use Rattle.c_tree.specs.Instances.{Tagged, untagged}
use Rattle.c_tree.specs.Run.{Event, State, Outcome, goes_on, ends, and_then, Scope, exec_all}
use Rattle.balance_laws.specs.Totals as Sums
use Rattle.balance_laws.specs.Replay.{left_after, Replays}
use Rattle.balance_laws.specs.Laws.{TotalsAgree, CalmMemory, FlipIsToldOver, OthersAgree, SameFor}
use Rattle.run_laws.specs.Logs.{accesses_in, values_in}
use Rattle.instrumentation.specs.Names.{use_total, definition_total}
use Rattle.instrumentation.specs.Prologue.{prologue_text}
use Rattle.instrumentation_laws.specs.Pieces.{uses_in}
use Rattle.instrumentation_laws.specs.RunningTotals.{written_sum}
use Rattle.instrumentation_laws.specs.PrologueTotals.{initial_sum, Left}
use Rattle.instrumentation_laws.specs.Setting.{text_after, scope_of, inspected_in, IsStart}
use Rattle.instrumentation_laws.specs.TextLaws.{EndsWith, WhereGoing, Balanced}
use Rattle.instrumentation.specs.Guarded.{extents_from}
use Rattle.instrumentation_laws.proofs.Steps.{exec_join}
use Rattle.instrumentation_laws.proofs.Outcomes.{MustGo as MustGoTo}
use Rattle.instrumentation_laws.proofs.Places.{access_here, below_here}
use Rattle.instrumentation.specs.Body.{instrument_all}
use Rattle.instrumentation_laws.specs.IndexedList.{tagged_all}
use Rattle.instrumentation_laws.specs.Kept.{Kept, Ready, Trust, Unseen, seen, Totals, EndsEarly}
use Rattle.instrumentation_laws.specs.Trusts.{TrustsAll}
use Rattle.instrumentation_laws.specs.KeptTexts.{Prepared, GoesPrepared, KeptSetting, GoesOrIndex, HasIndexArrays, IsQuiet, EveryQuietTextEnds, EveryFaultIsTold, HiddenOrPlain, EveryKeptTextBalances}
use Rattle.instrumentation_laws.proofs.Outcomes.{GoesOr}
use Rattle.instrumentation_laws.proofs.KeptTotals.{run_counted_all}
use Rattle.instrumentation_laws.proofs.KeptPrologue.{prologue_go, start, begin_totals}
use Rattle.instrumentation_laws.proofs.Views.{arrays_at, trusted_at, same_long, one_list, used_is, total_is}

-- ---- reads that don't see a fault

-- a fault in an array that isn't steady
pub unseen_elsewhere : (trust : Trust) (f : Upset) (whole : List Tagged) → trust.steady f.array ≡ false → Unseen trust (Some f) whole
unseen_elsewhere trust f whole free pre rest t is st =
    elim (cases_Bool (f.array == t.access.array)) [
      | inl e ↦ absurd (true≢false (sym st ∙ ap trust.steady (sym (eqb-true f.array t.access.array e)) ∙ free))
      | inr e ↦ none (nat_lt f.place (suc (length pre))) (f.array == t.access.array) (same_cell f.cell t.access.cell) e
    ]
  where
    none : (x y z : Bool) → y ≡ false → (x && (y && z)) ≡ false
    none true y z e = ap (λ y. y && z) e
    none false y z e = refl

-- the first of the numbers from k on, up to n more, of which this holds
first_from : (f : ℕ → Bool) (k n : ℕ) → f (n + k) ≡ true → (p : ℕ) × (k ≤ p) × (p ≤ n + k) × (f p ≡ true) × ((q : ℕ) → k ≤ q → q < p → f q ≡ false)
first_from f k zero e = (k, omega arith, omega arith, ap f (let g : k ≡ 0 + k = omega arith in g) ∙ e, λ q a b. absurd (omega arith))
first_from f k (suc n) e =
    elim (cases_Bool (f k)) [
      | inl g ↦ (k, omega arith, omega arith, g, λ q a b. absurd (omega arith))
      | inr g ↦ (
          let r = first_from f (suc k) n (ap f (let h : n + suc k ≡ suc n + k = omega arith in h) ∙ e) in
          (r.0, omega arith, omega arith, r.3, λ q a b. elim (cases_eq q k) [ inl same ↦ (ap f same ∙ g) | inr other ↦ r.4 q (omega arith) b ]))
    ]

-- or one that isn't exposed, where no steady array is written
pub unseen_hidden : (trust : Trust) (f : Upset) (whole : List Tagged) → ((q : ℕ) → trust.steady (at (untagged whole) q).array ≡ true → (at (untagged whole) q).writes ≡ false) → (Exposed (untagged whole) f → ⊥) → Unseen trust (Some f) whole
unseen_hidden trust f whole unwritten hidden pre rest t is st =
    elim (cases_Bool (seen (Some f) (suc (length pre)) t.access.array t.access.cell)) [
      | inl e ↦ absurd (hidden (exposed e))
      | inr e ↦ e
    ]
  where
    here : at (untagged whole) (length pre) ≡ t.access
    here = access_here whole pre t rest is

    turned : (a b : Bool) (c d : Bool) → a ≡ b → c ≡ d → (a && c) ≡ true → (b && d) ≡ true
    turned a b c d e g h = rw (sym e, sym g) h

    exposed : seen (Some f) (suc (length pre)) t.access.array t.access.cell ≡ true → Exposed (untagged whole) f
    exposed e =
        let p = and_parts (nat_lt f.place (suc (length pre))) ((f.array == t.access.array) && same_cell f.cell t.access.cell) e in
        let cells = and_parts (f.array == t.access.array) (same_cell f.cell t.access.cell) p.1 in
        let early : f.place < suc (length pre) = ltb-true f.place (suc (length pre)) p.0 in
        let array : f.array ≡ t.access.array = eqb-true f.array t.access.array cells.0 in
        let cell : f.cell ≡ t.access.cell = same_cell-true f.cell t.access.cell cells.1 in
        let n : ℕ = length pre - f.place in
        let there : n + f.place ≡ length pre = omega arith in
        let of_it : is_of (at (untagged whole) (n + f.place)) f.array f.cell ≡ true =
        ap (λ q. is_of (at (untagged whole) q) f.array f.cell) there ∙ ap (λ (x : Access). is_of x f.array f.cell) here ∙ and_from (t.access.array == f.array) (same_cell t.access.cell f.cell) (eq-eqb t.access.array f.array (sym array)) (ap (λ c. same_cell t.access.cell c) cell ∙ same_cell_refl t.access.cell) in
        let r = first_from (λ q. is_of (at (untagged whole) q) f.array f.cell) f.place n of_it in
        let long : length (untagged whole) ≡ length whole = length-map whole (λ (t : Tagged). t.access) in
        let below : length pre < length whole = below_here whole pre t rest is in
        let i = is_of-true (at (untagged whole) r.0) f.array f.cell r.3 in
        record { next = r.0; later = r.1; exists = omega arith; of_cell = r.3; reads = unwritten r.0 (ap trust.steady (i.0 ∙ array) ∙ st); first = r.4 }

-- ---- the run of a text

module _ (arrays : List Array) (number : Word → ℕ) (wides : List Word) (fault : Option Upset) (vs : Vars) (extents : ℕ → List ℤ) (decls : List (Word × PlainExprs)) (body : PlainStmts) (kept : Kept) (tables : List PlainStmt) (cells : ℕ → PlainExprs → List PlainStmt) (pieces : ℕ → List PlainStmt) (s : State)
    (set : KeptSetting arrays number wides fault vs extents s decls body kept tables cells pieces) (begins : IsStart s) (trust : Trust) (trusts : TrustsAll number trust body) (unseen : Unseen trust fault (tagged_all arrays s.memory number 0 body vs)) where
  abbrev whole : List Tagged
  whole = tagged_all arrays s.memory number 0 body vs

  abbrev list : List Access
  list = untagged whole

  abbrev sc : Scope
  sc = scope_of arrays wides fault

  abbrev from : ℕ → ℕ
  from = start arrays number wides fault set.names kept set.is_kept whole vs set.vars extents s.memory (length decls)

  abbrev pub Ended : State → Type 0
  Ended t = Totals trust kept fault s.memory extents whole from whole t

  body_ends : (t : State) → Totals trust kept fault s.memory extents whole from [] t → GoesOr (EndsEarly trust extents whole) Ended (exec_all sc (stmts_of (instrument_all number (extents_from decls) pieces 0 body)) vs t)
  body_ends t h =
      run_counted_all arrays number wides fault set.names (extents_from decls) (inspected_in number body) trust kept set.is_kept whole from s.memory extents set.sizes unseen pieces (λ k. (set.pieces_count k).piece) (λ k. (set.pieces_count k).counts)
      body 0 vs [] [] t set.source trusts set.vars (append-nil whole) h

  pub text_ends : GoesOr (EndsEarly trust extents whole) Ended (exec_all sc (stmts_of (text_after tables decls cells number pieces body)) vs s)
  text_ends =
      rw (exec_join sc tables (prologue_text cells 0 decls ++ (begin ∷ instrument_all number (extents_from decls) pieces 0 body)) vs s)
      (prepared (exec_all sc (stmts_of tables) vs s) set.tables_go)
    where
      begun_body : State → Outcome (Unit {0})
      begun_body t = exec_all sc (stmts_of (begin ∷ instrument_all number (extents_from decls) pieces 0 body)) vs t

      after : (p : State) → Prepared kept s p → (o : Outcome (Unit {0})) → MustGoTo (λ (b : Unit {0}) t. Left whole extents 0 (length decls) p t × Ready kept [] t) o → GoesOr (EndsEarly trust extents whole) Ended (and_then o (λ u t. exec_all sc (stmts_of (begin ∷ instrument_all number (extents_from decls) pieces 0 body)) vs t))
      after p h (goes_on u t) l =
          body_ends (record t { begun = true })
          (subst (λ m. Totals trust kept fault m extents whole (start arrays number wides fault set.names kept set.is_kept whole vs set.vars extents m (length decls)) [] (record t { begun = true })) h.memory
          (begin_totals arrays number wides fault set.names kept set.is_kept whole vs set.vars extents trust (length decls) p t l.0 l.1 (h.accesses ∙ begins.accesses) (λ b fits. ap (λ (w : Word → ℕ). w (use_total b)) h.wides ∙ begins.used b fits) (λ b fits. ap (λ (w : Word → ℕ). w (definition_total b)) h.wides ∙ begins.defined b fits)))
      after p h (ends e t) l = absurd l

      prepared : (o : Outcome (Unit {0})) → GoesPrepared kept s o → GoesOr (EndsEarly trust extents whole) Ended (and_then o (λ u t. exec_all sc (stmts_of (prologue_text cells 0 decls ++ (begin ∷ instrument_all number (extents_from decls) pieces 0 body))) vs t))
      prepared (goes_on u p) h =
          subst (GoesOr (EndsEarly trust extents whole) Ended) (sym (exec_join sc (prologue_text cells 0 decls) (begin ∷ instrument_all number (extents_from decls) pieces 0 body) vs p))
          (after p h (exec_all sc (stmts_of (prologue_text cells 0 decls)) vs p)
          (prologue_go arrays number wides fault set.names kept set.is_kept whole vs set.vars extents cells decls 0 p set.cells_count set.declared (h.begun ∙ begins.begun) (λ b low fits. ap (λ (w : Word → ℕ). w (definition_total b)) h.wides ∙ begins.defined b fits) h.ready))
      prepared (ends e p) h = absurd h

  -- ---- at its end

  pub used_total : (t : State) (a : ℕ) → Ended t → a < 2 ^ 64 → t.wides (use_total a) ≡ Sums.use_total list (values_in t.accesses) a
  used_total t a h fits = h.used a fits ∙ ap (λ k. k % 2 ^ 128) (used_is trust.trusted list t.accesses a h.made)

  pub defined_total : (t : State) (a : ℕ) → Ended t → a < length decls → a < 2 ^ 64 → t.wides (definition_total a) ≡ Sums.definition_total list extents s.memory (values_in t.accesses) a
  defined_total t a h low fits =
      h.defined a fits ∙ ap (λ k. k % 2 ^ 128) (
      ap (λ b. cond b (initial_sum s.memory whole extents a) 0 + written_sum (λ n. uses_in whole (Written n)) a 0 t.accesses) (lt-ltb a (length decls) low) ∙
      total_is trust.trusted list extents s.memory t.accesses a h.made)

  pub same_for : (t : State) (a : ℕ) → Ended t → trust.trusted a ≡ true → SameFor a list (accesses_in t.accesses)
  same_for t a h tr = record {
    long = sym (same_long trust.trusted (accesses_in t.accesses) list h.made);
    each = λ q. each q;
  }
    where
      each : (q : ℕ) → ((at list q).array ≡ a) ⊎ ((at (accesses_in t.accesses) q).array ≡ a) → at list q ≡ at (accesses_in t.accesses) q
      each q (inl e) = sym (trusted_at trust.trusted (accesses_in t.accesses) list h.made q (ap trust.trusted (arrays_at trust.trusted (accesses_in t.accesses) list h.made q ∙ e) ∙ tr))
      each q (inr e) = sym (trusted_at trust.trusted (accesses_in t.accesses) list h.made q (ap trust.trusted e ∙ tr))

-- ---- the three laws

abbrev by_one : ℕ → (ℕ → Bool) → Trust
by_one a is_index = record { trusted = λ b. b == a; steady = λ b. is_index b && not (b == a) }

abbrev by_all : (ℕ → Bool) → Trust
by_all is_index = record { trusted = λ b. true; steady = is_index }

not_itself : (x : Bool) (a : ℕ) → (x && not (a == a)) ≡ false
not_itself true a = ap not (eq-eqb a a refl)
not_itself false a = refl

pub every_fault_is_told : FlipIsToldOver → EveryFaultIsTold
every_fault_is_told law arrays number wides fault vs extents decls body kept tables cells pieces is_index s set has start bit short words low fits =
    let trust : Trust = by_one fault.array is_index in
    let whole : List Tagged = tagged_all arrays s.memory number 0 body vs in
    let unseen : Unseen trust (Some fault) whole = unseen_elsewhere trust fault whole (not_itself (is_index fault.array) fault.array) in
    chosen trust unseen (has.apart fault.array) (eq-eqb fault.array fault.array refl) (exec_all (scope_of arrays wides (Some fault)) (stmts_of (text_after tables decls cells number pieces body)) vs s)
    (text_ends arrays number wides (Some fault) vs extents decls body kept tables cells pieces s set start trust (has.apart fault.array) unseen)
  where
    chosen : (trust : Trust) (unseen : Unseen trust (Some fault) (tagged_all arrays s.memory number 0 body vs)) (trusts : TrustsAll number trust body) → trust.trusted fault.array ≡ true → (o : Outcome (Unit {0})) →
        GoesOr (EndsEarly trust extents (tagged_all arrays s.memory number 0 body vs)) (Ended arrays number wides (Some fault) vs extents decls body kept tables cells pieces s set start trust trusts unseen) o →
        GoesOrIndex (Clean extents (untagged (tagged_all arrays s.memory number 0 body vs))) (λ t. ((q : ℕ) → values_in t.accesses q < 2 ^ 64) → (t.wides (use_total fault.array) ≢ t.wides (definition_total fault.array)) ↔ Exposed (untagged (tagged_all arrays s.memory number 0 body vs)) fault) o
    chosen trust unseen trusts tr (goes_on u t) h = λ values.
        let list : List Access = untagged (tagged_all arrays s.memory number 0 body vs) in
        let same : SameFor fault.array list (accesses_in t.accesses) = same_for arrays number wides (Some fault) vs extents decls body kept tables cells pieces s set start trust trusts unseen t fault.array h tr in
        let long : length list ≡ length (accesses_in t.accesses) = same.long in
        let use_is = used_total arrays number wides (Some fault) vs extents decls body kept tables cells pieces s set start trust trusts unseen t fault.array h fits in
        let def_is = defined_total arrays number wides (Some fault) vs extents decls body kept tables cells pieces s set start trust trusts unseen t fault.array h low fits in
        let told = law list (accesses_in t.accesses) extents s.memory (values_in t.accesses) fault same h.follows.clean (omega arith) bit words values h.follows.replays in
        (λ ne. told.0 (λ e. ne (use_is ∙ e ∙ sym def_is)), λ x e. told.1 x (sym use_is ∙ e ∙ def_is))
    chosen trust unseen trusts tr (ends e t) (inl h) = inl (h.0, h.1)
    chosen trust unseen trusts tr (ends e t) (inr h) = inr h

module _ (arrays : List Array) (number : Word → ℕ) (wides : List Word) (fault : Option Upset) (vs : Vars) (extents : ℕ → List ℤ) (decls : List (Word × PlainExprs)) (body : PlainStmts) (kept : Kept) (tables : List PlainStmt) (cells : ℕ → PlainExprs → List PlainStmt) (pieces : ℕ → List PlainStmt) (is_index : ℕ → Bool) (s : State)
    (set : KeptSetting arrays number wides fault vs extents s decls body kept tables cells pieces) (begins : IsStart s) (trusts : TrustsAll number (by_all is_index) body) (unseen : Unseen (by_all is_index) fault (tagged_all arrays s.memory number 0 body vs)) where
  abbrev own_list : List Access
  own_list = untagged (tagged_all arrays s.memory number 0 body vs)

  abbrev Done : State → Type 0
  Done = Ended arrays number wides fault vs extents decls body kept tables cells pieces s set begins (by_all is_index) trusts unseen

  -- where all arrays are trusted it goes on, makes the list, and its totals are those of it
  abbrev pub AtEnd : State → Type 0
  AtEnd t = EndsWith fault s.memory extents own_list (length decls) t

  at_end : (t : State) → Done t → AtEnd t
  at_end t h =
      let made : accesses_in t.accesses ≡ own_list = one_list (λ a. true) (λ a. refl) (accesses_in t.accesses) own_list h.made in
      record {
        made = made;
        clean = subst (Clean extents) made h.follows.clean;
        replays = subst (λ l. Replays l (values_in t.accesses) fault s.memory) made h.follows.replays;
        memory = h.follows.memory ∙ ap (λ (l : List Access). left_after l (values_in t.accesses) fault s.memory (length t.accesses)) made ∙
            ap (left_after own_list (values_in t.accesses) fault s.memory) (sym (length-map t.accesses (λ (x : Event). x.access)) ∙ ap length made);
        used = λ a fits. used_total arrays number wides fault vs extents decls body kept tables cells pieces s set begins (by_all is_index) trusts unseen t a h fits;
        defined = λ a low fits. defined_total arrays number wides fault vs extents decls body kept tables cells pieces s set begins (by_all is_index) trusts unseen t a h low fits;
      }

  turned : (P : State → Type 0) → ((t : State) → AtEnd t → P t) → (o : Outcome (Unit {0})) → GoesOr (EndsEarly (by_all is_index) extents (tagged_all arrays s.memory number 0 body vs)) Done o → WhereGoing (Clean extents own_list) P o
  turned P f (goes_on u t) h = f t (at_end t h)
  turned P f (ends e t) (inl h) = absurd (true≢false h.2)
  turned P f (ends e t) (inr h) = h

  pub must_end : (P : State → Type 0) → ((t : State) → AtEnd t → P t) → WhereGoing (Clean extents own_list) P (exec_all (scope_of arrays wides fault) (stmts_of (text_after tables decls cells number pieces body)) vs s)
  must_end P f = turned P f (exec_all (scope_of arrays wides fault) (stmts_of (text_after tables decls cells number pieces body)) vs s)
      (text_ends arrays number wides fault vs extents decls body kept tables cells pieces s set begins (by_all is_index) trusts unseen)

unseen_quiet : (number : Word → ℕ) (is_index : ℕ → Bool) (tagged : List Tagged) (body : PlainStmts) (fault : Option Upset) → HasIndexArrays number is_index (untagged tagged) body → IsQuiet is_index (untagged tagged) fault → Unseen (by_all is_index) fault tagged
unseen_quiet number is_index tagged body None has q = λ pre rest t is st. refl
unseen_quiet number is_index tagged body (Some f) has (inl e) = unseen_elsewhere (by_all is_index) f tagged e
unseen_quiet number is_index tagged body (Some f) has (inr e) = unseen_hidden (by_all is_index) f tagged has.unwritten e

pub quiet_ends : EveryQuietTextEnds
quiet_ends arrays number wides fault vs extents decls body kept tables cells pieces is_index s set has begins quiet =
    must_end arrays number wides fault vs extents decls body kept tables cells pieces is_index s set begins has.all
    (unseen_quiet number is_index (tagged_all arrays s.memory number 0 body vs) body fault has quiet)
    (EndsWith fault s.memory extents (untagged (tagged_all arrays s.memory number 0 body vs)) (length decls)) (λ t h. h)

pub hidden_or_plain : OthersAgree → HiddenOrPlain
hidden_or_plain others arrays number wides fault vs extents decls body kept tables cells pieces is_index s set has begins hidden =
    must_end arrays number wides (Some fault) vs extents decls body kept tables cells pieces is_index s set begins has.all (unseen_quiet number is_index (tagged_all arrays s.memory number 0 body vs) body (Some fault) has hidden)
    (λ t. (accesses_in t.accesses ≡ untagged (tagged_all arrays s.memory number 0 body vs)) × ((a : ℕ) → a < length decls → a < 2 ^ 64 → a ≢ fault.array → t.wides (use_total a) ≡ t.wides (definition_total a)))
    (λ t h. (h.made, λ a low fits ne. h.used a fits ∙ others (untagged (tagged_all arrays s.memory number 0 body vs)) extents s.memory (values_in t.accesses) fault a h.clean h.replays ne ∙ sym (h.defined a low fits)))

pub every_kept_text_balances : TotalsAgree → CalmMemory → EveryKeptTextBalances
every_kept_text_balances agree calm arrays number wides vs extents decls body kept tables cells pieces is_index s set has begins =
    must_end arrays number wides None vs extents decls body kept tables cells pieces is_index s set begins has.all (λ pre rest t is st. refl)
    (λ t. (accesses_in t.accesses ≡ untagged (tagged_all arrays s.memory number 0 body vs)) × Balanced (length decls) t)
    (λ t h. (h.made, λ a low fits. h.used a fits ∙ agree (untagged (tagged_all arrays s.memory number 0 body vs)) extents s.memory (values_in t.accesses) a h.clean (calm (untagged (tagged_all arrays s.memory number 0 body vs)) s.memory (values_in t.accesses) h.replays) ∙ sym (h.defined a low fits)))
