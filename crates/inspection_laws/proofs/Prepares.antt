-- After the tables of one inspected array are built, the state is one from which pieces run.
use Rattle.std.proofs.Common.{◌≡◌, inl, inr, ℕ, ℤ, Bool, true, false, ◌||◌, ◌&&◌, if◌then◌else◌, nat_eq, List, [], ◌∷◌, ◌++◌, refl, sym, ap, ◌∙◌, subst, true≢false}
use Rattle.std.specs.Prelude.{bytes_eq, codes}
use Rattle.std.specs.List.{list_any}
use Rattle.std.proofs.lemmas.Bool.{cases_Bool}
use Rattle.c_tree.specs.Plain.{Word}
use Rattle.c_tree.specs.Accesses.{Access}
use Rattle.c_tree.specs.Run.{State, Outcome, goes_on, ends}
use Rattle.instrumentation_laws.specs.OwnNames.{own, piece_word, begins}
use Rattle.instrumentation_laws.proofs.Names.{apart_as, own_no_piece}
use Rattle.instrumentation.specs.Names.{written}
use Rattle.instrumentation_laws.specs.Kept.{Kept}
use Rattle.inspection_laws.specs.Inspections.{counts_one_of, tables_kept}
use Rattle.inspection_laws.specs.Walked.{is_scratch, Built}
use Rattle.instrumentation_laws.specs.KeptTexts.{GoesPrepared}
use Rattle.instrumentation_laws.proofs.Outcomes.{GoesOr}
use Rattle.inspection_laws.proofs.TablePieces.{same_text, written_piece}

begins_more : (p q x : Word) → begins (p ++ q) x ≡ true → begins p x ≡ true
begins_more [] q x e = refl
begins_more (a ∷ p) q [] e = e
begins_more (a ∷ p) q (b ∷ x) e = both (nat_eq a b) (begins (p ++ q) x) (begins p x) e (λ g. begins_more p q x g)
  where
    both : (t c d : Bool) → (t && c) ≡ true → (c ≡ true → d ≡ true) → (t && d) ≡ true
    both true c d g h = h g
    both false c d g h = g

pub scratch_piece : (a : ℕ) (x : Word) → is_scratch a x ≡ true → piece_word x ≡ true
scratch_piece a x e =
    elim (cases_Bool (bytes_eq (written a) x)) [
      | inl g ↦ subst (λ x. piece_word x ≡ true) (same_text (written a) x g) (written_piece a)
      | inr g ↦ begins_more (codes "bal_c") (codes "x") x (sym (ap (λ b. b || begins (codes "bal_cx") x) g) ∙ e)
    ]

pub own_no_scratch : (a : ℕ) (x : Word) → own x ≡ true → is_scratch a x ≡ false
own_no_scratch a x o = elim (cases_Bool (is_scratch a x)) [ inl e ↦ absurd (true≢false (sym (scratch_piece a x e) ∙ own_no_piece x o)) | inr e ↦ e ]

-- the words of tables are no wide names, where these aren't words of pieces
abbrev pub AllNoPieces : List Word → Type 0
AllNoPieces [] = Unit {0}
AllNoPieces (x ∷ xs) = (piece_word x ≡ false) × AllNoPieces xs

pub piece_not_wide : (xs : List Word) (x : Word) → AllNoPieces xs → piece_word x ≡ true → list_any (bytes_eq x) xs ≡ false
piece_not_wide [] x h e = refl
piece_not_wide (y ∷ xs) x h e = rw (apart_as piece_word x y e h.0) (piece_not_wide xs x h.1 e)

abbrev tables_in : Outcome (Unit {0}) → Word → List ℕ
tables_in (goes_on u t) = t.tables
tables_in (ends e t) = t.tables

abbrev pub kept_by : ℕ → Outcome (Unit {0}) → Kept
kept_by a o = tables_kept (a ∷ []) (tables_in o)

pub prepares : (list : List Access) (a : ℕ) (es : List ℤ) (s : State) (o : Outcome (Unit {0})) → GoesOr (λ e t. ⊥) (Built list a es s) o → GoesPrepared (kept_by a o) s o
prepares list a es s (goes_on u t) b = record {
  begun = b.begun;
  memory = b.memory;
  accesses = b.accesses;
  wides = b.wides;
  words = λ x o. b.words x (own_no_scratch a x o);
  ready = record { entries = refl; counters = λ x e. one x e };
}
  where
    one : (x : Word) → counts_one_of (a ∷ []) x ≡ true → t.words x ≡ (tables_kept (a ∷ []) t.tables).counter [] x
    one x e =
        elim (cases_Bool (bytes_eq (written a) x)) [
          | inl g ↦ (ap t.words (sym (same_text (written a) x g)) ∙ b.none_written ∙ sym (ap (λ (c : Bool). if c then 0 else 0) g))
          | inr g ↦ absurd (true≢false (sym (sym (ap (λ c. c || false) g) ∙ e)))
        ]
prepares list a es s (ends e t) b = absurd b
