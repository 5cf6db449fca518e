-- What words of a mode order, by how many names there are.
use Rattle.std.proofs.Common.{◌≡◌, ◌∙◌, ℕ, Bool, true, false, if◌then◌else◌, List, [], ◌∷◌, drop, Option, Some, None, codes, refl, sym, ap}
use Rattle.std.specs.List.{list_all}
use Rattle.std.specs.Str.{bytes_eq}
use Rattle.command_line.specs.Forms.{IsMode, IsOne, IsRun, IsNotOne, IsNotRun}
use Rattle.command_line.specs.Orders.{print, run_file, attempt, report, flip_files, is_name, number_of, demo_order, text_order, run_order, mode_order, order_of}

by_names : (mode : List ℕ) (names : List (List ℕ)) (b : Bool) → list_all is_name names ≡ b → order_of (mode ∷ names) ≡ (if b then mode_order mode names else None)
by_names mode names b is = ap (λ c. if c then mode_order mode names else None) is

pub ordered : (words : List (List ℕ)) (mode : List ℕ) (h : IsMode words mode) → order_of words ≡ mode_order mode h.names
ordered words mode h = ap order_of h.parts ∙ by_names mode h.names true h.are_names

-- a word that is no name orders nothing
pub not_names : (mode : List ℕ) (names : List (List ℕ)) → list_all is_name names ≡ false → order_of (mode ∷ names) ≡ None
not_names mode names is = by_names mode names false is

names_are : (words : List (List ℕ)) (mode : List ℕ) (h : IsMode words mode) (first : List ℕ) (rest : List (List ℕ)) → words ≡ first ∷ rest → h.names ≡ rest
names_are words mode h first rest is = ap (λ (ws : List (List ℕ)). drop 1 ws) (sym h.parts ∙ is)

-- ---- one name

pub text_case : (words : List (List ℕ)) (mode name : List ℕ) → IsMode words mode → IsOne words name → order_of words ≡ text_order mode name
text_case words mode name h one = ordered words mode h ∙ ap (mode_order mode) (names_are words mode h one.0 (name ∷ []) one.1)

abbrev RunsNothing : List ℕ → Type 0
RunsNothing mode = (file input : List ℕ) (flip : Option (List ℕ)) → run_order mode file input flip ≡ None

not_one : (mode : List ℕ) (names : List (List ℕ)) → RunsNothing mode → ((name : List ℕ) → names ≡ name ∷ [] → ⊥) → mode_order mode names ≡ None
not_one mode [] runs none = refl
not_one mode (name ∷ []) runs none = absurd (none name refl)
not_one mode (file ∷ input ∷ []) runs none = runs file input None
not_one mode (file ∷ input ∷ flip ∷ []) runs none = runs file input (Some flip)
not_one mode (file ∷ input ∷ flip ∷ more ∷ rest) runs none = refl

pub no_text : (words : List (List ℕ)) (mode : List ℕ) → IsMode words mode → RunsNothing mode → IsNotOne words → order_of words ≡ None
no_text words mode h runs none = ordered words mode h ∙ not_one mode h.names runs (λ name is. none name (mode, h.parts ∙ ap (λ ns. mode ∷ ns) is))

-- ---- two names and maybe a third

by_flip : (mode file input : List ℕ) (flip : Option (List ℕ)) → mode_order mode (file ∷ input ∷ flip_files flip) ≡ run_order mode file input flip
by_flip mode file input None = refl
by_flip mode file input (Some flip) = refl

pub run_case : (words : List (List ℕ)) (mode file input : List ℕ) (flip : Option (List ℕ)) → IsMode words mode → IsRun words file input flip → order_of words ≡ run_order mode file input flip
run_case words mode file input flip h run =
    ordered words mode h ∙ ap (mode_order mode) (names_are words mode h run.0 (file ∷ input ∷ flip_files flip) run.1) ∙ by_flip mode file input flip

abbrev NamesNothing : List ℕ → Type 0
NamesNothing mode = (name : List ℕ) → text_order mode name ≡ None

not_run : (mode : List ℕ) (names : List (List ℕ)) → NamesNothing mode → ((file input : List ℕ) (flip : Option (List ℕ)) → names ≡ file ∷ input ∷ flip_files flip → ⊥) → mode_order mode names ≡ None
not_run mode [] texts none = refl
not_run mode (name ∷ []) texts none = texts name
not_run mode (file ∷ input ∷ []) texts none = absurd (none file input None refl)
not_run mode (file ∷ input ∷ flip ∷ []) texts none = absurd (none file input (Some flip) refl)
not_run mode (file ∷ input ∷ flip ∷ more ∷ rest) texts none = refl

pub no_run : (words : List (List ℕ)) (mode : List ℕ) → IsMode words mode → NamesNothing mode → IsNotRun words → order_of words ≡ None
no_run words mode h texts none =
    ordered words mode h ∙ not_run mode h.names texts (λ file input flip is. none file input flip (mode, h.parts ∙ ap (λ ns. mode ∷ ns) is))

-- ---- another mode

any_names : (mode : List ℕ) (names : List (List ℕ)) → NamesNothing mode → RunsNothing mode → mode_order mode names ≡ None
any_names mode [] texts runs = refl
any_names mode (name ∷ []) texts runs = texts name
any_names mode (file ∷ input ∷ []) texts runs = runs file input None
any_names mode (file ∷ input ∷ flip ∷ []) texts runs = runs file input (Some flip)
any_names mode (file ∷ input ∷ flip ∷ more ∷ rest) texts runs = refl

pub no_mode : (words : List (List ℕ)) (mode : List ℕ) → IsMode words mode → bytes_eq mode (codes "print") ≡ false → bytes_eq mode (codes "run") ≡ false
    → bytes_eq mode (codes "try") ≡ false → bytes_eq mode (codes "report") ≡ false → bytes_eq mode (codes "demo") ≡ false → order_of words ≡ None
no_mode words mode h p r t q d =
    ordered words mode h ∙ any_names mode h.names (λ name. rw (p, q, d) refl) (λ file input flip. rw (r, t) refl)

-- ---- the modes

pub print_ordered : (words : List (List ℕ)) (mode name : List ℕ) → mode ≡ codes "print" → IsMode words mode → IsOne words name → order_of words ≡ Some (print name)
print_ordered words mode name is h one = text_case words mode name h one ∙ ap (λ m. text_order m name) is

pub report_ordered : (words : List (List ℕ)) (mode name : List ℕ) → mode ≡ codes "report" → IsMode words mode → IsOne words name → order_of words ≡ Some (report name)
report_ordered words mode name is h one = text_case words mode name h one ∙ ap (λ m. text_order m name) is

pub demo_ordered : (words : List (List ℕ)) (mode name : List ℕ) → mode ≡ codes "demo" → IsMode words mode → IsOne words name → order_of words ≡ demo_order (number_of name)
demo_ordered words mode name is h one = text_case words mode name h one ∙ ap (λ m. text_order m name) is

pub run_ordered : (words : List (List ℕ)) (mode file input : List ℕ) (flip : Option (List ℕ)) → mode ≡ codes "run" → IsMode words mode → IsRun words file input flip
    → order_of words ≡ Some (run_file file input flip)
run_ordered words mode file input flip is h run = run_case words mode file input flip h run ∙ ap (λ m. run_order m file input flip) is

pub attempt_ordered : (words : List (List ℕ)) (mode file input : List ℕ) (flip : Option (List ℕ)) → mode ≡ codes "try" → IsMode words mode → IsRun words file input flip
    → order_of words ≡ Some (attempt file input flip)
attempt_ordered words mode file input flip is h run = run_case words mode file input flip h run ∙ ap (λ m. run_order m file input flip) is

pub print_none : (words : List (List ℕ)) (mode : List ℕ) → mode ≡ codes "print" → IsMode words mode → IsNotOne words → order_of words ≡ None
print_none words mode is h none = no_text words mode h (λ file input flip. ap (λ m. run_order m file input flip) is) none

pub report_none : (words : List (List ℕ)) (mode : List ℕ) → mode ≡ codes "report" → IsMode words mode → IsNotOne words → order_of words ≡ None
report_none words mode is h none = no_text words mode h (λ file input flip. ap (λ m. run_order m file input flip) is) none

pub demo_none : (words : List (List ℕ)) (mode : List ℕ) → mode ≡ codes "demo" → IsMode words mode → IsNotOne words → order_of words ≡ None
demo_none words mode is h none = no_text words mode h (λ file input flip. ap (λ m. run_order m file input flip) is) none

pub run_none : (words : List (List ℕ)) (mode : List ℕ) → mode ≡ codes "run" → IsMode words mode → IsNotRun words → order_of words ≡ None
run_none words mode is h none = no_run words mode h (λ name. ap (λ m. text_order m name) is) none

pub attempt_none : (words : List (List ℕ)) (mode : List ℕ) → mode ≡ codes "try" → IsMode words mode → IsNotRun words → order_of words ≡ None
attempt_none words mode is h none = no_run words mode h (λ name. ap (λ m. text_order m name) is) none
