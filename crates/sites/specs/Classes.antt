-- The classes of arrays.
use Rattle.std.specs.Prelude.{ℕ, suc, Bool, true, false, not, ◌&&◌, ◌||◌, if◌then◌else◌, nat_le, List, [], ◌∷◌, filter, length, ℤ, pos, neg_ℤ, ◌-ℤ◌}
use Rattle.std.specs.Ordering.{int_eq}
use Rattle.std.specs.List.{list_all, list_any}
use Rattle.c_tree.specs.Names.{ints_in}
use Rattle.c_tree.specs.Plain.{Word, PlainExpr, PlainExprs, no_exprs, more_exprs, PlainTest, PlainUnit}
use Rattle.c_tree.specs.declared.expr.Rel.{Rel}
use Rattle.c_tree.specs.declared.expr.Rel.TheVariants.{Eq, Ne}
use Rattle.acceptance.specs.Affine.{lies_in, constant, coefficient}
use Rattle.acceptance.specs.Parts.{is_cell}
use Rattle.sites.specs.Sites.{Frame, in_loop, in_branch, Reach, Site, around, is_read, is_write, sites_of}
use Rattle.sites.specs.declared.class.Class.{Class}
use Rattle.sites.specs.declared.class.Class.TheVariants.{Difference, Counted, Inspected}
use Rattle.sites.specs.declared.form.Form.{Form}
use Rattle.sites.specs.declared.form.Form.TheVariants.{Constant, Plus, Minus, Both, Other}

-- how constants and coefficients are found; those of an affine expression are `exactly`
pub record Terms : Type 0 where
  pub constant_in : PlainExpr → ℤ
  pub coefficient_in : Word → PlainExpr → ℤ

abbrev pub exactly : Terms
exactly = record { constant_in = constant; coefficient_in = coefficient }

-- ---- the form of a sum

abbrev pub with_plus : Form → Form
with_plus Constant = Plus
with_plus Minus = Both
with_plus _ = Other

abbrev pub with_minus : Form → Form
with_minus Constant = Minus
with_minus Plus = Both
with_minus _ = Other

-- one more coefficient
abbrev pub with_term : Form → ℤ → Form
with_term f z = if int_eq z (pos 0) then f else if int_eq z (pos 1) then with_plus f else if int_eq z (neg_ℤ (pos 1)) then with_minus f else Other

-- the form of a sum that has the terms of f, and these coefficients of names
abbrev pub form_from : Form → (Word → ℤ) → List Word → Form
form_from f c [] = f
form_from f c (x ∷ xs) = form_from (with_term f (c x)) c xs

abbrev pub form : (Word → ℤ) → List Word → Form
form = form_from Constant

-- c and x + c
abbrev pub is_plain_form : Form → Bool
is_plain_form Constant = true
is_plain_form Plus = true
is_plain_form _ = false

-- c, x + c, -x + c and x - y + c
abbrev pub is_difference_form : Form → Bool
is_difference_form Other = false
is_difference_form _ = true

-- within -1024 to 1024
abbrev pub is_near : ℤ → Bool
is_near = lies_in (pos 1024)

-- ---- what stands around a site

-- the variables of the loops, the innermost first, and the `int64_t` parameters
abbrev pub names_around : List Word → List Frame → List Word
names_around ints [] = ints
names_around ints (in_loop l ∷ fs) = l.name ∷ names_around ints fs
names_around ints (in_branch first ts ∷ fs) = names_around ints fs

abbrev pub loops_in : List Frame → ℕ
loops_in [] = 0
loops_in (in_loop l ∷ fs) = suc (loops_in fs)
loops_in (in_branch first ts ∷ fs) = loops_in fs

-- a bound or a subscript
abbrev pub is_plain : Terms → List Word → PlainExpr → Bool
is_plain t names e = is_near (t.constant_in e) && is_plain_form (form (λ x. t.coefficient_in x e) names)

abbrev pub are_plain : Terms → List Word → PlainExprs → Bool
are_plain t names no_exprs = true
are_plain t names (more_exprs e es) = is_plain t names e && are_plain t names es

abbrev pub is_unequal : Rel → Bool
is_unequal Ne = true
is_unequal _ = false

-- of a comparison, by its left side minus its right side
abbrev pub is_good_test : Terms → List Word → PlainTest → Bool
is_good_test t names c =
    not (is_unequal c.0) && (is_near (t.constant_in c.1 -ℤ t.constant_in c.2)
    && is_difference_form (form (λ x. t.coefficient_in x c.1 -ℤ t.coefficient_in x c.2) names))

abbrev pub are_good_tests : Terms → List Word → List PlainTest → Bool
are_good_tests t names [] = true
are_good_tests t names (c ∷ cs) = is_good_test t names c && are_good_tests t names cs

abbrev pub is_order : Rel → Bool
is_order Eq = false
is_order Ne = false
is_order _ = true

-- under an `else` the condition is one comparison by order
abbrev pub is_good_branch : Bool → List PlainTest → Bool
is_good_branch true cs = true
is_good_branch false (c ∷ []) = is_order c.0
is_good_branch false _ = false

-- each is read with the names that are in scope there
abbrev pub are_good_frames : Terms → List Word → List Frame → Bool
are_good_frames t ints [] = true
are_good_frames t ints (in_loop l ∷ fs) = is_plain t (names_around ints fs) l.lo && (is_plain t (names_around ints fs) l.hi && are_good_frames t ints fs)
are_good_frames t ints (in_branch first cs ∷ fs) = is_good_branch first cs && (are_good_tests t (names_around ints fs) cs && are_good_frames t ints fs)

-- at most three loops, and plain subscripts
abbrev pub is_good : Terms → List Word → List Frame → PlainExprs → Bool
is_good t ints fs at = nat_le (loops_in fs) 3 && (are_good_frames t ints fs && are_plain t (names_around ints fs) at)

-- ---- the parameters around a site

-- the name has a coefficient that isn't 0
abbrev pub names : Terms → Word → PlainExpr → Bool
names t x e = not (int_eq (t.coefficient_in x e) (pos 0))

abbrev pub exprs_name : Terms → Word → PlainExprs → Bool
exprs_name t x no_exprs = false
exprs_name t x (more_exprs e es) = names t x e || exprs_name t x es

abbrev pub tests_name : Terms → Word → List PlainTest → Bool
tests_name t x [] = false
tests_name t x (c ∷ cs) = names t x c.1 || (names t x c.2 || tests_name t x cs)

abbrev pub frames_name : Terms → Word → List Frame → Bool
frames_name t x [] = false
frames_name t x (in_loop l ∷ fs) = names t x l.lo || (names t x l.hi || frames_name t x fs)
frames_name t x (in_branch first cs ∷ fs) = tests_name t x cs || frames_name t x fs

-- the name occurs in a bound, a condition or a subscript
abbrev pub occurs : Terms → Word → List Frame → PlainExprs → Bool
occurs t x fs at = frames_name t x fs || exprs_name t x at

-- ---- classes

abbrev pub has_cell : PlainExprs → Bool
has_cell no_exprs = false
has_cell (more_exprs e es) = is_cell e || has_cell es

abbrev pub is_irregular : Reach → Bool
is_irregular r = not r.writes && has_cell r.at

abbrev pub number : (Site → Bool) → List Site → ℕ
number p ss = length (filter p ss)

-- at most four write sites and eight read sites, each good, and at most four parameters
abbrev pub are_differences : Terms → List Word → List Site → Bool
are_differences t ints ss =
    nat_le (number is_write ss) 4 && (nat_le (number is_read ss) 8
    && (list_all (λ s. is_good t ints (around s) s.reach.at) ss
    && nat_le (length (filter (λ x. list_any (λ s. occurs t x (around s) s.reach.at) ss) ints)) 4))

-- the first that fits
abbrev pub class_by : Terms → List Word → List Site → Class
class_by t ints ss = if list_any (λ s. is_irregular s.reach) ss then Inspected else if are_differences t ints ss then Difference else Counted

-- the class of an array
abbrev pub class_of : PlainUnit → Word → Class
class_of u x = class_by exactly (ints_in u.params) (sites_of u x)
