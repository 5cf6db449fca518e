-- The conditions of the code, and what there is too much of at an item.
use Rattle.std.specs.Prelude.{◌≡◌, ◌+◌, ◌<◌, ◌^◌, ℕ, Bool, true, false, if◌then◌else◌, nat_lt, length, [], Option, Some, None}
use Rattle.c_tree.specs.Plain.{PlainUnit}
use Rattle.acceptance.specs.Head.{bad_range, intervals_of, extent_not_affine, extent_terms_too_large, extent_too_wide}
use Rattle.acceptance.specs.Items.{Item, Condition, items_all, least_item}
use Rattle.acceptance.specs.Limits.{depth, reads_of}
use Rattle.acceptance.specs.Parts.{intervals_in}
use Rattle.acceptance.specs.Printed.{name_twice, name_unknown, at_head, wrong_dimensions, bad_literal, wrong_kind}
use Rattle.acceptance.specs.Sources.{reserved_name, not_affine, coefficient_too_large, interval_too_wide, write_to_const, bad_index_array, irregular_write}
use Rattle.scopes.specs.Scopes.{declared_in, kept_intervals, loops_in}
use Rattle.scopes.specs.declared.scope.Scope.{Scope}
use Rattle.kernel_check.specs.Items.{are_flat}
use Rattle.kernel_check.specs.declared.conditions.Check.{Check}
use Rattle.kernel_check.specs.declared.conditions.Check.TheVariants as c

abbrev pub condition : Check → PlainUnit → Condition
condition c.NameTwice u = name_twice u
condition c.NameUnknown u = name_unknown u
condition c.ReservedName u = reserved_name u
condition c.BadRange u = bad_range u
condition c.TooDeep u = record { head = false; inside = λ i. nat_lt 6 (depth i) }
condition c.TooManyReads u = record { head = false; inside = λ i. nat_lt 16 (reads_of i.stmt) }
condition c.NotAffine u = not_affine u
condition c.CoefficientTooLarge u = coefficient_too_large u
condition c.IntervalTooWide u = interval_too_wide u
condition c.ExtentNotAffine u = at_head (extent_not_affine u)
condition c.ExtentTermsTooLarge u = at_head (extent_terms_too_large u)
condition c.ExtentTooWide u = at_head (extent_too_wide u)
condition c.WrongDimensions u = wrong_dimensions u
condition c.WriteToConst u = write_to_const u
condition c.BadIndexArray u = bad_index_array u
condition c.BadLiteral u = bad_literal u
condition c.IrregularWrite u = irregular_write u
condition c.WrongKind u = wrong_kind u

-- the item 0, where the test holds
abbrev pub holds : Bool → Option ℕ
holds b = if b then Some 0 else None

-- the number of the refusal
abbrev pub number : Check → ℕ
number c.NameTwice = 4
number c.NameUnknown = 5
number c.ReservedName = 6
number c.BadRange = 7
number c.TooDeep = 8
number c.TooManyReads = 8
number c.NotAffine = 9
number c.CoefficientTooLarge = 10
number c.IntervalTooWide = 11
number c.ExtentNotAffine = 9
number c.ExtentTermsTooLarge = 10
number c.ExtentTooWide = 11
number c.WrongDimensions = 13
number c.WriteToConst = 14
number c.BadIndexArray = 15
number c.BadLiteral = 16
number c.IrregularWrite = 17
number c.WrongKind = 18

abbrev pub judgement : PlainUnit → Check → ℕ × Option ℕ
judgement u check = (number check, least_item u (condition check u))

-- the same of the head alone
abbrev pub judgement_at_head : PlainUnit → Check → ℕ × Option ℕ
judgement_at_head u check = (number check, holds (condition check u).head)

-- ---- at an item

abbrev pub over : ℕ → ℕ → Option ℕ
over most n = if nat_lt most n then Some n else None

abbrev pub excess : Check → PlainUnit → Item → Option ℕ
excess c.TooDeep u i = over 6 (depth i)
excess c.TooManyReads u i = over 16 (reads_of i.stmt)
excess check u i = holds ((condition check u).inside i)

-- the intervals kept at the loops are right where they are used
abbrev pub IsRanged : Check → Scope → Type 0
IsRanged c.IntervalTooWide sc =
    kept_intervals (intervals_of (declared_in sc.declared.now)) sc.around.now ≡ intervals_in (intervals_of (declared_in sc.declared.now)) (loops_in sc.around.now)
IsRanged _ sc = Unit {0}

-- tables are made at the top level alone, and the items can be numbered
pub record IsNumbered (u : PlainUnit) : Type 0 where
  pub flat : are_flat u.body ≡ true
  pub few : 1 + length (items_all u.body [] []) < 2 ^ 31

-- a refusal that carries a count
abbrev pub carries_count : Check → Bool
carries_count c.TooDeep = true
carries_count c.TooManyReads = true
carries_count _ = false
