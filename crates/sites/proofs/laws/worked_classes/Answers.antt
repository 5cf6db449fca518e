-- The classes and sites of these units compute.
use Rattle.std.proofs.Common.{refl}
use Rattle.sites.proofs.laws.worked_classes.Goals as goal

pub returns-clause-near : goal.returns-clause-near
returns-clause-near c = refl

pub returns-clause-beyond : goal.returns-clause-beyond
returns-clause-beyond c = refl

pub returns-clause-near_below : goal.returns-clause-near_below
returns-clause-near_below c = refl

pub returns-clause-beyond_below : goal.returns-clause-beyond_below
returns-clause-beyond_below c = refl

pub returns-clause-collected : goal.returns-clause-collected
returns-clause-collected c = refl

pub returns-clause-doubled : goal.returns-clause-doubled
returns-clause-doubled c = refl

pub returns-clause-two_names : goal.returns-clause-two_names
returns-clause-two_names c = refl

pub returns-clause-ordered : goal.returns-clause-ordered
returns-clause-ordered c = refl

pub returns-clause-equal : goal.returns-clause-equal
returns-clause-equal c = refl

pub returns-clause-unequal : goal.returns-clause-unequal
returns-clause-unequal c = refl

pub returns-clause-sum_of_two : goal.returns-clause-sum_of_two
returns-clause-sum_of_two c = refl

pub returns-clause-far_apart : goal.returns-clause-far_apart
returns-clause-far_apart c = refl

pub returns-clause-two_tests : goal.returns-clause-two_tests
returns-clause-two_tests c = refl

pub returns-clause-other : goal.returns-clause-other
returns-clause-other c = refl

pub returns-clause-other_of_equal : goal.returns-clause-other_of_equal
returns-clause-other_of_equal c = refl

pub returns-clause-other_of_two : goal.returns-clause-other_of_two
returns-clause-other_of_two c = refl

pub returns-clause-four_writes : goal.returns-clause-four_writes
returns-clause-four_writes c = refl

pub returns-clause-five_writes : goal.returns-clause-five_writes
returns-clause-five_writes c = refl

pub returns-clause-eight_reads : goal.returns-clause-eight_reads
returns-clause-eight_reads c = refl

pub returns-clause-nine_reads : goal.returns-clause-nine_reads
returns-clause-nine_reads c = refl

pub returns-clause-three_loops : goal.returns-clause-three_loops
returns-clause-three_loops c = refl

pub returns-clause-four_loops : goal.returns-clause-four_loops
returns-clause-four_loops c = refl

pub returns-clause-four_ints : goal.returns-clause-four_ints
returns-clause-four_ints c = refl

pub returns-clause-five_ints : goal.returns-clause-five_ints
returns-clause-five_ints c = refl
