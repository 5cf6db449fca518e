-- The conditions of these units compute.
use Rattle.std.proofs.Common.{refl}
use Rattle.acceptance.proofs.worked_limits.Goals as goal

pub returns-clause-triangle : goal.returns-clause-triangle
returns-clause-triangle c = refl

pub returns-clause-jacobi : goal.returns-clause-jacobi
returns-clause-jacobi c = refl

pub returns-clause-reserved_and_unknown : goal.returns-clause-reserved_and_unknown
returns-clause-reserved_and_unknown c = refl

pub returns-clause-six_loops : goal.returns-clause-six_loops
returns-clause-six_loops c = refl

pub returns-clause-eight_ints : goal.returns-clause-eight_ints
returns-clause-eight_ints c = refl

pub returns-clause-nine_ints : goal.returns-clause-nine_ints
returns-clause-nine_ints c = refl

pub returns-clause-sixteen_reads : goal.returns-clause-sixteen_reads
returns-clause-sixteen_reads c = refl

pub returns-clause-old_cell_read : goal.returns-clause-old_cell_read
returns-clause-old_cell_read c = refl

pub returns-clause-four_terms : goal.returns-clause-four_terms
returns-clause-four_terms c = refl

pub returns-clause-five_terms : goal.returns-clause-five_terms
returns-clause-five_terms c = refl

pub returns-clause-largest_range : goal.returns-clause-largest_range
returns-clause-largest_range c = refl

pub returns-clause-larger_range : goal.returns-clause-larger_range
returns-clause-larger_range c = refl

pub returns-clause-empty_range : goal.returns-clause-empty_range
returns-clause-empty_range c = refl

pub returns-clause-two_lines : goal.returns-clause-two_lines
returns-clause-two_lines c = refl

pub returns-clause-line_of_array : goal.returns-clause-line_of_array
returns-clause-line_of_array c = refl

pub returns-clause-to_const : goal.returns-clause-to_const
returns-clause-to_const c = refl

pub returns-clause-to_parameter : goal.returns-clause-to_parameter
returns-clause-to_parameter c = refl

pub returns-clause-to_variable : goal.returns-clause-to_variable
returns-clause-to_variable c = refl

pub returns-clause-to_scalar : goal.returns-clause-to_scalar
returns-clause-to_scalar c = refl

pub returns-clause-to_array : goal.returns-clause-to_array
returns-clause-to_array c = refl

pub returns-clause-two_subscripts : goal.returns-clause-two_subscripts
returns-clause-two_subscripts c = refl

pub returns-clause-scalar_cell : goal.returns-clause-scalar_cell
returns-clause-scalar_cell c = refl

pub returns-clause-variable_cell : goal.returns-clause-variable_cell
returns-clause-variable_cell c = refl

pub returns-clause-scalar_subscript : goal.returns-clause-scalar_subscript
returns-clause-scalar_subscript c = refl

pub returns-clause-literal_subscript : goal.returns-clause-literal_subscript
returns-clause-literal_subscript c = refl

pub returns-clause-cast_umin : goal.returns-clause-cast_umin
returns-clause-cast_umin c = refl

pub returns-clause-signed_comparison : goal.returns-clause-signed_comparison
returns-clause-signed_comparison c = refl

pub returns-clause-shift_by_64 : goal.returns-clause-shift_by_64
returns-clause-shift_by_64 c = refl

pub returns-clause-shift_by_63 : goal.returns-clause-shift_by_63
returns-clause-shift_by_63 c = refl

pub returns-clause-scalar_test : goal.returns-clause-scalar_test
returns-clause-scalar_test c = refl

pub returns-clause-affine_test : goal.returns-clause-affine_test
returns-clause-affine_test c = refl
