-- The classes and sites of these units compute.
use Rattle.std.proofs.Common.{refl}
use Rattle.sites.proofs.laws.worked_arrays.Goals as goal

pub returns-clause-mix : goal.returns-clause-mix
returns-clause-mix c = refl

pub returns-clause-gather : goal.returns-clause-gather
returns-clause-gather c = refl

pub returns-clause-shift : goal.returns-clause-shift
returns-clause-shift c = refl

pub returns-clause-product : goal.returns-clause-product
returns-clause-product c = refl

pub returns-clause-triangle : goal.returns-clause-triangle
returns-clause-triangle c = refl

pub returns-clause-jacobi : goal.returns-clause-jacobi
returns-clause-jacobi c = refl

pub returns-clause-compound : goal.returns-clause-compound
returns-clause-compound c = refl

pub returns-clause-through_an_index : goal.returns-clause-through_an_index
returns-clause-through_an_index c = refl
