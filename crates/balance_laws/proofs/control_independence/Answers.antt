use Rattle.balance_laws.proofs.Independent.{places_are_fixed, own_values_are_nothing, index_arrays_are_all}
use Rattle.balance_laws.proofs.control_independence.Goals as goal

pub returns-clause-places : goal.returns-clause-places
returns-clause-places c = places_are_fixed

pub returns-clause-own : goal.returns-clause-own
returns-clause-own c = own_values_are_nothing

pub returns-clause-list : goal.returns-clause-list
returns-clause-list c = index_arrays_are_all
