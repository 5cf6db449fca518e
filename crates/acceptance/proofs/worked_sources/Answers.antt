-- The conditions of these units compute.
use Rattle.std.proofs.Common.{refl}
use Rattle.acceptance.proofs.worked_sources.Goals as goal

pub returns-clause-accepted : goal.returns-clause-accepted
returns-clause-accepted c = refl

pub returns-clause-accepted_product : goal.returns-clause-accepted_product
returns-clause-accepted_product c = refl

pub returns-clause-accepted_mix : goal.returns-clause-accepted_mix
returns-clause-accepted_mix c = refl

pub returns-clause-accepted_gather : goal.returns-clause-accepted_gather
returns-clause-accepted_gather c = refl

pub returns-clause-accepted_cast : goal.returns-clause-accepted_cast
returns-clause-accepted_cast c = refl

pub returns-clause-subscript : goal.returns-clause-subscript
returns-clause-subscript c = refl

pub returns-clause-scattered : goal.returns-clause-scattered
returns-clause-scattered c = refl

pub returns-clause-deep : goal.returns-clause-deep
returns-clause-deep c = refl

pub returns-clause-how_deep : goal.returns-clause-how_deep
returns-clause-how_deep c = refl

pub returns-clause-reserved : goal.returns-clause-reserved
returns-clause-reserved c = refl

pub returns-clause-divided : goal.returns-clause-divided
returns-clause-divided c = refl

pub returns-clause-indexed : goal.returns-clause-indexed
returns-clause-indexed c = refl

pub returns-clause-indexed_itself : goal.returns-clause-indexed_itself
returns-clause-indexed_itself c = refl

pub returns-clause-twice : goal.returns-clause-twice
returns-clause-twice c = refl

pub returns-clause-unknown : goal.returns-clause-unknown
returns-clause-unknown c = refl

pub returns-clause-no_line : goal.returns-clause-no_line
returns-clause-no_line c = refl

pub returns-clause-large : goal.returns-clause-large
returns-clause-large c = refl

pub returns-clause-empty : goal.returns-clause-empty
returns-clause-empty c = refl

pub returns-clause-long : goal.returns-clause-long
returns-clause-long c = refl

pub returns-clause-cast_in_cast : goal.returns-clause-cast_in_cast
returns-clause-cast_in_cast c = refl

pub returns-clause-scalar_beside : goal.returns-clause-scalar_beside
returns-clause-scalar_beside c = refl

pub returns-clause-bare : goal.returns-clause-bare
returns-clause-bare c = refl

pub returns-clause-read : goal.returns-clause-read
returns-clause-read c = refl
