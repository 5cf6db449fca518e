use Rattle.std.proofs.Common.{◌∙◌}
use Rattle.data_file.proofs.NamePlaces.{position-listed}
use Rattle.data_file.proofs.names.place_in.Goals as goal

pub returns : goal.returns
returns c = c.get_index_of.ensures.index ∙ position-listed c.args.name.now c.args.names.now.keys
