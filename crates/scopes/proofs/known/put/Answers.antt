use Rattle.scopes.proofs.KnownNames.{put_is}
use Rattle.scopes.proofs.known.put.Goals as goal

pub returns : goal.returns
returns c = put_is c.args.table.now.entries c.insert.new.self.entries c.as_slice.result c.args.name.now.bytes c.args.known c.as_slice.ensures c.in_ok-insert.ensures.updates.0
