use Rattle.std.proofs.Common.{sym, ◌∙◌}
use Rattle.sites.proofs.Collecting.{noted}
use Rattle.sites.proofs.collect.note.Goals as goal

pub returns-in_ok-push : goal.returns-in_ok-push
returns-in_ok-push c =
    noted c.args.place.now.query.now _ _ c.in_ok-info.field-0 _ (sym c.same.ensures ∙ c.if-same.true) (c.in_ok-info.ensures c.args.x.now.bytes) c.in_ok-push.ensures.ok
