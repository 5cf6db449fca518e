use Rattle.flip_laws.proofs.Steps.{tells_of_faults}
use Rattle.flip_laws.proofs.ready_sources_tell_of_faults.Goals as goal

pub returns : goal.returns
returns c = λ u forms.
    tells_of_faults c.every_quiet_text_ends.ensures c.every_text_follows.ensures c.every_kept_unit_follows.ensures.go_on c.passes_go_on.ensures.source_turns
    c.every_kept_unit_follows.ensures.steps c.every_kept_unit_follows.ensures.totals c.every_kept_unit_follows.ensures.on_course c.law_of_flips.ensures.hidden c.law_of_flips.ensures.left
    c.ready_sources_are_guarded.ensures u forms
