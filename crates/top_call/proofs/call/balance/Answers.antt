use Rattle.top_call.proofs.Clauses.{caused, misused_only, misused, asked, complete, determined_end}
use Rattle.top_call.proofs.TextLaws.{refused_as, units_of}
use Rattle.top_call.proofs.call.balance.Goals as goal

pub returns-clause-cause : goal.returns-clause-cause
returns-clause-cause g c = caused _ _ _ c.answered.ensures

pub returns-clause-usage_only : goal.returns-clause-usage_only
returns-clause-usage_only g c = misused_only _ _ _ c.answered.ensures

pub returns-clause-usage : goal.returns-clause-usage
returns-clause-usage g c = misused _ _ _ c.answered.ensures

pub returns-clause-asked : goal.returns-clause-asked
returns-clause-asked g c = asked _ _ _ c.answered.ensures

pub returns-clause-complete : goal.returns-clause-complete
returns-clause-complete g c = complete (record {
  texts = record {
    once = c.one_unit.ensures;
    apart = c.one_reading.ensures.not_both;
    tokens = c.one_reading.ensures.tokens_or_stop;
    units = units_of c.one_reading.ensures.tokens_or_stop c.one_reading.ensures.not_both c.one_reading.ensures.one_list c.unit_or_none.ensures;
    versions = c.preamble_tells_the_version.ensures;
    trees = c.texts_have_trees.ensures;
    refused = refused_as c.refused_or_not.ensures.source c.refused_or_not.ensures.printed;
  };
  data_texts = record {
    one_answer = c.one_answer.ensures;
    some_answer = c.some_answer.ensures;
    alike = c.frames_say_the_same.ensures;
    read = c.same_frames_act_alike.ensures.read;
  };
  flip_texts = record {
    one_answer = c.one_flip_answer.ensures;
    some_answer = c.some_flip_answer.ensures;
    alike = c.frames_say_the_same.ensures;
    as_frame = c.fits_as_frame.ensures;
    as_meant = c.fits_as_meant.ensures;
  };
  source_frames = c.accepted_units_have_frames.ensures.sources;
  printed_frames = c.accepted_units_have_frames.ensures.printed;
  faults = c.accepted_sources_tell_of_faults.ensures;
  accepted = c.accepted_sources_are_printed.ensures.printed;
  stores = c.accepted_sources_are_printed.ensures.stores;
  printed = c.instrumented_units_have_texts.ensures.accepted;
  kernels = c.kernels_are_usable.ensures.accepted;
}) _ _ _ c.answered.ensures

pub returns-clause-determined : goal.returns-clause-determined
returns-clause-determined g c = determined_end (record {
  texts = record {
    once = c.one_unit.ensures;
    apart = c.one_reading.ensures.not_both;
    tokens = c.one_reading.ensures.tokens_or_stop;
    units = units_of c.one_reading.ensures.tokens_or_stop c.one_reading.ensures.not_both c.one_reading.ensures.one_list c.unit_or_none.ensures;
    versions = c.preamble_tells_the_version.ensures;
    trees = c.texts_have_trees.ensures;
    refused = refused_as c.refused_or_not.ensures.source c.refused_or_not.ensures.printed;
  };
  data_texts = record {
    one_answer = c.one_answer.ensures;
    some_answer = c.some_answer.ensures;
    alike = c.frames_say_the_same.ensures;
    read = c.same_frames_act_alike.ensures.read;
  };
  flip_texts = record {
    one_answer = c.one_flip_answer.ensures;
    some_answer = c.some_flip_answer.ensures;
    alike = c.frames_say_the_same.ensures;
    as_frame = c.fits_as_frame.ensures;
    as_meant = c.fits_as_meant.ensures;
  };
  source_frames = c.accepted_units_have_frames.ensures.sources;
  printed_frames = c.accepted_units_have_frames.ensures.printed;
  faults = c.accepted_sources_tell_of_faults.ensures;
  accepted = c.accepted_sources_are_printed.ensures.printed;
  stores = c.accepted_sources_are_printed.ensures.stores;
  printed = c.instrumented_units_have_texts.ensures.accepted;
  kernels = c.kernels_are_usable.ensures.accepted;
}) _ _ _ c.answered.ensures
