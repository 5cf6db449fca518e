use Rattle.std.proofs.Common.{option_map, ap, refl, sym, subst, ◌∙◌}
use Rattle.c_tree.specs.Trees.{unit}
use Rattle.c_tree.specs.declared.frame.Frame.{Frame}
use Rattle.data_file.specs.Conditions.{IsEndOf}
use Rattle.data_file.specs.Texts.{output_text}
use Rattle.c_tree.specs.Flips.{fault_in}
use Rattle.interp.specs.Finished.{inputs_in}
use Rattle.top_call.specs.Runs.{finish_of}
use Rattle.top_call.proofs.HeadsMade.{made_head, spelled_by}
use Rattle.top_call.proofs.Shown.{ends_of, fault_of_made, guarded_frame, weaker}
use Rattle.top_call.proofs.runs.tried.Goals as goal

pub end_of-requires-clause-flip_fits : goal.end_of-requires-clause-flip_fits
end_of-requires-clause-flip_fits c =
    fault_of_made (unit c.args.source.now.unit) (unit c.in_ok-guarded.guarded) (inputs_in c.args.inputs) c.args.flip c.in_ok-guarded.ensures.made c.requires.flip_fits

pub shown-requires : goal.shown-requires
shown-requires c =
    let source = c.args.source.now in
    let made = unit c.in_ok-guarded.guarded in
    let e = c.in_ok-ended.ended in
    let Q : Frame → Type 0 = λ f. IsEndOf f e in
    subst Q (sym c.frame.ensures)
    (ends_of source.frame made (inputs_in c.args.inputs) (option_map (λ f. fault_in f.now) c.args.flip) e c.in_ok-guarded.ensures.runs (guarded_frame (unit source.unit) made source.frame c.in_ok-guarded.ensures.made c.requires.framed.of) c.in_ok-ended.ensures)

pub returns : goal.returns
returns c =
    weaker _ c.shown.result (λ output is. record {
      unit = unit c.in_ok-guarded.guarded;
      made = c.in_ok-guarded.ensures.made;
      is_text = spelled_by _ _ _ c.instrumented_units_have_texts.ensures.accepted c.requires.framed.accepted c.in_ok-guarded.ensures.made refl;
      head = made_head _ _ c.in_ok-guarded.ensures.made;
      accepted = c.in_ok-guarded.ensures.accepted;
      stores = c.in_ok-guarded.ensures.stores;
      faults = c.in_ok-guarded.ensures.faults;
      ended = c.in_ok-ended.ended;
      is = c.in_ok-ended.ensures;
      frame = c.args.source.now.frame;
      of = c.requires.framed.of;
      text = is.text ∙ ap (λ (f : Frame). output_text f c.in_ok-ended.ended) c.frame.ensures;
      finish = is.finish ∙ ap finish_of c.in_ok-ended.ensures.verdict;
    }) c.shown.ensures
