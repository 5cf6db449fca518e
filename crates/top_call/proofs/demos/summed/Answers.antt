use Rattle.std.proofs.Common.{ℕ, length, Some, None, ap, sym, subst, ◌∙◌}
use Rattle.c_tree.specs.Flips.{fault_in}
use Rattle.c_tree.specs.Trees.{unit}
use Rattle.c_tree.specs.declared.frame.Frame.{Frame}
use Rattle.data_file.specs.Conditions.{NamesBelow}
use Rattle.interp.specs.Finished.{inputs_in}
use Rattle.top_call.proofs.Shown.{ends_of, guarded_frame}
use Rattle.top_call.proofs.demos.summed.Goals as goal

pub summary-requires-clause-without_flip : goal.summary-requires-clause-without_flip
summary-requires-clause-without_flip c =
    let f = c.args.source.now.frame in
    let made = unit c.in_ok-guarded.guarded in
    let e = c.in_ok-without.without in
    let of = guarded_frame (unit c.args.source.now.unit) made f c.in_ok-guarded.ensures.made c.requires.framed.of in
    let end = ends_of f made (inputs_in c.args.inputs.now) None e c.in_ok-guarded.ensures.runs of c.in_ok-without.ensures in
    subst (λ (n : ℕ). NamesBelow n e.verdict) (sym (ap length (c.as_slice-arrays.ensures ∙ ap (λ (g : Frame). g.arrays) c.frame.ensures))) end.names

pub summary-requires-clause-with_flip : goal.summary-requires-clause-with_flip
summary-requires-clause-with_flip c =
    let f = c.args.source.now.frame in
    let made = unit c.in_ok-guarded.guarded in
    let e = c.in_ok-flipped.flipped in
    let of = guarded_frame (unit c.args.source.now.unit) made f c.in_ok-guarded.ensures.made c.requires.framed.of in
    let end = ends_of f made (inputs_in c.args.inputs.now) (Some (fault_in c.args.flip.now)) e c.in_ok-guarded.ensures.runs of c.in_ok-flipped.ensures in
    subst (λ (n : ℕ). NamesBelow n e.verdict) (sym (ap length (c.as_slice-arrays.ensures ∙ ap (λ (g : Frame). g.arrays) c.frame.ensures))) end.names
