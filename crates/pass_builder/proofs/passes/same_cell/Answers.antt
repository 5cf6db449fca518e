use Rattle.std.proofs.Common.{◌≡◌, length, min, rules, sym, ◌∙◌}
use Rattle.std.proofs.lemmas.List.{append-nil}
use Rattle.std.proofs.lemmas.Slice.Zip.{zip_end}
use Rattle.c_tree.specs.Trees.{tests}
use Rattle.text_parts.specs.Around.{names_of}
use Rattle.pass_builder.proofs.SameCell.{same_cell-past}
use Rattle.pass_builder.proofs.passes.same_cell.Goals as goal

pub returns : goal.returns
returns c =
    let at = c.args.at.now in
    let other = c.args.other.now in
    let reached : length c.loop-ours.yielded ≡ min (length at) (length other) =
    zip_end at other c.loop-ours.yielded c.into_iter-ours-iterator.result c.loop-ours.ours-iterator c.next.new.self c.next.result (search rules) (search rules) c.loop-ours.yielded_by c.in-None.is c.next.ensures.steps in
    sym (append-nil (tests c.loop-ours.made)) ∙ rw (same_cell-past (names_of c.args.loops.now) at other (length c.loop-ours.yielded) reached) at c.loop-ours.invariant
