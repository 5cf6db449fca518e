use Rattle.std.proofs.Common.{sym, ap, ◌∙◌}
use Rattle.c_tree.specs.Names.{words}
use Rattle.c_tree.specs.Trees.{expr}
use Rattle.affine_sets.specs.Collected.{collected}
use Rattle.affine_sets.proofs.ReadingLaws.{found_some, found_none}
use Rattle.affine_sets.proofs.expressions.affine_of.Goals as goal

pub returns-in-Some-clause-form : goal.returns-in-Some-clause-form
returns-in-Some-clause-form c =
    let e = expr c.args.e.now in
    let names = words c.args.names.now in
    sym (found_some names e c.in_ok-reading.field-0 c.in-Some.reading c.requires (c.in_ok-reading.ensures ∙ ap (λ ns. collected (words ns) e) c.as_slice.ensures) c.in-Some.is).is

pub returns-in-Some-clause-sum : goal.returns-in-Some-clause-sum
returns-in-Some-clause-sum c =
    let e = expr c.args.e.now in
    let names = words c.args.names.now in
    (found_some names e c.in_ok-reading.field-0 c.in-Some.reading c.requires (c.in_ok-reading.ensures ∙ ap (λ ns. collected (words ns) e) c.as_slice.ensures) c.in-Some.is).stands

pub returns-in-Some-clause-size : goal.returns-in-Some-clause-size
returns-in-Some-clause-size c =
    let e = expr c.args.e.now in
    let names = words c.args.names.now in
    (found_some names e c.in_ok-reading.field-0 c.in-Some.reading c.requires (c.in_ok-reading.ensures ∙ ap (λ ns. collected (words ns) e) c.as_slice.ensures) c.in-Some.is).size

pub returns-in-None-clause-form : goal.returns-in-None-clause-form
returns-in-None-clause-form c =
    let e = expr c.args.e.now in
    let names = words c.args.names.now in
    sym (found_none names e c.in_ok-reading.field-0 c.requires (c.in_ok-reading.ensures ∙ ap (λ ns. collected (words ns) e) c.as_slice.ensures) c.in-None.is)
