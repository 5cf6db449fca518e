use Rattle.std.proofs.Common.{sym, ◌∙◌}
use Rattle.std.specs.Int.{w64}
use Rattle.std.proofs.lemmas.Int.{to_z-of_z}
use Rattle.c_tree.proofs.WordValues.{as_word_cast}
use Rattle.interp.proofs.words.as_word.Goals as goal

pub returns : goal.returns
returns c =
    let given = simp (to_z-of_z w64 c.args.z c.ranges.z) at c.cast_unsigned.ensures in
    given ∙ sym (as_word_cast c.args.z c.ranges.z)
