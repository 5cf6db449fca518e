-- The kind that a value of the code stands for.
use Rattle.c_tree.specs.Kinds.{Kind, either, signed_kind, word_kind}
use Rattle.c_tree.specs.declared.signed_names.Kind.{Kind as TheKind}
use Rattle.c_tree.specs.declared.signed_names.Kind.TheVariants.{Either, Signed, Word}

abbrev pub kind_shown : TheKind → Kind
kind_shown Either = either
kind_shown Signed = signed_kind
kind_shown Word = word_kind
