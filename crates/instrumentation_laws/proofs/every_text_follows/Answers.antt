use Rattle.instrumentation_laws.proofs.Texts.{text_follows}
use Rattle.instrumentation_laws.proofs.every_text_follows.Goals as goal

pub returns : goal.returns
returns c = λ arrays number wides fault vs extents decls body tables cells pieces s u set start go begun empty memory words.
    text_follows arrays number wides fault vs extents decls body cells pieces set tables s u start go begun empty memory words
