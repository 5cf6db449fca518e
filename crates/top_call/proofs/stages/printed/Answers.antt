use Rattle.std.proofs.Common.{◌∙◌, refl}
use Rattle.c_tree.specs.Trees.{unit as unit_of}
use Rattle.top_call.proofs.HeadsMade.{made_head, spelled_by}
use Rattle.top_call.proofs.stages.printed.Goals as goal

pub returns : goal.returns
returns c = record {
  unit = unit_of c.in_ok-guarded.guarded;
  text = c.new.ensures ∙ c.in_ok-text.ensures;
  is_text = spelled_by _ _ _ c.instrumented_units_have_texts.ensures.accepted c.requires c.in_ok-guarded.ensures.made (c.new.ensures ∙ c.in_ok-text.ensures);
  head = made_head _ _ c.in_ok-guarded.ensures.made;
  accepted = c.in_ok-guarded.ensures.accepted;
  stores = c.in_ok-guarded.ensures.stores;
  faults = c.in_ok-guarded.ensures.faults;
  done = refl;
}
