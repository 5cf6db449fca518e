-- What the texts of a demonstration mean is its kernel, with its inputs and its flip.
use Rattle.std.proofs.Common.{◌≡◌, ℕ, List, Result, MatchResult, refl, sym, subst, ◌∙◌}
use Rattle.acceptance.specs.Trees.{IsSourceTree}
use Rattle.c_tree.specs.Fault.{Fault}
use Rattle.c_tree.specs.Flips.{fault_in}
use Rattle.c_tree.specs.Grammar.Texts.{IsText}
use Rattle.c_tree.specs.Inputs.{PlainInputs}
use Rattle.c_tree.specs.Layout.{layout}
use Rattle.c_tree.specs.Plain.{PlainUnit}
use Rattle.c_tree.specs.declared.frame.Frame.{Frame}
use Rattle.c_tree.specs.declared.frame.Inputs.{Inputs}
use Rattle.c_tree.specs.declared.run.Flip.{Flip}
use Rattle.data_file.specs.Answers.{MeansFitting}
use Rattle.data_file.specs.Frames.{IsFrameOf, carried}
use Rattle.demo_kernels.specs.Demos.{IsDemo, IsUsable}
use Rattle.demo_kernels.specs.Kernels.{Kernel, kernel_data, kernel_flip, kernel_inputs, kernel_of}
use Rattle.demo_kernels.specs.declared.demo.Demo.{Demo}
use Rattle.fault_plan.specs.Answers.{MeansFitting as MeansFittingFlip}
use Rattle.interp.specs.Finished.{inputs_in}
use Rattle.command_line.specs.declared.outcome.Output.{Output}
use Rattle.command_line.specs.declared.outcome.Stop.{Stop}
use Rattle.top_call.specs.Demos.{IsSummary}
use Rattle.top_call.specs.Sources.{AnySource}
use Rattle.top_call.specs.Stages.{IsTaken}
use Rattle.top_call.proofs.Flips as flips
use Rattle.top_call.proofs.Flips.{FlipLaws}
use Rattle.top_call.proofs.Frames as frames
use Rattle.top_call.proofs.Frames.{DataLaws}
use Rattle.top_call.proofs.Shown.{weaker}

abbrev pub OneUnit : Type 0
OneUnit = (text : List ℕ) (u v : PlainUnit) → IsText text u → IsText text v → u ≡ v

abbrev pub TreesHaveTexts : Type 0
TreesHaveTexts = (u : PlainUnit) → IsSourceTree u → IsText (layout u) u

-- what was taken, read and struck of the texts of a kernel
pub record IsRead (k : Kernel) (x : ℕ) (u : PlainUnit) (f : Frame) (i : Inputs) (flip : Flip) : Type 0 where
  pub source : IsTaken AnySource (layout k.unit) u f
  pub inputs : MeansFitting f (kernel_data k x) i
  pub struck : MeansFittingFlip f i (kernel_flip k) flip

module _ (once : OneUnit) (trees : TreesHaveTexts) (data_laws : DataLaws) (flip_laws : FlipLaws) (k : Kernel) (x : ℕ) (usable : IsUsable k x) where
  same_unit : (u : PlainUnit) (f : Frame) → IsTaken AnySource (layout k.unit) u f → u ≡ k.unit
  same_unit u f taken = once (layout k.unit) u k.unit taken.is_text (trees k.unit usable.accepted.tree)

  same_inputs : (u : PlainUnit) (f : Frame) (i : Inputs) → u ≡ k.unit → IsTaken AnySource (layout k.unit) u f → MeansFitting f (kernel_data k x) i → inputs_in i ≡ kernel_inputs k x
  same_inputs u f i same taken means =
      let of : IsFrameOf k.unit f = subst (λ (v : PlainUnit). IsFrameOf v f) same taken.framed.of in
      sym (frames.meant_by data_laws k.unit (kernel_data k x) (kernel_inputs k x) (inputs_in i) k.frame usable.frame usable.inputs_read
      (record { frame = f; of = of; is = taken.framed.is; means = means }))

  same_fault : (u : PlainUnit) (f : Frame) (i : Inputs) (flip : Flip) → u ≡ k.unit → inputs_in i ≡ kernel_inputs k x → IsTaken AnySource (layout k.unit) u f → MeansFittingFlip f i (kernel_flip k) flip → fault_in flip ≡ fault_in k.flip
  same_fault u f i flip same same_i taken means =
      let of : IsFrameOf k.unit f = subst (λ (v : PlainUnit). IsFrameOf v f) same taken.framed.of in
      let own : MeansFittingFlip f (carried (kernel_inputs k x)) (kernel_flip k) flip = subst (λ (j : PlainInputs). MeansFittingFlip f (carried j) (kernel_flip k) flip) same_i means in
      sym (flips.meant_by flip_laws k.unit (kernel_inputs k x) usable.sound.fit (kernel_flip k) k.flip (fault_in flip) k.frame usable.frame usable.flip_read
      (record { frame = f; of = of; is = taken.framed.is; flip = flip; means = own; same = refl }))

  -- what is summed of them is the kernel's summary
  pub summed_of : (number : ℕ) (u : PlainUnit) (f : Frame) (i : Inputs) (flip : Flip) (N : Stop → Type 0) (r : Result Output Stop) → IsRead k x u f i flip
      → MatchResult r (IsSummary number u (inputs_in i) (fault_in flip)) N → MatchResult r (IsSummary number k.unit (kernel_inputs k x) (fault_in k.flip)) N
  summed_of number u f i flip N r read h =
      let unit_is = same_unit u f read.source in
      let inputs_are = same_inputs u f i unit_is read.source read.inputs in
      let fault_is = same_fault u f i flip unit_is inputs_are read.source read.struck in
      weaker N r (λ o is.
      subst (λ (e : Fault). IsSummary number k.unit (kernel_inputs k x) e o) fault_is
      (subst (λ (j : PlainInputs). IsSummary number k.unit j (fault_in flip) o) inputs_are
      (subst (λ (v : PlainUnit). IsSummary number v (inputs_in i) (fault_in flip) o) unit_is is))) h

-- the same of the texts as they were read, through references
pub read_of : (number : ℕ) (demo : Demo) (u : PlainUnit) (f g h : Frame) (i : Inputs) (flip : Flip) (source inputs struck : List ℕ)
    → IsDemo number demo → source ≡ demo.source → inputs ≡ demo.inputs → struck ≡ demo.flip → g ≡ f → h ≡ f
    → IsTaken AnySource source u f → MeansFitting g inputs i → MeansFittingFlip h i struck flip → IsRead (kernel_of number) number u f i flip
read_of number demo u f g h i flip source inputs struck is s d t same_g same_h taken means flipped = record {
  source = subst (λ (text : List ℕ). IsTaken AnySource text u f) (s ∙ is.source) taken;
  inputs = subst (λ (text : List ℕ). MeansFitting f text i) (d ∙ is.inputs) (subst (λ (e : Frame). MeansFitting e inputs i) same_g means);
  struck = subst (λ (text : List ℕ). MeansFittingFlip f i text flip) (t ∙ is.flip) (subst (λ (e : Frame). MeansFittingFlip e i struck flip) same_h flipped);
}
