use Rattle.std.proofs.Common.{◌≡◌, Err, Result, subst, sym}
use Rattle.std.proofs.lemmas.Result.{err_from_is_err_and}
use Rattle.c_tree.specs.declared.frame.Inputs.{Inputs}
use Rattle.data_file.specs.Answers.{Answers}
use Rattle.data_file.specs.declared.refusal.DataRefusal.{DataRefusal}
use Rattle.data_file.proofs.Whole.{inputs_mean, refused}
use Rattle.data_file.proofs.read_data.Goals as goal

pub returns-in_err-inputs : goal.returns-in_err-inputs
returns-in_err-inputs c =
    let (e, gave, passed) = err_from_is_err_and c.from_residual.result c.from_residual.ensures.1 in
    let same : c.from_residual.result ≡ Err c.in_err-inputs.field-0.0 = cc in
    subst (λ (r : Result Inputs DataRefusal). Answers c.args.f.now c.args.text.now r) (sym same)
    (refused c.args.f.now c.requires.names c.args.text.now c.in_err-inputs.field-0.0 c.in_err-inputs.ensures)

pub first_outside-requires-clause-rows : goal.first_outside-requires-clause-rows
first_outside-requires-clause-rows c =
    let means = inputs_mean c.args.f.now c.requires.names c.args.text.now c.in_ok-inputs.inputs c.in_ok-inputs.ensures in
    means.complete

pub returns-in-Some : goal.returns-in-Some
returns-in-Some c =
    let i = c.in_ok-inputs.inputs in
    record {
      inputs = i;
      means = inputs_mean c.args.f.now c.requires.names c.args.text.now i c.in_ok-inputs.ensures;
      first = c.in-Some.ensures.first;
    }

pub returns-in-Some-first_too_large : goal.returns-in-Some-first_too_large
returns-in-Some-first_too_large c =
    let i = c.in_ok-inputs.inputs in
    record {
      inputs = i;
      means = inputs_mean c.args.f.now c.requires.names c.args.text.now i c.in_ok-inputs.ensures;
      within = c.in_default.ensures.first;
      first = c.in-Some-first_too_large.ensures;
    }

pub returns-in-Some-first_mismatch : goal.returns-in-Some-first_mismatch
returns-in-Some-first_mismatch c =
    let i = c.in_ok-inputs.inputs in
    record {
      inputs = i;
      means = inputs_mean c.args.f.now c.requires.names c.args.text.now i c.in_ok-inputs.ensures;
      within = c.in_default.ensures.first;
      few = c.in_default-first_too_large.ensures;
      first = c.in-Some-first_mismatch.ensures.0;
      wants = c.in-Some-first_mismatch.ensures.1;
      gives = c.in-Some-first_mismatch.ensures.2;
    }

pub returns : goal.returns
returns c =
    record {
      means = inputs_mean c.args.f.now c.requires.names c.args.text.now c.in_ok-inputs.inputs c.in_ok-inputs.ensures;
      fits = record {
        within = c.in_default.ensures.first;
        few = c.in_default-first_too_large.ensures;
        counted = c.in_default-first_mismatch.ensures;
      };
    }
