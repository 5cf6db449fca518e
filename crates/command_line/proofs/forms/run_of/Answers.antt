use Rattle.std.proofs.Common.{◌∙◌, ap, sym, codes, map, string_bytes, ◌∷◌, Err}
use Rattle.clap.specs.Words.{app_of, first_value, found_of}
use Rattle.command_line.specs.Orders.{flip_files}
use Rattle.command_line.proofs.Parses.{run_read_of, run_refused_of}
use Rattle.command_line.proofs.Values.{given_is, is_given}
use Rattle.command_line.proofs.forms.run_of.Goals as goal

pub unwrap-requires : goal.unwrap-requires
unwrap-requires c =
    let words = map string_bytes c.args.words.now in
    let read = run_read_of c.args.mode.now words (app_of c.in-Ok.command) c.in-Ok-parsed.matches c.requires c.in-Ok.ensures c.in-Ok-parsed.ensures.taken in
    is_given c.get_str.result (first_value (found_of c.in-Ok-parsed.matches) (codes "file")) read.file c.get_str.ensures read.file_value

pub unwrap-requires-in-Ok-parsed : goal.unwrap-requires-in-Ok-parsed
unwrap-requires-in-Ok-parsed c =
    let words = map string_bytes c.args.words.now in
    let read = run_read_of c.args.mode.now words (app_of c.in-Ok.command) c.in-Ok-parsed.matches c.requires c.in-Ok.ensures c.in-Ok-parsed.ensures.taken in
    is_given c.get_str-in-Ok-parsed.result (first_value (found_of c.in-Ok-parsed.matches) (codes "data")) read.input c.get_str-in-Ok-parsed.ensures read.input_value

pub returns-in-Ok-parsed : goal.returns-in-Ok-parsed
returns-in-Ok-parsed c =
    let words = map string_bytes c.args.words.now in
    let found = first_value (found_of c.in-Ok-parsed.matches) in
    let read = run_read_of c.args.mode.now words (app_of c.in-Ok.command) c.in-Ok-parsed.matches c.requires c.in-Ok.ensures c.in-Ok-parsed.ensures.taken in
    let file = given_is c.get_str.result c.unwrap.result (found (codes "file")) read.file c.unwrap.ensures c.get_str.ensures read.file_value in
    let input = given_is c.get_str-in-Ok-parsed.result c.unwrap-in-Ok-parsed.result (found (codes "data")) read.input c.unwrap-in-Ok-parsed.ensures c.get_str-in-Ok-parsed.ensures read.input_value in
    let flip = c.get_str-in-Ok-parsed-2.ensures ∙ read.flip_value in
    let mode = read.run.0 in (
      mode,
      read.run.1 ∙ ap (λ n. mode ∷ n ∷ read.input ∷ flip_files read.flip) (sym file)
          ∙ ap (λ n. mode ∷ c.unwrap.result.now ∷ n ∷ flip_files read.flip) (sym input)
          ∙ ap (λ f. mode ∷ c.unwrap.result.now ∷ c.unwrap-in-Ok-parsed.result.now ∷ flip_files f) (sym flip),
    )

pub returns-in-Err : goal.returns-in-Err
returns-in-Err c = λ is.
    run_refused_of c.args.mode.now (map string_bytes c.args.words.now) (app_of c.in-Ok.command) c.requires c.in-Ok.ensures (c.in-Err.ensures.usage (ap Err is))
