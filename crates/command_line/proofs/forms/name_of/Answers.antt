use Rattle.std.proofs.Common.{◌∙◌, ap, sym, codes, map, string_bytes, ◌∷◌, [], Err}
use Rattle.clap.specs.Words.{app_of, first_value, found_of}
use Rattle.command_line.proofs.Parses.{name_read_of, name_refused_of}
use Rattle.command_line.proofs.Values.{given_is, is_given}
use Rattle.command_line.proofs.forms.name_of.Goals as goal

pub unwrap-requires : goal.unwrap-requires
unwrap-requires c =
    let words = map string_bytes c.args.words.now in
    let read = name_read_of c.args.mode.now words (app_of c.in-Ok.command) c.in-Ok-parsed.matches c.requires c.in-Ok.ensures c.in-Ok-parsed.ensures.taken in
    is_given c.get_str.result (first_value (found_of c.in-Ok-parsed.matches) (codes "name")) read.name c.get_str.ensures read.value

pub returns-in-Ok-parsed : goal.returns-in-Ok-parsed
returns-in-Ok-parsed c =
    let words = map string_bytes c.args.words.now in
    let read = name_read_of c.args.mode.now words (app_of c.in-Ok.command) c.in-Ok-parsed.matches c.requires c.in-Ok.ensures c.in-Ok-parsed.ensures.taken in
    let name = given_is c.get_str.result c.unwrap.result (first_value (found_of c.in-Ok-parsed.matches) (codes "name")) read.name c.unwrap.ensures c.get_str.ensures read.value in
    (read.one.0, read.one.1 ∙ ap (λ n. read.one.0 ∷ n ∷ []) (sym name))

pub returns-in-Err : goal.returns-in-Err
returns-in-Err c = λ is.
    name_refused_of c.args.mode.now (map string_bytes c.args.words.now) (app_of c.in-Ok.command) c.requires c.in-Ok.ensures (c.in-Err.ensures.usage (ap Err is))
