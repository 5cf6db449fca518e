-- What a call met and left.
use Rattle.edge.specs.Shelf.{Told}
use Rattle.edge.specs.Sink.{Held}
use Rattle.top_call.specs.Plans.{Files}

-- the shelf, the output and the error stream, before a call and after it
pub record Met : Type 0 where
  pub shelf_before : Told
  pub shelf : Told
  pub out_before : Held
  pub out : Held
  pub err_before : Held
  pub err : Held

-- that of a call, by what each object tells
abbrev pub met : {F O E : Type 0} → (F → Told) → F → F → (O → Held) → O → O → (E → Held) → E → E → Met
met told shelf_before shelf held_out out_before out held_err err_before err = record {
  shelf_before = told shelf_before;
  shelf = told shelf;
  out_before = held_out out_before;
  out = held_out out;
  err_before = held_err err_before;
  err = held_err err;
}

-- the files before the call
abbrev pub files_before : Met → Files
files_before m = m.shelf_before.files
