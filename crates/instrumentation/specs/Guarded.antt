-- The whole instrumented unit of a source: counts by tables for inspected arrays, and by counting passes for all others.
use Rattle.std.specs.Prelude.{ℕ, zero, suc, if◌then◌else◌, bytes_eq, List, [], ◌∷◌, ◌++◌, map, max, Some}
use Rattle.c_tree.specs.Plain.{Word, PlainExprs, no_exprs, PlainStmt, begin, verdict, PlainStmts, PlainParam, int_param, array_param, PlainUnit}
use Rattle.c_tree.specs.Trees.{stmts_of}
use Rattle.instrumentation.specs.Names.{register, result, count, definition_total, use_total, active, counter, function_name, number_in}
use Rattle.instrumentation.specs.Body.{instrument_all, registers_all}
use Rattle.instrumentation.specs.Pieces.{initial_piece, site_pieces_all, piece_at, builds, table_words}
use Rattle.instrumentation.specs.Prologue.{prologue_text}

-- the arrays in declared order, with their extents
abbrev pub arrays_with_extents : List PlainParam → List (Word × PlainExprs)
arrays_with_extents [] = []
arrays_with_extents (int_param x ∷ ps) = arrays_with_extents ps
arrays_with_extents (array_param x constant extents ∷ ps) = (x, extents) ∷ arrays_with_extents ps

-- the extents of an array by its name
abbrev pub extents_from : List (Word × PlainExprs) → Word → PlainExprs
extents_from [] x = no_exprs
extents_from (d ∷ ds) x = if bytes_eq d.0 x then d.1 else extents_from ds x

abbrev pub extents_of : List PlainParam → Word → PlainExprs
extents_of ps x = extents_from (arrays_with_extents ps) x

abbrev pub array_names : List PlainParam → List Word
array_names ps = map (λ a. a.0) (arrays_with_extents ps)

-- words that are declared with the literal 0
abbrev pub register_words : ℕ → ℕ → List (Word × ℕ)
register_words j zero = []
register_words j (suc n) = (register j, 0) ∷ register_words (suc j) n

abbrev pub own_words : ℕ → List (Word × ℕ)
own_words n = register_words 0 n ++ (result, 0) ∷ (active, 0) ∷ (counter, 0) ∷ []

abbrev pub total_names : ℕ → List Word → List Word
total_names a [] = []
total_names a (x ∷ xs) = definition_total a ∷ use_total a ∷ total_names (suc a) xs

abbrev pub guarded_body : List PlainParam → PlainStmts → List PlainStmt
guarded_body params body =
    let number = number_in (array_names params) in
    let decls = arrays_with_extents params in
    builds number body 0 decls
    ++ (prologue_text (initial_piece number body) 0 decls
    ++ (begin ∷ (instrument_all number (extents_of params) (piece_at (site_pieces_all number (extents_of params) body 0 body)) 0 body ++ verdict ∷ [])))

-- the instrumented unit
abbrev pub guarded : PlainUnit → PlainUnit
guarded u = record {
  version = Some 1;
  ranges = u.ranges;
  name = function_name u.name;
  params = u.params;
  words = u.words ++ own_words (max 1 (registers_all u.body)) ++ table_words (number_in (array_names u.params)) u.body (arrays_with_extents u.params);
  wides = count ∷ total_names 0 (array_names u.params);
  body = stmts_of (guarded_body u.params u.body);
}
