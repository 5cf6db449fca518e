-- The names and numbers of an instrumented unit of a source are right by themselves.
use Rattle.std.proofs.Common.{[], List, length, refl, sym, ap, ◌∙◌, subst, arith}
use Rattle.std.proofs.lemmas.List.{length-map}
use Rattle.c_tree.specs.Plain.{Word, PlainExprs}
use Rattle.c_tree.specs.Values.{Vars}
use Rattle.c_tree.specs.Arrays.{Array, extents_at, vars_of}
use Rattle.c_tree.specs.Inputs.{arrays_for}
use Rattle.c_tree.specs.Trees.{stmts_of}
use Rattle.c_tree.specs.Run.{started, exec_all}
use Rattle.instrumentation.specs.Guarded.{arrays_with_extents, array_names}
use Rattle.instrumentation_laws.specs.KeptTexts.{KeptSetting}
use Rattle.instrumentation_laws.specs.KeptUnits.{KeptUnitsAreCounted, KeptUnitsGoOn}
use Rattle.instrumentation_laws.specs.RegularUnits.{number_for}
use Rattle.instrumentation_laws.specs.Setting.{scope_of, GoesUntouched, GoingSetting}
use Rattle.instrumentation_laws.proofs.Declared.{names_are, declares, sizes_are, declared_from}

pub kept_counted : KeptUnitsAreCounted
kept_counted u t ns m fault is_index kept tables cells pieces formed text wides has listed index_arrays =
    let vs : Vars = vars_of u.params ns in
    let arrays : List Array = arrays_for u ns in
    let same = names_are vs u.params in
    record {
      text = text;
      kept = kept;
      setting = subst (λ (ws : List Word). KeptSetting arrays (number_for u) ws fault vs (extents_at arrays) (started t m) (arrays_with_extents u.params) u.body kept tables cells pieces) (sym wides) (record {
        names = declares arrays (array_names u.params) same (number_for u);
        vars = formed.params;
        declared = declared_from arrays (array_names u.params) same formed.few vs [] u.params refl tt formed.arrays;
        sizes = sizes_are arrays (number_for u);
        source = formed.body;
        is_kept = has.is_kept;
        tables_go = has.tables_go;
        pieces_count = has.at_sites;
        cells_count = has.at_cells;
      });
      all = sym (length-map arrays (λ (r : Array). r.name)) ∙ ap length same ∙ length-map (arrays_with_extents u.params) (λ a. a.0);
      few = let e = length-map (arrays_with_extents u.params) (λ (a : Word × PlainExprs). a.0) in let f = formed.few in omega arith;
      listed = listed;
      index_arrays = index_arrays;
    }

pub kept_going : KeptUnitsGoOn
kept_going u t ns m fault tables cells pieces formed text wides built sites prologue =
    let vs : Vars = vars_of u.params ns in
    let arrays : List Array = arrays_for u ns in
    let same = names_are vs u.params in
    record {
      text = text;
      tables_go = subst (λ (ws : List Word). GoesUntouched (started t m) (exec_all (scope_of arrays ws fault) (stmts_of tables) vs (started t m))) (sym wides) built;
      setting = subst (λ (ws : List Word). GoingSetting arrays (number_for u) ws fault vs (extents_at arrays) (arrays_with_extents u.params) u.body cells pieces) (sym wides) (record {
        names = declares arrays (array_names u.params) same (number_for u);
        vars = formed.params;
        declared = declared_from arrays (array_names u.params) same formed.few vs [] u.params refl tt formed.arrays;
        sizes = sizes_are arrays (number_for u);
        source = formed.body;
        pieces_go = sites;
        cells_go = prologue;
      });
    }
