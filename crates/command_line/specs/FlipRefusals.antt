-- How a refusal of a flip file is written.
use Rattle.std.specs.Prelude.{ℕ, List, codes}
use Rattle.fault_plan.specs.declared.refusal.FlipRefusal.{FlipRefusal}
use Rattle.fault_plan.specs.declared.refusal.FlipRefusal.TheVariants.{Syntax, UnknownArray, CellOutside, BitOutside, OutOfMemory}

-- its number and name
abbrev pub flip_refusal_text : FlipRefusal → List ℕ
flip_refusal_text Syntax = codes "F1 Syntax"
flip_refusal_text UnknownArray = codes "F2 UnknownArray"
flip_refusal_text CellOutside = codes "F3 CellOutside"
flip_refusal_text BitOutside = codes "F4 BitOutside"
flip_refusal_text OutOfMemory = codes "out of memory"
