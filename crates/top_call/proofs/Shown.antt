-- The end of a run has the arrays of its unit's frame, and names no others.
use Rattle.std.proofs.Common.{◌≡◌, ℕ, suc, Bool, List, [], ◌∷◌, length, Option, Some, None, Result, Ok, Err, MatchResult, refl, sym, ap, ◌∙◌, subst}
use Rattle.std.specs.Borrow.{Bor}
use Rattle.std.specs.Prelude.{IfSome}
use Rattle.acceptance.specs.Runnable.{IsRunnable}
use Rattle.c_tree.specs.Arrays.{Array, Memory, arrays_of, vars_of, words_from}
use Rattle.c_tree.specs.Fault.{Fault as RunFault, upset_of}
use Rattle.c_tree.specs.Inputs.{PlainInputs, memory_for}
use Rattle.c_tree.specs.Names.{arrays_in}
use Rattle.c_tree.specs.Plain.{PlainParam, int_param, array_param, PlainUnit}
use Rattle.c_tree.specs.Run.{Outcome, goes_on, ends, Scope, is_printed, started, exec_all, result, run}
use Rattle.c_tree.specs.Values.{Vars}
use Rattle.c_tree.specs.declared.frame.ArrayInfo.{ArrayInfo}
use Rattle.c_tree.specs.declared.frame.Frame.{Frame}
use Rattle.c_tree.specs.declared.run.Ended.{Ended}
use Rattle.c_tree.specs.declared.run.Flip.{Flip}
use Rattle.c_tree.specs.declared.run.Verdict.{Verdict}
use Rattle.c_tree.specs.declared.run.Verdict.TheVariants.{Plain, Balanced, Fault, Index, Outside}
use Rattle.data_file.specs.Conditions.{NamesBelow, IsEndOf}
use Rattle.data_file.specs.Frames.{AreArrays, IsFrameOf}
use Rattle.instrumentation.specs.Guarded.{guarded}
use Rattle.interp.specs.Finished.{verdict_in, IsEnded}
use Rattle.c_tree.specs.Flips.{fault_in, IsFaultFor}
use Rattle.top_call.specs.Sources.{AnyText, IsTakenUnit}
use Rattle.top_call.proofs.CheckedArrays.{checks_below}
use Rattle.top_call.proofs.Named.{AllCheckBelow, Names, NamesIn, exec_all_names}

names_below : (n : ℕ) (v : Verdict) → Names n (verdict_in v) → NamesBelow n v
names_below n Plain h = h
names_below n Balanced h = h
names_below n (Fault ks) h = h
names_below n (Index k) h = h
names_below n (Outside k) h = h

result_names : (n : ℕ) (printed : Bool) (sc : Scope) (o : Outcome (Unit {0})) → NamesIn n o → Names n (result printed sc o).verdict
result_names n printed sc (goes_on u s) h = tt
result_names n printed sc (ends e s) h = h

words_count : (m : Memory) (k : ℕ) (arrays : List Array) → length (words_from m k arrays) ≡ length arrays
words_count m k [] = refl
words_count m k (a ∷ more) = ap suc (words_count m (suc k) more)

result_count : (printed : Bool) (sc : Scope) (o : Outcome (Unit {0})) → length (result printed sc o).arrays ≡ length sc.arrays
result_count printed sc (goes_on u s) = words_count _ 0 sc.arrays
result_count printed sc (ends e s) = words_count _ 0 sc.arrays

array_count : (vs : Vars) (qs : List PlainParam) → length (arrays_of vs qs) ≡ length (arrays_in qs)
array_count vs [] = refl
array_count vs (int_param x ∷ qs) = array_count vs qs
array_count vs (array_param x constant extents ∷ qs) = ap suc (array_count vs qs)

frame_count : (ps : List PlainParam) (n : ℕ) (qs : List PlainParam) (arrays : List ArrayInfo) → AreArrays ps n qs arrays → length (arrays_in qs) ≡ length arrays
frame_count ps n [] [] h = refl
frame_count ps n [] (a ∷ arrays) h = absurd h
frame_count ps n (int_param x ∷ qs) arrays h = frame_count ps n qs arrays h
frame_count ps n (array_param x constant extents ∷ qs) [] h = absurd h
frame_count ps n (array_param x constant extents ∷ qs) (a ∷ arrays) h = ap suc (frame_count ps n qs arrays h.3)

pub ends_of : (f : Frame) (u : PlainUnit) (i : PlainInputs) (fault : Option RunFault) (e : Ended) → IsRunnable u → IsFrameOf u f → IsEnded (run u i fault) e → IsEndOf f e
ends_of f u i fault e form of is =
    let vs : Vars = vars_of u.params i.ints in
    let sc : Scope = record { arrays = arrays_of vs u.params; wides = u.wides; fault = upset_of (arrays_of vs u.params) fault } in
    let o : Outcome (Unit {0}) = exec_all sc u.body vs (started u (memory_for u i)) in
    let own : length sc.arrays ≡ length (arrays_in u.params) = array_count vs u.params in
    let count : length sc.arrays ≡ length f.arrays = own ∙ frame_count u.params (length f.ints) u.params f.arrays of.arrays in
    let below : AllCheckBelow (length sc.arrays) u.body = subst (λ (n : ℕ). AllCheckBelow n u.body) (sym own) (checks_below u form) in
    let named : Names (length sc.arrays) (run u i fault).verdict =
    result_names (length sc.arrays) (is_printed u.version) sc o ((exec_all_names sc u.body vs below).names (started u (memory_for u i))) in
    record {
      cells = ap length is.arrays ∙ result_count (is_printed u.version) sc o ∙ count;
      names = subst (λ n. NamesBelow n e.verdict) count (names_below (length sc.arrays) e.verdict (subst (Names (length sc.arrays)) (sym is.verdict) named));
    }

-- each unit that is taken is one that the interpreter runs
pub taken_runs : (u : PlainUnit) → IsTakenUnit AnyText u → IsRunnable u
taken_runs u accepted = accepted

-- the frame of a source is that of its instrumented unit
pub guarded_frame : (source unit : PlainUnit) (f : Frame) → unit ≡ guarded source → IsFrameOf source f → IsFrameOf unit f
guarded_frame source unit f made of = subst (λ (u : PlainUnit). IsFrameOf u f) (sym made) (record { ints = of.ints; arrays = of.arrays })

-- a fault that a source has, its instrumented unit has too
fault_of_guarded : (source : PlainUnit) (i : PlainInputs) (f : RunFault) → IsFaultFor source i f → IsFaultFor (guarded source) i f
fault_of_guarded source i f h = record { array = h.array; cell = h.cell; bit = h.bit }

pub fault_of_made : (source unit : PlainUnit) (i : PlainInputs) (flip : Option (Bor Flip)) → unit ≡ guarded source → IfSome flip (λ f. IsFaultFor source i (fault_in f.now)) → IfSome flip (λ f. IsFaultFor unit i (fault_in f.now))
fault_of_made source unit i None made h = tt
fault_of_made source unit i (Some f) made h = subst (λ (u : PlainUnit). IsFaultFor u i (fault_in f.now)) (sym made) (fault_of_guarded source i (fault_in f.now) h)

pub weaker : {X E : Type 0} {P Q : X → Type 0} (N : E → Type 0) (r : Result X E) → ((x : X) → P x → Q x) → MatchResult r P N → MatchResult r Q N
weaker N (Ok x) f h = f x h
weaker N (Err e) f h = h
