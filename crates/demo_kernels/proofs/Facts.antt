-- Each kernel with inputs that are drawn from any number: they fit, the source stays within its arrays, and the flip fits.
use Rattle.std.proofs.Common.{◌≡◌, ◌≤◌, ◌<◌, ◌*◌, ◌^◌, ℕ, List, [], ◌∷◌, length, slice_get, pos, Some, None, refl, arith, sym, ap, ◌∙◌}
use Rattle.std.proofs.Math.Nat.{mul-le-mul_right}
use Rattle.std.proofs.lemmas.Int.{ints}
use Rattle.std.specs.List.{AllByRecursion}
use Rattle.acceptance.specs.Trees.{IsSourceTree}
use Rattle.c_tree.specs.Arrays.{index_of, all_cells}
use Rattle.c_tree.specs.Inputs.{HasCells, Fit, memory_for}
use Rattle.c_tree.specs.declared.frame.ArrayInfo.{ArrayInfo}
use Rattle.data_file.specs.Conditions.{HasOwnNames}
use Rattle.data_file.specs.Frames.{IsFrameOf, carried}
use Rattle.data_file.specs.Laws.{CanBeWritten, HasNamesInLines}
use Rattle.fault_plan.specs.Meaning.{IsPiece}
use Rattle.c_tree.specs.Flips.{fault_in, IsFaultFor}
use Rattle.demo_kernels.specs.Generator.{drawn, after}
use Rattle.demo_kernels.specs.Kernels.{Kernel, kernel_inputs, shift_kernel, product_kernel, jacobi_kernel, gather_kernel}
use Rattle.demo_kernels.proofs.Drawn.{length-drawn, words_small, limited, limited_small, at_below}
use Rattle.demo_kernels.proofs.Frames.{shift_frame_is, product_frame_is, jacobi_frame_is, gather_frame_is, shift_names, product_names, jacobi_names, gather_names}
use Rattle.demo_kernels.proofs.Stays.{Stays, shift_stays, product_stays, jacobi_stays, gather_stays}
use Rattle.demo_kernels.proofs.Trees.{shift_tree, product_tree, jacobi_tree, gather_tree}

pub record Facts (k : Kernel) (x : ℕ) : Type 0 where
  pub tree : IsSourceTree k.unit
  pub frame : IsFrameOf k.unit k.frame
  pub fit : Fit k.unit (kernel_inputs k x)
  pub stays : Stays k.unit k.ints (memory_for k.unit (kernel_inputs k x))
  pub names : HasOwnNames k.frame
  pub lines : HasNamesInLines k.frame
  pub written : CanBeWritten k.frame (carried (kernel_inputs k x))
  pub fits : IsFaultFor k.unit (kernel_inputs k x) (fault_in k.flip)
  pub array : ArrayInfo
  pub declared : slice_get k.frame.arrays k.flip.array ≡ Some array
  pub named : array.name.bytes ≡ k.flipped
  pub piece : IsPiece array.name.bytes
  pub place : k.flip.place < 2 ^ 64

abbrev AreWords : List ℕ → Type 0
AreWords ns = AllByRecursion (λ n. n < 2 ^ 64) ns

-- a row of so many words, at least one
abbrev IsRow : List ℕ → Type 0
IsRow ns = (0 < length ns) × AreWords ns

row : (ns : List ℕ) (n : ℕ) → length ns ≡ n → 1 ≤ n → AreWords ns → IsRow ns
row ns n count some words = (omega (arith, count, some), words)

-- a row that an array of one extent has
line : (n : ℕ) (ns : List ℕ) → length ns ≡ n → n ≤ 107 → AreWords ns → HasCells (pos n ∷ []) ns
line n ns count small words = record { count = count ∙ omega arith; few = omega (arith, small); small = words }

squared : (n : ℕ) → n ≤ 107 → n * n ≤ 11449
squared n small = let first : n * n ≤ 107 * n = mul-le-mul_right n small in omega (arith, first, small)

one_more : (n : ℕ) → n * (n * 1) ≡ n * n
one_more n = ap (λ k. n * k) (omega arith)

some_squared : (n : ℕ) → 1 ≤ n → 1 ≤ n * n
some_squared n some = let first : 1 * n ≤ n * n = mul-le-mul_right n some in omega (arith, first, some)

square : (n : ℕ) (ns : List ℕ) → length ns ≡ n * n → n ≤ 107 → AreWords ns → HasCells (pos n ∷ pos n ∷ []) ns
square n ns count small words =
    let same = one_more n in
    let bound = squared n small in
    record { count = count ∙ sym same; few = omega (arith, same, bound); small = words }

-- ---- the four kernels

pub shift_facts : (n b x : ℕ) → 8 ≤ n → n ≤ 107 → b < 64 → Facts (shift_kernel n b) x
shift_facts n b x large small bit =
    let count = length-drawn None n x in
    let words = words_small n x in record {
      tree = shift_tree;
      frame = shift_frame_is;
      fit = record { ints = ((omega (arith, ints, large), omega (arith, ints, small)), tt); cells = (line n (drawn None n x) count small words, tt) };
      stays = shift_stays n _ (omega arith) small;
      names = shift_names;
      lines = ((refl, tt), ((refl, tt), tt));
      written = record {
        rows = record { values = refl; cells = refl };
        values = (record { sfits = omega (arith, ints, small) }, tt);
        cells = (row (drawn None n x) n count (omega arith) words, tt);
      };
      fits = record { array = omega arith; cell = omega arith; bit = bit };
      array = _;
      declared = refl;
      named = refl;
      piece = record { some = omega arith; solid = (refl, tt) };
      place = omega arith;
    }

pub product_facts : (n b x : ℕ) → 8 ≤ n → n ≤ 107 → b < 64 → Facts (product_kernel n b) x
product_facts n b x large small bit =
    let y = after (n * n) x in
    let z = after (n * n) y in
    let some = some_squared n (omega arith) in
    let same = one_more n in
    let first = length-drawn None (n * n) x in
    let second = length-drawn None (n * n) y in
    let third = length-drawn None (n * n) z in record {
      tree = product_tree;
      frame = product_frame_is;
      fit = record {
        ints = ((omega (arith, ints, large), omega (arith, ints, small)), tt);
        cells = (square n _ first small (words_small (n * n) x), (square n _ second small (words_small (n * n) y), (square n _ third small (words_small (n * n) z), tt)));
      };
      stays = product_stays n _ (omega arith) small;
      names = product_names;
      lines = ((refl, tt), ((refl, tt), ((refl, tt), ((refl, tt), tt))));
      written = record {
        rows = record { values = refl; cells = refl };
        values = (record { sfits = omega (arith, ints, small) }, tt);
        cells = (row _ (n * n) first some (words_small (n * n) x), (row _ (n * n) second some (words_small (n * n) y), (row _ (n * n) third some (words_small (n * n) z), tt)));
      };
      fits = record { array = omega arith; cell = omega (arith, same, some); bit = bit };
      array = _;
      declared = refl;
      named = refl;
      piece = record { some = omega arith; solid = (refl, tt) };
      place = omega arith;
    }

pub jacobi_facts : (n b x : ℕ) → 8 ≤ n → n ≤ 107 → b < 64 → Facts (jacobi_kernel n b) x
jacobi_facts n b x large small bit =
    let y = after n x in
    let first = length-drawn None n x in
    let second = length-drawn None n y in record {
      tree = jacobi_tree;
      frame = jacobi_frame_is;
      fit = record {
        ints = ((omega (arith, ints, large), omega (arith, ints, small)), ((omega (arith, ints, large), omega (arith, ints, small)), tt));
        cells = (line n _ first small (words_small n x), (line n _ second small (words_small n y), tt));
      };
      stays = jacobi_stays n _ (omega arith) small;
      names = jacobi_names;
      lines = ((refl, tt), ((refl, tt), ((refl, tt), ((refl, tt), tt))));
      written = record {
        rows = record { values = refl; cells = refl };
        values = (record { sfits = omega (arith, ints, small) }, (record { sfits = omega (arith, ints, small) }, tt));
        cells = (row _ n first (omega arith) (words_small n x), (row _ n second (omega arith) (words_small n y), tt));
      };
      fits = record { array = omega arith; cell = omega arith; bit = bit };
      array = _;
      declared = refl;
      named = refl;
      piece = record { some = omega arith; solid = (refl, tt) };
      place = omega arith;
    }

pub gather_facts : (n x : ℕ) → 8 ≤ n → n ≤ 107 → Facts (gather_kernel n) x
gather_facts n x large small =
    let y = after n x in
    let z = after n y in
    let first = length-drawn (Some n) n x in
    let second = length-drawn None n y in
    let third = length-drawn None n z in
    let indices = limited n n x (omega arith) in
    let index_words = limited_small n n x (omega arith) small in record {
      tree = gather_tree;
      frame = gather_frame_is;
      fit = record {
        ints = ((omega (arith, ints, large), omega (arith, ints, small)), ((omega (arith, ints, large), omega (arith, ints, small)), tt));
        cells = (line n _ first small index_words, (line n _ second small (words_small n y), (line n _ third small (words_small n z), tt)));
      };
      stays = gather_stays n _ (omega arith) small (λ c. at_below n (drawn (Some n) n x) (omega arith) indices (index_of (all_cells (pos n ∷ [])) c));
      names = gather_names;
      lines = ((refl, tt), ((refl, tt), ((refl, tt), ((refl, tt), ((refl, tt), tt)))));
      written = record {
        rows = record { values = refl; cells = refl };
        values = (record { sfits = omega (arith, ints, small) }, (record { sfits = omega (arith, ints, small) }, tt));
        cells = (row _ n first (omega arith) index_words, (row _ n second (omega arith) (words_small n y), (row _ n third (omega arith) (words_small n z), tt)));
      };
      fits = record { array = omega arith; cell = omega arith; bit = omega arith };
      array = _;
      declared = refl;
      named = refl;
      piece = record { some = omega arith; solid = (refl, tt) };
      place = omega arith;
    }
