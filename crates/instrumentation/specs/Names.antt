-- The names that an instrumented text adds to those of its source.
use Rattle.std.specs.Prelude.{ℕ, suc, if◌then◌else◌, bytes_eq, List, [], ◌∷◌, ◌++◌, codes, decimal}
use Rattle.c_tree.specs.Plain.{Word}

-- a prefix and a number
abbrev pub numbered : Word → ℕ → Word
numbered x k = x ++ decimal k

-- the word that the load of this number goes to
unfoldable pub register : ℕ → Word
register j = numbered (codes "bal_r") j

-- the word that is stored
unfoldable pub result : Word
result = codes "bal_w"

-- the number of uses of the definition that is being made
unfoldable pub count : Word
count = codes "bal_k"

-- the totals of an array
unfoldable pub definition_total : ℕ → Word
definition_total a = numbered (codes "bal_def") a

unfoldable pub use_total : ℕ → Word
use_total a = numbered (codes "bal_use") a

-- a coordinate of a cell in the prologue
unfoldable pub coordinate : ℕ → Word
coordinate d = numbered (codes "bal_i") d

-- the variable of a loop of a counting pass, under d others
unfoldable pub pass_variable : ℕ → Word
pass_variable d = numbered (codes "bal_l") d

-- in a counting pass: 1 where the definition stands in its cell, and how often it was read
unfoldable pub active : Word
active = codes "bal_c0"

unfoldable pub counter : Word
counter = codes "bal_c1"

-- by tables: how many writes of an array were made so far
unfoldable pub written : ℕ → Word
written a = numbered (codes "bal_cw") a

-- in a walk: the index cell of this subscript
unfoldable pub index_word : ℕ → Word
index_word d = numbered (codes "bal_cx") d

-- the table of current definitions of an array's cells, and that of the counts
unfoldable pub current : ℕ → Word
current a = numbered (codes "bal_td") a

unfoldable pub counts : ℕ → Word
counts a = numbered (codes "bal_tu") a

-- the function
unfoldable pub function_name : Word → Word
function_name x = codes "bal_fn_" ++ x

-- the number of an array, by the names of all
abbrev pub number_from : ℕ → List Word → Word → ℕ
number_from k [] x = k
number_from k (w ∷ ws) x = if bytes_eq w x then k else number_from (suc k) ws x

abbrev pub number_in : List Word → Word → ℕ
number_in ws x = number_from 0 ws x
