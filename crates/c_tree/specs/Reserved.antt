-- Names: which words are names at all, and which names a source may not declare.
use Rattle.std.specs.Prelude.{ℕ, Bool, false, ◌&&◌, ◌||◌, nat_le, nat_eq, bytes_eq, List, [], ◌∷◌, map, codes}
use Rattle.std.specs.List.{list_all, list_any, starts_with}
use Rattle.c_tree.specs.Plain.{Word}
use Rattle.c_tree.specs.Grammar.Symbols.{words}

abbrev pub is_letter : ℕ → Bool
is_letter b = nat_le 65 b && nat_le b 90 || (nat_le 97 b && nat_le b 122 || nat_eq b 95)

abbrev pub is_digit : ℕ → Bool
is_digit b = nat_le 48 b && nat_le b 57

-- a byte that stands in words and literals
abbrev pub is_word_byte : ℕ → Bool
is_word_byte b = is_letter b || is_digit b

-- a letter or `_`, then letters, digits and `_`
abbrev pub is_word : Word → Bool
is_word [] = false
is_word (b ∷ bs) = is_letter b && list_all is_word_byte bs

-- the words of the grammar, which are no names
abbrev pub grammar_words : List Word
grammar_words = map (λ w. w.0) words

-- words that C or its headers take
abbrev pub c_words : List Word
c_words =
    codes "auto" ∷ codes "break" ∷ codes "case" ∷ codes "char" ∷ codes "continue" ∷ codes "default" ∷ codes "do" ∷ codes "double" ∷ codes "enum"
    ∷ codes "extern" ∷ codes "float" ∷ codes "goto" ∷ codes "inline" ∷ codes "int" ∷ codes "long" ∷ codes "register" ∷ codes "restrict"
    ∷ codes "short" ∷ codes "signed" ∷ codes "sizeof" ∷ codes "static" ∷ codes "struct" ∷ codes "switch" ∷ codes "typedef" ∷ codes "union"
    ∷ codes "volatile" ∷ codes "while" ∷ codes "main" ∷ codes "size_t" ∷ []

-- A source declares no name that begins with `bal_` or `_`, and none of these lists.
abbrev pub is_reserved : Word → Bool
is_reserved w =
    starts_with nat_eq w (codes "bal_") || (starts_with nat_eq w (codes "_")
    || (list_any (bytes_eq w) grammar_words || list_any (bytes_eq w) c_words))
