-- Words of the command line as bytes, the numbers that some of them write, and the names that others are.
use Rattle.std.specs.Prelude.{ℕ, zero, suc, ◌+◌, ◌%◌, Bool, not, ◌&&◌, ◌==◌, nat_le, if◌then◌else◌, List, [], ◌∷◌, ◌++◌, take, codes, map, slice_index_or, Option, Some, None, String, string_bytes}
use Rattle.std.specs.Str.{bytes_eq}
use Rattle.std.specs.declared.alloc.Global.{Global}
use Rattle.glass_edges.specs.Decimal.{is_numeral, value_of}
use Rattle.glass_edges.specs.FileNames.{is_file_name}

-- the bytes of each word
abbrev pub texts : List (String Global) → List (List ℕ)
texts words = map string_bytes words

-- what comes of a value, where there is one
abbrev pub given : {A B : Type 0} → Option A → (A → Option B) → Option B
given None next = None
given (Some value) next = next value

-- word k, counted from 0; empty where there is none
abbrev pub word_at : List (List ℕ) → ℕ → List ℕ
word_at words k = slice_index_or words k []

-- a number within a range
abbrev pub in_range : ℕ → ℕ → ℕ → Option ℕ
in_range low high n = if nat_le low n && nat_le n high then Some n else None

-- a number is written with one to twenty decimal digits
abbrev pub is_number : List ℕ → Bool
is_number text = is_numeral 20 text

-- a number word: a number whose value lies in the range
abbrev pub number_word : ℕ → ℕ → List ℕ → Option ℕ
number_word low high text = if is_number text then in_range low high (value_of text) else None

-- the values of that many number words, from word start on
unfoldable pub number_words : ℕ → ℕ → List (List ℕ) → ℕ → ℕ → Option (List ℕ)
number_words low high words start zero = Some []
number_words low high words start (suc n) =
    given (number_words low high words start n) (λ values.
    given (number_word low high (word_at words (start + n))) (λ value. Some (values ++ value ∷ [])))

-- the side of a lattice: an even number from 4 to 64
abbrev pub size_word : List ℕ → Option ℕ
size_word text = given (number_word 4 64 text) (λ size. if size % 2 == 0 then Some size else None)

-- a word that begins with two hyphens is an option
abbrev pub is_option : List ℕ → Bool
is_option word = bytes_eq (take 2 word) (codes "--")

-- the name of a file
abbrev pub file_word : List ℕ → Option (List ℕ)
file_word value = if is_file_name value then Some value else None

-- a word that names a file and is no option
abbrev pub name_word : List ℕ → Option (List ℕ)
name_word word = if is_file_name word && not (is_option word) then Some word else None
