-- The encoding of a row, of which its digest is made.
use Rattle.std.specs.Prelude.{FitsSigned, ℕ, List, [], ◌∷◌, ◌++◌, length}
use Rattle.std.specs.List.{AllByRecursion, flat_map}
use Rattle.std.specs.Int.{w64, cast_unsigned}
use Rattle.byteorder.specs.Endian.{big_bytes}
use Rattle.row_types.specs.declared.values.Value.{Value}
use Rattle.row_types.specs.declared.values.Value.TheVariants.{Null, Int, Text}
use Rattle.row_types.specs.Faults.{TextIsShort}

-- NULL is 00; a number is 01 and its eight bytes, a text 02, its length in four bytes and its bytes
abbrev pub encoded_value : Value → List ℕ
encoded_value Null = 0 ∷ []
encoded_value (Int n) = 1 ∷ big_bytes 8 (cast_unsigned w64 n)
encoded_value (Text text) = 2 ∷ (big_bytes 4 (length text) ++ text)

-- the encoding of a row: its values one after the other
abbrev pub encoded : List Value → List ℕ
encoded row = flat_map encoded_value row

-- four bytes hold the length of each text
abbrev pub IsEncodable : List Value → Type 0
IsEncodable row = AllByRecursion TextIsShort row

-- a number of 64 bits
abbrev pub ValueIsInRange : Value → Type 0
ValueIsInRange Null = Unit {0}
ValueIsInRange (Int n) = FitsSigned w64 n
ValueIsInRange (Text text) = Unit {0}
