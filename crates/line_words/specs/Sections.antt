-- Bytes before the first sign.
use Rattle.std.specs.Prelude.{ℕ, Bool, not}
use Rattle.file_text.specs.Parts.{is_sign}

abbrev pub is_no_sign : ℕ → Bool
is_no_sign byte = not (is_sign byte)
