-- The rows of a span, and the checksum of rows.
use Rattle.std.specs.Prelude.{ℕ, ◌+◌, List, [], ◌∷◌, length, take, replicate, bit_xor}
use Rattle.md5.specs.Md5.{md5}
use Rattle.sha1.specs.Sha1.{sha1}
use Rattle.hex.specs.Hex.{encode_lower}
use Rattle.row_types.specs.declared.digests.DigestKind.{DigestKind}
use Rattle.row_types.specs.declared.digests.DigestKind.TheVariants.{Md5, Sha1}
use Rattle.row_types.specs.declared.digests.Digest.{Digest}
use Rattle.row_types.specs.declared.edges.Span.{Span}
use Rattle.row_types.specs.declared.table_schema.Schema.{Schema}
use Rattle.row_types.specs.KeyRows.{Row, Rows, rows_in as rows_of_span}
use Rattle.row_digest.specs.Encoding.{encoded}

-- the rows whose key lies in the span
abbrev pub rows_in : Schema → Span → Rows → Rows
rows_in schema = rows_of_span schema.key_len

-- the digest of a row: 16 bytes of MD5, or 20 of SHA-1
abbrev pub row_digest : DigestKind → Row → List ℕ
row_digest Md5 row = md5 (encoded row)
row_digest Sha1 row = sha1 (encoded row)

-- the bytes xs, the first of them combined with hs by XOR
abbrev pub xored : List ℕ → List ℕ → List ℕ
xored xs [] = xs
xored [] (h ∷ hs) = []
xored (x ∷ xs) (h ∷ hs) = bit_xor x h ∷ xored xs hs

-- a checksum with one more row: counted, and its digest combined in by XOR
abbrev pub added : DigestKind → Row → Digest → Digest
added kind row digest = record { count = digest.count + 1; xor = xored digest.xor (row_digest kind row) }

-- a checksum with more rows, one after the other
abbrev pub added_rows : DigestKind → Rows → Digest → Digest
added_rows kind [] digest = digest
added_rows kind (row ∷ rows) digest = added_rows kind rows (added kind row digest)

-- the checksum of no rows
abbrev pub no_rows : Digest
no_rows = record { count = 0; xor = replicate 20 0 }

-- the checksum of rows: how many, and the XOR of their digests in 20 bytes
abbrev pub digest_of : DigestKind → Rows → Digest
digest_of kind rows = added_rows kind rows no_rows

-- the XOR in lower-case hexadecimal digits, two a byte of the digest
abbrev pub crc_text : DigestKind → Digest → List ℕ
crc_text Md5 digest = encode_lower (take 16 digest.xor)
crc_text Sha1 digest = encode_lower digest.xor
