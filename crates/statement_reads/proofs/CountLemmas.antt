-- Tables that can be counted.
use Rattle.std.proofs.Common.{◌≡◌, zero, suc, ℕ, Bool, true, false, List, [], ◌∷◌, Some, refl, subst, length}
use Rattle.std.specs.Prelude.{◌<◌, ◌^◌, ◌&&◌, IsTrue, nat_lt}
use Rattle.std.specs.List.{slice_get}
use Rattle.std.proofs.lemmas.Bool.{ltb-true}
use Rattle.row_types.specs.declared.table_schema.Schema.{Schema}
use Rattle.statement_draft_tokens.specs.Tokens.{AreShort}
use Rattle.statement_reads.specs.Reads.{columns_fit, are_countable}

and_left : (a b : Bool) → (a && b) ≡ true → a ≡ true
and_left true b e = refl
and_left false b e = e

and_right : (a b : Bool) → (a && b) ≡ true → b ≡ true
and_right true b e = e
and_right false b e = cc

some_is : (x y : Schema) → Some x ≡ Some y → x ≡ y
some_is x y e = cc

columns_short : (schemas : List Schema) → columns_fit schemas ≡ true → (n : ℕ) (schema : Schema) → slice_get schemas n ≡ Some schema → length schema.columns < 2 ^ 32
columns_short [] fit n schema e = cc
columns_short (s ∷ schemas) fit zero schema e = subst (λ (x : Schema). length x.columns < 2 ^ 32) (some_is s schema e) (ltb-true (length s.columns) 4294967296 (and_left (nat_lt (length s.columns) 4294967296) (columns_fit schemas) fit))
columns_short (s ∷ schemas) fit (suc n) schema e = columns_short schemas (and_right (nat_lt (length s.columns) 4294967296) (columns_fit schemas) fit) n schema e

pub tables_short : (schemas : List Schema) → IsTrue (are_countable schemas) → length schemas < 2 ^ 32
tables_short schemas h = ltb-true (length schemas) 4294967296 (and_left (nat_lt (length schemas) 4294967296) (columns_fit schemas) h)

pub all_short : (schemas : List Schema) → IsTrue (are_countable schemas) → AreShort schemas
all_short schemas h = record { short = columns_short schemas (and_right (nat_lt (length schemas) 4294967296) (columns_fit schemas) h) }
