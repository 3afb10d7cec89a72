-- How many parts a line has at most, and how long they are.
use Rattle.std.proofs.Common.{◌≡◌, ◌≤◌, ◌+◌, ◌-◌, ℕ, zero, suc, Bool, true, false, List, [], ◌∷◌, ◌++◌, map, length, take, refl, ap, arith}
use Rattle.std.specs.Prelude.{if◌then◌else◌, ◌==◌}
use Rattle.std.specs.List.{AllByRecursion}
use Rattle.std.proofs.lemmas.List.{length-append, length-map}
use Rattle.row_types.specs.Faults.{TextIsShort}
use Rattle.statement_tokens.specs.Spellings.{doubled, IsQuoted}
use Rattle.file_text.specs.Parts.{Part, is_sign, touches, joined, tokens_within, behind_token, front_to, row_parts_from, row_parts_of}
use Rattle.file_text.specs.Said.{Item, Literal, Number, Quoted, NullWord, value_of, literal_items, more_literals, literals_items, Spells}
use Rattle.line_parts.proofs.PartLemmas.{token_shorter}

-- no part is longer
abbrev PartsWithin : ℕ → List Part → Type 0
PartsWithin most parts = AllByRecursion (λ (part : Part). length part.text ≤ most) parts

within_more : (most more : ℕ) (parts : List Part) → most ≤ more → PartsWithin most parts → PartsWithin more parts
within_more most more [] h w = tt
within_more most more (part ∷ parts) h w = let l = w.0 in (omega (arith, h, l), within_more most more parts h w.1)

take_length : {A : Type 0} (n : ℕ) (xs : List A) → length (take n xs) ≤ length xs
take_length zero xs = omega arith
take_length (suc n) [] = omega arith
take_length (suc n) (x ∷ xs) = let h = take_length n xs in omega (arith, h)

tokens_short : (steps place : ℕ) (bytes : List ℕ) → PartsWithin (length bytes) (tokens_within steps place bytes)
tokens_short zero place bytes = tt
tokens_short (suc steps) place [] = tt
tokens_short (suc steps) place (byte ∷ bytes) =
    by_space (byte == 32)
    (within_more (length bytes) (suc (length bytes)) _ (omega arith) (tokens_short steps (suc place) bytes))
    (within_more (length (behind_token byte bytes)) (suc (length bytes)) _ (let h = token_shorter byte bytes in omega (arith, h)) (tokens_short steps (place + (suc (length bytes) - length (behind_token byte bytes))) (behind_token byte bytes)))
  where
    by_space : (b : Bool) → PartsWithin (suc (length bytes)) (tokens_within steps (suc place) bytes)
        → PartsWithin (suc (length bytes)) (tokens_within steps (place + (suc (length bytes) - length (behind_token byte bytes))) (behind_token byte bytes))
        → PartsWithin (suc (length bytes)) (if b then tokens_within steps (suc place) bytes else record { place = place; text = front_to (behind_token byte bytes) (byte ∷ bytes) } ∷ tokens_within steps (place + (suc (length bytes) - length (behind_token byte bytes))) (behind_token byte bytes))
    by_space true s t = s
    by_space false s t = (take_length (length (byte ∷ bytes) - length (behind_token byte bytes)) (byte ∷ bytes), t)

tokens_few : (steps place : ℕ) (bytes : List ℕ) → length (tokens_within steps place bytes) ≤ steps
tokens_few zero place bytes = omega arith
tokens_few (suc steps) place [] = omega arith
tokens_few (suc steps) place (byte ∷ bytes) = by_space (byte == 32) (tokens_few steps (suc place) bytes) (tokens_few steps (place + (suc (length bytes) - length (behind_token byte bytes))) (behind_token byte bytes))
  where
    by_space : (b : Bool) → length (tokens_within steps (suc place) bytes) ≤ steps
        → length (tokens_within steps (place + (suc (length bytes) - length (behind_token byte bytes))) (behind_token byte bytes)) ≤ steps
        → length (if b then tokens_within steps (suc place) bytes else record { place = place; text = front_to (behind_token byte bytes) (byte ∷ bytes) } ∷ tokens_within steps (place + (suc (length bytes) - length (behind_token byte bytes))) (behind_token byte bytes)) ≤ suc steps
    by_space true s t = omega (arith, s)
    by_space false s t = omega (arith, t)

joined_short : (most place byte : ℕ) (parts : List Part) → PartsWithin most parts → PartsWithin (suc most) (joined is_sign place byte parts)
joined_short most place byte [] w = (omega arith, tt)
joined_short most place byte (part ∷ parts) w = by_touch (touches is_sign place byte part)
  where
    by_touch : (b : Bool) → PartsWithin (suc most) (if b then record { place = place; text = byte ∷ part.text } ∷ parts else record { place = place; text = byte ∷ [] } ∷ part ∷ parts)
    by_touch true = let l = w.0 in (omega (arith, l), within_more most (suc most) parts (omega arith) w.1)
    by_touch false = (omega arith, within_more most (suc most) (part ∷ parts) (omega arith) w)

joined_few : (place byte : ℕ) (parts : List Part) → length (joined is_sign place byte parts) ≤ suc (length parts)
joined_few place byte [] = omega arith
joined_few place byte (part ∷ parts) = by_touch (touches is_sign place byte part)
  where
    by_touch : (b : Bool) → length (if b then record { place = place; text = byte ∷ part.text } ∷ parts else record { place = place; text = byte ∷ [] } ∷ part ∷ parts) ≤ suc (suc (length parts))
    by_touch true = omega arith
    by_touch false = omega arith

row_short : (place : ℕ) (bytes : List ℕ) → PartsWithin (length bytes) (row_parts_from place bytes)
row_short place [] = tt
row_short place (byte ∷ bytes) = by_space (byte == 32) (byte == 40) (row_short (suc place) bytes)
  where
    by_space : (b c : Bool) → PartsWithin (length bytes) (row_parts_from (suc place) bytes)
        → PartsWithin (suc (length bytes)) (if b then row_parts_from (suc place) bytes else if c then record { place = place; text = byte ∷ [] } ∷ tokens_within (length bytes) (suc place) bytes else joined is_sign place byte (row_parts_from (suc place) bytes))
    by_space true c h = within_more (length bytes) (suc (length bytes)) (row_parts_from (suc place) bytes) (omega arith) h
    by_space false true h = (omega arith, within_more (length bytes) (suc (length bytes)) (tokens_within (length bytes) (suc place) bytes) (omega arith) (tokens_short (length bytes) (suc place) bytes))
    by_space false false h = joined_short (length bytes) place byte (row_parts_from (suc place) bytes) h

row_few : (place : ℕ) (bytes : List ℕ) → length (row_parts_from place bytes) ≤ length bytes
row_few place [] = omega arith
row_few place (byte ∷ bytes) = by_space (byte == 32) (byte == 40) (row_few (suc place) bytes)
  where
    by_space : (b c : Bool) → length (row_parts_from (suc place) bytes) ≤ length bytes
        → length (if b then row_parts_from (suc place) bytes else if c then record { place = place; text = byte ∷ [] } ∷ tokens_within (length bytes) (suc place) bytes else joined is_sign place byte (row_parts_from (suc place) bytes)) ≤ suc (length bytes)
    by_space true c h = omega (arith, h)
    by_space false true h = let t = tokens_few (length bytes) (suc place) bytes in omega (arith, t)
    by_space false false h = let j = joined_few place byte (row_parts_from (suc place) bytes) in omega (arith, h, j)

-- ---- literals

spelled_length : (items : List Item) (parts : List Part) → Spells items parts → length items ≡ length parts
spelled_length [] [] s = refl
spelled_length [] (part ∷ parts) s = absurd s
spelled_length (item ∷ items) [] s = absurd s
spelled_length (item ∷ items) (part ∷ parts) s = ap suc (spelled_length items parts s.1)

literal_long : (literal : Literal) (more : List Item) → suc (length more) ≤ length (literal_items literal ++ more)
literal_long (Number true n) more = omega arith
literal_long (Number false n) more = omega arith
literal_long (Quoted text) more = omega arith
literal_long NullWord more = omega arith

more_long : (literals : List Literal) → length literals ≤ length (more_literals literals)
more_long [] = omega arith
more_long (literal ∷ literals) = let h = more_long literals in let l = literal_long literal (more_literals literals) in omega (arith, h, l)

all_long : (literals : List Literal) → length literals ≤ length (literals_items literals)
all_long [] = omega arith
all_long (literal ∷ literals) = let h = more_long literals in let l = literal_long literal (more_literals literals) in omega (arith, h, l)

doubled_long : (content : List ℕ) → length content ≤ length (doubled content)
doubled_long [] = omega arith
doubled_long (byte ∷ bytes) = by_quote (byte == 39) (doubled_long bytes)
  where
    by_quote : (b : Bool) → length bytes ≤ length (doubled bytes) → suc (length bytes) ≤ length (if b then 39 ∷ (39 ∷ doubled bytes) else byte ∷ doubled bytes)
    by_quote true h = omega (arith, h)
    by_quote false h = omega (arith, h)

text_short : (content text : List ℕ) (most : ℕ) → IsQuoted content text → length text ≤ most → length content ≤ most
text_short content text most q h =
    let l = doubled_long content in
    let e = ap length q.is in
    let a = length-append (doubled content) (39 ∷ []) in
    omega (arith, l, e, a, h)

-- what is left behind a literal
record Rest (more : List Item) : Type 0 where
  parts : List Part
  spelled : Spells more parts
  within : PartsWithin 65535 parts

rest_of : (more : List Item) (parts : List Part) → Spells more parts → PartsWithin 65535 parts → Rest more
rest_of more parts s w = record { parts = parts; spelled = s; within = w }

one_short : (literal : Literal) (more : List Item) (parts : List Part) → Spells (literal_items literal ++ more) parts → PartsWithin 65535 parts → TextIsShort (value_of literal) × Rest more
one_short (Number true n) more [] s w = absurd s
one_short (Number true n) more (part ∷ []) s w = absurd s.1
one_short (Number true n) more (part ∷ other ∷ parts) s w = (tt, rest_of more parts s.1.1 w.1.1)
one_short (Number false n) more [] s w = absurd s
one_short (Number false n) more (part ∷ parts) s w = (tt, rest_of more parts s.1 w.1)
one_short (Quoted text) more [] s w = absurd s
one_short (Quoted text) more (part ∷ parts) s w = (let h = text_short text part.text 65535 s.0 w.0 in omega (arith, h), rest_of more parts s.1 w.1)
one_short NullWord more [] s w = absurd s
one_short NullWord more (part ∷ parts) s w = (tt, rest_of more parts s.1 w.1)

further_short : (literals : List Literal) (parts : List Part) → Spells (more_literals literals) parts → PartsWithin 65535 parts → AllByRecursion TextIsShort (map value_of literals)
further_short [] parts s w = tt
further_short (literal ∷ literals) [] s w = absurd s
further_short (literal ∷ literals) (part ∷ parts) s w =
    let p = one_short literal (more_literals literals) parts s.1 w.1 in
    (p.0, further_short literals p.1.parts p.1.spelled p.1.within)

literals_short : (literals : List Literal) (parts : List Part) → Spells (literals_items literals) parts → PartsWithin 65535 parts → AllByRecursion TextIsShort (map value_of literals)
literals_short [] parts s w = tt
literals_short (literal ∷ literals) parts s w =
    let p = one_short literal (more_literals literals) parts s w in
    (p.0, further_short literals p.1.parts p.1.spelled p.1.within)

-- behind the first four items of a ROW line
pub row_texts : (first second third fourth : Item) (literals : List Literal) (line : List ℕ) → length line ≤ 65535 → Spells (first ∷ second ∷ third ∷ fourth ∷ literals_items literals) (row_parts_of line)
    → AllByRecursion TextIsShort (map value_of literals)
row_texts first second third fourth literals line short s = cut (row_parts_of line) s (within_more (length line) 65535 (row_parts_of line) short (row_short 1 line))
  where
    cut : (parts : List Part) → Spells (first ∷ second ∷ third ∷ fourth ∷ literals_items literals) parts → PartsWithin 65535 parts → AllByRecursion TextIsShort (map value_of literals)
    cut [] s w = absurd s
    cut (a ∷ []) s w = absurd s.1
    cut (a ∷ b ∷ []) s w = absurd s.1.1
    cut (a ∷ b ∷ c ∷ []) s w = absurd s.1.1.1
    cut (a ∷ b ∷ c ∷ d ∷ parts) s w = literals_short literals parts s.1.1.1.1 w.1.1.1.1

pub row_values : (first second third fourth : Item) (literals : List Literal) (line : List ℕ) → length line ≤ 65535 → Spells (first ∷ second ∷ third ∷ fourth ∷ literals_items literals) (row_parts_of line)
    → length (map value_of literals) ≤ 65535
row_values first second third fourth literals line short s =
    let e = spelled_length (first ∷ second ∷ third ∷ fourth ∷ literals_items literals) (row_parts_of line) s in
    let f = row_few 1 line in
    let l = all_long literals in
    let m = length-map literals value_of in
    omega (arith, short, e, f, l, m)
