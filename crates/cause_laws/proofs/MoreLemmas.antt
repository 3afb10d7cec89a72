-- What the lines before a line and that line give.
use Rattle.std.proofs.Common.{◌≡◌, Bool, true, false, List, [], ◌∷◌, ◌++◌, Option, Some, None, refl, ap, ◌∙◌, arith, append-nil}
use Rattle.std.specs.Prelude.{◌+◌, ◌||◌}
use Rattle.std.proofs.lemmas.Grind.{flat_map-append}
use Rattle.row_types.specs.declared.table_schema.Schema.{Schema}
use Rattle.file_text.specs.declared.places.Section.{Section}
use Rattle.file_text.specs.Said.{Said, section_of}
use Rattle.file_text.specs.Context.{schema_said, schemas_of, replicas_said, replicas_of, scheduled_said, scheduled_in, is_end, is_ended, later, section_at, same_section, is_there, said_opens, opened}
use Rattle.file_text.specs.Causes.{tables_said, tables_in}

abbrev pub newest : Option Section → Option Section → Option Section
newest None old = old
newest (Some section) old = Some section

later_newest : (first second third : Option Section) → later first (newest third second) ≡ newest third (later first second)
later_newest None second third = refl
later_newest (Some first) None None = refl
later_newest (Some first) None (Some third) = refl
later_newest (Some first) (Some second) None = refl
later_newest (Some first) (Some second) (Some third) = refl

later_none : (first : Option Section) → later first None ≡ first
later_none None = refl
later_none (Some first) = refl

pub section_more : (before : List Said) (said : Said) → section_at (before ++ said ∷ []) ≡ newest (section_of said) (section_at before)
section_more [] said = later_none (section_of said) ∙ by_section (section_of said)
  where
    by_section : (o : Option Section) → o ≡ newest o None
    by_section None = refl
    by_section (Some section) = refl
section_more (first ∷ before) said = ap (later (section_of first)) (section_more before said) ∙ later_newest (section_of first) (section_at before) (section_of said)

or_swap : (a b c : Bool) → (a || (b || c)) ≡ (b || (a || c))
or_swap true true c = refl
or_swap true false c = refl
or_swap false true c = refl
or_swap false false c = refl

pub there_more : (section : Section) (before : List Said) (said : Said) → is_there section (before ++ said ∷ []) ≡ (same_section section (section_of said) || is_there section before)
there_more section [] said = refl
there_more section (first ∷ before) said =
    ap (λ (b : Bool). same_section section (section_of first) || b) (there_more section before said)
    ∙ or_swap (same_section section (section_of first)) (same_section section (section_of said)) (is_there section before)

pub ended_more : (before : List Said) (said : Said) → is_ended (before ++ said ∷ []) ≡ (is_end said || is_ended before)
ended_more [] said = refl
ended_more (first ∷ before) said = ap (λ (b : Bool). is_end first || b) (ended_more before said) ∙ or_swap (is_end first) (is_end said) (is_ended before)

pub opened_more : (within : Bool) (before : List Said) (said : Said) → opened within (before ++ said ∷ []) ≡ said_opens (opened within before) said
opened_more within [] said = refl
opened_more within (first ∷ before) said = opened_more (said_opens within first) before said

pub replicas_more : (before : List Said) (said : Said) → replicas_of (before ++ said ∷ []) ≡ replicas_of before + replicas_said said
replicas_more [] said = omega arith
replicas_more (first ∷ before) said = let e = replicas_more before said in omega (arith, e)

pub tables_more : (before : List Said) (said : Said) → tables_in (before ++ said ∷ []) ≡ tables_in before + tables_said said
tables_more [] said = omega arith
tables_more (first ∷ before) said = let e = tables_more before said in omega (arith, e)

pub scheduled_more : (before : List Said) (said : Said) → scheduled_in (before ++ said ∷ []) ≡ scheduled_in before + scheduled_said said
scheduled_more [] said = omega arith
scheduled_more (first ∷ before) said = let e = scheduled_more before said in omega (arith, e)

pub schemas_more : (before : List Said) (said : Said) → schemas_of (before ++ said ∷ []) ≡ schemas_of before ++ schema_said said
schemas_more before said = flat_map-append schema_said before (said ∷ []) ∙ ap (λ (l : List Schema). schemas_of before ++ l) (append-nil (schema_said said))
