-- Whether a line is in order, by the marks.
use Rattle.std.proofs.Common.{◌≡◌, Bool, true, false, List, Option, refl, sym, ap, ◌∙◌}
use Rattle.std.specs.Prelude.{◌&&◌}
use Rattle.file_text.specs.declared.places.Section.{Section}
use Rattle.file_text.specs.declared.places.Section.TheVariants.{PtcLines, ReplicaLines, TableLines}
use Rattle.file_text.specs.Said.{Said}
use Rattle.file_text.specs.Causes.{needs, at_or_behind, IsInOrder}
use Rattle.file_laws.proofs.FitLemmas.{true_false}
use Rattle.file_laws.proofs.TestLemmas.{both, and_true}
use Rattle.line_checks.specs.declared.marks.Marks.{Marks}
use Rattle.line_checks.specs.MarksOf.{IsMarked, has_needed, has_what_it_needs, in_order}

met : (need there : Bool) → has_needed need there ≡ true → need ≡ true → there ≡ true
met true there e f = e
met false there e f = absurd cc

needed : (need there : Bool) → (need ≡ true → there ≡ true) → has_needed need there ≡ true
needed true there f = f refl
needed false there f = refl

pub is_in_order : (m : Marks) (before : List Said) (section : Section) → IsMarked m before → in_order section m ≡ true → IsInOrder before section
is_in_order m before section k e =
    let p = both (at_or_behind m.last section) (has_what_it_needs section m) e in
    let q = both (has_needed (needs section PtcLines) m.header) (has_needed (needs section ReplicaLines) m.replica_line && has_needed (needs section TableLines) m.table_line) p.1 in
    let r = both (has_needed (needs section ReplicaLines) m.replica_line) (has_needed (needs section TableLines) m.table_line) q.1 in
    record {
      not_back = ap (λ (o : Option Section). at_or_behind o section) (sym k.last) ∙ p.0;
      header = λ n. sym k.header ∙ met (needs section PtcLines) m.header q.0 n;
      replicas = λ n. sym k.replica_line ∙ met (needs section ReplicaLines) m.replica_line r.0 n;
      tables = λ n. sym k.table_line ∙ met (needs section TableLines) m.table_line r.1 n;
    }

ordered : (m : Marks) (before : List Said) (section : Section) → IsMarked m before → IsInOrder before section → in_order section m ≡ true
ordered m before section k i =
    and_true (at_or_behind m.last section) (has_what_it_needs section m)
    (ap (λ (o : Option Section). at_or_behind o section) k.last ∙ i.not_back)
    (and_true (has_needed (needs section PtcLines) m.header) (has_needed (needs section ReplicaLines) m.replica_line && has_needed (needs section TableLines) m.table_line)
    (needed (needs section PtcLines) m.header (λ n. k.header ∙ i.header n))
    (and_true (has_needed (needs section ReplicaLines) m.replica_line) (has_needed (needs section TableLines) m.table_line)
    (needed (needs section ReplicaLines) m.replica_line (λ n. k.replica_line ∙ i.replicas n))
    (needed (needs section TableLines) m.table_line (λ n. k.table_line ∙ i.tables n))))

pub out_of_order : (m : Marks) (before : List Said) (section : Section) → IsMarked m before → in_order section m ≡ false → IsInOrder before section → ⊥
out_of_order m before section k e i = true_false (in_order section m) (ordered m before section k i) e
