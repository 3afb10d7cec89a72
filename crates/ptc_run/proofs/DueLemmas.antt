-- What is due, from what was read.
use Rattle.std.proofs.Common.{◌≡◌, ℕ, ◌+◌, ◌<◌, ◌≤◌, inl, inr, List, length, take, refl, ap, sym, ◌∙◌, subst, arith, Option, Some, None, Result, Ok}
use Rattle.std.specs.Prelude.{IfSome, cond, true, false, nat_lt}
use Rattle.std.specs.List.{list_any}
use Rattle.std.proofs.lemmas.List.{length-take, take_all, drop_all}
use Rattle.std.proofs.lemmas.Bool.{ltb-true, ltb-false}
use Rattle.ptc_io.specs.Bytes.{TakesUpTo, IsAtEnd}
use Rattle.workload_file.specs.declared.workload.Workload.{Workload}
use Rattle.workload_file.specs.Workload.{IsWorkload}
use Rattle.cluster_core.specs.World.{WorldView}
use Rattle.cluster_core.specs.Summary.{differs, verdicts_of, status_of}
use Rattle.cluster_laws.proofs.HeadlineLemmas.{each_run}
use Rattle.ptc_run.specs.declared.words.WordFault.{WordFault}
use Rattle.ptc_run.specs.FirstForm.{IsWorkloadText}
use Rattle.ptc_run.specs.Due.{FileDue, DueAfter, Due, Reports, AreTaken, IsWritten, IsReported, WasReadOut}
use Rattle.ptc_run.proofs.FormLemmas.{early_excludes}

-- the report of a file's workload is due
pub run_is_due : (bytes : List ℕ) (workload : Workload) (code : ℕ) (text : List ℕ)
    → IsWorkloadText bytes workload → IsWorkload workload → length bytes ≤ 16777216 → Reports workload code text → FileDue bytes code text
run_is_due bytes workload code text file is within reports = inr (inr (record {
  within = within;
  workload = workload;
  file = file;
  last = reports.last;
  run = reports.run;
  holds = each_run workload reports.last is reports.run;
  status = reports.status;
  report = reports.report;
}))

-- what is due for the front that was read is due for the whole
front_is_all : (all bytes : List ℕ) → bytes ≡ take (16777216 + 1) all → length bytes ≤ 16777216 → bytes ≡ all
front_is_all all bytes is within =
    let few : length all ≤ 16777216 + 1 = omega (arith, ap length is, length-take (16777216 + 1) all) in
    is ∙ take_all (16777216 + 1) all few

front_due : (all bytes : List ℕ) (code : ℕ) (text : List ℕ) → bytes ≡ take (16777216 + 1) all → FileDue bytes code text → FileDue all code text
front_due all bytes code text is due = elim due [
  | inl over ↦ inl (record { over = omega (arith, over.over, ap length is, length-take (16777216 + 1) all); refused = over.refused; line = over.line })
  | inr file ↦ elim file [
    | inl early ↦ subst (λ (bs : List ℕ). FileDue bs code text) (front_is_all all bytes is early.within) (inr (inl early))
    | inr run ↦ subst (λ (bs : List ℕ). FileDue bs code text) (front_is_all all bytes is run.within) (inr (inr run))
  ]
]

-- the same for a source that may not tell its bytes
pub read_due : (old new : Option (List ℕ)) (bytes : List ℕ) (code : ℕ) (text : List ℕ)
    → TakesUpTo (16777216 + 1) old new bytes → FileDue bytes code text → IfSome old (λ bs. FileDue bs code text)
read_due None new bytes code text read due = tt
read_due (Some all) new bytes code text read due = front_due all bytes code text read.taken due

reported_within : (bytes : List ℕ) (code : ℕ) (text : List ℕ) → FileDue bytes code text → IsReported code → length bytes ≤ 16777216
reported_within bytes code text due reported = elim due [
  | inl over ↦ absurd (elim reported [ inl zero ↦ omega (arith, over.refused, zero) | inr sixteen ↦ omega (arith, over.refused, sixteen) ])
  | inr file ↦ elim file [ inl early ↦ early.within | inr run ↦ run.within ]
]

-- a report is due only for an input that was read to its end
pub reported_end : (old new : Option (List ℕ)) (bytes : List ℕ) (code : ℕ) (text : List ℕ)
    → TakesUpTo (16777216 + 1) old new bytes → FileDue bytes code text → IsReported code → IsAtEnd new
reported_end None new bytes code text read due reported = subst IsAtEnd (sym read.rest) tt
reported_end (Some all) new bytes code text read due reported =
    let same : bytes ≡ all = front_is_all all bytes read.taken (reported_within bytes code text due reported) in
    let within : length all ≤ 16777216 = omega (arith, reported_within bytes code text due reported, ap length same) in
    subst IsAtEnd (sym read.rest) (drop_all (16777216 + 1) all (omega arith))

not_one : (last : WorldView) (code : ℕ) → code ≡ status_of last → code ≡ 1 → ⊥
not_one last code is one =
    elim (list_any differs (verdicts_of last)) as (λ b. code ≡ cond b 16 0 → ⊥)
    [ true ↦ λ sixteen. omega arith | false ↦ λ zero. omega arith ] is

-- no refusal is due for a good file
file_reported : (bytes : List ℕ) (workload : Workload) (code : ℕ) (text : List ℕ)
    → FileDue bytes code text → length bytes ≤ 16777216 → IsWorkloadText bytes workload → IsWritten code → IsReported code
file_reported bytes workload code text due within file written = elim due [
  | inl over ↦ absurd (omega (arith, over.over))
  | inr rest ↦ elim rest [
    | inl early ↦ absurd (early_excludes bytes early.number workload early.early file)
    | inr run ↦ elim written [
      | inl zero ↦ inl zero
      | inr other ↦ elim other [ inl sixteen ↦ inr sixteen | inr one ↦ absurd (not_one run.last code run.status one) ]
    ]
  ]
]

pub due_reported : (words : List (List ℕ)) (left : Option (List ℕ)) (bytes : List ℕ) (workload : Workload) (code : ℕ) (text : List ℕ)
    → AreTaken words → left ≡ Some bytes → Due words left code text
    → length bytes ≤ 16777216 → IsWorkloadText bytes workload → IsWritten code → IsReported code
due_reported words left bytes workload code text taken told due within file written =
    let first : DueAfter (Ok tt) words left code text = subst (λ (r : Result (Unit {0}) WordFault). DueAfter r words left code text) taken due in
    let known : FileDue bytes code text = subst (λ (o : Option (List ℕ)). IfSome o (λ bs. FileDue bs code text)) told first in
    file_reported bytes workload code text known within file written

-- what is not over the limit is within it
pub not_over : (n : ℕ) → (16777216 < n → ⊥) → n ≤ 16777216
not_over n never = elim (nat_lt 16777216 n) as (λ b. nat_lt 16777216 n ≡ b → n ≤ 16777216)
    [ true ↦ λ is. absurd (never (ltb-true 16777216 n is)) | false ↦ λ is. ltb-false 16777216 n is ] refl

-- what was read up to the limit is the whole input, or shows that it is too long
pub read_out : (old new : Option (List ℕ)) (bytes : List ℕ) → TakesUpTo (16777216 + 1) old new bytes → WasReadOut old new
read_out None new bytes read = inl (subst IsAtEnd (sym read.rest) tt)
read_out (Some all) new bytes read = elim (nat_lt 16777216 (length all)) as (λ b. nat_lt 16777216 (length all) ≡ b → WasReadOut (Some all) new) [
  | true ↦ λ is. inr (ltb-true 16777216 (length all) is)
  | false ↦ λ is. let within : length all ≤ 16777216 = ltb-false 16777216 (length all) is in
      inl (subst IsAtEnd (sym read.rest) (drop_all (16777216 + 1) all (omega (arith, within))))
] refl
