-- The workload that the contents of a file are.
use Rattle.std.specs.Prelude.{◌≡◌, ℕ, List, map}
use Rattle.file_text.specs.File.{Contents, IsFile}
use Rattle.workload.specs.declared.workloads.Workload.{Workload}
use Rattle.workload.specs.Played.{item_of}

pub record Gives (contents : Contents) (workload : Workload) : Type 0 where
  pub schemas : workload.schemas.tables ≡ contents.schemas
  pub replicas : workload.replicas ≡ contents.replicas
  pub source : workload.source ≡ contents.source
  pub copies : workload.copies ≡ contents.copies
  pub sessions : workload.sessions ≡ contents.sessions
  pub locals : workload.locals ≡ contents.locals
  pub schedule : workload.schedule ≡ map item_of contents.schedule

-- the bytes are the file of this workload
pub record IsWorkload (bytes : List ℕ) (workload : Workload) : Type 0 where
  pub contents : Contents
  pub file : IsFile bytes contents
  pub gives : Gives contents workload
