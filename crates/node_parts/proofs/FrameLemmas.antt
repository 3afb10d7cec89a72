-- What stays of a node in most calls.
use Rattle.std.proofs.Common.{◌≡◌, ◌∙◌, ap, sym}
use Rattle.history.specs.Replay.{fold, applied_of}
use Rattle.node_parts.specs.declared.parts.Parts.{Parts}
use Rattle.node_parts.specs.Kept.{node_view, PartsKept}

-- what stays in each call but a commit
pub record IsFrame (old new : Parts) : Type 0 where
  pub schemas : new.schemas.tables ≡ old.schemas.tables
  pub start : new.start ≡ old.start
  pub history : new.history.entries ≡ old.history.entries
  pub checks : new.checks ≡ old.checks
  pub applied : new.applied ≡ old.applied

pub frame_checks : (old new : Parts) → IsFrame old new → PartsKept old → (fold new.schemas.tables new.start new.history.entries).checks ≡ new.checks
frame_checks old new frame kept =
    (λ i. (fold (frame.schemas i) (frame.start i) (frame.history i)).checks) ∙ kept.checks ∙ sym frame.checks

pub frame_applied : (old new : Parts) → IsFrame old new → PartsKept old → applied_of new.history.entries ≡ new.applied
frame_applied old new frame kept = ap applied_of frame.history ∙ kept.applied ∙ sym frame.applied

pub room_view : (old new : Parts) → IsFrame old new → new.txns ≡ old.txns → new.locks.held ≡ old.locks.held → node_view new ≡ node_view old
room_view old new frame txns held = λ i. record { schemas = frame.schemas i; start = frame.start i; history = frame.history i; txns = txns i; held = held i }
