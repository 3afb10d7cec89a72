mod ListLemmas
mod SoundLemmas
mod WholeLemmas
mod DeclareLemmas
mod GiveLemmas
mod FileLemmas
