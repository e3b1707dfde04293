pub mod AreReadLemmas
pub mod BehindLemmas
