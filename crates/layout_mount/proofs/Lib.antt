mod FindsFirstLemmas
mod ImagesLemmas
pub mod MountedLemmas
mod SameEntriesLemmas
