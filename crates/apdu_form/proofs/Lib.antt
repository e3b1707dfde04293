pub mod CommandInLemmas
mod DataFieldLemmas
