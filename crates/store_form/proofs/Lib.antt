pub mod HasCauseLemmas
mod SpanLemmas
pub mod SparedLemmas
