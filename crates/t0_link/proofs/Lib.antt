pub mod CommandAnswerLemmas
mod CourseLemmas
mod TpdusSentLemmas
mod worked
