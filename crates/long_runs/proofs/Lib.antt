mod AreDescribedLemmas
pub mod CountLemmas
mod CountsWithLemmas
mod HexDigitValueLemmas
mod IsOneLineLemmas
mod IsWholeLineLemmas
mod LoadLinesLemmas
mod ToldTextLemmas
mod WalkLemmas
