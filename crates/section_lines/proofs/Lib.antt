mod ReadingLemmas
pub mod RowsHaveBoxesLemmas
pub mod WithLinesLemmas
