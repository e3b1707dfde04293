pub mod CountLaws
pub mod CountedLines
pub mod Counts
pub mod FixedRows
pub mod LoadLines
pub mod Rows
pub mod Walks
