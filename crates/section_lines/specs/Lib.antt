pub mod RowLaws
pub mod Script
pub mod SectionReading
