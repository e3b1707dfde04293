pub mod Model
pub mod OptionForms
