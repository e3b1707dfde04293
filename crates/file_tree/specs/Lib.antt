pub mod Lending
pub mod Tables
