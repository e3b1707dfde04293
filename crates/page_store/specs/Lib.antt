pub mod Below
pub mod Blanks
pub mod Calls
pub mod Commits
pub mod Laws
pub mod Paged
pub mod Pages
pub mod Tables
