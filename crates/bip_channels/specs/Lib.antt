pub mod Channels
pub mod Commands
pub mod History
pub mod Kept
pub mod Reading
pub mod Replies
pub mod Rules
pub mod Traffic
