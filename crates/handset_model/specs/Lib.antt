pub mod Ending
pub mod History
pub mod Legal
pub mod Rules
pub mod Sending
pub mod Timers
