pub mod Replies
pub mod Obeyed
pub mod Sessions
pub mod Console
