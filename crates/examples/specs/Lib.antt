pub mod Finding
pub mod Finders
pub mod Tokens
pub mod Rules
pub mod Steps
