pub mod Rules
pub mod Lexers
pub mod Tokens
pub mod Iteration
