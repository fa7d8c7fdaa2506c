pub mod LookBehind
