pub mod ByteSets
pub mod Classes
pub mod WordsBack
