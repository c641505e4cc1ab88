-- What the loops of the subcommands keep true, what is returned if nothing is printed, and worked examples of command lines.
pub mod Standing
pub mod Heard
pub mod Serving
mod WorkedWords
