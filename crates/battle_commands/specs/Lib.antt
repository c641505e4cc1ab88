-- What each subcommand has to print and to return.
pub mod Calc
pub mod Asked
pub mod Faults
pub mod Served
pub mod CommandLine
