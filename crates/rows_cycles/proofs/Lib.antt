pub mod Cycles
pub mod Tables
pub mod TableRuns
pub mod Fitting
mod Turns
mod Courses
mod Begins
