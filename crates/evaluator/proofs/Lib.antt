mod Padding
mod Entries
mod Attaching
