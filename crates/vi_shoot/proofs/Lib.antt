pub mod Firsts
pub mod Numbers
pub mod Oldest
pub mod Spans
