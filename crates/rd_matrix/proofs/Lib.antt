mod Below
pub mod HeldLemmas
pub mod Counting
pub mod EachRow
pub mod Passing
pub mod Covering
