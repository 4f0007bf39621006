mod Closings
mod Spans
mod Stacks
mod Steps
