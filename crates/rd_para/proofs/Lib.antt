mod Chars
mod Cuts
mod Walks
