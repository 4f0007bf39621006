mod OwnWords
mod WordByWord
mod Uses
mod Exact
