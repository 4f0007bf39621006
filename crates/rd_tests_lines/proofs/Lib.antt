mod Ends
mod Owned
mod Rounds
mod Same
