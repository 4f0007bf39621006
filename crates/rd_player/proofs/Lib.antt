mod Acting
mod Ending
mod Making
mod Opening
mod Reading
mod Running
mod Taking
