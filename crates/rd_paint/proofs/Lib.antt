mod Cursor
mod Leaves
mod Panes
mod Starts
mod OneByOne
mod Whole
