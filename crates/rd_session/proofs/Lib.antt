mod Banding
mod Leading
mod Reading
