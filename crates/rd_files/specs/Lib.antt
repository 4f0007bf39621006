pub mod DataFiles
