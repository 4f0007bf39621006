mod Characters
mod Steps
