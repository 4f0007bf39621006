mod Masks
mod Places
