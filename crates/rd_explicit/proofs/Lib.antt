mod Chains
mod Groups
mod Joining
mod Nesting
mod Stacks
mod Steps
