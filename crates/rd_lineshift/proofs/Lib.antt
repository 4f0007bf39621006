mod Counting
mod Keeping
mod Least
mod Moving
mod Pricing
mod Reaching
mod Sameness
mod Sending
