pub mod Kernels
pub mod Walks
