pub mod Free
pub mod InForm
mod GeneratedLines
mod Items
mod Json
mod OnLines
mod PlainTexts
mod Taking
mod Texts
