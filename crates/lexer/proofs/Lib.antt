mod Anchored
mod Building
mod Choosing
mod Meant
mod Tracing
