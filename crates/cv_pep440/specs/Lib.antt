pub mod Bytes
pub mod Grammar
pub mod Key
pub mod Order
pub mod Parts
pub mod Words
pub mod code
