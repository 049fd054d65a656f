pub mod Floats
pub mod RefusalFloats
pub mod Requests
