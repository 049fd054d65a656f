pub mod Examples
pub mod GeneratedOrder
