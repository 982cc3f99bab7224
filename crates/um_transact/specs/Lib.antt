pub mod Walk
pub mod Situation
pub mod Order
pub mod Checks
pub mod Scene
pub mod Transaction
