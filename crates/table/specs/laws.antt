pub mod First
pub mod Occurs
pub mod Ok
pub mod Order
pub mod Parts
pub mod Table
