pub mod FirstHeld
pub mod Why
