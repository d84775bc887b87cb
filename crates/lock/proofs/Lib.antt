-- Laws that rest on how the rules of SERVE and of a well-formed lock are defined: an edit of such a rule falls on these.
pub mod Paid
pub mod Falls
pub mod HeldKept
pub mod GoodKept
pub mod Occupants
pub mod LockKept
pub mod LockOk
pub mod Thrice
