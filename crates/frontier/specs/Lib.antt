pub mod Orders
pub mod Indexes
pub mod Offers
pub mod Hops
pub mod Progress
pub mod OrdersLemmas
pub mod Records
