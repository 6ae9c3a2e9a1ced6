-- Went: a call as its contract tells it. Linked, Owned: the calls of the functions that hosts link. Steps: these and the calls of the public functions. Goes: that lists of them begin and go on. Rules: rules of 01 that the definitions have.
-- Demand: what is proved of them, in one type.
-- Charged: that a quote is what its loads pay, and that growth adds up. Worked: a run of loads and stores, worked out by hand.

pub mod Went
pub mod Linked
pub mod Owned
pub mod Steps
pub mod Goes
pub mod Rules
pub mod Demand
pub mod Worked
pub mod Charged
