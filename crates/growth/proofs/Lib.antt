-- Carried: what a load or a store that is carried out leaves of its frame. Quotes, Charges: the two claims, of every relation whose loads and stores
-- meet their contracts.
pub mod Carried
pub mod Quotes
pub mod Charges
