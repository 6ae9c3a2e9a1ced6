-- Meet: what is known of the calls. Quotes: a quote is what its loads pay. Charges: growth adds up over every run of loads and stores.
pub mod Meet
pub mod Quotes
pub mod Charges
