-- What only the contracts of private functions name.
pub mod AtWork
pub mod Laws
