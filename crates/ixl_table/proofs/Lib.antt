pub mod Lists
pub mod Made
pub mod LockLaws
pub mod FirstLaws
