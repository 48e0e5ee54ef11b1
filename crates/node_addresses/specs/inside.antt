pub mod NetworksRead
