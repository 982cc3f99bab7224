pub mod Instances
