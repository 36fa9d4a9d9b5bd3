pub mod Retention
