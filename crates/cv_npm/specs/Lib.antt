pub mod Npm
