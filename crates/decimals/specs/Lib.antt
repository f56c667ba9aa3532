pub mod Numbers
pub mod Digits
pub mod Lists
