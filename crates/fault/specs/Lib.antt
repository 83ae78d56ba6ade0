pub mod Numbers
pub mod Asked
pub mod Texts
