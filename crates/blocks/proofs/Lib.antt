pub mod Answered
pub mod Converse
pub mod Cut
pub mod Nine
pub mod Said
pub mod Texts
pub mod Advances
