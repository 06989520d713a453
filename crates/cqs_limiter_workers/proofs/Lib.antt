pub mod OnWay
pub mod Dealt
pub mod Gathered
pub mod Handed
pub mod HandedBack
