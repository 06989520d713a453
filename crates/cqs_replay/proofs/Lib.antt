mod Permits
pub mod HeadLines
pub mod Unique
