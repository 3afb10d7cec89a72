pub mod Courses
pub mod Cover
pub mod Deeds
pub mod Told
pub mod Standing
