pub mod Tops
pub mod Levels
pub mod Plugs
pub mod Closes
