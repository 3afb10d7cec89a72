pub mod Clients
pub mod InOrder
pub mod OwnCalls
pub mod Sound
pub mod Sources
pub mod Replicas
