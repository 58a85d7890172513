pub mod BroadcastCustomEvent
pub mod Outputs
pub mod Laws
