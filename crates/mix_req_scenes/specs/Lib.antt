pub mod GetSceneList
pub mod CreateScene
pub mod SetCurrentProgramScene
pub mod Scenes
pub mod Laws
