-- a fade, frame by frame
pub mod FadeLemmas
-- setting the program, and forgetting a scene
pub mod SetLemmas
-- each change keeps the shape of the program
pub mod ShapeLemmas
-- the target that is told
pub mod ToldLemmas
