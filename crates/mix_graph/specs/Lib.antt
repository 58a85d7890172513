pub use Rattle.mix_shape.specs.Refused
pub use Rattle.mix_shape.specs.Created
