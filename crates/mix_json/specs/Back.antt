-- That a value comes back: what is written for it stands for its data, and the data for the value.
use Rattle.std.specs.Prelude.{◌≡◌, Some, false}
use Rattle.serde_json.specs.Read.{of_json}
use Rattle.serde_json.specs.Written.{outline}
use Rattle.mix_base.specs.Json.{has_frac}
use Rattle.mix_base.specs.declared.json.Json.{Json}
use Rattle.mix_json.specs.Reading.{of_data}
use Rattle.mix_json.specs.Writing.{data_of}

pub record ComesBack (value : Json) : Type 0 where
  pub reads : of_json (outline (data_of value)) ≡ Some (data_of value)
  pub same : has_frac value ≡ false → of_data (data_of value) ≡ value
