-- The fields of requests on items that are whole numbers.
use Rattle.std.specs.Prelude.{ℕ, ℤ, pos, negsuc, List, codes, Result, Ok, Err, if◌then◌else◌}
use Rattle.mix_base.specs.Json.{Object}
use Rattle.mix_json.specs.Fields.{◌>>=◌, need_int, out_of_range}
use Rattle.mix_model.specs.Values.{is_between}

-- a number from one to another, ends included: 402 outside
abbrev pub natural_in : ℕ → ℕ → ℤ → Result ℕ ℕ
natural_in least most (pos n) = if is_between least most n then Ok n else Err out_of_range
natural_in least most (negsuc n) = Err out_of_range

-- 300 where it is missing, 401 where it is no whole number
abbrev pub natural_at : ℕ → ℕ → List ℕ → Object → Result ℕ ℕ
natural_at least most key fields = need_int key fields >>= natural_in least most

-- the id of an item
unfoldable pub item_id : Object → Result ℕ ℕ
item_id fields = natural_at 1 4294967295 (codes "sceneItemId") fields
